-- Steps of a reader from line to line.
use Rattle.std.proofs.Common.{◌≡◌, ℕ, ◌+◌, Bool, true, false, List, ◌∷◌, drop, length, get_or, map, ◌<◌, Option, Some, None, Result, Ok, Err, refl, sym, ap, subst, ◌∙◌}
use Rattle.std.specs.Prelude.{⊤}
use Rattle.std.specs.Global.{Vec}
use Rattle.std.proofs.lemmas.List.{drop_more, drop-map}
use Rattle.flow_parse.specs.declared.form.Form.{Form}
use Rattle.flow_parse.specs.declared.form.Form.TheVariants.{Header, Process, Connection, Initial, Subnet, End, InPort, OutPort}
use Rattle.flow_parse.specs.declared.fault.Reason.{Reason}
use Rattle.flow_parse.specs.declared.fault.Reason.TheVariants as reasons
use Rattle.flow_parse.specs.declared.fault.NetFault.{NetFault}
use Rattle.flow_parse.specs.declared.fault.ParseStop.{ParseStop}
use Rattle.flow_parse.specs.declared.fault.ParseStop.TheVariants as stops
use Rattle.flow_parse.specs.declared.stop.LineStop.{LineStop}
use Rattle.flow_parse.specs.declared.stop.LineStop.TheVariants as line_stops
use Rattle.flow_parse.specs.declared.value.NetText.{NetText}
use Rattle.flow_parse.specs.declared.reader.Reader.{Reader}
use Rattle.flow_parse.specs.Files.{Parts, nothing, Said, remark, says, wrong, LineIs, Tells, version_of, after, with_line, LeadsTo}
use Rattle.flow_parse.specs.Reader.{Stands, Takes, Heeds, Gives, StopsAs, Reads, version_in}

-- A reader reads by the version of what it stands for.
by_version : (reader : Reader) (line : List ℕ) (said : Said) → LineIs reader.version line said → (before : Option Parts) → Stands reader before → LineIs (version_of before) line said
by_version reader line said is None stands = subst (λ (v : ℕ). LineIs v line said) stands.1.version is
by_version reader line said is (Some parts) stands = subst (λ (v : ℕ). LineIs v line said) stands.version is

-- a line that is wrong by itself, under what stands before it
wrong_line : (old new : Reader) (n : ℕ) (line : List ℕ) (reason : Reason) (headed : Bool) (result : ParseStop) → old.headed ≡ headed → LineIs old.version line (wrong reason)
    → (headed ≡ true → result ≡ stops.Fault (record { line = n; reason = reason })) → (headed ≡ false → result ≡ stops.Fault (record { line = n; reason = reasons.Header }))
    → Reads old n line new (Err result)
wrong_line old new n line reason true result e is if_headed otherwise = subst (λ (r : ParseStop). Reads old n line new (Err r)) (sym (if_headed refl)) (of_headed) where
  of_headed : Reads old n line new (Err (stops.Fault (record { line = n; reason = reason })))
  of_headed None stands = absurd (cc (stands.0, e))
  of_headed (Some parts) stands = (wrong reason, by_version old line (wrong reason) is (Some parts) stands, refl)
wrong_line old new n line reason false result e is if_headed otherwise = subst (λ (r : ParseStop). Reads old n line new (Err r)) (sym (otherwise refl)) (of_unheaded) where
  of_unheaded : Reads old n line new (Err (stops.Fault (record { line = n; reason = reasons.Header })))
  of_unheaded None stands = (wrong reason, by_version old line (wrong reason) is None stands, refl)
  of_unheaded (Some parts) stands = absurd (cc (stands.headed, e))

-- A line that isn't a row stops the reading with its fault.
pub stopped_line : (old new : Reader) (n : ℕ) (line : List ℕ) (stop : LineStop) (headed : Bool) (result : ParseStop) → old.headed ≡ headed → Tells old.version line (Err stop) → StopsAs headed n stop result → Reads old n line new (Err result)
stopped_line old new n line line_stops.NoMemory headed result e is gives = subst (λ (r : ParseStop). Reads old n line new (Err r)) (sym gives) tt
stopped_line old new n line line_stops.Byte true result e is gives = wrong_line old new n line reasons.Byte true result e is (λ _. gives) (λ h. absurd cc)
stopped_line old new n line line_stops.Byte false result e is gives = wrong_line old new n line reasons.Byte false result e is (λ h. absurd cc) (λ _. gives)
stopped_line old new n line line_stops.Quote true result e is gives = wrong_line old new n line reasons.Quote true result e is (λ _. gives) (λ h. absurd cc)
stopped_line old new n line line_stops.Quote false result e is gives = wrong_line old new n line reasons.Quote false result e is (λ h. absurd cc) (λ _. gives)
stopped_line old new n line line_stops.Form true result e is gives = wrong_line old new n line reasons.Form true result e is (λ _. gives) (λ h. absurd cc)
stopped_line old new n line line_stops.Form false result e is gives = wrong_line old new n line reasons.Form false result e is (λ h. absurd cc) (λ _. gives)

-- A line that says something is read as heeding what it says.
pub said_line : (old new : Reader) (n : ℕ) (line : List ℕ) (form : Form) (result : Result (Unit {0}) ParseStop) → LineIs old.version line (says form) → Heeds old n form new result → Reads old n line new result
said_line old new n line form (Ok u) is heeds = λ before stands. let h = heeds before stands in (says form, h.0, by_version old line (says form) is before stands, h.1, h.2)
said_line old new n line form (Err (stops.Fault fault)) is heeds = λ before stands. (says form, by_version old line (says form) is before stands, heeds before stands)
said_line old new n line form (Err stops.NoMemory) is heeds = tt

pub remark_line : (reader : Reader) (n : ℕ) (line : List ℕ) → LineIs reader.version line remark → Reads reader n line reader (Ok tt)
remark_line reader n line is = λ before stands. (remark, before, by_version reader line remark is before stands, refl, stands)

-- what says form, behind the header
pub taken : (old new : Reader) (n : ℕ) (form : Form) (result : Result (Unit {0}) ParseStop) → old.headed ≡ true → Takes (λ _. ⊤) old n form new result → Heeds old n form new result
taken old new n form (Ok u) headed takes = of_ok where
  of_ok : Heeds old n form new (Ok u)
  of_ok None stands = absurd (cc (stands.0, headed))
  of_ok (Some parts) stands = let t = takes parts stands tt in (Some (with_line parts n form), rw t.0 refl, t.1)
taken old new n form (Err (stops.Fault fault)) headed takes = of_fault where
  of_fault : Heeds old n form new (Err (stops.Fault fault))
  of_fault None stands = absurd (cc (stands.0, headed))
  of_fault (Some parts) stands = rw (takes parts stands tt) refl
taken old new n form (Err stops.NoMemory) headed takes = tt

after_none : (n : ℕ) (form : Form) → version_in form ≡ None → after n None (says form) ≡ Err (record { line = n; reason = reasons.Header })
after_none n (Header version) e = absurd cc
after_none n (Process name kind) e = refl
after_none n (Connection from out capacity into to) e = refl
after_none n (Initial text into to) e = refl
after_none n (Subnet name) e = refl
after_none n End e = refl
after_none n (InPort outer into to) e = refl
after_none n (OutPort from out outer) e = refl

-- Before the header anything else is the fault of a missing header.
pub no_header : (old : Reader) (n : ℕ) (form : Form) → old.headed ≡ false → version_in form ≡ None → Heeds old n form old (Err (stops.Fault (record { line = n; reason = reasons.Header })))
no_header old n form unheaded e = of_before where
  of_before : Heeds old n form old (Err (stops.Fault (record { line = n; reason = reasons.Header })))
  of_before None stands = after_none n form e
  of_before (Some parts) stands = absurd (cc (stands.headed, unheaded))

after_header : (n version : ℕ) (form : Form) → version_in form ≡ Some version → after n None (says form) ≡ Ok (Some (nothing version))
after_header n version (Header said) e = let same : said ≡ version = cc in ap (λ (v : ℕ). Ok (Some (nothing v))) same
after_header n version (Process name kind) e = absurd cc
after_header n version (Connection from out capacity into to) e = absurd cc
after_header n version (Initial text into to) e = absurd cc
after_header n version (Subnet name) e = absurd cc
after_header n version End e = absurd cc
after_header n version (InPort outer into to) e = absurd cc
after_header n version (OutPort from out outer) e = absurd cc

-- The header is heeded by noting that it was there, and its version.
pub the_header : (old : Reader) (n version : ℕ) (form : Form) → old.headed ≡ false → version_in form ≡ Some version → Heeds old n form (record old { headed = true; version = version }) (Ok tt)
the_header old n version form unheaded e = of_before where
  of_before : Heeds old n form (record old { headed = true; version = version }) (Ok tt)
  of_before None stands = (
    Some (nothing version),
    after_header n version form e,
    record { headed = refl; version = refl; main = stands.1.main; subnets = stands.1.subnets; open_part = stands.1.open_part; count = stands.1.count; within = stands.1.within },
  )
  of_before (Some parts) stands = absurd (cc (stands.headed, unheaded))

-- the reader has come to the line number i + 1 of these
abbrev pub ComesTo : Reader → ℕ → List (List ℕ) → Type 0
ComesTo reader i lines = (before : Option Parts) × Stands reader before × ((outcome : Result NetText NetFault) → LeadsTo (i + 1) before (drop i lines) outcome → LeadsTo 1 None lines outcome)

-- A line that was read is behind the reader, and what the lines come to is what the rest comes to.
pub one_line_on : (old new : Reader) (i : ℕ) (line : List ℕ) (lines : List (List ℕ)) → drop i lines ≡ line ∷ drop (i + 1) lines → Reads old (i + 1) line new (Ok tt) → ComesTo old i lines → ComesTo new (i + 1) lines
one_line_on old new i line lines cut reads there =
    let r = reads there.0 there.1 in
    (r.1, r.4, λ outcome rest. there.2 outcome (subst (λ (l : List (List ℕ)). LeadsTo (i + 1) there.0 l outcome) (sym cut) (r.0, r.2, rw r.3 rest)))

-- A line that stops the reading is where the whole stops.
pub stops_at : (old new : Reader) (i : ℕ) (line : List ℕ) (lines : List (List ℕ)) (stop : ParseStop) → drop i lines ≡ line ∷ drop (i + 1) lines → Reads old (i + 1) line new (Err stop) → ComesTo old i lines
    → Gives (Err stop) (λ outcome. LeadsTo 1 None lines outcome)
stops_at old new i line lines (stops.Fault fault) cut reads there =
    let r = reads there.0 there.1 in
    there.2 (Err fault) (subst (λ (l : List (List ℕ)). LeadsTo (i + 1) there.0 l (Err fault)) (sym cut) (r.0, r.1, rw r.2 refl))
stops_at old new i line lines stops.NoMemory cut reads there = tt

-- the lines from one on
pub next_line : (rows : List (Vec ℕ)) (i : ℕ) (row : Vec ℕ) (line : List ℕ) → i < length rows → row ≡ get_or rows i row → line ≡ row.items
    → drop i (map (λ (r : Vec ℕ). r.items) rows) ≡ line ∷ drop (i + 1) (map (λ (r : Vec ℕ). r.items) rows)
next_line rows i row line below is same =
    let bytes : Vec ℕ → List ℕ = λ r. r.items in
    drop-map bytes i rows ∙ ap (map bytes) (drop_more rows i row below) ∙ ap (λ (l : List ℕ). l ∷ map bytes (drop (i + 1) rows)) (ap bytes (sym is) ∙ sym same) ∙ ap (λ (l : List (List ℕ)). line ∷ l) (sym (drop-map bytes (i + 1) rows))
