-- Each value that a file spells is a valid one.
use Rattle.flow_limits.specs.declared.TheConstants.{STATEMENT_LIMIT}
use Rattle.std.proofs.Common.{◌≡◌, ℕ, ◌+◌, ◌≤◌, Bool, true, false, leb, List, [], ◌∷◌, ◌++◌, length, length-append, map, Option, Some, None, Result, Ok, Err, refl, sym, ap, subst, ◌∙◌, arith, ◌⊎◌}
use Rattle.std.specs.Prelude.{◌&&◌, ◌||◌, not, is_some, is_none, MatchResult, IfOk}
use Rattle.std.specs.Str.{bytes_eq}
use Rattle.std.specs.Str.Lines.{lines}
use Rattle.std.specs.List.{AllByRecursion, list_any, sum_by}
use Rattle.std.proofs.lemmas.Bool.{leb-true}
use Rattle.std.proofs.lemmas.List.Sums.{sum_by_push, sum_by-cons}
use Rattle.flow_parse.specs.declared.form.Mention.{Mention}
use Rattle.flow_parse.specs.declared.form.Form.{Form}
use Rattle.flow_parse.specs.declared.form.Form.TheVariants.{Header, Process, Connection, Initial, Subnet, End, InPort, OutPort}
use Rattle.flow_parse.specs.declared.fault.Reason.{Reason}
use Rattle.flow_parse.specs.declared.fault.Reason.TheVariants as reasons
use Rattle.flow_parse.specs.declared.fault.NetFault.{NetFault}
use Rattle.flow_parse.specs.declared.fault.ParseStop.{ParseStop}
use Rattle.flow_parse.specs.Reader.{Gives}
use Rattle.flow_parse.specs.declared.value.Statement.{Statement}
use Rattle.flow_parse.specs.declared.value.NetPart.{NetPart}
use Rattle.flow_parse.specs.declared.value.NetText.{NetText}
use Rattle.flow_parse.specs.Names.{is_named, is_numbered}
use Rattle.flow_parse.specs.Files.{Lines, Open, Parts, nothing, Said, remark, says, wrong, LineIs, version_of, with_line, put_into, close, mentions_of, mentions_in, processes_in, kindless_line, kinds_agree, statements_of, statements_in, statement_count, first_failing, may_stand, is_new_subnet, text_fits, is_within_limits, reason_at, fault_at, ended, lines_now, or_fault, value_of, after, at_end, LeadsTo, Spells}
use Rattle.flow_parse.specs.Values.{IsName, IsInner, Differ, IsNetPart, IsNetText}
use Rattle.flow_parse.proofs.TableMeans.{statements_push}
use Rattle.flow_parse.proofs.FileWords.{Clean, lines_clean, said_words}
use Rattle.flow_parse.proofs.FileParts.{Sound, SoundLines, part_valid}

both : (a b : Bool) → (a && b) ≡ true → (a ≡ true) × (b ≡ true)
both true b e = (refl, e)
both false b e = absurd cc

-- Lines that give a subnet no outer port.
abbrev pub InnerLines : Lines → Type 0
InnerLines ls = AllByRecursion (λ (l : ℕ × Form). AllByRecursion IsInner (statements_of l.1)) ls

-- A subnet that has ended.
abbrev pub SoundSubnet : ℕ → List ℕ × Lines → Type 0
SoundSubnet version s = IsName s.0 × SoundLines version s.1 × (kindless_line (processes_in (mentions_in s.1)) ≡ None)

-- A subnet that has begun, behind others.
abbrev pub SoundOpen : ℕ → List (List ℕ × Lines) → Option Open → Type 0
SoundOpen version done None = Unit {0}
SoundOpen version done (Some o) = IsName o.name × SoundLines version o.lines × (list_any (λ (s : List ℕ × Lines). bytes_eq s.0 o.name) done ≡ false)

-- What stands before a line, where no line has a fault.
pub record SoundParts (parts : Parts) : Type 0 where
  pub version : (parts.version ≡ 1) ⊎ (parts.version ≡ 2) ⊎ (parts.version ≡ 3)
  pub main : SoundLines parts.version parts.main
  pub inner : InnerLines parts.main
  pub subnets : AllByRecursion (SoundSubnet parts.version) parts.subnets
  pub differ : Differ (map (λ s. s.0) parts.subnets)
  pub opened : SoundOpen parts.version parts.subnets parts.open_part
  pub count : statement_count parts ≤ STATEMENT_LIMIT

no_first : (a b c d e g : Bool) (r1 r2 r3 r4 r5 r6 : Reason) → first_failing ((a, r1) ∷ (b, r2) ∷ (c, r3) ∷ (d, r4) ∷ (e, r5) ∷ (g, r6) ∷ []) ≡ None → (a ≡ true) × (b ≡ true) × (c ≡ true) × (d ≡ true) × (e ≡ true) × (g ≡ true)
no_first true true true true true true r1 r2 r3 r4 r5 r6 none = (refl, refl, refl, refl, refl, refl)
no_first true true true true true false r1 r2 r3 r4 r5 r6 none = absurd cc
no_first true true true true false g r1 r2 r3 r4 r5 r6 none = absurd cc
no_first true true true false e g r1 r2 r3 r4 r5 r6 none = absurd cc
no_first true true false d e g r1 r2 r3 r4 r5 r6 none = absurd cc
no_first true false c d e g r1 r2 r3 r4 r5 r6 none = absurd cc
no_first false b c d e g r1 r2 r3 r4 r5 r6 none = absurd cc

no_reason : (n : ℕ) (parts : Parts) (form : Form) → fault_at n parts form ≡ None → reason_at parts form ≡ None
no_reason n parts form none = elim (reason_at parts form) as (λ o. reason_at parts form ≡ o → o ≡ None) [
  | None ↦ λ e. refl
  | Some r ↦ λ e. let t : fault_at n parts form ≡ Some (record { line = n; reason = r }) = rw e refl in absurd cc
] refl

-- What a line without a fault passes.
record Passed (parts : Parts) (form : Form) : Type 0 where
  stands : may_stand parts form ≡ true
  named : is_named form ≡ true
  numbered : is_numbered parts.version form ≡ true
  new : is_new_subnet parts form ≡ true
  fits : text_fits form ≡ true
  count : statement_count parts + length (statements_of form) ≤ STATEMENT_LIMIT

passed : (n : ℕ) (parts : Parts) (form : Form) → fault_at n parts form ≡ None → Passed parts form
passed n parts form none =
    let r = no_first (may_stand parts form) (is_named form) (is_numbered parts.version form) (kinds_agree (map (λ (k : ℕ × Mention). k.1) (mentions_in (lines_now parts))) (mentions_of form)) (is_new_subnet parts form) (is_within_limits parts form) _ _ _ _ _ _ (no_reason n parts form none) in
    let l = both (text_fits form) (leb (statement_count parts + length (statements_of form)) STATEMENT_LIMIT) r.5 in
    record { stands = r.0; named = r.1; numbered = r.2; new = r.4; fits = l.0; count = leb-true (statement_count parts + length (statements_of form)) STATEMENT_LIMIT l.1 }

push : {X : Type 0} (P : X → Type 0) (xs : List X) (x : X) → AllByRecursion P xs → P x → AllByRecursion P (xs ++ x ∷ [])
push P [] x all p = (p, tt)
push P (y ∷ xs) x all p = (all.0, push P xs x all.1 p)

longer : (ls : Lines) (n : ℕ) (form : Form) → length (statements_in (ls ++ (n, form) ∷ [])) ≡ length (statements_in ls) + length (statements_of form)
longer ls n form = ap length (statements_push ls n form) ∙ length-append (statements_in ls) (statements_of form)

-- One more line of its part.
put_sound : (parts : Parts) (n : ℕ) (form : Form) → SoundParts parts → Sound parts.version form → statement_count parts + length (statements_of form) ≤ STATEMENT_LIMIT → (is_none parts.open_part ≡ true → AllByRecursion IsInner (statements_of form)) → SoundParts (put_into parts parts.open_part (n, form))
put_sound parts n form s sound count inner = by_open parts.open_part refl where
  by_open : (o : Option Open) → parts.open_part ≡ o → SoundParts (put_into parts o (n, form))
  by_open None e =
      let more = longer parts.main n form in
      let was : statement_count parts ≡ statement_count (record parts { open_part = None }) = ap (λ (q : Option Open). statement_count (record parts { open_part = q })) e in
      let alone : parts.open_part ≡ None = e in
      let one : is_none parts.open_part ≡ true = ap is_none e in
      let now : statement_count (record parts { main = parts.main ++ (n, form) ∷ [] }) ≡ statement_count (record parts { main = parts.main ++ (n, form) ∷ []; open_part = None }) = ap (λ (q : Option Open). statement_count (record parts { main = parts.main ++ (n, form) ∷ []; open_part = q })) e in
      record {
        version = s.version;
        main = push (λ (l : ℕ × Form). Sound parts.version l.1) parts.main (n, form) s.main sound;
        inner = push (λ (l : ℕ × Form). AllByRecursion IsInner (statements_of l.1)) parts.main (n, form) s.inner (inner one);
        subnets = s.subnets;
        differ = s.differ;
        opened = s.opened;
        count = omega (arith, now, was, more, count);
      }
  by_open (Some o) e =
      let more = longer o.lines n form in
      let was : statement_count parts ≡ statement_count (record parts { open_part = Some o }) = ap (λ (q : Option Open). statement_count (record parts { open_part = q })) e in
      let open_now : SoundOpen parts.version parts.subnets (Some o) = subst (λ (q : Option Open). SoundOpen parts.version parts.subnets q) e s.opened in
      record {
        version = s.version;
        main = s.main;
        inner = s.inner;
        subnets = s.subnets;
        differ = s.differ;
        opened = (open_now.0, push (λ (l : ℕ × Form). Sound parts.version l.1) o.lines (n, form) open_now.1 sound, open_now.2);
        count = omega (arith, was, more, count);
      }

differ_push : (names : List (List ℕ × Lines)) (s : List ℕ × Lines) → Differ (map (λ t. t.0) names) → list_any (λ (t : List ℕ × Lines). bytes_eq t.0 s.0) names ≡ false → Differ (map (λ t. t.0) (names ++ s ∷ []))
differ_push [] s differ new = (tt, tt)
differ_push (t ∷ ts) s differ new = let r = or_false (bytes_eq t.0 s.0) (list_any (λ (u : List ℕ × Lines). bytes_eq u.0 s.0) ts) new in (apart ts differ.0 r.0, differ_push ts s differ.1 r.1) where
  or_false : (a b : Bool) → (a || b) ≡ false → (a ≡ false) × (b ≡ false)
  or_false true b e = absurd cc
  or_false false b e = (refl, e)

  apart : (us : List (List ℕ × Lines)) → AllByRecursion (λ other. bytes_eq t.0 other ≡ false) (map (λ u. u.0) us) → bytes_eq t.0 s.0 ≡ false → AllByRecursion (λ other. bytes_eq t.0 other ≡ false) (map (λ u. u.0) (us ++ s ∷ []))
  apart [] all one = (one, tt)
  apart (u ∷ us) all one = (all.0, apart us all.1 one)

sum_push : (done : List (List ℕ × Lines)) (s : List ℕ × Lines) → sum_by (λ (t : List ℕ × Lines). length (statements_in t.1)) (done ++ s ∷ []) ≡ sum_by (λ (t : List ℕ × Lines). length (statements_in t.1)) done + length (statements_in s.1)
sum_push done s = sum_by_push (λ (t : List ℕ × Lines). length (statements_in t.1)) done s

no_kindless : (o : Option ℕ) (ls : Lines) → kindless_line (processes_in (mentions_in ls)) ≡ o → ended ls ≡ None → o ≡ None
no_kindless None ls e none = refl
no_kindless (Some n) ls e none = let t : ended ls ≡ Some (record { line = n; reason = reasons.Kind }) = rw e refl in absurd cc

end_none : (n : ℕ) (parts : Parts) → fault_at n parts End ≡ None → ended (lines_now parts) ≡ None
end_none n parts none = let e = no_reason n parts End none in let t : fault_at n parts End ≡ ended (lines_now parts) = rw e refl in sym t ∙ none

-- A subnet that has begun ends.
close_sound : (parts : Parts) (n : ℕ) → SoundParts parts → may_stand parts End ≡ true → fault_at n parts End ≡ None → SoundParts (with_line parts n End)
close_sound parts n s stands none = by_open parts.open_part refl where
  by_open : (o : Option Open) → parts.open_part ≡ o → SoundParts (close parts o)
  by_open None e = s
  by_open (Some o) e =
      let open_now : SoundOpen parts.version parts.subnets (Some o) = subst (λ (q : Option Open). SoundOpen parts.version parts.subnets q) e s.opened in
      let was : statement_count parts ≡ statement_count (record parts { open_part = Some o }) = ap (λ (q : Option Open). statement_count (record parts { open_part = q })) e in
      let last : ended (lines_now parts) ≡ None = end_none n parts none in
      let there : ended o.lines ≡ None = ap ended (sym (ap (λ (q : Option Open). lines_now (record parts { open_part = q })) e)) ∙ last in
      let kinded = no_kindless (kindless_line (processes_in (mentions_in o.lines))) o.lines refl there in
      let more = sum_push parts.subnets (o.name, o.lines) in
      let c = s.count in
      record {
        version = s.version;
        main = s.main;
        inner = s.inner;
        subnets = push (SoundSubnet parts.version) parts.subnets (o.name, o.lines) s.subnets (open_now.0, open_now.1, kinded);
        differ = differ_push parts.subnets (o.name, o.lines) s.differ open_now.2;
        opened = tt;
        count = omega (arith, was, more, c);
      }

is_closed : (o : Option Open) → is_none o ≡ true → o ≡ None
is_closed None e = refl
is_closed (Some o) e = absurd cc

open_sound : (parts : Parts) (n : ℕ) (name : List ℕ) → SoundParts parts → is_none parts.open_part ≡ true → IsName name → list_any (λ (s : List ℕ × Lines). bytes_eq s.0 name) parts.subnets ≡ false → SoundParts (with_line parts n (Subnet name))
open_sound parts n name s alone is new =
    let was : statement_count parts ≡ statement_count (record parts { open_part = None }) = ap (λ (q : Option Open). statement_count (record parts { open_part = q })) (is_closed parts.open_part alone) in
    let c = s.count in
    record { version = s.version; main = s.main; inner = s.inner; subnets = s.subnets; differ = s.differ; opened = (is, tt, new); count = omega (arith, was, c) }

none_some : (o : Option Open) → is_some o ≡ true → is_none o ≡ true → ⊥
none_some None a b = cc
none_some (Some o) a b = cc

not_true : (b : Bool) → not b ≡ true → b ≡ false
not_true true e = absurd cc
not_true false e = refl

step_sound : (n : ℕ) (parts : Parts) (form : Form) (line : List ℕ) → Clean line → LineIs parts.version line (says form) → fault_at n parts form ≡ None → SoundParts parts → SoundParts (with_line parts n form)
step_sound n parts (Header said) line clean is none s = let p = passed n parts (Header said) none in let st = p.stands in absurd cc
step_sound n parts (Process name kind) line clean is none s =
    let form : Form = Process name kind in let p = passed n parts form none in put_sound parts n form s (record { worded = said_words parts.version line form clean is; named = p.named; numbered = p.numbered; fits = p.fits }) p.count (λ alone. tt)
step_sound n parts (Connection from out capacity into to) line clean is none s =
    let form : Form = Connection from out capacity into to in let p = passed n parts form none in put_sound parts n form s (record { worded = said_words parts.version line form clean is; named = p.named; numbered = p.numbered; fits = p.fits }) p.count (λ alone. (tt, tt))
step_sound n parts (Initial text into to) line clean is none s =
    let form : Form = Initial text into to in let p = passed n parts form none in put_sound parts n form s (record { worded = said_words parts.version line form clean is; named = p.named; numbered = p.numbered; fits = p.fits }) p.count (λ alone. (tt, tt))
step_sound n parts (Subnet name) line clean is none s =
    let p = passed n parts (Subnet name) none in open_sound parts n name s p.stands (p.named, said_words parts.version line (Subnet name) clean is) (not_true (list_any (λ (s : List ℕ × Lines). bytes_eq s.0 name) parts.subnets) p.new)
step_sound n parts End line clean is none s = let p = passed n parts End none in close_sound parts n s p.stands none
step_sound n parts (InPort outer into to) line clean is none s =
    let form : Form = InPort outer into to in let p = passed n parts form none in put_sound parts n form s (record { worded = said_words parts.version line form clean is; named = p.named; numbered = p.numbered; fits = p.fits }) p.count (λ alone. absurd (none_some parts.open_part p.stands alone))
step_sound n parts (OutPort from out outer) line clean is none s =
    let form : Form = OutPort from out outer in let p = passed n parts form none in put_sound parts n form s (record { worded = said_words parts.version line form clean is; named = p.named; numbered = p.numbered; fits = p.fits }) p.count (λ alone. absurd (none_some parts.open_part p.stands alone))

-- What stands before a line, if the header does.
abbrev pub SoundBefore : Option Parts → Type 0
SoundBefore None = Unit {0}
SoundBefore (Some parts) = SoundParts parts

nothing_sound : (version : ℕ) → (version ≡ 1) ⊎ (version ≡ 2) ⊎ (version ≡ 3) → SoundParts (nothing version)
nothing_sound version one = record { version = one; main = tt; inner = tt; subnets = tt; differ = tt; opened = tt; count = omega arith }

or_none_sound : (o : Option NetFault) (x next : Option Parts) → or_fault o x ≡ Ok next → (o ≡ None) × (x ≡ next)
or_none_sound None x next e = (refl, cc)
or_none_sound (Some f) x next e = absurd cc

after_sound : (n : ℕ) (before : Option Parts) (said : Said) (line : List ℕ) (next : Option Parts) → Clean line → LineIs (version_of before) line said → after n before said ≡ Ok next → SoundBefore before → SoundBefore next
after_sound n before remark line next clean is goes s = subst SoundBefore (same before next goes) s where
  same : (a b : Option Parts) → ◌≡◌ {A = Result (Option Parts) NetFault} (Ok a) (Ok b) → a ≡ b
  same a b e = cc
after_sound n None (says (Header version)) line next clean is goes s = let e : Some (nothing version) ≡ next = cc in subst SoundBefore e (nothing_sound version is.2.1)
after_sound n None (says (Process name kind)) line next clean is goes s = absurd cc
after_sound n None (says (Connection from out capacity into to)) line next clean is goes s = absurd cc
after_sound n None (says (Initial text into to)) line next clean is goes s = absurd cc
after_sound n None (says (Subnet name)) line next clean is goes s = absurd cc
after_sound n None (says End) line next clean is goes s = absurd cc
after_sound n None (says (InPort outer into to)) line next clean is goes s = absurd cc
after_sound n None (says (OutPort from out outer)) line next clean is goes s = absurd cc
after_sound n None (wrong reason) line next clean is goes s = absurd cc
after_sound n (Some parts) (wrong reason) line next clean is goes s = absurd cc
after_sound n (Some parts) (says form) line next clean is goes s =
    let r = or_none_sound (fault_at n parts form) (Some (with_line parts n form)) next goes in subst SoundBefore r.1 (step_sound n parts form line clean is r.0 s)

subnets_valid : (version : ℕ) (done : List (List ℕ × Lines)) → AllByRecursion (SoundSubnet version) done → AllByRecursion (λ (s : List ℕ × NetPart). IsName s.0 × IsNetPart version s.1) (map (λ (s : List ℕ × Lines). (s.0, value_of s.1)) done)
subnets_valid version [] all = tt
subnets_valid version (s ∷ ss) all = ((all.0.0, part_valid version s.1 all.0.1 all.0.2), subnets_valid version ss all.1)

same_names : (done : List (List ℕ × Lines)) → map (λ (s : List ℕ × NetPart). s.0) (map (λ (s : List ℕ × Lines). (s.0, value_of s.1)) done) ≡ map (λ (s : List ℕ × Lines). s.0) done
same_names [] = refl
same_names (s ∷ ss) = ap (λ (l : List (List ℕ)). s.0 ∷ l) (same_names ss)

same_sum : (done : List (List ℕ × Lines)) → sum_by (λ (s : List ℕ × NetPart). length s.1.statements) (map (λ (s : List ℕ × Lines). (s.0, value_of s.1)) done) ≡ sum_by (λ (s : List ℕ × Lines). length (statements_in s.1)) done
same_sum [] = refl
same_sum (s ∷ ss) =
    sum_by-cons (λ (t : List ℕ × NetPart). length t.1.statements) (s.0, value_of s.1) (map (λ (t : List ℕ × Lines). (t.0, value_of t.1)) ss) ∙ ap (λ (n : ℕ). length (statements_in s.1) + n) (same_sum ss)
    ∙ sym (sum_by-cons (λ (t : List ℕ × Lines). length (statements_in t.1)) s ss)

inner_all : (ls : Lines) → InnerLines ls → AllByRecursion IsInner (statements_in ls)
inner_all [] all = tt
inner_all (l ∷ ls) all = join (statements_of l.1) all.0 (inner_all ls all.1) where
  join : (ss : List Statement) → AllByRecursion IsInner ss → AllByRecursion IsInner (statements_in ls) → AllByRecursion IsInner (ss ++ statements_in ls)
  join [] a b = b
  join (s ∷ ss) a b = (a.0, join ss a.1 b)

-- The value of parts.
abbrev make : Parts → NetText
make p = record { version = p.version; subnets = map (λ (t : List ℕ × Lines). (t.0, value_of t.1)) p.subnets; main = value_of p.main }

end_valid : (n : ℕ) (before : Option Parts) (value : NetText) → SoundBefore before → at_end n before ≡ Ok value → IsNetText value
end_valid n None value s ends = absurd cc
end_valid n (Some parts) value s ends = by_open parts.open_part refl where
  valid : (o : Option NetFault) → ended parts.main ≡ o → or_fault o (make parts) ≡ Ok value → statement_count parts ≡ statement_count (record parts { open_part = None }) → IsNetText value
  valid None e goes was =
      let v : make parts ≡ value = cc in
      let sums = same_sum parts.subnets in
      let c = s.count in
      subst IsNetText v (record {
        version = s.version;
        subnets = subnets_valid parts.version parts.subnets s.subnets;
        differ = subst Differ (sym (same_names parts.subnets)) s.differ;
        main = part_valid parts.version parts.main s.main (no_kindless (kindless_line (processes_in (mentions_in parts.main))) parts.main refl e);
        inner = inner_all parts.main s.inner;
        count = omega (arith, was, sums, c);
      })
  valid (Some f) e goes was = absurd cc

  by_open : (o : Option Open) → parts.open_part ≡ o → IsNetText value
  by_open None e =
      let there : at_end n (Some parts) ≡ at_end n (Some (record parts { open_part = None })) = ap (λ (q : Option Open). at_end n (Some (record parts { open_part = q }))) e in
      valid (ended parts.main) refl (sym there ∙ ends) (ap (λ (q : Option Open). statement_count (record parts { open_part = q })) e)
  by_open (Some o) e =
      let there : at_end n (Some parts) ≡ at_end n (Some (record parts { open_part = Some o })) = ap (λ (q : Option Open). at_end n (Some (record parts { open_part = q }))) e in absurd cc

leads_valid : (ls : List (List ℕ)) (n : ℕ) (before : Option Parts) (value : NetText) → AllByRecursion Clean ls → SoundBefore before → LeadsTo n before ls (Ok value) → IsNetText value
leads_valid [] n before value clean s leads = end_valid n before value s leads
leads_valid (line ∷ more) n before value clean s leads = go (after n before leads.0) refl (λ next good there. leads_valid more (n + 1) next value clean.1 good there) leads.2 where
  go : (step : Result (Option Parts) NetFault) → after n before leads.0 ≡ step → ((next : Option Parts) → SoundBefore next → LeadsTo (n + 1) next more (Ok value) → IsNetText value) → MatchResult step (λ parts. LeadsTo (n + 1) parts more (Ok value)) (λ fault. Ok value ≡ Err fault) → IsNetText value
  go (Ok next) e rest there = rest next (after_sound n before leads.0 line next clean.0 leads.1 e s) there
  go (Err fault) e rest there = absurd cc

-- Each value that bytes spell is valid.
pub spelled_valid : (bytes : List ℕ) (value : NetText) → Spells bytes value → IsNetText value
spelled_valid bytes value spells = leads_valid (lines bytes) 1 None value (lines_clean bytes) tt spells

-- The value that was read from the lines of these bytes is valid.
pub gives_valid : (rows : List (List ℕ)) (bytes : List ℕ) (result : Result NetText ParseStop) → rows ≡ lines bytes → Gives result (λ outcome. LeadsTo 1 None rows outcome) → IfOk result IsNetText
gives_valid rows bytes (Ok value) is found = spelled_valid bytes value (subst (λ (l : List (List ℕ)). LeadsTo 1 None l (Ok value)) is found)
gives_valid rows bytes (Err stop) is found = tt
