-- The lines of a part's canonical text, read one after another.
use Rattle.flow_limits.specs.declared.TheConstants.{STATEMENT_LIMIT}
use Rattle.std.proofs.Common.{◌≡◌, ℕ, ◌+◌, ◌≤◌, Bool, true, false, leb, List, [], ◌∷◌, ◌++◌, length, length-append, map, Option, Some, None, Result, refl, sym, ap, subst, ◌∙◌, append_assoc, arith}
use Rattle.std.specs.Prelude.{◌&&◌, ◌||◌, unwrap_or, option_and_then}
use Rattle.std.specs.Str.{bytes_eq}
use Rattle.std.specs.Str.Lines.{lines}
use Rattle.std.specs.List.{AllByRecursion, flat_map, list_any, sum_by}
use Rattle.std.proofs.lemmas.Bool.{le-leb}
use Rattle.std.proofs.lemmas.List.{append-nil}
use Rattle.flow_parse.specs.declared.token.Token.{Token}
use Rattle.flow_parse.specs.declared.token.Token.TheVariants.{Word, Open as open_token, Close}
use Rattle.flow_parse.specs.declared.form.Mention.{Mention}
use Rattle.flow_parse.specs.declared.form.Form.{Form}
use Rattle.flow_parse.specs.declared.form.Form.TheVariants as forms
use Rattle.flow_parse.specs.declared.table.MentionedProcess.{MentionedProcess}
use Rattle.flow_parse.specs.declared.fault.Reason.TheVariants as reasons
use Rattle.flow_parse.specs.declared.fault.NetFault.{NetFault}
use Rattle.flow_parse.specs.declared.value.Statement.{Statement}
use Rattle.flow_parse.specs.declared.value.Statement.TheVariants.{Connect, Initial, InPort, OutPort}
use Rattle.flow_parse.specs.declared.value.NetPart.{NetPart}
use Rattle.flow_parse.specs.declared.value.NetText.{NetText}
use Rattle.flow_parse.specs.Table.{mentioned, table_with}
use Rattle.flow_parse.specs.Names.{is_named, is_numbered}
use Rattle.flow_parse.specs.Files.{Lines, Parts, says, LineIs, with_line, mentions_of, mentions_in, processes_in, kindless_line, kinds_agree, statements_of, statements_in, statement_count, first_failing, may_stand, is_new_subnet, text_fits, reason_at, fault_at, lines_now, value_of, LeadsTo}
use Rattle.flow_parse.specs.Canonical.{process_line, statement_pieces, statement_line, part_lines}
use Rattle.flow_parse.specs.Values.{IsName, IsStatement, IsInner, names_of, Differ, NamesKnown, IsNetPart}
use Rattle.flow_parse.proofs.TableLaws.{mentioned_new}
use Rattle.flow_parse.proofs.TableMeans.{line_table, agreed, mentions_push, statements_push}
use Rattle.flow_parse.proofs.PrintedLines.{lines_first}
use Rattle.flow_parse.proofs.PrintedRows.{joined}
use Rattle.flow_parse.proofs.PrintedForms.{as_mention, said_by, Says, statement_says, process_says, statement_named, statement_numbered, statement_fits, statement_again, statement_mentions}

-- The part that the next line belongs to, with the subnets that have ended.
pub data Where : Type 0 where
  in_main : List (List ℕ × Lines) → Where
  in_subnet : List (List ℕ × Lines) → ℕ → List ℕ → Where

-- What stands before a line, where its part has these.
abbrev pub at : ℕ → Where → Lines → Parts
at version (in_main done) ls = record { version = version; main = ls; subnets = done; open_part = None }
at version (in_subnet done n name) ls = record { version = version; main = []; subnets = done; open_part = Some (record { line = n; name = name; lines = ls }) }

-- The statements of the subnets that have ended.
abbrev pub ended_count : List (List ℕ × Lines) → ℕ
ended_count done = sum_by (λ (s : List ℕ × Lines). length (statements_in s.1)) done

abbrev pub elsewhere : Where → ℕ
elsewhere (in_main done) = ended_count done
elsewhere (in_subnet done n name) = ended_count done

lines_at : (version : ℕ) (w : Where) (ls : Lines) → lines_now (at version w ls) ≡ ls
lines_at version (in_main done) ls = refl
lines_at version (in_subnet done n name) ls = refl

version_at : (version : ℕ) (w : Where) (ls : Lines) → (at version w ls).version ≡ version
version_at version (in_main done) ls = refl
version_at version (in_subnet done n name) ls = refl

count_at : (version : ℕ) (w : Where) (ls : Lines) → statement_count (at version w ls) ≡ length (statements_in ls) + elsewhere w
count_at version (in_main done) ls = omega arith
count_at version (in_subnet done n name) ls = omega arith

-- What a part's lines have given so far.
pub record Made (ls : Lines) (table : List MentionedProcess) (said : List Statement) : Type 0 where
  pub known : processes_in (mentions_in ls) ≡ table
  pub statements : statements_in ls ≡ said

made_more : (ls : Lines) (table next : List MentionedProcess) (said : List Statement) (n : ℕ) (form : Form) → Made ls table said → table_with table n (mentions_of form) ≡ Some next
    → (kinds_agree (map (λ k. k.1) (mentions_in ls)) (mentions_of form) ≡ true) × Made (ls ++ (n, form) ∷ []) next (said ++ statements_of form)
made_more ls table next said n form made some =
    let all = ap (λ (t : List MentionedProcess). table_with t n (mentions_of form)) (sym made.known) ∙ line_table (mentions_of form) (mentions_in ls) n in
    let a = agreed (kinds_agree (map (λ (k : ℕ × Mention). k.1) (mentions_in ls)) (mentions_of form)) (processes_in (mentions_in ls ++ map (λ (m : Mention). (n, m)) (mentions_of form))) next (sym all ∙ some) in
    let back = ap (λ (t : List MentionedProcess). table_with t n (mentions_of form)) made.known in
    (a.0, record { known = ap processes_in (mentions_push ls n form) ∙ a.1; statements = statements_push ls n form ∙ ap (λ (l : List Statement). l ++ statements_of form) made.statements })

all_pass : (a b c d e g : Bool) → a ≡ true → b ≡ true → c ≡ true → d ≡ true → e ≡ true → g ≡ true
    → first_failing ((a, reasons.Form) ∷ (b, reasons.Name) ∷ (c, reasons.Number) ∷ (d, reasons.Kind) ∷ (e, reasons.Subnet) ∷ (g, reasons.Limit) ∷ []) ≡ None
all_pass a b c d e g ea eb ec ed ee eg = rw (ea, eb, ec, ed, ee, eg) refl

both_true : (a b : Bool) → a ≡ true → b ≡ true → (a && b) ≡ true
both_true a b ea eb = rw (ea, eb) refl

-- A line of a form that may stand there, within all limits, is refused for no reason.
pub no_reason : (version : ℕ) (w : Where) (ls : Lines) (form : Form) → may_stand (at version w ls) form ≡ true → is_named form ≡ true → is_numbered version form ≡ true → kinds_agree (map (λ k. k.1) (mentions_in ls)) (mentions_of form) ≡ true
    → is_new_subnet (at version w ls) form ≡ true → text_fits form ≡ true → (length (statements_in ls) + elsewhere w) + length (statements_of form) ≤ STATEMENT_LIMIT → reason_at (at version w ls) form ≡ None
no_reason version w ls form stands named numbered agree new fits count =
    let there : kinds_agree (map (λ (k : ℕ × Mention). k.1) (mentions_in (lines_now (at version w ls)))) (mentions_of form) ≡ true = ap (λ (l : Lines). kinds_agree (map (λ (k : ℕ × Mention). k.1) (mentions_in l)) (mentions_of form)) (lines_at version w ls) ∙ agree in
    let c = count_at version w ls in
    let within : leb (statement_count (at version w ls) + length (statements_of form)) STATEMENT_LIMIT ≡ true = le-leb (statement_count (at version w ls) + length (statements_of form)) STATEMENT_LIMIT (omega (arith, c, count)) in
    all_pass (may_stand (at version w ls) form) (is_named form) (is_numbered (at version w ls).version form) (kinds_agree (map (λ (k : ℕ × Mention). k.1) (mentions_in (lines_now (at version w ls)))) (mentions_of form)) (is_new_subnet (at version w ls) form) (text_fits form && leb (statement_count (at version w ls) + length (statements_of form)) STATEMENT_LIMIT)
    stands named (ap (λ (v : ℕ). is_numbered v form) (version_at version w ls) ∙ numbered) there new (both_true (text_fits form) (leb (statement_count (at version w ls) + length (statements_of form)) STATEMENT_LIMIT) fits within)

-- One line on, where the line has no fault.
pub one_line : (version n : ℕ) (parts next : Parts) (pieces : List (List Token)) (form : Form) (rest : List ℕ) (outcome : Result NetText NetFault) → parts.version ≡ version → Says version pieces form → fault_at n parts form ≡ None → with_line parts n form ≡ next
    → LeadsTo (n + 1) (Some next) (lines rest) outcome → LeadsTo n (Some parts) (lines ((joined pieces ++ 10 ∷ []) ++ rest)) outcome
one_line version n parts next pieces form rest outcome same s none goes there =
    let step : LeadsTo (n + 1) (Some (with_line parts n form)) (lines rest) outcome = subst (λ (p : Parts). LeadsTo (n + 1) (Some p) (lines rest) outcome) (sym goes) there in
    subst (λ (l : List (List ℕ)). LeadsTo n (Some parts) l outcome) (sym (lines_first (joined pieces) rest s.closed)) (says form, subst (λ (v : ℕ). LineIs v (joined pieces) (says form)) (sym same) s.is, rw none step)

-- The table has these processes.
abbrev pub IsTable : List MentionedProcess → List (List ℕ × List ℕ) → Type 0
IsTable [] [] = Unit {0}
IsTable [] (p ∷ ps) = ⊥
IsTable (k ∷ ks) [] = ⊥
IsTable (k ∷ ks) (p ∷ ps) = (k.name ≡ p.0) × (k.kind ≡ Some p.1) × IsTable ks ps

table_push : (ks : List MentionedProcess) (ps : List (List ℕ × List ℕ)) (n : ℕ) (p : List ℕ × List ℕ) → IsTable ks ps → IsTable (ks ++ record { line = n; name = p.0; kind = Some p.1 } ∷ []) (ps ++ p ∷ [])
table_push [] [] n p is = (refl, refl, tt)
table_push [] (q ∷ ps) n p is = absurd is
table_push (k ∷ ks) [] n p is = absurd is
table_push (k ∷ ks) (q ∷ ps) n p is = (is.0, is.1, table_push ks ps n p is.2)

table_values : (ks : List MentionedProcess) (ps : List (List ℕ × List ℕ)) → IsTable ks ps → map (λ p. (p.name, unwrap_or p.kind [])) ks ≡ ps
table_values [] [] is = refl
table_values [] (q ∷ ps) is = absurd is
table_values (k ∷ ks) [] is = absurd is
table_values (k ∷ ks) (q ∷ ps) is =
    let head : (k.name, unwrap_or k.kind []) ≡ q = ap (λ (n : List ℕ). (n, unwrap_or k.kind [])) is.0 ∙ ap (λ (o : Option (List ℕ)). (q.0, unwrap_or o [])) is.1 in
    let tail : map (λ (p : MentionedProcess). (p.name, unwrap_or p.kind [])) ks ≡ ps = table_values ks ps is.2 in
    ap (λ (r : List ℕ × List ℕ). r ∷ map (λ (p : MentionedProcess). (p.name, unwrap_or p.kind [])) ks) head ∙ ap (λ (l : List (List ℕ × List ℕ)). q ∷ l) tail

table_kinded : (ks : List MentionedProcess) (ps : List (List ℕ × List ℕ)) → IsTable ks ps → kindless_line ks ≡ None
table_kinded [] ps is = refl
table_kinded (k ∷ ks) [] is = absurd is
table_kinded (k ∷ ks) (q ∷ ps) is = rw is.1 (table_kinded ks ps is.2)

-- A mention of a process of the table, without a kind, changes nothing.
mention_known : (ks : List MentionedProcess) (ps : List (List ℕ × List ℕ)) (n : ℕ) (name : List ℕ) → IsTable ks ps → list_any (λ (p : List ℕ × List ℕ). bytes_eq p.0 name) ps ≡ true → mentioned ks n (as_mention name) ≡ Some ks
mention_known [] [] n name is has = absurd cc
mention_known [] (q ∷ ps) n name is has = absurd is
mention_known (k ∷ ks) [] n name is has = absurd is
mention_known (k ∷ ks) (q ∷ ps) n name is has =
    let same : bytes_eq q.0 name ≡ bytes_eq k.name name = ap (λ (w : List ℕ). bytes_eq w name) (sym is.0) in
    let there : (bytes_eq k.name name || list_any (λ (p : List ℕ × List ℕ). bytes_eq p.0 name) ps) ≡ true = ap (λ (b : Bool). b || list_any (λ (p : List ℕ × List ℕ). bytes_eq p.0 name) ps) (sym same) ∙ has in
    elim (bytes_eq k.name name) as (λ v. bytes_eq k.name name ≡ v → (v || list_any (λ (p : List ℕ × List ℕ). bytes_eq p.0 name) ps) ≡ true → mentioned (k ∷ ks) n (as_mention name) ≡ Some (k ∷ ks)) [
      | true ↦ λ e h. rw e refl
      | false ↦ λ e h. let more = mention_known ks ps n name is.2 h in rw (e, more) refl
    ] refl there

mentions_known : (names : List (List ℕ)) (ks : List MentionedProcess) (ps : List (List ℕ × List ℕ)) (n : ℕ) → IsTable ks ps → AllByRecursion (λ name. list_any (λ (p : List ℕ × List ℕ). bytes_eq p.0 name) ps ≡ true) names → table_with ks n (map as_mention names) ≡ Some ks
mentions_known [] ks ps n is all = refl
mentions_known (name ∷ names) ks ps n is all =
    ap (option_and_then (λ (next : List MentionedProcess). table_with next n (map as_mention names))) (mention_known ks ps n name is all.0) ∙ mentions_known names ks ps n is all.1

-- No process of the table has one of these names.
abbrev pub Fresh : List MentionedProcess → List (List ℕ × List ℕ) → Type 0
Fresh ks ps = AllByRecursion (λ (p : List ℕ × List ℕ). AllByRecursion (λ (k : MentionedProcess). bytes_eq k.name p.0 ≡ false) ks) ps

all_push : (name : List ℕ) (ks : List MentionedProcess) (k : MentionedProcess) → AllByRecursion (λ (j : MentionedProcess). bytes_eq j.name name ≡ false) ks → bytes_eq k.name name ≡ false → AllByRecursion (λ (j : MentionedProcess). bytes_eq j.name name ≡ false) (ks ++ k ∷ [])
all_push name [] k all one = (one, tt)
all_push name (j ∷ ks) k all one = (all.0, all_push name ks k all.1 one)

fresh_push : (ks : List MentionedProcess) (k : MentionedProcess) (ps : List (List ℕ × List ℕ)) → Fresh ks ps → AllByRecursion (λ other. bytes_eq k.name other ≡ false) (map (λ p. p.0) ps) → Fresh (ks ++ k ∷ []) ps
fresh_push ks k [] fresh apart = tt
fresh_push ks k (p ∷ ps) fresh apart = (all_push p.0 ks k fresh.0 apart.0, fresh_push ks k ps fresh.1 apart.1)

put_process : (version : ℕ) (w : Where) (ls : Lines) (n : ℕ) (p : List ℕ × List ℕ) → with_line (at version w ls) n (forms.Process p.0 p.1) ≡ at version w (ls ++ (n, forms.Process p.0 p.1) ∷ [])
put_process version (in_main done) ls n p = refl
put_process version (in_subnet done m name) ls n p = refl

-- The lines of processes, read one after another.
pub processes_read : (version : ℕ) (ps : List (List ℕ × List ℕ)) (w : Where) (n : ℕ) (ls : Lines) (table : List MentionedProcess) (done all : List (List ℕ × List ℕ)) (rest : List ℕ) (outcome : Result NetText NetFault)
    → Made ls table [] → IsTable table done → done ++ ps ≡ all → Fresh table ps → Differ (map (λ p. p.0) ps) → AllByRecursion (λ (p : List ℕ × List ℕ). IsName p.0 × IsName p.1) ps → elsewhere w ≤ STATEMENT_LIMIT
    → ((m : ℕ) (later : Lines) (made : List MentionedProcess) → Made later made [] → IsTable made all → LeadsTo m (Some (at version w later)) (lines rest) outcome)
    → LeadsTo n (Some (at version w ls)) (lines (flat_map process_line ps ++ rest)) outcome
processes_read version [] w n ls table done all rest outcome made is whole fresh differ named count go = go n ls table made (subst (λ (l : List (List ℕ × List ℕ)). IsTable table l) (sym (append-nil done) ∙ whole) is)
processes_read version (p ∷ ps) w n ls table done all rest outcome made is whole fresh differ named count go =
    let k : MentionedProcess = record { line = n; name = p.0; kind = Some p.1 } in
    let form : Form = forms.Process p.0 p.1 in
    let new : table_with table n (mentions_of form) ≡ Some (table ++ k ∷ []) = ap (option_and_then (λ (next : List MentionedProcess). table_with next n [])) (mentioned_new table n (record { name = p.0; kind = Some p.1 }) fresh.0) in
    let more = made_more ls table (table ++ k ∷ []) [] n form made new in
    let none : reason_at (at version w ls) form ≡ None = no_reason version w ls form (stands w ls p) (both_true _ _ named.0.0.0 named.0.1.0) refl more.0 (new_subnet w ls p) refl (let s : length (statements_in ls) ≡ 0 = ap length made.statements in omega (arith, s, count)) in
    let fault : fault_at n (at version w ls) form ≡ None = rw none refl in
    let later = processes_read version ps w (n + 1) (ls ++ (n, form) ∷ []) (table ++ k ∷ []) (done ++ p ∷ []) all rest outcome more.1 (table_push table done n p is) (append_assoc done (p ∷ []) ps ∙ whole) (fresh_push table k ps fresh.1 differ.0) differ.1 named.1 count go in
    subst (λ (l : List ℕ). LeadsTo n (Some (at version w ls)) (lines l) outcome) (sym (append_assoc (process_line p) (flat_map process_line ps) rest))
    (one_line version n (at version w ls) (at version w (ls ++ (n, form) ∷ [])) ((Word p.0 ∷ open_token ∷ Word p.1 ∷ Close ∷ []) ∷ []) form (flat_map process_line ps ++ rest) outcome (version_at version w ls) (process_says version p named.0.0 named.0.1) fault (put_process version w ls n p) later) where
      stands : (w : Where) (ls : Lines) (p : List ℕ × List ℕ) → may_stand (at version w ls) (forms.Process p.0 p.1) ≡ true
      stands w ls p = refl

      new_subnet : (w : Where) (ls : Lines) (p : List ℕ × List ℕ) → is_new_subnet (at version w ls) (forms.Process p.0 p.1) ≡ true
      new_subnet w ls p = refl

-- A statement may stand in a subnet, or it gives it no outer port.
abbrev pub MayStand : Where → Statement → Type 0
MayStand (in_main done) s = IsInner s
MayStand (in_subnet done n name) s = Unit {0}

statement_stands : (version : ℕ) (w : Where) (ls : Lines) (s : Statement) (is : IsStatement version s) → MayStand w s → may_stand (at version w ls) (said_by version s is) ≡ true
statement_stands version (in_main done) ls (Connect from out capacity to into) is may = refl
statement_stands version (in_main done) ls (Initial text to into) is may = refl
statement_stands version (in_main done) ls (InPort outer to into) is may = absurd may
statement_stands version (in_main done) ls (OutPort from out outer) is may = absurd may
statement_stands version (in_subnet done n name) ls (Connect from out capacity to into) is may = refl
statement_stands version (in_subnet done n name) ls (Initial text to into) is may = refl
statement_stands version (in_subnet done n name) ls (InPort outer to into) is may = refl
statement_stands version (in_subnet done n name) ls (OutPort from out outer) is may = refl

statement_new : (version : ℕ) (w : Where) (ls : Lines) (s : Statement) (is : IsStatement version s) → is_new_subnet (at version w ls) (said_by version s is) ≡ true
statement_new version w ls (Connect from out capacity to into) is = refl
statement_new version w ls (Initial text to into) is = refl
statement_new version w ls (InPort outer to into) is = refl
statement_new version w ls (OutPort from out outer) is = refl

put_statement : (version : ℕ) (w : Where) (ls : Lines) (n : ℕ) (s : Statement) (is : IsStatement version s) → with_line (at version w ls) n (said_by version s is) ≡ at version w (ls ++ (n, said_by version s is) ∷ [])
put_statement version (in_main done) ls n (Connect from out capacity to into) is = refl
put_statement version (in_main done) ls n (Initial text to into) is = refl
put_statement version (in_main done) ls n (InPort outer to into) is = refl
put_statement version (in_main done) ls n (OutPort from out outer) is = refl
put_statement version (in_subnet done m name) ls n (Connect from out capacity to into) is = refl
put_statement version (in_subnet done m name) ls n (Initial text to into) is = refl
put_statement version (in_subnet done m name) ls n (InPort outer to into) is = refl
put_statement version (in_subnet done m name) ls n (OutPort from out outer) is = refl

statement_fault : (version n : ℕ) (parts : Parts) (s : Statement) (is : IsStatement version s) → reason_at parts (said_by version s is) ≡ None → fault_at n parts (said_by version s is) ≡ None
statement_fault version n parts (Connect from out capacity to into) is none = rw none refl
statement_fault version n parts (Initial text to into) is none = rw none refl
statement_fault version n parts (InPort outer to into) is none = rw none refl
statement_fault version n parts (OutPort from out outer) is none = rw none refl

-- The lines of statements, read one after another.
pub statements_read : (version : ℕ) (ss : List Statement) (w : Where) (n : ℕ) (ls : Lines) (table : List MentionedProcess) (processes : List (List ℕ × List ℕ)) (done all : List Statement) (rest : List ℕ) (outcome : Result NetText NetFault)
    → Made ls table done → IsTable table processes → done ++ ss ≡ all → AllByRecursion (IsStatement version) ss → AllByRecursion (NamesKnown processes) ss → AllByRecursion (MayStand w) ss → length all + elsewhere w ≤ STATEMENT_LIMIT
    → ((m : ℕ) (later : Lines) → Made later table all → LeadsTo m (Some (at version w later)) (lines rest) outcome)
    → LeadsTo n (Some (at version w ls)) (lines (flat_map statement_line ss ++ rest)) outcome
statements_read version [] w n ls table processes done all rest outcome made is whole said known stand count go = go n ls (subst (λ (l : List Statement). Made ls table l) (sym (append-nil done) ∙ whole) made)
statements_read version (s ∷ ss) w n ls table processes done all rest outcome made is whole said known stand count go =
    let form : Form = said_by version s said.0 in
    let same : table_with table n (mentions_of form) ≡ Some table = ap (table_with table n) (statement_mentions version s said.0) ∙ mentions_known (names_of s) table processes n is known.0 in
    let more = made_more ls table table done n form made same in
    let again : statements_of form ≡ s ∷ [] = statement_again version s said.0 in
    let long : length all ≡ length done + length (s ∷ ss) = ap length (sym whole) ∙ length-append done (s ∷ ss) in
    let so_far : length (statements_in ls) ≡ length done = ap length made.statements in
    let one : length (statements_of form) ≡ 1 = ap length again in
    let within : (length (statements_in ls) + elsewhere w) + length (statements_of form) ≤ STATEMENT_LIMIT = omega (arith, long, so_far, one, count) in
    let none : reason_at (at version w ls) form ≡ None = no_reason version w ls form (statement_stands version w ls s said.0 stand.0) (statement_named version s said.0) (statement_numbered version s said.0) more.0 (statement_new version w ls s said.0) (statement_fits version s said.0) within in
    let made_one : Made (ls ++ (n, form) ∷ []) table (done ++ s ∷ []) = subst (λ (l : List Statement). Made (ls ++ (n, form) ∷ []) table (done ++ l)) again more.1 in
    let later = statements_read version ss w (n + 1) (ls ++ (n, form) ∷ []) table processes (done ++ s ∷ []) all rest outcome made_one is (append_assoc done (s ∷ []) ss ∙ whole) said.1 known.1 stand.1 count go in
    subst (λ (l : List ℕ). LeadsTo n (Some (at version w ls)) (lines l) outcome) (sym (append_assoc (statement_line s) (flat_map statement_line ss) rest))
    (one_line version n (at version w ls) (at version w (ls ++ (n, form) ∷ [])) (statement_pieces s) form (flat_map statement_line ss ++ rest) outcome (version_at version w ls) (statement_says version s said.0) (statement_fault version n (at version w ls) s said.0 none) (put_statement version w ls n s said.0) later)

fresh_first : (ps : List (List ℕ × List ℕ)) → Fresh [] ps
fresh_first [] = tt
fresh_first (p ∷ ps) = (tt, fresh_first ps)

-- What the lines of a part give: its value, and no process without a kind.
pub record Gives (ls : Lines) (part : NetPart) : Type 0 where
  pub value : value_of ls ≡ part
  pub kinded : kindless_line (processes_in (mentions_in ls)) ≡ None

gives : (ls : Lines) (table : List MentionedProcess) (part : NetPart) → Made ls table part.statements → IsTable table part.processes → Gives ls part
gives ls table part made is =
    let left : (value_of ls).processes ≡ part.processes = ap (λ (l : List MentionedProcess). map (λ (p : MentionedProcess). (p.name, unwrap_or p.kind [])) l) made.known ∙ table_values table part.processes is in
    let build : List (List ℕ × List ℕ) → List Statement → NetPart = λ p s. record { processes = p; statements = s } in
    record { value = ap (λ (p : List (List ℕ × List ℕ)). build p (statements_in ls)) left ∙ ap (build part.processes) made.statements; kinded = ap kindless_line made.known ∙ table_kinded table part.processes is }

-- The lines of a part, read one after another.
pub part_read : (version : ℕ) (part : NetPart) (w : Where) (n : ℕ) (rest : List ℕ) (outcome : Result NetText NetFault) → IsNetPart version part → AllByRecursion (MayStand w) part.statements → length part.statements + elsewhere w ≤ STATEMENT_LIMIT
    → ((m : ℕ) (later : Lines) → Gives later part → LeadsTo m (Some (at version w later)) (lines rest) outcome) → LeadsTo n (Some (at version w [])) (lines (part_lines part ++ rest)) outcome
part_read version part w n rest outcome is stand count go =
    subst (λ (l : List ℕ). LeadsTo n (Some (at version w [])) (lines l) outcome) (sym (append_assoc (flat_map process_line part.processes) (flat_map statement_line part.statements) rest))
    (processes_read version part.processes w n [] [] [] part.processes (flat_map statement_line part.statements ++ rest) outcome (record { known = refl; statements = refl }) tt refl (fresh_first part.processes) is.differ is.named (omega arith)
    (λ m later table made same. statements_read version part.statements w m later table part.processes [] part.statements rest outcome made same refl is.said is.known stand count
    (λ k last all. go k last (gives last table part all same))))
