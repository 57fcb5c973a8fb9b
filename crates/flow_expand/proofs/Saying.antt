-- What a text comes to, where its processes and then its statements were told to a builder.
use Rattle.std.proofs.Common.{◌≡◌, ℕ, Bool, true, false, cond, List, [], ◌∷◌, ◌++◌, map, Some, Ok, Err, Result, refl, ap, sym, subst, ◌∙◌, inl, inr}
use Rattle.std.specs.Prelude.{IsTrue}
use Rattle.std.specs.List.{All, AllByRecursion, find, filter_map, flat_map, cons_option}
use Rattle.std.specs.Option.{option_map}
use Rattle.std.specs.Str.{bytes_eq}
use Rattle.std.proofs.lemmas.List.Elements.{All-nil, All-cons}
use Rattle.flow_net.specs.declared.fault.PlanFault.{PlanFault}
use Rattle.flow_net.specs.declared.fault.PlanStop.{PlanStop}
use Rattle.flow_net.specs.declared.fault.PlanStop.TheVariants as plans
use Rattle.flow_plan.specs.declared.kind.KindSpec.{KindSpec}
use Rattle.flow_net.specs.Kinds.{is_table}
use Rattle.flow_plan.specs.Network.{Network}
use Rattle.flow_net.specs.Drafts.{Draft}
use Rattle.flow_net.specs.Finishes.{Finishes, FinishesTo}
use Rattle.flow_net.proofs.KindTables.{IsSound-empty}
use Rattle.flow_parse.specs.declared.value.Statement.{Statement}
use Rattle.flow_parse.specs.declared.value.NetText.{NetText}
use Rattle.flow_parse.specs.Values.{IsName, IsStatement, IsNetPart, IsNetText}
use Rattle.flow_parse.specs.declared.value.Statement.TheVariants.{Connect, Initial, InPort, OutPort}
use Rattle.flow_parse.specs.declared.value.NetPart.{NetPart}
use Rattle.flow_flat.specs.declared.fault.ExpandFault.{ExpandFault}
use Rattle.flow_flat.specs.Firsts.{AllPass}
use Rattle.flow_flat.specs.Faults.{ProcessPasses}
use Rattle.flow_flat.specs.Subnets.{Instance, statement_meant}
use Rattle.flow_flat.specs.Laws.{own_statements}
use Rattle.flow_flat.specs.Texts.{all_instances, all_statements, flat_of, plain_process, CanBeWrittenOut, TextComesTo}
use Rattle.flow_flat.specs.Told.{IsShort, HasShortTexts, empty, after_processes, AfterMeant}
use Rattle.flow_flat.proofs.Once.{not_both}
use Rattle.flow_flat.proofs.Naming.{Names, Named, name_all}
use Rattle.flow_flat.proofs.Preorder.{all_in_order}
use Rattle.flow_flat.proofs.Differ.{flat_passes}
use Rattle.flow_flat.proofs.Whole.{as_text}
use Rattle.flow_flat.proofs.Meaning.{meant_is_said}
use Rattle.flow_flat.proofs.TextOnce.{text_once}
use Rattle.flow_expand.specs.declared.stop.ExpandStop.{ExpandStop}
use Rattle.flow_expand.specs.declared.stop.ExpandStop.TheVariants.{Fault, NoMemory}
use Rattle.flow_expand.specs.Outcomes.{Gives, Leaves, stop_of}
use Rattle.flow_expand.specs.Tells.{own_process, own_meant, meant_all, HasShortSubnets, Told}
use Rattle.flow_expand.specs.Walks.{outline}
use Rattle.flow_expand.proofs.Telling.{meant_append, meant_stops}

processes_same : (text : NetText) (xs : List Instance) → filter_map (own_process text) (map outline xs) ≡ filter_map (plain_process text) xs
processes_same text [] = refl
processes_same text (x ∷ xs) = ap (cons_option (plain_process text x)) (processes_same text xs)

statements_same : (text : NetText) (xs : List Instance) → flat_map (own_meant text) (map outline xs) ≡ flat_map (own_statements text) xs
statements_same text [] = refl
statements_same text (x ∷ xs) = ap (λ (l : List (Result Statement ExpandFault)). own_statements text x ++ l) (statements_same text xs)

module _ (kinds : List KindSpec) (text : NetText) (table : IsTrue (is_table kinds)) (valid : IsNetText text) (written : CanBeWrittenOut kinds text) (list : List (List ℕ × List ℕ)) (listed : list ≡ map outline (all_instances text)) where
  start : Names kinds [] (empty kinds)
  start = record { sound = IsSound-empty kinds table; kinds = refl; names = refl; ports = refl; links = refl; texts = λ p b is. absurd (cc); there = λ k t is. absurd (cc) }

  flat_processes : filter_map (own_process text) list ≡ (flat_of text).processes
  flat_processes = ap (filter_map (own_process text)) listed ∙ processes_same text (all_instances text)

  flat_statements : meant_all text list ≡ all_statements text
  flat_statements = ap (λ (l : List (List ℕ × List ℕ)). meant_all text l) listed
      ∙ ap (λ (l : List (Result Statement ExpandFault)). filter_map (statement_meant text [] text.main) text.main.statements ++ l) (statements_same text (all_instances text))
      ∙ sym (all_in_order text)

  passed : AllPass (ProcessPasses kinds) (flat_of text).processes
  passed = flat_passes kinds text valid written.processes

  names_of : (r : Result Draft PlanFault) → after_processes (empty kinds) (filter_map (own_process text) list) ≡ r → Named kinds [] (flat_of text).processes r
  names_of r is = name_all kinds (flat_of text).processes [] (empty kinds) r start (ap (after_processes (empty kinds)) (sym flat_processes) ∙ is)

  never : (cause : PlanFault) → after_processes (empty kinds) (filter_map (own_process text) list) ≡ Err cause → ⊥
  never cause is =
      let n = names_of (Err cause) is in
      not_both (ProcessPasses kinds) (flat_of text).processes cause (λ before x a b p q. sym p ∙ q) passed (record { place = n.0; one = n.1; here = n.2; fails = n.3; before = n.4 })

  meant_of : (named : Draft) (drafted : Result Draft ExpandFault) → AfterMeant named (meant_all text list) drafted → AfterMeant named (all_statements text) drafted
  meant_of named drafted told = subst (λ (l : List (Result Statement ExpandFault)). AfterMeant named l drafted) flat_statements told

  -- A text that a builder refuses to be told has that fault.
  pub told_stops : (stop : ExpandStop) → Told text kinds list (Err stop) → Gives {X = Network} (Err stop) (λ outcome. TextComesTo kinds text outcome)
  told_stops (Fault fault) (inl named) = absurd (never named.0 named.2)
  told_stops (Fault fault) (inr told) = meant_is_said kinds text written told.0 passed (names_of (Ok told.0) told.1).1 (Err fault) (meant_of told.0 (Err fault) told.2) (Err fault) refl
  told_stops NoMemory told = tt

  concludes : (draft : Draft) → Told text kinds list (Ok draft) → (answer : Result Network PlanFault) → FinishesTo draft answer → TextComesTo kinds text (as_text answer)
  concludes draft told answer ends =
      meant_is_said kinds text written told.0 passed (names_of (Ok told.0) told.1).1 (Ok draft) (meant_of told.0 (Ok draft) told.2) (as_text answer) (answer, ends, refl)

  -- One that was told and isn't whole has that fault.
  pub finish_stops : (draft : Draft) → Told text kinds list (Ok draft) → (stop : PlanStop) → Finishes draft (Err stop) → Gives {X = Network} (Err (stop_of stop)) (λ outcome. TextComesTo kinds text outcome)
  finish_stops draft told (plans.Fault fault) is = concludes draft told (Err fault) is
  finish_stops draft told plans.NoMemory is = tt

  -- One that was told and is whole is that plan.
  pub finish_plan : (draft : Draft) → Told text kinds list (Ok draft) → (plan : Network) → FinishesTo draft (Ok plan) → TextComesTo kinds text (Ok plan)
  finish_plan draft told plan is = concludes draft told (Ok plan) is

module _ (text : NetText) (kinds : List KindSpec) (list : List (List ℕ × List ℕ)) (named : Draft) (is : after_processes (empty kinds) (filter_map (own_process text) list) ≡ Ok named) where
  -- A statement of main stops the telling.
  pub main_stops : (stop : ExpandStop) (new : Draft) → Leaves (Err stop) new (λ outcome. AfterMeant named (filter_map (statement_meant text [] text.main) text.main.statements) outcome) → Told text kinds list (Err stop)
  main_stops (Fault fault) new told = inr (named, is, meant_stops (filter_map (statement_meant text [] text.main) text.main.statements) (flat_map (own_meant text) list) named fault told)
  main_stops NoMemory new told = tt

  -- A statement of a subnet does.
  pub subnets_stop : (stop : ExpandStop) (mid new : Draft) → AfterMeant named (filter_map (statement_meant text [] text.main) text.main.statements) (Ok mid) → Leaves (Err stop) new (λ outcome. AfterMeant mid (flat_map (own_meant text) list) outcome) → Told text kinds list (Err stop)
  subnets_stop (Fault fault) mid new first told = inr (named, is, meant_append (filter_map (statement_meant text [] text.main) text.main.statements) (flat_map (own_meant text) list) named mid (Err fault) first told)
  subnets_stop NoMemory mid new first told = tt

-- The texts of a valid part are short.
short_one : (version : ℕ) (s : Statement) → IsStatement version s → IsShort s
short_one version (Connect from out capacity to into) is = tt
short_one version (Initial text to into) is = is.0.1
short_one version (InPort outer to into) is = tt
short_one version (OutPort from out outer) is = tt

short_all : (version : ℕ) (ss : List Statement) → AllByRecursion (IsStatement version) ss → All IsShort ss
short_all version [] is = All-nil IsShort
short_all version (s ∷ ss) is = All-cons IsShort s ss (short_one version s is.0) (short_all version ss is.1)

-- The texts of the main part of a value are within their limit.
pub short_main : (text : NetText) → IsNetText text → HasShortTexts text.main
short_main text valid = short_all text.version text.main.statements valid.main.said

short_found : (version : ℕ) (subnets : List (List ℕ × NetPart)) (name : List ℕ) (part : NetPart) → AllByRecursion (λ (s : List ℕ × NetPart). IsName s.0 × IsNetPart version s.1) subnets → option_map (λ (s : List ℕ × NetPart). s.1) (find (λ (s : List ℕ × NetPart). bytes_eq s.0 name) subnets) ≡ Some part → HasShortTexts part
short_found version [] name part all is = absurd (cc)
short_found version (s ∷ ss) name part all is = by (λ there. short_found version ss name part all.1 there) (bytes_eq s.0 name) is where
  by : (option_map (λ (s : List ℕ × NetPart). s.1) (find (λ (s : List ℕ × NetPart). bytes_eq s.0 name) ss) ≡ Some part → HasShortTexts part) → (b : Bool) → option_map (λ (s : List ℕ × NetPart). s.1) (cond b (Some s) (find (λ (s : List ℕ × NetPart). bytes_eq s.0 name) ss)) ≡ Some part → HasShortTexts part
  by more true is = let same : s.1 ≡ part = cc in subst HasShortTexts same (short_all version s.1.statements all.0.1.said)
  by more false is = more is

-- So are those of its subnets.
pub short_subnets : (text : NetText) → IsNetText text → HasShortSubnets text
short_subnets text valid name part is = short_found text.version text.subnets name part valid.subnets is

-- What a text comes to is the one answer.
pub only : (kinds : List KindSpec) (text : NetText) (result : Result Network ExpandStop) (outcome : Result Network ExpandFault) → Gives result (λ found. TextComesTo kinds text found) → TextComesTo kinds text outcome → Gives result (λ found. found ≡ outcome)
only kinds text (Ok plan) outcome said there = text_once kinds text (Ok plan) outcome said there
only kinds text (Err (Fault fault)) outcome said there = text_once kinds text (Err fault) outcome said there
only kinds text (Err NoMemory) outcome said there = tt
