-- No call changes the table of kinds.
use Rattle.std.proofs.Common.{◌≡◌, ℕ, List, [], ◌∷◌, Option, Result, Ok, Err, sym, ap, ◌∙◌}
use Rattle.std.specs.Prelude.{MatchResult}
use Rattle.flow_net.specs.declared.fault.PlanFault.{PlanFault}
use Rattle.flow_plan.specs.declared.kind.PortRef.{PortRef}
use Rattle.flow_net.specs.Drafts.{Draft, ◌>>=◌}
use Rattle.flow_net.specs.Calls.{kind_for, with_process, after_process, ends_of, may_join, joined, after_connect}
use Rattle.flow_net.proofs.Ends.{bind_ok}
use Rattle.flow_parse.specs.declared.value.Statement.{Statement}
use Rattle.flow_parse.specs.declared.value.Statement.TheVariants.{Connect, Initial, InPort, OutPort}
use Rattle.flow_flat.specs.Told.{after_processes, AfterText, AfterStatement, AfterMeant}
use Rattle.flow_flat.specs.declared.fault.ExpandFault.{ExpandFault}
use Rattle.flow_flat.specs.declared.fault.ExpandFault.TheVariants as faults

process_keeps : (draft next : Draft) (name kind : List ℕ) → after_process draft name kind ≡ Ok next → next.kinds ≡ draft.kinds
process_keeps draft next name kind is =
    let found = bind_ok (kind_for draft.kinds draft.processes name kind) (λ spec. Ok (with_process draft name spec)) next is in
    let made : with_process draft name found.0 ≡ next = cc (found.2) in
    sym (ap (λ (d : Draft). d.kinds) made)

-- Naming processes keeps the table.
pub processes_keep : (ps : List (List ℕ × List ℕ)) (draft next : Draft) → after_processes draft ps ≡ Ok next → next.kinds ≡ draft.kinds
processes_keep [] draft next is = let same : draft ≡ next = cc in sym (ap (λ (d : Draft). d.kinds) same)
processes_keep (p ∷ ps) draft next is =
    let found = bind_ok (after_process draft p.0 p.1) (λ d. after_processes d ps) next is in
    processes_keep ps found.0 next found.2 ∙ process_keeps draft found.0 p.0 p.1 found.1

connect_keeps : (draft next : Draft) (from : List ℕ) (out : PortRef) (capacity : Option ℕ) (to : List ℕ) (into : PortRef) → after_connect draft from out capacity to into ≡ Ok next → next.kinds ≡ draft.kinds
connect_keeps draft next from out capacity to into is =
    let ends = bind_ok (ends_of draft.processes draft.ports from out to into)
    (λ ends. may_join draft.ports draft.links from out to into capacity ends.0 ends.1 >>= λ allowed. Ok (joined draft ends.0 ends.1 capacity)) next is in
    let may = bind_ok (may_join draft.ports draft.links from out to into capacity ends.0.0 ends.0.1) (λ allowed. Ok (joined draft ends.0.0 ends.0.1 capacity)) next ends.2 in
    let made : joined draft ends.0.0 ends.0.1 capacity ≡ next = cc (may.2) in
    sym (ap (λ (d : Draft). d.kinds) made)

text_keeps : (draft next : Draft) (text to : List ℕ) (into : PortRef) → AfterText draft text to into (Ok next) → next.kinds ≡ draft.kinds
text_keeps draft next text to into given = ap (λ (d : Draft). d.kinds) given.3

statement_keeps : (s : Statement) (draft next : Draft) → AfterStatement draft s (Ok next) → next.kinds ≡ draft.kinds
statement_keeps (Connect from out capacity to into) draft next step = connect_keeps draft next from out capacity to into step
statement_keeps (Initial text to into) draft next step = text_keeps draft next text to into step
statement_keeps (InPort outer to into) draft next step = let same : next ≡ draft = cc in ap (λ (d : Draft). d.kinds) same
statement_keeps (OutPort from out outer) draft next step = let same : next ≡ draft = cc in ap (λ (d : Draft). d.kinds) same

-- Taking statements as they are meant keeps it.
pub meant_keep : (xs : List (Result Statement ExpandFault)) (draft next : Draft) → AfterMeant draft xs (Ok next) → next.kinds ≡ draft.kinds
meant_keep [] draft next end = let same : next ≡ draft = cc in ap (λ (d : Draft). d.kinds) same
meant_keep (Err fault ∷ xs) draft next end = absurd (cc)
meant_keep (Ok s ∷ xs) draft next steps = by steps.0 (λ d rest. meant_keep xs d next rest) steps.2 steps.3 where
  by : (step : Result Draft PlanFault) → ((d : Draft) → AfterMeant d xs (Ok next) → next.kinds ≡ d.kinds) → AfterStatement draft s step
      → MatchResult step (λ d. AfterMeant d xs (Ok next)) (λ fault. ◌≡◌ {A = Result Draft ExpandFault} (Ok next) (Err (faults.Plan fault))) → next.kinds ≡ draft.kinds
  by (Ok d) more step rest = more d rest ∙ statement_keeps s draft d step
  by (Err fault) more step rest = absurd (cc)
