-- What a builder that is told a flat text comes to, the text comes to.
use Rattle.std.proofs.Common.{◌≡◌, ℕ, List, [], Some, Ok, Err, refl, ap, sym, subst, ◌∙◌, inl, inr, slice_get}
use Rattle.std.specs.Prelude.{MatchResult, IsTrue}
use Rattle.std.specs.declared.result.Result.{Result}
use Rattle.std.specs.List.{All}
use Rattle.std.proofs.lemmas.Option.{slice_get_within, get_or_from_slice_get}
use Rattle.flow_net.specs.declared.fault.PlanFault.{PlanFault}
use Rattle.flow_plan.specs.declared.kind.KindSpec.{KindSpec}
use Rattle.flow_plan.specs.Network.{Network}
use Rattle.flow_plan.specs.Templates.{FirstUnfit, TemplatesFit}
use Rattle.flow_net.specs.Kinds.{is_table}
use Rattle.flow_net.specs.Drafts.{Draft, ◌>>=◌}
use Rattle.flow_net.specs.Finishes as finishes
use Rattle.flow_net.proofs.Ends.{bind_ok}
use Rattle.flow_net.proofs.KindTables.{IsSound-empty}
use Rattle.flow_parse.specs.declared.value.Statement.{Statement}
use Rattle.flow_parse.specs.declared.value.NetPart.{NetPart}
use Rattle.flow_flat.specs.Names.{PortAt, Join, text_ports, joins_of, texts_of}
use Rattle.flow_flat.specs.Plans.{Sized, sized_ports, network_of, plan_of}
use Rattle.flow_flat.specs.Firsts.{AllPass}
use Rattle.flow_flat.specs.Faults.{ProcessPasses, StatementPasses, PortPasses, HasFault, ComesTo, sum_test}
use Rattle.flow_flat.specs.Faults.HasFault.{of_process, of_statement, of_port, of_sum, of_template}
use Rattle.flow_flat.specs.Told.{IsShort, HasShortTexts, empty, after_processes, AfterStatements, IsFlat}
use Rattle.flow_flat.proofs.Naming.{Names, name_all, Named}
use Rattle.flow_flat.proofs.Walking.{Follows, walk, Walked}
use Rattle.flow_flat.proofs.Sizing.{sized_ports_are}
use Rattle.flow_flat.proofs.Planning.{plan_view}
use Rattle.flow_flat.proofs.Finishing.{ports_pass, port_fails, sum_alike}

short_at : (ss : List Statement) → All IsShort ss → (k : ℕ) (s : Statement) → slice_get ss k ≡ Some s → IsShort s
short_at ss all k s is = subst IsShort (get_or_from_slice_get ss k s s is) (all k s (slice_get_within ss k s is))

comes_err : (kinds : List KindSpec) (text : NetPart) (fault : PlanFault) (outcome : Result Network PlanFault) → outcome ≡ Err fault → HasFault kinds text fault → ComesTo kinds text outcome
comes_err kinds text fault outcome is has = subst (ComesTo kinds text) (sym is) has

module _ (kinds : List KindSpec) (text : NetPart) where
  ports : List PortAt
  ports = text_ports kinds text.processes

  -- A whole draft that agrees with the text.
  whole : (outcome : Result Network PlanFault) (draft : Draft) → AllPass (ProcessPasses kinds) text.processes → AllPass (StatementPasses kinds text) text.statements
      → Follows kinds text.processes (text_ports kinds text.processes) text.statements draft → finishes.FinishesTo draft outcome → ComesTo kinds text outcome
  whole outcome draft named said follows ends = by outcome ends
    where
      joins : List Join
      joins = joins_of text.processes (text_ports kinds text.processes) text.statements

      plan : finishes.plan_of draft ≡ plan_of kinds text
      plan =
          plan_view kinds text.processes (text_ports kinds text.processes) (joins_of text.processes (text_ports kinds text.processes) text.statements) (texts_of text.processes (text_ports kinds text.processes) text.statements) draft follows
          ∙ ap (λ (l : List Sized). network_of text.processes l (joins_of text.processes (text_ports kinds text.processes) text.statements) (texts_of text.processes (text_ports kinds text.processes) text.statements))
          (sym (sized_ports_are kinds text.processes (text_ports kinds text.processes) (joins_of text.processes (text_ports kinds text.processes) text.statements) (texts_of text.processes (text_ports kinds text.processes) text.statements) draft follows))

      sum : finishes.sum_fault draft.links ≡ sum_test (plan_of kinds text).connections
      sum = sum_alike kinds text.processes (text_ports kinds text.processes) (joins_of text.processes (text_ports kinds text.processes) text.statements) (texts_of text.processes (text_ports kinds text.processes) text.statements) draft follows
          (sized_ports (text_ports kinds text.processes) (joins_of text.processes (text_ports kinds text.processes) text.statements) (texts_of text.processes (text_ports kinds text.processes) text.statements))

      pass : (u : Unit {0}) → finishes.first_fault draft.processes draft.ports ≡ Ok u → AllPass (PortPasses kinds text) (text_ports kinds text.processes)
      pass u none = ports_pass kinds text.processes (text_ports kinds text.processes) (joins_of text.processes (text_ports kinds text.processes) text.statements) (texts_of text.processes (text_ports kinds text.processes) text.statements) draft follows u none

      passes : finishes.draft_fault draft ≡ Ok tt → AllPass (PortPasses kinds text) (text_ports kinds text.processes) × (sum_test (plan_of kinds text).connections ≡ Ok tt)
      passes none =
          let both = bind_ok (finishes.first_fault draft.processes draft.ports) (λ ok. finishes.sum_fault draft.links) tt none in
          (pass both.0 both.1, sym sum ∙ both.2)

      fails : (fault : PlanFault) (f : Result (Unit {0}) PlanFault) → finishes.first_fault draft.processes draft.ports ≡ f → (f >>= λ ok. finishes.sum_fault draft.links) ≡ Err fault → HasFault kinds text fault
      fails fault (Err cause) first is =
          of_port named said (port_fails kinds text.processes (text_ports kinds text.processes) (joins_of text.processes (text_ports kinds text.processes) text.statements) (texts_of text.processes (text_ports kinds text.processes) text.statements) draft follows fault (first ∙ is))
      fails fault (Ok u) first is = of_sum named said (pass u first) (sym sum ∙ is)

      by : (outcome : Result Network PlanFault) → finishes.FinishesTo draft outcome → ComesTo kinds text outcome
      by (Ok found) (none, fit, is) = record { processes = named; statements = said; ports = (passes none).0; sum = (passes none).1; templates = subst TemplatesFit plan fit; is = is ∙ plan }
      by (Err fault) (inl is) = fails fault (finishes.first_fault draft.processes draft.ports) refl is
      by (Err fault) (inr (none, template, first, is)) = of_template named said (passes none).0 (passes none).1 template (subst (λ (network : Network). FirstUnfit network template) plan first) is

  pub taken : (named : Draft) → AllPass (ProcessPasses kinds) text.processes → Names kinds text.processes named → All IsShort text.statements → (drafted : Result Draft PlanFault) → AfterStatements named text.statements drafted
      → (outcome : Result Network PlanFault) → MatchResult drafted (λ draft. finishes.FinishesTo draft outcome) (λ fault. outcome ≡ Err fault) → ComesTo kinds text outcome
  taken named passed names short drafted told outcome ends = by drafted (walk kinds text.processes (text_ports kinds text.processes) text.statements [] named drafted (short_at text.statements short) names told) ends
    where
      by : (drafted : Result Draft PlanFault) → Walked kinds text.processes (text_ports kinds text.processes) [] text.statements drafted → MatchResult drafted (λ draft. finishes.FinishesTo draft outcome) (λ fault. outcome ≡ Err fault) → ComesTo kinds text outcome
      by (Ok draft) walked ends = whole outcome draft passed walked.0 walked.1 ends
      by (Err fault) walked is = comes_err kinds text fault outcome is (of_statement passed (record { place = walked.0; one = walked.1; here = walked.2; fails = walked.3; before = walked.4 }))

  pub told_is_said : (outcome : Result Network PlanFault) → IsTrue (is_table kinds) → HasShortTexts text → IsFlat kinds text outcome → ComesTo kinds text outcome
  told_is_said outcome table short flat = by (after_processes (empty kinds) text.processes) (name_all kinds text.processes [] (empty kinds) (after_processes (empty kinds) text.processes) start refl) flat.1
    where
      start : Names kinds [] (empty kinds)
      start = record { sound = IsSound-empty kinds table; kinds = refl; names = refl; ports = refl; links = refl; texts = λ p b is. absurd (cc); there = λ k t is. absurd (cc) }

      by : (r : Result Draft PlanFault) → Named kinds [] text.processes r → MatchResult r (λ named. AfterStatements named text.statements flat.0) (λ fault. flat.0 ≡ Err fault) → ComesTo kinds text outcome
      by (Ok named) walked told = taken named walked.0 walked.1 short flat.0 told outcome flat.2
      by (Err fault) walked told = comes_err kinds text fault outcome (subst (λ (r : Result Draft PlanFault). MatchResult r (λ draft. finishes.FinishesTo draft outcome) (λ fault. outcome ≡ Err fault)) told flat.2)
          (of_process (record { place = walked.0; one = walked.1; here = walked.2; fails = walked.3; before = walked.4 }))
