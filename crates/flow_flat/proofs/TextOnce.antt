-- A text with subnets comes to exactly one plan or fault.
use Rattle.std.proofs.Common.{◌≡◌, List, Ok, Err, refl, ap, sym, ◌∙◌, ◌⊎◌, inl, inr}
use Rattle.std.specs.declared.result.Result.{Result}
use Rattle.std.specs.List.{filter_map}
use Rattle.flow_net.specs.declared.fault.PlanFault.{PlanFault}
use Rattle.flow_plan.specs.declared.kind.KindSpec.{KindSpec}
use Rattle.flow_plan.specs.Network.{Network}
use Rattle.flow_plan.specs.Templates.{TemplateGiven, TemplatesFit, FirstUnfit}
use Rattle.flow_net.specs.Finishes.{unfit_fault}
use Rattle.flow_parse.specs.declared.value.NetText.{NetText}
use Rattle.flow_flat.specs.declared.fault.ExpandFault.{ExpandFault}
use Rattle.flow_flat.specs.declared.fault.ExpandFault.TheVariants as faults
use Rattle.flow_flat.specs.Names.{text_ports}
use Rattle.flow_flat.specs.Plans.{plan_of}
use Rattle.flow_flat.specs.Firsts.{AllPass, FirstFails}
use Rattle.flow_flat.specs.Faults.{StatementPasses, PortPasses, port_test, text_ends, sum_test}
use Rattle.flow_flat.specs.Texts.{RecursionPasses, InstancePasses, MeaningPasses, AsPlan, instance_test, deep_instances, all_instances, all_statements, flat_of, said, CanBeWrittenOut, IsSaid, HasTextFault, HasTextPlan, TextComesTo}
use Rattle.flow_flat.specs.Texts.HasTextFault.{of_subnet, of_process, of_statement, of_port, of_sum, of_template}
use Rattle.flow_flat.proofs.Once.{IsTest, FirstOrLater, HasOne, WholeFails, not_both, tests_once, statement_once, whole_once}
use Rattle.flow_flat.proofs.Decided.{Tests, all_or_first, said_tests}
use Rattle.flow_flat.proofs.Templates.{fit_or_first, fit_or_unfit}

as_plan_once : (P : Result (Unit {0}) PlanFault → Type 0) → ((a b : Result (Unit {0}) PlanFault) → P a → P b → a ≡ b) → (a b : Result (Unit {0}) ExpandFault) → AsPlan P a → AsPlan P b → a ≡ b
as_plan_once P one (Ok u) (Ok v) p q = refl
as_plan_once P one (Ok u) (Err (faults.Plan g)) p q = let same : ◌≡◌ {A = Result (Unit {0}) PlanFault} (Ok u) (Err g) = one (Ok u) (Err g) p q in absurd (cc)
as_plan_once P one (Err (faults.Plan f)) (Ok v) p q = let same : ◌≡◌ {A = Result (Unit {0}) PlanFault} (Err f) (Ok v) = one (Err f) (Ok v) p q in absurd (cc)
as_plan_once P one (Err (faults.Plan f)) (Err (faults.Plan g)) p q =
    let both : ◌≡◌ {A = Result (Unit {0}) PlanFault} (Err f) (Err g) = one (Err f) (Err g) p q in
    let same : f ≡ g = cc in
    ap (λ (h : PlanFault). Err (faults.Plan h)) same
as_plan_once P one (Ok u) (Err (faults.Recursive name)) p q = absurd q
as_plan_once P one (Ok u) (Err (faults.Depth name)) p q = absurd q
as_plan_once P one (Ok u) (Err (faults.OuterPort name port)) p q = absurd q
as_plan_once P one (Err (faults.Plan f)) (Err (faults.Recursive name)) p q = absurd q
as_plan_once P one (Err (faults.Plan f)) (Err (faults.Depth name)) p q = absurd q
as_plan_once P one (Err (faults.Plan f)) (Err (faults.OuterPort name port)) p q = absurd q
as_plan_once P one (Err (faults.Recursive name)) b p q = absurd p
as_plan_once P one (Err (faults.Depth name)) b p q = absurd p
as_plan_once P one (Err (faults.OuterPort name port)) b p q = absurd p

as_plan_some : (P : Result (Unit {0}) PlanFault → Type 0) → ((a : Result (Unit {0}) PlanFault) × P a) → (a : Result (Unit {0}) ExpandFault) × AsPlan P a
as_plan_some P (Ok u, p) = (Ok u, p)
as_plan_some P (Err f, p) = (Err (faults.Plan f), p)

module _ (kinds : List KindSpec) (text : NetText) where
  recursion_once : IsTest RecursionPasses
  recursion_once before x a b p q = sym p ∙ q

  instance_once : IsTest (InstancePasses text kinds)
  instance_once before x a b p q = sym p ∙ q

  meaning_once : IsTest (MeaningPasses kinds text)
  meaning_once before (Ok s) a b p q = as_plan_once (StatementPasses kinds (flat_of text) (filter_map said before) s) (λ c d. statement_once (flat_of text).processes (text_ports kinds (flat_of text).processes) (filter_map said before) s c d) a b p q
  meaning_once before (Err fault) a b p q = p ∙ sym q

  port_once : IsTest (PortPasses kinds (flat_of text))
  port_once before x a b p q = sym p ∙ q

  plan_or_fault : (plan : Network) (fault : ExpandFault) → HasTextPlan kinds text plan → HasTextFault kinds text fault → ⊥
  plan_or_fault plan fault p (of_subnet first) = not_both RecursionPasses _ fault recursion_once p.said.processes.ends first
  plan_or_fault plan fault p (of_process a first) = not_both (InstancePasses text kinds) _ fault instance_once p.said.processes.processes first
  plan_or_fault plan fault p (of_statement w first) = not_both (MeaningPasses kinds text) _ fault meaning_once p.said.statements first
  plan_or_fault plan fault p (of_port s cause is first) = not_both (PortPasses kinds (flat_of text)) _ cause port_once p.ports first
  plan_or_fault plan fault p (of_sum s ports cause is last) = let none = p.sum in cc
  plan_or_fault plan fault p (of_template s ports sum template is first) = fit_or_unfit (plan_of kinds (flat_of text)) template p.templates first

  -- A fault of the whole flat text, as one of the text.
  abbrev FlatFails : ExpandFault → Type 0
  FlatFails fault = (cause : PlanFault) × (fault ≡ faults.Plan cause) × WholeFails kinds (flat_of text) cause

  flat_once : HasOne FlatFails
  flat_once f g a b = a.1 ∙ ap faults.Plan (whole_once kinds (flat_of text) a.0 b.0 a.2 b.2) ∙ sym b.1

  staged : (fault : ExpandFault) → HasTextFault kinds text fault
      → FirstOrLater RecursionPasses (deep_instances text) (FirstOrLater (InstancePasses text kinds) (all_instances text) (FirstOrLater (MeaningPasses kinds text) (all_statements text) FlatFails)) fault
  staged fault (of_subnet first) = inl first
  staged fault (of_process ends first) = inr (ends, inl first)
  staged fault (of_statement w first) = inr (w.ends, inr (w.processes, inl first))
  staged fault (of_port s cause is first) = inr (s.processes.ends, inr (s.processes.processes, inr (s.statements, (cause, is, inl first))))
  staged fault (of_sum s ports cause is last) = inr (s.processes.ends, inr (s.processes.processes, inr (s.statements, (cause, is, inr (ports, inl last)))))
  staged fault (of_template s ports sum template is first) = inr (s.processes.ends, inr (s.processes.processes, inr (s.statements, (unfit_fault template, is, inr (ports, inr (sum, (template, first, refl)))))))

  one_fault : (f g : ExpandFault) → HasTextFault kinds text f → HasTextFault kinds text g → f ≡ g
  one_fault f g a b =
      tests_once RecursionPasses _ _ recursion_once (tests_once (InstancePasses text kinds) _ _ instance_once (tests_once (MeaningPasses kinds text) _ _ meaning_once flat_once)) f g (staged f a) (staged g b)

  pub text_once : (a b : Result Network ExpandFault) → TextComesTo kinds text a → TextComesTo kinds text b → a ≡ b
  text_once (Ok x) (Ok y) p q = ap Ok (p.is ∙ sym q.is)
  text_once (Ok x) (Err g) p q = absurd (plan_or_fault x g p q)
  text_once (Err f) (Ok y) p q = absurd (plan_or_fault y f q p)
  text_once (Err f) (Err g) p q = ap Err (one_fault f g p q)

  instance_tests : Tests (InstancePasses text kinds)
  instance_tests before x = (instance_test text kinds before x, refl)

  recursion_tests : Tests RecursionPasses
  recursion_tests before x = (_, refl)

  meaning_tests : Tests (MeaningPasses kinds text)
  meaning_tests before (Ok s) = as_plan_some (StatementPasses kinds (flat_of text) (filter_map said before) s) (said_tests kinds (flat_of text) (filter_map said before) s)
  meaning_tests before (Err fault) = (Err fault, refl)

  port_tests : Tests (PortPasses kinds (flat_of text))
  port_tests before port = (port_test (flat_of text).processes (text_ends kinds (flat_of text)) before port, refl)

  pub text_some : (outcome : Result Network ExpandFault) × TextComesTo kinds text outcome
  text_some = walked (all_or_first RecursionPasses recursion_tests (deep_instances text)) where
    fitted : IsSaid kinds text → AllPass (PortPasses kinds (flat_of text)) (text_ports kinds (flat_of text).processes) → sum_test (plan_of kinds (flat_of text)).connections ≡ Ok tt
        → TemplatesFit (plan_of kinds (flat_of text)) ⊎ ((template : TemplateGiven) × FirstUnfit (plan_of kinds (flat_of text)) template) → (outcome : Result Network ExpandFault) × TextComesTo kinds text outcome
    fitted s ports sum (inl fit) = (Ok (plan_of kinds (flat_of text)), record { said = s; ports = ports; sum = sum; templates = fit; is = refl })
    fitted s ports sum (inr first) = (Err (faults.Plan (unfit_fault first.0)), HasTextFault.of_template s ports sum first.0 refl first.1)

    summed : IsSaid kinds text → AllPass (PortPasses kinds (flat_of text)) (text_ports kinds (flat_of text).processes)
        → (r : Result (Unit {0}) PlanFault) → sum_test (plan_of kinds (flat_of text)).connections ≡ r → (outcome : Result Network ExpandFault) × TextComesTo kinds text outcome
    summed s ports (Ok u) is = fitted s ports is (fit_or_first (plan_of kinds (flat_of text)))
    summed s ports (Err fault) is = (Err (faults.Plan fault), HasTextFault.of_sum s ports fault refl is)

    laid : IsSaid kinds text → AllPass (PortPasses kinds (flat_of text)) (text_ports kinds (flat_of text).processes) ⊎ ((fault : PlanFault) × FirstFails (PortPasses kinds (flat_of text)) (text_ports kinds (flat_of text).processes) fault)
        → (outcome : Result Network ExpandFault) × TextComesTo kinds text outcome
    laid s (inl ports) = summed s ports (sum_test (plan_of kinds (flat_of text)).connections) refl
    laid s (inr first) = (Err (faults.Plan first.0), HasTextFault.of_port s first.0 refl first.1)

    meant : CanBeWrittenOut kinds text → AllPass (MeaningPasses kinds text) (all_statements text) ⊎ ((fault : ExpandFault) × FirstFails (MeaningPasses kinds text) (all_statements text) fault) → (outcome : Result Network ExpandFault) × TextComesTo kinds text outcome
    meant w (inl passed) = laid (record { processes = w; statements = passed }) (all_or_first (PortPasses kinds (flat_of text)) port_tests (text_ports kinds (flat_of text).processes))
    meant w (inr first) = (Err first.0, HasTextFault.of_statement w first.1)

    written : AllPass RecursionPasses (deep_instances text) → AllPass (InstancePasses text kinds) (all_instances text) ⊎ ((fault : ExpandFault) × FirstFails (InstancePasses text kinds) (all_instances text) fault) → (outcome : Result Network ExpandFault) × TextComesTo kinds text outcome
    written ends (inl passed) = meant (record { ends = ends; processes = passed }) (all_or_first (MeaningPasses kinds text) meaning_tests (all_statements text))
    written ends (inr first) = (Err first.0, HasTextFault.of_process ends first.1)

    walked : AllPass RecursionPasses (deep_instances text) ⊎ ((fault : ExpandFault) × FirstFails RecursionPasses (deep_instances text) fault) → (outcome : Result Network ExpandFault) × TextComesTo kinds text outcome
    walked (inl ends) = written ends (all_or_first (InstancePasses text kinds) instance_tests (all_instances text))
    walked (inr first) = (Err first.0, HasTextFault.of_subnet first.1)
