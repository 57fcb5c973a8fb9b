-- A flat text comes to a plan or to a fault.
use Rattle.std.proofs.Common.{◌≡◌, ◌≢◌, ℕ, ◌<◌, ◌≤◌, List, [], ◌∷◌, length, take, zero, suc, Option, Some, None, Ok, Err, refl, ap, sym, subst, ◌∙◌, ◌⊎◌, inl, inr, slice_get, arith}
use Rattle.std.specs.declared.result.Result.{Result}
use Rattle.std.proofs.lemmas.Option.{slice_get_within}
use Rattle.flow_net.specs.declared.draft.End.{End}
use Rattle.flow_net.specs.declared.fault.PlanFault.{PlanFault}
use Rattle.flow_net.specs.declared.fault.PlanFault.TheVariants.{BadOption}
use Rattle.flow_net.specs.Finishes.{unfit_fault}
use Rattle.flow_plan.specs.declared.kind.KindSpec.{KindSpec}
use Rattle.flow_plan.specs.declared.kind.PortRef.{PortRef}
use Rattle.flow_plan.specs.Network.{Network}
use Rattle.flow_plan.specs.Templates.{TemplateGiven, TemplatesFit, FirstUnfit}
use Rattle.flow_net.proofs.Places.{same_or_not}
use Rattle.flow_parse.specs.declared.value.Statement.TheVariants.{Connect, Initial, InPort, OutPort}
use Rattle.flow_parse.specs.declared.value.NetPart.{NetPart}
use Rattle.flow_flat.specs.Names.{PortAt, Join, text_ports, joins_of, texts_of}
use Rattle.flow_flat.specs.Plans.{plan_of}
use Rattle.flow_flat.specs.Firsts.{AllPass, FirstFails}
use Rattle.flow_flat.specs.Faults.{process_test, text_test, port_test, text_ends, sum_test, FitsAt, TextTest, ProcessPasses, StatementPasses, PortPasses, HasFault, ComesTo}
use Rattle.flow_flat.proofs.Classes.{Dec, dec_class}
use Rattle.flow_flat.proofs.Once.{take_take}
use Rattle.flow_flat.proofs.Templates.{fit_or_first}

dec_fits : (o : Option PortAt) (text : List ℕ) → Dec (FitsAt o text)
dec_fits None text = inr (λ none. none)
dec_fits (Some port) text = dec_class port.spec.class text

-- A test that always has an outcome.
abbrev pub Tests : {X F : Type 0} → (List X → X → Result (Unit {0}) F → Type 0) → Type 0
Tests {X} {F} Test = (before : List X) (x : X) → (outcome : Result (Unit {0}) F) × Test before x outcome

taken : {X : Type 0} (l : List X) (n k : ℕ) (x : X) → slice_get (take n l) k ≡ Some x → (k < n) × (slice_get l k ≡ Some x)
taken l zero k x is = absurd (cc)
taken [] (suc n) k x is = absurd (cc)
taken (y ∷ l) (suc n) zero x is = (omega arith, is)
taken (y ∷ l) (suc n) (suc k) x is = let rest = taken l n k x is in (omega (arith, rest.0), rest.1)

module _ {X : Type 0} {F : Type 0} (Test : List X → X → Result (Unit {0}) F → Type 0) (tests : Tests Test) (xs : List X) where
  -- The first so many pass.
  Passed : ℕ → Type 0
  Passed n = (k : ℕ) (x : X) → k < n → slice_get xs k ≡ Some x → Test (take k xs) x (Ok tt)

  before_is : (n : ℕ) → ((k : ℕ) (x : X) → k < n → slice_get xs k ≡ Some x → Test (take k xs) x (Ok tt)) → AllPass Test (take n xs)
  before_is n passed k x is =
      let there = taken xs n k x is in
      let below : k ≤ n = omega (arith, there.0) in
      subst (λ (l : List X). Test l x (Ok tt)) (sym (take_take xs k n below)) (passed k x there.0 there.1)

  more : (n : ℕ) (o : Option X) → slice_get xs n ≡ o → ((k : ℕ) (x : X) → k < n → slice_get xs k ≡ Some x → Test (take k xs) x (Ok tt))
      → ((k : ℕ) (x : X) → k < suc n → slice_get xs k ≡ Some x → Test (take k xs) x (Ok tt)) ⊎ ((fault : F) × FirstFails Test xs fault)
  more n None is passed = inl each where
    each : (k : ℕ) (x : X) → k < suc n → slice_get xs k ≡ Some x → Test (take k xs) x (Ok tt)
    each k x below there = by (same_or_not k n) where
      by : (k ≡ n) ⊎ (k ≢ n) → Test (take k xs) x (Ok tt)
      by (inl same) = let none : slice_get xs k ≡ None = ap (slice_get xs) same ∙ is in absurd (cc (none, there))
      by (inr ne) = passed k x (grind arith) there
  more n (Some y) is passed = by (tests (take n xs) y) where
    each : Test (take n xs) y (Ok tt) → (k : ℕ) (x : X) → k < suc n → slice_get xs k ≡ Some x → Test (take k xs) x (Ok tt)
    each last k x below there = which (same_or_not k n) where
      which : (k ≡ n) ⊎ (k ≢ n) → Test (take k xs) x (Ok tt)
      which (inl same) =
          let here : slice_get xs k ≡ Some y = ap (slice_get xs) same ∙ is in
          let one : y ≡ x = cc (here, there) in
          subst (λ (m : ℕ). Test (take m xs) x (Ok tt)) (sym same) (subst (λ (z : X). Test (take n xs) z (Ok tt)) one last)
      which (inr ne) = passed k x (grind arith) there

    by : ((outcome : Result (Unit {0}) F) × Test (take n xs) y outcome)
        → ((k : ℕ) (x : X) → k < suc n → slice_get xs k ≡ Some x → Test (take k xs) x (Ok tt)) ⊎ ((fault : F) × FirstFails Test xs fault)
    by (Ok u, passes) = inl (each passes)
    by (Err fault, fails) = inr (fault, record { place = n; one = y; here = is; fails = fails; before = before_is n passed })

  so_far : (n : ℕ) → ((k : ℕ) (x : X) → k < n → slice_get xs k ≡ Some x → Test (take k xs) x (Ok tt)) ⊎ ((fault : F) × FirstFails Test xs fault)
  so_far zero = inl (λ k x below there. absurd (omega arith))
  so_far (suc n) = by (so_far n) where
    by : ((k : ℕ) (x : X) → k < n → slice_get xs k ≡ Some x → Test (take k xs) x (Ok tt)) ⊎ ((fault : F) × FirstFails Test xs fault)
        → ((k : ℕ) (x : X) → k < suc n → slice_get xs k ≡ Some x → Test (take k xs) x (Ok tt)) ⊎ ((fault : F) × FirstFails Test xs fault)
    by (inl passed) = more n (slice_get xs n) refl passed
    by (inr first) = inr first

  -- Each of a list passes, or one is the first that fails.
  pub all_or_first : AllPass Test xs ⊎ ((fault : F) × FirstFails Test xs fault)
  all_or_first = by (so_far (length xs)) where
    by : ((k : ℕ) (x : X) → k < length xs → slice_get xs k ≡ Some x → Test (take k xs) x (Ok tt)) ⊎ ((fault : F) × FirstFails Test xs fault) → AllPass Test xs ⊎ ((fault : F) × FirstFails Test xs fault)
    by (inl passed) = inl (λ k x there. passed k x (slice_get_within xs k x there) there)
    by (inr first) = inr first

text_tests : (ps : List (List ℕ × List ℕ)) (at : List PortAt) (joins : List Join) (texts : List (End × List ℕ)) (text to : List ℕ) (into : PortRef) → (outcome : Result (Unit {0}) PlanFault) × TextTest ps at joins texts text to into outcome
text_tests ps at joins texts text to into = by (text_test ps at joins texts to into) refl where
  fits : (input : End) → text_test ps at joins texts to into ≡ Ok input → Dec (FitsAt (slice_get at input.port) text) → (outcome : Result (Unit {0}) PlanFault) × TextTest ps at joins texts text to into outcome
  fits input is (inl fit) = (Ok tt, (input, is, fit))
  fits input is (inr unfit) = (Err (BadOption to into), inr (refl, input, is, unfit))

  by : (r : Result End PlanFault) → text_test ps at joins texts to into ≡ r → (outcome : Result (Unit {0}) PlanFault) × TextTest ps at joins texts text to into outcome
  by (Ok input) is = fits input is (dec_fits (slice_get at input.port) text)
  by (Err fault) is = (Err fault, inl is)

module _ (kinds : List KindSpec) (text : NetPart) where
  process_tests : Tests (ProcessPasses kinds)
  process_tests before x = (process_test kinds before x, refl)

  pub said_tests : Tests (StatementPasses kinds text)
  said_tests before (Connect from out capacity to into) = (_, refl)
  said_tests before (Initial bytes to into) = text_tests text.processes (text_ports kinds text.processes) (joins_of text.processes (text_ports kinds text.processes) before) (texts_of text.processes (text_ports kinds text.processes) before) bytes to into
  said_tests before (InPort outer to into) = (Ok tt, refl)
  said_tests before (OutPort from out outer) = (Ok tt, refl)

  port_tests : Tests (PortPasses kinds text)
  port_tests before port = (port_test text.processes (text_ends kinds text) before port, refl)

  pub comes : (outcome : Result Network PlanFault) × ComesTo kinds text outcome
  comes = named (all_or_first (ProcessPasses kinds) process_tests text.processes) where
    fitted : AllPass (ProcessPasses kinds) text.processes → AllPass (StatementPasses kinds text) text.statements → AllPass (PortPasses kinds text) (text_ports kinds text.processes) → sum_test (plan_of kinds text).connections ≡ Ok tt
        → TemplatesFit (plan_of kinds text) ⊎ ((template : TemplateGiven) × FirstUnfit (plan_of kinds text) template) → (outcome : Result Network PlanFault) × ComesTo kinds text outcome
    fitted a b c d (inl fit) = (Ok (plan_of kinds text), record { processes = a; statements = b; ports = c; sum = d; templates = fit; is = refl })
    fitted a b c d (inr first) = (Err (unfit_fault first.0), HasFault.of_template a b c d first.0 first.1 refl)

    summed : AllPass (ProcessPasses kinds) text.processes → AllPass (StatementPasses kinds text) text.statements → AllPass (PortPasses kinds text) (text_ports kinds text.processes)
        → (r : Result (Unit {0}) PlanFault) → sum_test (plan_of kinds text).connections ≡ r → (outcome : Result Network PlanFault) × ComesTo kinds text outcome
    summed a b c (Ok u) is = fitted a b c is (fit_or_first (plan_of kinds text))
    summed a b c (Err fault) is = (Err fault, HasFault.of_sum a b c is)

    laid : AllPass (ProcessPasses kinds) text.processes → AllPass (StatementPasses kinds text) text.statements → AllPass (PortPasses kinds text) (text_ports kinds text.processes) ⊎ ((fault : PlanFault) × FirstFails (PortPasses kinds text) (text_ports kinds text.processes) fault)
        → (outcome : Result Network PlanFault) × ComesTo kinds text outcome
    laid a b (inl c) = summed a b c (sum_test (plan_of kinds text).connections) refl
    laid a b (inr first) = (Err first.0, HasFault.of_port a b first.1)

    said : AllPass (ProcessPasses kinds) text.processes → AllPass (StatementPasses kinds text) text.statements ⊎ ((fault : PlanFault) × FirstFails (StatementPasses kinds text) text.statements fault) → (outcome : Result Network PlanFault) × ComesTo kinds text outcome
    said a (inl b) = laid a b (all_or_first (PortPasses kinds text) port_tests (text_ports kinds text.processes))
    said a (inr first) = (Err first.0, HasFault.of_statement a first.1)

    named : AllPass (ProcessPasses kinds) text.processes ⊎ ((fault : PlanFault) × FirstFails (ProcessPasses kinds) text.processes fault) → (outcome : Result Network PlanFault) × ComesTo kinds text outcome
    named (inl a) = said a (all_or_first (StatementPasses kinds text) said_tests text.statements)
    named (inr first) = (Err first.0, HasFault.of_process first.1)
