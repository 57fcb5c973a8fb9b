-- A flat text comes to one plan or one fault at most.
use Rattle.std.proofs.Common.{◌≡◌, ◌≢◌, ℕ, ◌<◌, ◌≤◌, List, [], ◌∷◌, take, zero, suc, Some, Ok, Err, refl, ap, sym, subst, ◌∙◌, ◌⊎◌, inl, inr, slice_get, arith}
use Rattle.std.specs.declared.result.Result.{Result}
use Rattle.flow_net.specs.declared.draft.End.{End}
use Rattle.flow_net.specs.declared.fault.PlanFault.{PlanFault}
use Rattle.flow_plan.specs.declared.kind.KindSpec.{KindSpec}
use Rattle.flow_plan.specs.declared.kind.PortRef.{PortRef}
use Rattle.flow_plan.specs.Network.{Network}
use Rattle.flow_plan.specs.Templates.{TemplateGiven, FirstUnfit}
use Rattle.flow_net.specs.Finishes.{unfit_fault}
use Rattle.flow_net.proofs.Places.{same_or_not}
use Rattle.flow_parse.specs.declared.value.Statement.TheVariants.{Connect, Initial, InPort, OutPort}
use Rattle.flow_parse.specs.declared.value.NetPart.{NetPart}
use Rattle.flow_flat.specs.Names.{PortAt, Join, text_ports}
use Rattle.flow_flat.specs.Plans.{plan_of}
use Rattle.flow_flat.specs.Firsts.{AllPass, FirstFails}
use Rattle.flow_flat.specs.Faults.{ProcessPasses, StatementPasses, PortPasses, StatementTest, TextTest, FitsAt, HasFault, HasPlan, ComesTo, sum_test}
use Rattle.flow_flat.specs.Faults.HasFault.{of_process, of_statement, of_port, of_sum, of_template}
use Rattle.flow_flat.proofs.Templates.{fit_or_unfit, unfit_once}

-- A test with one outcome at most.
abbrev pub IsTest : {X F : Type 0} → (List X → X → Result (Unit {0}) F → Type 0) → Type 0
IsTest {X} {F} Test = (before : List X) (x : X) (a b : Result (Unit {0}) F) → Test before x a → Test before x b → a ≡ b

-- The first of the first are the first.
pub take_take : {X : Type 0} (xs : List X) (j n : ℕ) → j ≤ n → take j (take n xs) ≡ take j xs
take_take xs zero n few = refl
take_take xs (suc j) zero few = absurd (omega arith)
take_take [] (suc j) (suc n) few = refl
take_take (x ∷ xs) (suc j) (suc n) few = ap (λ l. x ∷ l) (take_take xs j n (omega arith))

take_at : {X : Type 0} (xs : List X) (n k : ℕ) (x : X) → k < n → slice_get xs k ≡ Some x → slice_get (take n xs) k ≡ Some x
take_at xs zero k x below is = absurd (omega arith)
take_at [] (suc n) k x below is = absurd (cc)
take_at (y ∷ xs) (suc n) zero x below is = is
take_at (y ∷ xs) (suc n) (suc k) x below is = take_at xs n k x (omega arith) is

order : (p q : ℕ) → p ≢ q → (p < q) ⊎ (q < p)
order p q ne = grind arith

-- Not all pass where a first one fails.
pub not_both : {X F : Type 0} (Test : List X → X → Result (Unit {0}) F → Type 0) (xs : List X) (fault : F) → IsTest Test → AllPass Test xs → FirstFails Test xs fault → ⊥
not_both {X} {F} Test xs fault test all first =
    let same : ◌≡◌ {A = Result (Unit {0}) F} (Ok tt) (Err fault) = test (take first.place xs) first.one (Ok tt) (Err fault) (all first.place first.one first.here) first.fails in
    cc

-- Of two that fail first, neither comes before the other.
not_before : {X F : Type 0} (Test : List X → X → Result (Unit {0}) F → Type 0) (xs : List X) (f g : F) → IsTest Test → (a : FirstFails Test xs f) (b : FirstFails Test xs g) → a.place < b.place → ⊥
not_before {X} {F} Test xs f g test a b below =
    let passed : Test (take a.place xs) a.one (Ok tt) = subst (λ (l : List X). Test l a.one (Ok tt)) (take_take xs a.place b.place (omega arith)) (b.before a.place a.one (take_at xs b.place a.place a.one below a.here)) in
    let same : ◌≡◌ {A = Result (Unit {0}) F} (Ok tt) (Err f) = test (take a.place xs) a.one (Ok tt) (Err f) passed a.fails in
    cc

-- The first failure is one.
pub first_once : {X F : Type 0} (Test : List X → X → Result (Unit {0}) F → Type 0) (xs : List X) (f g : F) → IsTest Test → FirstFails Test xs f → FirstFails Test xs g → f ≡ g
first_once {X} {F} Test xs f g test a b = by (same_or_not a.place b.place) where
  at : a.place ≡ b.place → f ≡ g
  at same =
      let one : a.one ≡ b.one = cc (a.here, b.here, same) in
      let fails : Test (take b.place xs) b.one (Err f) = subst (λ (x : X). Test (take b.place xs) x (Err f)) one (subst (λ (k : ℕ). Test (take k xs) a.one (Err f)) same a.fails) in
      let both : ◌≡◌ {A = Result (Unit {0}) F} (Err f) (Err g) = test (take b.place xs) b.one (Err f) (Err g) fails b.fails in
      cc

  apart : (a.place < b.place) ⊎ (b.place < a.place) → f ≡ g
  apart (inl below) = absurd (not_before Test xs f g test a b below)
  apart (inr below) = absurd (not_before Test xs g f test b a below)

  by : (a.place ≡ b.place) ⊎ (a.place ≢ b.place) → f ≡ g
  by (inl same) = at same
  by (inr ne) = apart (order a.place b.place ne)

-- Of two stages that follow one another the first fails with this, or it passes and the second does.
abbrev pub Stages : {F : Type 0} → Type 0 → (F → Type 0) → (F → Type 0) → F → Type 0
Stages Passes Fails Later fault = Fails fault ⊎ (Passes × Later fault)

-- Of this there is one at most.
abbrev pub HasOne : {F : Type 0} → (F → Type 0) → Type 0
HasOne {F} Fails = (f g : F) → Fails f → Fails g → f ≡ g

-- Stages have one fault at most, where each of them has.
pub stages_once : {F : Type 0} (Passes : Type 0) (Fails Later : F → Type 0) → (Passes → (f : F) → Fails f → ⊥) → HasOne Fails → HasOne Later → HasOne (Stages Passes Fails Later)
stages_once Passes Fails Later apart fails later f g (inl a) (inl b) = fails f g a b
stages_once Passes Fails Later apart fails later f g (inl a) (inr b) = absurd (apart b.0 f a)
stages_once Passes Fails Later apart fails later f g (inr a) (inl b) = absurd (apart a.0 g b)
stages_once Passes Fails Later apart fails later f g (inr a) (inr b) = later f g a.1 b.1

-- Of a list one is the first that fails with this, or each passes and a later stage fails.
abbrev pub FirstOrLater : {X F : Type 0} → (List X → X → Result (Unit {0}) F → Type 0) → List X → (F → Type 0) → F → Type 0
FirstOrLater Test xs Later = Stages (AllPass Test xs) (FirstFails Test xs) Later

pub tests_once : {X F : Type 0} (Test : List X → X → Result (Unit {0}) F → Type 0) (xs : List X) (Later : F → Type 0) → IsTest Test → HasOne Later → HasOne (FirstOrLater Test xs Later)
tests_once Test xs Later test later = stages_once (AllPass Test xs) (FirstFails Test xs) Later (λ all f first. not_both Test xs f test all first) (λ f g a b. first_once Test xs f g test a b) later

text_once : (ps : List (List ℕ × List ℕ)) (at : List PortAt) (joins : List Join) (texts : List (End × List ℕ)) (text to : List ℕ) (into : PortRef) (a b : Result (Unit {0}) PlanFault) → TextTest ps at joins texts text to into a → TextTest ps at joins texts text to into b → a ≡ b
text_once ps at joins texts text to into (Ok u) (Ok v) p q = refl
text_once ps at joins texts text to into (Ok u) (Err g) p (inl q) = absurd (cc (p.1, q))
text_once ps at joins texts text to into (Ok u) (Err g) p (inr q) =
    let same : p.0 ≡ q.1 = cc (p.1, q.2) in
    absurd (q.3 (subst (λ (e : End). FitsAt (slice_get at e.port) text) same p.2))
text_once ps at joins texts text to into (Err f) (Ok v) (inl p) q = absurd (cc (p, q.1))
text_once ps at joins texts text to into (Err f) (Ok v) (inr p) q =
    let same : q.0 ≡ p.1 = cc (p.2, q.1) in
    absurd (p.3 (subst (λ (e : End). FitsAt (slice_get at e.port) text) same q.2))
text_once ps at joins texts text to into (Err f) (Err g) (inl p) (inl q) = let same : f ≡ g = cc in ap Err same
text_once ps at joins texts text to into (Err f) (Err g) (inl p) (inr q) = absurd (cc (p, q.2))
text_once ps at joins texts text to into (Err f) (Err g) (inr p) (inl q) = absurd (cc (q, p.2))
text_once ps at joins texts text to into (Err f) (Err g) (inr p) (inr q) = ap Err (p.0 ∙ sym q.0)

-- The test of a statement has one answer.
pub statement_once : (ps : List (List ℕ × List ℕ)) (at : List PortAt) → IsTest (StatementTest ps at)
statement_once ps at before (Connect from out capacity to into) a b p q = sym p ∙ q
statement_once ps at before (Initial text to into) a b p q = text_once ps at _ _ text to into a b p q
statement_once ps at before (InPort outer to into) a b p q = p ∙ sym q
statement_once ps at before (OutPort from out outer) a b p q = p ∙ sym q

module _ (kinds : List KindSpec) (text : NetPart) where
  process_once : IsTest (ProcessPasses kinds)
  process_once before x a b p q = sym p ∙ q

  said_once : IsTest (StatementPasses kinds text)
  said_once before s a b p q = statement_once text.processes _ before s a b p q

  port_once : IsTest (PortPasses kinds text)
  port_once before x a b p q = sym p ∙ q

  plan_or_fault : (plan : Network) (fault : PlanFault) → HasPlan kinds text plan → HasFault kinds text fault → ⊥
  plan_or_fault plan fault p (of_process first) = not_both (ProcessPasses kinds) _ fault process_once p.processes first
  plan_or_fault plan fault p (of_statement named first) = not_both (StatementPasses kinds text) _ fault said_once p.statements first
  plan_or_fault plan fault p (of_port named said first) = not_both (PortPasses kinds text) _ fault port_once p.ports first
  plan_or_fault plan fault p (of_sum named said ports last) = let none = p.sum in cc
  plan_or_fault plan fault p (of_template named said ports sum template first is) = fit_or_unfit (plan_of kinds text) template p.templates first

  abbrev pub TemplateFails : PlanFault → Type 0
  TemplateFails fault = (template : TemplateGiven) × FirstUnfit (plan_of kinds text) template × (fault ≡ unfit_fault template)

  -- What is looked at once all statements are there: the ports, then the sum, then the templates.
  abbrev pub WholeFails : PlanFault → Type 0
  WholeFails = FirstOrLater (PortPasses kinds text) (text_ports kinds text.processes)
      (Stages (sum_test (plan_of kinds text).connections ≡ Ok tt) (λ fault. sum_test (plan_of kinds text).connections ≡ Err fault) TemplateFails)

  sum_once : (f g : PlanFault) → sum_test (plan_of kinds text).connections ≡ Err f → sum_test (plan_of kinds text).connections ≡ Err g → f ≡ g
  sum_once f g a b = cc

  template_once : (f g : PlanFault) → TemplateFails f → TemplateFails g → f ≡ g
  template_once f g a b = a.2 ∙ ap unfit_fault (unfit_once (plan_of kinds text) a.0 b.0 a.1 b.1) ∙ sym b.2

  pub whole_once : HasOne WholeFails
  whole_once = tests_once (PortPasses kinds text) _ _ port_once (stages_once _ _ _ (λ some f none. let is = some in cc) sum_once template_once)

  staged : (fault : PlanFault) → HasFault kinds text fault → FirstOrLater (ProcessPasses kinds) text.processes (FirstOrLater (StatementPasses kinds text) text.statements WholeFails) fault
  staged fault (of_process first) = inl first
  staged fault (of_statement a first) = inr (a, inl first)
  staged fault (of_port a b first) = inr (a, inr (b, inl first))
  staged fault (of_sum a b c last) = inr (a, inr (b, inr (c, inl last)))
  staged fault (of_template a b c d template first is) = inr (a, inr (b, inr (c, inr (d, (template, first, is)))))

  one_fault : (f g : PlanFault) → HasFault kinds text f → HasFault kinds text g → f ≡ g
  one_fault f g a b = tests_once (ProcessPasses kinds) _ _ process_once (tests_once (StatementPasses kinds text) _ _ said_once whole_once) f g (staged f a) (staged g b)

  pub comes_once : (a b : Result Network PlanFault) → ComesTo kinds text a → ComesTo kinds text b → a ≡ b
  comes_once (Ok x) (Ok y) p q = ap Ok (p.is ∙ sym q.is)
  comes_once (Ok x) (Err g) p q = absurd (plan_or_fault x g p q)
  comes_once (Err f) (Ok y) p q = absurd (plan_or_fault y f q p)
  comes_once (Err f) (Err g) p q = ap Err (one_fault f g p q)
