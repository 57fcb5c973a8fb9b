-- A builder that is told a flat text comes to something, and so to what the text comes to.
use Rattle.std.proofs.Common.{◌≡◌, ℕ, List, [], ◌∷◌, Option, Some, None, Ok, Err, refl, subst, ◌⊎◌, inl, inr, slice_get}
use Rattle.std.specs.Prelude.{MatchResult, IsTrue}
use Rattle.std.specs.declared.result.Result.{Result}
use Rattle.flow_net.specs.declared.draft.End.{End}
use Rattle.flow_net.specs.declared.draft.DraftPort.{DraftPort}
use Rattle.flow_net.specs.declared.fault.PlanFault.{PlanFault}
use Rattle.flow_net.specs.declared.fault.PlanFault.TheVariants.{BadOption}
use Rattle.flow_plan.specs.declared.kind.KindSpec.{KindSpec}
use Rattle.flow_plan.specs.declared.kind.PortRef.{PortRef}
use Rattle.flow_plan.specs.Network.{Network}
use Rattle.flow_plan.specs.Templates.{TemplateGiven, FirstUnfit, TemplatesFit}
use Rattle.flow_net.specs.Kinds.{is_table}
use Rattle.flow_net.specs.Drafts.{Draft}
use Rattle.flow_net.specs.Calls.{input_for, after_connect, given as gives}
use Rattle.flow_net.specs.Options.{FitsPort}
use Rattle.flow_net.specs.Finishes.{FinishesTo, draft_fault, plan_of, unfit_fault}
use Rattle.flow_parse.specs.declared.value.Statement.{Statement}
use Rattle.flow_parse.specs.declared.value.Statement.TheVariants.{Connect, Initial, InPort, OutPort}
use Rattle.flow_parse.specs.declared.value.NetPart.{NetPart}
use Rattle.flow_flat.specs.Faults.{ComesTo}
use Rattle.flow_flat.specs.Told.{HasShortTexts, empty, after_processes, AfterText, AfterStatement, AfterStatements, IsDraft, IsFlat}
use Rattle.flow_flat.proofs.Classes.{Dec, dec_class}
use Rattle.flow_flat.proofs.Once.{comes_once}
use Rattle.flow_flat.proofs.Outcomes.{told_is_said}
use Rattle.flow_flat.proofs.Templates.{fit_or_first}

dec_port : (o : Option DraftPort) (text : List ℕ) → Dec (FitsPort o text)
dec_port None text = inr (λ none. none)
dec_port (Some port) text = dec_class port.spec.class text

text_told : (draft : Draft) (text to : List ℕ) (into : PortRef) → (outcome : Result Draft PlanFault) × AfterText draft text to into outcome
text_told draft text to into = by (input_for draft.processes draft.ports to into) refl where
  fits : (input : End) → input_for draft.processes draft.ports to into ≡ Ok input → Dec (FitsPort (slice_get draft.ports input.port) text) → (outcome : Result Draft PlanFault) × AfterText draft text to into outcome
  fits input is (inl fit) = (Ok (gives draft input text), (input, is, fit, refl))
  fits input is (inr unfit) = (Err (BadOption to into), (inr (refl, (input, is, unfit)), refl))

  by : (r : Result End PlanFault) → input_for draft.processes draft.ports to into ≡ r → (outcome : Result Draft PlanFault) × AfterText draft text to into outcome
  by (Ok input) is = fits input is (dec_port (slice_get draft.ports input.port) text)
  by (Err fault) is = (Err fault, (inl is, refl))

statement_told : (draft : Draft) (s : Statement) → (outcome : Result Draft PlanFault) × AfterStatement draft s outcome
statement_told draft (Connect from out capacity to into) = (after_connect draft from out capacity to into, refl)
statement_told draft (Initial text to into) = text_told draft text to into
statement_told draft (InPort outer to into) = (Ok draft, refl)
statement_told draft (OutPort from out outer) = (Ok draft, refl)

statements_told : (ss : List Statement) (draft : Draft) → (outcome : Result Draft PlanFault) × AfterStatements draft ss outcome
statements_told [] draft = (Ok draft, refl)
statements_told (s ∷ ss) draft = by (statement_told draft s) (λ next. statements_told ss next) where
  by : ((outcome : Result Draft PlanFault) × AfterStatement draft s outcome) → ((next : Draft) → (outcome : Result Draft PlanFault) × AfterStatements next ss outcome) → (outcome : Result Draft PlanFault) × AfterStatements draft (s ∷ ss) outcome
  by (Ok next, one) more = let rest = more next in (rest.0, (Ok next, one, rest.1))
  by (Err fault, one) more = (Err fault, (Err fault, one, refl))

drafted : (kinds : List KindSpec) (text : NetPart) → (outcome : Result Draft PlanFault) × IsDraft kinds text outcome
drafted kinds text = by (after_processes (empty kinds) text.processes) where
  by : (r : Result Draft PlanFault) → (outcome : Result Draft PlanFault) × MatchResult r (λ named. AfterStatements named text.statements outcome) (λ fault. outcome ≡ Err fault)
  by (Ok named) = statements_told text.statements named
  by (Err fault) = (Err fault, refl)

-- A draft finishes to a plan or to a fault.
finishes_some : (draft : Draft) → (outcome : Result Network PlanFault) × FinishesTo draft outcome
finishes_some draft = by (draft_fault draft) refl (fit_or_first (plan_of draft)) where
  by : (r : Result (Unit {0}) PlanFault) → draft_fault draft ≡ r → TemplatesFit (plan_of draft) ⊎ ((template : TemplateGiven) × FirstUnfit (plan_of draft) template) → (outcome : Result Network PlanFault) × FinishesTo draft outcome
  by (Err fault) is fit = (Err fault, inl is)
  by (Ok u) is (inl fit) = (Ok (plan_of draft), (is, fit, refl))
  by (Ok u) is (inr first) = (Err (unfit_fault first.0), inr (is, first.0, first.1, refl))

flat_some : (kinds : List KindSpec) (text : NetPart) → (outcome : Result Network PlanFault) × IsFlat kinds text outcome
flat_some kinds text = by (drafted kinds text) where
  by : ((outcome : Result Draft PlanFault) × IsDraft kinds text outcome) → (outcome : Result Network PlanFault) × IsFlat kinds text outcome
  by (Ok draft, made) = let ends = finishes_some draft in (ends.0, (Ok draft, made, ends.1))
  by (Err fault, made) = (Err fault, (Err fault, made, refl))

-- What a flat text comes to, as it is told to the builder, is what it is said to come to directly.
pub said_is_told : (kinds : List KindSpec) (text : NetPart) (outcome : Result Network PlanFault) → IsTrue (is_table kinds) → HasShortTexts text → ComesTo kinds text outcome → IsFlat kinds text outcome
said_is_told kinds text outcome table short comes =
    let flat = flat_some kinds text in
    subst (IsFlat kinds text) (comes_once kinds text flat.0 outcome (told_is_said kinds text flat.0 table short flat.1) comes) flat.1
