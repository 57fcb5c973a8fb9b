-- The plan that a part of a network text is, and the fault that it has.
use Rattle.flow_limits.specs.declared.TheConstants.{TEXT_LIMIT}
use Rattle.std.specs.Prelude.{◌≡◌, ◌≤◌, ℕ, List, [], ◌∷◌, length, Ok, Err, MatchResult}
use Rattle.std.specs.declared.result.Result.{Result}
use Rattle.std.specs.List.{All}
use Rattle.flow_net.specs.declared.fault.PlanFault.{PlanFault}
use Rattle.flow_net.specs.declared.fault.PlanStop.TheVariants.{Fault}
use Rattle.flow_plan.specs.declared.kind.KindSpec.{KindSpec}
use Rattle.flow_plan.specs.declared.kind.PortRef.{PortRef}
use Rattle.flow_plan.specs.Network.{Network}
use Rattle.flow_net.specs.Drafts.{Draft, ◌>>=◌}
use Rattle.flow_net.specs.Calls.{after_process, after_connect}
use Rattle.flow_net.specs.Initials.{AfterInitial}
use Rattle.flow_net.specs.Finishes.{FinishesTo}
use Rattle.flow_parse.specs.declared.value.Statement.{Statement}
use Rattle.flow_parse.specs.declared.value.Statement.TheVariants.{Connect, Initial, InPort, OutPort}
use Rattle.flow_parse.specs.declared.value.NetPart.{NetPart}
use Rattle.flow_flat.specs.declared.fault.ExpandFault.{ExpandFault}
use Rattle.flow_flat.specs.declared.fault.ExpandFault.TheVariants.{Plan}

-- A text that is given to a port has at most TEXT_LIMIT bytes.
abbrev pub IsShort : Statement → Type 0
IsShort (Connect from out capacity to into) = Unit {0}
IsShort (Initial text to into) = length text ≤ TEXT_LIMIT
IsShort (InPort outer to into) = Unit {0}
IsShort (OutPort from out outer) = Unit {0}

-- Each text that a part gives to a port has at most TEXT_LIMIT bytes.
abbrev pub HasShortTexts : NetPart → Type 0
HasShortTexts part = All IsShort part.statements

-- A draft over these kinds that has nothing yet.
abbrev pub empty : List KindSpec → Draft
empty kinds = record { kinds = kinds; processes = []; ports = []; links = [] }

-- What naming these processes makes of the draft, one after the other, each with its kind.
abbrev pub after_processes : Draft → List (List ℕ × List ℕ) → Result Draft PlanFault
after_processes draft [] = Ok draft
after_processes draft (process ∷ processes) = after_process draft process.0 process.1 >>= λ next. after_processes next processes

-- What giving an input its text makes of the draft, or the fault for which the draft stays.
abbrev pub AfterText : Draft → List ℕ → List ℕ → PortRef → Result Draft PlanFault → Type 0
AfterText draft text to into (Ok next) = AfterInitial draft text to into (Ok tt) next
AfterText draft text to into (Err fault) = AfterInitial draft text to into (Err (Fault fault)) draft

-- A statement joins an output to an input, or gives an input its text. A line of an outer port leaves the draft as it is.
abbrev pub AfterStatement : Draft → Statement → Result Draft PlanFault → Type 0
AfterStatement draft (Connect from out capacity to into) outcome = after_connect draft from out capacity to into ≡ outcome
AfterStatement draft (Initial text to into) outcome = AfterText draft text to into outcome
AfterStatement draft (InPort outer to into) outcome = outcome ≡ Ok draft
AfterStatement draft (OutPort from out outer) outcome = outcome ≡ Ok draft

-- What these statements make of the draft, one after the other: the first fault is the outcome.
abbrev pub AfterStatements : Draft → List Statement → Result Draft PlanFault → Type 0
AfterStatements draft [] outcome = outcome ≡ Ok draft
AfterStatements draft (statement ∷ statements) outcome = (step : Result Draft PlanFault) × AfterStatement draft statement step
    × MatchResult step (λ next. AfterStatements next statements outcome) (λ fault. outcome ≡ Err fault)

-- What a part makes of the draft with nothing in it: first its processes are named, and then its statements are taken.
abbrev pub IsDraft : List KindSpec → NetPart → Result Draft PlanFault → Type 0
IsDraft kinds part outcome =
    MatchResult (after_processes (empty kinds) part.processes) (λ named. AfterStatements named part.statements outcome) (λ fault. outcome ≡ Err fault)

-- A part is this plan over a table of kinds, or has this fault first: in its processes, in its statements, or in the whole that they make.
abbrev pub IsFlat : List KindSpec → NetPart → Result Network PlanFault → Type 0
IsFlat kinds part outcome = (drafted : Result Draft PlanFault) × IsDraft kinds part drafted × MatchResult drafted (λ draft. FinishesTo draft outcome) (λ fault. outcome ≡ Err fault)

-- What statements of a text with subnets make of the draft, one after the other, each as it is meant: the first that means nothing, or that the draft refuses, is the outcome.
abbrev pub AfterMeant : Draft → List (Result Statement ExpandFault) → Result Draft ExpandFault → Type 0
AfterMeant draft [] outcome = outcome ≡ Ok draft
AfterMeant draft (Err fault ∷ more) outcome = outcome ≡ Err fault
AfterMeant draft (Ok s ∷ more) outcome = (step : Result Draft PlanFault) × IsShort s × AfterStatement draft s step × MatchResult step (λ next. AfterMeant next more outcome) (λ fault. outcome ≡ Err (Plan fault))
