-- What status and wish ask for.
use Rattle.std.specs.Prelude.{◌≡◌, ℕ, List, Option, Some, None, slice_get}
use Rattle.flow_component.specs.declared.Fail.{Fail}
use Rattle.flow_component.specs.declared.Port.{Port}
use Rattle.flow_component.specs.declared.Wish.{Wish}
use Rattle.flow_component.specs.declared.Wish.TheVariants as wishes
use Rattle.flow_model.specs.declared.Stage.{Stage}
use Rattle.flow_model.specs.declared.Stage.TheVariants as stages
use Rattle.flow_model.specs.States.{Input, From, Text, Process, Outlet, outlets, output_at}
use Rattle.flow_machine.specs.declared.answers.Status.{Status}
use Rattle.flow_machine.specs.declared.answers.Status.TheVariants as statuses
use Rattle.flow_machine.specs.declared.answers.Case.{Case}
use Rattle.flow_machine.specs.declared.answers.Case.TheVariants as cases
use Rattle.flow_machine.specs.declared.answers.Over.TheVariants as overs

-- The status of a process at a stage.
abbrev pub status_of : Stage → Status
status_of stages.Idle = statuses.Idle
status_of (stages.Closing i) = statuses.Closing i
status_of stages.Ended = statuses.Ended
status_of (stages.Failed cause) = statuses.Failed cause
status_of (stages.Told answer) = statuses.Active
status_of (stages.Wishing wish) = statuses.Active

-- A receive is from a connection, or takes an initial text.
abbrev pub receive_case : Port → Option Input → Option Case
receive_case port (Some (From c)) = Some (cases.Receive c port)
receive_case port (Some (Text text)) = Some (cases.Initial port)
receive_case port None = None

-- The case of a wish to send, by what stands at the output.
abbrev pub send_case : Port → Option ℕ → Option Case
send_case port (Some c) = Some (cases.Send c port)
send_case port None = None

-- The case of a wish to learn a level, by what stands at the output.
abbrev pub level_case : Port → Option ℕ → Option Case
level_case port (Some c) = Some (cases.Level c port)
level_case port None = None

-- The case of a wish.
abbrev pub wish_case : {K : Type 0} → Process K → Wish → Option Case
wish_case x (wishes.Receive port) = receive_case port (slice_get x.inputs port.0)
wish_case x (wishes.Send port id) = send_case port (output_at x port.0)
wish_case x (wishes.Level port) = level_case port (output_at x port.0)
wish_case x wishes.Deactivate = Some cases.Deactivate

-- The case of closing, by the next output.
abbrev pub close_case : Option Outlet → Option Case
close_case (Some outlet) = Some (cases.Close outlet.connection)
close_case None = None

-- The case of a process at a stage; there is none while an answer is pending.
abbrev pub stage_case : {K : Type 0} → Process K → Stage → Option Case
stage_case x stages.Idle = Some cases.Idle
stage_case x (stages.Told answer) = None
stage_case x (stages.Wishing wish) = wish_case x wish
stage_case x (stages.Closing i) = close_case (slice_get (outlets x) i)
stage_case x stages.Ended = Some (cases.Over overs.Ended)
stage_case x (stages.Failed cause) = Some (cases.Over overs.Failed)

-- The kind of turn that a process would have.
abbrev pub case_of : {K : Type 0} → Process K → Option Case
case_of x = stage_case x x.stage

-- What it takes to be a case.
abbrev pub CaseIs : {K : Type 0} → Process K → Case → Type 0
CaseIs x cases.Idle = x.stage ≡ stages.Idle
CaseIs x (cases.Receive c port) = (x.stage ≡ stages.Wishing (wishes.Receive port)) × (slice_get x.inputs port.0 ≡ Some (From c))
CaseIs x (cases.Initial port) = (text : List ℕ) × (x.stage ≡ stages.Wishing (wishes.Receive port)) × (slice_get x.inputs port.0 ≡ Some (Text text))
CaseIs x (cases.Send c port) = (id : ℕ) × (x.stage ≡ stages.Wishing (wishes.Send port id)) × (output_at x port.0 ≡ Some c)
CaseIs x (cases.Level c port) = (x.stage ≡ stages.Wishing (wishes.Level port)) × (output_at x port.0 ≡ Some c)
CaseIs x cases.Deactivate = x.stage ≡ stages.Wishing wishes.Deactivate
CaseIs x (cases.Close c) = (i : ℕ) × (outlet : Outlet) × (x.stage ≡ stages.Closing i) × (slice_get (outlets x) i ≡ Some outlet) × (outlet.connection ≡ c)
CaseIs x (cases.Over overs.Ended) = x.stage ≡ stages.Ended
CaseIs x (cases.Over overs.Failed) = (cause : Fail) × (x.stage ≡ stages.Failed cause)
CaseIs x (cases.Over overs.Starved) = ⊥
