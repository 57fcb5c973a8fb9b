-- What each process was told is a run of its component, and what the machine adds to that: an end that was heard stands, a start on
-- an input brings something, and a process that nothing can wake has run before it ends. (This project's own.)
use Rattle.flow_limits.specs.declared.TheConstants.{TURN_LIMIT}
use Rattle.std.specs.Prelude.{◌≡◌, ◌≢◌, ◌⊎◌, ℕ, ◌≤◌, true, false, List, [], ◌∷◌, ◌++◌, length, Some, slice_get}
use Rattle.std.specs.List.{list_any}
use Rattle.flow_component.specs.declared.Answer.{Answer}
use Rattle.flow_component.specs.declared.Wish.{Wish}
use Rattle.flow_component.specs.declared.Wish.TheVariants as wishes
use Rattle.flow_component.specs.Laws.{Rules}
use Rattle.flow_component.specs.Happenings.{Happening, answer_of}
use Rattle.flow_component.specs.Runs.{Poise, fresh, Grants, Runs, EndIsLast, StartsBring, GivesText, Wakes, starts}
use Rattle.flow_model.specs.declared.Stage.{Stage}
use Rattle.flow_model.specs.declared.Stage.TheVariants as stages
use Rattle.flow_model.specs.States.{Input, From, Text, Process, State, got_at}
use Rattle.flow_model.specs.Events.{is_connected}
use Rattle.flow_model.specs.Schedules.{Journal, Leads, Step, Reaches}
use Rattle.flow_model.specs.Plans.{start_of, StartsWell}
use Rattle.flow_plan.specs.Network.{Network as Plan}
use Rattle.flow_model.specs.Order.{entries}

-- A process between answers, with its wish. Before its start, and while it sleeps or closes, it stands as one that has deactivated.
abbrev pub poise : {K : Type 0} → Process K → Wish → Poise K
poise x wish = record { component = x.component; held = x.held; wish = wish }

-- The last that it was told is the answer that is pending.
pub record IsPending {K : Type 0} (rules : Rules K) (start : Poise K) (told : List Happening) (x : Process K) (answer : Answer) : Type 0 where
  pub before : List Happening
  pub happening : Happening
  pub mid : Poise K
  pub whole : told ≡ before ++ happening ∷ []
  pub runs : Runs rules start before mid
  pub grants : Grants mid.held mid.wish happening x.held
  pub component : x.component ≡ mid.component
  pub answers : answer ≡ answer_of happening

-- By what it was told a process has come to where it stands. Of one that failed this says nothing.
abbrev pub Follows : {K : Type 0} → Rules K → Poise K → List Happening → Process K → Stage → Type 0
Follows rules start told x stages.Idle = Runs rules start told (poise x wishes.Deactivate)
Follows rules start told x (stages.Told answer) = IsPending rules start told x answer
Follows rules start told x (stages.Wishing wish) = Runs rules start told (poise x wish)
Follows rules start told x (stages.Closing i) = Runs rules start told (poise x wishes.Deactivate)
Follows rules start told x stages.Ended = Runs rules start told (poise x wishes.Deactivate)
Follows rules start told x (stages.Failed cause) = Unit {0}

-- No input of the process is connected.
abbrev pub NoneConnected : {K : Type 0} → Process K → Type 0
NoneConnected x = list_any is_connected x.inputs ≡ false

-- These inputs are connected.
abbrev pub IsConnectedAt : List Input → ℕ → Type 0
IsConnectedAt inputs port = (c : ℕ) × (slice_get inputs port ≡ Some (From c))

-- What ends at this input ends for good: it is connected, or the process was started once at most. (An initial text is fresh again
-- after each start.)
abbrev pub EndsForGood : {K : Type 0} → Process K → List Happening → ℕ → Type 0
EndsForGood x told port = IsConnectedAt x.inputs port ⊎ (starts told ≤ 1)

-- What process p, which began with this component, was told, and how it stands by it.
pub record HasRun {K : Type 0} (rules : Rules K) (component : K) (p : ℕ) (told : List Happening) (x : Process K) : Type 0 where
  -- it is a run of that component from its first state
  pub follows : Follows rules (fresh component p) told x x.stage
  -- after the end of an input nothing comes there
  pub end_is_last : (port : ℕ) → EndsForGood x told port → EndIsLast port told
  -- where an input is connected, each start brings something at a connected input before its end
  pub starts_bring : list_any is_connected x.inputs ≡ true → StartsBring (IsConnectedAt x.inputs) told
  -- each start but the first finds an input whose end wasn't heard
  pub wakes : Wakes (length x.inputs) [] told
  -- an input with a text gives it anew after each start, once
  pub texts : (port : ℕ) (text : List ℕ) → slice_get x.inputs port ≡ Some (Text text) → GivesText port text false told
  -- where no input is connected it was started once at most
  pub once : NoneConnected x → starts told ≤ 1
  -- it was told no more than it may make turns
  pub few : length told ≤ TURN_LIMIT
  -- where no input is connected it has run before it ends
  pub has_run : NoneConnected x → x.stage ≡ stages.Ended → told ≢ []

-- After every schedule from a start each process has run.
abbrev pub KeepsRuns : {K : Type 0} → Rules K → Type 0
KeepsRuns {K} rules =
    (plan : Plan) (components : List K) (journal : Journal) (s : State K) → StartsWell rules plan components → Leads rules (start_of plan components) journal s
    → (p : ℕ) (component : K) (x : Process K) → slice_get components p ≡ Some component → slice_get s.kept.processes p ≡ Some x → HasRun rules component p (s.past.told p) x

-- The same after every list of turns and works from a start.
abbrev pub KeepsRunsOpen : {K : Type 0} → Rules K → Type 0
KeepsRunsOpen {K} rules =
    (plan : Plan) (components : List K) (steps : List Step) (s : State K) → StartsWell rules plan components → Reaches rules (start_of plan components) steps s
    → (p : ℕ) (component : K) (x : Process K) → slice_get components p ≡ Some component → slice_get s.kept.processes p ≡ Some x → HasRun rules component p (s.past.told p) x

-- A process that has ended got, at each connected input, all that was put into the connection there.
abbrev pub EndedGotAll : {K : Type 0} → State K → Type 0
EndedGotAll {K} s =
    (p port c : ℕ) (x : Process K) → slice_get s.kept.processes p ≡ Some x → x.stage ≡ stages.Ended → slice_get x.inputs port ≡ Some (From c) → entries (s.past.put c) ≡ got_at s.past p port

-- So it is after every schedule from a start.
abbrev pub KeepsGotAll : {K : Type 0} → Rules K → Type 0
KeepsGotAll {K} rules = (plan : Plan) (components : List K) (journal : Journal) (s : State K) → StartsWell rules plan components → Leads rules (start_of plan components) journal s → EndedGotAll s
