-- The waiting cycle as it is found in a running net, which counts the open senders of a connection: in a deadlock a sender is open where
-- its process hasn't ended. (This project's own.)
use Rattle.std.specs.Prelude.{◌≡◌, ℕ, ◌+◌, ◌||◌, not, if◌then◌else◌, Bool, false, List, [], ◌∷◌, length, Option, Some, None, slice_get, is_some, position, option_map, option_and_then, find}
use Rattle.std.specs.List.{list_all}
use Rattle.flow_component.specs.Laws.{Rules}
use Rattle.flow_plan.specs.Network.{Network as Plan}
use Rattle.flow_plan.specs.declared.plan.Sender.{Sender}
use Rattle.flow_plan.specs.declared.plan.Connection.{Connection as PlanConnection}
use Rattle.flow_model.specs.declared.Block.{Block}
use Rattle.flow_model.specs.declared.Block.TheVariants as blocks
use Rattle.flow_model.specs.States.{Input, From, Text, Process, State}
use Rattle.flow_model.specs.Stages.{has_ended}
use Rattle.flow_model.specs.Schedules.{Journal, Leads}
use Rattle.flow_model.specs.Verdicts.{block_of, IsDeadlock}
use Rattle.flow_model.specs.Plans.{start_of, StartsWell}
use Rattle.flow_model.specs.Stands.{StandsForOpen}
use Rattle.flow_machine.specs.Values.{BodyValue, NetValue, shown_net}
use Rattle.flow_machine.specs.Nets.{looks_of}
use Rattle.flow_machine.specs.Inlets.{watched}
use Rattle.flow_cycle.specs.declared.Waits.{Waits}
use Rattle.flow_cycle.specs.Waiting.{waits_for_sender, waits_for_receiver, or_else, rest_from, walk, IsWaitingCycle}

-- The process is there and hasn't ended.
abbrev pub not_ended : {K : Type 0} → Option (BodyValue K) → Bool
not_ended (Some b) = not (has_ended b.process.stage)
not_ended None = false

-- The first sender of a connection whose process hasn't ended.
abbrev pub first_on : {K : Type 0} → List (BodyValue K) → Option PlanConnection → Option Sender
first_on bodies (Some connection) = find (λ (s : Sender). not_ended (slice_get bodies s.process)) connection.senders
first_on bodies None = None

-- What a dormant process waits for that watches these inputs.
abbrev pub wakes_in : {K : Type 0} → Plan → List (BodyValue K) → ℕ → List Input → Option Waits
wakes_in plan bodies p [] = None
wakes_in plan bodies p (From c ∷ inputs) = or_else (option_map (waits_for_sender p c) (first_on bodies (slice_get plan.connections c))) (wakes_in plan bodies p inputs)
wakes_in plan bodies p (Text text ∷ inputs) = wakes_in plan bodies p inputs

-- What a process that is blocked so waits for.
abbrev pub waits_in_by : {K : Type 0} → Plan → NetValue K → ℕ → Process K → Block → Option Waits
waits_in_by plan net p x (blocks.Full c port) = option_map (waits_for_receiver p c) (slice_get plan.connections c)
waits_in_by plan net p x (blocks.Empty c port) = option_map (waits_for_sender p c) (first_on net.bodies (slice_get plan.connections c))
waits_in_by plan net p x blocks.Dormant = wakes_in plan net.bodies p (watched (looks_of net.channels) x)

-- What this body waits for, if it is blocked.
abbrev pub waits_of_body : {K : Type 0} → Plan → NetValue K → ℕ → BodyValue K → Option Waits
waits_of_body plan net p b = option_and_then (waits_in_by plan net p b.process) (block_of (looks_of net.channels) b.process)

-- What process p of the net waits for.
abbrev pub waits_in : {K : Type 0} → Plan → NetValue K → ℕ → Option Waits
waits_in plan net p = option_and_then (waits_of_body plan net p) (slice_get net.bodies p)

-- The process is blocked.
abbrev pub is_blocked : {K : Type 0} → NetValue K → BodyValue K → Bool
is_blocked net b = is_some (block_of (looks_of net.channels) b.process)

-- Each process has ended or is blocked.
abbrev pub is_stuck : {K : Type 0} → NetValue K → Bool
is_stuck net = list_all (λ b. has_ended b.process.stage || is_blocked net b) net.bodies

-- The cycle that is come to from the lowest blocked process. It has come back once all processes are on the way.
abbrev pub cycle_in : {K : Type 0} → Plan → NetValue K → Option (List Waits)
cycle_in plan net = if is_stuck net then option_and_then (walk (waits_in plan net) (length net.bodies + 1) []) (position (is_blocked net) net.bodies) else None

-- Each process that stands on the way and has a mark has it set.
abbrev pub AllMarked : List Bool → List Waits → Type 0
AllMarked marks way = (p : ℕ) → slice_get marks p ≡ Some false → rest_from p way ≡ None

-- The net stands for this state, which a schedule reaches from a start of the plan.
pub record IsReached {K : Type 0} (rules : Rules K) (plan : Plan) (net : NetValue K) (s : State K) : Type 0 where
  pub components : List K
  pub well : StartsWell rules plan components
  pub journal : Journal
  pub leads : Leads rules (start_of plan components) journal s
  pub stands : StandsForOpen (shown_net net) s

-- What is found in a net is the waiting cycle of the state that it stands for; and nothing is found exactly where that is no deadlock.
abbrev pub IsCycleOf : {K : Type 0} → Plan → State K → Option (List Waits) → Type 0
IsCycleOf plan s (Some cycle) = IsDeadlock s × IsWaitingCycle plan s.kept cycle
IsCycleOf plan s None = IsDeadlock s → ⊥

-- So it is for each state that the net stands for and a schedule reaches.
abbrev pub FindsCycles : {K : Type 0} → Rules K → Type 0
FindsCycles {K} rules = (plan : Plan) (net : NetValue K) (s : State K) → IsReached rules plan net s → IsCycleOf plan s (cycle_in plan net)
