-- What a report tells of a state of the network machine.
use Rattle.flow_limits.specs.declared.TheConstants.{PROCESS_LIMIT}
use Rattle.std.specs.Prelude.{◌≡◌, ◌≢◌, ℕ, ◌≤◌, ◌+◌, ◌-◌, ◌++◌, List, [], ◌∷◌, map, length, sum_by}
use Rattle.flow_component.specs.Laws.{Rules}
use Rattle.flow_model.specs.States.{Process, Channel, Put, State}
use Rattle.flow_model.specs.Events.{looks}
use Rattle.flow_model.specs.Places.{places, ids_dropped}
use Rattle.flow_model.specs.Verdicts.{IsFinished, IsFailed, IsDeadlock, IsRunning}
use Rattle.flow_model.specs.Fit.{Fit}
use Rattle.flow_machine.specs.Values.{NetValue}
use Rattle.flow_cycle.specs.declared.Waits.{Waits}
use Rattle.flow_cycle.specs.Waiting.{IsWaitingCycle}
use Rattle.flow_cycle.specs.Nets.{IsReached}
use Rattle.flow_plan.specs.Network.{Network}
use Rattle.flow_report.specs.declared.report.Verdict.{Verdict}
use Rattle.flow_report.specs.declared.report.Verdict.TheVariants.{Finished, FinishedLeft, Deadlock, Failed, Running}
use Rattle.flow_report.specs.declared.report.ProcessLine.{ProcessLine}
use Rattle.flow_report.specs.declared.report.ConnectionLine.{ConnectionLine}
use Rattle.flow_report.specs.declared.report.LeftPacket.{LeftPacket}
use Rattle.flow_report.specs.declared.report.Place.TheVariants.{InConnection}
use Rattle.flow_report.specs.Left.{left_at}
use Rattle.flow_report.specs.Of.{line_of_process, line_of_connection, block_told, failure_told, hands_told, told_from, told_of}
use Rattle.flow_report.specs.Text.{Told}

-- The verdict on a state. Finished is told apart by whether a packet is left anywhere.
abbrev pub IsVerdict : {K : Type 0} → State K → Verdict → Type 0
IsVerdict s Finished = IsFinished s × (places s ≡ [])
IsVerdict s FinishedLeft = IsFinished s × (places s ≢ [])
IsVerdict s Deadlock = IsDeadlock s
IsVerdict s Failed = IsFailed s
IsVerdict s Running = IsRunning s

-- What is told of process p, where each process dropped these packets.
abbrev pub process_in : {K : Type 0} → Network → (ℕ → List ℕ) → ℕ → Process K → List ProcessLine
process_in plan dropped p x = line_of_process plan p x (length (dropped p)) ∷ []

-- What is told of connection c, where this was put into each connection: as many packets were taken as were put, less those that are still there.
abbrev pub connection_in : Network → (ℕ → List Put) → ℕ → Channel → List ConnectionLine
connection_in plan put c x = line_of_connection plan c x.capacity (length (put c)) (length (put c) - length x.packets) x.packets ∷ []

-- The packets that are left in connection c.
abbrev pub transit_in : ℕ → Channel → List LeftPacket
transit_in c x = left_at (InConnection c) x.packets

-- The cycle in which processes wait for one another in a deadlock, and none in any other state.
pub record TellsWaits {K : Type 0} (plan : Network) (s : State K) (waits : List Waits) : Type 0 where
  pub cycle : IsDeadlock s → IsWaitingCycle plan s.kept waits
  pub none : (IsDeadlock s → ⊥) → waits ≡ []

-- A report tells of a state: its verdict; of every process its status, its turns, and the packets that it made, dropped and holds; of every connection its
-- capacity, its puts and takes, and the packets in it; every process that has a block and every one that failed, each named with its port; in a deadlock the
-- cycle of those that wait for one another; every packet
-- that is left, with its place: first those in the hands of each process, then those in each connection, each followed by its tree; and how many turns
-- were made, how many packets, and how many of these were dropped. All these stand in the order of the processes and of the connections. What was made
-- is what was dropped and what is left.
pub record TellsOf {K : Type 0} (plan : Network) (s : State K) (told : Told) : Type 0 where
  pub verdict : IsVerdict s told.verdict
  pub processes : told.processes ≡ told_from (process_in plan s.past.dropped) 0 s.kept.processes
  pub connections : told.connections ≡ told_from (connection_in plan s.past.put) 0 s.kept.channels
  pub blocked : told.blocked ≡ told_from (block_told plan (looks s.kept.channels)) 0 s.kept.processes
  pub waits : TellsWaits plan s told.waits
  pub failed : told.failed ≡ told_from (failure_told plan) 0 s.kept.processes
  pub left : told.left ≡ told_from hands_told 0 s.kept.processes ++ told_from transit_in 0 s.kept.channels
  pub each_place : map (λ l. l.packet) told.left ≡ places s
  pub turns : told.turns ≡ sum_by (λ x. x.turns) s.kept.processes
  pub made : told.made ≡ sum_by (λ x. x.held.made) s.kept.processes
  pub dropped : told.dropped ≡ length (ids_dropped s.past.dropped (length s.kept.processes))
  pub adds_up : told.made ≡ told.dropped + length told.left

-- One report at most tells of this state of a network.
abbrev pub HasOneReport : {K : Type 0} → State K → Type 0
HasOneReport s = (plan : Network) (told other : Told) → TellsOf plan s told → TellsOf plan s other → told ≡ other

-- The report of a net tells of every state that the net stands for and a schedule reaches from a start of the plan, whether or not a process can go on there.
abbrev pub ReportsTell : {K : Type 0} → Rules K → Type 0
ReportsTell {K} rules =
    (plan : Network) (net : NetValue K) (s : State K)
    → Fit rules s → length s.kept.processes ≤ PROCESS_LIMIT → IsReached rules plan net s
    → TellsOf plan s (told_of plan net)
