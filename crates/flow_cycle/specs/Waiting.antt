-- Who waits for whom in a deadlock, and the cycle of those that wait for one another. (Morrison's book, Deadlocks: Prevention and
-- Detection, tells of such cycles; the exact rule is this project's own.)
use Rattle.std.specs.Prelude.{◌≡◌, ◌≢◌, ℕ, ◌==◌, if◌then◌else◌, zero, suc, List, [], ◌∷◌, ◌++◌, map, Option, Some, None, slice_get, is_some, position, nat_eq, option_map, option_and_then}
use Rattle.std.specs.List.{IsDistinct}
use Rattle.flow_plan.specs.Network.{Network as Plan}
use Rattle.flow_plan.specs.declared.plan.Sender.{Sender}
use Rattle.flow_plan.specs.declared.plan.Connection.{Connection as PlanConnection}
use Rattle.flow_model.specs.declared.Block.{Block}
use Rattle.flow_model.specs.declared.Block.TheVariants as blocks
use Rattle.flow_model.specs.States.{Input, From, Text, Process, Channel, Kept}
use Rattle.flow_model.specs.Events.{looks}
use Rattle.flow_model.specs.Verdicts.{block_of}
use Rattle.flow_machine.specs.Inlets.{watched}
use Rattle.flow_cycle.specs.declared.Waits.{Waits}

-- The first of these senders.
abbrev pub first_of : List Sender → Option Sender
first_of [] = None
first_of (sender ∷ senders) = Some sender

-- The first open sender of a connection.
abbrev pub first_open_sender : Option Channel → Option Sender
first_open_sender (Some channel) = first_of channel.open_senders
first_open_sender None = None

-- A process that waits at this connection for this sender's process.
abbrev pub waits_for_sender : ℕ → ℕ → Sender → Waits
waits_for_sender p c sender = record { process = p; connection = c; to = sender.process }

-- A process that waits at this connection for its receiver.
abbrev pub waits_for_receiver : ℕ → ℕ → PlanConnection → Waits
waits_for_receiver p c connection = record { process = p; connection = c; to = connection.receiver }

-- The first of the two that is there.
abbrev pub or_else : Option Waits → Option Waits → Option Waits
or_else (Some w) other = Some w
or_else None other = other

-- What a dormant process waits for that watches these inputs: the first open sender of the lowest connected one that has one.
abbrev pub waits_to_wake : List Channel → ℕ → List Input → Option Waits
waits_to_wake channels p [] = None
waits_to_wake channels p (From c ∷ inputs) = or_else (option_map (waits_for_sender p c) (first_open_sender (slice_get channels c))) (waits_to_wake channels p inputs)
waits_to_wake channels p (Text text ∷ inputs) = waits_to_wake channels p inputs

-- For which process one that is blocked so waits, and where. One that is blocked full waits for the receiver of its connection, one that
-- is blocked empty for the connection's first open sender, and a dormant one at the inputs that it watches.
abbrev pub waits_by : {K : Type 0} → Plan → List Channel → ℕ → Process K → Block → Option Waits
waits_by plan channels p x (blocks.Full c port) = option_map (waits_for_receiver p c) (slice_get plan.connections c)
waits_by plan channels p x (blocks.Empty c port) = option_map (waits_for_sender p c) (first_open_sender (slice_get channels c))
waits_by plan channels p x blocks.Dormant = waits_to_wake channels p (watched (looks channels) x)

-- For which process this one waits, and where, if it is blocked.
abbrev pub waits_of : {K : Type 0} → Plan → List Channel → ℕ → Process K → Option Waits
waits_of plan channels p x = option_and_then (waits_by plan channels p x) (block_of (looks channels) x)

-- The same of process p.
abbrev pub waits_at : {K : Type 0} → Plan → Kept K → ℕ → Option Waits
waits_at plan kept p = option_and_then (waits_of plan kept.channels p) (slice_get kept.processes p)

-- Each of these is what its process waits for, the first is of this process, each next one is of the process that the one before waits
-- for, and the last waits for this one.
abbrev pub Follows : {K : Type 0} → Plan → Kept K → ℕ → List Waits → ℕ → Type 0
Follows plan kept p [] to = p ≡ to
Follows plan kept p (w ∷ ws) to = (waits_at plan kept p ≡ Some w) × Follows plan kept w.to ws to

-- The processes that wait.
abbrev pub waiting : List Waits → List ℕ
waiting ws = map (λ (w : Waits). w.process) ws

-- The lowest process that is blocked.
abbrev pub lowest_blocked : {K : Type 0} → Kept K → Option ℕ
lowest_blocked kept = position (λ x. is_some (block_of (looks kept.channels) x)) kept.processes

-- The cycle that one comes to who follows, from the lowest blocked process on, for whom each waits: the way leads to the first process
-- to which it comes back, and the cycle is the rest of it, from that process round to itself.
pub record IsWaitingCycle {K : Type 0} (plan : Plan) (kept : Kept K) (cycle : List Waits) : Type 0 where
  pub lowest : ℕ
  pub is_lowest : lowest_blocked kept ≡ Some lowest
  pub way : List Waits
  pub entry : ℕ
  pub leads : Follows plan kept lowest way entry
  pub back : Follows plan kept entry cycle entry
  pub some : cycle ≢ []
  pub once : IsDistinct nat_eq (waiting (way ++ cycle))

-- The way from the first place of process p on, if it stands there.
abbrev pub rest_from : ℕ → List Waits → Option (List Waits)
rest_from p [] = None
rest_from p (w ∷ way) = if p == w.process then Some (w ∷ way) else rest_from p way

-- What a step comes to: the cycle where the way has come back, and else what is come to behind what is waited for.
abbrev pub went : Option (List Waits) → Option Waits → (Waits → Option (List Waits)) → Option (List Waits)
went (Some cycle) next on = Some cycle
went None (Some w) on = on w
went None None on = None

-- The cycle to which one comes who has gone this way, stands at process p, and takes so many steps at most, where this is what each process waits for.
abbrev pub walk : (ℕ → Option Waits) → ℕ → List Waits → ℕ → Option (List Waits)
walk waits zero way p = None
walk waits (suc steps) way p = went (rest_from p way) (waits p) (λ w. walk waits steps (way ++ w ∷ []) w.to)
