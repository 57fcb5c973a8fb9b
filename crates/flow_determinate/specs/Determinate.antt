-- Networks whose quiet schedules all end in one state. (Kahn's process networks: a process that waits at one input at a time sends what
-- it sends whatever the schedule. That the whole state is the same, of deadlocks and failures too, is this project's own.)
use Rattle.std.specs.Prelude.{◌≡◌, ℕ, ◌≤◌, Bool, false, List, length, Some, slice_get}
use Rattle.flow_packet.specs.Held.{Held}
use Rattle.flow_packet.specs.Ids.{times}
use Rattle.flow_component.specs.declared.Answer.{Answer}
use Rattle.flow_component.specs.declared.Answer.TheVariants as answers
use Rattle.flow_component.specs.Laws.{Rules, Outcome, component_after, AtMostOneOutcome}
use Rattle.flow_plan.specs.Network.{Network as Plan}
use Rattle.flow_plan.specs.declared.plan.Connection.{Connection as PlanConnection}
use Rattle.flow_model.specs.States.{State}
use Rattle.flow_model.specs.Schedules.{Journal, Leads}
use Rattle.flow_model.specs.Verdicts.{HasNoTurn}
use Rattle.flow_model.specs.Plans.{start_of, StartsWell}

-- No connection of the plan has two senders.
abbrev pub EachHasOneSender : Plan → Type 0
EachHasOneSender plan = (c : ℕ) (connection : PlanConnection) → slice_get plan.connections c ≡ Some connection → length connection.senders ≤ 1

-- Only those components are ever ready to be told a level that the test names, so only those ever ask for one; and no other becomes one
-- of them.
pub record OnlyTheseAsk {K : Type 0} (rules : Rules K) (may_ask : K → Bool) : Type 0 where
  pub told_none : (component : K) (held : Held) (level : ℕ) → may_ask component ≡ false → rules.ready component held (answers.Level level) → ⊥
  pub stays : (component : K) (held : Held) (answer : Answer) (outcome : Outcome K) → may_ask component ≡ false → rules.next component held answer outcome → may_ask (component_after outcome) ≡ false

-- None of the components may ask for a level.
abbrev pub NoneMayAsk : {K : Type 0} → (K → Bool) → List K → Type 0
NoneMayAsk {K} may_ask components = (p : ℕ) (component : K) → slice_get components p ≡ Some component → may_ask component ≡ false

-- No process has a turn.
abbrev pub IsStill : {K : Type 0} → State K → Type 0
IsStill s = (p : ℕ) → HasNoTurn s.kept p

-- Two schedules have as many turns of each process, and end in the same state: the same of each process and connection, and the same past.
pub record SameEnd {K : Type 0} (journal : Journal) (s : State K) (other : Journal) (t : State K) : Type 0 where
  pub turns : (p : ℕ) → times p journal.turns ≡ times p other.turns
  pub state : s ≡ t

-- Where components come to one outcome, no connection has two senders and no component asks for a level, all schedules from one start
-- after which no process has a turn end in the same state. (A level that is told may be any number from the packets there to the capacity; two senders of a
-- connection put in the order of their turns. Nothing else of a turn depends on when it comes.)
abbrev pub HasOneOutcome : {K : Type 0} → Rules K → Type 0
HasOneOutcome {K} rules =
    AtMostOneOutcome rules → (may_ask : K → Bool) → OnlyTheseAsk rules may_ask
    → (plan : Plan) (components : List K) → StartsWell rules plan components → EachHasOneSender plan → NoneMayAsk may_ask components
    → (journal other : Journal) (s t : State K) → Leads rules (start_of plan components) journal s → IsStill s → Leads rules (start_of plan components) other t → IsStill t → SameEnd journal s other t
