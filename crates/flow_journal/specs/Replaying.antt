-- What the steps of a replay do to a net.
use Rattle.std.specs.Prelude.{◌≡◌, ℕ, ◌<◌, ◌≤◌, List, [], ◌∷◌, ◌++◌, Some, length, take}
use Rattle.flow_component.specs.Laws.{Rules}
use Rattle.flow_model.specs.States.{State}
use Rattle.flow_model.specs.Events.{Event, seen_by}
use Rattle.flow_model.specs.Schedules.{Leads}
use Rattle.flow_model.specs.Schedules.{Journal as Schedule}
use Rattle.flow_model.specs.Stands.{StandsForOpen}
use Rattle.flow_model.specs.Fit.{Fit}
use Rattle.flow_machine.specs.Values.{NetValue, shown_net}
use Rattle.flow_machine.specs.Nets.{NetTurn, IsAt, RefusesLevel, asks_level, block_at}
use Rattle.flow_journal.specs.declared.merge.Journal.{Journal}
use Rattle.flow_journal.specs.declared.refusal.Refusal.{Refusal}
use Rattle.flow_journal.specs.declared.refusal.Refusal.TheVariants.{NoProcess, Over, Blocked, Seen}
use Rattle.flow_journal.specs.declared.refusal.ReplayStop.{ReplayStop}
use Rattle.flow_journal.specs.declared.refusal.ReplayStop.TheVariants.{NoTurn, NoMemory}
use Rattle.flow_journal.specs.Replays.{schedule_of, IsOver, StopsAtTurn}

-- Process p made a turn, and the numbers that were not seen by it are left.
pub record MadeTurn {K : Type 0} (old : NetValue K) (p stamp : ℕ) (seen left : List ℕ) (new : NetValue K) : Type 0 where
  pub event : Event
  pub level : ℕ
  pub turn : NetTurn old p level event stamp new
  pub numbers : seen ≡ seen_by event ++ left

-- The process asks for a level, and the first of these numbers can't be told to it.
abbrev pub RefusesNumber : {K : Type 0} → NetValue K → ℕ → List ℕ → Type 0
RefusesNumber net p [] = IsAt net p asks_level
RefusesNumber net p (n ∷ seen) = RefusesLevel net p n

-- Why process p makes no turn by which it sees the first of these numbers, where it sees one.
abbrev pub RefusesTurn : {K : Type 0} → NetValue K → ℕ → List ℕ → Refusal → Type 0
RefusesTurn net p seen NoProcess = length net.bodies ≤ p
RefusesTurn net p seen Over = (p < length net.bodies) × IsAt net p IsOver
RefusesTurn net p seen (Blocked waits) = block_at net p ≡ Some waits
RefusesTurn net p seen Seen = (p < length net.bodies) × RefusesNumber net p seen

-- The turns before a place were made, these numbers are left, and so far the journal leads on.
pub record LeadsTo {K : Type 0} (rules : Rules K) (journal : Journal) (place : ℕ) (left : List ℕ) (made : Schedule) (s s' : State K) : Type 0 where
  pub turns : made.turns ≡ take place journal.turns
  pub seen : made.seen ++ left ≡ journal.seen
  pub leads : Leads rules s made s'

-- The whole journal leads on.
abbrev pub LeadsOn : {K : Type 0} → Rules K → Journal → Schedule → State K → State K → Type 0
LeadsOn rules journal made s s' = (made ≡ schedule_of journal) × Leads rules s made s'

-- Each fit state that the net stands for stops the journal there.
abbrev pub StopsMaking : {K : Type 0} → Rules K → NetValue K → Journal → ReplayStop → Type 0
StopsMaking {K} rules net journal (NoTurn place p refusal) = (s : State K) → Fit rules s → StandsForOpen (shown_net net) s → StopsAtTurn rules s (schedule_of journal) place p refusal
StopsMaking rules net journal NoMemory = Unit {0}
