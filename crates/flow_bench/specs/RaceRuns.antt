-- How a race starts, how its run goes on to its end, and how many turns it makes.
use Rattle.std.specs.Prelude.{◌≡◌, ℕ, ◌≤◌, ◌*◌, List, length, map}
use Rattle.flow_plan.specs.Network.{Network}
use Rattle.flow_machine.specs.Values.{NetValue}
use Rattle.flow_machine.specs.Logs.{turns_made}
use Rattle.flow_machine.specs.Solo.{Goes, ReachesNet, round_robin}
use Rattle.flow_machine.specs.Quiet.{IsQuietNet}
use Rattle.flow_machine.specs.Starts.{StartsNet}
use Rattle.flow_catalogue.specs.declared.standard.Std.{Std}
use Rattle.flow_rig.specs.Networks.{AreComponentsOn, IsPlanOf}
use Rattle.flow_bench.specs.declared.race.loaded.Loaded.{Loaded}
use Rattle.flow_bench.specs.declared.race.size.RaceSize.{RaceSize}
use Rattle.flow_bench.specs.Loaded.{loaded_as, loaded_rules}

-- The net is the network of this text at its start, each reader on these bytes, and each component with so many rounds of work.
pub record HasStarted (text bytes : List ℕ) (rounds : ℕ) (net : NetValue Loaded) : Type 0 where
  pub plan : Network
  pub components : List Std
  pub is_plan : IsPlanOf text plan
  pub are_components : AreComponentsOn bytes plan components
  pub starts : StartsNet plan (map (loaded_as rounds 0) components) net

-- The net goes round on one thread, process by process, until none of them has a turn.
abbrev pub GoesRound : NetValue Loaded → NetValue Loaded → Type 0
GoesRound start last = Goes loaded_rules (round_robin loaded_rules) start (turns_made start) last (turns_made last)

-- The net goes on by turns and works, in some order, until nobody has anything left to do.
pub record GoesToItsEnd (start last : NetValue Loaded) : Type 0 where
  pub reaches : ReachesNet loaded_rules start last
  pub quiet : IsQuietNet last

-- The run of a net by so many workers: without workers it goes round on one thread.
pub record RunsBy (workers : ℕ) (start last : NetValue Loaded) : Type 0 where
  pub alone : workers ≡ 0 → GoesRound start last
  pub together : 1 ≤ workers → GoesToItsEnd start last

-- The network of this text has started on so many lines as the size says, with so much work, was run by so many workers, and made so many turns in all.
pub record MakesTurns (text : List ℕ) (size : RaceSize) (turns : ℕ) : Type 0 where
  pub bytes : List ℕ
  pub start : NetValue Loaded
  pub last : NetValue Loaded
  pub full : length bytes ≡ 64 * size.packets
  pub started : HasStarted text bytes size.rounds start
  pub ran : RunsBy size.workers start last
  pub counted : turns ≡ turns_made last
