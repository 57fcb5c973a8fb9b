-- What is told of a state says nothing of its components. (This project's own.)
use Rattle.std.specs.Prelude.{◌↔◌}
use Rattle.flow_plan.specs.Network.{Network}
use Rattle.flow_model.specs.States.{State}
use Rattle.flow_model.specs.Verdicts.{Quiet, AllEnded, SomeFailed}
use Rattle.flow_model.specs.Places.{OnePlace}
use Rattle.flow_model.specs.Order.{InOrder}
use Rattle.flow_report.specs.Text.{Told as Report}
use Rattle.flow_report.specs.States.{TellsOf}

-- The same is told of the two states: whether a process can go on, where the packets are and in which order they were put and got, which processes have
-- ended, which have failed, and every report.
pub record ToldAlike {K L : Type 0} (s : State K) (t : State L) : Type 0 where
  pub quiet : Quiet s ↔ Quiet t
  pub one_place : OnePlace s ↔ OnePlace t
  pub in_order : InOrder s ↔ InOrder t
  pub all_ended : AllEnded s ↔ AllEnded t
  pub some_failed : SomeFailed s ↔ SomeFailed t
  pub reports : (plan : Network) (told : Report) → TellsOf plan s told ↔ TellsOf plan t told
