-- What making the turns of a journal again comes to.
use Rattle.std.proofs.Common.{List, Ok}
use Rattle.flow_plan.specs.Network.{Network}
use Rattle.flow_model.specs.Plans.{StartsWell}
use Rattle.flow_model.specs.States.{State}
use Rattle.flow_machine.specs.Values.{NetValue}
use Rattle.flow_cycle.specs.Nets.{IsReached}
use Rattle.flow_journal.specs.Replays.{schedule_of}
use Rattle.flow_journal.specs.Runs.{ComesOfSchedule}
use Rattle.flow_journal.specs.declared.merge.Journal.{Journal}
use Rattle.flow_load.specs.Offers.{AnyKind, net_rules}
use Rattle.flow_drawing.specs.declared.drawing.Remarks.{Remarks}
use Rattle.flow_draw.specs.Draws.{RemarksAfter}
use Rattle.flow_draw.specs.States.{TellsOf}

-- What is said of the net to which the turns led tells of the state to which they lead.
pub remarks-tell : (plan : Network) (components : List AnyKind) (net : NetValue AnyKind) (journal : Journal) (remarks : Remarks) → StartsWell net_rules plan components
    → ComesOfSchedule net_rules plan components (schedule_of journal) net → ((s : State AnyKind) → IsReached net_rules plan net s → TellsOf plan s remarks)
    → RemarksAfter plan components journal (Ok remarks)
remarks-tell plan components net journal remarks well comes tells = (
  comes.last,
  comes.schedule,
  tells comes.last (record { components = components; well = well; journal = schedule_of journal; leads = comes.schedule.leads; stands = comes.stands }),
)
