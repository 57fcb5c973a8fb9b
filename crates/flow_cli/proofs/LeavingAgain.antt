-- What making the turns of a journal again comes to, where each component of the caller's own is a player.
use Rattle.std.proofs.Common.{List}
use Rattle.flow_plan.specs.Network.{Network}
use Rattle.flow_plan.specs.Valid.{IsValid}
use Rattle.flow_machine.specs.Values.{NetValue}
use Rattle.flow_model.specs.Plans.{StartsWell}
use Rattle.flow_journal.specs.Replays.{schedule_of}
use Rattle.flow_journal.specs.declared.merge.Journal.{Journal}
use Rattle.flow_journal.specs.Runs.{ComesOfSchedule}
use Rattle.flow_report.specs.States.{ReportsTell}
use Rattle.flow_load.specs.Offers.{AnyKind, net_rules}
use Rattle.flow_cli.specs.Leaves.{IsToldOfNet, TellsAgain}
use Rattle.flow_cli.specs.declared.ran.PrintedReport.{PrintedReport}
use Rattle.flow_cli.proofs.Leaving.{told-of}

-- What making a journal again tells of the net to which it led.
pub told-again : (plan : Network) (components : List AnyKind) (net : NetValue AnyKind) (journal : Journal) (told : PrintedReport) → IsValid plan → ReportsTell net_rules
    → StartsWell net_rules plan components → ComesOfSchedule net_rules plan components (schedule_of journal) net → IsToldOfNet plan net told → TellsAgain plan components journal told
told-again plan components net journal told valid tell well comes is = record {
  last = comes.last;
  schedule = comes.schedule;
  told_is = told-of net_rules plan net comes.last told valid tell comes.fit comes.count
      (record { components = components; well = well; journal = schedule_of journal; leads = comes.schedule.leads; stands = comes.stands }) is;
}
