-- The laws on which the promises of a call stand, as its contracts have them: of plans, of meanings, of one outcome, of reports, of files.
use Rattle.flow_component.specs.Laws.{AtMostOneOutcome}
use Rattle.flow_catalogue.specs.declared.standard.Std.{Std}
use Rattle.flow_catalogue.specs.Std.{std_rules}
use Rattle.flow_model.specs.Ready.{StartsPlans}
use Rattle.flow_model.specs.Rising.{FinishedLeadsOn}
use Rattle.flow_model.specs.States.{State}
use Rattle.flow_meanings.specs.Batches.{EndedCollates, BatchMeans}
use Rattle.flow_meanings.specs.SortingBatches.{SortingBatchMeans}
use Rattle.flow_meanings.specs.Composition.{FinishedComposes}
use Rattle.flow_determinate.specs.Standard.{DeterminatePlansEndAsAlone}
use Rattle.flow_journal.specs.Files.{HasJournalOrFault, HasOneJournal}
use Rattle.flow_journal.specs.Replays.{StopsAreNoSchedules}
use Rattle.flow_report.specs.States.{HasOneReport}
use Rattle.flow_tape.specs.Faults.{HasTapesOrFault, HasOneList}
use Rattle.flow_offer.specs.Fits.{FitsPlayed}
use Rattle.flow_offer.specs.Laws.{EachIsStandardOrOwn}
use Rattle.flow_played.specs.Plain.{AllRunAsTheyAre, AreOthers, StandsInPlace, TellsAsItIs}
use Rattle.flow_load.specs.Offers.{AnyKind, net_rules}

pub record Laws : Type 0 where
  pub each : EachIsStandardOrOwn
  pub starts : StartsPlans std_rules
  pub starts_any : StartsPlans net_rules
  pub fits : FitsPlayed std_rules
  pub plain : AllRunAsTheyAre std_rules
  pub others : AreOthers Std
  pub in_place : StandsInPlace Std
  pub alike : TellsAsItIs Std
  pub composes : FinishedComposes
  pub rises : FinishedLeadsOn net_rules
  pub collates : EndedCollates
  pub books : BatchMeans
  pub sorting : SortingBatchMeans
  pub determinate : DeterminatePlansEndAsAlone
  pub one_report : (s : State AnyKind) → HasOneReport s
  pub one : AtMostOneOutcome net_rules
  pub no_schedule : StopsAreNoSchedules net_rules
  pub apart : HasJournalOrFault
  pub single : HasOneJournal
  pub tapes_apart : HasTapesOrFault
  pub tapes_single : HasOneList
