-- The report of a net in which no work is still to come tells of the state to which its journal leads.
use Rattle.std.proofs.Common.{◌≤◌, [], length, refl, subst, arith}
use Rattle.flow_limits.specs.declared.TheConstants.{PROCESS_LIMIT}
use Rattle.flow_component.specs.Laws.{Rules}
use Rattle.flow_model.specs.States.{Process, State}
use Rattle.flow_model.specs.Schedules.{SettlesAll, IsClosed}
use Rattle.flow_model.specs.Stages.{IsThoughtStage}
use Rattle.flow_model.specs.Stands.{StandsForOpen}
use Rattle.flow_machine.specs.Values.{NetValue, shown_net}
use Rattle.flow_machine.proofs.SoloLemmas.{body-of}
use Rattle.flow_journal.specs.Runs.{ReachesAreScheduled}
use Rattle.flow_report.specs.States.{ReportsTell}
use Rattle.flow_witness.specs.Paused.{OwesNoWork, PausedNetsTell}

module _ {K : Type 0} (rules : Rules K) where
  -- no process has work to do in a state for which such a net stands
  closed-state : (net : NetValue K) (s : State K) → StandsForOpen (shown_net net) s → OwesNoWork net → IsClosed s
  closed-state net s stands none p x there =
      let b = body-of net s p x stands there in
      subst (λ (y : Process K). IsThoughtStage y.stage) b.2 (none p b.0 b.1)

  -- so nothing has to be done before the journal leads there
  pub paused-tells : ReachesAreScheduled rules → ReportsTell rules → PausedNetsTell rules
  paused-tells scheduled tell plan components start net turns seen well begins reaches none names_turns names_seen =
      let stretch = scheduled plan components start net turns seen well begins reaches names_turns names_seen in
      let done : SettlesAll rules stretch.now stretch.now = record { works = []; lead = refl; closed = closed-state net stretch.now stretch.stands none } in
      let schedule = stretch.schedule stretch.now done in
      let few : length stretch.now.kept.processes ≤ PROCESS_LIMIT = omega (arith, stretch.count, well.wired.few_processes) in
      record {
        last = stretch.now;
        schedule = schedule;
        stands = stretch.stands;
        tells = tell plan net stretch.now stretch.fit few (record { components = components; well = well; journal = record { turns = turns; seen = seen }; leads = schedule.leads; stands = stretch.stands });
      }
