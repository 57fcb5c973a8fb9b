use Rattle.std.proofs.Common.{inr, subst}
use Rattle.flow_cli.specs.After.{outputs_at}
use Rattle.flow_cli.specs.Top.{Performs, recorded_of}
use Rattle.flow_cli.proofs.Concluding.{done-manned}
use Rattle.flow_cli.proofs.Keeping.{done-keeps, stop-keeps}
use Rattle.flow_cli.proofs.TopLaws.{Laws}
use Rattle.flow_cli.proofs.Tops.{stop-not-over}
use Rattle.flow_cli.proofs.top.conclude.Goals as goal

pub returns-in-Ok-clause-promises : goal.returns-in-Ok-clause-promises
returns-in-Ok-clause-promises g c = λ own words before did.
    let laws : Laws = record {
      each = c.each_process_is_standard_or_own.ensures;
      starts = c.a_valid_plan_is_ready.ensures.starts;
      starts_any = c.a_valid_plan_is_ready-2.ensures.starts;
      fits = c.own_components_fit.ensures.played;
      plain = c.a_network_without_own_components_runs_as_it_is.ensures;
      others = c.components_without_own_ones_are_others.ensures;
      in_place = c.a_network_without_own_components_tells_as_it_is.ensures.in_place;
      alike = c.a_network_without_own_components_tells_as_it_is.ensures.told;
      composes = c.a_finished_network_composes_its_meanings.ensures;
      rises = c.a_finished_network_leads_on.ensures;
      collates = c.an_ended_collate_has_sent_the_collation.ensures;
      books = c.a_batch_update_writes_its_book.ensures;
      sorting = c.a_batch_update_that_sorts_writes_its_book.ensures;
      determinate = c.a_determinate_plan_ends_as_on_one_thread.ensures;
      one_report = c.a_state_has_one_report.ensures;
      one = c.players_come_to_one_outcome.ensures c.standard_components_come_to_one_outcome.ensures;
      no_schedule = c.a_journal_that_stops_is_no_schedule.ensures;
      apart = c.a_file_has_one_journal_or_one_fault.ensures.apart;
      single = c.a_file_has_one_journal_or_one_fault.ensures.journal;
      tapes_apart = c.a_file_has_one_list_of_tapes_or_one_fault.ensures.apart;
      tapes_single = c.a_file_has_one_list_of_tapes_or_one_fault.ensures.tapes;
    } in
    done-keeps laws words own before (g.F.Edge.outside c.args.shelf.now) (g.F.Edge.outside c.tell.new.shelf) (outputs_at (g.O.Edge.outside c.args.out.now) (g.E.Edge.outside c.args.err.now)) (outputs_at (g.O.Edge.outside c.tell.new.out) (g.E.Edge.outside c.tell.new.err)) c.in-Ok.done c.tell.result
    (subst (λ r. Performs own before (g.F.Edge.outside c.args.shelf.now) words r) c.in-Ok.is did) c.tell.ensures

pub returns-in-Ok-clause-crew : goal.returns-in-Ok-clause-crew
returns-in-Ok-clause-crew g c = λ own words before did.
    done-manned words own before (g.F.Edge.outside c.args.shelf.now) (g.F.Edge.outside c.tell.new.shelf) (outputs_at (g.O.Edge.outside c.args.out.now) (g.E.Edge.outside c.args.err.now)) (outputs_at (g.O.Edge.outside c.tell.new.out) (g.E.Edge.outside c.tell.new.err)) c.in-Ok.done c.tell.result
    (subst (λ r. Performs own before (g.F.Edge.outside c.args.shelf.now) words r) c.in-Ok.is did) c.tell.ensures

pub returns-in-Err-clause-promises : goal.returns-in-Err-clause-promises
returns-in-Err-clause-promises g c = λ own words before did.
    let laws : Laws = record {
      each = c.each_process_is_standard_or_own.ensures;
      starts = c.a_valid_plan_is_ready.ensures.starts;
      starts_any = c.a_valid_plan_is_ready-2.ensures.starts;
      fits = c.own_components_fit.ensures.played;
      plain = c.a_network_without_own_components_runs_as_it_is.ensures;
      others = c.components_without_own_ones_are_others.ensures;
      in_place = c.a_network_without_own_components_tells_as_it_is.ensures.in_place;
      alike = c.a_network_without_own_components_tells_as_it_is.ensures.told;
      composes = c.a_finished_network_composes_its_meanings.ensures;
      rises = c.a_finished_network_leads_on.ensures;
      collates = c.an_ended_collate_has_sent_the_collation.ensures;
      books = c.a_batch_update_writes_its_book.ensures;
      sorting = c.a_batch_update_that_sorts_writes_its_book.ensures;
      determinate = c.a_determinate_plan_ends_as_on_one_thread.ensures;
      one_report = c.a_state_has_one_report.ensures;
      one = c.players_come_to_one_outcome.ensures c.standard_components_come_to_one_outcome.ensures;
      no_schedule = c.a_journal_that_stops_is_no_schedule.ensures;
      apart = c.a_file_has_one_journal_or_one_fault.ensures.apart;
      single = c.a_file_has_one_journal_or_one_fault.ensures.journal;
      tapes_apart = c.a_file_has_one_list_of_tapes_or_one_fault.ensures.apart;
      tapes_single = c.a_file_has_one_list_of_tapes_or_one_fault.ensures.tapes;
    } in
    let stopped = subst (λ r. Performs own before (g.F.Edge.outside c.args.shelf.now) words r) c.in-Err.is did in
    stop-keeps laws words own before (g.F.Edge.outside c.args.shelf.now) (outputs_at (g.O.Edge.outside c.args.out.now) (g.E.Edge.outside c.args.err.now)) (outputs_at (g.O.Edge.outside c.stopped.new.out) (g.E.Edge.outside c.stopped.new.err)) (recorded_of c.stopped.result) c.stopped.result.status c.in-Err.stop
    (stopped (recorded_of c.stopped.result) c.stopped.ensures.nothing) c.stopped.ensures.status

pub returns-in-Err-clause-crew : goal.returns-in-Err-clause-crew
returns-in-Err-clause-crew g c = λ own words before did.
    inr ((c.stopped.ensures.crew, c.stopped.ensures.nothing.0), stop-not-over (outputs_at (g.O.Edge.outside c.args.out.now) (g.E.Edge.outside c.args.err.now)) (outputs_at (g.O.Edge.outside c.stopped.new.out) (g.E.Edge.outside c.stopped.new.err)) c.in-Err.stop c.stopped.result.status c.stopped.ensures.status)
