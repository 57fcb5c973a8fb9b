use Rattle.std.proofs.Common.{List, ℕ, refl, subst}
use Rattle.flow_draw.specs.Draws.{Prints, call_of}
use Rattle.flow_draw.proofs.Tops.{ends-printed}
use Rattle.flow_draw.proofs.Valid.{complete}
use Rattle.flow_draw.proofs.top.draw_top.Goals as goal

pub returns-in-Ok : goal.returns-in-Ok
returns-in-Ok g c =
    let o = g.O.Edge.outside c.args.out.now in
    let n = g.O.Edge.outside c.print.new.out in
    let call = call_of c.args.words.now c.args.own.now (g.F.Edge.outside c.args.shelf.now) (g.F.Edge.outside c.picture.new.shelf) o n in
    let prints = subst (λ (bytes : List ℕ). Prints o n bytes c.print.result) c.deref.ensures.value c.print.ensures in
    let ends = ends-printed call c.in-Ok.text.items c.print.result c.in-Ok.ensures prints in
    record {
      ends = ends;
      complete = λ faults valid. complete (c.players_come_to_one_outcome.ensures c.standard_components_come_to_one_outcome.ensures)
          c.a_journal_that_stops_is_no_schedule.ensures c.a_file_has_one_journal_or_one_fault.ensures.apart call faults valid c.print.result ends;
    }

pub returns-in-Err : goal.returns-in-Err
returns-in-Err g c =
    let o = g.O.Edge.outside c.args.out.now in
    let call = call_of c.args.words.now c.args.own.now (g.F.Edge.outside c.args.shelf.now) (g.F.Edge.outside c.picture.new.shelf) o o in
    record {
      ends = (c.in-Err.ensures, refl {a = o});
      complete = λ faults valid. complete (c.players_come_to_one_outcome.ensures c.standard_components_come_to_one_outcome.ensures)
          c.a_journal_that_stops_is_no_schedule.ensures c.a_file_has_one_journal_or_one_fault.ensures.apart call faults valid _ (c.in-Err.ensures, refl {a = o});
    }
