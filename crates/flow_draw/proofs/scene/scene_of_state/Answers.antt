use Rattle.std.proofs.Common.{[], ◌∷◌, Some, refl}
use Rattle.flow_load.specs.Components.{contents_of}
use Rattle.flow_load.proofs.Befores.{behind-net, journal-file-of, ready}
use Rattle.flow_load.proofs.Steps.{may-read}
use Rattle.flow_draw.proofs.Plain.{no-tapes}
use Rattle.flow_draw.proofs.Reading.{net-stopped, journal-stopped, inputs-stopped, replay-stopped, untaped}
use Rattle.flow_draw.proofs.scene.scene_of_state.Goals as goal

pub played_components-requires-clause-offered : goal.played_components-requires-clause-offered
played_components-requires-clause-offered g c = c.in-Ok.ensures.3.over

pub played_components-requires-clause-given : goal.played_components-requires-clause-given
played_components-requires-clause-given g c = c.in-Ok-read_inputs.ensures.0

pub played_components-requires-clause-tapes : goal.played_components-requires-clause-tapes
played_components-requires-clause-tapes g c = no-tapes c.args.own.now c.in-Ok.plan [] (c.has_own.ensures.none c.if-has_own.false) refl

pub remarks_after-requires-clause-begins : goal.remarks_after-requires-clause-begins
remarks_after-requires-clause-begins g c =
    (c.args.own.now, c.in-Ok.ensures.3.over, (contents_of c.in-Ok-read_inputs.given.items, [], c.in-Ok-played_components.ensures))

pub returns-in-Err : goal.returns-in-Err
returns-in-Err g c =
    net-stopped c.args.own.now (g.F.Edge.outside c.args.shelf.now) (g.F.Edge.outside c.load.new.shelf) c.args.name.now (Some c.args.kept.now) c.in-Err.stop c.in-Err.ensures

pub returns-then-has_own : goal.returns-then-has_own
returns-then-has_own g c =
    let l = c.in-Ok.ensures in
    untaped c.args.own.now (g.F.Edge.outside c.args.shelf.now) (g.F.Edge.outside c.load.new.shelf) c.args.name.now c.args.kept.now l.0 l.1 c.in-Ok.plan l.2 l.3
    (c.has_own.ensures.some c.if-has_own.true)

pub returns-in-Err-read_journal : goal.returns-in-Err-read_journal
returns-in-Err-read_journal g c =
    let l = c.in-Ok.ensures in
    journal-stopped c.args.own.now (g.F.Edge.outside c.args.shelf.now) (g.F.Edge.outside c.load.new.shelf) (g.F.Edge.outside c.read_journal.new.shelf) c.args.name.now
    c.args.kept.now l.0 l.1 c.in-Ok.plan l.2 l.3
    c.in-Err-read_journal.stop c.in-Err-read_journal.ensures

pub returns-in-Err-read_inputs : goal.returns-in-Err-read_inputs
returns-in-Err-read_inputs g c =
    let o = g.F.Edge.outside c.args.shelf.now in
    let mid = g.F.Edge.outside c.load.new.shelf in
    let low = g.F.Edge.outside c.read_journal.new.shelf in
    let l = c.in-Ok.ensures in
    let j = c.in-Ok-read_journal.ensures in
    inputs-stopped c.args.own.now o low (g.F.Edge.outside c.read_inputs.new.shelf) c.args.name.now l.0 c.args.kept.now j.0 c.in-Ok-read_journal.journal l.1 c.in-Ok.plan
    (behind-net o mid low c.args.name.now c.args.kept.now l.0 j.0 l.2 j.1) l.3
    (journal-file-of o mid c.args.name.now l.0 c.args.kept.now j.0 c.in-Ok-read_journal.journal l.2 j.2)
    c.in-Err-read_inputs.stop c.in-Err-read_inputs.ensures

pub returns-in-Err-played_components : goal.returns-in-Err-played_components
returns-in-Err-played_components g c =
    let o = g.F.Edge.outside c.args.shelf.now in
    let mid = g.F.Edge.outside c.load.new.shelf in
    let low = g.F.Edge.outside c.read_journal.new.shelf in
    let new = g.F.Edge.outside c.read_inputs.new.shelf in
    let l = c.in-Ok.ensures in
    let j = c.in-Ok-read_journal.ensures in
    may-read o new _ (ready c.args.own.now o low new c.args.name.now l.0 ((c.args.kept.now, j.0) ∷ []) l.1 c.in-Ok.plan
    (behind-net o mid low c.args.name.now c.args.kept.now l.0 j.0 l.2 j.1) l.3 c.in-Ok-read_inputs.given c.in-Ok-read_inputs.ensures).reads

pub returns-in-Ok-remarks_after : goal.returns-in-Ok-remarks_after
returns-in-Ok-remarks_after g c =
    let o = g.F.Edge.outside c.args.shelf.now in
    let mid = g.F.Edge.outside c.load.new.shelf in
    let low = g.F.Edge.outside c.read_journal.new.shelf in
    let l = c.in-Ok.ensures in
    let j = c.in-Ok-read_journal.ensures in
    let r = c.in-Ok-remarks_after.ensures in
    record {
      bytes = j.0;
      journal = c.in-Ok-read_journal.journal;
      is_journal = journal-file-of o mid c.args.name.now l.0 c.args.kept.now j.0 c.in-Ok-read_journal.journal l.2 j.2;
      given = contents_of c.in-Ok-read_inputs.given.items;
      ready = ready c.args.own.now o low (g.F.Edge.outside c.read_inputs.new.shelf) c.args.name.now l.0 ((c.args.kept.now, j.0) ∷ []) l.1 c.in-Ok.plan
          (behind-net o mid low c.args.name.now c.args.kept.now l.0 j.0 l.2 j.1) l.3 c.in-Ok-read_inputs.given c.in-Ok-read_inputs.ensures;
      none_own = c.has_own.ensures.none c.if-has_own.false;
      components = c.in-Ok-played_components.components.items;
      are_components = c.in-Ok-played_components.ensures;
      last = r.0;
      schedule = r.1;
      tells = r.2;
    }

pub returns-in-Err-remarks_after : goal.returns-in-Err-remarks_after
returns-in-Err-remarks_after g c =
    let o = g.F.Edge.outside c.args.shelf.now in
    let mid = g.F.Edge.outside c.load.new.shelf in
    let low = g.F.Edge.outside c.read_journal.new.shelf in
    let l = c.in-Ok.ensures in
    let j = c.in-Ok-read_journal.ensures in
    replay-stopped c.args.own.now o (g.F.Edge.outside c.read_inputs.new.shelf) c.args.name.now c.args.kept.now j.0 c.in-Ok-read_journal.journal c.in-Ok.plan
    (contents_of c.in-Ok-read_inputs.given.items) c.in-Ok-played_components.components.items
    (journal-file-of o mid c.args.name.now l.0 c.args.kept.now j.0 c.in-Ok-read_journal.journal l.2 j.2)
    (ready c.args.own.now o low (g.F.Edge.outside c.read_inputs.new.shelf) c.args.name.now l.0 ((c.args.kept.now, j.0) ∷ []) l.1 c.in-Ok.plan
    (behind-net o mid low c.args.name.now c.args.kept.now l.0 j.0 l.2 j.1) l.3 c.in-Ok-read_inputs.given c.in-Ok-read_inputs.ensures)
    c.in-Ok-played_components.ensures c.in-Err-remarks_after.stop c.in-Err-remarks_after.ensures
