use Rattle.std.proofs.Common.{◌∷◌, List, inr, refl, subst}
use Rattle.std.specs.Option.{option_map}
use Rattle.flow_words.specs.Words.{Replay}
use Rattle.flow_load.specs.Components.{AreComponents, contents_of}
use Rattle.flow_load.specs.Offers.{Taped}
use Rattle.flow_load.proofs.Befores.{on-file, journal-file-of, journal-stopped, behind-net, behind-journal, between-of, tapes-of, tapes-stopped, inputs-stopped, ready, unmade}
use Rattle.flow_load.proofs.before.replayable.Goals as goal

pub returns-in-Err : goal.returns-in-Err
returns-in-Err g c = λ words own recorded offered asks empty.
    c.in-Err.ensures words own recorded offered (on-file words (Replay c.args.name.now c.args.kept.now (option_map (λ s. s.now) c.args.tapes)) c.args.name.now refl asks) empty

pub returns-in-Err-read_journal : goal.returns-in-Err-read_journal
returns-in-Err-read_journal g c =
    let l = c.in-Ok.ensures in
    journal-stopped c.args.kinds.now (g.F.Edge.outside c.args.shelf.now) (g.F.Edge.outside c.load.new.shelf) (g.F.Edge.outside c.read_journal.new.shelf) c.args.name.now c.args.kept.now
    (option_map (λ s. s.now) c.args.tapes) l.0 c.in-Ok.file.text c.in-Ok.file.plan l.1 l.2 c.in-Err-read_journal.stop c.in-Err-read_journal.ensures

pub returns-in-Err-read_tapes : goal.returns-in-Err-read_tapes
returns-in-Err-read_tapes g c =
    let o = g.F.Edge.outside c.args.shelf.now in
    let mid = g.F.Edge.outside c.load.new.shelf in
    let low = g.F.Edge.outside c.read_journal.new.shelf in
    let l = c.in-Ok.ensures in
    let j = c.in-Ok-read_journal.ensures in
    let journal = c.in-Ok-read_journal.journal in
    tapes-stopped c.args.kinds.now o low (g.F.Edge.outside c.read_tapes.new.shelf) c.args.name.now c.args.kept.now l.0 j.0 c.in-Ok.file.text c.in-Ok.file.plan journal
    (behind-net o mid low c.args.name.now c.args.kept.now l.0 j.0 l.1 j.1) l.2 (journal-file-of o mid c.args.name.now l.0 c.args.kept.now j.0 journal l.1 j.2)
    c.count_own-wanted.result c.count_own-wanted.ensures (option_map (λ s. s.now) c.args.tapes) c.in-Err-read_tapes.stop c.in-Err-read_tapes.ensures

pub returns-in-Err-read_inputs : goal.returns-in-Err-read_inputs
returns-in-Err-read_inputs g c = λ words own recorded offered asks empty.
    let o = g.F.Edge.outside c.args.shelf.now in
    let mid = g.F.Edge.outside c.load.new.shelf in
    let low = g.F.Edge.outside c.read_journal.new.shelf in
    let deep = g.F.Edge.outside c.read_tapes.new.shelf in
    let l = c.in-Ok.ensures in
    let j = c.in-Ok-read_journal.ensures in
    let t = c.in-Ok-read_tapes.ensures in
    let journal = c.in-Ok-read_journal.journal in
    let named = option_map (λ s. s.now) c.args.tapes in
    let before = behind-net o mid low c.args.name.now c.args.kept.now l.0 j.0 l.1 j.1 in
    let is_journal = journal-file-of o mid c.args.name.now l.0 c.args.kept.now j.0 journal l.1 j.2 in
    inputs-stopped c.args.kinds.now o deep (g.F.Edge.outside c.read_inputs.new.shelf) c.args.name.now l.0 ((c.args.kept.now, j.0) ∷ t.0) c.in-Ok.file.text c.in-Ok.file.plan
    (behind-journal c.args.kinds.now o low deep c.args.name.now c.args.kept.now l.0 j.0 c.in-Ok.file.text c.in-Ok.file.plan journal before l.2 is_journal t.0 t.1) l.2
    c.in-Err-read_inputs.stop c.in-Err-read_inputs.ensures words own recorded offered (on-file words (Replay c.args.name.now c.args.kept.now named) c.args.name.now refl asks)
    (inr (c.args.kept.now, named, asks, between-of c.args.kinds.now o low deep c.args.name.now c.args.kept.now l.0 j.0 c.in-Ok.file.text c.in-Ok.file.plan journal before l.2 is_journal named t.0 c.in-Ok-read_tapes.tapes.items t.2))
    empty

pub returns-in-Ok-played_components : goal.returns-in-Ok-played_components
returns-in-Ok-played_components g c =
    let o = g.F.Edge.outside c.args.shelf.now in
    let mid = g.F.Edge.outside c.load.new.shelf in
    let low = g.F.Edge.outside c.read_journal.new.shelf in
    let deep = g.F.Edge.outside c.read_tapes.new.shelf in
    let l = c.in-Ok.ensures in
    let j = c.in-Ok-read_journal.ensures in
    let t = c.in-Ok-read_tapes.ensures in
    let journal = c.in-Ok-read_journal.journal in
    let named = option_map (λ s. s.now) c.args.tapes in
    let before = behind-net o mid low c.args.name.now c.args.kept.now l.0 j.0 l.1 j.1 in
    let is_journal = journal-file-of o mid c.args.name.now l.0 c.args.kept.now j.0 journal l.1 j.2 in
    let given = c.in-Ok-read_inputs.given in
    record {
      bytes = j.0;
      is_journal = is_journal;
      files = t.0;
      are_tapes = tapes-of c.args.kinds.now o low deep c.args.name.now c.args.kept.now l.0 j.0 c.in-Ok.file.text c.in-Ok.file.plan journal before l.2 is_journal named t.0 c.in-Ok-read_tapes.tapes.items t.2;
      given = contents_of given.items;
      ready = ready c.args.kinds.now o deep (g.F.Edge.outside c.read_inputs.new.shelf) c.args.name.now l.0 ((c.args.kept.now, j.0) ∷ t.0) c.in-Ok.file.text c.in-Ok.file.plan
          (behind-journal c.args.kinds.now o low deep c.args.name.now c.args.kept.now l.0 j.0 c.in-Ok.file.text c.in-Ok.file.plan journal before l.2 is_journal t.0 t.1) l.2 given c.in-Ok-read_inputs.ensures;
      are_components = subst (λ (t : List Taped). AreComponents c.args.kinds.now c.in-Ok.file.plan (contents_of given.items) t c.in-Ok-played_components.components.items) c.deref.ensures.value c.in-Ok-played_components.ensures;
    }

pub returns-in-Err-played_components : goal.returns-in-Err-played_components
returns-in-Err-played_components g c = λ words own recorded offered asks empty.
    let o = g.F.Edge.outside c.args.shelf.now in
    let mid = g.F.Edge.outside c.load.new.shelf in
    let low = g.F.Edge.outside c.read_journal.new.shelf in
    let deep = g.F.Edge.outside c.read_tapes.new.shelf in
    let l = c.in-Ok.ensures in
    let j = c.in-Ok-read_journal.ensures in
    let t = c.in-Ok-read_tapes.ensures in
    let journal = c.in-Ok-read_journal.journal in
    let before = behind-net o mid low c.args.name.now c.args.kept.now l.0 j.0 l.1 j.1 in
    let is_journal = journal-file-of o mid c.args.name.now l.0 c.args.kept.now j.0 journal l.1 j.2 in
    unmade c.args.kinds.now o deep (g.F.Edge.outside c.read_inputs.new.shelf) c.args.name.now l.0 ((c.args.kept.now, j.0) ∷ t.0) c.in-Ok.file.text c.in-Ok.file.plan
    (behind-journal c.args.kinds.now o low deep c.args.name.now c.args.kept.now l.0 j.0 c.in-Ok.file.text c.in-Ok.file.plan journal before l.2 is_journal t.0 t.1) l.2
    c.in-Ok-read_inputs.given c.in-Ok-read_inputs.ensures words own recorded empty
