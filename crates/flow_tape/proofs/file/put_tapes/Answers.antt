use Rattle.std.proofs.Common.{◌∙◌, ap, sym, Some, List}
use Rattle.std.proofs.lemmas.Option.{slice_get-get_or}
use Rattle.flow_own.specs.declared.tape.Entry.{Entry}
use Rattle.flow_tape.proofs.file.put_tapes.Goals as goal

pub put_tape-requires : goal.put_tape-requires
put_tape-requires c =
    c.requires c.loop-tape.tape-index c.tape-item.result (slice_get-get_or c.args.tapes.now c.loop-tape.tape-index c.tape-item.result c.loop-tape-test.true ∙ ap (λ (t : List Entry). Some t) (sym c.tape-item.is))
