use Rattle.std.proofs.Common.{◌∙◌, ap, sym, Some}
use Rattle.std.proofs.lemmas.Option.{slice_get-get_or}
use Rattle.flow_own.specs.declared.tape.Entry.{Entry}
use Rattle.flow_tape.proofs.file.put_entries.Goals as goal

pub put_entry-requires : goal.put_entry-requires
put_entry-requires c =
    c.requires c.loop-entry.entry-index c.entry-item.result (slice_get-get_or c.args.entries.now c.loop-entry.entry-index c.entry-item.result c.loop-entry-test.true ∙ ap (λ (e : Entry). Some e) (sym c.entry-item.is))
