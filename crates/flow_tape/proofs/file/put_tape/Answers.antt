use Rattle.std.specs.Option.{option_copied}
use Rattle.flow_own.specs.Reels.{reeled}
use Rattle.flow_own.specs.declared.tape.Entry.{Entry}
use Rattle.std.proofs.Common.{List, slice_get, ap, ◌∙◌}
use Rattle.flow_tape.proofs.Spelling.{writable-behind}
use Rattle.flow_tape.proofs.file.put_tape.Goals as goal

pub put_entries-requires : goal.put_entries-requires
put_entries-requires c =
    writable-behind (reeled (option_copied c.parts.result.0)) c.parts.result.1.now
    (λ k entry is. c.requires.each k entry (ap (λ (tape : List Entry). slice_get tape k) c.parts.ensures ∙ is))
