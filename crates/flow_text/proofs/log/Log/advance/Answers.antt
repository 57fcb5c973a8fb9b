use Rattle.std.proofs.Common.{◌≡◌, ◌-◌, ◌∙◌, suc, sym, ap, List, length, arith}
use Rattle.std.specs.Prelude.{◌||◌}
use mathlib.Core.Path.{ap₂}
use Rattle.std.proofs.lemmas.Grind.{common_steps}
use Rattle.flow_text.specs.Edge.{Logged, moved, last_moved}
use Rattle.flow_text.specs.Log.{logged}
use Rattle.flow_text.specs.declared.log.Entry.{Entry}
use Rattle.flow_text.proofs.Logs.{last-set, or-true, or-left}
use Rattle.flow_text.proofs.log.Log.advance.Goals as goal
use Rattle.flow_text.proofs.log.Log.advance.Goals.{then-file, else-file}

pub returns : goal.returns
returns c =
    let files = c.self.inside.files in
    let d = c.index_mut-file.result.now in
    let new : Entry = record { name = d.name; given = c.and-file.result; ended = c.if-file.file } in
    let ended : c.if-file.file ≡ (d.ended || c.args.ended) = elim c.if-file.branch [
      | then-file w ↦ w.file-is ∙ w.if-file.true ∙ sym (or-true d.ended c.args.ended w.if-file.true)
      | else-file w ↦ w.file-is ∙ sym (or-left d.ended c.args.ended w.if-file.false)
    ] in
    let same : logged new ≡ moved c.args.bytes.now c.args.ended (logged d) =
    ap₂ (λ bytes ended. record (logged d) { bytes = bytes; ended = ended }) c.and-file.ensures ended in
    let size : suc (c.len-count.result - 1) ≡ length files.items = grind (arith, common_steps) in
    last-set files.items (c.len-count.result - 1) c.args.bytes.now c.args.ended d new size c.index_mut-file.ensures.value same
    ∙ ap (λ (l : List Logged). last_moved c.args.bytes.now c.args.ended l) c.self.view_is
