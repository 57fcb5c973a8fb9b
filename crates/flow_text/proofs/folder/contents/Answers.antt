use Rattle.std.proofs.Common.{Some, map, sym, ◌∙◌, ap}
use Rattle.flow_text.specs.Folder.{Stored, named}
use Rattle.flow_text.proofs.Held.{held-first, named-at}
use Rattle.flow_text.proofs.Folders.{stored-at}
use Rattle.flow_text.proofs.folder.contents.Goals as goal

pub returns-in-Some : goal.returns-in-Some
returns-in-Some c =
    let files = c.args.files.now in
    let d = c.index-files-place.result in
    let at = stored-at files c.args.name.now c.in-Some.place 0 d d c.index-files-place.is c.in-Some.ensures in
    ap Some c.as_slice.ensures.value
    ∙ ap (λ (e : Stored). Some e.1.items) (sym c.index-files-place.is)
    ∙ sym (held-first (map named files) c.args.name.now c.in-Some.place (named d) c.in-Some.ensures.first (named-at files c.in-Some.place d at))
