use Rattle.std.proofs.Common.{◌-◌, ◌∙◌, ap}
use Rattle.flow_text.specs.Folder.{Folded, held, room_left}
use Rattle.flow_text.proofs.Folders.{room-of}
use Rattle.flow_text.proofs.folder.Folder.room_left.Goals as goal

pub returns-in-Some : goal.returns-in-Some
returns-in-Some c =
    let f = c.self.inside in
    c.saturating_sub.ensures
    ∙ ap (λ n. f.room - n) c.len.ensures
    ∙ room-of f.files.items f.writing c.in-Some.place f.room c.index.result.now c.in-Some.is c.self.invariant c.index.ensures
    ∙ ap (λ (v : Folded). room_left v.created (held v.files) v.room) c.self.view_is
