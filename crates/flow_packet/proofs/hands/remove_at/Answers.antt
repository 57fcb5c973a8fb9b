use Rattle.std.proofs.Common.{◌∙◌, sym}
use Rattle.std.proofs.lemmas.List.{same_from_push}
use Rattle.std.proofs.lemmas.Option.{slice_get-get_or}
use Rattle.flow_packet.proofs.hands.remove_at.Goals as goal

pub returns-clause-rest : goal.returns-clause-rest
returns-clause-rest c =
    let there = slice_get-get_or c.args.packets.now.items c.args.place c.take_last-2.result c.requires in
    let brought = rw there at c.bring_last.ensures.items in
    (same_from_push _ _ _ _ (sym c.take_last-2.ensures.items ∙ brought)).0
