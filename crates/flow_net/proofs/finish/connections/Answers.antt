use Rattle.std.proofs.Common.{◌≡◌, ◌∙◌, Some, ap, refl, slice_get}
use Rattle.std.specs.Option.{option_map, option_and_then}
use Rattle.std.proofs.lemmas.Option.{slice_get_read}
use Rattle.flow_net.specs.declared.draft.Link.{Link}
use Rattle.flow_net.proofs.finish.connections.Goals as goal

pub connection-requires-clause-into : goal.connection-requires-clause-into
connection-requires-clause-into c =
    let here : slice_get c.args.links.now c.loop-link.link-index ≡ Some c.link-item.result = slice_get_read c.args.links.now _ c.loop-link.link-index c.link-item.result refl c.loop-link-test.true c.link-item.is in
    c.requires.into c.loop-link.link-index c.link-item.result.into (ap (option_map (λ (l : Link). l.into)) here)

pub connection-requires-clause-senders : goal.connection-requires-clause-senders
connection-requires-clause-senders c =
    let here : slice_get c.args.links.now c.loop-link.link-index ≡ Some c.link-item.result = slice_get_read c.args.links.now _ c.loop-link.link-index c.link-item.result refl c.loop-link-test.true c.link-item.is in
    λ k end at. c.requires.senders c.loop-link.link-index k end (ap (option_and_then (λ (l : Link). slice_get l.senders k)) here ∙ at)
