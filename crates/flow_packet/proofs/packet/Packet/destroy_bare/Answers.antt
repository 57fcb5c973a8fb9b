use Rattle.std.proofs.Common.{◌≡◌, [], ◌∙◌, ap, length, sym}
use Rattle.std.proofs.lemmas.List.{length-map}
use Rattle.flow_packet.specs.Tree.{chains_of}
use Rattle.flow_packet.specs.View.{chain_of, chains_in}
use Rattle.flow_packet.proofs.Trees.{chains_of-tree_of}
use Rattle.flow_packet.proofs.packet.Packet.destroy_bare.Goals as goal

pub destroy_empty-requires : goal.destroy_empty-requires
destroy_empty-requires c =
    let none : chains_in c.self.inside.chains.items ≡ [] = sym (chains_of-tree_of c.self.inside) ∙ ap chains_of c.self.view_is ∙ c.requires in
    c.self.inside.chains.ok.0 ∙ sym (length-map c.self.inside.chains.items chain_of) ∙ ap length none
