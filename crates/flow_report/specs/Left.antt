-- The packets that are left, each with the place where it is.
use Rattle.std.specs.Prelude.{ℕ, List, [], ◌∷◌, ◌++◌, Option, Some, None}
use Rattle.std.specs.List.{flat_map}
use Rattle.flow_packet.specs.Tree.{Tree, Chains, Trees, node, no_chains, chain, no_trees, tree, Chain}
use Rattle.flow_report.specs.declared.report.LeftPacket.{LeftPacket}
use Rattle.flow_report.specs.declared.report.Place.{Place}
use Rattle.flow_report.specs.declared.report.Place.TheVariants.{InChain}

-- A packet that is left at this place, followed by the packets of its chains, in order, each with its own tree. Their places are those chains.
abbrev mutual
  pub left_in : Place → Tree → List LeftPacket
  left_in place (node id kind text cs) = record { packet = id; place = place } ∷ left_in_chains id cs

  pub left_in_chains : ℕ → Chains → List LeftPacket
  left_in_chains of no_chains = []
  left_in_chains of (chain name ts cs) = left_in_trees (InChain name of) ts ++ left_in_chains of cs

  pub left_in_trees : Place → Trees → List LeftPacket
  left_in_trees place no_trees = []
  left_in_trees place (tree t ts) = left_in place t ++ left_in_trees place ts

-- Several packets that are left at this place, each followed by its tree.
abbrev pub left_at : Place → List Tree → List LeftPacket
left_at place packets = flat_map (left_in place) packets

-- The packets of a chain of the packet with this id, if the chain is there, each followed by its tree.
abbrev pub left_in_chain : ℕ → Option Chain → List LeftPacket
left_in_chain of (Some c) = left_at (InChain c.0 of) c.1
left_in_chain of None = []
