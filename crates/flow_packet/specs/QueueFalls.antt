-- Each packet of a queue weighs less than the queue.
use Rattle.std.specs.Prelude.{◌≡◌, ℕ, zero, suc, ◌+◌, ◌≤◌, List, [], ◌∷◌, take, drop, All, refl}
use Rattle.std.proofs.Common.{arith}
use denote.Param.Weighed.{most}
use Rattle.flow_packet.specs.Tree.{Tree, node, Chains, no_chains, chain, from_chains, to_trees, weight, weight_of_chains, weight_of_trees}
use Rattle.flow_packet.specs.Bare.{IsBare}
use Rattle.flow_packet.specs.Queue.{IsQueue}
use Rattle.flow_packet.specs.declared.queue.Queue.TheInside.{Inside}

no_chains-weight : (cs : Chains) → from_chains cs ≡ [] → weight_of_chains cs ≡ 0
no_chains-weight no_chains e = refl
no_chains-weight (chain name ts cs) e = cc

-- a bare packet weighs nothing
bare-weight : (t : Tree) → IsBare t → weight t ≡ 0
bare-weight (node id kind text cs) e = no_chains-weight cs e

-- no packet is heavier than all of them together
most_le-weight : (ts : List Tree) → most (λ t. weight t + 1) ts ≤ weight_of_trees (to_trees ts) + 1
most_le-weight [] = omega arith
most_le-weight (t ∷ ts) = omega (arith, most_le-weight ts)

most_le-left : (ts : List Tree) (taken : ℕ) → All IsBare (take taken ts) → most (λ t. weight t + 1) ts ≤ weight_of_trees (to_trees (drop taken ts)) + 1
most_le-left ts zero bare = most_le-weight ts
most_le-left [] (suc taken) bare = omega arith
most_le-left (t ∷ ts) (suc taken) bare =
    let first = bare-weight t (bare 0 t (omega arith)) in
    let rest : All IsBare (take taken ts) = λ k d within. bare (suc k) d (omega arith) in
    omega (arith, first, most_le-left ts taken rest)

-- The trees that a queue has still to spend weigh no more than the queue.
pub most_le-weight-queue : (q : Inside) → IsQueue q → most (λ t. weight t + 1) q.packets.items ≤ weight_of_trees (to_trees (drop q.taken q.packets.items)) + 1
most_le-weight-queue q h = most_le-left q.packets.items q.taken h.bare
