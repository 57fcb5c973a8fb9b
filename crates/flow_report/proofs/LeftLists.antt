-- The packets that are left, as lists: those of a packet's tree are its ids, each with a place.
use Rattle.std.proofs.Common.{◌≡◌, ℕ, zero, suc, ◌+◌, ◌*◌, ◌<◌, ◌≤◌, Bool, true, false, cond, List, [], ◌∷◌, ◌++◌, map, length, get_or, take, Option, Some, None, refl, sym, ◌∙◌, ap, arith, append_assoc, length-append, slice_get}
use Rattle.std.specs.Prelude.{IfSome}
use Rattle.std.specs.Str.{bytes_eq}
use Rattle.std.specs.List.{flat_map}
use Rattle.std.proofs.lemmas.List.{take_all, flat_map_more}
use Rattle.flow_packet.specs.Tree.{Tree, Chains, Trees, Chain, node, no_chains, chain, no_trees, tree, from_trees, from_chains, chains_of, id_of, chain_at, ids, ids_of_chains, ids_of_trees, all_ids, chain_ids}
use Rattle.flow_packet.proofs.Trees.{length-ids-at}
use Rattle.flow_report.specs.declared.report.LeftPacket.{LeftPacket}
use Rattle.flow_report.specs.declared.report.Place.{Place}
use Rattle.flow_report.specs.declared.report.Place.TheVariants.{InChain}
use Rattle.flow_report.specs.Left.{left_in, left_in_chains, left_in_trees, left_at, left_in_chain}
use Rattle.flow_report.proofs.Tellings.{take-more}
use Rattle.flow_model.proofs.Lists.{map-append}

-- The packets of one chain of a packet.
abbrev pub in_chain : ℕ → Chain → List LeftPacket
in_chain of c = left_in_chain of (Some c)

left_in_trees-list : (place : Place) (ts : Trees) → left_in_trees place ts ≡ left_at place (from_trees ts)
left_in_trees-list place no_trees = refl
left_in_trees-list place (tree t ts) = ap (λ l. left_in place t ++ l) (left_in_trees-list place ts)

left_in_chains-list : (of : ℕ) (cs : Chains) → left_in_chains of cs ≡ flat_map (in_chain of) (from_chains cs)
left_in_chains-list of no_chains = refl
left_in_chains-list of (chain name ts cs) = λ i. left_in_trees-list (InChain name of) ts i ++ left_in_chains-list of cs i

-- A packet, and then its chains, one by one.
pub left_in-list : (place : Place) (t : Tree) → left_in place t ≡ record { packet = id_of t; place = place } ∷ flat_map (in_chain (id_of t)) (chains_of t)
left_in-list place (node id kind text cs) = ap (λ l. record { packet = id; place = place } ∷ l) (left_in_chains-list id cs)

ids_of_trees-list : (ts : Trees) → ids_of_trees ts ≡ all_ids (from_trees ts)
ids_of_trees-list no_trees = refl
ids_of_trees-list (tree t ts) = ap (λ l. ids t ++ l) (ids_of_trees-list ts)

ids_of_chains-list : (cs : Chains) → ids_of_chains cs ≡ chain_ids (from_chains cs)
ids_of_chains-list no_chains = refl
ids_of_chains-list (chain name ts cs) = λ i. ids_of_trees-list ts i ++ ids_of_chains-list cs i

length-ids : (t : Tree) → length (ids t) ≡ length (chain_ids (chains_of t)) + 1
length-ids (node id kind text cs) = omega (arith, ap length (ids_of_chains-list cs))

length-chain_at : (cs : List Chain) (name : List ℕ) → length (all_ids (chain_at cs name)) ≤ length (chain_ids cs)
length-chain_at [] name = omega arith
length-chain_at (c ∷ cs) name = by (bytes_eq c.0 name) (length-chain_at cs name)
  where
    by : (b : Bool) → length (all_ids (chain_at cs name)) ≤ length (chain_ids cs) → length (all_ids (cond b c.1 (chain_at cs name))) ≤ length (all_ids c.1 ++ chain_ids cs)
    by true rest = omega (arith, length-append (all_ids c.1) (chain_ids cs))
    by false rest = omega (arith, length-append (all_ids c.1) (chain_ids cs), rest)

-- A packet in a chain has fewer ids than the packet that has the chain.
pub child-smaller : (t : Tree) (name : List ℕ) (children : List Tree) (i : ℕ) (d : Tree) → children ≡ chain_at (chains_of t) name → i < length children
    → length (ids (get_or children i d)) < length (ids t)
child-smaller t name children i d is below =
    omega (arith, length-ids-at children i d below, ap (λ (ts : List Tree). length (all_ids ts)) is, length-chain_at (chains_of t) name, length-ids t)

-- The packets of a chain that is found by its name.
pub chain-told : (of : ℕ) (cs : List Chain) (at : ℕ) (name : List ℕ) (children : List Tree) → at < length cs
    → IfSome (slice_get cs at) (λ c. name ≡ c.0) → IfSome (slice_get cs at) (λ c. chain_at cs c.0 ≡ c.1) → children ≡ chain_at cs name
    → left_at (InChain name of) children ≡ left_in_chain of (slice_get cs at)
chain-told of cs at name children below named only is = by (slice_get cs at) refl named only
  where
    within : (xs : List Chain) (i : ℕ) → i < length xs → slice_get xs i ≡ None → ⊥
    within [] i here none = absurd (omega (arith, here))
    within (x ∷ xs) zero here none = cc
    within (x ∷ xs) (suc i) here none = within xs i (omega (arith, here)) none

    by : (found : Option Chain) → slice_get cs at ≡ found → IfSome found (λ c. name ≡ c.0) → IfSome found (λ c. chain_at cs c.0 ≡ c.1)
        → left_at (InChain name of) children ≡ left_in_chain of found
    by (Some c) there named only =
        let packets : children ≡ c.1 = is ∙ ap (chain_at cs) named ∙ only in
        ap (λ (n : List ℕ). left_at (InChain n of) children) named ∙ ap (λ (ts : List Tree). left_at (InChain c.0 of) ts) packets
    by None there named only = absurd (within cs at below there)

-- One more chain of a packet.
pub chain-more : (of : ℕ) (cs : List Chain) (at : ℕ) (start before after : List LeftPacket) → at < length cs
    → before ≡ start ++ flat_map (in_chain of) (take at cs) → after ≡ before ++ left_in_chain of (slice_get cs at) → after ≡ start ++ flat_map (in_chain of) (take (suc at) cs)
chain-more of cs at start before after below is grown = by (slice_get cs at) refl grown
  where
    within : (xs : List Chain) (i : ℕ) → i < length xs → slice_get xs i ≡ None → ⊥
    within [] i here none = absurd (omega (arith, here))
    within (x ∷ xs) zero here none = cc
    within (x ∷ xs) (suc i) here none = within xs i (omega (arith, here)) none

    by : (found : Option Chain) → slice_get cs at ≡ found → after ≡ before ++ left_in_chain of found → after ≡ start ++ flat_map (in_chain of) (take (suc at) cs)
    by (Some c) there grown =
        grown ∙ ap (λ l. l ++ in_chain of c) is ∙ flat_map_more (in_chain of) start (take at cs) c ∙ ap (λ (l : List Chain). start ++ flat_map (in_chain of) l) (sym (take-more cs at c there))
    by None there grown = absurd (within cs at below there)

-- All chains of a packet, behind the packet.
pub packet-told : (place : Place) (t : Tree) (id at : ℕ) (start pushed after : List LeftPacket) → id ≡ id_of t → pushed ≡ start ++ record { packet = id; place = place } ∷ []
    → length (chains_of t) ≤ at → after ≡ pushed ++ flat_map (in_chain (id_of t)) (take at (chains_of t)) → after ≡ start ++ left_in place t
packet-told place t id at start pushed after same first whole rest =
    let chains = flat_map (in_chain (id_of t)) (chains_of t) in
    let x : LeftPacket = record { packet = id_of t; place = place } in
    let begun : pushed ≡ start ++ x ∷ [] = first ∙ ap (λ n. start ++ record { packet = n; place = place } ∷ []) same in
    rest ∙ ap (λ (l : List Chain). pushed ++ flat_map (in_chain (id_of t)) l) (take_all at (chains_of t) whole)
    ∙ ap (λ (l : List LeftPacket). l ++ chains) begun
    ∙ append_assoc start (x ∷ []) chains
    ∙ ap (λ (l : List LeftPacket). start ++ l) (sym (left_in-list place t))

-- All packets of a chain that is found by its name.
pub chain-whole : (of : ℕ) (t : Tree) (at index : ℕ) (name : List ℕ) (children : List Tree) (start after : List LeftPacket) → of ≡ id_of t → at < length (chains_of t)
    → IfSome (slice_get (chains_of t) at) (λ c. name ≡ c.0) → IfSome (slice_get (chains_of t) at) (λ c. chain_at (chains_of t) c.0 ≡ c.1) → children ≡ chain_at (chains_of t) name
    → length children ≤ index → after ≡ start ++ left_at (InChain name of) (take index children) → after ≡ start ++ left_in_chain (id_of t) (slice_get (chains_of t) at)
chain-whole of t at index name children start after same below named only is whole rest =
    rest ∙ ap (λ (l : List Tree). start ++ left_at (InChain name of) l) (take_all index children whole)
    ∙ ap (λ (l : List LeftPacket). start ++ l) (chain-told of (chains_of t) at name children below named only is)
    ∙ ap (λ n. start ++ left_in_chain n (slice_get (chains_of t) at)) same

-- The ids of some packets that are left.
abbrev pub ids_told : List LeftPacket → List ℕ
ids_told left = map (λ l. l.packet) left

-- The packets that two lists tell are those of the one and then those of the other.
pub ids_told-append : (xs ys : List LeftPacket) → ids_told (xs ++ ys) ≡ ids_told xs ++ ids_told ys
ids_told-append xs ys = map-append (λ (l : LeftPacket). l.packet) xs ys

-- The ids of a packet that is left, with its tree, are those of the packet.
mutual
  pub ids-left_in : (place : Place) (t : Tree) → ids_told (left_in place t) ≡ ids t
  ids-left_in place (node id kind text cs) = ap (λ l. id ∷ l) (ids-left_in_chains id cs)

  ids-left_in_chains : (of : ℕ) (cs : Chains) → ids_told (left_in_chains of cs) ≡ ids_of_chains cs
  ids-left_in_chains of no_chains = refl
  ids-left_in_chains of (chain name ts cs) =
      ids_told-append (left_in_trees (InChain name of) ts) (left_in_chains of cs) ∙ (λ i. ids-left_in_trees (InChain name of) ts i ++ ids-left_in_chains of cs i)

  ids-left_in_trees : (place : Place) (ts : Trees) → ids_told (left_in_trees place ts) ≡ ids_of_trees ts
  ids-left_in_trees place no_trees = refl
  ids-left_in_trees place (tree t ts) =
      ids_told-append (left_in place t) (left_in_trees place ts) ∙ (λ i. ids-left_in place t i ++ ids-left_in_trees place ts i)

-- The same of several packets.
pub ids-left_at : (place : Place) (ts : List Tree) → ids_told (left_at place ts) ≡ all_ids ts
ids-left_at place [] = refl
ids-left_at place (t ∷ ts) = ids_told-append (left_in place t) (left_at place ts) ∙ (λ i. ids-left_in place t i ++ ids-left_at place ts i)

length-ids_told : (xs : List LeftPacket) → length (ids_told xs) ≡ length xs
length-ids_told [] = refl
length-ids_told (x ∷ xs) = omega (arith, length-ids_told xs)

-- As many packets are told as there are ids.
pub length-left_at : (place : Place) (ts : List Tree) → length (left_at place ts) ≡ length (all_ids ts)
length-left_at place ts = sym (length-ids_told (left_at place ts)) ∙ ap length (ids-left_at place ts)

-- A list tells as many packets as it has lines.
pub length-told : (xs : List LeftPacket) (is : List ℕ) → ids_told xs ≡ is → length xs ≡ length is
length-told xs is same = sym (length-ids_told xs) ∙ ap length same
