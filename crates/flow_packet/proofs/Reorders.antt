-- Hands where a chain of the root has another order.
use Rattle.std.proofs.Common.{◌≡◌, ℕ, ◌+◌, true, false, List, [], ◌∷◌, length, get_or, set, sym, ap, refl, arith, nat_eq, length-append, if◌then◌else◌, Option, Some, None}
use Rattle.std.specs.List.Sorted.{IsPermutation}
use Rattle.flow_packet.specs.Tree.{Tree, id_of, ids, all_ids, chains_of, chain_at, refill, with_chains}
use Rattle.flow_packet.specs.Hands.{IsPlace, packet_at, update, ids_at, ids_in, reordered, chain_of_root, chain_in}
use Rattle.flow_packet.specs.Ids.{times}
use Rattle.flow_packet.proofs.Counts.{after, times-update, ids-with_chains, ids-parts}
use Rattle.flow_packet.proofs.Sorting.{times-refill, length-refill}

after-reordered : (x : ℕ) (o : Option Tree) (name : List ℕ) (order : List Tree) → IsPermutation (chain_in o name) order
    → times x (after o (λ r. with_chains r (refill (chains_of r) name order))) ≡ times x (ids_in o)
after-reordered x None name order p = refl
after-reordered x (Some r) name order p =
    omega (arith, ap (times x) (ids-with_chains r (refill (chains_of r) name order)), times-refill x (chains_of r) name order p, ap (times x) (ids-parts r))

-- a new order loses and makes no packet
pub times-reordered : (x : ℕ) (ts : List Tree) (root : ℕ) (name : List ℕ) (order : List Tree) → IsPermutation (chain_of_root ts root name) order
    → times x (all_ids (reordered ts root name order)) ≡ times x (all_ids ts)
times-reordered x ts root name order p =
    omega (arith, times-update x ts root (λ r. with_chains r (refill (chains_of r) name order)), after-reordered x (packet_at ts root) name order p)

length-update_ids : (ts : List Tree) (id : ℕ) (f : Tree → Tree) → length (all_ids (update ts id f)) + length (ids_at ts id) ≡ length (all_ids ts) + length (after (packet_at ts id) f)
length-update_ids [] id f = omega arith
length-update_ids (t ∷ ts) id f =
    elim (nat_eq (id_of t) id) as (λ b. length (all_ids (if b then f t ∷ ts else t ∷ update ts id f)) + length (ids_in (if b then Some t else packet_at ts id)) ≡ length (all_ids (t ∷ ts)) + length (after (if b then Some t else packet_at ts id) f)) [
      | true ↦ omega (arith, length-append (ids t) (all_ids ts), length-append (ids (f t)) (all_ids ts))
      | false ↦ omega (arith, length-append (ids t) (all_ids ts), length-append (ids t) (all_ids (update ts id f)), length-update_ids ts id f)
    ]

length_after-reordered : (o : Option Tree) (name : List ℕ) (order : List Tree) → IsPermutation (chain_in o name) order
    → length (after o (λ r. with_chains r (refill (chains_of r) name order))) ≡ length (ids_in o)
length_after-reordered None name order p = refl
length_after-reordered (Some r) name order p =
    omega (arith, ap length (ids-with_chains r (refill (chains_of r) name order)), length-refill (chains_of r) name order p, ap length (ids-parts r))

-- and leaves as many
pub length-reordered : (ts : List Tree) (root : ℕ) (name : List ℕ) (order : List Tree) → IsPermutation (chain_of_root ts root name) order
    → length (all_ids (reordered ts root name order)) ≡ length (all_ids ts)
length-reordered ts root name order p =
    omega (arith, length-update_ids ts root (λ r. with_chains r (refill (chains_of r) name order)), length_after-reordered (packet_at ts root) name order p)

-- Sorting a chain of a packet in its place is the hands with the chain in the new order.
pub reordered-set : (ts us : List Tree) (root : ℕ) (name : List ℕ) (order : List Tree) (i : ℕ) (r n : Tree) → IsPlace ts root i → us ≡ ts → r ≡ get_or us i r
    → n ≡ with_chains r (refill (chains_of r) name order)
    → set us i n ≡ reordered ts root name order
reordered-set ts us root name order i r n p e er en =
    let er' : r ≡ get_or ts i r = rw (← e) er in
    let u : update ts root (λ x. with_chains x (refill (chains_of x) name order)) ≡ set us i n =
    rw (p.updated (λ x. with_chains x (refill (chains_of x) name order)) r, e, ← er', en) refl in
    sym u

-- and the chain that was sorted is the one of the root
pub root-chain : (ts us : List Tree) (root : ℕ) (name : List ℕ) (i : ℕ) (r : Tree) → IsPlace ts root i → us ≡ ts → r ≡ get_or us i r
    → chain_of_root ts root name ≡ chain_at (chains_of r) name
root-chain ts us root name i r p e er =
    let er' : r ≡ get_or ts i r = rw (← e) er in
    let f : packet_at ts root ≡ Some r = rw (p.found r) (ap (λ (x : Tree). Some x) (sym er')) in
    rw f refl
