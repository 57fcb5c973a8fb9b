-- A chain in another order: what stays of the packet, and how often each id stands in it.
use Rattle.std.proofs.Common.{◌≡◌, ℕ, zero, suc, ◌<◌, ◌≤◌, true, false, List, [], ◌∷◌, length, get_or, set, refl, ap, arith, length-append, if◌then◌else◌, Option, Some, None, position}
use Rattle.std.specs.Prelude.{All}
use Rattle.std.specs.List.{sum_by}
use Rattle.std.specs.Str.{bytes_eq}
use Rattle.std.specs.List.Sorted.{IsPermutation}
use Rattle.std.proofs.lemmas.List.Quantifiers.{position-Some}
use Rattle.std.proofs.lemmas.List.Sums.{sum_by-cons}
use Rattle.std.proofs.lemmas.List.Sorted.{IsPermutation-refl, All-permutation, length_permutation, sum_by-IsPermutation}
use Rattle.flow_packet.specs.Tree.{Tree, Chain, ids, all_ids, chain_ids, to_trees, chain_at, refill, height, height_of_trees, chains_height, AreFilled, AreDistinct, NoneNamed}
use Rattle.flow_packet.specs.View.{chain_of, chains_in, is_named, IsSound}
use Rattle.flow_packet.specs.Ids.{times}
use Rattle.flow_packet.specs.Sorting.{IsStableSort}
use Rattle.flow_packet.specs.declared.chain.Chain.{Chain as Fields}
use Rattle.flow_packet.specs.declared.packet.Packet.TheInside.{Inside}
use Rattle.flow_packet.proofs.Trees.{position-None}
use Rattle.flow_packet.proofs.Counts.{times-append}

-- no packets are sorted
pub none_sorted : (bytes : Option ℕ) → IsStableSort bytes [] []
none_sorted bytes = record { same = IsPermutation-refl []; ascending = λ k d low high. absurd (omega (arith, high)); stable = λ x. refl }

refill-found : (cs : List Fields) (name : List ℕ) (order : List Tree) (i : ℕ) (d c' : Fields) → i < length cs → is_named name (get_or cs i d) ≡ true
    → ((k : ℕ) → k < i → is_named name (get_or cs k d) ≡ false)
    → chain_of c' ≡ ((get_or cs i d).name.items, order)
    → chains_in (set cs i c') ≡ refill (chains_in cs) name order
refill-found [] name order i d c' h e f g = absurd (omega arith)
refill-found (c ∷ cs) name order zero d c' h e f g = rw e (ap (λ (x : Chain). x ∷ chains_in cs) g)
refill-found (c ∷ cs) name order (suc i) d c' h e f g =
    let e0 : bytes_eq c.name.items name ≡ false = f 0 (omega arith) in
    rw e0 (ap (λ xs. chain_of c ∷ xs) (refill-found cs name order i d c' (omega arith) e (λ k l. f (suc k) (omega arith)) g))

-- Where a chain of this name is there, putting its packets into another order in place is the chains with it refilled.
pub refill-Some : (cs : List Fields) (name : List ℕ) (order : List Tree) (i : ℕ) (d c' : Fields) → position (is_named name) cs ≡ Some i
    → chain_of c' ≡ ((get_or cs i d).name.items, order)
    → chains_in (set cs i c') ≡ refill (chains_in cs) name order
refill-Some cs name order i d c' p g =
    let h = position-Some (is_named name) cs i d p in
    refill-found cs name order i d c' h.0 h.1 (λ k l. (position-Some (is_named name) cs i d p).2 k l) g

refill-missing : (cs : List Fields) (name : List ℕ) (order : List Tree) → ((k : ℕ) (d : Fields) → k < length cs → is_named name (get_or cs k d) ≡ false) → chains_in cs ≡ refill (chains_in cs) name order
refill-missing [] name order f = refl
refill-missing (c ∷ cs) name order f =
    let e0 : bytes_eq c.name.items name ≡ false = f 0 c (omega arith) in
    rw e0 (ap (λ xs. chain_of c ∷ xs) (refill-missing cs name order (λ k d l. f (suc k) d (omega arith))))

-- Where no chain has the name, there is nothing to refill.
pub refill-None : (cs : List Fields) (name : List ℕ) (order : List Tree) → position (is_named name) cs ≡ None → chains_in cs ≡ refill (chains_in cs) name order
refill-None cs name order p = refill-missing cs name order (position-None (is_named name) cs p)

-- The height, the names and the number of packets

all_low : (ts : List Tree) → All (λ t. height t ≤ height_of_trees (to_trees ts)) ts
all_low [] k d h = absurd (omega (arith, h))
all_low (t ∷ ts) zero d h = omega arith
all_low (t ∷ ts) (suc k) d h = omega (arith, all_low ts k d (omega arith))

low_all : (n : ℕ) (ts : List Tree) → All (λ t. height t ≤ n) ts → height_of_trees (to_trees ts) ≤ n
low_all n [] all = omega arith
low_all n (t ∷ ts) all =
    let rest : All (λ t. height t ≤ n) ts = λ k d h. all (suc k) d (omega arith) in
    omega (arith, all 0 t (omega arith), low_all n ts rest)

trees_height-permutation : (ts us : List Tree) → IsPermutation ts us → height_of_trees (to_trees us) ≤ height_of_trees (to_trees ts)
trees_height-permutation ts us p = low_all (height_of_trees (to_trees ts)) us (All-permutation (λ t. height t ≤ height_of_trees (to_trees ts)) ts us p (all_low ts))

chains_height-refill : (cs : List Chain) (name : List ℕ) (order : List Tree) → IsPermutation (chain_at cs name) order → chains_height (refill cs name order) ≤ chains_height cs
chains_height-refill [] name order p = omega arith
chains_height-refill (c ∷ cs) name order p =
    elim (bytes_eq c.0 name) as (λ b. IsPermutation (if b then c.1 else chain_at cs name) order → chains_height (if b then (c.0, order) ∷ cs else c ∷ refill cs name order) ≤ chains_height (c ∷ cs)) [
      | true ↦ λ q. omega (arith, trees_height-permutation c.1 order q)
      | false ↦ λ q. omega (arith, chains_height-refill cs name order q)
    ] p

AreFilled-refill : (cs : List Chain) (name : List ℕ) (order : List Tree) → IsPermutation (chain_at cs name) order → AreFilled cs → AreFilled (refill cs name order)
AreFilled-refill [] name order p f = tt
AreFilled-refill (c ∷ cs) name order p f =
    elim (bytes_eq c.0 name) as (λ b. IsPermutation (if b then c.1 else chain_at cs name) order → AreFilled (if b then (c.0, order) ∷ cs else c ∷ refill cs name order)) [
      | true ↦ λ q. (omega (arith, f.0, length_permutation c.1 order q), f.1)
      | false ↦ λ q. (f.0, AreFilled-refill cs name order q f.1)
    ] p

NoneNamed-refill : (n : List ℕ) (cs : List Chain) (name : List ℕ) (order : List Tree) → NoneNamed n cs → NoneNamed n (refill cs name order)
NoneNamed-refill n [] name order none = tt
NoneNamed-refill n (c ∷ cs) name order none =
    elim (bytes_eq c.0 name) as (λ b. NoneNamed n (if b then (c.0, order) ∷ cs else c ∷ refill cs name order)) [
      | true ↦ (none.0, none.1)
      | false ↦ (none.0, NoneNamed-refill n cs name order none.1)
    ]

AreDistinct-refill : (cs : List Chain) (name : List ℕ) (order : List Tree) → AreDistinct cs → AreDistinct (refill cs name order)
AreDistinct-refill [] name order all = tt
AreDistinct-refill (c ∷ cs) name order all =
    elim (bytes_eq c.0 name) as (λ b. AreDistinct (if b then (c.0, order) ∷ cs else c ∷ refill cs name order)) [
      | true ↦ (all.0, all.1)
      | false ↦ (NoneNamed-refill c.0 cs name order all.0, AreDistinct-refill cs name order all.1)
    ]

-- A sound packet is sound with a chain in another order.
pub IsSound-refilled : (a b : Inside) (name : List ℕ) (order : List Tree) → IsSound a → IsPermutation (chain_at (chains_in a.chains.items) name) order
    → chains_in b.chains.items ≡ refill (chains_in a.chains.items) name order → b.text.items ≡ a.text.items → IsSound b
IsSound-refilled a b name order s p e f = record {
  low = rw e (omega (arith, s.low, chains_height-refill (chains_in a.chains.items) name order p));
  filled = rw e (AreFilled-refill (chains_in a.chains.items) name order p s.filled);
  distinct = rw e (AreDistinct-refill (chains_in a.chains.items) name order s.distinct);
  short = rw f s.short;
}

-- The ids

times-sum : (x : ℕ) (ts : List Tree) → times x (all_ids ts) ≡ sum_by (λ t. times x (ids t)) ts
times-sum x [] = refl
times-sum x (t ∷ ts) = omega (arith, times-append x (ids t) (all_ids ts), times-sum x ts, sum_by-cons (λ t. times x (ids t)) t ts)

length-sum : (ts : List Tree) → length (all_ids ts) ≡ sum_by (λ t. length (ids t)) ts
length-sum [] = refl
length-sum (t ∷ ts) = omega (arith, length-append (ids t) (all_ids ts), length-sum ts, sum_by-cons (λ t. length (ids t)) t ts)

times-permutation : (x : ℕ) (ts us : List Tree) → IsPermutation ts us → times x (all_ids us) ≡ times x (all_ids ts)
times-permutation x ts us p = omega (arith, times-sum x ts, times-sum x us, sum_by-IsPermutation (λ t. times x (ids t)) ts us p)

length-permutation : (ts us : List Tree) → IsPermutation ts us → length (all_ids us) ≡ length (all_ids ts)
length-permutation ts us p = omega (arith, length-sum ts, length-sum us, sum_by-IsPermutation (λ t. length (ids t)) ts us p)

-- Chains have the same ids with one of them in another order.
pub times-refill : (x : ℕ) (cs : List Chain) (name : List ℕ) (order : List Tree) → IsPermutation (chain_at cs name) order → times x (chain_ids (refill cs name order)) ≡ times x (chain_ids cs)
times-refill x [] name order p = refl
times-refill x (c ∷ cs) name order p =
    elim (bytes_eq c.0 name) as (λ b. IsPermutation (if b then c.1 else chain_at cs name) order → times x (chain_ids (if b then (c.0, order) ∷ cs else c ∷ refill cs name order)) ≡ times x (chain_ids (c ∷ cs))) [
      | true ↦ λ q. omega (arith, times-permutation x c.1 order q, times-append x (all_ids order) (chain_ids cs), times-append x (all_ids c.1) (chain_ids cs))
      | false ↦ λ q. omega (arith, times-refill x cs name order q, times-append x (all_ids c.1) (chain_ids (refill cs name order)), times-append x (all_ids c.1) (chain_ids cs))
    ] p

-- and as many
pub length-refill : (cs : List Chain) (name : List ℕ) (order : List Tree) → IsPermutation (chain_at cs name) order → length (chain_ids (refill cs name order)) ≡ length (chain_ids cs)
length-refill [] name order p = refl
length-refill (c ∷ cs) name order p =
    elim (bytes_eq c.0 name) as (λ b. IsPermutation (if b then c.1 else chain_at cs name) order → length (chain_ids (if b then (c.0, order) ∷ cs else c ∷ refill cs name order)) ≡ length (chain_ids (c ∷ cs))) [
      | true ↦ λ q. omega (arith, length-permutation c.1 order q, length-append (all_ids order) (chain_ids cs), length-append (all_ids c.1) (chain_ids cs))
      | false ↦ λ q. omega (arith, length-refill cs name order q, length-append (all_ids c.1) (chain_ids (refill cs name order)), length-append (all_ids c.1) (chain_ids cs))
    ] p
