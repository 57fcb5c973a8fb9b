-- Hands that hold several packets, and how a work changes them.
use Rattle.std.proofs.Common.{◌≡◌, ℕ, ◌+◌, ◌*◌, ◌/◌, ◌%◌, ◌<◌, true, false, List, [], ◌∷◌, ◌++◌, length, refl, ap, subst, arith, nat_eq, Bool, if◌then◌else◌, Some, IsSome}
use Rattle.std.proofs.lemmas.Bool.Decides.{nat_tests}
use Rattle.flow_packet.specs.declared.packet.Kind.{Kind}
use Rattle.flow_packet.specs.Tree.{Tree, node, id_of, all_ids, packet_of}
use Rattle.flow_packet.specs.Ids.{times}
use Rattle.flow_packet.specs.Hands.{without, packet_at, IsAtRoot, has_id}
use Rattle.flow_packet.specs.Held.{Held, Sound, next_id, with_made}
use Rattle.flow_component.proofs.Roots.{same_id}

-- An id stands in two lists together as often as in each.
pub times-append : (id : ℕ) (xs ys : List ℕ) → times id (xs ++ ys) ≡ times id xs + times id ys
times-append id [] ys = omega arith
times-append id (x ∷ xs) ys = omega (arith, times-append id xs ys)

-- A packet's own id stands in its tree.
pub times-own : (t : Tree) → 0 < times (id_of t) (all_ids (t ∷ []))
times-own (node id kind text cs) = let s = same_id id in rw s (omega arith)

-- An id stands in a list of trees as often as in the first and in the rest.
pub times-split : (id : ℕ) (t : Tree) (ts : List Tree) → times id (all_ids (t ∷ ts)) ≡ times id (all_ids (t ∷ [])) + times id (all_ids ts)
times-split id t ts = omega (arith, times-append id (Rattle.flow_packet.specs.Tree.ids t) (all_ids ts), times-append id (Rattle.flow_packet.specs.Tree.ids t) [])

found-times : (id : ℕ) (t : Tree) (ts : List Tree) (b : Bool) → nat_eq (id_of t) id ≡ b → IsSome (if b then Some t else packet_at ts id) → (IsAtRoot ts id → 0 < times id (all_ids ts)) → 0 < times id (all_ids (t ∷ ts))
found-times id t ts true e at rest =
    let same : id_of t ≡ id = grind (arith, nat_tests) in
    let here : 0 < times id (all_ids (t ∷ [])) = subst (λ (n : ℕ). 0 < times n (all_ids (t ∷ []))) same (times-own t) in
    omega (arith, times-split id t ts)
found-times id t ts false e at rest = omega (arith, times-split id t ts, rest at)

-- the id of a packet at the root stands among the ids
pub times-root : (ts : List Tree) (id : ℕ) → IsAtRoot ts id → 0 < times id (all_ids ts)
times-root [] id at = absurd (cc)
times-root (t ∷ ts) id at = found-times id t ts (nat_eq (id_of t) id) refl at (times-root ts id)

not_next : (maker made id : ℕ) → made < 4294967296 → (id / 4294967296 ≡ maker → id % 4294967296 < made) → id ≡ maker * 4294967296 + made → ⊥
not_next maker made id c b e =
    let q : id / 4294967296 ≡ maker = omega arith in
    let r = b q in
    omega arith

-- no packet of sound hands has the next id
pub Sound-new : (held : Held) → Sound held → IsAtRoot held.packets (next_id held) → ⊥
Sound-new held s at = not_next held.maker held.made (next_id held) s.counted (s.below (next_id held) (times-root held.packets (next_id held) at)) refl

left-at : (t u : Tree) (ts : List Tree) (b : Bool) → (IsSome (if b then Some t else packet_at ts (id_of u)) → ⊥) → ((IsAtRoot ts (id_of u) → ⊥) → without (ts ++ u ∷ []) (id_of u) ≡ ts)
    → (if b then ts ++ u ∷ [] else t ∷ without (ts ++ u ∷ []) (id_of u)) ≡ t ∷ ts
left-at t u ts true new rest = absurd (new refl)
left-at t u ts false new rest = ap (λ (us : List Tree). t ∷ us) (rest new)

-- a packet that was put at the end, with an id of its own, leaves the others when it goes
pub without-last : (ts : List Tree) (u : Tree) → (IsAtRoot ts (id_of u) → ⊥) → without (ts ++ u ∷ []) (id_of u) ≡ ts
without-last [] u new = let s = same_id (id_of u) in rw s refl
without-last (t ∷ ts) u new = left-at t u ts (has_id (id_of u) t) new (without-last ts u)

-- what was made leaves the others when it goes
pub made-left : (held : Held) (kind : Kind) (text : List ℕ) → (IsAtRoot held.packets (next_id held) → ⊥) → without (with_made held kind text).packets (next_id held) ≡ held.packets
made-left held kind text new = without-last held.packets (packet_of (next_id held) kind text []) new

one-less : (t : Tree) (ts : List Tree) (id : ℕ) (b : Bool) → IsSome (if b then Some t else packet_at ts id) → (IsAtRoot ts id → length ts ≡ length (without ts id) + 1) → length (t ∷ ts) ≡ length (if b then ts else t ∷ without ts id) + 1
one-less t ts id true at rest = omega arith
one-less t ts id false at rest = omega (arith, rest at)

-- one packet is gone
pub length-without : (ts : List Tree) (id : ℕ) → IsAtRoot ts id → length ts ≡ length (without ts id) + 1
length-without [] id at = absurd (cc)
length-without (t ∷ ts) id at = one-less t ts id (has_id id t) at (length-without ts id)

found-last : (t u : Tree) (ts : List Tree) (b : Bool) → (IsSome (if b then Some t else packet_at ts (id_of u)) → ⊥) → ((IsAtRoot ts (id_of u) → ⊥) → packet_at (ts ++ u ∷ []) (id_of u) ≡ Some u)
    → (if b then Some t else packet_at (ts ++ u ∷ []) (id_of u)) ≡ Some u
found-last t u ts true new rest = absurd (new refl)
found-last t u ts false new rest = rest new

-- a packet that was put at the end, with an id of its own, is found
pub packet_at-last : (ts : List Tree) (u : Tree) → (IsAtRoot ts (id_of u) → ⊥) → packet_at (ts ++ u ∷ []) (id_of u) ≡ Some u
packet_at-last [] u new = let s = same_id (id_of u) in rw s refl
packet_at-last (t ∷ ts) u new = found-last t u ts (has_id (id_of u) t) new (packet_at-last ts u)
