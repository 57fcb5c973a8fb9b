-- What a desk keeps: its acts can be done.
use Rattle.flow_limits.specs.declared.TheConstants.{HANDS_LIMIT, TEXT_LIMIT}
use Rattle.std.proofs.Common.{◌≡◌, ℕ, ◌+◌, ◌<◌, ◌≤◌, ◌==◌, ◌||◌, ◌&&◌, not, Bool, true, false, List, [], ◌∷◌, ◌++◌, length, Option, Some, None, IsSome, is_some, refl, sym, ◌∙◌, ap, subst, arith, nat_eq, length-append, if◌then◌else◌}
use Rattle.std.proofs.lemmas.Bool.Decides.{nat_tests}
use Rattle.std.specs.List.{list_any}
use Rattle.flow_packet.specs.Tree.{Tree, id_of}
use Rattle.flow_packet.specs.Hands.{packet_at, without, IsAtRoot}
use Rattle.flow_packet.specs.Held.{Held, with_made, without_packet, next_id}
use Rattle.flow_packet.specs.Tree.{packet_of}
use Rattle.flow_packet.proofs.Places.{packet_at-without}
use Rattle.flow_component.proofs.Roots.{IsAtRoot-push, without-push}
use Rattle.flow_own.specs.Acts.{Made, CanMake, CanDrop, IsActs, after_make}

other_first : (a : Bool) (b : Bool) → (a || b) ≡ false → (a ≡ false) × (b ≡ false)
other_first true b h = cc
other_first false b h = (refl, h)

-- one packet more is dropped, which is at the root and wasn't dropped
pub CanDrop-push : (held : Held) (ids : List ℕ) (id : ℕ) → CanDrop held ids → IsAtRoot held.packets id → list_any (λ other. other == id) ids ≡ false → CanDrop held (ids ++ id ∷ [])
CanDrop-push held [] id can at none = (at, tt)
CanDrop-push held (d ∷ ds) id can at none =
    let no = other_first (nat_eq d id) (list_any (λ other. other == id) ds) none in
    let differ : id ≡ d → ⊥ = λ (e : id ≡ d). (let t : nat_eq d id ≡ true = grind (arith, nat_tests) in let f : nat_eq d id ≡ false = no.0 in cc) in
    let still : IsAtRoot (without held.packets d) id = subst (λ (o : Option Tree). IsSome o) (sym (packet_at-without held.packets id d differ)) at in
    (can.0, CanDrop-push (without_packet held d) ds id can.1 still no.1)

-- drops of packets before one that comes at the end
pub CanDrop-before : (a b : Held) (u : Tree) (ids : List ℕ) → b.packets ≡ a.packets ++ u ∷ [] → CanDrop a ids → CanDrop b ids
CanDrop-before a b u [] e can = tt
CanDrop-before a b u (id ∷ ids) e can = (
  subst (λ (ts : List Tree). IsAtRoot ts id) (sym e) (IsAtRoot-push a.packets u id can.0),
  CanDrop-before (without_packet a id) (without_packet b id) u ids (ap (λ (ts : List Tree). without ts id) e ∙ without-push a.packets u id can.0) can.1,
)

at_after : (held : Held) (made : Option Made) (id : ℕ) → IsAtRoot held.packets id → IsAtRoot (after_make held made).packets id
at_after held None id at = at
at_after held (Some made) id at = IsAtRoot-push held.packets (packet_of (next_id held) made.0 made.1 []) id at

both : (a b : Bool) → (a && not b) ≡ true → (a ≡ true) × (b ≡ false)
both true true h = cc
both true false h = (refl, refl)
both false b h = cc

one-out : (t : Tree) (ts : List Tree) (id : ℕ) (b : Bool) → IsSome (if b then Some t else packet_at ts id) → (IsAtRoot ts id → length (without ts id) + 1 ≤ length ts)
    → length (if b then ts else t ∷ without ts id) + 1 ≤ length (t ∷ ts)
one-out t ts id true h rest = omega arith
one-out t ts id false h rest = omega (arith, rest h)

length-out : (ts : List Tree) (id : ℕ) → IsAtRoot ts id → length (without ts id) + 1 ≤ length ts
length-out [] id at = cc
length-out (t ∷ ts) id at = one-out t ts id (nat_eq (id_of t) id) at (length-out ts id)

-- no more packets can be dropped than there are
pub CanDrop-few : (held : Held) (ids : List ℕ) → CanDrop held ids → length ids ≤ length held.packets
CanDrop-few held [] can = omega arith
CanDrop-few held (id ∷ ids) can = omega (arith, CanDrop-few (without_packet held id) ids can.1, length-out held.packets id can.0)

few-after : (held : Held) (made : Option Made) → CanMake held made → length held.packets ≤ HANDS_LIMIT → length (after_make held made).packets ≤ HANDS_LIMIT
few-after held None can few = few
few-after held (Some made) can few = omega (arith, can.1, length-append held.packets (packet_of (next_id held) made.0 made.1 [] ∷ []))

-- a drop is kept
pub IsActs-drop : (held : Held) (made : Option Made) (ids : List ℕ) (id : ℕ) → IsActs held made ids → length held.packets ≤ HANDS_LIMIT
    → (is_some (packet_at held.packets id) && not (list_any (λ other. other == id) ids)) ≡ true → IsActs held made (ids ++ id ∷ [])
IsActs-drop held made ids id acts few there =
    let b = both (is_some (packet_at held.packets id)) (list_any (λ other. other == id) ids) there in
    let drops = CanDrop-push (after_make held made) ids id acts.can.drops (at_after held made id b.0) b.1 in
    record {
      can = record { makes = acts.can.makes; drops = drops };
      few = omega (arith, CanDrop-few (after_make held made) (ids ++ id ∷ []) drops, few-after held made acts.can.makes few);
    }

-- the packet to be made is kept
pub IsActs-make : (held : Held) (made : Made) (ids : List ℕ) → IsActs held None ids → length made.1 ≤ TEXT_LIMIT → length held.packets < HANDS_LIMIT → IsActs held (Some made) ids
IsActs-make held made ids acts short few = record {
  can = record { makes = (short, few); drops = CanDrop-before held (with_made held made.0 made.1) (packet_of (next_id held) made.0 made.1 []) ids refl acts.can.drops };
  few = acts.few;
}
