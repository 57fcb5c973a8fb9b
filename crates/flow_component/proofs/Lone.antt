-- Hands that hold one packet alone, and how a work changes them.
use Rattle.std.proofs.Common.{◌≡◌, ℕ, ◌+◌, ◌*◌, ◌/◌, ◌%◌, ◌<◌, List, [], ◌∷◌, ◌++◌, refl, sym, ◌∙◌, arith, eq-eqb, Some}
use Rattle.flow_packet.specs.declared.packet.Kind.{Kind}
use Rattle.flow_packet.specs.Tree.{Tree, node, id_of, kind_of, text_of, all_ids, packet_of}
use Rattle.flow_packet.specs.Ids.{times}
use Rattle.flow_packet.specs.Hands.{without, packet_at, IsAtRoot, text_at, kind_at}
use Rattle.flow_packet.specs.Held.{Held, Sound, next_id, with_packet, without_packet, with_made}
use Rattle.flow_component.specs.Alone.{HoldsOnly}
use Rattle.flow_component.proofs.Roots.{same_id, other_id}

-- Hands that hold one packet alone are empty without it.
pub HoldsOnly-without : (held : Held) (id : ℕ) → HoldsOnly held id → without held.packets id ≡ []
HoldsOnly-without held id h = let e = eq-eqb (id_of h.packet) id h.named in rw (h.holds, e) refl

-- The packet that is held alone is the one with its id.
pub HoldsOnly-packet_at : (held : Held) (id : ℕ) (h : HoldsOnly held id) → packet_at held.packets id ≡ Some h.packet
HoldsOnly-packet_at held id h = let e = eq-eqb (id_of h.packet) id h.named in rw (h.holds, e) refl

-- The packet that is held alone is at the root.
pub HoldsOnly-root : (held : Held) (id : ℕ) → HoldsOnly held id → IsAtRoot held.packets id
HoldsOnly-root held id h = rw (HoldsOnly-packet_at held id h) refl

-- Its text is the one that the hands have at its id.
pub HoldsOnly-text : (held : Held) (id : ℕ) (h : HoldsOnly held id) → text_at held.packets id ≡ text_of h.packet
HoldsOnly-text held id h = rw (HoldsOnly-packet_at held id h) refl

-- Its kind is the one that the hands have at its id.
pub HoldsOnly-kind : (held : Held) (id : ℕ) (h : HoldsOnly held id) → kind_at held.packets id ≡ kind_of h.packet
HoldsOnly-kind held id h = rw (HoldsOnly-packet_at held id h) refl

-- once what was made has gone, the packet that was alone is left
pub HoldsOnly-made : (held : Held) (id : ℕ) (kind : Kind) (text : List ℕ) (h : HoldsOnly held id) → without (with_made held kind text).packets (next_id held) ≡ h.packet ∷ []
HoldsOnly-made held id kind text h =
    let n : id_of h.packet ≡ next_id held → ⊥ = λ e. h.older (sym h.named ∙ e) in
    let o = other_id (id_of h.packet) (next_id held) n in
    let s = same_id (next_id held) in
    rw (h.holds, o, s) refl

-- what was made is found
pub HoldsOnly-made_at : (held : Held) (id : ℕ) (kind : Kind) (text : List ℕ) (h : HoldsOnly held id) → packet_at (with_made held kind text).packets (next_id held) ≡ Some (packet_of (next_id held) kind text [])
HoldsOnly-made_at held id kind text h =
    let n : id_of h.packet ≡ next_id held → ⊥ = λ e. h.older (sym h.named ∙ e) in
    let o = other_id (id_of h.packet) (next_id held) n in
    let s = same_id (next_id held) in
    rw (h.holds, o, s) refl

times-first_id : (t : Tree) (ts : List Tree) → 0 < times (id_of t) (all_ids (t ∷ ts))
times-first_id (node id kind text cs) ts = let s = same_id id in rw s (omega arith)

not_next : (maker made id : ℕ) → made < 4294967296 → (id / 4294967296 ≡ maker → id % 4294967296 < made) → id ≡ maker * 4294967296 + made → ⊥
not_next maker made id c b e =
    let q : id / 4294967296 ≡ maker = omega arith in
    let r = b q in
    omega arith

-- no packet of sound hands has the next id
pub Sound-older : (held : Held) (t : Tree) → Sound held → held.packets ≡ t ∷ [] → id_of t ≡ next_id held → ⊥
Sound-older held t s e = not_next held.maker held.made (id_of t) s.counted (s.below (id_of t) (rw e (times-first_id t [])))

-- once what was made has gone, the packet that was alone is so again
pub HoldsOnly-kept : (held : Held) (id : ℕ) (kind : Kind) (text : List ℕ) (h : HoldsOnly held id) → Sound (with_made held kind text)
    → HoldsOnly (without_packet (with_made held kind text) (next_id held)) id
HoldsOnly-kept held id kind text h s =
    let first : all_ids ((with_made held kind text).packets) ≡ all_ids (h.packet ∷ packet_of (next_id held) kind text [] ∷ []) = rw h.holds refl in
    let here : 0 < times id (all_ids ((with_made held kind text).packets)) = rw (first, ← h.named) (times-first_id h.packet (packet_of (next_id held) kind text [] ∷ [])) in
    record {
      packet = h.packet;
      holds = HoldsOnly-made held id kind text h;
      named = h.named;
      older = not_next held.maker (held.made + 1) id s.counted (s.below id here);
    }

-- a packet that comes into empty hands is alone
pub HoldsOnly-came : (held : Held) (t : Tree) → held.packets ≡ [] → Sound (with_packet held t) → HoldsOnly (with_packet held t) (id_of t)
HoldsOnly-came held t e s =
    let h : (with_packet held t).packets ≡ t ∷ [] = rw e refl in
    record { packet = t; holds = h; named = refl; older = Sound-older (with_packet held t) t s h }

last_alone : (ts : List Tree) (t u : Tree) → ts ++ t ∷ [] ≡ u ∷ [] → t ≡ u
last_alone [] t u e = cc
last_alone (v ∷ []) t u e = cc
last_alone (v ∷ w ∷ ts) t u e = cc

-- the packet that came is the one that is alone
pub HoldsOnly-last : (held : Held) (t : Tree) (h : HoldsOnly (with_packet held t) (id_of t)) → t ≡ h.packet
HoldsOnly-last held t h = last_alone held.packets t h.packet h.holds

-- a packet that is made in empty hands is alone
pub HoldsOnly-made_alone : (held : Held) (kind : Kind) (text : List ℕ) → held.packets ≡ [] → Sound (with_made held kind text) → HoldsOnly (with_made held kind text) (next_id held)
HoldsOnly-made_alone held kind text e s =
    let t = packet_of (next_id held) kind text [] in
    let h : (with_made held kind text).packets ≡ t ∷ [] = rw e refl in
    record { packet = t; holds = h; named = refl; older = Sound-older (with_made held kind text) t s h }

-- the packet at the end is the one that is alone
pub HoldsOnly-end : (held : Held) (ts : List Tree) (t : Tree) → held.packets ≡ ts ++ t ∷ [] → (h : HoldsOnly held (id_of t)) → t ≡ h.packet
HoldsOnly-end held ts t e h = last_alone ts t h.packet (sym e ∙ h.holds)

-- once what was made has gone, the packet that was alone is so again, in sound hands
pub HoldsOnly-left : (held : Held) (id : ℕ) (kind : Kind) (text : List ℕ) (h : HoldsOnly held id) → Sound (without_packet (with_made held kind text) (next_id held)) → HoldsOnly (without_packet (with_made held kind text) (next_id held)) id
HoldsOnly-left held id kind text h s =
    let left = without_packet (with_made held kind text) (next_id held) in
    let holds = HoldsOnly-made held id kind text h in
    record { packet = h.packet; holds = holds; named = h.named; older = λ e. Sound-older left h.packet s holds (h.named ∙ e) }
