-- Works that keep the first law: the hands come from the old ones by edits with at most one make.
use Rattle.flow_limits.specs.declared.TheConstants.{HANDS_LIMIT}
use Rattle.std.proofs.Common.{ℕ, ◌<◌, List, [], ◌∷◌, length, refl, arith}
use Rattle.flow_packet.specs.declared.packet.Kind.{Kind}
use Rattle.flow_packet.specs.Tree.{packet_of}
use Rattle.flow_packet.specs.Hands.{IsAtRoot, without}
use Rattle.flow_packet.specs.Held.{Held, next_id, with_made, without_packet}
use Rattle.flow_packet.specs.Edits.{Makes, Drops, ComesBy}
use Rattle.flow_component.proofs.Roots.{IsAtRoot-push}

-- nothing is done
pub comes_same : (held : Held) → ComesBy held held
comes_same held = record { edits = []; follow = refl; one_make = omega arith }

-- a packet is dropped
pub comes_dropped : (held : Held) (id : ℕ) → IsAtRoot held.packets id → ComesBy held (without_packet held id)
comes_dropped held id at = record { edits = Drops id ∷ []; follow = (at, refl); one_make = omega arith }

-- a packet is made
pub comes_made : (held : Held) (kind : Kind) (text : List ℕ) → length held.packets < HANDS_LIMIT → ComesBy held (with_made held kind text)
comes_made held kind text few = record { edits = Makes kind text ∷ []; follow = (few, refl); one_make = omega arith }

-- a packet is made, and then another is dropped
pub comes_renewed : (held : Held) (kind : Kind) (text : List ℕ) (id : ℕ) → length held.packets < HANDS_LIMIT → IsAtRoot held.packets id → ComesBy held (without_packet (with_made held kind text) id)
comes_renewed held kind text id few at = record {
  edits = Makes kind text ∷ Drops id ∷ [];
  follow = (few, (IsAtRoot-push held.packets (packet_of (next_id held) kind text []) id at, refl));
  one_make = omega arith;
}

-- a packet is dropped, and then one is made
pub comes_replaced : (held : Held) (id : ℕ) (kind : Kind) (text : List ℕ) → IsAtRoot held.packets id → length (without held.packets id) < HANDS_LIMIT → ComesBy held (with_made (without_packet held id) kind text)
comes_replaced held id kind text at few = record { edits = Drops id ∷ Makes kind text ∷ []; follow = (at, (few, refl)); one_make = omega arith }
