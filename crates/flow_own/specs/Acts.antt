-- What a resume does to the hands: it makes a packet or none, and then drops packets at the root. (This project's own.)
use Rattle.flow_limits.specs.declared.TheConstants.{HANDS_LIMIT, TEXT_LIMIT}
use Rattle.std.specs.Prelude.{ℕ, ◌<◌, ◌≤◌, List, [], ◌∷◌, length, Option, Some, None}
use Rattle.flow_packet.specs.declared.packet.Kind.{Kind}
use Rattle.flow_packet.specs.Hands.{IsAtRoot}
use Rattle.flow_packet.specs.Held.{Held, with_made, without_packet}

-- A packet that is made: its kind and its text.
abbrev pub Made : Type 0
Made = Kind × List ℕ

-- The hands after the packet was made, if there is one.
abbrev pub after_make : Held → Option Made → Held
after_make held None = held
after_make held (Some made) = with_made held made.0 made.1

-- The hands after these packets were dropped, one after another.
abbrev pub after_drops : Held → List ℕ → Held
after_drops held [] = held
after_drops held (id ∷ ids) = after_drops (without_packet held id) ids

-- The hands after both.
abbrev pub after_acts : Held → Option Made → List ℕ → Held
after_acts held made dropped = after_drops (after_make held made) dropped

-- The packet may be made here: its text isn't too long, and there is room for it at the root.
abbrev pub CanMake : Held → Option Made → Type 0
CanMake held None = Unit {0}
CanMake held (Some made) = (length made.1 ≤ TEXT_LIMIT) × (length held.packets < HANDS_LIMIT)

-- Each of these packets is at the root when it is dropped.
abbrev pub CanDrop : Held → List ℕ → Type 0
CanDrop held [] = Unit {0}
CanDrop held (id ∷ ids) = IsAtRoot held.packets id × CanDrop (without_packet held id) ids

-- The acts can be done with these hands.
pub record CanAct (held : Held) (made : Option Made) (dropped : List ℕ) : Type 0 where
  pub makes : CanMake held made
  pub drops : CanDrop (after_make held made) dropped

-- The same, and no more packets are dropped than there may be.
pub record IsActs (held : Held) (made : Option Made) (dropped : List ℕ) : Type 0 where
  pub can : CanAct held made dropped
  pub few : length dropped ≤ HANDS_LIMIT
