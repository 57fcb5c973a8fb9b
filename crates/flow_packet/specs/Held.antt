-- What a process holds: the hands, as the machine sees them, without room and without the count of the dropped.
use Rattle.std.specs.Prelude.{◌≡◌, ℕ, ◌+◌, ◌<◌, ◌≤◌, List, [], ◌∷◌, ◌++◌}
use Rattle.flow_packet.specs.declared.packet.Kind.{Kind}
use Rattle.flow_packet.specs.Tree.{Tree, all_ids, packet_of}
use Rattle.flow_packet.specs.Hands.{Holding, without}
use Rattle.flow_packet.specs.Ids.{times, id_by, maker_of, ordinal_of}

-- The number of the process, how many packets it made, and the packets at the root of its hands, in order.
pub record Held : Type 0 where
  pub maker : ℕ
  pub made : ℕ
  pub packets : List Tree

-- What the hands of the running program hold.
abbrev pub held_of : Holding → Held
held_of h = record { maker = h.maker; made = h.made; packets = h.packets }

-- The ids of all that is held, in the order of the hands, each packet followed by those in its chains.
abbrev pub held_ids : Held → List ℕ
held_ids held = all_ids held.packets

-- The id that the next packet of this process gets.
abbrev pub next_id : Held → ℕ
next_id held = id_by held.maker held.made

-- The hands with this packet at the end.
abbrev pub with_packet : Held → Tree → Held
with_packet held packet = record held { packets = held.packets ++ packet ∷ [] }

-- The hands without the packet with this id at the root, and without its tree.
abbrev pub without_packet : Held → ℕ → Held
without_packet held id = record held { packets = without held.packets id }

-- The hands with one more packet made, which stands at the end.
abbrev pub with_made : Held → Kind → List ℕ → Held
with_made held kind text = record { maker = held.maker; made = held.made + 1; packets = held.packets ++ packet_of (next_id held) kind text [] ∷ [] }

-- Hands are sound where no id stands twice in them, fewer than 2^32 packets were made, and the ordinal of each id of their own maker is below the number made.
pub record Sound (held : Held) : Type 0 where
  pub once : (id : ℕ) → times id (held_ids held) ≤ 1
  pub counted : held.made < 4294967296
  pub below : (id : ℕ) → 0 < times id (held_ids held) → maker_of id ≡ held.maker → ordinal_of id < held.made
