-- How the entry of a resume ends.
use Rattle.std.specs.Prelude.{◌≡◌, ℕ, ◌==◌, Bool, true, false, List, Option, Some, None, Result, Ok, Err, is_some, nat_lt}
use Rattle.std.specs.List.{list_any}
use Rattle.flow_packet.specs.Hands.{packet_at}
use Rattle.flow_packet.specs.Held.{Held}
use Rattle.flow_component.specs.declared.Port.{Port}
use Rattle.flow_component.specs.declared.Wish.{Wish}
use Rattle.flow_component.specs.declared.Wish.TheVariants as wishes
use Rattle.flow_component.specs.declared.OwnFail.TheVariants as owns
use Rattle.flow_component.specs.declared.Shape.{Shape}
use Rattle.flow_own.specs.declared.part.PartStop.{PartStop}
use Rattle.flow_own.specs.declared.part.PartStop.TheVariants as stops
use Rattle.flow_own.specs.declared.tape.End.{End}
use Rattle.flow_own.specs.declared.tape.End.TheVariants as ends

-- The output with this number is used.
abbrev pub is_used : List ℕ → ℕ → Bool
is_used used port = list_any (λ other. other == port) used

-- The wish, where the port is allowed.
abbrev pub at_port : Bool → Port → Wish → End
at_port true port wish = ends.Wish wish
at_port false port wish = ends.Fail (owns.Port port.0)

-- A send names a packet at the root, and then a port that is used.
abbrev pub at_root : Bool → Bool → Port → ℕ → End
at_root true used port id = at_port used port (wishes.Send port id)
at_root false used port id = ends.Fail (owns.Packet id)

-- How an entry ends by a wish, with the hands as the acts leave them: with the wish where it may be granted, and else with what is wrong with it.
abbrev pub end_by : Shape → List ℕ → Held → Wish → End
end_by shape used held (wishes.Receive port) = at_port (nat_lt port.0 shape.inputs) port (wishes.Receive port)
end_by shape used held (wishes.Send port id) = at_root (is_some (packet_at held.packets id)) (is_used used port.0) port id
end_by shape used held (wishes.Level port) = at_port (is_used used port.0) port (wishes.Level port)
end_by shape used held wishes.Deactivate = ends.Wish wishes.Deactivate

-- How an entry ends by an answer of the part.
abbrev pub EndsBy : Shape → List ℕ → Held → Option (Result Wish PartStop) → End → Type 0
EndsBy shape used held (Some (Ok wish)) end = end ≡ end_by shape used held wish
EndsBy shape used held (Some (Err (stops.Fail number))) end = end ≡ ends.Fail (owns.Own number)
EndsBy shape used held (Some (Err stops.NoMemory)) end = ⊥
EndsBy shape used held None end = ⊥
