-- How contracts see bodies and nets.
use Rattle.std.specs.Prelude.{ℕ, Bool, List, [], map, Option}
use Rattle.flow_packet.specs.declared.packet.Kind.{Kind}
use Rattle.flow_plan.specs.declared.plan.Connection.{Connection}
use Rattle.flow_model.specs.States.{Process}
use Rattle.flow_model.specs.Stands.{BodyShown, ChannelShown, NetShown}

-- A body: its process; whether its component was told its end; how many packets it dropped, as far as that is counted; the kind of a packet that has left it while the turn that
-- sends it is not over; the stamps of its turns; the level numbers that it was told, each with the stamp of its turn; and the room that
-- it has for its next turn: places for packets, stamps and level numbers, and a copy of an initial text.
pub record BodyValue (K : Type 0) : Type 0 where
  pub process : Process K
  pub told_end : Bool
  pub dropped : ℕ
  pub leaving : Option Kind
  pub stamps : List ℕ
  pub levels : List (ℕ × ℕ)
  pub places : ℕ
  pub stamp_room : ℕ
  pub level_room : ℕ
  pub copy : Option (List ℕ)

-- A net: the connections of its plan, and a body for each process and a channel for each connection.
pub record NetValue (K : Type 0) : Type 0 where
  pub connections : List Connection
  pub bodies : List (BodyValue K)
  pub channels : List ChannelShown

-- The net of these connections, bodies and channels.
abbrev pub net_with : {K : Type 0} → List Connection → List (BodyValue K) → List ChannelShown → NetValue K
net_with connections bodies channels = record { connections = connections; bodies = bodies; channels = channels }

-- The bodies and channels of a net alone, which are all that a turn reads and changes.
abbrev pub net_of : {K : Type 0} → List (BodyValue K) → List ChannelShown → NetValue K
net_of bodies channels = net_with [] bodies channels

-- What is shown of a body and of a net to the states that they stand for.
abbrev pub shown_body : {K : Type 0} → BodyValue K → BodyShown K
shown_body body = record { process = body.process; dropped = body.dropped }

-- What a net shows of a state.
abbrev pub shown_net : {K : Type 0} → NetValue K → NetShown K
shown_net net = record { bodies = map shown_body net.bodies; channels = net.channels }
