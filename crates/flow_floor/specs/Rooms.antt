-- The room for a floor's end.
use Rattle.std.specs.Prelude.{◌≡◌, ℕ, ◌≤◌, List, length, map, vec_capacity}
use Rattle.flow_model.specs.Stands.{ChannelShown}
use Rattle.flow_floor.specs.declared.rooms.Rooms.{Rooms}
use Rattle.flow_floor.specs.Opening.{emptied}

-- Rooms for the bodies of a net with n processes, and for a list of its processes; and these connections, out of which all packets were taken.
pub record HasRooms {K : Type 0} (n : ℕ) (connections : List ChannelShown) (r : Rooms K) : Type 0 where
  pub bodies : (length r.bodies.items ≡ 0) × (n ≤ vec_capacity r.bodies)
  pub channels : r.channels.items ≡ map emptied connections
  pub starved : (length r.starved.items ≡ 0) × (n ≤ vec_capacity r.starved)
