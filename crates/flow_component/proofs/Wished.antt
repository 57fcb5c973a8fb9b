-- What a wish names: by these two wishes to receive or to send are told apart.
use Rattle.std.proofs.Common.{ℕ}
use Rattle.flow_component.specs.declared.Wish.{Wish}
use Rattle.flow_component.specs.declared.Wish.TheVariants as wishes

-- The number of its port.
abbrev pub port_of : Wish → ℕ
port_of (wishes.Receive port) = port.0
port_of (wishes.Send port id) = port.0
port_of (wishes.Level port) = port.0
port_of wishes.Deactivate = 0

-- The id of its packet.
abbrev pub id_in : Wish → ℕ
id_in (wishes.Receive port) = 0
id_in (wishes.Send port id) = id
id_in (wishes.Level port) = 0
id_in wishes.Deactivate = 0
