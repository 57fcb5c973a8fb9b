-- The packet that a step is told.
use Rattle.std.specs.Prelude.{[]}
use Rattle.flow_packet.specs.Tree.{Tree, packet_of}
use Rattle.flow_packet.specs.declared.packet.Kind.TheVariants as kinds

-- What is told where there is no packet.
abbrev pub no_packet : Tree
no_packet = packet_of 0 kinds.Normal [] []
