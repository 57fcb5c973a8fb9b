-- How deep a stream is nested.
use Rattle.std.specs.Prelude.{ℕ, ◌+◌, ◌-◌}
use Rattle.flow_packet.specs.declared.packet.Kind.{Kind}
use Rattle.flow_packet.specs.declared.packet.Kind.TheVariants.{Normal, Open, Close}

-- The depth after a packet of this kind: Open adds one, and Close takes one away where there is one.
abbrev pub depth_after : ℕ → Kind → ℕ
depth_after depth Normal = depth
depth_after depth Open = depth + 1
depth_after depth Close = depth - 1
