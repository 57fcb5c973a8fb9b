-- What a queue keeps.
use Rattle.std.specs.Prelude.{◌≤◌, length, take, All}
use Rattle.flow_packet.specs.Bare.{IsBare}
use Rattle.flow_packet.specs.declared.queue.Queue.TheInside.{Inside}

-- The places that were taken hold bare packets.
pub record IsQueue (q : Inside) : Type 0 where
  pub within : q.taken ≤ length q.packets.items
  pub bare : All IsBare (take q.taken q.packets.items)
