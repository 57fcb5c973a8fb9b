-- What a Where makes of its stream, from its first state to its end.
use Rattle.std.specs.Prelude.{◌≡◌, Bool, true, false, not, List, [], filter}
use Rattle.flow_packet.specs.Tree.{Tree, kind_of, text_of}
use Rattle.flow_component.specs.Happenings.{Happening}
use Rattle.flow_component.specs.Runs.{EndedRun, got, sent}
use Rattle.flow_decimal.specs.declared.bound.Bound.{Bound}
use Rattle.flow_where.specs.Where.{accepts, where_rules}

-- Whether it accepts a packet: a bracket, or a Normal packet whose text is a number for which the bound holds.
abbrev pub accepts_packet : Bound → Tree → Bool
accepts_packet bound packet = accepts bound (kind_of packet) (text_of packet)

-- What a Where makes of x: the packets that it accepts to its first output, and those that it rejects to its second one, if that is connected.
pub record IsParted (bound : Bound) (rejects : Bool) (x accepted rejected : List Tree) : Type 0 where
  pub accepts_those : accepted ≡ filter (accepts_packet bound) x
  pub rejects_others : rejects ≡ true → rejected ≡ filter (λ packet. not (accepts_packet bound packet)) x
  pub silent : rejects ≡ false → rejected ≡ []

-- Its meaning, over whole runs.
abbrev pub WhereMeaning : Type 0
WhereMeaning = (bound : Bound) (rejects : Bool) (told : List Happening) → EndedRun where_rules (record { bound = bound; rejects = rejects }) told → IsParted bound rejects (got 0 told) (sent 0 told) (sent 1 told)
