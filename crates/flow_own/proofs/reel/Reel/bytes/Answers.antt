use Rattle.std.proofs.Common.{sym}
use Rattle.flow_own.proofs.Winding.{own-bytes}
use Rattle.flow_own.proofs.reel.Reel.bytes.Goals as goal

pub returns : goal.returns
returns c = rw (c.split_at.ensures.front, c.split_at.ensures.back, c.as_slice.ensures, sym c.self.view_is) (own-bytes c.self.inside.count c.self.inside.size c.self.inside.bytes c.self.invariant.0)
