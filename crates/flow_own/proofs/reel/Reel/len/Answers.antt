use Rattle.std.proofs.Common.{length, sym, ap, ◌∙◌}
use Rattle.flow_own.proofs.Winding.{reel-long}
use Rattle.flow_own.proofs.reel.Reel.len.Goals as goal

pub returns-clause-len : goal.returns-clause-len
returns-clause-len c = sym (reel-long c.self.inside.count c.self.inside.size c.self.inside.bytes c.self.invariant.0) ∙ ap length c.self.view_is
