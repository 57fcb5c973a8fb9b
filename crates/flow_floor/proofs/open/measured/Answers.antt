use Rattle.std.proofs.Common.{◌≡◌, ◌≤◌, ◌∙◌, length, sym, subst}
use Rattle.flow_limits.specs.declared.TheConstants.{CONNECTION_LIMIT}
use Rattle.flow_machine.specs.Joins.{Joins}
use Rattle.flow_floor.proofs.Shutting.{whole-net}
use Rattle.flow_floor.specs.Opening.{AreSound}
use Rattle.flow_floor.proofs.Starting.{sound-of}
use Rattle.flow_floor.proofs.open.measured.Goals as goal
use Rattle.flow_floor.proofs.open.measured.Goals.{After-join}

same : (g : _) (c : After-join g) → c.join.result ≡ c.args.net
same g c = let p = c.split.result in let s = c.split.ensures in c.join.ensures ∙ whole-net c.args.net p.connections.items p.bodies.items p.channels.items s.connections s.bodies s.channels

sound : (g : _) (c : After-join g) → (length c.join.result.channels ≤ CONNECTION_LIMIT) × AreSound c.join.result.channels
sound g c = let joins = Joins g.K.Component.rules in sound-of g.K.Component.rules c.join.result (subst joins (sym c.join.ensures) c.split.ensures.joins)

pub returns-clause-same : goal.returns-clause-same
returns-clause-same g c = same g c

pub returns-clause-few : goal.returns-clause-few
returns-clause-few g c = (sound g c).0

pub returns-clause-sound : goal.returns-clause-sound
returns-clause-sound g c = (sound g c).1
