use Rattle.std.proofs.Common.{◌<◌, [], sym, subst, length}
use Rattle.flow_model.specs.Stages.{IsThoughtStage}
use Rattle.flow_machine.specs.Values.{NetValue}
use Rattle.flow_machine.specs.Nets.{IsAt}
use Rattle.flow_machine.proofs.Wholes.{fit-with}
use Rattle.flow_machine.proofs.net.Net.block.Goals as goal

pub block_of-requires-clause-in_range : goal.block_of-requires-clause-in_range
block_of-requires-clause-in_range g c = rw c.deref.ensures.value (subst (λ (n : NetValue g.row.K.Denot). c.args.process < length n.bodies) (sym c.self.view_is) c.requires.in_range)

pub block_of-requires-clause-thought : goal.block_of-requires-clause-thought
block_of-requires-clause-thought g c = rw c.deref.ensures.value (subst (λ (n : NetValue g.row.K.Denot). IsAt n c.args.process IsThoughtStage) (sym c.self.view_is) c.requires.thought)

pub block_of-requires-clause-fit : goal.block_of-requires-clause-fit
block_of-requires-clause-fit g c = rw (c.deref.ensures.value, c.deref-2.ensures.value) (fit-with g.K.Component.rules c.self.inside.connections.items [] c.self.inside.bodies.items c.self.inside.channels.items c.self.invariant.fit)

pub returns : goal.returns
returns g c = rw (← c.self.view_is) (rw (c.deref.ensures.value, c.deref-2.ensures.value) at c.block_of.ensures)
