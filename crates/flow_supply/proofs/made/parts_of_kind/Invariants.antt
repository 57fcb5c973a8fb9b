use Rattle.flow_supply.proofs.Making.{MadeSoFar}
use Rattle.flow_supply.proofs.made.parts_of_kind.Given as goal

abbrev pub invariant-loop-process : goal.invariant-loop-process
invariant-loop-process g l = MadeSoFar g.M.Maker.makes l.maker l.own l.plan l.place l.process l.parts.items
