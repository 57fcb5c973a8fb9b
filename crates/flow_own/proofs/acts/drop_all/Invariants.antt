use Rattle.flow_own.proofs.Drops.{Dropping}
use Rattle.flow_own.proofs.acts.drop_all.Given as goal

abbrev pub invariant-loop-id : goal.invariant-loop-id
invariant-loop-id l = Dropping l.initial.hands l.hands l.dropped l.id-index
