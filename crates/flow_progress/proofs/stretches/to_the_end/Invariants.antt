use Rattle.flow_catalogue.specs.Std.{std_rules}
use Rattle.flow_machine.specs.Solo.{ReachesNet}
use Rattle.flow_progress.proofs.stretches.to_the_end.Given as goal

-- the network of the start reached the one that is run on
abbrev pub invariant-loop : goal.invariant-loop
invariant-loop g l = (goal.iterator-loop g).can_next l.iterator' × (goal.iterator-loop g).is_finite l.iterator' × ReachesNet std_rules l.fn.net l.net
