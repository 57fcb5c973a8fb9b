use Rattle.std.proofs.Common.{ℕ, ◌<◌}
use Rattle.flow_offer.specs.Shares.{FindsPart}
use Rattle.flow_offer.proofs.shares.no_part.Given as goal

abbrev pub invariant-loop-process : goal.invariant-loop-process
invariant-loop-process l = (p : ℕ) → p < l.process → FindsPart l.own l.counts l.plan p
