use Rattle.std.proofs.Common.{◌≡◌, map}
use Rattle.flow_load.proofs.offers.kinds_and_parts.Given as goal

abbrev pub invariant-loop-kind : goal.invariant-loop-kind
invariant-loop-kind g l = record { kinds : l.kinds.items ≡ map (λ k. k.spec) l.yielded; parts : l.parts.items ≡ map (λ k. k.parts) l.yielded }
