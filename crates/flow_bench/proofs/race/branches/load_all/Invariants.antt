use Rattle.std.proofs.Common.{◌≡◌, map}
use Rattle.flow_bench.specs.Loaded.{loaded_as}
use Rattle.flow_bench.proofs.race.branches.load_all.Given as goal

abbrev pub invariant-loop-component : goal.invariant-loop-component
invariant-loop-component l = l.loaded.items ≡ map (loaded_as l.rounds 0) l.yielded
