-- What the program may be asked for.
use Rattle.std.specs.Prelude.{◌≤◌}
use Rattle.flow_limits.specs.declared.TheConstants.{WORKER_LIMIT}
use Rattle.flow_bench.specs.declared.again.words.Comparison.{Comparison}
use Rattle.flow_bench.specs.declared.words.Benchmark.{Benchmark}
use Rattle.flow_bench.specs.declared.words.Benchmark.TheVariants.{Chain, Race, Again}
use Rattle.flow_bench.specs.ChainSizes.{IsSize as IsChainSize}
use Rattle.flow_bench.specs.RaceSizes.{IsSize as IsRaceSize}

-- From 1 worker to as many as there may be.
abbrev pub IsManned : Comparison → Type 0
IsManned asked = (1 ≤ asked.workers) × (asked.workers ≤ WORKER_LIMIT)

-- A chain or a race of a size that there may be, or a comparison with so many workers as there may be.
abbrev pub MayBeAsked : Benchmark → Type 0
MayBeAsked (Chain size) = IsChainSize size
MayBeAsked (Race size) = IsRaceSize size
MayBeAsked (Again asked) = IsManned asked
