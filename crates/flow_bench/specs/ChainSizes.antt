-- How large a chain may be.
use Rattle.flow_bench.specs.declared.chain.size.TheConstants.{LINE_LIMIT}
use Rattle.std.specs.Prelude.{◌≤◌}
use Rattle.flow_bench.specs.declared.chain.size.ChainSize.{ChainSize}

-- From 1 to 100 passers, and not too many lines.
pub record IsSize (size : ChainSize) : Type 0 where
  pub some : 1 ≤ size.passers
  pub few : size.passers ≤ 100
  pub short : size.lines ≤ LINE_LIMIT
