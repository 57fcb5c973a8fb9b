use Rattle.std.proofs.Common.{◌≤◌, arith}
use Rattle.flow_cli.proofs.crew.go_alone.Goals as goal

no-worker : 1 ≤ 0 → ⊥
no-worker some = omega (arith, some)

pub returns-in-Ok : goal.returns-in-Ok
returns-in-Ok g c = record {
  crew = c.nobody.ensures;
  alone = λ none. c.in-Ok.ensures.quiet;
  made = λ some. absurd (no-worker some);
  reaches = λ some. absurd (no-worker some);
  quiet = λ some. absurd (no-worker some);
}
