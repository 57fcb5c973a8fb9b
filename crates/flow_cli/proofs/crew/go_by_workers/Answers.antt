use Rattle.std.proofs.Common.{List, [], ◌∷◌, length, ℕ, ◌≡◌, ◌≤◌, true, refl, sym, ◌∙◌, arith}
use Rattle.std.proofs.lemmas.Bool.Decides.{nat_tests}
use Rattle.std.specs.Prelude.{◌==◌}
use Rattle.flow_cli.proofs.crew.go_by_workers.Goals as goal

no-worker : {n : ℕ} → 1 ≤ n → n ≡ 0 → ⊥
no-worker some none = omega (arith, some, none)

no-starved : (count : ℕ) (starved : List ℕ) → count ≡ length starved → (count == 0) ≡ true → starved ≡ []
no-starved count [] long is = refl
no-starved count (process ∷ starved) long is = let none : count ≡ 0 = grind (arith, nat_tests, is) in absurd (omega (arith, none, long))

pub returns-then-is_empty : goal.returns-then-is_empty
returns-then-is_empty g c = record {
  crew = c.in-Ok.ensures.crew;
  alone = λ none. absurd (no-worker c.requires.least none);
  made = λ some. c.in-Ok.ensures.made;
  reaches = λ some. c.in-Ok.ensures.reaches;
  quiet = λ some. c.in-Ok.ensures.quiet (no-starved c.in-Ok.worked.closed.starved.len c.in-Ok.worked.closed.starved.items c.in-Ok.worked.closed.starved.ok.0 (sym c.is_empty.ensures ∙ c.if-is_empty.true));
}
