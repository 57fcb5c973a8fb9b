use Rattle.std.proofs.Common.{ℕ, sym, subst, ap, ◌∙◌}
use Rattle.std.specs.Prelude.{ℤ, FitsSigned}
use Rattle.std.specs.Int.{w128}
use Rattle.std.proofs.lemmas.Int.{to_z-of_z}
use Rattle.flow_decimal.specs.declared.decimal.Decimal.{Decimal}
use Rattle.flow_decimal.proofs.Summing.{shorter-some, shorter-none}
use Rattle.flow_decimal.proofs.decimal.Decimal.with_shorter.Goals as goal

abbrev at_fraction : ℕ → ℤ → Decimal
at_fraction fraction whole = record { whole = whole; fraction = fraction }

pub returns-in-Some : goal.returns-in-Some
returns-in-Some c =
    let a = c.args.self.now in
    let whole = c.in-Some.whole in
    let fits : FitsSigned w128 whole = subst (FitsSigned w128) (sym c.in-Some.ensures.1) c.in-Some.ensures.0 in
    let sums = shorter-some a c.args.shorter.now whole c.requires.shorter c.in-Some.ensures.0 c.in-Some.ensures.1 in
    (sums.0, ap (at_fraction a.fraction) (to_z-of_z w128 whole fits) ∙ sums.1)

pub returns-in-None : goal.returns-in-None
returns-in-None c = shorter-none c.args.self.now c.args.shorter.now c.requires.shorter c.in-None.ensures
