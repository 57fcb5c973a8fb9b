use Rattle.std.proofs.Common.{rules, ◌≡◌, ℕ, ◌-◌, ◌*◌, ◌^◌, ◌<◌, subst, ap, ◌∙◌}
use Rattle.std.specs.Prelude.{unsigned_abs, FitsSigned}
use Rattle.std.specs.Int.{w128}
use Rattle.std.proofs.lemmas.Int.{to_z-of_z}
use Rattle.flow_decimal.proofs.Summing.{far}
use Rattle.flow_decimal.proofs.decimal.Decimal.whole_with.Goals as goal

pub returns-in-None : goal.returns-in-None
returns-in-None c =
    let whole = c.args.self.now.whole in
    let addend = c.args.shorter.now.whole in
    let zeros = c.args.self.now.fraction - c.args.shorter.now.fraction in
    let whole_fits : FitsSigned w128 whole = search rules in
    let addend_fits : FitsSigned w128 addend = search rules in
    let size : c.unsigned_abs.result ≡ unsigned_abs addend = c.unsigned_abs.ensures.value ∙ ap unsigned_abs (to_z-of_z w128 addend addend_fits) in
    far whole addend (10 ^ zeros) whole_fits (subst (λ (n : ℕ). ¬ (n * 10 ^ zeros < 2 ^ 128)) size c.in-None.ensures)
