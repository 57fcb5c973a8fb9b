use Rattle.std.proofs.Common.{◌∙◌, ap, length, Option, ℕ, arith}
use Rattle.std.specs.Prelude.{unwrap_or}
use Rattle.flow_decimal.specs.Bounds.{is_no_blank}
use Rattle.flow_decimal.proofs.Bounding.{place-or-length, place-within}
use Rattle.flow_decimal.proofs.bound.blanks.Goals as goal

pub returns-clause-count : goal.returns-clause-count
returns-clause-count c = c.unwrap_or.ensures ∙ ap (λ (o : Option ℕ). unwrap_or o (length c.args.text.now)) c.no_blank_in.ensures ∙ place-or-length is_no_blank c.args.text.now

pub returns-clause-within : goal.returns-clause-within
returns-clause-within c = omega (arith, returns-clause-count c, place-within is_no_blank c.args.text.now)
