use Rattle.std.proofs.Common.{ℕ, ◌+◌, ◌*◌, ◌^◌, length, ◌++◌, ◌∙◌, ap, sym}
use Rattle.std.specs.Str.Parse.{digits_value}
use Rattle.flow_decimal.proofs.Numerals.{iff-along, front-large, two-parts}
use Rattle.flow_decimal.proofs.reading.joined.Goals as goal

pub returns-in-None : goal.returns-in-None
returns-in-None c = front-large c.args.front.now c.args.back.now c.in-None.ensures

pub returns-in-Some : goal.returns-in-Some
returns-in-Some c =
    let front = c.args.front.now in
    let back = c.args.back.now in
    iff-along c.behind.result (c.in-Some.first * 10 ^ length back + digits_value 10 back) (digits_value 10 (front ++ back))
    (ap (λ (n : ℕ). n * 10 ^ length back + digits_value 10 back) c.in-Some.ensures.1 ∙ sym (two-parts front back)) c.behind.ensures
