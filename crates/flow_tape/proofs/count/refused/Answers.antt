use Rattle.std.proofs.Common.{ℕ, subst}
use Rattle.flow_tape.specs.Counts.{BeginsFileOf}
use Rattle.flow_tape.proofs.Counting.{many_begins}
use Rattle.flow_tape.proofs.count.refused.Goals as goal

pub returns-in-Ok : goal.returns-in-Ok
returns-in-Ok c = λ wanted other.
    let bytes = c.args.bytes.now in
    let many = c.in-Ok.ensures.number in
    (many, λ same. other (subst (λ (n : ℕ). BeginsFileOf n bytes) same (many_begins bytes c.in-Ok.number many)))
