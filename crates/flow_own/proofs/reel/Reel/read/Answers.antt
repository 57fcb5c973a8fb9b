use Rattle.std.proofs.Common.{rules, ◌≡◌, ◌-◌, List, ℕ, Ok, drop, length, sym, ap, ◌∙◌, arith}
use Rattle.flow_own.specs.Reading.{behind, many_at, entry_at}
use Rattle.flow_own.specs.Reels.{entries_at}
use Rattle.flow_own.proofs.Winding.{make-reel, at-start}
use Rattle.flow_own.proofs.reel.Reel.read.Goals as goal

pub overflow_sub-size : goal.overflow_sub-size
overflow_sub-size c =
    let here = ap (λ (b : List ℕ). behind (many_at entry_at c.args.count b)) (sym c.as_slice.ensures) in
    let made = make-reel c.args.count c.args.bytes c.in-Ok.rest.now (omega (arith, c.ranges.count.fits)) (here ∙ c.in-Ok.ensures) in
    omega (arith, made.within, c.len.ensures.value)

pub invariant_of-reel : goal.invariant_of-reel
invariant_of-reel c =
    let here = ap (λ (b : List ℕ). behind (many_at entry_at c.args.count b)) (sym c.as_slice.ensures) in
    let made = make-reel c.args.count c.args.bytes c.in-Ok.rest.now (omega (arith, c.ranges.count.fits)) (here ∙ c.in-Ok.ensures) in
    rw c.len.ensures.value (made.reel, at-start c.args.count (length c.args.bytes - length c.in-Ok.rest.now) c.args.bytes made.reel)

pub returns : goal.returns
returns c =
    let here = ap (λ (b : List ℕ). behind (many_at entry_at c.args.count b)) (sym c.as_slice.ensures) in
    let made = make-reel c.args.count c.args.bytes c.in-Ok.rest.now (omega (arith, c.ranges.count.fits)) (here ∙ c.in-Ok.ensures) in
    let size : ℕ = length c.args.bytes - length c.in-Ok.rest.now in
    let copy : c.in_ok-rest.rest ≡ c.args.bytes = search rules in
    let cut : c.advance.new.self ≡ c.in-Ok.rest.now =
    c.advance.ensures ∙ ap (drop (c.len.result - length c.in-Ok.rest.now)) copy ∙ ap (λ (n : ℕ). drop (n - length c.in-Ok.rest.now) c.args.bytes) c.len.ensures.value ∙ made.is in
    made.reads ∙ ap (λ (b : List ℕ). Ok (entries_at c.args.count c.args.bytes, b)) (sym cut)
