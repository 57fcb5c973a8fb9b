use Rattle.std.proofs.Common.{◌≡◌, ℕ, zero, suc, ◌+◌, ◌-◌, ◌<◌, List, [], ◌∷◌, ◌++◌, length, take, slice_set, refl, sym, ap, ◌∙◌, append_assoc, length-set, arith}
use Rattle.std.specs.List.{range_with_len}
use Rattle.std.proofs.lemmas.List.{take_more_set}
use Rattle.flow_machine.proofs.body.restamp.number_last.Goals as goal

-- The numbers from one on, with one more.
range-last : (first count last : ℕ) → first + count ≡ last → range_with_len first (suc count) ≡ range_with_len first count ++ last ∷ []
range-last first zero last is = let same : first ≡ last = omega (arith, is) in ap (λ (n : ℕ). n ∷ []) same
range-last first (suc count) last is = ap (λ (ns : List ℕ). first ∷ ns) (range-last (first + 1) count last (omega (arith, is)))

range-more : (first count : ℕ) → range_with_len first (count + 1) ≡ range_with_len first count ++ (first + count) ∷ []
range-more first count = let on : count + 1 ≡ suc count = omega arith in ap (range_with_len first) on ∙ range-last first count (first + count) refl

pub loop-i-preserved : goal.loop-i-preserved
loop-i-preserved c =
    let old = c.args.stamps.now in
    let now = c.loop-i.stamps in
    let kept : ℕ = length old - c.args.count in
    let stamp : ℕ = c.args.first + c.loop-i.i in
    let within : kept + c.loop-i.i < length now = omega (arith, c.loop-i.invariant.0, c.requires.few, c.loop-i-test.true) in
    let on : kept + (c.loop-i.i + 1) ≡ kept + c.loop-i.i + 1 = omega arith in
    let written = slice_set now (kept + c.loop-i.i) stamp in (
      length-set now (kept + c.loop-i.i) stamp ∙ c.loop-i.invariant.0,
      ap (λ (n : ℕ). take n written) on
          ∙ take_more_set now (kept + c.loop-i.i) stamp within
          ∙ ap (λ (ns : List ℕ). ns ++ stamp ∷ []) c.loop-i.invariant.1
          ∙ append_assoc (take kept old) (range_with_len c.args.first c.loop-i.i) (stamp ∷ [])
          ∙ ap (λ (ns : List ℕ). take kept old ++ ns) (sym (range-more c.args.first c.loop-i.i)),
    )
