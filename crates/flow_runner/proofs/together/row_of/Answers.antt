use Rattle.std.proofs.Common.{◌≡◌, ℕ, ◌+◌, ◌<◌, ◌≤◌, ◌∷◌, [], ◌∙◌, rules, get_or, set, get_or-set_same, get_or-set_other, sym, ap, subst, arith, inl, inr, length, length-append, length-set}
use Rattle.std.proofs.lemmas.Bool.{cases_eq}
use Rattle.flow_runner.specs.declared.line.LinePass.{LinePass}
use Rattle.flow_runner.specs.declared.lines.Post.{Post}
use Rattle.flow_runner.specs.Lines.{parts_of, IsPassAt}
use Rattle.flow_runner.proofs.Posts.{any-default, pass-set, push-each}
use Rattle.flow_runner.proofs.together.row_of.Goals as goal

pub loop-i-preserved : goal.loop-i-preserved
loop-i-preserved c =
    let i = c.loop-i.invariant in
    let n = c.loop-i.i in
    let posts = c.args.posts.now.items in
    let fs = c.loop-i.firsts.items in
    let row = c.loop-i.row.items in
    let pass = c.share.result in
    let x = c.share.new.first in
    let q = c.push_reserved.ensures in
    let old_passes = c.args.firsts.now.items in
    let within : n < length fs = omega (arith, c.loop-i-test.true, c.loop-i.auto.i-end, i.firsts.count, c.len-i-end.ensures) in
    let here : (d : Post) → IsPassAt (get_or posts n d).line pass = λ d. search rules in
    let stays : (d : Post) → IsPassAt (get_or posts n d).line x = λ d. search rules in
    let old : (e : LinePass) → c.index_mut.result.now ≡ get_or fs n e = λ e. c.index_mut.ensures.value ∙ any-default fs n c.index_mut.result.now e within in
    record {
      count = omega (arith, i.count, ap (λ xs. length xs) q.items, length-append row (pass ∷ []));
      room = subst (λ m. length posts ≤ m) (sym q.capacity) i.room;
      firsts = pass-set posts fs n x i.firsts stays;
      row = subst (λ xs. (k : ℕ) (e : LinePass) → k < length xs → (d : Post) → IsPassAt (get_or posts k d).line (get_or xs k e)) (sym q.items)
          (push-each (λ k p. (d : Post) → IsPassAt (get_or posts k d).line p) row pass i.row (subst (λ m. (d : Post) → IsPassAt (get_or posts m d).line pass) (sym i.count) here));
      parts = λ k e lt. elim (cases_eq k n) [
        | inl same ↦ inl (
          omega (arith, same),
          subst (λ j. parts_of (get_or (set fs n x) j e) + 1 ≡ parts_of (get_or old_passes j e)) (sym same)
              (ap (λ p. parts_of p + 1) (get_or-set_same fs n x e within) ∙ c.share.ensures.first.1 ∙ ap parts_of (old e) ∙ elim (i.parts n e within) [ inl before ↦ absurd (omega (arith, before.0)) | inr at ↦ at.1 ]),
        )
        | inr other ↦ elim (i.parts k e (omega (arith, lt, length-set fs n x))) [
          | inl before ↦ inl (omega (arith, before.0), ap (λ p. parts_of p + 1) (get_or-set_other fs n k x e other) ∙ before.1)
          | inr after ↦ inr (omega (arith, after.0, other), ap parts_of (get_or-set_other fs n k x e other) ∙ after.1)
        ]
      ];
    }

pub returns-clause-row : goal.returns-clause-row
returns-clause-row c = let i = c.loop-i.invariant in let a = c.loop-i-test.false in record {
  count = omega (arith, i.count, a, c.loop-i.auto.i-end, c.len-i-end.ensures);
  each = λ k d e lt. i.row k e (omega (arith, lt, i.count, a, c.loop-i.auto.i-end, c.len-i-end.ensures)) d;
}
