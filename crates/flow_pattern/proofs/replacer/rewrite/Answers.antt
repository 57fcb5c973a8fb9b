use Rattle.std.proofs.Common.{◌≡◌, ℕ, ◌-◌, false, List, [], ◌++◌, Some, None, option_map, refl, sym, subst, ap, ◌∙◌, arith, append_assoc, slice_range}
use Rattle.std.proofs.lemmas.List.{take_rest}
use Rattle.regex.specs.Patterns.{span}
use Rattle.regex.specs.Search.{next_match}
use Rattle.regex_meta.proofs.ProgramLemmas.{value_of_option_map}
use Rattle.flow_pattern.specs.Pattern.{expression}
use Rattle.flow_pattern.specs.Rewriting.{IsNewText, Tells}
use Rattle.flow_pattern.proofs.Writing.{rewritten_told}
use Rattle.flow_pattern.proofs.Replacing.{all_left, match_left, rest_left, some_in, none_in}
use Rattle.flow_pattern.proofs.replacer.rewrite.Goals as goal

pub matches-init : goal.matches-init
matches-init c =
    let text = c.args.text.now in
    let re = expression c.args.locator.now in
    (omega arith, refl, ([], c.new-written.ensures, all_left re (λ _. c.args.with.now) text), (λ more. absurd (omega (arith, more))))

pub matches-preserved : goal.matches-preserved
matches-preserved c =
    let text = c.args.text.now in
    let with = c.args.with.now in
    let re = expression c.args.locator.now in
    let l = c.matches in
    let s : ℕ × ℕ = (c.in-Some.from, c.in-Some.end) in
    let came = c.in_ok-from.ensures in
    let found : Some s ≡ option_map span (next_match false re text l.after) =
    sym c.in-Some.is ∙ came.found ∙ ap (λ (p : List ℕ). option_map span (next_match false (expression p) text l.after)) l.invariant.1 in
    let lies = rw c.in-Some.is at came.lies in
    let at : c.saturating_sub.result ≡ l.after - 1 = omega (arith, c.saturating_sub.ensures) in
    let between = slice_range text (l.after - 1) s.0 in
    let written = l.invariant.2 in
    let first = subst (λ n. IsNewText c.args.most (written.0 ++ slice_range text n s.0) c.put.new.self) at (c.in_ok-put.ensures c.args.most written.0 written.1) in
    let v = value_of_option_map span (next_match false re text l.after) s (sym found) in (
      omega (arith, lies),
      came.same ∙ l.invariant.1,
      (
        (written.0 ++ between) ++ with,
        c.in_ok-put-2.ensures c.args.most (written.0 ++ between) first,
        (simp append_assoc) ∙ ap (λ x. written.0 ++ x) (sym (match_left re (λ _. with) text l.after v.0 s v.1 v.2)) ∙ written.2,
      ),
      (λ _. some_in re text l.after s found l.invariant.3),
    )

pub returns-then-after-eq0-clause-rewritten : goal.returns-then-after-eq0-clause-rewritten
returns-then-after-eq0-clause-rewritten c =
    let text = c.args.text.now in
    let re = expression c.args.locator.now in
    let l = c.matches in
    let none : None ≡ option_map span (next_match false re text l.after) =
    sym c.in_default.is ∙ c.in_ok-from.ensures.found ∙ ap (λ (p : List ℕ). option_map span (next_match false (expression p) text l.after)) l.invariant.1 in
    let first : l.after ≡ 0 = omega (arith, c.if-after-eq0.true) in
    none_in re text (none ∙ ap (λ n. option_map span (next_match false re text n)) first)

pub returns-clause-rewritten : goal.returns-clause-rewritten
returns-clause-rewritten c =
    let text = c.args.text.now in
    let with = c.args.with.now in
    let re = expression c.args.locator.now in
    let l = c.matches in
    let none : None ≡ option_map span (next_match false re text l.after) =
    sym c.in_default.is ∙ c.in_ok-from.ensures.found ∙ ap (λ (p : List ℕ). option_map span (next_match false (expression p) text l.after)) l.invariant.1 in
    let written = l.invariant.2 in
    let whole = ap (λ x. written.0 ++ x) (take_rest text _ ∙ sym (rest_left re (λ _. with) text l.after none)) ∙ written.2 in
    let told = c.told.ensures c.args.most _ (c.in_ok-put-3.ensures c.args.most written.0 written.1) in
    rewritten_told c.args.locator.now (λ _. with) text c.args.most c.told.result (l.invariant.3 (omega (arith, c.if-after-eq0.false)))
    (subst (λ (x : List ℕ). Tells c.args.most x c.told.result) whole told)
