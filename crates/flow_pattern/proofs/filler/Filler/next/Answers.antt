use Rattle.std.proofs.Common.{◌≡◌, ℕ, false, List, [], Some, option_map, sym, subst, ap, ◌∙◌}
use Rattle.regex.specs.Patterns.{find, span}
use Rattle.regex.specs.Replace.{group_bytes}
use Rattle.regex.specs.Search.{next_match}
use Rattle.regex_meta.proofs.ProgramLemmas.{value_of_option_map}
use Rattle.flow_pattern.specs.Pattern.{Replacement, expression, group_names}
use Rattle.flow_pattern.specs.Rewriting.{IsNextFilled, Tells}
use Rattle.flow_pattern.specs.Template.{parts_text}
use Rattle.flow_pattern.proofs.Groups.{found_there}
use Rattle.flow_pattern.proofs.Spelling.{spelled_text}
use Rattle.flow_pattern.proofs.filler.Filler.next.Goals as goal

pub returns-clause-filled : goal.returns-clause-filled
returns-clause-filled c =
    let text = c.args.text.now in
    let pattern = c.self.inside.locator in
    let re = expression pattern in
    let s : ℕ × ℕ = (c.in-Some.from, c.in-Some.end) in
    let found : Some s ≡ option_map span (next_match false re text c.args.after) = sym c.in-Some.is ∙ c.in_ok-from.ensures.found in
    let v = value_of_option_map span (next_match false re text c.args.after) s (sym found) in
    let begins : v.0.start ≡ s.0 = ap (λ (x : ℕ × ℕ). x.0) v.2 in
    let ends : v.0.trace.end ≡ s.1 = ap (λ (x : ℕ × ℕ). x.1) v.2 in
    let there = subst (λ (p : List ℕ). find (expression p) text s.0 ≡ Some v.0) (sym c.in_ok-from.ensures.same) (subst (λ n. find re text n ≡ Some v.0) begins (found_there re text c.args.after v.0 v.1)) in
    let told = c.told.ensures c.args.most _ (c.in_ok-fill.ensures.filled v.0 there v.2 c.args.most [] c.new-written.ensures) in
    let whole = ap (parts_text (group_bytes text v.0)) c.as_slice-parts.ensures.value ∙ spelled_text (group_names pattern) (group_bytes text v.0) c.self.inside.with.items c.self.inside.parts.items c.self.invariant in
    subst (λ (r : Replacement). IsNextFilled r text c.args.after c.args.most (Some (c.told.result, c.in-Some.end))) c.self.view_is
    (v.0, v.1, (subst (λ (x : List ℕ). Tells c.args.most x c.told.result) whole told, sym ends))
