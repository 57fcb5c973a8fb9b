use Rattle.std.proofs.Common.{◌≡◌, ℕ, ◌-◌, ◌≤◌, false, List, length, IfSome, option_map, sym, ap, ◌∙◌, arith}
use Rattle.regex.specs.Patterns.{find, span}
use Rattle.regex.specs.Search.{next_match, LiesWithin}
use Rattle.regex.proofs.ReplaceLemmas.{IfOk-weaker}
use Rattle.flow_pattern.specs.Pattern.{expression}
use Rattle.flow_pattern.proofs.Locating.{found_lies, next_none, next_here, next_beyond, none_beyond, beyond_lies}
use Rattle.flow_pattern.proofs.locator.Locator.next.Goals as goal

pub returns-in_default-clause-found : goal.returns-in_default-clause-found
returns-in_default-clause-found c =
    let re = expression c.args.self.now in
    let text = c.args.text.now in
    let after = c.args.after in
    let back : c.saturating_sub.result ≡ after - 1 = omega (arith, c.saturating_sub.ensures) in
    let found = c.in_ok-from.ensures.found ∙ ap (λ n. option_map span (find re text n)) back in
    next_none re text after (sym c.in_default.is ∙ found)

pub returns-then-end-after-clause-found : goal.returns-then-end-after-clause-found
returns-then-end-after-clause-found c =
    let re = expression c.args.self.now in
    let text = c.args.text.now in
    let after = c.args.after in
    let back : c.saturating_sub.result ≡ after - 1 = omega (arith, c.saturating_sub.ensures) in
    let found = c.in_ok-from.ensures.found ∙ ap (λ n. option_map span (find re text n)) back in
    next_here re text after (c.in-Some.from, c.in-Some.end) (sym c.in-Some.is ∙ found) c.if-end-after.true

pub returns-then-end-after-clause-lies : goal.returns-then-end-after-clause-lies
returns-then-end-after-clause-lies c =
    let re = expression c.args.self.now in
    let text = c.args.text.now in
    let after = c.args.after in
    let back : c.saturating_sub.result ≡ after - 1 = omega (arith, c.saturating_sub.ensures) in
    let found = c.in_ok-from.ensures.found ∙ ap (λ n. option_map span (find re text n)) back in
    (found_lies re text (after - 1) (c.in-Some.from, c.in-Some.end) (sym c.in-Some.is ∙ found), c.if-end-after.true)

pub returns-then-after-text-clause-found : goal.returns-then-after-text-clause-found
returns-then-after-text-clause-found c =
    let re = expression c.args.self.now in
    let text = c.args.text.now in
    let after = c.args.after in
    let back : c.saturating_sub.result ≡ after - 1 = omega (arith, c.saturating_sub.ensures) in
    let found = c.in_ok-from.ensures.found ∙ ap (λ n. option_map span (find re text n)) back in
    none_beyond re text after (omega (arith, c.if-after-text.true))
    ∙ next_beyond re text after (c.in-Some.from, c.in-Some.end) (sym c.in-Some.is ∙ found) (omega (arith, c.if-end-after.false))

pub returns-clause-found : goal.returns-clause-found
returns-clause-found c =
    let re = expression c.args.self.now in
    let text = c.args.text.now in
    let after = c.args.after in
    let back : c.saturating_sub.result ≡ after - 1 = omega (arith, c.saturating_sub.ensures) in
    let found = c.in_ok-from.ensures.found ∙ ap (λ n. option_map span (find re text n)) back in
    let beyond = next_beyond re text after (c.in-Some.from, c.in-Some.end) (sym c.in-Some.is ∙ found) (omega (arith, c.if-end-after.false)) in
    IfOk-weaker _ (λ o. o ≡ option_map span (next_match false re text after))
    (λ o e. e ∙ ap (λ (l : List ℕ). option_map span (find (expression l) text after)) c.in_ok-from.ensures.same ∙ beyond) c.find-2.result c.find-2.ensures.found

pub returns-clause-lies : goal.returns-clause-lies
returns-clause-lies c =
    let text = c.args.text.now in
    let after = c.args.after in
    IfOk-weaker _ (λ o. IfSome o (λ s. LiesWithin (after - 1) (length text) s × (after ≤ s.1)))
    (λ o e. beyond_lies (expression c.find.new.self) text after o e) c.find-2.result c.find-2.ensures.found
