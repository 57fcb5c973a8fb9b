use Rattle.std.proofs.Common.{◌≡◌, ℕ, ◌+◌, ◌-◌, ◌<◌, ◌≤◌, true, List, ◌++◌, length}
use Rattle.flow_pattern.specs.Pattern.{expression, matches, replaced}
use Rattle.flow_pattern.specs.Rewriting.{IsNewText}
use Rattle.flow_pattern.proofs.Replacing.{left}
use Rattle.flow_pattern.proofs.replacer.rewrite.Given as goal

abbrev pub invariant-matches : goal.invariant-matches
invariant-matches l =
    (l.after ≤ length l.text + 1)
    × (l.locator ≡ l.fn.locator)
    × ((whole : List ℕ) × IsNewText l.most whole l.written × (whole ++ left (expression l.fn.locator) (λ _. l.with) l.text l.after ≡ replaced l.fn.locator l.with l.text))
    × (0 < l.after → matches l.fn.locator l.text ≡ true)

abbrev pub decreases-matches : goal.decreases-matches
decreases-matches l =
    length l.text + 1 - l.after
