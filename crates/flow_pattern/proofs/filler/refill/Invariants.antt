use Rattle.std.proofs.Common.{◌≡◌, ℕ, ◌+◌, ◌-◌, ◌<◌, ◌≤◌, true, List, ◌++◌, length}
use Rattle.regex.specs.Patterns.{find_all}
use Rattle.regex.specs.Replace.{group_bytes, replaced_by}
use Rattle.flow_pattern.specs.Pattern.{expression, matches}
use Rattle.flow_pattern.specs.Rewriting.{IsNewText}
use Rattle.flow_pattern.specs.Template.{parts_text}
use Rattle.flow_pattern.proofs.Replacing.{left}
use Rattle.flow_pattern.proofs.filler.refill.Given as goal

abbrev pub invariant-matches : goal.invariant-matches
invariant-matches l =
    (l.after ≤ length l.text + 1)
    × (l.locator ≡ l.fn.locator)
    × ((whole : List ℕ) × IsNewText l.most whole l.written
    × (whole ++ left (expression l.fn.locator) (λ m. parts_text (group_bytes l.text m) l.parts) l.text l.after ≡ replaced_by (λ m. parts_text (group_bytes l.text m) l.parts) l.text 0 (find_all (expression l.fn.locator) l.text)))
    × (0 < l.after → matches l.fn.locator l.text ≡ true)

abbrev pub decreases-matches : goal.decreases-matches
decreases-matches l =
    length l.text + 1 - l.after
