-- A text with the matches of a pattern replaced, as long as it may be, and what is told of a longer one.
use Rattle.std.specs.Prelude.{◌≡◌, ℕ, ◌<◌, ◌≤◌, true, false, List, length, Option}
use Rattle.regex.specs.Patterns.{Match, find_all}
use Rattle.regex.specs.Replace.{replaced_by}
use Rattle.regex.specs.Search.{Answers, next_match}
use Rattle.flow_pattern.specs.Pattern.{Replacement, expression, matches}
use Rattle.flow_pattern.specs.Template.{filled}
use Rattle.flow_pattern.specs.declared.replacer.NewText.{NewText}
use Rattle.flow_pattern.specs.declared.replacer.Rewritten.{Rewritten}
use Rattle.flow_pattern.specs.declared.replacer.Rewritten.TheVariants as told

-- What is kept of a text that is written so far: how many bytes it has, and the bytes themselves where they are no more than it may have. More
-- are never held.
pub record IsNewText (most : ℕ) (whole : List ℕ) (new : NewText) : Type 0 where
  pub bound : new.most ≡ most
  pub counted : new.count ≡ length whole
  pub kept : new.count ≤ most → new.kept.items ≡ whole
  pub held : length new.kept.items ≤ most

-- A new text is told as it is, where it has no more bytes than it may; and by its length alone where it has more.
abbrev pub Tells : ℕ → List ℕ → Rewritten → Type 0
Tells most whole told.Same = ⊥
Tells most whole (told.New new) = (new.items ≡ whole) × (length whole ≤ most)
Tells most whole (told.TooLong count) = (count ≡ length whole) × (most < count)

-- What comes of a text in which the pattern's matches are replaced by what is written for each: where nothing matches in it, that alone; else the new
-- text is told.
abbrev pub IsWrittenAnew : List ℕ → (Match → List ℕ) → List ℕ → ℕ → Rewritten → Type 0
IsWrittenAnew pattern written text most told.Same = matches pattern text ≡ false
IsWrittenAnew pattern written text most (told.New new) = (matches pattern text ≡ true) × Tells most (replaced_by written text 0 (find_all (expression pattern) text)) (told.New new)
IsWrittenAnew pattern written text most (told.TooLong count) = (matches pattern text ≡ true) × Tells most (replaced_by written text 0 (find_all (expression pattern) text)) (told.TooLong count)

-- By bytes that take the place of each match as they are.
abbrev pub IsRewritten : Replacement → List ℕ → ℕ → Rewritten → Type 0
IsRewritten by text most told = IsWrittenAnew by.pattern (λ match. by.with) text most told

-- By what a template writes at each.
abbrev pub IsRefilled : Replacement → List ℕ → ℕ → Rewritten → Type 0
IsRefilled by text most told = IsWrittenAnew by.pattern (filled by text) text most told

-- What is told of the match that comes next behind one that ended at `after - 1`, or of the first where `after` is 0: what the template writes there,
-- and where it ends.
abbrev pub IsNextFilled : Replacement → List ℕ → ℕ → ℕ → Option (Rewritten × ℕ) → Type 0
IsNextFilled by text after most next = Answers next (next_match false (expression by.pattern) text after) (λ match told. Tells most (filled by text match) told.0 × (told.1 ≡ match.trace.end))
