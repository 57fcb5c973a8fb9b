-- A text that is written piece by piece, of which no more is kept than it may have.
use Rattle.std.proofs.Common.{◌≡◌, ℕ, ◌+◌, ◌<◌, ◌≤◌, true, List, ◌++◌, length, Result, Ok, Err, OnOk, sym, ap, ◌∙◌, arith}
use Rattle.std.proofs.lemmas.List.{length-append}
use Rattle.regex.specs.Patterns.{Match, find_all}
use Rattle.regex.specs.Replace.{replaced_by}
use Rattle.flow_pattern.specs.Pattern.{expression, matches}
use Rattle.flow_pattern.specs.Rewriting.{IsNewText, IsWrittenAnew, Tells}
use Rattle.flow_pattern.specs.declared.replacer.NewText.{NewText}
use Rattle.flow_pattern.specs.declared.replacer.Rewritten.{Rewritten}
use Rattle.flow_pattern.specs.declared.replacer.Rewritten.TheVariants as told

module _ (most : ℕ) (whole piece : List ℕ) (old new : NewText) (before : IsNewText most whole old) (same : new.most ≡ old.most) (counted : new.count ≡ old.count + length piece) where
  total : new.count ≡ length (whole ++ piece)
  total = counted ∙ ap (λ n. n + length piece) before.counted ∙ sym (length-append whole piece)

  -- A piece that is added to what is kept.
  pub added : new.count ≤ most → new.kept.items ≡ old.kept.items ++ piece → IsNewText most (whole ++ piece) new
  added short items =
      let kept = items ∙ ap (λ x. x ++ piece) (before.kept (omega (arith, counted, short))) in
      record { bound = same ∙ before.bound; counted = total; kept = λ few. kept; held = omega (arith, ap length kept, total, short) }

  -- One that is counted alone.
  pub passed : most < new.count → new.kept.items ≡ old.kept.items → IsNewText most (whole ++ piece) new
  passed long items =
      record { bound = same ∙ before.bound; counted = total; kept = λ few. absurd (omega (arith, few, long)); held = omega (arith, ap length items, before.held) }

-- What is told of the text in which something is written for each match.
pub rewritten_told : (pattern : List ℕ) (written : Match → List ℕ) (text : List ℕ) (most : ℕ) (r : Rewritten) → matches pattern text ≡ true
    → Tells most (replaced_by written text 0 (find_all (expression pattern) text)) r → IsWrittenAnew pattern written text most r
rewritten_told pattern written text most told.Same found tells = absurd tells
rewritten_told pattern written text most (told.New new) found tells = (found, tells)
rewritten_told pattern written text most (told.TooLong count) found tells = (found, tells)

-- What holds where a call gave something, from what holds then.
pub on_ok : {A E : Type 0} (P Q : Type 0) → (P → Q) → (r : Result A E) → OnOk r P → OnOk r Q
on_ok P Q f (Ok x) h = f h
on_ok P Q f (Err e) h = tt
