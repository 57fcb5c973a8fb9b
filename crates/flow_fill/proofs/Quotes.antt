-- Quoted texts, read from the left.
use Rattle.std.proofs.Common.{◌≡◌, ℕ, true, false, cond, eqb, List, [], ◌∷◌, ◌++◌, Option, Some, None, refl, sym, ap, ◌∙◌}
use Rattle.std.proofs.lemmas.Bool.{eqb-true}
use Rattle.std.specs.Prelude.{◌==◌, MatchOption}
use Rattle.std.specs.Borrow.{Bor}
use Rattle.flow_fill.specs.Cuts.{pairs}
use Rattle.flow_parse.specs.Spelling.{doubled, DoesntBegin}
use Rattle.flow_fill.specs.Reading.{text_from}

-- A text with each ' doubled, and a ' that none follows, is read as the text.
pub text_again : (text rest : List ℕ) → DoesntBegin (λ b. b == 39) rest → text_from false (doubled text ++ 39 ∷ rest) ≡ Some (text, rest)
text_again [] [] ends = refl
text_again [] (b ∷ bs) ends = rw ends refl
text_again (b ∷ bs) rest ends = elim (eqb b 39) as (λ v. eqb b 39 ≡ v → text_from false (cond v (39 ∷ 39 ∷ doubled bs) (b ∷ doubled bs) ++ 39 ∷ rest) ≡ Some (b ∷ bs, rest)) [
  | true ↦ λ e. rw (text_again bs rest ends) (ap (λ (q : ℕ). Some (q ∷ bs, rest)) (sym (eqb-true b 39 e)))
  | false ↦ λ e. rw (e, text_again bs rest ends) refl
] refl

-- Without a closing ' no text is read.
text_open : (text : List ℕ) → text_from false (doubled text) ≡ None
text_open [] = refl
text_open (b ∷ bs) = elim (eqb b 39) as (λ v. eqb b 39 ≡ v → text_from false (cond v (39 ∷ 39 ∷ doubled bs) (b ∷ doubled bs)) ≡ None) [
  | true ↦ λ e. rw (text_open bs) refl
  | false ↦ λ e. rw (e, text_open bs) refl
] refl

-- What was cut off as a text is the one that is read.
pub text_read : (bytes : List ℕ) (found : Option (List ℕ × Bor (List ℕ)))
    → MatchOption found ((text : List ℕ) × (bytes ≡ doubled text)) (λ q. (bytes ≡ doubled q.0 ++ 39 ∷ q.1.now) × DoesntBegin (λ b. b == 39) q.1.now) → pairs found ≡ text_from false bytes
text_read bytes None found = sym (ap (text_from false) found.1 ∙ text_open found.0)
text_read bytes (Some q) found = sym (ap (text_from false) found.0 ∙ text_again q.0 q.1.now found.1)
