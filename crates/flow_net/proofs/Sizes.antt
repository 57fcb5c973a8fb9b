-- Laws of the number of elements of a port.
use Rattle.std.proofs.Common.{◌≡◌, ℕ, ◌+◌, ◌<◌, List, [], ◌∷◌, ◌++◌, Bool, true, false, refl, ap, ◌∙◌, get_or, length, take, arith}
use Rattle.std.specs.Prelude.{◌==◌, if◌then◌else◌}
use Rattle.std.proofs.lemmas.List.{take_more, length-take-le}
use Rattle.std.proofs.lemmas.Bool.Decides.{nat_tests}
use Rattle.flow_net.specs.declared.draft.Binding.{Binding}
use Rattle.flow_net.specs.Drafts.{is_free}
use Rattle.flow_net.specs.Finishes.{size_of}

size_of-push : (xs : List Binding) (b : Binding) → size_of (xs ++ b ∷ []) ≡ (if is_free b then size_of xs else length xs + 1)
size_of-push [] b = by (is_free b)
  where
    by : (free : Bool) → (if 0 == 0 then (if free then 0 else 1) else 0 + 1) ≡ (if free then 0 else 0 + 1)
    by true = refl
    by false = refl
size_of-push (x ∷ xs) b = by (is_free b) (size_of (xs ++ b ∷ [])) (size_of-push xs b)
  where
    by : (free : Bool) (n : ℕ) → n ≡ (if free then size_of xs else length xs + 1) → (if n == 0 then (if is_free x then 0 else 1) else n + 1) ≡ (if free then size_of (x ∷ xs) else length (x ∷ xs) + 1)
    by true n is = ap (λ m. if m == 0 then (if is_free x then 0 else 1) else m + 1) is
    by false n is = grind (arith, nat_tests, is)

-- the size of one element more
pub size_of-more : (xs : List Binding) (i : ℕ) (d : Binding) → i < length xs → size_of (take (i + 1) xs) ≡ (if is_free (get_or xs i d) then size_of (take i xs) else i + 1)
size_of-more xs i d within =
    ap size_of (take_more xs i d within) ∙ size_of-push (take i xs) (get_or xs i d) ∙ ap (λ n. if is_free (get_or xs i d) then size_of (take i xs) else n + 1) (length-take-le i xs (omega arith))
