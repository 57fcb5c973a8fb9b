-- A list that is looked through for one that passes.
use Rattle.std.proofs.Common.{◌≡◌, ℕ, ◌+◌, ◌<◌, ◌≤◌, Bool, true, false, List, length, get_or, drop, sym, ◌∙◌, ap}
use Rattle.std.specs.Prelude.{◌||◌}
use Rattle.std.specs.List.{list_any}
use Rattle.std.proofs.lemmas.List.{drop_more, drop_all}

-- One that doesn't pass says nothing of all.
pub any-past : {X : Type 0} (p : X → Bool) (xs : List X) (i : ℕ) (d : X) (whole : Bool) → i < length xs → p (get_or xs i d) ≡ false
    → list_any p (drop i xs) ≡ whole → list_any p (drop (i + 1) xs) ≡ whole
any-past p xs i d whole below fails so_far =
    ap (λ (b : Bool). b || list_any p (drop (i + 1) xs)) (sym fails) ∙ ap (list_any p) (sym (drop_more xs i d below)) ∙ so_far

-- One that passes is found.
pub any-here : {X : Type 0} (p : X → Bool) (xs : List X) (i : ℕ) (d : X) (whole : Bool) → i < length xs → p (get_or xs i d) ≡ true
    → list_any p (drop i xs) ≡ whole → true ≡ whole
any-here p xs i d whole below passes so_far =
    ap (λ (b : Bool). b || list_any p (drop (i + 1) xs)) (sym passes) ∙ ap (list_any p) (sym (drop_more xs i d below)) ∙ so_far

-- None is left.
pub any-none : {X : Type 0} (p : X → Bool) (xs : List X) (i : ℕ) (whole : Bool) → length xs ≤ i → list_any p (drop i xs) ≡ whole → false ≡ whole
any-none p xs i whole past so_far = ap (list_any p) (sym (drop_all i xs past)) ∙ so_far
