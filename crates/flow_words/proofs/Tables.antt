-- A table, walked row by row.
use Rattle.std.proofs.Common.{◌≡◌, ◌+◌, ◌<◌, ◌∙◌, ◌&&◌, ℕ, Bool, true, false, List, length, drop, get_or, Some, None, Option, ap, refl}
use Rattle.std.proofs.lemmas.List.{drop_more}
use Rattle.std.specs.Prelude.{find, is_some, option_map, if◌then◌else◌}
use Rattle.std.specs.List.{list_all}

-- A row that passes says nothing of all.
pub all_more : {A : Type 0} (p : A → Bool) (xs : List A) (i : ℕ) (d : A) → i < length xs → p (get_or xs i d) ≡ true → list_all p (drop i xs) ≡ list_all p (drop (i + 1) xs)
all_more p xs i d within passes = ap (list_all p) (drop_more xs i d within) ∙ ap (λ (b : Bool). b && list_all p (drop (i + 1) xs)) passes

-- A row that fails isn't the one that is sought.
pub find_more : {A : Type 0} (p : A → Bool) (xs : List A) (i : ℕ) (d : A) → i < length xs → p (get_or xs i d) ≡ false → find p (drop i xs) ≡ find p (drop (i + 1) xs)
find_more p xs i d within fails = ap (find p) (drop_more xs i d within) ∙ ap (λ (b : Bool). if b then Some (get_or xs i d) else find p (drop (i + 1) xs)) fails

-- What is made of a value is there where the value is.
pub some_map : {A B : Type 0} (f : A → B) (o : Option A) → is_some (option_map f o) ≡ is_some o
some_map f None = refl
some_map f (Some x) = refl
