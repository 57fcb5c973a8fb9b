-- Two sorted lists of texts, merged.
use Rattle.std.proofs.Common.{◌≡◌, ℕ, Bool, true, false, List, [], ◌∷◌, ◌++◌, filter, refl, sym, ap, ◌∙◌, cond, if◌then◌else◌}
use Rattle.std.specs.Ordering.{nat_cmp, is_lt}
use Rattle.std.specs.Cmp.Lexicographic.{slice_cmp}
use Rattle.std.specs.declared.cmp.Ordering.TheVariants.{Less}
use Rattle.std.specs.List.{AllByRecursion}
use Rattle.std.specs.Str.{bytes_eq}
use Rattle.flow_batch.specs.Records.{key_in}
use Rattle.flow_batch.specs.Ledger.{is_greater, IsSorted, has_key}
use Rattle.flow_batch.proofs.Keys.{equal-bytes, not-less, tested-less, less-up, less-then_up, less-other, up, turned-bytes}

-- Of two texts that come next the first list's goes first, unless the second's has a lesser key.
abbrev pub texts_before : ℕ → List ℕ → (List (List ℕ) → List (List ℕ)) → List (List ℕ) → List (List ℕ)
texts_before keylen x rest [] = x ∷ rest []
texts_before keylen x rest (y ∷ ys) = if is_lt (slice_cmp nat_cmp (key_in keylen y) (key_in keylen x)) then y ∷ texts_before keylen x rest ys else x ∷ rest (y ∷ ys)

-- Two lists as one; of equal keys those of the first list come first.
abbrev pub merged_texts : ℕ → List (List ℕ) → List (List ℕ) → List (List ℕ)
merged_texts keylen [] ys = ys
merged_texts keylen (x ∷ xs) ys = texts_before keylen x (merged_texts keylen xs) ys

-- what holds of all of both holds of all of their merge
all-before : (keylen : ℕ) (P : List ℕ → Type 0) (x : List ℕ) (rest : List (List ℕ) → List (List ℕ)) (ys : List (List ℕ)) → P x → ((zs : List (List ℕ)) → AllByRecursion P zs → AllByRecursion P (rest zs)) → AllByRecursion P ys → AllByRecursion P (texts_before keylen x rest ys)
all-before keylen P x rest [] px pr py = (px, pr [] tt)
all-before keylen P x rest (y ∷ ys) px pr py =
    elim (is_lt (slice_cmp nat_cmp (key_in keylen y) (key_in keylen x))) as (λ b. AllByRecursion P (if b then y ∷ texts_before keylen x rest ys else x ∷ rest (y ∷ ys))) [
      | true ↦ (py.0, all-before keylen P x rest ys px pr py.1)
      | false ↦ (px, pr (y ∷ ys) py)
    ]

pub all-merged : (keylen : ℕ) (P : List ℕ → Type 0) (xs ys : List (List ℕ)) → AllByRecursion P xs → AllByRecursion P ys → AllByRecursion P (merged_texts keylen xs ys)
all-merged keylen P [] ys px py = py
all-merged keylen P (x ∷ xs) ys px py = all-before keylen P x (merged_texts keylen xs) ys px.0 (λ zs pz. all-merged keylen P xs zs px.1 pz) py

-- what follows from one thing for each follows for all
pub all-then : {X : Type 0} (P Q : X → Type 0) → ((x : X) → P x → Q x) → (xs : List X) → AllByRecursion P xs → AllByRecursion Q xs
all-then P Q f [] all = tt
all-then P Q f (x ∷ xs) all = (f x all.0, all-then P Q f xs all.1)

abbrev Above : ℕ → List ℕ → List ℕ → Type 0
Above keylen x t = is_greater (key_in keylen x) (key_in keylen t) ≡ false

sorted-before : (keylen : ℕ) (x : List ℕ) (rest : List (List ℕ) → List (List ℕ)) (ys : List (List ℕ)) → ((zs : List (List ℕ)) → IsSorted keylen zs → IsSorted keylen (rest zs))
    → ((P : List ℕ → Type 0) (zs : List (List ℕ)) → ((t : List ℕ) → Above keylen x t → P t) → AllByRecursion P zs → AllByRecursion P (rest zs)) → IsSorted keylen ys → IsSorted keylen (texts_before keylen x rest ys)
sorted-before keylen x rest [] sorts alls s = (alls (Above keylen x) [] (λ t a. a) tt, sorts [] tt)
sorted-before keylen x rest (y ∷ ys) sorts alls s = by (is_lt (slice_cmp nat_cmp (key_in keylen y) (key_in keylen x))) refl (sorted-before keylen x rest ys sorts alls s.1)
  where
    kx : List ℕ
    kx = key_in keylen x

    by : (b : Bool) → is_lt (slice_cmp nat_cmp (key_in keylen y) (key_in keylen x)) ≡ b → IsSorted keylen (texts_before keylen x rest ys) → IsSorted keylen (if b then y ∷ texts_before keylen x rest ys else x ∷ rest (y ∷ ys))
    by true is r =
        let less = tested-less (key_in keylen y) (key_in keylen x) is in
        let above = less-up (key_in keylen y) (key_in keylen x) less in
        (all-before keylen (Above keylen y) x rest ys above (λ zs a. alls (Above keylen y) zs (λ t b. up (key_in keylen y) (key_in keylen x) (key_in keylen t) above b) a) s.0, r)
    by false is r =
        let above = not-less (key_in keylen y) (key_in keylen x) is in
        (alls (Above keylen x) (y ∷ ys) (λ t a. a) (above, all-then (Above keylen y) (Above keylen x) (λ t a. up (key_in keylen x) (key_in keylen y) (key_in keylen t) above a) ys s.0), sorts (y ∷ ys) s)

-- The merge of two sorted lists is sorted.
pub sorted-merged : (keylen : ℕ) (xs ys : List (List ℕ)) → IsSorted keylen xs → IsSorted keylen ys → IsSorted keylen (merged_texts keylen xs ys)
sorted-merged keylen [] ys sx sy = sy
sorted-merged keylen (x ∷ xs) ys sx sy =
    sorted-before keylen x (merged_texts keylen xs) ys (λ zs sz. sorted-merged keylen xs zs sx.1 sz) (λ P zs f a. all-merged keylen P xs zs (all-then (Above keylen x) P f xs sx.0) a) sy

-- nothing has the key where all keys are greater
pub none-above : (keylen : ℕ) (q : List ℕ) (xs : List (List ℕ)) → AllByRecursion (λ t. bytes_eq (key_in keylen t) q ≡ false) xs → filter (has_key keylen q) xs ≡ []
none-above keylen q [] all = refl
none-above keylen q (x ∷ xs) all = let f : has_key keylen q x ≡ false = all.0 in rw f (none-above keylen q xs all.1)

class-before : (keylen : ℕ) (q x : List ℕ) (rest : List (List ℕ) → List (List ℕ)) (cs : List (List ℕ)) → ((zs : List (List ℕ)) → filter (has_key keylen q) (x ∷ rest zs) ≡ cs ++ filter (has_key keylen q) zs)
    → ((t : List ℕ) → slice_cmp nat_cmp (key_in keylen t) (key_in keylen x) ≡ Less → has_key keylen q t ≡ true → cs ≡ []) → (ys : List (List ℕ))
    → filter (has_key keylen q) (texts_before keylen x rest ys) ≡ cs ++ filter (has_key keylen q) ys
class-before keylen q x rest cs starts none [] = starts []
class-before keylen q x rest cs starts none (y ∷ ys) = by (is_lt (slice_cmp nat_cmp (key_in keylen y) (key_in keylen x))) refl (class-before keylen q x rest cs starts none ys)
  where
    there : (b : Bool) → has_key keylen q y ≡ b → slice_cmp nat_cmp (key_in keylen y) (key_in keylen x) ≡ Less
        → cond b (y ∷ (cs ++ filter (has_key keylen q) ys)) (cs ++ filter (has_key keylen q) ys) ≡ cs ++ cond b (y ∷ filter (has_key keylen q) ys) (filter (has_key keylen q) ys)
    there true is less = let n : cs ≡ [] = none y less is in rw n refl
    there false is less = refl

    by : (b : Bool) → is_lt (slice_cmp nat_cmp (key_in keylen y) (key_in keylen x)) ≡ b → filter (has_key keylen q) (texts_before keylen x rest ys) ≡ cs ++ filter (has_key keylen q) ys
        → filter (has_key keylen q) (if b then y ∷ texts_before keylen x rest ys else x ∷ rest (y ∷ ys)) ≡ cs ++ filter (has_key keylen q) (y ∷ ys)
    by true is r = ap (λ (zs : List (List ℕ)). cond (has_key keylen q y) (y ∷ zs) zs) r ∙ there (has_key keylen q y) refl (tested-less (key_in keylen y) (key_in keylen x) is)
    by false is r = starts (y ∷ ys)

-- In a merge whose first list is sorted those that have a key are those of the first list, and then those of the second.
pub class-merged : (keylen : ℕ) (q : List ℕ) (xs ys : List (List ℕ)) → IsSorted keylen xs → filter (has_key keylen q) (merged_texts keylen xs ys) ≡ filter (has_key keylen q) xs ++ filter (has_key keylen q) ys
class-merged keylen q [] ys sx = refl
class-merged keylen q (x ∷ xs) ys sx =
    class-before keylen q x (merged_texts keylen xs) (filter (has_key keylen q) (x ∷ xs)) (λ zs. first (has_key keylen q x) zs (class-merged keylen q xs zs sx.1)) none ys
  where
    first : (b : Bool) (zs : List (List ℕ)) → filter (has_key keylen q) (merged_texts keylen xs zs) ≡ filter (has_key keylen q) xs ++ filter (has_key keylen q) zs
        → cond b (x ∷ filter (has_key keylen q) (merged_texts keylen xs zs)) (filter (has_key keylen q) (merged_texts keylen xs zs)) ≡ cond b (x ∷ filter (has_key keylen q) xs) (filter (has_key keylen q) xs) ++ filter (has_key keylen q) zs
    first true zs r = ap (λ (ws : List (List ℕ)). x ∷ ws) r
    first false zs r = r

    -- a text with a lesser key than x has another key than x and all behind it
    apart : (t u : List ℕ) → slice_cmp nat_cmp (key_in keylen t) (key_in keylen u) ≡ Less → has_key keylen q t ≡ true → bytes_eq (key_in keylen u) q ≡ false
    apart t u less is = turned-bytes q (key_in keylen u) (ap (λ (k : List ℕ). bytes_eq k (key_in keylen u)) (sym (equal-bytes (key_in keylen t) q is)) ∙ less-other (key_in keylen t) (key_in keylen u) less)

    none : (t : List ℕ) → slice_cmp nat_cmp (key_in keylen t) (key_in keylen x) ≡ Less → has_key keylen q t ≡ true → filter (has_key keylen q) (x ∷ xs) ≡ []
    none t less is =
        none-above keylen q (x ∷ xs)
        (apart t x less is, all-then (Above keylen x) (λ u. bytes_eq (key_in keylen u) q ≡ false) (λ u a. apart t u (less-then_up (key_in keylen t) (key_in keylen x) (key_in keylen u) less a) is) xs sx.0)
