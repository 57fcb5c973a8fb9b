-- Lists whose elements pass a test, and names that differ.
use Rattle.std.proofs.Common.{◌≡◌, ℕ, zero, suc, ◌<◌, Bool, true, false, List, [], ◌∷◌, ◌++◌, length, Some, refl, sym, ap, ◌∙◌, arith, slice_get}
use Rattle.std.specs.Prelude.{◌&&◌, ◌||◌, not}
use Rattle.std.specs.List.{list_all, list_any}
use Rattle.std.specs.Option.{option_map}
use Rattle.std.specs.Str.{bytes_eq}
use Rattle.std.proofs.lemmas.Bool.{false≢true}
use Rattle.std.proofs.lemmas.List.Folds.{list_any-append}
use Rattle.std.proofs.lemmas.Option.{slice_get-map}
use Rattle.std.proofs.lemmas.Slice.Eq.{bytes_eq-Decides}
use Rattle.flow_net.proofs.Ends.{and_true}
use Rattle.flow_net.specs.Kinds.{all_differ}
use Rattle.flow_plan.specs.declared.kind.KindSpec.{KindSpec}
use Rattle.flow_offer.specs.Kinds.{is_among, kind_names}

-- Both hold.
pub both : (a b : Bool) → a ≡ true → b ≡ true → (a && b) ≡ true
both true b x y = y
both false b x y = absurd (false≢true x)

-- Neither of two holds where not one of them does.
pub neither : (a b : Bool) → not (a || b) ≡ true → (a ≡ false) × (not b ≡ true)
neither false b none = (refl, none)
neither true b none = absurd (false≢true none)

-- each element passes
pub passes-at : {X : Type 0} (p : X → Bool) (xs : List X) → list_all p xs ≡ true → (i : ℕ) (x : X) → slice_get xs i ≡ Some x → p x ≡ true
passes-at p [] all i x is = absurd cc
passes-at p (y ∷ xs) all zero x is = let same : y ≡ x = cc in ap p (sym same) ∙ (and_true (p y) (list_all p xs) all).0
passes-at p (y ∷ xs) all (suc i) x is = passes-at p xs (and_true (p y) (list_all p xs) all).1 i x is

-- where this one passes, some element does
pub any-at : {X : Type 0} (p : X → Bool) (xs : List X) (i : ℕ) (x : X) → slice_get xs i ≡ Some x → p x ≡ true → list_any p xs ≡ true
any-at p [] i x is passes = absurd cc
any-at p (y ∷ xs) zero x is passes = let same : y ≡ x = cc in ap (λ b. b || list_any p xs) (ap p same ∙ passes)
any-at p (y ∷ xs) (suc i) x is passes = or-true (p y) (list_any p xs) (any-at p xs i x is passes)
  where
    or-true : (a b : Bool) → b ≡ true → (a || b) ≡ true
    or-true true b is = refl
    or-true false b is = is

-- what passes one test passes another that asks for less
pub all-weaker : {X : Type 0} (p q : X → Bool) → ((x : X) → p x ≡ true → q x ≡ true) → (xs : List X) → list_all p xs ≡ true → list_all q xs ≡ true
all-weaker p q weaker [] all = refl
all-weaker p q weaker (x ∷ xs) all =
    let a = and_true (p x) (list_all p xs) all in
    both (q x) (list_all q xs) (weaker x a.0) (all-weaker p q weaker xs a.1)

-- a name that is none of these stands at none of their places
pub not-there : (names : List (List ℕ)) (name : List ℕ) (i : ℕ) → not (list_any (bytes_eq name) names) ≡ true → slice_get names i ≡ Some name → ⊥
not-there names name i none is =
    let there = any-at (bytes_eq name) names i name is ((bytes_eq-Decides name name).1 refl) in
    false≢true (ap not (sym there) ∙ none)

-- kinds whose names differ stand at one place each
pub one-place : (own : List KindSpec) (i j : ℕ) (k l : KindSpec) → all_differ (kind_names own) ≡ true → slice_get own i ≡ Some k → slice_get own j ≡ Some l → k.name ≡ l.name → i ≡ j
one-place [] i j k l differ at there same = absurd cc
one-place (first ∷ own) zero zero k l differ at there same = refl
one-place (first ∷ own) zero (suc j) k l differ at there same =
    let is : first ≡ k = cc in
    let named : first.name ≡ l.name = ap (λ (kind : KindSpec). kind.name) is ∙ same in
    absurd (not-there (kind_names own) first.name j (and_true (not (list_any (bytes_eq first.name) (kind_names own))) (all_differ (kind_names own)) differ).0
    (slice_get-map (λ (kind : KindSpec). kind.name) own j ∙ ap (option_map (λ (kind : KindSpec). kind.name)) there ∙ ap (λ (n : List ℕ). Some n) (sym named)))
one-place (first ∷ own) (suc i) zero k l differ at there same =
    let is : first ≡ l = cc in
    let named : first.name ≡ k.name = ap (λ (kind : KindSpec). kind.name) is ∙ sym same in
    absurd (not-there (kind_names own) first.name i (and_true (not (list_any (bytes_eq first.name) (kind_names own))) (all_differ (kind_names own)) differ).0
    (slice_get-map (λ (kind : KindSpec). kind.name) own i ∙ ap (option_map (λ (kind : KindSpec). kind.name)) at ∙ ap (λ (n : List ℕ). Some n) (sym named)))
one-place (first ∷ own) (suc i) (suc j) k l differ at there same =
    ap (λ (n : ℕ). suc n) (one-place own i j k l (and_true (not (list_any (bytes_eq first.name) (kind_names own))) (all_differ (kind_names own)) differ).1 at there same)

-- names that differ still do behind others that differ, where none of those is among them
pub differ-append : (xs ys : List (List ℕ)) → all_differ xs ≡ true → all_differ ys ≡ true → not (list_any (is_among ys) xs) ≡ true → all_differ (xs ++ ys) ≡ true
differ-append [] ys before behind none = behind
differ-append (x ∷ xs) ys before behind none =
    let first = and_true (not (list_any (bytes_eq x) xs)) (all_differ xs) before in
    let apart = neither (is_among ys x) (list_any (is_among ys) xs) none in
    both (not (list_any (bytes_eq x) (xs ++ ys))) (all_differ (xs ++ ys))
    (ap not (list_any-append (bytes_eq x) xs ys) ∙ still (list_any (bytes_eq x) xs) (list_any (bytes_eq x) ys) first.0 apart.0)
    (differ-append xs ys first.1 behind apart.1)
  where
    still : (a b : Bool) → not a ≡ true → b ≡ false → not (a || b) ≡ true
    still false b none is = ap not is
    still true b none is = absurd (false≢true none)

-- within a list there is an element
pub there-is : {X : Type 0} (xs : List X) (i : ℕ) → i < length xs → (x : X) × (slice_get xs i ≡ Some x)
there-is [] i within = absurd (omega arith)
there-is (x ∷ xs) zero within = (x, refl)
there-is (x ∷ xs) (suc i) within = there-is xs i (omega arith)
