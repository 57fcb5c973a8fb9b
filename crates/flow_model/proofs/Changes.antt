-- What the change of one connection leaves: every list of connections, as the machine or as a program keeps it, changes at one place at most.
use Rattle.std.proofs.Common.{◌≡◌, ◌≢◌, ℕ, List, length, Option, Some, None, refl, sym, ap, ◌∙◌, slice_get, slice_set, length-set, ◌⊎◌, inl, inr}
use Rattle.flow_model.specs.States.{change_at, changed}
use Rattle.flow_model.specs.Turns.{Change, ChangeAt, change_one}
use Rattle.flow_model.proofs.Lists.{slice_get-set_same, slice_get-set_other, same_or_not, change_at-some}

module _ {A : Type 0} (f : Change → A → A) (xs : List A) where
  -- It keeps its length.
  pub length-one : (change : Option ChangeAt) → length (change_one f change xs) ≡ length xs
  length-one None = refl
  length-one (Some at) = by (slice_get xs at.connection)
    where
      by : (found : Option A) → length (changed xs at.connection (f at.change) found) ≡ length xs
      by (Some x) = length-set xs at.connection (f at.change x)
      by None = refl

  -- What is at a place was there before, or is what the change made of it.
  abbrev pub CameFrom : Option ChangeAt → ℕ → A → A → Type 0
  CameFrom change c x y = (y ≡ x) ⊎ ((at : ChangeAt) × (change ≡ Some at) × (at.connection ≡ c) × (y ≡ f at.change x))

  pub get-one : (change : Option ChangeAt) (c : ℕ) (y : A) → slice_get (change_one f change xs) c ≡ Some y → (x : A) × (slice_get xs c ≡ Some x) × CameFrom change c x y
  get-one None c y is = (y, is, inl refl)
  get-one (Some at) c y is = by (slice_get xs at.connection) refl is
    where
      by : (found : Option A) → slice_get xs at.connection ≡ found → slice_get (changed xs at.connection (f at.change) found) c ≡ Some y → (x : A) × (slice_get xs c ≡ Some x) × CameFrom (Some at) c x y
      by None there is = (y, is, inl refl)
      by (Some x) there is = elim (same_or_not c at.connection) [
        | inl same ↦ (let h : Some (f at.change x) ≡ Some y = sym (ap (slice_get (slice_set xs at.connection (f at.change x))) same ∙ slice_get-set_same xs at.connection x (f at.change x) there) ∙ is in
            let now : f at.change x ≡ y = cc in (x, ap (slice_get xs) same ∙ there, inr (at, refl, sym same, sym now)))
        | inr other ↦ (y, sym (slice_get-set_other xs at.connection c (f at.change x) other) ∙ is, inl refl)
      ]

  -- What was at a place is there still, or is what the change made of it.
  pub goes-one : (change : Option ChangeAt) (c : ℕ) (x : A) → slice_get xs c ≡ Some x → (y : A) × (slice_get (change_one f change xs) c ≡ Some y) × CameFrom change c x y
  goes-one None c x is = (x, is, inl refl)
  goes-one (Some at) c x is = elim (same_or_not c at.connection) [
    | inl same ↦ (let there : slice_get xs at.connection ≡ Some x = ap (slice_get xs) (sym same) ∙ is in (
      f at.change x,
      ap (slice_get (change_at xs at.connection (f at.change))) same ∙ ap (λ (ys : List A). slice_get ys at.connection) (change_at-some xs at.connection (f at.change) x there)
          ∙ slice_get-set_same xs at.connection x (f at.change x) there,
      inr (at, refl, sym same, refl),
    ))
    | inr other ↦ (x, by (slice_get xs at.connection) other ∙ is, inl refl)
  ]
    where
      by : (found : Option A) → c ≢ at.connection → slice_get (changed xs at.connection (f at.change) found) c ≡ slice_get xs c
      by (Some z) ne = slice_get-set_other xs at.connection c (f at.change z) ne
      by None ne = refl
