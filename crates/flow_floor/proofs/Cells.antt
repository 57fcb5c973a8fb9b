-- The slots of connections: which are whose, and that no two of them are one; and what stands at a place of a list.
use Rattle.std.proofs.Common.{◌≡◌, ◌≢◌, ℕ, zero, suc, ◌+◌, ◌-◌, ◌%◌, ◌<◌, ◌≤◌, List, [], ◌∷◌, ◌++◌, length, drop, get_or, sym, refl, ap, ◌∙◌, arith, Some, None, slice_get, ◌⊎◌, inl, inr}
use Rattle.std.proofs.lemmas.Nat.{mod_below}
use mathlib.Core.Option as maybe
use Rattle.atomic_table.specs.Table.{State}
use Rattle.flow_ring.specs.Places.{puts_slot, takes_slot, cell_slot, place_slot, slot_count}
use Rattle.flow_ring.proofs.Rounds.{cells-apart, cells-within, mod-apart}
use Rattle.flow_floor.specs.declared.board.Slot.{Slot}
use Rattle.flow_floor.specs.declared.board.View.{View}

-- The state of the table.
abbrev pub St : Type 0 → Type 0
St K = State (Slot K) (View K)

-- What each slot has, where it isn't taken out.
abbrev pub Homes : Type 0 → Type 0
Homes K = List (maybe.Option (Slot K))

abbrev pub state : {K : Type 0} → List ℕ → Homes K → List (View K) → St K
state ws hs vs = record { words = ws; homes = hs; views = vs }

module _ {A : Type 0} where
  -- Nothing is behind the last.
  pub get-over : (xs : List A) (i : ℕ) → length xs ≤ i → slice_get xs i ≡ None
  get-over [] i le = refl
  get-over (x ∷ xs) zero le = absurd (omega (arith, le))
  get-over (x ∷ xs) (suc i) le = get-over xs i (omega (arith, le))

  -- What is put behind the last stands there, and all else where it stood.
  pub get-push : (xs : List A) (t : A) → slice_get (xs ++ t ∷ []) (length xs) ≡ Some t
  get-push [] t = refl
  get-push (x ∷ xs) t = get-push xs t

  pub get-push-else : (xs : List A) (t : A) (i : ℕ) → i ≢ length xs → slice_get (xs ++ t ∷ []) i ≡ slice_get xs i
  get-push-else [] t zero other = absurd (other refl)
  get-push-else [] t (suc i) other = refl
  get-push-else (x ∷ xs) t zero other = refl
  get-push-else (x ∷ xs) t (suc i) other = get-push-else xs t i (λ e. other (ap suc e))

  -- Without the first, each stands one earlier.
  pub get-drop : (xs : List A) (i : ℕ) → slice_get (drop 1 xs) i ≡ slice_get xs (suc i)
  get-drop [] i = refl
  get-drop (x ∷ xs) i = refl

  pub length-drop-one : (xs : List A) → length (drop 1 xs) ≡ length xs - 1
  length-drop-one [] = omega arith
  length-drop-one (x ∷ xs) = omega arith

  pub drop-append : (xs ys : List A) → 0 < length xs → drop 1 (xs ++ ys) ≡ drop 1 xs ++ ys
  drop-append [] ys some_one = absurd (omega (arith, some_one))
  drop-append (x ∷ xs) ys some_one = refl

  -- Where something is first, there is something.
  pub get-first : (xs : List A) (x : A) → slice_get xs 0 ≡ Some x → 0 < length xs
  get-first [] x is = absurd (cc)
  get-first (y ∷ xs) x is = omega arith

  -- What stands behind a first part stands in the rest.
  pub get-behind : (xs ys : List A) → slice_get (xs ++ ys) (length xs) ≡ slice_get ys 0
  get-behind [] ys = refl
  get-behind (x ∷ xs) ys = get-behind xs ys

  -- The part that is there goes on by what stands behind it.
  pub part-more : (all part others : List A) (t : A) → all ≡ part ++ others → slice_get all (length part) ≡ Some t → (more : List A) × (all ≡ (part ++ t ∷ []) ++ more)
  part-more all part [] t is there = absurd (let e : None ≡ Some t = sym (get-behind part []) ∙ ap (λ zs. slice_get zs (length part)) (sym is) ∙ there in cc)
  part-more all part (y ∷ others) t is there =
      let e : Some y ≡ Some t = sym (get-behind part (y ∷ others)) ∙ ap (λ zs. slice_get zs (length part)) (sym is) ∙ there in
      let same : y ≡ t = cc in
      (others, is ∙ ap (λ z. part ++ z ∷ others) same ∙ sym (assoc part t others))
    where
      assoc : (xs : List A) (u : A) (zs : List A) → (xs ++ u ∷ []) ++ zs ≡ xs ++ u ∷ zs
      assoc [] u zs = refl
      assoc (x ∷ xs) u zs = ap (λ (ys : List A). x ∷ ys) (assoc xs u zs)

  pub push-assoc : (xs : List A) (u : A) (zs : List A) → (xs ++ u ∷ []) ++ zs ≡ xs ++ u ∷ zs
  push-assoc [] u zs = refl
  push-assoc (x ∷ xs) u zs = ap (λ (ys : List A). x ∷ ys) (push-assoc xs u zs)

  pub push-assoc-all : (xs ys zs : List A) → xs ++ (ys ++ zs) ≡ (xs ++ ys) ++ zs
  push-assoc-all [] ys zs = refl
  push-assoc-all (x ∷ xs) ys zs = ap (λ (us : List A). x ∷ us) (push-assoc-all xs ys zs)

-- The slots of connection c: the numbers of puts and takes, and its cells.
abbrev pub Own : ℕ → List ℕ → ℕ → ℕ → Type 0
Own n capacities c x = (x ≡ puts_slot n c) ⊎ ((x ≡ takes_slot n (length capacities) c) ⊎ ((i : ℕ) × (i < get_or capacities c 0) × (x ≡ cell_slot n capacities c i)))

-- They are no body's.
pub own-body : (n : ℕ) (capacities : List ℕ) (c p : ℕ) → p < n → Own n capacities c p → ⊥
own-body n capacities c p low (inl e) = omega (arith, low, e)
own-body n capacities c p low (inr (inl e)) = omega (arith, low, e)
own-body n capacities c p low (inr (inr (i, below, e))) = omega (arith, low, e)

-- Two connections have no slot in common.
pub own-apart : (n : ℕ) (capacities : List ℕ) (c d x : ℕ) → c < length capacities → d < length capacities → Own n capacities c x → Own n capacities d x → c ≡ d
own-apart n capacities c d x low high (inl e) (inl f) = omega (arith, e, f)
own-apart n capacities c d x low high (inl e) (inr (inl f)) = absurd (omega (arith, e, f, low))
own-apart n capacities c d x low high (inl e) (inr (inr (j, j_below, f))) = absurd (omega (arith, e, f, low))
own-apart n capacities c d x low high (inr (inl e)) (inl f) = absurd (omega (arith, e, f, high))
own-apart n capacities c d x low high (inr (inl e)) (inr (inl f)) = omega (arith, e, f)
own-apart n capacities c d x low high (inr (inl e)) (inr (inr (j, j_below, f))) = absurd (omega (arith, e, f, low))
own-apart n capacities c d x low high (inr (inr (i, i_below, e))) (inl f) = absurd (omega (arith, e, f, high))
own-apart n capacities c d x low high (inr (inr (i, i_below, e))) (inr (inl f)) = absurd (omega (arith, e, f, high))
own-apart n capacities c d x low high (inr (inr (i, i_below, e))) (inr (inr (j, j_below, f))) = (cells-apart capacities c d i j i_below j_below (omega (arith, e, f))).0

-- Its places are its own.
pub place-own : (n : ℕ) (capacities : List ℕ) (c place : ℕ) → 0 < get_or capacities c 0 → Own n capacities c (place_slot n capacities c place)
place-own n capacities c place some_cell = inr (inr (place % get_or capacities c 0, mod_below place (get_or capacities c 0) some_cell, refl))

-- Each of its slots is one of the table's.
pub own-within : (n : ℕ) (capacities : List ℕ) (c x : ℕ) → c < length capacities → Own n capacities c x → x < slot_count n capacities
own-within n capacities c x low (inl e) = omega (arith, e, low)
own-within n capacities c x low (inr (inl e)) = omega (arith, e, low)
own-within n capacities c x low (inr (inr (i, below, e))) = omega (arith, e, cells-within capacities c i below)

module _ (n : ℕ) (capacities : List ℕ) where
  -- The places of two packets of a connection are two.
  pub place-else : (c t i j : ℕ) → i < get_or capacities c 0 → j < get_or capacities c 0 → i ≢ j → place_slot n capacities c (t + i) ≢ place_slot n capacities c (t + j)
  place-else c t i j low high other same = other (mod-apart (get_or capacities c 0) t i j low high (let e : (t + i) % get_or capacities c 0 ≡ (t + j) % get_or capacities c 0 = omega (arith, same) in e))

  -- No cell is a number's slot.
  pub place-puts : (c d place : ℕ) → d < length capacities → place_slot n capacities c place ≢ puts_slot n d
  place-puts c d place low same = omega (arith, same, low)

  pub place-takes : (c d place : ℕ) → d < length capacities → place_slot n capacities c place ≢ takes_slot n (length capacities) d
  place-takes c d place low same = omega (arith, same, low)
