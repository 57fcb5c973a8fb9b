-- The parts of one kind after another, each of one process after another.
use Rattle.std.proofs.Common.{◌≡◌, ◌≢◌, ◌⊎◌, inl, inr, ℕ, zero, suc, ◌+◌, ◌<◌, ◌≤◌, Bool, true, false, List, [], ◌∷◌, ◌++◌, length, Option, Some, None, eqb, eqb-true, eq-eqb, refl, sym, ◌∙◌, ap, subst, arith, get_or, slice_get, take, length-append}
use Rattle.std.specs.Prelude.{Vec, slice_index}
use Rattle.std.specs.Option.{option_and_then, option_eq, option_map}
use Rattle.std.specs.Str.{bytes_eq}
use Rattle.std.specs.declared.alloc.Global.{Global}
use Rattle.std.proofs.lemmas.Bool.{false≢true}
use Rattle.std.proofs.lemmas.List.{length-map, map-append}
use Rattle.std.proofs.lemmas.Option.{get_or_from_slice_get, slice_get_within, slice_get-map}
use Rattle.std.proofs.lemmas.Slice.Eq.{bytes_eq-Decides}
use Rattle.flow_model.proofs.Lists.{same_or_not}
use Rattle.flow_plan.specs.declared.kind.KindSpec.{KindSpec}
use Rattle.flow_plan.specs.declared.plan.Process.{Process}
use Rattle.flow_plan.specs.Network.{Network}
use Rattle.flow_offer.specs.Kinds.{AreOwnKinds}
use Rattle.flow_offer.specs.Laws.{EachIsStandardOrOwn}
use Rattle.flow_offer.specs.Processes.{IsOfferedPlan, IsOwnAt, IsOwnOf, IsStandardOrOwn, own_place, place_of}
use Rattle.flow_offer.specs.Shares.{FindsPart, earlier}
use Rattle.flow_load.specs.Components.{part_for}
use Rattle.flow_load.specs.Offers.{counts_of, parts_in}
use Rattle.flow_load.proofs.Parting.{pushed}
use Rattle.flow_load.proofs.Readings.{there_at}
use Rattle.flow_load.proofs.Sharing.{its-place, no-more, one-more, one-name}
use Rattle.flow_supply.specs.Made.{AreMade, AreMadeOf, IsMadeFor, Makes, counts_wanted, wanted_for}
use Rattle.flow_supply.proofs.Places.{its-kind, its-own-place, kind-place}

-- what stands in a list still does where more follows
kept : {X : Type 0} (xs : List X) (y x : X) (i : ℕ) → slice_get xs i ≡ Some x → slice_get (xs ++ y ∷ []) i ≡ Some x
kept [] y x i at = absurd cc
kept (z ∷ xs) y x zero at = at
kept (z ∷ xs) y x (suc i) at = kept xs y x i at

last : {X : Type 0} (xs : List X) (y : X) → slice_get (xs ++ y ∷ []) (length xs) ≡ Some y
last [] y = refl
last (z ∷ xs) y = last xs y

-- within a list there is an element
there-is : {X : Type 0} (xs : List X) (i : ℕ) → i < length xs → (x : X) × (slice_get xs i ≡ Some x)
there-is [] i within = absurd (omega arith)
there-is (x ∷ xs) zero within = (x, refl)
there-is (x ∷ xs) (suc i) within = there-is xs i (omega arith)

-- The place that was found is this one, or isn't.
pub is-place : (found : Option ℕ) (place : ℕ) → option_eq eqb found (Some place) ≡ true → found ≡ Some place
is-place None place is = absurd (false≢true is)
is-place (Some other) place is = ap (λ (k : ℕ). Some k) (eqb-true other place is)

-- A place that differs by the test isn't the one that was found.
pub not-place : (found : Option ℕ) (place : ℕ) → option_eq eqb found (Some place) ≡ false → found ≡ Some place → ⊥
not-place None place is same = absurd cc
not-place (Some other) place is same = let here : other ≡ place = cc in false≢true (sym is ∙ eq-eqb other place here)

-- The parts of those of the first n processes that are of the kind at this place, one for each.
pub record MadeSoFar {M P : Type 0} (makes : Makes M P) (maker : M) (own : List KindSpec) (plan : Network) (place n : ℕ) (parts : List P) : Type 0 where
  pub count : (name : List ℕ) → place_of own name ≡ Some place → length parts ≡ earlier plan name n
  pub each : (p : ℕ) (is : IsOwnAt own plan p) → p < n → is.place ≡ place → (part : P) × (slice_get parts (earlier plan is.process.kind p) ≡ Some part) × makes maker (wanted_for is) part

module _ {M P : Type 0} (makes : Makes M P) (maker : M) (own : List KindSpec) (plan : Network) (place : ℕ) where
  -- Before the first process there is none.
  pub none-made : MadeSoFar makes maker own plan place 0 []
  none-made = record { count = λ name at. refl; each = λ p is lt at. absurd (omega (arith, lt)) }

  -- A process more, which is of the kind, has the next part.
  pub one-made : (p : ℕ) (parts : List P) (part : P) → AreOwnKinds own → p < length plan.processes → own_place own plan p ≡ Some place → MadeSoFar makes maker own plan place p parts
      → IsMadeFor makes maker own plan p part → MadeSoFar makes maker own plan place (p + 1) (parts ++ part ∷ [])
  one-made p parts part are within placed s made = record { count = count; each = λ q is lt at. by q is at (same_or_not q p) lt }
    where
      x : (process : Process) × (slice_get plan.processes p ≡ Some process)
      x = there_at plan.processes p within

      count : (name : List ℕ) → place_of own name ≡ Some place → length (parts ++ part ∷ []) ≡ earlier plan name (p + 1)
      count name at =
          let here : place_of own x.0.kind ≡ Some place = sym (its-place plan p x.0 x.1 within own) ∙ placed in
          let same : x.0.kind ≡ name = one-name own x.0.kind name place here at in
          let more = one-more plan p x.0 x.1 within name ((bytes_eq-Decides x.0.kind name).1 same) in
          omega (arith, length-append parts (part ∷ []), s.count name at, more)

      by : (q : ℕ) (is : IsOwnAt own plan q) → is.place ≡ place → (q ≡ p) ⊎ (q ≢ p) → q < p + 1
          → (one : P) × (slice_get (parts ++ part ∷ []) (earlier plan is.process.kind q) ≡ Some one) × makes maker (wanted_for is) one
      by q is at (inr other) lt = let before = s.each q is (omega (arith, lt, other)) at in (before.0, kept parts part before.0 (earlier plan is.process.kind q) before.1, before.2)
      by q is at (inl same) lt =
          let name = is.process.kind in
          let long : length parts ≡ earlier plan name q = s.count name (its-kind own plan q are is ∙ ap (λ (k : ℕ). Some k) at) ∙ ap (earlier plan name) (sym same) in
          (part, subst (λ (k : ℕ). slice_get (parts ++ part ∷ []) k ≡ Some part) long (last parts part), subst (λ (k : ℕ). IsMadeFor makes maker own plan k part) (sym same) made is)

  -- A process more, which isn't of the kind, has none of these.
  pub other-made : (p : ℕ) (parts : List P) → AreOwnKinds own → p < length plan.processes → (own_place own plan p ≡ Some place → ⊥) → MadeSoFar makes maker own plan place p parts
      → MadeSoFar makes maker own plan place (p + 1) parts
  other-made p parts are within not-placed s = record { count = λ name at. count name at (bytes_eq x.0.kind name) refl; each = λ q is lt at. by q is at (same_or_not q p) lt }
    where
      x : (process : Process) × (slice_get plan.processes p ≡ Some process)
      x = there_at plan.processes p within

      count : (name : List ℕ) → place_of own name ≡ Some place → (b : Bool) → bytes_eq x.0.kind name ≡ b → length parts ≡ earlier plan name (p + 1)
      count name at false is = s.count name at ∙ sym (no-more plan p x.0 x.1 within name is)
      count name at true is = absurd (not-placed (its-place plan p x.0 x.1 within own ∙ ap (place_of own) ((bytes_eq-Decides x.0.kind name).0 is) ∙ at))

      by : (q : ℕ) (is : IsOwnAt own plan q) → is.place ≡ place → (q ≡ p) ⊎ (q ≢ p) → q < p + 1 → (one : P) × (slice_get parts (earlier plan is.process.kind q) ≡ Some one) × makes maker (wanted_for is) one
      by q is at (inr other) lt = s.each q is (omega (arith, lt, other)) at
      by q is at (inl same) lt = absurd (not-placed (ap (own_place own plan) (sym same) ∙ its-own-place own plan q are is ∙ ap (λ (k : ℕ). Some k) at))

  -- Behind the last process these are the parts of the kind.
  pub all-made : (n : ℕ) (parts : List P) → length plan.processes ≤ n → MadeSoFar makes maker own plan place n parts → AreMadeOf makes maker own plan place parts
  all-made n parts all s = λ p is at. let within = slice_get_within plan.processes p is.process is.there in s.each p is (omega (arith, within, all)) at

-- What is wanted of the kind at a place.
wanted-at : (own : List KindSpec) (plan : Network) (place : ℕ) (kind : KindSpec) → slice_get own place ≡ Some kind → slice_index (counts_wanted own plan) place ≡ earlier plan kind.name (length plan.processes)
wanted-at own plan place kind at =
    get_or_from_slice_get (counts_wanted own plan) place (earlier plan kind.name (length plan.processes)) 0
    (slice_get-map (λ (k : KindSpec). earlier plan k.name (length plan.processes)) own place ∙ ap (option_map (λ (k : KindSpec). earlier plan k.name (length plan.processes))) at)

-- There are as many parts of the kind as processes.
pub many-made : {M P : Type 0} (makes : Makes M P) (maker : M) (own : List KindSpec) (plan : Network) (place n : ℕ) (parts : List P) → AreOwnKinds own → place < length own → n ≡ length plan.processes
    → MadeSoFar makes maker own plan place n parts → length parts ≡ slice_index (counts_wanted own plan) place
many-made makes maker own plan place n parts are within all s =
    let kind = there-is own place within in
    s.count kind.0.name (kind-place own place kind.0 are kind.1) ∙ ap (earlier plan kind.0.name) all ∙ sym (wanted-at own plan place kind.0 kind.1)

-- one more of the first numbers
take-one : (xs : List ℕ) (k : ℕ) → k < length xs → take (k + 1) xs ≡ take k xs ++ slice_index xs k ∷ []
take-one [] k within = absurd (omega (arith, within))
take-one (x ∷ xs) zero within = refl
take-one (x ∷ xs) (suc k) within =
    let next : suc k + 1 ≡ suc (k + 1) = omega arith in
    ap (λ (n : ℕ). take n (x ∷ xs)) next ∙ ap (λ (l : List ℕ). x ∷ l) (take-one xs k (omega (arith, within)))

take-whole : (xs : List ℕ) (k : ℕ) → length xs ≤ k → take k xs ≡ xs
take-whole [] zero long = refl
take-whole [] (suc k) long = refl
take-whole (x ∷ xs) zero long = absurd (omega (arith, long))
take-whole (x ∷ xs) (suc k) long = ap (λ (l : List ℕ). x ∷ l) (take-whole xs k (omega (arith, long)))

wanted-long : (own : List KindSpec) (plan : Network) → length (counts_wanted own plan) ≡ length own
wanted-long own plan = length-map own (λ (kind : KindSpec). earlier plan kind.name (length plan.processes))

-- The counts of one kind more.
pub kind-counted : {P : Type 0} (own : List KindSpec) (plan : Network) (place : ℕ) (parts : List (Vec P Global)) (kind : Vec P Global) → place < length own → counts_of parts ≡ take place (counts_wanted own plan)
    → length kind.items ≡ slice_index (counts_wanted own plan) place → counts_of (parts ++ kind ∷ []) ≡ take (place + 1) (counts_wanted own plan)
kind-counted {P = P} own plan place parts kind within before many =
    map-append (λ (v : Vec P Global). length v.items) parts (kind ∷ []) ∙ ap (λ (l : List ℕ). l ++ length kind.items ∷ []) before ∙ ap (λ (n : ℕ). take place (counts_wanted own plan) ++ n ∷ []) many
    ∙ sym (take-one (counts_wanted own plan) place (omega (arith, within, wanted-long own plan)))

-- All kinds are counted.
pub all-counted : {P : Type 0} (own : List KindSpec) (plan : Network) (place : ℕ) (parts : List (Vec P Global)) → length own ≤ place → counts_of parts ≡ take place (counts_wanted own plan)
    → counts_of parts ≡ counts_wanted own plan
all-counted own plan place parts all counts = counts ∙ take-whole (counts_wanted own plan) place (omega (arith, all, wanted-long own plan))

module _ {M P : Type 0} (makes : Makes M P) (maker : M) (own : List KindSpec) (plan : Network) where
  -- The parts of the kinds at the first places.
  abbrev pub EachMade : List (Vec P Global) → Type 0
  EachMade parts = (place : ℕ) (kind : Vec P Global) → slice_get parts place ≡ Some kind → AreMadeOf makes maker own plan place kind.items

  -- The parts of one kind more.
  pub kind-made : (parts : List (Vec P Global)) (kind : Vec P Global) → EachMade parts → AreMadeOf makes maker own plan (length parts) kind.items → EachMade (parts ++ kind ∷ [])
  kind-made parts kind each made place other at = by (pushed parts kind other place at)
    where
      by : (slice_get parts place ≡ Some other) ⊎ ((place ≡ length parts) × (other ≡ kind)) → AreMadeOf makes maker own plan place other.items
      by (inl before) = each place other before
      by (inr is) =
          subst (λ (k : ℕ). AreMadeOf makes maker own plan k other.items) (sym is.0)
          (subst (λ (v : Vec P Global). AreMadeOf makes maker own plan (length parts) v.items) (sym is.1) made)

  -- The part of a process, where it is of a kind of the caller's own.
  part-is : (lists : List (List P)) (p : ℕ) (process : Process) (place : ℕ) → slice_get plan.processes p ≡ Some process → place_of own process.kind ≡ Some place
      → part_for own lists plan p ≡ slice_get (get_or lists place []) (earlier plan process.kind p)
  part-is lists p process place there placed =
      ap (option_and_then (λ (x : Process). option_and_then (λ k. slice_get (get_or lists k []) (earlier plan x.kind p)) (place_of own x.kind))) there
      ∙ ap (option_and_then (λ k. slice_get (get_or lists k []) (earlier plan process.kind p))) placed

  -- The parts of all kinds are those of the plan.
  pub plan-made : (parts : List (Vec P Global)) → AreOwnKinds own → length parts ≡ length own → EachMade parts → AreMade makes maker own plan (parts_in parts)
  plan-made parts are long each p is =
      let within = slice_get_within own is.place is.kind is.here in
      let kind = there-is parts is.place (omega (arith, within, long)) in
      let found = each is.place kind.0 kind.1 p is refl in
      let list : get_or (parts_in parts) is.place [] ≡ kind.0.items =
      get_or_from_slice_get (parts_in parts) is.place kind.0.items [] (slice_get-map (λ (v : Vec P Global). v.items) parts is.place ∙ ap (option_map (λ (v : Vec P Global). v.items)) kind.1) in (
        found.0,
        part-is (parts_in parts) p is.process is.place is.there (its-kind own plan p are is) ∙ ap (λ (l : List P). slice_get l (earlier plan is.process.kind p)) list ∙ found.1,
        found.2,
      )

  -- Where the maker made a part for each process of a kind of the caller's own, each finds one.
  pub made-found : EachIsStandardOrOwn → (lists : List (List P)) (counts : List ℕ) → IsOfferedPlan own plan → ((k : ℕ) → slice_index counts k ≡ length (get_or lists k []))
      → AreMade makes maker own plan lists → (p : ℕ) → FindsPart own counts plan p
  made-found law lists counts offered counted made p process place there placed =
      let within = slice_get_within plan.processes p process there in
      let at : own_place own plan p ≡ Some place = ap (option_and_then (λ (x : Process). place_of own x.kind)) there ∙ placed in
      let of : IsOwnOf own plan p place = (subst (IsStandardOrOwn own plan p) at (law own plan offered p within)).0 in
      let found = made p of.is_own in
      let there_is = slice_get_within (get_or lists place []) (earlier plan process.kind p) found.0 (sym (part-is lists p process place there placed) ∙ found.1) in
      omega (arith, there_is, counted place)

-- There are as many parts of a kind as are counted.
pub counted : {P : Type 0} (parts : List (Vec P Global)) (k : ℕ) → slice_index (counts_of parts) k ≡ length (get_or (parts_in parts) k [])
counted [] k = refl
counted (kind ∷ parts) zero = refl
counted (kind ∷ parts) (suc k) = counted parts k
