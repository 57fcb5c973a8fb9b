-- Processes that are alike but for their components, and what is the same of them.
use Rattle.std.proofs.Common.{◌≡◌, ℕ, ◌+◌, ◌<◌, ◌≤◌, ◌++◌, zero, suc, List, [], ◌∷◌, Option, Some, None, length, refl, ap, sym, subst, ◌∙◌, slice_get}
use Rattle.std.specs.List.{sum_by}
use Rattle.std.specs.Prelude.{is_some, if◌then◌else◌}
use Rattle.std.proofs.lemmas.List.Sums.{sum_by-cons}
use Rattle.flow_packet.specs.Ids.{times, maker_of}
use Rattle.flow_packet.specs.Held.{held_ids}
use Rattle.flow_component.specs.declared.Wish.TheVariants as wishes
use Rattle.flow_model.specs.declared.Stage.{Stage}
use Rattle.flow_model.specs.declared.Stage.TheVariants as stages
use Rattle.flow_model.specs.States.{Process, Channel, Past, State}
use Rattle.flow_model.specs.Events.{Look, looks, event_from, stage_event}
use Rattle.flow_model.specs.Places.{OnePlace, places, all_places, ids_in_hands, ids_in_transit, ids_dropped}
use Rattle.flow_model.specs.Order.{InOrder, input_of, signal_of, output_of}
use Rattle.flow_model.specs.Verdicts.{Quiet, HasNoTurn, AllEnded, SomeFailed, exact_level, exact_level_for, waits_for, block_of}
use Rattle.flow_model.specs.Replaced.{with_component, all_replaced}
use Rattle.flow_model.proofs.Replacing.{stage-same}

-- As many processes, each but for its component the one at its place.
abbrev pub Alike : {K L : Type 0} → List (Process K) → List (Process L) → Type 0
Alike [] [] = Unit {0}
Alike [] (y ∷ ys) = ⊥
Alike (x ∷ xs) [] = ⊥
Alike (x ∷ xs) (y ∷ ys) = (with_component x y.component ≡ y) × Alike xs ys

-- The other way round they are alike too.
pub alike-sym : {K L : Type 0} (xs : List (Process K)) (ys : List (Process L)) → Alike xs ys → Alike ys xs
alike-sym [] [] alike = tt
alike-sym [] (y ∷ ys) alike = absurd alike
alike-sym (x ∷ xs) [] alike = absurd alike
alike-sym {K} {L} (x ∷ xs) (y ∷ ys) alike = (ap (λ (z : Process L). with_component z x.component) (sym alike.0), alike-sym xs ys alike.1)

-- Processes with other components are alike those that they were.
pub alike-replaced : {K L : Type 0} (other : ℕ → K → L) (xs : List (Process K)) → Alike xs (all_replaced other xs)
alike-replaced other [] = tt
alike-replaced other (x ∷ xs) = (refl, alike-replaced (λ p. other (suc p)) xs)

-- a process that is there has one that is there for it
pub alike-there : {K L : Type 0} (xs : List (Process K)) (ys : List (Process L)) → Alike xs ys → (p : ℕ) (x : Process K) → slice_get xs p ≡ Some x → (c : L) × (slice_get ys p ≡ Some (with_component x c))
alike-there [] ys alike p x is = cc
alike-there (z ∷ xs) [] alike p x is = absurd alike
alike-there {K} {L} (z ∷ xs) (y ∷ ys) alike zero x is =
    let same : z ≡ x = cc in
    (y.component, ap (λ (w : Process L). Some w) (sym alike.0 ∙ ap (λ (w : Process K). with_component w y.component) same))
alike-there (z ∷ xs) (y ∷ ys) alike (suc p) x is = alike-there xs ys alike.1 p x is

-- They are as many.
pub alike-length : {K L : Type 0} (xs : List (Process K)) (ys : List (Process L)) → Alike xs ys → length ys ≡ length xs
alike-length [] [] alike = refl
alike-length [] (y ∷ ys) alike = absurd alike
alike-length (x ∷ xs) [] alike = absurd alike
alike-length (x ∷ xs) (y ∷ ys) alike = ap suc (alike-length xs ys alike.1)

-- what is found of the process at a place, if there is one
pub alike-at : {K L X : Type 0} (f : Option (Process K) → X) (g : Option (Process L) → X) → g None ≡ f None → ((x : Process K) (c : L) → g (Some (with_component x c)) ≡ f (Some x))
    → (xs : List (Process K)) (ys : List (Process L)) → Alike xs ys → (p : ℕ) → g (slice_get ys p) ≡ f (slice_get xs p)
alike-at f g none some [] [] alike p = none
alike-at f g none some [] (y ∷ ys) alike p = absurd alike
alike-at f g none some (x ∷ xs) [] alike p = absurd alike
alike-at {K} {L} f g none some (x ∷ xs) (y ∷ ys) alike zero = ap (λ (z : Process L). g (Some z)) (sym alike.0) ∙ some x y.component
alike-at f g none some (x ∷ xs) (y ∷ ys) alike (suc p) = alike-at f g none some xs ys alike.1 p

-- A sum that doesn't ask for components is the same over both.
pub alike-sum : {K L : Type 0} (f : Process K → ℕ) (g : Process L → ℕ) → ((x : Process K) (c : L) → g (with_component x c) ≡ f x) → (xs : List (Process K)) (ys : List (Process L)) → Alike xs ys → sum_by g ys ≡ sum_by f xs
alike-sum f g each [] [] alike = refl
alike-sum f g each [] (y ∷ ys) alike = absurd alike
alike-sum f g each (x ∷ xs) [] alike = absurd alike
alike-sum {K} {L} f g each (x ∷ xs) (y ∷ ys) alike =
    let here : g y ≡ f x = ap g (sym alike.0) ∙ each x y.component in
    let rest = alike-sum f g each xs ys alike.1 in
    sum_by-cons g y ys ∙ (λ i. here i + rest i) ∙ sym (sum_by-cons f x xs)

hands-alike : {K L : Type 0} (xs : List (Process K)) (ys : List (Process L)) → Alike xs ys → ids_in_hands ys ≡ ids_in_hands xs
hands-alike [] [] alike = refl
hands-alike [] (y ∷ ys) alike = absurd alike
hands-alike (x ∷ xs) [] alike = absurd alike
hands-alike {K} {L} (x ∷ xs) (y ∷ ys) alike =
    let here : held_ids y.held ≡ held_ids x.held = ap (λ (z : Process L). held_ids z.held) (sym alike.0) in
    let rest = hands-alike xs ys alike.1 in
    λ i. here i ++ rest i

-- what a process waits for
exact-same : {K L : Type 0} (channels : List Look) (x : Process K) (c : L) (stage : Stage) → exact_level_for channels (with_component x c) stage ≡ exact_level_for channels x stage
exact-same channels x c (stages.Wishing (wishes.Level port)) = refl
exact-same channels x c stage = refl

waits-same : {K L : Type 0} (x : Process K) (c : L) (stage : Stage) → waits_for (with_component x c) stage ≡ waits_for x stage
waits-same x c stages.Idle = refl
waits-same x c (stages.Wishing (wishes.Receive port)) = refl
waits-same x c (stages.Wishing (wishes.Send port id)) = refl
waits-same x c stage = refl

-- What blocks a process doesn't ask for its component.
pub block-same : {K L : Type 0} (channels : List Look) (x : Process K) (c : L) → block_of channels (with_component x c) ≡ block_of channels x
block-same channels x c =
    let level = exact-same channels x c x.stage in
    let event : event_from channels (with_component x c) (exact_level channels (with_component x c)) ≡ event_from channels x (exact_level channels x) =
    ap (λ (n : ℕ). stage_event channels (with_component x c) n x.stage) level ∙ stage-same channels x c (exact_level channels x) x.stage in
    let waits = waits-same x c x.stage in
    λ i. if is_some (event i) then None else waits i

-- The state with these processes.
abbrev pub state_with : {K : Type 0} → List Channel → Past → List (Process K) → State K
state_with channels past xs = record { kept = record { processes = xs; channels = channels }; past = past }

module _ {K L : Type 0} (channels : List Channel) (past : Past) (xs : List (Process K)) (ys : List (Process L)) (alike : Alike xs ys) where
  -- a process that is there has one that it is there for
  from-there : (p : ℕ) (y : Process L) → slice_get ys p ≡ Some y → (c : K) × (slice_get xs p ≡ Some (with_component y c))
  from-there p y is = alike-there ys xs (alike-sym xs ys alike) p y is

  pub ended-alike : AllEnded (state_with channels past xs) → AllEnded (state_with channels past ys)
  ended-alike all = λ p y is. (let from = from-there p y is in all p (with_component y from.0) from.1)

  pub failed-alike : SomeFailed (state_with channels past xs) → SomeFailed (state_with channels past ys)
  failed-alike some = let to = alike-there xs ys alike some.0 some.1 some.3 in (some.0, with_component some.1 to.0, some.2, to.1, some.4)

  still-alike : (p : ℕ) → HasNoTurn (state_with channels past xs).kept p → HasNoTurn (state_with channels past ys).kept p
  still-alike p none = λ y n is. (let from = from-there p y is in sym (stage-same (looks channels) y from.0 n y.stage) ∙ none (with_component y from.0) n from.1)

  pub quiet-alike : Quiet (state_with channels past xs) → Quiet (state_with channels past ys)
  quiet-alike quiet = record {
    thought = λ p y is answer told. (let from = from-there p y is in quiet.thought p (with_component y from.0) from.1 answer told);
    still = λ p. still-alike p (quiet.still p);
  }

  pub places-alike : places (state_with channels past ys) ≡ places (state_with channels past xs)
  places-alike = ap (λ (ids : List ℕ). ids ++ ids_in_transit channels) (hands-alike xs ys alike)

  all-alike : all_places (state_with channels past ys) ≡ all_places (state_with channels past xs)
  all-alike = let n = alike-length xs ys alike in λ i. places-alike i ++ ids_dropped past.dropped (n i)

  pub one-alike : OnePlace (state_with channels past xs) → OnePlace (state_with channels past ys)
  one-alike one = record {
    once = λ id. subst (λ (ids : List ℕ). times id ids ≤ 1) (sym all-alike) (one.once id);
    made = λ id. (
      (λ some.
          (let made = (one.made id).0 (subst (λ (ids : List ℕ). 0 < times id ids) all-alike some) in
          let to = alike-there xs ys alike (maker_of id) made.0 made.1 in
          (with_component made.0 to.0, to.1, made.2))),
      (λ made. (let from = from-there (maker_of id) made.0 made.1 in subst (λ (ids : List ℕ). 0 < times id ids) (sym all-alike) ((one.made id).1 (with_component made.0 from.0, from.1, made.2)))),
    );
  }

  pub order-alike : InOrder (state_with channels past xs) → InOrder (state_with channels past ys)
  order-alike order = record {
    received = λ p port c is. order.received p port c (sym (alike-at (input_of port) (input_of port) refl (λ x d. refl) xs ys alike p) ∙ is);
    signalled = λ p c is. order.signalled p c (sym (alike-at signal_of signal_of refl (λ x d. refl) xs ys alike p) ∙ is);
    sent = λ p port c is. order.sent p port c (sym (alike-at (output_of port) (output_of port) refl (λ x d. refl) xs ys alike p) ∙ is);
    nested = order.nested;
  }
