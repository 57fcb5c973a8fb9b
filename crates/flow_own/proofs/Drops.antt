-- What drops, one after another, make of the hands and of the count of the dropped.
use Rattle.std.proofs.Common.{◌≡◌, ℕ, zero, suc, ◌+◌, ◌<◌, ◌≤◌, min, Bool, true, false, List, [], ◌∷◌, ◌++◌, drop, length, get_or, refl, sym, ◌∙◌, ap, subst, arith, nat_eq, if◌then◌else◌}
use Rattle.std.proofs.lemmas.Bool.Decides.{nat_tests}
use native.Mathlib.Numerals.{unary_clauses}
use Rattle.flow_packet.specs.declared.packet.Kind.{Kind}
use Rattle.flow_packet.specs.Tree.{Tree, all_ids, packet_of}
use Rattle.flow_packet.specs.Hands.{Holding, new_id, IsAtRoot}
use Rattle.flow_packet.specs.Held.{held_of}
use Rattle.flow_component.specs.Resumes.{drops_between, dropped_count}
use Rattle.flow_component.proofs.Dropping.{dropped_after, dropping, making, length-push, dropped-same, dropped-dropping, length-without}
use Rattle.flow_own.specs.Acts.{CanDrop, after_drops}

-- counts of the dropped add up
count-then : (d m n : ℕ) (a b c : Bool) → nat_eq m 0 ≡ a → nat_eq n 0 ≡ b → nat_eq (m + n) 0 ≡ c
    → (if b then (if a then d else min (d + m) 18446744073709551615) else min ((if a then d else min (d + m) 18446744073709551615) + n) 18446744073709551615) ≡ (if c then d else min (d + (m + n)) 18446744073709551615)
count-then d m n true true true e f g = refl
count-then d m n true true false e f g = grind (arith, nat_tests)
count-then d m n true false true e f g = grind (arith, nat_tests)
count-then d m n true false false e f g = let z : m ≡ 0 = grind (arith, nat_tests) in omega (arith, z)
count-then d m n false true true e f g = grind (arith, nat_tests)
count-then d m n false true false e f g = let z : n ≡ 0 = grind (arith, nat_tests) in omega (arith, z)
count-then d m n false false true e f g = grind (arith, nat_tests)
count-then d m n false false false e f g = omega arith

-- The second hands come from the first by drops.
pub record Dropped (old new : Holding) : Type 0 where
  pub made : new.made ≡ old.made
  pub fewer : length (all_ids new.packets) ≤ length (all_ids old.packets)
  pub count : new.dropped ≡ dropped_after old new

pub dropped-none : (h : Holding) → Dropped h h
dropped-none h = record { made = refl; fewer = omega arith; count = dropped-same h }

-- a packet more is dropped
pub dropped-one : (old new : Holding) (id spare : ℕ) → Dropped old new → IsAtRoot new.packets id → Dropped old (dropping new id spare)
dropped-one old new id spare d at =
    let last = dropping new id spare in
    let less = length-without new.packets id in
    let m = drops_between (held_of old) (held_of new) in
    let n = drops_between (held_of new) (held_of last) in
    let sum : m + n ≡ drops_between (held_of old) (held_of last) = omega (arith, d.made, d.fewer, less) in
    record {
      made = d.made;
      fewer = omega (arith, d.fewer, less);
      count = dropped-dropping new id spare at ∙ ap (λ (k : ℕ). dropped_count k n) d.count ∙ count-then old.dropped m n (nat_eq m 0) (nat_eq n 0) (nat_eq (m + n) 0) refl refl refl
          ∙ ap (dropped_count old.dropped) sum;
    }

-- the list from a place on begins with what stands there
pub drop-step : (xs : List ℕ) (k d : ℕ) → k < length xs → drop k xs ≡ get_or xs k d ∷ drop (k + 1) xs
drop-step [] k d h = absurd (omega arith)
drop-step (x ∷ xs) zero d h = refl
drop-step (x ∷ xs) (suc k) d h = simp unary_clauses (simp unary_clauses at (drop-step xs k d (omega arith)))

-- what a loop over the packets to be dropped keeps, before the one at this place
abbrev pub Dropping : Holding → Holding → List ℕ → ℕ → Type 0
Dropping old now ids k = CanDrop (held_of now) (drop k ids) × (after_drops (held_of now) (drop k ids) ≡ after_drops (held_of old) ids) × Dropped old now

drops-on : (old now new : Holding) (ids rest : List ℕ) (k id spare : ℕ) → Dropping old now ids k → drop k ids ≡ id ∷ rest → new ≡ dropping now id spare
    → CanDrop (held_of new) rest × (after_drops (held_of new) rest ≡ after_drops (held_of old) ids) × Dropped old new
drops-on old now new ids rest k id spare inv e is =
    let can : CanDrop (held_of now) (id ∷ rest) = subst (CanDrop (held_of now)) e inv.0 in
    let same : after_drops (held_of now) (id ∷ rest) ≡ after_drops (held_of old) ids = subst (λ (l : List ℕ). after_drops (held_of now) l ≡ after_drops (held_of old) ids) e inv.1 in
    let P : Holding → Type 0 = λ h. CanDrop (held_of h) rest × (after_drops (held_of h) rest ≡ after_drops (held_of old) ids) × Dropped old h in
    subst P (sym is) (can.1, same, dropped-one old now id spare inv.2 can.0)

-- it keeps it after that one
pub drops-next : (old now new : Holding) (ids : List ℕ) (k d spare : ℕ) → k < length ids → Dropping old now ids k → new ≡ dropping now (get_or ids k d) spare → Dropping old new ids (k + 1)
drops-next old now new ids k d spare within inv is = drops-on old now new ids (drop (k + 1) ids) k (get_or ids k d) spare inv (drop-step ids k d within) is

-- a packet is made, and then others are dropped
pub made-dropped : (old mid new : Holding) (kind : Kind) (text : List ℕ) → mid ≡ making old kind text mid.spare → Dropped mid new → new.dropped ≡ dropped_after old new
made-dropped old mid new kind text is d =
    let count : mid.dropped ≡ old.dropped = ap (λ (h : Holding). h.dropped) is in
    let made : mid.made ≡ old.made + 1 = ap (λ (h : Holding). h.made) is in
    let packets : mid.packets ≡ old.packets ++ packet_of (new_id old) kind text [] ∷ [] = ap (λ (h : Holding). h.packets) is in
    let more : length (all_ids mid.packets) ≡ length (all_ids old.packets) + 1 = ap (λ (ts : List Tree). length (all_ids ts)) packets ∙ length-push old.packets (packet_of (new_id old) kind text []) in
    let same : drops_between (held_of mid) (held_of new) ≡ drops_between (held_of old) (held_of new) = omega (arith, d.made, d.fewer, more, made) in
    d.count ∙ ap (λ (n : ℕ). dropped_count n (drops_between (held_of mid) (held_of new))) count ∙ ap (dropped_count old.dropped) same
