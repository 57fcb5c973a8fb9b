-- The table's words lie apart: what a step there owes comes of what it owes of the words in their order.
use Rattle.std.proofs.Common.{◌≡◌, ℕ, ◌*◌, ◌/◌, List, get_or, set, sym, ap, ◌∙◌, subst, arith, ◌∷◌}
use Rattle.atomic_table.specs.Table.{State, Me, Allows, homes_after, carried_after, rest}
use Rattle.flow_component.specs.Laws.{Rules}
use Rattle.flow_machine.specs.Values.{NetValue}
use Rattle.flow_ring.specs.declared.layout.TheConstants.{SPACING}
use Rattle.flow_ring.specs.Spaced.{ranked}
use Rattle.flow_ring.proofs.Spaced.{ranked-at, ranked-set}
use Rattle.flow_floor.specs.Rule.{in_order, Law, TableLaw}
use Rattle.flow_floor.specs.Plays.{Sat}

-- A seat that took i, which is slot, last has slot.
pub took : {S : Type 0} (xs more : List (ℕ × S)) (i slot : ℕ) (y : S) → slot ≡ i → xs ≡ (i, y) ∷ more → xs ≡ (slot, y) ∷ rest xs
took xs more i slot y is e = e ∙ (λ j. (sym is j, y) ∷ rest (sym e j))

-- What is told of the word at the i-th place is told of the i-th.
pub told : (then : ℕ → Type 0) (i place : ℕ) → place ≡ i * SPACING → then (place / SPACING) → then i
told then i place is t = let order : place / SPACING ≡ i = omega (arith, is) in subst then order t

module _ {S V : Type 0} (holds : State S V → Type 0) where
  -- A step on the word at the i-th place keeps a rule of the words in their order, where the step on the i-th of these does.
  spaced : (slots id : ℕ) (me : Me S V) (i place : ℕ) (f : ℕ → ℕ) (then : ℕ → ℕ → Me S V → Type 0) → place ≡ i * SPACING → Allows holds slots id me i f (then i) → Allows (λ s. holds (in_order s)) slots id me place f (then (place / SPACING))
  spaced slots id me i place f then is allows s r deep at fits =
      let x = get_or s.words place 0 in
      let read : get_or (ranked s.words) i 0 ≡ x = ranked-at s.words i ∙ ap (λ (n : ℕ). get_or s.words n 0) (sym is) in
      let t = allows (in_order s) r deep at (omega (arith, read, fits)) in
      let words : set (ranked s.words) i (f (get_or (ranked s.words) i 0)) ≡ ranked (set s.words place (f x)) =
      ap (λ (n : ℕ). set (ranked s.words) i (f n)) read ∙ sym (ranked-set s.words i (f x)) ∙ ap (λ (n : ℕ). ranked (set s.words n (f x))) (sym is) in
      let order : i ≡ place / SPACING = omega (arith, is) in (
        t.0,
        t.1,
        t.2,
        subst (λ (ws : List ℕ). holds (record { words = ws; homes = homes_after s.homes me.1 t.1; views = set s.views id t.0 })) words t.3,
        subst (λ (z : ℕ × ℕ). then z.0 z.1 (t.0, carried_after me.1 t.1)) (λ j. (order j, read j)) t.4,
      )

module _ {K : Type 0} (rules : Rules K) (start : NetValue K) where
  -- The same of the floor's rule.
  pub apart : (slots id : ℕ) (me : Sat K) (i place : ℕ) (f : ℕ → ℕ) (then : ℕ → ℕ → Sat K → Type 0) → place ≡ i * SPACING → Allows (Law rules start) slots id me i f (then i) → Allows (TableLaw rules start) slots id me place f (then (place / SPACING))
  apart = spaced (Law rules start)
