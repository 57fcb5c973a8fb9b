-- How many turns workers made together.
use Rattle.std.proofs.Common.{◌≡◌, ℕ, zero, suc, ◌+◌, ◌*◌, ◌≤◌, Bool, true, false, cond, List, [], ◌∷◌, All, length, refl, ap, subst, ◌∙◌, arith, ◌⊎◌, inl, inr}
use Rattle.std.specs.Prelude.{sum_by, nat_lt, ◌||◌}
use Rattle.std.specs.List.{list_any}
use Rattle.std.proofs.lemmas.List.Sums.{sum_by-cons}
use Rattle.flow_component.specs.Laws.{Rules}
use Rattle.flow_machine.specs.Values.{NetValue}
use Rattle.flow_machine.specs.Logs.{Logged, turns_made}
use Rattle.flow_floor.specs.declared.floor.Worker.{Worker}
use Rattle.flow_floor.specs.Crew.{made_by}
use Rattle.flow_floor.specs.Floors.{SomeReadZero, IsNewWorker, turns_of}
use Rattle.flow_floor.specs.Made.{numbered, insert, merge}
use Rattle.flow_floor.specs.Shut.{IsShut}
use Rattle.flow_runner.specs.Attempts.{HasMade, HasSpent}
use Rattle.flow_runner.specs.Crews.{made_each}

length-numbered : (n : ℕ) (log : List Logged) → length (numbered n log) ≡ length log
length-numbered n [] = refl
length-numbered n (turn ∷ log) = ap suc (length-numbered (n + 1) log)

length-insert : (x : ℕ × ℕ) (ys : List (ℕ × ℕ)) → length (insert x ys) ≡ suc (length ys)
length-insert x [] = refl
length-insert x (y ∷ ys) = by (nat_lt x.0 y.0) (length-insert x ys)
  where
    by : (b : Bool) → length (insert x ys) ≡ suc (length ys) → length (cond b (x ∷ y ∷ ys) (y ∷ insert x ys)) ≡ suc (suc (length ys))
    by true rest = refl
    by false rest = ap suc rest

length-merge : (xs ys : List (ℕ × ℕ)) → length (merge xs ys) ≡ length xs + length ys
length-merge [] ys = omega arith
length-merge (x ∷ xs) ys = let r = length-merge xs ys in omega (arith, length-insert x (merge xs ys), r)

module _ {K : Type 0} where
  length-made : (ws : List (Worker K)) → length (made_by ws) ≡ sum_by (λ (w : Worker K). length w.seat.me.0.made) ws
  length-made [] = refl
  length-made (w ∷ []) = let e = sum_by-cons (λ (w : Worker K). length w.seat.me.0.made) w [] in omega (arith, e)
  length-made (w ∷ u ∷ ws) = let r = length-made (u ∷ ws) in omega (arith, length-merge w.seat.me.0.made (made_by (u ∷ ws)), r, sum_by-cons (λ (w : Worker K). length w.seat.me.0.made) w (u ∷ ws))

  -- A new worker that spent its turns made so many.
  pub made-new : (budget : ℕ) (old new before after : Worker K) → before ≡ old → after ≡ new → IsNewWorker old → HasSpent budget before after → HasMade budget new
  made-new budget old new before after was left fresh spent =
      let none : length (turns_of before) ≡ 0 = ap (λ w. length (turns_of w)) was ∙ ap (λ xs. length xs) fresh.0 in
      subst (HasMade budget) left (
        omega (arith, spent.0, none),
        elim spent.1 [
          | inl z ↦ inl z
          | inr e ↦ inr (omega (arith, e, none))
        ],
      )

  all-tail : (P : Worker K → Type 0) (w : Worker K) (ws : List (Worker K)) → All P (w ∷ ws) → P w × All P ws
  all-tail P w ws all = (all 0 w (omega arith), λ k d lt. all (suc k) d (omega (arith, lt)))

  -- So each of the lists that they made is no longer.
  pub each-most : (budget : ℕ) (ws : List (Worker K)) → All (HasMade budget) ws → All (λ (turns : List (ℕ × ℕ)). length turns ≤ budget) (made_each ws)
  each-most budget [] all k d lt = absurd (omega (arith, lt))
  each-most budget (w ∷ ws) all zero d lt = (all-tail (HasMade budget) w ws all).0.0
  each-most budget (w ∷ ws) all (suc k) d lt = each-most budget ws (all-tail (HasMade budget) w ws all).1 k d (omega (arith, lt))

  sum-most : (budget : ℕ) (ws : List (Worker K)) → All (HasMade budget) ws → sum_by (λ (w : Worker K). length w.seat.me.0.made) ws ≤ length ws * budget
  sum-most budget [] all = omega arith
  sum-most budget (w ∷ ws) all = let t = all-tail (HasMade budget) w ws all in let r = sum-most budget ws t.1 in let a : suc (length ws) * budget ≡ budget + length ws * budget = omega arith in omega (arith, sum_by-cons (λ (w : Worker K). length w.seat.me.0.made) w ws, r, t.0.0, a)

  sum-or : (budget : ℕ) (ws : List (Worker K)) → All (HasMade budget) ws → SomeReadZero ws ⊎ (sum_by (λ (w : Worker K). length w.seat.me.0.made) ws ≡ length ws * budget)
  sum-or budget [] all = inr (omega arith)
  sum-or budget (w ∷ ws) all = let t = all-tail (HasMade budget) w ws all in elim t.0.1 [
    | inl z ↦ inl (ap (λ b. b || list_any (λ (w : Worker K). w.seat.me.0.read_zero) ws) z)
    | inr e ↦ (elim (sum-or budget ws t.1) [
      | inl some_zero ↦ inl (or-true w.seat.me.0.read_zero (list_any (λ (w : Worker K). w.seat.me.0.read_zero) ws) some_zero)
      | inr r ↦ inr (let a : suc (length ws) * budget ≡ budget + length ws * budget = omega arith in omega (arith, sum_by-cons (λ (w : Worker K). length w.seat.me.0.made) w ws, r, e, a))
    ])
  ]
    where
      or-true : (a b : Bool) → b ≡ true → (a || b) ≡ true
      or-true true b e = refl
      or-true false b e = e

module _ {K : Type 0} (rules : Rules K) where
  total-made : (start net : NetValue K) (ws : List (Worker K)) → IsShut rules start (made_by ws) net → turns_made net ≡ turns_made start + sum_by (λ (w : Worker K). length w.seat.me.0.made) ws
  total-made start net ws h = omega (arith, h.total, length-numbered (turns_made start) h.log, ap (λ xs. length xs) h.turns, length-made ws)

  -- All workers together made no more turns than they were to make, and so many unless one read 0.
  pub most-made : (start net : NetValue K) (ws : List (Worker K)) (n budget : ℕ) → IsShut rules start (made_by ws) net → length ws ≡ n → All (HasMade budget) ws → turns_made net ≤ turns_made start + n * budget
  most-made start net ws n budget h count all = let t = total-made start net ws h in let m = sum-most budget ws all in let e : length ws * budget ≡ n * budget = ap (λ k. k * budget) count in omega (arith, t, m, e)

  pub all-made : (start net : NetValue K) (ws : List (Worker K)) (n budget : ℕ) → IsShut rules start (made_by ws) net → length ws ≡ n → All (HasMade budget) ws → (turns_made net ≡ turns_made start + n * budget) ⊎ SomeReadZero ws
  all-made start net ws n budget h count all = let t = total-made start net ws h in let e : length ws * budget ≡ n * budget = ap (λ k. k * budget) count in elim (sum-or budget ws all) [
    | inl z ↦ inr z
    | inr m ↦ inl (omega (arith, t, m, e))
  ]
