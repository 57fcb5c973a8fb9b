-- Each process that is done stays retired.
use Rattle.std.proofs.Common.{◌≡◌, ℕ, ◌<◌, ◌≤◌, List, length, get_or, set, sym, ap, ◌∙◌, subst, arith, Some, slice_get, slice_set, get_or-set_other, get_or-set_same, inl, inr}
use mathlib.Core.Logic.{dite}
use native.Mathlib.Decide.{ℕ_discrete}
use Rattle.flow_model.proofs.Lists.{slice_get-set_other}
use Rattle.flow_machine.specs.Values.{BodyValue}
use Rattle.flow_floor.specs.Law.{IsTaken}
use Rattle.flow_floor.specs.Waking.{IsDoneWord, IsRetired, AllRetired}
use Rattle.flow_floor.proofs.Lists.{get-within}

-- A process that a seat holds isn't done.
pub taken-undone : (w : ℕ) → IsTaken w → IsDoneWord w → ⊥
taken-undone w (inl a) (inl b) = omega (arith, a, b)
taken-undone w (inl a) (inr b) = omega (arith, a, b)
taken-undone w (inr a) (inl b) = omega (arith, a, b)
taken-undone w (inr a) (inr b) = omega (arith, a, b)

-- A word up to 3 says that its process isn't done.
pub low-undone : (w : ℕ) → w ≤ 3 → IsDoneWord w → ⊥
low-undone w low (inl e) = omega (arith, low, e)
low-undone w low (inr e) = omega (arith, low, e)

module _ {K : Type 0} where
  -- The word of one process changes.
  pub done-set : (ws : List ℕ) (i y : ℕ) (bs : List (BodyValue K)) → i < length ws → ((b : BodyValue K) → slice_get bs i ≡ Some b → IsDoneWord y → IsRetired b) → AllRetired ws bs → AllRetired (set ws i y) bs
  done-set ws i y bs inside here all q b there done = dite (ℕ_discrete q i)
      (λ e. here b (ap (slice_get bs) (sym e) ∙ there) (subst IsDoneWord (ap (λ n. get_or (set ws i y) n 0) e ∙ get_or-set_same ws i y 0 inside) done))
      (λ other. all q b there (subst IsDoneWord (get_or-set_other ws i q y 0 other) done))

  -- A word changes that is no process's.
  pub done-beyond : (ws : List ℕ) (i y : ℕ) (bs : List (BodyValue K)) → length bs ≤ i → AllRetired ws bs → AllRetired (set ws i y) bs
  done-beyond ws i y bs beyond all q b there done = all q b there (subst IsDoneWord (get_or-set_other ws i q y 0 (λ e. omega (arith, e, beyond, get-within bs q b there))) done)

  -- The body of a process changes that a seat holds.
  pub done-body : (ws : List ℕ) (p : ℕ) (d : BodyValue K) (bs : List (BodyValue K)) → IsTaken (get_or ws p 0) → AllRetired ws bs → AllRetired ws (slice_set bs p d)
  done-body ws p d bs taken all q b there done = dite (ℕ_discrete q p)
      (λ e. absurd (taken-undone (get_or ws p 0) taken (subst IsDoneWord (ap (λ n. get_or ws n 0) e) done)))
      (λ other. all q b (sym (slice_get-set_other bs p q d other) ∙ there) done)
