-- A function that is changed at one place, and a number that is changed where it is this one.
use Rattle.std.proofs.Common.{◌≡◌, ◌≢◌, ℕ, refl, ap, eq-eqb, ne_eqb, ◌==◌}
use native.Mathlib.Decide.{ℕ_discrete}
use prog.Atomic.{either}

abbrev pick : {P A : Type 0} → Dec P → A → A → A
pick (yes _) a b = a
pick (no _) a b = b

module _ {A : Type 0} where
  -- f with c at i
  pub put : (ℕ → A) → ℕ → A → ℕ → A
  put f i c j = pick (ℕ_discrete j i) c (f j)

  pub put_here : (f : ℕ → A) (i : ℕ) (c : A) → put f i c i ≡ c
  unfolding put
  put_here f i c = go (ℕ_discrete i i)
    where
      go : (d : Dec (i ≡ i)) → pick d c (f i) ≡ c
      go (yes _) = refl
      go (no n) = absurd (n refl)

  pub put_else : (f : ℕ → A) (i : ℕ) (c : A) (j : ℕ) → j ≢ i → put f i c j ≡ f j
  unfolding put
  put_else f i c j other = go (ℕ_discrete j i)
    where
      go : (d : Dec (j ≡ i)) → pick d c (f j) ≡ f j
      go (yes e) = absurd (other e)
      go (no _) = refl

pub hit : (n old new : ℕ) → n ≡ old → either (n == old) new n ≡ new
hit n old new e = ap (λ b. either b new n) (eq-eqb n old e)

pub miss : (n old new : ℕ) → n ≢ old → either (n == old) new n ≡ n
miss n old new ne = ap (λ b. either b new n) (ne_eqb n old ne)
