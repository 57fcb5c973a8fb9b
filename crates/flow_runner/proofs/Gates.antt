-- The gate was passed before the first work of a process that a worker holds.
use Rattle.std.proofs.Common.{◌≡◌, ℕ, zero, suc, ◌+◌, ◌≤◌, arith, refl, subst}
use Rattle.flow_machine.specs.Thoughts.{PassesFirst}
use Rattle.flow_floor.specs.declared.floor.Held.{Held}

module _ {K : Type 0} where
  -- After so many attempts at turns of what was held at first: there was none, and all is as it was; or the gate was passed for that.
  pub record IsGated (has_passed : ℕ → ℕ → Type 0) (attempts : ℕ) (first now : Held K) (left left' : ℕ) : Type 0 where
    pub none : attempts ≡ 0 → (now ≡ first) × (left' ≡ left)
    pub some : 1 ≤ attempts → PassesFirst has_passed first.body

  pub gated-begins : (has_passed : ℕ → ℕ → Type 0) (h : Held K) (left : ℕ) → IsGated has_passed 0 h h left left
  gated-begins has_passed h left = record { none = λ _. (refl, refl); some = λ some. absurd (omega (arith, some)) }

  -- What is held was passed for, so what was held at first was.
  pub gated-first : (has_passed : ℕ → ℕ → Type 0) (attempts : ℕ) (first now : Held K) (left left' : ℕ) → IsGated has_passed attempts first now left left' → PassesFirst has_passed now.body → PassesFirst has_passed first.body
  gated-first has_passed zero first now left left' gated passed = subst (λ (h : Held K). PassesFirst has_passed h.body) (gated.none refl).0 passed
  gated-first has_passed (suc n) first now left left' gated passed = gated.some (omega arith)

  -- One attempt more.
  pub gated-more : (has_passed : ℕ → ℕ → Type 0) (attempts : ℕ) (first now later : Held K) (left left' left'' : ℕ) → IsGated has_passed attempts first now left left' → PassesFirst has_passed now.body → IsGated has_passed (attempts + 1) first later left left''
  gated-more has_passed attempts first now later left left' left'' gated passed = record { none = λ none. absurd (omega (arith, none)); some = λ _. gated-first has_passed attempts first now left left' gated passed }

  -- Where nothing is left it was passed, if anything was left at first.
  pub gated-spent : (has_passed : ℕ → ℕ → Type 0) (attempts : ℕ) (first now : Held K) (left left' : ℕ) → IsGated has_passed attempts first now left left' → left' ≡ 0 → 1 ≤ left → PassesFirst has_passed first.body
  gated-spent has_passed zero first now left left' gated spent some = absurd (omega (arith, (gated.none refl).1, spent, some))
  gated-spent has_passed (suc n) first now left left' gated spent some = gated.some (omega arith)
