-- The numbers of elements: each is below the total of its side, no two are the same, and none is left out.
use Rattle.std.proofs.Common.{◌≡◌, ℕ, ◌+◌, ◌-◌, ◌<◌, ◌≤◌, List, [], ◌∷◌, Some, refl, ap, sym, subst, zero, suc, inl, inr, ◌⊎◌, slice_get, take, arith}
use Rattle.std.specs.List.{sum_by}
use Rattle.std.proofs.lemmas.Bool.{cases_lt}
use Rattle.std.proofs.lemmas.List.Sums.{sum_by-cons}
use Rattle.flow_net.specs.declared.draft.DraftPort.{DraftPort}

-- the number of element e of port g, among the ports that a count takes
abbrev pub number_at : (DraftPort → ℕ) → List DraftPort → ℕ → ℕ → ℕ
number_at count ports g e = sum_by count (take g ports) + e

-- The number of an element is below the number of all elements.
pub number-within : (count : DraftPort → ℕ) (ports : List DraftPort) (g e : ℕ) (port : DraftPort) → slice_get ports g ≡ Some port → e < count port → number_at count ports g e < sum_by count ports
number-within count [] g e port here within = absurd (cc)
number-within count (p ∷ ports) zero e port here within =
    let same : p ≡ port = cc in
    let first : e < count p = subst (λ (q : DraftPort). e < count q) (sym same) within in
    omega (arith, sum_by-cons count p ports)
number-within count (p ∷ ports) (suc g) e port here within = omega (arith, number-within count ports g e port here within, sum_by-cons count p ports, sum_by-cons count p (take g ports))

-- Two elements with one number are the same.
pub number-same : (count : DraftPort → ℕ) (ports : List DraftPort) (g e h f : ℕ) (port other : DraftPort) → slice_get ports g ≡ Some port → slice_get ports h ≡ Some other → e < count port → f < count other → number_at count ports g e ≡ number_at count ports h f → (g ≡ h) × (e ≡ f)
number-same count [] g e h f port other here there low high same = absurd (cc)
number-same count (p ∷ ports) zero e zero f port other here there low high same = (refl, omega arith)
number-same count (p ∷ ports) zero e (suc h) f port other here there low high same =
    let first : p ≡ port = cc in
    let within : e < count p = subst (λ (q : DraftPort). e < count q) (sym first) low in
    absurd (omega (arith, sum_by-cons count p (take h ports)))
number-same count (p ∷ ports) (suc g) e zero f port other here there low high same =
    let first : p ≡ other = cc in
    let within : f < count p = subst (λ (q : DraftPort). f < count q) (sym first) high in
    absurd (omega (arith, sum_by-cons count p (take g ports)))
number-same count (p ∷ ports) (suc g) e (suc h) f port other here there low high same =
    let later = number-same count ports g e h f port other here there low high (omega (arith, sum_by-cons count p (take g ports), sum_by-cons count p (take h ports))) in
    (ap suc later.0, later.1)

-- An element that has this number.
pub record Numbered (count : DraftPort → ℕ) (ports : List DraftPort) (i : ℕ) : Type 0 where
  pub place : ℕ
  pub element : ℕ
  pub port : DraftPort
  pub here : slice_get ports place ≡ Some port
  pub within : element < count port
  pub number : number_at count ports place element ≡ i

-- Each number below that of all elements is some element's.
pub number-each : (count : DraftPort → ℕ) (ports : List DraftPort) (i : ℕ) → i < sum_by count ports → Numbered count ports i
number-each count [] i within = absurd (omega arith)
number-each count (p ∷ ports) i within = by (cases_lt i (count p)) (λ past. number-each count ports (i - count p) (omega (arith, past, sum_by-cons count p ports)))
  where
    by : (i < count p) ⊎ (count p ≤ i) → (count p ≤ i → Numbered count ports (i - count p)) → Numbered count (p ∷ ports) i
    by (inl first) later = record { place = 0; element = i; port = p; here = refl; within = first; number = omega arith }
    by (inr past) later =
        let at = later past in
        record { place = suc at.place; element = at.element; port = at.port; here = at.here; within = at.within; number = omega (arith, at.number, past, sum_by-cons count p (take at.place ports)) }
