-- The folding of a Count is one, and tells how many texts came.
use Rattle.std.proofs.Common.{◌≡◌, ℕ, ◌+◌, ◌-◌, ◌^◌, ◌≤◌, [], ◌∷◌, length, sym, ap, arith}
use Rattle.std.specs.Fmt.{decimal}
use Rattle.flow_fold.specs.Folding.{Keeps, IsFolding}
use Rattle.flow_fold.specs.Made.{Texts, Leads, IsFolded}
use Rattle.flow_fold.specs.Count.{counted, count_folding, count_folded}

module _ {K : Type 0} where
  -- The folding of a Count is one.
  pub count_laws : IsFolding (count_folding {K = K})
  count_laws = record { refuses = λ kind number text cause e. absurd (cc) }

  counts : (kind : K) (texts : Texts) (number last : ℕ) → number ≤ 2 ^ 64 - 1 → Leads count_folding kind number texts last → last ≡ counted (number + length texts)
  counts kind [] number last few l = omega (arith, l)
  counts kind (text ∷ texts) number last few l =
      let next : l.0 ≡ counted (number + 1) = (let e : counted (number + 1) ≡ l.0 = (let k : Keeps (counted (number + 1)) ≡ Keeps l.0 = l.1 in cc) in sym e) in
      let rest : last ≡ counted (l.0 + length texts) = counts kind texts l.0 last (omega (arith, next)) l.2 in
      omega (arith, next, rest, few)

  -- It tells how many texts came.
  pub count_tells : IsFolded (count_folding {K = K}) count_folded
  count_tells kind texts last l =
      let all : last ≡ counted (0 + length texts) = counts kind texts 0 last (omega arith) l in
      let e : last ≡ counted (length texts) = omega (arith, all) in
      ap (λ (n : ℕ). decimal n ∷ []) e
