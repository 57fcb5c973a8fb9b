-- Sums of decimal numbers.
use Rattle.std.proofs.Common.{◌≡◌, ℕ, suc, ◌-◌, ◌*◌, ◌^◌, ◌<◌, ◌≤◌, Option, refl, sym, subst, ap, ◌∙◌, arith}
use Rattle.std.specs.Prelude.{ℤ, pos, negsuc, neg_ℤ, ◌+ℤ◌, ◌*ℤ◌, ◌<ℤ◌, ◌≤ℤ◌, unsigned_abs, FitsSigned}
use Rattle.std.specs.Int.{w128}
use Rattle.std.specs.Option.{SomeIff}
use Rattle.std.specs.Ordering.{int_cmp}
use Rattle.std.specs.Cmp.{int_cmp_total, tied_itself}
use Rattle.std.proofs.lemmas.Int.{ints}
use Rattle.std.proofs.lemmas.Nat.{pow-add}
use Rattle.std.proofs.Math.Nat.{max_comm, mul-one}
use Rattle.std.proofs.Math.IntN.{+ℤ_comm}
use Rattle.flow_decimal.specs.declared.decimal.Decimal.{Decimal}
use Rattle.flow_decimal.specs.Values.{over, lengthened, longer, sum}
use Rattle.flow_decimal.specs.Order.{times-times}
use Rattle.flow_decimal.specs.Laws.{LengtheningKeeps, SumsCommute}

-- a product by the size of its first factor
pub over-up : (w : ℤ) (p : ℕ) → pos 0 ≤ℤ w → pos (unsigned_abs w * p) ≡ w *ℤ pos p
over-up (pos n) p h = refl
over-up (negsuc n) p h = absurd (omega (arith, ints))

pub over-down : (w : ℤ) (p : ℕ) → w <ℤ pos 0 → neg_ℤ (pos (unsigned_abs w * p)) ≡ w *ℤ pos p
over-down (pos n) p h = absurd (omega (arith, ints))
over-down (negsuc n) p h = refl

-- the sum with a product that has more than 128 bits has too
far-up : (x : ℤ) (m : ℕ) → FitsSigned w128 x → 2 ^ 128 ≤ m → ¬ (FitsSigned w128 (x +ℤ pos m))
far-up x m f large = λ g. omega (arith, ints)

far-down : (x : ℤ) (m : ℕ) → FitsSigned w128 x → 2 ^ 128 ≤ m → ¬ (FitsSigned w128 (x +ℤ neg_ℤ (pos m)))
far-down x m f large = λ g. omega (arith, ints)

pub far : (x w : ℤ) (p : ℕ) → FitsSigned w128 x → ¬ (unsigned_abs w * p < 2 ^ 128) → ¬ (FitsSigned w128 (x +ℤ w *ℤ pos p))
far x (pos n) p f large = far-up x (n * p) f (omega (arith, large))
far x (negsuc n) p f large = far-down x (suc n * p) f (omega (arith, large))

-- The sum, at the longer fraction

abbrev at : Decimal → Decimal → ℕ → Decimal
at a b f = record { whole = over a (10 ^ (f - a.fraction)) +ℤ over b (10 ^ (f - b.fraction)); fraction = f }

times-one : (x : ℤ) → x *ℤ pos 1 ≡ x
times-one (pos n) = ap pos (mul-one n)
times-one (negsuc n) = ap (λ (k : ℕ). neg_ℤ (pos k)) (mul-one (suc n))

unlengthened : (a : Decimal) → over a (10 ^ (a.fraction - a.fraction)) ≡ a.whole
unlengthened a = let none : a.fraction - a.fraction ≡ 0 = omega arith in ap (λ (k : ℕ). over a (10 ^ k)) none ∙ times-one a.whole

-- with one whose fraction is no longer
pub sum-shorter : (a b : Decimal) → b.fraction ≤ a.fraction → record { whole = a.whole +ℤ (lengthened b a.fraction).whole; fraction = a.fraction } ≡ sum a b
sum-shorter a b h =
    let same : a.fraction ≡ longer a b = omega arith in
    ap (λ (x : ℤ). record { whole = x +ℤ over b (10 ^ (a.fraction - b.fraction)); fraction = a.fraction }) (sym (unlengthened a)) ∙ ap (at a b) same

pub shorter-some : (a b : Decimal) (whole : ℤ) → b.fraction ≤ a.fraction → FitsSigned w128 (a.whole +ℤ (lengthened b a.fraction).whole) → whole ≡ a.whole +ℤ (lengthened b a.fraction).whole
    → FitsSigned w128 (sum a b).whole × (record { whole = whole; fraction = a.fraction } ≡ sum a b)
shorter-some a b whole h f is =
    let e = sum-shorter a b h in
    (subst (λ (d : Decimal). FitsSigned w128 d.whole) e f, ap (λ (w : ℤ). record { whole = w; fraction = a.fraction }) is ∙ e)

pub shorter-none : (a b : Decimal) → b.fraction ≤ a.fraction → ¬ (FitsSigned w128 (a.whole +ℤ (lengthened b a.fraction).whole)) → ¬ (FitsSigned w128 (sum a b).whole)
shorter-none a b h n = λ f. n (subst (λ (d : Decimal). FitsSigned w128 d.whole) (sym (sum-shorter a b h)) f)

pub sums-commute : SumsCommute
sums-commute a b =
    ap (at a b) (max_comm a.fraction b.fraction)
    ∙ ap (λ (x : ℤ). record { whole = x; fraction = longer b a }) (+ℤ_comm (over a (10 ^ (longer b a - a.fraction))) (over b (10 ^ (longer b a - b.fraction))))

-- what is said of a sum, said of it the other way round
pub either-way : (r : Option Decimal) (a b : Decimal) → SomeIff r (FitsSigned w128 (sum b a).whole) (sum b a) → SomeIff r (FitsSigned w128 (sum a b).whole) (sum a b)
either-way r a b h = subst (λ (d : Decimal). SomeIff r (FitsSigned w128 d.whole) d) (sums-commute b a) h

-- A number at a longer fraction

pub lengthening-keeps : LengtheningKeeps
lengthening-keeps number fraction h =
    let more : 10 ^ (fraction - number.fraction) * 10 ^ number.fraction ≡ 10 ^ fraction = sym (pow-add 10 (fraction - number.fraction) number.fraction) ∙ ap (λ (k : ℕ). 10 ^ k) (omega arith) in
    let same : over (lengthened number fraction) (10 ^ number.fraction) ≡ over number (10 ^ fraction) = times-times number.whole (10 ^ (fraction - number.fraction)) (10 ^ number.fraction) ∙ ap (over number) more in
    ap (int_cmp (over number (10 ^ fraction))) same ∙ tied_itself int_cmp_total (over number (10 ^ fraction))
