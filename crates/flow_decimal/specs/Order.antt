-- The order of decimal numbers is total.
use Rattle.std.proofs.Common.{◌≡◌, ℕ, zero, suc, ◌*◌, ◌^◌, ◌<◌, ◌≤◌, refl, sym, ap, ◌∙◌, arith}
use Rattle.std.specs.Prelude.{ℤ, pos, negsuc, neg_ℤ, ◌*ℤ◌, ◌<ℤ◌}
use Rattle.std.proofs.Math.Nat.{mul_assoc, mul_comm, mul-lt-mul_of_pos_right, le-mul_of_pos_right, one-le-pow}
use Rattle.std.proofs.lemmas.Int.{ints}
use Rattle.std.specs.declared.cmp.Ordering.{Ordering}
use Rattle.std.specs.declared.cmp.Ordering.TheVariants.{Less, Equal, Greater}
use Rattle.std.specs.Ordering.{int_cmp, MatchOrdering, eq_by_cmp, as_partial_cmp}
use Rattle.std.specs.Cmp.{IsTotalOrder, IsPartialOrder, IsEquivalence, IsPartialEquivalence, Agrees, int_cmp_total, int_ranks, int_cmp_is, partial_order_from_total, eq_by_cmp_equiv, partial_equiv_from_equiv}
use Rattle.flow_decimal.specs.declared.decimal.Decimal.{Decimal}
use Rattle.flow_decimal.specs.Values.{over, decimal_cmp}

pub ten_pos : (n : ℕ) → 0 < 10 ^ n
ten_pos n = omega (arith, one-le-pow n 10 (omega arith))

-- Products of whole numbers

neg-times : (m n : ℕ) → neg_ℤ (pos m) *ℤ pos n ≡ neg_ℤ (pos (m * n))
neg-times zero n = let none : 0 * n ≡ 0 = omega arith in ap pos none ∙ ap (λ (k : ℕ). neg_ℤ (pos k)) (sym none)
neg-times (suc m) n = refl

pub times-times : (x : ℤ) (m n : ℕ) → (x *ℤ pos m) *ℤ pos n ≡ x *ℤ pos (m * n)
times-times (pos a) m n = ap pos (mul_assoc a m n)
times-times (negsuc a) m n = neg-times (suc a * m) n ∙ ap (λ (k : ℕ). neg_ℤ (pos k)) (mul_assoc (suc a) m n)

neg-below : (m n : ℕ) → n < m → neg_ℤ (pos m) <ℤ neg_ℤ (pos n)
neg-below m n h = omega (arith, ints)

neg-below-pos : (m n : ℕ) → 0 < m → neg_ℤ (pos m) <ℤ pos n
neg-below-pos m n h = omega (arith, ints)

pub some-times : (m k : ℕ) → 0 < k → 0 < suc m * k
some-times m k p = let more : k ≤ k * suc m = le-mul_of_pos_right k (omega arith) in omega (arith, mul_comm (suc m) k)

below-times : (x y : ℤ) (k : ℕ) → 0 < k → x <ℤ y → (x *ℤ pos k) <ℤ (y *ℤ pos k)
below-times (pos a) (pos b) k p h =
    let less : a * k < b * k = mul-lt-mul_of_pos_right (omega (arith, ints)) p in omega (arith, ints)
below-times (pos a) (negsuc b) k p h = absurd (omega (arith, ints))
below-times (negsuc a) (pos b) k p h = neg-below-pos (suc a * k) (b * k) (some-times a k p)
below-times (negsuc a) (negsuc b) k p h = neg-below (suc a * k) (suc b * k) (mul-lt-mul_of_pos_right (omega (arith, ints)) p)

ranks-times : (x y : ℤ) (k : ℕ) (r : Ordering) → 0 < k → MatchOrdering r (x <ℤ y) (x ≡ y) (y <ℤ x) → MatchOrdering r ((x *ℤ pos k) <ℤ (y *ℤ pos k)) (x *ℤ pos k ≡ y *ℤ pos k) ((y *ℤ pos k) <ℤ (x *ℤ pos k))
ranks-times x y k Less p h = below-times x y k p h
ranks-times x y k Equal p h = ap (λ (z : ℤ). z *ℤ pos k) h
ranks-times x y k Greater p h = below-times y x k p h

-- Both times the same positive number compare alike.
pub int_cmp-times : (x y : ℤ) (k : ℕ) → 0 < k → int_cmp x y ≡ int_cmp (x *ℤ pos k) (y *ℤ pos k)
int_cmp-times x y k p = int_cmp_is (x *ℤ pos k) (y *ℤ pos k) (int_cmp x y) (ranks-times x y k (int_cmp x y) p (int_ranks x y))

-- Three numbers over their common denominator

-- Two numbers compare as they do over any denominator that both have.
pub decimal_cmp-over : (a b : Decimal) (k : ℕ) → decimal_cmp a b ≡ int_cmp (over a (10 ^ b.fraction * 10 ^ k)) (over b (10 ^ a.fraction * 10 ^ k))
decimal_cmp-over a b k =
    int_cmp-times (over a (10 ^ b.fraction)) (over b (10 ^ a.fraction)) (10 ^ k) (ten_pos k)
    ∙ (λ i. int_cmp (times-times a.whole (10 ^ b.fraction) (10 ^ k) i) (times-times b.whole (10 ^ a.fraction) (10 ^ k) i))

first-two : (a b c : Decimal) → decimal_cmp a b ≡ int_cmp (over a (10 ^ b.fraction * 10 ^ c.fraction)) (over b (10 ^ a.fraction * 10 ^ c.fraction))
first-two a b c = decimal_cmp-over a b c.fraction

last-two : (a b c : Decimal) → decimal_cmp b c ≡ int_cmp (over b (10 ^ a.fraction * 10 ^ c.fraction)) (over c (10 ^ a.fraction * 10 ^ b.fraction))
last-two a b c = decimal_cmp-over b c a.fraction
    ∙ (λ i. int_cmp (over b (mul_comm (10 ^ c.fraction) (10 ^ a.fraction) i)) (over c (mul_comm (10 ^ b.fraction) (10 ^ a.fraction) i)))

outer-two : (a b c : Decimal) → decimal_cmp a c ≡ int_cmp (over a (10 ^ b.fraction * 10 ^ c.fraction)) (over c (10 ^ a.fraction * 10 ^ b.fraction))
outer-two a b c = decimal_cmp-over a c b.fraction
    ∙ ap (λ (k : ℕ). int_cmp (over a k) (over c (10 ^ a.fraction * 10 ^ b.fraction))) (mul_comm (10 ^ c.fraction) (10 ^ b.fraction))

-- The order is total.
pub decimal_cmp_total : IsTotalOrder decimal_cmp
decimal_cmp_total = record {
  antisymm = λ a b. int_cmp_total.antisymm (over a (10 ^ b.fraction)) (over b (10 ^ a.fraction));
  trans = λ a b c p q.
      let x = over a (10 ^ b.fraction * 10 ^ c.fraction) in
      let y = over b (10 ^ a.fraction * 10 ^ c.fraction) in
      let z = over c (10 ^ a.fraction * 10 ^ b.fraction) in
      outer-two a b c ∙ int_cmp_total.trans x y z (sym (first-two a b c) ∙ p) (sym (last-two a b c) ∙ q);
  congr = λ a b c p.
      let x = over a (10 ^ b.fraction * 10 ^ c.fraction) in
      let y = over b (10 ^ a.fraction * 10 ^ c.fraction) in
      let z = over c (10 ^ a.fraction * 10 ^ b.fraction) in
      outer-two a b c ∙ int_cmp_total.congr x y z (sym (first-two a b c) ∙ p) ∙ sym (last-two a b c);
}

-- What of it the traits ask for.
pub decimal_cmp_partial : IsPartialOrder (eq_by_cmp decimal_cmp) (as_partial_cmp decimal_cmp)
decimal_cmp_partial = partial_order_from_total decimal_cmp_total

pub decimal_eq_equiv : IsEquivalence (eq_by_cmp decimal_cmp)
decimal_eq_equiv = eq_by_cmp_equiv decimal_cmp_total

pub decimal_eq_laws : IsPartialEquivalence (eq_by_cmp decimal_cmp)
decimal_eq_laws = partial_equiv_from_equiv decimal_eq_equiv

pub decimal_cmp_agrees : Agrees (as_partial_cmp decimal_cmp) decimal_cmp
decimal_cmp_agrees = λ a b. refl

pub decimal_eq_ties : (a b : Decimal) → eq_by_cmp decimal_cmp a b ≡ eq_by_cmp decimal_cmp a b
decimal_eq_ties a b = refl
