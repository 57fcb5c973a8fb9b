-- How two numbers compare, by their sizes.
use Rattle.std.proofs.Common.{◌≡◌, ℕ, suc, ◌-◌, ◌*◌, ◌^◌, ◌<◌, ◌≤◌, refl, sym, ap, ◌∙◌, arith}
use Rattle.std.specs.Prelude.{ℤ, pos, negsuc, neg_ℤ, ◌*ℤ◌, ◌<ℤ◌, ◌≤ℤ◌, unsigned_abs}
use Rattle.std.specs.declared.cmp.Ordering.{Ordering}
use Rattle.std.proofs.lemmas.Int.{ints}
use Rattle.std.proofs.Math.Nat.{mul-lt-mul_of_pos_right}
use Rattle.std.specs.declared.cmp.Ordering.TheVariants.{Less, Equal, Greater}
use Rattle.std.specs.Ordering.{nat_cmp, int_cmp, ordering_reverse, MatchOrdering}
use Rattle.std.specs.Cmp.{nat_cmp_total, nat_cmp_is, int_cmp_is, ranked}
use Rattle.flow_decimal.specs.Order.{ten_pos, some-times}
use Rattle.flow_decimal.proofs.Scaling.{zeros-more}

ranks : (x y : ℕ) → MatchOrdering (nat_cmp x y) (x < y) (x ≡ y) (y < x)
ranks x y = ranked x y (nat_cmp x y) refl

pub above : (x y : ℕ) → y < x → Greater ≡ nat_cmp x y
above x y h = nat_cmp_is x y Greater h

ranks-times : (x y k : ℕ) (r : Ordering) → 0 < k → MatchOrdering r (x < y) (x ≡ y) (y < x) → MatchOrdering r (x * k < y * k) (x * k ≡ y * k) (y * k < x * k)
ranks-times x y k Less p h = mul-lt-mul_of_pos_right h p
ranks-times x y k Equal p h = ap (λ (z : ℕ). z * k) h
ranks-times x y k Greater p h = mul-lt-mul_of_pos_right h p

-- both times the same positive number compare alike
times-alike : (x y k : ℕ) → 0 < k → nat_cmp x y ≡ nat_cmp (x * k) (y * k)
times-alike x y k p = nat_cmp_is (x * k) (y * k) (nat_cmp x y) (ranks-times x y k (nat_cmp x y) p (ranks x y))

-- so it is enough to scale the one with the longer fraction
pub first-scaled : (size zeros other others : ℕ) → others ≤ zeros → nat_cmp (size * 10 ^ (zeros - others)) other ≡ nat_cmp (size * 10 ^ zeros) (other * 10 ^ others)
first-scaled size zeros other others h =
    times-alike (size * 10 ^ (zeros - others)) other (10 ^ others) (ten_pos others)
    ∙ ap (λ (n : ℕ). nat_cmp n (other * 10 ^ others)) (zeros-more size zeros others h)

pub turned : (x y : ℕ) → ordering_reverse (nat_cmp y x) ≡ nat_cmp x y
turned x y = sym (nat_cmp_total.antisymm x y)

pub second-scaled : (size zeros other others : ℕ) → zeros ≤ others → ordering_reverse (nat_cmp (other * 10 ^ (others - zeros)) size) ≡ nat_cmp (size * 10 ^ zeros) (other * 10 ^ others)
second-scaled size zeros other others h = ap ordering_reverse (first-scaled other others size zeros h) ∙ turned (size * 10 ^ zeros) (other * 10 ^ others)

-- whole numbers by their sizes

up-by : (m n : ℕ) (r : Ordering) → MatchOrdering r (m < n) (m ≡ n) (n < m) → MatchOrdering r (pos m <ℤ pos n) (pos m ≡ pos n) (pos n <ℤ pos m)
up-by m n Less h = omega (arith, ints)
up-by m n Equal h = ap pos h
up-by m n Greater h = omega (arith, ints)

up : (m n : ℕ) → nat_cmp m n ≡ int_cmp (pos m) (pos n)
up m n = int_cmp_is (pos m) (pos n) (nat_cmp m n) (up-by m n (nat_cmp m n) (ranks m n))

down-by : (m n : ℕ) (r : Ordering) → MatchOrdering r (n < m) (n ≡ m) (m < n) → MatchOrdering r (neg_ℤ (pos m) <ℤ neg_ℤ (pos n)) (neg_ℤ (pos m) ≡ neg_ℤ (pos n)) (neg_ℤ (pos n) <ℤ neg_ℤ (pos m))
down-by m n Less h = omega (arith, ints)
down-by m n Equal h = ap (λ (k : ℕ). neg_ℤ (pos k)) (sym h)
down-by m n Greater h = omega (arith, ints)

down : (m n : ℕ) → nat_cmp n m ≡ int_cmp (neg_ℤ (pos m)) (neg_ℤ (pos n))
down m n = int_cmp_is (neg_ℤ (pos m)) (neg_ℤ (pos n)) (nat_cmp n m) (down-by m n (nat_cmp n m) (ranks n m))

neg-low : (m n : ℕ) → 0 < m → neg_ℤ (pos m) <ℤ pos n
neg-low m n h = omega (arith, ints)

-- neither is below zero
pub both-up : (x y : ℤ) (k l : ℕ) → pos 0 ≤ℤ x → pos 0 ≤ℤ y → nat_cmp (unsigned_abs x * k) (unsigned_abs y * l) ≡ int_cmp (x *ℤ pos k) (y *ℤ pos l)
both-up (pos a) (pos b) k l p q = up (a * k) (b * l)
both-up (pos a) (negsuc b) k l p q = absurd (omega (arith, ints))
both-up (negsuc a) y k l p q = absurd (omega (arith, ints))

-- both are
pub both-down : (x y : ℤ) (k l : ℕ) → x <ℤ pos 0 → y <ℤ pos 0 → nat_cmp (unsigned_abs y * l) (unsigned_abs x * k) ≡ int_cmp (x *ℤ pos k) (y *ℤ pos l)
both-down (negsuc a) (negsuc b) k l p q = down (suc a * k) (suc b * l)
both-down (negsuc a) (pos b) k l p q = absurd (omega (arith, ints))
both-down (pos a) y k l p q = absurd (omega (arith, ints))

-- the first is
pub down-up : (x y : ℤ) (k l : ℕ) → 0 < k → x <ℤ pos 0 → pos 0 ≤ℤ y → Less ≡ int_cmp (x *ℤ pos k) (y *ℤ pos l)
down-up (negsuc a) (pos b) k l s p q = int_cmp_is (neg_ℤ (pos (suc a * k))) (pos (b * l)) Less (neg-low (suc a * k) (b * l) (some-times a k s))
down-up (negsuc a) (negsuc b) k l s p q = absurd (omega (arith, ints))
down-up (pos a) y k l s p q = absurd (omega (arith, ints))

-- the second is
pub up-down : (x y : ℤ) (k l : ℕ) → 0 < l → pos 0 ≤ℤ x → y <ℤ pos 0 → Greater ≡ int_cmp (x *ℤ pos k) (y *ℤ pos l)
up-down (pos a) (negsuc b) k l s p q = int_cmp_is (pos (a * k)) (neg_ℤ (pos (suc b * l))) Greater (neg-low (suc b * l) (a * k) (some-times b l s))
up-down (pos a) (pos b) k l s p q = absurd (omega (arith, ints))
up-down (negsuc a) y k l s p q = absurd (omega (arith, ints))
