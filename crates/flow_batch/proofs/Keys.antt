-- The order of keys.
use Rattle.std.proofs.Common.{◌≡◌, ◌≢◌, ℕ, Bool, true, false, List, refl, sym, ap, ◌∙◌}
use Rattle.std.specs.Ordering.{nat_cmp, is_gt, is_lt, is_eq, ordering_reverse}
use Rattle.std.specs.declared.cmp.Ordering.{Ordering}
use Rattle.std.specs.declared.cmp.Ordering.TheVariants.{Less, Equal, Greater}
use Rattle.std.specs.Cmp.Lexicographic.{slice_cmp, bytes_decides}
use Rattle.std.specs.Str.{bytes_eq}
use Rattle.std.proofs.lemmas.Cmp.{nat_list_cmp_total, upto, tied_itself}
use Rattle.std.proofs.lemmas.Map.Text.{is_eq-slice_cmp}
use Rattle.flow_batch.specs.Ledger.{is_greater}

-- A key is itself.
pub same_bytes : (a : List ℕ) → bytes_eq a a ≡ true
same_bytes a = (bytes_decides a a).1 refl

-- Two keys that pass the test are one.
pub equal-bytes : (a b : List ℕ) → bytes_eq a b ≡ true → a ≡ b
equal-bytes a b is = (bytes_decides a b).0 is

by-false : (b : Bool) → (b ≡ true → ⊥) → b ≡ false
by-false true never = absurd (never refl)
by-false false never = refl

-- Two keys that aren't one don't pass it.
pub other-bytes : (a b : List ℕ) → a ≢ b → bytes_eq a b ≡ false
other-bytes a b other = by-false (bytes_eq a b) (λ is. other (equal-bytes a b is))

-- The test answers the same of the two keys turned round.
pub turned-bytes : (a b : List ℕ) → bytes_eq a b ≡ false → bytes_eq b a ≡ false
turned-bytes a b not = by-false (bytes_eq b a) (λ is. (let t : bytes_eq a b ≡ true = ap (bytes_eq a) (equal-bytes b a is) ∙ same_bytes a in let f : true ≡ false = sym t ∙ not in cc))

-- No key is greater than itself.
pub not-greater : (a : List ℕ) → is_greater a a ≡ false
not-greater a = ap is_gt (tied_itself nat_list_cmp_total a)

-- A key that isn't greater than a second, which isn't greater than a third, isn't greater than the third.
pub up : (a b c : List ℕ) → is_greater a b ≡ false → is_greater b c ≡ false → is_greater a c ≡ false
up a b c p q = upto nat_list_cmp_total a b c p q

less-of : (o : Ordering) → is_gt o ≡ false → is_eq o ≡ false → o ≡ Less
less-of Less g e = refl
less-of Equal g e = absurd (cc)
less-of Greater g e = absurd (cc)

-- A key that isn't greater than another one is less.
pub less-key : (a b : List ℕ) → is_greater a b ≡ false → bytes_eq a b ≡ false → slice_cmp nat_cmp a b ≡ Less
less-key a b g e = less-of (slice_cmp nat_cmp a b) g (is_eq-slice_cmp a b ∙ e)

-- A lesser key isn't greater.
pub less-up : (a b : List ℕ) → slice_cmp nat_cmp a b ≡ Less → is_greater a b ≡ false
less-up a b l = ap is_gt l

-- A lesser key is another.
pub less-other : (a b : List ℕ) → slice_cmp nat_cmp a b ≡ Less → bytes_eq a b ≡ false
less-other a b l = sym (is_eq-slice_cmp a b) ∙ ap is_eq l

-- A key that isn't greater than a lesser one is less.
pub up-less : (a b c : List ℕ) → is_greater a b ≡ false → slice_cmp nat_cmp b c ≡ Less → slice_cmp nat_cmp a c ≡ Less
up-less a b c g l = by (bytes_eq a b) refl
  where
    by : (t : Bool) → bytes_eq a b ≡ t → slice_cmp nat_cmp a c ≡ Less
    by true t = ap (λ (k : List ℕ). slice_cmp nat_cmp k c) (equal-bytes a b t) ∙ l
    by false t = nat_list_cmp_total.trans a b c (less-key a b g t) l

-- A key that is less than one that isn't greater than a third is less than the third.
pub less-then_up : (a b c : List ℕ) → slice_cmp nat_cmp a b ≡ Less → is_greater b c ≡ false → slice_cmp nat_cmp a c ≡ Less
less-then_up a b c l g = by (bytes_eq b c) refl
  where
    by : (t : Bool) → bytes_eq b c ≡ t → slice_cmp nat_cmp a c ≡ Less
    by true t = ap (slice_cmp nat_cmp a) (sym (equal-bytes b c t)) ∙ l
    by false t = nat_list_cmp_total.trans a b c l (less-key b c g t)

back-up : (o : Ordering) → is_lt o ≡ false → is_gt (ordering_reverse o) ≡ false
back-up Less h = absurd (cc)
back-up Equal h = refl
back-up Greater h = refl

-- Of two keys, where one isn't less than the other, the other isn't greater than it.
pub not-less : (a b : List ℕ) → is_lt (slice_cmp nat_cmp a b) ≡ false → is_greater b a ≡ false
not-less a b h = ap is_gt (nat_list_cmp_total.antisymm b a) ∙ back-up (slice_cmp nat_cmp a b) h

less-is : (o : Ordering) → is_lt o ≡ true → o ≡ Less
less-is Less h = refl
less-is Equal h = absurd (cc)
less-is Greater h = absurd (cc)

-- What the test for less says.
pub tested-less : (a b : List ℕ) → is_lt (slice_cmp nat_cmp a b) ≡ true → slice_cmp nat_cmp a b ≡ Less
tested-less a b h = less-is (slice_cmp nat_cmp a b) h
