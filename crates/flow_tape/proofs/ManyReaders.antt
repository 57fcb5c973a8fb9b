-- The reader of many of the same sort, and that of the name.
use Rattle.std.proofs.Common.{◌≡◌, ℕ, List, [], ◌∷◌, length, map, Ok, suc, zero, refl, ap, arith}
use Rattle.std.specs.Prelude.{replicate}
use Rattle.std.specs.List.{flat_map, AllByRecursion}
use Rattle.flow_tape.specs.Fields.{Field, Letter, IsWhole}
use Rattle.flow_own.specs.Reading.{Read, ◌>>=◌, many_at}
use Rattle.flow_tape.specs.Reading.{letter_at, letters_at}
use Rattle.flow_tape.proofs.Readers.{Fits, Reads, whole-join, matched-reads, joined_fields, AlsoAt, Joins, joined-reads, agreed-reads, given-reads}
use Rattle.flow_tape.proofs.FieldReaders.{Any, letter_fields, letter-reads}

-- So many values, of each of which this is asked.
abbrev pub AreMany : {A : Type 0} → (A → Type 0) → ℕ → List A → Type 0
AreMany Also n xs = AllByRecursion Also xs × (length xs ≡ n)

abbrev head_or : {A : Type 0} → A → List A → A
head_or a [] = a
head_or a (x ∷ xs) = x

abbrev tail_of : {A : Type 0} → List A → List A
tail_of [] = []
tail_of (x ∷ xs) = xs

abbrev tail_fields : {A : Type 0} → (A → List Field) → List A → List Field
tail_fields fields xs = flat_map fields (tail_of xs)

abbrev then_many : {A : Type 0} → (List ℕ → Read A) → ℕ → A → List ℕ → Read (List A)
then_many read n a bytes = many_at read n bytes >>= λ y. Ok (a ∷ y.0, y.1)

module _ {A : Type 0} (read : List ℕ → Read A) (fields : A → List Field) (Also : A → Type 0) (some : A) (some_fits : Fits fields Also some) (reads : Reads read fields Also) where
  pub some-many : (n : ℕ) → Fits (flat_map fields) (AreMany Also n) (replicate n some)
  some-many zero = (tt, (tt, refl))
  some-many (suc n) = let rest = some-many n in (whole-join (fields some) (flat_map fields (replicate n some)) some_fits.0 rest.0, ((some_fits.1, rest.1.0), ap suc rest.1.1))

  none_of : (xs : List A) → AreMany Also 0 xs → xs ≡ []
  none_of [] also = refl
  none_of (x ∷ xs) also = absurd (omega (arith, also.1))

  none-reads : Reads (many_at read zero) (flat_map fields) (AreMany Also 0)
  unfolding many_at
  none-reads = given-reads [] (flat_map fields) (AreMany Also 0) refl (tt, refl) none_of

  rest-of : (n : ℕ) (a : A) (xs : List A) → AlsoAt (AreMany Also (suc n)) (head_or some) a xs → (ys : List A) × AreMany Also n ys × (xs ≡ a ∷ ys)
  rest-of n a [] also = absurd (omega (arith, also.0.1))
  rest-of n a (x ∷ xs) also = (xs, (also.0.0.1, omega (arith, also.0.1)), ap (λ (y : A). y ∷ xs) also.1)

  head-also : (n : ℕ) (xs : List A) → AreMany Also (suc n) xs → Also (head_or some xs)
  head-also n [] also = absurd (omega (arith, also.1))
  head-also n (x ∷ xs) also = also.0.0

  more-joins : (n : ℕ) → Reads (many_at read n) (flat_map fields) (AreMany Also n) → Joins read fields Also (then_many read n) (tail_fields fields) (AreMany Also (suc n)) (head_or some)
  more-joins n others = record {
    first = reads;
    second = λ a fit. matched-reads (many_at read n) (flat_map fields) (AreMany Also n) (λ ys. a ∷ ys) (tail_fields fields) (AlsoAt (AreMany Also (suc n)) (head_or some) a)
        (record { same = λ ys. refl; there = λ ys also. (((fit.1, also.0), ap suc also.1), refl); back = rest-of n a }) others;
    of_key = head-also n;
    some = λ a fit. let rest = some-many n in (a ∷ replicate n some, (rest.0, (((fit.1, rest.1.0), ap suc rest.1.1), refl)));
  }

  same-fields : (n : ℕ) (xs : List A) → AreMany Also (suc n) xs → joined_fields fields (tail_fields fields) (head_or some) xs ≡ flat_map fields xs
  same-fields n [] also = absurd (omega (arith, also.1))
  same-fields n (x ∷ xs) also = refl

  more-reads : (n : ℕ) → Reads (many_at read n) (flat_map fields) (AreMany Also n) → Reads (many_at read (suc n)) (flat_map fields) (AreMany Also (suc n))
  unfolding many_at
  more-reads n others =
      agreed-reads (many_at read (suc n)) (joined_fields fields (tail_fields fields) (head_or some)) (AreMany Also (suc n)) (flat_map fields) (AreMany Also (suc n))
      (record { there = λ xs also. also; back = λ xs also. also; same = same-fields n })
      (joined-reads read fields Also (then_many read n) (tail_fields fields) (AreMany Also (suc n)) (head_or some) (more-joins n others))

  pub many-reads : (n : ℕ) → Reads (many_at read n) (flat_map fields) (AreMany Also n)
  many-reads zero = none-reads
  many-reads (suc n) = more-reads n (many-reads n)

-- ---- the name

abbrev pub letters_fields : List ℕ → Unit {0} → List Field
letters_fields letters u = map Letter letters

abbrev no_key : Unit {0} → Unit {0}
no_key u = tt

abbrev then_letters : List ℕ → Unit {0} → List ℕ → Read (Unit {0})
then_letters letters u bytes = letters_at letters bytes

pub whole-letters : (letters : List ℕ) → AllByRecursion IsWhole (map Letter letters)
whole-letters [] = tt
whole-letters (letter ∷ letters) = (tt, whole-letters letters)

pub letters-reads : (letters : List ℕ) → Reads (letters_at letters) (letters_fields letters) Any
unfolding letters_at
letters-reads [] = given-reads tt (letters_fields []) Any refl tt (λ u also. refl)
letters-reads (letter ∷ letters) =
    joined-reads (letter_at letter) (letter_fields letter) Any (then_letters letters) (letters_fields letters) Any no_key
    (record {
      first = letter-reads letter;
      second = λ k fit. agreed-reads (letters_at letters) (letters_fields letters) Any (letters_fields letters) (AlsoAt Any no_key k) (record { there = λ u also. (tt, refl); back = λ u also. tt; same = λ u also. refl }) (letters-reads letters);
      of_key = λ u also. tt;
      some = λ k fit. (tt, (whole-letters letters, (tt, refl)));
    })
