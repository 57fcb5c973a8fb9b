-- The readers of one field: a letter, a number, a text.
use Rattle.std.proofs.Common.{◌≡◌, ◌⊎◌, inl, inr, ℕ, ◌<◌, ◌≤◌, ◌^◌, Bool, true, false, cond, ltb, eqb, List, [], ◌∷◌, ◌++◌, length, take, drop, Ok, Err, suc, zero, refl, ap, sym, ◌∙◌, subst, arith, length-append, length-take, append-nil}
use Rattle.std.specs.Prelude.{replicate}
use Rattle.std.specs.Int.{Width, w8, w16, w32, w64, byte_len, to_le_bytes, from_le_bytes}
use Rattle.std.specs.List.{AllByRecursion}
use Rattle.std.proofs.lemmas.Bool.{cases_lt, ltb-true, ltb-false, lt-ltb, le-ltb, eqb-true, eqb-false, eq-eqb, ne_eqb}
use Rattle.std.proofs.lemmas.List.{take_at, drop_at, take-append-drop, get_or-take, get_or_past, length-replicate}
use Rattle.std.proofs.lemmas.Nat.{le_bytes_2, le_bytes_4, le_bytes_8, from_le_bytes-to_le_bytes_2, from_le_bytes-to_le_bytes_4, from_le_bytes-to_le_bytes_8}
use Rattle.flow_tape.specs.Fields.{Field, Letter, Number, Text, spelled}
use Rattle.flow_own.specs.Reading.{Read, number_at, text_at}
use Rattle.flow_tape.specs.Reading.{letter_at}
use Rattle.flow_own.proofs.Many.{ok_is}
use Rattle.flow_tape.proofs.Readers.{AreBytes, Fits, Lacks, short, other, FaultIn, Reads, cut-one}

-- the least value of a reader's result, where two tests come before it
guards_ok : {A : Type 0} (a b : Bool) (m n : ℕ) (x y : A) → cond a (Err m) (cond b (Err n) (Ok x)) ≡ Ok y → (a ≡ false) × (b ≡ false) × (x ≡ y)
guards_ok true b m n x y e = absurd cc
guards_ok false true m n x y e = absurd cc
guards_ok false false m n x y e = (refl, refl, cc)

guards_err : {A : Type 0} (a b : Bool) (m n : ℕ) (x : A) (left : ℕ) → cond a (Err m) (cond b (Err n) (Ok x)) ≡ Err left → ((a ≡ true) × (left ≡ m)) ⊎ ((a ≡ false) × (b ≡ true) × (left ≡ n))
guards_err true b m n x left e = inl (refl, cc)
guards_err false true m n x left e = inr (refl, refl, cc)
guards_err false false m n x left e = absurd cc

AreBytes-take : (n : ℕ) (bytes : List ℕ) → AreBytes bytes → AreBytes (take n bytes)
AreBytes-take n bytes small i =
    elim (cases_lt i n) [
      | inl less ↦ rw (get_or-take n bytes i 0 less) (small i)
      | inr most ↦ rw (get_or_past (take n bytes) i 0 (omega (arith, length-take n bytes))) (omega arith)
    ]

-- ---- numbers

-- Numbers of this width are below this limit.
pub record IsWide (width : Width) (limit : ℕ) : Type 0 where
  pub long : (n : ℕ) → length (to_le_bytes width n) ≡ byte_len width
  pub back : (bytes : List ℕ) → length bytes ≡ byte_len width → AreBytes bytes → to_le_bytes width (from_le_bytes width bytes) ≡ bytes
  pub again : (n : ℕ) → n < limit → from_le_bytes width (to_le_bytes width n) ≡ n

one-back : (bytes : List ℕ) → length bytes ≡ 1 → AreBytes bytes → to_le_bytes w8 (from_le_bytes w8 bytes) ≡ bytes
one-back [] long small = absurd (omega (arith, long))
one-back (b ∷ []) long small = let less : b < 256 = small 0 in grind arith
one-back (b ∷ c ∷ bytes) long small = absurd (omega (arith, long))

pub wide8 : IsWide w8 256
wide8 = record { long = λ n. refl; back = one-back; again = λ n less. grind arith }

pub wide16 : IsWide w16 (2 ^ 16)
wide16 = record { long = λ n. refl; back = λ bytes long small. le_bytes_2 bytes _ long small refl; again = λ n less. from_le_bytes-to_le_bytes_2 n less }

pub wide32 : IsWide w32 (2 ^ 32)
wide32 = record { long = λ n. refl; back = λ bytes long small. le_bytes_4 bytes _ long small refl; again = λ n less. from_le_bytes-to_le_bytes_4 n less }

pub wide64 : IsWide w64 (2 ^ 64)
wide64 = record { long = λ n. refl; back = λ bytes long small. le_bytes_8 bytes _ long small refl; again = λ n less. from_le_bytes-to_le_bytes_8 n less }

abbrev pub number_fields : Width → ℕ → ℕ → List Field
number_fields width most n = Number width most n ∷ []

-- Nothing more is asked.
abbrev pub Any : {A : Type 0} → A → Type 0
Any a = Unit {0}

abbrev front_of : Width → List ℕ → ℕ
front_of width bytes = from_le_bytes width (take (byte_len width) bytes)

module _ (width : Width) (most limit : ℕ) (wide : IsWide width limit) (fits : most < limit) where
  number-takes : (bytes : List ℕ) (x : ℕ × List ℕ) → AreBytes bytes → number_at width most bytes ≡ Ok x → Fits (number_fields width most) Any x.0 × (bytes ≡ spelled (number_fields width most x.0) ++ x.1)
  number-takes bytes x small e =
      let g = guards_ok (ltb (length bytes) (byte_len width)) (ltb most (front_of width bytes)) 0 (length bytes) (front_of width bytes, drop (byte_len width) bytes) x e in
      let long : byte_len width ≤ length bytes = ltb-false _ _ g.0 in
      let few : front_of width bytes ≤ most = ltb-false _ _ g.1 in
      let front : to_le_bytes width (front_of width bytes) ≡ take (byte_len width) bytes = wide.back (take (byte_len width) bytes) (omega (arith, long, length-take (byte_len width) bytes)) (AreBytes-take (byte_len width) bytes small) in
      let parts : bytes ≡ spelled (number_fields width most (front_of width bytes)) ++ drop (byte_len width) bytes = sym (take-append-drop (byte_len width) bytes) ∙ ap (λ (b : List ℕ). b ++ drop (byte_len width) bytes) (sym front ∙ sym (append-nil (to_le_bytes width (front_of width bytes)))) in
      subst (λ (y : ℕ × List ℕ). Fits (number_fields width most) Any y.0 × (bytes ≡ spelled (number_fields width most y.0) ++ y.1)) g.2 (((few, tt), tt), parts)

  number-again : (n : ℕ) (rest : List ℕ) → Fits (number_fields width most) Any n → number_at width most (spelled (number_fields width most n) ++ rest) ≡ Ok (n, rest)
  number-again n rest fit =
      let long = wide.long n in
      let enough : ltb (length (to_le_bytes width n ++ rest)) (byte_len width) ≡ false = le-ltb _ _ (omega (arith, long, length-append (to_le_bytes width n) rest)) in
      let same : front_of width (to_le_bytes width n ++ rest) ≡ n = ap (from_le_bytes width) (take_at (to_le_bytes width n) rest (byte_len width) long) ∙ wide.again n (omega (arith, fits, fit.0.0)) in
      let few : ltb most n ≡ false = le-ltb _ _ fit.0.0 in
      ap (λ (b : List ℕ). number_at width most (b ++ rest)) (append-nil (to_le_bytes width n)) ∙ rw (enough, same, few, drop_at (to_le_bytes width n) rest (byte_len width) long) refl

  number-faults : (bytes : List ℕ) (left : ℕ) → AreBytes bytes → number_at width most bytes ≡ Err left → FaultIn (number_fields width most) Any bytes left
  number-faults bytes left small e =
      let zero_fits : Fits (number_fields width most) Any 0 = ((omega arith, tt), tt) in
      let lacks : Lacks (Number width most 0) bytes left =
      elim (guards_err (ltb (length bytes) (byte_len width)) (ltb most (front_of width bytes)) 0 (length bytes) (front_of width bytes, drop (byte_len width) bytes) left e) [
        | inl less ↦ short (omega (arith, wide.long 0, ltb-true _ _ less.0)) less.1
        | inr large ↦ other (omega (arith, wide.long 0, ltb-false _ _ large.0)) (λ may. omega (arith, may, ltb-true _ _ large.1)) large.2
      ] in
      record { value = 0; fits = zero_fits; before = []; field = Number width most 0; after = []; cut = refl; rest = bytes; begins = refl; lacks = lacks }

  number-lacks : (n : ℕ) (bytes : List ℕ) (left : ℕ) → Lacks (Number width most n) bytes left → number_at width most bytes ≡ Err left
  number-lacks n bytes left (short less is) =
      let ended : ltb (length bytes) (byte_len width) ≡ true = lt-ltb _ _ (omega (arith, less, wide.long n)) in
      rw ended (ap (λ (m : ℕ). Err m) (sym is))
  number-lacks n bytes left (other enough not is) =
      let long : ltb (length bytes) (byte_len width) ≡ false = le-ltb _ _ (omega (arith, enough, wide.long n)) in
      let large : ltb most (front_of width bytes) ≡ true =
      elim (cases_lt most (front_of width bytes)) [ inl less ↦ lt-ltb _ _ less | inr few ↦ absurd (not few) ] in
      rw (long, large) (ap (λ (m : ℕ). Err m) (sym is))

  number-exact : (bytes : List ℕ) (left : ℕ) → FaultIn (number_fields width most) Any bytes left → number_at width most bytes ≡ Err left
  number-exact bytes left f =
      let c = cut-one (Number width most f.value) f.before f.field f.after f.cut in
      let is : bytes ≡ f.rest = f.begins ∙ ap (λ (fs : List Field). spelled fs ++ f.rest) c.0 in
      let here : Lacks (Number width most f.value) f.rest left = subst (λ (x : Field). Lacks x f.rest left) c.1 f.lacks in
      ap (number_at width most) is ∙ number-lacks f.value f.rest left here

  pub number-reads : Reads (number_at width most) (number_fields width most) Any
  number-reads = record { takes = number-takes; again = number-again; faults = number-faults; exact = number-exact }

-- ---- letters

abbrev pub letter_fields : ℕ → Unit {0} → List Field
letter_fields letter u = Letter letter ∷ []

module _ (letter : ℕ) where
  letter-takes : (bytes : List ℕ) (x : Unit {0} × List ℕ) → AreBytes bytes → letter_at letter bytes ≡ Ok x → Fits (letter_fields letter) Any x.0 × (bytes ≡ spelled (letter_fields letter x.0) ++ x.1)
  letter-takes [] x small e = absurd cc
  letter-takes (b ∷ bytes) x small e = by (eqb b letter) refl e
    where
      by : (t : Bool) → eqb b letter ≡ t → cond {A = Read (Unit {0})} t (Ok (tt, bytes)) (Err (length (b ∷ bytes))) ≡ Ok x → Fits (letter_fields letter) Any x.0 × (b ∷ bytes ≡ letter ∷ x.1)
      by true same e = let rest : bytes ≡ x.1 = ap (λ (y : Unit {0} × List ℕ). y.1) (ok_is (tt, bytes) x e) in (((tt, tt), tt), (λ i. eqb-true b letter same i ∷ rest i))
      by false apart e = absurd cc

  letter-again : (u : Unit {0}) (rest : List ℕ) → Fits (letter_fields letter) Any u → letter_at letter (spelled (letter_fields letter u) ++ rest) ≡ Ok (u, rest)
  letter-again u rest fits = rw (eq-eqb letter letter refl) refl

  letter-fault : (bytes : List ℕ) (left : ℕ) → Lacks (Letter letter) bytes left → FaultIn (letter_fields letter) Any bytes left
  letter-fault bytes left lacks = record { value = tt; fits = ((tt, tt), tt); before = []; field = Letter letter; after = []; cut = refl; rest = bytes; begins = refl; lacks = lacks }

  letter-faults : (bytes : List ℕ) (left : ℕ) → AreBytes bytes → letter_at letter bytes ≡ Err left → FaultIn (letter_fields letter) Any bytes left
  letter-faults [] left small e = letter-fault [] left (short (omega arith) (let same : 0 ≡ left = cc in sym same))
  letter-faults (b ∷ bytes) left small e = letter-fault (b ∷ bytes) left (by (eqb b letter) refl e)
    where
      by : (t : Bool) → eqb b letter ≡ t → cond {A = Read (Unit {0})} t (Ok (tt, bytes)) (Err (length (b ∷ bytes))) ≡ Err left → Lacks (Letter letter) (b ∷ bytes) left
      by true same e = absurd cc
      by false apart e = other (omega arith) (λ may. let same : b ≡ letter = cc in eqb-false b letter apart same) (let same : length (b ∷ bytes) ≡ left = cc in sym same)

  letter-lacks : (bytes : List ℕ) (left : ℕ) → Lacks (Letter letter) bytes left → letter_at letter bytes ≡ Err left
  letter-lacks [] left (short less is) = ap (λ (m : ℕ). Err m) (sym is)
  letter-lacks [] left (other enough not is) = absurd (omega (arith, enough))
  letter-lacks (b ∷ bytes) left (short less is) = absurd (omega (arith, less))
  letter-lacks (b ∷ bytes) left (other enough not is) =
      let apart : eqb b letter ≡ false = ne_eqb b letter (λ same. not (ap (λ (c : ℕ). c ∷ []) same)) in
      rw apart (ap (λ (m : ℕ). Err m) (sym is))

  letter-exact : (bytes : List ℕ) (left : ℕ) → FaultIn (letter_fields letter) Any bytes left → letter_at letter bytes ≡ Err left
  letter-exact bytes left f =
      let c = cut-one (Letter letter) f.before f.field f.after f.cut in
      let is : bytes ≡ f.rest = f.begins ∙ ap (λ (fs : List Field). spelled fs ++ f.rest) c.0 in
      let here : Lacks (Letter letter) f.rest left = subst (λ (x : Field). Lacks x f.rest left) c.1 f.lacks in
      ap (letter_at letter) is ∙ letter-lacks f.rest left here

  pub letter-reads : Reads (letter_at letter) (letter_fields letter) Any
  letter-reads = record { takes = letter-takes; again = letter-again; faults = letter-faults; exact = letter-exact }

-- ---- texts

guard_ok : {A : Type 0} (a : Bool) (m : ℕ) (x y : A) → cond a (Err m) (Ok x) ≡ Ok y → (a ≡ false) × (x ≡ y)
guard_ok true m x y e = absurd cc
guard_ok false m x y e = (refl, cc)

guard_err : {A : Type 0} (a : Bool) (m : ℕ) (x : A) (left : ℕ) → cond a (Err m) (Ok x) ≡ Err left → (a ≡ true) × (left ≡ m)
guard_err true m x left e = (refl, cc)
guard_err false m x left e = absurd cc

pub all-bytes : (bytes : List ℕ) → AreBytes bytes → AllByRecursion (λ b. b < 256) bytes
all-bytes [] small = tt
all-bytes (b ∷ bytes) small = (small 0, all-bytes bytes (λ i. small (suc i)))

pub zeros-bytes : (n : ℕ) → AllByRecursion (λ b. b < 256) (replicate n 0)
zeros-bytes zero = tt
zeros-bytes (suc n) = (omega arith, zeros-bytes n)

abbrev pub text_fields : List ℕ → List Field
text_fields text = Text text ∷ []

abbrev pub HasSize : ℕ → List ℕ → Type 0
HasSize size text = length text ≡ size

module _ (size : ℕ) where
  text-takes : (bytes : List ℕ) (x : List ℕ × List ℕ) → AreBytes bytes → text_at size bytes ≡ Ok x → Fits text_fields (HasSize size) x.0 × (bytes ≡ spelled (text_fields x.0) ++ x.1)
  text-takes bytes x small e =
      let g = guard_ok (ltb (length bytes) size) 0 (take size bytes, drop size bytes) x e in
      let long : size ≤ length bytes = ltb-false _ _ g.0 in
      let sized : length (take size bytes) ≡ size = omega (arith, long, length-take size bytes) in
      let parts : bytes ≡ spelled (text_fields (take size bytes)) ++ drop size bytes = sym (take-append-drop size bytes) ∙ ap (λ (b : List ℕ). b ++ drop size bytes) (sym (append-nil (take size bytes))) in
      subst (λ (y : List ℕ × List ℕ). Fits text_fields (HasSize size) y.0 × (bytes ≡ spelled (text_fields y.0) ++ y.1)) g.1 (((all-bytes (take size bytes) (AreBytes-take size bytes small), tt), sized), parts)

  text-again : (text rest : List ℕ) → Fits text_fields (HasSize size) text → text_at size (spelled (text_fields text) ++ rest) ≡ Ok (text, rest)
  text-again text rest fit =
      let enough : ltb (length (text ++ rest)) size ≡ false = le-ltb _ _ (omega (arith, fit.1, length-append text rest)) in
      ap (λ (b : List ℕ). text_at size (b ++ rest)) (append-nil text) ∙ rw (enough, take_at text rest size fit.1, drop_at text rest size fit.1) refl

  text-faults : (bytes : List ℕ) (left : ℕ) → AreBytes bytes → text_at size bytes ≡ Err left → FaultIn text_fields (HasSize size) bytes left
  text-faults bytes left small e =
      let g = guard_err (ltb (length bytes) size) 0 (take size bytes, drop size bytes) left e in
      let zeros : List ℕ = replicate size 0 in
      let sized : length zeros ≡ size = length-replicate size 0 in
      let lacks : Lacks (Text zeros) bytes left = short (omega (arith, sized, ltb-true _ _ g.0)) g.1 in
      record { value = zeros; fits = ((zeros-bytes size, tt), sized); before = []; field = Text zeros; after = []; cut = refl; rest = bytes; begins = refl; lacks = lacks }

  text-lacks : (text bytes : List ℕ) (left : ℕ) → length text ≡ size → Lacks (Text text) bytes left → text_at size bytes ≡ Err left
  text-lacks text bytes left sized (short less is) =
      let ended : ltb (length bytes) size ≡ true = lt-ltb _ _ (omega (arith, less, sized)) in
      rw ended (ap (λ (m : ℕ). Err m) (sym is))
  text-lacks text bytes left sized (other enough not is) = absurd (not tt)

  text-exact : (bytes : List ℕ) (left : ℕ) → FaultIn text_fields (HasSize size) bytes left → text_at size bytes ≡ Err left
  text-exact bytes left f =
      let c = cut-one (Text f.value) f.before f.field f.after f.cut in
      let is : bytes ≡ f.rest = f.begins ∙ ap (λ (fs : List Field). spelled fs ++ f.rest) c.0 in
      let here : Lacks (Text f.value) f.rest left = subst (λ (x : Field). Lacks x f.rest left) c.1 f.lacks in
      ap (text_at size) is ∙ text-lacks f.value f.rest left f.fits.1 here

  pub text-reads : Reads (text_at size) text_fields (HasSize size)
  text-reads = record { takes = text-takes; again = text-again; faults = text-faults; exact = text-exact }
