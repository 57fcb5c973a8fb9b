-- The front of a source, read by read.
use Rattle.std.proofs.Common.{◌≡◌, ℕ, ◌+◌, ◌<◌, ◌≤◌, Bool, true, false, List, [], ◌∷◌, ◌++◌, length, take, refl, sym, ◌∙◌, ap, subst, arith, Ok, Err}
use Rattle.std.specs.Prelude.{nat_lt}
use Rattle.std.specs.Io.KnownBytes.{Consumes}
use Rattle.std.proofs.lemmas.Bool.Decides.{nat_tests}
use Rattle.std.proofs.lemmas.List.{take-append-le, length-take-le}
use Rattle.std.proofs.lemmas.Slice.{take-put_mid_below}
use Rattle.std.proofs.Math.Seq.{take-append-add}
use borrow.Rule.Slice.PartMut.{put_mid}
use mathlib.Core.List.{append-nil}
use Rattle.flow_text.specs.Edge.{Outside, Reads, meets_end, after_read}
use Rattle.flow_text.specs.declared.edge.Fault.{Fault}
use Rattle.flow_text.specs.ReadAll.{Took, TookAndFailed}
use Rattle.flow_text.proofs.Pieces.{Took-trans, Failed-after, failed}
use Rattle.flow_load.specs.Front.{ReadsFront}

-- the bytes that a read put behind the first ones
take-more : (count n k : ℕ) (xs ys : List ℕ) → count ≤ length xs → n ≤ length ys → take (count + n) (put_mid count k xs ys) ≡ take count xs ++ take n ys
take-more count n k xs ys within few =
    let long : length (take count xs) ≡ count = length-take-le count xs within in
    ap (λ (m : ℕ). take (m + n) (put_mid count k xs ys)) (sym long) ∙ take-append-add (take count xs) _ n ∙ ap (λ (zs : List ℕ). take count xs ++ zs) (take-append-le n ys _ few)

no-end : (n : ℕ) (buf : List ℕ) → (n ≡ 0 → ⊥) → meets_end n buf ≡ false
no-end n [] some = refl
no-end n (b ∷ buf) some = grind arith

an-end : (n : ℕ) (buf : List ℕ) → n ≡ 0 → 0 < length buf → meets_end n buf ≡ true
an-end n [] none room = absurd (omega (arith, room))
an-end n (b ∷ buf) none room = grind arith

-- A read of some bytes more.
pub front-more : (a b c : Outside) (count n k : ℕ) (xs ys : List ℕ) → Took a b (take count xs) false → Reads {E = Fault} b c (Ok n) ys → count ≤ length xs → n ≤ length ys → (n ≡ 0 → ⊥)
    → Took a c (take (count + n) (put_mid count k xs ys)) false
front-more a b c count n k xs ys took reads within few some =
    let more : Took b c (take n ys) false = record { state = subst (λ (e : Bool). c ≡ after_read b c.left (take n ys) e) (no-end n ys some) reads.0; given = reads.1 } in
    subst (λ (l : List ℕ). Took a c l false) (sym (take-more count n k xs ys within few)) (Took-trans a b c (take count xs) (take n ys) false false took more)

-- A read of no bytes into some room.
pub front-ended : (a b c : Outside) (count n k : ℕ) (xs ys : List ℕ) → Took a b (take count xs) false → Reads {E = Fault} b c (Ok n) ys → count < length xs → 0 < length ys → n ≡ 0
    → length (put_mid count k xs ys) ≡ length xs → ReadsFront {E = Fault} a c (Ok count) (put_mid count k xs ys)
front-ended a b c count n k xs ys took reads within room none long =
    let nothing : take n ys ≡ [] = ap (λ (m : ℕ). take m ys) none in
    let last : Took b c [] true = record {
      state = subst (λ (e : Bool). c ≡ after_read b c.left [] e) (an-end n ys none room) (subst (λ (l : List ℕ). c ≡ after_read b c.left l (meets_end n ys)) nothing reads.0);
      given = subst (λ (l : List ℕ). Consumes b.left c.left l) nothing reads.1;
    } in
    let less : nat_lt count (length (put_mid count k xs ys)) ≡ true = grind (arith, nat_tests) in
    let front : take count xs ++ [] ≡ take count (put_mid count k xs ys) = append-nil (take count xs) ∙ sym (take-put_mid_below count k xs ys count (omega arith) (omega (arith, within))) in (
      subst (λ (e : Bool). Took a c (take count (put_mid count k xs ys)) e) (sym less) (subst (λ (l : List ℕ). Took a c l true) front (Took-trans a b c (take count xs) [] false true took last)),
      omega (arith, within, long),
      λ _. reads.2 none room,
    )

-- A read that failed.
pub front-failed : (a b c : Outside) (count : ℕ) (xs ys : List ℕ) (e : Fault) → Took a b (take count xs) false → Reads {E = Fault} b c (Err e) ys
    → (bytes : List ℕ) × TookAndFailed a c bytes
front-failed a b c count xs ys e took reads =
    (take count xs ++ [], Failed-after a b c (take count xs) [] took (failed b c reads.0 reads.1 (ap (λ (o : Outside). o.left) reads.0)))

-- A buffer that is full.
pub front-full : (a b : Outside) (count : ℕ) (xs : List ℕ) → Took a b (take count xs) false → length xs ≤ count → count ≤ length xs → ReadsFront {E = Fault} a b (Ok count) xs
front-full a b count xs took full within =
    let whole : nat_lt count (length xs) ≡ false = grind (arith, nat_tests) in
    (subst (λ (e : Bool). Took a b (take count xs) e) (sym whole) took, within, λ less. absurd (omega (arith, less, full)))
