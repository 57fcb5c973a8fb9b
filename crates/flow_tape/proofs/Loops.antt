-- Reading and writing one after the other, as loops do.
use Rattle.std.proofs.Common.{◌≡◌, ℕ, Bool, cond, true, false, ◌+◌, ◌≤◌, ◌<◌, eqb, List, [], ◌∷◌, length, map, drop, get_or, Option, Some, Result, Ok, Err, refl, sym, ap, ◌∙◌, subst, add-one, drop-cons, arith}
use Rattle.std.specs.Prelude.{OnOk}
use Rattle.std.specs.List.{flat_map, AllByRecursion}
use Rattle.std.proofs.lemmas.Bool.{eq-eqb, ne_eqb}
use Rattle.std.proofs.lemmas.List.{drop_all}
use Rattle.flow_limits.specs.declared.TheConstants.{TEXT_LIMIT}
use Rattle.flow_packet.specs.declared.packet.Kind.{Kind}
use Rattle.flow_packet.specs.declared.packet.Kind.TheVariants as kinds
use Rattle.flow_own.specs.Acts.{Made}
use Rattle.flow_own.specs.Recorded.{IsShort}
use Rattle.flow_tape.specs.Files.{kind_byte}
use Rattle.flow_tape.specs.Fields.{Field, IsWhole, any_eight, made_fields}
use Rattle.flow_own.specs.Reading.{Read, ◌>>=◌}
use Rattle.flow_tape.specs.Reading.{letter_at, letters_at}
use Rattle.flow_own.proofs.Many.{ok_is}
use Rattle.flow_own.proofs.Suffixes.{EndsSo, LeavesEnd, given-ends, then-ends}
use Rattle.flow_tape.proofs.Readers.{whole-join}

-- ---- letters

next-letter : (letters : List ℕ) (i : ℕ) → i < length letters → drop i letters ≡ get_or letters i 0 ∷ drop (i + 1) letters
next-letter letters i less = drop-cons letters i 0 less ∙ ap (λ (n : ℕ). get_or letters i 0 ∷ drop n letters) (sym (add-one i))

at-letter : (letters : List ℕ) (i first : ℕ) (rest after : List ℕ) → i < length letters → rest ≡ first ∷ after → letters_at (drop i letters) rest ≡ letters_at (get_or letters i 0 ∷ drop (i + 1) letters) (first ∷ after)
at-letter letters i first rest after less front = λ j. letters_at (next-letter letters i less j) (front j)

-- The letter is there.
pub letter_on : (letters : List ℕ) (i first : ℕ) (rest after : List ℕ) (total : Read (Unit {0})) → i < length letters → rest ≡ first ∷ after → first ≡ get_or letters i 0 → letters_at (drop i letters) rest ≡ total → letters_at (drop (i + 1) letters) after ≡ total
unfolding letters_at
letter_on letters i first rest after total less front same so_far =
    let equal : eqb first (get_or letters i 0) ≡ true = eq-eqb first (get_or letters i 0) same in
    let read : letter_at (get_or letters i 0) (first ∷ after) ≡ Ok (tt, after) = rw equal refl in
    sym (at-letter letters i first rest after less front ∙ ap (λ (r : Read (Unit {0})). r >>= λ x. letters_at (drop (i + 1) letters) x.1) read) ∙ so_far

-- There are no bytes any more.
pub letter_ends : (letters : List ℕ) (i : ℕ) (rest : List ℕ) (total : Read (Unit {0})) → i < length letters → rest ≡ [] → letters_at (drop i letters) rest ≡ total → total ≡ Err 0
unfolding letters_at
letter_ends letters i rest total less none so_far =
    let here : letters_at (drop i letters) rest ≡ letters_at (get_or letters i 0 ∷ drop (i + 1) letters) [] = λ j. letters_at (next-letter letters i less j) (none j) in
    sym so_far ∙ here

-- Another byte is there.
pub letter_strays : (letters : List ℕ) (i first : ℕ) (rest after : List ℕ) (total : Read (Unit {0})) → i < length letters → rest ≡ first ∷ after → (first ≡ get_or letters i 0 → ⊥) → letters_at (drop i letters) rest ≡ total → total ≡ Err (length rest)
unfolding letters_at
letter_strays letters i first rest after total less front apart so_far =
    let other : eqb first (get_or letters i 0) ≡ false = ne_eqb first (get_or letters i 0) apart in
    let read : letter_at (get_or letters i 0) (first ∷ after) ≡ Err (length (first ∷ after)) = rw other refl in
    sym so_far ∙ at-letter letters i first rest after less front ∙ ap (λ (r : Read (Unit {0})). r >>= λ x. letters_at (drop (i + 1) letters) x.1) read ∙ ap (λ (bs : List ℕ). Err (length bs)) (sym front)

-- All letters are there.
pub letters_read : (letters : List ℕ) (i : ℕ) (rest : List ℕ) (total : Read (Unit {0})) → length letters ≤ i → letters_at (drop i letters) rest ≡ total → total ≡ Ok (tt, rest)
unfolding letters_at
letters_read letters i rest total most so_far = sym so_far ∙ ap (λ (ls : List ℕ). letters_at ls rest) (drop_all i letters most)

letter-ends : (letter : ℕ) → LeavesEnd (letter_at letter)
letter-ends letter [] x e = absurd cc
letter-ends letter (byte ∷ bytes) x e = by (eqb byte letter) e
  where
    by : (b : Bool) → cond b (Ok (tt, bytes)) (Err (length (byte ∷ bytes))) ≡ Ok x → EndsSo x.1 (byte ∷ bytes)
    by true read = subst (λ (y : Unit {0} × List ℕ). EndsSo y.1 (byte ∷ bytes)) (ok_is (tt, bytes) x read) (record { front = 1; within = omega arith; is = refl })
    by false read = absurd cc

-- Behind the letters is an end of the bytes.
pub letters-end : (letters : List ℕ) → LeavesEnd (letters_at letters)
unfolding letters_at
letters-end [] = given-ends tt
letters-end (letter ∷ letters) = then-ends (letter_at letter) (λ u. letters_at letters) (letter-ends letter) (λ u. letters-end letters)

-- ---- fields that hold what they may

-- Where what is left is whole, all is.
abbrev pub Completes : {X : Type 0} → (X → List Field) → List X → ℕ → Type 0
Completes fields xs i = AllByRecursion IsWhole (flat_map fields (drop i xs)) → AllByRecursion IsWhole (flat_map fields xs)

pub completes-more : {X : Type 0} (fields : X → List Field) (xs : List X) (i : ℕ) (x : X) → i < length xs → x ≡ get_or xs i x → Completes fields xs i → AllByRecursion IsWhole (fields x) → Completes fields xs (i + 1)
completes-more {X} fields xs i x less is so_far whole rest =
    let next : drop i xs ≡ x ∷ drop (i + 1) xs = drop-cons xs i x less ∙ (λ j. sym is j ∷ drop (sym (add-one i) j) xs) in
    so_far (subst (λ (ys : List X). AllByRecursion IsWhole (flat_map fields ys)) (sym next) (whole-join (fields x) (flat_map fields (drop (i + 1) xs)) whole rest))

pub completes-all : {X : Type 0} (fields : X → List Field) (xs : List X) (i : ℕ) → length xs ≤ i → Completes fields xs i → AllByRecursion IsWhole (flat_map fields xs)
completes-all {X} fields xs i most so_far = so_far (subst (λ (ys : List X). AllByRecursion IsWhole (flat_map fields ys)) (sym (drop_all i xs most)) tt)

-- The field of an id that was dropped.
abbrev pub id_fields : ℕ → List Field
id_fields id = any_eight id ∷ []

-- The fields of ids, as one list.
pub whole-ids : (ids : List ℕ) → AllByRecursion IsWhole (flat_map id_fields ids) → AllByRecursion IsWhole (map any_eight ids)
whole-ids [] whole = tt
whole-ids (id ∷ ids) whole = (whole.0, whole-ids ids whole.1)

-- ---- what was made

few-kinds : (kind : Kind) → kind_byte kind ≤ 3
few-kinds kinds.Normal = omega arith
few-kinds kinds.Open = omega arith
few-kinds kinds.Close = omega arith

-- A packet whose text isn't too long fits its fields.
pub whole-packet : (made : Option Made) (kind : Kind) (text : List ℕ) → made ≡ Some (kind, text) → IsShort made → AllByRecursion (λ b. b < 256) text → AllByRecursion IsWhole (made_fields made)
whole-packet made kind text is short small =
    let few : length text ≤ TEXT_LIMIT = subst IsShort is short in
    subst (λ (m : Option Made). AllByRecursion IsWhole (made_fields m)) (sym is) (few-kinds kind, (few, (small, tt)))

-- What holds anyhow holds where the call gives a value.
pub on_ok : {T E : Type 0} (result : Result T E) (P : Type 0) → P → OnOk result P
on_ok (Ok x) P p = p
on_ok (Err e) P p = tt
