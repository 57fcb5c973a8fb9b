-- Where the call ends and its texts begin.
use Rattle.std.proofs.Common.{◌≡◌, ◌<◌, ◌-◌, ℕ, zero, suc, Bool, List, [], length, get_or, map, take, Option, Some, None, sym, ap, ◌∙◌, arith}
use Rattle.std.specs.Prelude.{if◌then◌else◌}
use Rattle.std.proofs.lemmas.List.{get_or-map, take-map}
use Rattle.flow_given.specs.Calls.{is_given_word}
use Rattle.flow_drawn.specs.Calls.{asks_drawing, drawn_within}

-- What n words come to: all of them where they ask for a drawing, and else what fewer do where the last one gives a text.
abbrev pub ends : List (List ℕ) → ℕ → Bool → Bool → Option ℕ
ends words n asks gives = if asks then Some n else (if gives then drawn_within words (n - 1) else None)

-- The call ends behind this word, or before it, or nowhere.
pub step : (words : List (List ℕ)) (n : ℕ) (asks : Bool) → 0 < n → asks ≡ asks_drawing (take n words) → drawn_within words n ≡ ends words n asks (is_given_word (get_or words (n - 1) []))
step words zero asks some is = absurd (omega arith)
step words (suc k) asks some is =
    let e : k ≡ suc k - 1 = omega arith in
    ap (λ (a : Bool). if a then Some (suc k) else (if is_given_word (get_or words k []) then drawn_within words k else None)) (sym is)
    ∙ ap (λ (j : ℕ). if asks then Some (suc k) else (if is_given_word (get_or words j []) then drawn_within words j else None)) e

-- The last of the words decides where they ask for nothing.
pub step_on : (words : List (List ℕ)) (n : ℕ) (asks gives : Bool) → 0 < n → asks ≡ asks_drawing (take n words) → is_given_word (get_or words (n - 1) []) ≡ gives
    → drawn_within words n ≡ ends words n asks gives
step_on words n asks gives some is so = step words n asks some is ∙ ap (ends words n asks) so

-- What the first words ask for, which are the beginning of them all.
pub asked_so : {X : Type 0} (f : X → List ℕ) (words : List X) (n : ℕ) (asks : Bool) → asks ≡ asks_drawing (map f (take n words)) → asks ≡ asks_drawing (take n (map f words))
asked_so f words n asks is = is ∙ ap asks_drawing (sym (take-map f n words))

-- Whether the word at a place gives a text.
pub gives_so : {X : Type 0} (f : X → List ℕ) (words : List X) (i : ℕ) (x : X) (bytes : List ℕ) (gives : Bool) → i < length words → x ≡ get_or words i x → bytes ≡ f x → gives ≡ is_given_word bytes → is_given_word (get_or (map f words) i []) ≡ gives
gives_so f words i x bytes gives below is same so = ap is_given_word (get_or-map f words i x [] below ∙ ap f (sym is) ∙ sym same) ∙ sym so
