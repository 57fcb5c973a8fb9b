-- Where the call ends and its texts begin.
use Rattle.std.proofs.Common.{◌≡◌, ◌≤◌, ◌<◌, ◌-◌, ℕ, zero, suc, Bool, List, [], length, get_or, map, take, Option, None, sym, ap, ◌∙◌, arith}
use Rattle.std.specs.List.{prefix_len}
use Rattle.std.proofs.lemmas.List.Sums.{prefix_len-le-length}
use Rattle.std.proofs.lemmas.List.{get_or-map, take-map}
use Rattle.flow_given.specs.Calls.{asks_network, call_within, ends_at, is_before_text, is_given_word}

-- A name ends within its word.
pub name_within : (word : List ℕ) → prefix_len is_before_text word ≤ length word
name_within word = prefix_len-le-length is_before_text word

-- The call ends behind this word, or before it, or nowhere.
pub step : (words : List (List ℕ)) (n : ℕ) (asks : Option Bool) → 0 < n → asks ≡ asks_network (take n words) → call_within words n ≡ ends_at asks n (is_given_word (get_or words (n - 1) [])) (call_within words (n - 1))
step words zero asks some is = absurd (omega arith)
step words (suc k) asks some is =
    let e : k ≡ suc k - 1 = omega arith in
    ap (λ (o : Option Bool). ends_at o (suc k) (is_given_word (get_or words k [])) (call_within words k)) (sym is) ∙ ap (λ (j : ℕ). ends_at asks (suc k) (is_given_word (get_or words j [])) (call_within words j)) e

-- What the first words ask for, which are the beginning of them all.
pub asked_so : {X : Type 0} (f : X → List ℕ) (words : List X) (n : ℕ) (asks : Option Bool) → asks ≡ asks_network (map f (take n words)) → asks ≡ asks_network (take n (map f words))
asked_so f words n asks is = is ∙ ap asks_network (sym (take-map f n words))

-- Whether the word at a place gives a text.
pub gives_so : {X : Type 0} (f : X → List ℕ) (words : List X) (i : ℕ) (x : X) (bytes : List ℕ) (gives : Bool) → i < length words → x ≡ get_or words i x → bytes ≡ f x → gives ≡ is_given_word bytes → is_given_word (get_or (map f words) i []) ≡ gives
gives_so f words i x bytes gives below is same so = ap is_given_word (get_or-map f words i x [] below ∙ ap f (sym is) ∙ sym same) ∙ sym so

-- Where the words ask for nothing, their last one decides.
pub step_on : (words : List (List ℕ)) (n : ℕ) (gives : Bool) → 0 < n → None ≡ asks_network (take n words) → is_given_word (get_or words (n - 1) []) ≡ gives → call_within words n ≡ ends_at None n gives (call_within words (n - 1))
step_on words n gives some is so = step words n None some is ∙ ap (λ (g : Bool). ends_at None n g (call_within words (n - 1))) so
