-- How the words of a text begin.
use Rattle.std.proofs.Common.{◌≡◌, ℕ, ◌+◌, ◌-◌, ◌<◌, ◌≤◌, suc, Bool, true, false, List, [], ◌∷◌, length, get_or, take, drop, sym, ap, ◌∙◌, refl, arith, cond, drop-cons, add-one, filter}
use Rattle.std.specs.Prelude.{slice_range}
use Rattle.std.proofs.lemmas.List.{drop-drop, length-drop, nil_from_length}
use Rattle.std.specs.List.{slice_split, onto_first}
use Rattle.flow_parts.specs.Text.{is_blank, is_filled, words, run_length, blank_length, word_start, word_end}

pub run-step : (xs : List ℕ) (i : ℕ) → i < length xs → is_blank (get_or xs i 0) ≡ false → run_length (drop i xs) ≡ suc (run_length (drop (i + 1) xs))
run-step xs i h b = rw (add-one, drop-cons xs i 0, b) refl

pub run-stop : (xs : List ℕ) (i : ℕ) → i < length xs → is_blank (get_or xs i 0) ≡ true → run_length (drop i xs) ≡ 0
run-stop xs i h b = rw (drop-cons xs i 0, b) refl

pub blank-step : (xs : List ℕ) (i : ℕ) → i < length xs → is_blank (get_or xs i 0) ≡ true → blank_length (drop i xs) ≡ suc (blank_length (drop (i + 1) xs))
blank-step xs i h b = rw (add-one, drop-cons xs i 0, b) refl

pub blank-stop : (xs : List ℕ) (i : ℕ) → i < length xs → is_blank (get_or xs i 0) ≡ false → blank_length (drop i xs) ≡ 0
blank-stop xs i h b = rw (drop-cons xs i 0, b) refl

abbrev later_parts : List ℕ → List (List ℕ)
later_parts [] = []
later_parts (b ∷ bs) = slice_split is_blank bs

split-first : (xs : List ℕ) → slice_split is_blank xs ≡ take (run_length xs) xs ∷ later_parts (drop (run_length xs) xs)
split-first [] = refl
split-first (b ∷ bs) =
    elim (is_blank b) as (λ v. cond v ([] ∷ slice_split is_blank bs) (onto_first b (slice_split is_blank bs))
    ≡ take (cond v 0 (suc (run_length bs))) (b ∷ bs) ∷ later_parts (drop (cond v 0 (suc (run_length bs))) (b ∷ bs))) [
      | true ↦ refl
      | false ↦ ap (onto_first b) (split-first bs)
    ]

-- a blank in front changes no word
words-blank : (b : ℕ) (bs : List ℕ) → is_blank b ≡ true → words (b ∷ bs) ≡ words bs
words-blank b bs h = rw h refl

words-later-at : (b : ℕ) (bs : List ℕ) (v : Bool) → is_blank b ≡ v → filter is_filled (later_parts (drop (run_length bs) bs)) ≡ words (drop (run_length bs) bs)
    → filter is_filled (later_parts (drop (cond v 0 (suc (run_length bs))) (b ∷ bs))) ≡ words (drop (cond v 0 (suc (run_length bs))) (b ∷ bs))
words-later-at b bs true e h = sym (words-blank b bs e)
words-later-at b bs false e h = h

words-later : (xs : List ℕ) → filter is_filled (later_parts (drop (run_length xs) xs)) ≡ words (drop (run_length xs) xs)
words-later [] = refl
words-later (b ∷ bs) = words-later-at b bs (is_blank b) refl (words-later bs)

filled-at : (b : ℕ) (bs : List ℕ) (v : Bool) → 0 < cond v 0 (suc (run_length bs)) → is_filled (take (cond v 0 (suc (run_length bs))) (b ∷ bs)) ≡ true
filled-at b bs true h = absurd (omega arith)
filled-at b bs false h = refl

filled : (xs : List ℕ) → 0 < run_length xs → is_filled (take (run_length xs) xs) ≡ true
filled [] h = absurd (omega arith)
filled (b ∷ bs) h = filled-at b bs (is_blank b) h

-- a text that begins with a word has it as its first
words-run : (xs : List ℕ) → 0 < run_length xs → words xs ≡ take (run_length xs) xs ∷ words (drop (run_length xs) xs)
words-run xs h =
    let f = filled xs h in
    ap (filter is_filled) (split-first xs) ∙ rw (f, words-later xs) refl

-- blanks in front change no word
words-blanks-at : (b : ℕ) (bs : List ℕ) (v : Bool) → is_blank b ≡ v → words (drop (blank_length bs) bs) ≡ words bs → words (drop (cond v (suc (blank_length bs)) 0) (b ∷ bs)) ≡ words (b ∷ bs)
words-blanks-at b bs true e h = h ∙ sym (words-blank b bs e)
words-blanks-at b bs false e h = refl

words-blanks : (xs : List ℕ) → words (drop (blank_length xs) xs) ≡ words xs
words-blanks [] = refl
words-blanks (b ∷ bs) = words-blanks-at b bs (is_blank b) refl (words-blanks bs)

-- behind the blanks stands a word, or nothing
run-after-at : (b : ℕ) (bs : List ℕ) (v : Bool) → is_blank b ≡ v → (blank_length bs < length bs → 0 < run_length (drop (blank_length bs) bs)) → cond v (suc (blank_length bs)) 0 < length (b ∷ bs)
    → 0 < run_length (drop (cond v (suc (blank_length bs)) 0) (b ∷ bs))
run-after-at b bs true e rest h = rest (omega arith)
run-after-at b bs false e rest h = rw e (omega arith)

run-after : (xs : List ℕ) → blank_length xs < length xs → 0 < run_length (drop (blank_length xs) xs)
run-after [] h = absurd (omega arith)
run-after (b ∷ bs) h = run-after-at b bs (is_blank b) refl (run-after bs) h

drop-all : (xs : List ℕ) (n : ℕ) → length xs ≤ n → drop n xs ≡ []
drop-all xs n h = nil_from_length (drop n xs) (omega (arith, length-drop n xs))

-- what is behind a place begins with the word that starts there
pub words-some : (text : List ℕ) (taken : ℕ) → word_start text taken < length text → words (drop taken text) ≡ slice_range text (word_start text taken) (word_end text taken) ∷ words (drop (word_end text taken) text)
words-some text taken h =
    let xs = drop taken text in
    let l : blank_length xs < length xs = omega (arith, length-drop taken text) in
    let start : drop (blank_length xs) xs ≡ drop (word_start text taken) text = drop-drop (blank_length xs) taken text in
    let some : 0 < run_length (drop (word_start text taken) text) = rw (← start) (run-after xs l) in
    let k : word_end text taken - word_start text taken ≡ run_length (drop (word_start text taken) text) = omega arith in
    sym (words-blanks xs) ∙ ap words start ∙ words-run (drop (word_start text taken) text) some ∙ rw (drop-drop, k) refl

-- A text in which no word begins any more has no words left.
pub words-none : (text : List ℕ) (taken : ℕ) → length text ≤ word_start text taken → words (drop taken text) ≡ []
words-none text taken h =
    let xs = drop taken text in
    let start : drop (blank_length xs) xs ≡ drop (word_start text taken) text = drop-drop (blank_length xs) taken text in
    sym (words-blanks xs) ∙ ap words (start ∙ drop-all text (word_start text taken) h)
