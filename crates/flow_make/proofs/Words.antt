-- One more word of a line, and one more line of an input.
use Rattle.std.proofs.Common.{◌≡◌, ℕ, zero, suc, ◌+◌, ◌*◌, ◌%◌, ◌/◌, ◌≤◌, List, [], ◌∷◌, ◌++◌, map, refl, sym, ap, ap₂, ◌∙◌, append_assoc, arith}
use Rattle.std.specs.List.{flat_map, join_with_byte, range_with_len}
use Rattle.std.proofs.lemmas.List.{append-nil}
use Rattle.std.proofs.lemmas.List.Concat.{flat_map-append}
use Rattle.std.proofs.lemmas.List.FromFn.{get_or-range_with_len, map-range_with_len_more}
use Rattle.flow_make.specs.Numbers.{next_number, number_at}
use Rattle.flow_make.specs.Lines.{ended, text_of}
use Rattle.flow_make.specs.Input.{letter_of, word_of, word_at, line_from, input_lines, words_in_line, lines_for_one}

-- The letters are the 26 bytes from `a` on.
pub letter-byte : (number : ℕ) → letter_of number ≡ 97 + number / 1024 % 26
unfolding letter_of
letter-byte number = get_or-range_with_len 97 26 (number / 1024 % 26) 0 (omega arith)

-- The first so many words behind a number, with one space between two.
abbrev pub words : ℕ → ℕ → List ℕ
words first count = join_with_byte 32 (map (word_at first) (range_with_len 1 count))

-- The first so many lines of an input.
abbrev pub first_lines : ℕ → ℕ → List (List ℕ)
first_lines number count = map (λ line. line_from number (line * words_in_line + 1)) (range_with_len 0 count)

joined_more : (x : List ℕ) (xs : List (List ℕ)) (y : List ℕ) → join_with_byte 32 (x ∷ xs ++ y ∷ []) ≡ join_with_byte 32 (x ∷ xs) ++ 32 ∷ y
joined_more x [] y = refl
joined_more x (z ∷ zs) y = ap (λ (l : List ℕ). x ++ 32 ∷ l) (joined_more z zs y) ∙ sym (append_assoc x (32 ∷ join_with_byte 32 (z ∷ zs)) (32 ∷ y))

-- A number later in the sequence.
number-later : (first a b : ℕ) → number_at (number_at first a) b ≡ number_at first (a + b)
unfolding number_at
number-later first a zero = let e : a ≡ a + 0 = omega arith in ap (number_at first) e
number-later first a (suc b) = let e : suc (a + b) ≡ a + suc b = omega arith in ap next_number (number-later first a b) ∙ ap (number_at first) e

-- The number that follows the one at a place.
pub number-next : (first place : ℕ) → number_at first (place + 1) ≡ next_number (number_at first place)
unfolding number_at
number-next first place = let e : place + 1 ≡ suc place = omega arith in ap (number_at first) e

-- The first number of a sequence follows the one that it begins behind.
pub number-first : (first : ℕ) → number_at first 1 ≡ next_number first
unfolding number_at
number-first first = refl

words_more : (first count : ℕ) → 1 ≤ count → words first (count + 1) ≡ words first count ++ 32 ∷ word_at first (count + 1)
words_more first zero some = absurd (omega arith)
words_more first (suc count) some =
    ap (join_with_byte 32) (map-range_with_len_more (word_at first) 1 (suc count) (suc count + 1) (omega arith))
    ∙ joined_more (word_at first 1) (map (word_at first) (range_with_len 2 count)) (word_at first (suc count + 1))

-- A space and one more word are put behind the words before.
pub word_put : (first count number : ℕ) (start before spaced after : List ℕ) → 1 ≤ count → before ≡ start ++ words first count → spaced ≡ before ++ 32 ∷ [] → number ≡ number_at first (count + 1)
    → after ≡ spaced ++ word_of number → after ≡ start ++ words first (count + 1)
word_put first count number start before spaced after some put space is word =
    let w = word_at first (count + 1) in
    word ∙ ap (λ (n : ℕ). spaced ++ word_of n) is ∙ ap (λ (l : List ℕ). l ++ w) (space ∙ ap (λ (l : List ℕ). l ++ 32 ∷ []) put ∙ append_assoc start (words first count) (32 ∷ []))
    ∙ append_assoc start (words first count ++ 32 ∷ []) w ∙ ap (λ (l : List ℕ). start ++ l) (append_assoc (words first count) (32 ∷ []) w ∙ sym (words_more first count some))

-- A line's words are ended by byte 10.
pub line_put : (first count : ℕ) (start before after : List ℕ) → count ≡ words_in_line → before ≡ start ++ words first count → after ≡ before ++ 10 ∷ []
    → after ≡ start ++ ended (line_from first 1)
unfolding line_from
line_put first count start before after full put end =
    end ∙ ap (λ (l : List ℕ). l ++ 10 ∷ []) (put ∙ ap (λ (n : ℕ). start ++ words first n) full) ∙ append_assoc start (words first words_in_line) (10 ∷ [])

words_later : (first a b count : ℕ) → map (word_at (number_at first a)) (range_with_len b count) ≡ map (word_at first) (range_with_len (a + b) count)
words_later first a b zero = refl
words_later first a b (suc count) =
    let e : a + (b + 1) ≡ (a + b) + 1 = omega arith in
    ap₂ (λ (w : List ℕ) (ws : List (List ℕ)). w ∷ ws) (ap word_of (number-later first a b)) (words_later first a (b + 1) count ∙ ap (λ (n : ℕ). map (word_at first) (range_with_len n count)) e)

line_later : (first a : ℕ) → line_from (number_at first a) 1 ≡ line_from first (a + 1)
unfolding line_from
line_later first a = ap (join_with_byte 32) (words_later first a 1 words_in_line)

lines_more : (number count : ℕ) → text_of (first_lines number (count + 1)) ≡ text_of (first_lines number count) ++ ended (line_from number (count * words_in_line + 1))
unfolding text_of
lines_more number count =
    let line : ℕ → List ℕ = λ n. line_from number (n * words_in_line + 1) in
    ap (flat_map ended) (map-range_with_len_more line 0 count count (omega arith)) ∙ flat_map-append ended (first_lines number count) (line count ∷ [])
    ∙ ap (λ (l : List ℕ). flat_map ended (first_lines number count) ++ l) (append-nil (ended (line count)))

-- One more line is put behind the lines before.
pub line_added : (number count at : ℕ) (before after : List ℕ) → before ≡ text_of (first_lines number count) → at ≡ number_at number (count * words_in_line) → after ≡ before ++ ended (line_from at 1)
    → after ≡ text_of (first_lines number (count + 1))
line_added number count at before after put is line =
    line ∙ ap₂ (λ (l m : List ℕ). l ++ ended m) put (ap (λ (n : ℕ). line_from n 1) is ∙ line_later number (count * words_in_line)) ∙ sym (lines_more number count)

-- Behind a line the sequence stands at the last word of that line.
pub place_after : (number count at next : ℕ) → at ≡ number_at number (count * words_in_line) → next ≡ number_at at words_in_line → next ≡ number_at number ((count + 1) * words_in_line)
place_after number count at next is after =
    let e : count * words_in_line + words_in_line ≡ (count + 1) * words_in_line = omega arith in
    after ∙ ap (λ (n : ℕ). number_at n words_in_line) is ∙ number-later number (count * words_in_line) words_in_line ∙ ap (number_at number) e

-- No line stands before the first, and the sequence stands at its beginning.
pub none_put : (number : ℕ) (out : List ℕ) → out ≡ [] → out ≡ text_of (first_lines number 0)
unfolding text_of
none_put number out none = none

-- At its beginning the sequence has the number itself.
pub place_first : (number : ℕ) → number ≡ number_at number 0
unfolding number_at
place_first number = refl

-- All lines are those of the input.
pub all_put : (number count : ℕ) (out : List ℕ) → count ≡ number * lines_for_one → out ≡ text_of (first_lines number count) → out ≡ text_of (input_lines number)
unfolding input_lines
all_put number count out all put = put ∙ ap (λ (n : ℕ). text_of (first_lines number n)) all
