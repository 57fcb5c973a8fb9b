-- How long an input is.
use Rattle.std.proofs.Common.{◌≡◌, ℕ, zero, suc, ◌+◌, ◌*◌, ◌≤◌, List, [], ◌∷◌, ◌++◌, length, length-append, map, arith}
use Rattle.std.specs.List.{AllByRecursion, flat_map, join_with_byte, range_with_len}
use Rattle.std.proofs.lemmas.List.{length-replicate}
use Rattle.std.proofs.lemmas.List.FromFn.{length-map-range_with_len}
use Rattle.flow_make.specs.Numbers.{number_at}
use Rattle.flow_make.specs.Lines.{ended, text_of}
use Rattle.flow_make.specs.Input.{letter_of, word_length, word_of, word_at, line_from, input_lines, longest_word, words_in_line, lines_for_one}

-- What a function gives at each number of a range passes, where it passes everywhere.
mapped : (P : List ℕ → Type 0) (f : ℕ → List ℕ) → ((n : ℕ) → P (f n)) → (first count : ℕ) → AllByRecursion P (map f (range_with_len first count))
mapped P f passes first zero = tt
mapped P f passes first (suc count) = (passes first, mapped P f passes (first + 1) count)

word_size : (number : ℕ) → length (word_of number) ≤ longest_word
word_size number = let is = length-replicate (word_length number) (letter_of number) in omega (arith, is)

joined_size : (w : List ℕ) (ws : List (List ℕ)) → AllByRecursion (λ x. length x ≤ longest_word) (w ∷ ws) → length (join_with_byte 32 (w ∷ ws)) + 1 ≤ length (w ∷ ws) * (longest_word + 1)
joined_size w [] all = let here : length w ≤ 9 = all.0 in omega (arith, here)
joined_size w (v ∷ vs) all =
    let here : length w ≤ 9 = all.0 in
    let rest : length (join_with_byte 32 (v ∷ vs)) + 1 ≤ length (v ∷ vs) * 10 = joined_size v vs all.1 in
    let whole : length (w ++ 32 ∷ join_with_byte 32 (v ∷ vs)) ≡ length w + suc (length (join_with_byte 32 (v ∷ vs))) = length-append w (32 ∷ join_with_byte 32 (v ∷ vs)) in
    omega (arith, here, rest, whole)

line_size : (first place : ℕ) → length (ended (line_from first place)) ≤ words_in_line * (longest_word + 1)
unfolding line_from
line_size first place =
    let text = join_with_byte 32 (map (word_at first) (range_with_len place words_in_line)) in
    let words : length text + 1 ≤ 100 = joined_size (word_at first place) (map (word_at first) (range_with_len (place + 1) 9)) (mapped (λ x. length x ≤ longest_word) (word_at first) (λ n. word_size (number_at first n)) place words_in_line) in
    let whole : length (text ++ 10 ∷ []) ≡ length text + 1 = length-append text (10 ∷ []) in
    omega (arith, words, whole)

text_size : (most : ℕ) (lines : List (List ℕ)) → AllByRecursion (λ line. length (ended line) ≤ most) lines → length (text_of lines) ≤ length lines * most
unfolding text_of
text_size most [] all = omega arith
text_size most (line ∷ rest) all =
    let here : length (ended line) ≤ most = all.0 in
    let behind : length (flat_map ended rest) ≤ length rest * most = text_size most rest all.1 in
    let whole : length (ended line ++ flat_map ended rest) ≡ length (ended line) + length (flat_map ended rest) = length-append (ended line) (flat_map ended rest) in
    omega (arith, here, behind, whole)

-- An input has at most so many bytes as its lines, each with so many words, have at most.
pub input_size : (number : ℕ) → length (text_of (input_lines number)) ≤ number * lines_for_one * (words_in_line * (longest_word + 1))
unfolding input_lines
input_size number =
    let line : ℕ → List ℕ = λ n. line_from number (n * words_in_line + 1) in
    let count : length (map line (range_with_len 0 (number * lines_for_one))) ≡ number * lines_for_one = length-map-range_with_len line 0 (number * lines_for_one) in
    let most : length (text_of (input_lines number)) ≤ length (map line (range_with_len 0 (number * lines_for_one))) * 100 =
    text_size 100 (input_lines number) (mapped (λ l. length (ended l) ≤ 100) line (λ n. line_size number (n * words_in_line + 1)) 0 (number * lines_for_one)) in
    omega (arith, count, most)
