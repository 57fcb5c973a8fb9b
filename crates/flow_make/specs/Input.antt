-- The input that is made from a number: its words and its lines.
use Rattle.std.specs.Prelude.{ℕ, ◌+◌, ◌*◌, ◌/◌, ◌%◌, List, map, replicate, slice_index, codes}
use Rattle.std.specs.List.{join_with_byte, range_with_len}
use Rattle.flow_make.specs.Numbers.{number_at}

-- A word has at most so many bytes.
abbrev pub longest_word : ℕ
longest_word = 9

-- A line has so many words.
abbrev pub words_in_line : ℕ
words_in_line = 10

-- An input has so many lines for each one of its number.
abbrev pub lines_for_one : ℕ
lines_for_one = 1000

-- How many bytes the word of a number has, from 1 on.
abbrev pub word_length : ℕ → ℕ
word_length number = 1 + number / 65536 % longest_word

-- The letters that words are made of.
abbrev pub alphabet : List ℕ
alphabet = codes "abcdefghijklmnopqrstuvwxyz"

-- The one letter of which the word of a number is made.
unfoldable pub letter_of : ℕ → ℕ
letter_of number = slice_index alphabet (number / 1024 % 26)

-- The word of a number: its letter, as often as its length says.
abbrev pub word_of : ℕ → List ℕ
word_of number = replicate (word_length number) (letter_of number)

-- The word at a place, counted from 1: that of the number at this place of the sequence that begins behind a first number.
abbrev pub word_at : ℕ → ℕ → List ℕ
word_at first place = word_of (number_at first place)

-- The line whose first word stands at this place: so many words from there on, with one space between two.
unfoldable pub line_from : ℕ → ℕ → List ℕ
line_from first place = join_with_byte 32 (map (word_at first) (range_with_len place words_in_line))

-- The lines of an input: each goes on with the word behind the last one of the line before it.
unfoldable pub input_lines : ℕ → List (List ℕ)
input_lines number = map (λ line. line_from number (line * words_in_line + 1)) (range_with_len 0 (number * lines_for_one))
