-- What a line of a network file begins with, read from the left, and the three lines that version 3 has besides: its header, the line of a word in the main part, and a `use` line.
use Rattle.std.specs.Prelude.{ℕ, List, [], ◌∷◌, length, take, drop, Option, Some, None, Bool, true, false, ◌==◌, ◌&&◌, if◌then◌else◌, option_and_then, take_while, codes}
use Rattle.std.specs.List.{prefix_len}
use Rattle.std.specs.Str.{bytes_eq}
use Rattle.flow_parse.specs.Spelling.{is_blank, is_word_byte}
use Rattle.flow_parse.specs.Names.{is_name}
use Rattle.flow_fill.specs.declared.line.WordLine.{WordLine}

-- The bytes from the first on that is no blank.
abbrev pub behind_blanks : List ℕ → List ℕ
behind_blanks [] = []
behind_blanks (b ∷ bs) = if is_blank b then behind_blanks bs else b ∷ bs

-- There are blanks alone, or none.
abbrev pub is_blank_line : List ℕ → Bool
is_blank_line bytes = length (behind_blanks bytes) == 0

-- Nothing, or a # and anything behind it.
abbrev pub begins_remark : List ℕ → Bool
begins_remark [] = true
begins_remark (b ∷ bs) = b == 35

-- Behind the blanks there is nothing, or a #.
abbrev pub is_remark : List ℕ → Bool
is_remark line = begins_remark (behind_blanks line)

-- The word that bytes begin with behind blanks, and what stands behind it. It has no byte where they begin with none.
abbrev pub word_at : List ℕ → List ℕ × List ℕ
word_at bytes = (take_while is_word_byte (behind_blanks bytes), drop (prefix_len is_word_byte (behind_blanks bytes)) (behind_blanks bytes))

-- What stands behind this word, where bytes begin with it.
abbrev pub behind_word : List ℕ → List ℕ → Option (List ℕ)
behind_word word bytes = if bytes_eq (word_at bytes).0 word then Some (word_at bytes).1 else None

-- What stands behind an arrow, where bytes begin with one.
abbrev pub behind_arrow : List ℕ → Option (List ℕ)
behind_arrow bytes = if bytes_eq (take 2 (behind_blanks bytes)) (codes "->") then Some (drop 2 (behind_blanks bytes)) else None

-- A byte in front of a text, where there is one.
abbrev pub in_front : ℕ → Option (List ℕ × List ℕ) → Option (List ℕ × List ℕ)
in_front b None = None
in_front b (Some found) = Some (b ∷ found.0, found.1)

-- A quoted text behind its opening ', and what stands behind the closing one. After `true` a ' stands before the bytes: another one behind it is a ' of the text, and anything else ends it.
abbrev pub text_from : Bool → List ℕ → Option (List ℕ × List ℕ)
text_from false [] = None
text_from true [] = Some ([], [])
text_from false (b ∷ bs) = if b == 39 then text_from true bs else in_front b (text_from false bs)
text_from true (b ∷ bs) = if b == 39 then in_front 39 (text_from false bs) else Some ([], b ∷ bs)

-- The quoted text that begins at the first of these bytes, and what stands behind it.
abbrev pub quoted_here : List ℕ → Option (List ℕ × List ℕ)
quoted_here [] = None
quoted_here (b ∷ bs) = if b == 39 then text_from false bs else None

-- The quoted text that bytes begin with behind blanks, and what stands behind it.
abbrev pub quoted_at : List ℕ → Option (List ℕ × List ℕ)
quoted_at bytes = quoted_here (behind_blanks bytes)

-- A text that was found, and what stands behind it; or no text, and all of the bytes.
abbrev pub or_all : List ℕ → Option (List ℕ × List ℕ) → Option (List ℕ) × List ℕ
or_all bytes None = (None, bytes)
or_all bytes (Some found) = (Some found.0, found.1)

-- A quoted text, where bytes begin with one, and what stands behind it; or no text, and the bytes.
abbrev pub beside_at : List ℕ → Option (List ℕ) × List ℕ
beside_at bytes = or_all bytes (quoted_at bytes)

-- A word's line of this name and with this text beside it, where an arrow follows and the name is one.
abbrev pub word_line_of : List ℕ → Option (List ℕ) → List ℕ → Option WordLine
word_line_of name beside bytes = option_and_then (λ rest. if is_name name then Some (record { name = name; beside = beside; rest = rest }) else None) (behind_arrow bytes)

-- The line of a word: `inport NAME ->` or `inport NAME 'TEXT' ->`, and what stands behind the arrow, whatever that is.
abbrev pub word_line : List ℕ → Option WordLine
word_line line = option_and_then (λ behind. word_line_of (word_at behind).0 (beside_at (word_at behind).1).0 (beside_at (word_at behind).1).1) (behind_word (codes "inport") line)

-- The text of a quoted one behind which nothing stands.
abbrev pub alone : List ℕ × List ℕ → Option (List ℕ)
alone found = if is_blank_line found.1 then Some found.0 else None

-- The name of the file in a line `use 'FILE'`.
abbrev pub use_line : List ℕ → Option (List ℕ)
use_line line = option_and_then (λ behind. option_and_then alone (quoted_at behind)) (behind_word (codes "use") line)

-- The version is 3, and nothing follows.
abbrev pub is_three : Option (List ℕ) → Bool
is_three None = false
is_three (Some bytes) = bytes_eq (word_at bytes).0 (codes "3") && is_blank_line (word_at bytes).1

-- The line is the header of version 3, `flow 3`.
abbrev pub is_header : List ℕ → Bool
is_header line = is_three (behind_word (codes "flow") line)

-- The line begins with this word.
abbrev pub begins_with : List ℕ → List ℕ → Bool
begins_with word line = bytes_eq (word_at line).0 word
