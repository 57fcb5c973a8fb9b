-- What a Fill makes of a stream: brackets in their order, and lines of words between them.
use Rattle.std.specs.Prelude.{◌≡◌, ℕ, ◌+◌, ◌<◌, ◌≤◌, ◌⊎◌, List, [], ◌∷◌, ◌++◌, length, map, filter}
use Rattle.std.specs.List.{flat_map, join_with_byte}
use Rattle.flow_packet.specs.Tree.{Tree, kind_of, text_of}
use Rattle.flow_packet.specs.declared.packet.Kind.TheVariants.{Normal}
use Rattle.flow_parts.specs.Text.{is_filled}
use Rattle.flow_component.specs.Runs.{text_packet}

-- All elements have the property.
abbrev pub Each : {X : Type 0} → (X → Type 0) → List X → Type 0
Each P [] = Unit {0}
Each P (x ∷ xs) = P x × Each P xs

-- A packet of data.
abbrev pub IsNormal : Tree → Type 0
IsNormal t = kind_of t ≡ Normal

-- A packet that opens or closes a substream.
abbrev pub IsBracket : Tree → Type 0
IsBracket t = kind_of t ≡ Normal → ⊥

-- A line is its words; its text has one space between two words.
abbrev pub Line : Type 0
Line = List (List ℕ)

-- The text of a line: its words with one space between them.
abbrev pub line_text : Line → List ℕ
line_text line = join_with_byte 32 line

-- The word that a line begins with.
abbrev pub first_word : Line → List ℕ
first_word [] = []
first_word (w ∷ ws) = w

-- the texts that aren't empty
abbrev pub words_in : List Tree → List (List ℕ)
words_in x = filter is_filled (map text_of x)

-- It has at most size bytes, or it is a single word.
abbrev pub IsLine : ℕ → Line → Type 0
IsLine size line = (1 ≤ length line) × ((length (line_text line) ≤ size) ⊎ (length line ≡ 1))

-- The first word of each line wouldn't have fitted on the line before it.
abbrev pub BreaksLate : ℕ → List Line → Type 0
BreaksLate size [] = Unit {0}
BreaksLate size (a ∷ []) = Unit {0}
BreaksLate size (a ∷ b ∷ lines) = (size < length (line_text a) + 1 + length (first_word b)) × BreaksLate size (b ∷ lines)

-- The words are filled into these lines.
pub record IsFilled (size : ℕ) (words : List (List ℕ)) (lines : List Line) : Type 0 where
  pub all_words : flat_map (λ line. line) lines ≡ words
  pub are_lines : Each (IsLine size) lines
  pub late : BreaksLate size lines

-- The lines as packets.
abbrev pub line_packets : List Line → List Tree
line_packets lines = map (λ line. text_packet (line_text line)) lines

-- y is a filling of x: the brackets of x in their order, and between them, and at both ends, the lines of the words there.
pub data Filling (size : ℕ) : List Tree → List Tree → Type 0 where
  last_part : (part : List Tree) (lines : List Line) → Each IsNormal part → IsFilled size (words_in part) lines → Filling size part (line_packets lines)
  part_and_bracket : (part : List Tree) (lines : List Line) (bracket : Tree) (x y : List Tree) → Each IsNormal part → IsFilled size (words_in part) lines → IsBracket bracket
      → Filling size x y → Filling size (part ++ bracket ∷ x) (line_packets lines ++ bracket ∷ y)
