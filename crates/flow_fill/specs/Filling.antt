-- A file of version 3 with texts for its words, as one without words.
use Rattle.std.specs.Prelude.{ℕ, suc, List, [], ◌∷◌, ◌++◌, length, Option, Some, None, Bool, false, ◌==◌, ◌-◌, slice_index, if◌then◌else◌, find, codes, option_map}
use Rattle.std.specs.List.{flat_map}
use Rattle.std.specs.Str.{bytes_eq}
use Rattle.flow_parse.specs.declared.token.Token.TheVariants.{Arrow, Quoted}
use Rattle.flow_parse.specs.Spelling.{spelling}
use Rattle.flow_fill.specs.declared.line.WordLine.{WordLine}
use Rattle.flow_fill.specs.declared.place.Place.{Place}
use Rattle.flow_fill.specs.declared.place.Place.TheVariants.{Head, Main, Inside, Other}
use Rattle.flow_fill.specs.declared.word.Given.{Given}
use Rattle.flow_fill.specs.declared.word.FileWord.{FileWord}
use Rattle.flow_fill.specs.Reading.{is_remark, is_header, begins_with, word_line, use_line}

-- The first line that is no remark is the header of version 3.
abbrev pub is_third : List (List ℕ) → Bool
is_third [] = false
is_third (line ∷ more) = if is_remark line then is_third more else is_header line

-- Where the next line stands, behind one that stands here. Lines from a `subnet` line on are a subnet's, to the next `end`; all others behind the header are the main part's.
abbrev pub place_after : Place → List ℕ → Place
place_after Head line = if is_remark line then Head else (if is_header line then Main else Other)
place_after Main line = if begins_with (codes "subnet") line then Inside else Main
place_after Inside line = if begins_with (codes "end") line then Main else Inside
place_after Other line = Other

-- The text that the call gives a word.
abbrev pub given_text : List Given → List ℕ → Option (List ℕ)
given_text given name = option_map (λ g. g.text) (find (λ g. bytes_eq g.word name) given)

-- The first, or else the second.
abbrev pub or_else : Option (List ℕ) → Option (List ℕ) → Option (List ℕ)
or_else (Some text) other = Some text
or_else None other = other

-- The text of a word in a line: the one that the call gives, or else the one that stands beside it.
abbrev pub text_for : List Given → List ℕ → Option (List ℕ) → Option (List ℕ)
text_for given name beside = or_else (given_text given name) beside

-- The line of an initial text: the text in quotes, an arrow, and what stands behind that.
abbrev pub initial_line : List ℕ → List ℕ → List ℕ
initial_line text rest = spelling (Quoted text) ++ 32 ∷ spelling Arrow ++ rest

-- A `use` line becomes an empty one, and any other line stays.
abbrev pub used_line : List ℕ → Option (List ℕ) → List ℕ
used_line line None = line
used_line line (Some file) = []

-- A word's line becomes that of an initial text; without a text it stays.
abbrev pub texted_line : List ℕ → Option (List ℕ) → List ℕ → List ℕ
texted_line line None rest = line
texted_line line (Some text) rest = initial_line text rest

-- A line, which is this word's line or none, becomes that of its text, or what it becomes otherwise.
abbrev pub worded_line : List Given → List ℕ → Option WordLine → List ℕ
worded_line given line None = used_line line (use_line line)
worded_line given line (Some w) = texted_line line (text_for given w.name w.beside) w.rest

-- What a line of the main part becomes.
abbrev pub main_line : List Given → List ℕ → List ℕ
main_line given line = worded_line given line (word_line line)

-- What a line becomes where it stands. The header stays, and so do lines of subnets and those of a file of another version.
abbrev pub filled_line : Place → List Given → List ℕ → List ℕ
filled_line Head given line = line
filled_line Main given line = main_line given line
filled_line Inside given line = line
filled_line Other given line = line

-- What the lines become that stand from here on, each for itself.
abbrev pub filled_lines : Place → List Given → List (List ℕ) → List (List ℕ)
filled_lines place given [] = []
filled_lines place given (line ∷ more) = filled_line place given line ∷ filled_lines (place_after place line) given more

-- The word of a word's line with this number, where it is one.
abbrev pub word_of : ℕ → Option WordLine → List FileWord
word_of n None = []
word_of n (Some w) = record { line = n; name = w.name; beside = w.beside } ∷ []

-- The word of a line, where the line stands in the main part.
abbrev pub word_here : ℕ → Place → List ℕ → List FileWord
word_here n Main line = word_of n (word_line line)
word_here n Head line = []
word_here n Inside line = []
word_here n Other line = []

-- The words in the lines that stand from here on, the first of which has the number n.
abbrev pub words_from : ℕ → Place → List (List ℕ) → List FileWord
words_from n place [] = []
words_from n place (line ∷ more) = word_here n place line ++ words_from (suc n) (place_after place line) more

-- The words of these lines of a file.
abbrev pub words_in : List (List ℕ) → List FileWord
words_in lines = words_from 1 Head lines

-- The end of a line in a text: byte 10, and before it byte 13 where the line's own last byte is one, which would be taken for the end's.
abbrev pub line_end : List ℕ → List ℕ
line_end line = if slice_index line (length line - 1) == 13 then 13 ∷ 10 ∷ [] else 10 ∷ []

-- A line with its end.
abbrev pub ended : List ℕ → List ℕ
ended line = line ++ line_end line

-- The text of these lines.
abbrev pub text_of : List (List ℕ) → List ℕ
text_of lines = flat_map ended lines
