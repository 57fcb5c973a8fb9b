-- What a filled file is, in the words of network files.
use Rattle.std.specs.Prelude.{◌≡◌, ℕ, List, [], ◌∷◌, ◌++◌, length, Option, Some, None, true, codes}
use Rattle.flow_parse.specs.declared.token.Token.{Token}
use Rattle.flow_parse.specs.declared.token.Token.TheVariants.{Word, Arrow, Quoted}
use Rattle.flow_parse.specs.declared.form.Mention.{Mention}
use Rattle.flow_parse.specs.declared.form.PortMention.{PortMention}
use Rattle.flow_parse.specs.declared.form.Form.TheVariants.{Initial, InPort}
use Rattle.flow_parse.specs.declared.value.TheConstants.{THIRD_VERSION}
use Rattle.flow_parse.specs.Spelling.{IsRow}
use Rattle.flow_parse.specs.Files.{LineIs, says}
use Rattle.flow_parse.specs.Names.{is_name}
use Rattle.flow_fill.specs.declared.place.Place.{Place}
use Rattle.flow_fill.specs.declared.place.Place.TheVariants.{Head, Main, Inside}
use Rattle.flow_fill.specs.declared.word.Given.{Given}
use Rattle.flow_fill.specs.Reading.{use_line, word_line}
use Rattle.flow_fill.specs.Filling.{filled_line, filled_lines, is_third, text_for, words_in}
use Rattle.flow_fill.specs.Faults.{missing}

-- A text beside a word, as a row of tokens.
abbrev pub quoted : Option (List ℕ) → List Token
quoted None = []
quoted (Some text) = Quoted text ∷ []

-- The row of tokens of a word's line: `inport`, the word, maybe a text, an arrow, and what follows.
abbrev pub word_row : List ℕ → Option (List ℕ) → List Token → List Token
word_row word beside row = Word (codes "inport") ∷ Word word ∷ quoted beside ++ Arrow ∷ row

-- A line of the main part that is such a row becomes the text of its word, an arrow, and what follows.
abbrev pub AWordsLineBecomesItsText : Type 0
AWordsLineBecomesItsText = (given : List Given) (line word : List ℕ) (beside : Option (List ℕ)) (row : List Token) (text : List ℕ) → IsRow THIRD_VERSION line (word_row word beside row) → is_name word ≡ true
    → text_for given word beside ≡ Some text → IsRow THIRD_VERSION (filled_line Main given line) (Quoted text ∷ Arrow ∷ row)

-- A line that says an outer input, as subnets have them, says in the main part the text of its word at the same port.
abbrev pub AnOuterInputBecomesAText : Type 0
AnOuterInputBecomesAText = (given : List Given) (line word : List ℕ) (into : PortMention) (to : Mention) (text : List ℕ) → LineIs THIRD_VERSION line (says (InPort word into to)) → is_name word ≡ true
    → text_for given word None ≡ Some text → LineIs THIRD_VERSION (filled_line Main given line) (says (Initial text into to))

-- Any other line stays, wherever it stands, unless it is a `use` line; and each line of a subnet stays.
abbrev pub OtherLinesStay : Type 0
OtherLinesStay = (place : Place) (given : List Given) (line : List ℕ) → (word_line line ≡ None → use_line line ≡ None → filled_line place given line ≡ line) × (filled_line Inside given line ≡ line)

-- Filling keeps the lines at their places.
abbrev pub LinesKeepTheirPlaces : Type 0
LinesKeepTheirPlaces = (given : List Given) (lines : List (List ℕ)) → length (filled_lines Head given lines) ≡ length lines

-- A filled file of version 3 whose words all have texts has no word, and its version stays.
abbrev pub AFilledFileHasNoWords : Type 0
AFilledFileHasNoWords = (given : List Given) (lines : List (List ℕ)) → is_third lines ≡ true → missing given (words_in lines) ≡ None
    → (words_in (filled_lines Head given lines) ≡ []) × (is_third (filled_lines Head given lines) ≡ true)
