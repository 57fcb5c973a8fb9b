-- Why no text is made of a file and the texts that a call gives its words.
use Rattle.std.specs.Prelude.{ℕ, suc, ◌<◌, List, [], ◌∷◌, ◌++◌, length, Option, Some, None, Bool, ◌==◌, is_none, if◌then◌else◌, option_map}
use Rattle.std.specs.List.{list_any, position}
use Rattle.std.specs.Str.{bytes_eq}
use Rattle.flow_limits.specs.declared.TheConstants.{FILE_LIMIT}
use Rattle.flow_fill.specs.declared.word.Given.{Given}
use Rattle.flow_fill.specs.declared.word.FileWord.{FileWord}
use Rattle.flow_fill.specs.declared.fault.FillFault.{FillFault}
use Rattle.flow_fill.specs.declared.fault.FillFault.TheVariants.{Twice, Unknown, Unspelled, NoText}
use Rattle.flow_fill.specs.declared.fault.FillStop.{FillStop}
use Rattle.flow_fill.specs.declared.fault.FillStop.TheVariants.{Fault, TooLong, NoMemory}
use Rattle.flow_fill.specs.declared.place.Place.TheVariants.{Head}
use Rattle.flow_fill.specs.Filling.{filled_lines, text_for, text_of}

-- One of these gives a text to the word of this name.
abbrev pub is_given : List Given → List ℕ → Bool
is_given given name = list_any (λ g. bytes_eq g.word name) given

-- One of the file's words has this name.
abbrev pub is_known : List FileWord → List ℕ → Bool
is_known words name = list_any (λ w. bytes_eq w.name name) words

-- The fault of a text that is given at this place, behind these: its word was given one before; the file has no such word; or a byte of it can't stand in a line.
abbrev pub fault_of : List FileWord → List Given → ℕ → Given → Option FillFault
fault_of words before place g =
    if is_given before g.word then Some (Twice place)
    else (if is_known words g.word then option_map (λ byte. Unspelled place byte) (position (λ b. b == 10) g.text)
    else Some (Unknown place))

-- The first fault, or else what there is besides.
abbrev pub first_of : Option FillFault → Option FillFault → Option FillFault
first_of None next = next
first_of (Some fault) next = Some fault

-- The first fault of the texts that are given from this place on, behind these.
abbrev pub given_fault : List FileWord → List Given → ℕ → List Given → Option FillFault
given_fault words before place [] = None
given_fault words before place (g ∷ more) = first_of (fault_of words before place g) (given_fault words (before ++ g ∷ []) (suc place) more)

-- The word of a file has no text.
abbrev pub is_textless : List Given → FileWord → Bool
is_textless given w = is_none (text_for given w.name w.beside)

-- The first of the file's words that has no text.
abbrev pub missing : List Given → List FileWord → Option FillFault
missing given words = option_map (λ place. NoText place) (position (is_textless given) words)

-- The first fault: first of the texts that are given, in their order, and then of the words in the file.
abbrev pub fault_in : List FileWord → List Given → Option FillFault
fault_in words given = first_of (given_fault words [] 0 given) (missing given words)

-- What is said of the fault, where there is one.
abbrev pub IfFault : FillStop → (FillFault → Type 0) → Type 0
IfFault (Fault fault) P = P fault
IfFault TooLong P = Unit {0}
IfFault NoMemory P = Unit {0}

-- What is said where the text is too long.
abbrev pub IfLong : FillStop → Type 0 → Type 0
IfLong (Fault fault) P = Unit {0}
IfLong TooLong P = P
IfLong NoMemory P = Unit {0}

-- The text that these lines of a file of version 3 come to has more bytes than a network file may have.
abbrev pub IsTooLong : List Given → List (List ℕ) → Type 0
IsTooLong given lines = FILE_LIMIT < length (text_of (filled_lines Head given lines))
