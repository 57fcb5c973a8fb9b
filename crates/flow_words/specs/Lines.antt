-- Lines as a reader writes them.
use Rattle.std.specs.Prelude.{◌≡◌, ◌⊎◌, ◌==◌, ⊤, Bool, false, List, [], ◌∷◌, ◌++◌, None, find, codes}
use Rattle.std.specs.declared.option.Option.{Option}
use Rattle.std.specs.Option.{option_map}
use Rattle.std.specs.Str.{bytes_eq}
use Rattle.clap.specs.Walk.{Text}
use Rattle.flow_words.specs.declared.argument.Argument.{Argument}
use Rattle.flow_words.specs.declared.argument.Argument.TheVariants.{NetFile}
use Rattle.flow_words.specs.declared.argument.Shape.{Shape}
use Rattle.flow_words.specs.declared.argument.Shape.TheVariants.{Name, Flag, Valued}
use Rattle.flow_words.specs.Arguments.{name_of, shape_of}

-- An argument that is given, with its value. A flag's is the empty text.
abbrev pub Given : Type 0
Given = Argument × Text

-- The values of the arguments that are given.
abbrev pub values_of : List Given → Argument → Option Text
values_of given a = option_map (λ g. g.1) (find (λ g. bytes_eq (name_of g.0) (name_of a)) given)

-- No argument is given twice.
abbrev pub AreOnce : List Given → Type 0
AreOnce [] = ⊤
AreOnce (g ∷ given) = (values_of given g.0 ≡ None) × AreOnce given

-- The word begins with `-`.
abbrev pub is_flag : Text → Bool
is_flag [] = false
is_flag (first ∷ rest) = first == 45

-- The word of a flag or an option of this name.
abbrev pub dashed : Text → Text
dashed name = codes "--" ++ name

-- The words of an argument of this shape, with its name and its value: a name that doesn't begin with `-`; a flag; an option and its value in one word with `=`
-- between the two, or in two words where the value doesn't begin with `-`.
abbrev pub AreWords : Shape → Text → Text → List Text → Type 0
AreWords Name name value words = (is_flag value ≡ false) × (words ≡ value ∷ [])
AreWords Flag name value words = (value ≡ []) × (words ≡ dashed name ∷ [])
AreWords Valued name value words = (words ≡ (dashed name ++ codes "=" ++ value) ∷ []) ⊎ ((is_flag value ≡ false) × (words ≡ dashed name ∷ value ∷ []))

-- Any name of a network file behind `--`, where the line ends.
abbrev pub EndsLine : List Given → List Text → Type 0
EndsLine given words = (net : Text) × (given ≡ (NetFile, net) ∷ []) × (words ≡ codes "--" ∷ net ∷ [])

-- A line that gives these arguments, one after the other.
abbrev pub IsLine : List Given → List Text → Type 0
IsLine [] words = words ≡ []
IsLine (g ∷ given) words = EndsLine (g ∷ given) words
    ⊎ ((first : List Text) × (rest : List Text) × AreWords (shape_of g.0) (name_of g.0) g.1 first × IsLine given rest × (words ≡ first ++ rest))
