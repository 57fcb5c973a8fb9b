-- What clap's getters give, by the rows of a parse.
use Rattle.std.proofs.Common.{◌≡◌, ◌∙◌, ap, ap₂, sym, refl, Option, Some, None}
use Rattle.std.specs.Prelude.{find, option_map, option_and_then}
use Rattle.std.specs.Str.{bytes_eq}
use Rattle.clap.specs.Facts.{Entry}
use Rattle.clap.specs.Matches.{matched_of}
use Rattle.clap.specs.Walk.{Text, row_of, rows_of}
use Rattle.clap.specs.declared.parser.matches.Found.{Found}
use Rattle.clap.specs.declared.parser.matches.ValueSource.{ValueSource}
use Rattle.clap.proofs.WalkLemmas.{find_row}
use Rattle.flow_words.specs.declared.argument.Argument.{Argument}
use Rattle.flow_words.specs.declared.argument.Shape.{Shape}
use Rattle.flow_words.specs.Arguments.{name_of, shape_of}
use Rattle.flow_words.specs.Words.{is_from_words, is_given, row_named, value_by, value_in}

-- The source of a row is that of its entry.
source-rows : (found : Found) (name : Text) → option_and_then (λ entry. entry.source) (matched_of found name) ≡ option_and_then (λ row. row.source) (row_named name (rows_of found))
source-rows found name = go (find (λ entry. bytes_eq entry.0.now name) found.entries.items)
    ∙ ap (option_and_then (λ row. row.source)) (sym (find_row found.entries.items name))
  where
    go : (entry : Option Entry) → option_and_then (λ matched. matched.source) (option_map (λ e. e.1) entry)
        ≡ option_and_then (λ row. row.source) (option_map row_of entry)
    go None = refl
    go (Some entry) = refl

-- The flag stands where its source says so.
pub flag-as : (found : Found) (name : Text) (source : Option ValueSource) → source ≡ option_and_then (λ entry. entry.source) (matched_of found name)
    → is_from_words source ≡ is_given (row_named name (rows_of found))
flag-as found name source same = ap is_from_words (same ∙ source-rows found name)

-- The value of an argument is what the row of its name gives one of its shape.
pub value-as : (found : Found) (a : Argument) (shape : Shape) (name : Text) → shape_of a ≡ shape → name ≡ name_of a → value_by shape (row_named name (rows_of found)) ≡ value_in (rows_of found) a
value-as found a shape name is_shape is_name = ap₂ (λ (s : Shape) (n : Text). value_by s (row_named n (rows_of found))) (sym is_shape) is_name
