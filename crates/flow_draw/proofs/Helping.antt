-- What clap's matches say of the help is what the words do.
use Rattle.std.proofs.Common.{◌≡◌, ◌∙◌, true, Bool, List, [], ap, sym}
use Rattle.std.specs.Prelude.{◌&&◌, codes}
use Rattle.clap.specs.Faults.{fault_of, is_simple_and_free}
use Rattle.clap.specs.Kinds.{Kinds}
use Rattle.clap.specs.Simple.{App, is_simple, matches_of}
use Rattle.clap.specs.Walk.{Row, Text, is_empty}
use Rattle.flow_words.specs.Words.{is_given, row_named}
use Rattle.flow_draw.specs.Help.{asks_help, help_app}

pub asked-so : (app : App) (words : List Text) (rows : List Row) (asks : Bool) → app ≡ help_app → (is_simple app ≡ true → rows ≡ matches_of app words)
    → (is_simple_and_free app ≡ true → fault_of app words ≡ []) → asks ≡ is_given (row_named (codes "help") rows) → asks ≡ asks_help words
asked-so app words rows asks is matched free asked =
    let simple : is_simple app ≡ true = ap is_simple is in
    let all_free : is_simple_and_free app ≡ true = ap is_simple_and_free is in
    let no_fault : fault_of help_app words ≡ [] = ap (λ (a : App). fault_of a words) (sym is) ∙ free all_free in
    let same : rows ≡ matches_of help_app words = matched simple ∙ ap (λ (a : App). matches_of a words) is in
    asked ∙ ap (λ (r : List Row). is_given (row_named (codes "help") r)) same
    ∙ sym (ap (λ (kinds : Kinds). is_empty kinds && is_given (row_named (codes "help") (matches_of help_app words))) no_fault)
