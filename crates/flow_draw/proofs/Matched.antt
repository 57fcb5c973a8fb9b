-- What clap's matches ask for is what the words do.
use Rattle.std.proofs.Common.{◌≡◌, ◌∙◌, true, List, [], None, Option, ap, sym}
use Rattle.std.specs.Prelude.{if◌then◌else◌}
use Rattle.clap.specs.Faults.{fault_of, is_simple_and_free}
use Rattle.clap.specs.Kinds.{Kinds}
use Rattle.clap.specs.Simple.{App, is_simple, matches_of}
use Rattle.clap.specs.Walk.{Row, Text, is_empty}
use Rattle.flow_draw.specs.Words.{Asked, asked_in, asked_of, line_app}

pub read-as : (app : App) (words : List Text) (rows : List Row) (found : Option Asked) → app ≡ line_app → (is_simple app ≡ true → rows ≡ matches_of app words)
    → (is_simple_and_free app ≡ true → fault_of app words ≡ []) → found ≡ asked_in rows → found ≡ asked_of words
read-as app words rows found is matched free asked =
    let simple : is_simple app ≡ true = ap is_simple is in
    let all_free : is_simple_and_free app ≡ true = ap is_simple_and_free is in
    let no_fault : fault_of line_app words ≡ [] = ap (λ (a : App). fault_of a words) (sym is) ∙ free all_free in
    let same : rows ≡ matches_of line_app words = matched simple ∙ ap (λ (a : App). matches_of a words) is in
    asked ∙ ap asked_in same ∙ sym (ap (λ (kinds : Kinds). if is_empty kinds then asked_in (matches_of line_app words) else None) no_fault)
