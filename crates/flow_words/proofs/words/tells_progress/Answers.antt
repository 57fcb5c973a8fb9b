use Rattle.std.proofs.Common.{◌≡◌, ◌∙◌, map, string_bytes, sym, ap, is_some, false}
use Rattle.clap.specs.Words.{app_of, found_of, rows_of}
use Rattle.flow_words.specs.Words.{progress_of}
use Rattle.flow_words.proofs.Laws.{none-tells, tells, tells-as}
use Rattle.flow_words.proofs.Tables.{some_map}
use Rattle.flow_words.proofs.words.tells_progress.Goals as goal

pub returns-in-Ok-clause-words : goal.returns-in-Ok-clause-words
returns-in-Ok-clause-words c =
    tells-as (app_of c.in_ok-line.field-0) (map string_bytes c.args.words.now) (rows_of (found_of c.in-Ok.matches)) c.is_some.result
    c.in_ok-line.ensures (λ simple. (c.in-Ok.ensures.matches simple).0) c.in-Ok.ensures.kinds
    (c.is_some.ensures ∙ sym (some_map (λ s. s.now) c.value_of.result) ∙ ap is_some c.value_of.ensures)

pub returns-in-Ok-clause-lines : goal.returns-in-Ok-clause-lines
returns-in-Ok-clause-lines c = λ given line once. returns-in-Ok-clause-words c ∙ tells given (map string_bytes c.args.words.now) line once

pub returns : goal.returns
returns c =
    let none : false ≡ progress_of (map string_bytes c.args.words.now) =
    none-tells (app_of c.in_ok-line.field-0) (map string_bytes c.args.words.now) c.in-Err.error c.in_ok-line.ensures c.in-Err.ensures.kinds (λ memory. c.in_default.not-OutOfMemory (c.kind.ensures ∙ memory)) in
    record { words = none; lines = λ given line once. none ∙ tells given (map string_bytes c.args.words.now) line once }
