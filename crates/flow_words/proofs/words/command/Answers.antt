use Rattle.std.proofs.Common.{◌≡◌, ◌∙◌, map, string_bytes, None}
use Rattle.std.specs.Option.{option_map}
use Rattle.clap.specs.Words.{app_of, found_of, rows_of}
use Rattle.flow_words.specs.Words.{asked_by, command_of}
use Rattle.flow_words.proofs.Laws.{asks, none-as, read-as}
use Rattle.flow_words.proofs.Numbers.{are-spelled}
use Rattle.flow_words.proofs.words.command.Goals as goal

pub returns-in-Ok-clause-words : goal.returns-in-Ok-clause-words
returns-in-Ok-clause-words c =
    read-as (app_of c.in_ok-line.field-0) (map string_bytes c.args.words.now) (rows_of (found_of c.in-Ok.matches)) (option_map asked_by c.asked_by_matches.result)
    c.in_ok-line.ensures (λ simple. (c.in-Ok.ensures.matches simple).0) c.in-Ok.ensures.kinds c.asked_by_matches.ensures.asks

pub returns-in-Ok-clause-lines : goal.returns-in-Ok-clause-lines
returns-in-Ok-clause-lines c = λ given line once. returns-in-Ok-clause-words c ∙ asks given (map string_bytes c.args.words.now) line once

pub returns-in-Ok-clause-numbers : goal.returns-in-Ok-clause-numbers
returns-in-Ok-clause-numbers c = are-spelled

pub returns : goal.returns
returns c =
    let none : None ≡ command_of (map string_bytes c.args.words.now) =
    none-as (app_of c.in_ok-line.field-0) (map string_bytes c.args.words.now) c.in-Err.error c.in_ok-line.ensures c.in-Err.ensures.kinds (λ memory. c.in_default.not-OutOfMemory (c.kind.ensures ∙ memory)) in
    record { words = none; numbers = are-spelled; bounds = tt; lines = λ given line once. none ∙ asks given (map string_bytes c.args.words.now) line once }
