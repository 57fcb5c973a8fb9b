use Rattle.std.proofs.Common.{◌≡◌, arith, map, string_bytes, None}
use Rattle.std.proofs.lemmas.Grind.{common_steps}
use Rattle.std.specs.Option.{option_map}
use Rattle.clap.specs.Words.{app_of, found_of, rows_of}
use Rattle.flow_draw.specs.Words.{asked_by, asked_of}
use Rattle.flow_draw.proofs.Matched.{read-as}
use Rattle.flow_draw.proofs.words.command.Goals as goal

pub returns-in-Ok : goal.returns-in-Ok
returns-in-Ok c =
    read-as (app_of c.in_ok-line.field-0) (map string_bytes c.args.words.now) (rows_of (found_of c.in-Ok.matches))
    (option_map asked_by c.asked_by_matches.result)
    c.in_ok-line.ensures (λ simple. (c.in-Ok.ensures.matches simple).0) c.in-Ok.ensures.kinds c.asked_by_matches.ensures

pub returns : goal.returns
returns c =
    let none : None ≡ asked_of (map string_bytes c.args.words.now) = grind (arith, common_steps) in
    none
