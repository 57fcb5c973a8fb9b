use Rattle.std.proofs.Common.{◌≡◌, arith, map, string_bytes, false}
use Rattle.std.proofs.lemmas.Grind.{common_steps}
use Rattle.clap.specs.Words.{app_of, found_of, rows_of}
use Rattle.flow_draw.specs.Help.{asks_help}
use Rattle.flow_draw.proofs.Helping.{asked-so}
use Rattle.flow_draw.proofs.help.asks_help.Goals as goal

pub returns-in-Ok : goal.returns-in-Ok
returns-in-Ok c =
    asked-so (app_of c.in_ok-help_line.field-0) (map string_bytes c.args.words.now) (rows_of (found_of c.in-Ok.matches))
    c.has_flag.result
    c.in_ok-help_line.ensures (λ simple. (c.in-Ok.ensures.matches simple).0) c.in-Ok.ensures.kinds c.has_flag.ensures

pub returns : goal.returns
returns c =
    let none : false ≡ asks_help (map string_bytes c.args.words.now) = grind (arith, common_steps) in
    none
