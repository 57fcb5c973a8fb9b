use Rattle.std.proofs.Common.{◌≡◌, ◌+◌, ◌<◌, ◌∙◌, ◌++◌, ◌∷◌, [], List, map, take, length, get_or, ap, ap₂, sym, arith, codes, true, false}
use Rattle.std.proofs.lemmas.List.{take_more, map-append}
use Rattle.clap.specs.Built.{AddsArg}
use Rattle.clap.specs.Simple.{App, app_of, new_app, on_top, with_rule}
use Rattle.clap.specs.Walk.{Rule, rule_of}
use Rattle.clap.specs.declared.builder.arg.Arg.{Arg}
use Rattle.clap.specs.declared.builder.command.Command.{Command}
use Rattle.flow_words.specs.declared.argument.Argument.TheVariants.{NetFile}
use Rattle.flow_words.specs.Arguments.{arguments, rule_for}
use Rattle.flow_words.specs.Words.{app_with}
use Rattle.flow_words.proofs.words.line.Goals as goal

-- An argument of this rule is added to a command that is this one.
added : (old new : Command) (arg : Arg) (app : App) (rule : Rule) → app_of old ≡ app → rule_of arg ≡ rule → arg.global ≡ false → AddsArg old arg new → app_of new ≡ with_rule app rule
added old new arg app rule is_app is_rule local adds = adds.shape local ∙ ap₂ with_rule is_app is_rule

-- The command line with these rules.
abbrev with_rules : List Rule → App
with_rules rules = on_top (λ top. record top { no_binary_name = true; disable_help_flag = true; rules = rules }) (new_app (codes "flow"))

pub loop-argument-preserved : goal.loop-argument-preserved
loop-argument-preserved c =
    let i = c.loop-argument.argument-index in
    let a = get_or arguments i NetFile in
    let within : i < length arguments = omega arith in
    let more : map rule_for (take (i + 1) arguments) ≡ map rule_for (take i arguments) ++ rule_for a ∷ [] = ap (map rule_for) (take_more arguments i NetFile within) ∙ map-append rule_for (take i arguments) (a ∷ []) in
    added c.loop-argument.line c.in_ok-line.line c.for_clap.result (app_with (take i arguments)) (rule_for a) c.loop-argument.invariant c.for_clap.ensures.rule c.for_clap.ensures.local c.in_ok-line.ensures
    ∙ ap with_rules (sym more)
