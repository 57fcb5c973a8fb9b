use Rattle.std.proofs.Common.{◌≡◌, ◌∙◌, List, [], ◌∷◌, ap₂, true, false, codes, rules}
use Rattle.clap.specs.Built.{AddsArg}
use Rattle.clap.specs.Simple.{App, app_of, new_app, on_top, with_rule}
use Rattle.clap.specs.Walk.{Rule, rule_of}
use Rattle.clap.specs.declared.builder.arg.Arg.{Arg}
use Rattle.clap.specs.declared.builder.command.Command.{Command}
use Rattle.flow_words.specs.Arguments.{rule_by}
use Rattle.flow_words.specs.declared.argument.Shape.TheVariants.{Flag, Name, Valued}
use Rattle.flow_draw.proofs.words.line.Goals as goal

-- An argument of this rule is added to a command that is this one.
added : (old new : Command) (arg : Arg) (app : App) (rule : Rule) → app_of old ≡ app → rule_of arg ≡ rule → arg.global ≡ false → AddsArg old arg new
    → app_of new ≡ with_rule app rule
added old new arg app rule is_app is_rule local adds = adds.shape local ∙ ap₂ with_rule is_app is_rule

-- The command line with these rules.
abbrev with_rules : List Rule → App
with_rules given = on_top (λ top. record top { no_binary_name = true; disable_help_flag = true; rules = given }) (new_app (codes "draw"))

pub returns : goal.returns
returns c =
    let none : app_of c.disable_help_flag-line.result ≡ with_rules [] = search rules in
    let one = added c.disable_help_flag-line.result c.in_ok-line.line c.net_file.result (with_rules []) (rule_by Name (codes "NETFILE")) none
    c.net_file.ensures.rule c.net_file.ensures.local c.in_ok-line.ensures in
    let two = added c.in_ok-line.line c.in_ok-line-2.line c.dot.result (with_rules (rule_by Name (codes "NETFILE") ∷ [])) (rule_by Flag (codes "dot")) one
    c.dot.ensures.rule c.dot.ensures.local c.in_ok-line-2.ensures in
    let three = added c.in_ok-line-2.line c.in_ok-line-3.line c.journal.result (with_rules (rule_by Name (codes "NETFILE") ∷ rule_by Flag (codes "dot") ∷ [])) (rule_by Valued (codes "journal")) two
    c.journal.ensures.rule c.journal.ensures.local c.in_ok-line-3.ensures in
    added c.in_ok-line-3.line c.in_ok-line-4.line c.fold.result (with_rules (rule_by Name (codes "NETFILE") ∷ rule_by Flag (codes "dot") ∷ rule_by Valued (codes "journal") ∷ [])) _ three
    c.fold.ensures.rule c.fold.ensures.local c.in_ok-line-4.ensures
