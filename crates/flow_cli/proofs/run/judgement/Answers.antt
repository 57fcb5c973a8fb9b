use Rattle.std.proofs.Common.{◌≡◌, arith}
use Rattle.std.proofs.lemmas.Grind.{common_steps}
use Rattle.flow_cli.specs.Top.{answer}
use Rattle.flow_cli.proofs.Performing.{tells}
use Rattle.flow_cli.proofs.run.judgement.Goals as goal

pub returns-clause-text : goal.returns-clause-text
returns-clause-text c =
    let same : c.in_ok-text.text.items ≡ answer c.determinate.result = grind (arith, common_steps) in
    tells c.args.plan.now c.determinate.result c.in_ok-text.text.items c.determinate.ensures same
