use Rattle.std.proofs.Common.{ap}
use Rattle.std.specs.Prelude.{is_some}
use Rattle.flow_load.proofs.OwnFiles.{own-writes-nothing}
use Rattle.flow_cli.proofs.outputs.written_name.Goals as goal

pub returns-in-Some-clause-none : goal.returns-in-Some-clause-none
returns-in-Some-clause-none c =
    own-writes-nothing c.args.own.now c.args.plan.now c.args.process c.own_kind.result c.requires.offered.are_own c.own_kind.ensures.tells (ap is_some c.in-Some.is)
