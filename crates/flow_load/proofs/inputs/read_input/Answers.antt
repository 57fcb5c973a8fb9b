use Rattle.std.proofs.Common.{sym, ◌∙◌}
use Rattle.flow_load.proofs.OwnFiles.{own-reads-nothing}
use Rattle.flow_load.proofs.inputs.read_input.Goals as goal

pub returns-then-is_some : goal.returns-then-is_some
returns-then-is_some g c =
    let placed = sym c.is_some.ensures ∙ c.if-is_some.true in
    own-reads-nothing c.args.own.now c.args.plan.now c.args.process c.own_kind.result (g.F.Edge.outside c.args.shelf.now) c.new.result c.requires.offered.are_own c.own_kind.ensures.tells placed
