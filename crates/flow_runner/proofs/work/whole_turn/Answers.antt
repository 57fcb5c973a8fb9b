use Rattle.flow_floor.proofs.Bursts.{one-made}
use Rattle.flow_runner.proofs.work.whole_turn.Goals as goal

pub returns-in-Made-clause-burst : goal.returns-in-Made-clause-burst
returns-in-Made-clause-burst g c most least = let f = c.args.floor.now in
    one-made g.K.Component.rules f.layout.processes f.layout.connections f.table.shared.key.value most c.args.held.now c.args.worker.now c.turn.new.held c.turn.new.worker c.in-Made.first c.requires.held.agrees least c.in-Made.ensures.turned
