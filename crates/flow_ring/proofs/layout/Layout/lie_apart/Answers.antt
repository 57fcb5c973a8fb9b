use Rattle.flow_ring.proofs.Rounds.{lines-apart, words-within, places-apart, slots-within, rounds-apart}
use Rattle.flow_ring.proofs.layout.Layout.lie_apart.Goals as goal

pub returns-clause-lines : goal.returns-clause-lines
returns-clause-lines c = lines-apart c.args.self.now.processes c.args.self.now.connections

pub returns-clause-words : goal.returns-clause-words
returns-clause-words c = words-within c.args.self.now.processes c.args.self.now.connections

pub returns-clause-places : goal.returns-clause-places
returns-clause-places c = places-apart c.args.self.now.processes c.args.self.now.capacities.items

pub returns-clause-slots : goal.returns-clause-slots
returns-clause-slots c = slots-within c.args.self.now.processes c.args.self.now.capacities.items

pub returns-clause-cells : goal.returns-clause-cells
returns-clause-cells c = rounds-apart c.args.self.now.processes c.args.self.now.capacities.items
