use Rattle.flow_runner.proofs.Fairs.{pops, learns}
use Rattle.flow_runner.proofs.Told.{popped-alone, popped-kept, popped-tells}
use Rattle.flow_runner.proofs.line.Line.pop.Goals as goal

pub pop_as-requires-clause-rule : goal.pop_as-requires-clause-rule
pop_as-requires-clause-rule g c = (pops _ _ c.requires.pass.1, learns _ _)

pub returns-clause-popped : goal.returns-clause-popped
returns-clause-popped g c = popped-tells c.args.self.now c.args.pass.now (record { pass = c.pop_as.new.pass }) c.pop_as.result c.requires.pass.2 c.pop_as.ensures.rule

pub returns-clause-kept : goal.returns-clause-kept
returns-clause-kept g c none = popped-kept c.args.pass.now (record { pass = c.pop_as.new.pass }) c.pop_as.result c.pop_as.ensures.rule none

pub returns-clause-alone : goal.returns-clause-alone
returns-clause-alone g c all = popped-alone c.pop_as.result _ _ c.pop_as.ensures.rule all
