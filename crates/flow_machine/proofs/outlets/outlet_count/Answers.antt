use Rattle.std.proofs.Common.{rules, ◌≡◌, ◌∙◌, sym}
use Rattle.std.specs.Prelude.{count_by, is_some}
use Rattle.flow_machine.proofs.OutletLemmas.{length-outlets}
use Rattle.flow_machine.proofs.outlets.outlet_count.Goals as goal

pub returns : goal.returns
returns c = let h : c.count.result ≡ count_by is_some c.args.outputs.now = search rules in h ∙ sym (length-outlets 0 c.args.outputs.now)
