use Rattle.std.proofs.Common.{sym, ap, ◌∙◌}
use Rattle.flow_flat.specs.Subnets as subnets
use Rattle.flow_expand.proofs.Places.{at_none, at_read}
use Rattle.flow_expand.proofs.meaning.subnet_of.Goals as goal

pub returns : goal.returns
returns c = at_read c.args.text.now c.args.part.now c.args.name.now c.as_slice.result.now c.in-Some.place c.index-as_slice-place.result c.as_slice.ensures (sym c.in-Some.ensures)
    ∙ ap (subnets.subnet_called c.args.text.now) (sym c.as_slice-2.ensures) ∙ c.subnet_called.ensures

pub returns-in_default : goal.returns-in_default
returns-in_default c = at_none c.args.text.now c.args.name.now c.args.part.now (sym c.process_named.ensures ∙ c.in_default.is)
