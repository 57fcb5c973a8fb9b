use Rattle.std.proofs.Common.{ap, sym, ◌∙◌}
use Rattle.flow_parse.specs.declared.value.NetText.{NetText}
use Rattle.flow_expand.proofs.Places.{called_none, called_read}
use Rattle.flow_expand.proofs.named.subnet_called.Goals as goal

pub returns : goal.returns
returns c = called_read c.args.text.now c.args.name.now c.as_slice.result.now c.in-Some.place c.index-as_slice-place.result (c.as_slice.ensures ∙ ap (λ (t : NetText). t.subnets) c.value.ensures) (sym c.in-Some.ensures)

pub returns-in_default : goal.returns-in_default
returns-in_default c = called_none c.args.text.now c.args.name.now (sym c.subnet_named.ensures ∙ c.in_default.is)
