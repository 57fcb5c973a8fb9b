use Rattle.flow_net.proofs.Bindings.{bound-keeps}
use Rattle.flow_net.proofs.join.open_link.Goals as goal

pub bind-requires-2 : goal.bind-requires-2
bind-requires-2 c = rw c.bind.ensures (bound-keeps c.args.ports.now.items c.args.into c.args.out _ c.requires.output)
