use Rattle.std.proofs.Common.{◌≡◌, subst, IfOk, IfErr}
use Rattle.flow_machine.specs.Values.{NetValue}
use Rattle.flow_floor.specs.Floors.{opened_net}
use Rattle.flow_floor.proofs.floor.Floor.open.Goals as goal

pub lay-requires-clause-sound : goal.lay-requires-clause-sound
lay-requires-clause-sound g c = c.measured-net.ensures.sound

pub begin-requires-clause-sound : goal.begin-requires-clause-sound
begin-requires-clause-sound g c = c.measured-net.ensures.sound

pub returns-in-Ok-clause-opened : goal.returns-in-Ok-clause-opened
returns-in-Ok-clause-opened g c = subst (λ (n : NetValue _). IfOk c.begin.result (λ o. opened_net o.floor ≡ n)) c.measured-net.ensures.same c.begin.ensures.opened

pub returns-in-Ok-clause-refused : goal.returns-in-Ok-clause-refused
returns-in-Ok-clause-refused g c = subst (λ (n : NetValue _). IfErr c.begin.result (λ stop. stop.net ≡ n)) c.measured-net.ensures.same c.begin.ensures.refused
