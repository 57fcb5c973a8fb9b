use Rattle.std.proofs.Common.{◌≡◌, Ok, sym}
use Rattle.flow_net.specs.Calls.{kind_for}
use Rattle.flow_net.proofs.SoundBegins.{KindFor-ok, IsSound-begun}
use Rattle.flow_net.proofs.builder.PlanBuilder.process_of.Goals as goal

pub begin-requires-clause-few_inputs : goal.begin-requires-clause-few_inputs
begin-requires-clause-few_inputs c =
    let ok : kind_for c.self.inside.kinds.items c.self.inside.processes.items c.args.name c.args.kind.now ≡ Ok c.in_ok-spec.spec.now =
    rw (sym c.as_slice.ensures.value, sym c.as_slice-2.ensures.value, sym c.as_slice-3.ensures) c.in_ok-spec.ensures.ok in
    let chosen = KindFor-ok c.self.inside.kinds.items c.self.inside.processes.items c.args.name c.args.kind.now c.in_ok-spec.spec.now ok in
    (c.self.invariant.kinds chosen.place c.in_ok-spec.spec.now chosen.here).few_inputs

pub begin-requires-clause-few_outputs : goal.begin-requires-clause-few_outputs
begin-requires-clause-few_outputs c =
    let ok : kind_for c.self.inside.kinds.items c.self.inside.processes.items c.args.name c.args.kind.now ≡ Ok c.in_ok-spec.spec.now =
    rw (sym c.as_slice.ensures.value, sym c.as_slice-2.ensures.value, sym c.as_slice-3.ensures) c.in_ok-spec.ensures.ok in
    let chosen = KindFor-ok c.self.inside.kinds.items c.self.inside.processes.items c.args.name c.args.kind.now c.in_ok-spec.spec.now ok in
    (c.self.invariant.kinds chosen.place c.in_ok-spec.spec.now chosen.here).few_outputs

pub invariant_of-self-2 : goal.invariant_of-self-2
invariant_of-self-2 c =
    let ok : kind_for c.self.inside.kinds.items c.self.inside.processes.items c.args.name c.args.kind.now ≡ Ok c.in_ok-spec.spec.now =
    rw (sym c.as_slice.ensures.value, sym c.as_slice-2.ensures.value, sym c.as_slice-3.ensures) c.in_ok-spec.ensures.ok in
    rw (c.in_ok-begin.ensures.processes, c.in_ok-begin.ensures.ports)
    (IsSound-begun (record { kinds = c.self.inside.kinds.items; processes = c.self.inside.processes.items; ports = c.self.inside.ports.items; links = c.self.inside.links.items }) c.args.name c.args.kind.now c.in_ok-spec.spec.now c.self.invariant ok)
