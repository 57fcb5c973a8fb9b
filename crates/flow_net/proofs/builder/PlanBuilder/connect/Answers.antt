use Rattle.std.proofs.Common.{◌≡◌, Ok, sym, length}
use Rattle.std.proofs.lemmas.Option.{slice_get_within}
use Rattle.flow_net.specs.declared.draft.Link.{Link}
use Rattle.flow_net.specs.Calls.{ends_of, may_join}
use Rattle.flow_net.proofs.Ends.{AreThere-ends, link_into-bound}
use Rattle.flow_net.proofs.Steps.{map_some}
use Rattle.flow_net.proofs.SoundJoins.{IsSound-joined}
use Rattle.flow_net.proofs.builder.PlanBuilder.connect.Goals as goal

pub join-requires-clause-output : goal.join-requires-clause-output
join-requires-clause-output c =
    let ends : ends_of c.self.inside.processes.items c.self.inside.ports.items c.args.from.now c.args.out.now c.args.to.now c.args.into.now ≡ Ok (c.in_ok-output.output, c.in_ok-output.input) =
    rw (sym c.as_slice.ensures.value, sym c.as_slice-ports.ensures.value) c.in_ok-output.ensures in
    (AreThere-ends c.self.inside.processes.items c.self.inside.ports.items (length c.self.inside.processes.items) c.args.from.now c.args.out.now c.args.to.now c.args.into.now (c.in_ok-output.output, c.in_ok-output.input) c.self.invariant.ports ends).output.bound

pub join-requires-clause-input : goal.join-requires-clause-input
join-requires-clause-input c =
    let ends : ends_of c.self.inside.processes.items c.self.inside.ports.items c.args.from.now c.args.out.now c.args.to.now c.args.into.now ≡ Ok (c.in_ok-output.output, c.in_ok-output.input) =
    rw (sym c.as_slice.ensures.value, sym c.as_slice-ports.ensures.value) c.in_ok-output.ensures in
    (AreThere-ends c.self.inside.processes.items c.self.inside.ports.items (length c.self.inside.processes.items) c.args.from.now c.args.out.now c.args.to.now c.args.into.now (c.in_ok-output.output, c.in_ok-output.input) c.self.invariant.ports ends).input.bound

pub join-requires-clause-there : goal.join-requires-clause-there
join-requires-clause-there c =
    λ number linked.
    let found = map_some (λ (l : Link). l.into) _ c.in_ok-output.input (c.self.invariant.listed.receives c.in_ok-output.input number (link_into-bound c.self.inside.ports.items c.in_ok-output.input number linked)) in
    slice_get_within c.self.inside.links.items number found.0 found.1

pub invariant_of-self-2 : goal.invariant_of-self-2
invariant_of-self-2 c =
    let ends : ends_of c.self.inside.processes.items c.self.inside.ports.items c.args.from.now c.args.out.now c.args.to.now c.args.into.now ≡ Ok (c.in_ok-output.output, c.in_ok-output.input) =
    rw (sym c.as_slice.ensures.value, sym c.as_slice-ports.ensures.value) c.in_ok-output.ensures in
    let may : may_join c.self.inside.ports.items c.self.inside.links.items c.args.from.now c.args.out.now c.args.to.now c.args.into.now c.args.capacity c.in_ok-output.output c.in_ok-output.input ≡ Ok c.in_ok-may_join.field-0 =
    rw (sym c.as_slice-links.ensures.value, sym c.as_slice-ports.ensures.value) c.in_ok-may_join.ensures in
    rw (c.in_ok-join.ensures.ports, c.in_ok-join.ensures.links)
    (IsSound-joined (record { kinds = c.self.inside.kinds.items; processes = c.self.inside.processes.items; ports = c.self.inside.ports.items; links = c.self.inside.links.items }) c.args.from.now c.args.out.now c.args.to.now c.args.into.now c.args.capacity c.in_ok-output.output c.in_ok-output.input _ c.self.invariant ends may)
