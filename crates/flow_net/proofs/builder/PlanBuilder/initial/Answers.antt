use Rattle.std.proofs.Common.{◌≡◌, ◌<◌, Ok, Err, subst, sym, ℕ, List, length, slice_get}
use Rattle.flow_net.specs.declared.draft.DraftPort.{DraftPort}
use Rattle.flow_net.specs.declared.draft.DraftProcess.{DraftProcess}
use Rattle.flow_net.specs.Drafts.{Answers, Draft}
use Rattle.flow_net.specs.Calls.{input_for, process_at}
use Rattle.flow_net.specs.Options.{FitsPort}
use Rattle.flow_net.specs.Initials.{AfterInitial}
use Rattle.flow_net.proofs.SoundGives.{IsOpen-for, process_at-within, IsSound-given, Refuses-before}
use Rattle.flow_net.proofs.builder.PlanBuilder.initial.Goals as goal

pub returns-in-Err : goal.returns-in-Err
returns-in-Err c =
    let refused : Answers (input_for c.self.inside.processes.items c.self.inside.ports.items c.args.to.now c.args.into.now) (Err c.in-Err.stop) =
    subst (λ (ports : List DraftPort). Answers (input_for c.self.inside.processes.items ports c.args.to.now c.args.into.now) (Err c.in-Err.stop)) c.as_slice-ports.ensures.value
    (subst (λ (processes : List DraftProcess). Answers (input_for processes c.as_slice-ports.result.now c.args.to.now c.args.into.now) (Err c.in-Err.stop)) c.as_slice.ensures.value c.in-Err.ensures) in
    subst (λ (d : Draft). AfterInitial d c.args.text.now c.args.to.now c.args.into.now (Err c.in-Err.stop) d) c.self.view_is
    (Refuses-before (record { kinds = c.self.inside.kinds.items; processes = c.self.inside.processes.items; ports = c.self.inside.ports.items; links = c.self.inside.links.items }) c.args.text.now c.args.to.now c.args.into.now c.in-Err.stop refused)

pub give-requires-clause-there : goal.give-requires-clause-there
give-requires-clause-there c =
    let ok : input_for c.self.inside.processes.items c.self.inside.ports.items c.args.to.now c.args.into.now ≡ Ok c.in-Ok.input =
    rw (sym c.as_slice.ensures.value, sym c.as_slice-ports.ensures.value) c.in-Ok.ensures in
    let chosen = IsOpen-for c.self.inside.processes.items c.self.inside.ports.items (length c.self.inside.processes.items) c.args.to.now c.args.into.now c.in-Ok.input c.self.invariant.ports ok in
    let number : c.process_at-process.result ≡ process_at c.self.inside.ports.items c.in-Ok.input = rw (sym c.as_slice-ports.ensures.value) c.process_at-process.ensures in
    subst (λ (n : ℕ). n < length c.self.inside.processes.items) (sym number) (process_at-within c.self.inside.ports.items (length c.self.inside.processes.items) c.in-Ok.input c.self.invariant.ports chosen.free)

pub give-requires-clause-input : goal.give-requires-clause-input
give-requires-clause-input c =
    let ok : input_for c.self.inside.processes.items c.self.inside.ports.items c.args.to.now c.args.into.now ≡ Ok c.in-Ok.input =
    rw (sym c.as_slice.ensures.value, sym c.as_slice-ports.ensures.value) c.in-Ok.ensures in
    (IsOpen-for c.self.inside.processes.items c.self.inside.ports.items (length c.self.inside.processes.items) c.args.to.now c.args.into.now c.in-Ok.input c.self.invariant.ports ok).there.bound

pub invariant_of-self-2 : goal.invariant_of-self-2
invariant_of-self-2 c =
    let ok : input_for c.self.inside.processes.items c.self.inside.ports.items c.args.to.now c.args.into.now ≡ Ok c.in-Ok.input =
    rw (sym c.as_slice.ensures.value, sym c.as_slice-ports.ensures.value) c.in-Ok.ensures in
    let number : c.process_at-process.result ≡ process_at c.self.inside.ports.items c.in-Ok.input = rw (sym c.as_slice-ports.ensures.value) c.process_at-process.ensures in
    let fits : FitsPort (slice_get c.self.inside.ports.items c.in-Ok.input.port) c.args.text.now = rw (sym c.as_slice-ports.ensures.value) (c.in_ok-fits.ensures.0 c.if-not-fits.false) in
    let text : c.in_ok-text.text ≡ c.args.text.now = c.in_ok-text.ensures in
    let processes = c.in_ok-give.ensures.processes in
    let ports = c.in_ok-give.ensures.ports in
    rw (processes, ports, number, text)
    (IsSound-given (record { kinds = c.self.inside.kinds.items; processes = c.self.inside.processes.items; ports = c.self.inside.ports.items; links = c.self.inside.links.items }) c.args.text.now c.args.to.now c.args.into.now c.in-Ok.input c.self.invariant ok fits c.requires)
