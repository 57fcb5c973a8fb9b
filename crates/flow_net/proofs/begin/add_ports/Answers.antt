use Rattle.std.proofs.Common.{◌≡◌, List, ◌∷◌, [], ◌++◌, ap, ◌∙◌, length, take, get_or, append_assoc, arith}
use Rattle.std.proofs.lemmas.List.{take_all}
use Rattle.flow_net.specs.declared.draft.DraftPort.{DraftPort}
use Rattle.flow_plan.specs.declared.kind.PortSpec.{PortSpec}
use Rattle.flow_net.specs.Calls.{fresh_ports, fresh_port}
use Rattle.flow_net.specs.Kinds.{automatic}
use Rattle.flow_net.proofs.Fresh.{fresh_ports-push, fresh_ports-more}
use Rattle.flow_net.proofs.begin.add_ports.Goals as goal

pub returns : goal.returns
returns c =
    let specs = c.args.specs.now in
    let had = fresh_ports c.args.process c.args.input 0 specs in
    let last = fresh_port c.args.process c.args.input (length specs) (automatic c.args.name.now) in
    let whole : take c.loop-place.place specs ≡ specs = take_all c.loop-place.place specs (omega arith) in
    let before : c.loop-place.ports.items ≡ c.args.ports.now.items ++ had = c.loop-place.invariant ∙ ap (λ (xs : List PortSpec). c.args.ports.now.items ++ fresh_ports c.args.process c.args.input 0 xs) whole in
    let port : c.in_ok-port-2.port ≡ last = c.in_ok-port-2.ensures ∙ ap (fresh_port c.args.process c.args.input (length specs)) c.in_ok-spec.ensures in
    rw (fresh_ports-push c.args.process c.args.input 0 (length specs) specs (automatic c.args.name.now) (omega arith))
    (c.in_ok-push-2.ensures.items ∙ ap (λ (ps : List DraftPort). ps ++ c.in_ok-port-2.port ∷ []) before ∙ ap (λ (p : DraftPort). (c.args.ports.now.items ++ had) ++ p ∷ []) port ∙ append_assoc c.args.ports.now.items had (last ∷ []))

pub loop-place-preserved : goal.loop-place-preserved
loop-place-preserved c =
    let specs = c.args.specs.now in
    let place = c.loop-place.place in
    let had = fresh_ports c.args.process c.args.input 0 (take place specs) in
    let port = fresh_port c.args.process c.args.input place (get_or specs place c.index-specs-place.result) in
    let more = fresh_ports-more c.args.process c.args.input specs place c.index-specs-place.result (omega arith) in
    let joined = append_assoc c.args.ports.now.items had (port ∷ []) in
    let pushed = c.in_ok-push.ensures.items in
    rw more (grind (arith, joined, pushed))
