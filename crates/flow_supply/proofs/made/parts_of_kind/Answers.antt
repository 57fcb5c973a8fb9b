use Rattle.std.proofs.Common.{◌≡◌, ◌∙◌, ◌+◌, ◌<◌, List, Some, length, ap, sym, subst, arith}
use Rattle.flow_offer.specs.Processes.{IsStandardOrOwn, own_place}
use Rattle.flow_supply.proofs.Making.{MadeSoFar, all-made, is-place, many-made, not-place, one-made, other-made}
use Rattle.flow_supply.proofs.made.parts_of_kind.Goals as goal
use Rattle.flow_supply.proofs.made.parts_of_kind.Goals.{then-eq+in_ok-part_of_process+in_ok-push, else-eq}

pub part_of_process-requires-clause-of_kind : goal.part_of_process-requires-clause-of_kind
part_of_process-requires-clause-of_kind g c =
    (subst (IsStandardOrOwn c.args.own.now c.args.plan.now c.loop-process.process) (is-place c.own_kind.result c.args.place (sym c.eq.ensures ∙ c.if-eq.true)) c.own_kind.ensures.tells).0

pub loop-process-preserved : goal.loop-process-preserved
loop-process-preserved g c =
    let own = c.args.own.now in
    let plan = c.args.plan.now in
    let p = c.loop-process.process in
    let place = c.args.place in
    let makes = g.M.Maker.makes in
    let maker = c.args.maker.now in
    let within : p < length plan.processes = omega (arith, ap length c.processes-process-end.ensures.processes) in
    elim c.if-eq.branch [
      | then-eq+in_ok-part_of_process+in_ok-push w ↦
          let placed : own_place own plan p ≡ Some place = sym c.own_kind.ensures.place ∙ is-place c.own_kind.result place (sym c.eq.ensures ∙ w.if-eq.true) in
          subst (λ (l : List _). MadeSoFar makes maker own plan place (p + 1) l) (sym (ap (λ v. v.items) w.parts-is ∙ w.in_ok-push.ensures.items))
          (one-made makes maker own plan place p c.loop-process.parts.items w.in_ok-part_of_process.field-0 c.requires.offered.are_own within placed c.loop-process.invariant w.in_ok-part_of_process.ensures)
      | else-eq w ↦
          subst (λ (l : List _). MadeSoFar makes maker own plan place (p + 1) l) (sym (ap (λ v. v.items) w.parts-is))
          (other-made makes maker own plan place p c.loop-process.parts.items c.requires.offered.are_own within
          (λ placed. not-place c.own_kind.result place (sym c.eq.ensures ∙ w.if-eq.false) (c.own_kind.ensures.place ∙ placed)) c.loop-process.invariant)
    ]

pub returns-clause-many : goal.returns-clause-many
returns-clause-many g c =
    many-made g.M.Maker.makes c.args.maker.now c.args.own.now c.args.plan.now c.args.place c.loop-process.process c.loop-process.parts.items c.requires.offered.are_own c.requires.there
    (omega (arith, ap length c.processes-process-end.ensures.processes)) c.loop-process.invariant

pub returns-clause-made : goal.returns-clause-made
returns-clause-made g c =
    all-made g.M.Maker.makes c.args.maker.now c.args.own.now c.args.plan.now c.args.place c.loop-process.process c.loop-process.parts.items
    (omega (arith, ap length c.processes-process-end.ensures.processes)) c.loop-process.invariant
