use Rattle.std.proofs.Common.{◌≡◌, ◌∙◌, ap, sym, subst}
use Rattle.flow_plan.specs.declared.plan.Process.{Process}
use Rattle.flow_offer.specs.Processes.{own_place, IsStandardOrOwn}
use Rattle.flow_offer.proofs.Owns.{place-read}
use Rattle.flow_offer.proofs.processes.own_kind.Goals as goal

pub returns-clause-tells : goal.returns-clause-tells
returns-clause-tells c =
    let place : c.place_of.result ≡ own_place c.args.own.now c.args.plan.now c.args.process =
    place-read c.args.own.now c.args.plan.now c.args.process c.processes.result.now c.index-processes-process.result c.as_slice.result.now c.place_of.result c.processes.ensures.processes c.index-processes-process.is c.requires.there (c.as_slice.ensures ∙ ap (λ (x : Process). x.kind) (sym c.index-processes-process.is)) c.place_of.ensures in
    subst (IsStandardOrOwn c.args.own.now c.args.plan.now c.args.process) (sym place) (c.each_process_is_standard_or_own.ensures c.args.own.now c.args.plan.now c.requires.offered c.args.process c.requires.there)
