use Rattle.std.proofs.Common.{◌∙◌, sym, ap, subst, List, map}
use Rattle.flow_model.specs.Plans.{StartsWell}
use Rattle.flow_rig.specs.declared.asker.Asker.{Asker}
use Rattle.flow_rig.specs.Asker.{AlwaysReady, asker_rules}
use Rattle.flow_rig.specs.Askers.{asker_of}
use Rattle.flow_rig.proofs.Fitting.{askers-fit}
use Rattle.flow_rig.proofs.starting.askers.Goals as goal

pub returns : goal.returns
returns c =
    let plan = c.args.plan.now in
    let of = c.processes.ensures in
    let well = c.a_valid_plan_is_ready.ensures.starts plan (map asker_of plan.processes) of.valid (askers-fit plan (c.all_connected.ensures c.if-not-all_connected.false)) in
    subst (λ (items : List Asker). StartsWell asker_rules plan items) (sym (c.in_ok-components_of.ensures ∙ ap (map asker_of) of.processes)) well
