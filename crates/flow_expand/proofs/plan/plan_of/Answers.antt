use Rattle.std.proofs.Common.{List, subst}
use Rattle.flow_plan.specs.declared.kind.KindSpec.{KindSpec}
use Rattle.flow_flat.specs.Firsts.{AllPass}
use Rattle.flow_flat.specs.Texts.{InstancePasses, all_instances}
use Rattle.std.proofs.lemmas.Result.{err_from_is_err_and}
use Rattle.flow_expand.proofs.Saying.{short_main, short_subnets, told_stops, finish_stops, finish_plan}
use Rattle.flow_expand.proofs.plan.plan_of.Goals as goal

pub told-requires-clause-main : goal.told-requires-clause-main
told-requires-clause-main c = short_main c.args.text.now c.requires.valid

pub told-requires-clause-subnets : goal.told-requires-clause-subnets
told-requires-clause-subnets c = short_subnets c.args.text.now c.requires.valid

pub returns-in_err-builder-clause-said : goal.returns-in_err-builder-clause-said
returns-in_err-builder-clause-said c =
    let p = err_from_is_err_and c.from_residual-in_err-builder.result c.from_residual-in_err-builder.ensures.1 in
    rw (p.1, p.2) (told_stops c.args.kinds.items c.args.text.now c.requires.table c.requires.valid (record { ends = c.in_ok-check_ends.ensures; processes = subst (λ (k : List KindSpec). AllPass (InstancePasses c.args.text.now k) (all_instances c.args.text.now)) c.as_slice.ensures.value (c.in_ok-list.ensures.ok).0 }) c.in_ok-list.list.items (c.in_ok-list.ensures.ok).1 c.in_err-builder.field-0.0 c.in_err-builder.ensures.told)

pub returns-in_err-plan-clause-said : goal.returns-in_err-plan-clause-said
returns-in_err-plan-clause-said c =
    let p = err_from_is_err_and c.from_residual-in_err-plan.result c.from_residual-in_err-plan.ensures.1 in
    rw (p.1, p.2) (finish_stops c.args.kinds.items c.args.text.now c.requires.table c.requires.valid (record { ends = c.in_ok-check_ends.ensures; processes = subst (λ (k : List KindSpec). AllPass (InstancePasses c.args.text.now k) (all_instances c.args.text.now)) c.as_slice.ensures.value (c.in_ok-list.ensures.ok).0 }) c.in_ok-list.list.items (c.in_ok-list.ensures.ok).1 c.in_ok-builder.builder c.in_ok-builder.ensures.told c.in_err-plan.field-0.0 c.in_err-plan.ensures.plan)

pub returns-clause-said : goal.returns-clause-said
returns-clause-said c = finish_plan c.args.kinds.items c.args.text.now c.requires.table c.requires.valid (record { ends = c.in_ok-check_ends.ensures; processes = subst (λ (k : List KindSpec). AllPass (InstancePasses c.args.text.now k) (all_instances c.args.text.now)) c.as_slice.ensures.value (c.in_ok-list.ensures.ok).0 }) c.in_ok-list.list.items (c.in_ok-list.ensures.ok).1 c.in_ok-builder.builder c.in_ok-builder.ensures.told c.in_ok-plan.plan c.in_ok-plan.ensures.plan
