use Rattle.std.proofs.Common.{◌≡◌, ◌∙◌, List, map, map-id, rules, subst, sym}
use Rattle.flow_plan.specs.Valid.{IsValid}
use Rattle.flow_model.specs.Plans.{StartsWell}
use Rattle.flow_rig.specs.Networks.{AreComponentsOn}
use Rattle.flow_rig.proofs.Fitting.{components-fit}
use Rattle.flow_bench.specs.declared.race.loaded.Loaded.{Loaded}
use Rattle.flow_bench.specs.Loaded.{loaded_as, loaded_rules}
use Rattle.flow_bench.proofs.Loading.{loaded-fit}
use Rattle.flow_bench.proofs.race.branches.started.Goals as goal

pub start-requires-clause-well : goal.start-requires-clause-well
start-requires-clause-well c =
    let plan = c.in_ok-plan.plan in
    let components = c.in_ok-components.components.items in
    let are : AreComponentsOn c.args.bytes.now plan components = search rules in
    let valid : IsValid plan = search rules in
    let loaded : c.in_ok-loaded.loaded.items ≡ map (loaded_as c.args.rounds 0) components = search rules in
    let fit = loaded-fit plan c.args.rounds components (components-fit c.args.bytes.now plan components are) in
    let well = c.a_valid_plan_is_ready.ensures.starts plan (map (loaded_as c.args.rounds 0) components) valid fit in
    subst (λ (items : List Loaded). StartsWell loaded_rules plan items) (sym (map-id c.in_ok-loaded.loaded.items ∙ loaded)) well
