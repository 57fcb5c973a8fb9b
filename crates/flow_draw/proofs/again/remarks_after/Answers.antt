use Rattle.std.proofs.Common.{List, sym, subst}
use Rattle.flow_model.specs.Plans.{StartsWell}
use Rattle.flow_machine.specs.Starts.{StartsNet}
use Rattle.flow_load.specs.Offers.{AnyKind, net_rules}
use Rattle.flow_load.proofs.Fitting.{components-fit, known-players}
use Rattle.flow_load.proofs.Replaying.{stopped-again}
use Rattle.flow_draw.proofs.Leading.{remarks-tell}
use Rattle.flow_draw.proofs.again.remarks_after.Goals as goal

pub start-requires-clause-well : goal.start-requires-clause-well
start-requires-clause-well c =
    let plan = c.args.plan.now in
    let components = c.args.components.items in
    let own = c.requires.begins.0 in
    let has = c.requires.begins.2 in
    let well = c.a_valid_plan_is_ready.ensures.starts plan components c.requires.begins.1.valid
    (components-fit c.own_components_fit.ensures.played own plan has.0 has.1 components has.2) in
    subst (λ (ks : List AnyKind). StartsWell net_rules plan ks) (sym (known-players own plan components has)) well

pub returns-in_ok-remarks-in-Ok : goal.returns-in_ok-remarks-in-Ok
returns-in_ok-remarks-in-Ok c =
    let plan = c.args.plan.now in
    let components = c.args.components.items in
    let own = c.requires.begins.0 in
    let has = c.requires.begins.2 in
    let well = c.a_valid_plan_is_ready.ensures.starts plan components c.requires.begins.1.valid
    (components-fit c.own_components_fit.ensures.played own plan has.0 has.1 components has.2) in
    let starts = subst (λ (ks : List AnyKind). StartsNet plan ks c.in_ok-net.net) (known-players own plan components has) c.in_ok-net.ensures in
    let comes = c.a_replay_of_a_net_is_scheduled.ensures.scheduled plan components c.in_ok-net.net c.in-Ok.closed.net c.args.journal.now well starts
    c.in-Ok.ensures.replays in
    remarks-tell plan components c.in-Ok.closed.net c.args.journal.now c.in_ok-remarks-in-Ok.field-0 well comes c.in_ok-remarks-in-Ok.ensures

pub returns-in-Err : goal.returns-in-Err
returns-in-Err c =
    let plan = c.args.plan.now in
    let components = c.args.components.items in
    let own = c.requires.begins.0 in
    let has = c.requires.begins.2 in
    let well = c.a_valid_plan_is_ready.ensures.starts plan components c.requires.begins.1.valid
    (components-fit c.own_components_fit.ensures.played own plan has.0 has.1 components has.2) in
    let starts = subst (λ (ks : List AnyKind). StartsNet plan ks c.in_ok-net.net) (known-players own plan components has) c.in_ok-net.ensures in
    stopped-again plan components c.in_ok-net.net c.args.journal.now c.in-Err.stop c.replay_stop.result
    (λ place p refusal stops. c.a_replay_of_a_net_is_scheduled.ensures.stops plan components c.in_ok-net.net c.args.journal.now place p refusal well starts stops)
    c.in-Err.ensures.stops c.replay_stop.ensures
