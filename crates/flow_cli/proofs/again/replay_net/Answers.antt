use Rattle.std.proofs.Common.{List, sym, subst}
use Rattle.flow_model.specs.Plans.{StartsWell}
use Rattle.flow_machine.specs.Starts.{StartsNet}
use Rattle.flow_load.specs.Offers.{AnyKind, net_rules}
use Rattle.flow_load.proofs.Fitting.{components-fit, known-players}
use Rattle.flow_load.proofs.Replaying.{stopped-again}
use Rattle.flow_cli.proofs.LeavingAgain.{told-again}
use Rattle.flow_cli.proofs.again.replay_net.Goals as goal

pub start-requires-clause-well : goal.start-requires-clause-well
start-requires-clause-well c =
    let own = c.args.own.now in
    let plan = c.args.job.plan in
    let components = c.args.job.components.items in
    let has = c.requires.components in
    let well = c.a_valid_plan_is_ready.ensures.starts plan components c.requires.offered.valid (components-fit c.own_components_fit.ensures.played own plan has.0 has.1 components has.2) in
    subst (λ (ks : List AnyKind). StartsWell net_rules plan ks) (sym (known-players own plan components has)) well

pub returns-in-Ok : goal.returns-in-Ok
returns-in-Ok c =
    let own = c.args.own.now in
    let plan = c.args.job.plan in
    let components = c.args.job.components.items in
    let has = c.requires.components in
    let well = c.a_valid_plan_is_ready.ensures.starts plan components c.requires.offered.valid (components-fit c.own_components_fit.ensures.played own plan has.0 has.1 components has.2) in
    let starts = subst (λ (ks : List AnyKind). StartsNet plan ks c.in_ok-net.net) (known-players own plan components has) c.in_ok-net.ensures in
    let comes = c.a_replay_of_a_net_is_scheduled.ensures.scheduled plan components c.in_ok-net.net c.in-Ok.closed.net c.args.journal.now well starts c.in-Ok.ensures.replays in
    told-again plan components c.in-Ok.closed.net c.args.journal.now c.in_ok-report-in-Ok.field-0 c.requires.offered.valid c.a_report_tells_of_its_state.ensures well comes c.in_ok-report-in-Ok.ensures

pub returns : goal.returns
returns c =
    let own = c.args.own.now in
    let plan = c.args.job.plan in
    let components = c.args.job.components.items in
    let has = c.requires.components in
    let well = c.a_valid_plan_is_ready.ensures.starts plan components c.requires.offered.valid (components-fit c.own_components_fit.ensures.played own plan has.0 has.1 components has.2) in
    let starts = subst (λ (ks : List AnyKind). StartsNet plan ks c.in_ok-net.net) (known-players own plan components has) c.in_ok-net.ensures in
    stopped-again plan components c.in_ok-net.net c.args.journal.now c.in-Err.stop c.replay_stop.result
    (λ place p refusal stops. c.a_replay_of_a_net_is_scheduled.ensures.stops plan components c.in_ok-net.net c.args.journal.now place p refusal well starts stops)
    c.in-Err.ensures.stops c.replay_stop.ensures
