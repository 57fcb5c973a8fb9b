use Rattle.std.proofs.Common.{Some, None, List, Option, Vec, Global, sym, subst}
use Rattle.std.specs.Option.{option_map}
use Rattle.flow_cycle.specs.Nets.{IsCycleOf}
use Rattle.flow_cycle.specs.declared.Waits.{Waits}
use Rattle.flow_report.specs.States.{TellsWaits}
use Rattle.flow_draw.proofs.Said.{waits-tell}
use Rattle.flow_draw.proofs.remarks.all_waits.Goals as goal

pub returns-in-Some : goal.returns-in-Some
returns-in-Some g c = λ s reached.
    let is : IsCycleOf c.args.plan.now s (Some c.in-Some.waits.items) =
    subst (λ (o : Option (Vec Waits Global)). IsCycleOf c.args.plan.now s (option_map (λ (v : Vec Waits Global). v.items) o)) c.in-Some.is
    (c.in_ok-waits.ensures.exact s reached) in
    waits-tell c.args.plan.now s (Some c.in-Some.waits.items) is

pub returns-in-None : goal.returns-in-None
returns-in-None g c = λ s reached.
    let is : IsCycleOf c.args.plan.now s None =
    subst (λ (o : Option (Vec Waits Global)). IsCycleOf c.args.plan.now s (option_map (λ (v : Vec Waits Global). v.items) o)) c.in-None.is
    (c.in_ok-waits.ensures.exact s reached) in
    subst (λ (l : List Waits). TellsWaits c.args.plan.now s l) (sym c.new.ensures.items) (waits-tell c.args.plan.now s None is)
