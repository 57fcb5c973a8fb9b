use Rattle.std.proofs.Common.{◌≡◌, ◌∙◌, ℕ, [], ◌∷◌, List, length, ap, sym, subst, arith, length-append}
use Rattle.std.specs.Prelude.{Vec}
use Rattle.std.specs.declared.alloc.Global.{Global}
use Rattle.flow_load.specs.Offers.{counts_of, parts_in}
use Rattle.flow_supply.specs.Made.{AreMadeOf}
use Rattle.flow_supply.proofs.Making.{EachMade, all-counted, counted, kind-counted, kind-made, made-found, plan-made}
use Rattle.flow_supply.proofs.made.parts_of_plan.Goals as goal

pub loop-place-preserved : goal.loop-place-preserved
loop-place-preserved g c =
    let own = c.args.own.now in
    let plan = c.args.plan.now in
    let makes = g.M.Maker.makes in
    let maker = c.args.maker.now in
    let parts = c.loop-place.parts.items in
    let kind = c.in_ok-parts_of_kind.field-0 in
    let count = c.loop-place.invariant.count in
    let made = subst (λ (n : ℕ). AreMadeOf makes maker own plan n kind.items) (sym count) c.in_ok-parts_of_kind.ensures.made in
    record {
      count = omega (arith, ap length c.in_ok-push.ensures.items, length-append parts (kind ∷ []), count);
      many = ap (λ (l : List (Vec _ Global)). counts_of l) c.in_ok-push.ensures.items ∙ kind-counted own plan c.loop-place.place parts kind (omega arith) c.loop-place.invariant.many c.in_ok-parts_of_kind.ensures.many;
      each = subst (λ (l : List (Vec _ Global)). EachMade makes maker own plan l) (sym c.in_ok-push.ensures.items) (kind-made makes maker own plan parts kind c.loop-place.invariant.each made);
    }

pub returns-clause-many : goal.returns-clause-many
returns-clause-many g c = all-counted c.args.own.now c.args.plan.now c.loop-place.place c.loop-place.parts.items (omega arith) c.loop-place.invariant.many

pub returns-clause-made : goal.returns-clause-made
returns-clause-made g c =
    let all : length c.loop-place.parts.items ≡ length c.args.own.now = omega (arith, c.loop-place.invariant.count) in
    plan-made g.M.Maker.makes c.args.maker.now c.args.own.now c.args.plan.now c.loop-place.parts.items c.requires.are_own all c.loop-place.invariant.each

pub returns-clause-enough : goal.returns-clause-enough
returns-clause-enough g c =
    let parts = c.loop-place.parts.items in
    let all : length parts ≡ length c.args.own.now = omega (arith, c.loop-place.invariant.count) in
    made-found g.M.Maker.makes c.args.maker.now c.args.own.now c.args.plan.now c.each_process_is_standard_or_own.ensures (parts_in parts) (counts_of parts) c.requires (counted parts)
    (plan-made g.M.Maker.makes c.args.maker.now c.args.own.now c.args.plan.now parts c.requires.are_own all c.loop-place.invariant.each)
