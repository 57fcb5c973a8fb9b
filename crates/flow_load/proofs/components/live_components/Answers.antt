use Rattle.std.proofs.Common.{◌≡◌, ◌+◌, ◌∷◌, ◌++◌, ◌<◌, [], List, length, ap, arith, subst, sym, ◌∙◌}
use Rattle.std.proofs.lemmas.Grind.{common_steps}
use Rattle.std.specs.Iterator.Adapters.{zip_first, zip_second}
use Rattle.std.specs.Prelude.{vec_len}
use Rattle.std.specs.Vec.Iter.{into_iter_items, into_iter_len}
use Rattle.flow_load.specs.Offers.{AnyKind}
use Rattle.flow_load.specs.Components.{IsLiveComponent, contents_of}
use Rattle.flow_load.proofs.Placing.{AreMade, HoldSoFar, none-made, one-live, next-left, can-take, none-held, one-held, all-held, both-over}
use Rattle.flow_load.proofs.components.live_components.Goals as goal

pub loop-bytes-init : goal.loop-bytes-init
loop-bytes-init g c =
    let same = c.into_iter-bytes-iterator.ensures.into_iter_gives in
    let zip = c.zip-bytes-items.ensures in
    let first = ap (λ z. zip_first z) same ∙ zip.first in
    let given_len : into_iter_len (zip_first c.into_iter-bytes-iterator.result) ≡ vec_len c.args.given = ap (λ i. into_iter_len i) first ∙ c.into_iter.ensures.len in
    let parts_len : into_iter_len (zip_second c.into_iter-bytes-iterator.result) ≡ vec_len c.args.parts = ap (λ z. into_iter_len (zip_second z)) same ∙ zip.second.1 in
    record {
      given_left = omega (arith, given_len, c.args.given.ok.0);
      parts_left = omega (arith, parts_len, c.args.parts.ok.0);
      given = ap (λ i. into_iter_items i) first ∙ c.into_iter.ensures.rest;
      parts = ap (λ z. into_iter_items (zip_second z)) same ∙ zip.second.0;
      made = subst (λ (l : List AnyKind). AreMade (IsLiveComponent c.args.own.now c.args.plan.now) (contents_of c.args.given.items) 0 l) (sym c.new-components.ensures.items)
          (none-made (IsLiveComponent c.args.own.now c.args.plan.now) (contents_of c.args.given.items));
      held = subst (λ (l : List AnyKind). HoldSoFar g.P.Part.seen c.args.parts.items 0 l) (sym c.new-components.ensures.items) (none-held g.P.Part.seen c.args.parts.items);
    }

pub live_component-requires : goal.live_component-requires
live_component-requires g c =
    let i = c.loop-bytes.invariant in
    let steps = c.in-Some.ensures.steps in
    let there = next-left c.args.parts.items c.loop-bytes.process c.in-Some.part (into_iter_items (zip_second c.next.new.self)) (sym i.parts ∙ steps.1.0) in
    let below : c.loop-bytes.process < length c.args.plan.now.processes = omega (arith, there.2, c.requires.parts.count) in
    can-take c.args.own.now c.args.plan.now c.loop-bytes.process below (c.each_process_is_standard_or_own.ensures c.args.own.now c.args.plan.now c.requires.offered c.loop-bytes.process below) c.in-Some.part
    (c.requires.parts.each c.loop-bytes.process c.in-Some.part there.0)

pub loop-bytes-preserved : goal.loop-bytes-preserved
loop-bytes-preserved g c =
    let i = c.loop-bytes.invariant in
    let steps = c.in-Some.ensures.steps in
    let k = c.loop-bytes.process in
    let part = next-left c.args.parts.items k c.in-Some.part (into_iter_items (zip_second c.next.new.self)) (sym i.parts ∙ steps.1.0) in
    let bytes = next-left c.args.given.items k c.in-Some.bytes (into_iter_items (zip_first c.next.new.self)) (sym i.given ∙ steps.0.0) in
    let below : k < length c.args.plan.now.processes = omega (arith, part.2, c.requires.parts.count) in
    let component = c.in_ok-live_component.field-0 in
    let pushed : c.push.new.self.items ≡ c.loop-bytes.components.items ++ component ∷ [] = grind (arith, common_steps) in
    record {
      given_left = omega (arith, steps.0.1, i.given_left);
      parts_left = omega (arith, steps.1.1, i.parts_left);
      given = bytes.1;
      parts = part.1;
      made = subst (λ (l : List AnyKind). AreMade (IsLiveComponent c.args.own.now c.args.plan.now) (contents_of c.args.given.items) (k + 1) l) (sym pushed)
          (one-live g.P.Part.seen c.each_process_is_standard_or_own.ensures c.args.own.now c.args.plan.now c.args.given.items c.args.parts.items k c.loop-bytes.components.items c.in-Some.bytes c.in-Some.part component
          c.requires.offered c.requires.parts bytes.0 part.0 below i.made c.in_ok-live_component.ensures);
      held = subst (λ (l : List AnyKind). HoldSoFar g.P.Part.seen c.args.parts.items (k + 1) l) (sym pushed)
          (one-held g.P.Part.seen c.args.plan.now c.args.parts.items k c.loop-bytes.components.items c.in-Some.bytes.items c.in-Some.part component i.made.count i.held part.0 c.in_ok-live_component.ensures);
    }

pub returns-clause-held : goal.returns-clause-held
returns-clause-held g c =
    let i = c.loop-bytes.invariant in
    let same : length c.args.parts.items ≡ length c.args.given.items = c.requires.parts.count ∙ sym c.requires.given in
    let all = both-over (zip_first c.loop-bytes.bytes-iterator) (zip_second c.loop-bytes.bytes-iterator) c.loop-bytes.process (length c.args.parts.items) c.in-None.ensures.steps (i.given_left ∙ sym same) i.parts_left in
    all-held g.P.Part.seen c.args.parts.items c.loop-bytes.process c.loop-bytes.components.items all i.held
