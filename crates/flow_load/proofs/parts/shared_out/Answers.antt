use Rattle.std.proofs.Common.{◌∙◌, ◌<◌, ◌+◌, List, length, ap, sym, subst, arith}
use Rattle.std.proofs.lemmas.List.{length-map}
use Rattle.std.specs.Prelude.{Vec}
use Rattle.std.specs.declared.alloc.Global.{Global}
use Rattle.std.specs.declared.option.Option.{Option}
use Rattle.std.specs.declared.vec.IntoIter.{IntoIter}
use Rattle.flow_load.specs.Offers.{counts_left, counts_of, parts_in, parts_left}
use Rattle.flow_load.specs.Components.{TakesFirst, TakesNext}
use Rattle.flow_load.proofs.Ordering.{SharedInOrder, more-in-order, none-in-order}
use Rattle.flow_load.proofs.Sharing.{SharedOut, more-shared, none-shared, put-back, taken-where-own}
use Rattle.flow_load.proofs.parts.shared_out.Goals as goal

pub loop-process-init : goal.loop-process-init
loop-process-init g c =
    let own = c.args.own.now in
    let plan = c.args.plan.now in
    let queues = c.in_ok-queues.queues.items in
    let many = length-map c.args.parts.items (λ (v : Vec _ Global). length v.items) ∙ c.requires.parts in
    record {
      counts = subst (λ (l : List (Option _)). SharedOut own plan (counts_of c.args.parts.items) (counts_left queues) 0 l) (sym c.new-shared.ensures.items)
          (none-shared own plan (counts_of c.args.parts.items) (counts_left queues) c.in_ok-queues.ensures.counts many);
      order = subst (λ (l : List (Option _)). SharedInOrder own plan (parts_in c.args.parts.items) (parts_left queues) 0 l) (sym c.new-shared.ensures.items)
          (none-in-order own plan (parts_in c.args.parts.items) (parts_left queues) c.in_ok-queues.ensures.parts);
    }

pub loop-process-preserved : goal.loop-process-preserved
loop-process-preserved g c =
    let own = c.args.own.now in
    let plan = c.args.plan.now in
    let p = c.loop-process.process in
    let shared = c.loop-process.shared.items in
    let part = c.next_part.result in
    let place = c.own_kind-place.result in
    let left = c.next_part.new.queues in
    let all = counts_of c.args.parts.items in
    let parts = parts_in c.args.parts.items in
    let within : p < length plan.processes = omega (arith, ap length c.processes-process-end.ensures.processes) in
    let counts = subst (λ l. TakesNext (counts_left l) (counts_left left) place part) c.deref_mut.ensures.value c.next_part.ensures.counts in
    let first = subst (λ l. TakesFirst (parts_left l) (parts_left left) place part) c.deref_mut.ensures.value c.next_part.ensures.first in
    let so_far = c.loop-process.invariant.counts in
    let enough = c.requires.enough p in
    let more = more-shared own plan all (counts_left c.loop-process.queues.items) (counts_left left) p shared part so_far within place c.own_kind-place.ensures.place counts enough in
    let taken = taken-where-own own plan all (counts_left c.loop-process.queues.items) (counts_left left) p shared part so_far within place c.own_kind-place.ensures.place counts enough in
    let ordered = more-in-order own plan parts (parts_left c.loop-process.queues.items) (parts_left left) p shared part c.loop-process.invariant.order so_far.count within place c.own_kind-place.ensures.place taken first in
    let whole = put-back c.loop-process.queues.len left c.loop-process.queues.items c.loop-process.queues.ok.0 (more.long ∙ sym so_far.long) in
    record {
      counts = subst (λ (l : List (IntoIter _ Global)). SharedOut own plan all (counts_left l) (p + 1) c.push.new.self.items) (sym whole)
          (subst (λ (l : List (Option _)). SharedOut own plan all (counts_left left) (p + 1) l) (sym c.in_ok-push.ensures.items) more);
      order = subst (λ (l : List (IntoIter _ Global)). SharedInOrder own plan parts (parts_left l) (p + 1) c.push.new.self.items) (sym whole)
          (subst (λ (l : List (Option _)). SharedInOrder own plan parts (parts_left left) (p + 1) l) (sym c.in_ok-push.ensures.items) ordered);
    }
