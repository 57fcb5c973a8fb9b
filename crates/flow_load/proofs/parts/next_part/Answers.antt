use Rattle.std.proofs.Common.{ℕ, ◌<◌, length, sym, subst}
use Rattle.std.specs.Prelude.{IfSome, slice_set}
use Rattle.std.specs.declared.option.Option.{Option}
use Rattle.std.specs.Vec.Iter.{into_iter_steps}
use Rattle.flow_load.specs.Components.{TakesFirst, TakesNext}
use Rattle.flow_load.specs.Offers.{counts_left, parts_left}
use Rattle.flow_load.proofs.Ordering.{first-of-queue}
use Rattle.flow_load.proofs.Sharing.{next-taken}
use Rattle.flow_load.proofs.parts.next_part.Goals as goal

pub returns-in-Some-clause-counts : goal.returns-in-Some-clause-counts
returns-in-Some-clause-counts g c =
    let queues = c.args.queues.now in
    let place = c.in-Some.place in
    let within = subst (λ (o : Option ℕ). IfSome o (λ place. place < length queues)) c.in-Some.is c.requires in
    let steps = subst (λ queue. into_iter_steps queue c.next.result c.next.new.self) (sym c.index-queues-place.is) c.next.ensures.cases in
    subst (λ (o : Option ℕ). TakesNext (counts_left queues) (counts_left (slice_set queues place c.next.new.self)) o c.next.result) (sym c.in-Some.is)
    (next-taken queues place c.index-queues-place.result c.next.new.self c.next.result within c.index-queues-place.is steps)

pub returns-in-Some-clause-first : goal.returns-in-Some-clause-first
returns-in-Some-clause-first g c =
    let queues = c.args.queues.now in
    let place = c.in-Some.place in
    let within = subst (λ (o : Option ℕ). IfSome o (λ place. place < length queues)) c.in-Some.is c.requires in
    let steps = subst (λ queue. into_iter_steps queue c.next.result c.next.new.self) (sym c.index-queues-place.is) c.next.ensures.cases in
    subst (λ (o : Option ℕ). TakesFirst (parts_left queues) (parts_left (slice_set queues place c.next.new.self)) o c.next.result) (sym c.in-Some.is)
    (first-of-queue queues place c.index-queues-place.result c.next.new.self c.next.result within c.index-queues-place.is steps)
