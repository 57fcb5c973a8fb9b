use Rattle.std.proofs.Common.{◌≡◌, ◌<◌, ◌∙◌, ℕ, List, ◌++◌, All, Option, None, Some, ap, arith, drop, length, refl, slice_get, subst, sym}
use Rattle.flow_plan.specs.declared.plan.Sender.{Sender}
use Rattle.flow_floor.specs.Plans.{sending_processes, senders_at}
use Rattle.flow_floor.proofs.Plans.{senders-few, senders_at-is}
use Rattle.flow_floor.specs.declared.ends.End.{End}
use Rattle.flow_floor.specs.Bursting.{receivers_of, taken_by, IsEndBelow}
use Rattle.flow_floor.specs.Views.{withdrawing}
use Rattle.flow_floor.specs.Workers.{view, IsWaking}
use Rattle.flow_floor.proofs.Midways.{midway-next, waking-midway}
use Rattle.flow_floor.proofs.Planned.{connection-at, connection-read, senders-low, senders-noted}
use Rattle.flow_floor.proofs.Settling.{drop-front}
use Rattle.flow_floor.proofs.floor.Floor.tell_received.Goals as goal
use Rattle.flow_floor.proofs.floor.Floor.tell_received.Goals.{After-index, After-as_slice-senders, After-withdraw}

-- the connection is the floor's
below : (g : _) (c : After-index g) → c.in-Some.end.connection < c.args.self.now.layout.connections
below g c = subst (λ (x : Option End). IsEndBelow c.args.self.now.layout.connections x) c.in-Some.is c.requires.range

-- what the plan says of it
at : (g : _) (c : After-index g) → slice_get c.args.self.now.plan.items c.in-Some.end.connection ≡ Some c.index.result.now
at g c = connection-at c.args.self.now c.in-Some.end.connection c.index.result.now (below g c) c.index.ensures

pub withdraw-requires-clause-noted : goal.withdraw-requires-clause-noted
withdraw-requires-clause-noted g c = senders-noted c.args.self.now c.in-Some.end.connection c.index.result.now (at g (goal.at.withdraw-requires-clause-noted g c).After-index)

-- the senders are still to be woken, and behind them who was noted before
waking : (g : _) (c : After-withdraw g)
    → IsWaking g.K.Component.rules c.args.self.now.table.shared.table_id c.args.self.now.layout.processes c.withdraw.new.worker c.args.held.now (senders_at c.args.self.now.plan.items c.in-Some.end.connection ++ receivers_of c.args.self.now.plan.items c.args.ends.now.output)
waking g c = let f = c.args.self.now in let q = c.requires.held in let e = c.withdraw.ensures in let w = c.args.worker.now in let senders = senders_at f.plan.items c.in-Some.end.connection in let more = receivers_of f.plan.items c.args.ends.now.output in
    waking-midway g.K.Component.rules f.table.shared.table_id f.layout.processes c.withdraw.new.worker c.args.held.now (senders ++ more)
    (midway-next g.K.Component.rules f.table.shared.table_id f.layout.processes w c.withdraw.new.worker c.args.held.now None None (taken_by c.args.ends.now.input) None more (senders ++ more) (withdrawing (view w) senders) q e.seated e.view refl q.sends refl
    (ap (λ (xs : List ℕ). senders ++ xs) q.noted))

-- what the slice has
named : (g : _) (c : After-as_slice-senders g) → slice_get c.args.self.now.plan.items c.in-Some.end.connection ≡ Some c.index.result.now → senders_at c.args.self.now.plan.items c.in-Some.end.connection ≡ sending_processes c.as_slice-senders.result.now
named g c there = senders_at-is c.args.self.now.plan.items c.in-Some.end.connection c.index.result.now there ∙ sym (ap sending_processes c.as_slice-senders.ensures)

-- behind them
behind : (noted senders more : List ℕ) → noted ≡ senders ++ more → drop (length senders) noted ≡ more
behind noted senders more is = ap (drop (length senders)) is ∙ drop-front senders more

pub wake_all-requires-clause-waking : goal.wake_all-requires-clause-waking
wake_all-requires-clause-waking g c = let f = c.args.self.now in let all = goal.at.wake_all-requires-clause-waking g c in let w = c.withdraw.new.worker in
    let senders = sending_processes c.as_slice-senders.result.now in let more = receivers_of f.plan.items c.args.ends.now.output in
    let q = subst (λ (xs : List ℕ). IsWaking g.K.Component.rules f.table.shared.table_id f.layout.processes w c.args.held.now (xs ++ more)) (named g all.After-as_slice-senders (at g all.After-index)) (waking g all.After-withdraw) in
    subst (λ (xs : List ℕ). IsWaking g.K.Component.rules f.table.shared.table_id f.layout.processes w c.args.held.now (senders ++ xs)) (sym (behind (view w).noted senders more q.noted)) q

pub wake_all-requires-clause-below : goal.wake_all-requires-clause-below
wake_all-requires-clause-below g c = let f = c.args.self.now in
    subst (λ (ss : List Sender). All (λ (s : Sender). s.process < f.layout.processes) ss) (sym c.as_slice-senders.ensures) (senders-low f c.in-Some.end.connection c.index.result.now (at g (goal.at.wake_all-requires-clause-below g c).After-index))

pub wake_all-requires-clause-few : goal.wake_all-requires-clause-few
wake_all-requires-clause-few g c = let f = c.args.self.now in
    let there = connection-read f c.in-Some.end.connection c.index.result.now (below g (goal.at.wake_all-requires-clause-few g c).After-index) c.index.ensures in
    omega (arith, senders-few f.table.shared.key.value f.wired c.in-Some.end.connection c.index.result.now there, ap (λ xs. length xs) c.as_slice-senders.ensures)

pub returns-clause-waking : goal.returns-clause-waking
returns-clause-waking g c = let f = c.args.self.now in let all = goal.at.returns-clause-waking g c in let w = c.withdraw.new.worker in
    let senders = sending_processes c.as_slice-senders.result.now in let more = receivers_of f.plan.items c.args.ends.now.output in
    let q = subst (λ (xs : List ℕ). IsWaking g.K.Component.rules f.table.shared.table_id f.layout.processes w c.args.held.now (xs ++ more)) (named g all.After-as_slice-senders (at g all.After-index)) (waking g all.After-withdraw) in
    subst (IsWaking g.K.Component.rules f.table.shared.table_id f.layout.processes c.wake_all.new.worker c.args.held.now) (behind (view w).noted senders more q.noted) c.wake_all.ensures.waking

pub returns-clause-few : goal.returns-clause-few
returns-clause-few g c = let f = c.args.self.now in
    let there = connection-read f c.in-Some.end.connection c.index.result.now (below g (goal.at.returns-clause-few g c).After-index) c.index.ensures in
    omega (arith, c.wake_all.ensures.few, senders-few f.table.shared.key.value f.wired c.in-Some.end.connection c.index.result.now there, ap (λ xs. length xs) c.as_slice-senders.ensures)
