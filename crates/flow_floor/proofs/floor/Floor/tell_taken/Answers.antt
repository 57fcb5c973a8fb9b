use Rattle.std.proofs.Common.{◌≡◌, ◌<◌, ◌≤◌, ◌∙◌, ℕ, List, [], ◌++◌, All, None, Some, drop, length, slice_get, refl, sym, ap, subst, arith, append-nil}
use Rattle.std.proofs.lemmas.List.{drop_all}
use Rattle.flow_plan.specs.declared.plan.Sender.{Sender}
use Rattle.flow_floor.specs.Plans.{sending_processes, senders_at}
use Rattle.flow_floor.proofs.Plans.{senders-few, senders_at-is}
use Rattle.flow_floor.specs.Midway.{taken_at}
use Rattle.flow_floor.specs.Views.{withdrawing}
use Rattle.flow_floor.specs.Workers.{view, IsWaking}
use Rattle.flow_floor.proofs.Rolls.{readies-after}
use Rattle.flow_floor.proofs.Holding.{waking-none}
use Rattle.flow_floor.proofs.Midways.{midway-next, midway-seated, waking-midway}
use Rattle.flow_floor.proofs.Planned.{connection-at, connection-read, connection-there, senders-low, senders-noted}
use Rattle.flow_floor.proofs.floor.Floor.tell_taken.Goals as goal
use Rattle.flow_floor.proofs.floor.Floor.tell_taken.Goals.{After-index, After-as_slice-senders, After-withdraw}

-- what the plan says of the connection
at : (g : _) (c : After-index g) → slice_get c.args.self.now.plan.items c.args.connection ≡ Some c.index.result.now
at g c = connection-at c.args.self.now c.args.connection c.index.result.now c.requires.range c.index.ensures

pub index-requires : goal.index-requires
index-requires g c = omega (arith, connection-there c.args.self.now c.args.connection c.requires.range)

pub withdraw-requires-clause-seated : goal.withdraw-requires-clause-seated
withdraw-requires-clause-seated g c = let f = c.args.self.now in midway-seated g.K.Component.rules f.table.shared.table_id f.layout.processes c.args.worker.now c.args.held.now _ _ _ c.requires.held

pub withdraw-requires-clause-taken : goal.withdraw-requires-clause-taken
withdraw-requires-clause-taken g c = (taken_at c.args.connection, c.requires.held.receives, refl, refl, refl, refl)

pub withdraw-requires-clause-noted : goal.withdraw-requires-clause-noted
withdraw-requires-clause-noted g c = senders-noted c.args.self.now c.args.connection c.index.result.now (at g (goal.at.withdraw-requires-clause-noted g c).After-index)

-- the senders are still to be woken
waking : (g : _) (c : After-withdraw g) → IsWaking g.K.Component.rules c.args.self.now.table.shared.table_id c.args.self.now.layout.processes c.withdraw.new.worker c.args.held.now (senders_at c.args.self.now.plan.items c.args.connection)
waking g c = let f = c.args.self.now in let q = c.requires.held in let notes = senders_at f.plan.items c.args.connection in
    waking-midway g.K.Component.rules f.table.shared.table_id f.layout.processes c.withdraw.new.worker c.args.held.now notes
    (midway-next g.K.Component.rules f.table.shared.table_id f.layout.processes c.args.worker.now c.withdraw.new.worker c.args.held.now None None (Some (taken_at c.args.connection)) None [] notes (withdrawing (view c.args.worker.now) notes) q c.withdraw.ensures.seated c.withdraw.ensures.view refl q.sends refl
    (ap (λ (xs : List ℕ). notes ++ xs) q.noted ∙ append-nil notes))

-- what the slice has, and that nobody else is noted
named : (g : _) (c : After-as_slice-senders g) → slice_get c.args.self.now.plan.items c.args.connection ≡ Some c.index.result.now → senders_at c.args.self.now.plan.items c.args.connection ≡ sending_processes c.as_slice-senders.result.now
named g c there = senders_at-is c.args.self.now.plan.items c.args.connection c.index.result.now there ∙ sym (ap sending_processes c.as_slice-senders.ensures)

none-more : (noted notes : List ℕ) → noted ≡ notes → drop (length notes) noted ≡ []
none-more noted notes is = ap (drop (length notes)) is ∙ drop_all (length notes) notes (let l : length notes ≤ length notes = omega arith in l)

pub wake_all-requires-clause-waking : goal.wake_all-requires-clause-waking
wake_all-requires-clause-waking g c = let f = c.args.self.now in let all = goal.at.wake_all-requires-clause-waking g c in
    let senders = sending_processes c.as_slice-senders.result.now in
    let q = subst (IsWaking g.K.Component.rules f.table.shared.table_id f.layout.processes c.withdraw.new.worker c.args.held.now) (named g all.After-as_slice-senders (at g all.After-index)) (waking g all.After-withdraw) in
    subst (IsWaking g.K.Component.rules f.table.shared.table_id f.layout.processes c.withdraw.new.worker c.args.held.now) (sym (ap (λ (xs : List ℕ). senders ++ xs) (none-more (view c.withdraw.new.worker).noted senders q.noted) ∙ append-nil senders)) q

pub wake_all-requires-clause-below : goal.wake_all-requires-clause-below
wake_all-requires-clause-below g c = let f = c.args.self.now in
    subst (λ (ss : List Sender). All (λ (s : Sender). s.process < f.layout.processes) ss) (sym c.as_slice-senders.ensures) (senders-low f c.args.connection c.index.result.now (at g (goal.at.wake_all-requires-clause-below g c).After-index))

pub wake_all-requires-clause-few : goal.wake_all-requires-clause-few
wake_all-requires-clause-few g c = let f = c.args.self.now in
    let there = connection-read f c.args.connection c.index.result.now c.requires.range c.index.ensures in
    omega (arith, senders-few f.table.shared.key.value f.wired c.args.connection c.index.result.now there, ap (λ xs. length xs) c.as_slice-senders.ensures)

pub returns-clause-readies : goal.returns-clause-readies
returns-clause-readies g c = readies-after c.args.self.now c.args.worker.now c.withdraw.new.worker c.wake_all.new.worker (ap (λ v. v.readied) c.withdraw.ensures.view) c.wake_all.ensures.readies

pub returns-clause-held : goal.returns-clause-held
returns-clause-held g c = let f = c.args.self.now in let all = goal.at.returns-clause-held g c in
    let senders = sending_processes c.as_slice-senders.result.now in
    let q = subst (IsWaking g.K.Component.rules f.table.shared.table_id f.layout.processes c.withdraw.new.worker c.args.held.now) (named g all.After-as_slice-senders (at g all.After-index)) (waking g all.After-withdraw) in
    waking-none g.K.Component.rules f.table.shared.table_id f.layout.processes c.wake_all.new.worker c.args.held.now
    (subst (IsWaking g.K.Component.rules f.table.shared.table_id f.layout.processes c.wake_all.new.worker c.args.held.now) (none-more (view c.withdraw.new.worker).noted senders q.noted) c.wake_all.ensures.waking)
