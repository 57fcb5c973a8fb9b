use Rattle.std.proofs.Common.{◌≡◌, refl, ◌+◌, ◌-◌, ◌%◌, ◌^◌, bit_or, ◌<◌, ◌++◌, length, drop, take, arith, sym, ap, ◌∙◌, subst}
use Rattle.flow_floor.proofs.Lives.{raises, pokes, lowers}
use mathlib.Core.Option.{none}
use Rattle.atomic_table.specs.Table.{step}
use Rattle.flow_floor.specs.Ends.{capacities_of}
use Rattle.flow_floor.specs.Plays.{raised, poked, lowered}
use Rattle.flow_floor.proofs.Spacing.{apart}
use Rattle.flow_floor.proofs.Rolls.{poked-none, poked-ready, wakes-none, wakes-this}
use Rattle.flow_floor.proofs.Holding.{woken, poked-spare, poked-spent}
use Rattle.flow_floor.proofs.floor.Floor.rouse.Goals as goal

pub fetch_add-requires : goal.fetch_add-requires
fetch_add-requires g c = let f = c.args.self.now in let q = c.requires.waking in let s = c.args.worker.now.seat in let place = c.live-live.ensures in (
  q.table,
  omega (arith, f.words, place),
  apart g.K.Component.rules f.table.shared.key.value f.table.shared.table_id.slots s.id s.me (f.layout.processes + f.layout.connections + f.layout.connections + 1) c.live-live.result (λ x. (x + 1) % 2 ^ 64) (λ i. raised (step f.table.shared.table_id.slots i 1 0 none) s.me) (omega (arith, place))
      (raises g.K.Component.rules g.met.K.Component.lawful f.table.shared.key.value _ _ _ c.args.held.now.process _ q.agrees.base
      (let e : f.layout.processes + f.layout.connections + f.layout.connections + 1 ≡ length f.table.shared.key.value.bodies + length (capacities_of f.table.shared.key.value) + length (capacities_of f.table.shared.key.value) + 1 = omega (arith, f.bodies, f.channels) in e) q.agrees.held q.spare q.share),
)

pub fetch_or-found-requires : goal.fetch_or-found-requires
fetch_or-found-requires g c = let f = c.args.self.now in let q = c.requires.waking in let s = c.fetch_add.new.seat in let place = c.process_word-place.ensures in let e = c.fetch_add.ensures in let v = ap (λ m. m.0) e.2 in (
  e.0 ∙ q.table,
  omega (arith, f.words, place, c.requires.below),
  apart g.K.Component.rules f.table.shared.key.value f.table.shared.table_id.slots s.id s.me _ c.process_word-place.result (λ n. bit_or n 2) (λ i. poked (step f.table.shared.table_id.slots i 2 0 none) s.me) place
      (pokes g.K.Component.rules g.met.K.Component.lawful f.table.shared.key.value _ _ _ c.args.held.now.process _ q.agrees.base (drop 1 c.args.worker.now.seat.me.0.noted)
      (omega (arith, f.bodies, c.requires.below)) (ap (λ y. y.held) v ∙ q.agrees.held) (ap (λ y. y.noted) v ∙ q.noted) (ap (λ y. y.spare) v ∙ ap (λ n. n + 1) q.spare) (subst (λ n. 0 < n) (sym (ap (λ y. y.shares) v)) q.share)),
)

pub fetch_sub-requires : goal.fetch_sub-requires
fetch_sub-requires g c = let f = c.args.self.now in let q = c.requires.waking in let s = c.fetch_or-found.new.seat in let place = c.live-live.ensures in let e = c.fetch_add.ensures in let d = c.fetch_or-found.ensures in (
  d.0 ∙ e.0 ∙ q.table,
  omega (arith, f.words, place),
  apart g.K.Component.rules f.table.shared.key.value f.table.shared.table_id.slots s.id s.me (f.layout.processes + f.layout.connections + f.layout.connections + 1) c.live-live.result (λ n. (n + (2 ^ 64 - 1)) % 2 ^ 64) (λ i. lowered (step f.table.shared.table_id.slots i 1 0 none) s.me) (omega (arith, place))
      (lowers g.K.Component.rules g.met.K.Component.lawful f.table.shared.key.value _ _ _ _
      (let e : f.layout.processes + f.layout.connections + f.layout.connections + 1 ≡ length f.table.shared.key.value.bodies + length (capacities_of f.table.shared.key.value) + length (capacities_of f.table.shared.key.value) + 1 = omega (arith, f.bodies, f.channels) in e) (omega (arith, poked-spare c.fetch_add.new.seat.me.0 c.fetch_or-found.new.seat.me.0 c.fetch_or-found.result (ap (λ m. m.0) d.2) c.if-found-ne0.true, ap (λ m. m.0.spare) e.2, q.spare))),
)

pub returns-then-found-ne0-clause-waking : goal.returns-then-found-ne0-clause-waking
returns-then-found-ne0-clause-waking g c = let q = c.requires.waking in let e = c.fetch_add.ensures in let d = c.fetch_or-found.ensures in let l = c.fetch_sub.ensures in
    woken _ _ _ c.args.worker.now (record { seat = c.fetch_sub.new.seat; woken = c.args.worker.now.woken }) c.args.held.now _ _ q (l.0 ∙ d.0 ∙ e.0) (ap (λ m. m.1) l.2 ∙ ap (λ m. m.1) d.2 ∙ ap (λ m. m.1) e.2)
    (ap (λ m. m.0.shares) l.2 ∙ ap (λ m. m.0.shares) d.2 ∙ ap (λ m. m.0.shares) e.2) (ap (λ m. m.0.sending) l.2 ∙ ap (λ m. m.0.sending) d.2 ∙ ap (λ m. m.0.sending) e.2) (ap (λ m. m.0.receiving) l.2 ∙ ap (λ m. m.0.receiving) d.2 ∙ ap (λ m. m.0.receiving) e.2) (ap (λ m. m.0.held) l.2 ∙ ap (λ m. m.0.held) d.2 ∙ ap (λ m. m.0.held) e.2)
    (ap (λ m. m.0.noted) l.2 ∙ ap (λ m. m.0.noted) d.2 ∙ ap (λ m. drop 1 m.0.noted) e.2 ∙ ap (drop 1) (q.noted))
    (ap (λ m. m.0.spare) l.2 ∙ ap (λ n. n - 1) (poked-spare c.fetch_add.new.seat.me.0 c.fetch_or-found.new.seat.me.0 c.fetch_or-found.result (ap (λ m. m.0) d.2) c.if-found-ne0.true ∙ ap (λ m. m.0.spare) e.2 ∙ ap (λ n. n + 1) q.spare))

pub returns-else-found-ne0-clause-waking : goal.returns-else-found-ne0-clause-waking
returns-else-found-ne0-clause-waking g c = let q = c.requires.waking in let e = c.fetch_add.ensures in let d = c.fetch_or-found.ensures in
    woken _ _ _ c.args.worker.now (record { seat = c.fetch_or-found.new.seat; woken = c.add.new.self }) c.args.held.now _ _ q (d.0 ∙ e.0) (ap (λ m. m.1) d.2 ∙ ap (λ m. m.1) e.2)
    (ap (λ m. m.0.shares) d.2 ∙ ap (λ m. m.0.shares) e.2) (ap (λ m. m.0.sending) d.2 ∙ ap (λ m. m.0.sending) e.2) (ap (λ m. m.0.receiving) d.2 ∙ ap (λ m. m.0.receiving) e.2) (ap (λ m. m.0.held) d.2 ∙ ap (λ m. m.0.held) e.2)
    (ap (λ m. m.0.noted) d.2 ∙ ap (λ m. drop 1 m.0.noted) e.2 ∙ ap (drop 1) (q.noted))
    (poked-spent c.fetch_add.new.seat.me.0 c.fetch_or-found.new.seat.me.0 c.fetch_or-found.result (ap (λ m. m.0) d.2) c.if-found-ne0.false ∙ ap (λ n. n - 1) (ap (λ m. m.0.spare) e.2 ∙ ap (λ n. n + 1) q.spare))

pub returns-then-found-ne0-clause-one : goal.returns-then-found-ne0-clause-one
returns-then-found-ne0-clause-one g c = let e = c.fetch_add.ensures in let d = c.fetch_or-found.ensures in let l = c.fetch_sub.ensures in
    wakes-none c.args.self.now c.args.worker.now (record { seat = c.fetch_sub.new.seat; woken = c.args.worker.now.woken })
    (ap (λ m. m.0.readied) l.2 ∙ poked-none c.fetch_add.new.seat.me.0 c.fetch_or-found.new.seat.me.0 c.fetch_or-found.result (ap (λ m. m.0) d.2) c.if-found-ne0.true ∙ ap (λ m. m.0.readied) e.2) refl

pub returns-else-found-ne0-clause-one : goal.returns-else-found-ne0-clause-one
returns-else-found-ne0-clause-one g c = let q = c.requires.waking in let e = c.fetch_add.ensures in let d = c.fetch_or-found.ensures in
    wakes-this c.args.self.now c.args.worker.now (record { seat = c.fetch_or-found.new.seat; woken = c.add.new.self }) c.args.process c.requires.below
    (poked-ready c.fetch_add.new.seat.me.0 c.fetch_or-found.new.seat.me.0 c.fetch_or-found.result (ap (λ m. m.0) d.2) c.if-found-ne0.false ∙ (λ i. (e.2 i).0.readied ++ take 1 (e.2 i).0.noted) ∙ ap (λ xs. c.args.worker.now.seat.me.0.readied ++ take 1 xs) q.noted) c.add.ensures
