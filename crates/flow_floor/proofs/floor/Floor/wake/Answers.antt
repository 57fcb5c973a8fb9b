use Rattle.std.proofs.Common.{◌≡◌, ◌==◌, ◌∷◌, drop, length, refl, arith, ap, ◌∙◌}
use mathlib.Core.Option.{none}
use prog.Atomic.{either}
use Rattle.atomic_table.specs.Table.{step}
use Rattle.flow_floor.specs.Plays.{glanced, nudged}
use Rattle.flow_floor.specs.Floors.{readied_of, woken_of}
use Rattle.flow_floor.specs.Workers.{IsWaking}
use Rattle.flow_floor.proofs.Spacing.{apart}
use Rattle.flow_floor.proofs.Rolls.{wakes-none, wakes-after}
use Rattle.flow_floor.proofs.Strikes.{glances, nudges}
use Rattle.flow_floor.proofs.Holding.{first-noted, rest-noted, struck, unstruck, waking-as}
use Rattle.flow_floor.proofs.floor.Floor.wake.Goals as goal
use Rattle.flow_floor.proofs.floor.Floor.wake.Goals.{then-seen-eq-HELD+else-found-ne-PARKED, else-seen-eq-HELD}

pub load-seen-requires : goal.load-seen-requires
load-seen-requires g c = let f = c.args.self.now in let q = c.requires.waking in let s = c.args.worker.now.seat in let place = c.process_word-place.ensures in (
  q.table,
  omega (arith, f.words, place, c.requires.below),
  apart g.K.Component.rules f.table.shared.key.value f.table.shared.table_id.slots s.id s.me _ c.process_word-place.result (λ n. n) (λ i. glanced (step f.table.shared.table_id.slots i 0 0 none) s.me) place
      (glances g.K.Component.rules g.met.K.Component.lawful f.table.shared.key.value _ _ _ c.args.held.now.process _ q.agrees.base (drop 1 c.args.worker.now.seat.me.0.noted)
      (omega (arith, f.bodies, c.requires.below)) q.agrees.held (q.noted)),
)

pub returns-then-seen-gt-HELD-clause-waking : goal.returns-then-seen-gt-HELD-clause-waking
returns-then-seen-gt-HELD-clause-waking g c = let e = c.load-seen.ensures in struck _ _ _ c.args.worker.now (record { seat = c.load-seen.new.seat; woken = c.args.worker.now.woken }) c.args.held.now _ _ c.requires.waking e.0 (e.2.0 c.if-seen-gt-HELD.true) refl

pub compare_exchange-found-requires : goal.compare_exchange-found-requires
compare_exchange-found-requires g c = let f = c.args.self.now in let s = c.load-seen.new.seat in let place = c.process_word-place.ensures in let e = c.load-seen.ensures in
    let q = unstruck _ _ _ c.args.worker.now (record { seat = s; woken = c.args.worker.now.woken }) c.args.held.now _ c.requires.waking e.0 (e.2.1 c.if-seen-gt-HELD.false) in (
      q.table,
      omega (arith, f.words, place, c.requires.below),
      apart g.K.Component.rules f.table.shared.key.value f.table.shared.table_id.slots s.id s.me _ c.process_word-place.result (λ n. either (n == 1) 3 n) (λ i. nudged (step f.table.shared.table_id.slots i 1 3 none) s.me) place
          (nudges g.K.Component.rules g.met.K.Component.lawful f.table.shared.key.value _ _ _ c.args.held.now.process _ q.agrees.base (drop 1 c.args.worker.now.seat.me.0.noted)
          (omega (arith, f.bodies, c.requires.below)) q.agrees.held (q.noted)),
    )

pub returns-then-found-ne-PARKED-clause-waking : goal.returns-then-found-ne-PARKED-clause-waking
returns-then-found-ne-PARKED-clause-waking g c = let e = c.load-seen.ensures in let d = c.compare_exchange-found.ensures in
    let q = unstruck _ _ _ c.args.worker.now (record { seat = c.load-seen.new.seat; woken = c.args.worker.now.woken }) c.args.held.now _ c.requires.waking e.0 (e.2.1 c.if-seen-gt-HELD.false) in
    struck _ _ _ (record { seat = c.load-seen.new.seat; woken = c.args.worker.now.woken }) (record { seat = c.compare_exchange-found.new.seat; woken = c.args.worker.now.woken }) c.args.held.now _ _ q d.0 (d.2.0 c.if-found-ne-PARKED.true) refl

-- Once the word was read, and the process maybe poked, it is still the first that is noted.
pub rouse-requires-clause-waking : goal.rouse-requires-clause-waking
rouse-requires-clause-waking g c = let f = c.args.self.now in let e = c.load-seen.ensures in
    let q = unstruck _ _ _ c.args.worker.now (record { seat = c.load-seen.new.seat; woken = c.args.worker.now.woken }) c.args.held.now _ c.requires.waking e.0 (e.2.1 c.if-seen-gt-HELD.false) in
    let more = drop 1 c.args.worker.now.seat.me.0.noted in
    let still : IsWaking g.K.Component.rules f.table.shared.table_id f.layout.processes c.if-seen-eq-HELD.worker c.args.held.now (c.args.process ∷ more) = elim c.if-seen-eq-HELD.branch [
      | then-seen-eq-HELD+else-found-ne-PARKED w ↦ (let d = w.compare_exchange-found.ensures in waking-as _ _ _ c.if-seen-eq-HELD.worker (record { seat = w.compare_exchange-found.new.seat; woken = c.args.worker.now.woken }) c.args.held.now _ w.worker-is
          (unstruck _ _ _ (record { seat = c.load-seen.new.seat; woken = c.args.worker.now.woken }) (record { seat = w.compare_exchange-found.new.seat; woken = c.args.worker.now.woken }) c.args.held.now _ q d.0 (d.2.1 w.if-found-ne-PARKED.false)))
      | else-seen-eq-HELD w ↦ waking-as _ _ _ c.if-seen-eq-HELD.worker (record { seat = c.load-seen.new.seat; woken = c.args.worker.now.woken }) c.args.held.now _ w.worker-is q
    ] in
    first-noted _ _ _ c.if-seen-eq-HELD.worker c.args.held.now c.args.process (c.args.process ∷ more) more refl still

pub returns-clause-waking : goal.returns-clause-waking
returns-clause-waking g c = let f = c.args.self.now in let e = c.load-seen.ensures in
    let q = unstruck _ _ _ c.args.worker.now (record { seat = c.load-seen.new.seat; woken = c.args.worker.now.woken }) c.args.held.now _ c.requires.waking e.0 (e.2.1 c.if-seen-gt-HELD.false) in
    let more = drop 1 c.args.worker.now.seat.me.0.noted in
    let still : IsWaking g.K.Component.rules f.table.shared.table_id f.layout.processes c.if-seen-eq-HELD.worker c.args.held.now (c.args.process ∷ more) = elim c.if-seen-eq-HELD.branch [
      | then-seen-eq-HELD+else-found-ne-PARKED w ↦ (let d = w.compare_exchange-found.ensures in waking-as _ _ _ c.if-seen-eq-HELD.worker (record { seat = w.compare_exchange-found.new.seat; woken = c.args.worker.now.woken }) c.args.held.now _ w.worker-is
          (unstruck _ _ _ (record { seat = c.load-seen.new.seat; woken = c.args.worker.now.woken }) (record { seat = w.compare_exchange-found.new.seat; woken = c.args.worker.now.woken }) c.args.held.now _ q d.0 (d.2.1 w.if-found-ne-PARKED.false)))
      | else-seen-eq-HELD w ↦ waking-as _ _ _ c.if-seen-eq-HELD.worker (record { seat = c.load-seen.new.seat; woken = c.args.worker.now.woken }) c.args.held.now _ w.worker-is q
    ] in
    rest-noted _ _ _ c.if-seen-eq-HELD.worker c.rouse.new.worker c.args.held.now c.args.process (c.args.process ∷ more) more refl still c.rouse.ensures.waking

pub returns-then-seen-gt-HELD-clause-one : goal.returns-then-seen-gt-HELD-clause-one
returns-then-seen-gt-HELD-clause-one g c = let e = c.load-seen.ensures in
    wakes-none c.args.self.now c.args.worker.now (record { seat = c.load-seen.new.seat; woken = c.args.worker.now.woken }) (ap (λ m. m.0.readied) (e.2.0 c.if-seen-gt-HELD.true)) refl

pub returns-then-found-ne-PARKED-clause-one : goal.returns-then-found-ne-PARKED-clause-one
returns-then-found-ne-PARKED-clause-one g c = let e = c.load-seen.ensures in let d = c.compare_exchange-found.ensures in
    wakes-none c.args.self.now c.args.worker.now (record { seat = c.compare_exchange-found.new.seat; woken = c.args.worker.now.woken })
    (ap (λ m. m.0.readied) (d.2.0 c.if-found-ne-PARKED.true) ∙ ap (λ m. m.0.readied) (e.2.1 c.if-seen-gt-HELD.false)) refl

pub rouse-requires-clause-room : goal.rouse-requires-clause-room
rouse-requires-clause-room g c =
    let same : woken_of c.if-seen-eq-HELD.worker ≡ woken_of c.args.worker.now = elim c.if-seen-eq-HELD.branch [
      | then-seen-eq-HELD+else-found-ne-PARKED w ↦ ap woken_of w.worker-is
      | else-seen-eq-HELD w ↦ ap woken_of w.worker-is
    ] in omega (arith, c.requires.room, ap (λ xs. length xs) same)

pub returns-clause-one : goal.returns-clause-one
returns-clause-one g c = let e = c.load-seen.ensures in let first = ap (λ m. m.0.readied) (e.2.1 c.if-seen-gt-HELD.false) in
    let woken : woken_of c.if-seen-eq-HELD.worker ≡ woken_of c.args.worker.now = elim c.if-seen-eq-HELD.branch [
      | then-seen-eq-HELD+else-found-ne-PARKED w ↦ ap woken_of w.worker-is
      | else-seen-eq-HELD w ↦ ap woken_of w.worker-is
    ] in
    let readied : readied_of c.if-seen-eq-HELD.worker ≡ readied_of c.args.worker.now = elim c.if-seen-eq-HELD.branch [
      | then-seen-eq-HELD+else-found-ne-PARKED w ↦ (ap readied_of w.worker-is ∙ ap (λ m. m.0.readied) (w.compare_exchange-found.ensures.2.1 w.if-found-ne-PARKED.false) ∙ first)
      | else-seen-eq-HELD w ↦ ap readied_of w.worker-is ∙ first
    ] in
    wakes-after c.args.self.now c.args.worker.now c.if-seen-eq-HELD.worker c.rouse.new.worker readied woken c.rouse.ensures.one
