use Rattle.std.proofs.Common.{◌≡◌, ◌+◌, ◌/◌, ℕ, bit_or, length, arith, refl, ap, ◌∙◌}
use mathlib.Core.Logic.{dite}
use mathlib.Core.Option.{none}
use native.Mathlib.Decide.{ℕ_discrete}
use Rattle.atomic_table.specs.Table.{step}
use Rattle.flow_ring.specs.declared.layout.TheConstants.{SPACING}
use Rattle.flow_floor.specs.Ends.{capacities_of}
use Rattle.flow_floor.specs.Plays.{gated}
use Rattle.flow_floor.specs.Views.{entering, looked}
use Rattle.flow_floor.specs.Workers.{view}
use Rattle.flow_floor.proofs.Seated.{seated-next}
use Rattle.flow_floor.proofs.Spacing.{apart}
use Rattle.flow_floor.proofs.Coming.{enters}
use Rattle.flow_floor.proofs.floor.Floor.enter.Goals as goal

pub fetch_or-requires : goal.fetch_or-requires
fetch_or-requires g c = let f = c.args.self.now in let q = c.requires.seated in let s = c.args.worker.now.seat in let place = c.gate_word-place.ensures in (
  q.table,
  omega (arith, f.words, place, c.requires.range),
  apart g.K.Component.rules f.table.shared.key.value f.table.shared.table_id.slots s.id s.me (f.layout.processes + f.layout.connections + c.args.connection) c.gate_word-place.result (λ n. bit_or n 1) (λ i. gated g.S.Spot.connection (step f.table.shared.table_id.slots i 1 0 none) s.me) (omega (arith, place))
      (rw c.requires.spot
      (enters g.K.Component.rules g.met.K.Component.lawful f.table.shared.key.value f.table.shared.table_id.slots _ s.id c.args.held.now.process c.args.connection s.me q.base
      (let e : f.layout.processes + f.layout.connections + c.args.connection ≡ length f.table.shared.key.value.bodies + length (capacities_of f.table.shared.key.value) + c.args.connection = omega (arith, f.bodies, f.channels) in e) (omega (arith, f.channels, c.requires.range)) q.held c.requires.sends c.requires.shared c.requires.nowhere)),
)

pub returns-clause-seated : goal.returns-clause-seated
returns-clause-seated g c = let f = c.args.self.now in let e = c.fetch_or.ensures in
    dite (ℕ_discrete c.fetch_or.result 0)
    (λ free. seated-next f.table.shared.table_id f.layout.processes c.args.worker.now (record { seat = c.fetch_or.new.seat; woken = c.args.worker.now.woken }) c.args.held.now (entering (view c.args.worker.now) g.S.Spot.connection) c.requires.seated e.0 (e.2.0 free) refl refl refl)
    (λ taken. seated-next f.table.shared.table_id f.layout.processes c.args.worker.now (record { seat = c.fetch_or.new.seat; woken = c.args.worker.now.woken }) c.args.held.now (looked (view c.args.worker.now) (c.gate_word-place.result / SPACING) c.fetch_or.result) c.requires.seated e.0 (e.2.1 taken).1 refl refl refl)

pub returns-clause-free : goal.returns-clause-free
returns-clause-free g c free = ap (λ m. m.0) (c.fetch_or.ensures.2.0 free) ∙ ap (entering (view c.args.worker.now)) c.requires.spot

pub returns-clause-taken : goal.returns-clause-taken
returns-clause-taken g c taken = let f = c.args.self.now in let place = c.gate_word-place.ensures in
    let order : c.gate_word-place.result / SPACING ≡ f.layout.processes + f.layout.connections + c.args.connection = omega (arith, place) in
    ap (λ m. m.0) (c.fetch_or.ensures.2.1 taken).1 ∙ ap (λ (i : ℕ). looked (view c.args.worker.now) i c.fetch_or.result) order

pub returns-clause-one : goal.returns-clause-one
returns-clause-one g c taken = (c.fetch_or.ensures.2.1 taken).0
