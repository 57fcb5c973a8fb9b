use Rattle.std.proofs.Common.{◌==◌, ◌<◌, ◌∷◌, arith, sym, ap, ◌∙◌, subst}
use mathlib.Core.Option.{none}
use Rattle.atomic_table.specs.Table.{rest, step}
use prog.Atomic.{either}
use Rattle.flow_floor.specs.declared.board.Slot.TheVariants as slot
use Rattle.flow_floor.specs.Plays.{parked, left}
use Rattle.flow_floor.proofs.Leaves.{parks, leaves}
use Rattle.flow_floor.proofs.Spacing.{apart}
use Rattle.flow_floor.proofs.floor.Floor.park.Goals as goal

pub compare_exchange-found-requires : goal.compare_exchange-found-requires
compare_exchange-found-requires g c = let f = c.args.self.now in let q = c.requires.held in let s = c.exchange-old.new.seat in let place = c.process_word-place.ensures in let x = c.exchange-old.ensures in let h = c.args.held in let now = x.3 in let v = ap (λ m. m.0) now in
    let carried = ap (λ m. m.1) now ∙ (λ j. (c.body_slot-slot.ensures j, slot.Body h.body) ∷ rest (q.slots j)) in (
      x.0 ∙ q.calm.table,
      omega (arith, f.words, place, q.below),
      apart g.K.Component.rules f.table.shared.key.value f.table.shared.table_id.slots s.id s.me h.process c.process_word-place.result (λ n. either (n == 1) 0 n) (λ i. parked (step f.table.shared.table_id.slots i 1 0 none) s.me) place
          (parks g.K.Component.rules g.met.K.Component.lawful f.table.shared.key.value _ h.process _ _ q.agrees.base h.body _ (ap (λ y. y.held) v ∙ q.agrees.held) q.agrees.rests (ap (λ y. y.sending) v ∙ q.calm.sending) (ap (λ y. y.receiving) v ∙ q.calm.receiving) (ap (λ y. y.noted) v ∙ q.calm.noted) (ap (λ y. y.spare) v ∙ q.calm.spare) (subst (λ n. 0 < n) (sym (ap (λ y. y.shares) v)) q.calm.share) carried (rw v c.requires.blocked)),
    )

pub swap-requires : goal.swap-requires
swap-requires g c = let f = c.args.self.now in let q = c.requires.held in let s = c.compare_exchange-found.new.seat in let place = c.process_word-place.ensures in let x = c.exchange-old.ensures in let h = c.args.held in
    let e = c.compare_exchange-found.ensures in
    let t = e.2.1 c.if-found-eq-HELD.false in
    let v = ap (λ m. m.0) t.1 in
    let v0 = ap (λ m. m.0) x.3 in
    let carried = ap (λ m. m.1) t.1 ∙ ap (λ m. m.1) x.3 ∙ (λ j. (c.body_slot-slot.ensures j, slot.Body h.body) ∷ rest (q.slots j)) in (
      e.0 ∙ x.0 ∙ q.calm.table,
      omega (arith, f.words, place, q.below),
      apart g.K.Component.rules f.table.shared.key.value f.table.shared.table_id.slots s.id s.me h.process c.process_word-place.result (λ _. 2) (λ i. left (step f.table.shared.table_id.slots i 2 0 none) s.me) place
          (leaves g.K.Component.rules g.met.K.Component.lawful f.table.shared.key.value _ h.process _ _ q.agrees.base h.body _
          (ap (λ y. y.held) v ∙ ap (λ y. y.held) v0 ∙ q.agrees.held) q.agrees.rests (ap (λ y. y.sending) v ∙ ap (λ y. y.sending) v0 ∙ q.calm.sending) (ap (λ y. y.receiving) v ∙ ap (λ y. y.receiving) v0 ∙ q.calm.receiving) (ap (λ y. y.noted) v ∙ ap (λ y. y.noted) v0 ∙ q.calm.noted) carried),
    )
