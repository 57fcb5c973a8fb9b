use Rattle.std.proofs.Common.{◌≡◌, ◌==◌, ◌<◌, [], ◌∷◌, None, arith, refl, sym, ap, ◌∙◌, subst}
use mathlib.Core.Option.{none}
use prog.Atomic.{either}
use Rattle.atomic_table.specs.Table.{rest, step}
use Rattle.flow_floor.specs.declared.board.Slot.TheVariants as slot
use Rattle.flow_floor.specs.Plays.{claimed}
use Rattle.flow_floor.specs.Views.{claiming}
use Rattle.flow_floor.specs.Wired.{IsWiredIn}
use Rattle.flow_floor.proofs.Claims.{claims}
use Rattle.flow_floor.proofs.Spacing.{took, told, apart}
use Rattle.flow_floor.proofs.Going.{rests-same}
use Rattle.flow_floor.proofs.Lists.{head-is}
use Rattle.flow_floor.proofs.Slots.{body-is}
use Rattle.flow_floor.proofs.floor.Floor.claim_at.Goals as goal
use Rattle.flow_floor.proofs.floor.Floor.claim_at.Goals.{After-compare_exchange-found}

pub compare_exchange-found-requires : goal.compare_exchange-found-requires
compare_exchange-found-requires g c = let q = c.requires.worker in let f = c.args.self.now in let s = c.args.worker.now.seat in let place = c.process_word-place.ensures in (
  q.calm.table,
  omega (arith, f.words, place, c.requires.range),
  apart g.K.Component.rules f.table.shared.key.value f.table.shared.table_id.slots s.id s.me c.args.process c.process_word-place.result (λ n. either (n == 2) 1 n) (λ i. claimed g.S.Spot.connection (step f.table.shared.table_id.slots i 2 1 none) s.me) place
      (claims g.K.Component.rules g.met.K.Component.lawful f.table.shared.key.value _ _ _ _ _ (c.requires.spot ∙ sym f.channels) (omega (arith, f.bodies, c.requires.range)) q.held q.calm.share),
)

-- what the step told, of the process's number
told-of : (g : _) (c : After-compare_exchange-found g) → claimed g.S.Spot.connection (step c.args.self.now.table.shared.table_id.slots c.args.process 2 1 none) c.args.worker.now.seat.me c.compare_exchange-found.result c.compare_exchange-found.new.seat.me
told-of g c =
    told (λ i. claimed g.S.Spot.connection (step c.args.self.now.table.shared.table_id.slots i 2 1 none) c.args.worker.now.seat.me c.compare_exchange-found.result c.compare_exchange-found.new.seat.me) c.args.process c.process_word-place.result c.process_word-place.ensures c.compare_exchange-found.ensures.2

pub exchange-old-requires : goal.exchange-old-requires
exchange-old-requires g c = let e = c.compare_exchange-found.ensures in
    let t = told-of g (goal.at.exchange-old-requires g c).After-compare_exchange-found in
    let b = t.0 c.if-found-ne-READY.false in
    (e.0 ∙ c.requires.worker.calm.table, (slot.Body b.0, took _ _ c.args.process c.body_slot-slot.result (slot.Body b.0) c.body_slot-slot.ensures (ap (λ m. m.1) b.3)))

pub returns : goal.returns
returns g c = let q = c.requires.worker in let e = c.compare_exchange-found.ensures in let x = c.exchange-old.ensures in
    let found = told-of g (goal.at.returns g c).After-compare_exchange-found in
    let t = found.0 c.if-found-ne-READY.false in
    let i : c.body_slot-slot.result ≡ c.args.process = c.body_slot-slot.ensures in
    let b = t.0 in
    let listed : (c.args.process, c.exchange-old.result) ∷ rest c.compare_exchange-found.new.seat.me.1 ≡ (c.args.process, slot.Body b) ∷ c.args.worker.now.seat.me.1 = (λ j. (sym i j, c.exchange-old.result) ∷ rest c.compare_exchange-found.new.seat.me.1) ∙ sym x.2 ∙ ap (λ m. m.1) t.3 in
    let slot_is : c.exchange-old.result ≡ slot.Body b = head-is c.args.process c.exchange-old.result (slot.Body b) (rest c.compare_exchange-found.new.seat.me.1) c.args.worker.now.seat.me.1 listed in
    let body_is : b ≡ c.in-Body.body = body-is c.exchange-old.result b c.in-Body.body slot_is c.in-Body.is in
    let me0 : c.exchange-old.new.seat.me.0 ≡ claiming c.args.worker.now.seat.me.0 c.args.process b = ap (λ m. m.0) x.3 ∙ ap (λ m. m.0) t.3 in
    let me1 : c.exchange-old.new.seat.me.1 ≡ (c.args.process, slot.Vacant) ∷ [] = ap (λ m. m.1) x.3 ∙ (λ j. (i j, slot.Vacant) ∷ rest (ap (λ m. m.1) t.3 j)) ∙ ap (λ cs. (c.args.process, slot.Vacant) ∷ cs) q.slots in (
      refl,
      record {
        calm = record { table = x.0 ∙ e.0 ∙ q.calm.table; share = subst (λ n. 0 < n) (sym (ap (λ v. v.shares) me0)) q.calm.share; sending = ap (λ v. v.sending) me0 ∙ q.calm.sending; receiving = ap (λ v. v.receiving) me0 ∙ q.calm.receiving; noted = ap (λ v. v.noted) me0 ∙ q.calm.noted; spare = ap (λ v. v.spare) me0 ∙ q.calm.spare };
        below = c.requires.range;
        agrees = record { base = b; held = ap (λ v. v.held) me0; rests = rests-same g.K.Component.rules b c.in-Body.body body_is; whole = subst (λ z. z.leaving ≡ None) body_is t.1 };
        slots = me1;
      },
      subst (λ z. IsWiredIn c.args.self.now.layout.connections z) body_is (subst (λ n. IsWiredIn n b) c.requires.spot t.2),
      me0 ∙ ap (λ z. claiming c.args.worker.now.seat.me.0 c.args.process z) body_is,
      refl,
    )

pub returns-then-found-ne-READY : goal.returns-then-found-ne-READY
returns-then-found-ne-READY g c = let q = c.requires.worker in let e = c.compare_exchange-found.ensures in
    let found = told-of g (goal.at.returns-then-found-ne-READY g c).After-compare_exchange-found in
    let other = c.if-found-ne-READY.true in
    let m = found.1 other in
    let v = ap (λ x. x.0) m in (
      other,
      record {
        calm = record { table = e.0 ∙ q.calm.table; share = subst (λ n. 0 < n) (sym (ap (λ y. y.shares) v)) q.calm.share; sending = ap (λ y. y.sending) v ∙ q.calm.sending; receiving = ap (λ y. y.receiving) v ∙ q.calm.receiving; noted = ap (λ y. y.noted) v ∙ q.calm.noted; spare = ap (λ y. y.spare) v ∙ q.calm.spare };
        held = ap (λ y. y.held) v ∙ q.held;
        slots = ap (λ x. x.1) m ∙ q.slots;
      },
      v,
      refl,
    )
