use Rattle.std.proofs.Common.{◌∙◌, ◌++◌, ℕ, List, drop, get_or, length, sym, ap, subst, arith}
use Rattle.std.proofs.lemmas.List.{drop_all}
use Rattle.std.proofs.lemmas.Option.{slice_get-get_or}
use Rattle.flow_plan.specs.declared.plan.Sender.{Sender}
use Rattle.flow_floor.specs.Floors.{woken_of, Readies}
use Rattle.flow_floor.specs.Plans.{sending_processes}
use Rattle.flow_floor.specs.Workers.{view, IsWaking}
use Rattle.flow_floor.proofs.Rolls.{listed-few, readies-more, wakes-as}
use Rattle.flow_floor.proofs.Plans.{sending-first, sending-skip}
use Rattle.flow_floor.proofs.Holding.{first-noted, rest-noted, waking-as}
use Rattle.flow_floor.proofs.floor.Floor.wake_all.Goals as goal
use Rattle.flow_floor.proofs.floor.Floor.wake_all.Goals.{then-not-is_followed, else-not-is_followed}

pub wake-requires-clause-waking : goal.wake-requires-clause-waking
wake-requires-clause-waking g c = let senders = c.args.senders.now in let i = c.loop-i.i in let s : Sender = get_or senders i (record { process = 0; output = 0 }) in
    let at = slice_get-get_or senders i (record { process = 0; output = 0 }) c.loop-i-test.true in
    let behind = drop (length (sending_processes senders)) (view c.args.worker.now).noted in
    first-noted _ _ _ c.loop-i.worker c.args.held.now s.process _ _ (ap (λ (xs : List ℕ). xs ++ behind) (sending-first senders i s at (sym (c.is_followed.ensures s at) ∙ c.if-not-is_followed.true))) c.loop-i.invariant.0

pub wake-requires-clause-below : goal.wake-requires-clause-below
wake-requires-clause-below g c = c.requires.below c.loop-i.i (record { process = 0; output = 0 }) c.loop-i-test.true

pub loop-i-preserved : goal.loop-i-preserved
loop-i-preserved g c = let f = c.args.self.now in let senders = c.args.senders.now in let i = c.loop-i.i in let s : Sender = get_or senders i (record { process = 0; output = 0 }) in
    let at = slice_get-get_or senders i (record { process = 0; output = 0 }) c.loop-i-test.true in let inv = c.loop-i.invariant in
    let behind = drop (length (sending_processes senders)) (view c.args.worker.now).noted in
    elim c.if-not-is_followed.branch [
      | then-not-is_followed w ↦ (let e = w.wake.ensures in (
        waking-as _ _ _ c.if-not-is_followed.worker w.wake.new.worker c.args.held.now _ w.worker-is
            (rest-noted _ _ _ c.loop-i.worker w.wake.new.worker c.args.held.now s.process _ _ (ap (λ (xs : List ℕ). xs ++ behind) (sending-first senders i s at (sym (c.is_followed.ensures s at) ∙ w.if-not-is_followed.true))) inv.0 e.waking),
        ap (λ x. x.seat.me.0.made) w.worker-is ∙ e.made ∙ inv.1,
        record { shares = ap (λ x. x.seat.me.0.shares) w.worker-is ∙ e.seat.shares ∙ inv.2.shares; zero = ap (λ x. x.seat.me.0.read_zero) w.worker-is ∙ e.seat.zero ∙ inv.2.zero; asked = ap (λ x. x.seat.me.0.asked) w.worker-is ∙ e.seat.asked ∙ inv.2.asked },
        readies-more f c.args.worker.now c.loop-i.worker c.if-not-is_followed.worker inv.3 (wakes-as f c.loop-i.worker w.wake.new.worker c.if-not-is_followed.worker w.worker-is e.one),
        listed-few f c.loop-i.worker c.if-not-is_followed.worker i inv.4 (wakes-as f c.loop-i.worker w.wake.new.worker c.if-not-is_followed.worker w.worker-is e.one),
      ))
      | else-not-is_followed w ↦ (
        waking-as _ _ _ c.if-not-is_followed.worker c.loop-i.worker c.args.held.now _ w.worker-is
            (subst (λ (xs : List ℕ). IsWaking g.K.Component.rules f.table.shared.table_id f.layout.processes c.loop-i.worker c.args.held.now (xs ++ behind)) (sending-skip senders i s at (sym (c.is_followed.ensures s at) ∙ w.if-not-is_followed.false)) inv.0),
        ap (λ x. x.seat.me.0.made) w.worker-is ∙ inv.1,
        record { shares = ap (λ x. x.seat.me.0.shares) w.worker-is ∙ inv.2.shares; zero = ap (λ x. x.seat.me.0.read_zero) w.worker-is ∙ inv.2.zero; asked = ap (λ x. x.seat.me.0.asked) w.worker-is ∙ inv.2.asked },
        subst (Readies f c.args.worker.now) (sym w.worker-is) inv.3,
        omega (arith, inv.4, ap (λ x. length (woken_of x)) w.worker-is),
      )
    ]

pub returns-clause-waking : goal.returns-clause-waking
returns-clause-waking g c = let f = c.args.self.now in let senders = c.args.senders.now in
    let behind = drop (length (sending_processes senders)) (view c.args.worker.now).noted in
    subst (λ (xs : List ℕ). IsWaking g.K.Component.rules f.table.shared.table_id f.layout.processes c.loop-i.worker c.args.held.now (xs ++ behind)) (ap sending_processes (drop_all c.loop-i.i senders (omega (arith, c.loop-i-test.false)))) c.loop-i.invariant.0

pub wake-requires-clause-room : goal.wake-requires-clause-room
wake-requires-clause-room g c = omega (arith, c.loop-i.invariant.4, c.loop-i-test.true, c.requires.few)
