use Rattle.std.proofs.Common.{◌≡◌, ◌∙◌, ℕ, ◌+◌, ◌<◌, ◌≤◌, List, length, Some, sym, ap, subst, arith, slice_get, get_or}
use Rattle.flow_machine.specs.Logs.{turns_made}
use Rattle.flow_machine.specs.Solo.{Goes}
use Rattle.flow_machine.proofs.SoloLemmas.{set-after, turn-count}
use Rattle.flow_journal.specs.declared.refusal.Refusal.TheVariants.{Seen}
use Rattle.flow_journal.specs.declared.refusal.ReplayStop.TheVariants.{NoTurn}
use Rattle.flow_journal.specs.Replaying.{LeadsTo, StopsMaking}
use Rattle.flow_journal.proofs.Replayed.{made-within, as-many-made, at-place, not-empty, leads-more, stops-at, stops-behind}
use Rattle.flow_journal.proofs.again.make_turns.Goals as goal

pub returns-in-Err-clause-stops : goal.returns-in-Err-clause-stops
returns-in-Err-clause-stops g c =
    let turns : c.as_slice-turns.result.now ≡ c.args.journal.now.turns = c.as_slice-turns.ensures in
    let within : c.loop-place.place < length c.args.journal.now.turns = omega (arith, c.loop-place-test.true, ap length turns) in
    let there : slice_get c.args.journal.now.turns c.loop-place.place ≡ Some c.from-process.result = at-place c.args.journal.now.turns c.loop-place.place c.from-process.result within (c.from-process.ensures ∙ ap (λ (ts : List ℕ). get_or ts c.loop-place.place 0) turns) in
    stops-at g.K.Component.rules g.met.K.Component.lawful c.args.journal.now c.args.net.now c.loop-place.net (turns_made c.args.net.now) (c.turns_made-first.result + c.loop-place.place) c.loop-place.place c.loop-place.left.now c.from-process.result c.in-Err.refusal c.loop-place.invariant.goes there c.in-Err.ensures.refused

pub settle-requires : goal.settle-requires
settle-requires g c = made-within c.loop-place.net c.from-process.result (c.turns_made-first.result + c.loop-place.place) c.loop-place.left.now c.in-Ok.after.now c.make_turn.new.net c.in-Ok.ensures.made

pub loop-place-preserved : goal.loop-place-preserved
loop-place-preserved g c =
    let inv = c.loop-place.invariant in
    let p : ℕ = c.from-process.result in
    let place : ℕ = c.loop-place.place in
    let stamp : ℕ = c.turns_made-first.result + c.loop-place.place in
    let made = c.in-Ok.ensures.made in
    let settles = c.in_ok-settle.ensures.settles in
    let turns : c.as_slice-turns.result.now ≡ c.args.journal.now.turns = c.as_slice-turns.ensures in
    let within : c.loop-place.place < length c.args.journal.now.turns = omega (arith, c.loop-place-test.true, ap length turns) in
    let there : slice_get c.args.journal.now.turns c.loop-place.place ≡ Some c.from-process.result = at-place c.args.journal.now.turns c.loop-place.place c.from-process.result within (c.from-process.ensures ∙ ap (λ (ts : List ℕ). get_or ts c.loop-place.place 0) turns) in
    let at : stamp + 1 ≡ c.turns_made-first.result + (c.loop-place.place + 1) = omega arith in
    let counted : turns_made c.make_turn.new.net ≡ turns_made c.loop-place.net + 1 = turn-count c.loop-place.net p made.level made.event stamp c.make_turn.new.net made.turn in
    record {
      set = set-after g.K.Component.rules c.loop-place.net c.make_turn.new.net c.settle.new.net p made.level stamp made.event inv.set made.turn settles;
      len = c.settle.ensures.len ∙ as-many-made c.loop-place.net p stamp c.loop-place.left.now c.in-Ok.after.now c.make_turn.new.net made ∙ inv.len;
      next = sym at ∙ ap (λ (n : ℕ). n + 1) inv.next ∙ sym counted ∙ sym c.settle.ensures.turns;
      goes = subst (λ (m : ℕ). Goes g.K.Component.rules (LeadsTo g.K.Component.rules c.args.journal.now (c.loop-place.place + 1) c.in-Ok.after.now) c.args.net.now (turns_made c.args.net.now) c.settle.new.net m) at
          (leads-more g.K.Component.rules g.met.K.Component.lawful c.args.journal.now c.args.net.now c.loop-place.net c.make_turn.new.net c.settle.new.net p (turns_made c.args.net.now) stamp place c.loop-place.left.now c.in-Ok.after.now inv.goes made settles there);
    }

pub returns-clause-stops : goal.returns-clause-stops
returns-clause-stops g c =
    let turns : c.as_slice-turns.result.now ≡ c.args.journal.now.turns = c.as_slice-turns.ensures in
    let all : length c.args.journal.now.turns ≤ c.loop-place.place = omega (arith, c.loop-place-test.false, ap length turns) in
    subst (λ (ts : List ℕ). StopsMaking g.K.Component.rules c.args.net.now c.args.journal.now (NoTurn (length ts) 0 Seen)) (sym turns)
    (stops-behind g.K.Component.rules g.met.K.Component.lawful c.args.journal.now c.args.net.now c.loop-place.net (turns_made c.args.net.now) (c.turns_made-first.result + c.loop-place.place) c.loop-place.place c.loop-place.left.now all (not-empty c.loop-place.left.now c.is_empty.result c.is_empty.ensures c.if-is_empty.false) c.loop-place.invariant.goes)
