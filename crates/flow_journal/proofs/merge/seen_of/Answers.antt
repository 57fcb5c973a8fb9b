use Rattle.std.proofs.Common.{◌≡◌, ◌∙◌, ◌<◌, ◌≤◌, ◌++◌, ℕ, List, length, drop, sym, ap, subst, arith, get_or, length-set}
use Rattle.std.proofs.lemmas.List.{get_or_default}
use Rattle.flow_machine.specs.Logs.{levels_of}
use Rattle.flow_journal.specs.Journals.{TakesNumbers}
use Rattle.flow_journal.proofs.Stamps.{process_in, process-at, process-below, length-processes}
use Rattle.flow_journal.proofs.Levels.{turn-at, numbers-taken, left-after, names-none}
use Rattle.flow_journal.proofs.merge.seen_of.Goals as goal

pub returns-then-saw_none : goal.returns-then-saw_none
returns-then-saw_none g c = rw c.new-seen.ensures.items (names-none c.args.net.now (sym c.turns_made-made.ensures.stamps ∙ c.turns_made-made.ensures.turns) (sym c.saw_none.ensures ∙ c.if-saw_none.true))

pub body-requires : goal.body-requires
body-requires g c =
    let log = c.turns_made-made.ensures.log.0 in
    let is = c.turns_made-made.ensures.log.1 in
    let turns = c.requires log is in
    let within : c.loop-stamp.stamp < length log = omega (arith, c.loop-stamp-test.true, ap length turns, length-processes log) in
    let process : c.from.result ≡ process_in log c.loop-stamp.stamp = c.from.ensures ∙ ap (λ (ts : List ℕ). get_or ts c.loop-stamp.stamp 0) turns ∙ process-at log c.loop-stamp.stamp 0 within in
    let below = process-below c.args.net.now log is (sym c.turns_made-made.ensures.stamps ∙ c.turns_made-made.ensures.turns) c.loop-stamp.stamp within in
    omega (arith, process, below)

pub index_mut-place-requires : goal.index_mut-place-requires
index_mut-place-requires g c =
    let log = c.turns_made-made.ensures.log.0 in
    let is = c.turns_made-made.ensures.log.1 in
    let turns = c.requires log is in
    let within : c.loop-stamp.stamp < length log = omega (arith, c.loop-stamp-test.true, ap length turns, length-processes log) in
    let process : get_or c.args.turns.now c.loop-stamp.stamp 0 ≡ process_in log c.loop-stamp.stamp = ap (λ (ts : List ℕ). get_or ts c.loop-stamp.stamp 0) turns ∙ process-at log c.loop-stamp.stamp 0 within in
    let below = process-below c.args.net.now log is (sym c.turns_made-made.ensures.stamps ∙ c.turns_made-made.ensures.turns) c.loop-stamp.stamp within in
    omega (arith, process, below, c.loop-stamp.invariant.0)

pub take_numbers-requires : goal.take_numbers-requires
take_numbers-requires g c =
    let log = c.turns_made-made.ensures.log.0 in
    let is = c.turns_made-made.ensures.log.1 in
    let turns = c.requires log is in
    let within : c.loop-stamp.stamp < length log = omega (arith, c.loop-stamp-test.true, ap length turns, length-processes log) in
    let process : get_or c.args.turns.now c.loop-stamp.stamp 0 ≡ process_in log c.loop-stamp.stamp = ap (λ (ts : List ℕ). get_or ts c.loop-stamp.stamp 0) turns ∙ process-at log c.loop-stamp.stamp 0 within in
    let below = process-below c.args.net.now log is (sym c.turns_made-made.ensures.stamps ∙ c.turns_made-made.ensures.turns) c.loop-stamp.stamp within in
    let q : ℕ = get_or c.args.turns.now c.loop-stamp.stamp 0 in
    let inside : q < length c.loop-stamp.places.items = omega (arith, process, below, c.loop-stamp.invariant.0) in
    let place : c.index_mut-place.result.now ≡ get_or c.loop-stamp.places.items q 0 = c.index_mut-place.ensures.value ∙ get_or_default c.loop-stamp.places.items q c.index_mut-place.result.now 0 inside in
    let levels : c.levels-levels.result.now ≡ levels_of q 0 log = c.levels-levels.ensures ∙ (is.logs c.from.result c.body.result.now c.body.ensures).1 ∙ ap (λ (p : ℕ). levels_of p 0 log) c.from.ensures in
    let left = (c.loop-stamp.invariant.1 log is).1 q (omega (arith, process, below)) in
    omega (arith, place, left.0, ap length levels)

pub loop-stamp-preserved : goal.loop-stamp-preserved
loop-stamp-preserved g c = (
  length-set c.loop-stamp.places.items (get_or c.args.turns.now c.loop-stamp.stamp 0) c.in_ok-place.field-0 ∙ c.loop-stamp.invariant.0,
  λ log is.
      (let turns = c.requires log is in
      let within : c.loop-stamp.stamp < length log = omega (arith, c.loop-stamp-test.true, ap length turns, length-processes log) in
      let q : ℕ = get_or c.args.turns.now c.loop-stamp.stamp 0 in
      let process : process_in log c.loop-stamp.stamp ≡ q = sym (ap (λ (ts : List ℕ). get_or ts c.loop-stamp.stamp 0) turns ∙ process-at log c.loop-stamp.stamp 0 within) in
      let below = process-below c.args.net.now log is (sym c.turns_made-made.ensures.stamps ∙ c.turns_made-made.ensures.turns) c.loop-stamp.stamp within in
      let inside : q < length c.loop-stamp.places.items = omega (arith, process, below, c.loop-stamp.invariant.0) in
      let place : c.index_mut-place.result.now ≡ get_or c.loop-stamp.places.items q 0 = c.index_mut-place.ensures.value ∙ get_or_default c.loop-stamp.places.items q c.index_mut-place.result.now 0 inside in
      let levels : c.levels-levels.result.now ≡ levels_of q 0 log = c.levels-levels.ensures ∙ (is.logs c.from.result c.body.result.now c.body.ensures).1 ∙ ap (λ (p : ℕ). levels_of p 0 log) c.from.ensures in
      let before = c.loop-stamp.invariant.1 log is in
      let left = before.1 q (omega (arith, process, below)) in
      let taken = c.in_ok-place.ensures in
      let takes : TakesNumbers (drop (get_or c.loop-stamp.places.items q 0) (levels_of q 0 log)) c.loop-stamp.stamp c.loop-stamp.seen.items c.take_numbers.new.seen.items (drop c.in_ok-place.field-0 (levels_of q 0 log)) =
      subst (λ (ls : List _). TakesNumbers (drop (get_or c.loop-stamp.places.items q 0) ls) c.loop-stamp.stamp c.loop-stamp.seen.items c.take_numbers.new.seen.items (drop c.in_ok-place.field-0 ls)) levels
      (subst (λ (n : ℕ). TakesNumbers (drop n c.levels-levels.result.now) c.loop-stamp.stamp c.loop-stamp.seen.items c.take_numbers.new.seen.items (drop c.in_ok-place.field-0 c.levels-levels.result.now)) place taken.0) in
      let at = turn-at log c.loop-stamp.stamp within in
      let done = numbers-taken log c.loop-stamp.stamp at q (get_or c.loop-stamp.places.items q 0) c.in_ok-place.field-0 c.loop-stamp.seen.items c.take_numbers.new.seen.items process left takes in
      let most : c.in_ok-place.field-0 ≤ length (levels_of q 0 log) = omega (arith, taken.1, ap length levels) in (
        done.0 ∙ ap (λ (xs : List ℕ). xs ++ at.turn.seen) before.0 ∙ sym at.seen,
        λ p few. left-after log c.loop-stamp.stamp q c.in_ok-place.field-0 p c.loop-stamp.places.items at process inside most done.1 (before.1 p few),
      )),
)
