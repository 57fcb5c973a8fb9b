use Rattle.std.proofs.Common.{◌≡◌, ℕ, ◌+◌, length, get_or, sym, ap, ◌∙◌, subst, arith, slice_get, Some}
use Rattle.std.proofs.lemmas.Option.{slice_get-get_or}
use Rattle.std.specs.Mem.Slots.{slots_items}
use Rattle.flow_machine.specs.Values.{BodyValue}
use Rattle.flow_floor.specs.Shut.{ListsStarved, starves, listed}
use Rattle.flow_floor.proofs.Shutting.{lists-more, listed-few}
use Rattle.flow_floor.proofs.Lists.{word-at}
use Rattle.flow_ring.specs.Spaced.{ranked}
use Rattle.flow_ring.proofs.Spaced.{ranked-at}
use Rattle.flow_floor.proofs.shut.list_starved.Goals as goal

pub loop-process-preserved : goal.loop-process-preserved
loop-process-preserved g c = let i = c.loop-process.invariant in let p = c.loop-process.process in let items = slots_items c.args.closed.now.words in let ws = ranked items in let b = c.index-bodies-process.result in
    let bodies = c.args.bodies.now in
    let there : slice_get bodies p ≡ Some b = slice_get-get_or bodies p b c.loop-process-test.true ∙ ap (λ (x : BodyValue g.row.K.Denot). Some x) (sym c.index-bodies-process.is) in
    let at : get_or ws p 0 ≡ c.word-word.result = ranked-at items p ∙ ap (λ (n : ℕ). get_or items n 0) (sym c.process_word.ensures) ∙ word-at items c.process_word.result c.word-word.result c.word-word.ensures in
    let is : c.starves-is.result ≡ starves (get_or ws p 0) b.process.stage = c.starves-is.ensures ∙ ap (λ w. starves w b.process.stage) (sym at) in
    let names : c.with_starved-starved.result.items ≡ listed c.loop-process.starved.items p (starves (get_or ws p 0) b.process.stage) = c.with_starved-starved.ensures.items ∙ ap (listed c.loop-process.starved.items p) is in
    record {
      few = omega (arith, i.few, ap (λ xs. length xs) names, listed-few c.loop-process.starved.items p (starves (get_or ws p 0) b.process.stage));
      room = c.with_starved-starved.ensures.room ∙ i.room;
      lists = subst (λ xs. ListsStarved ws bodies (p + 1) xs) (sym names) (lists-more ws bodies p b c.loop-process.starved.items there i.lists);
    }

pub returns : goal.returns
returns g c = let end : c.loop-process.process ≡ length c.args.bodies.now = omega (arith, c.loop-process-test.false, c.loop-process.auto.process-end) in
    subst (λ m. ListsStarved (ranked (slots_items c.args.closed.now.words)) c.args.bodies.now m c.loop-process.starved.items) end c.loop-process.invariant.lists
