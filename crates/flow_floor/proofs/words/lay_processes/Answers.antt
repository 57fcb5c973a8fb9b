use Rattle.std.proofs.Common.{◌≡◌, ◌<◌, ◌∙◌, length, length-set, set, arith}
use Rattle.flow_ring.specs.Places.{spaced}
use Rattle.flow_floor.proofs.Openings.{ready-more, same-more}
use Rattle.flow_floor.proofs.words.lay_processes.Goals as goal

pub loop-process-preserved : goal.loop-process-preserved
loop-process-preserved c = let i = c.loop-process.invariant in let ws = c.loop-process.words.items in let p = c.loop-process.process in let place = c.process_word.result in
    let below : spaced p < length ws = omega (arith, c.requires, i.wide, c.loop-process-test.true) in
    let laid : set ws place 2 ≡ set ws (spaced p) 2 = (λ j. set ws (c.process_word.ensures j) 2) in
    record {
      ready = ready-more ws (set ws place 2) p laid below i.ready;
      others = same-more 0 c.args.layout.now.processes p 2 c.args.words.now.items ws (set ws place 2) (omega arith) c.loop-process-test.true laid i.others;
      wide = length-set ws place 2 ∙ i.wide;
    }
