use Rattle.std.proofs.Common.{◌≡◌, ◌+◌, ◌<◌, ◌∙◌, length, length-set, set, arith}
use Rattle.flow_ring.specs.Places.{spaced}
use Rattle.flow_ring.specs.Words.{free_word}
use Rattle.flow_ring.specs.Places.{level_rank}
use Rattle.flow_floor.proofs.Openings.{levels-more, same-more}
use Rattle.flow_floor.proofs.words.lay_levels.Goals as goal

pub loop-connection-preserved : goal.loop-connection-preserved
loop-connection-preserved g c = let i = c.loop-connection.invariant in let ws = c.loop-connection.words.items in let d = c.loop-connection.connection in
    let n = c.args.layout.now.processes in
    let k = c.channel-channel.result.now in let place = c.level_word.result in let word = c.pack-word.result in
    let low = c.loop-connection-test.true in
    let below : spaced (level_rank n d) < length ws = omega (arith, c.requires.wide, i.wide, low) in
    let laid : set ws place word ≡ set ws (spaced (level_rank n d)) word = (λ j. set ws (c.level_word.ensures j) word) in
    let is : word ≡ free_word (length k.packets) k.open_senders = c.pack-word.ensures ∙ (λ j. free_word (c.level.ensures j) (c.open_senders.ensures j)) in
    record {
      levels = levels-more n c.args.net.now.channels ws (set ws place word) d word k c.channel-channel.ensures is laid below i.levels;
      others = same-more n (n + c.args.layout.now.connections) (level_rank n d) word c.args.words.now.items ws (set ws place word) (omega arith) (omega (arith, low)) laid i.others;
      wide = length-set ws place word ∙ i.wide;
    }
