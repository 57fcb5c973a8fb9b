use Rattle.std.proofs.Common.{◌∙◌, ap, arith, get_or, set}
use Rattle.std.proofs.lemmas.List.{length-map}
use Rattle.flow_model.specs.Stands.{ChannelShown}
use Rattle.flow_floor.proofs.Openings.{first-words, zero-each}
use Rattle.flow_floor.proofs.words.first_words.Goals as goal

pub returns : goal.returns
returns g c =
    let l = c.args.layout.now in
    let net = c.args.net.now in
    let t = c.turns_made.result in
    let ls = c.lay_levels.new.words.items in
    let zeros = c.in_ok-words.ensures.items_if_clones_equal (λ y e. e) in
    let ts = set ls c.clock.result t in
    first-words net l.processes l.connections t c.in_ok-words.words.items c.lay_processes.new.words.items ls ts (set ts c.live.result l.processes) c.requires.processes c.requires.connections
    (omega (arith, c.requires.connections, length-map net.channels (λ (k : ChannelShown). k.capacity))) c.turns_made.ensures.turns
    (omega (arith, c.in_ok-words.ensures.len, c.words.ensures, c.in_ok-words.words.ok.0)) (λ i. ap (λ xs. get_or xs i 0) zeros ∙ zero-each c.words.result i)
    c.lay_processes.ensures.wide c.lay_processes.ensures.ready c.lay_processes.ensures.others c.lay_levels.ensures.wide c.lay_levels.ensures.levels c.lay_levels.ensures.others
    (λ j. set ls (c.clock.ensures j) t) (λ j. set ts (c.live.ensures j) l.processes)
