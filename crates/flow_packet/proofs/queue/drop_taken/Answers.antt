use Rattle.std.proofs.Common.{◌≡◌, ◌+◌, ◌-◌, ◌++◌, ◌∷◌, [], suc, drop, take, arith, ap, sym, ◌∙◌, ℕ}
use Rattle.flow_packet.proofs.Queues.{one_less}
use Rattle.flow_packet.proofs.queue.drop_taken.Goals as goal

pub loop-preserved : goal.loop-preserved
loop-preserved c =
    let all = c.args.packets.now.items in
    let k = c.args.taken - (c.loop.counter + 1) in
    let more : c.args.taken - c.loop.counter ≡ suc k = omega arith in
    let before : drop c.args.taken all ++ take (suc k) all ≡ c.pop.new.self.items ++ c.in-Some.bare ∷ [] =
    ap (λ (n : ℕ). drop c.args.taken all ++ take n all) (sym more) ∙ sym c.loop.invariant ∙ c.in-Some.ensures.items in
    one_less (drop c.args.taken all) all c.pop.new.self.items c.in-Some.bare k (omega arith) before
