use Rattle.std.proofs.Common.{◌≡◌, ◌∷◌, suc, drop, set, sym, ap, ◌∙◌, add-one, List}
use Rattle.flow_packet.specs.Tree.{Tree}
use Rattle.flow_packet.proofs.Queues.{drop-taken}
use Rattle.flow_packet.proofs.queue.Queue.take_first.Goals as goal

pub returns : goal.returns
returns c =
    let all = c.self.inside.packets.items in
    let place = c.self.inside.taken in
    let left = c.take_at-first.ensures.left in
    let same = drop-taken all place c.take_at-first.result left.bare c.take_at-first.ensures.taken in
    let rest : c.give_back.new.self ≡ drop (suc place) (set all place left.bare) = rw (add-one, left.others) at c.give_back.ensures in
    sym c.self.view_is ∙ same ∙ ap (λ (ts : List Tree). c.take_at-first.result ∷ ts) (sym rest)
