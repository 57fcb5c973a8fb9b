use Rattle.std.proofs.Common.{rules, ◌≡◌}
use Rattle.std.specs.Ordering.{is_lt}
use Rattle.std.proofs.lemmas.Result.{on_ok_weaker}
use Rattle.std.proofs.lemmas.List.Sorted.{ranks_by}
use Rattle.std.proofs.lemmas.Fn.{always_returns_same}
use Rattle.std.proofs.lemmas.Cmp.{nat_list_cmp_total}
use Rattle.flow_packet.specs.Sorting.{sort_key, is_less}
use Rattle.flow_packet.proofs.queue.sort_packets.Goals as goal

pub returns-clause-ok : goal.returns-clause-ok
returns-clause-ok c =
    let ranks = ranks_by nat_list_cmp_total (sort_key c.args.bytes) in
    let answers = always_returns_same _ (λ a r. is_lt r ≡ is_less c.args.bytes a.0.now a.1.0.now) _ (λ a r f' k. search rules) in
    on_ok_weaker c.sort_by.result (λ up. record {
      same = c.sort_by.ensures.permutation;
      ascending = up (is_less c.args.bytes) ranks answers;
      stable = c.sort_by.ensures.stable (is_less c.args.bytes) ranks answers;
    }) c.sort_by.ensures.sorted
