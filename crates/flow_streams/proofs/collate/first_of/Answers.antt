use Rattle.std.proofs.Common.{◌-◌, ◌≡◌, length, drop, arith, ◌∙◌, subst, ◌+◌, ◌<◌, sym}
use Rattle.std.specs.Prelude.{IfSome, slice_index}
use Rattle.std.proofs.lemmas.List.{take_rest}
use Rattle.flow_streams.specs.Collation.{or_later, packet_there}
use Rattle.flow_streams.proofs.Firsts.{one_before, one_within}
use Rattle.flow_streams.proofs.collate.first_of.Goals as goal

pub loop-at-preserved : goal.loop-at-preserved
loop-at-preserved c =
    let es = c.args.owners.now in
    let ts = c.args.packets.now in
    let at = c.loop-at.at in
    let i = c.loop-at.invariant in
    let h : c.or_later-first.result ≡ or_later c.args.bytes (slice_index (drop (at - 1) es) 0) (packet_there (drop (at - 1) ts) 0) (drop 1 (drop (at - 1) es)) (drop 1 (drop (at - 1) ts)) c.loop-at.first
    = rw (take_rest es (at - 1), take_rest ts (at - 1)) at c.or_later-first.ensures in (
      omega arith,
      h ∙ one_before c.args.bytes es ts at c.loop-at.first c.requires.each c.loop-at-test.true i.0 i.1,
      subst (λ o. IfSome o (λ place. at - 1 + place < length es)) (sym h) (one_within c.args.bytes es ts at c.loop-at.first (slice_index (drop (at - 1) es) 0) (packet_there (drop (at - 1) ts) 0) (drop 1 (drop (at - 1) es)) (drop 1 (drop (at - 1) ts)) c.loop-at-test.true i.0 i.2),
    )
