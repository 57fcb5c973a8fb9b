use Rattle.flow_limits.specs.declared.TheConstants.{CAPACITY_LIMIT}
use Rattle.std.proofs.Common.{◌≡◌, ◌≤◌, Some, ap, arith, slice_get, refl}
use Rattle.std.proofs.lemmas.List.Sums.{sum_by_more}
use Rattle.std.proofs.lemmas.Option.{slice_get_read}
use Rattle.flow_net.specs.Finishes.{capacity_of}
use Rattle.flow_net.proofs.check.capacity_sum.Goals as goal

pub loop-link-preserved : goal.loop-link-preserved
loop-link-preserved c =
    let links = c.args.links.now in
    let i = c.loop-link.link-index in
    let link = c.link-item.result in
    let more = sum_by_more capacity_of links i link c.loop-link-test.true in
    let same = ap capacity_of c.link-item.is in
    let here : slice_get links i ≡ Some link = slice_get_read links _ i link refl c.loop-link-test.true c.link-item.is in
    let small : capacity_of link ≤ CAPACITY_LIMIT = c.requires.small i link here in
    (omega (arith, more, same, c.loop-link.invariant.0, c.unwrap_or-sum.ensures), omega (arith, small, c.loop-link.invariant.1, c.unwrap_or-sum.ensures))
