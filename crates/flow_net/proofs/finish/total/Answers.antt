use Rattle.flow_limits.specs.declared.TheConstants.{ELEMENT_LIMIT}
use Rattle.std.proofs.Common.{◌≡◌, ◌≤◌, ◌<◌, ◌∙◌, Some, ap, arith, get_or, length, slice_get}
use Rattle.std.proofs.lemmas.List.{length-map}
use Rattle.std.proofs.lemmas.List.Sums.{sum_by_more}
use Rattle.std.proofs.lemmas.Option.{slice_get-get_or}
use Rattle.flow_net.specs.Finishes.{counted, count_of}
use Rattle.flow_net.proofs.finish.total.Goals as goal

pub loop-g-preserved : goal.loop-g-preserved
loop-g-preserved c =
    let ports = c.args.draft.ports.now in
    let g = c.loop-g.g in
    let port = c.index-draft-g.result in
    let within : g < length ports = omega arith in
    let more = sum_by_more (counted c.args.process c.args.input) ports g port within in
    let same = ap (counted c.args.process c.args.input) c.index-draft-g.is in
    let counts = c.args.draft.counts.now in
    let long : length counts ≡ length ports = ap length c.args.draft.counts_are ∙ length-map ports count_of in
    let here : slice_get counts g ≡ Some (get_or counts g 0) = slice_get-get_or counts g 0 (omega arith) in
    let small : get_or counts g 0 ≤ ELEMENT_LIMIT = c.args.draft.few g (get_or counts g 0) here in
    (omega (arith, more, same, c.loop-g.invariant.0, c.counted_on-sum.ensures.counted), omega (arith, small, c.loop-g.invariant.1, c.counted_on-sum.ensures.few))
