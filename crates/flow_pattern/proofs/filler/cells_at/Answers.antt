use Rattle.std.proofs.Common.{◌≡◌, false, Option, Some, IfSome, subst, ap}
use Rattle.regex.specs.Patterns.{Match, find, span}
use Rattle.regex.specs.Replace.{bytes_of, group_bytes}
use Rattle.regex.specs.Search.{SpansGroups, group_span}
use Rattle.regex.proofs.CapturesLemmas.{group_span-zero}
use Rattle.regex.proofs.ReplaceLemmas.{IfOk-weaker}
use Rattle.flow_pattern.specs.Pattern.{expression}
use Rattle.flow_pattern.specs.Template.{parts_text}
use Rattle.flow_pattern.proofs.Groups.{held}
use Rattle.flow_pattern.proofs.Parts.{parts_same}
use Rattle.flow_pattern.proofs.filler.cells_at.Goals as goal

pub returns-then-call_groups-clause-written : goal.returns-then-call_groups-clause-written
returns-then-call_groups-clause-written c =
    let text = c.args.text.now in
    let re = expression c.args.locator.now in
    IfOk-weaker _
    (λ cells. (m : Match) → find re text c.args.start ≡ Some m → parts_text (λ n. bytes_of text (group_span false text (span m) cells.items n)) c.args.parts.now ≡ parts_text (group_bytes text m) c.args.parts.now)
    (λ cells spans m there. parts_same (λ n. bytes_of text (group_span false text (span m) cells.items n)) (group_bytes text m)
    (held text m cells.items (subst (λ (o : Option Match). IfSome o (λ x. SpansGroups false text x (span x) cells.items)) there spans)) c.args.parts.now)
    c.groups.result c.groups.ensures.spans

pub returns-clause-written : goal.returns-clause-written
returns-clause-written c m there =
    let text = c.args.text.now in
    c.call_groups.ensures c.if-call_groups.false (λ n. bytes_of text (group_span false text (span m) c.new.result.items n)) (group_bytes text m) (ap (bytes_of text) (group_span-zero false text (span m) c.new.result.items))
