use Rattle.std.specs.Prelude.{codes}
use Rattle.std.specs.Fmt.{decimal}
use Rattle.flow_report.proofs.Appending.{total-of}
use Rattle.flow_report.proofs.lines.put_total.Goals as goal

pub returns : goal.returns
returns c =
    total-of c.args.text.now.items c.put_numbers.new.text.items c.put_numbers-2.new.text.items c.extend_from_slice.new.self.items
    (codes "total turns ") (decimal c.args.turns) (codes " made ") (decimal c.args.made)
    (codes " dropped ") (decimal c.args.dropped) (codes " left ") (decimal c.args.left)
    c.in_ok-put_numbers.ensures c.in_ok-put_numbers-2.ensures c.in_ok-extend_from_slice.ensures.items
