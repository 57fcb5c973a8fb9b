use Rattle.std.proofs.Common.{◌≡◌, List, ℕ, ◌++◌, ◌∙◌, ap}
use Rattle.std.specs.Prelude.{codes}
use Rattle.std.specs.Fmt.{decimal}
use Rattle.flow_report.proofs.Appending.{connection-of}
use Rattle.flow_report.proofs.lines.put_connection.Goals as goal

pub returns : goal.returns
returns c =
    connection-of c.args.text.now.items c.put_two.new.text.items c.put_number.new.text.items c.put_numbers.new.text.items c.put_number-2.new.text.items c.extend_from_slice.new.self.items
    (codes "connection ") c.args.connection.now.name (codes " capacity ") (decimal c.args.connection.now.capacity)
    (codes " puts ") (decimal c.args.connection.now.puts) (codes " takes ") (decimal c.args.connection.now.takes) (codes " left ") (decimal c.args.connection.now.left)
    (c.in_ok-put_two.ensures ∙ ap (λ (n : List ℕ). c.args.text.now.items ++ (codes "connection " ++ n)) c.as_slice.ensures)
    (c.in_ok-put_number.ensures ∙ ap (λ n. c.put_two.new.text.items ++ (codes " capacity " ++ decimal n)) c.from.ensures)
    c.in_ok-put_numbers.ensures c.in_ok-put_number-2.ensures c.in_ok-extend_from_slice.ensures.items
