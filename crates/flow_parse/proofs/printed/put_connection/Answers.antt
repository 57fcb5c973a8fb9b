use Rattle.std.proofs.Common.{◌∙◌, ap, sym, ◌++◌, ℕ, Option}
use Rattle.flow_parse.specs.Canonical.{statement_line}
use Rattle.flow_parse.specs.declared.value.Statement.TheVariants.{Connect}
use Rattle.flow_parse.proofs.Printing.{with_capacity}
use Rattle.flow_parse.proofs.printed.put_connection.Goals as goal

pub returns : goal.returns
returns c = with_capacity c.args.out.now.items c.args.from.now c.args.port.now c.in-Some.capacity c.args.to.now c.args.into.now c.put_sender.new.out.items c.put_capacity.new.out.items c.put_receiver-2.new.out.items
    c.in_ok-put_sender.ensures c.in_ok-put_capacity.ensures c.in_ok-put_receiver.ensures
    ∙ ap (λ (o : Option ℕ). c.args.out.now.items ++ statement_line (Connect c.args.from.now c.args.port.now o c.args.to.now c.args.into.now)) (sym c.in-Some.is)
