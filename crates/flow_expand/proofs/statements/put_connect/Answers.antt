use Rattle.std.proofs.Common.{List, ℕ, Ok, Err, ap, sym, ◌∙◌}
use Rattle.std.proofs.lemmas.Result.{err_from_is_err_and}
use Rattle.flow_plan.specs.declared.kind.PortRef.{PortRef}
use Rattle.flow_parse.specs.declared.value.Statement.TheVariants.{Connect}
use Rattle.flow_flat.specs.declared.fault.ExpandFault.{ExpandFault}
use Rattle.flow_flat.specs.Subnets.{statement_meant}
use Rattle.std.specs.declared.result.Result.{Result}
use Rattle.flow_expand.proofs.Telling.{one_stops, connect_tells, connect_is}
use Rattle.flow_expand.proofs.statements.put_connect.Goals as goal

pub returns-in_err-connect : goal.returns-in_err-connect
returns-in_err-connect c =
    let p = err_from_is_err_and c.from_residual-in_err-connect.result c.from_residual-in_err-connect.ensures.1 in
    rw (p.1, p.2) (one_stops c.args.builder.now c.connect.new.self
    (statement_meant c.args.text.now c.args.prefix.now c.args.part.now (Connect c.args.from.now c.args.out.now c.args.capacity c.args.to.now c.args.into.now))
    (Connect c.as_slice.result.now c.in_ok-sender.output.now c.args.capacity c.as_slice-2.result.now c.in_ok-receiver.input.now) c.in_err-connect.field-0.0
    (connect_is _ _ c.args.capacity c.as_slice.result.now c.as_slice-2.result.now c.in_ok-sender.output.now c.in_ok-receiver.input.now
    (c.in_ok-sender.ensures ∙ ap (λ (n : List ℕ). let r : Result (List ℕ × PortRef) ExpandFault = Ok (n, c.in_ok-sender.output.now) in r) (sym c.as_slice.ensures))
    (c.in_ok-receiver.ensures ∙ ap (λ (n : List ℕ). let r : Result (List ℕ × PortRef) ExpandFault = Ok (n, c.in_ok-receiver.input.now) in r) (sym c.as_slice-2.ensures)))
    tt (connect_tells c.args.builder.now c.connect.new.self c.as_slice.result.now c.as_slice-2.result.now c.in_ok-sender.output.now c.in_ok-receiver.input.now c.args.capacity (Err c.in_err-connect.field-0.0) c.in_err-connect.ensures))
