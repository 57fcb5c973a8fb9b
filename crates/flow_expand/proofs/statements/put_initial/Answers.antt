use Rattle.std.proofs.Common.{List, ℕ, Ok, Err, ap, sym, subst, ◌∙◌}
use Rattle.std.proofs.lemmas.Result.{err_from_is_err_and}
use Rattle.std.specs.declared.result.Result.{Result}
use Rattle.flow_plan.specs.declared.kind.PortRef.{PortRef}
use Rattle.flow_net.specs.Initials.{AfterInitial}
use Rattle.flow_parse.specs.declared.value.Statement.TheVariants.{Initial}
use Rattle.flow_flat.specs.declared.fault.ExpandFault.{ExpandFault}
use Rattle.flow_flat.specs.Subnets.{statement_meant}
use Rattle.flow_expand.proofs.Telling.{one_stops, one_taken, initial_tells, initial_is}
use Rattle.flow_expand.proofs.statements.put_initial.Goals as goal

pub returns-in_err-initial : goal.returns-in_err-initial
returns-in_err-initial c =
    let p = err_from_is_err_and c.from_residual-in_err-initial.result c.from_residual-in_err-initial.ensures.1 in
    rw (p.1, p.2) (one_stops c.args.builder.now c.initial.new.self
    (statement_meant c.args.text.now c.args.prefix.now c.args.part.now (Initial c.args.bytes.now c.args.to.now c.args.into.now))
    (Initial c.args.bytes.now c.as_slice-2.result.now c.in_ok-receiver.input.now) c.in_err-initial.field-0.0
    (initial_is _ c.args.bytes.now c.as_slice-2.result.now c.in_ok-receiver.input.now
    (c.in_ok-receiver.ensures ∙ ap (λ (n : List ℕ). let r : Result (List ℕ × PortRef) ExpandFault = Ok (n, c.in_ok-receiver.input.now) in r) (sym c.as_slice-2.ensures)))
    c.requires (initial_tells c.args.builder.now c.initial.new.self c.args.bytes.now c.as_slice-2.result.now c.in_ok-receiver.input.now (Err c.in_err-initial.field-0.0)
    (subst (λ (b : List ℕ). AfterInitial c.args.builder.now b c.as_slice-2.result.now c.in_ok-receiver.input.now (Err c.in_err-initial.field-0.0) c.initial.new.self) c.as_slice.ensures c.in_err-initial.ensures)))

pub returns : goal.returns
returns c = one_taken c.args.builder.now c.initial.new.self
    (statement_meant c.args.text.now c.args.prefix.now c.args.part.now (Initial c.args.bytes.now c.args.to.now c.args.into.now))
    (Initial c.args.bytes.now c.as_slice-2.result.now c.in_ok-receiver.input.now)
    (initial_is _ c.args.bytes.now c.as_slice-2.result.now c.in_ok-receiver.input.now
    (c.in_ok-receiver.ensures ∙ ap (λ (n : List ℕ). let r : Result (List ℕ × PortRef) ExpandFault = Ok (n, c.in_ok-receiver.input.now) in r) (sym c.as_slice-2.ensures)))
    c.requires (initial_tells c.args.builder.now c.initial.new.self c.args.bytes.now c.as_slice-2.result.now c.in_ok-receiver.input.now (Ok tt)
    (subst (λ (b : List ℕ). AfterInitial c.args.builder.now b c.as_slice-2.result.now c.in_ok-receiver.input.now (Ok tt) c.initial.new.self) c.as_slice.ensures c.in_ok-initial.ensures))
