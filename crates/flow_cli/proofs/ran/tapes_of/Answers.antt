use Rattle.std.proofs.Common.{◌+◌, Vec, ap, sym, ◌∙◌, subst, is_some}
use Rattle.std.specs.declared.alloc.Global.{Global}
use Rattle.flow_own.specs.declared.tape.Tape.{Tape}
use Rattle.flow_cli.proofs.Taping.{TapedBelow, one-taped, none-taped}
use Rattle.flow_cli.proofs.ran.tapes_of.Goals as goal
use Rattle.flow_cli.proofs.ran.tapes_of.Goals.{then-is_some+in_ok-tape_at+in_ok-push, else-is_some}

pub loop-process-preserved : goal.loop-process-preserved
loop-process-preserved g c =
    let own = c.args.own.now in
    let plan = c.args.plan.now in
    let bodies = c.args.net.now.bodies in
    let k = c.loop-process.process in
    let before = c.loop-process.tapes.items in
    let told = c.is_some.ensures ∙ ap is_some c.own_kind.ensures.place in
    elim c.if-is_some.branch [
      | then-is_some+in_ok-tape_at+in_ok-push w ↦
          let tape = w.in_ok-tape_at.field-0 in
          subst (TapedBelow own plan bodies (k + 1)) (sym (ap (λ (v : Vec Tape Global). v.items) w.tapes-is ∙ w.in_ok-push.ensures.items))
          (one-taped own plan bodies k before tape (sym told ∙ w.if-is_some.true) w.in_ok-tape_at.ensures.tape w.tape_at.ensures.recorded c.loop-process.invariant)
      | else-is_some w ↦
          subst (TapedBelow own plan bodies (k + 1)) (sym (ap (λ (v : Vec Tape Global). v.items) w.tapes-is))
          (none-taped own plan bodies k before (sym told ∙ w.if-is_some.false) c.loop-process.invariant)
    ]
