use Rattle.std.proofs.Common.{◌+◌, ◌∙◌, Bool, [], List, ap, sym, take, drop}
use Rattle.std.specs.Prelude.{◌||◌}
use Rattle.std.specs.List.{list_any}
use Rattle.flow_parse.specs.declared.value.Statement.{Statement}
use Rattle.flow_flat.specs.Texts.{given_again, is_given_by}
use Rattle.flow_expand.proofs.Places.{any_push, cut, again_here, again_later, take_more}
use Rattle.flow_expand.proofs.given.second_given.Goals as goal

pub returns-then-has : goal.returns-then-has
returns-then-has c =
    ap (given_again []) (sym c.as_slice-statements.ensures) ∙ c.statements.invariant.0
    ∙ ap (given_again (take c.statements.statement-index c.as_slice-statements.result.now)) (cut c.as_slice-statements.result.now c.statements.statement-index c.statement-item.result c.statements-test.true c.statement-item.is)
    ∙ again_here (take c.statements.statement-index c.as_slice-statements.result.now) c.statement-item.result (drop (c.statements.statement-index + 1) c.as_slice-statements.result.now) (sym (c.statements.invariant.1 c.statement-item.result) ∙ sym c.has.ensures ∙ c.if-has.true)

pub statements-preserved : goal.statements-preserved
statements-preserved c =
    let more = take_more c.as_slice-statements.result.now c.statements.statement-index c.statement-item.result c.statements-test.true c.statement-item.is in (
      c.statements.invariant.0
          ∙ ap (given_again (take c.statements.statement-index c.as_slice-statements.result.now)) (cut c.as_slice-statements.result.now c.statements.statement-index c.statement-item.result c.statements-test.true c.statement-item.is)
          ∙ again_later (take c.statements.statement-index c.as_slice-statements.result.now) c.statement-item.result (drop (c.statements.statement-index + 1) c.as_slice-statements.result.now) (sym (c.statements.invariant.1 c.statement-item.result) ∙ sym c.has.ensures ∙ c.if-has.false)
          ∙ ap (λ (l : List Statement). given_again l (drop (c.statements.statement-index + 1) c.as_slice-statements.result.now)) more,
      λ s. c.in_ok-put.ensures s ∙ ap (λ (b : Bool). b || is_given_by s c.statement-item.result) (c.statements.invariant.1 s) ∙ any_push (is_given_by s) (take c.statements.statement-index c.as_slice-statements.result.now) c.statement-item.result ∙ ap (list_any (is_given_by s)) more,
    )
