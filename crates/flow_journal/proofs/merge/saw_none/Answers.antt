use Rattle.std.proofs.Common.{◌≡◌, ◌∙◌, ℕ, List, true, false, length, sym, ap}
use Rattle.std.specs.Prelude.{◌==◌}
use Rattle.flow_journal.proofs.Levels.{none-more, not-none}
use Rattle.flow_journal.proofs.merge.saw_none.Goals as goal

pub returns-then-not-is_empty : goal.returns-then-not-is_empty
returns-then-not-is_empty g c =
    let some : (length c.body.result.now.levels == 0) ≡ false = ap (λ (levels : List (ℕ × ℕ)). length levels == 0) (sym c.levels.ensures) ∙ sym c.is_empty.ensures ∙ c.if-not-is_empty.true in
    sym (not-none c.args.net.now.bodies c.loop-process.process c.body.result.now c.body.ensures some)

pub loop-process-preserved : goal.loop-process-preserved
loop-process-preserved g c =
    let none : (length c.body.result.now.levels == 0) ≡ true = ap (λ (levels : List (ℕ × ℕ)). length levels == 0) (sym c.levels.ensures) ∙ sym c.is_empty.ensures ∙ c.if-not-is_empty.false in
    none-more c.args.net.now.bodies c.loop-process.process c.body.result.now c.body.ensures none c.loop-process.invariant
