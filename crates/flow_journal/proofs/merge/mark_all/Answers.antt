use Rattle.std.proofs.Common.{◌≡◌, ◌∙◌, ◌+◌, ◌≤◌, ℕ, List, length, sym, subst, arith}
use Rattle.flow_journal.specs.Journals.{Marks}
use Rattle.flow_journal.proofs.Stamps.{stamps-within, marked-more, all-marked, process-below}
use Rattle.flow_journal.proofs.merge.mark_all.Goals as goal

pub mark-requires : goal.mark-requires
mark-requires g c =
    let log = c.turns_made-made.ensures.log.0 in
    let is = c.turns_made-made.ensures.log.1 in
    let stamps = c.turns.ensures.stamps ∙ (is.logs c.loop-process.process c.body.result.now c.body.ensures).0 in
    let few : 0 + length log ≤ length c.loop-process.turns = omega (arith, is.total, c.requires, c.loop-process.auto.turns) in
    rw stamps (stamps-within c.loop-process.process 0 (length c.loop-process.turns) log few)

pub loop-process-preserved : goal.loop-process-preserved
loop-process-preserved g c = λ log is k within below.
    (let stamps = c.turns.ensures.stamps ∙ (is.logs c.loop-process.process c.body.result.now c.body.ensures).0 in
    let marks = subst (λ (ss : List ℕ). Marks ss c.loop-process.process c.loop-process.turns c.mark.new.turns) stamps c.mark.ensures in
    let same : length c.loop-process.turns ≡ length log = omega (arith, is.total, c.requires, c.loop-process.auto.turns) in
    marked-more log c.loop-process.process c.loop-process.turns c.mark.new.turns same marks (c.loop-process.invariant log is) k within below)

pub returns : goal.returns
returns g c = λ log is.
    (let same : length c.loop-process.turns ≡ length log = omega (arith, is.total, c.requires, c.loop-process.auto.turns) in
    all-marked log c.loop-process.turns same
    (λ k within. c.loop-process.invariant log is k within (let below = process-below c.args.net.now log is (sym c.turns_made-made.ensures.stamps ∙ c.turns_made-made.ensures.turns) k within in omega (arith, below, c.loop-process-test.false, c.processes-process-end.ensures.count))))
