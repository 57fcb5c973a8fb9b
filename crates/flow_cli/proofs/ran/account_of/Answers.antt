use Rattle.std.proofs.Common.{◌≤◌, length, ap, arith}
use Rattle.std.proofs.lemmas.List.{length-map}
use Rattle.flow_limits.specs.declared.TheConstants.{RUN_LIMIT}
use Rattle.flow_cli.proofs.ran.account_of.Goals as goal

pub returns-clause-journal : goal.returns-clause-journal
returns-clause-journal g c =
    let made = c.turns_made-turns.ensures in
    let journal = c.in_ok-merge.field-0 in
    let named = ap length (c.in_ok-merge.ensures.turns made.log.0 made.log.1) in
    let counted = length-map made.log.0 (λ turn. turn.process) in
    let total = made.log.1.total in
    let few : length journal.turns ≤ RUN_LIMIT = omega (arith, named, counted, total, made.turns, made.few) in
    record { turns = c.in_ok-merge.ensures.turns; seen = c.in_ok-merge.ensures.seen; few = few }
