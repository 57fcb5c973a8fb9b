use Rattle.std.proofs.Common.{◌+◌, ◌∙◌, ap, sym, subst, Some, arith}
use Rattle.flow_limits.specs.declared.TheConstants.{WORKER_LIMIT}
use Rattle.flow_text.specs.Text.{number_of}
use Rattle.flow_words.proofs.Numbers.{IsSpelled, spelled, not-spelled}
use Rattle.flow_words.proofs.words.spelled_workers.Goals as goal

pub returns-in-Some-clause-number : goal.returns-in-Some-clause-number
returns-in-Some-clause-number c =
    let same = c.as_bytes.ensures.value in
    let given = c.in-Some.ensures.0 in
    let least = given.1 in
    let most = given.2 in
    let is : IsSpelled 0 (WORKER_LIMIT + 1) c.as_bytes.result.now = (given.0, omega (arith, least), omega (arith, most)) in
    ap Some (c.in-Some.ensures.1 ∙ ap number_of same) ∙ sym (spelled 0 (WORKER_LIMIT + 1) c.args.word.now (omega arith) (subst (IsSpelled 0 (WORKER_LIMIT + 1)) same is))

pub returns-in-None-clause-number : goal.returns-in-None-clause-number
returns-in-None-clause-number c =
    let same = c.as_bytes.ensures.value in
    sym (not-spelled 0 (WORKER_LIMIT + 1) c.args.word.now (omega arith) (λ (spells : IsSpelled 0 (WORKER_LIMIT + 1) c.args.word.now).
    let is : IsSpelled 0 (WORKER_LIMIT + 1) c.as_bytes.result.now = subst (IsSpelled 0 (WORKER_LIMIT + 1)) (sym same) spells in
    let least = is.1 in
    let most = is.2 in
    c.in-None.ensures (is.0, omega (arith, least), omega (arith, most))))
