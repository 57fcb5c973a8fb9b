use Rattle.std.proofs.Common.{◌-◌, ◌<◌, ◌≤◌, true, false, length, map, sym, ◌∙◌, arith, string_bytes}
use Rattle.flow_drawn.proofs.Ends.{asked_so, gives_so, step, step_on}
use Rattle.flow_drawn.proofs.words.split.Goals as goal

pub returns-then-branch-clause-count : goal.returns-then-branch-clause-count
returns-then-branch-clause-count c =
    let asked = sym c.if-branch.true ∙ asked_so string_bytes c.args.words.now c.texts.n c.in_ok-asks.field-0 c.in_ok-asks.ensures in
    let some : 0 < c.texts.n = search in
    sym (c.texts.invariant.0 ∙ step (map string_bytes c.args.words.now) c.texts.n true some asked)

pub returns-then-not-gives_text-clause-count : goal.returns-then-not-gives_text-clause-count
returns-then-not-gives_text-clause-count c =
    let asked = sym c.if-branch.false ∙ asked_so string_bytes c.args.words.now c.texts.n c.in_ok-asks.field-0 c.in_ok-asks.ensures in
    let some : 0 < c.texts.n = search in
    let within = c.texts.invariant.1 in
    let below : c.texts.n - 1 < length c.args.words.now = omega (arith, some, within) in
    let gives = gives_so string_bytes c.args.words.now (c.texts.n - 1) c.index-words-n.result c.as_bytes.result.now c.gives_text.result below c.index-words-n.is c.as_bytes.ensures.value c.gives_text.ensures ∙ c.if-not-gives_text.true in
    sym (c.texts.invariant.0 ∙ step_on (map string_bytes c.args.words.now) c.texts.n false false some asked gives)

pub texts-preserved : goal.texts-preserved
texts-preserved c =
    let asked = sym c.if-branch.false ∙ asked_so string_bytes c.args.words.now c.texts.n c.in_ok-asks.field-0 c.in_ok-asks.ensures in
    let some : 0 < c.texts.n = search in
    let within = c.texts.invariant.1 in
    let below : c.texts.n - 1 < length c.args.words.now = omega (arith, some, within) in
    let gives = gives_so string_bytes c.args.words.now (c.texts.n - 1) c.index-words-n.result c.as_bytes.result.now c.gives_text.result below c.index-words-n.is c.as_bytes.ensures.value c.gives_text.ensures ∙ c.if-not-gives_text.false in
    let fewer : c.texts.n - 1 ≤ length c.args.words.now = omega (arith, some, within) in
    (c.texts.invariant.0 ∙ step_on (map string_bytes c.args.words.now) c.texts.n false true some asked gives, fewer)
