use Rattle.std.proofs.Common.{ℕ, List, Some, sym, ap, ◌∙◌}
use Rattle.flow_pattern.proofs.Calling.{no_name, some_name, name_text}
use Rattle.flow_pattern.proofs.calls.bare_name.Goals as goal

pub returns-then-len-eq0-clause-value : goal.returns-then-len-eq0-clause-value
returns-then-len-eq0-clause-value c =
    sym (no_name c.args.rest.now c.requires.bare c.bare_len-len.result c.bare_len-len.ensures c.if-len-eq0.true)

pub unreachable-requires : goal.unreachable-requires
unreachable-requires c =
    c.in-Err.ensures.cases.0 (name_text c.args.rest.now c.requires.bare c.bare_len-len.result c.bare_len-len.ensures)

pub returns-clause-value : goal.returns-clause-value
returns-clause-value c =
    let len = c.bare_len-len.result in
    ap (λ (name : List ℕ). Some (name, len)) c.in-Ok.ensures.cases.0 ∙ sym (some_name c.args.rest.now c.requires.bare len c.bare_len-len.ensures c.if-len-eq0.false)
