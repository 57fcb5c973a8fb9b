use Rattle.std.proofs.Common.{◌+◌, ℕ, List, Some, true, false, take, sym, ap, ◌∙◌}
use Rattle.std.proofs.lemmas.Bool.{false_from_ne_true}
use Rattle.std.proofs.lemmas.Str.{IsUtf8-from_is_utf8, is_utf8-from_IsUtf8}
use Rattle.flow_pattern.proofs.Calling.{unclosed, closed}
use Rattle.flow_pattern.proofs.calls.name_in_braces.Goals as goal

pub returns-in_default-clause-value : goal.returns-in_default-clause-value
returns-in_default-clause-value c =
    sym (unclosed c.args.inside.now (sym c.closing_brace.ensures.place ∙ c.in_default.is))

pub returns-in-Ok-clause-value : goal.returns-in-Ok-clause-value
returns-in-Ok-clause-value c =
    let len = c.in-Some.len in
    let name = take len c.args.inside.now in
    ap (λ (text : List ℕ). Some (text, len + 2)) c.in-Ok.ensures.cases.0
    ∙ sym (closed c.args.inside.now len (sym c.closing_brace.ensures.place ∙ c.in-Some.is) true (is_utf8-from_IsUtf8 name c.in-Ok.ensures.cases.1))

pub returns-in-Err-clause-value : goal.returns-in-Err-clause-value
returns-in-Err-clause-value c =
    let len = c.in-Some.len in
    let name = take len c.args.inside.now in
    let none = false_from_ne_true _ (λ is. c.in-Err.ensures.cases.0 (IsUtf8-from_is_utf8 name is)) in
    sym (closed c.args.inside.now len (sym c.closing_brace.ensures.place ∙ c.in-Some.is) false none)
