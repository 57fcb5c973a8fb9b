use Rattle.regex.proofs.ReplaceLemmas.{IfOk-weaker}
use Rattle.std.proofs.Common.{IfErr}
use Rattle.regex.specs.Names.{names_of}
use Rattle.flow_pattern.specs.Template.{IsTemplate}
use Rattle.flow_pattern.proofs.Spelling.{refused_so}
use Rattle.flow_pattern.proofs.template.template_parts.Goals as goal

pub returns-clause-refused : goal.returns-clause-refused
returns-clause-refused c =
    let pattern = c.args.pattern.now in
    let text = c.args.text.now in
    IfOk-weaker _ (λ read. IfErr read (λ _. IsTemplate pattern text → ⊥)) (λ read h. refused_so (names_of c.in_ok-names.names.items) pattern text c.in_ok-names.ensures.names read (rw c.as_slice.ensures.value at h)) c.parts_in.result c.parts_in.ensures.refused
