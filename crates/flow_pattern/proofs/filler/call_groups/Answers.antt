use Rattle.std.proofs.Common.{◌≡◌, rules, tests, arith}
use Rattle.std.proofs.lemmas.Iterator.{cases_from_any, YieldsList-from_slice}
use Rattle.flow_pattern.specs.Template.{part_text}
use Rattle.flow_pattern.specs.declared.template.Part.{Part}
use Rattle.flow_pattern.proofs.Parts.{parts_alike}
use Rattle.flow_pattern.proofs.filler.call_groups.Goals as goal

pub returns : goal.returns
returns c still held other same =
    let alone : Part → Type 0 = λ part. part_text held part ≡ part_text other part in
    let each = cases_from_any _ _ _ (λ (part : Part). Unit {0}) alone c.any.ensures.ran (YieldsList-from_slice c.args.parts.now cc) (λ x q k. tt) (λ x q k. search (rules, tests)) in
    parts_alike held other c.args.parts.now (λ k d inside. (rw still at each) k d (omega arith) inside)
