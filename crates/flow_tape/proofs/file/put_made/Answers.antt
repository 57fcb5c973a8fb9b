use Rattle.std.proofs.Common.{◌<◌, subst, ℕ, List}
use Rattle.std.specs.List.{AllByRecursion}
use Rattle.flow_tape.specs.Fields.{IsWhole, made_fields}
use Rattle.flow_tape.proofs.Loops.{whole-packet, on_ok}
use Rattle.flow_tape.proofs.file.put_made.Goals as goal

pub returns-in_ok-put_case-in-Some-clause-whole : goal.returns-in_ok-put_case-in-Some-clause-whole
returns-in_ok-put_case-in-Some-clause-whole c =
    let small : AllByRecursion (λ b. b < 256) c.in-Some.text = subst (λ (bytes : List ℕ). AllByRecursion (λ b. b < 256) bytes) c.as_slice.ensures c.put_text.ensures.whole in
    on_ok c.put_text.result (AllByRecursion IsWhole (made_fields c.args.made.now)) (whole-packet c.args.made.now c.in-Some.kind c.in-Some.text c.in-Some.is c.requires small)
