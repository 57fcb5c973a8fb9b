use Rattle.std.proofs.Common.{rules, ◌∙◌, ◌++◌, ℕ, List, ap, sym, subst, arith, ◌<◌, ◌^◌}
use Rattle.std.specs.Prelude.{All}
use Rattle.std.proofs.lemmas.List.Elements.{All-push}
use Rattle.flow_journal.specs.Files.{numbers_written}
use Rattle.flow_journal.proofs.FileLemmas.{AreBytes, numbers-read, numbers-done}
use Rattle.flow_journal.proofs.parse.numbers_of.Goals as goal

pub loop-number-preserved : goal.loop-number-preserved
loop-number-preserved c =
    let small : AreBytes c.args.bytes.now = search rules in
    let cut = c.in-Some.ensures.cases in
    let n : ℕ = c.from_le_bytes.result in
    let less : n < 2 ^ 16 = search rules in
    let few = All-push (λ n. n < 2 ^ 16) c.loop-number.numbers.items n c.loop-number.invariant.1 less in (
      ap (λ (ns : List ℕ). numbers_written ns ++ c.in-Some.after.now) c.in_ok-push.ensures.items
          ∙ numbers-read c.loop-number.numbers.items c.loop-number.rest.now c.args.bytes.now c.in-Some.number.now c.in-Some.after.now c.from_le_bytes.result small c.loop-number.invariant.0 (omega (arith, cut.2)) cut.0 cut.1 c.from_le_bytes.ensures,
      subst (All (λ n. n < 2 ^ 16)) (sym c.in_ok-push.ensures.items) few,
    )

pub returns-clause-written : goal.returns-clause-written
returns-clause-written c = λ count even. numbers-done c.loop-number.numbers.items c.loop-number.rest.now c.args.bytes.now count c.loop-number.invariant.0 c.in_default.ensures.cases even

pub returns-clause-small : goal.returns-clause-small
returns-clause-small c = c.loop-number.invariant.1
