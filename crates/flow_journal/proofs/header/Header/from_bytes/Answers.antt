use Rattle.std.proofs.Common.{rules, arith}
use Rattle.flow_journal.specs.Files.{BeginsWithName}
use Rattle.flow_journal.proofs.FileLemmas.{AreBytes}
use Rattle.flow_journal.proofs.HeaderLemmas.{header-fault, header-taken, many-seen-fault, many-turns-fault}
use Rattle.flow_journal.proofs.header.Header.from_bytes.Goals as goal

pub returns-clause-header : goal.returns-clause-header
returns-clause-header c =
    let small : AreBytes c.args.bytes.now = search rules in
    let turns = c.in_ok-turns.ensures.number in
    let seen = c.in_ok-seen.ensures.number in
    header-taken c.args.bytes.now c.in_ok-turns.field-0 c.in_ok-seen.field-0 small
    (record {
      turns = record { begins = search rules; whole = omega (arith, turns.1); few = omega (arith, turns.0) };
      whole = omega (arith, seen.1);
      few = omega (arith, turns.0, seen.0);
    }) turns.0 seen.0

pub invariant_of-result : goal.invariant_of-result
invariant_of-result c = record { few = omega arith; fewer = omega arith }

pub returns-in-Some-clause-fault : goal.returns-in-Some-clause-fault
returns-in-Some-clause-fault c = search (rules, header-fault)

pub returns-in_err-turns-clause-fault : goal.returns-in_err-turns-clause-fault
returns-in_err-turns-clause-fault c = search (rules, header-fault)

pub returns-then-turns-gt-RUN_LIMIT-clause-fault : goal.returns-then-turns-gt-RUN_LIMIT-clause-fault
returns-then-turns-gt-RUN_LIMIT-clause-fault c =
    let begins : BeginsWithName c.args.bytes.now = search rules in
    let turns = c.in_ok-turns.ensures.number in
    many-turns-fault c.args.bytes.now c.in_ok-turns.field-0 _ begins turns.0 turns.1 (omega arith) (omega arith)

pub returns-in_err-seen-clause-fault : goal.returns-in_err-seen-clause-fault
returns-in_err-seen-clause-fault c = search (rules, header-fault)

pub returns-then-seen-turns-clause-fault : goal.returns-then-seen-turns-clause-fault
returns-then-seen-turns-clause-fault c =
    let begins : BeginsWithName c.args.bytes.now = search rules in
    let turns = c.in_ok-turns.ensures.number in
    let seen = c.in_ok-seen.ensures.number in
    many-seen-fault c.args.bytes.now c.in_ok-turns.field-0 c.in_ok-seen.field-0 _ begins turns.0 (omega arith) seen.0 seen.1 (omega arith) (omega arith)
