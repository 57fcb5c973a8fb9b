use Rattle.std.proofs.Common.{rules, ◌≡◌, ◌∙◌, ◌*◌, length, take, drop, ap, sym, subst, arith, length-drop}
use Rattle.std.specs.Prelude.{All, ◌<◌, ◌^◌}
use Rattle.flow_journal.specs.Files.{body_length, numbers_written}
use Rattle.flow_journal.proofs.HeaderLemmas.{file-of-body, ends-fault, goes-on-fault}
use Rattle.flow_journal.proofs.merge.Journal.from_body.Goals as goal

pub returns-clause-file : goal.returns-clause-file
returns-clause-file c =
    let header = c.args.header.now in
    let whole : length c.args.body.now ≡ body_length header.turns header.seen = omega arith in
    let turns : c.split_at.result.0.now ≡ take header.turns c.args.body.now = search rules in
    let seen : c.split_at.result.1.now ≡ drop header.turns c.args.body.now = search rules in
    let count : length c.split_at.result.1.now ≡ 2 * header.seen = omega (arith, whole, ap length seen, length-drop header.turns c.args.body.now) in
    let read = c.in_ok-numbers_of.ensures.written header.seen count in
    file-of-body header.turns header.seen c.args.body.now c.of.result c.of-2.result header.few header.fewer whole (c.of.ensures ∙ c.in_ok-from_slice.ensures.items ∙ turns) (ap numbers_written c.of-2.ensures ∙ read.0 ∙ seen) (ap length c.of-2.ensures ∙ read.1)
    (subst (All (λ n. n < 2 ^ 16)) (sym c.of-2.ensures) c.in_ok-numbers_of.ensures.small)

pub returns-then-body-length-clause-fault : goal.returns-then-body-length-clause-fault
returns-then-body-length-clause-fault c = search (rules, ends-fault)

pub returns-then-length-body-clause-fault : goal.returns-then-length-body-clause-fault
returns-then-length-body-clause-fault c = search (rules, goes-on-fault)
