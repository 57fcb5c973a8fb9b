use Rattle.flow_words.specs.Words.{run_by}
use Rattle.flow_cli.proofs.Overs.{journal-writable, run-ends, tapes-writable}
use Rattle.flow_cli.proofs.over.run_over.Goals as goal

pub told-requires : goal.told-requires
told-requires g c = c.requires.4.ready.file.over

pub unwritten-requires-clause-journal : goal.unwritten-requires-clause-journal
unwritten-requires-clause-journal g c = journal-writable c.args.own.now c.args.plan (run_by c.args.asked) c.args.worked c.in_ok-ran.ran c.requires c.in_ok-ran.ensures.leaves

pub unwritten-requires-clause-tapes : goal.unwritten-requires-clause-tapes
unwritten-requires-clause-tapes g c = tapes-writable c.args.own.now c.args.plan (run_by c.args.asked) c.args.worked c.in_ok-ran.ran c.requires c.in_ok-ran.ensures.leaves

pub returns : goal.returns
returns g c =
    run-ends c.args.own.now c.args.plan (run_by c.args.asked) c.args.worked c.in_ok-ran.ran c.unwritten.result c.in_ok-ran.ensures.plan c.in_ok-ran.ensures.leaves c.unwritten.ensures.ran c.unwritten.ensures.journal
    c.unwritten.ensures.tapes c.unwritten.ensures.telling
