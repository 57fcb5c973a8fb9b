use Rattle.std.proofs.Common.{List, Some, ap, refl, subst, sym, ◌∙◌}
use Rattle.std.specs.Option.{IfSome, option_map}
use Rattle.std.specs.declared.option.Option.{Option}
use Rattle.flow_plan.specs.declared.kind.KindSpec.{KindSpec}
use Rattle.flow_words.specs.Words.{Check, IsWithinBounds, Judge, asked_by}
use Rattle.flow_words.specs.declared.asked.Command.{Command}
use Rattle.flow_words.specs.declared.asked.Command.TheVariants as commands
use Rattle.flow_load.specs.Prepare.{IsReadyAgain}
use Rattle.flow_load.proofs.Befores.{asks-as, on-file, offered-file}
use Rattle.flow_load.proofs.before.prepare.Goals as goal

pub returns-in-Run-clause-prepares : goal.returns-in-Run-clause-prepares
returns-in-Run-clause-prepares g c = λ own offered recorded empty.
    let run = c.in-Run in
    let some = c.in-Ok-Some.field-0-is ∙ ap Some run.is in
    c.in-Err-runnable.ensures.reads own offered c.args.words.now recorded (asks-as c.args.words.now _ (commands.Run run.asked) c.in-Ok-Some.ensures.words some) empty

pub returns-in-Ok-clause-prepares : goal.returns-in-Ok-clause-prepares
returns-in-Ok-clause-prepares g c = λ own offered.
    let run = c.in-Run in
    let some = c.in-Ok-Some.field-0-is ∙ ap Some run.is in
    record {
      asks = asks-as c.args.words.now _ (commands.Run run.asked) c.in-Ok-Some.ensures.words some;
      few = subst (λ (found : Option Command). IfSome found (λ command. IsWithinBounds (asked_by command))) some c.in-Ok-Some.ensures.bounds;
      ready = c.in-Ok.ensures.reads own offered;
    }

pub returns-in-Check-clause-prepares : goal.returns-in-Check-clause-prepares
returns-in-Check-clause-prepares g c = λ own offered recorded empty.
    let check = c.in-Check in
    let some = c.in-Ok-Some.field-0-is ∙ ap Some check.is in
    let asks = asks-as c.args.words.now _ (commands.Check check.name) c.in-Ok-Some.ensures.words some in
    c.in-Err-load.ensures c.args.words.now own recorded offered.kinds_are (on-file c.args.words.now (Check check.name.now) check.name.now refl asks) empty

pub returns-in-Judge-clause-prepares : goal.returns-in-Judge-clause-prepares
returns-in-Judge-clause-prepares g c = λ own offered recorded empty.
    let judge = c.in-Judge in
    let some = c.in-Ok-Some.field-0-is ∙ ap Some judge.is in
    let asks = asks-as c.args.words.now _ (commands.Judge judge.name) c.in-Ok-Some.ensures.words some in
    c.in-Err-load-2.ensures c.args.words.now own recorded offered.kinds_are (on-file c.args.words.now (Judge judge.name.now) judge.name.now refl asks) empty

pub returns-in-Replay-clause-prepares : goal.returns-in-Replay-clause-prepares
returns-in-Replay-clause-prepares g c = λ own offered recorded empty.
    let replay = c.in-Replay in
    let some = c.in-Ok-Some.field-0-is ∙ ap Some replay.is in
    c.in-Err-replayable.ensures c.args.words.now own recorded offered.kinds_are (asks-as c.args.words.now _ (commands.Replay replay.net replay.journal replay.tapes) c.in-Ok-Some.ensures.words some) empty

pub returns-in-Ok-load-clause-prepares : goal.returns-in-Ok-load-clause-prepares
returns-in-Ok-load-clause-prepares g c = λ own offered.
    let check = c.in-Check in
    let some = c.in-Ok-Some.field-0-is ∙ ap Some check.is in
    let asks = asks-as c.args.words.now _ (commands.Check check.name) c.in-Ok-Some.ensures.words some in
    let l = c.in-Ok-load.ensures in
    let file = c.in-Ok-load.file in
    (check.name.now, asks, (l.0, file.plan, l.1, offered-file c.args.kinds.now own offered.kinds_are (g.F.Edge.outside c.args.shelf.now).files check.name.now l.0 file.text file.plan l.2))

pub returns-in-Ok-load-2-clause-prepares : goal.returns-in-Ok-load-2-clause-prepares
returns-in-Ok-load-2-clause-prepares g c = λ own offered.
    let judge = c.in-Judge in
    let some = c.in-Ok-Some.field-0-is ∙ ap Some judge.is in
    let asks = asks-as c.args.words.now _ (commands.Judge judge.name) c.in-Ok-Some.ensures.words some in
    let l = c.in-Ok-load-2.ensures in
    let file = c.in-Ok-load-2.file in
    (judge.name.now, asks, (l.0, file.text, l.1, offered-file c.args.kinds.now own offered.kinds_are (g.F.Edge.outside c.args.shelf.now).files judge.name.now l.0 file.text file.plan l.2))

pub returns-in-Ok-replayable-clause-prepares : goal.returns-in-Ok-replayable-clause-prepares
returns-in-Ok-replayable-clause-prepares g c = λ own offered.
    let replay = c.in-Replay in
    let some = c.in-Ok-Some.field-0-is ∙ ap Some replay.is in
    let asks = asks-as c.args.words.now _ (commands.Replay replay.net replay.journal replay.tapes) c.in-Ok-Some.ensures.words some in
    let named = option_map (λ s. s.now) replay.tapes in (
      replay.net.now,
      replay.journal.now,
      named,
      asks,
      subst (λ (k : List KindSpec).
          IsReadyAgain k (g.F.Edge.outside c.args.shelf.now) (g.F.Edge.outside c.replayable.new.shelf) replay.net.now replay.journal.now named c.in-Ok-replayable.again) (sym offered.kinds_are) c.in-Ok-replayable.ensures,
    )
