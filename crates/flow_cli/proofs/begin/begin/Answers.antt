use Rattle.std.proofs.Common.{◌≡◌, List, Ok, subst, sym}
use Rattle.flow_plan.specs.declared.kind.KindSpec.{KindSpec}
use Rattle.flow_words.specs.Words.{Check, Judge, Page, Replay, run_by}
use Rattle.flow_load.specs.Offers.{AnyKind}
use Rattle.flow_load.specs.Prepare.{Prepares}
use Rattle.flow_load.specs.declared.before.Task.{Task}
use Rattle.flow_cli.specs.Top.{page_text}
use Rattle.flow_cli.proofs.Beginnings.{again-components, again-offered, begins-make, begins-run, run-live, run-offered, some-offer}
use Rattle.flow_cli.proofs.Manned.{as-asked, by-none}
use Rattle.flow_cli.proofs.Performing.{again-stopped, says-again, says-checked, says-judged, says-page, wants-memory}
use Rattle.flow_load.proofs.Steps.{may-read}
use Rattle.flow_cli.proofs.begin.begin.Goals as goal

pub start-requires-clause-offered : goal.start-requires-clause-offered
start-requires-clause-offered g c =
    let o = g.F.Edge.outside c.args.shelf.now in
    let a = g.F.Edge.outside c.prepare.new.shelf in
    let offer = some-offer c.args.kinds.now c.args.parts.items c.requires.parts in
    let own = offer.0 in
    let offered = offer.1 in
    let asks = subst (λ (t : Task AnyKind). Prepares own o a c.args.words.now (Ok t)) c.in-Run.is (c.in-Ok.ensures.prepares own offered) in
    run-offered own c.args.kinds.now o a c.args.words.now c.in-Run.job (run_by c.in-Run.asked) offered.kinds_are asks

pub start-requires-clause-live : goal.start-requires-clause-live
start-requires-clause-live g c =
    let o = g.F.Edge.outside c.args.shelf.now in
    let a = g.F.Edge.outside c.prepare.new.shelf in
    let offer = some-offer c.args.kinds.now c.args.parts.items c.requires.parts in
    let own = offer.0 in
    let offered = offer.1 in
    let asks = subst (λ (t : Task AnyKind). Prepares own o a c.args.words.now (Ok t)) c.in-Run.is (c.in-Ok.ensures.prepares own offered) in
    run-live own c.args.kinds.now o a c.args.words.now c.in-Run.job (run_by c.in-Run.asked) offered.kinds_are asks

pub returns-in-Ok-start : goal.returns-in-Ok-start
returns-in-Ok-start g c = λ own offered.
    let o = g.F.Edge.outside c.args.shelf.now in
    let a = g.F.Edge.outside c.prepare.new.shelf in
    let asks = subst (λ (t : Task AnyKind). Prepares own o a c.args.words.now (Ok t)) c.in-Run.is (c.in-Ok.ensures.prepares own offered) in
    begins-run own o a c.args.words.now c.in-Run.job c.in-Run.asked c.in-Ok-start.running c.in-Ok-start.net asks c.in-Ok-start.ensures.plan c.in-Ok-start.ensures.goal c.in-Ok-start.ensures.starts

pub returns-in-Run : goal.returns-in-Run
returns-in-Run g c = λ own offered recorded empty.
    let o = g.F.Edge.outside c.args.shelf.now in
    let a = g.F.Edge.outside c.prepare.new.shelf in
    let asks = subst (λ (t : Task AnyKind). Prepares own o a c.args.words.now (Ok t)) c.in-Run.is (c.in-Ok.ensures.prepares own offered) in
    wants-memory o a c.args.words.now own recorded (may-read o a _ asks.ready.ready.reads) empty

pub start_made-requires-clause-least : goal.start_made-requires-clause-least
start_made-requires-clause-least g c =
    let o = g.F.Edge.outside c.args.shelf.now in
    let a = g.F.Edge.outside c.prepare.new.shelf in
    let offer = some-offer c.args.kinds.now c.args.parts.items c.requires.parts in
    let own = offer.0 in
    let offered = offer.1 in
    let asks = subst (λ (t : Task AnyKind). Prepares own o a c.args.words.now (Ok t)) c.in-Make.is (c.in-Ok.ensures.prepares own offered) in
    asks.least

pub start_made-requires-clause-most : goal.start_made-requires-clause-most
start_made-requires-clause-most g c =
    let o = g.F.Edge.outside c.args.shelf.now in
    let a = g.F.Edge.outside c.prepare.new.shelf in
    let offer = some-offer c.args.kinds.now c.args.parts.items c.requires.parts in
    let own = offer.0 in
    let offered = offer.1 in
    let asks = subst (λ (t : Task AnyKind). Prepares own o a c.args.words.now (Ok t)) c.in-Make.is (c.in-Ok.ensures.prepares own offered) in
    asks.most

pub returns-in-Ok-start_made : goal.returns-in-Ok-start_made
returns-in-Ok-start_made g c = λ own offered.
    let o = g.F.Edge.outside c.args.shelf.now in
    let a = g.F.Edge.outside c.prepare.new.shelf in
    let asks = subst (λ (t : Task AnyKind). Prepares own o a c.args.words.now (Ok t)) c.in-Make.is (c.in-Ok.ensures.prepares own offered) in
    begins-make own o a c.args.words.now c.in-Make.number c.in-Make.workers c.in-Ok-start_made.running c.in-Ok-start_made.net asks c.in-Ok-start_made.ensures

pub returns-in-Ok-spelling : goal.returns-in-Ok-spelling
returns-in-Ok-spelling g c = λ own offered.
    let o = g.F.Edge.outside c.args.shelf.now in
    let a = g.F.Edge.outside c.prepare.new.shelf in
    let ready = subst (λ (t : Task AnyKind). Prepares own o a c.args.words.now (Ok t)) c.in-Check.is (c.in-Ok.ensures.prepares own offered) in
    let said = c.in-Ok-spelling.ensures in (
      says-checked o a c.args.words.now own ready.0 ready.2.0 c.in-Check.text ready.2.1 c.in-Ok-spelling.said ready.1 ready.2.2 ready.2.3 said.text said.status said.nothing,
      as-asked c.args.words.now (Check ready.0) c.in-Ok-spelling.said.crew c.in-Ok-spelling.said.journal ready.1 (by-none c.in-Ok-spelling.said.crew c.in-Ok-spelling.said.journal said.crew),
    )

pub returns-in-Ok-judgement : goal.returns-in-Ok-judgement
returns-in-Ok-judgement g c = λ own offered.
    let o = g.F.Edge.outside c.args.shelf.now in
    let a = g.F.Edge.outside c.prepare.new.shelf in
    let ready = subst (λ (t : Task AnyKind). Prepares own o a c.args.words.now (Ok t)) c.in-Judge.is (c.in-Ok.ensures.prepares own offered) in
    let said = c.in-Ok-judgement.ensures in (
      says-judged o a c.args.words.now own ready.0 ready.2.0 ready.2.1 c.in-Judge.plan c.in-Ok-judgement.said ready.1 ready.2.2 ready.2.3 said.text said.status said.nothing,
      as-asked c.args.words.now (Judge ready.0) c.in-Ok-judgement.said.crew c.in-Ok-judgement.said.journal ready.1 (by-none c.in-Ok-judgement.said.crew c.in-Ok-judgement.said.journal said.crew),
    )

pub returns-in-Ok-page : goal.returns-in-Ok-page
returns-in-Ok-page g c = λ own offered.
    let o = g.F.Edge.outside c.args.shelf.now in
    let a = g.F.Edge.outside c.prepare.new.shelf in
    let ready = subst (λ (t : Task AnyKind). Prepares own o a c.args.words.now (Ok t)) c.in-Page.is (c.in-Ok.ensures.prepares own offered) in
    let said = c.in-Ok-page.ensures in
    let text = subst (λ (ks : List KindSpec). c.in-Ok-page.said.text.items ≡ page_text ks c.in-Page.asked) (sym offered.kinds_are) said.text in (
      says-page o a c.args.words.now own c.in-Page.asked c.in-Ok-page.said ready.0 ready.1 text said.status said.nothing,
      as-asked c.args.words.now (Page c.in-Page.asked) c.in-Ok-page.said.crew c.in-Ok-page.said.journal ready.0 (by-none c.in-Ok-page.said.crew c.in-Ok-page.said.journal said.crew),
    )

pub run_again-requires-clause-offered : goal.run_again-requires-clause-offered
run_again-requires-clause-offered g c =
    let o = g.F.Edge.outside c.args.shelf.now in
    let a = g.F.Edge.outside c.prepare.new.shelf in
    let offer = some-offer c.args.kinds.now c.args.parts.items c.requires.parts in
    let own = offer.0 in
    let offered = offer.1 in
    let ready = subst (λ (t : Task AnyKind). Prepares own o a c.args.words.now (Ok t)) c.in-Replay.is (c.in-Ok.ensures.prepares own offered) in
    again-offered own c.args.kinds.now o a ready.0 ready.1 ready.2 c.in-Replay.again offered.kinds_are ready.4

pub run_again-requires-clause-components : goal.run_again-requires-clause-components
run_again-requires-clause-components g c =
    let o = g.F.Edge.outside c.args.shelf.now in
    let a = g.F.Edge.outside c.prepare.new.shelf in
    let offer = some-offer c.args.kinds.now c.args.parts.items c.requires.parts in
    let own = offer.0 in
    let offered = offer.1 in
    let ready = subst (λ (t : Task AnyKind). Prepares own o a c.args.words.now (Ok t)) c.in-Replay.is (c.in-Ok.ensures.prepares own offered) in
    again-components own c.args.kinds.now o a ready.0 ready.1 ready.2 c.in-Replay.again offered.kinds_are ready.4

pub run_again-requires-clause-writable : goal.run_again-requires-clause-writable
run_again-requires-clause-writable g c =
    let o = g.F.Edge.outside c.args.shelf.now in
    let a = g.F.Edge.outside c.prepare.new.shelf in
    let offer = some-offer c.args.kinds.now c.args.parts.items c.requires.parts in
    let own = offer.0 in
    let offered = offer.1 in
    let ready = subst (λ (t : Task AnyKind). Prepares own o a c.args.words.now (Ok t)) c.in-Replay.is (c.in-Ok.ensures.prepares own offered) in
    ready.4.is_journal.is.writable

pub returns-in-Ok-run_again : goal.returns-in-Ok-run_again
returns-in-Ok-run_again g c = λ own offered.
    let o = g.F.Edge.outside c.args.shelf.now in
    let a = g.F.Edge.outside c.prepare.new.shelf in
    let ready = subst (λ (t : Task AnyKind). Prepares own o a c.args.words.now (Ok t)) c.in-Replay.is (c.in-Ok.ensures.prepares own offered) in
    let said = c.in-Ok-run_again.said in (
      says-again o a c.args.words.now own ready.0 ready.1 ready.2 c.in-Replay.again ready.3 ready.4 said c.in-Ok-run_again.ensures,
      as-asked c.args.words.now (Replay ready.0 ready.1 ready.2) said.crew said.journal ready.3 (by-none said.crew said.journal c.in-Ok-run_again.ensures.5),
    )

pub returns : goal.returns
returns g c = λ own offered.
    let o = g.F.Edge.outside c.args.shelf.now in
    let a = g.F.Edge.outside c.prepare.new.shelf in
    let ready = subst (λ (t : Task AnyKind). Prepares own o a c.args.words.now (Ok t)) c.in-Replay.is (c.in-Ok.ensures.prepares own offered) in
    again-stopped o a c.args.words.now own ready.0 ready.1 ready.2 c.in-Replay.again ready.3 ready.4 c.in-Err-run_again.stop c.in-Err-run_again.ensures
