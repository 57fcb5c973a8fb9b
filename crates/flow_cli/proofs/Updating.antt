-- What a run came to where its network collates, and where it updates a master file by a detail file.
use Rattle.std.proofs.Common.{List, inl, inr, subst}
use Rattle.flow_model.specs.Plans.{start_of}
use Rattle.flow_model.specs.Schedules.{Prefix}
use Rattle.flow_model.specs.States.{State}
use Rattle.flow_journal.specs.Replays.{schedule_of}
use Rattle.flow_played.specs.Others.{others}
use Rattle.flow_load.specs.Causes.{Work}
use Rattle.flow_cli.specs.Meant.{LeavesMeaning}
use Rattle.flow_load.specs.Offers.{AnyKind, net_rules, specs_of}
use Rattle.flow_load.specs.Runs.{bytes_in}
use Rattle.flow_cli.specs.Updates.{CollatesEach, LeavesBooks}
use Rattle.flow_cli.proofs.Standards.{are-first, are-first-of, are-standard, standard-well}
use Rattle.flow_cli.proofs.TopLaws.{Laws}

-- Wherever a run of standard processes stood, its ended Collates had sent their collations.
pub collates-each : Laws → (w : Work) → CollatesEach w
collates-each laws w asked plan last middle run front mid prefix standard same =
    let are = are-standard (specs_of w.own) plan run.given w.recorded.tapes run.components standard run.are_components same in
    let well = standard-well laws (specs_of w.own) plan run.given standard run.ready.file.over are in
    let plain = laws.plain plan standard in
    let p = subst (λ (ks : List AnyKind). Prefix net_rules (start_of plan ks) (schedule_of w.recorded.journal) last front mid) same prefix in
    let stood = plain.only front mid p.first in
    let first = subst (λ (m : State AnyKind). Prefix net_rules (start_of plan (others standard)) (schedule_of w.recorded.journal) last front m) stood.1 p in
    (stood.0, stood.1, laws.collates plan standard front stood.0 well (are-first plan run.given standard are) ((plain.leads front stood.0).1 first.first))

-- A network that left what it means left its books.
pub leaves-books : Laws → (w : Work) → LeavesMeaning w → LeavesBooks w
leaves-books laws w (inl l) =
    let meant = l.2 in
    let plan = meant.whole.plan in
    let run = meant.whole.run in
    let wrote = bytes_in meant.whole.last in
    inl (
      l.0,
      l.1,
      record {
        meant = meant;
        books = λ none.
            let found = meant.composes none in
            let standard = found.0 in
            let first = are-first-of plan run.given standard (are-standard (specs_of w.own) plan run.given w.recorded.tapes run.components standard run.are_components found.1) in
            (standard, found.1, laws.books plan standard wrote first found.2, laws.sorting plan standard wrote first found.2);
      },
    )
leaves-books laws w (inr l) = inr l
