-- A run of a determinate plan ends as on one thread.
use Rattle.std.proofs.Common.{List, inl, inr, sym, subst}
use Rattle.flow_model.specs.Plans.{start_of}
use Rattle.flow_model.specs.Robin.{RoundRobin}
use Rattle.flow_model.specs.Schedules.{Journal}
use Rattle.flow_model.specs.States.{State}
use Rattle.flow_determinate.specs.Standard.{IsDeterminate}
use Rattle.flow_journal.specs.Replays.{schedule_of}
use Rattle.flow_journal.specs.Runs.{IsRun}
use Rattle.flow_played.specs.Others.{others}
use Rattle.flow_cli.specs.Alone.{ComesToEndAsAlone}
use Rattle.flow_load.specs.Offers.{AnyKind, net_rules, specs_of}
use Rattle.flow_cli.specs.Top.{Call, ComesToEnd}
use Rattle.flow_cli.proofs.Standards.{are-first-of, are-standard, determinate-standard, standard-ones, standard-well}
use Rattle.flow_cli.proofs.TopLaws.{Laws}

-- With the laws of plans, of one outcome and of one report, a call that came to its end did so as on one thread.
pub alone : Laws → (c : Call) → ComesToEnd c → ComesToEndAsAlone c
alone laws c (inr says) = inr says
alone laws c (inl (asked, asks, ends)) = inl (
  asked,
  asks,
  record {
    ends = ends;
    one_report = λ report tells. laws.one_report ends.whole.last ends.whole.plan report ends.report tells ends.whole.tells;
    alone = robin;
  },
) where
  robin : IsDeterminate ends.whole.plan → (robin : Journal) × RoundRobin net_rules (start_of ends.whole.plan ends.whole.run.components) robin ends.whole.last
  robin determinate =
      let own = specs_of c.work.own in
      let run = ends.whole.run in
      let last = ends.whole.last in
      let journal = schedule_of c.work.recorded.journal in
      let none = determinate-standard laws own ends.whole.plan run.ready.file.over determinate in
      let found = standard-ones laws own ends.whole.plan run.given c.work.recorded.tapes run.components run.ready.file.over none run.are_components in
      let standard = found.0 in
      let are = are-standard own ends.whole.plan run.given c.work.recorded.tapes run.components standard run.are_components found.1 in
      let well = standard-well laws own ends.whole.plan run.given standard run.ready.file.over are in
      let plain = laws.plain ends.whole.plan standard in
      let ran = subst (λ (ks : List AnyKind). IsRun net_rules asked.workers ends.whole.plan ks journal last) found.1 run.run in
      let stood = plain.only journal last ran.schedule.leads in
      let at_end = subst (λ (s : State AnyKind). IsRun net_rules asked.workers ends.whole.plan (others standard) journal s) stood.1 ran in
      let as_std = (plain.runs asked.workers journal stood.0).1 at_end in
      let law = laws.determinate ends.whole.plan standard determinate well (are-first-of ends.whole.plan run.given standard are) journal stood.0 as_std.schedule.leads as_std.quiet.still in
      let back = (plain.robins law.0 stood.0).0 law.1 in
      (law.0, subst (λ (ks : List AnyKind). RoundRobin net_rules (start_of ends.whole.plan ks) law.0 last) (sym found.1) (subst (λ (s : State AnyKind). RoundRobin net_rules (start_of ends.whole.plan (others standard)) law.0 s) (sym stood.1) back))
