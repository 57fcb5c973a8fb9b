-- The files of a run that finished are what its network means.
use Rattle.std.proofs.Common.{◌≡◌, refl, sym, ap, inl, inr, ℕ, List, [], ◌∙◌, subst}
use Rattle.std.specs.Prelude.{String, Option, Some, None, slice_get, unwrap_or, option_and_then}
use Rattle.std.specs.Option.{option_map}
use Rattle.std.specs.declared.alloc.Global.{Global}
use Rattle.flow_text.specs.Edge.{Outside}
use Rattle.flow_plan.specs.Network.{Network}
use Rattle.flow_own.specs.Mixed.{Other}
use Rattle.flow_catalogue.specs.declared.standard.Std.{Std}
use Rattle.flow_catalogue.specs.Std.{written_of}
use Rattle.flow_model.specs.Plans.{input_at, start_of, sends_at}
use Rattle.flow_model.specs.Replaced.{with_component}
use Rattle.flow_model.specs.Schedules.{Leads}
use Rattle.flow_model.specs.States.{Process, State}
use Rattle.flow_model.specs.Verdicts.{IsFinished}
use Rattle.flow_report.specs.declared.report.Verdict.{Verdict}
use Rattle.flow_report.specs.declared.report.Verdict.TheVariants.{Finished, FinishedLeft, Deadlock, Failed, Running}
use Rattle.flow_report.specs.States.{IsVerdict}
use Rattle.flow_meanings.specs.Composition.{Composes, activated, arriving, inputs_of, leaving, wrote_in}
use Rattle.flow_meanings.specs.Means.{Means}
use Rattle.flow_journal.specs.Replays.{schedule_of}
use Rattle.flow_offer.specs.Processes.{own_processes}
use Rattle.flow_played.specs.Others.{others, as_mixed}
use Rattle.flow_words.specs.Words.{report_by}
use Rattle.flow_cli.specs.Live.{AnyNet}
use Rattle.flow_cli.specs.After.{Outputs, verdict_status}
use Rattle.flow_load.specs.Many.{WritesAll}
use Rattle.flow_cli.specs.Meant.{LeavesMeaning}
use Rattle.flow_load.specs.Offers.{AnyKind, Offer, net_rules, specs_of}
use Rattle.flow_load.specs.Prepare.{so_far}
use Rattle.flow_load.specs.Runs.{bytes_in, written_in}
use Rattle.flow_load.specs.Statuses.{IsFinished as IsFinishedStatus, IsOver}
use Rattle.flow_cli.specs.Top.{HasRun, Finishes, PrintsReport, outputs_of_run, recorded_by}
use Rattle.flow_cli.specs.declared.run.Unwritten.{Unwritten}
use Rattle.flow_load.specs.declared.status.Status.{Status}
use Rattle.flow_load.specs.declared.status.Status.TheVariants as statuses
use Rattle.flow_load.proofs.Fitting.{components-fit}
use Rattle.flow_cli.proofs.Runs.{run-of, whole-run}
use Rattle.flow_cli.proofs.Standards.{are-first, are-standard, standard-ones, standard-well}
use Rattle.flow_cli.proofs.TopLaws.{Laws}
use Rattle.flow_cli.proofs.Tops.{stop-not-over}

finished-of : (s : State AnyKind) (verdict : Verdict) → IsVerdict s verdict → IsFinishedStatus (verdict_status verdict) → IsFinished s
finished-of s Finished is e = is.0
finished-of s FinishedLeft is e = is.0
finished-of s Deadlock is e = absurd e
finished-of s Failed is e = absurd e
finished-of s Running is e = absurd e

-- A status of a finished run is that of a run that is over.
pub finished-over : (status : Status) → IsFinishedStatus status → IsOver status
finished-over statuses.Finished is = is
finished-over statuses.FinishedLeft is = is
finished-over statuses.Words is = absurd is
finished-over statuses.Refused is = absurd is
finished-over statuses.JournalRefused is = absurd is
finished-over statuses.Deadlock is = absurd is
finished-over statuses.Failed is = absurd is
finished-over statuses.ReadFault is = absurd is
finished-over statuses.WriteFault is = absurd is
finished-over statuses.NoMemory is = absurd is
finished-over statuses.TooLong is = absurd is
finished-over statuses.Running is = absurd is
finished-over statuses.TapesRefused is = absurd is

-- what a network means stays so where the same bytes are told otherwise
composes-same : (plan : Network) (standard : List Std) (wrote told : ℕ → List ℕ) → ((p : ℕ) → told p ≡ wrote p) → Composes plan standard wrote → Composes plan standard told
composes-same plan standard wrote told same c = record {
  one_each = c.one_each;
  first = c.first;
  on = c.on;
  senders = c.senders;
  own = c.own;
  each = λ p x component there at.
      subst (λ (bytes : List ℕ). Means component bytes (λ i. arriving c.on (activated component c.on (inputs_of plan p x)) (input_at plan p x i)) (λ o. leaving c.on (record { process = p; output = o }) (sends_at plan p o)))
      (sym (same p)) (c.each p x component there at);
  others = λ p component at none. same p ∙ c.others p component at none;
}

-- the bytes of a standard process are those of its component
bytes-standard : Laws → (s : State Std) (p : ℕ) → bytes_in (as_mixed s) p ≡ wrote_in s p
bytes-standard laws s p = ap (λ (found : Option (Process AnyKind)). unwrap_or (option_and_then (λ (x : Process AnyKind). written_in x.component) found) []) (laws.in_place s p) ∙ at (slice_get s.kept.processes p)
  where
    at : (found : Option (Process Std)) → unwrap_or (option_and_then (λ (x : Process AnyKind). written_in x.component) (option_map (λ (x : Process Std). with_component x (Other x.component)) found)) []
        ≡ unwrap_or (option_and_then (λ (x : Process Std). written_of x.component) found) []
    at None = refl
    at (Some x) = refl

-- a state of standard components is finished where it is as one of any
finished-standard : Laws → (s : State Std) → IsFinished (as_mixed s) → IsFinished s
finished-standard laws s ended = λ p x there.
    ended p (with_component x (Other x.component)) (laws.in_place s p ∙ ap (option_map (λ (x : Process Std). with_component x (Other x.component))) there)

-- with the laws of plans and of meanings, a run that finished left what its network means
module _ (laws : Laws) (words : List (String Global)) (own : List Offer) (o a n : Outside) (po pn : Outputs) (run : Unwritten AnyNet) (status : Status) (has : HasRun (specs_of own) o a words run) where
  composed : IsFinished has.leaves.last → own_processes (specs_of own) run.ran.plan ≡ [] → (standard : List Std) × (has.leaves.components ≡ others standard) × Composes run.ran.plan standard (bytes_in has.leaves.last)
  composed ends none =
      let kinds = specs_of own in
      let plan = run.ran.plan in
      let last = has.leaves.last in
      let offered = has.ready.file.over in
      let found = standard-ones laws kinds plan has.given run.ran.tapes.items has.leaves.components offered none has.leaves.are_components in
      let standard = found.0 in
      let are = are-standard kinds plan has.given run.ran.tapes.items has.leaves.components standard has.leaves.are_components found.1 in
      let well = standard-well laws kinds plan has.given standard offered are in
      let plain = laws.plain plan standard in
      let leads = subst (λ (ks : List AnyKind). Leads net_rules (start_of plan ks) (schedule_of run.ran.journal) last) found.1 has.leaves.run.schedule.leads in
      let stood = plain.only (schedule_of run.ran.journal) last leads in
      let led = (plain.leads (schedule_of run.ran.journal) stood.0).1 (subst (λ (s : State AnyKind). Leads net_rules (start_of plan (others standard)) (schedule_of run.ran.journal) s) stood.1 leads) in
      let finished = finished-standard laws stood.0 (subst IsFinished stood.1 ends) in
      let composes = laws.composes plan standard (schedule_of run.ran.journal) stood.0 well (are-first plan has.given standard are) led finished in
      (standard, found.1, composes-same plan standard (wrote_in stood.0) (bytes_in last) (λ p. ap (λ (s : State AnyKind). bytes_in s p) stood.1 ∙ bytes-standard laws stood.0 p) composes)

  left : WritesAll a n (outputs_of_run run) → PrintsReport po pn (report_by run.telling) run.ran.report status → IsFinishedStatus status
      → LeavesMeaning (so_far words own o n (recorded_by run.ran))
  unfolding whole-run run-of
  left w (inl p) finished =
      let plan = run.ran.plan in
      let ends = finished-of has.leaves.last has.leaves.told_is.report.verdict has.leaves.told_is.tells.verdict (subst IsFinishedStatus (p.0 ∙ ap verdict_status has.leaves.told_is.verdict) finished) in
      let well = laws.starts_any plan has.leaves.components has.ready.file.over.valid (components-fit laws.fits (specs_of own) plan has.given run.ran.tapes.items has.leaves.components has.leaves.are_components) in
      inl (
        has.asked,
        has.asks,
        record {
          report = has.leaves.told_is.report;
          whole = whole-run o a n words own run has w;
          composes = composed ends;
          leads_on = laws.rises plan has.leaves.components (schedule_of run.ran.journal) has.leaves.last well has.leaves.run.schedule.leads ends;
        },
      )
  left w (inr p) finished = absurd (subst IsFinishedStatus p.0 finished)

  pub meant : Finishes a n po pn run status → IsFinishedStatus status → LeavesMeaning (so_far words own o n (recorded_by run.ran))
  meant (inl (w, p)) finished = left w p finished
  meant (inr (stop, w, p)) finished = absurd (stop-not-over po pn stop status p (finished-over status finished))
