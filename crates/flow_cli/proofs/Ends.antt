-- What a call came to that wasn't stopped before, and what was written and printed of it.
use Rattle.std.proofs.Common.{◌≡◌, ◌⊎◌, ℕ, List, [], inl, inr, sym, ap, subst}
use Rattle.std.specs.Prelude.{◌≢◌, String}
use Rattle.std.specs.declared.alloc.Global.{Global}
use Rattle.flow_text.specs.Edge.{Outside, Rose}
use Rattle.flow_cli.specs.Live.{AnyNet}
use Rattle.flow_load.specs.Offers.{AnyKind, Offer, specs_of}
use Rattle.flow_model.specs.States.{State}
use Rattle.flow_model.specs.Verdicts.{Quiet}
use Rattle.flow_words.specs.Words.{report_by}
use Rattle.flow_report.specs.declared.report.Verdict.{Verdict}
use Rattle.flow_report.specs.declared.report.Verdict.TheVariants as verdicts
use Rattle.flow_report.specs.States.{IsVerdict}
use Rattle.flow_cli.specs.After.{Outputs, Prints, printed_by, printed_text, remarked_by, remarked_text, verdict_status}
use Rattle.flow_load.specs.Many.{WritesAll}
use Rattle.flow_cli.specs.Meant.{LeavesMeaning, ChangesNoName}
use Rattle.flow_load.specs.Statuses.{IsOver}
use Rattle.flow_cli.specs.Top.{call_of, outputs_of_run, recorded_by, recorded_in, HasRun, Says, Finishes, IsCaused, ComesToEnd, IsComplete}
use Rattle.flow_load.specs.Valid.{IsReplay}
use Rattle.flow_cli.specs.declared.run.Said.{Said}
use Rattle.flow_cli.specs.declared.run.Unwritten.{Unwritten}
use Rattle.flow_load.specs.declared.status.Status.{Status}
use Rattle.flow_load.specs.declared.status.Status.TheVariants as statuses
use Rattle.flow_load.specs.Prepare.{so_far}
use Rattle.flow_cli.proofs.TopLaws.{Laws}
use Rattle.flow_cli.proofs.Runs.{stops-writing, whole-run, told-report}
use Rattle.flow_cli.proofs.Tops.{by-status, failed-rose, stopped, stop-not-over, stop-not-running, stop-complete}

-- each verdict is one of a call that came to its end
over-any : (verdict : Verdict) → IsOver (verdict_status verdict)
over-any verdicts.Finished = tt
over-any verdicts.FinishedLeft = tt
over-any verdicts.Deadlock = tt
over-any verdicts.Failed = tt
over-any verdicts.Running = tt

-- that of a quiet state isn't that it can go on
quiet-not-running : (s : State AnyKind) (verdict : Verdict) → Quiet s → IsVerdict s verdict → verdict_status verdict ≢ statuses.Running
quiet-not-running s verdicts.Finished quiet is e = cc
quiet-not-running s verdicts.FinishedLeft quiet is e = cc
quiet-not-running s verdicts.Deadlock quiet is e = cc
quiet-not-running s verdicts.Failed quiet is e = cc
quiet-not-running s verdicts.Running quiet is e = absurd (is quiet)

-- what was printed with a status that isn't Running
own-not-running : (po pn : Outputs) (text remark : List ℕ) (own status : Status) → own ≢ statuses.Running → Prints po pn text remark own status → status ≢ statuses.Running
own-not-running po pn text remark own status other p is = by-status po pn text remark own status (λ s. s ≡ statuses.Running) p other (λ x. cc) is

own-complete : (po pn : Outputs) (text remark : List ℕ) (own status : Status) → IsOver own → Prints po pn text remark own status
    → (Rose po.out.write_faults pn.out.write_faults → ⊥) → (Rose po.err.write_faults pn.err.write_faults → ⊥) → IsOver status ⊎ (status ≡ statuses.NoMemory)
own-complete po pn text remark own status over (inl p) prints remarks = inl (subst IsOver (sym p.0) over)
own-complete po pn text remark own status over (inr p) prints remarks = absurd (failed-rose po pn text remark p.1 prints remarks)

-- What the code prints of the report of a run, and what goes to the error output.
abbrev run-printed : Unwritten AnyNet → List ℕ
run-printed run = printed_by (report_by run.telling) run.ran.report.verdict run.ran.report.text.items run.ran.report.brief.items

abbrev run-remarked : Unwritten AnyNet → List ℕ
run-remarked run = remarked_by (report_by run.telling) run.ran.report.verdict run.ran.report.text.items run.ran.report.brief.items

-- a run, and what was written and printed of it
module _ (words : List (String Global)) (own : List Offer) (o a n : Outside) (po pn : Outputs) (run : Unwritten AnyNet) (status : Status) (has : HasRun (specs_of own) o a words run) (did : Finishes a n po pn run status) where
  ran-not-running : status ≢ statuses.Running
  ran-not-running = go did where
    other : verdict_status run.ran.report.verdict ≢ statuses.Running
    other = subst (λ (v : Verdict). verdict_status v ≢ statuses.Running) (sym has.leaves.told_is.verdict)
        (quiet-not-running has.leaves.last has.leaves.told_is.report.verdict has.leaves.run.quiet has.leaves.told_is.tells.verdict)

    go : Finishes a n po pn run status → status ≢ statuses.Running
    go (inl (w, p)) = own-not-running po pn (run-printed run) (run-remarked run) (verdict_status run.ran.report.verdict) status other p
    go (inr (stop, w, p)) = stop-not-running po pn stop status p

  pub ran-caused : IsCaused (call_of words own o n po pn (recorded_by run.ran) status)
  ran-caused = go did where
    go : Finishes a n po pn run status → IsCaused (call_of words own o n po pn (recorded_by run.ran) status)
    go (inl (w, p)) = inl (record {
      asked = has.asked;
      asks = has.asks;
      report = has.leaves.told_is.report;
      whole = whole-run o a n words own run has w;
      prints = told-report o a n words own run has po pn status p;
    })
    go (inr (stop, w, p)) = stopped words own o n po pn (recorded_by run.ran) status stop (stops-writing o a n words own run has stop w) p

  pub ran-well : IsOver status → ComesToEnd (call_of words own o n po pn (recorded_by run.ran) status)
  ran-well over = go did where
    well : WritesAll a n (outputs_of_run run)
        → Prints po pn (printed_text has.asked.report has.leaves.told_is.report) (remarked_text has.asked.report has.leaves.told_is.report) (verdict_status has.leaves.told_is.report.verdict) status
        → ComesToEnd (call_of words own o n po pn (recorded_by run.ran) status)
    well w (inl p) = inl (has.asked, has.asks, record { report = has.leaves.told_is.report; whole = whole-run o a n words own run has w; printed = p.1; status = p.0 })
    well w (inr p) = absurd (subst IsOver p.0 over)

    go : Finishes a n po pn run status → ComesToEnd (call_of words own o n po pn (recorded_by run.ran) status)
    go (inl (w, p)) = well w (told-report o a n words own run has po pn status p)
    go (inr (stop, w, p)) = absurd (stop-not-over po pn stop status p over)

  pub ran-status : status ≡ statuses.Running → IsReplay words
  ran-status is = absurd (ran-not-running is)

  pub ran-complete : Laws → IsComplete (call_of words own o n po pn (recorded_by run.ran) status)
  ran-complete laws quiet valid = go did where
    go : Finishes a n po pn run status → IsOver status ⊎ (status ≡ statuses.NoMemory)
    go (inl (w, p)) = own-complete po pn (run-printed run) (run-remarked run) (verdict_status run.ran.report.verdict) status (over-any run.ran.report.verdict) p quiet.prints quiet.remarks
    go (inr (stop, w, p)) = stop-complete laws words own o n po pn (recorded_by run.ran) status stop (stops-writing o a n words own run has stop w) p quiet valid

-- what a call says that writes no file, and what was printed of it
module _ (words : List (String Global)) (own : List Offer) (o n : Outside) (po pn : Outputs) (said : Said) (status : Status)
    (says : Says (so_far words own o n (recorded_in said)) said.text.items said.status) (p : Prints po pn said.text.items [] said.status status) where
  pub said-caused : IsCaused (call_of words own o n po pn (recorded_in said) status)
  said-caused = inr (inl (record { text = said.text.items; own = said.status; says = says; prints = p }))

  pub said-well : IsOver status → ComesToEnd (call_of words own o n po pn (recorded_in said) status)
  said-well over = go p where
    go : Prints po pn said.text.items [] said.status status → ComesToEnd (call_of words own o n po pn (recorded_in said) status)
    go (inl q) = inr (record { text = said.text.items; says = subst (λ (s : Status). Says (so_far words own o n (recorded_in said)) said.text.items s) (sym q.0) says; printed = q.1 })
    go (inr q) = absurd (subst IsOver q.0 over)

  -- the words ask for a replay, or this isn't the status of a network that can go on
  by-form : Says (so_far words own o n (recorded_in said)) said.text.items said.status → (said.status ≢ statuses.Running) ⊎ IsReplay words
  by-form (inl s) = inl (λ is. let h = s.status_is in cc)
  by-form (inr (inl s)) = inr (s.name, s.kept, s.tapes, s.asks)
  by-form (inr (inr (inl s))) = inl (subst (λ (t : Status). t ≢ statuses.Running) (sym s.status_is) (quiet-not-running s.last s.report.verdict s.run.run.quiet s.tells.verdict))
  by-form (inr (inr (inr (inl s)))) = inl (λ is. let h = s.status_is in cc)
  by-form (inr (inr (inr (inr s)))) = inl (λ is. let h = s.status_is in cc)

  pub said-status : status ≡ statuses.Running → IsReplay words
  said-status is = go (by-form says) where
    go : (said.status ≢ statuses.Running) ⊎ IsReplay words → IsReplay words
    go (inl other) = absurd (own-not-running po pn said.text.items [] said.status status other p is)
    go (inr replay) = replay

  own-over : Says (so_far words own o n (recorded_in said)) said.text.items said.status → IsOver said.status
  own-over (inl s) = subst IsOver (sym s.status_is) tt
  own-over (inr (inl s)) = subst IsOver (sym s.status_is) (over-any s.report.verdict)
  own-over (inr (inr (inl s))) = subst IsOver (sym s.status_is) (over-any s.report.verdict)
  own-over (inr (inr (inr (inl s)))) = subst IsOver (sym s.status_is) tt
  own-over (inr (inr (inr (inr s)))) = subst IsOver (sym s.status_is) tt

  pub said-complete : IsComplete (call_of words own o n po pn (recorded_in said) status)
  said-complete quiet valid = own-complete po pn said.text.items [] said.status status (own-over says) p quiet.prints quiet.remarks

  changes-none : Says (so_far words own o n (recorded_in said)) said.text.items said.status → ChangesNoName (so_far words own o n (recorded_in said))
  changes-none (inl s) = record { asks = inl (s.name, s.asks); files = ap (λ (x : Outside). x.files) s.checked.shelf; created = ap (λ (x : Outside). x.created) s.checked.shelf }
  changes-none (inr (inl s)) = record { asks = inr (inl (s.name, s.kept, s.tapes, s.asks)); files = ap (λ (x : Outside). x.files) s.replayed.ready.reads; created = ap (λ (x : Outside). x.created) s.replayed.ready.reads }
  changes-none (inr (inr (inl s))) = record { asks = inr (inr (inl (s.number, s.workers, s.asks))); files = ap (λ (x : Outside). x.files) s.shelf; created = ap (λ (x : Outside). x.created) s.shelf }
  changes-none (inr (inr (inr (inl s)))) = record { asks = inr (inr (inr (inl (s.name, s.asks)))); files = ap (λ (x : Outside). x.files) s.checked.shelf; created = ap (λ (x : Outside). x.created) s.checked.shelf }
  changes-none (inr (inr (inr (inr s)))) = record { asks = inr (inr (inr (inr (s.page, s.asks)))); files = ap (λ (x : Outside). x.files) s.shelf; created = ap (λ (x : Outside). x.created) s.shelf }

  pub said-meaning : LeavesMeaning (so_far words own o n (recorded_in said))
  said-meaning = inr (changes-none says)
