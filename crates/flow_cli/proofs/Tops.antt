-- What a call came to, and what was printed of it: stops.
use Rattle.std.proofs.Common.{◌≡◌, ℕ, List, [], inl, inr, ◌∙◌, ap, subst}
use Rattle.std.specs.Prelude.{◌≢◌, String, string_bytes}
use Rattle.std.specs.declared.alloc.Global.{Global}
use Rattle.flow_text.specs.Edge.{Outside, Rose}
use Rattle.flow_load.specs.Offers.{Offer, Recorded}
use Rattle.flow_cli.specs.After.{FailsToPrint, Outputs, Prints}
use Rattle.flow_load.specs.Statuses.{IsOver}
use Rattle.flow_load.specs.Stops.{status_of, text_of}
use Rattle.flow_load.specs.Causes.{Work, HasCause}
use Rattle.flow_cli.specs.Top.{call_of, PrintsStop, TellsStop, IsCaused, IsComplete}
use Rattle.flow_load.specs.declared.status.Status.{Status}
use Rattle.flow_load.specs.declared.status.Status.TheVariants as statuses
use Rattle.flow_load.specs.declared.stop.JournalRefusal.TheVariants.{Byte, Turn}
use Rattle.flow_load.specs.declared.stop.TapesRefusal.TheVariants as tapes_refusals
use Rattle.flow_load.specs.declared.stop.Stop.{Stop}
use Rattle.flow_load.specs.declared.stop.Stop.TheVariants.{Words, Refused, NoPart, JournalRefused, TapesRefused, ReadFault, WriteFault, TooLong, NoMemory}
use Rattle.flow_load.proofs.Steps.{may-read, may-fail-to-read}
use Rattle.flow_load.specs.Prepare.{so_far}
use Rattle.flow_cli.proofs.TopLaws.{Laws}
use Rattle.flow_load.proofs.Befores.{untouched}
use Rattle.flow_cli.proofs.Valid.{valid-at}

-- want of memory for the text of a stop
as-memory : (w : Work) (stop : Stop) → HasCause w stop → HasCause w NoMemory
as-memory w Words c = inl (record { nothing = c.nothing; files = ap (λ (o : Outside). o.files) c.shelf; created = ap (λ (o : Outside). o.created) c.shelf })
as-memory w (Refused refusal) c = inl (untouched w (may-read w.before w.after _ c.shelf) c.nothing)
as-memory w (NoPart process) c = inl (untouched w (may-read w.before w.after _ c.shelf) c.nothing)
as-memory w (TapesRefused (tapes_refusals.Byte place)) c = inl (untouched w (may-read w.before w.after _ c.shelf) c.nothing)
as-memory w (TapesRefused (tapes_refusals.Count count)) c = inl (untouched w (may-read w.before w.after _ c.shelf) c.nothing)
as-memory w (JournalRefused (Byte place)) c = inl (untouched w (may-read w.before w.after _ c.shelf) c.nothing)
as-memory w (JournalRefused (Turn place process refusal)) c = inl (untouched w (may-read w.before w.after _ c.ready.reads) c.nothing)
as-memory w (ReadFault read) c = inl (untouched w (may-fail-to-read w.before w.after _ _ c.shelf) c.nothing)
as-memory w (TooLong read) c = inl (untouched w (may-read w.before w.after _ c.shelf.2) c.nothing)
as-memory w (WriteFault written) c = inr (inr (string_bytes written, c))
as-memory w NoMemory c = c

-- a stop, and what was printed of it
module _ (words : List (String Global)) (own : List Offer) (o n : Outside) (po pn : Outputs) (recorded : Recorded) (status : Status) (stop : Stop)
    (cause : HasCause (so_far words own o n recorded) stop) (prints : PrintsStop po pn stop status) where
  told : PrintsStop po pn stop status → TellsStop (call_of words own o n po pn recorded status)
  told (inl p) = record { stop = stop; cause = cause; prints = p }
  told (inr p) = record { stop = NoMemory; cause = as-memory (so_far words own o n recorded) stop cause; prints = p }

  pub stopped : IsCaused (call_of words own o n po pn recorded status)
  stopped = inr (inr (told prints))

not-over : (stop : Stop) → IsOver (status_of stop) → ⊥
not-over Words over = over
not-over (Refused refusal) over = over
not-over (NoPart process) over = over
not-over (JournalRefused refusal) over = over
not-over (TapesRefused refusal) over = over
not-over (ReadFault read) over = over
not-over (WriteFault written) over = over
not-over (TooLong read) over = over
not-over NoMemory over = over

not-running : (stop : Stop) → status_of stop ≡ statuses.Running → ⊥
not-running Words is = cc
not-running (Refused refusal) is = cc
not-running (NoPart process) is = cc
not-running (JournalRefused refusal) is = cc
not-running (TapesRefused refusal) is = cc
not-running (ReadFault read) is = cc
not-running (WriteFault written) is = cc
not-running (TooLong read) is = cc
not-running NoMemory is = cc

-- What was printed with a status, or with that of a write fault.
pub by-status : (po pn : Outputs) (text remark : List ℕ) (own status : Status) (P : Status → Type 0) → Prints po pn text remark own status → (P own → ⊥) → (P statuses.WriteFault → ⊥) → P status → ⊥
by-status po pn text remark own status P (inl p) not_own never is = not_own (subst P p.0 is)
by-status po pn text remark own status P (inr p) not_own never is = never (subst P p.0 is)

-- Where printing failed, a count of faults rose.
pub failed-rose : (po pn : Outputs) (text remark : List ℕ) → FailsToPrint po pn text remark → (Rose po.out.write_faults pn.out.write_faults → ⊥) → (Rose po.err.write_faults pn.err.write_faults → ⊥) → ⊥
failed-rose po pn text remark (inl f) prints remarks = prints f.1.rose
failed-rose po pn text remark (inr f) prints remarks = remarks f.1.rose

-- A call that was stopped doesn't end with a status of a run.
pub stop-not-over : (po pn : Outputs) (stop : Stop) (status : Status) → PrintsStop po pn stop status → IsOver status → ⊥
stop-not-over po pn stop status (inl p) over = by-status po pn (text_of stop) [] (status_of stop) status IsOver p (not-over stop) (λ x. x) over
stop-not-over po pn stop status (inr p) over = by-status po pn (text_of NoMemory) [] statuses.NoMemory status IsOver p (λ x. x) (λ x. x) over

-- Nor with that of a net that still runs.
pub stop-not-running : (po pn : Outputs) (stop : Stop) (status : Status) → PrintsStop po pn stop status → status ≢ statuses.Running
stop-not-running po pn stop status (inl p) is = by-status po pn (text_of stop) [] (status_of stop) status (λ s. s ≡ statuses.Running) p (not-running stop) (λ x. cc) is
stop-not-running po pn stop status (inr p) is = by-status po pn (text_of NoMemory) [] statuses.NoMemory status (λ s. s ≡ statuses.Running) p (λ x. cc) (λ x. cc) is

own-or-memory : (po pn : Outputs) (stop : Stop) (status : Status) → PrintsStop po pn stop status → stop ≡ NoMemory → (Rose po.out.write_faults pn.out.write_faults → ⊥)
    → (Rose po.err.write_faults pn.err.write_faults → ⊥) → status ≡ statuses.NoMemory
own-or-memory po pn stop status (inl (inl p)) is prints remarks = p.0 ∙ ap status_of is
own-or-memory po pn stop status (inl (inr p)) is prints remarks = absurd (failed-rose po pn (text_of stop) [] p.1 prints remarks)
own-or-memory po pn stop status (inr (inl p)) is prints remarks = p.0
own-or-memory po pn stop status (inr (inr p)) is prints remarks = absurd (failed-rose po pn (text_of NoMemory) [] p.1 prints remarks)

-- What a stopped call says of its cause is complete.
pub stop-complete : Laws
    → (words : List (String Global)) (own : List Offer) (o n : Outside) (po pn : Outputs) (recorded : Recorded) (status : Status) (stop : Stop)
    → HasCause (so_far words own o n recorded) stop → PrintsStop po pn stop status → IsComplete (call_of words own o n po pn recorded status)
stop-complete laws words own o n po pn recorded status stop cause prints quiet valid =
    inr (own-or-memory po pn stop status prints (valid-at laws (so_far words own o n recorded) stop cause valid quiet.reads quiet.writes) quiet.prints quiet.remarks)
