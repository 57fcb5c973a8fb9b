-- A call keeps its promises, whether something was done or it stopped.
use Rattle.std.proofs.Common.{List, Ok}
use Rattle.std.specs.Prelude.{String}
use Rattle.std.specs.declared.alloc.Global.{Global}
use Rattle.flow_cli.specs.After.{Outputs}
use Rattle.flow_text.specs.Edge.{Outside}
use Rattle.flow_cli.specs.Live.{AnyNet}
use Rattle.flow_load.specs.Causes.{HasCause}
use Rattle.flow_load.specs.Offers.{Offer, Recorded}
use Rattle.flow_load.specs.Prepare.{so_far}
use Rattle.flow_cli.specs.Promises.{KeepsPromises}
use Rattle.flow_cli.specs.Top.{Concludes, Performs, PrintsStop, call_of, recorded_of}
use Rattle.flow_cli.specs.declared.run.Done.{Done}
use Rattle.flow_load.specs.declared.status.Status.{Status}
use Rattle.flow_load.specs.declared.stop.Stop.{Stop}
use Rattle.flow_cli.specs.declared.top.Outcome.{Outcome}
use Rattle.flow_cli.proofs.Alone.{alone}
use Rattle.flow_cli.proofs.Concluding.{done-over, done-meaning, done-cause, done-status, done-complete}
use Rattle.flow_cli.proofs.Meaning.{finished-over}
use Rattle.flow_cli.proofs.TopLaws.{Laws}
use Rattle.flow_cli.proofs.Tops.{stopped, stop-not-over, stop-not-running, stop-complete}
use Rattle.flow_cli.proofs.Updating.{collates-each, leaves-books}

-- A call in which something was done keeps them, by the laws of plans, of meanings, of one outcome and of journals.
pub done-keeps : Laws → (words : List (String Global)) (own : List Offer) (o a n : Outside) (po pn : Outputs) (done : Done AnyNet) (outcome : Outcome) → Performs own o a words (Ok done) → Concludes a n po pn done outcome
    → KeepsPromises (call_of words own o n po pn (recorded_of outcome) outcome.status)
done-keeps laws words own o a n po pn done outcome did concludes =
    let call = call_of words own o n po pn (recorded_of outcome) outcome.status in
    let over = done-over words own o a n po pn done outcome did concludes in
    let meaning = done-meaning laws words own o a n po pn done outcome did concludes in
    record {
      over = over;
      one_outcome = λ ended. alone laws call (over ended);
      meaning = meaning;
      books = λ finished. leaves-books laws call.work (meaning finished);
      collated = collates-each laws call.work;
      cause = done-cause words own o a n po pn done outcome did concludes;
      status = done-status words own o a n po pn done outcome did concludes;
      complete = done-complete laws words own o a n po pn done outcome did concludes;
    }

-- So does a call that stopped.
pub stop-keeps : Laws → (words : List (String Global)) (own : List Offer) (o n : Outside) (po pn : Outputs) (recorded : Recorded) (status : Status) (stop : Stop)
    → HasCause (so_far words own o n recorded) stop → PrintsStop po pn stop status → KeepsPromises (call_of words own o n po pn recorded status)
stop-keeps laws words own o n po pn recorded status stop cause prints =
    let not_over = stop-not-over po pn stop status prints in
    record {
      over = λ over. absurd (not_over over);
      one_outcome = λ over. absurd (not_over over);
      meaning = λ finished. absurd (not_over (finished-over status finished));
      books = λ finished. absurd (not_over (finished-over status finished));
      collated = collates-each laws (so_far words own o n recorded);
      cause = stopped words own o n po pn recorded status stop cause prints;
      status = λ is. absurd (stop-not-running po pn stop status prints is);
      complete = stop-complete laws words own o n po pn recorded status stop cause prints;
    }
