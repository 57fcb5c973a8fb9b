-- What a call has come to before something is written or printed.
use Rattle.std.proofs.Common.{◌≡◌, ◌↔◌, Bool, IsTrue, true, false, inl, inr, ℕ, List, [], ◌∷◌, Ok, Err, refl, sym, ◌∙◌, ap, subst}
use Rattle.std.specs.Prelude.{String}
use Rattle.std.specs.declared.alloc.Global.{Global}
use Rattle.std.specs.declared.option.Option.{Option}
use Rattle.flow_text.specs.Edge.{Outside, Name}
use Rattle.flow_plan.specs.Network.{Network}
use Rattle.flow_words.specs.Words.{Check, Judge, Page, Replay}
use Rattle.flow_parse.specs.Canonical.{canonical}
use Rattle.flow_parse.specs.declared.value.NetText.{NetText}
use Rattle.flow_determinate.specs.Standard.{IsDeterminate}
use Rattle.flow_words.specs.declared.asked.Page.{Page as PageName}
use Rattle.flow_journal.specs.Replays.{schedule_of}
use Rattle.flow_journal.specs.Runs.{IsScheduled}
use Rattle.flow_load.specs.Step.{OnlyReads, MayRead, whole}
use Rattle.flow_cli.specs.After.{verdict_status}
use Rattle.flow_load.specs.Components.{AreComponents}
use Rattle.flow_load.specs.Offers.{Offer, Recorded, IsNothing, net_rules, specs_of}
use Rattle.flow_load.specs.Reads.{Asks, AreTapes, IsFile, IsJournalFile}
use Rattle.flow_load.specs.Causes.{HasCause}
use Rattle.flow_load.specs.Prepare.{IsReadyAgain, so_far}
use Rattle.flow_cli.specs.Leaves.{MakesAgain}
use Rattle.flow_cli.specs.Top.{Says, SaysTurnsAgain, TellsWhether, answer, page_text, recorded_in}
use Rattle.flow_load.specs.declared.before.Again.{Again}
use Rattle.flow_cli.specs.declared.run.Said.{Said}
use Rattle.flow_load.specs.declared.status.Status.TheVariants.{Finished}
use Rattle.flow_load.specs.declared.stop.JournalRefusal.TheVariants.{Byte, Turn}
use Rattle.flow_load.specs.declared.stop.Stop.{Stop}
use Rattle.flow_load.specs.declared.stop.Stop.TheVariants.{Words, Refused, NoPart, JournalRefused, TapesRefused, ReadFault, WriteFault, TooLong, NoMemory}
use Rattle.flow_load.proofs.Steps.{may-read}
use Rattle.flow_load.proofs.Befores.{untouched}

-- Want of memory behind reading.
pub wants-memory : (o a : Outside) (words : List (String Global)) (own : List Offer) (recorded : Recorded) → MayRead o a → IsNothing recorded → HasCause (so_far words own o a recorded) NoMemory
wants-memory o a words own recorded may empty = inl (untouched (so_far words own o a recorded) may empty)

-- what a replay leaves: its journal and its tapes
abbrev pub recorded_again : Again → Recorded
recorded_again again = record { journal = again.journal; tapes = again.tapes.items }

-- a replay
module _ (o a : Outside) (words : List (String Global)) (own : List Offer) (name kept : Name) (tapes : Option Name) (again : Again) (asks : Asks words (Replay name kept tapes))
    (ready : IsReadyAgain (specs_of own) o a name kept tapes again) where
  pub says-again : (said : Said) → SaysTurnsAgain again.job.plan again.job.components.items (recorded_again again) (Ok said) → Says (so_far words own o a (recorded_in said)) said.text.items said.status
  says-again said s =
      let told = s.1 in
      let same : recorded_in said ≡ recorded_again again = s.4 in
      inr (inl (record {
        name = name;
        kept = kept;
        tapes = tapes;
        asks = asks;
        report = told.told_is.report;
        replayed = record {
          bytes = ready.bytes;
          is_journal = subst (λ (r : Recorded). IsJournalFile o.files kept ready.bytes r.journal) (sym same) ready.is_journal;
          files = ready.files;
          are_tapes = subst (λ (r : Recorded). AreTapes o.files tapes ready.files r.tapes) (sym same) ready.are_tapes;
          plan = again.job.plan;
          given = ready.given;
          ready = ready.ready;
          components = again.job.components.items;
          are_components = subst (λ (r : Recorded). AreComponents (specs_of own) again.job.plan ready.given r.tapes again.job.components.items) (sym same) ready.are_components;
          last = told.last;
          schedule = subst (λ (r : Recorded). IsScheduled net_rules again.job.plan again.job.components.items (schedule_of r.journal) told.last) (sym same) told.schedule;
          tells = told.told_is.tells;
        };
        text_is = s.2 ∙ told.told_is.text;
        status_is = s.3 ∙ ap verdict_status told.told_is.verdict;
      }))

  pub again-stopped : (stop : Stop) → MakesAgain again.job.plan again.job.components.items again.journal (Err stop) → (recorded : Recorded) → IsNothing recorded
      → HasCause (so_far words own o a recorded) stop
  again-stopped (JournalRefused (Turn place process refusal)) stops recorded empty = record {
    name = name;
    kept = kept;
    tapes = tapes;
    asks = asks;
    bytes = ready.bytes;
    tells = again.journal;
    is_journal = ready.is_journal;
    files = ready.files;
    told_tapes = again.tapes.items;
    are_tapes = ready.are_tapes;
    plan = again.job.plan;
    given = ready.given;
    ready = ready.ready;
    components = again.job.components.items;
    are_components = ready.are_components;
    stops = stops;
    nothing = empty;
  }
  again-stopped (JournalRefused (Byte place)) stops recorded empty = absurd stops
  again-stopped NoMemory stops recorded empty = wants-memory o a words own recorded (may-read o a _ ready.ready.reads) empty
  again-stopped Words stops recorded empty = absurd stops
  again-stopped (Refused refusal) stops recorded empty = absurd stops
  again-stopped (NoPart process) stops recorded empty = absurd stops
  again-stopped (TapesRefused refusal) stops recorded empty = absurd stops
  again-stopped (ReadFault read) stops recorded empty = absurd stops
  again-stopped (WriteFault written) stops recorded empty = absurd stops
  again-stopped (TooLong read) stops recorded empty = absurd stops

-- The line of an exact answer tells whether the plan is determinate.
pub tells : (plan : Network) (yes : Bool) (text : List ℕ) → (IsTrue yes ↔ IsDeterminate plan) → text ≡ answer yes → TellsWhether plan text
tells plan true text exact is = inl (exact.0 refl, is)
tells plan false text exact is = inr (λ determinate. let h : false ≡ true = exact.1 determinate in cc, is)

-- a check
pub says-checked : (o a : Outside) (words : List (String Global)) (own : List Offer) (name net : Name) (text : NetText) (plan : Network) (said : Said) → Asks words (Check name)
    → OnlyReads o a (whole (name, net) ∷ []) → IsFile (specs_of own) o.files name net text plan → said.text.items ≡ canonical text → said.status ≡ Finished → IsNothing (recorded_in said)
    → Says (so_far words own o a (recorded_in said)) said.text.items said.status
says-checked o a words own name net text plan said asks only file spelt status empty = inl (record {
  name = name;
  asks = asks;
  value = text;
  checked = record { net = net; plan = plan; file = file; shelf = only; nothing = empty };
  text_is = spelt;
  status_is = status;
})

-- a judge
pub says-judged : (o a : Outside) (words : List (String Global)) (own : List Offer) (name net : Name) (text : NetText) (plan : Network) (said : Said) → Asks words (Judge name)
    → OnlyReads o a (whole (name, net) ∷ []) → IsFile (specs_of own) o.files name net text plan → TellsWhether plan said.text.items → said.status ≡ Finished → IsNothing (recorded_in said)
    → Says (so_far words own o a (recorded_in said)) said.text.items said.status
says-judged o a words own name net text plan said asks only file tells status empty = inr (inr (inr (inl (record {
  name = name;
  asks = asks;
  value = text;
  checked = record { net = net; plan = plan; file = file; shelf = only; nothing = empty };
  text_is = tells;
  status_is = status;
}))))

-- a page
pub says-page : (o a : Outside) (words : List (String Global)) (own : List Offer) (page : PageName) (said : Said) → Asks words (Page page) → a ≡ o → said.text.items ≡ page_text (specs_of own) page → said.status ≡ Finished
    → IsNothing (recorded_in said) → Says (so_far words own o a (recorded_in said)) said.text.items said.status
says-page o a words own page said asks same text status empty = inr (inr (inr (inr (record { page = page; asks = asks; shelf = same; nothing = empty; text_is = text; status_is = status }))))
