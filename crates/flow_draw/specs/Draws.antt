-- What the top call promises.
use Rattle.std.specs.Prelude.{◌≡◌, ℕ, Bool, List, [], ◌∷◌, Ok, Err, Some, None, String, Vec}
use Rattle.std.specs.declared.alloc.Global.{Global}
use Rattle.std.specs.declared.option.Option.{Option}
use Rattle.std.specs.declared.result.Result.{Result}
use Rattle.flow_text.specs.Edge.{Outside, Name, after_write}
use Rattle.flow_text.specs.WriteAll.{WroteAndFailed}
use Rattle.flow_plan.specs.Network.{Network}
use Rattle.flow_plan.specs.declared.kind.KindSpec.{KindSpec}
use Rattle.flow_parse.specs.declared.value.NetText.{NetText}
use Rattle.flow_model.specs.States.{State}
use Rattle.flow_journal.specs.Replays.{schedule_of}
use Rattle.flow_journal.specs.Runs.{IsScheduled}
use Rattle.flow_journal.specs.declared.merge.Journal.{Journal}
use Rattle.flow_offer.specs.Kinds.{table_with}
use Rattle.flow_offer.specs.Processes.{IsOfferedPlan, own_processes}
use Rattle.flow_load.specs.Step.{OnlyReads, MayRead, whole}
use Rattle.flow_load.specs.Offers.{AnyKind, net_rules}
use Rattle.flow_load.specs.Components.{AreComponents, HasComponents}
use Rattle.flow_load.specs.Reads.{IsFile, IsJournalFile, IsReady}
use Rattle.flow_load.specs.Causes.{StopsAgain}
use Rattle.flow_load.specs.Stops.{status_of}
use Rattle.flow_load.specs.declared.status.Status.{Status}
use Rattle.flow_load.specs.declared.status.Status.TheVariants as statuses
use Rattle.flow_load.specs.declared.stop.Stop.{Stop}
use Rattle.flow_load.specs.declared.stop.Stop.TheVariants.{Words, NoMemory}
use Rattle.flow_drawing.specs.declared.drawing.Remarks.{Remarks}
use Rattle.flow_drawing.specs.declared.quote.Form.{Form}
use Rattle.flow_drawing.specs.Folding.{drawing_as}
use Rattle.flow_drawing.specs.Remarks.{no_remarks}
use Rattle.flow_drawing.specs.Spelling.{drawing_text}
use Rattle.flow_draw.specs.Words.{Asked, asked_in_call}
use Rattle.flow_draw.specs.States.{TellsOf}
use Rattle.flow_draw.specs.Causes.{StopsFor}
use Rattle.flow_draw.specs.declared.status.DrawStatus.{DrawStatus}
use Rattle.flow_draw.specs.declared.status.DrawStatus.TheVariants.{Drawn, Unwritten, Stopped}
use Rattle.flow_draw.specs.declared.scene.Scene.{Scene}

-- The network of this file is drawn, and nothing besides: the file was read whole, and nothing but it, and this is its plan.
pub record ShowsNet (own : List KindSpec) (old new : Outside) (name : Name) (plan : Network) (remarks : Remarks) : Type 0 where
  pub net : List ℕ
  pub text : NetText
  pub file : IsFile own old.files name net text plan
  pub shelf : OnlyReads old new (whole (name, net) ∷ [])
  pub none : remarks ≡ no_remarks

-- The state is drawn to which the journal of this file leads, of a network without processes of kinds of the caller's own: the network file was read whole, then the journal's, then those of the network's readers, and
-- nothing else; the journal is a schedule of the machine from the start of the network on what the readers' files gave, and the remarks tell of the state to
-- which it leads.
pub record ShowsState (own : List KindSpec) (old new : Outside) (name kept : Name) (plan : Network) (remarks : Remarks) : Type 0 where
  pub bytes : List ℕ
  pub journal : Journal
  pub is_journal : IsJournalFile old.files kept bytes journal
  pub given : List (List ℕ)
  pub ready : IsReady own old new name ((kept, bytes) ∷ []) plan given
  pub none_own : own_processes own plan ≡ []
  pub components : List AnyKind
  pub are_components : AreComponents own plan given [] components
  pub last : State AnyKind
  pub schedule : IsScheduled net_rules plan components (schedule_of journal) last
  pub tells : TellsOf plan last remarks

-- What is drawn of a network file, with the file of a journal or without.
abbrev pub ShowsBy : List KindSpec → Outside → Outside → Name → Option Name → Network → Remarks → Type 0
ShowsBy own old new name None plan remarks = ShowsNet own old new name plan remarks
ShowsBy own old new name (Some kept) plan remarks = ShowsState own old new name kept plan remarks

-- What reading all that a drawing shows comes to.
abbrev pub Reads : List KindSpec → Outside → Outside → Name → Option Name → Result Scene Stop → Type 0
Reads own old new name keeps (Ok scene) = ShowsBy own old new name keeps scene.plan scene.remarks
Reads own old new name keeps (Err stop) = StopsFor own old new name keeps stop

-- The plan is of a network that a caller with some kinds of its own may draw, and these are its components.
abbrev pub CanBegin : Network → List AnyKind → Type 0
CanBegin plan components = (own : List KindSpec) × IsOfferedPlan own plan × HasComponents own plan components

-- What making the turns of a journal again comes to: remarks that tell of the state to which they lead, or the first of them that isn't defined.
abbrev pub RemarksAfter : Network → List AnyKind → Journal → Result Remarks Stop → Type 0
RemarksAfter plan components journal (Ok remarks) =
    (last : State AnyKind) × IsScheduled net_rules plan components (schedule_of journal) last × TellsOf plan last remarks
RemarksAfter plan components journal (Err stop) = StopsAgain plan components journal stop

-- The text of a drawing of a plan over the standard kinds and these, with these remarks, whole or folded.
abbrev pub picture_of : Form → Bool → List KindSpec → Network → Remarks → List ℕ
picture_of form fold own plan remarks = drawing_text form (drawing_as fold (table_with own) remarks plan)

-- What stands of a call: its words, the kinds of the caller's own, the shelf before and after, and the output before and after.
pub record Call : Type 0 where
  pub words : List (String Global)
  pub own : List KindSpec
  pub before : Outside
  pub after : Outside
  pub out : Outside
  pub out_after : Outside

-- This is the text of the drawing that the words ask for: it is spelled in their language, is folded where they say so, and shows the network of their file, and the state to which the
-- journal leads where they name one.
pub record IsPicture (own : List KindSpec) (words : List (String Global)) (old new : Outside) (picture : List ℕ) : Type 0 where
  pub asked : Asked
  pub asks : asked_in_call words ≡ Some asked
  pub plan : Network
  pub remarks : Remarks
  pub shows : ShowsBy own old new asked.net asked.journal plan remarks
  pub is : picture ≡ picture_of asked.form asked.fold own plan remarks

-- The words are no command line, and nothing was read; or they are one, and the drawing isn't made for this cause. Where memory is wanting that is all.
abbrev pub HasCause : List KindSpec → List (String Global) → Outside → Outside → Stop → Type 0
HasCause own words old new Words = (asked_in_call words ≡ None) × (new ≡ old)
HasCause own words old new NoMemory = MayRead old new
HasCause own words old new stop = (asked : Asked) × (asked_in_call words ≡ Some asked) × StopsFor own old new asked.net asked.journal stop

-- What is made before something is printed: the text of the drawing, or why there is none.
abbrev pub Makes : List KindSpec → Outside → Outside → List (String Global) → Result (Vec ℕ Global) Stop → Type 0
Makes own old new words (Ok text) = IsPicture own words old new text.items
Makes own old new words (Err stop) = HasCause own words old new stop

-- All of the text was printed; or a proper first part of it was, and then a write to the output failed.
abbrev pub Prints : Outside → Outside → List ℕ → DrawStatus → Type 0
Prints old new text Drawn = new ≡ after_write old text
Prints old new text Unwritten = (n : ℕ) × WroteAndFailed old new text n
Prints old new text (Stopped stop) = ⊥

-- How a call ended: nothing was printed, for this cause; or the drawing was printed, and nothing else, or a first part of it.
abbrev pub Ends : Call → DrawStatus → Type 0
Ends c (Stopped stop) = HasCause c.own c.words c.before c.after stop × (c.out_after ≡ c.out)
Ends c status = (picture : List ℕ) × IsPicture c.own c.words c.before c.after picture × Prints c.out c.out_after picture status

-- A call of the top: its words, the kinds of the caller's own, the shelf before and after, the output before and after.
abbrev pub call_of : List (String Global) → List KindSpec → Outside → Outside → Outside → Outside → Call
call_of words own shelf shelf_after out out_after = record { words = words; own = own; before = shelf; after = shelf_after; out = out; out_after = out_after }

-- The status of the program for how a call ended.
abbrev pub program_status : DrawStatus → Status
program_status Drawn = statuses.Finished
program_status Unwritten = statuses.WriteFault
program_status (Stopped stop) = status_of stop
