-- The batch update of a master file by a detail file, as a network: what its files are. (Morrison's book treats this job; the records are
-- this project's own.)
use Rattle.std.specs.Prelude.{◌≡◌, ℕ, ◌≤◌, List, [], ◌∷◌, ◌++◌, map, Some, slice_get}
use Rattle.std.specs.List.{flat_map}
use Rattle.std.specs.Fmt.{decimal}
use Rattle.flow_streams.specs.CollateState.{CollateState}
use Rattle.flow_streams.specs.Collated.{collation, listed}
use Rattle.flow_batch.specs.Book.{Book, book_of}
use Rattle.flow_batch.specs.Ledger.{Entry, line_of, AreAmounts, IsSorted, IsStablySorted}
use Rattle.flow_catalogue.specs.declared.standard.Std.{Std}
use Rattle.flow_catalogue.specs.declared.standard.Std.TheVariants as components
use Rattle.flow_catalogue.specs.declared.table.StdKind.{StdKind}
use Rattle.flow_catalogue.specs.declared.table.StdKind.TheVariants as kinds
use Rattle.flow_catalogue.specs.Kinds.{name_of}
use Rattle.flow_catalogue.specs.Std.{std_rules}
use Rattle.flow_model.specs.declared.Stage.TheVariants as stages
use Rattle.flow_model.specs.States.{Process, State, got_at, sent_at}
use Rattle.flow_model.specs.Schedules.{Journal, Leads}
use Rattle.flow_model.specs.Plans.{sends_at, receives_at, start_of, StartsWell}
use Rattle.flow_plan.specs.Network.{Network as Plan}
use Rattle.flow_plan.specs.declared.plan.Process.{Process as PlanProcess}
use Rattle.flow_meanings.specs.Means.{contents}
use Rattle.flow_meanings.specs.Composition.{Composes, AreFirst}
use Rattle.flow_determinate.specs.Standard.{AreFirstOf}

-- Each Collate among these components that has ended has sent the collation of what its elements got.
abbrev pub AreCollated : List Std → State Std → Type 0
AreCollated ks s =
    (p : ℕ) (state : CollateState) (x : Process Std) → slice_get ks p ≡ Some (components.Collate state) → slice_get s.kept.processes p ≡ Some x → x.stage ≡ stages.Ended
    → contents (sent_at s.past p 0) ≡ collation state.fields (listed 0 state.elements (λ e. contents (got_at s.past p e)))

-- So it is after every schedule from a start of standard components in their first states.
abbrev pub EndedCollates : Type 0
EndedCollates =
    (plan : Plan) (ks : List Std) (journal : Journal) (s : State Std) → StartsWell std_rules plan ks → AreFirst ks → Leads std_rules (start_of plan ks) journal s → AreCollated ks s

-- Output o of process p, and no other, sends to the connection at input i of process q.
pub record Feeds (plan : Plan) (p o q i : ℕ) : Type 0 where
  pub connection : ℕ
  pub sends : sends_at plan p o ≡ Some connection
  pub alone : (r s : ℕ) → sends_at plan r s ≡ Some connection → (r ≡ p) × (s ≡ o)
  pub receives : receives_at plan q i ≡ Some connection

-- Process p of the plan is of this kind.
pub record HasKind (plan : Plan) (p : ℕ) (kind : StdKind) : Type 0 where
  pub process : PlanProcess
  pub there : slice_get plan.processes p ≡ Some process
  pub named : process.kind ≡ name_of kind

-- It is of this kind, and its option spells this number.
pub record HasNumber (plan : Plan) (p : ℕ) (kind : StdKind) (number : ℕ) : Type 0 where
  pub of_kind : HasKind plan p kind
  pub spelled : of_kind.process.options ≡ (0, decimal number) ∷ []

-- A reader of masters and one of details, into a Collate by keys of this length, into an Update of them, into a writer of new masters and one of what is refused.
pub record IsBatch (plan : Plan) (keylen master_reader detail_reader new refused : ℕ) : Type 0 where
  pub collator : ℕ
  pub updater : ℕ
  pub reads_masters : HasKind plan master_reader kinds.ReadLines
  pub reads_details : HasKind plan detail_reader kinds.ReadLines
  pub collates : HasNumber plan collator kinds.Collate keylen
  pub two : collates.of_kind.process.inputs ≡ 2
  pub updates : HasNumber plan updater kinds.Update keylen
  pub writes_new : HasKind plan new kinds.WriteLines
  pub writes_refused : HasKind plan refused kinds.WriteLines
  pub from_masters : Feeds plan master_reader 0 collator 0
  pub from_details : Feeds plan detail_reader 0 collator 1
  pub to_updater : Feeds plan collator 0 updater 0
  pub to_new : Feeds plan updater 0 new 0
  pub to_refused : Feeds plan updater 1 refused 0

-- A file with a line for each text.
abbrev pub file_of : List (List ℕ) → List ℕ
file_of texts = flat_map (λ text. text ++ 10 ∷ []) texts

-- Two files are a book: the first has a line for each key that has an amount, in ascending order of keys, with that amount; the second has the refused texts in stable ascending order of their keys.
pub record AreBook (keylen : ℕ) (book : Book) (new refused : List ℕ) : Type 0 where
  pub entries : List Entry
  pub amounts : AreAmounts book entries
  pub lines : new ≡ file_of (map line_of entries)
  pub texts : List (List ℕ)
  pub stable : IsStablySorted keylen book.refused texts
  pub refusals : refused ≡ file_of texts

-- Where the plan has a batch update, and its readers have read these masters and details, both sorted, its two writers have written the book of the masters followed by the details.
abbrev pub WritesBooks : Plan → List Std → (ℕ → List ℕ) → Type 0
WritesBooks plan ks wrote =
    (keylen master_reader detail_reader new refused : ℕ) (masters details : List (List ℕ)) → keylen ≤ 255 → IsBatch plan keylen master_reader detail_reader new refused
    → slice_get ks master_reader ≡ Some (components.ReadLines masters) → slice_get ks detail_reader ≡ Some (components.ReadLines details) → IsSorted keylen masters → IsSorted keylen details
    → AreBook keylen (book_of keylen (masters ++ details)) (wrote new) (wrote refused)

-- So it is in each composition of a plan's components.
abbrev pub BatchMeans : Type 0
BatchMeans = (plan : Plan) (ks : List Std) (wrote : ℕ → List ℕ) → AreFirstOf plan ks → Composes plan ks wrote → WritesBooks plan ks wrote
