-- The batch update of files that aren't sorted, as a network that sorts them: what its files are. (The network is this project's own.)
use Rattle.std.specs.Prelude.{◌≡◌, ℕ, ◌≤◌, List, ◌++◌, Some, slice_get}
use Rattle.flow_batch.specs.Book.{book_of}
use Rattle.flow_catalogue.specs.declared.standard.Std.{Std}
use Rattle.flow_catalogue.specs.declared.standard.Std.TheVariants as components
use Rattle.flow_catalogue.specs.declared.table.StdKind.TheVariants as kinds
use Rattle.flow_plan.specs.Network.{Network as Plan}
use Rattle.flow_meanings.specs.Composition.{Composes}
use Rattle.flow_meanings.specs.Batches.{Feeds, HasKind, HasNumber, AreBook}
use Rattle.flow_determinate.specs.Standard.{AreFirstOf}

-- A reader of masters and one of details, each into a Sort by keys of this length, both into a Collate by them, into an Update of them, into a writer of new masters and one of what is
-- refused.
pub record IsSortingBatch (plan : Plan) (keylen master_reader detail_reader new refused : ℕ) : Type 0 where
  pub master_sorter : ℕ
  pub detail_sorter : ℕ
  pub collator : ℕ
  pub updater : ℕ
  pub reads_masters : HasKind plan master_reader kinds.ReadLines
  pub reads_details : HasKind plan detail_reader kinds.ReadLines
  pub sorts_masters : HasNumber plan master_sorter kinds.Sort keylen
  pub sorts_details : HasNumber plan detail_sorter kinds.Sort keylen
  pub collates : HasNumber plan collator kinds.Collate keylen
  pub two : collates.of_kind.process.inputs ≡ 2
  pub updates : HasNumber plan updater kinds.Update keylen
  pub writes_new : HasKind plan new kinds.WriteLines
  pub writes_refused : HasKind plan refused kinds.WriteLines
  pub from_masters : Feeds plan master_reader 0 master_sorter 0
  pub from_details : Feeds plan detail_reader 0 detail_sorter 0
  pub sorted_masters : Feeds plan master_sorter 0 collator 0
  pub sorted_details : Feeds plan detail_sorter 0 collator 1
  pub to_updater : Feeds plan collator 0 updater 0
  pub to_new : Feeds plan updater 0 new 0
  pub to_refused : Feeds plan updater 1 refused 0

-- Where the plan has a batch update that sorts, and its readers have read these masters and details, in whatever order, its two writers have written the book of the masters followed by the
-- details, as they came.
abbrev pub WritesUnsortedBooks : Plan → List Std → (ℕ → List ℕ) → Type 0
WritesUnsortedBooks plan ks wrote =
    (keylen master_reader detail_reader new refused : ℕ) (masters details : List (List ℕ)) → keylen ≤ 255 → IsSortingBatch plan keylen master_reader detail_reader new refused
    → slice_get ks master_reader ≡ Some (components.ReadLines masters) → slice_get ks detail_reader ≡ Some (components.ReadLines details)
    → AreBook keylen (book_of keylen (masters ++ details)) (wrote new) (wrote refused)

-- So it is in each composition of a plan's components.
abbrev pub SortingBatchMeans : Type 0
SortingBatchMeans = (plan : Plan) (ks : List Std) (wrote : ℕ → List ℕ) → AreFirstOf plan ks → Composes plan ks wrote → WritesUnsortedBooks plan ks wrote
