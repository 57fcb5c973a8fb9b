-- What runs come to where their networks collate, and where they update a master file by a detail file.
use Rattle.std.specs.Prelude.{◌≡◌, ◌⊎◌, List, []}
use Rattle.flow_text.specs.Edge.{Outside}
use Rattle.flow_plan.specs.Network.{Network}
use Rattle.flow_words.specs.Words.{AskedRun, run_of}
use Rattle.flow_catalogue.specs.declared.standard.Std.{Std}
use Rattle.flow_played.specs.Others.{others, as_mixed}
use Rattle.flow_model.specs.States.{State}
use Rattle.flow_model.specs.Schedules.{Journal, Prefix}
use Rattle.flow_model.specs.Plans.{start_of}
use Rattle.flow_journal.specs.Replays.{schedule_of}
use Rattle.flow_meanings.specs.Batches.{AreCollated, WritesBooks}
use Rattle.flow_meanings.specs.SortingBatches.{WritesUnsortedBooks}
use Rattle.flow_load.specs.Causes.{Work, IsRunOf}
use Rattle.flow_cli.specs.Meant.{IsMeant, ChangesNoName}
use Rattle.flow_offer.specs.Processes.{own_processes}
use Rattle.flow_load.specs.Offers.{AnyKind, net_rules, specs_of}
use Rattle.flow_load.specs.Reads.{Asks}
use Rattle.flow_load.specs.Runs.{bytes_in}

-- Wherever a run of standard processes stood, each Collate that had ended there had sent the collation of what its elements got.
abbrev pub CollatesEach : Work → Type 0
CollatesEach w =
    (asked : AskedRun) (plan : Network) (last : State AnyKind) (middle : Outside) (run : IsRunOf w asked plan last middle) (front : Journal) (mid : State AnyKind)
    → Prefix net_rules (start_of plan run.components) (schedule_of w.recorded.journal) last front mid
    → (standard : List Std) → run.components ≡ others standard → (stood : State Std) × (mid ≡ as_mixed stood) × AreCollated standard stood

-- A run left what its network means; and where no process is of a kind of the caller's own, its files have the book of each batch update of sorted files, and of each that sorts its files.
pub record HasBooks (w : Work) (asked : AskedRun) : Type 0 where
  pub meant : IsMeant w asked
  pub books : own_processes (specs_of w.own) meant.whole.plan ≡ [] → (standard : List Std) × (meant.whole.run.components ≡ others standard)
      × WritesBooks meant.whole.plan standard (bytes_in meant.whole.last) × WritesUnsortedBooks meant.whole.plan standard (bytes_in meant.whole.last)

-- A run that finished left what its network means, where all its processes are of standard kinds, and so the books of its batch updates; nothing else leaves any.
abbrev pub LeavesBooks : Work → Type 0
LeavesBooks w = ((asked : AskedRun) × Asks w.words (run_of asked) × HasBooks w asked) ⊎ ChangesNoName w
