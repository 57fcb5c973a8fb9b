-- A batch update as a plan: the network of the worked masters and details.
use Rattle.std.specs.Prelude.{◌≡◌, ℕ, true, false, List, [], ◌∷◌, Some, slice_get, codes}
use Rattle.flow_plan.specs.declared.kind.PortClass.TheVariants.{Stream, Number, Fields, File}
use Rattle.flow_plan.specs.declared.plan.Connection.{Connection}
use Rattle.flow_plan.specs.declared.plan.PortRow.{PortRow}
use Rattle.flow_plan.specs.Network.{Network}
use Rattle.flow_catalogue.specs.declared.standard.Std.{Std}
use Rattle.flow_catalogue.specs.declared.standard.Std.TheVariants as components
use Rattle.flow_meanings.specs.Batches.{IsBatch}
use Rattle.flow_meanings.specs.Composition.{Composes}
use Rattle.flow_determinate.specs.Standard.{AreFirstOf}
use Rattle.flow_witness.specs.Telegram.{plain_row}

-- A connection from an output of a process to an input of another.
abbrev pub line : ℕ → ℕ → ℕ → ℕ → Connection
line sender output receiver input = record { receiver = receiver; input = input; capacity = 10; senders = record { process = sender; output = output } ∷ [] }

-- An output that may be left open.
abbrev pub open_row : PortRow
open_row = record { spec = record { name = codes "REP"; class = Stream; array = false; needed = false }; elements = 1 }

-- A reader of masters and one of details, a Collate and an Update of keys of two bytes, and a writer of new masters and one of what is refused.
abbrev pub nightly : Network
nightly = record {
  processes =
      record { name = codes "Masters"; kind = codes "ReadLines"; options = (0, codes "m") ∷ []; initials = []; inputs = 0; outputs = 1 }
      ∷ record { name = codes "Details"; kind = codes "ReadLines"; options = (0, codes "d") ∷ []; initials = []; inputs = 0; outputs = 1 }
      ∷ record { name = codes "Collate"; kind = codes "Collate"; options = (0, codes "2") ∷ []; initials = []; inputs = 2; outputs = 1 }
      ∷ record { name = codes "Update"; kind = codes "Update"; options = (0, codes "2") ∷ []; initials = []; inputs = 1; outputs = 2 }
      ∷ record { name = codes "New"; kind = codes "WriteLines"; options = (0, codes "n") ∷ []; initials = []; inputs = 1; outputs = 0 }
      ∷ record { name = codes "Rep"; kind = codes "WriteLines"; options = (0, codes "r") ∷ []; initials = []; inputs = 1; outputs = 0 }
      ∷ [];
  connections = line 0 0 2 0 ∷ line 1 0 2 1 ∷ line 2 0 3 0 ∷ line 3 0 4 0 ∷ line 3 1 5 0 ∷ [];
  tables =
      record { inputs = plain_row (codes "FILE") File ∷ []; outputs = plain_row (codes "OUT") Stream ∷ [] }
      ∷ record { inputs = plain_row (codes "FILE") File ∷ []; outputs = plain_row (codes "OUT") Stream ∷ [] }
      ∷ record { inputs = plain_row (codes "FIELDS") Fields ∷ record { spec = record { name = codes "IN"; class = Stream; array = true; needed = true }; elements = 2 } ∷ []; outputs = plain_row (codes "OUT") Stream ∷ [] }
      ∷ record { inputs = plain_row (codes "KEYLEN") (Number 1 255) ∷ plain_row (codes "IN") Stream ∷ []; outputs = plain_row (codes "OUT") Stream ∷ open_row ∷ [] }
      ∷ record { inputs = plain_row (codes "FILE") File ∷ plain_row (codes "IN") Stream ∷ []; outputs = [] }
      ∷ record { inputs = plain_row (codes "FILE") File ∷ plain_row (codes "IN") Stream ∷ []; outputs = [] }
      ∷ [];
}

-- The lines of a worked master file, and those of its detail file.
abbrev pub masters : List (List ℕ)
masters = codes "k1M10" ∷ codes "k2M5" ∷ []

-- One detail adds, one would take too much, and one is for a new key.
abbrev pub details : List (List ℕ)
details = codes "k1+7" ∷ codes "k2-9" ∷ codes "k3N4" ∷ []

-- The network is a batch update; and in each composition of its components in which its readers have these lines, its writers have these files.
pub record NightlyMeans : Type 0 where
  pub is_batch : IsBatch nightly 2 0 1 4 5
  pub files : (ks : List Std) (wrote : ℕ → List ℕ) → AreFirstOf nightly ks → Composes nightly ks wrote → slice_get ks 0 ≡ Some (components.ReadLines masters) → slice_get ks 1 ≡ Some (components.ReadLines details)
      → (wrote 4 ≡ codes "k1M17\nk2M5\nk3M4\n") × (wrote 5 ≡ codes "k2-9\n")
