-- Other ends than that of the chain: a deadlock, a failure, and a merge with two outcomes.
use Rattle.std.specs.Prelude.{◌≡◌, ℕ, Bool, List, [], ◌∷◌, ◌++◌, replicate, codes, Some, slice_get}
use Rattle.flow_packet.specs.Held.{Held}
use Rattle.flow_component.specs.declared.Answer.{Answer}
use Rattle.flow_component.specs.declared.Shape.{Shape}
use Rattle.flow_component.specs.declared.Fail.TheVariants as fails
use Rattle.flow_component.specs.Laws.{Rules, Outcome, Fails}
use Rattle.flow_component.specs.Ports.{uses_none}
use Rattle.flow_plan.specs.declared.kind.PortClass.TheVariants.{Stream, File}
use Rattle.flow_plan.specs.declared.plan.PortTable.{PortTable}
use Rattle.flow_plan.specs.Network.{Network}
use Rattle.flow_model.specs.States.{Process, State}
use Rattle.flow_model.specs.Schedules.{Journal, Leads}
use Rattle.flow_model.specs.Verdicts.{IsFinished, IsFailed, IsDeadlock}
use Rattle.flow_model.specs.Plans.{start_of, StartsWell}
use Rattle.flow_catalogue.specs.declared.standard.Std.{Std}
use Rattle.flow_catalogue.specs.declared.standard.Std.TheVariants as components
use Rattle.flow_catalogue.specs.Std.{std_rules}
use Rattle.flow_witness.specs.Chain.{plain_row, reader_of, pass_of, writer_of, link_of}
use Rattle.flow_witness.specs.FirstRun.{passing}

-- The ports of a process that passes on, of a reader and of a writer.
abbrev pub pass_ports : PortTable
pass_ports = record { inputs = plain_row (codes "IN") Stream ∷ []; outputs = plain_row (codes "OUT") Stream ∷ [] }

abbrev pub reader_ports : PortTable
reader_ports = record { inputs = plain_row (codes "FILE") File ∷ []; outputs = plain_row (codes "OUT") Stream ∷ [] }

abbrev pub writer_ports : PortTable
writer_ports = record { inputs = plain_row (codes "FILE") File ∷ plain_row (codes "IN") Stream ∷ []; outputs = [] }

-- A ring of two processes that pass on what they get.
abbrev pub ring : Network
ring = record {
  processes = pass_of (codes "A") ∷ pass_of (codes "B") ∷ [];
  connections = link_of 0 1 ∷ link_of 1 0 ∷ [];
  tables = pass_ports ∷ pass_ports ∷ [];
}

-- The components of the ring.
abbrev pub ring_components : List Std
ring_components = components.Passthru passing ∷ components.Passthru passing ∷ []

-- The ring starts well, and is a deadlock from the first on: each of the two waits for the other.
pub record IsStuck : Type 0 where
  pub starts : StartsWell std_rules ring ring_components
  pub deadlock : IsDeadlock (start_of ring ring_components)

-- A component without ports that fails whatever it is told.
abbrev pub Faulty : Type 0
Faulty = Unit {0}

-- It has no ports.
abbrev pub faulty_shape : Faulty → Shape
faulty_shape component = record { inputs = 0; outputs = 0 }

-- It uses no port.
abbrev pub faulty_uses : Faulty → ℕ → Bool
faulty_uses component = uses_none

-- It may be told anything at any time.
abbrev pub FaultyReady : Faulty → Held → Answer → Type 0
FaultyReady component held answer = Unit {0}

-- It fails as soon as it is started.
abbrev pub faulty_next : Faulty → Held → Answer → Outcome Faulty
faulty_next component held answer = Fails component held fails.HandsLimit

abbrev pub FaultyNext : Faulty → Held → Answer → Outcome Faulty → Type 0
FaultyNext component held answer outcome = outcome ≡ faulty_next component held answer

-- All that a network knows of it.
abbrev pub faulty_rules : Rules Faulty
faulty_rules = record { shape = faulty_shape; uses = faulty_uses; ready = FaultyReady; next = FaultyNext }

-- A network of one such process.
abbrev pub alone : Network
alone = record {
  processes = record { name = codes "A"; kind = codes "Faulty"; options = []; initials = []; inputs = 0; outputs = 0 } ∷ [];
  connections = [];
  tables = record { inputs = []; outputs = [] } ∷ [];
}

-- That one component.
abbrev pub alone_components : List Faulty
alone_components = tt ∷ []

-- It starts well, and its one turn leads to a state in which it has failed and nothing goes on.
pub record IsFailure : Type 0 where
  pub starts : StartsWell faulty_rules alone alone_components
  pub last : State Faulty
  pub leads : Leads faulty_rules (start_of alone alone_components) (record { turns = 0 ∷ []; seen = [] }) last
  pub failed : IsFailed last

-- Two readers that send to one connection, and a writer that receives from it.
abbrev pub merge : Network
merge = record {
  processes = reader_of (codes "A") (codes "a.txt") ∷ reader_of (codes "B") (codes "b.txt") ∷ writer_of (codes "W") (codes "out.txt") ∷ [];
  connections = record { receiver = 2; input = 0; capacity = 10; senders = record { process = 0; output = 0 } ∷ record { process = 1; output = 0 } ∷ [] } ∷ [];
  tables = reader_ports ∷ reader_ports ∷ writer_ports ∷ [];
}

-- One has the line a, the other the line b.
abbrev pub merge_components : List Std
merge_components = components.ReadLines ((97 ∷ []) ∷ []) ∷ components.ReadLines ((98 ∷ []) ∷ []) ∷ components.WriteLines [] ∷ []

-- Turns of one reader, turns of the other, and turns of the writer.
abbrev pub first_then : ℕ → ℕ → Journal
first_then p q = record { turns = (replicate 5 p ++ replicate 5 q) ++ replicate 6 2; seen = [] }

-- A schedule with this journal leads to an end in which every process has ended, and the writer has these bytes.
pub record MergesTo (journal : Journal) (bytes : List ℕ) : Type 0 where
  pub last : State Std
  pub leads : Leads std_rules (start_of merge merge_components) journal last
  pub finished : IsFinished last
  pub writer : Process Std
  pub there : slice_get last.kept.processes 2 ≡ Some writer
  pub written : writer.component ≡ components.WriteLines bytes

-- The merge starts well, and finishes with either line first: which one is up to the schedule.
pub record IsMerge : Type 0 where
  pub starts : StartsWell std_rules merge merge_components
  pub one : MergesTo (first_then 0 1) (97 ∷ 10 ∷ 98 ∷ 10 ∷ [])
  pub other : MergesTo (first_then 1 0) (98 ∷ 10 ∷ 97 ∷ 10 ∷ [])
