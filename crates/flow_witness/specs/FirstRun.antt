-- The first run: a chain that copies one line. Its network is written out here as the builder could have made it; nothing is built.
use Rattle.std.specs.Prelude.{◌≡◌, List, [], ◌∷◌, ◌++◌, replicate, codes, Some, None, Ok, ℕ, slice_get}
use Rattle.flow_plan.specs.Network.{Network}
use Rattle.flow_plan.specs.declared.kind.PortRef.{PortRef}
use Rattle.flow_parse.specs.declared.value.NetPart.{NetPart}
use Rattle.flow_parse.specs.declared.value.Statement.TheVariants.{Connect, Initial}
use Rattle.flow_flat.specs.Faults.{ComesTo}
use Rattle.flow_catalogue.specs.Kinds.{std_kinds}
use Rattle.flow_witness.specs.Chain.{chain_of}
use Rattle.flow_streams.specs.declared.passthru.Passthru.{Passthru}
use Rattle.flow_catalogue.specs.declared.standard.Std.{Std}
use Rattle.flow_catalogue.specs.declared.standard.Std.TheVariants as components
use Rattle.flow_catalogue.specs.Std.{std_rules}
use Rattle.flow_model.specs.States.{Process, State}
use Rattle.flow_model.specs.Schedules.{Journal}
use Rattle.flow_model.specs.Places.{places}
use Rattle.flow_model.specs.Verdicts.{IsFinished}
use Rattle.flow_model.specs.Robin.{RoundRobin}
use Rattle.flow_model.specs.Plans.{start_of, StartsWell}

-- The plan: the names and the files of the first example.
abbrev pub first_network : Network
first_network = chain_of (codes "Read") (codes "in.txt") (codes "Pass") (codes "Write") (codes "out.txt")

-- A port that is named without an element.
abbrev pub port_named : List ℕ → PortRef
port_named name = record { name = name; element = None }

-- What a network file says of it: three processes with their kinds, two files and two connections.
abbrev pub first_component : NetPart
first_component = record {
  processes = (codes "Read", codes "ReadLines") ∷ (codes "Pass", codes "Passthru") ∷ (codes "Write", codes "WriteLines") ∷ [];
  statements =
      Initial (codes "in.txt") (codes "Read") (port_named (codes "FILE"))
      ∷ Connect (codes "Read") (port_named (codes "OUT")) None (codes "Pass") (port_named (codes "IN"))
      ∷ Connect (codes "Pass") (port_named (codes "OUT")) None (codes "Write") (port_named (codes "IN"))
      ∷ Initial (codes "out.txt") (codes "Write") (port_named (codes "FILE"))
      ∷ [];
}

-- A component that passes on.
abbrev pub passing : Passthru
passing = record {}

-- The components: the reader has the one line x.
abbrev pub first_components : List Std
first_components = components.ReadLines ((120 ∷ []) ∷ []) ∷ components.Passthru passing ∷ components.WriteLines [] ∷ []

-- The start.
abbrev pub first_start : State Std
first_start = start_of first_network first_components

-- Five turns of the reader, seven of the process that passes on, five of the writer.
abbrev pub first_journal : Journal
first_journal = record { turns = (replicate 5 0 ++ replicate 7 1) ++ replicate 5 2; seen = [] }

-- The network is the plan of that part; the plan with these components starts well; the journal is its round robin, after which every process has ended, no packet is left, and the writer has
-- the line and a line feed.
pub record IsFirstRun : Type 0 where
  pub planned : ComesTo std_kinds first_component (Ok first_network)
  pub starts : StartsWell std_rules first_network first_components
  pub last : State Std
  pub round : RoundRobin std_rules first_start first_journal last
  pub finished : IsFinished last
  pub empty : places last ≡ []
  pub writer : Process Std
  pub there : slice_get last.kept.processes 2 ≡ Some writer
  pub written : writer.component ≡ components.WriteLines (120 ∷ 10 ∷ [])
