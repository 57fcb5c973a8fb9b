-- The component that asks for a level, in the shape of a process.
use Rattle.std.specs.Prelude.{ℕ}
use Rattle.flow_plan.specs.declared.plan.Process.{Process}
use Rattle.flow_plan.specs.Network.{Network, HasOutput}
use Rattle.flow_plan.specs.Valid.{HasSender}
use Rattle.flow_rig.specs.declared.asker.Asker.{Asker}

-- The component that asks for levels, for a process of a plan.
abbrev pub asker_of : Process → Asker
asker_of process = record { shape = record { inputs = process.inputs; outputs = process.outputs } }

-- Each output of each process has its connection.
abbrev pub IsAllConnected : Network → Type 0
IsAllConnected network = (p o : ℕ) → HasOutput network p o → HasSender network p o
