-- What a drawing says of a state of a network: what each process does, and how full each connection is.
use Rattle.std.specs.Prelude.{◌≡◌, ℕ, ◌==◌, Bool, List, [], ◌∷◌, ◌++◌, length, codes, Some, None, is_some, if◌then◌else◌}
use Rattle.std.specs.declared.option.Option.{Option}
use Rattle.std.specs.Fmt.{decimal}
use Rattle.std.specs.List.{list_any}
use Rattle.flow_plan.specs.Network.{Network}
use Rattle.flow_model.specs.declared.Block.{Block}
use Rattle.flow_model.specs.declared.Block.TheVariants.{Empty, Full, Dormant}
use Rattle.flow_model.specs.States.{Process, Channel, Kept, State}
use Rattle.flow_model.specs.Events.{Look, looks}
use Rattle.flow_model.specs.Verdicts.{block_of}
use Rattle.flow_model.specs.Stands.{ChannelShown}
use Rattle.flow_machine.specs.declared.answers.Status.{Status}
use Rattle.flow_machine.specs.Answers.{status_of}
use Rattle.flow_machine.specs.Values.{NetValue}
use Rattle.flow_machine.specs.Joins.{processes_of}
use Rattle.flow_machine.specs.Nets.{looks_of}
use Rattle.flow_cycle.specs.declared.Waits.{Waits}
use Rattle.flow_report.specs.Of.{told_from}
use Rattle.flow_report.specs.States.{TellsWaits}
use Rattle.flow_report.specs.Text.{status_text}
use Rattle.flow_drawing.specs.Ports.{input_text, output_text}
use Rattle.flow_drawing.specs.declared.drawing.Mark.{Mark}
use Rattle.flow_drawing.specs.declared.drawing.Mark.TheVariants.{Plain, Blocked, Cycle}
use Rattle.flow_drawing.specs.declared.drawing.Remark.{Remark}
use Rattle.flow_drawing.specs.declared.drawing.Remarks.{Remarks}

-- What process p waits for, in the words of a report: a packet at an input, room at an output, or to be woken.
abbrev pub block_text : Network → ℕ → Option Block → List ℕ
block_text plan p None = []
block_text plan p (Some (Empty c port)) = codes ", empty " ++ input_text plan p port.0
block_text plan p (Some (Full c port)) = codes ", full " ++ output_text plan p port.0
block_text plan p (Some Dormant) = codes ", dormant"

-- Whether process p is one of those that wait in this cycle.
abbrev pub waits_in : List Waits → ℕ → Bool
waits_in cycle p = list_any (λ (w : Waits). w.process == p) cycle

-- Whether one of them waits at connection c.
abbrev pub waits_at : List Waits → ℕ → Bool
waits_at cycle c = list_any (λ (w : Waits). w.connection == c) cycle

-- The mark of process p.
abbrev pub process_mark : List Waits → ℕ → Option Block → Mark
process_mark cycle p block = if waits_in cycle p then Cycle else (if is_some block then Blocked else Plain)

-- What is said of process p: its status, and what it waits for where it is blocked. One of the cycle is marked, and else one that is blocked.
abbrev pub process_remark : Network → List Waits → ℕ → Status → Option Block → Remark
process_remark plan cycle p status block = record { note = status_text status ++ block_text plan p block; mark = process_mark cycle p block }

-- What is said of connection c: how many packets are there, and how many it takes. One at which a process of the cycle waits is marked.
abbrev pub connection_remark : List Waits → ℕ → (level capacity : ℕ) → Remark
connection_remark cycle c level capacity = record {
  note = codes "level " ++ decimal level ++ codes " of " ++ decimal capacity;
  mark = if waits_at cycle c then Cycle else Plain;
}

-- What is said of a process where the connections look so.
abbrev pub process_said : {K : Type 0} → Network → List Waits → List Look → ℕ → Process K → List Remark
process_said plan cycle channels p x = process_remark plan cycle p (status_of x.stage) (block_of channels x) ∷ []

-- What is said of a connection.
abbrev pub connection_said : List Waits → ℕ → Channel → List Remark
connection_said cycle c x = connection_remark cycle c (length x.packets) x.capacity ∷ []

-- What is said of what is kept of a network, where these processes wait for one another in a cycle: of each process and of each connection, by their numbers.
abbrev pub remarks_on : {K : Type 0} → Network → List Waits → Kept K → Remarks
remarks_on plan cycle kept = record {
  processes = told_from (process_said plan cycle (looks kept.channels)) 0 kept.processes;
  connections = told_from (connection_said cycle) 0 kept.channels;
}

-- These remarks tell of a state: they are those on what is kept there, with the cycle of a deadlock where it is one, and with none where it is no deadlock.
pub record TellsOf {K : Type 0} (plan : Network) (s : State K) (remarks : Remarks) : Type 0 where
  pub cycle : List Waits
  pub waits : TellsWaits plan s cycle
  pub are : remarks ≡ remarks_on plan cycle s.kept

-- What is said of a connection as a net shows it.
abbrev pub channel_said : List Waits → ℕ → ChannelShown → List Remark
channel_said cycle c x = connection_remark cycle c (length x.packets) x.capacity ∷ []

-- What is said of a net.
abbrev pub remarks_in : {K : Type 0} → Network → List Waits → NetValue K → Remarks
remarks_in plan cycle net = record {
  processes = told_from (process_said plan cycle (looks_of net.channels)) 0 (processes_of net.bodies);
  connections = told_from (channel_said cycle) 0 net.channels;
}
