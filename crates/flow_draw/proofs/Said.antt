-- What is said of a net is what is said of the state that it stands for.
use Rattle.std.proofs.Common.{◌≡◌, ℕ, suc, ◌+◌, List, [], ◌∷◌, ◌++◌, map, take, length, Option, Some, None, refl, ◌∙◌, ap}
use mathlib.Core.Path.{ap₂}
use Rattle.std.specs.Prelude.{slice_get, option_and_then, unwrap_or}
use Rattle.flow_component.specs.Laws.{Rules}
use Rattle.flow_plan.specs.Network.{Network}
use Rattle.flow_model.specs.declared.Block.{Block}
use Rattle.flow_model.specs.States.{Process, Channel, Put, State}
use Rattle.flow_model.specs.Events.{Look, looks}
use Rattle.flow_model.specs.Verdicts.{block_of}
use Rattle.flow_model.specs.Stands.{ChannelShown, channels_from, look_shown}
use Rattle.flow_model.proofs.Stands.{looks-shown}
use Rattle.flow_machine.specs.declared.answers.Status.{Status}
use Rattle.flow_machine.specs.Answers.{status_of}
use Rattle.flow_machine.specs.Values.{BodyValue, NetValue}
use Rattle.flow_machine.specs.Joins.{processes_of}
use Rattle.flow_machine.specs.Nets.{block_at, looks_of}
use Rattle.flow_cycle.specs.declared.Waits.{Waits}
use Rattle.flow_cycle.specs.Nets.{IsCycleOf, IsReached}
use Rattle.flow_report.specs.Of.{told_from}
use Rattle.flow_report.specs.States.{TellsWaits}
use Rattle.flow_report.proofs.Shown.{processes-shown}
use Rattle.flow_report.proofs.Tellings.{process-there, told-step}
use Rattle.flow_drawing.specs.declared.drawing.Remark.{Remark}
use Rattle.flow_drawing.specs.declared.drawing.Remarks.{Remarks}
use Rattle.flow_draw.specs.States.{channel_said, connection_remark, connection_said, process_remark, process_said, remarks_in, TellsOf}

-- What is said of one process more.
pub process-step : {K : Type 0} (plan : Network) (cycle : List Waits) (net : NetValue K) (p : ℕ) (b : BodyValue K) (status : Status) (block : Option Block)
    (remark : Remark) (before after : List Remark)
    → slice_get net.bodies p ≡ Some b → status ≡ status_of b.process.stage → block ≡ block_at net p → remark ≡ process_remark plan cycle p status block
    → before ≡ told_from (process_said plan cycle (looks_of net.channels)) 0 (take p (processes_of net.bodies)) → after ≡ before ++ remark ∷ []
    → after ≡ told_from (process_said plan cycle (looks_of net.channels)) 0 (take (suc p) (processes_of net.bodies))
process-step {K} plan cycle net p b status block remark before after there status_is block_is is so_far grown =
    let found : block ≡ block_of (looks_of net.channels) b.process = block_is
    ∙ ap (option_and_then (λ (x : BodyValue K). block_of (looks_of net.channels) x.process)) there in
    told-step (process_said plan cycle (looks_of net.channels)) (processes_of net.bodies) p b.process [] before after (process-there net.bodies p b there)
    so_far
    (grown ∙ ap (λ (r : Remark). before ++ r ∷ []) (is ∙ ap₂ (process_remark plan cycle p) status_is found))

-- What is said of one connection more.
pub channel-step : (cycle : List Waits) (channels : List ChannelShown) (c : ℕ) (x : ChannelShown) (level capacity : ℕ) (remark : Remark)
    (before after : List Remark)
    → slice_get channels c ≡ Some x → level ≡ length x.packets → capacity ≡ x.capacity → remark ≡ connection_remark cycle c level capacity
    → before ≡ told_from (channel_said cycle) 0 (take c channels) → after ≡ before ++ remark ∷ []
    → after ≡ told_from (channel_said cycle) 0 (take (suc c) channels)
channel-step cycle channels c x level capacity remark before after there level_is capacity_is is so_far grown =
    told-step (channel_said cycle) channels c x [] before after there so_far
    (grown ∙ ap (λ (r : Remark). before ++ r ∷ []) (is ∙ ap₂ (connection_remark cycle c) level_is capacity_is))

-- What is said of the connections of a state.
channels-said : (cycle : List Waits) (put : ℕ → List Put) (c : ℕ) (xs : List Channel)
    → told_from (channel_said cycle) c (channels_from put c xs) ≡ told_from (connection_said cycle) c xs
channels-said cycle put c [] = refl
channels-said cycle put c (x ∷ xs) = ap (λ l. connection_said cycle c x ++ l) (channels-said cycle put (c + 1) xs)

-- What is said of a net tells of each state that it stands for.
pub tells-of : {K : Type 0} (rules : Rules K) (plan : Network) (net : NetValue K) (cycle : List Waits) (s : State K) (remarks : Remarks)
    → IsReached rules plan net s → TellsWaits plan s cycle
    → remarks ≡ remarks_in plan cycle net → TellsOf plan s remarks
tells-of {K} rules plan net cycle s remarks reached waits is =
    let stands = reached.stands in
    let xs = s.kept.processes in
    let cs = s.kept.channels in
    let channels : net.channels ≡ channels_from s.past.put 0 cs = ap (λ v. v.channels) stands in
    let procs : processes_of net.bodies ≡ xs = processes-shown s.past.dropped 0 net.bodies xs (ap (λ v. v.bodies) stands) in
    let looked : looks_of net.channels ≡ looks cs = ap (λ (l : List ChannelShown). map look_shown l) channels ∙ looks-shown s.past.put 0 cs in
    let processes : told_from (process_said plan cycle (looks_of net.channels)) 0 (processes_of net.bodies)
    ≡ told_from (process_said plan cycle (looks cs)) 0 xs =
    ap (λ (ls : List Look). told_from (process_said plan cycle ls) 0 (processes_of net.bodies)) looked
    ∙ ap (λ (l : List (Process K)). told_from (process_said plan cycle (looks cs)) 0 l) procs in
    let connections : told_from (channel_said cycle) 0 net.channels ≡ told_from (connection_said cycle) 0 cs =
    ap (λ (l : List ChannelShown). told_from (channel_said cycle) 0 l) channels ∙ channels-said cycle s.past.put 0 cs in
    record {
      cycle = cycle;
      waits = waits;
      are = is ∙ ap₂ (λ (p : List Remark) (c : List Remark). let all : Remarks = record { processes = p; connections = c } in all) processes connections;
    }

-- The cycle that was found is that of the state, and where none was found there is none.
pub waits-tell : {K : Type 0} (plan : Network) (s : State K) (found : Option (List Waits)) → IsCycleOf plan s found → TellsWaits plan s (unwrap_or found [])
waits-tell plan s (Some cycle) is = record { cycle = λ deadlock. is.1; none = λ not. absurd (not is.0) }
waits-tell plan s None is = record { cycle = λ deadlock. absurd (is deadlock); none = λ not. refl }

-- The same of what is said of the processes and of the connections by themselves, each with the cycle that was found.
pub tells-by : {K : Type 0} (rules : Rules K) (plan : Network) (net : NetValue K) (cycle one other : List Waits) (s : State K)
    (processes connections : List Remark) → one ≡ cycle → other ≡ cycle
    → processes ≡ told_from (process_said plan one (looks_of net.channels)) 0 (processes_of net.bodies)
    → connections ≡ told_from (channel_said other) 0 net.channels
    → IsReached rules plan net s → TellsWaits plan s cycle → TellsOf plan s (record { processes = processes; connections = connections })
tells-by rules plan net cycle one other s processes connections one_is other_is processes_are connections_are reached waits =
    let p : processes ≡ told_from (process_said plan cycle (looks_of net.channels)) 0 (processes_of net.bodies) =
    processes_are ∙ ap (λ (l : List Waits). told_from (process_said plan l (looks_of net.channels)) 0 (processes_of net.bodies)) one_is in
    let c : connections ≡ told_from (channel_said cycle) 0 net.channels = connections_are
    ∙ ap (λ (l : List Waits). told_from (channel_said l) 0 net.channels) other_is in
    tells-of rules plan net cycle s (record { processes = processes; connections = connections }) reached waits
    (ap₂ (λ (ps : List Remark) (cs : List Remark). let all : Remarks = record { processes = ps; connections = cs } in all) p c)
