-- A worker may go to a thread, and its floor may be shared by all, wherever a component may go to one. The parts of both are taken one by one: a search
-- over all of them at once meets its limits.
use mir.Syntax.{Lifetime}
use base.Fml.{Lft}
use denote.Builtin.{u64}
use denote.RattleType.{RattleType}
use denote.Ref.{ShrRef}
use denote.Param.Send.{IsSend, IsSync, sendable}
use Rattle.std.proofs.Crossing as heap
use Rattle.std.proofs.Crossing.{crosses}
use Rattle.std.specs.contracts.alloc.Global as Heap
use Rattle.std.specs.contracts.impls.GlobalAllocator.TheImpl.{ghosts}
use Rattle.std.specs.contracts.option.Option as Option
use Rattle.std.specs.contracts.vec.Vec as Vec
use Rattle.atomic_table.specs.declared.shared.TableRule as Rule
use Rattle.atomic_table.specs.contracts.owned.Table as Table
use Rattle.atomic_table.proofs.shared.Seat.TheSendSync as Seat
use Rattle.atomic_table.proofs.shared.Shared.TheSendSync as Shared
use Rattle.atomic_table.proofs.send_lease.SendLease.TheSendSync as Lease
use Rattle.flow_component.specs.declared.Component as Component
use Rattle.flow_packet.specs.contracts.packet.Packet as Packet
use Rattle.flow_packet.proofs.packet.Packet.TheLaws.TheKnot as PacketLaws
use Rattle.flow_packet.specs.contracts.hands.Hands as Hands
use Rattle.flow_plan.specs.contracts.plan.Connection as Connection
use Rattle.flow_machine.specs.contracts.inlet.Inlet as Inlet
use Rattle.flow_machine.specs.contracts.body.Body as Body
use Rattle.flow_floor.specs.contracts.board.Slot as Slot
use Rattle.flow_floor.specs.contracts.floor.Worker as Worker
use Rattle.flow_floor.specs.contracts.rack.Rack as Rack
use Rattle.flow_floor.specs.contracts.roll.Roll as Roll
use Rattle.flow_ring.specs.contracts.layout.Layout as Layout
use Rattle.flow_floor.specs.contracts.floor.Floor as Floor
use Rattle.flow_runner.specs.contracts.line.Line as Line
use Rattle.flow_runner.specs.contracts.line.LinePass as LinePass
use Rattle.flow_runner.specs.contracts.lines.Post as Post
use Rattle.flow_runner.specs.contracts.lines.Lines as Lines
use Rattle.flow_runner.specs.contracts.watch.Watch as Watch
use Rattle.flow_runner.specs.contracts.server.Server as Server
use Rattle.flow_runner.proofs.rest.Bell.TheSendSync as Bell
use Rattle.flow_runner.proofs.lines.Told.TheSendSync as ToldSync
use Rattle.flow_runner.specs.contracts.lines.Told as Told
use Rattle.flow_runner.proofs.lines.Common.TheSendSync as CommonSync
use Rattle.flow_runner.specs.contracts.lines.Common as Common
use Rattle.flow_runner.proofs.paces.Pace.TheSendSync as PaceSync
use Rattle.flow_runner.specs.contracts.paces.Pace as Pace
use Rattle.crossbeam_utils.specs.contracts.cache_padded.CachePadded as Padded

inlet-send : IsSend Inlet.the_row
inlet-send = search (sendable, crosses) depth 20

packet-send : IsSend Packet.the_row
packet-send = search (sendable, crosses, PacketLaws.send-Packet) depth 20

hands-send : IsSend Hands.the_row
hands-send = search (sendable, crosses, packet-send) depth 20

body-send : (K : RattleType) (g : Component.Ghosts K.Denot) → IsSend K → IsSend (Body.the_row K g)
body-send K g s = search (sendable, crosses, inlet-send, hands-send) depth 40 fits 10000

-- A body on the heap.
rack-send : (K : RattleType) (g : Component.Ghosts K.Denot) → IsSend K → IsSend (Rack.the_row K g)
rack-send K g s = search (sendable, crosses, body-send) depth 20

slot-send : (K : RattleType) (g : Component.Ghosts K.Denot) → IsSend K → IsSend (Slot.the_row K g)
slot-send K g s = search (sendable, rack-send, packet-send) depth 20

-- A list of processes.
roll-send : IsSend Roll.the_row
roll-send = search (sendable, crosses) depth 20

-- A worker has a seat at the table, and such a list.
pub worker-send : (K : RattleType) (g : Component.Ghosts K.Denot) → IsSend K → IsSend (Worker.the_row K g)
worker-send K g s = search (sendable, crosses, slot-send, Seat.the_send, roll-send) depth 40 fits 10000

-- a table on the heap, whose leases of words and of slots stay with it
table-sync : (S V K P : RattleType) (g : Rule.Ghosts P.Denot S.Denot V.Denot K.Denot) → IsSend S → IsSync (Table.the_field S V K P Heap.the_row g ghosts).row
table-sync S V K P g s =
    let shared = Shared.the_sync S V K P g s in
    let words = Lease.the_sync u64 Heap.the_row ghosts heap.send (record { frees = heap.frees.frees }) in
    let slots = Lease.the_sync S Heap.the_row ghosts heap.send (record { frees = heap.frees.frees }) in
    search (sendable, heap.sync) depth 20

connection-sync : IsSync Connection.the_row
connection-sync = search (sendable, crosses) depth 20

connections-sync : IsSync (Vec.the_row Connection.the_row Heap.the_row ghosts)
connections-sync = search (sendable, crosses, connection-sync) depth 20

-- Where words and slots lie.
layout-sync : IsSync (Layout.the_field).row
layout-sync = search (sendable, crosses) depth 20

-- A floor has the table, where its words and slots lie, and the plan's connections.
pub floor-sync : (K : RattleType) (g : Component.Ghosts K.Denot) → IsSend K → IsSync (Floor.the_row K g)
floor-sync K g s = let slot = slot-send K g s in search (sendable, table-sync, layout-sync, connections-sync) depth 20

-- A pass of the line.
pass-send : IsSend LinePass.the_row
pass-send = search (sendable, Seat.the_send) depth 20

-- A worker with its passes.
passes-send : IsSend (Vec.the_row LinePass.the_row Heap.the_row ghosts)
passes-send = search (sendable, crosses, pass-send) depth 20

watch-send : IsSend Watch.the_row
watch-send = search (sendable, crosses) depth 20

-- A worker with its passes may go to another thread where its components may.
pub server-send : (K : RattleType) (g : Component.Ghosts K.Denot) → IsSend K → IsSend (Server.the_row K g)
server-send K g s = let worker = worker-send K g s in search (sendable, crosses, Seat.the_send, slot-send, passes-send, watch-send) depth 40 fits 10000

-- The line.
pub line-sync : IsSync Line.the_row
line-sync = search (sendable, crosses, table-sync, Bell.the_sync) depth 20

-- The same, with what it says of its parts.
line-field : IsSync (Line.the_field).row
line-field = search (sendable, crosses, table-sync, Bell.the_sync) depth 20

-- What a worker tells and is told, with nothing beside it.
padded-sync : IsSync (Padded.the_row Told.the_row)
padded-sync = search (sendable, crosses, ToldSync.the_sync) depth 20

-- What all have in common.
common-sync : IsSync (Padded.the_row Common.the_row)
common-sync = search (sendable, crosses, CommonSync.the_sync) depth 20

-- A line, and what its worker tells and is told.
post-sync : IsSync Post.the_row
post-sync = search (sendable, crosses, line-field, padded-sync) depth 20

posts-sync : IsSync (Vec.the_row Post.the_row Heap.the_row ghosts)
posts-sync = search (sendable, crosses, post-sync) depth 20

paces-sync : IsSync (Vec.the_row Pace.the_row Heap.the_row ghosts)
paces-sync = search (sendable, crosses, PaceSync.the_sync) depth 20

-- All lines, and the paces of the processes.
pub lines-sync : IsSync Lines.the_row
lines-sync = search (sendable, crosses, posts-sync, paces-sync, Bell.the_sync, common-sync) depth 20

-- So may a reference to a budget.
pub budget-sync : (ℓ : Lifetime) (κ : Lft) → IsSync (ShrRef ℓ κ (Option.the_row u64))
budget-sync ℓ κ = search sendable depth 20
