-- Who is at the two ends of each connection, and how far they have come there.
use Rattle.std.specs.Prelude.{◌≡◌, ℕ, ◌+◌, ◌≤◌, if◌then◌else◌, Bool, false, List, [], ◌++◌, map, length, Option, Some, None, slice_get, nat_lt, Contains}
use mathlib.Core.Option.{some}
use lib.ListN.{get_elem?}
use Rattle.flow_packet.specs.Tree.{Tree}
use Rattle.flow_plan.specs.declared.plan.Connection.{Connection}
use Rattle.flow_model.specs.Stands.{ChannelShown}
use Rattle.flow_machine.specs.Values.{BodyValue, NetValue}
use Rattle.flow_floor.specs.Wired.{IsInput, IsOutput}
use Rattle.flow_floor.specs.declared.board.Sending.{Sending}
use Rattle.flow_floor.specs.declared.board.Receiving.{Receiving}
use Rattle.flow_floor.specs.declared.board.View.{View}

-- The seat at the sending end of a connection, and how far it has come there; none where no seat is.
abbrev pub Sender : Type 0
Sender = Option (ℕ × Sending)

-- The seat at the receiving end.
abbrev pub Receiver : Type 0
Receiver = Option (ℕ × Receiving)

-- A seat that has come to the sending end of connection c, and done nothing there.
abbrev pub sending_at : ℕ → Sending
sending_at c = record { connection = c; placed = []; out = None; unpublished = 0; unsubtracted = 0; learnt = None }

-- One that has come to the receiving end.
abbrev pub receiving_at : ℕ → Receiving
receiving_at c = record { connection = c; drawn = []; out = None; unwithdrawn = 0 }

-- How far the seat at the sending end of connection c has come, if one is there.
abbrev pub sending_of : ℕ → Sender → Sending
sending_of c (Some sender) = sender.1
sending_of c None = sending_at c

-- How far that at its receiving end has come.
abbrev pub receiving_of : ℕ → Receiver → Receiving
receiving_of c (Some receiver) = receiver.1
receiving_of c None = receiving_at c

-- Several send into the connection, where one has two senders or more.
abbrev pub has_several : Option Connection → Bool
has_several (Some connection) = nat_lt 1 (length connection.senders)
has_several None = false

-- Several send into connection c.
abbrev pub is_shared : {K : Type 0} → NetValue K → ℕ → Bool
is_shared net c = has_several (slice_get net.connections c)

-- The word of a gate: 1 where a seat is at the sending end of a connection into which several send. No gate is taken where one sends.
abbrev pub gate_word : Bool → Sender → ℕ
gate_word shared None = 0
gate_word shared (Some sender) = if shared then 1 else 0

-- The capacity of each connection of a net.
abbrev pub capacities_of : {K : Type 0} → NetValue K → List ℕ
capacities_of net = map (λ (k : ChannelShown). k.capacity) net.channels

-- A level that was learnt lies between the number of packets and the capacity.
abbrev pub IsLearnt : ChannelShown → Option ℕ → Type 0
IsLearnt k (Some level) = (length k.packets ≤ level) × (level ≤ k.capacity)
IsLearnt k None = Unit {0}

-- The drawn packets are the oldest of the connection.
abbrev pub IsDrawn : ChannelShown → List Tree → Type 0
IsDrawn k drawn = (others : List Tree) × (k.packets ≡ drawn ++ others)

-- Of the cells of a connection the i-th from the machine's oldest packet's on is out: the receiver has the cell of the last packet that it drew, or the
-- sender that of the last one that it placed.
abbrev pub IsDrawing : Receiving → ℕ → Type 0
IsDrawing receiving i = (place : ℕ) × (receiving.out ≡ Some place) × (i + 1 ≡ length receiving.drawn)

abbrev pub IsPlacing : ChannelShown → Sending → ℕ → Type 0
IsPlacing k sending i = (place : ℕ) × (sending.out ≡ Some place) × (length k.packets ≤ i) × (i + 1 ≡ length k.packets + length sending.placed)

-- Where the seats of connections are said by such a function, seat j's end, if it has one, is said to be its own.
abbrev pub IsKept : {E : Type 0} → (E → ℕ) → (ℕ → Option (ℕ × E)) → ℕ → Option E → Type 0
IsKept place ends j (Some end) = ends (place end) ≡ Some (j, end)
IsKept place ends j None = Unit {0}

-- The process that is held sends into connection c.
abbrev pub Sends : {K : Type 0} → Option (ℕ × BodyValue K) → ℕ → Type 0
Sends (Some held) c = IsOutput held.1 c
Sends None c = ⊥

-- It receives there.
abbrev pub Receives : {K : Type 0} → Option (ℕ × BodyValue K) → ℕ → Type 0
Receives (Some held) c = IsInput held.1 c
Receives None c = ⊥

-- All takes of a seat at this receiving end are withdrawn, if it is at one.
abbrev pub HasWithdrawn : Option Receiving → Type 0
HasWithdrawn (Some receiving) = receiving.unwithdrawn ≡ 0
HasWithdrawn None = Unit {0}

-- A seat may draw at connection c: it is at no other receiving end, all its takes are withdrawn, and no cell is out.
abbrev pub MayDraw : ℕ → Option Receiving → Type 0
MayDraw c (Some receiving) = (receiving.connection ≡ c) × (receiving.out ≡ None) × (receiving.unwithdrawn ≡ 0)
MayDraw c None = Unit {0}

-- It may place at connection c: it is at that sending end, all its puts are published, and no cell is out.
abbrev pub MayPlace : ℕ → Option Sending → Type 0
MayPlace c (Some sending) = (sending.connection ≡ c) × (sending.out ≡ None) × (sending.unpublished ≡ 0)
MayPlace c None = ⊥

-- All that a seat did at its sending end is stamped and told.
pub record HasTold (sending : Sending) : Type 0 where
  pub placed : sending.placed ≡ []
  pub out : sending.out ≡ None
  pub published : sending.unpublished ≡ 0
  pub subtracted : sending.unsubtracted ≡ 0

-- So it is with a seat that is at the sending end of connection c.
abbrev pub IsToldAt : ℕ → Option Sending → Type 0
IsToldAt c sending = (x : Sending) × (sending ≡ Some x) × (x.connection ≡ c) × HasTold x

-- A seat is at the sending end of connection c, and all its puts there are published.
abbrev pub IsWholeAt : ℕ → Option Sending → Type 0
IsWholeAt c sending = (x : Sending) × (sending ≡ Some x) × (x.connection ≡ c) × (x.unpublished ≡ 0)

-- It has put so many there that aren't published, and closed no sender.
abbrev pub HasPutAt : ℕ → ℕ → Option Sending → Type 0
HasPutAt c puts sending = (x : Sending) × (sending ≡ Some x) × (x.connection ≡ c) × (x.unpublished ≡ puts) × (x.unsubtracted ≡ 0)

-- It has closed a sender there that isn't subtracted, and all its puts are published.
abbrev pub HasClosedAt : ℕ → Option Sending → Type 0
HasClosedAt c sending = (x : Sending) × (sending ≡ Some x) × (x.connection ≡ c) × (x.unpublished ≡ 0) × (x.unsubtracted ≡ 1)

-- A seat at the receiving end of connection c has taken so many there that aren't withdrawn, and has drawn no more.
abbrev pub HasTakenAt : ℕ → ℕ → Option Receiving → Type 0
HasTakenAt c takes receiving = (y : Receiving) × (receiving ≡ Some y) × (y.connection ≡ c) × (y.drawn ≡ []) × (y.out ≡ None) × (y.unwithdrawn ≡ takes)

-- All who receive from connection c of a net are among these; all who send there.
abbrev pub AllReceivers : {K : Type 0} → NetValue K → ℕ → List ℕ → Type 0
AllReceivers {K} net c notes = (q : ℕ) (b : BodyValue K) → slice_get net.bodies q ≡ Some b → IsInput b c → Contains notes q

abbrev pub AllSenders : {K : Type 0} → NetValue K → ℕ → List ℕ → Type 0
AllSenders {K} net c notes = (q : ℕ) (b : BodyValue K) → slice_get net.bodies q ≡ Some b → IsOutput b c → Contains notes q

-- Seat j says so itself: its end is this one, which is at connection c, where its process may be.
pub record IsSaid {K E : Type 0} (place : E → ℕ) (part : View K → Option E) (may : Option (ℕ × BodyValue K) → ℕ → Type 0) (views : List (View K)) (c j : ℕ) (end : E) : Type 0 where
  pub view : View K
  pub there : get_elem? views j ≡ some view
  pub says : part view ≡ Some end
  pub here : place end ≡ c
  pub allowed : may view.held c
