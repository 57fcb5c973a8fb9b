-- How a seat's view goes on by a step, and how views are cut and joined.
use Rattle.std.specs.Prelude.{ℕ, ◌+◌, ◌-◌, ◌==◌, ◌||◌, if◌then◌else◌, List, [], ◌∷◌, ◌++◌, Option, Some, None, is_some, take, drop, unwrap_or}
use Rattle.std.specs.Option.{option_map}
use Rattle.flow_packet.specs.Tree.{Tree}
use Rattle.flow_model.specs.Events.{Event}
use Rattle.flow_machine.specs.Values.{BodyValue}
use Rattle.flow_ring.specs.Words.{level_in}
use Rattle.flow_floor.specs.Turning.{turned_body, sending_after, receiving_after}
use Rattle.flow_floor.specs.Made.{merge}
use Rattle.flow_floor.specs.declared.board.Sending.{Sending}
use Rattle.flow_floor.specs.declared.board.Receiving.{Receiving}
use Rattle.flow_floor.specs.declared.board.View.{View}
use Rattle.flow_floor.specs.declared.board.Look.{Look}
use Rattle.flow_floor.specs.Ends.{sending_at, receiving_at}

-- A turn of the process that a seat holds: the body that makes it, of which the stamps and the level numbers don't count, and what turn it is.
pub record Move (K : Type 0) : Type 0 where
  pub body : BodyValue K
  pub event : Event

module _ {K : Type 0} where
  -- What a step records that read r at word i, made by a seat with this view.
  abbrev pub look_at : View K → ℕ → ℕ → Look
  look_at v i r = record { word = i; read = r; holding = is_some v.sending; at = v.steps + 1 }

  -- One step more was made.
  abbrev pub counting : View K → View K
  counting v = record v { steps = v.steps + 1 }

  -- The step read r at word i, which is the seat's last look now.
  abbrev pub looked : View K → ℕ → ℕ → View K
  looked v i r = record (counting v) { look = look_at v i r }

  -- It read r at the level word i, and keeps that for the present wish.
  abbrev pub seeing : View K → ℕ → ℕ → View K
  seeing v i r = record (looked v i r) { seen = look_at v i r ∷ v.seen }

  -- Process p is held, with this body.
  abbrev pub claiming : View K → ℕ → BodyValue K → View K
  claiming v p b = record (counting v) { held = Some (p, b); seen = []; asked = v.asked ++ p ∷ [] }

  -- Process p was asked for, and its word was r.
  abbrev pub refusing : View K → ℕ → ℕ → View K
  refusing v p r = record (looked v p r) { asked = v.asked ++ p ∷ [] }

  -- The seat has come to the sending end of connection c.
  abbrev pub entering : View K → ℕ → View K
  entering v c = record (counting v) { sending = Some (sending_at c) }

  -- It read the level there, to be told it.
  abbrev pub learning : View K → ℕ → ℕ → View K
  learning v i r = record (seeing v i r) { sending = option_map (λ (x : Sending). record x { learnt = Some (level_in r) }) v.sending }

  -- It places this packet behind the others, at this place, whose cell is out.
  abbrev pub placing : View K → ℕ → Tree → View K
  placing v place packet = record (counting v) { sending = option_map (λ (x : Sending). record x { placed = x.placed ++ packet ∷ []; out = Some place }) v.sending }

  -- The cell is back, with the packet in it.
  abbrev pub filling : View K → View K
  filling v = record (counting v) { sending = option_map (λ (x : Sending). record x { out = None }) v.sending }

  -- How far it has come at the receiving end of connection c, if it is there.
  abbrev pub received_at : View K → ℕ → Receiving
  received_at v c = unwrap_or v.receiving (receiving_at c)

  -- It draws this packet there behind those that it drew before, from this place, whose cell is out.
  abbrev pub drawing : View K → ℕ → ℕ → Tree → View K
  drawing v c place packet = record (counting v) { receiving = Some (record (received_at v c) { drawn = (received_at v c).drawn ++ packet ∷ []; out = Some place }) }

  -- The cell is back, and empty.
  abbrev pub emptying : View K → View K
  emptying v = record (counting v) { receiving = option_map (λ (y : Receiving). record y { out = None }) v.receiving }

  -- The body that a turn makes of the one that the machine has.
  abbrev pub moved : BodyValue K → BodyValue K → BodyValue K
  moved b d = record d { stamps = b.stamps; levels = b.levels }

  abbrev pub held_after : Move K → ℕ → Option (ℕ × BodyValue K) → Option (ℕ × BodyValue K)
  held_after t r (Some held) = Some (held.0, turned_body t.event r (moved held.1 t.body))
  held_after t r None = None

  abbrev pub turn_of : ℕ → Option (ℕ × BodyValue K) → List (ℕ × ℕ)
  turn_of r (Some held) = (r, held.0) ∷ []
  turn_of r None = []

  -- The machine has this turn, with stamp r.
  abbrev pub turning : View K → ℕ → Move K → View K
  turning v r t = record v { held = held_after t r v.held; sending = sending_after t.event v.sending; receiving = receiving_after t.event v.receiving; made = v.made ++ turn_of r v.held; seen = [] }

  -- It has these turns, one after another, with the stamps from r on.
  abbrev pub all_turned : View K → ℕ → List (Move K) → View K
  all_turned v r [] = v
  all_turned v r (t ∷ turns) = all_turned (turning v r t) (r + 1) turns

  -- One step stamps them all.
  abbrev pub stamping : View K → ℕ → List (Move K) → View K
  stamping v r turns = all_turned (counting v) r turns

  -- All puts are published, and these processes are noted.
  abbrev pub publishing : View K → List ℕ → View K
  publishing v notes = record (counting v) { sending = option_map (λ (x : Sending). record x { unpublished = 0 }) v.sending; noted = notes ++ v.noted }

  -- The close is subtracted.
  abbrev pub subtracting : View K → List ℕ → View K
  subtracting v notes = record (counting v) { sending = option_map (λ (x : Sending). record x { unsubtracted = 0 }) v.sending; noted = notes ++ v.noted }

  -- All takes are withdrawn, and the seat has gone from its receiving end.
  abbrev pub withdrawing : View K → List ℕ → View K
  withdrawing v notes = record (counting v) { receiving = None; noted = notes ++ v.noted }

  -- It has gone from its sending end.
  abbrev pub exiting : View K → View K
  exiting v = record (counting v) { sending = None }

  -- The process that is held, in a list.
  abbrev pub held_one : Option (ℕ × BodyValue K) → List ℕ
  held_one (Some held) = held.0 ∷ []
  held_one None = []

  abbrev pub leaving : View K → View K
  leaving v = record (counting v) { held = None; seen = []; readied = v.readied ++ held_one v.held }

  abbrev pub parking : View K → View K
  parking v = record (counting v) { held = None; seen = []; spare = v.spare + 1 }

  abbrev pub raising : View K → View K
  raising v = record (counting v) { spare = v.spare + 1 }

  -- The first noted process is struck off.
  abbrev pub striking : View K → View K
  striking v = record (counting v) { noted = drop 1 v.noted }

  abbrev pub poking : View K → ℕ → View K
  poking v r = record (counting v) { noted = drop 1 v.noted; spare = if r == 0 then v.spare - 1 else v.spare; readied = if r == 0 then v.readied ++ take 1 v.noted else v.readied }

  abbrev pub lowering : View K → View K
  lowering v = record (counting v) { spare = v.spare - 1 }

  abbrev pub reading : View K → ℕ → ℕ → View K
  reading v i r = record (looked v i r) { read_zero = v.read_zero || (r == 0) }

  -- A view with one share given away.
  abbrev pub cut : View K → View K
  cut v = record v { shares = v.shares - 1 }

  -- Two views of workers as one.
  abbrev pub merged : View K → View K → View K
  merged v w = record v { shares = v.shares + w.shares; made = merge w.made v.made; read_zero = v.read_zero || w.read_zero }
