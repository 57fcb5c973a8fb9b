-- What a worker has in the midst of a turn.
use Rattle.std.proofs.Common.{◌≡◌, ℕ, ◌<◌, List, [], ◌∷◌, ◌++◌, Option, None, Some, slice_get, refl, sym, ap, ◌∙◌, subst}
use Rattle.std.specs.Prelude.{option_and_then, unwrap_or}
use Rattle.std.specs.Option.{option_map}
use Rattle.atomic_table.specs.Seated.{TableId}
use Rattle.flow_packet.specs.Tree.{Tree}
use Rattle.flow_component.specs.Laws.{Rules, Lawful}
use Rattle.flow_model.specs.Events.{Event}
use Rattle.flow_model.specs.Turns.{change_of}
use Rattle.flow_machine.specs.FitNets.{FitNet}
use Rattle.flow_machine.specs.Nets.{BodyTurn}
use Rattle.flow_machine.specs.Values.{BodyValue, NetValue}
use Rattle.flow_machine.proofs.FitLemmas.{same-turns}
use Rattle.flow_floor.specs.Turning.{turned_body, MachineTurn, receiving_after, sending_after, Happens, MayChange}
use Rattle.flow_floor.specs.Law.{Rests}
use Rattle.flow_floor.specs.Made.{Below}
use Rattle.flow_floor.specs.Wired.{IsInput, IsOutput}
use Rattle.flow_floor.proofs.Channels.{input-same}
use Rattle.flow_floor.proofs.Deeds.{rests-turned}
use Rattle.flow_floor.specs.declared.board.Receiving.{Receiving}
use Rattle.flow_floor.specs.declared.board.Sending.{Sending}
use Rattle.flow_floor.specs.declared.board.Slot.TheVariants as slot
use Rattle.flow_floor.specs.declared.board.View.{View}
use Rattle.flow_floor.specs.declared.floor.Held.{Held}
use Rattle.flow_floor.specs.declared.floor.Worker.{Worker}
use Rattle.flow_floor.specs.Ends.{receiving_at, sending_at, Receives, Sends}
use Rattle.flow_floor.specs.Midway.{drawn_at, placed_at, IsMidway, MakesTurn}
use Rattle.flow_floor.specs.Pending.{AllMay, MachineTurns, May, MayFrom}
use Rattle.flow_floor.specs.Views.{Move, drawing, emptying, filling, held_after, moved, placing, stamping, turn_of}
use Rattle.flow_floor.specs.Workers.{view, woken_of, Agrees, IsHeldBy, IsSameSeat, IsSeated, IsWaking}

-- A seat that was at no receiving end and drew this packet has drawn it there alone.
pub drawn-there : {K : Type 0} (v : View K) (c place : ℕ) (packet : Tree) → v.receiving ≡ None → (emptying (drawing v c place packet)).receiving ≡ Some (drawn_at c packet)
drawn-there v c place packet is = ap (λ (o : Option Receiving). let y : Receiving = unwrap_or o (receiving_at c) in let r : Option Receiving = Some (record y { drawn = y.drawn ++ packet ∷ []; out = None }) in r) is

-- One that had come to the sending end and placed this packet has placed it there alone.
pub placed-there : {K : Type 0} (v : View K) (c place : ℕ) (packet : Tree) → v.sending ≡ Some (sending_at c) → (filling (placing v place packet)).sending ≡ Some (placed_at c packet)
placed-there v c place packet is = ap (λ (o : Option Sending). option_map (λ (x : Sending). record x { out = None }) (option_map (λ (x : Sending). record x { placed = x.placed ++ packet ∷ []; out = Some place }) o)) is

-- The turn that is this event of the body that is held.
abbrev pub move_of : {K : Type 0} → Held K → Event → Move K
move_of h e = record { body = h.body; event = e }

module _ {K : Type 0} (rules : Rules K) where
  -- A body that is what the machine has, or comes of it by its work, has the same stamps and level numbers.
  pub moved-same : (b d : BodyValue K) → Rests rules b d → moved b d ≡ d
  moved-same b d rests = λ i. record d { stamps = sym rests.1.stamps i; levels = sym rests.1.levels i }

  -- What is an input of the body in hand is an input of what the machine has.
  pub receives-held : Lawful rules → (w : Worker K) (h : Held K) (c : ℕ) → Agrees rules w h → IsInput h.body c → Receives (view w).held c
  receives-held lawful w h c a input =
      let ports = same-turns rules lawful a.base h.body a.rests.0 in
      subst (λ (o : Option (ℕ × BodyValue K)). Receives o c) (sym a.held) (input-same c a.base h.body (ports.1, ports.3) input)

  -- The same of an output.
  pub sends-held : Lawful rules → (w : Worker K) (h : Held K) (c : ℕ) → Agrees rules w h → IsOutput h.body c → Sends (view w).held c
  sends-held lawful w h c a (o, output) =
      let ports = same-turns rules lawful a.base h.body a.rests.0 in
      subst (λ (x : Option (ℕ × BodyValue K)). Sends x c) (sym a.held) (o, ap (λ (xs : List (Option ℕ)). option_and_then (λ (y : Option ℕ). y) (slice_get xs o)) (sym ports.2) ∙ output)

  -- One turn was stamped.
  pub makes-one : (start : NetValue K) (w w' : Worker K) (h h' : Held K) (e : Event) (stamp : ℕ) (turns : List (Move K)) → Agrees rules w h → turns ≡ move_of h e ∷ [] → view w' ≡ stamping (view w) stamp turns → Below stamp (view w).made
      → MachineTurns rules start (view w).made stamp (view w).held turns → woken_of w' ≡ woken_of w → BodyTurn h.body e stamp h'.body → h'.process ≡ h.process → MakesTurn rules start h w h' w' e stamp
  makes-one start w w' h h' e stamp turns a one is above machine woken turn process =
      let now : view w' ≡ stamping (view w) stamp (move_of h e ∷ []) = is ∙ ap (stamping (view w) stamp) one in
      let all = subst (λ (o : Option (ℕ × BodyValue K)). MachineTurns rules start (view w).made stamp o (move_of h e ∷ [])) a.held (subst (MachineTurns rules start (view w).made stamp (view w).held) one machine) in
      record {
        process = process;
        body = turn;
        machine = subst (λ (b : BodyValue K). MachineTurn rules start (view w).made stamp h.process b e) (moved-same a.base h.body a.rests) all.0;
        above = above;
        made = ap (λ (v : View K). v.made) now ∙ ap (λ (o : Option (ℕ × BodyValue K)). (view w).made ++ turn_of stamp o) a.held;
        seat = record { shares = ap (λ (v : View K). v.shares) now; zero = ap (λ (v : View K). v.read_zero) now; asked = ap (λ (v : View K). v.asked) now };
        readied = ap (λ (v : View K). v.readied) now;
        woken = woken;
        look = ap (λ (v : View K). v.look) now;
      }

  -- It was so after steps that made no turn.
  pub makes-after : (start : NetValue K) (u w w' : Worker K) (h h' : Held K) (e : Event) (stamp : ℕ) → (view w).made ≡ (view u).made → IsSameSeat (view u) (view w) → (view w).readied ≡ (view u).readied → woken_of w ≡ woken_of u → (view w).look ≡ (view u).look
      → MakesTurn rules start h w h' w' e stamp → MakesTurn rules start h u h' w' e stamp
  makes-after start u w w' h h' e stamp made seat readied woken look t = record {
    process = t.process;
    body = t.body;
    machine = subst (λ (xs : List (ℕ × ℕ)). MachineTurn rules start xs stamp h.process h.body e) made t.machine;
    above = subst (Below stamp) made t.above;
    made = t.made ∙ ap (λ (xs : List (ℕ × ℕ)). xs ++ (stamp, h.process) ∷ []) made;
    seat = record { shares = t.seat.shares ∙ seat.shares; zero = t.seat.zero ∙ seat.zero; asked = t.seat.asked ∙ seat.asked };
    readied = t.readied ∙ readied;
    woken = t.woken ∙ woken;
    look = t.look ∙ look;
  }

  module _ (z : TableId) (n : ℕ) where
    -- A worker that holds a body and owes nothing is at no end.
    pub midway-held : (w : Worker K) (h : Held K) → IsHeldBy rules z n w h → IsMidway rules z n w h None None []
    midway-held w h q = record { table = q.calm.table; share = q.calm.share; sends = q.calm.sending; receives = q.calm.receiving; noted = q.calm.noted; spare = q.calm.spare; below = q.below; agrees = q.agrees; slots = q.slots }

    -- One that is at no end and has noted nobody owes nothing.
    pub held-midway : (w : Worker K) (h : Held K) → IsMidway rules z n w h None None [] → IsHeldBy rules z n w h
    held-midway w h q = record { calm = record { table = q.table; share = q.share; sending = q.sends; receiving = q.receives; noted = q.noted; spare = q.spare }; below = q.below; agrees = q.agrees; slots = q.slots }

    -- One that is at no end has still to wake those whom it has noted.
    pub waking-midway : (w : Worker K) (h : Held K) (notes : List ℕ) → IsMidway rules z n w h None None notes → IsWaking rules z n w h notes
    waking-midway w h notes q = record { table = q.table; share = q.share; sending = q.sends; receiving = q.receives; noted = q.noted; spare = q.spare; below = q.below; agrees = q.agrees; slots = q.slots }

    pub midway-seated : (w : Worker K) (h : Held K) (s : Option Sending) (r : Option Receiving) (notes : List ℕ) → IsMidway rules z n w h s r notes → IsSeated z n w h
    midway-seated w h s r notes q = record { table = q.table; share = q.share; spare = q.spare; below = q.below; base = q.agrees.base; held = q.agrees.held; slots = q.slots }

    -- A step made this of its view.
    pub midway-next : (w w' : Worker K) (h : Held K) (s s' : Option Sending) (r r' : Option Receiving) (notes notes' : List ℕ) (v : View K) → IsMidway rules z n w h s r notes → IsSeated z n w' h → view w' ≡ v
        → v.held ≡ (view w).held → v.sending ≡ s' → v.receiving ≡ r' → v.noted ≡ notes' → IsMidway rules z n w' h s' r' notes'
    midway-next w w' h s s' r r' notes notes' v q seat is held sends receives noted = record {
      table = seat.table;
      share = seat.share;
      sends = ap (λ (x : View K). x.sending) is ∙ sends;
      receives = ap (λ (x : View K). x.receiving) is ∙ receives;
      noted = ap (λ (x : View K). x.noted) is ∙ noted;
      spare = seat.spare;
      below = seat.below;
      agrees = record { base = q.agrees.base; held = ap (λ (x : View K). x.held) is ∙ held ∙ q.agrees.held; rests = q.agrees.rests; whole = q.agrees.whole };
      slots = seat.slots;
    }

    -- A look was made, and nothing else.
    pub held-looked : (w w' : Worker K) (h : Held K) (v : View K) → IsHeldBy rules z n w h → IsSeated z n w' h → view w' ≡ v → v.held ≡ (view w).held → v.sending ≡ (view w).sending → v.receiving ≡ (view w).receiving → v.noted ≡ (view w).noted → IsHeldBy rules z n w' h
    held-looked w w' h v q seat is held sends receives noted = held-midway w' h (midway-next w w' h None None None None [] [] v (midway-held w h q) seat is held (sends ∙ q.calm.sending) (receives ∙ q.calm.receiving) (noted ∙ q.calm.noted))

    -- A packet was drawn.
    pub midway-drawn : (w w' : Worker K) (h : Held K) (c place : ℕ) (packet : Tree) → IsHeldBy rules z n w h → IsSeated z n w' h → view w' ≡ emptying (drawing (view w) c place packet) → IsMidway rules z n w' h None (Some (drawn_at c packet)) []
    midway-drawn w w' h c place packet q seat is = midway-next w w' h None None None (Some (drawn_at c packet)) [] [] (emptying (drawing (view w) c place packet)) (midway-held w h q) seat is refl q.calm.sending (drawn-there (view w) c place packet q.calm.receiving) q.calm.noted

    -- A turn was stamped, and the body has made it.
    pub midway-turned : (w w' : Worker K) (h h' : Held K) (s : Option Sending) (r : Option Receiving) (notes : List ℕ) (e : Event) (stamp : ℕ) (turns : List (Move K)) → IsMidway rules z n w h s r notes → IsSeated z n w' h → turns ≡ move_of h e ∷ []
        → view w' ≡ stamping (view w) stamp turns → BodyTurn h.body e stamp h'.body → h'.process ≡ h.process → IsMidway rules z n w' h' (sending_after e s) (receiving_after e r) notes
    midway-turned w w' h h' s r notes e stamp turns q seat one is turn process =
        let now : view w' ≡ stamping (view w) stamp (move_of h e ∷ []) = is ∙ ap (stamping (view w) stamp) one in
        let same = moved-same q.agrees.base h.body q.agrees.rests in
        record {
          table = seat.table;
          share = seat.share;
          sends = ap (λ (v : View K). v.sending) now ∙ ap (sending_after e) q.sends;
          receives = ap (λ (v : View K). v.receiving) now ∙ ap (receiving_after e) q.receives;
          noted = ap (λ (v : View K). v.noted) now ∙ q.noted;
          spare = seat.spare;
          below = subst (λ (p : ℕ). p < n) (sym process) seat.below;
          agrees = record {
            base = turned_body e stamp h.body;
            held = ap (λ (v : View K). v.held) now ∙ ap (held_after (move_of h e) stamp) q.agrees.held ∙ (λ j. let t : Option (ℕ × BodyValue K) = Some (sym process j, turned_body e stamp (same j)) in t);
            rests = rests-turned rules h.body h'.body e stamp turn;
            whole = turn.leaving;
          };
          slots = seat.slots ∙ ap (λ (p : ℕ). (p, slot.Vacant) ∷ []) (sym process);
        }

  -- The seat may make the one turn that is this event of the body in hand.
  pub may-one : (z : TableId) (n m : ℕ) (w : Worker K) (h : Held K) (s : Option Sending) (r : Option Receiving) (notes : List ℕ) (e : Event) (turns : List (Move K)) → IsMidway rules z n w h s r notes → turns ≡ move_of h e ∷ [] → MayChange (change_of e) s r
      → Happens (FitNet rules) n m h.process h.body s r (view w).seen e → AllMay rules n m (view w) turns
  may-one z n m w h s r notes e turns q one ends happens stamp = subst (MayFrom rules n m (view w) stamp) (sym one) (may, tt)
    where
      same : moved q.agrees.base h.body ≡ h.body
      same = moved-same q.agrees.base h.body q.agrees.rests

      may : May rules n m (view w) (move_of h e)
      may = record {
        process = h.process;
        before = q.agrees.base;
        held = q.agrees.held;
        rests = subst (Rests rules q.agrees.base) (sym same) q.agrees.rests;
        ends = subst (λ (x : Option Sending × Option Receiving). MayChange (change_of e) x.0 x.1) (λ j. (sym q.sends j, sym q.receives j)) ends;
        happens = subst (λ (x : Option Sending × Option Receiving). Happens (FitNet rules) n m h.process (moved q.agrees.base h.body) x.0 x.1 (view w).seen e) (λ j. (sym q.sends j, sym q.receives j))
            (subst (λ (b : BodyValue K). Happens (FitNet rules) n m h.process b s r (view w).seen e) (sym same) happens);
      }
