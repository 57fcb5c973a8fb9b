-- What a worker has after a step at the ends of connections.
use Rattle.std.proofs.Common.{◌≡◌, ℕ, ◌+◌, ◌<◌, List, [], ◌∷◌, Some, refl, sym, ap, ◌∙◌, subst}
use Rattle.atomic_table.specs.Seated.{TableId}
use Rattle.flow_machine.specs.Values.{BodyValue}
use Rattle.flow_floor.specs.Turning.{turned_body}
use Rattle.flow_floor.specs.declared.board.Slot.{Slot}
use Rattle.flow_floor.specs.declared.board.Slot.TheVariants as slot
use Rattle.flow_floor.specs.declared.board.View.{View}
use Rattle.flow_floor.specs.declared.floor.Held.{Held}
use Rattle.flow_floor.specs.declared.floor.Worker.{Worker}
use Rattle.flow_floor.specs.Views.{Move, moved, held_after, turning, all_turned, counting, stamping}
use Rattle.flow_floor.specs.Workers.{view, IsSeated}

-- What turns leave of a view: which process is held, the shares, and the tokens.
record Leaves {K : Type 0} (v w : View K) (p : ℕ) : Type 0 where
  base : BodyValue K
  held : w.held ≡ Some (p, base)
  shares : w.shares ≡ v.shares
  spare : w.spare ≡ v.spare

turns-leave : {K : Type 0} (turns : List (Move K)) (r : ℕ) (v : View K) (p : ℕ) (b : BodyValue K) → v.held ≡ Some (p, b) → Leaves v (all_turned v r turns) p
turns-leave [] r v p b holds = record { base = b; held = holds; shares = refl; spare = refl }
turns-leave (t ∷ turns) r v p b holds =
    let more = turns-leave turns (r + 1) (turning v r t) p (turned_body t.event r (moved b t.body)) (ap (held_after t r) holds) in
    record { base = more.base; held = more.held; shares = more.shares; spare = more.spare }

module _ {K : Type 0} (z : TableId) (n : ℕ) where
  -- A step made this of its view, and left its slots.
  pub seated-next : (w w' : Worker K) (h : Held K) (v : View K) → IsSeated z n w h → w'.seat.table_id ≡ w.seat.table_id → w'.seat.me ≡ (v, w.seat.me.1) → v.shares ≡ (view w).shares → v.spare ≡ (view w).spare → v.held ≡ (view w).held → IsSeated z n w' h
  seated-next w w' h v q table me shares spare held =
      let is = ap (λ (m : View K × List (ℕ × Slot K)). m.0) me in
      record {
        table = table ∙ q.table;
        share = subst (λ m. 0 < m) (sym (ap (λ (x : View K). x.shares) is ∙ shares)) q.share;
        spare = ap (λ (x : View K). x.spare) is ∙ spare ∙ q.spare;
        below = q.below;
        base = q.base;
        held = ap (λ (x : View K). x.held) is ∙ held ∙ q.held;
        slots = ap (λ (m : View K × List (ℕ × Slot K)). m.1) me ∙ q.slots;
      }

  -- A step stamped these turns.
  pub seated-stamped : (w w' : Worker K) (h : Held K) (r : ℕ) (turns : List (Move K)) → IsSeated z n w h → w'.seat.table_id ≡ w.seat.table_id → w'.seat.me ≡ (stamping (view w) r turns, w.seat.me.1) → IsSeated z n w' h
  seated-stamped w w' h r turns q table me =
      let is = ap (λ (m : View K × List (ℕ × Slot K)). m.0) me in
      let t = turns-leave turns r (counting (view w)) h.process q.base q.held in
      record {
        table = table ∙ q.table;
        share = subst (λ m. 0 < m) (sym (ap (λ (x : View K). x.shares) is ∙ t.shares)) q.share;
        spare = ap (λ (x : View K). x.spare) is ∙ t.spare ∙ q.spare;
        below = q.below;
        base = t.base;
        held = ap (λ (x : View K). x.held) is ∙ t.held;
        slots = ap (λ (m : View K × List (ℕ × Slot K)). m.1) me ∙ q.slots;
      }

  -- Steps made this of its view, and all slots but its body's are back.
  pub seated-with : (w w' : Worker K) (h : Held K) (v : View K) → IsSeated z n w h → w'.seat.table_id ≡ w.seat.table_id → (view w') ≡ v → w'.seat.me.1 ≡ (h.process, slot.Vacant) ∷ [] → v.shares ≡ (view w).shares → v.spare ≡ (view w).spare → v.held ≡ (view w).held → IsSeated z n w' h
  seated-with w w' h v q table is slots shares spare held = record {
    table = table ∙ q.table;
    share = subst (λ m. 0 < m) (sym (ap (λ (x : View K). x.shares) is ∙ shares)) q.share;
    spare = ap (λ (x : View K). x.spare) is ∙ spare ∙ q.spare;
    below = q.below;
    base = q.base;
    held = ap (λ (x : View K). x.held) is ∙ held ∙ q.held;
    slots = slots;
  }

  -- Another body of that process is held.
  pub seated-out : (w : Worker K) (h h' : Held K) → h'.process ≡ h.process → IsSeated z n w h → IsSeated z n w h'
  seated-out w h h' e q = record {
    table = q.table;
    share = q.share;
    spare = q.spare;
    below = subst (λ p. p < n) (sym e) q.below;
    base = q.base;
    held = q.held ∙ (λ i. Some (sym e i, q.base));
    slots = q.slots ∙ (λ i. (sym e i, slot.Vacant) ∷ []);
  }
