-- What a worker has that holds a body or wakes others.
use Rattle.std.proofs.Common.{◌≡◌, ℕ, ◌-◌, ◌<◌, true, false, cond, nat_eq, List, [], ◌∷◌, ◌++◌, drop, length, Option, Some, None, ap, sym, subst, ◌∙◌, arith, append-nil, inl, inr}
use Rattle.std.proofs.lemmas.Bool.Decides.{nat_tests}
use Rattle.std.proofs.lemmas.List.{drop_all}
use Rattle.atomic_table.specs.Seated.{TableId}
use Rattle.flow_component.specs.Laws.{Rules}
use Rattle.flow_model.specs.Stages.{IsOverStage}
use Rattle.flow_machine.specs.Thoughts.{Thinks, KeepsTurns}
use Rattle.flow_machine.specs.Values.{BodyValue}
use Rattle.flow_machine.specs.declared.answers.Over.{Over}
use Rattle.flow_machine.specs.declared.answers.Over.TheVariants as overs
use Rattle.flow_machine.specs.declared.answers.Thought.{Thought}
use Rattle.flow_floor.specs.Waking.{IsRetired}
use Rattle.flow_floor.proofs.Thinking.{rests-think}
use Rattle.flow_floor.specs.declared.board.Slot.TheVariants as slot
use Rattle.flow_floor.specs.declared.board.View.{View}
use Rattle.flow_floor.specs.declared.floor.Held.{Held}
use Rattle.flow_floor.specs.declared.floor.Worker.{Worker}
use Rattle.flow_floor.specs.Floors.{IsOverAs}
use Rattle.flow_floor.specs.Views.{counting, poking, striking}
use Rattle.flow_floor.specs.Workers.{Agrees, IsHeldBy, IsSeated, IsWaking}

-- Who may be retired is.
pub retires-as : {K : Type 0} (over : Over) (h : Held K) → IsOverAs over h → IsRetired h.body
retires-as overs.Ended h is = inl (subst IsOverStage (sym is.0) tt, is.1)
retires-as overs.Failed h is = inl (subst IsOverStage (sym is.0.1) tt, is.1)
retires-as overs.Starved h is = inr (is.1, is.2)

-- A poke that read another number than 0 leaves the seat's tokens.
pub poked-spare : {K : Type 0} (v w : View K) (r : ℕ) → w ≡ poking v r → (r ≡ 0 → ⊥) → w.spare ≡ v.spare
poked-spare {K} v w r is other = ap (λ (x : View K). x.spare) is ∙ (let z : nat_eq r 0 ≡ false = grind (arith, nat_tests) in ap (λ b. cond b (v.spare - 1) v.spare) z)

-- One that read 0 spends a token.
pub poked-spent : {K : Type 0} (v w : View K) (r : ℕ) → w ≡ poking v r → r ≡ 0 → w.spare ≡ v.spare - 1
poked-spent {K} v w r is none_there = ap (λ (x : View K). x.spare) is ∙ (let z : nat_eq r 0 ≡ true = grind (arith, nat_tests) in ap (λ b. cond b (v.spare - 1) v.spare) z)

module _ {K : Type 0} (rules : Rules K) (z : TableId) (n : ℕ) where
  -- Whoever holds a body is seated, and so is whoever wakes others.
  pub held-seated : (w : Worker K) (h : Held K) → IsHeldBy rules z n w h → IsSeated z n w h
  held-seated w h q = record { table = q.calm.table; share = q.calm.share; spare = q.calm.spare; below = q.below; base = q.agrees.base; held = q.agrees.held; slots = q.slots }

  pub waking-seated : (w : Worker K) (h : Held K) (notes : List ℕ) → IsWaking rules z n w h notes → IsSeated z n w h
  waking-seated w h notes q = record { table = q.table; share = q.share; spare = q.spare; below = q.below; base = q.agrees.base; held = q.agrees.held; slots = q.slots }

  -- One who is seated, at no end, and whose body agrees with what the machine has, wakes those that it noted.
  pub seated-waking : (w : Worker K) (h : Held K) (notes : List ℕ) → IsSeated z n w h → Agrees rules w h → w.seat.me.0.sending ≡ None → w.seat.me.0.receiving ≡ None → w.seat.me.0.noted ≡ notes → IsWaking rules z n w h notes
  seated-waking w h notes q agrees sending receiving noted = record { table = q.table; share = q.share; sending = sending; receiving = receiving; noted = noted; spare = q.spare; below = q.below; agrees = agrees; slots = q.slots }

  -- Where nobody is noted any more the worker owes nothing.
  pub waking-none : (w : Worker K) (h : Held K) → IsWaking rules z n w h [] → IsHeldBy rules z n w h
  waking-none w h q = record { calm = record { table = q.table; share = q.share; sending = q.sending; receiving = q.receiving; noted = q.noted; spare = q.spare }; below = q.below; agrees = q.agrees; slots = q.slots }

  -- A body that thinks is still held.
  pub held-think : (w : Worker K) (h h' : Held K) (t : Thought) → IsHeldBy rules z n w h → Thinks rules h.body t h'.body → KeepsTurns h.body h'.body → h'.process ≡ h.process → IsHeldBy rules z n w h'
  held-think w h h' t q thinks keeps process = record {
    calm = q.calm;
    below = subst (λ m. m < n) (sym process) q.below;
    agrees = record {
      base = q.agrees.base;
      held = q.agrees.held ∙ ap (λ m. let r : Option (ℕ × BodyValue K) = Some (m, q.agrees.base) in r) (sym process);
      rests = rests-think rules q.agrees.base h.body h'.body t q.agrees.rests thinks keeps;
      whole = keeps.leaving ∙ q.agrees.whole;
    };
    slots = q.slots ∙ ap (λ m. (m, slot.Vacant) ∷ []) (sym process);
  }

  -- One noted process was woken.
  pub woken : (w w' : Worker K) (h : Held K) (notes more : List ℕ) → IsWaking rules z n w h notes → w'.seat.table_id ≡ w.seat.table_id → w'.seat.me.1 ≡ w.seat.me.1 → w'.seat.me.0.shares ≡ w.seat.me.0.shares
      → w'.seat.me.0.sending ≡ w.seat.me.0.sending → w'.seat.me.0.receiving ≡ w.seat.me.0.receiving → w'.seat.me.0.held ≡ w.seat.me.0.held → w'.seat.me.0.noted ≡ more → w'.seat.me.0.spare ≡ 0 → IsWaking rules z n w' h more
  woken w w' h notes more q table slots shares sending receiving held noted spare = record {
    table = table ∙ q.table;
    share = subst (λ m. 0 < m) (sym shares) q.share;
    sending = sending ∙ q.sending;
    receiving = receiving ∙ q.receiving;
    noted = noted;
    spare = spare;
    below = q.below;
    agrees = record { base = q.agrees.base; held = held ∙ q.agrees.held; rests = q.agrees.rests; whole = q.agrees.whole };
    slots = slots ∙ q.slots;
  }

  -- The first noted process was struck off.
  pub struck : (w w' : Worker K) (h : Held K) (notes more : List ℕ) → IsWaking rules z n w h notes → w'.seat.table_id ≡ w.seat.table_id → w'.seat.me ≡ (striking w.seat.me.0, w.seat.me.1) → drop 1 notes ≡ more → IsWaking rules z n w' h more
  struck w w' h notes more q table me rest =
      woken w w' h notes more q table (ap (λ m. m.1) me) (ap (λ m. m.0.shares) me) (ap (λ m. m.0.sending) me) (ap (λ m. m.0.receiving) me) (ap (λ m. m.0.held) me) (ap (λ m. m.0.noted) me ∙ ap (drop 1) q.noted ∙ rest) (ap (λ m. m.0.spare) me ∙ q.spare)

  -- A step was only counted.
  pub unstruck : (w w' : Worker K) (h : Held K) (notes : List ℕ) → IsWaking rules z n w h notes → w'.seat.table_id ≡ w.seat.table_id → w'.seat.me ≡ (counting w.seat.me.0, w.seat.me.1) → IsWaking rules z n w' h notes
  unstruck w w' h notes q table me =
      woken w w' h notes notes q table (ap (λ m. m.1) me) (ap (λ m. m.0.shares) me) (ap (λ m. m.0.sending) me) (ap (λ m. m.0.receiving) me) (ap (λ m. m.0.held) me) (ap (λ m. m.0.noted) me ∙ q.noted) (ap (λ m. m.0.spare) me ∙ q.spare)

  -- Of those that a worker has noted it wakes the first, and then the others.
  pub first-noted : (w : Worker K) (h : Held K) (q : ℕ) (notes more : List ℕ) → notes ≡ q ∷ more → IsWaking rules z n w h notes → IsWaking rules z n w h (q ∷ drop 1 w.seat.me.0.noted)
  first-noted w h q notes more is waking = subst (IsWaking rules z n w h) (is ∙ ap (λ (xs : List ℕ). q ∷ drop 1 xs) (sym (waking.noted ∙ is))) waking

  pub rest-noted : (w w' : Worker K) (h : Held K) (q : ℕ) (notes more : List ℕ) → notes ≡ q ∷ more → IsWaking rules z n w h notes → IsWaking rules z n w' h (drop 1 w.seat.me.0.noted) → IsWaking rules z n w' h more
  rest-noted w w' h q notes more is waking = subst (IsWaking rules z n w' h) (ap (drop 1) (waking.noted ∙ is))

  -- The same of a worker that is this one.
  pub waking-as : (w u : Worker K) (h : Held K) (notes : List ℕ) → w ≡ u → IsWaking rules z n u h notes → IsWaking rules z n w h notes
  waking-as w u h notes is = subst (λ (x : Worker K). IsWaking rules z n x h notes) (sym is)

  -- No other process is noted behind all that are noted.
  pub none-behind : (w : Worker K) (h : Held K) (notes : List ℕ) → IsWaking rules z n w h notes → drop (length notes) w.seat.me.0.noted ≡ []
  none-behind w h notes q = ap (drop (length notes)) q.noted ∙ drop_all (length notes) notes (omega arith)

  -- So they are the first that are noted, and once they are woken the worker owes nothing.
  pub all-noted : (w : Worker K) (h : Held K) (notes : List ℕ) → IsWaking rules z n w h notes → IsWaking rules z n w h (notes ++ drop (length notes) w.seat.me.0.noted)
  all-noted w h notes q = subst (IsWaking rules z n w h) (sym (append-nil notes) ∙ ap (λ (xs : List ℕ). notes ++ xs) (sym (none-behind w h notes q))) q

  pub all-woken : (w w' : Worker K) (h : Held K) (notes : List ℕ) → IsWaking rules z n w h notes → IsWaking rules z n w' h (drop (length notes) w.seat.me.0.noted) → IsHeldBy rules z n w' h
  all-woken w w' h notes q after = waking-none w' h (subst (IsWaking rules z n w' h) (none-behind w h notes q) after)
