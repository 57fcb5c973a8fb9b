-- What a call for a burst tells.
use Rattle.std.proofs.Common.{◌≡◌, ℕ, ◌<◌, ◌≤◌, List, [], ◌∷◌, ◌++◌, All, length, Option, Some, refl, sym, ap, ◌∙◌, subst, arith, inl, inr}
use Rattle.std.proofs.lemmas.List.Elements.{All-cons, All-head, All-nil, All-tail}
use Rattle.flow_component.specs.Laws.{Rules}
use Rattle.flow_model.specs.Events.{Event, Starts, Finishes, Gets, Takes_text, Hears_end, Sends, Learns, Sleeps, Closes, Signals}
use Rattle.flow_model.specs.States.{Input, Process}
use Rattle.flow_model.specs.declared.Block.{Block}
use Rattle.flow_model.specs.declared.Block.TheVariants as blocks
use Rattle.flow_machine.specs.Inlets.{signal_input}
use Rattle.flow_machine.specs.Values.{BodyValue, NetValue}
use Rattle.flow_floor.specs.Turning.{turned_body, MachineTurn}
use Rattle.flow_floor.specs.Made.{Below}
use Rattle.flow_floor.proofs.Lists.{All-one}
use Rattle.flow_floor.proofs.Deeds.{rests-turned}
use Rattle.flow_floor.specs.declared.board.Look.{Look}
use Rattle.flow_floor.specs.declared.board.View.{View}
use Rattle.flow_floor.specs.declared.floor.Burst.{Burst}
use Rattle.flow_floor.specs.declared.floor.Burst.TheVariants as burst
use Rattle.flow_floor.specs.declared.floor.Held.{Held}
use Rattle.flow_floor.specs.declared.floor.Worker.{Worker}
use Rattle.flow_floor.specs.Bursting.{GoesOn, IsPassed, MakesBurst}
use Rattle.flow_floor.specs.Bursts.{turns_from, Bursts, IsBurst}
use Rattle.flow_floor.specs.InHand.{IsHeldAs}
use Rattle.flow_floor.specs.Looks.{AllSaw, FirstOpen, InSeen, IsLook, SawNone, SawOver, SawReleased, WaitsAlone, Watches}
use Rattle.flow_floor.specs.Pending.{MachineTurns}
use Rattle.flow_floor.specs.Turns.{IsBlocked, IsBusy, IsMade, ReadBlocks, ToldLevel}
use Rattle.flow_floor.specs.Views.{Move, all_turned, held_after}
use Rattle.flow_floor.specs.Workers.{view, Agrees}
use Rattle.flow_floor.proofs.Looking.{in-so}
use Rattle.flow_floor.proofs.Midways.{move_of, moved-same}
use Rattle.flow_floor.proofs.Settling.{held-turned}

-- Looks after so many steps are looks after fewer.
look-since : (n since late c w : ℕ) (seen : List Look) → since ≤ late → InSeen (IsLook n late c w) seen → InSeen (IsLook n since c w) seen
look-since n since late c w seen later = in-so (IsLook n late c w) (IsLook n since c w) seen (λ l is. (is.0, is.1, (let e : since < l.at = omega (arith, is.2, later) in e)))

none-since : (n since late c : ℕ) (seen : List Look) → since ≤ late → InSeen (SawNone n late c) seen → InSeen (SawNone n since c) seen
none-since n since late c seen later = in-so (SawNone n late c) (SawNone n since c) seen (λ l is. (is.0, is.1, (let e : since < l.at = omega (arith, is.2, later) in e)))

over-since : (n since late c : ℕ) (seen : List Look) → since ≤ late → InSeen (SawOver n late c) seen → InSeen (SawOver n since c) seen
over-since n since late c seen later = in-so (SawOver n late c) (SawOver n since c) seen (λ l is. (is.0, is.1, is.2, (let e : since < l.at = omega (arith, is.3, later) in e)))

end-since : (n since late m : ℕ) (inputs : List Input) (seen : List Look) → since ≤ late → AllSaw (SawOver n late) m inputs seen → AllSaw (SawOver n since) m inputs seen
end-since n since late m inputs seen later all i c below at = over-since n since late c seen later (all i c below at)

first-since : (n since late : ℕ) (inputs : List Input) (seen : List Look) (w : ℕ) → since ≤ late → FirstOpen n late inputs seen w → FirstOpen n since inputs seen w
first-since n since late inputs seen w later first = record {
  input = first.input;
  connection = first.connection;
  at = first.at;
  look = look-since n since late first.connection w seen later first.look;
  none_in = first.none_in;
  opened = first.opened;
  below = end-since n since late first.input inputs seen later first.below;
}

module _ {K : Type 0} where
  released-since : (n since late : ℕ) (x : Process K) (seen : List Look) → since ≤ late → SawReleased n late x seen → SawReleased n since x seen
  released-since n since late x seen later (inl before) = inl before
  released-since n since late x seen later (inr over) = inr (end-since n since late (length (signal_input x.signal)) (signal_input x.signal) seen later over)

  alone-since : (n since late : ℕ) (x : Process K) (seen : List Look) → since ≤ late → WaitsAlone n late x seen → WaitsAlone n since x seen
  alone-since n since late x seen later (inl unsignalled) = inl unsignalled
  alone-since n since late x seen later (inr over) = inr (end-since n since late (length x.inputs) x.inputs seen later over.0, over.1)

  watches-since : (n since late : ℕ) (x : Process K) (seen : List Look) (inputs : List Input) → since ≤ late → Watches n late x seen inputs → Watches n since x seen inputs
  watches-since n since late x seen inputs later (inl alone) = inl (alone.0, alone-since n since late x seen later alone.1)
  watches-since n since late x seen inputs later (inr released) = inr (released.0, released-since n since late x seen later released.1)

  blocks-since : (n since late : ℕ) (capacities : List ℕ) (x : Process K) (seen : List Look) (block : Block) (w : ℕ) → since ≤ late → ReadBlocks n late capacities x seen block w → ReadBlocks n since capacities x seen block w
  blocks-since n since late capacities x seen (blocks.Empty c port) w later read = (look-since n since late c w seen later read.0, read.1, read.2)
  blocks-since n since late capacities x seen (blocks.Full c port) w later read = (look-since n since late c w seen later read.0, read.1)
  blocks-since n since late capacities x seen blocks.Dormant w later read = record {
    inputs = read.inputs;
    watches = watches-since n since late x seen read.inputs later read.watches;
    none_in = λ i c below at. none-since n since late c seen later (read.none_in i c below at);
    first = first-since n since late read.inputs seen w later read.first;
  }

  -- A level that was read after so many steps was read after fewer.
  told-since : (n : ℕ) (b : BodyValue K) (u v w : View K) (e : Event) → u.steps ≤ v.steps → ToldLevel n b v w e → ToldLevel n b u w e
  told-since n b u v w Starts later told = tt
  told-since n b u v w Finishes later told = tt
  told-since n b u v w (Gets port c packet) later told = tt
  told-since n b u v w (Takes_text port text) later told = tt
  told-since n b u v w (Hears_end port) later told = tt
  told-since n b u v w (Sends port c packet) later told = tt
  told-since n b u v w (Learns port level) later (c, r, at, look, is) = (c, r, at, (look.0, look.1, (let l : u.steps < w.look.at = omega (arith, look.2, later) in l)), is)
  told-since n b u v w Sleeps later told = tt
  told-since n b u v w (Closes output c) later told = tt
  told-since n b u v w (Signals c packet) later told = tt

  -- The turns of a burst that are made ahead are told none.
  untold : (n : ℕ) (b : BodyValue K) (u w : View K) (e : Event) → IsPassed e → ToldLevel n b u w e
  untold n b u w (Gets port c packet) one = tt
  untold n b u w (Sends port c packet) one = tt
  untold n b u w Starts one = absurd one
  untold n b u w Finishes one = absurd one
  untold n b u w (Takes_text port text) one = absurd one
  untold n b u w (Hears_end port) one = absurd one
  untold n b u w (Learns port level) one = absurd one
  untold n b u w Sleeps one = absurd one
  untold n b u w (Closes output c) one = absurd one
  untold n b u w (Signals c packet) one = absurd one

  -- What holds of each turn of a list so holds of each otherwise.
  all-so : (is so : Move K → Type 0) (turns : List (Move K)) → ((t : Move K) → is t → so t) → All is turns → All so turns
  all-so is so [] f all = All-nil so
  all-so is so (t ∷ turns) f all = All-cons so t turns (f t (All-head is t turns all)) (all-so is so turns f (All-tail is t turns all))

module _ {K : Type 0} (rules : Rules K) (n m : ℕ) (start : NetValue K) where
  -- One whole turn is a burst of its own.
  pub one-made : (limit : ℕ) (h : Held K) (w : Worker K) (h' : Held K) (w' : Worker K) (stamp : ℕ) → Agrees rules w h → 1 ≤ limit → IsMade rules n start h w h' w' stamp → IsBurst rules n start limit h w h' w' stamp 1
  one-made limit h w h' w' stamp a least made =
      let t = move_of h made.event in
      let same = moved-same rules a.base h.body a.rests in
      record {
        process = made.process;
        turns = t ∷ [];
        many = refl;
        least = omega arith;
        most = least;
        begins = refl;
        machine = subst (λ (o : Option (ℕ × BodyValue K)). MachineTurns rules start (view w).made stamp o (t ∷ [])) (sym a.held) (subst (λ (b : BodyValue K). MachineTurn rules start (view w).made stamp h.process b made.event) (sym same) made.machine, tt);
        body = (
          turned_body made.event stamp h.body,
          ap (held_after t stamp) a.held ∙ (λ i. let o : Option (ℕ × BodyValue K) = Some (h.process, turned_body made.event stamp (same i)) in o),
          rests-turned rules h.body h'.body made.event stamp made.turn,
        );
        made = made.made;
        above = made.above;
        levels = All-one (λ (u : Move K). ToldLevel n u.body (view w) (view w') u.event) t made.level;
      }

  -- It is so of a call that had made no turn before.
  busy-after : (b : BodyValue K) (u v w : View K) (c r : ℕ) → u.steps ≤ v.steps → IsBusy n m start b v w c r → IsBusy n m start b u w c r
  busy-after b u v w c r later busy = record {
    turn = busy.turn;
    several = busy.several;
    look = (busy.look.0, busy.look.1, (let l : u.steps < w.look.at = omega (arith, busy.look.2, later) in l));
    free = busy.free;
    taken = busy.taken;
  }

  blocked-after : (b : BodyValue K) (u v w : View K) (block : Block) (r : ℕ) → u.steps ≤ v.steps → IsBlocked n start b v w block r → IsBlocked n start b u w block r
  blocked-after b u v w block r later blocked = record { waits = blocked.waits; read = blocks-since n u.steps v.steps _ b.process w.seen block r later blocked.read; stays = blocked.stays }

  burst-after : (limit : ℕ) (h : Held K) (u w : Worker K) (h' : Held K) (w' : Worker K) (first count : ℕ) → GoesOn u w → IsBurst rules n start limit h w h' w' first count → IsBurst rules n start limit h u h' w' first count
  burst-after limit h u w h' w' first count on b = record {
    process = b.process;
    turns = b.turns;
    many = b.many;
    least = b.least;
    most = b.most;
    begins = b.begins;
    machine = subst (λ (x : List (ℕ × ℕ) × Option (ℕ × BodyValue K)). MachineTurns rules start x.0 first x.1 b.turns) (λ i. (on.made i, on.held i)) b.machine;
    body = subst (IsHeldAs rules h.process h'.body) (held-turned b.turns first (view w) (view u) on.held) b.body;
    made = b.made ∙ ap (λ (xs : List (ℕ × ℕ)). xs ++ turns_from h.process first count) on.made;
    above = subst (Below first) on.made b.above;
    levels = all-so (λ (t : Move K). ToldLevel n t.body (view w) (view w') t.event) (λ (t : Move K). ToldLevel n t.body (view u) (view w') t.event) b.turns (λ t told. told-since n t.body (view u) (view w) (view w') t.event on.steps told) b.levels;
  }

  pub bursts-after : (limit : ℕ) (h : Held K) (u w : Worker K) (h' : Held K) (w' : Worker K) (b : Burst) → GoesOn u w → Bursts rules n m start limit h w h' w' b → Bursts rules n m start limit h u h' w' b
  bursts-after limit h u w h' w' (burst.Made first count) on is = burst-after limit h u w h' w' first count on is
  bursts-after limit h u w h' w' (burst.Busy c word) on is = ((is.0.0, is.0.1 ∙ on.made), busy-after h.body (view u) (view w) (view w') c word on.steps is.1)
  bursts-after limit h u w h' w' (burst.Blocked block word) on is = ((is.0.0, is.0.1 ∙ on.made), blocked-after h.body (view u) (view w) (view w') block word on.steps is.1)
  bursts-after limit h u w h' w' (burst.Over over) on is = ((is.0.0, is.0.1 ∙ on.made), is.1)

  -- Turns that were made ahead, then stamped, and told of, are a burst: `u` is the worker before them, `w` and `mid` before and after the stamp.
  pub burst-told : (limit : ℕ) (h hw h' : Held K) (u w mid w' : Worker K) (first count : ℕ) → GoesOn u w → MakesBurst rules start h.body count hw w h' mid first → hw.process ≡ h.process → 1 ≤ count → count ≤ limit → (view w').made ≡ (view mid).made
      → IsBurst rules n start limit h u h' w' first count
  burst-told limit h hw h' u w mid w' first count on b process least most told = record {
    process = b.process ∙ process;
    turns = b.turns;
    many = b.many;
    least = least;
    most = most;
    begins = b.passed.begins;
    machine = subst (λ (x : List (ℕ × ℕ) × Option (ℕ × BodyValue K)). MachineTurns rules start x.0 first x.1 b.turns) (λ i. (on.made i, on.held i)) b.machine;
    body = subst (λ (p : ℕ). IsHeldAs rules p h'.body (all_turned (view u) first b.turns).held) process (subst (IsHeldAs rules hw.process h'.body) (held-turned b.turns first (view w) (view u) on.held) b.body);
    made = told ∙ b.made ∙ (λ i. on.made i ++ turns_from (process i) first count);
    above = subst (Below first) on.made b.above;
    levels = all-so (λ (t : Move K). IsPassed t.event) (λ (t : Move K). ToldLevel n t.body (view u) (view w') t.event) b.turns (λ t one. untold n t.body (view u) (view w') t.event one) b.passed.passed;
  }
