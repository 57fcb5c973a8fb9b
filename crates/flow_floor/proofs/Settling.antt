-- The turns of a burst are stamped: what a worker has of them then.
use Rattle.std.proofs.Common.{◌≡◌, ℕ, Bool, true, false, cond, nat_lt, ◌+◌, ◌<◌, List, [], ◌∷◌, ◌++◌, All, length, append-nil, append_assoc, drop, Option, Some, None, refl, sym, ap, ◌∙◌, subst, arith}
use Rattle.std.specs.Option.{option_map}
use Rattle.std.proofs.lemmas.Bool.Decides.{nat_tests}
use Rattle.std.proofs.lemmas.List.Elements.{All-head, All-tail}
use Rattle.atomic_table.specs.Seated.{TableId}
use Rattle.flow_packet.specs.Tree.{Tree}
use Rattle.flow_plan.specs.declared.plan.Connection.{Connection}
use Rattle.flow_component.specs.Laws.{Rules}
use Rattle.flow_model.specs.Events.{Event, Starts, Finishes, Gets, Takes_text, Hears_end, Sends, Learns, Sleeps, Closes, Signals}
use Rattle.flow_model.specs.Turns.{change_of}
use Rattle.flow_machine.specs.Stamps.{restamped}
use Rattle.flow_machine.specs.Values.{BodyValue, NetValue}
use Rattle.flow_floor.specs.Turning.{turned_body, received_after, receiving_after, sending_after, sent_after, MayChange}
use Rattle.flow_floor.specs.Made.{Below}
use Rattle.flow_floor.specs.Plans.{receiver_at}
use Rattle.flow_floor.proofs.Lists.{some_Some}
use Rattle.flow_floor.specs.declared.board.Receiving.{Receiving}
use Rattle.flow_floor.specs.declared.board.Sending.{Sending}
use Rattle.flow_floor.specs.declared.board.Slot.TheVariants as slot
use Rattle.flow_floor.specs.declared.board.View.{View}
use Rattle.flow_floor.specs.declared.ends.End.{End}
use Rattle.flow_floor.specs.declared.ends.Ends.{Ends}
use Rattle.flow_floor.specs.declared.floor.Held.{Held}
use Rattle.flow_floor.specs.declared.floor.Worker.{Worker}
use Rattle.flow_floor.specs.Bursting.{put_by, receivers_of, taken_by, ArePassed, IsAtInput, IsAtOutput, IsInBurst, IsPassed, MakesBurst}
use Rattle.flow_floor.specs.Bursts.{turns_from}
use Rattle.flow_floor.specs.Ends.{sending_at}
use Rattle.flow_floor.specs.InHand.{HasNoneLeft, IsHeldAs, IsPending}
use Rattle.flow_floor.specs.Midway.{IsMidway}
use Rattle.flow_floor.specs.Pending.{MayFrom}
use Rattle.flow_floor.specs.Plays.{drawn_count, placed_count, StampsAll}
use Rattle.flow_floor.specs.Views.{Move, all_turned, counting, held_after, moved, turning, turn_of}
use Rattle.flow_floor.specs.Workers.{view, woken_of, IsSeated}
use Rattle.flow_floor.proofs.Ahead.{pending-further, stamped-held}
use Rattle.flow_floor.proofs.Further.{counting-further}

-- A seat receives at connection c, where no cell is out, and so many packets were drawn or are takes that aren't withdrawn.
abbrev ReceivesSo : ℕ → ℕ → Option Receiving → Type 0
ReceivesSo c count o = (y : Receiving) × (o ≡ Some y) × (y.connection ≡ c) × (y.out ≡ None) × (length y.drawn + y.unwithdrawn ≡ count)

-- It sends there, where it closed no sender, and so many packets were placed or are puts that aren't published.
abbrev SendsSo : ℕ → ℕ → Option Sending → Type 0
SendsSo c count o = (x : Sending) × (o ≡ Some x) × (x.connection ≡ c) × (x.out ≡ None) × (length x.placed + x.unpublished ≡ count) × (x.unsubtracted ≡ 0) × (x.learnt ≡ None)

-- The first of a list that isn't empty goes.
one-less : (xs : List Tree) → 0 < length xs → length (drop 1 xs) + 1 ≡ length xs
one-less [] some_there = absurd (omega (arith, some_there))
one-less (x ∷ xs) some_there = omega arith

none-there : (xs : List Tree) → length xs ≡ 0 → xs ≡ []
none-there [] none = refl
none-there (x ∷ xs) none = absurd (omega (arith, none))

-- A receive and a send leave it so.
receives-so : (e : Event) (c count : ℕ) (s : Option Sending) (o : Option Receiving) → IsPassed e → MayChange (change_of e) s o → ReceivesSo c count o → ReceivesSo c count (receiving_after e o)
receives-so (Gets port d packet) c count s o one may (y, is, here, out, many) =
    let came = may in
    let same : y ≡ came.0 = some_Some y came.0 (sym is ∙ came.1) in
    let some_drawn : 0 < length y.drawn = subst (λ (t : Receiving). 0 < length t.drawn) (sym same) came.3 in
    let less = one-less y.drawn some_drawn in (
      received_after (change_of (Gets port d packet)) y,
      ap (receiving_after (Gets port d packet)) is,
      here,
      out,
      (let e : length (drop 1 y.drawn) + (y.unwithdrawn + 1) ≡ count = omega (arith, less, many) in e),
    )
receives-so (Sends port d packet) c count s o one may (y, is, here, out, many) = (y, ap (receiving_after (Sends port d packet)) is, here, out, many)
receives-so Starts c count s o one may so = absurd one
receives-so Finishes c count s o one may so = absurd one
receives-so (Takes_text port text) c count s o one may so = absurd one
receives-so (Hears_end port) c count s o one may so = absurd one
receives-so (Learns port level) c count s o one may so = absurd one
receives-so Sleeps c count s o one may so = absurd one
receives-so (Closes output d) c count s o one may so = absurd one
receives-so (Signals d packet) c count s o one may so = absurd one

sends-so : (e : Event) (c count : ℕ) (s : Option Sending) (o : Option Receiving) → IsPassed e → MayChange (change_of e) s o → SendsSo c count s → SendsSo c count (sending_after e s)
sends-so (Gets port d packet) c count s o one may (x, is, here, out, many, closed, learnt) = (x, ap (sending_after (Gets port d packet)) is, here, out, many, closed, learnt)
sends-so (Sends port d packet) c count s o one may (x, is, here, out, many, closed, learnt) =
    let came = may in
    let same : x ≡ came.0 = some_Some x came.0 (sym is ∙ came.1) in
    let first : x.placed ≡ packet ∷ drop 1 x.placed = subst (λ (t : Sending). t.placed ≡ packet ∷ drop 1 t.placed) (sym same) came.3 in
    let less : length x.placed ≡ length (drop 1 x.placed) + 1 = omega (arith, ap (λ (ps : List Tree). length ps) first) in (
      sent_after (change_of (Sends port d packet)) x,
      ap (sending_after (Sends port d packet)) is,
      here,
      out,
      (let e : length (drop 1 x.placed) + (x.unpublished + 1) ≡ count = omega (arith, less, many) in e),
      closed,
      refl,
    )
sends-so Starts c count s o one may so = absurd one
sends-so Finishes c count s o one may so = absurd one
sends-so (Takes_text port text) c count s o one may so = absurd one
sends-so (Hears_end port) c count s o one may so = absurd one
sends-so (Learns port level) c count s o one may so = absurd one
sends-so Sleeps c count s o one may so = absurd one
sends-so (Closes output d) c count s o one may so = absurd one
sends-so (Signals d packet) c count s o one may so = absurd one

-- Whom the puts may unblock: nobody where there are none, and else who receives there.
pub receivers-none : (plan : List Connection) (o : Option End) (end : End) → o ≡ Some end → end.packets ≡ 0 → receivers_of plan o ≡ []
receivers-none plan o end is none = ap (receivers_of plan) is ∙ (let z : nat_lt 0 end.packets ≡ false = grind (arith, nat_tests) in ap (λ (b : Bool). cond b (receiver_at plan end.connection) []) z)

pub receivers-some : (plan : List Connection) (o : Option End) (end : End) → o ≡ Some end → (end.packets ≡ 0 → ⊥) → receivers_of plan o ≡ receiver_at plan end.connection
receivers-some plan o end is some_put = ap (receivers_of plan) is ∙ (let z : nat_lt 0 end.packets ≡ true = grind (arith, nat_tests) in ap (λ (b : Bool). cond b (receiver_at plan end.connection) []) z)

-- Once the puts are published nothing is left to tell at the sending end.
pub put-told : (o : Option End) (end : End) (s : Option Sending) → o ≡ Some end → s ≡ put_by o → option_map (λ (x : Sending). record x { unpublished = 0 }) s ≡ Some (sending_at end.connection)
put-told o end s is at = ap (option_map (λ (x : Sending). record x { unpublished = 0 })) (at ∙ ap put_by is)

-- The first part of a list goes.
pub drop-front : (xs ys : List ℕ) → drop (length xs) (xs ++ ys) ≡ ys
drop-front [] ys = refl
drop-front (x ∷ xs) ys = drop-front xs ys

module _ {K : Type 0} where
  abbrev Passed : List (Move K) → Type 0
  Passed turns = All (λ (t : Move K). IsPassed t.event) turns

  -- What the machine has of the body doesn't depend on anything but that, and the turns.
  pub held-turned : (turns : List (Move K)) (r : ℕ) (v w : View K) → v.held ≡ w.held → (all_turned v r turns).held ≡ (all_turned w r turns).held
  held-turned [] r v w same = same
  held-turned (t ∷ turns) r v w same = held-turned turns (r + 1) (turning v r t) (turning w r t) (ap (held_after t r) same)

  -- Turns leave the rest of a view.
  record Leaves (v w : View K) : Type 0 where
    shares : w.shares ≡ v.shares
    zero : w.read_zero ≡ v.read_zero
    asked : w.asked ≡ v.asked
    readied : w.readied ≡ v.readied
    noted : w.noted ≡ v.noted

  leaves-turned : (turns : List (Move K)) (r : ℕ) (v : View K) → Leaves v (all_turned v r turns)
  leaves-turned [] r v = record { shares = refl; zero = refl; asked = refl; readied = refl; noted = refl }
  leaves-turned (t ∷ turns) r v = let rest = leaves-turned turns (r + 1) (turning v r t) in record { shares = rest.shares; zero = rest.zero; asked = rest.asked; readied = rest.readied; noted = rest.noted }

  -- They are listed with their stamps.
  made-turned : (turns : List (Move K)) (r : ℕ) (v : View K) (p : ℕ) (b : BodyValue K) → v.held ≡ Some (p, b) → (all_turned v r turns).made ≡ v.made ++ turns_from p r (length turns)
  made-turned [] r v p b is = sym (append-nil v.made)
  made-turned (t ∷ turns) r v p b is =
      made-turned turns (r + 1) (turning v r t) p (turned_body t.event r (moved b t.body)) (ap (held_after t r) is)
      ∙ ap (λ (xs : List (ℕ × ℕ)). (v.made ++ xs) ++ turns_from p (r + 1) (length turns)) (ap (turn_of r) is)
      ∙ append_assoc v.made ((r, p) ∷ []) (turns_from p (r + 1) (length turns))

module _ {K : Type 0} (rules : Rules K) (n m : ℕ) where
  -- Where a seat is at no end it stays so.
  nowhere-receiving : (turns : List (Move K)) (r : ℕ) (v : View K) → v.receiving ≡ None → (all_turned v r turns).receiving ≡ None
  nowhere-receiving [] r v is = is
  nowhere-receiving (t ∷ turns) r v is = nowhere-receiving turns (r + 1) (turning v r t) (ap (receiving_after t.event) is)

  nowhere-sending : (turns : List (Move K)) (r : ℕ) (v : View K) → v.sending ≡ None → (all_turned v r turns).sending ≡ None
  nowhere-sending [] r v is = is
  nowhere-sending (t ∷ turns) r v is = nowhere-sending turns (r + 1) (turning v r t) (ap (sending_after t.event) is)

  all-receive : (turns : List (Move K)) (r : ℕ) (v : View K) (c count : ℕ) → Passed turns → MayFrom rules n m v r turns → ReceivesSo c count v.receiving → ReceivesSo c count (all_turned v r turns).receiving
  all-receive [] r v c count passed may so = so
  all-receive (t ∷ turns) r v c count passed may so =
      all-receive turns (r + 1) (turning v r t) c count (All-tail (λ (u : Move K). IsPassed u.event) t turns passed) may.1 (receives-so t.event c count v.sending v.receiving (All-head (λ (u : Move K). IsPassed u.event) t turns passed) may.0.ends so)

  all-send : (turns : List (Move K)) (r : ℕ) (v : View K) (c count : ℕ) → Passed turns → MayFrom rules n m v r turns → SendsSo c count v.sending → SendsSo c count (all_turned v r turns).sending
  all-send [] r v c count passed may so = so
  all-send (t ∷ turns) r v c count passed may so =
      all-send turns (r + 1) (turning v r t) c count (All-tail (λ (u : Move K). IsPassed u.event) t turns passed) may.1 (sends-so t.event c count v.sending v.receiving (All-head (λ (u : Move K). IsPassed u.event) t turns passed) may.0.ends so)

  -- After them all that was drawn is taken, and all that was placed is put.
  input-taken : (turns : List (Move K)) (r : ℕ) (v : View K) (end : Option End) → IsAtInput end v.receiving → Passed turns → MayFrom rules n m v r turns → HasNoneLeft (all_turned v r turns) → (all_turned v r turns).receiving ≡ taken_by end
  input-taken turns r v None at passed may left = nowhere-receiving turns r v at
  input-taken turns r v (Some end) (y, is, here, out, withdrawn, many, some_drawn) passed may left =
      let after = all-receive turns r v end.connection end.packets passed may (y, is, here, out, (let e : length y.drawn + y.unwithdrawn ≡ end.packets = omega (arith, withdrawn, many) in e)) in
      let z = after.0 in
      let gone : length z.drawn ≡ 0 = subst (λ (o : Option Receiving). drawn_count o ≡ 0) after.1 left.0 in
      let drawn = none-there z.drawn gone in
      let count : z.unwithdrawn ≡ end.packets = omega (arith, after.4, gone) in
      after.1 ∙ (λ i. let o : Option Receiving = Some (record { connection = after.2 i; drawn = drawn i; out = after.3 i; unwithdrawn = count i }) in o)

  output-put : (turns : List (Move K)) (r : ℕ) (v : View K) (end : Option End) → IsAtOutput end v.sending → Passed turns → MayFrom rules n m v r turns → HasNoneLeft (all_turned v r turns) → (all_turned v r turns).sending ≡ put_by end
  output-put turns r v None at passed may left = nowhere-sending turns r v at
  output-put turns r v (Some end) (x, is, here, out, published, subtracted, learnt, many) passed may left =
      let after = all-send turns r v end.connection end.packets passed may (x, is, here, out, (let e : length x.placed + x.unpublished ≡ end.packets = omega (arith, published, many) in e), subtracted, learnt) in
      let z = after.0 in
      let gone : length z.placed ≡ 0 = subst (λ (o : Option Sending). placed_count o ≡ 0) after.1 left.1 in
      let placed = none-there z.placed gone in
      let count : z.unpublished ≡ end.packets = omega (arith, after.4, gone) in
      after.1 ∙ (λ i. let o : Option Sending = Some (record { connection = after.2 i; placed = placed i; out = after.3 i; unpublished = count i; unsubtracted = after.5 i; learnt = after.6 i }) in o)

module _ {K : Type 0} (rules : Rules K) (z : TableId) (n m : ℕ) (capacities : List ℕ) (start : NetValue K) (began : BodyValue K) where
  -- What is known of the turns that are stamped.
  abbrev pub Known : Worker K → Held K → ℕ → List (Move K) → Type 0
  Known w h count turns = (length turns ≡ count) × ArePassed began turns × IsPending rules n m (view w) turns h.process h.body

  -- The turns of the burst are stamped, and the body has their stamps: the worker has still to tell of them at both ends.
  pub burst-settled : (w w' : Worker K) (h h' : Held K) (ends : Ends) (count stamp : ℕ) → IsInBurst rules z n m capacities began w h ends → IsSeated z n w' h → StampsAll rules start (Known w h count) (view w) (view w') stamp → h'.process ≡ h.process
      → h'.body ≡ record h.body { stamps = restamped count stamp h.body.stamps } → IsMidway rules z n w' h' (put_by ends.output) (taken_by ends.input) []
  burst-settled w w' h h' ends count stamp q seat s process body =
      let v = view w in
      let turns = s.turns in
      let passed = s.known.1.passed in
      let pending = s.known.2 in
      let counted = pending-further rules n m turns v (counting v) h.process h.body pending (counting-further v) in
      let held = stamped-held rules n m turns v (view w') h.process stamp count h.body h'.body pending s.known.0 s.view body in
      let kept = leaves-turned turns stamp (counting v) in
      record {
        table = seat.table;
        share = seat.share;
        sends = ap (λ (x : View K). x.sending) s.view ∙ output-put rules n m turns stamp (counting v) ends.output q.output passed (counted.may stamp) (counted.used stamp);
        receives = ap (λ (x : View K). x.receiving) s.view ∙ input-taken rules n m turns stamp (counting v) ends.input q.input passed (counted.may stamp) (counted.used stamp);
        noted = ap (λ (x : View K). x.noted) s.view ∙ kept.noted ∙ q.noted;
        spare = seat.spare;
        below = subst (λ (p : ℕ). p < n) (sym process) seat.below;
        agrees = record {
          base = held.0;
          held = held.1 ∙ (λ i. let o : Option (ℕ × BodyValue K) = Some (sym process i, held.0) in o);
          rests = held.2;
          whole = ap (λ (b : BodyValue K). b.leaving) body ∙ pending.whole;
        };
        slots = seat.slots ∙ ap (λ (p : ℕ). (p, slot.Vacant) ∷ []) (sym process);
      }

  -- They are the turns of the burst.
  pub burst-makes : (w w' : Worker K) (h h' : Held K) (count stamp : ℕ) → IsSeated z n w h → StampsAll rules start (Known w h count) (view w) (view w') stamp → h'.process ≡ h.process
      → h'.body ≡ record h.body { stamps = restamped count stamp h.body.stamps } → Below stamp (view w).made → woken_of w' ≡ woken_of w → MakesBurst rules start began count h w h' w' stamp
  burst-makes w w' h h' count stamp q s process body above woken =
      let v = view w in
      let turns = s.turns in
      let held = stamped-held rules n m turns v (view w') h.process stamp count h.body h'.body s.known.2 s.known.0 s.view body in
      let kept = leaves-turned turns stamp (counting v) in
      record {
        process = process;
        turns = turns;
        many = s.known.0;
        passed = s.known.1;
        machine = s.machine;
        body = subst (IsHeldAs rules h.process h'.body) (ap (λ (x : View K). x.held) s.view ∙ held-turned turns stamp (counting v) v refl) held;
        made = ap (λ (x : View K). x.made) s.view ∙ made-turned turns stamp (counting v) h.process q.base q.held ∙ ap (λ (k : ℕ). v.made ++ turns_from h.process stamp k) s.known.0;
        above = above;
        seat = record { shares = ap (λ (x : View K). x.shares) s.view ∙ kept.shares; zero = ap (λ (x : View K). x.read_zero) s.view ∙ kept.zero; asked = ap (λ (x : View K). x.asked) s.view ∙ kept.asked };
        readied = ap (λ (x : View K). x.readied) s.view ∙ kept.readied;
        woken = woken;
      }
