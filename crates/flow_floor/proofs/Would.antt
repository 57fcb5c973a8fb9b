-- The packet that a seat draws is the oldest that the machine would have, if the seat's pending turns were stamped.
use Rattle.std.proofs.Common.{◌≡◌, ℕ, zero, suc, ◌+◌, ◌<◌, List, [], ◌∷◌, ◌++◌, length, get_or, set, sym, refl, ap, ◌∙◌, subst, arith, Option, Some, None, slice_get, get_or-set_other, inl, inr}
use Rattle.std.specs.Prelude.{unwrap_or}
use Rattle.std.specs.Option.{option_map}
use mathlib.Core.Option.{some, some-injective}
use lib.ListN.{get_elem?}
use Rattle.atomic_table.proofs.Lists.{set_here}
use Rattle.flow_packet.specs.Tree.{Tree}
use Rattle.flow_component.specs.Laws.{Rules, Lawful}
use Rattle.flow_model.specs.Turns.{Change, Taken, Added, Closed, ChangeAt, change_of}
use Rattle.flow_model.specs.Stands.{ChannelShown}
use Rattle.flow_machine.specs.Values.{BodyValue, NetValue}
use Rattle.flow_machine.proofs.FitLemmas.{same-turns}
use Rattle.flow_ring.specs.Words.{level_in}
use Rattle.flow_ring.specs.Places.{takes_slot, place_slot}
use Rattle.flow_floor.specs.Turning.{turned_body, received_by, received_after, HasComeFor, MayChange}
use Rattle.flow_floor.specs.Law.{Holds, Rests, Beside, CountLies, LiesSo}
use Rattle.flow_floor.specs.Plays.{HeldIn, drawn_count, WouldBeThere, WouldHold}
use Rattle.flow_floor.specs.Wired.{IsInput}
use Rattle.flow_floor.proofs.Channels.{input-same}
use Rattle.flow_floor.proofs.Lists.{some_Some, at_inside, get-exists}
use Rattle.flow_floor.specs.declared.board.Slot.TheVariants as slot
use Rattle.flow_floor.specs.declared.board.Sending.{Sending}
use Rattle.flow_floor.specs.declared.board.Receiving.{Receiving}
use Rattle.flow_floor.specs.declared.board.View.{View}
use Rattle.flow_floor.specs.Ends.{Receiver, receiving_at, sending_of, receiving_of, capacities_of}
use Rattle.flow_floor.specs.Pending.{MayFrom, AllMay}
use Rattle.flow_floor.specs.Rule.{Law}
use Rattle.flow_floor.specs.Views.{Move, moved, held_after, all_turned, received_at, turning}
use Rattle.flow_floor.proofs.Cells.{St, state, length-drop-one}
use Rattle.flow_floor.proofs.Lying.{cell-oldest}
use Rattle.flow_floor.proofs.Slots.{cell-is, count-is}
use Rattle.flow_floor.proofs.Stamps.{law-turns, mine-receives}
use Rattle.flow_floor.proofs.Coming.{says-of, receiver-alone}

module _ {K : Type 0} (rules : Rules K) (lawful : Lawful rules)
    (start : NetValue K) where
  abbrev Rule : St K → Type 0
  Rule = Law rules start

  abbrev P : ℕ
  P = length start.bodies

  abbrev caps : List ℕ
  caps = capacities_of start

  abbrev C : ℕ
  C = length caps

  -- What of a receiving end stays over turns: where it is, what is out, and how many packets were drawn that the level still counts.
  record EndFollows (o o' : Option Receiving) (c : ℕ) : Type 0 where
    none : o ≡ None → o' ≡ None
    place : (y : Receiving) → o ≡ Some y → (y' : Receiving) × (o' ≡ Some y') × (y'.connection ≡ y.connection)
    out : (unwrap_or o' (receiving_at c)).out ≡ (unwrap_or o (receiving_at c)).out
    counted : length (unwrap_or o' (receiving_at c)).drawn + (unwrap_or o' (receiving_at c)).unwithdrawn ≡ length (unwrap_or o (receiving_at c)).drawn + (unwrap_or o (receiving_at c)).unwithdrawn

  end-still : (o : Option Receiving) (c : ℕ) → EndFollows o o c
  end-still o c = record { none = λ e. e; place = λ y is. (y, is, refl); out = refl; counted = refl }

  end-then : (a b d : Option Receiving) (c : ℕ) → EndFollows a b c → EndFollows b d c → EndFollows a d c
  end-then a b d c first second = record {
    none = λ e. second.none (first.none e);
    place = λ y is. (let f = first.place y is in let g = second.place f.0 f.1 in (g.0, g.1, g.2 ∙ f.2));
    out = second.out ∙ first.out;
    counted = second.counted ∙ first.counted;
  }

  end-turn : (change : Option ChangeAt) (sending : Option Sending) (o : Option Receiving) (c : ℕ) → MayChange change sending o → EndFollows o (option_map (received_after change) o) c
  end-turn change sending None c may = record { none = λ e. refl; place = λ y is. (let e : None ≡ Some y = is in absurd (cc)); out = refl; counted = refl }
  end-turn None sending (Some y) c may = end-still (Some y) c
  end-turn (Some at) sending (Some y) c may = by at.change may
    where
      by : (change : Change) → HasComeFor at.connection change sending (Some y) → EndFollows (Some y) (Some (received_by change y)) c
      by Taken (a, is, here, some_drawn, inside) =
          let same : y ≡ a = some_Some y a is in
          let some_one : 0 < length y.drawn = subst (λ (z : Receiving). 0 < length z.drawn) (sym same) some_drawn in
          record {
            none = λ e. (let z : None ≡ Some y = sym e in absurd (cc));
            place = λ z is'. (received_by Taken y, refl, ap (λ (t : Receiving). t.connection) (some_Some y z is'));
            out = refl;
            counted = omega (arith, length-drop-one y.drawn, some_one);
          }
      by (Added packet) came = end-still (Some y) c
      by (Closed output) came = end-still (Some y) c

  -- What of a seat stays over its turns.
  record Follows (v v' : View K) (p c : ℕ) : Type 0 where
    body : BodyValue K
    held : v'.held ≡ Some (p, body)
    input : IsInput body c
    end : EndFollows v.receiving v'.receiving c

  follows : (turns : List (Move K)) (r : ℕ) (v : View K) (p c : ℕ) (b : BodyValue K) → v.held ≡ Some (p, b) → IsInput b c → MayFrom rules P C v r turns → Follows v (all_turned v r turns) p c
  follows [] r v p c b holds input may = record { body = b; held = holds; input = input; end = end-still v.receiving c }
  follows (t ∷ turns) r v p c b holds input may =
      let one = may.0 in
      let same : (one.process, one.before) ≡ (p, b) = some_Some (one.process, one.before) (p, b) (sym one.held ∙ holds) in
      let rests = subst (λ (z : BodyValue K). Rests rules z (moved z t.body)) (ap (λ (z : ℕ × BodyValue K). z.1) same) one.rests in
      let ports = same-turns rules lawful b (moved b t.body) rests.0 in
      let v1 = turning v r t in
      let held1 = ap (λ h. held_after t r h) holds in
      let rest = follows turns (r + 1) v1 p c (turned_body t.event r (moved b t.body)) held1 (input-same c (moved b t.body) b (sym ports.1, sym ports.3) input) may.1 in
      record { body = rest.body; held = rest.held; input = rest.input; end = end-then v.receiving v1.receiving (all_turned v1 (r + 1) turns).receiving c (end-turn (change_of t.event) v.sending v.receiving c one.ends) rest.end }

  -- two slots of one place have the same thing
  same-home : {A : Type 0} (h : _) (x y : A) → h ≡ some (some x) → h ≡ some (some y) → x ≡ y
  same-home h x y a b = some-injective x y (some-injective (some x) (some y) (sym a ∙ b))

  in-first : (xs ys : List Tree) (i : ℕ) → i < length xs → slice_get (xs ++ ys) i ≡ slice_get xs i
  in-first [] ys i low = absurd (omega (arith, low))
  in-first (x ∷ xs) ys zero low = refl
  in-first (x ∷ xs) ys (suc i) low = in-first xs ys i (omega (arith, low))

  held-in : (g : Beside K) (id : ℕ) (h : Option (ℕ × BodyValue K)) → Holds g.holder g.now id h → HeldIn g.now h
  held-in g id None holds = tt
  held-in g id (Some held) holds = holds.1

  -- The machine would have the body that is held.
  pub would-hold : (s : St K) (r : Rule s) (id : ℕ) (v : View K) (turns : List (Move K)) → get_elem? s.views id ≡ some v → AllMay rules P C v turns → WouldHold rules v turns
  would-hold s r id v turns at pending =
      let stamp = get_or s.words (P + C + C) 0 in
      let all = law-turns rules lawful start turns s id v r at (pending stamp) in
      let v' = all_turned v stamp turns in
      let r' = all.rule in
      let at' : get_elem? (set s.views id v') id ≡ some v' = set_here s.views id v' (at_inside s.views id v at) in
      (stamp, r'.beside.now, r'.flow.fit, held-in r'.beside id v'.held (r'.flow.each_seat id v' at').holds)

  pub would-be : (s : St K) (r : Rule s) (id p c : ℕ) (v : View K) (b : BodyValue K) (k : ChannelShown) (packet : Tree) (turns : List (Move K)) → get_elem? s.views id ≡ some v → v.held ≡ Some (p, b) → IsInput b c → c < C → slice_get r.beside.now.channels c ≡ Some k
      → ((y : Receiving) → v.receiving ≡ Some y → y.connection ≡ c) → (received_at v c).out ≡ None → (received_at v c).unwithdrawn ≡ 0 → (l : LiesSo start s c k (sending_of c (r.beside.senders c)) (received_at v c)) → AllMay rules P C v turns → length (received_at v c).drawn < l.level
      → slice_get k.packets (length (received_at v c).drawn) ≡ Some packet → WouldBeThere rules v turns c packet
  would-be s r id p c v b k packet turns at holds input below there own inside withdrawn l pending in_level next =
      let stamp = get_or s.words (P + C + C) 0 in
      let all = law-turns rules lawful start turns s id v r at (pending stamp) in
      let v' = all_turned v stamp turns in
      let s' = state (set s.words (P + C + C) (stamp + length turns)) s.homes (set s.views id v') in
      let r' : Rule s' = all.rule in
      let at' : get_elem? s'.views id ≡ some v' = set_here s.views id v' (at_inside s.views id v at) in
      let f = follows turns stamp v p c b holds input (pending stamp) in
      let there' = get-exists r'.beside.now.channels c (omega (arith, below, r'.flow.same.1)) in
      let k' = there'.0 in
      let y = received_at v c in
      let y' = received_at v' c in
      let x' = sending_of c (r'.beside.senders c) in
      let so = receiver-so s' r' id p c v' f.body at' f.held f.input (own' v' f.end) in
      let l' : LiesSo start s' c k' x' y' = subst (LiesSo start s' c k' x') so (r'.flow.each_connection c k' there'.1).so in
      let says = says-of rules lawful start s c k (sending_of c (r.beside.senders c)) y l in
      let says' = says-of rules lawful start s' c k' x' y' l' in
      let word = get_or-set_other s.words (P + C + C) (P + c) (stamp + length turns) 0 (λ e. omega (arith, e, below)) in
      let level : l'.level ≡ l.level = sym says'.level_is ∙ ap level_in word ∙ says.level_is in
      let counted = f.end.counted in
      let inside' : y'.out ≡ None = f.end.out ∙ inside in
      let within : length y'.drawn < length k'.packets = omega (arith, in_level, level, counted, withdrawn, l'.counted) in
      let count = takes_slot P C c in
      let home = subst (CountLies s count (k.takes + length y.drawn)) inside l.takes in
      let home' = subst (CountLies s' count (k'.takes + length y'.drawn)) inside' l'.takes in
      let same : k.takes + length y.drawn ≡ k'.takes + length y'.drawn = count-is {K = K} (slot.Count (k.takes + length y.drawn)) (k.takes + length y.drawn) (k'.takes + length y'.drawn) refl (same-home (get_elem? s.homes count) (slot.Count (k.takes + length y.drawn)) (slot.Count (k'.takes + length y'.drawn)) home home') in
      let cell = place_slot P caps c (k.takes + length y.drawn) in
      let full = cell-oldest start s c k (sending_of c (r.beside.senders c)) y packet l next in
      let full' : get_elem? s.homes cell ≡ some (some (slot.Cell (slice_get (k'.packets ++ x'.placed) (length y'.drawn)))) = ap (λ n. get_elem? s.homes (place_slot P caps c n)) same ∙ (elim (l'.filled (length y'.drawn) (omega arith) (omega (arith, within, l'.room))) [
        | inl out ↦ absurd (omega (arith, out.2, within))
        | inr here ↦ here
      ]) in
      let is : Some packet ≡ slice_get (k'.packets ++ x'.placed) (length y'.drawn) = cell-is {K = K} (slot.Cell (Some packet)) (Some packet) (slice_get (k'.packets ++ x'.placed) (length y'.drawn)) refl (same-home (get_elem? s.homes cell) (slot.Cell (Some packet)) (slot.Cell (slice_get (k'.packets ++ x'.placed) (length y'.drawn))) full full') in
      let first : slice_get k'.packets (length y'.drawn) ≡ Some packet = sym (is ∙ in-first k'.packets x'.placed (length y'.drawn) within) in
      (stamp, (r'.beside.now, k', r'.flow.fit, there'.1, ap (slice_get k'.packets) (counts-drawn v' c) ∙ first, held-in r'.beside id v'.held (r'.flow.each_seat id v' at').holds))
    where
      counts-drawn : (u : View K) (c : ℕ) → drawn_count u.receiving ≡ length (received_at u c).drawn
      counts-drawn u c = by u.receiving
        where
          by : (o : Option Receiving) → drawn_count o ≡ length (unwrap_or o (receiving_at c)).drawn
          by None = refl
          by (Some y) = refl

      own' : (v' : View K) → EndFollows v.receiving v'.receiving c → (y : Receiving) → v'.receiving ≡ Some y → y.connection ≡ c
      own' v' end y is = by v.receiving refl
        where
          by : (o : Option Receiving) → v.receiving ≡ o → y.connection ≡ c
          by None e = let z : None ≡ Some y = sym (end.none e) ∙ is in absurd (cc)
          by (Some u) e = let f = end.place u e in let z : f.0 ≡ y = some_Some f.0 y (sym f.1 ∙ is) in ap (λ (t : Receiving). t.connection) (sym z) ∙ f.2 ∙ own u e

      receiver-so : (s' : St K) (r' : Rule s') (id p c : ℕ) (v' : View K) (b' : BodyValue K) → get_elem? s'.views id ≡ some v' → v'.held ≡ Some (p, b') → IsInput b' c → ((y : Receiving) → v'.receiving ≡ Some y → y.connection ≡ c) → receiving_of c (r'.beside.receivers c) ≡ received_at v' c
      receiver-so s' r' id p c v' b' at' holds' input' here = by v'.receiving refl
        where
          by : (o : Option Receiving) → v'.receiving ≡ o → receiving_of c (r'.beside.receivers c) ≡ received_at v' c
          by (Some y) is = ap (receiving_of c) (ap r'.beside.receivers (sym (here y is)) ∙ mine-receives rules lawful start s' r' id v' y at' is) ∙ sym (ap (λ (o : Option Receiving). unwrap_or o (receiving_at c)) is)
          by None is = none (r'.beside.receivers c) refl ∙ sym (ap (λ (o : Option Receiving). unwrap_or o (receiving_at c)) is)
            where
              none : (o : Receiver) → r'.beside.receivers c ≡ o → receiving_of c (r'.beside.receivers c) ≡ receiving_at c
              none None e = ap (receiving_of c) e
              none (Some (j, y)) e = let theirs = receiver-alone rules lawful start s' r' id p c v' b' at' holds' input' j y e in let z : None ≡ Some y = sym is ∙ theirs.1 in absurd (cc)
