-- Pending turns may still be made where their seat has gone further meanwhile.
use Rattle.std.proofs.Common.{◌≡◌, ℕ, ◌+◌, ◌<◌, ◌≤◌, List, [], ◌∷◌, ◌++◌, length, length-append, append-nil, append_assoc, drop, Option, Some, None, refl, sym, ap, ◌∙◌, subst, arith}
use Rattle.std.specs.Prelude.{unwrap_or, slice_get}
use Rattle.std.specs.Option.{option_map}
use Rattle.flow_packet.specs.Tree.{Tree}
use Rattle.flow_component.specs.Laws.{Rules}
use Rattle.flow_model.specs.Turns.{Change, Taken, Added, Closed, ChangeAt, change_of}
use Rattle.flow_machine.specs.Values.{BodyValue, NetValue}
use Rattle.flow_floor.proofs.Lists.{some_Some}
use Rattle.flow_floor.specs.declared.board.Sending.{Sending}
use Rattle.flow_floor.specs.declared.board.Receiving.{Receiving}
use Rattle.flow_floor.specs.declared.board.View.{View}
use Rattle.flow_floor.specs.Ends.{receiving_at, IsLearnt, MayDraw, MayPlace}
use Rattle.flow_floor.specs.Law.{AllSeen}
use Rattle.flow_floor.specs.Pending.{May, MayFrom, AllMay}
use Rattle.flow_floor.specs.Turning.{sent_by, sent_after, received_by, received_after, HasComeFor, MayChange, SendingIn, ReceivingIn}
use Rattle.flow_floor.specs.Views.{Move, all_turned, counting, drawing, emptying, entering, filling, held_after, looked, moved, placing, seeing, turning}

-- The packets that a seat drew, or placed, and that no turn has used.
abbrev pub drawn_of : Option Receiving → List Tree
drawn_of None = []
drawn_of (Some receiving) = receiving.drawn

abbrev pub placed_of : Option Sending → List Tree
placed_of None = []
placed_of (Some sending) = sending.placed

-- A receiving end, to which its seat may just have come, has these packets more behind those that were drawn before, and is otherwise as it was.
abbrev pub ReceivesFurther : List Tree → Option Receiving → Option Receiving → Type 0
ReceivesFurther more None new = drawn_of new ≡ more
ReceivesFurther more (Some old) new = (y : Receiving) × (new ≡ Some y) × (y.connection ≡ old.connection) × (y.out ≡ old.out) × (y.drawn ≡ old.drawn ++ more)

-- A sending end has these packets more behind those that were placed before.
abbrev pub SendsFurther : List Tree → Option Sending → Option Sending → Type 0
SendsFurther more None new = placed_of new ≡ more
SendsFurther more (Some old) new = (x : Sending) × (new ≡ Some x) × (x.connection ≡ old.connection) × (x.out ≡ old.out) × (x.placed ≡ old.placed ++ more) × (x.unpublished ≡ old.unpublished) × (x.learnt ≡ old.learnt)

-- A seat has gone further: it holds the same, has these packets more drawn and these more placed, and has seen no less.
pub record GoesFurther {K : Type 0} (drawn placed : List Tree) (v w : View K) : Type 0 where
  pub held : w.held ≡ v.held
  pub receiving : ReceivesFurther drawn v.receiving w.receiving
  pub sending : SendsFurther placed v.sending w.sending
  pub seen : (n : ℕ) (now : NetValue K) (held : Option (ℕ × BodyValue K)) → AllSeen n now held w.seen → AllSeen n now held v.seen

-- Where an end is as it was, it has no packets more.
receives-same : (o : Option Receiving) → ReceivesFurther [] o o
receives-same None = refl
receives-same (Some y) = (y, refl, refl, refl, sym (append-nil y.drawn))

sends-same : (o : Option Sending) → SendsFurther [] o o
sends-same None = refl
sends-same (Some x) = (x, refl, refl, refl, sym (append-nil x.placed), refl, refl)

-- What the seat knew of an end is so wherever what it knows now is.
receiving-still : {K : Type 0} (more : List Tree) (now : NetValue K) (old new : Option Receiving) → ReceivesFurther more old new → ReceivingIn now new → ReceivingIn now old
receiving-still more now None new further is_in = tt
receiving-still more now (Some old) new (y, is, here, out, drawn) is_in =
    let r = subst (ReceivingIn now) is is_in in
    (r.0, ap (slice_get now.channels) (sym here) ∙ r.1, (more ++ r.2.0, r.2.1 ∙ ap (λ (ps : List Tree). ps ++ r.2.0) drawn ∙ append_assoc old.drawn more r.2.0))

sending-still : {K : Type 0} (more : List Tree) (now : NetValue K) (old new : Option Sending) → SendsFurther more old new → SendingIn now new → SendingIn now old
sending-still more now None new further is_in = tt
sending-still more now (Some old) new (x, is, here, out, placed, unpublished, learnt) is_in =
    let s = subst (SendingIn now) is is_in in
    let room : length s.0.packets + length x.placed ≤ s.0.capacity = s.2 in
    (s.0, ap (slice_get now.channels) (sym here) ∙ s.1, omega (arith, room, ap (λ (ps : List Tree). length ps) placed, length-append old.placed more), subst (IsLearnt s.0) learnt s.3)

-- A change for which the seat had come may still be made.
comes-still : (drawn placed : List Tree) (c : ℕ) (change : Change) (s s' : Option Sending) (o o' : Option Receiving) → SendsFurther placed s s' → ReceivesFurther drawn o o' → HasComeFor c change s o → HasComeFor c change s' o'
comes-still drawn placed c Taken s s' o o' sends receives (old, was, at, some_drawn, inside) =
    let f = subst (λ (z : Option Receiving). ReceivesFurther drawn z o') was receives in
    (f.0, f.1, f.2 ∙ at, omega (arith, some_drawn, ap (λ (ps : List Tree). length ps) f.4, length-append old.drawn drawn), f.3 ∙ inside)
comes-still drawn placed c (Added packet) s s' o o' sends receives (old, was, at, first, inside) =
    let f = subst (λ (z : Option Sending). SendsFurther placed z s') was sends in
    let is : f.0.placed ≡ packet ∷ (drop 1 old.placed ++ placed) = f.4 ∙ ap (λ (ps : List Tree). ps ++ placed) first in
    (f.0, f.1, f.2 ∙ at, is ∙ ap (λ (ps : List Tree). packet ∷ ps) (sym (ap (drop 1) is)), f.3 ∙ inside)
comes-still drawn placed c (Closed output) s s' o o' sends receives (old, was, at, published) =
    let f = subst (λ (z : Option Sending). SendsFurther placed z s') was sends in
    (f.0, f.1, f.2 ∙ at, f.5 ∙ published)

may-still : (drawn placed : List Tree) (change : Option ChangeAt) (s s' : Option Sending) (o o' : Option Receiving) → SendsFurther placed s s' → ReceivesFurther drawn o o' → MayChange change s o → MayChange change s' o'
may-still drawn placed None s s' o o' sends receives may = tt
may-still drawn placed (Some at) s s' o o' sends receives may = comes-still drawn placed at.connection at.change s s' o o' sends receives may

-- The first of a list that isn't empty goes, and what is behind the list stays.
drop-first : (xs more : List Tree) → 0 < length xs → drop 1 (xs ++ more) ≡ drop 1 xs ++ more
drop-first [] more some_there = absurd (omega (arith, some_there))
drop-first (x ∷ xs) more some_there = refl

-- A turn leaves the ends as much further.
receives-after : (more : List Tree) (change : Option ChangeAt) (s : Option Sending) (old new : Option Receiving) → MayChange change s old → ReceivesFurther more old new → ReceivesFurther more (option_map (received_after change) old) (option_map (received_after change) new)
receives-after more change s None new may further = by change new may further
  where
    still : (c : ℕ) (change : Change) (o : Option Receiving) → HasComeFor c change s None → drawn_of o ≡ more → drawn_of (option_map (received_by change) o) ≡ more
    still c Taken o came further = (let e : None ≡ Some came.0 = came.1 in absurd (cc))
    still c (Added packet) None came further = further
    still c (Added packet) (Some y) came further = further
    still c (Closed output) None came further = further
    still c (Closed output) (Some y) came further = further

    by : (change : Option ChangeAt) (o : Option Receiving) → MayChange change s None → drawn_of o ≡ more → drawn_of (option_map (received_after change) o) ≡ more
    by None None may further = further
    by None (Some y) may further = further
    by (Some at) None may further = further
    by (Some at) (Some y) may further = still at.connection at.change (Some y) may further
receives-after more None s (Some old) new may (y, is, here, out, drawn) = (y, ap (option_map (received_after None)) is, here, out, drawn)
receives-after more (Some at) s (Some old) new may (y, is, here, out, drawn) = by at.change may
  where
    by : (change : Change) → HasComeFor at.connection change s (Some old) → ReceivesFurther more (Some (received_by change old)) (option_map (received_by change) new)
    by Taken (a, same, at_c, some_drawn, inside) =
        let some_old : 0 < length old.drawn = subst (λ (z : Receiving). 0 < length z.drawn) (sym (some_Some old a same)) some_drawn in
        (received_by Taken y, ap (option_map (received_by Taken)) is, here, out, ap (drop 1) drawn ∙ drop-first old.drawn more some_old)
    by (Added packet) came = (y, ap (option_map (received_by (Added packet))) is, here, out, drawn)
    by (Closed output) came = (y, ap (option_map (received_by (Closed output))) is, here, out, drawn)

sends-after : (more : List Tree) (change : Option ChangeAt) (o : Option Receiving) (old new : Option Sending) → MayChange change old o → SendsFurther more old new → SendsFurther more (option_map (sent_after change) old) (option_map (sent_after change) new)
sends-after more change o None new may further = by change new may further
  where
    still : (c : ℕ) (change : Change) (s : Option Sending) → HasComeFor c change None o → placed_of s ≡ more → placed_of (option_map (sent_by change) s) ≡ more
    still c Taken None came further = further
    still c Taken (Some x) came further = further
    still c (Added packet) s came further = (let e : None ≡ Some came.0 = came.1 in absurd (cc))
    still c (Closed output) s came further = (let e : None ≡ Some came.0 = came.1 in absurd (cc))

    by : (change : Option ChangeAt) (s : Option Sending) → MayChange change None o → placed_of s ≡ more → placed_of (option_map (sent_after change) s) ≡ more
    by None None may further = further
    by None (Some x) may further = further
    by (Some at) None may further = further
    by (Some at) (Some x) may further = still at.connection at.change (Some x) may further
sends-after more None o (Some old) new may (x, is, here, out, placed, unpublished, learnt) = (x, ap (option_map (sent_after None)) is, here, out, placed, unpublished, learnt)
sends-after more (Some at) o (Some old) new may (x, is, here, out, placed, unpublished, learnt) = by at.change may
  where
    by : (change : Change) → HasComeFor at.connection change (Some old) o → SendsFurther more (Some (sent_by change old)) (option_map (sent_by change) new)
    by Taken came = (x, ap (option_map (sent_by Taken)) is, here, out, placed, unpublished, learnt)
    by (Added packet) (a, same, at_c, first, inside) =
        let some_old : 0 < length old.placed = (let e : a.placed ≡ old.placed = ap (λ (z : Sending). z.placed) (sym (some_Some old a same)) in omega (arith, ap (λ (ps : List Tree). length ps) e, ap (λ (ps : List Tree). length ps) first)) in
        (sent_by (Added packet) x, ap (option_map (sent_by (Added packet))) is, here, out, ap (drop 1) placed ∙ drop-first old.placed more some_old, ap (λ (u : ℕ). u + 1) unpublished, refl)
    by (Closed output) came = (sent_by (Closed output) x, ap (option_map (sent_by (Closed output))) is, here, out, placed, unpublished, learnt)

module _ {K : Type 0} where
  -- A turn leaves the seat as much further.
  pub further-turned : (drawn placed : List Tree) (v w : View K) (r : ℕ) (t : Move K) → GoesFurther drawn placed v w → MayChange (change_of t.event) v.sending v.receiving → GoesFurther drawn placed (turning v r t) (turning w r t)
  further-turned drawn placed v w r t f may = record {
    held = ap (held_after t r) f.held;
    receiving = receives-after drawn (change_of t.event) v.sending v.receiving w.receiving may f.receiving;
    sending = sends-after placed (change_of t.event) v.receiving v.sending w.sending may f.sending;
    seen = λ n now held all. all;
  }

  -- The turn itself may still be made.
  pub may-further : (rules : Rules K) (n m : ℕ) (drawn placed : List Tree) (v w : View K) (t : Move K) → GoesFurther drawn placed v w → May rules n m v t → May rules n m w t
  may-further rules n m drawn placed v w t f one = record {
    process = one.process;
    before = one.before;
    held = f.held ∙ one.held;
    rests = one.rests;
    ends = may-still drawn placed (change_of t.event) v.sending w.sending v.receiving w.receiving f.sending f.receiving one.ends;
    happens = λ now fits there sends receives seen len. one.happens now fits there (sending-still placed now v.sending w.sending f.sending sends) (receiving-still drawn now v.receiving w.receiving f.receiving receives) (f.seen n now (Some (one.process, moved one.before t.body)) seen) len;
  }

  -- So it is with all pending turns, which leave the seat as much further.
  pub all-further : (rules : Rules K) (n m : ℕ) (drawn placed : List Tree) (turns : List (Move K)) (r : ℕ) (v w : View K) → GoesFurther drawn placed v w → MayFrom rules n m v r turns
      → MayFrom rules n m w r turns × GoesFurther drawn placed (all_turned v r turns) (all_turned w r turns)
  all-further rules n m drawn placed [] r v w f may = (tt, f)
  all-further rules n m drawn placed (t ∷ turns) r v w f may =
      let rest = all-further rules n m drawn placed turns (r + 1) (turning v r t) (turning w r t) (further-turned drawn placed v w r t f may.0.ends) may.1 in
      ((may-further rules n m drawn placed v w t f may.0, rest.0), rest.1)

  -- Pending turns may still be made whatever stamps they get.
  pub all-may-further : (rules : Rules K) (n m : ℕ) (drawn placed : List Tree) (turns : List (Move K)) (v w : View K) → GoesFurther drawn placed v w → AllMay rules n m v turns → AllMay rules n m w turns
  all-may-further rules n m drawn placed turns v w f may r = (all-further rules n m drawn placed turns r v w f (may r)).0

  -- A seat that draws a packet, or places one, goes further by that packet.
  pub draw-further : (v : View K) (c place : ℕ) (packet : Tree) → MayDraw c v.receiving → GoesFurther (packet ∷ []) [] v (emptying (drawing v c place packet))
  draw-further v c place packet may = record { held = refl; receiving = by v.receiving may; sending = sends-same v.sending; seen = λ n now held all. all }
    where
      by : (o : Option Receiving) → MayDraw c o → ReceivesFurther (packet ∷ []) o (Some (record (unwrap_or o (receiving_at c)) { drawn = (unwrap_or o (receiving_at c)).drawn ++ packet ∷ []; out = None }))
      by None may = refl
      by (Some y) may = (record y { drawn = y.drawn ++ packet ∷ []; out = None }, refl, refl, sym may.1, refl)

  pub place-further : (v : View K) (c place : ℕ) (packet : Tree) → MayPlace c v.sending → GoesFurther [] (packet ∷ []) v (filling (placing v place packet))
  place-further v c place packet may = record { held = refl; receiving = receives-same v.receiving; sending = by v.sending may; seen = λ n now held all. all }
    where
      by : (o : Option Sending) → MayPlace c o
          → SendsFurther (packet ∷ []) o (option_map (λ (x : Sending). record x { out = None }) (option_map (λ (x : Sending). record x { placed = x.placed ++ packet ∷ []; out = Some place }) o))
      by None may = absurd may
      by (Some x) may = (record x { placed = x.placed ++ packet ∷ []; out = None }, refl, refl, sym may.1, refl, refl, refl)

  -- One that looks at a level has seen more; one that counts a step, or finds a gate taken, knows what it knew.
  pub seeing-further : (v : View K) (i r : ℕ) → GoesFurther [] [] v (seeing v i r)
  seeing-further v i r = record { held = refl; receiving = receives-same v.receiving; sending = sends-same v.sending; seen = less }
    where
      less : (n : ℕ) (now : NetValue K) (held : Option (ℕ × BodyValue K)) → AllSeen n now held (seeing v i r).seen → AllSeen n now held v.seen
      less n now None all = tt
      less n now (Some held) all = all.1

  pub looked-further : (v : View K) (i r : ℕ) → GoesFurther [] [] v (looked v i r)
  looked-further v i r = record { held = refl; receiving = receives-same v.receiving; sending = sends-same v.sending; seen = λ n now held all. all }

  pub counting-further : (v : View K) → GoesFurther [] [] v (counting v)
  counting-further v = record { held = refl; receiving = receives-same v.receiving; sending = sends-same v.sending; seen = λ n now held all. all }

  -- One that was at no sending end comes to one.
  pub entering-further : (v : View K) (c : ℕ) → v.sending ≡ None → GoesFurther [] [] v (entering v c)
  entering-further v c nowhere = record {
    held = refl;
    receiving = receives-same v.receiving;
    sending = subst (λ (o : Option Sending). SendsFurther [] o (entering v c).sending) (sym nowhere) refl;
    seen = λ n now held all. all;
  }
