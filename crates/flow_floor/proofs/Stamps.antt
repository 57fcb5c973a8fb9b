-- The step that counts the clock keeps the rule: one turn, and by induction all pending turns of a seat.
use Rattle.std.proofs.Common.{◌≡◌, ◌≢◌, ℕ, zero, suc, ◌+◌, ◌%◌, ◌^◌, ◌<◌, ◌≤◌, Bool, true, false, cond, List, [], ◌∷◌, ◌++◌, length, get_or, set, sym, refl, ap, ◌∙◌, subst, arith, Option, Some, None, slice_get, get_or-set_other, get_or-set_same, set-set, ◌==◌, inl, inr}
use Rattle.std.specs.Option.{option_map}
use mathlib.Core.Logic.{dite}
use mathlib.Core.Option.{none, some, some-injective}
use native.Mathlib.Decide.{ℕ_discrete}
use lib.ListN.{get_elem?}
use lib.Seq.{set-get_or}
use Rattle.std.proofs.lemmas.List.{length-map}
use Rattle.atomic_table.specs.Table.{step, keeps, Allows}
use Rattle.atomic_table.proofs.Lists.{set_here}
use Rattle.flow_component.specs.Laws.{Rules, Lawful}
use Rattle.flow_model.specs.Events.{Event, event_from}
use Rattle.flow_model.specs.Turns.{Change, Taken, Added, Closed, ChangeAt, change_of}
use Rattle.flow_model.specs.Stands.{ChannelShown, all_shown_after, shown_changed}
use Rattle.flow_machine.specs.Values.{BodyValue, NetValue}
use Rattle.flow_machine.specs.FitNets.{FitNet}
use Rattle.flow_machine.specs.Nets.{looks_of}
use Rattle.flow_machine.specs.Logs.{turns_made, Logged}
use Rattle.flow_machine.proofs.FitLemmas.{turns-most}
use Rattle.flow_ring.specs.Places.{level_rank, gate_rank}
use Rattle.flow_floor.specs.Turning.{turned_body, MachineTurn, sent_by, received_by, sent_after, received_after, sending_after, receiving_after, HasComeFor, MayChange, Happens, SendingIn, ReceivingIn}
use Rattle.flow_floor.specs.Made.{turns_by, Below}
use Rattle.flow_floor.proofs.Functions.{put, put_here, put_else}
use Rattle.flow_floor.proofs.Lists.{at_inside, some_Some, get-exists}
use Rattle.flow_floor.specs.declared.board.Sending.{Sending}
use Rattle.flow_floor.specs.declared.board.Receiving.{Receiving}
use Rattle.flow_floor.specs.declared.board.View.{View}
use Rattle.flow_floor.specs.declared.board.Look.{Look}
use Rattle.flow_floor.specs.Ends.{Sender, Receiver, sending_of, receiving_of, capacities_of, IsKept, Sends, Receives}
use Rattle.flow_floor.specs.Law.{Beside, Lies}
use Rattle.flow_floor.specs.Pending.{May, MayFrom, AllMay, MachineTurns}
use Rattle.flow_floor.specs.Plays.{Sat, stamped}
use Rattle.flow_floor.specs.Rule.{Law}
use Rattle.flow_floor.specs.Views.{Move, moved, held_after, turn_of, turning, all_turned, counting}
use Rattle.flow_floor.proofs.Cells.{St, state}
use Rattle.flow_floor.proofs.Flows.{AllLie, mine-holds, channel-below, connections-at, connections-keep, senders-same, receivers-same}
use Rattle.flow_floor.proofs.Laws.{law-commit, law-counting, law-stamp}
use Rattle.flow_floor.proofs.Lying.{so-taken, so-added, so-closed}
use Rattle.flow_floor.proofs.Openers.{IsSenders, opener, unchanged, changed-here, changed-else}
use Rattle.flow_floor.proofs.Seats.{SendersStay, ReceiversStay, stays-put, sending-place, receiving-place}

-- to set what is there changes nothing
set-same : {A : Type 0} (xs : List A) (i : ℕ) (x : A) → get_elem? xs i ≡ some x → set xs i x ≡ xs
set-same [] i x at = refl
set-same (y ∷ xs) zero x at = ap (λ z. z ∷ xs) (sym (some-injective y x at))
set-same (y ∷ xs) (suc i) x at = ap (λ zs. y ∷ zs) (set-same xs i x at)

-- what changes nothing leaves what may be there
same-mapped : {A : Type 0} (f : A → A) (o : Option A) → ((x : A) → f x ≡ x) → option_map f o ≡ o
same-mapped f None same = refl
same-mapped f (Some x) same = ap (λ y. let r : Option _ = Some y in r) (same x)

module _ {K : Type 0} (rules : Rules K) (lawful : Lawful rules)
    (start : NetValue K) where
  abbrev Rule : St K → Type 0
  Rule = Law rules start

  abbrev P : ℕ
  P = length start.bodies

  abbrev caps : List ℕ
  caps = capacities_of start

  abbrev C : ℕ
  C = length caps

  -- Who is at an end of a connection, by what the seat says of itself.
  pub mine-sends : (s : St K) (r : Rule s) (id : ℕ) (v : View K) (x : Sending) → get_elem? s.views id ≡ some v → v.sending ≡ Some x → r.beside.senders x.connection ≡ Some (id, x)
  mine-sends s r id v x at is = subst (IsKept sending-place r.beside.senders id) is (r.flow.each_seat id v at).sending

  pub mine-receives : (s : St K) (r : Rule s) (id : ℕ) (v : View K) (y : Receiving) → get_elem? s.views id ≡ some v → v.receiving ≡ Some y → r.beside.receivers y.connection ≡ Some (id, y)
  mine-receives s r id v y at is = subst (IsKept receiving-place r.beside.receivers id) is (r.flow.each_seat id v at).receiving

  said-view : (s : St K) (id : ℕ) (v u : View K) → get_elem? s.views id ≡ some v → get_elem? s.views id ≡ some u → u ≡ v
  said-view s id v u at at' = some-injective u v (sym at' ∙ at)

  -- Its process may be there.
  pub mine-output : (s : St K) (r : Rule s) (id : ℕ) (v : View K) (x : Sending) → get_elem? s.views id ≡ some v → v.sending ≡ Some x → Sends v.held x.connection
  mine-output s r id v x at is =
      let k = r.flow.each_sender x.connection id x (mine-sends s r id v x at is) in
      subst (λ (u : View K). Sends u.held x.connection) (said-view s id v k.view at k.there) k.allowed

  pub mine-input : (s : St K) (r : Rule s) (id : ℕ) (v : View K) (y : Receiving) → get_elem? s.views id ≡ some v → v.receiving ≡ Some y → Receives v.held y.connection
  mine-input s r id v y at is =
      let k = r.flow.each_receiver y.connection id y (mine-receives s r id v y at is) in
      subst (λ (u : View K). Receives u.held y.connection) (said-view s id v k.view at k.there) k.allowed

  -- so the connection is there
  output-there : (s : St K) (r : Rule s) (id : ℕ) (v : View K) (c : ℕ) → get_elem? s.views id ≡ some v → (h : Option (ℕ × BodyValue K)) → v.held ≡ h → Sends h c → (k : ChannelShown) × (slice_get r.beside.now.channels c ≡ Some k)
  output-there s r id v c at None is allowed = absurd allowed
  output-there s r id v c at (Some held) is allowed =
      let mine = mine-holds rules lawful start s r.beside id held.0 v held.1 r.flow at is in
      get-exists r.beside.now.channels c ((r.flow.fit.wired held.0 held.1 mine.1).outputs allowed.0 c allowed.1)

  input-there : (s : St K) (r : Rule s) (id : ℕ) (v : View K) (c : ℕ) → get_elem? s.views id ≡ some v → (h : Option (ℕ × BodyValue K)) → v.held ≡ h → Receives h c → (k : ChannelShown) × (slice_get r.beside.now.channels c ≡ Some k)
  input-there s r id v c at None is allowed = absurd allowed
  input-there s r id v c at (Some held) is (inl i) =
      let mine = mine-holds rules lawful start s r.beside id held.0 v held.1 r.flow at is in
      get-exists r.beside.now.channels c ((r.flow.fit.wired held.0 held.1 mine.1).inputs i.0 c i.1)
  input-there s r id v c at (Some held) is (inr z) =
      let mine = mine-holds rules lawful start s r.beside id held.0 v held.1 r.flow at is in
      get-exists r.beside.now.channels c (omega (arith, r.wakes.wired.signals held.0 c held.1 mine.1 z, r.flow.same.1, length-map start.channels (λ (k : ChannelShown). k.capacity)))

  -- The connection of an end, and how it lies.
  pub record Connected (s : St K) (r : Rule s) (c : ℕ) : Type 0 where
    pub channel : ChannelShown
    pub there : slice_get r.beside.now.channels c ≡ Some channel
    pub below : c < C
    pub lies : Lies start s c channel (r.beside.senders c) (r.beside.receivers c)

  connected : (s : St K) (r : Rule s) (c : ℕ) → (k : ChannelShown) × (slice_get r.beside.now.channels c ≡ Some k) → Connected s r c
  connected s r c k = record { channel = k.0; there = k.1; below = channel-below rules lawful start s r.beside c k.0 r.flow k.1; lies = r.flow.each_connection c k.0 k.1 }

  pub at-sending : (s : St K) (r : Rule s) (id : ℕ) (v : View K) (x : Sending) → get_elem? s.views id ≡ some v → v.sending ≡ Some x → Connected s r x.connection
  at-sending s r id v x at is = connected s r x.connection (output-there s r id v x.connection at v.held refl (mine-output s r id v x at is))

  pub at-receiving : (s : St K) (r : Rule s) (id : ℕ) (v : View K) (y : Receiving) → get_elem? s.views id ≡ some v → v.receiving ≡ Some y → Connected s r y.connection
  at-receiving s r id v y at is = connected s r y.connection (input-there s r id v y.connection at v.held refl (mine-input s r id v y at is))

  -- What a seat knows of the connections at its ends is so.
  pub sending-in : (s : St K) (r : Rule s) (id : ℕ) (v : View K) → get_elem? s.views id ≡ some v → (o : Option Sending) → v.sending ≡ o → SendingIn r.beside.now o
  sending-in s r id v at None is = tt
  sending-in s r id v at (Some x) is =
      let k = at-sending s r id v x at is in
      let l = subst (λ (z : Sender). Lies start s x.connection k.channel z (r.beside.receivers x.connection)) (mine-sends s r id v x at is) k.lies in
      (k.channel, k.there, omega (arith, l.so.room), l.so.learnt)

  pub receiving-in : (s : St K) (r : Rule s) (id : ℕ) (v : View K) → get_elem? s.views id ≡ some v → (o : Option Receiving) → v.receiving ≡ o → ReceivingIn r.beside.now o
  receiving-in s r id v at None is = tt
  receiving-in s r id v at (Some y) is =
      let k = at-receiving s r id v y at is in
      let l = subst (λ (z : Receiver). Lies start s y.connection k.channel (r.beside.senders y.connection) z) (mine-receives s r id v y at is) k.lies in
      (k.channel, k.there, l.so.drawn)

  -- How the ends and the connections are after a turn.
  record Turned (s : St K) (r : Rule s) (id : ℕ) (w : View K) (e : Event) (y : ℕ) : Type 0 where
    senders : ℕ → Sender
    receivers : ℕ → Receiver
    sending : SendersStay s id w r.beside.senders senders
    receiving : ReceiversStay s id w r.beside.receivers receivers
    lie : AllLie rules lawful start (all_shown_after e r.beside.now.channels) (state (set s.words (P + C + C) y) s.homes (set s.views id w)) senders receivers

  module _ (s : St K) (r : Rule s) (id p n y : ℕ) (v w : View K) (b : BodyValue K) (e : Event) (at : get_elem? s.views id ≡ some v) (holds : v.held ≡ Some (p, b)) (happens : event_from (looks_of r.beside.now.channels) b.process n ≡ Some e) (x : ℕ) (held : w.held ≡ Some (p, turned_body e x b))
      (sending : w.sending ≡ sending_after e v.sending) (receiving : w.receiving ≡ receiving_after e v.receiving) where
    abbrev g : Beside K
    g = r.beside

    abbrev after : St K
    after = state (set s.words (P + C + C) y) s.homes (set s.views id w)

    allowed-sends : (c : ℕ) → Sends v.held c → Sends w.held c
    allowed-sends c there = subst (λ (h : Option (ℕ × BodyValue K)). Sends h c) (sym held) (subst (λ (h : Option (ℕ × BodyValue K)). Sends h c) holds there)

    allowed-receives : (c : ℕ) → Receives v.held c → Receives w.held c
    allowed-receives c there = subst (λ (h : Option (ℕ × BodyValue K)). Receives h c) (sym held) (subst (λ (h : Option (ℕ × BodyValue K)). Receives h c) holds there)

    same-word : (q : ℕ) → q < P + C + C → get_or after.words q 0 ≡ get_or s.words q 0
    same-word q low = get_or-set_other s.words (P + C + C) q y 0 (λ z. omega (arith, z, low))

    same-sending : ((x : Sending) → sent_after (change_of e) x ≡ x) → SendersStay s id w g.senders g.senders
    same-sending same = senders-same rules lawful start s g id v w r.flow at (sending ∙ same-mapped (sent_after (change_of e)) v.sending same) allowed-sends

    same-receiving : ((x : Receiving) → received_after (change_of e) x ≡ x) → ReceiversStay s id w g.receivers g.receivers
    same-receiving same = receivers-same rules lawful start s g id v w r.flow at (receiving ∙ same-mapped (received_after (change_of e)) v.receiving same) allowed-receives

    -- all connections but the one that changes lie as they did
    others-lie : (change : ChangeAt) (k : ChannelShown) (senders' : ℕ → Sender) (receivers' : ℕ → Receiver) → change_of e ≡ Some change → slice_get g.now.channels change.connection ≡ Some k → ((d : ℕ) → d ≢ change.connection → (senders' d ≡ g.senders d) × (receivers' d ≡ g.receivers d))
        → Lies start after change.connection (shown_changed change.change k) (senders' change.connection) (receivers' change.connection) → AllLie rules lawful start (all_shown_after e g.now.channels) after senders' receivers'
    others-lie change k senders' receivers' is there ends lies d z at_d = dite (ℕ_discrete d change.connection)
        (λ same. (let kz : shown_changed change.change k ≡ z = some_Some (shown_changed change.change k) z (sym (changed-here e g.now.channels change k is there) ∙ ap (slice_get (all_shown_after e g.now.channels)) (sym same) ∙ at_d) in
        subst (λ (u : ℕ × ChannelShown). Lies start after u.0 u.1 (senders' u.0) (receivers' u.0)) (λ i. (sym same i, kz i)) lies))
        (λ other. connections-at rules lawful start s g after.words after.homes after.views change.connection senders' receivers' r.flow (channel-below rules lawful start s g change.connection k r.flow there) (λ q low a c. same-word q low) (λ u z. refl) ends d z
        (sym (changed-else e g.now.channels change k d is there other) ∙ at_d) other)

    turned-none : change_of e ≡ None → Turned s r id w e y
    turned-none is = record {
      senders = g.senders;
      receivers = g.receivers;
      sending = same-sending (λ x. ap (λ (c : Option ChangeAt). sent_after c x) is);
      receiving = same-receiving (λ x. ap (λ (c : Option ChangeAt). received_after c x) is);
      lie = λ c k there. connections-keep rules lawful start s g after.words after.homes after.views r.flow (λ q low high. same-word q high) (λ x z. refl) c k (ap (λ cs. slice_get cs c) (sym (unchanged e g.now.channels is)) ∙ there);
    }

    -- the sending end of the connection that changes is the seat's, and comes so far
    turned-sending : (change : ChangeAt) (a : Sending) → change_of e ≡ Some change → v.sending ≡ Some a → a.connection ≡ change.connection → ((u : Receiving) → received_by change.change u ≡ u)
        → ((k : ChannelShown) (u : Receiving) → slice_get g.now.channels change.connection ≡ Some k → Lies start s change.connection k (Some (id, a)) (g.receivers change.connection) → Lies start after change.connection (shown_changed change.change k) (Some (id, sent_by change.change a)) (g.receivers change.connection))
        → Turned s r id w e y
    turned-sending change a is mine here stays lies =
        let c = change.connection in
        let new = sent_by change.change a in
        let k = at-sending s r id v a at mine in
        let there : slice_get g.now.channels c ≡ Some k.channel = ap (slice_get g.now.channels) (sym here) ∙ k.there in
        let seat : g.senders c ≡ Some (id, a) = ap g.senders (sym here) ∙ mine-sends s r id v a at mine in
        let kept : new.connection ≡ c = sent-place change.change a ∙ here in
        let was = subst (λ (z : Sender). Lies start s c k.channel z (g.receivers c)) seat (r.flow.each_connection c k.channel there) in
        record {
          senders = put g.senders c (Some (id, new));
          receivers = g.receivers;
          sending = stays-put sending-place (λ (z : View K). z.sending) Sends s.views id c v w (Some new) g.senders at r.flow.each_sender
              (λ j z z_is. ap (λ (t : ℕ × Sending). t.0) (some_Some (j, z) (id, a) (sym z_is ∙ seat)))
              (λ z z_is. ap (λ (t : Sending). t.connection) (some_Some z a (sym z_is ∙ mine)) ∙ here)
              (λ z z_is. (ap (λ (t : Sending). t.connection) (some_Some z new (sym z_is)) ∙ kept, allowed-sends c (subst (Sends v.held) here (mine-output s r id v a at mine))))
              (sending ∙ ap (λ (o : Option ChangeAt). option_map (sent_after o) v.sending) is ∙ ap (option_map (sent_after (Some change))) mine);
          receiving = same-receiving (λ u. ap (λ (o : Option ChangeAt). received_after o u) is ∙ stays u);
          lie = others-lie change k.channel (put g.senders c (Some (id, new))) g.receivers is there (λ d other. (put_else g.senders c (Some (id, new)) d other, refl))
              (subst (λ (z : Sender). Lies start after c (shown_changed change.change k.channel) z (g.receivers c)) (sym (put_here g.senders c (Some (id, new)))) (lies k.channel (receiving_of c (g.receivers c)) there was));
        }
      where
        sent-place : (change : Change) (a : Sending) → (sent_by change a).connection ≡ a.connection
        sent-place Taken a = refl
        sent-place (Added packet) a = refl
        sent-place (Closed output) a = refl

    turned-by : (change : ChangeAt) → change_of e ≡ Some change → (kind : Change) → change.change ≡ kind → HasComeFor change.connection kind v.sending v.receiving → Turned s r id w e y
    turned-by change is Taken kind (a, mine, here, some_drawn, inside) =
        let c = change.connection in
        let new = received_by Taken a in
        let k = at-receiving s r id v a at mine in
        let there : slice_get g.now.channels c ≡ Some k.channel = ap (slice_get g.now.channels) (sym here) ∙ k.there in
        let seat : g.receivers c ≡ Some (id, a) = ap g.receivers (sym here) ∙ mine-receives s r id v a at mine in
        let was = subst (λ (z : Receiver). Lies start s c k.channel (g.senders c) z) seat (r.flow.each_connection c k.channel there) in
        let below = channel-below rules lawful start s g c k.channel r.flow there in
        let lies : Lies start after c (shown_changed Taken k.channel) (g.senders c) (Some (id, new)) = record {
          gated = same-word (gate_rank P C c) (omega (arith, below)) ∙ was.gated;
          so = so-taken start s after c k.channel (sending_of c (g.senders c)) a (same-word (level_rank P c) (omega (arith, below))) (λ x own. refl) some_drawn inside was.so;
        } in
        record {
          senders = g.senders;
          receivers = put g.receivers c (Some (id, new));
          sending = same-sending (λ u. ap (λ (o : Option ChangeAt). sent_after o u) is ∙ ap (λ (t : Change). sent_by t u) kind);
          receiving = stays-put receiving-place (λ (z : View K). z.receiving) Receives s.views id c v w (Some new) g.receivers at r.flow.each_receiver
              (λ j z z_is. ap (λ (t : ℕ × Receiving). t.0) (some_Some (j, z) (id, a) (sym z_is ∙ seat)))
              (λ z z_is. ap (λ (t : Receiving). t.connection) (some_Some z a (sym z_is ∙ mine)) ∙ here)
              (λ z z_is. (ap (λ (t : Receiving). t.connection) (some_Some z new (sym z_is)) ∙ here, allowed-receives c (subst (Receives v.held) here (mine-input s r id v a at mine))))
              (receiving ∙ ap (λ (o : Option ChangeAt). option_map (received_after o) v.receiving) is ∙ ap (option_map (received_after (Some change))) mine ∙ ap (λ (t : Change). let z : Option Receiving = Some (received_by t a) in z) kind);
          lie = others-lie change k.channel g.senders (put g.receivers c (Some (id, new))) is there (λ d other. (refl, put_else g.receivers c (Some (id, new)) d other))
              (subst (λ (z : Receiver × Change). Lies start after c (shown_changed z.1 k.channel) (g.senders c) z.0) (λ i. (sym (put_here g.receivers c (Some (id, new))) i, sym kind i)) lies);
        }
    turned-by change is (Added packet) kind (a, mine, here, first, inside) =
        turned-sending change a is mine here (λ u. ap (λ (t : Change). received_by t u) kind)
        (λ k u there was. (let c = change.connection in
        let below = channel-below rules lawful start s g c k r.flow there in
        let holds_p = mine-holds rules lawful start s g id p v b r.flow at holds in
        let some_open = opener rules g.now p n b e change k r.flow.fit holds_p.1 happens is (subst IsSenders (sym kind) tt) there in
        subst (λ (t : Change). Lies start after c (shown_changed t k) (Some (id, sent_by t a)) (g.receivers c)) (sym kind) (record {
          gated = same-word (gate_rank P C c) (omega (arith, below)) ∙ was.gated;
          so = so-added start s after c k a (receiving_of c (g.receivers c)) packet (same-word (level_rank P c) (omega (arith, below))) (λ x own. refl) first inside some_open was.so;
        })))
    turned-by change is (Closed output) kind (a, mine, here, published) =
        turned-sending change a is mine here (λ u. ap (λ (t : Change). received_by t u) kind)
        (λ k u there was. (let c = change.connection in
        let below = channel-below rules lawful start s g c k r.flow there in
        let holds_p = mine-holds rules lawful start s g id p v b r.flow at holds in
        let some_open = opener rules g.now p n b e change k r.flow.fit holds_p.1 happens is (subst IsSenders (sym kind) tt) there in
        subst (λ (t : Change). Lies start after c (shown_changed t k) (Some (id, sent_by t a)) (g.receivers c)) (sym kind) (record {
          gated = same-word (gate_rank P C c) (omega (arith, below)) ∙ was.gated;
          so = so-closed start s after c output k a (receiving_of c (g.receivers c)) (same-word (level_rank P c) (omega (arith, below))) (λ x own. refl) published some_open was.so;
        })))

    turned : (change : Option ChangeAt) → change_of e ≡ change → MayChange change v.sending v.receiving → Turned s r id w e y
    turned None is may = turned-none is
    turned (Some change) is may = turned-by change is change.change refl may

  -- each stamp is below the next
  below-turns : (j n : ℕ) (by : List ℕ) (log : List Logged) → length by ≡ length log → (m : ℕ) → n + length log ≤ m → Below m (turns_by j n by log)
  below-turns j n [] [] len m le = tt
  below-turns j n [] (t ∷ log) len m le = tt
  below-turns j n (i ∷ by) [] len m le = tt
  below-turns j n (i ∷ by) (t ∷ log) len m le = at-head (j == i) (below-turns j (n + 1) by log (omega (arith, len)) m (omega (arith, le)))
    where
      at-head : (b : Bool) → Below m (turns_by j (n + 1) by log) → Below m (cond b ((n, t.process) ∷ turns_by j (n + 1) by log) (turns_by j (n + 1) by log))
      at-head true rest = (omega (arith, le), rest)
      at-head false rest = rest

  -- The machine has a turn of the seat, where the clock is one more; and it is the machine's turn of its stamp.
  pub record IsTurned (s : St K) (id x : ℕ) (v : View K) (t : Move K) : Type 0 where
    pub rule : Rule (state (set s.words (P + C + C) (x + 1)) s.homes (set s.views id (turning v x t)))
    pub machine : (p : ℕ) (b : BodyValue K) → v.held ≡ Some (p, b) → MachineTurn rules start v.made x p (moved b t.body) t.event

  pub law-turn : (s : St K) (id : ℕ) (v : View K) (t : Move K) → Rule s → get_elem? s.views id ≡ some v → May rules P C v t → IsTurned s id (get_or s.words (P + C + C) 0) v t
  law-turn s id v t r at may =
      let p = may.process in
      let b = may.before in
      let d = moved b t.body in
      let e = t.event in
      let v1 : View K = record v { held = Some (p, d) } in
      let s1 = state s.words s.homes (set s.views id v1) in
      let r1 : Rule s1 = law-commit rules lawful start s id p v v1 b d r at may.held may.rests refl in
      let at1 : get_elem? s1.views id ≡ some v1 = set_here s.views id v1 (at_inside s.views id v at) in
      let f = r1.flow in
      let g = r1.beside in
      let x = get_or s.words (P + C + C) 0 in
      let w = turning v x t in
      let clock = f.clock in
      let mine = mine-holds rules lawful start s1 g id p v1 d f at1 refl in
      let ks = f.each_seat id v1 at1 in
      let held : w.held ≡ Some (p, turned_body e x d) = ap (held_after t x) may.held in
      let made : w.made ≡ v.made ++ (x, p) ∷ [] = ap (λ (z : Option (ℕ × BodyValue K)). v.made ++ turn_of x z) may.held in
      let happened = may.happens g.now f.fit mine.1 (sending-in s1 r1 id v1 at1 v1.sending refl) (receiving-in s1 r1 id v1 at1 v1.receiving refl) ks.seen f.same.1 in
      let ends = turned s1 r1 id p happened.0 (x + 1) v1 w d e at1 refl happened.1 x held refl refl (change_of e) refl may.ends in
      let law : Rule (state (set s.words (P + C + C) (x + 1)) s.homes (set s1.views id w)) =
      law-stamp rules lawful start s1 r1 id p happened.0 x (x + 1) v1 w d e ends.senders ends.receivers at1 refl happened.1 refl refl held refl made refl refl refl refl ends.sending ends.receiving ends.lie in
      record {
        rule = subst (λ (vs : List (View K)). Rule (state (set s.words (P + C + C) (x + 1)) s.homes vs)) (set-set s.views id v1 w) law;
        machine = λ q c is. (let same : (p, b) ≡ (q, c) = some_Some (p, b) (q, c) (sym may.held ∙ is) in
            subst (λ (z : ℕ × BodyValue K). MachineTurn rules start v.made x z.0 (moved z.1 t.body) e) same (record {
              now = g.now;
              log = g.log;
              by = g.by;
              seat = id;
              goes = f.goes;
              total = f.total;
              clock = sym clock;
              seats = f.seats;
              own = ks.made;
              there = mine.1;
              level = happened.0;
              happens = happened.1;
            }));
      }

  -- All pending turns of a seat, one after another.
  pub record AreTurned (s : St K) (id x : ℕ) (v : View K) (turns : List (Move K)) : Type 0 where
    pub rule : Rule (state (set s.words (P + C + C) (x + length turns)) s.homes (set s.views id (all_turned v x turns)))
    pub machine : MachineTurns rules start v.made x v.held turns

  pub law-turns : (turns : List (Move K)) (s : St K) (id : ℕ) (v : View K) → Rule s → get_elem? s.views id ≡ some v → MayFrom rules P C v (get_or s.words (P + C + C) 0) turns → AreTurned s id (get_or s.words (P + C + C) 0) v turns
  law-turns [] s id v r at may =
      let i : ℕ = P + C + C in
      let x = get_or s.words i 0 in
      record {
        rule = subst (λ (z : List ℕ × List (View K)). Rule (state z.0 s.homes z.1)) (λ j. (sym ((let e : x + 0 ≡ x = omega arith in ap (set s.words i) e) ∙ set-get_or s.words i 0) j, sym (set-same s.views id v at) j)) r;
        machine = nothing v.held;
      }
    where
      nothing : (h : Option (ℕ × BodyValue K)) → MachineTurns rules start v.made (get_or s.words (P + C + C) 0) h []
      nothing h = tt
  law-turns (t ∷ turns) s id v r at may =
      let i : ℕ = P + C + C in
      let x = get_or s.words i 0 in
      let one = law-turn s id v t r at may.0 in
      let v1 = turning v x t in
      let s1 = state (set s.words i (x + 1)) s.homes (set s.views id v1) in
      let wide = r.flow.wide in
      let x1 : get_or s1.words i 0 ≡ x + 1 = get_or-set_same s.words i (x + 1) 0 (omega (arith, wide)) in
      let at1 : get_elem? s1.views id ≡ some v1 = set_here s.views id v1 (at_inside s.views id v at) in
      let more = subst (λ (z : ℕ). AreTurned s1 id z v1 turns) x1 (law-turns turns s1 id v1 one.rule at1 (subst (λ (z : ℕ). MayFrom rules P C v1 z turns) (sym x1) may.1)) in
      let count : x + 1 + length turns ≡ x + suc (length turns) = omega arith in
      let held = may.0.held in
      record {
        rule = subst (λ (z : List ℕ × List (View K)). Rule (state z.0 s.homes z.1)) (λ j. ((set-set s.words i (x + 1) (x + 1 + length turns) ∙ ap (set s.words i) count) j, set-set s.views id v1 (all_turned v1 (x + 1) turns) j)) more.rule;
        machine = both v.held refl more.machine;
      }
    where
      both : (h : Option (ℕ × BodyValue K)) → v.held ≡ h → MachineTurns rules start (turning v (get_or s.words (P + C + C) 0) t).made (get_or s.words (P + C + C) 0 + 1) (held_after t (get_or s.words (P + C + C) 0) v.held) turns
          → MachineTurns rules start v.made (get_or s.words (P + C + C) 0) h (t ∷ turns)
      both None is rest = tt
      both (Some held) is rest = (
        (law-turn s id v t r at may.0).machine held.0 held.1 is,
        subst (λ (z : Option (ℕ × BodyValue K)). MachineTurns rules start (v.made ++ turn_of (get_or s.words (P + C + C) 0) z) (get_or s.words (P + C + C) 0 + 1) (held_after t (get_or s.words (P + C + C) 0) z) turns) is rest,
      )

  -- What a seat may do rests on its process, its ends and its looks alone.
  pub may-same : (turns : List (Move K)) (r : ℕ) (v u : View K) → u.held ≡ v.held → u.sending ≡ v.sending → u.receiving ≡ v.receiving → u.seen ≡ v.seen → MayFrom rules P C v r turns → MayFrom rules P C u r turns
  may-same [] r v u held sending receiving seen may = tt
  may-same (t ∷ turns) r v u held sending receiving seen may =
      let one = may.0 in (
        record {
          process = one.process;
          before = one.before;
          held = held ∙ one.held;
          rests = one.rests;
          ends = subst (λ (z : Option Sending × Option Receiving). MayChange (change_of t.event) z.0 z.1) (λ i. (sym sending i, sym receiving i)) one.ends;
          happens = subst (λ (z : Option Sending × (Option Receiving × List Look)). Happens (FitNet rules) P C one.process (moved one.before t.body) z.0 z.1.0 z.1.1 t.event) (λ i. (sym sending i, (sym receiving i, sym seen i))) one.happens;
        },
        may-same turns (r + 1) (turning v r t) (turning u r t) (ap (held_after t r) held) (ap (sending_after t.event) sending) (ap (receiving_after t.event) receiving) refl may.1,
      )

  -- One step stamps them.
  pub stamps : (slots i id : ℕ) (me : Sat K) (turns : List (Move K)) (o : NetValue K) → o ≡ start → i ≡ P + C + C → length turns < 2 ^ 32 → AllMay rules P C me.0 turns
      → Allows Rule slots id me i (λ x. (x + length turns) % 2 ^ 64) (stamped rules o turns (step slots i (length turns) 0 none) me)
  stamps slots i id me turns o opened place few may s r deep at fits =
      let v = me.0 in
      let v1 = counting v in
      let s1 = state s.words s.homes (set s.views id v1) in
      let r1 : Rule s1 = law-counting rules lawful start s id v r at in
      let at1 : get_elem? s1.views id ≡ some v1 = set_here s.views id v1 (at_inside s.views id v at) in
      let x = get_or s.words i 0 in
      let x_is : x ≡ get_or s.words (P + C + C) 0 = ap (λ n. get_or s.words n 0) place in
      let all = subst (λ (z : ℕ). AreTurned s1 id z v1 turns) (sym x_is) (law-turns turns s1 id v1 r1 at1 (may-same turns (get_or s1.words (P + C + C) 0) v v1 refl refl refl refl (may (get_or s1.words (P + C + C) 0)))) in
      let w = all_turned v1 x turns in
      let most = turns-most rules r.beside.now r.flow.fit in
      let most' = turns-most rules all.rule.beside.now all.rule.flow.fit in
      let wide = r.flow.wide in
      let clock' : x + length turns ≡ turns_made all.rule.beside.now = sym (get_or-set_same s.words (P + C + C) (x + length turns) 0 (omega (arith, wide))) ∙ all.rule.flow.clock in
      let up : (x + length turns) % 2 ^ 64 ≡ x + length turns = omega (arith, x_is, r.flow.clock, most, few) in
      let ks = r.flow.each_seat id v at in (
        w,
        keeps,
        tt,
        subst (λ (z : ℕ × (ℕ × List (View K))). Rule (state (set s.words z.0 z.1.0) s.homes z.1.1)) (λ j. (sym place j, (sym up j, set-set s.views id v1 w j))) all.rule,
        (
          refl,
          subst (Below x) (sym ks.made) (below-turns id (turns_made start) r.beside.by r.beside.log r.flow.seats x (omega (arith, x_is, r.flow.clock, r.flow.total))),
          omega (arith, clock', most'),
          subst (λ (z : NetValue K). MachineTurns rules z v.made x v.held turns) (sym opened) all.machine,
        ),
      )
