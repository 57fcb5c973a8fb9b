-- A receive, and a send, is one pending turn more of the body in hand.
use Rattle.std.proofs.Common.{◌≡◌, ℕ, ◌+◌, ◌<◌, List, [], ◌∷◌, ◌++◌, length, drop, Option, Some, None, refl, sym, ap, ◌∙◌, subst, arith}
use Rattle.std.specs.Prelude.{slice_get, option_and_then, unwrap_or, IfSome}
use Rattle.std.specs.Option.{option_map}
use Rattle.flow_packet.specs.Tree.{Tree}
use Rattle.flow_packet.specs.Hands.{packet_at}
use Rattle.flow_packet.specs.Held.{Sound, with_packet}
use Rattle.flow_component.specs.declared.Port.{Port}
use Rattle.flow_component.specs.declared.Wish.TheVariants as wishes
use Rattle.flow_component.specs.Laws.{Rules, Lawful}
use Rattle.flow_model.specs.declared.Stage.TheVariants as stages
use Rattle.flow_model.specs.States.{From, Process, output_at}
use Rattle.flow_model.specs.Events.{Gets, Sends, received}
use Rattle.flow_model.specs.Turns.{Change, Taken, Added, Closed, ChangeAt, change_of}
use Rattle.flow_model.specs.Stands.{ChannelShown}
use Rattle.flow_model.proofs.Lists.{slice_get-set_same}
use Rattle.flow_machine.specs.declared.answers.Effect.TheVariants as effects
use Rattle.flow_machine.specs.Effects.{IsEffectFor, TakesTurn, id_sent}
use Rattle.flow_machine.specs.FitNets.{FitNet}
use Rattle.flow_machine.specs.Nets.{BodyTurn, GetsSound, SendsAt, packet_wished}
use Rattle.flow_machine.specs.Values.{BodyValue, NetValue}
use Rattle.flow_machine.proofs.FitLemmas.{sound-got}
use Rattle.flow_machine.proofs.Pairs.{body-turn, left_behind}
use Rattle.flow_machine.proofs.NetTurns.{receives, sends}
use Rattle.flow_floor.specs.Plays.{HeldIn, placed_count, drawn_count, WouldBeThere, WouldHold}
use Rattle.flow_floor.specs.Turning.{sent_event, with_body, sent_by, sent_after, sending_after, received_by, received_after, receiving_after, SendingIn, ReceivingIn}
use Rattle.flow_floor.proofs.Going.{rest-fit}
use Rattle.flow_floor.proofs.Lists.{some_Some}
use Rattle.flow_floor.proofs.Deeds.{send-deed}
use Rattle.flow_floor.specs.declared.board.Sending.{Sending}
use Rattle.flow_floor.specs.declared.board.Receiving.{Receiving}
use Rattle.flow_floor.specs.declared.board.View.{View}
use Rattle.flow_floor.specs.Ends.{receiving_at, MayDraw, MayPlace}
use Rattle.flow_floor.specs.InHand.{stamped_from, IsPending}
use Rattle.flow_floor.specs.Views.{Move, all_turned, drawing, emptying, filling, placing, received_at, turning}
use Rattle.flow_floor.proofs.Further.{drawn_of, placed_of, all-further, draw-further, place-further}
use Rattle.flow_floor.proofs.Ahead.{drawn-more, placed-more, none-drawn, none-placed, pending-turn, IsNext}
use Rattle.flow_floor.proofs.Turnings.{sent-room}

-- A receive leaves what was placed, and a send what was drawn.
receive-leaves : (port c : ℕ) (packet : Tree) (o : Option Sending) → placed_count (sending_after (Gets port c packet) o) ≡ placed_count o
receive-leaves port c packet None = refl
receive-leaves port c packet (Some x) = refl

send-leaves : (port c : ℕ) (packet : Tree) (o : Option Receiving) → drawn_count (receiving_after (Sends port c packet) o) ≡ drawn_count o
send-leaves port c packet None = refl
send-leaves port c packet (Some y) = refl

-- Where an end is stays over a turn, and so does what is out there.
received-place : (change : Option ChangeAt) (y : Receiving) → ((received_after change y).connection ≡ y.connection) × ((received_after change y).out ≡ y.out)
received-place None y = (refl, refl)
received-place (Some at) y = by at.change
  where
    by : (change : Change) → ((received_by change y).connection ≡ y.connection) × ((received_by change y).out ≡ y.out)
    by Taken = (refl, refl)
    by (Added packet) = (refl, refl)
    by (Closed output) = (refl, refl)

sent-place : (change : Option ChangeAt) (x : Sending) → ((sent_after change x).connection ≡ x.connection) × ((sent_after change x).out ≡ x.out)
sent-place None x = (refl, refl)
sent-place (Some at) x = by at.change
  where
    by : (change : Change) → ((sent_by change x).connection ≡ x.connection) × ((sent_by change x).out ≡ x.out)
    by Taken = (refl, refl)
    by (Added packet) = (refl, refl)
    by (Closed output) = (refl, refl)

module _ {K : Type 0} where
  -- So it is over all pending turns.
  receiving-stays : (turns : List (Move K)) (r : ℕ) (w : View K) (y : Receiving) → w.receiving ≡ Some y → (y' : Receiving) × ((all_turned w r turns).receiving ≡ Some y') × (y'.connection ≡ y.connection) × (y'.out ≡ y.out)
  receiving-stays [] r w y is = (y, is, refl, refl)
  receiving-stays (t ∷ turns) r w y is =
      let one = received-place (change_of t.event) y in
      let rest = receiving-stays turns (r + 1) (turning w r t) (received_after (change_of t.event) y) (ap (option_map (received_after (change_of t.event))) is) in
      (rest.0, rest.1, rest.2 ∙ one.0, rest.3 ∙ one.1)

  sending-stays : (turns : List (Move K)) (r : ℕ) (w : View K) (x : Sending) → w.sending ≡ Some x → (x' : Sending) × ((all_turned w r turns).sending ≡ Some x') × (x'.connection ≡ x.connection) × (x'.out ≡ x.out)
  sending-stays [] r w x is = (x, is, refl, refl)
  sending-stays (t ∷ turns) r w x is =
      let one = sent-place (change_of t.event) x in
      let rest = sending-stays turns (r + 1) (turning w r t) (sent_after (change_of t.event) x) (ap (option_map (sent_after (change_of t.event))) is) in
      (rest.0, rest.1, rest.2 ∙ one.0, rest.3 ∙ one.1)

-- At a seat that may draw, or place, the end is at that connection.
draws-there : (c : ℕ) (o : Option Receiving) → MayDraw c o → (unwrap_or o (receiving_at c)).connection ≡ c
draws-there c None may = refl
draws-there c (Some y) may = may.0

-- The oldest of these packets leaves the hands sound.
oldest-sound : {K : Type 0} (x : Process K) (packets : List Tree) (packet : Tree) → slice_get packets 0 ≡ Some packet → GetsSound x packets → Sound (with_packet x.held packet)
oldest-sound x [] packet is sound = (let e : None ≡ Some packet = is in absurd (cc))
oldest-sound x (first ∷ packets) packet is sound = subst (λ (t : Tree). Sound (with_packet x.held t)) (some_Some first packet is) sound

-- Behind these pending turns a seat that drew a packet for the next one has that packet at its receiving end, and no other anywhere.
pub record HasDrawn {K : Type 0} (turns : List (Move K)) (w : View K) (c : ℕ) (packet : Tree) (r : ℕ) : Type 0 where
  pub end : Receiving
  pub there : (all_turned w r turns).receiving ≡ Some end
  pub here : end.connection ≡ c
  pub inside : end.out ≡ None
  pub drawn : end.drawn ≡ packet ∷ []
  pub unplaced : placed_count (all_turned w r turns).sending ≡ 0

-- One that placed a packet for the next one has it at its sending end.
pub record HasPlaced {K : Type 0} (turns : List (Move K)) (w : View K) (c : ℕ) (packet : Tree) (r : ℕ) : Type 0 where
  pub end : Sending
  pub there : (all_turned w r turns).sending ≡ Some end
  pub here : end.connection ≡ c
  pub inside : end.out ≡ None
  pub placed : end.placed ≡ packet ∷ []
  pub undrawn : drawn_count (all_turned w r turns).receiving ≡ 0

module _ {K : Type 0} (rules : Rules K) (n m : ℕ) where
  has-drawn : (turns : List (Move K)) (v : View K) (p c place : ℕ) (packet : Tree) (body : BodyValue K) → IsPending rules n m v turns p body → MayDraw c v.receiving → (r : ℕ) → HasDrawn turns (emptying (drawing v c place packet)) c packet r
  has-drawn turns v p c place packet body pending may r =
      let w = emptying (drawing v c place packet) in
      let first : Receiving = record (received_at v c) { drawn = (received_at v c).drawn ++ packet ∷ []; out = None } in
      let stays = receiving-stays turns r w first refl in
      let later = (all-further rules n m (packet ∷ []) [] turns r v w (draw-further v c place packet may) (pending.may r)).1 in
      let old = all_turned v r turns in
      let new = all_turned w r turns in
      record {
        end = stays.0;
        there = stays.1;
        here = stays.2 ∙ draws-there c v.receiving may;
        inside = stays.3;
        drawn = sym (ap drawn_of stays.1) ∙ drawn-more (packet ∷ []) old.receiving new.receiving (pending.used r).0 later.receiving;
        unplaced = none-placed new.sending (placed-more [] old.sending new.sending (pending.used r).1 later.sending);
      }

  has-placed : (turns : List (Move K)) (v : View K) (p c place : ℕ) (packet : Tree) (body : BodyValue K) → IsPending rules n m v turns p body → MayPlace c v.sending → (r : ℕ) → HasPlaced turns (filling (placing v place packet)) c packet r
  has-placed turns v p c place packet body pending may r = by v.sending refl may
    where
      by : (o : Option Sending) → v.sending ≡ o → MayPlace c o → HasPlaced turns (filling (placing v place packet)) c packet r
      by None is at = absurd at
      by (Some x) is at =
          let w = filling (placing v place packet) in
          let first : Sending = record x { placed = x.placed ++ packet ∷ []; out = None } in
          let put : w.sending ≡ Some first = ap (λ (o : Option Sending). option_map (λ (x : Sending). record x { out = None }) (option_map (λ (x : Sending). record x { placed = x.placed ++ packet ∷ []; out = Some place }) o)) is in
          let stays = sending-stays turns r w first put in
          let later = (all-further rules n m [] (packet ∷ []) turns r v w (place-further v c place packet may) (pending.may r)).1 in
          let old = all_turned v r turns in
          let new = all_turned w r turns in
          record {
            end = stays.0;
            there = stays.1;
            here = stays.2 ∙ at.0;
            inside = stays.3;
            placed = sym (ap placed_of stays.1) ∙ placed-more (packet ∷ []) old.sending new.sending (pending.used r).1 later.sending;
            undrawn = none-drawn new.receiving (drawn-more [] old.receiving new.receiving (pending.used r).0 later.receiving);
          }

  -- A process that wishes to receive makes the turn that gets the packet which was drawn.
  receive-next : (turns : List (Move K)) (w : View K) (p c : ℕ) (port : Port) (packet : Tree) (body : BodyValue K) → ((r : ℕ) → HasDrawn turns w c packet r) → body.process.stage ≡ stages.Wishing (wishes.Receive port)
      → slice_get body.process.inputs port.0 ≡ Some (From c) → IsNext rules n m turns w p (record { body = body; event = Gets port.0 c packet })
  receive-next turns w p c port packet body has stage input = record {
    ends = λ r. (let y = has r in (y.end, y.there, y.here, omega (arith, ap (λ (ps : List Tree). length ps) y.drawn), y.inside));
    happens = λ r now fits there sends_in draws_in seen len. (let y = has r in
        let k = subst (ReceivingIn now) y.there draws_in in
        let at : slice_get now.channels c ≡ Some k.0 = ap (slice_get now.channels) (sym y.here) ∙ k.1 in
        let oldest : k.0.packets ≡ packet ∷ k.2.0 = k.2.1 ∙ ap (λ (ps : List Tree). ps ++ k.2.0) y.drawn in
        (0, receives now.channels body.process 0 c port k.0 stage input at ∙ ap (λ (ps : List Tree). received port.0 c ps k.0.open_senders) oldest));
    untold = λ stamp. refl;
    used = λ r. (let y = has r in (
      ap (λ (o : Option Receiving). drawn_count (receiving_after (Gets port.0 c packet) o)) y.there ∙ ap (λ (ps : List Tree). length (drop 1 ps)) y.drawn,
      receive-leaves port.0 c packet (all_turned w r turns).sending ∙ y.unplaced,
    ));
  }

  -- One that wishes to send makes the turn that sends the packet which was placed.
  send-next : (turns : List (Move K)) (w : View K) (p c : ℕ) (port : Port) (packet : Tree) (body : BodyValue K) → ((r : ℕ) → HasPlaced turns w c packet r) → SendsAt body.process.stage port → output_at body.process port.0 ≡ Some c
      → packet_wished body.process ≡ Some packet → IsNext rules n m turns w p (record { body = body; event = Sends port.0 c packet })
  send-next turns w p c port packet body has stage output wished = record {
    ends = λ r. (let x = has r in (x.end, x.there, x.here, x.placed ∙ ap (λ (ps : List Tree). packet ∷ ps) (sym (ap (drop 1) x.placed)), x.inside));
    happens = λ r now fits there sends_in draws_in seen len. (let x = has r in
        let k = subst (SendingIn now) x.there sends_in in
        let at : slice_get now.channels c ≡ Some k.0 = ap (slice_get now.channels) (sym x.here) ∙ k.1 in
        let room : length k.0.packets < k.0.capacity = omega (arith, k.2, ap (λ (ps : List Tree). length ps) x.placed) in
        (0, sends now.channels body.process 0 c port stage.0 k.0 stage.1 output at ∙ sent-room port.0 c (packet_wished body.process) packet k.0 wished room));
    untold = λ stamp. refl;
    used = λ r. (let x = has r in (
      send-leaves port.0 c packet (all_turned w r turns).receiving ∙ x.undrawn,
      ap (λ (o : Option Sending). placed_count (sending_after (Sends port.0 c packet) o)) x.there ∙ ap (λ (ps : List Tree). length (drop 1 ps)) x.placed,
    ));
  }

  -- A packet was drawn and the body got it, with a stamp that doesn't count: that is one pending turn more.
  pub pending-receive : (turns : List (Move K)) (v : View K) (p c place stamp : ℕ) (port : Port) (packet : Tree) (body new : BodyValue K) → IsPending rules n m v turns p body → MayDraw c v.receiving → body.process.stage ≡ stages.Wishing (wishes.Receive port)
      → slice_get body.process.inputs port.0 ≡ Some (From c) → TakesTurn body (effects.Got packet) stamp new → IsPending rules n m (emptying (drawing v c place packet)) (turns ++ record { body = body; event = Gets port.0 c packet } ∷ []) p new
  pending-receive turns v p c place stamp port packet body new pending may stage input takes =
      let w = emptying (drawing v c place packet) in
      pending-turn rules n m (packet ∷ []) [] turns v w p stamp (record { body = body; event = Gets port.0 c packet }) new pending (draw-further v c place packet may)
      (receive-next turns w p c port packet body (has-drawn turns v p c place packet body pending may) stage input) (body-turn body new (effects.Got packet) stamp (Gets port.0 c packet) takes refl refl refl)

  -- What is left of a body whose packet was placed has finished the send, and so the body has made that turn.
  sent-turn : (c stamp : ℕ) (port : Port) (packet : Tree) (body mid new : BodyValue K) → SendsAt body.process.stage port → packet_wished body.process ≡ Some packet → IfSome (id_sent body.process.stage) (λ id. mid ≡ left_behind body packet id)
      → TakesTurn mid effects.Sent stamp new → BodyTurn body (Sends port.0 c packet) stamp new
  sent-turn c stamp port packet body mid new (id, stage) wished left takes =
      let sends : id_sent body.process.stage ≡ Some id = ap id_sent stage in
      let at : packet_at body.process.held.packets id ≡ Some packet = sym (ap (option_and_then (packet_at body.process.held.packets)) sends) ∙ wished in
      let found = let P : Option ℕ → Type 0 = λ o. IfSome o (λ i. packet_at body.process.held.packets i ≡ Some packet) in subst P (sym sends) at in
      let empty : ChannelShown = record { packets = []; capacity = 1; open_senders = 0; puts = 0; takes = 0 } in
      let one : ChannelShown = record empty { packets = packet ∷ []; puts = 1 } in
      (send-deed body mid new port c stamp id empty one packet (Sends port.0 c packet) (sym (ap (sent_event port.0 c) wished)) stage found left (omega arith) refl takes).0

  -- A packet was placed and the body sent it, with a stamp that doesn't count: that is one pending turn more.
  pub pending-send : (turns : List (Move K)) (v : View K) (p c place stamp : ℕ) (port : Port) (packet : Tree) (body mid new : BodyValue K) → IsPending rules n m v turns p body → MayPlace c v.sending → SendsAt body.process.stage port
      → output_at body.process port.0 ≡ Some c → packet_wished body.process ≡ Some packet → IfSome (id_sent body.process.stage) (λ id. mid ≡ left_behind body packet id) → TakesTurn mid effects.Sent stamp new
      → IsPending rules n m (filling (placing v place packet)) (turns ++ record { body = body; event = Sends port.0 c packet } ∷ []) p new
  pending-send turns v p c place stamp port packet body mid new pending may stage output wished left takes =
      let w = filling (placing v place packet) in
      pending-turn rules n m [] (packet ∷ []) turns v w p stamp (record { body = body; event = Sends port.0 c packet }) new pending (place-further v c place packet may)
      (send-next turns w p c port packet body (has-placed turns v p c place packet body pending may) stage output wished) (sent-turn c stamp port packet body mid new stage wished left takes)

module _ {K : Type 0} (rules : Rules K) (lawful : Lawful rules) (n m : ℕ) where
  -- At a moment at which the machine would have had what the seat holds, it would have had the body in hand, with stamps of that moment.
  in-hand : (turns : List (Move K)) (v : View K) (p r : ℕ) (body : BodyValue K) (now : NetValue K) → IsPending rules n m v turns p body → FitNet rules now → HeldIn now (all_turned v r turns).held
      → FitNet rules (with_body now p (stamped_from (length turns) r body)) × (slice_get (with_body now p (stamped_from (length turns) r body)).bodies p ≡ Some (stamped_from (length turns) r body))
  in-hand turns v p r body now pending fit holds =
      let h = pending.held r in
      let new = stamped_from (length turns) r body in
      let there : slice_get now.bodies p ≡ Some h.0 = subst (HeldIn now) h.1 holds in
      (rest-fit rules lawful now p h.0 new there h.2 fit, slice_get-set_same now.bodies p h.0 new there)

  pub pending-would : (turns : List (Move K)) (v : View K) (p : ℕ) (body : BodyValue K) → IsPending rules n m v turns p body → WouldHold rules v turns → (r : ℕ) × (now : NetValue K) × FitNet rules now × (slice_get now.bodies p ≡ Some (stamped_from (length turns) r body))
  pending-would turns v p body pending (r, now, fit, holds) = let t = in-hand turns v p r body now pending fit holds in (r, with_body now p (stamped_from (length turns) r body), t.0, t.1)

  -- The body in hand may get the packet that was drawn.
  pub may-get : (turns : List (Move K)) (v : View K) (p c : ℕ) (port : Port) (packet : Tree) (body : BodyValue K) → IsPending rules n m v turns p body → WouldBeThere rules v turns c packet → body.process.stage ≡ stages.Wishing (wishes.Receive port)
      → slice_get body.process.inputs port.0 ≡ Some (From c) → IsEffectFor body.process body.leaving (effects.Got packet)
  may-get turns v p c port packet body pending (r, (now, k, fit, at, oldest, holds)) stage input =
      let t = in-hand turns v p r body now pending fit holds in
      let new = stamped_from (length turns) r body in
      let sound = sound-got rules (with_body now p new) p c port new k t.0 t.1 stage input at in
      (pending.whole, (port, stage), oldest-sound body.process k.packets packet (ap (slice_get k.packets) (sym (pending.used r).0) ∙ oldest) sound)
