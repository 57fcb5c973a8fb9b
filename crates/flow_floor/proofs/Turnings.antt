-- Which turn a process has, by what its worker did at the ends of connections.
use Rattle.std.proofs.Common.{◌≡◌, ℕ, ◌+◌, ◌<◌, Bool, true, false, cond, nat_lt, List, [], ◌∷◌, length, Option, None, Some, slice_get, refl, sym, ap, ◌∙◌, subst, arith, inl, inr}
use Rattle.std.proofs.lemmas.Bool.Decides.{nat_tests}
use Rattle.std.specs.Prelude.{IfSome, unwrap_or, option_and_then}
use Rattle.std.specs.Option.{option_map}
use Rattle.flow_packet.specs.Held.{Sound, with_packet}
use Rattle.flow_packet.specs.Hands.{packet_at}
use Rattle.flow_packet.specs.Tree.{Tree}
use Rattle.flow_component.specs.declared.Port.{Port}
use Rattle.flow_component.specs.declared.Wish.TheVariants as wishes
use Rattle.flow_component.specs.Laws.{Rules, Lawful}
use Rattle.flow_model.specs.declared.Stage.TheVariants as stages
use Rattle.flow_model.specs.Events.{Event, Gets, Hears_end, Learns, Sends, Sleeps, Takes_text, is_fresh, receive_event, received, sent, stage_event}
use Rattle.flow_model.specs.Stands.{ChannelShown, look_shown}
use Rattle.flow_model.specs.States.{From, Input, Outlet, Process, Text, outlets, output_at}
use Rattle.flow_model.specs.Turns.{change_of}
use Rattle.flow_model.proofs.Lists.{slice_get-set_same}
use Rattle.flow_machine.specs.declared.answers.Effect.TheVariants as effects
use Rattle.flow_machine.specs.Effects.{id_sent, text_event, IsEffectFor, TakesTurn}
use Rattle.flow_machine.specs.Nets.{looks_of, BodyTurn, GetsSound, SendsAt, packet_wished}
use Rattle.flow_machine.specs.Outlets.{connection_at}
use Rattle.flow_machine.specs.Thoughts.{next_text, HasRoom}
use Rattle.flow_machine.specs.Values.{BodyValue, NetValue}
use Rattle.flow_machine.proofs.FitLemmas.{sound-got}
use Rattle.flow_machine.proofs.NetTurns.{close-turn, if_some, learns, receives, sends, some_if}
use Rattle.flow_machine.proofs.Pairs.{left_behind, may-finish, told-some}
use Rattle.flow_floor.specs.Law.{Rests, AllSeen, SeenTrue}
use Rattle.flow_floor.specs.Plays.{HeldIn, drawn_count, WouldBeThere}
use Rattle.flow_floor.specs.Turning.{closed_event, sent_event, with_body, sending_after, Happens, MayChange}
use Rattle.flow_floor.proofs.Going.{rest-fit}
use Rattle.flow_floor.proofs.Blocks.{no-packets}
use Rattle.flow_floor.proofs.Lists.{some_Some, get-exists}
use Rattle.flow_floor.proofs.Deeds.{closed-is, send-deed}
use Rattle.flow_floor.specs.declared.board.Look.{Look}
use Rattle.flow_floor.specs.declared.board.Receiving.{Receiving}
use Rattle.flow_floor.specs.declared.board.Sending.{Sending}
use Rattle.flow_floor.specs.declared.board.View.{View}
use Rattle.flow_floor.specs.declared.floor.Held.{Held}
use Rattle.flow_floor.specs.Ends.{sending_at}
use Rattle.flow_floor.specs.Looks.{InSeen, SawOver}
use Rattle.flow_floor.specs.Midway.{closed_at, drawn_at, learnt_at, placed_at}
use Rattle.flow_floor.specs.Parcels.{no_packet}
use Rattle.flow_floor.specs.Workers.{HandsOut}

-- A look that was taken so is true.
pub seen-in : {K : Type 0} (n : ℕ) (now : NetValue K) (held : ℕ × BodyValue K) (seen : List Look) (is : Look → Type 0) → AllSeen n now (Some held) seen → InSeen is seen → (look : Look) × is look × SeenTrue n now held.1 look
seen-in n now held [] is all there = absurd there
seen-in n now held (look ∷ seen) is all (inl here) = (look, here, all.0)
seen-in n now held (look ∷ seen) is all (inr there) = seen-in n now held seen is all.1 there

module _ {K : Type 0} (fits : NetValue K → Type 0) (n m p : ℕ) (d : BodyValue K) (s : Option Sending) (r : Option Receiving) (seen : List Look) where
  -- A process that wishes to receive where its worker saw the end hears the end.
  pub end-happens : (c since : ℕ) (port : Port) → c < m → d.process.stage ≡ stages.Wishing (wishes.Receive port) → slice_get d.process.inputs port.0 ≡ Some (From c) → InSeen (SawOver n since c) seen → Happens fits n m p d s r seen (Hears_end port.0)
  end-happens c since port below stage input over now fit there sends_in draws_in all len =
      let k = get-exists now.channels c (subst (λ (l : ℕ). c < l) (sym len) below) in
      let saw = seen-in n now (p, d) seen (SawOver n since c) all over in
      let o = (saw.2 c k.0 saw.1.0 k.1 (inl (port.0, input))).1 saw.1.1 saw.1.2 in
      (0, receives now.channels d.process 0 c port k.0 stage input k.1 ∙ (λ i. received port.0 c (no-packets k.0.packets o.0 i) (o.1 i)))

  -- One that wishes to close closes.
  pub close-happens : (c i : ℕ) → d.process.stage ≡ stages.Closing i → connection_at (outlets d.process) i ≡ Some c → Happens fits n m p d s r seen (closed_event (slice_get (outlets d.process) i))
  close-happens c i stage outlet now fit there sends_in draws_in all len =
      let o = closed-is (slice_get (outlets d.process) i) c outlet in
      (0, close-turn now.channels d.process 0 o.0.connection i o.0 stage o.1 refl ∙ ap (λ (x : Event). let t : Option Event = Some x in t) (sym (ap closed_event o.1)))

  -- One that wishes its deactivation has it.
  pub sleeps-happens : d.process.stage ≡ stages.Wishing wishes.Deactivate → Happens fits n m p d s r seen Sleeps
  sleeps-happens stage now fit there sends_in draws_in all len = (0, ap (stage_event (looks_of now.channels) d.process 0) stage)

  -- One that wishes to receive where it has an initial text takes that, or hears its end.
  pub text-happens : (port : Port) (text : List ℕ) → d.process.stage ≡ stages.Wishing (wishes.Receive port) → slice_get d.process.inputs port.0 ≡ Some (Text text)
      → Happens fits n m p d s r seen (text_event port.0 (is_fresh d.process port.0) (slice_get d.process.inputs port.0))
  text-happens port text stage input now fit there sends_in draws_in all len = (
    0,
    ap (stage_event (looks_of now.channels) d.process 0) stage ∙ ap (receive_event (looks_of now.channels) d.process port.0) input ∙ by (is_fresh d.process port.0)
        ∙ ap (λ (x : Option Input). let t : Option Event = Some (text_event port.0 (is_fresh d.process port.0) x) in t) (sym input),
  )
    where
      by : (fresh : Bool) → cond fresh (Some (Takes_text port.0 text)) (Some (Hears_end port.0)) ≡ Some (text_event port.0 fresh (Some (Text text)))
      by true = refl
      by false = refl

-- Where there is room the packet is sent.
pub sent-room : (port c : ℕ) (found : Option Tree) (packet : Tree) (k : ChannelShown) → found ≡ Some packet → length k.packets < k.capacity → sent port c found (Some (look_shown k)) ≡ Some (Sends port c packet)
sent-room port c found packet k is room = let z : nat_lt (length k.packets) k.capacity ≡ true = grind (arith, nat_tests) in ap (λ (o : Option Tree). sent port c o (Some (look_shown k))) is ∙ ap (λ (b : Bool). cond b (Some (Sends port c packet)) None) z

module _ {K : Type 0} (fits : NetValue K → Type 0) (n m p c : ℕ) (port : Port) (d : BodyValue K) (seen : List Look) where
  -- One that wishes to receive gets the packet that its worker drew.
  pub got-happens : (packet : Tree) (s : Option Sending) → d.process.stage ≡ stages.Wishing (wishes.Receive port) → slice_get d.process.inputs port.0 ≡ Some (From c) → Happens fits n m p d s (Some (drawn_at c packet)) seen (Gets port.0 c packet)
  got-happens packet s stage input now fit there sends_in (k, at, (others, are)) all len = (0, receives now.channels d.process 0 c port k stage input at ∙ ap (λ (ps : List Tree). received port.0 c ps k.open_senders) are)

  -- One that wishes to send sends the packet that its worker placed.
  pub send-happens : (packet : Tree) (r : Option Receiving) → SendsAt d.process.stage port → output_at d.process port.0 ≡ Some c → packet_wished d.process ≡ Some packet → Happens fits n m p d (Some (placed_at c packet)) r seen (Sends port.0 c packet)
  send-happens packet r stage output wished now fit there (k, at, room, learnt) draws_in all len =
      (0, sends now.channels d.process 0 c port stage.0 k stage.1 output at ∙ sent-room port.0 c (packet_wished d.process) packet k wished (let few : length k.packets < k.capacity = omega (arith, room) in few))

  -- One that wishes to learn a level is told the one that its worker learnt.
  pub learn-happens : (level : ℕ) (r : Option Receiving) → d.process.stage ≡ stages.Wishing (wishes.Level port) → output_at d.process port.0 ≡ Some c → Happens fits n m p d (Some (learnt_at c level)) r seen (Learns port.0 level)
  learn-happens level r stage output now fit there (k, at, room, learnt) draws_in all len = (level, learns now.channels d.process level c port k stage output at ∙ told-some port.0 level k learnt.0 learnt.1)

-- Taking an initial text is at no connection.
pub text-alone : (port : ℕ) (fresh : Bool) (input : Option Input) (s : Option Sending) (r : Option Receiving) → MayChange (change_of (text_event port fresh input)) s r
text-alone port true (Some (Text text)) s r = tt
text-alone port true (Some (From c)) s r = tt
text-alone port true None s r = tt
text-alone port false input s r = tt

-- What is told of a wish, if there is one, is the packet of the wish.
pub parcel-is : (o : Option Tree) → IfSome o (λ packet. packet ≡ unwrap_or o no_packet)
parcel-is None = tt
parcel-is (Some packet) = refl

-- A close is a turn at the sending end of its connection.
pub close-may : (found : Option Outlet) (c : ℕ) (r : Option Receiving) → option_map (λ (o : Outlet). o.connection) found ≡ Some c → MayChange (change_of (closed_event found)) (Some (sending_at c)) r
close-may None c r is = absurd (cc)
close-may (Some o) c r is = (sending_at c, refl, sym (some_Some o.connection c is), refl)

-- It leaves a sender that isn't subtracted.
pub close-after : (found : Option Outlet) (c : ℕ) → option_map (λ (o : Outlet). o.connection) found ≡ Some c → sending_after (closed_event found) (Some (sending_at c)) ≡ Some (closed_at c)
close-after None c is = absurd (cc)
close-after (Some o) c is = refl

-- A connection for lemmas that speak of one.
abbrev pub any_channel : ChannelShown
any_channel = record { packets = []; capacity = 1; open_senders = 0; puts = 0; takes = 0 }

-- The packet that left the hands is that of the wish.
left-wished : (f : ℕ → Option Tree) (o : Option ℕ) (id : ℕ) (packet : Tree) → o ≡ Some id → option_and_then f o ≡ Some packet → IfSome o (λ n. f n ≡ Some packet)
left-wished f o id packet is wished = some_if o (λ n. f n ≡ Some packet) id is (sym (ap (option_and_then f) is) ∙ wished)

module _ {K : Type 0} where
  -- A send whose packet has left the hands may be finished.
  pub sent-may : (h h' : Held K) (port : Port) (packet : Tree) → SendsAt h.body.process.stage port → HandsOut h h' packet → IsEffectFor h'.body.process h'.body.leaving effects.Sent
  sent-may h h' port packet stage out = may-finish h.body h'.body port stage.0 packet stage.1 out.3

  -- No turn was made by that.
  pub sent-turns : (h h' : Held K) (port : Port) (packet : Tree) → SendsAt h.body.process.stage port → HandsOut h h' packet → h'.body.process.turns ≡ h.body.process.turns
  sent-turns h h' port packet stage out =
      ap (λ (b : BodyValue K). b.process.turns) (if_some (id_sent h.body.process.stage) (λ (id : ℕ). h'.body ≡ left_behind h.body packet id) stage.0 (ap id_sent stage.1) out.3)

  -- It has the room of its turn still.
  pub sent-roomy : (h h' : Held K) (port : Port) (packet : Tree) → SendsAt h.body.process.stage port → HandsOut h h' packet → HasRoom h.body → HasRoom h'.body
  sent-roomy h h' port packet stage out room =
      let b = h.body in
      let mid = left_behind b packet stage.0 in
      let is : h'.body ≡ mid = if_some (id_sent b.process.stage) (λ (id : ℕ). h'.body ≡ left_behind b packet id) stage.0 (ap id_sent stage.1) out.3 in
      subst HasRoom (sym is) (record {
        place = (let p = room.place in omega (arith, p));
        stamp = room.stamp;
        level = room.level;
        copy = room.copy ∙ ap (next_text b.process) stage.1 ∙ sym (ap (next_text mid.process) stage.1);
      })

  -- Once it is, the body has made the turn.
  pub sent-turn : (h mid : Held K) (d : BodyValue K) (port : Port) (c stamp : ℕ) (packet : Tree) → SendsAt h.body.process.stage port → HandsOut h mid packet → TakesTurn mid.body effects.Sent stamp d → BodyTurn h.body (Sends port.0 c packet) stamp d
  sent-turn h mid d port c stamp packet stage out takes =
      let event : Sends port.0 c packet ≡ sent_event port.0 c (packet_wished h.body.process) = ap (sent_event port.0 c) (sym out.2) in
      let found = left-wished (packet_at h.body.process.held.packets) (id_sent h.body.process.stage) stage.0 packet (ap id_sent stage.1) out.2 in
      (send-deed h.body mid.body d port c stamp stage.0 any_channel (record any_channel { packets = packet ∷ []; puts = 0 + 1 }) packet (Sends port.0 c packet) event stage.1 found out.3 (let room : 0 < 1 = omega arith in room) refl takes).0

module _ {K : Type 0} (rules : Rules K) (lawful : Lawful rules) where
  sound-first : (x : Process K) (packets : List Tree) (packet : Tree) → slice_get packets 0 ≡ Some packet → GetsSound x packets → Sound (with_packet x.held packet)
  sound-first x [] packet is sound = absurd (cc)
  sound-first x (y ∷ ys) packet is sound = subst (λ (t : Tree). Sound (with_packet x.held t)) (some_Some y packet is) sound

  -- The hands of a process stay sound with the packet that its worker drew.
  pub sound-drawn : (v : View K) (p c : ℕ) (port : Port) (b d : BodyValue K) (packet : Tree) → WouldBeThere rules v [] c packet → v.receiving ≡ None → v.held ≡ Some (p, b) → Rests rules b d → d.process.stage ≡ stages.Wishing (wishes.Receive port)
      → slice_get d.process.inputs port.0 ≡ Some (From c) → Sound (with_packet d.process.held packet)
  sound-drawn v p c port b d packet (r, was) none holds rests stage input =
      let now = was.0 in
      let k = was.1 in
      let there : slice_get now.bodies p ≡ Some b = subst (HeldIn now) holds was.5 in
      let first : slice_get k.packets 0 ≡ Some packet = ap (slice_get k.packets) (sym (ap drawn_count none)) ∙ was.4 in
      sound-first d.process k.packets packet first (sound-got rules (with_body now p d) p c port d k (rest-fit rules lawful now p b d there rests was.2) (slice_get-set_same now.bodies p b d there) stage input was.3)
