-- A turn of one process leaves each other process the turn that it had.
use Rattle.std.proofs.Common.{◌≡◌, ◌≢◌, ℕ, ◌<◌, Bool, true, false, List, [], ◌∷◌, ◌++◌, not, length, length-drop, Option, Some, None, refl, sym, ap, ◌∙◌, subst, cond, ◌==◌, nat_lt, ◌&&◌, ◌||◌, arith, inl, inr, slice_get, zero, suc}
use Rattle.std.specs.Prelude.{option_map, option_and_then}
use Rattle.std.specs.List.{list_any, list_all}
use Rattle.std.proofs.lemmas.Bool.Decides.{nat_tests}
use Rattle.std.proofs.lemmas.Option.{slice_get-map}
use Rattle.flow_packet.specs.Tree.{Tree}
use Rattle.flow_packet.specs.Hands.{packet_at}
use Rattle.flow_component.specs.declared.Port.{Port}
use Rattle.flow_component.specs.declared.Wish.TheVariants as wishes
use Rattle.flow_model.specs.declared.Stage.{Stage}
use Rattle.flow_model.specs.declared.Stage.TheVariants as stages
use Rattle.flow_model.specs.States.{Input, From, Text, Process, Channel, Kept, Outlet, output_at}
use Rattle.flow_model.specs.Events.{Event, Starts, Finishes, Gets, Takes_text, Hears_end, Sends, Learns, Sleeps, Closes, Signals, look, looks, passes, holds_packet, is_empty, is_over, is_connected, has_packet, has_ended, is_woken, signal_over, is_released, can_start, can_finish, takes_signal, signalled_from, signalled_by, signal_event, rest_event, received, received_from, receive_event, is_fresh, sent, stage_event, event_of}
use Rattle.flow_plan.specs.declared.plan.Sender.{Sender}
use Rattle.flow_model.specs.Turns.{channel_after, channels_after, Taken, Added, Closed}
use Rattle.flow_model.specs.Valid.{OneReceiver, SignalsApart, SendersOpen}
use Rattle.flow_model.specs.Order.{connection_of, input_of, signal_of, output_of}
use Rattle.flow_model.proofs.Inverse.{SignalsAt, explains}
use Rattle.flow_model.proofs.Exhausting.{IsDry, HoldsSome, Exhausted, dry, taken, TakesFrom, first-input, starts-can, starts-is_woken, finishes-all, finishes-signal, finishes-cannot, all-dry, signal-dry, hears-exhausted, dry-after, some-after}
use Rattle.flow_determinate.proofs.Moves.{one-of}
use Rattle.flow_determinate.proofs.Commuting.{Touching, gets, sends, closes, signals, touching, after-turn, channel_by}

-- What a process sees of a connection that is there.
look-at : (channels : List Channel) (c : ℕ) (channel : Channel) → slice_get channels c ≡ Some channel → slice_get (looks channels) c ≡ Some (look channel)
look-at channels c channel there = slice_get-map look channels c ∙ ap (option_map look) there

lt-is : (a b : ℕ) → a < b → nat_lt a b ≡ true
lt-is a b less = grind (arith, nat_tests)

-- Turns, from what they ask for

module _ {K : Type 0} (channels : List Channel) (x : Process K) (n : ℕ) where
  at-stage : (stage : Stage) (e : Event) → x.stage ≡ stage → stage_event (looks channels) x n stage ≡ Some e → event_of channels x n ≡ Some e
  at-stage stage e at is = ap (stage_event (looks channels) x n) at ∙ is

  gets-event : (port : Port) (c : ℕ) (channel : Channel) (packet : Tree) (rest : List Tree) → x.stage ≡ stages.Wishing (wishes.Receive port) → slice_get x.inputs port.0 ≡ Some (From c) → slice_get channels c ≡ Some channel → channel.packets ≡ packet ∷ rest
      → event_of channels x n ≡ Some (Gets port.0 c packet)
  gets-event port c channel packet rest at input there has =
      at-stage (stages.Wishing (wishes.Receive port)) (Gets port.0 c packet) at (
      ap (receive_event (looks channels) x port.0) input ∙ ap (received_from port.0 c) (look-at channels c channel there) ∙ ap (λ ps. received port.0 c ps (length channel.open_senders)) has
      )

  hears-event : (port : Port) (c : ℕ) → x.stage ≡ stages.Wishing (wishes.Receive port) → slice_get x.inputs port.0 ≡ Some (From c) → IsDry channels c → event_of channels x n ≡ Some (Hears_end port.0)
  hears-event port c at input h =
      at-stage (stages.Wishing (wishes.Receive port)) (Hears_end port.0) at (
      ap (receive_event (looks channels) x port.0) input ∙ ap (received_from port.0 c) (look-at channels c h.channel h.there)
      ∙ ap (λ ps. received port.0 c ps (length h.channel.open_senders)) h.empty ∙ ap (λ os. received port.0 c [] (length os)) h.closed
      )

  text-event : (port : Port) (text : List ℕ) (b : Bool) → x.stage ≡ stages.Wishing (wishes.Receive port) → slice_get x.inputs port.0 ≡ Some (Text text) → is_fresh x port.0 ≡ b
      → event_of channels x n ≡ cond b (Some (Takes_text port.0 text)) (Some (Hears_end port.0))
  text-event port text b at input fresh =
      ap (stage_event (looks channels) x n) at ∙ ap (receive_event (looks channels) x port.0) input ∙ ap (λ f. cond f (Some (Takes_text port.0 text)) (Some (Hears_end port.0))) fresh

  sends-event : (port : Port) (id c : ℕ) (channel : Channel) (packet : Tree) → x.stage ≡ stages.Wishing (wishes.Send port id) → output_at x port.0 ≡ Some c → packet_at x.held.packets id ≡ Some packet → slice_get channels c ≡ Some channel
      → length channel.packets < channel.capacity → event_of channels x n ≡ Some (Sends port.0 c packet)
  sends-event port id c channel packet at output found there room =
      at-stage (stages.Wishing (wishes.Send port id)) (Sends port.0 c packet) at (
      ap (option_and_then (λ d. sent port.0 d (packet_at x.held.packets id) (slice_get (looks channels) d))) output
      ∙ ap (λ f. sent port.0 c f (slice_get (looks channels) c)) found ∙ ap (sent port.0 c (Some packet)) (look-at channels c channel there)
      ∙ ap (λ b. cond b (Some (Sends port.0 c packet)) None) (lt-is (length channel.packets) channel.capacity room)
      )

  idle-starts : x.stage ≡ stages.Idle → can_start (looks channels) x ≡ true → event_of channels x n ≡ Some Starts
  idle-starts at can = at-stage stages.Idle Starts at (ap (λ b. cond b (Some Starts) (cond (can_finish (looks channels) x) (Some Finishes) (rest_event (looks channels) x))) can)

  idle-finishes : x.stage ≡ stages.Idle → can_start (looks channels) x ≡ false → can_finish (looks channels) x ≡ true → event_of channels x n ≡ Some Finishes
  idle-finishes at cannot can =
      at-stage stages.Idle Finishes at (
      ap (λ b. cond b (Some Starts) (cond (can_finish (looks channels) x) (Some Finishes) (rest_event (looks channels) x))) cannot ∙ ap (λ b. cond b (Some Finishes) (rest_event (looks channels) x)) can
      )

  idle-signals : (c : ℕ) (channel : Channel) (packet : Tree) (rest : List Tree) → x.stage ≡ stages.Idle → can_start (looks channels) x ≡ false → can_finish (looks channels) x ≡ false → takes_signal (looks channels) x ≡ true
      → x.signal ≡ Some c → slice_get channels c ≡ Some channel → channel.packets ≡ packet ∷ rest → event_of channels x n ≡ Some (Signals c packet)
  idle-signals c channel packet rest at cannot not_over takes signal there has =
      at-stage stages.Idle (Signals c packet) at (
      ap (λ b. cond b (Some Starts) (cond (can_finish (looks channels) x) (Some Finishes) (rest_event (looks channels) x))) cannot ∙ ap (λ b. cond b (Some Finishes) (rest_event (looks channels) x)) not_over
      ∙ ap (λ b. cond b (signal_event (looks channels) x.signal) None) takes ∙ ap (signal_event (looks channels)) signal ∙ ap (signalled_from c) (look-at channels c channel there) ∙ ap (signalled_by c) has
      )

  -- what an idle process asks for that neither starts nor goes to its end
  pub signals-idle : (c : ℕ) (packet : Tree) → event_of channels x n ≡ Some (Signals c packet) → (can_start (looks channels) x ≡ false) × (takes_signal (looks channels) x ≡ true)
  signals-idle c packet is =
      by (can_start (looks channels) x) (can_finish (looks channels) x) (takes_signal (looks channels) x) refl refl refl (
      subst (λ (stage : Stage). stage_event (looks channels) x n stage ≡ Some (Signals c packet)) (explains channels x n (Signals c packet) is).stage is
      )
    where
      by : (a b t : Bool) → can_start (looks channels) x ≡ a → can_finish (looks channels) x ≡ b → takes_signal (looks channels) x ≡ t
          → cond a (Some Starts) (cond b (Some Finishes) (cond t (signal_event (looks channels) x.signal) None)) ≡ Some (Signals c packet) → (can_start (looks channels) x ≡ false) × (takes_signal (looks channels) x ≡ true)
      by true b t start finish takes h = absurd (cc)
      by false true t start finish takes h = absurd (cc)
      by false false true start finish takes h = (start, takes)
      by false false false start finish takes h = absurd (cc)

-- The inputs of an idle process

or-right : (a b : Bool) → b ≡ true → (a || b) ≡ true
or-right true b is = refl
or-right false b is = is

or-left : (a b : Bool) → a ≡ true → (a || b) ≡ true
or-left true b is = refl
or-left false b is = absurd (cc)

-- where some connected input holds a packet the test says so
any-holds : (channels : List Channel) (inputs : List Input) (port c : ℕ) → slice_get inputs port ≡ Some (From c) → HoldsSome channels c → list_any (has_packet (looks channels)) inputs ≡ true
any-holds channels [] port c at h = absurd (cc)
any-holds channels (i ∷ inputs) zero c at h =
    or-left (has_packet (looks channels) i) (list_any (has_packet (looks channels)) inputs) (
    ap (has_packet (looks channels)) (one-of i (From c) at) ∙ ap (passes holds_packet) (look-at channels c h.channel h.there) ∙ ap (λ (ps : List Tree). not (is_empty ps)) h.packets
    )
any-holds channels (i ∷ inputs) (suc port) c at h = or-right (has_packet (looks channels) i) (list_any (has_packet (looks channels)) inputs) (any-holds channels inputs port c at h)

-- a dry connection as it is seen
dry-over : (channels : List Channel) (c : ℕ) → IsDry channels c → passes is_over (slice_get (looks channels) c) ≡ true
dry-over channels c h =
    ap (passes is_over) (look-at channels c h.channel h.there) ∙ ap (λ (ps : List Tree). is_empty ps && (length h.channel.open_senders == 0)) h.empty ∙ ap (λ (os : List Sender). length os == 0) h.closed

dry-holds : (channels : List Channel) (c : ℕ) → IsDry channels c → passes holds_packet (slice_get (looks channels) c) ≡ false
dry-holds channels c h = ap (passes holds_packet) (look-at channels c h.channel h.there) ∙ ap (λ (ps : List Tree). not (is_empty ps)) h.empty

and-both : (a b : Bool) → a ≡ true → b ≡ true → (a && b) ≡ true
and-both true b is h = h
and-both false b is h = absurd (cc)

-- where each connected input is dry all are over, and none holds a packet
all-over : (channels : List Channel) (inputs : List Input) → ((port c : ℕ) → slice_get inputs port ≡ Some (From c) → IsDry channels c) → list_all (has_ended (looks channels)) inputs ≡ true
all-over channels [] each = refl
all-over channels (From c ∷ inputs) each =
    and-both (has_ended (looks channels) (From c)) (list_all (has_ended (looks channels)) inputs) (dry-over channels c (each 0 c refl)) (all-over channels inputs (λ port d at. each (suc port) d at))
all-over channels (Text text ∷ inputs) each = all-over channels inputs (λ port d at. each (suc port) d at)

none-holds : (channels : List Channel) (inputs : List Input) → ((port c : ℕ) → slice_get inputs port ≡ Some (From c) → IsDry channels c) → list_any (has_packet (looks channels)) inputs ≡ false
none-holds channels [] each = refl
none-holds channels (From c ∷ inputs) each =
    ap (λ b. b || list_any (has_packet (looks channels)) inputs) (dry-holds channels c (each 0 c refl)) ∙ none-holds channels inputs (λ port d at. each (suc port) d at)
none-holds channels (Text text ∷ inputs) each = none-holds channels inputs (λ port d at. each (suc port) d at)

or-false : (a b : Bool) → (a || b) ≡ false → b ≡ false
or-false true b is = absurd (cc)
or-false false b is = is

and-none : (a b : Bool) → b ≡ false → (a && b) ≡ false
and-none true b is = is
and-none false b is = refl

-- a connection that holds a packet isn't over
not-over : (channels : List Channel) (c : ℕ) (channel : Channel) (packet : Tree) (rest : List Tree) → slice_get channels c ≡ Some channel → channel.packets ≡ packet ∷ rest → passes is_over (slice_get (looks channels) c) ≡ false
not-over channels c channel packet rest there has = ap (passes is_over) (look-at channels c channel there) ∙ ap (λ (ps : List Tree). is_empty ps && (length channel.open_senders == 0)) has

-- No two outputs send to one connection.
abbrev pub OneWriter : {K : Type 0} → List (Process K) → Type 0
OneWriter processes = (p q o k c : ℕ) → output_of o (slice_get processes p) ≡ Some c → output_of k (slice_get processes q) ≡ Some c → (p ≡ q) × (o ≡ k)

-- Two processes, p and q, of which p has a turn

module _ {K : Type 0} (kept : Kept K) (p : ℕ) (x : Process K) (n : ℕ) (e : Event) (there : slice_get kept.processes p ≡ Some x) (happens : event_of kept.channels x n ≡ Some e)
    (q : ℕ) (y : Process K) (m : ℕ) (on : slice_get kept.processes q ≡ Some y) (apart : p ≢ q) (senders : SendersOpen kept) (receivers : OneReceiver kept.processes) (watchers : SignalsApart kept.processes) (writers : OneWriter kept.processes) where
  abbrev new : List Channel
  new = channels_after kept.channels p e

  -- p gets nothing from a connection at an input of q
  pub no-get : (i c port : ℕ) (packet : Tree) → slice_get y.inputs i ≡ Some (From c) → e ≡ Gets port c packet → ⊥
  no-get i c port packet at is =
      let from = explains kept.channels x n (Gets port c packet) (happens ∙ ap Some is) in
      apart (receivers p q port i c (ap (input_of port) there ∙ ap connection_of from.input) (ap (input_of i) on ∙ ap connection_of at)).0

  -- nor does a packet from there come at its automatic input
  pub no-signal : (i c : ℕ) (packet : Tree) → slice_get y.inputs i ≡ Some (From c) → e ≡ Signals c packet → ⊥
  no-signal i c packet at is =
      let from = explains kept.channels x n (Signals c packet) (happens ∙ ap Some is) in
      watchers.apart p q i c (ap signal_of there ∙ from.signal) (ap (input_of i) on ∙ ap connection_of at)

  -- p gets nothing from the connection at the automatic input of q
  pub no-get_there : (c port : ℕ) (packet : Tree) → y.signal ≡ Some c → e ≡ Gets port c packet → ⊥
  no-get_there c port packet at is =
      let from = explains kept.channels x n (Gets port c packet) (happens ∙ ap Some is) in
      watchers.apart q p port c (ap signal_of on ∙ at) (ap (input_of port) there ∙ ap connection_of from.input)

  pub no-signal_there : (c : ℕ) (packet : Tree) → y.signal ≡ Some c → e ≡ Signals c packet → ⊥
  no-signal_there c packet at is =
      let from = explains kept.channels x n (Signals c packet) (happens ∙ ap Some is) in
      apart (watchers.one p q c (ap signal_of there ∙ from.signal) (ap signal_of on ∙ at))

  -- p sends nothing to a connection at an output of q
  pub no-send : (o c port : ℕ) (packet : Tree) → output_at y o ≡ Some c → e ≡ Sends port c packet → ⊥
  no-send o c port packet at is =
      let to = explains kept.channels x n (Sends port c packet) (happens ∙ ap Some is) in
      apart (writers p q port o c (ap (output_of port) there ∙ to.output) (ap (output_of o) on ∙ at)).0

  -- the oldest packet of a connection from which p takes nothing stays the oldest
  head-after : (c : ℕ) (channel : Channel) (packet : Tree) (rest : List Tree) → ((port : ℕ) (other : Tree) → e ≡ Gets port c other → ⊥) → ((other : Tree) → e ≡ Signals c other → ⊥) → slice_get kept.channels c ≡ Some channel → channel.packets ≡ packet ∷ rest
      → (now : Channel) × (left : List Tree) × (slice_get new c ≡ Some now) × (now.packets ≡ packet ∷ left)
  head-after c channel packet rest no_get no_signal here has = elim (after-turn kept.channels p e c channel here) [
    | inl same ↦ (channel, rest, same, has)
    | inr change ↦ by (touching e c change.0) change.1
  ]
    where
      by : Touching e c → slice_get new c ≡ Some (channel_by p channel e) → (now : Channel) × (left : List Tree) × (slice_get new c ≡ Some now) × (now.packets ≡ packet ∷ left)
      by (gets port other is) now = absurd (no_get port other is)
      by (signals other is) now = absurd (no_signal other is)
      by (sends port other is) now =
          (channel_after p (Added other) channel, rest ++ other ∷ [], now ∙ ap (λ (f : Event). Some (channel_by p channel f)) is, ap (λ (ps : List Tree). ps ++ other ∷ []) has)
      by (closes output is) now =
          (channel_after p (Closed output) channel, rest, now ∙ ap (λ (f : Event). Some (channel_by p channel f)) is, has)

  -- a connection at an output of q has no less room
  room-after : (o c : ℕ) (channel : Channel) → output_at y o ≡ Some c → slice_get kept.channels c ≡ Some channel → length channel.packets < channel.capacity
      → (now : Channel) × (slice_get new c ≡ Some now) × (length now.packets < now.capacity)
  room-after o c channel at here room = elim (after-turn kept.channels p e c channel here) [
    | inl same ↦ (channel, same, room)
    | inr change ↦ by (touching e c change.0) change.1
  ]
    where
      by : Touching e c → slice_get new c ≡ Some (channel_by p channel e) → (now : Channel) × (slice_get new c ≡ Some now) × (length now.packets < now.capacity)
      by (gets port packet is) now =
          (channel_after p Taken channel, now ∙ ap (λ (f : Event). Some (channel_by p channel f)) is, omega (arith, length-drop 1 channel.packets, room))
      by (signals packet is) now =
          (channel_after p Taken channel, now ∙ ap (λ (f : Event). Some (channel_by p channel f)) is, omega (arith, length-drop 1 channel.packets, room))
      by (sends port packet is) now = absurd (no-send o c port packet at is)
      by (closes output is) now =
          (channel_after p (Closed output) channel, now ∙ ap (λ (f : Event). Some (channel_by p channel f)) is, room)

  -- what is dry stays so
  still-dry : (c : ℕ) → IsDry kept.channels c → IsDry new c
  still-dry c h = dry-after kept p x n there senders e happens c h

  -- where nothing comes at its automatic input any more nothing will
  over-stays : signal_over (looks kept.channels) y.signal ≡ true → signal_over (looks new) y.signal ≡ true
  over-stays over = by y.signal refl
    where
      by : (found : Option ℕ) → y.signal ≡ found → signal_over (looks new) found ≡ true
      by None at = refl
      by (Some c) at = dry-over new c (still-dry c (signal-dry kept.channels y.signal over c at))

  -- what was released stays so
  released-stays : is_released (looks kept.channels) y ≡ true → is_released (looks new) y ≡ true
  released-stays is = by y.signalled is
    where
      by : (b : Bool) → (b || signal_over (looks kept.channels) y.signal) ≡ true → (b || signal_over (looks new) y.signal) ≡ true
      by true is = refl
      by false is = over-stays is

  -- the turn takes a packet from a connection by a get, or as a signal
  takes-how : (f : Event) (c : ℕ) → e ≡ f → ((port : ℕ) (packet : Tree) → e ≡ Gets port c packet → ⊥) → ((packet : Tree) → e ≡ Signals c packet → ⊥) → TakesFrom f c → ⊥
  takes-how (Gets port d packet) c is no_get no_signal same = no_get port packet (is ∙ ap (λ k. Gets port k packet) (sym same))
  takes-how (Signals d packet) c is no_get no_signal same = no_signal packet (is ∙ ap (λ k. Signals k packet) (sym same))
  takes-how f c is no_get no_signal takes = takes

  starts-on : event_of kept.channels y m ≡ Some Starts → event_of new y m ≡ Some Starts
  starts-on is =
      idle-starts new y m (explains kept.channels y m Starts is) (
      and-both (is_released (looks new) y) (is_woken (looks new) y) (released-stays (and-left (is_released (looks kept.channels) y) (is_woken (looks kept.channels) y) (starts-can kept.channels y m is)))
      (by (list_any (has_packet (looks kept.channels)) y.inputs) refl)
      )
    where
      and-left : (a b : Bool) → (a && b) ≡ true → a ≡ true
      and-left true b is = refl
      and-left false b is = absurd (cc)

      by : (b : Bool) → list_any (has_packet (looks kept.channels)) y.inputs ≡ b → is_woken (looks new) y ≡ true
      by true holds =
          let first = first-input kept.channels y.inputs holds in
          let some = some-after kept.channels p e first.connection (takes-how e first.connection refl (λ port packet gets_it. no-get first.port first.connection port packet first.input gets_it) (λ packet signals_it. no-signal first.port first.connection packet first.input signals_it)) first.some in
          or-left (list_any (has_packet (looks new)) y.inputs) (not (list_any is_connected y.inputs) && not y.has_run) (any-holds new y.inputs first.port first.connection first.input some)
      by false holds =
          or-right (list_any (has_packet (looks new)) y.inputs) (not (list_any is_connected y.inputs) && not y.has_run) (
          sym (ap (λ b. b || (not (list_any is_connected y.inputs) && not y.has_run)) holds) ∙ starts-is_woken kept.channels y m is
          )

  finishes-on : event_of kept.channels y m ≡ Some Finishes → event_of new y m ≡ Some Finishes
  finishes-on is =
      let each : (port c : ℕ) → slice_get y.inputs port ≡ Some (From c) → IsDry new c = λ port c at. still-dry c (all-dry kept.channels y.inputs (finishes-all kept.channels y m is) port c at) in
      let alone : (not (list_any is_connected y.inputs) && not y.has_run) ≡ false =
      or-false (list_any (has_packet (looks kept.channels)) y.inputs) (not (list_any is_connected y.inputs) && not y.has_run) (finishes-cannot kept.channels y m is) in
      let unwoken : is_woken (looks new) y ≡ false = ap (λ b. b || (not (list_any is_connected y.inputs) && not y.has_run)) (none-holds new y.inputs each) ∙ alone in
      idle-finishes new y m (explains kept.channels y m Finishes is) (and-none (is_released (looks new) y) (is_woken (looks new) y) unwoken)
      (and-both (list_all (has_ended (looks new)) y.inputs) (signal_over (looks new) y.signal) (all-over new y.inputs each) (over-stays (finishes-signal kept.channels y m is)))

  signals-on : (c : ℕ) (packet : Tree) → event_of kept.channels y m ≡ Some (Signals c packet) → event_of new y m ≡ Some (Signals c packet)
  signals-on c packet is = by y.signalled refl (list_all (has_ended (looks kept.channels)) y.inputs) refl was.0 was.1
    where
      from : SignalsAt kept.channels y c packet
      from = explains kept.channels y m (Signals c packet) is

      was : (can_start (looks kept.channels) y ≡ false) × (takes_signal (looks kept.channels) y ≡ true)
      was = signals-idle kept.channels y m c packet is

      now : (channel : Channel) × (left : List Tree) × (slice_get new c ≡ Some channel) × (channel.packets ≡ packet ∷ left)
      now = head-after c from.channel packet from.rest (λ port other. no-get_there c port other from.signal) (λ other. no-signal_there c other from.signal) from.there from.packets

      -- its automatic input isn't over
      goes_on : signal_over (looks new) y.signal ≡ false
      goes_on = ap (signal_over (looks new)) from.signal ∙ not-over new c now.0 packet now.1 now.2 now.3

      unfinished : can_finish (looks new) y ≡ false
      unfinished = and-none (list_all (has_ended (looks new)) y.inputs) (signal_over (looks new) y.signal) goes_on

      event : can_start (looks new) y ≡ false → takes_signal (looks new) y ≡ true → event_of new y m ≡ Some (Signals c packet)
      event cannot takes = idle-signals new y m c now.0 packet now.1 from.stage cannot unfinished takes from.signal now.2 now.3

      -- one that was signalled isn't woken: all its stream inputs are over, and it has one or has run
      later : y.signalled ≡ true → list_all (has_ended (looks kept.channels)) y.inputs ≡ true → (list_any is_connected y.inputs || y.has_run) ≡ true → event_of new y m ≡ Some (Signals c packet)
      later signalled over some =
          let each : (port d : ℕ) → slice_get y.inputs port ≡ Some (From d) → IsDry new d = λ port d at. still-dry d (all-dry kept.channels y.inputs over port d at) in
          let unwoken : is_woken (looks new) y ≡ false = ap (λ b. b || (not (list_any is_connected y.inputs) && not y.has_run)) (none-holds new y.inputs each) ∙ none (list_any is_connected y.inputs) y.has_run some in
          event (and-none (is_released (looks new) y) (is_woken (looks new) y) unwoken)
          (or-right (not y.signalled) (list_all (has_ended (looks new)) y.inputs && (list_any is_connected y.inputs || y.has_run)) (and-both (list_all (has_ended (looks new)) y.inputs) (list_any is_connected y.inputs || y.has_run) (all-over new y.inputs each) some))
        where
          none : (a b : Bool) → (a || b) ≡ true → (not a && not b) ≡ false
          none true b is = refl
          none false true is = refl
          none false false is = absurd (cc)

      by : (s : Bool) → y.signalled ≡ s → (o : Bool) → list_all (has_ended (looks kept.channels)) y.inputs ≡ o → can_start (looks kept.channels) y ≡ false → takes_signal (looks kept.channels) y ≡ true → event_of new y m ≡ Some (Signals c packet)
      by false signalled o over cannot takes =
          event (ap (λ s. (s || signal_over (looks new) y.signal) && is_woken (looks new) y) signalled ∙ ap (λ o. o && is_woken (looks new) y) goes_on) (ap (λ s. not s || (list_all (has_ended (looks new)) y.inputs && (list_any is_connected y.inputs || y.has_run))) signalled)
      by true signalled true over cannot takes =
          later signalled over (sym (ap (λ s. not s || (list_all (has_ended (looks kept.channels)) y.inputs && (list_any is_connected y.inputs || y.has_run))) signalled ∙ ap (λ o. o && (list_any is_connected y.inputs || y.has_run)) over) ∙ takes)
      by true signalled false over cannot takes =
          absurd (let h : false ≡ true = sym (ap (λ s. not s || (list_all (has_ended (looks kept.channels)) y.inputs && (list_any is_connected y.inputs || y.has_run))) signalled ∙ ap (λ o. o && (list_any is_connected y.inputs || y.has_run)) over) ∙ takes in cc)

  gets-on : (port c : ℕ) (packet : Tree) → event_of kept.channels y m ≡ Some (Gets port c packet) → event_of new y m ≡ Some (Gets port c packet)
  gets-on port c packet is =
      let from = explains kept.channels y m (Gets port c packet) is in
      let now = head-after c from.channel packet from.rest (λ k other. no-get port c k other from.input) (λ other. no-signal port c other from.input) from.there from.packets in
      let input : slice_get y.inputs from.wished.0 ≡ Some (From c) = ap (slice_get y.inputs) from.names ∙ from.input in
      gets-event new y m from.wished c now.0 packet now.1 from.stage input now.2 now.3 ∙ ap (λ k. Some (Gets k c packet)) from.names

  hears-on : (port : ℕ) → event_of kept.channels y m ≡ Some (Hears_end port) → event_of new y m ≡ Some (Hears_end port)
  hears-on port is = by (hears-exhausted kept.channels y m port is)
    where
      by : Exhausted kept.channels y port → event_of new y m ≡ Some (Hears_end port)
      by (dry c input h) =
          let at = explains kept.channels y m (Hears_end port) is in
          hears-event new y m at.wished c at.stage (ap (slice_get y.inputs) at.names ∙ input) (still-dry c h) ∙ ap (λ k. Some (Hears_end k)) at.names
      by (taken text input fresh) =
          let at = explains kept.channels y m (Hears_end port) is in
          text-event new y m at.wished text false at.stage (ap (slice_get y.inputs) at.names ∙ input) (ap (is_fresh y) at.names ∙ fresh) ∙ ap (λ k. Some (Hears_end k)) at.names

  sends-on : (port c : ℕ) (packet : Tree) → event_of kept.channels y m ≡ Some (Sends port c packet) → event_of new y m ≡ Some (Sends port c packet)
  sends-on port c packet is =
      let to = explains kept.channels y m (Sends port c packet) is in
      let now = room-after port c to.channel to.output to.there to.room in
      sends-event new y m to.wished to.id c now.0 packet to.stage (ap (output_at y) to.names ∙ to.output) to.found now.1 now.2 ∙ ap (λ k. Some (Sends k c packet)) to.names

  -- the turn that q has stays its turn, where it doesn't tell a level
  pub turn-stays : (f : Event) → ((port level : ℕ) → f ≡ Learns port level → ⊥) → event_of kept.channels y m ≡ Some f → event_of new y m ≡ Some f
  turn-stays Starts no_level is = starts-on is
  turn-stays Finishes no_level is = finishes-on is
  turn-stays (Gets port c packet) no_level is = gets-on port c packet is
  turn-stays (Takes_text port text) no_level is =
      let at = explains kept.channels y m (Takes_text port text) is in
      text-event new y m at.wished text true at.stage (ap (slice_get y.inputs) at.names ∙ at.input) (ap (is_fresh y) at.names ∙ at.fresh) ∙ ap (λ k. Some (Takes_text k text)) at.names
  turn-stays (Hears_end port) no_level is = hears-on port is
  turn-stays (Sends port c packet) no_level is = sends-on port c packet is
  turn-stays (Learns port level) no_level is = absurd (no_level port level refl)
  turn-stays Sleeps no_level is = at-stage new y m (stages.Wishing wishes.Deactivate) Sleeps (explains kept.channels y m Sleeps is) refl
  turn-stays (Signals c packet) no_level is = signals-on c packet is
  turn-stays (Closes output c) no_level is =
      let at = explains kept.channels y m (Closes output c) is in
      at-stage new y m (stages.Closing at.i) (Closes output c) at.stage (ap (option_and_then (λ (outlet : Outlet). Some (Closes outlet.output outlet.connection))) at.outlet)
