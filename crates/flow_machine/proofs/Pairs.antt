-- What an effect and a connection's change come to is a turn of the machine.
use Rattle.std.proofs.Common.{◌≡◌, ℕ, ◌+◌, ◌<◌, ◌≤◌, Bool, true, false, cond, List, [], ◌∷◌, ◌++◌, length, map, drop, Option, Some, None, slice_get, nat_lt, nat_le, refl, ap, sym, subst, ◌∙◌, arith}
use Rattle.std.specs.Prelude.{option_and_then, slice_set, slice_index, IfSome, is_some, not}
use Rattle.std.proofs.lemmas.Bool.Decides.{nat_tests}
use Rattle.flow_packet.specs.Tree.{Tree, id_of, kind_of}
use Rattle.flow_packet.specs.Hands.{packet_at}
use Rattle.flow_packet.specs.Held.{without_packet}
use Rattle.flow_component.specs.declared.Port.{Port}
use Rattle.flow_component.specs.declared.Answer.TheVariants as answers
use Rattle.flow_component.specs.declared.Wish.TheVariants as wishes
use Rattle.flow_model.specs.declared.Stage.TheVariants as stages
use Rattle.flow_model.specs.declared.Block.{Block}
use Rattle.flow_model.specs.States.{Process}
use Rattle.flow_model.specs.Events.{Event, Starts, Finishes, Gets, Hears_end, Sends, Learns, Signals, Look, received, sent, told_level, is_empty, passes, holds_packet, idle_event, can_start, can_finish, takes_signal, signalled_by, signalled_from, signal_event}
use Rattle.flow_model.specs.Turns.{process_after, at_stage, depth_after}
use Rattle.flow_model.specs.Stands.{ChannelShown, look_shown, dropped_after, shown_after}
use Rattle.flow_model.proofs.Lists.{change_at-some, map-found}
use Rattle.flow_machine.specs.Inlets.{signal_source}
use Rattle.flow_machine.proofs.Standings.{get-map}
use Rattle.flow_model.proofs.Counts.{packet_at-id}
use Rattle.flow_machine.specs.Values.{BodyValue}
use Rattle.flow_machine.specs.declared.answers.Effect.{Effect}
use Rattle.flow_machine.specs.declared.answers.Effect.TheVariants as effects
use Rattle.flow_machine.specs.declared.answers.Turn.TheVariants as turns
use Rattle.flow_machine.specs.Effects.{effected, levels_by, drops_by, TakesTurn, IsEffectFor, port_at, id_sent}
use Rattle.flow_machine.specs.Nets.{BodyTurn, PairTurns, WakeTurns, levels_told, packet_wished}

-- A body whose effect is that of an event has made that turn.
pub body-turn : {K : Type 0} (old new : BodyValue K) (effect : Effect) (stamp : ℕ) (e : Event) → TakesTurn old effect stamp new → effected old.process old.leaving effect ≡ process_after old.process e → levels_by effect stamp ≡ levels_told e stamp → drops_by effect old.dropped ≡ dropped_after e old.dropped → BodyTurn old e stamp new
body-turn old new effect stamp e takes process levels dropped = record {
  process = takes.process ∙ process;
  dropped = takes.dropped ∙ dropped;
  leaving = takes.leaving;
  stamps = takes.stamps;
  levels = takes.levels ∙ ap (λ (ls : List (ℕ × ℕ)). old.levels ++ ls) levels;
}

-- Getting a packet is a turn of body and connection.
pub got : {K : Type 0} (b b' : BodyValue K) (channel channel' : ChannelShown) (port c stamp : ℕ) (block : Block) (packet : Tree) → channel.packets ≡ packet ∷ channel'.packets → channel' ≡ record channel { packets = drop 1 channel.packets; takes = channel.takes + 1 }
    → TakesTurn b (effects.Got packet) stamp b' → PairTurns (received port c channel.packets channel.open_senders) block stamp b channel (turns.Made stamp) b' channel'
got b b' channel channel' port c stamp block packet first rest takes =
    (refl, (Gets port c packet, ap (λ (ps : List Tree). received port c ps channel.open_senders) first, body-turn b b' (effects.Got packet) stamp (Gets port c packet) takes refl refl refl, rest))

received-end : (port c senders : ℕ) (packets : List Tree) (channel : ChannelShown) → channel.packets ≡ packets → holds_packet (look_shown channel) ≡ false → senders ≡ 0 → received port c packets senders ≡ Some (Hears_end port)
received-end port c senders [] channel is none over = rw over refl
received-end port c senders (packet ∷ packets) channel is none over = absurd (let h = rw is at none in cc)

-- Hearing an end is a turn of body and connection.
pub heard : {K : Type 0} (b b' : BodyValue K) (channel : ChannelShown) (port c stamp : ℕ) (block : Block) → holds_packet (look_shown channel) ≡ false → channel.open_senders ≡ 0
    → TakesTurn b effects.End stamp b' → PairTurns (received port c channel.packets channel.open_senders) block stamp b channel (turns.Made stamp) b' channel
heard b b' channel port c stamp block none over takes =
    (refl, (Hears_end port, received-end port c channel.open_senders channel.packets channel refl none over, body-turn b b' effects.End stamp (Hears_end port) takes refl refl refl, refl))

sent-some : (port c : ℕ) (found : Option Tree) (channel : ChannelShown) (packet : Tree) → found ≡ Some packet → length channel.packets < channel.capacity → sent port c found (Some (look_shown channel)) ≡ Some (Sends port c packet)
sent-some port c found channel packet is room = let t : nat_lt (length channel.packets) channel.capacity ≡ true = grind (arith, nat_tests) in ap (λ o. sent port c o (Some (look_shown channel))) is ∙ rw t refl

-- What is left of a body when a packet has left it.
abbrev pub left_behind : {K : Type 0} → BodyValue K → Tree → ℕ → BodyValue K
left_behind b packet id = record b { process = record b.process { held = without_packet b.process.held id }; leaving = Some (kind_of packet); places = b.places + 1 }

-- Sending a packet is a turn of body and connection.
pub sent-off : {K : Type 0} (b mid b' : BodyValue K) (channel channel' : ChannelShown) (port : Port) (c id stamp : ℕ) (block : Block) (packet : Tree) → b.process.stage ≡ stages.Wishing (wishes.Send port id) → IfSome (id_sent b.process.stage) (λ id. packet_at b.process.held.packets id ≡ Some packet)
    → IfSome (id_sent b.process.stage) (λ id. mid ≡ left_behind b packet id) → length channel.packets < channel.capacity → channel' ≡ record channel { packets = channel.packets ++ packet ∷ []; puts = channel.puts + 1 }
    → TakesTurn mid effects.Sent stamp b' → PairTurns (sent port.0 c (packet_wished b.process) (Some (look_shown channel))) block stamp b channel (turns.Made stamp) b' channel'
sent-off {K} b mid b' channel channel' port c id stamp block packet stage found left room put takes =
    let sends : id_sent b.process.stage ≡ Some id = ap id_sent stage in
    let at : packet_at b.process.held.packets id ≡ Some packet = let P : Option ℕ → Type 0 = λ o. IfSome o (λ id. packet_at b.process.held.packets id ≡ Some packet) in subst P sends found in
    let mid_is : mid ≡ left_behind b packet id = let P : Option ℕ → Type 0 = λ o. IfSome o (λ id. mid ≡ left_behind b packet id) in subst P sends left in
    let named : id_of packet ≡ id = packet_at-id b.process.held.packets id packet at in
    let wished : packet_wished b.process ≡ Some packet = ap (option_and_then (packet_at b.process.held.packets)) sends ∙ at in
    let takes' : TakesTurn (left_behind b packet id) effects.Sent stamp b' = subst (λ (m : BodyValue K). TakesTurn m effects.Sent stamp b') mid_is takes in
    let f : ℕ → ℕ → Process K = λ port id. record (at_stage b.process (stages.Told answers.Sent)) { held = without_packet b.process.held id; depths = slice_set b.process.depths port (depth_after (kind_of packet) (slice_index b.process.depths port)) } in
    let same : f (port_at b.process.stage) id ≡ f port.0 (id_of packet) = ap (λ (p : ℕ). f p id) (ap port_at stage) ∙ ap (f port.0) (sym named) in
    (refl, (Sends port.0 c packet, sent-some port.0 c (packet_wished b.process) channel packet wished room, record { process = takes'.process ∙ same; dropped = takes'.dropped; leaving = takes'.leaving; stamps = takes'.stamps; levels = takes'.levels }, put))

-- The send of a packet that has left may be finished.
pub may-finish : {K : Type 0} (b mid : BodyValue K) (port : Port) (id : ℕ) (packet : Tree) → b.process.stage ≡ stages.Wishing (wishes.Send port id) → IfSome (id_sent b.process.stage) (λ id. mid ≡ left_behind b packet id) → IsEffectFor mid.process mid.leaving effects.Sent
may-finish {K} b mid port id packet stage left =
    let mid_is : mid ≡ left_behind b packet id = let P : Option ℕ → Type 0 = λ o. IfSome o (λ id. mid ≡ left_behind b packet id) in subst P (ap id_sent stage) left in
    subst (λ (m : BodyValue K). IsEffectFor m.process m.leaving effects.Sent) (sym mid_is) (kind_of packet, refl, (port, id, stage))

-- A level between the length and the capacity is told.
pub told-some : (port n : ℕ) (channel : ChannelShown) → length channel.packets ≤ n → n ≤ channel.capacity → told_level port n (Some (look_shown channel)) ≡ Some (Learns port n)
told-some port n channel least most =
    let l : nat_le (length channel.packets) n ≡ true = grind (arith, nat_tests) in
    let m : nat_le n channel.capacity ≡ true = grind (arith, nat_tests) in
    rw (l, m) refl

-- Learning a level is a turn of body and connection.
pub learned : {K : Type 0} (b b' : BodyValue K) (channel : ChannelShown) (port : Port) (n stamp : ℕ) (block : Block) → b.process.stage ≡ stages.Wishing (wishes.Level port) → length channel.packets ≤ n → n ≤ channel.capacity
    → TakesTurn b (effects.Level n) stamp b' → PairTurns (told_level port.0 n (Some (look_shown channel))) block stamp b channel (turns.Made stamp) b' channel
learned b b' channel port n stamp block stage least most takes =
    (refl, (Learns port.0 n, told-some port.0 n channel least most, body-turn b b' (effects.Level n) stamp (Learns port.0 n) takes refl refl refl, refl))

-- A start is a turn of the body alone.
pub started : {K : Type 0} (b b' : BodyValue K) (channels : List ChannelShown) (stamp : ℕ) (block : Block) → can_start (map look_shown channels) b.process ≡ true → TakesTurn b effects.Start stamp b'
    → WakeTurns (idle_event (map look_shown channels) b.process) block stamp b channels (turns.Made stamp) b' channels
started b b' channels stamp block can takes = (refl, (Starts, rw can refl, body-turn b b' effects.Start stamp Starts takes refl refl refl, refl))

-- The turn to closing is one of the body alone.
pub finished : {K : Type 0} (b b' : BodyValue K) (channels : List ChannelShown) (stamp : ℕ) (block : Block) → can_start (map look_shown channels) b.process ≡ false → can_finish (map look_shown channels) b.process ≡ true → TakesTurn b effects.ToClosing stamp b'
    → WakeTurns (idle_event (map look_shown channels) b.process) block stamp b channels (turns.Made stamp) b' channels
finished b b' channels stamp block cannot over takes = (refl, (Finishes, rw (cannot, over) refl, body-turn b b' effects.ToClosing stamp Finishes takes refl refl refl, refl))

-- A packet that is there at an automatic input.
pub record Source (channels : List ChannelShown) (signal : Option ℕ) (c : ℕ) : Type 0 where
  pub is : signal ≡ Some c
  pub channel : ChannelShown
  pub there : slice_get channels c ≡ Some channel
  pub packets : 0 < length channel.packets

-- A source is a connection that is there and holds a packet.
pub source-there : (channels : List ChannelShown) (signal : Option ℕ) (c : ℕ) → signal_source (map look_shown channels) signal ≡ Some c → Source channels signal c
source-there channels None c is = absurd (cc)
source-there channels (Some d) c is = by (slice_get (map look_shown channels) d) refl (passes holds_packet (slice_get (map look_shown channels) d)) refl is
  where
    some : (packets : List Tree) → not (is_empty packets) ≡ true → 0 < length packets
    some [] e = absurd (cc)
    some (packet ∷ packets) e = omega arith

    by : (found : Option Look) → slice_get (map look_shown channels) d ≡ found → (t : Bool) → passes holds_packet (slice_get (map look_shown channels) d) ≡ t → cond t (Some d) None ≡ Some c → Source channels (Some d) c
    by found at false holds is = absurd (cc)
    by None at true holds is = absurd (let h : false ≡ true = sym (ap (passes holds_packet) at) ∙ holds in cc)
    by (Some l) at true holds is =
        let k = map-found look_shown channels d l at in
        let same : d ≡ c = cc in
        let full : holds_packet l ≡ true = sym (ap (passes holds_packet) at) ∙ holds in
        record {
          is = ap (λ (n : ℕ). Some n) same;
          channel = k.0;
          there = ap (slice_get channels) (sym same) ∙ k.1;
          packets = some k.0.packets (ap (λ (m : Look). holds_packet m) k.2 ∙ full);
        }

-- Without a source nothing comes at the automatic input.
pub source-none : (channels : List ChannelShown) (signal : Option ℕ) → signal_source (map look_shown channels) signal ≡ None → signal_event (map look_shown channels) signal ≡ None
source-none channels None is = refl
source-none channels (Some d) is = by (slice_get (map look_shown channels) d) is
  where
    empty : (packets : List Tree) → cond {A = Option ℕ} (not (is_empty packets)) (Some d) None ≡ None → signalled_by d packets ≡ None
    empty [] e = refl
    empty (packet ∷ packets) e = absurd (cc)

    by : (found : Option Look) → cond {A = Option ℕ} (passes holds_packet found) (Some d) None ≡ None → signalled_from d found ≡ None
    by None e = refl
    by (Some l) e = empty l.packets e

-- With one a packet comes there.
pub source-some : (channels : List ChannelShown) (signal : Option ℕ) (c : ℕ) → signal_source (map look_shown channels) signal ≡ Some c → is_some (signal_event (map look_shown channels) signal) ≡ true
source-some channels signal c is =
    let s = source-there channels signal c is in
    by s.channel.packets s.packets (ap (signal_event (map look_shown channels)) s.is ∙ ap (signalled_from c) (get-map look_shown channels c s.channel s.there))
  where
    by : (packets : List Tree) → 0 < length packets → signal_event (map look_shown channels) signal ≡ signalled_by c packets → is_some (signal_event (map look_shown channels) signal) ≡ true
    by [] some e = absurd (omega (arith, some))
    by (packet ∷ packets) some e = ap is_some e

-- Taking a packet from the automatic input is a turn of the body and of one connection.
pub signalled : {K : Type 0} (b b' : BodyValue K) (channels : List ChannelShown) (c stamp : ℕ) (block : Block) (channel channel' : ChannelShown) (packet : Tree) → can_start (map look_shown channels) b.process ≡ false → can_finish (map look_shown channels) b.process ≡ false → takes_signal (map look_shown channels) b.process ≡ true
    → b.process.signal ≡ Some c → slice_get channels c ≡ Some channel → channel.packets ≡ packet ∷ channel'.packets → channel' ≡ record channel { packets = drop 1 channel.packets; takes = channel.takes + 1 } → TakesTurn b (effects.Signal packet) stamp b'
    → WakeTurns (idle_event (map look_shown channels) b.process) block stamp b channels (turns.Made stamp) b' (slice_set channels c channel')
signalled b b' channels c stamp block channel channel' packet cannot unfinished may signal there first rest takes =
    let looks : List Look = map look_shown channels in
    let event : signal_event looks b.process.signal ≡ Some (Signals c packet) = ap (signal_event looks) signal ∙ ap (signalled_from c) (get-map look_shown channels c channel there) ∙ ap (signalled_by c) first in (
      refl,
      (
        Signals c packet,
        rw (cannot, unfinished, may) event,
        body-turn b b' (effects.Signal packet) stamp (Signals c packet) takes refl refl refl,
        ap (slice_set channels c) rest ∙ sym (change_at-some channels c (shown_after (Signals c packet)) channel there),
      ),
    )

-- An idle process is dormant where it takes no packet from its automatic input, or has none there.
pub resting : {K : Type 0} (x : Process K) (looks : List Look) → can_start looks x ≡ false → can_finish looks x ≡ false → takes_signal looks x ≡ false → idle_event looks x ≡ None
resting x looks cannot unfinished may_not = rw (cannot, unfinished, may_not) refl

-- It is dormant too where nothing is at its automatic input.
pub unsignalled : {K : Type 0} (x : Process K) (looks : List Look) → can_start looks x ≡ false → can_finish looks x ≡ false → takes_signal looks x ≡ true → signal_event looks x.signal ≡ None → idle_event looks x ≡ None
unsignalled x looks cannot unfinished may none = rw (cannot, unfinished, may) none
