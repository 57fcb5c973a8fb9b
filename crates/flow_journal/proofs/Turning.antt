-- Which numbers a turn sees.
use Rattle.std.proofs.Common.{◌≡◌, ℕ, Bool, true, false, cond, List, [], ◌∷◌, ◌++◌, length, Option, Some, None, refl, sym, ap, ◌∙◌, subst, slice_get, nat_eq, nat_lt}
use Rattle.std.specs.Prelude.{option_and_then, nat_le, ◌&&◌}
use Rattle.flow_packet.specs.Tree.{Tree}
use Rattle.flow_packet.specs.Hands.{packet_at}
use Rattle.flow_component.specs.declared.Port.{Port}
use Rattle.flow_component.specs.declared.Wish.TheVariants as wishes
use Rattle.flow_model.specs.declared.Stage.{Stage}
use Rattle.flow_model.specs.declared.Stage.TheVariants as stages
use Rattle.flow_model.specs.States.{Input, From, Text, Process, Outlet, output_at, outlets}
use Rattle.flow_model.specs.Events.{Event, Starts, Finishes, Gets, Takes_text, Hears_end, Sends, Learns, Sleeps, Closes, Signals, Look, can_start, can_finish, takes_signal, signalled_by, signalled_from, signal_event, is_fresh, received, received_from, receive_event, sent, told_level, stage_event, event_from, seen_by}
use Rattle.flow_machine.specs.Values.{BodyValue, NetValue}
use Rattle.flow_machine.specs.Nets.{NetTurn, TurnsNet, SeesNet, IsAt, is_asking, asks_level, looks_of}
use Rattle.flow_machine.specs.declared.answers.Turn.{Turn as Answer}
use Rattle.flow_machine.proofs.NetTurns.{if_some}
use Rattle.flow_journal.specs.Replaying.{MadeTurn}

-- a stage that asks for a level wishes for one
pub asking-port : (stage : Stage) → is_asking stage ≡ true → (port : Port) × (stage ≡ stages.Wishing (wishes.Level port))
asking-port (stages.Wishing (wishes.Level port)) asks = (port, refl)
asking-port stage asks = absurd (cc)

sees-same : (e' e : Event) → Some e' ≡ Some e → seen_by e ≡ seen_by e'
sees-same e' e is = (let same : e' ≡ e = cc in ap seen_by (sym same))

module _ {K : Type 0} (looks : List Look) (x : Process K) (n : ℕ) (e : Event) where
  tells-within : (port : ℕ) (b : Bool) → cond b (Some (Learns port n)) None ≡ Some e → seen_by e ≡ n ∷ []
  tells-within port true is = sees-same (Learns port n) e is
  tells-within port false is = absurd (cc)

  tells-at : (port : ℕ) (found : Option Look) → told_level port n found ≡ Some e → seen_by e ≡ n ∷ []
  tells-at port (Some channel) is = tells-within port (nat_le (length channel.packets) n && nat_le n channel.capacity) is
  tells-at port None is = absurd (cc)

  tells-to : (port : ℕ) (output : Option ℕ) → option_and_then (λ c. told_level port n (slice_get looks c)) output ≡ Some e → seen_by e ≡ n ∷ []
  tells-to port (Some c) is = tells-at port (slice_get looks c) is
  tells-to port None is = absurd (cc)

  -- a turn that is told a number sees it
  pub sees-told : (port : Port) → x.stage ≡ stages.Wishing (wishes.Level port) → event_from looks x n ≡ Some e → seen_by e ≡ n ∷ []
  sees-told port at is = tells-to port.0 (output_at x port.0) (subst (λ (stage : Stage). stage_event looks x n stage ≡ Some e) at is)

  signals-by : (c : ℕ) (packets : List Tree) → signalled_by c packets ≡ Some e → seen_by e ≡ []
  signals-by c (packet ∷ packets) is = sees-same (Signals c packet) e is
  signals-by c [] is = absurd (cc)

  signals-from : (c : ℕ) (found : Option Look) → signalled_from c found ≡ Some e → seen_by e ≡ []
  signals-from c (Some channel) is = signals-by c channel.packets is
  signals-from c None is = absurd (cc)

  signals-at : (signal : Option ℕ) → signal_event looks signal ≡ Some e → seen_by e ≡ []
  signals-at (Some c) is = signals-from c (slice_get looks c) is
  signals-at None is = absurd (cc)

  idles : (a b t : Bool) → cond a (Some Starts) (cond b (Some Finishes) (cond t (signal_event looks x.signal) None)) ≡ Some e → seen_by e ≡ []
  idles true b t is = sees-same Starts e is
  idles false true t is = sees-same Finishes e is
  idles false false true is = signals-at x.signal is
  idles false false false is = absurd (cc)

  hears : (port : ℕ) (b : Bool) → cond b (Some (Hears_end port)) None ≡ Some e → seen_by e ≡ []
  hears port true is = sees-same (Hears_end port) e is
  hears port false is = absurd (cc)

  receives : (port c : ℕ) (packets : List Tree) (senders : ℕ) → received port c packets senders ≡ Some e → seen_by e ≡ []
  receives port c (packet ∷ packets) senders is = sees-same (Gets port c packet) e is
  receives port c [] senders is = hears port (nat_eq senders 0) is

  receives-from : (port c : ℕ) (found : Option Look) → received_from port c found ≡ Some e → seen_by e ≡ []
  receives-from port c (Some channel) is = receives port c channel.packets channel.open_senders is
  receives-from port c None is = absurd (cc)

  takes : (port : ℕ) (text : List ℕ) (b : Bool) → cond b (Some (Takes_text port text)) (Some (Hears_end port)) ≡ Some e → seen_by e ≡ []
  takes port text true is = sees-same (Takes_text port text) e is
  takes port text false is = sees-same (Hears_end port) e is

  receives-at : (port : ℕ) (found : Option Input) → receive_event looks x port found ≡ Some e → seen_by e ≡ []
  receives-at port (Some (From c)) is = receives-from port c (slice_get looks c) is
  receives-at port (Some (Text text)) is = takes port text (is_fresh x port) is
  receives-at port None is = absurd (cc)

  sends-room : (port c : ℕ) (packet : Tree) (b : Bool) → cond b (Some (Sends port c packet)) None ≡ Some e → seen_by e ≡ []
  sends-room port c packet true is = sees-same (Sends port c packet) e is
  sends-room port c packet false is = absurd (cc)

  sends-to : (port c : ℕ) (packet : Option Tree) (found : Option Look) → sent port c packet found ≡ Some e → seen_by e ≡ []
  sends-to port c (Some packet) (Some channel) is = sends-room port c packet (nat_lt (length channel.packets) channel.capacity) is
  sends-to port c (Some packet) None is = absurd (cc)
  sends-to port c None found is = absurd (cc)

  sends-at : (port id : ℕ) (output : Option ℕ) → option_and_then (λ c. sent port c (packet_at x.held.packets id) (slice_get looks c)) output ≡ Some e → seen_by e ≡ []
  sends-at port id (Some c) is = sends-to port c (packet_at x.held.packets id) (slice_get looks c) is
  sends-at port id None is = absurd (cc)

  closes-at : (found : Option Outlet) → option_and_then (λ (outlet : Outlet). Some (Closes outlet.output outlet.connection)) found ≡ Some e → seen_by e ≡ []
  closes-at (Some outlet) is = sees-same (Closes outlet.output outlet.connection) e is
  closes-at None is = absurd (cc)

  sees-none-at : (stage : Stage) → is_asking stage ≡ false → stage_event looks x n stage ≡ Some e → seen_by e ≡ []
  sees-none-at stages.Idle asks is = idles (can_start looks x) (can_finish looks x) (takes_signal looks x) is
  sees-none-at (stages.Wishing (wishes.Receive port)) asks is = receives-at port.0 (slice_get x.inputs port.0) is
  sees-none-at (stages.Wishing (wishes.Send port id)) asks is = sends-at port.0 id (output_at x port.0) is
  sees-none-at (stages.Wishing wishes.Deactivate) asks is = sees-same Sleeps e is
  sees-none-at (stages.Closing i) asks is = closes-at (slice_get (outlets x) i) is
  sees-none-at stage asks is = absurd (cc)

  -- a turn of a process that asks for no level sees no number
  pub sees-none : is_asking x.stage ≡ false → event_from looks x n ≡ Some e → seen_by e ≡ []
  sees-none asks is = sees-none-at x.stage asks is

-- the turn of a process that asks for no level
pub made-plain : {K : Type 0} (old : NetValue K) (p n stamp : ℕ) (seen : List ℕ) (e : Event) (new : NetValue K) → NetTurn old p n e stamp new → IsAt old p (λ stage. is_asking stage ≡ false) → MadeTurn old p stamp seen seen new
made-plain {K} old p n stamp seen e new turn asks =
    let quiet : is_asking turn.before.process.stage ≡ false = if_some (slice_get old.bodies p) (λ (b : BodyValue K). is_asking b.process.stage ≡ false) turn.before turn.there asks in
    record { event = e; level = n; turn = turn; numbers = ap (λ (ns : List ℕ). ns ++ seen) (sym (sees-none (looks_of old.channels) turn.before.process n e quiet turn.happens)) }

-- the turn of a process that is told a level
pub made-level : {K : Type 0} (old : NetValue K) (p n stamp : ℕ) (seen left : List ℕ) (e : Event) (new : NetValue K) → NetTurn old p n e stamp new → IsAt old p asks_level → seen ≡ n ∷ left → MadeTurn old p stamp seen left new
made-level {K} old p n stamp seen left e new turn asks front =
    let asking : is_asking turn.before.process.stage ≡ true = if_some (slice_get old.bodies p) (λ (b : BodyValue K). asks_level b.process.stage) turn.before turn.there asks in
    let port = asking-port turn.before.process.stage asking in
    record { event = e; level = n; turn = turn; numbers = front ∙ ap (λ (ns : List ℕ). ns ++ left) (sym (sees-told (looks_of old.channels) turn.before.process n e port.0 port.1 turn.happens)) }

pub seen-level : {K : Type 0} (old : NetValue K) (p n stamp : ℕ) (seen left : List ℕ) (answer : Answer) (new : NetValue K) → SeesNet old p n stamp (Some answer) new → IsAt old p asks_level → seen ≡ n ∷ left → MadeTurn old p stamp seen left new
seen-level old p n stamp seen left answer new sees asks front =
    let made = subst (λ (a : Answer). TurnsNet old p n stamp a new) sees.0 sees.1 in
    made-level old p n stamp seen left made.1.0 new made.1.1 asks front
