-- A process that the words block has no turn.
use Rattle.std.proofs.Common.{◌≡◌, ℕ, zero, suc, ◌+◌, ◌<◌, ◌≤◌, Bool, true, false, cond, List, [], ◌∷◌, length, get_or, sym, refl, ap, ◌∙◌, arith, Option, Some, None, slice_get, nat_eq, nat_lt, ◌⊎◌, inl, inr}
use Rattle.std.specs.Prelude.{◌&&◌, ◌||◌, not, option_and_then}
use Rattle.std.specs.List.{list_any, list_all}
use Rattle.std.proofs.lemmas.Bool.Decides.{nat_tests}
use Rattle.flow_packet.specs.Tree.{Tree}
use Rattle.flow_packet.specs.Hands.{packet_at}
use Rattle.flow_component.specs.declared.Wish.TheVariants as wishes
use Rattle.flow_model.specs.Stands.{ChannelShown, look_shown}
use Rattle.flow_model.specs.States.{Input, From, Text, output_at}
use Rattle.flow_model.specs.Events.{Event, Look, event_from, stage_event, receive_event, received_from, received, sent, idle_event, signal_event, signalled_from, signalled_by, takes_signal, signal_over, is_released, is_woken, can_start, can_finish, has_packet, has_ended, is_connected, passes, holds_packet, is_over, is_empty, Sends, Hears_end, Starts, Finishes}
use Rattle.flow_model.specs.declared.Stage.{Stage}
use Rattle.flow_model.specs.declared.Stage.TheVariants as stages
use Rattle.flow_machine.specs.Nets.{looks_of}
use Rattle.flow_machine.specs.Values.{BodyValue}
use Rattle.flow_machine.proofs.Standings.{get-map}
use Rattle.flow_ring.specs.Words.{level_in, senders_in}
use Rattle.flow_floor.specs.Waking.{IsEmptyAt, IsOpenAt, AreStreamsEmpty, BlockSignal, BlockStreams, HasWorked, WordsBlock}
use Rattle.flow_floor.proofs.Lists.{some_Some}

-- What the machine's connections are, as the words say.
abbrev WordsTell : ℕ → List ChannelShown → List ℕ → Type 0
WordsTell n channels ws = (c : ℕ) (k : ChannelShown) → slice_get channels c ≡ Some k → (level_in (get_or ws (n + c) 0) ≡ length k.packets) × (senders_in (get_or ws (n + c) 0) ≡ k.open_senders)

-- What is seen of a connection is what is shown of it.
pub look-of : (channels : List ChannelShown) (c : ℕ) (k : ChannelShown) → slice_get channels c ≡ Some k → slice_get (looks_of channels) c ≡ Some (look_shown k)
look-of channels c k is = get-map look_shown channels c k is

-- A connection of level 0 has no packets.
pub no-packets : (ps : List Tree) → length ps ≡ 0 → ps ≡ []
no-packets [] e = refl
no-packets (p ∷ ps) e = absurd (omega (arith, e))

-- an input that is empty holds no packet
pub none-held : (channels : List ChannelShown) (xs : List Input) → ((i c : ℕ) → slice_get xs i ≡ Some (From c) → (k : ChannelShown) × (slice_get channels c ≡ Some k) × (length k.packets ≡ 0)) → list_any (has_packet (looks_of channels)) xs ≡ false
none-held channels [] empty = refl
none-held channels (Text text ∷ xs) empty = none-held channels xs (λ i c is. empty (suc i) c is)
none-held channels (From d ∷ xs) empty =
    let k = empty 0 d refl in
    let here : has_packet (looks_of channels) (From d) ≡ false = ap (passes holds_packet) (look-of channels d k.0 k.1) ∙ ap (λ (ps : List Tree). not (is_empty ps)) (no-packets k.0.packets k.2) in
    ap (λ b. b || list_any (has_packet (looks_of channels)) xs) here ∙ none-held channels xs (λ i c is. empty (suc i) c is)

-- A process with a connection at some input is connected.
pub some-connected : (xs : List Input) (i c : ℕ) → slice_get xs i ≡ Some (From c) → list_any is_connected xs ≡ true
some-connected [] i c is = absurd (cc)
some-connected (Text text ∷ xs) zero c is = absurd (let e : Text text ≡ From c = some_Some (Text text) (From c) is in let n : 0 ≡ 1 = ap number e in omega (arith, n))
  where
    number : Input → ℕ
    number (Text t) = 0
    number (From d) = 1
some-connected (Text text ∷ xs) (suc i) c is = some-connected xs i c is
some-connected (From d ∷ xs) i c is = refl

pub and-false : (a b : Bool) → b ≡ false → (a && b) ≡ false
and-false true b is = is
and-false false b is = refl

-- a connection with an open sender isn't over
not-over : (k : ChannelShown) → 0 < k.open_senders → is_over (look_shown k) ≡ false
not-over k some_sender = let z : nat_eq k.open_senders 0 ≡ false = grind (arith, nat_tests) in ap (λ b. is_empty k.packets && b) z ∙ and-false (is_empty k.packets) false refl

-- an input with an open sender isn't over
some-open : (channels : List ChannelShown) (xs : List Input) (i c : ℕ) (k : ChannelShown) → slice_get xs i ≡ Some (From c) → slice_get channels c ≡ Some k → 0 < k.open_senders → list_all (has_ended (looks_of channels)) xs ≡ false
some-open channels [] i c k is at some_sender = absurd (cc)
some-open channels (x ∷ xs) zero c k is at some_sender =
    let same : x ≡ From c = some_Some x (From c) is in
    let here : has_ended (looks_of channels) x ≡ false = ap (has_ended (looks_of channels)) same ∙ ap (passes is_over) (look-of channels c k at) ∙ not-over k some_sender in
    ap (λ b. b && list_all (has_ended (looks_of channels)) xs) here
some-open channels (x ∷ xs) (suc i) c k is at some_sender = ap (λ b. has_ended (looks_of channels) x && b) (some-open channels xs i c k is at some_sender) ∙ and-false (has_ended (looks_of channels) x) false refl

-- one that neither starts nor goes to its end, and where no packet comes at the automatic input, has no turn
idle-still : (a b t : Bool) (signal : Option Event) → a ≡ false → b ≡ false → (t ≡ true → signal ≡ None) → cond a (Some Starts) (cond b (Some Finishes) (cond t signal None)) ≡ None
idle-still a b true signal no_start no_end none = (λ i. cond (no_start i) (Some Starts) (cond (no_end i) (Some Finishes) (none refl i)))
idle-still a b false signal no_start no_end none = (λ i. cond (no_start i) (Some Starts) (cond (no_end i) (Some Finishes) None))

-- a process that the words block has no turn
module _ {K : Type 0} (n : ℕ) (channels start : List ChannelShown) (ws : List ℕ) (tells : WordsTell n channels ws)
    (wired : (c : ℕ) → c < length channels → (k : ChannelShown) × (slice_get channels c ≡ Some k)) (capacities : (c : ℕ) (k k0 : ChannelShown) → slice_get channels c ≡ Some k → slice_get start c ≡ Some k0 → k.capacity ≡ k0.capacity) where
  pub block-none : (b : BodyValue K) (stage : Stage) (m : ℕ) → b.process.stage ≡ stage → ((i c : ℕ) → slice_get b.process.inputs i ≡ Some (From c) → c < length channels) → ((o c : ℕ) → output_at b.process o ≡ Some c → c < length channels)
      → ((c : ℕ) → b.process.signal ≡ Some c → c < length channels) → WordsBlock n start ws b stage → event_from (looks_of channels) b.process m ≡ None
  block-none b stages.Idle m at ins outs signals blocks = ap (stage_event (looks_of channels) b.process m) at ∙ by blocks
    where
      ls : List Look
      ls = looks_of channels

      -- one whose stream inputs are empty holds no packet there
      none : AreStreamsEmpty n ws b → list_any (has_packet ls) b.process.inputs ≡ false
      none empty = none-held channels b.process.inputs (λ i d is. (let kd = wired d (ins i d is) in let e = empty i d is in let t = tells d kd.0 kd.1 in (kd.0, kd.1, omega (arith, e, t.0))))

      unwoken : AreStreamsEmpty n ws b → HasWorked b.process → is_woken ls b.process ≡ false
      unwoken empty (inl some_one) = (λ i. none empty i || (not (some_one i) && not b.process.has_run))
      unwoken empty (inr run) = ap (λ t. t || (not (list_any is_connected b.process.inputs) && not b.process.has_run)) (none empty) ∙ and-false (not (list_any is_connected b.process.inputs)) (not b.process.has_run) (ap not run)

      cannot : is_woken ls b.process ≡ false → can_start ls b.process ≡ false
      cannot asleep = and-false (is_released ls b.process) (is_woken ls b.process) asleep

      -- no packet comes at an automatic input that is empty
      no-signal : (c : ℕ) → b.process.signal ≡ Some c → IsEmptyAt n ws c → signal_event ls b.process.signal ≡ None
      no-signal c signal empty =
          let k = wired c (signals c signal) in
          let t = tells c k.0 k.1 in
          ap (signal_event ls) signal ∙ ap (signalled_from c) (look-of channels c k.0 k.1) ∙ ap (signalled_by c) (no-packets k.0.packets (omega (arith, t.0, empty)))

      goes-on : (c : ℕ) → b.process.signal ≡ Some c → IsOpenAt n ws c → signal_over ls b.process.signal ≡ false
      goes-on c signal opened =
          let k = wired c (signals c signal) in
          let t = tells c k.0 k.1 in
          ap (signal_over ls) signal ∙ ap (passes is_over) (look-of channels c k.0 k.1) ∙ not-over k.0 (omega (arith, t.1, opened))

      by : BlockSignal n ws b ⊎ BlockStreams n ws b → idle_event ls b.process ≡ None
      by (inl (c, signal, empty, opened, why)) =
          idle-still (can_start ls b.process) (can_finish ls b.process) (takes_signal ls b.process) (signal_event ls b.process.signal) (held why)
          (and-false (list_all (has_ended ls) b.process.inputs) (signal_over ls b.process.signal) (goes-on c signal opened)) (λ takes. no-signal c signal empty)
        where
          held : (b.process.signalled ≡ false) ⊎ (AreStreamsEmpty n ws b × HasWorked b.process) → can_start ls b.process ≡ false
          held (inl unsignalled) = ap (λ t. t && is_woken ls b.process) (let r : is_released ls b.process ≡ false = (λ i. unsignalled i || goes-on c signal opened i) in r)
          held (inr (streams, worked)) = cannot (unwoken streams worked)
      by (inr (streams, (i, c, is, opened), signal)) =
          let k = wired c (ins i c is) in
          let opens : 0 < k.0.open_senders = (let t = tells c k.0 k.1 in omega (arith, t.1, opened)) in
          let left = some-open channels b.process.inputs i c k.0 is k.1 opens in
          idle-still (can_start ls b.process) (can_finish ls b.process) (takes_signal ls b.process) (signal_event ls b.process.signal) (cannot (unwoken streams (inl (some-connected b.process.inputs i c is))))
          (ap (λ t. t && signal_over ls b.process.signal) left) (λ takes. nothing left takes signal b.process.signal refl)
        where
          nothing : list_all (has_ended ls) b.process.inputs ≡ false → takes_signal ls b.process ≡ true → (b.process.signalled ≡ true) ⊎ ((e : ℕ) → b.process.signal ≡ Some e → IsEmptyAt n ws e) → (found : Option ℕ) → b.process.signal ≡ found
              → signal_event ls b.process.signal ≡ None
          nothing left takes (inl signalled) found at =
              absurd (let h : false ≡ true = sym (λ i. not (signalled i) || (left i && (list_any is_connected b.process.inputs || b.process.has_run))) ∙ takes in cc)
          nothing left takes (inr empties) None at = ap (signal_event ls) at
          nothing left takes (inr empties) (Some e) at = no-signal e at (empties e at)
  block-none b (stages.Wishing (wishes.Receive port)) m at ins outs signals (c, is, empty, some_sender) =
      let k = wired c (ins port.0 c is) in
      let t = tells c k.0 k.1 in
      let none = no-packets k.0.packets (omega (arith, t.0, empty)) in
      let z : nat_eq k.0.open_senders 0 ≡ false = (let some_one : 0 < k.0.open_senders = omega (arith, t.1, some_sender) in grind (arith, nat_tests)) in
      ap (stage_event (looks_of channels) b.process m) at ∙ ap (receive_event (looks_of channels) b.process port.0) is ∙ ap (received_from port.0 c) (look-of channels c k.0 k.1)
      ∙ ap (λ (ps : List Tree). received port.0 c ps k.0.open_senders) none ∙ ap (λ e. cond e (Some (Hears_end port.0)) None) z
  block-none b (stages.Wishing (wishes.Send port id)) m at ins outs signals (c, k0, is, there, full) =
      let k = wired c (outs port.0 c is) in
      let t = tells c k.0 k.1 in
      let cap = capacities c k.0 k0 k.1 there in
      let z : nat_lt (length k.0.packets) k.0.capacity ≡ false = (let le : k.0.capacity ≤ length k.0.packets = omega (arith, t.0, cap, full) in grind (arith, nat_tests)) in
      ap (stage_event (looks_of channels) b.process m) at ∙ ap (option_and_then (λ d. sent port.0 d (packet_at b.process.held.packets id) (slice_get (looks_of channels) d))) is
      ∙ ap (sent port.0 c (packet_at b.process.held.packets id)) (look-of channels c k.0 k.1) ∙ no-room (packet_at b.process.held.packets id) port.0 c k.0 z
    where
      no-room : (found : Option Tree) (port c : ℕ) (k : ChannelShown) → nat_lt (length k.packets) k.capacity ≡ false → sent port c found (Some (look_shown k)) ≡ None
      no-room None port c k z = refl
      no-room (Some packet) port c k z = ap (λ e. cond e (Some (Sends port c packet)) None) z
  block-none b (stages.Wishing (wishes.Level port)) m at ins outs signals never = absurd never
  block-none b (stages.Wishing wishes.Deactivate) m at ins outs signals never = absurd never
  block-none b (stages.Told answer) m at ins outs signals never = absurd never
  block-none b (stages.Closing i) m at ins outs signals never = absurd never
  block-none b stages.Ended m at ins outs signals never = absurd never
  block-none b (stages.Failed cause) m at ins outs signals never = absurd never
