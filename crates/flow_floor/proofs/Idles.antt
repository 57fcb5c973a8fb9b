-- The turns of an idle process, by what was seen at its inputs.
use Rattle.std.proofs.Common.{◌≡◌, ◌+◌, ◌≤◌, Option, ℕ, zero, suc, ◌<◌, Bool, true, false, cond, List, [], ◌∷◌, length, refl, ap, sym, subst, ◌∙◌, arith, Some, None, slice_get, ◌⊎◌, inl, inr, nat_eq}
use Rattle.std.specs.Prelude.{◌&&◌, ◌||◌, not, slice_index}
use Rattle.std.proofs.lemmas.Option.{get_or_from_slice_get}
use Rattle.flow_machine.proofs.Standings.{get-map}
use Rattle.std.specs.List.{list_any, list_all}
use Rattle.std.proofs.lemmas.Bool.Decides.{nat_tests}
use Rattle.flow_packet.specs.Tree.{Tree}
use Rattle.flow_component.specs.declared.Port.{Port}
use Rattle.flow_component.specs.declared.Wish.TheVariants as wishes
use Rattle.flow_model.specs.declared.Stage.TheVariants as stages
use Rattle.flow_model.specs.States.{Input, From, Text, Process, output_at}
use Rattle.flow_model.specs.Events.{Starts, Finishes, Signals, stage_event, idle_event, rest_event, signal_event, signalled_from, signalled_by, takes_signal, signal_over, is_released, is_woken, can_start, can_finish, has_packet, has_ended, is_connected, passes, holds_packet, is_over, is_empty}
use Rattle.flow_model.specs.Events.{Look as Seen}
use Rattle.flow_model.specs.Stages.{IsThoughtStage}
use Rattle.flow_model.specs.Stands.{ChannelShown}
use Rattle.flow_machine.specs.Inlets.{signal_input}
use Rattle.flow_machine.specs.Values.{BodyValue, NetValue}
use Rattle.flow_machine.specs.Nets.{looks_of, SendsAt}
use Rattle.flow_floor.specs.declared.board.Look.{Look}
use Rattle.flow_floor.specs.declared.floor.Idling.TheVariants as idling
use Rattle.flow_floor.specs.Law.{IsOver, AllSeen}
use Rattle.flow_floor.specs.Wired.{IsInput, IsWiredIn}
use Rattle.flow_floor.specs.Ends.{capacities_of}
use Rattle.flow_floor.specs.Midway.{drawn_at}
use Rattle.flow_floor.specs.Turning.{Happens}
use Rattle.flow_floor.specs.Waking.{WordsBlock, BlockSignal, BlockStreams, IsEmptyAt, IsOpenAt, HasWorked, StillBlocks, AllBlock}
use Rattle.flow_ring.specs.Words.{level_in, senders_in}
use Rattle.flow_floor.specs.Looks.{InSeen, IsLook, SawPacket, SawNone, SawOver, SawOne, AllSaw, SawEnd, SawReleased, WaitsAlone, Watches, IsDormant, Idles, FirstOpen}
use Rattle.flow_floor.specs.Workers.{SeenBlocks}
use Rattle.flow_floor.proofs.Lists.{some_Some, get-exists, get-within}
use Rattle.flow_floor.proofs.Blocks.{look-of, no-packets, none-held, and-false}
use Rattle.flow_floor.proofs.Turnings.{seen-in}

block-in : {K : Type 0} (n : ℕ) (channels : List ChannelShown) (ws : List ℕ) (b : BodyValue K) (seen : List Look) (is : Look → Type 0) → AllBlock n channels ws b seen → InSeen is seen → (look : Look) × is look × StillBlocks n channels ws b look
block-in n channels ws b [] is all there = absurd there
block-in n channels ws b (look ∷ seen) is all (inl here) = (look, here, all.0)
block-in n channels ws b (look ∷ seen) is all (inr there) = block-in n channels ws b seen is all.1 there

-- an input that holds a packet
some-held : (channels : List ChannelShown) (xs : List Input) (i c : ℕ) (k : ChannelShown) → slice_get xs i ≡ Some (From c) → slice_get channels c ≡ Some k → 0 < length k.packets → list_any (has_packet (looks_of channels)) xs ≡ true
some-held channels [] i c k is at some_packet = absurd (cc)
some-held channels (x ∷ xs) zero c k is at some_packet =
    let same : x ≡ From c = some_Some x (From c) is in
    let here : has_packet (looks_of channels) x ≡ true = ap (has_packet (looks_of channels)) same ∙ ap (passes holds_packet) (look-of channels c k at) ∙ holds k.packets some_packet in
    ap (λ b. b || list_any (has_packet (looks_of channels)) xs) here
  where
    holds : (ps : List Tree) → 0 < length ps → not (is_empty ps) ≡ true
    holds [] lt = absurd (omega (arith, lt))
    holds (p ∷ ps) lt = refl
some-held channels (x ∷ xs) (suc i) c k is at some_packet = ap (λ b. has_packet (looks_of channels) x || b) (some-held channels xs i c k is at some_packet) ∙ or-true (has_packet (looks_of channels) x)
  where
    or-true : (b : Bool) → (b || true) ≡ true
    or-true true = refl
    or-true false = refl

-- a connection that is over, as it is seen
over-is : (channels : List ChannelShown) (c : ℕ) (k : ChannelShown) → slice_get channels c ≡ Some k → IsOver k → passes is_over (slice_get (looks_of channels) c) ≡ true
over-is channels c k at over =
    let z : nat_eq k.open_senders 0 ≡ true = (let e = over.1 in grind (arith, nat_tests)) in
    ap (passes is_over) (look-of channels c k at) ∙ ap (λ (ps : List Tree). is_empty ps && nat_eq k.open_senders 0) (no-packets k.packets over.0) ∙ z

-- inputs that are all over
all-over : (channels : List ChannelShown) (xs : List Input) → ((i c : ℕ) → slice_get xs i ≡ Some (From c) → (k : ChannelShown) × (slice_get channels c ≡ Some k) × IsOver k) → list_all (has_ended (looks_of channels)) xs ≡ true
all-over channels [] over = refl
all-over channels (Text text ∷ xs) over = all-over channels xs (λ i c is. over (suc i) c is)
all-over channels (From d ∷ xs) over =
    let k = over 0 d refl in
    ap (λ b. b && list_all (has_ended (looks_of channels)) xs) (over-is channels d k.0 k.1 k.2) ∙ all-over channels xs (λ i c is. over (suc i) c is)

-- What stands at an automatic input is its connection.
pub signal-at : (signal : Option ℕ) (i c : ℕ) → slice_get (signal_input signal) i ≡ Some (From c) → signal ≡ Some c
signal-at None i c is = absurd (cc)
signal-at (Some d) zero c is = let same : d ≡ c = cc in ap (λ (n : ℕ). let r : Option ℕ = Some n in r) same
signal-at (Some d) (suc i) c is = absurd (cc)

-- an automatic input that was looked at
saw-signal : (is : ℕ → Look → Type 0) (signal : Option ℕ) (c : ℕ) (seen : List Look) → signal ≡ Some c → AllSaw is (length (signal_input signal)) (signal_input signal) seen → InSeen (is c) seen
saw-signal is signal c seen at all =
    let one : 0 < length (signal_input signal) = subst (λ (s : Option ℕ). 0 < length (signal_input s)) (sym at) (let l : 0 < 1 = omega arith in l) in
    all 0 c one (ap (λ (s : Option ℕ). slice_get (signal_input s) 0) at)

or-true : (a b : Bool) → b ≡ true → (a || b) ≡ true
or-true true b is = refl
or-true false b is = is

-- What was seen at the inputs of an idle process, and is so.
module _ {K : Type 0} (n m p since : ℕ) (d : BodyValue K) (seen : List Look) (wired : IsWiredIn m d) (now : NetValue K) (len : length now.channels ≡ m) (all : AllSeen n now (Some (p, d)) seen) where
  abbrev ls : List Seen
  ls = looks_of now.channels

  abbrev x : Process K
  x = d.process

  channel-of : (c : ℕ) → IsInput d c → (k : ChannelShown) × (slice_get now.channels c ≡ Some k)
  channel-of c (inl i) = get-exists now.channels c (subst (λ (l : ℕ). c < l) (sym len) (wired.inputs i.0 c i.1))
  channel-of c (inr z) = get-exists now.channels c (subst (λ (l : ℕ). c < l) (sym len) (wired.signal c z))

  over-there : (xs : List Input) → ((i c : ℕ) → slice_get xs i ≡ Some (From c) → IsInput d c) → SawEnd n since xs seen → (i c : ℕ) → slice_get xs i ≡ Some (From c) → (k : ChannelShown) × (slice_get now.channels c ≡ Some k) × IsOver k
  over-there xs input saw i c is =
      let k = channel-of c (input i c is) in
      let s = seen-in n now (p, d) seen (SawOver n since c) all (saw i c (get-within xs i (From c) is) is) in
      (k.0, k.1, (s.2 c k.0 s.1.0 k.1 (input i c is)).1 s.1.1 s.1.2)

  streams-over : SawEnd n since x.inputs seen → list_all (has_ended ls) x.inputs ≡ true
  streams-over saw = all-over now.channels x.inputs (over-there x.inputs (λ i c is. inl (i, is)) saw)

  streams-empty : SawEnd n since x.inputs seen → list_any (has_packet ls) x.inputs ≡ false
  streams-empty saw = none-held now.channels x.inputs (λ i c is. (let o = over-there x.inputs (λ j e at. inl (j, at)) saw i c is in (o.0, o.1, o.2.0)))

  signal-over : SawEnd n since (signal_input x.signal) seen → signal_over ls x.signal ≡ true
  signal-over saw = by x.signal refl
    where
      by : (found : Option ℕ) → x.signal ≡ found → signal_over ls x.signal ≡ true
      by None is = ap (signal_over ls) is
      by (Some c) is =
          let o = over-there (signal_input x.signal) (λ i e at. inr (signal-at x.signal i e at)) saw 0 c (ap (λ (s : Option ℕ). slice_get (signal_input s) 0) is) in
          ap (signal_over ls) is ∙ over-is now.channels c o.0 o.1 o.2

  released-now : SawReleased n since x seen → is_released ls x ≡ true
  released-now (inl signalled) = ap (λ b. b || signal_over ls x.signal) signalled
  released-now (inr saw) = or-true x.signalled (signal_over ls x.signal) (signal-over saw)

  -- one that has worked and sees no packet isn't woken
  unwoken : list_any (has_packet ls) x.inputs ≡ false → HasWorked x → is_woken ls x ≡ false
  unwoken none worked = ap (λ b. b || (not (list_any is_connected x.inputs) && not x.has_run)) none ∙ by worked
    where
      by : HasWorked x → (not (list_any is_connected x.inputs) && not x.has_run) ≡ false
      by (inl some_one) = ap (λ b. not b && not x.has_run) some_one
      by (inr run) = and-false (not (list_any is_connected x.inputs)) (not x.has_run) (ap not run)

  cannot-start : is_woken ls x ≡ false → can_start ls x ≡ false
  cannot-start none = and-false (is_released ls x) (is_woken ls x) none

  starts-now : SawReleased n since x seen → SawOne (SawPacket n since) x.inputs seen ⊎ ((list_any is_connected x.inputs ≡ false) × (x.has_run ≡ false)) → can_start ls x ≡ true
  starts-now released why = (λ i. released-now released i && woken why i)
    where
      woken : SawOne (SawPacket n since) x.inputs seen ⊎ ((list_any is_connected x.inputs ≡ false) × (x.has_run ≡ false)) → is_woken ls x ≡ true
      woken (inl (i, c, is, there)) =
          let k = channel-of c (inl (i, is)) in
          let s = seen-in n now (p, d) seen (SawPacket n since c) all there in
          let full = (s.2 c k.0 s.1.0 k.1 (inl (i, is))).0 s.1.1 in
          ap (λ b. b || (not (list_any is_connected x.inputs) && not x.has_run)) (some-held now.channels x.inputs i c k.0 is k.1 full)
      woken (inr (none, unrun)) = or-true (list_any (has_packet ls) x.inputs) (not (list_any is_connected x.inputs) && not x.has_run) (λ i. not (none i) && not (unrun i))

  -- what an idle process does that takes a packet from its automatic input
  signals-now : (c : ℕ) (k : ChannelShown) (packet : Tree) (rest : List Tree) → x.signal ≡ Some c → slice_get now.channels c ≡ Some k → k.packets ≡ packet ∷ rest → WaitsAlone n since x seen
      → idle_event ls x ≡ Some (Signals c packet)
  signals-now c k packet rest signal at has alone =
      let goes_on : signal_over ls x.signal ≡ false = ap (signal_over ls) signal ∙ ap (passes is_over) (look-of now.channels c k at) ∙ ap (λ (ps : List Tree). is_empty ps && nat_eq k.open_senders 0) has in
      let may = both goes_on alone in
      ap (λ b. cond b (Some Starts) (cond (can_finish ls x) (Some Finishes) (rest_event ls x))) may.0
      ∙ ap (λ b. cond b (Some Finishes) (rest_event ls x)) (and-false (list_all (has_ended ls) x.inputs) (signal_over ls x.signal) goes_on)
      ∙ ap (λ b. cond b (signal_event ls x.signal) None) may.1
      ∙ ap (signal_event ls) signal ∙ ap (signalled_from c) (look-of now.channels c k at) ∙ ap (signalled_by c) has
    where
      both : signal_over ls x.signal ≡ false → WaitsAlone n since x seen → (can_start ls x ≡ false) × (takes_signal ls x ≡ true)
      both goes_on (inl unsignalled) = (
        ap (λ b. b && is_woken ls x) (let unreleased : is_released ls x ≡ false = (λ i. unsignalled i || goes_on i) in unreleased),
        ap (λ b. not b || (list_all (has_ended ls) x.inputs && (list_any is_connected x.inputs || x.has_run))) unsignalled,
      )
      both goes_on (inr (saw, worked)) = (
        cannot-start (unwoken (streams-empty saw) worked),
        or-true (not x.signalled) (list_all (has_ended ls) x.inputs && (list_any is_connected x.inputs || x.has_run))
            (ap (λ b. b && (list_any is_connected x.inputs || x.has_run)) (streams-over saw) ∙ run worked),
      )
        where
          run : HasWorked x → (list_any is_connected x.inputs || x.has_run) ≡ true
          run (inl some_one) = ap (λ b. b || x.has_run) some_one
          run (inr ran) = or-true (list_any is_connected x.inputs) x.has_run ran

module _ {K : Type 0} (fits : NetValue K → Type 0) (n m p since : ℕ) (d : BodyValue K) (seen : List Look) (wired : IsWiredIn m d) (idle : d.process.stage ≡ stages.Idle) where
  -- It starts where it is released, and something wakes it.
  pub starts-seen : Idles n since d.process seen idling.Start → Happens fits n m p d None None seen Starts
  starts-seen saw now fit at sends_in draws_in all len =
      let ls = looks_of now.channels in
      (0, ap (stage_event ls d.process 0) idle ∙ ap (λ b. cond b (Some Starts) (cond (can_finish ls d.process) (Some Finishes) (rest_event ls d.process))) (starts-now n m p since d seen wired now len all saw.0 saw.1))

  -- It goes to its end where all its inputs were seen over.
  pub finishes-seen : Idles n since d.process seen idling.Finish → Happens fits n m p d None None seen Finishes
  finishes-seen saw now fit at sends_in draws_in all len =
      let ls = looks_of now.channels in
      let cannot = cannot-start n m p since d seen wired now len all (unwoken n m p since d seen wired now len all (streams-empty n m p since d seen wired now len all saw.0) saw.2) in
      let over = streams-over n m p since d seen wired now len all saw.0 in
      let none = signal-over n m p since d seen wired now len all saw.1 in
      let can : can_finish ls d.process ≡ true = (λ i. over i && none i) in
      (0, ap (stage_event ls d.process 0) idle ∙ ap (λ b. cond b (Some Starts) (cond (can_finish ls d.process) (Some Finishes) (rest_event ls d.process))) cannot ∙ ap (λ b. cond b (Some Finishes) (rest_event ls d.process)) can)

  -- It takes the packet that its worker drew at its automatic input.
  pub signals-seen : (c : ℕ) (packet : Tree) → Idles n since d.process seen (idling.Signal c packet) → Happens fits n m p d None (Some (drawn_at c packet)) seen (Signals c packet)
  signals-seen c packet (signal, alone) now fit at sends_in (k, there, (others, are)) all len =
      (0, ap (stage_event (looks_of now.channels) d.process 0) idle ∙ signals-now n m p since d seen wired now len all c k packet others signal there are alone)

-- What was seen blocks a dormant process, as long as the words still do.
module _ {K : Type 0} (start : NetValue K) (d : BodyValue K) (seen : List Look) (since : ℕ) (ws : List ℕ) (all : AllBlock (length start.bodies) start.channels ws d seen) where
  abbrev P : ℕ
  P = length start.bodies

  empty-by : (c r : ℕ) (look : Look) → look.word ≡ P + c → look.read ≡ r → level_in r ≡ 0 → StillBlocks P start.channels ws d look → IsInput d c → IsEmptyAt P ws c
  empty-by c r look word read none still input = ((still c word).0 input).0 (ap level_in read ∙ none)

  open-by : (c r : ℕ) (look : Look) → look.word ≡ P + c → look.read ≡ r → 0 < senders_in r → StillBlocks P start.channels ws d look → IsInput d c → IsOpenAt P ws c
  open-by c r look word read opened still input = ((still c word).0 input).1 (subst (λ (m : ℕ). 0 < senders_in m) (sym read) opened)

  none-at : (c : ℕ) → IsInput d c → InSeen (SawNone P since c) seen → IsEmptyAt P ws c
  none-at c input there = let s = block-in P start.channels ws d seen (SawNone P since c) all there in empty-by c s.0.read s.0 s.1.0 refl s.1.1 s.2 input

  over-at : (c : ℕ) → IsInput d c → InSeen (SawOver P since c) seen → IsEmptyAt P ws c
  over-at c input there = let s = block-in P start.channels ws d seen (SawOver P since c) all there in empty-by c s.0.read s.0 s.1.0 refl s.1.1 s.2 input

  opened-at : (c w : ℕ) → IsInput d c → InSeen (IsLook P since c w) seen → 0 < senders_in w → IsOpenAt P ws c
  opened-at c w input there opened = let s = block-in P start.channels ws d seen (IsLook P since c w) all there in open-by c w s.0 s.1.0 s.1.1 opened s.2 input

  first-none : (c w : ℕ) → IsInput d c → InSeen (IsLook P since c w) seen → level_in w ≡ 0 → IsEmptyAt P ws c
  first-none c w input there none = let s = block-in P start.channels ws d seen (IsLook P since c w) all there in empty-by c w s.0 s.1.0 s.1.1 none s.2 input

  dormant-words : (w : ℕ) → IsDormant P since d.process seen w → BlockSignal P ws d ⊎ BlockStreams P ws d
  dormant-words w dormant = by dormant.watches
    where
      first : FirstOpen P since dormant.inputs seen w
      first = dormant.first

      by : Watches P since d.process seen dormant.inputs → BlockSignal P ws d ⊎ BlockStreams P ws d
      by (inl (are, alone)) =
          let signal = signal-at d.process.signal first.input first.connection (ap (λ (xs : List Input). slice_get xs first.input) (sym are) ∙ first.at) in
          inl (
            first.connection,
            signal,
            first-none first.connection w (inr signal) first.look first.none_in,
            opened-at first.connection w (inr signal) first.look first.opened,
            elim alone [
              | inl unsignalled ↦ inl unsignalled
              | inr over ↦ inr (λ i c at. over-at c (inl (i, at)) (over.0 i c (get-within d.process.inputs i (From c) at) at), over.1)
            ],
          )
      by (inr (are, released)) =
          let at = ap (λ (xs : List Input). slice_get xs first.input) (sym are) ∙ first.at in
          inr (
            λ i c is. none-at c (inl (i, is)) (dormant.none_in i c (subst (λ (xs : List Input). i < length xs) (sym are) (get-within d.process.inputs i (From c) is)) (ap (λ (xs : List Input). slice_get xs i) are ∙ is)),
            (first.input, first.connection, at, opened-at first.connection w (inl (first.input, at)) first.look first.opened),
            elim released [
              | inl signalled ↦ inl signalled
              | inr over ↦ inr (λ c signal. over-at c (inr signal) (saw-signal (SawOver P since) d.process.signal c seen signal over))
            ],
          )

-- What was seen blocks an idle process that is dormant.
pub dormant-there : {K : Type 0} (start : NetValue K) (d : BodyValue K) (seen : List Look) (n since w : ℕ) → length start.bodies ≡ n → d.process.stage ≡ stages.Idle → IsDormant n since d.process seen w → SeenBlocks start d seen
dormant-there start d seen n since w is idle dormant = (
  subst IsThoughtStage (sym idle) tt,
  λ ws all. subst (WordsBlock (length start.bodies) start.channels ws d) (sym idle) (dormant-words start d seen since ws all w (subst (λ (m : ℕ). IsDormant m since d.process seen w) (sym is) dormant)),
)

-- what was seen blocks a process that wishes to receive
pub empty-seen : {K : Type 0} (start : NetValue K) (d : BodyValue K) (seen : List Look) (n since c w : ℕ) (port : Port) → length start.bodies ≡ n → d.process.stage ≡ stages.Wishing (wishes.Receive port) → slice_get d.process.inputs port.0 ≡ Some (From c)
    → InSeen (IsLook n since c w) seen → level_in w ≡ 0 → 0 < senders_in w → SeenBlocks start d seen
empty-seen start d seen n since c w port size stage is there none_in opened = (
  subst IsThoughtStage (sym stage) tt,
  λ ws all. subst (WordsBlock (length start.bodies) start.channels ws d) (sym stage)
      (let s = block-in (length start.bodies) start.channels ws d seen (IsLook n since c w) all there in
      let b = (s.2 c (s.1.0 ∙ ap (λ m. m + c) (sym size))).0 (inl (port.0, is)) in (c, is, b.0 (ap level_in s.1.1 ∙ none_in), b.1 (subst (λ m. 0 < senders_in m) (sym s.1.1) opened))),
)

-- the capacity of a connection, among those of all
capacity-is : {K : Type 0} (start : NetValue K) (c : ℕ) (k : ChannelShown) → slice_get start.channels c ≡ Some k → slice_index (capacities_of start) c ≡ k.capacity
capacity-is start c k at = get_or_from_slice_get (capacities_of start) c k.capacity 0 (get-map (λ (x : ChannelShown). x.capacity) start.channels c k at)

-- what was seen blocks a process that wishes to send
pub full-seen : {K : Type 0} (start : NetValue K) (d : BodyValue K) (seen : List Look) (n since c w : ℕ) (port : Port) → length start.bodies ≡ n → c < length start.channels → SendsAt d.process.stage port → output_at d.process port.0 ≡ Some c
    → InSeen (IsLook n since c w) seen → slice_index (capacities_of start) c ≤ level_in w → SeenBlocks start d seen
full-seen start d seen n since c w port size below stage is there full = (
  subst IsThoughtStage (sym stage.1) tt,
  λ ws all. subst (WordsBlock (length start.bodies) start.channels ws d) (sym stage.1)
      (let s = block-in (length start.bodies) start.channels ws d seen (IsLook n since c w) all there in
      let k = get-exists start.channels c below in
      let most = capacity-is start c k.0 k.1 in
      (c, k.0, is, k.1, (s.2 c (s.1.0 ∙ ap (λ m. m + c) (sym size))).1 (port.0, is) k.0 k.1 (omega (arith, ap level_in s.1.1, full, most)))),
)
