-- What is at the inputs of a process: nothing that will come any more, or something that waits; and how a turn changes that.
use Rattle.std.proofs.Common.{◌≡◌, ◌≢◌, ℕ, Bool, true, false, List, [], ◌∷◌, ◌++◌, length, map, not, Option, Some, None, refl, sym, ap, ◌∙◌, subst, cond, nat_eq, arith, inl, inr, slice_get, slice_set, ◌||◌, ◌&&◌, zero, suc, ◌<◌}
use Rattle.std.specs.Prelude.{option_and_then, unwrap_or}
use Rattle.std.specs.List.{list_any, list_all}
use Rattle.std.proofs.lemmas.Bool.Decides.{nat_tests}
use Rattle.flow_packet.specs.Tree.{Tree}
use Rattle.flow_model.specs.declared.Stage.{Stage}
use Rattle.flow_model.specs.States.{Input, From, Text, Process, Channel, Kept, without_sender, change_at, changed}
use Rattle.flow_plan.specs.declared.plan.Sender.{Sender}
use Rattle.flow_model.specs.Events.{Event, Starts, Finishes, Gets, Takes_text, Hears_end, Sends, Closes, Signals, Look, looks, event_of, stage_event, idle_event, receive_event, received_from, received, is_fresh, is_connected, has_packet, has_ended, can_start, can_finish, is_woken, is_released, signal_over, takes_signal, signalled_by, signalled_from, signal_event, passes, holds_packet, is_empty, is_over}
use Rattle.flow_model.specs.Turns.{channel_after, channels_after, Added, Closed, Change, Taken, change_of}
use Rattle.flow_model.specs.Stages.{HasToClose}
use Rattle.flow_model.specs.Valid.{SendersOpen}
use Rattle.flow_model.specs.Runs.{NoneConnected}
use Rattle.flow_model.proofs.Lists.{slice_get-set_same, slice_get-set_other, same_or_not, change_at-some}
use Rattle.flow_model.proofs.Inverse.{explains, seen-there, SendsTo, ExplainsChange, explains-change}
use Rattle.flow_model.proofs.Blocks.{outlet-of}
use Rattle.flow_model.proofs.Changes.{goes-one}
use Rattle.flow_model.proofs.Senders.{length-without_sender}
use Rattle.flow_model.proofs.Stages.{same-found}

-- The connection is empty without open sender.
pub record IsDry (channels : List Channel) (c : ℕ) : Type 0 where
  pub channel : Channel
  pub there : slice_get channels c ≡ Some channel
  pub empty : channel.packets ≡ []
  pub closed : channel.open_senders ≡ []

-- The connection holds a packet.
pub record HoldsSome (channels : List Channel) (c : ℕ) : Type 0 where
  pub channel : Channel
  pub there : slice_get channels c ≡ Some channel
  pub packet : Tree
  pub rest : List Tree
  pub packets : channel.packets ≡ packet ∷ rest

-- Nothing will come at this input: its connection is dry, or its text was taken.
pub data Exhausted {K : Type 0} (channels : List Channel) (x : Process K) (port : ℕ) : Type 0 where
  dry : (c : ℕ) → slice_get x.inputs port ≡ Some (From c) → IsDry channels c → Exhausted channels x port
  taken : (text : List ℕ) → slice_get x.inputs port ≡ Some (Text text) → is_fresh x port ≡ false → Exhausted channels x port

-- Something waits at this input: its connection holds a packet, or its text is fresh.
pub data Waits {K : Type 0} (channels : List Channel) (x : Process K) (port : ℕ) : Type 0 where
  packet_waits : (c : ℕ) → slice_get x.inputs port ≡ Some (From c) → HoldsSome channels c → Waits channels x port
  text_waits : (text : List ℕ) → slice_get x.inputs port ≡ Some (Text text) → is_fresh x port ≡ true → Waits channels x port

-- Both can't be.
pub not-both : {K : Type 0} (channels : List Channel) (x : Process K) (port : ℕ) → Exhausted channels x port → Waits channels x port → ⊥
not-both channels x port (dry c input h) (packet_waits d input' w) =
    let a : Some (From c) ≡ Some (From d) = sym input ∙ input' in
    let same : c ≡ d = cc in
    let b : Some h.channel ≡ Some w.channel = sym h.there ∙ ap (slice_get channels) same ∙ w.there in
    let k : h.channel ≡ w.channel = cc in
    let z : [] ≡ w.packet ∷ w.rest = sym h.empty ∙ ap (λ (ch : Channel). ch.packets) k ∙ w.packets in
    cc
not-both channels x port (dry c input h) (text_waits text input' f) = let a : Some (From c) ≡ Some (Text text) = sym input ∙ input' in cc
not-both channels x port (taken text input f) (packet_waits d input' w) = let a : Some (Text text) ≡ Some (From d) = sym input ∙ input' in cc
not-both channels x port (taken text input f) (text_waits text' input' f') = let a : false ≡ true = sym f ∙ f' in cc

-- What a start, a finish and the end of an input say of the state before.
signal-by : (c : ℕ) (packets : List Tree) (e : Event) → signalled_by c packets ≡ Some e → (packet : Tree) × (e ≡ Signals c packet)
signal-by c (packet ∷ packets) e is = (packet, let h : Signals c packet ≡ e = cc in sym h)
signal-by c [] e is = absurd (cc)

-- what an idle process does that neither starts nor goes to its end is to take a packet from its automatic input
signal-only : (ls : List Look) (signal : Option ℕ) (e : Event) → signal_event ls signal ≡ Some e → (c : ℕ) × (packet : Tree) × (e ≡ Signals c packet)
signal-only ls (Some c) e is = by (slice_get ls c) is
  where
    by : (found : Option Look) → signalled_from c found ≡ Some e → (c : ℕ) × (packet : Tree) × (e ≡ Signals c packet)
    by (Some l) is = let at = signal-by c l.packets e is in (c, at.0, at.1)
    by None is = absurd (cc)
signal-only ls None e is = absurd (cc)

rest-only : (ls : List Look) (signal : Option ℕ) (takes : Bool) (e : Event) → cond takes (signal_event ls signal) None ≡ Some e → (c : ℕ) × (packet : Tree) × (e ≡ Signals c packet)
rest-only ls signal true e is = signal-only ls signal e is
rest-only ls signal false e is = absurd (cc)

idle-starts : (a b : Bool) (ls : List Look) (signal : Option ℕ) (takes : Bool) (e : Event) → cond a (Some Starts) (cond b (Some Finishes) (cond takes (signal_event ls signal) None)) ≡ Some e
    → (e ≡ Starts → a ≡ true) × (e ≡ Finishes → (a ≡ false) × (b ≡ true))
idle-starts true b ls signal takes e is = ((λ s. refl), (λ f. absurd (let h : Some Starts ≡ Some Finishes = is ∙ ap Some f in cc)))
idle-starts false true ls signal takes e is = ((λ s. absurd (let h : Some Finishes ≡ Some Starts = is ∙ ap Some s in cc)), (λ f. (refl, refl)))
idle-starts false false ls signal takes e is =
    let at = rest-only ls signal takes e is in (
      (λ s. absurd (let h : Signals at.0 at.1 ≡ Starts = sym at.2 ∙ s in cc)),
      (λ f. absurd (let h : Signals at.0 at.1 ≡ Finishes = sym at.2 ∙ f in cc)),
    )

and-both : (a b : Bool) → (a && b) ≡ true → (a ≡ true) × (b ≡ true)
and-both true true is = (refl, refl)
and-both true false is = absurd (cc)
and-both false b is = absurd (cc)

unwoken : (got over woken : Bool) → over ≡ true → ((got || over) && woken) ≡ false → woken ≡ false
unwoken true over woken is none = none
unwoken false over woken is none = let h : (over && woken) ≡ woken = rw is refl in sym h ∙ none

module _ {K : Type 0} (channels : List Channel) (x : Process K) (n : ℕ) where
  -- Where a process starts it is released and has something to do.
  pub starts-can : event_of channels x n ≡ Some Starts → can_start (looks channels) x ≡ true
  starts-can is =
      let at = explains channels x n Starts is in
      let e : idle_event (looks channels) x ≡ Some Starts = subst (λ (stage : Stage). stage_event (looks channels) x n stage ≡ Some Starts) at is in
      (idle-starts (can_start (looks channels) x) (can_finish (looks channels) x) (looks channels) x.signal (takes_signal (looks channels) x) Starts e).0 refl

  pub starts-is_woken : event_of channels x n ≡ Some Starts → is_woken (looks channels) x ≡ true
  starts-is_woken is = (and-both (is_released (looks channels) x) (is_woken (looks channels) x) (starts-can is)).1

  finishes-both : event_of channels x n ≡ Some Finishes → (can_start (looks channels) x ≡ false) × (can_finish (looks channels) x ≡ true)
  finishes-both is =
      let at = explains channels x n Finishes is in
      let e : idle_event (looks channels) x ≡ Some Finishes = subst (λ (stage : Stage). stage_event (looks channels) x n stage ≡ Some Finishes) at is in
      (idle-starts (can_start (looks channels) x) (can_finish (looks channels) x) (looks channels) x.signal (takes_signal (looks channels) x) Finishes e).1 refl

  pub finishes-all : event_of channels x n ≡ Some Finishes → list_all (has_ended (looks channels)) x.inputs ≡ true
  finishes-all is = (and-both (list_all (has_ended (looks channels)) x.inputs) (signal_over (looks channels) x.signal) (finishes-both is).1).0

  -- Where a process goes to its end nothing comes at its automatic input any more.
  pub finishes-signal : event_of channels x n ≡ Some Finishes → signal_over (looks channels) x.signal ≡ true
  finishes-signal is = (and-both (list_all (has_ended (looks channels)) x.inputs) (signal_over (looks channels) x.signal) (finishes-both is).1).1

  -- A process that goes to its end has nothing to do.
  pub finishes-cannot : event_of channels x n ≡ Some Finishes → is_woken (looks channels) x ≡ false
  finishes-cannot is = unwoken x.signalled (signal_over (looks channels) x.signal) (is_woken (looks channels) x) (finishes-signal is) (finishes-both is).0

  hears-in : (port c : ℕ) (channel : Channel) → slice_get x.inputs port ≡ Some (From c) → slice_get channels c ≡ Some channel → (packets : List Tree) (senders : List Sender) → channel.packets ≡ packets → channel.open_senders ≡ senders
      → received port c packets (length senders) ≡ Some (Hears_end port) → Exhausted channels x port
  hears-in port c channel input there (packet ∷ packets) senders has closed is = absurd (cc)
  hears-in port c channel input there [] [] has closed is = dry c input (record { channel = channel; there = there; empty = has; closed = closed })
  hears-in port c channel input there [] (sender ∷ senders) has closed is =
      absurd (let z : nat_eq (length (sender ∷ senders)) 0 ≡ false = grind (arith, nat_tests) in let h : None ≡ Some (Hears_end port) = rw z at is in cc)

  hears-from : (port c : ℕ) → slice_get x.inputs port ≡ Some (From c) → (found : Option Look) → slice_get (looks channels) c ≡ found → received_from port c found ≡ Some (Hears_end port) → Exhausted channels x port
  hears-from port c input (Some l) there is =
      let seen = seen-there channels c l there in
      let is' : received port c seen.0.packets (length seen.0.open_senders) ≡ Some (Hears_end port) = ap (λ (m : Look). received port c m.packets m.open_senders) seen.2 ∙ is in
      hears-in port c seen.0 input seen.1 seen.0.packets seen.0.open_senders refl refl is'
  hears-from port c input None there is = absurd (cc)

  hears-text : (port : ℕ) (text : List ℕ) → slice_get x.inputs port ≡ Some (Text text) → (b : Bool) → is_fresh x port ≡ b → cond b (Some (Takes_text port text)) (Some (Hears_end port)) ≡ Some (Hears_end port) → Exhausted channels x port
  hears-text port text input true fresh is = absurd (cc)
  hears-text port text input false fresh is = taken text input fresh

  hears-at : (port : ℕ) (found : Option Input) → slice_get x.inputs port ≡ found → receive_event (looks channels) x port found ≡ Some (Hears_end port) → Exhausted channels x port
  hears-at port (Some (From c)) input is = hears-from port c input (slice_get (looks channels) c) refl is
  hears-at port (Some (Text text)) input is = hears-text port text input (is_fresh x port) refl is
  hears-at port None input is = absurd (cc)

  pub hears-exhausted : (port : ℕ) → event_of channels x n ≡ Some (Hears_end port) → Exhausted channels x port
  hears-exhausted port is =
      let at = explains channels x n (Hears_end port) is in
      let e : receive_event (looks channels) x at.wished.0 (slice_get x.inputs at.wished.0) ≡ Some (Hears_end port) = subst (λ (stage : Stage). stage_event (looks channels) x n stage ≡ Some (Hears_end port)) at.stage is in
      hears-at port (slice_get x.inputs port) refl (subst (λ (i : ℕ). receive_event (looks channels) x i (slice_get x.inputs i) ≡ Some (Hears_end port)) at.names e)

over-dry : (channels : List Channel) (c : ℕ) (channel : Channel) → slice_get channels c ≡ Some channel → (packets : List Tree) (senders : List Sender) → channel.packets ≡ packets → channel.open_senders ≡ senders
    → (is_empty packets && nat_eq (length senders) 0) ≡ true → IsDry channels c
over-dry channels c channel there [] [] has closed is = record { channel = channel; there = there; empty = has; closed = closed }
over-dry channels c channel there [] (sender ∷ senders) has closed is = absurd (let z : nat_eq (length (sender ∷ senders)) 0 ≡ false = grind (arith, nat_tests) in let h : false ≡ true = rw z at is in cc)
over-dry channels c channel there (packet ∷ packets) senders has closed is = absurd (cc)

ended-look : (channels : List Channel) (c : ℕ) (found : Option Look) → slice_get (looks channels) c ≡ found → passes is_over found ≡ true → IsDry channels c
ended-look channels c (Some l) there is =
    let seen = seen-there channels c l there in
    over-dry channels c seen.0 seen.1 seen.0.packets seen.0.open_senders refl refl (ap is_over seen.2 ∙ is)
ended-look channels c None there is = absurd (cc)

-- where all inputs are over each connected one is dry
pub all-dry : (channels : List Channel) (inputs : List Input) → list_all (has_ended (looks channels)) inputs ≡ true → (port c : ℕ) → slice_get inputs port ≡ Some (From c) → IsDry channels c
all-dry channels [] is port c at = absurd (cc)
all-dry channels (i ∷ inputs) is zero c at =
    let same : i ≡ From c = cc in
    ended-look channels c (slice_get (looks channels) c) refl (ap (has_ended (looks channels)) (sym same) ∙ (and-both (has_ended (looks channels) i) (list_all (has_ended (looks channels)) inputs) is).0)
all-dry channels (i ∷ inputs) is (suc port) c at = all-dry channels inputs (and-both (has_ended (looks channels) i) (list_all (has_ended (looks channels)) inputs) is).1 port c at

-- Where nothing comes at an automatic input any more its connection is dry.
pub signal-dry : (channels : List Channel) (signal : Option ℕ) → signal_over (looks channels) signal ≡ true → (c : ℕ) → signal ≡ Some c → IsDry channels c
signal-dry channels (Some d) is c at = let same : d ≡ c = cc in subst (IsDry channels) same (ended-look channels d (slice_get (looks channels) d) refl is)
signal-dry channels None is c at = absurd (cc)

-- Where no input is connected none holds a packet.
none-holds : (ls : List Look) (inputs : List Input) → list_any is_connected inputs ≡ false → list_any (has_packet ls) inputs ≡ false
none-holds ls [] none = refl
none-holds ls (From c ∷ inputs) none = absurd (cc)
none-holds ls (Text text ∷ inputs) none = none-holds ls inputs none

not-false : (b : Bool) → not b ≡ false → b ≡ true
not-false true is = refl
not-false false is = absurd (cc)

not-true : (b : Bool) → not b ≡ true → b ≡ false
not-true true is = absurd (cc)
not-true false is = refl

-- Such a process starts where it hasn't run, and finishes where it has.
start-alone : {K : Type 0} (ls : List Look) (x : Process K) → NoneConnected x → is_woken ls x ≡ not x.has_run
start-alone ls x none = let a = none-holds ls x.inputs none in rw (a, none) refl

-- A process without connections starts only if it hasn't run.
pub starts-first : {K : Type 0} (channels : List Channel) (x : Process K) (n : ℕ) → NoneConnected x → event_of channels x n ≡ Some Starts → x.has_run ≡ false
starts-first channels x n none is = not-true x.has_run (sym (start-alone (looks channels) x none) ∙ starts-is_woken channels x n is)

-- A process without connections finishes without a start only if it has run.
pub finishes-later : {K : Type 0} (channels : List Channel) (x : Process K) (n : ℕ) → NoneConnected x → event_of channels x n ≡ Some Finishes → x.has_run ≡ true
finishes-later channels x n none is = not-false x.has_run (sym (start-alone (looks channels) x none) ∙ finishes-cannot channels x n is)

-- a connected input at which a packet waits
holds-some : (channels : List Channel) (c : ℕ) (found : Option Look) → slice_get (looks channels) c ≡ found → passes holds_packet found ≡ true → HoldsSome channels c
holds-some channels c (Some l) there is =
    let seen = seen-there channels c l there in
    by seen.0 seen.1 seen.0.packets refl (ap (λ (m : Look). not (is_empty m.packets)) seen.2 ∙ is)
  where
    by : (channel : Channel) → slice_get channels c ≡ Some channel → (packets : List Tree) → channel.packets ≡ packets → not (is_empty packets) ≡ true → HoldsSome channels c
    by channel there [] has is = absurd (cc)
    by channel there (packet ∷ rest) has is = record { channel = channel; there = there; packet = packet; rest = rest; packets = has }
holds-some channels c None there is = absurd (cc)

-- the input that lets a process start
pub record FirstInput (channels : List Channel) (inputs : List Input) : Type 0 where
  pub port : ℕ
  pub within : port < length inputs
  pub connection : ℕ
  pub input : slice_get inputs port ≡ Some (From connection)
  pub some : HoldsSome channels connection

one-later : (channels : List Channel) (i : Input) (inputs : List Input) → FirstInput channels inputs → FirstInput channels (i ∷ inputs)
one-later channels i inputs f = record { port = suc f.port; within = (let h = f.within in omega arith); connection = f.connection; input = f.input; some = f.some }

-- Where some connected input holds a packet, there is a first one.
pub first-input : (channels : List Channel) (inputs : List Input) → list_any (has_packet (looks channels)) inputs ≡ true → FirstInput channels inputs
first-input channels [] is = absurd (cc)
first-input channels (From c ∷ inputs) is = by (passes holds_packet (slice_get (looks channels) c)) refl (first-input channels inputs) is
  where
    by : (b : Bool) → passes holds_packet (slice_get (looks channels) c) ≡ b → (list_any (has_packet (looks channels)) inputs ≡ true → FirstInput channels inputs) → (b || list_any (has_packet (looks channels)) inputs) ≡ true
        → FirstInput channels (From c ∷ inputs)
    by true t rest is = record { port = 0; within = omega arith; connection = c; input = refl; some = holds-some channels c (slice_get (looks channels) c) refl t }
    by false t rest is = one-later channels (From c) inputs (rest is)
first-input channels (Text text ∷ inputs) is = one-later channels (Text text) inputs (first-input channels inputs is)

-- a text is fresh after a start
pub fresh-start : (inputs : List Input) (port : ℕ) (text : List ℕ) → slice_get inputs port ≡ Some (Text text) → unwrap_or (slice_get (map (λ input. not (is_connected input)) inputs) port) false ≡ true
fresh-start [] port text is = absurd (cc)
fresh-start (From c ∷ inputs) zero text is = absurd (cc)
fresh-start (Text t ∷ inputs) zero text is = refl
fresh-start (i ∷ inputs) (suc port) text is = fresh-start inputs port text is

-- a text that was taken isn't fresh
pub fresh-set : (fresh : List Bool) (at port : ℕ) → unwrap_or (slice_get fresh port) false ≡ false → unwrap_or (slice_get (slice_set fresh at false) port) false ≡ false
fresh-set [] at port is = is
fresh-set (f ∷ fresh) zero zero is = refl
fresh-set (f ∷ fresh) zero (suc port) is = is
fresh-set (f ∷ fresh) (suc at) zero is = is
fresh-set (f ∷ fresh) (suc at) (suc port) is = fresh-set fresh at port is

-- An initial text that was taken leaves the others fresh.
pub fresh-other : (fresh : List Bool) (at port : ℕ) → port ≢ at → unwrap_or (slice_get fresh port) false ≡ true → unwrap_or (slice_get (slice_set fresh at false) port) false ≡ true
fresh-other fresh at port other is = ap (λ o. unwrap_or o false) (slice_get-set_other fresh at port false other) ∙ is

-- An initial text that was taken isn't fresh.
pub fresh-gone : (fresh : List Bool) (at : ℕ) → unwrap_or (slice_get (slice_set fresh at false) at) false ≡ false
fresh-gone [] at = refl
fresh-gone (f ∷ fresh) zero = refl
fresh-gone (f ∷ fresh) (suc at) = fresh-gone fresh at

-- What is fresh at another port doesn't change.
pub fresh-apart : (fresh : List Bool) (at port : ℕ) → port ≢ at → unwrap_or (slice_get (slice_set fresh at false) port) false ≡ unwrap_or (slice_get fresh port) false
fresh-apart fresh at port other = ap (λ o. unwrap_or o false) (slice_get-set_other fresh at port false other)

-- Where an input is connected, a process starts as a packet waits at one.
pub start-brings : {K : Type 0} (channels : List Channel) (x : Process K) (n : ℕ) → event_of channels x n ≡ Some Starts → list_any is_connected x.inputs ≡ true → FirstInput channels x.inputs
start-brings channels x n is some = by (list_any (has_packet (looks channels)) x.inputs) refl
  where
    by : (b : Bool) → list_any (has_packet (looks channels)) x.inputs ≡ b → FirstInput channels x.inputs
    by true holds = first-input channels x.inputs holds
    by false holds =
        let can : (list_any (has_packet (looks channels)) x.inputs || (not (list_any is_connected x.inputs) && not x.has_run)) ≡ true = starts-is_woken channels x n is in
        absurd (let h : false ≡ true = rw (holds, some) at can in cc)

-- A process that has run starts where a packet waits at a connected input.
pub start-finds : {K : Type 0} (channels : List Channel) (x : Process K) (n : ℕ) → event_of channels x n ≡ Some Starts → x.has_run ≡ true → FirstInput channels x.inputs
start-finds channels x n is ran = by (list_any (has_packet (looks channels)) x.inputs) refl
  where
    alone : (b : Bool) → (not b && not x.has_run) ≡ true → FirstInput channels x.inputs
    alone true is = absurd (cc)
    alone false is = absurd (let h : false ≡ true = rw ran at is in cc)

    by : (b : Bool) → list_any (has_packet (looks channels)) x.inputs ≡ b → FirstInput channels x.inputs
    by true holds = first-input channels x.inputs holds
    by false holds =
        let can : (list_any (has_packet (looks channels)) x.inputs || (not (list_any is_connected x.inputs) && not x.has_run)) ≡ true = starts-is_woken channels x n is in
        alone (list_any is_connected x.inputs) (rw holds at can)

changed-other : {A : Type 0} (xs : List A) (i k : ℕ) (f : A → A) (o : Option A) → k ≢ i → slice_get (changed xs i f o) k ≡ slice_get xs k
changed-other xs i k f (Some x) ne = slice_get-set_other xs i k (f x) ne
changed-other xs i k f None ne = refl

changed-here : (channels : List Channel) (c d : ℕ) (f : Channel → Channel) (channel : Channel) → c ≡ d → slice_get channels c ≡ Some channel → slice_get (change_at channels d f) c ≡ Some (f channel)
changed-here channels c d f channel same there =
    let here : slice_get channels d ≡ Some channel = ap (slice_get channels) (sym same) ∙ there in
    ap (λ (cs : List Channel). slice_get cs c) (change_at-some channels d f channel here) ∙ ap (slice_get (slice_set channels d (f channel))) same ∙ slice_get-set_same channels d channel (f channel) here

some-other : (channels : List Channel) (c d : ℕ) (f : Channel → Channel) → c ≢ d → HoldsSome channels c → HoldsSome (change_at channels d f) c
some-other channels c d f ne h = record { channel = h.channel; there = changed-other channels d c f (slice_get channels d) ne ∙ h.there; packet = h.packet; rest = h.rest; packets = h.packets }

-- what is dry has no packet
dry-packets : (channels : List Channel) (c d : ℕ) (channel : Channel) (packet : Tree) (rest : List Tree) → IsDry channels c → c ≡ d → slice_get channels d ≡ Some channel → channel.packets ≡ packet ∷ rest → ⊥
dry-packets channels c d channel packet rest h same there has =
    let o : Some h.channel ≡ Some channel = sym h.there ∙ ap (slice_get channels) same ∙ there in
    let k : h.channel ≡ channel = cc in
    let z : [] ≡ packet ∷ rest = sym h.empty ∙ ap (λ (ch : Channel). ch.packets) k ∙ has in
    cc

module _ {K : Type 0} (kept : Kept K) (p : ℕ) (x : Process K) (n : ℕ) (there : slice_get kept.processes p ≡ Some x) (senders : SendersOpen kept) where
  -- whoever sends is an open sender
  pub sender-open : (port c : ℕ) (packet : Tree) → SendsTo kept.channels x port c packet → (channel : Channel) × (slice_get kept.channels c ≡ Some channel) × (0 < length channel.open_senders)
  sender-open port c packet why = by (slice_get x.outputs port) refl why.output
    where
      by : (found : Option (Option ℕ)) → slice_get x.outputs port ≡ found → option_and_then (λ (c : Option ℕ). c) found ≡ Some c → (channel : Channel) × (slice_get kept.channels c ≡ Some channel) × (0 < length channel.open_senders)
      by None at out = absurd (cc)
      by (Some None) at out = absurd (cc)
      by (Some (Some d)) at out =
          let same : d ≡ c = cc in
          let o = outlet-of 0 x.outputs port d at in
          let has : HasToClose x.stage o.0 = subst (λ (st : Stage). HasToClose st o.0) (sym why.stage) tt in
          let open_one = senders p o.0 x o.1 there o.2 has in (
            open_one.0,
            ap (slice_get kept.channels) (sym same ∙ sym o.3) ∙ open_one.1,
            omega (arith, length-without_sender (record { process = p; output = o.1.output }) open_one.0.open_senders open_one.2),
          )

  -- so its connection isn't dry
  sends-open : (port c : ℕ) (packet : Tree) → SendsTo kept.channels x port c packet → IsDry kept.channels c → ⊥
  sends-open port c packet why h =
      let o = sender-open port c packet why in
      let same : h.channel ≡ o.0 = same-found (sym h.there ∙ o.1) in
      let none : length o.0.open_senders ≡ 0 = ap (λ (ch : Channel). length ch.open_senders) (sym same) ∙ ap length h.closed in
      omega (arith, none, o.2)

  -- what is dry stays dry
  pub dry-after : (e : Event) → event_of kept.channels x n ≡ Some e → (c : ℕ) → IsDry kept.channels c → IsDry (channels_after kept.channels p e) c
  dry-after e is c h =
      let came = goes-one (channel_after p) kept.channels (change_of e) c h.channel h.there in
      elim came.2 [
        | inl same ↦ record { channel = came.0; there = came.1; empty = ap (λ (ch : Channel). ch.packets) same ∙ h.empty; closed = ap (λ (ch : Channel). ch.open_senders) same ∙ h.closed }
        | inr change ↦ (let still = by change.0.connection change.0.change (explains-change kept.channels x n e is change.0 change.1) (subst (IsDry kept.channels) (sym change.2) h) in
            record { channel = came.0; there = came.1; empty = ap (λ (ch : Channel). ch.packets) change.3 ∙ still.0; closed = ap (λ (ch : Channel). ch.open_senders) change.3 ∙ still.1 })
      ]
    where
      -- what is dry stays so: nothing is taken there, whoever adds is an open sender, and a close leaves it
      by : (d : ℕ) (change : Change) → ExplainsChange kept.channels x d change → IsDry kept.channels d → ((channel_after p change h.channel).packets ≡ []) × ((channel_after p change h.channel).open_senders ≡ [])
      by d Taken why empty = absurd (dry-packets kept.channels d d why.channel why.packet why.rest empty refl why.there why.packets)
      by d (Added packet) why empty = absurd (sends-open why.0 d packet why.1 empty)
      by d (Closed output) why empty = (h.empty, ap (without_sender (record { process = p; output = output })) h.closed)

-- The turn takes a packet from this connection.
abbrev pub TakesFrom : Event → ℕ → Type 0
TakesFrom (Gets port d packet) c = c ≡ d
TakesFrom (Signals d packet) c = c ≡ d
TakesFrom event c = ⊥

-- a connection from which nothing is taken still holds what it held
pub some-after : (channels : List Channel) (p : ℕ) (e : Event) (c : ℕ) → (TakesFrom e c → ⊥) → HoldsSome channels c → HoldsSome (channels_after channels p e) c
some-after channels p (Gets port d packet) c ne h = elim (same_or_not c d) [
  | inl same ↦ absurd (ne same)
  | inr other ↦ some-other channels c d _ other h
]
some-after channels p (Signals d packet) c ne h = elim (same_or_not c d) [
  | inl same ↦ absurd (ne same)
  | inr other ↦ some-other channels c d _ other h
]
some-after channels p (Sends port d packet) c ne h = elim (same_or_not c d) [
  | inl same ↦ (let f : Channel → Channel = λ channel. channel_after p (Added packet) channel in
      record { channel = f h.channel; there = changed-here channels c d f h.channel same h.there; packet = h.packet; rest = h.rest ++ packet ∷ []; packets = ap (λ ps. ps ++ packet ∷ []) h.packets })
  | inr other ↦ some-other channels c d _ other h
]
some-after channels p (Closes output d) c ne h = elim (same_or_not c d) [
  | inl same ↦ (let f : Channel → Channel = λ channel. channel_after p (Closed output) channel in
      record { channel = f h.channel; there = changed-here channels c d f h.channel same h.there; packet = h.packet; rest = h.rest; packets = h.packets })
  | inr other ↦ some-other channels c d _ other h
]
some-after channels p e c ne h = h
