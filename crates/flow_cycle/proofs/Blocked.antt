-- In a deadlock each blocked process waits for one that is blocked.
use Rattle.std.proofs.Common.{◌≡◌, ◌⊎◌, ℕ, ◌+◌, ◌<◌, ◌≤◌, Bool, true, false, List, [], ◌∷◌, map, not, length, Option, Some, None, IsSome, refl, sym, ap, ◌∙◌, subst, cond, ◌==◌, ◌&&◌, ◌||◌, nat_eq, arith, inl, inr, slice_get, zero, suc}
use Rattle.std.specs.Prelude.{option_map, option_and_then, is_some}
use Rattle.std.specs.List.{list_any, list_all}
use Rattle.std.proofs.lemmas.Bool.Decides.{nat_tests}
use Rattle.std.proofs.lemmas.Option.{slice_get-map}
use Rattle.std.proofs.lemmas.List.Quantifiers.{position-Some}
use Rattle.flow_packet.specs.Tree.{Tree}
use Rattle.flow_component.specs.declared.Port.{Port}
use Rattle.flow_component.specs.declared.Wish.TheVariants as wishes
use Rattle.flow_component.specs.Laws.{Rules, Lawful}
use Rattle.flow_plan.specs.Network.{Network as Plan}
use Rattle.flow_plan.specs.declared.plan.Sender.{Sender}
use Rattle.flow_plan.specs.declared.plan.Connection.{Connection as PlanConnection}
use Rattle.flow_model.specs.declared.Stage.{Stage}
use Rattle.flow_model.specs.declared.Stage.TheVariants as stages
use Rattle.flow_model.specs.declared.Block.{Block}
use Rattle.flow_model.specs.declared.Block.TheVariants as blocks
use Rattle.flow_model.specs.States.{Input, From, Text, Process, Channel, State, output_at}
use Rattle.flow_model.specs.Events.{Event, Starts, Finishes, Gets, Hears_end, Look, look, looks, event_from, stage_event, received, has_packet, has_ended, idle_event, is_woken, is_released, signal_over, signal_event, signalled_from, signalled_by, takes_signal, can_start, can_finish, receive_event, received_from, is_connected, passes, holds_packet, is_over, is_empty}
use Rattle.flow_model.specs.Schedules.{Journal, Leads}
use Rattle.flow_model.specs.Verdicts.{exact_level, waits_for, block_of, block, IsDeadlock}
use Rattle.flow_model.specs.Order.{connection_of, input_of, signal_of}
use Rattle.flow_model.specs.Stages.{HasToClose, IsFailedStage, IsOverOrOwes, HasBegunToClose}
use Rattle.flow_model.specs.Valid.{IsOpenSender}
use Rattle.flow_model.specs.Fit.{Fit}
use Rattle.flow_model.specs.Plans.{leads_to, receives_at, input_at, connected_or, text_at, process_at_start, processes_at_start, start_of, StartsWell}
use Rattle.flow_model.specs.Wires.{Wires, wires}
use Rattle.flow_model.proofs.Lists.{map-found, same_or_not}
use Rattle.flow_model.proofs.Start.{Valid-start, start-input, start-signal, no_connection}
use Rattle.flow_model.proofs.Senders.{both-true}
use Rattle.flow_model.proofs.Blocks.{turn-or-block, outlet-of}
use Rattle.flow_model.proofs.Exhausting.{IsDry}
use Rattle.flow_model.proofs.Telling.{AllTell-start, AllTell-leads}
use Rattle.flow_model.proofs.Fits.{Fit-start, Fit-leads}
use Rattle.flow_model.proofs.Wiring.{wires-leads}
use Rattle.flow_model.proofs.Leaving.{process-there, ports-at, position-only}
use Rattle.flow_machine.specs.Inlets.{signal_input, watched}
use Rattle.flow_cycle.specs.declared.Waits.{Waits}
use Rattle.flow_cycle.specs.Waiting.{first_of, first_open_sender, waits_for_sender, waits_for_receiver, or_else, waits_to_wake, waits_by, waits_of, waits_at}
use Rattle.flow_cycle.proofs.Channels.{ChannelsOf, channels-of}
use Rattle.flow_cycle.proofs.Signals.{signals-over}

-- Two things that an element is are the same.
pub one-of : {A : Type 0} (a b : A) → Some a ≡ Some b → a ≡ b
one-of a b h = cc

-- Below the length something is there, and only there.
pub is-there : {A : Type 0} (xs : List A) (i : ℕ) → i < length xs → (x : A) × (slice_get xs i ≡ Some x)
is-there [] i below = absurd (omega (arith, below))
is-there (x ∷ xs) zero below = (x, refl)
is-there (x ∷ xs) (suc i) below = is-there xs i (omega (arith, below))

-- What is there is below the length.
pub there-below : {A : Type 0} (xs : List A) (i : ℕ) (x : A) → slice_get xs i ≡ Some x → i < length xs
there-below [] i x is = absurd (cc)
there-below (y ∷ xs) zero x is = omega arith
there-below (y ∷ xs) (suc i) x is = let h = there-below xs i x is in omega (arith, h)

look-at : (channels : List Channel) (c : ℕ) (channel : Channel) → slice_get channels c ≡ Some channel → slice_get (looks channels) c ≡ Some (look channel)
look-at channels c channel there = slice_get-map look channels c ∙ ap (option_map look) there

-- A sender is an open one of a list that it heads.
heads-open : (sender : Sender) (senders : List Sender) → IsOpenSender sender (sender ∷ senders)
heads-open sender senders =
    let a : nat_eq sender.process sender.process ≡ true = grind (arith, nat_tests) in
    let b : nat_eq sender.output sender.output ≡ true = grind (arith, nat_tests) in
    rw (a, b) refl

nonzero : (n : ℕ) → (nat_eq (suc n) 0) ≡ false
nonzero n = grind (arith, nat_tests)

-- A process that is blocked empty, full or dormant.
pub data BlockedSo {K : Type 0} (x : Process K) (b : Block) : Type 0 where
  empty : (port : Port) (c : ℕ) → x.stage ≡ stages.Wishing (wishes.Receive port) → slice_get x.inputs port.0 ≡ Some (From c) → b ≡ blocks.Empty c port → BlockedSo x b
  full : (port : Port) (id c : ℕ) → x.stage ≡ stages.Wishing (wishes.Send port id) → output_at x port.0 ≡ Some c → b ≡ blocks.Full c port → BlockedSo x b
  dormant : x.stage ≡ stages.Idle → b ≡ blocks.Dormant → BlockedSo x b

-- What a block says of the stage.
pub blocked-so : {K : Type 0} (x : Process K) (b : Block) → waits_for x x.stage ≡ Some b → BlockedSo x b
blocked-so {K} x b is = by x.stage refl is
  where
    from : (port : Port) (found : Option Input) → x.stage ≡ stages.Wishing (wishes.Receive port) → slice_get x.inputs port.0 ≡ found → option_and_then (λ c. Some (blocks.Empty c port)) (connection_of found) ≡ Some b → BlockedSo x b
    from port (Some (From c)) at there is = empty port c at there (sym (one-of (blocks.Empty c port) b is))
    from port (Some (Text text)) at there is = absurd (cc)
    from port None at there is = absurd (cc)

    to : (port : Port) (id : ℕ) (found : Option ℕ) → x.stage ≡ stages.Wishing (wishes.Send port id) → output_at x port.0 ≡ found → option_and_then (λ c. Some (blocks.Full c port)) found ≡ Some b → BlockedSo x b
    to port id (Some c) at there is = full port id c at there (sym (one-of (blocks.Full c port) b is))
    to port id None at there is = absurd (cc)

    by : (stage : Stage) → x.stage ≡ stage → waits_for x stage ≡ Some b → BlockedSo x b
    by (stages.Wishing (wishes.Receive port)) at is = from port (slice_get x.inputs port.0) at refl is
    by (stages.Wishing (wishes.Send port id)) at is = to port id (output_at x port.0) at refl is
    by stages.Idle at is = dormant at (sym (one-of blocks.Dormant b is))
    by stage at is = absurd (cc)

-- What blocks a process is what its stage waits for.
pub block-waits : {K : Type 0} (channels : List Look) (x : Process K) (b : Block) → block_of channels x ≡ Some b → waits_for x x.stage ≡ Some b
block-waits channels x b is = by (is_some (event_from channels x (exact_level channels x))) (waits_for x x.stage) is
  where
    by : (t : Bool) (w : Option Block) → cond t None w ≡ Some b → w ≡ Some b
    by true w is = absurd (cc)
    by false w is = is

-- A connection with an open sender, which is the first.
record HasFirst (channels : List Channel) (c : ℕ) (sender : Sender) : Type 0 where
  channel : Channel
  there : slice_get channels c ≡ Some channel
  rest : List Sender
  senders : channel.open_senders ≡ sender ∷ rest

first-is : (channels : List Channel) (c : ℕ) (sender : Sender) → HasFirst channels c sender → first_open_sender (slice_get channels c) ≡ Some sender
first-is channels c sender h = ap first_open_sender h.there ∙ ap first_of h.senders

-- where a receive has no turn a sender is open
receive-first : (channels : List Channel) (port c : ℕ) (channel : Channel) → slice_get channels c ≡ Some channel → received_from port c (slice_get (looks channels) c) ≡ None → (sender : Sender) × HasFirst channels c sender
receive-first channels port c channel there none = by channel.packets channel.open_senders refl refl (sym (ap (received_from port c) (look-at channels c channel there)) ∙ none)
  where
    by : (packets : List Tree) (senders : List Sender) → channel.packets ≡ packets → channel.open_senders ≡ senders → received_from port c (Some (look channel)) ≡ None → (sender : Sender) × HasFirst channels c sender
    by (packet ∷ packets) senders has are is = absurd (let h : Some (Gets port c packet) ≡ None = sym (ap (λ ps. received port c ps (length channel.open_senders)) has) ∙ is in cc)
    by [] [] has are is =
        absurd (let h : Some (Hears_end port) ≡ None =
        sym (ap (λ ps. received port c ps (length channel.open_senders)) has ∙ ap (λ (os : List Sender). received port c [] (length os)) are) ∙ is in cc)
    by [] (sender ∷ senders) has are is = (sender, record { channel = channel; there = there; rest = senders; senders = are })

or-false : (a b : Bool) → (a || b) ≡ false → (a ≡ false) × (b ≡ false)
or-false true b is = absurd (cc)
or-false false b is = (refl, is)

idle-none : (a b t : Bool) (signal : Option Event) → cond a (Some Starts) (cond b (Some Finishes) (cond t signal None)) ≡ None → (a ≡ false) × (b ≡ false) × (t ≡ true → signal ≡ None)
idle-none true b t signal is = absurd (cc)
idle-none false true t signal is = absurd (cc)
idle-none false false true signal is = (refl, refl, (λ takes. is))
idle-none false false false signal is = (refl, refl, (λ takes. absurd (cc)))

leads-here : (connection : PlanConnection) → leads_to connection.receiver connection.input connection ≡ true
leads-here connection =
    let a : nat_eq connection.receiver connection.receiver ≡ true = grind (arith, nat_tests) in
    let b : nat_eq connection.input connection.input ≡ true = grind (arith, nat_tests) in
    rw (a, b) refl

-- where no input holds a packet and not all are over, some input's connection has an open sender, the lowest one first
wake-first : (channels : List Channel) (p : ℕ) (inputs : List Input) → ((i c : ℕ) → slice_get inputs i ≡ Some (From c) → (channel : Channel) × (slice_get channels c ≡ Some channel)) → list_any (has_packet (looks channels)) inputs ≡ false → list_all (has_ended (looks channels)) inputs ≡ false
    → (c : ℕ) × (sender : Sender) × HasFirst channels c sender × (waits_to_wake channels p inputs ≡ Some (waits_for_sender p c sender))
wake-first channels p [] there none some = absurd (cc)
wake-first channels p (Text text ∷ inputs) there none some = wake-first channels p inputs (λ i c at. there (suc i) c at) none some
wake-first channels p (From c ∷ inputs) there none some = by channel.packets channel.open_senders refl refl (λ no_packet not_all. wake-first channels p inputs (λ i d at. there (suc i) d at) no_packet not_all)
  where
    channel : Channel
    channel = (there 0 c refl).0

    here : slice_get channels c ≡ Some channel
    here = (there 0 c refl).1

    first : (passes holds_packet (slice_get (looks channels) c) ≡ false) × (list_any (has_packet (looks channels)) inputs ≡ false)
    first = or-false (passes holds_packet (slice_get (looks channels) c)) (list_any (has_packet (looks channels)) inputs) none

    seen : passes holds_packet (Some (look channel)) ≡ false
    seen = sym (ap (passes holds_packet) (look-at channels c channel here)) ∙ first.0

    by : (packets : List Tree) (senders : List Sender) → channel.packets ≡ packets → channel.open_senders ≡ senders
        → (list_any (has_packet (looks channels)) inputs ≡ false → list_all (has_ended (looks channels)) inputs ≡ false → (d : ℕ) × (sender : Sender) × HasFirst channels d sender × (waits_to_wake channels p inputs ≡ Some (waits_for_sender p d sender)))
        → (d : ℕ) × (sender : Sender) × HasFirst channels d sender × (waits_to_wake channels p (From c ∷ inputs) ≡ Some (waits_for_sender p d sender))
    by (packet ∷ packets) senders has are on = absurd (let h : true ≡ false = sym (ap (λ ps. not (is_empty ps)) has) ∙ seen in cc)
    by [] [] has are on =
        let over : passes is_over (slice_get (looks channels) c) ≡ true =
        ap (passes is_over) (look-at channels c channel here) ∙ ap (λ (ps : List Tree). is_empty ps && (length channel.open_senders == 0)) has ∙ ap (λ (os : List Sender). length os == 0) are in
        let rest : list_all (has_ended (looks channels)) inputs ≡ false = sym (ap (λ b. b && list_all (has_ended (looks channels)) inputs) over) ∙ some in
        let more = on first.1 rest in
        (more.0, more.1, more.2, ap (λ found. or_else (option_map (waits_for_sender p c) found) (waits_to_wake channels p inputs)) (ap first_open_sender here ∙ ap first_of are) ∙ more.3)
    by [] (sender ∷ senders) has are on =
        let it : HasFirst channels c sender = record { channel = channel; there = here; rest = senders; senders = are } in
        (c, sender, it, ap (λ found. or_else (option_map (waits_for_sender p c) found) (waits_to_wake channels p inputs)) (first-is channels c sender it))

or-true : (a b : Bool) → b ≡ true → (a || b) ≡ true
or-true true b is = refl
or-true false b is = is

-- What a dormant process waits for, which has no turn and an open sender at an input that it watches

-- a connection from which no signal comes holds no packet
no-packet : (channels : List Channel) (c : ℕ) (channel : Channel) → slice_get channels c ≡ Some channel → signal_event (looks channels) (Some c) ≡ None → passes holds_packet (slice_get (looks channels) c) ≡ false
no-packet channels c channel there none = ap (passes holds_packet) (look-at channels c channel there) ∙ by channel.packets (sym (ap (signalled_from c) (look-at channels c channel there)) ∙ none)
  where
    by : (packets : List Tree) → signalled_by c packets ≡ None → not (is_empty packets) ≡ false
    by (packet ∷ packets) is = absurd (cc)
    by [] is = refl

and-right : (a b : Bool) → a ≡ true → (a && b) ≡ false → b ≡ false
and-right true b t is = is
and-right false b t is = absurd (cc)

and-left : (a b : Bool) → b ≡ true → (a && b) ≡ false → a ≡ false
and-left true b t is = absurd (let h : true ≡ false = sym t ∙ is in cc)
and-left false b t is = refl

-- one that isn't woken has a connected input, or has run
has-worked : (a run : Bool) → (not a && not run) ≡ false → (a || run) ≡ true
has-worked true run is = refl
has-worked false true is = refl
has-worked false false is = absurd (cc)

module _ {K : Type 0} (channels : List Channel) (p : ℕ) (x : Process K) (none : idle_event (looks channels) x ≡ None)
    (there : (i c : ℕ) → slice_get x.inputs i ≡ Some (From c) → (channel : Channel) × (slice_get channels c ≡ Some channel))
    (there_signal : (c : ℕ) → x.signal ≡ Some c → (channel : Channel) × (slice_get channels c ≡ Some channel)) where
  abbrev FirstOf : List Input → Type 0
  FirstOf inputs = (c : ℕ) × (sender : Sender) × HasFirst channels c sender × (waits_to_wake channels p inputs ≡ Some (waits_for_sender p c sender))

  idle : (can_start (looks channels) x ≡ false) × (can_finish (looks channels) x ≡ false) × (takes_signal (looks channels) x ≡ true → signal_event (looks channels) x.signal ≡ None)
  idle = idle-none (can_start (looks channels) x) (can_finish (looks channels) x) (takes_signal (looks channels) x) (signal_event (looks channels) x.signal) none

  -- one that is released isn't woken: no input holds a packet, and it has a connected one or has run
  unwoken : is_released (looks channels) x ≡ true → (list_any (has_packet (looks channels)) x.inputs ≡ false) × ((not (list_any is_connected x.inputs) && not x.has_run) ≡ false)
  unwoken released =
      or-false (list_any (has_packet (looks channels)) x.inputs) (not (list_any is_connected x.inputs) && not x.has_run) (and-right (is_released (looks channels) x) (is_woken (looks channels) x) released idle.0)

  -- at its automatic input
  alone : (c : ℕ) → x.signal ≡ Some c → takes_signal (looks channels) x ≡ true → signal_over (looks channels) x.signal ≡ false → FirstOf (signal_input x.signal)
  alone c at takes goes_on =
      let channel = there_signal c at in
      let packet = no-packet channels c channel.0 channel.1 (sym (ap (signal_event (looks channels)) at) ∙ idle.2 takes) in
      let open_one : passes is_over (slice_get (looks channels) c) ≡ false = sym (ap (signal_over (looks channels)) at) ∙ goes_on in
      subst (λ (signal : Option ℕ). FirstOf (signal_input signal)) (sym at) (
      wake-first channels p (From c ∷ []) here (ap (λ b. b || false) packet) (ap (λ b. b && true) open_one)
      )
    where
      here : (i d : ℕ) → slice_get (From c ∷ []) i ≡ Some (From d) → (channel : Channel) × (slice_get channels d ≡ Some channel)
      here zero d is = let same : c ≡ d = cc in there_signal d (at ∙ ap Some same)
      here (suc i) d is = absurd (cc)

  -- at its others
  others : is_released (looks channels) x ≡ true → list_all (has_ended (looks channels)) x.inputs ≡ false → FirstOf x.inputs
  others released goes_on = wake-first channels p x.inputs there (unwoken released).0 goes_on

  abbrev choice : Bool → Bool → Bool → List Input
  choice s r o = cond (s && (not r || o)) (signal_input x.signal) x.inputs

  -- at those that it watches
  dormant-first : FirstOf (watched (looks channels) x)
  dormant-first = by x.signal refl (is_released (looks channels) x) refl (list_all (has_ended (looks channels)) x.inputs) refl
    where
      so : (s r o : Bool) → is_some x.signal ≡ s → is_released (looks channels) x ≡ r → list_all (has_ended (looks channels)) x.inputs ≡ o → FirstOf (choice s r o) → FirstOf (watched (looks channels) x)
      so s r o signal released over first = subst FirstOf (λ i. choice (sym signal i) (sym released i) (sym over i)) first

      by : (found : Option ℕ) → x.signal ≡ found → (r : Bool) → is_released (looks channels) x ≡ r → (o : Bool) → list_all (has_ended (looks channels)) x.inputs ≡ o → FirstOf (watched (looks channels) x)
      by None at r released o over =
          let over_signal : signal_over (looks channels) x.signal ≡ true = ap (signal_over (looks channels)) at in
          so false r o (ap is_some at) released over (
          others (or-true x.signalled (signal_over (looks channels) x.signal) over_signal) (and-left (list_all (has_ended (looks channels)) x.inputs) (signal_over (looks channels) x.signal) over_signal idle.1)
          )
      by (Some c) at false released o over =
          let apart = or-false x.signalled (signal_over (looks channels) x.signal) released in
          so true false o (ap is_some at) released over (
          alone c at (ap (λ b. not b || (list_all (has_ended (looks channels)) x.inputs && (list_any is_connected x.inputs || x.has_run))) apart.0) apart.1
          )
      by (Some c) at true released true over =
          so true true true (ap is_some at) released over (
          alone c at (
          or-true (not x.signalled) (list_all (has_ended (looks channels)) x.inputs && (list_any is_connected x.inputs || x.has_run)) (
          ap (λ b. b && (list_any is_connected x.inputs || x.has_run)) over ∙ has-worked (list_any is_connected x.inputs) x.has_run (unwoken released).1
          )
          ) (and-right (list_all (has_ended (looks channels)) x.inputs) (signal_over (looks channels) x.signal) over idle.1)
          )
      by (Some c) at true released false over = so true true false (ap is_some at) released over (others released over)

module _ {K : Type 0} (rules : Rules K) (lawful : Lawful rules)
    (plan : Plan) (components : List K) (journal : Journal) (s : State K) (well : StartsWell rules plan components) (leads : Leads rules (start_of plan components) journal s) (deadlock : IsDeadlock s) where
  -- The state is fit.
  pub fit : Fit rules s
  fit = Fit-leads rules lawful (start_of plan components) journal s (Fit-start rules plan components well) leads

  -- It has a connection for each of the plan's.
  pub channels : ChannelsOf plan.connections s.kept.channels
  channels = channels-of rules plan components journal s leads

  -- what has ended left its inputs dry
  ended-dry : (p i c : ℕ) (x : Process K) → slice_get s.kept.processes p ≡ Some x → x.stage ≡ stages.Ended → slice_get x.inputs i ≡ Some (From c) → IsDry s.kept.channels c
  ended-dry p i c x there ended at =
      (AllTell-leads rules lawful components (start_of plan components) journal s (Valid-start rules plan components well) (AllTell-start rules plan components) leads p x there).over
      (subst HasBegunToClose (sym ended) tt) i c at

  -- and its automatic input
  signal-dry_then : (p c : ℕ) (x : Process K) → slice_get s.kept.processes p ≡ Some x → x.stage ≡ stages.Ended → x.signal ≡ Some c → IsDry s.kept.channels c
  signal-dry_then p c x there ended at =
      signals-over rules lawful plan components (Valid-start rules plan components well) journal s leads p c x there (subst HasBegunToClose (sym ended) tt) at

  -- whoever hasn't ended is blocked
  pub blocked : (p : ℕ) (x : Process K) → slice_get s.kept.processes p ≡ Some x → (x.stage ≡ stages.Ended → ⊥) → IsSome (block_of (looks s.kept.channels) x)
  blocked p x there on =
      turn-or-block s p x there (fit.all_fit p x there).granted fit.valid.senders fit.valid.within (λ over. not_over x.stage refl over) (deadlock.0.still p x (exact_level (looks s.kept.channels) x) there)
    where
      not_over : (stage : Stage) → x.stage ≡ stage → IsOverOrOwes stage → ⊥
      not_over stages.Ended at over = on at
      not_over (stages.Failed cause) at over = deadlock.1 (p, x, cause, there, at)
      not_over (stages.Told answer) at over = deadlock.0.thought p x there answer at
      not_over stage at over = over

  block-at : (p : ℕ) (x : Process K) → slice_get s.kept.processes p ≡ Some x → IsSome (block_of (looks s.kept.channels) x) → IsSome (block s.kept p)
  block-at p x there some = subst (λ (found : Option (Process K)). IsSome (option_and_then (block_of (looks s.kept.channels)) found)) (sym there) some

  -- an open sender's process is blocked
  sender-blocked : (c : ℕ) (sender : Sender) → HasFirst s.kept.channels c sender → IsSome (block s.kept sender.process)
  sender-blocked c sender h =
      let left = fit.senders.only c h.channel sender h.there (subst (IsOpenSender sender) (sym h.senders) (heads-open sender h.rest)) in
      block-at sender.process left.process left.there (blocked sender.process left.process left.there (λ ended. none left.place (subst (λ (st : Stage). HasToClose st left.place ⊎ IsFailedStage st) ended left.left)))
    where
      none : (j : ℕ) → HasToClose stages.Ended j ⊎ IsFailedStage stages.Ended → ⊥
      none j (inl has) = has
      none j (inr failed) = failed

  -- a process of the plan is there, wired by it
  wired-now : (q : ℕ) (z : Process K) → slice_get (processes_at_start plan 0 plan.processes components) q ≡ Some z → (y : Process K) × (slice_get s.kept.processes q ≡ Some y) × (wires y ≡ wires z)
  wired-now q z there =
      let same = (wires-leads rules plan components journal s leads).0 in
      let h : slice_get (map wires s.kept.processes) q ≡ Some (wires z) =
      ap (λ (ws : List Wires). slice_get ws q) same ∙ slice_get-map wires (processes_at_start plan 0 plan.processes components) q ∙ ap (option_map wires) there in
      map-found wires s.kept.processes q (wires z) h

  -- and each of its inputs is wired as at the start
  wired-then : (q : ℕ) (y : Process K) → slice_get s.kept.processes q ≡ Some y → (z : Process K) × (slice_get (processes_at_start plan 0 plan.processes components) q ≡ Some z) × (wires z ≡ wires y)
  wired-then q y there =
      let same = (wires-leads rules plan components journal s leads).0 in
      let h : slice_get (map wires (processes_at_start plan 0 plan.processes components)) q ≡ Some (wires y) =
      ap (λ (ws : List Wires). slice_get ws q) (sym same) ∙ slice_get-map wires s.kept.processes q ∙ ap (option_map wires) there in
      map-found wires (processes_at_start plan 0 plan.processes components) q (wires y) h

  -- at each connected input there is a connection, of the plan and of the state
  input-there : (p i c : ℕ) (x : Process K) → slice_get s.kept.processes p ≡ Some x → slice_get x.inputs i ≡ Some (From c) → (channel : Channel) × (slice_get s.kept.channels c ≡ Some channel)
  input-there p i c x there at =
      let z = wired-then p x there in
      let input : input_of i (slice_get (processes_at_start plan 0 plan.processes components) p) ≡ Some c =
      ap (input_of i) z.1 ∙ ap (λ (w : Wires). connection_of (slice_get w.inputs i)) z.2 ∙ ap connection_of at in
      let receive = start-input plan components p i c input in
      let within = (position-Some (leads_to p i) plan.connections c no_connection receive).0 in
      is-there s.kept.channels c (omega (arith, within, channels.as_many))

  -- at a connected automatic input too
  signal-there : (p c : ℕ) (x : Process K) → slice_get s.kept.processes p ≡ Some x → x.signal ≡ Some c → (channel : Channel) × (slice_get s.kept.channels c ≡ Some channel)
  signal-there p c x there at =
      let z = wired-then p x there in
      let start = start-signal plan components p c (ap signal_of z.1 ∙ ap (λ (w : Wires). w.signal) z.2 ∙ at) in
      let within = (position-Some (leads_to p (length start.0.inputs)) plan.connections c no_connection start.2).0 in
      is-there s.kept.channels c (omega (arith, within, channels.as_many))

  -- the receiver of a connection of the plan receives from it, at its automatic input or at another
  receiver-now : (c : ℕ) (connection : PlanConnection) → slice_get plan.connections c ≡ Some connection → (y : Process K) × (slice_get s.kept.processes connection.receiver ≡ Some y) × ((slice_get y.inputs connection.input ≡ Some (From c)) ⊎ (y.signal ≡ Some c))
  receiver-now c connection at =
      let q = connection.receiver in
      let i = connection.input in
      let spec = well.wired.receivers c connection at in
      let found = process-there plan 0 plan.processes components q spec.0 well.one_each spec.1 in
      let zero_q : 0 + q ≡ q = omega arith in
      let z : Process K = process_at_start plan q spec.0 found.0 in
      let y = wired-now q z (found.1 ∙ ap (λ (m : ℕ). Some (process_at_start plan m spec.0 found.0)) zero_q) in
      let receive : receives_at plan q i ≡ Some c = position-only (leads_to q i) plan.connections c connection at (leads-here connection) (λ k x is leads_x. (
      let same = both-true x.receiver q x.input i leads_x in
      well.wired.one_receiver k c x connection is at same.0 same.1
      )) in
      let zero_i : 0 + i ≡ i = omega arith in
      let input : i < spec.0.inputs → slice_get z.inputs i ≡ Some (From c) = λ below. (
      ports-at (input_at plan q spec.0) 0 spec.0.inputs i below ∙ ap (λ (m : ℕ). Some (input_at plan q spec.0 m)) zero_i ∙ ap (λ (d : Option ℕ). Some (connected_or (text_at spec.0.initials i) d)) receive
      ) in (
        y.0,
        y.1,
        elim (same_or_not i spec.0.inputs) as (λ _. (slice_get y.0.inputs i ≡ Some (From c)) ⊎ (y.0.signal ≡ Some c)) [
          | inl same ↦ inr (ap (λ (w : Wires). w.signal) y.2 ∙ ap (receives_at plan q) (sym same) ∙ receive)
          | inr other ↦ inl (ap (λ (w : Wires). slice_get w.inputs i) y.2 ∙ input (below-other i spec.0.inputs spec.2 other))
        ],
      )
    where
      below-other : (i n : ℕ) → i ≤ n → (i ≡ n → ⊥) → i < n
      below-other i n most other = grind (arith)

  -- a connection to which a process that hasn't begun to close may send has an open sender
  output-open : (p o c : ℕ) (x : Process K) → slice_get s.kept.processes p ≡ Some x → output_at x o ≡ Some c → ((j : ℕ) → HasToClose x.stage j) → (channel : Channel) × (slice_get s.kept.channels c ≡ Some channel) × (channel.open_senders ≡ [] → ⊥)
  output-open p o c x there out has = by (slice_get x.outputs o) refl out
    where
      by : (found : Option (Option ℕ)) → slice_get x.outputs o ≡ found → option_and_then (λ (d : Option ℕ). d) found ≡ Some c → (channel : Channel) × (slice_get s.kept.channels c ≡ Some channel) × (channel.open_senders ≡ [] → ⊥)
      by None at is = absurd (cc)
      by (Some None) at is = absurd (cc)
      by (Some (Some d)) at is =
          let same : d ≡ c = one-of d c is in
          let outlet = outlet-of 0 x.outputs o d at in
          let open_one = fit.valid.senders p outlet.0 x outlet.1 there outlet.2 (has outlet.0) in
          (open_one.0, ap (slice_get s.kept.channels) (sym (outlet.3 ∙ same)) ∙ open_one.1, λ none. (let bad = rw none at open_one.2 in cc))

  -- where a process is blocked so, it waits for one that is blocked
  waits-so : (p : ℕ) (x : Process K) (b : Block) → slice_get s.kept.processes p ≡ Some x → BlockedSo x b → (w : Waits) × (waits_by plan s.kept.channels p x b ≡ Some w) × IsSome (block s.kept w.to) × (w.process ≡ p)
  waits-so p x b there (empty port c at input is) =
      let there_c = input-there p port.0 c x there input in
      let none : received_from port.0 c (slice_get (looks s.kept.channels) c) ≡ None =
      sym (ap (stage_event (looks s.kept.channels) x 0) at ∙ ap (receive_event (looks s.kept.channels) x port.0) input) ∙ deadlock.0.still p x 0 there in
      let first = receive-first s.kept.channels port.0 c there_c.0 there_c.1 none in (
        waits_for_sender p c first.0,
        ap (waits_by plan s.kept.channels p x) is ∙ ap (option_map (waits_for_sender p c)) (first-is s.kept.channels c first.0 first.1),
        sender-blocked c first.0 first.1,
        refl,
      )
  waits-so p x b there (full port id c at output is) =
      let open_one = output-open p port.0 c x there output (λ j. subst (λ (st : Stage). HasToClose st j) (sym at) tt) in
      let below = there-below s.kept.channels c open_one.0 open_one.1 in
      let connection = is-there plan.connections c (omega (arith, below, channels.as_many)) in
      let y = receiver-now c connection.0 connection.1 in (
        waits_for_receiver p c connection.0,
        ap (waits_by plan s.kept.channels p x) is ∙ ap (option_map (waits_for_receiver p c)) connection.1,
        block-at connection.0.receiver y.0 y.1 (blocked connection.0.receiver y.0 y.1 (λ ended. (
            let h : IsDry s.kept.channels c = elim y.2 as (λ _. IsDry s.kept.channels c) [
              | inl at_input ↦ ended-dry connection.0.receiver connection.0.input c y.0 y.1 ended at_input
              | inr at_signal ↦ signal-dry_then connection.0.receiver c y.0 y.1 ended at_signal
            ] in
            let same : open_one.0 ≡ h.channel = one-of open_one.0 h.channel (sym open_one.1 ∙ h.there) in
            open_one.2 (ap (λ (ch : Channel). ch.open_senders) same ∙ h.closed)
            ))),
        refl,
      )
  waits-so p x b there (dormant at is) =
      let none : idle_event (looks s.kept.channels) x ≡ None = sym (ap (stage_event (looks s.kept.channels) x 0) at) ∙ deadlock.0.still p x 0 there in
      let first = dormant-first s.kept.channels p x none (λ i c input. input-there p i c x there input) (λ c signal. signal-there p c x there signal) in
      (waits_for_sender p first.0 first.1, ap (waits_by plan s.kept.channels p x) is ∙ first.3, sender-blocked first.0 first.1 first.2, refl)

  -- each blocked process waits for one that is blocked
  pub blocked-waits : (p : ℕ) → IsSome (block s.kept p) → (w : Waits) × (waits_at plan s.kept p ≡ Some w) × IsSome (block s.kept w.to) × (w.process ≡ p)
  blocked-waits p some = by (slice_get s.kept.processes p) refl some
    where
      block-of : (x : Process K) (found : Option Block) → slice_get s.kept.processes p ≡ Some x → block_of (looks s.kept.channels) x ≡ found → IsSome found → (w : Waits) × (waits_at plan s.kept p ≡ Some w) × IsSome (block s.kept w.to) × (w.process ≡ p)
      block-of x None there at some = absurd (cc)
      block-of x (Some b) there at some =
          let w = waits-so p x b there (blocked-so x b (block-waits (looks s.kept.channels) x b at)) in
          (w.0, ap (option_and_then (waits_of plan s.kept.channels p)) there ∙ ap (option_and_then (waits_by plan s.kept.channels p x)) at ∙ w.1, w.2, w.3)

      by : (found : Option (Process K)) → slice_get s.kept.processes p ≡ found → IsSome (option_and_then (block_of (looks s.kept.channels)) found) → (w : Waits) × (waits_at plan s.kept p ≡ Some w) × IsSome (block s.kept w.to) × (w.process ≡ p)
      by None there some = absurd (cc)
      by (Some x) there some = block-of x (block_of (looks s.kept.channels) x) there refl some
