-- Turns of bodies and connections are turns of the net.
use Rattle.std.proofs.Common.{◌≡◌, ℕ, ◌≤◌, Bool, true, false, cond, List, [], ◌∷◌, length, Option, Some, None, refl, ap, sym, subst, ◌∙◌, slice_get, slice_set, nat_lt, nat_le, ◌==◌}
use Rattle.std.specs.Prelude.{option_and_then, is_some, IfSome, unwrap_or, ◌&&◌}
use Rattle.std.proofs.lemmas.List.{set-get_or}
use Rattle.std.proofs.lemmas.Option.{get_or_from_slice_get}
use Rattle.flow_packet.specs.Tree.{Tree}
use Rattle.flow_packet.specs.Hands.{packet_at}
use Rattle.flow_component.specs.declared.Port.{Port}
use Rattle.flow_component.specs.declared.Wish.TheVariants as wishes
use Rattle.flow_model.specs.declared.Stage.{Stage}
use Rattle.flow_model.specs.declared.Stage.TheVariants as stages
use Rattle.flow_model.specs.declared.Block.{Block}
use Rattle.flow_model.specs.declared.Block.TheVariants as blocks
use Rattle.flow_model.specs.States.{Input, From, Text, Process, Outlet, outlets, output_at}
use Rattle.flow_model.specs.Events.{Event, Gets, Takes_text, Hears_end, Sends, Learns, Closes, Look, event_from, stage_event, received, received_from, receive_event, sent, told_level, level_in, is_fresh}
use Rattle.flow_model.specs.Turns.{process_after, ChangeAt, change_of, change_one}
use Rattle.flow_model.specs.Order.{connection_of}
use Rattle.flow_model.specs.Verdicts.{block_of, exact_level, exact_level_for, waits_for}
use Rattle.flow_model.specs.Stands.{ChannelShown, look_shown, shown_after, all_shown_after, shown_changed, shown_by}
use Rattle.flow_model.proofs.Lists.{change_at-some}
use Rattle.flow_machine.specs.Values.{BodyValue, NetValue, net_of}
use Rattle.flow_machine.specs.declared.answers.Case.{Case}
use Rattle.flow_machine.specs.declared.answers.Case.TheVariants as cases
use Rattle.flow_machine.specs.declared.answers.Over.{Over}
use Rattle.flow_machine.specs.declared.answers.Over.TheVariants as overs
use Rattle.flow_machine.specs.declared.answers.Turn.{Turn as Answer}
use Rattle.flow_machine.specs.declared.answers.Turn.TheVariants as turns
use Rattle.flow_machine.specs.Answers.{case_of, stage_case, receive_case, send_case, level_case, close_case, CaseIs}
use Rattle.flow_machine.specs.declared.answers.Effect.TheVariants as effects
use Rattle.flow_machine.specs.Effects.{id_sent, port_at, text_event, TakesTurn}
use Rattle.flow_machine.specs.Nets.{looks_of, PairTurns, WakeTurns, NetTurn, TurnsNet, level_of, packet_wished, HasFailed}
use Rattle.flow_machine.specs.Thoughts.{IsSetAt}
use Rattle.flow_model.specs.Stages.{IsThoughtStage}
use Rattle.flow_machine.proofs.Standings.{get-map}
use Rattle.flow_machine.proofs.Pairs.{told-some}

-- a process that has a case is what the case asks for
pub case-is : {K : Type 0} (x : Process K) (case : Case) → case_of x ≡ Some case → CaseIs x case
case-is {K} x case is = by x.stage refl is
  where
    give : (v : Case) → CaseIs x v → Some v ≡ Some case → CaseIs x case
    give v h e = let same : v ≡ case = cc in subst (CaseIs x) same h

    receives : (port : Port) → x.stage ≡ stages.Wishing (wishes.Receive port) → (found : Option Input) → slice_get x.inputs port.0 ≡ found → receive_case port found ≡ Some case → CaseIs x case
    receives port at (Some (From c)) there e = give (cases.Receive c port) (at, there) e
    receives port at (Some (Text text)) there e = give (cases.Initial port) (text, at, there) e
    receives port at None there e = absurd (cc)

    sends : (port : Port) (id : ℕ) → x.stage ≡ stages.Wishing (wishes.Send port id) → (found : Option ℕ) → output_at x port.0 ≡ found → send_case port found ≡ Some case → CaseIs x case
    sends port id at (Some c) there e = give (cases.Send c port) (id, at, there) e
    sends port id at None there e = absurd (cc)

    levels : (port : Port) → x.stage ≡ stages.Wishing (wishes.Level port) → (found : Option ℕ) → output_at x port.0 ≡ found → level_case port found ≡ Some case → CaseIs x case
    levels port at (Some c) there e = give (cases.Level c port) (at, there) e
    levels port at None there e = absurd (cc)

    closes : (i : ℕ) → x.stage ≡ stages.Closing i → (found : Option Outlet) → slice_get (outlets x) i ≡ found → close_case found ≡ Some case → CaseIs x case
    closes i at (Some outlet) there e = give (cases.Close outlet.connection) (i, outlet, at, there, refl) e
    closes i at None there e = absurd (cc)

    by : (stage : Stage) → x.stage ≡ stage → stage_case x stage ≡ Some case → CaseIs x case
    by stages.Idle at e = give cases.Idle at e
    by (stages.Told answer) at e = absurd (cc)
    by (stages.Wishing (wishes.Receive port)) at e = receives port at (slice_get x.inputs port.0) refl e
    by (stages.Wishing (wishes.Send port id)) at e = sends port id at (output_at x port.0) refl e
    by (stages.Wishing (wishes.Level port)) at e = levels port at (output_at x port.0) refl e
    by (stages.Wishing wishes.Deactivate) at e = give cases.Deactivate at e
    by (stages.Closing i) at e = closes i at (slice_get (outlets x) i) refl e
    by stages.Ended at e = give (cases.Over overs.Ended) at e
    by (stages.Failed cause) at e = give (cases.Over overs.Failed) (cause, at) e

-- What holds if something is there holds of what is there.
pub if_some : {A : Type 0} (o : Option A) (P : A → Type 0) (x : A) → o ≡ Some x → IfSome o P → P x
if_some {A} o P x is h = let Q : Option A → Type 0 = λ q. IfSome q P in subst Q is h

-- What holds of what is there holds if something is there.
pub some_if : {A : Type 0} (o : Option A) (P : A → Type 0) (x : A) → o ≡ Some x → P x → IfSome o P
some_if {A} o P x is h = let Q : Option A → Type 0 = λ q. IfSome q P in subst Q (sym is) h

-- Setting a member to itself changes nothing.
pub set-same : {A : Type 0} (xs : List A) (i : ℕ) (x : A) → slice_get xs i ≡ Some x → slice_set xs i x ≡ xs
set-same xs i x is = ap (slice_set xs i) (sym (get_or_from_slice_get xs i x x is)) ∙ set-get_or xs i x

-- the event is at the connection, or at none
abbrev pub IsChangeOn : ℕ → Option ChangeAt → Type 0
IsChangeOn c (Some at) = at.connection ≡ c
IsChangeOn c None = Unit {0}

abbrev pub IsOn : ℕ → Event → Type 0
IsOn c event = IsChangeOn c (change_of event)

-- An event on one connection changes that one alone.
pub all-on : (c : ℕ) (channels : List ChannelShown) (channel : ChannelShown) (e : Event) → IsOn c e → slice_get channels c ≡ Some channel → all_shown_after e channels ≡ slice_set channels c (shown_after e channel)
all-on c channels channel e on is = by (change_of e) on
  where
    by : (change : Option ChangeAt) → IsChangeOn c change → change_one shown_changed change channels ≡ slice_set channels c (shown_by change channel)
    by (Some at) on = change_at-some channels at.connection (shown_changed at.change) channel (ap (slice_get channels) on ∙ is) ∙ ap (λ n. slice_set channels n (shown_changed at.change channel)) on
    by None on = sym (set-same channels c channel is)

-- a turn of a body at a connection is a turn of the net
pub pair-net : {K : Type 0} (bodies : List (BodyValue K)) (channels : List ChannelShown) (p c n stamp : ℕ) (b b' : BodyValue K) (channel channel' : ChannelShown) (found : Option Event) (block : Block) (answer : Answer)
    → slice_get bodies p ≡ Some b → slice_get channels c ≡ Some channel → event_from (looks_of channels) b.process n ≡ found → ((event : Event) → found ≡ Some event → IsOn c event)
    → (found ≡ None → block_of (looks_of channels) b.process ≡ Some block) → PairTurns found block stamp b channel answer b' channel'
    → TurnsNet (net_of bodies channels) p n stamp answer (net_of (slice_set bodies p b') (slice_set channels c channel'))
pair-net {K} bodies channels p c n stamp b b' channel channel' found block (turns.Made s) at_p at_c happens on blocked made = let t = made.1 in (
  made.0,
  (
    t.0,
    record {
      before = b;
      after = b';
      there = at_p;
      happens = happens ∙ t.1;
      turn = t.2;
      bodies = refl;
      channels = ap (slice_set channels c) t.3 ∙ sym (all-on c channels channel t.0 (on t.0 t.1) at_c);
      connections = refl;
    },
  ),
)
pair-net {K} bodies channels p c n stamp b b' channel channel' found block (turns.Blocked w) at_p at_c happens on blocked not_made =
    let bodies_are : slice_set bodies p b' ≡ bodies = ap (slice_set bodies p) not_made.2 ∙ set-same bodies p b at_p in
    let channels_are : slice_set channels c channel' ≡ channels = ap (slice_set channels c) not_made.3 ∙ set-same channels c channel at_c in
    (ap (option_and_then (λ (x : BodyValue K). block_of (looks_of channels) x.process)) at_p ∙ blocked not_made.1 ∙ ap (λ v. Some v) (sym not_made.0), λ i. net_of (bodies_are i) (channels_are i))
pair-net {K} bodies channels p c n stamp b b' channel channel' found block (turns.Over over) at_p at_c happens on blocked never = absurd never

-- the same of a turn of an idle body
pub wake-net : {K : Type 0} (bodies : List (BodyValue K)) (channels channels' : List ChannelShown) (p n stamp : ℕ) (b b' : BodyValue K) (found : Option Event) (block : Block) (answer : Answer)
    → slice_get bodies p ≡ Some b → event_from (looks_of channels) b.process n ≡ found
    → (found ≡ None → block_of (looks_of channels) b.process ≡ Some block) → WakeTurns found block stamp b channels answer b' channels'
    → TurnsNet (net_of bodies channels) p n stamp answer (net_of (slice_set bodies p b') channels')
wake-net {K} bodies channels channels' p n stamp b b' found block (turns.Made s) at_p happens blocked made = let t = made.1 in (
  made.0,
  (
    t.0,
    record {
      before = b;
      after = b';
      there = at_p;
      happens = happens ∙ t.1;
      turn = t.2;
      bodies = refl;
      channels = t.3;
      connections = refl;
    },
  ),
)
wake-net {K} bodies channels channels' p n stamp b b' found block (turns.Blocked w) at_p happens blocked not_made =
    let bodies_are : slice_set bodies p b' ≡ bodies = ap (slice_set bodies p) not_made.2 ∙ set-same bodies p b at_p in
    (ap (option_and_then (λ (x : BodyValue K). block_of (looks_of channels) x.process)) at_p ∙ blocked not_made.1 ∙ ap (λ v. Some v) (sym not_made.0), λ i. net_of (bodies_are i) (not_made.3 i))
wake-net {K} bodies channels channels' p n stamp b b' found block (turns.Over over) at_p happens blocked never = absurd never

-- where a process has no turn its block is what it waits for
pub blocks-by : {K : Type 0} (looks : List Look) (x : Process K) (block : Block) → event_from looks x (exact_level looks x) ≡ None → waits_for x x.stage ≡ Some block → block_of looks x ≡ Some block
blocks-by looks x block none waits = ap (λ (o : Option Event). cond (is_some o) None (waits_for x x.stage)) none ∙ waits

look-there : (channels : List ChannelShown) (c : ℕ) (channel : ChannelShown) → slice_get channels c ≡ Some channel → slice_get (looks_of channels) c ≡ Some (look_shown channel)
look-there channels c channel is = get-map look_shown channels c channel is

-- the event of a receive from a connection
pub receives : {K : Type 0} (channels : List ChannelShown) (x : Process K) (n c : ℕ) (port : Port) (channel : ChannelShown) → x.stage ≡ stages.Wishing (wishes.Receive port) → slice_get x.inputs port.0 ≡ Some (From c) → slice_get channels c ≡ Some channel
    → event_from (looks_of channels) x n ≡ received port.0 c channel.packets channel.open_senders
receives channels x n c port channel stage input there =
    ap (stage_event (looks_of channels) x n) stage ∙ ap (receive_event (looks_of channels) x port.0) input ∙ ap (received_from port.0 c) (look-there channels c channel there)

end-on : (c port senders : ℕ) (b : Bool) (e : Event) → cond b (Some (Hears_end port)) None ≡ Some e → IsOn c e
end-on c port senders true e is = let h : Hears_end port ≡ e = cc in subst (IsOn c) h tt
end-on c port senders false e is = absurd (cc)

-- A get, or an end that is heard, is on its connection.
pub received-on : (port c senders : ℕ) (packets : List Tree) (e : Event) → received port c packets senders ≡ Some e → IsOn c e
received-on port c senders [] e is = end-on c port senders (senders == 0) e is
received-on port c senders (packet ∷ packets) e is = let h : Gets port c packet ≡ e = cc in subst (IsOn c) h refl

-- A process that wishes to receive waits for a packet on its connection.
pub waits-receive : {K : Type 0} (x : Process K) (port : Port) (c : ℕ) → x.stage ≡ stages.Wishing (wishes.Receive port) → slice_get x.inputs port.0 ≡ Some (From c) → waits_for x x.stage ≡ Some (blocks.Empty c port)
waits-receive x port c stage input = ap (waits_for x) stage ∙ ap (λ i. option_and_then (λ d. Some (blocks.Empty d port)) (connection_of i)) input

-- the event of a send
pub sends : {K : Type 0} (channels : List ChannelShown) (x : Process K) (n c : ℕ) (port : Port) (id : ℕ) (channel : ChannelShown) → x.stage ≡ stages.Wishing (wishes.Send port id) → output_at x port.0 ≡ Some c → slice_get channels c ≡ Some channel
    → event_from (looks_of channels) x n ≡ sent port.0 c (packet_wished x) (Some (look_shown channel))
sends channels x n c port id channel stage output there =
    ap (stage_event (looks_of channels) x n) stage ∙ ap (option_and_then (λ d. sent port.0 d (packet_at x.held.packets id) (slice_get (looks_of channels) d))) output
    ∙ ap (sent port.0 c (packet_at x.held.packets id)) (look-there channels c channel there) ∙ ap (λ o. sent port.0 c (option_and_then (packet_at x.held.packets) o) (Some (look_shown channel))) (sym (ap id_sent stage))

send-on : (port c : ℕ) (packet : Tree) (b : Bool) (e : Event) → cond b (Some (Sends port c packet)) None ≡ Some e → IsOn c e
send-on port c packet true e is = let h : Sends port c packet ≡ e = cc in subst (IsOn c) h refl
send-on port c packet false e is = absurd (cc)

-- A send is on its connection.
pub sent-on : (port c : ℕ) (found : Option Tree) (channel : ChannelShown) (e : Event) → sent port c found (Some (look_shown channel)) ≡ Some e → IsOn c e
sent-on port c None channel e is = absurd (cc)
sent-on port c (Some packet) channel e is = send-on port c packet (nat_lt (length channel.packets) channel.capacity) e is

-- A process that wishes to send waits for a free place on its connection.
pub waits-send : {K : Type 0} (x : Process K) (port : Port) (id c : ℕ) → x.stage ≡ stages.Wishing (wishes.Send port id) → output_at x port.0 ≡ Some c → waits_for x x.stage ≡ Some (blocks.Full c port)
waits-send x port id c stage output = ap (waits_for x) stage ∙ ap (option_and_then (λ d. Some (blocks.Full d port))) output

-- the event of a question for a level
pub learns : {K : Type 0} (channels : List ChannelShown) (x : Process K) (n c : ℕ) (port : Port) (channel : ChannelShown) → x.stage ≡ stages.Wishing (wishes.Level port) → output_at x port.0 ≡ Some c → slice_get channels c ≡ Some channel
    → event_from (looks_of channels) x n ≡ told_level port.0 n (Some (look_shown channel))
learns channels x n c port channel stage output there =
    ap (stage_event (looks_of channels) x n) stage ∙ ap (option_and_then (λ d. told_level port.0 n (slice_get (looks_of channels) d))) output ∙ ap (told_level port.0 n) (look-there channels c channel there)

learn-on : (c port n : ℕ) (b : Bool) (e : Event) → cond b (Some (Learns port n)) None ≡ Some e → IsOn c e
learn-on c port n true e is = let h : Learns port n ≡ e = cc in subst (IsOn c) h tt
learn-on c port n false e is = absurd (cc)

-- A level that is told is on its connection.
pub told-on : (c port n : ℕ) (channel : ChannelShown) (e : Event) → told_level port n (Some (look_shown channel)) ≡ Some e → IsOn c e
told-on c port n channel e is = learn-on c port n (nat_le (length channel.packets) n && nat_le n channel.capacity) e is

-- the exact level
pub exact : {K : Type 0} (channels : List ChannelShown) (x : Process K) (c : ℕ) (port : Port) (channel : ChannelShown) → x.stage ≡ stages.Wishing (wishes.Level port) → output_at x port.0 ≡ Some c → slice_get channels c ≡ Some channel
    → exact_level (looks_of channels) x ≡ length channel.packets
exact channels x c port channel stage output there =
    ap (exact_level_for (looks_of channels) x) stage ∙ ap (λ (o : Option ℕ). unwrap_or (option_and_then (λ d. Some (level_in (slice_get (looks_of channels) d))) o) 0) output ∙ ap level_in (look-there channels c channel there)

-- A process of the net is told the level that its looks give it.
pub level-there : {K : Type 0} (net : NetValue K) (p : ℕ) (b : BodyValue K) → slice_get net.bodies p ≡ Some b → level_of net p ≡ exact_level (looks_of net.channels) b.process
level-there {K} net p b there = ap (λ (o : Option (BodyValue K)). unwrap_or (option_and_then (λ (x : BodyValue K). Some (exact_level (looks_of net.channels) x.process)) o) 0) there

-- a receive on a port with an initial text
pub text-turn : {K : Type 0} (b b' : BodyValue K) (channels : List ChannelShown) (bodies : List (BodyValue K)) (p n stamp : ℕ) (port : Port) (text : List ℕ) → slice_get bodies p ≡ Some b → b.process.stage ≡ stages.Wishing (wishes.Receive port) → slice_get b.process.inputs port.0 ≡ Some (Text text)
    → TakesTurn b effects.Initial stamp b' → (event : Event) × NetTurn (net_of bodies channels) p n event stamp (net_of (slice_set bodies p b') channels)
text-turn {K} b b' channels bodies p n stamp port text there stage input takes = by (is_fresh b.process port.0) refl
  where
    happens : event_from (looks_of channels) b.process n ≡ cond (is_fresh b.process port.0) (Some (Takes_text port.0 text)) (Some (Hears_end port.0))
    happens = ap (stage_event (looks_of channels) b.process n) stage ∙ ap (receive_event (looks_of channels) b.process port.0) input

    process : (fresh : Bool) → is_fresh b.process port.0 ≡ fresh → b'.process ≡ process_after b.process (text_event port.0 fresh (Some (Text text)))
    process fresh is =
        takes.process ∙ ap (λ (q : ℕ). process_after b.process (text_event q (is_fresh b.process q) (slice_get b.process.inputs q))) (ap port_at stage)
        ∙ ap (λ (t : Bool). process_after b.process (text_event port.0 t (slice_get b.process.inputs port.0))) is ∙ ap (λ (i : Option Input). process_after b.process (text_event port.0 fresh i)) input

    by : (fresh : Bool) → is_fresh b.process port.0 ≡ fresh → (event : Event) × NetTurn (net_of bodies channels) p n event stamp (net_of (slice_set bodies p b') channels)
    by true is = (
      Takes_text port.0 text,
      record {
        before = b;
        after = b';
        there = there;
        happens = happens ∙ ap (λ (t : Bool). cond t (Some (Takes_text port.0 text)) (Some (Hears_end port.0))) is;
        turn = record { process = process true is; dropped = takes.dropped; leaving = takes.leaving; stamps = takes.stamps; levels = takes.levels };
        bodies = refl;
        channels = refl;
        connections = refl;
      },
    )
    by false is = (
      Hears_end port.0,
      record {
        before = b;
        after = b';
        there = there;
        happens = happens ∙ ap (λ (t : Bool). cond t (Some (Takes_text port.0 text)) (Some (Hears_end port.0))) is;
        turn = record { process = process false is; dropped = takes.dropped; leaving = takes.leaving; stamps = takes.stamps; levels = takes.levels };
        bodies = refl;
        channels = refl;
        connections = refl;
      },
    )

-- a process that is over
pub over-net : {K : Type 0} (net : NetValue K) (p n stamp : ℕ) (b : BodyValue K) (over : Over) → slice_get net.bodies p ≡ Some b → CaseIs b.process (cases.Over over) → TurnsNet net p n stamp (turns.Over over) net
over-net {K} net p n stamp b overs.Ended there is = (some_if (slice_get net.bodies p) (λ (x : BodyValue K). x.process.stage ≡ stages.Ended) b there is, refl)
over-net {K} net p n stamp b overs.Failed there is = (some_if (slice_get net.bodies p) (λ (x : BodyValue K). HasFailed x.process.stage) b there is, refl)
over-net net p n stamp b overs.Starved there is = absurd is

-- a body that is set has no work to come
pub set-thought : {K : Type 0} (b : BodyValue K) (stage : Stage) → IsSetAt b stage → IsThoughtStage stage
set-thought b (stages.Told answer) set = set
set-thought b stage set = tt

-- a turn that closes an output
pub close-turn : {K : Type 0} (channels : List ChannelShown) (x : Process K) (n c i : ℕ) (outlet : Outlet) → x.stage ≡ stages.Closing i → slice_get (outlets x) i ≡ Some outlet → outlet.connection ≡ c → event_from (looks_of channels) x n ≡ Some (Closes outlet.output c)
close-turn channels x n c i outlet stage is same =
    ap (stage_event (looks_of channels) x n) stage ∙ ap (option_and_then (λ (o : Outlet). Some (Closes o.output o.connection))) is ∙ ap (λ d. Some (Closes outlet.output d)) same

-- A close is on its connection.
pub close-on : (c output : ℕ) (e : Event) → Some (Closes output c) ≡ Some e → IsOn c e
close-on c output e is = let h : Closes output c ≡ e = cc in subst (IsOn c) h refl

-- A close always happens.
pub no-close : (output c : ℕ) (P : Type 0) → Some (Closes output c) ≡ None → P
no-close output c P is = absurd (cc)

-- A level between the length and the capacity may be told.
pub learned-some : (port n : ℕ) (channel : ChannelShown) → length channel.packets ≤ n → n ≤ channel.capacity → told_level port n (Some (look_shown channel)) ≡ None → ⊥
learned-some port n channel least most none = let h : Some (Learns port n) ≡ None = sym (told-some port n channel least most) ∙ none in cc
