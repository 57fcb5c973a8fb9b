-- A turn changes the body as its event does.
use Rattle.std.proofs.Common.{◌≡◌, ℕ, ◌+◌, ◌-◌, ◌<◌, ◌≤◌, true, false, cond, [], ◌∷◌, ◌++◌, length-append, nat_lt, length, Option, Some, None, refl, ap, sym, subst, ◌∙◌, arith, slice_get, inl, Bool}
use Rattle.std.proofs.lemmas.Bool.Decides.{nat_tests}
use Rattle.std.specs.Prelude.{IsSome, IfSome, option_and_then}
use Rattle.std.specs.Option.{option_map}
use Rattle.flow_packet.specs.Tree.{Tree}
use Rattle.flow_packet.specs.Hands.{packet_at}
use Rattle.flow_component.specs.Laws.{Rules}
use Rattle.flow_component.specs.declared.Port.{Port}
use Rattle.flow_component.specs.declared.Wish.TheVariants as wishes
use Rattle.flow_model.specs.Events.{Event, Sends, Closes, sent, is_fresh}
use Rattle.flow_model.specs.Stands.{ChannelShown, look_shown, shown_after, dropped_after}
use Rattle.flow_model.specs.declared.Block.TheVariants.{Dormant}
use Rattle.flow_model.specs.declared.Stage.TheVariants as stages
use Rattle.flow_model.specs.States.{From, Outlet, Input, Text}
use Rattle.flow_model.specs.Turns.{process_after}
use Rattle.flow_machine.specs.Values.{BodyValue}
use Rattle.flow_machine.specs.Nets.{BodyTurn, packet_wished, levels_told}
use Rattle.flow_machine.specs.Effects.{id_sent, TakesTurn, text_event, port_at}
use Rattle.flow_machine.specs.declared.answers.Effect.TheVariants as effects
use Rattle.flow_machine.proofs.Pairs.{body-turn, sent-off, left_behind}
use Rattle.flow_floor.specs.Law.{Rests}
use Rattle.flow_floor.specs.Turning.{turned_body, sent_event, closed_event}
use Rattle.flow_floor.proofs.Lists.{some_Some}

module _ {K : Type 0} (rules : Rules K) where
  -- a body after its turn agrees with what the machine has of it
  pub rests-turned : (b d : BodyValue K) (e : Event) (r : ℕ) → BodyTurn b e r d → Rests rules (turned_body e r b) d
  rests-turned b d e r turn = (inl (record { process = turn.process; dropped = turn.dropped }), record { stamps = turn.stamps; levels = turn.levels; leaving = turn.leaving })

sent-is : (port c : ℕ) (found : Option Tree) (k : ChannelShown) → IsSome found → length k.packets < k.capacity → sent port c found (Some (look_shown k)) ≡ Some (sent_event port c found)
sent-is port c (Some packet) k there room = (let z : nat_lt (length k.packets) k.capacity ≡ true = grind (arith, nat_tests) in ap (λ b. cond b (Some (Sends port c packet)) None) z)
sent-is port c None k there room = absurd (cc)

-- Sending changes body and connection as that event does.
pub send-deed : {K : Type 0} (b mid d : BodyValue K) (port : Port) (c r id : ℕ) (k k' : ChannelShown) (packet : Tree) (e : Event) → e ≡ sent_event port.0 c (packet_wished b.process) → b.process.stage ≡ stages.Wishing (wishes.Send port id)
    → IfSome (id_sent b.process.stage) (λ id. packet_at b.process.held.packets id ≡ Some packet) → IfSome (id_sent b.process.stage) (λ id. mid ≡ left_behind b packet id) → length k.packets < k.capacity → k' ≡ record k { packets = k.packets ++ packet ∷ []; puts = k.puts + 1 }
    → TakesTurn mid effects.Sent r d → BodyTurn b e r d × (k' ≡ shown_after e k) × (length k'.packets ≤ k.capacity) × (k'.open_senders ≡ k.open_senders)
send-deed {K} b mid d port c r id k k' packet e e_is stage found left room put takes =
    let t = sent-off b mid d k k' port c id r Dormant packet stage found left room put takes in
    let ev = t.1 in
    let same : Some ev.0 ≡ Some (sent_event port.0 c (packet_wished b.process)) = sym ev.1 ∙ sent-is port.0 c (packet_wished b.process) k wished room in
    let is : ev.0 ≡ e = some_Some ev.0 (sent_event port.0 c (packet_wished b.process)) same ∙ sym e_is in
    subst (λ (x : Event). BodyTurn b x r d × (k' ≡ shown_after x k) × (length k'.packets ≤ k.capacity) × (k'.open_senders ≡ k.open_senders)) is
    (ev.2, ev.3, omega (arith, ap (λ (x : ChannelShown). length x.packets) put, length-append k.packets (packet ∷ []), room), ap (λ (x : ChannelShown). x.open_senders) put)
  where
    wished : IsSome (packet_wished b.process)
    wished = let at : packet_at b.process.held.packets id ≡ Some packet = (let Q : Option ℕ → Type 0 = λ o. IfSome o (λ id. packet_at b.process.held.packets id ≡ Some packet) in subst Q (ap id_sent stage) found) in
        subst (λ (x : Option Tree). IsSome x) (sym (ap (option_and_then (packet_at b.process.held.packets)) (ap id_sent stage) ∙ at)) refl

-- The connection that is closed is that of an output.
pub closed-is : (found : Option Outlet) (c : ℕ) → option_map (λ (o : Outlet). o.connection) found ≡ Some c → (o : Outlet) × (found ≡ Some o) × (o.connection ≡ c)
closed-is (Some o) c is = (o, refl, some_Some o.connection c is)
closed-is None c is = absurd (cc)

-- Closing an output changes body and connection as that event does.
pub close-deed : {K : Type 0} (b d : BodyValue K) (found : Option Outlet) (c r : ℕ) (k k' : ChannelShown) (e : Event) → e ≡ closed_event found → option_map (λ (o : Outlet). o.connection) found ≡ Some c → k' ≡ record k { open_senders = k.open_senders - 1 } → TakesTurn b effects.Closed r d
    → BodyTurn b e r d × (k' ≡ shown_after e k) × (k'.packets ≡ k.packets) × (k'.open_senders ≤ k.open_senders)
close-deed {K} b d found c r k k' e e_is outlet closed takes =
    let o = closed-is found c outlet in
    let is : e ≡ Closes o.0.output o.0.connection = e_is ∙ ap closed_event o.1 in
    subst (λ (x : Event). BodyTurn b x r d × (k' ≡ shown_after x k) × (k'.packets ≡ k.packets) × (k'.open_senders ≤ k.open_senders)) (sym is)
    (body-turn b d effects.Closed r (Closes o.0.output o.0.connection) takes refl refl refl, closed, ap (λ (x : ChannelShown). x.packets) closed, omega (arith, ap (λ (x : ChannelShown). x.open_senders) closed))

levels-none : (port : ℕ) (fresh : Bool) (input : Option Input) (r : ℕ) → levels_told (text_event port fresh input) r ≡ []
levels-none port true (Some (Text text)) r = refl
levels-none port true (Some (From c)) r = refl
levels-none port true None r = refl
levels-none port false input r = refl

drops-none : (port : ℕ) (fresh : Bool) (input : Option Input) (n : ℕ) → dropped_after (text_event port fresh input) n ≡ n
drops-none port true (Some (Text text)) n = refl
drops-none port true (Some (From c)) n = refl
drops-none port true None n = refl
drops-none port false input n = refl

-- Taking an initial text changes the body as that event does.
pub text-deed : {K : Type 0} (b d : BodyValue K) (port : Port) (r : ℕ) (e : Event) → e ≡ text_event port.0 (is_fresh b.process port.0) (slice_get b.process.inputs port.0) → b.process.stage ≡ stages.Wishing (wishes.Receive port) → TakesTurn b effects.Initial r d → BodyTurn b e r d
text-deed {K} b d port r e is stage takes = subst (λ (x : Event). BodyTurn b x r d) (sym is)
    (body-turn b d effects.Initial r (text_event port.0 (is_fresh b.process port.0) (slice_get b.process.inputs port.0)) takes (ap (λ (q : ℕ). process_after b.process (text_event q (is_fresh b.process q) (slice_get b.process.inputs q))) (ap port_at stage))
    (sym (levels-none port.0 (is_fresh b.process port.0) (slice_get b.process.inputs port.0) r))
    (sym (drops-none port.0 (is_fresh b.process port.0) (slice_get b.process.inputs port.0) b.dropped)))
