-- Each component is ready for what comes.
use Rattle.std.proofs.Common.{◌≡◌, ℕ, ◌+◌, ◌<◌, List, Some, ap, arith, nat_lt, ◌∙◌, sym, cond, slice_get, subst}
use Rattle.std.proofs.lemmas.Bool.Decides.{nat_tests}
use Rattle.flow_packet.specs.declared.packet.Kind.TheVariants as kinds
use Rattle.flow_packet.specs.Tree.{id_of}
use Rattle.flow_packet.specs.Ids.{maker_of, ordinal_of}
use Rattle.flow_packet.specs.Held.{Held, Sound, without_packet, with_packet, with_made}
use Rattle.flow_component.specs.declared.Answer.{Answer}
use Rattle.flow_component.specs.declared.Answer.TheVariants as answers
use Rattle.flow_component.specs.declared.Wish.{Wish}
use Rattle.flow_component.specs.declared.Wish.TheVariants as wishes
use Rattle.flow_component.specs.Laws.{Rules, Outcome, Wishes, Fails, ReadyIfSound, StaysReady}
use Rattle.flow_model.specs.declared.Stage.TheVariants as stages
use Rattle.flow_model.specs.States.{Process, Channel, State}
use Rattle.flow_model.specs.Events.{Event, Starts, Gets, Takes_text, Hears_end, Sends, Learns, Sleeps, Signals, event_of}
use Rattle.flow_model.specs.Turns.{process_after, happening, hands_after}
use Rattle.flow_model.specs.Works.{worked}
use Rattle.flow_model.specs.Places.{OnePlaceCounted, made_count, made_by}
use Rattle.flow_model.specs.Valid.{ReadyAt, IsNested, SmallCapacities}
use Rattle.flow_model.proofs.Inverse.{explains}
use Rattle.flow_model.proofs.Counts.{packet_at-id, held_count-component, made_by-most}
use Rattle.flow_model.proofs.Stages.{Passes, closing-elim, judged-elim, after-turn, after-stage, same-found}
use Rattle.flow_component.specs.Happenings.{Happening, answer_of}

-- the answer that a turn tells is one for which the component is ready
ready-told : {K : Type 0} (ready : Held → Answer → Type 0) (channels : List Channel) (x : Process K) (n : ℕ) (e : Event) → SmallCapacities channels → event_of channels x n ≡ Some e → ReadyAt ready x.held x.stage
    → (h : Happening) → happening x e ≡ Some h → ReadyIfSound ready (hands_after x e) (answer_of h)
ready-told ready channels x n Starts small is was h is_h = subst (λ (g : Happening). ReadyIfSound ready x.held (answer_of g)) (same-found is_h) (subst (ReadyAt ready x.held) (explains channels x n Starts is) was)
ready-told ready channels x n (Gets port c packet) small is was h is_h =
    subst (λ (g : Happening). ReadyIfSound ready (with_packet x.held packet) (answer_of g)) (same-found is_h) ((subst (ReadyAt ready x.held) (explains channels x n (Gets port c packet) is).stage was).1 packet)
ready-told ready channels x n (Takes_text port text) small is was h is_h =
    subst (λ (g : Happening). ReadyIfSound ready (with_made x.held kinds.Normal text) (answer_of g)) (same-found is_h) ((subst (ReadyAt ready x.held) (explains channels x n (Takes_text port text) is).stage was).2 text)
ready-told ready channels x n (Hears_end port) small is was h is_h =
    subst (λ (g : Happening). ReadyIfSound ready x.held (answer_of g)) (same-found is_h) (subst (ReadyAt ready x.held) (explains channels x n (Hears_end port) is).stage was).0
ready-told ready channels x n (Sends port c packet) small is was h is_h =
    let to = explains channels x n (Sends port c packet) is in
    let named : id_of packet ≡ to.id = packet_at-id x.held.packets to.id packet to.found in
    subst (λ (g : Happening). ReadyIfSound ready (without_packet x.held (id_of packet)) (answer_of g)) (same-found is_h)
    (subst (λ (id : ℕ). ReadyIfSound ready (without_packet x.held id) answers.Sent) (sym named) (subst (ReadyAt ready x.held) to.stage was))
ready-told ready channels x n (Learns port level) small is was h is_h =
    let at = explains channels x n (Learns port level) is in
    subst (λ (g : Happening). ReadyIfSound ready x.held (answer_of g)) (same-found is_h) (subst (ReadyAt ready x.held) at.stage was level (omega (arith, at.most, small at.c at.channel at.there)))
ready-told ready channels x n e small is was h is_h = absurd (cc)

-- after a turn the component is ready for its answer
pub ready-event : {K : Type 0} (ready : Held → Answer → Type 0) (channels : List Channel) (x : Process K) (n : ℕ) (e : Event) → SmallCapacities channels → event_of channels x n ≡ Some e
    → ReadyAt ready x.held x.stage → ReadyAt ready (process_after x e).held (process_after x e).stage
ready-event ready channels x n e small is was = after-turn channels x n e is (λ f _ stage. ReadyAt ready (hands_after x f) stage) tt (ready-told ready channels x n e small is was)
    (λ asleep. subst (ReadyAt ready x.held) (explains channels x n Sleeps asleep) was)
    (λ c packet signals. subst (ReadyAt ready x.held) (explains channels x n (Signals c packet) signals).stage was)
    (λ _. closing-elim (ReadyAt ready x.held) x 0 (λ _. tt) (λ _. tt)) (λ output c at. closing-elim (ReadyAt ready x.held) x (at.i + 1) (λ _. tt) (λ _. tt))

-- after a work the component is ready for whatever its wish may bring
pub ready-worked : {K : Type 0} (rules : Rules K) (x : Process K) (outcome : Outcome K) → StaysReady rules outcome → ReadyAt (rules.ready (worked x outcome).component) (worked x outcome).held (worked x outcome).stage
ready-worked rules x (Wishes component held wish) stays = judged-elim (ReadyAt (rules.ready component) held) x.depths held wish (λ cause. tt) (λ _. stays)
ready-worked rules x (Fails component held cause) stays = tt

-- A process that wishes to send after its work sends no Close packet without an open bracket.
pub nested-worked : {K : Type 0} (x : Process K) (outcome : Outcome K) → IsNested (worked x outcome) (worked x outcome).stage
nested-worked x (Wishes component held wish) = judged-elim (IsNested (worked x (Wishes component held wish))) x.depths held wish (λ cause. tt) (by wish)
  where
    by : (wish : Wish) → Passes x.depths held wish → IsNested (worked x (Wishes component held wish)) (stages.Wishing wish)
    by (wishes.Send port id) passes = passes
    by wish passes = tt
nested-worked x (Fails component held cause) = tt

-- after a turn no wish stands
pub nested-event : {K : Type 0} (channels : List Channel) (x : Process K) (n : ℕ) (e : Event) → event_of channels x n ≡ Some e → IsNested (process_after x e) (process_after x e).stage
nested-event channels x n e is = after-stage channels x n e is (IsNested (process_after x e)) tt (λ h _. tt) tt (closing-elim (IsNested (process_after x e)) x 0 (λ _. tt) (λ _. tt))
    (λ i _. closing-elim (IsNested (process_after x e)) x (i + 1) (λ _. tt) (λ _. tt))

-- in a state where each id has one place, all hands are sound
pub sound-hands : {K : Type 0} (s : State K) (p : ℕ) (x : Process K) → slice_get s.kept.processes p ≡ Some x → x.held.maker ≡ p → x.held.made < 4294967296 → OnePlaceCounted s → Sound x.held
sound-hands s p x there maker below place = record {
  once = λ id. omega (arith, held_count-component id s.kept.processes p x there, place id, made_by-most id (slice_get s.kept.processes (maker_of id)));
  counted = below;
  below = λ id here from.
      (let made : made_count id s.kept.processes ≡ cond (nat_lt (ordinal_of id) x.held.made) 1 0 = ap (made_by id) (ap (slice_get s.kept.processes) (from ∙ maker) ∙ there) in
      let some : 0 < cond (nat_lt (ordinal_of id) x.held.made) 1 0 = omega (arith, held_count-component id s.kept.processes p x there, place id, made, here) in
      grind (arith, nat_tests));
}
