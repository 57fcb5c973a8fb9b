-- A component that maps receives at its one input alone, and has heard the end of it when it has come to its own.
use Rattle.flow_limits.specs.declared.TheConstants.{TEXT_LIMIT}
use Rattle.std.proofs.Common.{◌≡◌, ◌≢◌, ℕ, ◌<◌, Bool, true, false, List, [], ◌∷◌, length, nat_lt, cond, refl, sym, subst, ap, ◌∙◌, arith, inl, inr}
use Rattle.flow_packet.specs.declared.packet.Kind.{Kind}
use Rattle.flow_packet.specs.declared.packet.Kind.TheVariants.{Normal, Open, Close}
use Rattle.flow_packet.specs.Hands.{kind_at, text_at}
use Rattle.flow_packet.specs.Held.{Held, next_id, with_made, without_packet}
use Rattle.flow_component.specs.declared.Fail.TheVariants.{TextLimit}
use Rattle.flow_component.specs.declared.Wish.{Wish}
use Rattle.flow_component.specs.declared.Wish.TheVariants as wishes
use Rattle.flow_component.specs.Laws.{Outcome, Wishes, Fails, IsAllowed}
use Rattle.flow_component.specs.Ports.{send_first}
use Rattle.flow_component.specs.Happenings.{Happening, Started, Received, Ended, Sent, Learned}
use Rattle.flow_component.specs.Runs.{Poise, fresh, Steps, Runs, IsEnd, HeardEnd}
use Rattle.flow_component.proofs.Streams.{stays-allowed}
use Rattle.flow_map.specs.declared.mapper.MapperPlace.{MapperPlace}
use Rattle.flow_map.specs.declared.mapper.MapperPlace.TheVariants.{Waiting, Making}
use Rattle.flow_map.specs.Mapping.{Mapping, Mapped, Next, Over, Itself, Last, More, waiting, gives, meets, goes_on, mapper_shape, mapper_uses, mapper_rules, IsMapping}
use Rattle.flow_map.specs.MappingLaws.{mapper_lawful}
use Rattle.flow_map.specs.Becoming.{MapperHears}

-- It receives at its one input alone.
abbrev pub OneInput : {K : Type 0} → Poise (Mapped K) → Type 0
OneInput p = (port : ℕ) → p.wish ≡ wishes.Receive (record { 0 = port }) → port < 1

-- It doesn't wish to be idle.
abbrev IsBusy : Wish → Type 0
IsBusy (wishes.Receive port) = Unit {0}
IsBusy (wishes.Send port id) = Unit {0}
IsBusy (wishes.Level port) = Unit {0}
IsBusy wishes.Deactivate = ⊥

abbrev StaysBusy : {K : Type 0} → Outcome K → Type 0
StaysBusy (Wishes component held wish) = IsBusy wish
StaysBusy (Fails component held cause) = Unit {0}

module _ {K : Type 0} (mapping : Mapping K) (is : IsMapping mapping) where
  -- After each step it receives at its one input alone.
  pub one-input : (p : Poise (Mapped K)) (e : Happening) (m : Poise (Mapped K)) → Steps (mapper_rules mapping) p e m → OneInput m
  one-input p e m s port receives =
      let allowed : IsAllowed (mapper_shape (mapping.second p.component.own)) (mapper_uses (mapping.second p.component.own)) m.held m.wish = stays-allowed (mapper_rules mapping) (mapper_lawful mapping is) p e m s in
      rw receives at allowed

  makes-busy : (long : Bool) (component component' : Mapped K) (held held' : Held) (count id : ℕ) → StaysBusy (cond long (Fails component held (TextLimit count)) (Wishes component' held' (send_first id)))
  makes-busy true component component' held held' count id = tt
  makes-busy false component component' held held' count id = tt

  gives-busy : (next : Next) (component : Mapped K) (held : Held) (id : ℕ) (text : List ℕ) → StaysBusy (gives mapping component held id text next)
  gives-busy Over component held id text = tt
  gives-busy Itself component held id text = tt
  gives-busy (Last product) component held id text =
      makes-busy (nat_lt TEXT_LIMIT (length product.text)) component (waiting (mapping.after component.own Normal text)) held (without_packet (with_made held product.kind product.text) id) (length product.text) (next_id held)
  gives-busy (More product place) component held id text =
      makes-busy (nat_lt TEXT_LIMIT (length product.text)) component (record component { place = Making id place }) held (with_made held product.kind product.text) (length product.text) (next_id held)

  meets-busy : (kind : Kind) (component : Mapped K) (held : Held) (id : ℕ) (text : List ℕ) → StaysBusy (meets mapping component held id kind text)
  meets-busy Normal component held id text = gives-busy (mapping.next component.own text 0) component held id text
  meets-busy Open component held id text = tt
  meets-busy Close component held id text = tt

  goes-busy : (place : MapperPlace) (component : Mapped K) (held : Held) → StaysBusy (goes_on mapping component held place)
  goes-busy Waiting component held = tt
  goes-busy (Making id place) component held =
      let text = text_at held.packets id in
      gives-busy (mapping.next component.own text place) component held id text

  -- Only the end of its input makes it idle.
  idle-at-end : (p : Poise (Mapped K)) (e : Happening) (m : Poise (Mapped K)) → OneInput p → Steps (mapper_rules mapping) p e m → m.wish ≡ wishes.Deactivate → IsEnd 0 e
  idle-at-end p Started m g s d = absurd (subst IsBusy d (subst StaysBusy (sym s.comes_to) tt))
  idle-at-end p (Received port t) m g s d =
      absurd (subst IsBusy d (subst StaysBusy (sym s.comes_to) (meets-busy (kind_at s.held.packets (Rattle.flow_packet.specs.Tree.id_of t)) p.component s.held (Rattle.flow_packet.specs.Tree.id_of t) (text_at s.held.packets (Rattle.flow_packet.specs.Tree.id_of t)))))
  idle-at-end p (Ended port) m g s d = omega (arith, g port s.grants.0)
  idle-at-end p (Sent port t) m g s d = absurd (subst IsBusy d (subst StaysBusy (sym s.comes_to) (goes-busy p.component.place p.component s.held)))
  idle-at-end p (Learned port level) m g s d = absurd s.is_ready

  heard : (es : List Happening) (p q : Poise (Mapped K)) → OneInput p → Runs (mapper_rules mapping) p es q → q.wish ≡ wishes.Deactivate → es ≢ [] → HeardEnd 0 es
  heard [] p q g r d some = absurd (some refl)
  heard (e ∷ []) p q g r d some = inl (idle-at-end p e r.0 g r.1 (ap (λ (u : Poise (Mapped K)). u.wish) (sym r.2) ∙ d))
  heard (e ∷ f ∷ es) p q g r d some = inr (heard (f ∷ es) r.0 q (one-input p e r.0 r.1) r.2 d (λ h. cc))

  -- One that was started and has come to its end has heard the end of its input.
  pub mapper_hears : MapperHears mapping
  mapper_hears own told ended some = heard told (fresh (waiting own) ended.maker) ended.last (λ port w. absurd (cc)) ended.runs ended.idle some
