-- A component that folds receives at its one input alone, and has heard the end of it when it has come to its own.
use Rattle.flow_limits.specs.declared.TheConstants.{TEXT_LIMIT}
use Rattle.std.proofs.Common.{◌≡◌, ◌≢◌, ◌⊎◌, ℕ, ◌+◌, ◌<◌, Bool, true, false, List, [], ◌∷◌, length, Option, Some, None, nat_lt, cond, refl, sym, subst, ap, ◌∙◌, arith, inl, inr}
use Rattle.std.specs.Prelude.{slice_get}
use Rattle.flow_packet.specs.declared.packet.Kind.{Kind}
use Rattle.flow_packet.specs.declared.packet.Kind.TheVariants.{Normal, Open, Close}
use Rattle.flow_packet.specs.Tree.{id_of}
use Rattle.flow_packet.specs.Hands.{kind_at, text_at}
use Rattle.flow_packet.specs.Held.{Held, next_id, with_made}
use Rattle.flow_component.specs.declared.Fail.TheVariants.{TextLimit}
use Rattle.flow_component.specs.declared.Wish.{Wish}
use Rattle.flow_component.specs.declared.Wish.TheVariants as wishes
use Rattle.flow_component.specs.Laws.{Outcome, Wishes, Fails, IsAllowed}
use Rattle.flow_component.specs.Ports.{one_to_one, uses_first, send_first}
use Rattle.flow_component.specs.Happenings.{Happening, Started, Received, Ended, Sent, Learned}
use Rattle.flow_component.specs.Runs.{Poise, fresh, Steps, Runs, IsEnd, HeardEnd}
use Rattle.flow_component.proofs.Streams.{stays-allowed}
use Rattle.flow_fold.specs.declared.folder.Stretch.TheVariants.{Bare}
use Rattle.flow_fold.specs.declared.folder.FolderPlace.{FolderPlace}
use Rattle.flow_fold.specs.declared.folder.FolderPlace.TheVariants.{Taking, Telling}
use Rattle.flow_fold.specs.Folding.{Folding, Folded, Taken, Keeps, Refuses, beginning, is_told, ends, tells_one, tells_from, text_taken, meets, goes_on, folder_rules, IsTaking, IsFolding}
use Rattle.flow_fold.specs.FoldingLaws.{folder_lawful}
use Rattle.flow_fold.specs.Made.{FolderHears}

-- It receives at its one input alone.
abbrev pub OneInput : {K S : Type 0} → Poise (Folded K S) → Type 0
OneInput p = (port : ℕ) → p.wish ≡ wishes.Receive (record { 0 = port }) → port < 1

-- There is no bracket.
abbrev IsLast : Option ℕ → Type 0
IsLast None = Unit {0}
IsLast (Some bracket) = ⊥

-- It tells before the end of the stream.
abbrev IsLeaving : FolderPlace → Type 0
IsLeaving Taking = ⊥
IsLeaving (Telling before told) = IsLast before

-- It doesn't wish to be idle.
abbrev IsBusy : Wish → Type 0
IsBusy (wishes.Receive port) = Unit {0}
IsBusy (wishes.Send port id) = Unit {0}
IsBusy (wishes.Level port) = Unit {0}
IsBusy wishes.Deactivate = ⊥

-- It is neither idle nor on its way to its end.
abbrev StaysOn : {K S : Type 0} → Outcome (Folded K S) → Type 0
StaysOn (Wishes component held wish) = IsBusy wish × (IsLeaving component.place → ⊥)
StaysOn (Fails component held cause) = Unit {0}

not-leaving : (place : FolderPlace) → IsTaking place → IsLeaving place → ⊥
not-leaving Taking taking leaving = leaving
not-leaving (Telling before told) taking leaving = taking

module _ {K S : Type 0} (folding : Folding K S) (is : IsFolding folding) where
  -- After each step it receives at its one input alone.
  pub one-input : (p : Poise (Folded K S)) (e : Happening) (m : Poise (Folded K S)) → Steps (folder_rules folding) p e m → OneInput m
  one-input p e m s port receives =
      let allowed : IsAllowed one_to_one uses_first m.held m.wish = stays-allowed (folder_rules folding) (folder_lawful folding is) p e m s in
      rw receives at allowed

  ends-on : (component : Folded K S) (held : Held) (bracket : ℕ) → StaysOn (ends folding component held (Some bracket))
  ends-on component held bracket = (tt, λ leaving. leaving)

  makes-on : (long : Bool) (component : Folded K S) (held : Held) (text : List ℕ) (place : FolderPlace) → (IsLeaving place → ⊥)
      → StaysOn (cond long (Fails component held (TextLimit (length text))) (Wishes (record component { place = place }) (with_made held Normal text) (send_first (next_id held))))
  makes-on true component held text place on = tt
  makes-on false component held text place on = (tt, on)

  one-on : (next : Option (List ℕ)) (component : Folded K S) (held : Held) (bracket told : ℕ) → StaysOn (tells_one folding component held (Some bracket) told next)
  one-on None component held bracket told = ends-on component held bracket
  one-on (Some text) component held bracket told = makes-on (nat_lt TEXT_LIMIT (length text)) component held text (Telling (Some bracket) (told + 1)) (λ leaving. leaving)

  tells-on : (component : Folded K S) (held : Held) (bracket told : ℕ) → StaysOn (tells_from folding component held (Some bracket) told)
  tells-on component held bracket told = one-on (slice_get (folding.tells component.kind component.state) told) component held bracket told

  closes-on : (told : Bool) (component : Folded K S) (held : Held) (bracket : ℕ) → StaysOn (cond told (tells_from folding component held (Some bracket) 0) (ends folding component held (Some bracket)))
  closes-on true component held bracket = tells-on component held bracket 0
  closes-on false component held bracket = ends-on component held bracket

  taken-on : (taken : Taken S) (component : Folded K S) (held : Held) (id : ℕ) → IsTaking component.place → StaysOn (text_taken component held id taken)
  taken-on (Keeps state) component held id taking = (tt, not-leaving component.place taking)
  taken-on (Refuses cause) component held id taking = tt

  meets-on : (kind : Kind) (component : Folded K S) (held : Held) (id : ℕ) → IsTaking component.place → StaysOn (meets folding component held id kind)
  meets-on Normal component held id taking = taken-on (folding.takes component.kind component.state (text_at held.packets id)) component held id taking
  meets-on Open component held id taking = closes-on (is_told component.stretch false) component held id
  meets-on Close component held id taking = closes-on (is_told component.stretch true) component held id

  before-on : (before : Option ℕ) (component : Folded K S) (held : Held) (told : ℕ) → (IsLast before → ⊥) → StaysOn (tells_from folding component held before told)
  before-on None component held told on = absurd (on tt)
  before-on (Some bracket) component held told on = tells-on component held bracket told

  goes-on : (place : FolderPlace) (component : Folded K S) (held : Held) → component.place ≡ place → (IsLeaving place → ⊥) → StaysOn (goes_on folding component held place)
  goes-on Taking component held e on = (tt, subst (λ (place : FolderPlace). IsLeaving place → ⊥) (sym e) on)
  goes-on (Telling before told) component held e on = before-on before component held told on

  -- Only the end of its input sets it on its way to its end.
  on-or-end : (p : Poise (Folded K S)) (e : Happening) (m : Poise (Folded K S)) → OneInput p → (IsLeaving p.component.place → ⊥) → Steps (folder_rules folding) p e m
      → IsEnd 0 e ⊎ (IsBusy m.wish × (IsLeaving m.component.place → ⊥))
  on-or-end p Started m g on s = inr (subst StaysOn (sym s.comes_to) (tt, on))
  on-or-end p (Received port t) m g on s = inr (subst StaysOn (sym s.comes_to) (meets-on (kind_at s.held.packets (id_of t)) p.component s.held (id_of t) s.is_ready.0))
  on-or-end p (Ended port) m g on s = inl (omega (arith, g port s.grants.0))
  on-or-end p (Sent port t) m g on s = inr (subst StaysOn (sym s.comes_to) (goes-on p.component.place p.component s.held refl on))
  on-or-end p (Learned port level) m g on s = absurd s.is_ready

  heard : (es : List Happening) (p q : Poise (Folded K S)) → OneInput p → (IsLeaving p.component.place → ⊥) → Runs (folder_rules folding) p es q → q.wish ≡ wishes.Deactivate → es ≢ [] → HeardEnd 0 es
  heard [] p q g on r d some = absurd (some refl)
  heard (e ∷ []) p q g on r d some = elim (on-or-end p e r.0 g on r.1) [
    | inl h ↦ inl h
    | inr h ↦ absurd (subst IsBusy (ap (λ (u : Poise (Folded K S)). u.wish) (sym r.2) ∙ d) h.0)
  ]
  heard (e ∷ f ∷ es) p q g on r d some = elim (on-or-end p e r.0 g on r.1) [
    | inl h ↦ inl h
    | inr h ↦ inr (heard (f ∷ es) r.0 q (one-input p e r.0 r.1) h.1 r.2 d (λ k. cc))
  ]

  -- One that was started and has come to its end has heard the end of its input.
  pub folder_hears : FolderHears folding
  folder_hears kind told ended some = heard told (fresh (beginning folding kind Bare) ended.maker) ended.last (λ port w. absurd (cc)) (λ leaving. leaving) ended.runs ended.idle some
