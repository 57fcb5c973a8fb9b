-- Each start brings something, and finds an input whose end wasn't heard: a turn keeps it so.
use Rattle.std.proofs.Common.{◌≡◌, ◌≢◌, ℕ, ◌≤◌, ◌+◌, ◌<◌, Bool, true, false, List, [], ◌∷◌, ◌++◌, length, Some, None, refl, sym, ap, ◌∙◌, subst, arith, ◌⊎◌, inl, inr, slice_get, append-nil, ◌==◌, ◌&&◌}
use Rattle.std.specs.List.{list_any}
use Rattle.flow_packet.specs.declared.packet.Kind.TheVariants as kinds
use Rattle.flow_packet.specs.Tree.{Tree, packet_of}
use Rattle.flow_packet.specs.Held.{next_id}
use Rattle.flow_component.specs.declared.Wish.{Wish}
use Rattle.flow_component.specs.declared.Wish.TheVariants as wishes
use Rattle.flow_component.specs.Laws.{Rules}
use Rattle.flow_component.specs.Happenings.{Happening, Started, Received}
use Rattle.flow_component.specs.Runs.{fresh, HeardEnd, Wakes, starts, IsEnd, IsStart}
use Rattle.flow_model.specs.declared.Stage.TheVariants as stages
use Rattle.flow_model.specs.States.{Input, From, Text, Process, Channel, Kept}
use Rattle.flow_model.specs.Events.{Event, Starts, Gets, Takes_text, Hears_end, Signals, event_of, is_fresh, is_connected}
use Rattle.flow_model.specs.Turns.{process_after, channels_after, heard}
use Rattle.flow_model.specs.Order.{connection_of, input_of, signal_of}
use Rattle.flow_model.specs.Valid.{OneReceiver, SignalsApart, SendersOpen}
use Rattle.flow_model.specs.Runs.{NoneConnected, IsConnectedAt}
use Rattle.flow_model.proofs.Lists.{same_or_not}
use Rattle.flow_model.proofs.Inverse.{explains}
use Rattle.flow_model.proofs.Order.{inputs-after}
use Rattle.flow_model.proofs.Exhausting.{taken, Waits, packet_waits, text_waits, not-both, hears-exhausted, starts-first, start-brings, start-finds, fresh-start, fresh-other, TakesFrom, some-after}
use Rattle.flow_model.proofs.Hearing.{StartsKeep, starts-same, starts-more, wakes-more, starts-count}
use Rattle.flow_model.proofs.Tells.{Begun, Tells, end-is, start-is, started-is, ended-is}
use Rattle.flow_model.specs.Turns.{happening}
use Rattle.flow_model.proofs.Stages.{heard-elim, heard-wished, same-found}
use Rattle.flow_model.proofs.Hearing.{IsGot}

-- what waits at an input still waits there, if it isn't taken
pub waits-after : {K : Type 0} (channels : List Channel) (p : ℕ) (x y : Process K) (e : Event) (port : ℕ) → y.inputs ≡ x.inputs → ((c : ℕ) → slice_get x.inputs port ≡ Some (From c) → TakesFrom e c → ⊥)
    → ((text : List ℕ) → slice_get x.inputs port ≡ Some (Text text) → is_fresh x port ≡ true → is_fresh y port ≡ true) → Waits channels x port → Waits (channels_after channels p e) y port
waits-after channels p x y e port inputs untaken fresh (packet_waits c input some) = packet_waits c (ap (λ (is : List Input). slice_get is port) inputs ∙ input) (some-after channels p e c (untaken c input) some)
waits-after channels p x y e port inputs untaken fresh (text_waits text input f) = text_waits text (ap (λ (is : List Input). slice_get is port) inputs ∙ input) (fresh text input f)

module _ {K : Type 0} (rules : Rules K) (components : List K) (kept : Kept K) (p : ℕ) (x : Process K) (n : ℕ) (there : slice_get kept.processes p ≡ Some x) (senders : SendersOpen kept)
    (one : OneReceiver kept.processes) (apart : SignalsApart kept.processes) where
  pub input-here : (port c : ℕ) → slice_get x.inputs port ≡ Some (From c) → input_of port (slice_get kept.processes p) ≡ Some c
  input-here port c input = ap (input_of port) there ∙ ap connection_of input

  keeps-waits : (e : Event) (port : ℕ) → ((c : ℕ) → slice_get x.inputs port ≡ Some (From c) → TakesFrom e c → ⊥)
      → ((text : List ℕ) → slice_get x.inputs port ≡ Some (Text text) → is_fresh x port ≡ true → is_fresh (process_after x e) port ≡ true) → Waits kept.channels x port → Waits (channels_after kept.channels p e) (process_after x e) port
  keeps-waits e port untaken fresh w = waits-after kept.channels p x (process_after x e) e port (inputs-after x e) untaken fresh w

  -- what waits at an input is got there by the turn, or still waits
  waits-on : (e : Event) → event_of kept.channels x n ≡ Some e → (port : ℕ) → Waits kept.channels x port → ((packet : Tree) × (happening x e ≡ Some (Received port packet))) ⊎ Waits (channels_after kept.channels p e) (process_after x e) port
  waits-on Starts is port w = inr (keeps-waits Starts port (λ c input takes. takes) (λ text input f. fresh-start x.inputs port text input) w)
  waits-on (Gets i c packet) is port w =
      let from = explains kept.channels x n (Gets i c packet) is in
      elim (same_or_not i port) [
        | inl same ↦ inl (packet, ap (λ (m : ℕ). Some (Received m packet)) same)
        | inr other ↦ inr (keeps-waits (Gets i c packet) port
            (λ d input same. other (one p p i port c (input-here i c from.input) (input-here port c (input ∙ ap (λ (m : ℕ). Some (From m)) same))).1)
            (λ text input f. f) w)
      ]
  waits-on (Takes_text i text) is port w = elim (same_or_not i port) [
    | inl same ↦ inl (packet_of (next_id x.held) kinds.Normal text [], ap (λ (m : ℕ). Some (Received m (packet_of (next_id x.held) kinds.Normal text []))) same)
    | inr other ↦ inr (keeps-waits (Takes_text i text) port (λ c input takes. takes) (λ t input f. fresh-other x.fresh i port (λ h. other (sym h)) f) w)
  ]
  waits-on (Signals c packet) is port w =
      let from = explains kept.channels x n (Signals c packet) is in
      inr (keeps-waits (Signals c packet) port (λ d input same. apart.apart p p port c (ap signal_of there ∙ from.signal) (input-here port c (input ∙ ap (λ (m : ℕ). Some (From m)) same))) (λ text input f. f) w)
  waits-on e is port w = inr (keeps-waits e port (λ c input takes. takes) (λ text input f. f) w)

  pub brings-after : (told : List Happening) (e : Event) → event_of kept.channels x n ≡ Some e → list_any is_connected x.inputs ≡ true → StartsKeep (Waits kept.channels x) (IsConnectedAt x.inputs) told
      → StartsKeep (Waits (channels_after kept.channels p e) (process_after x e)) (IsConnectedAt x.inputs) (told ++ heard x e)
  brings-after told e is some k = heard-elim (λ hs. StartsKeep new (IsConnectedAt x.inputs) (told ++ hs)) x e
      (λ none. rw append-nil (starts-same (Waits kept.channels x) new (IsConnectedAt x.inputs) (still none) told k))
      (λ h is_h. starts-more (Waits kept.channels x) new (IsConnectedAt x.inputs) h (no-end h is_h) (gone h is_h) (begins h is_h) told k)
    where
      new : ℕ → Type 0
      new = Waits (channels_after kept.channels p e) (process_after x e)

      still : happening x e ≡ None → (port : ℕ) → Waits kept.channels x port → new port
      still none port w = elim (waits-on e is port w) [ inl got ↦ absurd (let h : None ≡ Some (Received port got.0) = sym none ∙ got.1 in cc) | inr v ↦ v ]

      no-end : (h : Happening) → happening x e ≡ Some h → (port : ℕ) → Waits kept.channels x port → IsEnd port h → ⊥
      no-end h is_h port w ended =
          let hears : e ≡ Hears_end port = ended-is x e port (is_h ∙ ap (λ (g : Happening). Some g) (end-is port h ended)) in
          not-both kept.channels x port (hears-exhausted kept.channels x n port (is ∙ ap (λ (f : Event). Some f) hears)) w

      gone : (h : Happening) → happening x e ≡ Some h → (port : ℕ) → Waits kept.channels x port → IsGot port h ⊎ new port
      gone h is_h port w = elim (waits-on e is port w) [ inl got ↦ inl (subst (IsGot port) (same-found (sym got.1 ∙ is_h)) refl) | inr v ↦ inr v ]

      begins : (h : Happening) → happening x e ≡ Some h → IsStart h → (port : ℕ) × IsConnectedAt x.inputs port × new port
      begins h is_h start =
          let starts : e ≡ Starts = started-is x e (is_h ∙ ap (λ (g : Happening). Some g) (start-is h start)) in
          let f = start-brings kept.channels x n (is ∙ ap (λ (f : Event). Some f) starts) some in
          (f.port, (f.connection, f.input), subst (λ (g : Event). Waits (channels_after kept.channels p g) (process_after x g) f.port) (sym starts) (packet_waits f.connection f.input f.some))

  -- a start but the first finds an input at which a packet waits
  start-open : (told : List Happening) → event_of kept.channels x n ≡ Some Starts → Tells rules components kept.channels p told x → (told ≡ []) ⊎ ((port : ℕ) × (port < length x.inputs) × (HeardEnd port told → ⊥))
  start-open told is was = by x.has_run refl
    where
      by : (b : Bool) → x.has_run ≡ b → (told ≡ []) ⊎ ((port : ℕ) × (port < length x.inputs) × (HeardEnd port told → ⊥))
      by true ran =
          let f = start-finds kept.channels x n is ran in
          inr (f.port, f.within, λ ended. not-both kept.channels x f.port (was.ends f.port (inl (f.connection, f.input)) ended) (packet_waits f.connection f.input f.some))
      by false ran = let idle = subst (Begun x told) (explains kept.channels x n Starts is) was.begun in inl (idle.0 ran)

  pub wakes-after : (told : List Happening) (e : Event) → event_of kept.channels x n ≡ Some e → Tells rules components kept.channels p told x → Wakes (length x.inputs) [] (told ++ heard x e)
  wakes-after told e is was = heard-elim (λ hs. Wakes (length x.inputs) [] (told ++ hs)) x e (λ _. rw append-nil was.wakes) (λ h is_h. wakes-more (length x.inputs) [] told h was.wakes
      (λ start. start-open told (is ∙ ap (λ (f : Event). Some f) (started-is x e (is_h ∙ ap (λ (g : Happening). Some g) (start-is h start)))) was))

  pub started-after : (told : List Happening) (e : Event) → event_of kept.channels x n ≡ Some e → Tells rules components kept.channels p told x → told ++ heard x e ≢ [] → 1 ≤ starts (told ++ heard x e)
  started-after told e is was = heard-elim (λ hs. told ++ hs ≢ [] → 1 ≤ starts (told ++ hs)) x e (λ _ some. rw append-nil (was.started (λ h. some (append-nil told ∙ h)))) (λ h is_h _. by h (heard-wished kept.channels x n e is h is_h).stage)
    where
      by : {wish : Wish} (h : Happening) → (x.stage ≡ stages.Wishing wish) ⊎ ((x.stage ≡ stages.Idle) × (wish ≡ wishes.Deactivate) × (h ≡ Started)) → 1 ≤ starts (told ++ h ∷ [])
      by h (inl wishing) = (let some : told ≢ [] = subst (Begun x told) wishing was.begun in omega (arith, starts-count told h, was.started some))
      by h (inr idle) = (let one : starts (h ∷ []) ≡ 1 = ap (λ (g : Happening). starts (g ∷ [])) idle.2 in omega (arith, starts-count told h, one))

  pub once-after : (told : List Happening) (e : Event) → event_of kept.channels x n ≡ Some e → Tells rules components kept.channels p told x → NoneConnected x → starts (told ++ heard x e) ≤ 1
  once-after told e is was none = heard-elim (λ hs. starts (told ++ hs) ≤ 1) x e (λ _. rw append-nil (was.once none)) by
    where
      by : (h : Happening) → happening x e ≡ Some h → starts (told ++ h ∷ []) ≤ 1
      by Started is_h =
          let now : event_of kept.channels x n ≡ Some Starts = is ∙ ap (λ (f : Event). Some f) (started-is x e is_h) in
          let idle = subst (Begun x told) (explains kept.channels x n Starts now) was.begun in
          let empty : starts told ≡ 0 = ap starts (idle.0 (starts-first kept.channels x n none now)) in
          omega (arith, starts-count told Started)
      by h is_h = omega (arith, starts-count told h, was.once none)
