-- After the end of an input nothing comes there: a turn keeps it so.
use Rattle.std.proofs.Common.{◌≡◌, ◌≢◌, ℕ, ◌≤◌, ◌+◌, ◌<◌, false, List, [], ◌∷◌, ◌++◌, Some, refl, sym, ap, ◌∙◌, subst, nat_eq, arith, ◌⊎◌, inl, inr, slice_get, append-nil, ◌==◌, ◌&&◌}
use Rattle.std.proofs.lemmas.Bool.Decides.{nat_tests}
use Rattle.flow_packet.specs.Tree.{Tree}
use Rattle.flow_component.specs.Laws.{Rules}
use Rattle.flow_component.specs.Happenings.{Happening, Started, Received}
use Rattle.flow_component.specs.Runs.{fresh, content_got, EndIsLast, HeardEnd, starts}
use Rattle.flow_model.specs.States.{Input, From, Text, Process, Channel, Kept}
use Rattle.flow_model.specs.Stages.{HasBegunToClose}
use Rattle.flow_model.specs.Events.{Event, Starts, Gets, Takes_text, Hears_end, event_of, is_fresh}
use Rattle.flow_model.specs.Turns.{process_after, channels_after, heard}
use Rattle.flow_model.specs.Valid.{OneReceiver, SignalsApart, SendersOpen}
use Rattle.flow_model.specs.Runs.{EndsForGood}
use Rattle.flow_model.proofs.Lists.{same_or_not}
use Rattle.flow_model.proofs.Inverse.{explains}
use Rattle.flow_model.proofs.Order.{inputs-after}
use Rattle.flow_model.proofs.Exhausting.{IsDry, Exhausted, dry, taken, Waits, packet_waits, text_waits, not-both, hears-exhausted, fresh-set, dry-after, finishes-all, all-dry}
use Rattle.flow_model.proofs.Hearing.{last-more}
use Rattle.flow_model.proofs.Tells.{Tells, heard-end, starts-heard, first-start}
use Rattle.flow_model.specs.Turns.{happening}
use Rattle.flow_model.proofs.Stages.{heard-elim, begun-before}

-- a text that was taken isn't fresh again, where its end is for good
taken-after : {K : Type 0} (channels : List Channel) (x : Process K) (n : ℕ) (told : List Happening) (e : Event) (port : ℕ) (text : List ℕ) → event_of channels x n ≡ Some e → (told ≢ [] → 1 ≤ starts told)
    → EndsForGood x (told ++ heard x e) port → HeardEnd port told → slice_get x.inputs port ≡ Some (Text text) → is_fresh x port ≡ false → is_fresh (process_after x e) port ≡ false
taken-after channels x n told Starts port text is was good ended input f = absurd (by good)
  where
    by : EndsForGood x (told ++ Started ∷ []) port → ⊥
    by (inl at) = let h : Some (From at.0) ≡ Some (Text text) = sym at.1 ∙ input in cc
    by (inr few) = subst (HeardEnd port) (first-start told was few) ended
taken-after channels x n told (Takes_text i other) port text is was good ended input f = fresh-set x.fresh i port f
taken-after channels x n told e port text is was good ended input f = f

not_got : (port i : ℕ) (t : Tree) → port ≢ i → content_got port (Received i t) ≡ []
not_got port i t other = let z : nat_eq port i ≡ false = grind (arith, nat_tests) in rw z refl

module _ {K : Type 0} (rules : Rules K) (components : List K) (kept : Kept K) (p : ℕ) (x : Process K) (n : ℕ) (there : slice_get kept.processes p ≡ Some x) (senders : SendersOpen kept)
    (one : OneReceiver kept.processes) (apart : SignalsApart kept.processes) where
  exhausted-after : (told : List Happening) (e : Event) (port : ℕ) → event_of kept.channels x n ≡ Some e → (told ≢ [] → 1 ≤ starts told) → EndsForGood x (told ++ heard x e) port → HeardEnd port told → Exhausted kept.channels x port
      → Exhausted (channels_after kept.channels p e) (process_after x e) port
  exhausted-after told e port is was good ended (dry c input h) = dry c (ap (λ (is : List Input). slice_get is port) (inputs-after x e) ∙ input) (dry-after kept p x n there senders e is c h)
  exhausted-after told e port is was good ended (taken text input f) =
      taken text (ap (λ (is : List Input). slice_get is port) (inputs-after x e) ∙ input) (taken-after kept.channels x n told e port text is was good ended input f)

  pub good-before : (hs : List Happening) (e : Event) (port : ℕ) → EndsForGood (process_after x e) hs port → EndsForGood x hs port
  good-before hs e port (inl at) = inl (at.0, ap (λ (is : List Input). slice_get is port) (sym (inputs-after x e)) ∙ at.1)
  good-before hs e port (inr few) = inr few

  pub good-less : (told : List Happening) (e : Event) (port : ℕ) → EndsForGood x (told ++ heard x e) port → EndsForGood x told port
  good-less told e port (inl at) = inl at
  good-less told e port (inr few) = inr (omega (arith, starts-heard told x e))

  just-heard : (port : ℕ) → event_of kept.channels x n ≡ Some (Hears_end port) → Exhausted kept.channels (process_after x (Hears_end port)) port
  just-heard port is = by (hears-exhausted kept.channels x n port is)
    where
      by : Exhausted kept.channels x port → Exhausted kept.channels (process_after x (Hears_end port)) port
      by (dry c input h) = dry c input h
      by (taken text input f) = taken text input f

  pub ends-after : (told : List Happening) (e : Event) → event_of kept.channels x n ≡ Some e → Tells rules components kept.channels p told x
      → (port : ℕ) → EndsForGood (process_after x e) (told ++ heard x e) port → HeardEnd port (told ++ heard x e) → Exhausted (channels_after kept.channels p e) (process_after x e) port
  ends-after told e is was port good ended =
      let was_good = good-before (told ++ heard x e) e port good in
      elim (heard-end port told x e ended) [
        | inl old ↦ exhausted-after told e port is was.started was_good old (was.ends port (good-less told e port was_good) old)
        | inr new ↦ subst (λ (f : Event). Exhausted (channels_after kept.channels p f) (process_after x f) port) (sym new) (just-heard port (is ∙ ap Some new))
      ]

  pub gets-waits : (i c : ℕ) (packet : Tree) → event_of kept.channels x n ≡ Some (Gets i c packet) → Waits kept.channels x i
  gets-waits i c packet is =
      let from = explains kept.channels x n (Gets i c packet) is in
      packet_waits c from.input (record { channel = from.channel; there = from.there; packet = packet; rest = from.rest; packets = from.packets })

  pub takes-waits : (i : ℕ) (text : List ℕ) → event_of kept.channels x n ≡ Some (Takes_text i text) → Waits kept.channels x i
  takes-waits i text is = let from = explains kept.channels x n (Takes_text i text) is in text_waits text from.input from.fresh

  -- what waits isn't got after its end
  nothing-got : (told : List Happening) (port i : ℕ) (t : Tree) → Tells rules components kept.channels p told x → EndsForGood x told port → Waits kept.channels x i → HeardEnd port told → content_got port (Received i t) ≡ []
  nothing-got told port i t was good waits ended = elim (same_or_not port i) [
    | inl same ↦ absurd (not-both kept.channels x port (was.ends port good ended) (subst (Waits kept.channels x) (sym same) waits))
    | inr other ↦ not_got port i t other
  ]

  -- what is got waited
  received-waits : (e : Event) → event_of kept.channels x n ≡ Some e → (i : ℕ) (t : Tree) → happening x e ≡ Some (Received i t) → Waits kept.channels x i
  received-waits (Gets port c packet) is i t is_h = let same : port ≡ i = cc in subst (Waits kept.channels x) same (gets-waits port c packet is)
  received-waits (Takes_text port text) is i t is_h = let same : port ≡ i = cc in subst (Waits kept.channels x) same (takes-waits port text is)
  received-waits e is i t is_h = absurd (cc)

  pub last-after : (told : List Happening) (e : Event) → event_of kept.channels x n ≡ Some e → Tells rules components kept.channels p told x → (port : ℕ) → EndsForGood x told port → EndIsLast port (told ++ heard x e)
  last-after told e is was port good =
      heard-elim (λ hs. EndIsLast port (told ++ hs)) x e (λ _. rw append-nil (was.last port good)) (λ h is_h. last-more port told h (was.last port good) (nothing h is_h))
    where
      nothing : (h : Happening) → happening x e ≡ Some h → HeardEnd port told → content_got port h ≡ []
      nothing (Received i t) is_h ended = nothing-got told port i t was good (received-waits e is i t is_h) ended
      nothing h is_h ended = refl

  pub over-after : (told : List Happening) (e : Event) → event_of kept.channels x n ≡ Some e → Tells rules components kept.channels p told x → HasBegunToClose (process_after x e).stage → (port c : ℕ) → slice_get x.inputs port ≡ Some (From c)
      → IsDry (channels_after kept.channels p e) c
  over-after told e is was over port c input = dry-after kept p x n there senders e is c (elim (begun-before kept.channels x n e is over) [
    | inl old ↦ was.over old port c input
    | inr new ↦ all-dry kept.channels x.inputs (finishes-all kept.channels x n (is ∙ ap Some new)) port c input
  ])
