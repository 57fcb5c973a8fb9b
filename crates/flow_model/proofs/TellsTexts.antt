-- An initial text is given anew after each start, once: a turn keeps it so.
use Rattle.std.proofs.Common.{◌≡◌, ◌≢◌, ℕ, ◌≤◌, ◌+◌, ◌<◌, true, false, List, [], ◌∷◌, ◌++◌, Some, refl, sym, ap, ◌∙◌, subst, nat_eq, arith, ◌⊎◌, inl, inr, slice_get, append-nil, ◌==◌, ◌&&◌}
use Rattle.std.proofs.lemmas.Bool.Decides.{nat_tests}
use Rattle.flow_packet.specs.declared.packet.Kind.TheVariants as kinds
use Rattle.flow_packet.specs.Tree.{packet_of}
use Rattle.flow_packet.specs.Held.{next_id}
use Rattle.flow_component.specs.Laws.{Rules}
use Rattle.flow_component.specs.Happenings.{Happening, Started, Received, Ended, Sent, Learned}
use Rattle.flow_component.specs.Runs.{fresh, text_packet}
use Rattle.flow_model.specs.States.{From, Text, Process, Kept}
use Rattle.flow_model.specs.Events.{Event, Starts, Gets, Takes_text, Hears_end, Sends, Learns, event_of, is_fresh}
use Rattle.flow_model.specs.Turns.{process_after, heard}
use Rattle.flow_model.specs.Valid.{OneReceiver, SignalsApart, SendersOpen}
use Rattle.flow_model.proofs.Lists.{same_or_not}
use Rattle.flow_model.proofs.Inverse.{explains}
use Rattle.flow_model.proofs.Exhausting.{Exhausted, dry, taken, hears-exhausted, fresh-start, fresh-gone, fresh-apart}
use Rattle.flow_model.proofs.Tells.{TextIs, Tells, text-more, text-apart}

module _ {K : Type 0} (rules : Rules K) (components : List K) (kept : Kept K) (p : ℕ) (x : Process K) (n : ℕ) (there : slice_get kept.processes p ≡ Some x) (senders : SendersOpen kept)
    (one : OneReceiver kept.processes) (apart : SignalsApart kept.processes) where
  pub texts-after : (told : List Happening) (e : Event) → event_of kept.channels x n ≡ Some e → Tells rules components kept.channels p told x → (port : ℕ) (text : List ℕ) → slice_get x.inputs port ≡ Some (Text text) → TextIs (told ++ heard x e) port text (is_fresh (process_after x e) port)
  texts-after told Starts is was port text input = text-more told Started port text (is_fresh x port) (is_fresh (process_after x Starts) port) tt (sym (fresh-start x.inputs port text input)) (was.texts port text input)
  texts-after told (Gets i c packet) is was port text input =
      let from = explains kept.channels x n (Gets i c packet) is in
      text-apart told i packet port text (is_fresh x port) (λ same. (let h : Some (Text text) ≡ Some (From c) = sym input ∙ ap (slice_get x.inputs) same ∙ from.input in cc)) (was.texts port text input)
  texts-after told (Takes_text i other) is was port text input =
      let from = explains kept.channels x n (Takes_text i other) is in
      let packet = packet_of (next_id x.held) kinds.Normal other [] in
      elim (same_or_not port i) [
        | inl same ↦ (let h : Some (Text text) ≡ Some (Text other) = sym input ∙ ap (slice_get x.inputs) same ∙ from.input in
            let words : other ≡ text = cc in
            let now : is_fresh x port ≡ true = ap (is_fresh x) same ∙ from.fresh in
            let t : nat_eq i port ≡ true = grind (arith, nat_tests) in
            let gone : is_fresh (process_after x (Takes_text i other)) port ≡ false = ap (is_fresh (process_after x (Takes_text i other))) same ∙ fresh-gone x.fresh i in
            text-more told (Received i packet) port text (is_fresh x port) (is_fresh (process_after x (Takes_text i other)) port) ((λ _. (now, ap text_packet words)), tt) (rw (t, now) (sym gone)) (was.texts port text input))
        | inr apart ↦ subst (TextIs (told ++ Received i packet ∷ []) port text) (sym (fresh-apart x.fresh i port apart)) (text-apart told i packet port text (is_fresh x port) apart (was.texts port text input))
      ]
  texts-after told (Hears_end i) is was port text input = text-more told (Ended i) port text (is_fresh x port) (is_fresh x port) ((λ same. over same (hears-exhausted kept.channels x n i is)), tt) refl (was.texts port text input)
    where
      over : i ≡ port → Exhausted kept.channels x i → is_fresh x port ≡ false
      over same (dry c from h) = absurd (let k : Some (From c) ≡ Some (Text text) = sym from ∙ ap (slice_get x.inputs) same ∙ input in cc)
      over same (taken other from f) = ap (is_fresh x) (sym same) ∙ f
  texts-after told (Sends i c packet) is was port text input = text-more told (Sent i packet) port text (is_fresh x port) (is_fresh x port) tt refl (was.texts port text input)
  texts-after told (Learns i level) is was port text input = text-more told (Learned i level) port text (is_fresh x port) (is_fresh x port) tt refl (was.texts port text input)
  texts-after told e is was port text input = rw append-nil (was.texts port text input)
