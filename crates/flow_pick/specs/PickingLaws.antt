-- Components that pick keep the laws of components.
use Rattle.std.proofs.Common.{◌≡◌, ℕ, Bool, true, false, List, [], refl, sym, subst, ap, ◌∙◌, arith}
use Rattle.flow_packet.specs.declared.packet.Kind.{Kind}
use Rattle.flow_packet.specs.declared.packet.Kind.TheVariants.{Normal}
use Rattle.flow_packet.specs.Hands.{kind_at, text_at}
use Rattle.flow_packet.specs.Held.{Held, without_packet}
use Rattle.flow_packet.specs.Edits.{ComesBy}
use Rattle.flow_component.specs.declared.Answer.{Answer}
use Rattle.flow_component.specs.declared.Answer.TheVariants as answers
use Rattle.flow_component.specs.Laws.{Lawful, Outcome, Wishes, Obeys, StaysReady, component_after}
use Rattle.flow_component.specs.Alone.{HoldsOnly}
use Rattle.flow_component.specs.Ports.{receive_first}
use Rattle.flow_component.proofs.Comings.{comes_same, comes_dropped}
use Rattle.flow_component.proofs.Lone.{HoldsOnly-without, HoldsOnly-root, HoldsOnly-came, HoldsOnly-made_alone}
use Rattle.flow_pick.specs.Picking.{Picker, leaves, parts, picker_next, parting_shape, parting_uses, IsPicking, picker_rules}

-- No packet changes whether the second output is connected.
abbrev pub StaysConnected : {K : Type 0} → Picker K → Type 0
StaysConnected {K} picker = (component : K) (kind : Kind) (text : List ℕ) → picker.connected (picker.after component kind text) ≡ picker.connected component

module _ {K : Type 0} (picker : Picker K) (stays : StaysConnected picker) where
  -- The work from these hands leads to a lawful outcome.
  abbrev IsLawful : Bool → Held → Outcome K → Type 0
  IsLawful connected held outcome = Obeys parting_shape (parting_uses connected) held outcome × StaysReady (picker_rules picker) outcome

  receives : (connected : Bool) (old held : Held) (component : K) → ComesBy old held → held.packets ≡ [] → IsLawful connected old (Wishes component held receive_first)
  receives connected old held component w e = ((w, omega arith), ((λ s. e), (λ t s. HoldsOnly-came held t e s), (λ text s. HoldsOnly-made_alone held Normal text e s)))

  left : (connected : Bool) (component : K) (held : Held) (id : ℕ) → HoldsOnly held id → IsLawful connected held (leaves connected component held id)
  left true component held id h = ((comes_same held, (refl, HoldsOnly-root held id h)), λ s. HoldsOnly-without held id h)
  left false component held id h = receives false held (without_packet held id) component (comes_dropped held id (HoldsOnly-root held id h)) (HoldsOnly-without held id h)

  parted : (picked connected : Bool) (component : K) (held : Held) (id : ℕ) → HoldsOnly held id → IsLawful connected held (parts picked connected component held id)
  parted true connected component held id h = ((comes_same held, (refl, HoldsOnly-root held id h)), λ s. HoldsOnly-without held id h)
  parted false connected component held id h = left connected component held id h

  lawful : (component : K) (held : Held) (answer : Answer) → IsPicking held answer → IsLawful (picker.connected component) held (picker_next picker component held answer)
  lawful component held answers.Start r = receives (picker.connected component) held held component (comes_same held) r
  lawful component held (answers.Got id) r =
      let kind = kind_at held.packets id in
      let text = text_at held.packets id in
      parted (picker.picks component kind text) (picker.connected component) (picker.after component kind text) held id r
  lawful component held answers.End r = ((comes_same held, tt), λ s. r)
  lawful component held answers.Sent r = receives (picker.connected component) held held component (comes_same held) r
  lawful component held (answers.Level n) r = absurd r

  left-component : (connected : Bool) (component : K) (held : Held) (id : ℕ) → component_after (leaves connected component held id) ≡ component
  left-component true component held id = refl
  left-component false component held id = refl

  parted-component : (picked connected : Bool) (component : K) (held : Held) (id : ℕ) → component_after (parts picked connected component held id) ≡ component
  parted-component true connected component held id = refl
  parted-component false connected component held id = left-component connected component held id

  next-connected : (component : K) (held : Held) (answer : Answer) → picker.connected (component_after (picker_next picker component held answer)) ≡ picker.connected component
  next-connected component held answers.Start = refl
  next-connected component held (answers.Got id) =
      let kind = kind_at held.packets id in
      let text = text_at held.packets id in
      ap picker.connected (parted-component (picker.picks component kind text) (picker.connected component) (picker.after component kind text) held id) ∙ stays component kind text
  next-connected component held answers.End = refl
  next-connected component held answers.Sent = refl
  next-connected component held (answers.Level n) = refl

  -- It keeps the laws of components.
  pub picker_lawful : Lawful (picker_rules picker)
  picker_lawful = record {
    obeys = λ component held answer outcome r is. subst (Obeys parting_shape (parting_uses (picker.connected component)) held) (sym is) (lawful component held answer r).0;
    stays_ready = λ component held answer outcome r is. subst (StaysReady (picker_rules picker)) (sym is) (lawful component held answer r).1;
    steady = λ component held answer outcome is.
        let e = ap (λ (o : Outcome K). picker.connected (component_after o)) is ∙ next-connected component held answer in
        record { shape = refl; outputs = ap parting_uses e };
    has_outcome = λ component held answer _. (picker_next picker component held answer, refl);
  }
