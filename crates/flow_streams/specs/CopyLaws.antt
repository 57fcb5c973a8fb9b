-- Copy keeps the laws of components.
use Rattle.std.proofs.Common.{◌≡◌, ℕ, ◌+◌, ◌<◌, ◌≤◌, Bool, true, false, [], length, refl, sym, ap, ◌∙◌, subst, arith, nat_lt, if◌then◌else◌}
use Rattle.std.proofs.lemmas.Bool.Decides.{nat_tests}
use Rattle.flow_packet.specs.declared.packet.Kind.TheVariants.{Normal}
use Rattle.flow_packet.specs.Hands.{kind_at, text_at}
use Rattle.flow_packet.specs.Held.{Held, next_id, with_made}
use Rattle.flow_component.specs.declared.Answer.{Answer}
use Rattle.flow_component.specs.declared.Answer.TheVariants as answers
use Rattle.flow_component.specs.Laws.{Lawful, Outcome, Wishes, Obeys, StaysReady, component_after}
use Rattle.flow_component.specs.Ports.{receive_first}
use Rattle.flow_component.specs.Alone.{HoldsOnly}
use Rattle.flow_component.proofs.Roots.{IsAtRoot-made}
use Rattle.flow_component.proofs.Comings.{comes_same, comes_made}
use Rattle.flow_component.proofs.Lone.{HoldsOnly-without, HoldsOnly-root, HoldsOnly-left, HoldsOnly-came, HoldsOnly-made_alone}
use Rattle.flow_streams.specs.declared.copy.CopyPlace.{CopyPlace}
use Rattle.flow_streams.specs.declared.copy.CopyPlace.TheVariants.{Waiting, Copying}
use Rattle.flow_streams.specs.Copy.{CopyState, send_at, copies, goes_on, copy_next, copy_shape, copy_uses, IsReadyOn, CopyReady, copy_rules}

abbrev IsLawful : ℕ → Held → Outcome CopyState → Type 0
IsLawful count held outcome = Obeys (record { inputs = 1; outputs = count }) (λ port. nat_lt port count) held outcome × StaysReady copy_rules outcome

idle : (state : CopyState) (held : Held) → 1 ≤ state.count → state.place ≡ Waiting → held.packets ≡ [] → IsLawful state.count held (Wishes state held receive_first)
idle state held l p e = ((comes_same held, omega arith), ((λ s. (l, p, e)), (λ t s. (l, p, HoldsOnly-came held t e s)), (λ text s. (l, p, HoldsOnly-made_alone held Normal text e s))))

below : (a b : ℕ) → a < b → nat_lt a b ≡ true
below a b l = grind (arith, nat_tests)

copied : (state : CopyState) (held : Held) (id output : ℕ) (b : Bool) → nat_lt (output + 1) state.count ≡ b → 1 ≤ state.count → output < state.count → HoldsOnly held id
    → IsLawful state.count held (if b then Wishes (record state { place = Copying id (output + 1) }) (with_made held (kind_at held.packets id) (text_at held.packets id)) (send_at output (next_id held)) else Wishes (record state { place = Waiting }) held (send_at output id))
copied state held id output true t some l h =
    let kind = kind_at held.packets id in
    let text = text_at held.packets id in
    let more : output + 1 < state.count = grind (arith, nat_tests) in
    ((comes_made held kind text (omega (arith, ap length h.holds)), (below output state.count l, IsAtRoot-made held kind text)), λ s. (some, (HoldsOnly-left held id kind text h s, more)))
copied state held id output false t some l h = ((comes_same held, (below output state.count l, HoldsOnly-root held id h)), λ s. (some, HoldsOnly-without held id h))

went_on : (state : CopyState) (held : Held) (place : CopyPlace) → state.place ≡ place → 1 ≤ state.count → IsReadyOn state held place → IsLawful state.count held (goes_on state held place)
went_on state held Waiting p some r = idle state held some p r
went_on state held (Copying id output) p some r = copied state held id output (nat_lt (output + 1) state.count) refl some r.1 r.0

lawful : (state : CopyState) (held : Held) (answer : Answer) → CopyReady state held answer → IsLawful state.count held (copy_next state held answer)
lawful state held answers.Start r = idle state held r.0 r.1 r.2
lawful state held (answers.Got id) r = copied state held id 0 (nat_lt (0 + 1) state.count) refl r.0 (let l = r.0 in omega arith) r.2
lawful state held answers.End r = ((comes_same held, tt), λ s. r)
lawful state held answers.Sent r = went_on state held state.place refl r.0 r.1
lawful state held (answers.Level n) r = absurd r

copies-count : (state : CopyState) (held : Held) (id output : ℕ) → (component_after (copies state held id output)).count ≡ state.count
copies-count state held id output =
    elim (nat_lt (output + 1) state.count) as (λ b. (component_after (if b then Wishes (record state { place = Copying id (output + 1) }) (with_made held (kind_at held.packets id) (text_at held.packets id)) (send_at output (next_id held)) else Wishes (record state { place = Waiting }) held (send_at output id))).count ≡ state.count) [ true ↦ refl | false ↦ refl ]

on-count : (state : CopyState) (held : Held) (place : CopyPlace) → (component_after (goes_on state held place)).count ≡ state.count
on-count state held Waiting = refl
on-count state held (Copying id output) = copies-count state held id output

-- how many outputs there are stays
pub next-count : (state : CopyState) (held : Held) (answer : Answer) → (component_after (copy_next state held answer)).count ≡ state.count
next-count state held answers.Start = refl
next-count state held (answers.Got id) = copies-count state held id 0
next-count state held answers.End = refl
next-count state held answers.Sent = on-count state held state.place
next-count state held (answers.Level n) = refl

-- It keeps the laws of components.
pub copy_lawful : Lawful copy_rules
copy_lawful = record {
  obeys = λ state held answer outcome r is. subst (Obeys (copy_shape state) (copy_uses state) held) (sym is) (lawful state held answer r).0;
  stays_ready = λ state held answer outcome r is. subst (StaysReady copy_rules) (sym is) (lawful state held answer r).1;
  steady = λ state held answer outcome is.
      let e = ap (λ (o : Outcome CopyState). (component_after o).count) is ∙ next-count state held answer in
      let used : ℕ → ℕ → Bool = λ n port. nat_lt port n in
      record { shape = ap (λ (n : ℕ). record { inputs = 1; outputs = n }) e; outputs = ap used e };
  has_outcome = λ component held answer _. (copy_next component held answer, refl);
}
