-- Count keeps the laws of components.
use Rattle.std.proofs.Common.{◌≡◌, ℕ, ◌==◌, Bool, true, false, [], length, if◌then◌else◌, refl, sym, subst, ap, ◌∙◌, arith}
use Rattle.std.specs.Fmt.{decimal}
use Rattle.flow_packet.specs.declared.packet.Kind.TheVariants.{Normal}
use Rattle.flow_packet.specs.Hands.{kind_at}
use Rattle.flow_packet.specs.Held.{Held, without_packet}
use Rattle.flow_packet.specs.Edits.{ComesBy}
use Rattle.flow_component.specs.declared.Answer.{Answer}
use Rattle.flow_component.specs.declared.Answer.TheVariants as answers
use Rattle.flow_component.specs.Laws.{Lawful, Outcome, Wishes, Obeys, StaysReady, component_after}
use Rattle.flow_component.specs.Alone.{HoldsOnly}
use Rattle.flow_component.specs.Ports.{receive_first}
use Rattle.flow_component.proofs.Roots.{IsAtRoot-made, made_gone}
use Rattle.flow_component.proofs.Comings.{comes_same, comes_dropped, comes_made}
use Rattle.flow_component.proofs.Lone.{HoldsOnly-without, HoldsOnly-root, HoldsOnly-came, HoldsOnly-made_alone}
use Rattle.flow_parts.specs.Count.{CountState, one_more, passes_on, goes_on, count_next, CountReady, count_shape, count_uses, count_rules}

-- The outputs that are used where the first one is connected, or isn't.
abbrev used : Bool → ℕ → Bool
used connected port = if port == 0 then connected else port == 1

-- The work from these hands leads to a lawful outcome.
abbrev IsLawful : Bool → Held → Outcome CountState → Type 0
IsLawful connected held outcome = Obeys count_shape (used connected) held outcome × StaysReady count_rules outcome

receives : (connected : Bool) (old held : Held) (state : CountState) → ComesBy old held → state.leaving ≡ false → held.packets ≡ [] → IsLawful connected old (Wishes state held receive_first)
receives connected old held state w l e = ((w, omega arith), ((λ s. (l, e)), (λ t s. (l, HoldsOnly-came held t e s)), (λ text s. (l, HoldsOnly-made_alone held Normal text e s))))

passed : (connected : Bool) (state : CountState) (held : Held) (id : ℕ) → state.leaving ≡ false → HoldsOnly held id → IsLawful connected held (passes_on connected state held id)
passed true state held id l h = ((comes_same held, (refl, HoldsOnly-root held id h)), λ s. HoldsOnly-without held id h)
passed false state held id l h = receives false held (without_packet held id) state (comes_dropped held id (HoldsOnly-root held id h)) l (HoldsOnly-without held id h)

ended : (connected : Bool) (state : CountState) (held : Held) → held.packets ≡ [] → IsLawful connected held (count_next state held answers.End)
ended connected state held e = ((comes_made held Normal (decimal state.number) (omega (arith, ap length e)), (refl, IsAtRoot-made held Normal (decimal state.number))), λ s. made_gone held Normal (decimal state.number) e)

went_on : (connected : Bool) (state : CountState) (held : Held) (leaving : Bool) → state.leaving ≡ leaving → held.packets ≡ [] → IsLawful connected held (goes_on leaving state held)
went_on connected state held true l e = ((comes_same held, tt), λ s. (refl, e))
went_on connected state held false l e = receives connected held held state (comes_same held) l e

lawful : (state : CountState) (held : Held) (answer : Answer) → CountReady state held answer → IsLawful state.connected held (count_next state held answer)
lawful state held answers.Start r = receives state.connected held held state (comes_same held) r.0 r.1
lawful state held (answers.Got id) r = passed state.connected (record state { number = one_more (kind_at held.packets id) state.number }) held id r.0 r.1
lawful state held answers.End r = ended state.connected state held r.1
lawful state held answers.Sent r = went_on state.connected state held state.leaving refl r
lawful state held (answers.Level n) r = absurd r

passed-connected : (connected : Bool) (state : CountState) (held : Held) (id : ℕ) → (component_after (passes_on connected state held id)).connected ≡ state.connected
passed-connected true state held id = refl
passed-connected false state held id = refl

went-connected : (leaving : Bool) (state : CountState) (held : Held) → (component_after (goes_on leaving state held)).connected ≡ state.connected
went-connected true state held = refl
went-connected false state held = refl

next-connected : (state : CountState) (held : Held) (answer : Answer) → (component_after (count_next state held answer)).connected ≡ state.connected
next-connected state held answers.Start = refl
next-connected state held (answers.Got id) = passed-connected state.connected (record state { number = one_more (kind_at held.packets id) state.number }) held id
next-connected state held answers.End = refl
next-connected state held answers.Sent = went-connected state.leaving state held
next-connected state held (answers.Level n) = refl

-- It keeps the laws of components.
pub count_lawful : Lawful count_rules
count_lawful = record {
  obeys = λ state held answer outcome r is. subst (Obeys count_shape (count_uses state) held) (sym is) (lawful state held answer r).0;
  stays_ready = λ state held answer outcome r is. subst (StaysReady count_rules) (sym is) (lawful state held answer r).1;
  steady = λ state held answer outcome is.
      let e = ap (λ (o : Outcome CountState). (component_after o).connected) is ∙ next-connected state held answer in
      record { shape = refl; outputs = ap used e };
  has_outcome = λ component held answer _. (count_next component held answer, refl);
}
