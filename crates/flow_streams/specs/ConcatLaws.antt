-- Concat keeps the laws of components.
use Rattle.std.proofs.Common.{◌≡◌, ℕ, ◌+◌, ◌<◌, Bool, true, false, [], refl, sym, ap, ◌∙◌, subst, arith, nat_lt}
use Rattle.std.proofs.lemmas.Bool.Decides.{nat_tests}
use Rattle.flow_packet.specs.declared.packet.Kind.TheVariants.{Normal}
use Rattle.flow_packet.specs.Held.{Held}
use Rattle.flow_component.specs.declared.Answer.{Answer}
use Rattle.flow_component.specs.declared.Answer.TheVariants as answers
use Rattle.flow_component.specs.Laws.{Lawful, Outcome, Wishes, Obeys, StaysReady, component_after}
use Rattle.flow_component.specs.Ports.{uses_first}
use Rattle.flow_component.proofs.Comings.{comes_same}
use Rattle.flow_component.proofs.Lone.{HoldsOnly-without, HoldsOnly-root, HoldsOnly-came, HoldsOnly-made_alone}
use Rattle.flow_streams.specs.Concat.{ConcatState, receive_at, ends, concat_next, ConcatReady, concat_shape, concat_rules}

abbrev IsLawful : ℕ → Held → Outcome ConcatState → Type 0
IsLawful count held outcome = Obeys (record { inputs = count; outputs = 1 }) uses_first held outcome × StaysReady concat_rules outcome

receives : (state : ConcatState) (held : Held) → state.at < state.count → held.packets ≡ [] → IsLawful state.count held (Wishes state held (receive_at state.at))
receives state held l e = ((comes_same held, l), ((λ s. (l, e)), (λ t s. (l, HoldsOnly-came held t e s)), (λ text s. (l, HoldsOnly-made_alone held Normal text e s))))

ended : (state : ConcatState) (held : Held) (b : Bool) → nat_lt (state.at + 1) state.count ≡ b → state.at < state.count → held.packets ≡ [] → IsLawful state.count held (ends b state held)
ended state held true t l e = receives (record state { at = state.at + 1 }) held (grind (arith, nat_tests)) e
ended state held false t l e = ((comes_same held, tt), λ s. (l, e))

lawful : (state : ConcatState) (held : Held) (answer : Answer) → ConcatReady state held answer → IsLawful state.count held (concat_next state held answer)
lawful state held answers.Start r = receives state held r.0 r.1
lawful state held (answers.Got id) r = ((comes_same held, (refl, HoldsOnly-root held id r.1)), λ s. (r.0, HoldsOnly-without held id r.1))
lawful state held answers.End r = ended state held (nat_lt (state.at + 1) state.count) refl r.0 r.1
lawful state held answers.Sent r = receives state held r.0 r.1
lawful state held (answers.Level n) r = absurd r

ends-count : (state : ConcatState) (held : Held) (b : Bool) → (component_after (ends b state held)).count ≡ state.count
ends-count state held true = refl
ends-count state held false = refl

next-count : (state : ConcatState) (held : Held) (answer : Answer) → (component_after (concat_next state held answer)).count ≡ state.count
next-count state held answers.Start = refl
next-count state held (answers.Got id) = refl
next-count state held answers.End = ends-count state held (nat_lt (state.at + 1) state.count)
next-count state held answers.Sent = refl
next-count state held (answers.Level n) = refl

-- It keeps the laws of components.
pub concat_lawful : Lawful concat_rules
concat_lawful = record {
  obeys = λ state held answer outcome r is. subst (Obeys (concat_shape state) uses_first held) (sym is) (lawful state held answer r).0;
  stays_ready = λ state held answer outcome r is. subst (StaysReady concat_rules) (sym is) (lawful state held answer r).1;
  steady = λ state held answer outcome is. record { shape = ap (λ (n : ℕ). record { inputs = n; outputs = 1 }) (ap (λ (o : Outcome ConcatState). (component_after o).count) is ∙ next-count state held answer); outputs = refl };
  has_outcome = λ component held answer _. (concat_next component held answer, refl);
}
