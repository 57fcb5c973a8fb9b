-- Fill keeps the laws of components.
use Rattle.std.proofs.Common.{◌≡◌, ℕ, ◌+◌, true, false, List, [], ◌∷◌, ◌++◌, length, refl, nat_le, if◌then◌else◌, sym, subst, ap, arith}
use Rattle.flow_packet.specs.declared.packet.Kind.{Kind}
use Rattle.flow_packet.specs.declared.packet.Kind.TheVariants.{Normal, Open, Close}
use Rattle.flow_packet.specs.Hands.{text_at, kind_at}
use Rattle.flow_packet.specs.Edits.{ComesBy}
use Rattle.flow_packet.specs.Held.{Held, without_packet}
use Rattle.flow_component.specs.declared.Answer.{Answer}
use Rattle.flow_component.specs.declared.Answer.TheVariants as answers
use Rattle.flow_component.specs.Laws.{Lawful, Outcome, Wishes, Obeys, StaysReady}
use Rattle.flow_component.specs.Alone.{HoldsOnly}
use Rattle.flow_component.specs.Ports.{one_to_one, uses_first, receive_first}
use Rattle.flow_component.proofs.Roots.{IsAtRoot-made, made_gone}
use Rattle.flow_component.proofs.Comings.{comes_same, comes_dropped, comes_made, comes_replaced}
use Rattle.flow_component.proofs.Lone.{HoldsOnly-without, HoldsOnly-root, HoldsOnly-left, HoldsOnly-came, HoldsOnly-made_alone}
use Rattle.flow_parts.specs.declared.fill.FillPlace.{FillPlace}
use Rattle.flow_parts.specs.declared.fill.FillPlace.TheVariants.{Waiting, Passing, Leaving}
use Rattle.flow_parts.specs.FillState.{FillState}
use Rattle.flow_parts.specs.Fill.{line_sent, word_after, word_comes, bracket_comes, end_comes, goes_on, packet_comes, fill_next, FillReady, IsReadyOn, fill_rules}

-- The work from these hands leads to a lawful outcome.
abbrev IsLawful : Held → Outcome FillState → Type 0
IsLawful held outcome = Obeys one_to_one uses_first held outcome × StaysReady fill_rules outcome

receives : (old held : Held) (state : FillState) → ComesBy old held → state.place ≡ Waiting → held.packets ≡ [] → IsLawful old (Wishes state held receive_first)
receives old held state w p e = ((w, omega arith), ((λ s. (p, e)), (λ t s. (p, HoldsOnly-came held t e s)), (λ text s. (p, HoldsOnly-made_alone held Normal text e s))))

dropped : (held : Held) (state : FillState) (id : ℕ) → state.place ≡ Waiting → HoldsOnly held id → IsLawful held (Wishes state (without_packet held id) receive_first)
dropped held state id p h = receives held (without_packet held id) state (comes_dropped held id (HoldsOnly-root held id h)) p (HoldsOnly-without held id h)

word_added : (held : Held) (state : FillState) (id : ℕ) (line word : List ℕ) → state.place ≡ Waiting → HoldsOnly held id → IsLawful held (word_after state (without_packet held id) line word)
word_added held state id [] word p h = dropped held (record state { line = word }) id p h
word_added held state id (c ∷ cs) word p h =
    elim (nat_le (length (c ∷ cs) + 1 + length word) state.size) as (λ b. IsLawful held (if b then Wishes (record state { line = (c ∷ cs) ++ 32 ∷ word }) (without_packet held id) receive_first else line_sent state (without_packet held id) word Waiting)) [
      | true ↦ dropped held (record state { line = (c ∷ cs) ++ 32 ∷ word }) id p h
      | false ↦ ((comes_replaced held id Normal state.line (HoldsOnly-root held id h) (omega (arith, ap length (HoldsOnly-without held id h))), (refl, IsAtRoot-made (without_packet held id) Normal state.line)), λ s. made_gone (without_packet held id) Normal state.line (HoldsOnly-without held id h))
    ]

word_came : (held : Held) (state : FillState) (id : ℕ) (text : List ℕ) → state.place ≡ Waiting → HoldsOnly held id → IsLawful held (word_comes state (without_packet held id) text)
word_came held state id [] p h = dropped held state id p h
word_came held state id (b ∷ bs) p h = word_added held state id state.line (b ∷ bs) p h

bracket_came : (held : Held) (state : FillState) (id : ℕ) (line : List ℕ) → state.place ≡ Waiting → HoldsOnly held id → IsLawful held (bracket_comes state held id line)
bracket_came held state id [] p h = ((comes_same held, (refl, HoldsOnly-root held id h)), λ s. rw p (HoldsOnly-without held id h))
bracket_came held state id (c ∷ cs) p h = ((comes_made held Normal state.line (omega (arith, ap length h.holds)), (refl, IsAtRoot-made held Normal state.line)), λ s. (HoldsOnly-left held id Normal state.line h s, refl))

end_came : (held : Held) (state : FillState) (line : List ℕ) → state.place ≡ Waiting → held.packets ≡ [] → IsLawful held (end_comes state held line)
end_came held state [] p e = ((comes_same held, tt), λ s. (p, e))
end_came held state (c ∷ cs) p e = ((comes_made held Normal state.line (omega (arith, ap length e)), (refl, IsAtRoot-made held Normal state.line)), λ s. (made_gone held Normal state.line e, refl))

went_on : (held : Held) (state : FillState) (place : FillPlace) → state.place ≡ place → IsReadyOn state held place → IsLawful held (goes_on state held place)
went_on held state Waiting p r = receives held held state (comes_same held) p r
went_on held state (Passing id) p r = ((comes_same held, (refl, HoldsOnly-root held id r.0)), λ s. HoldsOnly-without held id r.0)
went_on held state Leaving p r = ((comes_same held, tt), λ s. (refl, r.0))

packet_came : (held : Held) (state : FillState) (id : ℕ) (kind : Kind) → state.place ≡ Waiting → HoldsOnly held id → IsLawful held (packet_comes state held id kind)
packet_came held state id Normal p h = word_came held state id (text_at held.packets id) p h
packet_came held state id Open p h = bracket_came held state id state.line p h
packet_came held state id Close p h = bracket_came held state id state.line p h

lawful : (state : FillState) (held : Held) (answer : Answer) → FillReady state held answer → IsLawful held (fill_next state held answer)
lawful state held answers.Start r = receives held held state (comes_same held) r.0 r.1
lawful state held (answers.Got id) r = packet_came held state id (kind_at held.packets id) r.0 r.1
lawful state held answers.End r = end_came held state state.line r.0 r.1
lawful state held answers.Sent r = went_on held state state.place refl r
lawful state held (answers.Level n) r = absurd r

-- It keeps the laws of components.
pub fill_lawful : Lawful fill_rules
fill_lawful = record {
  obeys = λ state held answer outcome r is. subst (Obeys one_to_one uses_first held) (sym is) (lawful state held answer r).0;
  stays_ready = λ state held answer outcome r is. subst (StaysReady fill_rules) (sym is) (lawful state held answer r).1;
  steady = λ state held answer outcome is. record { shape = refl; outputs = refl };
  has_outcome = λ component held answer _. (fill_next component held answer, refl);
}
