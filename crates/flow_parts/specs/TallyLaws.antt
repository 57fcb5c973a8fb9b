-- Tally keeps the laws of components.
use Rattle.flow_limits.specs.declared.TheConstants.{TEXT_LIMIT}
use Rattle.std.proofs.Common.{◌≡◌, ℕ, zero, suc, Bool, true, false, List, [], length, refl, nat_le, if◌then◌else◌, sym, subst, ap, arith}
use Rattle.std.specs.Str.{bytes_eq}
use Rattle.flow_packet.specs.declared.packet.Kind.{Kind}
use Rattle.flow_packet.specs.declared.packet.Kind.TheVariants.{Normal, Open, Close}
use Rattle.flow_packet.specs.Hands.{text_at, kind_at}
use Rattle.flow_packet.specs.Edits.{ComesBy}
use Rattle.flow_packet.specs.Held.{Held, next_id, without_packet, with_made}
use Rattle.flow_component.specs.declared.Answer.{Answer}
use Rattle.flow_component.specs.declared.Answer.TheVariants as answers
use Rattle.flow_component.specs.declared.Fail.TheVariants.{TextLimit}
use Rattle.flow_component.specs.Laws.{Lawful, Outcome, Wishes, Fails, Obeys, StaysReady}
use Rattle.flow_component.specs.Alone.{HoldsOnly}
use Rattle.flow_component.specs.Ports.{one_to_one, uses_first, receive_first, send_first}
use Rattle.flow_component.proofs.Roots.{IsAtRoot-made, made_gone}
use Rattle.flow_component.proofs.Comings.{comes_same, comes_dropped, comes_made, comes_replaced}
use Rattle.flow_component.proofs.Lone.{HoldsOnly-without, HoldsOnly-root, HoldsOnly-left, HoldsOnly-came, HoldsOnly-made_alone}
use Rattle.flow_parts.specs.declared.tally.TallyPlace.{TallyPlace}
use Rattle.flow_parts.specs.declared.tally.TallyPlace.TheVariants.{Waiting, Passing, Leaving}
use Rattle.flow_parts.specs.TallyState.{TallyState}
use Rattle.flow_parts.specs.Tally.{tally_line, one_more_time, row_told, text_comes, mark_comes, close_comes, goes_on, one_comes, tally_next, TallyReady, IsReadyOn, tally_rules}

-- The work from these hands leads to a lawful outcome.
abbrev IsLawful : Held → Outcome TallyState → Type 0
IsLawful held outcome = Obeys one_to_one uses_first held outcome × StaysReady tally_rules outcome

receives : (old held : Held) (state : TallyState) → ComesBy old held → state.place ≡ Waiting → held.packets ≡ [] → IsLawful old (Wishes state held receive_first)
receives old held state w p e = ((w, omega arith), ((λ s. (p, e)), (λ t s. (p, HoldsOnly-came held t e s)), (λ text s. (p, HoldsOnly-made_alone held Normal text e s))))

dropped : (held : Held) (state : TallyState) (id : ℕ) → state.place ≡ Waiting → HoldsOnly held id → IsLawful held (Wishes state (without_packet held id) receive_first)
dropped held state id p h = receives held (without_packet held id) state (comes_dropped held id (HoldsOnly-root held id h)) p (HoldsOnly-without held id h)

-- a row was told, or it was too long
told : (state next : TallyState) (held left : Held) (line : List ℕ) (fits : Bool) → ComesBy held (with_made left Normal line)
    → StaysReady tally_rules (Wishes next (with_made left Normal line) (send_first (next_id left)))
    → IsLawful held (if fits then Wishes next (with_made left Normal line) (send_first (next_id left)) else Fails state held (TextLimit (length line)))
told state next held left line true c s = ((c, (refl, IsAtRoot-made left Normal line)), s)
told state next held left line false c s = ((comes_same held, tt), tt)

text_came : (held : Held) (state : TallyState) (id times : ℕ) (text : List ℕ) → state.place ≡ Waiting → HoldsOnly held id → IsLawful held (text_comes state held id times text)
text_came held state id zero text p h = dropped held (record state { times = 1; text = text }) id p h
text_came held state id (suc n) text p h =
    elim (bytes_eq text state.text) as (λ b. IsLawful held (if b then Wishes (record state { times = one_more_time (suc n) }) (without_packet held id) receive_first else row_told state held (without_packet held id) (tally_line (suc n) state.text) 1 text Waiting)) [
      | true ↦ dropped held (record state { times = one_more_time (suc n) }) id p h
      | false ↦ told state (record { times = 1; text = text; place = Waiting }) held (without_packet held id) (tally_line (suc n) state.text) (nat_le (length (tally_line (suc n) state.text)) TEXT_LIMIT)
          (comes_replaced held id Normal (tally_line (suc n) state.text) (HoldsOnly-root held id h) (omega (arith, ap length (HoldsOnly-without held id h))))
          (λ s. made_gone (without_packet held id) Normal (tally_line (suc n) state.text) (HoldsOnly-without held id h))
    ]

mark_came : (held : Held) (state : TallyState) (id times : ℕ) → state.place ≡ Waiting → HoldsOnly held id → IsLawful held (mark_comes state held id times)
mark_came held state id zero p h = ((comes_same held, (refl, HoldsOnly-root held id h)), λ s. rw p (HoldsOnly-without held id h))
mark_came held state id (suc n) p h =
    told state (record { times = 0; text = []; place = Passing id }) held held (tally_line (suc n) state.text) (nat_le (length (tally_line (suc n) state.text)) TEXT_LIMIT)
    (comes_made held Normal (tally_line (suc n) state.text) (omega (arith, ap length h.holds)))
    (λ s. (HoldsOnly-left held id Normal (tally_line (suc n) state.text) h s, refl))

end_came : (held : Held) (state : TallyState) (times : ℕ) → state.place ≡ Waiting → held.packets ≡ [] → IsLawful held (close_comes state held times)
end_came held state zero p e = ((comes_same held, tt), λ s. (p, e))
end_came held state (suc n) p e =
    told state (record { times = 0; text = []; place = Leaving }) held held (tally_line (suc n) state.text) (nat_le (length (tally_line (suc n) state.text)) TEXT_LIMIT)
    (comes_made held Normal (tally_line (suc n) state.text) (omega (arith, ap length e)))
    (λ s. (made_gone held Normal (tally_line (suc n) state.text) e, refl))

went_on : (held : Held) (state : TallyState) (place : TallyPlace) → state.place ≡ place → IsReadyOn state held place → IsLawful held (goes_on state held place)
went_on held state Waiting p r = receives held held state (comes_same held) p r
went_on held state (Passing id) p r = ((comes_same held, (refl, HoldsOnly-root held id r.0)), λ s. HoldsOnly-without held id r.0)
went_on held state Leaving p r = ((comes_same held, tt), λ s. (refl, r.0))

one_came : (held : Held) (state : TallyState) (id : ℕ) (kind : Kind) → state.place ≡ Waiting → HoldsOnly held id → IsLawful held (one_comes state held id kind)
one_came held state id Normal p h = text_came held state id state.times (text_at held.packets id) p h
one_came held state id Open p h = mark_came held state id state.times p h
one_came held state id Close p h = mark_came held state id state.times p h

lawful : (state : TallyState) (held : Held) (answer : Answer) → TallyReady state held answer → IsLawful held (tally_next state held answer)
lawful state held answers.Start r = receives held held state (comes_same held) r.0 r.1
lawful state held (answers.Got id) r = one_came held state id (kind_at held.packets id) r.0 r.1
lawful state held answers.End r = end_came held state state.times r.0 r.1
lawful state held answers.Sent r = went_on held state state.place refl r
lawful state held (answers.Level n) r = absurd r

-- It keeps the laws of components.
pub tally_lawful : Lawful tally_rules
tally_lawful = record {
  obeys = λ state held answer outcome r is. subst (Obeys one_to_one uses_first held) (sym is) (lawful state held answer r).0;
  stays_ready = λ state held answer outcome r is. subst (StaysReady tally_rules) (sym is) (lawful state held answer r).1;
  steady = λ state held answer outcome is. record { shape = refl; outputs = refl };
  has_outcome = λ component held answer _. (tally_next component held answer, refl);
}
