-- Match keeps the laws of components.
use Rattle.std.proofs.Common.{◌≡◌, ℕ, ◌==◌, Bool, true, false, [], if◌then◌else◌, refl, sym, subst, ap, ◌∙◌, arith}
use Rattle.flow_packet.specs.declared.packet.Kind.{Kind}
use Rattle.flow_packet.specs.declared.packet.Kind.TheVariants.{Normal, Open, Close}
use Rattle.flow_packet.specs.Hands.{kind_at, text_at}
use Rattle.flow_packet.specs.Held.{Held, without_packet}
use Rattle.flow_packet.specs.Edits.{ComesBy}
use Rattle.flow_component.specs.declared.Answer.{Answer}
use Rattle.flow_component.specs.declared.Answer.TheVariants as answers
use Rattle.flow_component.specs.Laws.{Lawful, Outcome, Wishes, Obeys, StaysReady, component_after}
use Rattle.flow_component.specs.Alone.{HoldsOnly}
use Rattle.flow_component.specs.Ports.{receive_first}
use Rattle.flow_component.proofs.Comings.{comes_same, comes_dropped}
use Rattle.flow_component.proofs.Lone.{HoldsOnly-without, HoldsOnly-root, HoldsOnly-came, HoldsOnly-made_alone}
use Rattle.flow_pattern.specs.Pattern.{matches}
use Rattle.flow_match.specs.Match.{MatchState, rejects_packet, judges, comes, match_next, MatchReady, match_shape, match_uses, match_rules}

-- The outputs that are used where the second one is connected, or isn't.
abbrev used : Bool → ℕ → Bool
used rejects port = if port == 1 then rejects else port == 0

-- The work from these hands leads to a lawful outcome.
abbrev IsLawful : Bool → Held → Outcome MatchState → Type 0
IsLawful rejects held outcome = Obeys match_shape (used rejects) held outcome × StaysReady match_rules outcome

receives : (rejects : Bool) (old held : Held) (state : MatchState) → ComesBy old held → held.packets ≡ [] → IsLawful rejects old (Wishes state held receive_first)
receives rejects old held state w e = ((w, omega arith), ((λ s. e), (λ t s. HoldsOnly-came held t e s), (λ text s. HoldsOnly-made_alone held Normal text e s)))

rejected : (rejects : Bool) (state : MatchState) (held : Held) (id : ℕ) → HoldsOnly held id → IsLawful rejects held (rejects_packet rejects state held id)
rejected true state held id h = ((comes_same held, (refl, HoldsOnly-root held id h)), λ s. HoldsOnly-without held id h)
rejected false state held id h = receives false held (without_packet held id) state (comes_dropped held id (HoldsOnly-root held id h)) (HoldsOnly-without held id h)

judged : (accepts : Bool) (state : MatchState) (held : Held) (id : ℕ) → HoldsOnly held id → IsLawful state.rejects held (judges accepts state held id)
judged true state held id h = ((comes_same held, (refl, HoldsOnly-root held id h)), λ s. HoldsOnly-without held id h)
judged false state held id h = rejected state.rejects state held id h

came : (state : MatchState) (held : Held) (id : ℕ) (kind : Kind) → HoldsOnly held id → IsLawful state.rejects held (comes state held id kind)
came state held id Normal h = judged (matches state.pattern (text_at held.packets id)) state held id h
came state held id Open h = judged true state held id h
came state held id Close h = judged true state held id h

lawful : (state : MatchState) (held : Held) (answer : Answer) → MatchReady state held answer → IsLawful state.rejects held (match_next state held answer)
lawful state held answers.Start r = receives state.rejects held held state (comes_same held) r
lawful state held (answers.Got id) r = came state held id (kind_at held.packets id) r
lawful state held answers.End r = ((comes_same held, tt), λ s. r)
lawful state held answers.Sent r = receives state.rejects held held state (comes_same held) r
lawful state held (answers.Level n) r = absurd r

rejected-same : (rejects : Bool) (state : MatchState) (held : Held) (id : ℕ) → component_after (rejects_packet rejects state held id) ≡ state
rejected-same true state held id = refl
rejected-same false state held id = refl

judged-same : (accepts : Bool) (state : MatchState) (held : Held) (id : ℕ) → component_after (judges accepts state held id) ≡ state
judged-same true state held id = refl
judged-same false state held id = rejected-same state.rejects state held id

came-same : (state : MatchState) (held : Held) (id : ℕ) (kind : Kind) → component_after (comes state held id kind) ≡ state
came-same state held id Normal = judged-same (matches state.pattern (text_at held.packets id)) state held id
came-same state held id Open = refl
came-same state held id Close = refl

-- Its state never changes.
pub next-same : (state : MatchState) (held : Held) (answer : Answer) → component_after (match_next state held answer) ≡ state
next-same state held answers.Start = refl
next-same state held (answers.Got id) = came-same state held id (kind_at held.packets id)
next-same state held answers.End = refl
next-same state held answers.Sent = refl
next-same state held (answers.Level n) = refl

-- It keeps the laws of components.
pub match_lawful : Lawful match_rules
match_lawful = record {
  obeys = λ state held answer outcome r is. subst (Obeys match_shape (match_uses state) held) (sym is) (lawful state held answer r).0;
  stays_ready = λ state held answer outcome r is. subst (StaysReady match_rules) (sym is) (lawful state held answer r).1;
  steady = λ state held answer outcome is.
      let e = ap (λ (o : Outcome MatchState). component_after o) is ∙ next-same state held answer in
      record { shape = refl; outputs = ap match_uses e };
  has_outcome = λ component held answer _. (match_next component held answer, refl);
}
