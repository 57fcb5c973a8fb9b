-- Replace keeps the laws of components.
use Rattle.flow_limits.specs.declared.TheConstants.{TEXT_LIMIT}
use Rattle.std.proofs.Common.{◌≡◌, ℕ, Bool, true, false, List, [], length, nat_lt, cond, refl, sym, subst, ap, arith}
use Rattle.flow_packet.specs.declared.packet.Kind.{Kind}
use Rattle.flow_packet.specs.declared.packet.Kind.TheVariants.{Normal, Open, Close}
use Rattle.flow_packet.specs.Hands.{kind_at, text_at}
use Rattle.flow_packet.specs.Held.{Held, next_id, without_packet, with_made}
use Rattle.flow_component.specs.declared.Answer.{Answer}
use Rattle.flow_component.specs.declared.Answer.TheVariants as answers
use Rattle.flow_component.specs.declared.Fail.TheVariants.{TextLimit}
use Rattle.flow_component.specs.Laws.{Lawful, Outcome, Wishes, Fails, Obeys, StaysReady, component_after}
use Rattle.flow_component.specs.Alone.{HoldsOnly}
use Rattle.flow_component.specs.Ports.{one_to_one, uses_first, receive_first, send_first}
use Rattle.flow_component.proofs.Roots.{IsAtRoot-made, made_gone}
use Rattle.flow_component.proofs.Comings.{comes_same, comes_replaced}
use Rattle.flow_component.proofs.Lone.{HoldsOnly-without, HoldsOnly-root, HoldsOnly-came, HoldsOnly-made_alone}
use Rattle.flow_pattern.specs.Pattern.{Replacement, matches, replaced}
use Rattle.flow_match.specs.Replace.{renews, rewrites, comes, replace_next, ReplaceReady, replace_rules}

-- The work from these hands leads to a lawful outcome.
abbrev IsLawful : Held → Outcome Replacement → Type 0
IsLawful held outcome = Obeys one_to_one uses_first held outcome × StaysReady replace_rules outcome

idle : (state : Replacement) (held : Held) → held.packets ≡ [] → IsLawful held (Wishes state held receive_first)
idle state held e = ((comes_same held, omega arith), ((λ s. e), (λ t s. HoldsOnly-came held t e s), (λ text s. HoldsOnly-made_alone held Normal text e s)))

passed : (state : Replacement) (held : Held) (id : ℕ) → HoldsOnly held id → IsLawful held (Wishes state held (send_first id))
passed state held id h = ((comes_same held, (refl, HoldsOnly-root held id h)), λ s. HoldsOnly-without held id h)

renewed : (state : Replacement) (held : Held) (id : ℕ) (text : List ℕ) → HoldsOnly held id → IsLawful held (renews state held id text)
renewed state held id text h = by (nat_lt TEXT_LIMIT (length text)) where
  e : (without_packet held id).packets ≡ []
  e = HoldsOnly-without held id h

  by : (long : Bool) → IsLawful held (cond long (Fails state held (TextLimit (length text))) (Wishes state (with_made (without_packet held id) Normal text) (send_first (next_id held))))
  by true = ((comes_same held, tt), tt)
  by false = ((comes_replaced held id Normal text (HoldsOnly-root held id h) (omega (arith, ap length e)), (refl, IsAtRoot-made (without_packet held id) Normal text)), λ s. made_gone (without_packet held id) Normal text e)

rewritten : (found : Bool) (state : Replacement) (held : Held) (id : ℕ) (text : List ℕ) → HoldsOnly held id → IsLawful held (rewrites found state held id text)
rewritten true state held id text h = renewed state held id (replaced state.pattern state.with text) h
rewritten false state held id text h = passed state held id h

came : (state : Replacement) (held : Held) (id : ℕ) (kind : Kind) → HoldsOnly held id → IsLawful held (comes state held id kind)
came state held id Normal h = rewritten (matches state.pattern (text_at held.packets id)) state held id (text_at held.packets id) h
came state held id Open h = passed state held id h
came state held id Close h = passed state held id h

lawful : (state : Replacement) (held : Held) (answer : Answer) → ReplaceReady state held answer → IsLawful held (replace_next state held answer)
lawful state held answers.Start r = idle state held r
lawful state held (answers.Got id) r = came state held id (kind_at held.packets id) r
lawful state held answers.End r = ((comes_same held, tt), λ s. r)
lawful state held answers.Sent r = idle state held r
lawful state held (answers.Level n) r = absurd r

renewed-same : (long : Bool) (state : Replacement) (held : Held) (id : ℕ) (text : List ℕ)
    → component_after (cond long (Fails state held (TextLimit (length text))) (Wishes state (with_made (without_packet held id) Normal text) (send_first (next_id held)))) ≡ state
renewed-same true state held id text = refl
renewed-same false state held id text = refl

rewritten-same : (found : Bool) (state : Replacement) (held : Held) (id : ℕ) (text : List ℕ) → component_after (rewrites found state held id text) ≡ state
rewritten-same true state held id text =
    let new = replaced state.pattern state.with text in
    renewed-same (nat_lt TEXT_LIMIT (length new)) state held id new
rewritten-same false state held id text = refl

came-same : (state : Replacement) (held : Held) (id : ℕ) (kind : Kind) → component_after (comes state held id kind) ≡ state
came-same state held id Normal = rewritten-same (matches state.pattern (text_at held.packets id)) state held id (text_at held.packets id)
came-same state held id Open = refl
came-same state held id Close = refl

-- Its state never changes.
pub next-same : (state : Replacement) (held : Held) (answer : Answer) → component_after (replace_next state held answer) ≡ state
next-same state held answers.Start = refl
next-same state held (answers.Got id) = came-same state held id (kind_at held.packets id)
next-same state held answers.End = refl
next-same state held answers.Sent = refl
next-same state held (answers.Level n) = refl

-- It keeps the laws of components.
pub replace_lawful : Lawful replace_rules
replace_lawful = record {
  obeys = λ state held answer outcome r is. subst (Obeys one_to_one uses_first held) (sym is) (lawful state held answer r).0;
  stays_ready = λ state held answer outcome r is. subst (StaysReady replace_rules) (sym is) (lawful state held answer r).1;
  steady = λ state held answer outcome is. record { shape = refl; outputs = refl };
  has_outcome = λ component held answer _. (replace_next component held answer, refl);
}
