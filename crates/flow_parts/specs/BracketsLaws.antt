-- Brackets keeps the laws of components.
use Rattle.std.proofs.Common.{◌≡◌, ℕ, List, [], ◌∷◌, length, refl, sym, subst, arith, ap, Option, Some, None}
use Rattle.std.specs.Prelude.{slice_range}
use Rattle.flow_packet.specs.declared.packet.Kind.{Kind}
use Rattle.flow_packet.specs.declared.packet.Kind.TheVariants.{Normal, Open, Close}
use Rattle.flow_packet.specs.Tree.{packet_of}
use Rattle.flow_packet.specs.Hands.{text_at, kind_at, without, IsAtRoot}
use Rattle.flow_packet.specs.Held.{Held, next_id, without_packet, with_made}
use Rattle.flow_component.specs.declared.Answer.{Answer}
use Rattle.flow_component.specs.declared.Answer.TheVariants as answers
use Rattle.flow_component.specs.Laws.{Lawful, Outcome, Wishes, Obeys, StaysReady, IsSteady}
use Rattle.flow_component.specs.Alone.{HoldsOnly}
use Rattle.flow_component.specs.Ports.{one_to_one, uses_first, receive_first, send_first}
use Rattle.flow_component.proofs.Roots.{same_id}
use Rattle.flow_component.proofs.Comings.{comes_same, comes_renewed}
use Rattle.flow_component.proofs.Lone.{HoldsOnly-without, HoldsOnly-root, HoldsOnly-came, HoldsOnly-made_alone}
use Rattle.flow_parts.specs.Brackets.{bracket_of, turns, takes, brackets_next, BracketsReady, brackets_rules}

-- in the place of the packet that was alone stands the one that was made
pub renewed : (held : Held) (id : ℕ) (kind : Kind) (text : List ℕ) → HoldsOnly held id → (without_packet (with_made held kind text) id).packets ≡ packet_of (next_id held) kind text [] ∷ []
renewed held id kind text h = let e = Rattle.std.proofs.Common.eq-eqb (Rattle.flow_packet.specs.Tree.id_of h.packet) id h.named in rw (h.holds, e) refl

made-root : (n : ℕ) (kind : Kind) (text : List ℕ) → IsAtRoot (packet_of n kind text [] ∷ []) n
made-root n kind text = let s = same_id n in rw s refl

made-gone : (n : ℕ) (kind : Kind) (text : List ℕ) → without (packet_of n kind text [] ∷ []) n ≡ []
made-gone n kind text = let s = same_id n in rw s refl

module _ {K : Type 0} where
  abbrev IsLawful : Held → Outcome K → Type 0
  IsLawful held outcome = Obeys one_to_one uses_first held outcome × StaysReady brackets_rules outcome

  idle : (component : K) (held : Held) → held.packets ≡ [] → IsLawful held (Wishes component held receive_first)
  idle component held e = ((comes_same held, omega arith), ((λ s. e), (λ t s. HoldsOnly-came held t e s), (λ text s. HoldsOnly-made_alone held Normal text e s)))

  passed : (component : K) (held : Held) (id : ℕ) → HoldsOnly held id → IsLawful held (Wishes component held (send_first id))
  passed component held id h = ((comes_same held, (refl, HoldsOnly-root held id h)), λ s. HoldsOnly-without held id h)

  turned : (component : K) (held : Held) (id : ℕ) (text : List ℕ) (kind : Option Kind) → HoldsOnly held id → IsLawful held (turns component held id text kind)
  turned component held id text None h = passed component held id h
  turned component held id text (Some kind) h =
      let rest = slice_range text 1 (length text) in
      let e = renewed held id kind rest h in (
        (comes_renewed held kind rest id (omega (arith, ap length h.holds)) (HoldsOnly-root held id h), (refl, rw e (made-root (next_id held) kind rest))),
        λ s. rw e (made-gone (next_id held) kind rest),
      )

  taken : (component : K) (held : Held) (id : ℕ) (kind : Kind) → HoldsOnly held id → IsLawful held (takes component held id kind)
  taken component held id Normal h = turned component held id (text_at held.packets id) (bracket_of (text_at held.packets id)) h
  taken component held id Open h = passed component held id h
  taken component held id Close h = passed component held id h

  lawful : (component : K) (held : Held) (answer : Answer) → BracketsReady component held answer → IsLawful held (brackets_next component held answer)
  lawful component held answers.Start r = idle component held r
  lawful component held (answers.Got id) r = taken component held id (kind_at held.packets id) r
  lawful component held answers.End r = ((comes_same held, tt), λ s. r)
  lawful component held answers.Sent r = idle component held r
  lawful component held (answers.Level n) r = absurd r

  -- It keeps the laws of components.
  pub brackets_lawful : Lawful {K = K} brackets_rules
  brackets_lawful = record {
    obeys = λ component held answer outcome r is. subst (Obeys one_to_one uses_first held) (sym is) (lawful component held answer r).0;
    stays_ready = λ component held answer outcome r is. subst (StaysReady brackets_rules) (sym is) (lawful component held answer r).1;
    steady = λ component held answer outcome is. subst (IsSteady brackets_rules component) (sym is) (record { shape = refl; outputs = refl });
    has_outcome = λ component held answer _. (brackets_next component held answer, refl);
  }
