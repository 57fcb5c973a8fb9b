-- ReadLines keeps the laws of components.
use Rattle.flow_limits.specs.declared.TheConstants.{TEXT_LIMIT}
use Rattle.std.proofs.Common.{◌≡◌, ℕ, true, false, List, [], ◌∷◌, length, refl, nat_lt, if◌then◌else◌, sym, subst, ap, arith}
use Rattle.flow_packet.specs.declared.packet.Kind.TheVariants.{Normal}
use Rattle.flow_packet.specs.Held.{Held, next_id, with_made}
use Rattle.flow_component.specs.declared.Answer.{Answer}
use Rattle.flow_component.specs.declared.Answer.TheVariants as answers
use Rattle.flow_component.specs.declared.Fail.TheVariants.{TextLimit}
use Rattle.flow_component.specs.Laws.{Lawful, Outcome, Wishes, Fails, Obeys, StaysReady}
use Rattle.flow_component.specs.Ports.{none_to_one, uses_first, send_first}
use Rattle.flow_component.proofs.Roots.{IsAtRoot-made, made_gone}
use Rattle.flow_component.proofs.Comings.{comes_same, comes_made}
use Rattle.flow_parts.specs.ReadLines.{reads, ReadLinesReady, read_lines_rules}

abbrev IsLawful : Held → Outcome (List (List ℕ)) → Type 0
IsLawful held outcome = Obeys none_to_one uses_first held outcome × StaysReady read_lines_rules outcome

read : (held : Held) (left : List (List ℕ)) → held.packets ≡ [] → IsLawful held (reads held left)
read held [] e = ((comes_same held, tt), λ sound. e)
read held (line ∷ left) e =
    elim (nat_lt TEXT_LIMIT (length line)) as (λ b. IsLawful held (if b then Fails (line ∷ left) held (TextLimit (length line)) else Wishes left (with_made held Normal line) (send_first (next_id held)))) [
      | true ↦ ((comes_same held, tt), tt)
      | false ↦ ((comes_made held Normal line (omega (arith, ap length e)), (refl, IsAtRoot-made held Normal line)), λ sound. made_gone held Normal line e)
    ]

lawful : (left : List (List ℕ)) (held : Held) (answer : Answer) → ReadLinesReady left held answer → IsLawful held (reads held left)
lawful left held answers.Start r = read held left r
lawful left held (answers.Got id) r = absurd r
lawful left held answers.End r = absurd r
lawful left held answers.Sent r = read held left r
lawful left held (answers.Level n) r = absurd r

-- It keeps the laws of components.
pub read_lines_lawful : Lawful read_lines_rules
read_lines_lawful = record {
  obeys = λ left held answer outcome r is. subst (Obeys none_to_one uses_first held) (sym is) (lawful left held answer r).0;
  stays_ready = λ left held answer outcome r is. subst (StaysReady read_lines_rules) (sym is) (lawful left held answer r).1;
  steady = λ left held answer outcome is. record { shape = refl; outputs = refl };
  has_outcome = λ component held _ _. (reads held component, refl);
}
