-- ReadPieces keeps the laws of components.
use Rattle.flow_limits.specs.declared.TheConstants.{TEXT_LIMIT}
use Rattle.std.proofs.Common.{◌≡◌, ℕ, Bool, true, false, List, [], ◌∷◌, length, refl, nat_lt, if◌then◌else◌, sym, subst, ap, arith}
use Rattle.std.specs.Str.Lines.{lines}
use Rattle.flow_packet.specs.declared.packet.Kind.TheVariants.{Normal}
use Rattle.flow_packet.specs.Held.{Held, next_id, with_made}
use Rattle.flow_component.specs.declared.Answer.{Answer}
use Rattle.flow_component.specs.declared.Answer.TheVariants as answers
use Rattle.flow_component.specs.declared.Fail.TheVariants.{TextLimit}
use Rattle.flow_component.specs.Laws.{Lawful, Outcome, Wishes, Fails, Obeys, StaysReady}
use Rattle.flow_component.specs.Ports.{none_to_one, uses_first, send_first}
use Rattle.flow_component.proofs.Roots.{IsAtRoot-made, made_gone}
use Rattle.flow_component.proofs.Comings.{comes_same, comes_made}
use Rattle.flow_pieces.specs.ReadPieces.{Pieces, after_line, is_sure, reads_first, reads_piece, ReadPiecesReady, read_pieces_rules}

abbrev IsLawful : Held → Outcome Pieces → Type 0
IsLawful held outcome = Obeys none_to_one uses_first held outcome × StaysReady read_pieces_rules outcome

first : (held : Held) (pieces : Pieces) (left : List (List ℕ)) → held.packets ≡ [] → IsLawful held (reads_first held pieces left)
first held pieces [] e = ((comes_same held, tt), λ sound. e)
first held pieces (line ∷ left) e =
    elim (nat_lt TEXT_LIMIT (length line)) as (λ b. IsLawful held (if b then Fails pieces held (TextLimit (length line)) else Wishes (after_line pieces) (with_made held Normal line) (send_first (next_id held)))) [
      | true ↦ ((comes_same held, tt), tt)
      | false ↦ ((comes_made held Normal line (omega (arith, ap length e)), (refl, IsAtRoot-made held Normal line)), λ sound. made_gone held Normal line e)
    ]

read : (held : Held) (pieces : Pieces) (sure : Bool) → held.packets ≡ [] → IsLawful held (reads_piece held pieces sure)
read held pieces true e = first held pieces (lines pieces.left) e
read held pieces false e = ((comes_same held, tt), λ sound. e)

lawful : (pieces : Pieces) (held : Held) (answer : Answer) → ReadPiecesReady pieces held answer → IsLawful held (reads_piece held pieces (is_sure pieces))
lawful pieces held answers.Start r = read held pieces (is_sure pieces) r
lawful pieces held (answers.Got id) r = absurd r
lawful pieces held answers.End r = absurd r
lawful pieces held answers.Sent r = read held pieces (is_sure pieces) r
lawful pieces held (answers.Level n) r = absurd r

-- It keeps the laws of components.
pub read_pieces_lawful : Lawful read_pieces_rules
read_pieces_lawful = record {
  obeys = λ pieces held answer outcome r is. subst (Obeys none_to_one uses_first held) (sym is) (lawful pieces held answer r).0;
  stays_ready = λ pieces held answer outcome r is. subst (StaysReady read_pieces_rules) (sym is) (lawful pieces held answer r).1;
  steady = λ pieces held answer outcome is. record { shape = refl; outputs = refl };
  has_outcome = λ component held _ _. (reads_piece held component (is_sure component), refl);
}
