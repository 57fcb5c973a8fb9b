-- WritePieces keeps the laws of components.
use Rattle.std.proofs.Common.{ℕ, List, refl, sym, subst}
use Rattle.flow_packet.specs.Held.{Held}
use Rattle.flow_component.specs.declared.Answer.{Answer}
use Rattle.flow_component.specs.declared.Answer.TheVariants as answers
use Rattle.flow_component.specs.Laws.{Lawful, Obeys, StaysReady}
use Rattle.flow_component.specs.Outcomes.{IsAtHand, outcome_as}
use Rattle.flow_component.specs.Ports.{one_to_none, uses_none}
use Rattle.flow_parts.specs.WriteLines.{writes}
use Rattle.flow_parts.specs.WriteLinesLaws.{write_lines_lawful}
use Rattle.flow_pieces.specs.WritePieces.{with_gone, write_pieces_rules}

obeys : (gone bytes : List ℕ) (held : Held) (answer : Answer) → IsAtHand held answer → Obeys one_to_none uses_none held (outcome_as (with_gone gone) (writes bytes held answer))
obeys gone bytes held answers.Start r = write_lines_lawful.obeys bytes held answers.Start (writes bytes held answers.Start) r refl
obeys gone bytes held (answers.Got id) r = write_lines_lawful.obeys bytes held (answers.Got id) (writes bytes held (answers.Got id)) r refl
obeys gone bytes held answers.End r = write_lines_lawful.obeys bytes held answers.End (writes bytes held answers.End) r refl
obeys gone bytes held answers.Sent r = write_lines_lawful.obeys bytes held answers.Sent (writes bytes held answers.Sent) r refl
obeys gone bytes held (answers.Level n) r = absurd r

stays : (gone bytes : List ℕ) (held : Held) (answer : Answer) → IsAtHand held answer → StaysReady write_pieces_rules (outcome_as (with_gone gone) (writes bytes held answer))
stays gone bytes held answers.Start r = write_lines_lawful.stays_ready bytes held answers.Start (writes bytes held answers.Start) r refl
stays gone bytes held (answers.Got id) r = write_lines_lawful.stays_ready bytes held (answers.Got id) (writes bytes held (answers.Got id)) r refl
stays gone bytes held answers.End r = write_lines_lawful.stays_ready bytes held answers.End (writes bytes held answers.End) r refl
stays gone bytes held answers.Sent r = write_lines_lawful.stays_ready bytes held answers.Sent (writes bytes held answers.Sent) r refl
stays gone bytes held (answers.Level n) r = absurd r

-- It keeps the laws of components.
pub write_pieces_lawful : Lawful write_pieces_rules
write_pieces_lawful = record {
  obeys = λ g held answer outcome r is. subst (Obeys one_to_none uses_none held) (sym is) (obeys g.gone g.has held answer r);
  stays_ready = λ g held answer outcome r is. subst (StaysReady write_pieces_rules) (sym is) (stays g.gone g.has held answer r);
  steady = λ g held answer outcome is. record { shape = refl; outputs = refl };
  has_outcome = λ g held answer _. (outcome_as (with_gone g.gone) (writes g.has held answer), refl);
}
