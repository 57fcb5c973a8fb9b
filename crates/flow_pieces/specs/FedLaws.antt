-- That each of these components keeps the laws of components.
use Rattle.std.proofs.Common.{Result, Ok, Err, refl, sym, ◌∙◌, ap, subst}
use Rattle.flow_packet.specs.Hands.{Holding}
use Rattle.flow_packet.specs.Held.{Held, held_of}
use Rattle.flow_component.specs.declared.Answer.{Answer}
use Rattle.flow_component.specs.declared.Wish.{Wish}
use Rattle.flow_component.specs.declared.Stop.{Stop}
use Rattle.flow_component.specs.declared.Stop.TheVariants as stops
use Rattle.flow_component.specs.Laws.{Rules, Lawful, Outcome, Wishes, Fails, Obeys, StaysReady, IsSteady, HasOutcome}
use Rattle.flow_component.specs.Outcomes.{outcome_as}
use Rattle.flow_component.specs.Ports.{none_to_one, one_to_none, uses_first, uses_none}
use Rattle.flow_component.specs.Resumes.{Resumes}
use Rattle.flow_component.proofs.Lifting.{Obeys-as, StaysReady-as, component_after-as}
use Rattle.flow_pieces.specs.ReadPieces.{Pieces, ReadPiecesNext, read_pieces_rules}
use Rattle.flow_pieces.specs.ReadPiecesLaws.{read_pieces_lawful}
use Rattle.flow_pieces.specs.WritePieces.{Gathered, WritePiecesNext, write_pieces_rules}
use Rattle.flow_pieces.specs.WritePiecesLaws.{write_pieces_lawful}
use Rattle.flow_pieces.specs.Fed.{Fed, Reader, Writer, Other, FedNext, FedReady, fed_shape, fed_uses, fed_rules}

module _ {K : Type 0} (rules : Rules K) where
  obeys : Lawful rules → (component : Fed K) (held : Held) (answer : Answer) (outcome : Outcome (Fed K)) → FedReady rules component held answer → FedNext rules component held answer outcome
      → Obeys (fed_shape rules component) (fed_uses rules component) held outcome
  obeys lawful (Reader x) held answer outcome r n =
      subst (Obeys none_to_one uses_first held) (sym n.2) (Obeys-as Reader none_to_one uses_first held n.0 (read_pieces_lawful.obeys x held answer n.0 r n.1))
  obeys lawful (Writer g) held answer outcome r n =
      subst (Obeys one_to_none uses_none held) (sym n.2) (Obeys-as Writer one_to_none uses_none held n.0 (write_pieces_lawful.obeys g held answer n.0 r n.1))
  obeys lawful (Other component) held answer outcome r n =
      subst (Obeys (rules.shape component) (rules.uses component) held) (sym n.2) (Obeys-as Other (rules.shape component) (rules.uses component) held n.0 (lawful.obeys component held answer n.0 r n.1))

  stays : Lawful rules → (component : Fed K) (held : Held) (answer : Answer) (outcome : Outcome (Fed K)) → FedReady rules component held answer → FedNext rules component held answer outcome → StaysReady (fed_rules rules) outcome
  stays lawful (Reader x) held answer outcome r n =
      subst (StaysReady (fed_rules rules)) (sym n.2) (StaysReady-as Reader read_pieces_rules (fed_rules rules) (λ k held wish after. after) n.0 (read_pieces_lawful.stays_ready x held answer n.0 r n.1))
  stays lawful (Writer g) held answer outcome r n =
      subst (StaysReady (fed_rules rules)) (sym n.2) (StaysReady-as Writer write_pieces_rules (fed_rules rules) (λ k held wish after. after) n.0 (write_pieces_lawful.stays_ready g held answer n.0 r n.1))
  stays lawful (Other component) held answer outcome r n =
      subst (StaysReady (fed_rules rules)) (sym n.2) (StaysReady-as Other rules (fed_rules rules) (λ k held wish after. after) n.0 (lawful.stays_ready component held answer n.0 r n.1))

  steady : Lawful rules → (component : Fed K) (held : Held) (answer : Answer) (outcome : Outcome (Fed K)) → FedNext rules component held answer outcome → IsSteady (fed_rules rules) component outcome
  steady lawful (Reader x) held answer outcome n =
      let after = component_after-as {L = Fed K} Reader n.0 in
      subst (IsSteady (fed_rules rules) (Reader x)) (sym n.2) (record { shape = ap (fed_shape rules) after; outputs = ap (fed_uses rules) after })
  steady lawful (Writer g) held answer outcome n =
      let after = component_after-as {L = Fed K} Writer n.0 in
      subst (IsSteady (fed_rules rules) (Writer g)) (sym n.2) (record { shape = ap (fed_shape rules) after; outputs = ap (fed_uses rules) after })
  steady lawful (Other component) held answer outcome n =
      let kept = lawful.steady component held answer n.0 n.1 in
      let after = component_after-as Other n.0 in
      subst (IsSteady (fed_rules rules) (Other component)) (sym n.2) (record { shape = ap (fed_shape rules) after ∙ kept.shape; outputs = ap (fed_uses rules) after ∙ kept.outputs })

  some : Lawful rules → (component : Fed K) (held : Held) (answer : Answer) → FedReady rules component held answer → HasOutcome (fed_rules rules) component held answer
  some lawful (Reader x) held answer r = let o = read_pieces_lawful.has_outcome x held answer r in (outcome_as Reader o.0, (o.0, o.1, refl))
  some lawful (Writer g) held answer r = let o = write_pieces_lawful.has_outcome g held answer r in (outcome_as Writer o.0, (o.0, o.1, refl))
  some lawful (Other component) held answer r = let o = lawful.has_outcome component held answer r in (outcome_as Other o.0, (o.0, o.1, refl))

  -- It keeps the laws of components.
  pub fed_lawful : Lawful rules → Lawful (fed_rules rules)
  fed_lawful lawful = record { obeys = obeys lawful; stays_ready = stays lawful; steady = steady lawful; has_outcome = some lawful }

  -- A resume of one of them is one of these.
  pub reader_resumes : (x x' : Pieces) (old new : Holding) (answer : Answer) (result : Result Wish Stop) → Resumes ReadPiecesNext x old answer result x' new
      → Resumes (FedNext rules) (Reader x) old answer result (Reader x') new
  reader_resumes x x' old new answer (Ok wish) r = ((Wishes x' (held_of new) wish, r.0, refl), r.1)
  reader_resumes x x' old new answer (Err (stops.Fail cause)) r = ((Fails x' (held_of new) cause, r.0, refl), r.1)
  reader_resumes x x' old new answer (Err stops.NoMemory) r = (ap {B = Fed K} Reader r.0, r.1, r.2)

  pub writer_resumes : (x x' : Gathered) (old new : Holding) (answer : Answer) (result : Result Wish Stop) → Resumes WritePiecesNext x old answer result x' new
      → Resumes (FedNext rules) (Writer x) old answer result (Writer x') new
  writer_resumes x x' old new answer (Ok wish) r = ((Wishes x' (held_of new) wish, r.0, refl), r.1)
  writer_resumes x x' old new answer (Err (stops.Fail cause)) r = ((Fails x' (held_of new) cause, r.0, refl), r.1)
  writer_resumes x x' old new answer (Err stops.NoMemory) r = (ap {B = Fed K} Writer r.0, r.1, r.2)

  pub other_resumes : (component component' : K) (old new : Holding) (answer : Answer) (result : Result Wish Stop) → Resumes rules.next component old answer result component' new
      → Resumes (FedNext rules) (Other component) old answer result (Other component') new
  other_resumes component component' old new answer (Ok wish) r = ((Wishes component' (held_of new) wish, r.0, refl), r.1)
  other_resumes component component' old new answer (Err (stops.Fail cause)) r = ((Fails component' (held_of new) cause, r.0, refl), r.1)
  other_resumes component component' old new answer (Err stops.NoMemory) r = (ap {B = Fed K} Other r.0, r.1, r.2)
