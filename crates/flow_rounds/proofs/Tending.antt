-- A network that is fed is that of the whole files.
use Rattle.std.proofs.Common.{◌≡◌, ◌≢◌, ◌⊎◌, inl, inr, ℕ, zero, suc, true, false, List, [], ◌∷◌, ◌++◌, Some, slice_get, slice_set, refl, sym, ◌∙◌, ap, subst, append_assoc}
use Rattle.flow_packet.specs.Held.{Held}
use Rattle.flow_component.specs.declared.Answer.{Answer}
use Rattle.flow_component.specs.Laws.{Rules, Outcome, Wishes, Fails, component_after}
use Rattle.flow_component.specs.Outcomes.{outcome_as}
use Rattle.flow_model.specs.States.{Process, State}
use Rattle.flow_model.specs.Stages.{IsThoughtStage}
use Rattle.flow_model.specs.Works.{Work}
use Rattle.flow_model.specs.Schedules.{IsThought, IsClosed, Leads, Turned, Worked, Reaches, journal_of}
use Rattle.flow_model.specs.Replaced.{Mimics, OfEach, replaced, all_replaced, with_component}
use Rattle.flow_model.proofs.Lists.{slice_get-set_same, slice_get-set_other, same_or_not}
use Rattle.flow_model.proofs.Replacing.{replaced-there, replaced-from, turn-replaced, settles-replaced, turn-back, settles-back}
use Rattle.flow_model.proofs.Opens.{closed-leads}
use Rattle.flow_pieces.specs.ReadPieces.{Pieces}
use Rattle.flow_pieces.specs.WritePieces.{Gathered, all_bytes}
use Rattle.flow_pieces.specs.Fed.{Fed, Reader, Writer, Other, FedNext, fed_rules}
use Rattle.flow_pieces.specs.Tended.{IsGiven, Piece, End, IsTended}
use Rattle.flow_rounds.specs.Whole.{HaveFiles, whole_of, IsFront, IsFedFrom, whole_reader}
use Rattle.flow_rounds.specs.Rounds.{Tends, RoundStep, Went, Tended, RoundsReach, machine_steps}
use Rattle.flow_rounds.proofs.Mimicry.{reads-as-whole, writes-as-whole}

module _ {K : Type 0} (rules : Rules K) (reading : List (List ℕ) → K) (writing : List ℕ → K) (have : HaveFiles rules reading writing) (files : ℕ → List ℕ) where
  reader-twice : (p : ℕ) (o : Outcome Pieces) → outcome_as (whole_of reading writing files p) (outcome_as Reader o) ≡ outcome_as reading (outcome_as (whole_reader files p) o)
  reader-twice p (Wishes x held wish) = refl
  reader-twice p (Fails x held cause) = refl

  writer-twice : (p : ℕ) (o : Outcome Gathered) → outcome_as (whole_of reading writing files p) (outcome_as Writer o) ≡ outcome_as writing (outcome_as all_bytes o)
  writer-twice p (Wishes x held wish) = refl
  writer-twice p (Fails x held cause) = refl

  other-twice : (p : ℕ) (o : Outcome K) → outcome_as (whole_of reading writing files p) (outcome_as Other o) ≡ o
  other-twice p (Wishes x held wish) = refl
  other-twice p (Fails x held cause) = refl

  reader-after : (p : ℕ) (o : Outcome Pieces) → IsFedFrom {K = K} files p (component_after (outcome_as Reader o)) → IsFront files p (component_after o)
  reader-after p (Wishes x held wish) h = h
  reader-after p (Fails x held cause) h = h

  before : (p : ℕ) (component : Fed K) (held : Held) (answer : Answer) (outcome : Outcome (Fed K)) → FedNext rules component held answer outcome → IsFedFrom files p (component_after outcome) → IsFedFrom files p component
  before p (Reader x) held answer outcome n h =
      (reads-as-whole files).before p x held answer n.0 n.1 (reader-after p n.0 (subst (λ (o : Outcome (Fed K)). IsFedFrom files p (component_after o)) n.2 h))
  before p (Writer g) held answer outcome n h = tt
  before p (Other component) held answer outcome n h = tt

  same : (p : ℕ) (component : Fed K) (held : Held) (answer : Answer) (outcome : Outcome (Fed K)) → FedNext rules component held answer outcome → IsFedFrom files p (component_after outcome)
      → rules.next (whole_of reading writing files p component) held answer (outcome_as (whole_of reading writing files p) outcome)
  same p (Reader x) held answer outcome n h =
      let after = reader-after p n.0 (subst (λ (o : Outcome (Fed K)). IsFedFrom files p (component_after o)) n.2 h) in
      let read = have.reads (whole_reader files p x) held answer (outcome_as (whole_reader files p) n.0) ((reads-as-whole files).same p x held answer n.0 n.1 after) in
      subst (rules.next (reading (whole_reader files p x)) held answer) (sym (ap (outcome_as (whole_of reading writing files p)) n.2 ∙ reader-twice p n.0)) read
  same p (Writer g) held answer outcome n h =
      let wrote = have.writes (all_bytes g) held answer (outcome_as all_bytes n.0) (writes-as-whole.same p g held answer n.0 n.1 tt) in
      subst (rules.next (writing (all_bytes g)) held answer) (sym (ap (outcome_as (whole_of reading writing files p)) n.2 ∙ writer-twice p n.0)) wrote
  same p (Other component) held answer outcome n h =
      subst (rules.next component held answer) (sym (ap (outcome_as (whole_of reading writing files p)) n.2 ∙ other-twice p n.0)) n.1

  pub fed-is-whole : Mimics (fed_rules rules) rules (IsFedFrom files) (whole_of reading writing files)
  fed-is-whole = record { before = before; same = same }

  -- a tended component is that of the same whole files
  reader-same : (p : ℕ) (old new : Pieces) → IsGiven old new → whole_reader files p new ≡ whole_reader files p old
  reader-same p old new (Piece piece unended is) = ap (whole_reader files p) is
  reader-same p old new (End is) = ap (whole_reader files p) is

  reader-back : (p : ℕ) (old new : Pieces) → IsGiven old new → IsFront files p new → IsFront files p old
  reader-back p old new (Piece piece unended is) h =
      let g : IsFront files p (record old { left = old.left ++ piece }) = subst (IsFront files p) is h in
      record {
        rest = piece ++ g.rest;
        whole = ap (λ (l : List ℕ). old.gone ++ l) (sym (append_assoc old.left piece g.rest)) ∙ g.whole;
        ended = λ e. (let never : false ≡ true = sym unended ∙ e in cc);
        sure = g.sure;
      }
  reader-back p old new (End is) h =
      let g : IsFront files p (record old { ended = true }) = subst (IsFront files p) is h in
      record { rest = g.rest; whole = g.whole; ended = λ e. g.ended refl; sure = g.sure }

  tended-same : (p : ℕ) (a b : Fed K) → IsTended a b → whole_of reading writing files p b ≡ whole_of reading writing files p a
  tended-same p (Reader old) (Reader new) t = ap reading (reader-same p old new t)
  tended-same p (Reader old) (Writer new) t = absurd t
  tended-same p (Reader old) (Other new) t = absurd t
  tended-same p (Writer old) (Reader new) t = absurd t
  tended-same p (Writer old) (Writer new) t = ap writing t
  tended-same p (Writer old) (Other new) t = absurd t
  tended-same p (Other old) b t = absurd t

  tended-back : (p : ℕ) (a b : Fed K) → IsTended a b → IsFedFrom files p b → IsFedFrom files p a
  tended-back p (Reader old) (Reader new) t h = reader-back p old new t h
  tended-back p (Reader old) (Writer new) t h = absurd t
  tended-back p (Reader old) (Other new) t h = absurd t
  tended-back p (Writer old) b t h = tt
  tended-back p (Other old) b t h = tt

  -- all others stand as they stood
  all-same : (f : ℕ → Fed K → K) (xs : List (Process (Fed K))) (p : ℕ) (x : Process (Fed K)) (after : Fed K) → slice_get xs p ≡ Some x → f p after ≡ f p x.component
      → all_replaced f (slice_set xs p (with_component x after)) ≡ all_replaced f xs
  all-same f [] p x after is e = cc
  all-same f (y ∷ xs) zero x after is e =
      let there : y ≡ x = cc in
      ap (λ (c : K). with_component x c ∷ all_replaced (λ q. f (suc q)) xs) e
      ∙ ap (λ (z : Process (Fed K)). with_component z (f 0 z.component) ∷ all_replaced (λ q. f (suc q)) xs) (sym there)
  all-same f (y ∷ xs) (suc p) x after is e = ap (λ (zs : List (Process K)). with_component y (f 0 y.component) ∷ zs) (all-same (λ q. f (suc q)) xs p x after is e)

  pub tends-same : (s : State (Fed K)) (p : ℕ) (s' : State (Fed K)) → Tends s p s' → replaced (whole_of reading writing files) s' ≡ replaced (whole_of reading writing files) s
  tends-same s p s' t =
      let processes : all_replaced (whole_of reading writing files) s'.kept.processes ≡ all_replaced (whole_of reading writing files) s.kept.processes =
      ap (all_replaced (whole_of reading writing files)) t.processes
      ∙ all-same (whole_of reading writing files) s.kept.processes p t.before t.after t.there (tended-same p t.before.component t.after t.tended) in
      λ i. record { kept = record { processes = processes i; channels = t.channels i }; past = t.past i }

  pub tends-back : (s : State (Fed K)) (p : ℕ) (s' : State (Fed K)) → Tends s p s' → OfEach (IsFedFrom files) s' → OfEach (IsFedFrom files) s
  tends-back s p s' t each = λ q x there. by q x there (same_or_not q p)
    where
      by : (q : ℕ) (x : Process (Fed K)) → slice_get s.kept.processes q ≡ Some x → (q ≡ p) ⊎ (q ≢ p) → IsFedFrom files q x.component
      by q x there (inl e) =
          let at : slice_get s.kept.processes p ≡ Some x = subst (λ (n : ℕ). slice_get s.kept.processes n ≡ Some x) e there in
          let both : Some t.before ≡ Some x = sym t.there ∙ at in
          let same : t.before ≡ x = cc in
          let here : slice_get s'.kept.processes p ≡ Some (with_component t.before t.after) =
          ap (λ (ps : List (Process (Fed K))). slice_get ps p) t.processes ∙ slice_get-set_same s.kept.processes p t.before (with_component t.before t.after) t.there in
          let old : IsFedFrom files p t.before.component = tended-back p t.before.component t.after t.tended (each p (with_component t.before t.after) here) in
          subst (λ (n : ℕ). IsFedFrom files n x.component) (sym e) (subst (λ (y : Process (Fed K)). IsFedFrom files p y.component) same old)
      by q x there (inr ne) =
          each q x (ap (λ (ps : List (Process (Fed K))). slice_get ps q) t.processes ∙ slice_get-set_other s.kept.processes p q (with_component t.before t.after) ne ∙ there)

  -- A work is one of the network of the whole files.
  pub work-whole : (s : State (Fed K)) (p : ℕ) (s' : State (Fed K)) → Work (fed_rules rules) s p s' → OfEach (IsFedFrom files) s'
      → Work rules (replaced (whole_of reading writing files) s) p (replaced (whole_of reading writing files) s')
  work-whole s p s' work each =
      let f = whole_of reading writing files in
      elim (settles-replaced (fed_rules rules) rules (IsFedFrom files) f fed-is-whole s p s' (inr work) each) [
        | inl thought ↦ absurd (subst IsThoughtStage work.kept.told (thought.0 (with_component work.before (f p work.before.component)) (replaced-there f s.kept.processes p work.before work.kept.there)))
        | inr whole ↦ whole
      ]

  -- what held of each reader at the end held before
  rounds-back : (steps : List RoundStep) (s s' : State (Fed K)) → RoundsReach rules s steps s' → OfEach (IsFedFrom files) s' → OfEach (IsFedFrom files) s
  rounds-back [] s s' reach each = subst (OfEach (IsFedFrom files)) reach each
  rounds-back (Went (Turned p seen) ∷ steps) s s' reach each =
      turn-back (fed_rules rules) rules (IsFedFrom files) (whole_of reading writing files) fed-is-whole s p reach.0 reach.1 reach.2 (rounds-back steps reach.1 s' reach.4 each)
  rounds-back (Went (Worked p) ∷ steps) s s' reach each =
      settles-back (fed_rules rules) rules (IsFedFrom files) (whole_of reading writing files) fed-is-whole s p reach.0 (inr reach.1) (rounds-back steps reach.0 s' reach.2 each)
  rounds-back (Tended p ∷ steps) s s' reach each = tends-back s p reach.0 reach.1 (rounds-back steps reach.0 s' reach.2 each)

  -- The machine's steps of a run by rounds are steps of the network of the whole files.
  pub rounds-reach : (steps : List RoundStep) (s s' : State (Fed K)) → OfEach (IsFedFrom files) s' → RoundsReach rules s steps s'
      → Reaches rules (replaced (whole_of reading writing files) s) (machine_steps steps) (replaced (whole_of reading writing files) s')
  rounds-reach [] s s' each reach = ap (replaced (whole_of reading writing files)) reach
  rounds-reach (Went (Turned p seen) ∷ steps) s s' each reach =
      let f = whole_of reading writing files in
      (reach.0, replaced f reach.1, turn-replaced (fed_rules rules) rules (IsFedFrom files) f fed-is-whole s p reach.0 reach.1 reach.2, reach.3, rounds-reach steps reach.1 s' each reach.4)
  rounds-reach (Went (Worked p) ∷ steps) s s' each reach =
      (replaced (whole_of reading writing files) reach.0, work-whole s p reach.0 reach.1 (rounds-back steps reach.0 s' reach.2 each), rounds-reach steps reach.0 s' each reach.2)
  rounds-reach (Tended p ∷ steps) s s' each reach =
      subst (λ (t : State K). Reaches rules t (machine_steps steps) (replaced (whole_of reading writing files) s')) (tends-same s p reach.0 reach.1) (rounds-reach steps reach.0 s' each reach.2)

  -- Where no work is pending none is over the whole files.
  pub thought-whole : (s : State (Fed K)) (p : ℕ) → IsThought s.kept p → IsThought (replaced (whole_of reading writing files) s).kept p
  thought-whole s p thought y there =
      let from = replaced-from (whole_of reading writing files) s.kept.processes p y there in
      subst (λ (z : Process K). IsThoughtStage z.stage) from.2 (thought from.0 from.1)

  pub closed-whole : (s : State (Fed K)) → IsClosed s → IsClosed (replaced (whole_of reading writing files) s)
  closed-whole s closed p = thought-whole s p (closed p)

  -- A run by rounds without pending works at its ends is one schedule.
  pub rounds-are-one : (steps : List RoundStep) (s s' : State (Fed K)) → OfEach (IsFedFrom files) s' → RoundsReach rules s steps s' → IsClosed s → IsClosed s'
      → Leads rules (replaced (whole_of reading writing files) s) (journal_of (machine_steps steps)) (replaced (whole_of reading writing files) s')
  rounds-are-one steps s s' each reach began ended =
      let f = whole_of reading writing files in
      closed-leads rules (replaced f s) (machine_steps steps) (replaced f s') (replaced f s') (closed-whole s began) (rounds-reach steps s s' each reach)
      (record { works = []; lead = refl; closed = closed-whole s' ended })
