-- Turns and works leave what a reader was given and what was taken from a writer.
use Rattle.flow_limits.specs.declared.TheConstants.{TEXT_LIMIT}
use Rattle.std.proofs.Common.{◌≡◌, ◌≢◌, ◌⊎◌, inl, inr, ℕ, suc, Bool, true, false, List, [], ◌∷◌, ◌++◌, length, take, drop, Some, slice_get, refl, sym, ◌∙◌, ap, subst, append_assoc, nat_lt, if◌then◌else◌}
use Rattle.std.proofs.lemmas.List.{take-append-drop}
use Rattle.std.specs.Str.Lines.{lines}
use Rattle.flow_text.specs.Lines.{line_length}
use Rattle.flow_packet.specs.declared.packet.Kind.TheVariants.{Normal}
use Rattle.flow_packet.specs.Held.{Held, next_id, with_made}
use Rattle.flow_component.specs.declared.Answer.{Answer}
use Rattle.flow_component.specs.declared.Fail.TheVariants.{TextLimit}
use Rattle.flow_component.specs.Laws.{Rules, Outcome, Wishes, Fails, component_after}
use Rattle.flow_component.specs.Outcomes.{outcome_as}
use Rattle.flow_component.specs.Ports.{send_first}
use Rattle.flow_component.proofs.Lifting.{component_after-as}
use Rattle.flow_model.specs.States.{Process, State}
use Rattle.flow_model.specs.Events.{Event}
use Rattle.flow_model.specs.Turns.{Turn, process_after}
use Rattle.flow_model.specs.Works.{Work, worked}
use Rattle.flow_model.specs.Schedules.{Turned, Worked}
use Rattle.flow_model.proofs.Lists.{slice_get-set_same, slice_get-set_other, same_or_not}
use Rattle.flow_model.proofs.Replacing.{component-same}
use Rattle.flow_pieces.specs.ReadPieces.{Pieces, is_sure, after_line, reads_first, reads_piece}
use Rattle.flow_pieces.specs.WritePieces.{Gathered, with_gone}
use Rattle.flow_pieces.specs.Fed.{Fed, Reader, Writer, Other, FedNext, fed_rules}
use Rattle.flow_rounds.specs.Left.{IsLeft, StepsLeaveFiles}

-- what a read leaves of the reader
abbrev Reads : Pieces → Pieces → Type 0
Reads old new = (new.gone ++ new.left ≡ old.gone ++ old.left) × (new.ended ≡ old.ended)

line-leaves : (x : Pieces) → Reads x (after_line x)
line-leaves x =
    let k = suc (line_length x.left) in
    (append_assoc x.gone (take k x.left) (drop k x.left) ∙ ap (λ (l : List ℕ). x.gone ++ l) (take-append-drop k x.left), refl)

first-leaves : (held : Held) (x : Pieces) (ls : List (List ℕ)) → Reads x (component_after (reads_first held x ls))
first-leaves held x [] = (refl, refl)
first-leaves held x (line ∷ more) = by (nat_lt TEXT_LIMIT (length line))
  where
    by : (b : Bool) → Reads x (component_after (if b then Fails x held (TextLimit (length line)) else Wishes (after_line x) (with_made held Normal line) (send_first (next_id held))))
    by true = (refl, refl)
    by false = line-leaves x

read-leaves : (held : Held) (x : Pieces) (sure : Bool) → Reads x (component_after (reads_piece held x sure))
read-leaves held x true = first-leaves held x (lines x.left)
read-leaves held x false = (refl, refl)

gone-stays : (gone : List ℕ) (o : Outcome (List ℕ)) → (component_after (outcome_as (with_gone gone) o)).gone ≡ gone
gone-stays gone (Wishes bytes held wish) = refl
gone-stays gone (Fails bytes held cause) = refl

module _ {K : Type 0} (rules : Rules K) where
  same-left : (c : Fed K) → IsLeft c c
  same-left (Reader x) = (refl, refl)
  same-left (Writer g) = refl
  same-left (Other component) = tt

  then-left : (a b c : Fed K) → IsLeft a b → IsLeft b c → IsLeft a c
  then-left (Reader a) (Reader b) (Reader c) first rest = (rest.0 ∙ first.0, rest.1 ∙ first.1)
  then-left (Reader a) (Reader b) (Writer c) first rest = absurd rest
  then-left (Reader a) (Reader b) (Other c) first rest = absurd rest
  then-left (Reader a) (Writer b) c first rest = absurd first
  then-left (Reader a) (Other b) c first rest = absurd first
  then-left (Writer a) (Writer b) (Writer c) first rest = rest ∙ first
  then-left (Writer a) (Writer b) (Reader c) first rest = absurd rest
  then-left (Writer a) (Writer b) (Other c) first rest = absurd rest
  then-left (Writer a) (Reader b) c first rest = absurd first
  then-left (Writer a) (Other b) c first rest = absurd first
  then-left (Other a) (Other b) (Other c) first rest = tt
  then-left (Other a) (Other b) (Reader c) first rest = absurd rest
  then-left (Other a) (Other b) (Writer c) first rest = absurd rest
  then-left (Other a) (Reader b) c first rest = absurd first
  then-left (Other a) (Writer b) c first rest = absurd first

  work-leaves : (c : Fed K) (held : Held) (answer : Answer) (outcome : Outcome (Fed K)) → FedNext rules c held answer outcome → IsLeft c (component_after outcome)
  work-leaves (Reader x) held answer outcome n =
      let after : component_after outcome ≡ Reader (component_after n.0) = ap component_after n.2 ∙ component_after-as {L = Fed K} Reader n.0 in
      let reads : Reads x (component_after n.0) = subst (λ (o : Outcome Pieces). Reads x (component_after o)) (sym n.1) (read-leaves held x (is_sure x)) in
      subst (IsLeft (Reader x)) (sym after) reads
  work-leaves (Writer g) held answer outcome n =
      let after : component_after outcome ≡ Writer (component_after n.0) = ap component_after n.2 ∙ component_after-as {L = Fed K} Writer n.0 in
      subst (IsLeft (Writer g)) (sym after) (ap (λ (o : Outcome Gathered). (component_after o).gone) n.1 ∙ gone-stays g.gone _)
  work-leaves (Other component) held answer outcome n =
      let after : component_after outcome ≡ Other (component_after n.0) = ap component_after n.2 ∙ component_after-as Other n.0 in
      subst (IsLeft (Other component)) (sym after) tt

  abbrev LeavesAt : State (Fed K) → State (Fed K) → ℕ → Process (Fed K) → Type 0
  LeavesAt s s' q x = (y : Process (Fed K)) × (slice_get s'.kept.processes q ≡ Some y) × IsLeft x.component y.component

  turn-leaves : (s : State (Fed K)) (p : ℕ) (event : Event) (s' : State (Fed K)) → Turn s p event s' → (q : ℕ) (x : Process (Fed K)) → slice_get s.kept.processes q ≡ Some x → LeavesAt s s' q x
  turn-leaves s p event s' turn q x there = by (same_or_not q p)
    where
      by : (q ≡ p) ⊎ (q ≢ p) → LeavesAt s s' q x
      by (inl e) =
          let z = process_after turn.kept.before event in
          let at : slice_get s.kept.processes p ≡ Some x = subst (λ (n : ℕ). slice_get s.kept.processes n ≡ Some x) e there in
          let both : Some turn.kept.before ≡ Some x = sym turn.kept.there ∙ at in
          let same : turn.kept.before ≡ x = cc in
          let here : slice_get s'.kept.processes p ≡ Some z =
          ap (λ (ps : List (Process (Fed K))). slice_get ps p) turn.kept.processes ∙ slice_get-set_same s.kept.processes p turn.kept.before z turn.kept.there in
          let component : z.component ≡ x.component = component-same turn.kept.before event ∙ ap (λ (y : Process (Fed K)). y.component) same in
          (z, subst (λ (n : ℕ). slice_get s'.kept.processes n ≡ Some z) (sym e) here, subst (IsLeft x.component) (sym component) (same-left x.component))
      by (inr ne) =
          (x, ap (λ (ps : List (Process (Fed K))). slice_get ps q) turn.kept.processes ∙ slice_get-set_other s.kept.processes p q (process_after turn.kept.before event) ne ∙ there, same-left x.component)

  worked-component : (x : Process (Fed K)) (o : Outcome (Fed K)) → (worked x o).component ≡ component_after o
  worked-component x (Wishes component held wish) = refl
  worked-component x (Fails component held cause) = refl

  work-leaves-at : (s : State (Fed K)) (p : ℕ) (s' : State (Fed K)) → Work (fed_rules rules) s p s' → (q : ℕ) (x : Process (Fed K)) → slice_get s.kept.processes q ≡ Some x → LeavesAt s s' q x
  work-leaves-at s p s' work q x there = by (same_or_not q p)
    where
      by : (q ≡ p) ⊎ (q ≢ p) → LeavesAt s s' q x
      by (inl e) =
          let z = worked work.before work.outcome in
          let at : slice_get s.kept.processes p ≡ Some x = subst (λ (n : ℕ). slice_get s.kept.processes n ≡ Some x) e there in
          let both : Some work.before ≡ Some x = sym work.kept.there ∙ at in
          let same : work.before ≡ x = cc in
          let here : slice_get s'.kept.processes p ≡ Some z =
          ap (λ (ps : List (Process (Fed K))). slice_get ps p) work.kept.processes ∙ slice_get-set_same s.kept.processes p work.before z work.kept.there in
          let left : IsLeft work.before.component (component_after work.outcome) = work-leaves work.before.component work.before.held work.kept.answer work.outcome work.kept.comes in (
            z,
            subst (λ (n : ℕ). slice_get s'.kept.processes n ≡ Some z) (sym e) here,
            subst (λ (y : Process (Fed K)). IsLeft y.component z.component) same (subst (IsLeft work.before.component) (sym (worked-component work.before work.outcome)) left),
          )
      by (inr ne) =
          (x, ap (λ (ps : List (Process (Fed K))). slice_get ps q) work.kept.processes ∙ slice_get-set_other s.kept.processes p q (worked work.before work.outcome) ne ∙ there, same-left x.component)

  -- Turns and works in any order leave it so.
  pub steps-leave : StepsLeaveFiles rules
  steps-leave [] s s' reach p x there = (x, ap (λ (t : State (Fed K)). slice_get t.kept.processes p) reach ∙ there, same-left x.component)
  steps-leave (Turned q seen ∷ steps) s s' reach p x there =
      let first = turn-leaves s q reach.0 reach.1 reach.2 p x there in
      let rest = steps-leave steps reach.1 s' reach.4 p first.0 first.1 in
      (rest.0, rest.1, then-left x.component first.0.component rest.0.component first.2 rest.2)
  steps-leave (Worked q ∷ steps) s s' reach p x there =
      let first = work-leaves-at s q reach.0 reach.1 p x there in
      let rest = steps-leave steps reach.0 s' reach.2 p first.0 first.1 in
      (rest.0, rest.1, then-left x.component first.0.component rest.0.component first.2 rest.2)
