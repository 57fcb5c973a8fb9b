-- A round on one thread is turns and works in some order, after which the net is quiet.
use Rattle.std.proofs.Common.{◌≡◌, ◌≢◌, ℕ, ◌+◌, List, [], ◌∷◌, ◌++◌, length, map, refl, sym, ◌∙◌, ap, subst, arith, inl, inr, slice_get, length-set}
use Rattle.std.proofs.lemmas.List.{length-map}
use Rattle.flow_component.specs.declared.Answer.{Answer}
use Rattle.flow_component.specs.Laws.{Rules, Lawful}
use Rattle.flow_model.specs.declared.Stage.{Stage}
use Rattle.flow_model.specs.declared.Stage.TheVariants as stages
use Rattle.flow_model.specs.States.{Process, State}
use Rattle.flow_model.specs.Events.{seen_by}
use Rattle.flow_model.specs.Laws.{RoundRobinLeads}
use Rattle.flow_model.specs.Schedules.{Journal, no_turns, then_turns, Step, Turned, Worked, Reaches, WorksLead, Settles, LeadsBy}
use Rattle.flow_model.specs.Schedules.{journal_of as steps_journal}
use Rattle.flow_model.specs.Stages.{IsThoughtStage}
use Rattle.flow_model.specs.Stands.{BodyShown, StandsForOpen, bodies_from}
use Rattle.flow_model.specs.Turns.{process_after}
use Rattle.flow_model.specs.Verdicts.{Quiet}
use Rattle.flow_model.specs.Works.{worked}
use Rattle.flow_machine.specs.Values.{NetValue, shown_net, shown_body}
use Rattle.flow_machine.specs.Logs.{journal_of}
use Rattle.flow_machine.specs.Quiet.{IsQuietNet}
use Rattle.flow_machine.specs.Solo.{ReachesNet, reached, round_robin}
use Rattle.flow_machine.proofs.Reaching.{reaches-append, steps-append, reach-then}
use Rattle.flow_machine.proofs.Standings.{processes-shown, process-in, happens-in}
use Rattle.flow_runner.specs.Stretches.{RoundsGoOn}

-- a net has as many bodies as a state that it stands for has processes
shown-count : {K : Type 0} (dropped : ℕ → List ℕ) (p : ℕ) (xs : List (Process K)) → length (bodies_from dropped p xs) ≡ length xs
shown-count dropped p [] = refl
shown-count dropped p (x ∷ xs) = omega (arith, shown-count dropped (p + 1) xs)

bodies-count : {K : Type 0} (net : NetValue K) (s : State K) → StandsForOpen (shown_net net) s → length net.bodies ≡ length s.kept.processes
bodies-count net s stands = sym (length-map net.bodies shown_body) ∙ ap (λ shows. length shows.bodies) stands ∙ shown-count s.past.dropped 0 s.kept.processes

-- no turn or work makes or takes a process
steps-count : {K : Type 0} (rules : Rules K) (s : State K) (steps : List Step) (s' : State K) → Reaches rules s steps s' → length s'.kept.processes ≡ length s.kept.processes
steps-count rules s [] s' same = ap (λ (t : State _). length t.kept.processes) same
steps-count rules s (Turned p seen ∷ steps) s' (event, mid, turn, sees, more) =
    steps-count rules mid steps s' more ∙ ap length turn.kept.processes ∙ length-set s.kept.processes p (process_after turn.kept.before event)
steps-count rules s (Worked p ∷ steps) s' (mid, work, more) =
    steps-count rules mid steps s' more ∙ ap length work.kept.processes ∙ length-set s.kept.processes p (worked work.before work.outcome)

-- works are steps without a turn
works-reach : {K : Type 0} (rules : Rules K) (s : State K) (works : List ℕ) (s' : State K) → WorksLead rules s works s' → reached rules no_turns s s'
works-reach rules s [] s' same = ([], refl, same)
works-reach rules s (p ∷ works) s' (mid, work, more) = let r = works-reach rules mid works s' more in (Worked p ∷ r.0, r.1, (mid, work, r.2))

-- whole turns are turns and works
turns-reach : {K : Type 0} (rules : Rules K) (s : State K) (turns seen : List ℕ) (s' : State K) → LeadsBy rules s turns seen s' → reached rules (record { turns = turns; seen = seen }) s s'
turns-reach rules s [] seen s' (none, same) = ([], (λ i. record { turns = []; seen = none i }), same)
turns-reach {K} rules s (p ∷ turns) seen s' (event, mid, rest, whole, sees, more) = by (turns-reach rules mid turns rest s' more) whole.2
  where
    journal : (r : reached rules (record { turns = turns; seen = rest }) mid s') → record { turns = p ∷ turns; seen = seen } ≡ then_turns (record { turns = p ∷ []; seen = seen_by event }) (steps_journal r.0)
    journal r = (λ i. record { turns = p ∷ turns; seen = sees i }) ∙ ap (then_turns (record { turns = p ∷ []; seen = seen_by event })) r.1

    by : reached rules (record { turns = turns; seen = rest }) mid s' → Settles rules whole.0 p mid → reached rules (record { turns = p ∷ turns; seen = seen }) s s'
    by r (inl same) = (Turned p (seen_by event) ∷ r.0, journal r, (event, whole.0, whole.1, refl, subst (λ (t : State K). Reaches rules t r.0 s') same.1 r.2))
    by r (inr work) = (Turned p (seen_by event) ∷ Worked p ∷ r.0, journal r, (event, whole.0, whole.1, refl, (mid, work, r.2)))

-- a thought process has no work to do
is-thought : (stage : Stage) → ((answer : Answer) → stage ≢ stages.Told answer) → IsThoughtStage stage
is-thought (stages.Told answer) thought = absurd (thought answer refl)
is-thought stage thought = tt

module _ {K : Type 0} (net : NetValue K) (s : State K) (stands : StandsForOpen (shown_net net) s) (quiet : Quiet s) where
  -- a net that stands for a quiet state stands for no other
  quiet-too : (t : State K) → StandsForOpen (shown_net net) t → Quiet t
  quiet-too t stands_too =
      let same : t.kept.processes ≡ s.kept.processes =
      sym (processes-shown t.past.dropped 0 t.kept.processes) ∙ ap (λ shows. map (λ (b : BodyShown K). b.process) shows.bodies) (sym stands_too ∙ stands) ∙ processes-shown s.past.dropped 0 s.kept.processes in
      record {
        thought = λ p x there. quiet.thought p x (ap (λ xs. slice_get xs p) (sym same) ∙ there);
        still = λ p x n there. sym (happens-in net t x n stands_too) ∙ happens-in net s x n stands ∙ quiet.still p x n (ap (λ xs. slice_get xs p) (sym same) ∙ there);
      }

  pub quiet-net : IsQuietNet net
  quiet-net = record {
    thought = λ p b there. is-thought b.process.stage (quiet.thought p b.process (process-in net s p b stands there));
    quiet = quiet-too;
  }

module _ {K : Type 0} (rules : Rules K) (leads : RoundRobinLeads rules) where
  -- a round robin is turns and works
  robin-reaches : (journal : Journal) (s s' : State K) → round_robin rules journal s s' → reached rules journal s s'
  robin-reaches journal s s' (t, settles, robin, quiet) =
      let works = works-reach rules s settles.works t settles.lead in
      let turns = turns-reach rules t journal.turns journal.seen s' (leads t journal s' robin) in
      (works.0 ++ turns.0, turns.1 ∙ (λ i. then_turns (works.1 i) (steps_journal turns.0)) ∙ sym (steps-append works.0 turns.0), reaches-append rules s works.0 turns.0 t s' works.2 turns.2)

  pub rounds-go-on : Lawful rules → RoundsGoOn rules
  rounds-go-on lawful first middle last (s, fit, stands) reaches goes =
      let here = reaches.goes.2.states s fit stands in
      let end = goes.2.states here.0 here.2 here.3 in
      let way = robin-reaches (journal_of goes.0) here.0 end.0 end.1 in
      let len : length last.bodies ≡ length middle.bodies = bodies-count last end.0 end.3 ∙ steps-count rules here.0 way.0 end.0 way.2 ∙ sym (bodies-count middle here.0 here.3) in
      let rest : ReachesNet rules middle last = record {
        len = len;
        goes = (
          goes.0,
          goes.1,
          record {
            remembers = goes.2.remembers;
            states = λ t fit_too stands_too. let g = goes.2.states t fit_too stands_too in (g.0, robin-reaches (journal_of goes.0) t g.0 g.1, g.2, g.3);
            connections = goes.2.connections;
          },
        );
      } in
      (reach-then rules lawful first middle last reaches rest, quiet-net last end.0 end.3 end.1.3)
