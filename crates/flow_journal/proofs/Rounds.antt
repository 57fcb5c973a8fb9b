-- A net that started, and then went on until it was quiet, comes of a run of its network.
use Rattle.std.proofs.Common.{◌≡◌, ◌≢◌, ℕ, zero, suc, ◌+◌, List, [], ◌∷◌, ◌++◌, length, map, Some, refl, sym, ◌∙◌, ap, subst, arith, inl, inr, slice_get, length-set}
use Rattle.std.specs.List.{sum_by}
use Rattle.std.proofs.lemmas.List.{length-map}
use Rattle.std.proofs.lemmas.List.Sums.{sum_by-cons}
use Rattle.flow_component.specs.declared.Answer.{Answer}
use Rattle.flow_component.specs.Laws.{Rules}
use Rattle.flow_model.specs.declared.Stage.{Stage}
use Rattle.flow_model.specs.declared.Stage.TheVariants as stages
use Rattle.flow_model.specs.States.{Process, State}
use Rattle.flow_model.specs.Turns.{process_after}
use Rattle.flow_model.specs.Works.{worked}
use Rattle.flow_model.specs.Stages.{IsThoughtStage}
use Rattle.flow_model.specs.Schedules.{Journal, IsClosed, Settles, WorksLead, SettlesAll, LeadsBy}
use Rattle.flow_model.specs.Plans.{start_of, processes_at_start, process_at_start}
use Rattle.flow_plan.specs.Network.{Network as Plan}
use Rattle.flow_plan.specs.declared.plan.Process.{Process as PlanProcess}
use Rattle.flow_model.specs.Stands.{BodyShown, StandsForOpen, bodies_from, show_body}
use Rattle.flow_model.specs.Schedules.{Leads}
use Rattle.flow_model.specs.Robin.{RoundRobin}
use Rattle.flow_model.specs.Verdicts.{Quiet}
use Rattle.flow_model.specs.Fit.{Fit}
use Rattle.flow_model.specs.Plans.{StartsWell}
use Rattle.flow_model.specs.Schedules.{journal_of as steps_journal}
use Rattle.flow_model.specs.Laws.{KeepsPrefixes, RoundRobinLeads, TurnsAreSchedule}
use Rattle.flow_model.proofs.Fits.{Fit-start}
use Rattle.flow_machine.specs.Logs.{journal_of}
use Rattle.flow_journal.specs.Journals.{NamesTurns, NamesSeen}
use Rattle.flow_machine.specs.Starts.{StartsNet}
use Rattle.flow_journal.specs.Replays.{schedule_of, StopsAreNoSchedules}
use Rattle.flow_journal.specs.Runs.{ComesOfRun, ReachesAreRuns, ReachesAreScheduled, RoundsAreRuns, StopsAreFromTheStart, StretchesGoAgain}
use Rattle.flow_machine.specs.Values.{BodyValue, NetValue, shown_net, shown_body}
use Rattle.flow_machine.specs.Logs.{Logged, IsLogOf, Remembers, stamps_of, levels_of, turns_made}

-- the start has no pending works
idle : {K : Type 0} (plan : Plan) (p : ℕ) (xs : List PlanProcess) (components : List K) (k : ℕ) (z : Process K) → slice_get (processes_at_start plan p xs components) k ≡ Some z → z.stage ≡ stages.Idle
idle plan p [] components k z is = absurd cc
idle plan p (x ∷ xs) [] k z is = absurd cc
idle plan p (x ∷ xs) (component ∷ components) zero z is =
    let h : process_at_start plan p x component ≡ z = cc in
    sym (ap (λ (y : Process _). y.stage) h)
idle plan p (x ∷ xs) (component ∷ components) (suc k) z is = idle plan (p + 1) xs components k z is

start-closed : {K : Type 0} (plan : Plan) (components : List K) → IsClosed (start_of plan components)
start-closed plan components p x there = subst IsThoughtStage (sym (idle plan 0 plan.processes components p x there)) tt

-- so doing them all changes nothing
works-none : {K : Type 0} (rules : Rules K) (s : State K) (works : List ℕ) (t : State K) → IsClosed s → WorksLead rules s works t → t ≡ s
works-none rules s [] t closed lead = lead
works-none rules s (p ∷ ps) t closed lead =
    let work = lead.1 in
    absurd (subst IsThoughtStage work.kept.told (closed p work.before work.kept.there))

pub settled-start : {K : Type 0} (rules : Rules K) (plan : Plan) (components : List K) (t : State K) → SettlesAll rules (start_of plan components) t → t ≡ start_of plan components
settled-start rules plan components t all = works-none rules (start_of plan components) all.works t (start-closed plan components) all.lead

-- a schedule keeps the number of processes
settle-count : {K : Type 0} (rules : Rules K) (s : State K) (p : ℕ) (s' : State K) → Settles rules s p s' → length s'.kept.processes ≡ length s.kept.processes
settle-count rules s p s' (inl same) = ap (λ (t : State _). length t.kept.processes) same.1
settle-count rules s p s' (inr work) = ap length work.kept.processes ∙ length-set s.kept.processes p (worked work.before work.outcome)

pub schedule-count : {K : Type 0} (rules : Rules K) (s : State K) (turns seen : List ℕ) (s' : State K) → LeadsBy rules s turns seen s' → length s'.kept.processes ≡ length s.kept.processes
schedule-count rules s [] seen s' lead = ap (λ (t : State _). length t.kept.processes) lead.1
schedule-count rules s (p ∷ turns) seen s' lead =
    let whole = lead.3 in
    schedule-count rules lead.1 turns lead.2 s' lead.5
    ∙ settle-count rules whole.0 p lead.1 whole.2
    ∙ ap length whole.1.kept.processes ∙ length-set s.kept.processes p (process_after whole.1.kept.before lead.0)

-- a net has as many bodies as the state that it stands for has processes
length-shown : {K : Type 0} (dropped : ℕ → List ℕ) (p : ℕ) (xs : List (Process K)) → length (bodies_from dropped p xs) ≡ length xs
length-shown dropped p [] = refl
length-shown dropped p (x ∷ xs) = omega (arith, length-shown dropped (p + 1) xs)

bodies-count : {K : Type 0} (net : NetValue K) (s : State K) → StandsForOpen (shown_net net) s → length net.bodies ≡ length s.kept.processes
bodies-count net s stands =
    sym (length-map net.bodies shown_body) ∙ ap (λ shows. length shows.bodies) stands ∙ length-shown s.past.dropped 0 s.kept.processes

-- at the start no turn was made
none-made : {K : Type 0} (plan : Plan) (dropped : ℕ → List ℕ) (p : ℕ) (xs : List PlanProcess) (components : List K) (bodies : List (BodyValue K))
    → map shown_body bodies ≡ bodies_from dropped p (processes_at_start plan p xs components) → sum_by (λ b. b.process.turns) bodies ≡ 0
none-made plan dropped p [] components [] is = refl
none-made plan dropped p [] components (b ∷ bodies) is = absurd cc
none-made plan dropped p (x ∷ xs) [] [] is = refl
none-made plan dropped p (x ∷ xs) [] (b ∷ bodies) is = absurd cc
none-made plan dropped p (x ∷ xs) (component ∷ components) [] is = absurd cc
none-made plan dropped p (x ∷ xs) (component ∷ components) (b ∷ bodies) is =
    let head : shown_body b ≡ show_body dropped p (process_at_start plan p x component) = cc in
    let tail : map shown_body bodies ≡ bodies_from dropped (p + 1) (processes_at_start plan (p + 1) xs components) = cc in
    let turns : b.process.turns ≡ 0 = ap (λ (v : BodyShown _). v.process.turns) head in
    let rest : sum_by (λ b. b.process.turns) bodies ≡ 0 = none-made plan dropped (p + 1) xs components bodies tail in
    let sum : sum_by (λ b. b.process.turns) (b ∷ bodies) ≡ b.process.turns + sum_by (λ b. b.process.turns) bodies = sum_by-cons (λ b. b.process.turns) b bodies in
    omega (arith, sum, turns, rest)

-- a list of the same length has an element at the same place
same-place : {A B : Type 0} (xs : List A) (ys : List B) (k : ℕ) (y : B) → length xs ≡ length ys → slice_get ys k ≡ Some y → (x : A) × (slice_get xs k ≡ Some x)
same-place [] [] k y same is = absurd cc
same-place [] (z ∷ ys) k y same is = absurd (omega arith)
same-place (x ∷ xs) [] k y same is = absurd (omega arith)
same-place (x ∷ xs) (z ∷ ys) zero y same is = (x, refl)
same-place (x ∷ xs) (z ∷ ys) (suc k) y same is = same-place xs ys k y (omega arith) is

-- what the bodies of a net remember beside nothing are all turns that were made in it
pub all-logged : {K : Type 0} (plan : Plan) (components : List K) (old : NetValue K) (log : List Logged) (new : NetValue K) (last : State K)
    → StandsForOpen (shown_net old) (start_of plan components)
    → ((p : ℕ) (b : BodyValue K) → slice_get old.bodies p ≡ Some b → (b.stamps ≡ []) × (b.levels ≡ []))
    → Remembers (turns_made old) old.bodies log new.bodies → turns_made new ≡ turns_made old + length log
    → StandsForOpen (shown_net new) last → length last.kept.processes ≡ length (start_of plan components).kept.processes → IsLogOf log new
all-logged plan components old log new last begins unmade remembers total stands count =
    let none : turns_made old ≡ 0 = none-made plan (λ _. []) 0 plan.processes components old.bodies (ap (λ shows. shows.bodies) begins) in
    record {
      logs = λ p b' there.
          let same : length old.bodies ≡ length new.bodies = bodies-count old (start_of plan components) begins ∙ sym count ∙ sym (bodies-count new last stands) in
          let b = same-place old.bodies new.bodies p b' same there in
          let empty = unmade p b.0 b.1 in
          let both = remembers p b.0 b' b.1 there in (
            both.0 ∙ ap (λ l. l ++ stamps_of p (turns_made old) log) empty.0 ∙ ap (λ n. stamps_of p n log) none,
            both.1 ∙ ap (λ l. l ++ levels_of p (turns_made old) log) empty.1 ∙ ap (λ n. levels_of p n log) none,
          );
      total = omega (arith, total, none);
    }

-- the start has as many processes as the plan
pub start-count : {K : Type 0} (plan : Plan) (p : ℕ) (xs : List PlanProcess) (components : List K) → length xs ≡ length components → length (processes_at_start plan p xs components) ≡ length xs
start-count plan p [] components same = refl
start-count plan p (x ∷ xs) [] same = absurd (omega (arith, same))
start-count plan p (x ∷ xs) (component ∷ components) same = omega (arith, start-count plan (p + 1) xs components (omega (arith, same)))

-- a thought process has no work to do
is-thought : (stage : Stage) → ((answer : Answer) → stage ≢ stages.Told answer) → IsThoughtStage stage
is-thought (stages.Told answer) thought = absurd (thought answer refl)
is-thought stage thought = tt

-- so a quiet state has none pending
quiet-closed : {K : Type 0} (s : State K) → Quiet s → IsClosed s
quiet-closed s quiet p x there = is-thought x.stage (quiet.thought p x there)

module _ {K : Type 0} (rules : Rules K) where
  -- The turns of a net that started, which are a schedule to a quiet state that the net stands for, are those of a run, whose journal names them.
  comes-of-run : KeepsPrefixes rules → (workers : ℕ) (plan : Plan) (components : List K) (start net : NetValue K) (log : List Logged) (turns seen : List ℕ) (last : State K)
      → StartsWell rules plan components → StartsNet plan components start
      → Remembers (turns_made start) start.bodies log net.bodies → turns_made net ≡ turns_made start + length log
      → Leads rules (start_of plan components) (journal_of log) last → Quiet last → (workers ≡ 0 → RoundRobin rules (start_of plan components) (journal_of log) last)
      → Fit rules last → StandsForOpen (shown_net net) last
      → NamesTurns net turns → NamesSeen net seen
      → ComesOfRun rules workers plan components (record { turns = turns; seen = seen }) net
  comes-of-run keeps workers plan components start net log turns seen last well begins remembers total schedule quiet robin fit stands names_turns names_seen =
      let count = schedule-count rules (start_of plan components) (journal_of log).turns (journal_of log).seen last schedule in
      let logged : IsLogOf log net = all-logged plan components start log net last begins.stands begins.unmade remembers total stands count in
      let turns_are : turns ≡ (journal_of log).turns = names_turns log logged in
      let seen_are : seen ≡ (journal_of log).seen = names_seen log logged in
      let journal : Journal = record { turns = turns; seen = seen } in
      let same : journal_of log ≡ journal = rw (turns_are, seen_are) refl in
      let whole : Leads rules (start_of plan components) journal last = subst (λ j. Leads rules (start_of plan components) j last) same schedule in
      record {
        last = last;
        run = record {
          schedule = record { leads = whole; prefixes = λ front mid prefix. keeps plan components journal front last mid well prefix };
          quiet = quiet;
          robin = λ none. subst (λ j. RoundRobin rules (start_of plan components) j last) same (robin none);
        };
        stands = stands;
        fit = fit;
        count = count ∙ start-count plan 0 plan.processes components (sym well.one_each);
      }

  pub round-is-run : KeepsPrefixes rules → RoundRobinLeads rules → RoundsAreRuns rules
  round-is-run keeps leads plan components start net turns seen well begins goes names_turns names_seen =
      let log = goes.0 in
      let by = goes.2 in
      let states = by.states (start_of plan components) (Fit-start rules plan components well) begins.stands in
      let last = states.0 in
      let settled : states.1.0 ≡ start_of plan components = settled-start rules plan components states.1.0 states.1.1 in
      let robin : RoundRobin rules (start_of plan components) (journal_of log) last = subst (λ t. RoundRobin rules t (journal_of log) last) settled states.1.2 in
      let schedule : Leads rules (start_of plan components) (journal_of log) last = leads (start_of plan components) (journal_of log) last robin in
      comes-of-run keeps 0 plan components start net log turns seen last well begins by.remembers goes.1 schedule states.1.3 (λ _. robin) states.2 states.3 names_turns names_seen

  pub reach-is-run : KeepsPrefixes rules → TurnsAreSchedule rules → ReachesAreRuns rules
  reach-is-run keeps turns_are workers plan components start net turns seen some_workers well begins reaches is_quiet names_turns names_seen =
      let log = reaches.goes.0 in
      let by = reaches.goes.2 in
      let states = by.states (start_of plan components) (Fit-start rules plan components well) begins.stands in
      let last = states.0 in
      let steps = states.1.0 in
      let quiet : Quiet last = is_quiet.quiet last states.3 in
      let done : SettlesAll rules last last = record { works = []; lead = refl; closed = quiet-closed last quiet } in
      let made : Leads rules (start_of plan components) (steps_journal steps) last = turns_are (start_of plan components) steps last last (start-closed plan components) states.1.2 done in
      let schedule : Leads rules (start_of plan components) (journal_of log) last = subst (λ j. Leads rules (start_of plan components) j last) (sym states.1.1) made in
      comes-of-run keeps workers plan components start net log turns seen last well begins by.remembers reaches.goes.1 schedule quiet (λ none. absurd (omega (arith, none, some_workers))) states.2 states.3 names_turns names_seen

  pub reach-is-scheduled : KeepsPrefixes rules → TurnsAreSchedule rules → ReachesAreScheduled rules
  reach-is-scheduled keeps turns_are plan components start net turns seen well begins reaches names_turns names_seen =
      let log = reaches.goes.0 in
      let by = reaches.goes.2 in
      let states = by.states (start_of plan components) (Fit-start rules plan components well) begins.stands in
      let now = states.0 in
      let steps = states.1.0 in
      let count : length now.kept.processes ≡ length (start_of plan components).kept.processes = sym (bodies-count net now states.3) ∙ reaches.len ∙ bodies-count start (start_of plan components) begins.stands in
      let logged : IsLogOf log net = all-logged plan components start log net now begins.stands begins.unmade by.remembers reaches.goes.1 states.3 count in
      let turns_same : turns ≡ (journal_of log).turns = names_turns log logged in
      let seen_same : seen ≡ (journal_of log).seen = names_seen log logged in
      let journal : Journal = record { turns = turns; seen = seen } in
      let same : journal_of log ≡ journal = rw (turns_same, seen_same) refl in
      record {
        now = now;
        stands = states.3;
        fit = states.2;
        count = count ∙ start-count plan 0 plan.processes components (sym well.one_each);
        schedule = λ last settles.
            let made : Leads rules (start_of plan components) (steps_journal steps) last = turns_are (start_of plan components) steps now last (start-closed plan components) states.1.2 settles in
            let whole : Leads rules (start_of plan components) journal last = subst (λ j. Leads rules (start_of plan components) j last) (sym states.1.1 ∙ same) made in
            record { leads = whole; prefixes = λ front mid prefix. keeps plan components journal front last mid well prefix };
      }

  pub stretch-goes-again : StopsAreNoSchedules rules → StopsAreFromTheStart rules → StretchesGoAgain rules
  stretch-goes-again none from plan components start net journal last place p refusal one well begins stretch settles stops =
      none one (start_of plan components) (schedule_of journal) place p refusal last (from plan components start journal place p refusal well begins stops) (stretch.schedule last settles).leads
