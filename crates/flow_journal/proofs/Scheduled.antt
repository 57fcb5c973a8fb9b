-- A net that started, and then made the turns of a journal again, comes of a schedule of its network; where it stopped, the journal is none.
use Rattle.std.proofs.Common.{◌≡◌, ℕ, ◌≤◌, List, [], ◌∷◌, length, ◌∙◌, ap, subst, sym, arith, length-append}
use Rattle.flow_component.specs.Laws.{Rules}
use Rattle.flow_model.specs.States.{State}
use Rattle.flow_model.specs.Events.{Event, Learns, seen_by}
use Rattle.flow_model.specs.Schedules.{Journal, LeadsBy, Leads}
use Rattle.flow_model.specs.Plans.{start_of}
use Rattle.flow_model.specs.Laws.{KeepsPrefixes}
use Rattle.flow_model.proofs.Fits.{Fit-start}
use Rattle.flow_machine.specs.Logs.{journal_of}
use Rattle.flow_journal.specs.Replays.{schedule_of, StopsAtTurn}
use Rattle.flow_journal.specs.Runs.{ReplaysAreScheduled, StopsAreFromTheStart, SeesNoMoreThanTurns}
use Rattle.flow_journal.proofs.Rounds.{settled-start, schedule-count, start-count}

-- a turn sees one number at most
sees-one : (event : Event) → length (seen_by event) ≤ 1
sees-one (Learns port level) = omega arith
sees-one event = omega arith

-- so all turns see no more numbers than they are
sees-few : {K : Type 0} (rules : Rules K) (s : State K) (turns seen : List ℕ) (s' : State K) → LeadsBy rules s turns seen s' → length seen ≤ length turns
sees-few rules s [] seen s' leads = let none : length seen ≡ 0 = ap length leads.0 in omega (arith, none)
sees-few rules s (p ∷ turns) seen s' leads =
    let rest : length leads.2 ≤ length turns = sees-few rules leads.1 turns leads.2 s' leads.5 in
    omega (arith, rest, sees-one leads.0, ap length leads.4, length-append (seen_by leads.0) leads.2)

-- A schedule has no more seen numbers than turns.
pub sees-no-more : {K : Type 0} (rules : Rules K) → SeesNoMoreThanTurns rules
sees-no-more rules plan components journal last schedule = sees-few rules (start_of plan components) journal.turns journal.seen last schedule.leads

module _ {K : Type 0} (rules : Rules K) where
  -- The start has no pending works, so the replay begins there; the rest is read off the net's states.
  pub replay-is-scheduled : KeepsPrefixes rules → ReplaysAreScheduled rules
  replay-is-scheduled keeps plan components start net journal well begins goes =
      let states = goes.2.states (start_of plan components) (Fit-start rules plan components well) begins.stands in
      let last = states.0 in
      let replay = states.1 in
      let settled : replay.1.0 ≡ start_of plan components = settled-start rules plan components replay.1.0 replay.1.1 in
      let made : Leads rules (start_of plan components) (journal_of goes.0) last = subst (λ (t : State K). Leads rules t (journal_of goes.0) last) settled replay.1.2 in
      let whole : Leads rules (start_of plan components) (schedule_of journal) last = subst (λ (j : Journal). Leads rules (start_of plan components) j last) replay.0 made in
      record {
        last = last;
        schedule = record { leads = whole; prefixes = λ front mid prefix. keeps plan components (schedule_of journal) front last mid well prefix };
        stands = states.3;
        fit = states.2;
        count = schedule-count rules (start_of plan components) journal.turns journal.seen last whole ∙ start-count plan 0 plan.processes components (sym well.one_each);
      }

  -- A replay that stops has begun there too.
  pub stops-from-the-start : StopsAreFromTheStart rules
  stops-from-the-start plan components start journal place p refusal well begins stops =
      let stop = stops (start_of plan components) (Fit-start rules plan components well) begins.stands in
      let settled : stop.0 ≡ start_of plan components = settled-start rules plan components stop.0 stop.1 in
      subst (λ (t : State K). StopsAtTurn rules t (schedule_of journal) place p refusal) settled stop.2
