-- The schedule of the worked network is the round robin of one thread, every process has ended behind it, and a report tells of that state.
use Rattle.std.proofs.Common.{◌≡◌, ℕ, List, [], ◌∷◌, ◌++◌, Some, None, Option, refl, ap, sym, ◌∙◌, subst, replicate, append_assoc, inr, true, false, map}
use Rattle.flow_component.specs.declared.Answer.TheVariants as answers
use Rattle.flow_component.specs.Laws.{Rules}
use Rattle.flow_model.specs.declared.Stage.TheVariants as stages
use Rattle.flow_model.specs.States.{Process, State}
use Rattle.flow_model.specs.Events.{Learns, looks, stage_event, seen_by}
use Rattle.flow_model.specs.Turns.{process_after}
use Rattle.flow_model.specs.Schedules.{Journal, Leads, no_turns}
use Rattle.flow_model.specs.Verdicts.{AllEnded, Quiet}
use Rattle.flow_model.specs.Robin.{ExactTurn, TurnsOf, Pass, RoundRobin}
use Rattle.flow_model.specs.Plans.{start_of}
use Rattle.flow_model.proofs.Journals.{round-leads}
use Rattle.flow_model.proofs.Replay.{run, turned}
use Rattle.flow_catalogue.specs.declared.standard.Std.{Std}
use Rattle.flow_catalogue.specs.Std.{std_next, std_rules}
use Rattle.flow_journal.specs.Replays.{schedule_of}
use Rattle.flow_load.specs.Step.{whole}
use Rattle.flow_played.specs.Others.{others, as_mixed}
use Rattle.flow_played.specs.Plain.{AllRunAsTheyAre}
use Rattle.flow_load.specs.Offers.{AnyKind, Taped, net_rules}
use Rattle.flow_load.specs.Components.{inputs_of, AreComponents}
use Rattle.flow_report.specs.declared.report.Verdict.TheVariants as verdicts
use Rattle.flow_report.specs.States.{TellsOf, process_in, connection_in}
use Rattle.flow_report.specs.Of.{block_told, failure_told, told_from}
use Rattle.flow_report.specs.Text.{Told}
use Rattle.std.specs.Prelude.{is_some}
use Rattle.flow_witness.specs.Complete.{balance, balance_journal, input_file}
use Rattle.flow_witness.proofs.Round.{run-turns, at, ended}
use Rattle.flow_witness.proofs.BalancePlan.{at_four}
use Rattle.flow_witness.proofs.BalanceRun.{balance_components, only-components}

-- Turns of one process, and then more of it.
join : {K : Type 0} (rules : Rules K) (p : ℕ) (s mid s' : State K) (turns seen more others : List ℕ) → TurnsOf rules p s turns seen mid → TurnsOf rules p mid more others s' → TurnsOf rules p s (turns ++ more) (seen ++ others) s'
join {K} rules p s mid s' [] seen more others first second =
    let moved = subst (λ (z : State K). TurnsOf rules p z more others s') first.1 second in
    subst (λ (ns : List ℕ). TurnsOf rules p s more (ns ++ others) s') (sym first.0) moved
join rules p s mid s' (q ∷ turns) seen more others first second = (
  first.0,
  (
    first.1.0,
    first.1.1,
    first.1.2 ++ others,
    first.1.3,
    ap (λ (ns : List ℕ). ns ++ others) first.1.4 ∙ append_assoc (seen_by first.1.0) first.1.2 others,
    join rules p first.1.1 mid s' turns first.1.2 more others first.1.5 second,
  ),
)

abbrev s0 : State Std
s0 = start_of balance balance_components

abbrev or_start : Option (State Std) → State Std
or_start (Some s) = s
or_start None = s0

-- Turns that lead somewhere lead to the state that is taken from what they come to.
some-state : (found : Option (State Std)) → is_some found ≡ true → found ≡ Some (or_start found)
some-state (Some s) is = refl
some-state None is = absurd (let bad : false ≡ true = is in cc)

-- Behind the turns of the reader; behind two of the LoadBalance, behind each of its two level turns, and behind its others; behind those of the process that gets the line.
abbrev s1 : State Std
s1 = or_start (run std_next s0 (replicate 5 0) [])

abbrev s2 : State Std
s2 = or_start (run std_next s1 (replicate 2 1) [])

abbrev s3 : State Std
s3 = or_start (run std_next s2 (1 ∷ []) (0 ∷ []))

abbrev s4 : State Std
s4 = or_start (run std_next s3 (1 ∷ []) (0 ∷ []))

abbrev s5 : State Std
s5 = or_start (run std_next s4 (replicate 6 1) [])

abbrev s6 : State Std
s6 = or_start (run std_next s5 (replicate 5 2) [])

-- The state at the end.
abbrev pub balance_last : State Std
balance_last = or_start (run std_next s6 (3 ∷ []) [])

-- The process after its level turn.
abbrev asked_at : State Std → ℕ → Process Std
asked_at s port = process_after (at s 1) (Learns port 0)

first_level : ExactTurn std_rules s2 1 (Learns 0 0) s3
first_level = record {
  mid = turned s2 1 (at s2 1) (Learns 0 0);
  turn = record { kept = record { before = at s2 1; level = 0; there = refl; happens = refl; processes = refl; channels = refl }; past = refl };
  exact = refl;
  settles = inr (record {
    before = asked_at s2 0;
    outcome = std_next (asked_at s2 0).component (asked_at s2 0).held (answers.Level 0);
    kept = record { answer = answers.Level 0; there = refl; told = refl; comes = refl; processes = refl; channels = refl };
    past = refl;
  });
}

second_level : ExactTurn std_rules s3 1 (Learns 1 0) s4
second_level = record {
  mid = turned s3 1 (at s3 1) (Learns 1 0);
  turn = record { kept = record { before = at s3 1; level = 0; there = refl; happens = refl; processes = refl; channels = refl }; past = refl };
  exact = refl;
  settles = inr (record {
    before = asked_at s3 1;
    outcome = std_next (asked_at s3 1).component (asked_at s3 1).held (answers.Level 0);
    kept = record { answer = answers.Level 0; there = refl; told = refl; comes = refl; processes = refl; channels = refl };
    past = refl;
  });
}

levels : TurnsOf std_rules 1 s2 (1 ∷ 1 ∷ []) (0 ∷ 0 ∷ []) s4
levels = (refl, (Learns 0 0, s3, 0 ∷ [], first_level, refl, (refl, (Learns 1 0, s4, [], second_level, refl, (refl, refl)))))

-- The turns of the LoadBalance.
balances : TurnsOf std_rules 1 s1 (replicate 10 1) (0 ∷ 0 ∷ []) s5
balances =
    join std_rules 1 s1 s2 s5 (replicate 2 1) [] (replicate 8 1) (0 ∷ 0 ∷ []) (run-turns std_rules std_next (λ _ _ _. refl) 1 2 s1 s2 (some-state (run std_next s1 (replicate 2 1) []) refl))
    (join std_rules 1 s2 s4 s5 (1 ∷ 1 ∷ []) (0 ∷ 0 ∷ []) (replicate 6 1) [] levels (run-turns std_rules std_next (λ _ _ _. refl) 1 6 s4 s5 (some-state (run std_next s4 (replicate 6 1) []) refl)))

abbrev of_turns : List ℕ → List ℕ → Journal
of_turns turns seen = record { turns = turns; seen = seen }

-- the only pass
one_pass : Pass std_rules s0 (schedule_of balance_journal) balance_last
one_pass = (
  of_turns (replicate 5 0 ++ (replicate 10 1 ++ replicate 5 2)) (0 ∷ 0 ∷ []),
  of_turns (3 ∷ []) [],
  s6,
  refl,
  (
    of_turns (replicate 5 0 ++ replicate 10 1) (0 ∷ 0 ∷ []),
    of_turns (replicate 5 2) [],
    s5,
    refl,
    (
      of_turns (replicate 5 0) [],
      of_turns (replicate 10 1) (0 ∷ 0 ∷ []),
      s1,
      refl,
      (no_turns, of_turns (replicate 5 0) [], s0, refl, (refl, refl), (run-turns std_rules std_next (λ _ _ _. refl) 0 5 s0 s1 (some-state (run std_next s0 (replicate 5 0) []) refl), ended s1.kept 0 (at s1 0) refl refl)),
      (balances, ended s5.kept 1 (at s5 1) refl refl),
    ),
    (run-turns std_rules std_next (λ _ _ _. refl) 2 5 s5 s6 (some-state (run std_next s5 (replicate 5 2) []) refl), ended s6.kept 2 (at s6 2) refl refl),
  ),
  (run-turns std_rules std_next (λ _ _ _. refl) 3 1 s6 balance_last (some-state (run std_next s6 (3 ∷ []) []) refl), ended balance_last.kept 3 (at balance_last 3) refl refl),
)

-- and the pass after it, which is empty
no_pass : Pass std_rules balance_last no_turns balance_last
no_pass = (
  no_turns,
  no_turns,
  balance_last,
  refl,
  (
    no_turns,
    no_turns,
    balance_last,
    refl,
    (
      no_turns,
      no_turns,
      balance_last,
      refl,
      (no_turns, no_turns, balance_last, refl, (refl, refl), ((refl, refl), ended balance_last.kept 0 (at balance_last 0) refl refl)),
      ((refl, refl), ended balance_last.kept 1 (at balance_last 1) refl refl),
    ),
    ((refl, refl), ended balance_last.kept 2 (at balance_last 2) refl refl),
  ),
  ((refl, refl), ended balance_last.kept 3 (at balance_last 3) refl refl),
)

-- The journal is the round robin.
pub balance_robin : RoundRobin std_rules s0 (schedule_of balance_journal) balance_last
balance_robin = record { passes = schedule_of balance_journal ∷ []; whole = refl; go = ((λ h. cc), (balance_last, one_pass, refl)); last = no_pass }

-- So it is a schedule.
pub balance_leads : Leads std_rules s0 (schedule_of balance_journal) balance_last
balance_leads = round-leads std_rules s0 (schedule_of balance_journal) balance_last balance_robin

-- Whatever components there are on what the files gave, the journal is a schedule from their start.
pub leads-on : AllRunAsTheyAre std_rules → (given : List (List ℕ)) (tapes : List Taped) (ks : List AnyKind) → whole input_file ∷ [] ≡ map whole (inputs_of balance.processes given)
    → AreComponents [] balance given tapes ks → (last : State AnyKind) × Leads net_rules (start_of balance ks) (schedule_of balance_journal) last
leads-on plain given tapes ks read are =
    subst (λ (cs : List AnyKind). (last : State AnyKind) × Leads net_rules (start_of balance cs) (schedule_of balance_journal) last) (sym (only-components given tapes ks read are))
    (as_mixed balance_last, ((plain balance balance_components).leads (schedule_of balance_journal) balance_last).0 balance_leads)

-- Every process has ended.
pub balance_ended : AllEnded balance_last
balance_ended p x there = at_four (λ k (y : Process Std). y.stage ≡ stages.Ended) (at balance_last 0) (at balance_last 1) (at balance_last 2) (at balance_last 3) refl refl refl refl p x there

-- So none can go on.
pub balance_quiet : Quiet balance_last
balance_quiet = record {
  thought = λ p x there answer told. (let bad : stages.Ended ≡ stages.Told answer = sym (balance_ended p x there) ∙ told in cc);
  still = λ p x n there. ap (stage_event (looks balance_last.kept.channels) x n) (balance_ended p x there);
}

-- The report.
abbrev pub balance_report : Told
balance_report = record {
  verdict = verdicts.Finished;
  processes = told_from (process_in balance balance_last.past.dropped) 0 balance_last.kept.processes;
  connections = told_from (connection_in balance balance_last.past.put) 0 balance_last.kept.channels;
  blocked = told_from (block_told balance (looks balance_last.kept.channels)) 0 balance_last.kept.processes;
  waits = [];
  failed = told_from (failure_told balance) 0 balance_last.kept.processes;
  left = [];
  turns = 21;
  made = 1;
  dropped = 1;
}

-- It tells of the last state.
pub balance_told : TellsOf balance balance_last balance_report
balance_told = record {
  verdict = (balance_ended, refl);
  processes = refl;
  connections = refl;
  blocked = refl;
  waits = record { cycle = λ dead. absurd (dead.2 balance_ended); none = λ _. refl };
  failed = refl;
  left = refl;
  each_place = refl;
  turns = refl;
  made = refl;
  dropped = refl;
  adds_up = refl;
}
