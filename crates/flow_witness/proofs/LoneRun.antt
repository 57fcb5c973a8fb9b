-- The turn of the network of one process of the caller's own, by its player, and what is told of the state behind it: the process has failed.
use Rattle.std.proofs.Common.{◌≡◌, [], ◌∷◌, Some, None, refl, sym, ap, inr, slice_get}
use Rattle.flow_component.specs.declared.Answer.{Answer}
use Rattle.flow_component.specs.declared.Answer.TheVariants as answers
use Rattle.flow_component.specs.declared.Fail.TheVariants as fails
use Rattle.flow_component.specs.declared.OwnFail.TheVariants as owns
use Rattle.flow_component.specs.Laws.{Outcome, held_after}
use Rattle.flow_component.specs.Outcomes.{outcome_as}
use Rattle.flow_own.specs.Mixed.{Own}
use Rattle.flow_own.specs.Tapes.{OwnValue, played}
use Rattle.flow_model.specs.declared.Stage.TheVariants as stages
use Rattle.flow_model.specs.States.{Process, State}
use Rattle.flow_model.specs.Events.{Starts, event_of, looks}
use Rattle.flow_model.specs.Turns.{Turn, process_after}
use Rattle.flow_model.specs.Works.{Work, worked, past_worked}
use Rattle.flow_model.specs.Schedules.{Leads, no_turns}
use Rattle.flow_model.specs.Verdicts.{HasNoTurn, IsFailed, Quiet}
use Rattle.flow_model.specs.Robin.{ExactTurn, Pass, RoundRobin}
use Rattle.flow_model.specs.Plans.{process_at_start, start_of}
use Rattle.flow_model.proofs.Journals.{round-leads}
use Rattle.flow_model.proofs.Replay.{turned}
use Rattle.flow_journal.specs.Replays.{schedule_of}
use Rattle.flow_offer.specs.Fits.{player_at}
use Rattle.flow_load.specs.Offers.{AnyKind, net_rules}
use Rattle.flow_load.specs.Runs.{ArePlayedOut, IsPlayedOut}
use Rattle.flow_report.specs.declared.report.Verdict.TheVariants as verdicts
use Rattle.flow_report.specs.States.{TellsOf, process_in, connection_in}
use Rattle.flow_report.specs.Of.{block_told, failure_told, told_from}
use Rattle.flow_report.specs.Text.{Told}
use Rattle.flow_witness.specs.Lone.{lone, lone_journal, lone_process, lone_tape}
use Rattle.flow_witness.proofs.Wired.{at_one}
use Rattle.flow_witness.proofs.LonePlan.{playing}

abbrev s0 : State AnyKind
s0 = start_of lone (playing ∷ [])

-- The process at the start, and when it is started.
abbrev x0 : Process AnyKind
x0 = process_at_start lone 0 lone_process playing

abbrev x1 : Process AnyKind
x1 = process_after x0 Starts

abbrev player_value : OwnValue
player_value = player_at lone 0 lone_process lone_tape

-- What the player comes to by the one entry of its tape.
abbrev played_entry : Outcome OwnValue
played_entry = played player_value x1.held answers.Start 0 (slice_get lone_tape 0)

abbrev outcome : Outcome AnyKind
outcome = outcome_as Own played_entry

abbrev mid : State AnyKind
mid = turned s0 0 x0 Starts

-- The process at the end.
abbrev x2 : Process AnyKind
x2 = worked x1 outcome

-- The state at the end.
abbrev pub lone_last : State AnyKind
lone_last = record { kept = record { processes = x2 ∷ []; channels = mid.kept.channels }; past = past_worked mid.past 0 x1.held (held_after outcome) }

starts : Turn s0 0 Starts mid
starts = record { kept = record { before = x0; level = 0; there = refl; happens = refl; processes = refl; channels = refl }; past = refl }

works : Work net_rules mid 0 lone_last
works = record {
  before = x1;
  outcome = outcome;
  kept = record {
    answer = answers.Start;
    there = refl;
    told = refl;
    comes = (record { unmanned = refl; placed = refl }, (played_entry, refl, refl));
    processes = refl;
    channels = refl;
  };
  past = refl;
}

turn : ExactTurn net_rules s0 0 Starts lone_last
turn = record { mid = mid; turn = starts; exact = tt; settles = inr works }

-- A process that has failed has no turn.
over : HasNoTurn lone_last.kept 0
over x n is =
    let h : Some x2 ≡ Some x = is in
    let same : x2 ≡ x = cc in
    ap (λ (y : Process AnyKind). event_of lone_last.kept.channels y n) (sym same)

one_pass : Pass net_rules s0 (schedule_of lone_journal) lone_last
one_pass = (no_turns, schedule_of lone_journal, s0, refl, (refl, refl), ((refl, (Starts, lone_last, [], turn, refl, (refl, refl))), over))

no_pass : Pass net_rules lone_last no_turns lone_last
no_pass = (no_turns, no_turns, lone_last, refl, (refl, refl), ((refl, refl), over))

-- The journal is the round robin, and so a schedule.
pub lone_robin : RoundRobin net_rules s0 (schedule_of lone_journal) lone_last
lone_robin = record { passes = schedule_of lone_journal ∷ []; whole = refl; go = ((λ h. cc), (lone_last, one_pass, refl)); last = no_pass }

pub lone_leads : Leads net_rules s0 (schedule_of lone_journal) lone_last
lone_leads = round-leads net_rules s0 (schedule_of lone_journal) lone_last lone_robin

-- No process can go on, and one has failed.
pub lone_quiet : Quiet lone_last
lone_quiet = record {
  thought = λ p x there. at_one (λ k (y : Process AnyKind). (answer : Answer) → y.stage ≡ stages.Told answer → ⊥) x2 (λ answer h. cc) p x there;
  still = λ p x n there. at_one (λ k (y : Process AnyKind). event_of lone_last.kept.channels y n ≡ None) x2 refl p x there;
}

lone_failed : IsFailed lone_last
lone_failed = (lone_quiet, (0, x2, fails.Own (owns.Own 7), refl, refl))

-- The player has played its tape.
pub lone_played_out : ArePlayedOut lone_last
lone_played_out p x there = at_one (λ k (y : Process AnyKind). IsPlayedOut y.component) x2 refl p x there

-- The report.
abbrev pub lone_report : Told
lone_report = record {
  verdict = verdicts.Failed;
  processes = told_from (process_in lone lone_last.past.dropped) 0 lone_last.kept.processes;
  connections = told_from (connection_in lone lone_last.past.put) 0 lone_last.kept.channels;
  blocked = told_from (block_told lone (looks lone_last.kept.channels)) 0 lone_last.kept.processes;
  waits = [];
  failed = told_from (failure_told lone) 0 lone_last.kept.processes;
  left = [];
  turns = 1;
  made = 0;
  dropped = 0;
}

-- It tells of the last state.
pub lone_told : TellsOf lone lone_last lone_report
lone_told = record {
  verdict = lone_failed;
  processes = refl;
  connections = refl;
  blocked = refl;
  waits = record { cycle = λ dead. absurd (dead.1 lone_failed.1); none = λ _. refl };
  failed = refl;
  left = refl;
  each_place = refl;
  turns = refl;
  made = refl;
  dropped = refl;
  adds_up = refl;
}
