-- Who made the turns of a run.
use Rattle.std.proofs.Common.{◌≡◌, ℕ, ◌+◌, List, [], ◌∷◌, map, refl, sym, ap, ◌∙◌, subst, arith}
use Rattle.std.specs.Prelude.{String}
use Rattle.std.specs.declared.alloc.Global.{Global}
use Rattle.flow_words.specs.Words.{Asked, workers_asked}
use Rattle.flow_plan.specs.Network.{Network}
use Rattle.flow_model.specs.Plans.{start_of}
use Rattle.flow_load.specs.Offers.{AnyKind, live_rules}
use Rattle.flow_machine.specs.Logs.{Logged, IsLogOf, turns_made}
use Rattle.flow_machine.specs.Starts.{StartsNet}
use Rattle.flow_machine.specs.Values.{NetValue}
use Rattle.flow_floor.specs.Made.{numbered}
use Rattle.flow_runner.specs.Crews.{HasWorkers, stamped}
use Rattle.flow_runner.specs.declared.worked.Crew.{Crew}
use Rattle.flow_runner.specs.declared.worked.Worked.{Worked}
use Rattle.flow_journal.specs.Replays.{schedule_of}
use Rattle.flow_journal.specs.Runs.{ComesOfRun}
use Rattle.flow_journal.specs.declared.merge.Journal.{Journal}
use Rattle.flow_journal.proofs.Rounds.{all-logged, schedule-count}
use Rattle.flow_cli.specs.Engines.{RanBy}
use Rattle.flow_load.specs.Reads.{Asks}
use Rattle.flow_cli.specs.Leaves.{IsJournalOfNet}
use Rattle.flow_cli.specs.Workers.{IsMadeBy, IsMadeAsAsked}

-- turns by their stamps are their processes by their stamps
numbered-stamped : (n : ℕ) (log : List Logged) → numbered n log ≡ stamped n (map (λ turn. turn.process) log)
numbered-stamped n [] = refl
numbered-stamped n (turn ∷ log) = ap (λ (l : List (ℕ × ℕ)). (n, turn.process) ∷ l) (numbered-stamped (n + 1) log)

-- The turns of a net that workers ran from the start of a plan are those of its journal.
pub made-by : (workers : ℕ) (plan : Network) (components : List AnyKind) (start : NetValue AnyKind) (worked : Worked AnyKind) (journal : Journal)
    → StartsNet plan components start → RanBy workers start worked → IsJournalOfNet worked.closed.net journal
    → ComesOfRun live_rules workers plan components (schedule_of journal) worked.closed.net → IsMadeBy workers worked.crew journal
made-by workers plan components start worked journal starts ran is comes = record {
  count = ran.crew;
  turns = λ one.
      let shut = ran.made one in
      let count = schedule-count live_rules (start_of plan components) journal.turns journal.seen comes.last comes.run.schedule.leads in
      let logged : IsLogOf shut.log worked.closed.net = all-logged plan components start shut.log worked.closed.net comes.last starts.stands starts.unmade shut.goes.remembers shut.total comes.stands count in
      let first : turns_made start ≡ 0 = omega (arith, logged.total, shut.total) in
      shut.turns ∙ (ap (λ n. numbered n shut.log) first ∙ (numbered-stamped 0 shut.log ∙ ap (stamped 0) (sym (is.turns shut.log logged))));
}

-- Nobody is a crew of no workers.
pub by-none : (crew : Crew) (journal : Journal) → HasWorkers 0 crew → IsMadeBy 0 crew journal
by-none crew journal nobody = record { count = nobody; turns = λ one. absurd (omega (arith, one)) }

-- What is true of the one thing that the words ask for is true of whatever they ask for.
pub as-asked : (words : List (String Global)) (asked : Asked) (crew : Crew) (journal : Journal) → Asks words asked → IsMadeBy (workers_asked asked) crew journal → IsMadeAsAsked words crew journal
as-asked words asked crew journal asks made other asks_other = let same : other ≡ asked = cc in subst (λ (a : Asked). IsMadeBy (workers_asked a) crew journal) (sym same) made
