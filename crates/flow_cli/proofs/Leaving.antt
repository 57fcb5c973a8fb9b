-- What a run leaves: its net stands for the machine's last state, so its report and its files are those of that state; and with the players of the tapes that the net has, the run is one of the
-- network of players.
use Rattle.std.proofs.Common.{◌≡◌, ℕ, zero, suc, ◌+◌, ◌<◌, ◌≤◌, List, [], ◌∷◌, ◌++◌, length, map, refl, ◌∙◌, ap, arith}
use Rattle.std.specs.Prelude.{slice_get, unwrap_or, option_and_then, codes}
use Rattle.std.specs.Fmt.{decimal}
use Rattle.std.specs.List.{flat_map}
use Rattle.flow_limits.specs.declared.TheConstants.{PROCESS_LIMIT}
use Rattle.flow_text.specs.Edge.{Name}
use Rattle.flow_component.specs.Laws.{Rules}
use Rattle.flow_plan.specs.declared.plan.Process.{Process as NetProcess}
use Rattle.flow_plan.specs.Network.{Network}
use Rattle.flow_plan.specs.Valid.{IsValid}
use Rattle.flow_model.specs.States.{Process, State}
use Rattle.flow_model.specs.Fit.{Fit}
use Rattle.flow_machine.specs.Starts.{StartsNet}
use Rattle.flow_machine.specs.Values.{BodyValue, NetValue}
use Rattle.flow_cycle.specs.Nets.{IsReached}
use Rattle.flow_runner.specs.declared.worked.Worked.{Worked}
use Rattle.flow_journal.specs.Files.{IsWritable}
use Rattle.flow_model.specs.Plans.{StartsWell}
use Rattle.flow_journal.specs.Replays.{schedule_of}
use Rattle.flow_journal.specs.declared.merge.Journal.{Journal}
use Rattle.flow_journal.specs.Runs.{IsScheduled, RoundsAreRuns, ReachesAreRuns, ComesOfRun, SeesNoMoreThanTurns}
use Rattle.flow_report.specs.Of.{told_of}
use Rattle.flow_report.specs.States.{ReportsTell}
use Rattle.flow_load.specs.Step.{Filled}
use Rattle.flow_load.specs.Components.{written_by}
use Rattle.flow_cli.specs.Makes.{output_lines_at, output_lines_from}
use Rattle.flow_cli.specs.Engines.{RanBy}
use Rattle.flow_load.specs.Offers.{AnyKind, live_rules}
use Rattle.flow_cli.specs.Leaves.{IsToldOf, IsToldOfNet, IsJournalOfNet}
use Rattle.flow_load.specs.Runs.{written_in, outputs_at, outputs_from}
use Rattle.flow_cli.specs.declared.ran.PrintedReport.{PrintedReport}

-- the bytes that each process wrote are those of its body
pub bytes-same : (bodies : List (BodyValue AnyKind)) (xs : List (Process AnyKind)) (p : ℕ) → map (λ b. b.process) bodies ≡ xs
    → unwrap_or (option_and_then (λ (b : BodyValue AnyKind). written_in b.process.component) (slice_get bodies p)) [] ≡ unwrap_or (option_and_then (λ (x : Process AnyKind). written_in x.component) (slice_get xs p)) []
bytes-same [] [] p same = refl
bytes-same [] (x ∷ xs) p same = absurd cc
bytes-same (b ∷ bodies) [] p same = absurd cc
bytes-same (b ∷ bodies) (x ∷ xs) zero same = let h : b.process ≡ x = cc in ap (λ (y : Process AnyKind). unwrap_or (written_in y.component) []) h
bytes-same (b ∷ bodies) (x ∷ xs) (suc p) same = let h : map (λ (b : BodyValue AnyKind). b.process) bodies ≡ xs = cc in bytes-same bodies xs p h

-- The files of two tellings of the same bytes are the same.
pub outputs-same : (one other : ℕ → List ℕ) → ((p : ℕ) → one p ≡ other p) → (p : ℕ) (ps : List NetProcess) → outputs_from one p ps ≡ outputs_from other p ps
outputs-same one other same p [] = refl
outputs-same one other same p (x ∷ xs) =
    let first : outputs_at one p x ≡ outputs_at other p x = ap (λ (bytes : List ℕ). map (λ (name : Name). (name, bytes)) (written_by x)) (same p) in
    let rest = outputs-same one other same (p + 1) xs in
    ap (λ (l : List Filled). l ++ outputs_from one (p + 1) xs) first ∙ ap (λ (l : List Filled). outputs_at other p x ++ l) rest

-- So are the lines on them.
pub lines-same : (one other : ℕ → List ℕ) → ((p : ℕ) → one p ≡ other p) → (p : ℕ) (ps : List NetProcess) → output_lines_from one p ps ≡ output_lines_from other p ps
lines-same one other same p [] = refl
lines-same one other same p (x ∷ xs) =
    let first : output_lines_at one p x ≡ output_lines_at other p x = ap (λ (bytes : List ℕ). flat_map (λ (name : Name). codes "output " ++ x.name ++ 32 ∷ decimal (length bytes) ++ 10 ∷ []) (written_by x)) (same p) in
    let rest = lines-same one other same (p + 1) xs in
    ap (λ (l : List ℕ). l ++ output_lines_from one (p + 1) xs) first ∙ ap (λ (l : List ℕ). output_lines_at other p x ++ l) rest

-- what is told of a net that stands for a state is the report of that
pub told-of : (rules : Rules AnyKind) (plan : Network) (net : NetValue AnyKind) (last : State AnyKind) (told : PrintedReport) → IsValid plan → ReportsTell rules
    → Fit rules last → length last.kept.processes ≡ length plan.processes → IsReached rules plan net last → IsToldOfNet plan net told → IsToldOf plan last told
told-of rules plan net last told valid tell fit count reached is =
    let few : length last.kept.processes ≤ PROCESS_LIMIT = omega (arith, count, valid.wired.few_processes) in
    record {
      report = told_of plan net;
      tells = tell plan net last fit few reached;
      verdict = is.verdict;
      text = is.report;
      brief = is.brief;
    }

-- a journal of a run has a file
pub has-file : (rules : Rules AnyKind) (plan : Network) (components : List AnyKind) (net : NetValue AnyKind) (journal : Journal) (last : State AnyKind) → SeesNoMoreThanTurns rules
    → IsScheduled rules plan components (schedule_of journal) last → IsJournalOfNet net journal → IsWritable journal
has-file rules plan components net journal last sees schedule is = record {
  turns = is.few;
  seen = sees plan components (schedule_of journal) last schedule;
}

-- A net that was run on from the start of a plan comes of a run, by one thread or by workers.
pub comes-of-run : (workers : ℕ) (plan : Network) (components : List AnyKind) (start : NetValue AnyKind) (worked : Worked AnyKind) (journal : Journal)
    → RoundsAreRuns live_rules → ReachesAreRuns live_rules
    → StartsWell live_rules plan components → StartsNet plan components start → RanBy workers start worked → IsJournalOfNet worked.closed.net journal
    → ComesOfRun live_rules workers plan components (schedule_of journal) worked.closed.net
comes-of-run zero plan components start worked journal rounds reaches well starts ran is = rounds plan components start worked.closed.net journal.turns journal.seen well starts (ran.alone refl) is.turns is.seen
comes-of-run (suc more) plan components start worked journal rounds reaches well starts ran is =
    let some : 0 < suc more = omega arith in
    let one : 1 ≤ suc more = omega arith in
    reaches (suc more) plan components start worked.closed.net journal.turns journal.seen some well starts (ran.reaches one) (ran.quiet one) is.turns is.seen
