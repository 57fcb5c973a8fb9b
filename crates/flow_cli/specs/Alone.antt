-- A run of a determinate plan: whatever its workers did, it ends as on one thread. (This project's own.)
use Rattle.std.specs.Prelude.{◌≡◌, ◌⊎◌}
use Rattle.flow_words.specs.Words.{AskedRun, run_of}
use Rattle.flow_model.specs.Schedules.{Journal}
use Rattle.flow_model.specs.Robin.{RoundRobin}
use Rattle.flow_model.specs.Plans.{start_of}
use Rattle.flow_determinate.specs.Standard.{IsDeterminate}
use Rattle.flow_report.specs.Text.{Told as Report}
use Rattle.flow_report.specs.States.{TellsOf}
use Rattle.flow_load.specs.Offers.{net_rules}
use Rattle.flow_load.specs.Reads.{Asks}
use Rattle.flow_cli.specs.Top.{Call, EndsWell, SaysWell}

-- A run came to its end, and its report is the only one that tells of the state in which it ended. Where its plan is determinate, that is the state in
-- which the round robin of one thread ends, from the same start on the same input files. So report, status and writers' files are those of one thread, for
-- every number of workers.
pub record EndsAsAlone (c : Call) (asked : AskedRun) : Type 0 where
  pub ends : EndsWell c asked
  pub one_report : (report : Report) → TellsOf ends.whole.plan ends.whole.last report → report ≡ ends.report
  pub alone : IsDeterminate ends.whole.plan → (robin : Journal) × RoundRobin net_rules (start_of ends.whole.plan ends.whole.run.components) robin ends.whole.last

-- A call that came to its end, and as on one thread if it is a run; else what writes no file did.
abbrev pub ComesToEndAsAlone : Call → Type 0
ComesToEndAsAlone c = ((asked : AskedRun) × Asks c.work.words (run_of asked) × EndsAsAlone c asked) ⊎ SaysWell c
