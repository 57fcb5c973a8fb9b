-- The tests on the stage of a process. (This project's own.)
use Rattle.std.specs.Prelude.{ℕ, ◌≤◌, ◌||◌, Bool, true, false}
use Rattle.flow_model.specs.declared.Stage.{Stage}
use Rattle.flow_model.specs.declared.Stage.TheVariants as stages

-- The process has ended.
abbrev pub has_ended : Stage → Bool
has_ended stages.Ended = true
has_ended stage = false

-- It has failed.
abbrev pub has_failed : Stage → Bool
has_failed (stages.Failed cause) = true
has_failed stage = false

-- It is over: it has ended or failed.
abbrev pub is_over_stage : Stage → Bool
is_over_stage stage = has_ended stage || has_failed stage

-- It has a work that is still to come.
abbrev pub owes_work : Stage → Bool
owes_work (stages.Told answer) = true
owes_work stage = false

-- The works that are still to come.
abbrev pub owed : Stage → ℕ
owed (stages.Told answer) = 1
owed stage = 0

-- A process that isn't over may take one more turn at least.
abbrev pub least_left : Stage → ℕ
least_left stages.Ended = 0
least_left (stages.Failed cause) = 0
least_left stage = 1

-- No answer is pending at this stage.
abbrev pub IsThoughtStage : Stage → Type 0
IsThoughtStage (stages.Told answer) = ⊥
IsThoughtStage stage = Unit {0}

-- The process has failed.
abbrev pub IsFailedStage : Stage → Type 0
IsFailedStage (stages.Failed cause) = Unit {0}
IsFailedStage stage = ⊥

-- It hasn't failed.
abbrev pub HasNotFailed : Stage → Type 0
HasNotFailed (stages.Failed cause) = ⊥
HasNotFailed stage = Unit {0}

-- It has ended or failed.
abbrev pub IsOverStage : Stage → Type 0
IsOverStage stages.Ended = Unit {0}
IsOverStage (stages.Failed cause) = Unit {0}
IsOverStage stage = ⊥

-- It has ended or failed, or its work is still to come.
abbrev pub IsOverOrOwes : Stage → Type 0
IsOverOrOwes (stages.Told answer) = Unit {0}
IsOverOrOwes stage = IsOverStage stage

-- It closes its outputs, or has closed them.
abbrev pub HasBegunToClose : Stage → Type 0
HasBegunToClose (stages.Closing i) = Unit {0}
HasBegunToClose stages.Ended = Unit {0}
HasBegunToClose stage = ⊥

-- It still has to close its connected output number j.
abbrev pub HasToClose : Stage → ℕ → Type 0
HasToClose (stages.Closing i) j = i ≤ j
HasToClose stages.Ended j = ⊥
HasToClose (stages.Failed cause) j = ⊥
HasToClose stage j = Unit {0}
