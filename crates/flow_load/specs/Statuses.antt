-- The numbers of the statuses.
use Rattle.std.specs.Prelude.{ℕ, ⊤}
use Rattle.flow_load.specs.declared.status.Status.{Status}
use Rattle.flow_load.specs.declared.status.Status.TheVariants.{Finished, FinishedLeft, Words, Refused, JournalRefused, Deadlock, Failed, ReadFault, WriteFault, NoMemory, TooLong, Running, TapesRefused}

-- The number with which the program ends.
abbrev pub code_of : Status → ℕ
code_of Finished = 0
code_of FinishedLeft = 1
code_of Words = 2
code_of Refused = 3
code_of Deadlock = 4
code_of Failed = 5
code_of ReadFault = 6
code_of WriteFault = 7
code_of NoMemory = 8
code_of TooLong = 9
code_of JournalRefused = 10
code_of Running = 11
code_of TapesRefused = 12

-- A call came to its end: a run did, finished, finished with packets left, in a deadlock, or failed; or a replay did, which may leave a network that can go on; or a
-- check found nothing, a judge answered, or a page was printed.
abbrev pub IsOver : Status → Type 0
IsOver Finished = ⊤
IsOver FinishedLeft = ⊤
IsOver Deadlock = ⊤
IsOver Failed = ⊤
IsOver Running = ⊤
IsOver other = ⊥

-- The network finished, with or without packets that are left.
abbrev pub IsFinished : Status → Type 0
IsFinished Finished = ⊤
IsFinished FinishedLeft = ⊤
IsFinished other = ⊥
