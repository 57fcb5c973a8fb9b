-- Who made the turns of a run.
use Rattle.std.specs.Prelude.{◌≡◌, ◌≤◌, ℕ, List, String}
use Rattle.std.specs.declared.alloc.Global.{Global}
use Rattle.flow_words.specs.Words.{Asked, workers_asked}
use Rattle.flow_runner.specs.declared.worked.Crew.{Crew}
use Rattle.flow_runner.specs.Crews.{HasWorkers, turns_of_crew, stamped}
use Rattle.flow_journal.specs.declared.merge.Journal.{Journal}
use Rattle.flow_load.specs.Offers.{IsEmptyJournal}
use Rattle.flow_load.specs.Reads.{Asks}

-- The turns of a journal were made by this crew, and they are so many workers: all turns that each of them made are together those of the journal, with
-- their places there for stamps. Where they are none one thread made the turns.
pub record IsMadeBy (workers : ℕ) (crew : Crew) (journal : Journal) : Type 0 where
  pub count : HasWorkers workers crew
  pub turns : 1 ≤ workers → turns_of_crew crew ≡ stamped 0 journal.turns

-- They were made by as many workers as these words ask for.
abbrev pub IsMadeAsAsked : List (String Global) → Crew → Journal → Type 0
IsMadeAsAsked words crew journal = (asked : Asked) → Asks words asked → IsMadeBy (workers_asked asked) crew journal

-- There are no turns, and nobody was there to make any.
abbrev pub IsMadeByNobody : Crew → Journal → Type 0
IsMadeByNobody crew journal = HasWorkers 0 crew × IsEmptyJournal journal
