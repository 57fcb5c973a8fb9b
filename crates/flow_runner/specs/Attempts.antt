-- What an attempt at turns says of the process.
use Rattle.std.specs.Prelude.{◌≡◌, ℕ, ◌+◌, ◌≤◌, ◌⊎◌, List, length}
use Rattle.flow_floor.specs.declared.floor.Burst.{Burst}
use Rattle.flow_floor.specs.declared.floor.Burst.TheVariants as burst
use Rattle.flow_floor.specs.declared.floor.Floor.{Floor}
use Rattle.flow_floor.specs.declared.floor.Worker.{Worker}
use Rattle.flow_floor.specs.declared.floor.Held.{Held}
use Rattle.flow_floor.specs.Bursts.{PassesBetween}
use Rattle.flow_floor.specs.Views.{leaving, looked, lowering, parking}
use Rattle.flow_floor.specs.Workers.{view}
use Rattle.flow_floor.specs.Floors.{IsStuckAt, IsOverAs, HasReadZero, turns_of}
use Rattle.flow_runner.specs.declared.work.Attempt.{Attempt}
use Rattle.flow_runner.specs.declared.work.Attempt.TheVariants as attempts

module _ {K : Type 0} where
  -- How the held process may be let go: one that is blocked may be parked, one that is over may be retired, and any may be handed back.
  abbrev pub MayGo : Floor K → Worker K → Held K → Attempt → Type 0
  MayGo floor w h attempts.Blocked = IsStuckAt floor w h
  MayGo floor w h (attempts.Over over) = IsOverAs over h
  MayGo floor w h (attempts.Made count) = Unit {0}
  MayGo floor w h attempts.Busy = Unit {0}

  -- How the worker stands that let it go. Of one that was blocked it has given the token back, or else has made it ready, as it was poked meanwhile; of one
  -- that is over it has given the token back too; and any other it has made ready. Whether the process is parked then or retired isn't said.
  abbrev pub LetsGo : Held K → Worker K → Worker K → Attempt → Type 0
  LetsGo h w w' attempts.Blocked = (view w' ≡ lowering (parking (view w))) ⊎ (view w' ≡ leaving (looked (view w) h.process 3))
  LetsGo h w w' (attempts.Over over) = view w' ≡ lowering (parking (view w))
  LetsGo h w w' (attempts.Made count) = view w' ≡ leaving (view w)
  LetsGo h w w' attempts.Busy = view w' ≡ leaving (view w)

-- The turns of a worker before an attempt at so many and after it: as many more as were made, at least one and no more than those; and else the same.
abbrev pub Adds : ℕ → Attempt → List (ℕ × ℕ) → List (ℕ × ℕ) → Type 0
Adds most (attempts.Made count) old new = (length new ≡ length old + count) × (1 ≤ count) × (count ≤ most)
Adds most attempts.Busy old new = new ≡ old
Adds most attempts.Blocked old new = new ≡ old
Adds most (attempts.Over over) old new = new ≡ old

-- Between its turns, before which the process had made so many, the gate was passed.
abbrev pub PassesInAttempt : (ℕ → ℕ → Type 0) → ℕ → Attempt → Type 0
PassesInAttempt has_passed turns (attempts.Made count) = PassesBetween has_passed turns count
PassesInAttempt has_passed turns attempts.Busy = Unit {0}
PassesInAttempt has_passed turns attempts.Blocked = Unit {0}
PassesInAttempt has_passed turns (attempts.Over over) = Unit {0}

-- How many turns a burst made.
abbrev pub made_in : Burst → ℕ
made_in (burst.Made first count) = count
made_in (burst.Busy c word) = 0
made_in (burst.Blocked block word) = 0
made_in (burst.Over over) = 0

-- Each turn that was made is one less that is left.
abbrev pub Spends : List (ℕ × ℕ) → ℕ → List (ℕ × ℕ) → ℕ → Type 0
Spends old left new left' = length new + left' ≡ length old + left

module _ {K : Type 0} where
  -- The worker made so many turns, or has read 0 before that.
  abbrev pub HasSpent : ℕ → Worker K → Worker K → Type 0
  HasSpent budget old new = (length (turns_of new) ≤ length (turns_of old) + budget) × (HasReadZero new ⊎ (length (turns_of new) ≡ length (turns_of old) + budget))

  -- The same of a worker that was new.
  abbrev pub HasMade : ℕ → Worker K → Type 0
  HasMade budget w = (length (turns_of w) ≤ budget) × (HasReadZero w ⊎ (length (turns_of w) ≡ budget))
