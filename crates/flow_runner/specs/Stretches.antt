-- A run in stretches: the turns of one stretch after those of another.
use Rattle.std.specs.Prelude.{ℕ, List, ◌++◌}
use Rattle.flow_component.specs.Laws.{Rules}
use Rattle.flow_plan.specs.Network.{Network as Plan}
use Rattle.flow_model.specs.States.{State}
use Rattle.flow_model.specs.Plans.{StartsWell}
use Rattle.flow_model.specs.Stands.{StandsForOpen}
use Rattle.flow_model.specs.Fit.{Fit}
use Rattle.flow_machine.specs.Values.{NetValue, shown_net}
use Rattle.flow_machine.specs.Logs.{turns_made}
use Rattle.flow_machine.specs.Quiet.{IsQuietNet}
use Rattle.flow_machine.specs.Solo.{Goes, ReachesNet, round_robin}
use Rattle.flow_machine.specs.Starts.{StartsNet}
use Rattle.flow_floor.specs.Shut.{IsShut}

-- A net reaches itself, without a turn.
abbrev pub ReachesItself : {K : Type 0} → Rules K → Type 0
ReachesItself {K} rules = (net : NetValue K) → ReachesNet rules net net

-- What a net reached in one stretch, and went on from there in another to a third net, reached that: by the turns of the first stretch and then those of
-- the second, whose stamps go on from theirs.
abbrev pub StretchesAreOne : {K : Type 0} → Rules K → Type 0
StretchesAreOne {K} rules = (first middle last : NetValue K) → ReachesNet rules first middle → ReachesNet rules middle last → ReachesNet rules first last

-- The net of a floor that was closed or paused is one that the net with which it was opened reached.
abbrev pub FloorsReach : {K : Type 0} → Rules K → Type 0
FloorsReach {K} rules = (first last : NetValue K) (made : List (ℕ × ℕ)) → IsShut rules first made last → ReachesNet rules first last

-- Where a floor was opened with the net of another, the turns of both, those of the first floor before those of the second, are as if they were made on
-- one floor: their stamps go on one after another.
abbrev pub FloorsAreOne : {K : Type 0} → Rules K → Type 0
FloorsAreOne {K} rules = (first middle last : NetValue K) (made more : List (ℕ × ℕ)) → IsShut rules first made middle → IsShut rules middle more last → IsShut rules first (made ++ more) last

-- A net stands for some state of the machine in which all is well.
abbrev pub StandsWell : {K : Type 0} → Rules K → NetValue K → Type 0
StandsWell {K} rules net = (s : State K) × Fit rules s × StandsForOpen (shown_net net) s

-- A net that started from a plan, with components that fit, stands so.
abbrev pub StartsStandWell : {K : Type 0} → Rules K → Type 0
StartsStandWell {K} rules = (plan : Plan) (components : List K) (start : NetValue K) → StartsWell rules plan components → StartsNet plan components start → StandsWell rules start

-- Where such a net reached another, and that went round and round on one thread until it was quiet, the first net reached the last one, which is quiet.
abbrev pub RoundsGoOn : {K : Type 0} → Rules K → Type 0
RoundsGoOn {K} rules =
    (first middle last : NetValue K)
    → StandsWell rules first
    → ReachesNet rules first middle
    → Goes rules (round_robin rules) middle (turns_made middle) last (turns_made last)
    → ReachesNet rules first last × IsQuietNet last
