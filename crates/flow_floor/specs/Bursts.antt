-- What a call for a burst tells. Here n is the number of processes, m that of connections, `start` the net that was opened, and `limit` the most turns that
-- were asked for.
use Rattle.std.specs.Prelude.{◌≡◌, ℕ, ◌+◌, ◌<◌, ◌≤◌, List, [], ◌∷◌, ◌++◌, All, length, map}
use Rattle.std.specs.List.{range_with_len}
use Rattle.flow_component.specs.Laws.{Rules}
use Rattle.flow_machine.specs.Values.{BodyValue, NetValue}
use Rattle.flow_floor.specs.Made.{Below}
use Rattle.flow_floor.specs.declared.floor.Burst.{Burst}
use Rattle.flow_floor.specs.declared.floor.Burst.TheVariants as burst
use Rattle.flow_floor.specs.declared.floor.Held.{Held}
use Rattle.flow_floor.specs.declared.floor.Turned.TheVariants as turned
use Rattle.flow_floor.specs.declared.floor.Worker.{Worker}
use Rattle.flow_floor.specs.InHand.{IsHeldAs}
use Rattle.flow_floor.specs.Pending.{MachineTurns}
use Rattle.flow_floor.specs.Turns.{Turns, ToldLevel}
use Rattle.flow_floor.specs.Views.{Move, all_turned}
use Rattle.flow_floor.specs.Workers.{view}

-- So many turns of process p, with the stamps from the first one on.
abbrev pub turns_from : ℕ → ℕ → ℕ → List (ℕ × ℕ)
turns_from p first count = map (λ (stamp : ℕ). (stamp, p)) (range_with_len first count)

-- For each of the works that were to come after 1, 2 and more of `count` turns, but the last of them, some hands passed the gate, which was told how many
-- turns their process had made by then, where it had made so many before the first.
abbrev pub PassesBetween : (ℕ → ℕ → Type 0) → ℕ → ℕ → Type 0
PassesBetween has_passed turns count = (k : ℕ) → 1 ≤ k → k < count → (maker : ℕ) × has_passed maker (turns + k)

-- The turns of a burst, of which the first is made by this body, were made so.
abbrev pub PassesInBurst : {K : Type 0} → (ℕ → ℕ → Type 0) → BodyValue K → Burst → Type 0
PassesInBurst has_passed b (burst.Made first count) = PassesBetween has_passed b.process.turns count
PassesInBurst has_passed b (burst.Busy c word) = Unit {0}
PassesInBurst has_passed b (burst.Blocked block word) = Unit {0}
PassesInBurst has_passed b (burst.Over over) = Unit {0}

-- If turns were made it is one.
abbrev pub IsOneAtMost : Burst → Type 0
IsOneAtMost (burst.Made first count) = count ≡ 1
IsOneAtMost (burst.Busy c word) = Unit {0}
IsOneAtMost (burst.Blocked block word) = Unit {0}
IsOneAtMost (burst.Over over) = Unit {0}

module _ {K : Type 0} where
  -- The first of these turns, if there is one, is made by this body.
  abbrev pub BeginsWith : BodyValue K → List (Move K) → Type 0
  BeginsWith b [] = Unit {0}
  BeginsWith b (t ∷ turns) = t.body ≡ b

  -- The held body made these turns, one after another, as many as are told and as were asked for at most. They have the stamps from `first` on, which is
  -- above those of all turns that its worker had made; each is the machine's turn of its stamp, in the history in which those turns stand. The body in
  -- hand is the one that the machine has after them, or what its thought made of that. A turn of them that asks for a level is told the one in the word
  -- that the call read.
  pub record IsBurst (rules : Rules K) (n : ℕ) (start : NetValue K) (limit : ℕ) (h : Held K) (w : Worker K) (h' : Held K) (w' : Worker K) (first count : ℕ) : Type 0 where
    pub process : h'.process ≡ h.process
    pub turns : List (Move K)
    pub many : length turns ≡ count
    pub least : 1 ≤ count
    pub most : count ≤ limit
    pub begins : BeginsWith h.body turns
    pub machine : MachineTurns rules start (view w).made first (view w).held turns
    pub body : IsHeldAs rules h.process h'.body (all_turned (view w) first turns).held
    pub made : (view w').made ≡ (view w).made ++ turns_from h.process first count
    pub above : Below first (view w).made
    pub levels : All (λ (t : Move K). ToldLevel n t.body (view w) (view w') t.event) turns

  -- What holds of an answer: turns were made; or none was, for one of the reasons of a call for one turn.
  abbrev pub Bursts : Rules K → ℕ → ℕ → NetValue K → ℕ → Held K → Worker K → Held K → Worker K → Burst → Type 0
  Bursts rules n m start limit h w h' w' (burst.Made first count) = IsBurst rules n start limit h w h' w' first count
  Bursts rules n m start limit h w h' w' (burst.Busy c word) = Turns rules n m start h w h' w' (turned.Busy c word)
  Bursts rules n m start limit h w h' w' (burst.Blocked block word) = Turns rules n m start h w h' w' (turned.Blocked block word)
  Bursts rules n m start limit h w h' w' (burst.Over over) = Turns rules n m start h w h' w' (turned.Over over)
