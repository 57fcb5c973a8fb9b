-- What a worker that serves a line has done: what it asked for is what it popped, and what it made ready is what it pushed.
use Rattle.std.specs.Prelude.{◌≡◌, ℕ, ◌<◌, List, ◌++◌, All, map, Option, Some, None}
use Rattle.flow_floor.specs.declared.floor.Floor.{Floor}
use Rattle.flow_floor.specs.declared.floor.Worker.{Worker}
use Rattle.flow_floor.specs.Floors.{asked_of, readied_of, process_count, HasReadZero}
use Rattle.flow_runner.specs.declared.line.Line.{Line}
use Rattle.flow_runner.specs.declared.line.LinePass.{LinePass}
use Rattle.flow_runner.specs.declared.readied.Unpushed.{Unpushed}
use Rattle.flow_runner.specs.declared.server.Server.{Server}
use Rattle.flow_runner.specs.Attempts.{HasMade, HasSpent}
use Rattle.flow_runner.specs.Lines.{line_room, parts_of, pops_of, pushes_of, IsPassAt}

-- Two lists grew by the same.
pub record GrowAlike (xs xs' ys ys' : List ℕ) : Type 0 where
  pub more : List ℕ
  pub first : xs' ≡ xs ++ more
  pub second : ys' ≡ ys ++ more

-- The processes that a worker made ready and hasn't pushed yet, in order.
abbrev pub names_of : Unpushed → List ℕ
names_of unpushed = unpushed.names.items

-- All these may stand in the line.
abbrev pub MayStandIn : Line → List ℕ → Type 0
MayStandIn line names = All (λ q. q < line_room line) names

-- The pass is still the line's, and the same part of it.
abbrev pub KeepsPass : Line → LinePass → LinePass → Type 0
KeepsPass line p p' = IsPassAt line p' × (parts_of p' ≡ parts_of p)

module _ {K : Type 0} where
  -- The line is for as many processes as the floor has.
  abbrev pub IsLineFor : Floor K → Line → Type 0
  IsLineFor floor line = line_room line ≡ process_count floor

  -- What the worker asked for meanwhile is what it popped by this pass, and what it made ready is what it pushed, in order.
  pub record Follows (line : Line) (w : Worker K) (p : LinePass) (w' : Worker K) (p' : LinePass) : Type 0 where
    pub pass : KeepsPass line p p'
    pub asked : GrowAlike (asked_of w) (asked_of w') (pops_of p) (pops_of p')
    pub readied : GrowAlike (readied_of w) (readied_of w') (pushes_of p) (pushes_of p')

  -- It popped nothing, and what it made ready meanwhile it pushed, in order.
  pub record Pushes (line : Line) (w : Worker K) (p : LinePass) (w' : Worker K) (p' : LinePass) : Type 0 where
    pub pass : KeepsPass line p p'
    pub popped : pops_of p' ≡ pops_of p
    pub readied : GrowAlike (readied_of w) (readied_of w') (pushes_of p) (pushes_of p')

  -- It popped nothing. What it hadn't pushed before, and then what it made ready meanwhile, it pushed, in order, but for the last of them, which it hasn't
  -- pushed now.
  pub record PushesBut (line : Line) (w : Worker K) (p : LinePass) (left : List ℕ) (w' : Worker K) (p' : LinePass) (left' : List ℕ) : Type 0 where
    pub pass : KeepsPass line p p'
    pub popped : pops_of p' ≡ pops_of p
    pub more : List ℕ
    pub readied : readied_of w' ≡ readied_of w ++ more
    pub pushed : pushes_of p' ++ left' ≡ (pushes_of p ++ left) ++ more

  -- A worker has served: it has read 0; or it has made all turns that it was to make, where that is a number. It made no more.
  abbrev pub HasServed : Option ℕ → Worker K → Worker K → Type 0
  HasServed None old new = HasReadZero new
  HasServed (Some budget) old new = HasSpent budget old new

  -- The same of a worker that was new.
  abbrev pub HasDone : Option ℕ → Worker K → Type 0
  HasDone None w = HasReadZero w
  HasDone (Some budget) w = HasMade budget w

  -- The workers of these servers.
  abbrev pub workers_at : List (Server K) → List (Worker K)
  workers_at servers = map (λ (s : Server K). s.worker) servers
