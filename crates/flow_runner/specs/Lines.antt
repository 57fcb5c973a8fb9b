-- What clauses say of the ready line and of its passes.
use Rattle.flow_limits.specs.declared.TheConstants.{WORKER_LIMIT}
use Rattle.std.specs.Prelude.{◌≡◌, ℕ, ◌<◌, List, [], ◌∷◌, ◌++◌, All, length, map, sum_by}
use Rattle.crossbeam_queue.specs.Passes.{view, IsPassOf}
use Rattle.flow_floor.specs.Made.{Below}
use Rattle.flow_runner.specs.declared.line.Line.{Line}
use Rattle.flow_runner.specs.declared.line.LinePass.{LinePass}
use Rattle.flow_runner.specs.Crews.{merged}
use Rattle.flow_runner.specs.Fair.{placed, Was}

-- For how many processes the line is, which is how many numbers it has room for.
abbrev pub line_room : Line → ℕ
line_room line = line.processes

-- What the pass has pushed, and what it has popped, each with its place: how many processes all passes had pushed before it, or had popped.
abbrev pub puts_of : LinePass → List (ℕ × ℕ)
puts_of p = (view p.pass).put

abbrev pub takes_of : LinePass → List (ℕ × ℕ)
takes_of p = (view p.pass).taken

-- The processes alone.
abbrev pub processes_at : List (ℕ × ℕ) → List ℕ
processes_at places = map (λ (s : ℕ × ℕ). s.1) places

-- What the pass has pushed, and what it has popped.
abbrev pub pushes_of : LinePass → List ℕ
pushes_of p = processes_at (puts_of p)

abbrev pub pops_of : LinePass → List ℕ
pops_of p = processes_at (takes_of p)

-- What these passes together have pushed, and what they have popped, in the order of the places.
abbrev pub all_puts : List LinePass → List (ℕ × ℕ)
all_puts ps = merged (map puts_of ps)

abbrev pub all_takes : List LinePass → List (ℕ × ℕ)
all_takes ps = merged (map takes_of ps)

abbrev pub parts_of : LinePass → ℕ
parts_of p = (view p.pass).parts

-- The pass is one of this line's.
abbrev pub IsPassAt : Line → LinePass → Type 0
IsPassAt line p = IsPassOf line.queue p.pass × (0 < parts_of p) × ((view p.pass).most ≡ line_room line)

-- It has pushed and popped nothing.
abbrev pub IsNewPass : LinePass → Type 0
IsNewPass p = (pushes_of p ≡ []) × (pops_of p ≡ [])

-- It is the only one: its line was opened for one worker.
abbrev pub IsAlone : LinePass → Type 0
IsAlone p = parts_of p ≡ WORKER_LIMIT

-- What the pass has pushed is what it has popped, and behind that these, all in order.
abbrev pub Leaves : LinePass → List ℕ → Type 0
Leaves p items = pushes_of p ≡ pops_of p ++ items

-- These are all passes of the line.
abbrev pub AreAllPasses : Line → List LinePass → Type 0
AreAllPasses line ps = All (IsPassAt line) ps × (sum_by parts_of ps ≡ WORKER_LIMIT)

-- All that these passes popped is, in the order of the places, the first that was pushed, and the second, and so on; and behind it were pushed these.
abbrev pub LeaveInOrder : List LinePass → List ℕ → Type 0
LeaveInOrder ps items = (gone : List ℕ) × (all_takes ps ≡ placed 0 gone) × (all_puts ps ≡ placed 0 (gone ++ items))

-- The pass knows what it knew.
abbrev pub KnowsTheSame : LinePass → LinePass → Type 0
KnowsTheSame p p' = view p'.pass ≡ view p.pass

-- Up to one moment of the call all passes together had popped `gone`, in this order, and then the line held `items`, the oldest first; what this pass had
-- pushed and popped was part of it. There was room, and the number was put behind them all: its place is how many they were, popped or not. So it is behind
-- all that this pass had pushed and popped before.
pub record WasLast (line : Line) (q : ℕ) (p p' : LinePass) : Type 0 where
  pub gone : List ℕ
  pub items : List ℕ
  pub before : Was (view p.pass) gone items
  pub after : Was (view p'.pass) gone (items ++ q ∷ [])
  pub room : length items < line_room line
  pub puts : puts_of p' ≡ puts_of p ++ (length (gone ++ items), q) ∷ []
  pub takes : takes_of p' ≡ takes_of p
  pub behind : Below (length (gone ++ items)) (puts_of p) × Below (length (gone ++ items)) (takes_of p)

-- Up to one moment of the call all passes together had popped `gone`, in this order, and then the line held the number and behind it `items`. It was
-- popped: its place is how many were popped before. So it is behind all that this pass had popped.
pub record WasFirst (line : Line) (q : ℕ) (p p' : LinePass) : Type 0 where
  pub gone : List ℕ
  pub items : List ℕ
  pub before : Was (view p.pass) gone (q ∷ items)
  pub after : Was (view p'.pass) (gone ++ q ∷ []) items
  pub takes : takes_of p' ≡ takes_of p ++ (length gone, q) ∷ []
  pub puts : puts_of p' ≡ puts_of p
  pub behind : Below (length gone) (takes_of p)

-- At one moment of the call the line held as many as processes; none.
abbrev pub WasFull : Line → LinePass → Type 0
WasFull line p = (gone : List ℕ) × (items : List ℕ) × (length items ≡ line_room line) × Was (view p.pass) gone items

abbrev pub WasEmpty : Line → LinePass → Type 0
WasEmpty line p = (gone : List ℕ) × Was (view p.pass) gone []
