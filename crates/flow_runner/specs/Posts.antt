-- What clauses say of the lines of a run, one for each worker, and of a worker's passes of them.
use Rattle.std.specs.Prelude.{◌≡◌, ◌≢◌, ◌==◌, ℕ, ◌+◌, ◌<◌, List, [], ◌∷◌, ◌++◌, All, Option, Some, None, cond, flat_map, get_or, length, map, nat_lt, sum_by}
use Rattle.flow_floor.specs.declared.floor.Floor.{Floor}
use Rattle.flow_floor.specs.Floors.{asked_of, readied_of, process_count, IsIdleAt}
use Rattle.flow_runner.specs.declared.line.LinePass.{LinePass}
use Rattle.flow_runner.specs.declared.lines.Post.{Post}
use Rattle.flow_runner.specs.declared.lines.Lines.{Lines}
use Rattle.flow_runner.specs.declared.server.Server.{Server}
use Rattle.flow_runner.specs.declared.watch.Watch.{Watch}
use Rattle.flow_runner.specs.Fair.{times}
use Rattle.flow_runner.specs.Lines.{line_room, pops_of, pushes_of, IsPassAt}
use Rattle.flow_runner.specs.Serving.{GrowAlike, KeepsPass, Pushes}

abbrev pub posts_of : Lines → List Post
posts_of lines = lines.posts.items

-- Each pass is one of the line with its number, and each line has one.
pub record ArePassesAt (posts : List Post) (passes : List LinePass) : Type 0 where
  pub count : length passes ≡ length posts
  pub each : (i : ℕ) (d : Post) (e : LinePass) → i < length posts → IsPassAt (get_or posts i d).line (get_or passes i e)

-- Of pops from several lines, each with the number of its line, those from line i.
abbrev pub popped_at : ℕ → List (ℕ × ℕ) → List ℕ
popped_at i [] = []
popped_at i (p ∷ popped) = cond (p.0 == i) (p.1 ∷ popped_at i popped) (popped_at i popped)

-- The processes that were popped, from whichever lines.
abbrev pub popped_from_all : List (ℕ × ℕ) → List ℕ
popped_from_all popped = map (λ (p : ℕ × ℕ). p.1) popped

-- By these passes those were popped that are listed, each with the number of its line, in order; and nothing was pushed.
pub record PopAll (posts : List Post) (ps : List LinePass) (popped : List (ℕ × ℕ)) (ps' : List LinePass) : Type 0 where
  pub count : length ps' ≡ length ps
  pub lines : All (λ (p : ℕ × ℕ). p.0 < length posts) popped
  pub passes : (i : ℕ) (d : Post) (e : LinePass) → i < length posts → KeepsPass (get_or posts i d).line (get_or ps i e) (get_or ps' i e)
  pub pops : (i : ℕ) (e : LinePass) → i < length posts → pops_of (get_or ps' i e) ≡ pops_of (get_or ps i e) ++ popped_at i popped
  pub pushes : (i : ℕ) (e : LinePass) → i < length posts → pushes_of (get_or ps' i e) ≡ pushes_of (get_or ps i e)

-- By these passes this process was popped from one of the lines; or nothing.
abbrev pub PopOne : List Post → List LinePass → Option ℕ → List LinePass → Type 0
PopOne posts ps None ps' = PopAll posts ps [] ps'
PopOne posts ps (Some process) ps' = (line : ℕ) × PopAll posts ps ((line, process) ∷ []) ps'

-- How often a process below n is among the first n, which is once.
abbrev pub once_below : ℕ → ℕ → ℕ
once_below n q = cond (nat_lt q n) 1 0

-- By these passes each of the first n processes was pushed once more, onto whichever line, and no other.
abbrev pub PushesEach : ℕ → List LinePass → List LinePass → Type 0
PushesEach n ps ps' = (q : ℕ) → sum_by (λ p. times q (pushes_of p)) ps' ≡ sum_by (λ p. times q (pushes_of p)) ps + once_below n q

-- The passes of all rows, one row after another.
abbrev pub passes_in : List (List LinePass) → List LinePass
passes_in rows = flat_map (λ (row : List LinePass). row) rows

-- Each line is for so many processes.
abbrev pub AreRoomFor : ℕ → List Post → Type 0
AreRoomFor processes posts = All (λ (p : Post). line_room p.line ≡ processes) posts

-- The watch is that of one of these posts, and knows as many.
abbrev pub Watches : List Post → Watch → Type 0
Watches posts watch = (watch.number < length posts) × (length watch.seen.items ≡ length posts)

module _ {K : Type 0} where
  abbrev pub AreLinesFor : Floor K → List Post → Type 0
  AreLinesFor floor posts = AreRoomFor (process_count floor) posts

  -- The server has a pass of each line, and one of them is its own.
  abbrev pub IsPosted : List Post → Server K → Type 0
  IsPosted posts s = ArePassesAt posts s.passes.items × Watches posts s.watch

  -- Its worker holds nothing of this floor, too.
  abbrev pub IsAtPosts : Floor K → List Post → Server K → Type 0
  IsAtPosts floor posts s = IsIdleAt floor s.worker × IsPosted posts s

  -- What the worker made ready meanwhile it pushed onto the line that is its own, in order; its passes of the other lines are as they were, and it popped
  -- nothing.
  pub record PushesHome (posts : List Post) (s s' : Server K) : Type 0 where
    pub home : s'.watch.number ≡ s.watch.number
    pub count : length s'.passes.items ≡ length s.passes.items
    pub pushes : (d : Post) (e : LinePass) → Pushes (get_or posts s.watch.number d).line s.worker (get_or s.passes.items s.watch.number e) s'.worker (get_or s'.passes.items s.watch.number e)
    pub others : (i : ℕ) (e : LinePass) → i ≢ s.watch.number → get_or s'.passes.items i e ≡ get_or s.passes.items i e

  -- What the worker asked for meanwhile is what it popped, from whichever lines, in order; and what it made ready is what it pushed onto the line that is its
  -- own, in order. Onto other lines it pushed nothing.
  pub record FollowsAll (posts : List Post) (s s' : Server K) : Type 0 where
    pub home : s'.watch.number ≡ s.watch.number
    pub count : length s'.passes.items ≡ length s.passes.items
    pub passes : (i : ℕ) (d : Post) (e : LinePass) → i < length posts → KeepsPass (get_or posts i d).line (get_or s.passes.items i e) (get_or s'.passes.items i e)
    pub popped : List (ℕ × ℕ)
    pub lines : All (λ (p : ℕ × ℕ). p.0 < length posts) popped
    pub asked : asked_of s'.worker ≡ asked_of s.worker ++ popped_from_all popped
    pub pops : (i : ℕ) (e : LinePass) → i < length posts → pops_of (get_or s'.passes.items i e) ≡ pops_of (get_or s.passes.items i e) ++ popped_at i popped
    pub readied : (e : LinePass) → GrowAlike (readied_of s.worker) (readied_of s'.worker) (pushes_of (get_or s.passes.items s.watch.number e)) (pushes_of (get_or s'.passes.items s.watch.number e))
    pub others : (i : ℕ) (e : LinePass) → i < length posts → i ≢ s.watch.number → pushes_of (get_or s'.passes.items i e) ≡ pushes_of (get_or s.passes.items i e)
