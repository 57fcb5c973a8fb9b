-- Turns by their stamps, and whose they are: each is a stamp with a process.
use Rattle.std.specs.Prelude.{ℕ, ◌+◌, ◌<◌, ◌==◌, if◌then◌else◌, List, [], ◌∷◌, nat_lt}
use Rattle.flow_machine.specs.Logs.{Logged}

-- The turns of seat j, each with its stamp and its process, where these are the seats of the turns and the first stamp is n.
abbrev pub turns_by : ℕ → ℕ → List ℕ → List Logged → List (ℕ × ℕ)
turns_by j n [] log = []
turns_by j n (i ∷ seats) [] = []
turns_by j n (i ∷ seats) (turn ∷ log) = if j == i then (n, turn.process) ∷ turns_by j (n + 1) seats log else turns_by j (n + 1) seats log

-- All of these turns, the first of which has stamp n, each with its stamp and its process.
abbrev pub numbered : ℕ → List Logged → List (ℕ × ℕ)
numbered n [] = []
numbered n (turn ∷ log) = (n, turn.process) ∷ numbered (n + 1) log

-- Each stamp is below n.
abbrev pub Below : ℕ → List (ℕ × ℕ) → Type 0
Below n [] = Unit {0}
Below n (turn ∷ turns) = (turn.0 < n) × Below n turns

-- A turn among others, at its place by its stamp.
abbrev pub insert : ℕ × ℕ → List (ℕ × ℕ) → List (ℕ × ℕ)
insert x [] = x ∷ []
insert x (y ∷ ys) = if nat_lt x.0 y.0 then x ∷ y ∷ ys else y ∷ insert x ys

-- The turns of both, in the order of their stamps.
abbrev pub merge : List (ℕ × ℕ) → List (ℕ × ℕ) → List (ℕ × ℕ)
merge [] ys = ys
merge (x ∷ xs) ys = insert x (merge xs ys)

-- The seats of the turns, where those of seat o are given to seat i.
abbrev pub renamed : ℕ → ℕ → List ℕ → List ℕ
renamed o i [] = []
renamed o i (k ∷ ks) = (if k == o then i else k) ∷ renamed o i ks
