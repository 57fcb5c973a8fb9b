-- What a call of the line tells, of what the rule told at its step.
use Rattle.std.proofs.Common.{◌≡◌, ℕ, suc, ◌+◌, ◌<◌, ◌≤◌, List, [], ◌∷◌, ◌++◌, length, map, sym, refl, ap, ◌∙◌, arith, length-append, Option, Some, None}
use Rattle.std.specs.Prelude.{MatchOption, IsNone}
use Rattle.std.proofs.lemmas.List.{map-append}
use Rattle.flow_limits.specs.declared.TheConstants.{WORKER_LIMIT}
use Rattle.crossbeam_queue.specs.Fifo.{Held}
use Rattle.crossbeam_queue.specs.Passes.{view}
use Rattle.flow_runner.specs.declared.line.Hand.{Hand}
use Rattle.flow_runner.specs.declared.line.Line.{Line}
use Rattle.flow_runner.specs.declared.line.LinePass.{LinePass}
use Rattle.flow_runner.specs.Fair.{placed, Was, WasWith, Put, Taken}
use Rattle.flow_runner.specs.Lines.{line_room, processes_at, pops_of, puts_of, pushes_of, takes_of, KnowsTheSame, WasEmpty, WasFirst, WasLast}
use Rattle.flow_runner.proofs.Places.{placed-same}
use Rattle.flow_runner.proofs.Fairs.{alone, alone-leaves, puts-below, room-of, takes-below}

more-names : (xs : List (ℕ × ℕ)) (place q : ℕ) → map (λ (s : ℕ × ℕ). s.1) (xs ++ (place, q) ∷ []) ≡ map (λ (s : ℕ × ℕ). s.1) xs ++ q ∷ []
more-names xs place q = map-append (λ (s : ℕ × ℕ). s.1) xs ((place, q) ∷ [])

-- A line that holds none holds no list but the empty one.
none-held : (v : Hand) → Held 0 (WasWith v) → (gone : List ℕ) × Was v gone []
none-held v ([], none_there, was) = was
none-held v (x ∷ items, none_there, was) = absurd (omega (arith, none_there))

-- What a push tells.
pub put-tells : (line : Line) (p p' : LinePass) (q : ℕ) → (view p.pass).most ≡ line_room line → Put (view p.pass) q (view p'.pass) → (pushes_of p' ≡ pushes_of p ++ q ∷ []) × (pops_of p' ≡ pops_of p) × WasLast line q p p'
put-tells line p p' q most h = (
  ap (λ (u : Hand). processes_at u.put) h.3 ∙ more-names (puts_of p) (length (h.0 ++ h.1)) q,
  ap (λ (u : Hand). processes_at u.taken) h.3,
  record {
    gone = h.0;
    items = h.1;
    before = h.4;
    after = h.5;
    room = omega (arith, h.2, most);
    puts = ap (λ (u : Hand). u.put) h.3;
    takes = ap (λ (u : Hand). u.taken) h.3;
    behind = (puts-below (view p.pass) h.0 h.1 h.4, takes-below (view p.pass) h.0 h.1 (length (h.0 ++ h.1)) (omega (arith, length-append h.0 h.1)) h.4);
  },
)

-- What an answer to a pop tells.
pub popped-tells : (line : Line) (p p' : LinePass) (o : Option ℕ) → (view p.pass).most ≡ line_room line → MatchOption o ((view p'.pass ≡ view p.pass) × Held 0 (WasWith (view p.pass))) (λ x. Taken (view p.pass) x (view p'.pass))
    → MatchOption o ((pushes_of p' ≡ pushes_of p) × (pops_of p' ≡ pops_of p) × WasEmpty line p) (λ q. (q < line_room line) × (pushes_of p' ≡ pushes_of p) × (pops_of p' ≡ pops_of p ++ q ∷ []) × WasFirst line q p p')
popped-tells line p p' None most h = (ap (λ (u : Hand). processes_at u.put) h.0, ap (λ (u : Hand). processes_at u.taken) h.0, none-held (view p.pass) h.1)
popped-tells line p p' (Some q) most h = (
  omega (arith, h.2, most),
  ap (λ (u : Hand). processes_at u.put) h.3,
  ap (λ (u : Hand). processes_at u.taken) h.3 ∙ more-names (takes_of p) (length h.0) q,
  record {
    gone = h.0;
    items = h.1;
    before = h.4;
    after = h.5;
    takes = ap (λ (u : Hand). u.taken) h.3;
    puts = ap (λ (u : Hand). u.put) h.3;
    behind = takes-below (view p.pass) h.0 (q ∷ h.1) (length h.0) (omega arith) h.4;
  },
)

-- A pop that gave nothing left the pass as it was.
pub popped-kept : (p p' : LinePass) (o : Option ℕ) → MatchOption o ((view p'.pass ≡ view p.pass) × Held 0 (WasWith (view p.pass))) (λ x. Taken (view p.pass) x (view p'.pass)) → IsNone o → KnowsTheSame p p'
popped-kept p p' None h none = h.0
popped-kept p p' (Some q) h none = absurd (cc)

-- What it tells the only pass.
pub popped-alone : (o : Option ℕ) (v w : Hand) → MatchOption o ((w ≡ v) × Held 0 (WasWith v)) (λ x. Taken v x w) → v.parts ≡ WORKER_LIMIT
    → MatchOption o (map (λ (s : ℕ × ℕ). s.1) v.put ≡ map (λ (s : ℕ × ℕ). s.1) v.taken ++ []) (λ q. (items : List ℕ) × (map (λ (s : ℕ × ℕ). s.1) v.put ≡ map (λ (s : ℕ × ℕ). s.1) v.taken ++ q ∷ items))
popped-alone None v w h all = (let n = none-held v h.1 in alone-leaves v n.0 [] n.1 all)
popped-alone (Some q) v w h all = (h.1, alone-leaves v h.0 (q ∷ h.1) h.4 all)

-- What the only pass popped up to now goes on with what it pops.
pub taken-next : (v w : Hand) (x : ℕ) (before : List ℕ) → Taken v x w → v.parts ≡ WORKER_LIMIT → v.taken ≡ placed 0 before → w.taken ≡ placed 0 (before ++ x ∷ [])
taken-next v w x before h all is =
    let now = alone w (h.0 ++ x ∷ []) h.1 h.5 (ap (λ (u : Hand). u.parts) h.3 ∙ all) in
    let same : h.0 ≡ before = placed-same h.0 before (sym (alone v h.0 (x ∷ h.1) h.4 all).1 ∙ is) in now.1 ∙ ap (λ l. placed 0 (l ++ x ∷ [])) same

length-placed : (n : ℕ) (xs : List ℕ) → length (placed n xs) ≡ length xs
length-placed n [] = refl
length-placed n (x ∷ xs) = ap suc (length-placed (n + 1) xs)

-- It has popped what it has popped, and fewer than it has pushed where it pops one more.
pub taken-fewer : (v w : Hand) (x : ℕ) (before : List ℕ) → Taken v x w → v.parts ≡ WORKER_LIMIT → v.taken ≡ placed 0 before → length before < length v.put
taken-fewer v w x before h all is =
    let a = alone v h.0 (x ∷ h.1) h.4 all in
    omega (arith, ap (λ l. length l) a.0, length-placed 0 (h.0 ++ (x ∷ h.1)), length-append h.0 (x ∷ h.1), ap (λ l. length l) a.1, length-placed 0 h.0, ap (λ l. length l) is, length-placed 0 before)

-- Where the line is empty the only pass has popped what it pushed.
pub none-left : (v : Hand) → Held 0 (WasWith v) → v.parts ≡ WORKER_LIMIT → v.put ≡ v.taken
none-left v h all = let n = none-held v h in let a = alone v n.0 [] n.1 all in a.0 ∙ ap (λ l. placed 0 l) (append-none n.0) ∙ sym a.1
  where
    append-none : (xs : List ℕ) → xs ++ [] ≡ xs
    append-none [] = refl
    append-none (x ∷ xs) = ap (λ l. x ∷ l) (append-none xs)

-- What the only pass popped, and that it pushed no more than so many beyond.
pub few-left : (v : Hand) → ((items : List ℕ) × WasWith v items) → v.parts ≡ WORKER_LIMIT → (gone : List ℕ) × (v.taken ≡ placed 0 gone) × (length v.put ≤ length gone + v.most)
few-left v (items, (gone, was)) all =
    let a = alone v gone items was all in
    let r = room-of v gone items was (omega (arith, all)) in
    (gone, a.1, omega (arith, ap (λ l. length l) a.0, length-placed 0 (gone ++ items), length-append gone items, r))
