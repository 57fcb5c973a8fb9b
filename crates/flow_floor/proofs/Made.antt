-- Whose turns are whose: after one turn more, and when one seat takes in the turns of another.
use Rattle.std.proofs.Common.{◌≡◌, ◌≢◌, ℕ, suc, ◌+◌, ◌<◌, ◌≤◌, true, false, Bool, List, [], ◌∷◌, ◌++◌, length, sym, refl, ap, ◌∙◌, subst, arith, append-nil, eq-eqb, ne_eqb, if◌then◌else◌, ◌==◌, All}
use Rattle.std.proofs.lemmas.Bool.{lt-ltb, le-ltb}
use mathlib.Core.Logic.{dite}
use native.Mathlib.Decide.{ℕ_discrete}
use Rattle.std.proofs.lemmas.List.Elements.{All-cons, All-head, All-nil, All-tail}
use Rattle.flow_machine.specs.Logs.{Logged}
use Rattle.flow_floor.specs.Made.{turns_by, numbered, insert, merge, renamed}

-- one turn more
pub turns_by-push : (j n i : ℕ) (by : List ℕ) (log : List Logged) (t : Logged) → length by ≡ length log
    → turns_by j n (by ++ i ∷ []) (log ++ t ∷ []) ≡ turns_by j n by log ++ (if j == i then (n + length log, t.process) ∷ [] else [])
turns_by-push j n i [] [] t len = let z : n ≡ n + 0 = omega arith in ap (λ k. if j == i then (k, t.process) ∷ [] else []) z
turns_by-push j n i [] (u ∷ log) t len = absurd (omega (arith, len))
turns_by-push j n i (h ∷ by) [] t len = absurd (omega (arith, len))
turns_by-push j n i (h ∷ by) (u ∷ log) t len =
    let r = turns_by-push j (n + 1) i by log t (omega (arith, len)) in
    let s : (n + 1) + length log ≡ n + suc (length log) = omega arith in
    go (j == h) (r ∙ ap (λ k. turns_by j (n + 1) by log ++ (if j == i then (k, t.process) ∷ [] else [])) s)
  where
    go : (b : Bool) → turns_by j (n + 1) (by ++ i ∷ []) (log ++ t ∷ []) ≡ turns_by j (n + 1) by log ++ (if j == i then (n + suc (length log), t.process) ∷ [] else [])
        → (if b then (n, u.process) ∷ turns_by j (n + 1) (by ++ i ∷ []) (log ++ t ∷ []) else turns_by j (n + 1) (by ++ i ∷ []) (log ++ t ∷ []))
        ≡ (if b then (n, u.process) ∷ turns_by j (n + 1) by log else turns_by j (n + 1) by log) ++ (if j == i then (n + suc (length log), t.process) ∷ [] else [])
    go true h = ap (λ l. (n, u.process) ∷ l) h
    go false h = h

-- A turn of a worker is one more of its turns, under the next stamp.
pub turns_by-mine : (j n : ℕ) (by : List ℕ) (log : List Logged) (t : Logged) → length by ≡ length log → turns_by j n (by ++ j ∷ []) (log ++ t ∷ []) ≡ turns_by j n by log ++ (n + length log, t.process) ∷ []
turns_by-mine j n by log t len = turns_by-push j n j by log t len ∙ ap (λ b. turns_by j n by log ++ (if b then (n + length log, t.process) ∷ [] else [])) (eq-eqb j j refl)

-- A turn of another worker changes none of its turns.
pub turns_by-else : (j n i : ℕ) (by : List ℕ) (log : List Logged) (t : Logged) → length by ≡ length log → j ≢ i → turns_by j n (by ++ i ∷ []) (log ++ t ∷ []) ≡ turns_by j n by log
turns_by-else j n i by log t len other = turns_by-push j n i by log t len ∙ (ap (λ b. turns_by j n by log ++ (if b then (n + length log, t.process) ∷ [] else [])) (ne_eqb j i other) ∙ append-nil (turns_by j n by log))

abbrev Above : ℕ → List (ℕ × ℕ) → Type 0
Above n [] = Unit {0}
Above n (e ∷ es) = (n < e.0) × Above n es

turns_by-above : (j n k : ℕ) (by : List ℕ) (log : List Logged) → k < n → Above k (turns_by j n by log)
turns_by-above j n k [] log l = tt
turns_by-above j n k (s ∷ by) [] l = tt
turns_by-above j n k (s ∷ by) (t ∷ log) l = go (j == s) (turns_by-above j (n + 1) k by log (omega arith))
  where
    go : (b : Bool) → Above k (turns_by j (n + 1) by log) → Above k (if b then (n, t.process) ∷ turns_by j (n + 1) by log else turns_by j (n + 1) by log)
    go true h = (l, h)
    go false h = h

insert_front : (n p : ℕ) (l : List (ℕ × ℕ)) → Above n l → insert (n, p) l ≡ (n, p) ∷ l
insert_front n p [] a = refl
insert_front n p (y ∷ ys) a = ap (λ b. if b then (n, p) ∷ y ∷ ys else y ∷ insert (n, p) ys) (lt-ltb n y.0 a.0)

merge_front : (n p : ℕ) (xs ys : List (ℕ × ℕ)) → Above n xs → merge xs ((n, p) ∷ ys) ≡ (n, p) ∷ merge xs ys
merge_front n p [] ys a = refl
merge_front n p (x ∷ xs) ys a = let h = a.0 in ap (insert x) (merge_front n p xs ys a.1) ∙ ap (λ b. if b then x ∷ (n, p) ∷ merge xs ys else (n, p) ∷ insert x (merge xs ys)) (le-ltb x.0 n (omega arith))

turns_by-head : (j n s : ℕ) (by : List ℕ) (t : Logged) (log : List Logged) → j ≡ s → turns_by j n (s ∷ by) (t ∷ log) ≡ (n, t.process) ∷ turns_by j (n + 1) by log
turns_by-head j n s by t log is = ap (λ b. if b then (n, t.process) ∷ turns_by j (n + 1) by log else turns_by j (n + 1) by log) (eq-eqb j s is)

turns_by-skip : (j n s : ℕ) (by : List ℕ) (t : Logged) (log : List Logged) → j ≢ s → turns_by j n (s ∷ by) (t ∷ log) ≡ turns_by j (n + 1) by log
turns_by-skip j n s by t log is = ap (λ b. if b then (n, t.process) ∷ turns_by j (n + 1) by log else turns_by j (n + 1) by log) (ne_eqb j s is)

name_here : (o i k : ℕ) → k ≡ o → (if k == o then i else k) ≡ i
name_here o i k e = ap (λ b. if b then i else k) (eq-eqb k o e)

name_else : (o i k : ℕ) → k ≢ o → (if k == o then i else k) ≡ k
name_else o i k e = ap (λ b. if b then i else k) (ne_eqb k o e)

-- The turns of two workers, merged in the order of their stamps, are those of one worker that made both.
pub merge-turns : (o i n : ℕ) (by : List ℕ) (log : List Logged) → o ≢ i → merge (turns_by o n by log) (turns_by i n by log) ≡ turns_by i n (renamed o i by) log
merge-turns o i n [] log other = refl
merge-turns o i n (s ∷ by) [] other = refl
merge-turns o i n (s ∷ by) (t ∷ log) other = let r = merge-turns o i (n + 1) by log other in let R = turns_by i (n + 1) (renamed o i by) log in let a = turns_by o (n + 1) by log in let b = turns_by i (n + 1) by log in
    let x : ℕ = if s == o then i else s in
    dite (ℕ_discrete s o)
    (λ is. let away : i ≢ s = λ z. other (sym (z ∙ is)) in
    ap (λ l. merge l (turns_by i n (s ∷ by) (t ∷ log))) (turns_by-head o n s by t log (sym is)) ∙ (ap (λ l. insert (n, t.process) (merge a l)) (turns_by-skip i n s by t log away) ∙ (ap (insert (n, t.process)) r
    ∙ (insert_front n t.process R (turns_by-above i (n + 1) n (renamed o i by) log (omega arith)) ∙ sym (turns_by-head i n x (renamed o i by) t log (sym (name_here o i s is)))))))
    (λ not_o. ap (λ l. merge l (turns_by i n (s ∷ by) (t ∷ log))) (turns_by-skip o n s by t log (λ z. not_o (sym z))) ∙ dite (ℕ_discrete s i)
    (λ is. ap (merge a) (turns_by-head i n s by t log (sym is)) ∙ (merge_front n t.process a b (turns_by-above o (n + 1) n by log (omega arith)) ∙ (ap (λ l. (n, t.process) ∷ l) r
    ∙ sym (turns_by-head i n x (renamed o i by) t log (sym (name_else o i s not_o ∙ is))))))
    (λ not_i. ap (merge a) (turns_by-skip i n s by t log (λ z. not_i (sym z))) ∙ (r ∙ sym (turns_by-skip i n x (renamed o i by) t log (λ z. not_i (sym (z ∙ name_else o i s not_o)))))))

-- The turns of every other worker stay.
pub turns_by-renamed_else : (o i j n : ℕ) (by : List ℕ) (log : List Logged) → j ≢ o → j ≢ i → turns_by j n (renamed o i by) log ≡ turns_by j n by log
turns_by-renamed_else o i j n [] log a b = refl
turns_by-renamed_else o i j n (s ∷ by) [] a b = refl
turns_by-renamed_else o i j n (s ∷ by) (t ∷ log) a b = let r = turns_by-renamed_else o i j (n + 1) by log a b in let x : ℕ = if s == o then i else s in
    dite (ℕ_discrete s o)
    (λ is. turns_by-skip j n x (renamed o i by) t log (λ z. b (z ∙ name_here o i s is)) ∙ (r ∙ sym (turns_by-skip j n s by t log (λ z. a (z ∙ is)))))
    (λ not_o. ap (λ k. if j == k then (n, t.process) ∷ turns_by j (n + 1) (renamed o i by) log else turns_by j (n + 1) (renamed o i by) log) (name_else o i s not_o)
    ∙ ap (λ l. if j == s then (n, t.process) ∷ l else l) r)

-- The worker that was merged into another has no turns left.
pub turns_by-renamed_gone : (o i n : ℕ) (by : List ℕ) (log : List Logged) → o ≢ i → turns_by o n (renamed o i by) log ≡ []
turns_by-renamed_gone o i n [] log other = refl
turns_by-renamed_gone o i n (s ∷ by) [] other = refl
turns_by-renamed_gone o i n (s ∷ by) (t ∷ log) other = turns_by-skip o n (if s == o then i else s) (renamed o i by) t log
    (λ z. dite (ℕ_discrete s o) (λ is. other (z ∙ name_here o i s is)) (λ not_o. not_o (sym (z ∙ name_else o i s not_o)))) ∙ turns_by-renamed_gone o i (n + 1) by log other

-- Renaming a worker keeps how many turns there are.
pub length-renamed : (o i : ℕ) (by : List ℕ) → length (renamed o i by) ≡ length by
length-renamed o i [] = refl
length-renamed o i (s ∷ by) = ap suc (length-renamed o i by)

-- Numbers stay below a bound when one of them is renamed to one below it.
pub below-renamed : (o i m : ℕ) (by : List ℕ) → i < m → All (λ (j : ℕ). j < m) by → All (λ (j : ℕ). j < m) (renamed o i by)
below-renamed o i m [] l h = All-nil (λ (j : ℕ). j < m)
below-renamed o i m (s ∷ by) l h =
    let below : ℕ → Type 0 = λ j. j < m in
    All-cons below (if s == o then i else s) (renamed o i by) (dite (ℕ_discrete s o) (λ is. subst below (sym (name_here o i s is)) l) (λ not_o. subst below (sym (name_else o i s not_o)) (All-head below s by h))) (below-renamed o i m by l (All-tail below s by h))

-- a seat that isn't there made no turn
pub turns_by-none : (j m n : ℕ) (by : List ℕ) (log : List Logged) → All (λ (s : ℕ). s < m) by → m ≤ j → turns_by j n by log ≡ []
turns_by-none j m n [] log all le = refl
turns_by-none j m n (s ∷ by) [] all le = refl
turns_by-none j m n (s ∷ by) (t ∷ log) all le = turns_by-skip j n s by t log (λ e. omega (arith, e, All-head (λ (i : ℕ). i < m) s by all, le)) ∙ turns_by-none j m (n + 1) by log (All-tail (λ (i : ℕ). i < m) s by all) le

-- where one seat made all turns, its list is the log
pub turns_by-all : (i m n : ℕ) (by : List ℕ) (log : List Logged) → length by ≡ length log → All (λ (j : ℕ). j < m) by → ((j : ℕ) → j < m → j ≢ i → turns_by j n by log ≡ []) → turns_by i n by log ≡ numbered n log
turns_by-all i m n [] [] len h none = refl
turns_by-all i m n [] (t ∷ log) len h none = absurd (omega (arith, len))
turns_by-all i m n (s ∷ by) [] len h none = absurd (omega (arith, len))
turns_by-all i m n (s ∷ by) (t ∷ log) len h none = dite (ℕ_discrete s i)
    (λ is. turns_by-head i n s by t log (sym is) ∙ ap (λ l. (n, t.process) ∷ l) (turns_by-all i m (n + 1) by log (omega (arith, len)) (All-tail (λ (j : ℕ). j < m) s by h) (λ j l other. sym (turns_by-skip j n s by t log (λ z. other (z ∙ is))) ∙ none j l other)))
    (λ other. absurd (let z : (n, t.process) ∷ turns_by s (n + 1) by log ≡ [] = sym (turns_by-head s n s by t log refl) ∙ none s (All-head (λ (j : ℕ). j < m) s by h) other in cc))
