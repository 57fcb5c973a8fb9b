-- Processes with their places: whose are whose after one more, and when one pass takes in what another has.
use Rattle.std.proofs.Common.{◌≡◌, ◌≢◌, ℕ, suc, ◌+◌, ◌<◌, ◌≤◌, true, false, Bool, List, [], ◌∷◌, ◌++◌, length, map, sym, refl, ap, ◌∙◌, arith, append-nil, eq-eqb, ne_eqb, if◌then◌else◌, ◌==◌, All}
use Rattle.std.proofs.lemmas.Bool.{lt-ltb, le-ltb}
use mathlib.Core.Logic.{dite}
use native.Mathlib.Decide.{ℕ_discrete}
use Rattle.std.proofs.lemmas.List.Elements.{All-cons, All-head, All-nil, All-tail, All-weaker}
use Rattle.flow_floor.specs.Made.{Below, insert, merge, renamed}
use Rattle.flow_runner.specs.Fair.{placed, placed_by}
use Rattle.flow_runner.specs.Orders.{Rise}

-- one more
placed_by-push : (j n i : ℕ) (by : List ℕ) (qs : List ℕ) (q : ℕ) → length by ≡ length qs → placed_by j n (by ++ i ∷ []) (qs ++ q ∷ []) ≡ placed_by j n by qs ++ (if j == i then (n + length qs, q) ∷ [] else [])
placed_by-push j n i [] [] q len = let z : n ≡ n + 0 = omega arith in ap (λ k. if j == i then (k, q) ∷ [] else []) z
placed_by-push j n i [] (u ∷ qs) q len = absurd (omega (arith, len))
placed_by-push j n i (h ∷ by) [] q len = absurd (omega (arith, len))
placed_by-push j n i (h ∷ by) (u ∷ qs) q len =
    let r = placed_by-push j (n + 1) i by qs q (omega (arith, len)) in
    let s : (n + 1) + length qs ≡ n + suc (length qs) = omega arith in
    go (j == h) (r ∙ ap (λ k. placed_by j (n + 1) by qs ++ (if j == i then (k, q) ∷ [] else [])) s)
  where
    go : (b : Bool) → placed_by j (n + 1) (by ++ i ∷ []) (qs ++ q ∷ []) ≡ placed_by j (n + 1) by qs ++ (if j == i then (n + suc (length qs), q) ∷ [] else [])
        → (if b then (n, u) ∷ placed_by j (n + 1) (by ++ i ∷ []) (qs ++ q ∷ []) else placed_by j (n + 1) (by ++ i ∷ []) (qs ++ q ∷ []))
        ≡ (if b then (n, u) ∷ placed_by j (n + 1) by qs else placed_by j (n + 1) by qs) ++ (if j == i then (n + suc (length qs), q) ∷ [] else [])
    go true h = ap (λ l. (n, u) ∷ l) h
    go false h = h

-- One more of a pass is one more of its own, at the next place.
placed_by-mine : (j n : ℕ) (by : List ℕ) (qs : List ℕ) (q : ℕ) → length by ≡ length qs → placed_by j n (by ++ j ∷ []) (qs ++ q ∷ []) ≡ placed_by j n by qs ++ (n + length qs, q) ∷ []
placed_by-mine j n by qs q len = placed_by-push j n j by qs q len ∙ ap (λ b. placed_by j n by qs ++ (if b then (n + length qs, q) ∷ [] else [])) (eq-eqb j j refl)

-- What a pass pushes next is its own at the place behind all.
pub placed_by-next : (j : ℕ) (by : List ℕ) (qs : List ℕ) (q : ℕ) → length by ≡ length qs → placed_by j 0 by qs ++ (length qs, q) ∷ [] ≡ placed_by j 0 (by ++ j ∷ []) (qs ++ q ∷ [])
placed_by-next j by qs q len = let same : length qs ≡ 0 + length qs = omega arith in ap (λ k. placed_by j 0 by qs ++ (k, q) ∷ []) same ∙ sym (placed_by-mine j 0 by qs q len)

-- One more of another pass is none of its own.
pub placed_by-else : (j n i : ℕ) (by : List ℕ) (qs : List ℕ) (q : ℕ) → length by ≡ length qs → j ≢ i → placed_by j n (by ++ i ∷ []) (qs ++ q ∷ []) ≡ placed_by j n by qs
placed_by-else j n i by qs q len other = placed_by-push j n i by qs q len ∙ (ap (λ b. placed_by j n by qs ++ (if b then (n + length qs, q) ∷ [] else [])) (ne_eqb j i other) ∙ append-nil (placed_by j n by qs))

-- No place is before n.
pub placed_by-from : (j n : ℕ) (by qs : List ℕ) → All (λ (s : ℕ × ℕ). n ≤ s.0) (placed_by j n by qs)
placed_by-from j n [] qs = All-nil (λ (s : ℕ × ℕ). n ≤ s.0)
placed_by-from j n (i ∷ by) [] = All-nil (λ (s : ℕ × ℕ). n ≤ s.0)
placed_by-from j n (i ∷ by) (q ∷ qs) = go (j == i) (All-weaker (λ (s : ℕ × ℕ). n + 1 ≤ s.0) (λ (s : ℕ × ℕ). n ≤ s.0) (λ s le. omega (arith, le)) (placed_by j (n + 1) by qs) (placed_by-from j (n + 1) by qs))
  where
    go : (b : Bool) → All (λ (s : ℕ × ℕ). n ≤ s.0) (placed_by j (n + 1) by qs) → All (λ (s : ℕ × ℕ). n ≤ s.0) (if b then (n, q) ∷ placed_by j (n + 1) by qs else placed_by j (n + 1) by qs)
    go true h = All-cons (λ (s : ℕ × ℕ). n ≤ s.0) (n, q) (placed_by j (n + 1) by qs) (omega arith) h
    go false h = h

-- All places are behind n.
abbrev Above : ℕ → List (ℕ × ℕ) → Type 0
Above n places = All (λ (s : ℕ × ℕ). n < s.0) places

placed_by-above : (j n k : ℕ) (by qs : List ℕ) → k < n → Above k (placed_by j n by qs)
placed_by-above j n k by qs lt = All-weaker (λ (s : ℕ × ℕ). n ≤ s.0) (λ (s : ℕ × ℕ). k < s.0) (λ s le. omega (arith, le, lt)) (placed_by j n by qs) (placed_by-from j n by qs)

-- Each place is below the number of all.
pub placed_by-below : (j n m : ℕ) (by qs : List ℕ) → n + length qs ≤ m → Below m (placed_by j n by qs)
placed_by-below j n m [] qs le = tt
placed_by-below j n m (i ∷ by) [] le = tt
placed_by-below j n m (i ∷ by) (q ∷ qs) le = go (j == i) (placed_by-below j (n + 1) m by qs (omega (arith, le)))
  where
    go : (b : Bool) → Below m (placed_by j (n + 1) by qs) → Below m (if b then (n, q) ∷ placed_by j (n + 1) by qs else placed_by j (n + 1) by qs)
    go true h = (omega (arith, le), h)
    go false h = h

-- The places rise.
pub placed_by-rise : (j n : ℕ) (by qs : List ℕ) → Rise (placed_by j n by qs)
placed_by-rise j n [] qs = tt
placed_by-rise j n (i ∷ by) [] = tt
placed_by-rise j n (i ∷ by) (q ∷ qs) = go (j == i) (placed_by-rise j (n + 1) by qs)
  where
    go : (b : Bool) → Rise (placed_by j (n + 1) by qs) → Rise (if b then (n, q) ∷ placed_by j (n + 1) by qs else placed_by j (n + 1) by qs)
    go true h = (placed_by-above j (n + 1) n by qs (omega arith), h)
    go false h = h

insert_front : (n q : ℕ) (l : List (ℕ × ℕ)) → Above n l → insert (n, q) l ≡ (n, q) ∷ l
insert_front n q [] a = refl
insert_front n q (y ∷ ys) a = ap (λ b. if b then (n, q) ∷ y ∷ ys else y ∷ insert (n, q) ys) (lt-ltb n y.0 (All-head (λ (s : ℕ × ℕ). n < s.0) y ys a))

merge_front : (n q : ℕ) (xs ys : List (ℕ × ℕ)) → Above n xs → merge xs ((n, q) ∷ ys) ≡ (n, q) ∷ merge xs ys
merge_front n q [] ys a = refl
merge_front n q (x ∷ xs) ys a =
    let h = All-head (λ (s : ℕ × ℕ). n < s.0) x xs a in
    ap (insert x) (merge_front n q xs ys (All-tail (λ (s : ℕ × ℕ). n < s.0) x xs a)) ∙ ap (λ b. if b then x ∷ (n, q) ∷ merge xs ys else (n, q) ∷ insert x (merge xs ys)) (le-ltb x.0 n (omega (arith, h)))

placed_by-head : (j n s : ℕ) (by : List ℕ) (q : ℕ) (qs : List ℕ) → j ≡ s → placed_by j n (s ∷ by) (q ∷ qs) ≡ (n, q) ∷ placed_by j (n + 1) by qs
placed_by-head j n s by q qs is = ap (λ b. if b then (n, q) ∷ placed_by j (n + 1) by qs else placed_by j (n + 1) by qs) (eq-eqb j s is)

placed_by-skip : (j n s : ℕ) (by : List ℕ) (q : ℕ) (qs : List ℕ) → j ≢ s → placed_by j n (s ∷ by) (q ∷ qs) ≡ placed_by j (n + 1) by qs
placed_by-skip j n s by q qs is = ap (λ b. if b then (n, q) ∷ placed_by j (n + 1) by qs else placed_by j (n + 1) by qs) (ne_eqb j s is)

name_here : (o i k : ℕ) → k ≡ o → (if k == o then i else k) ≡ i
name_here o i k e = ap (λ b. if b then i else k) (eq-eqb k o e)

name_else : (o i k : ℕ) → k ≢ o → (if k == o then i else k) ≡ k
name_else o i k e = ap (λ b. if b then i else k) (ne_eqb k o e)

-- What two passes have, merged in the order of the places, is what one has that took in the other.
pub merge-placed : (o i n : ℕ) (by qs : List ℕ) → o ≢ i → merge (placed_by o n by qs) (placed_by i n by qs) ≡ placed_by i n (renamed o i by) qs
merge-placed o i n [] qs other = refl
merge-placed o i n (s ∷ by) [] other = refl
merge-placed o i n (s ∷ by) (q ∷ qs) other = let r = merge-placed o i (n + 1) by qs other in let R = placed_by i (n + 1) (renamed o i by) qs in let a = placed_by o (n + 1) by qs in let b = placed_by i (n + 1) by qs in
    let x : ℕ = if s == o then i else s in
    dite (ℕ_discrete s o)
    (λ is. let away : i ≢ s = λ z. other (sym (z ∙ is)) in
    ap (λ l. merge l (placed_by i n (s ∷ by) (q ∷ qs))) (placed_by-head o n s by q qs (sym is)) ∙ (ap (λ l. insert (n, q) (merge a l)) (placed_by-skip i n s by q qs away) ∙ (ap (insert (n, q)) r
    ∙ (insert_front n q R (placed_by-above i (n + 1) n (renamed o i by) qs (omega arith)) ∙ sym (placed_by-head i n x (renamed o i by) q qs (sym (name_here o i s is)))))))
    (λ not_o. ap (λ l. merge l (placed_by i n (s ∷ by) (q ∷ qs))) (placed_by-skip o n s by q qs (λ z. not_o (sym z))) ∙ dite (ℕ_discrete s i)
    (λ is. ap (merge a) (placed_by-head i n s by q qs (sym is)) ∙ (merge_front n q a b (placed_by-above o (n + 1) n by qs (omega arith)) ∙ (ap (λ l. (n, q) ∷ l) r
    ∙ sym (placed_by-head i n x (renamed o i by) q qs (sym (name_else o i s not_o ∙ is))))))
    (λ not_i. ap (merge a) (placed_by-skip i n s by q qs (λ z. not_i (sym z))) ∙ (r ∙ sym (placed_by-skip i n x (renamed o i by) q qs (λ z. not_i (sym (z ∙ name_else o i s not_o)))))))

-- What every other pass has stays.
pub placed_by-renamed_else : (o i j n : ℕ) (by qs : List ℕ) → j ≢ o → j ≢ i → placed_by j n (renamed o i by) qs ≡ placed_by j n by qs
placed_by-renamed_else o i j n [] qs a b = refl
placed_by-renamed_else o i j n (s ∷ by) [] a b = refl
placed_by-renamed_else o i j n (s ∷ by) (q ∷ qs) a b = let r = placed_by-renamed_else o i j (n + 1) by qs a b in let x : ℕ = if s == o then i else s in
    dite (ℕ_discrete s o)
    (λ is. placed_by-skip j n x (renamed o i by) q qs (λ z. b (z ∙ name_here o i s is)) ∙ (r ∙ sym (placed_by-skip j n s by q qs (λ z. a (z ∙ is)))))
    (λ not_o. ap (λ k. if j == k then (n, q) ∷ placed_by j (n + 1) (renamed o i by) qs else placed_by j (n + 1) (renamed o i by) qs) (name_else o i s not_o)
    ∙ ap (λ l. if j == s then (n, q) ∷ l else l) r)

-- The pass that was taken in by another has nothing left.
pub placed_by-renamed_gone : (o i n : ℕ) (by qs : List ℕ) → o ≢ i → placed_by o n (renamed o i by) qs ≡ []
placed_by-renamed_gone o i n [] qs other = refl
placed_by-renamed_gone o i n (s ∷ by) [] other = refl
placed_by-renamed_gone o i n (s ∷ by) (q ∷ qs) other = placed_by-skip o n (if s == o then i else s) (renamed o i by) q qs
    (λ z. dite (ℕ_discrete s o) (λ is. other (z ∙ name_here o i s is)) (λ not_o. not_o (sym (z ∙ name_else o i s not_o)))) ∙ placed_by-renamed_gone o i (n + 1) by qs other

-- A pass that isn't there has nothing.
pub placed_by-none : (j m n : ℕ) (by qs : List ℕ) → All (λ (s : ℕ). s < m) by → m ≤ j → placed_by j n by qs ≡ []
placed_by-none j m n [] qs all le = refl
placed_by-none j m n (s ∷ by) [] all le = refl
placed_by-none j m n (s ∷ by) (q ∷ qs) all le = placed_by-skip j n s by q qs (λ e. omega (arith, e, All-head (λ (i : ℕ). i < m) s by all, le)) ∙ placed_by-none j m (n + 1) by qs (All-tail (λ (i : ℕ). i < m) s by all) le

-- Where no other pass has any, the one has all.
pub placed_by-all : (i m n : ℕ) (by qs : List ℕ) → length by ≡ length qs → All (λ (j : ℕ). j < m) by → ((j : ℕ) → j < m → j ≢ i → placed_by j n by qs ≡ []) → placed_by i n by qs ≡ placed n qs
placed_by-all i m n [] [] len h none = refl
placed_by-all i m n [] (q ∷ qs) len h none = absurd (omega (arith, len))
placed_by-all i m n (s ∷ by) [] len h none = absurd (omega (arith, len))
placed_by-all i m n (s ∷ by) (q ∷ qs) len h none = dite (ℕ_discrete s i)
    (λ is. placed_by-head i n s by q qs (sym is) ∙ ap (λ l. (n, q) ∷ l) (placed_by-all i m (n + 1) by qs (omega (arith, len)) (All-tail (λ (j : ℕ). j < m) s by h) (λ j l other. sym (placed_by-skip j n s by q qs (λ z. other (z ∙ is))) ∙ none j l other)))
    (λ other. absurd (let z : (n, q) ∷ placed_by s (n + 1) by qs ≡ [] = sym (placed_by-head s n s by q qs refl) ∙ none s (All-head (λ (j : ℕ). j < m) s by h) other in cc))

-- Places and processes behind others.
pub placed-append : (n : ℕ) (xs ys : List ℕ) → placed n (xs ++ ys) ≡ placed n xs ++ placed (n + length xs) ys
placed-append n [] ys = ap (λ m. placed m ys) (let same : n ≡ n + 0 = omega arith in same)
placed-append n (x ∷ xs) ys = let same : n + 1 + length xs ≡ n + length (x ∷ xs) = omega arith in ap (λ l. (n, x) ∷ l) (placed-append (n + 1) xs ys ∙ ap (λ m. placed (n + 1) xs ++ placed m ys) same)

-- The processes without their places.
pub placed-processes : (n : ℕ) (xs : List ℕ) → map (λ (s : ℕ × ℕ). s.1) (placed n xs) ≡ xs
placed-processes n [] = refl
placed-processes n (x ∷ xs) = ap (λ l. x ∷ l) (placed-processes (n + 1) xs)

-- Lists that stand alike at their places are the same.
pub placed-same : (xs ys : List ℕ) → placed 0 xs ≡ placed 0 ys → xs ≡ ys
placed-same xs ys same = sym (placed-processes 0 xs) ∙ ap (map (λ (s : ℕ × ℕ). s.1)) same ∙ placed-processes 0 ys
