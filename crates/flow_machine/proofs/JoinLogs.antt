-- The turns of the pieces of a net, in the order of their stamps; and what a net remembers, as stamps and level numbers alone.
use Rattle.std.proofs.Common.{◌≡◌, ◌≢◌, ℕ, ◌+◌, ◌<◌, ◌≤◌, Bool, true, false, cond, List, [], ◌∷◌, ◌++◌, length, map, Some, suc, zero, refl, ap, sym, ◌∙◌, arith, nat_eq, nat_lt, slice_get, append-nil}
use Rattle.std.specs.Prelude.{flat_map, sum_by}
use Rattle.std.specs.List.{range_with_len}
use Rattle.std.proofs.lemmas.Bool.Decides.{nat_tests}
use Rattle.std.proofs.lemmas.List.Elements.{filter-append}
use Rattle.std.proofs.lemmas.List.Sums.{sum_by-cons}
use Rattle.flow_packet.specs.Ids.{times}
use Rattle.flow_machine.specs.Values.{BodyValue}
use Rattle.flow_machine.specs.Logs.{Logged, stamps_of, levels_of}
use Rattle.flow_machine.specs.Joins.{Rises, levels_under}

-- a number that stands in a list, and where
pub times-there : (x : ℕ) (xs : List ℕ) → 0 < times x xs → (i : ℕ) × (slice_get xs i ≡ Some x)
times-there x [] some = absurd (omega (arith, some))
times-there x (y ∷ ys) some = by (λ h. times-there x ys h) (nat_eq y x) refl some
  where
    by : (0 < times x ys → (i : ℕ) × (slice_get ys i ≡ Some x)) → (t : Bool) → nat_eq y x ≡ t → 0 < cond t 1 0 + times x ys → (i : ℕ) × (slice_get (y ∷ ys) i ≡ Some x)
    by more true is some = let same : y ≡ x = grind (arith, nat_tests) in (0, ap (λ (z : ℕ). Some z) same)
    by more false is some = let r = more (omega (arith, some)) in (suc r.0, r.1)

pub there-times : (x : ℕ) (xs : List ℕ) (i : ℕ) → slice_get xs i ≡ Some x → 0 < times x xs
there-times x [] i is = absurd (cc)
there-times x (y ∷ ys) zero is = let same : y ≡ x = cc in let t : nat_eq y x ≡ true = grind (arith, nat_tests) in rw t (omega arith)
there-times x (y ∷ ys) (suc i) is = omega (arith, there-times x ys i is)

pub rises-tail : (x : ℕ) (xs : List ℕ) → Rises (x ∷ xs) → Rises xs
rises-tail x xs rises i j a b less is at = rises (suc i) (suc j) a b (omega (arith, less)) is at

pub rises-cons : (x : ℕ) (xs : List ℕ) → ((j y : ℕ) → slice_get xs j ≡ Some y → x < y) → Rises xs → Rises (x ∷ xs)
rises-cons x xs above rises zero zero a b less is at = absurd (omega (arith, less))
rises-cons x xs above rises zero (suc j) a b less is at = let same : x ≡ a = cc in omega (arith, same, above j b at)
rises-cons x xs above rises (suc i) zero a b less is at = absurd (omega (arith, less))
rises-cons x xs above rises (suc i) (suc j) a b less is at = rises i j a b (omega (arith, less)) is at

abbrev has : ℕ → List ℕ → Bool
has k xs = nat_lt 0 (times k xs)

-- the level numbers under a stamp, alone
abbrev values_under : List (ℕ × ℕ) → ℕ → List ℕ
values_under levels k = map (λ (level : ℕ × ℕ). level.1) (levels_under levels k)

-- whose stamp it is, of bodies numbered from q on, and what that body saw then
abbrev owner : {K : Type 0} → ℕ → List (BodyValue K) → ℕ → ℕ
owner q [] k = q
owner q (b ∷ bodies) k = cond (has k b.stamps) q (owner (q + 1) bodies k)

abbrev seen_at : {K : Type 0} → List (BodyValue K) → ℕ → List ℕ
seen_at [] k = []
seen_at (b ∷ bodies) k = cond (has k b.stamps) (values_under b.levels k) (seen_at bodies k)

-- The turn with this stamp, as the body that has the stamp remembers it.
abbrev pub turn_at : {K : Type 0} → List (BodyValue K) → ℕ → Logged
turn_at bodies k = record { process = owner 0 bodies k; seen = seen_at bodies k }

-- the first n turns
abbrev pub log_of : {K : Type 0} → List (BodyValue K) → ℕ → List Logged
log_of bodies n = map (turn_at bodies) (range_with_len 0 n)

abbrev stamped : {K : Type 0} → ℕ → BodyValue K → ℕ
stamped n b = times n b.stamps

owner-least : {K : Type 0} (q : ℕ) (bodies : List (BodyValue K)) (k : ℕ) → q ≤ owner q bodies k
owner-least q [] k = omega arith
owner-least q (b ∷ bodies) k = by (has k b.stamps) (owner-least (q + 1) bodies k)
  where
    by : (t : Bool) → q + 1 ≤ owner (q + 1) bodies k → q ≤ cond t q (owner (q + 1) bodies k)
    by true h = omega arith
    by false h = omega (arith, h)

-- A member adds no more to a sum than the sum.
pub part-least : {A : Type 0} (f : A → ℕ) (xs : List A) (i : ℕ) (x : A) → slice_get xs i ≡ Some x → f x ≤ sum_by f xs
part-least f [] i x is = absurd (cc)
part-least {A} f (y ∷ ys) zero x is = let same : y ≡ x = cc in let e : f y ≡ f x = ap f same in omega (arith, e, sum_by-cons f y ys)
part-least {A} f (y ∷ ys) (suc i) x is = omega (arith, part-least f ys i x is, sum_by-cons f y ys)

owner-here : {K : Type 0} (q : ℕ) (bodies : List (BodyValue K)) (k p : ℕ) (b : BodyValue K) → slice_get bodies p ≡ Some b → has k b.stamps ≡ true → sum_by (λ (x : BodyValue K). times k x.stamps) bodies ≤ 1
    → (owner q bodies k ≡ q + p) × (seen_at bodies k ≡ values_under b.levels k)
owner-here q [] k p b is h one = absurd (cc)
owner-here {K} q (x ∷ bodies) k zero b is h one =
    let same : x ≡ b = cc in
    let t : has k x.stamps ≡ true = ap (λ (y : BodyValue K). has k y.stamps) same ∙ h in
    rw t (omega arith, ap (λ (y : BodyValue K). values_under y.levels k) same)
owner-here {K} q (x ∷ bodies) k (suc p) b is h one =
    let cons = sum_by-cons (λ (y : BodyValue K). times k y.stamps) x bodies in
    let some : 0 < times k b.stamps = grind (arith, nat_tests) in
    let least = part-least (λ (y : BodyValue K). times k y.stamps) bodies p b is in
    let none : times k x.stamps ≡ 0 = omega (arith, cons, one, some, least) in
    let t : has k x.stamps ≡ false = rw none refl in
    let r = owner-here (q + 1) bodies k p b is h (omega (arith, cons, one)) in
    rw t (omega (arith, r.0), r.1)

owner-other : {K : Type 0} (q : ℕ) (bodies : List (BodyValue K)) (k p : ℕ) (b : BodyValue K) → slice_get bodies p ≡ Some b → has k b.stamps ≡ false → owner q bodies k ≢ q + p
owner-other q [] k p b is h same = absurd (cc)
owner-other {K} q (x ∷ bodies) k zero b is h same =
    let e : x ≡ b = cc in
    let t : has k x.stamps ≡ false = ap (λ (y : BodyValue K). has k y.stamps) e ∙ h in
    let at : owner (q + 1) bodies k ≡ q + zero = rw t at same in
    omega (arith, at, owner-least (q + 1) bodies k)
owner-other {K} q (x ∷ bodies) k (suc p) b is h same = by (owner-other (q + 1) bodies k p b is h) (has k x.stamps) same
  where
    by : owner (q + 1) bodies k ≢ q + 1 + p → (t : Bool) → cond t q (owner (q + 1) bodies k) ≡ q + suc p → ⊥
    by more true at = omega (arith, at)
    by more false at = more (omega (arith, at))

paired : (k : ℕ) (levels : List (ℕ × ℕ)) → map (λ (level : ℕ). let t : ℕ × ℕ = (k, level) in t) (values_under levels k) ≡ levels_under levels k
paired k [] = refl
paired k (l ∷ levels) = by (nat_eq l.0 k) refl (paired k levels)
  where
    by : (t : Bool) → nat_eq l.0 k ≡ t → map (λ (level : ℕ). let t : ℕ × ℕ = (k, level) in t) (values_under levels k) ≡ levels_under levels k
        → map (λ (level : ℕ). let t : ℕ × ℕ = (k, level) in t) (map (λ (level : ℕ × ℕ). level.1) (cond t (l ∷ levels_under levels k) (levels_under levels k))) ≡ cond t (l ∷ levels_under levels k) (levels_under levels k)
    by true is rest = let same : l.0 ≡ k = grind (arith, nat_tests) in λ i. (sym same i, l.1) ∷ rest i
    by false is rest = rest

module _ {K : Type 0} (bodies : List (BodyValue K)) (p : ℕ) (b : BodyValue K) (there : slice_get bodies p ≡ Some b) where
  abbrev Once : ℕ → ℕ → Type 0
  Once k n = (j : ℕ) → k ≤ j → j < k + n → sum_by (λ (x : BodyValue K). times j x.stamps) bodies ≤ 1

  -- what stands in the list from k on is what the body has there
  abbrev From : ℕ → ℕ → List ℕ → Type 0
  From k n xs = ((j : ℕ) → 0 < times j xs → (k ≤ j) × (j < k + n)) × ((j : ℕ) → k ≤ j → times j xs ≡ times j b.stamps)

  abbrev Logs_from : ℕ → ℕ → List ℕ → Type 0
  Logs_from k n xs = (stamps_of p k (map (turn_at bodies) (range_with_len k n)) ≡ xs) × (levels_of p k (map (turn_at bodies) (range_with_len k n)) ≡ flat_map (levels_under b.levels) xs)

  own-head : (k y : ℕ) (ys : List ℕ) → Rises (y ∷ ys) → ((j : ℕ) → 0 < times j (y ∷ ys) → k ≤ j) → 0 < times k (y ∷ ys) → y ≡ k
  own-head k y ys rises least some =
      let at = times-there k (y ∷ ys) some in
      let first : k ≤ y = least y (there-times y (y ∷ ys) 0 refl) in
      by at.0 at.1 first
    where
      by : (i : ℕ) → slice_get (y ∷ ys) i ≡ Some k → k ≤ y → y ≡ k
      by zero is first = let h : y ≡ k = cc in h
      by (suc i) is first = absurd (let less = rises 0 (suc i) y k (omega arith) refl is in omega (arith, less, first))

  pub log-from : (n k : ℕ) (xs : List ℕ) → Once k n → Rises xs → From k n xs → Logs_from k n xs
  log-from zero k [] once rises from = (refl, refl)
  log-from zero k (x ∷ xs) once rises from = absurd (let h = from.0 x (there-times x (x ∷ xs) 0 refl) in omega (arith, h.0, h.1))
  log-from (suc n) k xs once rises from = by (λ ys o r f. log-from n (k + 1) ys o r f) (has k b.stamps) refl
    where
      more : Once (k + 1) n
      more j least below = once j (omega (arith, least)) (omega (arith, below))

      here : ((ys : List ℕ) → Once (k + 1) n → Rises ys → From (k + 1) n ys → Logs_from (k + 1) n ys) → (ys : List ℕ) → has k b.stamps ≡ true → Rises ys → From k (suc n) ys → Logs_from k (suc n) ys
      here again [] is rises from = absurd (let e = from.1 k (omega arith) in let some : 0 < times k b.stamps = grind (arith, nat_tests) in omega (arith, e, some))
      here again (y ∷ ys) is rises from =
          let e = from.1 k (omega arith) in
          let some : 0 < times k b.stamps = grind (arith, nat_tests) in
          let head : y ≡ k = own-head k y ys rises (λ j h. (from.0 j h).0) (omega (arith, e, some)) in
          let above : (j : ℕ) → 0 < times j ys → k < j = λ j h. (let at = times-there j ys h in let less = rises 0 (suc at.0) y j (omega arith) refl at.1 in omega (arith, less, head)) in
          let rest = again ys more (rises-tail y ys rises) (
            (λ j h. (let a = above j h in let bound = (from.0 j (omega (arith, h))).1 in (omega (arith, a), omega (arith, bound)))),
            (λ j least. (let ne : nat_eq y j ≡ false = grind (arith, nat_tests) in let t = from.1 j (omega (arith, least)) in let t' : 0 + times j ys ≡ times j b.stamps = rw ne at t in omega (arith, t'))),
          ) in
          let own = owner-here 0 bodies k p b there is (once k (omega arith) (omega arith)) in
          let mine : nat_eq (owner 0 bodies k) p ≡ true = grind (arith, nat_tests, own.0) in
          rw (mine, own.1) (
            (λ i. sym head i ∷ rest.0 i),
            (λ i. (paired k b.levels ∙ ap (levels_under b.levels) (sym head)) i ++ rest.1 i),
          )

      by : ((ys : List ℕ) → Once (k + 1) n → Rises ys → From (k + 1) n ys → Logs_from (k + 1) n ys) → (t : Bool) → has k b.stamps ≡ t → Logs_from k (suc n) xs
      by again true is = here again xs is rises from
      by again false is =
          let none : times k b.stamps ≡ 0 = grind (arith, nat_tests) in
          let rest = again xs more rises (
            (λ j h. (let bound = from.0 j h in let ne : j ≢ k = (λ same. (let t = from.1 k (omega arith) in let u : times j xs ≡ times k xs = ap (λ (m : ℕ). times m xs) same in omega (arith, t, u, none, h))) in (omega (arith, bound.0, ne), omega (arith, bound.1)))),
            (λ j least. from.1 j (omega (arith, least))),
          ) in
          let ne : owner 0 bodies k ≢ p = λ same. owner-other 0 bodies k p b there is (omega (arith, same)) in
          let other : nat_eq (owner 0 bodies k) p ≡ false = grind (arith, nat_tests, ne) in
          rw other rest

-- and the other way round: the stamps of a log rise
stamps-least : (p n : ℕ) (log : List Logged) (i j : ℕ) → slice_get (stamps_of p n log) i ≡ Some j → n ≤ j
stamps-least p n [] i j is = absurd (cc)
stamps-least p n (turn ∷ log) i j is = by (λ m h. stamps-least p (n + 1) log m j h) (nat_eq turn.process p) i is
  where
    by : ((m : ℕ) → slice_get (stamps_of p (n + 1) log) m ≡ Some j → n + 1 ≤ j) → (t : Bool) (i : ℕ) → slice_get (cond t (n ∷ stamps_of p (n + 1) log) (stamps_of p (n + 1) log)) i ≡ Some j → n ≤ j
    by more true zero is = let same : n ≡ j = cc in omega (arith, same)
    by more true (suc i) is = omega (arith, more i is)
    by more false i is = omega (arith, more i is)

-- The stamps of a process in a log rise.
pub stamps-rise : (p n : ℕ) (log : List Logged) → Rises (stamps_of p n log)
stamps-rise p n [] = λ i j x y less is at. absurd (cc)
stamps-rise p n (turn ∷ log) = by (nat_eq turn.process p) (stamps-rise p (n + 1) log)
  where
    by : (t : Bool) → Rises (stamps_of p (n + 1) log) → Rises (cond t (n ∷ stamps_of p (n + 1) log) (stamps_of p (n + 1) log))
    by true rest = rises-cons n (stamps_of p (n + 1) log) (λ j y is. (let least = stamps-least p (n + 1) log j y is in omega (arith, least))) rest
    by false rest = rest

abbrev told_at : ℕ → List ℕ → List (ℕ × ℕ)
told_at n seen = map (λ (level : ℕ). let t : ℕ × ℕ = (n, level) in t) seen

under-told : (n : ℕ) (seen : List ℕ) → levels_under (told_at n seen) n ≡ told_at n seen
under-told n [] = refl
under-told n (x ∷ seen) = let t : nat_eq n n ≡ true = grind (arith, nat_tests) in rw t (λ i. (n, x) ∷ under-told n seen i)

under-told_other : (n m : ℕ) (seen : List ℕ) → n ≢ m → levels_under (told_at n seen) m ≡ []
under-told_other n m [] ne = refl
under-told_other n m (x ∷ seen) ne = let t : nat_eq n m ≡ false = grind (arith, nat_tests) in rw t (under-told_other n m seen ne)

under-append : (xs ys : List (ℕ × ℕ)) (k : ℕ) → levels_under (xs ++ ys) k ≡ levels_under xs k ++ levels_under ys k
under-append xs ys k = filter-append (λ (level : ℕ × ℕ). nat_eq level.0 k) xs ys

under-later : (p m : ℕ) (log : List Logged) (n : ℕ) → n < m → levels_under (levels_of p m log) n ≡ []
under-later p m [] n less = refl
under-later p m (turn ∷ log) n less = by (nat_eq turn.process p) (under-later p (m + 1) log n (omega (arith, less)))
  where
    by : (t : Bool) → levels_under (levels_of p (m + 1) log) n ≡ [] → levels_under (cond t (map (λ (level : ℕ). let u : ℕ × ℕ = (m, level) in u) turn.seen ++ levels_of p (m + 1) log) (levels_of p (m + 1) log)) n ≡ []
    by true rest = under-append (told_at m turn.seen) (levels_of p (m + 1) log) n ∙ (λ i. under-told_other m n turn.seen (λ same. omega (arith, same, less)) i ++ rest i)
    by false rest = rest

-- the level numbers of a log are, stamp after stamp, those under it
pub levels-under : (p n : ℕ) (log : List Logged) (all : List (ℕ × ℕ)) → ((j : ℕ) → n ≤ j → levels_under all j ≡ levels_under (levels_of p n log) j) → levels_of p n log ≡ flat_map (levels_under all) (stamps_of p n log)
levels-under p n [] all same = refl
levels-under p n (turn ∷ log) all same = by (λ h. levels-under p (n + 1) log all h) (nat_eq turn.process p) same
  where
    by : (((j : ℕ) → n + 1 ≤ j → levels_under all j ≡ levels_under (levels_of p (n + 1) log) j) → levels_of p (n + 1) log ≡ flat_map (levels_under all) (stamps_of p (n + 1) log)) → (t : Bool) → ((j : ℕ) → n ≤ j → levels_under all j ≡ levels_under (cond t (map (λ (level : ℕ). let u : ℕ × ℕ = (n, level) in u) turn.seen ++ levels_of p (n + 1) log) (levels_of p (n + 1) log)) j)
        → cond t (map (λ (level : ℕ). let u : ℕ × ℕ = (n, level) in u) turn.seen ++ levels_of p (n + 1) log) (levels_of p (n + 1) log) ≡ flat_map (levels_under all) (cond t (n ∷ stamps_of p (n + 1) log) (stamps_of p (n + 1) log))
    by more true same =
        let here : levels_under all n ≡ told_at n turn.seen =
        same n (omega arith) ∙ under-append (told_at n turn.seen) (levels_of p (n + 1) log) n ∙ (λ i. under-told n turn.seen i ++ under-later p (n + 1) log n (omega arith) i) ∙ append-nil (told_at n turn.seen) in
        let rest = more (λ j least. same j (omega (arith, least)) ∙ under-append (told_at n turn.seen) (levels_of p (n + 1) log) j ∙ ap (λ (xs : List (ℕ × ℕ)). xs ++ levels_under (levels_of p (n + 1) log) j) (under-told_other n j turn.seen (λ e. omega (arith, e, least)))) in
        λ i. sym here i ++ rest i
    by more false same = more (λ j least. same j (omega (arith, least)))

-- sums over numbers from p on
abbrev pub from : (ℕ → ℕ) → ℕ → ℕ → ℕ
from g p zero = 0
from g p (suc n) = g p + from g (p + 1) n

from-one : (t a p n : ℕ) → from (λ q. cond (nat_eq t q) a 0) p n ≡ cond (nat_lt t p) 0 (cond (nat_lt t (p + n)) a 0)
from-one t a p zero = grind (arith, nat_tests)
from-one t a p (suc n) = let rest = from-one t a (p + 1) n in grind (arith, nat_tests, rest)

from-add : (f g h : ℕ → ℕ) (p n : ℕ) → ((q : ℕ) → f q ≡ g q + h q) → from f p n ≡ from g p n + from h p n
from-add f g h p zero each = refl
from-add f g h p (suc n) each = omega (arith, each p, from-add f g h (p + 1) n each)

-- A sum over a list is the sum of the values at its places.
pub sum-from : {A : Type 0} (f : A → ℕ) (g : ℕ → ℕ) (p : ℕ) (xs : List A) → ((k : ℕ) (x : A) → slice_get xs k ≡ Some x → f x ≡ g (p + k)) → sum_by f xs ≡ from g p (length xs)
sum-from f g p [] each = refl
sum-from f g p (x ∷ xs) each =
    let z : p + zero ≡ p = omega arith in
    let here : f x ≡ g p = each zero x refl ∙ ap g z in
    let rest = sum-from f g (p + 1) xs (λ k y is. each (suc k) y is ∙ (let e : p + suc k ≡ p + 1 + k = omega arith in ap g e)) in
    omega (arith, sum_by-cons f x xs, here, rest)

-- how many stamps, and how often a stamp, with one turn more
length-stamp : (p n : ℕ) (turn : Logged) (log : List Logged) → length (stamps_of p n (turn ∷ log)) ≡ cond (nat_eq turn.process p) 1 0 + length (stamps_of p (n + 1) log)
length-stamp p n turn log = by (nat_eq turn.process p)
  where
    by : (t : Bool) → length (cond t (n ∷ stamps_of p (n + 1) log) (stamps_of p (n + 1) log)) ≡ cond t 1 0 + length (stamps_of p (n + 1) log)
    by true = omega arith
    by false = omega arith

times-stamp : (k p n : ℕ) (turn : Logged) (log : List Logged) → times k (stamps_of p n (turn ∷ log)) ≡ cond (nat_eq turn.process p) (cond (nat_eq n k) 1 0) 0 + times k (stamps_of p (n + 1) log)
times-stamp k p n turn log = by (nat_eq turn.process p)
  where
    by : (t : Bool) → times k (cond t (n ∷ stamps_of p (n + 1) log) (stamps_of p (n + 1) log)) ≡ cond t (cond (nat_eq n k) 1 0) 0 + times k (stamps_of p (n + 1) log)
    by true = omega arith
    by false = omega arith

lengths-most : (m n : ℕ) (log : List Logged) → from (λ p. length (stamps_of p n log)) 0 m ≤ length log
lengths-most m n [] = let none = from-none m 0 in omega (arith, none)
  where
    from-none : (m p : ℕ) → from (λ _. 0) p m ≡ 0
    from-none zero p = refl
    from-none (suc m) p = omega (arith, from-none m (p + 1))
lengths-most m n (turn ∷ log) =
    let rest = lengths-most m (n + 1) log in
    let sum = from-add (λ p. length (stamps_of p n (turn ∷ log))) (λ p. cond (nat_eq turn.process p) 1 0) (λ p. length (stamps_of p (n + 1) log)) 0 m (λ p. length-stamp p n turn log) in
    let one = from-one turn.process 1 0 m in
    let most : cond (nat_lt turn.process 0) 0 (cond (nat_lt turn.process (0 + m)) 1 0) ≤ 1 = grind (arith, nat_tests) in
    omega (arith, rest, sum, one, most)

-- where each turn is of a process below m, each stamp stands once
pub times-all : (m n k : ℕ) (log : List Logged) → from (λ p. length (stamps_of p n log)) 0 m ≡ length log → from (λ p. times k (stamps_of p n log)) 0 m ≡ cond (nat_lt k n) 0 (cond (nat_lt k (n + length log)) 1 0)
times-all m n k [] all = let none = from-none m 0 in none ∙ grind (arith, nat_tests)
  where
    from-none : (m p : ℕ) → from (λ _. 0) p m ≡ 0
    from-none zero p = refl
    from-none (suc m) p = omega (arith, from-none m (p + 1))
times-all m n k (turn ∷ log) all =
    let most = lengths-most m (n + 1) log in
    let sum = from-add (λ p. length (stamps_of p n (turn ∷ log))) (λ p. cond (nat_eq turn.process p) 1 0) (λ p. length (stamps_of p (n + 1) log)) 0 m (λ p. length-stamp p n turn log) in
    let one = from-one turn.process 1 0 m in
    let below : turn.process < m = grind (arith, nat_tests, most, sum, one, all) in
    let yes : nat_lt turn.process (0 + m) ≡ true = grind (arith, nat_tests) in
    let no : nat_lt turn.process 0 ≡ false = grind (arith, nat_tests) in
    let one' : from (λ q. cond (nat_eq turn.process q) 1 0) 0 m ≡ 1 = rw (no, yes) at one in
    let rest = times-all m (n + 1) k log (omega (arith, all, sum, one', most)) in
    let sum' = from-add (λ p. times k (stamps_of p n (turn ∷ log))) (λ p. cond (nat_eq turn.process p) (cond (nat_eq n k) 1 0) 0) (λ p. times k (stamps_of p (n + 1) log)) 0 m (λ p. times-stamp k p n turn log) in
    let here = from-one turn.process (cond (nat_eq n k) 1 0) 0 m in
    let here' : from (λ q. cond (nat_eq turn.process q) (cond (nat_eq n k) 1 0) 0) 0 m ≡ cond (nat_eq n k) 1 0 = rw (no, yes) at here in
    grind (arith, nat_tests, rest, sum', here')

-- All stamps of the bodies together are as many as the turns of the log.
pub sum-lengths : {K : Type 0} (bodies : List (BodyValue K)) (log : List Logged) → ((p : ℕ) (b : BodyValue K) → slice_get bodies p ≡ Some b → b.stamps ≡ stamps_of p 0 log)
    → sum_by (λ (b : BodyValue K). length b.stamps) bodies ≡ length log → (k : ℕ) → sum_by (λ (b : BodyValue K). times k b.stamps) bodies ≡ cond (nat_lt k (length log)) 1 0
sum-lengths {K} bodies log each all k =
    let lengths = sum-from (λ (b : BodyValue K). length b.stamps) (λ p. length (stamps_of p 0 log)) 0 bodies (λ p b is. (let z : p ≡ 0 + p = omega arith in ap length (each p b is) ∙ ap (λ (q : ℕ). length (stamps_of q 0 log)) z)) in
    let count = sum-from (λ (b : BodyValue K). times k b.stamps) (λ p. times k (stamps_of p 0 log)) 0 bodies (λ p b is. (let z : p ≡ 0 + p = omega arith in ap (times k) (each p b is) ∙ ap (λ (q : ℕ). times k (stamps_of q 0 log)) z)) in
    let one = times-all (length bodies) 0 k log (sym lengths ∙ all) in
    count ∙ one ∙ (let no : nat_lt k 0 ≡ false = grind (arith, nat_tests) in let z : 0 + length log ≡ length log = omega arith in rw (no, z) refl)
