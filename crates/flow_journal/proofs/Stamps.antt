-- The stamps of a process are the places of its turns.
use Rattle.std.proofs.Common.{◌≡◌, ◌≢◌, ℕ, ◌+◌, ◌<◌, ◌≤◌, ◌||◌, List, [], ◌∷◌, length, map, Bool, true, false, cond, suc, zero, refl, ap, sym, ◌∙◌, arith, nat_eq, nat_lt, inl, inr, Some, slice_get, get_or}
use Rattle.std.specs.Prelude.{All, sum_by}
use Rattle.std.proofs.lemmas.Bool.Decides.{nat_tests}
use Rattle.std.proofs.lemmas.List.Elements.{All-cons}
use Rattle.std.proofs.lemmas.List.Sums.{sum_by-cons}
use Rattle.flow_machine.specs.Values.{BodyValue, NetValue}
use Rattle.flow_machine.specs.Logs.{Logged, stamps_of, IsLogOf, turns_made}
use Rattle.flow_model.proofs.Lists.{same_or_not}
use Rattle.flow_journal.specs.Journals.{is_stamped, Marks}

-- the process of a turn
abbrev pub process_in : List Logged → ℕ → ℕ
process_in [] k = 0
process_in (turn ∷ log) zero = turn.process
process_in (turn ∷ log) (suc k) = process_in log k

or-right : (b c : Bool) → c ≡ true → (b || c) ≡ true
or-right true c t = refl
or-right false c t = t

or-none : (b c : Bool) → b ≡ false → c ≡ false → (b || c) ≡ false
or-none true c t u = t
or-none false c t u = u

all-cond : {A : Type 0} (P : A → Type 0) (b : Bool) (x : A) (xs : List A) → P x → All P xs → All P (cond b (x ∷ xs) xs)
all-cond P true x xs px pxs = All-cons P x xs px pxs
all-cond P false x xs px pxs = pxs

-- every stamp of these turns lies among their numbers
pub stamps-within : (p n m : ℕ) (log : List Logged) → n + length log ≤ m → All (λ stamp. stamp < m) (stamps_of p n log)
stamps-within p n m [] most = λ k d within. absurd (omega (arith, within))
stamps-within p n m (turn ∷ log) most = all-cond (λ stamp. stamp < m) (nat_eq turn.process p) n (stamps_of p (n + 1) log) (omega (arith, most)) (stamps-within p (n + 1) m log (omega (arith, most)))

stamped-cond : (b : Bool) (n place : ℕ) (stamps : List ℕ) → is_stamped stamps place ≡ true → is_stamped (cond b (n ∷ stamps) stamps) place ≡ true
stamped-cond true n place stamps t = or-right (nat_eq n place) (is_stamped stamps place) t
stamped-cond false n place stamps t = t

unstamped-cond : (b : Bool) (n place : ℕ) (stamps : List ℕ) → (b ≡ true → nat_eq n place ≡ false) → is_stamped stamps place ≡ false → is_stamped (cond b (n ∷ stamps) stamps) place ≡ false
unstamped-cond true n place stamps other t = or-none (nat_eq n place) (is_stamped stamps place) (other refl) t
unstamped-cond false n place stamps other t = t

-- a turn of the process has its number among the stamps
pub stamped : (p n : ℕ) (log : List Logged) (k : ℕ) → k < length log → process_in log k ≡ p → is_stamped (stamps_of p n log) (n + k) ≡ true
stamped p n [] k within is = absurd (omega (arith, within))
stamped p n (turn ∷ log) zero within is =
    let t : nat_eq turn.process p ≡ true = grind (arith, nat_tests) in
    let u : nat_eq n (n + zero) ≡ true = grind (arith, nat_tests) in
    rw (t, u) refl
stamped p n (turn ∷ log) (suc k) within is =
    let rest = stamped p (n + 1) log k (omega (arith, within)) is in
    let at : n + 1 + k ≡ n + suc k = omega arith in
    stamped-cond (nat_eq turn.process p) n (n + suc k) (stamps_of p (n + 1) log) (ap (is_stamped (stamps_of p (n + 1) log)) (sym at) ∙ rest)

-- a number below all turns isn't among the stamps
unstamped-below : (p n : ℕ) (log : List Logged) (place : ℕ) → place < n → is_stamped (stamps_of p n log) place ≡ false
unstamped-below p n [] place below = refl
unstamped-below p n (turn ∷ log) place below =
    unstamped-cond (nat_eq turn.process p) n place (stamps_of p (n + 1) log) (λ _. grind (arith, nat_tests)) (unstamped-below p (n + 1) log place (omega (arith, below)))

-- a turn of another process hasn't
pub unstamped : (p n : ℕ) (log : List Logged) (k : ℕ) → k < length log → process_in log k ≢ p → is_stamped (stamps_of p n log) (n + k) ≡ false
unstamped p n [] k within ne = refl
unstamped p n (turn ∷ log) zero within ne =
    let t : nat_eq turn.process p ≡ false = grind (arith, nat_tests) in
    let at : n + zero ≡ n = omega arith in
    rw t (ap (is_stamped (stamps_of p (n + 1) log)) at ∙ unstamped-below p (n + 1) log n (omega arith))
unstamped p n (turn ∷ log) (suc k) within ne =
    let rest = unstamped p (n + 1) log k (omega (arith, within)) ne in
    let at : n + 1 + k ≡ n + suc k = omega arith in
    unstamped-cond (nat_eq turn.process p) n (n + suc k) (stamps_of p (n + 1) log) (λ _. grind (arith, nat_tests)) (ap (is_stamped (stamps_of p (n + 1) log)) (sym at) ∙ rest)

-- how many turns are of processes from p on, below p + n
count_in : ℕ → ℕ → List Logged → ℕ
count_in p n [] = 0
count_in p n (turn ∷ log) = cond (nat_lt turn.process p) 0 (cond (nat_lt turn.process (p + n)) 1 0) + count_in p n log

count_one : (p k : ℕ) (log : List Logged) → length (stamps_of p k log) ≡ count_in p 1 log
unfolding count_in
count_one p k [] = refl
count_one p k (turn ∷ log) = by (nat_eq turn.process p) refl (count_one p (k + 1) log)
  where
    by : (b : Bool) → nat_eq turn.process p ≡ b → length (stamps_of p (k + 1) log) ≡ count_in p 1 log
        → length (cond b (k ∷ stamps_of p (k + 1) log) (stamps_of p (k + 1) log)) ≡ cond (nat_lt turn.process p) 0 (cond (nat_lt turn.process (p + 1)) 1 0) + count_in p 1 log
    by true t rest = let u : nat_lt turn.process p ≡ false = grind (arith, nat_tests) in let v : nat_lt turn.process (p + 1) ≡ true = grind (arith, nat_tests) in rw (u, v) (omega (arith, rest))
    by false t rest = grind (arith, nat_tests, rest)

count_none : (p : ℕ) (log : List Logged) → count_in p 0 log ≡ 0
unfolding count_in
count_none p [] = refl
count_none p (turn ∷ log) = let rest = count_none p log in grind (arith, nat_tests, rest)

count_more : (p n : ℕ) (log : List Logged) → count_in p 1 log + count_in (p + 1) n log ≡ count_in p (suc n) log
unfolding count_in
count_more p n [] = refl
count_more p n (turn ∷ log) = let rest = count_more p n log in grind (arith, nat_tests, rest)

-- the turns of processes are those that their bodies remember
sum-count : {K : Type 0} (bodies : List (BodyValue K)) (p : ℕ) (log : List Logged) → ((k : ℕ) (b : BodyValue K) → slice_get bodies k ≡ Some b → length b.stamps ≡ length (stamps_of (p + k) 0 log))
    → sum_by (λ b. length b.stamps) bodies ≡ count_in p (length bodies) log
sum-count [] p log each = sym (count_none p log)
sum-count {K} (b ∷ bodies) p log each =
    let first = each zero b refl in
    let at : p + zero ≡ p = omega arith in
    let first' : length b.stamps ≡ count_in p 1 log = first ∙ ap (λ q. length (stamps_of q 0 log)) at ∙ count_one p 0 log in
    let rest = sum-count bodies (p + 1) log (λ k c is. each (suc k) c is ∙ (let e : p + suc k ≡ p + 1 + k = omega arith in ap (λ q. length (stamps_of q 0 log)) e)) in
    omega (arith, sum_by-cons (λ (c : BodyValue K). length c.stamps) b bodies, first', rest, count_more p (length bodies) log)

count-most : (p n : ℕ) (log : List Logged) → count_in p n log ≤ length log
unfolding count_in
count-most p n [] = omega arith
count-most p n (turn ∷ log) = let rest = count-most p n log in grind (arith, nat_tests, rest)

-- where as many are counted as there are, each is of a process below n
count-all : (n : ℕ) (log : List Logged) → count_in 0 n log ≡ length log → (k : ℕ) → k < length log → process_in log k < n
unfolding count_in
count-all n [] all k within = absurd (omega (arith, within))
count-all n (turn ∷ log) all zero within = let most = count-most 0 n log in grind (arith, nat_tests, most)
count-all n (turn ∷ log) all (suc k) within = count-all n log (let most = count-most 0 n log in grind (arith, nat_tests, most)) k (omega (arith, within))

-- each turn of a net is of one of its processes
pub process-below : {K : Type 0} (net : NetValue K) (log : List Logged) → IsLogOf log net → sum_by (λ (b : BodyValue K). length b.stamps) net.bodies ≡ turns_made net → (k : ℕ) → k < length log → process_in log k < length net.bodies
process-below {K} net log is counted = count-all (length net.bodies) log
    (sym (sum-count net.bodies 0 log (λ k b there. (let at : 0 + k ≡ k = omega arith in ap length (is.logs k b there).0 ∙ ap (λ q. length (stamps_of q 0 log)) (sym at)))) ∙ counted ∙ sym is.total)

-- the process of a turn, as an element of the list of processes
pub process-at : (log : List Logged) (k : ℕ) (d : ℕ) → k < length log → get_or (map (λ turn. turn.process) log) k d ≡ process_in log k
process-at [] k d within = absurd (omega (arith, within))
process-at (turn ∷ log) zero d within = refl
process-at (turn ∷ log) (suc k) d within = process-at log k d (omega (arith, within))

-- a list whose elements are the processes of the turns
pub all-marked : (log : List Logged) (turns : List ℕ) → length turns ≡ length log → ((k : ℕ) → k < length log → get_or turns k 0 ≡ process_in log k) → turns ≡ map (λ turn. turn.process) log
all-marked [] [] same each = refl
all-marked [] (t ∷ turns) same each = absurd (omega (arith, same))
all-marked (turn ∷ log) [] same each = absurd (omega (arith, same))
all-marked (turn ∷ log) (t ∷ turns) same each =
    let first : t ≡ turn.process = each zero (omega arith) in
    let rest = all-marked log turns (omega (arith, same)) (λ k within. each (suc k) (omega (arith, within))) in
    λ i. first i ∷ rest i

-- after the stamps of process p are marked, the turns of the processes up to p are
pub marked-more : (log : List Logged) (p : ℕ) (old new : List ℕ) → length old ≡ length log → Marks (stamps_of p 0 log) p old new → ((k : ℕ) → k < length log → process_in log k < p → get_or old k 0 ≡ process_in log k)
    → (k : ℕ) → k < length log → process_in log k < p + 1 → get_or new k 0 ≡ process_in log k
marked-more log p old new same marks before k within below = elim (same_or_not (process_in log k) p) [
  | inl here ↦ marks.here k (omega (arith, within, same)) (ap (is_stamped (stamps_of p 0 log)) (let at : k ≡ 0 + k = omega arith in at) ∙ stamped p 0 log k within here) ∙ sym here
  | inr ne ↦ marks.others k (ap (is_stamped (stamps_of p 0 log)) (let at : k ≡ 0 + k = omega arith in at) ∙ unstamped p 0 log k within ne) ∙ before k within (omega (arith, below, ne))
]

-- as many processes as turns
pub length-processes : (log : List Logged) → length (map (λ (turn : Logged). turn.process) log) ≡ length log
length-processes [] = refl
length-processes (turn ∷ log) = omega (arith, length-processes log)
