-- The numbers of the level turns, as the bodies remember them.
use Rattle.std.proofs.Common.{◌≡◌, ◌≢◌, ℕ, ◌+◌, ◌<◌, ◌≤◌, List, [], ◌∷◌, ◌++◌, length, map, take, drop, Bool, true, false, cond, suc, zero, refl, ap, sym, ◌∙◌, arith, nat_eq, inl, inr, get_or, slice_get, Some, subst, append-nil, append_assoc}
use Rattle.std.specs.Prelude.{◌&&◌, ◌==◌, sum_by}
use Rattle.std.specs.List.{flat_map, list_all}
use Rattle.std.proofs.lemmas.Bool.Decides.{nat_tests}
use Rattle.std.proofs.Math.ListN.{set}
use Rattle.std.proofs.lemmas.List.{get_or-set_same, get_or-set_other}
use Rattle.std.proofs.lemmas.List.Folds.{list_all_more, list_all_at}
use Rattle.std.proofs.lemmas.Option.{get_or_from_slice_get, slice_get_within}
use Rattle.flow_model.proofs.Lists.{same_or_not}
use Rattle.flow_machine.specs.Values.{BodyValue, NetValue}
use Rattle.flow_machine.specs.Logs.{Logged, levels_of, turns_made}
use Rattle.flow_journal.specs.Journals.{numbers_under, after_numbers, NamesSeen, TakesNumbers}
use Rattle.flow_journal.proofs.Stamps.{process_in, process-below}
use Rattle.flow_journal.proofs.Refusing.{there-is}

abbrev under : ℕ → List ℕ → List (ℕ × ℕ)
under n xs = map (λ (level : ℕ). (n, level)) xs

-- nothing stands under a stamp below all
numbers-none : (s p n : ℕ) (log : List Logged) → s < n → numbers_under s (levels_of p n log) ≡ []
numbers-none s p n [] below = refl
numbers-none s p n (turn ∷ log) below = by (nat_eq turn.process p) turn.seen (numbers-none s p (n + 1) log (omega (arith, below)))
  where
    by : (b : Bool) (xs : List ℕ) → numbers_under s (levels_of p (n + 1) log) ≡ [] → numbers_under s (cond b (under n xs ++ levels_of p (n + 1) log) (levels_of p (n + 1) log)) ≡ []
    by true [] rest = rest
    by true (x ∷ xs) rest = let t : nat_eq n s ≡ false = grind (arith, nat_tests) in rw t refl
    by false xs rest = rest

after-none : (s p n : ℕ) (log : List Logged) → s < n → after_numbers s (levels_of p n log) ≡ levels_of p n log
after-none s p n [] below = refl
after-none s p n (turn ∷ log) below = by (nat_eq turn.process p) turn.seen (after-none s p (n + 1) log (omega (arith, below)))
  where
    by : (b : Bool) (xs : List ℕ) → after_numbers s (levels_of p (n + 1) log) ≡ levels_of p (n + 1) log
        → after_numbers s (cond b (under n xs ++ levels_of p (n + 1) log) (levels_of p (n + 1) log)) ≡ cond b (under n xs ++ levels_of p (n + 1) log) (levels_of p (n + 1) log)
    by true [] rest = rest
    by true (x ∷ xs) rest = let t : nat_eq n s ≡ false = grind (arith, nat_tests) in rw t refl
    by false xs rest = rest

numbers-under : (s : ℕ) (xs : List ℕ) (levels : List (ℕ × ℕ)) → numbers_under s (under s xs ++ levels) ≡ xs ++ numbers_under s levels
numbers-under s [] levels = refl
numbers-under s (x ∷ xs) levels = let t : nat_eq s s ≡ true = grind (arith, nat_tests) in rw t (ap (λ (ys : List ℕ). x ∷ ys) (numbers-under s xs levels))

after-under : (s : ℕ) (xs : List ℕ) (levels : List (ℕ × ℕ)) → after_numbers s (under s xs ++ levels) ≡ after_numbers s levels
after-under s [] levels = refl
after-under s (x ∷ xs) levels = let t : nat_eq s s ≡ true = grind (arith, nat_tests) in rw t (after-under s xs levels)

-- A turn stands at its place in a log.
pub record TurnAt (log : List Logged) (k : ℕ) : Type 0 where
  pub turn : Logged
  pub process : turn.process ≡ process_in log k
  pub rest : drop k log ≡ turn ∷ drop (k + 1) log
  pub seen : flat_map (λ t. t.seen) (take (k + 1) log) ≡ flat_map (λ t. t.seen) (take k log) ++ turn.seen

-- There is a turn at each place within a log.
pub turn-at : (log : List Logged) (k : ℕ) → k < length log → TurnAt log k
turn-at [] k within = absurd (omega (arith, within))
turn-at (t ∷ log) zero within = record { turn = t; process = refl; rest = refl; seen = append-nil t.seen }
turn-at (t ∷ log) (suc k) within =
    let more = turn-at log k (omega (arith, within)) in
    let at : suc k + 1 ≡ suc (k + 1) = omega arith in
    record {
      turn = more.turn;
      process = more.process;
      rest = more.rest ∙ ap (λ (n : ℕ). more.turn ∷ drop n (t ∷ log)) (sym at);
      seen = ap (λ (n : ℕ). flat_map (λ u. u.seen) (take n (t ∷ log))) at ∙ ap (λ (xs : List ℕ). t.seen ++ xs) more.seen ∙ sym (append_assoc t.seen (flat_map (λ u. u.seen) (take k log)) more.turn.seen);
    }

-- what is left of the numbers of a process before a turn
abbrev pub Left : List Logged → ℕ → ℕ → ℕ → Type 0
Left log s p place = (place ≤ length (levels_of p 0 log)) × (drop place (levels_of p 0 log) ≡ levels_of p s (drop s log))

own-cond : (p s : ℕ) (turn : Logged) (rest : List Logged) → turn.process ≡ p → levels_of p s (turn ∷ rest) ≡ under s turn.seen ++ levels_of p (s + 1) rest
own-cond p s turn rest is = let t : nat_eq turn.process p ≡ true = grind (arith, nat_tests) in rw t refl

other-cond : (p s : ℕ) (turn : Logged) (rest : List Logged) → turn.process ≢ p → levels_of p s (turn ∷ rest) ≡ levels_of p (s + 1) rest
other-cond p s turn rest ne = let t : nat_eq turn.process p ≡ false = grind (arith, nat_tests) in rw t refl

-- after the numbers of a turn were taken
pub numbers-taken : (log : List Logged) (s : ℕ) (at : TurnAt log s) (p place next : ℕ) (old new : List ℕ) → process_in log s ≡ p → Left log s p place → TakesNumbers (drop place (levels_of p 0 log)) s old new (drop next (levels_of p 0 log))
    → (new ≡ old ++ at.turn.seen) × (drop next (levels_of p 0 log) ≡ levels_of p (s + 1) (drop (s + 1) log))
numbers-taken log s at p place next old new is left takes =
    let here : drop place (levels_of p 0 log) ≡ under s at.turn.seen ++ levels_of p (s + 1) (drop (s + 1) log) = left.1 ∙ ap (levels_of p s) at.rest ∙ own-cond p s at.turn (drop (s + 1) log) (at.process ∙ is) in
    let numbers : numbers_under s (drop place (levels_of p 0 log)) ≡ at.turn.seen =
    ap (numbers_under s) here ∙ numbers-under s at.turn.seen (levels_of p (s + 1) (drop (s + 1) log)) ∙ ap (λ (xs : List ℕ). at.turn.seen ++ xs) (numbers-none s p (s + 1) (drop (s + 1) log) (omega arith)) ∙ append-nil at.turn.seen in
    let after : after_numbers s (drop place (levels_of p 0 log)) ≡ levels_of p (s + 1) (drop (s + 1) log) =
    ap (after_numbers s) here ∙ after-under s at.turn.seen (levels_of p (s + 1) (drop (s + 1) log)) ∙ after-none s p (s + 1) (drop (s + 1) log) (omega arith) in
    (takes.taken ∙ ap (λ (xs : List ℕ). old ++ xs) numbers, takes.left_is ∙ after)

-- what is left of the numbers of every process after the turn
pub left-after : (log : List Logged) (s q next p : ℕ) (places : List ℕ) (at : TurnAt log s) → process_in log s ≡ q → q < length places → next ≤ length (levels_of q 0 log) → drop next (levels_of q 0 log) ≡ levels_of q (s + 1) (drop (s + 1) log)
    → Left log s p (get_or places p 0) → Left log (s + 1) p (get_or (set places q next) p 0)
left-after log s q next p places at is within most own old = elim (same_or_not p q) [
  | inl same ↦ (let here : get_or (set places q next) p 0 ≡ next = ap (λ (m : ℕ). get_or (set places q next) m 0) same ∙ get_or-set_same places q next 0 within in
      subst (λ (m : ℕ). Left log (s + 1) p m) (sym here) (subst (λ (m : ℕ). Left log (s + 1) m next) (sym same) (most, own)))
  | inr ne ↦ (let here : get_or (set places q next) p 0 ≡ get_or places p 0 = get_or-set_other places q p next 0 ne in
      let other : at.turn.process ≢ p = λ e. ne (sym e ∙ at.process ∙ is) in
      subst (λ (m : ℕ). Left log (s + 1) p m) (sym here) (old.0, old.1 ∙ ap (levels_of p s) at.rest ∙ other-cond p s at.turn (drop (s + 1) log) other))
]

-- where lists together are none, each is
none-left : {A : Type 0} (xs ys : List A) → xs ++ ys ≡ [] → xs ≡ []
none-left [] ys is = refl
none-left (x ∷ xs) ys is = absurd (cc)

none-right : {A : Type 0} (xs ys : List A) → xs ++ ys ≡ [] → ys ≡ []
none-right [] ys is = is
none-right (x ∷ xs) ys is = absurd (cc)

none-under : (n : ℕ) (xs : List ℕ) → under n xs ≡ [] → xs ≡ []
none-under n [] is = refl
none-under n (x ∷ xs) is = absurd (cc)

none-later : (b : Bool) (xs ys : List (ℕ × ℕ)) → cond b (xs ++ ys) ys ≡ [] → ys ≡ []
none-later true xs ys is = none-right xs ys is
none-later false xs ys is = is

-- where each turn is of a process that remembers no number, no turn saw one
none-seen : (n : ℕ) (log : List Logged) → ((k : ℕ) → k < length log → levels_of (process_in log k) n log ≡ []) → flat_map (λ turn. turn.seen) log ≡ []
none-seen n [] none = refl
none-seen n (turn ∷ log) none =
    let first : turn.seen ≡ [] = none-under n turn.seen (none-left (under n turn.seen) (levels_of turn.process (n + 1) log) (sym (own-cond turn.process n turn log refl) ∙ none zero (omega arith))) in
    let rest : flat_map (λ t. t.seen) log ≡ [] = none-seen (n + 1) log (λ k within. none-later (nat_eq turn.process (process_in log k)) (under n turn.seen) (levels_of (process_in log k) (n + 1) log) (none (suc k) (omega (arith, within)))) in
    ap (λ (xs : List ℕ). xs ++ flat_map (λ t. t.seen) log) first ∙ rest

and-left : (a b : Bool) → (a && b) ≡ true → a ≡ true
and-left true b both = refl
and-left false b both = both

and-right : (a b : Bool) → (a && b) ≡ true → b ≡ true
and-right true b both = both
and-right false b both = absurd (cc)

and-both : (a b : Bool) → a ≡ true → b ≡ true → (a && b) ≡ true
and-both true b first second = second
and-both false b first second = first

no-levels : (levels : List (ℕ × ℕ)) → (length levels == 0) ≡ true → levels ≡ []
no-levels [] is = refl
no-levels (level ∷ levels) is = let none : length (level ∷ levels) ≡ 0 = grind (arith, nat_tests, is) in absurd (omega (arith, none))

-- The body remembers no number.
abbrev pub saw_none : {K : Type 0} → BodyValue K → Bool
saw_none b = length b.levels == 0

-- One body more that remembers none.
pub none-more : {K : Type 0} (bodies : List (BodyValue K)) (p : ℕ) (b : BodyValue K) → slice_get bodies p ≡ Some b → saw_none b ≡ true → list_all saw_none (take p bodies) ≡ true → list_all saw_none (take (p + 1) bodies) ≡ true
none-more bodies p b there none before =
    list_all_more saw_none bodies p b (slice_get_within bodies p b there)
    ∙ and-both (list_all saw_none (take p bodies)) (saw_none (get_or bodies p b)) before (ap saw_none (get_or_from_slice_get bodies p b b there) ∙ none)

-- One that remembers some.
pub not-none : {K : Type 0} (bodies : List (BodyValue K)) (p : ℕ) (b : BodyValue K) → slice_get bodies p ≡ Some b → saw_none b ≡ false → list_all saw_none bodies ≡ false
not-none bodies p b there some = list_all_at saw_none bodies p b (slice_get_within bodies p b there) (ap saw_none (get_or_from_slice_get bodies p b b there) ∙ some)

remembers-none : {K : Type 0} (bodies : List (BodyValue K)) (p : ℕ) (b : BodyValue K) → list_all saw_none bodies ≡ true → slice_get bodies p ≡ Some b → b.levels ≡ []
remembers-none [] p b all there = absurd (cc)
remembers-none {K} (x ∷ bodies) zero b all there =
    let same : x ≡ b = cc in
    ap (λ (y : BodyValue K). y.levels) (sym same) ∙ no-levels x.levels (and-left (saw_none x) (list_all saw_none bodies) all)
remembers-none (x ∷ bodies) (suc p) b all there = remembers-none bodies p b (and-right (saw_none x) (list_all saw_none bodies) all) there

-- Where no body remembers a number, the turns of the net saw none.
pub names-none : {K : Type 0} (net : NetValue K) → sum_by (λ (b : BodyValue K). length b.stamps) net.bodies ≡ turns_made net → list_all saw_none net.bodies ≡ true → NamesSeen net []
names-none net counted all log is = sym (none-seen 0 log (λ k within.
    (let b = there-is net.bodies (process_in log k) (process-below net log is counted k within) in
    sym (is.logs (process_in log k) b.0 b.1).1 ∙ remembers-none net.bodies (process_in log k) b.0 all b.1)))
