-- Who follows, from the lowest blocked process on, for whom each waits comes back, and in one way.
use Rattle.std.proofs.Common.{◌≡◌, ◌≢◌, ◌⊎◌, ℕ, ◌+◌, ◌<◌, Bool, true, false, List, [], ◌∷◌, ◌++◌, length, length-append, Option, Some, None, refl, sym, ap, ◌∙◌, subst, cond, ◌||◌, nat_eq, arith, inl, inr, zero, suc}
use Rattle.std.specs.List.{list_any, IsDistinct, AllByRecursion}
use Rattle.std.specs.Cmp.{nat_eq_equiv}
use Rattle.std.proofs.lemmas.Bool.Decides.{nat_tests}
use Rattle.std.proofs.lemmas.List.{length-map}
use Rattle.std.proofs.lemmas.Map.Keys.{IsDistinct-push, IsDistinct-head, IsDistinct-tail}
use Rattle.std.proofs.lemmas.Map.Steps.{length-le_from_distinct_below}
use Rattle.flow_plan.specs.Network.{Network as Plan}
use Rattle.flow_model.specs.States.{Kept}
use Rattle.flow_cycle.specs.declared.Waits.{Waits}
use Rattle.flow_cycle.proofs.Blocked.{one-of}
use Rattle.flow_cycle.specs.Waiting.{waits_at, Follows, waiting, rest_from, went, walk, IsWaitingCycle}

-- Numbers none of which stands twice

distinct-any : (x : ℕ) (xs : List ℕ) → AllByRecursion (λ y. nat_eq x y ≡ false) xs → list_any (nat_eq x) xs ≡ false
distinct-any x [] all = refl
distinct-any x (y ∷ xs) all = ap (λ b. b || list_any (nat_eq x) xs) all.0 ∙ distinct-any x xs all.1

-- the first isn't among the others
head-apart : (x : ℕ) (xs : List ℕ) → IsDistinct nat_eq (x ∷ xs) → list_any (nat_eq x) xs ≡ true → ⊥
head-apart x xs distinct any = (let h : true ≡ false = sym any ∙ distinct-any x xs (IsDistinct-head nat_eq x xs distinct) in cc)

any-within : (x : ℕ) (xs ys : List ℕ) → list_any (nat_eq x) (xs ++ x ∷ ys) ≡ true
any-within x [] ys = let t : nat_eq x x ≡ true = grind (arith, nat_tests) in ap (λ b. b || list_any (nat_eq x) ys) t
any-within x (z ∷ xs) ys = by (nat_eq x z) (any-within x xs ys)
  where
    by : (b : Bool) → list_any (nat_eq x) (xs ++ x ∷ ys) ≡ true → (b || list_any (nat_eq x) (xs ++ x ∷ ys)) ≡ true
    by true rest = refl
    by false rest = rest

any-before : (x : ℕ) (xs ys : List ℕ) → list_any (nat_eq x) xs ≡ true → list_any (nat_eq x) (xs ++ ys) ≡ true
any-before x [] ys is = absurd (cc)
any-before x (z ∷ xs) ys is = by (nat_eq x z) is (any-before x xs ys)
  where
    by : (b : Bool) → (b || list_any (nat_eq x) xs) ≡ true → (list_any (nat_eq x) xs ≡ true → list_any (nat_eq x) (xs ++ ys) ≡ true) → (b || list_any (nat_eq x) (xs ++ ys)) ≡ true
    by true is rest = refl
    by false is rest = rest is

-- no number that stands before stands again
twice : (xs : List ℕ) (x : ℕ) (ys : List ℕ) → list_any (nat_eq x) xs ≡ true → IsDistinct nat_eq (xs ++ x ∷ ys) → ⊥
twice [] x ys any distinct = cc
twice (z ∷ xs) x ys any distinct = by (nat_eq x z) refl any (λ later. twice xs x ys later (IsDistinct-tail nat_eq z (xs ++ x ∷ ys) distinct))
  where
    by : (b : Bool) → nat_eq x z ≡ b → (b || list_any (nat_eq x) xs) ≡ true → (list_any (nat_eq x) xs ≡ true → ⊥) → ⊥
    by true t any on = (let h : x ≡ z = grind (arith, nat_tests) in head-apart z (xs ++ x ∷ ys) distinct (subst (λ (k : ℕ). list_any (nat_eq k) (xs ++ x ∷ ys) ≡ true) h (any-within x xs ys)))
    by false t any on = on any

waiting-append : (front back : List Waits) → waiting (front ++ back) ≡ waiting front ++ waiting back
waiting-append [] back = refl
waiting-append (w ∷ front) back = ap (λ ps. w.process ∷ ps) (waiting-append front back)

true-or-false : (b : Bool) → (b ≡ true) ⊎ (b ≡ false)
true-or-false true = inl refl
true-or-false false = inr refl

module _ {K : Type 0} (plan : Plan) (kept : Kept K) (names : (p : ℕ) (w : Waits) → waits_at plan kept p ≡ Some w → w.process ≡ p) where
  -- one more
  follows-more : (p : ℕ) (way : List Waits) (q : ℕ) (w : Waits) → Follows plan kept p way q → waits_at plan kept q ≡ Some w → Follows plan kept p (way ++ w ∷ []) w.to
  follows-more p [] q w follows is = (ap (waits_at plan kept) follows ∙ is, refl)
  follows-more p (v ∷ way) q w follows is = (follows.0, follows-more v.to way q w follows.1 is)

  -- a way on which a process stands, at its first place
  record Parts (p : ℕ) (way : List Waits) (q : ℕ) : Type 0 where
    front : List Waits
    back : List Waits
    whole : way ≡ front ++ back
    leads : Follows plan kept p front q
    round : Follows plan kept q back q
    some : back ≢ []
    rest : rest_from q way ≡ Some back

  parts-later : (p : ℕ) (w : Waits) (way : List Waits) (q : ℕ) → waits_at plan kept p ≡ Some w → nat_eq q w.process ≡ false → Parts w.to way q → Parts p (w ∷ way) q
  parts-later p w way q is t parts = record {
    front = w ∷ parts.front;
    back = parts.back;
    whole = ap (λ ws. w ∷ ws) parts.whole;
    leads = (is, parts.leads);
    round = parts.round;
    some = parts.some;
    rest = ap (λ b. cond b (Some (w ∷ way)) (rest_from q way)) t ∙ parts.rest;
  }

  parts-of : (p : ℕ) (way : List Waits) (q : ℕ) → Follows plan kept p way q → list_any (nat_eq q) (waiting way) ≡ true → Parts p way q
  parts-of p [] q follows any = absurd (cc)
  parts-of p (w ∷ way) q follows any = by (nat_eq q w.process) refl any (λ later. parts-of w.to way q follows.1 later)
    where
      by : (b : Bool) → nat_eq q w.process ≡ b → (b || list_any (nat_eq q) (waiting way)) ≡ true → (list_any (nat_eq q) (waiting way) ≡ true → Parts w.to way q) → Parts p (w ∷ way) q
      by true t any on =
          let here : q ≡ w.process = grind (arith, nat_tests) in
          let same : p ≡ q = sym (here ∙ names p w follows.0) in
          record { front = []; back = w ∷ way; whole = refl; leads = same; round = subst (λ (k : ℕ). Follows plan kept k (w ∷ way) q) same follows; some = λ h. cc; rest = ap (λ b. cond b (Some (w ∷ way)) (rest_from q way)) t }
      by false t any on = parts-later p w way q follows.0 t (on any)

  none-rest : (q : ℕ) (way : List Waits) → list_any (nat_eq q) (waiting way) ≡ false → rest_from q way ≡ None
  none-rest q [] none = refl
  none-rest q (w ∷ way) none = by (nat_eq q w.process) none (none-rest q way)
    where
      by : (b : Bool) → (b || list_any (nat_eq q) (waiting way)) ≡ false → (list_any (nat_eq q) (waiting way) ≡ false → rest_from q way ≡ None) → cond b (Some (w ∷ way)) (rest_from q way) ≡ None
      by true h rest = absurd (cc)
      by false h rest = rest h

  module _ (n : ℕ) (IsBlocked : ℕ → Type 0) (below : (p : ℕ) → IsBlocked p → p < n) (step : (p : ℕ) → IsBlocked p → (w : Waits) × (waits_at plan kept p ≡ Some w) × IsBlocked w.to) where
    -- all that wait here are below n
    abbrev AllBelow : List Waits → Type 0
    AllBelow way = (q : ℕ) → list_any (nat_eq q) (waiting way) ≡ true → q < n

    below-more : (way : List Waits) (w : Waits) → AllBelow way → w.process < n → AllBelow (way ++ w ∷ [])
    below-more way w all here q any = by (list_any (nat_eq q) (waiting way)) (nat_eq q w.process) refl refl (sym (any-split q (waiting way) w.process) ∙ ap (list_any (nat_eq q)) (sym (waiting-append way (w ∷ []))) ∙ any)
      where
        any-split : (x : ℕ) (xs : List ℕ) (y : ℕ) → list_any (nat_eq x) (xs ++ y ∷ []) ≡ (list_any (nat_eq x) xs || nat_eq x y)
        any-split x [] y = last (nat_eq x y)
          where
            last : (b : Bool) → (b || false) ≡ b
            last true = refl
            last false = refl
        any-split x (z ∷ xs) y = both (nat_eq x z) (any-split x xs y)
          where
            both : (b : Bool) → list_any (nat_eq x) (xs ++ y ∷ []) ≡ (list_any (nat_eq x) xs || nat_eq x y) → (b || list_any (nat_eq x) (xs ++ y ∷ [])) ≡ ((b || list_any (nat_eq x) xs) || nat_eq x y)
            both true h = refl
            both false h = h

        by : (a b : Bool) → list_any (nat_eq q) (waiting way) ≡ a → nat_eq q w.process ≡ b → (a || b) ≡ true → q < n
        by true b h k is = all q h
        by false true h k is = (let same : q ≡ w.process = grind (arith, nat_tests) in let l = here in omega (arith, same, l))
        by false false h k is = absurd (cc)

    -- What a walk comes to.
    pub record Found (steps first : ℕ) (way : List Waits) (p : ℕ) : Type 0 where
      pub whole : List Waits
      pub entry : ℕ
      pub cycle : List Waits
      pub leads : Follows plan kept first whole entry
      pub back : Follows plan kept entry cycle entry
      pub some : cycle ≢ []
      pub once : IsDistinct nat_eq (waiting (whole ++ cycle))
      pub found : walk (waits_at plan kept) steps way p ≡ Some cycle

    -- A walk comes back before it has gone farther than there are processes.
    pub walks : (steps first : ℕ) (way : List Waits) (p : ℕ) → Follows plan kept first way p → IsDistinct nat_eq (waiting way) → AllBelow way → IsBlocked p → n < length way + steps → Found steps first way p
    walks zero first way p follows distinct all is_blocked enough =
        let most = length-le_from_distinct_below (waiting way) n distinct all in
        absurd (let a = length-map way (λ (v : Waits). v.process) in omega (arith, most, a, enough))
    walks (suc steps) first way p follows distinct all is_blocked enough =
        by (list_any (nat_eq p) (waiting way)) refl (λ farther q f d a b e. walks steps first farther q f d a b e)
      where
        w : Waits
        w = (step p is_blocked).0

        at : waits_at plan kept p ≡ Some w
        at = (step p is_blocked).1

        name : w.process ≡ p
        name = names p w at

        on : Waits → Option (List Waits)
        on v = walk (waits_at plan kept) steps (way ++ v ∷ []) v.to

        fresh : list_any (nat_eq p) (waiting way) ≡ false → IsDistinct nat_eq (waiting (way ++ w ∷ []))
        fresh none =
            subst (IsDistinct nat_eq) (sym (waiting-append way (w ∷ []))) (
            IsDistinct-push nat_eq_equiv (waiting way) w.process distinct (ap (λ (k : ℕ). list_any (nat_eq k) (waiting way)) name ∙ none)
            )

        now_below : AllBelow (way ++ w ∷ [])
        now_below = below-more way w all (let l = below p is_blocked in let h = name in omega (arith, l, h))

        by : (b : Bool) → list_any (nat_eq p) (waiting way) ≡ b
            → ((farther : List Waits) (q : ℕ) → Follows plan kept first farther q → IsDistinct nat_eq (waiting farther) → AllBelow farther → IsBlocked q → n < length farther + steps → Found steps first farther q)
            → Found (suc steps) first way p
        by true any again =
            let parts = parts-of first way p follows any in
            record {
              whole = parts.front;
              entry = p;
              cycle = parts.back;
              leads = parts.leads;
              back = parts.round;
              some = parts.some;
              once = subst (λ (ws : List Waits). IsDistinct nat_eq (waiting ws)) parts.whole distinct;
              found = ap (λ r. went r (waits_at plan kept p) on) parts.rest;
            }
        by false none again =
            let longer = length-append way (w ∷ []) in
            let more = again (way ++ w ∷ []) w.to (follows-more first way p w follows at) (fresh none) now_below (step p is_blocked).2 (omega (arith, longer, enough)) in
            record {
              whole = more.whole;
              entry = more.entry;
              cycle = more.cycle;
              leads = more.leads;
              back = more.back;
              some = more.some;
              once = more.once;
              found = ap (λ r. went r (waits_at plan kept p) on) (none-rest p way none) ∙ ap (λ r. went None r on) at ∙ more.found;
            }

  -- The same way, once

  follows-append : (p : ℕ) (front back : List Waits) (q r : ℕ) → Follows plan kept p front q → Follows plan kept q back r → Follows plan kept p (front ++ back) r
  follows-append p [] back q r first second = subst (λ (k : ℕ). Follows plan kept k back r) (sym first) second
  follows-append p (w ∷ front) back q r first second = (first.0, follows-append w.to front back q r first.1 second)

  -- of two ways from one process one is the front of the other
  data OneIsFront (a : List Waits) (p : ℕ) (b : List Waits) (q : ℕ) : Type 0 where
    same : a ≡ b → p ≡ q → OneIsFront a p b q
    shorter : (w : Waits) (more : List Waits) → b ≡ a ++ w ∷ more → w.process ≡ p → OneIsFront a p b q
    longer : (w : Waits) (more : List Waits) → a ≡ b ++ w ∷ more → w.process ≡ q → OneIsFront a p b q

  one-front : (first : ℕ) (a : List Waits) (p : ℕ) (b : List Waits) (q : ℕ) → Follows plan kept first a p → Follows plan kept first b q → OneIsFront a p b q
  one-front first [] p [] q one two = same refl (sym one ∙ two)
  one-front first [] p (w ∷ b) q one two = shorter w b refl (names first w two.0 ∙ one)
  one-front first (w ∷ a) p [] q one two = longer w a refl (names first w one.0 ∙ two)
  one-front first (w ∷ a) p (v ∷ b) q one two =
      let head : w ≡ v = one-of w v (sym one.0 ∙ two.0) in
      by head (one-front v.to a p b q (subst (λ (k : Waits). Follows plan kept k.to a p) head one.1) two.1)
    where
      by : w ≡ v → OneIsFront a p b q → OneIsFront (w ∷ a) p (v ∷ b) q
      by head (same is at) = same (λ i. head i ∷ is i) at
      by head (shorter u more is at) = shorter u more (λ i. sym head i ∷ is i) at
      by head (longer u more is at) = longer u more (λ i. head i ∷ is i) at

  -- the first of a round is of the process where it begins
  round-first : (entry : ℕ) (cycle : List Waits) → Follows plan kept entry cycle entry → cycle ≢ [] → (w : Waits) × (rest : List Waits) × (cycle ≡ w ∷ rest) × (w.process ≡ entry)
  round-first entry [] round some = absurd (some refl)
  round-first entry (w ∷ rest) round some = (w, rest, refl, names entry w round.0)

  -- no way goes on behind a round
  none-behind : (way : List Waits) (entry : ℕ) (cycle : List Waits) (w : Waits) (more : List Waits) → Follows plan kept entry cycle entry → cycle ≢ [] → w.process ≡ entry → IsDistinct nat_eq (waiting ((way ++ cycle) ++ w ∷ more)) → ⊥
  none-behind way entry cycle w more round some at distinct =
      let first = round-first entry cycle round some in
      let any : list_any (nat_eq w.process) (waiting (way ++ cycle)) ≡ true =
      ap (list_any (nat_eq w.process)) (waiting-append way cycle ∙ (λ i. waiting way ++ waiting (first.2 i)) ∙ (λ i. waiting way ++ (first.3 ∙ sym at) i ∷ waiting first.1)) ∙ any-within w.process (waiting way) (waiting first.1) in
      twice (waiting (way ++ cycle)) w.process (waiting more) any (subst (IsDistinct nat_eq) (waiting-append (way ++ cycle) (w ∷ more)) distinct)

  -- a round is what follows the first process of it
  same-rest : (way other : List Waits) (w v : Waits) (rest more : List Waits) → way ++ w ∷ rest ≡ other ++ v ∷ more → w.process ≡ v.process → IsDistinct nat_eq (waiting (way ++ w ∷ rest)) → w ∷ rest ≡ v ∷ more
  same-rest [] [] w v rest more is at distinct = is
  same-rest [] (u ∷ other) w v rest more is at distinct =
      let parts : (w ≡ u) × (rest ≡ other ++ v ∷ more) = ((cc), (cc)) in
      absurd (head-apart w.process (waiting rest) distinct (
      ap (list_any (nat_eq w.process)) (ap waiting parts.1 ∙ waiting-append other (v ∷ more) ∙ (λ i. waiting other ++ sym at i ∷ waiting more)) ∙ any-within w.process (waiting other) (waiting more)
      ))
  same-rest (u ∷ way) [] w v rest more is at distinct =
      let parts : (u ≡ v) × (way ++ w ∷ rest ≡ more) = ((cc), (cc)) in
      absurd (head-apart u.process (waiting (way ++ w ∷ rest)) distinct (
      ap (λ (k : ℕ). list_any (nat_eq k) (waiting (way ++ w ∷ rest))) (ap (λ (x : Waits). x.process) parts.0 ∙ sym at)
      ∙ ap (list_any (nat_eq w.process)) (waiting-append way (w ∷ rest)) ∙ any-within w.process (waiting way) (waiting rest)
      ))
  same-rest (u ∷ way) (t ∷ other) w v rest more is at distinct =
      same-rest way other w v rest more (let parts : way ++ w ∷ rest ≡ other ++ v ∷ more = cc in parts) at (IsDistinct-tail nat_eq u.process (waiting (way ++ w ∷ rest)) distinct)

  -- there is one waiting cycle
  pub one-cycle : (a b : List Waits) → IsWaitingCycle plan kept a → IsWaitingCycle plan kept b → a ≡ b
  one-cycle a b one two =
      let lowest : one.lowest ≡ two.lowest = one-of one.lowest two.lowest (sym one.is_lowest ∙ two.is_lowest) in
      let first = follows-append one.lowest one.way a one.entry one.entry one.leads one.back in
      let second = subst (λ (k : ℕ). Follows plan kept k (two.way ++ b) two.entry) (sym lowest) (follows-append two.lowest two.way b two.entry two.entry two.leads two.back) in
      by (one-front one.lowest (one.way ++ a) one.entry (two.way ++ b) two.entry first second)
    where
      by : OneIsFront (one.way ++ a) one.entry (two.way ++ b) two.entry → a ≡ b
      by (shorter w more is at) = absurd (none-behind one.way one.entry a w more one.back one.some at (subst (λ (ws : List Waits). IsDistinct nat_eq (waiting ws)) is two.once))
      by (longer w more is at) = absurd (none-behind two.way two.entry b w more two.back two.some at (subst (λ (ws : List Waits). IsDistinct nat_eq (waiting ws)) is one.once))
      by (same is at) =
          let x = round-first one.entry a one.back one.some in
          let y = round-first two.entry b two.back two.some in
          let whole : one.way ++ x.0 ∷ x.1 ≡ two.way ++ y.0 ∷ y.1 = ap (λ ws. one.way ++ ws) (sym x.2) ∙ is ∙ ap (λ ws. two.way ++ ws) y.2 in
          x.2 ∙ same-rest one.way two.way x.0 y.0 x.1 y.1 whole (x.3 ∙ at ∙ sym y.3) (subst (λ (ws : List Waits). IsDistinct nat_eq (waiting (one.way ++ ws))) x.2 one.once) ∙ sym y.2
