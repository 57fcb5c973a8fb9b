-- Which senders are open, from how many; and how many are, from which.
use Rattle.std.proofs.Common.{◌≡◌, ℕ, ◌+◌, ◌≤◌, ◌&&◌, ◌||◌, ◌⊎◌, Bool, true, false, cond, List, [], ◌∷◌, length, Option, Some, None, suc, zero, refl, ap, sym, ◌∙◌, subst, arith, nat_eq, slice_get, inl, inr, IsTrue, take}
use Rattle.std.specs.Prelude.{count_by, filter}
use Rattle.std.specs.List.{list_any}
use Rattle.std.proofs.lemmas.Bool.Decides.{nat_tests}
use Rattle.std.proofs.lemmas.List.Sums.{sum_by-cons}
use Rattle.flow_plan.specs.declared.plan.Sender.{Sender}
use Rattle.flow_model.specs.declared.Stage.{Stage}
use Rattle.flow_model.specs.declared.Stage.TheVariants as stages
use Rattle.flow_model.specs.States.{is_sender, without_sender, Outlet, outlets_from}
use Rattle.flow_model.specs.Stages.{HasToClose, IsFailedStage}
use Rattle.flow_model.specs.Valid.{IsOpenSender, AllDifferent}
use Rattle.flow_model.proofs.Senders.{length-without_sender, both-true, stays-open}
use Rattle.flow_machine.specs.Joins.{closes_later, leaves_open}

-- a count with one that passes, and with one that doesn't
pub counted-yes : (x y o : ℕ) (c : Bool) → x ≡ cond c o 0 + y → c ≡ true → x ≡ o + y
counted-yes x y o c is t = rw t at is

-- What isn't counted adds nothing.
pub counted-no : (x y o : ℕ) (c : Bool) → x ≡ cond c o 0 + y → c ≡ false → x ≡ y
counted-no x y o c is t = let z : x ≡ 0 + y = rw t at is in omega (arith, z)

-- two senders that are one
pub same-sender : (s t : Sender) → is_sender s t ≡ true → s ≡ t
same-sender s t is = let b = both-true s.process t.process s.output t.output is in λ i. record { process = b.0 i; output = b.1 i }

-- A sender is itself.
pub sender-itself : (s : Sender) → is_sender s s ≡ true
sender-itself s = let t : nat_eq s.process s.process ≡ true = grind (arith, nat_tests) in let u : nat_eq s.output s.output ≡ true = grind (arith, nat_tests) in rw (t, u) refl

eq-sym : (a b : ℕ) → nat_eq a b ≡ nat_eq b a
eq-sym a b = grind (arith, nat_tests)

-- Two senders are the same in both directions.
pub sender-sym : (s t : Sender) → is_sender s t ≡ is_sender t s
sender-sym s t = λ i. eq-sym s.process t.process i && eq-sym s.output t.output i

-- among the first and the rest
pub among-cases : (s t : Sender) (ss : List Sender) → IsOpenSender s (t ∷ ss) → (is_sender s t ≡ true) ⊎ ((is_sender s t ≡ false) × IsOpenSender s ss)
among-cases s t ss is = by (is_sender s t) refl is
  where
    by : (b : Bool) → is_sender s t ≡ b → IsTrue (b || list_any (is_sender s) ss) → (is_sender s t ≡ true) ⊎ ((is_sender s t ≡ false) × IsOpenSender s ss)
    by true h is = inl h
    by false h is = inr (h, is)

-- A sender among the others is among all.
pub among-rest : (s t : Sender) (ss : List Sender) → IsOpenSender s ss → IsOpenSender s (t ∷ ss)
among-rest s t ss is = by (is_sender s t)
  where
    by : (b : Bool) → IsTrue (b || list_any (is_sender s) ss)
    by true = refl
    by false = is

-- A sender that is the first is among all.
pub among-first : (s t : Sender) (ss : List Sender) → is_sender s t ≡ true → IsOpenSender s (t ∷ ss)
among-first s t ss is = rw is refl

-- a sender, where one is left
abbrev spend : Sender → (ℕ → List Sender) → ℕ → List Sender
spend s rest zero = rest zero
spend s rest (suc n) = s ∷ rest n

module _ (later left : Sender → Bool) where
  -- all senders that are so, and as many of the others that may be open as are left
  abbrev pub picked : List Sender → ℕ → List Sender
  picked [] m = []
  picked (s ∷ ss) m = cond (later s) (s ∷ picked ss m) (cond (left s) (spend s (λ n. picked ss n) m) (picked ss m))

  picked-among : (t : Sender) (ss : List Sender) (m : ℕ) → IsOpenSender t (picked ss m) → IsOpenSender t ss
  picked-among t [] m is = is
  picked-among t (s ∷ ss) m is = by (λ n. picked-among t ss n) (later s) (left s) is
    where
      keep : ((n : ℕ) → IsOpenSender t (picked ss n) → IsOpenSender t ss) → (n : ℕ) → IsOpenSender t (s ∷ picked ss n) → IsOpenSender t (s ∷ ss)
      keep more n is = elim (among-cases t s (picked ss n) is) [ inl same ↦ among-first t s ss same | inr rest ↦ among-rest t s ss (more n rest.1) ]

      spent : ((n : ℕ) → IsOpenSender t (picked ss n) → IsOpenSender t ss) → (m : ℕ) → IsOpenSender t (spend s (λ n. picked ss n) m) → IsOpenSender t (s ∷ ss)
      spent more zero is = among-rest t s ss (more zero is)
      spent more (suc n) is = keep more n is

      by : ((n : ℕ) → IsOpenSender t (picked ss n) → IsOpenSender t ss) → (a b : Bool) → IsOpenSender t (cond a (s ∷ picked ss m) (cond b (spend s (λ n. picked ss n) m) (picked ss m))) → IsOpenSender t (s ∷ ss)
      by more true b is = keep more m is
      by more false true is = spent more m is
      by more false false is = among-rest t s ss (more m is)

  -- no sender twice
  pub picked-different : (ss : List Sender) (m : ℕ) → AllDifferent ss → AllDifferent (picked ss m)
  picked-different [] m different = tt
  picked-different (s ∷ ss) m different = by (λ n. picked-different ss n different.1) (later s) (left s)
    where
      keep : ((n : ℕ) → AllDifferent (picked ss n)) → (n : ℕ) → AllDifferent (s ∷ picked ss n)
      keep more n = ((λ is. different.0 (picked-among s ss n is)), more n)

      spent : ((n : ℕ) → AllDifferent (picked ss n)) → (m : ℕ) → AllDifferent (spend s (λ n. picked ss n) m)
      spent more zero = more zero
      spent more (suc n) = keep more n

      by : ((n : ℕ) → AllDifferent (picked ss n)) → (a b : Bool) → AllDifferent (cond a (s ∷ picked ss m) (cond b (spend s (λ n. picked ss n) m) (picked ss m)))
      by more true b = keep more m
      by more false true = spent more m
      by more false false = more m

  -- only senders that may be open
  pub picked-only : ((s : Sender) → later s ≡ true → left s ≡ true) → (t : Sender) (ss : List Sender) (m : ℕ) → IsOpenSender t (picked ss m) → (left t ≡ true) × IsOpenSender t ss
  picked-only implies t [] m is = absurd (cc)
  picked-only implies t (s ∷ ss) m is = by (λ n. picked-only implies t ss n) (later s) (left s) refl refl is
    where
      keep : ((n : ℕ) → IsOpenSender t (picked ss n) → (left t ≡ true) × IsOpenSender t ss) → (n : ℕ) → left s ≡ true → IsOpenSender t (s ∷ picked ss n) → (left t ≡ true) × IsOpenSender t (s ∷ ss)
      keep more n may is = elim (among-cases t s (picked ss n) is) [
        | inl same ↦ (ap left (same-sender t s same) ∙ may, among-first t s ss same)
        | inr rest ↦ (let r = more n rest.1 in (r.0, among-rest t s ss r.1))
      ]

      spent : ((n : ℕ) → IsOpenSender t (picked ss n) → (left t ≡ true) × IsOpenSender t ss) → (m : ℕ) → left s ≡ true → IsOpenSender t (spend s (λ n. picked ss n) m) → (left t ≡ true) × IsOpenSender t (s ∷ ss)
      spent more zero may is = let r = more zero is in (r.0, among-rest t s ss r.1)
      spent more (suc n) may is = keep more n may is

      by : ((n : ℕ) → IsOpenSender t (picked ss n) → (left t ≡ true) × IsOpenSender t ss) → (a b : Bool) → later s ≡ a → left s ≡ b → IsOpenSender t (cond a (s ∷ picked ss m) (cond b (spend s (λ n. picked ss n) m) (picked ss m))) → (left t ≡ true) × IsOpenSender t (s ∷ ss)
      by more true b h k is = keep more m (implies s h) is
      by more false true h k is = spent more m k is
      by more false false h k is = let r = more m is in (r.0, among-rest t s ss r.1)

  -- all senders that are so
  pub picked-all : (t : Sender) (ss : List Sender) (m : ℕ) → later t ≡ true → IsOpenSender t ss → IsOpenSender t (picked ss m)
  picked-all t [] m so is = is
  picked-all t (s ∷ ss) m so is = elim (among-cases t s ss is) [
    | inl same ↦ (let t' : later s ≡ true = ap later (sym (same-sender t s same)) ∙ so in rw t' (among-first t s (picked ss m) same))
    | inr rest ↦ by (λ n. picked-all t ss n so rest.1) (later s) (left s)
  ]
    where
      spent : ((n : ℕ) → IsOpenSender t (picked ss n)) → (m : ℕ) → IsOpenSender t (spend s (λ n. picked ss n) m)
      spent more zero = more zero
      spent more (suc n) = among-rest t s (picked ss n) (more n)

      by : ((n : ℕ) → IsOpenSender t (picked ss n)) → (a b : Bool) → IsOpenSender t (cond a (s ∷ picked ss m) (cond b (spend s (λ n. picked ss n) m) (picked ss m)))
      by more true b = among-rest t s (picked ss m) (more m)
      by more false true = spent more m
      by more false false = more m

  counts-rise : ((s : Sender) → later s ≡ true → left s ≡ true) → (ss : List Sender) → count_by later ss ≤ count_by left ss
  counts-rise implies [] = omega arith
  counts-rise implies (s ∷ ss) = omega (arith, counts-rise implies ss, sum_by-cons (λ t. cond (later t) 1 0) s ss, sum_by-cons (λ t. cond (left t) 1 0) s ss, by (later s) refl)
    where
      by : (a : Bool) → later s ≡ a → cond a 1 0 ≤ cond (left s) 1 0
      by true h = rw (implies s h) (omega arith)
      by false h = omega arith

  -- as many as are wanted
  pub picked-length : ((s : Sender) → later s ≡ true → left s ≡ true) → (ss : List Sender) (m : ℕ) → count_by later ss + m ≤ count_by left ss → length (picked ss m) ≡ count_by later ss + m
  picked-length implies [] m most = omega (arith, most)
  picked-length implies (s ∷ ss) m most = by (λ n fits. picked-length implies ss n fits) (later s) (left s) refl refl (sum_by-cons (λ t. cond (later t) 1 0) s ss) (sum_by-cons (λ t. cond (left t) 1 0) s ss)
    where
      spent : ((n : ℕ) → count_by later ss + n ≤ count_by left ss → length (picked ss n) ≡ count_by later ss + n) → (m : ℕ) → count_by later ss + m ≤ 1 + count_by left ss → length (spend s (λ n. picked ss n) m) ≡ count_by later ss + m
      spent more zero most = more zero (omega (arith, counts-rise implies ss))
      spent more (suc n) most = let r = more n (omega (arith, most)) in omega (arith, r)

      by : ((n : ℕ) → count_by later ss + n ≤ count_by left ss → length (picked ss n) ≡ count_by later ss + n) → (a b : Bool) → later s ≡ a → left s ≡ b → count_by later (s ∷ ss) ≡ cond (later s) 1 0 + count_by later ss → count_by left (s ∷ ss) ≡ cond (left s) 1 0 + count_by left ss
          → length (cond a (s ∷ picked ss m) (cond b (spend s (λ n. picked ss n) m) (picked ss m))) ≡ count_by later (s ∷ ss) + m
      by more true b h k later_is left_is =
          let l = counted-yes (count_by later (s ∷ ss)) (count_by later ss) 1 (later s) later_is h in
          let f = counted-yes (count_by left (s ∷ ss)) (count_by left ss) 1 (left s) left_is (implies s h) in
          let r = more m (omega (arith, l, f, most)) in omega (arith, l, r)
      by more false true h k later_is left_is =
          let l = counted-no (count_by later (s ∷ ss)) (count_by later ss) 1 (later s) later_is h in
          let f = counted-yes (count_by left (s ∷ ss)) (count_by left ss) 1 (left s) left_is k in
          let r = spent more m (omega (arith, l, f, most)) in omega (arith, l, r)
      by more false false h k later_is left_is =
          let l = counted-no (count_by later (s ∷ ss)) (count_by later ss) 1 (later s) later_is h in
          let f = counted-no (count_by left (s ∷ ss)) (count_by left ss) 1 (left s) left_is k in
          let r = more m (omega (arith, l, f, most)) in omega (arith, l, r)

-- senders that differ, all among others, are no more than these
pub fewer-among : (ss ts : List Sender) → AllDifferent ss → ((s : Sender) → IsOpenSender s ss → IsOpenSender s ts) → length ss ≤ length ts
fewer-among [] ts different within = omega arith
fewer-among (s ∷ ss) ts different within =
    let here = within s (among-first s s ss (sender-itself s)) in
    let shorter = length-without_sender s ts here in
    let rest = fewer-among ss (without_sender s ts) different.1 (λ t is. stays-open t s ts (λ same_p same_o. different.0 (
    let same : t ≡ s = (λ i. record { process = same_p i; output = same_o i }) in subst (λ (u : Sender). IsOpenSender u ss) same is)) (within t (among-rest t s ss is))) in
    omega (arith, shorter, rest)

-- those of some senders that pass
pub passing : (f : Sender → Bool) (s : Sender) (ss : List Sender) → f s ≡ true → IsOpenSender s ss → IsOpenSender s (filter f ss)
passing f s [] so is = is
passing f s (t ∷ ss) so is = elim (among-cases s t ss is) [
  | inl same ↦ (let h : f t ≡ true = ap f (sym (same-sender s t same)) ∙ so in rw h (among-first s t (filter f ss) same))
  | inr rest ↦ by (f t) (passing f s ss so rest.1)
]
  where
    by : (b : Bool) → IsOpenSender s (filter f ss) → IsOpenSender s (cond b (t ∷ filter f ss) (filter f ss))
    by true is = among-rest s t (filter f ss) is
    by false is = is

-- A sender that passed a test is among all, and passes it.
pub passed : (f : Sender → Bool) (s : Sender) (ss : List Sender) → IsOpenSender s (filter f ss) → (f s ≡ true) × IsOpenSender s ss
passed f s [] is = absurd (cc)
passed f s (t ∷ ss) is = by (λ h. passed f s ss h) (f t) refl is
  where
    by : (IsOpenSender s (filter f ss) → (f s ≡ true) × IsOpenSender s ss) → (b : Bool) → f t ≡ b → IsOpenSender s (cond b (t ∷ filter f ss) (filter f ss)) → (f s ≡ true) × IsOpenSender s (t ∷ ss)
    by more true h is = elim (among-cases s t (filter f ss) is) [
      | inl same ↦ (ap f (same-sender s t same) ∙ h, among-first s t ss same)
      | inr rest ↦ (let r = more rest.1 in (r.0, among-rest s t ss r.1))
    ]
    by more false h is = let r = more is in (r.0, among-rest s t ss r.1)

-- Different senders that pass a test are different.
pub passing-different : (f : Sender → Bool) (ss : List Sender) → AllDifferent ss → AllDifferent (filter f ss)
passing-different f [] different = tt
passing-different f (s ∷ ss) different = by (f s) (passing-different f ss different.1)
  where
    by : (b : Bool) → AllDifferent (filter f ss) → AllDifferent (cond b (s ∷ filter f ss) (filter f ss))
    by true rest = ((λ is. different.0 (passed f s ss is).1), rest)
    by false rest = rest

-- the place of a connected output among the connected ones
pub outlet-there : (k : ℕ) (os : List (Option ℕ)) (o c : ℕ) → slice_get os o ≡ Some (Some c) → slice_get (outlets_from k os) (length (outlets_from k (take o os))) ≡ Some (let u : Outlet = record { output = k + o; connection = c } in u)
outlet-there k [] o c is = absurd (cc)
outlet-there k (Some d ∷ os) zero c is = let h : d ≡ c = cc in let z : k ≡ k + zero = omega arith in λ i. Some (record { output = z i; connection = h i })
outlet-there k (None ∷ os) zero c is = absurd (cc)
outlet-there k (Some d ∷ os) (suc o) c is = outlet-there (k + 1) os o c is ∙ (let e : k + 1 + o ≡ k + suc o = omega arith in λ i. Some (record { output = e i; connection = c }))
outlet-there k (None ∷ os) (suc o) c is = outlet-there (k + 1) os o c is ∙ (let e : k + 1 + o ≡ k + suc o = omega arith in λ i. Some (record { output = e i; connection = c }))

-- how many are connected doesn't depend on their numbers
pub outlets-count : (k m : ℕ) (os : List (Option ℕ)) → length (outlets_from k os) ≡ length (outlets_from m os)
outlets-count k m [] = refl
outlets-count k m (Some c ∷ os) = omega (arith, outlets-count (k + 1) (m + 1) os)
outlets-count k m (None ∷ os) = outlets-count (k + 1) (m + 1) os

-- an output among the connected ones, and its place there
pub outlet-from : (k : ℕ) (os : List (Option ℕ)) (j : ℕ) (u : Outlet) → slice_get (outlets_from k os) j ≡ Some u → (o : ℕ) × (u.output ≡ k + o) × (slice_get os o ≡ Some (Some u.connection)) × (length (outlets_from k (take o os)) ≡ j)
outlet-from k [] j u is = absurd (cc)
outlet-from k (Some c ∷ os) zero u is =
    let v : Outlet = record { output = k; connection = c } in let h : v ≡ u = cc in
    let e : k ≡ u.output = ap (λ (w : Outlet). w.output) h in
    (0, omega (arith, e), ap (λ (w : Outlet). Some (Some w.connection)) h, refl)
outlet-from k (Some c ∷ os) (suc j) u is = let r = outlet-from (k + 1) os j u is in (suc r.0, omega (arith, r.1), r.2, omega (arith, r.3))
outlet-from k (None ∷ os) j u is = let r = outlet-from (k + 1) os j u is in (suc r.0, omega (arith, r.1), r.2, r.3)

-- stages
pub later-closes : (j : ℕ) (stage : Stage) → closes_later j stage ≡ true → HasToClose stage j
later-closes j (stages.Closing i) is = grind (arith, nat_tests)
later-closes j stages.Ended is = absurd (cc)
later-closes j (stages.Failed cause) is = absurd (cc)
later-closes j stage is = tt

-- A stage that still has to close an output closes it later.
pub closes-later : (j : ℕ) (stage : Stage) → HasToClose stage j → closes_later j stage ≡ true
closes-later j (stages.Closing i) has = grind (arith, nat_tests)
closes-later j stages.Ended has = absurd has
closes-later j (stages.Failed cause) has = absurd has
closes-later j stage has = refl

-- An output that is closed later is left open now.
pub later-open : (j : ℕ) (stage : Stage) → closes_later j stage ≡ true → leaves_open j stage ≡ true
later-open j (stages.Closing i) is = is
later-open j stages.Ended is = is
later-open j stage is = refl

-- An output that is left open has still to be closed, or its process failed.
pub open-left : (j : ℕ) (stage : Stage) → leaves_open j stage ≡ true → HasToClose stage j ⊎ IsFailedStage stage
open-left j (stages.Closing i) is = inl (grind (arith, nat_tests))
open-left j stages.Ended is = absurd (cc)
open-left j (stages.Failed cause) is = inr tt
open-left j stage is = inl tt

-- The other way round.
pub left-open : (j : ℕ) (stage : Stage) → HasToClose stage j ⊎ IsFailedStage stage → leaves_open j stage ≡ true
left-open j (stages.Closing i) (inl has) = grind (arith, nat_tests)
left-open j (stages.Closing i) (inr failed) = absurd failed
left-open j stages.Ended (inl has) = absurd has
left-open j stages.Ended (inr failed) = absurd failed
left-open j stage left = refl
