-- The chain is wired, whatever its names and files are.
use Rattle.flow_limits.specs.declared.TheConstants.{CAPACITY_LIMIT, SENDER_LIMIT, TEXT_LIMIT}
use Rattle.std.proofs.Common.{◌≡◌, ℕ, zero, suc, ◌<◌, ◌≤◌, List, [], ◌∷◌, length, refl, sym, ◌∙◌, ap, subst, arith, inl}
use Rattle.std.specs.Prelude.{Some, None, slice_get}
use Rattle.flow_plan.specs.declared.plan.Sender.{Sender}
use Rattle.flow_plan.specs.declared.plan.Process.{Process}
use Rattle.flow_plan.specs.declared.plan.Connection.{Connection}
use Rattle.flow_plan.specs.Network.{Network, IsInputEnd, IsOutputEnd}
use Rattle.flow_plan.specs.Valid.{HasConnection, IsWired}
use Rattle.flow_witness.specs.Chain.{reader_of, pass_of, writer_of, link_of, chain_of}

some_is : {X : Type 0} → (a b : X) → Some a ≡ Some b → a ≡ b
some_is a b h = cc

-- what holds of each of one, two or three elements holds of every element
pub at_one : {X : Type 0} → (P : ℕ → X → Type 0) (a : X) → P 0 a → (k : ℕ) (x : X) → slice_get (a ∷ []) k ≡ Some x → P k x
at_one P a pa zero x h = subst (λ y. P 0 y) (some_is a x h) pa
at_one P a pa (suc k) x h = absurd (let bad : None ≡ Some x = h in cc)

-- What holds of both members holds at every place of a list of two.
pub at_two : {X : Type 0} → (P : ℕ → X → Type 0) (a b : X) → P 0 a → P 1 b → (k : ℕ) (x : X) → slice_get (a ∷ b ∷ []) k ≡ Some x → P k x
at_two P a b pa pb zero x h = subst (λ y. P 0 y) (some_is a x h) pa
at_two P a b pa pb (suc k) x h = at_one (λ i y. P (suc i) y) b pb k x h

-- What holds of three members holds at every place of a list of three.
pub at_three : {X : Type 0} → (P : ℕ → X → Type 0) (a b c : X) → P 0 a → P 1 b → P 2 c → (k : ℕ) (x : X) → slice_get (a ∷ b ∷ c ∷ []) k ≡ Some x → P k x
at_three P a b c pa pb pc zero x h = subst (λ y. P 0 y) (some_is a x h) pa
at_three P a b c pa pb pc (suc k) x h = at_two (λ i y. P (suc i) y) b c pb pc k x h

abbrev c0 : Connection
c0 = link_of 0 1

abbrev c1 : Connection
c1 = link_of 1 2

-- The output that is sender of connection 0.
abbrev pub s0 : Sender
s0 = record { process = 0; output = 0 }

-- The output that is sender of connection 1.
abbrev pub s1 : Sender
s1 = record { process = 1; output = 0 }

-- nothing is in an empty list
pub none_there : {X Y : Type 0} → (k : ℕ) (x : X) → slice_get [] k ≡ Some x → Y
none_there k x h = absurd (let bad : None ≡ Some x = h in cc)

-- Nothing stands in an empty list, so anything follows from what stands there.
pub no_initial : {X : Type 0} → (k : ℕ) (x : ℕ × List ℕ) → slice_get [] k ≡ Some x → X
no_initial k x h = absurd (let bad : None ≡ Some x = h in cc)

-- The two senders differ.
pub senders_differ : s0 ≡ s1 → ⊥
senders_differ h = let e : s0.process ≡ s1.process = ap (λ s. s.process) h in absurd (omega arith)

-- What holds of number 0 holds of every number below one.
pub only_first : (j : ℕ) (P : ℕ → Type 0) → j < 1 → P 0 → P j
only_first zero P below first = first
only_first (suc j) P below first = absurd (omega arith)

-- A list of one sender has that one alone.
pub the_one : (a s : Sender) (k : ℕ) → slice_get (a ∷ []) k ≡ Some s → a ≡ s
the_one a s zero h = some_is a s h
the_one a s (suc k) h = absurd (let bad : None ≡ Some s = h in cc)

-- A list of one sender has it at one place.
pub same_place : (a s : Sender) (k l : ℕ) → slice_get (a ∷ []) k ≡ Some s → slice_get (a ∷ []) l ≡ Some s → k ≡ l
same_place a s zero zero h g = refl
same_place a s zero (suc l) h g = absurd (let bad : None ≡ Some s = g in cc)
same_place a s (suc k) l h g = absurd (let bad : None ≡ Some s = h in cc)

module _ (reader from pass writer to : List ℕ) where
  abbrev chain : Network
  chain = chain_of reader from pass writer to

  abbrev q0 : Process
  q0 = reader_of reader from

  abbrev q1 : Process
  q1 = pass_of pass

  abbrev q2 : Process
  q2 = writer_of writer to

  has_connection : (p i : ℕ) (q : Process) → slice_get chain.processes p ≡ Some q → i < q.inputs → HasConnection chain p i
  has_connection p i q h lt = at_three (λ k x. (j : ℕ) → j < x.inputs → HasConnection chain k j) q0 q1 q2
      (λ j below. absurd (omega arith))
      (λ j below. only_first j (λ n. HasConnection chain 1 n) below (record { number = 0; connection = c0; here = refl; receiver = refl; input = refl }))
      (λ j below. only_first j (λ n. HasConnection chain 2 n) below (record { number = 1; connection = c1; here = refl; receiver = refl; input = refl }))
      p q h i lt

  pub chain-wired : IsWired chain
  chain-wired = record {
    few_processes = omega arith;
    few_connections = omega arith;
    receivers = at_two (λ c x. IsInputEnd chain x.receiver x.input) c0 c1 (q1, refl, omega arith) (q2, refl, omega arith);
    one_receiver = λ c d x y hc hd. at_two
        (λ c x. (d : ℕ) (y : Connection) → slice_get chain.connections d ≡ Some y → x.receiver ≡ y.receiver → x.input ≡ y.input → c ≡ d) c0 c1
        (at_two (λ d y. 1 ≡ y.receiver → 0 ≡ y.input → 0 ≡ d) c0 c1 (λ r i. refl) (λ r i. absurd (omega arith)))
        (at_two (λ d y. 2 ≡ y.receiver → 0 ≡ y.input → 1 ≡ d) c0 c1 (λ r i. absurd (omega arith)) (λ r i. refl))
        c x hc d y hd;
    senders = λ c k x s hc. at_two
        (λ c x. (k : ℕ) (s : Sender) → slice_get x.senders k ≡ Some s → IsOutputEnd chain s.process s.output) c0 c1
        (at_one (λ k s. IsOutputEnd chain s.process s.output) s0 (q0, refl, omega arith))
        (at_one (λ k s. IsOutputEnd chain s.process s.output) s1 (q1, refl, omega arith))
        c x hc k s;
    one_sender = λ c d k l x y s hc hd hk hl. at_two
        (λ c x. (k : ℕ) → slice_get x.senders k ≡ Some s → (d : ℕ) (y : Connection) → slice_get chain.connections d ≡ Some y → (l : ℕ) → slice_get y.senders l ≡ Some s → (c ≡ d) × (k ≡ l)) c0 c1
        (λ k. λ hk. at_two (λ d y. (l : ℕ) → slice_get y.senders l ≡ Some s → (0 ≡ d) × (k ≡ l)) c0 c1
        (λ l. λ hl. (refl, same_place s0 s k l hk hl)) (λ l. λ hl. absurd (senders_differ (the_one s0 s k hk ∙ sym (the_one s1 s l hl)))))
        (λ k. λ hk. at_two (λ d y. (l : ℕ) → slice_get y.senders l ≡ Some s → (1 ≡ d) × (k ≡ l)) c0 c1
        (λ l. λ hl. absurd (senders_differ (the_one s0 s l hl ∙ sym (the_one s1 s k hk)))) (λ l. λ hl. (refl, same_place s1 s k l hk hl)))
        c x hc k hk d y hd l hl;
    each_input = λ p i input. inl (has_connection p i input.0 input.1 input.2);
    not_both = λ p i connection has. at_three (λ p q. slice_get q.initials has.place ≡ Some (i, has.text) → ⊥) q0 q1 q2
        (no_initial has.place (i, has.text)) (no_initial has.place (i, has.text)) (no_initial has.place (i, has.text)) p has.process has.here has.given;
    short = λ p k i q text h. at_three (λ p q. slice_get q.initials k ≡ Some (i, text) → length text ≤ TEXT_LIMIT) q0 q1 q2
        (no_initial k (i, text)) (no_initial k (i, text)) (no_initial k (i, text)) p q h;
    capacities = at_two (λ c x. (1 ≤ x.capacity) × (x.capacity ≤ CAPACITY_LIMIT)) c0 c1 (omega arith, omega arith) (omega arith, omega arith);
    few_senders = at_two (λ c x. length x.senders ≤ SENDER_LIMIT) c0 c1 (omega arith) (omega arith);
  }
