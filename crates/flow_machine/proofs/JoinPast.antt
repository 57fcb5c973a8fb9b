-- A past that fits what is in the channels and how deep the outputs are nested.
use Rattle.std.proofs.Common.{◌≡◌, ◌≢◌, ℕ, ◌+◌, ◌-◌, ◌≤◌, Bool, true, false, cond, List, [], ◌∷◌, ◌++◌, length, map, replicate, suc, zero, refl, ap, sym, ◌∙◌, subst, arith, nat_eq, nat_lt, inl, inr, take, drop, append-nil, length-append}
use Rattle.std.specs.Prelude.{count_by, filter, flat_map, sum_by}
use Rattle.std.proofs.lemmas.Bool.Decides.{nat_tests}
use Rattle.std.proofs.lemmas.List.Sums.{sum_by-cons}
use Rattle.std.proofs.lemmas.List.Concat.{flat_map-append}
use Rattle.flow_packet.specs.declared.packet.Kind.{Kind}
use Rattle.flow_packet.specs.declared.packet.Kind.TheVariants as kinds
use Rattle.flow_packet.specs.Tree.{Tree, node, kind_of, content, packet_of}
use Rattle.flow_component.specs.Happenings.{Happening, Received, Sent}
use Rattle.flow_plan.specs.declared.plan.Sender.{Sender}
use Rattle.flow_model.specs.States.{Entry, entry_of, Put, is_sender, got_by, sent_by}
use Rattle.flow_model.specs.Order.{entries, entries_by, is_open_kind, is_close_kind, opens, closes, Nests}
use Rattle.flow_model.specs.Valid.{IsOpenSender, AllDifferent}
use Rattle.flow_machine.proofs.JoinSenders.{counted-yes, counted-no, same-sender, sender-sym, among-cases, among-first}

-- a packet that was put, and by whom
abbrev pub Move : Type 0
Move = Sender × Tree

-- The packet of which a past is made up that nobody remembers: an Open one.
abbrev pub open_packet : Tree
open_packet = packet_of 0 kinds.Open [] []

abbrev plain_packet : Tree
plain_packet = packet_of 0 kinds.Normal [] []

abbrev pub is_open : Tree → Bool
is_open t = is_open_kind (kind_of t)

-- packets that were taken, of which the first were opened by these senders
abbrev pub taken : Sender → List Sender → ℕ → List Move
taken nobody claims zero = []
taken nobody [] (suc n) = (nobody, plain_packet) ∷ taken nobody [] n
taken nobody (s ∷ claims) (suc n) = (s, open_packet) ∷ taken nobody claims n

-- packets that are there, of which the first that open are these senders'
abbrev pub present : Sender → List Sender → List Tree → List Move
present nobody claims [] = []
present nobody [] (t ∷ ts) = (nobody, t) ∷ present nobody [] ts
present nobody (s ∷ claims) (t ∷ ts) = cond (is_open t) ((s, t) ∷ present nobody claims ts) ((nobody, t) ∷ present nobody (s ∷ claims) ts)

-- What came over a connection: by which sender, and which packet.
abbrev pub moves : Sender → List Sender → ℕ → List Tree → List Move
moves nobody claims n ts = taken nobody claims n ++ present nobody (drop n claims) ts

-- The packets that came.
abbrev pub packets_moved : List Move → List Tree
packets_moved ms = map (λ (m : Move). m.1) ms

-- A packet that came, as the machine remembers that it was put.
abbrev pub as_put : Move → Put
as_put m = record { sender = m.0; entry = entry_of m.1 }

-- what one sender put
abbrev pub trees_by : Sender → List Move → List Tree
trees_by s [] = []
trees_by s (m ∷ ms) = cond (is_sender m.0 s) (m.1 ∷ trees_by s ms) (trees_by s ms)

abbrev pub count_of : Sender → List Sender → ℕ
count_of s claims = count_by (λ (t : Sender). is_sender t s) claims

-- As many packets were taken as are asked for.
pub taken-length : (nobody : Sender) (claims : List Sender) (n : ℕ) → length (taken nobody claims n) ≡ n
taken-length nobody claims zero = refl
taken-length nobody [] (suc n) = omega (arith, taken-length nobody [] n)
taken-length nobody (s ∷ claims) (suc n) = omega (arith, taken-length nobody claims n)

-- The packets that are there came in their order.
pub present-packets : (nobody : Sender) (claims : List Sender) (ts : List Tree) → packets_moved (present nobody claims ts) ≡ ts
present-packets nobody claims [] = refl
present-packets nobody [] (t ∷ ts) = ap (λ us. t ∷ us) (present-packets nobody [] ts)
present-packets nobody (s ∷ claims) (t ∷ ts) = by (is_open t) (present-packets nobody claims ts) (present-packets nobody (s ∷ claims) ts)
  where
    by : (b : Bool) → packets_moved (present nobody claims ts) ≡ ts → packets_moved (present nobody (s ∷ claims) ts) ≡ ts → packets_moved (cond b ((s, t) ∷ present nobody claims ts) ((nobody, t) ∷ present nobody (s ∷ claims) ts)) ≡ t ∷ ts
    by true own other = ap (λ us. t ∷ us) own
    by false own other = ap (λ us. t ∷ us) other

-- What came in two parts came in the first and then in the second.
pub moved-append : (xs ys : List Move) → packets_moved (xs ++ ys) ≡ packets_moved xs ++ packets_moved ys
moved-append [] ys = refl
moved-append (x ∷ xs) ys = ap (λ ts. x.1 ∷ ts) (moved-append xs ys)

-- the entries of what was put
pub put-entries : (ms : List Move) → entries (map as_put ms) ≡ map entry_of (packets_moved ms)
put-entries [] = refl
put-entries (m ∷ ms) = ap (λ es. entry_of m.1 ∷ es) (put-entries ms)

-- As many packets were put as came.
pub put-length : (ms : List Move) → length (map as_put ms) ≡ length ms
put-length [] = refl
put-length (m ∷ ms) = omega (arith, put-length ms)

-- What one sender put is what came of it.
pub put-by : (s : Sender) (ms : List Move) → entries_by s (map as_put ms) ≡ map entry_of (trees_by s ms)
put-by s [] = refl
put-by s (m ∷ ms) = by (is_sender m.0 s) (put-by s ms)
  where
    by : (b : Bool) → entries_by s (map as_put ms) ≡ map entry_of (trees_by s ms)
        → entries (cond b (as_put m ∷ filter (λ (put : Put). is_sender put.sender s) (map as_put ms)) (filter (λ (put : Put). is_sender put.sender s) (map as_put ms))) ≡ map entry_of (cond b (m.1 ∷ trees_by s ms) (trees_by s ms))
    by true rest = ap (λ es. entry_of m.1 ∷ es) rest
    by false rest = rest

trees-append : (s : Sender) (xs ys : List Move) → trees_by s (xs ++ ys) ≡ trees_by s xs ++ trees_by s ys
trees-append s [] ys = refl
trees-append s (x ∷ xs) ys = by (is_sender x.0 s) (trees-append s xs ys)
  where
    by : (b : Bool) → trees_by s (xs ++ ys) ≡ trees_by s xs ++ trees_by s ys → cond b (x.1 ∷ trees_by s (xs ++ ys)) (trees_by s (xs ++ ys)) ≡ cond b (x.1 ∷ trees_by s xs) (trees_by s xs) ++ trees_by s ys
    by true rest = ap (λ ts. x.1 ∷ ts) rest
    by false rest = rest

-- all of these packets open
abbrev pub AllOpen : List Tree → Type 0
AllOpen [] = Unit {0}
AllOpen (t ∷ ts) = (is_open t ≡ true) × AllOpen ts

open-append : (xs ys : List Tree) → AllOpen xs → AllOpen ys → AllOpen (xs ++ ys)
open-append [] ys all all' = all'
open-append (x ∷ xs) ys all all' = (all.0, open-append xs ys all.1 all')

-- Made-up packets are Open ones.
pub open-replicate : (n : ℕ) → AllOpen (replicate n open_packet)
open-replicate zero = tt
open-replicate (suc n) = (refl, open-replicate n)

module _ (nobody s : Sender) (other : is_sender nobody s ≡ false) where
  taken-open : (claims : List Sender) (n : ℕ) → AllOpen (trees_by s (taken nobody claims n))
  taken-open claims zero = tt
  taken-open [] (suc n) = rw other (taken-open [] n)
  taken-open (t ∷ claims) (suc n) = by (is_sender t s) (taken-open claims n)
    where
      by : (b : Bool) → AllOpen (trees_by s (taken nobody claims n)) → AllOpen (cond b (open_packet ∷ trees_by s (taken nobody claims n)) (trees_by s (taken nobody claims n)))
      by true all = (refl, all)
      by false all = all

  present-open : (claims : List Sender) (ts : List Tree) → AllOpen (trees_by s (present nobody claims ts))
  present-open claims [] = tt
  present-open [] (t ∷ ts) = rw other (present-open [] ts)
  present-open (u ∷ claims) (t ∷ ts) = by (present-open claims ts) (present-open (u ∷ claims) ts) (is_open t) refl
    where
      by-sender : AllOpen (trees_by s (present nobody claims ts)) → (c : Bool) → is_open t ≡ true → AllOpen (cond c (t ∷ trees_by s (present nobody claims ts)) (trees_by s (present nobody claims ts)))
      by-sender all true h = (h, all)
      by-sender all false h = all

      by : AllOpen (trees_by s (present nobody claims ts)) → AllOpen (trees_by s (present nobody (u ∷ claims) ts)) → (b : Bool) → is_open t ≡ b → AllOpen (trees_by s (cond b ((u, t) ∷ present nobody claims ts) ((nobody, t) ∷ present nobody (u ∷ claims) ts)))
      by own rest true h = by-sender own (is_sender u s) h
      by own rest false h = rw other rest

  pub moves-open : (claims : List Sender) (n : ℕ) (ts : List Tree) → AllOpen (trees_by s (moves nobody claims n ts))
  moves-open claims n ts = subst AllOpen (sym (trees-append s (taken nobody claims n) (present nobody (drop n claims) ts))) (open-append (trees_by s (taken nobody claims n)) (trees_by s (present nobody (drop n claims) ts)) (taken-open claims n) (present-open (drop n claims) ts))

  taken-count : (claims : List Sender) (n : ℕ) → length (trees_by s (taken nobody claims n)) + count_of s (drop n claims) ≡ count_of s claims
  taken-count claims zero = omega arith
  taken-count [] (suc n) = rw other (omega (arith, taken-count [] n, drop-nil n))
    where
      drop-nil : (n : ℕ) → count_of s (drop n []) ≡ 0
      drop-nil zero = refl
      drop-nil (suc n) = refl
  taken-count (t ∷ claims) (suc n) = by (is_sender t s) (sum_by-cons (λ (u : Sender). cond (is_sender u s) 1 0) t claims) (taken-count claims n)
    where
      by : (b : Bool) → count_of s (t ∷ claims) ≡ cond (is_sender t s) 1 0 + count_of s claims → length (trees_by s (taken nobody claims n)) + count_of s (drop n claims) ≡ count_of s claims
          → length (cond (is_sender t s) (open_packet ∷ trees_by s (taken nobody claims n)) (trees_by s (taken nobody claims n))) + count_of s (drop n claims) ≡ count_of s (t ∷ claims)
      by b cons rest = by-sender (is_sender t s) cons
        where
          by-sender : (c : Bool) → count_of s (t ∷ claims) ≡ cond c 1 0 + count_of s claims → length (cond c (open_packet ∷ trees_by s (taken nobody claims n)) (trees_by s (taken nobody claims n))) + count_of s (drop n claims) ≡ count_of s (t ∷ claims)
          by-sender true cons = omega (arith, cons, rest)
          by-sender false cons = omega (arith, cons, rest)

  abbrev count_open : List Tree → ℕ
  count_open ts = count_by is_open ts

  present-count : (claims : List Sender) (ts : List Tree) → length claims ≤ count_by (λ (t : Tree). is_open_kind (kind_of t)) ts → length (trees_by s (present nobody claims ts)) ≡ count_of s claims
  present-count [] [] most = refl
  present-count (u ∷ claims) [] most = absurd (omega (arith, most))
  present-count [] (t ∷ ts) most = rw other (present-count [] ts (omega arith))
  present-count (u ∷ claims) (t ∷ ts) most = by (λ fits. present-count claims ts fits) (λ fits. present-count (u ∷ claims) ts fits) (is_open t) refl (sum_by-cons (λ (v : Tree). cond (is_open_kind (kind_of v)) 1 0) t ts)
    where
      by-sender : (length claims ≤ count_by (λ (t : Tree). is_open_kind (kind_of t)) ts → length (trees_by s (present nobody claims ts)) ≡ count_of s claims) → (c : Bool) → length claims ≤ count_by (λ (t : Tree). is_open_kind (kind_of t)) ts → count_of s (u ∷ claims) ≡ cond c 1 0 + count_of s claims
          → length (cond c (t ∷ trees_by s (present nobody claims ts)) (trees_by s (present nobody claims ts))) ≡ count_of s (u ∷ claims)
      by-sender own true most cons = omega (arith, cons, own most)
      by-sender own false most cons = omega (arith, cons, own most)

      by : (length claims ≤ count_by (λ (t : Tree). is_open_kind (kind_of t)) ts → length (trees_by s (present nobody claims ts)) ≡ count_of s claims) → (length (u ∷ claims) ≤ count_by (λ (t : Tree). is_open_kind (kind_of t)) ts → length (trees_by s (present nobody (u ∷ claims) ts)) ≡ count_of s (u ∷ claims)) → (b : Bool) → is_open t ≡ b → count_by (λ (v : Tree). is_open_kind (kind_of v)) (t ∷ ts) ≡ cond (is_open t) 1 0 + count_by (λ (v : Tree). is_open_kind (kind_of v)) ts
          → length (trees_by s (cond b ((u, t) ∷ present nobody claims ts) ((nobody, t) ∷ present nobody (u ∷ claims) ts))) ≡ count_of s (u ∷ claims)
      by own rest true h cons =
          let one = counted-yes (count_by (λ (v : Tree). is_open_kind (kind_of v)) (t ∷ ts)) (count_by (λ (v : Tree). is_open_kind (kind_of v)) ts) 1 (is_open t) cons h in
          by-sender own (is_sender u s) (omega (arith, one, most)) (sum_by-cons (λ (v : Sender). cond (is_sender v s) 1 0) u claims)
      by own rest false h cons =
          let none = counted-no (count_by (λ (v : Tree). is_open_kind (kind_of v)) (t ∷ ts)) (count_by (λ (v : Tree). is_open_kind (kind_of v)) ts) 1 (is_open t) cons h in
          rw other (rest (omega (arith, none, most)))

  -- a sender put as many packets as it claims
  pub moves-count : (claims : List Sender) (n : ℕ) (ts : List Tree) → length claims ≤ n + count_by (λ (t : Tree). is_open_kind (kind_of t)) ts → length (trees_by s (moves nobody claims n ts)) ≡ count_of s claims
  moves-count claims n ts most =
      let deep = drop-length n claims in
      let rest = present-count (drop n claims) ts (omega (arith, deep, most)) in
      ap length (trees-append s (taken nobody claims n) (present nobody (drop n claims) ts)) ∙ omega (arith, length-append (trees_by s (taken nobody claims n)) (trees_by s (present nobody (drop n claims) ts)), rest, taken-count claims n)
    where
      drop-length : (n : ℕ) (xs : List Sender) → length (drop n xs) ≤ length xs - n
      drop-length zero xs = omega arith
      drop-length (suc n) [] = omega arith
      drop-length (suc n) (x ∷ xs) = omega (arith, drop-length n xs)

-- as many claims of each sender as its output is deep
abbrev pub claims_of : (Sender → ℕ) → List Sender → List Sender
claims_of deep senders = flat_map (λ (s : Sender). replicate (deep s) s) senders

count-append : (s : Sender) (xs ys : List Sender) → count_of s (xs ++ ys) ≡ count_of s xs + count_of s ys
count-append s [] ys = omega arith
count-append s (x ∷ xs) ys = omega (arith, sum_by-cons (λ (u : Sender). cond (is_sender u s) 1 0) x (xs ++ ys), sum_by-cons (λ (u : Sender). cond (is_sender u s) 1 0) x xs, count-append s xs ys)

length-replicated : (n : ℕ) (s : Sender) → length (replicate n s) ≡ n
length-replicated zero s = refl
length-replicated (suc n) s = omega (arith, length-replicated n s)

-- There are as many made-up sends as open brackets in all.
pub claims-length : (deep : Sender → ℕ) (ss : List Sender) → length (claims_of deep ss) ≡ sum_by deep ss
claims-length deep [] = refl
claims-length deep (s ∷ ss) = omega (arith, length-append (replicate (deep s) s) (claims_of deep ss), length-replicated (deep s) s, claims-length deep ss, sum_by-cons deep s ss)

count-own : (s t : Sender) (n : ℕ) → is_sender t s ≡ true → count_of s (replicate n t) ≡ n
count-own s t zero is = refl
count-own s t (suc n) is =
    let cons : count_of s (t ∷ replicate n t) ≡ cond (is_sender t s) 1 0 + count_of s (replicate n t) = sum_by-cons (λ (u : Sender). cond (is_sender u s) 1 0) t (replicate n t) in
    let cons' = counted-yes (count_of s (t ∷ replicate n t)) (count_of s (replicate n t)) 1 (is_sender t s) cons is in
    omega (arith, cons', count-own s t n is)

count-other : (s t : Sender) (n : ℕ) → is_sender t s ≡ false → count_of s (replicate n t) ≡ 0
count-other s t zero is = refl
count-other s t (suc n) is =
    let cons : count_of s (t ∷ replicate n t) ≡ cond (is_sender t s) 1 0 + count_of s (replicate n t) = sum_by-cons (λ (u : Sender). cond (is_sender u s) 1 0) t (replicate n t) in
    let cons' = counted-no (count_of s (t ∷ replicate n t)) (count_of s (replicate n t)) 1 (is_sender t s) cons is in
    omega (arith, cons', count-other s t n is)

claims-none : (deep : Sender → ℕ) (s : Sender) (ss : List Sender) → (IsOpenSender s ss → ⊥) → count_of s (claims_of deep ss) ≡ 0
claims-none deep s [] none = refl
claims-none deep s (t ∷ ss) none = by (λ gone. claims-none deep s ss gone) (is_sender s t) refl
  where
    by : ((IsOpenSender s ss → ⊥) → count_of s (claims_of deep ss) ≡ 0) → (b : Bool) → is_sender s t ≡ b → count_of s (claims_of deep (t ∷ ss)) ≡ 0
    by more true h = absurd (none (among-first s t ss h))
    by more false h = omega (arith, count-append s (replicate (deep t) t) (claims_of deep ss), count-other s t (deep t) (sender-sym t s ∙ h), more (λ is. none (rw h is)))

-- A sender has as many of them as it has open brackets.
pub claims-count : (deep : Sender → ℕ) (s : Sender) (ss : List Sender) → AllDifferent ss → IsOpenSender s ss → count_of s (claims_of deep ss) ≡ deep s
claims-count deep s [] different is = absurd (cc)
claims-count deep s (t ∷ ss) different is = elim (among-cases s t ss is) [
  | inl same ↦ (let e : s ≡ t = same-sender s t same in
      let own = count-own s t (deep t) (sender-sym t s ∙ same) in
      let none = claims-none deep s ss (λ h. different.0 (subst (λ (u : Sender). IsOpenSender u ss) e h)) in
      omega (arith, count-append s (replicate (deep t) t) (claims_of deep ss), own, none, ap deep e))
  | inr rest ↦ omega (arith, count-append s (replicate (deep t) t) (claims_of deep ss), count-other s t (deep t) (sender-sym t s ∙ rest.0), claims-count deep s ss different.1 rest.1)
]

-- packets that all open nest, and leave their output as deep as they are many
kind-content : (t : Tree) → kind_of (content t) ≡ kind_of t
kind-content (node id kind text cs) = refl

open-closes : (k : Kind) → is_open_kind k ≡ true → is_close_kind k ≡ false
open-closes kinds.Close is = absurd (cc)
open-closes k is = refl

-- Open packets open as many brackets as they are, and close none.
pub open-depth : (ts : List Tree) → AllOpen ts → (opens (map entry_of ts) ≡ length ts) × (closes (map entry_of ts) ≡ 0)
open-depth [] all = (refl, refl)
open-depth (t ∷ ts) all =
    let r = open-depth ts all.1 in
    let o : is_open_kind (kind_of (content t)) ≡ true = ap is_open_kind (kind-content t) ∙ all.0 in
    let c : is_close_kind (kind_of (content t)) ≡ false = open-closes (kind_of (content t)) o in
    let os : opens (map entry_of (t ∷ ts)) ≡ cond (is_open_kind (kind_of (content t))) 1 0 + opens (map entry_of ts) = sum_by-cons (λ (e : Entry). cond (is_open_kind (kind_of e.content)) 1 0) (entry_of t) (map entry_of ts) in
    let cs : closes (map entry_of (t ∷ ts)) ≡ cond (is_close_kind (kind_of (content t))) 1 0 + closes (map entry_of ts) = sum_by-cons (λ (e : Entry). cond (is_close_kind (kind_of e.content)) 1 0) (entry_of t) (map entry_of ts) in
    let os' = counted-yes (opens (map entry_of (t ∷ ts))) (opens (map entry_of ts)) 1 (is_open_kind (kind_of (content t))) os o in
    let cs' = counted-no (closes (map entry_of (t ∷ ts))) (closes (map entry_of ts)) 1 (is_close_kind (kind_of (content t))) cs c in
    (omega (arith, os', r.0), omega (arith, cs', r.1))

take-entries : (k : ℕ) (ts : List Tree) → take k (map entry_of ts) ≡ map entry_of (take k ts)
take-entries zero ts = refl
take-entries (suc k) [] = refl
take-entries (suc k) (t ∷ ts) = ap (λ es. entry_of t ∷ es) (take-entries k ts)

open-take : (k : ℕ) (ts : List Tree) → AllOpen ts → AllOpen (take k ts)
open-take zero ts all = tt
open-take (suc k) [] all = tt
open-take (suc k) (t ∷ ts) all = (all.0, open-take k ts all.1)

-- Open packets nest.
pub open-nests : (ts : List Tree) → AllOpen ts → Nests (map entry_of ts)
open-nests ts all k = let d = open-depth (take k ts) (open-take k ts all) in rw (take-entries k ts) (omega (arith, d.1))

-- what happens at each of the first n ports
abbrev pub spread : (ℕ → List Happening) → ℕ → List Happening
spread f zero = []
spread f (suc n) = spread f n ++ f n

-- Of what is told port by port, one port hears its own.
pub spread-at : (g : Happening → List Entry) (f : ℕ → List Happening) (port n : ℕ) → ((i : ℕ) → i ≢ port → flat_map g (f i) ≡ []) → flat_map g (spread f n) ≡ cond (nat_lt port n) (flat_map g (f port)) []
spread-at g f port zero other = let t : nat_lt port 0 ≡ false = grind (arith, nat_tests) in rw t refl
spread-at g f port (suc n) other = flat_map-append g (spread f n) (f n) ∙ by (nat_eq n port) refl (spread-at g f port n other)
  where
    by : (b : Bool) → nat_eq n port ≡ b → flat_map g (spread f n) ≡ cond (nat_lt port n) (flat_map g (f port)) [] → flat_map g (spread f n) ++ flat_map g (f n) ≡ cond (nat_lt port (suc n)) (flat_map g (f port)) []
    by true h rest =
        let same : n ≡ port = grind (arith, nat_tests) in
        let t : nat_lt port n ≡ false = grind (arith, nat_tests) in
        let u : nat_lt port (suc n) ≡ true = grind (arith, nat_tests) in
        let none : flat_map g (spread f n) ≡ [] = rw t at rest in
        rw u (λ i. none i ++ flat_map g (f (same i)))
    by false h rest =
        let ne : n ≢ port = (λ same. (let t : nat_eq n port ≡ true = grind (arith, nat_tests) in let c : true ≡ false = sym t ∙ h in cc)) in
        let t : nat_lt port n ≡ nat_lt port (suc n) = grind (arith, nat_tests) in
        (λ i. flat_map g (spread f n) ++ other n ne i) ∙ append-nil (flat_map g (spread f n)) ∙ rest ∙ ap (λ (b : Bool). cond b (flat_map g (f port)) []) t

-- Packets that came at a port were got there.
pub got-own : (port : ℕ) (ts : List Tree) → flat_map (got_by port) (map (Received port) ts) ≡ map entry_of ts
got-own port [] = refl
got-own port (t ∷ ts) = let is : nat_eq port port ≡ true = grind (arith, nat_tests) in rw is (ap (λ es. entry_of t ∷ es) (got-own port ts))

-- Packets that came at another port weren't.
pub got-other : (port i : ℕ) (ts : List Tree) → i ≢ port → flat_map (got_by port) (map (Received i) ts) ≡ []
got-other port i [] ne = refl
got-other port i (t ∷ ts) ne = let is : nat_eq port i ≡ false = grind (arith, nat_tests) in rw is (got-other port i ts ne)

-- Packets that were sent weren't got.
pub got-sent : (port i : ℕ) (ts : List Tree) → flat_map (got_by port) (map (Sent i) ts) ≡ []
got-sent port i [] = refl
got-sent port i (t ∷ ts) = got-sent port i ts

-- Packets that were sent at a port were sent there.
pub sent-own : (port : ℕ) (ts : List Tree) → flat_map (sent_by port) (map (Sent port) ts) ≡ map entry_of ts
sent-own port [] = refl
sent-own port (t ∷ ts) = let is : nat_eq port port ≡ true = grind (arith, nat_tests) in rw is (ap (λ es. entry_of t ∷ es) (sent-own port ts))

-- Packets that were sent at another port weren't.
pub sent-other : (port i : ℕ) (ts : List Tree) → i ≢ port → flat_map (sent_by port) (map (Sent i) ts) ≡ []
sent-other port i [] ne = refl
sent-other port i (t ∷ ts) ne = let is : nat_eq port i ≡ false = grind (arith, nat_tests) in rw is (sent-other port i ts ne)

-- Packets that were got weren't sent.
pub sent-got : (port i : ℕ) (ts : List Tree) → flat_map (sent_by port) (map (Received i) ts) ≡ []
sent-got port i [] = refl
sent-got port i (t ∷ ts) = sent-got port i ts
