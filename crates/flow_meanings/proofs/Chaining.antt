-- Networks without merges.
use Rattle.std.proofs.Common.{◌≡◌, ℕ, zero, suc, ◌+◌, ◌<◌, ◌≤◌, List, [], ◌∷◌, map, filter, length, Some, None, Option, refl, sym, ap, ◌∙◌, subst, Bool, true, false, slice_get, get_or, arith, nat_eq, ◌||◌}
use Rattle.std.specs.Prelude.{replicate}
use Rattle.std.proofs.lemmas.List.{length-map}
use Rattle.std.specs.List.{flat_map, list_any}
use Rattle.std.proofs.lemmas.List.Quantifiers.{position-Some}
use Rattle.std.proofs.lemmas.Option.{slice_get_within}
use Rattle.std.proofs.lemmas.Bool.Decides.{nat_tests}
use Rattle.flow_packet.specs.Tree.{Tree}
use Rattle.flow_parts.specs.Filling.{Filling}
use Rattle.flow_component.specs.Runs.{text_packet}
use Rattle.flow_parts.specs.Meanings.{rendered_all, words_of}
use Rattle.flow_catalogue.specs.declared.standard.Std.{Std}
use Rattle.flow_catalogue.specs.declared.standard.Std.TheVariants as components
use Rattle.flow_catalogue.specs.Std.{std_shape, std_rules}
use Rattle.flow_model.specs.States.{Input, From, is_sender}
use Rattle.flow_plan.specs.declared.plan.Sender.{Sender}
use Rattle.flow_model.proofs.Start.{port-at}
use Rattle.flow_model.specs.Plans.{sends_at, receives_at, input_at, connected_or, text_at, StartsWell}
use Rattle.flow_plan.specs.Network.{Network as Plan}
use Rattle.flow_plan.specs.declared.plan.Process.{Process as PlanProcess}
use Rattle.flow_plan.specs.declared.plan.Connection.{Connection as PlanConnection}
use Rattle.flow_model.proofs.Senders.{both-true}
use Rattle.flow_meanings.specs.Meaning.{greatest, activations}
use Rattle.flow_meanings.specs.Means.{is_looper}
use Rattle.flow_meanings.specs.Composition.{Sending, coming, activated, inputs_of, arriving, leaving, Composes, wrote_in}
use Rattle.flow_model.specs.Rising.{LeadsOn}
use Rattle.flow_model.proofs.Rising.{finished-leads_on}
use Rattle.flow_model.proofs.Lists.{get-there}
use Rattle.flow_meanings.specs.Chains.{RunsComponent, LeadsTo, TelegramMeans}
use Rattle.flow_determinate.specs.Standard.{IsDeterminate}
use Rattle.flow_meanings.specs.Outcomes.{AreSettled, IsUnmerged, OneOutcome, SameFiles, PlanSameFiles}
use Rattle.flow_meanings.proofs.Every.{facts-of, components-first, made-settled}
use Rattle.flow_meanings.proofs.Composing.{finished-composes}

filter-all : {A : Type 0} (test : A → Bool) (xs : List A) → ((k : ℕ) (x : A) → slice_get xs k ≡ Some x → test x ≡ true) → filter test xs ≡ xs
filter-all test [] all = refl
filter-all test (x ∷ xs) all = let t = all zero x refl in rw t (ap (λ ys. x ∷ ys) (filter-all test xs (λ k y is. all (suc k) y is)))

same-sender : (p o : ℕ) (sender : Sender) → sender.process ≡ p → sender.output ≡ o → is_sender sender (record { process = p; output = o }) ≡ true
same-sender p o sender a b =
    let t : nat_eq sender.process p ≡ true = grind (arith, nat_tests) in
    let u : nat_eq sender.output o ≡ true = grind (arith, nat_tests) in
    rw (t, u) refl

-- All that is on a connection with one sender is its.
pub own-stream : (plan : Plan) (ks : List Std) (wrote : ℕ → List ℕ) (m : Composes plan ks wrote) (p o c : ℕ) → sends_at plan p o ≡ Some c → ((q r : ℕ) → sends_at plan q r ≡ Some c → (q ≡ p) × (r ≡ o))
    → leaving m.on (record { process = p; output = o }) (sends_at plan p o) ≡ map (λ (sending : Sending). sending.content) (m.on c)
own-stream plan ks wrote m p o c sends alone =
    let sender : Sender = record { process = p; output = o } in
    ap (leaving m.on sender) sends
    ∙ ap (λ (l : List Sending). map (λ (sending : Sending). sending.content) l) (filter-all (λ (sending : Sending). is_sender sending.sender sender) (m.on c)
    (λ k s is. (let who = alone s.sender.process s.sender.output (m.senders c k s is) in same-sender p o s.sender who.0 who.1)))

-- what leaves output 0 of p arrives at input 0 of q
led : (plan : Plan) (ks : List Std) (wrote : ℕ → List ℕ) (m : Composes plan ks wrote) (p q n : ℕ) (x : PlanProcess) → LeadsTo plan p q
    → arriving m.on n (input_at plan q x 0) ≡ leaving m.on (record { process = p; output = 0 }) (sends_at plan p 0)
led plan ks wrote m p q n x l =
    ap (λ (found : Option ℕ). arriving m.on n (connected_or (text_at x.initials 0) found)) l.receives ∙ sym (own-stream plan ks wrote m p 0 l.connection l.sends l.alone)

-- The Telegram network writes the words of its input, filled into lines.
pub telegram-means : TelegramMeans
telegram-means plan ks wrote a b c d lines size m is =
    let read = m.each a is.reader.process (components.ReadLines lines) is.reader.there is.reader.here in
    let split = m.each b is.splitter.process (components.Words _) is.splitter.there is.splitter.here in
    let fills = m.each c is.filler.process (components.Fill _) is.filler.there is.filler.here in
    let writes = m.each d is.writer.process (components.WriteLines []) is.writer.there is.writer.here in
    let x1 = led plan ks wrote m a b _ is.splitter.process is.to_splitter ∙ read in
    let y1 = split ∙ ap (λ (ts : List Tree). flat_map words_of ts) x1 in
    let x2 = led plan ks wrote m b c _ is.filler.process is.to_filler ∙ y1 in
    let z = leaving m.on (record { process = c; output = 0 }) (sends_at plan c 0) in
    (z, subst (λ (ts : List Tree). Filling size ts z) x2 fills, writes ∙ ap rendered_all (led plan ks wrote m c d _ is.writer.process is.to_writer))

map-same : {A B : Type 0} (f g : A → B) (xs : List A) → ((i : ℕ) (x : A) → slice_get xs i ≡ Some x → f x ≡ g x) → map f xs ≡ map g xs
map-same f g [] same = refl
map-same f g (x ∷ xs) same = λ j. same 0 x refl j ∷ map-same f g xs (λ i y at. same (suc i) y at) j

-- Where any passes a test, one that is there does.
pub any-there : {A : Type 0} (test : A → Bool) (xs : List A) → list_any test xs ≡ true → (k : ℕ) × (y : A) × (slice_get xs k ≡ Some y) × (test y ≡ true)
any-there {A} test [] is = absurd (cc)
any-there {A} test (x ∷ xs) is = by (test x) refl (any-there test xs) is
  where
    by : (b : Bool) → test x ≡ b → (list_any test xs ≡ true → (k : ℕ) × (y : A) × (slice_get xs k ≡ Some y) × (test y ≡ true)) → (b || list_any test xs) ≡ true → (k : ℕ) × (y : A) × (slice_get (x ∷ xs) k ≡ Some y) × (test y ≡ true)
    by true t rest is = (0, x, refl, t)
    by false t rest is = let r = rest is in (suc r.0, r.1, r.2, r.3)

no_connection : PlanConnection
no_connection = record { receiver = 0; input = 0; capacity = 0; senders = [] }

-- whoever sends to a connection is a process whose component has that output
feeds : (plan : Plan) (ks : List Std) → StartsWell std_rules plan ks → (p o c : ℕ) → sends_at plan p o ≡ Some c → ((component : Std) → slice_get ks p ≡ Some component → o < (std_shape component).outputs) → (component : Std) × RunsComponent plan ks p component × (o < (std_shape component).outputs)
feeds plan ks well p o c sends own =
    let sender : Sender = record { process = p; output = o } in
    let pos = position-Some (λ (x : PlanConnection). list_any (is_sender sender) x.senders) plan.connections c no_connection sends in
    let x = get_or plan.connections c no_connection in
    let at = any-there (is_sender sender) x.senders pos.1 in
    let who = both-true p at.1.process o at.1.output at.3 in
    let q = well.wired.senders c at.0 x at.1 (get-there plan.connections c no_connection pos.0) at.2 in
    let there : slice_get plan.processes p ≡ Some q.0 = ap (slice_get plan.processes) who.0 ∙ q.1 in
    let below : p < length ks = omega (arith, slice_get_within plan.processes p q.0 there, well.one_each) in
    let component = get_or ks p (components.WriteLines []) in
    let here : slice_get ks p ≡ Some component = get-there ks p (components.WriteLines []) below in
    (component, record { process = q.0; there = there; here = here }, own component here)

-- in a network without merges and without a way back, what arrives at a process is the same in each composition
module _ (plan : Plan) (ks : List Std) (wrote other : ℕ → List ℕ) (well : StartsWell std_rules plan ks) (settled : AreSettled ks) (unmerged : IsUnmerged plan) (order : LeadsOn plan) (m : Composes plan ks wrote) (n : Composes plan ks other) where
  abbrev Same : ℕ → Type 0
  Same c = map (λ (sending : Sending). sending.content) (m.on c) ≡ map (λ (sending : Sending). sending.content) (n.on c)

  -- what arrives at a process of a lower rank, whatever it runs, is the same
  abbrev Before : ℕ → Type 0
  Before fuel = (p : ℕ) (y : PlanProcess) (component : Std) (j : ℕ) → order.rank p < fuel → arriving m.on (activated component m.on (inputs_of plan p y)) (input_at plan p y j) ≡ arriving n.on (activated component n.on (inputs_of plan p y)) (input_at plan p y j)

  -- where someone sends there
  same-sent : (fuel q i c : ℕ) → order.rank q < suc fuel → receives_at plan q i ≡ Some c → Before fuel → (sender : Sender) → sends_at plan sender.process sender.output ≡ Some c → ((component : Std) → slice_get ks sender.process ≡ Some component → sender.output < (std_shape component).outputs) → Same c
  same-sent fuel q i c less is rest sender sends own =
      let p = sender.process in
      let o = sender.output in
      let f = feeds plan ks well p o c sends own in
      let runs = f.1 in
      let below : order.rank p < fuel = (let r = order.rises p o q i c sends is in omega arith) in
      let alone : (r s : ℕ) → sends_at plan r s ≡ Some c → (r ≡ p) × (s ≡ o) = λ r s at. unmerged c r s p o at sends in
      let one = (facts-of f.0).settles (settled p f.0 runs.here) (wrote p) (other p) (λ j. arriving m.on (activated f.0 m.on (inputs_of plan p runs.process)) (input_at plan p runs.process j))
      (λ j. arriving n.on (activated f.0 n.on (inputs_of plan p runs.process)) (input_at plan p runs.process j)) (λ k. leaving m.on (record { process = p; output = k }) (sends_at plan p k))
      (λ k. leaving n.on (record { process = p; output = k }) (sends_at plan p k)) (λ j. rest p runs.process f.0 j below) (m.each p runs.process f.0 runs.there runs.here) (n.each p runs.process f.0 runs.there runs.here) o f.2 in
      sym (own-stream plan ks wrote m p o c sends alone) ∙ one ∙ own-stream plan ks other n p o c sends alone

  same-on : (fuel q i c : ℕ) → order.rank q < suc fuel → receives_at plan q i ≡ Some c → Before fuel → (a b : List Sending) → m.on c ≡ a → n.on c ≡ b → Same c
  same-on fuel q i c less is rest [] [] a b = rw (a, b) refl
  same-on fuel q i c less is rest [] (s ∷ ss) a b = same-sent fuel q i c less is rest s.sender (n.senders c 0 s (ap (λ (l : List Sending). slice_get l 0) b)) (λ component here. n.own c 0 s component (ap (λ (l : List Sending). slice_get l 0) b) here)
  same-on fuel q i c less is rest (s ∷ ss) bs a b = same-sent fuel q i c less is rest s.sender (m.senders c 0 s (ap (λ (l : List Sending). slice_get l 0) a)) (λ component here. m.own c 0 s component (ap (λ (l : List Sending). slice_get l 0) a) here)

  -- as much comes by a connection
  same-coming : (c : ℕ) → Same c → coming m.on (From c) ≡ coming n.on (From c)
  same-coming c same =
      let e : length (m.on c) ≡ length (n.on c) = sym (length-map (m.on c) (λ (sending : Sending). sending.content)) ∙ ap length same ∙ length-map (n.on c) (λ (sending : Sending). sending.content) in
      ap (λ (k : ℕ). Some k) e

  -- so a process is activated as often
  same-times : (fuel q : ℕ) (x : PlanProcess) (component : Std) → order.rank q < suc fuel → Before fuel → activated component m.on (inputs_of plan q x) ≡ activated component n.on (inputs_of plan q x)
  same-times fuel q x component less rest =
      ap (λ (ns : List (Option ℕ)). activations (is_looper component) (greatest ns)) (map-same (coming m.on) (coming n.on) (inputs_of plan q x) (λ i input at. one i input (receives_at plan q i) refl (port-at (input_at plan q x) 0 x.inputs i input at)))
    where
      at-input : (i : ℕ) (found : Option ℕ) → receives_at plan q i ≡ found → coming m.on (connected_or (text_at x.initials i) found) ≡ coming n.on (connected_or (text_at x.initials i) found)
      at-input i None is = refl
      at-input i (Some c) is = same-coming c (same-on fuel q i c less is rest (m.on c) (n.on c) refl refl)

      one : (i : ℕ) (input : Input) (found : Option ℕ) → receives_at plan q i ≡ found → input_at plan q x (0 + i) ≡ input → coming m.on input ≡ coming n.on input
      one i input found is at =
          let e : 0 + i ≡ i = omega arith in
          let here : connected_or (text_at x.initials i) found ≡ input = ap (connected_or (text_at x.initials i)) (sym is) ∙ ap (input_at plan q x) (sym e) ∙ at in
          ap (coming m.on) (sym here) ∙ at-input i found is ∙ ap (coming n.on) here

  same-input : (fuel q : ℕ) (x : PlanProcess) (component : Std) (i : ℕ) → order.rank q < fuel → arriving m.on (activated component m.on (inputs_of plan q x)) (input_at plan q x i) ≡ arriving n.on (activated component n.on (inputs_of plan q x)) (input_at plan q x i)
  same-input zero q x component i less = absurd (omega arith)
  same-input (suc fuel) q x component i less = by (receives_at plan q i) refl (λ p y k j below. same-input fuel p y k j below)
    where
      by : (found : Option ℕ) → receives_at plan q i ≡ found → Before fuel
          → arriving m.on (activated component m.on (inputs_of plan q x)) (connected_or (text_at x.initials i) found) ≡ arriving n.on (activated component n.on (inputs_of plan q x)) (connected_or (text_at x.initials i) found)
      by None is rest = ap (λ (k : ℕ). replicate k (text_packet (text_at x.initials i))) (same-times fuel q x component less rest)
      by (Some c) is rest = same-on fuel q i c less is rest (m.on c) (n.on c) refl refl

-- Where no connection has two senders, there is one outcome.
pub one-outcome : OneOutcome
one-outcome plan ks wrote other well settled unmerged order m n p bytes runs =
    let a = m.each p runs.process (components.WriteLines bytes) runs.there runs.here in
    let b = n.each p runs.process (components.WriteLines bytes) runs.there runs.here in
    a ∙ ap rendered_all (same-input plan ks wrote other well settled unmerged order m n (suc (order.rank p)) p runs.process (components.WriteLines bytes) 0 (omega arith)) ∙ sym b

-- Two compositions of such a network have the same files.
pub same-files : SameFiles
same-files plan ks journal other s t well first settled unmerged leads finished leads' finished' p bytes runs =
    let order = finished-leads_on std_rules plan ks journal s well leads finished in
    one-outcome plan ks (wrote_in s) (wrote_in t) well settled unmerged order (finished-composes plan ks journal s well first leads finished) (finished-composes plan ks other t well first leads' finished') p bytes runs

-- A plan that merges and balances nothing

only-one : {A : Type 0} (xs : List A) (i j : ℕ) (x y : A) → length xs ≤ 1 → slice_get xs i ≡ Some x → slice_get xs j ≡ Some y → x ≡ y
only-one [] i j x y l a b = absurd (cc)
only-one (z ∷ []) zero zero x y l a b = cc
only-one (z ∷ []) zero (suc j) x y l a b = absurd (cc)
only-one (z ∷ []) (suc i) j x y l a b = absurd (cc)
only-one (z ∷ w ∷ xs) i j x y l a b = absurd (omega arith)

-- an output that sends to a connection is among its senders
among : (plan : Plan) (p o c : ℕ) → sends_at plan p o ≡ Some c → (x : PlanConnection) × (k : ℕ) × (sender : Sender) × (slice_get plan.connections c ≡ Some x) × (slice_get x.senders k ≡ Some sender) × (sender.process ≡ p) × (sender.output ≡ o)
among plan p o c sends =
    let sender : Sender = record { process = p; output = o } in
    let pos = position-Some (λ (x : PlanConnection). list_any (is_sender sender) x.senders) plan.connections c no_connection sends in
    let x = get_or plan.connections c no_connection in
    let at = any-there (is_sender sender) x.senders pos.1 in
    let who = both-true p at.1.process o at.1.output at.3 in
    (x, at.0, at.1, get-there plan.connections c no_connection pos.0, at.2, sym who.0, sym who.1)

-- A plan that merges and balances nothing has no connection with two senders.
pub unmerged-plan : (plan : Plan) → IsDeterminate plan → IsUnmerged plan
unmerged-plan plan none c p o q r one two =
    let a = among plan p o c one in
    let b = among plan q r c two in
    let same : a.0 ≡ b.0 = (let h : Some a.0 ≡ Some b.0 = sym a.3 ∙ b.3 in cc) in
    let there : slice_get a.0.senders b.1 ≡ Some b.2 = ap (λ (x : PlanConnection). slice_get x.senders b.1) same ∙ b.4 in
    let sender : a.2 ≡ b.2 = only-one a.0.senders a.1 b.1 a.2 b.2 (none.one_sender c a.0 a.3) a.4 there in
    (sym a.5 ∙ ap (λ (s : Sender). s.process) sender ∙ b.5, sym a.6 ∙ ap (λ (s : Sender). s.output) sender ∙ b.6)

-- So two compositions of such a plan have the same files.
pub plan-same-files : PlanSameFiles
plan-same-files plan ks journal other s t none well are leads finished leads' finished' p bytes runs =
    same-files plan ks journal other s t well (components-first plan ks are) (λ q component at. (let is = are q component at in made-settled plan q is.process is.file component (none.no_balance q is.process is.there) is.made)) (unmerged-plan plan none)
    leads finished leads' finished' p bytes runs
