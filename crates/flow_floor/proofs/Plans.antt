-- Who receives from a connection, and who sends into it, as the plan says.
use Rattle.std.proofs.Common.{◌≡◌, ℕ, zero, suc, ◌+◌, ◌<◌, ◌≤◌, ◌∙◌, arith, cond, nat_eq, eq-eqb, Bool, true, false, inl, inr, List, [], ◌∷◌, map, length, get_or, drop, refl, sym, ap, subst, Option, Some, None, slice_get, All, Contains, IsTrue, ◌&&◌, ◌||◌}
use Rattle.std.proofs.lemmas.Bool.Decides.{nat_tests}
use Rattle.std.specs.List.{list_any}
use Rattle.std.proofs.lemmas.List.{length-map, drop_more}
use Rattle.std.proofs.lemmas.Option.{get_or_from_slice_get, slice_get-get_or}
use Rattle.std.specs.Option.{option_map}
use Rattle.std.specs.Prelude.{unwrap_or}
use mathlib.Core.Logic.{dite}
use native.Mathlib.Decide.{ℕ_discrete, dec_lt, dec_le}
use Rattle.std.proofs.lemmas.Grind.{not_there}
use Rattle.flow_limits.specs.declared.TheConstants.{SENDER_LIMIT}
use Rattle.flow_plan.specs.declared.plan.Sender.{Sender}
use Rattle.flow_plan.specs.declared.plan.Connection.{Connection}
use Rattle.flow_model.specs.States.{From, is_sender}
use Rattle.flow_model.specs.Valid.{IsOpenSender}
use Rattle.flow_model.specs.Wires.{Wires, wires}
use Rattle.flow_model.specs.Order.{connection_of}
use Rattle.flow_model.specs.Stands.{ChannelShown}
use Rattle.flow_machine.specs.Joins.{IsPlanned, input_in, output_in}
use Rattle.flow_machine.specs.Values.{BodyValue, NetValue}
use Rattle.flow_machine.proofs.Standings.{get-map}
use Rattle.flow_floor.specs.Plans.{is_followed, receiver_at, senders_at, sending_processes}
use Rattle.flow_floor.specs.Wired.{IsInput, IsOutput}
use Rattle.flow_floor.proofs.Numbers.{contains-here, contains-later, contains-or-not}
use Rattle.flow_floor.proofs.Lists.{some_Some, get-within}

and-first : (a b : Bool) → (a && b) ≡ true → a ≡ true
and-first true b is = refl
and-first false b is = absurd (let e : false ≡ true = is in cc)

-- senders that are one are of one process
one-process : (t s : Sender) → is_sender t s ≡ true → t.process ≡ s.process
one-process t s is = let same = and-first (nat_eq t.process s.process) (nat_eq t.output s.output) is in (let e : t.process ≡ s.process = grind (arith, nat_tests) in e)

-- a process that is the first of these senders' is named among them
followed-named : (q : ℕ) (senders : List Sender) → is_followed q senders ≡ true → Contains (sending_processes senders) q
followed-named q [] is = absurd (let e : false ≡ true = is in cc)
followed-named q (s ∷ senders) is = by (is_followed s.process senders) refl (followed-named q senders)
  where
    same : s.process ≡ q
    same = grind (arith, nat_tests)

    by : (b : Bool) → is_followed s.process senders ≡ b → (is_followed q senders ≡ true → Contains (sending_processes senders) q) → Contains (cond b (sending_processes senders) (s.process ∷ sending_processes senders)) q
    by true next rest = rest (subst (λ (p : ℕ). is_followed p senders ≡ true) same next)
    by false last rest = subst (λ (p : ℕ). Contains (p ∷ sending_processes senders) q) (sym same) (contains-here q (sending_processes senders))

-- A sender's process is named.
pub sender-named : (t : Sender) (senders : List Sender) → list_any (is_sender t) senders ≡ true → Contains (sending_processes senders) t.process
sender-named t [] is = absurd (let e : false ≡ true = is in cc)
sender-named t (s ∷ senders) is = by (is_followed s.process senders) refl (is_sender t s) refl (sender-named t senders) is
  where
    by : (b : Bool) → is_followed s.process senders ≡ b → (a : Bool) → is_sender t s ≡ a → (list_any (is_sender t) senders ≡ true → Contains (sending_processes senders) t.process) → (a || list_any (is_sender t) senders) ≡ true → Contains (cond b (sending_processes senders) (s.process ∷ sending_processes senders)) t.process
    by true next true same rest there = followed-named t.process senders (subst (λ (p : ℕ). is_followed p senders ≡ true) (sym (one-process t s same)) next)
    by true next false other rest there = rest there
    by false last true same rest there = subst (λ (p : ℕ). Contains (s.process ∷ sending_processes senders) p) (sym (one-process t s same)) (contains-here s.process (sending_processes senders))
    by false last false other rest there = contains-later t.process s.process (sending_processes senders) (rest there)

-- the senders from one on begin with it
sender-first : (senders : List Sender) (i : ℕ) (s : Sender) → slice_get senders i ≡ Some s → drop i senders ≡ s ∷ drop (i + 1) senders
sender-first senders i s at = drop_more senders i s (get-within senders i s at) ∙ ap (λ (t : Sender). t ∷ drop (i + 1) senders) (get_or_from_slice_get senders i s s at)

-- The senders from one on that is followed by another of its process name the same as those behind it.
pub sending-skip : (senders : List Sender) (i : ℕ) (s : Sender) → slice_get senders i ≡ Some s → is_followed s.process (drop (i + 1) senders) ≡ true → sending_processes (drop i senders) ≡ sending_processes (drop (i + 1) senders)
sending-skip senders i s at next = ap sending_processes (sender-first senders i s at) ∙ ap (λ (b : Bool). cond b (sending_processes (drop (i + 1) senders)) (s.process ∷ sending_processes (drop (i + 1) senders))) next

-- Those from one on that isn't name its process first.
pub sending-first : (senders : List Sender) (i : ℕ) (s : Sender) → slice_get senders i ≡ Some s → is_followed s.process (drop (i + 1) senders) ≡ false → sending_processes (drop i senders) ≡ s.process ∷ sending_processes (drop (i + 1) senders)
sending-first senders i s at last = ap sending_processes (sender-first senders i s at) ∙ ap (λ (b : Bool). cond b (sending_processes (drop (i + 1) senders)) (s.process ∷ sending_processes (drop (i + 1) senders))) last

-- What a plan says of a connection that is there.
pub receiver_at-is : (connections : List Connection) (c : ℕ) (x : Connection) → slice_get connections c ≡ Some x → receiver_at connections c ≡ x.receiver ∷ []
receiver_at-is connections c x at = ap (λ (o : Option Connection). unwrap_or (option_map (λ (y : Connection). y.receiver ∷ []) o) []) at

pub senders_at-is : (connections : List Connection) (c : ℕ) (x : Connection) → slice_get connections c ≡ Some x → senders_at connections c ≡ sending_processes x.senders
senders_at-is connections c x at = ap (λ (o : Option Connection). unwrap_or (option_map (λ (y : Connection). sending_processes y.senders) o) []) at

-- a sender in the list is among its senders
sender-among : (senders : List Sender) (i : ℕ) (s : Sender) → slice_get senders i ≡ Some s → IsOpenSender s senders
sender-among [] i s at = absurd (cc)
sender-among (t ∷ senders) zero s at = by (is_sender s t) itself
  where
    itself : is_sender s t ≡ true
    itself = let same : t ≡ s = cc in subst (λ (u : Sender). is_sender s u ≡ true) (sym same) (λ i. eq-eqb s.process s.process refl i && eq-eqb s.output s.output refl i)

    by : (b : Bool) → b ≡ true → IsTrue (b || list_any (is_sender s) senders)
    by true is = refl
    by false is = absurd (let e : false ≡ true = is in cc)
sender-among (t ∷ senders) (suc i) s at = by (is_sender s t) (sender-among senders i s at)
  where
    by : (b : Bool) → IsTrue (list_any (is_sender s) senders) → IsTrue (b || list_any (is_sender s) senders)
    by true rest = refl
    by false rest = rest

module _ {K : Type 0} (net : NetValue K) (planned : IsPlanned net) where
  abbrev body_wires : BodyValue K → Wires
  body_wires b = wires b.process

  -- a process to whose wires something is connected is there
  wires-within : (p c : ℕ) (at : Option Wires → Option ℕ) → at None ≡ None → at (slice_get (map body_wires net.bodies) p) ≡ Some c → p < length net.bodies
  wires-within p c at none is = by (slice_get (map body_wires net.bodies) p) refl
    where
      by : (found : Option Wires) → slice_get (map body_wires net.bodies) p ≡ found → p < length net.bodies
      by (Some w) there = omega (arith, get-within (map body_wires net.bodies) p w there, length-map net.bodies body_wires)
      by None there = absurd (let e : None ≡ Some c = sym none ∙ ap at (sym there) ∙ is in cc)

  -- the input at which the process has the connection
  input-of : (p c : ℕ) (b : BodyValue K) → slice_get net.bodies p ≡ Some b → IsInput b c → (i : ℕ) × (input_in i (slice_get (map body_wires net.bodies) p) ≡ Some c)
  input-of p c b there (inl (i, at)) =
      let low = get-within b.process.inputs i (From c) at in
      let other : nat_eq i (length b.process.inputs) ≡ false = grind (arith, nat_tests) in
      (i, ap (input_in i) (get-map body_wires net.bodies p b there) ∙ ap (λ t. cond t b.process.signal (connection_of (slice_get b.process.inputs i))) other ∙ ap connection_of at)
  input-of p c b there (inr at) =
      let i = length b.process.inputs in
      (i, ap (input_in i) (get-map body_wires net.bodies p b there) ∙ ap (λ t. cond t b.process.signal (connection_of (slice_get b.process.inputs i))) (eq-eqb i i refl) ∙ at)

  -- A process that has the connection at an input is the one that receives there.
  receiver-of : (p c : ℕ) (b : BodyValue K) (x : Connection) → slice_get net.connections c ≡ Some x → slice_get net.bodies p ≡ Some b → IsInput b c → x.receiver ≡ p
  receiver-of p c b x at there input =
      let i = input-of p c b there input in
      let y = planned.inputs p i.0 c i.1 in
      ap (λ (z : Connection). z.receiver) (some_Some x y.0 (sym at ∙ y.1)) ∙ y.2

  -- One that has it at an output is among those that send there.
  sender-in : (p c : ℕ) (b : BodyValue K) (x : Connection) → slice_get net.connections c ≡ Some x → slice_get net.bodies p ≡ Some b → IsOutput b c → Contains (sending_processes x.senders) p
  sender-in p c b x at there (o, output) =
      let y = planned.outputs p o c (ap (output_in o) (get-map body_wires net.bodies p b there) ∙ output) in
      let s : Sender = record { process = p; output = o } in
      sender-named s x.senders (subst (λ (z : Connection). IsOpenSender s z.senders) (some_Some y.0 x (sym y.1 ∙ at)) y.2)

  -- The process that receives there is one of the net's.
  receiver-low : (c : ℕ) (x : Connection) → slice_get net.connections c ≡ Some x → x.receiver < length net.bodies
  receiver-low c x at = wires-within x.receiver c (input_in x.input) refl (planned.receivers c x at)

  -- So is each that sends there.
  senders-low : (c : ℕ) (x : Connection) → slice_get net.connections c ≡ Some x → All (λ (s : Sender). s.process < length net.bodies) x.senders
  senders-low c x at k d low =
      let s = get_or x.senders k d in
      wires-within s.process c (output_in s.output) refl (planned.senders c x s at (sender-among x.senders k s (slice_get-get_or x.senders k d low)))

  -- They are few.
  senders-short : (c : ℕ) (x : Connection) → slice_get net.connections c ≡ Some x → length x.senders ≤ SENDER_LIMIT
  senders-short c x at = planned.few_senders c x at

  -- there are as many channels as connections
  counted : length net.connections ≡ length net.channels
  counted = sym (length-map net.connections (λ (x : Connection). x.capacity)) ∙ ap (λ (xs : List ℕ). length xs) (sym planned.channels) ∙ length-map net.channels (λ (k : ChannelShown). k.capacity)

-- The same where it is only known that the net's connections are a plan's.
module _ {K : Type 0} (net : NetValue K) (wired : ∥ IsPlanned net ∥₁) where
  pub receiver-is : (p c : ℕ) (b : BodyValue K) (x : Connection) → slice_get net.connections c ≡ Some x → slice_get net.bodies p ≡ Some b → IsInput b c → x.receiver ≡ p
  receiver-is p c b x at there input = dite (ℕ_discrete x.receiver p) (λ same. same) (λ other. absurd (not_there wired (λ planned. other (receiver-of net planned p c b x at there input))))

  pub sends-there : (p c : ℕ) (b : BodyValue K) (x : Connection) → slice_get net.connections c ≡ Some x → slice_get net.bodies p ≡ Some b → IsOutput b c → Contains (sending_processes x.senders) p
  sends-there p c b x at there output = elim (contains-or-not p (sending_processes x.senders)) [
    | inl named ↦ named
    | inr missing ↦ absurd (not_there wired (λ planned. missing (sender-in net planned p c b x at there output)))
  ]

  pub receiver-below : (c : ℕ) (x : Connection) → slice_get net.connections c ≡ Some x → x.receiver < length net.bodies
  receiver-below c x at = dite (dec_lt x.receiver (length net.bodies)) (λ low. low) (λ high. absurd (not_there wired (λ planned. high (receiver-low net planned c x at))))

  pub senders-below : (c : ℕ) (x : Connection) → slice_get net.connections c ≡ Some x → All (λ (s : Sender). s.process < length net.bodies) x.senders
  senders-below c x at k d inside =
      dite (dec_lt (get_or x.senders k d).process (length net.bodies)) (λ low. low) (λ high. absurd (not_there wired (λ planned. high (senders-low net planned c x at k d inside))))

  pub senders-few : (c : ℕ) (x : Connection) → slice_get net.connections c ≡ Some x → length x.senders ≤ SENDER_LIMIT
  senders-few c x at = dite (dec_le (length x.senders) SENDER_LIMIT) (λ few. few) (λ many. absurd (not_there wired (λ planned. many (senders-short net planned c x at))))

  pub connection-count : length net.connections ≡ length net.channels
  connection-count = dite (ℕ_discrete (length net.connections) (length net.channels)) (λ same. same) (λ other. absurd (not_there wired (λ planned. other (counted net planned))))
