-- The connections of a net are its plan's: at the start, and after turns and thoughts.
use Rattle.std.proofs.Common.{◌≡◌, ℕ, ◌+◌, ◌<◌, ◌≤◌, Bool, true, false, cond, List, [], ◌∷◌, length, map, Option, Some, None, suc, zero, refl, ap, sym, ◌∙◌, subst, arith, nat_eq, slice_get, slice_set, get_or, ◌⊎◌, inl, inr}
use Rattle.std.specs.Prelude.{option_and_then}
use Rattle.std.specs.List.{range_with_len}
use Rattle.std.proofs.lemmas.Bool.Decides.{nat_tests}
use Rattle.std.proofs.lemmas.List.{length-map, map-set}
use Rattle.std.proofs.lemmas.List.FromFn.{length-map-range_with_len}
use Rattle.std.proofs.lemmas.List.Quantifiers.{position-Some}
use Rattle.std.proofs.lemmas.Option.{slice_get-get_or}
use Rattle.flow_component.specs.Laws.{Rules}
use Rattle.flow_plan.specs.Network.{Network, IsInputEnd}
use Rattle.flow_plan.specs.declared.plan.Process.{Process as PlanProcess}
use Rattle.flow_plan.specs.declared.plan.Sender.{Sender}
use Rattle.flow_plan.specs.declared.plan.Connection.{Connection}
use Rattle.flow_model.specs.States.{Input, Process, Outlet, output_at, change_at, changed}
use Rattle.flow_model.specs.Events.{Event}
use Rattle.flow_model.specs.Order.{connection_of, input_of, signal_of, output_of}
use Rattle.flow_model.specs.Wires.{Wires, wires}
use Rattle.flow_model.specs.Plans.{text_at, connected_or, receives_at, sends_at, input_at, leads_to, comes_from, process_at_start, processes_at_start, channel_at_start, start_of, StartsWell}
use Rattle.flow_model.specs.Stands.{BodyShown, ChannelShown, NetShown, all_shown_after, StandsForOpen, shown_changed}
use Rattle.flow_model.specs.Valid.{IsOpenSender}
use Rattle.flow_model.proofs.Senders.{both-true}
use Rattle.flow_model.proofs.Start.{no_connection, port-at, start-process, start-input, start-signal}
use Rattle.flow_model.proofs.Leaving.{ports-at, position-only, process-there, OpenSendersTell-start}
use Rattle.flow_model.proofs.Order.{inputs-after, outputs-after, signal-after}
use Rattle.flow_machine.specs.Values.{BodyValue, NetValue, shown_body, shown_net}
use Rattle.flow_machine.specs.Nets.{NetTurn, TurnsNet, SeesNet}
use Rattle.flow_machine.specs.Starts.{channel_begun}
use Rattle.flow_machine.specs.Joins.{input_in, output_in, IsWiredBy, IsPlanned, processes_of}
use Rattle.flow_machine.specs.declared.answers.Turn.{Turn}
use Rattle.flow_machine.specs.declared.answers.Turn.TheVariants as turns
use Rattle.flow_machine.specs.declared.answers.Over.TheVariants as overs
use Rattle.flow_machine.proofs.Standings.{get-map, processes-shown}
use Rattle.flow_machine.proofs.NetTurns.{set-same}
use Rattle.flow_machine.proofs.JoinSenders.{outlet-from}
use Rattle.flow_model.specs.Turns.{ChangeAt, change_of, change_one}
use Rattle.flow_model.proofs.Moves.{capacity-shown}

-- The connections at the ports of a body.
abbrev pub body_wires : {K : Type 0} → BodyValue K → Wires
body_wires b = wires b.process

-- The capacity of a connection that is shown.
abbrev pub capacity_of : ChannelShown → ℕ
capacity_of k = k.capacity

-- The connection at an input of a process. Its automatic input has the number of the others.
abbrev pub received_at : {K : Type 0} → ℕ → Option (Process K) → Option ℕ
received_at i (Some x) = cond (nat_eq i (length x.inputs)) x.signal (connection_of (slice_get x.inputs i))
received_at i None = None

-- An input with a connection is one of the list.
pub own-within : (inputs : List Input) (i c : ℕ) → connection_of (slice_get inputs i) ≡ Some c → i < length inputs
own-within [] i c is = absurd (cc)
own-within (x ∷ xs) zero c is = omega arith
own-within (x ∷ xs) (suc i) c is = omega (arith, own-within xs i c is)

-- A connection at an input of a process is received there.
pub input-received : {K : Type 0} (i c : ℕ) (found : Option (Process K)) → input_of i found ≡ Some c → received_at i found ≡ Some c
input-received i c None is = absurd (cc)
input-received i c (Some x) is =
    let below = own-within x.inputs i c is in
    let t : nat_eq i (length x.inputs) ≡ false = grind (arith, nat_tests) in
    rw t is

-- So is one at its automatic input.
pub signal-received : {K : Type 0} (c : ℕ) (x : Process K) → x.signal ≡ Some c → received_at (length x.inputs) (Some x) ≡ Some c
signal-received c x is = let n : ℕ = length x.inputs in let t : nat_eq n n ≡ true = grind (arith, nat_tests) in rw t is

-- What is received at a number stands at an input, or at the automatic one.
pub received-cases : {K : Type 0} (x : Process K) (i c : ℕ) → received_at i (Some x) ≡ Some c → (connection_of (slice_get x.inputs i) ≡ Some c) ⊎ ((i ≡ length x.inputs) × (x.signal ≡ Some c))
received-cases x i c is = by (nat_eq i (length x.inputs)) refl is
  where
    by : (b : Bool) → nat_eq i (length x.inputs) ≡ b → cond b x.signal (connection_of (slice_get x.inputs i)) ≡ Some c → (connection_of (slice_get x.inputs i) ≡ Some c) ⊎ ((i ≡ length x.inputs) × (x.signal ≡ Some c))
    by true t at = inr ((grind (arith, nat_tests)), at)
    by false t at = inl at

-- what stands at the ports of processes, by their wires
input-map : {K : Type 0} (ps : List (Process K)) (p i : ℕ) → input_in i (slice_get (map wires ps) p) ≡ received_at i (slice_get ps p)
input-map [] p i = refl
input-map (x ∷ ps) zero i = refl
input-map (x ∷ ps) (suc p) i = input-map ps p i

output-map : {K : Type 0} (ps : List (Process K)) (p o : ℕ) → output_in o (slice_get (map wires ps) p) ≡ output_of o (slice_get ps p)
output-map [] p o = refl
output-map (x ∷ ps) zero o = refl
output-map (x ∷ ps) (suc p) o = output-map ps p o

pub wires-processes : {K : Type 0} (bodies : List (BodyValue K)) → map body_wires bodies ≡ map wires (processes_of bodies)
wires-processes [] = refl
wires-processes (b ∷ bodies) = ap (λ ws. wires b.process ∷ ws) (wires-processes bodies)

-- The connection at an input of a body is that of its process.
pub input-wires : {K : Type 0} (bodies : List (BodyValue K)) (p i : ℕ) → input_in i (slice_get (map body_wires bodies) p) ≡ received_at i (slice_get (processes_of bodies) p)
input-wires bodies p i = ap (λ (ws : List Wires). input_in i (slice_get ws p)) (wires-processes bodies) ∙ input-map (processes_of bodies) p i

-- The connection at an output of a body is that of its process.
pub output-wires : {K : Type 0} (bodies : List (BodyValue K)) (p o : ℕ) → output_in o (slice_get (map body_wires bodies) p) ≡ output_of o (slice_get (processes_of bodies) p)
output-wires bodies p o = ap (λ (ws : List Wires). output_in o (slice_get ws p)) (wires-processes bodies) ∙ output-map (processes_of bodies) p o

-- A connection that was found at an output is there.
pub unwrapped : (found : Option (Option ℕ)) (c : ℕ) → option_and_then (λ (connection : Option ℕ). connection) found ≡ Some c → found ≡ Some (Some c)
unwrapped (Some x) c is = ap (λ (y : Option ℕ). Some y) is
unwrapped None c is = absurd (cc)

map-mapped : {K : Type 0} (bodies : List (BodyValue K)) → map (λ (b : BodyShown K). b.process) (map shown_body bodies) ≡ processes_of bodies
map-mapped [] = refl
map-mapped (b ∷ bodies) = ap (λ xs. b.process ∷ xs) (map-mapped bodies)

-- the processes of bodies, in a state that they show
pub processes-of : {K : Type 0} (net : NetValue K) (s : _) → StandsForOpen (shown_net net) s → s.kept.processes ≡ processes_of net.bodies
processes-of {K} net s stands = sym (sym (map-mapped net.bodies) ∙ ap (λ (n : NetShown K). map (λ (b : BodyShown K). b.process) n.bodies) stands ∙ processes-shown s.past.dropped 0 s.kept.processes)

length-start : {K : Type 0} (plan : Network) (n : ℕ) (xs : List PlanProcess) (components : List K) → length components ≡ length xs → length (processes_at_start plan n xs components) ≡ length xs
length-start plan n [] components each = refl
length-start plan n (x ∷ xs) [] each = absurd (omega (arith, each))
length-start plan n (x ∷ xs) (component ∷ components) each = omega (arith, length-start plan (n + 1) xs components (omega (arith, each)))

module _ {K : Type 0} (rules : Rules K) (plan : Network) (components : List K) (well : StartsWell rules plan components) where
  abbrev ps : List (Process K)
  ps = processes_at_start plan 0 plan.processes components

  start-receiver : (c : ℕ) (x : Connection) → slice_get plan.connections c ≡ Some x → received_at x.input (slice_get ps x.receiver) ≡ Some c
  start-receiver c x is = by (nat_eq x.input spec.inputs) refl
    where
      has : IsInputEnd plan x.receiver x.input
      has = well.wired.receivers c x is

      spec : PlanProcess
      spec = has.0

      found : (component : K) × (slice_get ps x.receiver ≡ Some (process_at_start plan (0 + x.receiver) spec component))
      found = process-there plan 0 plan.processes components x.receiver spec well.one_each has.1

      z : Process K
      z = process_at_start plan x.receiver spec found.0

      there : slice_get ps x.receiver ≡ Some z
      there = let zero_p : 0 + x.receiver ≡ x.receiver = omega arith in found.1 ∙ ap (λ (q : ℕ). Some (process_at_start plan q spec found.0)) zero_p

      at : receives_at plan x.receiver x.input ≡ Some c
      at =
          let itself : leads_to x.receiver x.input x ≡ true = (let t : nat_eq x.receiver x.receiver ≡ true = grind (arith, nat_tests) in let u : nat_eq x.input x.input ≡ true = grind (arith, nat_tests) in rw (t, u) refl) in
          position-only (leads_to x.receiver x.input) plan.connections c x is itself (λ d y there passes. (let b = both-true y.receiver x.receiver y.input x.input passes in well.wired.one_receiver d c y x there is b.0 b.1))

      by : (b : Bool) → nat_eq x.input spec.inputs ≡ b → received_at x.input (slice_get ps x.receiver) ≡ Some c
      by true t =
          let same : x.input ≡ spec.inputs = grind (arith, nat_tests) in
          let long : length z.inputs ≡ x.input = length-map-range_with_len (input_at plan x.receiver spec) 0 spec.inputs ∙ sym same in
          ap (received_at x.input) there ∙ ap (λ (i : ℕ). received_at i (Some z)) (sym long) ∙ signal-received c z (ap (receives_at plan x.receiver) (sym same) ∙ at)
      by false t =
          let most : x.input ≤ spec.inputs = has.2 in
          let below : x.input < spec.inputs = grind (arith, nat_tests) in
          let zero_i : 0 + x.input ≡ x.input = omega arith in
          ap (received_at x.input) there
          ∙ input-received x.input c (Some z) (ap connection_of (ports-at (input_at plan x.receiver spec) 0 spec.inputs x.input below ∙ ap (λ (i : ℕ). Some (input_at plan x.receiver spec i)) zero_i) ∙ ap (λ (o : Option ℕ). connection_of (Some (connected_or (text_at spec.initials x.input) o))) at)

  start-receives : (p i c : ℕ) → received_at i (slice_get ps p) ≡ Some c → receives_at plan p i ≡ Some c
  start-receives p i c is = by (slice_get ps p) refl is
    where
      by : (found : Option (Process K)) → slice_get ps p ≡ found → received_at i found ≡ Some c → receives_at plan p i ≡ Some c
      by None there at = absurd (cc)
      by (Some z) there at = elim (received-cases z i c at) [
        | inl own ↦ start-input plan components p i c (ap (input_of i) there ∙ own)
        | inr automatic ↦ (let s = start-signal plan components p c (ap signal_of there ∙ automatic.1) in
            let h : Some s.0 ≡ Some z = sym s.1 ∙ there in
            let same : s.0 ≡ z = cc in
            ap (receives_at plan p) (automatic.0 ∙ ap (λ (y : Process K). length y.inputs) (sym same)) ∙ s.2)
      ]

  start-inputs : (p i c : ℕ) → received_at i (slice_get ps p) ≡ Some c → (x : Connection) × (slice_get plan.connections c ≡ Some x) × (x.receiver ≡ p) × (x.input ≡ i)
  start-inputs p i c is =
      let found = position-Some (leads_to p i) plan.connections c no_connection (start-receives p i c is) in
      let x = get_or plan.connections c no_connection in
      let b = both-true x.receiver p x.input i found.1 in
      (x, slice_get-get_or plan.connections c no_connection found.0, b.0, b.1)

  start-sender : (c : ℕ) (x : Connection) (s : Sender) → slice_get plan.connections c ≡ Some x → IsOpenSender s x.senders → output_of s.output (slice_get ps s.process) ≡ Some c
  start-sender c x s is among =
      let left = (OpenSendersTell-start rules plan components well).only c (channel_at_start x) s (get-map channel_at_start plan.connections c x is) among in
      let o = outlet-from 0 left.process.outputs left.place (let u : Outlet = record { output = s.output; connection = c } in u) left.outlet in
      let port : s.output ≡ o.0 = omega (arith, o.1) in
      ap (output_of s.output) left.there ∙ ap (output_at left.process) port ∙ ap (option_and_then (λ (connection : Option ℕ). connection)) o.2

  start-outputs : (p o c : ℕ) → output_of o (slice_get ps p) ≡ Some c → (x : Connection) × (slice_get plan.connections c ≡ Some x) × IsOpenSender (record { process = p; output = o }) x.senders
  start-outputs p o c is = by (slice_get ps p) refl is
    where
      by : (found : Option (Process K)) → slice_get ps p ≡ found → output_of o found ≡ Some c → (x : Connection) × (slice_get plan.connections c ≡ Some x) × IsOpenSender (record { process = p; output = o }) x.senders
      by None there out = absurd (cc)
      by (Some z) there out =
          let at = start-process plan components p z there in
          let port : slice_get (map (sends_at plan p) (range_with_len 0 (at.spec.outputs + 1))) o ≡ Some (Some c) = ap (λ (y : Process K). slice_get y.outputs o) (sym at.is) ∙ unwrapped (slice_get z.outputs o) c out in
          let zero_o : o ≡ 0 + o = omega arith in
          let sends : sends_at plan p o ≡ Some c = ap (sends_at plan p) zero_o ∙ port-at (sends_at plan p) 0 (at.spec.outputs + 1) o (Some c) port in
          let found = position-Some (comes_from p o) plan.connections c no_connection sends in
          (get_or plan.connections c no_connection, slice_get-get_or plan.connections c no_connection found.0, found.1)

  wired-start : IsWiredBy plan.connections (map wires ps) (map (λ (x : Connection). x.capacity) plan.connections)
  wired-start = record {
    few_processes = omega (arith, length-map ps wires, length-start plan 0 plan.processes components well.one_each, well.wired.few_processes);
    few_connections = well.wired.few_connections;
    channels = refl;
    receivers = λ c x is. input-map ps x.receiver x.input ∙ start-receiver c x is;
    inputs = λ p i c is. start-inputs p i c (sym (input-map ps p i) ∙ is);
    senders = λ c x s is among. output-map ps s.process s.output ∙ start-sender c x s is among;
    outputs = λ p o c is. start-outputs p o c (sym (output-map ps p o) ∙ is);
    different = λ c x is. (OpenSendersTell-start rules plan components well).once c (channel_at_start x) (get-map channel_at_start plan.connections c x is);
    capacity = well.wired.capacities;
    few_senders = well.wired.few_senders;
  }

  begun-capacities : (cs : List Connection) → map capacity_of (map channel_begun cs) ≡ map (λ (x : Connection). x.capacity) cs
  begun-capacities [] = refl
  begun-capacities (c ∷ cs) = ap (λ ns. c.capacity ∷ ns) (begun-capacities cs)

  -- a net that has just started
  pub planned-start : (net : NetValue K) → StandsForOpen (shown_net net) (start_of plan components) → net.connections ≡ plan.connections → net.channels ≡ map channel_begun plan.connections → IsPlanned net
  planned-start net stands connections channels =
      let ws : map body_wires net.bodies ≡ map wires ps = wires-processes net.bodies ∙ ap (map wires) (sym (processes-of net (start_of plan components) stands)) in
      let cs : map capacity_of net.channels ≡ map (λ (x : Connection). x.capacity) plan.connections = ap (map capacity_of) channels ∙ begun-capacities plan.connections in
      subst (λ (xs : List Connection). IsWiredBy xs (map body_wires net.bodies) (map capacity_of net.channels)) (sym connections)
      (subst (λ (xs : List Wires). IsWiredBy plan.connections xs (map capacity_of net.channels)) (sym ws) (subst (λ (ns : List ℕ). IsWiredBy plan.connections (map wires ps) ns) (sym cs) wired-start))

-- connections, wires and capacities that stay
pub planned-kept : {K : Type 0} (old new : NetValue K) → new.connections ≡ old.connections → map body_wires new.bodies ≡ map body_wires old.bodies → map capacity_of new.channels ≡ map capacity_of old.channels → IsPlanned old → IsPlanned new
planned-kept old new connections ws cs planned =
    subst (λ (xs : List Connection). IsWiredBy xs (map body_wires new.bodies) (map capacity_of new.channels)) (sym connections)
    (subst (λ (xs : List Wires). IsWiredBy old.connections xs (map capacity_of new.channels)) (sym ws) (subst (λ (ns : List ℕ). IsWiredBy old.connections (map body_wires old.bodies) ns) (sym cs) planned))

-- A body with the same ports leaves all wires as they were.
pub wires-set : {K : Type 0} (bodies : List (BodyValue K)) (p : ℕ) (b b' : BodyValue K) → slice_get bodies p ≡ Some b → b'.process.inputs ≡ b.process.inputs → b'.process.outputs ≡ b.process.outputs → b'.process.signal ≡ b.process.signal → map body_wires (slice_set bodies p b') ≡ map body_wires bodies
wires-set {K} bodies p b b' there inputs outputs signal =
    map-set body_wires bodies p b' ∙ ap (slice_set (map body_wires bodies) p) (let same : body_wires b' ≡ body_wires b = (λ i. record { inputs = inputs i; outputs = outputs i; signal = signal i }) in same) ∙ set-same (map body_wires bodies) p (body_wires b) (get-map body_wires bodies p b there)

capacities-change : (channels : List ChannelShown) (c : ℕ) (f : ChannelShown → ChannelShown) → ((k : ChannelShown) → (f k).capacity ≡ k.capacity) → map capacity_of (change_at channels c f) ≡ map capacity_of channels
capacities-change channels c f same = by (slice_get channels c) refl
  where
    by : (found : Option ChannelShown) → slice_get channels c ≡ found → map capacity_of (changed channels c f found) ≡ map capacity_of channels
    by (Some k) there = map-set capacity_of channels c (f k) ∙ ap (slice_set (map capacity_of channels) c) (same k) ∙ set-same (map capacity_of channels) c k.capacity (get-map capacity_of channels c k there)
    by None there = refl

pub capacities-after : (e : Event) (channels : List ChannelShown) → map capacity_of (all_shown_after e channels) ≡ map capacity_of channels
capacities-after e channels = by (change_of e)
  where
    by : (change : Option ChangeAt) → map capacity_of (change_one shown_changed change channels) ≡ map capacity_of channels
    by (Some at) = capacities-change channels at.connection (shown_changed at.change) (capacity-shown at.change)
    by None = refl

planned-turn : {K : Type 0} (old : NetValue K) (p n : ℕ) (e : Event) (stamp : ℕ) (new : NetValue K) → NetTurn old p n e stamp new → IsPlanned old → IsPlanned new
planned-turn {K} old p n e stamp new turn planned =
    let x = turn.before.process in
    planned-kept old new turn.connections
    (ap (map body_wires) turn.bodies ∙ wires-set old.bodies p turn.before turn.after turn.there (ap (λ (y : Process K). y.inputs) turn.turn.process ∙ inputs-after x e) (ap (λ (y : Process K). y.outputs) turn.turn.process ∙ outputs-after x e) (ap (λ (y : Process K). y.signal) turn.turn.process ∙ signal-after x e))
    (ap (map capacity_of) turn.channels ∙ capacities-after e old.channels) planned

-- A turn keeps the net that of its plan.
pub planned-answer : {K : Type 0} (old : NetValue K) (p n stamp : ℕ) (answer : Turn) (new : NetValue K) → TurnsNet old p n stamp answer new → IsPlanned old → IsPlanned new
planned-answer old p n stamp (turns.Made s) new made planned = planned-turn old p n made.1.0 stamp new made.1.1 planned
planned-answer {K} old p n stamp (turns.Blocked block) new same planned = subst (λ (net : NetValue K). IsPlanned net) (sym same.1) planned
planned-answer {K} old p n stamp (turns.Over overs.Ended) new same planned = subst (λ (net : NetValue K). IsPlanned net) (sym same.1) planned
planned-answer {K} old p n stamp (turns.Over overs.Failed) new same planned = subst (λ (net : NetValue K). IsPlanned net) (sym same.1) planned
planned-answer old p n stamp (turns.Over overs.Starved) new never planned = absurd never

-- So does a turn that is told a level.
pub planned-seen : {K : Type 0} (old : NetValue K) (p n stamp : ℕ) (answer : Option Turn) (new : NetValue K) → SeesNet old p n stamp answer new → IsPlanned old → IsPlanned new
planned-seen old p n stamp (Some answer) new sees planned = planned-answer old p n stamp answer new sees.1 planned
planned-seen {K} old p n stamp None new same planned = subst (λ (net : NetValue K). IsPlanned net) (sym same.1) planned
