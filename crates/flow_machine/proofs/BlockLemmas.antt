-- What a process waits for, and level numbers that are given.
use Rattle.std.proofs.Common.{◌≡◌, ℕ, ◌≤◌, Bool, true, false, cond, List, length, Option, Some, None, IsSome, refl, ap, sym, subst, ◌∙◌, arith, slice_get, nat_lt, nat_le}
use Rattle.std.specs.Prelude.{◌&&◌, is_some, option_and_then}
use Rattle.std.proofs.lemmas.Bool.Decides.{nat_tests}
use Rattle.flow_packet.specs.Tree.{Tree}
use Rattle.flow_packet.specs.Hands.{packet_at}
use Rattle.flow_component.specs.declared.Port.{Port}
use Rattle.flow_component.specs.declared.Wish.TheVariants as wishes
use Rattle.flow_component.specs.Laws.{Rules}
use Rattle.flow_model.specs.declared.Stage.{Stage}
use Rattle.flow_model.specs.declared.Stage.TheVariants as stages
use Rattle.flow_model.specs.declared.Block.{Block}
use Rattle.flow_model.specs.declared.Block.TheVariants as blocks
use Rattle.flow_model.specs.States.{Input, Process}
use Rattle.flow_model.specs.Events.{Event, Sends, Look, event_from, sent}
use Rattle.flow_model.specs.Order.{connection_of}
use Rattle.flow_model.specs.Stands.{ChannelShown, look_shown}
use Rattle.flow_model.specs.Valid.{IsGranted}
use Rattle.flow_model.specs.Verdicts.{block_of, exact_level, waits_for}
use Rattle.flow_machine.specs.Values.{BodyValue, NetValue}
use Rattle.flow_machine.specs.Answers.{CaseIs}
use Rattle.flow_machine.specs.Effects.{id_sent}
use Rattle.flow_machine.specs.FitNets.{FitNet}
use Rattle.flow_machine.specs.Nets.{looks_of, block_at, is_full, is_asking, packet_wished, PairTurns}
use Rattle.flow_machine.specs.declared.answers.Case.{Case}
use Rattle.flow_machine.specs.declared.answers.Case.TheVariants as cases
use Rattle.flow_machine.specs.declared.answers.Over.TheVariants as overs
use Rattle.flow_machine.specs.declared.answers.Turn.{Turn as Answer}
use Rattle.flow_machine.specs.declared.answers.Turn.TheVariants as turns
use Rattle.flow_machine.proofs.Standings.{process-in}

-- A process of the net has the block that its looks give it.
pub block-there : {K : Type 0} (net : NetValue K) (p : ℕ) (b : BodyValue K) → slice_get net.bodies p ≡ Some b → block_at net p ≡ block_of (looks_of net.channels) b.process
block-there {K} net p b there = ap (option_and_then (λ (x : BodyValue K). block_of (looks_of net.channels) x.process)) there

-- A process that waits for nothing has no block.
pub waits-none : {K : Type 0} (looks : List Look) (x : Process K) → waits_for x x.stage ≡ None → block_of looks x ≡ None
waits-none looks x none = by (is_some (event_from looks x (exact_level looks x)))
  where
    by : (t : Bool) → cond t None (waits_for x x.stage) ≡ None
    by true = refl
    by false = none

-- A process that may wait is blocked exactly where it has no event.
pub block-event : {K : Type 0} (looks : List Look) (x : Process K) (found : Option Event) (block : Block) → event_from looks x (exact_level looks x) ≡ found → waits_for x x.stage ≡ Some block → block_of looks x ≡ cond {A = Option Block} (is_some found) None (Some block)
block-event looks x found block event waits = λ i. cond {A = Option Block} (is_some (event i)) None (waits i)

-- a process with such a case waits for nothing
pub waits-initial : {K : Type 0} (x : Process K) (port : Port) → CaseIs x (cases.Initial port) → waits_for x x.stage ≡ None
waits-initial x port is = ap (waits_for x) is.1 ∙ ap (λ (i : Option Input). option_and_then (λ d. Some (blocks.Empty d port)) (connection_of i)) is.2

-- A process that asks for a level waits for nothing.
pub waits-level : {K : Type 0} (x : Process K) (c : ℕ) (port : Port) → CaseIs x (cases.Level c port) → waits_for x x.stage ≡ None
waits-level x c port is = ap (waits_for x) is.0

-- A process that wishes its deactivation waits for nothing.
pub waits-deactivate : {K : Type 0} (x : Process K) → CaseIs x cases.Deactivate → waits_for x x.stage ≡ None
waits-deactivate x is = ap (waits_for x) is

-- A process that has to close an output waits for nothing.
pub waits-close : {K : Type 0} (x : Process K) (c : ℕ) → CaseIs x (cases.Close c) → waits_for x x.stage ≡ None
waits-close x c is = ap (waits_for x) is.2

-- A process that is over waits for nothing.
pub waits-over : {K : Type 0} (x : Process K) (over : _) → CaseIs x (cases.Over over) → waits_for x x.stage ≡ None
waits-over x overs.Ended is = ap (waits_for x) is
waits-over x overs.Failed is = ap (waits_for x) is.1
waits-over x overs.Starved is = absurd is

some-of : {A : Type 0} (o : Option A) → IsSome o → (y : A) × (o ≡ Some y)
some-of (Some y) is = (y, refl)
some-of None is = absurd (cc)

-- a send that stands has its packet
pub wished-there : {K : Type 0} (rules : Rules K) (net : NetValue K) (p : ℕ) (b : BodyValue K) (port : Port) (id : ℕ) → FitNet rules net → slice_get net.bodies p ≡ Some b → b.process.stage ≡ stages.Wishing (wishes.Send port id)
    → (packet : Tree) × (packet_wished b.process ≡ Some packet)
wished-there rules net p b port id fit there stage =
    let granted = subst (IsGranted b.process) stage (fit.fit.all_fit p b.process (process-in net fit.state p b fit.stands there)).granted in
    let found = some-of (packet_at b.process.held.packets id) granted.1 in
    (found.0, ap (λ (s : Stage). option_and_then (packet_at b.process.held.packets) (id_sent s)) stage ∙ found.1)

-- it waits exactly while the connection is full
pub sends-full : (port c : ℕ) (found : Option Tree) (packet : Tree) (channel : ChannelShown) (block : Block) → found ≡ Some packet → cond {A = Option Block} (is_some (sent port c found (Some (look_shown channel)))) None (Some block) ≡ cond {A = Option Block} (is_full channel) (Some block) None
sends-full port c found packet channel block is = ap (λ (o : Option Tree). cond {A = Option Block} (is_some (sent port c o (Some (look_shown channel)))) None (Some block)) is ∙ by (nat_lt (length channel.packets) channel.capacity) refl
  where
    by : (t : Bool) → nat_lt (length channel.packets) channel.capacity ≡ t → cond {A = Option Block} (is_some (cond {A = Option Event} t (Some (Sends port c packet)) None)) None (Some block) ≡ cond {A = Option Block} (nat_le channel.capacity (length channel.packets)) (Some block) None
    by true less = let h : nat_le channel.capacity (length channel.packets) ≡ false = grind (arith, nat_tests) in rw h refl
    by false less = let h : nat_le channel.capacity (length channel.packets) ≡ true = grind (arith, nat_tests) in rw h refl

-- a process that asks for a level has that case
pub asks-case : {K : Type 0} (x : Process K) (case : Case) → is_asking x.stage ≡ true → CaseIs x case → (c : ℕ) × (port : Port) × (case ≡ cases.Level c port)
asks-case x cases.Idle asks is = absurd (let h : false ≡ true = sym (ap is_asking is) ∙ asks in cc)
asks-case x (cases.Receive c port) asks is = absurd (let h : false ≡ true = sym (ap is_asking is.0) ∙ asks in cc)
asks-case x (cases.Initial port) asks is = absurd (let h : false ≡ true = sym (ap is_asking is.1) ∙ asks in cc)
asks-case x (cases.Send c port) asks is = absurd (let h : false ≡ true = sym (ap is_asking is.1) ∙ asks in cc)
asks-case x (cases.Level c port) asks is = (c, port, refl)
asks-case x cases.Deactivate asks is = absurd (let h : false ≡ true = sym (ap is_asking is) ∙ asks in cc)
asks-case x (cases.Close c) asks is = absurd (let h : false ≡ true = sym (ap is_asking is.2) ∙ asks in cc)
asks-case x (cases.Over overs.Ended) asks is = absurd (let h : false ≡ true = sym (ap is_asking is) ∙ asks in cc)
asks-case x (cases.Over overs.Failed) asks is = absurd (let h : false ≡ true = sym (ap is_asking is.1) ∙ asks in cc)
asks-case x (cases.Over overs.Starved) asks is = absurd is

-- A number that passes both tests lies between the two.
pub within-both : (k n m : ℕ) → (nat_le k n && nat_le n m) ≡ true → (k ≤ n) × (n ≤ m)
within-both k n m both = by (nat_le k n) (nat_le n m) refl refl both
  where
    by : (s t : Bool) → nat_le k n ≡ s → nat_le n m ≡ t → (s && t) ≡ true → (k ≤ n) × (n ≤ m)
    by true true least most both = (grind (arith, nat_tests), grind (arith, nat_tests))
    by true false least most both = absurd (cc)
    by false t least most both = absurd (cc)

-- where an event happens the turn is made
pub made-only : {K : Type 0} (found : Option Event) (block : Block) (stamp : ℕ) (b b' : BodyValue K) (channel channel' : ChannelShown) (answer : Answer) → (found ≡ None → ⊥) → PairTurns found block stamp b channel answer b' channel' → answer ≡ turns.Made stamp
made-only found block stamp b b' channel channel' (turns.Made s) happens made = ap turns.Made made.0
made-only found block stamp b b' channel channel' (turns.Blocked w) happens made = absurd (happens made.1)
made-only found block stamp b b' channel channel' (turns.Over over) happens made = absurd made
