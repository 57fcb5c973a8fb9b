-- What is found in a running net is the waiting cycle of the state that it stands for.
use Rattle.std.proofs.Common.{◌≡◌, ◌⊎◌, ℕ, ◌+◌, Bool, true, false, List, [], ◌∷◌, map, not, length, Option, Some, None, IsSome, refl, sym, ap, ◌∙◌, subst, cond, ◌||◌, ◌&&◌, nat_lt, arith, inl, inr, slice_get, zero, suc, get_or}
use Rattle.std.specs.declared.result.Result.{Result}
use Rattle.std.specs.Prelude.{Ok, Err, IfOk, option_map, option_and_then, is_some, position}
use Rattle.std.specs.List.{list_all, position_or_len}
use Rattle.std.proofs.lemmas.List.{length-map}
use Rattle.std.proofs.lemmas.List.Quantifiers.{position-Some}
use Rattle.std.proofs.lemmas.Option.{slice_get-map}
use Rattle.flow_component.specs.declared.Answer.{Answer}
use Rattle.flow_component.specs.Laws.{Rules, Lawful}
use Rattle.flow_plan.specs.Network.{Network as Plan}
use Rattle.flow_plan.specs.declared.plan.Sender.{Sender}
use Rattle.flow_plan.specs.declared.plan.Connection.{Connection as PlanConnection}
use Rattle.flow_model.specs.declared.Stage.{Stage}
use Rattle.flow_model.specs.declared.Stage.TheVariants as stages
use Rattle.flow_model.specs.declared.Block.{Block}
use Rattle.flow_model.specs.declared.Block.TheVariants as blocks
use Rattle.flow_model.specs.States.{Input, From, Text, Process, Channel, State}
use Rattle.flow_model.specs.Events.{Look, looks, event_of, stage_event}
use Rattle.flow_model.specs.Verdicts.{waits_for, block_of, block, IsDeadlock}
use Rattle.flow_model.specs.Stages.{HasToClose, IsFailedStage, has_ended}
use Rattle.flow_model.specs.Valid.{IsOpenSender, AllDifferent}
use Rattle.flow_model.specs.Plans.{comes_from, sends_at, channel_at_start}
use Rattle.flow_model.specs.Stands.{BodyShown, NetShown, bodies_from, show_body, look_shown, StandsForOpen}
use Rattle.flow_model.proofs.Lists.{map-found}
use Rattle.flow_model.proofs.Stands.{looks-shown}
use Rattle.flow_model.proofs.Blocks.{block-no_turn}
use Rattle.flow_model.proofs.Leaving.{open-place, position-only, OpenSendersTell-start}
use Rattle.flow_model.proofs.Rising.{sends-now}
use Rattle.flow_machine.specs.Values.{BodyValue, NetValue, shown_body, shown_net}
use Rattle.flow_machine.specs.Nets.{looks_of}
use Rattle.flow_machine.specs.Inlets.{watched}
use Rattle.flow_cycle.specs.declared.Waits.{Waits}
use Rattle.flow_cycle.specs.Waiting.{first_open_sender, waits_for_sender, or_else, waits_to_wake, waits_by, waits_of, waits_at, lowest_blocked, walk, IsWaitingCycle}
use Rattle.flow_cycle.specs.Nets.{not_ended, first_on, wakes_in, waits_in_by, waits_of_body, waits_in, is_blocked, is_stuck, cycle_in, IsReached, IsCycleOf}
use Rattle.flow_cycle.proofs.Blocked.{one-of, is-there, there-below, BlockedSo, empty, full, dormant, blocked-so, block-waits, fit, channels}
use Rattle.flow_model.proofs.Lists.{get-there}
use Rattle.flow_cycle.proofs.Deadlocks.{ended-or, some-true, blocks-too, lowest, found, is-cycle}
use Rattle.flow_cycle.proofs.Channels.{ChannelsOf}
use Rattle.flow_cycle.proofs.Firsts.{first-among, outlet-found}

-- the processes of the bodies are the state's
processes-shown : {K : Type 0} (dropped : ℕ → List ℕ) (p : ℕ) (bodies : List (BodyValue K)) (xs : List (Process K)) → map shown_body bodies ≡ bodies_from dropped p xs → map (λ (b : BodyValue K). b.process) bodies ≡ xs
processes-shown dropped p [] [] is = refl
processes-shown dropped p [] (x ∷ xs) is = absurd (cc)
processes-shown dropped p (b ∷ bodies) [] is = absurd (cc)
processes-shown {K} dropped p (b ∷ bodies) (x ∷ xs) is =
    let head : shown_body b ≡ show_body dropped p x = cc in
    let tail : map shown_body bodies ≡ bodies_from dropped (p + 1) xs = cc in
    λ i. ap (λ (v : BodyShown K). v.process) head i ∷ processes-shown dropped (p + 1) bodies xs tail i

-- Lists that are mapped

position_or_len-map : {A B : Type 0} (f : A → B) (test : B → Bool) (xs : List A) → position_or_len test (map f xs) ≡ position_or_len (λ x. test (f x)) xs
position_or_len-map f test [] = refl
position_or_len-map f test (x ∷ xs) = ap (λ n. cond (not (test (f x))) (1 + n) 0) (position_or_len-map f test xs)

position-map : {A B : Type 0} (f : A → B) (test : B → Bool) (xs : List A) → position test (map f xs) ≡ position (λ x. test (f x)) xs
position-map f test xs = λ i. cond (nat_lt (position_or_len-map f test xs i) (length-map xs f i)) (Some (position_or_len-map f test xs i)) None

all-at : {A : Type 0} (test : A → Bool) (xs : List A) (k : ℕ) (x : A) → list_all test xs ≡ true → slice_get xs k ≡ Some x → test x ≡ true
all-at test [] k x all is = absurd (cc)
all-at {A} test (y ∷ xs) k x all is = by (test y) refl all k is (λ j rest at. all-at test xs j x rest at)
  where
    by : (b : Bool) → test y ≡ b → (b && list_all test xs) ≡ true → (k : ℕ) → slice_get (y ∷ xs) k ≡ Some x → ((j : ℕ) → list_all test xs ≡ true → slice_get xs j ≡ Some x → test x ≡ true) → test x ≡ true
    by false t all k is on = absurd (cc)
    by true t all zero is on = ap test (sym (one-of y x is)) ∙ t
    by true t all (suc k) is on = on k all is

at-all : {A : Type 0} (test : A → Bool) (xs : List A) → ((k : ℕ) (x : A) → slice_get xs k ≡ Some x → test x ≡ true) → list_all test xs ≡ true
at-all test [] each = refl
at-all test (x ∷ xs) each = ap (λ b. b && list_all test xs) (each 0 x refl) ∙ at-all test xs (λ k y is. each (suc k) y is)

-- A process that is stuck: it has ended, or something blocks it

data StuckSo {K : Type 0} (ls : List Look) (x : Process K) : Type 0 where
  ended : x.stage ≡ stages.Ended → StuckSo ls x
  blocked_by : (b : Block) → block_of ls x ≡ Some b → StuckSo ls x

ended-is : (stage : Stage) → has_ended stage ≡ true → stage ≡ stages.Ended
ended-is stages.Ended is = refl
ended-is stage is = absurd (cc)

stuck-so : {K : Type 0} (ls : List Look) (x : Process K) → (has_ended x.stage || is_some (block_of ls x)) ≡ true → StuckSo ls x
stuck-so {K} ls x is = by (has_ended x.stage) (block_of ls x) refl refl is
  where
    by : (a : Bool) (found : Option Block) → has_ended x.stage ≡ a → block_of ls x ≡ found → (a || is_some found) ≡ true → StuckSo ls x
    by true found t at is = ended (ended-is x.stage t)
    by false (Some b) t at is = blocked_by b at
    by false None t at is = absurd (cc)

or-true : (a b : Bool) → b ≡ true → (a || b) ≡ true
or-true true b is = refl
or-true false b is = is

-- what is blocked neither owes work nor has ended or failed
waits-at_stage : {K : Type 0} (ls : List Look) (x : Process K) (b : Block) (stage : Stage) → block_of ls x ≡ Some b → x.stage ≡ stage → waits_for x stage ≡ Some b
waits-at_stage ls x b stage is at = ap (waits_for x) (sym at) ∙ block-waits ls x b is

close-any : {K : Type 0} (ls : List Look) (x : Process K) → IsSome (block_of ls x) → (j : ℕ) → HasToClose x.stage j
close-any {K} ls x some j = of (block_of ls x) refl some
  where
    by : (b : Block) → BlockedSo x b → HasToClose x.stage j
    by b (empty port c at input is) = subst (λ (st : Stage). HasToClose st j) (sym at) tt
    by b (full port id c at output is) = subst (λ (st : Stage). HasToClose st j) (sym at) tt
    by b (dormant at is) = subst (λ (st : Stage). HasToClose st j) (sym at) tt

    of : (found : Option Block) → block_of ls x ≡ found → IsSome found → HasToClose x.stage j
    of (Some b) at some = by b (blocked-so x b (block-waits ls x b at))
    of None at some = absurd (cc)

left-on : (stage : Stage) (j : ℕ) → HasToClose stage j ⊎ IsFailedStage stage → not (has_ended stage) ≡ true
left-on stages.Ended j (inl has) = absurd has
left-on stages.Ended j (inr failed) = absurd failed
left-on stage j left = refl

module _ {K : Type 0} (net : NetValue K) (s : State K) (stands : StandsForOpen (shown_net net) s) where
  same-processes : map (λ (b : BodyValue K). b.process) net.bodies ≡ s.kept.processes
  same-processes = processes-shown s.past.dropped 0 net.bodies s.kept.processes (ap (λ (n : NetShown K). n.bodies) stands)

  same-looks : looks_of net.channels ≡ looks s.kept.channels
  same-looks = ap (λ (n : NetShown K). map look_shown n.channels) stands ∙ looks-shown s.past.put 0 s.kept.channels

  body-at : (q : ℕ) (y : Process K) → slice_get s.kept.processes q ≡ Some y → (b : BodyValue K) × (slice_get net.bodies q ≡ Some b) × (b.process ≡ y)
  body-at q y there = map-found (λ (b : BodyValue K). b.process) net.bodies q y (ap (λ (ps : List (Process K)). slice_get ps q) same-processes ∙ there)

  found-at : (q : ℕ) (found : Option (BodyValue K)) → slice_get net.bodies q ≡ found → slice_get s.kept.processes q ≡ option_map (λ (b : BodyValue K). b.process) found
  found-at q found there = ap (λ (ps : List (Process K)). slice_get ps q) (sym same-processes) ∙ slice_get-map (λ (b : BodyValue K). b.process) net.bodies q ∙ ap (option_map (λ (b : BodyValue K). b.process)) there

  same-lowest : lowest_blocked s.kept ≡ position (is_blocked net) net.bodies
  same-lowest =
      (λ i. position (λ (x : Process K). is_some (block_of (sym same-looks i) x)) (sym same-processes i)) ∙ position-map (λ (b : BodyValue K). b.process) (λ (x : Process K). is_some (block_of (looks_of net.channels) x)) net.bodies

  -- each process of a net that is stuck is stuck
  stuck-at : is_stuck net ≡ true → (p : ℕ) (x : Process K) → slice_get s.kept.processes p ≡ Some x → StuckSo (looks s.kept.channels) x
  stuck-at stuck p x there =
      let b = body-at p x there in
      let is = all-at (λ (v : BodyValue K). has_ended v.process.stage || is_blocked net v) net.bodies p b.0 stuck b.1 in
      stuck-so (looks s.kept.channels) x (sym (λ i. has_ended (b.2 i).stage || is_some (block_of (same-looks i) (b.2 i))) ∙ is)

  -- a stuck net with a blocked process stands for a deadlock
  stuck-deadlock : (first : ℕ) → is_stuck net ≡ true → position (is_blocked net) net.bodies ≡ Some first → IsDeadlock s
  stuck-deadlock first stuck at = (
    record {
      thought = λ p x there answer told. by-told x answer told (stuck-at stuck p x there);
      still = λ p x n there. by-still x n (stuck-at stuck p x there);
    },
    (λ failed. by-failed failed.1 failed.2 failed.4 (stuck-at stuck failed.0 failed.1 failed.3)),
    (λ all. none-ended net.bodies refl all),
  )
    where
      by-told : (x : Process K) (answer : Answer) → x.stage ≡ stages.Told answer → StuckSo (looks s.kept.channels) x → ⊥
      by-told x answer told (ended is) = (let h : stages.Ended ≡ stages.Told answer = sym is ∙ told in cc)
      by-told x answer told (blocked_by b is) = (let h : None ≡ Some b = waits-at_stage (looks s.kept.channels) x b (stages.Told answer) is told in cc)

      by-still : (x : Process K) (n : ℕ) → StuckSo (looks s.kept.channels) x → event_of s.kept.channels x n ≡ None
      by-still x n (ended is) = ap (stage_event (looks s.kept.channels) x n) is
      by-still x n (blocked_by b is) = block-no_turn (looks s.kept.channels) x b n is

      by-failed : (x : Process K) (cause : _) → x.stage ≡ stages.Failed cause → StuckSo (looks s.kept.channels) x → ⊥
      by-failed x cause failed (ended is) = (let h : stages.Ended ≡ stages.Failed cause = sym is ∙ failed in cc)
      by-failed x cause failed (blocked_by b is) = (let h : None ≡ Some b = waits-at_stage (looks s.kept.channels) x b (stages.Failed cause) is failed in cc)

      none-ended : (bodies : List (BodyValue K)) → net.bodies ≡ bodies → ((p : ℕ) (x : Process K) → slice_get s.kept.processes p ≡ Some x → x.stage ≡ stages.Ended) → ⊥
      none-ended [] are all = (let h : None ≡ Some first = sym (ap (position (is_blocked net)) are) ∙ at in cc)
      none-ended (d ∷ bodies) are all =
          let place = position-Some (is_blocked net) net.bodies first d at in
          let b = get_or net.bodies first d in
          let there = get-there net.bodies first d place.0 in
          let is_ended = all first b.process (found-at first (Some b) there) in
          of b (block_of (looks_of net.channels) b.process) refl place.1 is_ended
        where
          of : (b : BodyValue K) (found : Option Block) → block_of (looks_of net.channels) b.process ≡ found → is_some (block_of (looks_of net.channels) b.process) ≡ true → b.process.stage ≡ stages.Ended → ⊥
          of b None at is over = (let h : false ≡ true = sym (ap is_some at) ∙ is in cc)
          of b (Some block) at is over = (let h : None ≡ Some block = waits-at_stage (looks_of net.channels) b.process block stages.Ended at over in cc)

module _ {K : Type 0} (rules : Rules K) (lawful : Lawful rules)
    (plan : Plan) (net : NetValue K) (s : State K) (reached : IsReached rules plan net s) where
  module _ (deadlock : IsDeadlock s) where
    blocks-now : (p : ℕ) (x : Process K) → slice_get s.kept.processes p ≡ Some x → (x.stage ≡ stages.Ended → ⊥) → IsSome (block_of (looks s.kept.channels) x)
    blocks-now = blocks-too rules lawful plan reached.components reached.journal s reached.well reached.leads deadlock

    -- an open sender's process hasn't ended
    open-on : (c : ℕ) (channel : Channel) (sender : Sender) → slice_get s.kept.channels c ≡ Some channel → IsOpenSender sender channel.open_senders → not_ended (slice_get net.bodies sender.process) ≡ true
    open-on c channel sender there is =
        let left = (fit rules lawful plan reached.components reached.journal s reached.well reached.leads deadlock).senders.only c channel sender there is in
        let b = body-at net s reached.stands sender.process left.process left.there in
        ap not_ended b.1 ∙ ap (λ (x : Process K). not (has_ended x.stage)) b.2 ∙ left-on left.process.stage left.place left.left

    -- a sender whose process hasn't ended is open
    on-open : (c : ℕ) (connection : PlanConnection) (channel : Channel) (sender : Sender) → slice_get plan.connections c ≡ Some connection → slice_get s.kept.channels c ≡ Some channel → IsOpenSender sender connection.senders
        → not_ended (slice_get net.bodies sender.process) ≡ true → IsOpenSender sender channel.open_senders
    on-open c connection channel sender at there is on =
        let p = sender.process in
        let o = sender.output in
        let place = open-place sender connection.senders is in
        let sends : sends_at plan p o ≡ Some c = position-only (comes_from p o) plan.connections c connection at is (λ k y at' passes. (
        let other = open-place sender y.senders passes in
        (reached.well.wired.one_sender k c other.0 place.0 y connection sender at' at other.1 place.1).0
        )) in
        let now = sends-now rules plan reached.components reached.journal s reached.well reached.leads p o c sends in
        let b = body-at net s reached.stands p now.0 now.1 in
        let alive : not (has_ended now.0.stage) ≡ true = sym (ap not_ended b.1 ∙ ap (λ (x : Process K). not (has_ended x.stage)) b.2) ∙ on in
        let some = blocks-now p now.0 now.1 (λ over. (let h : false ≡ true = sym (ap (λ (st : Stage). not (has_ended st)) over) ∙ alive in cc)) in
        by now.0 now.1 (close-any (looks s.kept.channels) now.0 some) (slice_get now.0.outputs o) refl now.2
      where
        by : (x : Process K) → slice_get s.kept.processes sender.process ≡ Some x → ((j : ℕ) → HasToClose x.stage j) → (found : Option (Option ℕ)) → slice_get x.outputs sender.output ≡ found
            → option_and_then (λ (d : Option ℕ). d) found ≡ Some c → IsOpenSender sender channel.open_senders
        by x here has None out is = absurd (cc)
        by x here has (Some None) out is = absurd (cc)
        by x here has (Some (Some d)) out is =
            let same : d ≡ c = one-of d c is in
            let outlet = outlet-found 0 x.outputs sender.output c (out ∙ ap (λ k. Some (Some k)) same) in
            let open_one = (fit rules lawful plan reached.components reached.journal s reached.well reached.leads deadlock).valid.senders sender.process outlet.0 x _ here outlet.1 (has outlet.0) in
            let one : open_one.0 ≡ channel = one-of open_one.0 channel (sym open_one.1 ∙ there) in
            subst (λ (ch : Channel). IsOpenSender sender ch.open_senders) one (let n : 0 + sender.output ≡ sender.output = omega arith in subst (λ k. IsOpenSender (record { process = sender.process; output = k }) open_one.0.open_senders) n open_one.2)

    -- the first open sender is the first of the plan's whose process hasn't ended
    first-same : (c : ℕ) → first_on net.bodies (slice_get plan.connections c) ≡ first_open_sender (slice_get s.kept.channels c)
    first-same c = by (slice_get plan.connections c) refl
      where
        those : ChannelsOf plan.connections s.kept.channels
        those = channels rules lawful plan reached.components reached.journal s reached.well reached.leads deadlock

        none : (found : Option Channel) → slice_get s.kept.channels c ≡ found → slice_get plan.connections c ≡ None → None ≡ first_open_sender found
        none None there at = refl
        none (Some channel) there at =
            absurd (
            let below = there-below s.kept.channels c channel there in
            let connection = is-there plan.connections c (omega (arith, below, those.as_many)) in
            let h : Some connection.0 ≡ None = sym connection.1 ∙ at in
            cc
            )

        by : (found : Option PlanConnection) → slice_get plan.connections c ≡ found → first_on net.bodies found ≡ first_open_sender (slice_get s.kept.channels c)
        by None at = none (slice_get s.kept.channels c) refl at
        by (Some connection) at =
            let below = there-below plan.connections c connection at in
            let channel = is-there s.kept.channels c (omega (arith, below, those.as_many)) in
            let different : AllDifferent connection.senders =
            (OpenSendersTell-start rules plan reached.components reached.well).once c (channel_at_start connection) (slice_get-map channel_at_start plan.connections c ∙ ap (option_map channel_at_start) at) in
            first-among (λ (t : Sender). not_ended (slice_get net.bodies t.process)) channel.0.open_senders connection.senders (those.senders c channel.0 connection channel.1 at) different
            (λ t is. open-on c channel.0 t channel.1 is) (λ t is on. on-open c connection channel.0 t at channel.1 is on)
            ∙ sym (ap first_open_sender channel.1)

    wakes-same : (p : ℕ) (inputs : List Input) → wakes_in plan net.bodies p inputs ≡ waits_to_wake s.kept.channels p inputs
    wakes-same p [] = refl
    wakes-same p (From c ∷ inputs) = λ i. or_else (option_map (waits_for_sender p c) (first-same c i)) (wakes-same p inputs i)
    wakes-same p (Text text ∷ inputs) = wakes-same p inputs

    by-same : (p : ℕ) (x : Process K) (b : Block) → waits_in_by plan net p x b ≡ waits_by plan s.kept.channels p x b
    by-same p x (blocks.Full c port) = refl
    by-same p x (blocks.Empty c port) = ap (option_map (waits_for_sender p c)) (first-same c)
    by-same p x blocks.Dormant = ap (λ (ls : List Look). wakes_in plan net.bodies p (watched ls x)) (same-looks net s reached.stands) ∙ wakes-same p (watched (looks s.kept.channels) x)

    waits-same : (p : ℕ) → waits_in plan net p ≡ waits_at plan s.kept p
    waits-same p = by (slice_get net.bodies p) refl
      where
        of : (x : Process K) (found : Option Block) → option_and_then (waits_in_by plan net p x) found ≡ option_and_then (waits_by plan s.kept.channels p x) found
        of x None = refl
        of x (Some b) = by-same p x b

        by : (found : Option (BodyValue K)) → slice_get net.bodies p ≡ found → option_and_then (waits_of_body plan net p) found ≡ waits_at plan s.kept p
        by None there = sym (ap (option_and_then (waits_of plan s.kept.channels p)) (found-at net s reached.stands p None there))
        by (Some b) there =
            ap (λ (ls : List Look). option_and_then (waits_in_by plan net p b.process) (block_of ls b.process)) (same-looks net s reached.stands) ∙ of b.process (block_of (looks s.kept.channels) b.process)
            ∙ sym (ap (option_and_then (waits_of plan s.kept.channels p)) (found-at net s reached.stands p (Some b) there))

    -- the net is stuck
    is-stuck : is_stuck net ≡ true
    is-stuck = at-all (λ (b : BodyValue K). has_ended b.process.stage || is_blocked net b) net.bodies (λ p b there. elim (ended-or b.process.stage) [
      | inl over ↦ ap (λ (st : Stage). has_ended st || is_blocked net b) over
      | inr on ↦ or-true (has_ended b.process.stage) (is_blocked net b) (
          ap (λ (ls : List Look). is_some (block_of ls b.process)) (same-looks net s reached.stands)
          ∙ some-true (block_of (looks s.kept.channels) b.process) (blocks-now p b.process (found-at net s reached.stands p (Some b) there) on)
          )
    ])

    -- and the cycle is found in it
    finds : (cycle : List Waits) × (cycle_in plan net ≡ Some cycle) × IsWaitingCycle plan s.kept cycle
    finds =
        let low = lowest rules lawful plan reached.components reached.journal s reached.well reached.leads deadlock in
        let walked = found rules lawful plan reached.components reached.journal s reached.well reached.leads deadlock in
        let many : length net.bodies ≡ length s.kept.processes = sym (length-map net.bodies (λ (b : BodyValue K). b.process)) ∙ ap length (same-processes net s reached.stands) in (
          walked.cycle,
          ap (λ b. cond b (option_and_then (walk (waits_in plan net) (length net.bodies + 1) []) (position (is_blocked net) net.bodies)) None) is-stuck
              ∙ ap (option_and_then (walk (waits_in plan net) (length net.bodies + 1) [])) (sym (same-lowest net s reached.stands) ∙ low.1)
              ∙ (λ i. walk (λ p. waits-same p i) (many i + 1) [] low.0) ∙ walked.found,
          is-cycle rules lawful plan reached.components reached.journal s reached.well reached.leads deadlock,
        )

  -- what is found is the waiting cycle, and nothing is found where there is no deadlock
  pub finds-cycle : IsCycleOf plan s (cycle_in plan net)
  finds-cycle = by (is_stuck net) (position (is_blocked net) net.bodies) refl refl
    where
      nothing : cycle_in plan net ≡ None → IsCycleOf plan s (cycle_in plan net)
      nothing none = subst (IsCycleOf plan s) (sym none) (λ deadlock. (let it = finds deadlock in let h : Some it.0 ≡ None = sym it.1 ∙ none in cc))

      some : IsDeadlock s → IsCycleOf plan s (cycle_in plan net)
      some deadlock = let it = finds deadlock in subst (IsCycleOf plan s) (sym it.1) (deadlock, it.2)

      by : (b : Bool) (found : Option ℕ) → is_stuck net ≡ b → position (is_blocked net) net.bodies ≡ found → IsCycleOf plan s (cycle_in plan net)
      by false found t at = nothing (ap (λ b. cond b (option_and_then (walk (waits_in plan net) (length net.bodies + 1) []) (position (is_blocked net) net.bodies)) None) t)
      by true None t at =
          nothing (
          ap (λ b. cond b (option_and_then (walk (waits_in plan net) (length net.bodies + 1) []) (position (is_blocked net) net.bodies)) None) t ∙ ap (option_and_then (walk (waits_in plan net) (length net.bodies + 1) [])) at
          )
      by true (Some first) t at = some (stuck-deadlock net s reached.stands first t at)

-- What is found by the tests of a net
module _ {K : Type 0} (plan : Plan) (net : NetValue K) where
  pub unstuck-none : is_stuck net ≡ false → cycle_in plan net ≡ None
  unstuck-none is = ap (λ b. cond b (option_and_then (walk (waits_in plan net) (length net.bodies + 1) []) (position (is_blocked net) net.bodies)) None) is

  pub unblocked-none : is_stuck net ≡ true → position (is_blocked net) net.bodies ≡ None → cycle_in plan net ≡ None
  unblocked-none is at =
      ap (λ b. cond b (option_and_then (walk (waits_in plan net) (length net.bodies + 1) []) (position (is_blocked net) net.bodies)) None) is ∙ ap (option_and_then (walk (waits_in plan net) (length net.bodies + 1) [])) at

  pub stuck-walk : (first : ℕ) → is_stuck net ≡ true → position (is_blocked net) net.bodies ≡ Some first → cycle_in plan net ≡ walk (waits_in plan net) (length net.bodies + 1) [] first
  stuck-walk first is at =
      ap (λ b. cond b (option_and_then (walk (waits_in plan net) (length net.bodies + 1) []) (position (is_blocked net) net.bodies)) None) is ∙ ap (option_and_then (walk (waits_in plan net) (length net.bodies + 1) [])) at

-- What holds of an answer holds of what follows from it.
pub if-ok : {T E : Type 0} (r : Result T E) (P Q : T → Type 0) → ((x : T) → P x → Q x) → IfOk r P → IfOk r Q
if-ok (Ok x) P Q on is = on x is
if-ok (Err e) P Q on is = is
