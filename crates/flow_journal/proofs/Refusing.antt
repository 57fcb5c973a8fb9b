-- What a net refuses, the states that it stands for refuse.
use Rattle.std.proofs.Common.{◌≡◌, ◌⊎◌, inl, inr, ℕ, ◌+◌, ◌<◌, Bool, true, false, List, [], ◌∷◌, length, map, Option, Some, None, suc, zero, refl, sym, ap, ◌∙◌, arith, slice_get}
use Rattle.std.specs.Prelude.{option_and_then, nat_le, ◌&&◌, IfSome}
use Rattle.std.proofs.lemmas.List.{length-map}
use Rattle.std.proofs.lemmas.Bool.Decides.{nat_tests}
use Rattle.flow_model.specs.declared.Stage.{Stage}
use Rattle.flow_model.specs.declared.Stage.TheVariants as stages
use Rattle.flow_model.specs.declared.Block.{Block}
use Rattle.flow_model.specs.States.{Process, State}
use Rattle.flow_model.specs.Events.{Look, looks}
use Rattle.flow_model.specs.Verdicts.{block, block_of}
use Rattle.flow_model.specs.Stands.{ChannelShown, NetShown, bodies_from, look_shown, StandsForOpen}
use Rattle.flow_model.proofs.Stands.{looks-shown}
use Rattle.flow_machine.specs.Values.{BodyValue, NetValue, shown_body, shown_net}
use Rattle.flow_machine.specs.Nets.{looks_of, IsAt, TurnsNet, HasFailed, is_asking, asks_level}
use Rattle.flow_machine.specs.declared.answers.Turn.TheVariants as turns
use Rattle.flow_machine.specs.declared.answers.Over.{Over as Ending}
use Rattle.flow_machine.specs.declared.answers.Over.TheVariants as overs
use Rattle.flow_machine.proofs.NetTurns.{if_some}
use Rattle.flow_machine.proofs.Standings.{process-in, channel-in}
use Rattle.flow_journal.specs.declared.refusal.Refusal.{Refusal}
use Rattle.flow_journal.specs.declared.refusal.Refusal.TheVariants.{NoProcess, Over, Blocked, Seen}
use Rattle.flow_journal.specs.Replays.{IsOver, CannotSee, Refuses}
use Rattle.flow_journal.specs.Replaying.{RefusesNumber, RefusesTurn}
use Rattle.flow_journal.proofs.Turning.{asking-port}

length-shown : {K : Type 0} (dropped : ℕ → List ℕ) (p : ℕ) (xs : List (Process K)) → length (bodies_from dropped p xs) ≡ length xs
length-shown dropped p [] = refl
length-shown dropped p (x ∷ xs) = omega (arith, length-shown dropped (p + 1) xs)

-- a net has as many bodies as the state that it stands for has processes
pub as-many : {K : Type 0} (net : NetValue K) (s : State K) → StandsForOpen (shown_net net) s → length net.bodies ≡ length s.kept.processes
as-many {K} net s stands =
    sym (length-map net.bodies shown_body) ∙ ap (λ (shows : NetShown K). length shows.bodies) stands ∙ length-shown s.past.dropped 0 s.kept.processes

-- There is a member at each place within a list.
pub there-is : {A : Type 0} (xs : List A) (i : ℕ) → i < length xs → (x : A) × (slice_get xs i ≡ Some x)
there-is [] i below = absurd (omega (arith, below))
there-is (x ∷ xs) zero below = (x, refl)
there-is (x ∷ xs) (suc i) below = there-is xs i (omega (arith, below))

body-at : {K : Type 0} (net : NetValue K) (p : ℕ) (P : Stage → Type 0) → p < length net.bodies → IsAt net p P → (b : BodyValue K) × (slice_get net.bodies p ≡ Some b) × P b.process.stage
body-at {K} net p P within at =
    let b = there-is net.bodies p within in
    (b.0, b.1, if_some (slice_get net.bodies p) (λ (x : BodyValue K). P x.process.stage) b.0 b.1 at)

outside-of : (a n c : ℕ) → (nat_le a n && nat_le n c) ≡ false → (n < a) ⊎ (c < n)
outside-of a n c test = by (nat_le a n) (nat_le n c) refl refl test
  where
    by : (p q : Bool) → nat_le a n ≡ p → nat_le n c ≡ q → (p && q) ≡ false → (n < a) ⊎ (c < n)
    by true true least most t = absurd (cc)
    by true false least most t = inr (grind (arith, nat_tests))
    by false q least most t = inl (grind (arith, nat_tests))

cannot-see : {K : Type 0} (net : NetValue K) (s : State K) (p : ℕ) (seen : List ℕ) → StandsForOpen (shown_net net) s → p < length net.bodies → RefusesNumber net p seen → CannotSee s.kept p seen
cannot-see net s p [] stands within asks =
    let b = body-at net p asks_level within asks in
    let port = asking-port b.0.process.stage b.2 in
    record { process = b.0.process; port = port.0; there = process-in net s p b.0 stands b.1; asks = port.1 }
cannot-see net s p (n ∷ seen) stands within refused =
    let channel = channel-in net s refused.connection refused.channel stands refused.at in
    let test : (nat_le (length channel.0.packets) n && nat_le n channel.0.capacity) ≡ false = ap (λ (c : ChannelShown). nat_le (length c.packets) n && nat_le n c.capacity) (sym channel.2) ∙ refused.outside in
    record {
      asks = record { process = refused.body.process; port = refused.port; there = process-in net s p refused.body stands refused.there; asks = refused.asks };
      connection = refused.connection;
      channel = channel.0;
      output = refused.output;
      at = channel.1;
      outside = outside-of (length channel.0.packets) n channel.0.capacity test;
    }

waits : {K : Type 0} (net : NetValue K) (s : State K) (p : ℕ) (why : Block) → StandsForOpen (shown_net net) s → (found : Option (BodyValue K)) → slice_get net.bodies p ≡ found → option_and_then (λ (b : BodyValue K). block_of (looks_of net.channels) b.process) found ≡ Some why → block s.kept p ≡ Some why
waits {K} net s p why stands (Some b) there is =
    let same : looks_of net.channels ≡ looks s.kept.channels = ap (λ (n : NetShown K). map look_shown n.channels) stands ∙ looks-shown s.past.put 0 s.kept.channels in
    ap (λ (o : Option (Process K)). option_and_then (block_of (looks s.kept.channels)) o) (process-in net s p b stands there) ∙ ap (λ (ls : List Look). block_of ls b.process) (sym same) ∙ is
waits net s p why stands None there is = absurd (cc)

-- what a net refuses, each state that it stands for refuses
pub refuses : {K : Type 0} (net : NetValue K) (s : State K) (p : ℕ) (seen : List ℕ) (refusal : Refusal) → StandsForOpen (shown_net net) s → RefusesTurn net p seen refusal → Refuses s.kept p seen refusal
refuses net s p seen NoProcess stands refused = omega (arith, refused, as-many net s stands)
refuses net s p seen Over stands refused =
    let b = body-at net p IsOver refused.0 refused.1 in
    record { process = b.0.process; there = process-in net s p b.0 stands b.1; over = b.2 }
refuses net s p seen (Blocked why) stands refused = waits net s p why stands (slice_get net.bodies p) refl refused
refuses net s p seen Seen stands refused = cannot-see net s p seen stands refused.0 refused.1

at-map : {A : Type 0} (o : Option A) (P Q : A → Type 0) → ((x : A) → P x → Q x) → IfSome o P → IfSome o Q
at-map (Some x) P Q to is = to x is
at-map None P Q to is = tt

-- a process that was found to ask for a level, or not to
pub at-asks : {K : Type 0} (net : NetValue K) (p : ℕ) (asks : Bool) → IsAt net p (λ stage. asks ≡ is_asking stage) → asks ≡ true → IsAt net p asks_level
at-asks {K} net p asks at is = at-map (slice_get net.bodies p) (λ (b : BodyValue K). asks ≡ is_asking b.process.stage) (λ (b : BodyValue K). asks_level b.process.stage) (λ b told. sym told ∙ is) at

-- A process that was found not to ask for a level asks for none.
pub at-quiet : {K : Type 0} (net : NetValue K) (p : ℕ) (asks : Bool) → IsAt net p (λ stage. asks ≡ is_asking stage) → asks ≡ false → IsAt net p (λ stage. is_asking stage ≡ false)
at-quiet {K} net p asks at is = at-map (slice_get net.bodies p) (λ (b : BodyValue K). asks ≡ is_asking b.process.stage) (λ (b : BodyValue K). is_asking b.process.stage ≡ false) (λ b told. sym told ∙ is) at

-- a process that is over is refused as such
pub over-refused : {K : Type 0} (old : NetValue K) (p n stamp : ℕ) (over : Ending) (new : NetValue K) (seen : List ℕ) → p < length old.bodies → TurnsNet old p n stamp (turns.Over over) new → RefusesTurn old p seen Over
over-refused {K} old p n stamp overs.Ended new seen within turn = (within, at-map (slice_get old.bodies p) (λ (b : BodyValue K). b.process.stage ≡ stages.Ended) (λ (b : BodyValue K). IsOver b.process.stage) (λ b ended. inl ended) turn.0)
over-refused {K} old p n stamp overs.Failed new seen within turn = (within, at-map (slice_get old.bodies p) (λ (b : BodyValue K). HasFailed b.process.stage) (λ (b : BodyValue K). IsOver b.process.stage) (λ b failed. inr failed) turn.0)
over-refused old p n stamp overs.Starved new seen within never = absurd never
