-- The marks of the processes on a way.
use Rattle.std.proofs.Common.{◌≡◌, ℕ, Bool, true, false, zero, suc, List, [], ◌∷◌, ◌++◌, Option, Some, None, refl, sym, ap, ◌∙◌, cond, nat_eq, arith, slice_get, subst}
use Rattle.std.specs.Prelude.{slice_set, option_map, option_and_then}
use Rattle.std.proofs.lemmas.Bool.Decides.{nat_tests}
use Rattle.flow_plan.specs.Network.{Network as Plan}
use Rattle.flow_model.specs.declared.Block.{Block}
use Rattle.flow_model.specs.declared.Block.TheVariants as blocks
use Rattle.flow_model.specs.States.{Input, From, Text, Process}
use Rattle.flow_model.specs.Verdicts.{block_of}
use Rattle.flow_machine.specs.Values.{BodyValue, NetValue}
use Rattle.flow_machine.specs.Nets.{looks_of}
use Rattle.flow_machine.specs.Inlets.{watched}
use Rattle.flow_cycle.specs.declared.Waits.{Waits}
use Rattle.flow_cycle.specs.Waiting.{waits_for_sender, or_else, rest_from}
use Rattle.flow_cycle.specs.Nets.{first_on, wakes_in, waits_in_by, waits_of_body, waits_in, AllMarked}
use Rattle.flow_cycle.proofs.Deadlocks.{sender-named, receiver-named}

-- Whoever waits in a net is the process that it is said of

wakes-named : {K : Type 0} (plan : Plan) (bodies : List (BodyValue K)) (p : ℕ) (inputs : List Input) (w : Waits) → wakes_in plan bodies p inputs ≡ Some w → w.process ≡ p
wakes-named plan bodies p [] w is = absurd (cc)
wakes-named plan bodies p (Text text ∷ inputs) w is = wakes-named plan bodies p inputs w is
wakes-named plan bodies p (From c ∷ inputs) w is = by (option_map (waits_for_sender p c) (first_on bodies (slice_get plan.connections c))) refl is (wakes-named plan bodies p inputs w)
  where
    by : (found : Option Waits) → option_map (waits_for_sender p c) (first_on bodies (slice_get plan.connections c)) ≡ found → or_else found (wakes_in plan bodies p inputs) ≡ Some w → (wakes_in plan bodies p inputs ≡ Some w → w.process ≡ p) → w.process ≡ p
    by (Some v) at is rest = sender-named p c (first_on bodies (slice_get plan.connections c)) w (at ∙ is)
    by None at is rest = rest is

named-by : {K : Type 0} (plan : Plan) (net : NetValue K) (p : ℕ) (x : Process K) (b : Block) (w : Waits) → waits_in_by plan net p x b ≡ Some w → w.process ≡ p
named-by plan net p x (blocks.Full c port) w is = receiver-named p c (slice_get plan.connections c) w is
named-by plan net p x (blocks.Empty c port) w is = sender-named p c (first_on net.bodies (slice_get plan.connections c)) w is
named-by plan net p x blocks.Dormant w is = wakes-named plan net.bodies p (watched (looks_of net.channels) x) w is

-- Who waits in a net is the process of which it was asked.
pub named-in : {K : Type 0} (plan : Plan) (net : NetValue K) (p : ℕ) (w : Waits) → waits_in plan net p ≡ Some w → w.process ≡ p
named-in {K} plan net p w is = by (slice_get net.bodies p) is
  where
    of : (b : BodyValue K) (found : Option Block) → option_and_then (waits_in_by plan net p b.process) found ≡ Some w → w.process ≡ p
    of b (Some block) is = named-by plan net p b.process block w is
    of b None is = absurd (cc)

    by : (found : Option (BodyValue K)) → option_and_then (waits_of_body plan net p) found ≡ Some w → w.process ≡ p
    by (Some b) is = of b (block_of (looks_of net.channels) b.process) is
    by None is = absurd (cc)

-- A mark that is set

set-not : (marks : List Bool) (p : ℕ) → slice_get (slice_set marks p true) p ≡ Some false → ⊥
set-not [] p is = cc
set-not (m ∷ marks) zero is = cc
set-not (m ∷ marks) (suc p) is = set-not marks p is

set-apart : (marks : List Bool) (p q : ℕ) → nat_eq q p ≡ false → slice_get (slice_set marks p true) q ≡ slice_get marks q
set-apart [] p q apart = refl
set-apart (m ∷ marks) zero zero apart = absurd (cc)
set-apart (m ∷ marks) zero (suc q) apart = refl
set-apart (m ∷ marks) (suc p) zero apart = refl
set-apart (m ∷ marks) (suc p) (suc q) apart = set-apart marks p q (grind (arith, nat_tests))

-- nobody stands on a longer way who stands neither on the way nor at its new end
rest-more : (q : ℕ) (way : List Waits) (w : Waits) → rest_from q way ≡ None → nat_eq q w.process ≡ false → rest_from q (way ++ w ∷ []) ≡ None
rest-more q [] w none apart = ap (λ b. cond b (Some (w ∷ [])) None) apart
rest-more q (v ∷ way) w none apart = by (nat_eq q v.process) none (λ later. rest-more q way w later apart)
  where
    by : (b : Bool) → cond b (Some (v ∷ way)) (rest_from q way) ≡ None → (rest_from q way ≡ None → rest_from q (way ++ w ∷ []) ≡ None) → cond b (Some (v ∷ way ++ w ∷ [])) (rest_from q (way ++ w ∷ [])) ≡ None
    by true none on = absurd (cc)
    by false none on = on none

marked-more : (marks : List Bool) (way : List Waits) (p : ℕ) (w : Waits) → w.process ≡ p → AllMarked marks way → AllMarked (slice_set marks p true) (way ++ w ∷ [])
marked-more marks way p w named all q unmarked = by (nat_eq q p) refl
  where
    by : (b : Bool) → nat_eq q p ≡ b → rest_from q (way ++ w ∷ []) ≡ None
    by true is = absurd (let same : q ≡ p = grind (arith, nat_tests) in set-not marks p (subst (λ (k : ℕ). slice_get (slice_set marks p true) k ≡ Some false) same unmarked))
    by false is = rest-more q way w (all q (sym (set-apart marks p q is) ∙ unmarked)) (ap (nat_eq q) named ∙ is)

-- All marks are set on the way that goes on from a process whose mark was set.
pub marked-next : (marks now : List Bool) (way longer : List Waits) (p : ℕ) (w : Waits) → now ≡ slice_set marks p true → longer ≡ way ++ w ∷ [] → w.process ≡ p → AllMarked marks way → AllMarked now longer
marked-next marks now way longer p w set grown named all =
    subst (λ (ms : List Bool). AllMarked ms longer) (sym set) (subst (λ (ws : List Waits). AllMarked (slice_set marks p true) ws) (sym grown) (marked-more marks way p w named all))
