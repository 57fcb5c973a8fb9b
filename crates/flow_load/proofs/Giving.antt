-- What the processes of a plan are given, of which each reader is given the same bytes, one after another.
use Rattle.std.proofs.Common.{◌≡◌, ℕ, zero, suc, ◌+◌, ◌<◌, None, List, [], ◌∷◌, ◌++◌, length, Some, refl, sym, ◌∙◌, ap, subst, arith, length-append}
use Rattle.std.specs.Prelude.{slice_get}
use Rattle.flow_plan.specs.Network.{Network}
use Rattle.flow_catalogue.specs.Processes.{IsStandard}
use Rattle.flow_offer.specs.Laws.{EachIsStandardOrOwn}
use Rattle.flow_offer.specs.Processes.{place_of, IsOfferedPlan, IsStandardOrOwn}
use Rattle.flow_plan.specs.declared.plan.Process.{Process}
use Rattle.std.specs.Option.{option_and_then}
use Rattle.std.specs.declared.option.Option.{Option}
use Rattle.flow_load.specs.Step.{Filled}
use Rattle.flow_load.specs.Components.{input_of, inputs_of, AllHold, GivesOne}
use Rattle.flow_load.proofs.Readings.{inputs-none, inputs-more}

-- What the first processes are given, each reader among them these bytes.
pub record GivenSoFar (plan : Network) (bytes : List ℕ) (k : ℕ) (given : List (List ℕ)) : Type 0 where
  pub each_given : length given ≡ k
  pub hold : AllHold bytes (inputs_of plan.processes given)

all-hold-append : (bytes : List ℕ) (xs ys : List Filled) → AllHold bytes xs → AllHold bytes ys → AllHold bytes (xs ++ ys)
all-hold-append bytes [] ys p q at file there = q at file there
all-hold-append bytes (x ∷ xs) ys p q zero file there = p zero file there
all-hold-append bytes (x ∷ xs) ys p q (suc at) file there = all-hold-append bytes xs ys (λ k. p (suc k)) q at file there

none-hold : (bytes : List ℕ) → AllHold bytes []
none-hold bytes at file there = absurd cc

-- Before the first process nothing is given.
pub none-given : (plan : Network) (bytes : List ℕ) → GivenSoFar plan bytes 0 []
none-given plan bytes = record { each_given = refl; hold = subst (λ (l : List Filled). AllHold bytes l) (sym (inputs-none plan.processes)) (none-hold bytes) }

-- One process more is given its bytes.
pub more-given : (plan : Network) (bytes : List ℕ) (k : ℕ) (given : List (List ℕ)) (has : List ℕ) → GivenSoFar plan bytes k given → GivesOne plan k bytes has → GivenSoFar plan bytes (k + 1) (given ++ has ∷ [])
more-given plan bytes k given has s r =
    let at : slice_get plan.processes (length given) ≡ Some r.0 = ap (λ n. slice_get plan.processes n) s.each_given ∙ r.1 in
    let inputs : inputs_of plan.processes (given ++ has ∷ []) ≡ inputs_of plan.processes given ++ input_of r.0 has = inputs-more plan.processes given r.0 has at in
    record {
      each_given = omega (arith, length-append given (has ∷ []), s.each_given);
      hold = subst (λ (l : List Filled). AllHold bytes l) (sym inputs) (all-hold-append bytes (inputs_of plan.processes given) (input_of r.0 has) s.hold r.2);
    }

none-own : (process : Option Process) → option_and_then (λ (process : Process). place_of [] process.kind) process ≡ None
none-own None = refl
none-own (Some process) = refl

-- Where there are no kinds of the caller's own each process is of a standard kind.
pub all-standard : (plan : Network) (p : ℕ) → EachIsStandardOrOwn → IsOfferedPlan [] plan → p < length plan.processes → IsStandard plan p
all-standard plan p each offered within = (subst (IsStandardOrOwn [] plan p) (none-own (slice_get plan.processes p)) (each [] plan offered p within)).0
