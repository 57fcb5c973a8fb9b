-- The parts that a maker makes for the processes of a plan.
use Rattle.std.specs.Prelude.{◌≡◌, ℕ, List, Some, length, map, slice_get}
use Rattle.flow_plan.specs.declared.kind.KindSpec.{KindSpec}
use Rattle.flow_plan.specs.Network.{Network}
use Rattle.flow_offer.specs.Processes.{IsOwnAt}
use Rattle.flow_offer.specs.Shares.{earlier}
use Rattle.flow_load.specs.Components.{part_for}
use Rattle.flow_supply.specs.Options.{Wanted}

-- What a maker is said to make: the maker, the process for which a part is wanted, and the part.
abbrev pub Makes : Type 0 → Type 0 → Type 1
Makes Maker Part = Maker → Wanted → Part → Type 0

-- What is wanted for a process of a kind of the caller's own: its kind, and its options.
abbrev pub wanted_for : {own : List KindSpec} {plan : Network} {p : ℕ} → IsOwnAt own plan p → Wanted
wanted_for is = record { kind = is.kind; options = is.process.options }

-- The maker makes this part for process p.
abbrev pub IsMadeFor : {M P : Type 0} → Makes M P → M → List KindSpec → Network → ℕ → P → Type 0
IsMadeFor makes maker own plan p part = (is : IsOwnAt own plan p) → makes maker (wanted_for is) part

-- Where these are the parts of each kind, each process of a kind of the caller's own finds one, and the maker makes that one for it.
abbrev pub AreMade : {M P : Type 0} → Makes M P → M → List KindSpec → Network → List (List P) → Type 0
AreMade {P = P} makes maker own plan parts = (p : ℕ) (is : IsOwnAt own plan p) → (part : P) × (part_for own parts plan p ≡ Some part) × makes maker (wanted_for is) part

-- These are the parts of the kind at this place: each process of the kind finds one among them, behind those of the processes of the kind before it, and the maker makes
-- that one for it.
abbrev pub AreMadeOf : {M P : Type 0} → Makes M P → M → List KindSpec → Network → ℕ → List P → Type 0
AreMadeOf {P = P} makes maker own plan place parts =
    (p : ℕ) (is : IsOwnAt own plan p) → is.place ≡ place → (part : P) × (slice_get parts (earlier plan is.process.kind p) ≡ Some part) × makes maker (wanted_for is) part

-- How many processes of the plan are of each of these kinds.
abbrev pub counts_wanted : List KindSpec → Network → List ℕ
counts_wanted own plan = map (λ (kind : KindSpec). earlier plan kind.name (length plan.processes)) own
