-- Which part each process finds: those of one kind take the kind's parts one after another.
use Rattle.std.specs.Prelude.{◌≡◌, ℕ, ◌<◌, ◌≤◌, List, take, Some, slice_get, slice_index}
use Rattle.std.specs.List.{count_by}
use Rattle.std.specs.Str.{bytes_eq}
use Rattle.flow_plan.specs.declared.kind.KindSpec.{KindSpec}
use Rattle.flow_plan.specs.declared.plan.Process.{Process}
use Rattle.flow_plan.specs.Network.{Network}
use Rattle.flow_offer.specs.Processes.{place_of}

-- How many processes before process p have a kind of this name.
abbrev pub earlier : Network → List ℕ → ℕ → ℕ
earlier plan name p = count_by (λ (process : Process). bytes_eq process.kind name) (take p plan.processes)

-- Process p finds a part: where it is of a kind of the caller's own, fewer processes before it are of its kind than the kind has parts.
abbrev pub FindsPart : List KindSpec → List ℕ → Network → ℕ → Type 0
FindsPart own counts plan p =
    (process : Process) (place : ℕ) → slice_get plan.processes p ≡ Some process → place_of own process.kind ≡ Some place → earlier plan process.kind p < slice_index counts place

-- Process p is of a kind of the caller's own and finds no part: as many processes before it are of its kind as the kind has parts, or more.
pub record FindsNoPart (own : List KindSpec) (counts : List ℕ) (plan : Network) (p : ℕ) : Type 0 where
  pub process : Process
  pub place : ℕ
  pub there : slice_get plan.processes p ≡ Some process
  pub placed : place_of own process.kind ≡ Some place
  pub few : slice_index counts place ≤ earlier plan process.kind p

-- Process p is the first that finds no part.
pub record IsFirstWithout (own : List KindSpec) (counts : List ℕ) (plan : Network) (p : ℕ) : Type 0 where
  pub none : FindsNoPart own counts plan p
  pub before : (q : ℕ) → q < p → FindsPart own counts plan q
