-- A process of a kind of the caller's own reads no file and writes none, whatever its options are: only kinds of the table do, and it has none of their names.
use Rattle.std.proofs.Common.{◌≡◌, ℕ, Bool, true, List, [], cond, map, Option, Some, None, Ok, refl, sym, ap, subst}
use Rattle.std.specs.Prelude.{IfSome, Vec, is_some, slice_get}
use Rattle.std.specs.declared.alloc.Global.{Global}
use Rattle.flow_text.specs.Edge.{Name, Outside}
use Rattle.flow_plan.specs.declared.kind.KindSpec.{KindSpec}
use Rattle.flow_plan.specs.declared.plan.Process.{Process}
use Rattle.flow_plan.specs.Network.{Network}
use Rattle.flow_catalogue.specs.declared.table.StdKind.TheVariants.{ReadLines, WriteLines}
use Rattle.flow_offer.specs.Kinds.{AreOwnKinds}
use Rattle.flow_offer.specs.Processes.{IsOwnAt, IsStandardOrOwn}
use Rattle.flow_offer.proofs.Owns.{other-name}
use Rattle.flow_load.specs.Components.{AreRead, ReadsInput, first_option, read_by, written_by}
use Rattle.flow_load.specs.Step.{OnlyReads, whole}
use Rattle.flow_load.proofs.Steps.{no-reads}

reads-none : (own : List KindSpec) (plan : Network) (p : ℕ) → AreOwnKinds own → (mine : IsOwnAt own plan p) → read_by mine.process ≡ []
reads-none own plan p are mine = ap (λ (b : Bool). cond b (first_option mine.process.options) []) (other-name own plan p are mine ReadLines)

writes-none : (own : List KindSpec) (plan : Network) (p : ℕ) → AreOwnKinds own → (mine : IsOwnAt own plan p) → written_by mine.process ≡ []
writes-none own plan p are mine = ap (λ (b : Bool). cond b (first_option mine.process.options) []) (other-name own plan p are mine WriteLines)

-- a process that has a place among the caller's own kinds is of one of them
mine-at : (own : List KindSpec) (plan : Network) (p : ℕ) (place : Option ℕ) → IsStandardOrOwn own plan p place → is_some place ≡ true → IsOwnAt own plan p
mine-at own plan p (Some place) tells some = tells.0.is_own
mine-at own plan p None tells some = absurd cc

-- It is given nothing, and nothing is read for it.
pub own-reads-nothing : (own : List KindSpec) (plan : Network) (p : ℕ) (place : Option ℕ) (o : Outside) (v : Vec ℕ Global) → AreOwnKinds own → IsStandardOrOwn own plan p place → is_some place ≡ true → ReadsInput o o plan p (Ok v)
own-reads-nothing own plan p place o v are tells some =
    let mine = mine-at own plan p place tells some in
    let none = reads-none own plan p are mine in (
      mine.process,
      mine.there,
      subst (λ (names : List Name). OnlyReads o o (map whole (map (λ (name : Name). (name, v.items)) names))) (sym none) (no-reads o o refl),
      subst (λ (names : List Name). AreRead o.files (map (λ (name : Name). (name, v.items)) names)) (sym none) (λ at file there. absurd cc),
    )

-- It writes no file.
pub own-writes-nothing : (own : List KindSpec) (plan : Network) (p : ℕ) (place : Option ℕ) → AreOwnKinds own → IsStandardOrOwn own plan p place → is_some place ≡ true → IfSome (slice_get plan.processes p) (λ (x : Process). written_by x ≡ [])
own-writes-nothing own plan p place are tells some =
    let mine = mine-at own plan p place tells some in
    subst (λ (found : Option Process). IfSome found (λ (x : Process). written_by x ≡ [])) (sym mine.there) (writes-none own plan p are mine)
