use Rattle.std.proofs.Common.{◌≡◌, ℕ, zero, suc, true, [], ◌∷◌, List, Option, Some, sym, ◌∙◌, ap, subst, slice_get, slice_index_or}
use Rattle.std.specs.Prelude.{codes, IfSome}
use Rattle.std.proofs.lemmas.Option.{get_or_from_slice_get}
use Rattle.flow_plan.specs.declared.kind.PortSpec.{PortSpec}
use Rattle.flow_plan.specs.declared.plan.Process.{Process}
use Rattle.flow_plan.specs.Network.{Network, is_stream}
use Rattle.flow_catalogue.specs.declared.table.StdKind.{StdKind}
use Rattle.flow_catalogue.specs.declared.table.StdKind.TheVariants as kinds
use Rattle.flow_catalogue.specs.Processes.{IsStandard, IsOfKind}
use Rattle.flow_catalogue.specs.Rows.{stream_port}
use Rattle.flow_catalogue.proofs.OptionTexts.{file-option}
use Rattle.flow_catalogue.proofs.process.file_of.Goals as goal

-- the process at a place is of the kind that was found for it
of-found : (plan : Network) (number : ℕ) (kind : StdKind) (processes : List Process) (process : Process) → processes ≡ plan.processes → process ≡ slice_index_or processes number process
    → (standard : IsStandard plan number) → IfSome (slice_get plan.processes number) (λ p. IsOfKind plan number p kind) → IsOfKind plan number process kind
of-found plan number kind processes process same is standard found =
    let there = standard.there in
    let here : process ≡ standard.process = is ∙ ap (λ (l : List Process). slice_index_or l number process) same ∙ get_or_from_slice_get plan.processes number standard.process process there in
    subst (λ (p : Process). IsOfKind plan number p kind) (sym here) (subst (λ (o : Option Process). IfSome o (λ p. IsOfKind plan number p kind)) there found)

-- the port behind the file of a WriteLines takes packets
takes-packets : (place : ℕ) (spec : PortSpec) → slice_get (stream_port (codes "IN") ∷ []) place ≡ Some spec → is_stream spec.class ≡ true
takes-packets zero spec at = let same : stream_port (codes "IN") ≡ spec = cc in ap (λ (s : PortSpec). is_stream s.class) (sym same)
takes-packets (suc place) spec at = absurd cc

nothing-behind : (place : ℕ) (spec : PortSpec) → slice_get [] place ≡ Some spec → is_stream spec.class ≡ true
nothing-behind place spec at = absurd cc

pub file_name-requires : goal.file_name-requires
file_name-requires c =
    let kind = of-found c.args.plan.now c.args.process kinds.ReadLines c.processes.result.now c.index-processes-process.result c.processes.ensures.processes c.index-processes-process.is c.requires (c.in-ReadLines.ensures {u = tt}) in
    file-option (codes "FILE") [] c.index-processes-process.result.options nothing-behind kind.options

pub file_name-requires-in-WriteLines : goal.file_name-requires-in-WriteLines
file_name-requires-in-WriteLines c =
    let kind = of-found c.args.plan.now c.args.process kinds.WriteLines c.processes.result.now c.index-processes-process.result c.processes.ensures.processes c.index-processes-process.is c.requires (c.in-WriteLines.ensures {u = tt}) in
    file-option (codes "FILE") (stream_port (codes "IN") ∷ []) c.index-processes-process.result.options takes-packets kind.options
