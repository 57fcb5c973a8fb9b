-- Each process keeps the ports of its kind, and each port its place, when an element is bound.
use Rattle.std.proofs.Common.{◌≡◌, ℕ, List, [], ◌∷◌, Option, Some, None, Bool, true, false, refl, ap, sym, ◌∙◌, subst, zero, suc, slice_get, take, arith}
use Rattle.std.specs.Prelude.{if◌then◌else◌}
use Rattle.std.specs.Option.{option_map}
use Rattle.std.specs.List.{sum_by}
use Rattle.std.proofs.lemmas.List.Sums.{sum_by-cons}
use Rattle.flow_net.specs.declared.draft.End.{End}
use Rattle.flow_net.specs.declared.draft.DraftPort.{DraftPort}
use Rattle.flow_net.specs.declared.draft.DraftProcess.{DraftProcess}
use Rattle.flow_net.specs.declared.draft.Link.{Link}
use Rattle.flow_net.specs.declared.draft.Binding.{Binding}
use Rattle.flow_plan.specs.declared.kind.KindSpec.{KindSpec}
use Rattle.flow_plan.specs.declared.kind.PortSpec.{PortSpec}
use Rattle.flow_net.specs.Drafts.{bound, is_side}
use Rattle.flow_net.specs.Calls.{joined_ports}
use Rattle.flow_net.specs.Sound.{IsShaped, HasKindPorts, on_side, entries_of}
use Rattle.flow_net.proofs.Wiring.{outline, SameOutline-bound}
use Rattle.flow_net.proofs.Steps.{map_some}

-- binding an element changes no entry
entries-bound : (ports : List DraftPort) (g e : ℕ) (b : Binding) (p : ℕ) (s : Bool) → entries_of (bound ports (record { port = g; element = e }) b) p s ≡ entries_of ports p s
entries-bound [] g e b p s = refl
entries-bound (port ∷ ports) zero e b p s = refl
entries-bound (port ∷ ports) (suc g) e b p s = ap (λ (rest : List PortSpec). if is_side p s port then port.spec ∷ rest else rest) (entries-bound ports g e b p s)

-- binding an element changes no number of ports
before-bound : (ports : List DraftPort) (g e : ℕ) (b : Binding) (k p : ℕ) (s : Bool) → sum_by (on_side p s) (take k (bound ports (record { port = g; element = e }) b)) ≡ sum_by (on_side p s) (take k ports)
before-bound [] g e b k p s = refl
before-bound (port ∷ ports) zero e b zero p s = refl
before-bound (port ∷ ports) (suc g) e b zero p s = refl
before-bound (port ∷ ports) zero e b (suc k) p s = refl
before-bound (port ∷ ports) (suc g) e b (suc k) p s = omega (arith, before-bound ports g e b k p s, sum_by-cons (on_side p s) port (take k (bound ports (record { port = g; element = e }) b)), sum_by-cons (on_side p s) port (take k ports))

-- Binding a port keeps the ports of each process those of its kind.
pub IsShaped-bound : (kinds : List KindSpec) (processes : List DraftProcess) (ports : List DraftPort) (end : End) (b : Binding) → IsShaped kinds processes ports → IsShaped kinds processes (bound ports end b)
IsShaped-bound kinds processes ports end b shaped = record { each = each; places = places }
  where
    each : (p : ℕ) (begun : DraftProcess) → slice_get processes p ≡ Some begun → HasKindPorts kinds (bound ports end b) p begun.kind
    each p begun here =
        let old = shaped.each p begun here in
        record {
          place = old.place;
          kind = old.kind;
          here = old.here;
          name = old.name;
          inputs = entries-bound ports end.port end.element b p true ∙ old.inputs;
          outputs = entries-bound ports end.port end.element b p false ∙ old.outputs;
        }

    places : (g : ℕ) (port : DraftPort) → slice_get (bound ports end b) g ≡ Some port → port.place ≡ sum_by (on_side port.process port.input) (take g (bound ports end b))
    places g port here =
        let old = map_some outline (slice_get ports g) (outline port) (sym (SameOutline-bound ports end b g) ∙ ap (option_map outline) here) in
        let moved : port.place ≡ sum_by (on_side port.process port.input) (take g ports) = subst (λ (q : DraftPort). q.place ≡ sum_by (on_side q.process q.input) (take g ports)) old.2 (shaped.places g old.0 old.1) in
        moved ∙ sym (before-bound ports end.port end.element b g port.process port.input)

-- Joining two ports keeps the ports of each process those of its kind.
pub IsShaped-joined : (kinds : List KindSpec) (processes : List DraftProcess) (ports : List DraftPort) (links : List Link) (out into : End) (link : Option ℕ) → IsShaped kinds processes ports → IsShaped kinds processes (joined_ports ports links out into link)
IsShaped-joined kinds processes ports links out into None shaped = IsShaped-bound kinds processes _ out _ (IsShaped-bound kinds processes ports into _ shaped)
IsShaped-joined kinds processes ports links out into (Some c) shaped = IsShaped-bound kinds processes ports out _ shaped

-- processes of the same kinds have the same ports
pub IsShaped-texted : (kinds : List KindSpec) (processes texted : List DraftProcess) (ports : List DraftPort) → ((p : ℕ) (begun : DraftProcess) → slice_get texted p ≡ Some begun → (old : DraftProcess) × (slice_get processes p ≡ Some old) × (begun.kind ≡ old.kind)) → IsShaped kinds processes ports → IsShaped kinds texted ports
IsShaped-texted kinds processes texted ports same shaped = record { each = each; places = shaped.places }
  where
    each : (p : ℕ) (begun : DraftProcess) → slice_get texted p ≡ Some begun → HasKindPorts kinds ports p begun.kind
    each p begun here =
        let old = same p begun here in
        subst (λ (kind : List ℕ). HasKindPorts kinds ports p kind) (sym old.2) (shaped.each p old.0 old.1)
