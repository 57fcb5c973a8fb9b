-- What elements are bound to, after one was bound.
use Rattle.std.proofs.Common.{◌≡◌, ◌≢◌, ℕ, List, [], ◌∷◌, Some, refl, ap, sym, zero, suc, IsSome, slice_get, slice_set}
use Rattle.std.proofs.lemmas.Bool.{false≢true}
use Rattle.flow_net.specs.declared.draft.End.{End}
use Rattle.flow_net.specs.declared.draft.DraftPort.{DraftPort}
use Rattle.flow_net.specs.declared.draft.Binding.{Binding}
use Rattle.flow_net.specs.Drafts.{binding_at, bound}
use Rattle.flow_net.proofs.Places.{slice_get-set_is, slice_get-set_other}

-- A port that was bound has its new binding.
pub binding_at-bound_same : (ports : List DraftPort) (p e : ℕ) (b : Binding) → IsSome (binding_at ports (record { port = p; element = e })) → binding_at (bound ports (record { port = p; element = e }) b) (record { port = p; element = e }) ≡ Some b
binding_at-bound_same [] p e b there = absurd (false≢true there)
binding_at-bound_same (port ∷ ports) zero e b there = slice_get-set_is port.elements e b there
binding_at-bound_same (port ∷ ports) (suc p) e b there = binding_at-bound_same ports p e b there

-- Every other port keeps its binding.
pub binding_at-bound_other : (ports : List DraftPort) (p e q f : ℕ) (b : Binding) → (p ≡ q → e ≢ f) → binding_at (bound ports (record { port = p; element = e }) b) (record { port = q; element = f }) ≡ binding_at ports (record { port = q; element = f })
binding_at-bound_other [] p e q f b ne = refl
binding_at-bound_other (port ∷ ports) zero e zero f b ne = slice_get-set_other port.elements e f b (λ k. ne refl (sym k))
binding_at-bound_other (port ∷ ports) zero e (suc q) f b ne = refl
binding_at-bound_other (port ∷ ports) (suc p) e zero f b ne = refl
binding_at-bound_other (port ∷ ports) (suc p) e (suc q) f b ne = binding_at-bound_other ports p e q f b (λ k. ne (ap suc k))

-- an element that is there is there after every binding
pub bound-keeps : (ports : List DraftPort) (end other : End) (b : Binding) → IsSome (binding_at ports other) → IsSome (binding_at (bound ports end b) other)
bound-keeps [] end other b there = there
bound-keeps (port ∷ ports) end other b there = at end.port end.element other.port other.element (port ∷ ports) there
  where
    element : (e f : ℕ) (xs : List Binding) → IsSome (slice_get xs f) → IsSome (slice_get (slice_set xs e b) f)
    element e f [] there = there
    element zero zero (x ∷ xs) there = refl
    element zero (suc f) (x ∷ xs) there = there
    element (suc e) zero (x ∷ xs) there = there
    element (suc e) (suc f) (x ∷ xs) there = element e f xs there

    at : (p e q f : ℕ) (ports : List DraftPort) → IsSome (binding_at ports (record { port = q; element = f })) → IsSome (binding_at (bound ports (record { port = p; element = e }) b) (record { port = q; element = f }))
    at p e q f [] there = there
    at zero e zero f (port ∷ ports) there = element e f port.elements there
    at zero e (suc q) f (port ∷ ports) there = there
    at (suc p) e zero f (port ∷ ports) there = there
    at (suc p) e (suc q) f (port ∷ ports) there = at p e q f ports there
