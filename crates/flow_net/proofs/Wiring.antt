-- What elements are bound to agrees with the lists of connections and texts, also after one more was bound.
use Rattle.std.proofs.Common.{◌≡◌, ◌≢◌, ℕ, List, [], ◌∷◌, ◌++◌, Option, Some, None, false, refl, ap, sym, ◌∙◌, subst, zero, suc, inl, inr, ◌⊎◌, IsSome, slice_get, length}
use Rattle.std.specs.Option.{option_map, option_map_or}
use Rattle.flow_net.specs.declared.draft.End.{End}
use Rattle.flow_net.specs.declared.draft.DraftPort.{DraftPort}
use Rattle.flow_net.specs.declared.draft.Binding.{Binding}
use Rattle.flow_net.specs.Drafts.{binding_at, bound, is_stream_at, is_stream_port}
use Rattle.flow_net.specs.Calls.{process_at, takes_text}
use Rattle.flow_net.specs.Kinds.{takes_texts}
use Rattle.flow_net.specs.Options.{FitsPort}
use Rattle.flow_net.specs.Sound.{is_input_at}
use Rattle.flow_net.proofs.Places.{same_or_not}
use Rattle.flow_net.proofs.Bindings.{binding_at-bound_same, binding_at-bound_other}

-- Two elements of one port and one place are the same.
pub same_end : (e f : End) → e.port ≡ f.port → e.element ≡ f.element → e ≡ f
same_end e f p q = ap (λ n. let end : End = record { port = n; element = e.element } in end) p ∙ ap (λ n. let end : End = record { port = f.port; element = n } in end) q

-- Two elements are the same or not.
pub same_end_or_not : (e f : End) → (e ≡ f) ⊎ (e ≢ f)
same_end_or_not e f = by (same_or_not e.port f.port) (same_or_not e.element f.element)
  where
    by : (e.port ≡ f.port) ⊎ (e.port ≢ f.port) → (e.element ≡ f.element) ⊎ (e.element ≢ f.element) → (e ≡ f) ⊎ (e ≢ f)
    by (inl p) (inl q) = inl (same_end e f p q)
    by (inr p) q = inr (λ is. p (ap (λ (end : End). end.port) is))
    by (inl p) (inr q) = inr (λ is. q (ap (λ (end : End). end.element) is))

-- The ports after an element was bound, as far as bindings go: this one is, and the others are as they were.
pub record Rebound (ports after : List DraftPort) (end : End) (binding : Binding) : Type 0 where
  pub at : binding_at after end ≡ Some binding
  pub others : (other : End) → other ≢ end → binding_at after other ≡ binding_at ports other

-- Binding a port that is there changes its binding alone.
pub Rebound-bound : (ports : List DraftPort) (end : End) (binding : Binding) → IsSome (binding_at ports end) → Rebound ports (bound ports end binding) end binding
Rebound-bound ports end binding there = record {
  at = binding_at-bound_same ports end.port end.element binding there;
  others = λ other ne. binding_at-bound_other ports end.port end.element other.port other.element binding (λ p q. ne (sym (same_end end other p q)));
}

-- A port without its elements.
abbrev pub outline : DraftPort → DraftPort
outline port = record port { elements = [] }

-- Two lists of ports that differ in what elements are bound to alone.
abbrev pub SameOutline : List DraftPort → List DraftPort → Type 0
SameOutline ports after = (g : ℕ) → option_map outline (slice_get after g) ≡ option_map outline (slice_get ports g)

-- Binding a port changes no port but for its bindings.
pub SameOutline-bound : (ports : List DraftPort) (end : End) (binding : Binding) → SameOutline ports (bound ports end binding)
SameOutline-bound ports end binding = at ports end.port
  where
    at : (ports : List DraftPort) (p g : ℕ) → option_map outline (slice_get (bound ports (record { port = p; element = end.element }) binding) g) ≡ option_map outline (slice_get ports g)
    at [] p g = refl
    at (port ∷ ports) zero zero = refl
    at (port ∷ ports) zero (suc g) = refl
    at (port ∷ ports) (suc p) zero = refl
    at (port ∷ ports) (suc p) (suc g) = at ports p g

-- what depends on the outline alone is the same
same_by_outline : {X : Type 0} (f : Option DraftPort → X) → ((o : Option DraftPort) → f (option_map outline o) ≡ f o) → (ports after : List DraftPort) (g : ℕ) → SameOutline ports after → f (slice_get after g) ≡ f (slice_get ports g)
same_by_outline f same ports after g outlined = sym (same (slice_get after g)) ∙ ap f (outlined g) ∙ same (slice_get ports g)

-- Ports of one outline belong to the same processes.
pub process_at-same : (ports after : List DraftPort) (end : End) → SameOutline ports after → process_at after end ≡ process_at ports end
process_at-same ports after end = same_by_outline (λ o. option_map_or (λ (port : DraftPort). port.process) o 0) by ports after end.port
  where
    by : (o : Option DraftPort) → option_map_or (λ (port : DraftPort). port.process) (option_map outline o) 0 ≡ option_map_or (λ (port : DraftPort). port.process) o 0
    by None = refl
    by (Some port) = refl

-- Ports of one outline are on the same sides.
pub is_input_at-same : (ports after : List DraftPort) (end : End) → SameOutline ports after → is_input_at after end ≡ is_input_at ports end
is_input_at-same ports after end = same_by_outline (λ o. option_map (λ (port : DraftPort). port.input) o) by ports after end.port
  where
    by : (o : Option DraftPort) → option_map (λ (port : DraftPort). port.input) (option_map outline o) ≡ option_map (λ (port : DraftPort). port.input) o
    by None = refl
    by (Some port) = refl

-- Ports of one outline are streams alike.
pub is_stream_at-same : (ports after : List DraftPort) (end : End) → SameOutline ports after → is_stream_at after end ≡ is_stream_at ports end
is_stream_at-same ports after end = same_by_outline is_stream_port by ports after end.port
  where
    by : (o : Option DraftPort) → is_stream_port (option_map outline o) ≡ is_stream_port o
    by None = refl
    by (Some port) = refl

-- Ports of one outline take texts alike.
pub takes_text-same : (ports after : List DraftPort) (end : End) → SameOutline ports after → takes_text after end ≡ takes_text ports end
takes_text-same ports after end = same_by_outline (λ o. option_map_or (λ (port : DraftPort). takes_texts port.spec) o false) by ports after end.port
  where
    by : (o : Option DraftPort) → option_map_or (λ (port : DraftPort). takes_texts port.spec) (option_map outline o) false ≡ option_map_or (λ (port : DraftPort). takes_texts port.spec) o false
    by None = refl
    by (Some port) = refl

-- A text that fits a port fits it in each draft of the same outline.
pub FitsPort-same : (ports after : List DraftPort) (g : ℕ) (text : List ℕ) → SameOutline ports after → FitsPort (slice_get ports g) text → FitsPort (slice_get after g) text
FitsPort-same ports after g text outlined = by (slice_get ports g) (slice_get after g) (outlined g)
  where
    by : (o p : Option DraftPort) → option_map outline p ≡ option_map outline o → FitsPort o text → FitsPort p text
    by None p is fits = absurd fits
    by (Some port) None is fits = absurd (cc)
    by (Some port) (Some other) is fits =
        let same : outline other ≡ outline port = cc in
        subst (λ (p : DraftPort). FitsPort (Some p) text) (sym same) fits

-- after one more element at the end of a list
pub slice_get-append_keeps : {X : Type 0} (xs ys : List X) (i : ℕ) (x : X) → slice_get xs i ≡ Some x → slice_get (xs ++ ys) i ≡ Some x
slice_get-append_keeps [] ys i x is = absurd (cc)
slice_get-append_keeps (y ∷ xs) ys zero x is = is
slice_get-append_keeps (y ∷ xs) ys (suc i) x is = slice_get-append_keeps xs ys i x is

-- What is pushed stands at the end.
pub slice_get-push_end : {X : Type 0} (xs : List X) (x : X) → slice_get (xs ++ x ∷ []) (length xs) ≡ Some x
slice_get-push_end [] x = refl
slice_get-push_end (y ∷ xs) x = slice_get-push_end xs x

-- After a push each place has what it had, or is the last with what was pushed.
pub slice_get-push_cases : {X : Type 0} (xs : List X) (x y : X) (i : ℕ) → slice_get (xs ++ x ∷ []) i ≡ Some y → (slice_get xs i ≡ Some y) ⊎ ((i ≡ length xs) × (x ≡ y))
slice_get-push_cases [] x y zero is = inr (refl, cc)
slice_get-push_cases [] x y (suc i) is = absurd (cc)
slice_get-push_cases (z ∷ xs) x y zero is = inl is
slice_get-push_cases (z ∷ xs) x y (suc i) is = by (slice_get-push_cases xs x y i is)
  where
    by : (slice_get xs i ≡ Some y) ⊎ ((i ≡ length xs) × (x ≡ y)) → (slice_get xs i ≡ Some y) ⊎ ((suc i ≡ length (z ∷ xs)) × (x ≡ y))
    by (inl old) = inl old
    by (inr new) = inr (ap suc new.0, new.1)
