-- Each process has the ports of its kind, and each port its place, when a process begins.
use Rattle.std.proofs.Common.{◌≡◌, ◌≢◌, ℕ, ◌+◌, ◌<◌, List, [], ◌∷◌, ◌++◌, Some, Bool, true, false, map, refl, ap, sym, ◌∙◌, subst, zero, suc, inl, inr, ◌⊎◌, slice_get, length, take, arith}
use Rattle.std.specs.Prelude.{◌==◌, ◌&&◌, if◌then◌else◌}
use Rattle.std.specs.List.{sum_by}
use Rattle.std.proofs.lemmas.List.{append-nil}
use Rattle.std.proofs.lemmas.List.Sums.{sum_by-cons, sum_by-append}
use Rattle.std.proofs.lemmas.Option.{slice_get_within}
use Rattle.flow_net.specs.declared.draft.DraftPort.{DraftPort}
use Rattle.flow_net.specs.declared.draft.DraftProcess.{DraftProcess}
use Rattle.flow_plan.specs.declared.kind.KindSpec.{KindSpec}
use Rattle.flow_plan.specs.declared.kind.PortSpec.{PortSpec}
use Rattle.flow_net.specs.Drafts.{is_side, same}
use Rattle.flow_net.specs.Calls.{fresh_port, fresh_ports, begun_as}
use Rattle.flow_net.specs.Over.{carries}
use Rattle.flow_net.specs.Kinds.{all_inputs, all_outputs}
use Rattle.flow_net.specs.Sound.{IsShaped, HasKindPorts, on_side, entries_of}
use Rattle.flow_net.proofs.Wiring.{slice_get-push_cases}
use Rattle.flow_net.proofs.Ends.{eqb_true}
use Rattle.flow_net.proofs.Sides.{eqb_refl, same_refl}
use Rattle.flow_net.proofs.Freshes.{fresh_ports-each}

-- An element of two lists joined, with what stands before it.
at_append : {X : Type 0} (xs ys : List X) (i : ℕ) (x : X) → slice_get (xs ++ ys) i ≡ Some x → ((slice_get xs i ≡ Some x) × (take i (xs ++ ys) ≡ take i xs)) ⊎ ((k : ℕ) × (slice_get ys k ≡ Some x) × (take i (xs ++ ys) ≡ xs ++ take k ys))
at_append [] ys i x is = inr (i, is, refl)
at_append (z ∷ xs) ys zero x is = inl (is, refl)
at_append {X} (z ∷ xs) ys (suc i) x is = by (at_append xs ys i x is)
  where
    by : ((slice_get xs i ≡ Some x) × (take i (xs ++ ys) ≡ take i xs)) ⊎ ((k : ℕ) × (slice_get ys k ≡ Some x) × (take i (xs ++ ys) ≡ xs ++ take k ys)) → ((slice_get xs i ≡ Some x) × (z ∷ take i (xs ++ ys) ≡ z ∷ take i xs)) ⊎ ((k : ℕ) × (slice_get ys k ≡ Some x) × (z ∷ take i (xs ++ ys) ≡ z ∷ xs ++ take k ys))
    by (inl old) = inl (old.0, ap (λ (zs : List X). z ∷ zs) old.1)
    by (inr new) = inr (new.0, new.1, ap (λ (zs : List X). z ∷ zs) new.2)

entries-append : (xs ys : List DraftPort) (p : ℕ) (s : Bool) → entries_of (xs ++ ys) p s ≡ entries_of xs p s ++ entries_of ys p s
entries-append [] ys p s = refl
entries-append (x ∷ xs) ys p s = by (is_side p s x) (entries-append xs ys p s)
  where
    by : (b : Bool) → entries_of (xs ++ ys) p s ≡ entries_of xs p s ++ entries_of ys p s → (if b then x.spec ∷ entries_of (xs ++ ys) p s else entries_of (xs ++ ys) p s) ≡ (if b then x.spec ∷ entries_of xs p s else entries_of xs p s) ++ entries_of ys p s
    by true rest = ap (λ (zs : List PortSpec). x.spec ∷ zs) rest
    by false rest = rest

-- where no port is on a side, the side has no entry
entries-none : (ports : List DraftPort) (p : ℕ) (s : Bool) → ((g : ℕ) (port : DraftPort) → slice_get ports g ≡ Some port → is_side p s port ≡ false) → entries_of ports p s ≡ []
entries-none [] p s none = refl
entries-none (x ∷ xs) p s none =
    ap (λ (b : Bool). if b then x.spec ∷ entries_of xs p s else entries_of xs p s) (none 0 x refl)
    ∙ entries-none xs p s (λ g port here. none (suc g) port here)

-- and no port
before-none : (ports : List DraftPort) (p : ℕ) (s : Bool) → ((g : ℕ) (port : DraftPort) → slice_get ports g ≡ Some port → is_side p s port ≡ false) → sum_by (on_side p s) ports ≡ 0
before-none [] p s none = refl
before-none (x ∷ xs) p s none =
    let first : on_side p s x ≡ 0 = ap (λ (b : Bool). if b then 1 else 0) (none 0 x refl) in
    omega (arith, sum_by-cons (on_side p s) x xs, first, before-none xs p s (λ g port here. none (suc g) port here))

other_process : (port : DraftPort) (p : ℕ) (s : Bool) → port.process ≢ p → is_side p s port ≡ false
other_process port p s ne = by (port.process == p) refl
  where
    by : (b : Bool) → (port.process == p) ≡ b → (b && same port.input s) ≡ false
    by true test = absurd (ne (eqb_true port.process p test))
    by false test = refl

other_side : (port : DraftPort) (p : ℕ) (s t : Bool) → port.input ≡ s → same s t ≡ false → is_side p t port ≡ false
other_side port p s t is apart = by (port.process == p) (ap (λ (b : Bool). same b t) is ∙ apart)
  where
    by : (b : Bool) → same port.input t ≡ false → (b && same port.input t) ≡ false
    by true test = test
    by false test = refl

side_fresh : (p : ℕ) (s : Bool) (place : ℕ) (spec : PortSpec) → is_side p s (fresh_port p s place spec) ≡ true
side_fresh p s place spec = ap (λ (b : Bool). b && same s s) (eqb_refl p) ∙ same_refl s

entries-inputs : (p place : ℕ) (specs : List PortSpec) → entries_of (fresh_ports p true place specs) p true ≡ specs
entries-inputs p place [] = refl
entries-inputs p place (spec ∷ specs) =
    ap (λ (b : Bool). if b then spec ∷ entries_of (fresh_ports p true (place + 1) specs) p true else entries_of (fresh_ports p true (place + 1) specs) p true) (side_fresh p true place spec)
    ∙ ap (λ (rest : List PortSpec). spec ∷ rest) (entries-inputs p (place + 1) specs)

entries-outputs : (p place : ℕ) (specs : List PortSpec) → entries_of (fresh_ports p false place specs) p false ≡ map carries specs
entries-outputs p place [] = refl
entries-outputs p place (spec ∷ specs) =
    ap (λ (b : Bool). if b then carries spec ∷ entries_of (fresh_ports p false (place + 1) specs) p false else entries_of (fresh_ports p false (place + 1) specs) p false) (side_fresh p false place spec)
    ∙ ap (λ (rest : List PortSpec). carries spec ∷ rest) (entries-outputs p (place + 1) specs)

-- What is known of a new port beside its place.
fresh_process : (p : ℕ) (s : Bool) (specs : List PortSpec) (k : ℕ) (port : DraftPort) → slice_get (fresh_ports p s 0 specs) k ≡ Some port → (port.process ≡ p) × (port.input ≡ s)
fresh_process p s specs k port is =
    let fresh = fresh_ports-each p s 0 specs k port is in
    (ap (λ (q : DraftPort). q.process) (sym fresh.whole), ap (λ (q : DraftPort). q.input) (sym fresh.whole))

-- the place of a new port is the number of the new ports before it
fresh_placed : (p : ℕ) (s : Bool) (start : ℕ) (specs : List PortSpec) (k : ℕ) (port : DraftPort) → slice_get (fresh_ports p s start specs) k ≡ Some port → port.place ≡ start + sum_by (on_side p s) (take k (fresh_ports p s start specs))
fresh_placed p s start [] k port is = absurd (cc)
fresh_placed p s start (spec ∷ specs) zero port is =
    let whole : fresh_port p s start spec ≡ port = cc in
    let place : start ≡ port.place = ap (λ (q : DraftPort). q.place) whole in
    omega (arith, place)
fresh_placed p s start (spec ∷ specs) (suc k) port is =
    let one : on_side p s (fresh_port p s start spec) ≡ 1 = ap (λ (b : Bool). if b then 1 else 0) (side_fresh p s start spec) in
    omega (arith, one, fresh_placed p s (start + 1) specs k port is, sum_by-cons (on_side p s) (fresh_port p s start spec) (take k (fresh_ports p s (start + 1) specs)))

module _ (kinds : List KindSpec) (processes : List DraftProcess) (ports : List DraftPort) (name : List ℕ) (place : ℕ) (kind : KindSpec)
    (here : slice_get kinds place ≡ Some kind)
    (shaped : IsShaped kinds processes ports)
    (old_process : (g : ℕ) (port : DraftPort) → slice_get ports g ≡ Some port → port.process < length processes) where
  -- no new port is of another process
  elsewhere : (p : ℕ) (s : Bool) → length processes ≢ p → (g : ℕ) (port : DraftPort) → slice_get (fresh_ports (length processes) true 0 (all_inputs kind.inputs) ++ fresh_ports (length processes) false 0 (all_outputs kind.outputs)) g ≡ Some port → is_side p s port ≡ false
  elsewhere p s ne g port is = other_process port p s (λ e. ne (sym owner ∙ e))
    where
      by : ((slice_get (fresh_ports (length processes) true 0 (all_inputs kind.inputs)) g ≡ Some port) × (take g (fresh_ports (length processes) true 0 (all_inputs kind.inputs) ++ fresh_ports (length processes) false 0 (all_outputs kind.outputs)) ≡ take g (fresh_ports (length processes) true 0 (all_inputs kind.inputs)))) ⊎ ((k : ℕ) × (slice_get (fresh_ports (length processes) false 0 (all_outputs kind.outputs)) k ≡ Some port) × (take g (fresh_ports (length processes) true 0 (all_inputs kind.inputs) ++ fresh_ports (length processes) false 0 (all_outputs kind.outputs)) ≡ fresh_ports (length processes) true 0 (all_inputs kind.inputs) ++ take k (fresh_ports (length processes) false 0 (all_outputs kind.outputs)))) → port.process ≡ length processes
      by (inl input) = (fresh_process (length processes) true (all_inputs kind.inputs) g port input.0).0
      by (inr output) = (fresh_process (length processes) false (all_outputs kind.outputs) output.0 port output.1).0

      owner : port.process ≡ length processes
      owner = by (at_append (fresh_ports (length processes) true 0 (all_inputs kind.inputs)) (fresh_ports (length processes) false 0 (all_outputs kind.outputs)) g port is)

  -- no old port is of the new process
  not_old : (s : Bool) (g : ℕ) (port : DraftPort) → slice_get ports g ≡ Some port → is_side (length processes) s port ≡ false
  not_old s g port is = other_process port (length processes) s (λ e. omega (arith, old_process g port is, e))

  inputs_aside : (g : ℕ) (port : DraftPort) → slice_get (fresh_ports (length processes) true 0 (all_inputs kind.inputs)) g ≡ Some port → is_side (length processes) false port ≡ false
  inputs_aside g port is = other_side port (length processes) true false (fresh_process (length processes) true (all_inputs kind.inputs) g port is).1 refl

  outputs_aside : (g : ℕ) (port : DraftPort) → slice_get (fresh_ports (length processes) false 0 (all_outputs kind.outputs)) g ≡ Some port → is_side (length processes) true port ≡ false
  outputs_aside g port is = other_side port (length processes) false true (fresh_process (length processes) false (all_outputs kind.outputs) g port is).1 refl

  kept : (p : ℕ) (s : Bool) → length processes ≢ p → entries_of (ports ++ (fresh_ports (length processes) true 0 (all_inputs kind.inputs) ++ fresh_ports (length processes) false 0 (all_outputs kind.outputs))) p s ≡ entries_of ports p s
  kept p s ne =
      entries-append ports (fresh_ports (length processes) true 0 (all_inputs kind.inputs) ++ fresh_ports (length processes) false 0 (all_outputs kind.outputs)) p s
      ∙ ap (λ (rest : List PortSpec). entries_of ports p s ++ rest) (entries-none _ p s (elsewhere p s ne))
      ∙ append-nil (entries_of ports p s)

  -- the entries of the new process are those of its ports
  own : (s : Bool) → entries_of (ports ++ (fresh_ports (length processes) true 0 (all_inputs kind.inputs) ++ fresh_ports (length processes) false 0 (all_outputs kind.outputs))) (length processes) s ≡ entries_of (fresh_ports (length processes) true 0 (all_inputs kind.inputs)) (length processes) s ++ entries_of (fresh_ports (length processes) false 0 (all_outputs kind.outputs)) (length processes) s
  own s =
      entries-append ports (fresh_ports (length processes) true 0 (all_inputs kind.inputs) ++ fresh_ports (length processes) false 0 (all_outputs kind.outputs)) (length processes) s
      ∙ ap (λ (first : List PortSpec). first ++ entries_of (fresh_ports (length processes) true 0 (all_inputs kind.inputs) ++ fresh_ports (length processes) false 0 (all_outputs kind.outputs)) (length processes) s) (entries-none ports (length processes) s (not_old s))
      ∙ entries-append (fresh_ports (length processes) true 0 (all_inputs kind.inputs)) (fresh_ports (length processes) false 0 (all_outputs kind.outputs)) (length processes) s

  own_inputs : entries_of (ports ++ (fresh_ports (length processes) true 0 (all_inputs kind.inputs) ++ fresh_ports (length processes) false 0 (all_outputs kind.outputs))) (length processes) true ≡ (all_inputs kind.inputs)
  own_inputs =
      own true
      ∙ ap (λ (rest : List PortSpec). entries_of (fresh_ports (length processes) true 0 (all_inputs kind.inputs)) (length processes) true ++ rest) (entries-none _ (length processes) true outputs_aside)
      ∙ append-nil _
      ∙ entries-inputs (length processes) 0 (all_inputs kind.inputs)

  own_outputs : entries_of (ports ++ (fresh_ports (length processes) true 0 (all_inputs kind.inputs) ++ fresh_ports (length processes) false 0 (all_outputs kind.outputs))) (length processes) false ≡ map carries (all_outputs kind.outputs)
  own_outputs =
      own false
      ∙ ap (λ (first : List PortSpec). first ++ entries_of (fresh_ports (length processes) false 0 (all_outputs kind.outputs)) (length processes) false) (entries-none _ (length processes) false inputs_aside)
      ∙ entries-outputs (length processes) 0 (all_outputs kind.outputs)

  each : (p : ℕ) (begun : DraftProcess) → slice_get (processes ++ begun_as (length processes) name kind.name ∷ []) p ≡ Some begun → HasKindPorts kinds (ports ++ (fresh_ports (length processes) true 0 (all_inputs kind.inputs) ++ fresh_ports (length processes) false 0 (all_outputs kind.outputs))) p begun.kind
  each p begun is = by (slice_get-push_cases processes (begun_as (length processes) name kind.name) begun p is)
    where
      by : (slice_get processes p ≡ Some begun) ⊎ ((p ≡ length processes) × (begun_as (length processes) name kind.name ≡ begun)) → HasKindPorts kinds (ports ++ (fresh_ports (length processes) true 0 (all_inputs kind.inputs) ++ fresh_ports (length processes) false 0 (all_outputs kind.outputs))) p begun.kind
      by (inl earlier) =
          let old = shaped.each p begun earlier in
          let ne : length processes ≢ p = λ e. omega (arith, slice_get_within processes p begun earlier, e) in
          record {
            place = old.place;
            kind = old.kind;
            here = old.here;
            name = old.name;
            inputs = kept p true ne ∙ old.inputs;
            outputs = kept p false ne ∙ old.outputs;
          }
      by (inr last) =
          subst (λ (q : ℕ). HasKindPorts kinds (ports ++ (fresh_ports (length processes) true 0 (all_inputs kind.inputs) ++ fresh_ports (length processes) false 0 (all_outputs kind.outputs))) q begun.kind) (sym last.0)
          (record {
            place = place;
            kind = kind;
            here = here;
            name = ap (λ (b : DraftProcess). b.kind) (sym last.1);
            inputs = own_inputs;
            outputs = own_outputs;
          })

  -- the place of a new port, by what stands before it among the new ports
  new_place : (k : ℕ) (port : DraftPort) → slice_get (fresh_ports (length processes) true 0 (all_inputs kind.inputs) ++ fresh_ports (length processes) false 0 (all_outputs kind.outputs)) k ≡ Some port → (port.process ≡ length processes) × (port.place ≡ sum_by (on_side (length processes) port.input) (take k (fresh_ports (length processes) true 0 (all_inputs kind.inputs) ++ fresh_ports (length processes) false 0 (all_outputs kind.outputs))))
  new_place k port is = by (at_append (fresh_ports (length processes) true 0 (all_inputs kind.inputs)) (fresh_ports (length processes) false 0 (all_outputs kind.outputs)) k port is)
    where
      by : ((slice_get (fresh_ports (length processes) true 0 (all_inputs kind.inputs)) k ≡ Some port) × (take k (fresh_ports (length processes) true 0 (all_inputs kind.inputs) ++ fresh_ports (length processes) false 0 (all_outputs kind.outputs)) ≡ take k (fresh_ports (length processes) true 0 (all_inputs kind.inputs)))) ⊎ ((j : ℕ) × (slice_get (fresh_ports (length processes) false 0 (all_outputs kind.outputs)) j ≡ Some port) × (take k (fresh_ports (length processes) true 0 (all_inputs kind.inputs) ++ fresh_ports (length processes) false 0 (all_outputs kind.outputs)) ≡ fresh_ports (length processes) true 0 (all_inputs kind.inputs) ++ take j (fresh_ports (length processes) false 0 (all_outputs kind.outputs)))) → (port.process ≡ length processes) × (port.place ≡ sum_by (on_side (length processes) port.input) (take k (fresh_ports (length processes) true 0 (all_inputs kind.inputs) ++ fresh_ports (length processes) false 0 (all_outputs kind.outputs))))
      by (inl input) =
          let side = fresh_process (length processes) true (all_inputs kind.inputs) k port input.0 in
          let placed : port.place ≡ sum_by (on_side (length processes) true) (take k (fresh_ports (length processes) true 0 (all_inputs kind.inputs))) = omega (arith, fresh_placed (length processes) true 0 (all_inputs kind.inputs) k port input.0) in
          (side.0, placed ∙ ap (sum_by (on_side (length processes) true)) (sym input.1) ∙ ap (λ (s : Bool). sum_by (on_side (length processes) s) (take k (fresh_ports (length processes) true 0 (all_inputs kind.inputs) ++ fresh_ports (length processes) false 0 (all_outputs kind.outputs)))) (sym side.1))
      by (inr output) =
          let side = fresh_process (length processes) false (all_outputs kind.outputs) output.0 port output.1 in
          let placed : port.place ≡ sum_by (on_side (length processes) false) (fresh_ports (length processes) true 0 (all_inputs kind.inputs) ++ take output.0 (fresh_ports (length processes) false 0 (all_outputs kind.outputs))) =
          omega (arith, fresh_placed (length processes) false 0 (all_outputs kind.outputs) output.0 port output.1, before-none _ (length processes) false inputs_aside, sum_by-append (on_side (length processes) false) (fresh_ports (length processes) true 0 (all_inputs kind.inputs)) (take output.0 (fresh_ports (length processes) false 0 (all_outputs kind.outputs)))) in
          (side.0, placed ∙ ap (sum_by (on_side (length processes) false)) (sym output.2) ∙ ap (λ (s : Bool). sum_by (on_side (length processes) s) (take k (fresh_ports (length processes) true 0 (all_inputs kind.inputs) ++ fresh_ports (length processes) false 0 (all_outputs kind.outputs)))) (sym side.1))

  -- a place among all ports, of a port of the process that begins
  behind : (k : ℕ) (s : Bool) → sum_by (on_side (length processes) s) (ports ++ take k (fresh_ports (length processes) true 0 (all_inputs kind.inputs) ++ fresh_ports (length processes) false 0 (all_outputs kind.outputs))) ≡ sum_by (on_side (length processes) s) (take k (fresh_ports (length processes) true 0 (all_inputs kind.inputs) ++ fresh_ports (length processes) false 0 (all_outputs kind.outputs)))
  behind k s = omega (arith, before-none ports (length processes) s (not_old s), sum_by-append (on_side (length processes) s) ports (take k (fresh_ports (length processes) true 0 (all_inputs kind.inputs) ++ fresh_ports (length processes) false 0 (all_outputs kind.outputs))))

  places : (g : ℕ) (port : DraftPort) → slice_get (ports ++ (fresh_ports (length processes) true 0 (all_inputs kind.inputs) ++ fresh_ports (length processes) false 0 (all_outputs kind.outputs))) g ≡ Some port → port.place ≡ sum_by (on_side port.process port.input) (take g (ports ++ (fresh_ports (length processes) true 0 (all_inputs kind.inputs) ++ fresh_ports (length processes) false 0 (all_outputs kind.outputs))))
  places g port is = by (at_append ports (fresh_ports (length processes) true 0 (all_inputs kind.inputs) ++ fresh_ports (length processes) false 0 (all_outputs kind.outputs)) g port is)
    where
      by : ((slice_get ports g ≡ Some port) × (take g (ports ++ (fresh_ports (length processes) true 0 (all_inputs kind.inputs) ++ fresh_ports (length processes) false 0 (all_outputs kind.outputs))) ≡ take g ports)) ⊎ ((k : ℕ) × (slice_get (fresh_ports (length processes) true 0 (all_inputs kind.inputs) ++ fresh_ports (length processes) false 0 (all_outputs kind.outputs)) k ≡ Some port) × (take g (ports ++ (fresh_ports (length processes) true 0 (all_inputs kind.inputs) ++ fresh_ports (length processes) false 0 (all_outputs kind.outputs))) ≡ ports ++ take k (fresh_ports (length processes) true 0 (all_inputs kind.inputs) ++ fresh_ports (length processes) false 0 (all_outputs kind.outputs)))) → port.place ≡ sum_by (on_side port.process port.input) (take g (ports ++ (fresh_ports (length processes) true 0 (all_inputs kind.inputs) ++ fresh_ports (length processes) false 0 (all_outputs kind.outputs))))
      by (inl old) = shaped.places g port old.0 ∙ ap (sum_by (on_side port.process port.input)) (sym old.1)
      by (inr new) =
          let placed = new_place new.0 port new.1 in
          placed.1
          ∙ sym (behind new.0 port.input)
          ∙ ap (sum_by (on_side (length processes) port.input)) (sym new.2)
          ∙ ap (λ (p : ℕ). sum_by (on_side p port.input) (take g (ports ++ (fresh_ports (length processes) true 0 (all_inputs kind.inputs) ++ fresh_ports (length processes) false 0 (all_outputs kind.outputs))))) (sym placed.0)

  pub IsShaped-begun : IsShaped kinds (processes ++ begun_as (length processes) name kind.name ∷ []) (ports ++ (fresh_ports (length processes) true 0 (all_inputs kind.inputs) ++ fresh_ports (length processes) false 0 (all_outputs kind.outputs)))
  IsShaped-begun = record { each = each; places = places }
