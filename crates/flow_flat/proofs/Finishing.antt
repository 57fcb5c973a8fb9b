-- The faults of a whole draft are those of the text that it agrees with.
use Rattle.flow_limits.specs.declared.TheConstants.{CAPACITY_SUM_LIMIT}
use Rattle.std.proofs.Common.{◌≡◌, ℕ, ◌+◌, ◌<◌, ◌≤◌, Bool, true, false, List, [], ◌∷◌, map, length, take, zero, suc, Option, Some, None, Ok, Err, refl, ap, sym, subst, ◌∙◌, slice_get, arith}
use Rattle.std.specs.Prelude.{◌==◌, not, nat_le, if◌then◌else◌, position}
use Rattle.std.specs.List.{range_with_len, sum_by}
use Rattle.std.specs.Option.{option_map, option_map_or}
use Rattle.std.specs.declared.result.Result.{Result}
use Rattle.std.proofs.lemmas.Bool.{false≢true}
use Rattle.std.proofs.lemmas.List.{length-take-le}
use Rattle.std.proofs.lemmas.Option.{slice_get-map, slice_get_within}
use Rattle.flow_net.specs.declared.draft.Binding.{Binding}
use Rattle.flow_net.specs.declared.draft.DraftProcess.{DraftProcess}
use Rattle.flow_net.specs.declared.draft.End.{End}
use Rattle.flow_net.specs.declared.draft.DraftPort.{DraftPort}
use Rattle.flow_net.specs.declared.fault.Many.TheVariants as many
use Rattle.flow_net.specs.declared.fault.PlanFault.{PlanFault}
use Rattle.flow_net.specs.declared.fault.PlanFault.TheVariants.{PortMissing, TooMany}
use Rattle.flow_plan.specs.declared.kind.KindSpec.{KindSpec}
use Rattle.flow_plan.specs.declared.plan.Connection.{Connection}
use Rattle.flow_net.specs.Drafts.{Draft, ◌>>=◌, refused_if, is_free}
use Rattle.flow_net.specs.Finishes.{size_of as bound_size, name_of, gap_fault, port_fault, first_fault, capacity_of, sum_fault}
use Rattle.flow_net.proofs.Placed.{size_of-within}
use Rattle.flow_net.proofs.Steps.{map_some}
use Rattle.flow_net.proofs.Wholes.{no_fault}
use Rattle.flow_flat.specs.Names.{PortAt, Join}
use Rattle.flow_flat.specs.Plans.{Sized, ends_of, size_of, receivers, connection_of}
use Rattle.flow_flat.specs.Firsts.{AllPass, FirstFails}
use Rattle.flow_flat.specs.Faults.{is_named, gap, gap_test, port_test, sum_test}
use Rattle.flow_flat.proofs.Links.{link_to}
use Rattle.flow_flat.proofs.Lookups.{bare, called, position_map}
use Rattle.flow_flat.proofs.Agrees.{Agrees}
use Rattle.flow_flat.proofs.Sizing.{named_if_bound, bound_if_named, binding_is, size_is}
use Rattle.flow_net.proofs.Needs.{sum_by_map}

flags : (f : ℕ → Bool) (xs : List Binding) (n a : ℕ) → n ≤ length xs → ((k : ℕ) (b : Binding) → slice_get xs k ≡ Some b → is_free b ≡ f (a + k)) → map is_free (take n xs) ≡ map f (range_with_len a n)
flags f xs zero a few each = refl
flags f [] (suc n) a few each = absurd (omega arith)
flags f (x ∷ xs) (suc n) a few each =
    let here : a + 0 ≡ a = omega arith in
    ap (λ (b : Bool). b ∷ map is_free (take n xs)) (each 0 x refl ∙ ap f here) ∙ ap (λ (l : List Bool). f a ∷ l) (flags f xs n (a + 1) (omega arith) (λ k b is. each (suc k) b is ∙ ap f (shift k)))
  where
    shift : (k : ℕ) → a + suc k ≡ (a + 1) + k
    shift k = omega arith

same_places : {X Y : Type 0} (p : X → Bool) (q : Y → Bool) (xs : List X) (ys : List Y) → map p xs ≡ map q ys → position p xs ≡ position q ys
same_places p q xs ys same = sym (position_map (λ (b : Bool). b) p xs) ∙ ap (position (λ (b : Bool). b)) same ∙ position_map (λ (b : Bool). b) q ys

name_is : (processes : List DraftProcess) (p : ℕ) → name_of processes p ≡ option_map_or (λ (x : List ℕ × List ℕ). x.0) (slice_get (map called processes) p) []
name_is processes p = by (slice_get processes p) ∙ ap (λ (o : Option (List ℕ × List ℕ)). option_map_or (λ (x : List ℕ × List ℕ). x.0) o []) (sym (slice_get-map called processes p)) where
  by : (o : Option DraftProcess) → option_map_or (λ (b : DraftProcess). b.name) o [] ≡ option_map_or (λ (x : List ℕ × List ℕ). x.0) (option_map called o) []
  by None = refl
  by (Some b) = refl

-- The first fault of a list of ports, with its place.
pub record FaultAt (processes : List DraftProcess) (ports : List DraftPort) (fault : PlanFault) : Type 0 where
  pub place : ℕ
  pub port : DraftPort
  pub here : slice_get ports place ≡ Some port
  pub fails : port_fault (name_of processes port.process) port ≡ Err fault
  pub before : (k : ℕ) (p : DraftPort) → k < place → slice_get ports k ≡ Some p → port_fault (name_of processes p.process) p ≡ Ok tt

fault_at : (processes : List DraftProcess) (ports : List DraftPort) (fault : PlanFault) → first_fault processes ports ≡ Err fault → FaultAt processes ports fault
fault_at processes [] fault is = absurd (cc)
fault_at processes (p ∷ ports) fault is = by (port_fault (name_of processes p.process) p) refl is (λ rest. fault_at processes ports fault rest) where
  by : (r : Result (Unit {0}) PlanFault) → port_fault (name_of processes p.process) p ≡ r → (r >>= λ none. first_fault processes ports) ≡ Err fault → (first_fault processes ports ≡ Err fault → FaultAt processes ports fault) → FaultAt processes (p ∷ ports) fault
  by (Err f) first is rest =
      let same : f ≡ fault = cc in
      record { place = 0; port = p; here = refl; fails = first ∙ ap Err same; before = λ k q below there. absurd (omega arith) }
  by (Ok u) first is rest =
      let found = rest is in
      record { place = suc found.place; port = found.port; here = found.here; fails = found.fails; before = λ k q below there. earlier found k q below there }
    where
      earlier : (found : FaultAt processes ports fault) (k : ℕ) (q : DraftPort) → k < suc found.place → slice_get (p ∷ ports) k ≡ Some q → port_fault (name_of processes q.process) q ≡ Ok tt
      earlier found zero q below there =
          let same : p ≡ q = cc in
          subst (λ (x : DraftPort). port_fault (name_of processes x.process) x ≡ Ok tt) same first
      earlier found (suc k) q below there = found.before k q (omega arith) there

module _ (table : List KindSpec) (ps : List (List ℕ × List ℕ)) (at : List PortAt) (joins : List Join) (given : List (End × List ℕ)) (draft : Draft) (agrees : Agrees table ps at joins given draft) where
  free_is : (g : ℕ) (port : DraftPort) → slice_get draft.ports g ≡ Some port → (k : ℕ) (b : Binding) → slice_get port.elements k ≡ Some b → is_free b ≡ not (is_named (ends_of joins given) (record { port = g; element = k }))
  free_is g port here k b is = by (is_free b) refl (is_named (ends_of joins given) (record { port = g; element = k })) refl where
    by : (f : Bool) → is_free b ≡ f → (n : Bool) → is_named (ends_of joins given) (record { port = g; element = k }) ≡ n → f ≡ not n
    by true free false named = refl
    by false free true named = refl
    by true free true named =
        let found = bound_if_named table ps at joins given draft agrees (record { port = g; element = k }) named in
        let same : b ≡ found.0 = cc (is, found.1, binding_is table ps at joins given draft agrees g k port here) in
        absurd (false≢true (sym found.2 ∙ ap is_free (sym same) ∙ free))
    by false free false named = absurd (false≢true (sym named ∙ named_if_bound table ps at joins given draft agrees (record { port = g; element = k }) b (binding_is table ps at joins given draft agrees g k port here ∙ is) free))

  gap_is : (g : ℕ) (port : DraftPort) → slice_get draft.ports g ≡ Some port → position is_free (take (bound_size port.elements) port.elements) ≡ gap (ends_of joins given) g
  gap_is g port here =
      same_places is_free (λ (e : ℕ). not (is_named (ends_of joins given) (record { port = g; element = e }))) (take (bound_size port.elements) port.elements) (range_with_len 0 (bound_size port.elements))
      (flags (λ (e : ℕ). not (is_named (ends_of joins given) (record { port = g; element = e }))) port.elements (bound_size port.elements) 0 (size_of-within port.elements)
      (λ k b is. free_is g port here k b is ∙ ap (λ (e : ℕ). not (is_named (ends_of joins given) (record { port = g; element = e }))) (zero_add k)))
      ∙ ap (λ (n : ℕ). position (λ (e : ℕ). not (is_named (ends_of joins given) (record { port = g; element = e }))) (range_with_len 0 n)) (size_is table ps at joins given draft agrees g port here)
    where
      zero_add : (k : ℕ) → k ≡ 0 + k
      zero_add k = omega arith

  -- What is wrong with a port of the draft is what the text says.
  pub port_alike : (g : ℕ) (port : DraftPort) (before : List PortAt) → slice_get draft.ports g ≡ Some port → length before ≡ g → port_fault (name_of draft.processes port.process) port ≡ port_test ps (ends_of joins given) before (bare port)
  port_alike g port before here count =
      ap (λ (n : List ℕ). port_fault n port) (name_is draft.processes port.process ∙ ap (λ (l : List (List ℕ × List ℕ)). option_map_or (λ (x : List ℕ × List ℕ). x.0) (slice_get l port.process) []) agrees.names)
      ∙ ap (λ (o : Option ℕ). if bound_size port.elements == 0 then refused_if port.spec.needed (PortMissing name port.spec.name) else gap_fault name port o) (gap_is g port here)
      ∙ ap (λ (r : Result (Unit {0}) PlanFault). if bound_size port.elements == 0 then refused_if port.spec.needed (PortMissing name port.spec.name) else r) (gaps (gap (ends_of joins given) g))
      ∙ ap (λ (n : ℕ). if n == 0 then refused_if port.spec.needed (PortMissing name port.spec.name) else gap_test name port.spec.name (gap (ends_of joins given) g)) (size_is table ps at joins given draft agrees g port here)
      ∙ ap (λ (k : ℕ). if size_of (ends_of joins given) k == 0 then refused_if port.spec.needed (PortMissing name port.spec.name) else gap_test name port.spec.name (gap (ends_of joins given) k)) (sym count)
    where
      name : List ℕ
      name = option_map_or (λ (x : List ℕ × List ℕ). x.0) (slice_get ps port.process) []

      gaps : (o : Option ℕ) → gap_fault name port o ≡ gap_test name port.spec.name o
      gaps None = refl
      gaps (Some e) = refl

  -- A port of the text is one of the draft.
  port_of : (k : ℕ) (x : PortAt) → slice_get at k ≡ Some x → (port : DraftPort) × (slice_get draft.ports k ≡ Some port) × (bare port ≡ x)
  port_of k x is = map_some bare (slice_get draft.ports k) x (sym (slice_get-map bare draft.ports k) ∙ ap (λ (l : List PortAt). slice_get l k) agrees.ports ∙ is)

  counted : (k : ℕ) (x : PortAt) (l : List PortAt) → slice_get l k ≡ Some x → length (take k l) ≡ k
  counted k x l is = let within : k < length l = slice_get_within l k x is in length-take-le k l (omega arith)

  abbrev pub PortTest : List PortAt → PortAt → Result (Unit {0}) PlanFault → Type 0
  PortTest before port outcome = port_test ps (ends_of joins given) before port ≡ outcome

  -- Where the draft's ports have no fault, the text's pass.
  pub ports_pass : (u : Unit {0}) → first_fault draft.processes draft.ports ≡ Ok u → AllPass PortTest at
  ports_pass u none k x is =
      let found = port_of k x is in
      ap (port_test ps (ends_of joins given) (take k at)) (sym found.2) ∙ sym (port_alike k found.0 (take k at) found.1 (counted k x at is)) ∙ no_fault draft.processes draft.ports u none k found.0 found.1

  -- Where they have one, it is the first of the text's.
  pub port_fails : (fault : PlanFault) → first_fault draft.processes draft.ports ≡ Err fault → FirstFails PortTest at fault
  port_fails fault is = record {
    place = found.place;
    one = bare found.port;
    here = at_place found.place found.port found.here;
    fails = sym (port_alike found.place found.port (take found.place at) found.here (counted found.place (bare found.port) at (at_place found.place found.port found.here))) ∙ found.fails;
    before = before;
  }
    where
      found : FaultAt draft.processes draft.ports fault
      found = fault_at draft.processes draft.ports fault is

      at_place : (k : ℕ) (port : DraftPort) → slice_get draft.ports k ≡ Some port → slice_get at k ≡ Some (bare port)
      at_place k port here = ap (λ (l : List PortAt). slice_get l k) (sym agrees.ports) ∙ slice_get-map bare draft.ports k ∙ ap (option_map bare) here

      taken : (l : List PortAt) (n k : ℕ) (x : PortAt) → slice_get (take n l) k ≡ Some x → (k < n) × (slice_get l k ≡ Some x)
      taken l zero k x is = absurd (cc)
      taken [] (suc n) k x is = absurd (cc)
      taken (y ∷ l) (suc n) zero x is = (omega arith, is)
      taken (y ∷ l) (suc n) (suc k) x is = let rest = taken l n k x is in (omega (arith, rest.0), rest.1)

      before : AllPass PortTest (take found.place at)
      before k x is =
          let there = taken at found.place k x is in
          let port = port_of k x there.1 in
          ap (port_test ps (ends_of joins given) (take k (take found.place at))) (sym port.2)
          ∙ sym (port_alike k port.0 (take k (take found.place at)) port.1 (counted k x (take found.place at) is)) ∙ found.before k port.0 there.0 port.1

  -- The sum of the capacities.
  pub sum_alike : (ports : List Sized) → sum_fault draft.links ≡ sum_test (map (connection_of ports joins) (receivers joins))
  sum_alike ports =
      ap sum_fault agrees.links
      ∙ ap (λ (n : ℕ). refused_if (if nat_le n CAPACITY_SUM_LIMIT then false else true) (TooMany many.CapacitySum)) (sum_by_map capacity_of (link_to joins) (receivers joins) ∙ sym (sum_by_map (λ (c : Connection). c.capacity) (connection_of ports joins) (receivers joins)))
      ∙ ap (λ (b : Bool). refused_if b (TooMany many.CapacitySum)) (negated (nat_le (sum_by (λ (c : Connection). c.capacity) (map (connection_of ports joins) (receivers joins))) CAPACITY_SUM_LIMIT))
    where
      negated : (b : Bool) → (if b then false else true) ≡ not b
      negated true = refl
      negated false = refl
