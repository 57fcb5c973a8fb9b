-- What is known of the ports of a draft that has no fault.
use Rattle.std.proofs.Common.{◌≡◌, ℕ, ◌+◌, ◌<◌, ◌≤◌, List, [], ◌∷◌, Option, Some, None, Ok, Bool, true, false, refl, ap, sym, ◌∙◌, subst, zero, suc, slice_get, length, take, arith}
use Rattle.std.specs.Prelude.{◌==◌, ◌&&◌, if◌then◌else◌, position, is_some}
use Rattle.std.specs.Option.{option_map, option_map_or}
use Rattle.std.specs.List.{sum_by}
use Rattle.std.proofs.lemmas.Bool.{false≢true}
use Rattle.std.proofs.lemmas.Bool.Decides.{nat_tests}
use Rattle.std.proofs.lemmas.Option.{slice_get_within}
use Rattle.flow_net.specs.declared.draft.End.{End}
use Rattle.flow_net.specs.declared.draft.DraftPort.{DraftPort}
use Rattle.flow_net.specs.declared.draft.DraftProcess.{DraftProcess}
use Rattle.flow_net.specs.declared.draft.Binding.{Binding}
use Rattle.flow_net.specs.declared.fault.PlanFault.TheVariants.{PortMissing}
use Rattle.flow_plan.specs.Network.{is_stream}
use Rattle.flow_net.specs.Drafts.{refused_if, binding_at, is_free, is_side, same}
use Rattle.flow_net.specs.Calls.{process_at, room_of}
use Rattle.flow_net.specs.Sound.{IsPort, is_input_at}
use Rattle.flow_net.specs.Finishes.{size_of, gap_fault, port_fault, first_fault, name_of, elements_in, count_of, counted, side_at, number_of}
use Rattle.flow_net.proofs.Sides.{eqb_refl, same_refl}
use Rattle.flow_net.proofs.Steps.{then_some}
use Rattle.flow_net.proofs.Ends.{bind_ok, refused_ok}
use Rattle.flow_net.proofs.SoundBegins.{position_none}
use Rattle.flow_net.proofs.SoundGives.{some_at}
use Rattle.flow_net.proofs.Placed.{size_of-within}
use Rattle.flow_net.proofs.Numbers.{number_at}

-- where the first fault is none, no port has one
pub no_fault : (processes : List DraftProcess) (ports : List DraftPort) (u : Unit {0}) → first_fault processes ports ≡ Ok u → (g : ℕ) (port : DraftPort) → slice_get ports g ≡ Some port → port_fault (name_of processes port.process) port ≡ Ok tt
no_fault processes [] u whole g port here = absurd (cc)
no_fault processes (p ∷ ports) u whole g port here = by g here (bind_ok (port_fault (name_of processes p.process) p) (λ none. first_fault processes ports) u whole) (λ rest k at. no_fault processes ports u rest k port at)
  where
    by : (g : ℕ) → slice_get (p ∷ ports) g ≡ Some port → (x : Unit {0}) × (port_fault (name_of processes p.process) p ≡ Ok x) × (first_fault processes ports ≡ Ok u) → (first_fault processes ports ≡ Ok u → (k : ℕ) → slice_get ports k ≡ Some port → port_fault (name_of processes port.process) port ≡ Ok tt) → port_fault (name_of processes port.process) port ≡ Ok tt
    by zero here both rest =
        let same_port : p ≡ port = cc in
        subst (λ (q : DraftPort). port_fault (name_of processes q.process) q ≡ Ok tt) same_port both.1
    by (suc k) here both rest = rest both.2 k here

slice_get-take : {X : Type 0} (xs : List X) (n i : ℕ) → i < n → slice_get (take n xs) i ≡ slice_get xs i
slice_get-take xs zero i within = absurd (omega arith)
slice_get-take [] (suc n) i within = refl
slice_get-take (x ∷ xs) (suc n) zero within = refl
slice_get-take (x ∷ xs) (suc n) (suc i) within = slice_get-take xs n i (omega arith)

-- An element that is bound.
pub record IsBound (elements : List Binding) (e : ℕ) : Type 0 where
  pub binding : Binding
  pub here : slice_get elements e ≡ Some binding
  pub taken : is_free binding ≡ false

-- each element of a needed port without fault is bound
pub each_bound : (name : List ℕ) (port : DraftPort) (e : ℕ) → port.spec.needed ≡ true → port_fault name port ≡ Ok tt → e < elements_in port → IsBound port.elements e
each_bound name port e needed none within = by (size_of port.elements == 0) refl none
  where
    gap : (o : Option ℕ) → gap_fault name port o ≡ Ok tt → is_some o ≡ false
    gap None is = refl
    gap (Some k) is = absurd (cc)

    size : (b : Bool) → 1 ≤ size_of port.elements → e < (if b then size_of port.elements else 1) → e < size_of port.elements
    size true some e_within = e_within
    size false some e_within = omega arith

    by : (b : Bool) → (size_of port.elements == 0) ≡ b → (if b then refused_if port.spec.needed (PortMissing name port.spec.name) else gap_fault name port (position is_free (take (size_of port.elements) port.elements))) ≡ Ok tt → IsBound port.elements e
    by true test is = absurd (false≢true (sym (refused_ok port.spec.needed (PortMissing name port.spec.name) tt is) ∙ needed))
    by false test is =
        let some : 1 ≤ size_of port.elements = grind (arith, nat_tests, test) in
        let below : e < size_of port.elements = size port.spec.array some within in
        let found = some_at port.elements e (omega (arith, below, size_of-within port.elements)) in
        let none_free : is_some (position is_free (take (size_of port.elements) port.elements)) ≡ false = gap (position is_free (take (size_of port.elements) port.elements)) is in
        record {
          binding = found.0;
          here = found.1;
          taken = position_none is_free (take (size_of port.elements) port.elements) none_free e found.0 (slice_get-take port.elements (size_of port.elements) e below ∙ found.1);
        }

size_of-bound : (xs : List Binding) (e : ℕ) (b : Binding) → slice_get xs e ≡ Some b → is_free b ≡ false → e < size_of xs
size_of-bound [] e b here taken = absurd (cc)
size_of-bound (x ∷ xs) zero b here taken = by (size_of xs) (is_free x) (ap is_free (let same_binding : x ≡ b = cc in same_binding) ∙ taken)
  where
    by : (n : ℕ) (free : Bool) → free ≡ false → 0 < (if n == 0 then (if free then 0 else 1) else n + 1)
    by n true not_free = absurd (false≢true (sym not_free))
    by n false not_free = grind (arith, nat_tests)
size_of-bound (x ∷ xs) (suc e) b here taken = by (size_of xs) (size_of-bound xs e b here taken)
  where
    by : (n : ℕ) → e < n → suc e < (if n == 0 then (if is_free x then 0 else 1) else n + 1)
    by n below = grind (arith, nat_tests, below)

-- An element that has a number on this side of this process.
pub record Located (ports : List DraftPort) (end : End) (p : ℕ) (s : Bool) : Type 0 where
  pub port : DraftPort
  pub here : slice_get ports end.port ≡ Some port
  pub within : end.element < counted p s port
  pub number : number_of ports end ≡ number_at (counted p s) ports end.port end.element

-- a bound element of a port that carries packets has a number
pub Located-bound : (n : ℕ) (ports : List DraftPort) (end : End) (b : Binding) → ((g : ℕ) (p : DraftPort) → slice_get ports g ≡ Some p → IsPort n p) → binding_at ports end ≡ Some b → is_free b ≡ false → (s : Bool) → is_input_at ports end ≡ Some s → ((port : DraftPort) → slice_get ports end.port ≡ Some port → is_stream port.spec.class ≡ true) → Located ports end (process_at ports end) s
Located-bound n ports end b all bound taken s side stream = record {
  port = port;
  here = here;
  within = subst (λ (k : ℕ). end.element < k) (sym count) (below port.spec.array refl);
  number = ap (λ (o : Bool). sum_by (counted (process_at ports end) o) (take end.port ports) + end.element) side_is;
}
  where
    found : (p : DraftPort) × (slice_get ports end.port ≡ Some p) × (slice_get p.elements end.element ≡ Some b)
    found = then_some (λ (p : DraftPort). slice_get p.elements end.element) (slice_get ports end.port) b bound

    port : DraftPort
    port = found.0

    here : slice_get ports end.port ≡ Some port
    here = found.1

    owner : process_at ports end ≡ port.process
    owner = ap (λ (o : Option DraftPort). option_map_or (λ (q : DraftPort). q.process) o 0) here

    input : port.input ≡ s
    input =
        let both : Some port.input ≡ Some s = sym (ap (option_map (λ (q : DraftPort). q.input)) here) ∙ side in
        cc

    side_is : side_at ports end ≡ s
    side_is = ap (λ (o : Option DraftPort). option_map_or (λ (q : DraftPort). q.input) o false) here ∙ input

    on_side : is_side (process_at ports end) s port ≡ true
    on_side =
        ap (λ (m : ℕ). (port.process == m) && same port.input s) owner
        ∙ ap (λ (x : Bool). x && same port.input s) (eqb_refl port.process)
        ∙ ap (λ (x : Bool). same x s) input
        ∙ same_refl s

    count : counted (process_at ports end) s port ≡ elements_in port
    count =
        ap (λ (x : Bool). if x then count_of port else 0) on_side
        ∙ ap (λ (x : Bool). if x then elements_in port else 0) (stream port here)

    below : (array : Bool) → port.spec.array ≡ array → end.element < elements_in port
    below true is =
        subst (λ (k : ℕ). end.element < k) (sym (ap (λ (x : Bool). if x then size_of port.elements else 1) is)) (size_of-bound port.elements end.element b found.2 taken)
    below false is =
        let room : length port.elements ≡ 1 = (all end.port port here).room ∙ ap room_of is in
        let within : end.element < length port.elements = slice_get_within port.elements end.element b found.2 in
        subst (λ (k : ℕ). end.element < k) (sym (ap (λ (x : Bool). if x then size_of port.elements else 1) is)) (omega arith)
