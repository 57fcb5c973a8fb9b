-- What is known of an element that was found by its name, and of two that may be joined.
use Rattle.flow_limits.specs.declared.TheConstants.{CAPACITY_LIMIT, ELEMENT_LIMIT, LAST_ELEMENT}
use Rattle.std.proofs.Common.{◌≡◌, ℕ, ◌<◌, ◌≤◌, List, [], ◌∷◌, Option, Some, None, Ok, Err, Bool, true, false, refl, ap, sym, ◌∙◌, subst, zero, suc, IsSome, slice_get, get_or, length, arith}
use Rattle.std.specs.Prelude.{◌&&◌, ◌==◌, nat_le, if◌then◌else◌}
use Rattle.std.specs.declared.result.Result.{Result}
use Rattle.std.specs.Option.{option_map, option_and_then, option_map_or, ok_or}
use Rattle.std.specs.Str.{bytes_eq}
use Rattle.std.proofs.lemmas.Bool.{false≢true}
use Rattle.std.proofs.lemmas.Bool.Decides.{nat_tests}
use Rattle.std.proofs.lemmas.List.Quantifiers.{position-Some}
use Rattle.std.proofs.lemmas.Option.{get_or_from_slice_get}
use Rattle.flow_net.specs.declared.draft.End.{End}
use Rattle.flow_net.specs.declared.draft.DraftPort.{DraftPort}
use Rattle.flow_net.specs.declared.draft.DraftProcess.{DraftProcess}
use Rattle.flow_net.specs.declared.draft.Link.{Link}
use Rattle.flow_net.specs.declared.draft.Binding.{Binding}
use Rattle.flow_net.specs.declared.draft.Binding.TheVariants.{Free, Receives, Sends, Given}
use Rattle.flow_net.specs.declared.fault.PlanFault.{PlanFault}
use Rattle.flow_plan.specs.declared.kind.PortRef.{PortRef}
use Rattle.flow_net.specs.Drafts.{◌>>=◌, refused_if, binding_at, is_side, same, port_named, element_named, receives, is_stream_at}
use Rattle.flow_net.specs.Calls.{process_at, room_of, end_at, end_named, end_of_port, process_of_name, ends_of, may_join, allowed_capacity, is_taken, has_text, link_into, is_full, same_capacity, capacity_before}
use Rattle.flow_net.specs.Sound.{IsPort, is_input_at}
use Rattle.flow_net.proofs.Steps.{map_some, then_some}

-- Two steps are done only where the first is and then the second.
pub bind_ok : {A B : Type 0} (r : Result A PlanFault) (f : A → Result B PlanFault) (y : B) → (r >>= f) ≡ Ok y → (x : A) × (r ≡ Ok x) × (f x ≡ Ok y)
bind_ok (Ok x) f y is = (x, refl, is)
bind_ok (Err e) f y is = absurd (cc)

-- What wasn't refused didn't meet the refusal's condition.
pub refused_ok : (b : Bool) (fault : PlanFault) (u : Unit {0}) → refused_if b fault ≡ Ok u → b ≡ false
refused_ok true fault u is = absurd (cc)
refused_ok false fault u is = refl

-- Both parts of a conjunction hold.
pub and_true : (a b : Bool) → (a && b) ≡ true → (a ≡ true) × (b ≡ true)
and_true true b is = (refl, is)
and_true false b is = absurd (false≢true is)

-- Two answers that agree are the same.
pub same_true : (a b : Bool) → same a b ≡ true → a ≡ b
same_true true true is = refl
same_true false false is = refl
same_true true false is = absurd (false≢true is)
same_true false true is = absurd (false≢true is)

-- Numbers that the program finds equal are equal.
pub eqb_true : (m n : ℕ) → (m == n) ≡ true → m ≡ n
eqb_true m n is = grind (arith, nat_tests)

pub is_some_within : {X : Type 0} (xs : List X) (i : ℕ) → i < length xs → IsSome (slice_get xs i)
is_some_within [] i within = absurd (omega arith)
is_some_within (x ∷ xs) zero within = refl
is_some_within (x ∷ xs) (suc i) within = is_some_within xs i (omega arith)

element_within : (array : Bool) (element : Option ℕ) (e : ℕ) → element_named array element ≡ Some e → e < room_of array
element_within true None e is = let zero_is : 0 ≡ e = cc in omega arith
element_within true (Some n) e is = by (nat_le n LAST_ELEMENT) refl is
  where
    by : (b : Bool) → nat_le n LAST_ELEMENT ≡ b → (if b then Some n else None) ≡ Some e → e < ELEMENT_LIMIT
    by true test is = let same_number : n ≡ e = cc in grind (arith, nat_tests)
    by false test is = absurd (cc)
element_within false None e is = let zero_is : 0 ≡ e = cc in omega arith
element_within false (Some n) e is = absurd (cc)

-- An element that a name led to.
pub record IsThere (ports : List DraftPort) (process : ℕ) (input : Bool) (end : End) : Type 0 where
  pub bound : IsSome (binding_at ports end)
  pub side : is_input_at ports end ≡ Some input
  pub owner : process_at ports end ≡ process

-- A port that was found by its name is there, on the asked side of the asked process.
pub IsThere-named : (ports : List DraftPort) (n process : ℕ) (input : Bool) (port : PortRef) (end : End) → ((g : ℕ) (p : DraftPort) → slice_get ports g ≡ Some p → IsPort n p) → end_named ports process input port ≡ Some end → IsThere ports process input end
IsThere-named ports n process input port end all is =
    let place = then_some (end_at ports port.element) (port_named ports process input port.name) end is in
    let found = then_some (λ (p : DraftPort). option_map (λ e. let at : End = record { port = place.0; element = e } in at) (element_named p.spec.array port.element)) (slice_get ports place.0) end place.2 in
    let element = map_some (λ e. let at : End = record { port = place.0; element = e } in at) (element_named found.0.spec.array port.element) end found.2 in
    at place.0 found.0 element.0 found.1 element.1 element.2 (position-Some (λ (p : DraftPort). is_side process input p && bytes_eq p.spec.name port.name) ports place.0 found.0 place.1).1
  where
    at : (g : ℕ) (p : DraftPort) (e : ℕ) → slice_get ports g ≡ Some p → element_named p.spec.array port.element ≡ Some e → ◌≡◌ {A = End} (record { port = g; element = e }) end → (is_side process input (get_or ports g p) && bytes_eq (get_or ports g p).spec.name port.name) ≡ true → IsThere ports process input end
    at g p e here named whole test =
        let here_is : get_or ports g p ≡ p = get_or_from_slice_get ports g p p here in
        let passed : (is_side process input p && bytes_eq p.spec.name port.name) ≡ true = subst (λ (q : DraftPort). (is_side process input q && bytes_eq q.spec.name port.name) ≡ true) here_is test in
        let sided = and_true (p.process == process) (same p.input input) (and_true (is_side process input p) (bytes_eq p.spec.name port.name) passed).0 in
        let within : e < length p.elements = subst (λ (k : ℕ). e < k) (sym ((all g p here).room)) (element_within p.spec.array port.element e named) in
        subst (IsThere ports process input) whole
        (record {
          bound = subst (λ (o : Option DraftPort). IsSome (option_and_then (λ (q : DraftPort). slice_get q.elements e) o)) (sym here) (is_some_within p.elements e within);
          side = ap (option_map (λ (q : DraftPort). q.input)) here ∙ ap Some (same_true p.input input sided.1);
          owner = ap (λ (o : Option DraftPort). option_map_or (λ (q : DraftPort). q.process) o 0) here ∙ eqb_true p.process process sided.0;
        })

-- What was found instead of a fault was there.
pub ok_or_ok : {A : Type 0} (o : Option A) (fault : PlanFault) (x : A) → ok_or o fault ≡ Ok x → o ≡ Some x
ok_or_ok None fault x is = absurd (cc)
ok_or_ok (Some y) fault x is = let inner : y ≡ x = cc in ap Some inner

-- Both ends of a connection are there.
pub record AreThere (ports : List DraftPort) (ends : End × End) : Type 0 where
  pub sender : ℕ
  pub receiver : ℕ
  pub output : IsThere ports sender false ends.0
  pub input : IsThere ports receiver true ends.1

-- Both ends of a connection that could be named are there.
pub AreThere-ends : (processes : List DraftProcess) (ports : List DraftPort) (n : ℕ) (from : List ℕ) (out : PortRef) (to : List ℕ) (into : PortRef) (ends : End × End) → ((g : ℕ) (p : DraftPort) → slice_get ports g ≡ Some p → IsPort n p) → ends_of processes ports from out to into ≡ Ok ends → AreThere ports ends
AreThere-ends processes ports n from out to into ends all is =
    let sender = bind_ok (process_of_name processes from) _ ends is in
    let receiver = bind_ok (process_of_name processes to) _ ends sender.2 in
    let output = bind_ok (end_of_port ports sender.0 false from out) _ ends receiver.2 in
    let input = bind_ok (end_of_port ports receiver.0 true to into) _ ends output.2 in
    let pair : ◌≡◌ {A = End × End} (output.0, input.0) ends = cc (input.2) in
    subst (AreThere ports) pair
    (record {
      sender = sender.0;
      receiver = receiver.0;
      output = IsThere-named ports n sender.0 false out output.0 all (ok_or_ok _ _ output.0 output.1);
      input = IsThere-named ports n receiver.0 true into input.0 all (ok_or_ok _ _ input.0 input.1);
    })

-- What holds of two ends that may be joined.
pub record MayJoin (ports : List DraftPort) (links : List Link) (capacity : Option ℕ) (output input : End) : Type 0 where
  pub stream : is_stream_at ports input ≡ true
  pub allowed : (n : ℕ) → capacity ≡ Some n → (1 ≤ n) × (n ≤ CAPACITY_LIMIT)
  pub free : is_taken (binding_at ports output) ≡ false
  pub ungiven : has_text (binding_at ports input) ≡ false
  pub room : is_full links (link_into ports input) ≡ false

-- What isn't false is true.
pub if_true : (b : Bool) → (if b then false else true) ≡ false → b ≡ true
if_true true is = refl
if_true false is = absurd (false≢true (sym is))

allowed_ok : (capacity : Option ℕ) (u : Unit {0}) → allowed_capacity capacity ≡ Ok u → (n : ℕ) → capacity ≡ Some n → (1 ≤ n) × (n ≤ CAPACITY_LIMIT)
allowed_ok None u is n some = absurd (cc)
allowed_ok (Some m) u is n some =
    let both = and_true (nat_le 1 m) (nat_le m CAPACITY_LIMIT) (if_true (nat_le 1 m && nat_le m CAPACITY_LIMIT) (refused_ok _ _ u is)) in
    let number : m ≡ n = cc in
    subst (λ (k : ℕ). (1 ≤ k) × (k ≤ CAPACITY_LIMIT)) number (grind (arith, nat_tests, both.0), grind (arith, nat_tests, both.1))

-- Where no refusal was met, the two ports may be joined.
pub MayJoin-ok : (ports : List DraftPort) (links : List Link) (from : List ℕ) (out : PortRef) (to : List ℕ) (into : PortRef) (capacity : Option ℕ) (output input : End) (u : Unit {0}) → may_join ports links from out to into capacity output input ≡ Ok u → MayJoin ports links capacity output input
MayJoin-ok ports links from out to into capacity output input u is =
    let stream = bind_ok (refused_if (if is_stream_at ports input then false else true) _) _ u is in
    let allowed = bind_ok (allowed_capacity capacity) _ u stream.2 in
    let unbound = bind_ok (refused_if (is_taken (binding_at ports output)) _) _ u allowed.2 in
    let ungiven = bind_ok (refused_if (has_text (binding_at ports input)) _) _ u unbound.2 in
    let agreed = bind_ok (same_capacity (capacity_before links (link_into ports input)) capacity) _ u ungiven.2 in
    record {
      stream = if_true (is_stream_at ports input) (refused_ok _ _ stream.0 stream.1);
      allowed = allowed_ok capacity allowed.0 allowed.1;
      free = refused_ok _ _ unbound.0 unbound.1;
      ungiven = refused_ok _ _ ungiven.0 ungiven.1;
      room = refused_ok _ _ u agreed.2;
    }

-- an element that is there and is not taken is free
pub free_at : (ports : List DraftPort) (end : End) → IsSome (binding_at ports end) → is_taken (binding_at ports end) ≡ false → binding_at ports end ≡ Some Free
free_at ports end there free = by (binding_at ports end) there free
  where
    by : (o : Option Binding) → IsSome o → is_taken o ≡ false → o ≡ Some Free
    by None there free = absurd (false≢true there)
    by (Some Free) there free = refl
    by (Some (Receives c)) there free = absurd (false≢true (sym free))
    by (Some (Sends c k)) there free = absurd (false≢true (sym free))
    by (Some (Given k)) there free = absurd (false≢true (sym free))

-- The connection that was found at an input is the one that the input receives from.
pub link_into-bound : (ports : List DraftPort) (end : End) (c : ℕ) → link_into ports end ≡ Some c → binding_at ports end ≡ Some (Receives c)
link_into-bound ports end c is = by (binding_at ports end) is
  where
    by : (o : Option Binding) → option_and_then receives o ≡ Some c → o ≡ Some (Receives c)
    by None is = absurd (cc)
    by (Some Free) is = absurd (cc)
    by (Some (Receives d)) is = let number : d ≡ c = cc in ap (λ n. Some (Receives n)) number
    by (Some (Sends d k)) is = absurd (cc)
    by (Some (Given k)) is = absurd (cc)

-- an element that has no connection, no text and sends nowhere is free
pub unlinked_free : (ports : List DraftPort) (end : End) → IsSome (binding_at ports end) → link_into ports end ≡ None → has_text (binding_at ports end) ≡ false → ((c k : ℕ) → binding_at ports end ≡ Some (Sends c k) → ⊥) → binding_at ports end ≡ Some Free
unlinked_free ports end there unlinked ungiven no_sender = by (binding_at ports end) refl there unlinked ungiven
  where
    by : (o : Option Binding) → binding_at ports end ≡ o → IsSome o → option_and_then receives o ≡ None → has_text o ≡ false → o ≡ Some Free
    by None is there unlinked ungiven = absurd (false≢true there)
    by (Some Free) is there unlinked ungiven = refl
    by (Some (Receives c)) is there unlinked ungiven = absurd (cc)
    by (Some (Sends c k)) is there unlinked ungiven = absurd (no_sender c k is)
    by (Some (Given k)) is there unlinked ungiven = absurd (false≢true (sym ungiven))
