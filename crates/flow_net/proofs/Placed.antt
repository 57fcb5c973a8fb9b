-- The elements of a draft stand in its ports, which have few.
use Rattle.flow_limits.specs.declared.TheConstants.{CAPACITY_LIMIT, DEFAULT_CAPACITY, ELEMENT_LIMIT}
use Rattle.std.proofs.Common.{◌≡◌, ℕ, ◌+◌, ◌<◌, ◌≤◌, List, [], ◌∷◌, Option, Some, None, Bool, true, false, map, refl, ap, sym, ◌∙◌, subst, slice_get, length, arith}
use Rattle.std.specs.Prelude.{◌==◌, if◌then◌else◌, unwrap_or}
use Rattle.std.proofs.lemmas.Bool.Decides.{nat_tests}
use Rattle.std.proofs.lemmas.Option.{slice_get_within, slice_get-map}
use Rattle.flow_net.specs.declared.draft.End.{End}
use Rattle.flow_net.specs.declared.draft.DraftPort.{DraftPort}
use Rattle.flow_net.specs.declared.draft.Link.{Link}
use Rattle.flow_net.specs.declared.draft.Binding.{Binding}
use Rattle.flow_net.specs.declared.draft.Binding.TheVariants.{Receives, Sends, Given}
use Rattle.flow_plan.specs.Network.{is_stream}
use Rattle.flow_net.specs.Drafts.{Draft, binding_at, is_free}
use Rattle.flow_net.specs.Calls.{room_of}
use Rattle.flow_net.specs.Sound.{IsSound, IsPort, IsLink, IsPlaced, into_of, sender_at, text_at}
use Rattle.flow_net.specs.Finishes.{size_of, count_of, capacity_of}
use Rattle.flow_net.proofs.Steps.{map_some, then_some}

-- A port has at most as many bound elements as it has elements.
pub size_of-within : (xs : List Binding) → size_of xs ≤ length xs
size_of-within [] = omega arith
size_of-within (x ∷ xs) = by (size_of xs) (is_free x) (size_of-within xs)
  where
    by : (n : ℕ) (free : Bool) → n ≤ length xs → (if n == 0 then (if free then 0 else 1) else n + 1) ≤ length (x ∷ xs)
    by n true le = grind (arith, nat_tests, le)
    by n false le = grind (arith, nat_tests, le)

pub room_of-few : (array : Bool) → room_of array ≤ ELEMENT_LIMIT
room_of-few true = omega arith
room_of-few false = omega arith

pub count_of-few : (port : DraftPort) → length port.elements ≤ ELEMENT_LIMIT → count_of port ≤ ELEMENT_LIMIT
count_of-few port few = by (is_stream port.spec.class) port.spec.array
  where
    by : (stream array : Bool) → (if stream then (if array then size_of port.elements else 1) else 0) ≤ ELEMENT_LIMIT
    by true true = omega (arith, size_of-within port.elements, few)
    by true false = omega arith
    by false array = omega arith

pub elements-few : (n : ℕ) (ports : List DraftPort) → ((g : ℕ) (p : DraftPort) → slice_get ports g ≡ Some p → IsPort n p) → (g : ℕ) (p : DraftPort) → slice_get ports g ≡ Some p → length p.elements ≤ ELEMENT_LIMIT
elements-few n ports all g p is = omega (arith, (all g p is).room, room_of-few p.spec.array)

-- No port has more elements than the limit.
pub counts-few : (n : ℕ) (ports : List DraftPort) (counts : List ℕ) → ((g : ℕ) (p : DraftPort) → slice_get ports g ≡ Some p → IsPort n p) → counts ≡ map count_of ports → (g m : ℕ) → slice_get counts g ≡ Some m → m ≤ ELEMENT_LIMIT
counts-few n ports counts all are g m is =
    let found = map_some count_of (slice_get ports g) m (sym (slice_get-map count_of ports g) ∙ ap (λ (xs : List ℕ). slice_get xs g) (sym are) ∙ is) in
    subst (λ (k : ℕ). k ≤ ELEMENT_LIMIT) found.2 (count_of-few found.0 (elements-few n ports all g found.0 found.1))

pub IsPlaced-bound : (n : ℕ) (ports : List DraftPort) (end : End) (b : Binding) → ((g : ℕ) (p : DraftPort) → slice_get ports g ≡ Some p → IsPort n p) → binding_at ports end ≡ Some b → IsPlaced ports end
IsPlaced-bound n ports end b all is =
    let found = then_some (λ (p : DraftPort). slice_get p.elements end.element) (slice_get ports end.port) b is in
    let within : end.element < length found.0.elements = slice_get_within found.0.elements end.element b found.2 in
    record {
      port = slice_get_within ports end.port found.0 found.1;
      element = omega (arith, within, elements-few n ports all end.port found.0 found.1);
    }

-- The capacity of a connection is at least one and at most the limit.
pub capacity_of-small : (link : Link) → IsLink link → (1 ≤ capacity_of link) × (capacity_of link ≤ CAPACITY_LIMIT)
capacity_of-small link is = by link.capacity is.capacity
  where
    by : (o : Option ℕ) → ((n : ℕ) → o ≡ Some n → (1 ≤ n) × (n ≤ CAPACITY_LIMIT)) → (1 ≤ unwrap_or o DEFAULT_CAPACITY) × (unwrap_or o DEFAULT_CAPACITY ≤ CAPACITY_LIMIT)
    by None bounds = (omega arith, omega arith)
    by (Some n) bounds = bounds n refl

-- the elements that a sound draft names stand in its ports
pub into-placed : (draft : Draft) → IsSound draft → (c : ℕ) (end : End) → into_of draft.links c ≡ Some end → IsPlaced draft.ports end
into-placed draft sound c end is = IsPlaced-bound (length draft.processes) draft.ports end (Receives c) sound.ports (sound.listed.received end c is)

-- Each sender of a connection of a sound draft is a port of it.
pub sender-placed : (draft : Draft) → IsSound draft → (c k : ℕ) (end : End) → sender_at draft.links c k ≡ Some end → IsPlaced draft.ports end
sender-placed draft sound c k end is = IsPlaced-bound (length draft.processes) draft.ports end (Sends c k) sound.ports (sound.listed.sent end c k is)

-- Each text of a sound draft is given to a port of it.
pub text-placed : (draft : Draft) → IsSound draft → (p k : ℕ) (end : End) (text : List ℕ) → text_at draft.processes p k ≡ Some (end, text) → IsPlaced draft.ports end
text-placed draft sound p k end text is = IsPlaced-bound (length draft.processes) draft.ports end (Given k) sound.ports (sound.listed.given p k end text is).0
