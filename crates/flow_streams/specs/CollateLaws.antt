-- Collate keeps the laws of components.
use Rattle.std.proofs.Common.{◌≡◌, ℕ, ◌+◌, ◌-◌, ◌<◌, ◌≤◌, ◌==◌, zero, suc, Bool, true, false, List, [], ◌∷◌, ◌++◌, length, refl, sym, ap, ◌∙◌, subst, arith, if◌then◌else◌, nat_lt, Option, Some, None, IsSome, length-append}
use Rattle.std.specs.Prelude.{slice_index, remove, take}
use Rattle.std.specs.Str.{bytes_eq}
use Rattle.std.proofs.lemmas.Bool.Decides.{nat_tests}
use Rattle.std.proofs.lemmas.List.{nil_from_length}
use Rattle.flow_packet.specs.declared.packet.Kind.{Kind}
use Rattle.flow_packet.specs.declared.packet.Kind.TheVariants.{Normal, Open, Close}
use Rattle.flow_packet.specs.Tree.{Tree, id_of, text_of, packet_of}
use Rattle.flow_packet.specs.Hands.{IsAtRoot, kind_at, packet_at, has_id}
use Rattle.flow_packet.specs.Held.{Held, Sound, next_id, with_made, with_packet, without_packet}
use Rattle.flow_component.specs.declared.Answer.{Answer}
use Rattle.flow_component.specs.declared.Answer.TheVariants as answers
use Rattle.flow_component.specs.declared.Wish.TheVariants.{Deactivate}
use Rattle.flow_component.specs.Laws.{Lawful, Outcome, Wishes, Obeys, StaysReady, component_after}
use Rattle.flow_component.specs.Ports.{uses_first}
use Rattle.flow_component.proofs.Roots.{same_id, IsAtRoot-last, IsAtRoot-made}
use Rattle.flow_component.proofs.Comings.{comes_same, comes_made}
use Rattle.flow_component.proofs.Several.{Sound-new, made-left, length-without}
use Rattle.flow_streams.specs.declared.collate.CollatePlace.{CollatePlace}
use Rattle.flow_streams.specs.declared.collate.CollatePlace.TheVariants.{Filling, Refilling, Turning, Leaving}
use Rattle.flow_streams.specs.CollateState.{CollateState}
use Rattle.flow_streams.specs.Collation.{width, key, packet_there, goes_before, or_later, first_of, levels_from, levels_that_differ}
use Rattle.flow_streams.specs.Collate.{receive_from, element_of, whole, sends_bracket, sends_packet, turns, opening, closing, turns_to, leaves, chosen, chooses, goes_on, comes, sent_on, collate_next, collate_shape, AreInputs, Keeps, IsReceiving, IsReadyOn, CollateReady, collate_rules}

-- lists of inputs
pub inputs-push : (n : ℕ) (es : List ℕ) (e : ℕ) → AreInputs n es → e < n → AreInputs n (es ++ e ∷ [])
inputs-push n [] e a l = (l, tt)
inputs-push n (f ∷ es) e a l = (a.0, inputs-push n es e a.1 l)

-- Elements that are inputs stay so when one is removed.
pub inputs-remove : (n : ℕ) (es : List ℕ) (i : ℕ) → AreInputs n es → AreInputs n (remove es i)
inputs-remove n [] zero a = tt
inputs-remove n [] (suc i) a = tt
inputs-remove n (f ∷ es) zero a = a.1
inputs-remove n (f ∷ es) (suc i) a = (a.0, inputs-remove n es i a.1)

-- Each of the elements is an input.
pub inputs-at : (n : ℕ) (es : List ℕ) (i : ℕ) → AreInputs n es → i < length es → slice_index es i < n
inputs-at n [] i a l = absurd (omega arith)
inputs-at n (f ∷ es) zero a l = a.0
inputs-at n (f ∷ es) (suc i) a l = inputs-at n es i a.1 (omega arith)

-- A list with one member removed is one shorter.
pub length-remove : {X : Type 0} (es : List X) (i : ℕ) → i < length es → length (remove es i) + 1 ≡ length es
length-remove [] i l = absurd (omega arith)
length-remove (f ∷ es) zero l = omega arith
length-remove (f ∷ es) (suc i) l = omega (arith, length-remove es i (let m : i < length es = omega arith in m))

at-root : (t : Tree) (ts : List Tree) (id : ℕ) (b : Bool) → IsAtRoot ts id → IsSome (if b then Some t else packet_at ts id)
at-root t ts id true at = refl
at-root t ts id false at = at

-- the packet at a place is at the root
pub IsAtRoot-there : (ts : List Tree) (i : ℕ) → i < length ts → IsAtRoot ts (id_of (packet_there ts i))
IsAtRoot-there [] i l = absurd (omega arith)
IsAtRoot-there (t ∷ ts) zero l = let s = same_id (id_of t) in rw s refl
IsAtRoot-there (t ∷ ts) (suc i) l = at-root t ts (id_of (packet_there ts i)) (has_id (id_of (packet_there ts i)) t) (IsAtRoot-there ts i (omega arith))

-- the packet that goes first
later-some : (bytes e : ℕ) (t : Tree) (es : List ℕ) (ts : List Tree) (o : Option ℕ) → or_later bytes e t es ts o ≡ None → ⊥
later-some bytes e t es ts None h = cc
later-some bytes e t es ts (Some place) h = elim (goes_before bytes (slice_index es place) (packet_there ts place) e t) as (λ b. (if b then Some (place + 1) else Some 0) ≡ None → ⊥) [ true ↦ (λ h. cc) | false ↦ (λ h. cc) ] h

-- Where there is no first packet, no element has one.
pub first-none : (bytes : ℕ) (es : List ℕ) (ts : List Tree) → length es ≡ length ts → first_of bytes es ts ≡ None → es ≡ []
first-none bytes [] ts e h = refl
first-none bytes (x ∷ es) [] e h = absurd (omega arith)
first-none bytes (x ∷ es) (t ∷ ts) e h = absurd (later-some bytes x t es ts (first_of bytes es ts) h)

later-within : (bytes e : ℕ) (t : Tree) (es : List ℕ) (ts : List Tree) (o : Option ℕ) (place n : ℕ) → or_later bytes e t es ts o ≡ Some place → ((i : ℕ) → o ≡ Some i → i < n) → place < n + 1
later-within bytes e t es ts None place n h w = let z : Some 0 ≡ Some place = h in let y : 0 ≡ place = cc in omega arith
later-within bytes e t es ts (Some i) place n h w =
    let l : i < n = w i refl in
    elim (goes_before bytes (slice_index es i) (packet_there ts i) e t) as (λ b. (if b then Some (i + 1) else Some 0) ≡ Some place → place < n + 1) [ true ↦ (λ (h : Some (i + 1) ≡ Some place). let y : i + 1 ≡ place = cc in omega arith) | false ↦ (λ (h : Some 0 ≡ Some place). let y : 0 ≡ place = cc in omega arith) ] h

-- The place of the first packet lies among the places.
pub first-within : (bytes : ℕ) (es : List ℕ) (ts : List Tree) (place : ℕ) → first_of bytes es ts ≡ Some place → place < length es
first-within bytes [] ts place h = absurd (let z : None ≡ Some place = h in cc)
first-within bytes (x ∷ es) [] place h = absurd (let z : None ≡ Some place = h in cc)
first-within bytes (x ∷ es) (t ∷ ts) place h = let l = later-within bytes x t es ts (first_of bytes es ts) place (length es) h (λ i e. first-within bytes es ts i e) in omega arith

levels-most-from : (before : ℕ) (fields old new : List ℕ) → levels_from before fields old new ≤ length fields
levels-most-from before [] old new = omega arith
levels-most-from before (field ∷ fields) old new =
    elim (bytes_eq (take (before + field) old) (take (before + field) new)) as (λ b. (if b then levels_from (before + field) fields old new else length (field ∷ fields)) ≤ length (field ∷ fields)) [ true ↦ omega (arith, levels-most-from (before + field) fields old new) | false ↦ omega arith ]

opening-most : (state : CollateState) (packet : Tree) → opening state packet ≤ length state.fields
opening-most state packet =
    elim state.opened as (λ b. (if b then levels_that_differ state.fields state.last (text_of packet) else length state.fields) ≤ length state.fields) [ true ↦ levels-most-from 0 state.fields state.last (text_of packet) | false ↦ omega arith ]

-- the work from these hands leads to a lawful outcome
abbrev IsLawful : ℕ → Held → Outcome CollateState → Type 0
IsLawful elements held outcome = Obeys (record { inputs = elements; outputs = 1 }) uses_first held outcome × StaysReady collate_rules outcome

keeps : (elements : ℕ) (owners : List ℕ) (old new : Held) → Keeps elements owners old → Sound new → Keeps elements owners new
keeps elements owners old new k s = record { new = Sound-new new s; inputs = k.inputs; some = k.some; most = k.most }

came : (owners : List ℕ) (ts : List Tree) (t : Tree) → length owners ≡ length ts → length owners + 1 ≡ length (ts ++ t ∷ [])
came owners ts t e = omega (arith, length-append ts (t ∷ []))

receives : (state : CollateState) (held : Held) (e : ℕ) → Keeps state.elements state.owners held → length state.owners ≡ length held.packets → IsReceiving state state.place → e < state.elements → IsLawful state.elements held (Wishes state held (receive_from e))
receives state held e k same r l = (
  (comes_same held, l),
  (
    (λ s. (k, r, same)),
    (λ t s. (keeps state.elements state.owners held (with_packet held t) k s, r, came state.owners held.packets t same, IsAtRoot-last held.packets t)),
    (λ text s. (keeps state.elements state.owners held (with_made held Normal text) k s, r, came state.owners held.packets (packet_of (next_id held) Normal text []) same, IsAtRoot-last held.packets (packet_of (next_id held) Normal text []))),
  ),
)

bracket : (state : CollateState) (held : Held) (place : CollatePlace) (kind : Kind) (text : List ℕ) → Keeps state.elements state.owners held → length state.owners ≡ length held.packets → length state.owners ≤ state.elements
    → IsReadyOn (record state { place = place }) place → IsLawful state.elements held (sends_bracket state held place kind text)
bracket state held place kind text k same few r =
    let new = with_made held kind text in (
      (comes_made held kind text (omega (arith, k.most)), (refl, IsAtRoot-made held kind text)),
      λ s. (keeps state.elements state.owners held (without_packet new (next_id held)) k s, r, same ∙ ap length (sym (made-left held kind text k.new))),
    )

packet : (state : CollateState) (held : Held) (i : ℕ) → Keeps state.elements state.owners held → length state.owners ≡ length held.packets → length state.owners ≤ state.elements → i < length state.owners → IsLawful state.elements held (sends_packet state held i)
packet state held i k same few l =
    let id = id_of (packet_there held.packets i) in
    let at : IsAtRoot held.packets id = IsAtRoot-there held.packets i (omega arith) in
    let gone = length-without held.packets id at in
    let less = length-remove state.owners i l in (
      (comes_same held, (refl, at)),
      λ s. (
        record { new = Sound-new (without_packet held id) s; inputs = inputs-remove state.elements state.owners i k.inputs; some = k.some; most = k.most },
        (inputs-at state.elements state.owners i k.inputs l, omega arith),
        omega arith,
      ),
    )

turned : (state : CollateState) (held : Held) (closes opens i : ℕ) → Keeps state.elements state.owners held → length state.owners ≡ length held.packets → length state.owners ≤ state.elements → i < length state.owners → opens ≤ length state.fields
    → IsLawful state.elements held (turns state held closes opens i)
turned state held closes opens i k same few l most =
    elim (closes == 0) as (λ b. IsLawful state.elements held (if b then (if opens == 0 then sends_packet state held i
    else sends_bracket state held (Turning 0 (opens - 1) i) Open (take (width state.fields (length state.fields - (opens - 1))) state.last))
    else sends_bracket state held (Turning (closes - 1) opens i) Close [])) [
      | true ↦ elim (opens == 0) as (λ b. IsLawful state.elements held (if b then sends_packet state held i
          else sends_bracket state held (Turning 0 (opens - 1) i) Open (take (width state.fields (length state.fields - (opens - 1))) state.last))) [
            | true ↦ packet state held i k same few l
            | false ↦ bracket state held (Turning 0 (opens - 1) i) Open (take (width state.fields (length state.fields - (opens - 1))) state.last) k same few (l, omega arith, few)
          ]
      | false ↦ bracket state held (Turning (closes - 1) opens i) Close [] k same few (l, most, few)
    ]

turned_to : (state : CollateState) (held : Held) (i opens : ℕ) → Keeps state.elements state.owners held → length state.owners ≡ length held.packets → length state.owners ≤ state.elements → i < length state.owners → opens ≤ length state.fields
    → IsLawful state.elements held (turns_to state held i opens)
turned_to state held i opens k same few l most =
    elim (opens == 0) as (λ b. IsLawful state.elements held (if b then sends_packet state held i
    else turns (record state { opened = true; last = key (whole state) (packet_there held.packets i) }) held (closing state opens) opens i)) [
      | true ↦ packet state held i k same few l
      | false ↦ turned (record state { opened = true; last = key (whole state) (packet_there held.packets i) }) held (closing state opens) opens i k same few l most
    ]

left : (state : CollateState) (held : Held) (closes : ℕ) → Keeps state.elements state.owners held → length state.owners ≡ length held.packets → state.owners ≡ [] → IsLawful state.elements held (leaves state held closes)
left state held closes k same none =
    let len : length state.owners ≡ 0 = ap length none in
    elim (closes == 0) as (λ b. IsLawful state.elements held (if b then Wishes (record state { opened = false; place = Filling 0 }) held Deactivate else sends_bracket state held (Leaving (closes - 1)) Close [])) [
      | true ↦ ((comes_same held, tt), λ s. (k, record { place = refl; owners = none; opened = refl }, nil_from_length held.packets (omega arith)))
      | false ↦ bracket state held (Leaving (closes - 1)) Close [] k same (omega (arith, k.some)) none
    ]

chose : (state : CollateState) (held : Held) (o : Option ℕ) → Keeps state.elements state.owners held → length state.owners ≡ length held.packets → length state.owners ≤ state.elements
    → (o ≡ None → state.owners ≡ []) → ((i : ℕ) → o ≡ Some i → i < length state.owners) → IsLawful state.elements held (chosen state held o)
chose state held None k same few none some = left state held (closing state (length state.fields)) k same (none refl)
chose state held (Some i) k same few none some = turned_to state held i (opening state (packet_there held.packets i)) k same few (some i refl) (opening-most state (packet_there held.packets i))

choice : (state : CollateState) (held : Held) → Keeps state.elements state.owners held → length state.owners ≡ length held.packets → length state.owners ≤ state.elements → IsLawful state.elements held (chooses state held)
choice state held k same few =
    chose state held (first_of (whole state) state.owners held.packets) k same few (λ h. first-none (whole state) state.owners held.packets same h) (λ i h. first-within (whole state) state.owners held.packets i h)

module _ (state : CollateState) (held : Held) (k : Keeps state.elements state.owners held) (same : length state.owners ≡ length held.packets) (few : length state.owners ≤ state.elements) where
  next_input : (e : ℕ) → length state.owners ≤ e + 1 → (b : Bool) → nat_lt (e + 1) state.elements ≡ b
      → IsLawful state.elements held (if b then Wishes (record state { place = Filling (e + 1) }) held (receive_from (e + 1)) else chooses state held)
  next_input e most true t = let l : e + 1 < state.elements = grind (arith, nat_tests) in receives (record state { place = Filling (e + 1) }) held (e + 1) k same (l, most) l
  next_input e most false t = choice state held k same few

  went_on : (place : CollatePlace) → ((e : ℕ) → place ≡ Filling e → length state.owners ≤ e + 1) → IsLawful state.elements held (goes_on state held place)
  went_on (Filling e) most = next_input e (most e refl) (nat_lt (e + 1) state.elements) refl
  went_on (Refilling e) most = choice state held k same few
  went_on (Turning closes opens place) most = choice state held k same few
  went_on (Leaving closes) most = choice state held k same few

receiving-below : (state : CollateState) (place : CollatePlace) → IsReceiving state place → element_of place < state.elements
receiving-below state (Filling e) r = r.0
receiving-below state (Refilling e) r = r.0
receiving-below state (Turning closes opens place) r = absurd r
receiving-below state (Leaving closes) r = absurd r

receiving-fewer : (state : CollateState) (place : CollatePlace) → IsReceiving state place → length state.owners < state.elements
receiving-fewer state (Filling e) r = omega (arith, r.0, r.1)
receiving-fewer state (Refilling e) r = r.1
receiving-fewer state (Turning closes opens place) r = absurd r
receiving-fewer state (Leaving closes) r = absurd r

filling-most : (state : CollateState) (place : CollatePlace) (e : ℕ) → IsReceiving state place → place ≡ Filling e → length state.owners ≤ e
filling-most state (Filling f) e r is = let same : f ≡ e = cc in omega (arith, r.1)
filling-most state (Refilling f) e r is = absurd (cc)
filling-most state (Turning closes opens place) e r is = absurd r
filling-most state (Leaving closes) e r is = absurd r

came_here : (state : CollateState) (held : Held) (kind : Kind) → Keeps state.elements state.owners held → IsReceiving state state.place → length state.owners + 1 ≡ length held.packets → IsLawful state.elements held (comes state held kind)
came_here state held Normal k r same =
    let e = element_of state.place in
    let below = receiving-below state state.place r in
    let fewer = receiving-fewer state state.place r in
    let more = length-append state.owners (e ∷ []) in
    went_on (record state { owners = state.owners ++ e ∷ [] }) held (record { new = k.new; inputs = inputs-push state.elements state.owners e k.inputs below; some = k.some; most = k.most })
    (omega arith) (omega arith) state.place (λ f is. let m = filling-most state state.place f r is in omega arith)
came_here state held Open k r same = ((comes_same held, receiving-below state state.place r), tt)
came_here state held Close k r same = ((comes_same held, receiving-below state state.place r), tt)

was_sent : (state : CollateState) (held : Held) (place : CollatePlace) → state.place ≡ place → Keeps state.elements state.owners held → IsReadyOn state place → length state.owners ≡ length held.packets → IsLawful state.elements held (sent_on state held place)
was_sent state held (Filling e) is k r same = absurd r
was_sent state held (Refilling e) is k r same = receives state held e k same (rw is r) r.0
was_sent state held (Turning closes opens place) is k r same = turned state held closes opens place k same r.2 r.0 r.1
was_sent state held (Leaving closes) is k r same = left state held closes k same r

lawful : (state : CollateState) (held : Held) (answer : Answer) → CollateReady state held answer → IsLawful state.elements held (collate_next state held answer)
lawful state held answers.Start r =
    let f = r.1 in
    let none = ap length f.owners in
    let len = ap length r.2 in
    let k = r.0 in
    receives state held (element_of state.place) k (omega arith) (rw f.place (omega (arith, k.some), omega arith)) (rw f.place (omega (arith, k.some)))
lawful state held (answers.Got id) r = came_here state held (kind_at held.packets id) r.0 r.1 r.2
lawful state held answers.End r = went_on state held r.0 r.2 (let l = receiving-fewer state state.place r.1 in omega arith) state.place (λ e is. let m = filling-most state state.place e r.1 is in omega arith)
lawful state held answers.Sent r = was_sent state held state.place refl r.0 r.1 r.2
lawful state held (answers.Level n) r = absurd r

-- the number of inputs never changes
abbrev Elements : ℕ → Outcome CollateState → Type 0
Elements n outcome = (component_after outcome).elements ≡ n

turns-elements : (state : CollateState) (held : Held) (closes opens i : ℕ) → Elements state.elements (turns state held closes opens i)
turns-elements state held closes opens i =
    elim (closes == 0) as (λ b. Elements state.elements (if b then (if opens == 0 then sends_packet state held i
    else sends_bracket state held (Turning 0 (opens - 1) i) Open (take (width state.fields (length state.fields - (opens - 1))) state.last))
    else sends_bracket state held (Turning (closes - 1) opens i) Close [])) [
      | true ↦ elim (opens == 0) as (λ b. Elements state.elements (if b then sends_packet state held i
          else sends_bracket state held (Turning 0 (opens - 1) i) Open (take (width state.fields (length state.fields - (opens - 1))) state.last))) [ true ↦ refl | false ↦ refl ]
      | false ↦ refl
    ]

turns_to-elements : (state : CollateState) (held : Held) (i opens : ℕ) → Elements state.elements (turns_to state held i opens)
turns_to-elements state held i opens =
    elim (opens == 0) as (λ b. Elements state.elements (if b then sends_packet state held i
    else turns (record state { opened = true; last = key (whole state) (packet_there held.packets i) }) held (closing state opens) opens i)) [
      | true ↦ refl
      | false ↦ turns-elements (record state { opened = true; last = key (whole state) (packet_there held.packets i) }) held (closing state opens) opens i
    ]

leaves-elements : (state : CollateState) (held : Held) (closes : ℕ) → Elements state.elements (leaves state held closes)
leaves-elements state held closes =
    elim (closes == 0) as (λ b. Elements state.elements (if b then Wishes (record state { opened = false; place = Filling 0 }) held Deactivate else sends_bracket state held (Leaving (closes - 1)) Close [])) [ true ↦ refl | false ↦ refl ]

chosen-elements : (state : CollateState) (held : Held) (o : Option ℕ) → Elements state.elements (chosen state held o)
chosen-elements state held None = leaves-elements state held (closing state (length state.fields))
chosen-elements state held (Some i) = turns_to-elements state held i (opening state (packet_there held.packets i))

goes_on-elements : (state : CollateState) (held : Held) (place : CollatePlace) → Elements state.elements (goes_on state held place)
goes_on-elements state held (Filling e) =
    elim (nat_lt (e + 1) state.elements) as (λ b. Elements state.elements (if b then Wishes (record state { place = Filling (e + 1) }) held (receive_from (e + 1)) else chooses state held)) [
      | true ↦ refl
      | false ↦ chosen-elements state held (first_of (whole state) state.owners held.packets)
    ]
goes_on-elements state held (Refilling e) = chosen-elements state held (first_of (whole state) state.owners held.packets)
goes_on-elements state held (Turning closes opens place) = chosen-elements state held (first_of (whole state) state.owners held.packets)
goes_on-elements state held (Leaving closes) = chosen-elements state held (first_of (whole state) state.owners held.packets)

comes-elements : (state : CollateState) (held : Held) (kind : Kind) → Elements state.elements (comes state held kind)
comes-elements state held Normal = goes_on-elements (record state { owners = state.owners ++ element_of state.place ∷ [] }) held state.place
comes-elements state held Open = refl
comes-elements state held Close = refl

sent_on-elements : (state : CollateState) (held : Held) (place : CollatePlace) → Elements state.elements (sent_on state held place)
sent_on-elements state held (Filling e) = refl
sent_on-elements state held (Refilling e) = refl
sent_on-elements state held (Turning closes opens place) = turns-elements state held closes opens place
sent_on-elements state held (Leaving closes) = leaves-elements state held closes

next-elements : (state : CollateState) (held : Held) (answer : Answer) → Elements state.elements (collate_next state held answer)
next-elements state held answers.Start = refl
next-elements state held (answers.Got id) = comes-elements state held (kind_at held.packets id)
next-elements state held answers.End = goes_on-elements state held state.place
next-elements state held answers.Sent = sent_on-elements state held state.place
next-elements state held (answers.Level n) = refl

-- It keeps the laws of components.
pub collate_lawful : Lawful collate_rules
collate_lawful = record {
  obeys = λ state held answer outcome r is. subst (Obeys (collate_shape state) uses_first held) (sym is) (lawful state held answer r).0;
  stays_ready = λ state held answer outcome r is. subst (StaysReady collate_rules) (sym is) (lawful state held answer r).1;
  steady = λ state held answer outcome is.
      record { shape = ap (λ n. record { inputs = n; outputs = 1 }) (ap (λ (o : Outcome CollateState). (component_after o).elements) is ∙ next-elements state held answer); outputs = refl };
  has_outcome = λ component held answer _. (collate_next component held answer, refl);
}
