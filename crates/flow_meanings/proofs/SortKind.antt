-- What is known of a Sort.
use Rattle.std.proofs.Common.{◌≡◌, ◌≢◌, ℕ, ◌+◌, ◌==◌, Bool, true, false, List, [], ◌∷◌, Some, None, if◌then◌else◌, refl, sym, ap, ◌∙◌, subst, inl, inr, ◌⊎◌, arith}
use Rattle.flow_packet.specs.Tree.{Tree, id_of}
use Rattle.flow_packet.specs.Held.{Held, next_id}
use Rattle.flow_packet.specs.Hands.{kind_at, height_at, chain_of_root, attached, wrapped}
use Rattle.flow_packet.specs.declared.packet.Kind.{Kind}
use Rattle.flow_packet.specs.declared.packet.Kind.TheVariants.{Normal, Open, Close}
use Rattle.flow_component.specs.declared.Fail.TheVariants.{TreeDepth}
use Rattle.flow_component.specs.declared.Wish.TheVariants as wishes
use Rattle.flow_component.specs.Laws.{Outcome, Wishes, Fails}
use Rattle.flow_component.specs.Ports.{receive_first}
use Rattle.flow_component.specs.Happenings.{Happening}
use Rattle.flow_component.specs.Runs.{EndedRun, HeardEnd}
use Rattle.flow_streams.specs.Bundle.{items}
use Rattle.flow_sort.specs.declared.sort.SortPlace.{SortPlace}
use Rattle.flow_sort.specs.declared.sort.SortPlace.TheVariants as places
use Rattle.flow_sort.specs.Sorted.{sorted_stretches}
use Rattle.flow_sort.specs.Sort.{SortState, begins, empties, sorts, comes, goes_on, IsIdle, HasCome, HasSent, sort_rules}
use Rattle.flow_sort.specs.SortLaws.{sort_lawful}
use Rattle.flow_sort.proofs.SortStream.{sort_meaning}
use Rattle.flow_catalogue.specs.declared.standard.Std.{Std}
use Rattle.flow_catalogue.specs.declared.standard.Std.TheVariants as components
use Rattle.flow_catalogue.specs.Components.{sort_kind}
use Rattle.flow_model.specs.States.{Process}
use Rattle.flow_meanings.specs.Means.{bytes_of}
use Rattle.flow_meanings.proofs.EndHeard.{end-heard}
use Rattle.flow_meanings.proofs.LineKinds.{by-one}
use Rattle.flow_meanings.proofs.Over.{Over, Own, own, single-ends, single-texts}
use Rattle.flow_meanings.proofs.Facts.{Facts}

-- It leaves once the last stretch, which no bracket ended, was sent.

abbrev IsLeaving : SortPlace → Type 0
IsLeaving places.Idle = ⊥
IsLeaving (places.Gathering carrier) = ⊥
IsLeaving (places.Emptying carrier None) = Unit {0}
IsLeaving (places.Emptying carrier (Some bracket)) = ⊥

abbrev Leaves : SortState → Type 0
Leaves state = IsLeaving state.place

-- the outcome neither is a deactivation nor leads to one
abbrev Stays : Outcome SortState → Type 0
Stays (Wishes state held wish) = (wish ≡ wishes.Deactivate) ⊎ Leaves state → ⊥
Stays (Fails state held cause) = Unit {0}

idle-stays : (place : SortPlace) → IsIdle place → IsLeaving place → ⊥
idle-stays places.Idle i l = l
idle-stays (places.Gathering carrier) i l = i
idle-stays (places.Emptying carrier bracket) i l = i

receives-stays : (state : SortState) (held : Held) → (Leaves state → ⊥) → Stays (Wishes state held receive_first)
receives-stays state held n = λ h. elim h [ inl d ↦ absurd (cc) | inr l ↦ n l ]

empties-stays : (state : SortState) (held : Held) (carrier bracket : ℕ) (chain : List Tree) → Stays (empties state held carrier (Some bracket) chain)
empties-stays state held carrier bracket [] = λ h. elim h [ inl d ↦ absurd (cc) | inr l ↦ l ]
empties-stays state held carrier bracket (first ∷ later) = λ h. elim h [ inl d ↦ absurd (cc) | inr l ↦ l ]

begins-stays : (state : SortState) (held : Held) (id : ℕ) → Stays (begins state held id)
begins-stays state held id = by (height_at held.packets id == 16)
  where
    by : (b : Bool) → Stays (if b then Fails state held TreeDepth else Wishes (record state { place = places.Gathering (next_id held) }) (record held { made = held.made + 1; packets = wrapped held.packets (next_id held) items id }) receive_first)
    by true = tt
    by false = λ h. elim h [ inl d ↦ absurd (cc) | inr l ↦ l ]

comes-stays : (state : SortState) (held : Held) (id : ℕ) (place : SortPlace) (kind : Kind) → state.place ≡ place → HasCome held id place → Stays (comes state held id place kind)
comes-stays state held id places.Idle Normal e r = begins-stays state held id
comes-stays state held id places.Idle Open e r = λ h. elim h [ inl d ↦ absurd (cc) | inr l ↦ subst IsLeaving e l ]
comes-stays state held id places.Idle Close e r = λ h. elim h [ inl d ↦ absurd (cc) | inr l ↦ subst IsLeaving e l ]
comes-stays state held id (places.Gathering carrier) Normal e r = by (height_at held.packets id == 16)
  where
    by : (b : Bool) → Stays (if b then Fails state held TreeDepth else Wishes state (record held { packets = attached held.packets carrier items id }) receive_first)
    by true = tt
    by false = receives-stays state (record held { packets = attached held.packets carrier items id }) (λ l. subst IsLeaving e l)
comes-stays state held id (places.Gathering carrier) Open e r = empties-stays state (sorts state.bytes held carrier) carrier id (chain_of_root (sorts state.bytes held carrier).packets carrier items)
comes-stays state held id (places.Gathering carrier) Close e r = empties-stays state (sorts state.bytes held carrier) carrier id (chain_of_root (sorts state.bytes held carrier).packets carrier items)
comes-stays state held id (places.Emptying carrier bracket) kind e r = absurd r

-- what leaves now has left before
abbrev LeftBefore : SortState → Outcome SortState → Type 0
LeftBefore old (Wishes state held wish) = (wish ≡ wishes.Deactivate) ⊎ Leaves state → Leaves old
LeftBefore old (Fails state held cause) = Unit {0}

stays-before : (old : SortState) (outcome : Outcome SortState) → Stays outcome → LeftBefore old outcome
stays-before old (Wishes state held wish) n = λ h. absurd (n h)
stays-before old (Fails state held cause) n = tt

leaving-before : (state : SortState) (outcome : Outcome SortState) → Leaves state → LeftBefore state outcome
leaving-before state (Wishes next held wish) l = λ h. l
leaving-before state (Fails next held cause) l = tt

goes-before : (state : SortState) (held : Held) (place : SortPlace) → state.place ≡ place → HasSent held place → LeftBefore state (goes_on state held place)
goes-before state held places.Idle e r = λ h. elim h [ inl d ↦ absurd (cc) | inr l ↦ l ]
goes-before state held (places.Gathering carrier) e r = absurd r
goes-before state held (places.Emptying carrier None) e r = leaving-before state (goes_on state held (places.Emptying carrier None)) (subst IsLeaving (sym e) tt)
goes-before state held (places.Emptying carrier (Some bracket)) e r =
    stays-before state (empties state held carrier (Some bracket) (chain_of_root held.packets carrier items)) (empties-stays state held carrier bracket (chain_of_root held.packets carrier items))

-- A Sort that has run and ended has heard the end of its input.
sort-hears : (state : SortState) (told : List Happening) → state.place ≡ places.Idle → EndedRun sort_rules state told → told ≢ [] → HeardEnd 0 told
sort-hears state told w run some =
    end-heard sort_rules (λ _. refl) sort_lawful Leaves
    (λ p q s l. subst Stays (sym s.comes_to) (receives-stays p.component s.held (idle-stays p.component.place s.is_ready.0)) l)
    (λ p port t q s l. subst Stays (sym s.comes_to) (comes-stays p.component s.held (id_of t) p.component.place (kind_at s.held.packets (id_of t)) refl s.is_ready) l)
    (λ p port t q s l. subst (LeftBefore p.component) (sym s.comes_to) (goes-before p.component s.held p.component.place refl s.is_ready) l)
    (λ p port level q s l. s.is_ready) state told run (λ l. subst IsLeaving w l) some

sort-own : (state : SortState) (p : ℕ) (told : List Happening) (x : Process Std) → Over (components.Sort state) p told x → Own components.Sort sort_rules state told x
sort-own state p told x over = own components.Sort sort_kind (λ k. refl) state p told x over

-- The facts of Sort.
pub sort-facts : (state : SortState) → Facts (components.Sort state)
sort-facts state = record {
  means = λ p told x first over. sort_meaning state.bytes told (subst (λ (w : SortState). EndedRun sort_rules w told) first (sort-own state p told x over).run) (over.run.end_is_last 0 (single-ends x told over.run.once over.fits));
  texts = λ p told x first over some. single-texts (components.Sort state) p told x over refl some (sort-hears state told (ap (λ (w : SortState). w.place) first) (sort-own state p told x over).run some);
  change = λ w w' x x' y y' same m. sym (same.outputs 0 refl) ∙ m ∙ ap (sorted_stretches state.bytes) (same.inputs 0 (omega arith));
  wrote_none = λ p told x over none. ap bytes_of (sort-own state p told x over).is;
  settles = λ s w w' x x' y y' ins m n. by-one (sorted_stretches state.bytes) x x' y y' ins m n;
}
