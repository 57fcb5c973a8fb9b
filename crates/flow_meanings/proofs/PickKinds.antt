-- What is known of the kinds that pick: Unique, Head and Tail.
use Rattle.std.proofs.Common.{◌≡◌, ◌≢◌, ℕ, zero, suc, ◌<◌, ◌==◌, Bool, true, false, List, [], ◌∷◌, length, if◌then◌else◌, refl, sym, ap, ◌∙◌, subst, inl, inr, ◌⊎◌, arith, nat_lt}
use Rattle.flow_packet.specs.Tree.{Tree, id_of}
use Rattle.flow_packet.specs.Held.{Held, next_id}
use Rattle.flow_packet.specs.Hands.{kind_at, text_at, height_at}
use Rattle.flow_packet.specs.declared.packet.Kind.{Kind}
use Rattle.flow_packet.specs.declared.packet.Kind.TheVariants.{Normal, Open, Close}
use Rattle.flow_component.specs.declared.Fail.TheVariants.{TreeDepth}
use Rattle.flow_component.specs.declared.Wish.TheVariants as wishes
use Rattle.flow_component.specs.Laws.{Outcome, Wishes, Fails}
use Rattle.flow_component.specs.Ports.{receive_first}
use Rattle.flow_component.specs.Happenings.{Happening}
use Rattle.flow_component.specs.Runs.{EndedRun, HeardEnd}
use Rattle.flow_pick.specs.Places.{Place, picked, left_over, IsParted}
use Rattle.flow_pick.specs.Picking.{Picker, leaves, parts, meets, picker_rules}
use Rattle.flow_pick.specs.PickingLaws.{StaysConnected, picker_lawful}
use Rattle.flow_pick.specs.Unique.{UniqueState, unique_picker, unique_rules, is_new}
use Rattle.flow_pick.specs.UniqueLaws.{after-rep}
use Rattle.flow_pick.specs.Head.{HeadState, head_picker, head_rules, is_among_first}
use Rattle.flow_pick.specs.HeadLaws.{after-rest}
use Rattle.flow_pick.specs.declared.tail.TailPlace.{TailPlace}
use Rattle.flow_pick.specs.declared.tail.TailPlace.TheVariants as places
use Rattle.flow_pick.specs.TailState.{TailState}
use Rattle.flow_pick.specs.Tail.{at, held_by, carried, added, taken, trims, begins, passes, ends, takes, brackets, comes, goes_on, IsBetween, HasCome, tail_rules, is_among_last}
use Rattle.flow_pick.specs.TailLaws.{tail_lawful}
use Rattle.flow_pick.proofs.UniqueStream.{unique_meaning}
use Rattle.flow_pick.proofs.HeadStream.{head_meaning}
use Rattle.flow_pick.proofs.TailStream.{tail_meaning}
use Rattle.flow_catalogue.specs.declared.standard.Std.{Std}
use Rattle.flow_catalogue.specs.declared.standard.Std.TheVariants as components
use Rattle.flow_catalogue.specs.Components.{unique_kind, head_kind, tail_kind}
use Rattle.flow_model.specs.States.{Process}
use Rattle.flow_meanings.specs.Means.{bytes_of}
use Rattle.flow_meanings.proofs.EndHeard.{GoesOn, Never, end-heard}
use Rattle.flow_meanings.proofs.Over.{Over, Own, own, single-ends, single-texts}
use Rattle.flow_meanings.proofs.Facts.{Facts}

-- the streams that are parted, where the second output is connected or isn't
parted-change : (picks : Place → Bool) (connected : Bool) (x x' y y' z z' : List Tree) → x ≡ x' → y ≡ y' → (connected ≡ true → z ≡ z') → (z ≡ [] → z' ≡ []) → IsParted picks connected x y z → IsParted picks connected x' y' z'
parted-change picks connected x x' y y' z z' e f g h m = record {
  picks_some = sym f ∙ m.picks_some ∙ ap (picked picks) e;
  leaves_others = λ c. sym (g c) ∙ m.leaves_others c ∙ ap (left_over picks) e;
  drops_others = λ c. h (m.drops_others c);
}

left-same : (picks : Place → Bool) (connected : Bool) (x x' y y' z z' : List Tree) → IsParted picks connected x y z → IsParted picks connected x' y' z' → x ≡ x' → z ≡ z'
left-same picks true x x' y y' z z' m n e = m.leaves_others refl ∙ ap (left_over picks) e ∙ sym (n.leaves_others refl)
left-same picks false x x' y y' z z' m n e = m.drops_others refl ∙ sym (n.drops_others refl)

-- what a stream is parted into follows from it
parted-one : (picks : Place → Bool) (connected : Bool) (x x' y y' : ℕ → List Tree) → ((i : ℕ) → x i ≡ x' i) → IsParted picks connected (x 0) (y 0) (y 1) → IsParted picks connected (x' 0) (y' 0) (y' 1) → (o : ℕ) → o < 2 → y o ≡ y' o
parted-one picks connected x x' y y' ins m n zero l = m.picks_some ∙ ap (picked picks) (ins 0) ∙ sym n.picks_some
parted-one picks connected x x' y y' ins m n (suc zero) l = left-same picks connected (x 0) (x' 0) (y 0) (y' 0) (y 1) (y' 1) m n (ins 0)
parted-one picks connected x x' y y' ins m n (suc (suc o)) l = absurd (omega arith)

leaves-on : {K : Type 0} (connected : Bool) (component : K) (held : Held) (id : ℕ) → GoesOn (leaves connected component held id)
leaves-on true component held id = λ d. cc
leaves-on false component held id = λ d. cc

parts-on : {K : Type 0} (picked connected : Bool) (component : K) (held : Held) (id : ℕ) → GoesOn (parts picked connected component held id)
parts-on true connected component held id = λ d. cc
parts-on false connected component held id = leaves-on connected component held id

-- A component that picks has heard the end of its input once it has run and ended.
pub picker-hears : {K : Type 0} (picker : Picker K) → StaysConnected picker → (component : K) (told : List Happening) → EndedRun (picker_rules picker) component told → told ≢ [] → HeardEnd 0 told
picker-hears {K} picker stays component told run some =
    end-heard {K = K} (picker_rules picker) (λ _. refl) (picker_lawful picker stays) Never
    (λ p q s l. elim l [ inl d ↦ subst GoesOn (sym s.comes_to) (λ e. cc) d | inr n ↦ n ])
    (λ p port t q s l. elim l [ inl d ↦ subst GoesOn (sym s.comes_to) (on p.component s.held (id_of t) (kind_at s.held.packets (id_of t)) (text_at s.held.packets (id_of t))) d | inr n ↦ n ])
    (λ p port t q s l. elim l [ inl d ↦ subst GoesOn (sym s.comes_to) (λ e. cc) d | inr n ↦ n ])
    (λ p port level q s l. s.is_ready) component told run (λ n. n) some
  where
    on : (component : K) (held : Held) (id : ℕ) (kind : Kind) (text : List ℕ) → GoesOn (meets picker component held id kind text)
    on component held id kind text = parts-on (picker.picks component kind text) (picker.connected component) (picker.after component kind text) held id

-- Unique

unique-own : (state : UniqueState) (p : ℕ) (told : List Happening) (x : Process Std) → Over (components.Unique state) p told x → Own components.Unique unique_rules state told x
unique-own state p told x over = own components.Unique unique_kind (λ k. refl) state p told x over

-- The facts of Unique.
pub unique-facts : (state : UniqueState) → Facts (components.Unique state)
unique-facts state = record {
  means = λ p told x first over. unique_meaning state.rep told (subst (λ (w : UniqueState). EndedRun unique_rules w told) first (unique-own state p told x over).run);
  texts = λ p told x first over some. single-texts (components.Unique state) p told x over refl some (picker-hears unique_picker after-rep state told (unique-own state p told x over).run some);
  change = λ w w' x x' y y' same m. parted-change is_new state.rep (x 0) (x' 0) (y 0) (y' 0) (y 1) (y' 1) (same.inputs 0 (omega arith)) (same.outputs 0 refl) (λ c. same.outputs 1 c) (λ none. same.silent 1 none) m;
  wrote_none = λ p told x over none. ap bytes_of (unique-own state p told x over).is;
  settles = λ s w w' x x' y y' ins m n. parted-one is_new state.rep x x' y y' ins m n;
}

-- Head

head-own : (state : HeadState) (p : ℕ) (told : List Happening) (x : Process Std) → Over (components.Head state) p told x → Own components.Head head_rules state told x
head-own state p told x over = own components.Head head_kind (λ k. refl) state p told x over

-- The facts of Head.
pub head-facts : (state : HeadState) → Facts (components.Head state)
head-facts state = record {
  means = λ p told x first over. head_meaning state.count state.rest told (subst (λ (w : HeadState). EndedRun head_rules w told) first (head-own state p told x over).run);
  texts = λ p told x first over some. single-texts (components.Head state) p told x over refl some (picker-hears head_picker after-rest state told (head-own state p told x over).run some);
  change = λ w w' x x' y y' same m. parted-change (is_among_first state.count) state.rest (x 0) (x' 0) (y 0) (y' 0) (y 1) (y' 1) (same.inputs 0 (omega arith)) (same.outputs 0 refl) (λ c. same.outputs 1 c) (λ none. same.silent 1 none) m;
  wrote_none = λ p told x over none. ap bytes_of (head-own state p told x over).is;
  settles = λ s w w' x x' y y' ins m n. parted-one (is_among_first state.count) state.rest x x' y y' ins m n;
}

-- Tail, which leaves once what it holds was sent

abbrev IsLeaving : TailPlace → Type 0
IsLeaving places.Waiting = ⊥
IsLeaving (places.Holding c) = ⊥
IsLeaving (places.Passing c b) = ⊥
IsLeaving (places.Leaving c) = Unit {0}

abbrev Leaves : TailState → Type 0
Leaves state = IsLeaving state.place

-- the outcome neither is a deactivation nor leads to one
abbrev Stays : Outcome TailState → Type 0
Stays (Wishes state held wish) = (wish ≡ wishes.Deactivate) ⊎ Leaves state → ⊥
Stays (Fails state held cause) = Unit {0}

between-stays : (state : TailState) (held : Held) (place : TailPlace) → state.place ≡ place → IsBetween state held place → Leaves state → ⊥
between-stays state held places.Waiting e r l = subst IsLeaving e l
between-stays state held (places.Holding c) e r l = subst IsLeaving e l
between-stays state held (places.Passing c b) e r l = r
between-stays state held (places.Leaving c) e r l = r

receives-stays : (state : TailState) (held : Held) → (Leaves state → ⊥) → Stays (Wishes state held receive_first)
receives-stays state held n = λ h. elim h [ inl d ↦ absurd (cc) | inr l ↦ n l ]

leaves-stays : (rest : Bool) (state : TailState) (held : Held) (id : ℕ) → (Leaves state → ⊥) → Stays (leaves rest state held id)
leaves-stays true state held id n = λ h. elim h [ inl d ↦ absurd (cc) | inr l ↦ n l ]
leaves-stays false state held id n = λ h. elim h [ inl d ↦ absurd (cc) | inr l ↦ n l ]

trims-stays : (state : TailState) (held : Held) (c : ℕ) (chain : List Tree) → (Leaves state → ⊥) → Stays (trims state held c chain)
trims-stays state held c [] n = receives-stays state held n
trims-stays state held c (first ∷ later) n = by (nat_lt state.count (length (first ∷ later)))
  where
    by : (b : Bool) → Stays (if b then leaves state.rest state (taken held c first) (id_of first) else Wishes state held receive_first)
    by true = leaves-stays state.rest state (taken held c first) (id_of first) n
    by false = receives-stays state held n

passes-stays : (state : TailState) (held : Held) (c b : ℕ) (chain : List Tree) → Stays (passes state held c b chain)
passes-stays state held c b [] = λ h. elim h [ inl d ↦ absurd (cc) | inr l ↦ l ]
passes-stays state held c b (first ∷ later) = λ h. elim h [ inl d ↦ absurd (cc) | inr l ↦ l ]

takes-stays : (state : TailState) (held : Held) (id : ℕ) (place : TailPlace) → state.place ≡ place → HasCome state held id place → Stays (takes state held id place)
takes-stays state held id places.Waiting e r = by (state.count == 0)
  where
    not : Leaves state → ⊥
    not l = subst IsLeaving e l

    begun : (b : Bool) → Stays (if b then Fails state held TreeDepth else Wishes (at state (places.Holding (next_id held))) (carried held id) receive_first)
    begun true = tt
    begun false = λ h. elim h [ inl d ↦ absurd (cc) | inr l ↦ l ]

    by : (b : Bool) → Stays (if b then leaves state.rest state held id else begins state held id)
    by true = leaves-stays state.rest state held id not
    by false = begun (height_at held.packets id == 16)
takes-stays state held id (places.Holding c) e r = by (height_at held.packets id == 16)
  where
    by : (b : Bool) → Stays (if b then Fails state held TreeDepth else trims state (added held c id) c (held_by (added held c id) c))
    by true = tt
    by false = trims-stays state (added held c id) c (held_by (added held c id) c) (λ l. subst IsLeaving e l)
takes-stays state held id (places.Passing c b) e r = absurd r
takes-stays state held id (places.Leaving c) e r = absurd r

brackets-stays : (state : TailState) (held : Held) (id : ℕ) (place : TailPlace) → state.place ≡ place → HasCome state held id place → Stays (brackets state held id place)
brackets-stays state held id places.Waiting e r = λ h. elim h [ inl d ↦ absurd (cc) | inr l ↦ subst IsLeaving e l ]
brackets-stays state held id (places.Holding c) e r = passes-stays state held c id (held_by held c)
brackets-stays state held id (places.Passing c b) e r = absurd r
brackets-stays state held id (places.Leaving c) e r = absurd r

comes-stays : (state : TailState) (held : Held) (id : ℕ) (kind : Kind) → HasCome state held id state.place → Stays (comes state held id kind)
comes-stays state held id Normal r = takes-stays state held id state.place refl r
comes-stays state held id Open r = brackets-stays state held id state.place refl r
comes-stays state held id Close r = brackets-stays state held id state.place refl r

-- what leaves now has left before
abbrev LeftBefore : TailState → Outcome TailState → Type 0
LeftBefore old (Wishes state held wish) = (wish ≡ wishes.Deactivate) ⊎ Leaves state → Leaves old
LeftBefore old (Fails state held cause) = Unit {0}

stays-before : (old : TailState) (outcome : Outcome TailState) → Stays outcome → LeftBefore old outcome
stays-before old (Wishes state held wish) n = λ h. absurd (n h)
stays-before old (Fails state held cause) n = tt

goes-before : (state : TailState) (held : Held) (place : TailPlace) → state.place ≡ place → LeftBefore state (goes_on state held place)
goes-before state held places.Waiting e = λ h. elim h [ inl d ↦ absurd (cc) | inr l ↦ l ]
goes-before state held (places.Holding c) e = λ h. elim h [ inl d ↦ absurd (cc) | inr l ↦ l ]
goes-before state held (places.Passing c b) e = stays-before state (passes state held c b (held_by held c)) (passes-stays state held c b (held_by held c))
goes-before state held (places.Leaving c) e = by (held_by held c)
  where
    by : (chain : List Tree) → LeftBefore state (ends state held c chain)
    by [] = λ h. subst IsLeaving (sym e) tt
    by (first ∷ later) = λ h. subst IsLeaving (sym e) tt

-- A Tail that has run and ended has heard the end of its input.
tail-hears : (state : TailState) (told : List Happening) → state.place ≡ places.Waiting → EndedRun tail_rules state told → told ≢ [] → HeardEnd 0 told
tail-hears state told w run some =
    end-heard tail_rules (λ _. refl) tail_lawful Leaves
    (λ p q s l. subst Stays (sym s.comes_to) (receives-stays p.component s.held (between-stays p.component s.held p.component.place refl s.is_ready)) l)
    (λ p port t q s l. subst Stays (sym s.comes_to) (comes-stays p.component s.held (id_of t) (kind_at s.held.packets (id_of t)) s.is_ready) l)
    (λ p port t q s l. subst (LeftBefore p.component) (sym s.comes_to) (goes-before p.component s.held p.component.place refl) l)
    (λ p port level q s l. s.is_ready) state told run (λ l. subst IsLeaving w l) some

tail-own : (state : TailState) (p : ℕ) (told : List Happening) (x : Process Std) → Over (components.Tail state) p told x → Own components.Tail tail_rules state told x
tail-own state p told x over = own components.Tail tail_kind (λ k. refl) state p told x over

-- The facts of Tail.
pub tail-facts : (state : TailState) → Facts (components.Tail state)
tail-facts state = record {
  means = λ p told x first over. tail_meaning state.count state.rest told (subst (λ (w : TailState). EndedRun tail_rules w told) first (tail-own state p told x over).run) (over.run.end_is_last 0 (single-ends x told over.run.once over.fits));
  texts = λ p told x first over some. single-texts (components.Tail state) p told x over refl some (tail-hears state told (ap (λ (w : TailState). w.place) first) (tail-own state p told x over).run some);
  change = λ w w' x x' y y' same m. parted-change (is_among_last state.count) state.rest (x 0) (x' 0) (y 0) (y' 0) (y 1) (y' 1) (same.inputs 0 (omega arith)) (same.outputs 0 refl) (λ c. same.outputs 1 c) (λ none. same.silent 1 none) m;
  wrote_none = λ p told x over none. ap bytes_of (tail-own state p told x over).is;
  settles = λ s w w' x x' y y' ins m n. parted-one (is_among_last state.count) state.rest x x' y y' ins m n;
}
