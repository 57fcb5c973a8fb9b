-- The order in which parts are taken.
use Rattle.std.proofs.Common.{◌≡◌, ◌≢◌, ◌⊎◌, inl, inr, ℕ, ◌+◌, ◌<◌, Bool, true, false, List, [], ◌∷◌, ◌++◌, length, Some, None, refl, sym, ◌∙◌, ap, arith, get_or, drop}
use Rattle.std.proofs.lemmas.List.{map-append, map-set, get_or-set_same, get_or-set_other}
use Rattle.std.proofs.lemmas.Option.{get_or_from_slice_get, slice_get-get_or, slice_get_within, slice_get-map}
use Rattle.std.proofs.lemmas.Slice.Eq.{bytes_eq-Decides}
use Rattle.std.specs.Prelude.{Vec, is_some, slice_get, slice_set}
use Rattle.std.specs.Option.{option_and_then, option_map}
use Rattle.std.specs.Str.{bytes_eq}
use Rattle.std.specs.declared.alloc.Global.{Global}
use Rattle.std.specs.declared.option.Option.{Option}
use Rattle.std.specs.declared.vec.IntoIter.{IntoIter}
use Rattle.std.specs.Vec.Iter.{into_iter_items, into_iter_steps}
use Rattle.flow_model.proofs.Lists.{same_or_not}
use Rattle.flow_plan.specs.declared.kind.KindSpec.{KindSpec}
use Rattle.flow_plan.specs.declared.plan.Process.{Process}
use Rattle.flow_plan.specs.Network.{Network}
use Rattle.flow_offer.specs.Processes.{own_place, place_of}
use Rattle.flow_offer.specs.Shares.{earlier}
use Rattle.flow_own.specs.Mixed.{Own}
use Rattle.flow_own.specs.Parts.{Seen}
use Rattle.flow_own.specs.Tapes.{OwnValue}
use Rattle.flow_load.specs.Offers.{AnyKind, parts_in, parts_left}
use Rattle.flow_load.specs.Components.{AreInOrder, HoldParts, HoldTheirParts, TakesFirst, TakesParts, part_for}
use Rattle.flow_load.proofs.Parting.{pushed}
use Rattle.flow_load.proofs.Placing.{next-left}
use Rattle.flow_load.proofs.Sharing.{its-place, one-name, one-more, no-more}
use Rattle.flow_load.proofs.Readings.{there_at}

-- The first processes took their parts, and of each kind those are left that stand behind the parts of its processes.
pub record SharedInOrder {P : Type 0} (own : List KindSpec) (plan : Network) (parts left : List (List P)) (p : ℕ) (shared : List (Option P)) : Type 0 where
  pub order : AreInOrder own parts plan shared
  pub rest : (name : List ℕ) (place : ℕ) → place_of own name ≡ Some place → get_or left place [] ≡ drop (earlier plan name p) (get_or parts place [])

-- Before the first process all are left.
pub none-in-order : {P : Type 0} (own : List KindSpec) (plan : Network) (parts left : List (List P)) → left ≡ parts → SharedInOrder own plan parts left 0 []
none-in-order {P = P} own plan parts left same = record {
  order = λ p part at. absurd cc;
  rest = λ name place at. ap (λ (l : List (List P)). get_or l place []) same;
}

module _ {P : Type 0} (own : List KindSpec) (plan : Network) (parts left left' : List (List P)) (p : ℕ) (shared : List (Option P)) (s : SharedInOrder own plan parts left p shared) (count : length shared ≡ p)
    (within : p < length plan.processes) (x : Process) (there : slice_get plan.processes p ≡ Some x) where
  -- The order stands where the part of this process is its own.
  order-more : (part : Option P) → ((one : P) → part ≡ Some one → part_for own parts plan p ≡ Some one) → AreInOrder own parts plan (shared ++ part ∷ [])
  order-more part is = λ q one at. by q one (pushed shared part (Some one) q at) where
    by : (q : ℕ) (one : P) → (slice_get shared q ≡ Some (Some one)) ⊎ ((q ≡ length shared) × (Some one ≡ part)) → part_for own parts plan q ≡ Some one
    by q one (inl at) = s.order q one at
    by q one (inr last) = ap (part_for own parts plan) (last.0 ∙ count) ∙ is one (sym last.1)

  its-part : (k : ℕ) (one : P) → place_of own x.kind ≡ Some k → slice_get (get_or parts k []) (earlier plan x.kind p) ≡ Some one → part_for own parts plan p ≡ Some one
  its-part k one placed is =
      ap (option_and_then (λ (process : Process). option_and_then (λ place. slice_get (get_or parts place []) (earlier plan process.kind p)) (place_of own process.kind))) there
      ∙ ap (option_and_then (λ place. slice_get (get_or parts place []) (earlier plan x.kind p))) placed ∙ is

  -- A process of a standard kind takes none.
  none-taken : place_of own x.kind ≡ None → left' ≡ left → SharedInOrder own plan parts left' (p + 1) (shared ++ None ∷ [])
  none-taken standard same = record {
    order = order-more None (λ one is. absurd cc);
    rest = λ name place placed. by name place placed (bytes_eq x.kind name) refl;
  } where
    by : (name : List ℕ) (place : ℕ) → place_of own name ≡ Some place → (b : Bool) → bytes_eq x.kind name ≡ b → get_or left' place [] ≡ drop (earlier plan name (p + 1)) (get_or parts place [])
    by name place placed true is =
        let other : place_of own x.kind ≡ Some place = ap (place_of own) ((bytes_eq-Decides x.kind name).0 is) ∙ placed in
        absurd cc
    by name place placed false is =
        ap (λ (l : List (List P)). get_or l place []) same ∙ s.rest name place placed ∙ ap (λ n. drop n (get_or parts place [])) (sym (no-more plan p x there within name is))

  -- A process of one's own takes the first that was left of its kind.
  first-taken : (k : ℕ) (one : P) → place_of own x.kind ≡ Some k → TakesFirst left left' (Some k) (Some one) → SharedInOrder own plan parts left' (p + 1) (shared ++ Some one ∷ [])
  first-taken k one placed takes = record {
    order = order-more (Some one) (λ other is. its-part k other placed (next.0 ∙ is));
    rest = λ name place named. by name place named (same_or_not place k);
  } where
    had : drop (earlier plan x.kind p) (get_or parts k []) ≡ one ∷ takes.0
    had = sym (s.rest x.kind k placed) ∙ get_or_from_slice_get left k (one ∷ takes.0) [] takes.1

    next : (slice_get (get_or parts k []) (earlier plan x.kind p) ≡ Some one) × (takes.0 ≡ drop (earlier plan x.kind p + 1) (get_or parts k [])) × (earlier plan x.kind p < length (get_or parts k []))
    next = next-left (get_or parts k []) (earlier plan x.kind p) one takes.0 had

    by : (name : List ℕ) (place : ℕ) → place_of own name ≡ Some place → (place ≡ k) ⊎ (place ≢ k) → get_or left' place [] ≡ drop (earlier plan name (p + 1)) (get_or parts place [])
    by name place named (inl same) =
        let is : x.kind ≡ name = one-name own x.kind name k placed (named ∙ ap Some same) in
        let more = one-more plan p x there within x.kind ((bytes_eq-Decides x.kind x.kind).1 refl) in
        ap (λ (l : List (List P)). get_or l place []) takes.2 ∙ ap (λ n. get_or (slice_set left k takes.0) n []) same ∙ get_or-set_same left k takes.0 [] (slice_get_within left k (one ∷ takes.0) takes.1) ∙ next.1
        ∙ ap (λ n. drop n (get_or parts k [])) (sym more) ∙ ap (λ (name : List ℕ). drop (earlier plan name (p + 1)) (get_or parts k [])) is
        ∙ ap (λ n. drop (earlier plan name (p + 1)) (get_or parts n [])) (sym same)
    by name place named (inr other) =
        ap (λ (l : List (List P)). get_or l place []) takes.2 ∙ get_or-set_other left k place takes.0 [] other ∙ s.rest name place named
        ∙ ap (λ n. drop n (get_or parts place [])) (sym (no-more plan p x there within name (differs name place named other (bytes_eq x.kind name) refl)))
      where
        differs : (name : List ℕ) (place : ℕ) → place_of own name ≡ Some place → place ≢ k → (b : Bool) → bytes_eq x.kind name ≡ b → bytes_eq x.kind name ≡ false
        differs name place named other false is = is
        differs name place named other true is =
            let same : place_of own x.kind ≡ Some place = ap (place_of own) ((bytes_eq-Decides x.kind name).0 is) ∙ named in
            absurd (other (let both : Some place ≡ Some k = sym same ∙ placed in cc))

-- The part of one process more.
pub more-in-order : {P : Type 0} (own : List KindSpec) (plan : Network) (parts left left' : List (List P)) (p : ℕ) (shared : List (Option P)) (part : Option P) → SharedInOrder own plan parts left p shared
    → length shared ≡ p → p < length plan.processes → (place : Option ℕ) → place ≡ own_place own plan p → is_some part ≡ is_some place → TakesFirst left left' place part
    → SharedInOrder own plan parts left' (p + 1) (shared ++ part ∷ [])
more-in-order {P = P} own plan parts left left' p shared part s count within place is some takes = by place part is some takes where
  x : (process : Process) × (slice_get plan.processes p ≡ Some process)
  x = there_at plan.processes p within

  by : (place : Option ℕ) (part : Option P) → place ≡ own_place own plan p → is_some part ≡ is_some place → TakesFirst left left' place part → SharedInOrder own plan parts left' (p + 1) (shared ++ part ∷ [])
  by None None is some takes = none-taken own plan parts left left' p shared s count within x.0 x.1 (sym (its-place plan p x.0 x.1 within own) ∙ sym is) takes
  by None (Some one) is some takes = absurd cc
  by (Some k) None is some takes = absurd cc
  by (Some k) (Some one) is some takes = first-taken own plan parts left left' p shared s count within x.0 x.1 k one (sym (its-place plan p x.0 x.1 within own) ∙ sym is) takes

-- One part was taken from the queue at this place, if it had one.
pub first-of-queue : {P : Type 0} (queues : List (IntoIter P Global)) (place : ℕ) (old new : IntoIter P Global) (part : Option P) → place < length queues → old ≡ get_or queues place old → into_iter_steps old part new
    → TakesFirst (parts_left queues) (parts_left (slice_set queues place new)) (Some place) part
first-of-queue {P = P} queues place old new None within is steps = tt
first-of-queue {P = P} queues place old new (Some part) within is steps = (
  into_iter_items new,
  slice_get-map (λ (q : IntoIter P Global). into_iter_items q) queues place ∙ ap (option_map (λ (q : IntoIter P Global). into_iter_items q)) at ∙ ap (λ (l : List P). Some l) steps.0,
  map-set (λ (q : IntoIter P Global). into_iter_items q) queues place new,
)
  where
    at : slice_get queues place ≡ Some old
    at = slice_get-get_or queues place old within ∙ ap (λ (q : IntoIter P Global). Some q) (sym is)

-- The queues of the parts that there are.
pub queue-in-order : {P : Type 0} (queues : List (IntoIter P Global)) (yielded : List (Vec P Global)) (kind : Vec P Global) (queue : IntoIter P Global) → into_iter_items queue ≡ kind.items
    → parts_left queues ≡ parts_in yielded → parts_left (queues ++ queue ∷ []) ≡ parts_in (yielded ++ kind ∷ [])
queue-in-order {P = P} queues yielded kind queue same before =
    map-append (λ (x : IntoIter P Global). into_iter_items x) queues (queue ∷ []) ∙ ap (λ (l : List (List P)). l ++ into_iter_items queue ∷ []) before ∙ ap (λ (l : List P). parts_in yielded ++ l ∷ []) same
    ∙ sym (map-append (λ (v : Vec P Global). v.items) yielded (kind ∷ []))

module _ {P : Type 0} (seen : P → Seen) (own : List KindSpec) (parts : List (List P)) (plan : Network) (taken : List (Option P)) (components : List AnyKind) (takes : TakesParts own plan taken)
    (order : AreInOrder own parts plan taken) (held : HoldParts seen taken components) where
  -- A process for which there is a part is of a kind of the caller's own.
  has-kind : (p : ℕ) (part : P) (found : Option Process) → slice_get plan.processes p ≡ found
      → option_and_then (λ (process : Process). option_and_then (λ place. slice_get (get_or parts place []) (earlier plan process.kind p)) (place_of own process.kind)) found ≡ Some part
      → (p < length plan.processes) × (is_some (option_and_then (λ (process : Process). place_of own process.kind) found) ≡ true)
  has-kind p part None at is = absurd cc
  has-kind p part (Some x) at is = (slice_get_within plan.processes p x at, placed (place_of own x.kind) is) where
    placed : (place : Option ℕ) → option_and_then (λ place. slice_get (get_or parts place []) (earlier plan x.kind p)) place ≡ Some part → is_some place ≡ true
    placed None is = absurd cc
    placed (Some place) is = refl

  took : (p : ℕ) (part : P) (one : Option P) → slice_get taken p ≡ Some one → is_some (own_place own plan p) ≡ true → part_for own parts plan p ≡ Some part
      → (value : OwnValue) × (slice_get components p ≡ Some (Own value)) × (value.part ≡ Some (seen part))
  took p part None at is_own is = absurd (let none = takes.each p None at in cc)
  took p part (Some other) at is_own is =
      let same : other ≡ part = (let a = order p other at in cc) in
      let has = held p other at in
      (has.0, has.1, has.2 ∙ ap (λ (x : P). Some (seen x)) same)

  -- Each process for which there is a part took it, and its component holds it.
  pub hold-theirs : HoldTheirParts seen own parts plan components
  hold-theirs p part is =
      let placed = has-kind p part (slice_get plan.processes p) refl is in
      took p part (get_or taken p None) (slice_get-get_or taken p None (omega (arith, takes.count, placed.0))) placed.1 is
