-- Parts that are shared out among the processes of their kinds.
use Rattle.std.proofs.Common.{◌≡◌, ◌≢◌, ◌⊎◌, inl, inr, ℕ, zero, suc, ◌+◌, ◌-◌, ◌<◌, ◌≤◌, Bool, true, false, List, [], ◌∷◌, ◌++◌, length, Some, None, refl, sym, ◌∙◌, ap, arith, length-append, get_or, take, drop}
use Rattle.std.proofs.lemmas.Bool.Decides.{nat_tests}
use Rattle.std.proofs.lemmas.List.{length-map, length-set, map-append, map-set, get_or-set_same, get_or-set_other}
use Rattle.std.proofs.lemmas.List.Quantifiers.{position-Some}
use Rattle.std.proofs.lemmas.List.Sums.{count_by_more_no, count_by_more_yes}
use Rattle.std.proofs.lemmas.Option.{get_or_from_slice_get}
use Rattle.std.proofs.lemmas.Slice.Eq.{bytes_eq-Decides}
use Rattle.std.specs.Prelude.{Vec, is_some, slice_get, slice_index, slice_set}
use Rattle.std.specs.Option.{option_and_then}
use Rattle.std.specs.Str.{bytes_eq}
use Rattle.std.specs.declared.alloc.Global.{Global}
use Rattle.std.specs.declared.option.Option.{Option}
use Rattle.std.specs.declared.vec.IntoIter.{IntoIter}
use Rattle.std.specs.Vec.Iter.{into_iter_len, into_iter_steps}
use Rattle.flow_model.proofs.Lists.{same_or_not}
use Rattle.flow_plan.specs.declared.kind.KindSpec.{KindSpec}
use Rattle.flow_plan.specs.declared.plan.Process.{Process}
use Rattle.flow_plan.specs.Network.{Network}
use Rattle.flow_offer.specs.Processes.{own_place, place_of}
use Rattle.flow_offer.specs.Shares.{earlier, FindsPart}
use Rattle.flow_load.specs.Offers.{counts_left, counts_of}
use Rattle.flow_load.specs.Components.{TakesNext, TakesParts}
use Rattle.flow_load.proofs.Parting.{pushed}
use Rattle.flow_load.proofs.Readings.{there_at}

-- The parts of the first processes were taken; of each kind so many are left as there were, but for those of its processes.
pub record SharedOut {P : Type 0} (own : List KindSpec) (plan : Network) (counts left : List ℕ) (p : ℕ) (shared : List (Option P)) : Type 0 where
  pub long : length left ≡ length own
  pub count : length shared ≡ p
  pub each : (q : ℕ) (part : Option P) → slice_get shared q ≡ Some part → is_some part ≡ is_some (own_place own plan q)
  pub enough : (name : List ℕ) (place : ℕ) → place_of own name ≡ Some place → slice_index counts place ≤ slice_index left place + earlier plan name p

-- Before the first process all are left.
pub none-shared : {P : Type 0} (own : List KindSpec) (plan : Network) (counts left : List ℕ) → left ≡ counts → length counts ≡ length own → SharedOut {P = P} own plan counts left 0 []
none-shared own plan counts left same long = record {
  long = ap length same ∙ long;
  count = refl;
  each = λ q part at. absurd cc;
  enough = λ name place at. omega (arith, ap (λ (l : List ℕ). slice_index l place) same);
}

-- a place of a kind is one of them
pub place-within : (own : List KindSpec) (name : List ℕ) (place : ℕ) → place_of own name ≡ Some place → place < length own
place-within [] name place at = absurd cc
place-within (k ∷ own) name place at = (position-Some (λ (kind : KindSpec). bytes_eq kind.name name) (k ∷ own) place k at).0

-- two names of one place are one name
pub one-name : (own : List KindSpec) (a b : List ℕ) (place : ℕ) → place_of own a ≡ Some place → place_of own b ≡ Some place → a ≡ b
one-name [] a b place at there = absurd cc
one-name (k ∷ own) a b place at there =
    let first = (position-Some (λ (kind : KindSpec). bytes_eq kind.name a) (k ∷ own) place k at).1 in
    let second = (position-Some (λ (kind : KindSpec). bytes_eq kind.name b) (k ∷ own) place k there).1 in
    let named = get_or (k ∷ own) place k in
    sym ((bytes_eq-Decides named.name a).0 first) ∙ (bytes_eq-Decides named.name b).0 second

module _ (plan : Network) (p : ℕ) (x : Process) (there : slice_get plan.processes p ≡ Some x) (within : p < length plan.processes) where
  abbrev is-kind : (name : List ℕ) → Process → Bool
  is-kind name process = bytes_eq process.kind name

  test-at : (name : List ℕ) → is-kind name (get_or plan.processes p x) ≡ bytes_eq x.kind name
  test-at name = ap (is-kind name) (get_or_from_slice_get plan.processes p x x there)

  -- a process of the kind is one more
  pub one-more : (name : List ℕ) → bytes_eq x.kind name ≡ true → earlier plan name (p + 1) ≡ earlier plan name p + 1
  one-more name is = count_by_more_yes (is-kind name) plan.processes p x within (test-at name ∙ is)

  pub no-more : (name : List ℕ) → bytes_eq x.kind name ≡ false → earlier plan name (p + 1) ≡ earlier plan name p
  no-more name is = count_by_more_no (is-kind name) plan.processes p x within (test-at name ∙ is)

  -- no fewer
  no-fewer : (name : List ℕ) → earlier plan name p ≤ earlier plan name (p + 1)
  no-fewer name = by (bytes_eq x.kind name) refl where
    by : (b : Bool) → bytes_eq x.kind name ≡ b → earlier plan name p ≤ earlier plan name (p + 1)
    by true is = omega (arith, one-more name is)
    by false is = omega (arith, no-more name is)

  pub its-place : (own : List KindSpec) → own_place own plan p ≡ place_of own x.kind
  its-place own = ap (option_and_then (λ (process : Process). place_of own process.kind)) there

  -- What is left of the kinds, where the next part of one was taken.
  left-after : (own : List KindSpec) (counts left left' : List ℕ) (k : ℕ) → length left ≡ length own → place_of own x.kind ≡ Some k → 0 < slice_index left k
      → left' ≡ slice_set left k (slice_index left k - 1) → ((name : List ℕ) (place : ℕ) → place_of own name ≡ Some place → slice_index counts place ≤ slice_index left place + earlier plan name p)
      → (name : List ℕ) (place : ℕ) → place_of own name ≡ Some place → slice_index counts place ≤ slice_index left' place + earlier plan name (p + 1)
  left-after own counts left left' k long at some taken enough name place placed = by (same_or_not place k) where
    by : (place ≡ k) ⊎ (place ≢ k) → slice_index counts place ≤ slice_index left' place + earlier plan name (p + 1)
    by (inl same) =
        let named : x.kind ≡ name = one-name own x.kind name k at (placed ∙ ap Some same) in
        let more = one-more name ((bytes_eq-Decides x.kind name).1 named) in
        let here : slice_index left' place ≡ slice_index left k - 1 =
        ap (λ (l : List ℕ). slice_index l place) taken ∙ ap (slice_index (slice_set left k (slice_index left k - 1))) same
        ∙ get_or-set_same left k (slice_index left k - 1) 0 (omega (arith, long, place-within own x.kind k at)) in
        let had : slice_index left place ≡ slice_index left k = ap (slice_index left) same in
        omega (arith, enough name place placed, more, here, had, some)
    by (inr other) =
        let here : slice_index left' place ≡ slice_index left place = ap (λ (l : List ℕ). slice_index l place) taken ∙ get_or-set_other left k place (slice_index left k - 1) 0 other in
        omega (arith, enough name place placed, no-fewer name, here)

-- The part of one process more.
module _ {P : Type 0} (own : List KindSpec) (plan : Network) (counts left left' : List ℕ) (p : ℕ) (shared : List (Option P)) (part : Option P) (s : SharedOut own plan counts left p shared)
    (within : p < length plan.processes) where
  each-more : is_some part ≡ is_some (own_place own plan p) → (q : ℕ) (one : Option P) → (slice_get shared q ≡ Some one) ⊎ ((q ≡ length shared) × (one ≡ part)) → is_some one ≡ is_some (own_place own plan q)
  each-more is q one (inl at) = s.each q one at
  each-more is q one (inr at) =
      let here : q ≡ p = at.0 ∙ s.count in
      ap is_some at.1 ∙ is ∙ ap (λ (n : ℕ). is_some (own_place own plan n)) (sym here)

  counted : length (shared ++ part ∷ []) ≡ p + 1
  counted = omega (arith, length-append shared (part ∷ []), s.count)

  more-by : (place : Option ℕ) → place ≡ own_place own plan p → TakesNext left left' place part → FindsPart own counts plan p → (x : Process) → slice_get plan.processes p ≡ Some x
      → SharedOut own plan counts left' (p + 1) (shared ++ part ∷ [])
  more-by None is takes finds x there = record {
    long = ap length takes.0 ∙ s.long;
    count = counted;
    each = λ q one at. each-more (takes.1 ∙ ap is_some is) q one (pushed shared part one q at);
    enough = λ name place placed. omega (arith, s.enough name place placed, no-fewer plan p x there within name, ap (λ (l : List ℕ). slice_index l place) takes.0);
  }
  more-by (Some k) is takes finds x there =
      let placed : place_of own x.kind ≡ Some k = sym (its-place plan p x there within own) ∙ sym is in
      let some : 0 < slice_index left k = omega (arith, finds x k there placed, s.enough x.kind k placed) in
      record {
        long = ap length takes.0 ∙ length-set left k (slice_index left k - 1) ∙ s.long;
        count = counted;
        each = λ q one at. each-more (takes.1 ∙ grind (arith, nat_tests, some) ∙ ap is_some is) q one (pushed shared part one q at);
        enough = left-after plan p x there within own counts left left' k s.long placed some takes.0 s.enough;
      }

  pub more-shared : (place : Option ℕ) → place ≡ own_place own plan p → TakesNext left left' place part → FindsPart own counts plan p → SharedOut own plan counts left' (p + 1) (shared ++ part ∷ [])
  more-shared place is takes finds = let x = there_at plan.processes p within in more-by place is takes finds x.0 x.1

-- A part was taken where its kind is the caller's own, and only there.
pub taken-where-own : {P : Type 0} (own : List KindSpec) (plan : Network) (counts left left' : List ℕ) (p : ℕ) (shared : List (Option P)) (part : Option P) → SharedOut own plan counts left p shared
    → p < length plan.processes → (place : Option ℕ) → place ≡ own_place own plan p → TakesNext left left' place part → FindsPart own counts plan p → is_some part ≡ is_some place
taken-where-own {P = P} own plan counts left left' p shared part s within place is takes finds = by place is takes where
  x : (process : Process) × (slice_get plan.processes p ≡ Some process)
  x = there_at plan.processes p within

  by : (place : Option ℕ) → place ≡ own_place own plan p → TakesNext left left' place part → is_some part ≡ is_some place
  by None is takes = takes.1
  by (Some k) is takes =
      let placed : place_of own x.0.kind ≡ Some k = sym (its-place plan p x.0 x.1 within own) ∙ sym is in
      let some : 0 < slice_index left k = omega (arith, finds x.0 k x.1 placed, s.enough x.0.kind k placed) in
      takes.1 ∙ grind (arith, nat_tests, some)

-- The place of a process's kind is one of what is left.
pub within-left : {P : Type 0} (own : List KindSpec) (plan : Network) (counts left : List ℕ) (p : ℕ) (shared : List (Option P)) → SharedOut own plan counts left p shared → p < length plan.processes
    → (place : ℕ) → own_place own plan p ≡ Some place → place < length left
within-left own plan counts left p shared s within place is =
    let x = there_at plan.processes p within in
    omega (arith, s.long, place-within own x.0.kind place (sym (its-place plan p x.0 x.1 within own) ∙ is))

-- All parts are shared out.
pub all-shared : {P : Type 0} (own : List KindSpec) (plan : Network) (counts left : List ℕ) (p : ℕ) (shared : List (Option P)) → SharedOut own plan counts left p shared → p ≡ length plan.processes
    → TakesParts own plan shared
all-shared own plan counts left p shared s all = record { count = s.count ∙ all; each = s.each }

-- how many parts are left of a kind
left-at : {P : Type 0} (queues : List (IntoIter P Global)) (place : ℕ) (queue : IntoIter P Global) → place < length queues → get_or queues place queue ≡ queue → slice_index (counts_left queues) place ≡ into_iter_len queue
left-at {P = P} [] place queue within is = absurd (omega (arith, within))
left-at {P = P} (q ∷ queues) zero queue within is = ap (λ (x : IntoIter P Global). into_iter_len x) is
left-at {P = P} (q ∷ queues) (suc place) queue within is = left-at queues place queue (omega (arith, within)) is

-- One part was taken from the queue at this place, if it had one.
pub next-taken : {P : Type 0} (queues : List (IntoIter P Global)) (place : ℕ) (old new : IntoIter P Global) (part : Option P) → place < length queues → old ≡ get_or queues place old
    → into_iter_steps old part new → TakesNext (counts_left queues) (counts_left (slice_set queues place new)) (Some place) part
next-taken {P = P} queues place old new part within is steps = by part steps where
  had : slice_index (counts_left queues) place ≡ into_iter_len old
  had = left-at queues place old within (sym is)

  set : counts_left (slice_set queues place new) ≡ slice_set (counts_left queues) place (into_iter_len new)
  set = map-set (λ (x : IntoIter P Global). into_iter_len x) queues place new

  by : (part : Option P) → into_iter_steps old part new → TakesNext (counts_left queues) (counts_left (slice_set queues place new)) (Some place) part
  by None steps = (set ∙ ap (slice_set (counts_left queues) place) (omega (arith, steps.0, steps.1, had)), grind (arith, nat_tests, steps.0, had))
  by (Some x) steps = (set ∙ ap (slice_set (counts_left queues) place) (omega (arith, steps.1, had)), grind (arith, nat_tests, steps.1, had))

-- The queues of as many parts as there are.
pub queue-more : {P : Type 0} (queues : List (IntoIter P Global)) (yielded : List (Vec P Global)) (kind : Vec P Global) (queue : IntoIter P Global) → into_iter_len queue ≡ length kind.items
    → counts_left queues ≡ counts_of yielded → counts_left (queues ++ queue ∷ []) ≡ counts_of (yielded ++ kind ∷ [])
queue-more {P = P} queues yielded kind queue long before =
    map-append (λ (x : IntoIter P Global). into_iter_len x) queues (queue ∷ []) ∙ ap (λ (l : List ℕ). l ++ into_iter_len queue ∷ []) before ∙ ap (λ (n : ℕ). counts_of yielded ++ n ∷ []) long
    ∙ sym (map-append (λ (v : Vec P Global). length v.items) yielded (kind ∷ []))

put : {X : Type 0} (new old : List X) → length new ≡ length old → take (length old) (new ++ drop (length new) old) ≡ new
put [] [] same = refl
put [] (o ∷ old) same = absurd (omega (arith, same))
put (n ∷ new) [] same = absurd (omega (arith, same))
put (n ∷ new) (o ∷ old) same = ap (λ l. n ∷ l) (put new old (omega (arith, same)))

-- As many queues that were lent for all that there are are all that there are.
pub put-back : {P : Type 0} (len : ℕ) (new old : List (IntoIter P Global)) → len ≡ length old → length (counts_left new) ≡ length (counts_left old) → take len (new ++ drop (length new) old) ≡ new
put-back {P = P} len new old all same =
    let long : length new ≡ length old = sym (length-map new (λ (x : IntoIter P Global). into_iter_len x)) ∙ same ∙ length-map old (λ (x : IntoIter P Global). into_iter_len x) in
    ap (λ (n : ℕ). take n (new ++ drop (length new) old)) all ∙ put new old long
