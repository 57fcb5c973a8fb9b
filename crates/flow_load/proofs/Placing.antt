-- The components of a plan's processes, made one after another.
use Rattle.std.proofs.Common.{◌≡◌, ◌≢◌, ◌⊎◌, inl, inr, ℕ, zero, suc, ◌+◌, ◌-◌, ◌<◌, ◌≤◌, Bool, true, false, cond, List, [], ◌∷◌, ◌++◌, length, map, drop, get_or, Option, Bor, Iter, Some, None, refl, sym, ◌∙◌, ap, subst, arith, length-append}
use Rattle.std.proofs.lemmas.List.{length-drop}
use Rattle.std.proofs.lemmas.Option.{slice_get-map, slice_get_within}
use Rattle.std.specs.Option.{option_and_then, option_copied, option_map}
use Rattle.std.specs.Prelude.{slice_get, is_some, MatchOption, Vec}
use Rattle.std.specs.Slice.Iter.{iter_rest, iter_steps}
use Rattle.std.specs.List.{filter, range_with_len}
use Rattle.std.proofs.Math.Seq.{drop-cons}
use Rattle.std.specs.declared.alloc.Global.{Global}
use Rattle.std.specs.declared.vec.IntoIter.{IntoIter}
use Rattle.std.specs.Vec.Iter.{into_iter_len, into_iter_steps}
use Rattle.flow_model.proofs.Lists.{same_or_not}
use Rattle.flow_plan.specs.declared.kind.KindSpec.{KindSpec}
use Rattle.flow_plan.specs.declared.plan.Process.{Process}
use Rattle.flow_plan.specs.Network.{Network}
use Rattle.flow_catalogue.specs.Processes.{IsStandard}
use Rattle.flow_own.specs.Parts.{Seen}
use Rattle.flow_own.specs.Mixed.{Own}
use Rattle.flow_own.specs.Tapes.{OwnValue}
use Rattle.flow_offer.specs.Fits.{player_at, part_at}
use Rattle.flow_offer.specs.Laws.{EachIsStandardOrOwn}
use Rattle.flow_offer.specs.Processes.{IsOfferedPlan, IsOwnAt, IsStandardOrOwn, place_of, own_place, own_processes}
use Rattle.flow_load.specs.Offers.{AnyKind, Taped}
use Rattle.flow_load.specs.Components.{AreComponents, AreLive, CanTake, HoldParts, TakesPart, TakesParts, TakesTape, contents_of, IsLiveComponent, IsPlayedComponent, IsPartAt, IsPlayerAt, IsStandardAt}
use Rattle.flow_load.specs.MadeJobs.{AreNoParts}
use Rattle.flow_load.proofs.Parting.{pushed}

-- The components of the first processes are such as these have to be.
pub record AreMade (Is : ℕ → List ℕ → AnyKind → Type 0) (given : List (List ℕ)) (k : ℕ) (components : List AnyKind) : Type 0 where
  pub count : length components ≡ k
  pub each : (p : ℕ) (component : AnyKind) → slice_get components p ≡ Some component → (bytes : List ℕ) × (slice_get given p ≡ Some bytes) × Is p bytes component

-- Before the first process there is none.
pub none-made : (Is : ℕ → List ℕ → AnyKind → Type 0) (given : List (List ℕ)) → AreMade Is given 0 []
none-made Is given = record { count = refl; each = λ p component there. absurd cc }

-- one process more
pub one-made : (Is : ℕ → List ℕ → AnyKind → Type 0) (given : List (List ℕ)) (k : ℕ) (components : List AnyKind) (bytes : List ℕ) (component : AnyKind)
    → AreMade Is given k components → slice_get given k ≡ Some bytes → Is k bytes component → AreMade Is given (k + 1) (components ++ component ∷ [])
one-made Is given k components bytes component are has is = record {
  count = omega (arith, length-append components (component ∷ []), are.count);
  each = λ p one there. each p one (pushed components component one p there);
} where
  each : (p : ℕ) (one : AnyKind) → (slice_get components p ≡ Some one) ⊎ ((p ≡ length components) × (one ≡ component)) → (b : List ℕ) × (slice_get given p ≡ Some b) × Is p b one
  each p one (inl there) = are.each p one there
  each p one (inr last) =
      let here : p ≡ k = last.0 ∙ are.count in
      (bytes, ap (slice_get given) here ∙ has, subst (λ n. Is n bytes one) (sym here) (subst (Is k bytes) (sym last.1) is))

-- A standard component, a live part and a player are each what their process asks for.
pub standard-live : (own : List KindSpec) (plan : Network) (p : ℕ) (bytes : List ℕ) (component : AnyKind) → IsStandardAt plan p bytes component → IsLiveComponent own plan p bytes component
standard-live own plan p bytes component is = subst (IsLiveComponent own plan p bytes) (sym is.1) is.2

-- A standard component is so in a replay too.
pub standard-played : (own : List KindSpec) (plan : Network) (p : ℕ) (bytes : List ℕ) (tape : Taped) (component : AnyKind) → IsStandardAt plan p bytes component
    → IsPlayedComponent own plan p bytes tape component
standard-played own plan p bytes tape component is = subst (IsPlayedComponent own plan p bytes tape) (sym is.1) is.2

-- So is a live part.
pub part-live : (own : List KindSpec) (plan : Network) (p : ℕ) (bytes : List ℕ) (seen : Seen) (component : AnyKind) → IsOwnAt own plan p → IsPartAt plan p seen component
    → IsLiveComponent own plan p bytes component
part-live own plan p bytes seen component is_own is =
    let same : is.0 ≡ is_own.process = (let a = is.1 in let b = is_own.there in cc) in
    subst (IsLiveComponent own plan p bytes) (sym is.2) (is_own, (seen, ap (λ (x : Process). part_at plan p x (Some seen)) same))

-- And so is a player.
pub player-played : (own : List KindSpec) (plan : Network) (p : ℕ) (bytes : List ℕ) (tape : Taped) (component : AnyKind) → IsOwnAt own plan p → IsPlayerAt plan p tape component
    → IsPlayedComponent own plan p bytes tape component
player-played own plan p bytes tape component is_own is =
    let same : is.0 ≡ is_own.process = (let a = is.1 in let b = is_own.there in cc) in
    subst (IsPlayedComponent own plan p bytes tape) (sym is.2) (is_own, ap (λ (x : Process). player_at plan p x tape) same)

-- What is left of a list tells what stands next in it, and what is left behind that.
pub next-left : {X : Type 0} (xs : List X) (k : ℕ) (x : X) (rest : List X) → drop k xs ≡ x ∷ rest → (slice_get xs k ≡ Some x) × (rest ≡ drop (k + 1) xs) × (k < length xs)
next-left [] zero x rest left = absurd cc
next-left [] (suc k) x rest left = absurd cc
next-left (y ∷ xs) zero x rest left = ((let same : y ≡ x = cc in ap (λ (z : _). Some z) same), (let same : xs ≡ rest = cc in sym same), omega arith)
next-left (y ∷ xs) (suc k) x rest left =
    let n = next-left xs k x rest left in
    let two : suc (k + 1) ≡ suc k + 1 = omega arith in
    (n.0, n.1 ∙ ap (λ m. drop m (y ∷ xs)) two, (let lt = n.2 in omega arith))

content-at : (given : List (Vec ℕ Global)) (k : ℕ) (bytes : Vec ℕ Global) → slice_get given k ≡ Some bytes → slice_get (contents_of given) k ≡ Some bytes.items
content-at given k bytes has = slice_get-map (λ (v : Vec ℕ Global). v.items) given k ∙ ap (option_map (λ (v : Vec ℕ Global). v.items)) has

-- How many of the numbers below this one pass.
abbrev pub rank : (ℕ → Bool) → ℕ → ℕ
rank test zero = 0
rank test (suc k) = rank test k + cond (test k) 1 0

rank-next : (test : ℕ → Bool) (a : ℕ) (passes : Bool) → test a ≡ passes → rank test (a + 1) ≡ rank test a + cond passes 1 0
rank-next test a passes is = let one : a + 1 ≡ suc a = omega arith in ap (rank test) one ∙ ap (λ b. rank test a + cond b 1 0) is

-- So many of the next numbers pass.
rank-more : (test : ℕ → Bool) (n a : ℕ) → length (filter test (range_with_len a n)) + rank test a ≡ rank test (a + n)
rank-more test zero a = let none : a ≡ a + 0 = omega arith in omega (arith, ap (rank test) none)
rank-more test (suc n) a = by (test a) refl (rank-more test n (a + 1)) (ap (rank test) far) where
  far : a + 1 + n ≡ a + suc n
  far = omega arith

  by : (passes : Bool) → test a ≡ passes → length (filter test (range_with_len (a + 1) n)) + rank test (a + 1) ≡ rank test (a + 1 + n) → rank test (a + 1 + n) ≡ rank test (a + suc n)
      → length (cond passes (a ∷ filter test (range_with_len (a + 1) n)) (filter test (range_with_len (a + 1) n))) + rank test a ≡ rank test (a + suc n)
  by true passes rest same = let next = rank-next test a true passes in omega (arith, next, rest, same)
  by false passes rest same = let next = rank-next test a false passes in omega (arith, next, rest, same)

-- Fewer pass below one that passes than there are.
pub rank-below : (test : ℕ → Bool) (n k : ℕ) → test k ≡ true → k < n → rank test k < length (filter test (range_with_len 0 n))
rank-below test n k passes below =
    let next = rank-next test k true passes in
    let more = rank-more test (n - (k + 1)) (k + 1) in
    let all = rank-more test n 0 in
    let far : k + 1 + (n - (k + 1)) ≡ 0 + n = omega arith in
    omega (arith, next, more, all, ap (rank test) far)

none-left : {X : Type 0} (xs : List X) (n : ℕ) → length xs ≤ n → drop n xs ≡ []
none-left [] zero few = refl
none-left [] (suc n) few = refl
none-left (x ∷ xs) zero few = absurd (omega arith)
none-left (x ∷ xs) (suc n) few = none-left xs n (omega arith)

-- Where a list is as long as there are numbers that pass, each of these has its own element, in order.
by-rank : {X : Type 0} (test : ℕ → Bool) (xs : List X) (d : X) (n a : ℕ) → length xs ≡ rank test a + length (filter test (range_with_len a n))
    → drop (rank test a) xs ≡ map (λ p. get_or xs (rank test p) d) (filter test (range_with_len a n))
by-rank test xs d zero a many = none-left xs (rank test a) (omega arith)
by-rank {X} test xs d (suc n) a many = by (test a) refl many (by-rank test xs d n (a + 1)) where
  by : (passes : Bool) → test a ≡ passes → length xs ≡ rank test a + length (cond passes (a ∷ filter test (range_with_len (a + 1) n)) (filter test (range_with_len (a + 1) n)))
      → (length xs ≡ rank test (a + 1) + length (filter test (range_with_len (a + 1) n)) → drop (rank test (a + 1)) xs ≡ map (λ p. get_or xs (rank test p) d) (filter test (range_with_len (a + 1) n)))
      → drop (rank test a) xs ≡ map (λ p. get_or xs (rank test p) d) (cond passes (a ∷ filter test (range_with_len (a + 1) n)) (filter test (range_with_len (a + 1) n)))
  by true passes many rest =
      let next = rank-next test a true passes in
      let one : rank test (a + 1) ≡ suc (rank test a) = omega (arith, next) in
      drop-cons xs (rank test a) d (omega arith) ∙ ap (λ l. get_or xs (rank test a) d ∷ l) (ap (λ m. drop m xs) (sym one) ∙ rest (omega (arith, one, many)))
  by false passes many rest =
      let next = rank-next test a false passes in
      let one : rank test (a + 1) ≡ rank test a = omega (arith, next) in
      ap (λ m. drop m xs) (sym one) ∙ rest (omega (arith, one, many))

-- A process is of a kind of the caller's own.
abbrev pub is_own_at : List KindSpec → Network → ℕ → Bool
is_own_at own plan p = is_some (own_place own plan p)

is-own : (own : List KindSpec) (plan : Network) (p : ℕ) (place : Option ℕ) → IsStandardOrOwn own plan p place → is_some place ≡ true → IsOwnAt own plan p
is-own own plan p (Some place) tells some = tells.0.is_own
is-own own plan p None tells some = absurd cc

-- A process that takes nothing where it isn't the caller's own can be made.
pub can-take : {T : Type 0} (own : List KindSpec) (plan : Network) (p : ℕ) → p < length plan.processes → IsStandardOrOwn own plan p (own_place own plan p) → (taken : Option T)
    → is_some taken ≡ is_own_at own plan p → CanTake plan p taken
can-take own plan p below tells (Some x) same = below
can-take own plan p below tells None same = standard (own_place own plan p) tells same where
  standard : (place : Option ℕ) → IsStandardOrOwn own plan p place → false ≡ is_some place → IsStandard plan p
  standard None tells same = tells.0
  standard (Some place) tells same = absurd cc

-- What took its part, or none where it isn't the caller's own, is live.
pub takes-live : {P : Type 0} (seen : P → Seen) (own : List KindSpec) (plan : Network) (p : ℕ) (bytes : List ℕ) → IsStandardOrOwn own plan p (own_place own plan p) → (part : Option P) (component : AnyKind)
    → is_some part ≡ is_own_at own plan p → TakesPart seen plan p bytes part component → IsLiveComponent own plan p bytes component
takes-live seen own plan p bytes tells (Some part) component same is = part-live own plan p bytes (seen part) component (is-own own plan p (own_place own plan p) tells (sym same)) is
takes-live seen own plan p bytes tells None component same is = standard-live own plan p bytes component is

-- The tape of a process of the caller's own: as many come before it as such processes do.
abbrev pub tape_of : List KindSpec → Network → List Taped → ℕ → Taped
tape_of own plan tapes p = get_or tapes (rank (is_own_at own plan) p) []

-- The tape of process p was taken, if it is the caller's own, and these are left for the processes behind it.
pub record TapeTaken (own : List KindSpec) (plan : Network) (tapes : List Taped) (p : ℕ) (tape : Option (Bor Taped)) (rest : List Taped) : Type 0 where
  pub there : is_some tape ≡ is_own_at own plan p
  pub same : MatchOption tape (Unit {0}) (λ t. t.now ≡ tape_of own plan tapes p)
  pub left : rest ≡ drop (rank (is_own_at own plan) (p + 1)) tapes

-- A process that isn't the caller's own takes no tape.
pub none-taken : (own : List KindSpec) (plan : Network) (tapes : List Taped) (p : ℕ) (rest : List Taped) → is_own_at own plan p ≡ false → rest ≡ drop (rank (is_own_at own plan) p) tapes
    → TapeTaken own plan tapes p None rest
none-taken own plan tapes p rest none is =
    let next = rank-next (is_own_at own plan) p false none in
    let one : rank (is_own_at own plan) p ≡ rank (is_own_at own plan) (p + 1) = omega (arith, next) in
    record { there = sym none; same = tt; left = is ∙ ap (λ m. drop m tapes) one }

some-next : (tapes : List Taped) (k : ℕ) (old new : Iter Taped) (tape : Option (Bor Taped)) → k < length tapes → iter_steps old tape new → iter_rest old ≡ drop k tapes
    → (is_some tape ≡ true) × MatchOption tape (Unit {0}) (λ t. t.now ≡ get_or tapes k []) × (iter_rest new ≡ drop (suc k) tapes)
some-next tapes k old new None below steps is = absurd (omega (arith, steps.0, ap length is, length-drop k tapes))
some-next tapes k old new (Some tape) below steps is =
    let cut : tape.now ∷ iter_rest new ≡ get_or tapes k [] ∷ drop (suc k) tapes = sym steps ∙ is ∙ drop-cons tapes k [] below in
    (refl, (let e : tape.now ≡ get_or tapes k [] = cc in e), (let e : iter_rest new ≡ drop (suc k) tapes = cc in e))

-- One that is takes the next tape.
pub some-taken : (own : List KindSpec) (plan : Network) (tapes : List Taped) (p : ℕ) (old new : Iter Taped) (tape : Option (Bor Taped)) → length tapes ≡ length (own_processes own plan)
    → p < length plan.processes → is_own_at own plan p ≡ true → iter_steps old tape new → iter_rest old ≡ drop (rank (is_own_at own plan) p) tapes → TapeTaken own plan tapes p tape (iter_rest new)
some-taken own plan tapes p old new tape many below some steps is =
    let place = rank-below (is_own_at own plan) (length plan.processes) p some below in
    let n = some-next tapes (rank (is_own_at own plan) p) old new tape (omega (arith, place, many)) steps is in
    let next = rank-next (is_own_at own plan) p true some in
    let one : suc (rank (is_own_at own plan) p) ≡ rank (is_own_at own plan) (p + 1) = omega (arith, next) in
    record { there = n.0 ∙ sym some; same = n.1; left = n.2 ∙ ap (λ m. drop m tapes) one }

-- What took its tape, or none where it isn't the caller's own, is a player of it.
pub takes-played : (own : List KindSpec) (plan : Network) (tapes : List Taped) (p : ℕ) (bytes : List ℕ) (rest : List Taped) → IsStandardOrOwn own plan p (own_place own plan p)
    → (tape : Option (Bor Taped)) (component : AnyKind) → TapeTaken own plan tapes p tape rest → TakesTape plan p bytes (option_copied tape) component
    → IsPlayedComponent own plan p bytes (tape_of own plan tapes p) component
takes-played own plan tapes p bytes rest tells (Some tape) component taken is =
    subst (λ t. IsPlayedComponent own plan p bytes t component) taken.same (player-played own plan p bytes tape.now component (is-own own plan p (own_place own plan p) tells (sym taken.there)) is)
takes-played own plan tapes p bytes rest tells None component taken is = standard-played own plan p bytes (tape_of own plan tapes p) component is

-- The live component of one process more.
pub one-live : {P : Type 0} (seen : P → Seen) (law : EachIsStandardOrOwn) (own : List KindSpec) (plan : Network) (given : List (Vec ℕ Global)) (parts : List (Option P)) (k : ℕ) (components : List AnyKind) (bytes : Vec ℕ Global)
    (part : Option P) (component : AnyKind) → IsOfferedPlan own plan → TakesParts own plan parts → slice_get given k ≡ Some bytes → slice_get parts k ≡ Some part → k < length plan.processes
    → AreMade (IsLiveComponent own plan) (contents_of given) k components → TakesPart seen plan k bytes.items part component
    → AreMade (IsLiveComponent own plan) (contents_of given) (k + 1) (components ++ component ∷ [])
one-live seen law own plan given parts k components bytes part component offered takes has there below are is =
    one-made (IsLiveComponent own plan) (contents_of given) k components bytes.items component are (content-at given k bytes has)
    (takes-live seen own plan k bytes.items (law own plan offered k below) part component (takes.each k part there) is)

-- The components of the first processes hold the parts that these took.
abbrev pub HoldSoFar : {P : Type 0} → (P → Seen) → List (Option P) → ℕ → List AnyKind → Type 0
HoldSoFar {P = P} seen parts k components = (p : ℕ) (part : P) → p < k → slice_get parts p ≡ Some (Some part) → (value : OwnValue) × (slice_get components p ≡ Some (Own value)) × (value.part ≡ Some (seen part))

-- What stood in a list stands there still when one was pushed behind it, and that one stands last.
stands-still : {X : Type 0} (xs : List X) (y x : X) (p : ℕ) → slice_get xs p ≡ Some x → slice_get (xs ++ y ∷ []) p ≡ Some x
stands-still [] y x p at = absurd cc
stands-still (z ∷ xs) y x zero at = at
stands-still (z ∷ xs) y x (suc p) at = stands-still xs y x p at

stands-last : {X : Type 0} (xs : List X) (y : X) (p : ℕ) → length xs ≡ p → slice_get (xs ++ y ∷ []) p ≡ Some y
stands-last [] y zero long = refl
stands-last [] y (suc p) long = absurd (omega (arith, long))
stands-last (z ∷ xs) y zero long = absurd (omega (arith, long))
stands-last (z ∷ xs) y (suc p) long = stands-last xs y p (omega (arith, long))

nearer : (p k : ℕ) → p < k + 1 → p ≢ k → p < k
nearer zero zero below other = absurd (other refl)
nearer zero (suc k) below other = omega arith
nearer (suc p) zero below other = absurd (omega (arith, below))
nearer (suc p) (suc k) below other =
    let less = nearer p k (omega (arith, below)) (λ same. other (ap suc same)) in
    omega (arith, less)

-- Before the first process no part is held.
pub none-held : {P : Type 0} (seen : P → Seen) (parts : List (Option P)) → HoldSoFar seen parts 0 []
none-held seen parts = λ p part below at. absurd (omega (arith, below))

-- One process more holds its part.
pub one-held : {P : Type 0} (seen : P → Seen) (plan : Network) (parts : List (Option P)) (k : ℕ) (components : List AnyKind) (bytes : List ℕ) (part : Option P) (component : AnyKind)
    → length components ≡ k → HoldSoFar seen parts k components → slice_get parts k ≡ Some part → TakesPart seen plan k bytes part component → HoldSoFar seen parts (k + 1) (components ++ component ∷ [])
one-held {P = P} seen plan parts k components bytes part component long held there takes = λ p one below at. by p one at (same_or_not p k) below where
  Holds : ℕ → P → Type 0
  Holds p one = (value : OwnValue) × (slice_get (components ++ component ∷ []) p ≡ Some (Own value)) × (value.part ≡ Some (seen one))

  last : (one : P) → TakesPart seen plan k bytes (Some one) component → Holds k one
  last one takes = (part_at plan k takes.0 (Some (seen one)), stands-last components component k long ∙ ap (λ (x : AnyKind). Some x) takes.2, refl)

  by : (p : ℕ) (one : P) → slice_get parts p ≡ Some (Some one) → (p ≡ k) ⊎ (p ≢ k) → p < k + 1 → Holds p one
  by p one at (inl same) below =
      let is : part ≡ Some one = (let a = ap (slice_get parts) same in cc) in
      subst (λ n. Holds n one) (sym same) (last one (subst (λ (o : Option P). TakesPart seen plan k bytes o component) is takes))
  by p one at (inr other) below =
      let h = held p one (nearer p k below other) at in
      (h.0, stands-still components component (Own h.0) p h.1, h.2)

-- Where one of two queues that go side by side has ended, all of both was taken.
pub both-over : {A B : Type 0} (a : IntoIter A Global) (b : IntoIter B Global) (k n : ℕ) → ((u : IntoIter A Global) × into_iter_steps a None u) ⊎ ((u : IntoIter B Global) × into_iter_steps b None u)
    → into_iter_len a + k ≡ n → into_iter_len b + k ≡ n → n ≡ k
both-over {A = A} {B = B} a b k n (inl over) first second = omega (arith, over.1.0, first)
both-over {A = A} {B = B} a b k n (inr over) first second = omega (arith, over.1.0, second)

-- The components hold all parts.
pub all-held : {P : Type 0} (seen : P → Seen) (parts : List (Option P)) (k : ℕ) (components : List AnyKind) → length parts ≡ k → HoldSoFar seen parts k components → HoldParts seen parts components
all-held {P = P} seen parts k components long held = λ p part at. held p part (omega (arith, slice_get_within parts p (Some part) at, long)) at

-- The player, or the standard component, of one process more.
pub one-played : (own : List KindSpec) (plan : Network) (given : List (Vec ℕ Global)) (tapes : List Taped) (k : ℕ) (components : List AnyKind) (bytes : Vec ℕ Global) (tape : Option (Bor Taped)) (rest : List Taped)
    (component : AnyKind) → IsStandardOrOwn own plan k (own_place own plan k) → slice_get given k ≡ Some bytes → TapeTaken own plan tapes k tape rest
    → AreMade (λ p bytes component. IsPlayedComponent own plan p bytes (tape_of own plan tapes p) component) (contents_of given) k components
    → TakesTape plan k bytes.items (option_copied tape) component
    → AreMade (λ p bytes component. IsPlayedComponent own plan p bytes (tape_of own plan tapes p) component) (contents_of given) (k + 1) (components ++ component ∷ [])
one-played own plan given tapes k components bytes tape rest component tells has taken are is =
    one-made (λ p bytes component. IsPlayedComponent own plan p bytes (tape_of own plan tapes p) component) (contents_of given) k components bytes.items component are (content-at given k bytes has)
    (takes-played own plan tapes k bytes.items rest tells tape component taken is)

-- Components that are made of all processes are those of the plan: live ones, and players.
pub all-live : (own : List KindSpec) (plan : Network) (given : List (List ℕ)) (components : List AnyKind) → AreMade (IsLiveComponent own plan) given (length plan.processes) components
    → AreLive own plan given components
all-live own plan given components are = record { count = are.count; each = are.each }

-- So are players, each with its own tape.
pub all-played : (own : List KindSpec) (plan : Network) (given : List (List ℕ)) (tapes : List Taped) (components : List AnyKind) → length tapes ≡ length (own_processes own plan)
    → AreMade (λ p bytes component. IsPlayedComponent own plan p bytes (tape_of own plan tapes p) component) given (length plan.processes) components → AreComponents own plan given tapes components
all-played own plan given tapes components many are = record {
  by = tape_of own plan tapes;
  tapes_are = by-rank (is_own_at own plan) tapes [] (length plan.processes) 0 (omega (arith, many));
  count = are.count;
  each = are.each;
}

no-place : (found : Option Process) → option_and_then (λ (process : Process). place_of [] process.kind) found ≡ None
no-place None = refl
no-place (Some process) = refl

-- Where the caller has no kinds of its own none of its parts is there.
pub none-takes : {P : Type 0} (plan : Network) (count : ℕ) (parts : List (Option P)) → count ≡ length plan.processes → AreNoParts count parts → TakesParts [] plan parts
none-takes {P} plan count parts all none = record {
  count = none.many ∙ all;
  each = λ p part there. ap (λ (o : Option P). is_some o) (none.each p part there) ∙ sym (ap (λ (o : Option ℕ). is_some o) (no-place (slice_get plan.processes p)));
}

-- One place more for a part, and none there.
pub one-place-more : {P : Type 0} (count : ℕ) (parts : List (Option P)) → AreNoParts count parts → AreNoParts (count + 1) (parts ++ None ∷ [])
one-place-more {P} count parts none = record {
  many = omega (arith, length-append {A = Option P} parts (None ∷ []), none.many);
  each = λ p part there. each p part (pushed parts None part p there);
} where
  each : (p : ℕ) (part : Option P) → (slice_get parts p ≡ Some part) ⊎ ((p ≡ length parts) × (part ≡ None)) → part ≡ None
  each p part (inl there) = none.each p part there
  each p part (inr last) = last.1

-- Before the first process there is no place for a part.
pub no-places : {P : Type 0} → AreNoParts {P = P} 0 []
no-places = record { many = refl; each = λ p part there. absurd cc }
