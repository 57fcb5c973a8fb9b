-- Each move of a pass keeps the rule of the line.
use Rattle.std.proofs.Common.{◌≡◌, ◌≢◌, ℕ, zero, suc, ◌+◌, ◌-◌, ◌<◌, ◌≤◌, List, [], ◌∷◌, ◌++◌, All, length, map, set, sym, refl, ap, ◌∙◌, subst, arith, ⊎_elim, length-append, length-set, append_assoc}
use Rattle.flow_limits.specs.declared.TheConstants.{WORKER_LIMIT}
use Rattle.std.specs.Prelude.{sum_by}
use Rattle.std.proofs.lemmas.List.Elements.{All-append}
use Rattle.std.proofs.lemmas.List.Sums.{sum_by-cons, sum_by_push}
use mathlib.Core.Option.{some, some-ne-none, some-injective}
use lib.ListN.{get_elem?}
use Rattle.crossbeam_queue.specs.Fifo.{Pushes, Pops, Forks, Merges, Learns}
use Rattle.crossbeam_queue.proofs.Lists.{at_set, set_here, set_else}
use Rattle.flow_floor.specs.Made.{Below, merge, renamed}
use Rattle.flow_floor.proofs.Made.{length-renamed, below-renamed}
use Rattle.flow_runner.specs.declared.line.Hand.{Hand}
use Rattle.flow_runner.specs.Fair.{hand, placed, placed_by, AreOf, Knows, Fair, IsFair, Was, WasWith, Put, Taken}
use Rattle.flow_runner.proofs.Places.{placed_by-next, placed_by-else, merge-placed, placed_by-renamed_else, placed_by-renamed_gone, placed_by-none, placed_by-all, placed_by-below, placed-processes}

-- a sum over the views after a change of one
total_set : (f : Hand → ℕ) (vs : List Hand) (j : ℕ) (v w : Hand) → get_elem? vs j ≡ some v → sum_by f (set vs j w) + f v ≡ sum_by f vs + f w
total_set f [] j v w at = absurd (some-ne-none v (sym at))
total_set f (u ∷ us) zero v w at = let e : f u ≡ f v = ap f (some-injective u v at) in omega (arith, e, sum_by-cons f w us, sum_by-cons f u us)
total_set f (u ∷ us) (suc j) v w at = let r = total_set f us j v w at in omega (arith, r, sum_by-cons f u (set us j w), sum_by-cons f u us)

total_one : (f : Hand → ℕ) (vs : List Hand) (j : ℕ) (v : Hand) → get_elem? vs j ≡ some v → f v ≤ sum_by f vs
total_one f [] j v at = absurd (some-ne-none v (sym at))
total_one f (u ∷ us) zero v at = let e : f u ≡ f v = ap f (some-injective u v at) in omega (arith, e, sum_by-cons f u us)
total_one f (u ∷ us) (suc j) v at = let r = total_one f us j v at in omega (arith, r, sum_by-cons f u us)

-- where one pass has all parts no other has any
others_none : (vs : List Hand) (j : ℕ) (v : Hand) → get_elem? vs j ≡ some v → sum_by (λ (u : Hand). u.parts) vs ≡ v.parts → (k : ℕ) (u : Hand) → get_elem? vs k ≡ some u → k ≢ j → u.parts ≡ 0
others_none vs j v at all k u e other =
    let bare : Hand = hand 0 0 [] [] in
    let rest = total_set (λ (x : Hand). x.parts) vs j v bare at in
    let one = total_one (λ (x : Hand). x.parts) (set vs j bare) k u (set_else vs j k bare other ∙ e) in omega (arith, rest, one, all)

each_set : (F : ℕ → Hand → Type 0) (vs : List Hand) (j : ℕ) (w : Hand) → F j w → ((k : ℕ) (u : Hand) → k ≢ j → get_elem? vs k ≡ some u → F k u) → (k : ℕ) (u : Hand) → get_elem? (set vs j w) k ≡ some u → F k u
each_set F vs j w mine others k u e =
    ⊎_elim (λ (x : (k ≡ j) × (w ≡ u)). subst (F k) x.1 (subst (λ i. F i w) (sym x.0) mine)) (λ (x : (k ≢ j) × (get_elem? vs k ≡ some u)). others k u x.0 x.1) (at_set vs j k w u e)

at_end : (vs : List Hand) (w u : Hand) (k : ℕ) → get_elem? (vs ++ w ∷ []) k ≡ some u → length vs ≤ k → (k ≡ length vs) × (w ≡ u)
at_end [] w u zero e le = (refl, some-injective w u e)
at_end [] w u (suc k) e le = absurd (some-ne-none u (sym e))
at_end (v ∷ vs) w u zero e le = absurd (omega (arith, le))
at_end (v ∷ vs) w u (suc k) e le = let r = at_end vs w u k e (omega (arith, le)) in (ap suc r.0, r.1)

-- what holds of each view holds still where one without a push and a pop joins them
each_snoc : (F : ℕ → Hand → Type 0) (vs : List Hand) (w : Hand) → ((k : ℕ) → length vs ≤ k → F k w) → ((k : ℕ) (u : Hand) → get_elem? vs k ≡ some u → F k u) → (k : ℕ) (u : Hand) → get_elem? (vs ++ w ∷ []) k ≡ some u → F k u
each_snoc F [] w mine others zero u e = subst (F 0) (some-injective w u e) (mine 0 (omega arith))
each_snoc F [] w mine others (suc k) u e = absurd (some-ne-none u (sym e))
each_snoc F (v ∷ vs) w mine others zero u e = others 0 u e
each_snoc F (v ∷ vs) w mine others (suc k) u e = each_snoc (λ i x. F (suc i) x) vs w (λ i le. mine (suc i) (omega (arith, le))) (λ i x at. others (suc i) x at) k u e

all_one : (m x : ℕ) → x < m → All (λ y. y < m) (x ∷ [])
all_one m x below zero d lt = below
all_one m x below (suc k) d lt = absurd (omega (arith, lt))

all_snoc : (m : ℕ) (xs : List ℕ) (x : ℕ) → All (λ y. y < m) xs → x < m → All (λ y. y < m) (xs ++ x ∷ [])
all_snoc m xs x all below = All-append (λ y. y < m) xs (x ∷ []) all (all_one m x below)

all_rest : (m x : ℕ) (xs : List ℕ) → All (λ y. y < m) (x ∷ xs) → (x < m) × All (λ y. y < m) xs
all_rest m x xs all = (all 0 0 (omega arith), λ k d lt. all (suc k) d (omega (arith, lt)))

all_below : (m n : ℕ) (xs : List ℕ) → m ≤ n → All (λ y. y < m) xs → All (λ y. y < n) xs
all_below m n xs le all k d lt = let h = all k d lt in omega (arith, h, le)

inside : (vs : List Hand) (j : ℕ) (v : Hand) → get_elem? vs j ≡ some v → j < length vs
inside [] j v at = absurd (some-ne-none v (sym at))
inside (u ∷ us) zero v at = omega arith
inside (u ∷ us) (suc j) v at = let r = inside us j v at in omega (arith, r)

some_view : (vs : List Hand) (j : ℕ) → j < length vs → (v : Hand) × (get_elem? vs j ≡ some v)
some_view [] j lt = absurd (omega (arith, lt))
some_view (v ∷ vs) zero lt = (v, refl)
some_view (v ∷ vs) (suc j) lt = some_view vs j (omega (arith, lt))

-- still of one of so many passes
of_more : (m n : ℕ) (by qs : List ℕ) → m ≤ n → AreOf m by qs → AreOf n by qs
of_more m n by qs le of = (of.0, all_below m n by le of.1)

of_snoc : (m : ℕ) (by qs : List ℕ) (j q : ℕ) → j < m → AreOf m by qs → AreOf m (by ++ j ∷ []) (qs ++ q ∷ [])
of_snoc m by qs j q below of = (omega (arith, length-append by (j ∷ []), length-append qs (q ∷ []), of.0), all_snoc m by j of.1 below)

-- A new line keeps the rule.
pub begins : IsFair [] (hand 0 WORKER_LIMIT [] [] ∷ [])
begins = (
  [],
  record {
    most = 0;
    parts = refl;
    each = each;
    within = λ k d lt. absurd (omega (arith, lt));
    room = omega arith;
    pushers = [];
    poppers = [];
    pushed = (refl, λ k d lt. absurd (omega (arith, lt)));
    popped = (refl, λ k d lt. absurd (omega (arith, lt)));
    put = λ j v at. (none j v at).0;
    taken = λ j v at. (none j v at).1;
  },
)
  where
    each : (j : ℕ) (v : Hand) → get_elem? (hand 0 WORKER_LIMIT [] [] ∷ []) j ≡ some v → Knows 0 v
    each zero v at = subst (Knows 0) (some-injective (hand 0 WORKER_LIMIT [] []) v at) ((λ _. refl), (λ none. absurd (omega (arith, none))))
    each (suc j) v at = absurd (some-ne-none v (sym at))

    none : (j : ℕ) (v : Hand) → get_elem? (hand 0 WORKER_LIMIT [] [] ∷ []) j ≡ some v → (v.put ≡ []) × (v.taken ≡ [])
    none zero v at = subst (λ (u : Hand). (u.put ≡ []) × (u.taken ≡ [])) (some-injective (hand 0 WORKER_LIMIT [] []) v at) (refl, refl)
    none (suc j) v at = absurd (some-ne-none v (sym at))

-- A push keeps it.
pub puts : (n port : ℕ) (v : Hand) (x : ℕ) → 0 < v.parts → x < v.most → n ≡ v.most → Pushes IsFair n port v x (Put v x)
puts n port v x part below cap items views room (gone, f) at =
    let w : Hand = hand v.most v.parts (v.put ++ (length (gone ++ items), x) ∷ []) v.taken in
    let vs = set views port w in
    let all = gone ++ items in
    let more : (all ++ x ∷ []) ≡ gone ++ (items ++ x ∷ []) = append_assoc gone items (x ∷ []) in
    let most : v.most ≡ f.most = (f.each port v at).0 part in
    let many : length vs ≡ length views = length-set views port w in
    let fair : Fair gone (items ++ x ∷ []) vs = record {
      most = f.most;
      parts = omega (arith, total_set (λ (u : Hand). u.parts) views port v w at, f.parts);
      each = each_set (λ _ u. Knows f.most u) views port w ((λ _. most), (λ none. absurd (omega (arith, none, part)))) (λ k u _ e. f.each k u e);
      within = all_snoc f.most items x f.within (omega (arith, below, most));
      room = omega (arith, length-append items (x ∷ []), room, cap, most);
      pushers = f.pushers ++ port ∷ [];
      poppers = f.poppers;
      pushed = subst (AreOf (length vs) (f.pushers ++ port ∷ [])) more (of_snoc (length vs) f.pushers all port x (let i = inside views port v at in omega (arith, many, i)) (of_more (length views) (length vs) f.pushers all (omega (arith, many)) f.pushed));
      popped = of_more (length views) (length vs) f.poppers gone (omega (arith, many)) f.popped;
      put = each_set (λ k u. u.put ≡ placed_by k 0 (f.pushers ++ port ∷ []) (gone ++ (items ++ x ∷ []))) views port w
          (ap (λ l. l ++ (length all, x) ∷ []) (f.put port v at) ∙ placed_by-next port f.pushers all x f.pushed.0 ∙ ap (placed_by port 0 (f.pushers ++ port ∷ [])) more)
          (λ k u other e. f.put k u e ∙ sym (placed_by-else k 0 port f.pushers all x f.pushed.0 other) ∙ ap (placed_by k 0 (f.pushers ++ port ∷ [])) more);
      taken = each_set (λ k u. u.taken ≡ placed_by k 0 f.poppers gone) views port w (f.taken port v at) (λ k u _ e. f.taken k u e);
    } in (w, (gone, fair), (gone, items, omega (arith, room, cap), refl, (views, port, f, at), (vs, port, fair, set_here views port w (inside views port v at))))

-- A pop keeps it.
pub pops : (port : ℕ) (v : Hand) → 0 < v.parts → Pops IsFair port v (Taken v)
pops port v part x items views (gone, f) at =
    let w : Hand = hand v.most v.parts v.put (v.taken ++ (length gone, x) ∷ []) in
    let vs = set views port w in
    let more : gone ++ (x ∷ items) ≡ (gone ++ x ∷ []) ++ items = sym (append_assoc gone (x ∷ []) items) in
    let most : v.most ≡ f.most = (f.each port v at).0 part in
    let many : length vs ≡ length views = length-set views port w in
    let all = all_rest f.most x items f.within in
    let fair : Fair (gone ++ x ∷ []) items vs = record {
      most = f.most;
      parts = omega (arith, total_set (λ (u : Hand). u.parts) views port v w at, f.parts);
      each = each_set (λ _ u. Knows f.most u) views port w ((λ _. most), (λ none. absurd (omega (arith, none, part)))) (λ k u _ e. f.each k u e);
      within = all.1;
      room = (let r = f.room in omega (arith, r));
      pushers = f.pushers;
      poppers = f.poppers ++ port ∷ [];
      pushed = subst (AreOf (length vs) f.pushers) more (of_more (length views) (length vs) f.pushers (gone ++ (x ∷ items)) (omega (arith, many)) f.pushed);
      popped = of_snoc (length vs) f.poppers gone port x (let i = inside views port v at in omega (arith, many, i)) (of_more (length views) (length vs) f.poppers gone (omega (arith, many)) f.popped);
      put = each_set (λ k u. u.put ≡ placed_by k 0 f.pushers ((gone ++ x ∷ []) ++ items)) views port w (f.put port v at ∙ ap (placed_by port 0 f.pushers) more) (λ k u _ e. f.put k u e ∙ ap (placed_by k 0 f.pushers) more);
      taken = each_set (λ k u. u.taken ≡ placed_by k 0 (f.poppers ++ port ∷ []) (gone ++ x ∷ [])) views port w
          (ap (λ l. l ++ (length gone, x) ∷ []) (f.taken port v at) ∙ placed_by-next port f.poppers gone x f.popped.0)
          (λ k u other e. f.taken k u e ∙ sym (placed_by-else k 0 port f.poppers gone x f.popped.0 other));
    } in (w, (gone ++ x ∷ [], fair), (gone, items, omega (arith, all.0, most), refl, (views, port, f, at), (vs, port, fair, set_here views port w (inside views port v at))))

-- What a pass learns of the line.
pub learns : (port : ℕ) (v : Hand) → Learns IsFair port v (WasWith v)
learns port v items views (gone, f) at = (gone, (views, port, f, at))

-- A view is changed in what isn't a push or a pop, and one that has neither joins them.
module _ {gone items : List ℕ} {views : List Hand} (f : Fair gone items views) (port : ℕ) (v l r : Hand) (at : get_elem? views port ≡ some v) (put : l.put ≡ v.put) (taken : l.taken ≡ v.taken) (bare : (r.put ≡ []) × (r.taken ≡ [])) where
  many : length (set views port l ++ r ∷ []) ≡ length views + 1
  many = omega (arith, length-append (set views port l) (r ∷ []), length-set views port l)

  joined-pushed : AreOf (length (set views port l ++ r ∷ [])) f.pushers (gone ++ items)
  joined-pushed = of_more (length views) (length (set views port l ++ r ∷ [])) f.pushers (gone ++ items) (omega (arith, many)) f.pushed

  joined-popped : AreOf (length (set views port l ++ r ∷ [])) f.poppers gone
  joined-popped = of_more (length views) (length (set views port l ++ r ∷ [])) f.poppers gone (omega (arith, many)) f.popped

  joined-put : (k : ℕ) (u : Hand) → get_elem? (set views port l ++ r ∷ []) k ≡ some u → u.put ≡ placed_by k 0 f.pushers (gone ++ items)
  joined-put = each_snoc (λ k u. u.put ≡ placed_by k 0 f.pushers (gone ++ items)) (set views port l) r
      (λ k le. bare.0 ∙ sym (placed_by-none k (length views) 0 f.pushers (gone ++ items) f.pushed.1 (omega (arith, le, length-set views port l))))
      (each_set (λ k u. u.put ≡ placed_by k 0 f.pushers (gone ++ items)) views port l (put ∙ f.put port v at) (λ k u _ e. f.put k u e))

  joined-taken : (k : ℕ) (u : Hand) → get_elem? (set views port l ++ r ∷ []) k ≡ some u → u.taken ≡ placed_by k 0 f.poppers gone
  joined-taken = each_snoc (λ k u. u.taken ≡ placed_by k 0 f.poppers gone) (set views port l) r
      (λ k le. bare.1 ∙ sym (placed_by-none k (length views) 0 f.poppers gone f.popped.1 (omega (arith, le, length-set views port l))))
      (each_set (λ k u. u.taken ≡ placed_by k 0 f.poppers gone) views port l (taken ∙ f.taken port v at) (λ k u _ e. f.taken k u e))

-- The first pass learns for how many processes the line is.
pub sizes : (n port : ℕ) (v : Hand) → v ≡ hand 0 WORKER_LIMIT [] [] → Forks IsFair port v (hand n v.parts v.put v.taken) (hand 0 0 [] [])
sizes n port v is items views (gone, f) at =
    let l : Hand = hand n v.parts v.put v.taken in
    let r : Hand = hand 0 0 [] [] in
    let all : v.parts ≡ WORKER_LIMIT = ap (λ (u : Hand). u.parts) is in
    let none_yet : v.most ≡ 0 = ap (λ (u : Hand). u.most) is in
    let vs = set views port l in
    let most : v.most ≡ f.most = (f.each port v at).0 (omega (arith, all)) in (
      gone,
      record {
        most = n;
        parts = omega (arith, sum_by_push (λ (u : Hand). u.parts) vs r, total_set (λ (u : Hand). u.parts) views port v l at, f.parts);
        each = each_snoc (λ _ u. Knows n u) vs r (λ _ _. ((λ some_part. absurd (omega (arith, some_part))), (λ _. (refl, refl))))
            (each_set (λ _ u. Knows n u) views port l ((λ _. refl), (λ none. absurd (omega (arith, none, all))))
            (λ k u other e. (let bare = others_none views port v at (f.parts ∙ sym all) k u e other in ((λ some_part. absurd (omega (arith, some_part, bare))), (f.each k u e).1))));
        within = λ k d lt. absurd (let r = f.within k d lt in omega (arith, r, most, none_yet));
        room = omega (arith, f.room, most, none_yet);
        pushers = f.pushers;
        poppers = f.poppers;
        pushed = joined-pushed f port v l r at refl refl (refl, refl);
        popped = joined-popped f port v l r at refl refl (refl, refl);
        put = joined-put f port v l r at refl refl (refl, refl);
        taken = joined-taken f port v l r at refl refl (refl, refl);
      },
    )

-- A pass is cut in two.
pub forks : (port : ℕ) (v : Hand) → 1 < v.parts → Forks IsFair port v (hand v.most (v.parts - 1) v.put v.taken) (hand v.most 1 [] [])
forks port v some_parts items views (gone, f) at =
    let l : Hand = hand v.most (v.parts - 1) v.put v.taken in
    let r : Hand = hand v.most 1 [] [] in
    let vs = set views port l in
    let most : v.most ≡ f.most = (f.each port v at).0 (omega (arith, some_parts)) in (
      gone,
      record {
        most = f.most;
        parts = omega (arith, sum_by_push (λ (u : Hand). u.parts) vs r, total_set (λ (u : Hand). u.parts) views port v l at, f.parts, some_parts);
        each = each_snoc (λ _ u. Knows f.most u) vs r (λ _ _. ((λ _. most), (λ _. (refl, refl)))) (each_set (λ _ u. Knows f.most u) views port l ((λ _. most), (λ none. absurd (omega (arith, none, some_parts)))) (λ k u _ e. f.each k u e));
        within = f.within;
        room = f.room;
        pushers = f.pushers;
        poppers = f.poppers;
        pushed = joined-pushed f port v l r at refl refl (refl, refl);
        popped = joined-popped f port v l r at refl refl (refl, refl);
        put = joined-put f port v l r at refl refl (refl, refl);
        taken = joined-taken f port v l r at refl refl (refl, refl);
      },
    )

-- What two passes have is had by one of them, and the other has nothing.
module _ (port other : ℕ) (two : other ≢ port) (views : List Hand) (v u both spent : Hand) (have : Hand → List (ℕ × ℕ)) (by qs : List ℕ) where
  taken-in : get_elem? views port ≡ some v → get_elem? views other ≡ some u → ((k : ℕ) (x : Hand) → get_elem? views k ≡ some x → have x ≡ placed_by k 0 by qs) → have both ≡ merge (have u) (have v) → have spent ≡ []
      → (k : ℕ) (x : Hand) → get_elem? (set (set views port both) other spent) k ≡ some x → have x ≡ placed_by k 0 (renamed other port by) qs
  taken-in at at' each is none =
      each_set (λ k x. have x ≡ placed_by k 0 (renamed other port by) qs) (set views port both) other spent (none ∙ sym (placed_by-renamed_gone other port 0 by qs two))
      (λ k x apart e. each_set (λ j y. j ≢ other → have y ≡ placed_by j 0 (renamed other port by) qs) views port both
      (λ _. is ∙ ap (λ l. merge l (have v)) (each other u at') ∙ ap (merge (placed_by other 0 by qs)) (each port v at) ∙ merge-placed other port 0 by qs two)
      (λ j y away at'' alone. each j y at'' ∙ sym (placed_by-renamed_else other port j 0 by qs alone away)) k x e apart)

-- Two passes are made one.
pub merges : (port : ℕ) (v : Hand) (other : ℕ) (u : Hand) → 0 < v.parts → Merges IsFair port v other u (hand v.most (v.parts + u.parts) (merge u.put v.put) (merge u.taken v.taken)) (hand 0 0 [] [])
merges port v other u part items views (gone, f) at two at' =
    let both : Hand = hand v.most (v.parts + u.parts) (merge u.put v.put) (merge u.taken v.taken) in
    let spent : Hand = hand 0 0 [] [] in
    let vs = set views port both in
    let most : v.most ≡ f.most = (f.each port v at).0 part in
    let was : get_elem? views other ≡ some u = sym (set_else views port other both two) ∙ at' in
    let here = inside views port v at in
    let many : length (set vs other spent) ≡ length views = length-set vs other spent ∙ length-set views port both in (
      gone,
      record {
        most = f.most;
        parts = omega (arith, total_set (λ (x : Hand). x.parts) vs other u spent at', total_set (λ (x : Hand). x.parts) views port v both at, f.parts);
        each = each_set (λ _ x. Knows f.most x) vs other spent ((λ some_part. absurd (omega (arith, some_part))), (λ _. (refl, refl)))
            (λ k x _ e. each_set (λ _ y. Knows f.most y) views port both ((λ _. most), (λ none. absurd (omega (arith, none, part)))) (λ j y _ e'. f.each j y e') k x e);
        within = f.within;
        room = f.room;
        pushers = renamed other port f.pushers;
        poppers = renamed other port f.poppers;
        pushed = (length-renamed other port f.pushers ∙ f.pushed.0, all_below (length views) (length (set vs other spent)) (renamed other port f.pushers) (omega (arith, many)) (below-renamed other port (length views) f.pushers here f.pushed.1));
        popped = (length-renamed other port f.poppers ∙ f.popped.0, all_below (length views) (length (set vs other spent)) (renamed other port f.poppers) (omega (arith, many)) (below-renamed other port (length views) f.poppers here f.popped.1));
        put = taken-in port other two views v u both spent (λ x. x.put) f.pushers (gone ++ items) at was f.put refl refl;
        taken = taken-in port other two views v u both spent (λ x. x.taken) f.poppers gone at was f.taken refl refl;
      },
    )

-- A pass with all parts knows the whole.
pub alone : (v : Hand) (gone items : List ℕ) → Was v gone items → v.parts ≡ WORKER_LIMIT → (v.put ≡ placed 0 (gone ++ items)) × (v.taken ≡ placed 0 gone)
alone v gone items (views, j, f, at) all = (
  f.put j v at ∙ placed_by-all j (length views) 0 f.pushers (gone ++ items) f.pushed.0 f.pushed.1 (λ k lt other. let u = some_view views k lt in sym (f.put k u.0 u.1) ∙ (none k u.0 u.1 other).0),
  f.taken j v at ∙ placed_by-all j (length views) 0 f.poppers gone f.popped.0 f.popped.1 (λ k lt other. let u = some_view views k lt in sym (f.taken k u.0 u.1) ∙ (none k u.0 u.1 other).1),
)
  where
    none : (k : ℕ) (u : Hand) → get_elem? views k ≡ some u → k ≢ j → (u.put ≡ []) × (u.taken ≡ [])
    none k u e other = (f.each k u e).1 (others_none views j v at (f.parts ∙ sym all) k u e other)

-- What the only pass pushed is what it popped, and behind it what the line holds.
pub alone-leaves : (v : Hand) (gone items : List ℕ) → Was v gone items → v.parts ≡ WORKER_LIMIT → map (λ (s : ℕ × ℕ). s.1) v.put ≡ map (λ (s : ℕ × ℕ). s.1) v.taken ++ items
alone-leaves v gone items was all = let whole = alone v gone items was all in let names = map (λ (s : ℕ × ℕ). s.1) in
    ap names whole.0 ∙ placed-processes 0 (gone ++ items) ∙ ap (λ l. l ++ items) (sym (ap names whole.1 ∙ placed-processes 0 gone))

-- The line holds no more numbers than processes.
pub room-of : (v : Hand) (gone items : List ℕ) → Was v gone items → 0 < v.parts → length items ≤ v.most
room-of v gone items (views, j, f, at) part = let most = (f.each j v at).0 part in omega (arith, f.room, most)

-- What a pass pushed stands before all that isn't pushed yet, and what it popped before all that isn't popped yet.
pub puts-below : (v : Hand) (gone items : List ℕ) → Was v gone items → Below (length (gone ++ items)) v.put
puts-below v gone items (views, j, f, at) = subst (Below (length (gone ++ items))) (sym (f.put j v at)) (placed_by-below j 0 (length (gone ++ items)) f.pushers (gone ++ items) (omega arith))

-- What it popped stands before any place behind all that was popped.
pub takes-below : (v : Hand) (gone items : List ℕ) (m : ℕ) → length gone ≤ m → Was v gone items → Below m v.taken
takes-below v gone items m le (views, j, f, at) = subst (Below m) (sym (f.taken j v at)) (placed_by-below j 0 m f.poppers gone (omega (arith, le)))
