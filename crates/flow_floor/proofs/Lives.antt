-- The live word is read, counted up and counted down, and a process is poked.
use Rattle.std.proofs.Common.{◌≡◌, ℕ, ◌+◌, ◌-◌, ◌%◌, ◌^◌, ◌<◌, ◌≤◌, Bool, true, false, cond, List, ◌∷◌, length, get_or, set, sym, refl, ap, ◌∙◌, subst, arith, Option, Some, None, length-set, get_or-set_other, get_or-set_same, ◌⊎◌, inl, inr, nat_eq, bit_or, ◌==◌, Contains, drop}
use Rattle.std.specs.Prelude.{◌||◌}
use mathlib.Core.Logic.{dite}
use mathlib.Core.Option.{none, some}
use native.Mathlib.Decide.{ℕ_discrete}
use lib.ListN.{get_elem?}
use Rattle.std.proofs.lemmas.Bool.Decides.{nat_tests}
use Rattle.atomic_table.specs.Table.{step, keeps, Allows}
use Rattle.flow_component.specs.Laws.{Rules, Lawful}
use Rattle.flow_machine.specs.Values.{BodyValue, NetValue}
use Rattle.flow_limits.specs.declared.TheConstants.{PROCESS_LIMIT, WORKER_LIMIT}
use Rattle.flow_ring.specs.Words.{level_in, senders_in}
use Rattle.flow_floor.specs.declared.board.View.{View}
use Rattle.flow_floor.specs.declared.board.Look.{Look}
use Rattle.flow_floor.specs.Law.{IsTaken, IsFree, Stands, AllSeen}
use Rattle.flow_floor.specs.Ends.{capacities_of}
use Rattle.flow_floor.specs.Waking.{counts, IsDoneWord, AllBlock, Keeps}
use Rattle.flow_floor.specs.Rule.{Law}
use Rattle.flow_floor.specs.Plays.{Sat, raised, poked, lowered, told_live}
use Rattle.flow_floor.specs.Views.{raising, poking, lowering, reading}
use Rattle.flow_floor.proofs.Lists.{get-exists}
use Rattle.flow_floor.proofs.Cells.{St, state}
use Rattle.flow_floor.proofs.Flows.{mine-holds, flow-view}
use Rattle.flow_floor.proofs.Retires.{low-undone, done-set, done-beyond}
use Rattle.flow_floor.proofs.Wakes.{live-one, live-most, live-other, total_le, total_one}
use Rattle.flow_floor.proofs.Wakings.{word-taken, body-below, wakes-view, wakes-poke}

module _ {K : Type 0} (rules : Rules K) (lawful : Lawful rules)
    (start : NetValue K) where
  abbrev Rule : St K → Type 0
  Rule = Law rules start

  abbrev P : ℕ
  P = length start.bodies

  abbrev C : ℕ
  C = length (capacities_of start)

  abbrev L : ℕ
  L = P + C + C + 1

  -- the live word and the seat's tokens change together
  law-live : (s : St K) (id y : ℕ) (v w : View K) → Rule s → get_elem? s.views id ≡ some v → y + v.spare ≡ get_or s.words L 0 + w.spare → (get_or s.words L 0 ≡ 0 → y ≡ 0) → w.held ≡ v.held → w.sending ≡ v.sending → w.receiving ≡ v.receiving → w.made ≡ v.made → w.seen ≡ v.seen
      → w.shares ≡ v.shares → w.spare ≤ w.shares → w.noted ≡ v.noted → (w.read_zero ≡ true → y ≡ 0) → Rule (state (set s.words L y) s.homes (set s.views id w))
  law-live s id y v w r at live falls held sending receiving made seen shares few noted zeros =
      let f = r.flow in
      let g = r.beside in
      let ws' = set s.words L y in
      let wide = f.wide in
      let here = get_or-set_same s.words L y 0 (omega arith) in
      let ks = r.wakes.each id v at in
      let other = λ (q : ℕ) (low : q < L). get_or-set_other s.words L q y 0 (λ e. omega (arith, low, e)) in
      record {
        beside = g;
        flow = flow-view rules lawful start s g id v w ws' f at (length-set s.words L y) (λ q below. (let e = other q (omega arith) in (subst IsFree (sym e), subst IsTaken (sym e)))) (λ q a b. other q (omega arith)) held sending receiving made
            (subst (λ (z : Option (ℕ × BodyValue K) × List Look). AllSeen P g.now z.0 z.1) (λ j. (sym held j, sym seen j)) (f.each_seat id v at).seen);
        planned = r.planned;
        wakes = wakes-view rules lawful start s g g ws' s.homes id v w f r.wakes at refl (λ q below. other q (omega arith)) (live-other P L y s.words (omega arith))
            (λ c below. (let e = other (P + c) (omega arith) in (ap level_in e, ap senders_in e))) (omega (arith, here, live)) (λ z. here ∙ falls z) held shares
            (record { spare = few; noted = λ e. noted ∙ ks.noted (sym held ∙ e); zero = λ z. here ∙ zeros z; bare = λ e. (let n = ks.bare (sym shares ∙ e) in (held ∙ n.0, made ∙ n.1)) }) (λ q there. subst (λ (xs : List ℕ). Contains xs q) (sym noted) there) (λ q z h all. subst (AllBlock P start.channels ws' z) (sym seen) all);
        done = done-beyond s.words L y g.now.bodies (omega (arith, f.same.0)) r.done;
      }

  -- the process that a seat holds counts, so the live word isn't 0
  live-held : (s : St K) (r : Rule s) (id p : ℕ) (v : View K) (b : BodyValue K) → get_elem? s.views id ≡ some v → v.held ≡ Some (p, b) → 1 ≤ get_or s.words L 0
  live-held s r id p v b at holds =
      let f = r.flow in
      let mine = mine-holds rules lawful start s r.beside id p v b f at holds in
      let below = body-below rules lawful start s r.beside p b f mine.1 in
      let one = live-one P p s.words below (omega (arith, f.wide, below)) in
      let counted = counted-one (get_or s.words p 0) (word-taken rules lawful start s r.beside id p v b f at holds) in
      omega (arith, r.wakes.live, one, counted)
    where
      counted-one : (w : ℕ) → IsTaken w → counts w ≡ 1
      counted-one w (inl e) = ap counts e
      counted-one w (inr e) = ap counts e

  -- the live word is small
  live-few : (s : St K) (r : Rule s) → get_or s.words L 0 ≤ PROCESS_LIMIT + WORKER_LIMIT
  live-few s r =
      let spare = total_le (λ (x : View K). x.spare) (λ (x : View K). x.shares) s.views (λ j v e. (r.wakes.each j v e).spare) in
      let few : P ≤ 128 = omega (arith, r.flow.fit.few, r.flow.same.0) in
      omega (arith, r.wakes.live, live-most P s.words, spare, r.wakes.shares, few)

  pub raises : (slots i id p : ℕ) (me : Sat K) (b : BodyValue K) → i ≡ L → me.0.held ≡ Some (p, b) → me.0.spare ≡ 0 → 0 < me.0.shares → Allows Rule slots id me i (λ x. (x + 1) % 2 ^ 64) (raised (step slots i 1 0 none) me)
  raises slots i id p me b place holds none_spare share s r deep at fits =
      let v = me.0 in
      let x = get_or s.words i 0 in
      let w = raising v in
      let x_is : x ≡ get_or s.words L 0 = ap (λ n. get_or s.words n 0) place in
      let up : (x + 1) % 2 ^ 64 ≡ x + 1 = omega (arith, x_is, live-few s r) in
      let some_live = live-held s r id p v b at holds in
      let ks = r.wakes.each id v at in (
        w,
        keeps,
        tt,
        subst (λ (z : ℕ × ℕ). Rule (state (set s.words z.0 z.1) s.homes (set s.views id w))) (λ j. (sym place j, sym up j))
            (law-live s id (x + 1) v w r at (omega (arith, x_is)) (λ e. absurd (omega (arith, e, some_live))) refl refl refl refl refl refl (omega (arith, none_spare, share)) refl (λ e. absurd (omega (arith, ks.zero e, some_live)))),
        refl,
      )

  pub lowers : (slots i id : ℕ) (me : Sat K) → i ≡ L → 0 < me.0.spare → Allows Rule slots id me i (λ n. (n + (2 ^ 64 - 1)) % 2 ^ 64) (lowered (step slots i 1 0 none) me)
  lowers slots i id me place some_spare s r deep at fits =
      let v = me.0 in
      let x = get_or s.words i 0 in
      let w = lowering v in
      let x_is : x ≡ get_or s.words L 0 = ap (λ n. get_or s.words n 0) place in
      let one = total_one (λ (y : View K). y.spare) s.views id v at in
      let live = r.wakes.live in
      let some_live : 1 ≤ x = omega (arith, x_is, live, one, some_spare) in
      let few = live-few s r in
      let down : (x + (2 ^ 64 - 1)) % 2 ^ 64 ≡ x - 1 = omega (arith, some_live, x_is, few) in
      let ks = r.wakes.each id v at in (
        w,
        keeps,
        tt,
        subst (λ (z : ℕ × ℕ). Rule (state (set s.words z.0 z.1) s.homes (set s.views id w))) (λ j. (sym place j, sym down j))
            (law-live s id (x - 1) v w r at (omega (arith, x_is, some_live, some_spare)) (λ e. omega (arith, e, x_is)) refl refl refl refl refl refl (omega (arith, ks.spare)) refl (λ e. omega (arith, ks.zero e, x_is))),
        refl,
      )

  pub reads : (slots i id : ℕ) (me : Sat K) → i ≡ L → Allows Rule slots id me i (λ n. n) (told_live (step slots i 0 0 none) me)
  reads slots i id me place s r deep at fits =
      let v = me.0 in
      let x = get_or s.words i 0 in
      let w = reading v i x in
      let x_is : x ≡ get_or s.words L 0 = ap (λ n. get_or s.words n 0) place in
      let ks = r.wakes.each id v at in (
        w,
        keeps,
        tt,
        subst (λ (n : ℕ). Rule (state (set s.words n x) s.homes (set s.views id w))) (sym place)
            (law-live s id x v w r at (omega (arith, x_is)) (λ e. x_is ∙ e) refl refl refl refl refl refl ks.spare refl (λ e. by v.read_zero refl (nat_eq x 0) refl ks e x_is)),
        refl,
      )
    where
      by : {v : View K} {x l : ℕ} (a : Bool) → v.read_zero ≡ a → (b : Bool) → nat_eq x 0 ≡ b → Keeps l v → (v.read_zero || nat_eq x 0) ≡ true → x ≡ l → x ≡ 0
      by true was b is ks e x_is = x_is ∙ ks.zero was
      by {v} {x} false was true is ks e x_is = grind (arith, nat_tests)
      by {v} {x} false was false is ks e x_is = absurd (let t : (false || false) ≡ true = (λ j. sym was j || sym is j) ∙ e in cc)

  -- what a poke makes of a process word
  record Poke (x : ℕ) : Type 0 where
    high : 1 < bit_or x 2
    free : IsFree x → IsFree (bit_or x 2)
    taken : IsTaken x → IsTaken (bit_or x 2)
    spare : cond (x == 0) 0 1 + counts (bit_or x 2) ≡ 1 + counts x
    done : IsDoneWord (bit_or x 2) → IsDoneWord x

  poke-of : (x : ℕ) → IsFree x ⊎ IsTaken x → Poke x
  poke-of x (inl (inl e)) = subst Poke (sym e) (record { high = omega arith; free = λ _. inr (inl refl); taken = λ t. absurd (no-taken 0 t (omega arith)); spare = refl; done = λ t. absurd (low-undone 2 (omega arith) t) })
    where
      no-taken : (w : ℕ) → IsTaken w → w ≡ 0 → ⊥
      no-taken w (inl a) b = omega (arith, a, b)
      no-taken w (inr a) b = omega (arith, a, b)
  poke-of x (inl (inr (inl e))) = subst Poke (sym e) (record { high = omega arith; free = λ _. inr (inl refl); taken = λ t. absurd (no-taken 2 t refl); spare = refl; done = λ t. absurd (low-undone 2 (omega arith) t) })
    where
      no-taken : (w : ℕ) → IsTaken w → w ≡ 2 → ⊥
      no-taken w (inl a) b = omega (arith, a, b)
      no-taken w (inr a) b = omega (arith, a, b)
  poke-of x (inl (inr (inr (inl e)))) = subst Poke (sym e) (record { high = omega arith; free = λ _. inr (inr (inr refl)); taken = λ t. absurd (no-taken 4 t refl); spare = refl; done = λ t. inl refl })
    where
      no-taken : (w : ℕ) → IsTaken w → w ≡ 4 → ⊥
      no-taken w (inl a) b = omega (arith, a, b)
      no-taken w (inr a) b = omega (arith, a, b)
  poke-of x (inl (inr (inr (inr e)))) = subst Poke (sym e) (record { high = omega arith; free = λ _. inr (inr (inr refl)); taken = λ t. absurd (no-taken 6 t refl); spare = refl; done = λ t. inr refl })
    where
      no-taken : (w : ℕ) → IsTaken w → w ≡ 6 → ⊥
      no-taken w (inl a) b = omega (arith, a, b)
      no-taken w (inr a) b = omega (arith, a, b)
  poke-of x (inr (inl e)) = subst Poke (sym e) (record { high = omega arith; free = λ t. absurd (no-free 1 t refl); taken = λ _. inr refl; spare = refl; done = λ t. absurd (low-undone 3 (omega arith) t) })
    where
      no-free : (w : ℕ) → IsFree w → w ≡ 1 → ⊥
      no-free w (inl a) b = omega (arith, a, b)
      no-free w (inr (inl a)) b = omega (arith, a, b)
      no-free w (inr (inr (inl a))) b = omega (arith, a, b)
      no-free w (inr (inr (inr a))) b = omega (arith, a, b)
  poke-of x (inr (inr e)) = subst Poke (sym e) (record { high = omega arith; free = λ t. absurd (no-free 3 t refl); taken = λ _. inr refl; spare = refl; done = λ t. absurd (low-undone 3 (omega arith) t) })
    where
      no-free : (w : ℕ) → IsFree w → w ≡ 3 → ⊥
      no-free w (inl a) b = omega (arith, a, b)
      no-free w (inr (inl a)) b = omega (arith, a, b)
      no-free w (inr (inr (inl a))) b = omega (arith, a, b)
      no-free w (inr (inr (inr a))) b = omega (arith, a, b)

  pub word-of : (s : St K) (q : ℕ) (b : BodyValue K) (h : Option ℕ) → Stands s q b h → IsFree (get_or s.words q 0) ⊎ IsTaken (get_or s.words q 0)
  word-of s q b None k = inl k.0
  word-of s q b (Some j) k = inr k.0

  pub pokes : (slots i id p : ℕ) (me : Sat K) (b : BodyValue K) (more : List ℕ) → i < P → me.0.held ≡ Some (p, b) → me.0.noted ≡ i ∷ more → me.0.spare ≡ 1 → 0 < me.0.shares → Allows Rule slots id me i (λ n. bit_or n 2) (poked (step slots i 2 0 none) me)
  pokes slots i id p me b more below holds notes one_spare share s r deep at fits =
      let v = me.0 in
      let f = r.flow in
      let g = r.beside in
      let x = get_or s.words i 0 in
      let y = bit_or x 2 in
      let w = poking v x in
      let there = get-exists g.now.bodies i (omega (arith, below, f.same.0)) in
      let k = poke-of x (word-of s i there.0 (g.holder i) (f.each_process i there.0 there.1)) in
      let ks = f.each_seat id v at in
      let wide = f.wide in
      let ws' = set s.words i y in
      let here = get_or-set_same s.words i y 0 (omega arith) in
      let spent : w.spare ≡ cond (x == 0) 0 1 = ap (λ (m : ℕ). cond (x == 0) (m - 1) m) one_spare in
      let rest_is : w.noted ≡ more = ap (drop 1) notes in
      let low = cond-most (x == 0) in (
        w,
        keeps,
        tt,
        record {
          beside = g;
          flow = flow-view rules lawful start s g id v w ws' f at (length-set s.words i y)
              (λ q q_below. dite (ℕ_discrete q i)
              (λ e. (
                λ t. subst IsFree (sym (ap (λ n. get_or ws' n 0) e ∙ here)) (k.free (subst (λ n. IsFree (get_or s.words n 0)) e t)),
                λ t. subst IsTaken (sym (ap (λ n. get_or ws' n 0) e ∙ here)) (k.taken (subst (λ n. IsTaken (get_or s.words n 0)) e t)),
              ))
              (λ other. (let e = get_or-set_other s.words i q y 0 other in (subst IsFree (sym e), subst IsTaken (sym e)))))
              (λ q a b. get_or-set_other s.words i q y 0 (λ e. omega (arith, e, below, a))) refl refl refl refl ks.seen;
          planned = r.planned;
          wakes = wakes-poke rules lawful start s g g id p i y s.homes v w b f r.wakes at holds refl below k.high (notes ∙ ap (λ (l : List ℕ). i ∷ l) (sym rest_is)) (omega (arith, spent, k.spare, one_spare)) (omega (arith, spent, low, share)) refl refl refl refl;
          done = done-set s.words i y g.now.bodies (omega (arith, below, wide)) (λ z at_i is. r.done i z at_i (k.done is)) r.done;
        },
        refl,
      )
    where
      cond-most : (b : Bool) → cond b 0 1 ≤ 1
      cond-most true = omega arith
      cond-most false = omega arith
