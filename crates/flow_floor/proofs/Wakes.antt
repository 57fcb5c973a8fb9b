-- What stays of the second half of the rule where one seat steps.
use Rattle.std.proofs.Common.{◌≡◌, ◌≢◌, ℕ, zero, suc, ◌+◌, ◌<◌, ◌≤◌, List, [], ◌∷◌, length, get_or, set, sym, refl, ap, ◌∙◌, subst, arith, Some, slice_get, ◌⊎◌, inl, inr, Contains, Bool, true, false, cond, nat_eq}
use Rattle.std.specs.Prelude.{sum_by, ◌||◌}
use Rattle.std.proofs.lemmas.List.Sums.{sum_by-cons}
use mathlib.Core.Logic.{dite}
use native.Mathlib.Decide.{ℕ_discrete}
use mathlib.Core.Option.{some, some-ne-none, some-injective}
use lib.ListN.{get_elem?}
use Rattle.atomic_table.proofs.Lists.{set_here, set_else}
use Rattle.flow_component.specs.declared.Wish.TheVariants as wishes
use Rattle.flow_model.specs.Stages.{IsThoughtStage}
use Rattle.flow_model.specs.Stands.{ChannelShown}
use Rattle.flow_model.specs.declared.Stage.{Stage}
use Rattle.flow_model.specs.declared.Stage.TheVariants as stages
use Rattle.flow_machine.specs.Values.{BodyValue, NetValue}
use Rattle.flow_ring.specs.Words.{level_in, senders_in}
use Rattle.flow_floor.specs.declared.board.View.{View}
use Rattle.flow_floor.specs.declared.board.Look.{Look}
use Rattle.flow_floor.specs.Ends.{capacities_of}
use Rattle.flow_floor.specs.Law.{Beside}
use Rattle.flow_floor.specs.Waking.{live_in, WordsBlock, IsWiredAs, IsNoted, AllBlock, Keeps, Wakes, counts, IsEmptyAt, IsOpenAt}
use Rattle.flow_floor.specs.Wired.{IsInput, IsOutput}
use Rattle.flow_floor.proofs.Seats.{seats_stay}
use Rattle.flow_floor.proofs.Lists.{at_inside}
use Rattle.flow_floor.proofs.Cells.{St, Homes, state}

-- one process word of the first n changes
pub live-set : (n i y : ℕ) (ws : List ℕ) → i < n → i < length ws → live_in n (set ws i y) + counts (get_or ws i 0) ≡ live_in n ws + counts y
live-set zero i y ws below within = absurd (omega (arith, below))
live-set (suc n) i y [] below within = absurd (omega (arith, within))
live-set (suc n) zero y (w ∷ ws) below within = let a : counts y + live_in n ws + counts w ≡ counts w + live_in n ws + counts y = omega arith in a
live-set (suc n) (suc i) y (w ∷ ws) below within =
    let r = live-set n i y ws (omega (arith, below)) (omega (arith, within)) in
    let a : counts w + live_in n (set ws i y) + counts (get_or ws i 0) ≡ counts w + live_in n ws + counts y = omega (arith, r) in a

-- A word behind those of the processes doesn't change how many are live.
pub live-other : (n i y : ℕ) (ws : List ℕ) → n ≤ i → live_in n (set ws i y) ≡ live_in n ws
live-other zero i y ws above = refl
live-other (suc n) zero y ws above = absurd (omega (arith, above))
live-other (suc n) (suc i) y [] above = refl
live-other (suc n) (suc i) y (w ∷ ws) above = ap (λ m. counts w + m) (live-other n i y ws (omega (arith, above)))

-- an element that counts is counted
pub live-one : (n i : ℕ) (ws : List ℕ) → i < n → i < length ws → counts (get_or ws i 0) ≤ live_in n ws
live-one zero i ws below within = absurd (omega (arith, below))
live-one (suc n) i [] below within = absurd (omega (arith, within))
live-one (suc n) zero (w ∷ ws) below within = let a : counts w ≤ counts w + live_in n ws = omega arith in a
live-one (suc n) (suc i) (w ∷ ws) below within = let r = live-one n i ws (omega (arith, below)) (omega (arith, within)) in let a : counts (get_or ws i 0) ≤ counts w + live_in n ws = omega (arith, r) in a

counts-most : (w : ℕ) → counts w ≤ 1
counts-most w = by ((nat_eq w 1) || ((nat_eq w 2) || (nat_eq w 3)))
  where
    by : (b : Bool) → cond b 1 0 ≤ 1
    by true = omega arith
    by false = omega arith

-- At most all processes are live.
pub live-most : (n : ℕ) (ws : List ℕ) → live_in n ws ≤ n
live-most zero ws = omega arith
live-most (suc n) [] = omega arith
live-most (suc n) (w ∷ ws) = let r = live-most n ws in let c = counts-most w in let a : counts w + live_in n ws ≤ suc n = omega (arith, r, c) in a

module _ {K : Type 0} where
  -- No word became one that blocks this process less.
  abbrev pub Calm : ℕ → BodyValue K → List ℕ → List ℕ → Type 0
  Calm n b ws ws' = (c : ℕ) → (IsInput b c → (level_in (get_or ws' (n + c) 0) ≤ level_in (get_or ws (n + c) 0)) × (senders_in (get_or ws (n + c) 0) ≤ senders_in (get_or ws' (n + c) 0)))
      × (IsOutput b c → level_in (get_or ws (n + c) 0) ≤ level_in (get_or ws' (n + c) 0))

  -- An empty input stays empty, and an open one open.
  still-empty : (n : ℕ) (b : BodyValue K) (ws ws' : List ℕ) → Calm n b ws ws' → (c : ℕ) → IsInput b c → IsEmptyAt n ws c → IsEmptyAt n ws' c
  still-empty n b ws ws' calm c input empty = let a = ((calm c).0 input).0 in omega (arith, a, empty)

  still-open : (n : ℕ) (b : BodyValue K) (ws ws' : List ℕ) → Calm n b ws ws' → (c : ℕ) → IsInput b c → IsOpenAt n ws c → IsOpenAt n ws' c
  still-open n b ws ws' calm c input opened = let a = ((calm c).0 input).1 in omega (arith, a, opened)

  pub block-calm : (n : ℕ) (channels : List ChannelShown) (ws ws' : List ℕ) (b : BodyValue K) (stage : Stage) → Calm n b ws ws' → WordsBlock n channels ws b stage → WordsBlock n channels ws' b stage
  block-calm n channels ws ws' b stages.Idle calm (inl (c, signal, empty, opened, why)) = inl (
    c,
    signal,
    still-empty n b ws ws' calm c (inr signal) empty,
    still-open n b ws ws' calm c (inr signal) opened,
    elim why [
      | inl unsignalled ↦ inl unsignalled
      | inr worked ↦ inr (λ i d at. still-empty n b ws ws' calm d (inl (i, at)) (worked.0 i d at), worked.1)
    ],
  )
  block-calm n channels ws ws' b stages.Idle calm (inr (streams, (i, c, at, opened), signal)) =
      inr (
        λ j d is. still-empty n b ws ws' calm d (inl (j, is)) (streams j d is),
        (i, c, at, still-open n b ws ws' calm c (inl (i, at)) opened),
        elim signal [
          | inl signalled ↦ inl signalled
          | inr empties ↦ inr (λ d is. still-empty n b ws ws' calm d (inr is) (empties d is))
        ],
      )
  block-calm n channels ws ws' b (stages.Wishing (wishes.Receive port)) calm (c, is, empty, some_sender) =
      let a = (calm c).0 (inl (port.0, is)) in (c, is, omega (arith, a.0, empty), omega (arith, a.1, some_sender))
  block-calm n channels ws ws' b (stages.Wishing (wishes.Send port id)) calm (c, k, is, there, full) = let a = (calm c).1 (port.0, is) in (c, k, is, there, omega (arith, a, full))
  block-calm n channels ws ws' b (stages.Wishing (wishes.Level port)) calm x = x
  block-calm n channels ws ws' b (stages.Wishing wishes.Deactivate) calm x = x
  block-calm n channels ws ws' b (stages.Told answer) calm x = x
  block-calm n channels ws ws' b (stages.Closing i) calm x = x
  block-calm n channels ws ws' b stages.Ended calm x = x
  block-calm n channels ws ws' b (stages.Failed cause) calm x = x

  -- the same words are calm
  pub calm-same : (n : ℕ) (b : BodyValue K) (ws ws' : List ℕ) → ((c : ℕ) → (level_in (get_or ws' (n + c) 0) ≡ level_in (get_or ws (n + c) 0)) × (senders_in (get_or ws' (n + c) 0) ≡ senders_in (get_or ws (n + c) 0))) → Calm n b ws ws'
  calm-same n b ws ws' same c = (λ input. (omega (arith, (same c).0), omega (arith, (same c).1)), λ output. omega (arith, (same c).0))

  -- a sum over the views after a change of one
  pub total_set : (f : View K → ℕ) (vs : List (View K)) (id : ℕ) (v w : View K) → get_elem? vs id ≡ some v → sum_by f (set vs id w) + f v ≡ sum_by f vs + f w
  total_set f [] id v w at = absurd (some-ne-none v (sym at))
  total_set f (u ∷ us) zero v w at = let same = some-injective u v at in let e : f u ≡ f v = ap f same in omega (arith, e, sum_by-cons f w us, sum_by-cons f u us)
  total_set f (u ∷ us) (suc id) v w at = let r = total_set f us id v w at in omega (arith, r, sum_by-cons f u (set us id w), sum_by-cons f u us)

  pub total_le : (f h : View K → ℕ) (vs : List (View K)) → ((j : ℕ) (v : View K) → get_elem? vs j ≡ some v → f v ≤ h v) → sum_by f vs ≤ sum_by h vs
  total_le f h [] each = omega arith
  total_le f h (u ∷ us) each = let r = total_le f h us (λ j v e. each (suc j) v e) in let a = each 0 u refl in omega (arith, r, a, sum_by-cons f u us, sum_by-cons h u us)

  pub total_one : (f : View K → ℕ) (vs : List (View K)) (j : ℕ) (v : View K) → get_elem? vs j ≡ some v → f v ≤ sum_by f vs
  total_one f [] j v at = absurd (some-ne-none v (sym at))
  total_one f (u ∷ us) zero v at = let e : f u ≡ f v = ap f (some-injective u v at) in omega (arith, e, sum_by-cons f u us)
  total_one f (u ∷ us) (suc j) v at = let r = total_one f us j v at in omega (arith, r, sum_by-cons f u us)

  pub still-calm : (n : ℕ) (channels : List ChannelShown) (ws ws' : List ℕ) (b : BodyValue K) (seen : List Look) → Calm n b ws ws' → AllBlock n channels ws b seen → AllBlock n channels ws' b seen
  still-calm n channels ws ws' b [] calm all = tt
  still-calm n channels ws ws' b (look ∷ seen) calm (first, rest) = (
    λ c at. (
      λ input. (let a = (calm c).0 input in let f = (first c at).0 input in (λ none. (let e = f.0 none in omega (arith, a.0, e)), λ some_one. (let e = f.1 some_one in omega (arith, a.1, e)))),
      λ output k there full. (let a = (calm c).1 output in let e = (first c at).1 output k there full in omega (arith, a, e)),
    ),
    still-calm n channels ws ws' b seen calm rest,
  )

  -- where a note that a seat had is still there, or its process was poked
  noted-keep : (s : St K) (ws' : List ℕ) (id q : ℕ) (v w : View K) → get_elem? s.views id ≡ some v → (Contains v.noted q → Contains w.noted q ⊎ (1 < get_or ws' q 0)) → IsNoted s.views q → IsNoted (set s.views id w) q ⊎ (1 < get_or ws' q 0)
  noted-keep s ws' id q v w at keep (j, u, u_at, there) = dite (ℕ_discrete j id)
      (λ e. let was : u ≡ v = some-injective u v (sym u_at ∙ (ap (get_elem? s.views) e ∙ at)) in
      elim (keep (subst (λ (x : View K). Contains x.noted q) was there)) [
        | inl kept ↦ inl (id, w, set_here s.views id w (at_inside s.views id v at), kept)
        | inr poked ↦ inr poked
      ])
      (λ other. inl (j, u, set_else s.views id j w other ∙ u_at, there))

  module _ (start : NetValue K) where
    abbrev P : ℕ
    P = length start.bodies

    abbrev C : ℕ
    C = length (capacities_of start)

    abbrev L : ℕ
    L = P + C + C + 1

    -- One seat steps. Each process that was blocked stays blocked, is noted, or was poked; and what the seat itself parks, holds or counts is told.
    pub wakes-keep : (s : St K) (g g' : Beside K) (ws' : List ℕ) (hs' : Homes K) (id : ℕ) (v w : View K) → Wakes start s g → get_elem? s.views id ≡ some v → IsWiredAs start g'.now
        → get_or ws' L 0 ≡ live_in P ws' + sum_by (λ (x : View K). x.spare) (set s.views id w) → w.shares ≡ v.shares → (get_or s.words L 0 ≡ 0 → get_or ws' L 0 ≡ 0) → Keeps (get_or ws' L 0) w
        → ((q : ℕ) → Contains v.noted q → Contains w.noted q ⊎ (1 < get_or ws' q 0))
        → ((q : ℕ) (b : BodyValue K) → slice_get g.now.bodies q ≡ Some b → Calm P b s.words ws' ⊎ IsNoted (set s.views id w) q)
        → ((q : ℕ) (b : BodyValue K) → slice_get g'.now.bodies q ≡ Some b → get_or ws' q 0 ≡ 0 → ((get_or s.words q 0 ≡ 0) × (slice_get g.now.bodies q ≡ Some b)) ⊎ (IsThoughtStage b.process.stage × (WordsBlock P start.channels ws' b b.process.stage ⊎ IsNoted (set s.views id w) q)))
        → ((q : ℕ) (b : BodyValue K) → w.held ≡ Some (q, b) → get_or ws' q 0 ≡ 1 → AllBlock P start.channels ws' b w.seen ⊎ IsNoted (set s.views id w) q)
        → ((j q : ℕ) (u : View K) (b : BodyValue K) → j ≢ id → get_elem? s.views j ≡ some u → u.held ≡ Some (q, b) → get_or ws' q 0 ≡ 1 → (get_or s.words q 0 ≡ 1) × (slice_get g.now.bodies q ≡ Some b))
        → Wakes start (state ws' hs' (set s.views id w)) g'
    wakes-keep s g g' ws' hs' id v w k at wired live shares zero_keep mine notes calm parked own others = record {
      wired = wired;
      live = live;
      shares = omega (arith, total_set (λ (x : View K). x.shares) s.views id v w at, k.shares, shares);
      each = seats_stay (λ j u. Keeps (get_or ws' L 0) u) s.views id w mine (λ j u other e. (let o = k.each j u e in record { spare = o.spare; noted = o.noted; zero = λ z. zero_keep (o.zero z); bare = o.bare }));
      parked = λ q b there empty. elim (parked q b there empty) [
        | inl was ↦ (let old = k.parked q b was.1 was.0 in (
          old.0,
          elim (calm q b was.1) [
            | inl c ↦ (elim old.1 [
              | inl blocks ↦ inl (block-calm P start.channels s.words ws' b b.process.stage c blocks)
              | inr noted ↦ inr (still-noted q (omega (arith, empty)) (noted-keep s ws' id q v w at (notes q) noted))
            ])
            | inr noted ↦ inr noted
          ],
        ))
        | inr new ↦ new
      ];
      held = λ j q u b e. seats_stay (λ j u. (q : ℕ) (b : BodyValue K) → u.held ≡ Some (q, b) → get_or ws' q 0 ≡ 1 → AllBlock P start.channels ws' b u.seen ⊎ IsNoted (set s.views id w) q) s.views id w own
          (λ j u other e q b holds one. (let o = others j q u b other e holds one in
          elim (calm q b o.1) [
            | inl c ↦ (elim (k.held j q u b e holds o.0) [
              | inl blocks ↦ inl (still-calm P start.channels s.words ws' b u.seen c blocks)
              | inr noted ↦ inr (still-noted q (omega (arith, one)) (noted-keep s ws' id q v w at (notes q) noted))
            ])
            | inr noted ↦ inr noted
          ])) j u e q b;
    }
      where
        still-noted : (q : ℕ) → get_or ws' q 0 ≤ 1 → IsNoted (set s.views id w) q ⊎ (1 < get_or ws' q 0) → IsNoted (set s.views id w) q
        still-noted q low (inl noted) = noted
        still-noted q low (inr high) = absurd (omega (arith, low, high))
