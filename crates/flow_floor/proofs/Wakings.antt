-- Each kind of step keeps the second half of the rule.
use Rattle.std.proofs.Common.{◌≡◌, ◌≢◌, ℕ, zero, suc, ◌+◌, ◌<◌, ◌≤◌, true, List, [], ◌∷◌, length, get_or, set, sym, refl, ap, ◌∙◌, subst, arith, Option, Some, None, slice_get, slice_set, length-set, get_or-set_other, get_or-set_same, ◌⊎◌, inl, inr, Contains}
use Rattle.std.specs.Prelude.{option_and_then}
use Rattle.std.proofs.lemmas.List.{length-map}
use mathlib.Core.Option.{some, some-injective}
use lib.ListN.{get_elem?}
use Rattle.atomic_table.proofs.Lists.{set_here, set_else}
use Rattle.flow_component.specs.Laws.{Rules, Lawful}
use Rattle.flow_model.specs.States.{Input, From, Text, output_at}
use Rattle.flow_model.specs.Events.{Event}
use Rattle.flow_model.specs.Stages.{IsThoughtStage}
use Rattle.flow_model.specs.Stands.{ChannelShown, all_shown_after, shown_changed}
use Rattle.flow_model.proofs.Lists.{slice_get-set_same, slice_get-set_other, same_or_not}
use Rattle.flow_model.proofs.Order.{inputs-after, outputs-after, signal-after}
use Rattle.flow_machine.specs.Values.{BodyValue, NetValue}
use Rattle.flow_machine.specs.Outlets.{output_in}
use Rattle.flow_machine.proofs.FitLemmas.{same-turns, channels-len}
use Rattle.flow_ring.specs.Words.{level_in, senders_in}
use Rattle.flow_floor.specs.declared.board.View.{View}
use Rattle.flow_floor.specs.declared.board.Look.{Look}
use Rattle.flow_floor.specs.Law.{IsTaken, IsFree, Rests, Holds, Stands, Beside, Flow}
use Rattle.flow_floor.specs.Ends.{capacities_of}
use Rattle.flow_floor.specs.Wired.{IsInput, IsOutput}
use Rattle.flow_floor.specs.Turning.{turned_body, with_body, turned_net}
use Rattle.flow_floor.specs.Waking.{counts, live_in, WordsBlock, IsWiredAs, Notes, IsNoted, StillBlocks, AllBlock, Keeps, Wakes}
use Rattle.flow_floor.proofs.Numbers.{contains-none, contains-cases}
use Rattle.flow_floor.proofs.Lists.{at_inside, some_Some, get-exists, get-within}
use Rattle.flow_floor.proofs.Cells.{St, Homes, state}
use Rattle.flow_floor.proofs.Channels.{SameInputs, input-same}
use Rattle.flow_floor.proofs.Wakes.{live-set, live-other, Calm, block-calm, calm-same, total_set, still-calm, wakes-keep}
use Rattle.flow_model.specs.Turns.{change_of}
use Rattle.flow_model.proofs.Changes.{get-one}
use Rattle.flow_model.proofs.Moves.{capacity-shown}
use Rattle.flow_model.proofs.Stages.{same-found}

taken-counts : (w : ℕ) → IsTaken w → counts w ≡ 1
taken-counts w (inl e) = ap counts e
taken-counts w (inr e) = ap counts e

taken-some : (w : ℕ) → IsTaken w → w ≡ 0 → ⊥
taken-some w (inl e) z = omega (arith, e, z)
taken-some w (inr e) z = omega (arith, e, z)

free-other : (w : ℕ) → IsFree w → w ≡ 1 → ⊥
free-other w (inl e) z = omega (arith, e, z)
free-other w (inr (inl e)) z = omega (arith, e, z)
free-other w (inr (inr (inl e))) z = omega (arith, e, z)
free-other w (inr (inr (inr e))) z = omega (arith, e, z)

capacity-after : (e : Event) (cs : List ChannelShown) (c : ℕ) (k k' : ChannelShown) → slice_get cs c ≡ Some k → slice_get (all_shown_after e cs) c ≡ Some k' → k'.capacity ≡ k.capacity
capacity-after e cs c k k' at at' =
    let was = get-one shown_changed cs (change_of e) c k' at' in
    let same : was.0.capacity ≡ k.capacity = ap (λ (x : ChannelShown). x.capacity) (same-found (sym was.1 ∙ at)) in
    elim was.2 [
      | inl still ↦ ap (λ (x : ChannelShown). x.capacity) still ∙ same
      | inr change ↦ ap (λ (x : ChannelShown). x.capacity) change.3 ∙ capacity-shown change.0.change was.0 ∙ same
    ]

module _ {K : Type 0} (rules : Rules K) (lawful : Lawful rules)
    (start : NetValue K) where
  abbrev F : St K → Beside K → Type 0
  F s g = Flow rules start s g

  abbrev W : St K → Beside K → Type 0
  W s g = Wakes start s g

  abbrev P : ℕ
  P = length start.bodies

  abbrev C : ℕ
  C = length (capacities_of start)

  abbrev L : ℕ
  L = P + C + C + 1

  holds-of : (s : St K) (g : Beside K) (j q : ℕ) (u : View K) (b : BodyValue K) → F s g → get_elem? s.views j ≡ some u → u.held ≡ Some (q, b) → (g.holder q ≡ Some j) × (slice_get g.now.bodies q ≡ Some b)
  holds-of s g j q u b f at is = subst (Holds g.holder g.now j) is (f.each_seat j u at).holds

  pub word-taken : (s : St K) (g : Beside K) (j q : ℕ) (u : View K) (b : BodyValue K) → F s g → get_elem? s.views j ≡ some u → u.held ≡ Some (q, b) → IsTaken (get_or s.words q 0)
  word-taken s g j q u b f at is = let h = holds-of s g j q u b f at is in (subst (Stands s q b) h.0 (f.each_process q b h.1)).0

  pub body-below : (s : St K) (g : Beside K) (q : ℕ) (b : BodyValue K) → F s g → slice_get g.now.bodies q ≡ Some b → q < P
  body-below s g q b f there = omega (arith, get-within g.now.bodies q b there, f.same.0)

  -- other seats hold other processes
  apart : (s : St K) (g : Beside K) (id j p q : ℕ) (v u : View K) (b x : BodyValue K) → F s g → get_elem? s.views id ≡ some v → v.held ≡ Some (p, b) → get_elem? s.views j ≡ some u → u.held ≡ Some (q, x) → j ≢ id → q ≢ p
  apart s g id j p q v u b x f at holds u_at u_holds other same = other (some_Some j id (sym (holds-of s g j q u x f u_at u_holds).0 ∙ ap g.holder same ∙ (holds-of s g id p v b f at holds).0))

  calm-all : (ws ws' : List ℕ) → ((c : ℕ) → get_or ws' (P + c) 0 ≡ get_or ws (P + c) 0) → (b : BodyValue K) → Calm P b ws ws'
  calm-all ws ws' same b = calm-same P b ws ws' (λ c. (ap level_in (same c), ap senders_in (same c)))

  -- what a seat keeps where it holds a process
  keeps-held : (live : ℕ) (p : ℕ) (b : BodyValue K) (w : View K) → w.held ≡ Some (p, b) → w.spare ≤ w.shares → (w.read_zero ≡ true → live ≡ 0) → (w.shares ≡ 0 → ⊥) → Keeps live w
  keeps-held live p b w holds spare zeros share = record { spare = spare; noted = λ none. (let e : None ≡ Some (p, b) = sym none ∙ holds in absurd (cc)); zero = zeros; bare = λ e. absurd (share e) }

  -- a seat that holds a process has a share
  has-share : (live p : ℕ) (b : BodyValue K) (v w : View K) → Keeps live v → v.held ≡ Some (p, b) → w.shares ≡ v.shares → w.shares ≡ 0 → ⊥
  has-share live p b v w ks holds shares e = let a : v.held ≡ None = (ks.bare (sym shares ∙ e)).0 in let gone : None ≡ Some (p, b) = sym a ∙ holds in absurd (cc)

  still-body : (ws : List ℕ) (b d : BodyValue K) (seen : List Look) → SameInputs b d → d.process.outputs ≡ b.process.outputs → AllBlock P start.channels ws b seen → AllBlock P start.channels ws d seen
  still-body ws b d [] inputs outputs all = tt
  still-body ws b d (look ∷ seen) inputs outputs (first, rest) = (
    λ c at. (λ input. (first c at).0 (input-same c b d inputs input), λ output. (first c at).1 (output.0, by output)),
    still-body ws b d seen inputs outputs rest,
  )
    where
      by : {c : ℕ} (output : IsOutput d c) → output_at b.process output.0 ≡ Some c
      by {c} output = ap (λ (xs : List (Option ℕ)). option_and_then (λ (y : Option ℕ). y) (slice_get xs output.0)) (sym outputs) ∙ output.1

  wired-body : (now : NetValue K) (p : ℕ) (b d : BodyValue K) → slice_get now.bodies p ≡ Some b → d.process.inputs ≡ b.process.inputs → d.process.outputs ≡ b.process.outputs → d.process.signal ≡ b.process.signal → IsWiredAs start now
      → (cs : List ChannelShown) → ((c : ℕ) (k k0 : ChannelShown) → slice_get cs c ≡ Some k → slice_get start.channels c ≡ Some k0 → k.capacity ≡ k0.capacity) → IsWiredAs start (record now { bodies = slice_set now.bodies p d; channels = cs })
  wired-body now p b d there inputs outputs signal wired cs capacities = record {
    inputs = λ q x x0 is is0. elim (same_or_not q p) [
      | inl same ↦ (ap (λ (y : BodyValue K). y.process.inputs) (sym (here q x same is)) ∙ inputs ∙ wired.inputs p b x0 there (ap (slice_get start.bodies) (sym same) ∙ is0))
      | inr other ↦ wired.inputs q x x0 (sym (slice_get-set_other now.bodies p q d other) ∙ is) is0
    ];
    outputs = λ q x x0 is is0. elim (same_or_not q p) [
      | inl same ↦ (ap (λ (y : BodyValue K). y.process.outputs) (sym (here q x same is)) ∙ outputs ∙ wired.outputs p b x0 there (ap (slice_get start.bodies) (sym same) ∙ is0))
      | inr other ↦ wired.outputs q x x0 (sym (slice_get-set_other now.bodies p q d other) ∙ is) is0
    ];
    signal = λ q x x0 is is0. elim (same_or_not q p) [
      | inl same ↦ (ap (λ (y : BodyValue K). y.process.signal) (sym (here q x same is)) ∙ signal ∙ wired.signal p b x0 there (ap (slice_get start.bodies) (sym same) ∙ is0))
      | inr other ↦ wired.signal q x x0 (sym (slice_get-set_other now.bodies p q d other) ∙ is) is0
    ];
    signals = λ q c x is at. elim (same_or_not q p) [
      | inl same ↦ wired.signals p c b there (sym signal ∙ ap (λ (y : BodyValue K). y.process.signal) (here q x same is) ∙ at)
      | inr other ↦ wired.signals q c x (sym (slice_get-set_other now.bodies p q d other) ∙ is) at
    ];
    capacities = capacities;
  }
    where
      here : (q : ℕ) (x : BodyValue K) → q ≡ p → slice_get (slice_set now.bodies p d) q ≡ Some x → d ≡ x
      here q x same is = some_Some d x (sym (slice_get-set_same now.bodies p b d there) ∙ ap (slice_get (slice_set now.bodies p d)) (sym same) ∙ is)

  -- the work that was to come is in the list
  pub wakes-commit : (s : St K) (g : Beside K) (id p : ℕ) (v w : View K) (b d : BodyValue K) → F s g → W s g → get_elem? s.views id ≡ some v → v.held ≡ Some (p, b) → Rests rules b d
      → w.held ≡ Some (p, d) → w.shares ≡ v.shares → w.spare ≡ v.spare → w.noted ≡ v.noted → w.read_zero ≡ v.read_zero → w.seen ≡ v.seen → W (state s.words s.homes (set s.views id w)) (record g { now = with_body g.now p d })
  wakes-commit s g id p v w b d f k at holds r held shares spare noted zeros seen =
      let mine = holds-of s g id p v b f at holds in
      let same = same-turns rules lawful b d r.0 in
      let taken = word-taken s g id p v b f at holds in
      let ks = k.each id v at in
      wakes-keep start s g (record g { now = with_body g.now p d }) s.words s.homes id v w k at (wired-body g.now p b d mine.1 same.1 same.2 same.3 k.wired g.now.channels k.wired.capacities)
      (omega (arith, k.live, total_set (λ (x : View K). x.spare) s.views id v w at, spare)) shares (λ z. z)
      (keeps-held (get_or s.words L 0) p d w held (omega (arith, ks.spare, spare, shares)) (λ z. ks.zero (sym zeros ∙ z)) (has-share (get_or s.words L 0) p b v w ks holds shares))
      (λ q there. inl (subst (λ (xs : List ℕ). Contains xs q) (sym noted) there)) (λ q x there. inl (calm-all s.words s.words (λ c. refl) x))
      (λ q x is empty. inl (empty, sym (slice_get-set_other g.now.bodies p q d (λ e. taken-some (get_or s.words p 0) taken (ap (λ n. get_or s.words n 0) (sym e) ∙ empty))) ∙ is))
      (λ q x is one.
      (let e : Some (p, d) ≡ Some (q, x) = sym held ∙ is in
      let pair = some_Some (p, d) (q, x) e in
      let qp : p ≡ q = ap (λ (y : ℕ × BodyValue K). y.0) pair in
      let xd : d ≡ x = ap (λ (y : ℕ × BodyValue K). y.1) pair in
      elim (k.held id p v b at holds (ap (λ n. get_or s.words n 0) qp ∙ one)) [
        | inl all ↦ inl (subst (λ (y : BodyValue K). AllBlock P start.channels s.words y w.seen) xd (subst (AllBlock P start.channels s.words d) (sym seen) (still-body s.words b d v.seen (same.1, same.3) same.2 all)))
        | inr note ↦ inr (subst (λ n. IsNoted (set s.views id w) n) qp (noted-same s id p v w at noted note))
      ]))
      (λ j q u x other u_at u_holds one. (one, (holds-of s g j q u x f u_at u_holds).1))
    where
      noted-same : (s : St K) (id q : ℕ) (v w : View K) → get_elem? s.views id ≡ some v → w.noted ≡ v.noted → IsNoted s.views q → IsNoted (set s.views id w) q
      noted-same s id q v w at noted (j, u, u_at, there) = elim (same_or_not j id) [
        | inl e ↦ (let was : u ≡ v = some-injective u v (sym u_at ∙ (ap (get_elem? s.views) e ∙ at)) in
            (id, w, set_here s.views id w (at_inside s.views id v at), subst (λ (xs : List ℕ). Contains xs q) (sym noted) (subst (λ (x : View K). Contains x.noted q) was there)))
        | inr other ↦ (j, u, set_else s.views id j w other ∙ u_at, there)
      ]

  -- a ready process is taken
  pub wakes-claim : (s : St K) (g : Beside K) (id p : ℕ) (hs' : Homes K) (v w : View K) (b : BodyValue K) → F s g → W s g → get_elem? s.views id ≡ some v → slice_get g.now.bodies p ≡ Some b → g.holder p ≡ None → get_or s.words p 0 ≡ 2
      → 0 < v.shares → w.held ≡ Some (p, b) → w.shares ≡ v.shares → w.spare ≡ v.spare → w.noted ≡ v.noted → w.read_zero ≡ v.read_zero → w.seen ≡ [] → (h' : ℕ → Option ℕ) → W (state (set s.words p 1) hs' (set s.views id w)) (record g { holder = h' })
  wakes-claim s g id p hs' v w b f k at there free two share held shares spare noted zeros seen h' =
      let below = body-below s g p b f there in
      let wide = f.wide in
      let ws' = set s.words p 1 in
      let ks = k.each id v at in
      let same_live = get_or-set_other s.words p L 1 0 (λ e. omega arith) in
      let here = get_or-set_same s.words p 1 0 (omega arith) in
      let live = live-set P p 1 s.words below (omega arith) in
      let old : counts (get_or s.words p 0) ≡ 1 = ap counts two in
      let now1 : counts 1 ≡ 1 = refl in
      wakes-keep start s g (record g { holder = h' }) ws' hs' id v w k at k.wired
      (omega (arith, same_live, k.live, live, old, now1, total_set (λ (x : View K). x.spare) s.views id v w at, spare)) shares (λ z. same_live ∙ z)
      (keeps-held (get_or ws' L 0) p b w held (omega (arith, ks.spare, spare, shares)) (λ z. same_live ∙ ks.zero (sym zeros ∙ z)) (λ e. omega (arith, e, shares, share)))
      (λ q in_it. inl (subst (λ (xs : List ℕ). Contains xs q) (sym noted) in_it)) (λ q x is. inl (calm-all s.words ws' (λ c. get_or-set_other s.words p (P + c) 1 0 (λ e. omega arith)) x))
      (λ q x is empty. inl (sym (get_or-set_other s.words p q 1 0 (λ e. absurd (let a : 1 ≡ 0 = sym here ∙ ap (λ n. get_or ws' n 0) (sym e) ∙ empty in omega (arith, a)))) ∙ empty, is))
      (λ q x is one. inl (subst (AllBlock P start.channels ws' x) (sym seen) tt))
      (λ j q u x other u_at u_holds one.
      (let h = holds-of s g j q u x f u_at u_holds in (sym (get_or-set_other s.words p q 1 0 (λ e. (let a : None ≡ Some j = sym free ∙ ap g.holder (sym e) ∙ h.0 in absurd (cc)))) ∙ one, h.1)))

  -- a process is left: it is ready, parked or done
  pub wakes-leave : (s : St K) (g : Beside K) (id p y : ℕ) (hs' : Homes K) (v w : View K) (b : BodyValue K) → F s g → W s g → get_elem? s.views id ≡ some v → v.held ≡ Some (p, b) → IsFree y
      → w.held ≡ None → w.shares ≡ v.shares → w.spare + counts y ≡ v.spare + 1 → w.spare ≤ w.shares → v.noted ≡ [] → w.noted ≡ [] → w.read_zero ≡ v.read_zero
      → (y ≡ 0 → IsThoughtStage b.process.stage × (WordsBlock P start.channels s.words b b.process.stage ⊎ IsNoted s.views p)) → (h' : ℕ → Option ℕ) → W (state (set s.words p y) hs' (set s.views id w)) (record g { holder = h' })
  wakes-leave s g id p y hs' v w b f k at holds free held shares spare few empties noted zeros parked h' =
      let mine = holds-of s g id p v b f at holds in
      let below = body-below s g p b f mine.1 in
      let wide = f.wide in
      let ws' = set s.words p y in
      let ks = k.each id v at in
      let same_live = get_or-set_other s.words p L y 0 (λ e. omega arith) in
      let here = get_or-set_same s.words p y 0 (omega arith) in
      let live = live-set P p y s.words below (omega arith) in
      let old = taken-counts (get_or s.words p 0) (word-taken s g id p v b f at holds) in
      let calm = λ (x : BodyValue K). calm-all s.words ws' (λ c. get_or-set_other s.words p (P + c) y 0 (λ e. omega arith)) x in
      wakes-keep start s g (record g { holder = h' }) ws' hs' id v w k at k.wired
      (omega (arith, same_live, k.live, live, old, total_set (λ (x : View K). x.spare) s.views id v w at, spare)) shares (λ z. same_live ∙ z)
      (record { spare = few; noted = λ e. noted; zero = λ z. same_live ∙ ks.zero (sym zeros ∙ z); bare = λ e. absurd (has-share (get_or s.words L 0) p b v w ks holds shares e) })
      (λ q in_it. absurd (contains-none q (subst (λ (xs : List ℕ). Contains xs q) empties in_it))) (λ q x is. inl (calm x))
      (λ q x is empty. elim (same_or_not q p) [
        | inl same ↦ (let xb : b ≡ x = some_Some b x (sym mine.1 ∙ ap (slice_get g.now.bodies) (sym same) ∙ is) in
            let no_y : y ≡ 0 = sym here ∙ ap (λ n. get_or ws' n 0) (sym same) ∙ empty in
            let t = parked no_y in
            inr (subst (λ (z : ℕ × BodyValue K). IsThoughtStage z.1.process.stage × (WordsBlock P start.channels ws' z.1 z.1.process.stage ⊎ IsNoted (set s.views id w) z.0)) (λ i. (sym same i, xb i)) (
              t.0,
              elim t.1 [
                | inl blocks ↦ inl (block-calm P start.channels s.words ws' b b.process.stage (calm b) blocks)
                | inr note ↦ inr (others-note s id p v w at empties note)
              ],
            )))
        | inr other ↦ inl (sym (get_or-set_other s.words p q y 0 other) ∙ empty, is)
      ])
      (λ q x is one. (let e : None ≡ Some (q, x) = sym held ∙ is in absurd (cc)))
      (λ j q u x other u_at u_holds one. (let h = holds-of s g j q u x f u_at u_holds in (sym (get_or-set_other s.words p q y 0 (apart s g id j p q v u b x f at holds u_at u_holds other)) ∙ one, h.1)))
    where
      others-note : (s : St K) (id q : ℕ) (v w : View K) → get_elem? s.views id ≡ some v → v.noted ≡ [] → IsNoted s.views q → IsNoted (set s.views id w) q
      others-note s id q v w at empties (j, u, u_at, there) = elim (same_or_not j id) [
        | inl e ↦ (let was : u ≡ v = some-injective u v (sym u_at ∙ (ap (get_elem? s.views) e ∙ at)) in absurd (contains-none q (subst (λ (xs : List ℕ). Contains xs q) empties (subst (λ (x : View K). Contains x.noted q) was there))))
        | inr other ↦ (j, u, set_else s.views id j w other ∙ u_at, there)
      ]

  -- a process is at connections that are there
  pub calm-in : (s : St K) (g : Beside K) (q : ℕ) (x : BodyValue K) (ws' : List ℕ) → F s g → IsWiredAs start g.now → slice_get g.now.bodies q ≡ Some x
      → ((c : ℕ) → c < C → (level_in (get_or ws' (P + c) 0) ≡ level_in (get_or s.words (P + c) 0)) × (senders_in (get_or ws' (P + c) 0) ≡ senders_in (get_or s.words (P + c) 0))) → Calm P x s.words ws'
  calm-in s g q x ws' f wires there same c =
      let wired = f.fit.wired q x there in
      (λ input. (let e = same c (input-below g q c x f wires there input) in (omega (arith, e.0), omega (arith, e.1))), λ output. (let e = same c (omega (arith, wired.outputs output.0 c output.1, f.same.1)) in omega (arith, e.0)))
    where
      input-below : (g : Beside K) (q c : ℕ) (x : BodyValue K) → F s g → IsWiredAs start g.now → slice_get g.now.bodies q ≡ Some x → IsInput x c → c < C
      input-below g q c x f wires there (inl i) = omega (arith, (f.fit.wired q x there).inputs i.0 c i.1, f.same.1)
      input-below g q c x f wires there (inr z) = omega (arith, wires.signals q c x there z, length-map start.channels (λ (k : ChannelShown). k.capacity))

  -- notes that a seat keeps
  pub notes-kept : (s : St K) (id q : ℕ) (v w : View K) → get_elem? s.views id ≡ some v → (Contains v.noted q → Contains w.noted q) → IsNoted s.views q → IsNoted (set s.views id w) q
  notes-kept s id q v w at keep (j, u, u_at, there) = elim (same_or_not j id) [
    | inl e ↦ (let was : u ≡ v = some-injective u v (sym u_at ∙ (ap (get_elem? s.views) e ∙ at)) in (id, w, set_here s.views id w (at_inside s.views id v at), keep (subst (λ (x : View K). Contains x.noted q) was there)))
    | inr other ↦ (j, u, set_else s.views id j w other ∙ u_at, there)
  ]

  -- What was looked at just now is so.
  pub look-blocks : (ws : List ℕ) (b : BodyValue K) (look : Look) (c : ℕ) → look.word ≡ P + c → level_in look.read ≡ level_in (get_or ws (P + c) 0) → senders_in look.read ≡ senders_in (get_or ws (P + c) 0) → StillBlocks P start.channels ws b look
  look-blocks ws b look c at levels opens d at_d =
      let same : c ≡ d = omega (arith, at, at_d) in
      let level : level_in look.read ≡ level_in (get_or ws (P + d) 0) = levels ∙ ap (λ n. level_in (get_or ws (P + n) 0)) same in
      let senders : senders_in look.read ≡ senders_in (get_or ws (P + d) 0) = opens ∙ ap (λ n. senders_in (get_or ws (P + n) 0)) same in
      (λ input. (λ none. sym level ∙ none, λ some_one. subst (λ n. 0 < n) senders some_one), λ output k there full. subst (λ n. k.capacity ≤ n) level full)

  -- only what the seat knows changes, and words that keep the levels and the process words
  pub wakes-view : (s : St K) (g g' : Beside K) (ws' : List ℕ) (hs' : Homes K) (id : ℕ) (v w : View K) → F s g → W s g → get_elem? s.views id ≡ some v → g'.now ≡ g.now
      → ((q : ℕ) → q < P → get_or ws' q 0 ≡ get_or s.words q 0) → live_in P ws' ≡ live_in P s.words → ((c : ℕ) → c < C → (level_in (get_or ws' (P + c) 0) ≡ level_in (get_or s.words (P + c) 0)) × (senders_in (get_or ws' (P + c) 0) ≡ senders_in (get_or s.words (P + c) 0)))
      → get_or ws' L 0 + v.spare ≡ get_or s.words L 0 + w.spare → (get_or s.words L 0 ≡ 0 → get_or ws' L 0 ≡ 0) → w.held ≡ v.held → w.shares ≡ v.shares → Keeps (get_or ws' L 0) w → ((q : ℕ) → Contains v.noted q → Contains w.noted q)
      → ((q : ℕ) (b : BodyValue K) → v.held ≡ Some (q, b) → AllBlock P start.channels ws' b v.seen → AllBlock P start.channels ws' b w.seen) → W (state ws' hs' (set s.views id w)) g'
  wakes-view s g g' ws' hs' id v w f k at now same counted levels live zeros held shares mine notes seen =
      wakes-keep start s g g' ws' hs' id v w k at (subst (IsWiredAs start) (sym now) k.wired) (omega (arith, live, counted, k.live, total_set (λ (x : View K). x.spare) s.views id v w at)) shares zeros mine
      (λ q there. inl (notes q there)) (λ q x is. inl (calm-in s g q x ws' f k.wired is levels))
      (λ q x is empty. (let was : slice_get g.now.bodies q ≡ Some x = ap (λ (n : NetValue K). slice_get n.bodies q) (sym now) ∙ is in inl (sym (same q (body-below s g q x f was)) ∙ empty, was)))
      (λ q x is one. (let is_v : v.held ≡ Some (q, x) = sym held ∙ is in
      let h = holds-of s g id q v x f at is_v in
      elim (k.held id q v x at is_v (sym (same q (body-below s g q x f h.1)) ∙ one)) [
        | inl all ↦ inl (seen q x is_v (still-calm P start.channels s.words ws' x v.seen (calm-in s g q x ws' f k.wired h.1 levels) all))
        | inr note ↦ inr (notes-kept s id q v w at (notes q) note)
      ]))
      (λ j q u x other u_at u_holds one. (let h = holds-of s g j q u x f u_at u_holds in (sym (same q (body-below s g q x f h.1)) ∙ one, h.1)))

  -- a turn
  pub wakes-stamp : (s : St K) (g g' : Beside K) (id p m y : ℕ) (v w : View K) (b : BodyValue K) (e : Event) → F s g → W s g → get_elem? s.views id ≡ some v → v.held ≡ Some (p, b) → g'.now ≡ turned_net g.now p b e m
      → w.held ≡ Some (p, turned_body e m b) → w.shares ≡ v.shares → w.spare ≡ v.spare → w.noted ≡ v.noted → w.read_zero ≡ v.read_zero → w.seen ≡ [] → W (state (set s.words (P + C + C) y) s.homes (set s.views id w)) g'
  wakes-stamp s g g' id p m y v w b e f k at holds now held shares spare noted zeros seen =
      let mine = holds-of s g id p v b f at holds in
      let d = turned_body e m b in
      let i : ℕ = P + C + C in
      let ws' = set s.words i y in
      let ks = k.each id v at in
      let same_live = get_or-set_other s.words i L y 0 (λ e. omega arith) in
      let taken = word-taken s g id p v b f at holds in
      let word = λ (q : ℕ) (below : q < P). get_or-set_other s.words i q y 0 (λ e. omega arith) in
      wakes-keep start s g g' ws' s.homes id v w k at
      (subst (IsWiredAs start) (sym now) (wired-body g.now p b d mine.1 (inputs-after b.process e) (outputs-after b.process e) (signal-after b.process e) k.wired (all_shown_after e g.now.channels)
      (λ c x x0 is is0. (let old = get-exists g.now.channels c (omega (arith, get-within (all_shown_after e g.now.channels) c x is, channels-len e g.now.channels)) in capacity-after e g.now.channels c old.0 x old.1 is ∙ k.wired.capacities c old.0 x0 old.1 is0))))
      (omega (arith, same_live, k.live, live-other P i y s.words (omega arith), total_set (λ (x : View K). x.spare) s.views id v w at, spare)) shares (λ z. same_live ∙ z)
      (keeps-held (get_or ws' L 0) p d w held (omega (arith, ks.spare, spare, shares)) (λ z. same_live ∙ ks.zero (sym zeros ∙ z)) (has-share (get_or s.words L 0) p b v w ks holds shares))
      (λ q there. inl (subst (λ (xs : List ℕ). Contains xs q) (sym noted) there)) (λ q x is. inl (calm-in s g q x ws' f k.wired is (λ c below. (let same = get_or-set_other s.words i (P + c) y 0 (λ e. omega arith) in (ap level_in same, ap senders_in same)))))
      (λ q x is empty.
      (let is' : slice_get (slice_set g.now.bodies p d) q ≡ Some x = ap (λ (n : NetValue K). slice_get n.bodies q) (sym now) ∙ is in
      let below : q < P = omega (arith, get-within (slice_set g.now.bodies p d) q x is', length-set g.now.bodies p d, f.same.0) in
      let empty' = sym (word q below) ∙ empty in
      inl (empty', sym (slice_get-set_other g.now.bodies p q d (λ e. taken-some (get_or s.words p 0) taken (ap (λ n. get_or s.words n 0) (sym e) ∙ empty'))) ∙ is')))
      (λ q x is one. inl (subst (AllBlock P start.channels ws' x) (sym seen) tt))
      (λ j q u x other u_at u_holds one. (let h = holds-of s g j q u x f u_at u_holds in (sym (word q (body-below s g q x f h.1)) ∙ one, h.1)))

  stream-or-not : (xs : List Input) (c : ℕ) → ((i : ℕ) × (slice_get xs i ≡ Some (From c))) ⊎ ((i : ℕ) → slice_get xs i ≡ Some (From c) → ⊥)
  stream-or-not [] c = inr (λ i is. cc)
  stream-or-not (Text text ∷ xs) c = elim (stream-or-not xs c) [
    | inl there ↦ inl (suc there.0, there.1)
    | inr other ↦ inr (λ i is. none-here i is other)
  ]
    where
      none-here : (i : ℕ) → slice_get (Text text ∷ xs) i ≡ Some (From c) → ((i : ℕ) → slice_get xs i ≡ Some (From c) → ⊥) → ⊥
      none-here zero is other = cc
      none-here (suc i) is other = other i is
  stream-or-not (From d ∷ xs) c = elim (same_or_not d c) [
    | inl same ↦ inl (0, ap (λ n. let r : Option Input = Some (From n) in r) same)
    | inr differs ↦ (elim (stream-or-not xs c) [
      | inl there ↦ inl (suc there.0, there.1)
      | inr other ↦ inr (λ i is. none-here i is differs other)
    ])
  ]
    where
      none-here : (i : ℕ) → slice_get (From d ∷ xs) i ≡ Some (From c) → d ≢ c → ((i : ℕ) → slice_get xs i ≡ Some (From c) → ⊥) → ⊥
      none-here zero is differs other = let e : From d ≡ From c = some_Some (From d) (From c) is in differs (ap (λ (y : Input). number y) e)
        where
          number : Input → ℕ
          number (From n) = n
          number (Text t) = 0
      none-here (suc i) is differs other = other i is

  input-or-not : (x : BodyValue K) (c : ℕ) → IsInput x c ⊎ (IsInput x c → ⊥)
  input-or-not x c = elim (stream-or-not x.process.inputs c) [
    | inl there ↦ inl (inl there)
    | inr other ↦ by x.process.signal refl other
  ]
    where
      neither : ((i : ℕ) → slice_get x.process.inputs i ≡ Some (From c) → ⊥) → (x.process.signal ≡ Some c → ⊥) → IsInput x c → ⊥
      neither other none (inl i) = other i.0 i.1
      neither other none (inr z) = none z

      by : (found : Option ℕ) → x.process.signal ≡ found → ((i : ℕ) → slice_get x.process.inputs i ≡ Some (From c) → ⊥) → IsInput x c ⊎ (IsInput x c → ⊥)
      by None is other = inr (neither other (λ z. (let e : None ≡ Some c = sym is ∙ z in cc)))
      by (Some d) is other = elim (same_or_not d c) [
        | inl same ↦ inl (inr (is ∙ ap (λ n. let r : Option ℕ = Some n in r) same))
        | inr differs ↦ inr (neither other (λ z. differs (some_Some d c (sym is ∙ z))))
      ]

  output-or-not : (xs : List (Option ℕ)) (c : ℕ) → ((o : ℕ) × (output_in xs o ≡ Some c)) ⊎ ((o : ℕ) → output_in xs o ≡ Some c → ⊥)
  output-or-not [] c = inr (λ o is. cc)
  output-or-not (None ∷ xs) c = elim (output-or-not xs c) [
    | inl there ↦ inl (suc there.0, there.1)
    | inr other ↦ inr (λ o is. none-here o is other)
  ]
    where
      none-here : (o : ℕ) → output_in (None ∷ xs) o ≡ Some c → ((o : ℕ) → output_in xs o ≡ Some c → ⊥) → ⊥
      none-here zero is other = cc
      none-here (suc o) is other = other o is
  output-or-not (Some d ∷ xs) c = elim (same_or_not d c) [
    | inl same ↦ inl (0, ap (λ n. let r : Option ℕ = Some n in r) same)
    | inr differs ↦ (elim (output-or-not xs c) [
      | inl there ↦ inl (suc there.0, there.1)
      | inr other ↦ inr (λ o is. none-here o is differs other)
    ])
  ]
    where
      none-here : (o : ℕ) → output_in (Some d ∷ xs) o ≡ Some c → d ≢ c → ((o : ℕ) → output_in xs o ≡ Some c → ⊥) → ⊥
      none-here zero is differs other = differs (some_Some d c is)
      none-here (suc o) is differs other = other o is

  -- a connection is released, and those whom that may unblock are noted
  pub wakes-release : (s : St K) (g g' : Beside K) (id p c y : ℕ) (hs' : Homes K) (v w : View K) (b : BodyValue K) → F s g → W s g → get_elem? s.views id ≡ some v → v.held ≡ Some (p, b) → c < C → g'.now ≡ g.now
      → w.held ≡ v.held → w.shares ≡ v.shares → w.spare ≡ v.spare → w.read_zero ≡ v.read_zero → w.seen ≡ v.seen → ((q : ℕ) → Contains v.noted q → Contains w.noted q) → Notes start c (get_or s.words (P + c) 0) y w.noted
      → W (state (set s.words (P + c) y) hs' (set s.views id w)) g'
  wakes-release s g g' id p c y hs' v w b f k at holds below now held shares spare zeros seen keep notes =
      let i : ℕ = P + c in
      let ws' = set s.words i y in
      let ks = k.each id v at in
      let wide = f.wide in
      let held' : w.held ≡ Some (p, b) = held ∙ holds in
      let same_live = get_or-set_other s.words i L y 0 (λ e. omega arith) in
      let word = λ (q : ℕ) (q_below : q < P). get_or-set_other s.words i q y 0 (λ e. omega arith) in
      let here = get_or-set_same s.words i y 0 (omega arith) in
      wakes-keep start s g g' ws' hs' id v w k at (subst (IsWiredAs start) (sym now) k.wired)
      (omega (arith, same_live, k.live, live-other P i y s.words (omega arith), total_set (λ (x : View K). x.spare) s.views id v w at, spare)) shares (λ z. same_live ∙ z)
      (keeps-held (get_or ws' L 0) p b w held' (omega (arith, ks.spare, spare, shares)) (λ z. same_live ∙ ks.zero (sym zeros ∙ z)) (has-share (get_or s.words L 0) p b v w ks holds shares))
      (λ q there. inl (keep q there)) (λ q x is. calm q x is here)
      (λ q x is empty. (let was : slice_get g.now.bodies q ≡ Some x = ap (λ (n : NetValue K). slice_get n.bodies q) (sym now) ∙ is in inl (sym (word q (body-below s g q x f was)) ∙ empty, was)))
      (λ q x is one.
      (let is_v : v.held ≡ Some (q, x) = sym held ∙ is in
      let h = holds-of s g id q v x f at is_v in
      elim (calm q x h.1 here) [
        | inl c ↦ (elim (k.held id q v x at is_v (sym (word q (body-below s g q x f h.1)) ∙ one)) [
          | inl all ↦ inl (subst (AllBlock P start.channels ws' x) (sym seen) (still-calm P start.channels s.words ws' x v.seen c all))
          | inr note ↦ inr (notes-kept s id q v w at (keep q) note)
        ])
        | inr note ↦ inr note
      ]))
      (λ j q u x other u_at u_holds one. (let h = holds-of s g j q u x f u_at u_holds in (sym (word q (body-below s g q x f h.1)) ∙ one, h.1)))
    where
      note-by : (q : ℕ) → Contains w.noted q → IsNoted (set s.views id w) q
      note-by q there = (id, w, set_here s.views id w (at_inside s.views id v at), there)

      -- where the connection is no input and no output, or its word blocks as before
      calm-by : (x : BodyValue K) → get_or (set s.words (P + c) y) (P + c) 0 ≡ y → (IsInput x c → (level_in y ≤ level_in (get_or s.words (P + c) 0)) × (senders_in (get_or s.words (P + c) 0) ≤ senders_in y))
          → (IsOutput x c → level_in (get_or s.words (P + c) 0) ≤ level_in y) → Calm P x s.words (set s.words (P + c) y)
      calm-by x here ins outs d = elim (same_or_not d c) [
        | inl same ↦ (subst (λ n. (IsInput x n → (level_in (get_or (set s.words (P + c) y) (P + n) 0) ≤ level_in (get_or s.words (P + n) 0)) × (senders_in (get_or s.words (P + n) 0) ≤ senders_in (get_or (set s.words (P + c) y) (P + n) 0)))
            × (IsOutput x n → level_in (get_or s.words (P + n) 0) ≤ level_in (get_or (set s.words (P + c) y) (P + n) 0))) (sym same)
            (subst (λ n. (IsInput x c → (level_in n ≤ level_in (get_or s.words (P + c) 0)) × (senders_in (get_or s.words (P + c) 0) ≤ senders_in n)) × (IsOutput x c → level_in (get_or s.words (P + c) 0) ≤ level_in n)) (sym here) (ins, outs)))
        | inr other ↦ (let stay = get_or-set_other s.words (P + c) (P + d) y 0 (λ e. other (omega arith)) in
            let a = ap level_in stay in
            let o = ap senders_in stay in (λ input. (omega (arith, a), omega (arith, o)), λ output. omega (arith, a)))
      ]

      calm : (q : ℕ) (x : BodyValue K) → slice_get g.now.bodies q ≡ Some x → get_or (set s.words (P + c) y) (P + c) 0 ≡ y → Calm P x s.words (set s.words (P + c) y) ⊎ IsNoted (set s.views id w) q
      calm q x is here =
          let old = get-exists start.bodies q (body-below s g q x f is) in
          let ins : SameInputs old.0 x = (k.wired.inputs q x old.0 is old.1, k.wired.signal q x old.0 is old.1) in
          let outs = k.wired.outputs q x old.0 is old.1 in
          let to_old_in : IsInput x c → IsInput old.0 c = input-same c old.0 x ins in
          let to_old_out : IsOutput x c → IsOutput old.0 c = λ output. (output.0, ap (λ (xs : List (Option ℕ)). output_in xs output.0) (sym outs) ∙ output.1) in
          elim (input-or-not x c) [
            | inl input ↦ (elim notes.receiver [
              | inr all ↦ inr (note-by q (all q old.0 old.1 (to_old_in input)))
              | inl low ↦ out-case q x here old.0 old.1 (λ _. low) to_old_out
            ])
            | inr no_input ↦ out-case q x here old.0 old.1 (λ input. absurd (no_input input)) to_old_out
          ]
        where
          out-case : (q : ℕ) (x : BodyValue K) → get_or (set s.words (P + c) y) (P + c) 0 ≡ y → (x0 : BodyValue K) → slice_get start.bodies q ≡ Some x0
              → (IsInput x c → (level_in y ≤ level_in (get_or s.words (P + c) 0)) × (senders_in (get_or s.words (P + c) 0) ≤ senders_in y)) → (IsOutput x c → IsOutput x0 c) → Calm P x s.words (set s.words (P + c) y) ⊎ IsNoted (set s.views id w) q
          out-case q x here x0 at0 ins to_old = elim (output-or-not x.process.outputs c) [
            | inl output ↦ (elim notes.senders [
              | inr all ↦ inr (note-by q (all q x0 at0 (to_old output)))
              | inl high ↦ inl (calm-by x here ins (λ _. high))
            ])
            | inr no_output ↦ inl (calm-by x here ins (λ output. absurd (no_output output.0 output.1)))
          ]

  -- a noted process is woken
  pub wakes-poke : (s : St K) (g g' : Beside K) (id p q y : ℕ) (hs' : Homes K) (v w : View K) (b : BodyValue K) → F s g → W s g → get_elem? s.views id ≡ some v → v.held ≡ Some (p, b) → g'.now ≡ g.now → q < P → 1 < y → v.noted ≡ q ∷ w.noted
      → w.spare + counts y ≡ v.spare + counts (get_or s.words q 0) → w.spare ≤ w.shares → w.held ≡ v.held → w.shares ≡ v.shares → w.read_zero ≡ v.read_zero → w.seen ≡ v.seen → W (state (set s.words q y) hs' (set s.views id w)) g'
  wakes-poke s g g' id p q y hs' v w b f k at holds now below high noted spare few held shares zeros seen =
      let ws' = set s.words q y in
      let ks = k.each id v at in
      let wide = f.wide in
      let held' : w.held ≡ Some (p, b) = held ∙ holds in
      let same_live = get_or-set_other s.words q L y 0 (λ e. omega arith) in
      let here = get_or-set_same s.words q y 0 (omega arith) in
      let live = live-set P q y s.words below (omega arith) in
      let not_q = λ (x n : ℕ) (le : n ≤ 1) (is : get_or ws' x 0 ≡ n) (e : x ≡ q). (let a : y ≡ n = sym here ∙ ap (λ m. get_or ws' m 0) (sym e) ∙ is in let r : ⊥ = omega (arith, a, le, high) in r) in
      let calm = λ (x : BodyValue K). calm-all s.words ws' (λ c. get_or-set_other s.words q (P + c) y 0 (λ e. omega arith)) x in
      wakes-keep start s g g' ws' hs' id v w k at (subst (IsWiredAs start) (sym now) k.wired)
      (omega (arith, same_live, k.live, live, total_set (λ (x : View K). x.spare) s.views id v w at, spare)) shares (λ z. same_live ∙ z)
      (keeps-held (get_or ws' L 0) p b w held' few (λ z. same_live ∙ ks.zero (sym zeros ∙ z)) (has-share (get_or s.words L 0) p b v w ks holds shares))
      (λ x there. elim (contains-cases x q w.noted (subst (λ (xs : List ℕ). Contains xs x) noted there)) [
        | inl e ↦ inr (subst (λ m. 1 < get_or ws' m 0) (sym e) (subst (λ m. 1 < m) (sym here) high))
        | inr rest ↦ inl rest
      ])
      (λ x z is. inl (calm z))
      (λ x z is empty. inl (sym (get_or-set_other s.words q x y 0 (not_q x 0 (omega arith) empty)) ∙ empty, ap (λ (n : NetValue K). slice_get n.bodies x) (sym now) ∙ is))
      (λ x z is one.
      (let other = not_q x 1 (omega arith) one in
      elim (k.held id x v z at (sym held ∙ is) (sym (get_or-set_other s.words q x y 0 other) ∙ one)) [
        | inl all ↦ inl (subst (AllBlock P start.channels ws' z) (sym seen) (still-calm P start.channels s.words ws' z v.seen (calm z) all))
        | inr note ↦ inr (notes-kept s id x v w at (λ there. elim (contains-cases x q w.noted (subst (λ (xs : List ℕ). Contains xs x) noted there)) [
          | inl e ↦ absurd (other e)
          | inr rest ↦ rest
        ]) note)
      ]))
      (λ j x u z other u_at u_holds one. (let h = holds-of s g j x u z f u_at u_holds in (sym (get_or-set_other s.words q x y 0 (not_q x 1 (omega arith) one)) ∙ one, h.1)))
