-- Each process begins to close after all that feed it.
use Rattle.std.proofs.Common.{◌≡◌, ◌≢◌, ◌⊎◌, inl, inr, ℕ, ◌+◌, ◌<◌, ◌≤◌, Bool, true, false, List, [], ◌∷◌, map, length, Option, Some, None, refl, sym, ap, ◌∙◌, subst, nat_eq, nat_lt, arith, slice_get, slice_set, suc, zero, get_or, ◌==◌, ◌&&◌, if◌then◌else◌}
use Rattle.std.specs.Prelude.{option_and_then, option_map}
use Rattle.std.specs.List.{list_any}
use Rattle.std.proofs.lemmas.Bool.Decides.{nat_tests}
use Rattle.std.proofs.lemmas.Option.{slice_get-map}
use Rattle.std.proofs.lemmas.List.Quantifiers.{position-Some}
use Rattle.flow_component.specs.declared.Wish.{Wish}
use Rattle.flow_component.specs.declared.Wish.TheVariants as wishes
use Rattle.flow_component.specs.Laws.{Rules}
use Rattle.flow_model.specs.declared.Stage.{Stage}
use Rattle.flow_model.specs.declared.Stage.TheVariants as stages
use Rattle.flow_model.specs.States.{Input, From, Process, Channel, is_sender, Kept, State, output_at}
use Rattle.flow_model.specs.Stages.{HasBegunToClose, HasToClose, IsFailedStage}
use Rattle.flow_plan.specs.declared.plan.Sender.{Sender}
use Rattle.flow_model.specs.Plans.{sends_at, receives_at, input_at, connected_or, text_at, process_at_start, processes_at_start, start_of, StartsWell}
use Rattle.flow_plan.specs.Network.{Network as Plan}
use Rattle.flow_plan.specs.declared.plan.Connection.{Connection as PlanConnection}
use Rattle.flow_model.specs.Wires.{Wires, wires, SameWires}
use Rattle.flow_model.specs.Rising.{LeadsOn}
use Rattle.flow_model.specs.Events.{Event, Finishes, Sleeps, looks, event_of, Signals}
use Rattle.flow_model.specs.Turns.{Turn, process_after, closing}
use Rattle.flow_model.specs.Works.{Work, worked}
use Rattle.flow_model.specs.Schedules.{Settles, Journal, Leads, LeadsBy}
use Rattle.flow_model.specs.Valid.{SendersOpen}
use Rattle.flow_model.specs.Verdicts.{IsFinished}
use Rattle.flow_model.proofs.Lists.{map-found, slice_get-set_same, slice_get-set_other, same_or_not, get-there}
use Rattle.flow_model.proofs.Inverse.{explains, Takes}
use Rattle.flow_model.proofs.Blocks.{outlet-of}
use Rattle.flow_model.proofs.Order.{inputs-after, outputs-after, signal-after, outputs-worked}
use Rattle.flow_model.proofs.Senders.{SendersOpen-turn, SendersOpen-work, both-true}
use Rattle.flow_model.proofs.Start.{start-process, start-senders, no_connection}
use Rattle.flow_model.proofs.Leaving.{process-there, ports-at, open-place}
use Rattle.flow_model.proofs.Wiring.{wires-leads}
use Rattle.flow_model.proofs.Exhausting.{IsDry, finishes-all, finishes-signal, all-dry, signal-dry}
use Rattle.flow_model.proofs.Stages.{closing-elim, after-turn, heard-wished, begun-before, begun-worked, failed-still}
use Rattle.flow_component.specs.Happenings.{Happening, Started}

-- one that closes goes on closing, has closed all, or fails
begun-after : {K : Type 0} (channels : List Channel) (x : Process K) (n : ℕ) (e : Event) → event_of channels x n ≡ Some e → HasBegunToClose x.stage → HasBegunToClose (process_after x e).stage ⊎ IsFailedStage (process_after x e).stage
begun-after channels x n e is has = after-turn channels x n e is (λ _ _ stage. HasBegunToClose stage ⊎ IsFailedStage stage) (inr tt) (λ h told. absurd (by (heard-wished channels x n e is h told).stage))
    (λ asleep. absurd (subst HasBegunToClose (explains channels x n Sleeps asleep) has))
    (λ c packet signals. absurd (subst HasBegunToClose (explains channels x n (Signals c packet) signals).stage has)) (λ _. goes 0) (λ output c at. goes (at.i + 1))
  where
    goes : (i : ℕ) → HasBegunToClose (closing x i) ⊎ IsFailedStage (closing x i)
    goes i = closing-elim (λ stage. HasBegunToClose stage ⊎ IsFailedStage stage) x i (λ _. inl tt) (λ _. inl tt)

    by : {wish : Wish} {h : Happening} → (x.stage ≡ stages.Wishing wish) ⊎ ((x.stage ≡ stages.Idle) × (wish ≡ wishes.Deactivate) × (h ≡ Started)) → ⊥
    by (inl at) = subst HasBegunToClose at has
    by (inr at) = subst HasBegunToClose at.0 has

-- Those that have begun have a rank below this number, and each has a higher one than all that feed it, which have begun or failed.
record Ranks {K : Type 0} (processes : List (Process K)) (rank : ℕ → ℕ) (top : ℕ) : Type 0 where
  below : (p : ℕ) (y : Process K) → slice_get processes p ≡ Some y → HasBegunToClose y.stage → rank p < top
  rises : (q p o c : ℕ) (x y : Process K) → slice_get processes q ≡ Some x → output_at x o ≡ Some c → slice_get processes p ≡ Some y → Takes y c → HasBegunToClose y.stage
      → (HasBegunToClose x.stage × (rank q < rank p)) ⊎ IsFailedStage x.stage

-- in a list where a process was set stands that one, or another that stood there
pub found-set : {K : Type 0} (processes : List (Process K)) (p : ℕ) (x y : Process K) → slice_get processes p ≡ Some x → (q : ℕ) (z : Process K) → slice_get (slice_set processes p y) q ≡ Some z
    → ((q ≡ p) × (y ≡ z)) ⊎ ((q ≢ p) × (slice_get processes q ≡ Some z))
found-set processes p x y there q z is = elim (same_or_not q p) as (λ _. ((q ≡ p) × (y ≡ z)) ⊎ ((q ≢ p) × (slice_get processes q ≡ Some z))) [
  | inl same ↦ (let h : Some y ≡ Some z = sym (ap (slice_get (slice_set processes p y)) same ∙ slice_get-set_same processes p x y there) ∙ is in let e : y ≡ z = cc in inl (same, e))
  | inr other ↦ inr (other, sym (slice_get-set_other processes p q y other) ∙ is)
]

-- where a process may still close an output, its connection isn't dry
open-not-dry : {K : Type 0} (kept : Kept K) → SendersOpen kept → (q o c : ℕ) (x : Process K) → slice_get kept.processes q ≡ Some x → output_at x o ≡ Some c → ((j : ℕ) → HasToClose x.stage j) → IsDry kept.channels c → ⊥
open-not-dry {K} kept senders q o c x there out has h = by (slice_get x.outputs o) refl out
  where
    by : (found : Option (Option ℕ)) → slice_get x.outputs o ≡ found → option_and_then (λ (d : Option ℕ). d) found ≡ Some c → ⊥
    by None at is = cc
    by (Some None) at is = cc
    by (Some (Some d)) at is =
        let same : d ≡ c = cc in
        let let_out = outlet-of 0 x.outputs o d at in
        let open_one = senders q let_out.0 x let_out.1 there let_out.2 (has let_out.0) in
        let k : Some h.channel ≡ Some open_one.0 = sym h.there ∙ ap (slice_get kept.channels) (sym same ∙ sym let_out.3) ∙ open_one.1 in
        let ch : h.channel ≡ open_one.0 = cc in
        let z : open_one.0.open_senders ≡ [] = sym (ap (λ (c : Channel). c.open_senders) ch) ∙ h.closed in
        (let bad = rw z at open_one.2 in cc)

-- a process may still close all, has begun, or has failed
stands : (stage : Stage) → ((j : ℕ) → HasToClose stage j) ⊎ (HasBegunToClose stage ⊎ IsFailedStage stage)
stands (stages.Closing i) = inr (inl tt)
stands stages.Ended = inr (inl tt)
stands (stages.Failed cause) = inr (inr tt)
stands stage = inl (λ j. tt)

abbrev placed : ℕ → ℕ → (ℕ → ℕ) → ℕ → ℕ
placed p top rank j = if j == p then top else rank j

placed-here : (p top : ℕ) (rank : ℕ → ℕ) (j : ℕ) → j ≡ p → placed p top rank j ≡ top
placed-here p top rank j same = let t : nat_eq j p ≡ true = grind (arith, nat_tests) in rw t refl

placed-other : (p top : ℕ) (rank : ℕ → ℕ) (j : ℕ) → j ≢ p → placed p top rank j ≡ rank j
placed-other p top rank j other = let t : nat_eq j p ≡ false = grind (arith, nat_tests) in rw t refl

is-finish : (e : Event) → (e ≡ Finishes) ⊎ (e ≡ Finishes → ⊥)
is-finish Finishes = inl refl
is-finish e = inr (λ h. cc)

module _ {K : Type 0} (kept : Kept K) (p : ℕ) (x : Process K) (n : ℕ) (e : Event) (there : slice_get kept.processes p ≡ Some x) (happens : event_of kept.channels x n ≡ Some e) (rank : ℕ → ℕ) (top : ℕ) (old : Ranks kept.processes rank top) where
  abbrev Edge : (ℕ → ℕ) → ℕ → ℕ → Process K → Type 0
  Edge ranks q r u = (HasBegunToClose u.stage × (ranks q < ranks r)) ⊎ IsFailedStage u.stage

  out-before : (o c : ℕ) (u : Process K) → process_after x e ≡ u → output_at u o ≡ Some c → output_at x o ≡ Some c
  out-before o c u same out = ap (λ (os : List (Option ℕ)). option_and_then (λ (d : Option ℕ). d) (slice_get os o)) (sym (outputs-after x e) ∙ ap (λ (z : Process K). z.outputs) same) ∙ out

  in-before : (c : ℕ) (u : Process K) → process_after x e ≡ u → Takes u c → Takes x c
  in-before c u same (inl at) = inl (at.0, ap (λ (is : List Input). slice_get is at.0) (sym (inputs-after x e) ∙ ap (λ (z : Process K). z.inputs) same) ∙ at.1)
  in-before c u same (inr at) = inr (sym (signal-after x e) ∙ ap (λ (z : Process K). z.signal) same ∙ at)

  -- a turn that isn't a finish leaves the ranks as they are
  module _ (goes_on : e ≡ Finishes → ⊥) where
    begun : (u : Process K) → process_after x e ≡ u → HasBegunToClose u.stage → HasBegunToClose x.stage
    begun u same has = elim (begun-before kept.channels x n e happens (subst (λ (z : Process K). HasBegunToClose z.stage) (sym same) has)) [ inl b ↦ b | inr f ↦ absurd (goes_on f) ]

    from-edge : (q r o c : ℕ) (u y : Process K) → slice_get (slice_set kept.processes p (process_after x e)) q ≡ Some u → output_at u o ≡ Some c → slice_get kept.processes r ≡ Some y → Takes y c → HasBegunToClose y.stage → Edge rank q r u
    from-edge q r o c u y is out at inp has = elim (found-set kept.processes p x (process_after x e) there q u is) as (λ _. Edge rank q r u) [
      | inl same ↦ elim (old.rises p r o c x y there (out-before o c u same.1 out) at inp has) as (λ _. Edge rank q r u) [
        | inl b ↦ elim (begun-after kept.channels x n e happens b.0) as (λ _. Edge rank q r u) [
          | inl more ↦ inl (subst (λ (z : Process K). HasBegunToClose z.stage) same.1 more, subst (λ (k : ℕ). rank k < rank r) (sym same.0) b.1)
          | inr failed ↦ inr (subst (λ (z : Process K). IsFailedStage z.stage) same.1 failed)
        ]
        | inr failed ↦ absurd (failed-still (looks kept.channels) x n e x.stage happens failed)
      ]
      | inr other ↦ old.rises q r o c u y other.1 out at inp has
    ]

    ranks-on : Ranks (slice_set kept.processes p (process_after x e)) rank (suc top)
    ranks-on = record {
      below = λ q y is has. elim (found-set kept.processes p x (process_after x e) there q y is) as (λ _. rank q < suc top) [
        | inl same ↦ (let b = old.below p x there (begun y same.1 has) in let z = same.0 in let w : rank q < top = subst (λ (k : ℕ). rank k < top) (sym z) b in omega (arith, w))
        | inr other ↦ (let b = old.below q y other.1 has in omega (arith, b))
      ];
      rises = λ q r o c u y is out at inp has. elim (found-set kept.processes p x (process_after x e) there r y at) as (λ _. Edge rank q r u) [
        | inl same ↦ (let edge = from-edge q p o c u x is out there (in-before c y same.1 inp) (begun y same.1 has) in subst (λ (k : ℕ). Edge rank q k u) (sym same.0) edge)
        | inr other ↦ from-edge q r o c u y is out other.1 inp has
      ];
    }

  -- one that finishes gets a rank above all
  module _ (senders : SendersOpen kept) (finishes : e ≡ Finishes) where
    was-idle : x.stage ≡ stages.Idle
    was-idle = explains kept.channels x n Finishes (happens ∙ ap (λ (f : Event). Some f) finishes)

    dry : (c : ℕ) → Takes x c → IsDry kept.channels c
    dry c (inl at) = all-dry kept.channels x.inputs (finishes-all kept.channels x n (happens ∙ ap (λ (f : Event). Some f) finishes)) at.0 c at.1
    dry c (inr at) = signal-dry kept.channels x.signal (finishes-signal kept.channels x n (happens ∙ ap (λ (f : Event). Some f) finishes)) c at

    into : (q o c : ℕ) (u : Process K) → slice_get (slice_set kept.processes p (process_after x e)) q ≡ Some u → output_at u o ≡ Some c → Takes x c → Edge (placed p top rank) q p u
    into q o c u is out inp = elim (found-set kept.processes p x (process_after x e) there q u is) as (λ _. Edge (placed p top rank) q p u) [
      | inl same ↦ absurd (open-not-dry kept senders p o c x there (out-before o c u same.1 out) (λ j. subst (λ (st : Stage). HasToClose st j) (sym was-idle) tt) (dry c inp))
      | inr other ↦ elim (stands u.stage) as (λ _. Edge (placed p top rank) q p u) [
        | inl has ↦ absurd (open-not-dry kept senders q o c u other.1 out has (dry c inp))
        | inr over ↦ elim over as (λ _. Edge (placed p top rank) q p u) [
          | inl b ↦ inl (b, (let l = old.below q u other.1 b in let here = placed-here p top rank p refl in let there' = placed-other p top rank q other.0 in omega (arith, l, here, there')))
          | inr failed ↦ inr failed
        ]
      ]
    ]

    beside : (q r o c : ℕ) (u y : Process K) → slice_get (slice_set kept.processes p (process_after x e)) q ≡ Some u → output_at u o ≡ Some c → r ≢ p → slice_get kept.processes r ≡ Some y → Takes y c → HasBegunToClose y.stage → Edge (placed p top rank) q r u
    beside q r o c u y is out apart at inp has = elim (found-set kept.processes p x (process_after x e) there q u is) as (λ _. Edge (placed p top rank) q r u) [
      | inl same ↦ elim (old.rises p r o c x y there (out-before o c u same.1 out) at inp has) as (λ _. Edge (placed p top rank) q r u) [
        | inl b ↦ absurd (subst HasBegunToClose was-idle b.0)
        | inr failed ↦ absurd (subst IsFailedStage was-idle failed)
      ]
      | inr other ↦ elim (old.rises q r o c u y other.1 out at inp has) as (λ _. Edge (placed p top rank) q r u) [
        | inl b ↦ inl (b.0, (let l = b.1 in let one = placed-other p top rank q other.0 in let two = placed-other p top rank r apart in omega (arith, l, one, two)))
        | inr failed ↦ inr failed
      ]
    ]

    ranks-finish : Ranks (slice_set kept.processes p (process_after x e)) (placed p top rank) (suc top)
    ranks-finish = record {
      below = λ q y is has. elim (found-set kept.processes p x (process_after x e) there q y is) as (λ _. placed p top rank q < suc top) [
        | inl same ↦ (let here = placed-here p top rank q same.0 in omega (arith, here))
        | inr other ↦ (let b = old.below q y other.1 has in let one = placed-other p top rank q other.0 in omega (arith, b, one))
      ];
      rises = λ q r o c u y is out at inp has. elim (found-set kept.processes p x (process_after x e) there r y at) as (λ _. Edge (placed p top rank) q r u) [
        | inl same ↦ subst (λ (k : ℕ). Edge (placed p top rank) q k u) (sym same.0) (into q o c u is out (in-before c y same.1 inp))
        | inr other ↦ beside q r o c u y is out other.0 other.1 inp has
      ];
    }

-- Some ranks there are.
record Ranked {K : Type 0} (kept : Kept K) : Type 0 where
  rank : ℕ → ℕ
  top : ℕ
  ranks : Ranks kept.processes rank top
  senders : SendersOpen kept

ranked-turn : {K : Type 0} (s : State K) (p : ℕ) (e : Event) (s' : State K) → Turn s p e s' → Ranked s.kept → Ranked s'.kept
ranked-turn {K} s p e s' turn r = elim (is-finish e) as (λ _. Ranked s'.kept) [
  | inl f ↦ record {
    rank = placed p r.top r.rank;
    top = suc r.top;
    ranks = subst (λ (ps : List (Process K)). Ranks ps (placed p r.top r.rank) (suc r.top)) (sym turn.kept.processes) (ranks-finish s.kept p turn.kept.before turn.kept.level e turn.kept.there turn.kept.happens r.rank r.top r.ranks r.senders f);
    senders = SendersOpen-turn s p e s' turn r.senders;
  }
  | inr on ↦ record {
    rank = r.rank;
    top = suc r.top;
    ranks = subst (λ (ps : List (Process K)). Ranks ps r.rank (suc r.top)) (sym turn.kept.processes) (ranks-on s.kept p turn.kept.before turn.kept.level e turn.kept.there turn.kept.happens r.rank r.top r.ranks on);
    senders = SendersOpen-turn s p e s' turn r.senders;
  }
]

module _ {K : Type 0} (rules : Rules K) where
  module _ (s : State K) (p : ℕ) (s' : State K) (work : Work rules s p s') (rank : ℕ → ℕ) (top : ℕ) (old : Ranks s.kept.processes rank top) where
    abbrev x : Process K
    x = work.before

    abbrev y : Process K
    y = worked work.before work.outcome

    told-none : HasBegunToClose x.stage → ⊥
    told-none has = subst HasBegunToClose work.kept.told has

    told-stands : IsFailedStage x.stage → ⊥
    told-stands has = subst IsFailedStage work.kept.told has

    ranks-work : Ranks (slice_set s.kept.processes p y) rank top
    ranks-work = record {
      below = λ q z is has. elim (found-set s.kept.processes p x y work.kept.there q z is) as (λ _. rank q < top) [
        | inl same ↦ absurd (begun-worked work.before work.outcome (subst (λ (w : Process K). HasBegunToClose w.stage) (sym same.1) has))
        | inr other ↦ old.below q z other.1 has
      ];
      rises = λ q r o c u z is out at inp has. elim (found-set s.kept.processes p x y work.kept.there r z at) as (λ _. (HasBegunToClose u.stage × (rank q < rank r)) ⊎ IsFailedStage u.stage) [
        | inl same ↦ absurd (begun-worked work.before work.outcome (subst (λ (w : Process K). HasBegunToClose w.stage) (sym same.1) has))
        | inr other ↦ elim (found-set s.kept.processes p x y work.kept.there q u is) as (λ _. (HasBegunToClose u.stage × (rank q < rank r)) ⊎ IsFailedStage u.stage) [
          | inl same ↦ (let out' : output_at x o ≡ Some c = ap (λ (os : List (Option ℕ)). option_and_then (λ (d : Option ℕ). d) (slice_get os o)) (sym (outputs-worked x work.outcome) ∙ ap (λ (w : Process K). w.outputs) same.1) ∙ out in
              elim (old.rises p r o c x z work.kept.there out' other.1 inp has) as (λ _. (HasBegunToClose u.stage × (rank q < rank r)) ⊎ IsFailedStage u.stage) [ inl b ↦ absurd (told-none b.0) | inr failed ↦ absurd (told-stands failed) ])
          | inr apart ↦ old.rises q r o c u z apart.1 out other.1 inp has
        ]
      ];
    }

  ranked-work : (s : State K) (p : ℕ) (s' : State K) → Work rules s p s' → Ranked s.kept → Ranked s'.kept
  ranked-work s p s' work r = record {
    rank = r.rank;
    top = r.top;
    ranks = subst (λ (ps : List (Process K)). Ranks ps r.rank r.top) (sym work.kept.processes) (ranks-work s p s' work r.rank r.top r.ranks);
    senders = SendersOpen-work rules s p s' work r.senders;
  }

  ranked-settles : (s : State K) (p : ℕ) (s' : State K) → Settles rules s p s' → Ranked s.kept → Ranked s'.kept
  ranked-settles s p s' (inl none) r = subst (λ (t : State K). Ranked t.kept) (sym none.1) r
  ranked-settles s p s' (inr work) r = ranked-work s p s' work r

  ranked-leads : (s : State K) (turns seen : List ℕ) (s' : State K) → LeadsBy rules s turns seen s' → Ranked s.kept → Ranked s'.kept
  ranked-leads s [] seen s' leads r = subst (λ (t : State K). Ranked t.kept) (sym leads.1) r
  ranked-leads s (p ∷ turns) seen s' leads r =
      let whole = leads.3 in
      ranked-leads leads.1 turns leads.2 s' leads.5 (ranked-settles whole.0 p leads.1 whole.2 (ranked-turn s p leads.0 whole.0 whole.1 r))

-- The plan's ports in the last state

module _ {K : Type 0} (rules : Rules K) (plan : Plan) (components : List K) (journal : Journal) (s : State K) (well : StartsWell rules plan components) (leads : Leads rules (start_of plan components) journal s) where
  kept-wires : SameWires (start_of plan components) s
  kept-wires = (wires-leads rules plan components journal s leads).0

  now : (p : ℕ) (z : Process K) → slice_get (processes_at_start plan 0 plan.processes components) p ≡ Some z → (x : Process K) × (slice_get s.kept.processes p ≡ Some x) × (wires x ≡ wires z)
  now p z there =
      let h : slice_get (map wires s.kept.processes) p ≡ Some (wires z) = ap (λ (ws : List Wires). slice_get ws p) kept-wires ∙ slice_get-map wires (processes_at_start plan 0 plan.processes components) p ∙ ap (option_map wires) there in
      map-found wires s.kept.processes p (wires z) h

  -- whoever sends by the plan does so in the last state
  pub sends-now : (p o c : ℕ) → sends_at plan p o ≡ Some c → (x : Process K) × (slice_get s.kept.processes p ≡ Some x) × (output_at x o ≡ Some c)
  sends-now p o c sends =
      let sender : Sender = record { process = p; output = o } in
      let pos = position-Some (λ (x : PlanConnection). list_any (is_sender sender) x.senders) plan.connections c no_connection sends in
      let connection = get_or plan.connections c no_connection in
      let at = open-place sender connection.senders pos.1 in
      let spec = well.wired.senders c at.0 connection sender (get-there plan.connections c no_connection pos.0) at.1 in
      let found = process-there plan 0 plan.processes components p spec.0 well.one_each spec.1 in
      let zero_p : 0 + p ≡ p = omega arith in
      let z : Process K = process_at_start plan p spec.0 found.0 in
      let x = now p z (found.1 ∙ ap (λ (m : ℕ). Some (process_at_start plan m spec.0 found.0)) zero_p) in
      let zero_o : 0 + o ≡ o = omega arith in
      let output : slice_get z.outputs o ≡ Some (Some c) = ports-at (sends_at plan p) 0 (spec.0.outputs + 1) o (let l = spec.2 in omega (arith, l)) ∙ ap (λ (m : ℕ). Some (sends_at plan p m)) zero_o ∙ ap (λ (d : Option ℕ). Some d) sends in
      (x.0, x.1, ap (λ (w : Wires). option_and_then (λ (d : Option ℕ). d) (slice_get w.outputs o)) x.2 ∙ ap (option_and_then (λ (d : Option ℕ). d)) output)

  -- and whoever receives by the plan
  receives-now : (q i c : ℕ) → receives_at plan q i ≡ Some c → (y : Process K) × (slice_get s.kept.processes q ≡ Some y) × Takes y c
  receives-now q i c receive =
      let pos = position-Some (λ (x : PlanConnection). (x.receiver == q) && (x.input == i)) plan.connections c no_connection receive in
      let connection = get_or plan.connections c no_connection in
      let is = both-true connection.receiver q connection.input i pos.1 in
      let spec = well.wired.receivers c connection (get-there plan.connections c no_connection pos.0) in
      let there : slice_get plan.processes q ≡ Some spec.0 = ap (slice_get plan.processes) (sym is.0) ∙ spec.1 in
      let found = process-there plan 0 plan.processes components q spec.0 well.one_each there in
      let zero_q : 0 + q ≡ q = omega arith in
      let z : Process K = process_at_start plan q spec.0 found.0 in
      let y = now q z (found.1 ∙ ap (λ (m : ℕ). Some (process_at_start plan m spec.0 found.0)) zero_q) in
      let within : i ≤ spec.0.inputs = (let l = spec.2 in omega (arith, l, is.1)) in
      let zero_i : 0 + i ≡ i = omega arith in
      let by : (b : Bool) → nat_lt i spec.0.inputs ≡ b → Takes y.0 c = λ b. elim b as (λ b. nat_lt i spec.0.inputs ≡ b → Takes y.0 c) [
        | true ↦ λ t. (let below : i < spec.0.inputs = grind (arith, nat_tests) in
            let input : slice_get z.inputs i ≡ Some (From c) = ports-at (input_at plan q spec.0) 0 spec.0.inputs i below ∙ ap (λ (m : ℕ). Some (input_at plan q spec.0 m)) zero_i ∙ ap (λ (d : Option ℕ). Some (connected_or (text_at spec.0.initials i) d)) receive in
            inl (i, ap (λ (w : Wires). slice_get w.inputs i) y.2 ∙ input))
        | false ↦ λ t. (let last : spec.0.inputs ≡ i = grind (arith, nat_tests) in
            inr (ap (λ (w : Wires). w.signal) y.2 ∙ ap (receives_at plan q) last ∙ receive))
      ] in
      (y.0, y.1, by (nat_lt i spec.0.inputs) refl)

  start-ranked : Ranked (start_of plan components).kept
  start-ranked = record {
    rank = λ _. 0;
    top = 0;
    ranks = record {
      below = λ p y is has. absurd (idle-start p y is has);
      rises = λ q p o c x y hx ho hy hi has. absurd (idle-start p y hy has);
    };
    senders = start-senders plan components;
  }
    where
      idle-start : (p : ℕ) (y : Process K) → slice_get (processes_at_start plan 0 plan.processes components) p ≡ Some y → HasBegunToClose y.stage → ⊥
      idle-start p y is has = subst (λ (z : Process K). HasBegunToClose z.stage) (start-process plan components p y is).is has

  pub finished-leads_on : IsFinished s → LeadsOn plan
  finished-leads_on finished =
      let r = ranked-leads rules (start_of plan components) journal.turns journal.seen s leads start-ranked in
      record {
        rank = r.rank;
        rises = λ p o q i c sends receive. (
            let x = sends-now p o c sends in
            let y = receives-now q i c receive in
            elim (r.ranks.rises p q o c x.0 y.0 x.1 x.2 y.1 y.2 (subst HasBegunToClose (sym (finished q y.0 y.1)) tt)) [ inl b ↦ b.1 | inr failed ↦ absurd (subst IsFailedStage (finished p x.0 x.1) failed) ]
            );
      }
