-- What keeps the whole rule: a step at an end of a connection, a level that changes, the work of a held body, and a turn that is stamped.
use Rattle.std.proofs.Common.{◌≡◌, ◌≢◌, ℕ, ◌+◌, ◌<◌, List, [], ◌∷◌, ◌++◌, length, get_or, set, sym, refl, ap, ◌∙◌, subst, arith, Option, Some, None, slice_get, length-set, get_or-set_other, Contains}
use mathlib.Core.Logic.{dite}
use mathlib.Core.Option.{some}
use native.Mathlib.Decide.{ℕ_discrete}
use lib.ListN.{get_elem?}
use Rattle.flow_component.specs.Laws.{Rules, Lawful}
use Rattle.flow_model.specs.Events.{Event, event_from}
use Rattle.flow_model.specs.Stands.{ChannelShown, all_shown_after}
use Rattle.flow_machine.specs.Values.{BodyValue, NetValue}
use Rattle.flow_machine.specs.Nets.{looks_of}
use Rattle.flow_ring.specs.Words.{level_in, senders_in}
use Rattle.flow_ring.specs.Places.{level_rank, gate_rank}
use Rattle.flow_floor.specs.Turning.{turned_body, with_body, turned_net, logged}
use Rattle.flow_floor.specs.Law.{IsTaken, IsFree, Rests, AllSeen, Beside, Lies}
use Rattle.flow_floor.specs.Waking.{live_in, AllRetired, IsDoneWord, Notes, AllBlock}
use Rattle.flow_floor.proofs.Retires.{done-beyond, done-body}
use Rattle.flow_floor.proofs.Functions.{put, put_here, put_else}
use Rattle.flow_floor.proofs.Lists.{some_Some, get-within}
use Rattle.flow_floor.specs.declared.board.View.{View}
use Rattle.flow_floor.specs.declared.board.Look.{Look}
use Rattle.flow_floor.specs.Ends.{Sender, Receiver, capacities_of}
use Rattle.flow_floor.specs.Rule.{Law}
use Rattle.flow_floor.specs.Views.{counting, looked}
use Rattle.flow_floor.proofs.Cells.{St, Homes, state, Own}
use Rattle.flow_floor.proofs.Flows.{AllLie, channel-below, connections-at, flow-commit, flow-step, flow-turn, flow-view}
use Rattle.flow_floor.proofs.Seats.{SendersStay, ReceiversStay}
use Rattle.flow_floor.proofs.Wakings.{word-taken, wakes-commit, wakes-release, wakes-stamp, wakes-view}

-- What a step at the ends of connections leaves of the seat's view.
pub record IsSame {K : Type 0} (v w : View K) : Type 0 where
  pub held : w.held ≡ v.held
  pub shares : w.shares ≡ v.shares
  pub made : w.made ≡ v.made
  pub spare : w.spare ≡ v.spare
  pub zeros : w.read_zero ≡ v.read_zero

-- Where the words of processes stay, each that is done stays retired.
done-same : {K : Type 0} (ws ws' : List ℕ) (bs : List (BodyValue K)) → ((q : ℕ) → q < length bs → get_or ws' q 0 ≡ get_or ws q 0) → AllRetired ws bs → AllRetired ws' bs
done-same ws ws' bs same all q b there done = all q b there (subst IsDoneWord (same q (get-within bs q b there)) done)

module _ {K : Type 0} (rules : Rules K) (lawful : Lawful rules)
    (start : NetValue K) where
  abbrev Rule : St K → Type 0
  Rule = Law rules start

  abbrev P : ℕ
  P = length start.bodies

  abbrev caps : List ℕ
  caps = capacities_of start

  abbrev C : ℕ
  C = length caps

  abbrev L : ℕ
  L = P + C + C + 1

  -- A step that leaves the words of processes, the levels, the clock and the live word.
  pub law-step : (s : St K) (r : Rule s) (id : ℕ) (v w : View K) (ws' : List ℕ) (hs' : Homes K) (senders' : ℕ → Sender) (receivers' : ℕ → Receiver) → get_elem? s.views id ≡ some v → length ws' ≡ length s.words → length hs' ≡ length s.homes
      → ((q : ℕ) → q < P + C → get_or ws' q 0 ≡ get_or s.words q 0) → get_or ws' (P + C + C) 0 ≡ get_or s.words (P + C + C) 0 → get_or ws' L 0 ≡ get_or s.words L 0 → live_in P ws' ≡ live_in P s.words → ((x : ℕ) → x < P → get_elem? hs' x ≡ get_elem? s.homes x)
      → IsSame v w → w.noted ≡ v.noted → AllSeen P r.beside.now w.held w.seen → ((q : ℕ) (b : BodyValue K) → v.held ≡ Some (q, b) → AllBlock P start.channels ws' b v.seen → AllBlock P start.channels ws' b w.seen) → (w.held ≡ None → (w.sending ≡ None) × (w.receiving ≡ None))
      → SendersStay s id w r.beside.senders senders' → ReceiversStay s id w r.beside.receivers receivers' → AllLie rules lawful start r.beside.now.channels (state ws' hs' (set s.views id w)) senders' receivers' → Rule (state ws' hs' (set s.views id w))
  law-step s r id v w ws' hs' senders' receivers' at len deep words clock live counted homes same noted seen blocks idle sending receiving lie =
      let f = r.flow in
      let g = r.beside in
      let g' = record g { senders = senders'; receivers = receivers' } in
      let ks = r.wakes.each id v at in
      record {
        beside = g';
        planned = r.planned;
        flow = flow-step rules lawful start s g id v w ws' hs' senders' receivers' f at len deep (λ q low. (let e = words q (omega (arith, low)) in (subst IsFree (sym e), subst IsTaken (sym e)))) clock homes same.held same.made seen idle sending receiving lie;
        wakes = wakes-view rules lawful start s g g' ws' hs' id v w f r.wakes at refl (λ q low. words q (omega (arith, low))) counted
            (λ c below. (let e = words (P + c) (omega (arith, below)) in (ap level_in e, ap senders_in e))) (omega (arith, live, same.spare)) (λ z. live ∙ z) same.held same.shares
            (record { spare = omega (arith, ks.spare, same.spare, same.shares); noted = λ e. noted ∙ ks.noted (sym same.held ∙ e); zero = λ z. live ∙ ks.zero (sym same.zeros ∙ z); bare = λ e. (let n = ks.bare (sym same.shares ∙ e) in (same.held ∙ n.0, same.made ∙ n.1)) }) (λ q there. subst (λ (xs : List ℕ). Contains xs q) (sym noted) there) blocks;
        done = done-same s.words ws' g.now.bodies (λ q low. words q (omega (arith, low, f.same.0))) r.done;
      }

  -- A step that changes no word and no slot, and of the view nothing but looks.
  pub law-look : (s : St K) (id : ℕ) (v w : View K) (r : Rule s) → get_elem? s.views id ≡ some v → IsSame v w → w.sending ≡ v.sending → w.receiving ≡ v.receiving → w.noted ≡ v.noted → AllSeen P r.beside.now w.held w.seen
      → ((q : ℕ) (b : BodyValue K) → v.held ≡ Some (q, b) → AllBlock P start.channels s.words b v.seen → AllBlock P start.channels s.words b w.seen) → Rule (state s.words s.homes (set s.views id w))
  law-look s id v w r at same sending receiving noted seen blocks =
      let f = r.flow in
      let g = r.beside in
      let ks = r.wakes.each id v at in
      record {
        beside = g;
        flow = flow-view rules lawful start s g id v w s.words f at refl (λ q below. (λ z. z, λ z. z)) (λ q a b. refl) same.held sending receiving same.made seen;
        planned = r.planned;
        wakes = wakes-view rules lawful start s g g s.words s.homes id v w f r.wakes at refl (λ q below. refl) refl (λ c below. (refl, refl)) (omega (arith, same.spare)) (λ z. z) same.held same.shares
            (record { spare = omega (arith, ks.spare, same.spare, same.shares); noted = λ e. noted ∙ ks.noted (sym same.held ∙ e); zero = λ z. ks.zero (sym same.zeros ∙ z); bare = λ e. (let n = ks.bare (sym same.shares ∙ e) in (same.held ∙ n.0, same.made ∙ n.1)) }) (λ q there. subst (λ (xs : List ℕ). Contains xs q) (sym noted) there) blocks;
        done = r.done;
      }

  -- A look that isn't kept.
  pub law-looked : (s : St K) (id i x : ℕ) (v : View K) → Rule s → get_elem? s.views id ≡ some v → Rule (state s.words s.homes (set s.views id (looked v i x)))
  law-looked s id i x v r at = law-look s id v (looked v i x) r at (record { held = refl; shares = refl; made = refl; spare = refl; zeros = refl }) refl refl refl (r.flow.each_seat id v at).seen (λ q b h all. all)

  -- A step that only counts.
  pub law-counting : (s : St K) (id : ℕ) (v : View K) → Rule s → get_elem? s.views id ≡ some v → Rule (state s.words s.homes (set s.views id (counting v)))
  law-counting s id v r at = law-look s id v (counting v) r at (record { held = refl; shares = refl; made = refl; spare = refl; zeros = refl }) refl refl refl (r.flow.each_seat id v at).seen (λ q b h all. all)

  -- A step that changes the level word of connection c, and notes those whom that may unblock.
  pub law-level : (s : St K) (r : Rule s) (id p c y : ℕ) (v w : View K) (b : BodyValue K) (senders' : ℕ → Sender) (receivers' : ℕ → Receiver) → get_elem? s.views id ≡ some v → v.held ≡ Some (p, b) → c < C → IsSame v w → w.seen ≡ v.seen → ((q : ℕ) → Contains v.noted q → Contains w.noted q)
      → Notes start c (get_or s.words (P + c) 0) y w.noted → SendersStay s id w r.beside.senders senders' → ReceiversStay s id w r.beside.receivers receivers' → AllLie rules lawful start r.beside.now.channels (state (set s.words (P + c) y) s.homes (set s.views id w)) senders' receivers'
      → Rule (state (set s.words (P + c) y) s.homes (set s.views id w))
  law-level s r id p c y v w b senders' receivers' at holds below same seen keep notes sending receiving lie =
      let f = r.flow in
      let g = r.beside in
      let g' = record g { senders = senders'; receivers = receivers' } in
      let i : ℕ = P + c in
      let ws' = set s.words i y in
      record {
        beside = g';
        planned = r.planned;
        flow = flow-step rules lawful start s g id v w ws' s.homes senders' receivers' f at (length-set s.words i y) refl
            (λ q low. (let e = get_or-set_other s.words i q y 0 (λ e. omega (arith, e, low)) in (subst IsFree (sym e), subst IsTaken (sym e)))) (get_or-set_other s.words i (P + C + C) y 0 (λ e. omega (arith, e, below))) (λ x low. refl) same.held same.made
            (subst (λ (z : Option (ℕ × BodyValue K) × List Look). AllSeen P g.now z.0 z.1) (λ j. (sym same.held j, sym seen j)) (f.each_seat id v at).seen)
            (λ gone. (let e : None ≡ Some (p, b) = sym gone ∙ same.held ∙ holds in absurd (cc))) sending receiving lie;
        wakes = wakes-release rules lawful start s g g' id p c y s.homes v w b f r.wakes at holds below refl same.held same.shares same.spare same.zeros seen keep notes;
        done = done-same s.words ws' g.now.bodies (λ q low. get_or-set_other s.words i q y 0 (λ e. omega (arith, e, low, f.same.0))) r.done;
      }

  -- The work of a held body is in the list.
  pub law-commit : (s : St K) (id p : ℕ) (v w : View K) (b d : BodyValue K) → Rule s → get_elem? s.views id ≡ some v → v.held ≡ Some (p, b) → Rests rules b d → w ≡ record v { held = Some (p, d) } → Rule (state s.words s.homes (set s.views id w))
  law-commit s id p v w b d r at holds rests is = record {
    beside = record r.beside { now = with_body r.beside.now p d };
    flow = flow-commit rules lawful start s r.beside id p v w b d r.flow at holds rests (ap (λ (y : View K). y.held) is) (ap (λ (y : View K). y.sending) is) (ap (λ (y : View K). y.receiving) is) (ap (λ (y : View K). y.made) is) (ap (λ (y : View K). y.seen) is);
    planned = r.planned;
    wakes = wakes-commit rules lawful start s r.beside id p v w b d r.flow r.wakes at holds rests (ap (λ (y : View K). y.held) is) (ap (λ (y : View K). y.shares) is) (ap (λ (y : View K). y.spare) is) (ap (λ (y : View K). y.noted) is) (ap (λ (y : View K). y.read_zero) is)
        (ap (λ (y : View K). y.seen) is);
    done = done-body s.words p d r.beside.now.bodies (word-taken rules lawful start s r.beside id p v b r.flow at holds) r.done;
  }

  -- The clock is counted: the machine has the turn.
  pub law-stamp : (s : St K) (r : Rule s) (id p n x y : ℕ) (v w : View K) (b : BodyValue K) (e : Event) (senders' : ℕ → Sender) (receivers' : ℕ → Receiver) → get_elem? s.views id ≡ some v → v.held ≡ Some (p, b) → event_from (looks_of r.beside.now.channels) b.process n ≡ Some e
      → x ≡ get_or s.words (P + C + C) 0 → y ≡ x + 1 → w.held ≡ Some (p, turned_body e x b) → w.shares ≡ v.shares → w.made ≡ v.made ++ (x, p) ∷ [] → w.spare ≡ v.spare → w.noted ≡ v.noted → w.read_zero ≡ v.read_zero → w.seen ≡ [] → SendersStay s id w r.beside.senders senders' → ReceiversStay s id w r.beside.receivers receivers'
      → AllLie rules lawful start (all_shown_after e r.beside.now.channels) (state (set s.words (P + C + C) y) s.homes (set s.views id w)) senders' receivers' → Rule (state (set s.words (P + C + C) y) s.homes (set s.views id w))
  law-stamp s r id p n x y v w b e senders' receivers' at holds happens x_is y_is held shares made spare noted zeros seen sending receiving lie =
      let f = r.flow in
      let g = r.beside in
      let i : ℕ = P + C + C in
      let g' : Beside K = record { now = turned_net g.now p b e x; log = g.log ++ logged p e ∷ []; by = g.by ++ id ∷ []; holder = g.holder; senders = senders'; receivers = receivers' } in
      record {
        beside = g';
        flow = flow-turn rules lawful start s g id p n x y v w b e senders' receivers' f at holds happens x_is y_is held made seen sending receiving lie;
        planned = r.planned;
        wakes = wakes-stamp rules lawful start s g g' id p x y v w b e f r.wakes at holds refl held shares spare noted zeros seen;
        done = done-beyond s.words i y g'.now.bodies (omega (arith, length-set g.now.bodies p (turned_body e x b), f.same.0)) (done-body s.words p (turned_body e x b) g.now.bodies (word-taken rules lawful start s g id p v b f at holds) r.done);
      }

  -- Connection c changes, by what the seat at its sending end does.
  pub sender-lies : (s : St K) (r : Rule s) (ws' : List ℕ) (hs' : Homes K) (vs' : List (View K)) (c : ℕ) (k : ChannelShown) (new : Sender) → slice_get r.beside.now.channels c ≡ Some k → ((q : ℕ) → q < P + C + C → q ≢ gate_rank P C c → q ≢ level_rank P c → get_or ws' q 0 ≡ get_or s.words q 0)
      → ((x : ℕ) → (Own P caps c x → ⊥) → get_elem? hs' x ≡ get_elem? s.homes x) → Lies start (state ws' hs' vs') c k new (r.beside.receivers c) → AllLie rules lawful start r.beside.now.channels (state ws' hs' vs') (put r.beside.senders c new) r.beside.receivers
  sender-lies s r ws' hs' vs' c k new there words homes lies d x is = dite (ℕ_discrete d c)
      (λ e. (let kx : k ≡ x = some_Some k x (sym there ∙ ap (slice_get r.beside.now.channels) (sym e) ∙ is) in
      subst (λ (z : ℕ × ChannelShown). Lies start (state ws' hs' vs') z.0 z.1 (put r.beside.senders c new z.0) (r.beside.receivers z.0)) (λ i. (sym e i, kx i)) (subst (λ (z : Sender). Lies start (state ws' hs' vs') c k z (r.beside.receivers c)) (sym (put_here r.beside.senders c new)) lies)))
      (λ other. connections-at rules lawful start s r.beside ws' hs' vs' c (put r.beside.senders c new) r.beside.receivers r.flow (channel-below rules lawful start s r.beside c k r.flow there) words homes (λ d other. (put_else r.beside.senders c new d other, refl)) d x is other)

  -- It changes by what the seat at its receiving end does.
  pub receiver-lies : (s : St K) (r : Rule s) (ws' : List ℕ) (hs' : Homes K) (vs' : List (View K)) (c : ℕ) (k : ChannelShown) (new : Receiver) → slice_get r.beside.now.channels c ≡ Some k → ((q : ℕ) → q < P + C + C → q ≢ gate_rank P C c → q ≢ level_rank P c → get_or ws' q 0 ≡ get_or s.words q 0)
      → ((x : ℕ) → (Own P caps c x → ⊥) → get_elem? hs' x ≡ get_elem? s.homes x) → Lies start (state ws' hs' vs') c k (r.beside.senders c) new → AllLie rules lawful start r.beside.now.channels (state ws' hs' vs') r.beside.senders (put r.beside.receivers c new)
  receiver-lies s r ws' hs' vs' c k new there words homes lies d x is = dite (ℕ_discrete d c)
      (λ e. (let kx : k ≡ x = some_Some k x (sym there ∙ ap (slice_get r.beside.now.channels) (sym e) ∙ is) in
      subst (λ (z : ℕ × ChannelShown). Lies start (state ws' hs' vs') z.0 z.1 (r.beside.senders z.0) (put r.beside.receivers c new z.0)) (λ i. (sym e i, kx i)) (subst (λ (z : Receiver). Lies start (state ws' hs' vs') c k (r.beside.senders c) z) (sym (put_here r.beside.receivers c new)) lies)))
      (λ other. connections-at rules lawful start s r.beside ws' hs' vs' c r.beside.senders (put r.beside.receivers c new) r.flow (channel-below rules lawful start s r.beside c k r.flow there) words homes (λ d other. (refl, put_else r.beside.receivers c new d other)) d x is other)
