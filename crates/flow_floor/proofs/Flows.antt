-- Each kind of step keeps the first half of the rule.
use Rattle.std.proofs.Common.{◌≡◌, ◌≢◌, ℕ, ◌+◌, ◌<◌, ◌≤◌, List, [], ◌∷◌, ◌++◌, length, get_or, set, sym, refl, ap, ◌∙◌, subst, arith, Option, Some, None, slice_get, slice_set, length-set, length-append, get_or-set_other, get_or-set_same, inl, inr, All}
use mathlib.Core.Option.{none, some}
use lib.ListN.{get_elem?}
use Rattle.std.proofs.lemmas.List.Elements.{All-push}
use Rattle.atomic_table.proofs.Lists.{set_here, set_else}
use Rattle.flow_component.specs.Laws.{Rules, Lawful}
use Rattle.std.specs.Prelude.{option_and_then}
use Rattle.flow_model.specs.Events.{Event, event_from}
use Rattle.flow_model.specs.Stands.{ChannelShown, all_shown_after}
use Rattle.flow_model.proofs.Lists.{slice_get-set_same, slice_get-set_other, same_or_not}
use Rattle.flow_machine.specs.Values.{BodyValue, NetValue}
use Rattle.flow_machine.specs.Nets.{looks_of}
use Rattle.flow_machine.specs.Logs.{turns_made}
use Rattle.flow_machine.proofs.FitLemmas.{fit-turn, same-turns, channels-len}
use Rattle.flow_machine.proofs.SoloLemmas.{turn-count}
use Rattle.flow_ring.specs.Places.{level_rank, gate_rank}
use Rattle.flow_floor.specs.Turning.{turned_body, with_body, turned_net, logged}
use Rattle.flow_floor.specs.Law.{IsTaken, IsFree, Rests, Holds, Stands, SeenTrue, AllSeen, Knows, Lies, Beside, Flow}
use Rattle.flow_floor.specs.Made.{turns_by}
use Rattle.flow_floor.proofs.Channels.{SameInputs, input-same, channel-moves, one-receiver}
use Rattle.flow_floor.proofs.Going.{turned, rest-fit, rest-count, rest-goes, turn-goes}
use Rattle.flow_floor.proofs.Functions.{put, put_here, put_else}
use Rattle.flow_floor.proofs.Lists.{at_inside, some_Some, get-exists, get-within}
use Rattle.flow_floor.proofs.Made.{turns_by-mine, turns_by-else}
use Rattle.flow_floor.specs.declared.board.Slot.TheVariants as slot
use Rattle.flow_floor.specs.declared.board.View.{View}
use Rattle.flow_floor.specs.declared.board.Look.{Look}
use Rattle.flow_floor.specs.Ends.{Sender, Receiver, capacities_of, Sends, Receives}
use Rattle.flow_floor.proofs.Cells.{St, Homes, state, Own, own-body, own-apart}
use Rattle.flow_floor.proofs.Lying.{so-keep}
use Rattle.flow_floor.proofs.Seats.{seats_stay, stands_keep, seen_keep, knows_keep, stays-same, SendersStay, ReceiversStay, sending-place, receiving-place}

module _ {K : Type 0} (rules : Rules K) (lawful : Lawful rules)
    (start : NetValue K) where
  abbrev F : St K → Beside K → Type 0
  F s g = Flow rules start s g

  abbrev P : ℕ
  P = length start.bodies

  abbrev caps : List ℕ
  caps = capacities_of start

  abbrev C : ℕ
  C = length caps

  -- All connections of the net lie so.
  abbrev pub AllLie : List ChannelShown → St K → (ℕ → Sender) → (ℕ → Receiver) → Type 0
  AllLie channels s senders receivers = (c : ℕ) (k : ChannelShown) → slice_get channels c ≡ Some k → Lies start s c k (senders c) (receivers c)

  -- what the seat holds
  pub mine-holds : (s : St K) (g : Beside K) (id p : ℕ) (v : View K) (b : BodyValue K) → F s g → get_elem? s.views id ≡ some v → v.held ≡ Some (p, b) → (g.holder p ≡ Some id) × (slice_get g.now.bodies p ≡ Some b)
  mine-holds s g id p v b f at is = subst (Holds g.holder g.now id) is (f.each_seat id v at).holds

  pub process-below : (s : St K) (g : Beside K) (p : ℕ) (b : BodyValue K) → F s g → slice_get g.now.bodies p ≡ Some b → p < P
  process-below s g p b f there = omega (arith, get-within g.now.bodies p b there, f.same.0)

  pub channel-below : (s : St K) (g : Beside K) (c : ℕ) (k : ChannelShown) → F s g → slice_get g.now.channels c ≡ Some k → c < C
  channel-below s g c k f there = omega (arith, get-within g.now.channels c k there, f.same.1)

  no-hold : (h : Option (ℕ × BodyValue K)) (x : ℕ × BodyValue K) (X : Type 0) → h ≡ None → h ≡ Some x → X
  no-hold h x X a b = let e : None ≡ Some x = sym a ∙ b in absurd (cc)

  no-owner : (h : Option ℕ) (j : ℕ) (X : Type 0) → h ≡ None → h ≡ Some j → X
  no-owner h j X a b = let e : None ≡ Some j = sym a ∙ b in absurd (cc)

  one-owner : (h : Option ℕ) (i j : ℕ) → h ≡ Some i → h ≡ Some j → i ≡ j
  one-owner h i j a b = some_Some i j (sym a ∙ b)

  same-pair : {A : Type 0} (h : Option (ℕ × A)) (x y : ℕ × A) → h ≡ Some x → h ≡ Some y → x.0 ≡ y.0
  same-pair {A} h x y a b = ap (λ (z : ℕ × A). z.0) (some_Some x y (sym a ∙ b))

  -- A connection lies as it did where its words and slots stay.
  pub lies-keep : (s s' : St K) (c : ℕ) (k : ChannelShown) (sender : Sender) (receiver : Receiver) → get_or s'.words (gate_rank P C c) 0 ≡ get_or s.words (gate_rank P C c) 0 → get_or s'.words (level_rank P c) 0 ≡ get_or s.words (level_rank P c) 0
      → ((x : ℕ) → Own P caps c x → get_elem? s'.homes x ≡ get_elem? s.homes x) → Lies start s c k sender receiver → Lies start s' c k sender receiver
  lies-keep s s' c k sender receiver gate level home l = record { gated = gate ∙ l.gated; so = so-keep start s s' c k _ _ level home l.so }

  -- Where only what is connection c's own changes, the others lie as they did.
  pub connections-at : (s : St K) (g : Beside K) (ws' : List ℕ) (hs' : Homes K) (vs' : List (View K)) (c : ℕ) (senders' : ℕ → Sender) (receivers' : ℕ → Receiver) → F s g → c < C
      → ((q : ℕ) → q < P + C + C → q ≢ gate_rank P C c → q ≢ level_rank P c → get_or ws' q 0 ≡ get_or s.words q 0) → ((x : ℕ) → (Own P caps c x → ⊥) → get_elem? hs' x ≡ get_elem? s.homes x)
      → ((d : ℕ) → d ≢ c → (senders' d ≡ g.senders d) × (receivers' d ≡ g.receivers d)) → (d : ℕ) (k : ChannelShown) → slice_get g.now.channels d ≡ Some k → d ≢ c → Lies start (state ws' hs' vs') d k (senders' d) (receivers' d)
  connections-at s g ws' hs' vs' c senders' receivers' f c_below words homes ends d k is other =
      let below = channel-below s g d k f is in
      let same = ends d other in
      subst (λ (z : Sender × Receiver). Lies start (state ws' hs' vs') d k z.0 z.1) (λ i. (sym same.0 i, sym same.1 i))
      (lies-keep s (state ws' hs' vs') d k (g.senders d) (g.receivers d) (words (gate_rank P C d) (omega (arith, below)) (λ e. other (omega (arith, e))) (λ e. omega (arith, e, c_below)))
      (words (level_rank P d) (omega (arith, below)) (λ e. omega (arith, e, below)) (λ e. other (omega (arith, e)))) (λ x own. homes x (λ theirs. other (own-apart P caps d c x below c_below own theirs))) (f.each_connection d k is))

  -- Where the words of connections and all slots but those of bodies stay, all lie as they did.
  pub connections-keep : (s : St K) (g : Beside K) (ws' : List ℕ) (hs' : Homes K) (vs' : List (View K)) → F s g → ((q : ℕ) → P ≤ q → q < P + C + C → get_or ws' q 0 ≡ get_or s.words q 0) → ((x : ℕ) → (x < P → ⊥) → get_elem? hs' x ≡ get_elem? s.homes x)
      → AllLie g.now.channels (state ws' hs' vs') g.senders g.receivers
  connections-keep s g ws' hs' vs' f words homes c k is =
      let below = channel-below s g c k f is in
      lies-keep s (state ws' hs' vs') c k (g.senders c) (g.receivers c) (words (gate_rank P C c) (omega arith) (omega (arith, below))) (words (level_rank P c) (omega arith) (omega (arith, below))) (λ x own. homes x (λ low. own-body P caps c x low own)) (f.each_connection c k is)

  -- The seat's ends stay, where it holds the same process, or none was held.
  pub senders-same : (s : St K) (g : Beside K) (id : ℕ) (v w : View K) → F s g → get_elem? s.views id ≡ some v → w.sending ≡ v.sending → ((c : ℕ) → Sends v.held c → Sends w.held c) → SendersStay s id w g.senders g.senders
  senders-same s g id v w f at same allowed = stays-same sending-place (λ (z : View K). z.sending) Sends s.views id v w g.senders at same (λ c x is. allowed c) f.each_sender (f.each_seat id v at).sending

  pub receivers-same : (s : St K) (g : Beside K) (id : ℕ) (v w : View K) → F s g → get_elem? s.views id ≡ some v → w.receiving ≡ v.receiving → ((c : ℕ) → Receives v.held c → Receives w.held c) → ReceiversStay s id w g.receivers g.receivers
  receivers-same s g id v w f at same allowed = stays-same receiving-place (λ (z : View K). z.receiving) Receives s.views id v w g.receivers at same (λ c x is. allowed c) f.each_receiver (f.each_seat id v at).receiving

  -- A seat that holds nothing is at no end: so its ends stay whatever it holds then.
  pub senders-none : (s : St K) (g : Beside K) (id : ℕ) (v w : View K) → F s g → get_elem? s.views id ≡ some v → v.sending ≡ None → w.sending ≡ None → SendersStay s id w g.senders g.senders
  senders-none s g id v w f at gone gone' = stays-same sending-place (λ (z : View K). z.sending) Sends s.views id v w g.senders at (gone' ∙ sym gone) (λ c x is. (let e : None ≡ Some x = sym gone ∙ is in absurd (cc))) f.each_sender (f.each_seat id v at).sending

  pub receivers-none : (s : St K) (g : Beside K) (id : ℕ) (v w : View K) → F s g → get_elem? s.views id ≡ some v → v.receiving ≡ None → w.receiving ≡ None → ReceiversStay s id w g.receivers g.receivers
  receivers-none s g id v w f at gone gone' = stays-same receiving-place (λ (z : View K). z.receiving) Receives s.views id v w g.receivers at (gone' ∙ sym gone) (λ c x is. (let e : None ≡ Some x = sym gone ∙ is in absurd (cc))) f.each_receiver (f.each_seat id v at).receiving

  -- The machine's net stays, and so does each process but p at most: words, slots, who holds p, and who is at which end.
  pub flow-still : (s : St K) (g : Beside K) (id : ℕ) (v w : View K) (ws' : List ℕ) (hs' : Homes K) (holder' : ℕ → Option ℕ) (senders' : ℕ → Sender) (receivers' : ℕ → Receiver) → F s g → get_elem? s.views id ≡ some v → length ws' ≡ length s.words → length hs' ≡ length s.homes → get_or ws' (P + C + C) 0 ≡ get_or s.words (P + C + C) 0
      → ((q : ℕ) (x : BodyValue K) → slice_get g.now.bodies q ≡ Some x → Stands (state ws' hs' (set s.views id w)) q x (holder' q)) → AllLie g.now.channels (state ws' hs' (set s.views id w)) senders' receivers' → SendersStay s id w g.senders senders' → ReceiversStay s id w g.receivers receivers'
      → ((j q : ℕ) → j ≢ id → g.holder q ≡ Some j → holder' q ≡ Some j) → Holds holder' g.now id w.held → (w.held ≡ None → (w.sending ≡ None) × (w.receiving ≡ None)) → w.made ≡ v.made → AllSeen P g.now w.held w.seen
      → F (state ws' hs' (set s.views id w)) (record g { holder = holder'; senders = senders'; receivers = receivers' })
  flow-still s g id v w ws' hs' holder' senders' receivers' f at len deep clock processes connections sending receiving theirs holds idle made seen =
      let k = f.each_seat id v at in
      let g' : Beside K = record g { holder = holder'; senders = senders'; receivers = receivers' } in
      record {
        fit = f.fit;
        goes = f.goes;
        clock = clock ∙ f.clock;
        total = f.total;
        seats = f.seats;
        inside = subst (λ (m : ℕ). All (λ (j : ℕ). j < m) g.by) (sym (length-set s.views id w)) f.inside;
        same = f.same;
        wide = len ∙ f.wide;
        deep = deep ∙ f.deep;
        each_process = processes;
        each_connection = connections;
        each_sender = sending.said;
        each_receiver = receiving.said;
        each_seat = seats_stay (Knows g' P (turns_made start)) s.views id w
            (record { holds = holds; sending = sending.mine; receiving = receiving.mine; idle = idle; made = made ∙ k.made; seen = seen })
            (λ j u other e. knows_keep s id w g g' P (turns_made start) j u other sending receiving (λ q x h is. (theirs j q other h, is)) (λ q x look h is t. t) refl (f.each_seat j u e));
      }

  -- No process is taken, left or changed.
  pub flow-step : (s : St K) (g : Beside K) (id : ℕ) (v w : View K) (ws' : List ℕ) (hs' : Homes K) (senders' : ℕ → Sender) (receivers' : ℕ → Receiver) → F s g → get_elem? s.views id ≡ some v → length ws' ≡ length s.words → length hs' ≡ length s.homes
      → ((q : ℕ) → q < P → (IsFree (get_or s.words q 0) → IsFree (get_or ws' q 0)) × (IsTaken (get_or s.words q 0) → IsTaken (get_or ws' q 0))) → get_or ws' (P + C + C) 0 ≡ get_or s.words (P + C + C) 0 → ((x : ℕ) → x < P → get_elem? hs' x ≡ get_elem? s.homes x)
      → w.held ≡ v.held → w.made ≡ v.made → AllSeen P g.now w.held w.seen → (w.held ≡ None → (w.sending ≡ None) × (w.receiving ≡ None)) → SendersStay s id w g.senders senders' → ReceiversStay s id w g.receivers receivers'
      → AllLie g.now.channels (state ws' hs' (set s.views id w)) senders' receivers'
      → F (state ws' hs' (set s.views id w)) (record g { senders = senders'; receivers = receivers' })
  flow-step s g id v w ws' hs' senders' receivers' f at len deep process clock homes held made seen idle sending receiving connections =
      flow-still s g id v w ws' hs' g.holder senders' receivers' f at len deep clock
      (λ q x is. let low = process-below s g q x f is in let t = process q low in stands_keep s ws' hs' id v w q x (g.holder q) at t.0 t.1 (homes q low) (λ e. held ∙ e) (f.each_process q x is))
      connections sending receiving (λ j q other h. h) (subst (Holds g.holder g.now id) (sym held) (f.each_seat id v at).holds) idle made seen

  -- Process p goes to this seat or from it, by its word and its slot alone.
  flow-hand : (s : St K) (g : Beside K) (id p y : ℕ) (v w : View K) (b : BodyValue K) (home : _) (h : Option ℕ) → F s g → get_elem? s.views id ≡ some v → slice_get g.now.bodies p ≡ Some b
      → Stands (state (set s.words p y) (set s.homes p home) (set s.views id w)) p b h → ((q : ℕ) (x : BodyValue K) → q ≢ p → v.held ≡ Some (q, x) → w.held ≡ Some (q, x)) → ((j : ℕ) → j ≢ id → g.holder p ≡ Some j → ⊥)
      → v.sending ≡ None → w.sending ≡ None → v.receiving ≡ None → w.receiving ≡ None → Holds (put g.holder p h) g.now id w.held → w.made ≡ v.made → AllSeen P g.now w.held w.seen
      → F (state (set s.words p y) (set s.homes p home) (set s.views id w)) (record g { holder = put g.holder p h })
  flow-hand s g id p y v w b home h f at there here keeps alone no_sending no_sending' no_receiving no_receiving' holds made seen =
      let below = process-below s g p b f there in
      let ws' = set s.words p y in
      let hs' = set s.homes p home in
      let s' = state ws' hs' (set s.views id w) in
      let wide = f.wide in
      flow-still s g id v w ws' hs' (put g.holder p h) g.senders g.receivers f at (length-set s.words p y) (length-set s.homes p home) (get_or-set_other s.words p (P + C + C) y 0 (λ e. omega (arith, e, below)))
      (λ q x is. elim (same_or_not q p) [
        | inl same ↦ (let e : Some b ≡ Some x = sym there ∙ ap (slice_get g.now.bodies) (sym same) ∙ is in
            subst (λ (z : ℕ × BodyValue K). Stands s' z.0 z.1 (put g.holder p h z.0)) (λ i. (sym same i, some_Some b x e i)) (subst (Stands s' p b) (sym (put_here g.holder p h)) here))
        | inr other ↦ (let word = get_or-set_other s.words p q y 0 other in
            subst (Stands s' q x) (sym (put_else g.holder p h q other))
            (stands_keep s ws' hs' id v w q x (g.holder q) at (subst IsFree (sym word)) (subst IsTaken (sym word)) (set_else s.homes p q home other) (keeps q x other) (f.each_process q x is)))
      ])
      (connections-keep s g ws' hs' (set s.views id w) f (λ q low high. get_or-set_other s.words p q y 0 (λ e. omega (arith, e, low, below))) (λ x high. set_else s.homes p x home (λ e. high (omega (arith, e, below)))))
      (senders-none s g id v w f at no_sending no_sending') (receivers-none s g id v w f at no_receiving no_receiving')
      (λ j q other is. put_else g.holder p h q (λ same. alone j other (ap g.holder (sym same) ∙ is)) ∙ is) holds (λ e. (no_sending', no_receiving')) made seen

  -- A process that no seat holds is taken.
  pub flow-claim : (s : St K) (g : Beside K) (id p y : ℕ) (v w : View K) (b : BodyValue K) → F s g → get_elem? s.views id ≡ some v → v.held ≡ None → slice_get g.now.bodies p ≡ Some b → g.holder p ≡ None → IsTaken y
      → w.held ≡ Some (p, b) → w.sending ≡ v.sending → w.receiving ≡ v.receiving → w.made ≡ v.made → w.seen ≡ [] → F (state (set s.words p y) (set s.homes p none) (set s.views id w)) (record g { holder = put g.holder p (Some id) })
  flow-claim s g id p y v w b f at idle there free taken held sending receiving made seen =
      let below = process-below s g p b f there in
      let wide = f.wide in
      let none_held = (f.each_seat id v at).idle idle in
      flow-hand s g id p y v w b none (Some id) f at there (subst IsTaken (sym (get_or-set_same s.words p y 0 (omega (arith, below, wide)))) taken, (w, set_here s.views id w (at_inside s.views id v at), held))
      (λ q x other e. no-hold v.held (q, x) _ idle e) (λ j other e. no-owner (g.holder p) j _ free e) none_held.0 (sending ∙ none_held.0) none_held.1 (receiving ∙ none_held.1)
      (subst (Holds (put g.holder p (Some id)) g.now id) (sym held) (put_here g.holder p (Some id), there)) made (subst (λ (z : Option (ℕ × BodyValue K) × List Look). AllSeen P g.now z.0 z.1) (λ i. (sym held i, sym seen i)) tt)

  -- A process is left: its body is at home.
  pub flow-leave : (s : St K) (g : Beside K) (id p y : ℕ) (v w : View K) (b : BodyValue K) → F s g → get_elem? s.views id ≡ some v → v.held ≡ Some (p, b) → v.sending ≡ None → v.receiving ≡ None → IsFree y
      → w.held ≡ None → w.sending ≡ None → w.receiving ≡ None → w.made ≡ v.made → F (state (set s.words p y) (set s.homes p (some (slot.Body b))) (set s.views id w)) (record g { holder = put g.holder p None })
  flow-leave s g id p y v w b f at holds no_sending no_receiving free held sending receiving made =
      let mine = mine-holds s g id p v b f at holds in
      let below = process-below s g p b f mine.1 in
      let wide = f.wide in
      let deep = f.deep in
      flow-hand s g id p y v w b (some (slot.Body b)) None f at mine.1 (subst IsFree (sym (get_or-set_same s.words p y 0 (omega (arith, below, wide)))) free, set_here s.homes p (some (slot.Body b)) (omega (arith, below, deep)))
      (λ q x other e. absurd (other (same-pair v.held (q, x) (p, b) e holds))) (λ j other e. other (one-owner (g.holder p) j id e mine.0)) no_sending sending no_receiving receiving
      (subst (Holds (put g.holder p None) g.now id) (sym held) tt) made (subst (λ (z : Option (ℕ × BodyValue K)). AllSeen P g.now z w.seen) (sym held) tt)

  sends-same : (h h' : Option (ℕ × BodyValue K)) (p c : ℕ) (b d : BodyValue K) → h ≡ Some (p, b) → h' ≡ Some (p, d) → d.process.outputs ≡ b.process.outputs → Sends h c → Sends h' c
  sends-same h h' p c b d is is' same r = subst (λ (x : Option (ℕ × BodyValue K)). Sends x c) (sym is')
      (let out = subst (λ (x : Option (ℕ × BodyValue K)). Sends x c) is r in (out.0, ap (λ (xs : List (Option ℕ)). option_and_then (λ (y : Option ℕ). y) (slice_get xs out.0)) same ∙ out.1))

  receives-same : (h h' : Option (ℕ × BodyValue K)) (p c : ℕ) (b d : BodyValue K) → h ≡ Some (p, b) → h' ≡ Some (p, d) → SameInputs d b → Receives h c → Receives h' c
  receives-same h h' p c b d is is' same r = subst (λ (x : Option (ℕ × BodyValue K)). Receives x c) (sym is') (input-same c d b same (subst (λ (x : Option (ℕ × BodyValue K)). Receives x c) is r))

  -- The work that was to come is in the list.
  pub flow-commit : (s : St K) (g : Beside K) (id p : ℕ) (v w : View K) (b d : BodyValue K) → F s g → get_elem? s.views id ≡ some v → v.held ≡ Some (p, b) → Rests rules b d
      → w.held ≡ Some (p, d) → w.sending ≡ v.sending → w.receiving ≡ v.receiving → w.made ≡ v.made → w.seen ≡ v.seen → F (state s.words s.homes (set s.views id w)) (record g { now = with_body g.now p d })
  flow-commit s g id p v w b d f at holds r held sending receiving made seen =
      let k = f.each_seat id v at in
      let mine = mine-holds s g id p v b f at holds in
      let now' = with_body g.now p d in
      let vs' = set s.views id w in
      let g' : Beside K = record g { now = now' } in
      let count = rest-count rules lawful g.now p b d mine.1 r in
      let ports = same-turns rules lawful b d r.0 in
      let inputs : SameInputs b d = (ports.1, ports.3) in
      let inside_id = at_inside s.views id v at in
      let senders = senders-same s g id v w f at sending (λ c there. sends-same v.held w.held p c b d holds held ports.2 there) in
      let receivers = receivers-same s g id v w f at receiving (λ c there. receives-same v.held w.held p c b d holds held (sym ports.1, sym ports.3) there) in
      record {
        fit = rest-fit rules lawful g.now p b d mine.1 r f.fit;
        goes = rest-goes rules lawful start g.now g.log p b d mine.1 r f.total f.goes;
        clock = f.clock ∙ sym count;
        total = count ∙ f.total;
        seats = f.seats;
        inside = subst (λ (m : ℕ). All (λ (j : ℕ). j < m) g.by) (sym (length-set s.views id w)) f.inside;
        same = (length-set g.now.bodies p d ∙ f.same.0, f.same.1);
        wide = f.wide;
        deep = f.deep;
        each_process = λ q x is. elim (same_or_not q p) [
          | inl same ↦ (let h : Some d ≡ Some x = sym (slice_get-set_same g.now.bodies p b d mine.1) ∙ ap (slice_get (slice_set g.now.bodies p d)) (sym same) ∙ is in
              let taken = (subst (Stands s p b) mine.0 (f.each_process p b mine.1)).0 in
              let here : Stands (state s.words s.homes vs') p d (g.holder p) = subst (Stands (state s.words s.homes vs') p d) (sym mine.0) (taken, (w, set_here s.views id w inside_id, held)) in
              subst (λ (y : ℕ × BodyValue K). Stands (state s.words s.homes vs') y.0 y.1 (g.holder y.0)) (λ i. (sym same i, some_Some d x h i)) here)
          | inr other ↦ stands_keep s s.words s.homes id v w q x (g.holder q) at (λ z. z) (λ z. z) refl (λ e. absurd (other (same-pair v.held (q, x) (p, b) e holds))) (f.each_process q x (sym (slice_get-set_other g.now.bodies p q d other) ∙ is))
        ];
        each_connection = λ c x is. connections-keep s g s.words s.homes vs' f (λ q a z. refl) (λ y z. refl) c x is;
        each_sender = senders.said;
        each_receiver = receivers.said;
        each_seat = seats_stay (Knows g' P (turns_made start)) s.views id w
            (record {
              holds = subst (Holds g.holder now' id) (sym held) (mine.0, slice_get-set_same g.now.bodies p b d mine.1);
              sending = senders.mine;
              receiving = receivers.mine;
              idle = λ z. no-hold w.held (p, d) _ z held;
              made = made ∙ k.made;
              seen = subst (λ (y : Option (ℕ × BodyValue K) × List Look). AllSeen P now' y.0 y.1) (λ i. (sym held i, sym seen i))
                  (seen_keep P g.now now' (p, b) (p, d) v.seen (λ look t c x word there input. t c x word there (input-same c b d inputs input)) (subst (λ (y : Option (ℕ × BodyValue K)). AllSeen P g.now y v.seen) holds k.seen));
            })
            (λ j u other e. knows_keep s id w g g' P (turns_made start) j u other senders receivers
            (λ q x h is. (h, slice_get-set_other g.now.bodies p q d (λ same. other (one-owner (g.holder p) j id (ap g.holder (sym same) ∙ h) mine.0)) ∙ is)) (λ q x look h is t. t) refl (f.each_seat j u e));
      }

  pub old-channel : (e : Event) (cs : List ChannelShown) (c : ℕ) (k' : ChannelShown) → slice_get (all_shown_after e cs) c ≡ Some k' → (k : ChannelShown) × (slice_get cs c ≡ Some k)
  old-channel e cs c k' is = get-exists cs c (omega (arith, get-within (all_shown_after e cs) c k' is, channels-len e cs))

  -- what the turn of another process leaves of what a seat saw
  seen-turn : (s : St K) (g : Beside K) (p q n : ℕ) (b x : BodyValue K) (e : Event) (look : Look) → F s g → slice_get g.now.bodies p ≡ Some b → event_from (looks_of g.now.channels) b.process n ≡ Some e → slice_get g.now.bodies q ≡ Some x → q ≢ p
      → (now' : NetValue K) → now'.channels ≡ all_shown_after e g.now.channels → SeenTrue P g.now x look → SeenTrue P now' x look
  seen-turn s g p q n b x e look f there happens q_there other now' channels seen c k' word at' input =
      let now_at = ap (λ (cs : List ChannelShown). slice_get cs c) (sym channels) ∙ at' in
      let k = old-channel e g.now.channels c k' now_at in
      let m = channel-moves rules g.now p n b e c k.0 k' f.fit there happens k.1 now_at in
      let was = seen c k.0 word k.1 input in (
        λ some_level. elim m.level [
          | inl le ↦ (let a = was.0 some_level in let h : 0 < length k'.packets = omega (arith, le, a) in h)
          | inr own ↦ absurd (other (one-receiver rules g.now q p c x b f.fit q_there there input own))
        ],
        λ no_level no_senders. m.over (was.1 no_level no_senders),
      )

  -- A turn takes effect where the clock is counted.
  pub flow-turn : (s : St K) (g : Beside K) (id p n m y : ℕ) (v w : View K) (b : BodyValue K) (e : Event) (senders' : ℕ → Sender) (receivers' : ℕ → Receiver) → F s g → get_elem? s.views id ≡ some v → v.held ≡ Some (p, b) → event_from (looks_of g.now.channels) b.process n ≡ Some e
      → m ≡ get_or s.words (P + C + C) 0 → y ≡ m + 1 → w.held ≡ Some (p, turned_body e m b) → w.made ≡ v.made ++ (m, p) ∷ [] → w.seen ≡ [] → SendersStay s id w g.senders senders' → ReceiversStay s id w g.receivers receivers'
      → AllLie (all_shown_after e g.now.channels) (state (set s.words (P + C + C) y) s.homes (set s.views id w)) senders' receivers'
      → F (state (set s.words (P + C + C) y) s.homes (set s.views id w)) (record { now = turned_net g.now p b e m; log = g.log ++ logged p e ∷ []; by = g.by ++ id ∷ []; holder = g.holder; senders = senders'; receivers = receivers' })
  flow-turn s g id p n m y v w b e senders' receivers' f at holds happens m_is y_is held made seen sending receiving connections =
      let ks = f.each_seat id v at in
      let mine = mine-holds s g id p v b f at holds in
      let there = mine.1 in
      let i : ℕ = P + C + C in
      let b' = turned_body e m b in
      let now' = turned_net g.now p b e m in
      let log' = g.log ++ logged p e ∷ [] in
      let by' = g.by ++ id ∷ [] in
      let g' : Beside K = record { now = now'; log = log'; by = by'; holder = g.holder; senders = senders'; receivers = receivers' } in
      let ws' = set s.words i y in
      let vs' = set s.views id w in
      let s' = state ws' s.homes vs' in
      let inside_id = at_inside s.views id v at in
      let wide = f.wide in
      let stamp : m ≡ turns_made g.now = m_is ∙ f.clock in
      let turn = turned g.now p n b e m there happens in
      let count = turn-count g.now p n e m now' turn in
      record {
        fit = fit-turn rules g.now p n e m now' turn stamp f.fit;
        goes = turn-goes rules lawful start g.now g.log p n b e m there happens stamp f.total f.goes;
        clock = get_or-set_same s.words i y 0 (omega (arith, wide)) ∙ omega (arith, y_is, stamp, count);
        total = omega (arith, count, f.total, length-append g.log (logged p e ∷ []));
        seats = omega (arith, f.seats, length-append g.log (logged p e ∷ []), length-append g.by (id ∷ []));
        inside = All-push (λ (j : ℕ). j < length vs') g.by id (subst (λ (l : ℕ). All (λ (j : ℕ). j < l) g.by) (sym (length-set s.views id w)) f.inside) (omega (arith, inside_id, length-set s.views id w));
        same = (length-set g.now.bodies p b' ∙ f.same.0, channels-len e g.now.channels ∙ f.same.1);
        wide = length-set s.words i y ∙ f.wide;
        deep = f.deep;
        each_process = λ q x is. elim (same_or_not q p) [
          | inl same ↦ (let h : Some b' ≡ Some x = sym (slice_get-set_same g.now.bodies p b b' there) ∙ ap (slice_get (slice_set g.now.bodies p b')) (sym same) ∙ is in
              let below = process-below s g p b f there in
              let taken = (subst (Stands s p b) mine.0 (f.each_process p b there)).0 in
              let here : Stands s' p b' (g.holder p) = subst (Stands s' p b') (sym mine.0) (subst IsTaken (sym (get_or-set_other s.words i p y 0 (λ e. omega (arith, e, below)))) taken, (w, set_here s.views id w inside_id, held)) in
              subst (λ (z : ℕ × BodyValue K). Stands s' z.0 z.1 (g.holder z.0)) (λ j. (sym same j, some_Some b' x h j)) here)
          | inr other ↦ (let was = sym (slice_get-set_other g.now.bodies p q b' other) ∙ is in
              let below = process-below s g q x f was in
              let word = get_or-set_other s.words i q y 0 (λ e. omega (arith, e, below)) in
              stands_keep s ws' s.homes id v w q x (g.holder q) at (subst IsFree (sym word)) (subst IsTaken (sym word)) refl (λ e. absurd (other (same-pair v.held (q, x) (p, b) e holds))) (f.each_process q x was))
        ];
        each_connection = connections;
        each_sender = sending.said;
        each_receiver = receiving.said;
        each_seat = seats_stay (Knows g' P (turns_made start)) s.views id w
            (record {
              holds = subst (Holds g.holder now' id) (sym held) (mine.0, slice_get-set_same g.now.bodies p b b' there);
              sending = sending.mine;
              receiving = receiving.mine;
              idle = λ z. no-hold w.held (p, b') _ z held;
              made = made ∙ ap (λ (l : List (ℕ × ℕ)). l ++ (m, p) ∷ []) ks.made ∙ (ap (λ (z : ℕ). turns_by id (turns_made start) g.by g.log ++ (z, p) ∷ []) (stamp ∙ f.total) ∙ sym (turns_by-mine id (turns_made start) g.by g.log (logged p e) f.seats));
              seen = subst (λ (z : Option (ℕ × BodyValue K) × List Look). AllSeen P now' z.0 z.1) (λ j. (sym held j, sym seen j)) tt;
            })
            (λ j u other e'. knows_keep s id w g g' P (turns_made start) j u other sending receiving
            (λ q x h is. (h, slice_get-set_other g.now.bodies p q b' (λ same. other (one-owner (g.holder p) j id (ap g.holder (sym same) ∙ h) mine.0)) ∙ is))
            (λ q x look h is t. seen-turn s g p q n b x e look f there happens is (λ same. other (one-owner (g.holder p) j id (ap g.holder (sym same) ∙ h) mine.0)) now' refl t)
            (turns_by-else j (turns_made start) id g.by g.log (logged p e) f.seats other) (f.each_seat j u e'));
      }

  -- Only what the seat notes and looks at changes, and words that the first half of the rule doesn't read.
  pub flow-view : (s : St K) (g : Beside K) (id : ℕ) (v w : View K) (ws' : List ℕ) → F s g → get_elem? s.views id ≡ some v → length ws' ≡ length s.words
      → ((q : ℕ) → q < P → (IsFree (get_or s.words q 0) → IsFree (get_or ws' q 0)) × (IsTaken (get_or s.words q 0) → IsTaken (get_or ws' q 0))) → ((q : ℕ) → P ≤ q → q ≤ P + C + C → get_or ws' q 0 ≡ get_or s.words q 0)
      → w.held ≡ v.held → w.sending ≡ v.sending → w.receiving ≡ v.receiving → w.made ≡ v.made → AllSeen P g.now w.held w.seen → F (state ws' s.homes (set s.views id w)) g
  flow-view s g id v w ws' f at len process others held sending receiving made seen =
      let k = f.each_seat id v at in
      flow-step s g id v w ws' s.homes g.senders g.receivers f at len refl process (others (P + C + C) (omega arith) (omega arith)) (λ x low. refl) held made seen
      (λ gone. (let z = k.idle (sym held ∙ gone) in (sending ∙ z.0, receiving ∙ z.1)))
      (senders-same s g id v w f at sending (λ c there. subst (λ (h : Option (ℕ × BodyValue K)). Sends h c) (sym held) there))
      (receivers-same s g id v w f at receiving (λ c there. subst (λ (h : Option (ℕ × BodyValue K)). Receives h c) (sym held) there))
      (connections-keep s g ws' s.homes (set s.views id w) f (λ q low high. others q low (omega (arith, high))) (λ x high. refl))
