-- How a floor begins and ends, and how seats are cut and joined.
use Rattle.std.proofs.Common.{◌≡◌, ◌≢◌, ℕ, zero, suc, ◌+◌, ◌<◌, ◌≤◌, Bool, true, false, cond, List, [], ◌∷◌, ◌++◌, length, map, get_or, set, eq-eqb, sym, refl, ap, ◌∙◌, subst, arith, Option, Some, None, slice_get, append-nil, length-set, length-append, ◌⊎◌, inl, inr, Contains, All}
use Rattle.flow_ring.specs.declared.TheConstants.{FIELD}
use Rattle.flow_limits.specs.declared.TheConstants.{WORKER_LIMIT}
use Rattle.std.specs.Prelude.{sum_by, ◌||◌}
use Rattle.std.proofs.lemmas.List.{length-map}
use Rattle.std.proofs.lemmas.List.Sums.{sum_by-append}
use mathlib.Core.Logic.{dite}
use mathlib.Core.Option.{some, some-ne-none, some-injective}
use native.Mathlib.Decide.{ℕ_discrete}
use lib.ListN.{get_elem?}
use Rattle.atomic_table.specs.Table.{opening, Final, Seen}
use Rattle.atomic_table.proofs.Lists.{set_here, set_else, at_longer, at_map}
use Rattle.flow_component.specs.Laws.{Rules}
use Rattle.flow_model.specs.Stands.{ChannelShown}
use Rattle.flow_machine.specs.Values.{BodyValue, NetValue}
use Rattle.flow_machine.specs.Logs.{turns_made}
use Rattle.flow_machine.specs.FitNets.{FitNet}
use Rattle.flow_plan.specs.declared.plan.Connection.{Connection}
use Rattle.flow_model.specs.Order.{connection_of}
use Rattle.flow_model.specs.Wires.{wires}
use Rattle.flow_machine.specs.Joins.{IsPlanned, input_in}
use Rattle.flow_machine.proofs.Standings.{get-map}
use Rattle.flow_machine.proofs.SoloLemmas.{remember-none}
use Rattle.flow_ring.specs.Words.{free_word}
use Rattle.flow_ring.specs.Places.{gate_rank, rank_count, puts_slot, takes_slot, place_slot, slot_count}
use Rattle.flow_floor.specs.declared.board.Slot.{Slot}
use Rattle.flow_floor.specs.declared.board.Slot.TheVariants as slot
use Rattle.flow_floor.specs.declared.board.View.{View}
use Rattle.flow_floor.specs.Seats.{newcomer}
use Rattle.flow_floor.specs.Ends.{Sender, Receiver, sending_of, receiving_of, capacities_of, Sends, Receives}
use Rattle.flow_floor.specs.Law.{Stands, Lies, Knows, Beside}
use Rattle.flow_floor.specs.Made.{numbered, merge, renamed}
use Rattle.flow_floor.specs.Waking.{counts, live_in, IsNoted, AllBlock, Keeps}
use Rattle.flow_floor.specs.Rule.{Law}
use Rattle.flow_floor.specs.Views.{cut, merged}
use Rattle.std.proofs.lemmas.List.Elements.{All-nil, All-weaker}
use Rattle.flow_floor.proofs.Lists.{some_Some, get-exists, get-within, at_inside}
use Rattle.flow_floor.proofs.Cells.{St, state}
use Rattle.flow_floor.proofs.Lying.{so-keep}
use Rattle.flow_floor.proofs.Wakes.{total_set, total_one}
use Rattle.flow_floor.proofs.Retires.{low-undone}
use Rattle.flow_floor.proofs.Made.{turns_by-none, turns_by-all, merge-turns, turns_by-renamed_else, turns_by-renamed_gone, length-renamed, below-renamed}

-- The connection at an automatic input of a planned net is there.
signal-planned : {K : Type 0} (net : NetValue K) → IsPlanned net → (p c : ℕ) (b : BodyValue K) → slice_get net.bodies p ≡ Some b → b.process.signal ≡ Some c → c < length net.channels
signal-planned {K} net planned p c b there at =
    let i = length b.process.inputs in
    let has : input_in i (slice_get (map (λ (x : BodyValue K). wires x.process) net.bodies) p) ≡ Some c =
    ap (input_in i) (get-map (λ (x : BodyValue K). wires x.process) net.bodies p b there) ∙ ap (λ t. cond t b.process.signal (connection_of (slice_get b.process.inputs i))) (eq-eqb i i refl) ∙ at in
    let x = planned.inputs p i c has in
    omega (arith, get-within net.connections c x.0 x.1, length-map net.connections (λ (y : Connection). y.capacity), length-map net.channels (λ (k : ChannelShown). k.capacity), ap (λ (xs : List ℕ). length xs) planned.channels)

-- an element of a list that was made one longer
at_end : {A : Type 0} (l : List A) (a b : A) (j : ℕ) → get_elem? (l ++ a ∷ []) j ≡ some b → (get_elem? l j ≡ some b) ⊎ ((j ≡ length l) × (a ≡ b))
at_end [] a b zero e = inr (refl, some-injective a b e)
at_end [] a b (suc j) e = absurd (some-ne-none b (sym e))
at_end (x ∷ xs) a b zero e = inl e
at_end (x ∷ xs) a b (suc j) e = elim (at_end xs a b j e) [
  | inl h ↦ inl h
  | inr h ↦ inr (ap suc h.0, h.1)
]

live-all : (n : ℕ) (ws : List ℕ) → n ≤ length ws → ((p : ℕ) → p < n → get_or ws p 0 ≡ 2) → live_in n ws ≡ n
live-all zero ws le ready = refl
live-all (suc n) [] le ready = absurd (omega (arith, le))
live-all (suc n) (w ∷ ws) le ready = let first : counts w ≡ 1 = ap counts (ready 0 (omega arith)) in let r = live-all n ws (omega (arith, le)) (λ p lt. ready (suc p) (omega (arith, lt))) in omega (arith, first, r)

-- A channel's capacity is the one that stands in the list.
capacity-there : {K : Type 0} (net : NetValue K) (c : ℕ) (k : ChannelShown) → slice_get net.channels c ≡ Some k → k.capacity ≡ get_or (capacities_of net) c 0
capacity-there net c k is = by net.channels c is
  where
    by : (ks : List ChannelShown) (c : ℕ) → slice_get ks c ≡ Some k → k.capacity ≡ get_or (map (λ (x : ChannelShown). x.capacity) ks) c 0
    by [] c is = absurd (cc)
    by (x ∷ xs) zero is = ap (λ (y : ChannelShown). y.capacity) (sym (some_Some x k is))
    by (x ∷ xs) (suc c) is = by xs c is

module _ {K : Type 0} (rules : Rules K) (start : NetValue K) where
  abbrev Rule : St K → Type 0
  Rule = Law rules start

  abbrev P : ℕ
  P = length start.bodies

  abbrev caps : List ℕ
  caps = capacities_of start

  abbrev C : ℕ
  C = length caps

  abbrev L : ℕ
  L = P + C + C + 1

  -- How a connection begins, and how it ends: nobody is at its ends.
  pub record LiesFree (ws : List ℕ) (xs : List (Slot K)) (c : ℕ) (k : ChannelShown) : Type 0 where
    pub level : get_or ws (P + c) 0 ≡ free_word (length k.packets) k.open_senders
    pub gate : get_or ws (gate_rank P C c) 0 ≡ 0
    pub low : (length k.packets ≤ k.capacity) × (k.capacity < FIELD)
    pub few : k.open_senders < FIELD
    pub numbers : k.puts ≡ k.takes + length k.packets
    pub puts : get_elem? xs (puts_slot P c) ≡ some (slot.Count k.puts)
    pub takes : get_elem? xs (takes_slot P C c) ≡ some (slot.Count k.takes)
    pub cells : (i : ℕ) → i < k.capacity → get_elem? xs (place_slot P caps c (k.takes + i)) ≡ some (slot.Cell (slice_get k.packets i))

  -- What words and slots a floor begins with.
  pub record Begins (ws : List ℕ) (xs : List (Slot K)) : Type 0 where
    pub wide : length ws ≡ rank_count P C
    pub deep : length xs ≡ slot_count P caps
    pub bodies : (p : ℕ) (b : BodyValue K) → slice_get start.bodies p ≡ Some b → (get_or ws p 0 ≡ 2) × (get_elem? xs p ≡ some (slot.Body b))
    pub connections : (c : ℕ) (k : ChannelShown) → slice_get start.channels c ≡ Some k → LiesFree ws xs c k
    pub clock : get_or ws (P + C + C) 0 ≡ turns_made start
    pub live : get_or ws L 0 ≡ P

  pub opens : (ws : List ℕ) (xs : List (Slot K)) → FitNet rules start → IsPlanned start → Begins ws xs → Rule (opening ws xs (newcomer WORKER_LIMIT))
  opens ws xs fit planned b = record {
    planned = planned;
    beside = record { now = start; log = []; by = []; holder = λ _. None; senders = λ _. None; receivers = λ _. None };
    flow = record {
      fit = fit;
      goes = record { remembers = remember-none (turns_made start) start.bodies; states = λ s good stands. (s, ([], refl, refl), good, stands); connections = refl };
      clock = b.clock;
      total = omega arith;
      seats = refl;
      inside = All-nil (λ (j : ℕ). j < 1);
      same = (refl, sym (length-map start.channels (λ (k : ChannelShown). k.capacity)));
      wide = b.wide;
      deep = length-map xs some ∙ b.deep;
      each_process = λ p x there. (inr (inl (b.bodies p x there).0), at_map some xs p (slot.Body x) (b.bodies p x there).1);
      each_connection = λ c k there. begins-at ws xs c k there (b.connections c k there);
      each_sender = λ c j x is. (let z : None ≡ Some (j, x) = is in absurd (cc));
      each_receiver = λ c j x is. (let z : None ≡ Some (j, x) = is in absurd (cc));
      each_seat = λ j v e. subst (λ (u : View K). Knows first P (turns_made start) j u) (one j v e) (record { holds = tt; sending = tt; receiving = tt; idle = λ _. (refl, refl); made = refl; seen = tt });
    };
    wakes = record {
      wired = record { inputs = λ p x y is is'. ap (λ (z : BodyValue K). z.process.inputs) (same start.bodies p x y is is'); outputs = λ p x y is is'. ap (λ (z : BodyValue K). z.process.outputs) (same start.bodies p x y is is'); signal = λ p x y is is'. ap (λ (z : BodyValue K). z.process.signal) (same start.bodies p x y is is'); signals = λ p c x is at. signal-planned start planned p c x is at; capacities = λ c k l is is'. ap (λ (z : ChannelShown). z.capacity) (same start.channels c k l is is') };
      live = b.live ∙ sym (live-all P ws (omega (arith, b.wide)) (λ p lt. (let x = get-exists start.bodies p lt in (b.bodies p x.0 x.1).0))) ∙ (let e : live_in P ws ≡ live_in P ws + 0 = omega arith in e);
      shares = refl;
      each = λ j v e. subst (Keeps (get_or ws L 0)) (one j v e) (record { spare = omega arith; noted = λ _. refl; zero = λ z. absurd (cc); bare = λ z. (refl, refl) });
      parked = λ q x there z. absurd (omega (arith, (b.bodies q x there).0, z));
      held = λ j q v x e holds z. absurd (let h : None ≡ Some (q, x) = ap (λ (u : View K). u.held) (one j v e) ∙ holds in cc);
    };
    done = λ q x there is. absurd (low-undone (get_or ws q 0) (omega (arith, (b.bodies q x there).0)) is);
  }
    where
      first : Beside K
      first = record { now = start; log = []; by = []; holder = λ _. None; senders = λ _. None; receivers = λ _. None }

      begins-at : (ws : List ℕ) (xs : List (Slot K)) (c : ℕ) (k : ChannelShown) → slice_get start.channels c ≡ Some k → LiesFree ws xs c k → Lies start (opening ws xs (newcomer WORKER_LIMIT)) c k None None
      begins-at ws xs c k there b = record {
        gated = b.gate;
        so = record {
          level = length k.packets;
          word = b.level ∙ ap (free_word (length k.packets)) (let e : k.open_senders ≡ k.open_senders + 0 = omega arith in e);
          counted = refl;
          drawn = (k.packets, refl);
          counts = omega arith;
          room = omega (arith, b.low.0);
          few = (b.low.1, omega (arith, b.few));
          sends = λ some_put. absurd (omega (arith, some_put));
          learnt = tt;
          size = capacity-there start c k there;
          emptied = λ i low. absurd (omega (arith, low));
          filled = λ i high below. inr (at_map some xs (place_slot P caps c (k.takes + i)) (slot.Cell (slice_get k.packets i)) (b.cells i below) ∙ ap (λ zs. some (some (slot.Cell (slice_get zs i)))) (sym (append-nil k.packets)));
          numbers = b.numbers;
          puts = at_map some xs (puts_slot P c) (slot.Count k.puts) b.puts ∙ ap (λ n. some (some (slot.Count n))) (let e : k.puts ≡ k.puts + 0 = omega arith in e);
          takes = at_map some xs (takes_slot P C c) (slot.Count k.takes) b.takes ∙ ap (λ n. some (some (slot.Count n))) (let e : k.takes ≡ k.takes + 0 = omega arith in e);
        };
      }

      one : (j : ℕ) (v : View K) → get_elem? (newcomer WORKER_LIMIT ∷ []) j ≡ some v → newcomer WORKER_LIMIT ≡ v
      one zero v e = some-injective (newcomer WORKER_LIMIT) v e
      one (suc j) v e = absurd (some-ne-none v (sym e))

      same : {A : Type 0} (xs : List A) (i : ℕ) (x y : A) → slice_get xs i ≡ Some x → slice_get xs i ≡ Some y → x ≡ y
      same xs i x y is is' = some_Some x y (sym is ∙ is')

  -- a seat with all shares leaves none to the others
  alone : (vs : List (View K)) (id : ℕ) (v : View K) → get_elem? vs id ≡ some v → sum_by (λ (u : View K). u.shares) vs ≡ v.shares → (j : ℕ) (u : View K) → j ≢ id → get_elem? vs j ≡ some u → u.shares ≡ 0
  alone vs id v at all j u other e =
      let f : View K → ℕ = λ u. u.shares in
      let bare : View K = newcomer 0 in
      let a = total_set f vs id v bare at in
      let b = total_one f (set vs id bare) j u (set_else vs id j bare other ∙ e) in
      omega (arith, a, b, all)

  view_at : (vs : List (View K)) (j : ℕ) → j < length vs → (u : View K) × (get_elem? vs j ≡ some u)
  view_at [] j l = absurd (omega (arith, l))
  view_at (x ∷ xs) zero l = (x, refl)
  view_at (x ∷ xs) (suc j) l = view_at xs j (omega (arith, l))

  -- Where one seat has all shares and holds nothing, no other seat holds anything, and all turns are its own.
  pub none-else : (s : St K) (r : Rule s) (id : ℕ) (v : View K) → get_elem? s.views id ≡ some v → v.shares ≡ WORKER_LIMIT → v.held ≡ None → (j : ℕ) (u : View K) → get_elem? s.views j ≡ some u → u.held ≡ None
  none-else s r id v at all idle j u u_at = dite (ℕ_discrete j id)
      (λ e. (let same : v ≡ u = some-injective v u (sym at ∙ ap (get_elem? s.views) (sym e) ∙ u_at) in ap (λ (x : View K). x.held) (sym same) ∙ idle))
      (λ other. ((r.wakes.each j u u_at).bare (alone s.views id v at (r.wakes.shares ∙ sym all) j u other u_at)).0)

  -- Where no seat holds a process, no seat is at an end.
  pub no-sender : (s : St K) (r : Rule s) → ((j : ℕ) (u : View K) → get_elem? s.views j ≡ some u → u.held ≡ None) → (c : ℕ) → r.beside.senders c ≡ None
  no-sender s r none_of c = by (r.beside.senders c) refl
    where
      by : (x : Sender) → r.beside.senders c ≡ x → r.beside.senders c ≡ None
      by None is = is
      by (Some (j, x)) is = let says = r.flow.each_sender c j x is in
          absurd (let z : None ≡ Some x = sym ((r.flow.each_seat j says.view says.there).idle (none_of j says.view says.there)).0 ∙ says.says in cc)

  pub no-receiver : (s : St K) (r : Rule s) → ((j : ℕ) (u : View K) → get_elem? s.views j ≡ some u → u.held ≡ None) → (c : ℕ) → r.beside.receivers c ≡ None
  no-receiver s r none_of c = by (r.beside.receivers c) refl
    where
      by : (x : Receiver) → r.beside.receivers c ≡ x → r.beside.receivers c ≡ None
      by None is = is
      by (Some (j, x)) is = let says = r.flow.each_receiver c j x is in
          absurd (let z : None ≡ Some x = sym ((r.flow.each_seat j says.view says.there).idle (none_of j says.view says.there)).1 ∙ says.says in cc)

  -- Then a connection lies as the machine has it.
  pub lies-free : (s : St K) (r : Rule s) → ((j : ℕ) (u : View K) → get_elem? s.views j ≡ some u → u.held ≡ None) → (c : ℕ) (k : ChannelShown) → slice_get r.beside.now.channels c ≡ Some k → Lies start s c k None None
  lies-free s r none_of c k there = subst (λ (z : Sender × Receiver). Lies start s c k z.0 z.1) (λ i. (no-sender s r none_of c i, no-receiver s r none_of c i)) (r.flow.each_connection c k there)

  -- Its level word is the machine's.
  pub level-free : (s : St K) (c : ℕ) (k : ChannelShown) → Lies start s c k None None → get_or s.words (P + c) 0 ≡ free_word (length k.packets) k.open_senders
  level-free s c k lies =
      let l = lies.so in
      let same : l.level ≡ length k.packets = omega (arith, l.counted) in
      let none_more : k.open_senders + 0 ≡ k.open_senders = omega arith in
      l.word ∙ (λ i. free_word (same i) (none_more i))

  -- What stands at the end: each body and each connection is in its slots, as the machine has it; and the seat's turns are all turns since the floor was
  -- opened, in the order of their stamps.
  pub record Ended (g : Beside K) (v : View K) (ws : List ℕ) (xs : List (Slot K)) : Type 0 where
    pub flow_fit : FitNet rules g.now
    pub bodies : (p : ℕ) (b : BodyValue K) → slice_get g.now.bodies p ≡ Some b → get_elem? xs p ≡ some (slot.Body b)
    pub connections : (c : ℕ) (k : ChannelShown) → slice_get g.now.channels c ≡ Some k → LiesFree ws xs c k
    pub turns : v.made ≡ numbered (turns_made start) g.log

  pub closes : (id : ℕ) (v : View K) (ws : List ℕ) (xs : List (Slot K)) → v.shares ≡ WORKER_LIMIT → v.held ≡ None → (f : Final (Seen Rule id v) ws xs) → Ended f.1.0.beside v ws xs
  closes id v ws xs all idle (s, seen, words, deep, homes) =
      let r = seen.0 in
      let at = seen.1 in
      let g = r.beside in
      record {
        flow_fit = r.flow.fit;
        bodies = λ p b there. homes p (slot.Body b) (at-home p b (g.holder p) (r.flow.each_process p b there));
        connections = λ c k there. (let lies = lies-free s r none_of c k there in let l = lies.so in record {
          level = ap (λ (z : List ℕ). get_or z (P + c) 0) (sym words) ∙ level-free s c k lies;
          gate = ap (λ (z : List ℕ). get_or z (gate_rank P C c) 0) (sym words) ∙ lies.gated;
          low = (omega (arith, l.room), l.few.0);
          few = omega (arith, l.few.1);
          numbers = l.numbers;
          puts = homes (puts_slot P c) (slot.Count k.puts) (l.puts ∙ ap (λ n. some (some (slot.Count n))) (let e : k.puts + 0 ≡ k.puts = omega arith in e));
          takes = homes (takes_slot P C c) (slot.Count k.takes) (l.takes ∙ ap (λ n. some (some (slot.Count n))) (let e : k.takes + 0 ≡ k.takes = omega arith in e));
          cells = λ i below. elim (l.filled i (omega arith) below) [
            | inl out ↦ (let e : None ≡ Some out.0 = out.1 in absurd (cc))
            | inr here ↦ homes (place_slot P caps c (k.takes + i)) (slot.Cell (slice_get k.packets i)) (here ∙ ap (λ zs. some (some (slot.Cell (slice_get zs i)))) (append-nil k.packets))
          ];
        });
        turns = (r.flow.each_seat id v at).made ∙ turns_by-all id (length s.views) (turns_made start) g.by g.log r.flow.seats r.flow.inside
            (λ j l other. (let u = view_at s.views j l in sym (r.flow.each_seat j u.0 u.1).made ∙ ((r.wakes.each j u.0 u.1).bare (alone s.views id v at (r.wakes.shares ∙ sym all) j u.0 other u.1)).1));
      }
    where
      none_of : (j : ℕ) (u : View K) → get_elem? s.views j ≡ some u → u.held ≡ None
      none_of = none-else s seen.0 id v seen.1 all idle

      at-home : (p : ℕ) (b : BodyValue K) (h : Option ℕ) → Stands s p b h → get_elem? s.homes p ≡ some (some (slot.Body b))
      at-home p b None k = k.1
      at-home p b (Some j) k = absurd (let z : None ≡ Some (p, b) = sym (none_of j k.1.0 k.1.1) ∙ k.1.2 in cc)

  -- Each seat is still there, and holds and noted what it did, and is at the same ends.
  abbrev Remap : St K → List (View K) → Type 0
  Remap s vs = (j : ℕ) (u : View K) → get_elem? s.views j ≡ some u → (x : View K) × (get_elem? vs j ≡ some x) × (x.held ≡ u.held) × (x.sending ≡ u.sending) × (x.receiving ≡ u.receiving) × (x.noted ≡ u.noted)

  law-views : (s : St K) (r : Rule s) (vs : List (View K)) (by : List ℕ) → Remap s vs → length by ≡ length r.beside.log → All (λ (j : ℕ). j < length vs) by
      → ((j : ℕ) (u : View K) → get_elem? vs j ≡ some u → Knows (record r.beside { by = by }) P (turns_made start) j u)
      → sum_by (λ (v : View K). v.spare) vs ≡ sum_by (λ (v : View K). v.spare) s.views → sum_by (λ (v : View K). v.shares) vs ≡ WORKER_LIMIT → ((j : ℕ) (u : View K) → get_elem? vs j ≡ some u → Keeps (get_or s.words L 0) u)
      → ((j q : ℕ) (u : View K) (b : BodyValue K) → get_elem? vs j ≡ some u → u.held ≡ Some (q, b) → (v : View K) × (get_elem? s.views j ≡ some v) × (v.held ≡ Some (q, b)) × (v.seen ≡ u.seen)) → Rule (state s.words s.homes vs)
  law-views s r vs by remap len below knows spare shares each held = record {
    beside = record r.beside { by = by };
    flow = record {
      fit = r.flow.fit;
      goes = r.flow.goes;
      clock = r.flow.clock;
      total = r.flow.total;
      seats = len;
      inside = below;
      same = r.flow.same;
      wide = r.flow.wide;
      deep = r.flow.deep;
      each_process = λ p b there. stands p b (r.beside.holder p) (r.flow.each_process p b there);
      each_connection = λ c k there. (let l = r.flow.each_connection c k there in record { gated = l.gated; so = so-keep start s (state s.words s.homes vs) c k (sending_of c (r.beside.senders c)) (receiving_of c (r.beside.receivers c)) refl (λ x own. refl) l.so });
      each_sender = λ c j x is. (let says = r.flow.each_sender c j x is in let u = remap j says.view says.there in record { view = u.0; there = u.1; says = u.3 ∙ says.says; here = says.here; allowed = subst (λ (h : Option (ℕ × BodyValue K)). Sends h c) (sym u.2) says.allowed });
      each_receiver = λ c j x is. (let says = r.flow.each_receiver c j x is in let u = remap j says.view says.there in record { view = u.0; there = u.1; says = u.4 ∙ says.says; here = says.here; allowed = subst (λ (h : Option (ℕ × BodyValue K)). Receives h c) (sym u.2) says.allowed });
      each_seat = knows;
    };
    planned = r.planned;
    wakes = record {
      wired = r.wakes.wired;
      live = omega (arith, r.wakes.live, spare);
      shares = shares;
      each = each;
      parked = λ q b there none_in. (let p = r.wakes.parked q b there none_in in (
        p.0,
        elim p.1 [
          | inl words ↦ inl words
          | inr note ↦ inr (noted q note)
        ],
      ));
      held = λ j q u b at holds one. (let v = held j q u b at holds in elim (r.wakes.held j q v.0 b v.1 v.2 one) [
        | inl all ↦ inl (subst (AllBlock P start.channels s.words b) v.3 all)
        | inr note ↦ inr (noted q note)
      ]);
    };
    done = r.done;
  }
    where
      noted : (q : ℕ) → IsNoted s.views q → IsNoted vs q
      noted q (j, u, u_at, there) = let x = remap j u u_at in (j, x.0, x.1, subst (λ (xs : List ℕ). Contains xs q) (sym x.5) there)

      stands : (p : ℕ) (b : BodyValue K) (h : Option ℕ) → Stands s p b h → Stands (state s.words s.homes vs) p b h
      stands p b None k = k
      stands p b (Some j) k = let x = remap j k.1.0 k.1.1 in (k.0, (x.0, x.1, x.2 ∙ k.1.2))

  -- a seat is cut in two
  pub splits : (s : St K) (id : ℕ) (v : View K) → Rule s → get_elem? s.views id ≡ some v → 1 < v.shares → v.spare ≡ 0 → Rule (state s.words s.homes (set s.views id (cut v) ++ newcomer 1 ∷ []))
  splits s id v r at some_shares no_spare =
      let vs1 = set s.views id (cut v) in
      let vs = vs1 ++ newcomer 1 ∷ [] in
      let inside_id = at_inside s.views id v at in
      let len1 = length-set s.views id (cut v) in
      let len = length-append vs1 (newcomer 1 ∷ []) in
      let ks = r.wakes.each id v at in
      let k = r.flow.each_seat id v at in
      law-views s r vs r.beside.by
      (λ j u u_at. dite (ℕ_discrete j id)
      (λ e. (let same : v ≡ u = some-injective v u (sym at ∙ ap (get_elem? s.views) (sym e) ∙ u_at) in
      (cut v, at_longer vs1 (newcomer 1 ∷ []) j (cut v) (ap (get_elem? vs1) e ∙ set_here s.views id (cut v) inside_id), ap (λ (x : View K). x.held) same, ap (λ (x : View K). x.sending) same, ap (λ (x : View K). x.receiving) same, ap (λ (x : View K). x.noted) same)))
      (λ other. (u, at_longer vs1 (newcomer 1 ∷ []) j u (set_else s.views id j (cut v) other ∙ u_at), refl, refl, refl, refl)))
      r.flow.seats (All-weaker (λ (j : ℕ). j < length s.views) (λ (j : ℕ). j < length vs) (λ j low. omega (arith, low, len1, len)) r.beside.by r.flow.inside)
      (λ j u u_at. elim (at_end vs1 (newcomer 1) u j u_at) [
        | inl here ↦ dite (ℕ_discrete j id)
            (λ e. (let same : cut v ≡ u = some-injective (cut v) u (sym (set_here s.views id (cut v) inside_id) ∙ ap (get_elem? vs1) (sym e) ∙ here) in
            subst (λ (y : ℕ × View K). Knows r.beside P (turns_made start) y.0 y.1) (λ i. (sym e i, same i)) (record { holds = k.holds; sending = k.sending; receiving = k.receiving; idle = k.idle; made = k.made; seen = k.seen })))
            (λ other. r.flow.each_seat j u (sym (set_else s.views id j (cut v) other) ∙ here))
        | inr new ↦ (subst (Knows r.beside P (turns_made start) j) new.1
            (record { holds = tt; sending = tt; receiving = tt; idle = λ _. (refl, refl); made = sym (turns_by-none j (length s.views) (turns_made start) r.beside.by r.beside.log r.flow.inside (omega (arith, new.0, len1))); seen = tt }))
      ])
      (omega (arith, sum_by-append (λ (x : View K). x.spare) vs1 (newcomer 1 ∷ []), total_set (λ (x : View K). x.spare) s.views id v (cut v) at))
      (omega (arith, sum_by-append (λ (x : View K). x.shares) vs1 (newcomer 1 ∷ []), total_set (λ (x : View K). x.shares) s.views id v (cut v) at, r.wakes.shares, some_shares))
      (λ j u u_at. elim (at_end vs1 (newcomer 1) u j u_at) [
        | inl here ↦ dite (ℕ_discrete j id)
            (λ e. (let same : cut v ≡ u = some-injective (cut v) u (sym (set_here s.views id (cut v) inside_id) ∙ ap (get_elem? vs1) (sym e) ∙ here) in
            subst (Keeps (get_or s.words L 0)) same (record { spare = omega (arith, no_spare); noted = ks.noted; zero = ks.zero; bare = λ z. absurd (omega (arith, z, some_shares)) })))
            (λ other. r.wakes.each j u (sym (set_else s.views id j (cut v) other) ∙ here))
        | inr new ↦ (subst (Keeps (get_or s.words L 0)) new.1 (record { spare = omega arith; noted = λ _. refl; zero = λ z. absurd (cc); bare = λ z. (refl, refl) }))
      ])
      (λ j q u b u_at holds. elim (at_end vs1 (newcomer 1) u j u_at) [
        | inl here ↦ dite (ℕ_discrete j id)
            (λ e. (let same : cut v ≡ u = some-injective (cut v) u (sym (set_here s.views id (cut v) inside_id) ∙ ap (get_elem? vs1) (sym e) ∙ here) in
            (v, ap (get_elem? s.views) e ∙ at, ap (λ (x : View K). x.held) same ∙ holds, ap (λ (x : View K). x.seen) same)))
            (λ other. (u, sym (set_else s.views id j (cut v) other) ∙ here, holds, refl))
        | inr new ↦ absurd (let z : None ≡ Some (q, b) = ap (λ (x : View K). x.held) new.1 ∙ holds in cc)
      ])

  -- a seat takes in another
  pub joins : (s : St K) (id other : ℕ) (v w : View K) → Rule s → get_elem? s.views id ≡ some v → (other ≡ id → ⊥) → get_elem? s.views other ≡ some w → v.held ≡ None → w.held ≡ None → v.spare ≡ 0 → w.spare ≡ 0
      → Rule (state s.words s.homes (set (set s.views id (merged v w)) other (newcomer 0)))
  joins s id other v w r at apart w_at idle w_idle no_spare w_no_spare =
      let g = r.beside in
      let both = merged v w in
      let bare : View K = newcomer 0 in
      let vs1 = set s.views id both in
      let vs = set vs1 other bare in
      let by = renamed other id g.by in
      let inside_id = at_inside s.views id v at in
      let w_at1 : get_elem? vs1 other ≡ some w = set_else s.views id other both apart ∙ w_at in
      let inside_other = at_inside vs1 other w w_at1 in
      let away : id ≢ other = λ e. apart (sym e) in
      let here : get_elem? vs id ≡ some both = set_else vs1 other id bare away ∙ set_here s.views id both inside_id in
      let there : get_elem? vs other ≡ some bare = set_here vs1 other bare inside_other in
      let len = length-set vs1 other bare ∙ length-set s.views id both in
      let k = r.flow.each_seat id v at in
      let kw = r.flow.each_seat other w w_at in
      let ks = r.wakes.each id v at in
      let kws = r.wakes.each other w w_at in
      let else_at = λ (j : ℕ) (a : j ≢ id) (b : j ≢ other). set_else vs1 other j bare b ∙ set_else s.views id j both a in
      let F : ℕ → View K → Type 0 = Knows (record g { by = by }) P (turns_made start) in
      law-views s r vs by
      (λ j u u_at. dite (ℕ_discrete j id)
      (λ e. (let same : v ≡ u = some-injective v u (sym at ∙ ap (get_elem? s.views) (sym e) ∙ u_at) in
      (both, ap (get_elem? vs) e ∙ here, ap (λ (x : View K). x.held) same, ap (λ (x : View K). x.sending) same, ap (λ (x : View K). x.receiving) same, ap (λ (x : View K). x.noted) same)))
      (λ not_id. dite (ℕ_discrete j other)
      (λ e. (let same : w ≡ u = some-injective w u (sym w_at ∙ ap (get_elem? s.views) (sym e) ∙ u_at) in (
        bare,
        ap (get_elem? vs) e ∙ there,
        sym w_idle ∙ ap (λ (x : View K). x.held) same,
        sym (kw.idle w_idle).0 ∙ ap (λ (x : View K). x.sending) same,
        sym (kw.idle w_idle).1 ∙ ap (λ (x : View K). x.receiving) same,
        sym (kws.noted w_idle) ∙ ap (λ (x : View K). x.noted) same,
      )))
      (λ not_other. (u, else_at j not_id not_other ∙ u_at, refl, refl, refl, refl))))
      (length-renamed other id g.by ∙ r.flow.seats) (below-renamed other id (length vs) g.by (omega (arith, inside_id, len)) (All-weaker (λ (j : ℕ). j < length s.views) (λ (j : ℕ). j < length vs) (λ j low. omega (arith, low, len)) g.by r.flow.inside))
      (λ j u u_at. dite (ℕ_discrete j id)
      (λ e. (let same : both ≡ u = some-injective both u (sym here ∙ ap (get_elem? vs) (sym e) ∙ u_at) in
      subst (λ (y : ℕ × View K). F y.0 y.1) (λ i. (sym e i, same i))
      (record { holds = k.holds; sending = k.sending; receiving = k.receiving; idle = k.idle; made = (λ i. merge (kw.made i) (k.made i)) ∙ merge-turns other id (turns_made start) g.by g.log apart; seen = k.seen })))
      (λ not_id. dite (ℕ_discrete j other)
      (λ e. (let same : bare ≡ u = some-injective bare u (sym there ∙ ap (get_elem? vs) (sym e) ∙ u_at) in
      subst (λ (y : ℕ × View K). F y.0 y.1) (λ i. (sym e i, same i)) (record { holds = tt; sending = tt; receiving = tt; idle = λ _. (refl, refl); made = sym (turns_by-renamed_gone other id (turns_made start) g.by g.log apart); seen = tt })))
      (λ not_other. (let q = r.flow.each_seat j u (sym (else_at j not_id not_other) ∙ u_at) in
      record { holds = q.holds; sending = q.sending; receiving = q.receiving; idle = q.idle; made = q.made ∙ sym (turns_by-renamed_else other id j (turns_made start) g.by g.log not_other not_id); seen = q.seen }))))
      (omega (arith, total_set (λ (x : View K). x.spare) s.views id v both at, total_set (λ (x : View K). x.spare) vs1 other w bare w_at1, w_no_spare))
      (omega (arith, total_set (λ (x : View K). x.shares) s.views id v both at, total_set (λ (x : View K). x.shares) vs1 other w bare w_at1, r.wakes.shares))
      (λ j u u_at. dite (ℕ_discrete j id)
      (λ e. (let same : both ≡ u = some-injective both u (sym here ∙ ap (get_elem? vs) (sym e) ∙ u_at) in
      subst (Keeps (get_or s.words L 0)) same (record {
        spare = omega (arith, no_spare);
        noted = ks.noted;
        zero = λ z. either-zero v.read_zero w.read_zero refl refl z ks kws;
        bare = λ z. (idle, (let a = (ks.bare (omega (arith, z))).1 in let b = (kws.bare (omega (arith, z))).1 in λ i. merge (b i) (a i)));
      })))
      (λ not_id. dite (ℕ_discrete j other)
      (λ e. (let same : bare ≡ u = some-injective bare u (sym there ∙ ap (get_elem? vs) (sym e) ∙ u_at) in
      subst (Keeps (get_or s.words L 0)) same (record { spare = omega arith; noted = λ _. refl; zero = λ z. absurd (cc); bare = λ z. (refl, refl) })))
      (λ not_other. r.wakes.each j u (sym (else_at j not_id not_other) ∙ u_at))))
      (λ j q u b u_at holds. dite (ℕ_discrete j id)
      (λ e. absurd (let same : both ≡ u = some-injective both u (sym here ∙ ap (get_elem? vs) (sym e) ∙ u_at) in let z : None ≡ Some (q, b) = sym idle ∙ ap (λ (x : View K). x.held) same ∙ holds in cc))
      (λ not_id. dite (ℕ_discrete j other)
      (λ e. absurd (let same : bare ≡ u = some-injective bare u (sym there ∙ ap (get_elem? vs) (sym e) ∙ u_at) in let z : None ≡ Some (q, b) = ap (λ (x : View K). x.held) same ∙ holds in cc))
      (λ not_other. (u, sym (else_at j not_id not_other) ∙ u_at, holds, refl))))
    where
      either-zero : (a b : Bool) → v.read_zero ≡ a → w.read_zero ≡ b → (v.read_zero || w.read_zero) ≡ true → Keeps (get_or s.words L 0) v → Keeps (get_or s.words L 0) w → get_or s.words L 0 ≡ 0
      either-zero true b is is' z ks kws = ks.zero is
      either-zero false true is is' z ks kws = kws.zero is'
      either-zero false false is is' z ks kws = absurd (let t : (false || false) ≡ true = (λ i. sym is i || sym is' i) ∙ z in cc)
