-- The level word is told what was stamped: puts are published, a close is subtracted, and takes are withdrawn.
use Rattle.std.proofs.Common.{◌≡◌, ℕ, ◌+◌, ◌-◌, ◌*◌, ◌%◌, ◌^◌, ◌<◌, ◌≤◌, List, [], ◌++◌, length, get_or, set, sym, refl, ap, ◌∙◌, subst, arith, Option, Some, None, get_or-set_other, get_or-set_same, inl, inr, Contains}
use Rattle.std.specs.Option.{option_map}
use Rattle.std.proofs.lemmas.List.Elements.{Contains-append_left, Contains-append_right}
use mathlib.Core.Option.{none, some}
use lib.ListN.{get_elem?}
use Rattle.atomic_table.specs.Table.{step, keeps, Allows}
use Rattle.flow_component.specs.Laws.{Rules, Lawful}
use Rattle.flow_machine.specs.Values.{BodyValue, NetValue}
use Rattle.flow_ring.specs.declared.TheConstants.{FIELD}
use Rattle.flow_ring.specs.Words.{free_word, level_in, senders_in}
use Rattle.flow_ring.specs.Places.{gate_rank}
use Rattle.flow_ring.proofs.Words.{level-of, senders-of}
use Rattle.flow_floor.proofs.Functions.{put}
use Rattle.flow_floor.proofs.Lists.{some_Some, get-exists}
use Rattle.flow_floor.specs.declared.board.Sending.{Sending}
use Rattle.flow_floor.specs.declared.board.Receiving.{Receiving}
use Rattle.flow_floor.specs.declared.board.View.{View}
use Rattle.flow_floor.specs.Ends.{Sender, Receiver, receiving_at, sending_of, receiving_of, capacities_of, Sends, Receives, AllReceivers, AllSenders}
use Rattle.flow_floor.specs.Law.{Lies, LiesSo}
use Rattle.flow_floor.specs.Plays.{Sat, published, subtracted, withdrew}
use Rattle.flow_floor.specs.Rule.{Law}
use Rattle.flow_floor.specs.Views.{publishing, subtracting, withdrawing}
use Rattle.flow_floor.proofs.Cells.{St, state}
use Rattle.flow_floor.proofs.Flows.{senders-same, receivers-same}
use Rattle.flow_floor.proofs.Laws.{IsSame, law-level, sender-lies, receiver-lies}
use Rattle.flow_floor.proofs.Lying.{so-count}
use Rattle.flow_floor.proofs.Seats.{stays-put, sending-place, receiving-place}
use Rattle.flow_floor.proofs.Stamps.{mine-output, mine-input}
use Rattle.flow_floor.proofs.Coming.{says-of, IsAtSending, IsAtReceiving, at-sending-end, at-receiving-end, output-in, input-in}

module _ {K : Type 0} (rules : Rules K) (lawful : Lawful rules)
    (start : NetValue K) where
  abbrev Rule : St K → Type 0
  Rule = Law rules start

  abbrev P : ℕ
  P = length start.bodies

  abbrev caps : List ℕ
  caps = capacities_of start

  abbrev C : ℕ
  C = length caps

  -- The level word of a connection becomes y, which counts all that the seat at its sending end has stamped.
  law-tell : (s : St K) (r : Rule s) (id p c y : ℕ) (v w : View K) (b : BodyValue K) (x new : Sending) (notes : List ℕ) → get_elem? s.views id ≡ some v → v.held ≡ Some (p, b) → c < C → v.sending ≡ Some x → x.connection ≡ c → AllReceivers start c notes → y + x.unsubtracted * FIELD ≡ get_or s.words (P + c) 0 + x.unpublished
      → new ≡ record x { unpublished = 0; unsubtracted = 0 } → w.sending ≡ Some new → w.receiving ≡ v.receiving → IsSame v w → w.seen ≡ v.seen → w.noted ≡ notes ++ v.noted → Rule (state (set s.words (P + c) y) s.homes (set s.views id w))
  law-tell s r id p c y v w b x new notes at holds below mine here all y_is new_is sending receiving same seen noted =
      let there = get-exists r.beside.now.channels c (omega (arith, below, r.flow.same.1)) in
      let k = there.0 in
      let word = get_or s.words (P + c) 0 in
      let end = subst (λ n. IsAtSending rules lawful start s r id n v (Some x)) here (at-sending-end rules lawful start s r id v x at mine) in
      let z = receiving_of c (r.beside.receivers c) in
      let lies = subst (λ (t : Sender). Lies start s c k t (r.beside.receivers c)) end.seat (r.flow.each_connection c k there.1) in
      let output = output-in rules lawful start v p c b holds (subst (Sends v.held) here (mine-output rules lawful start s r id v x at mine)) in
      let l = lies.so in
      let says = says-of rules lawful start s c k x z l in
      let ws' = set s.words (P + c) y in
      let vs' = set s.views id w in
      let s' : St K = state ws' s.homes vs' in
      let wide = r.flow.wide in
      let level : ℕ = l.level + x.unpublished in
      let word_is = l.word in
      let y_word : y ≡ free_word level (k.open_senders + 0) = omega (arith, word_is, y_is) in
      let told : LiesSo start s' c k (record x { unpublished = 0; unsubtracted = 0; learnt = x.learnt }) (record z { unwithdrawn = z.unwithdrawn }) =
      so-count start s s' c k x z 0 0 z.unwithdrawn level x.learnt (λ t own. refl) l (get_or-set_same s.words (P + c) y 0 (omega (arith, below, wide)) ∙ y_word) (omega (arith, l.counted)) (omega (arith, l.counts)) l.room (omega (arith, l.few.1)) (λ some_put. absurd (omega (arith, some_put))) l.learnt in
      let new_level : level_in y ≡ level = ap level_in y_word ∙ level-of level (k.open_senders + 0) (omega (arith, l.counted, l.room, l.few.0)) (omega (arith, l.few.1)) in
      let rises : level_in word ≤ level_in y = omega (arith, new_level, says.level_is) in
      let new_here : new.connection ≡ c = ap (λ (t : Sending). t.connection) new_is ∙ here in
      law-level rules lawful start s r id p c y v w b (put r.beside.senders c (Some (id, new))) r.beside.receivers at holds below same seen
      (λ q t. subst (λ (xs : List ℕ). Contains xs q) (sym noted) (Contains-append_right notes v.noted q t))
      (record { receiver = inr (λ q t t_is input. subst (λ (xs : List ℕ). Contains xs q) (sym noted) (Contains-append_left notes v.noted q (all q t t_is input))); senders = inl rises })
      (stays-put sending-place (λ (t : View K). t.sending) Sends s.views id c v w (Some new) r.beside.senders at r.flow.each_sender (λ j t t_is. ap (λ (u : ℕ × Sending). u.0) (some_Some (j, t) (id, x) (sym t_is ∙ end.seat))) end.own
      (λ t t_is. (ap (λ (u : Sending). u.connection) (some_Some t new (sym t_is)) ∙ new_here, subst (λ (h : Option (ℕ × BodyValue K)). Sends h c) (sym (same.held ∙ holds)) output)) sending)
      (receivers-same rules lawful start s r.beside id v w r.flow at receiving (λ d t. subst (λ (h : Option (ℕ × BodyValue K)). Receives h d) (sym same.held) t))
      (sender-lies rules lawful start s r ws' s.homes vs' c k (Some (id, new)) there.1 (λ q low a e. get_or-set_other s.words (P + c) q y 0 e) (λ t other. refl)
      (record { gated = get_or-set_other s.words (P + c) (gate_rank P C c) y 0 (λ e. omega (arith, e, below)) ∙ lies.gated; so = subst (λ (t : Sending). LiesSo start s' c k t z) (sym new_is) told }))

  -- what the level word of a seat's connection is at most
  word-low : (s : St K) (r : Rule s) (id c : ℕ) (v : View K) (x : Sending) → get_elem? s.views id ≡ some v → c < C → v.sending ≡ Some x → x.connection ≡ c → (get_or s.words (P + c) 0 < FIELD * FIELD) × (x.unpublished < FIELD) × (x.unsubtracted * FIELD ≤ get_or s.words (P + c) 0)
  word-low s r id c v x at below mine here =
      let there = get-exists r.beside.now.channels c (omega (arith, below, r.flow.same.1)) in
      let k = there.0 in
      let end = subst (λ n. IsAtSending rules lawful start s r id n v (Some x)) here (at-sending-end rules lawful start s r id v x at mine) in
      let z = receiving_of c (r.beside.receivers c) in
      let l = (subst (λ (t : Sender). Lies start s c k t (r.beside.receivers c)) end.seat (r.flow.each_connection c k there.1)).so in
      let says = says-of rules lawful start s c k x z l in
      let word_is = l.word in
      (says.low, omega (arith, l.counted, l.room, l.few.0), omega (arith, word_is))

  -- All puts are published, and the receivers are noted.
  pub publishes : (slots i id p c n : ℕ) (me : Sat K) (b : BodyValue K) (x : Sending) (notes : List ℕ) → i ≡ P + c → c < C → me.0.held ≡ Some (p, b) → me.0.sending ≡ Some x → x.connection ≡ c → x.unpublished ≡ n → x.unsubtracted ≡ 0 → AllReceivers start c notes
      → Allows Rule slots id me i (λ m. (m + n) % 2 ^ 64) (published notes (step slots i n 0 none) me)
  publishes slots i id p c n me b x notes place below holds mine here many none_closed all s r deep at fits =
      let v = me.0 in
      let word = get_or s.words (P + c) 0 in
      let x_is : get_or s.words i 0 ≡ word = ap (λ m. get_or s.words m 0) place in
      let low = word-low s r id c v x at below mine here in
      let y : ℕ = word + n in
      let w = publishing v notes in
      let up : (get_or s.words i 0 + n) % 2 ^ 64 ≡ y = omega (arith, x_is, low.0, low.1, many) in (
        w,
        keeps,
        tt,
        subst (λ (t : ℕ × ℕ). Rule (state (set s.words t.0 t.1) s.homes (set s.views id w))) (λ j. (sym place j, sym up j))
            (law-tell s r id p c y v w b x (record x { unpublished = 0; unsubtracted = 0 }) notes at holds below mine here all (omega (arith, many, none_closed)) refl
            (ap (option_map (λ (t : Sending). record t { unpublished = 0 })) mine ∙ (λ j. Some (record x { unpublished = 0; unsubtracted = none_closed j }))) refl (record { held = refl; shares = refl; made = refl; spare = refl; zeros = refl }) refl refl),
        refl,
      )

  -- A close is subtracted, and the receivers are noted.
  pub subtracts : (slots i id p c : ℕ) (me : Sat K) (b : BodyValue K) (x : Sending) (notes : List ℕ) → i ≡ P + c → c < C → me.0.held ≡ Some (p, b) → me.0.sending ≡ Some x → x.connection ≡ c → x.unpublished ≡ 0 → x.unsubtracted ≡ 1 → AllReceivers start c notes
      → Allows Rule slots id me i (λ n. (n + (2 ^ 64 - FIELD)) % 2 ^ 64) (subtracted notes (step slots i FIELD 0 none) me)
  subtracts slots i id p c me b x notes place below holds mine here none_put closed all s r deep at fits =
      let v = me.0 in
      let word = get_or s.words (P + c) 0 in
      let x_is : get_or s.words i 0 ≡ word = ap (λ m. get_or s.words m 0) place in
      let low = word-low s r id c v x at below mine here in
      let y : ℕ = word - FIELD in
      let w = subtracting v notes in
      let enough : FIELD ≤ word = omega (arith, low.2, closed) in
      let down : (get_or s.words i 0 + (2 ^ 64 - FIELD)) % 2 ^ 64 ≡ y = omega (arith, x_is, low.0, enough) in (
        w,
        keeps,
        tt,
        subst (λ (t : ℕ × ℕ). Rule (state (set s.words t.0 t.1) s.homes (set s.views id w))) (λ j. (sym place j, sym down j))
            (law-tell s r id p c y v w b x (record x { unpublished = 0; unsubtracted = 0 }) notes at holds below mine here all (omega (arith, closed, none_put, enough)) refl
            (ap (option_map (λ (t : Sending). record t { unsubtracted = 0 })) mine ∙ (λ j. Some (record x { unpublished = none_put j; unsubtracted = 0 }))) refl (record { held = refl; shares = refl; made = refl; spare = refl; zeros = refl }) refl refl),
        refl,
      )

  -- All takes are withdrawn, of a seat that has drawn nothing more, and the senders are noted.
  pub withdraws : (slots i id p c n : ℕ) (me : Sat K) (b : BodyValue K) (y : Receiving) (notes : List ℕ) → i ≡ P + c → c < C → me.0.held ≡ Some (p, b) → me.0.receiving ≡ Some y → y.connection ≡ c → y.drawn ≡ [] → y.out ≡ None → y.unwithdrawn ≡ n → AllSenders start c notes
      → Allows Rule slots id me i (λ m. (m + (2 ^ 64 - n)) % 2 ^ 64) (withdrew notes (step slots i n 0 none) me)
  withdraws slots i id p c n me b y notes place below holds mine here none_drawn inside many all s r deep at fits =
      let v = me.0 in
      let word = get_or s.words (P + c) 0 in
      let x_is : get_or s.words i 0 ≡ word = ap (λ m. get_or s.words m 0) place in
      let there = get-exists r.beside.now.channels c (omega (arith, below, r.flow.same.1)) in
      let k = there.0 in
      let end = subst (λ m. IsAtReceiving rules lawful start s r id m v (Some y)) here (at-receiving-end rules lawful start s r id v y at mine) in
      let x = sending_of c (r.beside.senders c) in
      let lies = subst (λ (t : Receiver). Lies start s c k (r.beside.senders c) t) end.seat (r.flow.each_connection c k there.1) in
      let input = input-in rules lawful start v p c b holds (subst (Receives v.held) here (mine-input rules lawful start s r id v y at mine)) in
      let l = lies.so in
      let says = says-of rules lawful start s c k x y l in
      let w = withdrawing v notes in
      let word' : ℕ = word - n in
      let level : ℕ = l.level - n in
      let ws' = set s.words (P + c) word' in
      let vs' = set s.views id w in
      let s' : St K = state ws' s.homes vs' in
      let wide = r.flow.wide in
      let word_is = l.word in
      let enough : n ≤ l.level = omega (arith, l.counts, many) in
      let new_word : word' ≡ free_word level (k.open_senders + x.unsubtracted) = omega (arith, word_is, enough) in
      let down : (get_or s.words i 0 + (2 ^ 64 - n)) % 2 ^ 64 ≡ word' = omega (arith, x_is, says.low, word_is, enough) in
      let level_is : level_in word' ≡ level = ap level_in new_word ∙ level-of level (k.open_senders + x.unsubtracted) (omega (arith, l.counted, l.room, l.few.0)) l.few.1 in
      let senders_is : senders_in word' ≡ k.open_senders + x.unsubtracted = ap senders_in new_word ∙ senders-of level (k.open_senders + x.unsubtracted) (omega (arith, l.counted, l.room, l.few.0)) l.few.1 in
      let fresh : record y { unwithdrawn = 0 } ≡ receiving_at c = λ j. record { connection = here j; drawn = none_drawn j; out = inside j; unwithdrawn = 0 } in
      let told : LiesSo start s' c k (record x { unpublished = x.unpublished; unsubtracted = x.unsubtracted; learnt = x.learnt }) (record y { unwithdrawn = 0 }) =
      so-count start s s' c k x y x.unpublished x.unsubtracted 0 level x.learnt (λ t own. refl) l (get_or-set_same s.words (P + c) word' 0 (omega (arith, below, wide)) ∙ new_word) (omega (arith, l.counted, many, enough)) (omega (arith, ap length none_drawn)) (omega (arith, l.room)) l.few.1 l.sends l.learnt in
      let law : Rule s' = law-level rules lawful start s r id p c word' v w b r.beside.senders (put r.beside.receivers c None) at holds below (record { held = refl; shares = refl; made = refl; spare = refl; zeros = refl }) refl
      (λ q t. Contains-append_right notes v.noted q t)
      (record { receiver = inl (omega (arith, level_is, says.level_is), omega (arith, senders_is, says.senders_is)); senders = inr (λ q t t_is output. Contains-append_left notes v.noted q (all q t t_is output)) })
      (senders-same rules lawful start s r.beside id v w r.flow at refl (λ d t. t))
      (stays-put receiving-place (λ (t : View K). t.receiving) Receives s.views id c v w None r.beside.receivers at r.flow.each_receiver (λ j t t_is. ap (λ (u : ℕ × Receiving). u.0) (some_Some (j, t) (id, y) (sym t_is ∙ end.seat))) end.own
      (λ t t_is. (let e : None ≡ Some t = t_is in absurd (cc))) refl)
      (receiver-lies rules lawful start s r ws' s.homes vs' c k None there.1 (λ q low a e. get_or-set_other s.words (P + c) q word' 0 e) (λ t other. refl)
      (record { gated = get_or-set_other s.words (P + c) (gate_rank P C c) word' 0 (λ e. omega (arith, e, below)) ∙ lies.gated; so = subst (λ (t : Receiving). LiesSo start s' c k x t) fresh told })) in (
        w,
        keeps,
        tt,
        subst (λ (t : ℕ × ℕ). Rule (state (set s.words t.0 t.1) s.homes vs')) (λ j. (sym place j, sym down j)) law,
        refl,
      )
