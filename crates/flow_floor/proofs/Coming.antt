-- Steps at the ends of connections keep the rule: looks, to come to a sending end and to go from it, and to learn a level.
use Rattle.std.proofs.Common.{◌≡◌, ◌≢◌, ℕ, zero, suc, ◌+◌, ◌*◌, ◌<◌, true, false, Bool, List, ◌∷◌, length, get_or, set, sym, refl, ap, ◌∙◌, subst, arith, Option, Some, None, slice_get, length-set, get_or-set_other, get_or-set_same, ◌⊎◌, inl, inr, bit_or}
use Rattle.std.specs.Option.{option_map}
use mathlib.Core.Option.{none, some, some-injective}
use lib.ListN.{get_elem?}
use lib.Seq.{set-get_or}
use Rattle.atomic_table.specs.Table.{step, keeps, Allows}
use Rattle.flow_component.specs.Laws.{Rules, Lawful}
use Rattle.flow_model.specs.Stands.{ChannelShown}
use Rattle.flow_machine.specs.Values.{BodyValue, NetValue}
use Rattle.flow_ring.specs.declared.TheConstants.{FIELD}
use Rattle.std.proofs.lemmas.List.{length-map}
use Rattle.flow_ring.specs.Words.{free_word, level_in, senders_in}
use Rattle.flow_ring.specs.Places.{level_rank, gate_rank}
use Rattle.flow_ring.proofs.Words.{level-of, senders-of}
use Rattle.flow_floor.specs.Waking.{live_in, AllBlock}
use Rattle.flow_floor.specs.Wired.{IsInput, IsOutput}
use Rattle.flow_floor.proofs.Channels.{one-receiver}
use Rattle.flow_floor.proofs.Functions.{put}
use Rattle.flow_floor.proofs.Lists.{some_Some, get-exists}
use Rattle.flow_floor.proofs.Wakes.{live-other}
use Rattle.flow_floor.specs.declared.board.Sending.{Sending}
use Rattle.flow_floor.specs.declared.board.Receiving.{Receiving}
use Rattle.flow_floor.specs.declared.board.View.{View}
use Rattle.flow_floor.specs.declared.board.Look.{Look}
use Rattle.flow_floor.specs.Ends.{Sender, Receiver, sending_at, sending_of, receiving_of, is_shared, gate_word, capacities_of, Sends, Receives, HasTold, HasWithdrawn}
use Rattle.flow_floor.specs.Law.{SeenTrue, AllSeen, Lies, LiesSo, SaysReceiving}
use Rattle.flow_floor.specs.Plays.{Sat, gated, came, saw, learned, exited}
use Rattle.flow_floor.specs.Rule.{Law}
use Rattle.flow_floor.specs.Views.{entering, exiting, learning, look_at, looked, seeing}
use Rattle.flow_floor.proofs.Alone.{sender-none}
use Rattle.flow_floor.proofs.Cells.{St, Homes, state, Own, own-body}
use Rattle.flow_floor.proofs.Flows.{mine-holds, senders-same, receivers-same}
use Rattle.flow_floor.proofs.Laws.{IsSame, law-look, law-looked, law-step, sender-lies, receiver-lies}
use Rattle.flow_floor.proofs.Lying.{so-count, so-keep}
use Rattle.flow_floor.proofs.Seats.{seated, stays-put, sending-place, receiving-place}
use Rattle.flow_floor.proofs.Stamps.{mine-sends, mine-receives, mine-output}
use Rattle.flow_floor.proofs.Wakings.{look-blocks}

-- What the level word says.
pub record Says (x level senders : ℕ) : Type 0 where
  pub level_is : level_in x ≡ level
  pub senders_is : senders_in x ≡ senders
  pub low : x < FIELD * FIELD

module _ {K : Type 0} (rules : Rules K) (lawful : Lawful rules)
    (start : NetValue K) where
  abbrev Rule : St K → Type 0
  Rule = Law rules start

  abbrev P : ℕ
  P = length start.bodies

  abbrev caps : List ℕ
  caps = capacities_of start

  abbrev C : ℕ
  C = length caps

  abbrev L : ℕ
  L = P + C + C + 1

  none-some : {A : Type 0} (h : Option A) (x : A) (X : Type 0) → h ≡ None → h ≡ Some x → X
  none-some h x X a b = let e : None ≡ Some x = sym a ∙ b in absurd (cc)

  pub says-of : (s : St K) (c : ℕ) (k : ChannelShown) (x : Sending) (y : Receiving) (l : LiesSo start s c k x y) → Says (get_or s.words (P + c) 0) l.level (k.open_senders + x.unsubtracted)
  says-of s c k x y l =
      let small : l.level < FIELD = omega (arith, l.counted, l.room, l.few.0) in
      record {
        level_is = ap level_in l.word ∙ level-of l.level (k.open_senders + x.unsubtracted) small l.few.1;
        senders_is = ap senders_in l.word ∙ senders-of l.level (k.open_senders + x.unsubtracted) small l.few.1;
        low = omega (arith, l.word, small, l.few.1);
      }

  -- Where a seat's process receives at a connection, no other seat does.
  pub receiver-alone : (s : St K) (r : Rule s) (id p c : ℕ) (v : View K) (b : BodyValue K) → get_elem? s.views id ≡ some v → v.held ≡ Some (p, b) → IsInput b c → (j : ℕ) (y : Receiving) → r.beside.receivers c ≡ Some (j, y) → (j ≡ id) × (v.receiving ≡ Some y)
  receiver-alone s r id p c v b at holds input j y is = by says.view.held refl says.allowed
    where
      says : SaysReceiving s.views c j y
      says = r.flow.each_receiver c j y is

      by : (h : Option (ℕ × BodyValue K)) → says.view.held ≡ h → Receives h c → (j ≡ id) × (v.receiving ≡ Some y)
      by None e own = absurd own
      by (Some (q, z)) e own =
          let theirs = mine-holds rules lawful start s r.beside j q says.view z r.flow says.there e in
          let mine = mine-holds rules lawful start s r.beside id p v b r.flow at holds in
          let one = one-receiver rules r.beside.now p q c b z r.flow.fit mine.1 theirs.1 input own in
          let seat : id ≡ j = some_Some id j (sym mine.0 ∙ ap r.beside.holder one ∙ theirs.0) in
          let view : v ≡ says.view = some-injective v says.view (sym at ∙ ap (get_elem? s.views) seat ∙ says.there) in
          (sym seat, ap (λ (u : View K). u.receiving) view ∙ says.says)

  -- so the level of its input doesn't count them
  withdrawn-at : (s : St K) (r : Rule s) (id p c : ℕ) (v : View K) (b : BodyValue K) → get_elem? s.views id ≡ some v → v.held ≡ Some (p, b) → IsInput b c → HasWithdrawn v.receiving → (receiving_of c (r.beside.receivers c)).unwithdrawn ≡ 0
  withdrawn-at s r id p c v b at holds input all = by (r.beside.receivers c) refl
    where
      by : (o : Receiver) → r.beside.receivers c ≡ o → (receiving_of c o).unwithdrawn ≡ 0
      by None is = refl
      by (Some (j, y)) is = subst HasWithdrawn (receiver-alone s r id p c v b at holds input j y is).1 all

  -- What is in the level word of an input of the held process is so.
  seen-true : (s : St K) (r : Rule s) (id p c : ℕ) (v : View K) (b : BodyValue K) (look : Look) → get_elem? s.views id ≡ some v → v.held ≡ Some (p, b) → HasWithdrawn v.receiving → look.word ≡ P + c → look.read ≡ get_or s.words (P + c) 0 → SeenTrue P r.beside.now b look
  seen-true s r id p c v b look at holds all word read d k at_d there input =
      let same : c ≡ d = omega (arith, word, at_d) in
      let read' : look.read ≡ get_or s.words (P + d) 0 = read ∙ ap (λ n. get_or s.words (P + n) 0) same in
      let back = withdrawn-at s r id p d v b at holds input all in
      let x = sending_of d (r.beside.senders d) in
      let l = (r.flow.each_connection d k there).so in
      let says = says-of s d k x (receiving_of d (r.beside.receivers d)) l in
      let level : level_in look.read ≡ l.level = ap level_in read' ∙ says.level_is in
      let opens : senders_in look.read ≡ k.open_senders + x.unsubtracted = ap senders_in read' ∙ says.senders_is in (
        λ some_level. omega (arith, some_level, level, l.counted, back),
        λ no_level no_senders. (none-there x.unpublished (length k.packets) k.open_senders (omega (arith, no_level, level, l.counted, back)) (omega (arith, no_senders, opens)) l.sends, omega (arith, no_senders, opens)),
      )
    where
      none-there : (puts packets senders : ℕ) → puts ≡ packets → senders ≡ 0 → (0 < puts → 0 < senders) → packets ≡ 0
      none-there zero packets senders same gone sends = omega (arith, same)
      none-there (suc n) packets senders same gone sends = absurd (omega (arith, gone, sends (omega arith)))

  -- A look that is kept.
  pub all-seen : (s : St K) (r : Rule s) (id p c : ℕ) (v : View K) (b : BodyValue K) → get_elem? s.views id ≡ some v → v.held ≡ Some (p, b) → HasWithdrawn v.receiving → AllSeen P r.beside.now v.held (look_at v (P + c) (get_or s.words (P + c) 0) ∷ v.seen)
  all-seen s r id p c v b at holds all =
      let look = look_at v (P + c) (get_or s.words (P + c) 0) in
      subst (λ (h : Option (ℕ × BodyValue K)). AllSeen P r.beside.now h (look ∷ v.seen)) (sym holds)
      (seen-true s r id p c v b look at holds all refl refl, subst (λ (h : Option (ℕ × BodyValue K)). AllSeen P r.beside.now h v.seen) holds (r.flow.each_seat id v at).seen)

  pub law-seeing : (s : St K) (r : Rule s) (id p c : ℕ) (v : View K) (b : BodyValue K) → get_elem? s.views id ≡ some v → v.held ≡ Some (p, b) → HasWithdrawn v.receiving → Rule (state s.words s.homes (set s.views id (seeing v (P + c) (get_or s.words (P + c) 0))))
  law-seeing s r id p c v b at holds all =
      let x = get_or s.words (P + c) 0 in
      law-look rules lawful start s id v (seeing v (P + c) x) r at (record { held = refl; shares = refl; made = refl; spare = refl; zeros = refl }) refl refl refl (all-seen s r id p c v b at holds all)
      (λ q z h blocks. (look-blocks rules lawful start s.words z (look_at v (P + c) x) c refl refl refl, blocks))

  -- A step that reads word i leaves it.
  pub unread : (s : St K) (hs' : Homes K) (vs' : List (View K)) (i : ℕ) → Rule (state s.words hs' vs') → Rule (state (set s.words i (get_or s.words i 0)) hs' vs')
  unread s hs' vs' i law = subst (λ (ws : List ℕ). Rule (state ws hs' vs')) (sym (set-get_or s.words i 0)) law

  pub looks : (slots i id p c : ℕ) (me : Sat K) (b : BodyValue K) → i ≡ P + c → me.0.held ≡ Some (p, b) → HasWithdrawn me.0.receiving → Allows Rule slots id me i (λ n. n) (saw (step slots i 0 0 none) me)
  looks slots i id p c me b place holds all s r deep at fits =
      let v = me.0 in (
        seeing v i (get_or s.words i 0),
        keeps,
        tt,
        unread s s.homes (set s.views id (seeing v i (get_or s.words i 0))) i (subst (λ (n : ℕ). Rule (state s.words s.homes (set s.views id (seeing v n (get_or s.words n 0))))) (sym place) (law-seeing s r id p c v b at holds all)),
        refl,
      )

  -- Nobody is at the sending end of connection c but maybe this seat, which is at no other one.
  pub record IsAtSending (s : St K) (r : Rule s) (id c : ℕ) (v : View K) (old : Option Sending) : Type 0 where
    pub seat : r.beside.senders c ≡ seated id old
    pub own : (x : Sending) → v.sending ≡ Some x → x.connection ≡ c

  pub record IsAtReceiving (s : St K) (r : Rule s) (id c : ℕ) (v : View K) (old : Option Receiving) : Type 0 where
    pub seat : r.beside.receivers c ≡ seated id old
    pub own : (y : Receiving) → v.receiving ≡ Some y → y.connection ≡ c

  pub at-sending-end : (s : St K) (r : Rule s) (id : ℕ) (v : View K) (x : Sending) → get_elem? s.views id ≡ some v → v.sending ≡ Some x → IsAtSending s r id x.connection v (Some x)
  at-sending-end s r id v x at is = record { seat = mine-sends rules lawful start s r id v x at is; own = λ z z_is. ap (λ (t : Sending). t.connection) (some_Some z x (sym z_is ∙ is)) }

  pub at-receiving-end : (s : St K) (r : Rule s) (id : ℕ) (v : View K) (y : Receiving) → get_elem? s.views id ≡ some v → v.receiving ≡ Some y → IsAtReceiving s r id y.connection v (Some y)
  at-receiving-end s r id v y at is = record { seat = mine-receives rules lawful start s r id v y at is; own = λ z z_is. ap (λ (t : Receiving). t.connection) (some_Some z y (sym z_is ∙ is)) }

  seated-one : {E : Type 0} (id j : ℕ) (old : Option E) (x : E) → seated id old ≡ Some (j, x) → j ≡ id
  seated-one id j None x is = let e : None ≡ Some (j, x) = is in absurd (cc)
  seated-one id j (Some y) x is = ap (λ (t : ℕ × _). t.0) (some_Some (j, x) (id, y) (sym is))

  -- How the words and the slots are after a step at connection c that changes no level.
  pub record Beyond (s : St K) (c : ℕ) (ws' : List ℕ) (hs' : Homes K) : Type 0 where
    pub wide : length ws' ≡ length s.words
    pub deep : length hs' ≡ length s.homes
    pub words : (q : ℕ) → q ≢ gate_rank P C c → get_or ws' q 0 ≡ get_or s.words q 0
    pub live : live_in P ws' ≡ live_in P s.words
    pub homes : (x : ℕ) → (Own P caps c x → ⊥) → get_elem? hs' x ≡ get_elem? s.homes x

  pub beyond-none : (s : St K) (c : ℕ) → Beyond s c s.words s.homes
  beyond-none s c = record { wide = refl; deep = refl; words = λ q other. refl; live = refl; homes = λ x other. refl }

  pub beyond-gate : (s : St K) (c y : ℕ) → Beyond s c (set s.words (gate_rank P C c) y) s.homes
  beyond-gate s c y = record { wide = length-set s.words (gate_rank P C c) y; deep = refl; words = λ q other. get_or-set_other s.words (gate_rank P C c) q y 0 other; live = live-other P (gate_rank P C c) y s.words (omega arith); homes = λ x other. refl }

  pub beyond-homes : (s : St K) (c : ℕ) (hs' : Homes K) → length hs' ≡ length s.homes → ((x : ℕ) → (Own P caps c x → ⊥) → get_elem? hs' x ≡ get_elem? s.homes x) → Beyond s c s.words hs'
  beyond-homes s c hs' deep homes = record { wide = refl; deep = deep; words = λ q other. refl; live = refl; homes = homes }

  -- The seat goes on at the sending end of connection c.
  pub law-sending : (s : St K) (r : Rule s) (id p c : ℕ) (v w : View K) (b : BodyValue K) (k : ChannelShown) (ws' : List ℕ) (hs' : Homes K) (old new : Option Sending) → get_elem? s.views id ≡ some v → v.held ≡ Some (p, b) → IsOutput b c → c < C → slice_get r.beside.now.channels c ≡ Some k → Beyond s c ws' hs' → IsAtSending s r id c v old
      → ((x : Sending) → new ≡ Some x → x.connection ≡ c) → w.sending ≡ new → w.receiving ≡ v.receiving → IsSame v w → w.noted ≡ v.noted → AllSeen P r.beside.now w.held w.seen → ((q : ℕ) (z : BodyValue K) → v.held ≡ Some (q, z) → AllBlock P start.channels ws' z v.seen → AllBlock P start.channels ws' z w.seen)
      → Lies start (state ws' hs' (set s.views id w)) c k (seated id new) (r.beside.receivers c) → Rule (state ws' hs' (set s.views id w))
  law-sending s r id p c v w b k ws' hs' old new at holds output below there beyond end here sending receiving same noted seen blocks lies =
      law-step rules lawful start s r id v w ws' hs' (put r.beside.senders c (seated id new)) r.beside.receivers at beyond.wide beyond.deep (λ q low. beyond.words q (λ e. omega (arith, e, low))) (beyond.words (P + C + C) (λ e. omega (arith, e, below))) (beyond.words L (λ e. omega (arith, e, below))) beyond.live
      (λ x low. beyond.homes x (λ own. own-body P caps c x low own)) same noted seen blocks (λ gone. none-some v.held (p, b) _ (sym same.held ∙ gone) holds)
      (stays-put sending-place (λ (z : View K). z.sending) Sends s.views id c v w new r.beside.senders at r.flow.each_sender (λ j x is. seated-one id j old x (sym end.seat ∙ is)) end.own
      (λ x is. (here x is, subst (λ (h : Option (ℕ × BodyValue K)). Sends h c) (sym (same.held ∙ holds)) output)) sending)
      (receivers-same rules lawful start s r.beside id v w r.flow at receiving (λ d t. subst (λ (h : Option (ℕ × BodyValue K)). Receives h d) (sym same.held) t))
      (sender-lies rules lawful start s r ws' hs' (set s.views id w) c k (seated id new) there (λ q low a z. beyond.words q a) beyond.homes lies)

  -- It goes on at the receiving end.
  pub law-receiving : (s : St K) (r : Rule s) (id p c : ℕ) (v w : View K) (b : BodyValue K) (k : ChannelShown) (hs' : Homes K) (old new : Option Receiving) → get_elem? s.views id ≡ some v → v.held ≡ Some (p, b) → IsInput b c → c < C → slice_get r.beside.now.channels c ≡ Some k → Beyond s c s.words hs' → IsAtReceiving s r id c v old
      → ((y : Receiving) → new ≡ Some y → y.connection ≡ c) → w.receiving ≡ new → w.sending ≡ v.sending → IsSame v w → w.noted ≡ v.noted → AllSeen P r.beside.now w.held w.seen → ((q : ℕ) (z : BodyValue K) → v.held ≡ Some (q, z) → AllBlock P start.channels s.words z v.seen → AllBlock P start.channels s.words z w.seen)
      → Lies start (state s.words hs' (set s.views id w)) c k (r.beside.senders c) (seated id new) → Rule (state s.words hs' (set s.views id w))
  law-receiving s r id p c v w b k hs' old new at holds input below there beyond end here receiving sending same noted seen blocks lies =
      law-step rules lawful start s r id v w s.words hs' r.beside.senders (put r.beside.receivers c (seated id new)) at refl beyond.deep (λ q low. refl) refl refl refl
      (λ x low. beyond.homes x (λ own. own-body P caps c x low own)) same noted seen blocks (λ gone. none-some v.held (p, b) _ (sym same.held ∙ gone) holds)
      (senders-same rules lawful start s r.beside id v w r.flow at sending (λ d t. subst (λ (h : Option (ℕ × BodyValue K)). Sends h d) (sym same.held) t))
      (stays-put receiving-place (λ (z : View K). z.receiving) Receives s.views id c v w new r.beside.receivers at r.flow.each_receiver (λ j x is. seated-one id j old x (sym end.seat ∙ is)) end.own
      (λ x is. (here x is, subst (λ (h : Option (ℕ × BodyValue K)). Receives h c) (sym (same.held ∙ holds)) input)) receiving)
      (receiver-lies rules lawful start s r s.words hs' (set s.views id w) c k (seated id new) there (λ q low a z. refl) beyond.homes lies)

  pub output-in : (v : View K) (p c : ℕ) (b : BodyValue K) → v.held ≡ Some (p, b) → Sends v.held c → IsOutput b c
  output-in v p c b holds there = subst (λ (h : Option (ℕ × BodyValue K)). Sends h c) holds there

  pub input-in : (v : View K) (p c : ℕ) (b : BodyValue K) → v.held ≡ Some (p, b) → Receives v.held c → IsInput b c
  input-in v p c b holds there = subst (λ (h : Option (ℕ × BodyValue K)). Receives h c) holds there

  none-here : {E : Type 0} (place : E → ℕ) (o : Option E) (c : ℕ) → o ≡ None → (x : E) → o ≡ Some x → place x ≡ c
  none-here place o c gone x is = none-some o x _ gone is

  -- The gate word says whether somebody is at the sending end of a connection into which several send.
  gate-says : (sender : Sender) (x : ℕ) → x ≡ gate_word true sender → ((x ≡ 0) × (sender ≡ None)) ⊎ (x ≡ 1)
  gate-says None x is = inl (is, refl)
  gate-says (Some sender) x is = inr is

  -- A seat comes to the sending end, where nobody is.
  law-come : (s : St K) (r : Rule s) (id p c : ℕ) (v : View K) (b : BodyValue K) (k : ChannelShown) (ws' : List ℕ) → get_elem? s.views id ≡ some v → v.held ≡ Some (p, b) → IsOutput b c → c < C → slice_get r.beside.now.channels c ≡ Some k → Beyond s c ws' s.homes → v.sending ≡ None → r.beside.senders c ≡ None
      → get_or ws' (gate_rank P C c) 0 ≡ gate_word (is_shared start c) (Some (id, sending_at c)) → Rule (state ws' s.homes (set s.views id (entering v c)))
  law-come s r id p c v b k ws' at holds output below there beyond no_end free gate =
      let lies = r.flow.each_connection c k there in
      let so = subst (λ (z : Sender). LiesSo start s c k (sending_of c z) (receiving_of c (r.beside.receivers c))) free lies.so in
      law-sending s r id p c v (entering v c) b k ws' s.homes None (Some (sending_at c)) at holds output below there beyond (record { seat = free; own = none-here (λ (x : Sending). x.connection) v.sending c no_end })
      (λ x is. ap (λ (t : Sending). t.connection) (some_Some x (sending_at c) (sym is))) refl refl (record { held = refl; shares = refl; made = refl; spare = refl; zeros = refl }) refl (r.flow.each_seat id v at).seen (λ q z h all. still-all ws' beyond below z v.seen all)
      (record { gated = gate; so = so-keep start s (state ws' s.homes (set s.views id (entering v c))) c k (sending_at c) (receiving_of c (r.beside.receivers c)) (beyond.words (level_rank P c) (λ e. omega (arith, e, below))) (λ x own. refl) so })
    where
      still-all : (ws' : List ℕ) → Beyond s c ws' s.homes → c < C → (z : BodyValue K) (seen : List Look) → AllBlock P start.channels ws' z seen → AllBlock P start.channels ws' z seen
      still-all ws' beyond below z seen all = all

  -- It takes the gate where that is free.
  pub enters : (slots i id p c : ℕ) (me : Sat K) (b : BodyValue K) → i ≡ gate_rank P C c → c < C → me.0.held ≡ Some (p, b) → Sends me.0.held c → is_shared start c ≡ true → me.0.sending ≡ None → Allows Rule slots id me i (λ n. bit_or n 1) (gated c (step slots i 1 0 none) me)
  enters slots i id p c me b place below holds sends shared no_end s r deep at fits =
      let v = me.0 in
      let output = output-in v p c b holds sends in
      let x = get_or s.words i 0 in
      let there = get-exists r.beside.now.channels c (omega (arith, below, r.flow.same.1)) in
      let k = there.0 in
      let lies = r.flow.each_connection c k there.1 in
      let x_is : x ≡ gate_word true (r.beside.senders c) = ap (λ n. get_or s.words n 0) place ∙ lies.gated ∙ ap (λ (z : Bool). gate_word z (r.beside.senders c)) shared in
      let wide = r.flow.wide in
      elim (gate-says (r.beside.senders c) x x_is) [
        | inl free ↦ (
          entering v c,
          keeps,
          tt,
          subst (λ (z : ℕ × ℕ). Rule (state (set s.words z.0 z.1) s.homes (set s.views id (entering v c)))) (λ t. (sym place t, sym (ap (λ n. bit_or n 1) free.0) t))
              (law-come s r id p c v b k (set s.words (gate_rank P C c) 1) at holds output below there.1 (beyond-gate s c 1) no_end free.1
              (get_or-set_same s.words (gate_rank P C c) 1 0 (omega (arith, below, wide)) ∙ ap (λ (z : Bool). gate_word z (Some (id, sending_at c))) (sym shared))),
          (λ _. refl, λ other. absurd (other free.0)),
        )
        | inr taken ↦ (
          looked v i x,
          keeps,
          tt,
          subst (λ (ws : List ℕ). Rule (state ws s.homes (set s.views id (looked v i x)))) (sym (ap (set s.words i) (ap (λ n. bit_or n 1) taken ∙ sym taken) ∙ set-get_or s.words i 0)) (law-looked rules lawful start s id i x v r at),
          (λ e. absurd (omega (arith, e, taken)), λ _. (taken, refl)),
        )
      ]

  -- It comes to the sending end of a connection into which its process alone sends, where it reads any word.
  pub comes : (slots i id p c : ℕ) (me : Sat K) (b : BodyValue K) → c < C → me.0.held ≡ Some (p, b) → Sends me.0.held c → is_shared start c ≡ false → me.0.sending ≡ None → Allows Rule slots id me i (λ n. n) (came c (step slots i 0 0 none) me)
  comes slots i id p c me b below holds sends alone no_end s r deep at fits =
      let v = me.0 in
      let output = output-in v p c b holds sends in
      let there = get-exists r.beside.now.channels c (omega (arith, below, r.flow.same.1)) in
      let k = there.0 in
      let lies = r.flow.each_connection c k there.1 in
      let free = sender-none rules lawful start s r id p c v b at holds output (omega (arith, below, length-map start.channels (λ (z : ChannelShown). z.capacity))) alone no_end in (
        entering v c,
        keeps,
        tt,
        unread s s.homes (set s.views id (entering v c)) i
            (law-come s r id p c v b k s.words at holds output below there.1 (beyond-none s c) no_end free (lies.gated ∙ ap (gate_word (is_shared start c)) free ∙ sym (ap (λ (z : Bool). gate_word z (Some (id, sending_at c))) alone))),
        refl,
      )

  law-go : (s : St K) (r : Rule s) (id p c : ℕ) (v : View K) (b : BodyValue K) (x : Sending) (ws' : List ℕ) → get_elem? s.views id ≡ some v → v.held ≡ Some (p, b) → c < C → v.sending ≡ Some x → x.connection ≡ c → HasTold x → Beyond s c ws' s.homes
      → get_or ws' (gate_rank P C c) 0 ≡ 0 → Rule (state ws' s.homes (set s.views id (exiting v)))
  law-go s r id p c v b x ws' at holds below mine here told beyond gate =
      let there = get-exists r.beside.now.channels c (omega (arith, below, r.flow.same.1)) in
      let k = there.0 in
      let end = subst (λ n. IsAtSending s r id n v (Some x)) here (at-sending-end s r id v x at mine) in
      let lies = subst (λ (z : Sender). Lies start s c k z (r.beside.receivers c)) end.seat (r.flow.each_connection c k there.1) in
      let output = output-in v p c b holds (subst (Sends v.held) here (mine-output rules lawful start s r id v x at mine)) in
      let l = lies.so in
      let y = receiving_of c (r.beside.receivers c) in
      let s' = state ws' s.homes (set s.views id (exiting v)) in
      let word = beyond.words (level_rank P c) (λ e. omega (arith, e, below)) in
      let fresh : record x { unpublished = 0; unsubtracted = 0; learnt = None } ≡ sending_at c = λ i. record { connection = here i; placed = told.placed i; out = told.out i; unpublished = 0; unsubtracted = 0; learnt = None } in
      let kept : LiesSo start s' c k (record x { unpublished = 0; unsubtracted = 0; learnt = None }) (record y { unwithdrawn = y.unwithdrawn }) =
      so-count start s s' c k x y 0 0 y.unwithdrawn l.level None (λ z own. refl) l (word ∙ l.word ∙ ap (λ n. free_word l.level (k.open_senders + n)) told.subtracted) (omega (arith, l.counted, told.published)) l.counts l.room (omega (arith, l.few.1, told.subtracted)) (λ some_put. absurd (omega (arith, some_put))) tt in
      law-sending s r id p c v (exiting v) b k ws' s.homes (Some x) None at holds output below there.1 beyond end (λ z is. none-some None z _ refl is) refl refl (record { held = refl; shares = refl; made = refl; spare = refl; zeros = refl }) refl (r.flow.each_seat id v at).seen (λ q z h all. all)
      (record { gated = gate; so = subst (λ (z : Sending). LiesSo start s' c k z y) fresh kept })

  -- It goes from the sending end, and frees the gate.
  pub exits : (slots i id p c : ℕ) (me : Sat K) (b : BodyValue K) (x : Sending) → i ≡ gate_rank P C c → c < C → me.0.held ≡ Some (p, b) → me.0.sending ≡ Some x → x.connection ≡ c → HasTold x → Allows Rule slots id me i (λ _. 0) (exited (step slots i 0 0 none) me)
  exits slots i id p c me b x place below holds mine here told s r deep at fits =
      let wide = r.flow.wide in (
        exiting me.0,
        keeps,
        tt,
        subst (λ n. Rule (state (set s.words n 0) s.homes (set s.views id (exiting me.0)))) (sym place)
            (law-go s r id p c me.0 b x (set s.words (gate_rank P C c) 0) at holds below mine here told (beyond-gate s c 0) (get_or-set_same s.words (gate_rank P C c) 0 0 (omega (arith, below, wide)))),
        refl,
      )

  -- It goes from one where no gate is taken, where it reads any word.
  pub goes : (slots i id p c : ℕ) (me : Sat K) (b : BodyValue K) (x : Sending) → c < C → me.0.held ≡ Some (p, b) → me.0.sending ≡ Some x → x.connection ≡ c → is_shared start c ≡ false → HasTold x → Allows Rule slots id me i (λ n. n) (exited (step slots i 0 0 none) me)
  goes slots i id p c me b x below holds mine here alone told s r deep at fits =
      let there = get-exists r.beside.now.channels c (omega (arith, below, r.flow.same.1)) in
      let lies = r.flow.each_connection c there.0 there.1 in (
        exiting me.0,
        keeps,
        tt,
        unread s s.homes (set s.views id (exiting me.0)) i (law-go s r id p c me.0 b x s.words at holds below mine here told (beyond-none s c) (lies.gated ∙ ap (λ (z : Bool). gate_word z (r.beside.senders c)) alone ∙ no-gate (r.beside.senders c))),
        refl,
      )
    where
      no-gate : (sender : Sender) → gate_word false sender ≡ 0
      no-gate None = refl
      no-gate (Some sender) = refl

  -- A level is read at the sending end, to be told, where all puts are published and all takes withdrawn.
  pub learns : (slots i id p c most : ℕ) (me : Sat K) (b : BodyValue K) (x : Sending) → i ≡ P + c → c < C → most ≡ get_or caps c 0 → me.0.held ≡ Some (p, b) → HasWithdrawn me.0.receiving → me.0.sending ≡ Some x → x.connection ≡ c → x.unpublished ≡ 0 → Allows Rule slots id me i (λ n. n) (learned most (step slots i 0 0 none) me)
  learns slots i id p c most me b x place below is_most holds all mine here published s r deep at fits =
      let v = me.0 in
      let there = get-exists r.beside.now.channels c (omega (arith, below, r.flow.same.1)) in
      let k = there.0 in
      let word = get_or s.words (P + c) 0 in
      let end = subst (λ n. IsAtSending s r id n v (Some x)) here (at-sending-end s r id v x at mine) in
      let lies = subst (λ (z : Sender). Lies start s c k z (r.beside.receivers c)) end.seat (r.flow.each_connection c k there.1) in
      let output = output-in v p c b holds (subst (Sends v.held) here (mine-output rules lawful start s r id v x at mine)) in
      let l = lies.so in
      let y = receiving_of c (r.beside.receivers c) in
      let says = says-of s c k x y l in
      let new : Sending = record x { learnt = Some (level_in word) } in
      let w = learning v (P + c) word in
      let s' = state s.words s.homes (set s.views id w) in
      let level : level_in (get_or s.words i 0) ≡ l.level = ap (λ n. level_in (get_or s.words n 0)) place ∙ says.level_is in
      let told : LiesSo start s' c k new y = so-count start s s' c k x y x.unpublished x.unsubtracted y.unwithdrawn l.level (Some (level_in word)) (λ z own. refl) l l.word l.counted l.counts l.room l.few.1 l.sends (omega (arith, says.level_is, l.counted, published), omega (arith, says.level_is, l.counted, published, l.room)) in
      let law : Rule s' = law-sending s r id p c v w b k s.words s.homes (Some x) (Some new) at holds output below there.1 (beyond-none s c) end (λ z is. ap (λ (t : Sending). t.connection) (some_Some z new (sym is)) ∙ here) (ap (option_map (λ (t : Sending). record t { learnt = Some (level_in word) })) mine) refl
      (record { held = refl; shares = refl; made = refl; spare = refl; zeros = refl }) refl (all-seen s r id p c v b at holds all) (λ q z h blocks. (look-blocks rules lawful start s.words z (look_at v (P + c) word) c refl refl refl, blocks)) (record { gated = lies.gated; so = told }) in (
        learning v i (get_or s.words i 0),
        keeps,
        tt,
        unread s s.homes (set s.views id (learning v i (get_or s.words i 0))) i (subst (λ n. Rule (state s.words s.homes (set s.views id (learning v n (get_or s.words n 0))))) (sym place) law),
        (refl, omega (arith, level, is_most, l.counted, published, l.room, l.size)),
      )
