-- Two whole turns of two processes may come in either order, and two of one process are one. So two quiet schedules end in one state.
use Rattle.std.proofs.Common.{◌≡◌, ◌≢◌, ℕ, ◌+◌, Bool, true, false, List, [], ◌∷◌, ◌++◌, drop, Some, None, refl, sym, ap, ◌∙◌, subst, cond, nat_eq, arith, inl, inr, slice_get}
use Rattle.flow_packet.specs.Tree.{Tree}
use Rattle.flow_packet.specs.Ids.{times}
use Rattle.flow_component.specs.Laws.{Rules, Lawful, AtMostOneOutcome}
use Rattle.flow_plan.specs.Network.{Network as Plan}
use Rattle.flow_plan.specs.declared.plan.Sender.{Sender}
use Rattle.flow_model.specs.States.{is_sender, without_sender, Process, Channel, Kept, State}
use Rattle.flow_model.specs.Events.{Event, Gets, Sends, Learns, Closes, Signals, event_of, seen_by}
use Rattle.flow_model.specs.Turns.{heard}
use Rattle.flow_model.specs.Schedules.{Journal, WholeTurn, LeadsBy, Leads}
use Rattle.flow_model.specs.Robin.{IsExact, ExactTurn}
use Rattle.flow_model.specs.Plans.{start_of, StartsWell}
use Rattle.flow_model.specs.Valid.{OneReceiver, SignalsApart, SendersOpen}
use Rattle.flow_model.proofs.Lists.{slice_get-set_other, same_or_not}
use Rattle.flow_model.proofs.Inverse.{explains}
use Rattle.flow_model.proofs.Senders.{both-true}
use Rattle.flow_model.proofs.OneRobin.{same-exact}
use Rattle.flow_determinate.specs.Determinate.{EachHasOneSender, OnlyTheseAsk, NoneMayAsk, IsStill, SameEnd}
use Rattle.flow_determinate.proofs.Moves.{one-of, moved, Move, whole-move, move-whole}
use Rattle.flow_determinate.proofs.Commuting.{set-commute, Touching, gets, sends, closes, signals, touching, CommuteAt, channels-commute, grow-commute, not-twice, SendApart, puts-commute, signals-commute, drops-commute, channel_by}
use Rattle.flow_determinate.proofs.Staying.{OneWriter, no-get, no-signal, no-get_there, no-signal_there, no-send, turn-stays}
use Rattle.flow_determinate.proofs.Calm.{Settled, settled-start, settled-whole, no-level}

-- Two senders close in either order.
without-commute : (a b : Sender) (senders : List Sender) → a.process ≢ b.process → without_sender b (without_sender a senders) ≡ without_sender a (without_sender b senders)
without-commute a b [] ne = refl
without-commute a b (s ∷ senders) ne = by (is_sender a s) (is_sender b s) refl refl (without-commute a b senders ne)
  where
    by : (t u : Bool) → is_sender a s ≡ t → is_sender b s ≡ u → without_sender b (without_sender a senders) ≡ without_sender a (without_sender b senders) → without_sender b (cond t senders (s ∷ without_sender a senders)) ≡ without_sender a (cond u senders (s ∷ without_sender b senders))
    by true true h k rest = absurd (ne ((both-true a.process s.process a.output s.output h).0 ∙ sym (both-true b.process s.process b.output s.output k).0))
    by true false h k rest = sym (ap (λ t. cond t (without_sender b senders) (s ∷ without_sender a (without_sender b senders))) h)
    by false true h k rest = ap (λ u. cond u (without_sender a senders) (s ∷ without_sender b (without_sender a senders))) k
    by false false h k rest =
        ap (λ u. cond u (without_sender a senders) (s ∷ without_sender b (without_sender a senders))) k ∙ ap (λ ss. s ∷ ss) rest
        ∙ sym (ap (λ t. cond t (without_sender b senders) (s ∷ without_sender a (without_sender b senders))) h)

-- a get from the head and a send to the end
drop-send : (packet new : Tree) (rest packets : List Tree) → packets ≡ packet ∷ rest → drop 1 packets ++ new ∷ [] ≡ drop 1 (packets ++ new ∷ [])
drop-send packet new rest packets is = subst (λ (ps : List Tree). drop 1 ps ++ new ∷ [] ≡ drop 1 (ps ++ new ∷ [])) (sym is) refl

module _ {K : Type 0} (kept : Kept K) (p : ℕ) (x : Process K) (n : ℕ) (e : Event) (there : slice_get kept.processes p ≡ Some x) (happens : event_of kept.channels x n ≡ Some e)
    (q : ℕ) (y : Process K) (m : ℕ) (f : Event) (on : slice_get kept.processes q ≡ Some y) (occurs : event_of kept.channels y m ≡ Some f)
    (apart : p ≢ q) (senders : SendersOpen kept) (receivers : OneReceiver kept.processes) (watchers : SignalsApart kept.processes) (writers : OneWriter kept.processes) where
  -- the two don't both send to one connection
  send-apart : SendApart e f
  send-apart port k c packet other is at =
      let to = explains kept.channels y m (Sends k c other) (occurs ∙ ap Some at) in
      no-send kept p x n e there happens q y m on apart senders receivers watchers writers k c port packet to.output is

  get-apart : (port k c : ℕ) (packet other : Tree) → e ≡ Gets port c packet → f ≡ Gets k c other → ⊥
  get-apart port k c packet other is at =
      let from = explains kept.channels y m (Gets k c other) (occurs ∙ ap Some at) in
      no-get kept p x n e there happens q y m on apart senders receivers watchers writers k c port packet from.input is

  get-signal_apart : (port c : ℕ) (packet other : Tree) → e ≡ Gets port c packet → f ≡ Signals c other → ⊥
  get-signal_apart port c packet other is at =
      let from = explains kept.channels y m (Signals c other) (occurs ∙ ap Some at) in
      no-get_there kept p x n e there happens q y m on apart senders receivers watchers writers c port packet from.signal is

  signal-get_apart : (k c : ℕ) (packet other : Tree) → e ≡ Signals c packet → f ≡ Gets k c other → ⊥
  signal-get_apart k c packet other is at =
      let from = explains kept.channels y m (Gets k c other) (occurs ∙ ap Some at) in
      no-signal kept p x n e there happens q y m on apart senders receivers watchers writers k c packet from.input is

  signal-apart : (c : ℕ) (packet other : Tree) → e ≡ Signals c packet → f ≡ Signals c other → ⊥
  signal-apart c packet other is at =
      let from = explains kept.channels y m (Signals c other) (occurs ∙ ap Some at) in
      no-signal_there kept p x n e there happens q y m on apart senders receivers watchers writers c packet from.signal is

  -- at one connection they may come in either order
  commute-at : CommuteAt kept.channels p e q f
  commute-at c channel at on_c here = by (touching e c at) (touching f c on_c)
    where
      both : (g h : Event) → e ≡ g → f ≡ h → channel_by q (channel_by p channel g) h ≡ channel_by p (channel_by q channel h) g → channel_by q (channel_by p channel e) f ≡ channel_by p (channel_by q channel f) e
      both g h is is' same = (λ i. channel_by q (channel_by p channel (is i)) (is' i)) ∙ same ∙ sym (λ i. channel_by p (channel_by q channel (is' i)) (is i))

      by : Touching e c → Touching f c → channel_by q (channel_by p channel e) f ≡ channel_by p (channel_by q channel f) e
      by (gets port packet is) (gets k other is') = absurd (get-apart port k c packet other is is')
      by (gets port packet is) (sends k other is') =
          let from = explains kept.channels x n (Gets port c packet) (happens ∙ ap Some is) in
          let same : channel ≡ from.channel = one-of channel from.channel (sym here ∙ from.there) in
          both (Gets port c packet) (Sends k c other) is is' (λ i. record channel { packets = drop-send packet other from.rest channel.packets (ap (λ (ch : Channel). ch.packets) same ∙ from.packets) i })
      by (gets port packet is) (closes output is') = both (Gets port c packet) (Closes output c) is is' refl
      by (gets port packet is) (signals other is') = absurd (get-signal_apart port c packet other is is')
      by (sends port packet is) (gets k other is') =
          let from = explains kept.channels y m (Gets k c other) (occurs ∙ ap Some is') in
          let same : channel ≡ from.channel = one-of channel from.channel (sym here ∙ from.there) in
          both (Sends port c packet) (Gets k c other) is is' (λ i. record channel { packets = sym (drop-send other packet from.rest channel.packets (ap (λ (ch : Channel). ch.packets) same ∙ from.packets)) i })
      by (sends port packet is) (sends k other is') = absurd (send-apart port k c packet other is is')
      by (sends port packet is) (closes output is') = both (Sends port c packet) (Closes output c) is is' refl
      by (sends port packet is) (signals other is') =
          let from = explains kept.channels y m (Signals c other) (occurs ∙ ap Some is') in
          let same : channel ≡ from.channel = one-of channel from.channel (sym here ∙ from.there) in
          both (Sends port c packet) (Signals c other) is is' (λ i. record channel { packets = sym (drop-send other packet from.rest channel.packets (ap (λ (ch : Channel). ch.packets) same ∙ from.packets)) i })
      by (signals packet is) (gets k other is') = absurd (signal-get_apart k c packet other is is')
      by (signals packet is) (sends k other is') =
          let from = explains kept.channels x n (Signals c packet) (happens ∙ ap Some is) in
          let same : channel ≡ from.channel = one-of channel from.channel (sym here ∙ from.there) in
          both (Signals c packet) (Sends k c other) is is' (λ i. record channel { packets = drop-send packet other from.rest channel.packets (ap (λ (ch : Channel). ch.packets) same ∙ from.packets) i })
      by (signals packet is) (closes output is') = both (Signals c packet) (Closes output c) is is' refl
      by (signals packet is) (signals other is') = absurd (signal-apart c packet other is is')
      by (closes output is) (gets k other is') = both (Closes output c) (Gets k c other) is is' refl
      by (closes output is) (sends k other is') = both (Closes output c) (Sends k c other) is is' refl
      by (closes output is) (signals other is') = both (Closes output c) (Signals c other) is is' refl
      by (closes output is) (closes other is') =
          both (Closes output c) (Closes other c) is is' (λ i. record channel { open_senders = without-commute (record { process = p; output = output }) (record { process = q; output = other }) channel.open_senders apart i })

-- both moves, in either order
moved-commute : {K : Type 0} (s : State K) (p : ℕ) (x : Process K) (e : Event) (x' : Process K) (ds : List ℕ) (q : ℕ) (y : Process K) (f : Event) (y' : Process K) (es : List ℕ) → p ≢ q → CommuteAt s.kept.channels p e q f → SendApart e f
    → moved (moved s p x e x' ds) q y f y' es ≡ moved (moved s q y f y' es) p x e x' ds
moved-commute s p x e x' ds q y f y' es apart commute sends_apart = λ i. record {
  kept = record { processes = set-commute s.kept.processes p q x' y' apart i; channels = channels-commute s.kept.channels p e q f commute i };
  past = record {
    dropped = λ r. drops-commute s.past.dropped p e ds q f es apart r i;
    told = λ r. grow-commute (nat_eq r p) (nat_eq r q) (s.past.told r) (heard x e) (heard y f) (not-twice r p q apart) i;
    signals = λ r. signals-commute s.past.signals p e q f apart r i;
    put = puts-commute s.past.put p e q f sends_apart i;
  };
}

is-exact : {K : Type 0} (kept : Kept K) (x : Process K) (e : Event) → ((port level : ℕ) → e ≡ Learns port level → ⊥) → IsExact kept x e
is-exact kept x (Learns port level) none = absurd (none port level refl)
is-exact kept x e none = tt

module _ {K : Type 0} (rules : Rules K) (lawful : Lawful rules)
    (one : AtMostOneOutcome rules) (may_ask : K → Bool) (only : OnlyTheseAsk rules may_ask) where
  abbrev Good : State K → Type 0
  Good = Settled rules lawful may_ask only

  good-whole : (s : State K) (p : ℕ) (e : Event) (s' : State K) → WholeTurn rules s p e s' → Good s → Good s'
  good-whole = settled-whole rules lawful may_ask only

  -- turns of two processes, in either order
  diamond : (s : State K) (p : ℕ) (e : Event) (a : State K) (q : ℕ) (f : Event) (b : State K) → Good s → p ≢ q → WholeTurn rules s p e a → WholeTurn rules s q f b
      → (d : State K) × WholeTurn rules a q f d × WholeTurn rules b p e d
  diamond s p e a q f b good apart first second =
      let m = whole-move rules s p e a first in
      let k = whole-move rules s q f b second in
      let senders = good.fit.valid.senders in
      let receivers = good.fit.valid.one_receiver in
      let watchers = good.fit.valid.signals_apart in
      let back : q ≢ p = λ h. apart (sym h) in
      let quiet_e = no-level rules lawful may_ask only s p m.before m.level e good m.there m.happens in
      let quiet_f = no-level rules lawful may_ask only s q k.before k.level f good k.there k.happens in
      let commute = commute-at s.kept p m.before m.level e m.there m.happens q k.before k.level f k.there k.happens apart senders receivers watchers good.writers in
      let send_apart = send-apart s.kept p m.before m.level e m.there m.happens q k.before k.level f k.there k.happens apart senders receivers watchers good.writers in
      let one_way = moved s p m.before e m.after m.dropped in
      let other_way = moved s q k.before f k.after k.dropped in
      let d : State K = moved one_way q k.before f k.after k.dropped in
      let then_q : Move rules one_way q f d = record {
        before = k.before;
        level = k.level;
        there = slice_get-set_other s.kept.processes p q m.after back ∙ k.there;
        happens = turn-stays s.kept p m.before m.level e m.there m.happens q k.before k.level k.there apart senders receivers watchers good.writers f quiet_f k.happens;
        after = k.after;
        dropped = k.dropped;
        comes = k.comes;
        is = refl;
      } in
      let then_p : Move rules other_way p e d = record {
        before = m.before;
        level = m.level;
        there = slice_get-set_other s.kept.processes q p k.after apart ∙ m.there;
        happens = turn-stays s.kept q k.before k.level f k.there k.happens p m.before m.level m.there back senders receivers watchers good.writers e quiet_e m.happens;
        after = m.after;
        dropped = m.dropped;
        comes = m.comes;
        is = moved-commute s p m.before e m.after m.dropped q k.before f k.after k.dropped apart commute send_apart;
      } in
      (d, move-whole rules a q f d (subst (λ (t : State K). Move rules t q f d) (sym m.is) then_q), move-whole rules b p e d (subst (λ (t : State K). Move rules t p e d) (sym k.is) then_p))

  -- two turns of one process are one
  same-whole : (s : State K) (p : ℕ) (e f : Event) (a b : State K) → Good s → WholeTurn rules s p e a → WholeTurn rules s p f b → a ≡ b
  same-whole s p e f a b good first second = (same-exact rules one s p e f a b (exact e a first) (exact f b second)).1
    where
      exact : (g : Event) (t : State K) → WholeTurn rules s p g t → ExactTurn rules s p g t
      exact g t whole =
          let turn = whole.1 in
          record {
            mid = whole.0;
            turn = turn;
            exact = is-exact s.kept turn.kept.before g (no-level rules lawful may_ask only s p turn.kept.before turn.kept.level g good turn.kept.there turn.kept.happens);
            settles = whole.2;
          }

  -- a quiet state has no turn
  no-turn : (s : State K) (p : ℕ) (e : Event) (a : State K) → IsStill s → WholeTurn rules s p e a → ⊥
  no-turn s p e a quiet whole =
      let turn = whole.1.kept in
      (let h : Some e ≡ None = sym turn.happens ∙ quiet p turn.before turn.level turn.there in cc)

  -- A schedule that goes on from the state after a turn: where another went, with one turn of that process fewer.
  record GoesOn (p : ℕ) (a : State K) (turns : List ℕ) (t : State K) : Type 0 where
    turns_left : List ℕ
    seen_left : List ℕ
    leads : LeadsBy rules a turns_left seen_left t
    counts : (r : ℕ) → times r turns ≡ times r (p ∷ []) + times r turns_left

  -- whatever turn comes first, a quiet schedule comes to its end after it
  goes-on : (turns seen : List ℕ) (s : State K) (p : ℕ) (e : Event) (a t : State K) → Good s → WholeTurn rules s p e a → LeadsBy rules s turns seen t → IsStill t → GoesOn p a turns t
  goes-on [] seen s p e a t good first leads quiet = absurd (no-turn s p e a (subst IsStill leads.1 quiet) first)
  goes-on (q ∷ turns) seen s p e a t good first leads quiet = elim (same_or_not p q) as (λ _. GoesOn p a (q ∷ turns) t) [
    | inl same ↦ (let here : WholeTurn rules s p leads.0 leads.1 = subst (λ (k : ℕ). WholeTurn rules s k leads.0 leads.1) (sym same) leads.3 in
        let state : leads.1 ≡ a = same-whole s p leads.0 e leads.1 a good here first in
        record {
          turns_left = turns;
          seen_left = leads.2;
          leads = subst (λ (m : State K). LeadsBy rules m turns leads.2 t) state leads.5;
          counts = λ r. (let h : times r (q ∷ turns) ≡ times r (p ∷ turns) = ap (λ (k : ℕ). times r (k ∷ turns)) (sym same) in omega (arith, h));
        })
    | inr other ↦ (let d = diamond s p e a q leads.0 leads.1 good other first leads.3 in
        let more = goes-on turns leads.2 leads.1 p e d.0 t (good-whole s q leads.0 leads.1 leads.3 good) d.2 leads.5 quiet in
        record {
          turns_left = q ∷ more.turns_left;
          seen_left = seen_by leads.0 ++ more.seen_left;
          leads = (leads.0, d.0, more.seen_left, d.1, refl, more.leads);
          counts = λ r. (let h = more.counts r in omega (arith, h));
        })
  ]

  -- two quiet schedules from one state end in one state, with as many turns of each process
  same-end : (turns seen turns' seen' : List ℕ) (s a b : State K) → Good s → LeadsBy rules s turns seen a → IsStill a → LeadsBy rules s turns' seen' b → IsStill b → ((r : ℕ) → times r turns ≡ times r turns') × (a ≡ b)
  same-end [] seen [] seen' s a b good first still second still' = ((λ r. refl), first.1 ∙ sym second.1)
  same-end [] seen (q ∷ turns') seen' s a b good first still second still' = absurd (no-turn s q second.0 second.1 (subst IsStill first.1 still) second.3)
  same-end (p ∷ turns) seen turns' seen' s a b good first still second still' =
      let more = goes-on turns' seen' s p first.0 first.1 b good first.3 second still' in
      let rest = same-end turns first.2 more.turns_left more.seen_left first.1 a b (good-whole s p first.0 first.1 first.3 good) first.5 still more.leads still' in
      ((λ r. (let h = more.counts r in let k = rest.0 r in omega (arith, h, k))), rest.1)

  -- all quiet schedules from a start of a plan without merges end in one state
  pub one-end : (plan : Plan) (components : List K) → StartsWell rules plan components → EachHasOneSender plan → NoneMayAsk may_ask components
      → (journal other : Journal) (s t : State K) → Leads rules (start_of plan components) journal s → IsStill s → Leads rules (start_of plan components) other t → IsStill t → SameEnd journal s other t
  one-end plan components well unmerged none journal other s t leads quiet leads' quiet' =
      let good = settled-start rules lawful may_ask only plan components well unmerged none in
      let same = same-end journal.turns journal.seen other.turns other.seen (start_of plan components) s t good leads quiet leads' quiet' in
      record { turns = same.0; state = same.1 }
