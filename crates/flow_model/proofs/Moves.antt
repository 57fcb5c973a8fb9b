-- What the turn of one process leaves of what another sees of a connection.
use Rattle.std.proofs.Common.{◌≡◌, ℕ, ◌+◌, ◌-◌, ◌<◌, ◌≤◌, List, [], ◌∷◌, ◌++◌, length, Some, refl, ap, sym, subst, ◌∙◌, arith, slice_get, length-append, length-drop, ◌⊎◌, inl, inr}
use Rattle.flow_model.specs.States.{From, Process, Channel, Kept}
use Rattle.flow_model.specs.Events.{Event, event_of}
use Rattle.flow_model.specs.Turns.{Change, Taken, Added, Closed, change_of}
use Rattle.flow_model.specs.Stands.{ChannelShown, shown_changed, all_shown_after}
use Rattle.flow_model.specs.Order.{input_of, signal_of, connection_of}
use Rattle.flow_model.specs.Valid.{OneReceiver, SignalsApart, SendersOpen}
use Rattle.flow_model.proofs.Changes.{get-one}
use Rattle.flow_model.proofs.Inverse.{Takes, ExplainsChange, explains-change}
use Rattle.flow_model.proofs.Stages.{same-found}
use Rattle.flow_model.proofs.Exhausting.{sender-open}

-- A change keeps the capacity.
pub capacity-shown : (change : Change) (k : ChannelShown) → (shown_changed change k).capacity ≡ k.capacity
capacity-shown (Added packet) k = refl
capacity-shown change k = refl

-- Two processes that receive from one connection are one.
pub one-taker : {K : Type 0} (processes : List (Process K)) → OneReceiver processes → SignalsApart processes → (p q c : ℕ) (x y : Process K) → slice_get processes p ≡ Some x → slice_get processes q ≡ Some y → Takes x c → Takes y c → p ≡ q
one-taker {K} processes one apart p q c x y first second takes takes' = by takes takes'
  where
    stream : (r : ℕ) (z : Process K) (i : ℕ) → slice_get z.inputs i ≡ Some (From c) → slice_get processes r ≡ Some z → input_of i (slice_get processes r) ≡ Some c
    stream r z i at is = ap (input_of i) is ∙ ap connection_of at

    automatic : (r : ℕ) (z : Process K) → z.signal ≡ Some c → slice_get processes r ≡ Some z → signal_of (slice_get processes r) ≡ Some c
    automatic r z at is = ap signal_of is ∙ at

    by : Takes x c → Takes y c → p ≡ q
    by (inl i) (inl j) = (one p q i.0 j.0 c (stream p x i.0 i.1 first) (stream q y j.0 j.1 second)).0
    by (inl i) (inr z) = absurd (apart.apart q p i.0 c (automatic q y z second) (stream p x i.0 i.1 first))
    by (inr z) (inl j) = absurd (apart.apart p q j.0 c (automatic p x z first) (stream q y j.0 j.1 second))
    by (inr v) (inr z) = apart.one p q c (automatic p x v first) (automatic q y z second)

-- What a turn of a process does to a connection: it has no fewer packets, unless the process receives there; where it is over, it stays over; and no
-- sender opens.
pub record Moves {K : Type 0} (x : Process K) (c : ℕ) (k k' : ChannelShown) : Type 0 where
  pub level : (length k.packets ≤ length k'.packets) ⊎ Takes x c
  pub over : (length k.packets ≡ 0) × (k.open_senders ≡ 0) → (length k'.packets ≡ 0) × (k'.open_senders ≡ 0)
  pub senders : k'.open_senders ≤ k.open_senders

-- So it does, where what is shown counts the open senders.
pub channel-moves : {K : Type 0} (kept : Kept K) → SendersOpen kept → (p n : ℕ) (x : Process K) (e : Event) → slice_get kept.processes p ≡ Some x → event_of kept.channels x n ≡ Some e → (channels : List ChannelShown) (c : ℕ) (k k' : ChannelShown)
    → ((channel : Channel) → slice_get kept.channels c ≡ Some channel → k.open_senders ≡ length channel.open_senders) → slice_get channels c ≡ Some k → slice_get (all_shown_after e channels) c ≡ Some k' → Moves x c k k'
channel-moves {K} kept senders p n x e there happens channels c k k' counts at at' =
    let was = get-one shown_changed channels (change_of e) c k' at' in
    let same : was.0 ≡ k = same-found (sym was.1 ∙ at) in
    elim was.2 [
      | inl still ↦ subst (Moves x c k) (sym (still ∙ same))
          (record { level = inl (let h : length k.packets ≤ length k.packets = omega arith in h); over = λ o. o; senders = (let h : k.open_senders ≤ k.open_senders = omega arith in h) })
      | inr change ↦ subst (Moves x c k) (sym (change.3 ∙ ap (shown_changed change.0.change) same))
          (by change.0.change (subst (λ (d : ℕ). ExplainsChange kept.channels x d change.0.change) change.2 (explains-change kept.channels x n e happens change.0 change.1)))
    ]
  where
    by : (change : Change) → ExplainsChange kept.channels x c change → Moves x c k (shown_changed change k)
    by Taken why = record { level = inr why.from; over = λ o. (omega (arith, o.0, length-drop 1 k.packets), o.1); senders = (let h : k.open_senders ≤ k.open_senders = omega arith in h) }
    by (Added packet) why =
        let open_one = sender-open kept p x n there senders why.0 c packet why.1 in
        let some : 0 < k.open_senders = omega (arith, counts open_one.0 open_one.1, open_one.2) in
        record {
          level = inl (let h : length k.packets ≤ length (k.packets ++ packet ∷ []) = omega (arith, length-append k.packets (packet ∷ [])) in h);
          over = λ o. absurd (omega (arith, o.1, some));
          senders = (let h : k.open_senders ≤ k.open_senders = omega arith in h);
        }
    by (Closed output) why = record {
      level = inl (let h : length k.packets ≤ length k.packets = omega arith in h);
      over = λ o. (o.0, omega (arith, o.1));
      senders = (let h : k.open_senders - 1 ≤ k.open_senders = omega arith in h);
    }
