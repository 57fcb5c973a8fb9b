-- Whoever sends or closes is an open sender; and what a turn leaves of the connections.
use Rattle.std.proofs.Common.{◌≡◌, ◌≢◌, ℕ, ◌<◌, ◌≤◌, List, length, sym, refl, ap, ◌∙◌, subst, arith, Some, None, Option, slice_get}
use Rattle.flow_component.specs.Laws.{Rules}
use Rattle.flow_model.specs.States.{Channel, State}
use Rattle.flow_model.specs.Events.{Event, event_from}
use Rattle.flow_model.specs.declared.Stage.{Stage}
use Rattle.flow_model.specs.Stages.{HasToClose}
use Rattle.flow_model.specs.Turns.{Change, Taken, Added, Closed, ChangeAt, change_of, change_one}
use Rattle.flow_model.specs.Stands.{ChannelShown, all_shown_after, shown_changed}
use Rattle.flow_model.proofs.Exhausting.{sender-open}
use Rattle.flow_model.proofs.Inverse.{ExplainsChange, explains-change}
use Rattle.flow_model.proofs.Lists.{slice_get-set_same, slice_get-set_other, change_at-some}
use Rattle.flow_model.proofs.Senders.{length-without_sender}
use Rattle.flow_model.proofs.Stages.{same-found}
use Rattle.flow_machine.specs.Values.{BodyValue, NetValue}
use Rattle.flow_machine.specs.Nets.{looks_of}
use Rattle.flow_machine.specs.FitNets.{FitNet}
use Rattle.flow_machine.proofs.Standings.{process-in, channel-in, happens-in}

-- A change that its sender makes.
abbrev pub IsSenders : Change → Type 0
IsSenders Taken = ⊥
IsSenders (Added packet) = Unit {0}
IsSenders (Closed output) = Unit {0}

-- The process whose turn this is is an open sender of the connection that it sends to, or closes.
pub opener : {K : Type 0} (rules : Rules K) (now : NetValue K) (p n : ℕ) (b : BodyValue K) (e : Event) (at : ChangeAt) (k : ChannelShown) → FitNet rules now → slice_get now.bodies p ≡ Some b → event_from (looks_of now.channels) b.process n ≡ Some e
    → change_of e ≡ Some at → IsSenders at.change → slice_get now.channels at.connection ≡ Some k → 0 < k.open_senders
opener {K} rules now p n b e at k fit there happens changes senders at_c = by at.change refl senders
    (explains-change s.kept.channels b.process n e (sym (happens-in now s b.process n fit.stands) ∙ happens) at changes)
  where
    s : State K
    s = fit.state

    found : (channel : Channel) × (slice_get s.kept.channels at.connection ≡ Some channel) × (k.open_senders ≡ length channel.open_senders)
    found = let r = channel-in now s at.connection k fit.stands at_c in (r.0, r.1, ap (λ (y : ChannelShown). y.open_senders) r.2)

    process : slice_get s.kept.processes p ≡ Some b.process
    process = process-in now s p b fit.stands there

    by : (change : Change) → at.change ≡ change → IsSenders change → ExplainsChange s.kept.channels b.process at.connection change → 0 < k.open_senders
    by Taken is none why = absurd none
    by (Added packet) is some why =
        let o = sender-open s.kept p b.process n process fit.fit.valid.senders why.0 at.connection packet why.1 in
        let same : o.0 ≡ found.0 = same-found (sym o.1 ∙ found.1) in
        omega (arith, o.2, found.2, ap (λ (c : Channel). length c.open_senders) same)
    by (Closed output) is some why =
        let has : HasToClose b.process.stage why.i = subst (λ (st : Stage). HasToClose st why.i) (sym why.stage) (let h : why.i ≤ why.i = omega arith in h) in
        let o = fit.fit.valid.senders p why.i b.process (record { output = output; connection = at.connection }) process why.outlet has in
        let same : o.0 ≡ found.0 = same-found (sym o.1 ∙ found.1) in
        omega (arith, length-without_sender (record { process = p; output = output }) o.0.open_senders o.2, found.2, ap (λ (c : Channel). length c.open_senders) same)

-- A turn that changes no connection leaves them as they are.
pub unchanged : (e : Event) (cs : List ChannelShown) → change_of e ≡ None → all_shown_after e cs ≡ cs
unchanged e cs is = ap (λ (change : Option ChangeAt). change_one shown_changed change cs) is

-- One that changes a connection changes it so, and leaves the others.
pub changed-here : (e : Event) (cs : List ChannelShown) (at : ChangeAt) (k : ChannelShown) → change_of e ≡ Some at → slice_get cs at.connection ≡ Some k → slice_get (all_shown_after e cs) at.connection ≡ Some (shown_changed at.change k)
changed-here e cs at k is there = ap (λ (change : Option ChangeAt). slice_get (change_one shown_changed change cs) at.connection) is ∙ ap (λ xs. slice_get xs at.connection) (change_at-some cs at.connection (shown_changed at.change) k there) ∙ slice_get-set_same cs at.connection k (shown_changed at.change k) there

pub changed-else : (e : Event) (cs : List ChannelShown) (at : ChangeAt) (k : ChannelShown) (d : ℕ) → change_of e ≡ Some at → slice_get cs at.connection ≡ Some k → d ≢ at.connection → slice_get (all_shown_after e cs) d ≡ slice_get cs d
changed-else e cs at k d is there other = ap (λ (change : Option ChangeAt). slice_get (change_one shown_changed change cs) d) is ∙ ap (λ xs. slice_get xs d) (change_at-some cs at.connection (shown_changed at.change) k there) ∙ slice_get-set_other cs at.connection d (shown_changed at.change k) other
