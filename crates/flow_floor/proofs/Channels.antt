-- What a turn does to the connections.
use Rattle.std.proofs.Common.{◌≡◌, ℕ, List, length, Some, ap, sym, ◌∙◌, slice_get, inl, inr}
use Rattle.flow_component.specs.Laws.{Rules}
use Rattle.flow_model.specs.States.{Input, Channel}
use Rattle.flow_model.specs.Events.{Event, event_from}
use Rattle.flow_model.specs.Stands.{ChannelShown, all_shown_after}
use Rattle.flow_model.proofs.Moves.{Moves, one-taker, channel-moves as moves}
use Rattle.flow_model.proofs.Stages.{same-found}
use Rattle.flow_machine.specs.Values.{BodyValue, NetValue}
use Rattle.flow_machine.specs.Nets.{looks_of}
use Rattle.flow_machine.specs.FitNets.{FitNet}
use Rattle.flow_machine.proofs.Standings.{process-in, channel-in, happens-in}
use Rattle.flow_floor.specs.Wired.{IsInput}

-- The inputs of a body are those of another, the automatic one too.
abbrev pub SameInputs : {K : Type 0} → BodyValue K → BodyValue K → Type 0
SameInputs b d = (d.process.inputs ≡ b.process.inputs) × (d.process.signal ≡ b.process.signal)

-- Such bodies have the same connections at inputs.
pub input-same : {K : Type 0} (c : ℕ) (b d : BodyValue K) → SameInputs b d → IsInput d c → IsInput b c
input-same c b d same (inl i) = inl (i.0, ap (λ (xs : List Input). slice_get xs i.0) (sym same.0) ∙ i.1)
input-same c b d same (inr s) = inr (sym same.1 ∙ s)

module _ {K : Type 0} (rules : Rules K) where
  -- what a turn of a process does to a connection
  pub channel-moves : (now : NetValue K) (p n : ℕ) (b : BodyValue K) (e : Event) (c : ℕ) (k k' : ChannelShown) → FitNet rules now → slice_get now.bodies p ≡ Some b
      → event_from (looks_of now.channels) b.process n ≡ Some e → slice_get now.channels c ≡ Some k → slice_get (all_shown_after e now.channels) c ≡ Some k' → Moves b.process c k k'
  channel-moves now p n b e c k k' fit there happens at at' =
      let s = fit.state in
      let r = channel-in now s c k fit.stands at in
      moves s.kept fit.fit.valid.senders p n b.process e (process-in now s p b fit.stands there) (sym (happens-in now s b.process n fit.stands) ∙ happens) now.channels c k k'
      (λ channel is. ap (λ (y : ChannelShown). y.open_senders) r.2 ∙ ap (λ (y : Channel). length y.open_senders) (same-found (sym r.1 ∙ is))) at at'

  -- two processes that receive from one connection are one
  pub one-receiver : (now : NetValue K) (p q c : ℕ) (b d : BodyValue K) → FitNet rules now → slice_get now.bodies p ≡ Some b → slice_get now.bodies q ≡ Some d → IsInput b c → IsInput d c → p ≡ q
  one-receiver now p q c b d fit there there' input input' =
      one-taker fit.state.kept.processes fit.fit.valid.one_receiver fit.fit.valid.signals_apart p q c b.process d.process (process-in now fit.state p b fit.stands there) (process-in now fit.state q d fit.stands there') input input'
