-- Along every schedule there is a connection for each of the plan's, and its open senders stand in the plan's order.
use Rattle.std.proofs.Common.{◌≡◌, ◌⊎◌, ℕ, Bool, true, false, List, [], ◌∷◌, map, length, Some, refl, sym, ap, ◌∙◌, subst, cond, inl, inr, slice_get}
use Rattle.std.proofs.lemmas.List.{length-map}
use Rattle.flow_component.specs.Laws.{Rules}
use Rattle.flow_plan.specs.Network.{Network as Plan}
use Rattle.flow_plan.specs.declared.plan.Sender.{Sender}
use Rattle.flow_plan.specs.declared.plan.Connection.{Connection as PlanConnection}
use Rattle.flow_model.specs.States.{is_sender, without_sender, Channel, State}
use Rattle.flow_model.specs.Events.{Event}
use Rattle.flow_model.specs.Turns.{channel_after, channels_after, Closed, Change, change_of}
use Rattle.flow_model.specs.Schedules.{Settles, LeadsBy, Journal, Leads}
use Rattle.flow_model.specs.Plans.{channel_at_start, start_of}
use Rattle.flow_model.proofs.Start.{start-channel}
use Rattle.flow_model.proofs.Changes.{length-one, get-one}

-- The first are among the second, in their order.
abbrev pub AreAmong : List Sender → List Sender → Type 0
AreAmong some [] = some ≡ []
AreAmong some (s ∷ all) = AreAmong some all ⊎ ((rest : List Sender) × (some ≡ s ∷ rest) × AreAmong rest all)

all-among : (all : List Sender) → AreAmong all all
all-among [] = refl
all-among (s ∷ all) = inr (all, refl, all-among all)

among-among : (few some all : List Sender) → AreAmong few some → AreAmong some all → AreAmong few all
among-among few some [] first second = subst (AreAmong few) second first
among-among few some (s ∷ all) first (inl later) = inl (among-among few some all first later)
among-among few some (s ∷ all) first (inr here) = by (subst (AreAmong few) here.1 first) (λ fewer among. among-among fewer here.0 all among here.2)
  where
    by : AreAmong few (s ∷ here.0) → ((fewer : List Sender) → AreAmong fewer here.0 → AreAmong fewer all) → AreAmong few (s ∷ all)
    by (inl later) on = inl (on few later)
    by (inr both) on = inr (both.0, both.1, on both.0 both.2)

without-among : (sender : Sender) (senders : List Sender) → AreAmong (without_sender sender senders) senders
without-among sender [] = refl
without-among sender (s ∷ senders) = by (is_sender sender s) (without-among sender senders)
  where
    by : (b : Bool) → AreAmong (without_sender sender senders) senders → AreAmong (cond b senders (s ∷ without_sender sender senders)) (s ∷ senders)
    by true rest = inl (all-among senders)
    by false rest = inr (without_sender sender senders, refl, rest)

-- There is a connection for each of these, with its open senders among the senders, in their order.
pub record ChannelsOf (connections : List PlanConnection) (channels : List Channel) : Type 0 where
  pub as_many : length channels ≡ length connections
  pub senders : (c : ℕ) (channel : Channel) (connection : PlanConnection) → slice_get channels c ≡ Some channel → slice_get connections c ≡ Some connection → AreAmong channel.open_senders connection.senders

of-after : (connections : List PlanConnection) (channels : List Channel) (p : ℕ) (e : Event) → ChannelsOf connections channels → ChannelsOf connections (channels_after channels p e)
of-after connections channels p e old = record { as_many = length-one (channel_after p) channels (change_of e) ∙ old.as_many; senders = senders }
  where
    fewer : (change : Change) (x : Channel) → AreAmong (channel_after p change x).open_senders x.open_senders
    fewer (Closed output) x = without-among (record { process = p; output = output }) x.open_senders
    fewer change x = all-among x.open_senders

    senders : (c : ℕ) (channel : Channel) (connection : PlanConnection) → slice_get (channels_after channels p e) c ≡ Some channel → slice_get connections c ≡ Some connection → AreAmong channel.open_senders connection.senders
    senders c channel connection is at =
        let was = get-one (channel_after p) channels (change_of e) c channel is in
        let before = old.senders c was.0 connection was.1 at in
        let are : List Sender → Type 0 = λ senders. AreAmong senders connection.senders in
        elim was.2 [
          | inl same ↦ subst are (sym (ap (λ (ch : Channel). ch.open_senders) same)) before
          | inr change ↦ subst are (sym (ap (λ (ch : Channel). ch.open_senders) change.3)) (among-among (channel_after p change.0.change was.0).open_senders was.0.open_senders connection.senders (fewer change.0.change was.0) before)
        ]

of-start : (connections : List PlanConnection) → ChannelsOf connections (map channel_at_start connections)
of-start connections = record {
  as_many = length-map connections channel_at_start;
  senders = λ c channel connection is at. (
      let start = start-channel connections c channel is in
      let h : Some start.0 ≡ Some connection = sym start.1 ∙ at in
      let same : start.0 ≡ connection = cc in
      subst (λ (ch : Channel). AreAmong ch.open_senders connection.senders) (sym start.2) (subst (λ (x : PlanConnection). AreAmong x.senders connection.senders) (sym same) (all-among connection.senders))
      );
}

module _ {K : Type 0} (rules : Rules K) (connections : List PlanConnection) where
  of-settles : (s : State K) (p : ℕ) (s' : State K) → Settles rules s p s' → ChannelsOf connections s.kept.channels → ChannelsOf connections s'.kept.channels
  of-settles s p s' (inl none) old = subst (λ (t : State K). ChannelsOf connections t.kept.channels) (sym none.1) old
  of-settles s p s' (inr work) old = subst (ChannelsOf connections) (sym work.kept.channels) old

  of-leads_by : (s : State K) (turns seen : List ℕ) (s' : State K) → LeadsBy rules s turns seen s' → ChannelsOf connections s.kept.channels → ChannelsOf connections s'.kept.channels
  of-leads_by s [] seen s' leads old = subst (λ (t : State K). ChannelsOf connections t.kept.channels) (sym leads.1) old
  of-leads_by s (p ∷ turns) seen s' leads old =
      let whole = leads.3 in
      let turned = subst (ChannelsOf connections) (sym whole.1.kept.channels) (of-after connections s.kept.channels p leads.0 old) in
      of-leads_by leads.1 turns leads.2 s' leads.5 (of-settles whole.0 p leads.1 whole.2 turned)

-- so it is after every schedule from a start
pub channels-of : {K : Type 0} (rules : Rules K) (plan : Plan) (components : List K) (journal : Journal) (s : State K) → Leads rules (start_of plan components) journal s → ChannelsOf plan.connections s.kept.channels
channels-of rules plan components journal s leads = of-leads_by rules plan.connections (start_of plan components) journal.turns journal.seen s leads (of-start plan.connections)
