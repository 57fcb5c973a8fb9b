-- What is known of a process that is at a case, and what its turn comes to there.
use Rattle.std.proofs.Common.{◌≡◌, ℕ, ◌<◌, ◌≤◌, List, length, Some, None, refl, ap, subst, ◌∙◌, slice_get, slice_set, get_or}
use Rattle.std.proofs.lemmas.Option.{slice_get-get_or}
use Rattle.flow_component.specs.declared.Port.{Port}
use Rattle.flow_component.specs.Laws.{Rules}
use Rattle.flow_model.specs.declared.Stage.{Stage}
use Rattle.flow_model.specs.declared.Block.TheVariants as blocks
use Rattle.flow_model.specs.States.{Outlet}
use Rattle.flow_model.specs.Events.{Sleeps, Closes, stage_event, idle_event, received, sent, told_level}
use Rattle.flow_model.specs.Verdicts.{exact_level, waits_for}
use Rattle.flow_model.specs.Stands.{ChannelShown, look_shown, shown_after}
use Rattle.flow_model.specs.Stages.{IsThoughtStage}
use Rattle.flow_machine.specs.Values.{BodyValue, NetValue, net_of}
use Rattle.flow_machine.specs.Thoughts.{IsSet, IsSetAt}
use Rattle.flow_machine.specs.Answers.{CaseIs, case_of}
use Rattle.flow_machine.specs.Effects.{TakesTurn}
use Rattle.flow_machine.specs.Nets.{looks_of, level_of, packet_wished, PairTurns, WakeTurns, TurnsNet}
use Rattle.flow_machine.specs.NetSteps.{IsSetIn}
use Rattle.flow_machine.specs.FitNets.{FitNet}
use Rattle.flow_machine.specs.declared.answers.Case.{Case}
use Rattle.flow_machine.specs.declared.answers.Case.TheVariants as cases
use Rattle.flow_machine.specs.declared.answers.Effect.TheVariants as effects
use Rattle.flow_machine.specs.declared.answers.Turn.{Turn as Answer}
use Rattle.flow_machine.specs.declared.answers.Turn.TheVariants as turns
use Rattle.flow_machine.proofs.Pairs.{body-turn, learned}
use Rattle.flow_machine.proofs.NetTurns.{case-is, if_some, set-thought, pair-net, wake-net, blocks-by, receives, received-on, waits-receive, sends, sent-on, waits-send, learns, told-on, learned-some, exact, level-there, set-same, text-turn, close-turn, close-on, no-close}

-- Process p of the net has this body, which is whole, and is at this case.
pub record AtCase {K : Type 0} (net : NetValue K) (p : ℕ) (case : Case) (b : BodyValue K) : Type 0 where
  pub there : slice_get net.bodies p ≡ Some b
  pub whole : b.leaving ≡ None
  pub is : CaseIs b.process case

-- All that is to be known of a process that is at a case.
pub at-case : {K : Type 0} (rules : Rules K) (net : NetValue K) (p : ℕ) (case : Case) (b : BodyValue K) → FitNet rules net → slice_get net.bodies p ≡ Some b → case_of b.process ≡ Some case → AtCase net p case b
at-case rules net p case b fit there is = record { there = there; whole = fit.whole p b there; is = case-is b.process case is }

-- The same of a body that was looked up.
pub at-place : {K : Type 0} (rules : Rules K) (bodies : List (BodyValue K)) (channels : List ChannelShown) (p : ℕ) (case : Case) (d : BodyValue K) → FitNet rules (net_of bodies channels) → p < length bodies
    → case_of (get_or bodies p d).process ≡ Some case → AtCase (net_of bodies channels) p case (get_or bodies p d)
at-place rules bodies channels p case d fit within is = at-case rules (net_of bodies channels) p case (get_or bodies p d) fit (slice_get-get_or bodies p d within) is

-- A process that is set owes no work, and has the room of its turn.
pub thought-at : {K : Type 0} (net : NetValue K) (p : ℕ) (b : BodyValue K) → slice_get net.bodies p ≡ Some b → IsSetIn net p → IsThoughtStage b.process.stage
thought-at {K} net p b there set = set-thought b b.process.stage (if_some (slice_get net.bodies p) (λ (x : BodyValue K). IsSet x) b there set)

-- A process that is set has the room of its stage.
pub room-at : {K : Type 0} (net : NetValue K) (p : ℕ) (b : BodyValue K) (stage : Stage) → slice_get net.bodies p ≡ Some b → IsSetIn net p → b.process.stage ≡ stage → IsSetAt b stage
room-at {K} net p b stage there set at = subst (IsSetAt b) at (if_some (slice_get net.bodies p) (λ (x : BodyValue K). IsSet x) b there set)

module _ {K : Type 0} (bodies : List (BodyValue K)) (channels : List ChannelShown) (p stamp : ℕ) (b b' : BodyValue K) where
  -- A receive from a connection.
  pub received-net : (n c : ℕ) (port : Port) (ch ch' : ChannelShown) (answer : Answer) → AtCase (net_of bodies channels) p (cases.Receive c port) b → slice_get channels c ≡ Some ch
      → PairTurns (received port.0 c ch.packets ch.open_senders) (blocks.Empty c port) stamp b ch answer b' ch' → TurnsNet (net_of bodies channels) p n stamp answer (net_of (slice_set bodies p b') (slice_set channels c ch'))
  received-net n c port ch ch' answer at there turns =
      pair-net bodies channels p c n stamp b b' ch ch' (received port.0 c ch.packets ch.open_senders) (blocks.Empty c port) answer at.there there
      (receives channels b.process n c port ch at.is.0 at.is.1 there) (λ e here. received-on port.0 c ch.open_senders ch.packets e here)
      (λ none. blocks-by (looks_of channels) b.process (blocks.Empty c port) (receives channels b.process (exact_level (looks_of channels) b.process) c port ch at.is.0 at.is.1 there ∙ none) (waits-receive b.process port c at.is.0 at.is.1))
      turns

  -- A send.
  pub sent-net : (n c : ℕ) (port : Port) (ch ch' : ChannelShown) (answer : Answer) → AtCase (net_of bodies channels) p (cases.Send c port) b → slice_get channels c ≡ Some ch
      → PairTurns (sent port.0 c (packet_wished b.process) (Some (look_shown ch))) (blocks.Full c port) stamp b ch answer b' ch' → TurnsNet (net_of bodies channels) p n stamp answer (net_of (slice_set bodies p b') (slice_set channels c ch'))
  sent-net n c port ch ch' answer at there turns =
      pair-net bodies channels p c n stamp b b' ch ch' (sent port.0 c (packet_wished b.process) (Some (look_shown ch))) (blocks.Full c port) answer at.there there
      (sends channels b.process n c port at.is.0 ch at.is.1 at.is.2 there) (λ e here. sent-on port.0 c (packet_wished b.process) ch e here)
      (λ none. blocks-by (looks_of channels) b.process (blocks.Full c port) (sends channels b.process (exact_level (looks_of channels) b.process) c port at.is.0 ch at.is.1 at.is.2 there ∙ none) (waits-send b.process port at.is.0 c at.is.1 at.is.2))
      turns

  -- A question for a level, which is told n.
  pub learned-net : (n c : ℕ) (port : Port) (ch : ChannelShown) → AtCase (net_of bodies channels) p (cases.Level c port) b → slice_get channels c ≡ Some ch → length ch.packets ≤ n → n ≤ ch.capacity → TakesTurn b (effects.Level n) stamp b'
      → TurnsNet (net_of bodies channels) p n stamp (turns.Made stamp) (net_of (slice_set bodies p b') channels)
  learned-net n c port ch at there least most takes =
      subst (λ (cs : List ChannelShown). TurnsNet (net_of bodies channels) p n stamp (turns.Made stamp) (net_of (slice_set bodies p b') cs)) (set-same channels c ch there)
      (pair-net bodies channels p c n stamp b b' ch ch (told_level port.0 n (Some (look_shown ch))) blocks.Dormant (turns.Made stamp) at.there there
      (learns channels b.process n c port ch at.is.0 at.is.1 there) (λ e here. told-on c port.0 n ch e here)
      (λ none. absurd (learned-some port.0 n ch least most none))
      (learned b b' ch port n stamp blocks.Dormant at.is.0 least most takes))

  -- The level that a turn sees is the number of packets.
  pub level-is : (c : ℕ) (port : Port) (ch : ChannelShown) → AtCase (net_of bodies channels) p (cases.Level c port) b → slice_get channels c ≡ Some ch → level_of (net_of bodies channels) p ≡ length ch.packets
  level-is c port ch at there = level-there (net_of bodies channels) p b at.there ∙ exact channels b.process c port ch at.is.0 at.is.1 there

  -- An idle process starts, or goes to its end, or takes a packet from its automatic input, or is dormant.
  pub woken-net : (n : ℕ) (channels' : List ChannelShown) (answer : Answer) → AtCase (net_of bodies channels) p cases.Idle b → WakeTurns (idle_event (looks_of channels) b.process) blocks.Dormant stamp b channels answer b' channels'
      → TurnsNet (net_of bodies channels) p n stamp answer (net_of (slice_set bodies p b') channels')
  woken-net n channels' answer at turns =
      wake-net bodies channels channels' p n stamp b b' (idle_event (looks_of channels) b.process) blocks.Dormant answer at.there (ap (stage_event (looks_of channels) b.process n) at.is)
      (λ none. blocks-by (looks_of channels) b.process blocks.Dormant (ap (stage_event (looks_of channels) b.process (exact_level (looks_of channels) b.process)) at.is ∙ none) (ap (waits_for b.process) at.is))
      turns

  -- A receive on a port with an initial text.
  pub texted-net : (n : ℕ) (port : Port) → AtCase (net_of bodies channels) p (cases.Initial port) b → TakesTurn b effects.Initial stamp b' → TurnsNet (net_of bodies channels) p n stamp (turns.Made stamp) (net_of (slice_set bodies p b') channels)
  texted-net n port at takes = (refl, text-turn b b' channels bodies p n stamp port at.is.0 at.there at.is.1 at.is.2 takes)

  -- A process is deactivated.
  pub slept-net : (n : ℕ) → AtCase (net_of bodies channels) p cases.Deactivate b → TakesTurn b effects.Deactivate stamp b' → TurnsNet (net_of bodies channels) p n stamp (turns.Made stamp) (net_of (slice_set bodies p b') channels)
  slept-net n at takes =
      (refl, (Sleeps, record { before = b; after = b'; there = at.there; happens = ap (stage_event (looks_of channels) b.process n) at.is; turn = body-turn b b' effects.Deactivate stamp Sleeps takes refl refl refl; bodies = refl; channels = refl; connections = refl }))

  -- One more connected output is closed.
  pub closed-net : (n c : ℕ) (ch ch' : ChannelShown) → AtCase (net_of bodies channels) p (cases.Close c) b → slice_get channels c ≡ Some ch → ch' ≡ shown_after (Closes 0 c) ch → TakesTurn b effects.Closed stamp b'
      → TurnsNet (net_of bodies channels) p n stamp (turns.Made stamp) (net_of (slice_set bodies p b') (slice_set channels c ch'))
  closed-net n c ch ch' at there fewer takes =
      let outlet : Outlet = at.is.1 in
      pair-net bodies channels p c n stamp b b' ch ch' (Some (Closes outlet.output c)) blocks.Dormant (turns.Made stamp) at.there there
      (close-turn channels b.process n c at.is.0 outlet at.is.2 at.is.3 at.is.4) (λ e here. close-on c outlet.output e here) (λ none. no-close outlet.output c _ none)
      (refl, (Closes outlet.output c, refl, body-turn b b' effects.Closed stamp (Closes outlet.output c) takes refl refl refl, fewer))
