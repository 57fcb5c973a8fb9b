-- A net with its connections, and its bodies and channels alone.
use Rattle.std.proofs.Common.{ℕ, List, Option, Some, None, refl}
use Rattle.flow_component.specs.Laws.{Rules}
use Rattle.flow_plan.specs.declared.plan.Connection.{Connection}
use Rattle.flow_model.specs.Stands.{ChannelShown}
use Rattle.flow_machine.specs.Values.{BodyValue, NetValue, net_with, net_of}
use Rattle.flow_machine.specs.declared.answers.Turn.{Turn}
use Rattle.flow_machine.specs.declared.answers.Turn.TheVariants as turns
use Rattle.flow_machine.specs.declared.answers.Over.TheVariants as overs
use Rattle.flow_machine.specs.FitNets.{FitNet}
use Rattle.flow_machine.specs.Nets.{TurnsNet, SeesNet}

-- what holds of a net's bodies and channels doesn't depend on the connections
pub fit-with : {K : Type 0} (rules : Rules K) (cs ds : List Connection) (bodies : List (BodyValue K)) (channels : List ChannelShown) → FitNet rules (net_with cs bodies channels) → FitNet rules (net_with ds bodies channels)
fit-with rules cs ds bodies channels fit = record { state = fit.state; fit = fit.fit; stands = fit.stands; log = fit.log; logs = fit.logs; total = fit.total; few = fit.few; whole = fit.whole; wired = fit.wired; puts = fit.puts; counted = fit.counted }

module _ {K : Type 0} (cs : List Connection) (bodies bodies' : List (BodyValue K)) (channels channels' : List ChannelShown) where
  abbrev old : NetValue K
  old = net_with cs bodies channels

  abbrev new : NetValue K
  new = net_with cs bodies' channels'

  -- a turn of bodies and channels is one of the net
  pub turns-with : (p n stamp : ℕ) (answer : Turn) → TurnsNet (net_of bodies channels) p n stamp answer (net_of bodies' channels') → TurnsNet old p n stamp answer new
  turns-with p n stamp (turns.Made s) made = let t = made.1.1 in
      (made.0, (made.1.0, record { before = t.before; after = t.after; there = t.there; happens = t.happens; turn = t.turn; bodies = t.bodies; channels = t.channels; connections = refl }))
  turns-with p n stamp (turns.Blocked block) same = (same.0, λ i. net_with cs (same.1 i).bodies (same.1 i).channels)
  turns-with p n stamp (turns.Over overs.Ended) same = (same.0, λ i. net_with cs (same.1 i).bodies (same.1 i).channels)
  turns-with p n stamp (turns.Over overs.Failed) same = (same.0, λ i. net_with cs (same.1 i).bodies (same.1 i).channels)
  turns-with p n stamp (turns.Over overs.Starved) never = never

  -- and so is one that is told a number
  pub sees-with : (p n stamp : ℕ) (answer : Option Turn) → SeesNet (net_of bodies channels) p n stamp answer (net_of bodies' channels') → SeesNet old p n stamp answer new
  sees-with p n stamp (Some answer) sees = (sees.0, turns-with p n stamp answer sees.1)
  sees-with p n stamp None same = let r = same.0 in
      (record { body = r.body; port = r.port; connection = r.connection; channel = r.channel; there = r.there; asks = r.asks; output = r.output; at = r.at; outside = r.outside }, λ i. net_with cs (same.1 i).bodies (same.1 i).channels)
