-- A turn that is made by hand.
use Rattle.std.specs.Prelude.{ℕ, Option}
use Rattle.flow_component.specs.Laws.{Rules}
use Rattle.flow_machine.specs.Values.{NetValue}
use Rattle.flow_machine.specs.Logs.{turns_made}
use Rattle.flow_machine.specs.Nets.{level_of, TurnsNet, SeesNet}
use Rattle.flow_machine.specs.NetSteps.{ThinksNet}
use Rattle.flow_machine.specs.declared.answers.Turn.{Turn}
use Rattle.flow_machine.specs.declared.answers.Thought.TheVariants.{Wishing}

-- Process p thought until it was set for a turn, and that turn came to this answer.
pub record ThinksAndTurns {K : Type 0} (rules : Rules K) (old : NetValue K) (p : ℕ) (turn : Turn) (new : NetValue K) : Type 0 where
  pub set : NetValue K
  pub thinks : ThinksNet rules old p Wishing set
  pub turns : TurnsNet set p (level_of set p) (turns_made set) turn new

-- Process p thought until it asked for a level, and its turn with this number came to this answer, if there is one.
pub record ThinksAndSees {K : Type 0} (rules : Rules K) (old : NetValue K) (p seen : ℕ) (turn : Option Turn) (new : NetValue K) : Type 0 where
  pub set : NetValue K
  pub thinks : ThinksNet rules old p Wishing set
  pub sees : SeesNet set p seen (turns_made set) turn new
