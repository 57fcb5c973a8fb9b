-- A kind of components as one record: all that a network knows of it, and its one outcome.
use Rattle.std.specs.Prelude.{◌≡◌, ℕ, List, Option}
use Rattle.flow_packet.specs.Held.{Held}
use Rattle.flow_component.specs.declared.Answer.{Answer}
use Rattle.flow_component.specs.Laws.{Rules, Lawful, Outcome}

-- The rules of a component of this state, which keep the laws of components; what it comes to, which is that alone; and the bytes of its file where it writes one.
pub record Kinded (K : Type 0) : Type 1 where
  pub rules : Rules K
  pub lawful : Lawful rules
  pub next : K → Held → Answer → Outcome K
  pub comes : (component : K) (held : Held) (answer : Answer) → rules.next component held answer (next component held answer)
  pub alone : (component : K) (held : Held) (answer : Answer) (outcome : Outcome K) → rules.next component held answer outcome → outcome ≡ next component held answer
  pub written : K → Option (List ℕ)
