-- Pending turns of which something is known are stamped.
use Rattle.std.proofs.Common.{◌≡◌, ℕ, ◌+◌, ◌<◌, ◌%◌, ◌^◌, List, length}
use mathlib.Core.Option.{none}
use Rattle.atomic_table.specs.Table.{step, Allows}
use Rattle.flow_component.specs.Laws.{Rules, Lawful}
use Rattle.flow_machine.specs.Values.{NetValue}
use Rattle.flow_floor.specs.Ends.{capacities_of}
use Rattle.flow_floor.specs.Pending.{AllMay}
use Rattle.flow_floor.specs.Plays.{Sat, all_stamped}
use Rattle.flow_floor.specs.Rule.{Law}
use Rattle.flow_floor.specs.Views.{Move}
use Rattle.flow_floor.proofs.Stamps.{stamps}

pub all-stamps : {K : Type 0} (rules : Rules K) (lawful : Lawful rules) (start : NetValue K) (slots i id : ℕ) (me : Sat K) (turns : List (Move K)) (o : NetValue K) (are : List (Move K) → Type 0) → o ≡ start → are turns
    → i ≡ length start.bodies + length (capacities_of start) + length (capacities_of start) → length turns < 2 ^ 32 → AllMay rules (length start.bodies) (length (capacities_of start)) me.0 turns
    → Allows (Law rules start) slots id me i (λ x. (x + length turns) % 2 ^ 64) (all_stamped rules o are (step slots i (length turns) 0 none) me)
all-stamps rules lawful start slots i id me turns o are opened known place few may s r deep at fits =
    let a = stamps rules lawful start slots i id me turns o opened place few may s r deep at fits in
    (a.0, a.1, a.2, a.3, (turns, known, a.4))
