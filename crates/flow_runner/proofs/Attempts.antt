-- What an attempt at turns says of the process.
use Rattle.std.proofs.Common.{◌≡◌, ℕ, ◌+◌, List, ◌++◌, length, length-append, ap, sym, subst, ◌∙◌, Some, arith}
use Rattle.std.proofs.lemmas.List.FromFn.{length-map-range_with_len}
use Rattle.flow_machine.specs.Answers.{case_of}
use Rattle.flow_machine.specs.declared.answers.Over.{Over}
use Rattle.flow_machine.specs.declared.answers.Over.TheVariants as overs
use Rattle.flow_machine.specs.declared.answers.Case.TheVariants as cases
use Rattle.flow_machine.specs.Thoughts.{IsSet}
use Rattle.flow_machine.proofs.NetTurns.{case-is}
use Rattle.flow_floor.specs.declared.board.View.{View}
use Rattle.flow_floor.specs.declared.floor.Floor.{Floor}
use Rattle.flow_floor.specs.declared.floor.Worker.{Worker}
use Rattle.flow_floor.specs.declared.floor.Held.{Held}
use Rattle.flow_floor.specs.Bursts.{turns_from}
use Rattle.flow_floor.specs.Floors.{IsOverAs, IsStuckAt}
use Rattle.flow_floor.specs.Workers.{IsSameSeat}

-- A process that has no further turn, and whose body is set, is over and was told its end, and may be retired as such.
pub over-as : {K : Type 0} (over : Over) (h : Held K) → IsSet h.body → case_of h.body.process ≡ Some (cases.Over over) → IsOverAs over h
over-as overs.Ended h set is = (case-is h.body.process (cases.Over overs.Ended) is, set)
over-as overs.Failed h set is = (case-is h.body.process (cases.Over overs.Failed) is, set)
over-as overs.Starved h set is = absurd (case-is h.body.process (cases.Over overs.Starved) is)

-- The turns of a burst are as many turns more.
pub burst-adds : (p first count : ℕ) (old new : List (ℕ × ℕ)) → new ≡ old ++ turns_from p first count → length new ≡ length old + count
burst-adds p first count old new is =
    let at : ℕ → ℕ × ℕ = λ stamp. (stamp, p) in
    let many : length (turns_from p first count) ≡ count = length-map-range_with_len at first count in
    omega (arith, ap (λ (xs : List (ℕ × ℕ)). length xs) is, length-append old (turns_from p first count), many)

module _ {K : Type 0} where
  -- What blocked a body still does after a call that left the body as it was.
  pub stuck-still : (floor : Floor K) (w : Worker K) (h h' : Held K) → h' ≡ h → IsStuckAt floor w h → IsStuckAt floor w h'
  stuck-still floor w h h' same stuck = subst (λ x. IsStuckAt floor w x) (sym same) stuck

  -- A worker that is the same after one call and after the next is the same after both.
  pub same-trans : (u v w : View K) → IsSameSeat u v → IsSameSeat v w → IsSameSeat u w
  same-trans u v w a b = record { shares = b.shares ∙ a.shares; zero = b.zero ∙ a.zero; asked = b.asked ∙ a.asked }

  -- A view that kept share and zero is the same worker's.
  pub same-view : (u v w : View K) → w ≡ v → v.shares ≡ u.shares → v.read_zero ≡ u.read_zero → v.asked ≡ u.asked → IsSameSeat u w
  same-view u v w e s z a = record { shares = ap (λ x. x.shares) e ∙ s; zero = ap (λ x. x.read_zero) e ∙ z; asked = ap (λ x. x.asked) e ∙ a }
