-- The turns of a floor, and behind them those of a floor that was opened with its net.
use Rattle.std.proofs.Common.{◌≡◌, ℕ, ◌+◌, List, [], ◌∷◌, ◌++◌, length, sym, ◌∙◌, ap, arith, length-append}
use Rattle.flow_component.specs.Laws.{Rules}
use Rattle.flow_model.specs.Schedules.{then_turns}
use Rattle.flow_machine.specs.Values.{NetValue}
use Rattle.flow_machine.specs.Logs.{Logged, turns_made}
use Rattle.flow_machine.specs.Solo.{GoesBy, reached}
use Rattle.flow_machine.proofs.SoloLemmas.{journal_of-append, remember-then}
use Rattle.flow_machine.proofs.Reaching.{reaches-append, steps-append}
use Rattle.flow_floor.specs.Made.{numbered}
use Rattle.flow_runner.specs.Stretches.{FloorsReach, FloorsAreOne}
use Rattle.flow_runner.proofs.Crews.{shut-reaches}

-- the numbers of turns go on behind others
numbered-append : (n : ℕ) (log more : List Logged) → numbered n (log ++ more) ≡ numbered n log ++ numbered (n + length log) more
numbered-append n [] more = ap (λ m. numbered m more) (let same : n ≡ n + 0 = omega arith in same)
numbered-append n (turn ∷ log) more =
    let same : n + 1 + length log ≡ n + length (turn ∷ log) = omega arith in
    ap (λ (turns : List (ℕ × ℕ)). (n, turn.process) ∷ turns) (numbered-append (n + 1) log more ∙ ap (λ m. numbered (n + 1) log ++ numbered m more) same)

module _ {K : Type 0} (rules : Rules K) where
  -- turns and works behind others
  goes-then : (first middle last : NetValue K) (n m : ℕ) (log more : List Logged) → GoesBy rules (reached rules) first n log middle → m ≡ n + length log → GoesBy rules (reached rules) middle m more last → length last.bodies ≡ length middle.bodies
      → GoesBy rules (reached rules) first n (log ++ more) last
  goes-then first middle last n m log more goes at rest len = record {
    remembers = remember-then first.bodies middle.bodies last.bodies n m log more goes.remembers at rest.remembers (sym len);
    states = λ s fit stands.
        let g = goes.states s fit stands in
        let h = rest.states g.0 g.2 g.3 in
        (h.0, (g.1.0 ++ h.1.0, journal_of-append log more ∙ (λ i. then_turns (g.1.1 i) (h.1.1 i)) ∙ sym (steps-append g.1.0 h.1.0), reaches-append rules s g.1.0 h.1.0 g.0 h.0 g.1.2 h.1.2), h.2, h.3);
    connections = rest.connections ∙ goes.connections;
  }

  pub floors-reach : FloorsReach rules
  floors-reach first last made shut = shut-reaches rules first last made shut

  pub floors-are-one : FloorsAreOne rules
  floors-are-one first middle last made more shut rest = record {
    log = shut.log ++ rest.log;
    goes = goes-then first middle last (turns_made first) (turns_made middle) shut.log rest.log shut.goes shut.total rest.goes rest.len;
    len = rest.len ∙ shut.len;
    total = omega (arith, shut.total, rest.total, length-append shut.log rest.log);
    turns = (λ i. shut.turns i ++ (rest.turns ∙ ap (λ m. numbered m rest.log) shut.total) i) ∙ sym (numbered-append (turns_made first) shut.log rest.log);
  }
