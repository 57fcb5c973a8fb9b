use Rattle.std.proofs.Common.{◌≤◌, List, ℕ, All, length, arith, ap, sym, ◌∙◌, subst, inl, inr}
use Rattle.flow_machine.specs.Logs.{turns_made}
use Rattle.flow_machine.specs.Solo.{ReachesNet}
use Rattle.flow_floor.specs.Floors.{opened_net}
use Rattle.flow_floor.specs.Shut.{IsShut}
use Rattle.flow_runner.specs.Crews.{HasWorkers, merged, turns_of_crew}
use Rattle.flow_runner.proofs.Budgets.{each-most, most-made, all-made}
use Rattle.flow_runner.proofs.Crews.{merge-to-all, shut-reaches}
use Rattle.flow_runner.proofs.paused.run_for.Goals as goal

-- the crew are all that the floor was opened for, when they have served
pub returns-in-Ok-make_turns-clause-crew : goal.returns-in-Ok-make_turns-clause-crew
returns-in-Ok-make_turns-clause-crew g c = subst (λ n. HasWorkers n c.of-by.result) c.in-Ok-make_turns.ensures.crew.1 c.of-by.ensures.count

pub returns-in-Ok-make_turns-clause-each : goal.returns-in-Ok-make_turns-clause-each
returns-in-Ok-make_turns-clause-each g c =
    subst (All (λ (turns : List (ℕ × ℕ)). length turns ≤ c.args.budget)) (sym c.of-by.ensures.turns) (each-most c.args.budget c.in-Ok-make_turns.crew.items c.in-Ok-make_turns.ensures.done)

pub returns-in-Ok-make_turns-clause-made : goal.returns-in-Ok-make_turns-clause-made
returns-in-Ok-make_turns-clause-made g c =
    subst (λ start. IsShut g.K.Component.rules start (turns_of_crew c.of-by.result) c.pause-closed.result.net) c.in-Ok-open.ensures.opened
    (subst (λ made. IsShut g.K.Component.rules (opened_net c.in-Ok-open.opened.floor) made c.pause-closed.result.net)
    (sym (ap merged c.of-by.ensures.turns ∙ merge-to-all c.in-Ok-make_turns.crew.items)) c.pause-closed.ensures.net)

pub returns-in-Ok-make_turns-clause-reaches : goal.returns-in-Ok-make_turns-clause-reaches
returns-in-Ok-make_turns-clause-reaches g c =
    subst (λ start. ReachesNet g.K.Component.rules start c.pause-closed.result.net) c.in-Ok-open.ensures.opened
    (shut-reaches g.K.Component.rules _ c.pause-closed.result.net _ c.pause-closed.ensures.net)

pub returns-in-Ok-make_turns-clause-most : goal.returns-in-Ok-make_turns-clause-most
returns-in-Ok-make_turns-clause-most g c = let e = c.in-Ok-make_turns.ensures in
    let most = most-made g.K.Component.rules _ c.pause-closed.result.net c.in-Ok-make_turns.crew.items c.args.workers c.args.budget c.pause-closed.ensures.net e.crew.1 e.done in
    omega (arith, most, ap turns_made c.in-Ok-open.ensures.opened)

pub returns-in-Ok-make_turns-clause-spent : goal.returns-in-Ok-make_turns-clause-spent
returns-in-Ok-make_turns-clause-spent g c = let e = c.in-Ok-make_turns.ensures in
    elim (all-made g.K.Component.rules _ c.pause-closed.result.net c.in-Ok-make_turns.crew.items c.args.workers c.args.budget c.pause-closed.ensures.net e.crew.1 e.done) [
      | inl all ↦ inl (omega (arith, all, ap turns_made c.in-Ok-open.ensures.opened))
      | inr zero_read ↦ inr (c.pause-closed.ensures.quiet zero_read)
    ]

pub returns-in-Ok-make_turns-clause-ended_are_told : goal.returns-in-Ok-make_turns-clause-ended_are_told
returns-in-Ok-make_turns-clause-ended_are_told g c = let e = c.in-Ok-make_turns.ensures in
    elim (all-made g.K.Component.rules _ c.pause-closed.result.net c.in-Ok-make_turns.crew.items c.args.workers c.args.budget c.pause-closed.ensures.net e.crew.1 e.done) [
      | inl all ↦ inl (omega (arith, all, ap turns_made c.in-Ok-open.ensures.opened))
      | inr zero_read ↦ inr (c.pause-closed.ensures.ended_are_told zero_read)
    ]
