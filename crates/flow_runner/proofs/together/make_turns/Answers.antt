use Rattle.std.proofs.Common.{◌∙◌, length, rules, sym, ap, subst}
use Rattle.flow_floor.specs.Floors.{IsCrewOf}
use Rattle.flow_runner.proofs.Crews.{written}
use Rattle.flow_runner.proofs.together.make_turns.Goals as goal

pub returns-then-processes-eq0-clause-crew : goal.returns-then-processes-eq0-clause-crew
returns-then-processes-eq0-clause-crew g c = let ws = c.await_all.new.crew in
    let whole = written c.args.crew.len ws c.args.crew.items (search rules) in (
      subst (IsCrewOf c.args.floor.now) (sym whole) c.await_all.ensures.crew.0,
      ap (λ xs. length xs) whole ∙ c.await_all.ensures.crew.1 ∙ ap (λ xs. length xs) c.as_mut_slice.ensures.value ∙ c.requires.crew.1,
    )
