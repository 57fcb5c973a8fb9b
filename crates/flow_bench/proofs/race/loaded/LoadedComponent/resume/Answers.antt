use Rattle.std.proofs.Common.{◌≡◌, Err, rules, subst, sym, Result}
use Rattle.flow_component.specs.declared.Wish.{Wish}
use Rattle.flow_component.specs.declared.Stop.{Stop}
use Rattle.flow_component.specs.Resumes.{Resumes}
use Rattle.flow_catalogue.specs.Std.{StdNext}
use Rattle.flow_bench.specs.Loaded.{loaded_as, LoadedNext}
use Rattle.flow_bench.proofs.Loading.{resumes-stop}
use Rattle.flow_bench.proofs.race.loaded.LoadedComponent.resume.Goals as goal

pub returns-in_err-wish : goal.returns-in_err-wish
returns-in_err-wish c =
    let loaded = c.args.self.now in
    let hands = c.args.hands.now in
    let stop = c.in_err-wish.field-0.0 in
    let after = c.resume.new.self in
    let is : c.from_residual.result ≡ Err stop = search rules in
    let resumed : Resumes StdNext loaded.component hands c.args.answer (Err stop) after c.resume.new.hands = search rules in
    subst (λ (result : Result Wish Stop). Resumes LoadedNext loaded hands c.args.answer result (loaded_as loaded.rounds loaded.sum after) c.resume.new.hands) (sym is) (resumes-stop loaded hands c.args.answer stop after c.resume.new.hands resumed)
