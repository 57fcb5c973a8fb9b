-- Loaded components stop and fit as the standard ones in them do.
use Rattle.std.proofs.Common.{ℕ, List, map, Err, ◌∙◌, ap, subst}
use Rattle.std.proofs.lemmas.List.{length-map}
use Rattle.flow_packet.specs.Hands.{Holding}
use Rattle.flow_component.specs.declared.Answer.{Answer}
use Rattle.flow_component.specs.declared.Stop.{Stop}
use Rattle.flow_component.specs.declared.Stop.TheVariants as stops
use Rattle.flow_component.specs.Outcomes.{outcome_as}
use Rattle.flow_component.specs.Resumes.{Resumes}
use Rattle.flow_plan.specs.Network.{Network}
use Rattle.flow_model.specs.Ready.{ComponentFits, ComponentsFit}
use Rattle.flow_model.proofs.Lists.{map-found}
use Rattle.flow_catalogue.specs.declared.standard.Std.{Std}
use Rattle.flow_catalogue.specs.Std.{StdNext, std_rules}
use Rattle.flow_bench.specs.declared.race.loaded.Loaded.{Loaded}
use Rattle.flow_bench.specs.Loaded.{loaded_as, LoadedNext, loaded_rules}

-- Where it stops, so does the loaded one, with the same sum.
pub resumes-stop : (loaded : Loaded) (hands : Holding) (answer : Answer) (stop : Stop) (after : Std) (hands' : Holding) → Resumes StdNext loaded.component hands answer (Err stop) after hands' → Resumes LoadedNext loaded hands answer (Err stop) (loaded_as loaded.rounds loaded.sum after) hands'
resumes-stop loaded hands answer (stops.Fail cause) after hands' r = ((loaded.sum, ap (outcome_as (loaded_as loaded.rounds loaded.sum)) r.0), r.1)
resumes-stop loaded hands answer stops.NoMemory after hands' r = (ap (loaded_as loaded.rounds loaded.sum) r.0, r.1, r.2)

-- Loaded components fit a plan where the standard ones do.
pub loaded-fit : (plan : Network) (rounds : ℕ) (components : List Std) → ComponentsFit std_rules plan components → ComponentsFit loaded_rules plan (map (loaded_as rounds 0) components)
loaded-fit plan rounds components fits = record {
  one_each = length-map components (loaded_as rounds 0) ∙ fits.one_each;
  fit = λ p process loaded there at.
      let (component, is, same) = map-found (loaded_as rounds 0) components p loaded at in
      let fit = fits.fit p process component there is in
      subst (λ (l : Loaded). ComponentFits loaded_rules plan p process l) same (record { inputs = fit.inputs; outputs = fit.outputs; used = fit.used; can_start = fit.can_start });
}
