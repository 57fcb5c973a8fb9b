-- A loaded component keeps the laws of components, since the standard one in it does.
use Rattle.std.proofs.Common.{refl, sym, ◌∙◌, ap, subst}
use Rattle.flow_packet.specs.Held.{Held}
use Rattle.flow_component.specs.declared.Answer.{Answer}
use Rattle.flow_component.specs.Laws.{Lawful, Outcome, Obeys, StaysReady, IsSteady}
use Rattle.flow_component.specs.Outcomes.{outcome_as}
use Rattle.flow_component.proofs.Lifting.{Obeys-as, StaysReady-as, component_after-as}
use Rattle.flow_catalogue.specs.Std.{std_shape, std_uses, std_next, std_rules}
use Rattle.flow_catalogue.specs.StdLaws.{std_lawful}
use Rattle.flow_bench.specs.declared.race.loaded.Loaded.{Loaded}
use Rattle.flow_bench.specs.Loaded.{loaded_as, loaded_shape, loaded_uses, loaded_rules}

-- It keeps the laws of components.
pub loaded_lawful : Lawful loaded_rules
loaded_lawful = record {
  obeys = λ loaded held answer outcome r is.
      let own = std_next loaded.component held answer in
      subst (Obeys (loaded_shape loaded) (loaded_uses loaded) held) (sym is.1) (Obeys-as (loaded_as loaded.rounds is.0) (std_shape loaded.component) (std_uses loaded.component) held own (std_lawful.obeys loaded.component held answer own r refl));
  stays_ready = λ loaded held answer outcome r is.
      let own = std_next loaded.component held answer in
      subst (StaysReady loaded_rules) (sym is.1) (StaysReady-as (loaded_as loaded.rounds is.0) std_rules loaded_rules (λ component held wish after. after) own (std_lawful.stays_ready loaded.component held answer own r refl));
  steady = λ loaded held answer outcome is.
      let own = std_next loaded.component held answer in
      let kept = std_lawful.steady loaded.component held answer own refl in
      let after = component_after-as (loaded_as loaded.rounds is.0) own in
      subst (IsSteady loaded_rules loaded) (sym is.1) (record { shape = ap loaded_shape after ∙ kept.shape; outputs = ap loaded_uses after ∙ kept.outputs });
  has_outcome = λ loaded held answer _. (outcome_as (loaded_as loaded.rounds loaded.sum) (std_next loaded.component held answer), (loaded.sum, refl));
}
