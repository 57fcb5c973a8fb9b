-- The standard components keep the laws of components, since their kinds do.
use Rattle.std.proofs.Common.{◌≡◌, refl, sym, ◌∙◌, ap, subst}
use Rattle.flow_packet.specs.Held.{Held}
use Rattle.flow_component.specs.declared.Answer.{Answer}
use Rattle.flow_component.specs.Laws.{Lawful, Outcome, Obeys, StaysReady, IsSteady, ReadyAfter, component_after}
use Rattle.flow_component.proofs.Lifting.{Obeys-as, StaysReady-as, component_after-as}
use Rattle.flow_catalogue.specs.declared.standard.Std.{Std}
use Rattle.flow_catalogue.specs.declared.standard.Std.TheVariants as components
use Rattle.flow_catalogue.specs.Std.{Standing, Stands, standing, shape_standing, uses_standing, ReadyStanding, next_standing, std_shape, std_uses, std_next, std_rules}

-- A component in another state is of the same kind.
abbrev pub KeepsKind : Standing → Type 1
KeepsKind (Stands K kind within component) = (k : K) → standing (within k) ≡ Stands K kind within k

pub keeps-kind : (component : Std) → KeepsKind (standing component)
keeps-kind (components.ReadLines component) = λ k. refl
keeps-kind component = λ k. refl

obeys : (s : Standing) (held : Held) (answer : Answer) → ReadyStanding s held answer → Obeys (shape_standing s) (uses_standing s) held (next_standing s held answer)
obeys (Stands K kind within component) held answer r = Obeys-as within (kind.rules.shape component) (kind.rules.uses component) held (kind.next component held answer) (kind.lawful.obeys component held answer (kind.next component held answer) r (kind.comes component held answer))

stays : (s : Standing) (held : Held) (answer : Answer) → KeepsKind s → ReadyStanding s held answer → StaysReady std_rules (next_standing s held answer)
stays (Stands K kind within component) held answer keeps r =
    StaysReady-as within kind.rules std_rules (λ k held wish after. subst (λ (z : Standing). ReadyAfter (ReadyStanding z) held wish) (sym (keeps k)) after)
    (kind.next component held answer) (kind.lawful.stays_ready component held answer (kind.next component held answer) r (kind.comes component held answer))

record Kept (s : Standing) (outcome : Outcome Std) : Type 0 where
  pub shape : std_shape (component_after outcome) ≡ shape_standing s
  pub outputs : std_uses (component_after outcome) ≡ uses_standing s

steady : (s : Standing) (held : Held) (answer : Answer) → KeepsKind s → Kept s (next_standing s held answer)
steady (Stands K kind within component) held answer keeps =
    let o = kind.next component held answer in
    let kept = kind.lawful.steady component held answer o (kind.comes component held answer) in
    let after = component_after-as within o in
    record {
      shape = ap std_shape after ∙ ap shape_standing (keeps (component_after o)) ∙ kept.shape;
      outputs = ap std_uses after ∙ ap uses_standing (keeps (component_after o)) ∙ kept.outputs;
    }

-- It keeps the laws of components.
pub std_lawful : Lawful std_rules
std_lawful = record {
  obeys = λ component held answer outcome r is. subst (Obeys (std_shape component) (std_uses component) held) (sym is) (obeys (standing component) held answer r);
  stays_ready = λ component held answer outcome r is. subst (StaysReady std_rules) (sym is) (stays (standing component) held answer (keeps-kind component) r);
  steady = λ component held answer outcome is.
      let kept = steady (standing component) held answer (keeps-kind component) in
      subst (IsSteady std_rules component) (sym is) (record { shape = kept.shape; outputs = kept.outputs });
  has_outcome = λ component held answer _. (std_next component held answer, refl);
}
