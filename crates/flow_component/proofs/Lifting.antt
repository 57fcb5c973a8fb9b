-- A component that is one variant of a type keeps the laws as that type.
use Rattle.std.proofs.Common.{◌≡◌, ℕ, Bool, Result, Ok, Err, refl, ap, sym, ◌∙◌}
use Rattle.flow_packet.specs.Hands.{Holding}
use Rattle.flow_packet.specs.Held.{Held, held_of}
use Rattle.flow_component.specs.declared.Answer.{Answer}
use Rattle.flow_component.specs.declared.Wish.{Wish}
use Rattle.flow_component.specs.declared.Stop.{Stop}
use Rattle.flow_component.specs.declared.Stop.TheVariants as stops
use Rattle.flow_component.specs.declared.Shape.{Shape}
use Rattle.flow_component.specs.Laws.{Rules, Outcome, Wishes, Fails, Obeys, StaysReady, ReadyAfter, component_after}
use Rattle.flow_component.specs.Resumes.{Resumes}
use Rattle.flow_component.specs.Outcomes.{outcome_as}

-- An outcome keeps the rules of the hands when its component is seen as a member of a larger type.
pub Obeys-as : {K L : Type 0} (f : K → L) (shape : Shape) (uses : ℕ → Bool) (held : Held) (own : Outcome K) → Obeys shape uses held own → Obeys shape uses held (outcome_as f own)
Obeys-as f shape uses held (Wishes component new wish) o = o
Obeys-as f shape uses held (Fails component new cause) o = o

-- So does what holds of the component's next answer.
pub StaysReady-as : {K L : Type 0} (f : K → L) (own : Rules K) (all : Rules L) → ((component : K) (held : Held) (wish : Wish) → ReadyAfter (own.ready component) held wish → ReadyAfter (all.ready (f component)) held wish)
    → (outcome : Outcome K) → StaysReady own outcome → StaysReady all (outcome_as f outcome)
StaysReady-as f own all up (Wishes component held wish) r = up component held wish r
StaysReady-as f own all up (Fails component held cause) r = tt

-- The component after such an outcome is the member of the component after its own.
pub component_after-as : {K L : Type 0} (f : K → L) (own : Outcome K) → component_after (outcome_as f own) ≡ f (component_after own)
component_after-as f (Wishes component held wish) = refl
component_after-as f (Fails component held cause) = refl

-- A call that resumes the component itself resumes the type.
pub Resumes-as : {K L : Type 0} (f : K → L) (own : K → Held → Answer → Outcome K) (all : L → Held → Answer → Outcome L) → ((component : K) (held : Held) (answer : Answer) → all (f component) held answer ≡ outcome_as f (own component held answer))
    → (component : K) (hands : Holding) (answer : Answer) (result : Result Wish Stop) (component' : K) (hands' : Holding)
    → Resumes (λ (p : K) h a o. o ≡ own p h a) component hands answer result component' hands' → Resumes (λ (p : L) h a o. o ≡ all p h a) (f component) hands answer result (f component') hands'
Resumes-as f own all is component hands answer (Ok wish) component' hands' r = (ap (outcome_as f) r.0 ∙ sym (is component (held_of hands) answer), r.1)
Resumes-as f own all is component hands answer (Err (stops.Fail cause)) component' hands' r = (ap (outcome_as f) r.0 ∙ sym (is component (held_of hands) answer), r.1)
Resumes-as f own all is component hands answer (Err stops.NoMemory) component' hands' r = (ap f r.0, r.1, r.2)
