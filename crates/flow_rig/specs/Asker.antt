-- A component that asks for a level, and the laws that it keeps.
use Rattle.std.proofs.Common.{◌≡◌, ℕ, Bool, true, false, cond, nat_lt, ◌==◌, refl, sym, subst, arith}
use Rattle.std.specs.Prelude.{if◌then◌else◌}
use Rattle.std.proofs.lemmas.Bool.Decides.{nat_tests}
use Rattle.flow_packet.specs.Held.{Held}
use Rattle.flow_component.specs.declared.Answer.{Answer}
use Rattle.flow_component.specs.declared.Answer.TheVariants as answers
use Rattle.flow_component.specs.declared.Wish.{Wish}
use Rattle.flow_component.specs.declared.Wish.TheVariants as wishes
use Rattle.flow_component.specs.declared.Shape.{Shape}
use Rattle.flow_component.specs.Laws.{Rules, Lawful, Outcome, Wishes, Obeys, StaysReady, IsSteady, IsAllowed, ReadyAfter}
use Rattle.flow_component.specs.Ports.{first_port}
use Rattle.flow_component.proofs.Comings.{comes_same}
use Rattle.flow_rig.specs.declared.asker.Asker.{Asker}

-- It has as many inputs and outputs as it was made for.
abbrev pub shape_asked : Asker → Shape
shape_asked component = component.shape

-- Each output is used.
abbrev pub uses_asked : Asker → ℕ → Bool
uses_asked component port = nat_lt port component.shape.outputs

-- It may be told anything at any time.
abbrev pub AlwaysReady : Asker → Held → Answer → Type 0
AlwaysReady component held answer = Unit {0}

-- At the start it asks for the level of its first output, if it has one.
abbrev pub asks : Shape → Answer → Wish
asks shape answers.Start = if shape.outputs == 0 then wishes.Deactivate else wishes.Level first_port
asks shape (answers.Got id) = wishes.Deactivate
asks shape answers.End = wishes.Deactivate
asks shape answers.Sent = wishes.Deactivate
asks shape (answers.Level n) = wishes.Deactivate

-- Its rule, as a relation.
abbrev pub AskerNext : Asker → Held → Answer → Outcome Asker → Type 0
AskerNext component held answer outcome = outcome ≡ Wishes component held (asks component.shape answer)

allowed-start : (component : Asker) (held : Held) (b : Bool) → (component.shape.outputs == 0) ≡ b → IsAllowed (shape_asked component) (uses_asked component) held (cond {A = Wish} b wishes.Deactivate (wishes.Level first_port))
allowed-start component held true none = tt
allowed-start component held false some = grind (arith, nat_tests)

allowed : (component : Asker) (held : Held) (answer : Answer) → IsAllowed (shape_asked component) (uses_asked component) held (asks component.shape answer)
allowed component held answers.Start = allowed-start component held (component.shape.outputs == 0) refl
allowed component held (answers.Got id) = tt
allowed component held answers.End = tt
allowed component held answers.Sent = tt
allowed component held (answers.Level n) = tt

ready : (component : Asker) (held : Held) (wish : Wish) → ReadyAfter (AlwaysReady component) held wish
ready component held (wishes.Receive port) = (λ sound. tt, λ packet sound. tt, λ text sound. tt)
ready component held (wishes.Level port) = λ n below sound. tt
ready component held wish = λ sound. tt

-- All that a network knows of it.
abbrev pub asker_rules : Rules Asker
asker_rules = record { shape = shape_asked; uses = uses_asked; ready = AlwaysReady; next = AskerNext }

-- It keeps the laws of components.
pub asker_lawful : Lawful asker_rules
asker_lawful = record {
  obeys = λ component held answer outcome r is. subst (Obeys (shape_asked component) (uses_asked component) held) (sym is) (comes_same held, allowed component held answer);
  stays_ready = λ component held answer outcome r is. subst (StaysReady asker_rules) (sym is) (ready component held (asks component.shape answer));
  steady = λ component held answer outcome is. subst (IsSteady asker_rules component) (sym is) (record { shape = refl; outputs = refl });
  has_outcome = λ component held answer _. (Wishes component held (asks component.shape answer), refl);
}
