-- Unique keeps the laws of components.
use Rattle.std.proofs.Common.{◌≡◌, ℕ, List, [], ◌∷◌, Option, refl}
use Rattle.flow_packet.specs.declared.packet.Kind.{Kind}
use Rattle.flow_packet.specs.declared.packet.Kind.TheVariants.{Normal, Open, Close}
use Rattle.flow_component.specs.Laws.{Lawful}
use Rattle.flow_pick.specs.Unique.{UniqueState, closed, unique_after, unique_picker, unique_rules}
use Rattle.flow_pick.specs.PickingLaws.{picker_lawful}

closed-rep : (state : UniqueState) (outer : List (Option (List ℕ))) → (closed state outer).rep ≡ state.rep
closed-rep state [] = refl
closed-rep state (last ∷ outer) = refl

pub after-rep : (state : UniqueState) (kind : Kind) (text : List ℕ) → (unique_after state kind text).rep ≡ state.rep
after-rep state Normal text = refl
after-rep state Open text = refl
after-rep state Close text = closed-rep state state.outer

-- It keeps the laws of components.
pub unique_lawful : Lawful unique_rules
unique_lawful = picker_lawful unique_picker after-rep
