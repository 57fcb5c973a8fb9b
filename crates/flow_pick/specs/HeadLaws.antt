-- Head keeps the laws of components.
use Rattle.std.proofs.Common.{◌≡◌, ℕ, List, refl}
use Rattle.flow_packet.specs.declared.packet.Kind.{Kind}
use Rattle.flow_packet.specs.declared.packet.Kind.TheVariants.{Normal, Open, Close}
use Rattle.flow_component.specs.Laws.{Lawful}
use Rattle.flow_pick.specs.Head.{HeadState, head_after, head_picker, head_rules}
use Rattle.flow_pick.specs.PickingLaws.{picker_lawful}

pub after-rest : (state : HeadState) (kind : Kind) (text : List ℕ) → (head_after state kind text).rest ≡ state.rest
after-rest state Normal text = refl
after-rest state Open text = refl
after-rest state Close text = refl

-- It keeps the laws of components.
pub head_lawful : Lawful head_rules
head_lawful = picker_lawful head_picker after-rest
