-- Where keeps the laws of components.
use Rattle.std.proofs.Common.{refl}
use Rattle.flow_component.specs.Laws.{Lawful}
use Rattle.flow_pick.specs.PickingLaws.{picker_lawful}
use Rattle.flow_where.specs.Where.{where_picker, where_rules}

-- It keeps the laws of components.
pub where_lawful : Lawful where_rules
where_lawful = picker_lawful where_picker (λ state kind text. refl)
