-- The texts that an element's port takes.
use Rattle.std.specs.Prelude.{ℕ, List, Option, Some, None}
use Rattle.flow_net.specs.declared.draft.DraftPort.{DraftPort}
use Rattle.flow_plan.specs.Texts.{IsOfClass}

-- A text of the class of an element's port.
abbrev pub FitsPort : Option DraftPort → List ℕ → Type 0
FitsPort None text = ⊥
FitsPort (Some port) text = IsOfClass port.spec.class text
