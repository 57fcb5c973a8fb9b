-- What lies in a slot that is taken.
use Rattle.std.proofs.Common.{◌≡◌, ℕ, Option, sym, ap, ◌∙◌}
use Rattle.flow_packet.specs.Tree.{Tree}
use Rattle.flow_machine.specs.Values.{BodyValue}
use Rattle.flow_floor.specs.declared.board.Slot.{Slot}
use Rattle.flow_floor.specs.declared.board.Slot.TheVariants as slot

count-in : {K : Type 0} → ℕ → Slot K → ℕ
count-in d (slot.Count n) = n
count-in d slot.Vacant = d
count-in d (slot.Body b) = d
count-in d (slot.Cell packet) = d

cell-in : {K : Type 0} → Option Tree → Slot K → Option Tree
cell-in d (slot.Cell packet) = packet
cell-in d slot.Vacant = d
cell-in d (slot.Body b) = d
cell-in d (slot.Count n) = d

body-in : {K : Type 0} → BodyValue K → Slot K → BodyValue K
body-in d (slot.Body b) = b
body-in d slot.Vacant = d
body-in d (slot.Count n) = d
body-in d (slot.Cell packet) = d

-- A slot has one number.
pub count-is : {K : Type 0} (s : Slot K) (n m : ℕ) → s ≡ slot.Count n → s ≡ slot.Count m → n ≡ m
unfolding count-in
count-is s n m e f = ap (count-in n) (sym e ∙ f)

-- A cell has one packet, or none.
pub cell-is : {K : Type 0} (s : Slot K) (x y : Option Tree) → s ≡ slot.Cell x → s ≡ slot.Cell y → x ≡ y
unfolding cell-in
cell-is s x y e f = ap (cell-in x) (sym e ∙ f)

-- A slot has one body.
pub body-is : {K : Type 0} (s : Slot K) (b d : BodyValue K) → s ≡ slot.Body b → s ≡ slot.Body d → b ≡ d
unfolding body-in
body-is s b d e f = ap (body-in b) (sym e ∙ f)
