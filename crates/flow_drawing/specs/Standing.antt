-- Which processes a drawing shows, and in which boxes.
use Rattle.std.specs.Prelude.{◌≡◌, ℕ, ◌-◌, List, [], ◌∷◌, ◌++◌, map, length, take}
use Rattle.std.specs.List.{enumerate_from}
use Rattle.flow_plan.specs.declared.kind.KindSpec.{KindSpec}
use Rattle.flow_plan.specs.declared.plan.Process.{Process}
use Rattle.flow_drawing.specs.declared.drawing.Remark.{Remark}
use Rattle.flow_drawing.specs.declared.drawing.Node.{Node}
use Rattle.flow_drawing.specs.declared.drawing.Row.{Row}
use Rattle.flow_drawing.specs.declared.drawing.Row.TheVariants.{Opens, Closes, Folds, Shows}
use Rattle.flow_drawing.specs.Drawings.{boxes_of, node_of, rows_from}

-- The processes that rows show, in order, each with the boxes in which it stands, from the outermost one; where these boxes are open before the first row. A box that
-- begins stands in all that are open, and one that ends is the innermost of these.
abbrev pub standing : List (List ℕ) → List Row → List (List (List ℕ) × Node)
standing boxes [] = []
standing boxes (Opens p depth name ∷ rows) = standing (boxes ++ name ∷ []) rows
standing boxes (Closes ∷ rows) = standing (take (length boxes - 1) boxes) rows
standing boxes (Folds p name mark ∷ rows) = standing boxes rows
standing boxes (Shows node ∷ rows) = (boxes, node) ∷ standing boxes rows

-- A process with its number, in the boxes of its flat name.
abbrev pub in_its_boxes : List KindSpec → List Remark → ℕ × Process → List (List ℕ) × Node
in_its_boxes kinds remarks process = (boxes_of process.1.name, node_of kinds remarks process.0 process.1)

-- The rows of processes show each of them once, in their order, and each stands in the boxes of its flat name.
abbrev pub StandInBoxes : Type 0
StandInBoxes = (kinds : List KindSpec) (remarks : List Remark) (processes : List Process)
    → standing [] (rows_from kinds remarks [] 0 processes) ≡ map (in_its_boxes kinds remarks) (enumerate_from 0 processes)
