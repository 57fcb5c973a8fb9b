-- Each process stands in its boxes.
use Rattle.std.proofs.Common.{◌≡◌, ℕ, zero, suc, ◌+◌, ◌-◌, ◌≤◌, Bool, true, false, cond, List, [], ◌∷◌, ◌++◌, length, map, take, drop, replicate, refl, sym, ◌∙◌, ap, ap₂, arith, append_assoc, length-take, bytes_eq}
use mathlib.Core.List.{append-nil}
use Rattle.std.specs.List.{common_prefix_len, enumerate_from}
use Rattle.std.proofs.lemmas.Slice.Eq.{bytes_eq-Decides}
use Rattle.std.proofs.lemmas.List.{take_all, take-take, take-append-drop}
use Rattle.std.proofs.lemmas.List.Sums.{common_prefix_len-le}
use Rattle.flow_plan.specs.declared.kind.KindSpec.{KindSpec}
use Rattle.flow_plan.specs.declared.plan.Process.{Process}
use Rattle.flow_drawing.specs.declared.drawing.Remark.{Remark}
use Rattle.flow_drawing.specs.declared.drawing.Node.{Node}
use Rattle.flow_drawing.specs.declared.drawing.Row.{Row}
use Rattle.flow_drawing.specs.declared.drawing.Row.TheVariants.{Closes, Shows}
use Rattle.flow_drawing.specs.Drawings.{begun, boxes_of, node_of, rows_from, steps}
use Rattle.flow_drawing.specs.Standing.{in_its_boxes, standing, StandInBoxes}

same_bytes : (a b : List ℕ) → bytes_eq a b ≡ true → a ≡ b
same_bytes a b is = by (bytes_eq a b) refl is where
  by : (v : Bool) → bytes_eq a b ≡ v → v ≡ true → a ≡ b
  by v same holds = grind (arith, bytes_eq-Decides, same, holds)

-- the texts in which two lists agree from the front on
agree : (xs ys : List (List ℕ)) → take (common_prefix_len bytes_eq xs ys) xs ≡ take (common_prefix_len bytes_eq xs ys) ys
agree [] [] = refl
agree [] (y ∷ ys) = refl
agree (x ∷ xs) [] = refl
agree (x ∷ xs) (y ∷ ys) =
    elim (bytes_eq x y) as (λ t. bytes_eq x y ≡ t → take (cond t (1 + common_prefix_len bytes_eq xs ys) 0) (x ∷ xs) ≡ take (cond t (1 + common_prefix_len bytes_eq xs ys) 0) (y ∷ ys))
    [ true ↦ λ e. one-more (common_prefix_len bytes_eq xs ys) (same_bytes x y e) (agree xs ys) | false ↦ λ e. refl ] refl where
      one-more : (n : ℕ) → x ≡ y → take n xs ≡ take n ys → take (1 + n) (x ∷ xs) ≡ take (1 + n) (y ∷ ys)
      one-more n same front =
          let is : 1 + n ≡ suc n = omega arith in
          ap (λ m. take m (x ∷ xs)) is ∙ ap₂ (λ (z : List ℕ) (zs : List (List ℕ)). z ∷ zs) same front ∙ ap (λ m. take m (y ∷ ys)) (sym is)

-- boxes that end
after-closes : (n : ℕ) (boxes : List (List ℕ)) (rows : List Row) → standing boxes (replicate n Closes ++ rows) ≡ standing (take (length boxes - n) boxes) rows
after-closes zero boxes rows = ap (λ (l : List (List ℕ)). standing l rows) (sym (take_all (length boxes - 0) boxes (omega arith)))
after-closes (suc n) boxes rows =
    let inner : List (List ℕ) = take (length boxes - 1) boxes in
    let long : length inner ≡ length boxes - 1 = omega (arith, length-take (length boxes - 1) boxes) in
    let fewer : length inner - n ≡ length boxes - suc n = omega (arith, long) in
    after-closes n inner rows
    ∙ ap (λ m. standing (take m inner) rows) fewer
    ∙ ap (λ (l : List (List ℕ)). standing l rows) (take-take (length boxes - suc n) (length boxes - 1) boxes (omega arith))

-- boxes that begin
after-opens : (p depth : ℕ) (boxes more : List (List ℕ)) (rows : List Row) → standing boxes (begun p depth more ++ rows) ≡ standing (boxes ++ more) rows
after-opens p depth boxes [] rows = ap (λ (l : List (List ℕ)). standing l rows) (sym (append-nil boxes))
after-opens p depth boxes (m ∷ ms) rows =
    after-opens p (depth + 1) (boxes ++ m ∷ []) ms rows ∙ ap (λ (l : List (List ℕ)). standing l rows) (append_assoc boxes (m ∷ []) ms)

-- from the boxes of one process to those of the next
after-steps : (p : ℕ) (opened boxes : List (List ℕ)) (rows : List Row) → standing opened (steps opened boxes p ++ rows) ≡ standing boxes rows
after-steps p opened boxes rows =
    let same : ℕ = common_prefix_len bytes_eq opened boxes in
    let few : same ≤ length opened = (common_prefix_len-le bytes_eq opened boxes).0 in
    let back : length opened - (length opened - same) ≡ same = omega (arith, few) in
    ap (standing opened) (append_assoc (replicate (length opened - same) Closes) (begun p same (drop same boxes)) rows)
    ∙ after-closes (length opened - same) opened (begun p same (drop same boxes) ++ rows)
    ∙ ap (λ m. standing (take m opened) (begun p same (drop same boxes) ++ rows)) back
    ∙ after-opens p same (take same opened) (drop same boxes) rows
    ∙ ap (λ (l : List (List ℕ)). standing (l ++ drop same boxes) rows) (agree opened boxes)
    ∙ ap (λ (l : List (List ℕ)). standing l rows) (take-append-drop same boxes)

-- behind the last process nothing is shown
none-shown : (n : ℕ) (boxes : List (List ℕ)) → standing boxes (replicate n Closes) ≡ []
none-shown zero boxes = refl
none-shown (suc n) boxes = none-shown n (take (length boxes - 1) boxes)

all-stand : (kinds : List KindSpec) (remarks : List Remark) (opened : List (List ℕ)) (p : ℕ) (processes : List Process) → standing opened (rows_from kinds remarks opened p processes) ≡ map (in_its_boxes kinds remarks) (enumerate_from p processes)
all-stand kinds remarks opened p [] = none-shown (length opened) opened
all-stand kinds remarks opened p (x ∷ xs) =
    after-steps p opened (boxes_of x.name) (Shows (node_of kinds remarks p x) ∷ rows_from kinds remarks (boxes_of x.name) (p + 1) xs)
    ∙ ap (λ (l : List (List (List ℕ) × Node)). (boxes_of x.name, node_of kinds remarks p x) ∷ l) (all-stand kinds remarks (boxes_of x.name) (p + 1) xs)

pub stand-in-boxes : StandInBoxes
stand-in-boxes = λ kinds remarks processes. all-stand kinds remarks [] 0 processes
