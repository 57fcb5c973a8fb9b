-- The boxes of a name, the boxes that stay open, and the rows of a process more.
use Rattle.std.proofs.Common.{◌≡◌, ◌≢◌, ◌==◌, ℕ, ◌+◌, ◌<◌, ◌≤◌, Bool, true, false, cond, not, List, [], ◌∷◌, ◌++◌, length, get_or, drop, replicate, refl, sym, ◌∙◌, ap, arith, append_assoc, add-one, bytes_eq}
use mathlib.Core.Path.{ap₂}
use Rattle.std.specs.List.{common_prefix_len}
use Rattle.std.proofs.lemmas.List.{drop-drop, drop_more, drop_all, replicate-append-replicate}
use Rattle.flow_plan.specs.declared.kind.KindSpec.{KindSpec}
use Rattle.flow_plan.specs.declared.plan.Process.{Process}
use Rattle.flow_drawing.specs.declared.drawing.Remark.{Remark}
use Rattle.flow_drawing.specs.declared.drawing.Row.{Row}
use Rattle.flow_drawing.specs.declared.drawing.Row.TheVariants.{Closes, Shows}
use Rattle.flow_drawing.specs.Drawings.{agrees, box_at, boxes_of, boxes_within, node_of, rows_from, steps}

-- one place more of a name
pub boxes-more : (name : List ℕ) (k : ℕ) (old new : List (List ℕ)) → old ≡ boxes_within name k → new ≡ old ++ box_at name k → new ≡ boxes_within name (k + 1)
boxes-more name k old new so_far grown = grown ∙ ap (λ (l : List (List ℕ)). l ++ box_at name k) so_far ∙ ap (boxes_within name) (sym (add-one k))

-- boxes that agree at a place agree there and behind it
next-agrees : (xs ys : List (List ℕ)) → common_prefix_len bytes_eq xs ys ≢ 0 → common_prefix_len bytes_eq xs ys ≡ 1 + common_prefix_len bytes_eq (drop 1 xs) (drop 1 ys)
next-agrees [] ys some = absurd (some refl)
next-agrees (x ∷ xs) [] some = absurd (some refl)
next-agrees (x ∷ xs) (y ∷ ys) some =
    elim (bytes_eq x y) as (λ t. cond t (1 + common_prefix_len bytes_eq xs ys) 0 ≢ 0 → cond t (1 + common_prefix_len bytes_eq xs ys) 0 ≡ 1 + common_prefix_len bytes_eq xs ys)
    [ true ↦ λ _. refl | false ↦ λ e. absurd (e refl) ] some

-- one place more agrees
pub common-more : (opened boxes : List (List ℕ)) (k whole : ℕ) → agrees opened boxes k ≡ true → k + common_prefix_len bytes_eq (drop k opened) (drop k boxes) ≡ whole
    → k + 1 + common_prefix_len bytes_eq (drop (k + 1) opened) (drop (k + 1) boxes) ≡ whole
common-more opened boxes k whole agree so_far =
    let some : common_prefix_len bytes_eq (drop k opened) (drop k boxes) ≢ 0 = λ none. absurd (differ (common_prefix_len bytes_eq (drop k opened) (drop k boxes)) none agree) in
    let next = next-agrees (drop k opened) (drop k boxes) some in
    let one : drop 1 (drop k opened) ≡ drop (k + 1) opened = drop-drop 1 k opened in
    let other : drop 1 (drop k boxes) ≡ drop (k + 1) boxes = drop-drop 1 k boxes in
    let behind : common_prefix_len bytes_eq (drop 1 (drop k opened)) (drop 1 (drop k boxes)) ≡ common_prefix_len bytes_eq (drop (k + 1) opened) (drop (k + 1) boxes) = ap₂ (common_prefix_len bytes_eq) one other in
    omega (arith, next, behind, so_far) where
      differ : (n : ℕ) → n ≡ 0 → not (n == 0) ≡ true → ⊥
      differ n none is = grind (arith, none, is)

-- no place more agrees
pub common-here : (opened boxes : List (List ℕ)) (k whole : ℕ) → agrees opened boxes k ≡ false → k + common_prefix_len bytes_eq (drop k opened) (drop k boxes) ≡ whole → k ≡ whole
common-here opened boxes k whole differ so_far = omega (arith, none (common_prefix_len bytes_eq (drop k opened) (drop k boxes)) differ, so_far) where
  none : (n : ℕ) → not (n == 0) ≡ false → n ≡ 0
  none n is = grind (arith, is)

-- all places agree
pub common-all : (opened boxes : List (List ℕ)) (k whole : ℕ) → length opened ≤ k → k + common_prefix_len bytes_eq (drop k opened) (drop k boxes) ≡ whole → k ≡ whole
common-all opened boxes k whole past so_far =
    let none : common_prefix_len bytes_eq (drop k opened) (drop k boxes) ≡ 0 = ap (λ (l : List (List ℕ)). common_prefix_len bytes_eq l (drop k boxes)) (drop_all k opened past) in
    omega (arith, none, so_far)

-- at a place that agrees both have a box, which is the same
pub agrees-at : (opened boxes : List (List ℕ)) (k : ℕ) (x y : List ℕ) (same : Bool) → k < length opened → k < length boxes → x ≡ get_or opened k x → y ≡ get_or boxes k y → same ≡ bytes_eq x y
    → same ≡ agrees opened boxes k
agrees-at opened boxes k x y same below other x_is y_is is =
    let one : drop k opened ≡ x ∷ drop (k + 1) opened = drop_more opened k x below ∙ ap (λ (z : List ℕ). z ∷ drop (k + 1) opened) (sym x_is) in
    let two : drop k boxes ≡ y ∷ drop (k + 1) boxes = drop_more boxes k y other ∙ ap (λ (z : List ℕ). z ∷ drop (k + 1) boxes) (sym y_is) in
    is ∙ by (bytes_eq x y) refl ∙ ap (λ n. not (n == 0)) (sym (ap₂ (common_prefix_len bytes_eq) one two)) where
      more : (n : ℕ) → not (1 + n == 0) ≡ true
      more n = grind arith

      by : (b : Bool) → bytes_eq x y ≡ b → bytes_eq x y ≡ not (common_prefix_len bytes_eq (x ∷ drop (k + 1) opened) (y ∷ drop (k + 1) boxes) == 0)
      by true e = e ∙ sym (ap (λ (b : Bool). not (cond b (1 + common_prefix_len bytes_eq (drop (k + 1) opened) (drop (k + 1) boxes)) 0 == 0)) e ∙ more (common_prefix_len bytes_eq (drop (k + 1) opened) (drop (k + 1) boxes)))
      by false e = e ∙ sym (ap (λ (b : Bool). not (cond b (1 + common_prefix_len bytes_eq (drop (k + 1) opened) (drop (k + 1) boxes)) 0 == 0)) e)

-- where no box is left, none agrees
pub agrees-past : (opened boxes : List (List ℕ)) (k : ℕ) → length boxes ≤ k → false ≡ agrees opened boxes k
agrees-past opened boxes k past = ap (λ n. not (n == 0)) (sym (empty (drop k opened) (drop k boxes) (drop_all k boxes past))) where
  empty : (xs ys : List (List ℕ)) → ys ≡ [] → common_prefix_len bytes_eq xs ys ≡ 0
  empty [] ys is = refl
  empty (x ∷ xs) ys is = ap (common_prefix_len bytes_eq (x ∷ xs)) is

-- one box more ends
pub closes-more : (start old new : List Row) (k : ℕ) → old ≡ start ++ replicate k Closes → new ≡ old ++ Closes ∷ [] → new ≡ start ++ replicate (k + 1) Closes
closes-more start old new k so_far grown =
    grown ∙ ap (λ (l : List Row). l ++ Closes ∷ []) so_far ∙ append_assoc start (replicate k Closes) (Closes ∷ []) ∙ ap (λ (l : List Row). start ++ l) (replicate-append-replicate k 1 Closes)

-- one process more
pub rows-step : (kinds : List KindSpec) (remarks : List Remark) (processes : List Process) (opened boxes : List (List ℕ)) (p : ℕ) (process : Process) (old stepped new whole : List Row)
    → p < length processes → process ≡ get_or processes p process → boxes ≡ boxes_of process.name
    → stepped ≡ old ++ steps opened boxes p → new ≡ stepped ++ Shows (node_of kinds remarks p process) ∷ []
    → old ++ rows_from kinds remarks opened p (drop p processes) ≡ whole → new ++ rows_from kinds remarks boxes (p + 1) (drop (p + 1) processes) ≡ whole
rows-step kinds remarks processes opened boxes p process old stepped new whole below is are steps_are shown so_far =
    let front : drop p processes ≡ process ∷ drop (p + 1) processes = drop_more processes p process below ∙ ap (λ (x : Process). x ∷ drop (p + 1) processes) (sym is) in
    let rest : List Row = rows_from kinds remarks boxes (p + 1) (drop (p + 1) processes) in
    let node : Row = Shows (node_of kinds remarks p process) in
    let whole_is : old ++ (steps opened (boxes_of process.name) p ++ node ∷ rows_from kinds remarks (boxes_of process.name) (p + 1) (drop (p + 1) processes)) ≡ whole =
    ap (λ (l : List Process). old ++ rows_from kinds remarks opened p l) (sym front) ∙ so_far in
    ap (λ (l : List Row). l ++ rest) shown ∙ append_assoc stepped (node ∷ []) rest ∙ ap (λ (l : List Row). l ++ node ∷ rest) steps_are ∙ append_assoc old (steps opened boxes p) (node ∷ rest)
    ∙ ap (λ (b : List (List ℕ)). old ++ (steps opened b p ++ node ∷ rows_from kinds remarks b (p + 1) (drop (p + 1) processes))) are ∙ whole_is

-- no process is left
pub rows-end : (kinds : List KindSpec) (remarks : List Remark) (processes : List Process) (opened : List (List ℕ)) (p : ℕ) (rows all whole : List Row)
    → length processes ≤ p → rows ++ rows_from kinds remarks opened p (drop p processes) ≡ whole → all ≡ rows ++ replicate (length opened) Closes → all ≡ whole
rows-end kinds remarks processes opened p rows all whole past so_far closed =
    closed ∙ ap (λ (l : List Process). rows ++ rows_from kinds remarks opened p l) (sym (drop_all p processes past)) ∙ so_far
