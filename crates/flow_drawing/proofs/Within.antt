-- The processes within a box, told by those that are left.
use Rattle.std.proofs.Common.{◌≡◌, ℕ, ◌+◌, ◌<◌, ◌≤◌, Bool, true, false, if◌then◌else◌, List, ◌∷◌, length, get_or, drop, refl, sym, ◌∙◌, ap}
use Rattle.std.proofs.lemmas.List.{drop_more, drop_all}
use Rattle.flow_plan.specs.declared.plan.Process.{Process}
use Rattle.flow_drawing.specs.declared.drawing.Mark.{Mark}
use Rattle.flow_drawing.specs.declared.drawing.Mark.TheVariants.{Plain, Blocked, Cycle}
use Rattle.flow_drawing.specs.declared.drawing.Remark.{Remark}
use Rattle.flow_drawing.specs.Folding.{first_within, graver, is_within, mark_within, own_mark}

-- the first that is left
front : (xs : List Process) (i : ℕ) (x : Process) → i < length xs → x ≡ get_or xs i x → drop i xs ≡ x ∷ drop (i + 1) xs
front xs i x below is = drop_more xs i x below ∙ ap (λ (y : Process). y ∷ drop (i + 1) xs) (sym is)

-- it decides where it is in the box
step : (box : List ℕ) (xs : List Process) (i : ℕ) (x : Process) (b : Bool) (whole : ℕ) → i < length xs → x ≡ get_or xs i x → is_within box x.name ≡ b
    → first_within box i (drop i xs) ≡ whole → (if b then i else first_within box (i + 1) (drop (i + 1) xs)) ≡ whole
step box xs i x b whole below is within so_far =
    ap (λ (t : Bool). if t then i else first_within box (i + 1) (drop (i + 1) xs)) (sym within) ∙ ap (first_within box i) (sym (front xs i x below is)) ∙ so_far

pub first-here : (box : List ℕ) (xs : List Process) (i : ℕ) (x : Process) (whole : ℕ) → i < length xs → x ≡ get_or xs i x → is_within box x.name ≡ true
    → first_within box i (drop i xs) ≡ whole → i ≡ whole
first-here box xs i x whole below is within so_far = step box xs i x true whole below is within so_far

pub first-past : (box : List ℕ) (xs : List Process) (i : ℕ) (x : Process) (whole : ℕ) → i < length xs → x ≡ get_or xs i x → is_within box x.name ≡ false
    → first_within box i (drop i xs) ≡ whole → first_within box (i + 1) (drop (i + 1) xs) ≡ whole
first-past box xs i x whole below is within so_far = step box xs i x false whole below is within so_far

-- no process is left
pub first-none : (box : List ℕ) (xs : List Process) (i whole : ℕ) → length xs ≤ i → first_within box i (drop i xs) ≡ whole → i ≡ whole
first-none box xs i whole past so_far = ap (first_within box i) (sym (drop_all i xs past)) ∙ so_far

-- the graver of marks
graver-assoc : (a b c : Mark) → graver (graver a b) c ≡ graver a (graver b c)
graver-assoc Plain b c = refl
graver-assoc Cycle b c = refl
graver-assoc Blocked Plain c = refl
graver-assoc Blocked Cycle c = refl
graver-assoc Blocked Blocked Plain = refl
graver-assoc Blocked Blocked Blocked = refl
graver-assoc Blocked Blocked Cycle = refl

graver-plain : (a : Mark) → graver a Plain ≡ a
graver-plain Plain = refl
graver-plain Blocked = refl
graver-plain Cycle = refl

-- one mark more
pub mark-more : (remarks : List Remark) (box : List ℕ) (xs : List Process) (i : ℕ) (x : Process) (old own new whole : Mark) → i < length xs → x ≡ get_or xs i x
    → own ≡ own_mark remarks box i x.name → new ≡ graver old own
    → graver old (mark_within remarks box i (drop i xs)) ≡ whole → graver new (mark_within remarks box (i + 1) (drop (i + 1) xs)) ≡ whole
mark-more remarks box xs i x old own new whole below is are grown so_far =
    let rest : Mark = mark_within remarks box (i + 1) (drop (i + 1) xs) in
    ap (λ (m : Mark). graver m rest) (grown ∙ ap (graver old) are)
    ∙ graver-assoc old (own_mark remarks box i x.name) rest
    ∙ ap (λ (l : List Process). graver old (mark_within remarks box i l)) (sym (front xs i x below is)) ∙ so_far

-- no mark is left
pub mark-end : (remarks : List Remark) (box : List ℕ) (xs : List Process) (i : ℕ) (mark whole : Mark) → length xs ≤ i → graver mark (mark_within remarks box i (drop i xs)) ≡ whole → mark ≡ whole
mark-end remarks box xs i mark whole past so_far = sym (graver-plain mark) ∙ ap (λ (l : List Process). graver mark (mark_within remarks box i l)) (sym (drop_all i xs past)) ∙ so_far
