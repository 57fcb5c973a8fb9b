-- The templates of a plan, by the places of their ports.
use Rattle.std.proofs.Common.{◌≡◌, ℕ, zero, suc, ◌+◌, List, [], ◌∷◌, Some, refl, sym, ap, ◌∙◌, subst, arith, slice_get}
use Rattle.std.specs.List.{Contains}
use Rattle.std.proofs.lemmas.List.Elements.{All-contains, Contains-append_left, Contains-append_right}
use Rattle.flow_plan.specs.declared.kind.PortClass.TheVariants.{Template}
use Rattle.flow_plan.specs.declared.plan.Process.{Process}
use Rattle.flow_plan.specs.declared.plan.PortRow.{PortRow}
use Rattle.flow_plan.specs.declared.plan.PortTable.{PortTable}
use Rattle.flow_plan.specs.Network.{Network}
use Rattle.flow_plan.specs.Texts.{IsTemplateFor}
use Rattle.flow_plan.specs.Templates.{TemplateGiven, Fits, TemplatesFit, given_at, template_given, template_of, templates, templates_among, templates_in}

-- what is a template of a row's port is one of the rows' ports
in-rows : (x : Process) (k : ℕ) (rows : List PortRow) (i : ℕ) (row : PortRow) (t : TemplateGiven) → slice_get rows i ≡ Some row → Contains (template_of x (k + i) row.spec.name row.spec.class) t → Contains (templates_in x k rows) t
in-rows x k [] i row t at is = absurd cc
in-rows x k (first ∷ rows) zero row t at is =
    let same : row ≡ first = (let h : first ≡ row = cc in sym h) in
    let place : k + 0 ≡ k = omega arith in
    let here : Contains (template_of x k row.spec.name row.spec.class) t = subst (λ (j : ℕ). Contains (template_of x j row.spec.name row.spec.class) t) place is in
    Contains-append_left (template_of x k first.spec.name first.spec.class) (templates_in x (suc k) rows) t (subst (λ (r : PortRow). Contains (template_of x k r.spec.name r.spec.class) t) same here)
in-rows x k (first ∷ rows) (suc i) row t at is =
    let place : k + suc i ≡ suc k + i = omega arith in
    let there = subst (λ (j : ℕ). Contains (template_of x j row.spec.name row.spec.class) t) place is in
    Contains-append_right (template_of x k first.spec.name first.spec.class) (templates_in x (suc k) rows) t (in-rows x (suc k) rows i row t at there)

-- what is a template of a process is one of the processes
in-processes : (xs : List Process) (tables : List PortTable) (p : ℕ) (x : Process) (table : PortTable) (t : TemplateGiven) → slice_get xs p ≡ Some x → slice_get tables p ≡ Some table → Contains (templates_in x 0 table.inputs) t → Contains (templates_among xs tables) t
in-processes [] tables p x table t there here is = absurd cc
in-processes (y ∷ ys) [] p x table t there here is = absurd cc
in-processes (y ∷ ys) (other ∷ tables) zero x table t there here is =
    let process : x ≡ y = (let h : y ≡ x = cc in sym h) in
    let same : table ≡ other = (let h : other ≡ table = cc in sym h) in
    Contains-append_left (templates_in y 0 other.inputs) (templates_among ys tables) t (subst (λ (z : Process). Contains (templates_in z 0 other.inputs) t) process (subst (λ (u : PortTable). Contains (templates_in x 0 u.inputs) t) same is))
in-processes (y ∷ ys) (other ∷ tables) (suc p) x table t there here is = Contains-append_right (templates_in y 0 other.inputs) (templates_among ys tables) t (in-processes ys tables p x table t there here is)

-- Where the templates of a plan are such for their patterns, a text that a process is given at a port for templates is one for its pattern.
pub fits-its-pattern : (n : Network) (p place pattern : ℕ) (x : Process) (table : PortTable) (row : PortRow) (text : List ℕ) → TemplatesFit n → slice_get n.processes p ≡ Some x → slice_get n.tables p ≡ Some table → slice_get table.inputs place ≡ Some row
    → row.spec.class ≡ Template pattern → given_at place x.options ≡ Some text → IsTemplateFor (given_at pattern x.options) text
fits-its-pattern n p place pattern x table row text fit there here at class given =
    let t : TemplateGiven = record { process = x.name; port = row.spec.name; pattern = given_at pattern x.options; text = text } in
    let first : 0 + place ≡ place = omega arith in
    let alone : template_of x (0 + place) row.spec.name row.spec.class ≡ t ∷ [] = ap (λ (j : ℕ). template_of x j row.spec.name row.spec.class) first ∙ ap (template_of x place row.spec.name) class ∙ ap (template_given x row.spec.name pattern) given in
    let one : Contains (template_of x (0 + place) row.spec.name row.spec.class) t = subst (λ (ts : List TemplateGiven). Contains ts t) (sym alone) (0, omega arith, refl) in
    All-contains Fits (templates n) t fit (in-processes n.processes n.tables p x table t there here (in-rows x 0 table.inputs place row t at one))
