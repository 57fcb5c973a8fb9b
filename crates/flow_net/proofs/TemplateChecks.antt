-- What is known once templates were looked at, one behind the other.
use Rattle.std.proofs.Common.{◌≡◌, ◌⊎◌, ℕ, ◌+◌, ◌<◌, ◌≤◌, List, [], ◌∷◌, ◌++◌, Some, None, Ok, Err, length, drop, get_or, inl, inr, refl, sym, ap, subst, ◌∙◌, append_assoc, add-one, min, arith}
use Rattle.std.specs.declared.result.Result.{Result}
use Rattle.std.specs.List.{All}
use Rattle.std.proofs.lemmas.Bool.{cases_lt}
use Rattle.std.proofs.lemmas.List.{drop_more, drop_all}
use Rattle.std.proofs.lemmas.List.Elements.{All-append, All-nil}
use Rattle.flow_net.specs.declared.fault.PlanFault.{PlanFault}
use Rattle.flow_net.specs.declared.fault.PlanFault.TheVariants.{BadOption}
use Rattle.flow_net.specs.declared.fault.PlanStop.{PlanStop}
use Rattle.flow_net.specs.declared.fault.PlanStop.TheVariants.{Fault, NoMemory}
use Rattle.flow_plan.specs.declared.kind.PortClass.TheVariants.{Template}
use Rattle.flow_plan.specs.declared.plan.Process.{Process}
use Rattle.flow_plan.specs.declared.plan.PortRow.{PortRow}
use Rattle.flow_plan.specs.declared.plan.PortTable.{PortTable}
use Rattle.flow_plan.specs.Texts.{IsTemplateFor}
use Rattle.flow_plan.specs.Templates.{TemplateGiven, Fits, given_at, template_of, templates_in, templates_among}
use Rattle.flow_net.specs.Finishes.{Checked, RowHasTemplate, RowsHaveTemplates, HaveTemplates}

-- a text that isn't a template for its pattern is the first of its port
pub Checked-unfit : (process : Process) (place : ℕ) (port : List ℕ) (pattern : ℕ) (text : List ℕ) (fault : PlanFault) → given_at place process.options ≡ Some text → (IsTemplateFor (given_at pattern process.options) text → ⊥) → fault ≡ BadOption process.name (record { name = port; element = None }) → Checked (template_of process place port (Template pattern)) (Err (Fault fault))
Checked-unfit process place port pattern text fault given unfit is = rw given ([], [], record { process = process.name; port = port; pattern = given_at pattern process.options; text = text }, refl, All-nil Fits, unfit, is)

-- where the first of them fit, the others decide
Checked-behind : (given more : List TemplateGiven) (outcome : Result (Unit {0}) PlanStop) → All Fits given → Checked more outcome → Checked (given ++ more) outcome
Checked-behind given more (Ok u) fit rest = All-append Fits given more fit rest
Checked-behind given more (Err (Fault fault)) fit rest =
    (given ++ rest.0, rest.1, rest.2, ap (λ (xs : List TemplateGiven). given ++ xs) rest.3 ∙ sym (append_assoc given rest.0 (rest.2 ∷ rest.1)), All-append Fits given rest.0 fit rest.4, rest.5, rest.6)
Checked-behind given more (Err NoMemory) fit rest = tt

-- the first that doesn't fit is that of all, whatever stands behind
Checked-before : (given more : List TemplateGiven) (stop : PlanStop) → Checked given (Err stop) → Checked (given ++ more) (Err stop)
Checked-before given more (Fault fault) first =
    (first.0, first.1 ++ more, first.2, ap (λ (xs : List TemplateGiven). xs ++ more) first.3 ∙ append_assoc first.0 (first.2 ∷ first.1) more, first.4, first.5, first.6)
Checked-before given more NoMemory first = tt

-- the templates of rows from a place on are those of the row there, and those of the rows behind it
templates_in-more : (process : Process) (rows : List PortRow) (place : ℕ) (row : PortRow) → place < length rows → row ≡ get_or rows place row → templates_in process place (drop place rows) ≡ template_of process place row.spec.name row.spec.class ++ templates_in process (place + 1) (drop (place + 1) rows)
templates_in-more process rows place row within is =
    ap (templates_in process place) (drop_more rows place row within ∙ ap (λ (r : PortRow). r ∷ drop (place + 1) rows) (sym is))
    ∙ ap (λ (m : ℕ). template_of process place row.spec.name row.spec.class ++ templates_in process m (drop (place + 1) rows)) (sym (add-one place))

pub Checked-next_row : (process : Process) (rows : List PortRow) (place : ℕ) (row : PortRow) (outcome : Result (Unit {0}) PlanStop) → place < length rows → row ≡ get_or rows place row → All Fits (template_of process place row.spec.name row.spec.class) → Checked (templates_in process (place + 1) (drop (place + 1) rows)) outcome → Checked (templates_in process place (drop place rows)) outcome
Checked-next_row process rows place row outcome within is fit rest =
    subst (λ (given : List TemplateGiven). Checked given outcome) (sym (templates_in-more process rows place row within is)) (Checked-behind _ _ outcome fit rest)

pub Checked-bad_row : (process : Process) (rows : List PortRow) (place : ℕ) (row : PortRow) (stop : PlanStop) → place < length rows → row ≡ get_or rows place row → RowHasTemplate process place row (Err stop) → Checked (templates_in process place (drop place rows)) (Err stop)
Checked-bad_row process rows place row stop within is bad =
    subst (λ (given : List TemplateGiven). Checked given (Err stop)) (sym (templates_in-more process rows place row within is)) (Checked-before _ _ stop bad)

-- and so those of processes with their tables
templates_among-more : (processes : List Process) (tables : List PortTable) (place : ℕ) (process : Process) (table : PortTable) → place < length processes → place < length tables → process ≡ get_or processes place process → table ≡ get_or tables place table → templates_among (drop place processes) (drop place tables) ≡ templates_in process 0 table.inputs ++ templates_among (drop (place + 1) processes) (drop (place + 1) tables)
templates_among-more processes tables place process table within also is too =
    ap (λ (xs : List Process). templates_among xs (drop place tables)) (drop_more processes place process within ∙ ap (λ (x : Process). x ∷ drop (place + 1) processes) (sym is))
    ∙ ap (templates_among (process ∷ drop (place + 1) processes)) (drop_more tables place table also ∙ ap (λ (x : PortTable). x ∷ drop (place + 1) tables) (sym too))

pub HaveTemplates-next : (processes : List Process) (tables : List PortTable) (place : ℕ) (process : Process) (table : PortTable) (outcome : Result (Unit {0}) PlanStop) → place < length processes → place < length tables → process ≡ get_or processes place process → table ≡ get_or tables place table → All Fits (templates_in process 0 table.inputs) → HaveTemplates (drop (place + 1) processes) (drop (place + 1) tables) outcome → HaveTemplates (drop place processes) (drop place tables) outcome
HaveTemplates-next processes tables place process table outcome within also is too fit rest =
    subst (λ (given : List TemplateGiven). Checked given outcome) (sym (templates_among-more processes tables place process table within also is too)) (Checked-behind _ _ outcome fit rest)

pub HaveTemplates-bad : (processes : List Process) (tables : List PortTable) (place : ℕ) (process : Process) (table : PortTable) (stop : PlanStop) → place < length processes → place < length tables → process ≡ get_or processes place process → table ≡ get_or tables place table → RowsHaveTemplates process table.inputs (Err stop) → HaveTemplates (drop place processes) (drop place tables) (Err stop)
HaveTemplates-bad processes tables place process table stop within also is too bad =
    subst (λ (given : List TemplateGiven). Checked given (Err stop)) (sym (templates_among-more processes tables place process table within also is too)) (Checked-before _ _ stop bad)

-- where the shorter list ends, there are none
templates_among-end : (processes : List Process) (tables : List PortTable) (place : ℕ) → place ≡ min (length processes) (length tables) → templates_among (drop place processes) (drop place tables) ≡ []
templates_among-end processes tables place ended = by (cases_lt (length tables) (length processes))
  where
    none : (xs : List Process) → templates_among xs [] ≡ []
    none [] = refl
    none (x ∷ xs) = refl

    by : (length tables < length processes) ⊎ (length processes ≤ length tables) → templates_among (drop place processes) (drop place tables) ≡ []
    by (inl fewer) = ap (templates_among (drop place processes)) (drop_all place tables (omega (arith, ended, fewer))) ∙ none (drop place processes)
    by (inr enough) = ap (λ (xs : List Process). templates_among xs (drop place tables)) (drop_all place processes (omega (arith, ended, enough)))

pub HaveTemplates-end : (processes : List Process) (tables : List PortTable) (place : ℕ) → place ≡ min (length processes) (length tables) → HaveTemplates (drop place processes) (drop place tables) (Ok tt)
HaveTemplates-end processes tables place ended = subst (λ (given : List TemplateGiven). All Fits given) (sym (templates_among-end processes tables place ended)) (All-nil Fits)
