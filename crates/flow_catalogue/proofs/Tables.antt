-- The tables of processes of the standard kinds, and the options that go with them.
use Rattle.std.proofs.Common.{◌≡◌, ℕ, zero, suc, ◌<◌, List, [], ◌∷◌, length, Some, refl, ◌∙◌, ap, arith, slice_get}
use Rattle.flow_plan.specs.declared.plan.Process.{Process}
use Rattle.flow_plan.specs.declared.plan.PortTable.{PortTable}
use Rattle.flow_plan.specs.Network.{Network, LaidOut, ports_of}
use Rattle.flow_plan.specs.Valid.{IsValid}

-- A process of a plan with its table.
pub record HasTable (n : Network) (p : ℕ) (x : Process) : Type 0 where
  pub table : PortTable
  pub here : slice_get n.tables p ≡ Some table
  pub inputs : length (ports_of table.inputs) ≡ x.inputs
  pub outputs : length (ports_of table.outputs) ≡ x.outputs

table_at : (processes : List Process) (tables : List PortTable) (p : ℕ) (x : Process) → LaidOut processes tables → slice_get processes p ≡ Some x
    → (table : PortTable) × (slice_get tables p ≡ Some table) × (length (ports_of table.inputs) ≡ x.inputs) × (length (ports_of table.outputs) ≡ x.outputs)
table_at [] tables p x laid there = absurd cc
table_at (y ∷ ys) [] p x laid there = absurd laid
table_at (y ∷ ys) (t ∷ ts) zero x laid there =
    let same : y ≡ x = cc in
    (t, refl, laid.0 ∙ ap (λ (z : Process). z.inputs) same, laid.1 ∙ ap (λ (z : Process). z.outputs) same)
table_at (y ∷ ys) (t ∷ ts) (suc p) x laid there = table_at ys ts p x laid.2 there

-- Each process of a valid plan has a table.
pub has-table : (n : Network) (p : ℕ) (x : Process) → IsValid n → slice_get n.processes p ≡ Some x → HasTable n p x
has-table n p x valid there =
    let t = table_at n.processes n.tables p x valid.laid_out there in
    record { table = t.0; here = t.1; inputs = t.2; outputs = t.3 }

-- There is a process at each place within the list.
pub there-at : (xs : List Process) (p : ℕ) → p < length xs → (x : Process) × (slice_get xs p ≡ Some x)
there-at [] p lt = absurd (omega arith)
there-at (x ∷ xs) zero lt = (x, refl)
there-at (x ∷ xs) (suc p) lt = there-at xs p (omega arith)

-- a list of options that are all at place 0, no two of them at different places of the list, is one option
pub only-option : (options : List (ℕ × List ℕ)) (k : ℕ) (text : List ℕ) → slice_get options k ≡ Some (0, text)
    → ((j i : ℕ) (t : List ℕ) → slice_get options j ≡ Some (i, t) → i ≡ 0)
    → ((j l : ℕ) (t u : List ℕ) → slice_get options j ≡ Some (0, t) → slice_get options l ≡ Some (0, u) → j ≡ l)
    → (file : List ℕ) × (options ≡ (0, file) ∷ [])
only-option [] k text there zeros one = absurd cc
only-option (a ∷ []) k text there zeros one =
    let zero_first : a.0 ≡ 0 = zeros 0 a.0 a.1 refl in
    (a.1, ap (λ (i : ℕ). (i, a.1) ∷ []) zero_first)
only-option (a ∷ b ∷ more) k text there zeros one =
    let first : a.0 ≡ 0 = zeros 0 a.0 a.1 refl in
    let second : b.0 ≡ 0 = zeros 1 b.0 b.1 refl in
    let at_first : slice_get (a ∷ b ∷ more) 0 ≡ Some (0, a.1) = ap (λ (i : ℕ). Some (i, a.1)) first in
    let at_second : slice_get (a ∷ b ∷ more) 1 ≡ Some (0, b.1) = ap (λ (i : ℕ). Some (i, b.1)) second in
    let bad = one 0 1 a.1 b.1 at_first at_second in
    absurd (omega (arith, bad))
