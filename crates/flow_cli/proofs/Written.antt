-- The files that the first processes of a plan write, and one process more.
use Rattle.std.proofs.Common.{◌≡◌, ◌≢◌, ℕ, zero, suc, ◌+◌, ◌<◌, length, Bool, true, false, cond, List, [], ◌∷◌, ◌++◌, map, take, Some, None, refl, sym, ◌∙◌, ap, subst, append_assoc, arith}
use mathlib.Core.List.{append-nil}
use Rattle.std.specs.Prelude.{slice_get, codes, IfSome}
use Rattle.std.specs.declared.option.Option.{Option}
use Rattle.std.specs.Str.{bytes_eq}
use Rattle.std.proofs.lemmas.Slice.Eq.{bytes_eq-Decides}
use Rattle.flow_plan.specs.declared.plan.Process.{Process}
use Rattle.flow_catalogue.specs.Files.{UsesFile}
use Rattle.flow_text.specs.Edge.{Name}
use Rattle.flow_load.specs.Step.{Filled}
use Rattle.flow_load.specs.Components.{written_by, first_option}
use Rattle.flow_load.specs.Runs.{outputs_at, outputs_from}
use Rattle.flow_load.proofs.Readings.{there_at}

step : (wrote : ℕ → List ℕ) (p k : ℕ) (ps : List Process) (process : Process) → slice_get ps k ≡ Some process
    → outputs_from wrote p (take (suc k) ps) ≡ outputs_from wrote p (take k ps) ++ outputs_at wrote (p + k) process
step wrote p k [] process h = cc
step wrote p zero (x ∷ xs) process h =
    let same : x ≡ process = cc in
    let n : p ≡ p + zero = omega arith in
    append-nil (outputs_at wrote p x) ∙ ap (λ y. outputs_at wrote p y) same ∙ ap (λ m. outputs_at wrote m process) n
step wrote p (suc k) (x ∷ xs) process h =
    let n : p + 1 + k ≡ p + suc k = omega arith in
    ap (λ rest. outputs_at wrote p x ++ rest) (step wrote (p + 1) k xs process h)
    ∙ sym (append_assoc (outputs_at wrote p x) (outputs_from wrote (p + 1) (take k xs)) (outputs_at wrote (p + 1 + k) process))
    ∙ ap (λ m. (outputs_at wrote p x ++ outputs_from wrote (p + 1) (take k xs)) ++ outputs_at wrote m process) n

test_false : (b : Bool) (P : Type 0) → (b ≡ true → P) → (P → ⊥) → b ≡ false
test_false true P to no_way = absurd (no_way (to refl))
test_false false P to no_way = refl

none_written : (p : Process) → p.kind ≢ codes "WriteLines" → written_by p ≡ []
none_written p differ =
    ap (λ b. cond b (first_option p.options) [])
    (test_false (bytes_eq p.kind (codes "WriteLines")) (p.kind ≡ codes "WriteLines") (bytes_eq-Decides p.kind (codes "WriteLines")).0 differ)

-- a process of another kind writes no file
pub none-writes : (found : Option Process) → IfSome found (λ p. UsesFile p None) → IfSome found (λ p. written_by p ≡ [])
none-writes None h = tt
none-writes (Some p) h = none_written p h.1

-- a process that writes no file has no output, and one that does has that one
pub no-output : (wrote : ℕ → List ℕ) (k : ℕ) (found : Option Process) → IfSome found (λ p. written_by p ≡ []) → IfSome found (λ p. outputs_at wrote k p ≡ [])
no-output wrote k None h = tt
no-output wrote k (Some p) h = ap (λ names. map (λ (name : Name). (name, wrote k)) names) h

-- What a writer wrote is the one output of its process.
pub one-output : (wrote : ℕ → List ℕ) (k : ℕ) (found : Option Process) (name bytes : List ℕ) → bytes ≡ wrote k
    → IfSome found (λ p. written_by p ≡ name ∷ []) → IfSome found (λ p. outputs_at wrote k p ≡ (name, bytes) ∷ [])
one-output wrote k None name bytes is h = tt
one-output wrote k (Some p) name bytes is h =
    ap (λ names. map (λ (name : Name). (name, wrote k)) names) h ∙ ap (λ (b : List ℕ). (name, b) ∷ []) (sym is)

-- one process more
pub one-more : (wrote : ℕ → List ℕ) (ps : List Process) (k : ℕ) (before after more : List Filled) → k < length ps
    → IfSome (slice_get ps k) (λ p. outputs_at wrote k p ≡ more)
    → before ≡ outputs_from wrote 0 (take k ps) → after ≡ before ++ more → after ≡ outputs_from wrote 0 (take (suc k) ps)
one-more wrote ps k before after more lt writes is grown =
    let p = there_at ps k lt in
    let more_is : outputs_at wrote k p.0 ≡ more = subst (λ (o : Option Process). IfSome o (λ p. outputs_at wrote k p ≡ more)) p.1 writes in
    let n : 0 + k ≡ k = omega arith in
    grown
    ∙ ap (λ l. l ++ more) is
    ∙ ap (λ l. outputs_from wrote 0 (take k ps) ++ l) (sym more_is)
    ∙ ap (λ m. outputs_from wrote 0 (take k ps) ++ outputs_at wrote m p.0) (sym n)
    ∙ sym (step wrote 0 k ps p.0 p.1)
