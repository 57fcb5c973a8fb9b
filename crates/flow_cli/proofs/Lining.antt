-- The lines on the files of the first processes of a plan, and one process more.
use Rattle.std.proofs.Common.{◌≡◌, ℕ, zero, suc, ◌+◌, ◌<◌, length, List, [], ◌∷◌, ◌++◌, take, get_or, Some, None, Ok, Err, sym, ◌∙◌, ap, subst, append_assoc, arith}
use mathlib.Core.List.{append-nil}
use Rattle.std.specs.Prelude.{slice_get, codes, IfSome, OnOk}
use Rattle.std.specs.declared.alloc.AllocError.{AllocError}
use Rattle.std.specs.declared.result.Result.{Result}
use Rattle.std.specs.Fmt.{decimal}
use Rattle.std.specs.List.{flat_map}
use Rattle.std.specs.declared.option.Option.{Option}
use Rattle.flow_plan.specs.declared.plan.Process.{Process}
use Rattle.flow_text.specs.Edge.{Name}
use Rattle.flow_load.specs.Components.{written_by}
use Rattle.flow_cli.specs.Makes.{output_lines_at, output_lines_from}
use Rattle.flow_load.proofs.Readings.{there_at}
use Rattle.flow_machine.proofs.Lists.{read-there}

step : (wrote : ℕ → List ℕ) (p k : ℕ) (ps : List Process) (process : Process) → slice_get ps k ≡ Some process
    → output_lines_from wrote p (take (suc k) ps) ≡ output_lines_from wrote p (take k ps) ++ output_lines_at wrote (p + k) process
step wrote p k [] process h = cc
step wrote p zero (x ∷ xs) process h =
    let same : x ≡ process = cc in
    let n : p ≡ p + zero = omega arith in
    append-nil (output_lines_at wrote p x) ∙ ap (λ y. output_lines_at wrote p y) same ∙ ap (λ m. output_lines_at wrote m process) n
step wrote p (suc k) (x ∷ xs) process h =
    let n : p + 1 + k ≡ p + suc k = omega arith in
    ap (λ rest. output_lines_at wrote p x ++ rest) (step wrote (p + 1) k xs process h)
    ∙ sym (append_assoc (output_lines_at wrote p x) (output_lines_from wrote (p + 1) (take k xs)) (output_lines_at wrote (p + 1 + k) process))
    ∙ ap (λ m. (output_lines_at wrote p x ++ output_lines_from wrote (p + 1) (take k xs)) ++ output_lines_at wrote m process) n

-- One process more has one line more, if it writes a file.
pub one-line-more : (wrote : ℕ → List ℕ) (ps : List Process) (k : ℕ) (first before after : List ℕ) → k < length ps
    → IfSome (slice_get ps k) (λ p. after ≡ before ++ output_lines_at wrote k p)
    → before ≡ first ++ output_lines_from wrote 0 (take k ps) → after ≡ first ++ output_lines_from wrote 0 (take (suc k) ps)
one-line-more wrote ps k first before after lt puts is =
    let p = there_at ps k lt in
    let grown : after ≡ before ++ output_lines_at wrote k p.0 = subst (λ (o : Option Process). IfSome o (λ p. after ≡ before ++ output_lines_at wrote k p)) p.1 puts in
    let n : 0 + k ≡ k = omega arith in
    grown
    ∙ ap (λ l. l ++ output_lines_at wrote k p.0) is
    ∙ append_assoc first (output_lines_from wrote 0 (take k ps)) (output_lines_at wrote k p.0)
    ∙ ap (λ l. first ++ l) (ap (λ m. output_lines_from wrote 0 (take k ps) ++ output_lines_at wrote m p.0) (sym n) ∙ sym (step wrote 0 k ps p.0 p.1))

-- a process that writes a file has the line of its name and of what it wrote
one-line : (wrote : ℕ → List ℕ) (k : ℕ) (found : Option Process) (old new file name bytes : List ℕ) → new ≡ old ++ (codes "output " ++ name ++ 32 ∷ decimal (length bytes) ++ 10 ∷ [])
    → IfSome found (λ p. name ≡ p.name) → bytes ≡ wrote k → IfSome found (λ p. written_by p ≡ file ∷ []) → IfSome found (λ p. new ≡ old ++ output_lines_at wrote k p)
one-line wrote k None old new file name bytes puts named is h = tt
one-line wrote k (Some p) old new file name bytes puts named is h =
    puts
    ∙ ap (λ (n : List ℕ). old ++ (codes "output " ++ n ++ 32 ∷ decimal (length bytes) ++ 10 ∷ [])) named
    ∙ ap (λ (b : List ℕ). old ++ (codes "output " ++ p.name ++ 32 ∷ decimal (length b) ++ 10 ∷ [])) is
    ∙ ap (λ l. old ++ l) (sym (append-nil (codes "output " ++ p.name ++ 32 ∷ decimal (length (wrote k)) ++ 10 ∷ [])))
    ∙ ap (λ names. old ++ flat_map (λ (name : Name). codes "output " ++ p.name ++ 32 ∷ decimal (length (wrote k)) ++ 10 ∷ []) names) (sym h)

-- The line of a process that writes a file was appended, where memory wasn't wanting.
pub puts-line : (wrote : ℕ → List ℕ) (k : ℕ) (ps : List Process) (process : Process) (r : Result (Unit {0}) AllocError) (old new file name bytes : List ℕ)
    → OnOk r (new ≡ old ++ (codes "output " ++ name ++ 32 ∷ decimal (length bytes) ++ 10 ∷ []))
    → k < length ps → process ≡ get_or ps k process → name ≡ process.name → bytes ≡ wrote k → IfSome (slice_get ps k) (λ p. written_by p ≡ file ∷ [])
    → OnOk r (IfSome (slice_get ps k) (λ p. new ≡ old ++ output_lines_at wrote k p))
puts-line wrote k ps process (Ok done) old new file name bytes puts lt is named same h =
    let there : slice_get ps k ≡ Some process = read-there ps k process lt is in
    let names : IfSome (slice_get ps k) (λ p. name ≡ p.name) = subst (λ (o : Option Process). IfSome o (λ p. name ≡ p.name)) (sym there) named in
    one-line wrote k (slice_get ps k) old new file name bytes puts names same h
puts-line wrote k ps process (Err e) old new file name bytes puts lt is named same h = tt
