-- A port that a process doesn't have is spelled by no bytes.
use Rattle.std.proofs.Common.{◌≡◌, ℕ, zero, suc, ◌<◌, ◌≤◌, nat_le, true, false, List, [], ◌∷◌, ◌++◌, length, Option, Some, None, refl, sym, ◌∙◌, ap, arith, slice_get, length-append}
use Rattle.std.specs.Prelude.{unwrap_or}
use Rattle.std.specs.Option.{option_map, option_and_then}
use Rattle.flow_plan.specs.declared.kind.PortRef.{PortRef}
use Rattle.flow_plan.specs.declared.plan.Process.{Process}
use Rattle.flow_plan.specs.declared.plan.PortTable.{PortTable}
use Rattle.flow_plan.specs.Network.{Network, IsInputEnd, IsOutputEnd, LaidOut, automatic_input, automatic_output, input_port, output_port, ports_of, spelled}
use Rattle.flow_plan.specs.Valid.{IsValid}
use Rattle.flow_plan.proofs.PortNames.{Laid, LaidOut-at}
use Rattle.flow_drawing.specs.Ports.{has_input, has_output, input_text, output_text, port_text}

past : {X : Type 0} (xs : List X) (i : ℕ) → length xs ≤ i → slice_get xs i ≡ None
past [] zero below = refl
past [] (suc i) below = refl
past (x ∷ xs) zero below = absurd (omega (arith, below))
past (x ∷ xs) (suc i) below = past xs i (omega (arith, below))

-- no process, no table
no-table : (processes : List Process) (tables : List PortTable) (p : ℕ) → LaidOut processes tables → slice_get processes p ≡ None → slice_get tables p ≡ None
no-table [] [] p laid none = past [] p (omega arith)
no-table [] (t ∷ ts) p laid none = absurd laid
no-table (x ∷ xs) [] p laid none = absurd laid
no-table (x ∷ xs) (t ∷ ts) zero laid none = absurd (cc)
no-table (x ∷ xs) (t ∷ ts) (suc p) laid none = no-table xs ts p laid.2 none

behind : (ports : List PortRef) (last : PortRef) (i : ℕ) → length ports < i → slice_get (ports ++ last ∷ []) i ≡ None
behind ports last i far = past (ports ++ last ∷ []) i (omega (arith, far, length-append ports (last ∷ [])))

pub no-input : (plan : Network) (processes : List Process) (p i : ℕ) → IsValid plan → processes ≡ plan.processes → has_input processes p i ≡ false → [] ≡ input_text plan p i
no-input plan processes p i valid are lacks = ap port_text (sym (by (slice_get plan.processes p) refl (ap (λ (l : List Process). has_input l p i) (sym are) ∙ lacks))) where
  by : (found : Option Process) → slice_get plan.processes p ≡ found → unwrap_or (option_map (λ (x : Process). nat_le i x.inputs) found) false ≡ false → input_port plan p i ≡ None
  by None none lacks = ap (option_and_then (λ (table : PortTable). slice_get (ports_of table.inputs ++ automatic_input ∷ []) i)) (no-table plan.processes plan.tables p valid.laid_out none)
  by (Some x) here lacks =
      let laid : Laid plan.tables p x = LaidOut-at plan.processes plan.tables p x valid.laid_out here in
      let beyond : nat_le i x.inputs ≡ false = lacks in
      let far : x.inputs < i = grind (arith, beyond) in
      ap (option_and_then (λ (table : PortTable). slice_get (ports_of table.inputs ++ automatic_input ∷ []) i)) laid.here ∙ behind (ports_of laid.table.inputs) automatic_input i (omega (arith, far, laid.inputs))

pub no-output : (plan : Network) (processes : List Process) (p o : ℕ) → IsValid plan → processes ≡ plan.processes → has_output processes p o ≡ false → [] ≡ output_text plan p o
no-output plan processes p o valid are lacks = ap port_text (sym (by (slice_get plan.processes p) refl (ap (λ (l : List Process). has_output l p o) (sym are) ∙ lacks))) where
  by : (found : Option Process) → slice_get plan.processes p ≡ found → unwrap_or (option_map (λ (x : Process). nat_le o x.outputs) found) false ≡ false → output_port plan p o ≡ None
  by None none lacks = ap (option_and_then (λ (table : PortTable). slice_get (ports_of table.outputs ++ automatic_output ∷ []) o)) (no-table plan.processes plan.tables p valid.laid_out none)
  by (Some x) here lacks =
      let laid : Laid plan.tables p x = LaidOut-at plan.processes plan.tables p x valid.laid_out here in
      let beyond : nat_le o x.outputs ≡ false = lacks in
      let far : x.outputs < o = grind (arith, beyond) in
      ap (option_and_then (λ (table : PortTable). slice_get (ports_of table.outputs ++ automatic_output ∷ []) o)) laid.here ∙ behind (ports_of laid.table.outputs) automatic_output o (omega (arith, far, laid.outputs))

-- A port that is spelled.
pub named : (port : Option PortRef) (name : List ℕ) → option_map spelled port ≡ Some name → name ≡ port_text port
named port name is = sym (ap (λ (o : Option (List ℕ)). unwrap_or o []) is)

-- A process that has this input can be an end there.
pub is-input : (plan : Network) (processes : List Process) (p i : ℕ) → processes ≡ plan.processes → has_input processes p i ≡ true → IsInputEnd plan p i
is-input plan processes p i are has = by (slice_get plan.processes p) refl (ap (λ (l : List Process). has_input l p i) (sym are) ∙ has) where
  by : (found : Option Process) → slice_get plan.processes p ≡ found → unwrap_or (option_map (λ (x : Process). nat_le i x.inputs) found) false ≡ true → IsInputEnd plan p i
  by None none has = absurd (cc)
  by (Some x) here has =
      let fits : nat_le i x.inputs ≡ true = has in
      (x, here, grind (arith, fits))

-- A process that has this output can be an end there.
pub is-output : (plan : Network) (processes : List Process) (p o : ℕ) → processes ≡ plan.processes → has_output processes p o ≡ true → IsOutputEnd plan p o
is-output plan processes p o are has = by (slice_get plan.processes p) refl (ap (λ (l : List Process). has_output l p o) (sym are) ∙ has) where
  by : (found : Option Process) → slice_get plan.processes p ≡ found → unwrap_or (option_map (λ (x : Process). nat_le o x.outputs) found) false ≡ true → IsOutputEnd plan p o
  by None none has = absurd (cc)
  by (Some x) here has =
      let fits : nat_le o x.outputs ≡ true = has in
      (x, here, grind (arith, fits))
