-- The tables of a plan have the numbers of elements of its processes.
use Rattle.std.proofs.Common.{◌≡◌, ℕ, ◌+◌, List, [], ◌∷◌, Some, Bool, true, false, map, refl, sym, ◌∙◌, suc, slice_get, length, arith, length-append}
use Rattle.std.specs.Prelude.{if◌then◌else◌, codes}
use Rattle.std.specs.List.{sum_by}
use Rattle.std.proofs.lemmas.List.Sums.{sum_by-cons}
use Rattle.flow_net.specs.declared.draft.DraftPort.{DraftPort}
use Rattle.flow_net.specs.declared.draft.DraftProcess.{DraftProcess}
use Rattle.flow_plan.specs.Network.{is_stream, elements_of, ports_of, LaidOut}
use Rattle.flow_net.specs.Drafts.{is_side}
use Rattle.flow_net.specs.Finishes.{size_of, count_of, counted, total_of, row_of, rows_of, table_of, process_of}
use Rattle.flow_plan.proofs.PortNames.{length_elements_of}
use Rattle.flow_net.proofs.Rows.{entries-rows}
use Rattle.flow_net.proofs.Lasts.{Closes, ports-front}

-- A row has as many elements as its port.
pub row-count : (port : DraftPort) → length (elements_of (row_of port)) ≡ count_of port
row-count port = length_elements_of (row_of port) ∙ by (is_stream port.spec.class) port.spec.array (size_of port.elements)
  where
    by : (stream array : Bool) (n : ℕ) → (if stream then (if array then (if array then n else 1) else 1) else 0) ≡ (if stream then (if array then n else 1) else 0)
    by true true n = refl
    by true false n = refl
    by false array n = refl

pub length-rows_of : (ports : List DraftPort) (p : ℕ) (s : Bool) → length (ports_of (rows_of ports p s)) ≡ total_of ports p s
length-rows_of [] p s = refl
length-rows_of (port ∷ ports) p s = by (is_side p s port) (length-rows_of ports p s) ∙ sym (sum_by-cons (counted p s) port ports)
  where
    by : (b : Bool) → length (ports_of (rows_of ports p s)) ≡ total_of ports p s → length (ports_of (if b then row_of port ∷ rows_of ports p s else rows_of ports p s)) ≡ (if b then count_of port else 0) + sum_by (counted p s) ports
    by true rest = omega (arith, rest, row-count port, length-append (elements_of (row_of port)) (ports_of (rows_of ports p s)))
    by false rest = omega (arith, rest)

-- The processes of a plan are laid out by their tables.
pub LaidOut-plan : (ports : List DraftPort) (processes : List DraftProcess) → ((k : ℕ) (begun : DraftProcess) → slice_get processes k ≡ Some begun → Closes ports begun.number) → LaidOut (map (process_of ports) processes) (map (table_of ports) processes)
LaidOut-plan ports [] closes = tt
LaidOut-plan ports (begun ∷ processes) closes =
    let first = closes 0 begun refl in (
      omega (arith, ports-front (rows_of ports begun.number true) first.inputs (codes "*IN") (entries-rows ports begun.number true ∙ first.inputs_are), length-rows_of ports begun.number true),
      omega (arith, ports-front (rows_of ports begun.number false) first.outputs (codes "*OUT") (entries-rows ports begun.number false ∙ first.outputs_are), length-rows_of ports begun.number false),
      LaidOut-plan ports processes (λ k b here. closes (suc k) b here),
    )
