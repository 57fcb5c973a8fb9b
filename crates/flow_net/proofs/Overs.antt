-- The processes of the plan of a sound draft are of the draft's kinds.
use Rattle.std.proofs.Common.{◌≡◌, ℕ, List, Some, true, false, map, ap, sym, ◌∙◌, slice_get}
use Rattle.std.specs.Prelude.{codes}
use Rattle.flow_plan.specs.declared.plan.Process.{Process}
use Rattle.flow_plan.specs.declared.plan.Connection.{Connection}
use Rattle.flow_plan.specs.declared.plan.PortTable.{PortTable}
use Rattle.flow_net.specs.Drafts.{Draft}
use Rattle.flow_net.specs.Sound.{IsSound, entries_of}
use Rattle.flow_net.specs.Finishes.{process_of, rows_of, table_of}
use Rattle.flow_net.specs.Kinds.{automatic}
use Rattle.flow_net.specs.Over.{carries, entries, IsOfKind, IsOver}
use Rattle.flow_net.proofs.Lasts.{entries-front, outputs-closed}
use Rattle.flow_net.proofs.Rows.{mapped, entries-rows}

IsOver-plan : (draft : Draft) (connections : List Connection) → IsSound draft → IsOver draft.kinds (record { processes = map (process_of draft.ports) draft.processes; connections = connections; tables = map (table_of draft.ports) draft.processes })
IsOver-plan draft connections sound = record { each = each }
  where
    each : (p : ℕ) (x : Process) (table : PortTable) → slice_get (map (process_of draft.ports) draft.processes) p ≡ Some x → slice_get (map (table_of draft.ports) draft.processes) p ≡ Some table → IsOfKind draft.kinds x table
    each p x table here there =
        let found = mapped (process_of draft.ports) draft.processes p x here in
        let laid = mapped (table_of draft.ports) draft.processes p table there in
        let kind = sound.shaped.each p found.0 found.1 in
        record {
          place = kind.place;
          kind = kind.kind;
          here = kind.here;
          name = ap (λ (z : Process). z.kind) (sym found.2) ∙ kind.name;
          inputs =
              ap (λ (t : PortTable). entries t.inputs) (sym laid.2)
              ∙ entries-front (rows_of draft.ports laid.0.number true) kind.kind.inputs (automatic (codes "*IN"))
              (entries-rows draft.ports laid.0.number true ∙ ap (λ (m : ℕ). entries_of draft.ports m true) (sound.numbers p laid.0 laid.1) ∙ kind.inputs);
          outputs =
              ap (λ (t : PortTable). entries t.outputs) (sym laid.2)
              ∙ entries-front (rows_of draft.ports laid.0.number false) (map carries kind.kind.outputs) (automatic (codes "*OUT"))
              (entries-rows draft.ports laid.0.number false ∙ ap (λ (m : ℕ). entries_of draft.ports m false) (sound.numbers p laid.0 laid.1) ∙ outputs-closed draft.kinds draft.ports p found.0.kind kind);
        }

-- a network that was made of the parts of a sound draft is over the draft's kinds
pub IsOver-made : (draft : Draft) (processes : List Process) (connections : List Connection) (tables : List PortTable) → IsSound draft → processes ≡ map (process_of draft.ports) draft.processes → tables ≡ map (table_of draft.ports) draft.processes → IsOver draft.kinds (record { processes = processes; connections = connections; tables = tables })
IsOver-made draft processes connections tables sound processes_are tables_are = rw (processes_are, tables_are) (IsOver-plan draft connections sound)
