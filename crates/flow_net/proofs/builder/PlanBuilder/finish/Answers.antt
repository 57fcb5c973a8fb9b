use Rattle.std.proofs.Common.{◌≡◌, Ok, refl, ◌∙◌, ap, sym, subst, List, length, slice_get, map}
use Rattle.flow_net.specs.declared.draft.DraftPort.{DraftPort}
use Rattle.flow_net.specs.declared.draft.Link.{Link}
use Rattle.flow_net.specs.Drafts.{Draft}
use Rattle.flow_net.specs.Over.{IsOver}
use Rattle.flow_net.specs.Sound.{IsPlaced, into_of, sender_at}
use Rattle.flow_net.specs.Finishes.{count_of, process_of, table_of, connection_of, first_fault, sum_fault, plan_of, HaveTemplates}
use Rattle.flow_plan.specs.declared.plan.Process.{Process}
use Rattle.flow_plan.specs.declared.plan.Connection.{Connection}
use Rattle.flow_plan.specs.declared.plan.PortTable.{PortTable}
use Rattle.flow_plan.specs.Network.{Network}
use Rattle.flow_net.proofs.Validity.{IsValid-made}
use Rattle.flow_net.proofs.Overs.{IsOver-made}
use Rattle.flow_net.proofs.Placed.{counts-few, capacity_of-small, into-placed, sender-placed, text-placed}
use Rattle.flow_net.proofs.builder.PlanBuilder.finish.Goals as goal

pub check_sum-requires-clause-small : goal.check_sum-requires-clause-small
check_sum-requires-clause-small c =
    λ number link at. (capacity_of-small link (c.self.invariant.links number link (ap (λ (xs : List Link). slice_get xs number) (sym c.as_slice-links.ensures.value) ∙ at))).1

pub processes-requires : goal.processes-requires
processes-requires c =
    record {
      there = λ p k end text at.
          subst (λ (ports : List DraftPort). IsPlaced ports end) (sym (c.of-draft.ensures ∙ c.as_slice-ports.ensures.value))
          (text-placed (record { kinds = c.self.inside.kinds.items; processes = c.self.inside.processes.items; ports = c.self.inside.ports.items; links = c.self.inside.links.items }) c.self.invariant p k end text at);
    }

pub connections-requires-clause-into : goal.connections-requires-clause-into
connections-requires-clause-into c =
    λ number end at.
    subst (λ (ports : List DraftPort). IsPlaced ports end) (sym (c.of-draft.ensures ∙ c.as_slice-ports.ensures.value))
    (into-placed (record { kinds = c.self.inside.kinds.items; processes = c.self.inside.processes.items; ports = c.self.inside.ports.items; links = c.self.inside.links.items }) c.self.invariant number end
    (ap (λ (xs : List Link). into_of xs number) (sym c.as_slice-links.ensures.value) ∙ at))

pub connections-requires-clause-senders : goal.connections-requires-clause-senders
connections-requires-clause-senders c =
    λ number k end at.
    subst (λ (ports : List DraftPort). IsPlaced ports end) (sym (c.of-draft.ensures ∙ c.as_slice-ports.ensures.value))
    (sender-placed (record { kinds = c.self.inside.kinds.items; processes = c.self.inside.processes.items; ports = c.self.inside.ports.items; links = c.self.inside.links.items }) c.self.invariant number k end
    (ap (λ (xs : List Link). sender_at xs number k) (sym c.as_slice-links.ensures.value) ∙ at))

pub of-draft-requires-clause-few : goal.of-draft-requires-clause-few
of-draft-requires-clause-few c =
    let made = c.in_ok-counts.ensures in
    counts-few (length c.self.inside.processes.items) c.self.inside.ports.items c.as_slice-2.result.now c.self.invariant.ports (c.as_slice-2.ensures.value ∙ made ∙ ap (map count_of) c.as_slice-ports.ensures.value)

-- the parts that were made are the plan's
made_is : (draft : Draft) (processes : List Process) (connections : List Connection) (tables : List PortTable) → processes ≡ map (process_of draft.ports) draft.processes → connections ≡ map (connection_of draft.ports) draft.links → tables ≡ map (table_of draft.ports) draft.processes → ◌≡◌ {A = Network} (record { processes = processes; connections = connections; tables = tables }) (plan_of draft)
made_is draft processes connections tables are also too = rw (are, also, too) refl

pub new-requires : goal.new-requires
new-requires c =
    let draft : Draft = record { kinds = c.self.inside.kinds.items; processes = c.self.inside.processes.items; ports = c.self.inside.ports.items; links = c.self.inside.links.items } in
    let first : first_fault c.self.inside.processes.items c.self.inside.ports.items ≡ Ok c.in_ok-check_ports.field-0 =
    rw (sym c.as_slice.ensures.value, sym c.as_slice-ports.ensures.value) c.in_ok-check_ports.ensures in
    let sum : sum_fault c.self.inside.links.items ≡ Ok c.in_ok-check_sum.field-0 = rw (sym c.as_slice-links.ensures.value) c.in_ok-check_sum.ensures in
    let processes : c.in_ok-processes.processes.items ≡ map (process_of c.self.inside.ports.items) c.self.inside.processes.items =
    rw (sym c.as_slice-ports.ensures.value, sym c.of-draft.ensures) c.in_ok-processes.ensures in
    let connections : c.in_ok-connections.connections.items ≡ map (connection_of c.self.inside.ports.items) c.self.inside.links.items =
    rw (sym c.as_slice-links.ensures.value, sym c.as_slice-ports.ensures.value, sym c.of-draft.ensures) c.in_ok-connections.ensures in
    let tables : c.in_ok-tables.tables.items ≡ map (table_of c.self.inside.ports.items) c.self.inside.processes.items =
    rw (sym c.as_slice-3.ensures.value, sym c.as_slice-ports.ensures.value) c.in_ok-tables.ensures in
    let templates : HaveTemplates c.in_ok-processes.processes.items c.in_ok-tables.tables.items (Ok tt) = rw (sym c.as_slice-4.ensures.value, sym c.as_slice-5.ensures.value) c.in_ok-check_templates.ensures in
    IsValid-made draft c.in_ok-check_ports.field-0 c.in_ok-check_sum.field-0 _ c.self.invariant first sum
    (made_is draft c.in_ok-processes.processes.items c.in_ok-connections.connections.items c.in_ok-tables.tables.items processes connections tables) templates

pub returns-clause-over : goal.returns-clause-over
returns-clause-over c =
    let processes : c.in_ok-processes.processes.items ≡ map (process_of c.self.inside.ports.items) c.self.inside.processes.items =
    rw (sym c.as_slice-ports.ensures.value, sym c.of-draft.ensures) c.in_ok-processes.ensures in
    let tables : c.in_ok-tables.tables.items ≡ map (table_of c.self.inside.ports.items) c.self.inside.processes.items =
    rw (sym c.as_slice-3.ensures.value, sym c.as_slice-ports.ensures.value) c.in_ok-tables.ensures in
    subst (λ (n : Network). IsOver c.args.self.kinds n) (sym c.new.ensures.is)
    (subst (λ (d : Draft). IsOver d.kinds (record { processes = c.in_ok-processes.processes.items; connections = c.in_ok-connections.connections.items; tables = c.in_ok-tables.tables.items })) c.self.view_is
    (IsOver-made (record { kinds = c.self.inside.kinds.items; processes = c.self.inside.processes.items; ports = c.self.inside.ports.items; links = c.self.inside.links.items })
    c.in_ok-processes.processes.items c.in_ok-connections.connections.items c.in_ok-tables.tables.items c.self.invariant processes tables))
