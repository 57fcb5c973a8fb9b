use Rattle.std.proofs.Common.{◌≡◌, ◌∙◌, ◌++◌, ◌∷◌, [], sym, ap, List, slice_get, length, arith}
use Rattle.std.specs.Option.{option_and_then}
use Rattle.std.proofs.lemmas.Option.{slice_get_within, get_or_from_slice_get}
use Rattle.flow_plan.specs.declared.plan.PortRow.{PortRow}
use Rattle.flow_plan.specs.declared.plan.PortTable.{PortTable}
use Rattle.flow_plan.specs.Network.{Network, ports_of, automatic_input, input_port}
use Rattle.flow_plan.proofs.PortNames.{LaidOut-at}
use Rattle.flow_plan.proofs.plan.Plan.input_name.Goals as goal

pub index-requires : goal.index-requires
index-requires c =
    let here = ap (λ (n : Network). slice_get n.processes c.args.process) c.self.view_is ∙ c.requires.1 in
    let laid = LaidOut-at c.self.inside.processes.items c.self.inside.tables.items c.args.process c.requires.0 c.self.invariant.laid_out here in
    omega (arith, slice_get_within c.self.inside.tables.items c.args.process laid.table laid.here, c.self.inside.tables.ok.0)

pub name_at-requires : goal.name_at-requires
name_at-requires c =
    let here = ap (λ (n : Network). slice_get n.processes c.args.process) c.self.view_is ∙ c.requires.1 in
    let laid = LaidOut-at c.self.inside.processes.items c.self.inside.tables.items c.args.process c.requires.0 c.self.invariant.laid_out here in
    let table : c.index.result.now ≡ laid.table = c.index.ensures ∙ get_or_from_slice_get c.self.inside.tables.items c.args.process laid.table c.index.result.now laid.here in
    let long : length (ports_of c.as_slice.result.now) ≡ length (ports_of laid.table.inputs) =
    ap (λ (rows : List PortRow). length (ports_of rows)) c.as_slice.ensures ∙ ap (λ (t : PortTable). length (ports_of t.inputs)) table in
    omega (arith, long, laid.inputs, c.requires.2)

pub returns : goal.returns
returns c =
    let here = ap (λ (n : Network). slice_get n.processes c.args.process) c.self.view_is ∙ c.requires.1 in
    let laid = LaidOut-at c.self.inside.processes.items c.self.inside.tables.items c.args.process c.requires.0 c.self.invariant.laid_out here in
    let table : c.index.result.now ≡ laid.table = c.index.ensures ∙ get_or_from_slice_get c.self.inside.tables.items c.args.process laid.table c.index.result.now laid.here in
    let port : input_port c.args.self.now c.args.process c.args.input ≡ slice_get (ports_of c.as_slice.result.now ++ automatic_input ∷ []) c.args.input =
    ap (λ (n : Network). input_port n c.args.process c.args.input) (sym c.self.view_is)
    ∙ ap (option_and_then (λ (t : PortTable). slice_get (ports_of t.inputs ++ automatic_input ∷ []) c.args.input)) laid.here
    ∙ ap (λ (t : PortTable). slice_get (ports_of t.inputs ++ automatic_input ∷ []) c.args.input) (sym table)
    ∙ ap (λ (rows : List PortRow). slice_get (ports_of rows ++ automatic_input ∷ []) c.args.input) (sym c.as_slice.ensures) in
    rw port c.name_at.ensures
