use Rattle.std.proofs.Common.{◌++◌, List, ◌∙◌, ap}
use Rattle.std.specs.List.{flat_map}
use Rattle.flow_plan.specs.declared.plan.Sender.{Sender}
use Rattle.flow_drawing.specs.Drawings.{edge_of, edges_of}
use Rattle.flow_drawing.proofs.Each.{each-step, each-end}
use Rattle.flow_drawing.proofs.edges.edges_in.Goals as goal

pub loop-number-preserved : goal.loop-number-preserved
loop-number-preserved c =
    each-step (edges_of c.args.remarks.now c.args.plan.now) c.args.connections.now c.loop-number.number c.index-connections-number.result c.loop-number.edges c.put_senders.new.edges _
    c.loop-number-test.true c.index-connections-number.is
    (c.in_ok-put_senders.ensures
    ∙ ap (λ (l : List Sender). c.loop-number.edges ++ flat_map (edge_of c.args.remarks.now c.args.plan.now c.loop-number.number c.index-connections-number.result) l) c.as_slice-senders.ensures)
    c.loop-number.invariant

pub returns : goal.returns
returns c = each-end (edges_of c.args.remarks.now c.args.plan.now) c.args.connections.now c.loop-number.number c.loop-number.edges _ c.loop-number-test.false c.loop-number.invariant
