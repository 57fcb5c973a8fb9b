use Rattle.std.proofs.Common.{rules}
use Rattle.flow_parse.proofs.PlaceLaws.{one_place_more}
use Rattle.flow_parse.specs.Places.{place_in}
use Rattle.flow_parse.specs.declared.table.MentionedProcess.{MentionedProcess}
use Rattle.flow_parse.proofs.table.Processes.push.Goals as goal

pub invariant_of-self-2 : goal.invariant_of-self-2
invariant_of-self-2 c = rw (c.push_reserved.ensures.items, c.in_ok-reserve.ensures.items)
    (one_place_more (λ (r : MentionedProcess). r.name) c.self.inside.rows.items c.args.process (place_in c.self.inside.names.places) (place_in c.put.new.self.places) c.len.result c.self.invariant (rw c.as_slice.ensures at c.in_ok-put.ensures.ok)
    (search (rules, c.len.ensures, c.in_ok-reserve.ensures.items, c.in_ok-reserve.ensures.len)) (rw (← c.self.view_is) at c.requires))
