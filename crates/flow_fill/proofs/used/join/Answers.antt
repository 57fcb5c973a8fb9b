use Rattle.std.proofs.Common.{map, ap, ◌∙◌}
use Rattle.flow_fill.proofs.Joined.{joined_lines}
use Rattle.flow_fill.proofs.used.join.Goals as goal

pub returns : goal.returns
returns c = joined_lines c.args.text.now c.put_all_brought.new.out.items c.new-out.result.items c.put_lines.new.out.items (map (λ row. row.items) c.as_slice.result.now) (map (λ file. file.items) c.args.files.now)
    (ap (map (λ row. row.items)) c.as_slice.ensures.value ∙ c.in_ok-rows.ensures) c.new-out.ensures.items c.in_ok-put_lines.ensures c.in_ok-put_all_brought.ensures
