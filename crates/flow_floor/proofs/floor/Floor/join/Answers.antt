use Rattle.std.proofs.Common.{arith, sym, ◌∙◌}
use Rattle.atomic_table.proofs.Lists.{set_else}
use Rattle.flow_floor.specs.Rule.{in_order}
use Rattle.flow_floor.proofs.Begins.{joins}
use Rattle.flow_floor.proofs.floor.Floor.join.Goals as goal

pub join_seat-requires : goal.join_seat-requires
join_seat-requires g c = let f = c.args.self.now in let q = c.requires.idle in let o = c.requires.other in
    (q.calm.table, o.calm.table, o.slots, omega (arith, f.words), λ s r at apart w_at. joins g.K.Component.rules f.table.shared.key.value (in_order s) _ _ _ _ r at apart (sym (set_else s.views _ _ _ apart) ∙ w_at) q.held o.held q.calm.spare o.calm.spare)
