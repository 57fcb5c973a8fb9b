use Rattle.std.proofs.Common.{rules, inl, inr, length, subst}
use Rattle.flow_text.specs.Sink.{Sunk, WriteFails}
use Rattle.flow_text.specs.contracts.sink.MemSink.{the_view}
use Rattle.flow_text.proofs.Shelves.{listed, stuck}
use Rattle.flow_text.proofs.sink.MemSinkSink.write.Goals as goal
use Rattle.flow_text.proofs.sink.MemSinkSink.write.Goals.{then-is_listed-via-then-is_listed, then-is_listed-via-else-is_listed+then-is_stuck}

pub returns-then-is_listed-clause-exact : goal.returns-then-is_listed-clause-exact
returns-then-is_listed-clause-exact c =
    let bytes = c.args.bytes.now in
    let fails : WriteFails (the_view c.self.inside) bytes = elim c.then-is_listed.branch [
      | then-is_listed-via-then-is_listed w ↦ inl (listed c.is_listed.result c.deref.result.now c.self.inside.write_fails.items
          c.saturating_add-self-inside.result _ c.is_listed.ensures.0 w.if-is_listed.true c.deref.ensures.value c.saturating_add-self-inside.ensures)
      | then-is_listed-via-else-is_listed+then-is_stuck w ↦ inr (stuck w.is_stuck.result (length bytes) c.min-n.result c.self.inside.piece _
          w.is_stuck.ensures.0 w.if-is_stuck.true (search rules) c.self.invariant.0)
    ] in
    (subst (λ (s : Sunk). WriteFails s bytes) c.self.view_is fails, search rules)
