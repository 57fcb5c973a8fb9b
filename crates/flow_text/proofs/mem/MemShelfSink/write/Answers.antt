use Rattle.std.proofs.Common.{rules, inl, inr, arith, ◌≡◌, ◌∙◌, ap, ℕ, List, false, length, subst, take}
use Rattle.std.proofs.lemmas.List.{length-take-le}
use Rattle.std.proofs.lemmas.Grind.{common_steps}
use Rattle.flow_text.specs.Edge.{Logged, after_write, last_moved}
use Rattle.flow_text.specs.Mem.{Shelved, WriteFails, outside_of}
use Rattle.flow_text.specs.contracts.mem.MemShelf.{the_view}
use Rattle.flow_text.proofs.Shelves.{listed, stuck, unstuck, outside-write}
use Rattle.flow_text.proofs.mem.MemShelfSink.write.Goals as goal
use Rattle.flow_text.proofs.mem.MemShelfSink.write.Goals.{then-is_listed-via-then-is_listed, then-is_listed-via-else-is_listed+then-is_stuck}

pub returns-then-is_listed-clause-exact : goal.returns-then-is_listed-clause-exact
returns-then-is_listed-clause-exact c =
    let bytes = c.args.bytes.now in
    let fails : WriteFails (the_view c.self.inside) bytes = elim c.then-is_listed.branch [
      | then-is_listed-via-then-is_listed w ↦ inl (listed c.is_listed.result c.deref.result.now c.self.inside.write_fails.items
          c.saturating_add-self-inside.result _ c.is_listed.ensures.0 w.if-is_listed.true c.deref.ensures.value c.saturating_add-self-inside.ensures)
      | then-is_listed-via-else-is_listed+then-is_stuck w ↦ inr (stuck w.is_stuck.result (length bytes) c.min-n.result c.self.inside.piece _
          w.is_stuck.ensures.0 w.if-is_stuck.true (search rules) c.self.invariant.0)
    ] in
    (subst (λ (s : Shelved). WriteFails s bytes) c.self.view_is fails, search rules)

pub returns-clause-writes : goal.returns-clause-writes
returns-clause-writes c =
    let bytes = c.args.bytes.now in
    let written = take c.min-n.result bytes in
    let n = c.saturating_add-self-inside.result in
    let f = c.append.new.self in
    let old = the_view c.self.inside in
    let state = outside-write old f n written c.append.ensures.state c.append.ensures.grown c.append.ensures.taken in (
      ap (λ (files : List Logged). outside_of (record old { files = f.files; created = f.created; room = f.room; writes = n; created_files = files })) c.advance.ensures
          ∙ subst (λ (s : Shelved). outside_of (record old { files = f.files; created = f.created; room = f.room; writes = n; created_files = last_moved written false old.created_files }) ≡ after_write (outside_of s) written)
          c.self.view_is state,
      grind (arith, common_steps),
      unstuck c.is_stuck.result (length bytes) c.min-n.result c.is_stuck.ensures.1 c.if-is_stuck.false,
    )
