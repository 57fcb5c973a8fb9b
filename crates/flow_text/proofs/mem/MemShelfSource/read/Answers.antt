use Rattle.std.proofs.Common.{arith, ◌≡◌, ◌+◌, ◌-◌, ◌++◌, Some, subst, take, drop, refl, ap, ◌∙◌, List, ℕ}
use Rattle.std.proofs.lemmas.Grind.{common_steps}
use Rattle.flow_text.specs.Edge.{Logged, after_read, last_moved, meets_end}
use Rattle.flow_text.specs.Mem.{Shelved, outside_of}
use Rattle.flow_text.specs.contracts.mem.MemShelf.{the_view}
use Rattle.flow_text.proofs.Shelves.{read-part}
use Rattle.flow_text.proofs.mem.MemShelfSource.read.Goals as goal

pub returns-clause-reads : goal.returns-clause-reads
returns-clause-reads c =
    let old = the_view c.self.inside in
    let at = c.self.inside.at in
    let n = c.min-n.result in
    let l = c.self.inside.left.items in
    let new = c.copy_from_slice.new.self in
    let number = c.saturating_add-self-inside.result in
    let end = meets_end n (new ++ drop n c.args.buf.now) in
    let moved : c.advance.new.self ≡ last_moved (take n (new ++ drop n c.args.buf.now)) end c.self.inside.opened =
    c.advance.ensures ∙ ap (λ e. last_moved (take n (new ++ drop n c.args.buf.now)) e c.self.inside.opened) c.meets_end-ended.ensures in
    let count : at + n - at ≡ n = omega arith in
    let is : new ≡ take n (drop at l) =
    c.copy_from_slice.ensures.after
    ∙ ap (λ k. take k (drop at c.deref-2.result.now)) count
    ∙ ap (λ (xs : List ℕ). take n (drop at xs)) c.deref-2.ensures.value in (
      ap (λ (files : List Logged). outside_of (record old { left = drop (at + n) l; reads = number; opened_files = files })) moved
          ∙ subst (λ (s : Shelved). outside_of (record old { left = drop (at + n) l; reads = number; opened_files = last_moved (take n (new ++ drop n c.args.buf.now)) end old.opened_files })
          ≡ after_read (outside_of s) (Some (drop (at + n) l)) (take n (new ++ drop n c.args.buf.now)) end) c.self.view_is refl,
      subst (λ (s : Shelved). s.left ≡ take n (new ++ drop n c.args.buf.now) ++ drop (at + n) l)
          c.self.view_is (read-part l c.args.buf.now new at n (grind (arith, common_steps)) c.self.invariant.1 is),
      grind (arith, common_steps),
    )
