use Rattle.std.proofs.Common.{◌<◌, ◌∙◌, List, length, slice_get, ap, sym, subst, arith}
use Rattle.flow_own.specs.declared.tape.Entry.{Entry}
use Rattle.flow_own.specs.Reels.{entries_at}
use Rattle.flow_own.proofs.Winding.{gave, no-fault, reel-long}
use Rattle.flow_own.proofs.reel.Reel.entry.Goals as goal

pub overflow_sub-entry : goal.overflow_sub-entry
overflow_sub-entry c =
    let r = c.self.inside in
    let there : c.args.place < length (entries_at r.count r.bytes) = subst (λ (entries : List Entry). c.args.place < length entries) (sym c.self.view_is) c.requires.there in
    let g = gave r.count r.size r.bytes c.as_slice-bytes.result.now r.head c.head_for-head.result c.args.place c.self.invariant.0 c.self.invariant.1 c.head_for-head.ensures.which c.head_for-head.ensures.before there c.as_slice-bytes.ensures c.in-Ok.entry c.in-Ok.rest.now c.in-Ok.ensures in
    omega (arith, g.within, ap length c.as_slice-bytes.ensures)

pub unreachable-requires : goal.unreachable-requires
unreachable-requires c =
    let r = c.self.inside in
    let there : c.args.place < length (entries_at r.count r.bytes) = subst (λ (entries : List Entry). c.args.place < length entries) (sym c.self.view_is) c.requires.there in
    let stopped = rw c.in-Err-Fault.field-0-is at c.in-Err-Fault.ensures in
    no-fault r.count r.size r.bytes c.as_slice-bytes.result.now r.head c.head_for-head.result c.args.place c.self.invariant.0 c.self.invariant.1 c.head_for-head.ensures.which c.head_for-head.ensures.before there c.as_slice-bytes.ensures c.in-Err-Fault.field-0-0 stopped

pub overflow_add-self : goal.overflow_add-self
overflow_add-self c =
    let r = c.self.inside in
    let there : c.args.place < length (entries_at r.count r.bytes) = subst (λ (entries : List Entry). c.args.place < length entries) (sym c.self.view_is) c.requires.there in
    let few = c.self.invariant.0.few in
    omega (arith, there, few, reel-long r.count r.size r.bytes c.self.invariant.0)

pub invariant_of-self : goal.invariant_of-self
invariant_of-self c =
    let r = c.self.inside in
    let there : c.args.place < length (entries_at r.count r.bytes) = subst (λ (entries : List Entry). c.args.place < length entries) (sym c.self.view_is) c.requires.there in
    let g = gave r.count r.size r.bytes c.as_slice-bytes.result.now r.head c.head_for-head.result c.args.place c.self.invariant.0 c.self.invariant.1 c.head_for-head.ensures.which c.head_for-head.ensures.before there c.as_slice-bytes.ensures c.in-Ok.entry c.in-Ok.rest.now c.in-Ok.ensures in
    rw c.as_slice-bytes.ensures (c.self.invariant.0, g.comes)

pub returns-clause-entry : goal.returns-clause-entry
returns-clause-entry c =
    let r = c.self.inside in
    let there : c.args.place < length (entries_at r.count r.bytes) = subst (λ (entries : List Entry). c.args.place < length entries) (sym c.self.view_is) c.requires.there in
    let g = gave r.count r.size r.bytes c.as_slice-bytes.result.now r.head c.head_for-head.result c.args.place c.self.invariant.0 c.self.invariant.1 c.head_for-head.ensures.which c.head_for-head.ensures.before there c.as_slice-bytes.ensures c.in-Ok.entry c.in-Ok.rest.now c.in-Ok.ensures in
    sym g.is ∙ ap (λ (entries : List Entry). slice_get entries c.args.place) c.self.view_is
