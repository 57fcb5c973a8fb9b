use Rattle.std.proofs.Common.{ℕ, Ok, Err, ap, arith, refl, subst, sym}
use Rattle.std.specs.Option.{option_map}
use Rattle.std.specs.declared.option.Option.{Option}
use Rattle.flow_text.specs.Edge.{Name}
use Rattle.flow_load.specs.Prepare.{ReadsTapes}
use Rattle.flow_load.specs.declared.stop.TapesRefusal.TheVariants.{Count}
use Rattle.flow_load.specs.declared.stop.Stop.TheVariants.{TapesRefused}
use Rattle.flow_load.proofs.TapeReads.{none-counted, tapes-read, tapes-counted, tapes-unread}
use Rattle.flow_load.proofs.tapes.read_tapes.Goals as goal

pub returns-then-wanted-gt0 : goal.returns-then-wanted-gt0
returns-then-wanted-gt0 g c =
    let o = g.F.Edge.outside c.args.shelf.now in
    subst (λ (named : Option Name). ReadsTapes c.args.wanted o o named (Err (TapesRefused (Count 0)))) (sym (ap (option_map (λ s. s.now)) c.in_default.is))
    (none-counted o o c.args.wanted refl (λ same. omega (arith, c.if-wanted-gt0.true, same)))

pub returns-in-Err : goal.returns-in-Err
returns-in-Err g c =
    let o = g.F.Edge.outside c.args.shelf.now in
    let n = g.F.Edge.outside c.read_file.new.shelf in
    subst (λ (named : Option Name). ReadsTapes c.args.wanted o n named (Err c.read_stop.result)) (sym (ap (option_map (λ s. s.now)) c.in-Some.is))
    (tapes-unread o n c.args.wanted c.in-Some.name.now c.in-Err.stop c.read_stop.result c.in-Err.ensures c.read_stop.ensures)

pub returns-in-Ok-so_many_from_vec : goal.returns-in-Ok-so_many_from_vec
returns-in-Ok-so_many_from_vec g c =
    let o = g.F.Edge.outside c.args.shelf.now in
    let n = g.F.Edge.outside c.read_file.new.shelf in
    let tapes = c.in-Ok-so_many_from_vec.tapes in
    subst (λ (named : Option Name). ReadsTapes c.args.wanted o n named (Ok tapes)) (sym (ap (option_map (λ s. s.now)) c.in-Some.is))
    (tapes-read o n c.args.wanted c.in-Some.name.now c.in-Ok.bytes.items tapes c.in-Ok.ensures.0 c.in-Ok.ensures.1 c.in-Ok-so_many_from_vec.ensures.file c.in-Ok-so_many_from_vec.ensures.number)

pub returns-in-Err-Count : goal.returns-in-Err-Count
returns-in-Err-Count g c =
    let o = g.F.Edge.outside c.args.shelf.now in
    let n = g.F.Edge.outside c.read_file.new.shelf in
    let number = c.in-Err-Count.number in
    let stopped = rw c.in-Err-Count.field-0-is at c.in-Err-Count.ensures.stop in
    subst (λ (count : ℕ). ReadsTapes c.args.wanted o n (option_map (λ s. s.now) c.args.name) (Err (TapesRefused (Count count)))) (sym c.from-number.ensures)
    (subst (λ (named : Option Name). ReadsTapes c.args.wanted o n named (Err (TapesRefused (Count number)))) (sym (ap (option_map (λ s. s.now)) c.in-Some.is))
    (tapes-counted o n c.args.wanted c.in-Some.name.now c.in-Ok.bytes.items number c.in-Ok.ensures.0 c.in-Ok.ensures.1 stopped.0 stopped.1))
