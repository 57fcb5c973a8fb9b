use Rattle.std.proofs.Common.{◌≡◌, drop, Some, None, sym, arith, length-drop}
use Rattle.regex.specs.Names.{names_of}
use Rattle.flow_pattern.specs.Template.{first_part}
use Rattle.flow_pattern.proofs.Spelling.{read_begins, read_more, read_stops, read_all}
use Rattle.flow_pattern.proofs.template.parts_in.Goals as goal

pub loop-at-init : goal.loop-at-init
loop-at-init c = (omega arith, rw c.new-parts.ensures.items (read_begins (names_of c.args.names.now) c.args.text.now))

pub loop-at-preserved : goal.loop-at-preserved
loop-at-preserved c =
    let names = names_of c.args.names.now in
    let text = c.args.text.now in
    let at = c.loop-at.at in
    let first : first_part names (drop at text) ≡ Some (c.in-Some.part, c.in-Some.len) = rw (← c.behind-rest.ensures) (sym c.in-Some.ensures.part) in
    let within = rw c.behind-rest.ensures at c.in-Some.ensures.within in (
      omega (arith, within.1, length-drop at text),
      rw c.in_ok-push.ensures (read_more names text c.loop-at.parts.items at c.loop-at.invariant.1 c.in-Some.part c.in-Some.len first c.loop-at-test.true),
    )

pub returns-in_default-clause-refused : goal.returns-in_default-clause-refused
returns-in_default-clause-refused c =
    let names = names_of c.args.names.now in
    let text = c.args.text.now in
    let at = c.loop-at.at in
    let none : first_part names (drop at text) ≡ None = rw (← c.behind-rest.ensures, ← c.first_part.ensures.part, c.in_default.is) in
    read_stops names text c.loop-at.parts.items at c.loop-at.invariant.1 none c.loop-at-test.true

pub returns-clause-spelled : goal.returns-clause-spelled
returns-clause-spelled c =
    read_all (names_of c.args.names.now) c.args.text.now c.loop-at.parts.items c.loop-at.at c.loop-at.invariant.1 (omega (arith, c.loop-at-test.false))
