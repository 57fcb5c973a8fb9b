use Rattle.std.proofs.Common.{◌≤◌, ◌<◌, drop, map, ap, refl, arith, length, ◌+◌, ◌++◌, ◌∙◌}
use Rattle.std.proofs.Common.{List, ℕ}
use Rattle.flow_limits.specs.declared.TheConstants.{FILE_LIMIT}
use Rattle.flow_parse.proofs.Heeding.{next_line}
use Rattle.flow_fill.specs.declared.place.Place.TheVariants.{Head}
use Rattle.flow_fill.specs.Filling.{ended, filled_lines, place_after, text_of}
use Rattle.flow_fill.proofs.Steps.{fill_on, longer}
use Rattle.flow_fill.proofs.rows.fill_lines.Goals as goal

pub lines-preserved : goal.lines-preserved
lines-preserved c =
    let rows = map (λ line. line.items) c.args.lines.now in
    let cut = next_line c.args.lines.now c.lines.line-index c.line-item.result c.as_slice-line.result.now c.lines-test.true c.line-item.is c.as_slice-line.ensures.value in
    let out = c.in_ok-put_line.ensures ∙ ap (λ (l : List ℕ). c.lines.out.items ++ ended l) c.as_slice.ensures.value in
    let count = c.len.ensures in
    let few = c.if-len-gt-FILE_LIMIT.false in
    let short : length c.put_line.new.out.items ≤ FILE_LIMIT = omega arith in (
      fill_on c.lines.place c.after-place.result c.args.given.now (drop c.lines.line-index rows) (drop (c.lines.line-index + 1) rows) c.as_slice-line.result.now c.in_ok-filled.filled.items
          (text_of (filled_lines Head c.args.given.now rows)) c.lines.out.items c.put_line.new.out.items c.lines.invariant.0 cut c.in_ok-filled.ensures out c.after-place.ensures,
      short,
    )

pub returns-then-len-gt-FILE_LIMIT-clause-long : goal.returns-then-len-gt-FILE_LIMIT-clause-long
returns-then-len-gt-FILE_LIMIT-clause-long c =
    let rows = map (λ line. line.items) c.args.lines.now in
    let line = c.as_slice-line.result.now in
    let next = place_after c.lines.place line in
    let cut = next_line c.args.lines.now c.lines.line-index c.line-item.result line c.lines-test.true c.line-item.is c.as_slice-line.ensures.value in
    let out = c.in_ok-put_line.ensures ∙ ap (λ (l : List ℕ). c.lines.out.items ++ ended l) c.as_slice.ensures.value in
    let whole = text_of (filled_lines Head c.args.given.now rows) in
    let on = fill_on c.lines.place next c.args.given.now (drop c.lines.line-index rows) (drop (c.lines.line-index + 1) rows) line c.in_ok-filled.filled.items whole c.lines.out.items
    c.put_line.new.out.items c.lines.invariant.0 cut c.in_ok-filled.ensures out refl in
    let count = c.len.ensures in
    let many = c.if-len-gt-FILE_LIMIT.true in
    let long : FILE_LIMIT < length c.put_line.new.out.items = omega arith in
    longer FILE_LIMIT whole c.put_line.new.out.items (text_of (filled_lines next c.args.given.now (drop (c.lines.line-index + 1) rows))) on long
