use Rattle.std.proofs.Common.{drop, map, ◌+◌, ◌++◌}
use Rattle.std.specs.List.{flat_map}
use Rattle.flow_parse.proofs.Heeding.{next_line}
use Rattle.flow_fill.specs.Filling.{text_of}
use Rattle.flow_fill.specs.Joining.{brought_by}
use Rattle.flow_fill.proofs.Steps.{brought_on}
use Rattle.flow_fill.proofs.used.put_all_brought.Goals as goal

pub files-preserved : goal.files-preserved
files-preserved c =
    let rows = map (λ file. file.items) c.args.files.now in
    let cut = next_line c.args.files.now c.files.file-index c.file-item.result c.as_slice.result.now c.files-test.true c.file-item.is c.as_slice.ensures.value in
    brought_on (drop c.files.file-index rows) (drop (c.files.file-index + 1) rows) c.as_slice.result.now (c.args.out.now.items ++ text_of (flat_map brought_by rows)) c.files.out.items c.put_brought.new.out.items c.files.invariant cut c.in_ok-put_brought.ensures
