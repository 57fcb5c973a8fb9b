use Rattle.std.proofs.Common.{◌≡◌, map, take}
use Rattle.flow_load.specs.Step.{OnlyWrites, whole}
use Rattle.flow_load.specs.Many.{after_some, output_of}
use Rattle.flow_load.proofs.many.write_files.Given as goal

abbrev pub invariant-loop-output : goal.invariant-loop-output
invariant-loop-output g l = record {
  only : OnlyWrites (g.F.Edge.outside l.fn.shelf) (g.F.Edge.outside l.shelf) (map whole (take l.output-index (map output_of l.outputs)));
  files : (g.F.Edge.outside l.shelf).files ≡ after_some (map output_of l.outputs) l.output-index (g.F.Edge.outside l.fn.shelf).files;
}
