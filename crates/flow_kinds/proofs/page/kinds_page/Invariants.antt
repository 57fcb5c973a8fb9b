use Rattle.std.proofs.Common.{◌≡◌, take}
use Rattle.std.specs.List.{flat_map}
use Rattle.flow_catalogue.specs.Kinds.{all_kinds}
use Rattle.flow_kinds.specs.Page.{lines_of}
use Rattle.flow_kinds.proofs.page.kinds_page.Given as goal

abbrev pub invariant-loop-spec : goal.invariant-loop-spec
invariant-loop-spec l = l.page.items ≡ flat_map lines_of (take l.spec-index all_kinds)
