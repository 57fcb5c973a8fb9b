use Rattle.std.proofs.Common.{◌≡◌, take, map, None}
use Rattle.flow_text.specs.Folder.{held, named}
use Rattle.flow_text.proofs.folder.place_of.Given as goal

abbrev pub invariant-loop-place : goal.invariant-loop-place
invariant-loop-place l = held (take l.place (map named l.files)) l.name ≡ None
