use Rattle.std.proofs.Common.{◌≡◌, take}
use Rattle.flow_journal.specs.Files.{name}
use Rattle.flow_journal.proofs.header.strays_at.Given as goal

abbrev pub invariant-loop-place : goal.invariant-loop-place
invariant-loop-place l = take l.place l.bytes ≡ take l.place name
