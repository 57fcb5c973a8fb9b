use Rattle.std.proofs.Common.{◌≡◌, None, false}
use Rattle.flow_own.specs.Tapes.{has_failed}
use Rattle.flow_part_rig.proofs.turns.run.Given as goal

abbrev pub invariant-told : goal.invariant-told
invariant-told g l = record { live : l.own.place ≡ None; well : has_failed l.own.tape ≡ false }
