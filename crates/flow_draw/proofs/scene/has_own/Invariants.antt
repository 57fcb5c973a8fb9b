use Rattle.std.proofs.Common.{◌≡◌, ◌<◌, ℕ, false, is_some}
use Rattle.flow_offer.specs.Processes.{own_place}
use Rattle.flow_draw.proofs.scene.has_own.Given as goal

abbrev pub invariant-loop-process : goal.invariant-loop-process
invariant-loop-process l = (p : ℕ) → p < l.process → is_some (own_place l.own l.plan p) ≡ false
