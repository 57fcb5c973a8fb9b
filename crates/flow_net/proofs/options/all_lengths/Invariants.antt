use Rattle.std.proofs.Common.{◌↔◌, ◌==◌, length}
use Rattle.std.specs.List.{All, slice_split}
use Rattle.flow_plan.specs.Texts.{IsNumberWithin}
use Rattle.flow_net.proofs.options.all_lengths.Given as goal

abbrev pub invariant-parts : goal.invariant-parts
invariant-parts l = All (IsNumberWithin 1 255) (slice_split (λ b. b == 32) l.rest) ↔ All (IsNumberWithin 1 255) (slice_split (λ b. b == 32) l.text)

abbrev pub decreases-parts : goal.decreases-parts
decreases-parts l = length l.rest
