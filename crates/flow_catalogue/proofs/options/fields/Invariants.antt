use Rattle.std.proofs.Common.{◌≡◌, ◌==◌, ◌++◌, length}
use Rattle.std.specs.List.{All, slice_split}
use Rattle.flow_plan.specs.Texts.{IsNumberWithin}
use Rattle.flow_catalogue.specs.Processes.{fields_of}
use Rattle.flow_catalogue.proofs.options.fields.Given as goal

abbrev pub invariant-parts : goal.invariant-parts
invariant-parts l = All (IsNumberWithin 1 255) (slice_split (λ b. b == 32) l.rest) × (fields_of l.text ≡ l.lengths.items ++ fields_of l.rest)

abbrev pub decreases-parts : goal.decreases-parts
decreases-parts l = length l.rest
