-- Hearing and sending, one after the other.
use Rattle.std.proofs.Common.{◌≡◌, ℕ, List, Option, Result, Ok, Err, IfOk, subst}
use Rattle.flow_component.specs.declared.Wish.{Wish}
use Rattle.flow_own.specs.declared.part.PartStop.{PartStop}
use Rattle.flow_own.specs.Desks.{DeskValue}
use Rattle.flow_line.specs.declared.queue.Queue.{Queue}
use Rattle.flow_line.specs.Works.{Works}
use Rattle.flow_line.specs.Steps.{Hears, HearsAndSends}
use Rattle.flow_line.specs.Queue.{Sends}

pub hears_and_sends :
    {L : Type 0} (works : Works L) (told : Option (List ℕ)) (before between after : Queue L) (old new : DeskValue) (said : Result Wish PartStop) → Hears works told (Ok tt) before between → IfOk said (λ wish. Sends between after wish old new) →
    IfOk said (λ wish. HearsAndSends works told before after wish old new)
hears_and_sends works told before between after old new (Ok wish) hears sends = record { between = between; hears = hears; sends = sends }
hears_and_sends works told before between after old new (Err stop) hears sends = tt

-- The same of what is told, and of a desk, that are equal to others.
pub hears_and_sends_as :
    {L : Type 0} (works : Works L) (told told' : Option (List ℕ)) (before between after : Queue L) (mid old new : DeskValue) (said : Result Wish PartStop) → told ≡ told' → mid ≡ old → Hears works told (Ok tt) before between →
    IfOk said (λ wish. Sends between after wish mid new) → IfOk said (λ wish. HearsAndSends works told' before after wish old new)
hears_and_sends_as works told told' before between after mid old new said as_told as_desk hears sends =
    subst (λ t. IfOk said (λ wish. HearsAndSends works t before after wish old new)) as_told
    (subst (λ d. IfOk said (λ wish. HearsAndSends works told before after wish d new)) as_desk (hears_and_sends works told before between after mid new said hears sends))
