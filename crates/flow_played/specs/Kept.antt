-- Parts stay parts.
use Rattle.std.specs.Prelude.{◌≡◌, None}
use Rattle.flow_component.specs.Laws.{Rules}
use Rattle.flow_model.specs.States.{State}
use Rattle.flow_model.specs.Schedules.{Journal, Leads}
use Rattle.flow_model.specs.Replaced.{OfEach}
use Rattle.flow_own.specs.Mixed.{Mixed, Other, Own, mixed_rules}

-- A component that is the caller's own is no player.
abbrev pub IsPart : {K : Type 0} → Mixed K → Type 0
IsPart (Other component) = Unit {0}
IsPart (Own own) = own.place ≡ None

-- Where no component of the caller's own is a player when a schedule begins, none is where it leads.
abbrev pub PartsStay : {K : Type 0} → Rules K → Type 0
PartsStay {K} rules = (journal : Journal) (s s' : State (Mixed K)) → OfEach (λ p. IsPart) s → Leads (mixed_rules rules) s journal s' → OfEach (λ p. IsPart) s'
