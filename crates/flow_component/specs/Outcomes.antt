-- What a component may come to once it is told an answer, one packet at a time.
use Rattle.flow_packet.specs.Hands.{IsAtRoot}
use Rattle.flow_packet.specs.Held.{Held}
use Rattle.flow_component.specs.declared.Answer.{Answer}
use Rattle.flow_component.specs.declared.Answer.TheVariants as answers
use Rattle.flow_component.specs.Laws.{Outcome, Wishes, Fails}

-- A component that works until the end of its input and asks for no level is ready for all else: a packet that it got is at the root.
abbrev pub IsAtHand : Held → Answer → Type 0
IsAtHand held answers.Start = Unit {0}
IsAtHand held (answers.Got id) = IsAtRoot held.packets id
IsAtHand held answers.End = Unit {0}
IsAtHand held answers.Sent = Unit {0}
IsAtHand held (answers.Level n) = ⊥

-- The outcome of a component, as one of a type that has it among others.
abbrev pub outcome_as : {K L : Type 0} → (K → L) → Outcome K → Outcome L
outcome_as f (Wishes component held wish) = Wishes (f component) held wish
outcome_as f (Fails component held cause) = Fails (f component) held cause
