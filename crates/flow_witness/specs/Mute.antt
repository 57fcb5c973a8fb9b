-- A part that is told answers and never comes to anything.
use Rattle.std.specs.Prelude.{Bool, IsTrue}
use Rattle.flow_packet.specs.Held.{Held}
use Rattle.flow_component.specs.declared.Answer.{Answer}
use Rattle.flow_component.specs.Laws.{Rules, Outcome, HasOutcome, CanStart}
use Rattle.flow_component.specs.Ports.{one_to_one, uses_first}

-- It has one state, and no outcome.
abbrev pub Mute : Type 0
Mute = Unit {0}

abbrev pub NoOutcome : Mute → Held → Answer → Outcome Mute → Type 0
NoOutcome component held answer outcome = ⊥

-- All that a network would know of it, with what it claims to be ready for.
abbrev pub mute_rules : (Held → Answer → Bool) → Rules Mute
mute_rules claims = record { shape = λ _. one_to_one; uses = λ _. uses_first; ready = λ _ held answer. IsTrue (claims held answer); next = NoOutcome }

-- Whatever it claims to be ready for, it can't start and keep the law that a component comes to some outcome where it is ready.
abbrev pub MuteIsRefused : Type 0
MuteIsRefused = (claims : Held → Answer → Bool) → ((component : Mute) (held : Held) (answer : Answer) → IsTrue (claims held answer) → HasOutcome (mute_rules claims) component held answer) → CanStart (λ held answer. IsTrue (claims held answer)) → ⊥
