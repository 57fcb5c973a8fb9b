-- A part that sends each packet twice.
use Rattle.std.specs.Prelude.{◌≡◌, ℕ, Bool, Option, Some, None, IsTrue}
use Rattle.flow_packet.specs.Held.{Held}
use Rattle.flow_component.specs.declared.Answer.{Answer}
use Rattle.flow_component.specs.declared.Answer.TheVariants as answers
use Rattle.flow_component.specs.declared.Wish.TheVariants.{Deactivate}
use Rattle.flow_component.specs.Laws.{Rules, Outcome, Wishes, Obeys, StaysReady, CanStart}
use Rattle.flow_component.specs.Ports.{one_to_one, uses_first, receive_first, send_first}

-- The part: the id of a packet that it has sent once, if there is one.
abbrev pub Twice : Type 0
Twice = Option ℕ

-- What it comes to: it sends what it got, sends the same packet again, and only then receives the next.
abbrev pub sends_twice : Twice → Held → Answer → Outcome Twice
sends_twice component held answers.Start = Wishes None held receive_first
sends_twice component held (answers.Got id) = Wishes (Some id) held (send_first id)
sends_twice (Some id) held answers.Sent = Wishes None held (send_first id)
sends_twice None held answers.Sent = Wishes None held receive_first
sends_twice component held answers.End = Wishes None held Deactivate
sends_twice component held (answers.Level n) = Wishes None held Deactivate

-- It is ready where it claims to be.
abbrev pub IsReady : (Twice → Held → Answer → Bool) → Twice → Held → Answer → Type 0
IsReady claims component held answer = IsTrue (claims component held answer)

-- All that a network would know of it, with what it claims to be ready for.
abbrev pub twice_rules : (Twice → Held → Answer → Bool) → Rules Twice
twice_rules claims = record { shape = λ _. one_to_one; uses = λ _. uses_first; ready = IsReady claims; next = λ component held answer outcome. outcome ≡ sends_twice component held answer }

-- The laws that a component keeps of its outcomes, with what it claims to be ready for.
pub record KeepsLaws (claims : Twice → Held → Answer → Bool) : Type 0 where
  pub obeys : (component : Twice) (held : Held) (answer : Answer) (outcome : Outcome Twice) → IsReady claims component held answer → outcome ≡ sends_twice component held answer → Obeys one_to_one uses_first held outcome
  pub stays_ready : (component : Twice) (held : Held) (answer : Answer) (outcome : Outcome Twice) → IsReady claims component held answer → outcome ≡ sends_twice component held answer → StaysReady (twice_rules claims) outcome

-- Whatever it claims to be ready for, it can't start and keep the laws.
abbrev pub TwiceIsRefused : Type 0
TwiceIsRefused = (claims : Twice → Held → Answer → Bool) → KeepsLaws claims → CanStart (IsReady claims None) → ⊥
