-- The component that replaces the matches of a pattern: its rule, and what it is ready for.
use Rattle.flow_limits.specs.declared.TheConstants.{TEXT_LIMIT}
use Rattle.std.specs.Prelude.{◌≡◌, ℕ, Bool, true, false, List, [], length, nat_lt, if◌then◌else◌}
use Rattle.flow_packet.specs.declared.packet.Kind.{Kind}
use Rattle.flow_packet.specs.declared.packet.Kind.TheVariants.{Normal, Open, Close}
use Rattle.flow_packet.specs.Hands.{kind_at, text_at}
use Rattle.flow_packet.specs.Held.{Held, next_id, without_packet, with_made}
use Rattle.flow_component.specs.declared.Answer.{Answer}
use Rattle.flow_component.specs.declared.Answer.TheVariants as answers
use Rattle.flow_component.specs.declared.Fail.TheVariants.{TextLimit}
use Rattle.flow_component.specs.declared.Wish.TheVariants.{Deactivate}
use Rattle.flow_component.specs.Laws.{Rules, Outcome, Wishes, Fails}
use Rattle.flow_component.specs.Ports.{one_to_one, uses_first, receive_first, send_first}
use Rattle.flow_component.specs.Alone.{HoldsOnly}
use Rattle.flow_pattern.specs.Pattern.{Replacement, matches, replaced}

-- A packet with this text takes the place of the packet, which is dropped with what hangs on it. A text beyond the limit is a failure.
abbrev pub renews : Replacement → Held → ℕ → List ℕ → Outcome Replacement
renews state held id text =
    if nat_lt TEXT_LIMIT (length text) then Fails state held (TextLimit (length text)) else Wishes state (with_made (without_packet held id) Normal text) (send_first (next_id held))

-- A text in which the pattern matches is replaced. A packet in which it doesn't is passed on itself.
abbrev pub rewrites : Bool → Replacement → Held → ℕ → List ℕ → Outcome Replacement
rewrites true state held id text = renews state held id (replaced state.pattern state.with text)
rewrites false state held id text = Wishes state held (send_first id)

-- What comes of a packet, by its kind: a bracket is passed on.
abbrev pub comes : Replacement → Held → ℕ → Kind → Outcome Replacement
comes state held id Normal = rewrites (matches state.pattern (text_at held.packets id)) state held id (text_at held.packets id)
comes state held id Open = Wishes state held (send_first id)
comes state held id Close = Wishes state held (send_first id)

-- The rule, by what it is told.
abbrev pub replace_next : Replacement → Held → Answer → Outcome Replacement
replace_next state held answers.Start = Wishes state held receive_first
replace_next state held (answers.Got id) = comes state held id (kind_at held.packets id)
replace_next state held answers.End = Wishes state held Deactivate
replace_next state held answers.Sent = Wishes state held receive_first
replace_next state held (answers.Level n) = Wishes state held Deactivate

-- It comes to this alone.
abbrev pub ReplaceNext : Replacement → Held → Answer → Outcome Replacement → Type 0
ReplaceNext state held answer outcome = outcome ≡ replace_next state held answer

-- Between packets its hands are empty.
abbrev pub ReplaceReady : Replacement → Held → Answer → Type 0
ReplaceReady state held answers.Start = held.packets ≡ []
ReplaceReady state held (answers.Got id) = HoldsOnly held id
ReplaceReady state held answers.End = held.packets ≡ []
ReplaceReady state held answers.Sent = held.packets ≡ []
ReplaceReady state held (answers.Level n) = ⊥

-- All that a network knows of it.
abbrev pub replace_rules : Rules Replacement
replace_rules = record { shape = λ _. one_to_one; uses = λ _. uses_first; ready = ReplaceReady; next = ReplaceNext }
