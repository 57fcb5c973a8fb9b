-- The texts that wait to be sent, and what is wished for next.
use Rattle.std.specs.Prelude.{◌≡◌, ℕ, Bool, true, false, List, [], ◌∷◌, ◌++◌, drop, Option, Some, None}
use Rattle.flow_packet.specs.declared.packet.Kind.TheVariants as kinds
use Rattle.flow_packet.specs.Held.{next_id}
use Rattle.flow_component.specs.declared.Wish.{Wish}
use Rattle.flow_component.specs.declared.Wish.TheVariants as wishes
use Rattle.flow_own.specs.Acts.{Made}
use Rattle.flow_own.specs.Desks.{DeskValue}
use Rattle.flow_line.specs.declared.queue.Queue.{Queue}

-- The first of some texts.
abbrev pub first_of : List (List ℕ) → Option (List ℕ)
first_of [] = None
first_of (text ∷ texts) = Some text

-- The packet that is made of the first text; where there is none, it is what was to be made before.
abbrev pub made_of : List (List ℕ) → Option Made → Option Made
made_of [] made = made
made_of (text ∷ texts) made = Some (kinds.Normal, text)

-- The wish to send that packet, which has this id; where no text waits, to receive, or nothing more after the end.
abbrev pub wish_of : Bool → List (List ℕ) → ℕ → Wish
wish_of ended (text ∷ texts) id = wishes.Send (record { 0 = 0 }) id
wish_of true [] id = wishes.Deactivate
wish_of false [] id = wishes.Receive (record { 0 = 0 })

-- The first of the texts that wait leaves: a packet is made of it, which is sent. The others wait on.
pub record Sends {L : Type 0} (before after : Queue L) (wish : Wish) (old new : DeskValue) : Type 0 where
  pub wishes : wish ≡ wish_of before.ended before.waiting (next_id old.held)
  pub desk : new ≡ record old { made = made_of before.waiting old.made }
  pub waits : after ≡ record before { waiting = drop 1 before.waiting; heard = false }

-- The desk where this packet is to be dropped besides.
abbrev pub dropping : DeskValue → ℕ → DeskValue
dropping desk id = record desk { dropped = desk.dropped ++ id ∷ [] }
