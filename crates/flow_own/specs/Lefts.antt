-- Ids that are taken out of a list, one after another: how a player finds out what its acts would leave at the root.
use Rattle.std.specs.Prelude.{ℕ, ◌==◌, ◌++◌, ◌&&◌, if◌then◌else◌, Bool, true, nat_lt, List, [], ◌∷◌, map, Option, Some, None}
use Rattle.std.specs.List.{list_any}
use Rattle.flow_packet.specs.Tree.{id_of}
use Rattle.flow_packet.specs.Held.{Held, next_id}
use Rattle.flow_component.specs.declared.Wish.{Wish}
use Rattle.flow_component.specs.declared.Wish.TheVariants as wishes
use Rattle.flow_component.specs.declared.Shape.{Shape}
use Rattle.flow_own.specs.declared.tape.End.{End}
use Rattle.flow_own.specs.declared.tape.End.TheVariants as ends
use Rattle.flow_own.specs.Acts.{Made}
use Rattle.flow_own.specs.Ends.{is_used}
use Rattle.flow_own.specs.Tapes.{is_recorded}

-- The test by which an id is sought.
abbrev pub is_id : ℕ → ℕ → Bool
is_id id other = other == id

-- The id is among these.
abbrev pub is_among : List ℕ → ℕ → Bool
is_among ids id = list_any (λ other. other == id) ids

-- The ids without the first that is this one.
abbrev pub take_out : List ℕ → ℕ → List ℕ
take_out [] id = []
take_out (other ∷ ids) id = if other == id then ids else other ∷ take_out ids id

-- What is left once these were taken out, if each was there.
abbrev pub left_of : List ℕ → List ℕ → Option (List ℕ)
left_of ids [] = Some ids
left_of ids (id ∷ dropped) = if is_among ids id then left_of (take_out ids id) dropped else None

-- The id of the packet that is made, if there is one.
abbrev pub made_ids : Held → Option Made → List ℕ
made_ids held None = []
made_ids held (Some made) = next_id held ∷ []

-- The ids at the root after the make.
abbrev pub root_ids : Held → Option Made → List ℕ
root_ids held made = map id_of held.packets ++ made_ids held made

-- The wish may be granted with these ids at the root.
abbrev pub can_wish_by : Shape → List ℕ → List ℕ → Wish → Bool
can_wish_by shape used ids (wishes.Receive port) = nat_lt port.0 shape.inputs
can_wish_by shape used ids (wishes.Send port id) = is_among ids id && is_used used port.0
can_wish_by shape used ids (wishes.Level port) = is_used used port.0
can_wish_by shape used ids wishes.Deactivate = true

-- An entry may end so.
abbrev pub can_end_by : Shape → List ℕ → List ℕ → End → Bool
can_end_by shape used ids (ends.Wish wish) = can_wish_by shape used ids wish
can_end_by shape used ids (ends.Fail cause) = is_recorded cause
