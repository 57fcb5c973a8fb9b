-- The component that makes a substream of each bundle.
use Rattle.std.specs.Prelude.{◌≡◌, ℕ, List, [], ◌∷◌, ◌++◌}
use Rattle.flow_packet.specs.declared.packet.Kind.TheVariants.{Open, Close}
use Rattle.flow_packet.specs.Tree.{Tree, id_of}
use Rattle.flow_packet.specs.Hands.{text_at, chain_of_root, detached}
use Rattle.flow_packet.specs.Held.{Held, Sound, next_id, without_packet, with_made}
use Rattle.flow_component.specs.declared.Answer.{Answer}
use Rattle.flow_component.specs.declared.Answer.TheVariants as answers
use Rattle.flow_component.specs.declared.Wish.TheVariants.{Deactivate}
use Rattle.flow_component.specs.Laws.{Rules, Outcome, Wishes}
use Rattle.flow_component.specs.Ports.{one_to_one, uses_first, receive_first, send_first}
use Rattle.flow_component.specs.Alone.{HoldsOnly}
use Rattle.flow_streams.specs.Bundle.{items}
use Rattle.flow_streams.specs.declared.unbundle.Unbundle.{Unbundle}
use Rattle.flow_streams.specs.declared.unbundle.Unbundle.TheVariants.{Waiting, Unpacking}

-- A packet with a chain of items is unpacked, which begins with an Open packet with its text; all others are passed on.
abbrev pub opens_up : Held → ℕ → List Tree → Outcome Unbundle
opens_up held id [] = Wishes Waiting held (send_first id)
opens_up held id (child ∷ children) = Wishes (Unpacking id) (with_made held Open (text_at held.packets id)) (send_first (next_id held))

-- The next packet of the chain is sent; after the last a Close packet, and the packet that held them is dropped.
abbrev pub unpacks : Held → ℕ → List Tree → Outcome Unbundle
unpacks held id [] = Wishes Waiting (without_packet (with_made held Close []) id) (send_first (next_id held))
unpacks held id (child ∷ children) = Wishes (Unpacking id) (record held { packets = detached held.packets id items ++ child ∷ [] }) (send_first (id_of child))

-- What comes after a packet was sent.
abbrev pub goes_on : Held → Unbundle → Outcome Unbundle
goes_on held Waiting = Wishes Waiting held receive_first
goes_on held (Unpacking id) = unpacks held id (chain_of_root held.packets id items)

-- The rule, by what it is told.
abbrev pub unbundle_next : Unbundle → Held → Answer → Outcome Unbundle
unbundle_next component held answers.Start = Wishes Waiting held receive_first
unbundle_next component held (answers.Got id) = opens_up held id (chain_of_root held.packets id items)
unbundle_next component held answers.End = Wishes Waiting held Deactivate
unbundle_next component held answers.Sent = goes_on held component
unbundle_next component held (answers.Level n) = Wishes Waiting held Deactivate

-- It comes to this alone.
abbrev pub UnbundleNext : Unbundle → Held → Answer → Outcome Unbundle → Type 0
UnbundleNext component held answer outcome = outcome ≡ unbundle_next component held answer

-- Between packets the hands are empty, and a packet that is unpacked is alone in them.
abbrev pub IsReadyOn : Held → Unbundle → Type 0
IsReadyOn held Waiting = held.packets ≡ []
IsReadyOn held (Unpacking id) = HoldsOnly held id × Sound held

-- It unpacks no bundle.
abbrev pub IsWaiting : Unbundle → Type 0
IsWaiting Waiting = Unit {0}
IsWaiting (Unpacking id) = ⊥

-- What it can be told.
abbrev pub UnbundleReady : Unbundle → Held → Answer → Type 0
UnbundleReady component held answers.Start = IsWaiting component × (held.packets ≡ [])
UnbundleReady component held (answers.Got id) = IsWaiting component × HoldsOnly held id
UnbundleReady component held answers.End = IsWaiting component × (held.packets ≡ [])
UnbundleReady component held answers.Sent = IsReadyOn held component
UnbundleReady component held (answers.Level n) = ⊥

-- All that a network knows of it.
abbrev pub unbundle_rules : Rules Unbundle
unbundle_rules = record { shape = λ _. one_to_one; uses = λ _. uses_first; ready = UnbundleReady; next = UnbundleNext }
