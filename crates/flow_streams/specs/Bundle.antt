-- The component that makes one packet of each substream.
use Rattle.std.specs.Prelude.{◌≡◌, ℕ, ◌+◌, ◌-◌, ◌^◌, ◌==◌, min, nat_lt, List, [], ◌∷◌, if◌then◌else◌}
use Rattle.flow_packet.specs.declared.packet.Kind.{Kind}
use Rattle.flow_packet.specs.declared.packet.Kind.TheVariants.{Normal, Open, Close}
use Rattle.flow_packet.specs.Tree.{Tree, id_of}
use Rattle.flow_packet.specs.Hands.{text_at, kind_at, height_at, attached}
use Rattle.flow_packet.specs.Held.{Held, next_id, without_packet, with_made}
use Rattle.flow_component.specs.declared.Answer.{Answer}
use Rattle.flow_component.specs.declared.Answer.TheVariants as answers
use Rattle.flow_component.specs.declared.Wish.TheVariants.{Deactivate}
use Rattle.flow_component.specs.declared.Fail.TheVariants.{TreeDepth}
use Rattle.flow_component.specs.Laws.{Rules, Outcome, Wishes, Fails}
use Rattle.flow_component.specs.Ports.{one_to_one, uses_first, receive_first, send_first}
use Rattle.flow_component.specs.Alone.{HoldsOnly}
use Rattle.flow_streams.specs.declared.bundle.Bundle.{Bundle}
use Rattle.flow_streams.specs.declared.bundle.Bundle.TheVariants.{Outside, Inside}

-- The name of the chain: items.
abbrev pub items : List ℕ
items = 105 ∷ 116 ∷ 101 ∷ 109 ∷ 115 ∷ []

-- One level deeper. The depth stands still at its greatest value.
abbrev pub deeper : ℕ → ℕ
deeper depth = min (depth + 1) (2 ^ 64 - 1)

-- An Open packet begins a bundle: a Normal packet with its text.
abbrev pub begins : Held → ℕ → Outcome Bundle
begins held id = Wishes (Inside (next_id held) 1) (without_packet (with_made held Normal (text_at held.packets id)) id) receive_first

-- A packet goes to the end of the bundle's chain, unless it is too high.
abbrev pub gathers : Bundle → Held → ℕ → ℕ → ℕ → Outcome Bundle
gathers component held bundle id depth =
    if height_at held.packets id == 16 then Fails component held TreeDepth else Wishes (Inside bundle depth) (record held { packets = attached held.packets bundle items id }) receive_first

-- The matching Close is dropped, and the bundle is sent.
abbrev pub ends_bundle : Held → ℕ → ℕ → Outcome Bundle
ends_bundle held bundle id = Wishes Outside (without_packet held id) (send_first bundle)

-- Packets outside are passed on; those inside are gathered, brackets of inner substreams included.
abbrev pub bundles : Bundle → Held → ℕ → Kind → Outcome Bundle
bundles Outside held id Normal = Wishes Outside held (send_first id)
bundles Outside held id Open = begins held id
bundles Outside held id Close = Wishes Outside held (send_first id)
bundles (Inside bundle depth) held id Normal = gathers (Inside bundle depth) held bundle id depth
bundles (Inside bundle depth) held id Open = gathers (Inside bundle depth) held bundle id (deeper depth)
bundles (Inside bundle depth) held id Close = if nat_lt 1 depth then gathers (Inside bundle depth) held bundle id (depth - 1) else ends_bundle held bundle id

-- The rule, by what it is told.
abbrev pub bundle_next : Bundle → Held → Answer → Outcome Bundle
bundle_next component held answers.Start = Wishes component held receive_first
bundle_next component held (answers.Got id) = bundles component held id (kind_at held.packets id)
bundle_next component held answers.End = Wishes component held Deactivate
bundle_next component held answers.Sent = Wishes component held receive_first
bundle_next component held (answers.Level n) = Wishes component held Deactivate

-- It comes to this alone.
abbrev pub BundleNext : Bundle → Held → Answer → Outcome Bundle → Type 0
BundleNext component held answer outcome = outcome ≡ bundle_next component held answer

-- The hands hold the packets with these two ids, in this order, and the next id is another than the first.
pub record HoldsTwo (held : Held) (one two : ℕ) : Type 0 where
  pub first : Tree
  pub second : Tree
  pub holds : held.packets ≡ first ∷ second ∷ []
  pub first_named : id_of first ≡ one
  pub second_named : id_of second ≡ two
  pub apart : one ≡ two → ⊥
  pub older : one ≡ next_id held → ⊥

-- Between packets it holds the bundle, if one is begun.
abbrev pub IsBetween : Bundle → Held → Type 0
IsBetween Outside held = held.packets ≡ []
IsBetween (Inside bundle depth) held = HoldsOnly held bundle

-- It holds the packet that came, and the bundle where one is open.
abbrev pub HasCome : Bundle → Held → ℕ → Type 0
HasCome Outside held id = HoldsOnly held id
HasCome (Inside bundle depth) held id = HoldsTwo held bundle id

-- What it can be told.
abbrev pub BundleReady : Bundle → Held → Answer → Type 0
BundleReady component held answers.Start = IsBetween component held
BundleReady component held (answers.Got id) = HasCome component held id
BundleReady component held answers.End = IsBetween component held
BundleReady component held answers.Sent = IsBetween component held
BundleReady component held (answers.Level n) = ⊥

-- All that a network knows of it.
abbrev pub bundle_rules : Rules Bundle
bundle_rules = record { shape = λ _. one_to_one; uses = λ _. uses_first; ready = BundleReady; next = BundleNext }
