-- A process whose packet leaves within its turn, and the packet that comes into its hands.
use Rattle.std.proofs.Common.{◌≡◌, ◌∙◌, ap, sym, refl, subst, true, Option, Some, None, ℕ, ◌+◌, ◌-◌, List, [], ◌∷◌, ◌++◌, length, slice_get, arith, length-append}
use Rattle.std.specs.Prelude.{is_some}
use Rattle.std.specs.Option.{option_map}
use Rattle.flow_packet.specs.declared.packet.Kind.{Kind}
use Rattle.flow_packet.specs.Tree.{Tree, id_of, kind_of}
use Rattle.flow_packet.specs.Hands.{packet_at, kind_at, kind_in, IsAtRoot}
use Rattle.flow_packet.specs.Held.{without_packet}
use Rattle.flow_component.specs.declared.Port.{Port}
use Rattle.flow_component.specs.declared.Answer.TheVariants as answers
use Rattle.flow_component.specs.declared.Wish.TheVariants as wishes
use Rattle.flow_component.specs.Laws.{Rules}
use Rattle.flow_model.specs.declared.Stage.TheVariants as stages
use Rattle.flow_model.specs.States.{Process}
use Rattle.flow_model.specs.Turns.{at_stage}
use Rattle.flow_model.specs.Valid.{IsGranted}
use Rattle.flow_machine.specs.Effects.{port_at, depths_sent, CanDeepen}
use Rattle.flow_machine.specs.Bodies.{StandsWell, HasLeft}
use Rattle.flow_machine.proofs.Standing.{stands-sent, may-deepen}

some-at : (found : Option Tree) → is_some found ≡ true → (packet : Tree) × (found ≡ Some packet)
some-at None is = absurd (cc)
some-at (Some packet) is = (packet, refl)

-- the packet that it wishes to send has left it
sends-left : {K : Type 0} (rules : Rules K) (x : Process K) (port : Port) (id : ℕ) (packet : Tree) → StandsWell rules x → x.stage ≡ stages.Wishing (wishes.Send port id) → packet_at x.held.packets id ≡ Some packet → HasLeft rules (kind_at x.held.packets id) (record x { held = without_packet x.held id })
sends-left rules x port id packet well wished found = record {
  before = x;
  port = port;
  packet = packet;
  id = id;
  stood = well;
  wished = wished;
  found = found;
  is_kind = sym (ap kind_in found);
  is = refl;
}

-- the same, of the packet that is there
sends : {K : Type 0} (rules : Rules K) (x : Process K) (port : Port) (id : ℕ) → StandsWell rules x → x.stage ≡ stages.Wishing (wishes.Send port id) → HasLeft rules (kind_at x.held.packets id) (record x { held = without_packet x.held id })
sends rules x port id well wished =
    let granted = subst (IsGranted x) wished well.fit.granted in
    let there = some-at (packet_at x.held.packets id) granted.1 in
    sends-left rules x port id there.0 well wished there.1

-- It may be sent there.
pub sends-deepen : {K : Type 0} (rules : Rules K) (x : Process K) (port : Port) (id : ℕ) → StandsWell rules x → x.stage ≡ stages.Wishing (wishes.Send port id) → CanDeepen x.depths (port_at x.stage) (Some (kind_at x.held.packets id))
sends-deepen rules x port id well wished = may-deepen rules (kind_at x.held.packets id) (record x { held = without_packet x.held id }) (sends rules x port id well wished)

-- Once it was sent, the process stands well.
pub sends-well : {K : Type 0} (rules : Rules K) (x : Process K) (port : Port) (id : ℕ) → StandsWell rules x → x.stage ≡ stages.Wishing (wishes.Send port id)
    → StandsWell rules (record (at_stage x (stages.Told answers.Sent)) { held = without_packet x.held id; depths = depths_sent x.depths (port_at x.stage) (Some (kind_at x.held.packets id)) })
sends-well rules x port id well wished = stands-sent rules (kind_at x.held.packets id) (record x { held = without_packet x.held id }) (sends rules x port id well wished)

last-of : {A : Type 0} (xs : List A) (y : A) → slice_get (xs ++ y ∷ []) (length xs) ≡ Some y
last-of [] y = refl
last-of (x ∷ xs) y = last-of xs y

-- The last of the packets behind which one came is that one.
pub last-id : (xs : List Tree) (packet : Tree) (id : ℕ) → option_map id_of (slice_get (xs ++ packet ∷ []) (length (xs ++ packet ∷ []) - 1)) ≡ Some id → id ≡ id_of packet
last-id xs packet id is =
    let more : length (xs ++ packet ∷ []) ≡ length xs + 1 = length-append xs (packet ∷ []) in
    let place : length (xs ++ packet ∷ []) - 1 ≡ length xs = omega (arith, more) in
    let at : slice_get (xs ++ packet ∷ []) (length (xs ++ packet ∷ []) - 1) ≡ Some packet = ap (slice_get (xs ++ packet ∷ [])) place ∙ last-of xs packet in
    let same : Some id ≡ Some (id_of packet) = sym is ∙ ap (option_map id_of) at in
    cc
