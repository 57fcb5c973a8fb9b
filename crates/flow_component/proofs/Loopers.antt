-- Components that work until the end of their input are ready for whatever may come.
use Rattle.std.proofs.Common.{ℕ, []}
use Rattle.flow_packet.specs.declared.packet.Kind.TheVariants.{Normal}
use Rattle.flow_packet.specs.Tree.{packet_of}
use Rattle.flow_packet.specs.Held.{Held, next_id}
use Rattle.flow_component.specs.declared.Port.{Port}
use Rattle.flow_component.specs.declared.Wish.TheVariants as wishes
use Rattle.flow_component.specs.Laws.{ReadyAfter}
use Rattle.flow_component.specs.Outcomes.{IsAtHand}
use Rattle.flow_component.proofs.Roots.{IsAtRoot-last}

-- A component that only wants its packet at hand may receive.
pub at_hand_received : (held : Held) (port : Port) → ReadyAfter IsAtHand held (wishes.Receive port)
at_hand_received held port = ((λ sound. tt), (λ packet sound. IsAtRoot-last held.packets packet), (λ text sound. IsAtRoot-last held.packets (packet_of (next_id held) Normal text [])))

-- It may send.
pub at_hand_sent : (held : Held) (port : Port) (id : ℕ) → ReadyAfter IsAtHand held (wishes.Send port id)
at_hand_sent held port id = λ sound. tt

-- It may be deactivated.
pub at_hand_idle : (held : Held) → ReadyAfter IsAtHand held wishes.Deactivate
at_hand_idle held = λ sound. tt
