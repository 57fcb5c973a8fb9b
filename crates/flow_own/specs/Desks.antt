-- What a part sees of its desk, and what its calls do there.
use Rattle.std.specs.Prelude.{◌≡◌, ℕ, zero, suc, ◌+◌, ◌==◌, ◌&&◌, not, Bool, List, length, take, Option, Some, None, is_some, refl}
use Rattle.std.specs.List.{list_any}
use Rattle.std.specs.Coded.{Coded, code_by, coded×, coded_ℕ, coded_list, coded_option}
use Rattle.flow_packet.specs.TreeCode.{tree_code}
use Rattle.flow_packet.specs.declared.packet.Kind.{Kind}
use Rattle.flow_packet.specs.declared.packet.Kind.TheVariants as kinds
use Rattle.flow_packet.specs.Tree.{Tree}
use Rattle.flow_packet.specs.Hands.{packet_at}
use Rattle.flow_packet.specs.Held.{Held}
use Rattle.flow_own.specs.Acts.{Made}

-- The hands that a desk shows, and the acts that it keeps: the packet that is to be made, if any, and those that are to be dropped, in order.
pub record DeskValue : Type 0 where
  pub held : Held
  pub made : Option Made
  pub dropped : List ℕ

-- A desk that shows these hands and keeps these acts.
abbrev pub desk_with : Held → Option Made → List ℕ → DeskValue
desk_with held made dropped = record { held = held; made = made; dropped = dropped }

-- How the prover keeps hands, and a desk.
abbrev pub held_code : Coded Held
held_code =
    code_by (ℕ × (ℕ × List Tree)) (coded× coded_ℕ (coded× coded_ℕ (coded_list tree_code))) (λ h. (h.maker, (h.made, h.packets))) (λ p. record { maker = p.0; made = p.1.0; packets = p.1.1 }) (λ _. refl)

abbrev kind_number : Kind → ℕ
kind_number kinds.Normal = 0
kind_number kinds.Open = 1
kind_number kinds.Close = 2

abbrev kind_from : ℕ → Kind
kind_from zero = kinds.Normal
kind_from (suc zero) = kinds.Open
kind_from (suc (suc n)) = kinds.Close

pub kind-back : (kind : Kind) → kind_from (kind_number kind) ≡ kind
kind-back kinds.Normal = refl
kind-back kinds.Open = refl
kind-back kinds.Close = refl

abbrev kind_code : Coded Kind
kind_code = code_by ℕ coded_ℕ kind_number kind_from kind-back

abbrev pub desk_code : Coded DeskValue
desk_code =
    code_by (Held × (Option (Kind × List ℕ) × List ℕ)) (coded× held_code (coded× (coded_option (coded× kind_code (coded_list coded_ℕ))) (coded_list coded_ℕ))) (λ d. (d.held, (d.made, d.dropped)))
    (λ p. record { held = p.0; made = p.1.0; dropped = p.1.1 }) (λ _. refl)

-- The packet is at the root, and wasn't dropped at this desk.
abbrev pub is_there : DeskValue → ℕ → Bool
is_there desk id = is_some (packet_at desk.held.packets id) && not (list_any (λ other. other == id) desk.dropped)

-- How many packets are to be made.
abbrev pub makes : Option Made → ℕ
makes None = 0
makes (Some made) = 1

-- How many acts there are.
abbrev pub count_acts : Option Made → List ℕ → ℕ
count_acts made dropped = makes made + length dropped

-- What was to be made is to be made still.
abbrev pub KeepsMake : Option Made → Option Made → Type 0
KeepsMake None new = Unit {0}
KeepsMake (Some made) new = new ≡ Some made

-- The desk shows the same hands, and its acts begin with those before.
pub record GoesOn (old new : DeskValue) : Type 0 where
  pub held : new.held ≡ old.held
  pub made : KeepsMake old.made new.made
  pub dropped : take (length old.dropped) new.dropped ≡ old.dropped
