-- What becomes of a text, and of a stream, by a mapping.
use Rattle.std.specs.Prelude.{◌≡◌, ◌≢◌, ℕ, ◌≤◌, ◌&&◌, Bool, true, false, not, List, [], ◌∷◌, ◌++◌, map, Option, if◌then◌else◌}
use Rattle.flow_packet.specs.declared.packet.Kind.{Kind}
use Rattle.flow_packet.specs.declared.packet.Kind.TheVariants.{Normal, Open, Close}
use Rattle.flow_packet.specs.Tree.{Tree, kind_of, text_of, packet_of}
use Rattle.flow_component.specs.Happenings.{Happening}
use Rattle.flow_component.specs.Runs.{EndedRun, HeardEnd, got, sent}
use Rattle.flow_map.specs.Mapping.{Mapping, Product, Next, Over, Itself, Last, More, waiting, is_connected, mapper_rules}

-- What becomes of the packet with a text: the packets that are made, in order, and whether it goes itself behind them.
pub record Becoming : Type 0 where
  pub products : List Product
  pub itself : Bool

-- With what comes next, and then what becomes from a place on.
abbrev pub with_next : Next → (ℕ → Becoming) → Becoming
with_next Over more = record { products = []; itself = false }
with_next Itself more = record { products = []; itself = true }
with_next (Last product) more = record { products = product ∷ []; itself = false }
with_next (More product place) more = record { products = product ∷ (more place).products; itself = (more place).itself }

-- This becomes of each text, from each of its places on.
abbrev pub IsBecoming : {K : Type 0} → Mapping K → (K → List ℕ → ℕ → Becoming) → Type 0
IsBecoming {K} mapping becoming = (own : K) (text : List ℕ) (place : ℕ) → place ≤ mapping.last_place own text → becoming own text place ≡ with_next (mapping.next own text place) (becoming own text)

-- A product as a packet, in the contents of a stream.
abbrev pub packet_made : Product → Tree
packet_made product = packet_of 0 product.kind product.text []

-- What leaves at the first output, where this becomes of the packet: the products, and itself where that doesn't go to the second.
abbrev pub at_first : Option Bool → Becoming → Tree → List Tree
at_first second became packet = map packet_made became.products ++ (if became.itself && not (is_connected second) then packet ∷ [] else [])

-- What leaves at the second output.
abbrev pub at_second : Option Bool → Becoming → Tree → List Tree
at_second second became packet = if became.itself && is_connected second then packet ∷ [] else []

module _ {K : Type 0} (mapping : Mapping K) (becoming : K → List ℕ → ℕ → Becoming) where
  -- What a packet of this kind becomes at the first output: a Normal one by its text, a bracket itself.
  abbrev pub first_as : K → Kind → Tree → List Tree
  first_as own Normal packet = at_first (mapping.second own) (becoming own (text_of packet) 0) packet
  first_as own Open packet = packet ∷ []
  first_as own Close packet = packet ∷ []

  -- What it becomes at the second output.
  abbrev pub second_as : K → Kind → Tree → List Tree
  second_as own Normal packet = at_second (mapping.second own) (becoming own (text_of packet) 0) packet
  second_as own Open packet = []
  second_as own Close packet = []

  -- A stream, as it leaves at the first output: what each packet becomes, where each leads from one state to the next.
  abbrev pub mapped : K → List Tree → List Tree
  mapped own [] = []
  mapped own (packet ∷ packets) = first_as own (kind_of packet) packet ++ mapped (mapping.after own (kind_of packet) (text_of packet)) packets

  -- And as it leaves at the second.
  abbrev pub left_out : K → List Tree → List Tree
  left_out own [] = []
  left_out own (packet ∷ packets) = second_as own (kind_of packet) packet ++ left_out (mapping.after own (kind_of packet) (text_of packet)) packets

  -- The meaning of such a component, over whole runs: it sends what its stream becomes.
  abbrev pub MapperMeaning : Type 0
  MapperMeaning = (own : K) (told : List Happening) → EndedRun (mapper_rules mapping) (waiting own) told → (sent 0 told ≡ mapped own (got 0 told)) × (sent 1 told ≡ left_out own (got 0 told))

-- One that was started and has come to its end has heard the end of its input.
abbrev pub MapperHears : {K : Type 0} → Mapping K → Type 0
MapperHears {K} mapping = (own : K) (told : List Happening) → EndedRun (mapper_rules mapping) (waiting own) told → told ≢ [] → HeardEnd 0 told
