-- Kinds of this form that have one output and keep nothing from packet to packet; and those of them that make one packet of a text.
use Rattle.std.specs.Prelude.{◌≡◌, ℕ, List, [], ◌∷◌, ◌++◌, map, Option, Some, None, true, false, if◌then◌else◌}
use Rattle.std.specs.List.{flat_map}
use Rattle.flow_packet.specs.declared.packet.Kind.{Kind}
use Rattle.flow_packet.specs.declared.packet.Kind.TheVariants.{Normal, Open, Close}
use Rattle.flow_packet.specs.Tree.{Tree, kind_of, text_of}
use Rattle.flow_component.specs.Happenings.{Happening}
use Rattle.flow_component.specs.Runs.{EndedRun, got, sent, text_packet}
use Rattle.flow_map.specs.Mapping.{Mapping, Next, Itself, Last, waiting, mapper_rules}
use Rattle.flow_map.specs.Becoming.{Becoming, packet_made}

-- One output, and the same for each packet.
abbrev pub plain_mapping : {K : Type 0} → (K → List ℕ → ℕ) → (K → List ℕ → ℕ → Next) → Mapping K
plain_mapping last_place next = record { second = λ own. None; last_place = last_place; next = next; after = λ own kind text. own }

-- What a packet becomes: the packets that are made, and itself.
abbrev pub became_all : Becoming → Tree → List Tree
became_all became packet = map packet_made became.products ++ (if became.itself then packet ∷ [] else [])

-- A Normal packet becomes what its text does, and a bracket stays as it is.
abbrev pub became_as : (List ℕ → Becoming) → Kind → Tree → List Tree
became_as becomes Normal packet = became_all (becomes (text_of packet)) packet
became_as becomes Open packet = packet ∷ []
became_as becomes Close packet = packet ∷ []

-- What a packet becomes.
abbrev pub became : (List ℕ → Becoming) → Tree → List Tree
became becomes packet = became_as becomes (kind_of packet) packet

-- The meaning of such a component: it sends what each packet becomes.
abbrev pub PlainMeaning : {K : Type 0} → (K → List ℕ → ℕ) → (K → List ℕ → ℕ → Next) → (K → List ℕ → ℕ → Becoming) → Type 0
PlainMeaning {K} last_place next becoming =
    (own : K) (told : List Happening) → EndedRun (mapper_rules (plain_mapping last_place next)) (waiting own) told → sent 0 told ≡ flat_map (became (λ text. becoming own text 0)) (got 0 told)

-- One packet with a new text is made, or the packet is passed on itself where there is none.
abbrev pub once_next : Option (List ℕ) → Next
once_next None = Itself
once_next (Some text) = Last (record { kind = Normal; text = text })

-- What becomes of it.
abbrev pub once : Option (List ℕ) → Becoming
once None = record { products = []; itself = true }
once (Some text) = record { products = record { kind = Normal; text = text } ∷ []; itself = false }

-- A mapping by the new text that there is for a text, if there is one.
abbrev pub once_mapping : {K : Type 0} → (K → List ℕ → Option (List ℕ)) → Mapping K
once_mapping new_text = plain_mapping (λ own text. 0) (λ own text place. once_next (new_text own text))

-- What becomes of each text by it.
abbrev pub once_becoming : {K : Type 0} → (K → List ℕ → Option (List ℕ)) → K → List ℕ → ℕ → Becoming
once_becoming new_text own text place = once (new_text own text)

-- A packet with the new text, where there is one.
abbrev pub renewed_if : Option (List ℕ) → Tree → Tree
renewed_if None packet = packet
renewed_if (Some text) packet = text_packet text

-- A Normal packet is renewed so; a bracket stays as it is.
abbrev pub renewed_as : (List ℕ → Option (List ℕ)) → Kind → Tree → Tree
renewed_as new_text Normal packet = renewed_if (new_text (text_of packet)) packet
renewed_as new_text Open packet = packet
renewed_as new_text Close packet = packet

-- What a packet becomes by it.
abbrev pub renewed_by : (List ℕ → Option (List ℕ)) → Tree → Tree
renewed_by new_text packet = renewed_as new_text (kind_of packet) packet

-- The meaning of such a component: it sends what it gets, each packet renewed.
abbrev pub OnceMeaning : {K : Type 0} → (K → List ℕ → Option (List ℕ)) → Type 0
OnceMeaning {K} new_text = (own : K) (told : List Happening) → EndedRun (mapper_rules (once_mapping new_text)) (waiting own) told → sent 0 told ≡ map (renewed_by (new_text own)) (got 0 told)
