-- What a kind's code tells of a text, in the words of its mapping.
use Rattle.flow_limits.specs.declared.TheConstants.{TEXT_LIMIT}
use Rattle.std.specs.Prelude.{◌≡◌, ℕ, ◌<◌, ◌≤◌, List, length, slice_range}
use Rattle.flow_packet.specs.declared.packet.Kind.TheVariants.{Normal}
use Rattle.flow_map.specs.Mapping.{Product, Next, Over, Itself, Last, More}
use Rattle.flow_map.specs.declared.mapper.Made.{Made}
use Rattle.flow_map.specs.declared.mapper.Made.TheVariants as made
use Rattle.flow_map.specs.declared.mapper.Told.{Told}
use Rattle.flow_map.specs.declared.mapper.Told.TheVariants as told

-- What is made of a text: a piece of it, or a Normal packet with a new text.
abbrev pub product_of : List ℕ → Made → Product
product_of text (made.Piece kind start end) = record { kind = kind; text = slice_range text start end }
product_of text (made.Text new) = record { kind = Normal; text = new.items }

-- A piece lies within the text, and a new text is no longer than a packet's may be.
abbrev pub IsMadeOf : List ℕ → Made → Type 0
IsMadeOf text (made.Piece kind start end) = (start ≤ end) × (end ≤ length text)
IsMadeOf text (made.Text new) = length new.items ≤ TEXT_LIMIT

-- A packet is to be made whose text would be so long.
abbrev pub MakesLong : ℕ → Next → Type 0
MakesLong count Over = ⊥
MakesLong count Itself = ⊥
MakesLong count (Last product) = length product.text ≡ count
MakesLong count (More product place) = length product.text ≡ count

-- What is told is what comes next.
abbrev pub Tells : List ℕ → Told → Next → Type 0
Tells text told.Over next = next ≡ Over
Tells text told.Itself next = next ≡ Itself
Tells text (told.Last one) next = IsMadeOf text one × (next ≡ Last (product_of text one))
Tells text (told.More one place) next = IsMadeOf text one × (next ≡ More (product_of text one) place)
Tells text (told.TooLong count) next = (TEXT_LIMIT < count) × MakesLong count next
