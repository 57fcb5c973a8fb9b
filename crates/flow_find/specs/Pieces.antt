-- Texts that are cut out of a text.
use Rattle.std.specs.Prelude.{ℕ, ◌+◌, false, List, length, slice_range}
use Rattle.flow_packet.specs.declared.packet.Kind.TheVariants.{Normal}
use Rattle.flow_map.specs.Becoming.{Becoming}
use Rattle.flow_map.specs.Mapping.{Product}

-- The piece of the text between two places.
abbrev pub piece : List ℕ → ℕ × ℕ → List ℕ
piece text s = slice_range text s.0 s.1

-- A Normal packet with this text.
abbrev pub text_product : List ℕ → Product
text_product text = record { kind = Normal; text = text }

-- The last place of a text. Place 0 is that before any match, and place n + 1 that behind one that ended at n.
abbrev pub end_place : List ℕ → ℕ
end_place text = length text + 1

-- These packets are made of a text, which isn't passed on itself.
abbrev pub only_made : List Product → Becoming
only_made products = record { products = products; itself = false }
