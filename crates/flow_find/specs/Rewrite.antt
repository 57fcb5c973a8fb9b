-- The component that replaces the matches of a pattern by what a template makes of each.
use Rattle.std.specs.Prelude.{◌≡◌, ℕ, Bool, List, [], ◌∷◌, Option, Some, None, if◌then◌else◌}
use Rattle.std.specs.List.{flat_map}
use Rattle.flow_packet.specs.declared.packet.Kind.{Kind}
use Rattle.flow_packet.specs.declared.packet.Kind.TheVariants.{Normal, Open, Close}
use Rattle.flow_packet.specs.Tree.{Tree, kind_of, text_of}
use Rattle.flow_component.specs.Laws.{Rules}
use Rattle.flow_component.specs.Happenings.{Happening}
use Rattle.flow_component.specs.Runs.{EndedRun, got, sent, text_packet}
use Rattle.flow_pattern.specs.Pattern.{Replacement, matches}
use Rattle.flow_pattern.specs.Template.{refilled}
use Rattle.flow_map.specs.Becoming.{Becoming}
use Rattle.flow_map.specs.Mapping.{Mapping, Mapped, waiting, mapper_rules}
use Rattle.flow_map.specs.Plain.{once, once_next}

-- What a Rewrite is: a pattern with a template, and whether its second output is connected.
pub record Rewriting : Type 0 where
  pub by : Replacement
  pub rest : Bool

-- A text in which the pattern matches is given a new one.
abbrev pub rewritten_text : Replacement → List ℕ → Option (List ℕ)
rewritten_text by text = if matches by.pattern text then Some (refilled by text) else None

-- How a Rewrite maps: at one place, to one packet with the new text, or to the packet itself.
abbrev pub rewrite_mapping : Mapping Rewriting
rewrite_mapping = record { second = λ own. Some own.rest; last_place = λ own text. 0; next = λ own text place. once_next (rewritten_text own.by text); after = λ own kind text. own }

-- What becomes of a text.
abbrev pub rewrite_becoming : Rewriting → List ℕ → ℕ → Becoming
rewrite_becoming own text place = once (rewritten_text own.by text)

-- All that a network knows of it.
abbrev pub rewrite_rules : Rules (Mapped Rewriting)
rewrite_rules = mapper_rules rewrite_mapping

-- At the first output a Normal packet in which the pattern matches becomes one with the new text, and any other goes there where the second is left
-- open; a bracket stays as it is.
abbrev pub rewrites_as : Rewriting → Kind → Tree → List Tree
rewrites_as own Normal packet = if matches own.by.pattern (text_of packet) then text_packet (refilled own.by (text_of packet)) ∷ [] else (if own.rest then [] else packet ∷ [])
rewrites_as own Open packet = packet ∷ []
rewrites_as own Close packet = packet ∷ []

-- At the second goes a Normal packet in which the pattern doesn't match, where it is connected.
abbrev pub rejects_as : Rewriting → Kind → Tree → List Tree
rejects_as own Normal packet = if matches own.by.pattern (text_of packet) then [] else (if own.rest then packet ∷ [] else [])
rejects_as own Open packet = []
rejects_as own Close packet = []

-- What a packet becomes at the first output, and at the second.
abbrev pub rewrites : Rewriting → Tree → List Tree
rewrites own packet = rewrites_as own (kind_of packet) packet

abbrev pub rejects : Rewriting → Tree → List Tree
rejects own packet = rejects_as own (kind_of packet) packet

-- A Rewrite sends what it gets: what each packet becomes at its first output, and at its second.
abbrev pub RewriteMeaning : Type 0
RewriteMeaning =
    (own : Rewriting) (told : List Happening) → EndedRun rewrite_rules (waiting own) told → (sent 0 told ≡ flat_map (rewrites own) (got 0 told)) × (sent 1 told ≡ flat_map (rejects own) (got 0 told))
