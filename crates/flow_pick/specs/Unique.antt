-- The component that drops repeats: its state, its rule, and what it makes of a stream. (The command uniq, told of streams with substreams;
-- the rule is this project's own.)
use Rattle.std.specs.Prelude.{ℕ, zero, suc, Bool, true, false, not, List, [], ◌∷◌, Option, Some, None}
use Rattle.std.specs.Str.{bytes_eq}
use Rattle.flow_packet.specs.declared.packet.Kind.{Kind}
use Rattle.flow_packet.specs.declared.packet.Kind.TheVariants.{Normal, Open, Close}
use Rattle.flow_packet.specs.Tree.{Tree, node, kind_of, text_of}
use Rattle.flow_packet.specs.Held.{Held}
use Rattle.flow_component.specs.declared.Answer.{Answer}
use Rattle.flow_component.specs.Laws.{Rules, Outcome}
use Rattle.flow_pick.specs.Picking.{Picker, picker_next, picker_rules}
use Rattle.flow_pick.specs.Places.{Place}

-- Whether its second output is connected; the text of the last Normal packet of the innermost open substream; and that of each one around it, the nearest first.
pub record UniqueState : Type 0 where
  pub rep : Bool
  pub last : Option (List ℕ)
  pub outer : List (Option (List ℕ))

-- The text is the one that came last.
abbrev pub is_last : Option (List ℕ) → List ℕ → Bool
is_last None text = false
is_last (Some last) text = bytes_eq last text

-- A Normal packet is picked unless its text is the last one; brackets are.
abbrev pub unique_picks : UniqueState → Kind → List ℕ → Bool
unique_picks state Normal text = not (is_last state.last text)
unique_picks state Open text = true
unique_picks state Close text = true

-- Behind a Close packet it goes on in the substream around. Where none is open it begins anew.
abbrev pub closed : UniqueState → List (Option (List ℕ)) → UniqueState
closed state [] = record state { last = None; outer = [] }
closed state (last ∷ outer) = record state { last = last; outer = outer }

-- The text of a Normal packet is the last one then. An Open packet begins a substream, which has none yet.
abbrev pub unique_after : UniqueState → Kind → List ℕ → UniqueState
unique_after state Normal text = record state { last = Some text }
unique_after state Open text = record state { last = None; outer = state.last ∷ state.outer }
unique_after state Close text = closed state state.outer

-- How a Unique picks.
abbrev pub unique_picker : Picker UniqueState
unique_picker = record { connected = λ state. state.rep; picks = unique_picks; after = unique_after }

-- The rule.
abbrev pub unique_next : UniqueState → Held → Answer → Outcome UniqueState
unique_next state held answer = picker_next unique_picker state held answer

-- All that a network knows of it.
abbrev pub unique_rules : Rules UniqueState
unique_rules = picker_rules unique_picker

-- The Normal packet that came last in the same substream, if there is one. What came before is gone through, the nearest first: a Close packet leads into an inner substream, whose packets are
-- passed over, and its Open packet out of it again; the Open packet of the substream itself ends the search. So many inner substreams are being passed over.
abbrev pub last_before : ℕ → List Tree → Option Tree
last_before inner [] = None
last_before zero (node id Normal text cs ∷ earlier) = Some (node id Normal text cs)
last_before (suc inner) (node id Normal text cs ∷ earlier) = last_before (suc inner) earlier
last_before zero (node id Open text cs ∷ earlier) = None
last_before (suc inner) (node id Open text cs ∷ earlier) = last_before inner earlier
last_before inner (node id Close text cs ∷ earlier) = last_before (suc inner) earlier

-- It has this text.
abbrev pub has_text : Option Tree → List ℕ → Bool
has_text None text = false
has_text (Some packet) text = bytes_eq (text_of packet) text

-- A Normal packet whose text is that of the Normal packet before it in the same substream isn't kept; all others are.
abbrev pub kept : Kind → Place → Bool
kept Normal place = not (has_text (last_before 0 place.earlier) (text_of place.packet))
kept Open place = true
kept Close place = true

-- The packet at the place is no repeat.
abbrev pub is_new : Place → Bool
is_new place = kept (kind_of place.packet) place

-- A Unique at its start.
abbrev pub fresh_unique : Bool → UniqueState
fresh_unique rep = record { rep = rep; last = None; outer = [] }
