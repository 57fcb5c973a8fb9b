-- What the components make of their streams, from their first state to their end. (The rules are this project's own.)
use Rattle.std.specs.Prelude.{◌≡◌, ℕ, Bool, true, false, not, List, [], map}
use Rattle.std.specs.List.{filter}
use Rattle.flow_packet.specs.declared.packet.Kind.{Kind}
use Rattle.flow_packet.specs.declared.packet.Kind.TheVariants.{Normal, Open, Close}
use Rattle.flow_packet.specs.Tree.{Tree, kind_of, text_of}
use Rattle.flow_component.specs.Happenings.{Happening}
use Rattle.flow_component.specs.Runs.{EndedRun, got, sent, text_packet}
use Rattle.flow_pattern.specs.Pattern.{Replacement, matches, replaced}
use Rattle.flow_match.specs.Match.{match_rules}
use Rattle.flow_match.specs.Replace.{replace_rules}

-- A Normal packet is accepted where the pattern matches somewhere in its text, a bracket always.
abbrev pub accepts_as : List ℕ → Kind → Tree → Bool
accepts_as pattern Normal packet = matches pattern (text_of packet)
accepts_as pattern Open packet = true
accepts_as pattern Close packet = true

-- Whether a Match accepts a packet.
abbrev pub accepts : List ℕ → Tree → Bool
accepts pattern packet = accepts_as pattern (kind_of packet) packet

-- What a Match makes of x: the packets that it accepts to its first output, and those that it rejects to its second one, if that is connected.
pub record IsMatched (pattern : List ℕ) (rejects : Bool) (x accepted rejected : List Tree) : Type 0 where
  pub accepts_those : accepted ≡ filter (accepts pattern) x
  pub rejects_others : rejects ≡ true → rejected ≡ filter (λ packet. not (accepts pattern packet)) x
  pub silent : rejects ≡ false → rejected ≡ []

-- The meaning of Match, over whole runs.
abbrev pub MatchMeaning : Type 0
MatchMeaning = (pattern : List ℕ) (rejects : Bool) (told : List Happening) → EndedRun match_rules (record { pattern = pattern; rejects = rejects }) told → IsMatched pattern rejects (got 0 told) (sent 0 told) (sent 1 told)

-- A packet in which something matches, with its matches replaced; another stays as it is.
abbrev pub rewritten_if : Bool → Replacement → Tree → Tree
rewritten_if true with packet = text_packet (replaced with.pattern with.with (text_of packet))
rewritten_if false with packet = packet

-- A Normal packet is rewritten so; a bracket stays as it is.
abbrev pub rewritten_as : Kind → Replacement → Tree → Tree
rewritten_as Normal with packet = rewritten_if (matches with.pattern (text_of packet)) with packet
rewritten_as Open with packet = packet
rewritten_as Close with packet = packet

-- What a Replace makes of a packet.
abbrev pub rewritten : Replacement → Tree → Tree
rewritten with packet = rewritten_as (kind_of packet) with packet

-- A Replace sends what it gets, with the matches in each Normal packet replaced.
abbrev pub ReplaceMeaning : Type 0
ReplaceMeaning = (with : Replacement) (told : List Happening) → EndedRun replace_rules with told → sent 0 told ≡ map (rewritten with) (got 0 told)
