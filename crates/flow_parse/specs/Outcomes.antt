-- That each file has one outcome.
use Rattle.std.specs.Prelude.{◌≡◌, ℕ, List, Ok, Err}
use Rattle.std.specs.declared.result.Result.{Result}
use Rattle.flow_parse.specs.declared.fault.NetFault.{NetFault}
use Rattle.flow_parse.specs.declared.value.NetText.{NetText}
use Rattle.flow_parse.specs.Files.{Spells, Refused}

-- What the bytes of a file come to: a value that they spell, or a fault that they are refused for.
abbrev pub FileComesTo : List ℕ → Result NetText NetFault → Type 0
FileComesTo bytes (Ok value) = Spells bytes value
FileComesTo bytes (Err fault) = Refused bytes fault

-- Any bytes come to a value or to a fault.
abbrev pub FileComesToSome : Type 0
FileComesToSome = (bytes : List ℕ) → (outcome : Result NetText NetFault) × FileComesTo bytes outcome

-- Any bytes come to one value or one fault at most, and not to both.
abbrev pub FileComesToOne : Type 0
FileComesToOne = (bytes : List ℕ) (one other : Result NetText NetFault) → FileComesTo bytes one → FileComesTo bytes other → one ≡ other
