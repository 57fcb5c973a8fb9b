-- Initial texts.
use Rattle.std.specs.Prelude.{ℕ, Bool, true, false, List, Option, Some, None}
use Rattle.flow_model.specs.States.{Input, From, Text}

-- The initial text that a receive at an input takes, if it takes one.
abbrev pub text_taken : Bool → Option Input → Option (List ℕ)
text_taken true (Some (Text text)) = Some text
text_taken true (Some (From c)) = None
text_taken true None = None
text_taken false input = None
