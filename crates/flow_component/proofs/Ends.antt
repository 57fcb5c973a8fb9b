-- The end of an input that was heard, as one more happening comes.
use Rattle.std.proofs.Common.{ℕ, List, [], ◌∷◌, ◌++◌, inl, inr}
use Rattle.flow_component.specs.Happenings.{Happening}
use Rattle.flow_component.specs.Runs.{IsEnd, HeardEnd}

-- A process that is told of an end has heard it.
pub heard-now : (port : ℕ) (es : List Happening) (e : Happening) → IsEnd port e → HeardEnd port (es ++ e ∷ [])
heard-now port [] e h = inl h
heard-now port (f ∷ es) e h = inr (heard-now port es e h)

-- An end that was heard stays heard.
pub heard-later : (port : ℕ) (es : List Happening) (e : Happening) → HeardEnd port es → HeardEnd port (es ++ e ∷ [])
heard-later port [] e h = absurd h
heard-later port (f ∷ es) e (inl h) = inl h
heard-later port (f ∷ es) e (inr h) = inr (heard-later port es e h)
