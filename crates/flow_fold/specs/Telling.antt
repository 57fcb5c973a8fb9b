-- What a kind's code answers, in the words of its folding.
use Rattle.std.specs.Prelude.{◌≡◌, ℕ, List, Option, Some, None, Result, Ok, Err, Vec}
use Rattle.std.specs.declared.alloc.Global.{Global}
use Rattle.flow_component.specs.declared.Stop.{Stop}
use Rattle.flow_component.specs.declared.Stop.TheVariants as stops
use Rattle.flow_fold.specs.Folding.{Taken, Keeps, Refuses}

-- A text was added to the state, and what came of it is the new one; or it was refused, or memory was wanting, and then the state is as before.
abbrev pub TakesIn : {A S : Type 0} → Taken S → Result A Stop → S → S → Type 0
TakesIn taken (Ok done) old new = taken ≡ Keeps new
TakesIn taken (Err (stops.Fail cause)) old new = (taken ≡ Refuses cause) × (new ≡ old)
TakesIn taken (Err stops.NoMemory) old new = new ≡ old

-- What was asked for is this text, or there is none.
abbrev pub IsText : Option (Vec ℕ Global) → Option (List ℕ) → Type 0
IsText None text = text ≡ None
IsText (Some bytes) text = text ≡ Some bytes.items
