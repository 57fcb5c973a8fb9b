-- A file leads to one outcome at most.
use Rattle.std.proofs.Common.{◌≡◌, ℕ, ◌+◌, List, [], ◌∷◌, Option, None, Result, Ok, Err, sym, subst, ◌∙◌}
use Rattle.std.specs.Prelude.{MatchResult}
use Rattle.std.specs.Str.Lines.{lines}
use Rattle.flow_parse.specs.declared.fault.NetFault.{NetFault}
use Rattle.flow_parse.specs.declared.value.NetText.{NetText}
use Rattle.flow_parse.specs.Files.{Said, Parts, version_of, after, LeadsTo, Spells, Refused}
use Rattle.flow_parse.specs.declared.fault.ParseStop.{ParseStop}
use Rattle.flow_parse.specs.declared.fault.ParseStop.TheVariants as stops
use Rattle.flow_parse.specs.Reader.{Gives}
use Rattle.flow_parse.proofs.OneSaid.{one_said}

goes_on : (n : ℕ) (step : Result (Option Parts) NetFault) (more : List (List ℕ)) (a b : Result NetText NetFault)
    → ((parts : Option Parts) → LeadsTo (n + 1) parts more a → LeadsTo (n + 1) parts more b → a ≡ b)
    → MatchResult step (λ parts. LeadsTo (n + 1) parts more a) (λ fault. a ≡ Err fault)
    → MatchResult step (λ parts. LeadsTo (n + 1) parts more b) (λ fault. b ≡ Err fault) → a ≡ b
goes_on n (Ok parts) more a b rest x y = rest parts x y
goes_on n (Err fault) more a b rest x y = x ∙ sym y

-- Lines lead to one outcome.
pub one_outcome : (n : ℕ) (before : Option Parts) (lines : List (List ℕ)) (a b : Result NetText NetFault) → LeadsTo n before lines a → LeadsTo n before lines b → a ≡ b
one_outcome n before [] a b x y = sym x ∙ y
one_outcome n before (line ∷ more) a b x y =
    let same : y.0 ≡ x.0 = one_said (version_of before) line y.0 x.0 y.1 x.1 in
    let there = subst (λ (s : Said). MatchResult (after n before s) (λ parts. LeadsTo (n + 1) parts more b) (λ fault. b ≡ Err fault)) same y.2 in
    goes_on n (after n before x.0) more a b (λ parts p q. one_outcome (n + 1) parts more a b p q) x.2 there

pub gives_only : (lines : List (List ℕ)) (result : Result NetText ParseStop) → Gives result (λ outcome. LeadsTo 1 None lines outcome)
    → (other : Result NetText NetFault) → LeadsTo 1 None lines other → Gives result (λ outcome. outcome ≡ other)
gives_only lines (Ok value) found other there = one_outcome 1 None lines (Ok value) other found there
gives_only lines (Err (stops.Fault fault)) found other there = one_outcome 1 None lines (Err fault) other found there
gives_only lines (Err stops.NoMemory) found other there = tt

-- A value that the bytes spell is the answer.
pub gives_value : (rows : List (List ℕ)) (bytes : List ℕ) (result : Result NetText ParseStop) → rows ≡ lines bytes → Gives result (λ outcome. LeadsTo 1 None rows outcome)
    → (value : NetText) → Spells bytes value → Gives result (λ outcome. outcome ≡ Ok value)
gives_value rows bytes result is found value spells = gives_only rows result found (Ok value) (subst (λ (l : List (List ℕ)). LeadsTo 1 None l (Ok value)) (sym is) spells)

-- A fault that the bytes are refused for is the answer.
pub gives_fault : (rows : List (List ℕ)) (bytes : List ℕ) (result : Result NetText ParseStop) → rows ≡ lines bytes → Gives result (λ outcome. LeadsTo 1 None rows outcome)
    → (fault : NetFault) → Refused bytes fault → Gives result (λ outcome. outcome ≡ Err fault)
gives_fault rows bytes result is found fault refused = gives_only rows result found (Err fault) (subst (λ (l : List (List ℕ)). LeadsTo 1 None l (Err fault)) (sym is) refused)
