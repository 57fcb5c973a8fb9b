-- A match that is found has a needle within it.
use Rattle.std.proofs.Common.{◌≡◌, ℕ, ◌<◌, List, All, Option, Some, None, IfSome, false, is_some, refl, subst, sym, ap, ◌∙◌, arith}
use Rattle.std.proofs.lemmas.List.{get_or_default}
use Rattle.regex.specs.Patterns.{Re, SameCaptures, find}
use Rattle.regex.proofs.ForCallers.{is_match_alike}
use Rattle.regex_hir.proofs.OptionLemmas.{value_of_IsSome}
use Rattle.regex_literal.specs.Find.{AreBytes, FindsNeedles}
use Rattle.regex_extract.specs.Needles.{ContainsNeedle}
use Rattle.regex_meta.proofs.LeftmostLemmas.{find_first, Matches-of_attempt}
use Rattle.flow_pattern.specs.Needles.{AreNeeded, StandNowhere}

pub small : (text : List ℕ) → AreBytes text → All (λ b. b < 256) text
small text bytes = λ k d h. rw (get_or_default text k d 0 h) (bytes k)

-- What is within each match is needed.
pub needed : (re : Re) (needles : List (List ℕ)) → ContainsNeedle re needles → AreNeeded re needles
needed re needles contains text bytes start some =
    let found = value_of_IsSome (find re text start) some in
    let first = find_first re text start found.0 found.1 in
    let within = contains text (small text bytes) found.0.start found.0.trace.end (Matches-of_attempt re text found.0.start found.0.trace first.here) in
    (within.1, omega (arith, first.from, within.2.low), (within.0, within.2.numbered, within.2.occurs))

-- An expression that finds the same needs the same.
pub needed_alike : (a b : Re) → SameCaptures a b → (known : Option (List (List ℕ))) → IfSome known (AreNeeded a) → IfSome known (AreNeeded b)
needed_alike a b same None h = tt
needed_alike a b same (Some needles) h = λ text bytes start some.
    h text bytes start (is_match_alike same text bytes false start ∙ some)

-- Where none stands, nothing is found.
pub none_found : (re : Re) (known : Option (List (List ℕ))) (text : List ℕ) → AreBytes text → (start : ℕ) → IfSome known (AreNeeded re) → StandNowhere known text start → (o : Option Rattle.regex.specs.Patterns.Match) → find re text start ≡ o → o ≡ None
none_found re None text bytes start h away o e = absurd away
none_found re (Some needles) text bytes start h away None e = refl
none_found re (Some needles) text bytes start h away (Some m) e =
    let stands = h text bytes start (ap is_some e) in absurd (away stands.0 stands.1 stands.2)

-- Needles that are the same ones.
pub needed_as : (re : Re) (texts needles : List (List ℕ)) → ContainsNeedle re texts → needles ≡ texts → AreNeeded re needles
needed_as re texts needles contains same = subst (AreNeeded re) (sym same) (needed re texts contains)

-- A search that found no needle tells that none stands there.
pub nowhere : (known : Option (List (List ℕ))) (needles : List (List ℕ)) (text : List ℕ) (start : ℕ) → known ≡ Some needles → FindsNeedles text needles start None → StandNowhere known text start
nowhere known needles text start is none =
    subst (λ (k : Option (List (List ℕ))). StandNowhere k text start) (sym is) (λ k behind stands. none k behind (omega (arith, stands.2.fits)) stands)

-- Then the pattern's expression has no match there.
pub not_found : (re : Re) (known : Option (List (List ℕ))) (text : List ℕ) → AreBytes text → (start : ℕ) → IfSome known (AreNeeded re) → StandNowhere known text start → find re text start ≡ None
not_found re known text bytes start h away = none_found re known text bytes start h away (find re text start) refl
