-- A file comes to one thing.
use Rattle.std.proofs.Common.{◌≡◌, ℕ, List, Ok, Err, ap, subst}
use Rattle.std.specs.declared.result.Result.{Result}
use Rattle.flow_plan.specs.declared.kind.KindSpec.{KindSpec}
use Rattle.flow_plan.specs.Network.{Network}
use Rattle.flow_parse.specs.declared.fault.NetFault.{NetFault}
use Rattle.flow_parse.specs.declared.value.NetText.{NetText}
use Rattle.flow_parse.specs.Outcomes.{FileComesTo}
use Rattle.flow_parse.proofs.SomeOutcome.{some_file, one_file}
use Rattle.flow_flat.specs.declared.fault.ExpandFault.{ExpandFault}
use Rattle.flow_flat.specs.Texts.{TextComesTo}
use Rattle.flow_flat.specs.Laws.{FileComesToNetwork}
use Rattle.flow_flat.proofs.TextOnce.{text_once, text_some}

-- Any bytes come to something.
pub file_some : (kinds : List KindSpec) (bytes : List ℕ) → (outcome : Result (Result Network ExpandFault) NetFault) × FileComesToNetwork kinds bytes outcome
file_some kinds bytes = by (some_file bytes) where
  of : (read : Result NetText NetFault) → FileComesTo bytes read → (outcome : Result (Result Network ExpandFault) NetFault) × FileComesToNetwork kinds bytes outcome
  of (Ok text) spells = let comes = text_some kinds text in (Ok comes.0, (text, spells, comes.1))
  of (Err fault) refused = (Err fault, refused)

  by : ((read : Result NetText NetFault) × FileComesTo bytes read) → (outcome : Result (Result Network ExpandFault) NetFault) × FileComesToNetwork kinds bytes outcome
  by found = of found.0 found.1

-- They come to one thing at most.
pub file_once : (kinds : List KindSpec) (bytes : List ℕ) (one other : Result (Result Network ExpandFault) NetFault) → FileComesToNetwork kinds bytes one → FileComesToNetwork kinds bytes other → one ≡ other
file_once kinds bytes (Ok a) (Ok b) p q =
    let read : ◌≡◌ {A = Result NetText NetFault} (Ok p.0) (Ok q.0) = one_file bytes (Ok p.0) (Ok q.0) p.1 q.1 in
    let same : p.0 ≡ q.0 = cc in
    ap Ok (text_once kinds q.0 a b (subst (λ (t : NetText). TextComesTo kinds t a) same p.2) q.2)
file_once kinds bytes (Ok a) (Err f) p q = let read : ◌≡◌ {A = Result NetText NetFault} (Ok p.0) (Err f) = one_file bytes (Ok p.0) (Err f) p.1 q in absurd cc
file_once kinds bytes (Err f) (Ok b) p q = let read : ◌≡◌ {A = Result NetText NetFault} (Err f) (Ok q.0) = one_file bytes (Err f) (Ok q.0) p q.1 in absurd cc
file_once kinds bytes (Err f) (Err g) p q = let read : ◌≡◌ {A = Result NetText NetFault} (Err f) (Err g) = one_file bytes (Err f) (Err g) p q in let same : f ≡ g = cc in ap Err same
