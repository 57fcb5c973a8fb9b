-- What a text with subnets comes to, where a builder is told its processes and then its statements as they are meant.
use Rattle.std.proofs.Common.{◌≡◌, ℕ, List, [], ◌∷◌, ◌++◌, map, take, zero, suc, Some, Ok, Err, refl, ap, sym, subst, slice_get}
use Rattle.std.proofs.Common.{append_assoc}
use Rattle.std.specs.Prelude.{MatchResult}
use Rattle.std.specs.List.{All, filter_map}
use Rattle.std.specs.declared.result.Result.{Result}
use Rattle.std.proofs.lemmas.List.{append-nil}
use Rattle.std.proofs.lemmas.List.Elements.{All-nil, All-cons, filter_map-append}
use Rattle.flow_net.specs.declared.fault.PlanFault.{PlanFault}
use Rattle.flow_plan.specs.declared.kind.KindSpec.{KindSpec}
use Rattle.flow_plan.specs.Network.{Network}
use Rattle.flow_net.specs.Drafts.{Draft}
use Rattle.flow_net.specs.Finishes.{FinishesTo}
use Rattle.flow_parse.specs.declared.value.Statement.{Statement}
use Rattle.flow_parse.specs.declared.value.NetText.{NetText}
use Rattle.flow_flat.specs.declared.fault.ExpandFault.{ExpandFault}
use Rattle.flow_flat.specs.declared.fault.ExpandFault.TheVariants as faults
use Rattle.flow_flat.specs.Firsts.{AllPass}
use Rattle.flow_flat.specs.Names.{text_ports}
use Rattle.flow_flat.specs.Faults.{ProcessPasses}
use Rattle.flow_flat.specs.Texts.{MeaningPasses, all_statements, flat_of, said, CanBeWrittenOut, HasTextFault, TextComesTo}
use Rattle.flow_flat.specs.Told.{IsShort, AfterStatement, AfterStatements, AfterMeant}
use Rattle.flow_flat.proofs.Naming.{Names}
use Rattle.flow_flat.proofs.Walking.{Follows, step, stops}
use Rattle.flow_flat.proofs.Outcomes.{taken}
use Rattle.flow_flat.proofs.Whole.{as_text, meant_well, whole_text}

-- Statements that all mean something and that a draft takes.
record Taken (draft next : Draft) (xs : List (Result Statement ExpandFault)) : Type 0 where
  pub meant : xs ≡ map meant_well (filter_map said xs)
  pub short : All IsShort (filter_map said xs)
  pub told : AfterStatements draft (filter_map said xs) (Ok next)

all_taken : (xs : List (Result Statement ExpandFault)) (draft next : Draft) → AfterMeant draft xs (Ok next) → Taken draft next xs
all_taken [] draft next is = let same : next ≡ draft = cc in record { meant = refl; short = All-nil IsShort; told = ap Ok same }
all_taken (Err fault ∷ xs) draft next is = absurd (cc)
all_taken (Ok s ∷ xs) draft next is = by is.0 is.2 is.3 (λ d there. all_taken xs d next there) where
  by : (r : Result Draft PlanFault) → AfterStatement draft s r → MatchResult r (λ d. AfterMeant d xs (Ok next)) (λ fault. ◌≡◌ {A = Result Draft ExpandFault} (Ok next) (Err (faults.Plan fault))) → ((d : Draft) → AfterMeant d xs (Ok next) → Taken d next xs)
      → Taken draft next (Ok s ∷ xs)
  by (Ok d) one rest more = let t = more d rest in record {
    meant = ap (λ (l : List (Result Statement ExpandFault)). Ok s ∷ l) t.meant;
    short = All-cons IsShort s (filter_map said xs) is.1 t.short;
    told = (Ok d, one, t.told);
  }
  by (Err fault) one rest more = absurd (cc)

module _ (kinds : List KindSpec) (text : NetText) where
  -- The first that fails, after these.
  abbrev FailsAfter : List (Result Statement ExpandFault) → List (Result Statement ExpandFault) → ExpandFault → Type 0
  FailsAfter before xs fault = (k : ℕ) × (x : Result Statement ExpandFault) × (slice_get xs k ≡ Some x) × MeaningPasses kinds text (before ++ take k xs) x (Err fault)
      × ((j : ℕ) (y : Result Statement ExpandFault) → slice_get (take k xs) j ≡ Some y → MeaningPasses kinds text (before ++ take j (take k xs)) y (Ok tt))

  fails_here : (before xs : List (Result Statement ExpandFault)) (x : Result Statement ExpandFault) (fault : ExpandFault) → MeaningPasses kinds text before x (Err fault) → FailsAfter before (x ∷ xs) fault
  fails_here before xs x fault fails = (0, x, refl, subst (λ (l : List (Result Statement ExpandFault)). MeaningPasses kinds text l x (Err fault)) (sym (append-nil before)) fails, λ j y there. absurd (cc))

  fails_later : (before xs : List (Result Statement ExpandFault)) (x : Result Statement ExpandFault) (fault : ExpandFault) → MeaningPasses kinds text before x (Ok tt) → FailsAfter (before ++ x ∷ []) xs fault → FailsAfter before (x ∷ xs) fault
  fails_later before xs x fault first rest =
      (suc rest.0, rest.1, rest.2, subst (λ (l : List (Result Statement ExpandFault)). MeaningPasses kinds text l rest.1 (Err fault)) (append_assoc before (x ∷ []) (take rest.0 xs)) rest.3, earlier)
    where
      earlier : (j : ℕ) (y : Result Statement ExpandFault) → slice_get (x ∷ take rest.0 xs) j ≡ Some y → MeaningPasses kinds text (before ++ take j (x ∷ take rest.0 xs)) y (Ok tt)
      earlier zero y there =
          let same : x ≡ y = cc in
          subst (λ (z : Result Statement ExpandFault). MeaningPasses kinds text (before ++ []) z (Ok tt)) same (subst (λ (l : List (Result Statement ExpandFault)). MeaningPasses kinds text l x (Ok tt)) (sym (append-nil before)) first)
      earlier (suc j) y there = subst (λ (l : List (Result Statement ExpandFault)). MeaningPasses kinds text l y (Ok tt)) (append_assoc before (x ∷ []) (take j (take rest.0 xs))) (rest.4 j y there)

  fails : (xs before : List (Result Statement ExpandFault)) (draft : Draft) (fault : ExpandFault) → Follows kinds (flat_of text).processes (text_ports kinds (flat_of text).processes) (filter_map said before) draft
      → AfterMeant draft xs (Err fault) → FailsAfter before xs fault
  fails [] before draft fault follows is = absurd (cc)
  fails (Err other ∷ xs) before draft fault follows is = let same : fault ≡ other = cc in fails_here before xs (Err other) fault (ap Err same)
  fails (Ok s ∷ xs) before draft fault follows is = by is.0 is.2 is.3 (λ d f there. fails xs (before ++ Ok s ∷ []) d fault f there) where
    by : (r : Result Draft PlanFault) → AfterStatement draft s r → MatchResult r (λ d. AfterMeant d xs (Err fault)) (λ f. ◌≡◌ {A = Result Draft ExpandFault} (Err fault) (Err (faults.Plan f)))
        → ((d : Draft) → Follows kinds (flat_of text).processes (text_ports kinds (flat_of text).processes) (filter_map said (before ++ Ok s ∷ [])) d → AfterMeant d xs (Err fault) → FailsAfter (before ++ Ok s ∷ []) xs fault)
        → FailsAfter before (Ok s ∷ xs) fault
    by (Ok d) one rest more =
        let stepped = step kinds (flat_of text).processes (text_ports kinds (flat_of text).processes) (filter_map said before) draft follows s d is.1 one in
        fails_later before xs (Ok s) fault stepped.0
        (more d (subst (λ (l : List Statement). Follows kinds (flat_of text).processes (text_ports kinds (flat_of text).processes) l d) (sym (filter_map-append said before (Ok s ∷ []))) stepped.1) rest)
    by (Err f) one rest more =
        let same : faults.Plan f ≡ fault = cc in
        fails_here before xs (Ok s) fault (subst (λ (g : ExpandFault). MeaningPasses kinds text before (Ok s) (Err g)) same (stops kinds (flat_of text).processes (text_ports kinds (flat_of text).processes) (filter_map said before) draft follows s f one))

  -- The outcome of a text whose statements came to this.
  abbrev pub Concludes : Result Draft ExpandFault → Result Network ExpandFault → Type 0
  Concludes (Ok draft) outcome = (flat : Result Network PlanFault) × FinishesTo draft flat × (outcome ≡ as_text flat)
  Concludes (Err fault) outcome = outcome ≡ Err fault

  -- A builder that is told the processes of a text, and then its statements as they are meant, comes to what the text comes to.
  pub meant_is_said : CanBeWrittenOut kinds text → (named : Draft) → AllPass (ProcessPasses kinds) (flat_of text).processes → Names kinds (flat_of text).processes named
      → (drafted : Result Draft ExpandFault) → AfterMeant named (all_statements text) drafted → (outcome : Result Network ExpandFault) → Concludes drafted outcome → TextComesTo kinds text outcome
  meant_is_said written named passed names (Ok draft) told outcome is =
      let t = all_taken (all_statements text) named draft told in
      subst (TextComesTo kinds text) (sym is.2) (whole_text kinds text written passed t.meant is.0 (taken kinds (flat_of text) named passed names t.short (Ok draft) t.told is.0 is.1))
  meant_is_said written named passed names (Err fault) told outcome is =
      let f = fails (all_statements text) [] named fault names told in
      subst (TextComesTo kinds text) (sym is) (HasTextFault.of_statement written (record { place = f.0; one = f.1; here = f.2; fails = f.3; before = f.4 }))
