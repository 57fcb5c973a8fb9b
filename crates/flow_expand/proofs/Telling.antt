-- Steps of telling a builder the statements of a text.
use Rattle.std.proofs.Common.{◌≡◌, ℕ, ◌+◌, ◌<◌, ◌≤◌, List, [], ◌∷◌, ◌++◌, length, get_or, drop, Option, Some, None, Result, Ok, Err, refl, sym, ap, subst, ◌∙◌}
use Rattle.std.specs.Prelude.{MatchResult}
use Rattle.std.specs.List.{filter_map, cons_option, flat_map}
use Rattle.std.proofs.lemmas.List.{drop_all}
use Rattle.flow_net.specs.declared.fault.PlanFault.{PlanFault}
use Rattle.flow_net.specs.declared.fault.PlanStop.{PlanStop}
use Rattle.flow_net.specs.declared.fault.PlanStop.TheVariants as plans
use Rattle.flow_net.specs.Drafts.{Draft, Becomes}
use Rattle.flow_net.specs.Calls.{after_connect}
use Rattle.flow_net.specs.Initials.{AfterInitial}
use Rattle.flow_plan.specs.declared.kind.PortRef.{PortRef}
use Rattle.flow_parse.specs.declared.value.Statement.{Statement}
use Rattle.flow_parse.specs.declared.value.Statement.TheVariants.{Connect, Initial}
use Rattle.flow_flat.specs.declared.fault.ExpandFault.{ExpandFault}
use Rattle.flow_flat.specs.declared.fault.ExpandFault.TheVariants as faults
use Rattle.flow_flat.specs.Subnets.{connect_meant, initial_meant}
use Rattle.flow_flat.specs.Told.{IsShort, AfterStatement, AfterMeant}
use Rattle.flow_expand.specs.declared.stop.ExpandStop.{ExpandStop}
use Rattle.flow_expand.specs.declared.stop.ExpandStop.TheVariants.{Fault, NoMemory}
use Rattle.flow_expand.specs.Outcomes.{Leaves, stop_of}
use Rattle.flow_expand.proofs.Places.{cut}

-- What comes of the rest of statements comes of all of them.
abbrev pub GoesOn : Draft → List (Result Statement ExpandFault) → Draft → List (Result Statement ExpandFault) → Type 0
GoesOn start all old rest = (outcome : Result Draft ExpandFault) → AfterMeant old rest outcome → AfterMeant start all outcome

-- Statements behind one another.
pub meant_append : (xs ys : List (Result Statement ExpandFault)) (start mid : Draft) (outcome : Result Draft ExpandFault) → AfterMeant start xs (Ok mid) → AfterMeant mid ys outcome → AfterMeant start (xs ++ ys) outcome
meant_append [] ys start mid outcome first then_on = let same : start ≡ mid = cc in subst (λ (d : Draft). AfterMeant d ys outcome) (sym same) then_on
meant_append (Err fault ∷ xs) ys start mid outcome first then_on = absurd (cc)
meant_append (Ok s ∷ xs) ys start mid outcome first then_on = (first.0, first.1, first.2, by first.0 first.3 (λ d there. meant_append xs ys d mid outcome there then_on)) where
  by : (r : Result Draft PlanFault) → MatchResult r (λ d. AfterMeant d xs (Ok mid)) (λ fault. ◌≡◌ {A = Result Draft ExpandFault} (Ok mid) (Err (faults.Plan fault)))
      → ((d : Draft) → AfterMeant d xs (Ok mid) → AfterMeant d (xs ++ ys) outcome) → MatchResult r (λ d. AfterMeant d (xs ++ ys) outcome) (λ fault. outcome ≡ Err (faults.Plan fault))
  by (Ok d) there more = more d there
  by (Err fault) there more = absurd (cc)

-- Statements that stop with a fault stop with it, whatever comes behind them.
pub meant_stops : (xs ys : List (Result Statement ExpandFault)) (start : Draft) (fault : ExpandFault) → AfterMeant start xs (Err fault) → AfterMeant start (xs ++ ys) (Err fault)
meant_stops [] ys start fault first = absurd (cc)
meant_stops (Err other ∷ xs) ys start fault first = first
meant_stops (Ok s ∷ xs) ys start fault first = (first.0, first.1, first.2, by first.0 first.3 (λ d there. meant_stops xs ys d fault there)) where
  by : (r : Result Draft PlanFault) → MatchResult r (λ d. AfterMeant d xs (Err fault)) (λ f. ◌≡◌ {A = Result Draft ExpandFault} (Err fault) (Err (faults.Plan f)))
      → ((d : Draft) → AfterMeant d xs (Err fault) → AfterMeant d (xs ++ ys) (Err fault)) → MatchResult r (λ d. AfterMeant d (xs ++ ys) (Err fault)) (λ f. ◌≡◌ {A = Result Draft ExpandFault} (Err fault) (Err (faults.Plan f)))
  by (Ok d) there more = more d there
  by (Err f) there more = there

-- The same, of what a call left.
pub leaves_stops : (xs ys all : List (Result Statement ExpandFault)) (start old new : Draft) (stop : ExpandStop) → GoesOn start all old (xs ++ ys) → Leaves (Err stop) new (λ outcome. AfterMeant old xs outcome) → Leaves (Err stop) new (λ outcome. AfterMeant start all outcome)
leaves_stops xs ys all start old new (Fault fault) on stops = on (Err fault) (meant_stops xs ys old fault stops)
leaves_stops xs ys all start old new NoMemory on stops = tt

-- One statement that means something, as the builder takes or refuses it.
abbrev pub TellsOne : Draft → Draft → Statement → Result (Unit {0}) PlanStop → Type 0
TellsOne old new s (Ok u) = AfterStatement old s (Ok new)
TellsOne old new s (Err (plans.Fault fault)) = AfterStatement old s (Err fault)
TellsOne old new s (Err plans.NoMemory) = Unit {0}

-- A statement that the builder refuses ends the telling with its fault.
pub one_stops : (old new : Draft) (o : Option (Result Statement ExpandFault)) (s : Statement) (stop : PlanStop) → o ≡ Some (Ok s) → IsShort s → TellsOne old new s (Err stop) → Leaves (Err (stop_of stop)) new (λ outcome. AfterMeant old (cons_option o []) outcome)
one_stops old new o s (plans.Fault fault) is short tells = subst (λ (p : Option (Result Statement ExpandFault)). AfterMeant old (cons_option p []) (Err (faults.Plan fault))) (sym is) (Err fault, short, tells, refl)
one_stops old new o s plans.NoMemory is short tells = tt

-- A statement that the builder takes is one statement told.
pub one_taken : (old new : Draft) (o : Option (Result Statement ExpandFault)) (s : Statement) → o ≡ Some (Ok s) → IsShort s → AfterStatement old s (Ok new) → AfterMeant old (cons_option o []) (Ok new)
one_taken old new o s is short tells = subst (λ (p : Option (Result Statement ExpandFault)). AfterMeant old (cons_option p []) (Ok new)) (sym is) (Ok new, short, tells, refl)

-- Telling the builder of a connection does what the statement says.
pub connect_tells : (old new : Draft) (from to : List ℕ) (out into : PortRef) (capacity : Option ℕ) (result : Result (Unit {0}) PlanStop) → Becomes (after_connect old from out capacity to into) result old new → TellsOne old new (Connect from out capacity to into) result
connect_tells old new from to out into capacity (Ok u) is = is
connect_tells old new from to out into capacity (Err (plans.Fault fault)) is = is.0
connect_tells old new from to out into capacity (Err plans.NoMemory) is = tt

-- Telling the builder of an initial text does what the statement says.
pub initial_tells : (old new : Draft) (text to : List ℕ) (into : PortRef) (result : Result (Unit {0}) PlanStop) → AfterInitial old text to into result new → TellsOne old new (Initial text to into) result
initial_tells old new text to into (Ok u) is = is
initial_tells old new text to into (Err (plans.Fault fault)) is = (is.0, refl)
initial_tells old new text to into (Err plans.NoMemory) is = tt

-- What a statement means whose references mean something.
pub connect_is : (a b : Result (List ℕ × PortRef) ExpandFault) (capacity : Option ℕ) (from to : List ℕ) (out into : PortRef) → a ≡ Ok (from, out) → b ≡ Ok (to, into) → ◌≡◌ {A = Option (Result Statement ExpandFault)} (Some (connect_meant capacity a b)) (Some (Ok (Connect from out capacity to into)))
connect_is a b capacity from to out into first second =
    ap (λ (r : Result (List ℕ × PortRef) ExpandFault). let o : Option (Result Statement ExpandFault) = Some (connect_meant capacity r b) in o) first
    ∙ ap (λ (r : Result (List ℕ × PortRef) ExpandFault). let o : Option (Result Statement ExpandFault) = Some (connect_meant capacity (Ok (from, out)) r) in o) second

-- An initial text means one at the port that its port means.
pub initial_is : (a : Result (List ℕ × PortRef) ExpandFault) (text to : List ℕ) (into : PortRef) → a ≡ Ok (to, into) → ◌≡◌ {A = Option (Result Statement ExpandFault)} (Some (initial_meant text a)) (Some (Ok (Initial text to into)))
initial_is a text to into is = ap (λ (r : Result (List ℕ × PortRef) ExpandFault). let o : Option (Result Statement ExpandFault) = Some (initial_meant text r) in o) is

cons_first : {X : Type 0} (o : Option X) (xs : List X) → cons_option o xs ≡ cons_option o [] ++ xs
cons_first None xs = refl
cons_first (Some x) xs = refl

cut_map : {X Y : Type 0} (f : X → Option Y) (xs : List X) (i : ℕ) (x : X) → i < length xs → x ≡ get_or xs i x → filter_map f (drop i xs) ≡ cons_option (f x) [] ++ filter_map f (drop (i + 1) xs)
cut_map f xs i x below is = ap (filter_map f) (cut xs i x below is) ∙ cons_first (f x) (filter_map f (drop (i + 1) xs))

module _ {X : Type 0} (f : X → Option (Result Statement ExpandFault)) (xs : List X) (i : ℕ) (start old : Draft) (on : GoesOn start (filter_map f xs) old (filter_map f (drop i xs))) where
  -- One more is told.
  pub goes_one : (x : X) (new : Draft) → i < length xs → x ≡ get_or xs i x → AfterMeant old (cons_option (f x) []) (Ok new) → GoesOn start (filter_map f xs) new (filter_map f (drop (i + 1) xs))
  goes_one x new below is told = λ outcome rest. on outcome (subst (λ (l : List (Result Statement ExpandFault)). AfterMeant old l outcome) (sym (cut_map f xs i x below is)) (meant_append (cons_option (f x) []) (filter_map f (drop (i + 1) xs)) old new outcome told rest))

  -- One stops the telling.
  pub stops_one : (x : X) (new : Draft) (stop : ExpandStop) → i < length xs → x ≡ get_or xs i x → Leaves (Err stop) new (λ outcome. AfterMeant old (cons_option (f x) []) outcome) → Leaves (Err stop) new (λ outcome. AfterMeant start (filter_map f xs) outcome)
  stops_one x new stop below is told = leaves_stops (cons_option (f x) []) (filter_map f (drop (i + 1) xs)) (filter_map f xs) start old new stop
      (subst (λ (l : List (Result Statement ExpandFault)). GoesOn start (filter_map f xs) old l) (cut_map f xs i x below is) on) told

  -- All are told.
  pub all_told : length xs ≤ i → AfterMeant start (filter_map f xs) (Ok old)
  all_told over = on (Ok old) (subst (λ (l : List X). AfterMeant old (filter_map f l) (Ok old)) (sym (drop_all i xs over)) refl)

module _ {X : Type 0} (f : X → List (Result Statement ExpandFault)) (xs : List X) (i : ℕ) (start old : Draft) (on : GoesOn start (flat_map f xs) old (flat_map f (drop i xs))) where
  -- The statements of one more are told.
  pub goes_many : (x : X) (new : Draft) → i < length xs → x ≡ get_or xs i x → AfterMeant old (f x) (Ok new) → GoesOn start (flat_map f xs) new (flat_map f (drop (i + 1) xs))
  goes_many x new below is told = λ outcome rest. on outcome (subst (λ (l : List X). AfterMeant old (flat_map f l) outcome) (sym (cut xs i x below is)) (meant_append (f x) (flat_map f (drop (i + 1) xs)) old new outcome told rest))

  pub stops_many : (x : X) (new : Draft) (stop : ExpandStop) → i < length xs → x ≡ get_or xs i x → Leaves (Err stop) new (λ outcome. AfterMeant old (f x) outcome) → Leaves (Err stop) new (λ outcome. AfterMeant start (flat_map f xs) outcome)
  stops_many x new stop below is told = leaves_stops (f x) (flat_map f (drop (i + 1) xs)) (flat_map f xs) start old new stop
      (subst (λ (l : List X). GoesOn start (flat_map f xs) old (flat_map f l)) (cut xs i x below is) on) told

  -- The statements of all are told.
  pub told_many : length xs ≤ i → AfterMeant start (flat_map f xs) (Ok old)
  told_many over = on (Ok old) (subst (λ (l : List X). AfterMeant old (flat_map f l) (Ok old)) (sym (drop_all i xs over)) refl)
