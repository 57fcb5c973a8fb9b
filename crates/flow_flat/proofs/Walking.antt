-- Statements one after the other: a draft refuses the first that the text refuses, for the same, and agrees with the text after all of them.
use Rattle.flow_limits.specs.declared.TheConstants.{TEXT_LIMIT}
use Rattle.std.proofs.Common.{◌≡◌, ℕ, ◌≤◌, List, [], ◌∷◌, ◌++◌, map, length, take, zero, suc, Option, Some, None, Ok, Err, refl, ap, sym, subst, ◌∙◌, slice_get}
use Rattle.std.proofs.Common.{append_assoc}
use Rattle.std.specs.Prelude.{MatchResult}
use Rattle.std.specs.List.{cons_option}
use Rattle.std.specs.declared.result.Result.{Result}
use Rattle.std.proofs.lemmas.List.{append-nil}
use Rattle.std.proofs.lemmas.List.Elements.{filter_map-append}
use Rattle.flow_net.specs.declared.draft.End.{End}
use Rattle.flow_net.specs.declared.fault.PlanFault.{PlanFault}
use Rattle.flow_plan.specs.declared.kind.KindSpec.{KindSpec}
use Rattle.flow_plan.specs.declared.kind.PortRef.{PortRef}
use Rattle.flow_net.specs.Drafts.{Draft, ◌>>=◌}
use Rattle.flow_net.specs.Calls.{ends_of, may_join, joined, after_connect, given as gives}
use Rattle.flow_net.proofs.Ends.{bind_ok}
use Rattle.flow_parse.specs.declared.value.Statement.{Statement}
use Rattle.flow_parse.specs.declared.value.Statement.TheVariants.{Connect, Initial, InPort, OutPort}
use Rattle.flow_flat.specs.Names.{PortAt, Join, join_ends, joined_by, join_of, given_by, text_of, text_end, joins_of, texts_of}
use Rattle.flow_flat.specs.Faults.{join_test, StatementTest}
use Rattle.flow_flat.specs.Told.{IsShort, AfterText, AfterStatement, AfterStatements}
use Rattle.flow_flat.proofs.Lookups.{bare, ends_are}
use Rattle.flow_flat.proofs.Agrees.{Agrees}
use Rattle.flow_flat.proofs.Joining.{joins_alike, agrees_joined}
use Rattle.flow_flat.proofs.Giving.{takes, refuses, agrees_given, text_alike, text_test_end}

-- A draft agrees with the text up to these statements.
abbrev pub Follows : List KindSpec → List (List ℕ × List ℕ) → List PortAt → List Statement → Draft → Type 0
Follows table ps at before draft = Agrees table ps at (joins_of ps at before) (texts_of ps at before) draft

module _ (table : List KindSpec) (ps : List (List ℕ × List ℕ)) (at : List PortAt) where
  joins_push : (before : List Statement) (s : Statement) → joins_of ps at (before ++ s ∷ []) ≡ joins_of ps at before ++ cons_option (join_of ps at s) []
  joins_push before s = filter_map-append (join_of ps at) before (s ∷ [])

  texts_push : (before : List Statement) (s : Statement) → texts_of ps at (before ++ s ∷ []) ≡ texts_of ps at before ++ cons_option (text_of ps at s) []
  texts_push before s = filter_map-append (text_of ps at) before (s ∷ [])

  -- what agrees after the connect statements and texts that one more statement adds
  follows_push : (before : List Statement) (s : Statement) (joins : List Join) (texts : List (End × List ℕ)) (next : Draft) → Agrees table ps at joins texts next
      → joins_of ps at before ++ cons_option (join_of ps at s) [] ≡ joins → texts_of ps at before ++ cons_option (text_of ps at s) [] ≡ texts → Follows table ps at (before ++ s ∷ []) next
  follows_push before s joins texts next agrees is are =
      subst (λ (js : List Join). Agrees table ps at js (texts_of ps at (before ++ s ∷ [])) next) (sym (joins_push before s ∙ is))
      (subst (λ (ts : List (End × List ℕ)). Agrees table ps at joins ts next) (sym (texts_push before s ∙ are)) agrees)

  module _ (before : List Statement) (draft : Draft) (follows : Follows table ps at before draft) where
    ends_alike : (from : List ℕ) (out : PortRef) (to : List ℕ) (into : PortRef) → ends_of draft.processes draft.ports from out to into ≡ join_ends ps at from out to into
    ends_alike from out to into = ends_are draft.processes draft.ports from out to into
        ∙ ap (λ (l : List (List ℕ × List ℕ)). join_ends l (map bare draft.ports) from out to into) follows.names ∙ ap (λ (l : List PortAt). join_ends ps l from out to into) follows.ports

    connect_alike : (from : List ℕ) (out : PortRef) (capacity : Option ℕ) (to : List ℕ) (into : PortRef)
        → (ends_of draft.processes draft.ports from out to into >>= λ ends. may_join draft.ports draft.links from out to into capacity ends.0 ends.1)
        ≡ (join_ends ps at from out to into >>= join_test at (joins_of ps at before) (texts_of ps at before) from out capacity to into)
    connect_alike from out capacity to into =
        by (ends_of draft.processes draft.ports from out to into) refl ∙ ap (λ (r : Result (End × End) PlanFault). r >>= join_test at (joins_of ps at before) (texts_of ps at before) from out capacity to into) (ends_alike from out to into)
      where
        by : (r : Result (End × End) PlanFault) → ends_of draft.processes draft.ports from out to into ≡ r
            → (r >>= λ ends. may_join draft.ports draft.links from out to into capacity ends.0 ends.1) ≡ (r >>= join_test at (joins_of ps at before) (texts_of ps at before) from out capacity to into)
        by (Ok ends) is = joins_alike table ps at (joins_of ps at before) (texts_of ps at before) draft follows from out capacity to into ends is
        by (Err fault) is = refl

    connect_steps : (from : List ℕ) (out : PortRef) (capacity : Option ℕ) (to : List ℕ) (into : PortRef) (next : Draft) → after_connect draft from out capacity to into ≡ Ok next
        → StatementTest ps at before (Connect from out capacity to into) (Ok tt) × Follows table ps at (before ++ Connect from out capacity to into ∷ []) next
    connect_steps from out capacity to into next is =
        let ends = bind_ok (ends_of draft.processes draft.ports from out to into) (λ ends. may_join draft.ports draft.links from out to into capacity ends.0 ends.1 >>= λ allowed. Ok (joined draft ends.0 ends.1 capacity)) next is in
        let may = bind_ok (may_join draft.ports draft.links from out to into capacity ends.0.0 ends.0.1) (λ allowed. Ok (joined draft ends.0.0 ends.0.1 capacity)) next ends.2 in
        let made : joined draft ends.0.0 ends.0.1 capacity ≡ next = cc (may.2) in
        let join : Option Join = joined_by capacity (Ok ends.0) in
        let named : join_ends ps at from out to into ≡ Ok ends.0 = sym (ends_alike from out to into) ∙ ends.1 in (
          sym (connect_alike from out capacity to into) ∙ ap (λ (r : Result (End × End) PlanFault). r >>= λ ends. may_join draft.ports draft.links from out to into capacity ends.0 ends.1) ends.1 ∙ may.1,
          subst (Follows table ps at (before ++ Connect from out capacity to into ∷ [])) made
              (follows_push before (Connect from out capacity to into) (joins_of ps at before ++ record { out = ends.0.0; into = ends.0.1; capacity = capacity } ∷ []) (texts_of ps at before) (joined draft ends.0.0 ends.0.1 capacity)
              (agrees_joined table ps at (joins_of ps at before) (texts_of ps at before) draft follows from out capacity to into ends.0 may.0 ends.1 may.1)
              (ap (λ (r : Result (End × End) PlanFault). joins_of ps at before ++ cons_option (joined_by capacity r) []) named) (append-nil (texts_of ps at before))),
        )

    connect_fails : (from : List ℕ) (out : PortRef) (capacity : Option ℕ) (to : List ℕ) (into : PortRef) (fault : PlanFault) → after_connect draft from out capacity to into ≡ Err fault
        → StatementTest ps at before (Connect from out capacity to into) (Err fault)
    connect_fails from out capacity to into fault is = sym (connect_alike from out capacity to into) ∙ by (ends_of draft.processes draft.ports from out to into) is
      where
        inner : (ends : End × End) (r : Result (Unit {0}) PlanFault) → (r >>= λ allowed. Ok (joined draft ends.0 ends.1 capacity)) ≡ Err fault → r ≡ Err fault
        inner ends (Ok u) is = absurd (cc)
        inner ends (Err f) is = let same : f ≡ fault = cc in ap Err same

        by : (r : Result (End × End) PlanFault) → (r >>= λ ends. may_join draft.ports draft.links from out to into capacity ends.0 ends.1 >>= λ allowed. Ok (joined draft ends.0 ends.1 capacity)) ≡ Err fault
            → (r >>= λ ends. may_join draft.ports draft.links from out to into capacity ends.0 ends.1) ≡ Err fault
        by (Ok ends) is = inner ends (may_join draft.ports draft.links from out to into capacity ends.0 ends.1) is
        by (Err f) is = let same : f ≡ fault = cc in ap Err same

    initial_steps : (text to : List ℕ) (into : PortRef) (next : Draft) → length text ≤ TEXT_LIMIT → AfterText draft text to into (Ok next)
        → StatementTest ps at before (Initial text to into) (Ok tt) × Follows table ps at (before ++ Initial text to into ∷ []) next
    initial_steps text to into next short is =
        let taken = takes table ps at (joins_of ps at before) (texts_of ps at before) draft follows text to into is.0 is.1 is.2 in
        let named : text_end ps at to into ≡ Ok is.0 = text_test_end ps at (joins_of ps at before) (texts_of ps at before) to into is.0 (sym (text_alike table ps at (joins_of ps at before) (texts_of ps at before) draft follows to into) ∙ is.1) in (
          taken,
          subst (Follows table ps at (before ++ Initial text to into ∷ [])) (sym is.3)
              (follows_push before (Initial text to into) (joins_of ps at before) (texts_of ps at before ++ (is.0, text) ∷ []) (gives draft is.0 text)
              (agrees_given table ps at (joins_of ps at before) (texts_of ps at before) draft follows text to into is.0 short is.1 is.2)
              (append-nil (joins_of ps at before)) (ap (λ (r : Result End PlanFault). texts_of ps at before ++ cons_option (given_by text r) []) named)),
        )

    nothing_steps : (s : Statement) (next : Draft) → join_of ps at s ≡ None → text_of ps at s ≡ None → next ≡ draft → Follows table ps at (before ++ s ∷ []) next
    nothing_steps s next none nothing is = subst (Follows table ps at (before ++ s ∷ [])) (sym is)
        (follows_push before s (joins_of ps at before) (texts_of ps at before) draft follows
        (ap (λ (o : Option Join). joins_of ps at before ++ cons_option o []) none ∙ append-nil (joins_of ps at before))
        (ap (λ (o : Option (End × List ℕ)). texts_of ps at before ++ cons_option o []) nothing ∙ append-nil (texts_of ps at before)))

    -- A statement that a draft takes follows those before it in the text.
    pub step : (s : Statement) (next : Draft) → IsShort s → AfterStatement draft s (Ok next) → StatementTest ps at before s (Ok tt) × Follows table ps at (before ++ s ∷ []) next
    step (Connect from out capacity to into) next short is = connect_steps from out capacity to into next is
    step (Initial text to into) next short is = initial_steps text to into next short is
    step (InPort outer to into) next short is = let same : next ≡ draft = cc in (refl, nothing_steps (InPort outer to into) next refl refl same)
    step (OutPort from out outer) next short is = let same : next ≡ draft = cc in (refl, nothing_steps (OutPort from out outer) next refl refl same)

    -- One that it refuses, the text refuses for the same.
    pub stops : (s : Statement) (fault : PlanFault) → AfterStatement draft s (Err fault) → StatementTest ps at before s (Err fault)
    stops (Connect from out capacity to into) fault is = connect_fails from out capacity to into fault is
    stops (Initial text to into) fault is = refuses table ps at (joins_of ps at before) (texts_of ps at before) draft follows text to into fault is.0
    stops (InPort outer to into) fault is = absurd (cc)
    stops (OutPort from out outer) fault is = absurd (cc)

  -- Each statement follows those before it, after these.
  abbrev pub AllFollow : List Statement → List Statement → Type 0
  AllFollow before ss = (k : ℕ) (s : Statement) → slice_get ss k ≡ Some s → StatementTest ps at (before ++ take k ss) s (Ok tt)

  -- What comes of statements, after these.
  abbrev pub Walked : List Statement → List Statement → Result Draft PlanFault → Type 0
  Walked before ss (Ok next) = AllFollow before ss × Follows table ps at (before ++ ss) next
  Walked before ss (Err fault) = (k : ℕ) × (s : Statement) × (slice_get ss k ≡ Some s) × StatementTest ps at (before ++ take k ss) s (Err fault) × AllFollow before (take k ss)

  all_follow : (before : List Statement) (s : Statement) (ss : List Statement) → StatementTest ps at before s (Ok tt) → AllFollow (before ++ s ∷ []) ss → AllFollow before (s ∷ ss)
  all_follow before s ss first rest zero t is =
      let same : s ≡ t = cc in
      subst (λ (x : Statement). StatementTest ps at (before ++ []) x (Ok tt)) same (subst (λ (l : List Statement). StatementTest ps at l s (Ok tt)) (sym (append-nil before)) first)
  all_follow before s ss first rest (suc k) t is = subst (λ (l : List Statement). StatementTest ps at l t (Ok tt)) (append_assoc before (s ∷ []) (take k ss)) (rest k t is)

  walked_push : (before : List Statement) (s : Statement) (ss : List Statement) (outcome : Result Draft PlanFault) → StatementTest ps at before s (Ok tt) → Walked (before ++ s ∷ []) ss outcome → Walked before (s ∷ ss) outcome
  walked_push before s ss (Ok next) first rest = (all_follow before s ss first rest.0, subst (λ (l : List Statement). Follows table ps at l next) (append_assoc before (s ∷ []) ss) rest.1)
  walked_push before s ss (Err fault) first rest = (
    suc rest.0,
    rest.1,
    rest.2,
    subst (λ (l : List Statement). StatementTest ps at l rest.1 (Err fault)) (append_assoc before (s ∷ []) (take rest.0 ss)) rest.3,
    all_follow before s (take rest.0 ss) first rest.4,
  )

  walked_ok : (before : List Statement) (draft : Draft) (outcome : Result Draft PlanFault) → Follows table ps at before draft → outcome ≡ Ok draft → Walked before [] outcome
  walked_ok before draft (Ok next) follows is =
      let same : draft ≡ next = cc in
      ((λ k s there. absurd (cc)), subst (Follows table ps at (before ++ [])) same (subst (λ (l : List Statement). Follows table ps at l draft) (sym (append-nil before)) follows))
  walked_ok before draft (Err fault) follows is = absurd (cc)

  walked_err : (before : List Statement) (s : Statement) (ss : List Statement) (fault : PlanFault) (outcome : Result Draft PlanFault) → StatementTest ps at before s (Err fault) → outcome ≡ Err fault → Walked before (s ∷ ss) outcome
  walked_err before s ss fault (Ok next) fails is = absurd (cc)
  walked_err before s ss fault (Err other) fails is =
      let same : fault ≡ other = cc in
      (0, s, refl, subst (λ (f : PlanFault). StatementTest ps at (before ++ []) s (Err f)) same (subst (λ (l : List Statement). StatementTest ps at l s (Err fault)) (sym (append-nil before)) fails), λ k t there. absurd (cc))

  -- Statements that a draft is told, one after the other.
  pub walk : (ss before : List Statement) (draft : Draft) (outcome : Result Draft PlanFault) → ((k : ℕ) (s : Statement) → slice_get ss k ≡ Some s → IsShort s) → Follows table ps at before draft → AfterStatements draft ss outcome → Walked before ss outcome
  walk [] before draft outcome short follows is = walked_ok before draft outcome follows is
  walk (s ∷ ss) before draft outcome short follows is = by is.0 is.1 is.2 (λ next f there. walk ss (before ++ s ∷ []) next outcome (λ k t here. short (suc k) t here) f there) where
    by : (r : Result Draft PlanFault) → AfterStatement draft s r → MatchResult r (λ next. AfterStatements next ss outcome) (λ fault. outcome ≡ Err fault)
        → ((next : Draft) → Follows table ps at (before ++ s ∷ []) next → AfterStatements next ss outcome → Walked (before ++ s ∷ []) ss outcome) → Walked before (s ∷ ss) outcome
    by (Ok next) one rest more =
        let stepped = step before draft follows s next (short 0 s refl) one in
        walked_push before s ss outcome stepped.0 (more next stepped.1 rest)
    by (Err fault) one rest more = walked_err before s ss fault outcome (stops before draft follows s fault one) rest
