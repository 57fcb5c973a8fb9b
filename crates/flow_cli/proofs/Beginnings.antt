-- What a call has begun: what is under way, and what is offered for it.
use Rattle.std.proofs.Common.{◌≡◌, ℕ, zero, suc, ◌≤◌, List, [], ◌∷◌, length, Ok, Vec, refl, sym, ap, ◌∙◌, subst, arith}
use Rattle.std.specs.Prelude.{String}
use Rattle.std.specs.declared.alloc.Global.{Global}
use Rattle.flow_limits.specs.declared.TheConstants.{WORKER_LIMIT}
use Rattle.flow_text.specs.Edge.{Outside}
use Rattle.flow_plan.specs.declared.kind.KindSpec.{KindSpec}
use Rattle.flow_plan.specs.Network.{Network}
use Rattle.flow_words.specs.Words.{Asked, AskedRun, Make, run_by, run_of, workers_asked}
use Rattle.flow_words.specs.declared.asked.RunCommand.{RunCommand}
use Rattle.flow_machine.specs.Starts.{StartsNet}
use Rattle.flow_machine.specs.Values.{NetValue}
use Rattle.flow_offer.specs.Processes.{IsOfferedPlan}
use Rattle.flow_cli.specs.Begins.{BeginsMake, IsUnderWay, IsUnderWayTo, IsRunUnderWay, IsMakeUnderWay, workers_to}
use Rattle.flow_load.specs.Reads.{Asks, AsksWorkers}
use Rattle.flow_load.specs.Components.{AreLive, HasComponents}
use Rattle.flow_load.specs.Offers.{AnyKind, AreOffered, Offer, counts_of, known, parts_of, specs_of}
use Rattle.flow_load.specs.Prepare.{AsksMake, AsksRun, IsReadyAgain}
use Rattle.flow_load.specs.declared.before.Again.{Again}
use Rattle.flow_load.specs.declared.before.Job.{Job}
use Rattle.flow_cli.specs.declared.begin.Goal.{Goal}
use Rattle.flow_cli.specs.declared.begin.Goal.TheVariants as goals
use Rattle.flow_cli.specs.declared.begin.Running.{Running}

-- the offer of these kinds with so many parts
offers_with : List KindSpec → List ℕ → List Offer
offers_with [] counts = []
offers_with (kind ∷ kinds) [] = []
offers_with (kind ∷ kinds) (count ∷ counts) = record { spec = kind; parts = count } ∷ offers_with kinds counts

specs-with : (kinds : List KindSpec) (counts : List ℕ) → length counts ≡ length kinds → specs_of (offers_with kinds counts) ≡ kinds
unfolding offers_with
specs-with [] counts same = refl
specs-with (kind ∷ kinds) [] same = absurd cc
specs-with (kind ∷ kinds) (count ∷ counts) same = let less : length counts ≡ length kinds = cc in ap (λ (l : List KindSpec). kind ∷ l) (specs-with kinds counts less)

parts-with : (kinds : List KindSpec) (counts : List ℕ) → length counts ≡ length kinds → parts_of (offers_with kinds counts) ≡ counts
unfolding offers_with
parts-with [] [] same = refl
parts-with [] (count ∷ counts) same = absurd cc
parts-with (kind ∷ kinds) [] same = absurd cc
parts-with (kind ∷ kinds) (count ∷ counts) same = let less : length counts ≡ length kinds = cc in ap (λ (l : List ℕ). count ∷ l) (parts-with kinds counts less)

counts-many : {P : Type 0} (parts : List (Vec P Global)) → length (counts_of parts) ≡ length parts
counts-many [] = refl
counts-many (p ∷ parts) = ap suc (counts-many parts)

both-many : (own : List Offer) → length (parts_of own) ≡ length (specs_of own)
both-many [] = refl
both-many (offer ∷ own) = ap suc (both-many own)

-- What is offered has as many lists of parts as kinds.
pub as-many : {P : Type 0} (own : List Offer) (kinds : List KindSpec) (parts : List (Vec P Global)) → AreOffered own kinds parts → length parts ≡ length kinds
as-many own kinds parts offered = sym (counts-many parts) ∙ ap length (sym offered.parts_are) ∙ both-many own ∙ ap length offered.kinds_are

-- Kinds and parts, as many of each, are those of some offer.
pub some-offer : {P : Type 0} (kinds : List KindSpec) (parts : List (Vec P Global)) → length parts ≡ length kinds → (own : List Offer) × AreOffered own kinds parts
some-offer kinds parts same =
    let many = counts-many parts ∙ same in
    (offers_with kinds (counts_of parts), record { kinds_are = specs-with kinds (counts_of parts) many; parts_are = parts-with kinds (counts_of parts) many })

-- A run that is asked for has a plan over the kinds, and live components.
pub run-offered : (own : List Offer) (kinds : List KindSpec) (o a : Outside) (words : List (String Global)) (job : Job AnyKind) (asked : AskedRun) → specs_of own ≡ kinds → AsksRun (specs_of own) o a words job asked
    → IsOfferedPlan kinds job.plan
run-offered own kinds o a words job asked same asks = subst (λ (k : List KindSpec). IsOfferedPlan k job.plan) same asks.ready.ready.file.over

-- Its components are live ones of these kinds.
pub run-live : (own : List Offer) (kinds : List KindSpec) (o a : Outside) (words : List (String Global)) (job : Job AnyKind) (asked : AskedRun) → specs_of own ≡ kinds → AsksRun (specs_of own) o a words job asked
    → (given : List (List ℕ)) × AreLive kinds job.plan given job.components.items
run-live own kinds o a words job asked same asks = (asks.ready.given, subst (λ (k : List KindSpec). AreLive k job.plan asks.ready.given job.components.items) same asks.ready.live)

-- So has a replay, with players.
pub again-offered : (own : List Offer) (kinds : List KindSpec) (o a : Outside) (name kept : List ℕ) (tapes : _) (again : Again) → specs_of own ≡ kinds → IsReadyAgain (specs_of own) o a name kept tapes again
    → IsOfferedPlan kinds again.job.plan
again-offered own kinds o a name kept tapes again same ready = subst (λ (k : List KindSpec). IsOfferedPlan k again.job.plan) same ready.ready.file.over

-- The components of a replay are standard ones and players.
pub again-components : (own : List Offer) (kinds : List KindSpec) (o a : Outside) (name kept : List ℕ) (tapes : _) (again : Again) → specs_of own ≡ kinds → IsReadyAgain (specs_of own) o a name kept tapes again
    → HasComponents kinds again.job.plan again.job.components.items
again-components own kinds o a name kept tapes again same ready = subst (λ (k : List KindSpec). HasComponents k again.job.plan again.job.components.items) same (ready.given, again.tapes.items, ready.are_components)

-- The run that was asked for is under way.
pub begins-run : (own : List Offer) (o a : Outside) (words : List (String Global)) (job : Job AnyKind) (asked : RunCommand) (running : Running) (net : NetValue AnyKind) → AsksRun (specs_of own) o a words job (run_by asked)
    → running.plan ≡ job.plan → running.goal ≡ goals.Run asked → StartsNet job.plan (known job.components.items) net → IsUnderWay (specs_of own) o a words running net
begins-run own o a words job asked running net asks plan goal starts =
    let way : IsRunUnderWay (specs_of own) o a words job.plan (run_by asked) net = record {
      asks = asks.asks;
      few = asks.few;
      given = asks.ready.given;
      ready = asks.ready.ready;
      components = job.components.items;
      live = asks.ready.live;
      starts = starts;
    } in
    subst (λ (g : Goal). IsUnderWayTo (specs_of own) o a words running.plan g net) (sym goal) (subst (λ (p : Network). IsRunUnderWay (specs_of own) o a words p (run_by asked) net) (sym plan) way)

-- The make that was asked for is under way.
pub begins-make : (own : List Offer) (o a : Outside) (words : List (String Global)) (number workers : ℕ) (running : Running) (net : NetValue AnyKind) → AsksMake o a words number workers
    → BeginsMake number workers (Ok (running, net)) → IsUnderWay (specs_of own) o a words running net
begins-make own o a words number workers running net asks begins =
    let found = begins o words asks.asks asks.few in
    let way = subst (λ (n : Outside). IsMakeUnderWay o n words running.plan number workers found.0 net) (sym asks.shelf) found.2 in
    subst (λ (g : Goal). IsUnderWayTo (specs_of own) o a words running.plan g net) (sym found.1) way

-- Where the words ask for no workers, none are to make the turns; and where they do, some are, and not too many.
pub alone-workers : (kinds : List KindSpec) (o a : Outside) (words : List (String Global)) (plan : Network) (g : Goal) (start : NetValue AnyKind) → IsUnderWayTo kinds o a words plan g start → (AsksWorkers words → ⊥) → workers_to g ≡ 0
alone-workers kinds o a words plan (goals.Run asked) start way alone = by asked.workers refl
  where
    by : (n : ℕ) → asked.workers ≡ n → asked.workers ≡ 0
    by zero same = same
    by (suc n) same = absurd (alone (record { asked = run_of (run_by asked); asks = way.asks; least = omega (arith, same) }))
alone-workers kinds o a words plan (goals.Make number workers bytes) start way alone = by workers refl
  where
    by : (n : ℕ) → workers ≡ n → workers ≡ 0
    by zero same = same
    by (suc n) same = absurd (alone (record { asked = Make number workers; asks = way.asks; least = omega (arith, same) }))

same-asked : (words : List (String Global)) (one other : Asked) → Asks words one → Asks words other → workers_asked one ≡ workers_asked other
same-asked words one other asks asks_other = let same : one ≡ other = cc in ap workers_asked same

-- Where the words ask for workers, some are to make the turns, and not too many.
pub some-workers : (kinds : List KindSpec) (o a : Outside) (words : List (String Global)) (plan : Network) (g : Goal) (start : NetValue AnyKind) → IsUnderWayTo kinds o a words plan g start → AsksWorkers words
    → (1 ≤ workers_to g) × (workers_to g ≤ WORKER_LIMIT)
some-workers kinds o a words plan (goals.Run asked) start way asks =
    let same = same-asked words asks.asked (run_of (run_by asked)) asks.asks way.asks in
    (omega (arith, asks.least, same), way.few)
some-workers kinds o a words plan (goals.Make number workers bytes) start way asks =
    let same = same-asked words asks.asked (Make number workers) asks.asks way.asks in
    (omega (arith, asks.least, same), way.few)

-- What is under way is so among these kinds.
pub way-of : (own : List Offer) (kinds : List KindSpec) (o a : Outside) (words : List (String Global)) (running : Running) (net : NetValue AnyKind) → specs_of own ≡ kinds → IsUnderWay (specs_of own) o a words running net
    → IsUnderWay kinds o a words running net
way-of own kinds o a words running net same way = subst (λ (k : List KindSpec). IsUnderWay k o a words running net) same way
