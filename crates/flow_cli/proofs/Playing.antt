-- A run of live parts, told as one of the players of the tapes that its net has.
use Rattle.std.proofs.Common.{◌≡◌, ℕ, zero, suc, ◌+◌, ◌<◌, ◌≤◌, Bool, true, false, cond, if◌then◌else◌, List, [], ◌∷◌, length, map, Option, Some, None, is_some, Ok, Err, refl, sym, ◌∙◌, ap, subst, arith}
use Rattle.std.proofs.lemmas.List.{length-map}
use Rattle.std.specs.Prelude.{IfOk, slice_get, unwrap_or, option_and_then}
use Rattle.std.specs.List.{All, filter, range_with_len}
use Rattle.std.specs.Option.{option_map}
use Rattle.std.specs.declared.result.Result.{Result}
use Rattle.std.specs.declared.alloc.AllocError.{AllocError}
use Rattle.flow_plan.specs.declared.kind.KindSpec.{KindSpec}
use Rattle.flow_plan.specs.declared.plan.Process.{Process as NetProcess}
use Rattle.flow_plan.specs.Network.{Network}
use Rattle.flow_plan.specs.Valid.{IsValid}
use Rattle.flow_own.specs.Mixed.{Other, Own, mixed_state, tape_in, IsRecordedIn}
use Rattle.flow_own.specs.Recorded.{IsTapeWritable}
use Rattle.flow_own.specs.Tapes.{OwnValue}
use Rattle.flow_model.specs.States.{Process, State}
use Rattle.flow_model.specs.Plans.{process_at_start, processes_at_start, start_of, StartsWell}
use Rattle.flow_model.specs.Replaced.{with_component, OfEach}
use Rattle.flow_model.proofs.Replacing.{replaced-from}
use Rattle.flow_machine.specs.Values.{BodyValue, NetValue}
use Rattle.flow_catalogue.specs.declared.standard.Std.{Std}
use Rattle.flow_catalogue.specs.Std.{std_rules}
use Rattle.flow_journal.specs.Replays.{schedule_of}
use Rattle.flow_journal.specs.Runs.{ComesOfRun, RoundsAreRuns, ReachesAreRuns, SeesNoMoreThanTurns}
use Rattle.flow_model.specs.Ready.{StartsPlans}
use Rattle.flow_cycle.specs.Nets.{IsReached}
use Rattle.flow_runner.specs.declared.worked.Crew.{Crew}
use Rattle.flow_runner.specs.declared.worked.Worked.{Worked}
use Rattle.flow_report.specs.States.{ReportsTell}
use Rattle.flow_report.proofs.Shown.{processes-shown}
use Rattle.flow_tape.specs.Files.{IsWritable as IsTapesWritable}
use Rattle.flow_offer.specs.Processes.{IsOfferedPlan, own_place, own_processes}
use Rattle.flow_offer.specs.Fits.{FitsMixed}
use Rattle.flow_played.specs.Kept.{IsPart, PartsStay}
use Rattle.flow_played.specs.Played.{HasTape, TapesOf, played, played_by}
use Rattle.flow_played.specs.Runs.{IsFresh, player_for, each_replaced, players, PlaysWholeRuns}
use Rattle.flow_played.specs.Telling.{PlayersStandInPlace, PlayersAreToldOf}
use Rattle.flow_cli.specs.Live.{AnyNet}
use Rattle.flow_load.specs.Components.{AreComponents, AreLive, IsLiveComponent, IsPlayedComponent}
use Rattle.flow_load.specs.Offers.{AnyKind, Taped, Recorded, known, live_rules}
use Rattle.flow_cli.specs.Leaves.{AreTapesOfNet, IsJournalOfNet, IsRecordedAt, IsToldOf, IsToldOfNet, Leaves, tape_by}
use Rattle.flow_load.specs.Runs.{ArePlayedOut, IsPlayedOut, bytes_in, written_in}
use Rattle.flow_cli.specs.Top.{recorded_by}
use Rattle.flow_cli.specs.declared.ran.PrintedReport.{PrintedReport}
use Rattle.flow_cli.specs.declared.ran.Ran.{Ran}
use Rattle.flow_cli.specs.Begins.{LeavesAsRan}
use Rattle.flow_cli.specs.Workers.{IsMadeBy}
use Rattle.flow_load.proofs.Fitting.{known-at, live-fit}
use Rattle.flow_cli.proofs.Manned.{made-by}
use Rattle.flow_cli.proofs.Leaving.{bytes-same, comes-of-run, has-file, told-of}

-- the laws of players
pub record Players : Type 0 where
  pub runs : PlaysWholeRuns std_rules
  pub in_place : PlayersStandInPlace Std
  pub told : PlayersAreToldOf Std
  pub stay : PartsStay std_rules

players-at : (other : ℕ → AnyKind → AnyKind) (components : List AnyKind) (p : ℕ) (c : AnyKind) → slice_get (each_replaced other components) p ≡ Some c
    → (before : AnyKind) × (slice_get components p ≡ Some before) × (c ≡ other p before)
players-at other [] p c is = absurd cc
players-at other (x ∷ components) zero c is = (x, refl, (let h : other 0 x ≡ c = cc in sym h))
players-at other (x ∷ components) (suc p) c is = players-at (λ q. other (suc q)) components p c is

players-many : (other : ℕ → AnyKind → AnyKind) (components : List AnyKind) → length (each_replaced other components) ≡ length components
players-many other [] = refl
players-many other (x ∷ components) = ap suc (players-many (λ q. other (suc q)) components)

-- the player of a live part's tape is that of its process
plays : (own : List KindSpec) (plan : Network) (p : ℕ) (bytes : List ℕ) (by : ℕ → Taped) (live : AnyKind) → IsLiveComponent own plan p bytes live
    → IsPlayedComponent own plan p bytes (by p) (player_for by p (mixed_state (λ (component : Std). component) live))
plays own plan p bytes by (Other component) is = is
plays own plan p bytes by (Own value) is =
    (is.0, ap (λ (v : OwnValue). record { part = None; place = Some 0; tape = by p; shape = v.shape; used = v.used }) is.1.1)

-- Components of a run, with players in the place of live parts.
are-players : (own : List KindSpec) (plan : Network) (given : List (List ℕ)) (live : List AnyKind) (by : ℕ → Taped) (tapes : List Taped) → tapes ≡ map by (own_processes own plan)
    → AreLive own plan given live → AreComponents own plan given tapes (players by (known live))
are-players own plan given live by tapes tapes_are are = record {
  by = by;
  tapes_are = tapes_are;
  count = players-many (player_for by) (known live) ∙ length-map live (mixed_state (λ (component : Std). component)) ∙ are.count;
  each = λ p component there.
      let before = players-at (player_for by) (known live) p component there in
      let was = known-at live p before.0 before.1 in
      let is = are.each p was.0 was.1 in
      let same : component ≡ player_for by p (mixed_state (λ (c : Std). c) was.0) = before.2 ∙ ap (player_for by p) was.2 in
      (is.0, is.1, subst (IsPlayedComponent own plan p is.0 (by p)) (sym same) (plays own plan p is.0 by was.0 is.2));
}

-- a live part has an empty tape and is no player
fresh : (own : List KindSpec) (plan : Network) (p : ℕ) (bytes : List ℕ) (live : AnyKind) → IsLiveComponent own plan p bytes live → IsFresh (mixed_state (λ (component : Std). component) live)
fresh own plan p bytes (Other component) is = tt
fresh own plan p bytes (Own value) is = (ap (λ (v : OwnValue). v.place) is.1.1, ap (λ (v : OwnValue). v.tape) is.1.1)

all-of : (P : AnyKind → Type 0) (xs : List AnyKind) → ((p : ℕ) (x : AnyKind) → slice_get xs p ≡ Some x → P x) → All P xs
all-of P [] each k d inside = absurd (omega (arith, inside))
all-of P (x ∷ xs) each zero d inside = each 0 x refl
all-of P (x ∷ xs) each (suc k) d inside = all-of P xs (λ p y is. each (suc p) y is) k d (omega (arith, inside))

all-fresh : (own : List KindSpec) (plan : Network) (given : List (List ℕ)) (live : List AnyKind) → AreLive own plan given live → All IsFresh (known live)
all-fresh own plan given live are = all-of IsFresh (known live) (λ p c there.
    let was = known-at live p c there in
    let is = are.each p was.0 was.1 in
    subst IsFresh (sym was.2) (fresh own plan p is.0 was.0 is.2))

-- processes and bodies at one place
body-at : (bodies : List (BodyValue AnyKind)) (xs : List (Process AnyKind)) (p : ℕ) (x : Process AnyKind) → map (λ b. b.process) bodies ≡ xs → slice_get xs p ≡ Some x
    → (b : BodyValue AnyKind) × (slice_get bodies p ≡ Some b) × (b.process ≡ x)
body-at [] [] p x same is = absurd cc
body-at [] (y ∷ xs) p x same is = absurd cc
body-at (b ∷ bodies) [] p x same is = absurd cc
body-at (b ∷ bodies) (y ∷ xs) zero x same is = let h : b.process ≡ y = cc in let g : y ≡ x = cc in (b, refl, h ∙ g)
body-at (b ∷ bodies) (y ∷ xs) (suc p) x same is = let h : map (λ (b : BodyValue AnyKind). b.process) bodies ≡ xs = cc in body-at bodies xs p x h is

process-at : (bodies : List (BodyValue AnyKind)) (xs : List (Process AnyKind)) (p : ℕ) (b : BodyValue AnyKind) → map (λ b. b.process) bodies ≡ xs → slice_get bodies p ≡ Some b
    → slice_get xs p ≡ Some b.process
process-at [] xs p b same is = absurd cc
process-at (c ∷ bodies) [] p b same is = absurd cc
process-at (c ∷ bodies) (y ∷ xs) zero b same is = let h : c.process ≡ y = cc in let g : c ≡ b = cc in ap (λ (z : Process AnyKind). Some z) (sym h ∙ ap (λ (d : BodyValue AnyKind). d.process) g)
process-at (c ∷ bodies) (y ∷ xs) (suc p) b same is = let h : map (λ (b : BodyValue AnyKind). b.process) bodies ≡ xs = cc in process-at bodies xs p b h is

-- the tape of a component by its body
tape-at : (bodies : List (BodyValue AnyKind)) (p : ℕ) (b : BodyValue AnyKind) (value : OwnValue) → slice_get bodies p ≡ Some b → b.process.component ≡ Own value → tape_by bodies p ≡ value.tape
tape-at bodies p b value there is =
    ap (λ (found : Option (BodyValue AnyKind)). unwrap_or (option_and_then (λ (d : BodyValue AnyKind). tape_in d.process.component) found) []) there
    ∙ ap (λ (c : AnyKind). unwrap_or (tape_in c) []) is

has-tape : (by : ℕ → Taped) (p : ℕ) (component : AnyKind) → IsPart component → ((value : OwnValue) → component ≡ Own value → by p ≡ value.tape) → HasTape by p component
has-tape by p (Other component) part same = tt
has-tape by p (Own value) part same = (part, sym (same value refl))

module _ (net : NetValue AnyKind) (last : State AnyKind) (procs : map (λ b. b.process) net.bodies ≡ last.kept.processes) (parts : OfEach (λ p. IsPart) last) where
  tapes-of : TapesOf (tape_by net.bodies) last
  tapes-of p x there =
      let found = body-at net.bodies last.kept.processes p x procs there in
      has-tape (tape_by net.bodies) p x.component (parts p x there)
      (λ value is. tape-at net.bodies p found.0 value found.1 (ap (λ (y : Process AnyKind). y.component) found.2 ∙ is))

  empty-writable : IsTapeWritable []
  empty-writable = record { few = omega arith; each = λ k entry there. absurd cc }

  by-component : (component : AnyKind) → IsRecordedIn component → IsPart component → IsTapeWritable (unwrap_or (tape_in component) [])
  by-component (Other component) recorded part = empty-writable
  by-component (Own value) recorded part = recorded part

  writable-at : (p : ℕ) → IsRecordedAt net.bodies p → IsTapeWritable (tape_by net.bodies p)
  writable-at p recorded = by-body (slice_get net.bodies p) refl
    where
      by-body : (found : Option (BodyValue AnyKind)) → slice_get net.bodies p ≡ found → IsTapeWritable (unwrap_or (option_and_then (λ (d : BodyValue AnyKind). tape_in d.process.component) found) [])
      by-body None is = empty-writable
      by-body (Some b) is = by-component b.process.component (recorded b is) (parts p b.process (process-at net.bodies last.kept.processes p b procs is))

-- a place among the processes of kinds of the caller's own
own-at : (test : ℕ → Bool) (from count k p : ℕ) → slice_get (filter test (range_with_len from count)) k ≡ Some p → (p < from + count) × (test p ≡ true)
own-at test from zero k p is = absurd cc
own-at test from (suc count) k p is = by (test from) refl k is (λ m there. own-at test (from + 1) count m p there)
  where
    weaker : (p < from + 1 + count) × (test p ≡ true) → (p < from + suc count) × (test p ≡ true)
    weaker found = (omega (arith, found.0), found.1)

    by : (b : Bool) → test from ≡ b → (k : ℕ) → slice_get (cond b (from ∷ filter test (range_with_len (from + 1) count)) (filter test (range_with_len (from + 1) count))) k ≡ Some p
        → ((m : ℕ) → slice_get (filter test (range_with_len (from + 1) count)) m ≡ Some p → (p < from + 1 + count) × (test p ≡ true)) → (p < from + suc count) × (test p ≡ true)
    by true passes zero there rest = let same : from ≡ p = cc in (omega (arith, same), subst (λ (n : ℕ). test n ≡ true) same passes)
    by true passes (suc k) there rest = weaker (rest k there)
    by false fails k there rest = weaker (rest k there)

-- a place in a mapped list
mapped-at : (by : ℕ → Taped) (ps : List ℕ) (k : ℕ) (tape : Taped) → slice_get (map by ps) k ≡ Some tape → (p : ℕ) × (slice_get ps k ≡ Some p) × (by p ≡ tape)
mapped-at by [] k tape is = absurd cc
mapped-at by (p ∷ ps) zero tape is = (p, refl, (let h : by p ≡ tape = cc in h))
mapped-at by (p ∷ ps) (suc k) tape is = mapped-at by ps k tape is

filter-few : (test : ℕ → Bool) (xs : List ℕ) → length (filter test xs) ≤ length xs
filter-few test [] = omega arith
filter-few test (x ∷ xs) = at (test x) (filter-few test xs)
  where
    at : (b : Bool) → length (filter test xs) ≤ length xs → length (if b then x ∷ filter test xs else filter test xs) ≤ suc (length xs)
    at true few = omega (arith, few)
    at false few = omega (arith, few)

range-length : (from count : ℕ) → length (range_with_len from count) ≡ count
range-length from zero = refl
range-length from (suc count) = ap suc (range-length (from + 1) count)

few-own : (own : List KindSpec) (plan : Network) → length (own_processes own plan) ≤ length plan.processes
few-own own plan =
    let few = filter-few (λ p. is_some (own_place own plan p)) (range_with_len 0 (length plan.processes)) in
    let all = range-length 0 (length plan.processes) in
    omega (arith, few, all)

wrote-same : (by : ℕ → Taped) (p : ℕ) (component : AnyKind) → written_in component ≡ written_in (played_by by p component)
wrote-same by p (Other component) = refl
wrote-same by p (Own value) = refl

bytes-played : Players → (by : ℕ → Taped) (s : State AnyKind) (p : ℕ) → bytes_in s p ≡ bytes_in (played by s) p
bytes-played laws by s p = at (slice_get s.kept.processes p) ∙ ap (λ (found : Option (Process AnyKind)). unwrap_or (option_and_then (λ (x : Process AnyKind). written_in x.component) found) []) (sym (laws.in_place by s p))
  where
    at : (found : Option (Process AnyKind)) → unwrap_or (option_and_then (λ (x : Process AnyKind). written_in x.component) found) []
        ≡ unwrap_or (option_and_then (λ (x : Process AnyKind). written_in x.component) (option_map (λ x. with_component x (played_by by p x.component)) found)) []
    at None = refl
    at (Some x) = ap (λ (w : Option (List ℕ)). unwrap_or w []) (wrote-same by p x.component)

-- What is told of a state is told of it with the players.
told-played : Players → (by : ℕ → Taped) (plan : Network) (s : State AnyKind) (told : PrintedReport) → IsToldOf plan s told → IsToldOf plan (played by s) told
told-played laws by plan s told is = record { report = is.report; tells = laws.told by plan s is.report is.tells; verdict = is.verdict; text = is.text; brief = is.brief }

-- Where the players are those of these tapes, each has played the whole of its own.
played-out : (by : ℕ → Taped) (s : State AnyKind) → TapesOf by s → ArePlayedOut (played by s)
played-out by s of p x there =
    let from = replaced-from (played_by by) s.kept.processes p x there in
    subst (λ (y : Process AnyKind). IsPlayedOut y.component) from.2 (ends from.0.component (of p from.0 from.1))
  where
    ends : (component : AnyKind) → HasTape by p component → IsPlayedOut (played_by by p component)
    ends (Other component) has = tt
    ends (Own value) has = ap (λ (tape : Taped). Some (length tape)) has.1

-- parts at the start
from-fresh : (component : AnyKind) → IsFresh component → IsPart component
from-fresh (Other component) is = tt
from-fresh (Own value) is = is.0

begun-fresh : (plan : Network) (n : ℕ) (xs : List NetProcess) (components : List AnyKind) (p : ℕ) (x : Process AnyKind) → All IsFresh components → slice_get (processes_at_start plan n xs components) p ≡ Some x
    → IsFresh x.component
begun-fresh plan n [] components p x all is = absurd cc
begun-fresh plan n (y ∷ xs) [] p x all is = absurd cc
begun-fresh plan n (y ∷ xs) (c ∷ components) zero x all is = let h : process_at_start plan n y c ≡ x = cc in subst (λ (z : Process AnyKind). IsFresh z.component) h (all 0 c (omega arith))
begun-fresh plan n (y ∷ xs) (c ∷ components) (suc p) x all is = begun-fresh plan (n + 1) xs components p x (λ k d inside. all (suc k) d (omega (arith, inside))) is

parts-at-start : (plan : Network) (components : List AnyKind) → All IsFresh components → OfEach (λ p. IsPart) (start_of plan components)
parts-at-start plan components all p x there = from-fresh x.component (begun-fresh plan 0 plan.processes components p x all there)

-- What a net leaves that has come out of a run of live parts: the run of the players of its tapes.
leaves-one : Players → (own : List KindSpec) (workers : ℕ) (plan : Network) (given : List (List ℕ)) (live : List AnyKind) (net : NetValue AnyKind) (recorded : Recorded) (told : PrintedReport)
    → IsValid plan → ReportsTell live_rules → SeesNoMoreThanTurns live_rules → StartsWell live_rules plan (known live) → AreLive own plan given live
    → ComesOfRun live_rules workers plan (known live) (schedule_of recorded.journal) net → IsToldOfNet plan net told → IsJournalOfNet net recorded.journal → AreTapesOfNet own plan net recorded.tapes
    → Leaves own workers plan given net recorded told
leaves-one laws own workers plan given live net recorded told valid tell sees well are comes is names taped =
    let last = comes.last in
    let by = tape_by net.bodies in
    let fresh_all = all-fresh own plan given live are in
    let procs = processes-shown last.past.dropped 0 net.bodies last.kept.processes (ap (λ v. v.bodies) comes.stands) in
    let parts = laws.stay (schedule_of recorded.journal) (start_of plan (known live)) last (parts-at-start plan (known live) fresh_all) comes.run.schedule.leads in
    let of = tapes-of net last procs parts in
    let reached : IsReached live_rules plan net last = record { components = known live; well = well; journal = schedule_of recorded.journal; leads = comes.run.schedule.leads; stands = comes.stands } in
    record {
      components = players by (known live);
      are_components = are-players own plan given live by recorded.tapes taped.tapes_are are;
      last = played by last;
      run = laws.runs by workers plan (known live) (schedule_of recorded.journal) last well fresh_all of comes.run;
      played_out = played-out by last of;
      told_is = told-played laws by plan last told (told-of live_rules plan net last told valid tell comes.fit comes.count reached is);
      wrote = λ p. bytes-same net.bodies last.kept.processes p procs ∙ bytes-played laws by last p;
      writable = has-file live_rules plan (known live) net recorded.journal last sees comes.run.schedule names;
      tapes_writable = subst IsTapesWritable (sym taped.tapes_are) (record {
        few = let some = few-own own plan in let all = length-map (own_processes own plan) by in omega (arith, some, all, valid.wired.few_processes);
        each = λ k tape there.
            let from = mapped-at by (own_processes own plan) k tape there in
            let here = own-at (λ p. is_some (own_place own plan p)) 0 (length plan.processes) k from.0 from.1 in
            subst IsTapeWritable from.2 (writable-at net last procs parts from.0 (taped.recorded from.0 (omega (arith, here.0)) here.1));
      });
    }

-- Whoever made the turns, what is told of the net is what its run leaves.
pub leaves-as-ran : Players → FitsMixed std_rules → StartsPlans live_rules → RoundsAreRuns live_rules → ReachesAreRuns live_rules → ReportsTell live_rules → SeesNoMoreThanTurns live_rules
    → (own : List KindSpec) (plan : Network) (worked : Worked AnyKind) (ran : Ran AnyNet) → IsOfferedPlan own plan
    → ran.net ≡ worked.closed.net → ran.crew ≡ worked.crew → IsToldOfNet plan worked.closed.net ran.report → IsJournalOfNet worked.closed.net ran.journal → AreTapesOfNet own plan worked.closed.net ran.tapes.items
    → LeavesAsRan own plan worked ran
leaves-as-ran laws fits starts_well rounds reaches tell sees own plan worked ran offered net crew told names taped = λ workers start live given are starts by.
    let well = starts_well plan (known live) offered.valid (live-fit fits own plan given live are) in
    let comes = comes-of-run workers plan (known live) start worked ran.journal rounds reaches well starts by names in (
      subst (λ (n : NetValue AnyKind). Leaves own workers plan given n (recorded_by ran) ran.report) (sym net)
          (leaves-one laws own workers plan given live worked.closed.net (recorded_by ran) ran.report offered.valid tell sees well are comes told names taped),
      subst (λ (c : Crew). IsMadeBy workers c ran.journal) (sym crew) (made-by workers plan (known live) start worked ran.journal starts by names comes),
    )

-- So it is of whatever the account answers.
pub leaves : Players → FitsMixed std_rules → StartsPlans live_rules → RoundsAreRuns live_rules → ReachesAreRuns live_rules → ReportsTell live_rules → SeesNoMoreThanTurns live_rules
    → (own : List KindSpec) (plan : Network) (worked : Worked AnyKind) (result : Result (Ran AnyNet) AllocError) → IsOfferedPlan own plan
    → IfOk result (λ ran. ran.net ≡ worked.closed.net) → IfOk result (λ ran. ran.crew ≡ worked.crew) → IfOk result (λ ran. IsToldOfNet plan worked.closed.net ran.report)
    → IfOk result (λ ran. IsJournalOfNet worked.closed.net ran.journal) → IfOk result (λ ran. AreTapesOfNet own plan worked.closed.net ran.tapes.items) → IfOk result (λ ran. LeavesAsRan own plan worked ran)
leaves laws fits starts_well rounds reaches tell sees own plan worked (Ok ran) offered net crew told names taped =
    leaves-as-ran laws fits starts_well rounds reaches tell sees own plan worked ran offered net crew told names taped
leaves laws fits starts_well rounds reaches tell sees own plan worked (Err e) offered net crew told names taped = tt
