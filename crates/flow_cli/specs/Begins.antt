-- A network that is under way: what is known of it when its turns begin, and what it leaves when they are over.
use Rattle.std.specs.Prelude.{◌≡◌, ◌≤◌, ℕ, List, [], Ok, Err, String, length}
use Rattle.std.specs.declared.alloc.Global.{Global}
use Rattle.std.specs.declared.result.Result.{Result}
use Rattle.flow_limits.specs.declared.TheConstants.{WORKER_LIMIT}
use Rattle.flow_text.specs.Edge.{Outside}
use Rattle.flow_plan.specs.declared.kind.KindSpec.{KindSpec}
use Rattle.flow_plan.specs.Network.{Network}
use Rattle.flow_words.specs.Words.{AskedRun, run_of, run_by, Make}
use Rattle.flow_parse.specs.declared.value.NetText.{NetText}
use Rattle.flow_make.specs.Lines.{text_of}
use Rattle.flow_make.specs.Network.{network_lines}
use Rattle.flow_machine.specs.Starts.{StartsNet}
use Rattle.flow_machine.specs.Values.{NetValue}
use Rattle.flow_runner.specs.declared.worked.Worked.{Worked}
use Rattle.flow_offer.specs.Processes.{IsOfferedPlan}
use Rattle.flow_cli.specs.Live.{AnyNet}
use Rattle.flow_load.specs.Components.{AreLive, GivesAll}
use Rattle.flow_cli.specs.Engines.{RanBy}
use Rattle.flow_load.specs.MadeJobs.{made_input}
use Rattle.flow_load.specs.Networks.{Holds}
use Rattle.flow_load.specs.Offers.{AnyKind, Offer, Recorded, IsNothing, known, specs_of}
use Rattle.flow_load.specs.Prepare.{so_far}
use Rattle.flow_load.specs.Reads.{Asks, IsReady}
use Rattle.flow_cli.specs.Leaves.{Leaves}
use Rattle.flow_cli.specs.Top.{HasRun, Says, Performs, recorded_by, recorded_in}
use Rattle.flow_load.specs.Causes.{HasCause}
use Rattle.flow_cli.specs.Workers.{IsMadeBy, IsMadeAsAsked}
use Rattle.flow_cli.specs.declared.begin.Begun.{Begun}
use Rattle.flow_cli.specs.declared.begin.Begun.TheVariants as begins
use Rattle.flow_cli.specs.declared.begin.Goal.{Goal}
use Rattle.flow_cli.specs.declared.begin.Goal.TheVariants as goals
use Rattle.flow_cli.specs.declared.begin.Running.{Running}
use Rattle.flow_cli.specs.declared.ran.Ran.{Ran}
use Rattle.flow_cli.specs.declared.run.Done.{Done}
use Rattle.flow_cli.specs.declared.run.Said.{Said}
use Rattle.flow_cli.specs.declared.run.Unwritten.{Unwritten}
use Rattle.flow_load.specs.declared.stop.Stop.{Stop}
use Rattle.flow_load.specs.declared.stop.Stop.TheVariants.{NoMemory}

-- The run that was asked for is under way: all that it reads was read, its components are live, and this is its net at the start.
pub record IsRunUnderWay (own : List KindSpec) (old new : Outside) (words : List (String Global)) (plan : Network) (asked : AskedRun) (start : NetValue AnyKind) : Type 0 where
  pub asks : Asks words (run_of asked)
  pub few : asked.workers ≤ WORKER_LIMIT
  pub given : List (List ℕ)
  pub ready : IsReady own old new asked.net [] plan given
  pub components : List AnyKind
  pub live : AreLive own plan given components
  pub starts : StartsNet plan (known components) start

-- The make that was asked for is under way: nothing was asked of the shelf, its readers were given the input that is made from its number, which has so many bytes, and this is its net at
-- the start.
pub record IsMakeUnderWay (old new : Outside) (words : List (String Global)) (plan : Network) (number workers bytes : ℕ) (start : NetValue AnyKind) : Type 0 where
  pub asks : Asks words (Make number workers)
  pub few : workers ≤ WORKER_LIMIT
  pub shelf : new ≡ old
  pub text : NetText
  pub holds : Holds [] (text_of network_lines) text plan
  pub offered : IsOfferedPlan [] plan
  pub given : List (List ℕ)
  pub gives : GivesAll plan (made_input number) given
  pub bytes_are : bytes ≡ length (made_input number)
  pub components : List AnyKind
  pub live : AreLive [] plan given components
  pub starts : StartsNet plan (known components) start

-- What is under way, by what is to be made of it.
abbrev pub IsUnderWayTo : List KindSpec → Outside → Outside → List (String Global) → Network → Goal → NetValue AnyKind → Type 0
IsUnderWayTo own old new words plan (goals.Run asked) start = IsRunUnderWay own old new words plan (run_by asked) start
IsUnderWayTo own old new words plan (goals.Make number workers bytes) start = IsMakeUnderWay old new words plan number workers bytes start

-- The same of what the code holds.
abbrev pub IsUnderWay : List KindSpec → Outside → Outside → List (String Global) → Running → NetValue AnyKind → Type 0
IsUnderWay own old new words running start = IsUnderWayTo own old new words running.plan running.goal start

-- How many workers are to make the turns.
abbrev pub workers_to : Goal → ℕ
workers_to (goals.Run asked) = asked.workers
workers_to (goals.Make number workers bytes) = workers

-- What a call does up to the turns of a network: that is under way, or there is something to say without it, or it stopped.
abbrev pub Begins : List Offer → Outside → Outside → List (String Global) → Result (Begun AnyNet) Stop → Type 0
Begins own old new words (Ok (begins.Running running net)) = IsUnderWay (specs_of own) old new words running net
Begins own old new words (Ok (begins.Said said)) = Says (so_far words own old new (recorded_in said)) said.text.items said.status × IsMadeAsAsked words said.crew said.journal
Begins own old new words (Err stop) = (recorded : Recorded) → IsNothing recorded → HasCause (so_far words own old new recorded) stop

-- A make from a number is under way, or memory was wanting.
abbrev pub BeginsMake : ℕ → ℕ → Result (Running × NetValue AnyKind) Stop → Type 0
BeginsMake number workers (Ok both) = (old : Outside) (words : List (String Global)) → Asks words (Make number workers) → workers ≤ WORKER_LIMIT
    → (bytes : ℕ) × (both.0.goal ≡ goals.Make number workers bytes) × IsMakeUnderWay old old words both.0.plan number workers bytes both.1
BeginsMake number workers (Err stop) = stop ≡ NoMemory

-- What is told of a net is what its run leaves, whoever made the turns, whatever its readers were given.
abbrev pub LeavesAsRan : List KindSpec → Network → Worked AnyKind → Ran AnyNet → Type 0
LeavesAsRan own plan worked ran =
    (workers : ℕ) (start : NetValue AnyKind) (live : List AnyKind) (given : List (List ℕ)) → AreLive own plan given live → StartsNet plan (known live) start → RanBy workers start worked
    → Leaves own workers plan given ran.net (recorded_by ran) ran.report × IsMadeBy workers ran.crew ran.journal

-- The run that was asked for was under way, in some call, and these are the turns that were made of it.
abbrev pub WasRunUnderWay : List KindSpec → Network → AskedRun → Worked AnyKind → Type 0
WasRunUnderWay own plan asked worked =
    (old : Outside) × (new : Outside) × (words : List (String Global)) × (start : NetValue AnyKind) × IsRunUnderWay own old new words plan asked start × RanBy asked.workers start worked

-- The same of what was under way, whatever is to be made of it.
abbrev pub WasUnderWay : List KindSpec → Running → Worked AnyKind → Type 0
WasUnderWay own running worked =
    (old : Outside) × (new : Outside) × (words : List (String Global)) × (start : NetValue AnyKind) × IsUnderWay own old new words running start × RanBy (workers_to running.goal) start worked

-- A run whose turns are over: in each call in which it was under way it has been made.
abbrev pub RunEnds : List KindSpec → Network → AskedRun → Worked AnyKind → Unwritten AnyNet → Type 0
RunEnds own plan asked worked run =
    (old new : Outside) (words : List (String Global)) (start : NetValue AnyKind) → IsRunUnderWay own old new words plan asked start → RanBy asked.workers start worked → HasRun own old new words run

-- A make whose turns are over: in each call in which it was under way it has been said.
abbrev pub MakeEnds : Network → ℕ → Worked AnyKind → Said → Type 0
MakeEnds plan number worked said =
    (own : List Offer) (old new : Outside) (words : List (String Global)) (workers bytes : ℕ) (start : NetValue AnyKind) → IsMakeUnderWay old new words plan number workers bytes start → RanBy workers start worked
    → Says (so_far words own old new (recorded_in said)) said.text.items said.status × IsMadeAsAsked words said.crew said.journal

-- What a network comes to that was under way and whose turns are over: what there is to write and to print, or want of memory.
abbrev pub EndsAsRan : List KindSpec → Running → Worked AnyKind → Result (Done AnyNet) Stop → Type 0
EndsAsRan kinds running worked result =
    (own : List Offer) (old new : Outside) (words : List (String Global)) (start : NetValue AnyKind) → specs_of own ≡ kinds → IsUnderWay kinds old new words running start
    → RanBy (workers_to running.goal) start worked → Performs own old new words result
