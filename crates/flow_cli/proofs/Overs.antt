-- What a call comes to once the turns of its network are over.
use Rattle.std.proofs.Common.{◌≡◌, ℕ, List, [], ◌++◌, Ok, Err, length, map, inl, inr, sym, ap, ◌∙◌, subst}
use Rattle.std.specs.Prelude.{String, Vec}
use Rattle.std.specs.declared.alloc.Global.{Global}
use Rattle.std.specs.declared.result.Result.{Result}
use Rattle.flow_text.specs.Edge.{Outside}
use Rattle.flow_plan.specs.declared.kind.KindSpec.{KindSpec}
use Rattle.flow_plan.specs.Network.{Network}
use Rattle.flow_machine.specs.Values.{NetValue}
use Rattle.flow_runner.specs.declared.worked.Crew.{Crew}
use Rattle.flow_runner.specs.declared.worked.Worked.{Worked}
use Rattle.flow_words.specs.Words.{AskedRun, Make, report_by, run_by}
use Rattle.flow_words.specs.declared.asked.RunCommand.{RunCommand}
use Rattle.flow_own.specs.declared.tape.Tape.{Tape}
use Rattle.flow_journal.specs.declared.merge.Journal.{Journal}
use Rattle.std.specs.Prelude.{IfOk}
use Rattle.std.specs.declared.alloc.AllocError.{AllocError}
use Rattle.flow_journal.specs.Files.{IsWritable}
use Rattle.flow_tape.specs.Files.{IsWritable as IsTapesWritable}
use Rattle.flow_offer.specs.Processes.{IsOfferedPlan}
use Rattle.flow_cli.specs.Live.{AnyNet}
use Rattle.flow_cli.specs.After.{verdict_status}
use Rattle.flow_cli.specs.Begins.{EndsAsRan, IsRunUnderWay, IsMakeUnderWay, IsUnderWayTo, LeavesAsRan, MakeEnds, RunEnds, WasRunUnderWay, WasUnderWay, workers_to}
use Rattle.flow_load.specs.Components.{AreComponents}
use Rattle.flow_cli.specs.Engines.{RanBy}
use Rattle.flow_cli.specs.Makes.{SaysOfMake, make_text}
use Rattle.flow_load.specs.MadeJobs.{made_input}
use Rattle.flow_load.specs.Offers.{AnyKind, Offer, Taped, specs_of}
use Rattle.flow_load.specs.Prepare.{so_far}
use Rattle.flow_load.specs.Reads.{IsReady}
use Rattle.flow_cli.specs.Leaves.{Leaves}
use Rattle.flow_load.specs.Runs.{RunsTo, journal_file, tapes_file}
use Rattle.flow_load.specs.Step.{Filled}
use Rattle.flow_cli.specs.Top.{HasRun, Performs, Says, kept_file, recorded_by, recorded_in}
use Rattle.flow_cli.specs.Workers.{IsMadeAsAsked, IsMadeBy}
use Rattle.flow_cli.specs.declared.begin.Goal.{Goal}
use Rattle.flow_cli.specs.declared.begin.Goal.TheVariants as goals
use Rattle.flow_cli.specs.declared.begin.Running.{Running}
use Rattle.flow_cli.specs.declared.ran.Ran.{Ran}
use Rattle.flow_cli.specs.declared.run.Done.TheVariants as dones
use Rattle.flow_cli.specs.declared.run.Said.{Said}
use Rattle.flow_cli.specs.declared.run.Unwritten.{Unwritten}
use Rattle.flow_load.specs.declared.stop.Stop.TheVariants.{NoMemory}
use Rattle.flow_cli.proofs.Manned.{as-asked}
use Rattle.flow_cli.proofs.Performing.{wants-memory}
use Rattle.flow_load.proofs.Steps.{may-read}
use Rattle.flow_load.proofs.NoKinds.{none-own}

-- A run that was under way has been made.
pub run-over : (own : List KindSpec) (old new : Outside) (words : List (String Global)) (plan : Network) (asked : AskedRun) (start : NetValue AnyKind) (worked : Worked AnyKind) (run : Unwritten AnyNet)
    → IsRunUnderWay own old new words plan asked start → RanBy asked.workers start worked → run.ran.plan ≡ plan → LeavesAsRan own plan worked run.ran
    → kept_file run.journal ≡ journal_file asked.journal run.ran.journal → kept_file run.tapes ≡ tapes_file asked.tapes run.ran.tapes.items → report_by run.telling ≡ asked.report → HasRun own old new words run
run-over own old new words plan asked start worked run way by plan_is leaves journal tapes telling =
    let left = leaves asked.workers start way.components way.given way.live way.starts by in
    record {
      asked = asked;
      asks = way.asks;
      given = way.given;
      ready = subst (λ (p : Network). IsReady own old new asked.net [] p way.given) (sym plan_is) way.ready;
      leaves = subst (λ (p : Network). Leaves own asked.workers p way.given run.ran.net (recorded_by run.ran) run.ran.report) (sym plan_is) left.0;
      made = left.1;
      kept = ap (λ (l : List Filled). l ++ kept_file run.tapes) journal ∙ ap (λ (l : List Filled). journal_file asked.journal run.ran.journal ++ l) tapes;
      telling = telling;
    }

no-tapes : (plan : Network) (given : List (List ℕ)) (tapes : List Taped) (components : List AnyKind) → AreComponents [] plan given tapes components → tapes ≡ []
no-tapes plan given tapes components are = are.tapes_are ∙ ap (map are.by) (none-own plan)

-- A make that was under way has been made.
pub make-over : (own : List Offer) (old new : Outside) (words : List (String Global)) (plan : Network) (number workers bytes : ℕ) (start : NetValue AnyKind) (worked : Worked AnyKind) (ran : Ran AnyNet) (said : Said)
    → IsMakeUnderWay old new words plan number workers bytes start → RanBy workers start worked → ran.plan ≡ plan → LeavesAsRan [] plan worked ran → SaysOfMake number ran said
    → Says (so_far words own old new (recorded_in said)) said.text.items said.status × IsMadeAsAsked words said.crew said.journal
make-over own old new words plan number workers bytes start worked ran said way by plan_is leaves says =
    let left = leaves workers start way.components way.given way.live way.starts by in
    let l = left.0 in
    let none = no-tapes plan way.given ran.tapes.items l.components l.are_components in (
      inr (inr (inl (record {
        number = number;
        workers = workers;
        asks = way.asks;
        report = l.told_is.report;
        plan = plan;
        last = l.last;
        run = record {
          text = way.text;
          holds = way.holds;
          over = way.offered;
          given = way.given;
          gives = way.gives;
          components = l.components;
          are_components = subst (λ (t : List Taped). AreComponents [] plan way.given t l.components) none l.are_components;
          run = subst (λ (j : Journal). RunsTo workers plan l.components j l.last) (sym says.journal) l.run;
        };
        tapes = ap (λ (v : Vec Tape Global). v.items) says.tapes ∙ none;
        shelf = way.shelf;
        tells = l.told_is.tells;
        text_is = says.text ∙ (λ i. make_text number (l.told_is.text i) (λ p. l.wrote p i) (plan_is i));
        status_is = says.status ∙ ap verdict_status l.told_is.verdict;
      }))),
      as-asked words (Make number workers) said.crew said.journal way.asks
          (subst (λ (j : Journal). IsMadeBy workers said.crew j) (sym says.journal) (subst (λ (c : Crew). IsMadeBy workers c ran.journal) (sym says.crew) left.1)),
    )

-- What is written of a run that was made somewhere has a file.
pub journal-writable : (own : List KindSpec) (plan : Network) (asked : AskedRun) (worked : Worked AnyKind) (ran : Ran AnyNet) → WasRunUnderWay own plan asked worked → LeavesAsRan own plan worked ran → IsWritable ran.journal
journal-writable own plan asked worked ran was leaves = let way = was.4 in (leaves asked.workers was.3 way.components way.given way.live way.starts was.5).0.writable

-- Its tapes have a file too.
pub tapes-writable : (own : List KindSpec) (plan : Network) (asked : AskedRun) (worked : Worked AnyKind) (ran : Ran AnyNet) → WasRunUnderWay own plan asked worked → LeavesAsRan own plan worked ran
    → IsTapesWritable ran.tapes.items
tapes-writable own plan asked worked ran was leaves = let way = was.4 in (leaves asked.workers was.3 way.components way.given way.live way.starts was.5).0.tapes_writable

-- Whatever comes of making the files of a run.
pub run-ends : (own : List KindSpec) (plan : Network) (asked : AskedRun) (worked : Worked AnyKind) (ran : Ran AnyNet) (result : Result (Unwritten AnyNet) AllocError) → ran.plan ≡ plan → LeavesAsRan own plan worked ran
    → IfOk result (λ run. run.ran ≡ ran) → IfOk result (λ run. kept_file run.journal ≡ journal_file asked.journal ran.journal)
    → IfOk result (λ run. kept_file run.tapes ≡ tapes_file asked.tapes ran.tapes.items) → IfOk result (λ run. report_by run.telling ≡ asked.report) → IfOk result (RunEnds own plan asked worked)
run-ends own plan asked worked ran (Err e) plan_is leaves same journal tapes telling = tt
run-ends own plan asked worked ran (Ok run) plan_is leaves same journal tapes telling = λ old new words start way by.
    let leaves_run = subst (LeavesAsRan own plan worked) (sym same) leaves in
    run-over own old new words plan asked start worked run way by (ap (λ (r : Ran AnyNet). r.plan) same ∙ plan_is) leaves_run
    (journal ∙ ap (λ (r : Ran AnyNet). journal_file asked.journal r.journal) (sym same)) (tapes ∙ ap (λ (r : Ran AnyNet). tapes_file asked.tapes r.tapes.items) (sym same)) telling

-- Whatever comes of making the text of a make.
pub make-ends : (plan : Network) (number : ℕ) (worked : Worked AnyKind) (ran : Ran AnyNet) (result : Result Said AllocError) → ran.plan ≡ plan → LeavesAsRan [] plan worked ran → IfOk result (SaysOfMake number ran)
    → IfOk result (MakeEnds plan number worked)
make-ends plan number worked ran (Err e) plan_is leaves says = tt
make-ends plan number worked ran (Ok said) plan_is leaves says = λ own old new words workers bytes start way by. make-over own old new words plan number workers bytes start worked ran said way by plan_is leaves says

-- Without memory nothing is left of what was under way.
pub no-memory-to : (own : List Offer) (old new : Outside) (words : List (String Global)) (plan : Network) (g : Goal) (start : NetValue AnyKind) → IsUnderWayTo (specs_of own) old new words plan g start → Performs own old new words (Err NoMemory)
no-memory-to own old new words plan (goals.Run asked) start way = λ recorded empty. wants-memory old new words own recorded (may-read old new _ way.ready.reads) empty
no-memory-to own old new words plan (goals.Make number workers bytes) start way = λ recorded empty.
    inl (record { nothing = empty; files = ap (λ (o : Outside). o.files) way.shelf; created = ap (λ (o : Outside). o.created) way.shelf })

-- So it is where the network has gone its way, and there is no memory for what is told of it.
pub no-memory : (kinds : List KindSpec) (running : Running) (worked : Worked AnyKind) → EndsAsRan kinds running worked (Err NoMemory)
no-memory kinds running worked own old new words start same way by =
    no-memory-to own old new words running.plan running.goal start (subst (λ (k : List KindSpec). IsUnderWayTo k old new words running.plan running.goal start) (sym same) way)

-- What a run or a make comes to is what the network comes to.
pub ends-run : (kinds : List KindSpec) (running : Running) (asked : RunCommand) (worked : Worked AnyKind) (run : Unwritten AnyNet) → running.goal ≡ goals.Run asked → RunEnds kinds running.plan (run_by asked) worked run
    → EndsAsRan kinds running worked (Ok (dones.Ran run))
ends-run kinds running asked worked run is ends own old new words start same way by =
    subst (λ (k : List KindSpec). HasRun k old new words run) (sym same)
    (ends old new words start (subst (λ (g : Goal). IsUnderWayTo kinds old new words running.plan g start) is way) (subst (λ (g : Goal). RanBy (workers_to g) start worked) is by))

-- So it is of a make.
pub ends-make : (kinds : List KindSpec) (running : Running) (number workers bytes : ℕ) (worked : Worked AnyKind) (said : Said) → running.goal ≡ goals.Make number workers bytes → MakeEnds running.plan number worked said
    → EndsAsRan kinds running worked (Ok (dones.Said said))
ends-make kinds running number workers bytes worked said is ends own old new words start same way by =
    ends own old new words workers bytes start (subst (λ (g : Goal). IsUnderWayTo kinds old new words running.plan g start) is way) (subst (λ (g : Goal). RanBy (workers_to g) start worked) is by)

-- what was under way, by what it is
pub was-run : (kinds : List KindSpec) (running : Running) (asked : RunCommand) (worked : Worked AnyKind) → running.goal ≡ goals.Run asked → WasUnderWay kinds running worked → WasRunUnderWay kinds running.plan (run_by asked) worked
was-run kinds running asked worked is was =
    (was.0, was.1, was.2, was.3, subst (λ (g : Goal). IsUnderWayTo kinds was.0 was.1 was.2 running.plan g was.3) is was.4, subst (λ (g : Goal). RanBy (workers_to g) was.3 worked) is was.5)

-- A make that was under way had a plan of standard kinds alone, and its own input.
pub was-make : (kinds : List KindSpec) (running : Running) (number workers bytes : ℕ) (worked : Worked AnyKind) → running.goal ≡ goals.Make number workers bytes → WasUnderWay kinds running worked
    → IsOfferedPlan [] running.plan × (bytes ≡ length (made_input number))
was-make kinds running number workers bytes worked is was =
    let way : IsMakeUnderWay was.0 was.1 was.2 running.plan number workers bytes was.3 = subst (λ (g : Goal). IsUnderWayTo kinds was.0 was.1 was.2 running.plan g was.3) is was.4 in
    (way.offered, way.bytes_are)
