-- The files that a plan's processes read and write, and the components of the processes, each reader on what its file gave.
use Rattle.std.specs.Prelude.{◌≡◌, ℕ, ◌-◌, ◌<◌, nat_lt, false, List, [], ◌∷◌, ◌++◌, length, map, Some, None, Ok, Err, Vec, is_some, ⊤, string_bytes, slice_get, slice_set, slice_index, get_or, codes, if◌then◌else◌}
use Rattle.std.specs.Option.{option_and_then}
use Rattle.std.specs.Str.{bytes_eq}
use Rattle.std.specs.declared.alloc.Global.{Global}
use Rattle.std.specs.declared.option.Option.{Option}
use Rattle.std.specs.declared.result.Result.{Result}
use Rattle.flow_limits.specs.declared.TheConstants.{FILE_LIMIT}
use Rattle.flow_text.specs.Edge.{Outside, Name, Files, Logged}
use Rattle.flow_plan.specs.declared.plan.Process.{Process}
use Rattle.flow_plan.specs.Network.{Network}
use Rattle.flow_catalogue.specs.declared.standard.Std.{Std}
use Rattle.flow_catalogue.specs.Processes.{IsMade, IsStandard, Fits}
use Rattle.flow_plan.specs.declared.kind.KindSpec.{KindSpec}
use Rattle.flow_own.specs.Mixed.{Other, Own}
use Rattle.flow_own.specs.Parts.{Seen}
use Rattle.flow_own.specs.Tapes.{OwnValue}
use Rattle.flow_offer.specs.Processes.{IsOwnAt, own_place, own_processes, place_of}
use Rattle.flow_offer.specs.Fits.{player_at, part_at}
use Rattle.flow_offer.specs.Shares.{IsFirstWithout, earlier}
use Rattle.flow_load.specs.Offers.{AnyKind, Taped}
use Rattle.flow_load.specs.Step.{Filled, OnlyReads, FailsToRead, MayRead, Unended, IsRead, GivesMore, HoldsMore, whole}
use Rattle.flow_load.specs.declared.stop.Stop.{Stop}
use Rattle.flow_load.specs.declared.stop.Stop.TheVariants.{NoPart, ReadFault, TooLong, NoMemory}

-- The name of the first option.
abbrev pub first_option : List (ℕ × List ℕ) → List Name
first_option [] = []
first_option (option ∷ more) = option.1 ∷ []

-- The file that a process reads, if it does, and the one that it writes.
abbrev pub read_by : Process → List Name
read_by process = if bytes_eq process.kind (codes "ReadLines") then first_option process.options else []

-- The name of the file that a process writes, where it writes one.
abbrev pub written_by : Process → List Name
written_by process = if bytes_eq process.kind (codes "WriteLines") then first_option process.options else []

-- The file that a process reads, with the bytes that it gave, if it reads one.
abbrev pub input_of : Process → List ℕ → List Filled
input_of process bytes = map (λ name. (name, bytes)) (read_by process)

-- Those of these processes, in order, where `given` has for each process what its file gave.
abbrev pub inputs_of : List Process → List (List ℕ) → List Filled
inputs_of [] given = []
inputs_of (process ∷ processes) [] = []
inputs_of (process ∷ processes) (bytes ∷ given) = input_of process bytes ++ inputs_of processes given

-- A process of the plan reads this file.
pub record IsInput (plan : Network) (name : Name) : Type 0 where
  pub number : ℕ
  pub process : Process
  pub there : slice_get plan.processes number ≡ Some process
  pub reads : read_by process ≡ name ∷ []

-- Each of these files gave its bytes, which aren't too many.
abbrev pub AreRead : Option Files → List Filled → Type 0
AreRead told files = (at : ℕ) (file : Filled) → slice_get files at ≡ Some file → IsRead told FILE_LIMIT file

-- The component is the one of process p in its first state, on these bytes.
pub record IsComponent (plan : Network) (p : ℕ) (bytes : List ℕ) (component : Std) : Type 0 where
  pub process : Process
  pub there : slice_get plan.processes p ≡ Some process
  pub made : IsMade plan p process bytes component
  pub fits : Fits plan p process component

-- The component is the standard one of process p in its first state, on these bytes.
abbrev pub IsStandardAt : Network → ℕ → List ℕ → AnyKind → Type 0
IsStandardAt plan p bytes component = (standard : Std) × (component ≡ Other standard) × IsComponent plan p bytes standard

-- The component is the player of this tape at process p, before its first entry.
abbrev pub IsPlayerAt : Network → ℕ → Taped → AnyKind → Type 0
IsPlayerAt plan p tape component = (process : Process) × (slice_get plan.processes p ≡ Some process) × (component ≡ Own (player_at plan p process tape))

-- The component is the live part at process p of which contracts see this, with an empty tape.
abbrev pub IsPartAt : Network → ℕ → Seen → AnyKind → Type 0
IsPartAt plan p seen component = (process : Process) × (slice_get plan.processes p ≡ Some process) × (component ≡ Own (part_at plan p process (Some seen)))

-- Process p can be made from this, its part or its tape: where there is none it is of a standard kind.
abbrev pub CanTake : {T : Type 0} → Network → ℕ → Option T → Type 0
CanTake plan p None = IsStandard plan p
CanTake plan p (Some taken) = p < length plan.processes

-- The component of process p is the part that it took, alive, where it took one, and else a standard one on these bytes; `seen` tells what contracts see of a part.
abbrev pub TakesPart : {P : Type 0} → (P → Seen) → Network → ℕ → List ℕ → Option P → AnyKind → Type 0
TakesPart seen plan p bytes None component = IsStandardAt plan p bytes component
TakesPart seen plan p bytes (Some part) component = IsPartAt plan p (seen part) component

-- The component of process p is the player of a tape where it took one, and else a standard one on these bytes.
abbrev pub TakesTape : Network → ℕ → List ℕ → Option Taped → AnyKind → Type 0
TakesTape plan p bytes None component = IsStandardAt plan p bytes component
TakesTape plan p bytes (Some tape) component = IsPlayerAt plan p tape component

-- The same of a process of any kind: that of a kind of the caller's own is the player of this tape, before its first entry.
abbrev pub IsPlayedComponent : List KindSpec → Network → ℕ → List ℕ → Taped → AnyKind → Type 0
IsPlayedComponent own plan p bytes tape (Other component) = IsComponent plan p bytes component
IsPlayedComponent own plan p bytes tape (Own value) = (is_own : IsOwnAt own plan p) × (value ≡ player_at plan p is_own.process tape)

-- The same while the network runs: that of a kind of the caller's own is a live part, with an empty tape.
abbrev pub IsLiveComponent : List KindSpec → Network → ℕ → List ℕ → AnyKind → Type 0
IsLiveComponent own plan p bytes (Other component) = IsComponent plan p bytes component
IsLiveComponent own plan p bytes (Own value) = (is_own : IsOwnAt own plan p) × ((seen : Seen) × (value ≡ part_at plan p is_own.process (Some seen)))

-- The components are those of the plan's processes, in order, and these are the tapes of those that are the caller's own.
pub record AreComponents (own : List KindSpec) (plan : Network) (given : List (List ℕ)) (tapes : List Taped) (components : List AnyKind) : Type 0 where
  pub by : ℕ → Taped
  pub tapes_are : tapes ≡ map by (own_processes own plan)
  pub count : length components ≡ length plan.processes
  pub each : (p : ℕ) (component : AnyKind) → slice_get components p ≡ Some component → (bytes : List ℕ) × (slice_get given p ≡ Some bytes) × IsPlayedComponent own plan p bytes (by p) component

-- There are contents of files, and tapes, on which these are the components.
abbrev pub HasComponents : List KindSpec → Network → List AnyKind → Type 0
HasComponents own plan components = (given : List (List ℕ)) × (tapes : List Taped) × AreComponents own plan given tapes components

-- There is a place for a part of each process, and one is there where the process is of a kind of the caller's own.
pub record TakesParts {P : Type 0} (own : List KindSpec) (plan : Network) (parts : List (Option P)) : Type 0 where
  pub count : length parts ≡ length plan.processes
  pub each : (p : ℕ) (part : Option P) → slice_get parts p ≡ Some part → is_some part ≡ is_some (own_place own plan p)

-- The next part of the kind at this place was taken, if one was left, where so many of each kind were left before and after; without a place none was.
abbrev pub TakesNext : {P : Type 0} → List ℕ → List ℕ → Option ℕ → Option P → Type 0
TakesNext old new None part = (new ≡ old) × (is_some part ≡ false)
TakesNext old new (Some place) part = (new ≡ slice_set old place (slice_index old place - 1)) × (is_some part ≡ nat_lt 0 (slice_index old place))

-- The first of the parts that were left of the kind at this place was taken, and those behind it are left; without a place nothing was taken.
abbrev pub TakesFirst : {P : Type 0} → List (List P) → List (List P) → Option ℕ → Option P → Type 0
TakesFirst old new None part = new ≡ old
TakesFirst old new (Some place) None = ⊤
TakesFirst {P = P} old new (Some place) (Some part) = (rest : List P) × (slice_get old place ≡ Some (part ∷ rest)) × (new ≡ slice_set old place rest)

-- The part of process p, where these are the parts of each kind: of those of its kind the one with as many before it as there are processes of the kind before p.
abbrev pub part_for : {P : Type 0} → List KindSpec → List (List P) → Network → ℕ → Option P
part_for own parts plan p =
    option_and_then (λ (process : Process). option_and_then (λ place. slice_get (get_or parts place []) (earlier plan process.kind p)) (place_of own process.kind)) (slice_get plan.processes p)

-- Each process that took a part took its own: those of one kind take the kind's parts from the first on, in the order of the processes.
abbrev pub AreInOrder : {P : Type 0} → List KindSpec → List (List P) → Network → List (Option P) → Type 0
AreInOrder {P = P} own parts plan taken = (p : ℕ) (part : P) → slice_get taken p ≡ Some (Some part) → part_for own parts plan p ≡ Some part

-- Why parts weren't handed out, where there are so many of each kind: this process is the first of a kind of the caller's own that finds none; or memory was wanting.
abbrev pub StopsHandingOut : List KindSpec → List ℕ → Network → Stop → Type 0
StopsHandingOut own counts plan (NoPart name) = (p : ℕ) × (process : Process) × (slice_get plan.processes p ≡ Some process) × (name ≡ process.name) × IsFirstWithout own counts plan p
StopsHandingOut own counts plan NoMemory = ⊤
StopsHandingOut own counts plan other = ⊥

-- What handing out parts comes to: one for each process of a kind of the caller's own, or why not.
abbrev pub HandsOut : {P : Type 0} → List KindSpec → List ℕ → Network → Result (Vec (Option P) Global) Stop → Type 0
HandsOut own counts plan (Ok parts) = TakesParts own plan parts.items
HandsOut own counts plan (Err stop) = StopsHandingOut own counts plan stop

-- The component of each process that took a part is that part, as far as contracts see it.
abbrev pub HoldParts : {P : Type 0} → (P → Seen) → List (Option P) → List AnyKind → Type 0
HoldParts {P = P} seen parts components = (p : ℕ) (part : P) → slice_get parts p ≡ Some (Some part) → (value : OwnValue) × (slice_get components p ≡ Some (Own value)) × (value.part ≡ Some (seen part))

-- The component of each process for which there is a part is that part, as far as contracts see it, where these are the parts of each kind: those of one kind are with its
-- processes in their order, from the first part on.
abbrev pub HoldTheirParts : {P : Type 0} → (P → Seen) → List KindSpec → List (List P) → Network → List AnyKind → Type 0
HoldTheirParts {P = P} seen own parts plan components =
    (p : ℕ) (part : P) → part_for own parts plan p ≡ Some part → (value : OwnValue) × (slice_get components p ≡ Some (Own value)) × (value.part ≡ Some (seen part))

-- The components are those of the plan's processes, in order, each of the caller's own a live part.
pub record AreLive (own : List KindSpec) (plan : Network) (given : List (List ℕ)) (components : List AnyKind) : Type 0 where
  pub count : length components ≡ length plan.processes
  pub each : (p : ℕ) (component : AnyKind) → slice_get components p ≡ Some component → (bytes : List ℕ) × (slice_get given p ≡ Some bytes) × IsLiveComponent own plan p bytes component

-- The file `read` is that of a process of the plan, and these are the files of the processes before it, which were read whole.
pub record IsNext (told : Option Files) (plan : Network) (earlier : List Filled) (read : Name) : Type 0 where
  pub place : ℕ
  pub process : Process
  pub there : slice_get plan.processes place ≡ Some process
  pub reads : read_by process ≡ read ∷ []
  pub given : List (List ℕ)
  pub count : length given ≡ place
  pub earlier_are : earlier ≡ inputs_of plan.processes given
  pub were_read : AreRead told earlier

-- Behind these files, which were read whole, a read of this one stopped.
abbrev pub StopsAtFile : Outside → Outside → List Filled → Name → Stop → Type 0
StopsAtFile old new earlier name (ReadFault read) = (string_bytes read ≡ name)
    × ((files : List Logged) × Unended name files × FailsToRead old new (map whole earlier ++ files) name)
StopsAtFile old new earlier name (TooLong read) = (string_bytes read ≡ name)
    × GivesMore old new (map whole earlier) FILE_LIMIT name × HoldsMore old.files FILE_LIMIT name
StopsAtFile old new earlier name NoMemory = MayRead old new
StopsAtFile old new earlier name other = ⊥

-- The contents of these.
abbrev pub contents_of : List (Vec ℕ Global) → List (List ℕ)
contents_of files = map (λ v. v.items) files

-- What reading the input of one process does to the outside. A process that reads no file is given nothing.
abbrev pub ReadsInput : Outside → Outside → Network → ℕ → Result (Vec ℕ Global) Stop → Type 0
ReadsInput old new plan p (Ok bytes) = (process : Process) × (slice_get plan.processes p ≡ Some process)
    × OnlyReads old new (map whole (input_of process bytes.items)) × AreRead old.files (input_of process bytes.items)
ReadsInput old new plan p (Err NoMemory) = MayRead old new
ReadsInput old new plan p (Err stop) = (process : Process) × (name : Name) × (slice_get plan.processes p ≡ Some process)
    × (read_by process ≡ name ∷ []) × StopsAtFile old new [] name stop

-- What reading all inputs does to the outside. Each process is given something.
abbrev pub ReadsInputs : Outside → Outside → Network → Result (Vec (Vec ℕ Global) Global) Stop → Type 0
ReadsInputs old new plan (Ok given) = (length given.items ≡ length plan.processes) × OnlyReads old new (map whole (inputs_of plan.processes (contents_of given.items)))
    × AreRead old.files (inputs_of plan.processes (contents_of given.items))
ReadsInputs old new plan (Err NoMemory) = MayRead old new
ReadsInputs old new plan (Err stop) = (earlier : List Filled) × (name : Name) × IsNext old.files plan earlier name × StopsAtFile old new earlier name stop

-- All these files hold these bytes.
abbrev pub AllHold : List ℕ → List Filled → Type 0
AllHold bytes files = (at : ℕ) (file : Filled) → slice_get files at ≡ Some file → file.1 ≡ bytes

-- Process p is given these bytes, if it is a reader.
abbrev pub GivesOne : Network → ℕ → List ℕ → List ℕ → Type 0
GivesOne plan p bytes given = (process : Process) × (slice_get plan.processes p ≡ Some process) × AllHold bytes (input_of process given)

-- Each reader of the plan is given these bytes.
pub record GivesAll (plan : Network) (bytes : List ℕ) (given : List (List ℕ)) : Type 0 where
  pub count : length given ≡ length plan.processes
  pub hold : AllHold bytes (inputs_of plan.processes given)
