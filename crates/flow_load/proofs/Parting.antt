-- The files of a plan's readers, read one after another.
use Rattle.std.proofs.Common.{◌≡◌, ◌⊎◌, inl, inr, ℕ, zero, suc, ◌+◌, List, [], ◌∷◌, ◌++◌, length, map, Some, Ok, Err, refl, sym, ◌∙◌, ap, subst, arith, length-append}
use Rattle.std.proofs.lemmas.List.{map-append}
use mathlib.Core.List.{append-nil}
use Rattle.std.specs.Prelude.{slice_get, Vec}
use Rattle.std.specs.declared.alloc.Global.{Global}
use Rattle.std.specs.declared.option.Option.{Option}
use Rattle.flow_text.specs.Edge.{Outside, Name, Files, Logged}
use Rattle.flow_text.specs.declared.all.ReadStop.{ReadStop}
use Rattle.flow_text.specs.declared.all.ReadStop.TheVariants as reads
use Rattle.flow_plan.specs.declared.plan.Process.{Process}
use Rattle.flow_plan.specs.Network.{Network}
use Rattle.flow_limits.specs.declared.TheConstants.{FILE_LIMIT}
use Rattle.flow_load.specs.Step.{Filled, OnlyReads, GivesMore, HoldsMore, ReadsFile, whole}
use Rattle.flow_load.specs.Stops.{IsReadStop}
use Rattle.flow_load.specs.Components.{read_by, input_of, inputs_of, contents_of, AreRead, IsNext, StopsAtFile, ReadsInput, ReadsInputs}
use Rattle.flow_load.specs.declared.stop.Stop.{Stop}
use Rattle.flow_load.specs.declared.stop.Stop.TheVariants.{Words, Refused, NoPart, JournalRefused, TapesRefused, ReadFault, WriteFault, TooLong, NoMemory}
use Rattle.flow_load.proofs.Steps.{no-reads, may-read, may-fail-to-read, MayRead-trans}
use Rattle.flow_load.proofs.Readings.{OnlyReads-trans, FailsToRead-after, GivesMore-after, OnlyReads-files, are-read-append, none-read, inputs-none, inputs-more}

-- the stop of a read is that of its file
pub read-stopped : (old new : Outside) (name : Name) (why : ReadStop) (stop : Stop) → ReadsFile old new FILE_LIMIT (Err why) name → IsReadStop why name stop
    → StopsAtFile old new [] name stop
read-stopped old new name reads.Fault (ReadFault read) r is = (is, r)
read-stopped old new name (reads.TooLong told) (TooLong read) r is = (is, r.0, r.1)
read-stopped old new name reads.NoMemory NoMemory r is = r
read-stopped old new name reads.Fault NoMemory r is = may-fail-to-read old new r.0 name r.2
read-stopped old new name (reads.TooLong told) NoMemory r is = may-read old new _ r.0.2
read-stopped old new name reads.Fault Words r is = absurd is
read-stopped old new name reads.Fault (Refused refusal) r is = absurd is
read-stopped old new name reads.Fault (NoPart process) r is = absurd is
read-stopped old new name reads.Fault (TapesRefused refusal) r is = absurd is
read-stopped old new name reads.Fault (JournalRefused refusal) r is = absurd is
read-stopped old new name reads.Fault (WriteFault written) r is = absurd is
read-stopped old new name reads.Fault (TooLong read) r is = absurd is
read-stopped old new name (reads.TooLong told) Words r is = absurd is
read-stopped old new name (reads.TooLong told) (Refused refusal) r is = absurd is
read-stopped old new name (reads.TooLong told) (NoPart process) r is = absurd is
read-stopped old new name (reads.TooLong told) (TapesRefused refusal) r is = absurd is
read-stopped old new name (reads.TooLong told) (JournalRefused refusal) r is = absurd is
read-stopped old new name (reads.TooLong told) (ReadFault read) r is = absurd is
read-stopped old new name (reads.TooLong told) (WriteFault written) r is = absurd is
read-stopped old new name reads.NoMemory Words r is = absurd is
read-stopped old new name reads.NoMemory (Refused refusal) r is = absurd is
read-stopped old new name reads.NoMemory (NoPart process) r is = absurd is
read-stopped old new name reads.NoMemory (TapesRefused refusal) r is = absurd is
read-stopped old new name reads.NoMemory (JournalRefused refusal) r is = absurd is
read-stopped old new name reads.NoMemory (ReadFault read) r is = absurd is
read-stopped old new name reads.NoMemory (WriteFault written) r is = absurd is
read-stopped old new name reads.NoMemory (TooLong read) r is = absurd is

-- The files of the readers among the first processes were read, and this is what each of these processes was given.
pub record SoFar (old new : Outside) (plan : Network) (k : ℕ) (given : List (List ℕ)) : Type 0 where
  pub each_given : length given ≡ k
  pub reads : OnlyReads old new (map whole (inputs_of plan.processes given))
  pub were_read : AreRead old.files (inputs_of plan.processes given)

-- Before anything was read, nothing was.
pub nothing-so-far : (old : Outside) (plan : Network) → SoFar old old plan 0 []
nothing-so-far old plan = record {
  each_given = refl;
  reads = subst (λ (l : List Filled). OnlyReads old old (map whole l)) (sym (inputs-none plan.processes)) (no-reads old old refl);
  were_read = subst (λ (l : List Filled). AreRead old.files l) (sym (inputs-none plan.processes)) (none-read old.files);
}

-- What stands in a list to which one was pushed stood there before, or is the one.
pub pushed : {X : Type 0} (xs : List X) (y z : X) (p : ℕ) → slice_get (xs ++ y ∷ []) p ≡ Some z → (slice_get xs p ≡ Some z) ⊎ ((p ≡ length xs) × (z ≡ y))
pushed [] y z zero at = inr (refl, let same : y ≡ z = cc in sym same)
pushed [] y z (suc p) at = absurd cc
pushed (x ∷ xs) y z zero at = inl at
pushed (x ∷ xs) y z (suc p) at = go (pushed xs y z p at) where
  go : (slice_get xs p ≡ Some z) ⊎ ((p ≡ length xs) × (z ≡ y)) → (slice_get xs p ≡ Some z) ⊎ ((suc p ≡ length (x ∷ xs)) × (z ≡ y))
  go (inl h) = inl h
  go (inr h) = inr (ap suc h.0, h.1)

-- one process more
pub more-so-far : (old mid new : Outside) (plan : Network) (k : ℕ) (given : List (List ℕ)) (bytes : Vec ℕ Global) → SoFar old mid plan k given → ReadsInput mid new plan k (Ok bytes)
    → SoFar old new plan (k + 1) (given ++ bytes.items ∷ [])
more-so-far old mid new plan k given bytes s r =
    let at : slice_get plan.processes (length given) ≡ Some r.0 = ap (λ n. slice_get plan.processes n) s.each_given ∙ r.1 in
    let inputs : inputs_of plan.processes (given ++ bytes.items ∷ []) ≡ inputs_of plan.processes given ++ input_of r.0 bytes.items = inputs-more plan.processes given r.0 bytes.items at in
    let told = OnlyReads-files old mid (map whole (inputs_of plan.processes given)) s.reads in
    record {
      each_given = omega (arith, length-append given (bytes.items ∷ []), s.each_given);
      reads = subst (λ (l : List Logged). OnlyReads old new l) (sym (ap (λ l. map whole l) inputs ∙ map-append whole (inputs_of plan.processes given) (input_of r.0 bytes.items)))
          (OnlyReads-trans old mid new (map whole (inputs_of plan.processes given)) (map whole (input_of r.0 bytes.items)) s.reads r.2);
      were_read = subst (λ (l : List Filled). AreRead old.files l) (sym inputs)
          (are-read-append old.files (inputs_of plan.processes given) (input_of r.0 bytes.items) s.were_read (subst (λ (t : Option Files). AreRead t (input_of r.0 bytes.items)) told r.3));
    }

-- What was pushed to files is pushed to their contents.
pub contents-pushed : (files : List (Vec ℕ Global)) (bytes : Vec ℕ Global) → contents_of (files ++ bytes ∷ []) ≡ contents_of files ++ bytes.items ∷ []
contents-pushed files bytes = map-append (λ (v : Vec ℕ Global). v.items) files (bytes ∷ [])

-- a stop behind other files
stopped-behind : (old mid new : Outside) (earlier : List Filled) (name : Name) (stop : Stop) → OnlyReads old mid (map whole earlier) → StopsAtFile mid new [] name stop
    → StopsAtFile old new earlier name stop
stopped-behind old mid new earlier name (ReadFault read) r s = (s.0, (s.1.0, s.1.1, FailsToRead-after old mid new (map whole earlier) s.1.0 name r s.1.2))
stopped-behind old mid new earlier name (TooLong read) r s = (
  s.0,
  subst (λ (l : List Logged). GivesMore old new l FILE_LIMIT name) (append-nil (map whole earlier)) (GivesMore-after old mid new (map whole earlier) [] FILE_LIMIT name r s.1),
  subst (λ (t : Option Files). HoldsMore t FILE_LIMIT name) (OnlyReads-files old mid (map whole earlier) r) s.2,
)
stopped-behind old mid new earlier name NoMemory r s = MayRead-trans old mid new (may-read old mid (map whole earlier) r) s
stopped-behind old mid new earlier name Words r s = absurd s
stopped-behind old mid new earlier name (Refused refusal) r s = absurd s
stopped-behind old mid new earlier name (NoPart process) r s = absurd s
stopped-behind old mid new earlier name (TapesRefused refusal) r s = absurd s
stopped-behind old mid new earlier name (JournalRefused refusal) r s = absurd s
stopped-behind old mid new earlier name (WriteFault written) r s = absurd s

-- the next file is that of process k
next : (old mid : Outside) (plan : Network) (k : ℕ) (given : List (List ℕ)) (s : SoFar old mid plan k given) (process : Process) (name : Name)
    → slice_get plan.processes k ≡ Some process → read_by process ≡ name ∷ [] → IsNext old.files plan (inputs_of plan.processes given) name
next old mid plan k given s process name there reads = record {
  place = k;
  process = process;
  there = there;
  reads = reads;
  given = given;
  count = s.each_given;
  earlier_are = refl;
  were_read = s.were_read;
}

-- Reading that stops at one input stops there, behind those that were read.
pub stop-so-far : (old mid new : Outside) (plan : Network) (k : ℕ) (given : List (List ℕ)) (stop : Stop) → SoFar old mid plan k given → ReadsInput mid new plan k (Err stop)
    → ReadsInputs old new plan (Err stop)
stop-so-far old mid new plan k given NoMemory s r = MayRead-trans old mid new (may-read old mid (map whole (inputs_of plan.processes given)) s.reads) r
stop-so-far old mid new plan k given (ReadFault read) s r =
    (inputs_of plan.processes given, r.1, next old mid plan k given s r.0 r.1 r.2 r.3, stopped-behind old mid new (inputs_of plan.processes given) r.1 (ReadFault read) s.reads r.4)
stop-so-far old mid new plan k given (TooLong read) s r =
    (inputs_of plan.processes given, r.1, next old mid plan k given s r.0 r.1 r.2 r.3, stopped-behind old mid new (inputs_of plan.processes given) r.1 (TooLong read) s.reads r.4)
stop-so-far old mid new plan k given Words s r = absurd r.4
stop-so-far old mid new plan k given (Refused refusal) s r = absurd r.4
stop-so-far old mid new plan k given (NoPart process) s r = absurd r.4
stop-so-far old mid new plan k given (TapesRefused refusal) s r = absurd r.4
stop-so-far old mid new plan k given (JournalRefused refusal) s r = absurd r.4
stop-so-far old mid new plan k given (WriteFault written) s r = absurd r.4
