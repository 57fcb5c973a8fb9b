-- Several files, written one after another, and the contents that they leave.
use Rattle.std.specs.Prelude.{◌≡◌, ◌⊎◌, ℕ, ◌<◌, List, [], ◌∷◌, ◌++◌, length, map, take, Some, Ok, Err, slice_get, string_bytes}
use Rattle.std.specs.declared.option.Option.{Option}
use Rattle.std.specs.declared.result.Result.{Result}
use Rattle.std.specs.Option.{option_map}
use Rattle.flow_text.specs.Edge.{Outside, Name, Files, Logged, replaced}
use Rattle.flow_load.specs.Step.{Filled, OnlyWrites, FailsToWrite, HoldsPart, whole}
use Rattle.flow_load.specs.declared.many.Output.{Output}
use Rattle.flow_load.specs.declared.stop.Stop.{Stop}
use Rattle.flow_load.specs.declared.stop.Stop.TheVariants.{WriteFault, NoMemory}

-- An output as the code lends it.
abbrev pub output_of : Output → Filled
output_of output = (output.name.now, output.bytes.now)

-- Each replaced, in order.
abbrev pub replaced_all : List Filled → Files → Files
replaced_all [] files = files
replaced_all (output ∷ rest) files = replaced_all rest (replaced output.0 output.1 files)

-- The contents after the first files.
abbrev pub after_some : List Filled → ℕ → Option Files → Option Files
after_some outputs count files = option_map (replaced_all (take count outputs)) files

-- The files before this one were written whole, in order, and then writing it failed.
pub record FailsAt (old new : Outside) (outputs : List Filled) (written : Name) : Type 0 where
  pub place : ℕ
  pub bytes : List ℕ
  pub output : slice_get outputs place ≡ Some (written, bytes)
  pub begun : List Logged
  pub fails : FailsToWrite old new (map whole (take place outputs) ++ begun) written
  pub part : HoldsPart (after_some outputs place old.files) new.files begun (written, bytes)

-- The files before one of them were written whole, in order, and no other was begun; or none was.
pub record EndsAt (old new : Outside) (outputs : List Filled) : Type 0 where
  pub place : ℕ
  pub few : (place ≡ 0) ⊎ (place < length outputs)
  pub writes : OnlyWrites old new (map whole (take place outputs))
  pub files : new.files ≡ after_some outputs place old.files

-- All files were written whole, in order.
pub record WritesAll (old new : Outside) (outputs : List Filled) : Type 0 where
  pub writes : OnlyWrites old new (map whole outputs)
  pub files : new.files ≡ option_map (replaced_all outputs) old.files

-- What writing several files does. Where one can't be named for want of memory, that it failed is told as that.
abbrev pub WritesFiles : {T : Type 0} → Outside → Outside → Result T Stop → List Filled → Type 0
WritesFiles old new (Ok _) outputs = WritesAll old new outputs
WritesFiles old new (Err (WriteFault name)) outputs = FailsAt old new outputs (string_bytes name)
WritesFiles old new (Err NoMemory) outputs = EndsAt old new outputs ⊎ ((written : Name) × FailsAt old new outputs written)
WritesFiles old new (Err other) outputs = ⊥
