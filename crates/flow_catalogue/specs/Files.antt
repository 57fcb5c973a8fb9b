-- The file that a process reads or writes.
use Rattle.std.specs.Prelude.{◌≡◌, ◌≢◌, ℕ, List, [], ◌∷◌, Option, Some, None, codes}
use Rattle.flow_plan.specs.Texts.{IsFileName}
use Rattle.flow_plan.specs.declared.plan.Process.{Process}
use Rattle.flow_catalogue.specs.declared.process.FileUse.{FileUse}
use Rattle.flow_catalogue.specs.declared.process.FileUse.TheVariants.{Read, Write}

-- The only option of the process is the name of a file.
abbrev pub NamesFile : Process → Type 0
NamesFile process = (file : List ℕ) × (process.options ≡ (0, file) ∷ []) × IsFileName file

-- A ReadLines reads the file that its option names, a WriteLines writes it, and no other kind has a file.
abbrev pub UsesFile : Process → Option FileUse → Type 0
UsesFile process None = (process.kind ≢ codes "ReadLines") × (process.kind ≢ codes "WriteLines")
UsesFile process (Some (Read file)) = (process.kind ≡ codes "ReadLines") × (process.options ≡ (0, file.now) ∷ [])
UsesFile process (Some (Write file)) = (process.kind ≡ codes "WriteLines") × (process.options ≡ (0, file.now) ∷ [])
