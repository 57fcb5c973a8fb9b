use Rattle.std.proofs.Common.{◌≡◌, ℕ, List, Result, Ok, Err, refl}
use Rattle.flow_parse.specs.declared.fault.ParseStop.{ParseStop}
use Rattle.flow_parse.specs.declared.fault.ParseStop.TheVariants as stops
use Rattle.flow_parse.specs.declared.form.Form.{Form}
use Rattle.flow_parse.specs.declared.form.Form.TheVariants.{Header, Process, Connection, Initial, Subnet, End, InPort, OutPort}
use Rattle.flow_parse.specs.declared.reader.Reader.{Reader}
use Rattle.flow_parse.specs.Files.{IsAdded}
use Rattle.flow_parse.specs.Reader.{Passes, Takes}
use Rattle.flow_parse.proofs.reader.Reader.put.Goals as goal

-- What is no header, no subnet and no end is added to a part.
added_else : (form : Form) → ((version : ℕ) → form ≡ Header version → ⊥) → ((name : List ℕ) → form ≡ Subnet name → ⊥) → (form ≡ End → ⊥) → IsAdded form
added_else (Header version) no_header no_subnet no_end = no_header version refl
added_else (Subnet name) no_header no_subnet no_end = no_subnet name refl
added_else End no_header no_subnet no_end = no_end refl
added_else (Process name kind) no_header no_subnet no_end = tt
added_else (Connection from out capacity into to) no_header no_subnet no_end = tt
added_else (Initial text into to) no_header no_subnet no_end = tt
added_else (InPort outer into to) no_header no_subnet no_end = tt
added_else (OutPort from out outer) no_header no_subnet no_end = tt

-- What is taken where it is added and passes is taken where it passes, if it is added.
taken_added : (old : Reader) (n : ℕ) (form : Form) (new : Reader) (result : Result (Unit {0}) ParseStop) → IsAdded form → Takes (λ parts. IsAdded form × Passes parts form) old n form new result → Takes (λ parts. Passes parts form) old n form new result
taken_added old n form new (Ok u) is takes = λ parts read passes. takes parts read (is, passes)
taken_added old n form new (Err (stops.Fault fault)) is takes = λ parts read passes. takes parts read (is, passes)
taken_added old n form new (Err stops.NoMemory) is takes = tt

-- src/reader.rt:252:5
pub returns-in_default : goal.returns-in_default
returns-in_default c =
    taken_added c.args.self.now c.args.line c.args.form c.add.new.self c.add.result
    (added_else c.args.form c.in_default.not-Header c.in_default.not-Subnet c.in_default.not-End)
    c.add.ensures
