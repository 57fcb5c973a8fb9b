-- The first run starts well.
use Rattle.std.proofs.Common.{◌≡◌, ℕ, [], ◌∷◌, refl, true, false, arith, subst}
use Rattle.std.proofs.lemmas.Bool.Decides.{nat_tests}
use Rattle.std.specs.Prelude.{codes, IsSome, IsTrue, ◌==◌}
use Rattle.flow_component.specs.Ports.{uses_first}
use Rattle.flow_model.specs.States.{Process, output_at}
use Rattle.flow_model.specs.Plans.{StartsWell, FitsProcess, process_at_start}
use Rattle.flow_catalogue.specs.declared.standard.Std.{Std}
use Rattle.flow_catalogue.specs.declared.standard.Std.TheVariants as components
use Rattle.flow_catalogue.specs.Std.{std_rules}
use Rattle.flow_witness.proofs.Wired.{chain-wired, at_three}
use Rattle.flow_witness.specs.Chain.{reader_of, pass_of, writer_of}
use Rattle.flow_witness.specs.FirstRun.{first_network, first_components, passing}

abbrev reader : Process Std
reader = process_at_start first_network 0 (reader_of (codes "Read") (codes "in.txt")) (components.ReadLines ((120 ∷ []) ∷ []))

abbrev passer : Process Std
passer = process_at_start first_network 1 (pass_of (codes "Pass")) (components.Passthru passing)

abbrev writer : Process Std
writer = process_at_start first_network 2 (writer_of (codes "Write") (codes "out.txt")) (components.WriteLines [])

-- A process whose only output has a connection has one at every port that it uses.
pub sends_first : (x : Process Std) → IsSome (output_at x 0) → (port : ℕ) → IsTrue (uses_first port) → IsSome (output_at x port)
sends_first x is port uses =
    let h : (port == 0) ≡ true = uses in
    let first : 0 ≡ port = grind (arith, nat_tests) in
    subst (λ n. IsSome (output_at x n)) first is

reader_fits : FitsProcess std_rules reader.component reader
reader_fits = record { inputs = refl; outputs = refl; used = sends_first reader refl; can_start = λ held empty. empty }

passer_fits : FitsProcess std_rules passer.component passer
passer_fits = record { inputs = refl; outputs = refl; used = sends_first passer refl; can_start = λ held empty. tt }

writer_fits : FitsProcess std_rules writer.component writer
writer_fits = record { inputs = refl; outputs = refl; used = λ port uses. absurd (let bad : false ≡ true = uses in cc); can_start = λ held empty. tt }

-- The network may start with these components.
pub starts : StartsWell std_rules first_network first_components
starts = record {
  wired = chain-wired (codes "Read") (codes "in.txt") (codes "Pass") (codes "Write") (codes "out.txt");
  one_each = refl;
  fit = λ p x there. at_three (λ k y. FitsProcess std_rules y.component y) reader passer writer reader_fits passer_fits writer_fits p x there;
}
