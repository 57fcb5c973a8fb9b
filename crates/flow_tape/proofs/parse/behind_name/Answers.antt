use Rattle.std.proofs.Common.{◌≡◌, ◌∙◌, List, ℕ, Ok, ap, sym}
use Rattle.flow_own.proofs.Suffixes.{cut-off}
use Rattle.flow_tape.specs.Files.{name}
use Rattle.flow_tape.specs.Reading.{letters_at}
use Rattle.flow_tape.proofs.Loops.{letters-end}
use Rattle.flow_tape.proofs.parse.behind_name.Goals as goal

pub last_of-requires : goal.last_of-requires
last_of-requires c =
    let read : letters_at name c.args.bytes ≡ Ok (tt, c.in_ok-left.field-0.now) = ap (letters_at name) (sym c.as_slice.ensures) ∙ c.in_ok-left.ensures in
    (cut-off c.in_ok-left.field-0.now c.args.bytes (letters-end name c.args.bytes (tt, c.in_ok-left.field-0.now) read)).0

pub returns : goal.returns
returns c =
    let read : letters_at name c.args.bytes ≡ Ok (tt, c.in_ok-left.field-0.now) = ap (letters_at name) (sym c.as_slice.ensures) ∙ c.in_ok-left.ensures in
    let cut = cut-off c.in_ok-left.field-0.now c.args.bytes (letters-end name c.args.bytes (tt, c.in_ok-left.field-0.now) read) in
    read ∙ ap (λ (rest : List ℕ). Ok (tt, rest)) (sym (c.last_of.ensures ∙ cut.1))
