use Rattle.std.proofs.Common.{◌≤◌, ◌*◌, ◌∙◌, ap, sym, subst, length, ℕ, List}
use Rattle.std.specs.Str.Lines.{lines as lines_of}
use Rattle.flow_make.specs.Lines.{text_of}
use Rattle.flow_make.specs.Input.{lines_for_one}
use Rattle.flow_make.specs.Network.{network_lines}
use Rattle.flow_make.proofs.Cut.{input_cut}
use Rattle.flow_make.proofs.Sizes.{input_size}
use Rattle.flow_make.proofs.make.Goals as goal

pub returns-clause-network : goal.returns-clause-network
unfolding text_of network_lines
returns-clause-network c = c.in_ok-network.ensures

pub returns-clause-lines : goal.returns-clause-lines
returns-clause-lines c = ap lines_of (c.of.ensures ∙ c.in_ok-input.ensures) ∙ input_cut c.args.number

pub returns-clause-short : goal.returns-clause-short
returns-clause-short c =
    let P : List ℕ → Type 0 = λ bytes. length bytes ≤ c.args.number * lines_for_one * 100 in
    subst P (sym (c.of.ensures ∙ c.in_ok-input.ensures)) (input_size c.args.number)
