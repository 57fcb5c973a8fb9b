use Rattle.std.proofs.Common.{◌≡◌, ◌∙◌, ◌∷◌, ◌+◌, ◌-◌, ap, sym, take, drop, length, rules}
use Rattle.std.specs.List.{slice_split}
use Rattle.std.proofs.lemmas.List.{take_all, length-drop}
use Rattle.flow_net.proofs.Spaces.{ends, split_some, split_none}
use Rattle.flow_net.proofs.options.first_field.Goals as goal

pub returns-in-None-clause-last : goal.returns-in-None-clause-last
returns-in-None-clause-last c = split_none c.args.text.now (sym c.in-None.ensures)

pub returns-in-Some-clause-first : goal.returns-in-Some-clause-first
returns-in-Some-clause-first c =
    let w = c.args.text.now in
    let end = c.in-Some.end in
    let all : take (length w - (end + 1)) (drop (end + 1) w) ≡ drop (end + 1) w = search (rules, take_all, length-drop) in
    split_some w end (sym c.in-Some.ensures) ∙ ap (λ rest. take end w ∷ slice_split ends rest) (sym all)
