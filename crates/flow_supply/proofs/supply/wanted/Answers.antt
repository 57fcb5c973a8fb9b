use Rattle.std.proofs.Common.{◌≡◌, ℕ, subst}
use Rattle.flow_plan.specs.Network.{Network}
use Rattle.flow_offer.specs.Shares.{FindsPart}
use Rattle.flow_load.specs.Offers.{counts_of, parts_in}
use Rattle.flow_load.proofs.Networks.{never-refused}
use Rattle.flow_supply.specs.Made.{AreMade, counts_wanted}
use Rattle.flow_supply.proofs.Supplying.{if-ok, the-plan}
use Rattle.flow_supply.proofs.supply.wanted.Goals as goal

pub returns-in-Ok-clause-many : goal.returns-in-Ok-clause-many
returns-in-Ok-clause-many g c =
    if-ok c.parts_of_plan.result
    (λ parts many text plan holds. subst (λ (n : Network). counts_of parts.items ≡ counts_wanted c.args.own.now n) (the-plan c.args.own.now c.args.net.now c.in-Ok.file text plan c.in-Ok.ensures holds) many)
    c.parts_of_plan.ensures.many

pub returns-in-Ok-clause-made : goal.returns-in-Ok-clause-made
returns-in-Ok-clause-made g c =
    if-ok c.parts_of_plan.result
    (λ parts made text plan holds. subst (λ (n : Network). AreMade g.M.Maker.makes c.args.maker.now c.args.own.now n (parts_in parts.items)) (the-plan c.args.own.now c.args.net.now c.in-Ok.file text plan c.in-Ok.ensures holds) made)
    c.parts_of_plan.ensures.made

pub returns-in-Ok-clause-enough : goal.returns-in-Ok-clause-enough
returns-in-Ok-clause-enough g c =
    if-ok c.parts_of_plan.result
    (λ parts enough text plan holds. subst (λ (n : Network). (p : ℕ) → FindsPart c.args.own.now (counts_of parts.items) n p) (the-plan c.args.own.now c.args.net.now c.in-Ok.file text plan c.in-Ok.ensures holds) enough)
    c.parts_of_plan.ensures.enough

pub returns-in-Err-clause-many : goal.returns-in-Err-clause-many
returns-in-Err-clause-many g c =
    if-ok c.without_parts.result (λ parts refused text plan holds. absurd (refused (never-refused c.args.own.now c.args.net.now text plan c.in-Err.stop holds c.in-Err.ensures))) c.without_parts.ensures.refused

pub returns-in-Err-clause-made : goal.returns-in-Err-clause-made
returns-in-Err-clause-made g c =
    if-ok c.without_parts.result (λ parts refused text plan holds. absurd (refused (never-refused c.args.own.now c.args.net.now text plan c.in-Err.stop holds c.in-Err.ensures))) c.without_parts.ensures.refused

pub returns-in-Err-clause-enough : goal.returns-in-Err-clause-enough
returns-in-Err-clause-enough g c =
    if-ok c.without_parts.result (λ parts refused text plan holds. absurd (refused (never-refused c.args.own.now c.args.net.now text plan c.in-Err.stop holds c.in-Err.ensures))) c.without_parts.ensures.refused
