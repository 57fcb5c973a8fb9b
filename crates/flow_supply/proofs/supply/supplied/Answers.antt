use Rattle.std.proofs.Common.{◌≡◌, ◌∙◌, ℕ, List, subst, sym}
use Rattle.flow_plan.specs.declared.kind.KindSpec.{KindSpec}
use Rattle.flow_plan.specs.Network.{Network}
use Rattle.flow_parse.specs.declared.value.NetText.{NetText}
use Rattle.flow_offer.specs.Shares.{FindsPart}
use Rattle.flow_load.specs.Networks.{Holds}
use Rattle.flow_load.specs.Offers.{counts_of, parts_in}
use Rattle.flow_supply.specs.Made.{AreMade, counts_wanted}
use Rattle.flow_supply.proofs.Supplying.{if-ok, same-counts}
use Rattle.flow_supply.proofs.supply.supplied.Goals as goal

pub returns-clause-many : goal.returns-clause-many
returns-clause-many g c =
    let parts = c.in_ok-parts.parts.items in
    let many = subst (λ (own : List KindSpec). (text : NetText) (plan : Network) → Holds own c.args.net.now text plan → counts_of parts ≡ counts_wanted own plan) c.deref.ensures.value c.in_ok-parts.ensures.many in
    if-ok c.with_parts.result (λ kinds same text plan holds. sym (same-counts kinds.items parts same) ∙ many text plan holds) c.with_parts.ensures.parts

pub returns-clause-made : goal.returns-clause-made
returns-clause-made g c =
    let parts = c.in_ok-parts.parts.items in
    let made = subst (λ (own : List KindSpec). (text : NetText) (plan : Network) → Holds own c.args.net.now text plan → AreMade g.M.Maker.makes c.args.maker.now own plan (parts_in parts)) c.deref.ensures.value c.in_ok-parts.ensures.made in
    if-ok c.with_parts.result (λ kinds same text plan holds. subst (λ (l : List (List _)). AreMade g.M.Maker.makes c.args.maker.now c.args.own.items plan l) (sym same) (made text plan holds)) c.with_parts.ensures.parts

pub returns-clause-enough : goal.returns-clause-enough
returns-clause-enough g c =
    let parts = c.in_ok-parts.parts.items in
    let enough = subst (λ (own : List KindSpec). (text : NetText) (plan : Network) → Holds own c.args.net.now text plan → (p : ℕ) → FindsPart own (counts_of parts) plan p) c.deref.ensures.value c.in_ok-parts.ensures.enough in
    if-ok c.with_parts.result (λ kinds same text plan holds p. subst (λ (l : List ℕ). FindsPart c.args.own.items l plan p) (same-counts kinds.items parts same) (enough text plan holds p)) c.with_parts.ensures.parts
