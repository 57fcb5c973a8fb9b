use Rattle.std.proofs.Common.{◌≡◌, ◌∙◌, List, None, ap, subst, sym}
use Rattle.flow_plan.specs.declared.kind.PortSpec.{PortSpec}
use Rattle.flow_catalogue.specs.Rows.{HasOptions, option_at}
use Rattle.flow_supply.specs.Options.{Wanted, port_place}
use Rattle.flow_supply.proofs.Options.{given, named-at, unnamed}
use Rattle.flow_supply.proofs.asked.Asked.text.Goals as goal

pub returns-in-Some-clause-text : goal.returns-in-Some-clause-text
returns-in-Some-clause-text c =
    let ports : c.as_slice.result.now ≡ c.args.self.now.kind.inputs = c.as_slice.ensures ∙ ap (λ (w : Wanted). w.kind.inputs) c.self.view_is in
    let place = ap (λ (l : List PortSpec). port_place l c.args.name.now) (sym ports) ∙ sym c.place_of.ensures ∙ c.in-Some.is in
    c.option_at.ensures ∙ ap (λ (w : Wanted). option_at c.in-Some.place w.options) c.self.view_is ∙ sym (named-at c.args.self.now c.args.name.now c.in-Some.place place)

pub returns-in-Some-clause-given : goal.returns-in-Some-clause-given
returns-in-Some-clause-given c =
    given c.args.self.now c.args.name.now _ (subst (λ (w : Wanted). HasOptions w.kind.inputs w.options) c.self.view_is c.self.invariant) (returns-in-Some-clause-text c)

pub returns-in-None-clause-given : goal.returns-in-None-clause-given
returns-in-None-clause-given c =
    let ports : c.as_slice.result.now ≡ c.args.self.now.kind.inputs = c.as_slice.ensures ∙ ap (λ (w : Wanted). w.kind.inputs) c.self.view_is in
    let place : port_place c.args.self.now.kind.inputs c.args.name.now ≡ None = ap (λ (l : List PortSpec). port_place l c.args.name.now) (sym ports) ∙ sym c.place_of.ensures ∙ c.in-None.is in
    given c.args.self.now c.args.name.now None (subst (λ (w : Wanted). HasOptions w.kind.inputs w.options) c.self.view_is c.self.invariant) (sym (unnamed c.args.self.now c.args.name.now place))
