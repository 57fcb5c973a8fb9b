use Rattle.std.proofs.Common.{List, length, inl, refl, sym, ap, subst, ◌∙◌}
use Rattle.flow_plan.specs.declared.kind.KindSpec.{KindSpec}
use Rattle.flow_load.specs.Offers.{AreOffered, offers_of}
use Rattle.flow_cli.proofs.Beginnings.{as-many}
use Rattle.flow_cli.proofs.top.plain_top_past.Goals as goal

pub returns-in_default-clause-promises : goal.returns-in_default-clause-promises
returns-in_default-clause-promises g c =
    c.conclude.ensures.promises (offers_of c.args.own.items) c.args.words.now (g.F.Edge.outside c.args.shelf.now) (λ recorded empty. inl (record { nothing = empty; files = refl; created = refl }))

pub returns-in_default-clause-crew : goal.returns-in_default-clause-crew
returns-in_default-clause-crew g c =
    c.conclude.ensures.crew (offers_of c.args.own.items) c.args.words.now (g.F.Edge.outside c.args.shelf.now) (λ recorded empty. inl (record { nothing = empty; files = refl; created = refl }))

pub perform_alone-done-requires-clause-parts : goal.perform_alone-done-requires-clause-parts
perform_alone-done-requires-clause-parts g c = as-many (offers_of c.args.own.items) c.in-Ok.kinds.items c.in-Ok.parts.items c.in-Ok.ensures.offered ∙ ap (λ l. length l) (sym c.deref.ensures.value)

pub returns-clause-promises : goal.returns-clause-promises
returns-clause-promises g c =
    let own = offers_of c.args.own.items in
    let offered = subst (λ (kinds : List KindSpec). AreOffered own kinds c.in-Ok.parts.items) (sym c.deref.ensures.value) c.in-Ok.ensures.offered in
    c.conclude-2.ensures.promises own c.args.words.now (g.F.Edge.outside c.args.shelf.now) (c.perform_alone-done.ensures own offered)

pub returns-clause-crew : goal.returns-clause-crew
returns-clause-crew g c =
    let own = offers_of c.args.own.items in
    let offered = subst (λ (kinds : List KindSpec). AreOffered own kinds c.in-Ok.parts.items) (sym c.deref.ensures.value) c.in-Ok.ensures.offered in
    c.conclude-2.ensures.crew own c.args.words.now (g.F.Edge.outside c.args.shelf.now) (c.perform_alone-done.ensures own offered)
