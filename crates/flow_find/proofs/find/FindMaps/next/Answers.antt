use Rattle.std.proofs.Common.{◌≡◌, subst, ap, ◌∙◌}
use Rattle.flow_pattern.specs.Pattern.{Replacement}
use Rattle.flow_map.specs.Mapping.{Over}
use Rattle.flow_map.specs.Telling.{Tells}
use Rattle.flow_find.specs.Find.{sends_match, find_next}
use Rattle.flow_find.proofs.Telling.{find_tells}
use Rattle.flow_find.proofs.find.FindMaps.next.Goals as goal

pub returns-clause-told : goal.returns-clause-told
returns-clause-told c =
    let text = c.args.text.now in
    subst (λ (by : Replacement). Tells text c.more.result (find_next by text c.args.place)) (c.deref_mut.ensures.value ∙ c.self.view_is)
    (find_tells c.deref_mut.result.now text c.args.place c.in-Some.made c.in-Some.end c.more.result (rw c.in-Some.is at c.in_ok-made.ensures.filled) (c.more.ensures text))

pub returns-in_default-clause-told : goal.returns-in_default-clause-told
returns-in_default-clause-told c =
    let text = c.args.text.now in
    subst (λ (by : Replacement). find_next by text c.args.place ≡ Over) (c.deref_mut.ensures.value ∙ c.self.view_is)
    (ap (sends_match c.deref_mut.result.now text) (rw c.in_default.is at c.in_ok-made.ensures.filled))
