use Rattle.std.proofs.Common.{◌≡◌, ℕ, Bool, true, List, sym, ap, subst, ◌∙◌}
use Rattle.std.specs.declared.result.Result.{Result}
use Rattle.flow_limits.specs.declared.TheConstants.{TEXT_LIMIT}
use Rattle.flow_packet.specs.declared.packet.Kind.TheVariants.{Normal}
use Rattle.flow_packet.specs.Hands.{Holding, text_at}
use Rattle.flow_packet.specs.Held.{held_of}
use Rattle.flow_component.specs.declared.Answer.TheVariants.{Sent}
use Rattle.flow_component.specs.declared.Stop.{Stop}
use Rattle.flow_component.specs.declared.Wish.{Wish}
use Rattle.flow_component.specs.Resumes.{Resumes}
use Rattle.flow_component.proofs.Dropping.{Resumes-weaker}
use Rattle.flow_pattern.specs.Pattern.{Replacement, matches, replaced}
use Rattle.flow_pattern.specs.Rewriting.{IsRewritten}
use Rattle.flow_pattern.specs.declared.replacer.Rewritten.{Rewritten}
use Rattle.flow_match.specs.Replace.{renews, rewrites, comes}
use Rattle.flow_match.proofs.replacing.Replace.take.Goals as goal

-- To renew a packet in whose text the pattern matches is what comes of it.
renewed : (state state' : Replacement) (hands hands' : Holding) (id : ℕ) (text : List ℕ) (result : Result Wish Stop) → matches state.pattern (text_at hands.packets id) ≡ true
    → text ≡ replaced state.pattern state.with (text_at hands.packets id) → Resumes (λ s h x o. o ≡ renews s h id text) state hands Sent result state' hands'
    → Resumes (λ s h x o. o ≡ comes s h id Normal) state hands Sent result state' hands'
renewed state state' hands hands' id text result found is =
    let held = held_of hands in
    Resumes-weaker (λ s h x o. o ≡ renews s h id text) (λ s h x o. o ≡ comes s h id Normal) state hands Sent Sent result state' hands'
    (λ outcome r. r ∙ ap (renews state held id) is ∙ sym (ap (λ (b : Bool). rewrites b state held id (text_at held.packets id)) found))

pub returns-in-Ok-New : goal.returns-in-Ok-New
returns-in-Ok-New c =
    let text = text_at c.args.hands.now.packets c.args.packet in
    let told = subst (λ (r : Rewritten). IsRewritten c.replaced.new.self text TEXT_LIMIT r) c.in-Ok-New.field-0-is
    (subst (λ (s : Replacement). IsRewritten s text TEXT_LIMIT c.in-Ok-New.field-0) (sym c.replaced.ensures.same)
    (subst (λ (t : List ℕ). IsRewritten c.deref_mut.result.now t TEXT_LIMIT c.in-Ok-New.field-0) c.text.ensures.text c.in-Ok-New.ensures.rewritten)) in
    subst (λ (s : Replacement). Resumes (λ s h x o. o ≡ comes s h c.args.packet Normal) s c.args.hands.now Sent c.renew.result c.renew.new.self c.renew.new.hands)
    (c.replaced.ensures.same ∙ c.deref_mut.ensures.value ∙ c.self.view_is)
    (renewed c.replaced.new.self c.renew.new.self c.args.hands.now c.renew.new.hands c.args.packet c.in-Ok-New.text.items c.renew.result told.0 told.1.0 c.renew.ensures)
