use Rattle.std.proofs.Common.{ℕ, List, [], ◌∷◌, ◌++◌, length, refl, ap, sym, ◌∙◌, arith}
use Rattle.std.proofs.lemmas.Iterator.Adapters.{YieldsList-from_vec}
use Rattle.std.proofs.lemmas.Iterator.Consumers.{YieldsList-turn, YieldsList-end}
use Rattle.std.proofs.lemmas.Option.{slice_get_read}
use Rattle.std.proofs.lemmas.List.{map-id}
use Rattle.flow_net.specs.Finishes.{options_of, initials_of}
use Rattle.flow_net.proofs.Given.{option_not, initial_too, option_too, initial_not}
use Rattle.flow_net.proofs.lay.given.Goals as goal

pub texts-preserved : goal.texts-preserved
texts-preserved c =
    let i = c.texts.invariant in (
      c.in_ok-push-2.ensures.items ∙ ap (λ (l : List (ℕ × List ℕ)). l ++ (c.place_at.result, c.in-Some.text) ∷ []) i.0 ∙ ap (λ (n : ℕ). options_of c.args.draft.ports.now c.texts.yielded ++ (n, c.in-Some.text) ∷ []) c.place_at.ensures ∙ sym (option_too c.args.draft.ports.now c.in-Some.end c.in-Some.text c.texts.yielded (sym c.if-is_stream_at.ensures)),
      i.1 ∙ sym (initial_not c.args.draft.ports.now c.in-Some.end c.in-Some.text c.texts.yielded (sym c.if-is_stream_at.ensures)),
    )

pub texts-preserved-in-Continue-1 : goal.texts-preserved-in-Continue-1
texts-preserved-in-Continue-1 c =
    let i = c.texts.invariant in (
      i.0 ∙ sym (option_not c.args.draft.ports.now c.in-Some.end c.in-Some.text c.texts.yielded (sym c.if-is_stream_at.ensures)),
      c.in_ok-push.ensures.items ∙ ap (λ (l : List (ℕ × List ℕ)). l ++ (c.number.result, c.in-Some.text) ∷ []) i.1 ∙ ap (λ (n : ℕ). initials_of c.args.draft.ports.now c.texts.yielded ++ (n, c.in-Some.text) ∷ []) c.number.ensures ∙ sym (initial_too c.args.draft.ports.now c.in-Some.end c.in-Some.text c.texts.yielded (sym c.if-is_stream_at.ensures)),
    )

pub number-requires-clause-there : goal.number-requires-clause-there
number-requires-clause-there c =
    let g = c.into_iter-end-iterator.ensures.into_iter_gives in
    let t = YieldsList-turn (YieldsList-from_vec {s = c.into_iter-end-iterator.result} c.args.texts.items g.0 (g.1 ∙ c.args.texts.ok.0)) c.texts.yielded c.texts.end-iterator c.texts.yielded_by c.next.result c.next.new.self (c.in-Some.end, c.in-Some.text) c.in-Some.is c.next.ensures.steps in
    (c.requires.there (length c.texts.yielded) c.in-Some.end c.in-Some.text (slice_get_read c.args.texts.items _ (length c.texts.yielded) (c.in-Some.end, c.in-Some.text) refl t.0 t.1)).port

pub number-requires-clause-element : goal.number-requires-clause-element
number-requires-clause-element c =
    let g = c.into_iter-end-iterator.ensures.into_iter_gives in
    let t = YieldsList-turn (YieldsList-from_vec {s = c.into_iter-end-iterator.result} c.args.texts.items g.0 (g.1 ∙ c.args.texts.ok.0)) c.texts.yielded c.texts.end-iterator c.texts.yielded_by c.next.result c.next.new.self (c.in-Some.end, c.in-Some.text) c.in-Some.is c.next.ensures.steps in
    let placed = c.requires.there (length c.texts.yielded) c.in-Some.end c.in-Some.text (slice_get_read c.args.texts.items _ (length c.texts.yielded) (c.in-Some.end, c.in-Some.text) refl t.0 t.1) in
    let element = placed.element in omega (arith, element)

pub returns-clause-options : goal.returns-clause-options
returns-clause-options c =
    let g = c.into_iter-end-iterator.ensures.into_iter_gives in
    let t = YieldsList-end (YieldsList-from_vec {s = c.into_iter-end-iterator.result} c.args.texts.items g.0 (g.1 ∙ c.args.texts.ok.0)) c.texts.yielded c.texts.end-iterator c.texts.yielded_by c.next.result c.next.new.self c.in-None.is c.next.ensures.steps in
    c.texts.invariant.0 ∙ ap (options_of c.args.draft.ports.now) (sym (map-id c.texts.yielded) ∙ t.0)

pub returns-clause-initials : goal.returns-clause-initials
returns-clause-initials c =
    let g = c.into_iter-end-iterator.ensures.into_iter_gives in
    let t = YieldsList-end (YieldsList-from_vec {s = c.into_iter-end-iterator.result} c.args.texts.items g.0 (g.1 ∙ c.args.texts.ok.0)) c.texts.yielded c.texts.end-iterator c.texts.yielded_by c.next.result c.next.new.self c.in-None.is c.next.ensures.steps in
    c.texts.invariant.1 ∙ ap (initials_of c.args.draft.ports.now) (sym (map-id c.texts.yielded) ∙ t.0)
