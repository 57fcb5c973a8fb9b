use Rattle.std.proofs.Common.{◌≡◌, Some, length, map, refl, ap, sym, ◌∙◌, slice_get}
use Rattle.std.specs.Option.{option_and_then}
use Rattle.std.proofs.lemmas.Iterator.Adapters.{YieldsList-from_vec}
use Rattle.std.proofs.lemmas.Iterator.Consumers.{YieldsList-turn, YieldsList-end}
use Rattle.std.proofs.lemmas.Option.{slice_get_read}
use Rattle.flow_net.specs.declared.draft.DraftProcess.{DraftProcess}
use Rattle.flow_net.specs.Finishes.{process_of}
use Rattle.std.proofs.lemmas.List.{map-id}
use Rattle.flow_net.proofs.lay.processes.Goals as goal

pub process-requires : goal.process-requires
process-requires c =
    let g = c.into_iter-each-iterator.ensures.into_iter_gives in
    let t = YieldsList-turn (YieldsList-from_vec {s = c.into_iter-each-iterator.result} c.args.begun.items g.0 (g.1 ∙ c.args.begun.ok.0)) c.begun.yielded c.begun.each-iterator c.begun.yielded_by c.next.result c.next.new.self c.in-Some.each c.in-Some.is c.next.ensures.steps in
    let here : slice_get c.args.begun.items (length c.begun.yielded) ≡ Some c.in-Some.each = slice_get_read c.args.begun.items _ (length c.begun.yielded) c.in-Some.each refl t.0 t.1 in
    record { there = λ k end text at. c.requires.there (length c.begun.yielded) k end text (ap (option_and_then (λ (b : DraftProcess). slice_get b.texts k)) here ∙ at) }

pub returns : goal.returns
returns c =
    let g = c.into_iter-each-iterator.ensures.into_iter_gives in
    let t = YieldsList-end (YieldsList-from_vec {s = c.into_iter-each-iterator.result} c.args.begun.items g.0 (g.1 ∙ c.args.begun.ok.0)) c.begun.yielded c.begun.each-iterator c.begun.yielded_by c.next.result c.next.new.self c.in-None.is c.next.ensures.steps in
    c.begun.invariant ∙ ap (map (process_of c.args.draft.ports.now)) (sym (map-id c.begun.yielded) ∙ t.0)
