use Rattle.std.proofs.Common.{◌++◌, ◌∷◌, [], length, length-append, append-nil, append_assoc, arith, sym, ap, ◌∙◌}
use Rattle.flow_runner.specs.Fair.{placed}
use Rattle.flow_runner.proofs.Fairs.{pops, learns}
use Rattle.flow_runner.proofs.Told.{few-left, none-left, taken-fewer, taken-next}
use Rattle.flow_runner.proofs.line.Line.drain.Goals as goal

pub pop_as-requires-clause-rule : goal.pop_as-requires-clause-rule
pop_as-requires-clause-rule g c = let i = c.loop.invariant in (pops _ _ (omega (arith, i.alone)), learns _ _)

pub loop-init : goal.loop-init
loop-init g c = let p = c.requires.pass in let e = c.learn_as.ensures in let same = e.queue.1 in let line = c.args.self in
    let few = few-left _ e.rule p.1 in
    record {
      queue = (e.queue.0.0 ∙ p.0.0.0, e.queue.0.2 ∙ p.0.0.1);
      alone = ap (λ v. v.parts) same ∙ p.1;
      put = ap (λ v. v.put) same;
      taken = (few.0, few.1, ap (λ v. v.taken) same ∙ few.1 ∙ ap (placed 0) (sym (append-nil few.0) ∙ ap (λ xs. few.0 ++ xs) (sym line.empty)), omega (arith, few.2, p.0.2));
      room = line.room;
    }

pub push_reserved-requires : goal.push_reserved-requires
push_reserved-requires g c = let i = c.loop.invariant in let t = i.taken in let l = taken-fewer _ _ _ (t.0 ++ c.loop.left.items) c.in-Some-pop_as.ensures.rule i.alone t.2 in
    omega (arith, l, ap (λ xs. length xs) i.put, length-append t.0 c.loop.left.items, t.3, i.room)

pub loop-preserved : goal.loop-preserved
loop-preserved g c = let i = c.loop.invariant in let e = c.pop_as.ensures.queue in let rule = c.in-Some-pop_as.ensures.rule in let now = rule.3 in let x = c.in-Some-pop_as.process in let more = c.push_reserved.ensures in let t = i.taken in record {
  queue = (e.0 ∙ i.queue.0, e.2 ∙ i.queue.1);
  alone = ap (λ v. v.parts) now ∙ i.alone;
  put = ap (λ v. v.put) now ∙ i.put;
  taken = (t.0, t.1, taken-next _ _ x (t.0 ++ c.loop.left.items) rule i.alone t.2 ∙ ap (placed 0) (append_assoc t.0 c.loop.left.items (x ∷ []) ∙ ap (λ xs. t.0 ++ xs) (sym more.items)), t.3);
  room = omega (arith, i.room, more.capacity);
}

pub returns-in-None-pop_as : goal.returns-in-None-pop_as
returns-in-None-pop_as g c = let i = c.loop.invariant in let t = i.taken in (t.0, t.1, sym i.put ∙ none-left _ c.in-None-pop_as.ensures.rule.1 i.alone ∙ t.2)
