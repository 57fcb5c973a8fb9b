use Rattle.std.proofs.Common.{◌+◌, ◌∙◌, nat_eq, get_or, sym, ap}
use Rattle.std.proofs.lemmas.List.{drop_more}
use Rattle.std.proofs.lemmas.Option.{get_or_from_slice_get}
use Rattle.flow_plan.specs.declared.plan.Sender.{Sender}
use Rattle.flow_floor.specs.Plans.{is_followed}
use Rattle.flow_floor.proofs.wake.is_followed.Goals as goal

pub returns-then-i-senders : goal.returns-then-i-senders
returns-then-i-senders g s = λ at. let senders = g.args.senders.now in let i = g.args.i in let none : Sender = record { process = 0; output = 0 } in
    ap (λ (x : Sender). nat_eq (get_or senders (i + 1) none).process x.process) (get_or_from_slice_get senders i s none at) ∙ sym (ap (is_followed s.process) (drop_more senders (i + 1) none g.if-i-senders.true))
