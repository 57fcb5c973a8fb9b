use Rattle.std.proofs.Common.{List, Ok, Err, ap, sym, subst, ◌∙◌}
use Rattle.std.proofs.lemmas.Result.{err_from_is_err_and}
use Rattle.std.specs.List.{flat_map}
use Rattle.std.specs.declared.result.Result.{Result}
use Rattle.flow_net.specs.Drafts.{Draft}
use Rattle.flow_parse.specs.declared.value.Statement.{Statement}
use Rattle.flow_flat.specs.declared.fault.ExpandFault.{ExpandFault}
use Rattle.flow_flat.specs.Told.{empty, after_processes, AfterMeant}
use Rattle.flow_expand.specs.Outcomes.{Leaves}
use Rattle.flow_expand.specs.Tells.{main_meant, own_meant}
use Rattle.flow_expand.proofs.KindsKept.{processes_keep, meant_keep}
use Rattle.flow_expand.proofs.Telling.{meant_append}
use Rattle.flow_expand.proofs.Saying.{main_stops, subnets_stop}
use Rattle.flow_expand.proofs.plan.told.Goals as goal

pub returns-in_err-put_main-clause-told : goal.returns-in_err-put_main-clause-told
returns-in_err-put_main-clause-told c =
    let p = err_from_is_err_and c.from_residual-in_err-put_main.result c.from_residual-in_err-put_main.ensures.1 in
    let named = ap (after_processes (empty c.args.kinds.items)) (sym c.in_ok-plain.ensures.plain) ∙ ap (λ (d : Draft). after_processes d c.in_ok-plain.field-0.plain.items) (sym c.new-builder.ensures) ∙ c.in_ok-put_processes.ensures in
    rw (p.1, p.2) (main_stops c.args.text.now c.args.kinds.items c.args.list.items c.put_processes.new.builder named c.in_err-put_main.field-0.0 c.put_main.new.builder c.in_err-put_main.ensures)

pub returns-in_err-put_subnets-clause-told : goal.returns-in_err-put_subnets-clause-told
returns-in_err-put_subnets-clause-told c =
    let p = err_from_is_err_and c.from_residual-in_err-put_subnets.result c.from_residual-in_err-put_subnets.ensures.1 in
    let named = ap (after_processes (empty c.args.kinds.items)) (sym c.in_ok-plain.ensures.plain) ∙ ap (λ (d : Draft). after_processes d c.in_ok-plain.field-0.plain.items) (sym c.new-builder.ensures) ∙ c.in_ok-put_processes.ensures in
    rw (p.1, p.2) (subnets_stop c.args.text.now c.args.kinds.items c.args.list.items c.put_processes.new.builder named c.in_err-put_subnets.field-0.0 c.put_main.new.builder c.put_subnets.new.builder c.in_ok-put_main.ensures
    (subst (λ (l : List (Result Statement ExpandFault)). Leaves (Err c.in_err-put_subnets.field-0.0) c.put_subnets.new.builder (λ outcome. AfterMeant c.put_main.new.builder l outcome)) c.in_ok-plain.ensures.meant c.in_err-put_subnets.ensures))

pub returns-clause-told : goal.returns-clause-told
returns-clause-told c =
    let named = ap (after_processes (empty c.args.kinds.items)) (sym c.in_ok-plain.ensures.plain) ∙ ap (λ (d : Draft). after_processes d c.in_ok-plain.field-0.plain.items) (sym c.new-builder.ensures) ∙ c.in_ok-put_processes.ensures in
    let rest = subst (λ (l : List (Result Statement ExpandFault)). AfterMeant c.put_main.new.builder l (Ok c.put_subnets.new.builder)) c.in_ok-plain.ensures.meant c.in_ok-put_subnets.ensures in
    (c.put_processes.new.builder, named, meant_append (main_meant c.args.text.now) (flat_map (own_meant c.args.text.now) c.args.list.items) c.put_processes.new.builder c.put_main.new.builder (Ok c.put_subnets.new.builder) c.in_ok-put_main.ensures rest)

pub returns-clause-kinds : goal.returns-clause-kinds
returns-clause-kinds c =
    meant_keep (flat_map (own_meant c.args.text.now) c.in_ok-plain.field-0.subnets.items) c.put_main.new.builder c.put_subnets.new.builder c.in_ok-put_subnets.ensures
    ∙ meant_keep (main_meant c.args.text.now) c.put_processes.new.builder c.put_main.new.builder c.in_ok-put_main.ensures
    ∙ processes_keep c.in_ok-plain.field-0.plain.items c.new-builder.result c.put_processes.new.builder c.in_ok-put_processes.ensures
    ∙ ap (λ (d : Draft). d.kinds) c.new-builder.ensures
