use Rattle.std.proofs.Common.{◌≡◌, ◌∙◌, ◌++◌, [], ◌∷◌, ◌-◌, sym, ap, arith, ℕ, List, Option, None, map, take, replicate}
use Rattle.std.proofs.Math.Seq.{take-nil}
use Rattle.std.proofs.lemmas.List.{map_more, take_all}
use Rattle.flow_plan.specs.declared.plan.Process.{Process}
use Rattle.flow_machine.proofs.WireLemmas.{empty_row, rows-none}
use Rattle.flow_machine.proofs.wires.unwired.Goals as goal

pub loop-process-preserved : goal.loop-process-preserved
loop-process-preserved c =
    let x : Process = c.process-item.result in
    let n : ℕ = c.ports_of-ports.result in
    let one : c.of.result ≡ empty_row c.args.input x =
    c.of.ensures ∙ c.in_ok-resize.ensures.items ∙ (λ i. take {A = Option ℕ} n (c.new-row.ensures.items i) ++ replicate {A = Option ℕ} (n - c.new-row.ensures.len i) None) ∙ ap (λ (m : ℕ). take {A = Option ℕ} n [] ++ replicate {A = Option ℕ} m None) (let e : n - 0 ≡ n = omega arith in e)
    ∙ ap (λ (r : List (Option ℕ)). r ++ replicate {A = Option ℕ} n None) (take-nil n) ∙ ap (λ (m : ℕ). replicate {A = Option ℕ} m None) c.ports_of-ports.ensures in
    c.in_ok-push.ensures.items ∙ (λ i. c.loop-process.invariant i ++ (one ∙ ap (empty_row c.args.input) c.process-item.is) i ∷ []) ∙ sym (map_more (empty_row c.args.input) c.args.processes.now c.loop-process.process-index x c.loop-process-test.true)

pub returns : goal.returns
returns c = rows-none c.args.input c.args.processes.now c.loop-process.rows.items (c.loop-process.invariant ∙ ap (map (empty_row c.args.input)) (take_all c.loop-process.process-index c.args.processes.now c.loop-process-test.false))
