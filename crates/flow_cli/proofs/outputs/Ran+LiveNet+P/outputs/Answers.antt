use Rattle.std.proofs.Common.{◌≡◌, ◌≤◌, ◌<◌, ◌∙◌, List, [], ◌∷◌, ◌++◌, length, map, ap, sym, arith, add-one, Vec}
use Rattle.std.specs.declared.alloc.Global.{Global}
use Rattle.std.specs.Prelude.{slice_get}
use mathlib.Core.List.{append-nil}
use Rattle.std.proofs.lemmas.List.{map-append, take_all}
use Rattle.flow_load.specs.Many.{output_of}
use Rattle.flow_load.specs.declared.many.Output.{Output}
use Rattle.flow_cli.specs.Leaves.{bytes_at}
use Rattle.flow_load.specs.Runs.{outputs_from}
use Rattle.flow_cli.proofs.Written.{one-more, no-output, one-output}
use Rattle.flow_cli.proofs.outputs.Ran+LiveNet+P.outputs.Goals as goal
use Rattle.flow_cli.proofs.outputs.Ran+LiveNet+P.outputs.Goals.{in-None, in-Some+in_ok-push-in-Some}

pub returns : goal.returns
returns g c =
    let processes = c.args.self.now.plan.processes in
    let same = ap length c.processes-process-end.ensures.processes in
    let le : length processes ≤ c.loop-process.process = omega arith in
    c.loop-process.invariant ∙ ap (λ xs. outputs_from (bytes_at c.args.self.now.net.bodies) 0 xs) (take_all c.loop-process.process processes le)

pub loop-process-preserved : goal.loop-process-preserved
loop-process-preserved g c =
    let bodies = c.args.self.now.net.bodies in
    let ps = c.args.self.now.plan.processes in
    let k = c.loop-process.process in
    let before = map output_of c.loop-process.outputs.items in
    let after = map output_of c.match-written_name.outputs.items in
    let same = ap length c.processes-process-end.ensures.processes in
    let lt : k < length ps = omega arith in
    rw add-one (elim c.match-written_name.branch [
      | in-None w ↦
          let kept : after ≡ before = ap (λ (v : Vec Output Global). map output_of v.items) w.outputs-is in
          one-more (bytes_at bodies) ps k before after [] lt (no-output (bytes_at bodies) k (slice_get ps k) w.in-None.ensures.none) c.loop-process.invariant (kept ∙ sym (append-nil before))
      | in-Some+in_ok-push-in-Some w ↦
          let name = w.in-Some.name.now in
          let bytes = w.written_at-bytes.result.now in
          let new : Output = record { name = w.in-Some.name; bytes = w.written_at-bytes.result } in
          let pushed : after ≡ map output_of (c.loop-process.outputs.items ++ new ∷ []) =
          ap (λ (v : Vec Output Global). map output_of v.items) w.outputs-is
          ∙ ap (λ (l : List Output). map output_of l) w.in_ok-push-in-Some.ensures.items in
          one-more (bytes_at bodies) ps k before after ((name, bytes) ∷ []) lt
          (one-output (bytes_at bodies) k (slice_get ps k) name bytes w.written_at-bytes.ensures w.in-Some.ensures.some)
          c.loop-process.invariant (pushed ∙ map-append output_of c.loop-process.outputs.items (new ∷ []))
    ])
