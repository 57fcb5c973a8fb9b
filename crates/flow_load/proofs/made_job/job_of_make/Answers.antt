use Rattle.std.proofs.Common.{◌≡◌, ◌∙◌, [], List, ℕ, length, sym, subst, ap}
use Rattle.flow_make.specs.Lines.{text_of}
use Rattle.flow_make.specs.Network.{network_lines}
use Rattle.flow_load.specs.Networks.{Holds}
use Rattle.flow_load.proofs.Networks.{holds-standard, never-refused}
use Rattle.flow_load.proofs.Placing.{none-takes}
use Rattle.flow_load.proofs.made_job.job_of_make.Goals as goal

pub returns-in-Err : goal.returns-in-Err
returns-in-Err g c =
    let law = c.the_made_network_has_a_plan.ensures.plan in
    let same : c.as_slice.result.now ≡ text_of network_lines = c.as_slice.ensures ∙ c.in_ok-made.ensures.network in
    never-refused [] c.as_slice.result.now law.0 law.1.0 c.in-Err.stop (subst (λ (l : List ℕ). Holds [] l law.0 law.1.0) (sym same) (holds-standard (text_of network_lines) law.0 law.1.0 law.1.1 law.1.2)) c.in-Err.ensures

pub live_components-requires-clause-parts : goal.live_components-requires-clause-parts
live_components-requires-clause-parts g c = none-takes c.in-Ok.file.plan (length c.processes.result.now) c.in_ok-parts.parts.items (ap (λ l. length l) c.processes.ensures.processes) c.in_ok-parts.ensures
