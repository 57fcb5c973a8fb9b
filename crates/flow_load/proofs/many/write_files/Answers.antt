use Rattle.std.proofs.Common.{arith, ◌≡◌, ◌<◌, [], ◌∷◌, List, length, map, get_or, refl, sym, ◌∙◌, ap, subst, add-one, Ok, Err}
use Rattle.std.proofs.lemmas.List.{get_or-map, length-map}
use Rattle.std.specs.Option.{option_map}
use Rattle.flow_text.specs.Edge.{Logged, replaced}
use Rattle.flow_load.specs.Step.{Filled, OnlyWrites, WritesFile, whole}
use Rattle.flow_load.specs.declared.many.Output.{Output}
use Rattle.flow_load.specs.Many.{output_of}
use Rattle.flow_load.proofs.Writings.{after_none, after_more, whole_more, OnlyWrites-trans, stops}
use Rattle.flow_load.proofs.Steps.{no-writes}
use Rattle.flow_load.proofs.many.write_files.Goals as goal

no_output : Output
no_output = record { name = record { ref_ptr = (0, 0); now = [] }; bytes = record { ref_ptr = (0, 0); now = [] } }

pub loop-output-init : goal.loop-output-init
loop-output-init g c = record { only = no-writes (g.F.Edge.outside c.args.shelf.now) (g.F.Edge.outside c.args.shelf.now) refl; files = after_none (map output_of c.args.outputs.now) (g.F.Edge.outside c.args.shelf.now).files }

pub loop-output-preserved : goal.loop-output-preserved
unfolding no_output
loop-output-preserved g c =
    let old = g.F.Edge.outside c.args.shelf.now in
    let mid = g.F.Edge.outside c.loop-output.shelf in
    let new = g.F.Edge.outside c.write_file.new.shelf in
    let outputs = c.args.outputs.now in
    let at = c.loop-output.output-index in
    let d : Filled = output_of (get_or outputs at no_output) in
    let lt : at < length (map output_of outputs) = omega (arith, length-map outputs output_of) in
    let is : d ≡ get_or (map output_of outputs) at d = sym (get_or-map output_of outputs at no_output d c.loop-output-test.true) in
    let w : WritesFile {T = Unit {0}} mid new (Ok tt) d = c.in-Ok.ensures in
    let i = c.loop-output.invariant in
    record {
      only = rw add-one (subst (λ (l : List Logged). OnlyWrites old new l) (whole_more (map output_of outputs) at d lt is) (OnlyWrites-trans old mid new _ (whole d ∷ []) i.only w.0));
      files = rw add-one (w.1 ∙ ap (λ told. option_map (replaced d.0 d.1) told) i.files ∙ after_more (map output_of outputs) at d old.files lt is);
    }

pub returns-in-Err : goal.returns-in-Err
unfolding no_output
returns-in-Err g c =
    let old = g.F.Edge.outside c.args.shelf.now in
    let mid = g.F.Edge.outside c.loop-output.shelf in
    let new = g.F.Edge.outside c.write_file.new.shelf in
    let outputs = c.args.outputs.now in
    let at = c.loop-output.output-index in
    let d : Filled = output_of (get_or outputs at no_output) in
    let lt : at < length (map output_of outputs) = omega (arith, length-map outputs output_of) in
    let is : d ≡ get_or (map output_of outputs) at d = sym (get_or-map output_of outputs at no_output d c.loop-output-test.true) in
    let w : WritesFile {T = Unit {0}} mid new (Err c.in-Err.why) d = c.in-Err.ensures in
    let i = c.loop-output.invariant in
    stops old mid new (map output_of outputs) at d c.in-Err.why c.write_stop.result i.only i.files lt is w c.write_stop.ensures
