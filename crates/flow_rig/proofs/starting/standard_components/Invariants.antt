use Rattle.std.proofs.Common.{◌≡◌, length}
use Rattle.std.specs.Prelude.{Some, slice_get, ℕ}
use Rattle.flow_catalogue.specs.declared.standard.Std.{Std}
use Rattle.flow_rig.specs.Networks.{HasComponent}
use Rattle.flow_rig.proofs.starting.standard_components.Given as goal

abbrev pub invariant-loop-process : goal.invariant-loop-process
invariant-loop-process l = record {
  count : length l.components.items ≡ l.process;
  made : (p : ℕ) (component : Std) → slice_get l.components.items p ≡ Some component → HasComponent l.fn.bytes l.fn.plan p component;
}
