use Rattle.std.proofs.Common.{◌≡◌, ◌<◌, ◌++◌, ◌∙◌, Some, Ok, Err, true, ap, List, ℕ, Vec, Global, IfOk, slice_get, length}
use Rattle.std.specs.declared.result.Result.{Result}
use Rattle.std.specs.declared.alloc.AllocError.{AllocError}
use Rattle.std.specs.Option.{option_map}
use Rattle.flow_plan.specs.declared.plan.PortRow.{PortRow}
use Rattle.flow_plan.specs.Network.{elements_of, spelled, spelled_element}
use Rattle.flow_plan.proofs.PortNames.{spelled-array}
use Rattle.flow_plan.proofs.names.element_name.Goals as goal

spelled-if_ok : (row : PortRow) (e : ℕ) (name : List ℕ) (r : Result (Vec ℕ Global) AllocError) → e < length (elements_of row) → row.spec.array ≡ true → name ≡ row.spec.name → IfOk r (λ v. v.items ≡ name ++ spelled_element (Some e)) → IfOk r (λ v. option_map spelled (slice_get (elements_of row) e) ≡ Some v.items)
spelled-if_ok row e name (Ok v) within array same is = spelled-array row e v.items within array (is ∙ ap (λ (n : List ℕ). n ++ spelled_element (Some e)) same)
spelled-if_ok row e name (Err stop) within array same is = is

pub returns-then-row : goal.returns-then-row
returns-then-row c =
    spelled-if_ok c.args.row.now c.args.element c.as_slice-name.result.now c.array_name.result c.requires c.if-row.true c.as_slice-name.ensures c.array_name.ensures
