-- A process goes on where it isn't over and isn't blocked.
use Rattle.std.proofs.Common.{◌≡◌, ℕ, Bool, true, false, Option, Some, refl, sym, ◌∙◌, ap, subst, slice_get}
use Rattle.std.specs.Prelude.{◌&&◌, ◌||◌, not, IfSome, option_and_then}
use Rattle.std.specs.Option.{is_none}
use Rattle.flow_model.specs.declared.Block.{Block}
use Rattle.flow_model.specs.Verdicts.{block_of}
use Rattle.flow_machine.specs.Values.{BodyValue, NetValue}
use Rattle.flow_machine.specs.Nets.{looks_of, block_at}
use Rattle.flow_model.specs.Stages.{has_ended, has_failed}
use Rattle.flow_report.specs.Of.{goes_on}

nor : (e f : Bool) → not (e || f) ≡ (not e && not f)
nor true f = refl
nor false f = refl

-- A process of the net goes on where it isn't over and nothing blocks it.
pub goes-of : {K : Type 0} (net : NetValue K) (p : ℕ) (b : BodyValue K) (over free : Bool) → slice_get net.bodies p ≡ Some b
    → over ≡ (has_ended b.process.stage || has_failed b.process.stage) → free ≡ is_none (block_at net p)
    → IfSome (slice_get net.bodies p) (λ x. (not over && free) ≡ goes_on (looks_of net.channels) x.process)
goes-of {K} net p b over free there over_is free_is =
    let looks = looks_of net.channels in
    let block : block_at net p ≡ block_of looks b.process = ap (option_and_then (λ (x : BodyValue K). block_of looks x.process)) there in
    let e = has_ended b.process.stage in
    let f = has_failed b.process.stage in
    let same : (not over && free) ≡ goes_on looks b.process =
    ap (λ (o : Bool). not o && free) over_is ∙ ap (λ (o : Bool). o && free) (nor e f) ∙ ap (λ (o : Bool). (not e && not f) && o) (free_is ∙ ap (λ (o : Option Block). is_none o) block) in
    subst (λ (o : Option (BodyValue K)). IfSome o (λ x. (not over && free) ≡ goes_on looks x.process)) (sym there) same
