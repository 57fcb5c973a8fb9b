use Rattle.std.proofs.Common.{◌≡◌, ℕ, ◌+◌, List, sym, subst, ◌∙◌, take}
use Rattle.std.specs.Prelude.{position}
use Rattle.std.specs.Str.{bytes_eq}
use Rattle.flow_parse.specs.declared.names.Names.{Names}
use Rattle.flow_parse.specs.declared.value.NetPart.{NetPart}
use Rattle.flow_parse.specs.Places.{place_in}
use Rattle.flow_expand.proofs.Indexing.{new_name, old_name, is_none}
use Rattle.flow_expand.proofs.indexed.subnet_names.Goals as goal
use Rattle.flow_expand.proofs.indexed.subnet_names.Goals.{then-is_none+in_ok-put, else-is_none}

pub subnets-preserved : goal.subnets-preserved
subnets-preserved c = elim c.if-is_none.branch [
  | then-is_none+in_ok-put w ↦ λ name. subst (λ (n : Names). place_in n.places name ≡ position (λ (s : List ℕ × NetPart). bytes_eq s.0 name) (take (c.subnets.place + 1) c.as_slice-subnets.result.now)) (sym w.names-is)
      (new_name c.as_slice-subnets.result.now c.subnets.place c.index-subnets-place.result c.as_slice-name.result.now (place_in c.subnets.names.places) c.as_slice-name.ensures c.subnets-test.true c.index-subnets-place.is c.subnets.invariant
      (place_in w.put.new.self.places) (sym c.place.ensures ∙ is_none c.place.result w.if-is_none.ensures) w.in_ok-put.ensures.ok name)
  | else-is_none w ↦ λ name. subst (λ (n : Names). place_in n.places name ≡ position (λ (s : List ℕ × NetPart). bytes_eq s.0 name) (take (c.subnets.place + 1) c.as_slice-subnets.result.now)) (sym w.names-is)
      (old_name c.as_slice-subnets.result.now c.subnets.place c.index-subnets-place.result c.as_slice-name.result.now (place_in c.subnets.names.places) c.as_slice-name.ensures c.subnets-test.true c.index-subnets-place.is c.subnets.invariant
      c.place.result (sym c.place.ensures) w.if-is_none.ensures name)
]
