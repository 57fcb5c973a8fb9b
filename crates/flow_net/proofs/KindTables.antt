-- What a table of kinds says of each, and the draft that holds nothing.
use Rattle.flow_limits.specs.declared.TheConstants.{PORT_LIMIT}
use Rattle.std.proofs.Common.{◌≡◌, ℕ, List, [], ◌∷◌, Option, Some, None, Bool, true, false, ap, sym, subst, refl, ◌∙◌, zero, suc, slice_get, length, arith}
use Rattle.std.specs.Prelude.{nat_le, not, if◌then◌else◌}
use Rattle.std.specs.List.{list_all}
use Rattle.std.proofs.lemmas.Bool.Decides.{nat_tests}
use Rattle.std.proofs.lemmas.Bool.{false≢true}
use Rattle.flow_plan.specs.declared.kind.KindSpec.{KindSpec}
use Rattle.flow_plan.specs.declared.kind.PortSpec.{PortSpec}
use Rattle.flow_net.specs.Kinds.{is_kind, is_table, is_input, takes_texts, is_needed_array}
use Rattle.flow_plan.specs.Network.{is_stream}
use Rattle.flow_net.specs.Sound.{IsKind, IsSound}
use Rattle.flow_net.proofs.Ends.{and_true}

all_pass : {X : Type 0} (p : X → Bool) (xs : List X) → list_all p xs ≡ true → (i : ℕ) (x : X) → slice_get xs i ≡ Some x → p x ≡ true
all_pass p [] all i x is = absurd (cc)
all_pass p (y ∷ xs) all zero x is = let same : y ≡ x = cc in ap p (sym same) ∙ (and_true (p y) (list_all p xs) all).0
all_pass p (y ∷ xs) all (suc i) x is = all_pass p xs (and_true (p y) (list_all p xs) all).1 i x is

array_needed : (spec : PortSpec) → is_needed_array spec ≡ true → spec.array ≡ true → spec.needed ≡ true
array_needed spec is array = ap (λ b. if b then spec.needed else true) (sym array) ∙ is

single-option : (spec : PortSpec) → is_input spec ≡ true → is_stream spec.class ≡ false → spec.array ≡ false
single-option spec is option = by spec.array (subst (λ (b : Bool). (if b then spec.needed else not spec.array) ≡ true) option is)
  where
    by : (b : Bool) → not b ≡ true → b ≡ false
    by true e = absurd (false≢true e)
    by false e = refl

takes-texts : (spec : PortSpec) → is_input spec ≡ true → takes_texts spec ≡ true
takes-texts spec is = by (is_stream spec.class) is
  where
    by : (b : Bool) → (if b then spec.needed else not spec.array) ≡ true → (if b then spec.needed else true) ≡ true
    by true e = e
    by false e = refl

IsKind-passed : (kind : KindSpec) → is_kind kind ≡ true → IsKind kind
IsKind-passed kind is =
    let parts = and_true _ _ is in
    let needed = and_true (list_all is_input kind.inputs) (list_all is_needed_array kind.outputs) parts.0 in
    let rest = and_true _ _ parts.1 in
    let few = and_true (nat_le (length kind.inputs) PORT_LIMIT) (nat_le (length kind.outputs) PORT_LIMIT) rest.0 in
    record {
      take_texts = λ i spec here. takes-texts spec (all_pass is_input kind.inputs needed.0 i spec here);
      single_options = λ i spec here option. single-option spec (all_pass is_input kind.inputs needed.0 i spec here) option;
      arrays_needed = λ i spec here array. array_needed spec (all_pass is_needed_array kind.outputs needed.1 i spec here) array;
      few_inputs = grind (arith, nat_tests, few.0);
      few_outputs = grind (arith, nat_tests, few.1);
    }

pub IsKind-each : (kinds : List KindSpec) → is_table kinds ≡ true → (k : ℕ) (kind : KindSpec) → slice_get kinds k ≡ Some kind → IsKind kind
IsKind-each kinds is k kind here = IsKind-passed kind (all_pass is_kind kinds (and_true (list_all is_kind kinds) _ is).0 k kind here)

none : {X : Type 0} (x : X) → {P : Type 0} → ◌≡◌ {A = Option X} None (Some x) → P
none x is = absurd (cc)

-- a builder that holds nothing is sound
pub IsSound-empty : (kinds : List KindSpec) → is_table kinds ≡ true → IsSound (record { kinds = kinds; processes = []; ports = []; links = [] })
IsSound-empty kinds is = record {
  kinds = IsKind-each kinds is;
  few_processes = omega arith;
  few_ports = omega arith;
  few_links = omega arith;
  numbers = λ p begun here. none begun here;
  names = λ p q begun other here there same. none begun here;
  ports = λ g port here. none port here;
  links = λ c link here. none link here;
  listed = record {
    receives = λ end c h. none _ h;
    received = λ end c h. none _ h;
    sends = λ end c k h. none _ h;
    sent = λ end c k h. none _ h;
    has = λ end k h. none _ h;
    given = λ p k end text h. none _ h;
  };
  sided = record {
    into = λ c end h. none _ h;
    sender = λ c k end h. none _ h;
    text = λ p k end text h. none _ h;
  };
  shaped = record {
    each = λ p begun here. none begun here;
    places = λ g port here. none port here;
  };
}
