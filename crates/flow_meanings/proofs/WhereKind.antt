-- What is known of Where.
use Rattle.std.proofs.Common.{◌≡◌, ℕ, zero, suc, ◌<◌, Bool, true, false, List, [], not, refl, sym, ap, ◌∙◌, arith}
use Rattle.flow_packet.specs.Tree.{Tree}
use Rattle.flow_component.specs.Happenings.{Happening}
use Rattle.std.specs.Prelude.{filter}
use Rattle.flow_where.specs.Where.{WhereState, where_picker, where_rules}
use Rattle.flow_where.specs.Meanings.{IsParted, accepts_packet}
use Rattle.flow_where.proofs.WhereStream.{where_meaning}
use Rattle.flow_decimal.specs.declared.bound.Bound.{Bound}
use Rattle.flow_catalogue.specs.Components.{where_kind}
use Rattle.flow_meanings.proofs.PickKinds.{picker-hears}
use Rattle.flow_catalogue.specs.declared.standard.Std.{Std}
use Rattle.flow_catalogue.specs.declared.standard.Std.TheVariants as components
use Rattle.flow_model.specs.States.{Process}
use Rattle.flow_meanings.specs.Means.{bytes_of}
use Rattle.flow_meanings.proofs.Over.{Over, Own, own, single-texts}
use Rattle.flow_meanings.proofs.Facts.{Facts}

where-own : (state : WhereState) (p : ℕ) (told : List Happening) (x : Process Std) → Over (components.Where state) p told x → Own components.Where where_rules state told x
where-own state p told x over = own components.Where where_kind (λ k. refl) state p told x over

-- the streams that are parted, where the second output is connected or isn't
within-change : (bound : Bound) (rejects : Bool) (x x' y y' z z' : List Tree) → x ≡ x' → y ≡ y' → (rejects ≡ true → z ≡ z') → (z ≡ [] → z' ≡ []) → IsParted bound rejects x y z → IsParted bound rejects x' y' z'
within-change bound rejects x x' y y' z z' e f g h m = record {
  accepts_those = sym f ∙ m.accepts_those ∙ ap (filter (accepts_packet bound)) e;
  rejects_others = λ c. sym (g c) ∙ m.rejects_others c ∙ ap (filter (λ packet. not (accepts_packet bound packet))) e;
  silent = λ c. h (m.silent c);
}

rejected-same : (bound : Bound) (rejects : Bool) (x x' y y' z z' : List Tree) → IsParted bound rejects x y z → IsParted bound rejects x' y' z' → x ≡ x' → z ≡ z'
rejected-same bound true x x' y y' z z' m n e = m.rejects_others refl ∙ ap (filter (λ packet. not (accepts_packet bound packet))) e ∙ sym (n.rejects_others refl)
rejected-same bound false x x' y y' z z' m n e = m.silent refl ∙ sym (n.silent refl)

-- what a stream is parted into follows from it
within-one : (bound : Bound) (rejects : Bool) (x x' y y' : ℕ → List Tree) → ((i : ℕ) → x i ≡ x' i) → IsParted bound rejects (x 0) (y 0) (y 1) → IsParted bound rejects (x' 0) (y' 0) (y' 1) → (o : ℕ) → o < 2 → y o ≡ y' o
within-one bound rejects x x' y y' ins m n zero l = m.accepts_those ∙ ap (filter (accepts_packet bound)) (ins 0) ∙ sym n.accepts_those
within-one bound rejects x x' y y' ins m n (suc zero) l = rejected-same bound rejects (x 0) (x' 0) (y 0) (y' 0) (y 1) (y' 1) m n (ins 0)
within-one bound rejects x x' y y' ins m n (suc (suc o)) l = absurd (omega arith)

-- The facts of Where.
pub where-facts : (state : WhereState) → Facts (components.Where state)
where-facts state = record {
  means = λ p told x first over. where_meaning state.bound state.rejects told (where-own state p told x over).run;
  texts = λ p told x first over some. single-texts (components.Where state) p told x over refl some (picker-hears where_picker (λ state kind text. refl) state told (where-own state p told x over).run some);
  change = λ w w' x x' y y' same m. within-change state.bound state.rejects (x 0) (x' 0) (y 0) (y' 0) (y 1) (y' 1) (same.inputs 0 (omega arith)) (same.outputs 0 refl) (λ c. same.outputs 1 c) (λ none. same.silent 1 none) m;
  wrote_none = λ p told x over none. ap bytes_of (where-own state p told x over).is;
  settles = λ s w w' x x' y y' ins m n. within-one state.bound state.rejects x x' y y' ins m n;
}
