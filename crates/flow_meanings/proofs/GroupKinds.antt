-- What is known of Group and Flat.
use Rattle.std.proofs.Common.{◌≡◌, ℕ, zero, suc, ◌<◌, Bool, true, false, List, [], not, Option, refl, sym, ap, ◌∙◌, subst, arith}
use Rattle.std.specs.Prelude.{filter}
use Rattle.flow_packet.specs.Tree.{Tree}
use Rattle.flow_component.specs.Happenings.{Happening}
use Rattle.flow_component.specs.Runs.{EndedRun, EndIsLast, got, sent}
use Rattle.flow_group.specs.Group.{GroupState, fresh_group, group_rules}
use Rattle.flow_group.specs.Rows.{grouped, stays}
use Rattle.flow_group.specs.declared.flat.Flat.{Flat}
use Rattle.flow_group.specs.Flat.{flat_rules}
use Rattle.flow_group.specs.Meanings.{IsGrouped, flattened}
use Rattle.flow_group.proofs.GroupStream.{groups}
use Rattle.flow_group.proofs.GroupRest.{leaves-lacking, leaves-none}
use Rattle.flow_group.proofs.GroupEnd.{group_hears}
use Rattle.flow_group.proofs.FlatStream.{flat_meaning}
use Rattle.flow_group.proofs.FlatEnd.{flat_hears}
use Rattle.flow_catalogue.specs.Components.{group_kind, flat_kind}
use Rattle.flow_catalogue.specs.declared.standard.Std.{Std}
use Rattle.flow_catalogue.specs.declared.standard.Std.TheVariants as components
use Rattle.flow_model.specs.States.{Process}
use Rattle.flow_meanings.specs.Means.{bytes_of}
use Rattle.flow_meanings.proofs.LineKinds.{by-one}
use Rattle.flow_meanings.proofs.Over.{Over, Own, own, single-ends, single-texts}
use Rattle.flow_meanings.proofs.Facts.{Facts}

group-own : (state : GroupState) (p : ℕ) (told : List Happening) (x : Process Std) → Over (components.Group state) p told x → Own components.Group group_rules state told x
group-own state p told x over = own components.Group group_kind (λ k. refl) state p told x over

group-run : (state : GroupState) (p : ℕ) (told : List Happening) (x : Process Std) → state ≡ fresh_group state.pattern state.rest → Over (components.Group state) p told x → EndedRun group_rules (fresh_group state.pattern state.rest) told
group-run state p told x first over = subst (λ (w : GroupState). EndedRun group_rules w told) first (group-own state p told x over).run

grouped-run : (pattern : Option (List ℕ)) (rest : Bool) (told : List Happening) → EndedRun group_rules (fresh_group pattern rest) told → EndIsLast 0 told → IsGrouped pattern rest (got 0 told) (sent 0 told) (sent 1 told)
grouped-run pattern rest told ended last = record { groups = groups pattern rest told ended last; leaves_others = leaves-lacking pattern rest told ended; silent = leaves-none pattern rest told ended }

-- the streams that are grouped, where the second output is connected or isn't
grouped-change : (pattern : Option (List ℕ)) (rest : Bool) (x x' y y' z z' : List Tree) → x ≡ x' → y ≡ y' → (rest ≡ true → z ≡ z') → (z ≡ [] → z' ≡ []) → IsGrouped pattern rest x y z → IsGrouped pattern rest x' y' z'
grouped-change pattern rest x x' y y' z z' e f g h m = record {
  groups = sym f ∙ m.groups ∙ ap (grouped pattern) e;
  leaves_others = λ c. sym (g c) ∙ m.leaves_others c ∙ ap (filter (λ packet. not (stays pattern packet))) e;
  silent = λ c. h (m.silent c);
}

left-same : (pattern : Option (List ℕ)) (rest : Bool) (x x' y y' z z' : List Tree) → IsGrouped pattern rest x y z → IsGrouped pattern rest x' y' z' → x ≡ x' → z ≡ z'
left-same pattern true x x' y y' z z' m n e = m.leaves_others refl ∙ ap (filter (λ packet. not (stays pattern packet))) e ∙ sym (n.leaves_others refl)
left-same pattern false x x' y y' z z' m n e = m.silent refl ∙ sym (n.silent refl)

-- what is made of a stream follows from it
grouped-one : (pattern : Option (List ℕ)) (rest : Bool) (x x' y y' : ℕ → List Tree) → ((i : ℕ) → x i ≡ x' i) → IsGrouped pattern rest (x 0) (y 0) (y 1) → IsGrouped pattern rest (x' 0) (y' 0) (y' 1) → (o : ℕ) → o < 2 → y o ≡ y' o
grouped-one pattern rest x x' y y' ins m n zero l = m.groups ∙ ap (grouped pattern) (ins 0) ∙ sym n.groups
grouped-one pattern rest x x' y y' ins m n (suc zero) l = left-same pattern rest (x 0) (x' 0) (y 0) (y' 0) (y 1) (y' 1) m n (ins 0)
grouped-one pattern rest x x' y y' ins m n (suc (suc o)) l = absurd (omega arith)

-- The facts of Group.
pub group-facts : (state : GroupState) → Facts (components.Group state)
group-facts state = record {
  means = λ p told x first over. grouped-run state.pattern state.rest told (group-run state p told x first over) (over.run.end_is_last 0 (single-ends x told over.run.once over.fits));
  texts = λ p told x first over some. single-texts (components.Group state) p told x over refl some (group_hears state.pattern state.rest told (group-run state p told x first over) some);
  change = λ w w' x x' y y' same m. grouped-change state.pattern state.rest (x 0) (x' 0) (y 0) (y' 0) (y 1) (y' 1) (same.inputs 0 (omega arith)) (same.outputs 0 refl) (λ c. same.outputs 1 c) (λ none. same.silent 1 none) m;
  wrote_none = λ p told x over none. ap bytes_of (group-own state p told x over).is;
  settles = λ s w w' x x' y y' ins m n. grouped-one state.pattern state.rest x x' y y' ins m n;
}

flat-own : (component : Flat) (p : ℕ) (told : List Happening) (x : Process Std) → Over (components.Flat component) p told x → Own components.Flat flat_rules component told x
flat-own component p told x over = own components.Flat flat_kind (λ k. refl) component p told x over

-- The facts of Flat.
pub flat-facts : (component : Flat) → Facts (components.Flat component)
flat-facts component = record {
  means = λ p told x first over. flat_meaning component told (flat-own component p told x over).run;
  texts = λ p told x first over some. single-texts (components.Flat component) p told x over refl some (flat_hears component told (flat-own component p told x over).run some);
  change = λ w w' x x' y y' same m. sym (same.outputs 0 refl) ∙ m ∙ ap flattened (same.inputs 0 (omega arith));
  wrote_none = λ p told x over none. ap bytes_of (flat-own component p told x over).is;
  settles = λ s w w' x x' y y' ins m n. by-one flattened x x' y y' ins m n;
}
