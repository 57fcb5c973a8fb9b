-- What is known of the kinds that map: Find, Split and Rewrite.
use Rattle.std.proofs.Common.{◌≡◌, ℕ, zero, suc, ◌<◌, Bool, true, false, List, [], ◌∷◌, ◌++◌, if◌then◌else◌, refl, sym, ap, ◌∙◌, subst, arith}
use Rattle.std.specs.List.{flat_map}
use Rattle.flow_packet.specs.Tree.{Tree, kind_of, text_of}
use Rattle.flow_packet.specs.declared.packet.Kind.{Kind}
use Rattle.flow_packet.specs.declared.packet.Kind.TheVariants.{Normal, Open, Close}
use Rattle.flow_component.specs.Happenings.{Happening}
use Rattle.flow_component.specs.Runs.{EndedRun}
use Rattle.flow_pattern.specs.Pattern.{Replacement, matches}
use Rattle.flow_map.specs.Mapping.{Mapped, waiting}
use Rattle.flow_map.proofs.MappingEnd.{mapper_hears}
use Rattle.flow_find.specs.Find.{finds, find_mapping, find_rules}
use Rattle.flow_find.specs.FindLaws.{find_laws}
use Rattle.flow_find.specs.Split.{Splitting, splits, split_mapping, split_rules}
use Rattle.flow_find.specs.SplitLaws.{split_laws}
use Rattle.flow_find.specs.Rewrite.{Rewriting, rewrites, rejects, rejects_as, rewrite_mapping, rewrite_rules}
use Rattle.flow_find.specs.RewriteLaws.{rewrite_laws}
use Rattle.flow_find.proofs.FindStream.{find_meaning}
use Rattle.flow_find.proofs.SplitStream.{split_meaning}
use Rattle.flow_find.proofs.RewriteStream.{rewrite_meaning}
use Rattle.flow_catalogue.specs.Components.{find_kind, split_kind, rewrite_kind}
use Rattle.flow_catalogue.specs.declared.standard.Std.{Std}
use Rattle.flow_catalogue.specs.declared.standard.Std.TheVariants as components
use Rattle.flow_model.specs.States.{Process}
use Rattle.flow_meanings.specs.Means.{bytes_of}
use Rattle.flow_meanings.proofs.LineKinds.{by-one}
use Rattle.flow_meanings.proofs.Over.{Over, Own, own, single-texts}
use Rattle.flow_meanings.proofs.Facts.{Facts}

-- Find

find-own : (component : Mapped Replacement) (p : ℕ) (told : List Happening) (x : Process Std) → Over (components.Find component) p told x → Own components.Find find_rules component told x
find-own component p told x over = own components.Find find_kind (λ k. refl) component p told x over

find-run : (component : Mapped Replacement) (p : ℕ) (told : List Happening) (x : Process Std) → component ≡ waiting component.own → Over (components.Find component) p told x → EndedRun find_rules (waiting component.own) told
find-run component p told x first over = subst (λ (w : Mapped Replacement). EndedRun find_rules w told) first (find-own component p told x over).run

-- The facts of Find.
pub find-facts : (component : Mapped Replacement) → Facts (components.Find component)
find-facts component = record {
  means = λ p told x first over. find_meaning component.own told (find-run component p told x first over);
  texts = λ p told x first over some. single-texts (components.Find component) p told x over refl some (mapper_hears find_mapping find_laws component.own told (find-run component p told x first over) some);
  change = λ w w' x x' y y' same m. sym (same.outputs 0 refl) ∙ m ∙ ap (flat_map (finds component.own)) (same.inputs 0 (omega arith));
  wrote_none = λ p told x over none. ap bytes_of (find-own component p told x over).is;
  settles = λ s w w' x x' y y' ins m n. by-one (flat_map (finds component.own)) x x' y y' ins m n;
}

-- Split

split-own : (component : Mapped Splitting) (p : ℕ) (told : List Happening) (x : Process Std) → Over (components.Split component) p told x → Own components.Split split_rules component told x
split-own component p told x over = own components.Split split_kind (λ k. refl) component p told x over

split-run : (component : Mapped Splitting) (p : ℕ) (told : List Happening) (x : Process Std) → component ≡ waiting component.own → Over (components.Split component) p told x → EndedRun split_rules (waiting component.own) told
split-run component p told x first over = subst (λ (w : Mapped Splitting). EndedRun split_rules w told) first (split-own component p told x over).run

-- The facts of Split.
pub split-facts : (component : Mapped Splitting) → Facts (components.Split component)
split-facts component = record {
  means = λ p told x first over. split_meaning component.own told (split-run component p told x first over);
  texts = λ p told x first over some. single-texts (components.Split component) p told x over refl some (mapper_hears split_mapping split_laws component.own told (split-run component p told x first over) some);
  change = λ w w' x x' y y' same m. sym (same.outputs 0 refl) ∙ m ∙ ap (flat_map (splits component.own)) (same.inputs 0 (omega arith));
  wrote_none = λ p told x over none. ap bytes_of (split-own component p told x over).is;
  settles = λ s w w' x x' y y' ins m n. by-one (flat_map (splits component.own)) x x' y y' ins m n;
}

-- Rewrite

rewrite-own : (component : Mapped Rewriting) (p : ℕ) (told : List Happening) (x : Process Std) → Over (components.Rewrite component) p told x → Own components.Rewrite rewrite_rules component told x
rewrite-own component p told x over = own components.Rewrite rewrite_kind (λ k. refl) component p told x over

rewrite-run : (component : Mapped Rewriting) (p : ℕ) (told : List Happening) (x : Process Std) → component ≡ waiting component.own → Over (components.Rewrite component) p told x → EndedRun rewrite_rules (waiting component.own) told
rewrite-run component p told x first over = subst (λ (w : Mapped Rewriting). EndedRun rewrite_rules w told) first (rewrite-own component p told x over).run

-- Where the second output isn't connected nothing goes there.
rejects-none-as : (own : Rewriting) (kind : Kind) (packet : Tree) → own.rest ≡ false → rejects_as own kind packet ≡ []
rejects-none-as own Normal packet unused = by (matches own.by.pattern (text_of packet))
  where
    by : (found : Bool) → (if found then [] else (if own.rest then packet ∷ [] else [])) ≡ []
    by true = refl
    by false = rw unused refl
rejects-none-as own Open packet unused = refl
rejects-none-as own Close packet unused = refl

rejects-none : (own : Rewriting) (x : List Tree) → own.rest ≡ false → flat_map (rejects own) x ≡ []
rejects-none own [] unused = refl
rejects-none own (packet ∷ packets) unused = ap (λ (first : List Tree). first ++ flat_map (rejects own) packets) (rejects-none-as own (kind_of packet) packet unused) ∙ rejects-none own packets unused

-- What leaves at the second output, where streams are the same or it isn't connected.
second-change : (own : Rewriting) (rest : Bool) (x x' y y' : List Tree) → own.rest ≡ rest → x ≡ x' → (rest ≡ true → y ≡ y') → (y ≡ [] → y' ≡ []) → y ≡ flat_map (rejects own) x → y' ≡ flat_map (rejects own) x'
second-change own true x x' y y' is e f h m = sym (f refl) ∙ m ∙ ap (flat_map (rejects own)) e
second-change own false x x' y y' is e f h m = h (m ∙ rejects-none own x is) ∙ sym (rejects-none own x' is)

-- What a Rewrite sends follows from what it gets.
rewrite-settles : (own : Rewriting) (x x' y y' : ℕ → List Tree) → ((i : ℕ) → x i ≡ x' i) → (y 0 ≡ flat_map (rewrites own) (x 0)) × (y 1 ≡ flat_map (rejects own) (x 0))
    → (y' 0 ≡ flat_map (rewrites own) (x' 0)) × (y' 1 ≡ flat_map (rejects own) (x' 0)) → (o : ℕ) → o < 2 → y o ≡ y' o
rewrite-settles own x x' y y' ins m n zero l = m.0 ∙ ap (flat_map (rewrites own)) (ins 0) ∙ sym n.0
rewrite-settles own x x' y y' ins m n (suc zero) l = m.1 ∙ ap (flat_map (rejects own)) (ins 0) ∙ sym n.1
rewrite-settles own x x' y y' ins m n (suc (suc o)) l = absurd (omega arith)

-- The facts of Rewrite.
pub rewrite-facts : (component : Mapped Rewriting) → Facts (components.Rewrite component)
rewrite-facts component = record {
  means = λ p told x first over. rewrite_meaning component.own told (rewrite-run component p told x first over);
  texts = λ p told x first over some. single-texts (components.Rewrite component) p told x over refl some (mapper_hears rewrite_mapping rewrite_laws component.own told (rewrite-run component p told x first over) some);
  change = λ w w' x x' y y' same m.
      let ins = same.inputs 0 (omega arith) in
      (sym (same.outputs 0 refl) ∙ m.0 ∙ ap (flat_map (rewrites component.own)) ins, second-change component.own component.own.rest (x 0) (x' 0) (y 1) (y' 1) refl ins (λ c. same.outputs 1 c) (λ none. same.silent 1 none) m.1);
  wrote_none = λ p told x over none. ap bytes_of (rewrite-own component p told x over).is;
  settles = λ s w w' x x' y y' ins m n. rewrite-settles component.own x x' y y' ins m n;
}
