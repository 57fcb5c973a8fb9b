-- The kinds and the parts that are offered, kind by kind.
use Rattle.std.proofs.Common.{◌≡◌, List, [], ◌∷◌, map, length, refl, sym, ◌∙◌, ap}
use Rattle.std.specs.Prelude.{Vec}
use Rattle.std.specs.declared.alloc.Global.{Global}
use Rattle.std.proofs.lemmas.List.{map-id}
use Rattle.flow_plan.specs.declared.kind.KindSpec.{KindSpec}
use Rattle.flow_load.specs.Offers.{AreOffered, counts_of, handed_in, offers_of, parts_in, parts_of, specs_of}
use Rattle.flow_load.specs.declared.offers.OwnKind.{OwnKind}

same-kinds : {P : Type 0} (own : List (OwnKind P)) → specs_of (offers_of own) ≡ map (λ (k : OwnKind P). k.spec) own
same-kinds [] = refl
same-kinds (k ∷ own) = ap (λ l. k.spec ∷ l) (same-kinds own)

same-counts : {P : Type 0} (own : List (OwnKind P)) → parts_of (offers_of own) ≡ counts_of (map (λ (k : OwnKind P). k.parts) own)
same-counts [] = refl
same-counts (k ∷ own) = ap (λ l. length k.parts.items ∷ l) (same-counts own)

same-parts : {P : Type 0} (own : List (OwnKind P)) → parts_in (map (λ (k : OwnKind P). k.parts) own) ≡ handed_in own
same-parts [] = refl
same-parts (k ∷ own) = ap (λ l. k.parts.items ∷ l) (same-parts own)

-- All parts were gone over, kind by kind.
pub all-handed : {P : Type 0} (own yielded : List (OwnKind P)) (parts : List (Vec P Global)) → map (λ k. k) yielded ≡ own → parts ≡ map (λ (k : OwnKind P). k.parts) yielded → parts_in parts ≡ handed_in own
all-handed {P = P} own yielded parts all parts_are =
    let same : yielded ≡ own = sym (map-id yielded) ∙ all in
    ap (λ (l : List (Vec P Global)). parts_in l) parts_are ∙ ap (λ (l : List (OwnKind P)). parts_in (map (λ (k : OwnKind P). k.parts) l)) same ∙ same-parts own

-- All kinds were gone over.
pub all-offered : {P : Type 0} (own yielded : List (OwnKind P)) (kinds : List KindSpec) (parts : List (Vec P Global)) → map (λ k. k) yielded ≡ own → kinds ≡ map (λ (k : OwnKind P). k.spec) yielded
    → parts ≡ map (λ (k : OwnKind P). k.parts) yielded → AreOffered (offers_of own) kinds parts
all-offered {P = P} own yielded kinds parts all kinds_are parts_are =
    let same : yielded ≡ own = sym (map-id yielded) ∙ all in
    record {
      kinds_are = same-kinds own ∙ ap (map (λ (k : OwnKind P). k.spec)) (sym same) ∙ sym kinds_are;
      parts_are = same-counts own ∙ ap (λ (l : List (OwnKind P)). counts_of (map (λ (k : OwnKind P). k.parts) l)) (sym same) ∙ ap (λ (l : List (Vec P Global)). counts_of l) (sym parts_are);
    }
