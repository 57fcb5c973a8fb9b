-- The kinds that are handed in, each with the parts at its place.
use Rattle.std.proofs.Common.{◌≡◌, ℕ, List, [], ◌∷◌, ◌++◌, length, map, Ok, Err, IfOk, Result, refl, sym, ◌∙◌, ap, arith, append_assoc, length-append}
use Rattle.std.specs.Prelude.{Vec}
use Rattle.std.specs.declared.alloc.Global.{Global}
use Rattle.std.proofs.lemmas.List.{length-map, map-append}
use mathlib.Core.List.{append-nil}
use Rattle.flow_plan.specs.declared.kind.KindSpec.{KindSpec}
use Rattle.flow_plan.specs.Network.{Network}
use Rattle.flow_parse.specs.declared.value.NetText.{NetText}
use Rattle.flow_load.specs.Networks.{Holds, ReadsAs}
use Rattle.flow_load.specs.Offers.{Offer, counts_of, handed_in, offers_of, parts_in, parts_of, specs_of}
use Rattle.flow_load.specs.declared.net_file.NetFile.{NetFile}
use Rattle.flow_load.specs.declared.offers.OwnKind.{OwnKind}
use Rattle.flow_load.proofs.Networks.{one-plan}

-- What follows of a value of which something is known.
pub if-ok : {T E : Type 0} {P Q : T → Type 0} (r : Result T E) → ((x : T) → P x → Q x) → IfOk r P → IfOk r Q
if-ok (Ok x) follows is = follows x is
if-ok (Err e) follows is = is

-- The network that was read is the one that the bytes hold.
pub the-plan : (own : List KindSpec) (net : List ℕ) (file : NetFile) (text : NetText) (plan : Network) → ReadsAs own net (Ok file) → Holds own net text plan → file.plan ≡ plan
the-plan own net file text plan read holds = one-plan own net file.text text file.plan plan read.0 holds

-- The first kinds have the parts at their places, and these kinds and parts are left.
pub record KindsSoFar {P : Type 0} (own : List KindSpec) (parts : List (Vec P Global)) (specs_left : List KindSpec) (parts_left : List (Vec P Global)) (kinds : List (OwnKind P)) : Type 0 where
  pub specs : specs_of (offers_of kinds) ++ specs_left ≡ own
  pub parts_are : handed_in kinds ++ parts_in parts_left ≡ parts_in parts

-- before the first kind all are left
pub none-so-far : {P : Type 0} (own : List KindSpec) (parts : List (Vec P Global)) → KindsSoFar own parts own parts []
none-so-far own parts = record { specs = refl; parts_are = refl }

-- a kind more
pub one-so-far : {P : Type 0} (own : List KindSpec) (parts : List (Vec P Global)) (specs_left : List KindSpec) (parts_left : List (Vec P Global)) (kinds : List (OwnKind P)) (spec : KindSpec) (one : Vec P Global)
    → KindsSoFar own parts (spec ∷ specs_left) (one ∷ parts_left) kinds → KindsSoFar own parts specs_left parts_left (kinds ++ record { spec = spec; parts = one } ∷ [])
one-so-far {P = P} own parts specs_left parts_left kinds spec one s =
    let kind : OwnKind P = record { spec = spec; parts = one } in
    let offered : offers_of (kinds ++ kind ∷ []) ≡ offers_of kinds ++ record { spec = spec; parts = length one.items } ∷ [] =
    map-append (λ (k : OwnKind P). record { spec = k.spec; parts = length k.parts.items }) kinds (kind ∷ []) in
    let specs : specs_of (offers_of (kinds ++ kind ∷ [])) ≡ specs_of (offers_of kinds) ++ spec ∷ [] =
    ap specs_of offered ∙ map-append (λ (o : Offer). o.spec) (offers_of kinds) (record { spec = spec; parts = length one.items } ∷ []) in
    let handed : handed_in (kinds ++ kind ∷ []) ≡ handed_in kinds ++ one.items ∷ [] = map-append (λ (k : OwnKind P). k.parts.items) kinds (kind ∷ []) in
    record {
      specs = ap (λ (l : List KindSpec). l ++ specs_left) specs ∙ append_assoc (specs_of (offers_of kinds)) (spec ∷ []) specs_left ∙ s.specs;
      parts_are = ap (λ (l : List (List P)). l ++ parts_in parts_left) handed ∙ append_assoc (handed_in kinds) (one.items ∷ []) (parts_in parts_left) ∙ s.parts_are;
    }

-- a beginning as long as the list is the list
ends : {X : Type 0} (xs ys zs : List X) → xs ++ ys ≡ zs → length xs ≡ length zs → xs ≡ zs
ends xs [] zs same long = sym (append-nil xs) ∙ same
ends xs (y ∷ ys) zs same long = absurd (omega (arith, length-append xs (y ∷ ys), ap length same, long))

-- All kinds were gone over.
pub all-specs : {P : Type 0} (own : List KindSpec) (parts : List (Vec P Global)) (specs_left : List KindSpec) (parts_left : List (Vec P Global)) (kinds : List (OwnKind P)) → length kinds ≡ length own
    → KindsSoFar own parts specs_left parts_left kinds → specs_of (offers_of kinds) ≡ own
all-specs {P = P} own parts specs_left parts_left kinds all s =
    ends (specs_of (offers_of kinds)) specs_left own s.specs
    (length-map (offers_of kinds) (λ (o : Offer). o.spec) ∙ length-map kinds (λ (k : OwnKind P). record { spec = k.spec; parts = length k.parts.items }) ∙ all)

-- So were all parts.
pub all-parts : {P : Type 0} (own : List KindSpec) (parts : List (Vec P Global)) (specs_left : List KindSpec) (parts_left : List (Vec P Global)) (kinds : List (OwnKind P)) → length kinds ≡ length parts
    → KindsSoFar own parts specs_left parts_left kinds → handed_in kinds ≡ parts_in parts
all-parts {P = P} own parts specs_left parts_left kinds all s =
    ends (handed_in kinds) (parts_in parts_left) (parts_in parts) s.parts_are
    (length-map kinds (λ (k : OwnKind P). k.parts.items) ∙ all ∙ sym (length-map parts (λ (v : Vec P Global). v.items)))

counts-handed : {P : Type 0} (kinds : List (OwnKind P)) → parts_of (offers_of kinds) ≡ map length (handed_in kinds)
counts-handed [] = refl
counts-handed (kind ∷ kinds) = ap (λ (l : List ℕ). length kind.parts.items ∷ l) (counts-handed kinds)

counts-in : {P : Type 0} (parts : List (Vec P Global)) → counts_of parts ≡ map length (parts_in parts)
counts-in [] = refl
counts-in (kind ∷ parts) = ap (λ (l : List ℕ). length kind.items ∷ l) (counts-in parts)

-- There are as many parts of each kind as were handed in.
pub same-counts : {P : Type 0} (kinds : List (OwnKind P)) (parts : List (Vec P Global)) → handed_in kinds ≡ parts_in parts → counts_of parts ≡ parts_of (offers_of kinds)
same-counts {P = P} kinds parts same = counts-in parts ∙ ap (λ (l : List (List P)). map length l) (sym same) ∙ sym (counts-handed kinds)
