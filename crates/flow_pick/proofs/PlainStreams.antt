-- What the kinds make of a stream without brackets.
use Rattle.std.proofs.Common.{◌≡◌, ℕ, zero, suc, ◌+◌, ◌-◌, ◌≤◌, ◌<◌, Bool, true, false, List, [], ◌∷◌, ◌++◌, length, take, drop, Option, Some, refl, sym, ap, ◌∙◌, arith, nat_lt, cond}
use Rattle.std.specs.Prelude.{not, ◌||◌}
use Rattle.std.specs.List.{dedup_from}
use Rattle.std.specs.Str.{bytes_eq}
use Rattle.std.proofs.lemmas.Bool.Decides.{nat_tests}
use Rattle.std.proofs.lemmas.Slice.Eq.{bytes_eq-Decides}
use Rattle.flow_packet.specs.declared.packet.Kind.{Kind}
use Rattle.flow_packet.specs.declared.packet.Kind.TheVariants.{Normal, Open, Close}
use Rattle.flow_packet.specs.Tree.{Tree, node, kind_of, text_of}
use Rattle.flow_pick.specs.Places.{Place, picked_behind, is_bracket, one_longer, stretch}
use Rattle.flow_pick.specs.Unique.{last_before, has_text, kept, is_new}
use Rattle.flow_pick.specs.Head.{is_among_first}
use Rattle.flow_pick.specs.Tail.{AreNormal}
use Rattle.flow_pick.specs.Plain.{has_same_text, UniqueIsDedup, HeadIsTake, TailIsDrop}
use Rattle.flow_pick.proofs.PickingStream.{one_of, picked-first}
use Rattle.flow_pick.proofs.Lasts.{lasts, lasts-are, first-off, first-on}

-- Head

longer : (packet : Tree) (earlier : List Tree) → kind_of packet ≡ Normal → stretch (packet ∷ earlier) ≡ stretch earlier + 1
longer packet earlier k = ap (λ (x : Kind). one_longer x (stretch earlier)) k

take-none : {X : Type 0} (x : List X) (k : ℕ) → k ≡ 0 → take k x ≡ []
take-none [] k z = rw z refl
take-none (t ∷ ts) k z = rw z refl

take-one : {X : Type 0} (t : X) (ts : List X) (k m : ℕ) → k ≡ suc m → take k (t ∷ ts) ≡ t ∷ take m ts
take-one t ts k m e = rw e refl

take-nil : {X : Type 0} (k : ℕ) → take {A = X} k [] ≡ []
take-nil zero = refl
take-nil (suc k) = refl

begins-so : (count : ℕ) (earlier : List Tree) (t : Tree) (ts : List Tree) → kind_of t ≡ Normal → picked_behind (is_among_first count) (t ∷ earlier) ts ≡ take (count - stretch (t ∷ earlier)) ts
    → picked_behind (is_among_first count) earlier (t ∷ ts) ≡ take (count - stretch earlier) (t ∷ ts)
begins-so count earlier t ts normal behind = by (nat_lt (stretch earlier) count) refl
  where
    rest : picked_behind (is_among_first count) (t ∷ earlier) ts ≡ take (count - (stretch earlier + 1)) ts
    rest = behind ∙ ap (λ (k : ℕ). take (count - k) ts) (longer t earlier normal)

    place : Place
    place = record { earlier = earlier; packet = t; later = ts }

    first : (b : Bool) → nat_lt (stretch earlier) count ≡ b → is_among_first count place ≡ b
    first b e = λ i. is_bracket (normal i) || e i

    split : (b : Bool) → nat_lt (stretch earlier) count ≡ b → picked_behind (is_among_first count) earlier (t ∷ ts) ≡ one_of b t ++ take (count - (stretch earlier + 1)) ts
    split b e = picked-first (is_among_first count) earlier t ts ∙ (λ i. one_of (first b e i) t ++ rest i)

    by : (b : Bool) → nat_lt (stretch earlier) count ≡ b → picked_behind (is_among_first count) earlier (t ∷ ts) ≡ take (count - stretch earlier) (t ∷ ts)
    by true e =
        let l : stretch earlier < count = grind (arith, nat_tests) in
        split true e ∙ sym (take-one t ts (count - stretch earlier) (count - (stretch earlier + 1)) (omega (arith, l)))
    by false e =
        let l : count ≤ stretch earlier = grind (arith, nat_tests) in
        split false e ∙ take-none ts (count - (stretch earlier + 1)) (omega (arith, l)) ∙ sym (take-none (t ∷ ts) (count - stretch earlier) (omega (arith, l)))

beginning : (count : ℕ) (earlier x : List Tree) → AreNormal x → picked_behind (is_among_first count) earlier x ≡ take (count - stretch earlier) x
beginning count earlier [] n = sym (take-nil (count - stretch earlier))
beginning count earlier (t ∷ ts) n = begins-so count earlier t ts n.0 (beginning count (t ∷ earlier) ts n.1)

pub head-is-take : HeadIsTake
head-is-take count x n = beginning count [] x n ∙ ap (λ (k : ℕ). take k x) (let z : count - 0 ≡ count = omega arith in z)

-- Tail

drop-none : {X : Type 0} (x : List X) (k : ℕ) → k ≡ 0 → drop k x ≡ x
drop-none [] k z = rw z refl
drop-none (t ∷ ts) k z = rw z refl

drop-one : {X : Type 0} (t : X) (ts : List X) (k m : ℕ) → k ≡ suc m → drop k (t ∷ ts) ≡ drop m ts
drop-one t ts k m e = rw e refl

drop-nil : {X : Type 0} (k : ℕ) → drop {A = X} k [] ≡ []
drop-nil zero = refl
drop-nil (suc k) = refl

plain-stretch : (x : List Tree) → AreNormal x → stretch x ≡ length x
plain-stretch [] n = refl
plain-stretch (t ∷ ts) n = longer t ts n.0 ∙ omega (arith, plain-stretch ts n.1)

ends-so : (count : ℕ) (t : Tree) (ts : List Tree) → AreNormal (t ∷ ts) → lasts count ts ≡ drop (length ts - count) ts → lasts count (t ∷ ts) ≡ drop (length (t ∷ ts) - count) (t ∷ ts)
ends-so count t ts n rest = by (nat_lt (stretch ts) count) refl
  where
    by : (b : Bool) → nat_lt (stretch ts) count ≡ b → lasts count (t ∷ ts) ≡ drop (length (t ∷ ts) - count) (t ∷ ts)
    by true e =
        let l : stretch ts < count = grind (arith, nat_tests) in
        let z : length ts - count ≡ 0 = omega (arith, l, plain-stretch ts n.1) in
        let w : length (t ∷ ts) - count ≡ 0 = omega (arith, l, plain-stretch ts n.1) in
        (first-on count t ts n.0 l).0 ∙ ap (λ (us : List Tree). t ∷ us) (rest ∙ drop-none ts (length ts - count) z) ∙ sym (drop-none (t ∷ ts) (length (t ∷ ts) - count) w)
    by false e =
        let l : count ≤ stretch ts = grind (arith, nat_tests) in
        let w : length (t ∷ ts) - count ≡ suc (length ts - count) = omega (arith, l, plain-stretch ts n.1) in
        (first-off count t ts n.0 l).0 ∙ rest ∙ sym (drop-one t ts (length (t ∷ ts) - count) (length ts - count) w)

end-of : (count : ℕ) (x : List Tree) → AreNormal x → lasts count x ≡ drop (length x - count) x
end-of count [] n = sym (drop-nil (0 - count))
end-of count (t ∷ ts) n = ends-so count t ts n (end-of count ts n.1)

pub tail-is-drop : TailIsDrop
tail-is-drop count x n = lasts-are count x ∙ end-of count x n

-- Unique

last-normal : (t : Tree) (earlier : List Tree) → kind_of t ≡ Normal → last_before 0 (t ∷ earlier) ≡ Some t
last-normal (node id Normal text cs) earlier k = refl
last-normal (node id Open text cs) earlier k = absurd (cc)
last-normal (node id Close text cs) earlier k = absurd (cc)

-- whether a packet behind one with the text of k is no repeat
new-by : (k last t : Tree) (earlier later : List Tree) → kind_of last ≡ Normal → text_of last ≡ text_of k → kind_of t ≡ Normal
    → is_new (record { earlier = last ∷ earlier; packet = t; later = later }) ≡ not (has_same_text t k)
new-by k last t earlier later normal same n =
    (λ i. kept (n i) (record { earlier = last ∷ earlier; packet = t; later = later }))
    ∙ ap (λ (o : Option Tree). not (has_text o (text_of t))) (last-normal last earlier normal)
    ∙ ap (λ (text : List ℕ). not (bytes_eq text (text_of t))) same

row-so : (k last : Tree) (earlier : List Tree) (t : Tree) (ts : List Tree) → kind_of last ≡ Normal → text_of last ≡ text_of k → kind_of t ≡ Normal
    → (text_of t ≡ text_of k → k ∷ picked_behind is_new (t ∷ last ∷ earlier) ts ≡ dedup_from has_same_text k ts) → t ∷ picked_behind is_new (t ∷ last ∷ earlier) ts ≡ dedup_from has_same_text t ts
    → k ∷ picked_behind is_new (last ∷ earlier) (t ∷ ts) ≡ dedup_from has_same_text k (t ∷ ts)
row-so k last earlier t ts normal same n goes begins = by (has_same_text t k) refl
  where
    split : (b : Bool) → has_same_text t k ≡ b → picked_behind is_new (last ∷ earlier) (t ∷ ts) ≡ one_of (not b) t ++ picked_behind is_new (t ∷ last ∷ earlier) ts
    split b e = picked-first is_new (last ∷ earlier) t ts ∙ (λ i. one_of ((new-by k last t earlier ts normal same n ∙ ap not e) i) t ++ picked_behind is_new (t ∷ last ∷ earlier) ts)

    by : (b : Bool) → has_same_text t k ≡ b → k ∷ picked_behind is_new (last ∷ earlier) (t ∷ ts) ≡ cond b (dedup_from has_same_text k ts) (k ∷ dedup_from has_same_text t ts)
    by true e =
        let text : text_of k ≡ text_of t = (bytes_eq-Decides (text_of k) (text_of t)).0 e in
        ap (λ (us : List Tree). k ∷ us) (split true e) ∙ goes (sym text)
    by false e = ap (λ (us : List Tree). k ∷ us) (split false e ∙ begins)

rows : (k last : Tree) (earlier x : List Tree) → kind_of last ≡ Normal → text_of last ≡ text_of k → AreNormal x → k ∷ picked_behind is_new (last ∷ earlier) x ≡ dedup_from has_same_text k x
rows k last earlier [] normal same n = refl
rows k last earlier (t ∷ ts) normal same n =
    row-so k last earlier t ts normal same n.0 (λ text. rows k t (last ∷ earlier) ts n.0 text n.1) (rows t t (last ∷ earlier) ts n.0 refl n.1)

pub unique-is-dedup : UniqueIsDedup
unique-is-dedup [] n = refl
unique-is-dedup (t ∷ ts) n = picked-first is_new [] t ts ∙ (λ i. one_of (first i) t ++ picked_behind is_new (t ∷ []) ts) ∙ rows t t [] ts n.0 refl n.1
  where
    first : is_new (record { earlier = []; packet = t; later = ts }) ≡ true
    first = λ i. kept (n.0 i) (record { earlier = []; packet = t; later = ts })
