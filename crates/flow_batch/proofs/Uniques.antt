-- A book has one list of entries, and texts have one stable order.
use Rattle.std.proofs.Common.{◌≡◌, ℕ, Bool, true, false, List, [], ◌∷◌, filter, Some, None, refl, sym, ap, ◌∙◌, subst}
use Rattle.std.specs.Ordering.{nat_cmp, is_gt}
use Rattle.std.specs.declared.cmp.Ordering.{Ordering}
use Rattle.std.specs.declared.cmp.Ordering.TheVariants.{Less, Equal, Greater}
use Rattle.std.specs.Cmp.Lexicographic.{slice_cmp}
use Rattle.std.specs.List.{AllByRecursion}
use Rattle.std.specs.List.Sorted.{IsStrictlySortedBy}
use Rattle.std.specs.Map.{keys_of, lookup}
use Rattle.std.specs.Str.{bytes_eq}
use Rattle.std.proofs.lemmas.Cmp.{nat_list_cmp_total}
use Rattle.flow_batch.specs.Records.{key_in}
use Rattle.flow_batch.specs.Ledger.{Entry, is_greater, IsSorted, has_key}
use Rattle.flow_batch.specs.One.{OneList, OneOrder}
use Rattle.flow_batch.proofs.Keys.{same_bytes, equal-bytes, turned-bytes, less-other, less-then_up}
use Rattle.flow_batch.proofs.Merges.{all-then, none-above}

abbrev cmp : List ℕ → List ℕ → Ordering
cmp a b = slice_cmp nat_cmp a b

-- a key that is less than all has no entry
lookup-below : (q : List ℕ) (es : List Entry) → AllByRecursion (λ k. cmp q k ≡ Less) (keys_of es) → lookup (bytes_eq q) es ≡ None
lookup-below q [] all = refl
lookup-below q (e ∷ es) all = let o : bytes_eq q e.0 ≡ false = less-other q e.0 all.0 in rw o (lookup-below q es all.1)

below-all : (q k : List ℕ) (ks : List (List ℕ)) → cmp q k ≡ Less → AllByRecursion (λ x. cmp k x ≡ Less) ks → AllByRecursion (λ x. cmp q x ≡ Less) ks
below-all q k ks less all = all-then (λ x. cmp k x ≡ Less) (λ x. cmp q x ≡ Less) (λ x l. nat_list_cmp_total.trans q k x less l) ks all

abbrev Same : List Entry → List Entry → Type 0
Same es fs = (q : List ℕ) → lookup (bytes_eq q) es ≡ lookup (bytes_eq q) fs

abbrev Ascend : List Entry → Type 0
Ascend es = IsStrictlySortedBy (λ a b. slice_cmp nat_cmp a b) (keys_of es)

-- a list whose first key is less than all of another has an entry that the other hasn't
not-first : (e : Entry) (es fs : List Entry) → Same (e ∷ es) fs → AllByRecursion (λ k. cmp e.0 k ≡ Less) (keys_of fs) → ⊥
not-first e es fs same all =
    let s = same_bytes e.0 in
    let h : Some e.1 ≡ None = sym (let x : lookup (bytes_eq e.0) (e ∷ es) ≡ Some e.1 = rw s refl in x) ∙ same e.0 ∙ lookup-below e.0 fs all in
    cc

entries-one : (es fs : List Entry) → Ascend es → Ascend fs → Same es fs → es ≡ fs
unfolding IsStrictlySortedBy
entries-one [] [] a b same = refl
entries-one [] (f ∷ fs) a b same = absurd (not-first f fs [] (λ q. sym (same q)) tt)
entries-one (e ∷ es) [] a b same = absurd (not-first e es [] same tt)
entries-one (e ∷ es) (f ∷ fs) a b same = by (cmp e.0 f.0) refl (entries-one es fs a.1 b.1)
  where
    key-same : cmp e.0 f.0 ≡ Equal → e.0 ≡ f.0
    key-same is = equal-bytes e.0 f.0 (sym (Rattle.std.proofs.lemmas.Map.Text.is_eq-slice_cmp e.0 f.0) ∙ ap Rattle.std.specs.Ordering.is_eq is)

    turned : cmp e.0 f.0 ≡ Greater → cmp f.0 e.0 ≡ Less
    turned is = nat_list_cmp_total.antisymm f.0 e.0 ∙ ap Rattle.std.specs.Ordering.ordering_reverse is

    amount-same : e.0 ≡ f.0 → e.1 ≡ f.1
    amount-same k =
        let s = same_bytes e.0 in
        let t : bytes_eq e.0 f.0 ≡ true = ap (bytes_eq e.0) (sym k) ∙ same_bytes e.0 in
        let x : lookup (bytes_eq e.0) (e ∷ es) ≡ Some e.1 = rw s refl in
        let y : lookup (bytes_eq e.0) (f ∷ fs) ≡ Some f.1 = rw t refl in
        let h : Some e.1 ≡ Some f.1 = sym x ∙ same e.0 ∙ y in
        cc

    rest-same : e.0 ≡ f.0 → (q : List ℕ) → lookup (bytes_eq q) es ≡ lookup (bytes_eq q) fs
    rest-same k q = at (bytes_eq q e.0) refl
      where
        at : (t : Bool) → bytes_eq q e.0 ≡ t → lookup (bytes_eq q) es ≡ lookup (bytes_eq q) fs
        at true is =
            let own : q ≡ e.0 = equal-bytes q e.0 is in
            subst (λ (x : List ℕ). lookup (bytes_eq x) es ≡ lookup (bytes_eq x) fs) (sym own)
            (lookup-below e.0 es a.0 ∙ sym (lookup-below e.0 fs (subst (λ (x : List ℕ). AllByRecursion (λ y. cmp x y ≡ Less) (keys_of fs)) (sym k) b.0)))
        at false is =
            let other : bytes_eq q f.0 ≡ false = ap (bytes_eq q) (sym k) ∙ is in
            let x : lookup (bytes_eq q) (e ∷ es) ≡ lookup (bytes_eq q) es = rw is refl in
            let y : lookup (bytes_eq q) (f ∷ fs) ≡ lookup (bytes_eq q) fs = rw other refl in
            sym x ∙ same q ∙ y

    by : (o : Ordering) → cmp e.0 f.0 ≡ o → (Same es fs → es ≡ fs) → e ∷ es ≡ f ∷ fs
    by Less is rec = absurd (not-first e es (f ∷ fs) same (is, below-all e.0 f.0 (keys_of fs) is b.0))
    by Greater is rec = absurd (not-first f fs (e ∷ es) (λ q. sym (same q)) (turned is, below-all f.0 e.0 (keys_of es) (turned is) a.0))
    by Equal is rec =
        let k = key-same is in
        let v = amount-same k in
        let r = rec (rest-same k) in
        λ i. (k i, v i) ∷ r i

-- A book's amounts are one list of entries.
pub one-list : OneList
one-list book one other a b = entries-one one other a.ascend b.ascend (λ q. a.same q ∙ sym (b.same q))

-- The order of texts

abbrev SameClass : ℕ → List (List ℕ) → List (List ℕ) → Type 0
SameClass keylen ts us = (q : List ℕ) → filter (has_key keylen q) ts ≡ filter (has_key keylen q) us

own-class : (keylen : ℕ) (t : List ℕ) (ts : List (List ℕ)) → filter (has_key keylen (key_in keylen t)) (t ∷ ts) ≡ t ∷ filter (has_key keylen (key_in keylen t)) ts
own-class keylen t ts = let s : has_key keylen (key_in keylen t) t ≡ true = same_bytes (key_in keylen t) in rw s refl

-- a text whose key all others exceed is in one list alone
not-there : (keylen : ℕ) (t : List ℕ) (ts us : List (List ℕ)) → SameClass keylen (t ∷ ts) us → AllByRecursion (λ u. cmp (key_in keylen t) (key_in keylen u) ≡ Less) us → ⊥
not-there keylen t ts us same all =
    let none : filter (has_key keylen (key_in keylen t)) us ≡ [] =
    none-above keylen (key_in keylen t) us (all-then (λ u. cmp (key_in keylen t) (key_in keylen u) ≡ Less) (λ u. bytes_eq (key_in keylen u) (key_in keylen t) ≡ false) (λ u l. turned-bytes (key_in keylen t) (key_in keylen u) (less-other (key_in keylen t) (key_in keylen u) l)) us all) in
    let h : t ∷ filter (has_key keylen (key_in keylen t)) ts ≡ [] = sym (own-class keylen t ts) ∙ same (key_in keylen t) ∙ none in
    cc

above-all : (keylen : ℕ) (t u : List ℕ) (us : List (List ℕ)) → cmp (key_in keylen t) (key_in keylen u) ≡ Less → AllByRecursion (λ x. is_greater (key_in keylen u) (key_in keylen x) ≡ false) us → AllByRecursion (λ x. cmp (key_in keylen t) (key_in keylen x) ≡ Less) us
above-all keylen t u us less all = all-then (λ x. is_greater (key_in keylen u) (key_in keylen x) ≡ false) (λ x. cmp (key_in keylen t) (key_in keylen x) ≡ Less) (λ x g. less-then_up (key_in keylen t) (key_in keylen u) (key_in keylen x) less g) us all

order-one : (keylen : ℕ) (ts us : List (List ℕ)) → IsSorted keylen ts → IsSorted keylen us → SameClass keylen ts us → ts ≡ us
order-one keylen [] [] a b same = refl
order-one keylen [] (u ∷ us) a b same = absurd (not-there keylen u us [] (λ q. sym (same q)) tt)
order-one keylen (t ∷ ts) [] a b same = absurd (not-there keylen t ts [] same tt)
order-one keylen (t ∷ ts) (u ∷ us) a b same = by (cmp (key_in keylen t) (key_in keylen u)) refl (order-one keylen ts us a.1 b.1)
  where
    key-same : cmp (key_in keylen t) (key_in keylen u) ≡ Equal → key_in keylen t ≡ key_in keylen u
    key-same is = equal-bytes (key_in keylen t) (key_in keylen u) (sym (Rattle.std.proofs.lemmas.Map.Text.is_eq-slice_cmp (key_in keylen t) (key_in keylen u)) ∙ ap Rattle.std.specs.Ordering.is_eq is)

    turned : cmp (key_in keylen t) (key_in keylen u) ≡ Greater → cmp (key_in keylen u) (key_in keylen t) ≡ Less
    turned is = nat_list_cmp_total.antisymm (key_in keylen u) (key_in keylen t) ∙ ap Rattle.std.specs.Ordering.ordering_reverse is

    both : key_in keylen t ≡ key_in keylen u → t ∷ filter (has_key keylen (key_in keylen t)) ts ≡ u ∷ filter (has_key keylen (key_in keylen t)) us
    both k =
        let other : filter (has_key keylen (key_in keylen t)) (u ∷ us) ≡ u ∷ filter (has_key keylen (key_in keylen t)) us =
        subst (λ (x : List ℕ). filter (has_key keylen x) (u ∷ us) ≡ u ∷ filter (has_key keylen x) us) (sym k) (own-class keylen u us) in
        sym (own-class keylen t ts) ∙ same (key_in keylen t) ∙ other

    rest-same : key_in keylen t ≡ key_in keylen u → SameClass keylen ts us
    rest-same k q = at (bytes_eq (key_in keylen t) q) refl
      where
        at : (v : Bool) → bytes_eq (key_in keylen t) q ≡ v → filter (has_key keylen q) ts ≡ filter (has_key keylen q) us
        at true is =
            let own : key_in keylen t ≡ q = equal-bytes (key_in keylen t) q is in
            let h = both k in
            let f : filter (has_key keylen (key_in keylen t)) ts ≡ filter (has_key keylen (key_in keylen t)) us = cc in
            subst (λ (x : List ℕ). filter (has_key keylen x) ts ≡ filter (has_key keylen x) us) own f
        at false is =
            let not : has_key keylen q u ≡ false = ap (λ (x : List ℕ). bytes_eq x q) (sym k) ∙ is in
            let x : filter (has_key keylen q) (t ∷ ts) ≡ filter (has_key keylen q) ts = rw is refl in
            let y : filter (has_key keylen q) (u ∷ us) ≡ filter (has_key keylen q) us = rw not refl in
            sym x ∙ same q ∙ y

    by : (o : Ordering) → cmp (key_in keylen t) (key_in keylen u) ≡ o → (SameClass keylen ts us → ts ≡ us) → t ∷ ts ≡ u ∷ us
    by Less is rec = absurd (not-there keylen t ts (u ∷ us) same (is, above-all keylen t u us is b.0))
    by Greater is rec = absurd (not-there keylen u us (t ∷ ts) (λ q. sym (same q)) (turned is, above-all keylen u t ts (turned is) a.0))
    by Equal is rec =
        let k = key-same is in
        let h = both k in
        let v : t ≡ u = cc in
        let r = rec (rest-same k) in
        λ i. v i ∷ r i

-- Texts have one stable order.
pub one-order : OneOrder
one-order keylen texts one other a b = order-one keylen one other a.ascends b.ascends (λ q. a.same q ∙ sym (b.same q))
