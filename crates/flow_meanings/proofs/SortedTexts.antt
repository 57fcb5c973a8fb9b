-- Texts that a Sort has sorted: they are sorted, and their book is the one of the texts as they came.
use Rattle.std.proofs.Common.{◌≡◌, ℕ, Bool, true, false, cond, List, [], ◌∷◌, ◌++◌, refl, sym, ap, ◌∙◌, append_assoc, append-nil, Some, None, if◌then◌else◌}
use Rattle.std.specs.List.{AllByRecursion, filter}
use Rattle.std.specs.Str.{bytes_eq}
use Rattle.std.specs.Ordering.{nat_cmp, is_lt}
use Rattle.std.specs.Cmp.Lexicographic.{slice_cmp}
use Rattle.std.proofs.lemmas.List.Elements.{filter-append}
use Rattle.flow_packet.specs.Tree.{Tree}
use Rattle.flow_component.specs.Runs.{text_packet}
use Rattle.flow_sort.specs.Sorted.{put_in, stable_sort, sorted_from, sorted_stretches}
use Rattle.flow_batch.specs.Records.{key_in}
use Rattle.flow_batch.specs.Book.{book_of, empty_book}
use Rattle.flow_batch.specs.Ledger.{Entry, is_greater, has_key, AreAmounts, IsSorted, IsStablySorted}
use Rattle.flow_batch.specs.Batch.{stream_of}
use Rattle.flow_batch.proofs.Keys.{equal-bytes, same_bytes, up, less-up, less-other, not-less, tested-less}
use Rattle.flow_batch.proofs.Classes.{group_balance, group_refused, amount-of, refused-of}
use Rattle.flow_batch.proofs.Merges.{all-then}

-- The texts in order

abbrev put_text : ℕ → List ℕ → List (List ℕ) → List (List ℕ)
put_text k t [] = t ∷ []
put_text k t (u ∷ us) = if is_lt (slice_cmp nat_cmp (key_in k u) (key_in k t)) then u ∷ put_text k t us else t ∷ u ∷ us

-- The texts in stable ascending order of their keys.
abbrev pub sorted_texts : ℕ → List (List ℕ) → List (List ℕ)
sorted_texts k [] = []
sorted_texts k (t ∷ ts) = put_text k t (sorted_texts k ts)

put-stream : (k : ℕ) (t : List ℕ) (us : List (List ℕ)) → put_in (Some k) (text_packet t) (stream_of us) ≡ stream_of (put_text k t us)
put-stream k t [] = refl
put-stream k t (u ∷ us) = by (is_lt (slice_cmp nat_cmp (key_in k u) (key_in k t))) (put-stream k t us)
  where
    by : (b : Bool) → put_in (Some k) (text_packet t) (stream_of us) ≡ stream_of (put_text k t us)
        → (if b then text_packet u ∷ put_in (Some k) (text_packet t) (stream_of us) else text_packet t ∷ text_packet u ∷ stream_of us) ≡ stream_of (if b then u ∷ put_text k t us else t ∷ u ∷ us)
    by true more = ap (λ (vs : List Tree). text_packet u ∷ vs) more
    by false more = refl

sort-stream : (k : ℕ) (ts : List (List ℕ)) → stable_sort (Some k) (stream_of ts) ≡ stream_of (sorted_texts k ts)
sort-stream k [] = refl
sort-stream k (t ∷ ts) = ap (put_in (Some k) (text_packet t)) (sort-stream k ts) ∙ put-stream k t (sorted_texts k ts)

one-stretch : (k : ℕ) (stretch : List Tree) (ts : List (List ℕ)) → sorted_from (Some k) stretch (stream_of ts) ≡ stable_sort (Some k) (stretch ++ stream_of ts)
one-stretch k stretch [] = ap (stable_sort (Some k)) (sym (append-nil stretch))
one-stretch k stretch (t ∷ ts) = one-stretch k (stretch ++ text_packet t ∷ []) ts ∙ ap (stable_sort (Some k)) (append_assoc stretch (text_packet t ∷ []) (stream_of ts))

-- A stream of texts has one stretch, which is sorted.
pub sorted-stream : (k : ℕ) (ts : List (List ℕ)) → sorted_stretches (Some k) (stream_of ts) ≡ stream_of (sorted_texts k ts)
sorted-stream k ts = one-stretch k [] ts ∙ sort-stream k ts

-- They are sorted

abbrev NoneLess : ℕ → List ℕ → List (List ℕ) → Type 0
NoneLess k t ts = AllByRecursion (λ later. is_greater (key_in k t) (key_in k later) ≡ false) ts

none-less-put : (k : ℕ) (x t : List ℕ) (us : List (List ℕ)) → is_greater (key_in k x) (key_in k t) ≡ false → NoneLess k x us → NoneLess k x (put_text k t us)
none-less-put k x t [] e n = (e, tt)
none-less-put k x t (u ∷ us) e n = by (is_lt (slice_cmp nat_cmp (key_in k u) (key_in k t))) (none-less-put k x t us e n.1)
  where
    by : (b : Bool) → NoneLess k x (put_text k t us) → NoneLess k x (if b then u ∷ put_text k t us else t ∷ u ∷ us)
    by true more = (n.0, more)
    by false more = (e, n)

sorted-put : (k : ℕ) (t : List ℕ) (us : List (List ℕ)) → IsSorted k us → IsSorted k (put_text k t us)
sorted-put k t [] s = (tt, tt)
sorted-put k t (u ∷ us) s = by (is_lt (slice_cmp nat_cmp (key_in k u) (key_in k t))) refl (sorted-put k t us s.1)
  where
    by : (b : Bool) → is_lt (slice_cmp nat_cmp (key_in k u) (key_in k t)) ≡ b → IsSorted k (put_text k t us) → IsSorted k (if b then u ∷ put_text k t us else t ∷ u ∷ us)
    by true e more = (none-less-put k u t us (less-up (key_in k u) (key_in k t) (tested-less (key_in k u) (key_in k t) e)) s.0, more)
    by false e more =
        let first : is_greater (key_in k t) (key_in k u) ≡ false = not-less (key_in k u) (key_in k t) e in
        ((first, all-then (λ later. is_greater (key_in k u) (key_in k later) ≡ false) (λ later. is_greater (key_in k t) (key_in k later) ≡ false) (λ later n. up (key_in k t) (key_in k u) (key_in k later) first n) us s.0), s)

-- Sorted texts are sorted.
pub texts-sorted : (k : ℕ) (ts : List (List ℕ)) → IsSorted k (sorted_texts k ts)
texts-sorted k [] = tt
texts-sorted k (t ∷ ts) = sorted-put k t (sorted_texts k ts) (texts-sorted k ts)

-- Those of a key are the same in the same order

swapped : (t u : List ℕ) (fs : List (List ℕ)) (a b : Bool) → (a ≡ true → b ≡ true → ⊥) → cond a (u ∷ cond b (t ∷ fs) fs) (cond b (t ∷ fs) fs) ≡ cond b (t ∷ cond a (u ∷ fs) fs) (cond a (u ∷ fs) fs)
swapped t u fs true true n = absurd (n refl refl)
swapped t u fs true false n = refl
swapped t u fs false true n = refl
swapped t u fs false false n = refl

other-keys : (k : ℕ) (q t u : List ℕ) → is_lt (slice_cmp nat_cmp (key_in k u) (key_in k t)) ≡ true → has_key k q u ≡ true → has_key k q t ≡ true → ⊥
other-keys k q t u e a b =
    let same : key_in k u ≡ key_in k t = equal-bytes (key_in k u) q a ∙ sym (equal-bytes (key_in k t) q b) in
    let other : bytes_eq (key_in k u) (key_in k t) ≡ false = less-other (key_in k u) (key_in k t) (tested-less (key_in k u) (key_in k t) e) in
    let never : true ≡ false = sym (same_bytes (key_in k u)) ∙ ap (bytes_eq (key_in k u)) same ∙ other in
    cc

class-put : (k : ℕ) (q t : List ℕ) (us : List (List ℕ)) → filter (has_key k q) (put_text k t us) ≡ filter (has_key k q) (t ∷ us)
class-put k q t [] = refl
class-put k q t (u ∷ us) = by (is_lt (slice_cmp nat_cmp (key_in k u) (key_in k t))) refl (class-put k q t us)
  where
    by : (b : Bool) → is_lt (slice_cmp nat_cmp (key_in k u) (key_in k t)) ≡ b → filter (has_key k q) (put_text k t us) ≡ filter (has_key k q) (t ∷ us) → filter (has_key k q) (if b then u ∷ put_text k t us else t ∷ u ∷ us) ≡ filter (has_key k q) (t ∷ u ∷ us)
    by true e more = ap (λ (fs : List (List ℕ)). cond (has_key k q u) (u ∷ fs) fs) more ∙ swapped t u (filter (has_key k q) us) (has_key k q u) (has_key k q t) (other-keys k q t u e)
    by false e more = refl

-- Sorted texts are for each key the same in the same order.
pub class-sorted : (k : ℕ) (q : List ℕ) (ts : List (List ℕ)) → filter (has_key k q) (sorted_texts k ts) ≡ filter (has_key k q) ts
class-sorted k q [] = refl
class-sorted k q (t ∷ ts) = class-put k q t (sorted_texts k ts) ∙ ap (λ (fs : List (List ℕ)). cond (has_key k q t) (t ∷ fs) fs) (class-sorted k q ts)

-- The book

module _ (k : ℕ) (masters details : List (List ℕ)) where
  abbrev came : List (List ℕ)
  came = masters ++ details

  abbrev ordered : List (List ℕ)
  ordered = sorted_texts k masters ++ sorted_texts k details

  class : (q : List ℕ) → filter (has_key k q) ordered ≡ filter (has_key k q) came
  class q =
      filter-append (has_key k q) (sorted_texts k masters) (sorted_texts k details) ∙ (λ i. class-sorted k q masters i ++ class-sorted k q details i)
      ∙ sym (filter-append (has_key k q) masters details)

  -- What are the amounts of the book of the sorted texts are those of the texts as they came.
  pub same-amounts : (entries : List Entry) → AreAmounts (book_of k ordered) entries → AreAmounts (book_of k came) entries
  same-amounts entries a = record {
    ascend = a.ascend;
    same = λ q. a.same q ∙ amount-of k q ordered empty_book ∙ ap (group_balance k q None) (class q) ∙ sym (amount-of k q came empty_book);
  }

  -- and so it is with the refused texts
  pub same-refused : (texts : List (List ℕ)) → IsStablySorted k (book_of k ordered).refused texts → IsStablySorted k (book_of k came).refused texts
  same-refused texts s = record {
    ascends = s.ascends;
    same = λ q. s.same q ∙ refused-of k q ordered empty_book ∙ ap (group_refused k q None) (class q) ∙ sym (refused-of k q came empty_book);
  }
