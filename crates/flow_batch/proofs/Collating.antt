-- Update on the collation of two sorted lists of texts.
use Rattle.std.proofs.Common.{◌≡◌, ℕ, ◌+◌, Bool, true, false, List, [], ◌∷◌, ◌++◌, take, map, Option, Some, None, refl, sym, ap, ◌∙◌, arith, append-nil, if◌then◌else◌}
use Rattle.std.specs.Ordering.{nat_cmp, is_lt}
use Rattle.std.specs.Cmp.Lexicographic.{slice_cmp}
use Rattle.std.specs.Str.{bytes_eq}
use Rattle.std.proofs.lemmas.List.{map-append}
use Rattle.std.proofs.lemmas.List.Sums.{sum_by-cons}
use Rattle.flow_packet.specs.declared.packet.Kind.TheVariants.{Open, Close}
use Rattle.flow_packet.specs.Tree.{Tree, packet_of}
use Rattle.flow_component.specs.Runs.{text_packet}
use Rattle.flow_streams.specs.Collation.{width, levels_that_differ}
use Rattle.flow_streams.specs.Collated.{merged_before, merge, closes, opens, turn, bracketed, collation}
use Rattle.flow_batch.specs.Records.{key_in, posted, balance_after, refused_by}
use Rattle.flow_batch.specs.declared.records.Posting.{Posting}
use Rattle.flow_batch.specs.declared.records.Posting.TheVariants.{Applied, Refused}
use Rattle.flow_batch.specs.Ledger.{Entry, line_of, has_key}
use Rattle.flow_batch.specs.Around.{Outside, InGroup}
use Rattle.flow_batch.specs.Updated.{master_of, new_masters, refused_packets}
use Rattle.flow_batch.specs.Batch.{stream_of, BatchIsBook}
use Rattle.flow_batch.proofs.Keys.{equal-bytes, same_bytes, turned-bytes}
use Rattle.flow_batch.proofs.Merges.{texts_before, merged_texts}
use Rattle.flow_batch.proofs.Groups.{entry_of, entries_from, refusals_from, entries, refusals}
use Rattle.flow_batch.proofs.Sorting.{book-amounts, book-refused}

-- The merge of two streams of texts

before-stream : (k : ℕ) (x : List ℕ) (rest : List Tree → List Tree) (rest' : List (List ℕ) → List (List ℕ)) → ((zs : List (List ℕ)) → rest (stream_of zs) ≡ stream_of (rest' zs)) → (ys : List (List ℕ))
    → merged_before k (text_packet x) rest (stream_of ys) ≡ stream_of (texts_before k x rest' ys)
before-stream k x rest rest' same [] = ap (λ (us : List Tree). text_packet x ∷ us) (same [])
before-stream k x rest rest' same (y ∷ ys) = by (is_lt (slice_cmp nat_cmp (key_in k y) (key_in k x))) (before-stream k x rest rest' same ys)
  where
    by : (b : Bool) → merged_before k (text_packet x) rest (stream_of ys) ≡ stream_of (texts_before k x rest' ys)
        → (if b then text_packet y ∷ merged_before k (text_packet x) rest (stream_of ys) else text_packet x ∷ rest (text_packet y ∷ stream_of ys)) ≡ stream_of (if b then y ∷ texts_before k x rest' ys else x ∷ rest' (y ∷ ys))
    by true r = ap (λ (us : List Tree). text_packet y ∷ us) r
    by false r = ap (λ (us : List Tree). text_packet x ∷ us) (same (y ∷ ys))

merge-stream : (k : ℕ) (xs ys : List (List ℕ)) → merge k (stream_of xs) (stream_of ys) ≡ stream_of (merged_texts k xs ys)
merge-stream k [] ys = refl
merge-stream k (x ∷ xs) ys = before-stream k x (merge k (stream_of xs)) (merged_texts k xs) (merge-stream k xs) ys

merge-nothing : (k : ℕ) (s : List Tree) → merge k s [] ≡ s
merge-nothing k [] = refl
merge-nothing k (t ∷ ts) = ap (λ (us : List Tree). t ∷ us) (merge-nothing k ts)

-- One field

abbrev fields : ℕ → List ℕ
fields k = k ∷ []

width-one : (k : ℕ) → width (fields k) 1 ≡ k
width-one k = let e = sum_by-cons (λ (x : ℕ). x) k [] in omega (arith, e)

levels-one : (k : ℕ) (old new : List ℕ) (b : Bool) → bytes_eq (take k old) (take k new) ≡ b → levels_that_differ (fields k) old new ≡ (if b then 0 else 1)
levels-one k old new b is =
    let z : 0 + k ≡ k = omega arith in
    let t : bytes_eq (take (0 + k) old) (take (0 + k) new) ≡ b = ap (λ (n : ℕ). bytes_eq (take n old) (take n new)) z ∙ is in
    ap (λ (v : Bool). if v then 0 else 1) t

turn-one : (k : ℕ) (old new : List ℕ) (b : Bool) → bytes_eq (take k old) (take k new) ≡ b
    → turn (fields k) (Some old) new ≡ (if b then [] else packet_of 0 Close [] [] ∷ packet_of 0 Open (take (width (fields k) 1) new) [] ∷ [])
turn-one k old new true is = ap (λ (n : ℕ). closes n ++ opens (fields k) n new) (levels-one k old new true is)
turn-one k old new false is = ap (λ (n : ℕ). closes n ++ opens (fields k) n new) (levels-one k old new false is)

opened-key : (k : ℕ) (t : List ℕ) → take (width (fields k) 1) t ≡ key_in k t
opened-key k t = ap (λ (n : ℕ). take n t) (width-one k)

-- The lines of entries

abbrev lines : List Entry → List Tree
lines es = map (λ (e : Entry). text_packet (line_of e)) es

master-line : (key : List ℕ) (balance : Option ℕ) → master_of key balance ≡ lines (entry_of key balance)
master-line key None = refl
master-line key (Some amount) = refl

refused-stream : (t : List ℕ) (p : Posting) → refused_by (text_packet t) p ≡ stream_of (refused_by t p)
refused-stream t (Applied balance) = refl
refused-stream t Refused = refl

-- the new masters of what follows in a group
masters-from : (k : ℕ) (old key : List ℕ) (balance : Option ℕ) (ts : List (List ℕ)) → key ≡ key_in k old → new_masters k (InGroup key balance) (bracketed (fields k) (Some old) (stream_of ts)) ≡ lines (entries_from k key balance ts)
masters-from k old key balance [] is = append-nil (master_of key balance) ∙ master-line key balance
masters-from k old key balance (t ∷ ts) is = by (has_key k key t) refl (λ key' balance' is'. masters-from k t key' balance' ts is')
  where
    by : (b : Bool) → has_key k key t ≡ b → ((key' : List ℕ) (balance' : Option ℕ) → key' ≡ key_in k t → new_masters k (InGroup key' balance') (bracketed (fields k) (Some t) (stream_of ts)) ≡ lines (entries_from k key' balance' ts)) → new_masters k (InGroup key balance) (turn (fields k) (Some old) t ++ text_packet t ∷ bracketed (fields k) (Some t) (stream_of ts))
        ≡ lines (if b then entries_from k key (balance_after balance (posted k key balance t)) ts else entry_of key balance ++ entries_from k (key_in k t) (balance_after None (posted k (key_in k t) None t)) ts)
    by true here rec =
        let same : key_in k t ≡ key = equal-bytes (key_in k t) key here in
        let test : bytes_eq (take k old) (take k t) ≡ true = (λ i. bytes_eq (sym is i) (same i)) ∙ same_bytes key in
        ap (λ (ps : List Tree). new_masters k (InGroup key balance) (ps ++ text_packet t ∷ bracketed (fields k) (Some t) (stream_of ts))) (turn-one k old t true test) ∙ rec key (balance_after balance (posted k key balance t)) (sym same)
    by false other rec =
        let test : bytes_eq (take k old) (take k t) ≡ false = ap (λ (a : List ℕ). bytes_eq a (key_in k t)) (sym is) ∙ turned-bytes (key_in k t) key other in
        ap (λ (ps : List Tree). new_masters k (InGroup key balance) (ps ++ text_packet t ∷ bracketed (fields k) (Some t) (stream_of ts))) (turn-one k old t false test)
        ∙ (λ i. master_of key balance ++ new_masters k (InGroup (opened-key k t i) (balance_after None (posted k (opened-key k t i) None t))) (bracketed (fields k) (Some t) (stream_of ts)))
        ∙ (λ i. master-line key balance i ++ rec (key_in k t) (balance_after None (posted k (key_in k t) None t)) refl i)
        ∙ sym (map-append (λ (e : Entry). text_packet (line_of e)) (entry_of key balance) (entries_from k (key_in k t) (balance_after None (posted k (key_in k t) None t)) ts))

-- the packets that are refused of what follows in a group
refused-from : (k : ℕ) (old key : List ℕ) (balance : Option ℕ) (ts : List (List ℕ)) → key ≡ key_in k old → refused_packets k (InGroup key balance) (bracketed (fields k) (Some old) (stream_of ts)) ≡ stream_of (refusals_from k key balance ts)
refused-from k old key balance [] is = refl
refused-from k old key balance (t ∷ ts) is = by (has_key k key t) refl (λ key' balance' is'. refused-from k t key' balance' ts is')
  where
    join : (key : List ℕ) (balance : Option ℕ) → key ≡ key_in k t → refused_packets k (InGroup key (balance_after balance (posted k key balance t))) (bracketed (fields k) (Some t) (stream_of ts)) ≡ stream_of (refusals_from k key (balance_after balance (posted k key balance t)) ts)
        → refused_by (text_packet t) (posted k key balance t) ++ refused_packets k (InGroup key (balance_after balance (posted k key balance t))) (bracketed (fields k) (Some t) (stream_of ts))
        ≡ stream_of (refused_by t (posted k key balance t) ++ refusals_from k key (balance_after balance (posted k key balance t)) ts)
    join key balance own r =
        (λ i. refused-stream t (posted k key balance t) i ++ r i) ∙ sym (map-append text_packet (refused_by t (posted k key balance t)) (refusals_from k key (balance_after balance (posted k key balance t)) ts))

    by : (b : Bool) → has_key k key t ≡ b → ((key' : List ℕ) (balance' : Option ℕ) → key' ≡ key_in k t → refused_packets k (InGroup key' balance') (bracketed (fields k) (Some t) (stream_of ts)) ≡ stream_of (refusals_from k key' balance' ts)) → refused_packets k (InGroup key balance) (turn (fields k) (Some old) t ++ text_packet t ∷ bracketed (fields k) (Some t) (stream_of ts))
        ≡ stream_of (if b then refused_by t (posted k key balance t) ++ refusals_from k key (balance_after balance (posted k key balance t)) ts
        else refused_by t (posted k (key_in k t) None t) ++ refusals_from k (key_in k t) (balance_after None (posted k (key_in k t) None t)) ts)
    by true here rec =
        let same : key_in k t ≡ key = equal-bytes (key_in k t) key here in
        let test : bytes_eq (take k old) (take k t) ≡ true = (λ i. bytes_eq (sym is i) (same i)) ∙ same_bytes key in
        ap (λ (ps : List Tree). refused_packets k (InGroup key balance) (ps ++ text_packet t ∷ bracketed (fields k) (Some t) (stream_of ts))) (turn-one k old t true test)
        ∙ join key balance (sym same) (rec key (balance_after balance (posted k key balance t)) (sym same))
    by false other rec =
        let test : bytes_eq (take k old) (take k t) ≡ false = ap (λ (a : List ℕ). bytes_eq a (key_in k t)) (sym is) ∙ turned-bytes (key_in k t) key other in
        ap (λ (ps : List Tree). refused_packets k (InGroup key balance) (ps ++ text_packet t ∷ bracketed (fields k) (Some t) (stream_of ts))) (turn-one k old t false test)
        ∙ (λ i. refused_by (text_packet t) (posted k (opened-key k t i) None t) ++ refused_packets k (InGroup (opened-key k t i) (balance_after None (posted k (opened-key k t i) None t))) (bracketed (fields k) (Some t) (stream_of ts)))
        ∙ join (key_in k t) None refl (rec (key_in k t) (balance_after None (posted k (key_in k t) None t)) refl)

-- From the first text on

masters-all : (k : ℕ) (ts : List (List ℕ)) → new_masters k Outside (bracketed (fields k) None (stream_of ts)) ≡ lines (entries k ts)
masters-all k [] = refl
masters-all k (t ∷ ts) =
    (λ i. new_masters k (InGroup (opened-key k t i) (balance_after None (posted k (opened-key k t i) None t))) (bracketed (fields k) (Some t) (stream_of ts)))
    ∙ masters-from k t (key_in k t) (balance_after None (posted k (key_in k t) None t)) ts refl

refused-all : (k : ℕ) (ts : List (List ℕ)) → refused_packets k Outside (bracketed (fields k) None (stream_of ts)) ≡ stream_of (refusals k ts)
refused-all k [] = refl
refused-all k (t ∷ ts) =
    (λ i. refused_by (text_packet t) (posted k (opened-key k t i) None t) ++ refused_packets k (InGroup (opened-key k t i) (balance_after None (posted k (opened-key k t i) None t))) (bracketed (fields k) (Some t) (stream_of ts)))
    ∙ (λ i. refused-stream t (posted k (key_in k t) None t) i ++ refused-from k t (key_in k t) (balance_after None (posted k (key_in k t) None t)) ts refl i)
    ∙ sym (map-append text_packet (refused_by t (posted k (key_in k t) None t)) (refusals_from k (key_in k t) (balance_after None (posted k (key_in k t) None t)) ts))

-- The collation of two streams of texts

collated : (k : ℕ) (xs ys : List (List ℕ)) → collation (fields k) (stream_of xs ∷ stream_of ys ∷ []) ≡ bracketed (fields k) None (stream_of (merged_texts k xs ys))
collated k xs ys =
    ap (λ (n : ℕ). bracketed (fields k) None (merge n (stream_of xs) (merge n (stream_of ys) []))) (width-one k)
    ∙ ap (λ (s : List Tree). bracketed (fields k) None (merge k (stream_of xs) s)) (merge-nothing k (stream_of ys))
    ∙ ap (bracketed (fields k) None) (merge-stream k xs ys)

-- Update on the collation of sorted masters and details makes the book of the masters followed by the details.
pub batch-is-book : BatchIsBook
batch-is-book k xs ys sx sy = record {
  entries = entries k (merged_texts k xs ys);
  amounts = book-amounts k xs ys sx sy;
  lines = ap (new_masters k Outside) (collated k xs ys) ∙ masters-all k (merged_texts k xs ys);
  texts = refusals k (merged_texts k xs ys);
  stable = book-refused k xs ys sx sy;
  refusals = ap (refused_packets k Outside) (collated k xs ys) ∙ refused-all k (merged_texts k xs ys);
}
