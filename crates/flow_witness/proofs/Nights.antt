-- The network of the worked masters and details is a batch update.
use Rattle.std.proofs.Common.{◌≡◌, ℕ, zero, suc, ◌≤◌, Bool, true, false, List, [], ◌∷◌, ◌++◌, map, filter, length, Option, Some, None, refl, sym, ap, ◌∙◌, subst, arith, slice_get}
use Rattle.std.specs.List.Sorted.{IsStrictlySortedBy}
use Rattle.std.specs.Map.{lookup, update}
use Rattle.std.specs.Str.{bytes_eq}
use Rattle.std.specs.Str.Parse.{AllDigits, digits_value}
use Rattle.std.proofs.lemmas.Str.Parse.{IsNumeralModel}
use Rattle.std.specs.Prelude.{codes}
use Rattle.std.specs.Fmt.{decimal}
use Rattle.std.proofs.lemmas.Fmt.{decimal_digit, decimal-digits_value}
use Rattle.flow_plan.specs.declared.plan.Process.{Process}
use Rattle.flow_plan.specs.declared.plan.Connection.{Connection}
use Rattle.flow_batch.specs.Book.{Book, book_of}
use Rattle.flow_batch.specs.Ledger.{Entry, line_of, has_key, AreAmounts, IsStablySorted}
use Rattle.flow_batch.proofs.Keys.{equal-bytes, turned-bytes}
use Rattle.flow_batch.proofs.Uniques.{one-list, one-order}
use Rattle.flow_catalogue.specs.declared.table.StdKind.TheVariants as kinds
use Rattle.flow_catalogue.specs.Kinds.{name_of}
use Rattle.flow_model.specs.Plans.{sends_at, receives_at}
use Rattle.flow_meanings.specs.Batches.{Feeds, IsBatch, file_of}
use Rattle.flow_determinate.specs.Standard.{IsNamedStandard, IsDeterminate}
use Rattle.flow_meanings.proofs.Batching.{batch-means}
use Rattle.flow_meanings.proofs.Chaining.{unmerged-plan}
use Rattle.flow_witness.specs.Nightly.{nightly, masters, details, NightlyMeans}
use Rattle.flow_witness.proofs.TelegramComposed.{process_at}

abbrev process : ℕ → Process
process p = process_at p nightly.processes

-- what holds of each element holds of any
abbrev Each : {X : Type 0} → (X → Type 0) → List X → Type 0
Each P [] = Unit {0}
Each P (x ∷ xs) = P x × Each P xs

each-at : {X : Type 0} (P : X → Type 0) (xs : List X) → Each P xs → (k : ℕ) (x : X) → slice_get xs k ≡ Some x → P x
each-at P [] all k x at = absurd (cc)
each-at P (y ∷ xs) all zero x at = subst P (let e : y ≡ x = cc in e) all.0
each-at P (y ∷ xs) all (suc k) x at = each-at P xs all.1 k x at

no-merge : IsDeterminate nightly
no-merge = record {
  one_sender = λ c connection is. each-at (λ (x : Connection). length x.senders ≤ 1) nightly.connections (omega arith, (omega arith, (omega arith, (omega arith, (omega arith, tt))))) c connection is;
  standard = λ p x is. each-at IsNamedStandard nightly.processes ((kinds.ReadLines, refl), ((kinds.ReadLines, refl), ((kinds.Collate, refl), ((kinds.Update, refl), ((kinds.WriteLines, refl), ((kinds.WriteLines, refl), tt)))))) p x is;
  no_balance = λ p x is. each-at (λ (y : Process). y.kind ≡ name_of kinds.LoadBalance → ⊥) nightly.processes ((λ h. cc), ((λ h. cc), ((λ h. cc), ((λ h. cc), ((λ h. cc), ((λ h. cc), tt)))))) p x is;
}

feeds : (p o q i c : ℕ) → sends_at nightly p o ≡ Some c → receives_at nightly q i ≡ Some c → Feeds nightly p o q i
feeds p o q i c sends receives = record { connection = c; sends = sends; alone = λ r s is. unmerged-plan nightly no-merge c r s p o is sends; receives = receives }

abbrev option : List ℕ → List (ℕ × List ℕ)
option text = (0, text) ∷ []

spelled : option (codes "2") ≡ option (decimal 2)
spelled = ap option (sym (decimal_digit 2 (omega arith)))

-- It is a batch update of keys of two bytes.
pub nightly-batch : IsBatch nightly 2 0 1 4 5
nightly-batch = record {
  collator = 2;
  updater = 3;
  reads_masters = record { process = process 0; there = refl; named = refl };
  reads_details = record { process = process 1; there = refl; named = refl };
  collates = record { of_kind = record { process = process 2; there = refl; named = refl }; spelled = spelled };
  two = refl;
  updates = record { of_kind = record { process = process 3; there = refl; named = refl }; spelled = spelled };
  writes_new = record { process = process 4; there = refl; named = refl };
  writes_refused = record { process = process 5; there = refl; named = refl };
  from_masters = feeds 0 0 2 0 0 refl refl;
  from_details = feeds 1 0 2 1 1 refl refl;
  to_updater = feeds 2 0 3 0 2 refl refl;
  to_new = feeds 3 0 4 0 3 refl refl;
  to_refused = feeds 3 1 5 0 4 refl refl;
}

-- Its book

std_digits : IsNumeralModel (AllDigits 10) (digits_value 10)
std_digits = record { to = λ ds h. h; from = λ ds h. h; same = λ ds h. refl }

ten : decimal 10 ≡ codes "10"
ten = decimal-digits_value std_digits (codes "10") (omega arith, (omega arith, tt)) (omega arith) (λ h. absurd (omega (arith, h))) (omega arith)

seventeen : decimal 17 ≡ codes "17"
seventeen = decimal-digits_value std_digits (codes "17") (omega arith, (omega arith, tt)) (omega arith) (λ h. absurd (omega (arith, h))) (omega arith)

four : decimal 4 ≡ codes "4"
four = decimal_digit 4 (omega arith)

five : decimal 5 ≡ codes "5"
five = decimal_digit 5 (omega arith)

seven : decimal 7 ≡ codes "7"
seven = decimal_digit 7 (omega arith)

nine : decimal 9 ≡ codes "9"
nine = decimal_digit 9 (omega arith)

abbrev worked : Book
worked = book_of 2 (masters ++ details)

abbrev entries : List Entry
entries = (codes "k1", 17) ∷ (codes "k2", 5) ∷ (codes "k3", 4) ∷ []

abbrev refused : List (List ℕ)
refused = codes "k2-9" ∷ []

refused-is : worked.refused ≡ refused
refused-is = rw (ten, five, seven, nine, four) refl

abbrev told : List ℕ → Option ℕ
told key = update bytes_eq (update bytes_eq (update bytes_eq (update bytes_eq (λ other. None) (codes "k1") (Some 10)) (codes "k2") (Some 5)) (codes "k1") (Some 17)) (codes "k3") (Some 4) key

told-at : (key : List ℕ) → lookup (bytes_eq key) entries ≡ told key
told-at key = by (bytes_eq key (codes "k1")) (bytes_eq key (codes "k2")) (bytes_eq key (codes "k3")) refl refl refl
  where
    own : (k : List ℕ) → bytes_eq key k ≡ true → lookup (bytes_eq k) entries ≡ told k → lookup (bytes_eq key) entries ≡ told key
    own k is at = subst (λ (x : List ℕ). lookup (bytes_eq x) entries ≡ told x) (sym (equal-bytes key k is)) at

    by : (a b c : Bool) → bytes_eq key (codes "k1") ≡ a → bytes_eq key (codes "k2") ≡ b → bytes_eq key (codes "k3") ≡ c → lookup (bytes_eq key) entries ≡ told key
    by true b c e f g = own (codes "k1") e refl
    by false true c e f g = own (codes "k2") f refl
    by false false true e f g = own (codes "k3") g refl
    by false false false e f g =
        let x = turned-bytes key (codes "k1") e in
        let y = turned-bytes key (codes "k2") f in
        let z = turned-bytes key (codes "k3") g in
        rw (e, f, g, z, x, y) refl

amount-at : (key : List ℕ) → lookup (bytes_eq key) entries ≡ worked.amounts key
amount-at key = rw (ten, five, seven, nine, four) (told-at key)

amounts-are : AreAmounts worked entries
unfolding IsStrictlySortedBy
amounts-are = record { ascend = ((refl, (refl, tt)), ((refl, tt), (tt, tt))); same = amount-at }

refused-are : IsStablySorted 2 worked.refused refused
refused-are = record { ascends = (tt, tt); same = λ key. ap (λ (texts : List (List ℕ)). filter (has_key 2 key) texts) (sym refused-is) }

lines-are : file_of (map line_of entries) ≡ codes "k1M17\nk2M5\nk3M4\n"
lines-are = rw (seventeen, five, four) refl

-- What it means, for the worked files.
pub nightly-means : NightlyMeans
nightly-means = record {
  is_batch = nightly-batch;
  files = λ ks wrote are m one two.
      let b = batch-means nightly ks wrote are m 2 0 1 4 5 masters details (omega arith) nightly-batch one two ((refl, tt), (tt, tt)) ((refl, (refl, tt)), ((refl, tt), (tt, tt))) in
      let e = one-list worked b.entries entries b.amounts amounts-are in
      let t = one-order 2 worked.refused b.texts refused b.stable refused-are in
      (b.lines ∙ ap (λ (es : List Entry). file_of (map line_of es)) e ∙ lines-are, b.refusals ∙ ap file_of t);
}
