-- A book as two lists of texts: its amounts and its refused texts, in the order of their keys.
use Rattle.std.specs.Prelude.{◌≡◌, ℕ, Bool, false, List, [], ◌∷◌, ◌++◌, filter}
use Rattle.std.specs.Fmt.{decimal}
use Rattle.std.specs.List.{AllByRecursion}
use Rattle.std.specs.List.Sorted.{IsStrictlySortedBy}
use Rattle.std.specs.Map.{keys_of, lookup}
use Rattle.std.specs.Ordering.{nat_cmp, is_gt}
use Rattle.std.specs.Cmp.Lexicographic.{slice_cmp}
use Rattle.std.specs.Str.{bytes_eq}
use Rattle.flow_batch.specs.Records.{key_in}
use Rattle.flow_batch.specs.Book.{Book}

-- A key with its amount.
abbrev pub Entry : Type 0
Entry = List ℕ × ℕ

-- The text of an entry: the key, `M` and the amount, as a record that sets it.
abbrev pub line_of : Entry → List ℕ
line_of entry = entry.0 ++ 77 ∷ decimal entry.1

-- These are the amounts of a book: each key that has one, once, with its amount, in ascending order of the keys' bytes.
pub record AreAmounts (book : Book) (entries : List Entry) : Type 0 where
  pub ascend : IsStrictlySortedBy (slice_cmp nat_cmp) (keys_of entries)
  pub same : (key : List ℕ) → lookup (bytes_eq key) entries ≡ book.amounts key

-- One key is greater than another, in the order of bytes.
abbrev pub is_greater : List ℕ → List ℕ → Bool
is_greater a b = is_gt (slice_cmp nat_cmp a b)

-- The texts stand in ascending order of their keys: no text's key is greater than that of a later one.
abbrev pub IsSorted : ℕ → List (List ℕ) → Type 0
IsSorted keylen [] = Unit {0}
IsSorted keylen (text ∷ texts) = AllByRecursion (λ later. is_greater (key_in keylen text) (key_in keylen later) ≡ false) texts × IsSorted keylen texts

-- The text has this key.
abbrev pub has_key : ℕ → List ℕ → List ℕ → Bool
has_key keylen key text = bytes_eq (key_in keylen text) key

-- These are the same texts in stable ascending order of their keys: they are sorted, and those of each key are the same in the same order.
pub record IsStablySorted (keylen : ℕ) (texts sorted : List (List ℕ)) : Type 0 where
  pub ascends : IsSorted keylen sorted
  pub same : (key : List ℕ) → filter (has_key keylen key) sorted ≡ filter (has_key keylen key) texts
