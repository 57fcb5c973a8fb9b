-- A book has one pair of files.
use Rattle.std.specs.Prelude.{◌≡◌, ℕ, List}
use Rattle.flow_batch.specs.Book.{Book}
use Rattle.flow_batch.specs.Ledger.{Entry, AreAmounts, IsStablySorted}

-- A book's amounts are one list of entries.
abbrev pub OneList : Type 0
OneList = (book : Book) (one other : List Entry) → AreAmounts book one → AreAmounts book other → one ≡ other

-- Texts have one stable order.
abbrev pub OneOrder : Type 0
OneOrder = (keylen : ℕ) (texts one other : List (List ℕ)) → IsStablySorted keylen texts one → IsStablySorted keylen texts other → one ≡ other
