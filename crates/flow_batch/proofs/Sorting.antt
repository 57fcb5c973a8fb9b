-- The groups of two sorted lists, merged, come to the book of the first list followed by the second.
use Rattle.std.proofs.Common.{◌≡◌, ℕ, List, ◌++◌, filter, None, sym, ap, ◌∙◌}
use Rattle.std.proofs.lemmas.List.Elements.{filter-append}
use Rattle.flow_batch.specs.Book.{book_of, empty_book}
use Rattle.flow_batch.specs.Ledger.{IsSorted, has_key, AreAmounts, IsStablySorted}
use Rattle.flow_batch.proofs.Classes.{group_balance, group_refused, amount-of, refused-of}
use Rattle.flow_batch.proofs.Merges.{merged_texts, sorted-merged, class-merged}
use Rattle.flow_batch.proofs.Groups.{entries, refusals, entries-at, refusals-at, refusals-sorted, ascending}

module _ (keylen : ℕ) (masters details : List (List ℕ)) (first : IsSorted keylen masters) (second : IsSorted keylen details) where
  abbrev texts : List (List ℕ)
  texts = merged_texts keylen masters details

  sorted : IsSorted keylen texts
  sorted = sorted-merged keylen masters details first second

  -- for each key the merge has the same texts in the same order
  class : (q : List ℕ) → filter (has_key keylen q) texts ≡ filter (has_key keylen q) (masters ++ details)
  class q = class-merged keylen q masters details first ∙ sym (filter-append (has_key keylen q) masters details)

  -- The entries are the amounts of the book.
  pub book-amounts : AreAmounts (book_of keylen (masters ++ details)) (entries keylen texts)
  book-amounts = record {
    ascend = ascending keylen texts sorted;
    same = λ q. entries-at keylen q texts sorted ∙ ap (group_balance keylen q None) (class q) ∙ sym (amount-of keylen q (masters ++ details) empty_book);
  }

  -- The refused texts are those of the book.
  pub book-refused : IsStablySorted keylen (book_of keylen (masters ++ details)).refused (refusals keylen texts)
  book-refused = record {
    ascends = refusals-sorted keylen texts sorted;
    same = λ q. refusals-at keylen q texts sorted ∙ ap (group_refused keylen q None) (class q) ∙ sym (refused-of keylen q (masters ++ details) empty_book);
  }
