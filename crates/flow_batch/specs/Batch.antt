-- The batch update of sorted files, as streams.
use Rattle.std.specs.Prelude.{◌≡◌, ℕ, List, [], ◌∷◌, ◌++◌, map}
use Rattle.flow_packet.specs.Tree.{Tree}
use Rattle.flow_component.specs.Runs.{text_packet}
use Rattle.flow_streams.specs.Collated.{collation}
use Rattle.flow_batch.specs.Book.{Book, book_of}
use Rattle.flow_batch.specs.Ledger.{Entry, line_of, IsSorted, AreAmounts, IsStablySorted}
use Rattle.flow_batch.specs.Around.{Outside}
use Rattle.flow_batch.specs.Updated.{new_masters, refused_packets}

-- The two streams are a book: a line for each key that has an amount, in ascending order of keys, with that amount; and the refused texts in stable ascending order of their keys.
pub record IsBook (keylen : ℕ) (book : Book) (new refused : List Tree) : Type 0 where
  pub entries : List Entry
  pub amounts : AreAmounts book entries
  pub lines : new ≡ map (λ entry. text_packet (line_of entry)) entries
  pub texts : List (List ℕ)
  pub stable : IsStablySorted keylen book.refused texts
  pub refusals : refused ≡ map text_packet texts

-- The texts as a stream of Normal packets.
abbrev pub stream_of : List (List ℕ) → List Tree
stream_of texts = map text_packet texts

-- What Update makes of the collation of masters and details by their keys, both sorted, is the book of the masters followed by the details.
abbrev pub BatchIsBook : Type 0
BatchIsBook = (keylen : ℕ) (masters details : List (List ℕ)) → IsSorted keylen masters → IsSorted keylen details
    → IsBook keylen (book_of keylen (masters ++ details)) (new_masters keylen Outside (collation (keylen ∷ []) (stream_of masters ∷ stream_of details ∷ []))) (refused_packets keylen Outside (collation (keylen ∷ []) (stream_of masters ∷ stream_of details ∷ [])))
