-- The book of a batch: what all its texts come to, one after another.
use Rattle.std.specs.Prelude.{ℕ, List, [], ◌∷◌, ◌++◌, Option, None}
use Rattle.std.specs.Map.{update}
use Rattle.std.specs.Str.{bytes_eq}
use Rattle.flow_batch.specs.Records.{key_in, posted}
use Rattle.flow_batch.specs.declared.records.Posting.{Posting}
use Rattle.flow_batch.specs.declared.records.Posting.TheVariants.{Applied, Refused}

-- The amount of each key that has one, and the texts that were refused, in order.
pub record Book : Type 0 where
  pub amounts : List ℕ → Option ℕ
  pub refused : List (List ℕ)

-- The book before any text.
abbrev pub empty_book : Book
empty_book = record { amounts = λ key. None; refused = [] }

-- The book once the text, whose key this is, is applied or refused.
abbrev pub with_posting : Book → List ℕ → List ℕ → Posting → Book
with_posting book key text (Applied balance) = record { amounts = update bytes_eq book.amounts key balance; refused = book.refused }
with_posting book key text Refused = record { amounts = book.amounts; refused = book.refused ++ text ∷ [] }

-- The book with a text more: its key's amount is the balance that it meets.
abbrev pub entered : ℕ → Book → List ℕ → Book
entered keylen book text = with_posting book (key_in keylen text) text (posted keylen (key_in keylen text) (book.amounts (key_in keylen text)) text)

-- The book with all these texts more, in order.
abbrev pub entered_all : ℕ → Book → List (List ℕ) → Book
entered_all keylen book [] = book
entered_all keylen book (text ∷ texts) = entered_all keylen (entered keylen book text) texts

-- The book of these texts.
abbrev pub book_of : ℕ → List (List ℕ) → Book
book_of keylen texts = entered_all keylen empty_book texts
