-- Bytes and characters that are shown one after another, told by what is still to be shown.
use Rattle.std.proofs.Common.{◌≡◌, ℕ, ◌+◌, ◌<◌, ◌≤◌, Bool, not, List, ◌∷◌, ◌++◌, length, get_or, drop, sym, ◌∙◌, ap, append_assoc}
use mathlib.Core.List.{append-nil}
use Rattle.std.specs.Char.{encode_utf8}
use Rattle.std.proofs.lemmas.List.{drop_more, drop_all}
use Rattle.flow_drawing.specs.Quotes.{drives, last_of, shown_byte, shown_bytes, shown_letters}

-- the first that is left
front : (xs : List ℕ) (i x : ℕ) → i < length xs → x ≡ get_or xs i x → drop i xs ≡ x ∷ drop (i + 1) xs
front xs i x below is = drop_more xs i x below ∙ ap (λ (y : ℕ). y ∷ drop (i + 1) xs) (sym is)

-- one byte more
pub bytes-more : (may : Bool) (bytes : List ℕ) (i last b : ℕ) (old new whole : List ℕ) → i < length bytes → b ≡ get_or bytes i b → new ≡ old ++ shown_byte may last b
    → old ++ shown_bytes may last (drop i bytes) ≡ whole → new ++ shown_bytes may b (drop (i + 1) bytes) ≡ whole
bytes-more may bytes i last b old new whole below is grown so_far =
    ap (λ (l : List ℕ). l ++ shown_bytes may b (drop (i + 1) bytes)) grown ∙ append_assoc old (shown_byte may last b) (shown_bytes may b (drop (i + 1) bytes))
    ∙ ap (λ (l : List ℕ). old ++ shown_bytes may last l) (sym (front bytes i b below is)) ∙ so_far

pub last-more : (bytes : List ℕ) (i last b whole : ℕ) → i < length bytes → b ≡ get_or bytes i b → last_of last (drop i bytes) ≡ whole → last_of b (drop (i + 1) bytes) ≡ whole
last-more bytes i last b whole below is so_far = ap (last_of last) (sym (front bytes i b below is)) ∙ so_far

-- no byte is left
pub bytes-end : (may : Bool) (bytes : List ℕ) (i last : ℕ) (all whole : List ℕ) → length bytes ≤ i → all ++ shown_bytes may last (drop i bytes) ≡ whole → all ≡ whole
bytes-end may bytes i last all whole past so_far = sym (append-nil all) ∙ ap (λ (l : List ℕ). all ++ shown_bytes may last l) (sym (drop_all i bytes past)) ∙ so_far

pub last-end : (bytes : List ℕ) (i last whole : ℕ) → length bytes ≤ i → last_of last (drop i bytes) ≡ whole → last ≡ whole
last-end bytes i last whole past so_far = ap (last_of last) (sym (drop_all i bytes past)) ∙ so_far

-- one character more
pub letters-more : (cs : List ℕ) (i last c new_last : ℕ) (old new whole : List ℕ) → i < length cs → c ≡ get_or cs i c
    → new ≡ old ++ shown_bytes (not (drives c)) last (encode_utf8 c) → new_last ≡ last_of last (encode_utf8 c)
    → old ++ shown_letters last (drop i cs) ≡ whole → new ++ shown_letters new_last (drop (i + 1) cs) ≡ whole
letters-more cs i last c new_last old new whole below is grown told so_far =
    ap (λ (l : List ℕ). l ++ shown_letters new_last (drop (i + 1) cs)) grown
    ∙ ap (λ n. (old ++ shown_bytes (not (drives c)) last (encode_utf8 c)) ++ shown_letters n (drop (i + 1) cs)) told
    ∙ append_assoc old (shown_bytes (not (drives c)) last (encode_utf8 c)) (shown_letters (last_of last (encode_utf8 c)) (drop (i + 1) cs))
    ∙ ap (λ (l : List ℕ). old ++ shown_letters last l) (sym (front cs i c below is)) ∙ so_far

-- no character is left
pub letters-end : (cs : List ℕ) (i last : ℕ) (all whole : List ℕ) → length cs ≤ i → all ++ shown_letters last (drop i cs) ≡ whole → all ≡ whole
letters-end cs i last all whole past so_far = sym (append-nil all) ∙ ap (λ (l : List ℕ). all ++ shown_letters last l) (sym (drop_all i cs past)) ∙ so_far
