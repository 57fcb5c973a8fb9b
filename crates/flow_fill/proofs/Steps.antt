-- Steps of going over the lines of a file.
use Rattle.std.proofs.Common.{◌≡◌, ℕ, suc, Bool, true, false, cond, List, [], ◌∷◌, ◌++◌, length, length-append, refl, sym, ap, ◌∙◌, ◌+◌, append_assoc, arith, ◌<◌, ◌≤◌}
use Rattle.std.specs.List.{flat_map, prefix_len}
use Rattle.std.proofs.lemmas.List.Sums.{prefix_len-le-length}
use Rattle.flow_parse.specs.Spelling.{is_word_byte}
use Rattle.flow_fill.specs.declared.place.Place.{Place}
use Rattle.flow_fill.specs.declared.word.Given.{Given}
use Rattle.flow_fill.specs.declared.word.FileWord.{FileWord}
use Rattle.flow_fill.specs.Reading.{is_remark, is_header}
use Rattle.flow_fill.specs.Joining.{brought_by, row_here, subnet_rows, used_from, used_here, within_after}
use Rattle.flow_fill.specs.Filling.{ended, filled_line, filled_lines, is_third, place_after, text_of, word_here, words_from}

-- A word ends within the bytes that it begins.
pub word_within : (bytes : List ℕ) → prefix_len is_word_byte bytes ≤ length bytes
word_within bytes = prefix_len-le-length is_word_byte bytes

-- The first line here is no remark.
pub third_here : (all here rest : List (List ℕ)) (line : List ℕ) → is_third all ≡ is_third here → here ≡ line ∷ rest → is_remark line ≡ false → is_third all ≡ is_header line
third_here all here rest line so_far cut says = so_far ∙ ap is_third cut ∙ ap (λ (v : Bool). cond v (is_third rest) (is_header line)) says

-- The first line here is a remark.
pub third_on : (all here rest : List (List ℕ)) (line : List ℕ) → is_third all ≡ is_third here → here ≡ line ∷ rest → is_remark line ≡ true → is_third all ≡ is_third rest
third_on all here rest line so_far cut says = so_far ∙ ap is_third cut ∙ ap (λ (v : Bool). cond v (is_third rest) (is_header line)) says

-- One line more is filled.
pub fill_on : (place next : Place) (given : List Given) (here rest : List (List ℕ)) (line filled whole out new : List ℕ) → whole ≡ out ++ text_of (filled_lines place given here) → here ≡ line ∷ rest
    → filled ≡ filled_line place given line → new ≡ out ++ ended filled → next ≡ place_after place line → whole ≡ new ++ text_of (filled_lines next given rest)
fill_on place next given here rest line filled whole out new so_far cut fills after moves =
    let more = text_of (filled_lines (place_after place line) given rest) in
    so_far ∙ ap (λ (l : List (List ℕ)). out ++ text_of (filled_lines place given l)) cut ∙ sym (append_assoc out (ended (filled_line place given line)) more) ∙ ap (λ (l : List ℕ). (out ++ ended l) ++ more) (sym fills)
    ∙ ap (λ (l : List ℕ). l ++ more) (sym after) ∙ ap (λ (p : Place). new ++ text_of (filled_lines p given rest)) (sym moves)

-- A text is longer than what its beginning is longer than.
pub longer : (limit : ℕ) (whole new rest : List ℕ) → whole ≡ new ++ rest → limit < length new → limit < length whole
longer limit whole new rest is more = let e : length whole ≡ length new + length rest = ap length is ∙ length-append new rest in omega arith

-- The words of one line more are known.
pub words_on : (n m : ℕ) (place next : Place) (here rest : List (List ℕ)) (line : List ℕ) (whole words new : List FileWord) → whole ≡ words ++ words_from n place here → here ≡ line ∷ rest
    → new ≡ words ++ word_here n place line → next ≡ place_after place line → suc n ≡ m → whole ≡ new ++ words_from m next rest
words_on n m place next here rest line whole words new so_far cut after moves counts =
    let more = words_from (suc n) (place_after place line) rest in
    so_far ∙ ap (λ (l : List (List ℕ)). words ++ words_from n place l) cut ∙ sym (append_assoc words (word_here n place line) more) ∙ ap (λ (l : List FileWord). l ++ more) (sym after)
    ∙ ap (λ (p : Place). new ++ words_from (suc n) p rest) (sym moves) ∙ ap (λ (k : ℕ). new ++ words_from k next rest) counts

-- The text of lines is that of some of them and of the others behind it.
pub text_append : (xs ys : List (List ℕ)) → text_of (xs ++ ys) ≡ text_of xs ++ text_of ys
text_append [] ys = refl
text_append (x ∷ xs) ys = ap (λ (l : List ℕ). ended x ++ l) (text_append xs ys) ∙ sym (append_assoc (ended x) (text_of xs) (text_of ys))

-- Pieces one behind the other.
text_behind : (xs ys : List (List ℕ)) (out new : List ℕ) → new ≡ out ++ text_of xs → out ++ text_of (xs ++ ys) ≡ new ++ text_of ys
text_behind xs ys out new after = ap (λ (l : List ℕ). out ++ l) (text_append xs ys) ∙ sym (append_assoc out (text_of xs) (text_of ys)) ∙ ap (λ (l : List ℕ). l ++ text_of ys) (sym after)

-- One line more may use a file.
pub used_on : (place next : Place) (here rest : List (List ℕ)) (line : List ℕ) (whole files new : List (List ℕ)) → whole ≡ files ++ used_from place here → here ≡ line ∷ rest
    → new ≡ files ++ used_here place line → next ≡ place_after place line → whole ≡ new ++ used_from next rest
used_on place next here rest line whole files new so_far cut after moves =
    let more = used_from (place_after place line) rest in
    so_far ∙ ap (λ (l : List (List ℕ)). files ++ used_from place l) cut ∙ sym (append_assoc files (used_here place line) more) ∙ ap (λ (l : List (List ℕ)). l ++ more) (sym after)
    ∙ ap (λ (p : Place). new ++ used_from p rest) (sym moves)

-- One line more may be a subnet's.
pub subnets_on : (within next : Bool) (here rest : List (List ℕ)) (line whole out new : List ℕ) → whole ≡ out ++ text_of (subnet_rows within here) → here ≡ line ∷ rest
    → new ≡ out ++ ended (row_here within line) → next ≡ within_after within line → whole ≡ new ++ text_of (subnet_rows next rest)
subnets_on within next here rest line whole out new so_far cut after moves =
    let more = text_of (subnet_rows (within_after within line) rest) in
    so_far ∙ ap (λ (l : List (List ℕ)). out ++ text_of (subnet_rows within l)) cut ∙ sym (append_assoc out (ended (row_here within line)) more) ∙ ap (λ (l : List ℕ). l ++ more) (sym after)
    ∙ ap (λ (w : Bool). new ++ text_of (subnet_rows w rest)) (sym moves)

-- One line more is put.
pub lines_on : (here rest : List (List ℕ)) (line whole out new : List ℕ) → whole ≡ out ++ text_of here → here ≡ line ∷ rest → new ≡ out ++ ended line → whole ≡ new ++ text_of rest
lines_on here rest line whole out new so_far cut after =
    so_far ∙ ap (λ (l : List (List ℕ)). out ++ text_of l) cut ∙ sym (append_assoc out (ended line) (text_of rest)) ∙ ap (λ (l : List ℕ). l ++ text_of rest) (sym after)

-- The subnets of one file more are put.
pub brought_on : (here rest : List (List ℕ)) (file whole out new : List ℕ) → whole ≡ out ++ text_of (flat_map brought_by here) → here ≡ file ∷ rest → new ≡ out ++ text_of (brought_by file)
    → whole ≡ new ++ text_of (flat_map brought_by rest)
brought_on here rest file whole out new so_far cut after = so_far ∙ ap (λ (l : List (List ℕ)). out ++ text_of (flat_map brought_by l)) cut ∙ text_behind (brought_by file) (flat_map brought_by rest) out new after
