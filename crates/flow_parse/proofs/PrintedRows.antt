-- The row of tokens that a line of pieces is.
use Rattle.std.proofs.Common.{◌≡◌, ◌≢◌, ℕ, ◌≤◌, true, eqb, List, [], ◌∷◌, ◌++◌, map, refl, sym, ap, subst, append_assoc, arith}
use Rattle.std.specs.List.{AllByRecursion, flat_map, join_with_byte}
use Rattle.std.proofs.lemmas.List.{append-nil}
use Rattle.flow_parse.specs.declared.token.Token.{Token}
use Rattle.flow_parse.specs.declared.token.Token.TheVariants.{Word, Arrow, Open, Close, OpenBracket, CloseBracket, AutomaticInput, AutomaticOutput, Quoted}
use Rattle.flow_parse.specs.Spelling.{is_word_byte, spelling, doubled, DoesntBegin, Ends, BeginsRow, IsRow}
use Rattle.flow_parse.proofs.PrintedLines.{Closed, closed_behind, closed_word, closed_quoted}

-- Nothing, or a space in front.
abbrev pub Free : List ℕ → Type 0
Free [] = Unit {0}
Free (b ∷ bs) = b ≡ 32

-- Each token ends where the next begins, and the last where nothing or a space follows.
abbrev pub Tight : ℕ → List Token → Type 0
Tight version [] = Unit {0}
Tight version (t ∷ ts) = ((rest : List ℕ) → Free rest → Ends version t (flat_map spelling ts ++ rest)) × Tight version ts

-- A piece of a line of a file of this version.
pub record Piece (version : ℕ) (tokens : List Token) : Type 0 where
  pub first : Token
  pub others : List Token
  pub are : tokens ≡ first ∷ others
  pub tight : Tight version tokens
  pub closed : Closed (flat_map spelling tokens)

-- A word.
abbrev pub IsWord : List ℕ → Type 0
IsWord w = (w ≢ []) × AllByRecursion (λ b. is_word_byte b ≡ true) w

spelled : (version : ℕ) (ts : List Token) → Tight version ts → (rest : List ℕ) → Free rest → BeginsRow version (flat_map spelling ts ++ rest) ts rest
spelled version [] tight rest free = refl
spelled version (t ∷ ts) tight rest free = (
  flat_map spelling ts ++ rest,
  record { blanks = []; are_blank = tt; parts = append_assoc (spelling t) (flat_map spelling ts) rest; ends = tight.0 rest free },
  spelled version ts tight.1 rest free,
)

row_append : (version : ℕ) (a : List ℕ) (ts : List Token) (b : List ℕ) (us : List Token) (c : List ℕ) → BeginsRow version a ts b → BeginsRow version b us c → BeginsRow version a (ts ++ us) c
row_append version a [] b us c x y = subst (λ (l : List ℕ). BeginsRow version l us c) (sym x) y
row_append version a (t ∷ ts) b us c x y = (x.0, x.1, row_append version x.0 ts b us c x.2 y)

after_space : (version : ℕ) (bytes : List ℕ) (t : Token) (ts : List Token) (rest : List ℕ) → BeginsRow version bytes (t ∷ ts) rest → BeginsRow version (32 ∷ bytes) (t ∷ ts) rest
after_space version bytes t ts rest row = (row.0, record { blanks = 32 ∷ row.1.blanks; are_blank = (refl, row.1.are_blank); parts = ap (λ (l : List ℕ). 32 ∷ l) row.1.parts; ends = row.1.ends }, row.2)

-- The tokens of pieces.
abbrev pub tokens_of : List (List Token) → List Token
tokens_of pieces = flat_map (λ p. p) pieces

-- A line of pieces, without its end.
abbrev pub joined : List (List Token) → List ℕ
joined pieces = join_with_byte 32 (map (flat_map spelling) pieces)

pieces_row : (version : ℕ) (p : List Token) (more : List (List Token)) → Piece version p → AllByRecursion (Piece version) more → BeginsRow version (joined (p ∷ more)) (tokens_of (p ∷ more)) []
pieces_row version p [] is all =
    let row : BeginsRow version (flat_map spelling p ++ []) p [] = spelled version p is.tight [] tt in
    let row2 : BeginsRow version (flat_map spelling p) p [] = subst (λ (l : List ℕ). BeginsRow version l p []) (append-nil (flat_map spelling p)) row in
    subst (λ (ts : List Token). BeginsRow version (flat_map spelling p) ts []) (sym (append-nil p)) row2
pieces_row version p (q ∷ more) is all =
    let rest : BeginsRow version (joined (q ∷ more)) (tokens_of (q ∷ more)) [] = pieces_row version q more all.0 all.1 in
    let begin : tokens_of (q ∷ more) ≡ all.0.first ∷ (all.0.others ++ tokens_of more) = ap (λ (l : List Token). l ++ tokens_of more) all.0.are in
    let there : BeginsRow version (joined (q ∷ more)) (all.0.first ∷ (all.0.others ++ tokens_of more)) [] = subst (λ (ts : List Token). BeginsRow version (joined (q ∷ more)) ts []) begin rest in
    let spaced : BeginsRow version (32 ∷ joined (q ∷ more)) (tokens_of (q ∷ more)) [] = subst (λ (ts : List Token). BeginsRow version (32 ∷ joined (q ∷ more)) ts []) (sym begin) (after_space version (joined (q ∷ more)) all.0.first (all.0.others ++ tokens_of more) [] there) in
    row_append version (flat_map spelling p ++ 32 ∷ joined (q ∷ more)) p (32 ∷ joined (q ∷ more)) (tokens_of (q ∷ more)) [] (spelled version p is.tight (32 ∷ joined (q ∷ more)) refl) spaced

-- A line of pieces is the row of their tokens.
pub pieces_are_row : (version : ℕ) (p : List Token) (more : List (List Token)) → Piece version p → AllByRecursion (Piece version) more → IsRow version (joined (p ∷ more)) (tokens_of (p ∷ more))
pieces_are_row version p more is all = ([], pieces_row version p more is all, tt)

-- Pieces of a line are, joined by spaces, a closed text.
pub pieces_closed : (version : ℕ) (p : List Token) (more : List (List Token)) → Piece version p → AllByRecursion (Piece version) more → Closed (joined (p ∷ more))
pieces_closed version p [] is all = is.closed
pieces_closed version p (q ∷ more) is all = closed_behind (flat_map spelling p) (32 ∷ joined (q ∷ more)) is.closed.one_line (closed_behind (32 ∷ []) (joined (q ∷ more)) (λ e. omega arith, tt) (pieces_closed version q more all.0 all.1))

-- pieces

free_word : (rest : List ℕ) → Free rest → DoesntBegin is_word_byte rest
free_word [] free = tt
free_word (b ∷ bs) free = rw free refl

free_quote : (rest : List ℕ) → Free rest → DoesntBegin (λ b. eqb b 39) rest
free_quote [] free = tt
free_quote (b ∷ bs) free = rw free refl

closed_of_word : (w : List ℕ) → IsWord w → Closed w
closed_of_word [] is = absurd (is.0 refl)
closed_of_word (b ∷ bs) is = closed_word b bs is.1

-- a token of one byte behind others
closed_mark : (bytes : List ℕ) (mark : ℕ) → AllByRecursion (λ b. b ≢ 10) bytes → mark ≢ 10 → mark ≢ 13 → Closed (bytes ++ mark ∷ [])
closed_mark bytes mark all a b = closed_behind bytes (mark ∷ []) all (record { one_line = (a, tt); front = []; last = mark; whole = refl; stays = b })

-- A word is a piece of a line.
pub word_piece : (version : ℕ) (w : List ℕ) → IsWord w → Piece version (Word w ∷ [])
word_piece version w is = record {
  first = Word w;
  others = [];
  are = refl;
  tight = (λ rest free. (is.0, is.1, free_word rest free), tt);
  closed = subst Closed (sym (append-nil w)) (closed_of_word w is);
}

-- An arrow is a piece of a line.
pub arrow_piece : (version : ℕ) → Piece version (Arrow ∷ [])
arrow_piece version = record {
  first = Arrow;
  others = [];
  are = refl;
  tight = (λ rest free. tt, tt);
  closed = record { one_line = (λ e. omega arith, (λ e. omega arith, tt)); front = 45 ∷ []; last = 62; whole = refl; stays = λ e. omega arith };
}

-- A token of a file of version 2 or a later one that no byte of a word follows, where its bytes are closed, is a piece of a line.
automatic_piece : (version : ℕ) (t : Token) → ((rest : List ℕ) → DoesntBegin is_word_byte rest → Ends version t rest) → Closed (spelling t ++ []) → Piece version (t ∷ [])
automatic_piece version t ends closed = record { first = t; others = []; are = refl; tight = (λ rest free. ends rest (free_word rest free), tt); closed = closed }

-- The automatic input is a piece of a line.
pub automatic_input_piece : (version : ℕ) → 2 ≤ version → Piece version (AutomaticInput ∷ [])
automatic_input_piece version later = automatic_piece version AutomaticInput (λ rest free. (later, free)) (record { one_line = (λ e. omega arith, (λ e. omega arith, (λ e. omega arith, tt))); front = 42 ∷ 73 ∷ []; last = 78; whole = refl; stays = λ e. omega arith })

-- The automatic output is a piece of a line.
pub automatic_output_piece : (version : ℕ) → 2 ≤ version → Piece version (AutomaticOutput ∷ [])
automatic_output_piece version later = automatic_piece version AutomaticOutput (λ rest free. (later, free)) (record { one_line = (λ e. omega arith, (λ e. omega arith, (λ e. omega arith, (λ e. omega arith, tt)))); front = 42 ∷ 79 ∷ 85 ∷ []; last = 84; whole = refl; stays = λ e. omega arith })

-- A quoted text without line ends is a piece of a line.
pub quoted_piece : (version : ℕ) (text : List ℕ) → AllByRecursion (λ b. b ≢ 10) text → Piece version (Quoted text ∷ [])
quoted_piece version text all = record {
  first = Quoted text;
  others = [];
  are = refl;
  tight = (λ rest free. free_quote rest free, tt);
  closed = subst Closed (sym (append-nil (39 ∷ doubled text ++ 39 ∷ []))) (closed_quoted text all);
}

-- A word in parentheses.
pub closed_piece : (version : ℕ) (w : List ℕ) → IsWord w → Piece version (Open ∷ Word w ∷ Close ∷ [])
closed_piece version w is = record {
  first = Open;
  others = Word w ∷ Close ∷ [];
  are = refl;
  tight = (λ rest free. tt, (λ rest free. (is.0, is.1, refl), (λ rest free. tt, tt)));
  closed = closed_mark (40 ∷ w) 41 (λ e. omega arith, (closed_of_word w is).one_line) (λ e. omega arith) (λ e. omega arith);
}

-- A word with a word in parentheses.
pub kinded_piece : (version : ℕ) (n k : List ℕ) → IsWord n → IsWord k → Piece version (Word n ∷ Open ∷ Word k ∷ Close ∷ [])
kinded_piece version n k isn isk = record {
  first = Word n;
  others = Open ∷ Word k ∷ Close ∷ [];
  are = refl;
  tight = (λ rest free. (isn.0, isn.1, refl), (closed_piece version k isk).tight);
  closed = closed_behind n (40 ∷ (k ++ 41 ∷ [])) (closed_of_word n isn).one_line (closed_piece version k isk).closed;
}

-- A word with a word in brackets.
pub bracketed_piece : (version : ℕ) (n k : List ℕ) → IsWord n → IsWord k → Piece version (Word n ∷ OpenBracket ∷ Word k ∷ CloseBracket ∷ [])
bracketed_piece version n k isn isk = record {
  first = Word n;
  others = OpenBracket ∷ Word k ∷ CloseBracket ∷ [];
  are = refl;
  tight = (λ rest free. (isn.0, isn.1, refl), (λ rest free. tt, (λ rest free. (isk.0, isk.1, refl), (λ rest free. tt, tt))));
  closed = closed_behind n (91 ∷ (k ++ 93 ∷ [])) (closed_of_word n isn).one_line (closed_mark (91 ∷ k) 93 (λ e. omega arith, (closed_of_word k isk).one_line) (λ e. omega arith) (λ e. omega arith));
}
