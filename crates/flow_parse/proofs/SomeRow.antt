-- A line is a row of tokens, or has a bad byte or an open quote.
use Rattle.std.proofs.Common.{◌≡◌, ℕ, zero, suc, ◌+◌, ◌<◌, ◌≤◌, Bool, true, false, eqb, leb, List, [], ◌∷◌, ◌++◌, length, take, drop, refl, sym, ap, subst, ◌∙◌, arith, length-append, inl, inr}
use Rattle.std.specs.Prelude.{◌==◌, codes, take_while}
use Rattle.std.specs.Str.{bytes_eq}
use Rattle.std.specs.List.{prefix_len}
use Rattle.std.proofs.lemmas.Bool.{eqb-true, eqb-false, leb-true, leb-false, false≢true}
use Rattle.std.proofs.lemmas.List.{append-nil, take-append-drop}
use Rattle.std.proofs.lemmas.Slice.Eq.{bytes_eq-Decides}
use Rattle.flow_parse.specs.declared.token.Token.{Token}
use Rattle.flow_parse.specs.declared.token.Token.TheVariants.{Word, Arrow, Open, Close, OpenBracket, CloseBracket, AutomaticInput, AutomaticOutput, Quoted}
use Rattle.flow_parse.specs.Spelling.{is_blank, is_word_byte, Blank, doubled, spelling, DoesntBegin, Ends, Begins, IsRow, NamesAutomatic, IsBadByte, HasBadByte, HasOpenQuote}
use Rattle.flow_parse.proofs.Cutting.{passes_all, stops_after}

-- Blanks, and what stands behind them.
pub record Stripped (bytes : List ℕ) : Type 0 where
  pub blanks : List ℕ
  pub rest : List ℕ
  pub parts : bytes ≡ blanks ++ rest
  pub are_blank : Blank blanks
  pub stops : DoesntBegin is_blank rest

-- Any bytes are blanks, and behind them what begins with none.
pub strip : (bytes : List ℕ) → Stripped bytes
strip [] = record { blanks = []; rest = []; parts = refl; are_blank = tt; stops = tt }
strip (b ∷ bs) = by (is_blank b) refl (strip bs) where
  by : (v : Bool) → is_blank b ≡ v → Stripped bs → Stripped (b ∷ bs)
  by true e s = record { blanks = b ∷ s.blanks; rest = s.rest; parts = ap (λ (l : List ℕ). b ∷ l) s.parts; are_blank = (e, s.are_blank); stops = s.stops }
  by false e s = record { blanks = []; rest = b ∷ bs; parts = refl; are_blank = tt; stops = e }

-- What stands behind an opening quote: a text that is closed, or one that isn't.
data Quote (bytes : List ℕ) : Type 0 where
  closed : (text rest : List ℕ) → bytes ≡ doubled text ++ 39 ∷ rest → DoesntBegin (λ c. c == 39) rest → Quote bytes
  unclosed : (text : List ℕ) → bytes ≡ doubled text → Quote bytes

-- A byte that is no quote stands for itself, and two quotes for one.
other_first : (b : ℕ) (text : List ℕ) → eqb b 39 ≡ false → doubled (b ∷ text) ≡ b ∷ doubled text
other_first b text e = rw e refl

put_other : (b : ℕ) (bs : List ℕ) → eqb b 39 ≡ false → Quote bs → Quote (b ∷ bs)
put_other b bs e (closed text rest parts ends) = closed (b ∷ text) rest (ap (λ (l : List ℕ). b ∷ l) parts ∙ ap (λ (l : List ℕ). l ++ 39 ∷ rest) (sym (other_first b text e))) ends
put_other b bs e (unclosed text parts) = unclosed (b ∷ text) (ap (λ (l : List ℕ). b ∷ l) parts ∙ sym (other_first b text e))

put_quotes : (b c : ℕ) (cs : List ℕ) → b ≡ 39 → c ≡ 39 → Quote cs → Quote (b ∷ c ∷ cs)
put_quotes b c cs eb ec (closed text rest parts ends) = closed (39 ∷ text) rest (ap (λ (n : ℕ). n ∷ c ∷ cs) eb ∙ ap (λ (n : ℕ). 39 ∷ n ∷ cs) ec ∙ ap (λ (l : List ℕ). 39 ∷ 39 ∷ l) parts) ends
put_quotes b c cs eb ec (unclosed text parts) = unclosed (39 ∷ text) (ap (λ (n : ℕ). n ∷ c ∷ cs) eb ∙ ap (λ (n : ℕ). 39 ∷ n ∷ cs) ec ∙ ap (λ (l : List ℕ). 39 ∷ 39 ∷ l) parts)

quote : (n : ℕ) (bytes : List ℕ) → length bytes ≤ n → Quote bytes
quote n [] fits = unclosed [] refl
quote zero (b ∷ bs) fits = absurd (omega arith)
quote (suc n) (b ∷ []) fits = by (eqb b 39) refl where
  by : (v : Bool) → eqb b 39 ≡ v → Quote (b ∷ [])
  by true e = closed [] [] (ap (λ (x : ℕ). x ∷ []) (eqb-true b 39 e)) tt
  by false e = unclosed (b ∷ []) (sym (other_first b [] e))
quote (suc n) (b ∷ c ∷ cs) fits = by (eqb b 39) refl (eqb c 39) refl (quote n (c ∷ cs) (omega arith)) (quote n cs (omega arith)) where
  by : (v : Bool) → eqb b 39 ≡ v → (w : Bool) → eqb c 39 ≡ w → Quote (c ∷ cs) → Quote cs → Quote (b ∷ c ∷ cs)
  by true e true f one two = put_quotes b c cs (eqb-true b 39 e) (eqb-true c 39 f) two
  by true e false f one two = closed [] (c ∷ cs) (ap (λ (x : ℕ). x ∷ c ∷ cs) (eqb-true b 39 e)) f
  by false e w f one two = put_other b (c ∷ cs) e one

-- What bytes begin with that are not empty and begin with no blank.
data Cut (version : ℕ) (bytes : List ℕ) : Type 0 where
  token : (t : Token) (rest : List ℕ) → bytes ≡ spelling t ++ rest → Ends version t rest → length rest < length bytes → Cut version bytes
  bad : IsBadByte version bytes → Cut version bytes
  quote_open : (text : List ℕ) → bytes ≡ 39 ∷ doubled text → Cut version bytes

-- A token of one byte.
cut_one : (version : ℕ) (t : Token) (b n : ℕ) (bs : List ℕ) → b ≡ n → spelling t ≡ n ∷ [] → Ends version t bs → Cut version (b ∷ bs)
cut_one version t b n bs e spelled ends = token t bs (ap (λ (x : ℕ). x ∷ bs) e ∙ ap (λ (l : List ℕ). l ++ bs) (sym spelled)) ends (omega arith)

cut_quote : (version : ℕ) (b : ℕ) (bs : List ℕ) → b ≡ 39 → Quote bs → Cut version (b ∷ bs)
cut_quote version b bs e (closed text rest parts ends) =
    let whole : b ∷ bs ≡ spelling (Quoted text) ++ rest = ap (λ (x : ℕ). x ∷ bs) e ∙ ap (λ (l : List ℕ). 39 ∷ l) (parts ∙ sym (append_one (doubled text) rest)) in
    token (Quoted text) rest whole ends (let size = ap length parts ∙ length-append (doubled text) (39 ∷ rest) in omega (arith, size))
  where
    append_one : (xs ys : List ℕ) → (xs ++ 39 ∷ []) ++ ys ≡ xs ++ 39 ∷ ys
    append_one [] ys = refl
    append_one (x ∷ xs) ys = ap (λ (l : List ℕ). x ∷ l) (append_one xs ys)
cut_quote version b bs e (unclosed text parts) = quote_open text (ap (λ (x : ℕ). x ∷ bs) e ∙ ap (λ (l : List ℕ). 39 ∷ l) parts)

-- A word is the longest run of its bytes.
cut_word : (version : ℕ) (b : ℕ) (bs : List ℕ) → is_word_byte b ≡ true → Cut version (b ∷ bs)
cut_word version b bs is =
    let k = prefix_len is_word_byte bs in
    token (Word (b ∷ take k bs)) (drop k bs) (ap (λ (l : List ℕ). b ∷ l) (sym (take-append-drop k bs)))
    ((λ e. cc), (is, passes_all is_word_byte bs), stops_after is_word_byte bs)
    (let size = ap length (take-append-drop k bs) in let sum = length-append (take k bs) (drop k bs) in omega (arith, size, sum))

-- No blank, no quote and no bracket.
record Plain (b : ℕ) : Type 0 where
  blank : is_blank b ≡ false
  quote : eqb b 39 ≡ false
  opens : eqb b 40 ≡ false
  closes : eqb b 41 ≡ false
  open_bracket : eqb b 91 ≡ false
  close_bracket : eqb b 93 ≡ false

-- A byte that begins no token.
cut_bad : (version : ℕ) (b : ℕ) (bs : List ℕ) → Plain b → is_word_byte b ≡ false → (b ≡ 45 → DoesntBegin (λ c. c == 62) bs) → (2 ≤ version → b ≡ 42 → NamesAutomatic bs → ⊥) → Cut version (b ∷ bs)
cut_bad version b bs p word dash star = bad (p.blank, word, eqb-false b 39 p.quote, eqb-false b 40 p.opens, eqb-false b 41 p.closes, eqb-false b 91 p.open_bracket, eqb-false b 93 p.close_bracket, dash, star)

-- A - before > is an arrow, and any other begins no token.
cut_dash : (version : ℕ) (b : ℕ) (bs : List ℕ) → Plain b → b ≡ 45 → Cut version (b ∷ bs)
cut_dash version b [] p e = cut_bad version b [] p (ap is_word_byte e) (λ q. tt) (λ two star. absurd (omega (arith, e, star)))
cut_dash version b (c ∷ cs) p e = by (eqb c 62) refl where
  by : (v : Bool) → eqb c 62 ≡ v → Cut version (b ∷ c ∷ cs)
  by true f = token Arrow cs (ap (λ (x : ℕ). x ∷ c ∷ cs) e ∙ ap (λ (x : ℕ). 45 ∷ x ∷ cs) (eqb-true c 62 f)) tt (omega arith)
  by false f = cut_bad version b (c ∷ cs) p (ap is_word_byte e) (λ q. f) (λ two star. absurd (omega (arith, e, star)))

-- Behind a * the run of bytes of words is this.
starred : (version : ℕ) (b : ℕ) (bs : List ℕ) (t : Token) (word : List ℕ) → b ≡ 42 → spelling t ≡ 42 ∷ word → take_while is_word_byte bs ≡ word → Ends version t (drop (prefix_len is_word_byte bs) bs) → Cut version (b ∷ bs)
starred version b bs t word e spelled run ends =
    let k = prefix_len is_word_byte bs in
    token t (drop k bs)
    (ap (λ (x : ℕ). x ∷ bs) e ∙ ap (λ (l : List ℕ). 42 ∷ l) (sym (take-append-drop k bs) ∙ ap (λ (l : List ℕ). l ++ drop k bs) run) ∙ ap (λ (l : List ℕ). l ++ drop k bs) (sym spelled))
    ends
    (let size = ap length (take-append-drop k bs) in let sum = length-append (take k bs) (drop k bs) in omega (arith, size, sum))

-- From version 2 on a * before the word of an automatic port is that port, and any other begins no token.
cut_star : (version : ℕ) (b : ℕ) (bs : List ℕ) → Plain b → b ≡ 42 → Cut version (b ∷ bs)
cut_star version b bs p e = by (leb 2 version) refl (bytes_eq (take_while is_word_byte bs) (codes "IN")) refl (bytes_eq (take_while is_word_byte bs) (codes "OUT")) refl where
  run : List ℕ
  run = take_while is_word_byte bs

  none : (2 ≤ version → NamesAutomatic bs → ⊥) → Cut version (b ∷ bs)
  none never = cut_bad version b bs p (ap is_word_byte e) (λ dash. absurd (omega (arith, e, dash))) (λ two star. never two)

  by : (two : Bool) → leb 2 version ≡ two → (input : Bool) → bytes_eq run (codes "IN") ≡ input → (output : Bool) → bytes_eq run (codes "OUT") ≡ output → Cut version (b ∷ bs)
  by false two input i output o = none (λ is. absurd (let less = leb-false 2 version two in omega (arith, less, is)))
  by true two true i output o = starred version b bs AutomaticInput (codes "IN") e refl ((bytes_eq-Decides run (codes "IN")).0 i) (leb-true 2 version two, stops_after is_word_byte bs)
  by true two false i true o = starred version b bs AutomaticOutput (codes "OUT") e refl ((bytes_eq-Decides run (codes "OUT")).0 o) (leb-true 2 version two, stops_after is_word_byte bs)
  by true two false i false o = none (λ is names. neither names) where
    neither : NamesAutomatic bs → ⊥
    neither (inl is) = let t : bytes_eq run (codes "IN") ≡ true = (bytes_eq-Decides run (codes "IN")).1 is in false≢true (sym i ∙ t)
    neither (inr is) = let t : bytes_eq run (codes "OUT") ≡ true = (bytes_eq-Decides run (codes "OUT")).1 is in false≢true (sym o ∙ t)

-- A - , a *, a word, or a byte that begins no token.
cut_plain : (version : ℕ) (b : ℕ) (bs : List ℕ) → Plain b → Cut version (b ∷ bs)
cut_plain version b bs p = by (eqb b 45) refl (eqb b 42) refl (is_word_byte b) refl where
  by : (d : Bool) → eqb b 45 ≡ d → (s : Bool) → eqb b 42 ≡ s → (w : Bool) → is_word_byte b ≡ w → Cut version (b ∷ bs)
  by true d s star w word = cut_dash version b bs p (eqb-true b 45 d)
  by false d true star w word = cut_star version b bs p (eqb-true b 42 star)
  by false d false star true word = cut_word version b bs word
  by false d false star false word = cut_bad version b bs p word (λ q. absurd (eqb-false b 45 d q)) (λ two q. absurd (eqb-false b 42 star q))

cut : (version : ℕ) (b : ℕ) (bs : List ℕ) → is_blank b ≡ false → Cut version (b ∷ bs)
cut version b bs blank = by (eqb b 40) refl (eqb b 41) refl (eqb b 91) refl (eqb b 93) refl (eqb b 39) refl where
  by : (o : Bool) → eqb b 40 ≡ o → (c : Bool) → eqb b 41 ≡ c → (l : Bool) → eqb b 91 ≡ l → (r : Bool) → eqb b 93 ≡ r → (q : Bool) → eqb b 39 ≡ q → Cut version (b ∷ bs)
  by true o c d l e r f q g = cut_one version Open b 40 bs (eqb-true b 40 o) refl tt
  by false o true d l e r f q g = cut_one version Close b 41 bs (eqb-true b 41 d) refl tt
  by false o false d true e r f q g = cut_one version OpenBracket b 91 bs (eqb-true b 91 e) refl tt
  by false o false d false e true f q g = cut_one version CloseBracket b 93 bs (eqb-true b 93 f) refl tt
  by false o false d false e false f true g = cut_quote version b bs (eqb-true b 39 g) (quote (length bs) bs (omega arith))
  by false o false d false e false f false g = cut_plain version b bs (record { blank = blank; quote = g; opens = o; closes = d; open_bracket = e; close_bracket = f })

-- What the tokens of a line are.
pub data Row (version : ℕ) (line : List ℕ) : Type 0 where
  row : (tokens : List Token) → IsRow version line tokens → Row version line
  bad_byte : HasBadByte version line → Row version line
  open_quote : HasOpenQuote version line → Row version line

-- One more token before the others.
with_token : (version : ℕ) (line : List ℕ) (t : Token) (rest : List ℕ) → Begins version line t rest → Row version rest → Row version line
with_token version line t rest begins (row ts is) = row (t ∷ ts) (is.0, (rest, begins, is.1), is.2)
with_token version line t rest begins (bad_byte h) = bad_byte (record { tokens = t ∷ h.tokens; rest = h.rest; blanks = h.blanks; bad = h.bad; row = (rest, begins, h.row); parts = h.parts; are_blank = h.are_blank; is_bad = h.is_bad })
with_token version line t rest begins (open_quote h) = open_quote (record { tokens = t ∷ h.tokens; rest = h.rest; blanks = h.blanks; text = h.text; row = (rest, begins, h.row); parts = h.parts; are_blank = h.are_blank })

of_cut : (version : ℕ) (line : List ℕ) (s : Stripped line) → Cut version s.rest → ((rest : List ℕ) → length rest < length s.rest → Row version rest) → Row version line
of_cut version line s (token t rest parts ends less) more = with_token version line t rest (record { blanks = s.blanks; are_blank = s.are_blank; parts = s.parts ∙ ap (λ (l : List ℕ). s.blanks ++ l) parts; ends = ends }) (more rest less)
of_cut version line s (bad is) more = bad_byte (record { tokens = []; rest = line; blanks = s.blanks; bad = s.rest; row = refl; parts = s.parts; are_blank = s.are_blank; is_bad = is })
of_cut version line s (quote_open text parts) more = open_quote (record { tokens = []; rest = line; blanks = s.blanks; text = text; row = refl; parts = s.parts ∙ ap (λ (l : List ℕ). s.blanks ++ l) parts; are_blank = s.are_blank })

of_rest : (version : ℕ) (line : List ℕ) (s : Stripped line) (r : List ℕ) → s.rest ≡ r → ((rest : List ℕ) → length rest < length s.rest → Row version rest) → Row version line
of_rest version line s [] e more = row [] (line, refl, subst Blank (sym (s.parts ∙ ap (λ (l : List ℕ). s.blanks ++ l) e ∙ append-nil s.blanks)) s.are_blank)
of_rest version line s (b ∷ bs) e more = of_cut version line s (subst (Cut version) (sym e) (cut version b bs (subst (DoesntBegin is_blank) e s.stops))) more

no_longer : (line : List ℕ) (s : Stripped line) → length s.rest ≤ length line
no_longer line s = let size = ap length s.parts ∙ length-append s.blanks s.rest in omega (arith, size)

read : (version : ℕ) (n : ℕ) (line : List ℕ) → length line < n → Row version line
read version zero line fits = absurd (omega (arith, fits))
read version (suc n) line fits = let s = strip line in let whole = no_longer line s in of_rest version line s s.rest refl (λ rest less. read version n rest (omega (arith, fits, less, whole)))

-- Any line is a row of tokens, or has a bad byte or an open quote.
pub some_row : (version : ℕ) (line : List ℕ) → Row version line
some_row version line = read version (length line + 1) line (omega arith)
