-- The lines of a text whose lines are each ended by byte 10.
use Rattle.std.proofs.Common.{◌≡◌, ◌≢◌, ℕ, ◌+◌, ◌-◌, true, false, cond, eqb, List, [], ◌∷◌, ◌++◌, length, length-append, get_or, refl, sym, ap, subst, ◌∙◌, append_assoc, arith}
use Rattle.std.specs.List.{AllByRecursion, slice_split, onto_first}
use Rattle.std.specs.Str.Lines.{lines, lines_of_parts, strip_carriage_return}
use Rattle.std.proofs.lemmas.Bool.{ne_eqb}
use Rattle.std.proofs.lemmas.List.{get_or_at}
use Rattle.flow_parse.specs.Spelling.{is_word_byte, doubled}

-- Bytes that can be a line before a byte 10: they have none, and the last is no byte 13.
pub record Closed (text : List ℕ) : Type 0 where
  pub one_line : AllByRecursion (λ b. b ≢ 10) text
  pub front : List ℕ
  pub last : ℕ
  pub whole : text ≡ front ++ last ∷ []
  pub stays : last ≢ 13

split_first : (text rest : List ℕ) → AllByRecursion (λ b. b ≢ 10) text → slice_split (λ b. eqb b 10) (text ++ 10 ∷ rest) ≡ text ∷ slice_split (λ b. eqb b 10) rest
split_first [] rest all = refl
split_first (b ∷ bs) rest all = rw (ne_eqb b 10 all.0, split_first bs rest all.1) refl

-- the list has a first element
abbrev HasFirst : List (List ℕ) → Type 0
HasFirst parts = (first : List ℕ) × (more : List (List ℕ)) × (parts ≡ first ∷ more)

onto_some : (b : ℕ) (parts : List (List ℕ)) → HasFirst (onto_first b parts)
onto_some b [] = (b ∷ [], [], refl)
onto_some b (p ∷ ps) = (b ∷ p, ps, refl)

split_some : (text : List ℕ) → HasFirst (slice_split (λ b. eqb b 10) text)
split_some [] = ([], [], refl)
split_some (b ∷ bs) = elim (eqb b 10) as (λ v. HasFirst (cond v ([] ∷ slice_split (λ c. eqb c 10) bs) (onto_first b (slice_split (λ c. eqb c 10) bs)))) [
  | true ↦ ([], slice_split (λ c. eqb c 10) bs, refl)
  | false ↦ onto_some b (slice_split (λ c. eqb c 10) bs)
]

stripped_same : (text : List ℕ) → Closed text → strip_carriage_return text ≡ text
stripped_same text c =
    let long : length text ≡ length c.front + 1 = ap length c.whole ∙ length-append c.front (c.last ∷ []) in
    let at : get_or text (length text - 1) 0 ≡ c.last = ap (λ (t : List ℕ). get_or t (length text - 1) 0) c.whole ∙ get_or_at c.front c.last [] 0 (length text - 1) (omega arith) in
    rw (at, ne_eqb c.last 13 c.stays) refl

-- A closed line with its end before other text is the first of the lines.
pub lines_first : (text rest : List ℕ) → Closed text → lines ((text ++ 10 ∷ []) ++ rest) ≡ text ∷ lines rest
lines_first text rest c =
    let more = split_some rest in
    ap lines (append_assoc text (10 ∷ []) rest) ∙ ap lines_of_parts (split_first text rest c.one_line ∙ ap (λ (l : List (List ℕ)). text ∷ l) more.2)
    ∙ ap (λ (t : List ℕ). t ∷ lines_of_parts (more.0 ∷ more.1)) (stripped_same text c) ∙ ap (λ (l : List (List ℕ)). text ∷ lines_of_parts l) (sym more.2)

all_append : (P : ℕ → Type 0) (xs ys : List ℕ) → AllByRecursion P xs → AllByRecursion P ys → AllByRecursion P (xs ++ ys)
all_append P [] ys a b = b
all_append P (x ∷ xs) ys a b = (a.0, all_append P xs ys a.1 b)

-- A closed text behind bytes without a line end is closed.
pub closed_behind : (xs ys : List ℕ) → AllByRecursion (λ b. b ≢ 10) xs → Closed ys → Closed (xs ++ ys)
closed_behind xs ys all c = record {
  one_line = all_append (λ b. b ≢ 10) xs ys all c.one_line;
  front = xs ++ c.front;
  last = c.last;
  whole = ap (λ (l : List ℕ). xs ++ l) c.whole ∙ sym (append_assoc xs c.front (c.last ∷ []));
  stays = c.stays;
}

not_word : (b n : ℕ) → is_word_byte b ≡ true → is_word_byte n ≡ false → b ≢ n
not_word b n is other same = let at : is_word_byte n ≡ true = subst (λ (m : ℕ). is_word_byte m ≡ true) same is in absurd cc

word_line : (word : List ℕ) → AllByRecursion (λ b. is_word_byte b ≡ true) word → AllByRecursion (λ b. b ≢ 10) word
word_line [] all = tt
word_line (b ∷ bs) all = (not_word b 10 all.0 refl, word_line bs all.1)

-- A word is a closed text.
pub closed_word : (b : ℕ) (bs : List ℕ) → AllByRecursion (λ b. is_word_byte b ≡ true) (b ∷ bs) → Closed (b ∷ bs)
closed_word b [] all = record { one_line = word_line (b ∷ []) all; front = []; last = b; whole = refl; stays = not_word b 13 all.0 refl }
closed_word b (c ∷ cs) all = closed_behind (b ∷ []) (c ∷ cs) (not_word b 10 all.0 refl, tt) (closed_word c cs all.1)

doubled_line : (text : List ℕ) → AllByRecursion (λ b. b ≢ 10) text → AllByRecursion (λ b. b ≢ 10) (doubled text)
doubled_line [] all = tt
doubled_line (b ∷ bs) all = elim (eqb b 39) as (λ v. AllByRecursion (λ b. b ≢ 10) (cond v (39 ∷ 39 ∷ doubled bs) (b ∷ doubled bs))) [
  | true ↦ (λ e. omega arith, (λ e. omega arith, doubled_line bs all.1))
  | false ↦ (all.0, doubled_line bs all.1)
]

-- A quoted text without line ends is a closed text.
pub closed_quoted : (text : List ℕ) → AllByRecursion (λ b. b ≢ 10) text → Closed (39 ∷ doubled text ++ 39 ∷ [])
closed_quoted text all = closed_behind (39 ∷ doubled text) (39 ∷ []) (λ e. omega arith, doubled_line text all) (record { one_line = (λ e. omega arith, tt); front = []; last = 39; whole = refl; stays = λ e. omega arith })
