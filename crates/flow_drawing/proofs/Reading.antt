-- What is quoted is read back.
use Rattle.std.proofs.Common.{◌≡◌, ℕ, ◌+◌, ◌*◌, ◌/◌, ◌%◌, ◌==◌, ◌<◌, nat_le, Bool, true, false, not, ◌&&◌, ◌||◌, if◌then◌else◌, List, [], ◌∷◌, ◌++◌, codes, chars, drop, refl, sym, ◌∙◌, ap, arith, All, append_assoc}
use Rattle.std.specs.List.{flat_map}
use Rattle.std.specs.Char.{encode_utf8}
use Rattle.std.specs.Str.{IsUtf8, is_utf8, encode_utf8_all}
use Rattle.std.proofs.lemmas.Str.{IsUtf8-from_is_utf8, is_utf8-from_IsUtf8, encodes-chars}
use Rattle.std.proofs.lemmas.List.Elements.{All-head, All-tail, All-cons, All-append}
use Rattle.flow_drawing.specs.declared.quote.Form.{Form}
use Rattle.flow_drawing.specs.declared.quote.Form.TheVariants.{Mermaid, Dot}
use Rattle.flow_drawing.specs.Quotes.{dot_after, dot_byte, drives, entity, hex_digit, hex_value, is_plain, label_read, mermaid_after, mermaid_byte, quoted, quoted_byte, last_of, numbered, seen_after, shown, shown_byte, shown_bytes, shown_letters, stands, unquoted, IsByte}

-- what isn't UTF-8 fails the test
not_utf8 : (bytes : List ℕ) → (IsUtf8 bytes → ⊥) → false ≡ is_utf8 bytes
not_utf8 bytes none = elim (is_utf8 bytes) as (λ b. is_utf8 bytes ≡ b → false ≡ b) [ true ↦ λ e. absurd (none (IsUtf8-from_is_utf8 bytes e)) | false ↦ λ e. refl ] refl

-- what is shown of a text that is UTF-8, and of one that isn't
pub letters-shown : (text : List ℕ) → IsUtf8 text → shown_letters 0 (chars text) ≡ shown text
letters-shown text is = ap (λ t. if t then shown_letters 0 (chars text) else shown_bytes false 0 text) (sym (is_utf8-from_IsUtf8 text is))

pub bytes-shown : (text : List ℕ) → (IsUtf8 text → ⊥) → shown_bytes false 0 text ≡ shown text
bytes-shown text none = ap (λ t. if t then shown_letters 0 (chars text) else shown_bytes false 0 text) (not_utf8 text none)

-- a digit is read back
hex_back : (d : ℕ) → d < 16 → hex_value (hex_digit d) ≡ d
hex_back d small = grind arith

-- a byte that is shown by its number
numbered-back : (b : ℕ) (rest : List ℕ) → IsByte b → seen_after 0 0 (numbered b ++ rest) ≡ b ∷ seen_after 0 0 rest
numbered-back b rest byte =
    let high = hex_back (b / 16) (omega (arith, byte)) in
    let low = hex_back (b % 16) (omega arith) in
    ap (λ n. n ∷ seen_after 0 0 rest) (omega (arith, high, low))

-- What is read from this byte on, where what stands behind it is still to be read: a backslash waits for that.
abbrev read_from : ℕ → List ℕ → List ℕ
read_from b rest = if b == 92 then seen_after 3 0 rest else b ∷ seen_after 0 0 rest

other-read : (b : ℕ) (rest : List ℕ) → (b == 92) ≡ false → b ∷ seen_after 0 0 rest ≡ read_from b rest
other-read b rest other = ap (λ t. if t then seen_after 3 0 rest else b ∷ seen_after 0 0 rest) (sym other)

-- a backslash stands for itself
abbrev stands_itself : Bool → ℕ → ℕ → Bool
stands_itself may before b = stands may b && not (before == 92 && b == 120)

itself : (may : Bool) (before b : ℕ) → stands_itself may before b ≡ false → (b == 92) ≡ false
itself may before b not_so = by (b == 92) refl where
  backslash : b ≡ 92 → stands_itself may before b ≡ true
  backslash is = grind (arith, is)

  by : (t : Bool) → (b == 92) ≡ t → t ≡ false
  by false e = refl
  by true e = absurd (differ (sym not_so ∙ backslash (grind (arith, e)))) where
    differ : false ≡ true → ⊥
    differ e = cc

-- what is shown of a byte, where nothing waits
shown_byte-back : (may : Bool) (before b : ℕ) (rest : List ℕ) → IsByte b → seen_after 0 0 (shown_byte may before b ++ rest) ≡ read_from b rest
shown_byte-back may before b rest byte =
    elim (stands_itself may before b) as (λ s. stands_itself may before b ≡ s → seen_after 0 0 ((if s then b ∷ [] else numbered b) ++ rest) ≡ read_from b rest)
    [ true ↦ λ e. refl | false ↦ λ e. numbered-back b rest byte ∙ other-read b rest (itself may before b e) ] refl

-- what is shown of one behind a backslash, which waits
behind-back : (may : Bool) (b : ℕ) (rest : List ℕ) → IsByte b → seen_after 3 0 (shown_byte may 92 b ++ rest) ≡ 92 ∷ read_from b rest
behind-back may b rest byte =
    elim (stands_itself may 92 b) as (λ s. stands_itself may 92 b ≡ s → seen_after 3 0 ((if s then b ∷ [] else numbered b) ++ rest) ≡ 92 ∷ read_from b rest)
    [ true ↦ λ e. plainly (no_x e) | false ↦ λ e. ap (λ (l : List ℕ). 92 ∷ l) (numbered-back b rest byte ∙ other-read b rest (itself may 92 b e)) ] refl where
      no_x : stands_itself may 92 b ≡ true → (b == 120) ≡ false
      no_x e = grind (arith, e)

      plainly : (b == 120) ≡ false → seen_after 3 0 (b ∷ rest) ≡ 92 ∷ read_from b rest
      plainly e = ap (λ t. if t then seen_after 2 0 rest else 92 ∷ read_from b rest) e

-- what is shown of a byte behind any other
next-back : (may : Bool) (before b : ℕ) (rest : List ℕ) → IsByte b → read_from before (shown_byte may before b ++ rest) ≡ before ∷ read_from b rest
next-back may before b rest byte = by (before == 92) refl where
  by : (t : Bool) → (before == 92) ≡ t → read_from before (shown_byte may before b ++ rest) ≡ before ∷ read_from b rest
  by true e =
      let is : before ≡ 92 = grind (arith, e) in
      rw is (behind-back may b rest byte)
  by false e = sym (other-read before (shown_byte may before b ++ rest) e) ∙ ap (λ (l : List ℕ). before ∷ l) (shown_byte-back may before b rest byte)

-- nothing stands behind the last byte
last-back : (b : ℕ) → read_from b [] ≡ b ∷ []
last-back b = by (b == 92) refl where
  by : (t : Bool) → (b == 92) ≡ t → read_from b [] ≡ b ∷ []
  by true e =
      let is : b ≡ 92 = grind (arith, e) in
      rw is refl
  by false e = sym (other-read b [] e)

-- What reads each byte back reads a text back.
all-back : (f : ℕ → List ℕ) (read : List ℕ → List ℕ) → read [] ≡ [] → ((b : ℕ) (rest : List ℕ) → IsByte b → read (f b ++ rest) ≡ b ∷ read rest)
    → (text : List ℕ) → All IsByte text → read (flat_map f text) ≡ text
all-back f read none each [] bytes = none
all-back f read none each (b ∷ bs) bytes =
    each b (flat_map f bs) (All-head IsByte b bs bytes) ∙ ap (λ (l : List ℕ). b ∷ l) (all-back f read none each bs (All-tail IsByte b bs bytes))

-- a byte and others, but for the last one
abbrev front_of : ℕ → List ℕ → List ℕ
front_of before [] = []
front_of before (b ∷ bs) = before ∷ front_of b bs

front-last : (before : ℕ) (bs rest : List ℕ) → front_of before bs ++ last_of before bs ∷ rest ≡ before ∷ bs ++ rest
front-last before [] rest = refl
front-last before (b ∷ bs) rest = ap (λ (l : List ℕ). before ∷ l) (front-last b bs rest)

-- bytes before others
bytes-back : (may : Bool) (before : ℕ) (bytes rest : List ℕ) → All IsByte bytes
    → read_from before (shown_bytes may before bytes ++ rest) ≡ front_of before bytes ++ read_from (last_of before bytes) rest
bytes-back may before [] rest all = refl
bytes-back may before (b ∷ bs) rest all =
    ap (read_from before) (append_assoc (shown_byte may before b) (shown_bytes may b bs) rest)
    ∙ next-back may before b (shown_bytes may b bs ++ rest) (All-head IsByte b bs all)
    ∙ ap (λ (l : List ℕ). before ∷ l) (bytes-back may b bs rest (All-tail IsByte b bs all))

-- bytes with nothing behind them
odd-back : (before : ℕ) (bytes : List ℕ) → All IsByte bytes → read_from before (shown_bytes false before bytes) ≡ before ∷ bytes
odd-back before [] all = last-back before
odd-back before (b ∷ bs) all = next-back false before b (shown_bytes false b bs) (All-head IsByte b bs all) ∙ ap (λ (l : List ℕ). before ∷ l) (odd-back b bs (All-tail IsByte b bs all))

-- what holds of two lists together holds of each
all-front : (xs ys : List ℕ) → All IsByte (xs ++ ys) → All IsByte xs
all-front [] ys all = λ k d below. absurd (omega (arith, below))
all-front (x ∷ xs) ys all = All-cons IsByte x xs (All-head IsByte x (xs ++ ys) all) (all-front xs ys (All-tail IsByte x (xs ++ ys) all))

all-behind : (xs ys : List ℕ) → All IsByte (xs ++ ys) → All IsByte ys
all-behind [] ys all = all
all-behind (x ∷ xs) ys all = all-behind xs ys (All-tail IsByte x (xs ++ ys) all)

letters-back : (before : ℕ) (cs : List ℕ) → All IsByte (encode_utf8_all cs) → read_from before (shown_letters before cs) ≡ before ∷ encode_utf8_all cs
letters-back before [] all = last-back before
letters-back before (c ∷ cs) all =
    bytes-back (not (drives c)) before (encode_utf8 c) (shown_letters (last_of before (encode_utf8 c)) cs) (all-front (encode_utf8 c) (encode_utf8_all cs) all)
    ∙ ap (λ (l : List ℕ). front_of before (encode_utf8 c) ++ l) (letters-back (last_of before (encode_utf8 c)) cs (all-behind (encode_utf8 c) (encode_utf8_all cs) all))
    ∙ front-last before (encode_utf8 c) (encode_utf8_all cs)

-- the characters of a text spell it
spelled : (text : List ℕ) → is_utf8 text ≡ true → encode_utf8_all (chars text) ≡ text
spelled text is = encodes-chars text (IsUtf8-from_is_utf8 text is)

shown-back : (text : List ℕ) → All IsByte text → seen_after 0 0 (shown text) ≡ text
shown-back text bytes =
    elim (is_utf8 text) as (λ t. is_utf8 text ≡ t → seen_after 0 0 (if t then shown_letters 0 (chars text) else shown_bytes false 0 text) ≡ text) [
      | true ↦ λ e. ap (drop 1) (letters-back 0 (chars text) (rw (spelled text e) bytes)) ∙ spelled text e
      | false ↦ λ e. ap (drop 1) (odd-back 0 text bytes)
    ] refl

-- what is shown is bytes
shown_byte-bytes : (may : Bool) (before b : ℕ) → IsByte b → All IsByte (shown_byte may before b)
shown_byte-bytes may before b byte =
    elim (stands may b && not (before == 92 && b == 120)) as (λ s. All IsByte (if s then b ∷ [] else numbered b)) [
      | true ↦ All-cons IsByte b [] byte (λ k d below. absurd (omega (arith, below)))
      | false ↦ All-cons IsByte 92 (120 ∷ hex_digit (b / 16) ∷ hex_digit (b % 16) ∷ []) (omega arith) (All-cons IsByte 120 (hex_digit (b / 16) ∷ hex_digit (b % 16) ∷ []) (omega arith) (All-cons IsByte (hex_digit (b / 16)) (hex_digit (b % 16) ∷ []) (hex-byte (b / 16) (omega (arith, byte)))
          (All-cons IsByte (hex_digit (b % 16)) [] (hex-byte (b % 16) (omega arith)) (λ k d below. absurd (omega (arith, below))))))
    ] where
      hex-byte : (d : ℕ) → d < 16 → IsByte (hex_digit d)
      hex-byte d small = grind arith

all-bytes : (may : Bool) (before : ℕ) (text : List ℕ) → All IsByte text → All IsByte (shown_bytes may before text)
all-bytes may before [] bytes = bytes
all-bytes may before (b ∷ bs) bytes =
    All-append IsByte (shown_byte may before b) (shown_bytes may b bs) (shown_byte-bytes may before b (All-head IsByte b bs bytes)) (all-bytes may b bs (All-tail IsByte b bs bytes))

letters-bytes : (before : ℕ) (cs : List ℕ) → All IsByte (encode_utf8_all cs) → All IsByte (shown_letters before cs)
letters-bytes before [] all = all
letters-bytes before (c ∷ cs) all =
    All-append IsByte (shown_bytes (not (drives c)) before (encode_utf8 c)) (shown_letters (last_of before (encode_utf8 c)) cs)
    (all-bytes (not (drives c)) before (encode_utf8 c) (all-front (encode_utf8 c) (encode_utf8_all cs) all))
    (letters-bytes (last_of before (encode_utf8 c)) cs (all-behind (encode_utf8 c) (encode_utf8_all cs) all))

shown-bytes : (text : List ℕ) → All IsByte text → All IsByte (shown text)
shown-bytes text bytes =
    elim (is_utf8 text) as (λ t. is_utf8 text ≡ t → All IsByte (if t then shown_letters 0 (chars text) else shown_bytes false 0 text))
    [ true ↦ λ e. letters-bytes 0 (chars text) (rw (spelled text e) bytes) | false ↦ λ e. all-bytes false 0 text bytes ] refl

-- a decimal digit within a number
digit-back : (d c : ℕ) (rest : List ℕ) → d < 10 → mermaid_after true c ((48 + d) ∷ rest) ≡ mermaid_after true (c * 10 + d) rest
digit-back d c rest small =
    let no_end : ((48 + d) == 59) ≡ false = grind arith in
    rw no_end (ap (λ n. mermaid_after true (c * 10 + n) rest) (omega arith))

two-back : (c b : ℕ) (rest : List ℕ) → mermaid_after true c ((48 + b / 10 % 10) ∷ (48 + b % 10) ∷ 59 ∷ rest) ≡ ((c * 10 + b / 10 % 10) * 10 + b % 10) ∷ mermaid_after false 0 rest
two-back c b rest = digit-back (b / 10 % 10) c ((48 + b % 10) ∷ 59 ∷ rest) (omega arith) ∙ digit-back (b % 10) (c * 10 + b / 10 % 10) (59 ∷ rest) (omega arith)

entity-back : (b : ℕ) (rest : List ℕ) → IsByte b → mermaid_after false 0 (entity b ++ rest) ≡ b ∷ mermaid_after false 0 rest
entity-back b rest byte =
    elim (nat_le 100 b) as (λ t. nat_le 100 b ≡ t → mermaid_after false 0 ((35 ∷ (if t then (48 + b / 100) ∷ [] else []) ++ (48 + b / 10 % 10) ∷ (48 + b % 10) ∷ 59 ∷ []) ++ rest) ≡ b ∷ mermaid_after false 0 rest) [
      | true ↦ λ e. digit-back (b / 100) 0 ((48 + b / 10 % 10) ∷ (48 + b % 10) ∷ 59 ∷ rest) (omega (arith, byte)) ∙ two-back (0 * 10 + b / 100) b rest ∙ ap (λ n. n ∷ mermaid_after false 0 rest) (omega (arith, byte))
      | false ↦ λ e. two-back 0 b rest ∙ ap (λ n. n ∷ mermaid_after false 0 rest) (grind (arith, e))
    ] refl

plain-back : (b : ℕ) (rest : List ℕ) → is_plain b ≡ true → mermaid_after false 0 (b ∷ rest) ≡ b ∷ mermaid_after false 0 rest
plain-back b rest plain =
    elim (b == 35) as (λ t. (b == 35) ≡ t → (if t then mermaid_after true 0 rest else b ∷ mermaid_after false 0 rest) ≡ b ∷ mermaid_after false 0 rest)
    [ true ↦ λ e. absurd (no-mark e) | false ↦ λ e. refl ] refl where
      no-mark : (b == 35) ≡ true → ⊥
      no-mark e =
          let is : b ≡ 35 = grind (arith, e) in
          let bad : is_plain 35 ≡ true = ap is_plain (sym is) ∙ plain in cc

mermaid_byte-back : (b : ℕ) (rest : List ℕ) → IsByte b → mermaid_after false 0 (mermaid_byte b ++ rest) ≡ b ∷ mermaid_after false 0 rest
mermaid_byte-back b rest byte =
    elim (is_plain b) as (λ p. is_plain b ≡ p → mermaid_after false 0 ((if p then b ∷ [] else entity b) ++ rest) ≡ b ∷ mermaid_after false 0 rest)
    [ true ↦ λ e. plain-back b rest e | false ↦ λ e. entity-back b rest byte ] refl

dot_byte-back : (b : ℕ) (rest : List ℕ) → dot_after 0 (dot_byte b ++ rest) ≡ b ∷ dot_after 0 rest
dot_byte-back b rest =
    elim (b == 38) as (λ t. (b == 38) ≡ t → dot_after 0 ((if t then codes "&#38;" else (if b == 34 || b == 92 then 92 ∷ b ∷ [] else b ∷ [])) ++ rest) ≡ b ∷ dot_after 0 rest)
    [ true ↦ λ e. ap (λ n. n ∷ dot_after 0 rest) (grind (arith, e)) | false ↦ λ e. behind e ] refl where
      marked : (b == 34 || b == 92) ≡ false → (b == 92) ≡ false
      marked e = grind (arith, e)

      behind : (b == 38) ≡ false → dot_after 0 ((if b == 34 || b == 92 then 92 ∷ b ∷ [] else b ∷ []) ++ rest) ≡ b ∷ dot_after 0 rest
      behind other =
          elim (b == 34 || b == 92) as (λ t. (b == 34 || b == 92) ≡ t → dot_after 0 ((if t then 92 ∷ b ∷ [] else b ∷ []) ++ rest) ≡ b ∷ dot_after 0 rest)
          [ true ↦ λ e. refl | false ↦ λ e. rw other (rw (marked e) refl) ] refl

label-back : (form : Form) (text : List ℕ) → All IsByte text → label_read form (flat_map (quoted_byte form) text) ≡ text
label-back Mermaid text bytes = all-back mermaid_byte (mermaid_after false 0) refl mermaid_byte-back text bytes
label-back Dot text bytes = all-back dot_byte (dot_after 0) refl (λ b rest _. dot_byte-back b rest) text bytes

pub quoted-back : (form : Form) (text : List ℕ) → All IsByte text → unquoted form (quoted form text) ≡ text
quoted-back form text bytes = ap (seen_after 0 0) (label-back form (shown text) (shown-bytes text bytes)) ∙ shown-back text bytes
