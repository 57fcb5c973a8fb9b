-- How texts stand in a drawing, and how they are read back. (This project's own, so that a viewer shows what is told of here: a label of Mermaid takes numbers of
-- characters between # and ;, and one of DOT a backslash before " and \, and numbers between &# and ;.)
use Rattle.std.specs.Prelude.{◌≡◌, ℕ, ◌<◌, zero, suc, ◌+◌, ◌-◌, ◌*◌, ◌/◌, ◌%◌, ◌==◌, nat_lt, nat_le, Bool, true, false, not, ◌&&◌, ◌||◌, if◌then◌else◌, List, [], ◌∷◌, ◌++◌, codes, chars}
use Rattle.std.specs.List.{All, flat_map}
use Rattle.std.specs.Char.{encode_utf8, is_ascii_alphanumeric}
use Rattle.std.specs.Str.{is_utf8}
use Rattle.flow_drawing.specs.declared.quote.Form.{Form}
use Rattle.flow_drawing.specs.declared.quote.Form.TheVariants.{Mermaid, Dot}

-- A byte is less than 256.
abbrev pub IsByte : ℕ → Type 0
IsByte b = b < 256

-- A number within bounds.
abbrev pub is_between : ℕ → ℕ → ℕ → Bool
is_between least most n = nat_le least n && nat_le n most

-- The byte of a hexadecimal digit.
abbrev pub hex_digit : ℕ → ℕ
hex_digit d = if nat_lt d 10 then 48 + d else 87 + d

-- The digit that a byte spells.
abbrev pub hex_value : ℕ → ℕ
hex_value b = if nat_lt b 58 then b - 48 else b - 87

-- Whether a character drives what shows it, and isn't seen itself: a control beyond ASCII, one that sets the direction of what stands round it, or one that ends a line. (The
-- numbers are Unicode's.)
abbrev pub drives : ℕ → Bool
drives c = is_between 0x80 0x9f c || c == 0x61c || is_between 0x200e 0x200f c || is_between 0x2028 0x202e c || is_between 0x2066 0x2069 c

-- Whether a byte may stand for itself where a text is shown: a printable one of ASCII may, and one beyond ASCII where its character may stand.
abbrev pub stands : Bool → ℕ → Bool
stands may b = if nat_lt b 128 then is_between 32 126 b else may

-- A byte by its number: \x and the two hexadecimal digits of it.
abbrev pub numbered : ℕ → List ℕ
numbered b = codes "\\x" ++ hex_digit (b / 16) ∷ hex_digit (b % 16) ∷ []

-- A byte as it is shown behind another one: as itself, or by its number. An x behind a backslash is shown by its number, so that the backslash is none that begins a number.
abbrev pub shown_byte : Bool → ℕ → ℕ → List ℕ
shown_byte may before b = if stands may b && not (before == 92 && b == 120) then b ∷ [] else numbered b

-- Bytes as they are shown, each behind the one before it.
abbrev pub shown_bytes : Bool → ℕ → List ℕ → List ℕ
shown_bytes may before [] = []
shown_bytes may before (b ∷ bs) = shown_byte may before b ++ shown_bytes may b bs

-- The byte behind which stands what follows these bytes: the last of them, or else the one before them.
abbrev pub last_of : ℕ → List ℕ → ℕ
last_of before [] = before
last_of before (b ∷ bs) = last_of b bs

-- Characters as they are shown, each behind the one before it: by the bytes that spell it, which may stand where it drives nothing.
abbrev pub shown_letters : ℕ → List ℕ → List ℕ
shown_letters before [] = []
shown_letters before (c ∷ cs) = shown_bytes (not (drives c)) before (encode_utf8 c) ++ shown_letters (last_of before (encode_utf8 c)) cs

-- A text as it is shown, in characters alone that drive nothing: by its characters where it is UTF-8, and else by its bytes, of which none beyond ASCII stands. Nothing
-- stands before its first byte.
abbrev pub shown : List ℕ → List ℕ
shown text = if is_utf8 text then shown_letters 0 (chars text) else shown_bytes false 0 text

-- What is shown is read back. A backslash with an x behind it begins the number of a byte, and any other stands for itself. Here n tells what comes next: 0 that which stands for
-- itself or is a backslash, 3 what stands behind a backslash, 2 the first digit of a number, and 1 the second one, where c is the first.
abbrev pub seen_after : ℕ → ℕ → List ℕ → List ℕ
seen_after zero c [] = []
seen_after (suc zero) c [] = []
seen_after (suc (suc zero)) c [] = []
seen_after (suc (suc (suc n))) c [] = 92 ∷ []
seen_after zero c (b ∷ bs) = if b == 92 then seen_after 3 0 bs else b ∷ seen_after 0 0 bs
seen_after (suc zero) c (b ∷ bs) = (c * 16 + hex_value b) ∷ seen_after 0 0 bs
seen_after (suc (suc zero)) c (b ∷ bs) = seen_after 1 (hex_value b) bs
seen_after (suc (suc (suc n))) c (b ∷ bs) = if b == 120 then seen_after 2 0 bs else 92 ∷ (if b == 92 then seen_after 3 0 bs else b ∷ seen_after 0 0 bs)

-- Whether a byte means itself in a label of Mermaid: an ASCII letter or a digit, a space, one of ' , - . / [ and ], or one beyond ASCII. All others may mean something to Mermaid,
-- or to the HTML and the Markdown by which it sets labels.
abbrev pub is_plain : ℕ → Bool
is_plain b = is_ascii_alphanumeric b || is_between 44 47 b || b == 32 || b == 39 || b == 91 || b == 93 || nat_le 128 b

-- A byte by its decimal number of two or three digits, between # and ;.
abbrev pub entity : ℕ → List ℕ
entity b = 35 ∷ (if nat_le 100 b then (48 + b / 100) ∷ [] else []) ++ (48 + b / 10 % 10) ∷ (48 + b % 10) ∷ 59 ∷ []

-- A byte in a label of Mermaid.
abbrev pub mermaid_byte : ℕ → List ℕ
mermaid_byte b = if is_plain b then b ∷ [] else entity b

-- A label of Mermaid is read back, where it is told whether a number has begun, and what its digits so far spell.
abbrev pub mermaid_after : Bool → ℕ → List ℕ → List ℕ
mermaid_after within c [] = []
mermaid_after false c (b ∷ bs) = if b == 35 then mermaid_after true 0 bs else b ∷ mermaid_after false 0 bs
mermaid_after true c (b ∷ bs) = if b == 59 then c ∷ mermaid_after false 0 bs else mermaid_after true (c * 10 + (b - 48)) bs

-- A byte in a label of DOT: " and \ behind a backslash, & by its number, and all others as themselves.
abbrev pub dot_byte : ℕ → List ℕ
dot_byte b = if b == 38 then codes "&#38;" else (if b == 34 || b == 92 then 92 ∷ b ∷ [] else b ∷ [])

-- A label of DOT is read back: the next byte is that behind a backslash where n is 1, and n - 1 bytes of the number of & are still to come where it is more.
abbrev pub dot_after : ℕ → List ℕ → List ℕ
dot_after n [] = []
dot_after zero (b ∷ bs) = if b == 38 then 38 ∷ dot_after 5 bs else (if b == 92 then dot_after 1 bs else b ∷ dot_after 0 bs)
dot_after (suc zero) (b ∷ bs) = b ∷ dot_after 0 bs
dot_after (suc (suc zero)) (b ∷ bs) = dot_after 0 bs
dot_after (suc (suc (suc n))) (b ∷ bs) = dot_after (suc (suc n)) bs

-- A byte within the quotes of a label.
abbrev pub quoted_byte : Form → ℕ → List ℕ
quoted_byte Mermaid b = mermaid_byte b
quoted_byte Dot b = dot_byte b

-- A text as it stands within the quotes of a label.
abbrev pub quoted : Form → List ℕ → List ℕ
quoted form text = flat_map (quoted_byte form) (shown text)

-- What a label shows.
abbrev pub label_read : Form → List ℕ → List ℕ
label_read Mermaid bytes = mermaid_after false 0 bytes
label_read Dot bytes = dot_after 0 bytes

-- The text that stands within the quotes of a label: what the label shows, with each number in it as the byte that it is of.
abbrev pub unquoted : Form → List ℕ → List ℕ
unquoted form bytes = seen_after 0 0 (label_read form bytes)

-- Every text is read back from its quotes.
abbrev pub ReadsBack : Type 0
ReadsBack = (form : Form) (text : List ℕ) → All IsByte text → unquoted form (quoted form text) ≡ text
