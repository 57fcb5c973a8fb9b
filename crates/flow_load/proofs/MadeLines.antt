-- Lines that are pieces with one space between two, each said to be a form, and what lines lead to behind a header.
use Rattle.std.proofs.Common.{◌≡◌, ◌≢◌, ℕ, ◌+◌, Bool, true, false, List, [], ◌∷◌, map, Option, Some, None, Result, refl, sym, ap, ◌∙◌, subst, inl, arith}
use Rattle.std.specs.Prelude.{◌&&◌, is_none, codes}
use Rattle.std.specs.List.{AllByRecursion, list_all}
use Rattle.std.proofs.lemmas.Fmt.{decimal_digit}
use Rattle.flow_net.proofs.Ends.{and_true}
use Rattle.flow_parse.specs.declared.token.Token.{Token}
use Rattle.flow_parse.specs.declared.token.Token.TheVariants.{Word, Arrow, Open, Close, OpenBracket, CloseBracket, Quoted}
use Rattle.flow_parse.specs.declared.form.Mention.{Mention}
use Rattle.flow_parse.specs.declared.form.PortMention.{PortMention}
use Rattle.flow_parse.specs.declared.form.Form.{Form}
use Rattle.flow_parse.specs.declared.form.Form.TheVariants.{Header, Connection, Initial}
use Rattle.flow_parse.specs.declared.form.Form.TheVariants as forms
use Rattle.flow_parse.specs.declared.form.EndMention.TheVariants.{Port}
use Rattle.flow_parse.specs.declared.fault.NetFault.{NetFault}
use Rattle.flow_parse.specs.declared.value.NetText.{NetText}
use Rattle.flow_parse.specs.Spelling.{is_word_byte}
use Rattle.flow_parse.specs.Forms.{is_reserved}
use Rattle.flow_parse.specs.Files.{says, LineIs, Parts, Open as OpenPart, put_into, close, with_line, fault_at, at_end, LeadsTo}
use Rattle.flow_parse.proofs.PrintedRows.{IsWord, joined, pieces_are_row, word_piece, arrow_piece, quoted_piece, kinded_piece, bracketed_piece}

-- The bytes are some, and bytes of words.
abbrev pub is_word : List ℕ → Bool
is_word [] = false
is_word (b ∷ bs) = list_all is_word_byte (b ∷ bs)

all_word : (bytes : List ℕ) → list_all is_word_byte bytes ≡ true → AllByRecursion (λ b. is_word_byte b ≡ true) bytes
all_word [] e = tt
all_word (b ∷ bs) e = let both = and_true (is_word_byte b) (list_all is_word_byte bs) e in (both.0, all_word bs both.1)

-- Bytes that pass the test are a word.
word : (bytes : List ℕ) → is_word bytes ≡ true → IsWord bytes
word [] e = absurd cc
word (b ∷ bs) e = (λ none. cc, all_word (b ∷ bs) e)

-- A process as a line names it.
abbrev pub bare : List ℕ → Mention
bare name = record { name = name; kind = None }

-- A process as a line names it with its kind.
abbrev pub kinded : List ℕ → List ℕ → Mention
kinded name kind = record { name = name; kind = Some kind }

-- A port as a line names it.
abbrev pub port : List ℕ → PortMention
port name = record { name = name; element = None }

-- A port as a line names it with its element.
abbrev pub element : List ℕ → List ℕ → PortMention
element name number = record { name = name; element = Some number }

-- A process and its kind in parentheses.
abbrev pub kinded_tokens : List ℕ → List ℕ → List Token
kinded_tokens name kind = Word name ∷ Open ∷ Word kind ∷ Close ∷ []

-- All of these are words.
abbrev pub are_words : List (List ℕ) → Bool
are_words ws = list_all is_word ws

all_words : (ws : List (List ℕ)) → are_words ws ≡ true → AllByRecursion IsWord ws
all_words [] e = tt
all_words (w ∷ ws) e = let both = and_true (is_word w) (are_words ws) e in (word w both.0, all_words ws both.1)

-- A word has no line end.
within_line : (bytes : List ℕ) → AllByRecursion (λ b. is_word_byte b ≡ true) bytes → AllByRecursion (λ b. b ≢ 10) bytes
within_line [] all = tt
within_line (b ∷ bs) all = (λ e. let bad : is_word_byte 10 ≡ true = subst (λ (n : ℕ). is_word_byte n ≡ true) e all.0 in cc, within_line bs all.1)

-- A line, with the form that it says.
pub record Saying : Type 0 where
  pub line : List ℕ
  pub form : Form
  pub is : LineIs 1 line (says form)

-- The header.
pub header : LineIs 1 (joined ((Word (codes "flow") ∷ []) ∷ (Word (codes "1") ∷ []) ∷ [])) (says (Header 1))
header = (
  Word (codes "flow") ∷ Word (codes "1") ∷ [],
  pieces_are_row 1 (Word (codes "flow") ∷ []) ((Word (codes "1") ∷ []) ∷ []) (word_piece 1 (codes "flow") (word (codes "flow") refl)) (word_piece 1 (codes "1") (word (codes "1") refl), tt),
  (ap (λ (w : List ℕ). Word (codes "flow") ∷ Word w ∷ []) (decimal_digit 1 (omega arith)), inl refl),
)

-- A line of these pieces connects an output to an input of a process, whose kind it gives.
pub connects_says : (from out into to kind : List ℕ) → are_words (from ∷ out ∷ into ∷ to ∷ kind ∷ []) ≡ true → is_reserved from ≡ false
    → LineIs 1 (joined ((Word from ∷ []) ∷ (Word out ∷ []) ∷ (Arrow ∷ []) ∷ (Word into ∷ []) ∷ kinded_tokens to kind ∷ [])) (says (Connection (bare from) (Port (port out)) None (Port (port into)) (kinded to kind)))
connects_says from out into to kind are free = let w = all_words (from ∷ out ∷ into ∷ to ∷ kind ∷ []) are in (
  Word from ∷ Word out ∷ Arrow ∷ Word into ∷ kinded_tokens to kind,
  pieces_are_row 1 (Word from ∷ []) ((Word out ∷ []) ∷ (Arrow ∷ []) ∷ (Word into ∷ []) ∷ kinded_tokens to kind ∷ []) (word_piece 1 from w.0)
      (word_piece 1 out w.1.0, (arrow_piece 1, (word_piece 1 into w.1.1.0, (kinded_piece 1 to kind w.1.1.1.0 w.1.1.1.1.0, tt)))),
  (refl, free),
)

-- A line that connects an output to an input of a process, whose kind it gives.
abbrev pub connects : (from out into to kind : List ℕ) → are_words (from ∷ out ∷ into ∷ to ∷ kind ∷ []) ≡ true → is_reserved from ≡ false → Saying
connects from out into to kind are free = record {
  line = joined ((Word from ∷ []) ∷ (Word out ∷ []) ∷ (Arrow ∷ []) ∷ (Word into ∷ []) ∷ kinded_tokens to kind ∷ []);
  form = Connection (bare from) (Port (port out)) None (Port (port into)) (kinded to kind);
  is = connects_says from out into to kind are free;
}

-- A line of these pieces connects an element of an output so.
pub connects_element_says : (from out number into to kind : List ℕ) → are_words (from ∷ out ∷ number ∷ into ∷ to ∷ kind ∷ []) ≡ true → is_reserved from ≡ false
    → LineIs 1 (joined ((Word from ∷ []) ∷ (Word out ∷ OpenBracket ∷ Word number ∷ CloseBracket ∷ []) ∷ (Arrow ∷ []) ∷ (Word into ∷ []) ∷ kinded_tokens to kind ∷ []))
    (says (Connection (bare from) (Port (element out number)) None (Port (port into)) (kinded to kind)))
connects_element_says from out number into to kind are free = let w = all_words (from ∷ out ∷ number ∷ into ∷ to ∷ kind ∷ []) are in (
  Word from ∷ Word out ∷ OpenBracket ∷ Word number ∷ CloseBracket ∷ Arrow ∷ Word into ∷ kinded_tokens to kind,
  pieces_are_row 1 (Word from ∷ []) ((Word out ∷ OpenBracket ∷ Word number ∷ CloseBracket ∷ []) ∷ (Arrow ∷ []) ∷ (Word into ∷ []) ∷ kinded_tokens to kind ∷ []) (word_piece 1 from w.0)
      (bracketed_piece 1 out number w.1.0 w.1.1.0, (arrow_piece 1, (word_piece 1 into w.1.1.1.0, (kinded_piece 1 to kind w.1.1.1.1.0 w.1.1.1.1.1.0, tt)))),
  (refl, free),
)

-- The same from an element of the output.
abbrev pub connects_element : (from out number into to kind : List ℕ) → are_words (from ∷ out ∷ number ∷ into ∷ to ∷ kind ∷ []) ≡ true → is_reserved from ≡ false → Saying
connects_element from out number into to kind are free = record {
  line = joined ((Word from ∷ []) ∷ (Word out ∷ OpenBracket ∷ Word number ∷ CloseBracket ∷ []) ∷ (Arrow ∷ []) ∷ (Word into ∷ []) ∷ kinded_tokens to kind ∷ []);
  form = Connection (bare from) (Port (element out number)) None (Port (port into)) (kinded to kind);
  is = connects_element_says from out number into to kind are free;
}

-- A line of these pieces gives a text to an input of a process.
pub gives_says : (text into to : List ℕ) → are_words (text ∷ into ∷ to ∷ []) ≡ true
    → LineIs 1 (joined ((Quoted text ∷ []) ∷ (Arrow ∷ []) ∷ (Word into ∷ []) ∷ (Word to ∷ []) ∷ [])) (says (Initial text (port into) (bare to)))
gives_says text into to are = let w = all_words (text ∷ into ∷ to ∷ []) are in (
  Quoted text ∷ Arrow ∷ Word into ∷ Word to ∷ [],
  pieces_are_row 1 (Quoted text ∷ []) ((Arrow ∷ []) ∷ (Word into ∷ []) ∷ (Word to ∷ []) ∷ []) (quoted_piece 1 text (within_line text w.0.1)) (arrow_piece 1, (word_piece 1 into w.1.0, (word_piece 1 to w.1.1.0, tt))),
  (refl, tt),
)

-- A line that gives a text, which is itself a word, to an input of a process.
abbrev pub gives : (text into to : List ℕ) → are_words (text ∷ into ∷ to ∷ []) ≡ true → Saying
gives text into to are = record {
  line = joined ((Quoted text ∷ []) ∷ (Arrow ∷ []) ∷ (Word into ∷ []) ∷ (Word to ∷ []) ∷ []);
  form = Initial text (port into) (bare to);
  is = gives_says text into to are;
}

-- A line of these pieces gives a text to an input of a process, whose kind it gives.
pub gives_kinded_says : (text into to kind : List ℕ) → are_words (text ∷ into ∷ to ∷ kind ∷ []) ≡ true
    → LineIs 1 (joined ((Quoted text ∷ []) ∷ (Arrow ∷ []) ∷ (Word into ∷ []) ∷ kinded_tokens to kind ∷ [])) (says (Initial text (port into) (kinded to kind)))
gives_kinded_says text into to kind are = let w = all_words (text ∷ into ∷ to ∷ kind ∷ []) are in (
  Quoted text ∷ Arrow ∷ Word into ∷ kinded_tokens to kind,
  pieces_are_row 1 (Quoted text ∷ []) ((Arrow ∷ []) ∷ (Word into ∷ []) ∷ kinded_tokens to kind ∷ []) (quoted_piece 1 text (within_line text w.0.1)) (arrow_piece 1, (word_piece 1 into w.1.0, (kinded_piece 1 to kind w.1.1.0 w.1.1.1.0, tt))),
  (refl, tt),
)

-- The same to a process whose kind it gives.
abbrev pub gives_kinded : (text into to kind : List ℕ) → are_words (text ∷ into ∷ to ∷ kind ∷ []) ≡ true → Saying
gives_kinded text into to kind are = record {
  line = joined ((Quoted text ∷ []) ∷ (Arrow ∷ []) ∷ (Word into ∷ []) ∷ kinded_tokens to kind ∷ []);
  form = Initial text (port into) (kinded to kind);
  is = gives_kinded_says text into to kind are;
}

-- None of these lines has a fault, where the first is line n and stands behind these parts.
abbrev pub without_fault : ℕ → Parts → List Saying → Bool
without_fault n parts [] = true
without_fault n parts (l ∷ ls) = is_none (fault_at n parts l.form) && without_fault (n + 1) (with_line parts n l.form) ls

-- What stands before the line behind these.
abbrev pub parts_after : ℕ → Parts → List Saying → Parts
parts_after n parts [] = parts
parts_after n parts (l ∷ ls) = parts_after (n + 1) (with_line parts n l.form) ls

-- The number of the line behind these.
abbrev pub line_after : ℕ → List Saying → ℕ
line_after n [] = n
line_after n (l ∷ ls) = line_after (n + 1) ls

none_of : (fault : Option NetFault) → is_none fault ≡ true → fault ≡ None
none_of None e = refl
none_of (Some fault) e = absurd cc

put_version : (parts : Parts) (o : Option OpenPart) (l : ℕ × Form) → (put_into parts o l).version ≡ parts.version
put_version parts (Some o) l = refl
put_version parts None l = refl

close_version : (parts : Parts) (o : Option OpenPart) → (close parts o).version ≡ parts.version
close_version parts (Some o) = refl
close_version parts None = refl

-- The version stays.
same_version : (parts : Parts) (n : ℕ) (form : Form) → (with_line parts n form).version ≡ parts.version
same_version parts n (forms.Subnet name) = refl
same_version parts n forms.End = close_version parts parts.open_part
same_version parts n (forms.Header version) = put_version parts parts.open_part (n, forms.Header version)
same_version parts n (forms.Process name kind) = put_version parts parts.open_part (n, forms.Process name kind)
same_version parts n (forms.Connection from out capacity into to) = put_version parts parts.open_part (n, forms.Connection from out capacity into to)
same_version parts n (forms.Initial text into to) = put_version parts parts.open_part (n, forms.Initial text into to)
same_version parts n (forms.InPort outer into to) = put_version parts parts.open_part (n, forms.InPort outer into to)
same_version parts n (forms.OutPort from out outer) = put_version parts parts.open_part (n, forms.OutPort from out outer)

-- Lines without a fault lead to what the end of the file makes of them.
pub lead : (n : ℕ) (parts : Parts) (ls : List Saying) (outcome : Result NetText NetFault) → parts.version ≡ 1 → without_fault n parts ls ≡ true → at_end (line_after n ls) (Some (parts_after n parts ls)) ≡ outcome
    → LeadsTo n (Some parts) (map (λ (l : Saying). l.line) ls) outcome
lead n parts [] outcome first right end = end
lead n parts (l ∷ ls) outcome first right end =
    let both = and_true (is_none (fault_at n parts l.form)) (without_fault (n + 1) (with_line parts n l.form) ls) right in
    let none : fault_at n parts l.form ≡ None = none_of (fault_at n parts l.form) both.0 in
    let rest : LeadsTo (n + 1) (Some (with_line parts n l.form)) (map (λ (l : Saying). l.line) ls) outcome = lead (n + 1) (with_line parts n l.form) ls outcome (same_version parts n l.form ∙ first) both.1 end in
    (says l.form, subst (λ (v : ℕ). LineIs v l.line (says l.form)) (sym first) l.is, rw none rest)
