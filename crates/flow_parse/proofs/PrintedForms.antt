-- The form that the line of a process or a statement says.
use Rattle.flow_limits.specs.declared.TheConstants.{CAPACITY_LIMIT, FIRST_CAPACITY_LIMIT, LAST_ELEMENT, TEXT_LIMIT}
use Rattle.std.proofs.Common.{◌≡◌, ℕ, ◌+◌, ◌%◌, ◌^◌, ◌<◌, ◌≤◌, Bool, true, false, cond, eqb, leb, List, [], ◌∷◌, ◌++◌, length, get_or, map, Option, Some, None, refl, sym, ap, subst, ◌∙◌, ◌⊎◌, inl, inr, append_assoc, eq-eqb, leb-true, leb-false, eqb-true, rules, arith}
use Rattle.std.specs.Prelude.{◌&&◌, ◌||◌, not, is_some, codes, option_map, option_and_then}
use Rattle.std.specs.Fmt.{decimal}
use Rattle.std.specs.Char.{is_ascii_digit}
use Rattle.std.specs.Str.{all_ascii_digits}
use Rattle.std.specs.Str.Parse.{digits_value}
use Rattle.std.specs.List.{AllByRecursion, flat_map, join_with_byte}
use Rattle.std.proofs.lemmas.List.{map-append}
use Rattle.std.proofs.Math.Dec.{eqb-suc-zero}
use Rattle.std.proofs.lemmas.Bool.{le-leb, ne_eqb}
use Rattle.std.proofs.lemmas.Fmt.{decimal_is_IsNumeral, decimal_by_steps, first_decimal, decimal_digit}
use Rattle.flow_plan.specs.declared.kind.PortRef.{PortRef}
use Rattle.flow_plan.specs.Network.{automatic_input, automatic_output}
use Rattle.flow_parse.specs.declared.token.Token.{Token}
use Rattle.flow_parse.specs.declared.token.Token.TheVariants.{Word, Arrow, Open, Close, AutomaticInput, AutomaticOutput, Quoted}
use Rattle.flow_parse.specs.declared.form.Mention.{Mention}
use Rattle.flow_parse.specs.declared.form.PortMention.{PortMention}
use Rattle.flow_parse.specs.declared.form.EndMention.{EndMention}
use Rattle.flow_parse.specs.declared.form.EndMention.TheVariants.{Port, Automatic}
use Rattle.flow_parse.specs.declared.form.Form.{Form}
use Rattle.flow_parse.specs.declared.form.Form.TheVariants as forms
use Rattle.flow_parse.specs.declared.value.Statement.{Statement}
use Rattle.flow_parse.specs.declared.value.Statement.TheVariants.{Connect, Initial, InPort, OutPort}
use Rattle.flow_parse.specs.Spelling.{is_word_byte, spelling}
use Rattle.flow_parse.specs.Names.{is_name, is_decimal, number_in, element_of, capacity_limit, capacity_of, or_none, end_is_named, is_named, end_is_numbered, is_numbered}
use Rattle.flow_parse.specs.Forms.{is_reserved, port, output, input, row_of, BeginsWell}
use Rattle.flow_parse.specs.Files.{says, LineIs, port_ref, output_ref, input_ref, statements_of, text_fits, mentions_of}
use Rattle.flow_parse.specs.Canonical.{word, port_piece, statement_pieces}
use Rattle.flow_parse.specs.Values.{IsName, IsWithin, IsPort, IsOneEnd, IsOutput, IsInput, IsStatement, names_of}
use Rattle.flow_parse.proofs.Cutting.{AllByRecursion-push}
use Rattle.flow_parse.proofs.PrintedLines.{Closed}
use Rattle.flow_parse.proofs.PrintedRows.{Piece, IsWord, tokens_of, joined, pieces_are_row, pieces_closed, word_piece, arrow_piece, automatic_input_piece, automatic_output_piece, quoted_piece, closed_piece, kinded_piece, bracketed_piece}

-- numbers

digit : (d : ℕ) → d < 10 → is_ascii_digit (48 + d) ≡ true
digit d below = rw (le-leb 48 (48 + d) (omega arith), le-leb (48 + d) 57 (omega arith)) refl

decimal_digits : (n : ℕ) → n < 2 ^ 64 → AllByRecursion (λ b. is_ascii_digit b ≡ true) (decimal n)
decimal_digits n fits = decimal_by_steps (λ m ds. AllByRecursion (λ b. is_ascii_digit b ≡ true) ds) (λ m below. (digit m below, tt)) (λ m ds large all. AllByRecursion-push (λ b. is_ascii_digit b ≡ true) ds (48 + m % 10) all (digit (m % 10) (omega arith))) n fits

digits_word : (ds : List ℕ) → AllByRecursion (λ b. is_ascii_digit b ≡ true) ds → AllByRecursion (λ b. is_word_byte b ≡ true) ds
digits_word [] all = tt
digits_word (d ∷ ds) all = (rw all.0 refl, digits_word ds all.1)

digits_all : (ds : List ℕ) → AllByRecursion (λ b. is_ascii_digit b ≡ true) ds → all_ascii_digits ds ≡ true
digits_all [] all = refl
digits_all (d ∷ ds) all = rw all.0 (digits_all ds all.1)

first_fits : (ds : List ℕ) → all_ascii_digits ds ≡ true → 0 < length ds → (48 < get_or ds 0 0) ⊎ (length ds ≡ 1) → is_decimal ds ≡ true
first_fits [] all some first = absurd (omega arith)
first_fits (d ∷ ds) all some (inl above) = let ne : eqb d 48 ≡ false = ne_eqb d 48 (λ e. omega arith) in rw (all, eqb-suc-zero (length ds), ne) refl
first_fits (d ∷ ds) all some (inr one) = let e : eqb (length (d ∷ ds)) 1 ≡ true = eq-eqb (length (d ∷ ds)) 1 one in both (all_ascii_digits (d ∷ ds) && not (eqb (length (d ∷ ds)) 0)) (not (eqb d 48)) (eqb (length (d ∷ ds)) 1) (rw (all, eqb-suc-zero (length ds)) refl) e where
  both : (a b c : Bool) → a ≡ true → c ≡ true → (a && (b || c)) ≡ true
  both a true c ea ec = rw ea refl
  both a false c ea ec = rw (ea, ec) refl

differs : (n : ℕ) → n ≡ 0 → eqb n 0 ≡ false → ⊥
differs n s e = let t : eqb n 0 ≡ true = eq-eqb n 0 s in cc

above : (n : ℕ) → eqb n 0 ≡ false → 0 < n
above n e = elim (leb n 0) as (λ v. leb n 0 ≡ v → 0 < n) [ true ↦ λ l. let le = leb-true n 0 l in let s : n ≡ 0 = omega arith in absurd (differs n s e) | false ↦ λ l. let lt = leb-false n 0 l in omega arith ] refl

first : (n : ℕ) → n < 2 ^ 64 → (48 < get_or (decimal n) 0 0) ⊎ (length (decimal n) ≡ 1)
first n fits = elim (eqb n 0) as (λ v. eqb n 0 ≡ v → (48 < get_or (decimal n) 0 0) ⊎ (length (decimal n) ≡ 1)) [
  | true ↦ λ e. let z = eqb-true n 0 e in inr (ap length (decimal_digit n (omega arith)))
  | false ↦ λ e. inl (first_decimal n (above n e) fits)
] refl

decimal_fits : (n : ℕ) → n < 2 ^ 64 → is_decimal (decimal n) ≡ true
decimal_fits n fits = first_fits (decimal n) (digits_all (decimal n) (decimal_digits n fits)) (decimal_is_IsNumeral n fits).0.0 (first n fits)

all_hold : (a b c : Bool) (v : ℕ) → a ≡ true → b ≡ true → c ≡ true → cond (a && b && c) (Some v) None ≡ Some v
all_hold a b c v ea eb ec = rw (ea, eb, ec) refl

-- A number within bounds is read from its spelling.
number_again : (least most n : ℕ) → least ≤ n → n ≤ most → n < 2 ^ 64 → number_in least most (decimal n) ≡ Some n
number_again least most n low high fits =
    let value : digits_value 10 (decimal n) ≡ n = (decimal_is_IsNumeral n fits).1 in
    let v : ℕ = digits_value 10 (decimal n) in
    all_hold (is_decimal (decimal n)) (leb least v) (leb v most) v (decimal_fits n fits) (le-leb least v (omega arith)) (le-leb v most (omega arith)) ∙ ap Some value

decimal_word : (n : ℕ) → n < 2 ^ 64 → IsWord (decimal n)
decimal_word n fits = (λ e. let some = (decimal_is_IsNumeral n fits).0.0 in let none : length (decimal n) ≡ 0 = ap length e in absurd (omega arith), digits_word (decimal n) (decimal_digits n fits))

-- words

-- A name is a word.
pub name_word : (name : List ℕ) → IsName name → IsWord name
name_word name is = (λ e. let none : is_name [] ≡ true = subst (λ (n : List ℕ). is_name n ≡ true) e is.0 in absurd cc, is.1)

and_last : (a b : Bool) → (a && b) ≡ true → b ≡ true
and_last true b e = e
and_last false b e = absurd cc

not_true : (b : Bool) → not b ≡ true → b ≡ false
not_true true e = absurd cc
not_true false e = refl

pub name_free : (name : List ℕ) → IsName name → is_reserved name ≡ false
name_free name is = not_true (is_reserved name) (and_last _ (not (is_reserved name)) is.0)

port_is_piece : (version : ℕ) (name : List ℕ) (e : Option ℕ) → IsName name → IsWithin 0 LAST_ELEMENT e → Piece version (port (record { name = name; element = option_map decimal e }))
port_is_piece version name None is within = word_piece version name (name_word name is)
port_is_piece version name (Some n) is within = bracketed_piece version name (decimal n) (name_word name is) (decimal_word n (omega arith))

element_again : (e : Option ℕ) → IsWithin 0 LAST_ELEMENT e → option_and_then element_of (option_map decimal e) ≡ e
element_again None within = refl
element_again (Some n) within = number_again 0 LAST_ELEMENT n within.0 within.1 (omega arith)

least_limit : (version : ℕ) → capacity_limit version ≤ CAPACITY_LIMIT
least_limit version = elim (leb 2 version) as (λ v. cond v CAPACITY_LIMIT FIRST_CAPACITY_LIMIT ≤ CAPACITY_LIMIT) [ true ↦ omega arith | false ↦ omega arith ]

capacity_fits : (version : ℕ) (e : Option ℕ) → IsWithin 1 (capacity_limit version) e → IsWithin 1 CAPACITY_LIMIT e
capacity_fits version None within = tt
capacity_fits version (Some n) within = let l = least_limit version in (within.0, omega (arith, l, within.1))

capacity_again : (e : Option ℕ) → IsWithin 1 CAPACITY_LIMIT e → option_and_then capacity_of (option_map decimal e) ≡ e
capacity_again None within = refl
capacity_again (Some n) within = number_again 1 CAPACITY_LIMIT n within.0 within.1 (omega arith)

element_numbered : (e : Option ℕ) → IsWithin 0 LAST_ELEMENT e → or_none (λ w. is_some (element_of w)) (option_map decimal e) ≡ true
element_numbered None within = refl
element_numbered (Some n) within = ap is_some (number_again 0 LAST_ELEMENT n within.0 within.1 (omega arith))

capacity_numbered : (version : ℕ) (e : Option ℕ) → IsWithin 1 (capacity_limit version) e → or_none (λ w. is_some (number_in 1 (capacity_limit version) w)) (option_map decimal e) ≡ true
capacity_numbered version None within = refl
capacity_numbered version (Some n) within = let l = least_limit version in ap is_some (number_again 1 (capacity_limit version) n within.0 within.1 (omega (arith, l, within.1)))

-- forms

-- A process as a canonical line names it.
abbrev pub as_mention : List ℕ → Mention
as_mention name = record { name = name; kind = None }

-- A port as a canonical line names it.
abbrev pub as_port : PortRef → PortMention
as_port p = record { name = p.name; element = option_map decimal p.element }

-- What a connection names, as a canonical line names it.
abbrev pub as_end : (version : ℕ) (automatic p : PortRef) → IsOneEnd version automatic p → EndMention
as_end version automatic p (inl is) = Port (as_port p)
as_end version automatic p (inr is) = Automatic

-- The form that a statement's line says.
abbrev pub said_by : (version : ℕ) (s : Statement) → IsStatement version s → Form
said_by version (Connect from out capacity to into) is = forms.Connection (as_mention from) (as_end version automatic_output out is.1) (option_map decimal capacity) (as_end version automatic_input into is.4) (as_mention to)
said_by version (Initial text to into) is = forms.Initial text (as_port into) (as_mention to)
said_by version (InPort outer to into) is = forms.InPort outer (as_port into) (as_mention to)
said_by version (OutPort from out outer) is = forms.OutPort (as_mention from) (as_port out) outer

-- A line of these pieces says the form.
pub record Says (version : ℕ) (pieces : List (List Token)) (form : Form) : Type 0 where
  pub closed : Closed (joined pieces)
  pub is : LineIs version (joined pieces) (says form)

-- Pieces that are the row of a form say that form.
pub says_form : (version : ℕ) (p : List Token) (more : List (List Token)) (form : Form) → Piece version p → AllByRecursion (Piece version) more → row_of form ≡ tokens_of (p ∷ more) → BeginsWell form → Says version (p ∷ more) form
says_form version p more form is all row well = record { closed = pieces_closed version p more is all; is = (tokens_of (p ∷ more), pieces_are_row version p more is all, (row, well)) }

port_of : (version : ℕ) (p : PortRef) → IsPort p → Piece version (port_piece p)
port_of version p is = port_is_piece version p.name p.element is.0 is.1

-- What a connection names, as a piece of its line.
record EndPiece (version : ℕ) (p : PortRef) (spelled : List Token) : Type 0 where
  tokens : List Token
  piece : Piece version tokens
  row : spelled ≡ tokens
  bytes : flat_map spelling tokens ≡ flat_map spelling (port_piece p)

output_piece : (version : ℕ) (p : PortRef) (is : IsOutput version p) → EndPiece version p (output (as_end version automatic_output p is))
output_piece version p (inl is) = record { tokens = port_piece p; piece = port_of version p is; row = refl; bytes = refl }
output_piece version p (inr is) = record {
  tokens = AutomaticOutput ∷ [];
  piece = automatic_output_piece version is.0;
  row = refl;
  bytes = subst (λ (q : PortRef). flat_map spelling (AutomaticOutput ∷ []) ≡ flat_map spelling (port_piece q)) (sym is.1) refl;
}

input_piece : (version : ℕ) (p : PortRef) (is : IsInput version p) → EndPiece version p (input (as_end version automatic_input p is))
input_piece version p (inl is) = record { tokens = port_piece p; piece = port_of version p is; row = refl; bytes = refl }
input_piece version p (inr is) = record {
  tokens = AutomaticInput ∷ [];
  piece = automatic_input_piece version is.0;
  row = refl;
  bytes = subst (λ (q : PortRef). flat_map spelling (AutomaticInput ∷ []) ≡ flat_map spelling (port_piece q)) (sym is.1) refl;
}

-- The pieces of a connection's line, given those of its output, its capacity and its input.
abbrev pieces_with : List ℕ → List Token → List (List Token) → List Token → List ℕ → List (List Token)
pieces_with from out capacity into to = word from ∷ out ∷ (Arrow ∷ []) ∷ capacity ++ into ∷ word to ∷ []

connection_row : (from out capacity into to : List Token) → from ++ out ++ Arrow ∷ capacity ++ into ++ to ≡ from ++ (out ++ (Arrow ∷ (capacity ++ (into ++ to))))
connection_row from out capacity into to = simp append_assoc

-- The line of a connection is spelled alike with the name of an automatic port as a word and with its token.
connection_bytes : (from : List ℕ) (out other : List Token) (capacity : List (List Token)) (into another : List Token) (to : List ℕ)
    → flat_map spelling out ≡ flat_map spelling other → flat_map spelling into ≡ flat_map spelling another → joined (pieces_with from out capacity into to) ≡ joined (pieces_with from other capacity another to)
connection_bytes from out other capacity into another to a b =
    let bytes : List (List Token) → List (List ℕ) = map (flat_map spelling) in
    let line : List ℕ → List ℕ → List ℕ = λ o i. join_with_byte 32 (flat_map spelling (word from) ∷ o ∷ flat_map spelling (Arrow ∷ []) ∷ bytes capacity ++ i ∷ flat_map spelling (word to) ∷ []) in
    ap (join_with_byte 32) (spread out into) ∙ ap (λ (o : List ℕ). line o (flat_map spelling into)) a ∙ ap (λ (i : List ℕ). line (flat_map spelling other) i) b ∙ sym (ap (join_with_byte 32) (spread other another)) where
      spread : (o i : List Token) → map (flat_map spelling) (pieces_with from o capacity i to) ≡ flat_map spelling (word from) ∷ flat_map spelling o ∷ flat_map spelling (Arrow ∷ []) ∷ map (flat_map spelling) capacity ++ flat_map spelling i ∷ flat_map spelling (word to) ∷ []
      spread o i = ap (λ (l : List (List ℕ)). flat_map spelling (word from) ∷ flat_map spelling o ∷ flat_map spelling (Arrow ∷ []) ∷ l) (map-append (flat_map spelling) capacity (i ∷ word to ∷ []))

-- Pieces whose line is spelled like that of others say what those say.
says_too : (version : ℕ) (pieces others : List (List Token)) (form : Form) → joined pieces ≡ joined others → Says version pieces form → Says version others form
says_too version pieces others form same s = record { closed = subst Closed same s.closed; is = subst (λ (l : List ℕ). LineIs version l (says form)) same s.is }

-- A statement, as it is printed, says itself.
pub statement_says : (version : ℕ) (s : Statement) (is : IsStatement version s) → Says version (statement_pieces s) (said_by version s is)
statement_says version (Connect from out None to into) is =
    let o = output_piece version out is.1 in
    let i = input_piece version into is.4 in
    let form : Form = said_by version (Connect from out None to into) is in
    let row : row_of form ≡ tokens_of (word from ∷ o.tokens ∷ (Arrow ∷ []) ∷ i.tokens ∷ word to ∷ []) = connection_row (word from) _ [] _ (word to) ∙ rw (o.row, i.row) refl in
    says_too version (pieces_with from o.tokens [] i.tokens to) (statement_pieces (Connect from out None to into)) form (connection_bytes from o.tokens (port_piece out) [] i.tokens (port_piece into) to o.bytes i.bytes)
    (says_form version (word from) (o.tokens ∷ (Arrow ∷ []) ∷ i.tokens ∷ word to ∷ []) form (word_piece version from (name_word from is.0))
    (o.piece, (arrow_piece version, (i.piece, (word_piece version to (name_word to is.3), tt)))) row (name_free from is.0))
statement_says version (Connect from out (Some n) to into) is =
    let o = output_piece version out is.1 in
    let i = input_piece version into is.4 in
    let c : List Token = Open ∷ Word (decimal n) ∷ Close ∷ [] in
    let form : Form = said_by version (Connect from out (Some n) to into) is in
    let row : row_of form ≡ tokens_of (word from ∷ o.tokens ∷ (Arrow ∷ []) ∷ c ∷ i.tokens ∷ word to ∷ []) = connection_row (word from) _ c _ (word to) ∙ rw (o.row, i.row) refl in
    let fits = capacity_fits version (Some n) is.2 in
    says_too version (pieces_with from o.tokens (c ∷ []) i.tokens to) (statement_pieces (Connect from out (Some n) to into)) form (connection_bytes from o.tokens (port_piece out) (c ∷ []) i.tokens (port_piece into) to o.bytes i.bytes)
    (says_form version (word from) (o.tokens ∷ (Arrow ∷ []) ∷ c ∷ i.tokens ∷ word to ∷ []) form (word_piece version from (name_word from is.0))
    (o.piece, (arrow_piece version, (closed_piece version (decimal n) (decimal_word n (omega (arith, fits.1))), (i.piece, (word_piece version to (name_word to is.3), tt))))) row (name_free from is.0))
statement_says version (Initial text to into) is =
    says_form version (Quoted text ∷ []) ((Arrow ∷ []) ∷ port_piece into ∷ word to ∷ []) (said_by version (Initial text to into) is) (quoted_piece version text is.0.0)
    (arrow_piece version, (port_of version into is.2, (word_piece version to (name_word to is.1), tt))) refl tt
statement_says version (InPort outer to into) is =
    says_form version (word (codes "inport")) (word outer ∷ (Arrow ∷ []) ∷ port_piece into ∷ word to ∷ []) (said_by version (InPort outer to into) is) (word_piece version (codes "inport") (λ e. cc, search rules))
    (word_piece version outer (name_word outer is.0), (arrow_piece version, (port_of version into is.2, (word_piece version to (name_word to is.1), tt)))) refl tt
statement_says version (OutPort from out outer) is =
    says_form version (word (codes "outport")) (word from ∷ port_piece out ∷ (Arrow ∷ []) ∷ word outer ∷ []) (said_by version (OutPort from out outer) is) (word_piece version (codes "outport") (λ e. cc, search rules))
    (word_piece version from (name_word from is.0), (port_of version out is.1, (arrow_piece version, (word_piece version outer (name_word outer is.2), tt)))) refl tt

-- A process with its kind, as it is printed, says itself.
pub process_says : (version : ℕ) (p : List ℕ × List ℕ) → IsName p.0 → IsName p.1 → Says version ((Word p.0 ∷ Open ∷ Word p.1 ∷ Close ∷ []) ∷ []) (forms.Process p.0 p.1)
process_says version p name kind = says_form version (Word p.0 ∷ Open ∷ Word p.1 ∷ Close ∷ []) [] (forms.Process p.0 p.1) (kinded_piece version p.0 p.1 (name_word p.0 name) (name_word p.1 kind)) tt refl (name_free p.0 name)

end_named : (version : ℕ) (automatic p : PortRef) (is : IsOneEnd version automatic p) → end_is_named (as_end version automatic p is) ≡ true
end_named version automatic p (inl is) = is.0.0
end_named version automatic p (inr is) = refl

end_numbered : (version : ℕ) (automatic p : PortRef) (is : IsOneEnd version automatic p) → end_is_numbered (as_end version automatic p is) ≡ true
end_numbered version automatic p (inl is) = element_numbered p.element is.1
end_numbered version automatic p (inr is) = refl

-- The names of a statement are names.
pub statement_named : (version : ℕ) (s : Statement) (is : IsStatement version s) → is_named (said_by version s is) ≡ true
statement_named version (Connect from out capacity to into) is = rw (is.0.0, end_named version automatic_output out is.1, end_named version automatic_input into is.4, is.3.0) refl
statement_named version (Initial text to into) is = rw (is.2.0.0, is.1.0) refl
statement_named version (InPort outer to into) is = rw (is.0.0, is.2.0.0, is.1.0) refl
statement_named version (OutPort from out outer) is = rw (is.0.0, is.1.0.0, is.2.0) refl

-- The numbers of a statement are within their limits.
pub statement_numbered : (version : ℕ) (s : Statement) (is : IsStatement version s) → is_numbered version (said_by version s is) ≡ true
statement_numbered version (Connect from out capacity to into) is = rw (end_numbered version automatic_output out is.1, capacity_numbered version capacity is.2, end_numbered version automatic_input into is.4) refl
statement_numbered version (Initial text to into) is = element_numbered into.element is.2.1
statement_numbered version (InPort outer to into) is = element_numbered into.element is.2.1
statement_numbered version (OutPort from out outer) is = element_numbered out.element is.1.1

-- The text of a statement is within its limit.
pub statement_fits : (version : ℕ) (s : Statement) (is : IsStatement version s) → text_fits (said_by version s is) ≡ true
statement_fits version (Connect from out capacity to into) is = refl
statement_fits version (Initial text to into) is = le-leb (length text) TEXT_LIMIT is.0.1
statement_fits version (InPort outer to into) is = refl
statement_fits version (OutPort from out outer) is = refl

port_again : (p : PortRef) → IsPort p → port_ref (as_port p) ≡ p
port_again p is = ap (build p.name) (element_again p.element is.1) where
  build : List ℕ → Option ℕ → PortRef
  build name element = record { name = name; element = element }

output_again : (version : ℕ) (p : PortRef) (is : IsOutput version p) → output_ref (as_end version automatic_output p is) ≡ p
output_again version p (inl is) = port_again p is
output_again version p (inr is) = sym is.1

input_again : (version : ℕ) (p : PortRef) (is : IsInput version p) → input_ref (as_end version automatic_input p is) ≡ p
input_again version p (inl is) = port_again p is
input_again version p (inr is) = sym is.1

-- What the line of a statement says is that statement.
pub statement_again : (version : ℕ) (s : Statement) (is : IsStatement version s) → statements_of (said_by version s is) ≡ s ∷ []
statement_again version (Connect from out capacity to into) is =
    ap (λ (p : PortRef). Connect from p (option_and_then capacity_of (option_map decimal capacity)) to (input_ref (as_end version automatic_input into is.4)) ∷ []) (output_again version out is.1)
    ∙ ap (λ (c : Option ℕ). Connect from out c to (input_ref (as_end version automatic_input into is.4)) ∷ []) (capacity_again capacity (capacity_fits version capacity is.2)) ∙ ap (λ (p : PortRef). Connect from out capacity to p ∷ []) (input_again version into is.4)
statement_again version (Initial text to into) is = ap (λ (p : PortRef). Initial text to p ∷ []) (port_again into is.2)
statement_again version (InPort outer to into) is = ap (λ (p : PortRef). InPort outer to p ∷ []) (port_again into is.2)
statement_again version (OutPort from out outer) is = ap (λ (p : PortRef). OutPort from p outer ∷ []) (port_again out is.1)

-- The line of a statement mentions the statement's processes, without kinds.
pub statement_mentions : (version : ℕ) (s : Statement) (is : IsStatement version s) → mentions_of (said_by version s is) ≡ map as_mention (names_of s)
statement_mentions version (Connect from out capacity to into) is = refl
statement_mentions version (Initial text to into) is = refl
statement_mentions version (InPort outer to into) is = refl
statement_mentions version (OutPort from out outer) is = refl
