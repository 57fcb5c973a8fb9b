-- The words and the texts of a file's lines.
use Rattle.std.proofs.Common.{◌≡◌, ◌≢◌, ℕ, ◌≤◌, zero, suc, Bool, true, false, cond, eqb, List, [], ◌∷◌, ◌++◌, length, ◌-◌, get_or, take, Option, Some, None, refl, sym, subst}
use Rattle.std.specs.List.{AllByRecursion, slice_split, onto_first}
use Rattle.std.specs.Str.Lines.{lines, lines_of_parts, strip_carriage_return}
use Rattle.std.proofs.lemmas.Bool.{eqb-true}
use Rattle.flow_parse.specs.declared.token.Token.{Token}
use Rattle.flow_parse.specs.declared.token.Token.TheVariants.{Word, Arrow, Open, Close, OpenBracket, CloseBracket, AutomaticInput, AutomaticOutput, Quoted}
use Rattle.flow_parse.specs.declared.form.Mention.{Mention}
use Rattle.flow_parse.specs.declared.form.PortMention.{PortMention}
use Rattle.flow_parse.specs.declared.form.EndMention.{EndMention}
use Rattle.flow_parse.specs.declared.form.EndMention.TheVariants.{Port, Automatic}
use Rattle.flow_parse.specs.declared.form.Form.{Form}
use Rattle.flow_parse.specs.declared.form.Form.TheVariants.{Header, Process, Connection, Initial, Subnet, End, InPort, OutPort}
use Rattle.flow_parse.specs.Spelling.{is_word_byte, spelling, doubled, Ends, BeginsRow}
use Rattle.flow_parse.specs.Forms.{parenthesized, mention, port, output, input, row_of}
use Rattle.flow_parse.specs.Files.{says, LineIs}

-- Bytes that stand within one line.
abbrev pub Clean : List ℕ → Type 0
Clean bytes = AllByRecursion (λ b. b ≢ 10) bytes

not_ten : (b : ℕ) → eqb b 10 ≡ false → b ≢ 10
not_ten b e same = let t : eqb b 10 ≡ true = subst (λ (n : ℕ). eqb n 10 ≡ true) (sym same) refl in absurd cc

onto_clean : (b : ℕ) (parts : List (List ℕ)) → b ≢ 10 → AllByRecursion Clean parts → AllByRecursion Clean (onto_first b parts)
onto_clean b [] is all = ((is, tt), tt)
onto_clean b (p ∷ ps) is all = ((is, all.0), all.1)

split_clean : (bytes : List ℕ) → AllByRecursion Clean (slice_split (λ b. eqb b 10) bytes)
split_clean [] = (tt, tt)
split_clean (b ∷ bs) = elim (eqb b 10) as (λ v. eqb b 10 ≡ v → AllByRecursion Clean (cond v ([] ∷ slice_split (λ c. eqb c 10) bs) (onto_first b (slice_split (λ c. eqb c 10) bs)))) [
  | true ↦ λ e. (tt, split_clean bs)
  | false ↦ λ e. onto_clean b (slice_split (λ c. eqb c 10) bs) (not_ten b e) (split_clean bs)
] refl

take_clean : (n : ℕ) (bytes : List ℕ) → Clean bytes → Clean (take n bytes)
take_clean zero bytes clean = tt
take_clean (suc n) [] clean = tt
take_clean (suc n) (b ∷ bs) clean = (clean.0, take_clean n bs clean.1)

strip_clean : (bytes : List ℕ) → Clean bytes → Clean (strip_carriage_return bytes)
strip_clean bytes clean = choose (eqb (get_or bytes (length bytes - 1) 0) 13) (take (length bytes - 1) bytes) bytes (take_clean (length bytes - 1) bytes clean) clean where
  choose : (v : Bool) (xs ys : List ℕ) → Clean xs → Clean ys → Clean (cond v xs ys)
  choose true xs ys x y = x
  choose false xs ys x y = y

parts_clean : (parts : List (List ℕ)) → AllByRecursion Clean parts → AllByRecursion Clean (lines_of_parts parts)
parts_clean [] all = tt
parts_clean (x ∷ []) all = elim (eqb (length x) 0) as (λ v. AllByRecursion Clean (cond v [] (x ∷ []))) [ true ↦ tt | false ↦ all ]
parts_clean (x ∷ y ∷ more) all = (strip_clean x all.0, parts_clean (y ∷ more) all.1)

-- A line has no line end in it.
pub lines_clean : (bytes : List ℕ) → AllByRecursion Clean (lines bytes)
lines_clean bytes = parts_clean (slice_split (λ b. eqb b 10) bytes) (split_clean bytes)

front_of : {X : Type 0} (P : X → Type 0) (xs ys : List X) → AllByRecursion P (xs ++ ys) → AllByRecursion P xs
front_of P [] ys all = tt
front_of P (x ∷ xs) ys all = (all.0, front_of P xs ys all.1)

back_of : {X : Type 0} (P : X → Type 0) (xs ys : List X) → AllByRecursion P (xs ++ ys) → AllByRecursion P ys
back_of P [] ys all = all
back_of P (x ∷ xs) ys all = back_of P xs ys all.1

undoubled : (text : List ℕ) → Clean (doubled text) → Clean text
undoubled [] clean = tt
undoubled (b ∷ bs) clean = elim (eqb b 39) as (λ v. eqb b 39 ≡ v → Clean (cond v (39 ∷ 39 ∷ doubled bs) (b ∷ doubled bs)) → Clean (b ∷ bs)) [
  | true ↦ λ e c. (subst (λ (n : ℕ). n ≢ 10) (sym (eqb-true b 39 e)) c.0, undoubled bs c.1.1)
  | false ↦ λ e c. (c.0, undoubled bs c.1)
] refl clean

-- A word of word bytes.
abbrev pub OfWord : List ℕ → Type 0
OfWord word = AllByRecursion (λ b. is_word_byte b ≡ true) word

-- A token as a line of a file of this version has it.
abbrev pub OfLine : ℕ → Token → Type 0
OfLine version (Word w) = OfWord w
OfLine version (Quoted text) = Clean text
OfLine version AutomaticInput = 2 ≤ version
OfLine version AutomaticOutput = 2 ≤ version
OfLine version _ = Unit {0}

token_fine : (version : ℕ) (t : Token) (rest : List ℕ) → Ends version t rest → Clean (spelling t) → OfLine version t
token_fine version (Word w) rest ends clean = ends.1
token_fine version Arrow rest ends clean = tt
token_fine version Open rest ends clean = tt
token_fine version Close rest ends clean = tt
token_fine version OpenBracket rest ends clean = tt
token_fine version CloseBracket rest ends clean = tt
token_fine version AutomaticInput rest ends clean = ends.0
token_fine version AutomaticOutput rest ends clean = ends.0
token_fine version (Quoted text) rest ends clean = undoubled text (front_of (λ b. b ≢ 10) (doubled text) (39 ∷ []) clean.1)

row_fine : (version : ℕ) (bytes : List ℕ) (ts : List Token) (rest : List ℕ) → Clean bytes → BeginsRow version bytes ts rest → AllByRecursion (OfLine version) ts
row_fine version bytes [] rest clean row = tt
row_fine version bytes (t ∷ ts) rest clean row =
    let all : Clean (row.1.blanks ++ (spelling t ++ row.0)) = subst Clean row.1.parts clean in
    let behind : Clean (spelling t ++ row.0) = back_of (λ b. b ≢ 10) row.1.blanks (spelling t ++ row.0) all in
    (token_fine version t row.0 row.1.ends (front_of (λ b. b ≢ 10) (spelling t) row.0 behind), row_fine version row.0 ts rest (back_of (λ b. b ≢ 10) (spelling t) row.0 behind) row.2)

-- A word, where there is one.
abbrev pub OfWordIfAny : Option (List ℕ) → Type 0
OfWordIfAny None = Unit {0}
OfWordIfAny (Some w) = OfWord w

-- The words of a mention.
abbrev pub OfMention : Mention → Type 0
OfMention m = OfWord m.name × OfWordIfAny m.kind

-- The word of what a connection names, or that there are automatic ports.
abbrev pub OfEnd : ℕ → EndMention → Type 0
OfEnd version (Port p) = OfWord p.name
OfEnd version Automatic = 2 ≤ version

-- The words in the place of names, and the text, as a line of a file of this version has them.
abbrev pub Worded : ℕ → Form → Type 0
Worded version (Header said) = Unit {0}
Worded version (Process name kind) = OfWord name × OfWord kind
Worded version (Connection from out capacity into to) = OfMention from × OfEnd version out × OfEnd version into × OfMention to
Worded version (Initial text into to) = Clean text × OfWord into.name × OfMention to
Worded version (Subnet name) = OfWord name
Worded version End = Unit {0}
Worded version (InPort outer into to) = OfWord outer × OfWord into.name × OfMention to
Worded version (OutPort from out outer) = OfMention from × OfWord out.name × OfWord outer

mention_words : (version : ℕ) (m : Mention) → AllByRecursion (OfLine version) (mention m) → OfMention m
mention_words version m all = (all.0, kind m.kind all.1) where
  kind : (o : Option (List ℕ)) → AllByRecursion (OfLine version) (parenthesized o) → OfWordIfAny o
  kind None all = tt
  kind (Some w) all = all.1.0

output_words : (version : ℕ) (out : EndMention) → AllByRecursion (OfLine version) (output out) → OfEnd version out
output_words version (Port p) all = all.0
output_words version Automatic all = all.0

input_words : (version : ℕ) (into : EndMention) → AllByRecursion (OfLine version) (input into) → OfEnd version into
input_words version (Port p) all = all.0
input_words version Automatic all = all.0

receiver_words : (version : ℕ) (into : PortMention) (to : Mention) → AllByRecursion (OfLine version) (port into ++ mention to) → OfWord into.name × OfMention to
receiver_words version into to all = (all.0, mention_words version to (back_of (OfLine version) (port into) (mention to) all))

form_words : (version : ℕ) (form : Form) → AllByRecursion (OfLine version) (row_of form) → Worded version form
form_words version (Header said) all = tt
form_words version (Process name kind) all = (all.0, all.1.1.0)
form_words version (Connection from out capacity into to) all =
    let P : Token → Type 0 = OfLine version in
    let a = front_of P (mention from ++ output out ++ Arrow ∷ parenthesized capacity ++ input into) (mention to) all in
    let b = front_of P (mention from ++ output out ++ Arrow ∷ parenthesized capacity) (input into) a in
    let c = front_of P (mention from ++ output out) (Arrow ∷ parenthesized capacity) b in
    (mention_words version from (front_of P (mention from) (output out) c), output_words version out (back_of P (mention from) (output out) c), input_words version into (back_of P (mention from ++ output out ++ Arrow ∷ parenthesized capacity) (input into) a), mention_words version to (back_of P (mention from ++ output out ++ Arrow ∷ parenthesized capacity ++ input into) (mention to) all))
form_words version (Initial text into to) all = let r = receiver_words version into to all.1.1 in (all.0, r.0, r.1)
form_words version (Subnet name) all = all.1.0
form_words version End all = tt
form_words version (InPort outer into to) all = let r = receiver_words version into to all.1.1.1 in (all.1.0, r.0, r.1)
form_words version (OutPort from out outer) all =
    let P : Token → Type 0 = OfLine version in
    let a = front_of P (mention from ++ port out) (Arrow ∷ Word outer ∷ []) all.1 in
    let b = back_of P (mention from ++ port out) (Arrow ∷ Word outer ∷ []) all.1 in
    (mention_words version from (front_of P (mention from) (port out) a), (back_of P (mention from) (port out) a).0, b.1.0)

-- What a line says has the line's words.
pub said_words : (version : ℕ) (line : List ℕ) (form : Form) → Clean line → LineIs version line (says form) → Worded version form
said_words version line form clean is = form_words version form (subst (λ (ts : List Token). AllByRecursion (OfLine version) ts) (sym is.2.0) (row_fine version line is.0 is.1.0 clean is.1.1))
