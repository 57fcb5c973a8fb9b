-- The value of a part's lines is that of a part.
use Rattle.flow_limits.specs.declared.TheConstants.{CAPACITY_LIMIT, LAST_ELEMENT, TEXT_LIMIT}
use Rattle.std.proofs.Common.{◌≡◌, ℕ, Bool, true, false, cond, leb, List, [], ◌∷◌, ◌++◌, length, map, Option, Some, None, refl, ap, ◌∙◌, inl, inr}
use Rattle.std.specs.Prelude.{◌&&◌, ◌||◌, is_some, unwrap_or, option_and_then}
use Rattle.std.specs.Str.{bytes_eq}
use Rattle.std.specs.Str.Parse.{digits_value}
use Rattle.std.specs.List.{AllByRecursion, list_any}
use Rattle.std.proofs.lemmas.Bool.{leb-true}
use Rattle.std.proofs.lemmas.List.Folds.{list_any-append}
use Rattle.std.proofs.lemmas.Slice.Eq.{bytes_eq-Decides}
use Rattle.flow_parse.specs.declared.form.Mention.{Mention}
use Rattle.flow_parse.specs.declared.form.PortMention.{PortMention}
use Rattle.flow_parse.specs.declared.form.EndMention.{EndMention}
use Rattle.flow_parse.specs.declared.form.EndMention.TheVariants.{Port, Automatic}
use Rattle.flow_parse.specs.declared.form.Form.{Form}
use Rattle.flow_parse.specs.declared.form.Form.TheVariants.{Header, Process, Connection, Initial, Subnet, End, InPort, OutPort}
use Rattle.flow_parse.specs.declared.table.MentionedProcess.{MentionedProcess}
use Rattle.flow_parse.specs.declared.value.Statement.{Statement}
use Rattle.flow_parse.specs.Names.{is_name, is_decimal, number_in, capacity_limit, capacity_of, or_none, mention_is_named, port_is_named, end_is_named, is_named, end_is_numbered, is_numbered}
use Rattle.flow_parse.specs.Files.{Lines, mentions_of, mentions_in, first_mentions, kind_in, processes_in, kindless_line, port_ref, output_ref, input_ref, statements_of, statements_in, text_fits, value_of}
use Rattle.flow_parse.specs.Values.{IsName, IsWithin, IsPort, IsOutput, IsInput, IsStatement, names_of, Differ, NamesKnown, IsNetPart}
use Rattle.flow_parse.proofs.TableMeans.{Ms, only, has, Apart, entry, filter_all, first_apart, first_has}
use Rattle.flow_parse.proofs.FileWords.{OfWord, OfWordIfAny, OfMention, OfEnd, Worded}

both : (a b : Bool) → (a && b) ≡ true → (a ≡ true) × (b ≡ true)
both true b e = (refl, e)
both false b e = absurd cc

-- A line of a file of this version that says a form which is said well.
pub record Sound (version : ℕ) (form : Form) : Type 0 where
  pub worded : Worded version form
  pub named : is_named form ≡ true
  pub numbered : is_numbered version form ≡ true
  pub fits : text_fits form ≡ true

number_within : (least most : ℕ) (word : List ℕ) → IsWithin least most (number_in least most word)
number_within least most word = choose (is_decimal word) (leb least (digits_value 10 word)) (leb (digits_value 10 word) most) (digits_value 10 word) refl refl where
  choose : (a b c : Bool) (n : ℕ) → leb least n ≡ b → leb n most ≡ c → IsWithin least most (cond (a && b && c) (Some n) None)
  choose true true true n low high = (leb-true least n low, leb-true n most high)
  choose true true false n low high = tt
  choose true false c n low high = tt
  choose false b c n low high = tt

number_if_any : (least most : ℕ) (o : Option (List ℕ)) → IsWithin least most (option_and_then (number_in least most) o)
number_if_any least most None = tt
number_if_any least most (Some w) = number_within least most w

port_fine : (p : PortMention) → is_name p.name ≡ true → OfWord p.name → IsPort (port_ref p)
port_fine p named worded = ((named, worded), number_if_any 0 LAST_ELEMENT p.element)

output_fine : (version : ℕ) (out : EndMention) → end_is_named out ≡ true → OfEnd version out → IsOutput version (output_ref out)
output_fine version (Port p) named worded = inl (port_fine p named worded)
output_fine version Automatic named worded = inr (worded, refl)

input_fine : (version : ℕ) (into : EndMention) → end_is_named into ≡ true → OfEnd version into → IsInput version (input_ref into)
input_fine version (Port p) named worded = inl (port_fine p named worded)
input_fine version Automatic named worded = inr (worded, refl)

-- A number within one bound, where it is one within another too.
narrow : (most other : ℕ) (word : List ℕ) → is_some (number_in 1 most word) ≡ true → IsWithin 1 most (number_in 1 other word)
narrow most other word = choose (is_decimal word) (leb 1 (digits_value 10 word)) (leb (digits_value 10 word) most) (leb (digits_value 10 word) other) (digits_value 10 word) refl refl where
  choose : (a b c d : Bool) (n : ℕ) → leb 1 n ≡ b → leb n most ≡ c → is_some (cond (a && b && c) (Some n) None) ≡ true → IsWithin 1 most (cond (a && b && d) (Some n) None)
  choose true true true true n low high e = (leb-true 1 n low, leb-true n most high)
  choose true true true false n low high e = tt
  choose true true false d n low high e = absurd cc
  choose true false c d n low high e = absurd cc
  choose false b c d n low high e = absurd cc

capacity_fine : (version : ℕ) (o : Option (List ℕ)) → or_none (λ word. is_some (number_in 1 (capacity_limit version) word)) o ≡ true → IsWithin 1 (capacity_limit version) (option_and_then capacity_of o)
capacity_fine version None e = tt
capacity_fine version (Some word) e = narrow (capacity_limit version) CAPACITY_LIMIT word e

mention_name : (m : Mention) → mention_is_named m ≡ true → OfMention m → IsName m.name
mention_name m named worded = ((both (is_name m.name) (or_none is_name m.kind) named).0, worded.0)

form_statements : (version : ℕ) (form : Form) → Sound version form → AllByRecursion (IsStatement version) (statements_of form)
form_statements version (Header said) s = tt
form_statements version (Process name kind) s = tt
form_statements version (Connection from out capacity into to) s =
    let a = both (mention_is_named from && end_is_named out && end_is_named into) (mention_is_named to) s.named in
    let b = both (mention_is_named from && end_is_named out) (end_is_named into) a.0 in
    let c = both (mention_is_named from) (end_is_named out) b.0 in
    let n = both (end_is_numbered out && or_none (λ word. is_some (number_in 1 (capacity_limit version) word)) capacity) (end_is_numbered into) s.numbered in
    let m = both (end_is_numbered out) (or_none (λ word. is_some (number_in 1 (capacity_limit version) word)) capacity) n.0 in
    ((mention_name from c.0 s.worded.0, output_fine version out c.1 s.worded.1, capacity_fine version capacity m.1, mention_name to a.1 s.worded.3, input_fine version into b.1 s.worded.2), tt)
form_statements version (Initial text into to) s =
    let a = both (port_is_named into) (mention_is_named to) s.named in
    (((s.worded.0, leb-true (length text) TEXT_LIMIT s.fits), mention_name to a.1 s.worded.2, port_fine into a.0 s.worded.1), tt)
form_statements version (Subnet name) s = tt
form_statements version End s = tt
form_statements version (InPort outer into to) s =
    let a = both (is_name outer && port_is_named into) (mention_is_named to) s.named in
    let b = both (is_name outer) (port_is_named into) a.0 in
    (((b.0, s.worded.0), mention_name to a.1 s.worded.2, port_fine into b.1 s.worded.1), tt)
form_statements version (OutPort from out outer) s =
    let a = both (mention_is_named from && port_is_named out) (is_name outer) s.named in
    let b = both (mention_is_named from) (port_is_named out) a.0 in
    ((mention_name from b.0 s.worded.0, port_fine out b.1 s.worded.1, (a.1, s.worded.2)), tt)

-- A name, where there is a word.
abbrev pub IsNameIfAny : Option (List ℕ) → Type 0
IsNameIfAny None = Unit {0}
IsNameIfAny (Some w) = IsName w

abbrev pub NamedMention : Mention → Type 0
NamedMention m = IsName m.name × IsNameIfAny m.kind

mention_fine : (m : Mention) → mention_is_named m ≡ true → OfMention m → NamedMention m
mention_fine m named worded = let a = both (is_name m.name) (or_none is_name m.kind) named in ((a.0, worded.0), kind m.kind a.1 worded.1) where
  kind : (o : Option (List ℕ)) → or_none is_name o ≡ true → OfWordIfAny o → IsNameIfAny o
  kind None named worded = tt
  kind (Some w) named worded = (named, worded)

form_mentions : (version : ℕ) (form : Form) → Sound version form → AllByRecursion NamedMention (mentions_of form)
form_mentions version (Header said) s = tt
form_mentions version (Process name kind) s = let a = both (is_name name) (is_name kind) s.named in (((a.0, s.worded.0), (a.1, s.worded.1)), tt)
form_mentions version (Connection from out capacity into to) s =
    let a = both (mention_is_named from && end_is_named out && end_is_named into) (mention_is_named to) s.named in
    let b = both (mention_is_named from && end_is_named out) (end_is_named into) a.0 in
    let c = both (mention_is_named from) (end_is_named out) b.0 in
    (mention_fine from c.0 s.worded.0, (mention_fine to a.1 s.worded.3, tt))
form_mentions version (Initial text into to) s = let a = both (port_is_named into) (mention_is_named to) s.named in (mention_fine to a.1 s.worded.2, tt)
form_mentions version (Subnet name) s = tt
form_mentions version End s = tt
form_mentions version (InPort outer into to) s = let a = both (is_name outer && port_is_named into) (mention_is_named to) s.named in (mention_fine to a.1 s.worded.2, tt)
form_mentions version (OutPort from out outer) s =
    let a = both (mention_is_named from && port_is_named out) (is_name outer) s.named in
    let b = both (mention_is_named from) (port_is_named out) a.0 in (mention_fine from b.0 s.worded.0, tt)

all_append : {X : Type 0} (P : X → Type 0) (xs ys : List X) → AllByRecursion P xs → AllByRecursion P ys → AllByRecursion P (xs ++ ys)
all_append P [] ys a b = b
all_append P (x ∷ xs) ys a b = (a.0, all_append P xs ys a.1 b)

-- Lines that say well what they say.
abbrev pub SoundLines : ℕ → Lines → Type 0
SoundLines version ls = AllByRecursion (λ (l : ℕ × Form). Sound version l.1) ls

lines_statements : (version : ℕ) (ls : Lines) → SoundLines version ls → AllByRecursion (IsStatement version) (statements_in ls)
lines_statements version [] all = tt
lines_statements version (l ∷ ls) all = all_append (IsStatement version) (statements_of l.1) (statements_in ls) (form_statements version l.1 all.0) (lines_statements version ls all.1)

numbered : (n : ℕ) (ms : List Mention) → AllByRecursion NamedMention ms → AllByRecursion (λ (k : ℕ × Mention). NamedMention k.1) (map (λ (m : Mention). (n, m)) ms)
numbered n [] all = tt
numbered n (m ∷ ms) all = (all.0, numbered n ms all.1)

lines_mentions : (version : ℕ) (ls : Lines) → SoundLines version ls → AllByRecursion (λ (k : ℕ × Mention). NamedMention k.1) (mentions_in ls)
lines_mentions version [] all = tt
lines_mentions version (l ∷ ls) all = all_append (λ (k : ℕ × Mention). NamedMention k.1) (map (λ (m : Mention). (l.0, m)) (mentions_of l.1)) (mentions_in ls) (numbered l.0 (mentions_of l.1) (form_mentions version l.1 all.0)) (lines_mentions version ls all.1)

kind_named : (name : List ℕ) (ms : Ms) → AllByRecursion (λ (k : ℕ × Mention). NamedMention k.1) ms → IsNameIfAny (kind_in name (only ms))
kind_named name [] all = tt
kind_named name (m ∷ ms) all = choose (bytes_eq m.1.name name && is_some m.1.kind) m.1.kind (kind_in name (only ms)) all.0.1 (kind_named name ms all.1) where
  choose : (v : Bool) (a b : Option (List ℕ)) → IsNameIfAny a → IsNameIfAny b → IsNameIfAny (cond v a b)
  choose true a b x y = x
  choose false a b x y = y

firsts_named : (ms : Ms) → AllByRecursion (λ (k : ℕ × Mention). NamedMention k.1) ms → AllByRecursion (λ (k : ℕ × Mention). NamedMention k.1) (first_mentions ms)
firsts_named [] all = tt
firsts_named (m ∷ ms) all = (all.0, filter_all (λ (k : ℕ × Mention). NamedMention k.1) _ (first_mentions ms) (firsts_named ms all.1))

-- A process of the value.
abbrev pub pair : MentionedProcess → List ℕ × List ℕ
pair p = (p.name, unwrap_or p.kind [])

pairs_named : (ms ks : Ms) → AllByRecursion (λ (k : ℕ × Mention). NamedMention k.1) ms → AllByRecursion (λ (k : ℕ × Mention). NamedMention k.1) ks → kindless_line (map (entry ms) ks) ≡ None
    → AllByRecursion (λ (p : List ℕ × List ℕ). IsName p.0 × IsName p.1) (map pair (map (entry ms) ks))
pairs_named ms [] all these kinded = tt
pairs_named ms (k ∷ ks) all these kinded = one (kind_in k.1.name (only ms)) (kind_named k.1.name ms all) (λ none. pairs_named ms ks all these.1 none) kinded where
  one : (o : Option (List ℕ)) → IsNameIfAny o → (kindless_line (map (entry ms) ks) ≡ None → AllByRecursion (λ (p : List ℕ × List ℕ). IsName p.0 × IsName p.1) (map pair (map (entry ms) ks))) → kindless_line (record { line = k.0; name = k.1.name; kind = o } ∷ map (entry ms) ks) ≡ None → (IsName k.1.name × IsName (unwrap_or o [])) × AllByRecursion (λ (p : List ℕ × List ℕ). IsName p.0 × IsName p.1) (map pair (map (entry ms) ks))
  one None named more none = absurd cc
  one (Some w) named more none = ((these.0.0, named), more none)

apart_names : (ms : Ms) (name : List ℕ) (ks : Ms) → AllByRecursion (λ (j : ℕ × Mention). bytes_eq name j.1.name ≡ false) ks → AllByRecursion (λ other. bytes_eq name other ≡ false) (map (λ (p : List ℕ × List ℕ). p.0) (map pair (map (entry ms) ks)))
apart_names ms name [] all = tt
apart_names ms name (k ∷ ks) all = (all.0, apart_names ms name ks all.1)

apart_differ : (ms ks : Ms) → Apart ks → Differ (map (λ (p : List ℕ × List ℕ). p.0) (map pair (map (entry ms) ks)))
unfolding Apart
apart_differ ms [] apart = tt
apart_differ ms (k ∷ ks) apart = (apart_names ms k.1.name ks apart.0, apart_differ ms ks apart.1)

same_has : (ms ks : Ms) (name : List ℕ) → list_any (λ (p : List ℕ × List ℕ). bytes_eq p.0 name) (map pair (map (entry ms) ks)) ≡ has name ks
unfolding has
same_has ms [] name = refl
same_has ms (k ∷ ks) name = ap (λ (b : Bool). bytes_eq k.1.name name || b) (same_has ms ks name)

-- The names are mentioned.
abbrev pub Mentioned : Ms → Statement → Type 0
Mentioned ms s = AllByRecursion (λ name. has name ms ≡ true) (names_of s)

itself : (name : List ℕ) → bytes_eq name name ≡ true
itself name = (bytes_eq-Decides name name).1 refl

or_last : (a b : Bool) → b ≡ true → (a || b) ≡ true
or_last true b e = refl
or_last false b e = e

or_first : (a b : Bool) → a ≡ true → (a || b) ≡ true
or_first true b e = refl
or_first false b e = absurd cc

has_append : (name : List ℕ) (xs ys : Ms) → has name (xs ++ ys) ≡ (has name xs || has name ys)
unfolding has
has_append name xs ys = list_any-append (λ (k : ℕ × Mention). bytes_eq k.1.name name) xs ys

all_has : (names : List (List ℕ)) (xs ys : Ms) → ((name : List ℕ) → has name xs ≡ true → has name ys ≡ true) → AllByRecursion (λ name. has name xs ≡ true) names → AllByRecursion (λ name. has name ys ≡ true) names
all_has [] xs ys goes all = tt
all_has (n ∷ ns) xs ys goes all = (goes n all.0, all_has ns xs ys goes all.1)

all_mentioned : (ss : List Statement) (xs ys : Ms) → ((name : List ℕ) → has name xs ≡ true → has name ys ≡ true) → AllByRecursion (Mentioned xs) ss → AllByRecursion (Mentioned ys) ss
all_mentioned [] xs ys goes all = tt
all_mentioned (s ∷ ss) xs ys goes all = (all_has (names_of s) xs ys goes all.0, all_mentioned ss xs ys goes all.1)

form_known : (n : ℕ) (form : Form) → AllByRecursion (Mentioned (map (λ (m : Mention). (n, m)) (mentions_of form))) (statements_of form)
unfolding has
form_known n (Header said) = tt
form_known n (Process name kind) = tt
form_known n (Connection from out capacity into to) = ((or_first (bytes_eq from.name from.name) _ (itself from.name), (or_last (bytes_eq from.name to.name) _ (or_first (bytes_eq to.name to.name) false (itself to.name)), tt)), tt)
form_known n (Initial text into to) = ((or_first (bytes_eq to.name to.name) false (itself to.name), tt), tt)
form_known n (Subnet name) = tt
form_known n End = tt
form_known n (InPort outer into to) = ((or_first (bytes_eq to.name to.name) false (itself to.name), tt), tt)
form_known n (OutPort from out outer) = ((or_first (bytes_eq from.name from.name) false (itself from.name), tt), tt)

lines_known : (ls : Lines) → AllByRecursion (Mentioned (mentions_in ls)) (statements_in ls)
lines_known [] = tt
lines_known (l ∷ ls) =
    let here : Ms = map (λ (m : Mention). (l.0, m)) (mentions_of l.1) in
    all_append (Mentioned (here ++ mentions_in ls)) (statements_of l.1) (statements_in ls)
    (all_mentioned (statements_of l.1) here (here ++ mentions_in ls) (λ name e. has_append name here (mentions_in ls) ∙ or_first (has name here) (has name (mentions_in ls)) e) (form_known l.0 l.1))
    (all_mentioned (statements_in ls) (mentions_in ls) (here ++ mentions_in ls) (λ name e. has_append name here (mentions_in ls) ∙ or_last (has name here) (has name (mentions_in ls)) e) (lines_known ls))

names_known : (ms : Ms) (names : List (List ℕ)) → AllByRecursion (λ name. has name ms ≡ true) names
    → AllByRecursion (λ name. list_any (λ (p : List ℕ × List ℕ). bytes_eq p.0 name) (map pair (processes_in ms)) ≡ true) names
names_known ms [] all = tt
names_known ms (n ∷ ns) all = (same_has ms (first_mentions ms) n ∙ first_has n ms ∙ all.0, names_known ms ns all.1)

statements_known : (ms : Ms) (ss : List Statement) → AllByRecursion (Mentioned ms) ss → AllByRecursion (NamesKnown (map pair (processes_in ms))) ss
statements_known ms [] all = tt
statements_known ms (s ∷ ss) all = (names_known ms (names_of s) all.0, statements_known ms ss all.1)

-- The value of sound lines that give each process a kind.
pub part_valid : (version : ℕ) (ls : Lines) → SoundLines version ls → kindless_line (processes_in (mentions_in ls)) ≡ None → IsNetPart version (value_of ls)
part_valid version ls sound kinded =
    let ms : Ms = mentions_in ls in
    let named = lines_mentions version ls sound in
    record {
      named = pairs_named ms (first_mentions ms) named (firsts_named ms named) kinded;
      differ = apart_differ ms (first_mentions ms) (first_apart ms);
      said = lines_statements version ls sound;
      known = statements_known ms (statements_in ls) (lines_known ls);
    }
