-- What stands behind a dollar as a name, in braces and without, and which group it calls.
use Rattle.std.proofs.Common.{◌≡◌, ℕ, ◌+◌, ◌≤◌, ◌==◌, Bool, true, false, ◌&&◌, List, [], ◌∷◌, length, map, take, nat_lt, slice_index, Option, Some, None, option_and_then, Result, Ok, Err, if◌then◌else◌, IsUtf8, refl, sym, subst, ap, ◌∙◌, arith, lt-ltb, le-ltb}
use Rattle.std.specs.Prelude.{bytes_eq, position, take_while}
use Rattle.std.specs.Bool.{then_some}
use Rattle.std.specs.List.{position_from, position_or_len, prefix_len}
use Rattle.std.specs.Option.{option_or}
use Rattle.std.specs.Result.{result_ok}
use Rattle.std.specs.Str.{is_utf8}
use Rattle.std.specs.Str.Parse.{ParsesUnsigned}
use Rattle.std.proofs.lemmas.Bool.{cond-true, cond-false}
use Rattle.std.proofs.lemmas.List.Folds.{length-prefix_len}
use Rattle.regex_hir.specs.Text.{is_some_and}
use Rattle.regex.specs.Templates.{is_name_byte, name_at, number_in, group_called}
use Rattle.regex.proofs.TemplateLemmas.{name_is_text, number_parsed}
use Rattle.regex_syntax.specs.Grammar.{Names}
use Rattle.flow_pattern.specs.Template.{known, called}

-- In braces a name goes up to the first that closes, and is one where it is a text.
module _ (inside : List ℕ) where
  abbrev closing : Option ℕ
  closing = position (λ (b : ℕ). b == 125) inside

  abbrev name_to : ℕ → Option (List ℕ × ℕ)
  name_to n = if is_utf8 (take n inside) then Some (take n inside, n + 2) else None

  to-closing : name_at (123 ∷ inside) ≡ option_and_then name_to closing
  unfolding name_at
  to-closing = by (nat_lt first (length inside)) where
    first : ℕ
    first = position_or_len (λ (b : ℕ). b == 125) inside

    by : (found : Bool) → (if found && is_utf8 (take first inside) then Some (take first inside, first + 2) else None) ≡ option_and_then name_to (if found then Some first else None)
    by true = refl
    by false = refl

  pub unclosed : closing ≡ None → name_at (123 ∷ inside) ≡ None
  unclosed none = to-closing ∙ ap (option_and_then name_to) none

  pub closed : (n : ℕ) → closing ≡ Some n → (b : Bool) → is_utf8 (take n inside) ≡ b → name_at (123 ∷ inside) ≡ (if b then Some (take n inside, n + 2) else None)
  closed n found b text = to-closing ∙ ap (option_and_then name_to) found ∙ ap (λ (is : Bool). if is then Some (take n inside, n + 2) else None) text

-- Without braces it has as many bytes as can stand in one.
module _ (rest : List ℕ) (bare : (slice_index rest 0 == 123) ≡ false) (n : ℕ) (is : n ≡ length (take_while is_name_byte rest)) where
  counted : prefix_len is_name_byte rest ≡ n
  counted = sym (length-prefix_len is_name_byte rest) ∙ sym is

  read-so : name_at rest ≡ (if nat_lt 0 n then Some (take n rest, n) else None)
  unfolding name_at
  read-so = cond-false _ _ _ bare ∙ ap (λ (k : ℕ). if nat_lt 0 k then Some (take k rest, k) else None) counted

  pub no_name : n ≡ 0 → name_at rest ≡ None
  no_name none = read-so ∙ cond-false (nat_lt 0 n) _ _ (le-ltb 0 n (omega (arith, none)))

  pub some_name : ¬ (n ≡ 0) → name_at rest ≡ Some (take n rest, n)
  some_name some = read-so ∙ cond-true (nat_lt 0 n) _ _ (lt-ltb 0 n (omega (arith, some)))

  pub name_text : IsUtf8 (take n rest)
  name_text = subst (λ (k : ℕ). IsUtf8 (take k rest)) counted (name_is_text rest)

-- What parses as a number is one.
pub parsed : {E : Type 0} (name : List ℕ) (r : Result ℕ E) → ParsesUnsigned 64 10 name r → result_ok r ≡ number_in name
parsed {E} name (Ok n) is = sym (number_parsed {E = E} name (Ok n) is)
parsed {E} name (Err e) is = sym (number_parsed {E = E} name (Err e) is)

-- A number calls the group that has it.
pub by_number : (names : Names) (name : List ℕ) (n : ℕ) → number_in name ≡ Some n → called names name ≡ then_some (nat_lt n (length names)) n
unfolding group_called
by_number names name n is =
    let first : Option ℕ = position_from (λ other. is_some_and other (bytes_eq name)) 0 names in
    ap (λ (o : Option ℕ). known names (option_or o first)) is ∙ by (nat_lt n (length names)) where
      by : (b : Bool) → (if b then Some n else None) ≡ then_some b n
      by true = refl
      by false = refl

-- The place of the first that passes a test is one of the list, so that there is such a group.
module _ (names : Names) (test : Option (List ℕ) → Bool) where
  there : (rest : Names) (n : ℕ) → n + length rest ≤ length names → known names (position_from test n rest) ≡ position_from test n rest
  there [] n fits = refl
  there (name ∷ rest) n fits = by (test name) (there rest (n + 1) (omega (arith, fits))) where
    by : (b : Bool) → known names (position_from test (n + 1) rest) ≡ position_from test (n + 1) rest
        → known names (if b then Some n else position_from test (n + 1) rest) ≡ (if b then Some n else position_from test (n + 1) rest)
    by true later = cond-true (nat_lt n (length names)) (Some n) None (lt-ltb n (length names) (omega (arith, fits)))
    by false later = later

mapped : {A B : Type 0} (f : A → B) (test : B → Bool) (xs : List A) (n : ℕ) → position_from test n (map f xs) ≡ position_from (λ x. test (f x)) n xs
mapped f test [] n = refl
mapped f test (x ∷ xs) n = ap (λ (later : Option ℕ). if test (f x) then Some n else later) (mapped f test xs (n + 1))

-- A name that is no number calls the first group that has it.
pub by_name : {A : Type 0} (own : A → Option (List ℕ)) (groups : List A) (name : List ℕ) → number_in name ≡ None
    → called (map own groups) name ≡ position_from (λ group. is_some_and (own group) (bytes_eq name)) 0 groups
unfolding group_called
by_name own groups name none =
    let has : Option (List ℕ) → Bool = λ other. is_some_and other (bytes_eq name) in
    ap (λ (o : Option ℕ). known (map own groups) (option_or o (position_from has 0 (map own groups)))) none
    ∙ there (map own groups) has (map own groups) 0 (omega arith)
    ∙ mapped own has groups 0
