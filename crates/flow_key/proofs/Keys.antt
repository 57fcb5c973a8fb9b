-- What the templates for a key write, and which patterns have a first group.
use Rattle.std.proofs.Common.{◌≡◌, ℕ, ◌-◌, ◌≤◌, ◌==◌, Bool, true, false, List, [], ◌∷◌, length, drop, Option, Some, None, option_map, nat_lt, if◌then◌else◌, refl, sym, ap, ◌∙◌, append-nil, arith}
use Rattle.std.proofs.lemmas.List.{length-take, length-drop}
use Rattle.regex.specs.Patterns.{Match, find, span}
use Rattle.regex.specs.Replace.{bytes_of, group_bytes}
use Rattle.regex.specs.Search.{next_match}
use Rattle.regex.specs.Writes.{group_of}
use Rattle.regex.specs.Templates.{written_after, name_at, group_called, number_in}
use Rattle.std.proofs.Common.{Vec}
use Rattle.std.specs.declared.alloc.Global.{Global}
use Rattle.flow_pattern.specs.Pattern.{Replacement, expression, group_names}
use Rattle.flow_pattern.specs.Rewriting.{IsNextFilled}
use Rattle.flow_pattern.specs.declared.replacer.Rewritten.TheVariants as told
use Rattle.flow_pattern.specs.Template.{Spells, first_part, filled, IsTemplate, whole_match}
use Rattle.flow_pattern.specs.declared.template.Part.{Part}
use Rattle.flow_pattern.specs.declared.template.Part.TheVariants.{Group}
use Rattle.flow_key.specs.Key.{key_group, found_key}
use Rattle.flow_key.specs.Template.{first_group, key_template}

-- A dollar and a one call the first group, where there is one.
calls-first : (names : List (Option (List ℕ))) → first_part names first_group ≡ option_map (λ (n : ℕ). (Group n, 2)) (if nat_lt 1 (length names) then Some 1 else None)
unfolding name_at group_called number_in
calls-first names = refl

-- No parts are spelled by them, where there is none.
lacks-first : (names : List (Option (List ℕ))) (parts : List Part) → nat_lt 1 (length names) ≡ false → Spells names first_group parts → ⊥
lacks-first names [] e spells = cc
lacks-first names (part ∷ parts) e spells =
    let some = spells.1 in
    let none : first_part names first_group ≡ None = calls-first names ∙ ap (λ (b : Bool). option_map (λ (n : ℕ). (Group n, 2)) (if b then Some 1 else None)) e in
    absurd (cc)

has-first : (pattern : List ℕ) → nat_lt 1 (length (group_names pattern)) ≡ true → IsTemplate pattern first_group
has-first pattern e =
    let names = group_names pattern in
    (Group 1 ∷ [], (2, calls-first names ∙ ap (λ (b : Bool). option_map (λ (n : ℕ). (Group n, 2)) (if b then Some 1 else None)) e, refl))

chosen : (has : Bool) (pattern : List ℕ) → nat_lt 1 (length (group_names pattern)) ≡ has → IsTemplate pattern first_group → has ≡ true
chosen true pattern e is = refl
chosen false pattern e is = absurd (lacks-first (group_names pattern) is.0 e is.1)

not-chosen : (has : Bool) (pattern : List ℕ) → nat_lt 1 (length (group_names pattern)) ≡ has → (IsTemplate pattern first_group → ⊥) → has ≡ false
not-chosen true pattern e is_none = absurd (is_none (has-first pattern e))
not-chosen false pattern e is_none = refl

-- Where they are a template for a pattern, they are the one for its key,
pub template-has : (pattern : List ℕ) → IsTemplate pattern first_group → key_template pattern ≡ first_group
template-has pattern is = ap (λ (b : Bool). if b then first_group else whole_match) (chosen (nat_lt 1 (length (group_names pattern))) pattern refl is)

-- and else the one for the whole match is.
pub template-lacks : (pattern : List ℕ) → (IsTemplate pattern first_group → ⊥) → key_template pattern ≡ whole_match
template-lacks pattern is_none = ap (λ (b : Bool). if b then first_group else whole_match) (not-chosen (nat_lt 1 (length (group_names pattern))) pattern refl is_none)

writes-first : (pattern text : List ℕ) (match : Match) → filled (record { pattern = pattern; with = first_group }) text match ≡ group_bytes text match 1
unfolding written_after name_at group_called number_in
writes-first pattern text match = append-nil _

writes-whole : (pattern text : List ℕ) (match : Match) → filled (record { pattern = pattern; with = whole_match }) text match ≡ group_bytes text match 0
unfolding written_after name_at group_called number_in
writes-whole pattern text match = append-nil _

writes-by : (has : Bool) (pattern text : List ℕ) (match : Match) → filled (record { pattern = pattern; with = if has then first_group else whole_match }) text match ≡ group_bytes text match (if has then 1 else 0)
writes-by true pattern text match = writes-first pattern text match
writes-by false pattern text match = writes-whole pattern text match

-- The template for the key writes what the group for the key holds.
writes-key : (pattern text : List ℕ) (match : Match) → filled (record { pattern = pattern; with = key_template pattern }) text match ≡ group_bytes text match (key_group pattern)
writes-key pattern text match = writes-by (nat_lt 1 (length (group_names pattern))) pattern text match

short : (text : List ℕ) (span : Option (ℕ × ℕ)) → length (bytes_of text span) ≤ length text
short text None = omega arith
short text (Some s) = omega (arith, length-take (s.1 - s.0) (drop s.0 text), length-drop s.0 text)

-- No group holds more bytes than the text has.
group-short : (text : List ℕ) (match : Match) (n : ℕ) → length (group_bytes text match n) ≤ length text
group-short text match n = short text (if n == 0 then Some (span match) else group_of match n)

-- The first match is the next one before any other.
first-match : (pattern text : List ℕ) → next_match false (expression pattern) text 0 ≡ find (expression pattern) text 0
unfolding next_match
first-match pattern text = refl

-- What is told of the first match is what the pattern finds.
module _ (by : Replacement) (text : List ℕ) (is : by.with ≡ key_template by.pattern) where
  writes : (match : Match) → filled by text match ≡ group_bytes text match (key_group by.pattern)
  writes match = ap (λ (with : List ℕ). filled (record { pattern = by.pattern; with = with }) text match) is ∙ writes-key by.pattern text match

  found-by : (found : Option Match) → next_match false (expression by.pattern) text 0 ≡ found → option_map (λ match. group_bytes text match (key_group by.pattern)) found ≡ found_key by.pattern text
  found-by found e = ap (option_map (λ match. group_bytes text match (key_group by.pattern))) (sym e ∙ first-match by.pattern text)

  pub found-none : next_match false (expression by.pattern) text 0 ≡ None → None ≡ found_key by.pattern text
  found-none next = found-by None next

  pub found-new : (most : ℕ) (new : Vec ℕ Global) (end : ℕ) → IsNextFilled by text 0 most (Some (told.New new, end)) → Some new.items ≡ found_key by.pattern text
  found-new most new end next = ap Some (next.2.0.0 ∙ writes next.0) ∙ found-by (Some next.0) next.1

  pub never-long : (most count end : ℕ) → length text ≤ most → IsNextFilled by text 0 most (Some (told.TooLong count, end)) → ⊥
  never-long most count end enough next =
      let same : length (filled by text next.0) ≡ length (group_bytes text next.0 (key_group by.pattern)) = ap length (writes next.0) in
      omega (arith, enough, same, next.2.0.0, next.2.0.1, group-short text next.0 (key_group by.pattern))
