-- How a text is read as a template, part by part, and that the parts write what the text stands for.
use Rattle.std.proofs.Common.{◌≡◌, ℕ, ◌+◌, ◌<◌, ◌≤◌, ◌==◌, Bool, true, false, not, List, [], ◌∷◌, ◌++◌, length, drop, nat_lt, slice_index, Option, Some, None, option_map, Result, Ok, Err, IfErr, if◌then◌else◌, refl, sym, subst, ap, ◌∙◌, arith, append_assoc, append-nil, drop-drop, length-drop, lt-ltb}
use Rattle.std.proofs.lemmas.List.{drop_all}
use Rattle.std.proofs.lemmas.Option.{none-some, same_Some}
use Rattle.regex.specs.Templates.{name_at, group_called, written_after, at_dollar, text_or_nothing, number_in}
use Rattle.regex.proofs.TemplateLemmas.{after_reference}
use Rattle.regex_syntax.specs.Grammar.{Names}
use Rattle.flow_pattern.specs.Pattern.{group_names}
use Rattle.flow_pattern.specs.Template.{known, calls, dollar_part, first_part, Spells, IsTemplate, part_text, parts_text, whole_match}
use Rattle.flow_pattern.specs.declared.template.Part.{Part}
use Rattle.flow_pattern.specs.declared.template.Part.TheVariants.{Byte, Group}

-- What stands behind a byte that is passed over.
behind-one : (names : Names) (held : ℕ → List ℕ) (text : List ℕ) → written_after names held text 1 ≡ written_after names held (drop 1 text) 0
unfolding written_after
behind-one names held [] = refl
behind-one names held (byte ∷ text) = refl

-- A text that begins with a part writes what the part does, and then what stands behind it does.
module _ (names : Names) (held : ℕ → List ℕ) (byte : ℕ) (rest : List ℕ) (part : Part) (n : ℕ) where
  -- This was written of the part and of what stands behind it.
  abbrev IsSo : List ℕ → Type 0
  IsSo whole = whole ≡ part_text held part ++ written_after names held (drop n (byte ∷ rest)) 0

  -- A part with how many bytes spell it.
  abbrev some : Part → ℕ → Option (Part × ℕ)
  some p m = Some (p, m)

  is-so : (whole : List ℕ) (other : Part) (m : ℕ) → some other m ≡ some part n → whole ≡ part_text held other ++ written_after names held (drop m (byte ∷ rest)) 0 → IsSo whole
  is-so whole other m e so = subst (λ (x : Part × ℕ). whole ≡ part_text held x.0 ++ written_after names held (drop x.1 (byte ∷ rest)) 0) (same_Some (other, m) (part, n) e) so

  abbrev as-group : ℕ → ℕ → Part × ℕ
  as-group len k = (Group k, len + 1)

  -- What the whole writes where this stands for a call that so many bytes spell behind the dollar.
  abbrev called-by : List ℕ → ℕ → List ℕ
  called-by text len = text ++ written_after names held (drop (len + 1) (byte ∷ rest)) 0

  counted : (k len : ℕ) (below : Bool) → option_map (as-group len) (if below then Some k else None) ≡ some part n → IsSo (called-by (held k) len)
  counted k len true e = is-so (called-by (held k) len) (Group k) (len + 1) e refl
  counted k len false e = absurd (none-some (part, n) e)

  grouped : (len : ℕ) (o : Option ℕ) → option_map (as-group len) (known names o) ≡ some part n → IsSo (called-by (text_or_nothing names held o) len)
  grouped len None e = absurd (none-some (part, n) e)
  grouped len (Some k) e = counted k len (nat_lt k (length names)) e

  named : (o : Option (List ℕ × ℕ)) → calls names o ≡ some part n → IsSo (at_dollar names held o (written_after names held rest))
  named None e = absurd (none-some (part, n) e)
  named (Some name) e =
      let group = group_called names name.0 in
      let spelled : 0 + (1 + name.1) ≡ name.1 + 1 = omega arith in
      after_reference names (byte ∷ rest) 0 name.1 name.0 held
      ∙ ap (λ (m : ℕ). text_or_nothing names held group ++ written_after names held (drop m (byte ∷ rest)) 0) spelled
      ∙ grouped name.1 group e

  twice : (again : Bool) → (if again then some (Byte 36) 2 else calls names (name_at rest)) ≡ some part n
      → IsSo (if again then 36 ∷ written_after names held rest 1 else at_dollar names held (name_at rest) (written_after names held rest))
  twice true e = is-so (36 ∷ written_after names held rest 1) (Byte 36) 2 e (ap (λ (x : List ℕ). 36 ∷ x) (behind-one names held rest))
  twice false e = named (name_at rest) e

  begun : (dollar : Bool) → (if dollar then dollar_part names rest else some (Byte byte) 1) ≡ some part n
      → IsSo (if not dollar then byte ∷ written_after names held rest 0 else if slice_index rest 0 == 36 then 36 ∷ written_after names held rest 1 else at_dollar names held (name_at rest) (written_after names held rest))
  begun true e = twice (slice_index rest 0 == 36) e
  begun false e = is-so (byte ∷ written_after names held rest 0) (Byte byte) 1 e refl

part-written : (names : Names) (held : ℕ → List ℕ) (text : List ℕ) (part : Part) (n : ℕ) → first_part names text ≡ Some (part, n)
    → written_after names held text 0 ≡ part_text held part ++ written_after names held (drop n text) 0
unfolding written_after
part-written names held [] part n e = absurd (none-some (part, n) e)
part-written names held (byte ∷ rest) part n e = begun names held byte rest part n (byte == 36) e

-- The template for the whole match is one.
pub whole_spelled : (names : Names) → 0 < length names → Spells names whole_match (Group 0 ∷ [])
unfolding name_at number_in group_called
whole_spelled names some =
    let as-group : ℕ → Part × ℕ = λ n. (Group n, 2) in
    (2, ap (λ (b : Bool). option_map as-group (if b then Some 0 else None)) (lt-ltb 0 (length names) some), refl)

-- The parts that a text spells write what it stands for.
pub spelled_text : (names : Names) (held : ℕ → List ℕ) (text : List ℕ) (parts : List Part) → Spells names text parts → parts_text held parts ≡ written_after names held text 0
unfolding written_after
spelled_text names held text [] spells = ap (λ (t : List ℕ). written_after names held t 0) (sym spells)
spelled_text names held text (part ∷ parts) spells =
    ap (λ (x : List ℕ). part_text held part ++ x) (spelled_text names held (drop spells.0 text) parts spells.2) ∙ sym (part-written names held text part spells.0 spells.1)

-- These parts are read of a text up to a place: with what the rest spells they are spelled by the whole, and the whole spells no others before.
pub record IsReadUpTo (names : Names) (text : List ℕ) (parts : List Part) (place : ℕ) : Type 0 where
  pub spelled : (more : List Part) → Spells names (drop place text) more → Spells names text (parts ++ more)
  pub left : (all : List Part) → Spells names text all → (more : List Part) × Spells names (drop place text) more

pub read_begins : (names : Names) (text : List ℕ) → IsReadUpTo names text [] 0
read_begins names text = record { spelled = λ more spells. spells; left = λ all spells. (all, spells) }

module _ (names : Names) (text : List ℕ) (parts : List Part) (place : ℕ) (before : IsReadUpTo names text parts place) where
  -- Before the end the rest is no empty text.
  some-left : place < length text → drop place text ≡ [] → ⊥
  some-left inside none = omega (arith, inside, ap length none, length-drop place text)

  module _ (part : Part) (n : ℕ) (first : first_part names (drop place text) ≡ Some (part, n)) where
    behind : drop n (drop place text) ≡ drop (place + n) text
    behind = drop-drop n place text

    rest-spells : place < length text → (more : List Part) → Spells names (drop place text) more → (later : List Part) × Spells names (drop (place + n) text) later
    rest-spells inside [] spells = absurd (some-left inside spells)
    rest-spells inside (other ∷ more) spells =
        let same : spells.0 ≡ n = ap (λ (x : Part × ℕ). x.1) (same_Some (other, spells.0) (part, n) (sym spells.1 ∙ first)) in
        (more, subst (λ (t : List ℕ). Spells names t more) (ap (λ (m : ℕ). drop m (drop place text)) same ∙ behind) spells.2)

    -- One part more is read.
    pub read_more : place < length text → IsReadUpTo names text (parts ++ part ∷ []) (place + n)
    read_more inside = record {
      spelled = λ more spells.
          subst (Spells names text) (sym (append_assoc parts (part ∷ []) more)) (before.spelled (part ∷ more) (n, first, subst (λ (t : List ℕ). Spells names t more) (sym behind) spells));
      left = λ all spells. let rest = before.left all spells in rest-spells inside rest.0 rest.1;
    }

  -- Nothing is read here: then the text is no template.
  none-spelled : first_part names (drop place text) ≡ None → place < length text → (more : List Part) → Spells names (drop place text) more → ⊥
  none-spelled none inside [] spells = some-left inside spells
  none-spelled none inside (other ∷ more) spells = none-some (other, spells.0) (sym none ∙ spells.1)

  pub read_stops : first_part names (drop place text) ≡ None → place < length text → (all : List Part) → Spells names text all → ⊥
  read_stops none inside all spells = let rest = before.left all spells in none-spelled none inside rest.0 rest.1

  -- All is read.
  pub read_all : length text ≤ place → Spells names text parts
  read_all over = subst (Spells names text) (append-nil parts) (before.spelled [] (drop_all place text over))

-- What doesn't spell parts by the names that were read is no template.
pub refused_so : {A E : Type 0} (names : Names) (pattern text : List ℕ) → names ≡ group_names pattern → (r : Result A E) → IfErr r (λ _. (parts : List Part) → Spells names text parts → ⊥)
    → IfErr r (λ _. IsTemplate pattern text → ⊥)
refused_so names pattern text same (Ok x) h = tt
refused_so names pattern text same (Err e) h = λ template. h template.0 (subst (λ (n : Names). Spells n text template.0) (sym same) template.1)
