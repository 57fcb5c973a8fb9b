-- The rows that a line leaves, and the values that stand in them.
use Rattle.std.proofs.Common.{◌≡◌, ◌∙◌, ◌||◌, refl, sym, ap, subst, Bool, true, false, List, [], ◌∷◌, ◌++◌, Some, None, Option}
use Rattle.std.proofs.lemmas.List.{append-nil}
use Rattle.std.proofs.lemmas.Slice.Eq.{bytes_eq-Decides}
use Rattle.std.specs.Prelude.{⊤, find, fold, map, option_map, if◌then◌else◌}
use Rattle.std.specs.Str.{bytes_eq}
use Rattle.clap.specs.Walk.{Row, Text, at_row, default_rows, has_row, more_values, reading_by, with_default, with_values, without}
use Rattle.clap.specs.declared.parser.matches.ValueSource.{ValueSource}
use Rattle.clap.specs.declared.parser.matches.ValueSource.TheVariants.{CommandLine, DefaultValue}
use Rattle.flow_words.specs.declared.argument.Argument.{Argument}
use Rattle.flow_words.specs.declared.argument.Shape.{Shape}
use Rattle.flow_words.specs.declared.argument.Shape.TheVariants.{Name, Flag, Valued}
use Rattle.flow_words.specs.Arguments.{name_of, shape_of}
use Rattle.flow_words.specs.Lines.{Given, values_of}
use Rattle.flow_words.specs.Words.{row_named, value_by, value_in}
use Rattle.flow_words.proofs.Facts.{built_rule, default_values, facts, kept_values, only}

-- The row of a use, and that of a default.
abbrev pub row_of_use : Argument → ValueSource → List Text → Row
row_of_use a source values = record {
  id = name_of a;
  values = values;
  count = None;
  source = Some source;
  reading = reading_by (built_rule a);
}

-- The row that a use of the argument leaves.
abbrev pub row_for : Given → Row
row_for g = row_of_use g.0 CommandLine (kept_values (shape_of g.0) g.1)

-- Where no row has the name, what is put there comes last.
at_row-absent : (id : Text) (change : Row → List Row) (missing rows : List Row) → has_row id rows ≡ false → at_row id change missing rows ≡ rows ++ missing
at_row-absent id change missing [] none = refl
at_row-absent id change missing (r ∷ rows) none = by (at_row-absent id change missing rows) (bytes_eq r.id id) none
  where
    by : (has_row id rows ≡ false → at_row id change missing rows ≡ rows ++ missing) → (b : Bool) → (b || has_row id rows) ≡ false → (if b then change r ++ rows else r ∷ at_row id change missing rows) ≡ r ∷ rows ++ missing
    by later true none = cc
    by later false none = ap (λ (l : List Row). r ∷ l) (later none)

-- A first use adds its row.
pub used_once : (a : Argument) (values : List Text) (rows : List Row) → has_row (name_of a) rows ≡ false
    → with_values (name_of a) (reading_by (built_rule a)) CommandLine values (without (name_of a) rows) ≡ rows ++ row_of_use a CommandLine values ∷ []
used_once a values rows none =
    ap (with_values (name_of a) (reading_by (built_rule a)) CommandLine values) (at_row-absent (name_of a) (λ _. []) [] rows none ∙ append-nil rows)
    ∙ at_row-absent (name_of a) (more_values CommandLine values) (row_of_use a CommandLine values ∷ []) rows none

flipped : (one other : Text) → bytes_eq one other ≡ false → bytes_eq other one ≡ false
flipped one other differ = by (bytes_eq other one) refl
  where
    by : (b : Bool) → bytes_eq other one ≡ b → b ≡ false
    by true same = let back : bytes_eq one other ≡ true = (bytes_eq-Decides one other).1 (sym ((bytes_eq-Decides other one).0 same)) in cc
    by false same = refl

has_row-more : (id : Text) (rows : List Row) (r : Row) → has_row id rows ≡ false → bytes_eq r.id id ≡ false → has_row id (rows ++ r ∷ []) ≡ false
has_row-more id [] r none other = rw other refl
has_row-more id (x ∷ rows) r none other = by (λ rest. has_row-more id rows r rest other) (bytes_eq x.id id) none
  where
    by : (has_row id rows ≡ false → has_row id (rows ++ r ∷ []) ≡ false) → (b : Bool) → (b || has_row id rows) ≡ false → (b || has_row id (rows ++ r ∷ [])) ≡ false
    by later true none = cc
    by later false none = later none

-- None of the arguments has a row.
abbrev pub Free : List Row → List Given → Type 0
Free rows [] = ⊤
Free rows (g ∷ given) = (has_row (name_of g.0) rows ≡ false) × Free rows given

not_first : (given : List Given) (g : Given) (a : Argument) → values_of (g ∷ given) a ≡ None → (bytes_eq (name_of g.0) (name_of a) ≡ false) × (values_of given a ≡ None)
not_first given g a none = by (bytes_eq (name_of g.0) (name_of a)) refl none
  where
    by : (b : Bool) → bytes_eq (name_of g.0) (name_of a) ≡ b → option_map (λ (x : Given). x.1) (if b then Some g else find (λ (x : Given). bytes_eq (name_of x.0) (name_of a)) given) ≡ None
        → (bytes_eq (name_of g.0) (name_of a) ≡ false) × (values_of given a ≡ None)
    by true same none = cc
    by false other none = (other, none)

-- The others have none behind the row of one that isn't among them.
pub free_more : (rows : List Row) (g : Given) (given : List Given) → Free rows given → values_of given g.0 ≡ None → Free (rows ++ row_for g ∷ []) given
free_more rows g [] free none = tt
free_more rows g (x ∷ given) free none =
    let apart = not_first given x g.0 none in
    (has_row-more (name_of x.0) rows (row_for g) free.0 (flipped (name_of x.0) (name_of g.0) apart.0), free_more rows g given free.1 apart.1)

pub nothing_free : (given : List Given) → Free [] given
nothing_free [] = tt
nothing_free (g ∷ given) = (refl, nothing_free given)

-- A flag has the empty text.
abbrev pub AreBare : List Given → Type 0
AreBare [] = ⊤
AreBare (g ∷ given) = (shape_of g.0 ≡ Flag → g.1 ≡ []) × AreBare given

own : (g : Given) (a : Argument) → g.0 ≡ a → (shape_of g.0 ≡ Flag → g.1 ≡ []) → value_by (shape_of a) (Some (row_for g)) ≡ Some g.1
own g a is bare = subst (λ (b : Argument). value_by (shape_of b) (Some (row_for g)) ≡ Some g.1) is (of (shape_of g.0) bare)
  where
    of : (shape : Shape) → (shape ≡ Flag → g.1 ≡ []) → value_by shape (Some (row_of_use g.0 CommandLine (kept_values shape g.1))) ≡ Some g.1
    of Name bare = refl
    of Flag bare = ap Some (sym (bare refl))
    of Valued bare = refl

no_value : (shape : Shape) → value_by shape None ≡ None
no_value Name = refl
no_value Flag = refl
no_value Valued = refl

-- The rows of the uses have the values that are given.
pub values_there : (given : List Given) (a : Argument) → AreBare given → value_in (map row_for given) a ≡ values_of given a
values_there [] a bare = no_value (shape_of a)
values_there (g ∷ given) a bare = by (values_there given a bare.1) (bytes_eq (name_of g.0) (name_of a)) refl
  where
    by : value_in (map row_for given) a ≡ values_of given a → (b : Bool) → bytes_eq (name_of g.0) (name_of a) ≡ b
        → value_by (shape_of a) (if b then Some (row_for g) else row_named (name_of a) (map row_for given))
        ≡ option_map (λ (x : Given). x.1) (if b then Some g else find (λ (x : Given). bytes_eq (name_of x.0) (name_of a)) given)
    by later true same = own g a (only g.0 a ((bytes_eq-Decides (name_of g.0) (name_of a)).0 same)) bare.0
    by later false other = later

named-last : (name : Text) (rows : List Row) (r : Row) → has_row name rows ≡ false → row_named name (rows ++ r ∷ []) ≡ row_named name (r ∷ [])
named-last name [] r none = refl
named-last name (x ∷ rows) r none = by (named-last name rows r) (bytes_eq x.id name) none
  where
    by : (has_row name rows ≡ false → row_named name (rows ++ r ∷ []) ≡ row_named name (r ∷ [])) → (b : Bool) → (b || has_row name rows) ≡ false → (if b then Some x else row_named name (rows ++ r ∷ [])) ≡ row_named name (r ∷ [])
    by later true none = cc
    by later false none = later none

named-none : (name : Text) (rows : List Row) → has_row name rows ≡ false → row_named name rows ≡ None
named-none name [] none = refl
named-none name (x ∷ rows) none = by (named-none name rows) (bytes_eq x.id name) none
  where
    by : (has_row name rows ≡ false → row_named name rows ≡ None) → (b : Bool) → (b || has_row name rows) ≡ false → (if b then Some x else row_named name rows) ≡ None
    by later true none = cc
    by later false none = later none

named-other : (name : Text) (rows : List Row) (r : Row) → bytes_eq r.id name ≡ false → row_named name (rows ++ r ∷ []) ≡ row_named name rows
named-other name [] r other = rw other refl
named-other name (x ∷ rows) r other = ap (λ (o : Option Row). if bytes_eq x.id name then Some x else o) (named-other name rows r other)

-- The row of a default gives no value, since only a flag has one.
default_gives : (b : Argument) (rows : List Row) (a : Argument) → has_row (name_of b) rows ≡ false → shape_of b ≡ Flag
    → value_in (rows ++ row_of_use b DefaultValue (default_values Flag) ∷ []) a ≡ value_in rows a
default_gives b rows a none is_flag = by (bytes_eq (name_of b) (name_of a)) refl
  where
    r : Row
    r = row_of_use b DefaultValue (default_values Flag)

    one : value_in (rows ++ r ∷ []) b ≡ value_in rows b
    one = ap (value_by (shape_of b)) (named-last (name_of b) rows r none) ∙ ap (λ (t : Bool). value_by (shape_of b) (if t then Some r else None)) (facts b).same
        ∙ ap (λ (s : Shape). value_by s (Some r)) is_flag ∙ sym (ap (λ (s : Shape). value_by s None) is_flag) ∙ sym (ap (value_by (shape_of b)) (named-none (name_of b) rows none))

    by : (t : Bool) → bytes_eq (name_of b) (name_of a) ≡ t → value_in (rows ++ r ∷ []) a ≡ value_in rows a
    by true same = subst (λ (x : Argument). value_in (rows ++ r ∷ []) x ≡ value_in rows x) (only b a ((bytes_eq-Decides (name_of b) (name_of a)).0 same)) one
    by false other = ap (value_by (shape_of a)) (named-other (name_of a) rows r other)

-- Defaults give no values.
default_kept : (b : Argument) (rows : List Row) (a : Argument) → value_in (with_default rows (built_rule b)) a ≡ value_in rows a
default_kept b rows a =
    ap (λ (id : Text). value_in (if has_row id rows then rows else default_rows id (reading_by (built_rule b)) (built_rule b).defaults rows) a) (facts b).id
    ∙ ap (λ (vs : List Text). value_in (if has_row (name_of b) rows then rows else default_rows (name_of b) (reading_by (built_rule b)) vs rows) a) (facts b).defaults
    ∙ by (has_row (name_of b) rows) refl (shape_of b) refl
  where
    by : (t : Bool) → has_row (name_of b) rows ≡ t → (shape : Shape) → shape_of b ≡ shape
        → value_in (if t then rows else default_rows (name_of b) (reading_by (built_rule b)) (default_values shape) rows) a ≡ value_in rows a
    by true there shape is = refl
    by false none Name is = refl
    by false none Valued is = refl
    by false none Flag is =
        ap (λ (l : List Row). value_in l a) (at_row-absent (name_of b) (more_values DefaultValue (default_values Flag)) (row_of_use b DefaultValue (default_values Flag) ∷ []) rows none)
        ∙ default_gives b rows a none is

-- Nor do those of a list of arguments.
pub defaults_kept : (list : List Argument) (rows : List Row) (a : Argument) → value_in (fold with_default rows (map built_rule list)) a ≡ value_in rows a
defaults_kept [] rows a = refl
defaults_kept (b ∷ list) rows a = defaults_kept list (with_default rows (built_rule b)) a ∙ default_kept b rows a
