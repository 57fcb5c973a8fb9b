-- What the lines of a command ask for.
use Rattle.std.proofs.Common.{◌≡◌, ◌∙◌, refl, sym, ap, ap₂, subst, inl, inr, Bool, true, false, ℕ, List, [], ◌∷◌, ◌++◌, Some, None, Option, codes, arith}
use Rattle.std.proofs.lemmas.List.{append-nil, append_assoc}
use Rattle.std.proofs.lemmas.Slice.Eq.{bytes_eq-Decides}
use Rattle.std.specs.Prelude.{find, fold, is_some, map, not, option_map, ◌&&◌, ◌||◌, if◌then◌else◌}
use Rattle.std.proofs.lemmas.Grind.{common_steps}
use Rattle.std.specs.Str.{bytes_eq}
use Rattle.std.specs.Option.{option_map_or}
use Rattle.clap.specs.Faults.{default_fault, defaults_fault, entered_fault, fault_of, given_default_fault, is_simple_and_free, level_fault, option_fault, react_fault, settle_fault, use_fault, walk_fault}
use Rattle.clap.specs.Kinds.{HasKind, IsAmong, Kinds, or_else}
use Rattle.clap.specs.Words.{kind_of}
use Rattle.clap.specs.declared.error.Error.{Error}
use Rattle.clap.specs.declared.error.kind.ErrorKind.{ErrorKind}
use Rattle.clap.specs.Simple.{App, built, entered, is_simple, matches_of}
use Rattle.clap.specs.Walk.{Row, Rule, Text, Walk, flag_met, has_row, is_empty, nothing_held, option_met, settled, settled_rows, used, used_by_id, walk_from, walked, with_default}
use Rattle.clap.specs.declared.error.kind.ErrorKind.TheVariants.{ArgumentConflict, OutOfMemory, TooManyValues}
use Rattle.flow_words.specs.declared.argument.Argument.{Argument}
use Rattle.flow_words.specs.declared.argument.Argument.TheVariants.{NetFile}
use Rattle.flow_words.specs.declared.argument.Shape.{Shape}
use Rattle.flow_words.specs.declared.argument.Shape.TheVariants.{Name, Flag, Valued}
use Rattle.flow_words.specs.Arguments.{arguments, name_of, shape_of}
use Rattle.flow_words.specs.Lines.{AreOnce, AreWords, EndsLine, Given, IsLine, dashed, is_flag, values_of}
use Rattle.flow_words.specs.Words.{Asked, command_of, form_of, line_app, progress_of, tells_progress, value_in}
use Rattle.flow_words.proofs.Facts.{built_rule, by_word, facts, is_name, is_net_file, is_valued, kept_values, only, raw_values, rules, top, value_count}
use Rattle.flow_words.proofs.Rows.{AreBare, Free, defaults_kept, free_more, nothing_free, row_for, used_once, values_there}
use Rattle.flow_words.proofs.Steps.{IsUse, Moves, at, behind, end_moves, held_at, name_moves, opened, option_moves, two_words, use_moves, value_moves}

-- Once what is pending is used, there are these rows, and that is no fault.
record Stands (rows : List Row) (pending : Option (Text × List Text)) (done : List Row) : Type 0 where
  are : settled_rows rules pending rows ≡ done
  free : settle_fault rules false (held_at rows pending) ≡ []

-- An argument that wasn't given is used, and that is no fault.
uses : (a : Argument) (value : Text) (rows : List Row) → has_row (name_of a) rows ≡ false → used (built_rule a) (raw_values (shape_of a) value) rows ≡ rows ++ row_for (a, value) ∷ []
uses a value rows none = (facts a).uses value rows ∙ used_once a (kept_values (shape_of a) value) rows none

use_free : (a : Argument) (value : Text) (rows : List Row) → has_row (name_of a) rows ≡ false → use_fault false (built_rule a) (raw_values (shape_of a) value) rows ≡ []
use_free a value rows none = (facts a).faults value rows ∙ ap (λ (b : Bool). or_else (if b && not false then ArgumentConflict ∷ [] else []) []) none

-- So it is where it waits for the next word.
pending_stands : (a : Argument) (value : Text) (rows done : List Row) → raw_values (shape_of a) value ≡ value ∷ [] → rows ≡ done → has_row (name_of a) done ≡ false
    → Stands rows (Some (name_of a, value ∷ [])) (done ++ row_for (a, value) ∷ [])
pending_stands a value rows done raw are none = record {
  are = ap (λ (o : Option Rule). used_by_id o (value ∷ []) rows) (facts a).by_id ∙ ap₂ (used (built_rule a)) (sym raw) are ∙ uses a value done none;
  free = ap (λ (o : Option Rule). option_map_or (λ (r : Rule). use_fault false r (value ∷ []) rows) o []) (facts a).by_id
      ∙ ap₂ (use_fault false (built_rule a)) (sym raw) are ∙ use_free a value done none;
}

-- The words of an argument take the walk to a place with its row. Only a name changes where the next name goes.
record Moved (rows : List Row) (pending : Option (Text × List Text)) (position : ℕ) (done : List Row) (g : Given) (words : List Text) : Type 0 where
  new_rows : List Row
  new_pending : Option (Text × List Text)
  new_position : ℕ
  moves : Moves (at rows pending position) (at new_rows new_pending new_position) words
  stands : Stands new_rows new_pending (done ++ row_for g ∷ [])
  place : is_name (shape_of g.0) ≡ false → new_position ≡ position

-- The word of a flag.
flag_word : (a : Argument) → shape_of a ≡ Flag → IsUse (dashed (name_of a)) (name_of a) None (built_rule a) []
flag_word a is =
    let takes : is_valued (shape_of a) ≡ false = ap is_valued is in
    record {
      no_end = (facts a).no_end;
      long = (facts a).long;
      found = (facts a).by_long ∙ ap (λ (s : Shape). by_word s (built_rule a)) is;
      met = λ h. ap (λ (b : Bool). if b then option_met rules (built_rule a) None h else flag_met rules (built_rule a) None h) ((facts a).takes ∙ takes);
      faults = λ h. ap (λ (b : Bool). if b then option_fault rules false (built_rule a) None h else react_fault rules false (built_rule a) [] h) ((facts a).takes ∙ takes);
    }

-- The word of an option that has its value.
joined_word : (a : Argument) (value : Text) → shape_of a ≡ Valued → IsUse (dashed (name_of a) ++ codes "=" ++ value) (name_of a) (Some value) (built_rule a) (value ∷ [])
joined_word a value is =
    let takes : is_valued (shape_of a) ≡ true = ap is_valued is in
    record {
      no_end = (facts a).no_end_joined value;
      long = (facts a).joined value;
      found = (facts a).by_long ∙ ap (λ (s : Shape). by_word s (built_rule a)) is;
      met = λ h. ap (λ (b : Bool). if b then option_met rules (built_rule a) (Some value) h else flag_met rules (built_rule a) (Some value) h) ((facts a).takes ∙ takes);
      faults = λ h. ap (λ (b : Bool). if b then option_fault rules false (built_rule a) (Some value) h else TooManyValues ∷ []) ((facts a).takes ∙ takes);
    }

module _ (rows : List Row) (pending : Option (Text × List Text)) (position : ℕ) (done : List Row) (stands : Stands rows pending done) where
  use_moved : (a : Argument) (value word : Text) (given : Option Text) → IsUse word (name_of a) given (built_rule a) (raw_values (shape_of a) value) → has_row (name_of a) done ≡ false
      → Moved rows pending position done (a, value) (word ∷ [])
  use_moved a value word given is none =
      let raw = raw_values (shape_of a) value in
      let free : react_fault rules false (built_rule a) raw (held_at rows pending) ≡ [] = ap₂ or_else stands.free (ap (use_fault false (built_rule a) raw) stands.are ∙ use_free a value done none) in
      record {
        new_rows = used (built_rule a) raw (settled_rows rules pending rows);
        new_pending = None;
        new_position = position;
        moves = use_moves word (name_of a) given (built_rule a) raw rows pending position is free;
        stands = record { are = ap (used (built_rule a) raw) stands.are ∙ uses a value done none; free = refl };
        place = λ _. refl;
      }

  flag_moved : (a : Argument) (value : Text) → shape_of a ≡ Flag → has_row (name_of a) done ≡ false → Moved rows pending position done (a, value) (dashed (name_of a) ∷ [])
  flag_moved a value is none = use_moved a value (dashed (name_of a)) None
      (subst (IsUse (dashed (name_of a)) (name_of a) None (built_rule a)) (sym (ap (λ (s : Shape). raw_values s value) is)) (flag_word a is)) none

  joined_moved : (a : Argument) (value : Text) → shape_of a ≡ Valued → has_row (name_of a) done ≡ false
      → Moved rows pending position done (a, value) ((dashed (name_of a) ++ codes "=" ++ value) ∷ [])
  joined_moved a value is none = use_moved a value (dashed (name_of a) ++ codes "=" ++ value) (Some value)
      (subst (IsUse (dashed (name_of a) ++ codes "=" ++ value) (name_of a) (Some value) (built_rule a)) (sym (ap (λ (s : Shape). raw_values s value) is)) (joined_word a value is)) none

  parted_moved : (a : Argument) (value : Text) → shape_of a ≡ Valued → is_flag value ≡ false → has_row (name_of a) done ≡ false
      → Moved rows pending position done (a, value) (dashed (name_of a) ∷ value ∷ [])
  parted_moved a value is plain none =
      let new = settled_rows rules pending rows in
      let first : Moves (at rows pending position) (opened (name_of a) new position) (dashed (name_of a) ∷ []) =
      subst (λ (id : Text). Moves (at rows pending position) (opened id new position) (dashed (name_of a) ∷ [])) (facts a).id
      (option_moves (dashed (name_of a)) (name_of a) (built_rule a) rows pending position (facts a).no_end (facts a).long ((facts a).by_long ∙ ap (λ (s : Shape). by_word s (built_rule a)) is)
      ((facts a).takes ∙ ap is_valued is) stands.free) in
      let second = value_moves (name_of a) value (built_rule a) new position plain (facts a).by_id (ap (bytes_eq (name_of a)) (facts a).id ∙ (facts a).same) ((facts a).most ∙ ap value_count is) in
      record {
        new_rows = new;
        new_pending = Some (name_of a, value ∷ []);
        new_position = position;
        moves = two_words _ (opened (name_of a) new position) _ (dashed (name_of a)) value first second;
        stands = pending_stands a value new done (ap (λ (s : Shape). raw_values s value) is) stands.are none;
        place = λ _. refl;
      }

name_moved : (rows : List Row) (pending : Option (Text × List Text)) (done : List Row) (stands : Stands rows pending done) (value : Text) → is_flag value ≡ false
    → has_row (codes "NETFILE") done ≡ false → Moved rows pending 1 done (NetFile, value) (value ∷ [])
name_moved rows pending done stands value plain none = record {
  new_rows = settled_rows rules pending rows;
  new_pending = Some (codes "NETFILE", value ∷ []);
  new_position = 2;
  moves = name_moves value rows pending stands.free plain;
  stands = pending_stands NetFile value (settled_rows rules pending rows) done refl stands.are none;
  place = λ no. cc;
}

-- The next name goes to the first place.
abbrev IsFirst : List Given → ℕ → Type 0
IsFirst given position = (value : Text) → values_of given NetFile ≡ Some value → position ≡ 1

-- The words of one argument.
moved : (rows : List Row) (pending : Option (Text × List Text)) (position : ℕ) (done : List Row) → Stands rows pending done → (g : Given) (words : List Text) → (is_name (shape_of g.0) ≡ true → position ≡ 1)
    → has_row (name_of g.0) done ≡ false → (shape : Shape) → shape_of g.0 ≡ shape → AreWords shape (name_of g.0) g.1 words → Moved rows pending position done g words
moved rows pending position done stands g words first none Flag is are = rw are.1 (flag_moved rows pending position done stands g.0 g.1 is none)
moved rows pending position done stands g words first none Valued is (inl one) = rw one (joined_moved rows pending position done stands g.0 g.1 is none)
moved rows pending position done stands g words first none Valued is (inr two) = rw two.1 (parted_moved rows pending position done stands g.0 g.1 is two.0 none)
moved rows pending position done stands g words first none Name is are =
    let net : g.0 ≡ NetFile = is_net_file g.0 is in
    let place : position ≡ 1 = first (ap is_name is) in
    let none_there : has_row (codes "NETFILE") done ≡ false = subst (λ (a : Argument). has_row (name_of a) done ≡ false) net none in
    rw are.1 (subst (λ (n : ℕ). Moved rows pending n done g (g.1 ∷ [])) (sym place)
    (subst (λ (a : Argument). Moved rows pending 1 done (a, g.1) (g.1 ∷ [])) (sym net) (name_moved rows pending done stands g.1 are.0 none_there)))

-- Where a walk ends: with these rows, without fault, and at no subcommand.
record Ends (w : Walk) (done : List Row) : Type 0 where
  are : (settled rules w.held).rows ≡ done
  free : settle_fault rules false w.held ≡ []
  going : w.stopped ≡ None

record Goes (w : Walk) (words : List Text) (done : List Row) : Type 0 where
  free : walk_fault top [] w words ≡ []
  ends : Ends (fold (walked rules []) w words) done

-- A network file's name behind `--`.
ends_line : (rows : List Row) (pending : Option (Text × List Text)) (position : ℕ) (done : List Row) → Stands rows pending done → (given : List Given) (words : List Text) → IsFirst given position
    → Free done given → EndsLine given words → Goes (at rows pending position) words (done ++ map row_for given)
unfolding walk_fault
ends_line rows pending position done stands given words first free (net, is, are) = rw (is, are) goes
  where
    place : position ≡ 1
    place = first net (ap (λ (l : List Given). values_of l NetFile) is)

    none : has_row (codes "NETFILE") done ≡ false
    none = (subst (Free done) is free).0

    moves : Moves (at rows pending 1) (behind (at (settled_rows rules pending rows) (Some (codes "NETFILE", net ∷ [])) 2)) (codes "--" ∷ net ∷ [])
    moves = end_moves net rows pending stands.free

    after : Stands (settled_rows rules pending rows) (Some (codes "NETFILE", net ∷ [])) (done ++ row_for (NetFile, net) ∷ [])
    after = pending_stands NetFile net (settled_rows rules pending rows) done refl stands.are none

    goes : Goes (at rows pending position) (codes "--" ∷ net ∷ []) (done ++ map row_for ((NetFile, net) ∷ []))
    goes = rw place (record {
      free = moves.faults [];
      ends = subst (λ (w : Walk). Ends w (done ++ row_for (NetFile, net) ∷ [])) (sym (moves.walk [])) (record { are = after.are; free = after.free; going = refl });
    })

-- The name of the network file among what is given.
net_of : (g : Given) (given : List Given) (b : Bool) → bytes_eq (name_of g.0) (codes "NETFILE") ≡ b
    → values_of (g ∷ given) NetFile ≡ option_map (λ (x : Given). x.1) (if b then Some g else find (λ (x : Given). bytes_eq (name_of x.0) (codes "NETFILE")) given)
net_of g given b is = ap (λ (t : Bool). option_map (λ (x : Given). x.1) (if t then Some g else find (λ (x : Given). bytes_eq (name_of x.0) (codes "NETFILE")) given)) is

-- Behind an argument the next name still goes to the first place.
next_first : (g : Given) (given : List Given) (position new_position : ℕ) → IsFirst (g ∷ given) position → values_of given g.0 ≡ None → (is_name (shape_of g.0) ≡ false → new_position ≡ position) → IsFirst given new_position
next_first g given position new_position first once place value there = by (is_name (shape_of g.0)) refl
  where
    by : (b : Bool) → is_name (shape_of g.0) ≡ b → new_position ≡ 1
    by false other = place other ∙ first value (net_of g given false ((facts g.0).apart ∙ other) ∙ there)
    by true named =
        let same : g.0 ≡ NetFile = only g.0 NetFile ((bytes_eq-Decides (name_of g.0) (codes "NETFILE")).0 ((facts g.0).apart ∙ named)) in
        let none : values_of given NetFile ≡ None = subst (λ (a : Argument). values_of given a ≡ None) same once in
        let both : None ≡ Some value = sym none ∙ there in cc

-- One argument, and what follows it.
step_on : (rows : List Row) (pending : Option (Text × List Text)) (position : ℕ) (done : List Row) (g : Given) (given : List Given) (one rest : List Text) → Stands rows pending done
    → IsFirst (g ∷ given) position → Free done (g ∷ given) → AreOnce (g ∷ given) → AreWords (shape_of g.0) (name_of g.0) g.1 one
    → ((new_rows : List Row) (new_pending : Option (Text × List Text)) (new_position : ℕ) → Stands new_rows new_pending (done ++ row_for g ∷ []) → IsFirst given new_position
    → Goes (at new_rows new_pending new_position) rest ((done ++ row_for g ∷ []) ++ map row_for given))
    → Goes (at rows pending position) (one ++ rest) (done ++ map row_for (g ∷ given))
step_on rows pending position done g given one rest stands first free once are later =
    let step = moved rows pending position done stands g one (λ named. first g.1 (net_of g given true ((facts g.0).apart ∙ named))) free.0 (shape_of g.0) refl are in
    let goes = later step.new_rows step.new_pending step.new_position step.stands (next_first g given position step.new_position first once.0 step.place) in
    subst (Goes (at rows pending position) (one ++ rest)) (append_assoc done (row_for g ∷ []) (map row_for given)) (record {
      free = step.moves.faults rest ∙ goes.free;
      ends = subst (λ (w : Walk). Ends w ((done ++ row_for g ∷ []) ++ map row_for given)) (sym (step.moves.walk rest)) goes.ends;
    })

-- The whole line, argument by argument.
goes_on : (given : List Given) (words : List Text) (rows : List Row) (pending : Option (Text × List Text)) (position : ℕ) (done : List Row) → Stands rows pending done → IsFirst given position
    → Free done given → AreOnce given → IsLine given words → Goes (at rows pending position) words (done ++ map row_for given)
unfolding walk_fault
goes_on [] words rows pending position done stands first free once line =
    rw (line, append-nil) (record { free = refl; ends = record { are = stands.are; free = stands.free; going = refl } })
goes_on (g ∷ given) words rows pending position done stands first free once (inl ends) = ends_line rows pending position done stands (g ∷ given) words first free ends
goes_on (g ∷ given) words rows pending position done stands first free once (inr (one, rest, are, line, is)) =
    rw is (step_on rows pending position done g given one rest stands first free once are
    (λ new_rows new_pending new_position new_stands next_first. goes_on given rest new_rows new_pending new_position (done ++ row_for g ∷ []) new_stands next_first (free_more done g given free.1 once.0) once.1 line))

bare_words : (shape : Shape) (name value : Text) (words : List Text) → AreWords shape name value words → shape ≡ Flag → value ≡ []
bare_words Flag name value words are is = are.0
bare_words Name name value words are is = cc
bare_words Valued name value words are is = cc

-- In a line each flag is bare.
are_bare : (given : List Given) (words : List Text) → IsLine given words → AreBare given
are_bare [] words line = tt
are_bare (g ∷ given) words (inl (net, is, are)) = subst AreBare (sym is) ((λ flag. cc), tt)
are_bare (g ∷ given) words (inr (one, rest, are, line, is)) = (bare_words (shape_of g.0) (name_of g.0) g.1 one are, are_bare given rest line)

-- Defaults are no fault.
default_free : (a : Argument) (rows : List Row) → default_fault rows (built_rule a) ≡ []
default_free a rows = by (has_row (built_rule a).id rows)
  where
    by : (b : Bool) → (if b || is_empty (built_rule a).defaults then [] else given_default_fault (built_rule a) (built_rule a).defaults) ≡ []
    by true = refl
    by false = (facts a).sound_default

defaults_free : (list : List Argument) (rows : List Row) → defaults_fault rows (map built_rule list) ≡ []
unfolding defaults_fault
defaults_free [] rows = refl
defaults_free (a ∷ list) rows = ap₂ or_else (default_free a rows) (defaults_free list (with_default rows (built_rule a)))

whole : (given : List Given) (words : List Text) → IsLine given words → AreOnce given → Goes (walk_from nothing_held) words (map row_for given)
whole given words line once = goes_on given words [] None 1 [] (record { are = refl; free = refl }) (λ value there. refl) (nothing_free given) once line

-- A line without an argument twice has no fault.
free_line : (given : List Given) (words : List Text) → IsLine given words → AreOnce given → fault_of line_app words ≡ []
free_line given words line once =
    let goes = whole given words line once in
    let end = fold (walked rules []) (walk_from nothing_held) words in
    ap (λ (stop : Option (Text × List Text)). level_fault top [] nothing_held words (is_some (entered (built line_app) stop)) (entered_fault (built line_app) stop)) goes.ends.going
    ∙ ap₂ or_else goes.free (ap₂ or_else goes.ends.free (ap₂ or_else (defaults_free arguments (settled rules end.held).rows) refl))

-- And its rows have the values that it gives.
line_values : (given : List Given) (words : List Text) → IsLine given words → AreOnce given → (a : Argument) → value_in (matches_of line_app words) a ≡ values_of given a
line_values given words line once a =
    ap (λ (rows : List Row). value_in (fold with_default rows rules) a) (whole given words line once).ends.are
    ∙ defaults_kept arguments (map row_for given) a ∙ values_there given a (are_bare given words line)

-- A line asks for what the values that it gives ask for.
pub asks : (given : List Given) (words : List Text) → IsLine given words → AreOnce given → command_of words ≡ form_of (values_of given)
asks given words line once =
    ap (λ (kinds : Kinds). if is_empty kinds then form_of (value_in (matches_of line_app words)) else None) (free_line given words line once)
    ∙ ap form_of (λ i. λ a. line_values given words line once a i)

-- A line tells how far its run is where the values that it gives do.
pub tells : (given : List Given) (words : List Text) → IsLine given words → AreOnce given → progress_of words ≡ tells_progress (values_of given)
tells given words line once =
    ap (λ (kinds : Kinds). if is_empty kinds then tells_progress (value_in (matches_of line_app words)) else false) (free_line given words line once)
    ∙ ap tells_progress (λ i. λ a. line_values given words line once a i)

-- What the matches of a parse ask for is what its words do.
pub read-as : (app : App) (words : List Text) (rows : List Row) (found : Option Asked) → app ≡ line_app → (is_simple app ≡ true → rows ≡ matches_of app words)
    → (is_simple_and_free app ≡ true → fault_of app words ≡ []) → found ≡ form_of (value_in rows) → found ≡ command_of words
read-as app words rows found is matched free asked =
    let simple : is_simple app ≡ true = ap is_simple is in
    let all_free : is_simple_and_free app ≡ true = ap is_simple_and_free is in
    let no_fault : fault_of line_app words ≡ [] = ap (λ (a : App). fault_of a words) (sym is) ∙ free all_free in
    let same : rows ≡ matches_of line_app words = matched simple ∙ ap (λ (a : App). matches_of a words) is in
    asked ∙ ap (λ (r : List Row). form_of (value_in r)) same
    ∙ sym (ap (λ (kinds : Kinds). if is_empty kinds then form_of (value_in (matches_of line_app words)) else None) no_fault)

-- What the matches of a parse are to tell is what its words are.
pub tells-as : (app : App) (words : List Text) (rows : List Row) (found : Bool) → app ≡ line_app → (is_simple app ≡ true → rows ≡ matches_of app words)
    → (is_simple_and_free app ≡ true → fault_of app words ≡ []) → found ≡ tells_progress (value_in rows) → found ≡ progress_of words
tells-as app words rows found is matched free told =
    let simple : is_simple app ≡ true = ap is_simple is in
    let all_free : is_simple_and_free app ≡ true = ap is_simple_and_free is in
    let no_fault : fault_of line_app words ≡ [] = ap (λ (a : App). fault_of a words) (sym is) ∙ free all_free in
    let same : rows ≡ matches_of line_app words = matched simple ∙ ap (λ (a : App). matches_of a words) is in
    told ∙ ap (λ (r : List Row). tells_progress (value_in r)) same
    ∙ sym (ap (λ (kinds : Kinds). if is_empty kinds then tells_progress (value_in (matches_of line_app words)) else false) no_fault)

-- A fault is there where an error has its kind.
some-fault : (kinds : Kinds) (k : ErrorKind) → IsAmong k kinds → is_empty kinds ≡ false
some-fault [] k among = absurd among
some-fault (first ∷ kinds) k among = grind (arith, common_steps)

-- Words that clap refuses for another reason than want of memory ask for nothing.
pub none-as : (app : App) (words : List Text) (e : Error) → app ≡ line_app → (is_simple_and_free app ≡ true → HasKind (fault_of app words) e) → (kind_of e ≡ OutOfMemory → ⊥) → None ≡ command_of words
none-as app words e is has other = go (has (ap is_simple_and_free is)) where
  go : HasKind (fault_of app words) e → None ≡ command_of words
  go (inl memory) = absurd (other memory)
  go (inr among) =
      let fault : is_empty (fault_of line_app words) ≡ false = ap (λ (a : App). is_empty (fault_of a words)) (sym is) ∙ some-fault (fault_of app words) (kind_of e) among in
      sym (ap (λ (b : Bool). if b then form_of (value_in (matches_of line_app words)) else None) fault)

-- And they tell nothing.
pub none-tells : (app : App) (words : List Text) (e : Error) → app ≡ line_app → (is_simple_and_free app ≡ true → HasKind (fault_of app words) e) → (kind_of e ≡ OutOfMemory → ⊥) → false ≡ progress_of words
none-tells app words e is has other = go (has (ap is_simple_and_free is)) where
  go : HasKind (fault_of app words) e → false ≡ progress_of words
  go (inl memory) = absurd (other memory)
  go (inr among) =
      let fault : is_empty (fault_of line_app words) ≡ false = ap (λ (a : App). is_empty (fault_of a words)) (sym is) ∙ some-fault (fault_of app words) (kind_of e) among in
      sym (ap (λ (b : Bool). if b then tells_progress (value_in (matches_of line_app words)) else false) fault)
