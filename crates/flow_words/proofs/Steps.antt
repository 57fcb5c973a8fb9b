-- Clap's walk over the words of one argument.
use Rattle.std.proofs.Common.{◌≡◌, ◌∙◌, ◌&&◌, refl, ap, ap₂, Bool, true, false, ℕ, List, [], ◌∷◌, ◌++◌, Some, None, Option, codes}
use Rattle.std.specs.Prelude.{fold, nat_lt, if◌then◌else◌}
use Rattle.std.specs.Option.{option_map_or}
use Rattle.std.specs.Str.{bytes_eq}
use Rattle.clap.specs.Lexer.{long_of, short_of}
use Rattle.clap.specs.Faults.{bundle_fault, flag_word_fault, long_fault, option_fault, other_fault, react_fault, settle_fault, step_fault, turn_fault, walk_fault}
use Rattle.clap.specs.Kinds.{or_else}
use Rattle.clap.specs.Walk.{Held, Outcome, Row, Rule, Step, Text, Waiting, Walk, after_flag, after_step, arg_by_id, arg_by_long, done, flag_met, idle, is_pending, long_met, long_or_other, most_values, next, option, option_met, option_word, plain_word, positional_held, pushed, reacted, settled, settled_rows, short_or_plain, takes_values, trailing, used, value, walked, word_met}
use Rattle.flow_words.specs.declared.argument.Argument.TheVariants.{NetFile}
use Rattle.flow_words.specs.Lines.{is_flag}
use Rattle.flow_words.proofs.Facts.{built_rule, rules, top}

-- What is held, and the walk between the words of two arguments: the next name goes to this place.
abbrev pub held_at : List Row → Option (Text × List Text) → Held
held_at rows pending = record { rows = rows; pending = pending; skip = 0 }

abbrev pub at : List Row → Option (Text × List Text) → ℕ → Walk
at rows pending position = record {
  held = held_at rows pending;
  waiting = idle;
  position = position;
  is_trailing = false;
  stopped = None;
}

-- The walk behind an option, whose value is still to come.
abbrev pub opened : Text → List Row → ℕ → Walk
opened id rows position = record (at rows (Some (id, [])) position) { waiting = option id }

-- The walk behind `--`.
abbrev pub behind : Walk → Walk
behind w = record w { is_trailing = true }

-- The words take the walk from one place to another, and are no fault.
pub record Moves (w v : Walk) (words : List Text) : Type 0 where
  pub walk : (rest : List Text) → fold (walked rules []) w (words ++ rest) ≡ fold (walked rules []) v rest
  pub faults : (rest : List Text) → walk_fault top [] w (words ++ rest) ≡ walk_fault top [] v rest

pub one_word : (w v : Walk) (word : Text) → walked rules [] w word ≡ v → turn_fault top [] w word ≡ [] → Moves w v (word ∷ [])
unfolding walk_fault
one_word w v word goes free = record {
  walk = λ rest. ap (λ (x : Walk). fold (walked rules []) x rest) goes;
  faults = λ rest. ap₂ or_else free (ap (λ (x : Walk). walk_fault top [] x rest) goes);
}

pub two_words : (u v w : Walk) (one other : Text) → Moves u v (one ∷ []) → Moves v w (other ∷ []) → Moves u w (one ∷ other ∷ [])
two_words u v w one other first second = record {
  walk = λ rest. first.walk (other ∷ rest) ∙ second.walk rest;
  faults = λ rest. first.faults (other ∷ rest) ∙ second.faults rest;
}

-- The word is a use of the argument with this rule, with these values.
pub record IsUse (word name : Text) (given : Option Text) (rule : Rule) (values : List Text) : Type 0 where
  pub no_end : bytes_eq word (45 ∷ 45 ∷ []) ≡ false
  pub long : long_of word ≡ Some (name, given)
  pub found : arg_by_long rules name ≡ Some rule
  pub met : (h : Held) → long_met rules (Some rule) given h ≡ (reacted rules rule values h, done)
  pub faults : (h : Held) → long_fault rules false (Some rule) given h ≡ react_fault rules false rule values h

module _ (word name : Text) (given : Option Text) (rule : Rule) (no_end : bytes_eq word (45 ∷ 45 ∷ []) ≡ false) (long : long_of word ≡ Some (name, given)) (found : arg_by_long rules name ≡ Some rule) where
  long_word_met : (position : ℕ) (h : Held) → word_met rules [] false idle position word h ≡ after_flag rules idle word (long_met rules (Some rule) given h).0 (long_met rules (Some rule) given h).1
  long_word_met position h =
      ap (λ (b : Bool). if b then (h, trailing position) else long_or_other rules idle word (long_of word) h) no_end
      ∙ ap (λ (l : Option (Text × Option Text)). long_or_other rules idle word l h) long
      ∙ ap (λ (o : Option Rule). after_flag rules idle word (long_met rules o given h).0 (long_met rules o given h).1) found

  long_word_fault : (h : Held) → other_fault top None word h ≡ long_fault rules false (Some rule) given h
  long_word_fault h =
      ap (λ (b : Bool). if b then [] else flag_word_fault rules false (long_of word) word h) no_end
      ∙ ap (λ (l : Option (Text × Option Text)). flag_word_fault rules false l word h) long
      ∙ ap (λ (o : Option Rule). long_fault rules false o given h) found

-- A word that is a use.
pub use_moves : (word name : Text) (given : Option Text) (rule : Rule) (values : List Text) (rows : List Row) (pending : Option (Text × List Text)) (position : ℕ) → IsUse word name given rule values
    → react_fault rules false rule values (held_at rows pending) ≡ [] → Moves (at rows pending position) (at (used rule values (settled_rows rules pending rows)) None position) (word ∷ [])
unfolding walked
use_moves word name given rule values rows pending position is free =
    let h = held_at rows pending in
    let met : word_met rules [] false idle position word h ≡ (reacted rules rule values h, next idle) =
    long_word_met word name given rule is.no_end is.long is.found position h ∙ ap (λ (m : Held × Outcome). after_flag rules idle word m.0 m.1) (is.met h) in
    one_word _ _ word (ap (λ (m : Held × Step). after_step rules word (at rows pending position) m.0 m.1) met)
    (ap₂ or_else (long_word_fault word name given rule is.no_end is.long is.found h ∙ is.faults h ∙ free) (ap (λ (m : Held × Step). step_fault top position m.0 m.1) met))

-- A word of an option, whose value is to come.
pub option_moves : (word name : Text) (rule : Rule) (rows : List Row) (pending : Option (Text × List Text)) (position : ℕ) → bytes_eq word (45 ∷ 45 ∷ []) ≡ false → long_of word ≡ Some (name, None)
    → arg_by_long rules name ≡ Some rule → takes_values rule ≡ true → settle_fault rules false (held_at rows pending) ≡ []
    → Moves (at rows pending position) (opened rule.id (settled_rows rules pending rows) position) (word ∷ [])
unfolding walked
option_moves word name rule rows pending position no_end long found takes free =
    let h = held_at rows pending in
    let met : word_met rules [] false idle position word h ≡ (record (settled rules h) { pending = Some (rule.id, []) }, next (option rule.id)) =
    long_word_met word name None rule no_end long found position h
    ∙ ap (λ (b : Bool). let m : Held × Outcome = if b then option_met rules rule None h else flag_met rules rule None h in after_flag rules idle word m.0 m.1) takes in
    let fault : long_fault rules false (Some rule) None h ≡ settle_fault rules false h =
    ap (λ (b : Bool). if b then option_fault rules false rule None h else react_fault rules false rule [] h) takes in
    one_word _ _ word (ap (λ (m : Held × Step). after_step rules word (at rows pending position) m.0 m.1) met)
    (ap₂ or_else (long_word_fault word name None rule no_end long found h ∙ fault ∙ free) (ap (λ (m : Held × Step). step_fault top position m.0 m.1) met))

no_dashes : (word : Text) → is_flag word ≡ false → bytes_eq word (45 ∷ 45 ∷ []) ≡ false
no_dashes [] plain = refl
no_dashes (first ∷ rest) plain = rw plain refl

no_long : (word : Text) → is_flag word ≡ false → long_of word ≡ None
no_long [] plain = refl
no_long (first ∷ rest) plain = rw plain refl

no_short : (word : Text) → is_flag word ≡ false → short_of word ≡ None
no_short [] plain = refl
no_short (first ∷ rest) plain = rw plain refl

-- A plain word, where an option waits for it.
value_met : (id word : Text) (position : ℕ) (h : Held) → is_flag word ≡ false → word_met rules [] false (option id) position word h ≡ plain_word rules (option id) word h
value_met id word position h plain =
    ap (λ (b : Bool). if b then (h, trailing position) else long_or_other rules (option id) word (long_of word) h) (no_dashes word plain)
    ∙ ap (λ (l : Option (Text × Option Text)). long_or_other rules (option id) word l h) (no_long word plain)
    ∙ ap (λ (o : Option Text). short_or_plain rules (option id) word o h) (no_short word plain)

-- Where nothing does.
name_met : (word : Text) (position : ℕ) (h : Held) → is_flag word ≡ false → word_met rules [] false idle position word h ≡ (h, value)
name_met word position h plain =
    ap (λ (b : Bool). if b then (h, trailing position) else long_or_other rules idle word (long_of word) h) (no_dashes word plain)
    ∙ ap (λ (l : Option (Text × Option Text)). long_or_other rules idle word l h) (no_long word plain)
    ∙ ap (λ (o : Option Text). short_or_plain rules idle word o h) (no_short word plain)

plain_fault : (word : Text) (h : Held) → is_flag word ≡ false → other_fault top None word h ≡ []
plain_fault word h plain =
    ap (λ (b : Bool). if b then [] else flag_word_fault rules false (long_of word) word h) (no_dashes word plain)
    ∙ ap (λ (l : Option (Text × Option Text)). flag_word_fault rules false l word h) (no_long word plain)
    ∙ ap (λ (o : Option Text). option_map_or (λ flags. bundle_fault rules false flags h) o []) (no_short word plain)

-- The value of an option in a word of its own.
pub value_moves : (id word : Text) (rule : Rule) (rows : List Row) (position : ℕ) → is_flag word ≡ false → arg_by_id rules id ≡ Some rule → bytes_eq id rule.id ≡ true → most_values rule ≡ 1
    → Moves (opened id rows position) (at rows (Some (id, word ∷ [])) position) (word ∷ [])
unfolding walked
value_moves id word rule rows position plain found same most =
    let h = held_at rows (Some (id, [])) in
    let met : word_met rules [] false (option id) position word h ≡ (held_at rows (Some (id, word ∷ [])), next idle) =
    value_met id word position h plain
    ∙ ap (λ (o : Option Rule). let m : Held × Waiting = option_word o id word h in let step : Held × Step = (m.0, next m.1) in step) found
    ∙ ap (λ (b : Bool). let step : Held × Step = (held_at rows (Some (id, word ∷ [])), next (if nat_lt (if b then 1 else 0) (most_values rule) then option id else idle)) in step) same
    ∙ ap (λ (n : ℕ). let step : Held × Step = (held_at rows (Some (id, word ∷ [])), next (if nat_lt 1 n then option id else idle)) in step) most in
    one_word _ _ word (ap (λ (m : Held × Step). after_step rules word (opened id rows position) m.0 m.1) met)
    (ap₂ or_else (plain_fault word h plain) (ap (λ (m : Held × Step). step_fault top position m.0 m.1) met))

and_false : (b : Bool) → (b && false) ≡ false
and_false true = refl
and_false false = refl

-- A word that goes to the place of the network file's name.
module _ (word : Text) (rows : List Row) (pending : Option (Text × List Text)) (free : settle_fault rules false (held_at rows pending) ≡ []) where
  abbrev named : Walk
  named = at (settled_rows rules pending rows) (Some (codes "NETFILE", word ∷ [])) 2

  name_held : positional_held rules (built_rule NetFile) word (held_at rows pending) ≡ held_at (settled_rows rules pending rows) (Some (codes "NETFILE", word ∷ []))
  name_held = ap (λ (b : Bool). pushed (codes "NETFILE") word (if b then held_at rows pending else settled rules (held_at rows pending))) (and_false (is_pending (built_rule NetFile) pending))

  name_free : step_fault top 1 (held_at rows pending) value ≡ []
  name_free = ap (λ (b : Bool). if b then [] else settle_fault rules false (held_at rows pending)) (and_false (is_pending (built_rule NetFile) pending)) ∙ free

  -- A plain word.
  pub name_moves : is_flag word ≡ false → Moves (at rows pending 1) (at (settled_rows rules pending rows) (Some (codes "NETFILE", word ∷ [])) 2) (word ∷ [])
  unfolding walked
  name_moves plain =
      let met = name_met word 1 (held_at rows pending) plain in
      one_word _ _ word (ap (λ (m : Held × Step). after_step rules word (at rows pending 1) m.0 m.1) met ∙ ap (λ (h : Held). record named { held = h }) name_held)
      (ap₂ or_else (plain_fault word (held_at rows pending) plain) (ap (λ (m : Held × Step). step_fault top 1 m.0 m.1) met ∙ name_free))

  -- Any word behind `--`.
  pub end_moves : Moves (at rows pending 1) (behind (at (settled_rows rules pending rows) (Some (codes "NETFILE", word ∷ [])) 2)) (codes "--" ∷ word ∷ [])
  unfolding walked
  end_moves = two_words _ (behind (at rows pending 1)) _ (codes "--") word
      (one_word _ _ (codes "--") refl refl)
      (one_word _ _ word (ap (λ (h : Held). record (behind named) { held = h }) name_held) name_free)
