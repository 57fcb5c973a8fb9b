-- What the cells of a match tell of its groups, and that a match is found again from where it begins.
use Rattle.std.proofs.Common.{◌≡◌, ℕ, zero, suc, ◌+◌, ◌-◌, ◌*◌, ◌<◌, ◌≤◌, ◌==◌, Bool, true, false, List, length, All, Option, Some, None, IfSome, option_map, option_and_then, if◌then◌else◌, refl, sym, subst, ap, ◌∙◌, arith, eqb-true, get_or}
use Rattle.std.specs.Option.{option_or}
use Rattle.std.proofs.lemmas.Bool.{eqb-false}
use Rattle.std.proofs.lemmas.List.{get_or_default}
use Rattle.std.proofs.lemmas.List.Elements.{All-nil, All-cons, All-weaker}
use Rattle.std.proofs.lemmas.List.FromFn.{length-map-range_with_len}
use Rattle.regex_hir.specs.Looks.{holds}
use Rattle.regex_hir.specs.Re.{Trace, write}
use Rattle.regex_nfa.specs.States.{visit}
use Rattle.regex_nfa.specs.Run.{state_of, IsSoundAt, measure, run_within, run}
use Rattle.regex_nfa.specs.declared.state.State.{State}
use Rattle.regex_nfa.specs.declared.state.State.TheVariants as states
use Rattle.regex_nfa.specs.declared.nfa.Nfa.{Nfa}
use Rattle.regex_nfa.proofs.RunLemmas.{sound_at}
use Rattle.regex_syntax.proofs.CapturesLemmas.{find_alike, spans}
use Rattle.regex_vm.specs.Found.{first_match, group_cells}
use Rattle.regex_dfa.specs.declared.dfa.Dfa.{Dfa}
use Rattle.regex_meta.specs.Programs.{pattern_of, leftmost}
use Rattle.regex_meta.specs.declared.program.Program.{Program}
use Rattle.regex_meta.proofs.LeftmostLemmas.{find_first, find_here}
use Rattle.regex_meta.proofs.ProgramLemmas.{first_match-leftmost, run-attempt}
use Rattle.regex.specs.Patterns.{Re, Match, SameCaptures, find, span}
use Rattle.regex.specs.Replace.{bytes_of, group_bytes}
use Rattle.regex.specs.Search.{next_match, group_span, SpansGroups}
use Rattle.regex.specs.Writes.{both, group_of}
use Rattle.regex.proofs.CapturesLemmas.{groups_in_bytes, group_span-zero, next_is_leftmost}
use Rattle.regex.proofs.GroupLemmas.{HasRoom}
use Rattle.flow_pattern.specs.Pattern.{expression}

-- An automaton writes to no slots but its own. That is so however deep a run is followed, so that nothing need be said of how it ends.
module _ (nfa : Nfa) where
  abbrev OwnSlot : ℕ × ℕ → Type 0
  OwnSlot w = w.0 < nfa.slot_count

  abbrev WritesOwn : Option Trace → Type 0
  WritesOwn o = IfSome o (λ t. All OwnSlot t.writes)

  first-or : (first second : Option Trace) → WritesOwn first → WritesOwn second → WritesOwn (option_or first second)
  first-or None second one other = other
  first-or (Some t) second one other = one

  led-on : (go : ℕ → Option Trace) → ((q : ℕ) → WritesOwn (go q)) → (next : Option ℕ) → WritesOwn (option_and_then go next)
  led-on go own None = tt
  led-on go own (Some q) = own q

  where-so : (test : Bool) (o : Option Trace) → WritesOwn o → WritesOwn (if test then o else None)
  where-so true o own = own
  where-so false o own = tt

  noted : (slot place : ℕ) → slot < nfa.slot_count → (o : Option Trace) → WritesOwn o → WritesOwn (write slot place o)
  noted slot place inside None own = tt
  noted slot place inside (Some t) own = All-cons OwnSlot (slot, place) t.writes inside own

  module _ (text : List ℕ) (stop : ℕ) where
    -- A state does, where all that it goes on to do.
    one-state : (go : ℕ → ℕ → Option Trace) → ((q i : ℕ) → WritesOwn (go q i)) → (q i : ℕ) (state : State) → IsSoundAt nfa q state
        → WritesOwn (visit nfa.transitions.items text stop go state i)
    one-state go own q i (states.ByteRange range) sound = led-on (λ r. go r (i + 1)) (λ r. own r (i + 1)) _
    one-state go own q i (states.Sparse from to) sound = led-on (λ r. go r (i + 1)) (λ r. own r (i + 1)) _
    one-state go own q i (states.Split first second) sound = first-or (go first i) (go second i) (own first i) (own second i)
    one-state go own q i (states.Save slot next) sound = noted slot i sound.0 (go next i) (own next i)
    one-state go own q i (states.Look look next) sound = where-so (holds look text i) (go next i) (own next i)
    one-state go own q i states.Match sound = All-nil OwnSlot
    one-state go own q i states.Fail sound = tt

    to-depth : (depth q i : ℕ) → WritesOwn (run_within nfa text stop depth q i)
    unfolding run_within
    to-depth zero q i = tt
    to-depth (suc depth) q i = one-state (run_within nfa text stop depth) (to-depth depth) q i (state_of nfa q) (sound_at nfa q)

    whole-run : (q i : ℕ) → WritesOwn (run nfa text stop q i)
    unfolding run
    whole-run q i = to-depth (suc (measure nfa text stop q i)) q i

-- So there is a cell for each slot behind the two of the whole match.
has-room : (p : Program) (width : ℕ) → width ≡ p.dfa.nfa.slot_count - 2 → HasRoom (pattern_of p) width
has-room p width is text i t found =
    let nfa = p.dfa.nfa in
    All-weaker (OwnSlot nfa) (λ (w : ℕ × ℕ). w.0 < width + 2) (λ w own. omega (arith, own, is)) t.writes
    (subst (WritesOwn nfa) (run-attempt p text i ∙ found) (whole-run nfa text (length text) nfa.start i))

-- The cells of the match that a program finds tell what the groups of its pattern span, and so those of each that captures the same.
module _ (text : List ℕ) (cells : List ℕ) where
  abbrev Told : Option Match → Type 0
  Told o = IfSome o (λ m. SpansGroups false text m (span m) cells)

  -- They tell it of what can be seen of a match.
  abbrev Shown : ℕ × ℕ × (ℕ → Option ℕ) → Type 0
  Shown s = (n : ℕ) → 1 ≤ n → group_span false text (s.0, s.1) cells n ≡ both (s.2 (2 * n)) (s.2 (2 * n + 1))

  show : (o : Option Match) → Told o → IfSome (option_map spans o) Shown
  show None told = tt
  show (Some m) told = told

  tell : (o : Option Match) → IfSome (option_map spans o) Shown → Told o
  tell None shown = tt
  tell (Some m) shown = shown

  module _ (p : Program) (start : ℕ) where
    by-program : (o : Option Match) → leftmost p text start ≡ o → IfSome o (λ m. cells ≡ group_cells m (p.dfa.nfa.slot_count - 2)) → Told o
    unfolding group_cells
    by-program None found its = tt
    by-program (Some m) found its =
        let width : length cells ≡ p.dfa.nfa.slot_count - 2 = ap length its ∙ length-map-range_with_len _ 0 _ in
        groups_in_bytes (pattern_of p) text m (span m) cells
        (record { whole_is = refl; cells_are = subst (λ (n : ℕ). cells ≡ group_cells m n) (sym width) its })
        (has-room p (length cells) width) start found

    pub groups_so : (pattern : List ℕ) → SameCaptures (pattern_of p) (expression pattern) → ((k : ℕ) → get_or text k 0 < 256) → (dfa : Dfa) → p.dfa ≡ dfa
        → IfSome (first_match dfa.nfa text (length text) start (length text)) (λ m. cells ≡ group_cells m (dfa.nfa.slot_count - 2))
        → Told (find (expression pattern) text start)
    groups_so pattern same bytes dfa its told =
        let found = subst (λ (d : Dfa). IfSome (first_match d.nfa text (length text) start (length text)) (λ m. cells ≡ group_cells m (d.nfa.slot_count - 2))) (sym its) told in
        let own = by-program (leftmost p text start) refl
        (subst (λ (o : Option Match). IfSome o (λ m. cells ≡ group_cells m (p.dfa.nfa.slot_count - 2))) (first_match-leftmost p text start) found) in
        tell (find (expression pattern) text start)
        (subst (λ (s : Option (ℕ × ℕ × (ℕ → Option ℕ))). IfSome s Shown)
        (find_alike (pattern_of p) (expression pattern) same text (λ k d inside. subst (λ (b : ℕ). b < 256) (sym (get_or_default text k d 0 inside)) (bytes k)) start)
        (show (leftmost p text start) own))

-- The next match is found from where it begins.
pub found_there : (re : Re) (text : List ℕ) (after : ℕ) (m : Match) → next_match false re text after ≡ Some m → find re text m.start ≡ Some m
found_there re text after m e =
    let from = next_is_leftmost false re text after m e in
    let first = find_first re text from.0 m from.1 in
    find_here re text m.start m.trace first.to first.here

-- What each group holds, by the cells.
pub held : (text : List ℕ) (m : Match) (cells : List ℕ) → SpansGroups false text m (span m) cells → (n : ℕ)
    → bytes_of text (group_span false text (span m) cells n) ≡ group_bytes text m n
held text m cells spans n = ap (bytes_of text) (by (n == 0) refl) where
  by : (whole : Bool) → (n == 0) ≡ whole → group_span false text (span m) cells n ≡ (if whole then Some (span m) else group_of m n)
  by true is = ap (group_span false text (span m) cells) (eqb-true n 0 is) ∙ group_span-zero false text (span m) cells
  by false is = spans n (omega (arith, eqb-false n 0 is))
