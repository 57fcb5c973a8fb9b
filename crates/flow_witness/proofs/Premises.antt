-- What the worked calls read is valid.
use Rattle.std.proofs.Common.{◌≡◌, ℕ, zero, suc, ◌≤◌, ◌<◌, ◌^◌, Bool, true, false, List, [], ◌∷◌, ◌++◌, map, length, Some, None, Option, refl, sym, ap, ◌∙◌, subst, inl, inr, arith}
use Rattle.std.specs.Prelude.{codes, String}
use Rattle.std.specs.Option.{option_and_then}
use Rattle.std.specs.List.{All}
use Rattle.std.specs.declared.alloc.Global.{Global}
use Rattle.flow_limits.specs.declared.TheConstants.{FILE_LIMIT}
use Rattle.flow_text.specs.Edge.{Name, Logged}
use mathlib.Core.Path.{ap₂}
use Rattle.flow_plan.specs.Network.{Network}
use Rattle.flow_words.specs.Words.{Asked, Run, Check, Judge, Replay, command_of}
use Rattle.flow_words.specs.declared.argument.Argument.TheVariants as arguments
use Rattle.flow_words.specs.Lines.{Given, IsLine}
use Rattle.flow_words.proofs.Laws.{asks}
use Rattle.flow_parse.specs.declared.value.NetText.{NetText}
use Rattle.flow_model.specs.Plans.{start_of}
use Rattle.flow_model.specs.States.{State}
use Rattle.flow_model.specs.Schedules.{Journal as Schedule, Leads}
use Rattle.flow_catalogue.specs.Std.{std_rules}
use Rattle.flow_journal.specs.Files.{HasOneJournal, IsFileOf}
use Rattle.flow_journal.specs.Replays.{schedule_of}
use Rattle.flow_journal.specs.declared.merge.Journal.{Journal}
use Rattle.flow_played.specs.Plain.{AllRunAsTheyAre}
use Rattle.flow_load.specs.Step.{Filled, whole}
use Rattle.flow_load.specs.Networks.{Holds}
use Rattle.flow_load.specs.Causes.{Work}
use Rattle.flow_load.specs.Reads.{Asks, file_of, IsCommand}
use Rattle.flow_load.specs.Offers.{AnyKind, Offer, net_rules}
use Rattle.flow_load.specs.Valid.{AreValid, BeginsJournal, IsLimitAt, IsReplay, IsTapesAt, IsValid, IsValidReplay}
use Rattle.flow_load.proofs.NoKinds.{none-own}
use Rattle.flow_witness.specs.Complete.{network_file, input_file, journal_file, network_bytes, journal_bytes, balance, balance_journal}
use Rattle.flow_witness.proofs.Wired.{at_one, at_two, at_three}
use Rattle.flow_witness.proofs.BalanceFile.{balance_value, holds, only_plan}
use Rattle.flow_witness.proofs.BalanceEnds.{leads-on}

-- The seen numbers fit into two bytes each.
small : All (λ n. n < 2 ^ 16) balance_journal.seen
small zero d below = omega arith
small (suc zero) d below = omega arith
small (suc (suc k)) d below = absurd (omega (arith, below))

-- The bytes are the file of the journal.
pub is_file : IsFileOf balance_journal journal_bytes
is_file = record { writable = record { turns = omega arith; seen = omega arith }; numbers = small; is = refl }

-- What a replay reads.
abbrev pub replayed : List Filled
replayed = network_file ∷ journal_file ∷ input_file ∷ []

-- What a run reads.
abbrev pub ran : List Filled
ran = network_file ∷ input_file ∷ []

-- A file gave these bytes where it stands first.
first_is : (name : Name) (net : List ℕ) → Some (whole network_file) ≡ Some (whole (name, net)) → network_bytes ≡ net
first_is name net there = let h : whole network_file ≡ whole (name, net) = cc in ap (λ (file : Logged). file.bytes) h

-- What the network file gave has a plan.
has_plan : (name : Name) (net : List ℕ) → Some (whole network_file) ≡ Some (whole (name, net)) → (text : NetText) × (plan : Network) × Holds [] net text plan
has_plan name net there = (balance_value, balance, subst (λ (bytes : List ℕ). Holds [] bytes balance_value balance) (first_is name net there) holds)

-- It has no other.
plan_is : (name : Name) (net : List ℕ) (text : NetText) (plan : Network) → Some (whole network_file) ≡ Some (whole (name, net)) → Holds [] net text plan → plan ≡ balance
plan_is name net text plan there is = only_plan text plan (subst (λ (bytes : List ℕ). Holds [] bytes text plan) (sym (first_is name net there)) is)

-- Two journals of the same turns and numbers are one schedule.
pub one_schedule : (a b : Journal) → a.turns ≡ b.turns → a.seen ≡ b.seen → schedule_of a ≡ schedule_of b
one_schedule a b turns seen = ap₂ (λ t s. record { turns = t; seen = s }) turns seen

-- The journal's file tells the journal.
begins : (given : Logged) → Some (whole journal_file) ≡ Some given → BeginsJournal given
begins given there =
    let same : whole journal_file ≡ given = cc in
    subst BeginsJournal same ([], (λ ended. refl), (balance_journal, is_file))

-- It tells no other.
journal_is : HasOneJournal → (name : Name) (bytes : List ℕ) (journal : Journal) → Some (whole journal_file) ≡ Some (whole (name, bytes)) → IsFileOf journal bytes
    → schedule_of balance_journal ≡ schedule_of journal
journal_is single name bytes journal there is =
    let same : journal_bytes ≡ bytes = (let h : whole journal_file ≡ whole (name, bytes) = cc in ap (λ (file : Logged). file.bytes) h) in
    let one = single bytes balance_journal journal (subst (IsFileOf balance_journal) same is_file) is in
    one_schedule balance_journal journal one.0 one.1

-- What a replay read besides is valid with the network.
pub valid_replay : AllRunAsTheyAre std_rules → HasOneJournal → IsValidReplay [] None (map whole replayed) balance
valid_replay plain single = record {
  journal = λ given there. begins given there;
  tapes_are = none-own balance;
  schedule = λ bytes journal told given components gave is none read are.
      subst (λ (s : Schedule). (last : State AnyKind) × Leads net_rules (start_of balance components) s last) (journal_is single gave.0 bytes journal gave.1 is)
      (leads-on plain given told components read are);
}

-- No tapes are read where the words ask for a replay without them, and where they ask for no replay.
at_limit : (words : List (String Global)) (place limit : ℕ) → (IsTapesAt words place → ⊥) → IsLimitAt words place limit → FILE_LIMIT ≡ limit
at_limit words place limit none (inl tapes) = absurd (none tapes.0)
at_limit words place limit none (inr other) = sym other.1

-- The words that name a file of tapes ask for a replay.
replay_at : (words : List (String Global)) (place : ℕ) → IsTapesAt words place → IsReplay words
replay_at words place at = (at.1.0, at.1.1, Some at.1.2, at.1.3)

-- What is asked for is one thing.
pub asked_is : (a b : Asked) → Some a ≡ Some b → a ≡ b
asked_is a b h = cc

-- The tapes that a replay names.
abbrev pub tapes_of : Asked → Option Name
tapes_of (Replay name kept tapes) = tapes
tapes_of other = None

-- Words that ask for this replay name no file of tapes.
tapes_asked : (words : List (String Global)) (name kept : Name) (tapes : Option Name) → Asks words (Replay (codes "net") (codes "j") None) → Asks words (Replay name kept tapes) → None ≡ tapes
tapes_asked words name kept tapes asked is = ap tapes_of (asked_is (Replay (codes "net") (codes "j") None) (Replay name kept tapes) (sym asked ∙ is))

no_tapes : (words : List (String Global)) (place : ℕ) → IsTapesAt words place → Asks words (Replay (codes "net") (codes "j") None) → ⊥
no_tapes words place at asked = let h : None ≡ Some at.1.2 = tapes_asked words at.1.0 at.1.1 (Some at.1.2) asked at.1.3 in cc

-- What a replay read is valid.
replayed_valid : AllRunAsTheyAre std_rules → HasOneJournal → (words : List (String Global)) → Asks words (Replay (codes "net") (codes "j") None) → AreValid [] words (map whole replayed)
replayed_valid plain single words asked = record {
  network = λ net gave. has_plan gave.0 net gave.1;
  short = λ place limit file there other at.
      subst (λ (most : ℕ). length file.bytes ≤ most) (at_limit words place limit (λ tapes. no_tapes words place tapes asked) at)
      (at_three (λ k (x : Logged). length x.bytes ≤ FILE_LIMIT) (whole network_file) (whole journal_file) (whole input_file) (omega arith) (omega arith) (omega arith) place file there);
  parts = λ run net text plan p asks_run gave holds found. absurd (let no : None ≡ Some found.place = found.placed in cc);
  replay = λ name kept tapes net text plan is gave holds.
      let same : None ≡ tapes = tapes_asked words name kept tapes asked is in
      subst (λ (named : Option Name). IsValidReplay [] named (map whole replayed) plan) same
      (subst (λ (n : Network). IsValidReplay [] None (map whole replayed) n) (sym (plan_is gave.0 net text plan gave.1 holds)) (valid_replay plain single));
}

-- What is asked for is a replay.
abbrev pub is_replay : Asked → Bool
is_replay (Replay name kept tapes) = true
is_replay other = false

-- Words that ask for something else ask for no replay.
pub no_replay : (words : List (String Global)) (asked : Asked) → Asks words asked → is_replay asked ≡ false → IsReplay words → ⊥
no_replay words asked is other replay =
    let same : asked ≡ Replay replay.0 replay.1 replay.2 = asked_is asked (Replay replay.0 replay.1 replay.2) (sym is ∙ replay.3) in
    let bad : false ≡ true = sym other ∙ ap is_replay same in
    cc

-- What a run read is valid.
ran_valid : (words : List (String Global)) → (IsReplay words → ⊥) → AreValid [] words (map whole ran)
ran_valid words none = record {
  network = λ net gave. has_plan gave.0 net gave.1;
  short = λ place limit file there other at.
      subst (λ (most : ℕ). length file.bytes ≤ most) (at_limit words place limit (λ tapes. none (replay_at words place tapes)) at)
      (at_two (λ k (x : Logged). length x.bytes ≤ FILE_LIMIT) (whole network_file) (whole input_file) (omega arith) (omega arith) place file there);
  parts = λ run net text plan p asks_run gave holds found. absurd (let no : None ≡ Some found.place = found.placed in cc);
  replay = λ name kept tapes net text plan is gave holds. absurd (none (name, kept, tapes, is));
}

-- What a check or a judge read is valid.
checked_valid : (words : List (String Global)) → (IsReplay words → ⊥) → AreValid [] words (whole network_file ∷ [])
checked_valid words none = record {
  network = λ net gave. has_plan gave.0 net gave.1;
  short = λ place limit file there other at.
      subst (λ (most : ℕ). length file.bytes ≤ most) (at_limit words place limit (λ tapes. none (replay_at words place tapes)) at)
      (at_one (λ k (x : Logged). length x.bytes ≤ FILE_LIMIT) (whole network_file) (omega arith) place file there);
  parts = λ run net text plan p asks_run gave holds found. absurd (let no : None ≡ Some found.place = found.placed in cc);
  replay = λ name kept tapes net text plan is gave holds. absurd (none (name, kept, tapes, is));
}

-- The words are a command line on the network file.
on_net : (words : List (String Global)) (asked : Asked) → Asks words asked → file_of asked ≡ Some (codes "net") → IsCommand words (codes "net")
on_net words asked is named = ap (λ (o : Option Asked). option_and_then file_of o) is ∙ named

-- A call that read valid files, whatever else it did, is valid.
pub call_valid : (own : List Offer) (words : List (String Global)) (asked : Asked) (read : List Filled) (w : Work) → w.words ≡ words → w.own ≡ own → w.before.opened ≡ [] → w.after.opened ≡ map whole read → Asks words asked → file_of asked ≡ Some (codes "net") → AreValid own words (map whole read) → IsValid w
call_valid own words asked read w named none_own none opened is net valid =
    inr (
      codes "net",
      subst (λ (ws : List (String Global)). IsCommand ws (codes "net")) (sym named) (on_net words asked is net),
      λ found gave.
          let same : map whole read ≡ found = sym opened ∙ gave ∙ ap (λ (l : List Logged). l ++ found) none in
          subst (λ (offers : List Offer). AreValid offers w.words found) (sym none_own)
          (subst (λ (ws : List (String Global)). AreValid own ws found) (sym named) (subst (λ (files : List Logged). AreValid own words files) same valid)),
    )

-- What a replay read is valid, and so is what a run, a check or a judge read.
pub replay_valid : AllRunAsTheyAre std_rules → HasOneJournal → (words : List (String Global)) → Asks words (Replay (codes "net") (codes "j") None) → AreValid [] words (map whole replayed)
replay_valid = replayed_valid

pub run_valid : (words : List (String Global)) (asked : Asked) → Asks words asked → is_replay asked ≡ false → AreValid [] words (map whole ran)
run_valid words asked is other = ran_valid words (no_replay words asked is other)

pub check_valid : (words : List (String Global)) (asked : Asked) → Asks words asked → is_replay asked ≡ false → AreValid [] words (whole network_file ∷ [])
check_valid words asked is other = checked_valid words (no_replay words asked is other)

-- The argument of the network file.
abbrev pub net_argument : Given
net_argument = (arguments.NetFile, codes "net")

-- Its word alone is a line.
pub net_line : IsLine (net_argument ∷ []) (codes "net" ∷ [])
net_line = inr (codes "net" ∷ [], [], (refl, refl), refl, refl)

-- These texts ask for the replay, the run, the check and the judge.
pub replay_asked : command_of (codes "--replay" ∷ codes "j" ∷ codes "net" ∷ []) ≡ Some (Replay (codes "net") (codes "j") None)
replay_asked = asks ((arguments.Replay, codes "j") ∷ net_argument ∷ []) (codes "--replay" ∷ codes "j" ∷ codes "net" ∷ []) (inr (codes "--replay" ∷ codes "j" ∷ [], codes "net" ∷ [], inr (refl, refl), net_line, refl)) (refl, (refl, tt))

pub run_asked : command_of (codes "net" ∷ []) ≡ Some (Run (codes "net") None None 0 (record { file = None; quiet = false; brief = false }))
run_asked = asks (net_argument ∷ []) (codes "net" ∷ []) net_line (refl, tt)

pub check_asked : command_of (codes "--check" ∷ codes "net" ∷ []) ≡ Some (Check (codes "net"))
check_asked = asks ((arguments.Check, []) ∷ net_argument ∷ []) (codes "--check" ∷ codes "net" ∷ []) (inr (codes "--check" ∷ [], codes "net" ∷ [], (refl, refl), net_line, refl)) (refl, (refl, tt))

pub judge_asked : command_of (codes "--determinate" ∷ codes "net" ∷ []) ≡ Some (Judge (codes "net"))
judge_asked = asks ((arguments.Determinate, []) ∷ net_argument ∷ []) (codes "--determinate" ∷ codes "net" ∷ []) (inr (codes "--determinate" ∷ [], codes "net" ∷ [], (refl, refl), net_line, refl)) (refl, (refl, tt))
