-- The plan of the made network is its only outcome, and its first process alone reads a file.
use Rattle.std.proofs.Common.{◌≡◌, ℕ, zero, suc, Bool, true, false, List, [], ◌∷◌, Some, Ok, refl, sym, subst, slice_get}
use Rattle.std.specs.Prelude.{◌||◌, codes}
use Rattle.std.specs.declared.result.Result.{Result}
use Rattle.std.specs.List.{list_any}
use Rattle.std.specs.Str.{bytes_eq}
use Rattle.flow_make.specs.Lines.{text_of}
use Rattle.flow_make.specs.Network.{network_lines}
use Rattle.flow_plan.specs.declared.plan.Process.{Process}
use Rattle.flow_plan.specs.Network.{Network}
use Rattle.flow_parse.specs.declared.fault.NetFault.{NetFault}
use Rattle.flow_parse.specs.declared.value.NetText.{NetText}
use Rattle.flow_parse.specs.Files.{Spells}
use Rattle.flow_flat.specs.declared.fault.ExpandFault.{ExpandFault}
use Rattle.flow_flat.specs.Texts.{TextComesTo}
use Rattle.flow_flat.specs.Laws.{FileComesToNetwork}
use Rattle.flow_flat.proofs.Files.{file_once}
use Rattle.flow_catalogue.specs.Kinds.{std_kinds_of}
use Rattle.flow_load.specs.Made.{OnlyFirstReads}
use Rattle.flow_load.proofs.MadePlan.{reader, others, made_plan, comes}
use Rattle.flow_load.proofs.MadeValue.{made_value, spelled}
use Rattle.flow_load.proofs.Networks.{one-text}

-- The text comes to its plan and to nothing else.
pub only_outcome : (outcome : Result (Result Network ExpandFault) NetFault) → FileComesToNetwork (std_kinds_of 1) (text_of network_lines) outcome → outcome ≡ Ok (Ok made_plan)
only_outcome outcome is = file_once (std_kinds_of 1) (text_of network_lines) outcome (Ok (Ok made_plan)) is (made_value, spelled, comes)

same_plan : (one other : Network) → ◌≡◌ {A = Result (Result Network ExpandFault) NetFault} (Ok (Ok one)) (Ok (Ok other)) → one ≡ other
same_plan one other same = cc

-- A plan of a value that the text spells is this one.
pub only_plan : (text : NetText) (plan : Network) → Spells (text_of network_lines) text → TextComesTo (std_kinds_of text.version) text (Ok plan) → plan ≡ made_plan
only_plan text plan spells is = same_plan plan made_plan (only_outcome (Ok (Ok plan)) (made_value, spelled, subst (λ (t : NetText). TextComesTo (std_kinds_of t.version) t (Ok plan)) (one-text (text_of network_lines) text made_value spells spelled) is))

-- The process reads a file.
abbrev is_reader : Process → Bool
is_reader process = bytes_eq process.kind (codes "ReadLines")

some_is : (a b : Process) → Some a ≡ Some b → a ≡ b
some_is a b e = cc

or_false : (a b : Bool) → (a || b) ≡ false → (a ≡ false) × (b ≡ false)
or_false true b e = absurd cc
or_false false b e = (refl, e)

not_reader : (process : Process) → is_reader process ≡ false → process.kind ≡ codes "ReadLines" → ⊥
not_reader process e kind = let bad : bytes_eq (codes "ReadLines") (codes "ReadLines") ≡ false = subst (λ (k : List ℕ). bytes_eq k (codes "ReadLines") ≡ false) kind e in cc

none_reads : (processes : List Process) → list_any is_reader processes ≡ false → (k : ℕ) (process : Process) → slice_get processes k ≡ Some process → process.kind ≡ codes "ReadLines" → ⊥
none_reads [] none k process is kind = cc
none_reads (x ∷ xs) none zero process is kind = not_reader process (subst (λ (p : Process). is_reader p ≡ false) (some_is x process is) (or_false (is_reader x) (list_any is_reader xs) none).0) kind
none_reads (x ∷ xs) none (suc k) process is kind = none_reads xs (or_false (is_reader x) (list_any is_reader xs) none).1 k process is kind

first_reads : OnlyFirstReads made_plan
first_reads = record { first = reader; there = refl; kind = refl; file = refl; others = λ p process is. none_reads others refl p process is }

-- In a plan of the text the first process alone reads a file.
pub reads : (text : NetText) (plan : Network) → Spells (text_of network_lines) text → TextComesTo (std_kinds_of text.version) text (Ok plan) → OnlyFirstReads plan
reads text plan spells is = subst (λ (n : Network). OnlyFirstReads n) (sym (only_plan text plan spells is)) first_reads
