-- A network file's bytes hold one thing, or are refused.
use Rattle.std.proofs.Common.{◌≡◌, ℕ, List, [], None, Ok, Err, refl, sym, subst}
use Rattle.std.proofs.lemmas.List.{append-nil}
use Rattle.std.specs.Str.Lines.{lines}
use Rattle.flow_plan.specs.Network.{Network}
use Rattle.flow_parse.specs.declared.value.NetText.{NetText}
use Rattle.flow_parse.specs.Files.{Spells}
use Rattle.flow_parse.proofs.OneOutcome.{one_outcome}
use Rattle.flow_flat.specs.Texts.{TextComesTo}
use Rattle.flow_flat.proofs.TextOnce.{text_once}
use Rattle.flow_plan.specs.declared.kind.KindSpec.{KindSpec}
use Rattle.flow_catalogue.specs.Kinds.{std_kinds_of}
use Rattle.flow_offer.specs.Kinds.{table_of}
use Rattle.flow_load.specs.Networks.{Holds, RefusedFor, ReadsAs}
use Rattle.flow_load.specs.declared.stop.Stop.{Stop}
use Rattle.flow_load.specs.declared.stop.Stop.TheVariants.{Words, Refused, NoPart, JournalRefused, TapesRefused, ReadFault, WriteFault, TooLong, NoMemory}
use Rattle.flow_load.specs.declared.stop.NetRefusal.{NetRefusal}
use Rattle.flow_load.specs.declared.stop.NetRefusal.TheVariants as refusals

-- they spell one value
pub one-text : (net : List ℕ) (a b : NetText) → Spells net a → Spells net b → a ≡ b
one-text net a b is other = let same = one_outcome 1 None (lines net) (Ok a) (Ok b) is other in cc

-- A plan over the standard kinds alone is what bytes hold for a caller without kinds of its own.
pub holds-standard : (net : List ℕ) (text : NetText) (plan : Network) → Spells net text → TextComesTo (std_kinds_of text.version) text (Ok plan) → Holds [] net text plan
holds-standard net text plan spells comes = record {
  spelled = spells;
  comes = subst (λ (kinds : List KindSpec). TextComesTo kinds text (Ok plan)) (sym (append-nil (std_kinds_of text.version))) comes;
}

-- bytes that hold a network aren't refused
pub holds-or-refused : (own : List KindSpec) (net : List ℕ) (text : NetText) (plan : Network) (refusal : NetRefusal) → Holds own net text plan → RefusedFor own net refusal → ⊥
holds-or-refused own net text plan (refusals.Line fault) holds refused = let same = one_outcome 1 None (lines net) (Ok text) (Err fault) holds.spelled refused in cc
holds-or-refused own net text plan (refusals.Network fault) holds refused =
    let same = one-text net refused.0 text refused.1 holds.spelled in
    let comes = subst (λ (t : NetText). TextComesTo (table_of t.version own) t (Err fault)) same refused.2 in
    let both = text_once (table_of text.version own) text (Ok plan) (Err fault) holds.comes comes in
    cc

-- They hold one plan.
pub one-plan : (own : List KindSpec) (net : List ℕ) (a b : NetText) (plan other : Network) → Holds own net a plan → Holds own net b other → plan ≡ other
one-plan own net a b plan other holds is =
    let same = one-text net b a is.spelled holds.spelled in
    let comes = subst (λ (t : NetText). TextComesTo (table_of t.version own) t (Ok other)) same is.comes in
    let both = text_once (table_of a.version own) a (Ok plan) (Ok other) holds.comes comes in
    cc

-- Bytes that hold a network are refused for nothing.
pub never-refused : (own : List KindSpec) (net : List ℕ) (text : NetText) (plan : Network) (stop : Stop) → Holds own net text plan → ReadsAs own net (Err stop) → stop ≡ NoMemory
never-refused own net text plan (Refused refusal) holds r = absurd (holds-or-refused own net text plan refusal holds r)
never-refused own net text plan (NoPart process) holds r = absurd r
never-refused own net text plan (TapesRefused refusal) holds r = absurd r
never-refused own net text plan NoMemory holds r = refl
never-refused own net text plan Words holds r = absurd r
never-refused own net text plan (JournalRefused refusal) holds r = absurd r
never-refused own net text plan (ReadFault name) holds r = absurd r
never-refused own net text plan (WriteFault name) holds r = absurd r
never-refused own net text plan (TooLong name) holds r = absurd r
