-- What the caller offers of its own, and what a call leaves for a replay.
use Rattle.std.specs.Prelude.{◌≡◌, ℕ, List, [], map, length, Vec}
use Rattle.std.specs.declared.alloc.Global.{Global}
use Rattle.std.specs.declared.vec.IntoIter.{IntoIter}
use Rattle.std.specs.Vec.Iter.{into_iter_items, into_iter_len}
use Rattle.flow_plan.specs.declared.kind.KindSpec.{KindSpec}
use Rattle.flow_own.specs.declared.tape.Entry.{Entry}
use Rattle.flow_own.specs.Mixed.{Mixed, mixed_rules, mixed_state}
use Rattle.flow_played.specs.Rules.{played_rules}
use Rattle.flow_component.specs.Laws.{Rules}
use Rattle.flow_catalogue.specs.Std.{std_rules}
use Rattle.flow_catalogue.specs.declared.standard.Std.{Std}
use Rattle.flow_journal.specs.declared.merge.Journal.{Journal}
use Rattle.flow_load.specs.declared.offers.OwnKind.{OwnKind}

-- A kind of the caller's own, and how many parts there are for processes of it.
pub record Offer : Type 0 where
  pub spec : KindSpec
  pub parts : ℕ

-- What the kinds offer that a caller hands in.
abbrev pub offers_of : {P : Type 0} → List (OwnKind P) → List Offer
offers_of own = map (λ k. record { spec = k.spec; parts = length k.parts.items }) own

-- The parts that a caller hands in, kind by kind, each kind's in order.
abbrev pub handed_in : {P : Type 0} → List (OwnKind P) → List (List P)
handed_in own = map (λ k. k.parts.items) own

-- The caller's own kinds, in order.
abbrev pub specs_of : List Offer → List KindSpec
specs_of offers = map (λ (o : Offer). o.spec) offers

-- How many parts there are of each.
abbrev pub parts_of : List Offer → List ℕ
parts_of offers = map (λ (o : Offer). o.parts) offers

-- How many parts there are of each kind.
abbrev pub counts_of : {P : Type 0} → List (Vec P Global) → List ℕ
counts_of parts = map (λ v. length v.items) parts

-- The parts of each kind, in order.
abbrev pub parts_in : {P : Type 0} → List (Vec P Global) → List (List P)
parts_in parts = map (λ v. v.items) parts

-- The parts of each kind that are left to be taken, in order.
abbrev pub parts_left : {P : Type 0} → List (IntoIter P Global) → List (List P)
parts_left queues = map (λ queue. into_iter_items queue) queues

-- How many parts of each kind are left to be taken.
abbrev pub counts_left : {P : Type 0} → List (IntoIter P Global) → List ℕ
counts_left queues = map (λ queue. into_iter_len queue) queues

-- These kinds and parts, which are listed by the place of their kind, are what is offered.
pub record AreOffered {P : Type 0} (own : List Offer) (kinds : List KindSpec) (parts : List (Vec P Global)) : Type 0 where
  pub kinds_are : specs_of own ≡ kinds
  pub parts_are : parts_of own ≡ counts_of parts

-- A component of any kind: a standard one, or one of the caller's own.
abbrev pub AnyKind : Type 0
AnyKind = Mixed Std

-- What a network knows of its components while it runs: what a part of the caller's own does can't be foreseen.
abbrev pub live_rules : Rules AnyKind
live_rules = mixed_rules std_rules

-- What it knows where each part of the caller's own is replaced by the player of its tape: nothing is left open.
abbrev pub net_rules : Rules AnyKind
net_rules = played_rules std_rules

-- What a network knows of components: of a live part all but the part itself.
abbrev pub known : List AnyKind → List AnyKind
known components = map (mixed_state (λ (component : Std). component)) components

-- A tape, as contracts see it: the entries of a part's resumes, in order.
abbrev pub Taped : Type 0
Taped = List Entry

-- What a call leaves of the turns that were made: their journal, and the tape of each process of the caller's own, in the order of the processes.
pub record Recorded : Type 0 where
  pub journal : Journal
  pub tapes : List Taped

-- No turn was made.
abbrev pub IsEmptyJournal : Journal → Type 0
IsEmptyJournal journal = (journal.turns ≡ []) × (journal.seen ≡ [])

-- No turn was made, and so there are no tapes.
abbrev pub IsNothing : Recorded → Type 0
IsNothing recorded = IsEmptyJournal recorded.journal × (recorded.tapes ≡ [])
