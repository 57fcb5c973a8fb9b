-- The components of the worked network on its reader's line, which are the only ones.
use Rattle.std.proofs.Common.{◌≡◌, ℕ, List, [], ◌∷◌, map, Some, None, refl, sym, ap, ◌∙◌, subst, arith, slice_get}
use Rattle.std.specs.Str.Lines.{lines}
use Rattle.flow_text.specs.Edge.{Logged}
use Rattle.flow_plan.specs.declared.plan.Process.{Process}
use Rattle.flow_streams.specs.declared.discard.Discard.{Discard}
use Rattle.flow_streams.specs.declared.load_balance.LoadPlace.TheVariants as load_places
use Rattle.flow_catalogue.specs.declared.standard.Std.{Std}
use Rattle.flow_catalogue.specs.declared.standard.Std.TheVariants as components
use Rattle.flow_catalogue.specs.declared.table.StdKind.{StdKind}
use Rattle.flow_catalogue.specs.declared.table.StdKind.TheVariants as kinds
use Rattle.flow_catalogue.specs.Kinds.{name_of}
use Rattle.flow_catalogue.specs.Processes.{IsMade, first_component, given}
use Rattle.flow_catalogue.proofs.Names.{IsMade-kind}
use Rattle.flow_load.specs.Step.{whole}
use Rattle.flow_own.specs.Mixed.{Other, Own}
use Rattle.flow_played.specs.Others.{others}
use Rattle.flow_load.specs.Offers.{AnyKind, Taped}
use Rattle.flow_load.specs.Components.{inputs_of, AreComponents, IsComponent, IsPlayedComponent}
use Rattle.flow_witness.specs.Complete.{balance, input_bytes, input_file}

abbrev fresh_discard : Discard
fresh_discard = record {}

-- The component of the reader, that of the LoadBalance, and those of the other two, in their first state.
abbrev pub reading : Std
reading = components.ReadLines ((97 ∷ []) ∷ [])

abbrev pub balancing : Std
balancing = components.LoadBalance (record { count = 2; depth = 0; chosen = 0; place = load_places.Waiting })

abbrev pub dropping : Std
dropping = components.Discard fresh_discard

-- The components in the order of the processes.
abbrev pub balance_components : List Std
balance_components = reading ∷ balancing ∷ dropping ∷ dropping ∷ []

process_is : (a b : Process) → Some a ≡ Some b → b ≡ a
process_is a b h = cc

-- The component of a process of this kind.
component-is : (p : ℕ) (process : Process) (kind : StdKind) (bytes : List ℕ) (component : Std) → slice_get balance.processes p ≡ Some process → process.kind ≡ name_of kind → IsComponent balance p bytes component
    → component ≡ first_component kind (given balance p process) bytes
component-is p process kind bytes component there named is =
    let same = process_is process is.process (sym there ∙ is.there) in
    IsMade-kind balance p process bytes component kind named (subst (λ (x : Process). IsMade balance p x bytes component) same is.made)

-- The same among components of any kind: none is the caller's own.
any-is : (p : ℕ) (process : Process) (kind : StdKind) (bytes : List ℕ) (tape : Taped) (component : AnyKind) → slice_get balance.processes p ≡ Some process → process.kind ≡ name_of kind
    → IsPlayedComponent [] balance p bytes tape component → component ≡ Other (first_component kind (given balance p process) bytes)
any-is p process kind bytes tape (Other component) there named is = ap Other (component-is p process kind bytes component there named is)
any-is p process kind bytes tape (Own value) there named is = absurd (let none : None ≡ Some is.0.kind = is.0.here in cc)

-- The bytes of the first file.
abbrev first_bytes : List Logged → List ℕ
first_bytes [] = []
first_bytes (file ∷ files) = file.bytes

-- What the reader's file gave, by what was read.
input-is : (given : List (List ℕ)) (bytes : List ℕ) → whole input_file ∷ [] ≡ map whole (inputs_of balance.processes given) → slice_get given 0 ≡ Some bytes → bytes ≡ input_bytes
input-is [] bytes read at = absurd (let bad : None ≡ Some bytes = at in cc)
input-is (b ∷ given) bytes read at =
    let first : input_bytes ≡ b = ap first_bytes read in
    let same : b ≡ bytes = (let h : Some b ≡ Some bytes = at in cc) in
    sym (first ∙ same)

-- The components of the network on the reader's line are these.
pub only-components : (given : List (List ℕ)) (tapes : List Taped) (ks : List AnyKind) → whole input_file ∷ [] ≡ map whole (inputs_of balance.processes given) → AreComponents [] balance given tapes ks
    → ks ≡ others balance_components
only-components given tapes (r ∷ l ∷ a ∷ b ∷ []) read are =
    let of_r = are.each 0 r refl in
    let of_l = are.each 1 l refl in
    let of_a = are.each 2 a refl in
    let of_b = are.each 3 b refl in
    let is_r = any-is 0 _ kinds.ReadLines of_r.0 (are.by 0) r refl refl of_r.2 ∙ ap (λ (bytes : List ℕ). Other (components.ReadLines (lines bytes))) (input-is given of_r.0 read of_r.1) in
    let is_l = any-is 1 _ kinds.LoadBalance of_l.0 (are.by 1) l refl refl of_l.2 in
    let is_a = any-is 2 _ kinds.Discard of_a.0 (are.by 2) a refl refl of_a.2 in
    let is_b = any-is 3 _ kinds.Discard of_b.0 (are.by 3) b refl refl of_b.2 in
    λ i. is_r i ∷ is_l i ∷ is_a i ∷ is_b i ∷ []
only-components given tapes [] read are = absurd (omega (arith, are.count))
only-components given tapes (r ∷ []) read are = absurd (omega (arith, are.count))
only-components given tapes (r ∷ l ∷ []) read are = absurd (omega (arith, are.count))
only-components given tapes (r ∷ l ∷ a ∷ []) read are = absurd (omega (arith, are.count))
only-components given tapes (r ∷ l ∷ a ∷ b ∷ more ∷ ks) read are = absurd (omega (arith, are.count))
