-- A draft stays sound when an input is given a text.
use Rattle.flow_limits.specs.declared.TheConstants.{TEXT_LIMIT}
use Rattle.std.proofs.Common.{◌≡◌, ◌≢◌, ℕ, ◌<◌, ◌≤◌, List, [], ◌∷◌, Option, Some, Ok, Err, Bool, true, false, not, refl, ap, sym, ◌∙◌, subst, zero, suc, inl, inr, ◌⊎◌, slice_get, length, arith}
use Rattle.std.specs.Option.{option_map, option_map_or}
use Rattle.flow_net.specs.declared.draft.End.{End}
use Rattle.flow_net.specs.declared.draft.DraftPort.{DraftPort}
use Rattle.flow_net.specs.declared.draft.DraftProcess.{DraftProcess}
use Rattle.flow_net.specs.declared.draft.Binding.TheVariants.{Free, Given}
use Rattle.flow_plan.specs.declared.kind.PortRef.{PortRef}
use Rattle.flow_net.specs.Drafts.{Draft, Answers, refused_if, binding_at, bound, updated}
use Rattle.flow_net.specs.Calls.{process_at, takes_text, process_of_name, end_of_port, is_taken, input_for, given, with_text, next_text}
use Rattle.flow_net.specs.Options.{FitsPort}
use Rattle.flow_net.specs.Sound.{IsSound, IsPort}
use Rattle.flow_net.specs.Initials.{AfterInitial}
use Rattle.flow_net.specs.declared.fault.PlanStop.{PlanStop}
use Rattle.flow_net.specs.declared.fault.PlanStop.TheVariants.{Fault, NoMemory}
use Rattle.flow_net.proofs.Places.{same_or_not, slice_get-updated_same, slice_get-updated_other, length-updated}
use Rattle.flow_net.proofs.Wiring.{Rebound-bound, SameOutline-bound}
use Rattle.flow_net.proofs.Steps.{GivesOne, GivesOne-updated, map_some, then_some}
use Rattle.flow_net.proofs.Listing.{IsListed-given, IsSided-given}
use Rattle.flow_net.proofs.Shapes.{IsShaped-bound, IsShaped-texted}
use Rattle.flow_net.proofs.Ends.{IsThere, IsThere-named, bind_ok, refused_ok, ok_or_ok, free_at}
use Rattle.flow_net.proofs.SoundJoins.{IsPort-bound}

-- An input that is there and free.
pub record IsOpen (ports : List DraftPort) (input : End) : Type 0 where
  pub receiver : ℕ
  pub there : IsThere ports receiver true input
  pub free : binding_at ports input ≡ Some Free
  pub takes : takes_text ports input ≡ true

not_false : (b : Bool) → not b ≡ false → b ≡ true
not_false true is = refl
not_false false is = sym is

-- An input that was found for a text is free.
pub IsOpen-for : (processes : List DraftProcess) (ports : List DraftPort) (n : ℕ) (to : List ℕ) (into : PortRef) (input : End) → ((g : ℕ) (p : DraftPort) → slice_get ports g ≡ Some p → IsPort n p) → input_for processes ports to into ≡ Ok input → IsOpen ports input
IsOpen-for processes ports n to into input all is =
    let receiver = bind_ok (process_of_name processes to) _ input is in
    let end = bind_ok (end_of_port ports receiver.0 true to into) _ input receiver.2 in
    let textual = bind_ok (refused_if (not (takes_text ports end.0)) _) _ input end.2 in
    let unbound = bind_ok (refused_if (is_taken (binding_at ports end.0)) _) _ input textual.2 in
    let same : end.0 ≡ input = cc (unbound.2) in
    let there = IsThere-named ports n receiver.0 true into end.0 all (ok_or_ok _ _ end.0 end.1) in
    subst (IsOpen ports) same
    (record {
      receiver = receiver.0;
      there = there;
      free = free_at ports end.0 there.bound (refused_ok _ _ unbound.0 unbound.1);
      takes = not_false (takes_text ports end.0) (refused_ok _ _ textual.0 textual.1);
    })

-- There is a member at each place within a list.
pub some_at : {X : Type 0} (xs : List X) (i : ℕ) → i < length xs → (x : X) × (slice_get xs i ≡ Some x)
some_at [] i within = absurd (omega arith)
some_at (x ∷ xs) zero within = (x, refl)
some_at (x ∷ xs) (suc i) within = some_at xs i (omega arith)

-- the process of an element that is there
pub process_at-within : (ports : List DraftPort) (n : ℕ) (end : End) → ((g : ℕ) (p : DraftPort) → slice_get ports g ≡ Some p → IsPort n p) → binding_at ports end ≡ Some Free → process_at ports end < n
process_at-within ports n end all is =
    let found = then_some (λ (p : DraftPort). slice_get p.elements end.element) (slice_get ports end.port) Free is in
    subst (λ (m : ℕ). m < n) (sym (ap (λ (o : Option DraftPort). option_map_or (λ (p : DraftPort). p.process) o 0) found.1)) (all end.port found.0 found.1).process

-- A text that is given keeps a draft sound.
pub IsSound-given : (draft : Draft) (text to : List ℕ) (into : PortRef) (input : End) → IsSound draft → input_for draft.processes draft.ports to into ≡ Ok input → FitsPort (slice_get draft.ports input.port) text → length text ≤ TEXT_LIMIT → IsSound (given draft input text)
IsSound-given draft text to into input sound ok fits short = record {
  kinds = sound.kinds;
  few_processes = omega (arith, count, sound.few_processes);
  few_ports = omega (arith, count, ports_count, sound.few_ports);
  few_links = sound.few_links;
  numbers = numbers;
  names = names;
  ports = subst (λ (n : ℕ). (g : ℕ) (port : DraftPort) → slice_get after g ≡ Some port → IsPort n port) (sym count) (IsPort-bound (length draft.processes) draft.ports input (Given (next_text (slice_get draft.processes p))) sound.ports);
  links = sound.links;
  listed = IsListed-given draft.ports after draft.processes texted draft.links p (next_text (slice_get draft.processes p)) input text sound.listed chosen.free refl (Rebound-bound draft.ports input (Given (next_text (slice_get draft.processes p))) chosen.there.bound) (SameOutline-bound draft.ports input (Given (next_text (slice_get draft.processes p)))) gives;
  sided = IsSided-given draft.ports after draft.processes texted draft.links p (next_text (slice_get draft.processes p)) input text sound.sided chosen.there.side fits short chosen.takes (SameOutline-bound draft.ports input (Given (next_text (slice_get draft.processes p)))) gives;
  shaped = IsShaped-texted draft.kinds draft.processes texted after (λ q b here. let old = was q b here in (old.0, old.1, old.4)) (IsShaped-bound draft.kinds draft.processes draft.ports input (Given (next_text (slice_get draft.processes p))) sound.shaped);
}
  where
    p : ℕ
    p = process_at draft.ports input

    chosen : IsOpen draft.ports input
    chosen = IsOpen-for draft.processes draft.ports (length draft.processes) to into input sound.ports ok

    found : (b : DraftProcess) × (slice_get draft.processes p ≡ Some b)
    found = some_at draft.processes p (process_at-within draft.ports (length draft.processes) input sound.ports chosen.free)

    texted : List DraftProcess
    texted = updated (with_text input text) draft.processes p

    after : List DraftPort
    after = bound draft.ports input (Given (next_text (slice_get draft.processes p)))

    ports_count : length after ≡ length draft.ports
    ports_count = length-updated _ draft.ports input.port

    count : length texted ≡ length draft.processes
    count = length-updated (with_text input text) draft.processes p

    gives : GivesOne draft.processes texted p (next_text (slice_get draft.processes p)) input text
    gives = subst (λ (k : ℕ). GivesOne draft.processes texted p k input text) (sym (ap next_text found.1)) (GivesOne-updated draft.processes p found.0 input text found.1)

    was : (q : ℕ) (b : DraftProcess) → slice_get texted q ≡ Some b → (old : DraftProcess) × (slice_get draft.processes q ≡ Some old) × (b.number ≡ old.number) × (b.name ≡ old.name) × (b.kind ≡ old.kind)
    was q b is = by (same_or_not q p)
      where
        by : (q ≡ p) ⊎ (q ≢ p) → (old : DraftProcess) × (slice_get draft.processes q ≡ Some old) × (b.number ≡ old.number) × (b.name ≡ old.name) × (b.kind ≡ old.kind)
        by (inl e) =
            let changed : slice_get texted q ≡ option_map (with_text input text) (slice_get draft.processes q) =
            ap (λ i. slice_get (updated (with_text input text) draft.processes i) q) (sym e) ∙ slice_get-updated_same (with_text input text) draft.processes q in
            let old = map_some (with_text input text) (slice_get draft.processes q) b (sym changed ∙ is) in
            (old.0, old.1, sym (ap (λ (x : DraftProcess). x.number) old.2), sym (ap (λ (x : DraftProcess). x.name) old.2), sym (ap (λ (x : DraftProcess). x.kind) old.2))
        by (inr ne) = (b, sym (slice_get-updated_other (with_text input text) draft.processes p q ne) ∙ is, refl, refl, refl)

    numbers : (q : ℕ) (b : DraftProcess) → slice_get texted q ≡ Some b → b.number ≡ q
    numbers q b is = let old = was q b is in old.2 ∙ sound.numbers q old.0 old.1

    names : (q r : ℕ) (b other : DraftProcess) → slice_get texted q ≡ Some b → slice_get texted r ≡ Some other → b.name ≡ other.name → q ≡ r
    names q r b other here there same =
        let old = was q b here in
        let before = was r other there in
        sound.names q r old.0 before.0 old.1 before.1 (sym old.3 ∙ same ∙ before.3)

-- a fault that comes before the text is looked at
pub Refuses-before : (draft : Draft) (text to : List ℕ) (into : PortRef) (stop : PlanStop) → Answers (input_for draft.processes draft.ports to into) (Err stop) → AfterInitial draft text to into (Err stop) draft
Refuses-before draft text to into (Fault fault) is = (inl is, refl)
Refuses-before draft text to into NoMemory is = refl
