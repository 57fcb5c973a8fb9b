-- A draft stays sound when a process begins.
use Rattle.std.proofs.Common.{◌≡◌, ◌≢◌, ℕ, ◌+◌, ◌<◌, ◌≤◌, List, [], ◌∷◌, ◌++◌, Option, Some, None, Ok, Bool, true, false, not, cond, ltb, refl, ap, sym, ◌∙◌, subst, zero, suc, inl, inr, ◌⊎◌, slice_get, length, arith, length-append}
use Rattle.std.specs.Prelude.{if◌then◌else◌, nat_le, position, is_some, replicate, codes}
use Rattle.std.specs.List.{find, position_or_len}
use Rattle.std.specs.Str.{bytes_eq}
use Rattle.std.specs.Option.{option_map, option_and_then, option_map_or, ok_or}
use Rattle.std.proofs.lemmas.Bool.{false≢true}
use Rattle.std.proofs.lemmas.Bool.Decides.{nat_tests}
use Rattle.std.proofs.lemmas.List.{length-replicate}
use Rattle.std.proofs.lemmas.Slice.Eq.{bytes_eq-Decides}
use Rattle.flow_net.specs.declared.draft.End.{End}
use Rattle.flow_net.specs.declared.draft.DraftPort.{DraftPort}
use Rattle.flow_net.specs.declared.draft.Link.{Link}
use Rattle.flow_net.specs.declared.draft.DraftProcess.{DraftProcess}
use Rattle.flow_net.specs.declared.draft.Binding.{Binding}
use Rattle.flow_net.specs.declared.draft.Binding.TheVariants.{Free, Receives, Sends, Given}
use Rattle.flow_plan.specs.declared.kind.KindSpec.{KindSpec}
use Rattle.flow_plan.specs.declared.kind.PortSpec.{PortSpec}
use Rattle.flow_plan.specs.Network.{is_stream}
use Rattle.flow_net.specs.Drafts.{Draft, refused_if, binding_at, process_named, is_stream_port}
use Rattle.flow_net.specs.Calls.{process_at, room_of, fresh_port, fresh_ports, begun_as, with_process, kind_named, kind_for}
use Rattle.flow_net.specs.Options.{FitsPort}
use Rattle.flow_net.specs.Kinds.{automatic, all_inputs, all_outputs, takes_texts}
use Rattle.flow_net.specs.Sound.{IsSound, IsKind, IsPort, IsListed, IsSided, text_at}
use Rattle.flow_net.proofs.Wiring.{slice_get-append_keeps, slice_get-push_cases}
use Rattle.flow_net.proofs.Steps.{map_some, then_some}
use Rattle.flow_net.proofs.Ends.{bind_ok, refused_ok, ok_or_ok}
use Rattle.flow_net.proofs.Freshes.{IsFresh, length-fresh_ports, fresh_ports-each}
use Rattle.flow_net.proofs.ShapesBegin.{IsShaped-begun}

-- what is found in a list stands in it
pub find_some : {X : Type 0} (p : X → Bool) (xs : List X) (x : X) → find p xs ≡ Some x → (k : ℕ) × (slice_get xs k ≡ Some x)
find_some p [] x is = absurd (cc)
find_some p (y ∷ xs) x is = by (p y) (λ later. find_some p xs x later) is
  where
    by : (b : Bool) → (find p xs ≡ Some x → (k : ℕ) × (slice_get xs k ≡ Some x)) → cond b (Some y) (find p xs) ≡ Some x → (k : ℕ) × (slice_get (y ∷ xs) k ≡ Some x)
    by true rest is = (0, is)
    by false rest is = let later = rest is in (suc later.0, later.1)

none_passes : {X : Type 0} (p : X → Bool) (xs : List X) → length xs ≤ position_or_len p xs → (i : ℕ) (x : X) → slice_get xs i ≡ Some x → p x ≡ false
none_passes p [] past i x is = absurd (cc)
none_passes {X} p (y ∷ xs) past i x is = by (p y) refl past (λ h j e. none_passes p xs h j x e)
  where
    at : p y ≡ false → ((j : ℕ) → slice_get xs j ≡ Some x → p x ≡ false) → (k : ℕ) → slice_get (y ∷ xs) k ≡ Some x → p x ≡ false
    at first rest zero e = let same : y ≡ x = cc in ap p (sym same) ∙ first
    at first rest (suc k) e = rest k e

    by : (b : Bool) → p y ≡ b → suc (length xs) ≤ cond (not b) (1 + position_or_len p xs) 0 → (length xs ≤ position_or_len p xs → (j : ℕ) → slice_get xs j ≡ Some x → p x ≡ false) → p x ≡ false
    by true test past rest = absurd (omega arith)
    by false test past rest = at test (rest (omega arith)) i is

-- where no first place passes, no element does
pub position_none : {X : Type 0} (p : X → Bool) (xs : List X) → is_some (position p xs) ≡ false → (i : ℕ) (x : X) → slice_get xs i ≡ Some x → p x ≡ false
position_none p xs none = by (ltb (position_or_len p xs) (length xs)) refl none
  where
    by : (b : Bool) → ltb (position_or_len p xs) (length xs) ≡ b → is_some (cond b (Some (position_or_len p xs)) None) ≡ false → (i : ℕ) (x : _) → slice_get xs i ≡ Some x → p x ≡ false
    by true test none = absurd (false≢true (sym none))
    by false test none = none_passes p xs (grind (arith, nat_tests, test))

-- an element of two lists joined stands in one of them
pub slice_get-append_cases : {X : Type 0} (xs ys : List X) (i : ℕ) (x : X) → slice_get (xs ++ ys) i ≡ Some x → (slice_get xs i ≡ Some x) ⊎ ((k : ℕ) × (slice_get ys k ≡ Some x))
slice_get-append_cases [] ys i x is = inr (i, is)
slice_get-append_cases (y ∷ xs) ys zero x is = inl is
slice_get-append_cases (y ∷ xs) ys (suc i) x is = slice_get-append_cases xs ys i x is

replicated : {X : Type 0} (n : ℕ) (x y : X) (i : ℕ) → slice_get (replicate n x) i ≡ Some y → x ≡ y
replicated zero x y i is = absurd (cc)
replicated (suc n) x y zero is = cc
replicated (suc n) x y (suc i) is = replicated n x y i is

fresh_input : (n place : ℕ) (spec : PortSpec) → (takes_texts spec ≡ true) ⊎ (spec ≡ automatic (codes "*IN")) → (spec.array ≡ true → spec.needed ≡ true) → (is_stream spec.class ≡ false → spec.array ≡ false) → IsPort (n + 1) (fresh_port n true place spec)
fresh_input n place spec needed arrays single = record {
  process = omega arith;
  room = length-replicate (room_of spec.array) Free;
  input = λ side. needed;
  array = arrays;
  single = single;
  output = λ side. absurd (false≢true (sym side));
}

fresh_output : (n place : ℕ) (spec : PortSpec) → (spec.array ≡ true → spec.needed ≡ true) → IsPort (n + 1) (fresh_port n false place spec)
fresh_output n place spec needed = record {
  process = omega arith;
  room = length-replicate (room_of spec.array) Free;
  input = λ side. absurd (false≢true side);
  array = needed;
  single = λ option. absurd (false≢true (sym option));
  output = λ side. refl;
}

-- an array that takes texts is one for packets, and so needed
array-needed : (spec : PortSpec) → takes_texts spec ≡ true → (is_stream spec.class ≡ false → spec.array ≡ false) → spec.array ≡ true → spec.needed ≡ true
array-needed spec takes single array = by (is_stream spec.class) takes single
  where
    by : (b : Bool) → (if b then spec.needed else true) ≡ true → (b ≡ false → spec.array ≡ false) → spec.needed ≡ true
    by true takes single = takes
    by false takes single = absurd (false≢true (sym (single refl) ∙ array))

-- an entry of the inputs is one of the kind, or the automatic input
input_entry : (kind : KindSpec) → IsKind kind → (i : ℕ) (spec : PortSpec) → slice_get (all_inputs kind.inputs) i ≡ Some spec
    → ((takes_texts spec ≡ true) ⊎ (spec ≡ automatic (codes "*IN"))) × (spec.array ≡ true → spec.needed ≡ true) × (is_stream spec.class ≡ false → spec.array ≡ false)
input_entry kind is_kind i spec here = by (slice_get-push_cases kind.inputs (automatic (codes "*IN")) spec i here)
  where
    by : (slice_get kind.inputs i ≡ Some spec) ⊎ ((i ≡ length kind.inputs) × (automatic (codes "*IN") ≡ spec)) → ((takes_texts spec ≡ true) ⊎ (spec ≡ automatic (codes "*IN"))) × (spec.array ≡ true → spec.needed ≡ true) × (is_stream spec.class ≡ false → spec.array ≡ false)
    by (inl old) = (inl (is_kind.take_texts i spec old), array-needed spec (is_kind.take_texts i spec old) (is_kind.single_options i spec old), is_kind.single_options i spec old)
    by (inr last) = (inr (sym last.1), (λ array. absurd (false≢true (ap (λ (s : PortSpec). s.array) last.1 ∙ array))), (λ option. sym (ap (λ (s : PortSpec). s.array) last.1)))

output_entry : (kind : KindSpec) → IsKind kind → (i : ℕ) (spec : PortSpec) → slice_get (all_outputs kind.outputs) i ≡ Some spec → spec.array ≡ true → spec.needed ≡ true
output_entry kind is_kind i spec here array = by (slice_get-push_cases kind.outputs (automatic (codes "*OUT")) spec i here)
  where
    by : (slice_get kind.outputs i ≡ Some spec) ⊎ ((i ≡ length kind.outputs) × (automatic (codes "*OUT") ≡ spec)) → spec.needed ≡ true
    by (inl old) = is_kind.arrays_needed i spec old array
    by (inr last) = absurd (false≢true (ap (λ (s : PortSpec). s.array) last.1 ∙ array))

pub IsPort-fresh : (n : ℕ) (kind : KindSpec) → IsKind kind → (g : ℕ) (port : DraftPort) → slice_get (fresh_ports n true 0 (all_inputs kind.inputs) ++ fresh_ports n false 0 (all_outputs kind.outputs)) g ≡ Some port → IsPort (n + 1) port
IsPort-fresh n kind is_kind g port is = by (slice_get-append_cases (fresh_ports n true 0 (all_inputs kind.inputs)) (fresh_ports n false 0 (all_outputs kind.outputs)) g port is)
  where
    by : (slice_get (fresh_ports n true 0 (all_inputs kind.inputs)) g ≡ Some port) ⊎ ((k : ℕ) × (slice_get (fresh_ports n false 0 (all_outputs kind.outputs)) k ≡ Some port)) → IsPort (n + 1) port
    by (inl input) =
        let fresh = fresh_ports-each n true 0 (all_inputs kind.inputs) g port input in
        subst (IsPort (n + 1)) fresh.whole (fresh_input n fresh.place fresh.spec (input_entry kind is_kind fresh.entry fresh.spec fresh.here).0 (input_entry kind is_kind fresh.entry fresh.spec fresh.here).1 (input_entry kind is_kind fresh.entry fresh.spec fresh.here).2)
    by (inr output) =
        let fresh = fresh_ports-each n false 0 (all_outputs kind.outputs) output.0 port output.1 in
        subst (IsPort (n + 1)) fresh.whole (fresh_output n fresh.place fresh.spec (output_entry kind is_kind fresh.entry fresh.spec fresh.here))

free_fresh : (p : ℕ) (s : Bool) (specs : List PortSpec) (port : DraftPort) → IsFresh p s specs port → (e : ℕ) (b : Binding) → slice_get port.elements e ≡ Some b → b ≡ Free
free_fresh p s specs port fresh e b is =
    sym (replicated (room_of fresh.spec.array) Free b e (ap (λ (q : DraftPort). slice_get q.elements e) fresh.whole ∙ is))

-- the elements of new ports are free
pub free-fresh : (n : ℕ) (kind : KindSpec) (g : ℕ) (port : DraftPort) → slice_get (fresh_ports n true 0 (all_inputs kind.inputs) ++ fresh_ports n false 0 (all_outputs kind.outputs)) g ≡ Some port → (e : ℕ) (b : Binding) → slice_get port.elements e ≡ Some b → b ≡ Free
free-fresh n kind g port is = by (slice_get-append_cases (fresh_ports n true 0 (all_inputs kind.inputs)) (fresh_ports n false 0 (all_outputs kind.outputs)) g port is)
  where
    by : (slice_get (fresh_ports n true 0 (all_inputs kind.inputs)) g ≡ Some port) ⊎ ((k : ℕ) × (slice_get (fresh_ports n false 0 (all_outputs kind.outputs)) k ≡ Some port)) → (e : ℕ) (b : Binding) → slice_get port.elements e ≡ Some b → b ≡ Free
    by (inl input) = free_fresh n true (all_inputs kind.inputs) port (fresh_ports-each n true 0 (all_inputs kind.inputs) g port input)
    by (inr output) = free_fresh n false (all_outputs kind.outputs) port (fresh_ports-each n false 0 (all_outputs kind.outputs) output.0 port output.1)

-- more ports with free elements, and one more process without texts, leave every binding and every text as it was
module _ (ports more : List DraftPort) (processes : List DraftProcess) (links : List Link) (begun : DraftProcess)
    (free : (g : ℕ) (port : DraftPort) → slice_get more g ≡ Some port → (e : ℕ) (b : Binding) → slice_get port.elements e ≡ Some b → b ≡ Free)
    (textless : begun.texts ≡ []) where
  kept : (end : End) (b : Binding) → binding_at ports end ≡ Some b → binding_at (ports ++ more) end ≡ Some b
  kept end b is =
      let found = then_some (λ (port : DraftPort). slice_get port.elements end.element) (slice_get ports end.port) b is in
      ap (option_and_then (λ (port : DraftPort). slice_get port.elements end.element)) (slice_get-append_keeps ports more end.port found.0 found.1) ∙ found.2

  port_kept : (end : End) (b : Binding) → binding_at ports end ≡ Some b → slice_get (ports ++ more) end.port ≡ slice_get ports end.port
  port_kept end b is =
      let found = then_some (λ (port : DraftPort). slice_get port.elements end.element) (slice_get ports end.port) b is in
      slice_get-append_keeps ports more end.port found.0 found.1 ∙ sym found.1

  owner_kept : (end : End) (b : Binding) → binding_at ports end ≡ Some b → process_at (ports ++ more) end ≡ process_at ports end
  owner_kept end b is = ap (λ (o : Option DraftPort). option_map_or (λ (port : DraftPort). port.process) o 0) (port_kept end b is)

  was : (end : End) (b : Binding) → b ≢ Free → binding_at (ports ++ more) end ≡ Some b → binding_at ports end ≡ Some b
  was end b ne is = by (slice_get-append_cases ports more end.port found.0 found.1)
    where
      found : (port : DraftPort) × (slice_get (ports ++ more) end.port ≡ Some port) × (slice_get port.elements end.element ≡ Some b)
      found = then_some (λ (port : DraftPort). slice_get port.elements end.element) (slice_get (ports ++ more) end.port) b is

      by : (slice_get ports end.port ≡ Some found.0) ⊎ ((k : ℕ) × (slice_get more k ≡ Some found.0)) → binding_at ports end ≡ Some b
      by (inl old) = ap (option_and_then (λ (port : DraftPort). slice_get port.elements end.element)) old ∙ found.2
      by (inr new) = absurd (ne (free new.0 found.0 new.1 end.element b found.2))

  text_kept : (p k : ℕ) (x : End × List ℕ) → text_at processes p k ≡ Some x → text_at (processes ++ begun ∷ []) p k ≡ Some x
  text_kept p k x is =
      let found = then_some (λ (b : DraftProcess). slice_get b.texts k) (slice_get processes p) x is in
      ap (option_and_then (λ (b : DraftProcess). slice_get b.texts k)) (slice_get-append_keeps processes (begun ∷ []) p found.0 found.1) ∙ found.2

  text_was : (p k : ℕ) (x : End × List ℕ) → text_at (processes ++ begun ∷ []) p k ≡ Some x → text_at processes p k ≡ Some x
  text_was p k x is = by (slice_get-push_cases processes begun found.0 p found.1)
    where
      found : (b : DraftProcess) × (slice_get (processes ++ begun ∷ []) p ≡ Some b) × (slice_get b.texts k ≡ Some x)
      found = then_some (λ (b : DraftProcess). slice_get b.texts k) (slice_get (processes ++ begun ∷ []) p) x is

      by : (slice_get processes p ≡ Some found.0) ⊎ ((p ≡ length processes) × (begun ≡ found.0)) → text_at processes p k ≡ Some x
      by (inl old) = ap (option_and_then (λ (b : DraftProcess). slice_get b.texts k)) old ∙ found.2
      by (inr new) =
          let empty : found.0.texts ≡ [] = sym (ap (λ (b : DraftProcess). b.texts) new.1) ∙ textless in
          let there : slice_get [] k ≡ Some x = subst (λ (xs : List (End × List ℕ)). slice_get xs k ≡ Some x) empty found.2 in
          absurd (cc)

  pub IsListed-begun : IsListed ports processes links → IsListed (ports ++ more) (processes ++ begun ∷ []) links
  IsListed-begun listed = record {
    receives = λ end c h. listed.receives end c (was end (Receives c) (λ e. cc) h);
    received = λ end c h. kept end (Receives c) (listed.received end c h);
    sends = λ end c k h. listed.sends end c k (was end (Sends c k) (λ e. cc) h);
    sent = λ end c k h. kept end (Sends c k) (listed.sent end c k h);
    has = has;
    given = λ p k end text h.
        let old = listed.given p k end text (text_was p k (end, text) h) in
        (kept end (Given k) old.0, owner_kept end (Given k) old.0 ∙ old.1);
  }
    where
      has : (end : End) (k : ℕ) → binding_at (ports ++ more) end ≡ Some (Given k) → option_map (λ (text : End × List ℕ). text.0) (text_at (processes ++ begun ∷ []) (process_at (ports ++ more) end) k) ≡ Some end
      has end k h =
          let old : binding_at ports end ≡ Some (Given k) = was end (Given k) (λ e. cc) h in
          let text = map_some (λ (text : End × List ℕ). text.0) (text_at processes (process_at ports end) k) end (listed.has end k old) in
          ap (λ p. option_map (λ (text : End × List ℕ). text.0) (text_at (processes ++ begun ∷ []) p k)) (owner_kept end (Given k) old)
          ∙ ap (option_map (λ (text : End × List ℕ). text.0)) (text_kept (process_at ports end) k text.0 text.1)
          ∙ ap Some text.2

  pub IsSided-begun : IsListed ports processes links → IsSided ports processes links → IsSided (ports ++ more) (processes ++ begun ∷ []) links
  IsSided-begun listed sided = record {
    into = λ c end h.
        let old = sided.into c end h in
        let port = port_kept end (Receives c) (listed.received end c h) in
        (ap (option_map (λ (p : DraftPort). p.input)) port ∙ old.0, ap is_stream_port port ∙ old.1);
    sender = λ c k end h. ap (option_map (λ (p : DraftPort). p.input)) (port_kept end (Sends c k) (listed.sent end c k h)) ∙ sided.sender c k end h;
    text = λ p k end text h.
        let there = text_was p k (end, text) h in
        let old = sided.text p k end text there in
        let port = port_kept end (Given k) (listed.given p k end text there).0 in
        (ap (option_map (λ (q : DraftPort). q.input)) port ∙ old.0, subst (λ (o : Option DraftPort). FitsPort o text) (sym port) old.1, old.2, ap (λ (o : Option DraftPort). option_map_or (λ (q : DraftPort). takes_texts q.spec) o false) port ∙ old.3);
  }

more_processes : (n : ℕ) (port : DraftPort) → IsPort n port → IsPort (n + 1) port
more_processes n port is = record {
  process = omega (arith, is.process);
  room = is.room;
  input = is.input;
  array = is.array;
  single = is.single;
  output = is.output;
}

-- A kind that a new process may have.
pub record KindFor (kinds : List KindSpec) (processes : List DraftProcess) (name : List ℕ) (kind : KindSpec) : Type 0 where
  pub new : (p : ℕ) (begun : DraftProcess) → slice_get processes p ≡ Some begun → begun.name ≢ name
  pub place : ℕ
  pub here : slice_get kinds place ≡ Some kind
  pub room : length processes < 128

-- A kind that was found is one of the table, under a name that is free.
pub KindFor-ok : (kinds : List KindSpec) (processes : List DraftProcess) (name wanted : List ℕ) (kind : KindSpec) → kind_for kinds processes name wanted ≡ Ok kind → KindFor kinds processes name kind
KindFor-ok kinds processes name wanted kind is =
    let new = bind_ok (refused_if (is_some (process_named processes name)) _) _ kind is in
    let spec = bind_ok (ok_or (kind_named kinds wanted) _) _ kind new.2 in
    let room = bind_ok (refused_if (nat_le 128 (length processes)) _) _ kind spec.2 in
    let same : spec.0 ≡ kind = cc (room.2) in
    let found = find_some (λ (k : KindSpec). bytes_eq k.name wanted) kinds spec.0 (ok_or_ok _ _ spec.0 spec.1) in
    let test : nat_le 128 (length processes) ≡ false = refused_ok _ _ room.0 room.1 in
    record {
      new = λ p begun here same_name.
          let apart : bytes_eq begun.name name ≡ false = position_none (λ (b : DraftProcess). bytes_eq b.name name) processes (refused_ok _ _ new.0 new.1) p begun here in
          let equal : bytes_eq begun.name name ≡ true = (bytes_eq-Decides begun.name name).1 same_name in
          false≢true (sym apart ∙ equal);
      place = found.0;
      here = found.1 ∙ ap Some same;
      room = grind (arith, nat_tests, test);
    }

-- A process that is begun keeps a draft sound.
pub IsSound-begun : (draft : Draft) (name wanted : List ℕ) (kind : KindSpec) → IsSound draft → kind_for draft.kinds draft.processes name wanted ≡ Ok kind → IsSound (with_process draft name kind)
IsSound-begun draft name wanted kind sound ok = record {
  kinds = sound.kinds;
  few_processes = omega (arith, length-append draft.processes (begun ∷ []), chosen.room);
  few_ports = omega (arith, length-append draft.processes (begun ∷ []), length-append draft.ports more, length-append (fresh_ports n true 0 (all_inputs kind.inputs)) (fresh_ports n false 0 (all_outputs kind.outputs)), length-fresh_ports n true 0 (all_inputs kind.inputs), length-fresh_ports n false 0 (all_outputs kind.outputs), length-append kind.inputs (automatic (codes "*IN") ∷ []), length-append kind.outputs (automatic (codes "*OUT") ∷ []), is_kind.few_inputs, is_kind.few_outputs, sound.few_ports);
  few_links = sound.few_links;
  numbers = numbers;
  names = names;
  ports = ports;
  links = sound.links;
  listed = IsListed-begun draft.ports more draft.processes draft.links begun (free-fresh n kind) refl sound.listed;
  sided = IsSided-begun draft.ports more draft.processes draft.links begun (free-fresh n kind) refl sound.listed sound.sided;
  shaped = IsShaped-begun draft.kinds draft.processes draft.ports name chosen.place kind chosen.here sound.shaped (λ g port here. (sound.ports g port here).process);
}
  where
    n : ℕ
    n = length draft.processes

    begun : DraftProcess
    begun = begun_as n name kind.name

    more : List DraftPort
    more = fresh_ports n true 0 (all_inputs kind.inputs) ++ fresh_ports n false 0 (all_outputs kind.outputs)

    chosen : KindFor draft.kinds draft.processes name kind
    chosen = KindFor-ok draft.kinds draft.processes name wanted kind ok

    is_kind : IsKind kind
    is_kind = sound.kinds chosen.place kind chosen.here

    one_more : length (draft.processes ++ begun ∷ []) ≡ n + 1
    one_more = omega (arith, length-append draft.processes (begun ∷ []))

    numbers : (p : ℕ) (b : DraftProcess) → slice_get (draft.processes ++ begun ∷ []) p ≡ Some b → b.number ≡ p
    numbers p b is = by (slice_get-push_cases draft.processes begun b p is)
      where
        by : (slice_get draft.processes p ≡ Some b) ⊎ ((p ≡ length draft.processes) × (begun ≡ b)) → b.number ≡ p
        by (inl old) = sound.numbers p b old
        by (inr last) = sym (ap (λ (x : DraftProcess). x.number) last.1) ∙ sym last.0

    names : (p q : ℕ) (b other : DraftProcess) → slice_get (draft.processes ++ begun ∷ []) p ≡ Some b → slice_get (draft.processes ++ begun ∷ []) q ≡ Some other → b.name ≡ other.name → p ≡ q
    names p q b other here there same = by (slice_get-push_cases draft.processes begun b p here) (slice_get-push_cases draft.processes begun other q there)
      where
        by : (slice_get draft.processes p ≡ Some b) ⊎ ((p ≡ length draft.processes) × (begun ≡ b)) → (slice_get draft.processes q ≡ Some other) ⊎ ((q ≡ length draft.processes) × (begun ≡ other)) → p ≡ q
        by (inl old) (inl earlier) = sound.names p q b other old earlier same
        by (inl old) (inr last) = absurd (chosen.new p b old (same ∙ sym (ap (λ (x : DraftProcess). x.name) last.1)))
        by (inr last) (inl old) = absurd (chosen.new q other old (sym same ∙ sym (ap (λ (x : DraftProcess). x.name) last.1)))
        by (inr last) (inr end) = last.0 ∙ sym end.0

    ports : (g : ℕ) (port : DraftPort) → slice_get (draft.ports ++ more) g ≡ Some port → IsPort (length (draft.processes ++ begun ∷ [])) port
    ports g port is = subst (λ (m : ℕ). IsPort m port) (sym one_more) (by (slice_get-append_cases draft.ports more g port is))
      where
        by : (slice_get draft.ports g ≡ Some port) ⊎ ((k : ℕ) × (slice_get more k ≡ Some port)) → IsPort (n + 1) port
        by (inl old) = more_processes n port (sound.ports g port old)
        by (inr new) = IsPort-fresh n kind is_kind new.0 port new.1
