-- The options and the rows of the plan of a sound draft without a fault.
use Rattle.flow_limits.specs.declared.TheConstants.{TEXT_LIMIT}
use Rattle.std.proofs.Common.{◌≡◌, ℕ, ◌<◌, ◌≤◌, List, Option, Some, Ok, Bool, true, false, map, ap, sym, ◌∙◌, subst, slice_get, length, take, arith}
use Rattle.std.specs.Prelude.{◌==◌, ◌&&◌, if◌then◌else◌, codes}
use Rattle.std.specs.Option.{option_map, option_map_or, option_and_then}
use Rattle.std.specs.List.{sum_by}
use Rattle.std.proofs.lemmas.Bool.{false≢true}
use Rattle.std.proofs.lemmas.Option.{slice_get-map, slice_get_within}
use Rattle.flow_net.specs.declared.draft.End.{End}
use Rattle.flow_net.specs.declared.draft.DraftPort.{DraftPort}
use Rattle.flow_net.specs.declared.draft.DraftProcess.{DraftProcess}
use Rattle.flow_net.specs.declared.draft.Binding.{Binding}
use Rattle.flow_net.specs.declared.draft.Binding.TheVariants.{Free, Receives, Sends, Given}
use Rattle.flow_plan.specs.declared.plan.Process.{Process}
use Rattle.flow_plan.specs.declared.plan.PortRow.{PortRow}
use Rattle.flow_plan.specs.declared.plan.PortTable.{PortTable}
use Rattle.flow_plan.specs.Network.{Network, is_stream}
use Rattle.flow_net.specs.Drafts.{Draft, binding_at, is_free, is_side, is_stream_at, is_stream_port, same}
use Rattle.flow_net.specs.Calls.{process_at, room_of, takes_text}
use Rattle.flow_plan.specs.Texts.{IsOfClass}
use Rattle.flow_plan.specs.Templates.{TemplatesFit}
use Rattle.flow_net.specs.Options.{FitsPort}
use Rattle.flow_net.specs.Sound.{IsSound, on_side, text_at, is_input_at}
use Rattle.flow_net.specs.Finishes.{first_fault, name_of, place_at, process_of, plan_of, row_of, rows_of, front, table_of}
use Rattle.flow_plan.specs.Valid.{HasOptionPort, NeedsOption, HasOption, FitsOption, HasOptions, IsRow, HasRows}
use Rattle.flow_net.proofs.Wiring.{same_end}
use Rattle.flow_net.proofs.Steps.{map_some, then_some}
use Rattle.flow_net.proofs.Ends.{and_true, same_true, eqb_true}
use Rattle.flow_net.proofs.Sides.{eqb_refl}
use Rattle.flow_net.proofs.Numbers.{number-same}
use Rattle.flow_net.proofs.Wholes.{IsBound, each_bound, no_fault}
use Rattle.flow_net.proofs.Rows.{mapped, FromPort, row_from, row_there, entries-rows, IsRow-of, IsRow-some}
use Rattle.flow_net.proofs.Lasts.{get-front, row-front}
use Rattle.flow_net.specs.Kinds.{automatic}
use Rattle.flow_plan.specs.declared.kind.PortSpec.{PortSpec}
use Rattle.flow_net.proofs.OptionTexts.{option_there, option_from, option_once}

-- A text at an option port of a process: the port stands at this place in the process's inputs, and the text is of its class.
record AtOption (draft : Draft) (p i k : ℕ) (end : End) (text : List ℕ) : Type 0 where
  pub port : DraftPort
  pub here : slice_get draft.ports end.port ≡ Some port
  pub within : end.element < length port.elements
  pub side : is_side p true port ≡ true
  pub option : is_stream port.spec.class ≡ false
  pub before : sum_by (on_side p true) (take end.port draft.ports) ≡ i
  pub row : slice_get (rows_of draft.ports p true) i ≡ Some (row_of port)
  pub bound : binding_at draft.ports end ≡ Some (Given k)
  pub class : IsOfClass port.spec.class text
  pub short : length text ≤ TEXT_LIMIT

AtOption-text : (draft : Draft) → IsSound draft → (p i k : ℕ) (end : End) (text : List ℕ) → text_at draft.processes p k ≡ Some (end, text) → is_stream_at draft.ports end ≡ false → place_at draft.ports end ≡ i → AtOption draft p i k end text
AtOption-text draft sound p i k end text is option at = record {
  port = port;
  here = here;
  within = slice_get_within port.elements end.element (Given k) found.2;
  side = side;
  option = sym (ap is_stream_port here) ∙ option;
  before = before;
  row = subst (λ (m : ℕ). slice_get (rows_of draft.ports p true) m ≡ Some (row_of port)) before (row_there draft.ports end.port p true port here side);
  bound = given.0;
  class = subst (λ (o : Option DraftPort). FitsPort o text) here sided.1;
  short = sided.2;
}
  where
    given : (binding_at draft.ports end ≡ Some (Given k)) × (process_at draft.ports end ≡ p)
    given = sound.listed.given p k end text is

    sided : (is_input_at draft.ports end ≡ Some true) × FitsPort (slice_get draft.ports end.port) text × (length text ≤ TEXT_LIMIT) × (takes_text draft.ports end ≡ true)
    sided = sound.sided.text p k end text is

    found : (q : DraftPort) × (slice_get draft.ports end.port ≡ Some q) × (slice_get q.elements end.element ≡ Some (Given k))
    found = then_some (λ (q : DraftPort). slice_get q.elements end.element) (slice_get draft.ports end.port) (Given k) given.0

    port : DraftPort
    port = found.0

    here : slice_get draft.ports end.port ≡ Some port
    here = found.1

    owner : port.process ≡ p
    owner = sym (ap (λ (o : Option DraftPort). option_map_or (λ (q : DraftPort). q.process) o 0) here) ∙ given.1

    input : port.input ≡ true
    input =
        let both : Some port.input ≡ Some true = sym (ap (option_map (λ (q : DraftPort). q.input)) here) ∙ sided.0 in
        cc

    side : is_side p true port ≡ true
    side =
        ap (λ (m : ℕ). (m == p) && same port.input true) owner
        ∙ ap (λ (b : Bool). (p == p) && same b true) input
        ∙ ap (λ (b : Bool). b && same true true) (eqb_refl p)

    before : sum_by (on_side p true) (take end.port draft.ports) ≡ i
    before =
        ap (λ (m : ℕ). sum_by (on_side m true) (take end.port draft.ports)) (sym owner)
        ∙ ap (λ (b : Bool). sum_by (on_side port.process b) (take end.port draft.ports)) (sym input)
        ∙ sym (sound.shaped.places end.port port here)
        ∙ sym (ap (λ (o : Option DraftPort). option_map_or (λ (q : DraftPort). q.place) o 0) here)
        ∙ at

module _ (draft : Draft) (sound : IsSound draft) (u : Unit {0}) (whole : first_fault draft.processes draft.ports ≡ Ok u) where
  network : Network
  network = plan_of draft

  process_in_plan : (p : ℕ) (x : Process) → slice_get (map (process_of draft.ports) draft.processes) p ≡ Some x → (b : DraftProcess) × (slice_get draft.processes p ≡ Some b) × (process_of draft.ports b ≡ x)
  process_in_plan p x here = mapped (process_of draft.ports) draft.processes p x here

  -- a row of a table of the plan, as the draft has it
  table_row : (p i : ℕ) (table : PortTable) (row : PortRow) → slice_get (map (table_of draft.ports) draft.processes) p ≡ Some table → slice_get table.inputs i ≡ Some row → slice_get (rows_of draft.ports p true) i ≡ Some row
  table_row p i table row here at =
      let found = mapped (table_of draft.ports) draft.processes p table here in
      ap (λ (m : ℕ). slice_get (rows_of draft.ports m true) i) (sym (sound.numbers p found.0 found.1))
      ∙ get-front (rows_of draft.ports found.0.number true) i row (ap (λ (t : PortTable). slice_get t.inputs i) found.2 ∙ at)

  output_row : (p i : ℕ) (table : PortTable) (row : PortRow) → slice_get (map (table_of draft.ports) draft.processes) p ≡ Some table → slice_get table.outputs i ≡ Some row → slice_get (rows_of draft.ports p false) i ≡ Some row
  output_row p i table row here at =
      let found = mapped (table_of draft.ports) draft.processes p table here in
      ap (λ (m : ℕ). slice_get (rows_of draft.ports m false) i) (sym (sound.numbers p found.0 found.1))
      ∙ get-front (rows_of draft.ports found.0.number false) i row (ap (λ (t : PortTable). slice_get t.outputs i) found.2 ∙ at)

  row_sized : (p : ℕ) (s : Bool) (i : ℕ) (row : PortRow) → FromPort draft.ports p s i row → IsRow row
  row_sized p s i row from =
      subst IsRow from.is (IsRow-of (length draft.processes) (name_of draft.processes from.port.process) from.port (sound.ports from.number from.port from.here) (no_fault draft.processes draft.ports u whole from.number from.port from.here))

  pub HasRows-plan : HasRows (plan_of draft)
  HasRows-plan = record {
    inputs = λ p i table row here at. row_sized p true i row (row_from draft.ports p true i row (table_row p i table row here at));
    outputs = λ p i table row here at. row_sized p false i row (row_from draft.ports p false i row (output_row p i table row here at));
  }

  text_in_draft : (p k : ℕ) (b : DraftProcess) (x : End × List ℕ) → slice_get draft.processes p ≡ Some b → slice_get b.texts k ≡ Some x → text_at draft.processes p k ≡ Some x
  text_in_draft p k b x here is = ap (option_and_then (λ (c : DraftProcess). slice_get c.texts k)) here ∙ is

  -- an automatic port is no option
  streams : (port : DraftPort) → port.spec ≡ automatic (codes "*IN") → is_stream port.spec.class ≡ false → ⊥
  streams port same option = false≢true (sym option ∙ ap (λ (spec : PortSpec). is_stream spec.class) same)

  fits : (p k i : ℕ) (x : Process) (text : List ℕ) → slice_get (map (process_of draft.ports) draft.processes) p ≡ Some x → slice_get x.options k ≡ Some (i, text) → FitsOption (plan_of draft) p i text
  fits p k i x text here given =
      let found = process_in_plan p x here in
      let from = option_from draft.ports found.0.texts k i text (ap (λ (z : Process). slice_get z.options k) found.2 ∙ given) in
      let at = AtOption-text draft sound p i from.place from.end text (text_in_draft p from.place found.0 (from.end, text) found.1 from.here) from.option from.at in
      record {
        port = record {
          table = table_of draft.ports found.0;
          row = row_of at.port;
          here = slice_get-map (table_of draft.ports) draft.processes p ∙ ap (option_map (table_of draft.ports)) found.1;
          at =
              ap (λ (m : ℕ). slice_get (front (rows_of draft.ports m true)) i) (sound.numbers p found.0 found.1)
              ∙ row-front (rows_of draft.ports p true) (sound.shaped.each p found.0 found.1).kind.inputs (automatic (codes "*IN")) i (row_of at.port)
              (entries-rows draft.ports p true ∙ (sound.shaped.each p found.0 found.1).inputs) (λ same. streams at.port same at.option) at.row;
          option = at.option;
        };
        class = at.class;
        short = at.short;
      }

  one_option : (p k l i : ℕ) (x : Process) (text other : List ℕ) → slice_get (map (process_of draft.ports) draft.processes) p ≡ Some x → slice_get x.options k ≡ Some (i, text) → slice_get x.options l ≡ Some (i, other) → k ≡ l
  one_option p k l i x text other here given too =
      let found = process_in_plan p x here in
      option_once draft.ports found.0.texts i (once found.0 found.1) k l text other (ap (λ (z : Process). slice_get z.options k) found.2 ∙ given) (ap (λ (z : Process). slice_get z.options l) found.2 ∙ too)
    where
      first_element : (m : ℕ) (end : End) (words : List ℕ) → AtOption draft p i m end words → end.element ≡ 0
      first_element m end words at =
          let is = sound.ports end.port at.port at.here in
          let room : length at.port.elements ≡ 1 = is.room ∙ ap room_of (is.single at.option) in
          omega (arith, room, at.within)

      once : (b : DraftProcess) → slice_get draft.processes p ≡ Some b → (m o : ℕ) (a c : End × List ℕ) → slice_get b.texts m ≡ Some a → slice_get b.texts o ≡ Some c → is_stream_at draft.ports a.0 ≡ false → is_stream_at draft.ports c.0 ≡ false → place_at draft.ports a.0 ≡ i → place_at draft.ports c.0 ≡ i → m ≡ o
      once b begun m o a c at there option too_option place too_place =
          let first = AtOption-text draft sound p i m a.0 a.1 (text_in_draft p m b a begun at) option place in
          let second = AtOption-text draft sound p i o c.0 c.1 (text_in_draft p o b c begun there) too_option too_place in
          let one : on_side p true first.port ≡ 1 = ap (λ (t : Bool). if t then 1 else 0) first.side in
          let two : on_side p true second.port ≡ 1 = ap (λ (t : Bool). if t then 1 else 0) second.side in
          let ports = number-same (on_side p true) draft.ports a.0.port 0 c.0.port 0 first.port second.port first.here second.here (omega (arith, one)) (omega (arith, two)) (omega (arith, first.before, second.before)) in
          let ends : a.0 ≡ c.0 = same_end a.0 c.0 ports.0 (first_element m a.0 a.1 first ∙ sym (first_element o c.0 c.1 second)) in
          let both : Some (Given m) ≡ Some (Given o) = sym first.bound ∙ ap (binding_at draft.ports) ends ∙ second.bound in
          cc

  each_option : (p i : ℕ) → NeedsOption (plan_of draft) p i → HasOption (plan_of draft) p i
  each_option p i needs = by bound.binding binding bound.taken
    where
      port : HasOptionPort (plan_of draft) p i
      port = needs.port

      from : FromPort draft.ports p true i port.row
      from = row_from draft.ports p true i port.row (table_row p i port.table port.row port.here port.at)

      end : End
      end = record { port = from.number; element = 0 }

      side : ((from.port.process == p) ≡ true) × (same from.port.input true ≡ true)
      side = and_true (from.port.process == p) (same from.port.input true) from.side

      input : from.port.input ≡ true
      input = same_true from.port.input true side.1

      needed : from.port.spec.needed ≡ true
      needed = ap (λ (r : PortRow). r.spec.needed) from.is ∙ needs.needed

      some : 1 ≤ (row_of from.port).elements
      some = IsRow-some (row_of from.port) (subst IsRow (sym from.is) (row_sized p true i port.row from))

      bound : IsBound from.port.elements 0
      bound = each_bound (name_of draft.processes from.port.process) from.port 0 needed (no_fault draft.processes draft.ports u whole from.number from.port from.here) (omega (arith, some))

      binding : binding_at draft.ports (record { port = from.number; element = 0 }) ≡ Some bound.binding
      binding = ap (option_and_then (λ (q : DraftPort). slice_get q.elements 0)) from.here ∙ bound.here

      owner : process_at draft.ports (record { port = from.number; element = 0 }) ≡ p
      owner = ap (λ (o : Option DraftPort). option_map_or (λ (q : DraftPort). q.process) o 0) from.here ∙ eqb_true from.port.process p side.0

      is_input : is_input_at draft.ports (record { port = from.number; element = 0 }) ≡ Some true
      is_input = ap (option_map (λ (q : DraftPort). q.input)) from.here ∙ ap Some input

      option : is_stream_at draft.ports (record { port = from.number; element = 0 }) ≡ false
      option = ap is_stream_port from.here ∙ ap (λ (r : PortRow). is_stream r.spec.class) from.is ∙ port.option

      place : place_at draft.ports (record { port = from.number; element = 0 }) ≡ i
      place =
          ap (λ (o : Option DraftPort). option_map_or (λ (q : DraftPort). q.place) o 0) from.here
          ∙ sound.shaped.places from.number from.port from.here
          ∙ ap (λ (m : ℕ). sum_by (on_side m from.port.input) (take from.number draft.ports)) (eqb_true from.port.process p side.0)
          ∙ ap (λ (b : Bool). sum_by (on_side p b) (take from.number draft.ports)) input
          ∙ from.place

      apart : ◌≡◌ {A = Option Bool} (Some false) (Some true) → ⊥
      apart is = cc

      by : (b : Binding) → binding_at draft.ports (record { port = from.number; element = 0 }) ≡ Some b → is_free b ≡ false → HasOption (plan_of draft) p i
      by Free is taken = absurd (false≢true (sym taken))
      by (Receives c) is taken = absurd (false≢true (sym option ∙ (sound.sided.into c _ (sound.listed.receives _ c is)).1))
      by (Sends c k) is taken = absurd (apart (sym (sound.sided.sender c k _ (sound.listed.sends _ c k is)) ∙ is_input))
      by (Given k) is taken =
          let has_text = map_some (λ (t : End × List ℕ). t.0) (text_at draft.processes (process_at draft.ports (record { port = from.number; element = 0 })) k) _ (sound.listed.has (record { port = from.number; element = 0 }) k is) in
          let text = then_some (λ (b : DraftProcess). slice_get b.texts k) (slice_get draft.processes (process_at draft.ports (record { port = from.number; element = 0 }))) has_text.0 has_text.1 in
          let mine : slice_get draft.processes p ≡ Some text.0 = ap (slice_get draft.processes) (sym owner) ∙ text.1 in
          let there = option_there draft.ports text.0.texts k has_text.0.0 has_text.0.1 text.2 (ap (is_stream_at draft.ports) has_text.2 ∙ option) in
          record {
            process = process_of draft.ports text.0;
            place = there.0;
            text = has_text.0.1;
            here = slice_get-map (process_of draft.ports) draft.processes p ∙ ap (option_map (process_of draft.ports)) mine;
            given = there.1 ∙ ap (λ (m : ℕ). Some (m, has_text.0.1)) (ap (place_at draft.ports) has_text.2 ∙ place);
          }

  pub HasOptions-plan : TemplatesFit (plan_of draft) → HasOptions (plan_of draft)
  HasOptions-plan templates = record { fits = fits; each_option = each_option; one_option = one_option; templates = templates }
