-- The plan of a sound draft without a fault is valid.
use Rattle.flow_limits.specs.declared.TheConstants.{CAPACITY_LIMIT, CAPACITY_SUM_LIMIT, SENDER_LIMIT, TEXT_LIMIT}
use Rattle.std.proofs.Common.{◌≡◌, ℕ, ◌-◌, ◌<◌, ◌≤◌, List, Option, Some, Ok, Bool, true, false, map, refl, ap, sym, ◌∙◌, subst, inl, inr, ◌⊎◌, slice_get, length, arith}
use Rattle.std.specs.Prelude.{◌==◌, nat_le, if◌then◌else◌, codes}
use Rattle.std.specs.declared.result.Result.{Result}
use Rattle.std.specs.Option.{option_map, option_map_or, option_and_then}
use Rattle.std.specs.List.{sum_by}
use Rattle.std.proofs.lemmas.Bool.{false≢true}
use Rattle.std.proofs.lemmas.Bool.Decides.{nat_tests}
use Rattle.std.proofs.lemmas.List.{length-map}
use Rattle.std.proofs.lemmas.Option.{slice_get-map}
use Rattle.flow_net.specs.declared.draft.End.{End}
use Rattle.flow_net.specs.declared.draft.DraftPort.{DraftPort}
use Rattle.flow_net.specs.declared.draft.DraftProcess.{DraftProcess}
use Rattle.flow_net.specs.declared.draft.Link.{Link}
use Rattle.flow_net.specs.declared.draft.Binding.{Binding}
use Rattle.flow_net.specs.declared.draft.Binding.TheVariants.{Free, Receives, Sends, Given}
use Rattle.flow_plan.specs.declared.plan.Sender.{Sender}
use Rattle.flow_plan.specs.declared.plan.Process.{Process}
use Rattle.flow_plan.specs.declared.plan.Connection.{Connection}
use Rattle.flow_plan.specs.declared.kind.PortRef.{PortRef}
use Rattle.flow_plan.specs.declared.plan.PortTable.{PortTable}
use Rattle.flow_plan.specs.Network.{Network, is_stream, elements_of, HasInput, IsInputEnd, IsOutputEnd}
use Rattle.flow_net.specs.declared.fault.PlanFault.{PlanFault}
use Rattle.flow_net.specs.Drafts.{Draft, ◌>>=◌, binding_at, is_free, is_side, is_stream_at, is_stream_port, same}
use Rattle.flow_net.specs.Calls.{process_at}
use Rattle.flow_net.specs.Sound.{IsSound, into_of, sender_at, text_at, is_input_at}
use Rattle.flow_net.specs.Finishes.{first_fault, sum_fault, draft_fault, name_of, count_of, counted, number_of, total_of, sender_of, connection_of, process_of, plan_of, capacity_of, rows_of, table_of}
use Rattle.flow_plan.specs.Templates.{TemplatesFit}
use Rattle.flow_plan.specs.Valid.{IsValid, HasConnection, HasText, HasSender, NeedsOutput, needs_of}
use Rattle.flow_net.proofs.Wiring.{same_end}
use Rattle.flow_net.proofs.Steps.{map_some, then_some}
use Rattle.flow_net.proofs.Ends.{bind_ok, refused_ok, if_true, and_true, same_true, eqb_true}
use Rattle.flow_net.proofs.SoundGives.{some_at}
use Rattle.flow_net.proofs.Placed.{capacity_of-small}
use Rattle.flow_net.proofs.Laying.{LaidOut-plan}
use Rattle.flow_net.proofs.Lasts.{get-flat-front, Closes, closes-kind, count-automatic, last-number, not-last}
use Rattle.flow_net.specs.Kinds.{automatic, takes_texts}
use Rattle.flow_plan.specs.declared.plan.PortRow.{PortRow}
use Rattle.flow_net.proofs.Numbers.{number_at, number-within, number-same, Numbered, number-each}
use Rattle.flow_net.proofs.Rows.{mapped}
use Rattle.flow_net.proofs.PlanOptions.{HasOptions-plan, HasRows-plan}
use Rattle.flow_net.proofs.Wholes.{Located, Located-bound, each_bound, no_fault}
use Rattle.flow_net.proofs.InitialTexts.{initial_there, FromText, initial_from, initial_once}
use Rattle.flow_net.proofs.Needs.{sum_by_map, counted_side, count_stream, NeedsNumber, needs_numbered}

module _ (draft : Draft) (sound : IsSound draft) (u : Unit {0}) (whole : draft_fault draft ≡ Ok u) where
  abbrev network : Network
  network = plan_of draft

  ports_whole : (x : Unit {0}) × (first_fault draft.processes draft.ports ≡ Ok x) × (sum_fault draft.links ≡ Ok u)
  ports_whole = bind_ok (first_fault draft.processes draft.ports) (λ none. sum_fault draft.links) u whole

  -- a process of the plan is that of the draft
  process_at_plan : (p : ℕ) (x : Process) → slice_get (map (process_of draft.ports) draft.processes) p ≡ Some x → (b : DraftProcess) × (slice_get draft.processes p ≡ Some b) × (process_of draft.ports b ≡ x)
  process_at_plan p x here = mapped (process_of draft.ports) draft.processes p x here

  has_process : (p : ℕ) → p < length draft.processes → (b : DraftProcess) × (slice_get (map (process_of draft.ports) draft.processes) p ≡ Some (process_of draft.ports b)) × (b.number ≡ p)
  has_process p within =
      let found = some_at draft.processes p within in
      (found.0, slice_get-map (process_of draft.ports) draft.processes p ∙ ap (option_map (process_of draft.ports)) found.1, sound.numbers p found.0 found.1)

  into_located : (c : ℕ) (end : End) → into_of draft.links c ≡ Some end → Located draft.ports end (process_at draft.ports end) true
  into_located c end is =
      let sided = sound.sided.into c end is in
      Located-bound (length draft.processes) draft.ports end (Receives c) sound.ports (sound.listed.received end c is) refl true sided.0 (λ port here. ap is_stream_port (sym here) ∙ sided.1)

  sender_located : (c k : ℕ) (end : End) → sender_at draft.links c k ≡ Some end → Located draft.ports end (process_at draft.ports end) false
  sender_located c k end is =
      let side = sound.sided.sender c k end is in
      Located-bound (length draft.processes) draft.ports end (Sends c k) sound.ports (sound.listed.sent end c k is) refl false side (λ port here. ap is_stream ((sound.ports end.port port here).output (output port here side)))
    where
      output : (port : DraftPort) → slice_get draft.ports end.port ≡ Some port → is_input_at draft.ports end ≡ Some false → port.input ≡ false
      output port here side =
          let both : Some port.input ≡ Some false = sym (ap (option_map (λ (q : DraftPort). q.input)) here) ∙ side in
          cc

  text_located : (p k : ℕ) (end : End) (text : List ℕ) → text_at draft.processes p k ≡ Some (end, text) → is_stream_at draft.ports end ≡ true → Located draft.ports end (process_at draft.ports end) true
  text_located p k end text is stream =
      Located-bound (length draft.processes) draft.ports end (Given k) sound.ports (sound.listed.given p k end text is).0 refl true (sound.sided.text p k end text is).0 (λ port here. ap is_stream_port (sym here) ∙ stream)

  -- an element that has a number is an input or an output of its process
  owner_within : (end : End) (p : ℕ) (s : Bool) → Located draft.ports end p s → process_at draft.ports end < length draft.processes
  owner_within end p s located =
      subst (λ (m : ℕ). m < length draft.processes) (sym (ap (λ (o : Option DraftPort). option_map_or (λ (q : DraftPort). q.process) o 0) located.here)) (sound.ports end.port located.port located.here).process

  number_below : (end : End) (p : ℕ) (s : Bool) → Located draft.ports end p s → number_of draft.ports end < total_of draft.ports p s
  number_below end p s located =
      subst (λ (m : ℕ). m < total_of draft.ports p s) (sym located.number) (number-within (counted p s) draft.ports end.port end.element located.port located.here located.within)

  input_there : (end : End) → Located draft.ports end (process_at draft.ports end) true → IsInputEnd network (process_at draft.ports end) (number_of draft.ports end)
  input_there end located =
      let found = has_process (process_at draft.ports end) (owner_within end _ true located) in
      (process_of draft.ports found.0, found.1, (let below = subst (λ (m : ℕ). number_of draft.ports end < total_of draft.ports m true) (sym found.2) (number_below end _ true located) in omega (arith, below)))

  output_there : (end : End) → Located draft.ports end (process_at draft.ports end) false → IsOutputEnd network (process_at draft.ports end) (number_of draft.ports end)
  output_there end located =
      let found = has_process (process_at draft.ports end) (owner_within end _ false located) in
      (process_of draft.ports found.0, found.1, (let below = subst (λ (m : ℕ). number_of draft.ports end < total_of draft.ports m false) (sym found.2) (number_below end _ false located) in omega (arith, below)))

  -- two elements with one number on one side of one process are one
  same_element : (s : Bool) (end other : End) → Located draft.ports end (process_at draft.ports end) s → Located draft.ports other (process_at draft.ports other) s → process_at draft.ports end ≡ process_at draft.ports other → number_of draft.ports end ≡ number_of draft.ports other → end ≡ other
  same_element s end other located there owner number =
      let moved : Located draft.ports other (process_at draft.ports end) s = subst (λ (p : ℕ). Located draft.ports other p s) (sym owner) there in
      let one = number-same (counted (process_at draft.ports end) s) draft.ports end.port end.element other.port other.element located.port moved.port located.here moved.here located.within moved.within (sym located.number ∙ number ∙ moved.number) in
      same_end end other one.0 one.1

  connection_at_plan : (c : ℕ) (x : Connection) → slice_get (map (connection_of draft.ports) draft.links) c ≡ Some x → (l : Link) × (slice_get draft.links c ≡ Some l) × (connection_of draft.ports l ≡ x)
  connection_at_plan c x here = mapped (connection_of draft.ports) draft.links c x here

  into_here : (c : ℕ) (l : Link) → slice_get draft.links c ≡ Some l → into_of draft.links c ≡ Some l.into
  into_here c l here = ap (option_map (λ (link : Link). link.into)) here

  receivers : (c : ℕ) (x : Connection) → slice_get network.connections c ≡ Some x → IsInputEnd network x.receiver x.input
  receivers c x here =
      let found = connection_at_plan c x here in
      subst (λ (y : Connection). IsInputEnd network y.receiver y.input) found.2 (input_there found.0.into (into_located c found.0.into (into_here c found.0 found.1)))

  one_receiver : (c d : ℕ) (x y : Connection) → slice_get network.connections c ≡ Some x → slice_get network.connections d ≡ Some y → x.receiver ≡ y.receiver → x.input ≡ y.input → c ≡ d
  one_receiver c d x y here there receiver input =
      let found = connection_at_plan c x here in
      let other = connection_at_plan d y there in
      let a = into_here c found.0 found.1 in
      let b = into_here d other.0 other.1 in
      let same_into : found.0.into ≡ other.0.into =
      same_element true found.0.into other.0.into (into_located c found.0.into a) (into_located d other.0.into b)
      (ap (λ (z : Connection). z.receiver) found.2 ∙ receiver ∙ sym (ap (λ (z : Connection). z.receiver) other.2))
      (ap (λ (z : Connection). z.input) found.2 ∙ input ∙ sym (ap (λ (z : Connection). z.input) other.2)) in
      let both : Some (Receives c) ≡ Some (Receives d) = sym (sound.listed.received found.0.into c a) ∙ ap (binding_at draft.ports) same_into ∙ sound.listed.received other.0.into d b in
      cc

  sender_at_plan : (c k : ℕ) (x : Connection) (s : Sender) → slice_get network.connections c ≡ Some x → slice_get x.senders k ≡ Some s → (end : End) × (sender_at draft.links c k ≡ Some end) × (sender_of draft.ports end ≡ s)
  sender_at_plan c k x s here sends =
      let found = connection_at_plan c x here in
      let from = mapped (sender_of draft.ports) found.0.senders k s (ap (λ (z : Connection). slice_get z.senders k) found.2 ∙ sends) in
      (from.0, ap (option_and_then (λ (l : Link). slice_get l.senders k)) found.1 ∙ from.1, from.2)

  senders : (c k : ℕ) (x : Connection) (s : Sender) → slice_get network.connections c ≡ Some x → slice_get x.senders k ≡ Some s → IsOutputEnd network s.process s.output
  senders c k x s here sends =
      let from = sender_at_plan c k x s here sends in
      subst (λ (z : Sender). IsOutputEnd network z.process z.output) from.2 (output_there from.0 (sender_located c k from.0 from.1))

  one_sender : (c d k l : ℕ) (x y : Connection) (s : Sender) → slice_get network.connections c ≡ Some x → slice_get network.connections d ≡ Some y → slice_get x.senders k ≡ Some s → slice_get y.senders l ≡ Some s → (c ≡ d) × (k ≡ l)
  one_sender c d k l x y s here there sends too =
      let from = sender_at_plan c k x s here sends in
      let other = sender_at_plan d l y s there too in
      let whole_sender : sender_of draft.ports from.0 ≡ sender_of draft.ports other.0 = from.2 ∙ sym other.2 in
      let same_end_is : from.0 ≡ other.0 =
      same_element false from.0 other.0 (sender_located c k from.0 from.1) (sender_located d l other.0 other.1)
      (ap (λ (z : Sender). z.process) whole_sender) (ap (λ (z : Sender). z.output) whole_sender) in
      let both : Some (Sends c k) ≡ Some (Sends d l) = sym (sound.listed.sent from.0 c k from.1) ∙ ap (binding_at draft.ports) same_end_is ∙ sound.listed.sent other.0 d l other.1 in
      (cc, cc)

  names : (p q : ℕ) (x y : Process) → slice_get network.processes p ≡ Some x → slice_get network.processes q ≡ Some y → x.name ≡ y.name → p ≡ q
  names p q x y here there same_name =
      let found = process_at_plan p x here in
      let other = process_at_plan q y there in
      sound.names p q found.0 other.0 found.1 other.1 (ap (λ (z : Process). z.name) found.2 ∙ same_name ∙ sym (ap (λ (z : Process). z.name) other.2))

  -- An initial text of the plan, as the draft has it.
  text_at_plan : (p k i : ℕ) (x : Process) (text : List ℕ) → slice_get network.processes p ≡ Some x → slice_get x.initials k ≡ Some (i, text) → (b : DraftProcess) × (slice_get draft.processes p ≡ Some b) × FromText draft.ports b.texts i text
  text_at_plan p k i x text here given =
      let found = process_at_plan p x here in
      (found.0, found.1, initial_from draft.ports found.0.texts k i text (ap (λ (z : Process). slice_get z.initials k) found.2 ∙ given))

  text_here : (p k : ℕ) (b : DraftProcess) (x : End × List ℕ) → slice_get draft.processes p ≡ Some b → slice_get b.texts k ≡ Some x → text_at draft.processes p k ≡ Some x
  text_here p k b x here is = ap (option_and_then (λ (c : DraftProcess). slice_get c.texts k)) here ∙ is

  not_both : (p i : ℕ) → HasConnection network p i → HasText network p i → ⊥
  not_both p i received texted =
      let link = connection_at_plan received.number received.connection received.here in
      let into = into_here received.number link.0 link.1 in
      let from = text_at_plan p texted.place i texted.process texted.text texted.here texted.given in
      let text = text_here p from.2.place from.0 (from.2.end, texted.text) from.1 from.2.here in
      let given = sound.listed.given p from.2.place from.2.end texted.text text in
      let one : link.0.into ≡ from.2.end =
      same_element true link.0.into from.2.end (into_located received.number link.0.into into) (text_located p from.2.place from.2.end texted.text text from.2.stream)
      (ap (λ (z : Connection). z.receiver) link.2 ∙ received.receiver ∙ sym given.1)
      (ap (λ (z : Connection). z.input) link.2 ∙ received.input ∙ sym from.2.number) in
      let both : Some (Receives received.number) ≡ Some (Given from.2.place) = sym (sound.listed.received link.0.into received.number into) ∙ ap (binding_at draft.ports) one ∙ given.0 in
      cc

  one_text : (p k l i : ℕ) (x : Process) (text other : List ℕ) → slice_get network.processes p ≡ Some x → slice_get x.initials k ≡ Some (i, text) → slice_get x.initials l ≡ Some (i, other) → k ≡ l
  one_text p k l i x text other here given too =
      let found = process_at_plan p x here in
      initial_once draft.ports found.0.texts (once found.0 found.1) k l i text other (ap (λ (z : Process). slice_get z.initials k) found.2 ∙ given) (ap (λ (z : Process). slice_get z.initials l) found.2 ∙ too)
    where
      once : (b : DraftProcess) → slice_get draft.processes p ≡ Some b → (m o : ℕ) (a c : End × List ℕ) → slice_get b.texts m ≡ Some a → slice_get b.texts o ≡ Some c → is_stream_at draft.ports a.0 ≡ true → is_stream_at draft.ports c.0 ≡ true → number_of draft.ports a.0 ≡ number_of draft.ports c.0 → m ≡ o
      once b begun m o a c at there stream too_stream number =
          let first = text_here p m b a begun at in
          let second = text_here p o b c begun there in
          let given = sound.listed.given p m a.0 a.1 first in
          let other_given = sound.listed.given p o c.0 c.1 second in
          let one : a.0 ≡ c.0 = same_element true a.0 c.0 (text_located p m a.0 a.1 first stream) (text_located p o c.0 c.1 second too_stream) (given.1 ∙ sym other_given.1) number in
          let both : Some (Given m) ≡ Some (Given o) = sym given.0 ∙ ap (binding_at draft.ports) one ∙ other_given.0 in
          cc

  -- An element of this number that is bound.
  bound_number : (p : ℕ) (s : Bool) (o : ℕ) (at : Numbered (counted p s) draft.ports o) → at.port.spec.needed ≡ true → (b : Binding) × (binding_at draft.ports (record { port = at.place; element = at.element }) ≡ Some b) × (is_free b ≡ false) × (is_input_at draft.ports (record { port = at.place; element = at.element }) ≡ Some s) × (process_at draft.ports (record { port = at.place; element = at.element }) ≡ p) × (number_of draft.ports (record { port = at.place; element = at.element }) ≡ o)
  bound_number p s o at needed =
      let sided = counted_side p s at.port at.element at.within in
      let stream = count_stream at.port at.element sided.1 in
      let side = and_true (at.port.process == p) (same at.port.input s) sided.0 in
      let bound = each_bound (name_of draft.processes at.port.process) at.port at.element needed (no_fault draft.processes draft.ports ports_whole.0 ports_whole.1 at.place at.port at.here) stream.1 in
      let binding : binding_at draft.ports (record { port = at.place; element = at.element }) ≡ Some bound.binding = ap (option_and_then (λ (q : DraftPort). slice_get q.elements at.element)) at.here ∙ bound.here in
      let input : is_input_at draft.ports (record { port = at.place; element = at.element }) ≡ Some s = ap (option_map (λ (q : DraftPort). q.input)) at.here ∙ ap Some (same_true at.port.input s side.1) in
      let owner : process_at draft.ports (record { port = at.place; element = at.element }) ≡ p = ap (λ (q : Option DraftPort). option_map_or (λ (r : DraftPort). r.process) q 0) at.here ∙ eqb_true at.port.process p side.0 in
      let located = Located-bound (length draft.processes) draft.ports (record { port = at.place; element = at.element }) bound.binding sound.ports binding bound.taken s input (λ port here. same_stream port here stream.0) in
      (bound.binding, binding, bound.taken, input, owner, located.number ∙ ap (λ (q : ℕ). number_at (counted q s) draft.ports at.place at.element) owner ∙ at.number)
    where
      same_stream : (port : DraftPort) → slice_get draft.ports at.place ≡ Some port → is_stream at.port.spec.class ≡ true → is_stream port.spec.class ≡ true
      same_stream port here stream =
          let one : Some port ≡ Some at.port = sym here ∙ at.here in
          let whole_port : port ≡ at.port = cc in
          ap (λ (q : DraftPort). is_stream q.spec.class) whole_port ∙ stream

  connection_here : (c : ℕ) (end : End) → into_of draft.links c ≡ Some end → HasConnection network (process_at draft.ports end) (number_of draft.ports end)
  connection_here c end is =
      let link = map_some (λ (l : Link). l.into) (slice_get draft.links c) end is in
      record {
        number = c;
        connection = connection_of draft.ports link.0;
        here = slice_get-map (connection_of draft.ports) draft.links c ∙ ap (option_map (connection_of draft.ports)) link.1;
        receiver = ap (process_at draft.ports) link.2;
        input = ap (number_of draft.ports) link.2;
      }

  sender_here : (c k : ℕ) (end : End) → sender_at draft.links c k ≡ Some end → HasSender network (process_at draft.ports end) (number_of draft.ports end)
  sender_here c k end is =
      let link = then_some (λ (l : Link). slice_get l.senders k) (slice_get draft.links c) end is in
      record {
        number = c;
        connection = connection_of draft.ports link.0;
        place = k;
        here = slice_get-map (connection_of draft.ports) draft.links c ∙ ap (option_map (connection_of draft.ports)) link.1;
        sender = slice_get-map (sender_of draft.ports) link.0.senders k ∙ ap (option_map (sender_of draft.ports)) link.2;
      }

  each_input : (p i : ℕ) → HasInput network p i → HasConnection network p i ⊎ HasText network p i
  each_input p i has = by found.0 found.1 found.2 found.3 found.4 found.5
    where
      begun : (b : DraftProcess) × (slice_get draft.processes p ≡ Some b) × (process_of draft.ports b ≡ has.0)
      begun = process_at_plan p has.0 has.1

      own : i < total_of draft.ports p true - 1
      own =
          subst (λ (m : ℕ). i < total_of draft.ports m true - 1) (sound.numbers p begun.0 begun.1)
          (subst (λ (z : Process). i < z.inputs) (sym begun.2) has.2)

      within : i < total_of draft.ports p true
      within = omega (arith, own)

      at : Numbered (counted p true) draft.ports i
      at = number-each (counted p true) draft.ports i within

      end : End
      end = record { port = at.place; element = at.element }

      needed : at.port.spec.needed ≡ true
      needed =
          let sided = counted_side p true at.port at.element at.within in
          let side = and_true (at.port.process == p) (same at.port.input true) sided.0 in
          own_needed sided.0 sided.1 ((sound.ports at.place at.port at.here).input (same_true at.port.input true side.1))
        where
          own_needed : is_side p true at.port ≡ true → at.element < count_of at.port → (takes_texts at.port.spec ≡ true) ⊎ (at.port.spec ≡ automatic (codes "*IN")) → at.port.spec.needed ≡ true
          own_needed side below (inl takes) = subst (λ (b : Bool). (if b then at.port.spec.needed else true) ≡ true) (count_stream at.port at.element below).0 takes
          own_needed side below (inr auto) =
              let kind = sound.shaped.each p begun.0 begun.1 in
              let last = last-number p true draft.ports kind.kind.inputs (automatic (codes "*IN")) at.place at.port kind.inputs (sound.kinds kind.place kind.kind kind.here).take_texts at.here side (ap takes_texts auto) in
              let one = count-automatic at.port (codes "*IN") auto in
              absurd (omega (arith, own, at.number, last, one, below))

      found : (b : Binding) × (binding_at draft.ports (record { port = at.place; element = at.element }) ≡ Some b) × (is_free b ≡ false) × (is_input_at draft.ports (record { port = at.place; element = at.element }) ≡ Some true) × (process_at draft.ports (record { port = at.place; element = at.element }) ≡ p) × (number_of draft.ports (record { port = at.place; element = at.element }) ≡ i)
      found = bound_number p true i at needed

      by : (b : Binding) → binding_at draft.ports (record { port = at.place; element = at.element }) ≡ Some b → is_free b ≡ false → is_input_at draft.ports (record { port = at.place; element = at.element }) ≡ Some true → process_at draft.ports (record { port = at.place; element = at.element }) ≡ p → number_of draft.ports (record { port = at.place; element = at.element }) ≡ i → HasConnection network p i ⊎ HasText network p i
      by Free bound taken input owner number = absurd (false≢true (sym taken))
      by (Receives c) bound taken input owner number =
          inl (subst (λ (m : ℕ). HasConnection network p m) number (subst (λ (m : ℕ). HasConnection network m (number_of draft.ports (record { port = at.place; element = at.element }))) owner (connection_here c (record { port = at.place; element = at.element }) (sound.listed.receives _ c bound))))
      by (Sends c k) bound taken input owner number =
          let side : is_input_at draft.ports (record { port = at.place; element = at.element }) ≡ Some false = sound.sided.sender c k _ (sound.listed.sends _ c k bound) in
          absurd (some_apart (sym side ∙ input))
        where
          some_apart : ◌≡◌ {A = Option Bool} (Some false) (Some true) → ⊥
          some_apart is = cc
      by (Given k) bound taken input owner number =
          let has_text = map_some (λ (t : End × List ℕ). t.0) (text_at draft.processes (process_at draft.ports (record { port = at.place; element = at.element })) k) _ (sound.listed.has (record { port = at.place; element = at.element }) k bound) in
          let text = then_some (λ (b : DraftProcess). slice_get b.texts k) (slice_get draft.processes (process_at draft.ports (record { port = at.place; element = at.element }))) has_text.0 has_text.1 in
          let mine : slice_get draft.processes p ≡ Some text.0 = ap (slice_get draft.processes) (sym owner) ∙ text.1 in
          let stream : is_stream_at draft.ports has_text.0.0 ≡ true = ap (is_stream_at draft.ports) has_text.2 ∙ ap is_stream_port at.here ∙ (count_stream at.port at.element (counted_side p true at.port at.element at.within).1).0 in
          let initial = initial_there draft.ports text.0.texts k has_text.0.0 has_text.0.1 text.2 stream in
          inr (record {
            process = process_of draft.ports text.0;
            place = initial.0;
            text = has_text.0.1;
            here = slice_get-map (process_of draft.ports) draft.processes p ∙ ap (option_map (process_of draft.ports)) mine;
            given = initial.1 ∙ ap (λ (m : ℕ). Some (m, has_text.0.1)) (ap (number_of draft.ports) has_text.2 ∙ number);
          })

  needed_outputs : (p o : ℕ) → NeedsOutput network p o → HasSender network p o
  needed_outputs p o needs = by found.0 found.1 found.2 found.3 found.4 found.5
    where
      begun : (b : DraftProcess) × (slice_get draft.processes p ≡ Some b) × (table_of draft.ports b ≡ needs.table)
      begun = mapped (table_of draft.ports) draft.processes p needs.table needs.here

      there : slice_get (needs_of (rows_of draft.ports p false)) o ≡ Some true
      there =
          ap (λ (m : ℕ). slice_get (needs_of (rows_of draft.ports m false)) o) (sym (sound.numbers p begun.0 begun.1))
          ∙ get-flat-front (λ (row : PortRow). map (λ (port : PortRef). row.spec.needed) (elements_of row)) (rows_of draft.ports begun.0.number false) o true
          (ap (λ (t : PortTable). slice_get (needs_of t.outputs) o) begun.2 ∙ needs.needed)

      at : NeedsNumber draft.ports p false o true
      at = needs_numbered draft.ports p false o true there

      found : (b : Binding) × (binding_at draft.ports (record { port = at.numbered.place; element = at.numbered.element }) ≡ Some b) × (is_free b ≡ false) × (is_input_at draft.ports (record { port = at.numbered.place; element = at.numbered.element }) ≡ Some false) × (process_at draft.ports (record { port = at.numbered.place; element = at.numbered.element }) ≡ p) × (number_of draft.ports (record { port = at.numbered.place; element = at.numbered.element }) ≡ o)
      found = bound_number p false o at.numbered at.is

      some_apart : ◌≡◌ {A = Option Bool} (Some true) (Some false) → ⊥
      some_apart is = cc

      by : (b : Binding) → binding_at draft.ports (record { port = at.numbered.place; element = at.numbered.element }) ≡ Some b → is_free b ≡ false → is_input_at draft.ports (record { port = at.numbered.place; element = at.numbered.element }) ≡ Some false → process_at draft.ports (record { port = at.numbered.place; element = at.numbered.element }) ≡ p → number_of draft.ports (record { port = at.numbered.place; element = at.numbered.element }) ≡ o → HasSender network p o
      by Free bound taken input owner number = absurd (false≢true (sym taken))
      by (Receives c) bound taken input owner number = absurd (some_apart (sym (sound.sided.into c _ (sound.listed.receives _ c bound)).0 ∙ input))
      by (Sends c k) bound taken input owner number =
          subst (λ (m : ℕ). HasSender network p m) number (subst (λ (m : ℕ). HasSender network m (number_of draft.ports (record { port = at.numbered.place; element = at.numbered.element }))) owner (sender_here c k (record { port = at.numbered.place; element = at.numbered.element }) (sound.listed.sends _ c k bound)))
      by (Given k) bound taken input owner number =
          let has_text = map_some (λ (t : End × List ℕ). t.0) (text_at draft.processes (process_at draft.ports (record { port = at.numbered.place; element = at.numbered.element })) k) _ (sound.listed.has (record { port = at.numbered.place; element = at.numbered.element }) k bound) in
          let side : is_input_at draft.ports has_text.0.0 ≡ Some true = (sound.sided.text _ k has_text.0.0 has_text.0.1 has_text.1).0 in
          absurd (some_apart (sym side ∙ ap (is_input_at draft.ports) has_text.2 ∙ input))

  capacities : (c : ℕ) (x : Connection) → slice_get network.connections c ≡ Some x → (1 ≤ x.capacity) × (x.capacity ≤ CAPACITY_LIMIT)
  capacities c x here =
      let found = connection_at_plan c x here in
      subst (λ (z : Connection). (1 ≤ z.capacity) × (z.capacity ≤ CAPACITY_LIMIT)) found.2 (capacity_of-small found.0 (sound.links c found.0 found.1))

  few_senders : (c : ℕ) (x : Connection) → slice_get network.connections c ≡ Some x → length x.senders ≤ SENDER_LIMIT
  few_senders c x here =
      let found = connection_at_plan c x here in
      let few : length (map (sender_of draft.ports) found.0.senders) ≤ SENDER_LIMIT = omega (arith, length-map found.0.senders (sender_of draft.ports), (sound.links c found.0 found.1).senders) in
      subst (λ (z : Connection). length z.senders ≤ SENDER_LIMIT) found.2 few

  capacity_sum : sum_by (λ (x : Connection). x.capacity) network.connections ≤ CAPACITY_SUM_LIMIT
  capacity_sum =
      let test : nat_le (sum_by capacity_of draft.links) CAPACITY_SUM_LIMIT ≡ true = if_true _ (refused_ok _ _ u ports_whole.2) in
      let few : sum_by capacity_of draft.links ≤ CAPACITY_SUM_LIMIT = grind (arith, nat_tests, test) in
      omega (arith, few, sum_by_map (λ (x : Connection). x.capacity) (connection_of draft.ports) draft.links)

  short : (p k i : ℕ) (x : Process) (text : List ℕ) → slice_get network.processes p ≡ Some x → slice_get x.initials k ≡ Some (i, text) → length text ≤ TEXT_LIMIT
  short p k i x text here given =
      let from = text_at_plan p k i x text here given in
      (sound.sided.text p from.2.place from.2.end text (text_here p from.2.place from.0 (from.2.end, text) from.1 from.2.here)).2

  -- a text stands at an input that isn't the automatic one
  stream_texts : (p i : ℕ) → HasText network p i → HasInput network p i
  stream_texts p i texted =
      let from = text_at_plan p texted.place i texted.process texted.text texted.here texted.given in
      let end = from.2.end in
      let text = text_here p from.2.place from.0 (end, texted.text) from.1 from.2.here in
      let owner = (sound.listed.given p from.2.place end texted.text text).1 in
      let located = subst (λ (q : ℕ). Located draft.ports end q true) owner (text_located p from.2.place end texted.text text from.2.stream) in
      let sided = counted_side p true located.port end.element located.within in
      let takes : takes_texts located.port.spec ≡ true = sym (ap (λ (o : Option DraftPort). option_map_or (λ (q : DraftPort). takes_texts q.spec) o false) located.here) ∙ (sound.sided.text p from.2.place end texted.text text).3 in
      let kind = sound.shaped.each p from.0 from.1 in
      let below = not-last p true draft.ports kind.kind.inputs (codes "*IN") end.port located.port kind.inputs located.here sided.0 takes in
      let process = process_at_plan p texted.process texted.here in
      let same : from.0 ≡ process.0 = (let h : Some from.0 ≡ Some process.0 = sym from.1 ∙ process.1 in cc) in (
        texted.process,
        texted.here,
        subst (λ (z : Process). i < z.inputs) process.2
            (subst (λ (m : ℕ). i < total_of draft.ports m true - 1) (sym (sound.numbers p process.0 process.1)) (omega (arith, below, sided.1, located.number, from.2.number))),
      )

  pub IsValid-plan : TemplatesFit (plan_of draft) → IsValid (plan_of draft)
  IsValid-plan templates = record {
    wired = record {
      few_processes = omega (arith, length-map draft.processes (process_of draft.ports), sound.few_processes);
      few_connections = omega (arith, length-map draft.links (connection_of draft.ports), sound.few_links);
      receivers = receivers;
      one_receiver = one_receiver;
      senders = senders;
      one_sender = one_sender;
      each_input = each_input;
      not_both = not_both;
      short = short;
      capacities = capacities;
      few_senders = few_senders;
    };
    names = names;
    laid_out = LaidOut-plan draft.ports draft.processes (λ k begun here.
        subst (Closes draft.ports) (sym (sound.numbers k begun here)) (closes-kind draft.kinds draft.ports k begun.kind (sound.shaped.each k begun here)));
    stream_texts = stream_texts;
    one_text = one_text;
    needed_outputs = needed_outputs;
    capacity_sum = capacity_sum;
    options = HasOptions-plan draft sound ports_whole.0 ports_whole.1 templates;
    rows = HasRows-plan draft sound ports_whole.0 ports_whole.1;
  }

-- a network that is the plan of a sound draft without a fault is valid, where its templates are such for their patterns
pub IsValid-made : (draft : Draft) (u v : Unit {0}) (made : Network) → IsSound draft → first_fault draft.processes draft.ports ≡ Ok u → sum_fault draft.links ≡ Ok v → made ≡ plan_of draft → TemplatesFit made → IsValid made
IsValid-made draft u v made sound first sum is templates =
    let whole : draft_fault draft ≡ Ok v = ap (λ (r : Result (Unit {0}) PlanFault). r >>= λ none. sum_fault draft.links) first ∙ sum in
    subst IsValid (sym is) (IsValid-plan draft sound v whole (subst TemplatesFit is templates))
