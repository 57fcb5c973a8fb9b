-- A worker in the midst of a burst, and what one turn more leaves of it.
use Rattle.std.proofs.Common.{◌≡◌, ℕ, ◌+◌, ◌<◌, ◌≤◌, List, [], ◌∷◌, ◌++◌, length, length-append, Option, Some, None, refl, sym, ap, ◌∙◌, subst, arith}
use Rattle.std.specs.Prelude.{slice_get, slice_index, option_and_then, unwrap_or}
use Rattle.std.specs.Option.{option_map}
use Rattle.std.proofs.lemmas.List.Elements.{All-append, All-nil}
use Rattle.atomic_table.specs.Seated.{TableId}
use Rattle.flow_packet.specs.Tree.{Tree}
use Rattle.flow_component.specs.declared.Port.{Port}
use Rattle.flow_component.specs.declared.Wish.TheVariants as wishes
use Rattle.flow_component.specs.Laws.{Rules, Lawful}
use Rattle.flow_model.specs.declared.Stage.TheVariants as stages
use Rattle.flow_model.specs.Events.{Gets, Sends}
use Rattle.flow_model.specs.States.{From, output_at}
use Rattle.flow_machine.specs.declared.answers.Effect.TheVariants as effects
use Rattle.flow_machine.specs.Effects.{TakesTurn}
use Rattle.flow_machine.specs.Nets.{SendsAt}
use Rattle.flow_machine.specs.Values.{BodyValue}
use Rattle.flow_machine.proofs.FitLemmas.{same-turns}
use Rattle.flow_floor.specs.Turning.{turned_body}
use Rattle.flow_floor.specs.Law.{Rests}
use Rattle.flow_floor.specs.Wired.{IsInput, IsOutput}
use Rattle.flow_floor.proofs.Channels.{input-same}
use Rattle.flow_floor.proofs.Lists.{some_Some, All-one}
use Rattle.flow_floor.specs.declared.board.Receiving.{Receiving}
use Rattle.flow_floor.specs.declared.board.Sending.{Sending}
use Rattle.flow_floor.specs.declared.board.View.{View}
use Rattle.flow_floor.specs.declared.ends.End.{End}
use Rattle.flow_floor.specs.declared.ends.Ends.{Ends}
use Rattle.flow_floor.specs.declared.floor.Held.{Held}
use Rattle.flow_floor.specs.declared.floor.Worker.{Worker}
use Rattle.flow_floor.specs.Bursting.{packets_at, turns_at, ArePassed, FitsIn, GoesOn, IsAtInput, IsAtOutput, IsEndAt, IsInBurst, IsPassed, MayComeTo}
use Rattle.flow_floor.specs.Bursts.{BeginsWith}
use Rattle.flow_floor.specs.Ends.{receiving_at, sending_at, HasWithdrawn, MayDraw, MayPlace, Receives, Sends as SendsInto}
use Rattle.flow_floor.specs.InHand.{stamped_from, IsPending}
use Rattle.flow_floor.specs.Pending.{MayFrom}
use Rattle.flow_floor.specs.Plays.{drawn_count, placed_count}
use Rattle.flow_floor.specs.Views.{Move, all_turned, drawing, emptying, entering, filling, held_after, moved, placing, turning}
use Rattle.flow_floor.specs.Workers.{view, woken_of, HandsOut, IsHeldBy, IsSeated}
use Rattle.flow_floor.proofs.Ahead.{pending-further, pending-held, pending-none, pending-rests}
use Rattle.flow_floor.proofs.Further.{entering-further, GoesFurther}
use Rattle.flow_floor.proofs.Holding.{held-seated}
use Rattle.flow_floor.proofs.Passing.{pending-receive, pending-send}
use Rattle.flow_floor.proofs.Seated.{seated-out}

-- A burst that is at this input, or comes to it, may draw there.
pub draws-at : (c : ℕ) (end : Option End) (receiving : Option Receiving) → IsAtInput end receiving → MayComeTo c end → MayDraw c receiving × (drawn_count receiving ≡ packets_at end)
draws-at c None receiving at may = (subst (λ (o : Option Receiving). MayDraw c o) (sym at) tt, ap drawn_count at)
draws-at c (Some end) receiving (y, is, here, out, withdrawn, many, some_drawn) may = (subst (λ (o : Option Receiving). MayDraw c o) (sym is) (here ∙ may, out, withdrawn), ap drawn_count is ∙ many)

-- One that is at this output may place there.
pub places-at : (c : ℕ) (end : Option End) (sending : Option Sending) → IsAtOutput end sending → IsEndAt c end → MayPlace c sending × (placed_count sending ≡ packets_at end)
places-at c None sending at there = absurd there
places-at c (Some end) sending (x, is, here, out, published, subtracted, learnt, many) there = (subst (λ (o : Option Sending). MayPlace c o) (sym is) (here ∙ there, out, published), ap placed_count is ∙ many)

-- It placed no more there than the connection takes.
pub fits-at : (capacities : List ℕ) (c : ℕ) (end : Option End) → FitsIn capacities end → IsEndAt c end → packets_at end ≤ slice_index capacities c
fits-at capacities c None fits there = absurd there
fits-at capacities c (Some end) fits there = subst (λ (d : ℕ). end.packets ≤ slice_index capacities d) there fits

pub withdrawn-at : (end : Option End) (receiving : Option Receiving) → IsAtInput end receiving → HasWithdrawn receiving
withdrawn-at None receiving at = subst (λ (o : Option Receiving). HasWithdrawn o) (sym at) tt
withdrawn-at (Some end) receiving (y, is, here, out, withdrawn, many, some_drawn) = subst (λ (o : Option Receiving). HasWithdrawn o) (sym is) withdrawn

-- One packet more was drawn at the input.
input-drawn : (c place : ℕ) (packet : Tree) (end : Option End) (o : Option Receiving) → IsAtInput end o → MayComeTo c end
    → IsAtInput (Some (record { connection = c; packets = packets_at end + 1 })) (Some (record (unwrap_or o (receiving_at c)) { drawn = (unwrap_or o (receiving_at c)).drawn ++ packet ∷ []; out = None }))
input-drawn c place packet None None at may = (record (receiving_at c) { drawn = [] ++ packet ∷ []; out = None }, refl, refl, refl, refl, refl, omega arith)
input-drawn c place packet None (Some y) at may = absurd (cc)
input-drawn c place packet (Some end) None (y, is, here, out, withdrawn, many, some_drawn) may = absurd (cc)
input-drawn c place packet (Some end) (Some z) (y, is, here, out, withdrawn, many, some_drawn) may =
    let same : z ≡ y = some_Some z y is in
    let drawn : length z.drawn ≡ length y.drawn = ap (λ (t : Receiving). length t.drawn) same in (
      record z { drawn = z.drawn ++ packet ∷ []; out = None },
      refl,
      ap (λ (t : Receiving). t.connection) same ∙ here ∙ may,
      refl,
      ap (λ (t : Receiving). t.unwithdrawn) same ∙ withdrawn,
      (let e : length (z.drawn ++ packet ∷ []) ≡ end.packets + 1 = omega (arith, drawn, many, length-append z.drawn (packet ∷ [])) in e),
      (let e : 0 < end.packets + 1 = omega arith in e),
    )

-- One more was placed at the output.
output-placed : (c place : ℕ) (packet : Tree) (end : Option End) (o : Option Sending) → IsAtOutput end o → IsEndAt c end
    → IsAtOutput (Some (record { connection = c; packets = packets_at end + 1 })) (option_map (λ (x : Sending). record x { out = None }) (option_map (λ (x : Sending). record x { placed = x.placed ++ packet ∷ []; out = Some place }) o))
output-placed c place packet None o at there = absurd there
output-placed c place packet (Some end) None (x, is, here, out, published, subtracted, learnt, many) there = absurd (cc)
output-placed c place packet (Some end) (Some z) (x, is, here, out, published, subtracted, learnt, many) there =
    let same : z ≡ x = some_Some z x is in
    let placed : length z.placed ≡ length x.placed = ap (λ (t : Sending). length t.placed) same in (
      record z { placed = z.placed ++ packet ∷ []; out = None },
      refl,
      ap (λ (t : Sending). t.connection) same ∙ here ∙ there,
      refl,
      ap (λ (t : Sending). t.unpublished) same ∙ published,
      ap (λ (t : Sending). t.unsubtracted) same ∙ subtracted,
      ap (λ (t : Sending). t.learnt) same ∙ learnt,
      (let e : length (z.placed ++ packet ∷ []) ≡ end.packets + 1 = omega (arith, placed, many, length-append z.placed (packet ∷ [])) in e),
    )

-- Where no packet was drawn the seat is at no receiving end.
input-none : (end : Option End) (o : Option Receiving) → IsAtInput end o → packets_at end ≡ 0 → o ≡ None
input-none None o at none = at
input-none (Some end) o (y, is, here, out, withdrawn, many, some_drawn) none = absurd (omega (arith, some_drawn, none))

-- Where the burst is at no output it is at no sending end.
pub output-none : (end : Option End) (o : Option Sending) → IsAtOutput end o → end ≡ None → o ≡ None
output-none None o at none = at
output-none (Some end) o at none = absurd (cc)

-- Steps that leave what a burst keeps of its worker.
pub goes-as : {K : Type 0} (w w' : Worker K) (v : View K) → view w' ≡ v → v.held ≡ (view w).held → v.made ≡ (view w).made → (view w).steps ≤ v.steps → v.shares ≡ (view w).shares → v.read_zero ≡ (view w).read_zero → v.asked ≡ (view w).asked
    → v.readied ≡ (view w).readied → woken_of w' ≡ woken_of w → GoesOn w w'
goes-as {K} w w' v is held made steps shares zero asked readied woken = record {
  held = ap (λ (x : View K). x.held) is ∙ held;
  made = ap (λ (x : View K). x.made) is ∙ made;
  steps = (let e : (view w').steps ≡ v.steps = ap (λ (x : View K). x.steps) is in omega (arith, e, steps));
  seat = record { shares = ap (λ (x : View K). x.shares) is ∙ shares; zero = ap (λ (x : View K). x.read_zero) is ∙ zero; asked = ap (λ (x : View K). x.asked) is ∙ asked };
  readied = ap (λ (x : View K). x.readied) is ∙ readied;
  woken = woken;
}

pub goes-same : {K : Type 0} (w : Worker K) → GoesOn w w
goes-same w = record { held = refl; made = refl; steps = (let e : (view w).steps ≤ (view w).steps = omega arith in e); seat = record { shares = refl; zero = refl; asked = refl }; readied = refl; woken = refl }

pub goes-then : {K : Type 0} (u v w : Worker K) → GoesOn u v → GoesOn v w → GoesOn u w
goes-then u v w a b = record {
  held = b.held ∙ a.held;
  made = b.made ∙ a.made;
  steps = omega (arith, a.steps, b.steps);
  seat = record { shares = b.seat.shares ∙ a.seat.shares; zero = b.seat.zero ∙ a.seat.zero; asked = b.seat.asked ∙ a.seat.asked };
  readied = b.readied ∙ a.readied;
  woken = b.woken ∙ a.woken;
}

module _ {K : Type 0} where
  -- One turn more comes behind those of a burst.
  begins-more : (began : BodyValue K) (turns : List (Move K)) (t : Move K) → BeginsWith began turns → (length turns ≡ 0 → t.body ≡ began) → BeginsWith began (turns ++ t ∷ [])
  begins-more began [] t begins none = none refl
  begins-more began (u ∷ us) t begins none = begins

  passed-more : (began : BodyValue K) (turns : List (Move K)) (t : Move K) → ArePassed began turns → (length turns ≡ 0 → t.body ≡ began) → IsPassed t.event → ArePassed began (turns ++ t ∷ [])
  passed-more began turns t passed none one = record {
    begins = begins-more began turns t passed.begins none;
    passed = All-append (λ (u : Move K). IsPassed u.event) turns (t ∷ []) passed.passed (All-one (λ (u : Move K). IsPassed u.event) t one);
  }

  none-made : (turns : List (Move K)) → length turns ≡ 0 → turns ≡ []
  none-made [] none = refl
  none-made (t ∷ turns) none = absurd (omega (arith, none))

  -- The second body has the ports of the first.
  record SamePorts (b d : BodyValue K) : Type 0 where
    inputs : d.process.inputs ≡ b.process.inputs
    outputs : d.process.outputs ≡ b.process.outputs
    signal : d.process.signal ≡ b.process.signal

module _ {K : Type 0} (rules : Rules K) (lawful : Lawful rules) (n m : ℕ) where
  -- Turns leave a process its ports.
  ports-turned : (turns : List (Move K)) (r : ℕ) (v : View K) (p : ℕ) (b d : BodyValue K) → v.held ≡ Some (p, b) → MayFrom rules n m v r turns → (all_turned v r turns).held ≡ Some (p, d) → SamePorts b d
  ports-turned [] r v p b d is may later =
      let same : d ≡ b = ap (λ (h : ℕ × BodyValue K). h.1) (some_Some (p, d) (p, b) (sym later ∙ is)) in
      record { inputs = ap (λ (x : BodyValue K). x.process.inputs) same; outputs = ap (λ (x : BodyValue K). x.process.outputs) same; signal = ap (λ (x : BodyValue K). x.process.signal) same }
  ports-turned (t ∷ turns) r v p b d is may later =
      let one = may.0 in
      let same : (one.process, one.before) ≡ (p, b) = some_Some (one.process, one.before) (p, b) (sym one.held ∙ is) in
      let rests = subst (λ (z : BodyValue K). Rests rules z (moved z t.body)) (ap (λ (z : ℕ × BodyValue K). z.1) same) one.rests in
      let ports = same-turns rules lawful b (moved b t.body) rests.0 in
      let rest = ports-turned turns (r + 1) (turning v r t) p (turned_body t.event r (moved b t.body)) d (ap (held_after t r) is) may.1 later in
      record { inputs = rest.inputs ∙ ports.1; outputs = rest.outputs ∙ ports.2; signal = rest.signal ∙ ports.3 }

  ports-pending : (turns : List (Move K)) (v : View K) (p : ℕ) (base body : BodyValue K) → IsPending rules n m v turns p body → v.held ≡ Some (p, base) → SamePorts base body
  ports-pending turns v p base body pending is =
      let h = pending.held 0 in
      let ports = same-turns rules lawful h.0 (stamped_from (length turns) 0 body) h.2.0 in
      let rest = ports-turned turns 0 v p base h.0 is (pending.may 0) h.1 in
      record { inputs = ports.1 ∙ rest.inputs; outputs = ports.2 ∙ rest.outputs; signal = ports.3 ∙ rest.signal }

  -- So what is an input of the body in hand is one of what the machine has; and so is an output.
  pub receives-pending : (turns : List (Move K)) (v : View K) (p c : ℕ) (base body : BodyValue K) → IsPending rules n m v turns p body → v.held ≡ Some (p, base) → IsInput body c → Receives v.held c
  receives-pending turns v p c base body pending is input =
      let s = ports-pending turns v p base body pending is in
      subst (λ (o : Option (ℕ × BodyValue K)). Receives o c) (sym is) (input-same c base body (s.inputs, s.signal) input)

  pub sends-pending : (turns : List (Move K)) (v : View K) (p c : ℕ) (base body : BodyValue K) → IsPending rules n m v turns p body → v.held ≡ Some (p, base) → IsOutput body c → SendsInto v.held c
  sends-pending turns v p c base body pending is (o, output) =
      let s = ports-pending turns v p base body pending is in
      subst (λ (x : Option (ℕ × BodyValue K)). SendsInto x c) (sym is) (o, ap (λ (xs : List (Option ℕ)). option_and_then (λ (y : Option ℕ). y) (slice_get xs o)) (sym s.outputs) ∙ output)

module _ {K : Type 0} (rules : Rules K) (z : TableId) (n m : ℕ) (capacities : List ℕ) (began : BodyValue K) where
  -- The body thinks.
  pub burst-thought : (w : Worker K) (h h' : Held K) (ends : Ends) → IsInBurst rules z n m capacities began w h ends → Rests rules h.body h'.body → h'.process ≡ h.process → IsInBurst rules z n m capacities began w h' ends
  burst-thought w h h' ends q rests process = record {
    seated = seated-out z n w h h' process q.seated;
    noted = q.noted;
    input = q.input;
    output = q.output;
    input_below = q.input_below;
    output_below = q.output_below;
    fits = q.fits;
    turns = q.turns;
    many = q.many;
    passed = q.passed;
    pending = subst (λ (p : ℕ). IsPending rules n m (view w) q.turns p h'.body) (sym process) (pending-rests rules n m q.turns (view w) h.process h.body h'.body q.pending rests);
  }

  -- A look was made, or a step counted, and nothing else.
  pub burst-looked : (w w' : Worker K) (h : Held K) (ends : Ends) (v : View K) → IsInBurst rules z n m capacities began w h ends → IsSeated z n w' h → view w' ≡ v → GoesFurther [] [] (view w) v → v.noted ≡ (view w).noted → v.receiving ≡ (view w).receiving
      → v.sending ≡ (view w).sending → IsInBurst rules z n m capacities began w' h ends
  burst-looked w w' h ends v q seat is further noted receiving sending = record {
    seated = seat;
    noted = ap (λ (x : View K). x.noted) is ∙ noted ∙ q.noted;
    input = subst (λ (o : Option Receiving). IsAtInput ends.input o) (sym (ap (λ (x : View K). x.receiving) is ∙ receiving)) q.input;
    output = subst (λ (o : Option Sending). IsAtOutput ends.output o) (sym (ap (λ (x : View K). x.sending) is ∙ sending)) q.output;
    input_below = q.input_below;
    output_below = q.output_below;
    fits = q.fits;
    turns = q.turns;
    many = q.many;
    passed = q.passed;
    pending = subst (λ (x : View K). IsPending rules n m x q.turns h.process h.body) (sym is) (pending-further rules n m q.turns (view w) v h.process h.body q.pending further);
  }

  -- The burst has come to a sending end.
  pub burst-came : (w w' : Worker K) (h : Held K) (ends : Ends) (c : ℕ) → IsInBurst rules z n m capacities began w h ends → ends.output ≡ None → c < m → IsSeated z n w' h → view w' ≡ entering (view w) c
      → IsInBurst rules z n m capacities began w' h (record ends { output = Some (record { connection = c; packets = 0 }) })
  burst-came w w' h ends c q none below seat is =
      let nowhere : (view w).sending ≡ None = subst (λ (end : Option End). IsAtOutput end (view w).sending) none q.output in
      record {
        seated = seat;
        noted = ap (λ (x : View K). x.noted) is ∙ q.noted;
        input = subst (λ (o : Option Receiving). IsAtInput ends.input o) (sym (ap (λ (x : View K). x.receiving) is)) q.input;
        output = subst (λ (o : Option Sending). IsAtOutput (Some (record { connection = c; packets = 0 })) o) (sym (ap (λ (x : View K). x.sending) is)) (sending_at c, refl, refl, refl, refl, refl, refl, refl);
        input_below = q.input_below;
        output_below = below;
        fits = (let e : 0 ≤ slice_index capacities c = omega arith in e);
        turns = q.turns;
        many = q.many ∙ (let e : turns_at ends ≡ packets_at ends.input + 0 = ap (λ (end : Option End). packets_at ends.input + packets_at end) none in e);
        passed = q.passed;
        pending = subst (λ (x : View K). IsPending rules n m x q.turns h.process h.body) (sym is) (pending-further rules n m q.turns (view w) (entering (view w) c) h.process h.body q.pending (entering-further (view w) c nowhere));
      }

  -- A packet was drawn, and the body has got it.
  pub burst-received : (w w' : Worker K) (h h' : Held K) (ends : Ends) (c place stamp : ℕ) (port : Port) (packet : Tree) → IsInBurst rules z n m capacities began w h ends → (turns_at ends ≡ 0 → began ≡ h.body) → MayComeTo c ends.input → c < m
      → h.body.process.stage ≡ stages.Wishing (wishes.Receive port) → slice_get h.body.process.inputs port.0 ≡ Some (From c) → IsSeated z n w' h → view w' ≡ emptying (drawing (view w) c place packet) → TakesTurn h.body (effects.Got packet) stamp h'.body → h'.process ≡ h.process
      → IsInBurst rules z n m capacities began w' h' (record ends { input = Some (record { connection = c; packets = packets_at ends.input + 1 }) })
  burst-received w w' h h' ends c place stamp port packet q begins may below stage input seat is takes process =
      let v = view w in
      let t : Move K = record { body = h.body; event = Gets port.0 c packet } in
      let d = draws-at c ends.input v.receiving q.input may in
      let end : Option End = Some (record { connection = c; packets = packets_at ends.input + 1 }) in
      record {
        seated = seated-out z n w' h h' process seat;
        noted = ap (λ (x : View K). x.noted) is ∙ q.noted;
        input = subst (λ (o : Option Receiving). IsAtInput end o) (sym (ap (λ (x : View K). x.receiving) is)) (input-drawn c place packet ends.input v.receiving q.input may);
        output = subst (λ (o : Option Sending). IsAtOutput ends.output o) (sym (ap (λ (x : View K). x.sending) is)) q.output;
        input_below = below;
        output_below = q.output_below;
        fits = q.fits;
        turns = q.turns ++ t ∷ [];
        many = omega (arith, q.many, length-append q.turns (t ∷ []));
        passed = passed-more began q.turns t q.passed (λ none. sym (begins (sym q.many ∙ none))) tt;
        pending = subst (λ (x : View K × ℕ). IsPending rules n m x.0 (q.turns ++ t ∷ []) x.1 h'.body) (λ i. (sym is i, sym process i)) (pending-receive rules n m q.turns v h.process c place stamp port packet h.body h'.body q.pending d.0 stage input takes);
      }

  -- A packet was placed, and the body has sent it.
  pub burst-sent : (w w' : Worker K) (h mid h' : Held K) (ends : Ends) (c place stamp : ℕ) (port : Port) (packet : Tree) → IsInBurst rules z n m capacities began w h ends → (turns_at ends ≡ 0 → began ≡ h.body) → IsEndAt c ends.output → packets_at ends.output < slice_index capacities c → c < m
      → SendsAt h.body.process.stage port → output_at h.body.process port.0 ≡ Some c → IsSeated z n w' mid → view w' ≡ filling (placing (view w) place packet) → HandsOut h mid packet → TakesTurn mid.body effects.Sent stamp h'.body → h'.process ≡ mid.process
      → IsInBurst rules z n m capacities began w' h' (record ends { output = Some (record { connection = c; packets = packets_at ends.output + 1 }) })
  burst-sent w w' h mid h' ends c place stamp port packet q begins there room below stage output seat is out takes process =
      let v = view w in
      let t : Move K = record { body = h.body; event = Sends port.0 c packet } in
      let d = places-at c ends.output v.sending q.output there in
      let end : Option End = Some (record { connection = c; packets = packets_at ends.output + 1 }) in
      let same : h'.process ≡ h.process = process ∙ out.0 in
      record {
        seated = seated-out z n w' mid h' process seat;
        noted = ap (λ (x : View K). x.noted) is ∙ q.noted;
        input = subst (λ (o : Option Receiving). IsAtInput ends.input o) (sym (ap (λ (x : View K). x.receiving) is)) q.input;
        output = subst (λ (o : Option Sending). IsAtOutput end o) (sym (ap (λ (x : View K). x.sending) is)) (output-placed c place packet ends.output v.sending q.output there);
        input_below = q.input_below;
        output_below = below;
        fits = (let e : packets_at ends.output + 1 ≤ slice_index capacities c = omega (arith, room) in e);
        turns = q.turns ++ t ∷ [];
        many = omega (arith, q.many, length-append q.turns (t ∷ []));
        passed = passed-more began q.turns t q.passed (λ none. sym (begins (sym q.many ∙ none))) tt;
        pending = subst (λ (x : View K × ℕ). IsPending rules n m x.0 (q.turns ++ t ∷ []) x.1 h'.body) (λ i. (sym is i, sym same i)) (pending-send rules n m q.turns v h.process c place stamp port packet h.body mid.body h'.body q.pending d.0 stage output out.2 out.3 takes);
      }

  -- A worker that holds a body and nothing else begins a burst with it.
  pub burst-begun : (w : Worker K) (h : Held K) → IsHeldBy rules z n w h → IsInBurst rules z n m capacities began w h (record { input = None; output = None })
  burst-begun w h q = record {
    seated = held-seated rules z n w h q;
    noted = q.calm.noted;
    input = q.calm.receiving;
    output = q.calm.sending;
    input_below = tt;
    output_below = tt;
    fits = tt;
    turns = [];
    many = refl;
    passed = record { begins = tt; passed = All-nil (λ (t : Move K). IsPassed t.event) };
    pending = pending-none rules n m (view w) h.process h.body (q.agrees.base, q.agrees.held, q.agrees.rests) q.agrees.whole (ap drawn_count q.calm.receiving, ap placed_count q.calm.sending);
  }

  -- Where no turn was made, and the worker is at no sending end any more, it holds its body and nothing else.
  pub burst-left : (w w' : Worker K) (h : Held K) (ends : Ends) (v : View K) → IsInBurst rules z n m capacities began w h ends → turns_at ends ≡ 0 → IsSeated z n w' h → view w' ≡ v → v.held ≡ (view w).held → v.sending ≡ None
      → v.receiving ≡ (view w).receiving → v.noted ≡ (view w).noted → IsHeldBy rules z n w' h
  burst-left w w' h ends v q none seat is held sending receiving noted =
      let no_turns : q.turns ≡ [] = none-made q.turns (q.many ∙ none) in
      let still = pending-held rules n m (view w) h.process h.body (subst (λ (turns : List (Move K)). IsPending rules n m (view w) turns h.process h.body) no_turns q.pending) in
      record {
        calm = record {
          table = seat.table;
          share = seat.share;
          sending = ap (λ (x : View K). x.sending) is ∙ sending;
          receiving = ap (λ (x : View K). x.receiving) is ∙ receiving ∙ input-none ends.input (view w).receiving q.input (omega (arith, none));
          noted = ap (λ (x : View K). x.noted) is ∙ noted ∙ q.noted;
          spare = seat.spare;
        };
        below = seat.below;
        agrees = record { base = still.0; held = ap (λ (x : View K). x.held) is ∙ held ∙ still.1; rests = still.2; whole = q.pending.whole };
        slots = seat.slots;
      }
