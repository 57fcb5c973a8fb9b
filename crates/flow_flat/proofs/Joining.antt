-- The next connect statement: a draft that agrees with a text refuses it for what the text says, and agrees with it afterwards.
use Rattle.flow_limits.specs.declared.TheConstants.{CONNECTION_LIMIT, SENDER_LIMIT}
use Rattle.std.proofs.Common.{◌≡◌, ◌≢◌, ℕ, Bool, true, false, List, [], ◌∷◌, ◌++◌, map, length, zero, suc, Option, Some, None, Ok, IsSome, refl, ap, sym, subst, ◌∙◌, slice_get}
use Rattle.std.specs.Prelude.{◌||◌, nat_le, not, if◌then◌else◌, is_some}
use Rattle.std.specs.Option.{option_and_then, option_map}
use Rattle.std.specs.declared.result.Result.{Result}
use Rattle.std.proofs.lemmas.Bool.{false≢true}
use Rattle.std.proofs.lemmas.List.{length-map}
use Rattle.std.proofs.lemmas.Option.{slice_get-map}
use Rattle.flow_net.specs.declared.draft.End.{End}
use Rattle.flow_net.specs.declared.draft.Binding.{Binding}
use Rattle.flow_net.specs.declared.draft.Binding.TheVariants.{Free, Receives, Sends, Given}
use Rattle.flow_net.specs.declared.draft.DraftPort.{DraftPort}
use Rattle.flow_net.specs.declared.draft.Link.{Link}
use Rattle.flow_net.specs.declared.fault.Many.TheVariants as many
use Rattle.flow_net.specs.declared.fault.PlanFault.{PlanFault}
use Rattle.flow_net.specs.declared.fault.PlanFault.TheVariants.{NeedsInitial, PortTaken, TooMany}
use Rattle.flow_plan.specs.declared.kind.KindSpec.{KindSpec}
use Rattle.flow_plan.specs.declared.kind.PortRef.{PortRef}
use Rattle.flow_net.specs.Drafts.{Draft, ◌>>=◌, refused_if, binding_at, bound, receives as receives_from, is_stream_at}
use Rattle.flow_net.specs.Calls.{ends_of, is_taken, has_text as is_texted, link_into, capacity_before, allowed_capacity, same_capacity, is_full as is_full_link, has_all_senders, may_join, joined, joined_ports, joined_links, next_sender, process_at}
use Rattle.flow_net.specs.Sound.{into_of, sender_at, text_at, is_input_at}
use Rattle.flow_net.proofs.Ends.{AreThere-ends}
use Rattle.flow_net.proofs.SoundJoins.{IsSound-joined}
use Rattle.flow_net.proofs.Bindings.{bound-keeps}
use Rattle.flow_flat.specs.Names.{PortAt, Join}
use Rattle.flow_flat.specs.Plans.{joins_into, receivers, capacity_given}
use Rattle.flow_flat.specs.Faults.{sends, receives, has_text, is_stream_end, is_full, join_test}
use Rattle.flow_flat.proofs.Links.{firsts_come, link_to, links_of, intos, not_among, links_opened, links_joined}
use Rattle.flow_flat.proofs.Lookups.{bare, stream_is}
use Rattle.flow_flat.proofs.Agrees.{Agrees, receives_has, into_receiver, receiver_into, received_from, received_to, sent_from, sent_to, text_from, text_to}

-- Binding a port doesn't change the ports without their bindings.
pub bare_bound : (ports : List DraftPort) (g e : ℕ) (b : Binding) → map bare (bound ports (record { port = g; element = e }) b) ≡ map bare ports
bare_bound [] g e b = refl
bare_bound (port ∷ ports) zero e b = refl
bare_bound (port ∷ ports) (suc g) e b = ap (λ (l : List PortAt). bare port ∷ l) (bare_bound ports g e b)

pub bare_joined : (ports : List DraftPort) (links : List Link) (out into : End) (link : Option ℕ) → map bare (joined_ports ports links out into link) ≡ map bare ports
bare_joined ports links out into None = bare_bound (bound ports into (Receives (length links))) out.port out.element (Sends (length links) 0) ∙ bare_bound ports into.port into.element (Receives (length links))
bare_joined ports links out into (Some c) = bare_bound ports out.port out.element (Sends c (next_sender (slice_get links c)))

pub joined_keeps : (ports : List DraftPort) (links : List Link) (out into : End) (link : Option ℕ) (end : End) → IsSome (binding_at ports end) → IsSome (binding_at (joined_ports ports links out into link) end)
joined_keeps ports links out into None end there = bound-keeps (bound ports into (Receives (length links))) out end (Sends (length links) 0) (bound-keeps ports into end (Receives (length links)) there)
joined_keeps ports links out into (Some c) end there = bound-keeps ports out end (Sends c (next_sender (slice_get links c))) there

module _ (table : List KindSpec) (ps : List (List ℕ × List ℕ)) (at : List PortAt) (joins : List Join) (given : List (End × List ℕ)) (draft : Draft) (agrees : Agrees table ps at joins given draft) where
  -- what is a sender of a connection of the text is one of the draft
  pub sender_is : (c k : ℕ) (end : End) → sender_at draft.links c k ≡ Some end → sends joins end ≡ true
  sender_is c k end is = sent_from joins c k end (ap (λ (l : List Link). sender_at l c k) (sym agrees.links) ∙ is)

  pub into_is : (c : ℕ) (end : End) → into_of draft.links c ≡ Some end → receives joins end ≡ true
  into_is c end is = received_from joins c end (ap (λ (l : List Link). into_of l c) (sym agrees.links) ∙ is)

  not_side : (end : End) (a b : Bool) → is_input_at draft.ports end ≡ Some a → is_input_at draft.ports end ≡ Some b → a ≢ b → ⊥
  not_side end a b p q ne = let same : a ≡ b = cc in ne same

  sends_side : (end : End) → sends joins end ≡ true → is_input_at draft.ports end ≡ Some false
  sends_side end is =
      let found = sent_to joins end is in
      agrees.sound.sided.sender found.0 found.1 end (ap (λ (l : List Link). sender_at l found.0 found.1) agrees.links ∙ found.2)

  receives_side : (end : End) → receives joins end ≡ true → is_input_at draft.ports end ≡ Some true
  receives_side end is =
      let found = received_to joins end is in
      (agrees.sound.sided.into found.0 end (ap (λ (l : List Link). into_of l found.0) agrees.links ∙ found.1)).0

  -- What an element is bound to, by what the text says of it.
  pub sends_bound : (end : End) → sends joins end ≡ true → (c : ℕ) × (k : ℕ) × (binding_at draft.ports end ≡ Some (Sends c k))
  sends_bound end is =
      let found = sent_to joins end is in
      (found.0, found.1, agrees.sound.listed.sent end found.0 found.1 (ap (λ (l : List Link). sender_at l found.0 found.1) agrees.links ∙ found.2))

  pub receives_bound : (end : End) → receives joins end ≡ true → (c : ℕ) × (binding_at draft.ports end ≡ Some (Receives c))
  receives_bound end is =
      let found = received_to joins end is in
      (found.0, agrees.sound.listed.received end found.0 (ap (λ (l : List Link). into_of l found.0) agrees.links ∙ found.1))

  pub text_bound : (end : End) → IsSome (binding_at draft.ports end) → has_text given end ≡ true → (k : ℕ) × (binding_at draft.ports end ≡ Some (Given k))
  text_bound end there is =
      let found = text_to table ps at joins given draft agrees end there is in
      (found.1, (agrees.sound.listed.given found.0 found.1 end found.2 found.3).0)

  pub given_is : (end : End) (k : ℕ) → binding_at draft.ports end ≡ Some (Given k) → has_text given end ≡ true
  given_is end k is = by (text_at draft.processes (process_at draft.ports end) k) refl (agrees.sound.listed.has end k is) where
    by : (o : Option (End × List ℕ)) → text_at draft.processes (process_at draft.ports end) k ≡ o → option_map (λ (t : End × List ℕ). t.0) o ≡ Some end → has_text given end ≡ true
    by None found is = absurd (cc)
    by (Some x) found is =
        let same : x.0 ≡ end = cc in
        ap (has_text given) (sym same) ∙ text_from table ps at joins given draft agrees (process_at draft.ports end) k x found

  text_side : (end : End) (k : ℕ) → binding_at draft.ports end ≡ Some (Given k) → is_input_at draft.ports end ≡ Some true
  text_side end k is = by (text_at draft.processes (process_at draft.ports end) k) refl (agrees.sound.listed.has end k is) where
    by : (o : Option (End × List ℕ)) → text_at draft.processes (process_at draft.ports end) k ≡ o → option_map (λ (t : End × List ℕ). t.0) o ≡ Some end → is_input_at draft.ports end ≡ Some true
    by None found is = absurd (cc)
    by (Some x) found is =
        let same : x.0 ≡ end = cc in
        subst (λ (e : End). is_input_at draft.ports e ≡ Some true) same (agrees.sound.sided.text (process_at draft.ports end) k x.0 x.1 found).0

  -- An output is taken where it sends.
  pub output_taken : (end : End) → is_input_at draft.ports end ≡ Some false → IsSome (binding_at draft.ports end) → is_taken (binding_at draft.ports end) ≡ sends joins end
  output_taken end side there = by (binding_at draft.ports end) refl there (sends joins end) refl where
    by : (o : Option Binding) → binding_at draft.ports end ≡ o → IsSome o → (s : Bool) → sends joins end ≡ s → is_taken o ≡ s
    by None is some s said = absurd (false≢true some)
    by (Some Free) is some true said = let found = sends_bound end said in absurd (cc (is, found.2))
    by (Some Free) is some false said = refl
    by (Some (Sends c k)) is some true said = refl
    by (Some (Sends c k)) is some false said = absurd (false≢true (sym said ∙ sender_is c k end (agrees.sound.listed.sends end c k is)))
    by (Some (Receives c)) is some s said = absurd (not_side end false true side (receives_side end (into_is c end (agrees.sound.listed.receives end c is))) false≢true)
    by (Some (Given k)) is some s said = absurd (not_side end false true side (text_side end k is) false≢true)

  -- An input is taken where it receives or has a text.
  pub input_taken : (end : End) → is_input_at draft.ports end ≡ Some true → IsSome (binding_at draft.ports end) → is_taken (binding_at draft.ports end) ≡ (receives joins end || has_text given end)
  input_taken end side there = by (binding_at draft.ports end) refl there (receives joins end) refl (has_text given end) refl where
    by : (o : Option Binding) → binding_at draft.ports end ≡ o → IsSome o → (r : Bool) → receives joins end ≡ r → (t : Bool) → has_text given end ≡ t → is_taken o ≡ (r || t)
    by None is some r rs t ts = absurd (false≢true some)
    by (Some Free) is some true rs t ts = let found = receives_bound end rs in absurd (cc (is, found.1))
    by (Some Free) is some false rs true ts = let found = text_bound end there ts in absurd (cc (is, found.1))
    by (Some Free) is some false rs false ts = refl
    by (Some (Sends c k)) is some r rs t ts = absurd (not_side end true false side (sends_side end (sender_is c k end (agrees.sound.listed.sends end c k is))) (λ e. false≢true (sym e)))
    by (Some (Receives c)) is some true rs t ts = refl
    by (Some (Receives c)) is some false rs t ts = absurd (false≢true (sym rs ∙ into_is c end (agrees.sound.listed.receives end c is)))
    by (Some (Given k)) is some true rs t ts = refl
    by (Some (Given k)) is some false rs true ts = refl
    by (Some (Given k)) is some false rs false ts = absurd (false≢true (sym ts ∙ given_is end k is))

  -- An input has a text where one was given.
  pub input_texted : (end : End) → IsSome (binding_at draft.ports end) → is_texted (binding_at draft.ports end) ≡ has_text given end
  input_texted end there = by (binding_at draft.ports end) refl there (has_text given end) refl where
    by : (o : Option Binding) → binding_at draft.ports end ≡ o → IsSome o → (t : Bool) → has_text given end ≡ t → is_texted o ≡ t
    by None is some t ts = absurd (false≢true some)
    by (Some Free) is some true ts = let found = text_bound end there ts in absurd (cc (is, found.1))
    by (Some Free) is some false ts = refl
    by (Some (Sends c k)) is some true ts = let found = text_bound end there ts in absurd (cc (is, found.1))
    by (Some (Sends c k)) is some false ts = refl
    by (Some (Receives c)) is some true ts = let found = text_bound end there ts in absurd (cc (is, found.1))
    by (Some (Receives c)) is some false ts = refl
    by (Some (Given k)) is some true ts = refl
    by (Some (Given k)) is some false ts = absurd (false≢true (sym ts ∙ given_is end k is))

  -- The connection into an input: its number among the receivers.
  pub linked_at : (end : End) (c : ℕ) → link_into draft.ports end ≡ Some c → slice_get (receivers joins) c ≡ Some end
  linked_at end c is =
      let found = bound_to (binding_at draft.ports end) refl is in
      into_receiver joins c end (ap (λ (l : List Link). into_of l c) (sym agrees.links) ∙ agrees.sound.listed.receives end c found)
    where
      bound_to : (o : Option Binding) → binding_at draft.ports end ≡ o → option_and_then receives_from o ≡ Some c → binding_at draft.ports end ≡ Some (Receives c)
      bound_to None is there = absurd (cc)
      bound_to (Some Free) is there = absurd (cc)
      bound_to (Some (Sends d k)) is there = absurd (cc)
      bound_to (Some (Given k)) is there = absurd (cc)
      bound_to (Some (Receives d)) is there = let same : d ≡ c = cc in is ∙ ap (λ (n : ℕ). Some (Receives n)) same

  receives_link : (end : End) → receives joins end ≡ true → IsSome (link_into draft.ports end)
  receives_link end is = let found = receives_bound end is in ap (λ (o : Option Binding). is_some (option_and_then receives_from o)) found.1

  pub unlinked : (end : End) → link_into draft.ports end ≡ None → receives joins end ≡ false
  unlinked end none = by (receives joins end) refl where
    by : (r : Bool) → receives joins end ≡ r → r ≡ false
    by false is = refl
    by true is = absurd (false≢true (ap is_some (sym none) ∙ receives_link end is))

  pub linked_once : (end : End) (c : ℕ) → link_into draft.ports end ≡ Some c → (d : ℕ) → slice_get (receivers joins) d ≡ Some end → d ≡ c
  linked_once end c is d there =
      let bound_d : binding_at draft.ports end ≡ Some (Receives d) = agrees.sound.listed.received end d (ap (λ (l : List Link). into_of l d) agrees.links ∙ receiver_into joins d end there) in
      let link_d : link_into draft.ports end ≡ Some d = ap (option_and_then receives_from) bound_d in
      cc

  -- What a draft says of the next connect statement is what the text says.
  pub joins_alike : (from : List ℕ) (out : PortRef) (capacity : Option ℕ) (to : List ℕ) (into : PortRef) (ends : End × End) → ends_of draft.processes draft.ports from out to into ≡ Ok ends
      → may_join draft.ports draft.links from out to into capacity ends.0 ends.1 ≡ join_test at joins given from out capacity to into ends
  joins_alike from out capacity to into ends is =
      let there = AreThere-ends draft.processes draft.ports (length draft.processes) from out to into ends agrees.sound.ports is in
      chained (stream_is draft.ports ends.1 ∙ ap (λ (l : List PortAt). is_stream_end l ends.1) agrees.ports) (output_taken ends.0 there.output.side there.output.bound) (input_texted ends.1 there.input.bound)
      (before_is (link_into draft.ports ends.1) refl) (full_is (link_into draft.ports ends.1) refl)
    where
      rest : Bool → Bool → Option ℕ → Bool → Result (Unit {0}) PlanFault
      rest taken texted before full = do
        b ← allowed_capacity capacity
        c ← refused_if taken (PortTaken from out)
        d ← refused_if texted (PortTaken to into)
        e ← same_capacity before capacity
        refused_if full (TooMany many.Connections)

      chain : Bool → Bool → Bool → Option ℕ → Bool → Result (Unit {0}) PlanFault
      chain stream taken texted before full = refused_if (not stream) (NeedsInitial to into) >>= λ a. rest taken texted before full

      negated : (b : Bool) → (if b then false else true) ≡ not b
      negated true = refl
      negated false = refl

      chained : {s t : Bool} → is_stream_at draft.ports ends.1 ≡ s → is_taken (binding_at draft.ports ends.0) ≡ t → {u : Bool} → is_texted (binding_at draft.ports ends.1) ≡ u → {b : Option ℕ} → capacity_before draft.links (link_into draft.ports ends.1) ≡ b
          → {f : Bool} → is_full_link draft.links (link_into draft.ports ends.1) ≡ f → may_join draft.ports draft.links from out to into capacity ends.0 ends.1 ≡ chain s t u b f
      chained {s} {t} p q {u} r {b} v {f} w =
          ap (λ (x : Bool). refused_if x (NeedsInitial to into) >>= λ a. rest (is_taken (binding_at draft.ports ends.0)) (is_texted (binding_at draft.ports ends.1)) (capacity_before draft.links (link_into draft.ports ends.1)) (is_full_link draft.links (link_into draft.ports ends.1))) (negated (is_stream_at draft.ports ends.1))
          ∙ ap (λ (x : Bool). chain x (is_taken (binding_at draft.ports ends.0)) (is_texted (binding_at draft.ports ends.1)) (capacity_before draft.links (link_into draft.ports ends.1)) (is_full_link draft.links (link_into draft.ports ends.1))) p
          ∙ ap (λ (x : Bool). chain s x (is_texted (binding_at draft.ports ends.1)) (capacity_before draft.links (link_into draft.ports ends.1)) (is_full_link draft.links (link_into draft.ports ends.1))) q
          ∙ ap (λ (x : Bool). chain s t x (capacity_before draft.links (link_into draft.ports ends.1)) (is_full_link draft.links (link_into draft.ports ends.1))) r
          ∙ ap (λ (x : Option ℕ). chain s t u x (is_full_link draft.links (link_into draft.ports ends.1))) v
          ∙ ap (λ (x : Bool). chain s t u b x) w

      before_is : (o : Option ℕ) → link_into draft.ports ends.1 ≡ o → capacity_before draft.links o ≡ capacity_given (joins_into joins ends.1)
      before_is None none = ap capacity_given (sym (not_among joins ends.1 (sym (receives_has joins ends.1) ∙ unlinked ends.1 none)))
      before_is (Some c) some =
          ap (λ (l : List Link). capacity_before l (Some c)) agrees.links
          ∙ ap (option_and_then (λ (l : Link). l.capacity)) (slice_get-map (link_to joins) (receivers joins) c ∙ ap (option_map (link_to joins)) (linked_at ends.1 c some))

      full_is : (o : Option ℕ) → link_into draft.ports ends.1 ≡ o → is_full_link draft.links o ≡ is_full joins ends.1
      full_is None none =
          ap (λ (l : List Link). nat_le CONNECTION_LIMIT (length l)) agrees.links ∙ ap (λ (n : ℕ). nat_le CONNECTION_LIMIT n) (length-map (receivers joins) (link_to joins))
          ∙ ap (λ (b : Bool). if b then nat_le SENDER_LIMIT (length (joins_into joins ends.1)) else nat_le CONNECTION_LIMIT (length (receivers joins))) (sym (unlinked ends.1 none))
      full_is (Some c) some =
          ap (λ (l : List Link). has_all_senders (slice_get l c)) agrees.links
          ∙ ap has_all_senders (slice_get-map (link_to joins) (receivers joins) c ∙ ap (option_map (link_to joins)) (linked_at ends.1 c some))
          ∙ ap (λ (n : ℕ). nat_le SENDER_LIMIT n) (length-map (joins_into joins ends.1) (λ (j : Join). j.out))
          ∙ ap (λ (b : Bool). if b then nat_le SENDER_LIMIT (length (joins_into joins ends.1)) else nat_le CONNECTION_LIMIT (length (receivers joins))) (sym (receives_has joins ends.1 ∙ firsts_come (intos joins) ends.1 c (linked_at ends.1 c some)))

  -- The draft with one more connection agrees with the text with one more connect statement.
  pub agrees_joined : (from : List ℕ) (out : PortRef) (capacity : Option ℕ) (to : List ℕ) (into : PortRef) (ends : End × End) (u : Unit {0}) → ends_of draft.processes draft.ports from out to into ≡ Ok ends
      → may_join draft.ports draft.links from out to into capacity ends.0 ends.1 ≡ Ok u → Agrees table ps at (joins ++ record { out = ends.0; into = ends.1; capacity = capacity } ∷ []) given (joined draft ends.0 ends.1 capacity)
  agrees_joined from out capacity to into ends u is may = record {
    sound = IsSound-joined draft from out to into capacity ends.0 ends.1 u agrees.sound is may;
    kinds = agrees.kinds;
    names = agrees.names;
    ports = bare_joined draft.ports draft.links ends.0 ends.1 (link_into draft.ports ends.1) ∙ agrees.ports;
    links = ap (λ (l : List Link). joined_links l ends.0 ends.1 capacity (link_into draft.ports ends.1)) agrees.links ∙ by (link_into draft.ports ends.1) refl;
    texts = agrees.texts;
    there = λ k t is. joined_keeps draft.ports draft.links ends.0 ends.1 (link_into draft.ports ends.1) t.0 (agrees.there k t is);
  }
    where
      join : Join
      join = record { out = ends.0; into = ends.1; capacity = capacity }

      by : (o : Option ℕ) → link_into draft.ports ends.1 ≡ o → joined_links (links_of joins) ends.0 ends.1 capacity o ≡ links_of (joins ++ join ∷ [])
      by None none = sym (links_opened joins join (sym (receives_has joins ends.1) ∙ unlinked ends.1 none))
      by (Some c) some = sym (links_joined joins join c (linked_at ends.1 c some) (linked_once ends.1 c some))
