-- A draft stays sound when an output is joined to an input.
use Rattle.flow_limits.specs.declared.TheConstants.{CAPACITY_LIMIT, CONNECTION_LIMIT, SENDER_LIMIT}
use Rattle.std.proofs.Common.{◌≡◌, ◌≢◌, ℕ, ◌<◌, ◌≤◌, List, [], ◌∷◌, ◌++◌, Option, Some, None, Ok, true, false, refl, ap, sym, ◌∙◌, subst, inl, inr, ◌⊎◌, IsSome, slice_get, slice_set, length, arith, length-append}
use Rattle.std.specs.Prelude.{nat_le}
use Rattle.std.specs.Option.{option_map}
use Rattle.std.proofs.lemmas.Bool.Decides.{nat_tests}
use Rattle.std.proofs.Math.ListN.{length-set}
use Rattle.flow_net.specs.declared.draft.End.{End}
use Rattle.flow_net.specs.declared.draft.DraftPort.{DraftPort}
use Rattle.flow_net.specs.declared.draft.Link.{Link}
use Rattle.flow_net.specs.declared.draft.DraftProcess.{DraftProcess}
use Rattle.flow_net.specs.declared.draft.Binding.{Binding}
use Rattle.flow_net.specs.declared.draft.Binding.TheVariants.{Free, Receives, Sends}
use Rattle.flow_plan.specs.declared.kind.PortRef.{PortRef}
use Rattle.flow_net.specs.Drafts.{Draft, binding_at, bound, updated}
use Rattle.flow_net.specs.Calls.{ends_of, may_join, link_into, joined, joined_ports, joined_links, with_sender, first_given, next_sender, is_full, has_all_senders}
use Rattle.flow_net.specs.Sound.{IsSound, IsPort, IsLink, IsListed, IsSided, is_input_at}
use Rattle.flow_net.proofs.Places.{same_or_not, slice_get-updated_same, slice_get-updated_other, length-updated}
use Rattle.flow_net.proofs.Wiring.{Rebound-bound, SameOutline-bound, is_input_at-same, slice_get-push_cases, slice_get-push_end}
use Rattle.flow_net.proofs.Bindings.{bound-keeps}
use Rattle.flow_net.proofs.Steps.{SendsOne, OpensOne-push, SendsOne-updated, map_some}
use Rattle.flow_net.proofs.Listing.{IsListed-opened, IsListed-sent, IsSided-opened, IsSided-sent}
use Rattle.flow_net.proofs.Shapes.{IsShaped-joined}
use Rattle.flow_net.proofs.Ends.{AreThere, AreThere-ends, MayJoin, MayJoin-ok, free_at, link_into-bound, unlinked_free}

pub updated-push : {X : Type 0} (f : X → X) (xs : List X) (x : X) → updated f (xs ++ x ∷ []) (length xs) ≡ xs ++ f x ∷ []
updated-push f [] x = refl
updated-push f (y ∷ xs) x = ap (λ zs. y ∷ zs) (updated-push f xs x)

-- ports are ports after one element was bound
pub IsPort-bound : (n : ℕ) (ports : List DraftPort) (end : End) (b : Binding) → ((g : ℕ) (p : DraftPort) → slice_get ports g ≡ Some p → IsPort n p) → (g : ℕ) (p : DraftPort) → slice_get (bound ports end b) g ≡ Some p → IsPort n p
IsPort-bound n ports end b all g p is = by (same_or_not g end.port)
  where
    change : DraftPort → DraftPort
    change port = record port { elements = slice_set port.elements end.element b }

    by : (g ≡ end.port) ⊎ (g ≢ end.port) → IsPort n p
    by (inl e) =
        let was = map_some (λ (port : DraftPort). record port { elements = slice_set port.elements end.element b }) (slice_get ports end.port) p (sym (slice_get-updated_same (λ (port : DraftPort). record port { elements = slice_set port.elements end.element b }) ports end.port) ∙ ap (slice_get (bound ports end b)) (sym e) ∙ is) in
        let port = all end.port was.0 was.1 in
        subst (IsPort n) was.2
        (record {
          process = port.process;
          room = length-set was.0.elements end.element b ∙ port.room;
          input = port.input;
          array = port.array;
          single = port.single;
          output = port.output;
        })
    by (inr ne) = all g p (sym (slice_get-updated_other (λ (port : DraftPort). record port { elements = slice_set port.elements end.element b }) ports end.port g ne) ∙ is)

first_given_allowed : (before now : Option ℕ) → ((n : ℕ) → before ≡ Some n → (1 ≤ n) × (n ≤ CAPACITY_LIMIT)) → ((n : ℕ) → now ≡ Some n → (1 ≤ n) × (n ≤ CAPACITY_LIMIT)) → (n : ℕ) → first_given before now ≡ Some n → (1 ≤ n) × (n ≤ CAPACITY_LIMIT)
first_given_allowed (Some m) now before after n is = before n is
first_given_allowed None now before after n is = after n is

first_given-none : (now : Option ℕ) → first_given None now ≡ now
first_given-none now = refl

-- connections are connections after one more sender of one that isn't full
pub IsLink-updated : (links : List Link) (n : ℕ) (link : Link) (out : End) (capacity : Option ℕ) → ((c : ℕ) (l : Link) → slice_get links c ≡ Some l → IsLink l) → slice_get links n ≡ Some link → length link.senders < SENDER_LIMIT → ((m : ℕ) → capacity ≡ Some m → (1 ≤ m) × (m ≤ CAPACITY_LIMIT)) → (c : ℕ) (l : Link) → slice_get (updated (with_sender out capacity) links n) c ≡ Some l → IsLink l
IsLink-updated links n link out capacity all here room allowed c l is = by (same_or_not c n)
  where
    by : (c ≡ n) ⊎ (c ≢ n) → IsLink l
    by (inl e) =
        let now : Some (with_sender out capacity link) ≡ Some l =
        sym (ap (option_map (with_sender out capacity)) here) ∙ sym (slice_get-updated_same (with_sender out capacity) links n) ∙ ap (slice_get (updated (with_sender out capacity) links n)) (sym e) ∙ is in
        let whole : with_sender out capacity link ≡ l = cc in
        subst IsLink whole
        (record {
          capacity = first_given_allowed link.capacity capacity ((all n link here).capacity) allowed;
          senders = omega (arith, length-append link.senders (out ∷ []));
        })
    by (inr ne) = all c l (sym (slice_get-updated_other (with_sender out capacity) links n c ne) ∙ is)

pub IsLink-push : (links : List Link) (link : Link) → ((c : ℕ) (l : Link) → slice_get links c ≡ Some l → IsLink l) → IsLink link → (c : ℕ) (l : Link) → slice_get (links ++ link ∷ []) c ≡ Some l → IsLink l
IsLink-push links link all new c l is = by (slice_get-push_cases links link l c is)
  where
    by : (slice_get links c ≡ Some l) ⊎ ((c ≡ length links) × (link ≡ l)) → IsLink l
    by (inl old) = all c l old
    by (inr last) = subst IsLink last.1 new

-- What a join leaves, whichever way it went.
pub record Joins (ports : List DraftPort) (processes : List DraftProcess) (n : ℕ) (after : List DraftPort) (linked : List Link) : Type 0 where
  pub count : length after ≡ length ports
  pub few : length linked ≤ CONNECTION_LIMIT
  pub each_port : (g : ℕ) (p : DraftPort) → slice_get after g ≡ Some p → IsPort n p
  pub each_link : (c : ℕ) (l : Link) → slice_get linked c ≡ Some l → IsLink l
  pub listed : IsListed after processes linked
  pub sided : IsSided after processes linked

module _ (ports : List DraftPort) (processes : List DraftProcess) (links : List Link) (n : ℕ) (out into : End) (capacity : Option ℕ)
    (each_port : (g : ℕ) (p : DraftPort) → slice_get ports g ≡ Some p → IsPort n p)
    (each_link : (c : ℕ) (l : Link) → slice_get links c ≡ Some l → IsLink l)
    (few : length links ≤ CONNECTION_LIMIT)
    (listed : IsListed ports processes links)
    (sided : IsSided ports processes links)
    (there : AreThere ports (out, into))
    (may : MayJoin ports links capacity out into) where
  no_sender : (c k : ℕ) → binding_at ports into ≡ Some (Sends c k) → ⊥
  no_sender c k is =
      let side : is_input_at ports into ≡ Some false = sided.sender c k into (listed.sends into c k is) in
      let other : is_input_at ports into ≡ Some true = there.input.side in
      cc

  Joins-new : link_into ports into ≡ None → is_full links None ≡ false → Joins ports processes n (joined_ports ports links out into None) (joined_links links out into capacity None)
  Joins-new unlinked room = record {
    count = length-updated _ (bound ports into (Receives (length links))) out.port ∙ length-updated _ ports into.port;
    few = omega (arith, length-append links (whole ∷ []), space);
    each_port = IsPort-bound n opened_ports out (Sends (length links) 0) (IsPort-bound n ports into (Receives (length links)) each_port);
    each_link = IsLink-push links whole each_link (record { capacity = may.allowed; senders = omega arith });
    listed = subst (IsListed after processes) links_are (IsListed-sent opened_ports after processes opened_links (updated (with_sender out capacity) opened_links (length links)) (length links) 0 out opened_listed out_free (Rebound-bound opened_ports out (Sends (length links) 0) out_there) (SameOutline-bound opened_ports out (Sends (length links) 0)) (SendsOne-updated opened_links (length links) empty out capacity (slice_get-push_end links empty)));
    sided = subst (IsSided after processes) links_are (IsSided-sent opened_ports after processes opened_links (updated (with_sender out capacity) opened_links (length links)) (length links) 0 out opened_sided (is_input_at-same ports opened_ports out (SameOutline-bound ports into (Receives (length links))) ∙ there.output.side) (SameOutline-bound opened_ports out (Sends (length links) 0)) (SendsOne-updated opened_links (length links) empty out capacity (slice_get-push_end links empty)));
  }
    where
      empty : Link
      empty = record { into = into; capacity = None; senders = [] }

      whole : Link
      whole = record { into = into; capacity = capacity; senders = out ∷ [] }

      space : length links < CONNECTION_LIMIT
      space = grind (arith, nat_tests, room)

      opened_ports : List DraftPort
      opened_ports = bound ports into (Receives (length links))

      opened_links : List Link
      opened_links = links ++ empty ∷ []

      after : List DraftPort
      after = bound opened_ports out (Sends (length links) 0)

      links_are : updated (with_sender out capacity) opened_links (length links) ≡ links ++ whole ∷ []
      links_are = updated-push (with_sender out capacity) links empty

      into_free : binding_at ports into ≡ Some Free
      into_free = unlinked_free ports into there.input.bound unlinked may.ungiven no_sender

      apart : out ≢ into
      apart same =
          let one : is_input_at ports out ≡ Some false = there.output.side in
          let two : is_input_at ports into ≡ Some true = there.input.side in
          let both : is_input_at ports out ≡ is_input_at ports into = ap (is_input_at ports) same in
          cc

      out_free : binding_at opened_ports out ≡ Some Free
      out_free = (Rebound-bound ports into (Receives (length links)) there.input.bound).others out apart ∙ free_at ports out there.output.bound may.free

      out_there : IsSome (binding_at opened_ports out)
      out_there = bound-keeps ports into out (Receives (length links)) there.output.bound

      opened_listed : IsListed opened_ports processes opened_links
      opened_listed = IsListed-opened ports opened_ports processes links opened_links (length links) into listed into_free (Rebound-bound ports into (Receives (length links)) there.input.bound) (SameOutline-bound ports into (Receives (length links))) (OpensOne-push links empty refl)

      opened_sided : IsSided opened_ports processes opened_links
      opened_sided = IsSided-opened ports opened_ports processes links opened_links (length links) into sided there.input.side may.stream (SameOutline-bound ports into (Receives (length links))) (OpensOne-push links empty refl)

  Joins-old : (c : ℕ) → link_into ports into ≡ Some c → is_full links (Some c) ≡ false → Joins ports processes n (joined_ports ports links out into (Some c)) (joined_links links out into capacity (Some c))
  Joins-old c linked room = record {
    count = length-updated _ ports out.port;
    few = omega (arith, length-updated (with_sender out capacity) links c);
    each_port = IsPort-bound n ports out (Sends c (next_sender (slice_get links c))) each_port;
    each_link = IsLink-updated links c link out capacity each_link here space may.allowed;
    listed = IsListed-sent ports after processes links (updated (with_sender out capacity) links c) c (next_sender (slice_get links c)) out listed (free_at ports out there.output.bound may.free) (Rebound-bound ports out (Sends c (next_sender (slice_get links c))) there.output.bound) (SameOutline-bound ports out (Sends c (next_sender (slice_get links c)))) sends;
    sided = IsSided-sent ports after processes links (updated (with_sender out capacity) links c) c (next_sender (slice_get links c)) out sided there.output.side (SameOutline-bound ports out (Sends c (next_sender (slice_get links c)))) sends;
  }
    where
      found : (l : Link) × (slice_get links c ≡ Some l) × (l.into ≡ into)
      found = map_some (λ (l : Link). l.into) (slice_get links c) into (listed.receives into c (link_into-bound ports into c linked))

      link : Link
      link = found.0

      here : slice_get links c ≡ Some link
      here = found.1

      full : nat_le SENDER_LIMIT (length link.senders) ≡ false
      full = ap has_all_senders (sym here) ∙ room

      space : length link.senders < SENDER_LIMIT
      space = grind (arith, nat_tests, full)

      after : List DraftPort
      after = bound ports out (Sends c (next_sender (slice_get links c)))

      sends : SendsOne links (updated (with_sender out capacity) links c) c (next_sender (slice_get links c)) out
      sends = subst (λ (k : ℕ). SendsOne links (updated (with_sender out capacity) links c) c k out) (sym (ap next_sender here)) (SendsOne-updated links c link out capacity here)

  pub Joins-any : Joins ports processes n (joined_ports ports links out into (link_into ports into)) (joined_links links out into capacity (link_into ports into))
  Joins-any = by (link_into ports into) refl may.room
    where
      by : (o : Option ℕ) → link_into ports into ≡ o → is_full links o ≡ false → Joins ports processes n (joined_ports ports links out into o) (joined_links links out into capacity o)
      by None is room = Joins-new is room
      by (Some c) is room = Joins-old c is room

-- A connection that may be made keeps a draft sound.
pub IsSound-joined : (draft : Draft) (from : List ℕ) (out : PortRef) (to : List ℕ) (into : PortRef) (capacity : Option ℕ) (output input : End) (u : Unit {0}) → IsSound draft → ends_of draft.processes draft.ports from out to into ≡ Ok (output, input) → may_join draft.ports draft.links from out to into capacity output input ≡ Ok u → IsSound (joined draft output input capacity)
IsSound-joined draft from out to into capacity output input u sound ends may =
    let there = AreThere-ends draft.processes draft.ports (length draft.processes) from out to into (output, input) sound.ports ends in
    let joins = Joins-any draft.ports draft.processes draft.links (length draft.processes) output input capacity sound.ports sound.links sound.few_links sound.listed sound.sided there (MayJoin-ok draft.ports draft.links from out to into capacity output input u may) in
    record {
      kinds = sound.kinds;
      few_processes = sound.few_processes;
      few_ports = omega (arith, joins.count, sound.few_ports);
      few_links = joins.few;
      numbers = sound.numbers;
      names = sound.names;
      ports = joins.each_port;
      links = joins.each_link;
      listed = joins.listed;
      sided = joins.sided;
      shaped = IsShaped-joined draft.kinds draft.processes draft.ports draft.links output input (link_into draft.ports input) sound.shaped;
    }
