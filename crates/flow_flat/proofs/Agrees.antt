-- A draft agrees with the text that it was told, and says of the next connect statement what the text says.
use Rattle.std.proofs.Common.{◌≡◌, ℕ, ◌<◌, Bool, true, false, List, [], ◌∷◌, map, length, zero, suc, Option, Some, None, IsSome, refl, ap, sym, ◌∙◌, ◌⊎◌, inl, inr, slice_get}
use Rattle.std.specs.Prelude.{◌==◌, ◌||◌}
use Rattle.std.specs.List.{filter, list_any}
use Rattle.std.specs.Option.{option_and_then, option_map, option_map_or}
use Rattle.std.proofs.lemmas.Bool.{false≢true}
use Rattle.std.proofs.lemmas.Option.{slice_get-map}
use Rattle.flow_net.specs.declared.draft.End.{End}
use Rattle.flow_net.specs.declared.draft.DraftPort.{DraftPort}
use Rattle.flow_net.specs.declared.draft.DraftProcess.{DraftProcess}
use Rattle.flow_net.specs.declared.draft.Link.{Link}
use Rattle.flow_plan.specs.declared.kind.KindSpec.{KindSpec}
use Rattle.flow_net.specs.Drafts.{Draft, binding_at}
use Rattle.flow_net.specs.Calls.{process_at}
use Rattle.flow_net.specs.Sound.{IsSound, into_of, sender_at, text_at}
use Rattle.flow_net.proofs.Steps.{map_some, then_some}
use Rattle.flow_net.proofs.SoundGives.{some_at}
use Rattle.flow_net.proofs.Sides.{eqb_refl}
use Rattle.flow_flat.specs.Names.{PortAt, Join}
use Rattle.flow_flat.specs.Plans.{same_element, joins_into, receivers}
use Rattle.flow_flat.specs.Faults.{sends, receives, has_text}
use Rattle.flow_flat.proofs.Links.{same_element_is, same_element_refl, has, firsts_have, firsts_come, filter_keeps, filter_comes, link_to, links_of, intos}
use Rattle.flow_flat.proofs.Lookups.{bare, called}

-- The number of an element's process.
abbrev pub owner : List PortAt → End → ℕ
owner ports end = option_map_or (λ (port : PortAt). port.process) (slice_get ports end.port) 0

-- The texts of a process, in order.
abbrev pub texts_at : List PortAt → List (End × List ℕ) → ℕ → List (End × List ℕ)
texts_at ports texts p = filter (λ (t : End × List ℕ). owner ports t.0 == p) texts

-- A draft has these processes and ports, and these connect statements and texts.
pub record Agrees (table : List KindSpec) (ps : List (List ℕ × List ℕ)) (at : List PortAt) (joins : List Join) (given : List (End × List ℕ)) (draft : Draft) : Type 0 where
  pub sound : IsSound draft
  pub kinds : draft.kinds ≡ table
  pub names : map called draft.processes ≡ ps
  pub ports : map bare draft.ports ≡ at
  pub links : draft.links ≡ links_of joins
  pub texts : (p : ℕ) (begun : DraftProcess) → slice_get draft.processes p ≡ Some begun → begun.texts ≡ texts_at at given p
  pub there : (k : ℕ) (t : End × List ℕ) → slice_get given k ≡ Some t → IsSome (binding_at draft.ports t.0)

-- Where some member passes, one at some place does.
pub any_at : {X : Type 0} (p : X → Bool) (xs : List X) → list_any p xs ≡ true → (k : ℕ) × (x : X) × (slice_get xs k ≡ Some x) × (p x ≡ true)
any_at p [] is = absurd (false≢true is)
any_at {X} p (y ∷ ys) is = by (p y) refl (λ rest. any_at p ys rest) is where
  by : (b : Bool) → p y ≡ b → (list_any p ys ≡ true → (k : ℕ) × (x : X) × (slice_get ys k ≡ Some x) × (p x ≡ true)) → (b || list_any p ys) ≡ true → (k : ℕ) × (x : X) × (slice_get (y ∷ ys) k ≡ Some x) × (p x ≡ true)
  by true test more is = (0, y, refl, test)
  by false test more is = let found = more is in (suc found.0, found.1, found.2, found.3)

pub any_of : {X : Type 0} (p : X → Bool) (xs : List X) (k : ℕ) (x : X) → slice_get xs k ≡ Some x → p x ≡ true → list_any p xs ≡ true
any_of p [] k x is passes = absurd (cc)
any_of p (y ∷ ys) zero x is passes = let same : y ≡ x = cc in ap (λ b. b || list_any p ys) (ap p same ∙ passes)
any_of p (y ∷ ys) (suc k) x is passes = by (p y) (any_of p ys k x is passes) where
  by : (b : Bool) → list_any p ys ≡ true → (b || list_any p ys) ≡ true
  by true rest = refl
  by false rest = rest

-- An element receives exactly where some connection leads to it.
pub receives_has : (js : List Join) (x : End) → receives js x ≡ has (intos js) x
receives_has [] x = refl
receives_has (j ∷ js) x = ap (λ b. same_element j.into x || b) (receives_has js x)

-- The input of connection c is the c-th receiver.
pub into_receiver : (js : List Join) (c : ℕ) (x : End) → into_of (links_of js) c ≡ Some x → slice_get (receivers js) c ≡ Some x
into_receiver js c x is =
    let found = map_some (λ (l : Link). l.into) (slice_get (links_of js) c) x is in
    let at = map_some (link_to js) (slice_get (receivers js) c) found.0 (sym (slice_get-map (link_to js) (receivers js) c) ∙ found.1) in
    at.1 ∙ ap Some (ap (λ (l : Link). l.into) at.2 ∙ found.2)

-- The c-th receiver is the input of connection c.
pub receiver_into : (js : List Join) (c : ℕ) (x : End) → slice_get (receivers js) c ≡ Some x → into_of (links_of js) c ≡ Some x
receiver_into js c x is = ap (option_map (λ (l : Link). l.into)) (slice_get-map (link_to js) (receivers js) c ∙ ap (option_map (link_to js)) is)

-- The input of a connection receives.
pub received_from : (js : List Join) (c : ℕ) (x : End) → into_of (links_of js) c ≡ Some x → receives js x ≡ true
received_from js c x is = receives_has js x ∙ firsts_come (intos js) x c (into_receiver js c x is)

-- An input that receives has a connection.
pub received_to : (js : List Join) (x : End) → receives js x ≡ true → (c : ℕ) × (into_of (links_of js) c ≡ Some x)
received_to js x is =
    let found = firsts_have (intos js) x (sym (receives_has js x) ∙ is) in
    (found.0, receiver_into js found.0 x found.1)

-- A sender of a connection sends.
pub sent_from : (js : List Join) (c k : ℕ) (x : End) → sender_at (links_of js) c k ≡ Some x → sends js x ≡ true
sent_from js c k x is =
    let found = then_some (λ (l : Link). slice_get l.senders k) (slice_get (links_of js) c) x is in
    let at = map_some (link_to js) (slice_get (receivers js) c) found.0 (sym (slice_get-map (link_to js) (receivers js) c) ∙ found.1) in
    let sender = map_some (λ (j : Join). j.out) (slice_get (joins_into js at.0) k) x (sym (slice_get-map (λ (j : Join). j.out) (joins_into js at.0) k) ∙ ap (λ (l : Link). slice_get l.senders k) at.2 ∙ found.2) in
    let one = filter_comes (λ (j : Join). same_element j.into at.0) js k sender.0 sender.1 in
    any_of (λ (j : Join). same_element j.out x) js one.0 sender.0 one.1 (ap (λ (e : End). same_element e x) sender.2 ∙ same_element_refl x)

-- An output that sends is a sender of some connection.
pub sent_to : (js : List Join) (x : End) → sends js x ≡ true → (c : ℕ) × (k : ℕ) × (sender_at (links_of js) c k ≡ Some x)
sent_to js x is =
    let found = any_at (λ (j : Join). same_element j.out x) js is in
    let out : found.1.out ≡ x = same_element_is found.1.out x found.3 in
    let into : receives js found.1.into ≡ true = any_of (λ (j : Join). same_element j.into found.1.into) js found.0 found.1 found.2 (same_element_refl found.1.into) in
    let at = firsts_have (intos js) found.1.into (sym (receives_has js found.1.into) ∙ into) in
    let kept = filter_keeps (λ (j : Join). same_element j.into found.1.into) js found.0 found.1 (same_element_refl found.1.into) found.2 in (
      at.0,
      kept.0,
      ap (option_and_then (λ (l : Link). slice_get l.senders kept.0)) (slice_get-map (link_to js) (receivers js) at.0 ∙ ap (option_map (link_to js)) at.1)
          ∙ slice_get-map (λ (j : Join). j.out) (joins_into js found.1.into) kept.0 ∙ ap (option_map (λ (j : Join). j.out)) kept.1 ∙ ap Some out,
    )

pub is_true_or_false : (b : Bool) → (b ≡ true) ⊎ (b ≡ false)
is_true_or_false true = inl refl
is_true_or_false false = inr refl

-- A port belongs to the same process with its bindings and without.
pub owner_is : (ports : List DraftPort) (end : End) → process_at ports end ≡ owner (map bare ports) end
owner_is ports end = by (slice_get ports end.port) ∙ ap (λ (o : Option PortAt). option_map_or (λ (port : PortAt). port.process) o 0) (sym (slice_get-map bare ports end.port))
  where
    by : (o : Option DraftPort) → option_map_or (λ (port : DraftPort). port.process) o 0 ≡ option_map_or (λ (port : PortAt). port.process) (option_map bare o) 0
    by None = refl
    by (Some port) = refl

-- The texts that a draft holds are those of the text.
pub text_from : (table : List KindSpec) (ps : List (List ℕ × List ℕ)) (at : List PortAt) (joins : List Join) (given : List (End × List ℕ)) (draft : Draft) → Agrees table ps at joins given draft
    → (p k : ℕ) (x : End × List ℕ) → text_at draft.processes p k ≡ Some x → has_text given x.0 ≡ true
text_from table ps at joins given draft agrees p k x is =
    let found = then_some (λ (b : DraftProcess). slice_get b.texts k) (slice_get draft.processes p) x is in
    let there : slice_get (texts_at at given p) k ≡ Some x = ap (λ (l : List (End × List ℕ)). slice_get l k) (sym (agrees.texts p found.0 found.1)) ∙ found.2 in
    let one = filter_comes (λ (t : End × List ℕ). owner at t.0 == p) given k x there in
    any_of (λ (t : End × List ℕ). same_element t.0 x.0) given one.0 x one.1 (same_element_refl x.0)

pub port_there : (draft : Draft) → IsSound draft → (end : End) → IsSome (binding_at draft.ports end) → process_at draft.ports end < length draft.processes
port_there draft sound end there = by (slice_get draft.ports end.port) refl there where
  by : (o : Option DraftPort) → slice_get draft.ports end.port ≡ o → IsSome (option_and_then (λ (port : DraftPort). slice_get port.elements end.element) o) → option_map_or (λ (port : DraftPort). port.process) o 0 < length draft.processes
  by None is there = absurd (false≢true there)
  by (Some port) is there = (sound.ports end.port port is).process

-- An element that has a text is the end of a text of the draft.
pub text_to : (table : List KindSpec) (ps : List (List ℕ × List ℕ)) (at : List PortAt) (joins : List Join) (given : List (End × List ℕ)) (draft : Draft) → Agrees table ps at joins given draft
    → (end : End) → IsSome (binding_at draft.ports end) → has_text given end ≡ true → (p : ℕ) × (k : ℕ) × (text : List ℕ) × (text_at draft.processes p k ≡ Some (end, text))
text_to table ps at joins given draft agrees end there is =
    let found = any_at (λ (t : End × List ℕ). same_element t.0 end) given is in
    let same : found.1.0 ≡ end = same_element_is found.1.0 end found.3 in
    let p : ℕ = process_at draft.ports end in
    let begun = some_at draft.processes p (port_there draft agrees.sound end there) in
    let owned : owner at found.1.0 ≡ p = ap (owner at) same ∙ sym (owner_is draft.ports end ∙ ap (λ (l : List PortAt). owner l end) agrees.ports) in
    let passes : (owner at found.1.0 == p) ≡ true = ap (λ n. n == p) owned ∙ eqb_refl p in
    let kept = filter_keeps (λ (t : End × List ℕ). owner at t.0 == p) given found.0 found.1 passes found.2 in (
      p,
      kept.0,
      found.1.1,
      ap (option_and_then (λ (b : DraftProcess). slice_get b.texts kept.0)) begun.1
          ∙ ap (λ (l : List (End × List ℕ)). slice_get l kept.0) (agrees.texts p begun.0 begun.1)
          ∙ kept.1 ∙ ap (λ (e : End). let x : Option (End × List ℕ) = Some (e, found.1.1) in x) same,
    )
