-- What a component that maps sends is what its stream becomes.
use Rattle.flow_limits.specs.declared.TheConstants.{TEXT_LIMIT}
use Rattle.std.proofs.Common.{◌≡◌, ℕ, ◌≤◌, ◌==◌, Bool, true, false, List, [], ◌∷◌, ◌++◌, length, Option, Some, None, nat_eq, nat_lt, cond, if◌then◌else◌, refl, sym, ap, ◌∙◌, arith, append-nil, append_assoc}
use Rattle.flow_packet.specs.declared.packet.Kind.{Kind}
use Rattle.flow_packet.specs.declared.packet.Kind.TheVariants.{Normal, Open, Close}
use Rattle.flow_packet.specs.Tree.{Tree, content, id_of, kind_of, text_of, packet_of}
use Rattle.flow_packet.specs.Hands.{packet_at, kind_at, text_at}
use Rattle.flow_packet.specs.Held.{Held, next_id, with_made, without_packet}
use Rattle.flow_component.specs.declared.Fail.TheVariants.{TextLimit}
use Rattle.flow_component.specs.declared.Wish.{Wish}
use Rattle.flow_component.specs.declared.Wish.TheVariants as wishes
use Rattle.flow_component.specs.Laws.{Outcome, Wishes, Fails}
use Rattle.flow_component.specs.Alone.{HoldsOnly}
use Rattle.flow_component.specs.Ports.{send_first}
use Rattle.flow_component.specs.Happenings.{Happening, Started, Received, Ended, Sent, Learned}
use Rattle.flow_component.specs.Runs.{Poise, fresh, Steps, Runs, EndedRun, content_got, content_sent, got, sent}
use Rattle.flow_component.proofs.Roots.{same_id}
use Rattle.flow_component.proofs.Lone.{HoldsOnly-packet_at, HoldsOnly-text, HoldsOnly-kind, HoldsOnly-end, HoldsOnly-made, HoldsOnly-made_at}
use Rattle.flow_component.proofs.Streams.{Comes-packets, contents_in, content-kind, content-text, port_below_one}
use Rattle.flow_map.specs.declared.mapper.MapperPlace.{MapperPlace}
use Rattle.flow_map.specs.declared.mapper.MapperPlace.TheVariants.{Waiting, Making}
use Rattle.flow_map.specs.Mapping.{Mapping, Mapped, Product, Next, Over, Itself, Last, More, waiting, itself_port, gives, meets, goes_on, IsReadyOn, mapper_rules, IsMapping}
use Rattle.flow_map.specs.MappingLaws.{renewed}
use Rattle.flow_map.proofs.MappingEnd.{OneInput, one-input}
use Rattle.flow_map.specs.Becoming.{Becoming, with_next, IsBecoming, packet_made, at_first, at_second, first_as, second_as, mapped, left_out, MapperMeaning}

-- What is on its way to an output, where this is on its way to that port.
abbrev on_way : ℕ → ℕ → List Tree → List Tree
on_way output port x = if output == port then x else []

-- Of a packet, by its kind.
abbrev as_kind : Kind → List Tree → List Tree → List Tree
as_kind Normal x y = x
as_kind Open x y = y
as_kind Close x y = y

-- The content of a packet that is found.
abbrev content_in : Option Tree → Tree
content_in None = packet_of 0 Normal [] []
content_in (Some t) = content t

-- What leaves at an output, by these facts of what leaves there of one packet, and of the whole.
module _ {K : Type 0} (mapping : Mapping K) (is : IsMapping mapping) (becoming : K → List ℕ → ℕ → Becoming) (so : IsBecoming mapping becoming)
    (output : ℕ) (leaves : Option Bool → Becoming → Tree → List Tree) (whole : K → List Tree → List Tree)
    (over : (s : Option Bool) (t : Tree) → leaves s (record { products = []; itself = false }) t ≡ [])
    (itself : (s : Option Bool) (t : Tree) → leaves s (record { products = []; itself = true }) t ≡ on_way output (itself_port s).0 (t ∷ []))
    (more : (s : Option Bool) (product : Product) (b : Becoming) (t : Tree) → leaves s (record { products = product ∷ b.products; itself = b.itself }) t ≡ on_way output 0 (packet_made product ∷ []) ++ leaves s b t)
    (none : (own : K) → whole own [] ≡ [])
    (first : (own : K) (packet : Tree) (zs : List Tree)
    → whole own (packet ∷ zs) ≡ as_kind (kind_of packet) (leaves (mapping.second own) (becoming own (text_of packet) 0) packet) (on_way output 0 (packet ∷ [])) ++ whole (mapping.after own (kind_of packet) (text_of packet)) zs) where
  -- What is still to be sent of the packet that it has begun with, and of those that come.
  abbrev left : Held → K → MapperPlace → List Tree → List Tree
  left held own Waiting zs = whole own zs
  left held own (Making id place) zs =
      leaves (mapping.second own) (becoming own (text_at held.packets id) place) (content_in (packet_at held.packets id)) ++ whole (mapping.after own Normal (text_at held.packets id)) zs

  -- What is still to be sent.
  abbrev ahead : Held → Mapped K → Wish → List Tree → List Tree
  ahead held component (wishes.Receive port) zs = whole component.own zs
  ahead held component (wishes.Send port id) zs = on_way output port.0 (contents_in (packet_at held.packets id)) ++ left (without_packet held id) component.own component.place zs
  ahead held component (wishes.Level port) zs = whole component.own zs
  ahead held component wishes.Deactivate zs = whole component.own zs

  abbrev ahead_in : List Tree → Outcome (Mapped K) → List Tree
  ahead_in zs (Wishes component held wish) = ahead held component wish zs
  ahead_in zs (Fails component held cause) = []

  abbrev ahead_of : Poise (Mapped K) → List Tree → List Tree
  ahead_of p zs = ahead p.held p.component p.wish zs

  abbrev outcome_of : Poise (Mapped K) → Outcome (Mapped K)
  outcome_of m = Wishes m.component m.held m.wish

  -- a packet was made as the last, unless it is too long
  after-last : (long : Bool) (component : Mapped K) (held : Held) (id : ℕ) (product : Product) (own : K) (h : HoldsOnly held id) (m : Poise (Mapped K)) (zs : List Tree)
      → outcome_of m ≡ cond long (Fails component held (TextLimit (length product.text))) (Wishes (waiting own) (without_packet (with_made held product.kind product.text) id) (send_first (next_id held)))
      → ahead_of m zs ≡ on_way output 0 (packet_made product ∷ []) ++ whole own zs
  after-last true component held id product own h m zs to = absurd (cc)
  after-last false component held id product own h m zs to =
      let r = renewed held id product.kind product.text h in
      let s = same_id (next_id held) in
      let found : packet_at (without_packet (with_made held product.kind product.text) id).packets (next_id held) ≡ Some (packet_of (next_id held) product.kind product.text []) = rw (r, s) refl in
      ap (ahead_in zs) to ∙ ap (λ (o : Option Tree). on_way output 0 (contents_in o) ++ whole own zs) found

  -- a packet was made, and more come
  after-more : (long : Bool) (component : Mapped K) (held : Held) (id : ℕ) (product : Product) (place : ℕ) (h : HoldsOnly held id) (m : Poise (Mapped K)) (zs : List Tree)
      → outcome_of m ≡ cond long (Fails component held (TextLimit (length product.text))) (Wishes (record component { place = Making id place }) (with_made held product.kind product.text) (send_first (next_id held)))
      → ahead_of m zs ≡ on_way output 0 (packet_made product ∷ []) ++ left held component.own (Making id place) zs
  after-more true component held id product place h m zs to = absurd (cc)
  after-more false component held id product place h m zs to =
      let found = HoldsOnly-made_at held id product.kind product.text h in
      let alone : (without_packet (with_made held product.kind product.text) (next_id held)).packets ≡ held.packets = HoldsOnly-made held id product.kind product.text h ∙ sym h.holds in
      ap (ahead_in zs) to
      ∙ ap (λ (o : Option Tree). on_way output 0 (contents_in o) ++ left (without_packet (with_made held product.kind product.text) (next_id held)) component.own (Making id place) zs) found
      ∙ ap (λ (ts : List Tree). on_way output 0 (packet_made product ∷ []) ++ (leaves (mapping.second component.own) (becoming component.own (text_at ts id) place) (content_in (packet_at ts id)) ++ whole (mapping.after component.own Normal (text_at ts id)) zs)) alone

  -- what leaves of a packet, by what comes next of it
  after-giving : (next : Next) (component : Mapped K) (held : Held) (id : ℕ) (h : HoldsOnly held id) (m : Poise (Mapped K)) (zs : List Tree)
      → outcome_of m ≡ gives mapping component held id (text_at held.packets id) next
      → ahead_of m zs
      ≡ leaves (mapping.second component.own) (with_next next (becoming component.own (text_at held.packets id))) (content_in (packet_at held.packets id)) ++ whole (mapping.after component.own Normal (text_at held.packets id)) zs
  after-giving Over component held id h m zs to =
      let text = text_at held.packets id in
      ap (ahead_in zs) to ∙ ap (λ (x : List Tree). x ++ whole (mapping.after component.own Normal text) zs) (sym (over (mapping.second component.own) (content_in (packet_at held.packets id))))
  after-giving Itself component held id h m zs to =
      let text = text_at held.packets id in
      let s = mapping.second component.own in
      let found = HoldsOnly-packet_at held id h in
      let here : contents_in (packet_at held.packets id) ≡ content_in (packet_at held.packets id) ∷ [] = rw found refl in
      ap (ahead_in zs) to
      ∙ ap (λ (x : List Tree). on_way output (itself_port s).0 x ++ whole (mapping.after component.own Normal text) zs) here
      ∙ ap (λ (x : List Tree). x ++ whole (mapping.after component.own Normal text) zs) (sym (itself s (content_in (packet_at held.packets id))))
  after-giving (Last product) component held id h m zs to =
      let text = text_at held.packets id in
      let s = mapping.second component.own in
      let t = content_in (packet_at held.packets id) in
      after-last (nat_lt TEXT_LIMIT (length product.text)) component held id product (mapping.after component.own Normal text) h m zs to
      ∙ ap (λ (x : List Tree). x ++ whole (mapping.after component.own Normal text) zs) (sym (more s product (record { products = []; itself = false }) t ∙ ap (λ (x : List Tree). on_way output 0 (packet_made product ∷ []) ++ x) (over s t) ∙ append-nil (on_way output 0 (packet_made product ∷ []))))
  after-giving (More product place) component held id h m zs to =
      let text = text_at held.packets id in
      let s = mapping.second component.own in
      let t = content_in (packet_at held.packets id) in
      let b = becoming component.own text place in
      after-more (nat_lt TEXT_LIMIT (length product.text)) component held id product place h m zs to
      ∙ sym (append_assoc (on_way output 0 (packet_made product ∷ [])) (leaves s b t) (whole (mapping.after component.own Normal text) zs))
      ∙ ap (λ (x : List Tree). x ++ whole (mapping.after component.own Normal text) zs) (sym (more s product b t))

  after-giving-from : (component : Mapped K) (held : Held) (id place : ℕ) (h : HoldsOnly held id) → place ≤ mapping.last_place component.own (text_at held.packets id) → (m : Poise (Mapped K)) (zs : List Tree)
      → outcome_of m ≡ gives mapping component held id (text_at held.packets id) (mapping.next component.own (text_at held.packets id) place) → ahead_of m zs ≡ left held component.own (Making id place) zs
  after-giving-from component held id place h w m zs to =
      let text = text_at held.packets id in
      after-giving (mapping.next component.own text place) component held id h m zs to
      ∙ ap (λ (b : Becoming). leaves (mapping.second component.own) b (content_in (packet_at held.packets id)) ++ whole (mapping.after component.own Normal text) zs) (sym (so component.own text place w))

  -- a bracket is on its way
  after-passing : (component : Mapped K) (held : Held) (t : Tree) (own : K) → packet_at held.packets (id_of t) ≡ Some t → (m : Poise (Mapped K)) (zs : List Tree)
      → outcome_of m ≡ Wishes (waiting own) held (send_first (id_of t)) → ahead_of m zs ≡ on_way output 0 (content t ∷ []) ++ whole own zs
  after-passing component held t own found m zs to = ap (ahead_in zs) to ∙ ap (λ (o : Option Tree). on_way output 0 (contents_in o) ++ whole own zs) found

  -- a packet came
  after-meeting : (kind : Kind) (component : Mapped K) (held : Held) (t : Tree) (h : HoldsOnly held (id_of t)) → packet_at held.packets (id_of t) ≡ Some t → text_at held.packets (id_of t) ≡ text_of (content t)
      → (m : Poise (Mapped K)) (zs : List Tree) → outcome_of m ≡ meets mapping component held (id_of t) kind (text_at held.packets (id_of t))
      → ahead_of m zs
      ≡ as_kind kind (leaves (mapping.second component.own) (becoming component.own (text_of (content t)) 0) (content t)) (on_way output 0 (content t ∷ [])) ++ whole (mapping.after component.own kind (text_of (content t))) zs
  after-meeting Normal component held t h found text m zs to =
      after-giving-from component held (id_of t) 0 h (omega arith) m zs to
      ∙ (λ i. leaves (mapping.second component.own) (becoming component.own (text i) 0) (content_in (found i)) ++ whole (mapping.after component.own Normal (text i)) zs)
  after-meeting Open component held t h found text m zs to =
      after-passing component held t (mapping.after component.own Open (text_at held.packets (id_of t))) found m zs to
      ∙ ap (λ (l : List ℕ). on_way output 0 (content t ∷ []) ++ whole (mapping.after component.own Open l) zs) text
  after-meeting Close component held t h found text m zs to =
      after-passing component held t (mapping.after component.own Close (text_at held.packets (id_of t))) found m zs to
      ∙ ap (λ (l : List ℕ). on_way output 0 (content t ∷ []) ++ whole (mapping.after component.own Close l) zs) text

  after-going : (place : MapperPlace) (component : Mapped K) (held : Held) → IsReadyOn mapping component.own held place → (m : Poise (Mapped K)) (zs : List Tree) → outcome_of m ≡ goes_on mapping component held place
      → ahead_of m zs ≡ left held component.own place zs
  after-going Waiting component held r m zs to = ap (ahead_in zs) to
  after-going (Making id place) component held r m zs to = after-giving-from component held id place r.0 r.1 m zs to

  step : (p : Poise (Mapped K)) (e : Happening) (m : Poise (Mapped K)) (zs : List Tree) → OneInput p → Steps (mapper_rules mapping) p e m → ahead_of p (content_got 0 e ++ zs) ≡ content_sent output e ++ ahead_of m zs
  step p Started m zs g s = ap (λ (w : Wish). ahead p.held p.component w zs) s.grants.0 ∙ sym (ap (ahead_in zs) s.comes_to)
  step p (Received port t) m zs g s =
      let h = s.is_ready.1 in
      let z : nat_eq 0 port ≡ true = port_below_one port (g port s.grants.0) in
      let e : t ≡ h.packet = HoldsOnly-end s.held p.held.packets t (Comes-packets p.held t s.held s.grants.1) h in
      let kind : kind_at s.held.packets (id_of t) ≡ kind_of (content t) = HoldsOnly-kind s.held (id_of t) h ∙ ap kind_of (sym e) ∙ sym (content-kind t) in
      let text : text_at s.held.packets (id_of t) ≡ text_of (content t) = HoldsOnly-text s.held (id_of t) h ∙ ap text_of (sym e) ∙ sym (content-text t) in
      let found : packet_at s.held.packets (id_of t) ≡ Some t = HoldsOnly-packet_at s.held (id_of t) h ∙ ap Some (sym e) in
      let a = after-meeting (kind_of (content t)) p.component s.held t h found text m zs (s.comes_to ∙ ap (λ (k : Kind). meets mapping p.component s.held (id_of t) k (text_at s.held.packets (id_of t))) kind) in
      ap (λ (w : Wish). ahead p.held p.component w (content_got 0 (Received port t) ++ zs)) s.grants.0
      ∙ ap (λ (b : Bool). whole p.component.own ((if b then content t ∷ [] else []) ++ zs)) z ∙ first p.component.own (content t) zs ∙ sym a
  step p (Ended port) m zs g s = ap (λ (w : Wish). ahead p.held p.component w zs) s.grants.0 ∙ sym (ap (ahead_in zs) s.comes_to)
  step p (Sent port t) m zs g s =
      ap (λ (w : Wish). ahead p.held p.component w zs) s.grants.0
      ∙ ap (λ (o : Option Tree). on_way output port (contents_in o) ++ left (without_packet p.held (id_of t)) p.component.own p.component.place zs) s.grants.1
      ∙ ap (λ (h : Held). on_way output port (content t ∷ []) ++ left h p.component.own p.component.place zs) (sym s.grants.2)
      ∙ ap (λ (x : List Tree). on_way output port (content t ∷ []) ++ x) (sym (after-going p.component.place p.component s.held s.is_ready m zs s.comes_to))
  step p (Learned port level) m zs g s = absurd s.is_ready

  run : (es : List Happening) (p q : Poise (Mapped K)) → OneInput p → Runs (mapper_rules mapping) p es q → q.wish ≡ wishes.Deactivate → ahead_of p (got 0 es) ≡ sent output es
  run [] p q g r d = ap (λ (w : Wish). ahead p.held p.component w []) (ap (λ (u : Poise (Mapped K)). u.wish) (sym r) ∙ d) ∙ none p.component.own
  run (e ∷ es) p q g r d =
      let m = r.0 in
      step p e m (got 0 es) g r.1 ∙ ap (λ (x : List Tree). content_sent output e ++ x) (run es m q (one-input mapping is p e m r.1) r.2 d)

  sends : (own : K) (told : List Happening) → EndedRun (mapper_rules mapping) (waiting own) told → whole own (got 0 told) ≡ sent output told
  sends own told ended = run told (fresh (waiting own) ended.maker) ended.last (λ port w. absurd (cc)) ended.runs ended.idle

first-itself : (s : Option Bool) (t : Tree) → at_first s (record { products = []; itself = true }) t ≡ on_way 0 (itself_port s).0 (t ∷ [])
first-itself None t = refl
first-itself (Some false) t = refl
first-itself (Some true) t = refl

second-itself : (s : Option Bool) (t : Tree) → at_second s (record { products = []; itself = true }) t ≡ on_way 1 (itself_port s).0 (t ∷ [])
second-itself None t = refl
second-itself (Some false) t = refl
second-itself (Some true) t = refl

module _ {K : Type 0} (mapping : Mapping K) (becoming : K → List ℕ → ℕ → Becoming) where
  first-kind : (kind : Kind) (own : K) (t : Tree) → first_as mapping becoming own kind t ≡ as_kind kind (at_first (mapping.second own) (becoming own (text_of t) 0) t) (t ∷ [])
  first-kind Normal own t = refl
  first-kind Open own t = refl
  first-kind Close own t = refl

  second-kind : (kind : Kind) (own : K) (t : Tree) → second_as mapping becoming own kind t ≡ as_kind kind (at_second (mapping.second own) (becoming own (text_of t) 0) t) []
  second-kind Normal own t = refl
  second-kind Open own t = refl
  second-kind Close own t = refl

  -- Over a whole run it sends what its stream becomes.
  pub mapper_meaning : IsMapping mapping → IsBecoming mapping becoming → MapperMeaning mapping becoming
  mapper_meaning is so own told ended = (
    sym (sends mapping is becoming so 0 at_first (mapped mapping becoming) (λ s t. refl) first-itself (λ s product b t. refl) (λ k. refl)
        (λ k t zs. ap (λ (x : List Tree). x ++ mapped mapping becoming (mapping.after k (kind_of t) (text_of t)) zs) (first-kind (kind_of t) k t)) own told ended),
    sym (sends mapping is becoming so 1 at_second (left_out mapping becoming) (λ s t. refl) second-itself (λ s product b t. refl) (λ k. refl)
        (λ k t zs. ap (λ (x : List Tree). x ++ left_out mapping becoming (mapping.after k (kind_of t) (text_of t)) zs) (second-kind (kind_of t) k t)) own told ended),
  )
