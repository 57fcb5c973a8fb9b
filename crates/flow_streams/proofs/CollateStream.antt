-- What Collate makes of its streams.
use Rattle.std.proofs.Common.{◌≡◌, ◌≢◌, ℕ, ◌+◌, ◌<◌, ◌≤◌, Bool, true, false, List, [], ◌∷◌, ◌++◌, length, refl, sym, ap, ◌∙◌, subst, arith, nat_eq, nat_lt, inl, inr, Some, None, append_assoc, length-append}
use Rattle.std.proofs.lemmas.Bool.Decides.{nat_tests}
use Rattle.flow_packet.specs.declared.packet.Kind.{Kind}
use Rattle.flow_packet.specs.declared.packet.Kind.TheVariants.{Normal, Open, Close}
use Rattle.flow_packet.specs.Tree.{Tree, content, id_of}
use Rattle.flow_packet.specs.Hands.{packet_at, without, kind_at}
use Rattle.flow_packet.specs.Held.{Held, without_packet}
use Rattle.flow_component.specs.declared.Wish.TheVariants as wishes
use Rattle.flow_component.specs.Laws.{Wishes}
use Rattle.flow_component.specs.Ports.{send_first}
use Rattle.flow_component.specs.Happenings.{Happening, Started, Received, Ended, Sent, Learned}
use Rattle.flow_component.specs.Runs.{Poise, fresh, got, sent, HeardEnd, Wakes, starts}
use Rattle.flow_component.proofs.Streams.{Comes-packets}
use Rattle.flow_component.proofs.Ends.{heard-now, heard-later}
use Rattle.flow_component.proofs.Wished.{port_of, id_in}
use Rattle.flow_streams.specs.declared.collate.CollatePlace.TheVariants.{Filling, Refilling, Turning, Leaving}
use Rattle.flow_streams.specs.CollateState.{CollateState}
use Rattle.flow_streams.specs.Collation.{first_of}
use Rattle.flow_streams.specs.Collate.{receive_from, element_of, goes_on, comes, sent_on}
use Rattle.flow_streams.specs.CollateLaws.{inputs-push}
use Rattle.flow_streams.specs.Collated.{merge_all, closes, opens, bracketed, collation, listed}
use Rattle.flow_streams.specs.Meanings.{fresh_collate, CollateMeaning}
use Rattle.flow_streams.proofs.Levels.{full}
use Rattle.flow_streams.proofs.Merging.{merge-none, listed-same}
use Rattle.flow_streams.proofs.Seats.{NotIn, NotIn-push, NotIn-pushed, Distinct-push, seated-none, seated-push, seated-pushed}
use Rattle.flow_streams.proofs.CollateChoices.{Based, Comes_of, Fills, Leads, Leaves, Over, Passes, Phase, Rec, Receives, Rest, Run, Sending, Stands, Step, Store, Turns, chosen-made, filled, got-here, got-skip, leaves-made, merged, nobody, prev, rest_due, state_of, streams, turns-made}

-- the packets with another at the end
abbrev pushed : Store → ℕ → Tree → Store
pushed st e t = record { owners = st.owners ++ e ∷ []; packets = st.packets ++ t ∷ []; opened = st.opened; last = st.last }

Based-push : (n : ℕ) (st : Store) (e : ℕ) (t : Tree) → Based n st → e < n → NotIn e st.owners → Based n (pushed st e t)
Based-push n st e t b l nf = record {
  each = (let x = b.each in omega (arith, length-append st.owners (e ∷ []), length-append st.packets (t ∷ [])));
  distinct = Distinct-push st.owners e b.distinct nf;
  inputs = inputs-push n st.owners e b.inputs l;
}

-- a packet that came stands in the hands in place of the stream
came-stream : (st : Store) (e : ℕ) (t : Tree) (es : List Happening) (f : ℕ) → length st.owners ≡ length st.packets → NotIn e st.owners → streams (pushed st e t) es f ≡ streams st (Received e t ∷ es) f
came-stream st e t es f each nf = by (nat_eq e f) refl
  where
    by : (v : Bool) → nat_eq e f ≡ v → streams (pushed st e t) es f ≡ streams st (Received e t ∷ es) f
    by true z =
        let same : e ≡ f = grind (arith, nat_tests) in
        subst (λ (g : ℕ). streams (pushed st e t) es g ≡ streams st (Received e t ∷ es) g) same
        ((λ j. seated-pushed st.owners st.packets e t each nf j ++ got e es) ∙ sym (λ j. seated-none st.owners st.packets e nf j ++ got-here e t es j))
    by false z =
        let other : e ≢ f = grind (arith, nat_tests) in
        λ j. seated-push st.owners st.packets e t f each other j ++ sym (got-skip f e t es (λ x. other (sym x))) j

merged-came : (fields : List ℕ) (n : ℕ) (st : Store) (e : ℕ) (t : Tree) (es : List Happening) → length st.owners ≡ length st.packets → NotIn e st.owners → merged fields n (pushed st e t) es ≡ merged fields n st (Received e t ∷ es)
merged-came fields n st e t es each nf = ap (merge_all (full fields)) (listed-same (streams (pushed st e t) es) (streams st (Received e t ∷ es)) n 0 (λ f k l. came-stream st e t es f each nf))

comes-normal : (m : Poise CollateState) (state : CollateState) (held : Held) (kind : Kind) → Comes_of m (comes state held kind) → Comes_of m (goes_on (record state { owners = state.owners ++ element_of state.place ∷ [] }) held state.place)
comes-normal m state held Normal is = is
comes-normal m state held Open is = absurd (cc)
comes-normal m state held Close is = absurd (cc)

begun : (before : List Happening) (e : Happening) → before ++ e ∷ [] ≢ []
begun [] e = λ h. cc
begun (f ∷ fs) e = λ h. cc

later : (n : ℕ) (before es : List Happening) (e : Happening) → ((f : ℕ) → f < n → HeardEnd f ((before ++ e ∷ []) ++ es)) → (f : ℕ) → f < n → HeardEnd f (before ++ e ∷ es)
later n before es e h f l = subst (HeardEnd f) (append_assoc before (e ∷ []) es) (h f l)

-- a store with packets that are the same
abbrev with_packets : Store → List Tree → Store
with_packets st ts = record { owners = st.owners; packets = ts; opened = st.opened; last = st.last }

Based-same : (n : ℕ) (st : Store) (ts : List Tree) → st.packets ≡ ts → Based n st → Based n (with_packets st ts)
Based-same n st ts e b = record { each = b.each ∙ ap length e; distinct = b.distinct; inputs = b.inputs }

-- what was sent, where the component wished to send it
record IsSent (p : Poise CollateState) (t : Tree) (ts : List Tree) (port : ℕ) (u : Tree) (h : Held) : Type 0 where
  first : port ≡ 0
  same : u ≡ t
  left : h.packets ≡ ts

is-sent : (p : Poise CollateState) (t : Tree) (ts : List Tree) (port : ℕ) (u : Tree) (h : Held) → Sending p t ts → p.wish ≡ wishes.Send (record { 0 = port }) (id_of u) → packet_at p.held.packets (id_of u) ≡ Some u → h ≡ without_packet p.held (id_of u) → IsSent p t ts port u h
is-sent p t ts port u h s wish found gone =
    let e : wishes.Send (record { 0 = port }) (id_of u) ≡ send_first (id_of t) = sym wish ∙ s.wish in
    let id : id_of u ≡ id_of t = ap id_in e in
    let at : Some u ≡ Some t = sym found ∙ ap (packet_at p.held.packets) id ∙ s.found in
    record { first = ap port_of e; same = cc; left = ap (λ (k : Held). k.packets) gone ∙ ap (without p.held.packets) id ∙ s.gone }

sent-here : (port : ℕ) (u t : Tree) (es : List Happening) (due : List Tree) → port ≡ 0 → u ≡ t → sent 0 es ≡ due → sent 0 (Sent port u ∷ es) ≡ content t ∷ due
sent-here port u t es due first same e = let z : nat_eq 0 port ≡ true = grind (arith, nat_tests) in rw z (λ j. content (same j) ∷ e j)

-- the steps that are made
module _ (fields : List ℕ) (n : ℕ) (some : 1 ≤ length fields) (es before : List Happening) (p m q : Poise CollateState) (st : Store) (run : Run m es q) (rec : Rec fields n es q) where
  fills-got : (e : ℕ) (t : Tree) → Stands fields n before p (Fills st e) → Step p (Received e t) m → Wakes n (before ++ Received e t ∷ []) es → Leads fields n before (Fills st e) (Received e t ∷ es)
  fills-got e t k s w =
      let h = s.held in
      let ev = Received e t in
      let nf = k.6 e (omega arith) in
      let packets : h.packets ≡ st.packets ++ t ∷ [] = Comes-packets p.held t h s.grants.1 ∙ ap (λ (ts : List Tree). ts ++ t ∷ []) k.2 in
      let based = Based-same n (pushed st e t) h.packets (sym packets) (Based-push n st e t k.3 k.4 nf) in
      let is = comes-normal m (state_of fields n st (Filling e)) h (kind_at h.packets (id_of t)) (s.comes_to ∙ ap (λ (x : CollateState). comes x h (kind_at h.packets (id_of t))) k.1) in
      let rest : Rest n (before ++ ev ∷ []) (st.owners ++ e ∷ []) (λ f. e + 1 ≤ f) = λ f l out other.
      let o = NotIn-pushed f st.owners e out in
      let x : e ≢ f = o.1 in
      heard-later f before ev (k.5 f l o.0 (λ u. other (omega arith))) in
      let later_in : (f : ℕ) → e + 1 ≤ f → NotIn f (st.owners ++ e ∷ []) = λ f u. NotIn-push f st.owners e (k.6 f (omega arith)) (λ x. omega arith) in
      let r = filled fields n some es q rec (before ++ ev ∷ []) m run w h s.sound (st.owners ++ e ∷ []) st.opened st.last e based k.7 (nat_lt (e + 1) n) refl is rest later_in (begun before ev) in
      record {
        all = r.all ∙ ap (λ (ts : List Tree). bracketed fields None (merged fields n (with_packets (pushed st e t) ts) es)) packets ∙ ap (bracketed fields None) (merged-came fields n st e t es k.3.each nf);
        none = λ f l out other. got-skip f e t es (λ x. other (omega arith)) ∙ r.none f l (NotIn-push f st.owners e out (λ x. other (omega arith))) (λ u. other (omega arith));
        once = r.once;
        heard = later n before es ev r.heard;
      }

  fills-ended : (e : ℕ) → Stands fields n before p (Fills st e) → Step p (Ended e) m → Wakes n (before ++ Ended e ∷ []) es → Leads fields n before (Fills st e) (Ended e ∷ es)
  fills-ended e k s w =
      let h = s.held in
      let ev = Ended e in
      let packets : h.packets ≡ st.packets = ap (λ (u : Held). u.packets) s.grants.1 ∙ k.2 in
      let based = Based-same n st h.packets (sym packets) k.3 in
      let is = s.comes_to ∙ ap (λ (x : CollateState). goes_on x h x.place) k.1 in
      let rest : Rest n (before ++ ev ∷ []) st.owners (λ f. e + 1 ≤ f) = λ f l out other. ended-one e f (λ o. k.5 f l out (λ u. other (omega arith))) in
      let r = filled fields n some es q rec (before ++ ev ∷ []) m run w h s.sound st.owners st.opened st.last e based k.7 (nat_lt (e + 1) n) refl is rest (λ f u. k.6 f (omega arith)) (begun before ev) in
      record {
        all = r.all ∙ ap (λ (ts : List Tree). bracketed fields None (merged fields n (with_packets st ts) es)) packets;
        none = λ f l out other. r.none f l out (λ u. other (omega arith));
        once = r.once;
        heard = later n before es ev r.heard;
      }
    where
      ended-one : (e f : ℕ) → (e ≢ f → HeardEnd f before) → HeardEnd f (before ++ Ended e ∷ [])
      ended-one e f h = by (nat_eq e f) refl
        where
          by : (v : Bool) → nat_eq e f ≡ v → HeardEnd f (before ++ Ended e ∷ [])
          by true z = heard-now f before (Ended e) (let x : e ≡ f = grind (arith, nat_tests) in x)
          by false z = heard-later f before (Ended e) (h (let x : e ≢ f = grind (arith, nat_tests) in x))

  receives-got : (e : ℕ) (t : Tree) → Stands fields n before p (Receives st e) → Step p (Received e t) m → Wakes n (before ++ Received e t ∷ []) es → Leads fields n before (Receives st e) (Received e t ∷ es)
  receives-got e t k s w =
      let h = s.held in
      let ev = Received e t in
      let nf = k.6 in
      let packets : h.packets ≡ st.packets ++ t ∷ [] = Comes-packets p.held t h s.grants.1 ∙ ap (λ (ts : List Tree). ts ++ t ∷ []) k.2 in
      let based = Based-same n (pushed st e t) h.packets (sym packets) (Based-push n st e t k.3 k.4 nf) in
      let is = comes-normal m (state_of fields n st (Refilling e)) h (kind_at h.packets (id_of t)) (s.comes_to ∙ ap (λ (x : CollateState). comes x h (kind_at h.packets (id_of t))) k.1) in
      let rest : Rest n (before ++ ev ∷ []) (st.owners ++ e ∷ []) nobody = λ f l out other.
      let o = NotIn-pushed f st.owners e out in
      heard-later f before ev (k.5 f l o.0 (λ u. o.1 (sym u))) in
      let r = chosen-made fields n some es q rec (before ++ ev ∷ []) m run w h s.sound (st.owners ++ e ∷ []) st.opened st.last (Refilling e) based (first_of (full fields) (st.owners ++ e ∷ []) h.packets) refl is rest (begun before ev) in
      record {
        all = r.all ∙ ap (λ (v : Bool). bracketed fields (prev v st.last) (merged fields n (with_packets (pushed st e t) h.packets) es)) k.7
            ∙ ap (λ (ts : List Tree). bracketed fields (Some st.last) (merged fields n (with_packets (pushed st e t) ts) es)) packets ∙ ap (bracketed fields (Some st.last)) (merged-came fields n st e t es k.3.each nf);
        none = λ f l out other. got-skip f e t es other ∙ r.none f l (NotIn-push f st.owners e out (λ x. other (sym x))) (λ x. x);
        once = r.once;
        heard = later n before es ev r.heard;
      }

  receives-ended : (e : ℕ) → Stands fields n before p (Receives st e) → Step p (Ended e) m → Wakes n (before ++ Ended e ∷ []) es → Leads fields n before (Receives st e) (Ended e ∷ es)
  receives-ended e k s w =
      let h = s.held in
      let ev = Ended e in
      let packets : h.packets ≡ st.packets = ap (λ (u : Held). u.packets) s.grants.1 ∙ k.2 in
      let based = Based-same n st h.packets (sym packets) k.3 in
      let is = s.comes_to ∙ ap (λ (x : CollateState). goes_on x h x.place) k.1 in
      let rest : Rest n (before ++ ev ∷ []) st.owners nobody = λ f l out other. ended-one e f (λ o. k.5 f l out (λ u. o (sym u))) in
      let r = chosen-made fields n some es q rec (before ++ ev ∷ []) m run w h s.sound st.owners st.opened st.last (Refilling e) based (first_of (full fields) st.owners h.packets) refl is rest (begun before ev) in
      record {
        all = r.all ∙ ap (λ (v : Bool). bracketed fields (prev v st.last) (merged fields n (with_packets st h.packets) es)) k.7
            ∙ ap (λ (ts : List Tree). bracketed fields (Some st.last) (merged fields n (with_packets st ts) es)) packets;
        none = λ f l out other. r.none f l out (λ x. x);
        once = r.once;
        heard = later n before es ev r.heard;
      }
    where
      ended-one : (e f : ℕ) → (e ≢ f → HeardEnd f before) → HeardEnd f (before ++ Ended e ∷ [])
      ended-one e f h = by (nat_eq e f) refl
        where
          by : (v : Bool) → nat_eq e f ≡ v → HeardEnd f (before ++ Ended e ∷ [])
          by true z = heard-now f before (Ended e) (let x : e ≡ f = grind (arith, nat_tests) in x)
          by false z = heard-later f before (Ended e) (h (let x : e ≢ f = grind (arith, nat_tests) in x))

  passes-sent : (e : ℕ) (t : Tree) (port : ℕ) (u : Tree) → Stands fields n before p (Passes st e t) → Step p (Sent port u) m → Wakes n (before ++ Sent port u ∷ []) es → Leads fields n before (Passes st e t) (Sent port u ∷ es)
  passes-sent e t port u k s w =
      let h = s.held in
      let ev = Sent port u in
      let one = is-sent p t st.packets port u h k.0 s.grants.0 s.grants.1 s.grants.2 in
      let comes : Comes_of m (Wishes (state_of fields n st (Refilling e)) h (receive_from e)) = s.comes_to ∙ ap (λ (x : CollateState). sent_on x h x.place) k.1 in
      let component : m.component ≡ state_of fields n st (Refilling e) = cc in
      let held : m.held ≡ h = cc in
      let wish : m.wish ≡ receive_from e = cc in
      let r = rec (before ++ ev ∷ []) m (Receives st e) (wish, component, ap (λ (x : Held). x.packets) held ∙ one.left, k.2, k.3, (λ f l out other. heard-later f before ev (k.4 f l out other)), k.5, k.6) run w in
      record {
        all = sent-here port u t es (bracketed fields (Some st.last) (merged fields n st es)) one.first one.same r.all;
        none = r.none;
        once = r.once;
        heard = later n before es ev r.heard;
      }

  turns-sent : (c o i : ℕ) (t : Tree) (port : ℕ) (u : Tree) → Stands fields n before p (Turns st c o i t) → Step p (Sent port u) m → Wakes n (before ++ Sent port u ∷ []) es → Leads fields n before (Turns st c o i t) (Sent port u ∷ es)
  turns-sent c o i t port u k s w =
      let h = s.held in
      let ev = Sent port u in
      let one = is-sent p t st.packets port u h k.0 s.grants.0 s.grants.1 s.grants.2 in
      let based = Based-same n st h.packets (sym one.left) k.2 in
      let is = s.comes_to ∙ ap (λ (x : CollateState). sent_on x h x.place) k.1 in
      let r = turns-made fields n some es q rec (before ++ ev ∷ []) m run w h s.sound st.owners st.opened st.last (Turning c o i) based c o i is k.3 (λ f l out other. heard-later f before ev (k.4 f l out other)) k.5 in
      record {
        all = sent-here port u t es (closes c ++ (opens fields o st.last ++ rest_due fields n st i es)) one.first one.same (r.all ∙ ap (λ (ts : List Tree). closes c ++ (opens fields o st.last ++ rest_due fields n (with_packets st ts) i es)) one.left);
        none = r.none;
        once = r.once;
        heard = later n before es ev r.heard;
      }

  leaves-sent : (c : ℕ) (t : Tree) (port : ℕ) (u : Tree) → Stands fields n before p (Leaves st c t) → Step p (Sent port u) m → Wakes n (before ++ Sent port u ∷ []) es → Leads fields n before (Leaves st c t) (Sent port u ∷ es)
  leaves-sent c t port u k s w =
      let h = s.held in
      let ev = Sent port u in
      let one = is-sent p t st.packets port u h k.0 s.grants.0 s.grants.1 s.grants.2 in
      let based = Based-same n st h.packets (sym one.left) k.2 in
      let is = s.comes_to ∙ ap (λ (x : CollateState). sent_on x h x.place) k.1 in
      let r = leaves-made fields n some es q rec (before ++ ev ∷ []) m run w h s.sound st.owners st.opened st.last (Leaving c) based c is k.3 (λ f l out other. heard-later f before ev (k.4 f l out other)) (begun before ev) in
      record {
        all = sent-here port u t es (closes c) one.first one.same r.all;
        none = r.none;
        once = r.once;
        heard = later n before es ev r.heard;
      }

at_port : (p : Poise CollateState) (port e : ℕ) → p.wish ≡ wishes.Receive (record { 0 = port }) → p.wish ≡ receive_from e → port ≡ e
at_port p port e a b = ap port_of (sym a ∙ b)

step : (fields : List ℕ) (n : ℕ) → 1 ≤ length fields → (es before : List Happening) (p m q : Poise CollateState) (e : Happening) (phase : Phase) → Stands fields n before p phase → Step p e m → Run m es q → Wakes n before (e ∷ es) → Rec fields n es q → Leads fields n before phase (e ∷ es)
step fields n some es before p m q Started (Fills st e) k s run w rec = absurd (let h : wishes.Deactivate ≡ receive_from e = sym s.grants.0 ∙ k.0 in cc)
step fields n some es before p m q (Received port t) (Fills st e) k s run w rec = subst (λ (i : ℕ). Leads fields n before (Fills st i) (Received port t ∷ es)) (at_port p port e s.grants.0 k.0) (fills-got fields n some es before p m q st run rec port t (subst (λ (i : ℕ). Stands fields n before p (Fills st i)) (sym (at_port p port e s.grants.0 k.0)) k) s w.1)
step fields n some es before p m q (Ended port) (Fills st e) k s run w rec = subst (λ (i : ℕ). Leads fields n before (Fills st i) (Ended port ∷ es)) (at_port p port e s.grants.0 k.0) (fills-ended fields n some es before p m q st run rec port (subst (λ (i : ℕ). Stands fields n before p (Fills st i)) (sym (at_port p port e s.grants.0 k.0)) k) s w.1)
step fields n some es before p m q (Sent port t) (Fills st e) k s run w rec = absurd (let h : wishes.Send (record { 0 = port }) (id_of t) ≡ receive_from e = sym s.grants.0 ∙ k.0 in cc)
step fields n some es before p m q (Learned port level) (Fills st e) k s run w rec = absurd s.is_ready
step fields n some es before p m q Started (Receives st e) k s run w rec = absurd (let h : wishes.Deactivate ≡ receive_from e = sym s.grants.0 ∙ k.0 in cc)
step fields n some es before p m q (Received port t) (Receives st e) k s run w rec = subst (λ (i : ℕ). Leads fields n before (Receives st i) (Received port t ∷ es)) (at_port p port e s.grants.0 k.0) (receives-got fields n some es before p m q st run rec port t (subst (λ (i : ℕ). Stands fields n before p (Receives st i)) (sym (at_port p port e s.grants.0 k.0)) k) s w.1)
step fields n some es before p m q (Ended port) (Receives st e) k s run w rec = subst (λ (i : ℕ). Leads fields n before (Receives st i) (Ended port ∷ es)) (at_port p port e s.grants.0 k.0) (receives-ended fields n some es before p m q st run rec port (subst (λ (i : ℕ). Stands fields n before p (Receives st i)) (sym (at_port p port e s.grants.0 k.0)) k) s w.1)
step fields n some es before p m q (Sent port t) (Receives st e) k s run w rec = absurd (let h : wishes.Send (record { 0 = port }) (id_of t) ≡ receive_from e = sym s.grants.0 ∙ k.0 in cc)
step fields n some es before p m q (Learned port level) (Receives st e) k s run w rec = absurd s.is_ready
step fields n some es before p m q Started (Passes st e u) k s run w rec = absurd (let h : wishes.Deactivate ≡ send_first (id_of u) = sym s.grants.0 ∙ k.0.wish in cc)
step fields n some es before p m q (Received port t) (Passes st e u) k s run w rec = absurd (let h : wishes.Receive (record { 0 = port }) ≡ send_first (id_of u) = sym s.grants.0 ∙ k.0.wish in cc)
step fields n some es before p m q (Ended port) (Passes st e u) k s run w rec = absurd (let h : wishes.Receive (record { 0 = port }) ≡ send_first (id_of u) = sym s.grants.0 ∙ k.0.wish in cc)
step fields n some es before p m q (Sent port t) (Passes st e u) k s run w rec = passes-sent fields n some es before p m q st run rec e u port t k s w.1
step fields n some es before p m q (Learned port level) (Passes st e u) k s run w rec = absurd s.is_ready
step fields n some es before p m q Started (Turns st c o i u) k s run w rec = absurd (let h : wishes.Deactivate ≡ send_first (id_of u) = sym s.grants.0 ∙ k.0.wish in cc)
step fields n some es before p m q (Received port t) (Turns st c o i u) k s run w rec = absurd (let h : wishes.Receive (record { 0 = port }) ≡ send_first (id_of u) = sym s.grants.0 ∙ k.0.wish in cc)
step fields n some es before p m q (Ended port) (Turns st c o i u) k s run w rec = absurd (let h : wishes.Receive (record { 0 = port }) ≡ send_first (id_of u) = sym s.grants.0 ∙ k.0.wish in cc)
step fields n some es before p m q (Sent port t) (Turns st c o i u) k s run w rec = turns-sent fields n some es before p m q st run rec c o i u port t k s w.1
step fields n some es before p m q (Learned port level) (Turns st c o i u) k s run w rec = absurd s.is_ready
step fields n some es before p m q Started (Leaves st c u) k s run w rec = absurd (let h : wishes.Deactivate ≡ send_first (id_of u) = sym s.grants.0 ∙ k.0.wish in cc)
step fields n some es before p m q (Received port t) (Leaves st c u) k s run w rec = absurd (let h : wishes.Receive (record { 0 = port }) ≡ send_first (id_of u) = sym s.grants.0 ∙ k.0.wish in cc)
step fields n some es before p m q (Ended port) (Leaves st c u) k s run w rec = absurd (let h : wishes.Receive (record { 0 = port }) ≡ send_first (id_of u) = sym s.grants.0 ∙ k.0.wish in cc)
step fields n some es before p m q (Sent port t) (Leaves st c u) k s run w rec = leaves-sent fields n some es before p m q st run rec c u port t k s w.1
step fields n some es before p m q (Learned port level) (Leaves st c u) k s run w rec = absurd s.is_ready
step fields n some es before p m q Started Over k s run w rec = absurd (elim (w.0 tt) [ inl none ↦ k.1 none | inr at ↦ at.2 (k.2 at.0 at.1) ])
step fields n some es before p m q (Received port t) Over k s run w rec = absurd (let h : wishes.Receive (record { 0 = port }) ≡ wishes.Deactivate = sym s.grants.0 ∙ k.0 in cc)
step fields n some es before p m q (Ended port) Over k s run w rec = absurd (let h : wishes.Receive (record { 0 = port }) ≡ wishes.Deactivate = sym s.grants.0 ∙ k.0 in cc)
step fields n some es before p m q (Sent port t) Over k s run w rec = absurd (let h : wishes.Send (record { 0 = port }) (id_of t) ≡ wishes.Deactivate = sym s.grants.0 ∙ k.0 in cc)
step fields n some es before p m q (Learned port level) Over k s run w rec = absurd s.is_ready

ends-run : (fields : List ℕ) (n : ℕ) (before : List Happening) (p q : Poise CollateState) (phase : Phase) → Stands fields n before p phase → q ≡ p → q.wish ≡ wishes.Deactivate → Leads fields n before phase []
ends-run fields n before p q (Fills st e) k is d = absurd (let h : receive_from e ≡ wishes.Deactivate = sym k.0 ∙ ap (λ (u : Poise CollateState). u.wish) (sym is) ∙ d in cc)
ends-run fields n before p q (Receives st e) k is d = absurd (let h : receive_from e ≡ wishes.Deactivate = sym k.0 ∙ ap (λ (u : Poise CollateState). u.wish) (sym is) ∙ d in cc)
ends-run fields n before p q (Passes st e u) k is d = absurd (let h : send_first (id_of u) ≡ wishes.Deactivate = sym k.0.wish ∙ ap (λ (u : Poise CollateState). u.wish) (sym is) ∙ d in cc)
ends-run fields n before p q (Turns st c o i u) k is d = absurd (let h : send_first (id_of u) ≡ wishes.Deactivate = sym k.0.wish ∙ ap (λ (u : Poise CollateState). u.wish) (sym is) ∙ d in cc)
ends-run fields n before p q (Leaves st c u) k is d = absurd (let h : send_first (id_of u) ≡ wishes.Deactivate = sym k.0.wish ∙ ap (λ (u : Poise CollateState). u.wish) (sym is) ∙ d in cc)
ends-run fields n before p q Over k is d = refl

collate_run : (fields : List ℕ) (n : ℕ) → 1 ≤ length fields → (es : List Happening) (q : Poise CollateState) → q.wish ≡ wishes.Deactivate → Rec fields n es q
collate_run fields n some [] q d before p phase k run w = ends-run fields n before p q phase k run d
collate_run fields n some (e ∷ es) q d before p phase k run w = step fields n some es before p run.0 q e phase k run.1 run.2 w (collate_run fields n some es q d)

abbrev empty_store : Store
empty_store = record { owners = []; packets = []; opened = false; last = [] }

first-steps : (fields : List ℕ) (n : ℕ) → 1 ≤ length fields → 1 ≤ n → (e : Happening) (es : List Happening) (p m q : Poise CollateState) → p ≡ fresh (fresh_collate fields n) p.held.maker → Step p e m → Run m es q → q.wish ≡ wishes.Deactivate → Wakes n [] (e ∷ es)
    → (sent 0 (e ∷ es) ≡ collation fields (listed 0 n (λ i. got i (e ∷ es)))) × (starts (e ∷ es) ≤ 1) × (e ∷ es ≢ [] → (i : ℕ) → i < n → HeardEnd i (e ∷ es))
first-steps fields n some one Started es p m q is s run d w =
    let comes : Comes_of m (Wishes (fresh_collate fields n) s.held (receive_from 0)) = s.comes_to ∙ ap (λ (u : Poise CollateState). Wishes u.component s.held (receive_from (element_of u.component.place))) is in
    let component : m.component ≡ fresh_collate fields n = cc in
    let held : m.held ≡ s.held = cc in
    let wish : m.wish ≡ receive_from 0 = cc in
    let packets : m.held.packets ≡ [] = ap (λ (h : Held). h.packets) (held ∙ s.grants.1) ∙ ap (λ (u : Poise CollateState). u.held.packets) is in
    let r = collate_run fields n some es q d (Started ∷ []) m (Fills empty_store 0) (
      wish,
      component,
      packets,
      record { each = refl; distinct = tt; inputs = tt },
      one,
      (λ f l out other. absurd (other (omega arith))),
      (λ f l. tt),
      refl,
    ) run w.1 in
    (r.all, (let o = r.once in omega arith), λ begun i l. r.heard i l)
first-steps fields n some one (Received port t) es p m q is s run d w = absurd (let h : wishes.Receive (record { 0 = port }) ≡ wishes.Deactivate = sym s.grants.0 ∙ ap (λ (u : Poise CollateState). u.wish) is in cc)
first-steps fields n some one (Ended port) es p m q is s run d w = absurd (let h : wishes.Receive (record { 0 = port }) ≡ wishes.Deactivate = sym s.grants.0 ∙ ap (λ (u : Poise CollateState). u.wish) is in cc)
first-steps fields n some one (Sent port t) es p m q is s run d w = absurd (let h : wishes.Send (record { 0 = port }) (id_of t) ≡ wishes.Deactivate = sym s.grants.0 ∙ ap (λ (u : Poise CollateState). u.wish) is in cc)
first-steps fields n some one (Learned port level) es p m q is s run d w = absurd s.is_ready

-- Over a whole run it sends what its meaning makes of what it got.
pub collate_meaning : CollateMeaning
collate_meaning fields n [] some one run w = (sym (ap (bracketed fields None) (merge-none (full fields) (λ i. []) n 0 (λ f k l. refl))), omega arith, λ begun. absurd (begun refl))
collate_meaning fields n (e ∷ es) some one run w = first-steps fields n some one e es (fresh (fresh_collate fields n) run.maker) run.runs.0 run.last refl run.runs.1 run.runs.2 run.idle w
