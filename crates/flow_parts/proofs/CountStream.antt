-- What Count makes of its stream.
use Rattle.flow_limits.specs.declared.TheConstants.{TURN_LIMIT}
use Rattle.std.proofs.Common.{◌≡◌, ◌≢◌, ℕ, ◌+◌, ◌<◌, ◌≤◌, Bool, true, false, List, [], ◌∷◌, ◌++◌, length, refl, sym, ap, ◌∙◌, subst, arith, nat_eq, inl, inr, Some, cond}
use Rattle.std.proofs.lemmas.Bool.Decides.{nat_tests}
use Rattle.std.specs.Fmt.{decimal}
use Rattle.flow_packet.specs.declared.packet.Kind.{Kind}
use Rattle.flow_packet.specs.declared.packet.Kind.TheVariants.{Normal, Open, Close}
use Rattle.flow_packet.specs.Tree.{Tree, content, id_of, kind_of}
use Rattle.flow_packet.specs.Hands.{packet_at, kind_at}
use Rattle.flow_packet.specs.Held.{Held, next_id, with_made}
use Rattle.flow_component.specs.declared.Wish.TheVariants as wishes
use Rattle.flow_component.specs.Laws.{Wishes}
use Rattle.flow_component.specs.Ports.{receive_first, send_first}
use Rattle.flow_component.specs.Happenings.{Happening, Started, Received, Ended, Sent, Learned}
use Rattle.flow_component.specs.Runs.{Poise, fresh, Steps, Runs, got, sent, content_got, content_sent, text_packet, HeardEnd, IsEnd, BringsFirst, Wakes}
use Rattle.flow_component.proofs.Lone.{HoldsOnly-kind, HoldsOnly-end}
use Rattle.flow_component.proofs.Streams.{Comes-packets, contents_in, made_at, one-alone, content-kind}
use Rattle.flow_component.proofs.Ends.{heard-now, heard-later}
use Rattle.flow_component.proofs.Wished.{port_of, id_in}
use Rattle.flow_parts.specs.Count.{CountState, one_more, passes_on, goes_on, count_rules}
use Rattle.flow_parts.specs.Meanings.{fresh_count, normal_one, normals, IsCounted, CountMeaning}

brought-step : (t : Tree) (es : List Happening) (c : Bool) → (got 0 es ≡ [] → ⊥) → cond c (content t ∷ []) [] ++ got 0 es ≡ [] → ⊥
brought-step t es true rest n = cc
brought-step t es false rest n = rest n

-- where a packet comes before the end of an input, and the end was heard, something was got
pub brought : (es : List Happening) → BringsFirst 0 es → HeardEnd 0 es → got 0 es ≢ []
brought [] b h n = h
brought (Started ∷ es) b (inl h) n = h
brought (Started ∷ es) b (inr h) n = brought es b h n
brought (Received port t ∷ es) (inl same) h n = (let z : nat_eq 0 port ≡ true = grind (arith, nat_tests) in let bad : content t ∷ got 0 es ≡ [] = rw z at n in cc)
brought (Received port t ∷ es) (inr b) (inl h) n = h
brought (Received port t ∷ es) (inr b) (inr h) n = brought-step t es (nat_eq 0 port) (brought es b h) n
brought (Ended port ∷ es) b (inl h) n = b.0 h
brought (Ended port ∷ es) b (inr h) n = brought es b.1 h n
brought (Sent port t ∷ es) b (inl h) n = h
brought (Sent port t ∷ es) b (inr h) n = brought es b h n
brought (Learned port level ∷ es) b (inl h) n = h
brought (Learned port level ∷ es) b (inr h) n = brought es b h n

-- where it stands between two answers
data Phase : Type 0 where
  Receiving : Phase
  Passing : Tree → Phase
  Leaving : ℕ → Phase
  Over : Phase

abbrev at_number : Bool → ℕ → Bool → CountState
at_number c n leaving = record { connected = c; number = n; leaving = leaving }

abbrev Stands : Bool → ℕ → List Happening → Poise CountState → Phase → Type 0
Stands c n before p Receiving = (p.wish ≡ receive_first) × (p.component ≡ at_number c n false)
Stands c n before p (Passing t) = (p.wish ≡ send_first (id_of t)) × (p.component ≡ at_number c n false) × (p.held.packets ≡ t ∷ []) × (c ≡ true)
Stands c n before p (Leaving id) = (p.wish ≡ wishes.Send (record { 0 = 1 }) id) × (p.component ≡ at_number c n true) × (contents_in (packet_at p.held.packets id) ≡ text_packet (decimal n) ∷ []) × HeardEnd 0 before
Stands c n before p Over = (p.wish ≡ wishes.Deactivate) × HeardEnd 0 before

-- what it makes of what is to come
record Makes (c : Bool) (n : ℕ) (owed : List Tree) (es : List Happening) : Type 0 where
  heard : HeardEnd 0 es
  count : sent 1 es ≡ text_packet (decimal (n + normals (got 0 es))) ∷ []
  passed : c ≡ true → sent 0 es ≡ owed ++ got 0 es
  silent : c ≡ false → sent 0 es ≡ []

abbrev Leads : Bool → ℕ → Phase → List Happening → Type 0
Leads c n Receiving es = Makes c n [] es
Leads c n (Passing t) es = Makes c n (content t ∷ []) es
Leads c n (Leaving id) es = (got 0 es ≡ []) × (sent 0 es ≡ []) × (sent 1 es ≡ text_packet (decimal n) ∷ [])
Leads c n Over es = es ≡ []

counted-one : (kind : Kind) (n : ℕ) → n < TURN_LIMIT → one_more kind n ≡ n + normal_one kind
counted-one Normal n l = omega arith
counted-one Open n l = omega arith
counted-one Close n l = omega arith

abbrev Rec : Bool → List Happening → Poise CountState → Type 0
Rec c es q = (n : ℕ) (before : List Happening) (p : Poise CountState) (phase : Phase) → Stands c n before p phase → Runs count_rules p es q → Wakes 1 before es → n + length es ≤ TURN_LIMIT → Leads c n phase es

-- a packet came
takes : (c : Bool) (n : ℕ) (es : List Happening) (before : List Happening) (port : ℕ) (t : Tree) (held : Held) (m q : Poise CountState) (kind : Kind) → nat_eq 0 port ≡ true → held.packets ≡ t ∷ [] → kind ≡ kind_of (content t)
    → Wishes m.component m.held m.wish ≡ passes_on c (at_number c (one_more kind n) false) held (id_of t) → Runs count_rules m es q → Wakes 1 (before ++ Received port t ∷ []) es → n + (length es + 1) ≤ TURN_LIMIT → Rec c es q
    → Makes c n [] (Received port t ∷ es)
takes true n es before port t held m q kind z alone k comes r w few rec =
    let component : m.component ≡ at_number true (one_more kind n) false = cc in
    let hands : m.held ≡ held = cc in
    let wish : m.wish ≡ send_first (id_of t) = cc in
    let number : one_more kind n ≡ n + normal_one kind = counted-one kind n (omega arith) in
    let most : normal_one kind ≤ 1 = most-one kind in
    let made : Makes true (one_more kind n) (content t ∷ []) es = rec (one_more kind n) (before ++ Received port t ∷ []) m (Passing t) (wish, component, ap (λ (h : Held). h.packets) hands ∙ alone, refl) r w (omega arith) in
    let sum : one_more kind n + normals (got 0 es) ≡ n + (normal_one (kind_of (content t)) + normals (got 0 es)) = omega (arith, number, ap normal_one k) in
    record {
      heard = inr made.heard;
      count = rw z (made.count ∙ ap (λ (j : ℕ). text_packet (decimal j) ∷ []) sum);
      passed = λ e. rw z (made.passed refl);
      silent = λ e. absurd (let h : true ≡ false = e in cc);
    }
  where
    most-one : (kind : Kind) → normal_one kind ≤ 1
    most-one Normal = omega arith
    most-one Open = omega arith
    most-one Close = omega arith
takes false n es before port t held m q kind z alone k comes r w few rec =
    let component : m.component ≡ at_number false (one_more kind n) false = cc in
    let wish : m.wish ≡ receive_first = cc in
    let number : one_more kind n ≡ n + normal_one kind = counted-one kind n (omega arith) in
    let most : normal_one kind ≤ 1 = most-one kind in
    let made : Makes false (one_more kind n) [] es = rec (one_more kind n) (before ++ Received port t ∷ []) m Receiving (wish, component) r w (omega arith) in
    let sum : one_more kind n + normals (got 0 es) ≡ n + (normal_one (kind_of (content t)) + normals (got 0 es)) = omega (arith, number, ap normal_one k) in
    record {
      heard = inr made.heard;
      count = rw z (made.count ∙ ap (λ (j : ℕ). text_packet (decimal j) ∷ []) sum);
      passed = λ e. absurd (let h : false ≡ true = e in cc);
      silent = λ e. made.silent refl;
    }
  where
    most-one : (kind : Kind) → normal_one kind ≤ 1
    most-one Normal = omega arith
    most-one Open = omega arith
    most-one Close = omega arith

abbrev Step : Poise CountState → Happening → Poise CountState → Type 0
Step p e m = Steps count_rules p e m

step : (c : Bool) (n : ℕ) (es before : List Happening) (p m q : Poise CountState) (e : Happening) (phase : Phase) → Stands c n before p phase → Step p e m → Runs count_rules m es q → Wakes 1 before (e ∷ es) → n + length (e ∷ es) ≤ TURN_LIMIT → Rec c es q
    → Leads c n phase (e ∷ es)
step c n es before p m q Started Receiving st s r w few rec = absurd (let h : wishes.Deactivate ≡ receive_first = sym s.grants.0 ∙ st.0 in cc)
step c n es before p m q (Received port t) Receiving st s r w few rec =
    let h : wishes.Receive (record { 0 = port }) ≡ receive_first = sym s.grants.0 ∙ st.0 in
    let port_is : port ≡ 0 = ap port_of h in
    let z : nat_eq 0 port ≡ true = grind (arith, nat_tests) in
    let one = s.is_ready.1 in
    let same : t ≡ one.packet = HoldsOnly-end s.held p.held.packets t (Comes-packets p.held t s.held s.grants.1) one in
    let alone : s.held.packets ≡ t ∷ [] = one.holds ∙ ap (λ (u : Tree). u ∷ []) (sym same) in
    let kind : kind_at s.held.packets (id_of t) ≡ kind_of (content t) = HoldsOnly-kind s.held (id_of t) one ∙ ap kind_of (sym same) ∙ sym (content-kind t) in
    let comes : Wishes m.component m.held m.wish ≡ passes_on c (at_number c (one_more (kind_at s.held.packets (id_of t)) n) false) s.held (id_of t) =
    s.comes_to ∙ ap (λ (state : CountState). passes_on state.connected (record state { number = one_more (kind_at s.held.packets (id_of t)) state.number }) s.held (id_of t)) st.1 in
    takes c n es before port t s.held m q (kind_at s.held.packets (id_of t)) z alone kind comes r w.1 (omega arith) rec
step c n es before p m q (Ended port) Receiving st s r w few rec =
    let h : wishes.Receive (record { 0 = port }) ≡ receive_first = sym s.grants.0 ∙ st.0 in
    let port_is : port ≡ 0 = ap port_of h in
    let comes : Wishes m.component m.held m.wish ≡ Wishes (at_number c n true) (with_made s.held Normal (decimal n)) (wishes.Send (record { 0 = 1 }) (next_id s.held)) =
    s.comes_to ∙ ap (λ (state : CountState). Wishes (record state { leaving = true }) (with_made s.held Normal (decimal state.number)) (wishes.Send (record { 0 = 1 }) (next_id s.held))) st.1 in
    let component : m.component ≡ at_number c n true = cc in
    let hands : m.held ≡ with_made s.held Normal (decimal n) = cc in
    let wish : m.wish ≡ wishes.Send (record { 0 = 1 }) (next_id s.held) = cc in
    let made : contents_in (packet_at m.held.packets (next_id s.held)) ≡ text_packet (decimal n) ∷ [] = ap (λ (h : Held). contents_in (packet_at h.packets (next_id s.held))) hands ∙ made_at s.held (decimal n) s.is_ready.1 in
    let l = rec n (before ++ Ended port ∷ []) m (Leaving (next_id s.held)) (wish, component, made, heard-now 0 before (Ended port) port_is) r w.1 (omega arith) in
    let zero : n ≡ n + 0 = omega arith in
    record {
      heard = inl port_is;
      count = l.2 ∙ ap (λ (j : ℕ). text_packet (decimal j) ∷ []) (zero ∙ ap (λ (ts : List Tree). n + normals ts) (sym l.0));
      passed = λ e. l.1 ∙ sym l.0;
      silent = λ e. l.1;
    }
step c n es before p m q (Sent port t) Receiving st s r w few rec = absurd (let h : wishes.Send (record { 0 = port }) (id_of t) ≡ receive_first = sym s.grants.0 ∙ st.0 in cc)
step c n es before p m q (Learned port level) Receiving st s r w few rec = absurd s.is_ready
step c n es before p m q Started (Passing u) st s r w few rec = absurd (let h : wishes.Deactivate ≡ send_first (id_of u) = sym s.grants.0 ∙ st.0 in cc)
step c n es before p m q (Received port t) (Passing u) st s r w few rec = absurd (let h : wishes.Receive (record { 0 = port }) ≡ send_first (id_of u) = sym s.grants.0 ∙ st.0 in cc)
step c n es before p m q (Ended port) (Passing u) st s r w few rec = absurd (let h : wishes.Receive (record { 0 = port }) ≡ send_first (id_of u) = sym s.grants.0 ∙ st.0 in cc)
step c n es before p m q (Sent port t) (Passing u) st s r w few rec =
    let h : wishes.Send (record { 0 = port }) (id_of t) ≡ send_first (id_of u) = sym s.grants.0 ∙ st.0 in
    let port_is : port ≡ 0 = ap port_of h in
    let id_is : id_of t ≡ id_of u = ap id_in h in
    let z : nat_eq 0 port ≡ true = grind (arith, nat_tests) in
    let y : nat_eq 1 port ≡ false = grind (arith, nat_tests) in
    let found : Some t ≡ Some u = sym s.grants.1 ∙ ap (packet_at p.held.packets) id_is ∙ one-alone p.held.packets u st.2 in
    let same : t ≡ u = cc in
    let comes : Wishes m.component m.held m.wish ≡ Wishes (at_number c n false) s.held receive_first = s.comes_to ∙ ap (λ (state : CountState). goes_on state.leaving state s.held) st.1 in
    let component : m.component ≡ at_number c n false = cc in
    let wish : m.wish ≡ receive_first = cc in
    let made : Makes c n [] es = rec n (before ++ Sent port t ∷ []) m Receiving (wish, component) r w.1 (omega arith) in
    record {
      heard = inr made.heard;
      count = rw y made.count;
      passed = λ e. rw z (λ i. content (same i) ∷ made.passed e i);
      silent = λ e. absurd (let h : true ≡ false = sym st.3 ∙ e in cc);
    }
step c n es before p m q (Learned port level) (Passing u) st s r w few rec = absurd s.is_ready
step c n es before p m q Started (Leaving id) st s r w few rec = absurd (let h : wishes.Deactivate ≡ wishes.Send (record { 0 = 1 }) id = sym s.grants.0 ∙ st.0 in cc)
step c n es before p m q (Received port t) (Leaving id) st s r w few rec = absurd (let h : wishes.Receive (record { 0 = port }) ≡ wishes.Send (record { 0 = 1 }) id = sym s.grants.0 ∙ st.0 in cc)
step c n es before p m q (Ended port) (Leaving id) st s r w few rec = absurd (let h : wishes.Receive (record { 0 = port }) ≡ wishes.Send (record { 0 = 1 }) id = sym s.grants.0 ∙ st.0 in cc)
step c n es before p m q (Sent port t) (Leaving id) st s r w few rec =
    let h : wishes.Send (record { 0 = port }) (id_of t) ≡ wishes.Send (record { 0 = 1 }) id = sym s.grants.0 ∙ st.0 in
    let port_is : port ≡ 1 = ap port_of h in
    let id_is : id_of t ≡ id = ap id_in h in
    let z : nat_eq 0 port ≡ false = grind (arith, nat_tests) in
    let y : nat_eq 1 port ≡ true = grind (arith, nat_tests) in
    let found : content t ∷ [] ≡ text_packet (decimal n) ∷ [] = sym (ap contents_in (ap (packet_at p.held.packets) (sym id_is) ∙ s.grants.1)) ∙ st.2 in
    let comes : Wishes m.component m.held m.wish ≡ Wishes (at_number c n false) s.held wishes.Deactivate = s.comes_to ∙ ap (λ (state : CountState). goes_on state.leaving state s.held) st.1 in
    let wish : m.wish ≡ wishes.Deactivate = cc in
    let over : es ≡ [] = rec n (before ++ Sent port t ∷ []) m Over (wish, heard-later 0 before (Sent port t) st.3) r w.1 (omega arith) in
    rw over (refl, rw z refl, rw y found)
step c n es before p m q (Learned port level) (Leaving id) st s r w few rec = absurd s.is_ready
step c n es before p m q Started Over st s r w few rec = absurd (elim (w.0 tt) [ inl none ↦ subst (HeardEnd 0) none st.1 | inr at ↦ (let z : at.0 ≡ 0 = (let l = at.1 in omega arith) in at.2 (subst (λ (i : ℕ). HeardEnd i before) (sym z) st.1)) ])
step c n es before p m q (Received port t) Over st s r w few rec = absurd (let h : wishes.Receive (record { 0 = port }) ≡ wishes.Deactivate = sym s.grants.0 ∙ st.0 in cc)
step c n es before p m q (Ended port) Over st s r w few rec = absurd (let h : wishes.Receive (record { 0 = port }) ≡ wishes.Deactivate = sym s.grants.0 ∙ st.0 in cc)
step c n es before p m q (Sent port t) Over st s r w few rec = absurd (let h : wishes.Send (record { 0 = port }) (id_of t) ≡ wishes.Deactivate = sym s.grants.0 ∙ st.0 in cc)
step c n es before p m q (Learned port level) Over st s r w few rec = absurd s.is_ready

ends : (c : Bool) (n : ℕ) (before : List Happening) (p q : Poise CountState) (phase : Phase) → Stands c n before p phase → q ≡ p → q.wish ≡ wishes.Deactivate → Leads c n phase []
ends c n before p q Receiving st r d = absurd (let h : receive_first ≡ wishes.Deactivate = sym st.0 ∙ ap (λ (u : Poise CountState). u.wish) (sym r) ∙ d in cc)
ends c n before p q (Passing u) st r d = absurd (let h : send_first (id_of u) ≡ wishes.Deactivate = sym st.0 ∙ ap (λ (u : Poise CountState). u.wish) (sym r) ∙ d in cc)
ends c n before p q (Leaving id) st r d = absurd (let h : wishes.Send (record { 0 = 1 }) id ≡ wishes.Deactivate = sym st.0 ∙ ap (λ (u : Poise CountState). u.wish) (sym r) ∙ d in cc)
ends c n before p q Over st r d = refl

count_run : (c : Bool) (es : List Happening) (q : Poise CountState) → q.wish ≡ wishes.Deactivate → Rec c es q
count_run c [] q d n before p phase st r w few = ends c n before p q phase st r d
count_run c (e ∷ es) q d n before p phase st r w few = step c n es before p r.0 q e phase st r.1 r.2 w few (count_run c es q d)

begun : (c : Bool) (e : Happening) (es : List Happening) (p m q : Poise CountState) → p ≡ fresh (fresh_count c) p.held.maker → Step p e m → Runs count_rules m es q → q.wish ≡ wishes.Deactivate → Rattle.flow_component.specs.Runs.StartsBring (λ port. port ≡ 0) (e ∷ es) → Wakes 1 [] (e ∷ es)
    → length (e ∷ es) ≤ TURN_LIMIT → IsCounted c (got 0 (e ∷ es)) (sent 0 (e ∷ es)) (sent 1 (e ∷ es))
begun c Started es p m q is s r d brings w few =
    let comes : Wishes m.component m.held m.wish ≡ Wishes (fresh_count c) s.held receive_first = s.comes_to ∙ ap (λ (u : Poise CountState). Wishes u.component s.held receive_first) is in
    let component : m.component ≡ fresh_count c = cc in
    let wish : m.wish ≡ receive_first = cc in
    let made : Makes c 0 [] es = count_run c es q d 0 (Started ∷ []) m Receiving (wish, component) r w.1 (omega arith) in
    let first : BringsFirst 0 es = subst (λ (i : ℕ). BringsFirst i es) brings.0.1 brings.0.2 in
    record {
      passed = made.passed;
      silent = made.silent;
      nothing = λ none. absurd (brought es first made.heard none);
      counted = λ some. made.count ∙ ap (λ (j : ℕ). text_packet (decimal j) ∷ []) (let e : 0 + normals (got 0 es) ≡ normals (got 0 es) = omega arith in e);
    }
begun c (Received port t) es p m q is s r d brings w few = absurd (let h : wishes.Receive (record { 0 = port }) ≡ wishes.Deactivate = sym s.grants.0 ∙ ap (λ (u : Poise CountState). u.wish) is in cc)
begun c (Ended port) es p m q is s r d brings w few = absurd (let h : wishes.Receive (record { 0 = port }) ≡ wishes.Deactivate = sym s.grants.0 ∙ ap (λ (u : Poise CountState). u.wish) is in cc)
begun c (Sent port t) es p m q is s r d brings w few = absurd (let h : wishes.Send (record { 0 = port }) (id_of t) ≡ wishes.Deactivate = sym s.grants.0 ∙ ap (λ (u : Poise CountState). u.wish) is in cc)
begun c (Learned port level) es p m q is s r d brings w few = absurd s.is_ready

-- Over a whole run it sends what its meaning makes of what it got.
pub count_meaning : CountMeaning
count_meaning c [] run brings w few = record { passed = λ e. refl; silent = λ e. refl; nothing = λ e. refl; counted = λ some. absurd (some refl) }
count_meaning c (e ∷ es) run brings w few = begun c e es (fresh (fresh_count c) run.maker) run.runs.0 run.last refl run.runs.1 run.runs.2 run.idle brings w few
