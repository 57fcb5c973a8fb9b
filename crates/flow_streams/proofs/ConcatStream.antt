-- What Concat makes of its streams.
use Rattle.std.proofs.Common.{◌≡◌, ◌≢◌, ℕ, ◌+◌, ◌<◌, ◌≤◌, zero, suc, Bool, true, false, List, [], ◌∷◌, ◌++◌, refl, sym, ap, ◌∙◌, subst, arith, nat_eq, nat_lt, inl, inr, Some}
use Rattle.std.proofs.lemmas.Bool.Decides.{nat_tests}
use Rattle.flow_packet.specs.Tree.{Tree, content, id_of}
use Rattle.flow_packet.specs.Hands.{packet_at}
use Rattle.flow_packet.specs.Held.{Held}
use Rattle.flow_component.specs.declared.Wish.TheVariants as wishes
use Rattle.flow_component.specs.Laws.{Wishes}
use Rattle.flow_component.specs.Ports.{send_first}
use Rattle.flow_component.specs.Happenings.{Happening, Started, Received, Ended, Sent, Learned}
use Rattle.flow_component.specs.Runs.{Poise, fresh, Steps, Runs, got, sent, HeardEnd, Wakes, starts}
use Rattle.flow_component.proofs.Lone.{HoldsOnly-end}
use Rattle.flow_component.proofs.Streams.{Comes-packets, one-alone}
use Rattle.flow_component.proofs.Ends.{heard-now, heard-later}
use Rattle.flow_component.proofs.Wished.{port_of, id_in}
use Rattle.flow_streams.specs.Concat.{ConcatState, receive_at, ends, concat_rules}
use Rattle.flow_streams.specs.Meanings.{fresh_concat, got_from, ConcatMeaning}

-- a happening that brings nothing at these inputs
got-skip : (i k : ℕ) (t : Tree) (es : List Happening) → i ≢ k → got i (Received k t ∷ es) ≡ got i es
got-skip i k t es other = let z : nat_eq i k ≡ false = grind (arith, nat_tests) in rw z refl

got_from-skip : (j n k : ℕ) (t : Tree) (es : List Happening) → k < j → got_from j n (Received k t ∷ es) ≡ got_from j n es
got_from-skip j zero k t es l = refl
got_from-skip j (suc n) k t es l = λ i. got-skip j k t es (λ e. omega arith) i ++ got_from-skip (j + 1) n k t es (omega arith) i

got_from-started : (j n : ℕ) (es : List Happening) → got_from j n (Started ∷ es) ≡ got_from j n es
got_from-started j zero es = refl
got_from-started j (suc n) es = ap (λ ts. got j es ++ ts) (got_from-started (j + 1) n es)

got_from-ended : (j n port : ℕ) (es : List Happening) → got_from j n (Ended port ∷ es) ≡ got_from j n es
got_from-ended j zero port es = refl
got_from-ended j (suc n) port es = ap (λ ts. got j es ++ ts) (got_from-ended (j + 1) n port es)

got_from-sent : (j n port : ℕ) (t : Tree) (es : List Happening) → got_from j n (Sent port t ∷ es) ≡ got_from j n es
got_from-sent j zero port t es = refl
got_from-sent j (suc n) port t es = ap (λ ts. got j es ++ ts) (got_from-sent (j + 1) n port t es)

got_from-none : (j n : ℕ) → got_from j n [] ≡ []
got_from-none j zero = refl
got_from-none j (suc n) = got_from-none (j + 1) n

data Phase : Type 0 where
  Receiving : Phase
  Passing : Tree → Phase
  Over : Phase

-- it is at input k, and r more come after it
abbrev at_input : ℕ → ℕ → ConcatState
at_input k r = record { count = k + r + 1; at = k }

abbrev Stands : ℕ → ℕ → List Happening → Poise ConcatState → Phase → Type 0
Stands k r before p Receiving = (p.wish ≡ receive_at k) × (p.component ≡ at_input k r) × ((i : ℕ) → i < k → HeardEnd i before)
Stands k r before p (Passing t) = (p.wish ≡ send_first (id_of t)) × (p.component ≡ at_input k r) × (p.held.packets ≡ t ∷ []) × ((i : ℕ) → i < k → HeardEnd i before)
Stands k r before p Over = (p.wish ≡ wishes.Deactivate) × (before ≢ []) × ((i : ℕ) → i < k + r + 1 → HeardEnd i before)

record Makes (k r : ℕ) (owed : List Tree) (es : List Happening) : Type 0 where
  all : sent 0 es ≡ owed ++ got_from k (suc r) es
  none : (i : ℕ) → i < k → got i es ≡ []
  once : starts es ≡ 0
  heard : (i : ℕ) → k ≤ i → i < k + r + 1 → HeardEnd i es

abbrev Leads : ℕ → ℕ → Phase → List Happening → Type 0
Leads k r Receiving es = Makes k r [] es
Leads k r (Passing t) es = Makes k r (content t ∷ []) es
Leads k r Over es = es ≡ []

abbrev Step : Poise ConcatState → Happening → Poise ConcatState → Type 0
Step p e m = Steps concat_rules p e m

abbrev Rec : ℕ → List Happening → Poise ConcatState → Type 0
Rec n es q = (k r : ℕ) → n ≡ k + r + 1 → (before : List Happening) (p : Poise ConcatState) (phase : Phase) → Stands k r before p phase → Runs concat_rules p es q → Wakes n before es → Leads k r phase es

-- the end of an input
after-end : (n k r : ℕ) → n ≡ k + r + 1 → (es before : List Happening) (p m q : Poise ConcatState) (held : Held) (b : Bool) → nat_lt (k + 1) (k + r + 1) ≡ b → ((i : ℕ) → i < k → HeardEnd i before) → Wishes m.component m.held m.wish ≡ ends b (at_input k r) held
    → Runs concat_rules m es q → Wakes n (before ++ Ended k ∷ []) es → Rec n es q → Makes k r [] (Ended k ∷ es)
after-end n k zero c es before p m q held true t heard comes r w rec = absurd (let l : k + 1 < k + 0 + 1 = grind (arith, nat_tests) in omega arith)
after-end n k (suc r') c es before p m q held true t heard comes r w rec =
    let c' : n ≡ k + 1 + r' + 1 = omega arith in
    let same : k + suc r' + 1 ≡ k + 1 + r' + 1 = omega arith in
    let component : m.component ≡ record { count = k + suc r' + 1; at = k + 1 } = cc in
    let wish : m.wish ≡ receive_at (k + 1) = cc in
    let made : Makes (k + 1) r' [] es = rec (k + 1) r' c' (before ++ Ended k ∷ []) m Receiving (wish, component ∙ (λ i. record { count = same i; at = k + 1 }), λ i l. heard-upto i l) r w in
    record {
      all = made.all ∙ (λ i. sym (made.none k (omega arith)) i ++ sym (got_from-ended (k + 1) (suc r') k es) i);
      none = λ i l. made.none i (omega arith);
      once = made.once;
      heard = λ i least most. ends-heard i least most made;
    }
  where
    heard-upto : (i : ℕ) → i < k + 1 → HeardEnd i (before ++ Ended k ∷ [])
    heard-upto i l = by (nat_lt i k) refl
      where
        by : (b : Bool) → nat_lt i k ≡ b → HeardEnd i (before ++ Ended k ∷ [])
        by true u = heard-later i before (Ended k) (heard i (let v : i < k = grind (arith, nat_tests) in v))
        by false u = heard-now i before (Ended k) (let v : k ≤ i = grind (arith, nat_tests) in let e : k ≡ i = omega arith in e)

    ends-heard : (i : ℕ) → k ≤ i → i < k + suc r' + 1 → Makes (k + 1) r' [] es → HeardEnd i (Ended k ∷ es)
    ends-heard i least most made = by (nat_eq k i) refl
      where
        by : (b : Bool) → nat_eq k i ≡ b → HeardEnd i (Ended k ∷ es)
        by true u = inl (let e : k ≡ i = grind (arith, nat_tests) in e)
        by false u = inr (made.heard i (let e : k ≡ i → ⊥ = λ h. grind (arith, nat_tests) in (let v : k + 1 ≤ i = grind (arith, nat_tests) in v)) (omega arith))
after-end n k r c es before p m q held false t heard comes run w rec =
    let less : k + r + 1 ≤ k + 1 = grind (arith, nat_tests) in
    let r0 : r ≡ 0 = omega arith in
    let wish : m.wish ≡ wishes.Deactivate = cc in
    let over : es ≡ [] = rec k r c (before ++ Ended k ∷ []) m Over (wish, (λ h. some before h), λ i l. heard-all i l) run w in
    record {
      all = ap (sent 0) over ∙ sym (got_from-ended k (suc r) k es ∙ ap (got_from k (suc r)) over ∙ got_from-none k (suc r));
      none = λ i l. ap (got i) over;
      once = ap starts over;
      heard = λ i least most. inl (let e : k ≡ i = omega arith in e);
    }
  where
    some : (hs : List Happening) → hs ++ Ended k ∷ [] ≡ [] → ⊥
    some [] h = cc
    some (f ∷ hs) h = cc

    heard-all : (i : ℕ) → i < k + r + 1 → HeardEnd i (before ++ Ended k ∷ [])
    heard-all i l = by (nat_lt i k) refl
      where
        by : (b : Bool) → nat_lt i k ≡ b → HeardEnd i (before ++ Ended k ∷ [])
        by true u = heard-later i before (Ended k) (heard i (let v : i < k = grind (arith, nat_tests) in v))
        by false u = heard-now i before (Ended k) (let v : k ≤ i = grind (arith, nat_tests) in let less : k + r + 1 ≤ k + 1 = grind (arith, nat_tests) in let e : k ≡ i = omega arith in e)

step : (n k r : ℕ) → n ≡ k + r + 1 → (es before : List Happening) (p m q : Poise ConcatState) (e : Happening) (phase : Phase) → Stands k r before p phase → Step p e m → Runs concat_rules m es q → Wakes n before (e ∷ es) → Rec n es q → Leads k r phase (e ∷ es)
step n k r c es before p m q Started Receiving st s run w rec = absurd (let h : wishes.Deactivate ≡ receive_at k = sym s.grants.0 ∙ st.0 in cc)
step n k r c es before p m q (Received port t) Receiving st s run w rec =
    let h : wishes.Receive (record { 0 = port }) ≡ receive_at k = sym s.grants.0 ∙ st.0 in
    let port_is : port ≡ k = ap port_of h in
    let z : nat_eq k port ≡ true = grind (arith, nat_tests) in
    let one = s.is_ready.1 in
    let same : t ≡ one.packet = HoldsOnly-end s.held p.held.packets t (Comes-packets p.held t s.held s.grants.1) one in
    let alone : s.held.packets ≡ t ∷ [] = one.holds ∙ ap (λ (u : Tree). u ∷ []) (sym same) in
    let comes : Wishes m.component m.held m.wish ≡ Wishes p.component s.held (send_first (id_of t)) = s.comes_to in
    let component : m.component ≡ p.component = cc in
    let hands : m.held ≡ s.held = cc in
    let wish : m.wish ≡ send_first (id_of t) = cc in
    let made : Makes k r (content t ∷ []) es = rec k r c (before ++ Received port t ∷ []) m (Passing t) (wish, component ∙ st.1, ap (λ (h : Held). h.packets) hands ∙ alone, λ i l. heard-later i before (Received port t) (st.2 i l)) run w.1 in
    record {
      all = made.all ∙ rw z (ap (λ ts. content t ∷ got k es ++ ts) (sym (got_from-skip (k + 1) r port t es (omega arith))));
      none = λ i l. got-skip i port t es (λ e. omega arith) ∙ made.none i l;
      once = made.once;
      heard = λ i least most. inr (made.heard i least most);
    }
step n k r c es before p m q (Ended port) Receiving st s run w rec =
    let h : wishes.Receive (record { 0 = port }) ≡ receive_at k = sym s.grants.0 ∙ st.0 in
    let port_is : port ≡ k = ap port_of h in
    let comes : Wishes m.component m.held m.wish ≡ ends (nat_lt (k + 1) (k + r + 1)) (at_input k r) s.held = s.comes_to ∙ ap (λ (state : ConcatState). ends (nat_lt (state.at + 1) state.count) state s.held) st.1 in
    let w' : Wakes n (before ++ Ended k ∷ []) es = subst (λ (i : ℕ). Wakes n (before ++ Ended i ∷ []) es) port_is w.1 in
    subst (λ (i : ℕ). Makes k r [] (Ended i ∷ es)) (sym port_is) (after-end n k r c es before p m q s.held (nat_lt (k + 1) (k + r + 1)) refl st.2 comes run w' rec)
step n k r c es before p m q (Sent port t) Receiving st s run w rec = absurd (let h : wishes.Send (record { 0 = port }) (id_of t) ≡ receive_at k = sym s.grants.0 ∙ st.0 in cc)
step n k r c es before p m q (Learned port level) Receiving st s run w rec = absurd s.is_ready
step n k r c es before p m q Started (Passing u) st s run w rec = absurd (let h : wishes.Deactivate ≡ send_first (id_of u) = sym s.grants.0 ∙ st.0 in cc)
step n k r c es before p m q (Received port t) (Passing u) st s run w rec = absurd (let h : wishes.Receive (record { 0 = port }) ≡ send_first (id_of u) = sym s.grants.0 ∙ st.0 in cc)
step n k r c es before p m q (Ended port) (Passing u) st s run w rec = absurd (let h : wishes.Receive (record { 0 = port }) ≡ send_first (id_of u) = sym s.grants.0 ∙ st.0 in cc)
step n k r c es before p m q (Sent port t) (Passing u) st s run w rec =
    let h : wishes.Send (record { 0 = port }) (id_of t) ≡ send_first (id_of u) = sym s.grants.0 ∙ st.0 in
    let port_is : port ≡ 0 = ap port_of h in
    let id_is : id_of t ≡ id_of u = ap id_in h in
    let z : nat_eq 0 port ≡ true = grind (arith, nat_tests) in
    let found : Some t ≡ Some u = sym s.grants.1 ∙ ap (packet_at p.held.packets) id_is ∙ one-alone p.held.packets u st.2 in
    let same : t ≡ u = cc in
    let comes : Wishes m.component m.held m.wish ≡ Wishes (at_input k r) s.held (receive_at k) = s.comes_to ∙ ap (λ (state : ConcatState). Wishes state s.held (receive_at state.at)) st.1 in
    let component : m.component ≡ at_input k r = cc in
    let wish : m.wish ≡ receive_at k = cc in
    let made : Makes k r [] es = rec k r c (before ++ Sent port t ∷ []) m Receiving (wish, component, λ i l. heard-later i before (Sent port t) (st.3 i l)) run w.1 in
    record {
      all = rw z (λ i. content (same i) ∷ (made.all ∙ sym (got_from-sent k (suc r) port t es)) i);
      none = λ i l. made.none i l;
      once = made.once;
      heard = λ i least most. inr (made.heard i least most);
    }
step n k r c es before p m q (Learned port level) (Passing u) st s run w rec = absurd s.is_ready
step n k r c es before p m q Started Over st s run w rec =
    absurd (elim (w.0 tt) [ inl none ↦ st.1 none | inr at ↦ at.2 (st.2 at.0 (let l = at.1 in omega (arith, l, c))) ])
step n k r c es before p m q (Received port t) Over st s run w rec = absurd (let h : wishes.Receive (record { 0 = port }) ≡ wishes.Deactivate = sym s.grants.0 ∙ st.0 in cc)
step n k r c es before p m q (Ended port) Over st s run w rec = absurd (let h : wishes.Receive (record { 0 = port }) ≡ wishes.Deactivate = sym s.grants.0 ∙ st.0 in cc)
step n k r c es before p m q (Sent port t) Over st s run w rec = absurd (let h : wishes.Send (record { 0 = port }) (id_of t) ≡ wishes.Deactivate = sym s.grants.0 ∙ st.0 in cc)
step n k r c es before p m q (Learned port level) Over st s run w rec = absurd s.is_ready

ends-run : (k r : ℕ) (before : List Happening) (p q : Poise ConcatState) (phase : Phase) → Stands k r before p phase → q ≡ p → q.wish ≡ wishes.Deactivate → Leads k r phase []
ends-run k r before p q Receiving st e d = absurd (let h : receive_at k ≡ wishes.Deactivate = sym st.0 ∙ ap (λ (u : Poise ConcatState). u.wish) (sym e) ∙ d in cc)
ends-run k r before p q (Passing u) st e d = absurd (let h : send_first (id_of u) ≡ wishes.Deactivate = sym st.0 ∙ ap (λ (u : Poise ConcatState). u.wish) (sym e) ∙ d in cc)
ends-run k r before p q Over st e d = refl

concat_run : (n : ℕ) (es : List Happening) (q : Poise ConcatState) → q.wish ≡ wishes.Deactivate → Rec n es q
concat_run n [] q d k r c before p phase st run w = ends-run k r before p q phase st run d
concat_run n (e ∷ es) q d k r c before p phase st run w = step n k r c es before p run.0 q e phase st run.1 run.2 w (concat_run n es q d)

begun : (n : ℕ) (e : Happening) (es : List Happening) (p m q : Poise ConcatState) → p ≡ fresh (fresh_concat (n + 1)) p.held.maker → Step p e m → Runs concat_rules m es q → q.wish ≡ wishes.Deactivate → Wakes (n + 1) [] (e ∷ es)
    → (sent 0 (e ∷ es) ≡ got_from 0 (n + 1) (e ∷ es)) × (starts (e ∷ es) ≤ 1) × (e ∷ es ≢ [] → (i : ℕ) → i ≤ n → HeardEnd i (e ∷ es))
begun n Started es p m q is s r d w =
    let comes : Wishes m.component m.held m.wish ≡ Wishes (fresh_concat (n + 1)) s.held (receive_at 0) = s.comes_to ∙ ap (λ (u : Poise ConcatState). Wishes u.component s.held (receive_at u.component.at)) is in
    let component : m.component ≡ fresh_concat (n + 1) = cc in
    let wish : m.wish ≡ receive_at 0 = cc in
    let c : n + 1 ≡ 0 + n + 1 = omega arith in
    let made : Makes 0 n [] es = concat_run (n + 1) es q d 0 n c (Started ∷ []) m Receiving (wish, component ∙ (λ i. record { count = c i; at = 0 }), λ i l. absurd (omega arith)) r w.1 in
    let one : suc n ≡ n + 1 = omega arith in (
      made.all ∙ ap (λ (j : ℕ). got_from 0 j es) one ∙ sym (got_from-started 0 (n + 1) es),
      (let o = made.once in omega arith),
      λ some i l. inr (made.heard i (omega arith) (omega arith)),
    )
begun n (Received port t) es p m q is s r d w = absurd (let h : wishes.Receive (record { 0 = port }) ≡ wishes.Deactivate = sym s.grants.0 ∙ ap (λ (u : Poise ConcatState). u.wish) is in cc)
begun n (Ended port) es p m q is s r d w = absurd (let h : wishes.Receive (record { 0 = port }) ≡ wishes.Deactivate = sym s.grants.0 ∙ ap (λ (u : Poise ConcatState). u.wish) is in cc)
begun n (Sent port t) es p m q is s r d w = absurd (let h : wishes.Send (record { 0 = port }) (id_of t) ≡ wishes.Deactivate = sym s.grants.0 ∙ ap (λ (u : Poise ConcatState). u.wish) is in cc)
begun n (Learned port level) es p m q is s r d w = absurd s.is_ready

-- Over a whole run it sends what its meaning makes of what it got.
pub concat_meaning : ConcatMeaning
concat_meaning n [] run w = (sym (got_from-none 0 (n + 1)), omega arith, λ some. absurd (some refl))
concat_meaning n (e ∷ es) run w = begun n e es (fresh (fresh_concat (n + 1)) run.maker) run.runs.0 run.last refl run.runs.1 run.runs.2 run.idle w
