-- What LoadBalance sends is a split of what it gets, substreams whole.
use Rattle.std.proofs.Common.{◌≡◌, ◌⊎◌, inl, inr, ℕ, zero, suc, ◌+◌, ◌<◌, Bool, true, false, List, [], ◌∷◌, ◌++◌, map, refl, sym, ap, ◌∙◌, subst, arith, nat_eq, nat_lt, if◌then◌else◌, cond, Some}
use Rattle.std.proofs.lemmas.Bool.Decides.{nat_tests}
use Rattle.std.specs.List.{flat_map}
use Rattle.flow_packet.specs.declared.packet.Kind.{Kind}
use Rattle.flow_packet.specs.Tree.{Tree, content, id_of, kind_of}
use Rattle.flow_packet.specs.Hands.{packet_at, kind_at}
use Rattle.flow_packet.specs.Held.{Held}
use Rattle.flow_component.specs.declared.Wish.{Wish}
use Rattle.flow_component.specs.declared.Wish.TheVariants as wishes
use Rattle.flow_component.specs.Laws.{Wishes}
use Rattle.flow_component.specs.Ports.{receive_first}
use Rattle.flow_component.specs.Happenings.{Happening, Started, Received, Ended, Sent, Learned}
use Rattle.flow_component.specs.Runs.{Poise, fresh, Steps, Runs, content_sent, got, sent}
use Rattle.flow_component.proofs.Lone.{HoldsOnly-kind, HoldsOnly-end}
use Rattle.flow_component.proofs.Streams.{Comes-packets, contents_in, content-kind, port_below_one, flat_map-append}
use Rattle.flow_component.proofs.Wished.{port_of, id_in}
use Rattle.flow_streams.specs.declared.load_balance.LoadPlace.{LoadPlace}
use Rattle.flow_streams.specs.declared.load_balance.LoadPlace.TheVariants.{Waiting, Asking}
use Rattle.flow_streams.specs.LoadBalance.{LoadState, send_at, level_at, depth_after, no_level, comes_at, comes, asks_on, weighs, learns, load_next, load_rules}
use Rattle.flow_streams.specs.Split.{Routed, StaysWhole, AreWithin, going_to}
use Rattle.flow_streams.specs.Meanings.{fresh_load, LoadBalanceMeaning}

-- What was sent, with its outputs

abbrev routed_by : Happening → List Routed
routed_by Started = []
routed_by (Received port t) = []
routed_by (Ended port) = []
routed_by (Sent port t) = record { output = port; content = content t } ∷ []
routed_by (Learned port level) = []

abbrev routes_of : List Happening → List Routed
routes_of told = flat_map routed_by told

to-one : (o port : ℕ) (t : Tree) (later : List Routed) (b : Bool) → nat_eq o port ≡ b → (cond b (content t ∷ []) []) ++ going_to o later ≡ going_to o (record { output = port; content = content t } ∷ later)
to-one o port t later true e = let s : nat_eq port o ≡ true = grind (arith, nat_tests) in rw s refl
to-one o port t later false e = let s : nat_eq port o ≡ false = (let n : o ≡ port → ⊥ = λ same. (let z : nat_eq o port ≡ true = grind (arith, nat_tests) in cc) in grind (arith, nat_tests)) in rw s refl

-- what was sent to an output is what was routed there
sent-routed : (o : ℕ) (told : List Happening) → sent o told ≡ going_to o (routes_of told)
sent-routed o [] = refl
sent-routed o (Started ∷ told) = sent-routed o told
sent-routed o (Received port t ∷ told) = sent-routed o told
sent-routed o (Ended port ∷ told) = sent-routed o told
sent-routed o (Sent port t ∷ told) = ap (λ ts. content_sent o (Sent port t) ++ ts) (sent-routed o told) ∙ to-one o port t (routes_of told) (nat_eq o port) refl
sent-routed o (Learned port level ∷ told) = sent-routed o told

-- Where it stands between two answers

data Phase : Type 0 where
  Resting : Phase
  Weighing : Tree → Phase
  Passing : Tree → Phase

-- the packet that it has is alone in its hands, and the depth is the one behind it
record Has (p : Poise LoadState) (t : Tree) : Type 0 where
  holds : p.held.packets ≡ t ∷ []

abbrev Stands : ℕ → Poise LoadState → Phase → Type 0
Stands n p Resting = (p.component.count ≡ n) × ((p.wish ≡ receive_first) ⊎ (p.wish ≡ wishes.Deactivate))
Stands n p (Weighing t) = (p.component.count ≡ n) × Has p t × ((output : ℕ) × (p.wish ≡ level_at output)) × (p.component.depth ≡ depth_after (kind_of (content t)) 0)
Stands n p (Passing t) = (p.component.count ≡ n) × Has p t × (p.wish ≡ send_at p.component.chosen (id_of t)) × (p.component.chosen < n)

abbrev contents : List Routed → List Tree
contents routes = map (λ routed. routed.content) routes

-- what is to come is a split of what is in the hands and of what is got
abbrev Leads : ℕ → Poise LoadState → Phase → List Happening → Type 0
Leads n p Resting es = (contents (routes_of es) ≡ got 0 es) × AreWithin n (routes_of es) × StaysWhole p.component.depth p.component.chosen (routes_of es)
Leads n p (Weighing t) es = (contents (routes_of es) ≡ content t ∷ got 0 es) × AreWithin n (routes_of es) × ((before : ℕ) → StaysWhole 0 before (routes_of es))
Leads n p (Passing t) es =
    (contents (routes_of es) ≡ content t ∷ got 0 es) × AreWithin n (routes_of es)
    × ((depth before : ℕ) → p.component.depth ≡ depth_after (kind_of (content t)) depth → (depth ≡ 0) ⊎ (p.component.chosen ≡ before) → StaysWhole depth before (routes_of es))

abbrev Step : Poise LoadState → Happening → Poise LoadState → Type 0
Step p e m = Steps load_rules p e m

-- what is known of the rest of a run
abbrev Rec : ℕ → List Happening → Poise LoadState → Type 0
Rec n es q = (p : Poise LoadState) (phase : Phase) → Stands n p phase → Runs load_rules p es q → Leads n p phase es

-- it rests as before
same-rest : (n : ℕ) (es : List Happening) (p m q : Poise LoadState) → p.component.count ≡ n → m.component ≡ p.component → (m.wish ≡ receive_first) ⊎ (m.wish ≡ wishes.Deactivate) → Runs load_rules m es q → Rec n es q → Leads n p Resting es
same-rest n es p m q count component wish r rec =
    let l = rec m Resting (ap (λ (s : LoadState). s.count) component ∙ count, wish) r in
    (l.0, l.1, subst (λ (s : LoadState). StaysWhole s.depth s.chosen (routes_of es)) component l.2)

-- a packet came outside of all brackets, or inside
comes-on : (n : ℕ) (es : List Happening) (p m q : Poise LoadState) (t : Tree) (held : Held) (kind : Kind) (depth : ℕ) → p.component.count ≡ n → p.component.chosen < n → held.packets ≡ t ∷ [] → kind ≡ kind_of (content t) → p.component.depth ≡ depth
    → Wishes m.component m.held m.wish ≡ comes_at (record p.component { depth = depth_after kind p.component.depth }) held (id_of t) depth → Runs load_rules m es q → Rec n es q
    → (contents (routes_of es) ≡ content t ∷ got 0 es) × AreWithin n (routes_of es) × StaysWhole p.component.depth p.component.chosen (routes_of es)
comes-on n es p m q t held kind zero count below alone k d comes r rec =
    let component : m.component ≡ record p.component { depth = depth_after kind p.component.depth; place = Asking (id_of t) 0 no_level } = cc in
    let hands : m.held ≡ held = cc in
    let wish : m.wish ≡ level_at 0 = cc in
    let has : Has m t = record { holds = ap (λ (h : Held). h.packets) hands ∙ alone } in
    let deep : m.component.depth ≡ depth_after (kind_of (content t)) 0 = ap (λ (s : LoadState). s.depth) component ∙ (λ i. depth_after (k i) (d i)) in
    let l = rec m (Weighing t) (ap (λ (s : LoadState). s.count) component ∙ count, has, (0, wish), deep) r in
    (l.0, l.1, subst (λ (z : ℕ). StaysWhole z p.component.chosen (routes_of es)) (sym d) (l.2 p.component.chosen))
comes-on n es p m q t held kind (suc outer) count below alone k d comes r rec =
    let component : m.component ≡ record p.component { depth = depth_after kind p.component.depth } = cc in
    let hands : m.held ≡ held = cc in
    let wish : m.wish ≡ send_at p.component.chosen (id_of t) = cc in
    let has : Has m t = record { holds = ap (λ (h : Held). h.packets) hands ∙ alone } in
    let same : m.component.chosen ≡ p.component.chosen = ap (λ (s : LoadState). s.chosen) component in
    let deep : m.component.depth ≡ depth_after (kind_of (content t)) p.component.depth = ap (λ (s : LoadState). s.depth) component ∙ ap (λ (c : Kind). depth_after c p.component.depth) k in
    let l = rec m (Passing t) (ap (λ (s : LoadState). s.count) component ∙ count, has, wish ∙ ap (λ (c : ℕ). send_at c (id_of t)) (sym same), subst (λ (c : ℕ). c < n) (sym same) below) r in
    (l.0, l.1, l.2 p.component.depth p.component.chosen deep (inr same))

-- the next output is asked, or the packet is sent to the chosen one
asks-more : (n : ℕ) (es : List Happening) (m q : Poise LoadState) (t : Tree) (state : LoadState) (held : Held) (output least : ℕ) (b : Bool) → state.count ≡ n → state.chosen < n → held.packets ≡ t ∷ [] → state.depth ≡ depth_after (kind_of (content t)) 0
    → Wishes m.component m.held m.wish ≡ (if b then Wishes (record state { place = Asking (id_of t) (output + 1) least }) held (level_at (output + 1)) else Wishes (record state { place = Waiting }) held (send_at state.chosen (id_of t)))
    → Runs load_rules m es q → Rec n es q
    → (contents (routes_of es) ≡ content t ∷ got 0 es) × AreWithin n (routes_of es) × ((before : ℕ) → StaysWhole 0 before (routes_of es))
asks-more n es m q t state held output least true count below alone d comes r rec =
    let component : m.component ≡ record state { place = Asking (id_of t) (output + 1) least } = cc in
    let hands : m.held ≡ held = cc in
    let wish : m.wish ≡ level_at (output + 1) = cc in
    let has : Has m t = record { holds = ap (λ (h : Held). h.packets) hands ∙ alone } in
    rec m (Weighing t) (ap (λ (s : LoadState). s.count) component ∙ count, has, (output + 1, wish), ap (λ (s : LoadState). s.depth) component ∙ d) r
asks-more n es m q t state held output least false count below alone d comes r rec =
    let component : m.component ≡ record state { place = Waiting } = cc in
    let hands : m.held ≡ held = cc in
    let wish : m.wish ≡ send_at state.chosen (id_of t) = cc in
    let has : Has m t = record { holds = ap (λ (h : Held). h.packets) hands ∙ alone } in
    let same : m.component.chosen ≡ state.chosen = ap (λ (s : LoadState). s.chosen) component in
    let l = rec m (Passing t) (ap (λ (s : LoadState). s.count) component ∙ count, has, wish ∙ ap (λ (c : ℕ). send_at c (id_of t)) (sym same), subst (λ (c : ℕ). c < n) (sym same) below) r in
    (l.0, l.1, λ before. l.2 0 before (ap (λ (s : LoadState). s.depth) component ∙ d) (inl refl))

-- a level was learned
weighs-on : (n : ℕ) (es : List Happening) (m q : Poise LoadState) (t : Tree) (state : LoadState) (held : Held) (output least level : ℕ) (b : Bool) → state.count ≡ n → state.chosen < n → output < n → held.packets ≡ t ∷ []
    → state.depth ≡ depth_after (kind_of (content t)) 0
    → Wishes m.component m.held m.wish ≡ (if b then asks_on (record state { chosen = output }) held (id_of t) output level else asks_on state held (id_of t) output least) → Runs load_rules m es q → Rec n es q
    → (contents (routes_of es) ≡ content t ∷ got 0 es) × AreWithin n (routes_of es) × ((before : ℕ) → StaysWhole 0 before (routes_of es))
weighs-on n es m q t state held output least level true count below within alone d comes r rec =
    asks-more n es m q t (record state { chosen = output }) held output level (nat_lt (output + 1) state.count) count within alone d comes r rec
weighs-on n es m q t state held output least level false count below within alone d comes r rec =
    asks-more n es m q t state held output least (nat_lt (output + 1) state.count) count below alone d comes r rec

learns-on : (n : ℕ) (es : List Happening) (m q : Poise LoadState) (t : Tree) (state : LoadState) (held : Held) (place : LoadPlace) (level : ℕ) → state.count ≡ n → state.chosen < n → Rattle.flow_streams.specs.LoadBalance.IsAsking state held place
    → held.packets ≡ t ∷ [] → state.depth ≡ depth_after (kind_of (content t)) 0 → Wishes m.component m.held m.wish ≡ learns state held place level → Runs load_rules m es q → Rec n es q
    → (contents (routes_of es) ≡ content t ∷ got 0 es) × AreWithin n (routes_of es) × ((before : ℕ) → StaysWhole 0 before (routes_of es))
learns-on n es m q t state held Waiting level count below asking alone d comes r rec = absurd asking
learns-on n es m q t state held (Asking id output least) level count below asking alone d comes r rec =
    let one : t ∷ [] ≡ asking.0.packet ∷ [] = sym alone ∙ asking.0.holds in
    let same : t ≡ asking.0.packet = cc in
    let named : id ≡ id_of t = sym asking.0.named ∙ ap id_of (sym same) in
    weighs-on n es m q t state held output least level (nat_lt level least) count below (subst (λ (k : ℕ). output < k) count asking.1) alone d
    (comes ∙ ap (λ (i : ℕ). weighs state held i output least level) named) r rec

rests : (w : Wish) → (w ≡ receive_first) ⊎ (w ≡ wishes.Deactivate) → (port : Rattle.flow_component.specs.declared.Port.Port) (id : ℕ) → w ≡ wishes.Send port id → ⊥
rests w (inl a) port id b = let h : wishes.Send port id ≡ receive_first = sym b ∙ a in cc
rests w (inr a) port id b = let h : wishes.Send port id ≡ wishes.Deactivate = sym b ∙ a in cc

rests-level : (w : Wish) → (w ≡ receive_first) ⊎ (w ≡ wishes.Deactivate) → (port : Rattle.flow_component.specs.declared.Port.Port) → w ≡ wishes.Level port → ⊥
rests-level w (inl a) port b = let h : wishes.Level port ≡ receive_first = sym b ∙ a in cc
rests-level w (inr a) port b = let h : wishes.Level port ≡ wishes.Deactivate = sym b ∙ a in cc

rests-port : (w : Wish) (port : ℕ) → (w ≡ receive_first) ⊎ (w ≡ wishes.Deactivate) → w ≡ wishes.Receive (record { 0 = port }) → port ≡ 0
rests-port w port (inl a) b = ap port_of (sym b ∙ a)
rests-port w port (inr a) b = absurd (let h : wishes.Receive (record { 0 = port }) ≡ wishes.Deactivate = sym b ∙ a in cc)

step : (n : ℕ) (es : List Happening) (p m q : Poise LoadState) (e : Happening) (phase : Phase) → Stands n p phase → Step p e m → Runs load_rules m es q → Rec n es q → Leads n p phase (e ∷ es)
step n es p m q Started Resting st s r rec =
    let component : m.component ≡ p.component = (let c : Wishes m.component m.held m.wish ≡ Wishes p.component s.held receive_first = s.comes_to in cc) in
    let wish : m.wish ≡ receive_first = (let c : Wishes m.component m.held m.wish ≡ Wishes p.component s.held receive_first = s.comes_to in cc) in
    same-rest n es p m q st.0 component (inl wish) r rec
step n es p m q (Received port t) Resting st s r rec =
    let port_is : port ≡ 0 = rests-port p.wish port st.1 s.grants.0 in
    let z : nat_eq 0 port ≡ true = grind (arith, nat_tests) in
    let one = s.is_ready.2 in
    let same : t ≡ one.packet = HoldsOnly-end s.held p.held.packets t (Comes-packets p.held t s.held s.grants.1) one in
    let alone : s.held.packets ≡ t ∷ [] = one.holds ∙ ap (λ (u : Tree). u ∷ []) (sym same) in
    let kind : kind_at s.held.packets (id_of t) ≡ kind_of (content t) = HoldsOnly-kind s.held (id_of t) one ∙ ap kind_of (sym same) ∙ sym (content-kind t) in
    let l = comes-on n es p m q t s.held (kind_at s.held.packets (id_of t)) p.component.depth st.0 (subst (λ (k : ℕ). p.component.chosen < k) st.0 s.is_ready.0) alone kind refl s.comes_to r rec in
    (rw z l.0, l.1, l.2)
step n es p m q (Ended port) Resting st s r rec =
    let component : m.component ≡ p.component = (let c : Wishes m.component m.held m.wish ≡ Wishes p.component s.held wishes.Deactivate = s.comes_to in cc) in
    let wish : m.wish ≡ wishes.Deactivate = (let c : Wishes m.component m.held m.wish ≡ Wishes p.component s.held wishes.Deactivate = s.comes_to in cc) in
    same-rest n es p m q st.0 component (inr wish) r rec
step n es p m q (Sent port t) Resting st s r rec = absurd (rests p.wish st.1 (record { 0 = port }) (id_of t) s.grants.0)
step n es p m q (Learned port level) Resting st s r rec = absurd (rests-level p.wish st.1 (record { 0 = port }) s.grants.0)
step n es p m q Started (Weighing u) st s r rec = absurd (let h : wishes.Deactivate ≡ level_at st.2.0 = sym s.grants.0 ∙ st.2.1 in cc)
step n es p m q (Received port t) (Weighing u) st s r rec = absurd (let h : wishes.Receive (record { 0 = port }) ≡ level_at st.2.0 = sym s.grants.0 ∙ st.2.1 in cc)
step n es p m q (Ended port) (Weighing u) st s r rec = absurd (let h : wishes.Receive (record { 0 = port }) ≡ level_at st.2.0 = sym s.grants.0 ∙ st.2.1 in cc)
step n es p m q (Sent port t) (Weighing u) st s r rec = absurd (let h : wishes.Send (record { 0 = port }) (id_of t) ≡ level_at st.2.0 = sym s.grants.0 ∙ st.2.1 in cc)
step n es p m q (Learned port level) (Weighing u) st s r rec =
    let alone : s.held.packets ≡ u ∷ [] = ap (λ (h : Held). h.packets) s.grants.1 ∙ st.1.holds in
    learns-on n es m q u p.component s.held p.component.place level st.0 (subst (λ (k : ℕ). p.component.chosen < k) st.0 s.is_ready.0) s.is_ready.1 alone st.3 s.comes_to r rec
step n es p m q Started (Passing u) st s r rec = absurd (let h : wishes.Deactivate ≡ send_at p.component.chosen (id_of u) = sym s.grants.0 ∙ st.2 in cc)
step n es p m q (Received port t) (Passing u) st s r rec = absurd (let h : wishes.Receive (record { 0 = port }) ≡ send_at p.component.chosen (id_of u) = sym s.grants.0 ∙ st.2 in cc)
step n es p m q (Ended port) (Passing u) st s r rec = absurd (let h : wishes.Receive (record { 0 = port }) ≡ send_at p.component.chosen (id_of u) = sym s.grants.0 ∙ st.2 in cc)
step n es p m q (Learned port level) (Passing u) st s r rec = absurd (let h : wishes.Level (record { 0 = port }) ≡ send_at p.component.chosen (id_of u) = sym s.grants.0 ∙ st.2 in cc)
step n es p m q (Sent port t) (Passing u) st s r rec =
    let h : wishes.Send (record { 0 = port }) (id_of t) ≡ send_at p.component.chosen (id_of u) = sym s.grants.0 ∙ st.2 in
    let port_is : port ≡ p.component.chosen = ap port_of h in
    let id_is : id_of t ≡ id_of u = ap id_in h in
    let found : Some t ≡ Some u = sym s.grants.1 ∙ ap (packet_at p.held.packets) id_is ∙ Rattle.flow_component.proofs.Streams.one-alone p.held.packets u st.1.holds in
    let same : t ≡ u = cc in
    let c : Wishes m.component m.held m.wish ≡ Wishes p.component s.held receive_first = s.comes_to in
    let component : m.component ≡ p.component = cc in
    let wish : m.wish ≡ receive_first = cc in
    let l = rec m Resting (ap (λ (k : LoadState). k.count) component ∙ st.0, inl wish) r in
    let whole : StaysWhole p.component.depth p.component.chosen (routes_of es) = subst (λ (k : LoadState). StaysWhole k.depth k.chosen (routes_of es)) component l.2 in (
      (λ i. content (same i) ∷ l.0 i),
      (subst (λ (k : ℕ). k < n) (sym port_is) st.3, l.1),
      λ depth before d w. (
        elim w as (λ _. (depth ≡ 0) ⊎ (port ≡ before)) [ inl none ↦ inl none | inr at ↦ inr (port_is ∙ at) ],
        subst (λ (k : ℕ). StaysWhole (depth_after (kind_of (content t)) depth) k (routes_of es)) (sym port_is)
            (subst (λ (k : ℕ). StaysWhole k p.component.chosen (routes_of es)) (d ∙ ap (λ (x : Tree). depth_after (kind_of (content x)) depth) (sym same)) whole),
      ),
    )

ends : (n : ℕ) (p q : Poise LoadState) (phase : Phase) → Stands n p phase → q ≡ p → q.wish ≡ wishes.Deactivate → Leads n p phase []
ends n p q Resting st r d = (refl, tt, tt)
ends n p q (Weighing u) st r d = absurd (let h : level_at st.2.0 ≡ wishes.Deactivate = sym st.2.1 ∙ ap (λ (k : Poise LoadState). k.wish) (sym r) ∙ d in cc)
ends n p q (Passing u) st r d = absurd (let h : send_at p.component.chosen (id_of u) ≡ wishes.Deactivate = sym st.2 ∙ ap (λ (k : Poise LoadState). k.wish) (sym r) ∙ d in cc)

load_run : (n : ℕ) (es : List Happening) (q : Poise LoadState) → q.wish ≡ wishes.Deactivate → Rec n es q
load_run n [] q d p phase st r = ends n p q phase st r d
load_run n (e ∷ es) q d p phase st r = step n es p r.0 q e phase st r.1 r.2 (load_run n es q d)

-- Over a whole run it sends what its meaning makes of what it got.
pub load_meaning : LoadBalanceMeaning
load_meaning n told run =
    let l = load_run n told run.last run.idle (fresh (fresh_load n) run.maker) Resting (refl, inr refl) run.runs in
    record { routes = routes_of told; all = l.0; each = λ o below. sent-routed o told; within = l.1; whole = l.2 }
