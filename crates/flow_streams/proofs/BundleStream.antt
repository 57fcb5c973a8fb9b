-- What Bundle sends is what it gets, with each substream replaced by its bundle.
use Rattle.std.proofs.Common.{◌≡◌, ◌⊎◌, inl, inr, ℕ, ◌-◌, ◌==◌, Bool, true, false, List, [], ◌∷◌, ◌++◌, map, refl, sym, ap, ◌∙◌, subst, arith, nat_eq, nat_lt, if◌then◌else◌, Some}
use Rattle.std.specs.Str.{bytes_eq}
use Rattle.std.proofs.lemmas.Bool.Decides.{nat_tests}
use Rattle.flow_packet.specs.declared.packet.Kind.{Kind}
use Rattle.flow_packet.specs.declared.packet.Kind.TheVariants.{Normal, Open, Close}
use Rattle.flow_packet.specs.Tree.{Tree, node, Chain, Chains, no_chains, chain, Trees, no_trees, tree, from_chains, to_chains, from_trees, to_trees, content, content_of_chains, content_of_trees, attach_to, id_of, kind_of, text_of, packet_of}
use Rattle.flow_packet.specs.Hands.{packet_at, text_at, kind_at, without, attached, height_at}
use Rattle.flow_packet.specs.Held.{Held, next_id, without_packet, with_made}
use Rattle.flow_component.specs.declared.Wish.TheVariants as wishes
use Rattle.flow_component.specs.declared.Fail.TheVariants.{TreeDepth}
use Rattle.flow_component.specs.Laws.{Wishes, Fails}
use Rattle.flow_component.specs.Alone.{HoldsOnly}
use Rattle.flow_component.specs.Ports.{receive_first, send_first}
use Rattle.flow_component.specs.Happenings.{Happening, Started, Received, Ended, Sent, Learned}
use Rattle.flow_component.specs.Runs.{Poise, fresh, Steps, Runs, got, sent}
use Rattle.flow_component.proofs.Lone.{HoldsOnly-kind, HoldsOnly-text, HoldsOnly-end}
use Rattle.flow_component.proofs.Streams.{Comes-packets, content-kind, content-text, one-alone}
use Rattle.flow_component.proofs.Wished.{port_of, id_in}
use Rattle.flow_streams.specs.Bundle.{items, deeper, begins, gathers, ends_bundle, bundles, HoldsTwo, bundle_rules}
use Rattle.flow_streams.specs.BundleLaws.{renewed, two-gone, two-gathered}
use Rattle.flow_streams.specs.declared.bundle.Bundle.{Bundle}
use Rattle.flow_streams.specs.declared.bundle.Bundle.TheVariants as components
use Rattle.flow_streams.specs.Bundled.{Outside, Inside, with_item, around_after, leaves_with, bundled}
use Rattle.flow_streams.specs.Meanings.{BundleMeaning}

-- The content of a bundle with a packet more

abbrev content_chain : Chain → Chain
content_chain c = (c.0, map content c.1)

trees-to : (ts : List Tree) → content_of_trees (to_trees ts) ≡ to_trees (map content ts)
trees-to [] = refl
trees-to (t ∷ ts) = ap (tree (content t)) (trees-to ts)

chains-to : (cs : List Chain) → content_of_chains (to_chains cs) ≡ to_chains (map content_chain cs)
chains-to [] = refl
chains-to (c ∷ cs) = λ i. chain c.0 (trees-to c.1 i) (chains-to cs i)

trees-from : (ts : Trees) → from_trees (content_of_trees ts) ≡ map content (from_trees ts)
trees-from no_trees = refl
trees-from (tree t ts) = ap (λ us. content t ∷ us) (trees-from ts)

chains-from : (cs : Chains) → from_chains (content_of_chains cs) ≡ map content_chain (from_chains cs)
chains-from no_chains = refl
chains-from (chain name ts cs) = λ i. (name, trees-from ts i) ∷ chains-from cs i

map-last : (ts : List Tree) (t : Tree) → map content (ts ++ t ∷ []) ≡ map content ts ++ content t ∷ []
map-last [] t = refl
map-last (u ∷ ts) t = ap (λ us. content u ∷ us) (map-last ts t)

attach-at : (c : Chain) (cs : List Chain) (name : List ℕ) (t : Tree) (b : Bool) → attach_to (map content_chain cs) name (content t) ≡ map content_chain (attach_to cs name t)
    → (if b then (c.0, map content c.1 ++ content t ∷ []) ∷ map content_chain cs else content_chain c ∷ attach_to (map content_chain cs) name (content t)) ≡ map content_chain (if b then (c.0, c.1 ++ t ∷ []) ∷ cs else c ∷ attach_to cs name t)
attach-at c cs name t true more = λ i. (c.0, sym (map-last c.1 t) i) ∷ map content_chain cs
attach-at c cs name t false more = ap (λ ds. content_chain c ∷ ds) more

attach-content : (cs : List Chain) (name : List ℕ) (t : Tree) → attach_to (map content_chain cs) name (content t) ≡ map content_chain (attach_to cs name t)
attach-content [] name t = refl
attach-content (c ∷ cs) name t = attach-at c cs name t (bytes_eq c.0 name) (attach-content cs name t)

-- the content of a bundle with a packet more is the bundle's content with the packet's
item-content : (bundle packet : Tree) → content (with_item bundle packet) ≡ with_item (content bundle) (content packet)
item-content (node id kind text cs) packet =
    ap (node 0 kind text) (chains-to (attach_to (from_chains cs) items packet) ∙ ap to_chains (sym (attach-content (from_chains cs) items packet) ∙ ap (λ ds. attach_to ds items (content packet)) (sym (chains-from cs))))

-- Where it stands between two answers

data Phase : Type 0 where
  Out : Phase
  In : (id : ℕ) → (bundle : Tree) → (depth : ℕ) → Phase
  Passing : Tree → Phase

abbrev Rests : Poise Bundle → Type 0
Rests p = (p.wish ≡ receive_first) ⊎ (p.wish ≡ wishes.Deactivate)

abbrev Stands : Poise Bundle → Phase → Type 0
Stands p Out = (p.component ≡ components.Outside) × Rests p × (p.held.packets ≡ [])
Stands p (In id bundle depth) = (p.component ≡ components.Inside id depth) × Rests p × (p.held.packets ≡ bundle ∷ [])
Stands p (Passing t) = (p.component ≡ components.Outside) × (p.wish ≡ send_first (id_of t)) × (p.held.packets ≡ t ∷ [])

abbrev Leads : Phase → List Happening → Type 0
Leads Out es = sent 0 es ≡ bundled Outside (got 0 es)
Leads (In id bundle depth) es = sent 0 es ≡ bundled (Inside (content bundle) depth) (got 0 es)
Leads (Passing t) es = sent 0 es ≡ content t ∷ bundled Outside (got 0 es)

abbrev Rec : List Happening → Poise Bundle → Type 0
Rec es q = (p : Poise Bundle) (phase : Phase) → Stands p phase → Runs bundle_rules p es q → Leads phase es

rests-port : (p : Poise Bundle) (port : ℕ) → Rests p → p.wish ≡ wishes.Receive (record { 0 = port }) → port ≡ 0
rests-port p port (inl a) b = ap port_of (sym b ∙ a)
rests-port p port (inr a) b = absurd (let h : wishes.Receive (record { 0 = port }) ≡ wishes.Deactivate = sym b ∙ a in cc)

rests-not : (p : Poise Bundle) (port : ℕ) (id : ℕ) → Rests p → p.wish ≡ wishes.Send (record { 0 = port }) id → ⊥
rests-not p port id (inl a) b = let h : wishes.Send (record { 0 = port }) id ≡ receive_first = sym b ∙ a in cc
rests-not p port id (inr a) b = let h : wishes.Send (record { 0 = port }) id ≡ wishes.Deactivate = sym b ∙ a in cc

-- A packet comes

passes : (es : List Happening) (m q : Poise Bundle) (t : Tree) (held : Held) → held.packets ≡ t ∷ [] → Wishes m.component m.held m.wish ≡ Wishes components.Outside held (send_first (id_of t)) → Runs bundle_rules m es q → Rec es q
    → sent 0 es ≡ content t ∷ bundled Outside (got 0 es)
passes es m q t held alone comes r rec =
    let component : m.component ≡ components.Outside = cc in
    let hands : m.held ≡ held = cc in
    let wish : m.wish ≡ send_first (id_of t) = cc in
    rec m (Passing t) (component, wish, ap (λ (h : Held). h.packets) hands ∙ alone) r

comes-out : (es : List Happening) (m q : Poise Bundle) (t : Tree) (held : Held) (h : HoldsOnly held (id_of t)) (kind : Kind) → held.packets ≡ t ∷ [] → Wishes m.component m.held m.wish ≡ bundles components.Outside held (id_of t) kind → Runs bundle_rules m es q → Rec es q
    → text_at held.packets (id_of t) ≡ text_of (content t) → sent 0 es ≡ leaves_with Outside (content t) kind ++ bundled (around_after Outside (content t) kind) (got 0 es)
comes-out es m q t held h Normal alone comes r rec text = passes es m q t held alone comes r rec
comes-out es m q t held h Close alone comes r rec text = passes es m q t held alone comes r rec
comes-out es m q t held h Open alone comes r rec text =
    let new = text_at held.packets (id_of t) in
    let c : Wishes m.component m.held m.wish ≡ Wishes (components.Inside (next_id held) 1) (without_packet (with_made held Normal new) (id_of t)) receive_first = comes in
    let component : m.component ≡ components.Inside (next_id held) 1 = cc in
    let hands : m.held ≡ without_packet (with_made held Normal new) (id_of t) = cc in
    let wish : m.wish ≡ receive_first = cc in
    let one : m.held.packets ≡ packet_of (next_id held) Normal new [] ∷ [] = ap (λ (x : Held). x.packets) hands ∙ renewed held (id_of t) Normal new h in
    rec m (In (next_id held) (packet_of (next_id held) Normal new []) 1) (component, inl wish, one) r ∙ ap (λ (s : List ℕ). bundled (Inside (packet_of 0 Normal s []) 1) (got 0 es)) text

gathers-in : (es : List Happening) (m q : Poise Bundle) (id depth depth' : ℕ) (u t : Tree) (held : Held) (h : HoldsTwo held id (id_of t)) (b : Bool) → h.first ≡ u → h.second ≡ t
    → Wishes m.component m.held m.wish ≡ (if b then Fails (components.Inside id depth) held TreeDepth else Wishes (components.Inside id depth') (record held { packets = attached held.packets id items (id_of t) }) receive_first) → Runs bundle_rules m es q → Rec es q
    → sent 0 es ≡ bundled (Inside (with_item (content u) (content t)) depth') (got 0 es)
gathers-in es m q id depth depth' u t held h true first second comes r rec = absurd (cc)
gathers-in es m q id depth depth' u t held h false first second comes r rec =
    let component : m.component ≡ components.Inside id depth' = cc in
    let hands : m.held ≡ record held { packets = attached held.packets id items (id_of t) } = cc in
    let wish : m.wish ≡ receive_first = cc in
    let one : m.held.packets ≡ with_item u t ∷ [] = ap (λ (x : Held). x.packets) hands ∙ two-gathered held id (id_of t) h ∙ (λ i. with_item (first i) (second i) ∷ []) in
    rec m (In id (with_item u t) depth') (component, inl wish, one) r ∙ ap (λ (x : Tree). bundled (Inside x depth') (got 0 es)) (item-content u t)

ends-in : (es : List Happening) (m q : Poise Bundle) (id : ℕ) (u t : Tree) (held : Held) (h : HoldsTwo held id (id_of t)) → h.first ≡ u → Wishes m.component m.held m.wish ≡ ends_bundle held id (id_of t) → Runs bundle_rules m es q → Rec es q
    → sent 0 es ≡ content u ∷ bundled Outside (got 0 es)
ends-in es m q id u t held h first comes r rec =
    let component : m.component ≡ components.Outside = cc in
    let hands : m.held ≡ without_packet held (id_of t) = cc in
    let wish : m.wish ≡ send_first id = cc in
    let named : id ≡ id_of u = sym h.first_named ∙ ap id_of first in
    rec m (Passing u) (component, wish ∙ ap send_first named, ap (λ (x : Held). x.packets) hands ∙ two-gone held id (id_of t) h ∙ ap (λ (x : Tree). x ∷ []) first) r

comes-in : (es : List Happening) (m q : Poise Bundle) (id depth : ℕ) (u t : Tree) (held : Held) (h : HoldsTwo held id (id_of t)) (kind : Kind) → h.first ≡ u → h.second ≡ t → Wishes m.component m.held m.wish ≡ bundles (components.Inside id depth) held (id_of t) kind
    → Runs bundle_rules m es q → Rec es q → sent 0 es ≡ leaves_with (Inside (content u) depth) (content t) kind ++ bundled (around_after (Inside (content u) depth) (content t) kind) (got 0 es)
comes-in es m q id depth u t held h Normal first second comes r rec = gathers-in es m q id depth depth u t held h (height_at held.packets (id_of t) == 16) first second comes r rec
comes-in es m q id depth u t held h Open first second comes r rec = gathers-in es m q id depth (deeper depth) u t held h (height_at held.packets (id_of t) == 16) first second comes r rec
comes-in es m q id depth u t held h Close first second comes r rec = by (nat_lt 1 depth) comes
  where
    by : (b : Bool) → Wishes m.component m.held m.wish ≡ (if b then gathers (components.Inside id depth) held id (id_of t) (depth - 1) else ends_bundle held id (id_of t))
        → sent 0 es ≡ (if b then [] else content u ∷ []) ++ bundled (if b then Inside (with_item (content u) (content t)) (depth - 1) else Outside) (got 0 es)
    by true c = gathers-in es m q id depth (depth - 1) u t held h (height_at held.packets (id_of t) == 16) first second c r rec
    by false c = ends-in es m q id u t held h first c r rec

two-are : (held : Held) (u t : Tree) (id : ℕ) (h : HoldsTwo held id (id_of t)) → held.packets ≡ u ∷ t ∷ [] → (h.first ≡ u) × (h.second ≡ t)
two-are held u t id h e = let s : h.first ∷ h.second ∷ [] ≡ u ∷ t ∷ [] = sym h.holds ∙ e in (cc, cc)

abbrev Step : Poise Bundle → Happening → Poise Bundle → Type 0
Step p e m = Steps bundle_rules p e m

step : (es : List Happening) (p m q : Poise Bundle) (e : Happening) (phase : Phase) → Stands p phase → Step p e m → Runs bundle_rules m es q → Rec es q → Leads phase (e ∷ es)
step es p m q Started Out st s r rec =
    let c : Wishes m.component m.held m.wish ≡ Wishes p.component s.held receive_first = s.comes_to in
    let component : m.component ≡ p.component = cc in
    let hands : m.held ≡ s.held = cc in
    let wish : m.wish ≡ receive_first = cc in
    rec m Out (component ∙ st.0, inl wish, ap (λ (x : Held). x.packets) (hands ∙ s.grants.1) ∙ st.2) r
step es p m q (Received port t) Out st s r rec =
    let port_is = rests-port p port st.1 s.grants.0 in
    let z : nat_eq 0 port ≡ true = grind (arith, nat_tests) in
    let h : HoldsOnly s.held (id_of t) = subst (λ (component : Bundle). Rattle.flow_streams.specs.Bundle.HasCome component s.held (id_of t)) st.0 s.is_ready in
    let same : t ≡ h.packet = HoldsOnly-end s.held p.held.packets t (Comes-packets p.held t s.held s.grants.1) h in
    let alone : s.held.packets ≡ t ∷ [] = h.holds ∙ ap (λ (x : Tree). x ∷ []) (sym same) in
    let kind : kind_at s.held.packets (id_of t) ≡ kind_of (content t) = HoldsOnly-kind s.held (id_of t) h ∙ ap kind_of (sym same) ∙ sym (content-kind t) in
    let text : text_at s.held.packets (id_of t) ≡ text_of (content t) = HoldsOnly-text s.held (id_of t) h ∙ ap text_of (sym same) ∙ sym (content-text t) in
    let c : Wishes m.component m.held m.wish ≡ bundles components.Outside s.held (id_of t) (kind_of (content t)) = s.comes_to ∙ (λ i. bundles (st.0 i) s.held (id_of t) (kind i)) in
    rw z (comes-out es m q t s.held h (kind_of (content t)) alone c r rec text)
step es p m q (Ended port) Out st s r rec =
    let c : Wishes m.component m.held m.wish ≡ Wishes p.component s.held wishes.Deactivate = s.comes_to in
    let component : m.component ≡ p.component = cc in
    let hands : m.held ≡ s.held = cc in
    let wish : m.wish ≡ wishes.Deactivate = cc in
    rec m Out (component ∙ st.0, inr wish, ap (λ (x : Held). x.packets) (hands ∙ s.grants.1) ∙ st.2) r
step es p m q (Sent port t) Out st s r rec = absurd (rests-not p port (id_of t) st.1 s.grants.0)
step es p m q (Learned port level) Out st s r rec = absurd s.is_ready
step es p m q Started (In id u depth) st s r rec =
    let c : Wishes m.component m.held m.wish ≡ Wishes p.component s.held receive_first = s.comes_to in
    let component : m.component ≡ p.component = cc in
    let hands : m.held ≡ s.held = cc in
    let wish : m.wish ≡ receive_first = cc in
    rec m (In id u depth) (component ∙ st.0, inl wish, ap (λ (x : Held). x.packets) (hands ∙ s.grants.1) ∙ st.2) r
step es p m q (Received port t) (In id u depth) st s r rec =
    let port_is = rests-port p port st.1 s.grants.0 in
    let z : nat_eq 0 port ≡ true = grind (arith, nat_tests) in
    let h : HoldsTwo s.held id (id_of t) = subst (λ (component : Bundle). Rattle.flow_streams.specs.Bundle.HasCome component s.held (id_of t)) st.0 s.is_ready in
    let both : s.held.packets ≡ u ∷ t ∷ [] = Comes-packets p.held t s.held s.grants.1 ∙ ap (λ ts. ts ++ t ∷ []) st.2 in
    let are = two-are s.held u t id h both in
    let kind : kind_at s.held.packets (id_of t) ≡ kind_of (content t) =
    (λ i. kind_at (both i) (id_of t)) ∙ ap Rattle.flow_packet.specs.Hands.kind_in (Rattle.flow_streams.specs.BundleLaws.second-found u t (λ e. h.apart (sym h.first_named ∙ ap id_of are.0 ∙ e))) ∙ sym (content-kind t) in
    let c : Wishes m.component m.held m.wish ≡ bundles (components.Inside id depth) s.held (id_of t) (kind_of (content t)) = s.comes_to ∙ (λ i. bundles (st.0 i) s.held (id_of t) (kind i)) in
    rw z (comes-in es m q id depth u t s.held h (kind_of (content t)) are.0 are.1 c r rec)
step es p m q (Ended port) (In id u depth) st s r rec =
    let c : Wishes m.component m.held m.wish ≡ Wishes p.component s.held wishes.Deactivate = s.comes_to in
    let component : m.component ≡ p.component = cc in
    let hands : m.held ≡ s.held = cc in
    let wish : m.wish ≡ wishes.Deactivate = cc in
    rec m (In id u depth) (component ∙ st.0, inr wish, ap (λ (x : Held). x.packets) (hands ∙ s.grants.1) ∙ st.2) r
step es p m q (Sent port t) (In id u depth) st s r rec = absurd (rests-not p port (id_of t) st.1 s.grants.0)
step es p m q (Learned port level) (In id u depth) st s r rec = absurd s.is_ready
step es p m q Started (Passing u) st s r rec = absurd (let h : wishes.Deactivate ≡ send_first (id_of u) = sym s.grants.0 ∙ st.1 in cc)
step es p m q (Received port t) (Passing u) st s r rec = absurd (let h : wishes.Receive (record { 0 = port }) ≡ send_first (id_of u) = sym s.grants.0 ∙ st.1 in cc)
step es p m q (Ended port) (Passing u) st s r rec = absurd (let h : wishes.Receive (record { 0 = port }) ≡ send_first (id_of u) = sym s.grants.0 ∙ st.1 in cc)
step es p m q (Learned port level) (Passing u) st s r rec = absurd s.is_ready
step es p m q (Sent port t) (Passing u) st s r rec =
    let h : wishes.Send (record { 0 = port }) (id_of t) ≡ send_first (id_of u) = sym s.grants.0 ∙ st.1 in
    let port_is : port ≡ 0 = ap port_of h in
    let id_is : id_of t ≡ id_of u = ap id_in h in
    let z : nat_eq 0 port ≡ true = grind (arith, nat_tests) in
    let found : Some t ≡ Some u = sym s.grants.1 ∙ ap (packet_at p.held.packets) id_is ∙ one-alone p.held.packets u st.2 in
    let same : t ≡ u = cc in
    let c : Wishes m.component m.held m.wish ≡ Wishes p.component s.held receive_first = s.comes_to in
    let component : m.component ≡ p.component = cc in
    let hands : m.held ≡ s.held = cc in
    let wish : m.wish ≡ receive_first = cc in
    let gone : m.held.packets ≡ [] = ap (λ (x : Held). x.packets) (hands ∙ s.grants.2) ∙ (λ i. without (st.2 i) (id_is i)) ∙ Rattle.flow_component.proofs.Streams.gone-alone (u ∷ []) u refl in
    let l = rec m Out (component ∙ st.0, inl wish, gone) r in
    rw z (λ i. content (same i) ∷ l i)

ends : (p q : Poise Bundle) (phase : Phase) → Stands p phase → q ≡ p → q.wish ≡ wishes.Deactivate → Leads phase []
ends p q Out st r d = refl
ends p q (In id u depth) st r d = refl
ends p q (Passing u) st r d = absurd (let h : send_first (id_of u) ≡ wishes.Deactivate = sym st.1 ∙ ap (λ (k : Poise Bundle). k.wish) (sym r) ∙ d in cc)

bundle_run : (es : List Happening) (q : Poise Bundle) → q.wish ≡ wishes.Deactivate → Rec es q
bundle_run [] q d p phase st r = ends p q phase st r d
bundle_run (e ∷ es) q d p phase st r = step es p r.0 q e phase st r.1 r.2 (bundle_run es q d)

-- Over a whole run it sends what its meaning makes of what it got.
pub bundle_meaning : BundleMeaning
bundle_meaning told run = bundle_run told run.last run.idle (fresh components.Outside run.maker) Out (refl, inr refl, refl) run.runs
