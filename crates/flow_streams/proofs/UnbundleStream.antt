-- What Unbundle sends is what it gets, with each bundle unpacked.
use Rattle.std.proofs.Common.{◌≡◌, ℕ, Bool, true, false, List, [], ◌∷◌, ◌++◌, map, drop, refl, sym, ap, ◌∙◌, append-nil, nat_eq, if◌then◌else◌, Option, Some, None}
use Rattle.std.specs.List.{flat_map}
use Rattle.std.specs.Str.{bytes_eq}
use Rattle.flow_packet.specs.declared.packet.Kind.TheVariants.{Open, Close}
use Rattle.flow_packet.specs.Tree.{Tree, node, Chain, Chains, no_chains, chain, Trees, no_trees, tree, from_chains, from_trees, content, content_of_chains, content_of_trees, chains_of, with_chains, detach_from, before, chain_at, id_of, text_of, packet_of}
use Rattle.flow_packet.specs.Hands.{packet_at, text_at, without, chain_of_root, detached}
use Rattle.flow_packet.specs.Held.{Held, Sound, next_id, without_packet}
use Rattle.flow_packet.proofs.Trees.{from-to_chains}
use Rattle.flow_component.specs.declared.Wish.{Wish}
use Rattle.flow_component.specs.declared.Wish.TheVariants as wishes
use Rattle.flow_component.specs.Laws.{Outcome, Wishes, Fails, IsAllowed}
use Rattle.flow_component.specs.Alone.{HoldsOnly}
use Rattle.flow_component.specs.Ports.{one_to_one, uses_first}
use Rattle.flow_component.specs.Happenings.{Happening, Started, Received, Ended, Sent, Learned}
use Rattle.flow_component.specs.Runs.{Poise, fresh, Steps, content_got, content_sent}
use Rattle.flow_component.proofs.Roots.{same_id}
use Rattle.flow_component.proofs.Lone.{HoldsOnly-packet_at, HoldsOnly-text, HoldsOnly-made, HoldsOnly-made_at, HoldsOnly-end}
use Rattle.flow_component.proofs.Streams.{owed-run, stays-allowed, Comes-packets, contents_in, content-text, port_zero, port_below_one}
use Rattle.flow_streams.specs.Bundle.{items}
use Rattle.flow_streams.specs.BundleLaws.{renewed, second-found, second-gone}
use Rattle.flow_streams.specs.declared.unbundle.Unbundle.{Unbundle}
use Rattle.flow_streams.specs.declared.unbundle.Unbundle.TheVariants.{Waiting, Unpacking}
use Rattle.flow_streams.specs.Unbundle.{opens_up, unpacks, goes_on, IsReadyOn, unbundle_rules}
use Rattle.flow_streams.specs.UnbundleLaws.{chain-alone, detached-only, child-apart, unbundle_lawful}
use Rattle.flow_streams.specs.Unbundled.{and_behind, members, unbundled}
use Rattle.flow_streams.specs.Meanings.{UnbundleMeaning}

-- Members and chains

none-at : (c : Chain) (others : List Tree) (b : Bool) (rest at : List Tree) → (if b then c.1 else at) ≡ [] → (at ≡ [] → rest ≡ []) → (if b then and_behind c.1 rest else rest) ≡ []
none-at (name, []) others true rest at e more = refl
none-at (name, t ∷ ts) others true rest at e more = absurd (cc)
none-at c others false rest at e more = more e

-- where the chain is empty there are no members
members-none : (cs : List Chain) (name : List ℕ) → chain_at cs name ≡ [] → members cs name ≡ []
members-none [] name e = refl
members-none (c ∷ cs) name e = none-at c [] (bytes_eq c.0 name) (members cs name) (chain_at cs name) e (members-none cs name)

some-at : (c : Chain) (cs : List Chain) (name : List ℕ) (child : Tree) (children : List Tree) (b : Bool) → bytes_eq c.0 name ≡ b → (if b then c.1 else chain_at cs name) ≡ child ∷ children
    → (chain_at cs name ≡ child ∷ children → members cs name ≡ child ∷ members (detach_from cs name) name)
    → (if b then and_behind c.1 (members cs name) else members cs name) ≡ child ∷ members (if b then before (c.0, drop 1 c.1) cs else c ∷ detach_from cs name) name
some-at (title, []) cs name child children true t e more = absurd (cc)
some-at (title, u ∷ []) cs name child children true t e more = ap (λ (x : Tree). x ∷ members cs name) (let h : u ≡ child = cc in h)
some-at (title, u ∷ v ∷ us) cs name child children true t e more = rw t (ap (λ (x : Tree). (x ∷ v ∷ us) ++ members cs name) (let h : u ≡ child = cc in h))
some-at c cs name child children false t e more = rw t (more e)

-- the members are the first packet of the chain, and those that are left once it was detached
members-some : (cs : List Chain) (name : List ℕ) (child : Tree) (children : List Tree) → chain_at cs name ≡ child ∷ children → members cs name ≡ child ∷ members (detach_from cs name) name
members-some [] name child children e = absurd (cc)
members-some (c ∷ cs) name child children e = some-at c cs name child children (bytes_eq c.0 name) refl e (members-some cs name child children)

map-append : (xs ys : List Tree) → map content (xs ++ ys) ≡ map content xs ++ map content ys
map-append [] ys = refl
map-append (x ∷ xs) ys = ap (λ zs. content x ∷ zs) (map-append xs ys)

trees-content : (ts : Trees) → from_trees (content_of_trees ts) ≡ map content (from_trees ts)
trees-content no_trees = refl
trees-content (tree t ts) = ap (λ us. content t ∷ us) (trees-content ts)

behind-content : (ts others : List Tree) → and_behind (map content ts) (map content others) ≡ map content (and_behind ts others)
behind-content [] others = refl
behind-content (t ∷ ts) others = sym (map-append (t ∷ ts) others)

content-at : (b : Bool) (own others : List Tree) (own' others' : List Tree) → own' ≡ map content own → others' ≡ map content others
    → (if b then and_behind own' others' else others') ≡ map content (if b then and_behind own others else others)
content-at true own others own' others' e f = (λ i. and_behind (e i) (f i)) ∙ behind-content own others
content-at false own others own' others' e f = f

chains-content : (cs : Chains) (name : List ℕ) → members (from_chains (content_of_chains cs)) name ≡ map content (members (from_chains cs) name)
chains-content no_chains name = refl
chains-content (chain title ts cs) name =
    content-at (bytes_eq title name) (from_trees ts) (members (from_chains cs) name) (from_trees (content_of_trees ts)) (members (from_chains (content_of_chains cs)) name) (trees-content ts) (chains-content cs name)

-- the members of a content are the contents of the members
members-content : (t : Tree) → members (chains_of (content t)) items ≡ map content (members (chains_of t) items)
members-content (node id kind text cs) = chains-content cs items

-- What is owed

abbrev closing : Tree
closing = packet_of 0 Close [] []

abbrev chains_in : Option Tree → List Chain
chains_in None = []
chains_in (Some t) = chains_of t

-- what is still to be sent of a packet that is unpacked, once the packet that is on its way has gone
abbrev left : Held → Unbundle → List Tree
left held Waiting = []
left held (Unpacking id) = map content (members (chains_in (packet_at held.packets id)) items) ++ closing ∷ []

abbrev owes : Held → Unbundle → Wish → List Tree
owes held component (wishes.Receive port) = []
owes held component (wishes.Send port id) = contents_in (packet_at held.packets id) ++ left (without_packet held id) component
owes held component (wishes.Level port) = []
owes held component wishes.Deactivate = []

abbrev owes_after : Outcome Unbundle → List Tree
owes_after (Wishes component held wish) = owes held component wish
owes_after (Fails component held cause) = []

abbrev owed : Poise Unbundle → List Tree
owed p = owes p.held p.component p.wish

alone-found : (held : Held) (id : ℕ) (h : HoldsOnly held id) → packet_at (h.packet ∷ []) id ≡ Some h.packet
alone-found held id h = let i : nat_eq (id_of h.packet) id ≡ true = rw h.named (same_id id) in rw i refl

after-opening : (held : Held) (t : Tree) (h : HoldsOnly held (id_of t)) → t ≡ h.packet → owes_after (opens_up held (id_of t) (chain_of_root held.packets (id_of t) items)) ≡ unbundled (content t)
after-opening held t h e = by (chain_of_root held.packets (id_of t) items) (ap (λ (u : Tree). chain_at (chains_of u) items) e ∙ sym (chain-alone held (id_of t) h))
  where
    by : (chain : List Tree) → chain_at (chains_of t) items ≡ chain → owes_after (opens_up held (id_of t) chain) ≡ unbundled (content t)
    by [] c =
        let a : packet_at held.packets (id_of t) ≡ Some t = HoldsOnly-packet_at held (id_of t) h ∙ ap Some (sym e) in
        let m : members (chains_of (content t)) items ≡ [] = members-content t ∙ ap (map content) (members-none (chains_of t) items c) in
        rw (a, m) refl
    by (child ∷ children) c =
        let text = text_at held.packets (id_of t) in
        let w : text ≡ text_of (content t) = HoldsOnly-text held (id_of t) h ∙ ap text_of (sym e) ∙ sym (content-text t) in
        let a = HoldsOnly-made_at held (id_of t) Open text h in
        let g = HoldsOnly-made held (id_of t) Open text h in
        let f = alone-found held (id_of t) h in
        let some : members (chains_of h.packet) items ≡ child ∷ members (detach_from (chains_of t) items) items = ap (λ (u : Tree). members (chains_of u) items) (sym e) ∙ members-some (chains_of t) items child children c in
        let m : members (chains_of (content t)) items ≡ map content (child ∷ members (detach_from (chains_of t) items) items) = members-content t ∙ ap (map content) (members-some (chains_of t) items child children c) in
        rw (a, g, f, some, m, w) refl

after-unpacking : (held : Held) (id : ℕ) (h : HoldsOnly held id) → Sound held → owes_after (unpacks held id (chain_of_root held.packets id items)) ≡ left held (Unpacking id)
after-unpacking held id h sound = by (chain_of_root held.packets id items) (sym (chain-alone held id h))
  where
    by : (chain : List Tree) → chain_at (chains_of h.packet) items ≡ chain → owes_after (unpacks held id chain) ≡ left held (Unpacking id)
    by [] c =
        let r = renewed held id Close [] h in
        let s = same_id (next_id held) in
        let f = HoldsOnly-packet_at held id h in
        let m = members-none (chains_of h.packet) items c in
        rw (r, s, f, m) refl
    by (child ∷ children) c =
        let t = with_chains h.packet (detach_from (chains_of h.packet) items) in
        let apart : id_of t ≡ id_of child → ⊥ = child-apart held h.packet child children sound h.holds c in
        let two : detached held.packets id items ++ child ∷ [] ≡ t ∷ child ∷ [] = ap (λ (ts : List Tree). ts ++ child ∷ []) (detached-only held id h) in
        let found : packet_at (detached held.packets id items ++ child ∷ []) (id_of child) ≡ Some child = ap (λ (ts : List Tree). packet_at ts (id_of child)) two ∙ second-found t child apart in
        let gone : without (detached held.packets id items ++ child ∷ []) (id_of child) ≡ t ∷ [] = ap (λ (ts : List Tree). without ts (id_of child)) two ∙ second-gone t child apart in
        let i : nat_eq (id_of h.packet) id ≡ true = rw h.named (same_id id) in
        let kept : chains_of t ≡ detach_from (chains_of h.packet) items = from-to_chains (detach_from (chains_of h.packet) items) in
        let f = HoldsOnly-packet_at held id h in
        let m = members-some (chains_of h.packet) items child children c in
        rw (found, gone, i, kept, f, m) refl

after-going : (held : Held) (component : Unbundle) → IsReadyOn held component → owes_after (goes_on held component) ≡ left held component
after-going held Waiting r = refl
after-going held (Unpacking id) r = after-unpacking held id r.0 r.1

step : (p : Poise Unbundle) (e : Happening) (q : Poise Unbundle) → IsAllowed one_to_one uses_first p.held p.wish → Steps unbundle_rules p e q
    → owed p ++ flat_map unbundled (content_got 0 e) ≡ content_sent 0 e ++ owed q
step p Started q g s =
    let a : owed p ≡ [] = rw s.grants.0 refl in
    let b : owed q ≡ [] = ap owes_after s.comes_to in
    rw (a, b) refl
step p (Received port t) q g s =
    let a : owed p ≡ [] = rw s.grants.0 refl in
    let z : nat_eq 0 port ≡ true = port_below_one port (rw s.grants.0 at g) in
    let h = s.is_ready.1 in
    let e : t ≡ h.packet = HoldsOnly-end s.held p.held.packets t (Comes-packets p.held t s.held s.grants.1) h in
    let b : owed q ≡ unbundled (content t) = ap owes_after s.comes_to ∙ after-opening s.held t h e in
    rw (a, b, z) (append-nil _)
step p (Ended port) q g s =
    let a : owed p ≡ [] = rw s.grants.0 refl in
    let b : owed q ≡ [] = ap owes_after s.comes_to in
    rw (a, b) refl
step p (Sent port t) q g s =
    let z : nat_eq 0 port ≡ true = port_zero port (rw s.grants.0 at g).0 in
    let a : owed p ≡ content t ∷ left (without_packet p.held (id_of t)) p.component = rw (s.grants.0, s.grants.1) refl in
    let b : owed q ≡ left (without_packet p.held (id_of t)) p.component = ap owes_after s.comes_to ∙ after-going s.held p.component s.is_ready ∙ ap (λ (h : Held). left h p.component) s.grants.2 in
    rw (a, b, z) (append-nil _)
step p (Learned port level) q g s = absurd s.is_ready

-- Over a whole run it sends what its meaning makes of what it got.
pub unbundle_meaning : UnbundleMeaning
unbundle_meaning told run =
    let e = owed-run unbundle_rules (λ p. IsAllowed one_to_one uses_first p.held p.wish) unbundled owed
    (λ p e q g s. (stays-allowed unbundle_rules unbundle_lawful p e q s, step p e q g s)) (fresh Waiting run.maker) told run.last tt run.runs in
    let b : owed run.last ≡ [] = rw run.idle refl in
    sym (e ∙ rw b (append-nil _))
