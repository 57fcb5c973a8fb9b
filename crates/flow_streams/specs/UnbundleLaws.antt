-- Unbundle keeps the laws of components.
use Rattle.std.proofs.Common.{◌≡◌, ℕ, ◌+◌, ◌<◌, ◌≤◌, true, false, List, [], ◌∷◌, ◌++◌, length, take, refl, sym, ap, ◌∙◌, subst, arith, Bool, if◌then◌else◌, eq-eqb}
use Rattle.std.specs.Str.{bytes_eq}
use Rattle.flow_packet.specs.declared.packet.Kind.TheVariants.{Normal, Open, Close}
use Rattle.flow_packet.specs.Tree.{Tree, node, Chain, id_of, ids, all_ids, chain_ids, chains_of, with_chains, detach_from, chain_at, packet_of}
use Rattle.flow_packet.specs.Ids.{times}
use Rattle.flow_packet.specs.Hands.{IsAtRoot, without, text_at, chain_of_root, detached, chain_in}
use Rattle.flow_packet.specs.Edits.{ComesBy, Detaches}
use Rattle.flow_packet.specs.Held.{Held, Sound, next_id, without_packet}
use Rattle.flow_packet.proofs.Trees.{ids-to_chains}
use Rattle.flow_packet.proofs.Edits.{with_chains-same}
use Rattle.flow_component.specs.declared.Answer.{Answer}
use Rattle.flow_component.specs.declared.Answer.TheVariants as answers
use Rattle.flow_component.specs.Laws.{Lawful, Outcome, Wishes, Obeys, StaysReady}
use Rattle.flow_component.specs.Ports.{one_to_one, uses_first, receive_first}
use Rattle.flow_component.specs.Alone.{HoldsOnly}
use Rattle.flow_component.proofs.Roots.{same_id, IsAtRoot-last, IsAtRoot-made}
use Rattle.flow_component.proofs.Comings.{comes_same, comes_made, comes_renewed}
use Rattle.flow_component.proofs.Several.{times-append}
use Rattle.flow_component.proofs.Lone.{HoldsOnly-without, HoldsOnly-root, HoldsOnly-came, HoldsOnly-made_alone, HoldsOnly-left, HoldsOnly-packet_at, Sound-older}
use Rattle.flow_streams.specs.Bundle.{items}
use Rattle.flow_streams.specs.BundleLaws.{second-gone, renewed}
use Rattle.flow_streams.specs.declared.unbundle.Unbundle.{Unbundle}
use Rattle.flow_streams.specs.declared.unbundle.Unbundle.TheVariants.{Waiting, Unpacking}
use Rattle.flow_streams.specs.Unbundle.{opens_up, unpacks, goes_on, unbundle_next, UnbundleReady, IsReadyOn, unbundle_rules}

times-first : (child : Tree) (children : List Tree) → 0 < times (id_of child) (all_ids (child ∷ children))
times-first (node id kind text cs) children = let s = same_id id in rw s (omega arith)

-- the id of the first packet of a chain stands among the ids of the chains
chain-at : (c : Chain) (cs : List Chain) (name : List ℕ) (child : Tree) (children : List Tree) (b : Bool) → (if b then c.1 else chain_at cs name) ≡ child ∷ children → (chain_at cs name ≡ child ∷ children → 0 < times (id_of child) (chain_ids cs))
    → 0 < times (id_of child) (chain_ids (c ∷ cs))
chain-at c cs name child children true e rest =
    let here : 0 < times (id_of child) (all_ids c.1) = subst (λ (ts : List Tree). 0 < times (id_of child) (all_ids ts)) (sym e) (times-first child children) in
    omega (arith, times-append (id_of child) (all_ids c.1) (chain_ids cs))
chain-at c cs name child children false e rest = omega (arith, rest e, times-append (id_of child) (all_ids c.1) (chain_ids cs))

child-times : (cs : List Chain) (name : List ℕ) (child : Tree) (children : List Tree) → chain_at cs name ≡ child ∷ children → 0 < times (id_of child) (chain_ids cs)
child-times [] name child children e = absurd (cc)
child-times (c ∷ cs) name child children e = chain-at c cs name child children (bytes_eq c.0 name) e (child-times cs name child children)

ids-parts : (t : Tree) → ids t ≡ id_of t ∷ chain_ids (chains_of t)
ids-parts t = ap ids (sym (with_chains-same t)) ∙ ap (λ (ns : List ℕ). id_of t ∷ ns) (ids-to_chains (chains_of t))

-- a packet of a chain has another id than the packet whose chain it is
pub child-apart : (held : Held) (t child : Tree) (children : List Tree) → Sound held → held.packets ≡ t ∷ [] → chain_at (chains_of t) items ≡ child ∷ children → id_of t ≡ id_of child → ⊥
child-apart held t child children s e chain same =
    let once : times (id_of child) (all_ids (t ∷ [])) ≤ 1 = subst (λ (ts : List Tree). times (id_of child) (all_ids ts) ≤ 1) e (s.once (id_of child)) in
    let all : times (id_of child) (all_ids (t ∷ [])) ≡ times (id_of child) ((id_of t ∷ chain_ids (chains_of t)) ++ []) = ap (λ (ns : List ℕ). times (id_of child) (ns ++ [])) (ids-parts t) in
    let h = eq-eqb (id_of t) (id_of child) same in
    let more : times (id_of child) ((id_of t ∷ chain_ids (chains_of t)) ++ []) ≡ 1 + (times (id_of child) (chain_ids (chains_of t)) + 0) = rw h (omega (arith, times-append (id_of child) (chain_ids (chains_of t)) [])) in
    omega (arith, child-times (chains_of t) items child children chain)

pub detached-alone : (t : Tree) → detached (t ∷ []) (id_of t) items ≡ with_chains t (detach_from (chains_of t) items) ∷ []
detached-alone t = let s = same_id (id_of t) in rw s refl

-- The chain of a packet that is held alone is the packet's own.
pub chain-alone : (held : Held) (id : ℕ) (h : HoldsOnly held id) → chain_of_root held.packets id items ≡ chain_at (chains_of h.packet) items
chain-alone held id h = ap (λ o. chain_in o items) (HoldsOnly-packet_at held id h)

-- Detaching from a packet that is held alone changes its chain.
pub detached-only : (held : Held) (id : ℕ) (h : HoldsOnly held id) → detached held.packets id items ≡ with_chains h.packet (detach_from (chains_of h.packet) items) ∷ []
detached-only held id h = (λ i. detached (h.holds i) (sym h.named i) items) ∙ detached-alone h.packet

abbrev IsLawful : Held → Outcome Unbundle → Type 0
IsLawful held outcome = Obeys one_to_one uses_first held outcome × StaysReady unbundle_rules outcome

idle : (held : Held) → held.packets ≡ [] → IsLawful held (Wishes Waiting held receive_first)
idle held e = ((comes_same held, omega arith), ((λ s. (tt, e)), (λ t s. (tt, HoldsOnly-came held t e s)), (λ text s. (tt, HoldsOnly-made_alone held Normal text e s))))

opened : (held : Held) (id : ℕ) (chain : List Tree) → HoldsOnly held id → IsLawful held (opens_up held id chain)
opened held id [] h = ((comes_same held, (refl, HoldsOnly-root held id h)), λ s. HoldsOnly-without held id h)
opened held id (child ∷ children) h =
    let text = text_at held.packets id in
    ((comes_made held Open text (omega (arith, ap length h.holds)), (refl, IsAtRoot-made held Open text)), λ s. (HoldsOnly-left held id Open text h s, s))

made-root : (n : ℕ) → IsAtRoot (packet_of n Close [] [] ∷ []) n
made-root n = let s = same_id n in rw s refl

made-gone : (n : ℕ) → without (packet_of n Close [] [] ∷ []) n ≡ []
made-gone n = let s = same_id n in rw s refl

unpacked : (held : Held) (id : ℕ) (chain : List Tree) → chain_of_root held.packets id items ≡ chain → HoldsOnly held id → Sound held → IsLawful held (unpacks held id chain)
unpacked held id [] is h sound =
    let e = renewed held id Close [] h in (
      (comes_renewed held Close [] id (omega (arith, ap length h.holds)) (HoldsOnly-root held id h), (refl, rw e (made-root (next_id held)))),
      λ s. rw e (made-gone (next_id held)),
    )
unpacked held id (child ∷ children) is h sound =
    let new : Held = record held { packets = detached held.packets id items ++ child ∷ [] } in
    let t = with_chains h.packet (detach_from (chains_of h.packet) items) in
    let chain = sym (chain-alone held id h) ∙ is in
    let apart : id_of t ≡ id_of child → ⊥ = child-apart held h.packet child children sound h.holds chain in
    let two : new.packets ≡ t ∷ child ∷ [] = ap (λ (ts : List Tree). ts ++ child ∷ []) (detached-only held id h) in
    let gone : without new.packets (id_of child) ≡ t ∷ [] = ap (λ (ts : List Tree). without ts (id_of child)) two ∙ second-gone t child apart in
    let taken : detached held.packets id items ++ take 1 (chain_of_root held.packets id items) ≡ detached held.packets id items ++ child ∷ [] = ap (λ (ts : List Tree). detached held.packets id items ++ take 1 ts) is in
    let by : ComesBy held new = record {
      edits = Detaches id items ∷ [];
      follow = ((HoldsOnly-root held id h, omega (arith, ap length h.holds)), (λ i. record held { packets = sym taken i }));
      one_make = omega arith;
    } in
    let left = without_packet new (id_of child) in
    ((by, (refl, IsAtRoot-last (detached held.packets id items) child)), λ s. (record { packet = t; holds = gone; named = h.named; older = λ e. Sound-older left t s gone (h.named ∙ e) }, s))

went_on : (held : Held) (component : Unbundle) → IsReadyOn held component → IsLawful held (goes_on held component)
went_on held Waiting r = idle held r
went_on held (Unpacking id) r = unpacked held id (chain_of_root held.packets id items) refl r.0 r.1

lawful : (component : Unbundle) (held : Held) (answer : Answer) → UnbundleReady component held answer → IsLawful held (unbundle_next component held answer)
lawful component held answers.Start r = idle held r.1
lawful component held (answers.Got id) r = opened held id (chain_of_root held.packets id items) r.1
lawful component held answers.End r = ((comes_same held, tt), λ s. (tt, r.1))
lawful component held answers.Sent r = went_on held component r
lawful component held (answers.Level n) r = absurd r

-- It keeps the laws of components.
pub unbundle_lawful : Lawful unbundle_rules
unbundle_lawful = record {
  obeys = λ component held answer outcome r is. subst (Obeys one_to_one uses_first held) (sym is) (lawful component held answer r).0;
  stays_ready = λ component held answer outcome r is. subst (StaysReady unbundle_rules) (sym is) (lawful component held answer r).1;
  steady = λ component held answer outcome is. record { shape = refl; outputs = refl };
  has_outcome = λ component held answer _. (unbundle_next component held answer, refl);
}
