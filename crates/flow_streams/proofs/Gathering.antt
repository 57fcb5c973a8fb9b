-- A work that moves a packet into a chain, or out of one, drops nothing.
use Rattle.std.proofs.Common.{◌≡◌, ℕ, ◌+◌, ◌-◌, true, false, List, [], ◌∷◌, ◌++◌, length, drop, take, refl, sym, ap, ◌∙◌, subst, arith, nat_eq, Bool, if◌then◌else◌, length-append, Some}
use Rattle.std.specs.Str.{bytes_eq}
use Rattle.std.proofs.lemmas.Bool.Decides.{nat_tests}
use Rattle.flow_packet.specs.Tree.{Tree, Chain, id_of, ids, all_ids, chain_ids, chains_of, with_chains, attach_to, detach_from, chain_at, before}
use Rattle.flow_packet.specs.Hands.{Holding, attached, detached, chain_of_root, first_id}
use Rattle.flow_packet.specs.Held.{Held, held_of}
use Rattle.flow_packet.proofs.Trees.{ids-to_chains, length-all_ids-push}
use Rattle.flow_packet.proofs.Edits.{with_chains-same}
use Rattle.flow_component.specs.Resumes.{drops_between}
use Rattle.flow_component.proofs.Dropping.{dropped_after}
use Rattle.flow_streams.specs.Bundle.{items, HoldsTwo}
use Rattle.flow_component.specs.Alone.{HoldsOnly}
use Rattle.flow_component.specs.Laws.{Wishes}
use Rattle.flow_component.specs.Ports.{send_first}
use Rattle.flow_streams.specs.declared.unbundle.Unbundle.TheVariants.{Unpacking}
use Rattle.flow_streams.specs.Unbundle.{unpacks}
use Rattle.flow_streams.specs.BundleLaws.{two-gathered}
use Rattle.flow_streams.specs.UnbundleLaws.{chain-alone, detached-only}

pub length-with_chains : (t : Tree) (cs : List Chain) → length (ids (with_chains t cs)) ≡ length (chain_ids cs) + 1
length-with_chains t cs = let e = ap length (ids-to_chains cs) in omega arith

pub length-chains : (t : Tree) → length (ids t) ≡ length (chain_ids (chains_of t)) + 1
length-chains t = ap (λ (u : Tree). length (ids u)) (sym (with_chains-same t)) ∙ length-with_chains t (chains_of t)

attach-at : (c : Chain) (cs : List Chain) (name : List ℕ) (t : Tree) (b : Bool) → length (chain_ids (attach_to cs name t)) ≡ length (chain_ids cs) + length (ids t)
    → length (chain_ids (if b then (c.0, c.1 ++ t ∷ []) ∷ cs else c ∷ attach_to cs name t)) ≡ length (chain_ids (c ∷ cs)) + length (ids t)
attach-at c cs name t true rest = omega (arith, length-append (all_ids (c.1 ++ t ∷ [])) (chain_ids cs), length-append (all_ids c.1) (chain_ids cs), length-all_ids-push c.1 t)
attach-at c cs name t false rest = omega (arith, length-append (all_ids c.1) (chain_ids (attach_to cs name t)), length-append (all_ids c.1) (chain_ids cs))

pub length-attach : (cs : List Chain) (name : List ℕ) (t : Tree) → length (chain_ids (attach_to cs name t)) ≡ length (chain_ids cs) + length (ids t)
length-attach [] name t = omega (arith, length-append (ids t ++ []) [], length-append (ids t) [])
length-attach (c ∷ cs) name t = attach-at c cs name t (bytes_eq c.0 name) (length-attach cs name t)

pub none_dropped : (old new : Holding) → length (all_ids old.packets) + (new.made - old.made) ≡ length (all_ids new.packets) → dropped_after old new ≡ old.dropped
none_dropped old new e =
    let z : drops_between (held_of old) (held_of new) ≡ 0 = omega arith in
    let t : nat_eq (drops_between (held_of old) (held_of new)) 0 ≡ true = grind (arith, nat_tests) in
    rw t refl

pub length-gathered : (h : Held) (one two : ℕ) (k : HoldsTwo h one two) → length (all_ids (attached h.packets one items two)) ≡ length (all_ids h.packets)
length-gathered h one two k =
    let x = k.first in
    let y = k.second in
    let e : length (all_ids (attached h.packets one items two)) ≡ length (all_ids (with_chains x (attach_to (chains_of x) items y) ∷ [])) = ap (λ (ts : List Tree). length (all_ids ts)) (two-gathered h one two k) in
    let f : length (all_ids h.packets) ≡ length (all_ids (x ∷ y ∷ [])) = ap (λ (ts : List Tree). length (all_ids ts)) k.holds in
    omega (arith, length-append (ids x) (ids y ++ []), length-append (ids y) [], length-append (ids (with_chains x (attach_to (chains_of x) items y))) [], length-with_chains x (attach_to (chains_of x) items y), length-chains x, length-attach (chains_of x) items y)

-- the hands with a packet in a chain of another
abbrev pub attaching : Holding → ℕ → ℕ → ℕ → Holding
attaching h one two spare = record h { packets = attached h.packets one items two; spare = spare }

-- Attaching a packet drops none.
pub dropped-attaching : (h : Holding) (one two spare : ℕ) → HoldsTwo (held_of h) one two → h.dropped ≡ dropped_after h (attaching h one two spare)
dropped-attaching h one two spare k = sym (none_dropped h (attaching h one two spare) (omega (arith, length-gathered (held_of h) one two k)))

length-before : (name : List ℕ) (ts : List Tree) (cs : List Chain) → length (chain_ids (before (name, ts) cs)) ≡ length (all_ids ts) + length (chain_ids cs)
length-before name [] cs = omega arith
length-before name (t ∷ ts) cs = length-append (all_ids (t ∷ ts)) (chain_ids cs)

detach-at : (c : Chain) (cs : List Chain) (name : List ℕ) (child : Tree) (children : List Tree) (b : Bool) → (if b then c.1 else chain_at cs name) ≡ child ∷ children → (chain_at cs name ≡ child ∷ children → length (chain_ids (detach_from cs name)) + length (ids child) ≡ length (chain_ids cs))
    → length (chain_ids (if b then before (c.0, drop 1 c.1) cs else c ∷ detach_from cs name)) + length (ids child) ≡ length (chain_ids (c ∷ cs))
detach-at c cs name child children true e rest =
    let one : length (all_ids (drop 1 c.1)) ≡ length (all_ids children) = ap (λ (ts : List Tree). length (all_ids (drop 1 ts))) e in
    let all : length (all_ids c.1) ≡ length (all_ids (child ∷ children)) = ap (λ (ts : List Tree). length (all_ids ts)) e in
    omega (arith, length-before c.0 (drop 1 c.1) cs, length-append (all_ids c.1) (chain_ids cs), length-append (ids child) (all_ids children))
detach-at c cs name child children false e rest = omega (arith, rest e, length-append (all_ids c.1) (chain_ids (detach_from cs name)), length-append (all_ids c.1) (chain_ids cs))

pub length-detach : (cs : List Chain) (name : List ℕ) (child : Tree) (children : List Tree) → chain_at cs name ≡ child ∷ children → length (chain_ids (detach_from cs name)) + length (ids child) ≡ length (chain_ids cs)
length-detach [] name child children e = absurd (cc)
length-detach (c ∷ cs) name child children e = detach-at c cs name child children (bytes_eq c.0 name) e (length-detach cs name child children)

-- the hands with a packet taken out of a chain
abbrev pub detaching : Holding → ℕ → Tree → ℕ → Holding
detaching h id child spare = record h { packets = detached h.packets id items ++ child ∷ []; spare = spare }

pub dropped-detaching : (h : Holding) (id : ℕ) (child : Tree) (children : List Tree) (spare : ℕ) (k : HoldsOnly (held_of h) id) → chain_of_root h.packets id items ≡ child ∷ children → h.dropped ≡ dropped_after h (detaching h id child spare)
dropped-detaching h id child children spare k is =
    let x = k.packet in
    let y = with_chains x (detach_from (chains_of x) items) in
    let chain : chain_at (chains_of x) items ≡ child ∷ children = sym (chain-alone (held_of h) id k) ∙ is in
    let e : length (all_ids (detached h.packets id items ++ child ∷ [])) ≡ length (all_ids (y ∷ child ∷ [])) = ap (λ (ts : List Tree). length (all_ids (ts ++ child ∷ []))) (detached-only (held_of h) id k) in
    let f : length (all_ids h.packets) ≡ length (all_ids (x ∷ [])) = ap (λ (ts : List Tree). length (all_ids ts)) k.holds in
    sym (none_dropped h (detaching h id child spare) (omega (arith, length-append (ids y) (ids child ++ []), length-append (ids child) [], length-append (ids x) [], length-with_chains x (detach_from (chains_of x) items), length-chains x, length-detach (chains_of x) items child children chain)))

took-at : (h : Holding) (id n : ℕ) (new : Holding) (k : HoldsOnly (held_of h) id) (chain : List Tree) → chain_of_root h.packets id items ≡ chain → Some n ≡ first_id chain
    → new ≡ record h { packets = detached h.packets id items ++ take 1 (chain_of_root h.packets id items); spare = new.spare }
    → (Wishes (Unpacking id) (held_of new) (send_first n) ≡ unpacks (held_of h) id (chain_of_root h.packets id items)) × (new.dropped ≡ dropped_after h new)
took-at h id n new k [] is first e = absurd (cc)
took-at h id n new k (child ∷ children) is first e =
    let named : n ≡ id_of child = cc in
    let made : new ≡ detaching h id child new.spare = e ∙ ap (λ (ts : List Tree). record h { packets = detached h.packets id items ++ take 1 ts; spare = new.spare }) is in (
      (λ i. Wishes (Unpacking id) (held_of (made i)) (send_first (named i))) ∙ ap (unpacks (held_of h) id) (sym is),
      subst (λ (x : Holding). x.dropped ≡ dropped_after h x) (sym made) (dropped-detaching h id child children new.spare k is),
    )

-- the next packet of the chain is taken out of it, and sent
pub took : (h : Holding) (id n : ℕ) (new : Holding) (k : HoldsOnly (held_of h) id) → Some n ≡ first_id (chain_of_root h.packets id items)
    → new ≡ record h { packets = detached h.packets id items ++ take 1 (chain_of_root h.packets id items); spare = new.spare }
    → (Wishes (Unpacking id) (held_of new) (send_first n) ≡ unpacks (held_of h) id (chain_of_root h.packets id items)) × (new.dropped ≡ dropped_after h new)
took h id n new k first e = took-at h id n new k (chain_of_root h.packets id items) refl first e
