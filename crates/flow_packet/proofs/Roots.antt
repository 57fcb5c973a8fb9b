-- How many packets edits of hands leave at the root.
use Rattle.flow_limits.specs.declared.TheConstants.{HANDS_LIMIT}
use Rattle.std.proofs.Common.{◌≡◌, ℕ, ◌≤◌, List, [], ◌∷◌, length, take, true, false, cond, ap, arith, length-append, Option, Some, None}
use Rattle.flow_packet.specs.Tree.{Tree, packet_of, chains_of, with_chains, detach_from, refill}
use Rattle.flow_packet.specs.Hands.{has_id, packet_at, without, update, put_into, detached, chain_of_root}
use Rattle.flow_packet.specs.Held.{Held, next_id}
use Rattle.flow_packet.specs.Edits.{IsOpen, Edit, Makes, Drops, Attaches, Detaches, Reorders, edited, Edits, ComesBy}

-- without a packet there are no more than before
pub length-without : (ts : List Tree) (id : ℕ) → length (without ts id) ≤ length ts
length-without [] id = omega arith
length-without (t ∷ ts) id = elim (has_id id t) as (λ b. length (cond b ts (t ∷ without ts id)) ≤ length (t ∷ ts)) [ true ↦ omega arith | false ↦ omega (arith, length-without ts id) ]

-- a packet that changes in its place leaves as many
pub length-update : (ts : List Tree) (id : ℕ) (f : Tree → Tree) → length (update ts id f) ≡ length ts
length-update [] id f = omega arith
length-update (t ∷ ts) id f =
    elim (has_id id t) as (λ b. length (cond b (f t ∷ ts) (t ∷ update ts id f)) ≡ length (t ∷ ts)) [ true ↦ omega arith | false ↦ omega (arith, length-update ts id f) ]

length-put_into : (ts : List Tree) (root : ℕ) (name : List ℕ) (child : Option Tree) → length (put_into ts root name child) ≡ length ts
length-put_into ts root name None = omega arith
length-put_into ts root name (Some child) = length-update ts root _

length-take_one : (ts : List Tree) → length (take 1 ts) ≤ 1
length-take_one [] = omega arith
length-take_one (t ∷ ts) = omega arith

-- one edit leaves at most 4,096 at the root
few-edited : (held : Held) (edit : Edit) → IsOpen held edit → length held.packets ≤ HANDS_LIMIT → length (edited held edit).packets ≤ HANDS_LIMIT
few-edited held (Makes kind text) opens few = omega (arith, opens, length-append held.packets (packet_of (next_id held) kind text [] ∷ []))
few-edited held (Drops id) opens few = omega (arith, few, length-without held.packets id)
few-edited held (Attaches root chain child) opens few = omega (arith, few, length-without held.packets child, length-put_into (without held.packets child) root chain (packet_at held.packets child))
few-edited held (Detaches root chain) opens few =
    omega (
      arith,
      opens.1,
      length-append (detached held.packets root chain) (take 1 (chain_of_root held.packets root chain)),
      length-update held.packets root (λ r. with_chains r (detach_from (chains_of r) chain)),
      length-take_one (chain_of_root held.packets root chain),
    )
few-edited held (Reorders root chain order) opens few = omega (arith, few, length-update held.packets root (λ r. with_chains r (refill (chains_of r) chain order)))

few-edits : (edits : List Edit) (old new : Held) → Edits old edits new → length old.packets ≤ HANDS_LIMIT → length new.packets ≤ HANDS_LIMIT
few-edits [] old new follow few = omega (arith, few, ap (λ (h : Held). length h.packets) follow)
few-edits (edit ∷ edits) old new follow few = few-edits edits (edited old edit) new follow.1 (few-edited old edit follow.0 few)

-- hands that come from others hold at most 4,096 at the root
pub few-comes : (old new : Held) → ComesBy old new → length old.packets ≤ HANDS_LIMIT → length new.packets ≤ HANDS_LIMIT
few-comes old new by few = few-edits by.edits old new by.follow few
