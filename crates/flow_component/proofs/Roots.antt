-- Which packets are at the root of hands to which packets come.
use Rattle.std.proofs.Common.{◌≡◌, ℕ, ◌++◌, true, false, List, [], ◌∷◌, refl, ap, arith, nat_eq, eq-eqb, Bool, if◌then◌else◌, Some, IsSome}
use Rattle.std.proofs.lemmas.Bool.Decides.{nat_tests}
use Rattle.flow_packet.specs.declared.packet.Kind.{Kind}
use Rattle.flow_packet.specs.Tree.{Tree, id_of, packet_of}
use Rattle.flow_packet.specs.Hands.{IsAtRoot, packet_at, without, has_id}
use Rattle.flow_packet.specs.Held.{Held, next_id, with_made}

-- A number equals itself, as the program compares.
pub same_id : (n : ℕ) → nat_eq n n ≡ true
same_id n = eq-eqb n n refl

-- Different numbers don't, as the program compares.
pub other_id : (m n : ℕ) → (m ≡ n → ⊥) → nat_eq m n ≡ false
other_id m n h = grind (arith, nat_tests)

-- a packet at the end is at the root
pub IsAtRoot-last : (ts : List Tree) (t : Tree) → IsAtRoot (ts ++ t ∷ []) (id_of t)
IsAtRoot-last [] t = let s = same_id (id_of t) in rw s refl
IsAtRoot-last (u ∷ ts) t = elim (nat_eq (id_of u) (id_of t)) as (λ b. IsSome (if b then Some u else packet_at (ts ++ t ∷ []) (id_of t))) [ true ↦ refl | false ↦ IsAtRoot-last ts t ]

-- what was made is at the root
pub IsAtRoot-made : (held : Held) (kind : Kind) (text : List ℕ) → IsAtRoot (with_made held kind text).packets (next_id held)
IsAtRoot-made held kind text = IsAtRoot-last held.packets (packet_of (next_id held) kind text [])

found-push : (t u : Tree) (id : ℕ) (ts : List Tree) (b : Bool) → IsSome (if b then Some t else packet_at ts id) → (IsAtRoot ts id → IsAtRoot (ts ++ u ∷ []) id)
    → IsSome (if b then Some t else packet_at (ts ++ u ∷ []) id)
found-push t u id ts true at rest = refl
found-push t u id ts false at rest = rest at

-- a packet at the root stays there where another comes
pub IsAtRoot-push : (ts : List Tree) (u : Tree) (id : ℕ) → IsAtRoot ts id → IsAtRoot (ts ++ u ∷ []) id
IsAtRoot-push [] u id at = absurd (cc)
IsAtRoot-push (t ∷ ts) u id at = found-push t u id ts (has_id id t) at (IsAtRoot-push ts u id)

taken-push : (t u : Tree) (id : ℕ) (ts : List Tree) (b : Bool) → IsSome (if b then Some t else packet_at ts id) → (IsAtRoot ts id → without (ts ++ u ∷ []) id ≡ without ts id ++ u ∷ [])
    → (if b then ts ++ u ∷ [] else t ∷ without (ts ++ u ∷ []) id) ≡ (if b then ts else t ∷ without ts id) ++ u ∷ []
taken-push t u id ts true at rest = refl
taken-push t u id ts false at rest = ap (λ (us : List Tree). t ∷ us) (rest at)

-- a packet that was at the root before another came is taken out from before it
pub without-push : (ts : List Tree) (u : Tree) (id : ℕ) → IsAtRoot ts id → without (ts ++ u ∷ []) id ≡ without ts id ++ u ∷ []
without-push [] u id at = absurd (cc)
without-push (t ∷ ts) u id at = taken-push t u id ts (has_id id t) at (without-push ts u id)

-- what was made in empty hands is alone, and gone once it is sent
pub made_gone : (held : Held) (kind : Kind) (text : List ℕ) → held.packets ≡ [] → without (with_made held kind text).packets (next_id held) ≡ []
made_gone held kind text none = let s = same_id (next_id held) in rw (none, s) refl
