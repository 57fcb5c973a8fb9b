-- Carriers: how hands change that hold one.
use Rattle.std.proofs.Common.{◌≡◌, ℕ, ◌+◌, ◌≤◌, List, [], ◌∷◌, ◌++◌, length, take, Some, refl, sym, ap, ◌∙◌, subst, arith}
use Rattle.flow_packet.specs.declared.packet.Kind.TheVariants.{Normal}
use Rattle.flow_packet.specs.Tree.{Tree, Chain, id_of, all_ids, chain_ids, chains_of, attach_to, detach_from, chain_at, before, packet_of}
use Rattle.flow_packet.specs.Ids.{times}
use Rattle.flow_packet.specs.Hands.{IsAtRoot, packet_at, without, attached, detached, wrapped, chain_of_root}
use Rattle.flow_packet.specs.Held.{Held, Sound, next_id, without_packet, with_made}
use Rattle.flow_packet.specs.Edits.{ComesBy, Makes, Drops, Attaches, Detaches}
use Rattle.flow_packet.proofs.Trees.{from-to_chains, ids-to_chains}
use Rattle.flow_component.specs.Alone.{HoldsOnly}
use Rattle.flow_component.proofs.Roots.{same_id, IsAtRoot-last, IsAtRoot-made, IsAtRoot-push}
use Rattle.flow_component.proofs.Several.{times-append, times-own, times-split, times-root, without-last}
use Rattle.flow_component.proofs.Lone.{HoldsOnly-root}
use Rattle.flow_streams.specs.Bundle.{items}
use Rattle.flow_streams.specs.BundleLaws.{gathered, two_ids, second-found}
use Rattle.flow_pick.specs.Tail.{carried, added, taken, carrier_of}

-- The chains of a carrier are the one of its packets.
pub chains-carrier : (c : ℕ) (ts : List Tree) → chains_of (carrier_of c ts) ≡ before (items, ts) []
chains-carrier c ts = from-to_chains (before (items, ts) [])

chain-before : (ts : List Tree) → chain_at (before (items, ts) []) items ≡ ts
chain-before [] = refl
chain-before (t ∷ ts) = refl

attach-before : (ts : List Tree) (t : Tree) → attach_to (before (items, ts) []) items t ≡ before (items, ts ++ t ∷ []) []
attach-before [] t = refl
attach-before (u ∷ ts) t = refl

-- A carrier is found by its id.
pub carrier-found : (c : ℕ) (ts rest : List Tree) → packet_at (carrier_of c ts ∷ rest) c ≡ Some (carrier_of c ts)
carrier-found c ts rest = let s = same_id c in rw s refl

pub carrier-root : (c : ℕ) (ts rest : List Tree) → IsAtRoot (carrier_of c ts ∷ rest) c
carrier-root c ts rest = let s = same_id c in rw s refl

-- What a carrier holds is in its chain.
pub carrier-holds : (c : ℕ) (ts rest : List Tree) → chain_of_root (carrier_of c ts ∷ rest) c items ≡ ts
carrier-holds c ts rest = let s = same_id c in rw s (ap (λ (cs : List Chain). chain_at cs items) (chains-carrier c ts) ∙ chain-before ts)

-- Without the carrier the others are left.
pub carrier-gone : (c : ℕ) (ts rest : List Tree) → without (carrier_of c ts ∷ rest) c ≡ rest
carrier-gone c ts rest = let s = same_id c in rw s refl

-- The first packet is taken out of a carrier.
pub carrier-detached : (c : ℕ) (t : Tree) (ts rest : List Tree) → detached (carrier_of c (t ∷ ts) ∷ rest) c items ≡ carrier_of c ts ∷ rest
carrier-detached c t ts rest =
    let s = same_id c in
    rw s (ap (λ (cs : List Chain). packet_of c Normal [] (detach_from cs items) ∷ rest) (chains-carrier c (t ∷ ts)))

-- A packet is put behind those of a carrier.
pub carrier-attached : (c : ℕ) (ts : List Tree) (t : Tree) → (c ≡ id_of t → ⊥) → attached (carrier_of c ts ∷ t ∷ []) c items (id_of t) ≡ carrier_of c (ts ++ t ∷ []) ∷ []
carrier-attached c ts t apart =
    gathered (carrier_of c ts) t apart
    ∙ ap (λ (cs : List Chain). packet_of c Normal [] (attach_to cs items t) ∷ []) (chains-carrier c ts)
    ∙ ap (λ (cs : List Chain). packet_of c Normal [] cs ∷ []) (attach-before ts t)

-- A packet that is alone comes into a new carrier.
pub carrier-wrapped : (c : ℕ) (t : Tree) → wrapped (t ∷ []) c items (id_of t) ≡ carrier_of c (t ∷ []) ∷ []
carrier-wrapped c t = let s = same_id (id_of t) in rw s refl

-- An id stands in a carrier and the others as often as in the carrier's own, in what it holds, and in the others.
pub times-carrier : (x c : ℕ) (ts rest : List Tree) → times x (all_ids (carrier_of c ts ∷ rest)) ≡ times x (c ∷ []) + times x (all_ids ts) + times x (all_ids rest)
times-carrier x c ts rest =
    let e : all_ids (carrier_of c ts ∷ rest) ≡ (c ∷ chain_ids (before (items, ts) [])) ++ all_ids rest = ap (λ (is : List ℕ). (c ∷ is) ++ all_ids rest) (ids-to_chains (before (items, ts) [])) in
    let f : times x (chain_ids (before (items, ts) [])) ≡ times x (all_ids ts) = inside ts in
    let g : times x (all_ids (carrier_of c ts ∷ rest)) ≡ times x (((c ∷ []) ++ chain_ids (before (items, ts) [])) ++ all_ids rest) = ap (times x) e in
    omega (arith, f, g, times-append x ((c ∷ []) ++ chain_ids (before (items, ts) [])) (all_ids rest), times-append x (c ∷ []) (chain_ids (before (items, ts) [])))
  where
    inside : (us : List Tree) → times x (chain_ids (before (items, us) [])) ≡ times x (all_ids us)
    inside [] = refl
    inside (u ∷ us) = omega (arith, times-append x (all_ids (u ∷ us)) [])

-- No id stands twice.
abbrev pub Once : List Tree → Type 0
Once ts = (x : ℕ) → times x (all_ids ts) ≤ 1

-- The first packet of a carrier has an id that no other packet at the root has.
pub first-apart : (c : ℕ) (t : Tree) (ts rest : List Tree) → Once (carrier_of c (t ∷ ts) ∷ rest) → IsAtRoot (carrier_of c ts ∷ rest) (id_of t) → ⊥
first-apart c t ts rest once at =
    let x = id_of t in
    omega (arith, once x, times-carrier x c (t ∷ ts) rest, times-carrier x c ts rest, times-split x t ts, times-own t, times-root (carrier_of c ts ∷ rest) x at)

-- Sound hands have each id once.
pub sound-once : (held : Held) (ts : List Tree) → Sound held → held.packets ≡ ts → Once ts
sound-once held ts s e x = subst (λ (us : List Tree). times x (all_ids us) ≤ 1) e (s.once x)

-- What comes into a carrier changes no id.
pub added-once : (c : ℕ) (t : Tree) (ts us : List Tree) → ts ++ t ∷ [] ≡ us → Once (carrier_of c ts ∷ t ∷ []) → Once (carrier_of c us ∷ [])
added-once c t ts us e once x =
    let all : times x (all_ids us) ≡ times x (all_ids (ts ++ t ∷ [])) = ap (λ (vs : List Tree). times x (all_ids vs)) (sym e) in
    omega (arith, once x, all, times-carrier x c us [], times-carrier x c ts (t ∷ []), times-joined ts)
  where
    times-joined : (vs : List Tree) → times x (all_ids (vs ++ t ∷ [])) ≡ times x (all_ids vs) + times x (all_ids (t ∷ []))
    times-joined [] = omega arith
    times-joined (v ∷ vs) = omega (arith, times-split x v (vs ++ t ∷ []), times-split x v vs, times-joined vs)

-- Two packets in sound hands have two ids.
pub came-apart : (held : Held) (c : ℕ) (ts : List Tree) (t : Tree) → Sound held → held.packets ≡ carrier_of c ts ∷ t ∷ [] → c ≡ id_of t → ⊥
came-apart held c ts t s e = two_ids held (carrier_of c ts) t s e

-- The hands with the packet behind those of the carrier.
pub added-is : (held : Held) (c : ℕ) (ts : List Tree) (t : Tree) → Sound held → held.packets ≡ carrier_of c ts ∷ t ∷ [] → (added held c (id_of t)).packets ≡ carrier_of c (ts ++ t ∷ []) ∷ []
added-is held c ts t s e = ap (λ (us : List Tree). attached us c items (id_of t)) e ∙ carrier-attached c ts t (came-apart held c ts t s e)

-- The hands with the first packet of the carrier taken out.
pub taken-is : (held : Held) (c : ℕ) (t : Tree) (ts rest : List Tree) → held.packets ≡ carrier_of c (t ∷ ts) ∷ rest → (taken held c t).packets ≡ (carrier_of c ts ∷ rest) ++ t ∷ []
taken-is held c t ts rest e = ap (λ (us : List Tree). detached us c items ++ t ∷ []) e ∙ ap (λ (us : List Tree). us ++ t ∷ []) (carrier-detached c t ts rest)

-- Once it has gone, the carrier and the others are left.
pub taken-gone : (held : Held) (c : ℕ) (t : Tree) (ts rest : List Tree) → held.packets ≡ carrier_of c (t ∷ ts) ∷ rest → Once (carrier_of c (t ∷ ts) ∷ rest) → without (taken held c t).packets (id_of t) ≡ carrier_of c ts ∷ rest
taken-gone held c t ts rest e once = ap (λ (us : List Tree). without us (id_of t)) (taken-is held c t ts rest e) ∙ without-last (carrier_of c ts ∷ rest) t (first-apart c t ts rest once)

-- It is at the root until then.
pub taken-root : (held : Held) (c : ℕ) (t : Tree) → IsAtRoot (taken held c t).packets (id_of t)
taken-root held c t = IsAtRoot-last (detached held.packets c items) t

-- A packet that comes behind a carrier is at the root, and so is the carrier.
pub two-root : (c : ℕ) (ts : List Tree) (t : Tree) → (c ≡ id_of t → ⊥) → IsAtRoot (carrier_of c ts ∷ t ∷ []) (id_of t)
two-root c ts t apart = let f : packet_at (carrier_of c ts ∷ t ∷ []) (id_of t) ≡ Some t = second-found (carrier_of c ts) t apart in rw f refl

-- A packet comes into a new carrier.
pub comes_carried : (held : Held) (id : ℕ) (h : HoldsOnly held id) → ComesBy held (carried held id)
comes_carried held id h =
    let n = next_id held in
    let c = carrier_of n [] in
    let t = h.packet in
    let apart : id_of t ≡ n → ⊥ = λ x. h.older (sym h.named ∙ x) in
    let made : (with_made held Normal []).packets ≡ t ∷ c ∷ [] = ap (λ (us : List Tree). us ++ c ∷ []) h.holds in
    let one : attached (t ∷ c ∷ []) n items (id_of t) ≡ carrier_of n (t ∷ []) ∷ [] = second-attached n t apart in
    let is : attached (with_made held Normal []).packets n items id ≡ wrapped held.packets n items id =
    (λ i. attached (made i) n items (sym h.named i)) ∙ one ∙ sym (carrier-wrapped n t) ∙ (λ i. wrapped (sym (h.holds) i) n items (h.named i)) in
    record {
      edits = Makes Normal [] ∷ Attaches n items id ∷ [];
      follow = (omega (arith, ap length h.holds), ((IsAtRoot-made held Normal [], IsAtRoot-push held.packets c id (HoldsOnly-root held id h), (λ x. h.older (sym x))), (λ i. record { maker = held.maker; made = held.made + 1; packets = sym is i })));
      one_make = omega arith;
    }
  where
    second-attached : (n : ℕ) (t : Tree) → (id_of t ≡ n → ⊥) → attached (t ∷ carrier_of n [] ∷ []) n items (id_of t) ≡ carrier_of n (t ∷ []) ∷ []
    second-attached n t apart = let s = same_id (id_of t) in let z = same_id n in rw (s, z) refl

-- A packet comes into a carrier that is there.
pub comes_added : (held : Held) (c : ℕ) (ts : List Tree) (t : Tree) → Sound held → held.packets ≡ carrier_of c ts ∷ t ∷ [] → ComesBy held (added held c (id_of t))
comes_added held c ts t s e =
    let apart = came-apart held c ts t s e in
    record {
      edits = Attaches c items (id_of t) ∷ [];
      follow = ((subst (λ (us : List Tree). IsAtRoot us c) (sym e) (carrier-root c ts (t ∷ [])), subst (λ (us : List Tree). IsAtRoot us (id_of t)) (sym e) (two-root c ts t apart), apart), refl);
      one_make = omega arith;
    }

taking : (held : Held) (c : ℕ) (t : Tree) (ts rest : List Tree) → held.packets ≡ carrier_of c (t ∷ ts) ∷ rest → take 1 (chain_of_root held.packets c items) ≡ t ∷ []
taking held c t ts rest e = ap (λ (us : List Tree). take 1 (chain_of_root us c items)) e ∙ ap (take 1) (carrier-holds c (t ∷ ts) rest)

-- The first packet is taken out of the carrier.
pub comes_taken : (held : Held) (c : ℕ) (t : Tree) (ts rest : List Tree) → held.packets ≡ carrier_of c (t ∷ ts) ∷ rest → length rest ≤ 1 → ComesBy held (taken held c t)
comes_taken held c t ts rest e few =
    let k = taking held c t ts rest e in
    record {
      edits = Detaches c items ∷ [];
      follow = ((subst (λ (us : List Tree). IsAtRoot us c) (sym e) (carrier-root c (t ∷ ts) rest), omega (arith, few, ap length e)), (λ i. record held { packets = detached held.packets c items ++ sym k i }));
      one_make = omega arith;
    }

-- A packet comes into the carrier, and the first one is taken out of it.
pub comes_trimmed : (held : Held) (c : ℕ) (ts : List Tree) (t first : Tree) (later : List Tree) → Sound held → held.packets ≡ carrier_of c ts ∷ t ∷ [] → ts ++ t ∷ [] ≡ first ∷ later
    → ComesBy held (taken (added held c (id_of t)) c first)
comes_trimmed held c ts t first later s e f =
    let apart = came-apart held c ts t s e in
    let mid = added held c (id_of t) in
    let there : mid.packets ≡ carrier_of c (first ∷ later) ∷ [] = added-is held c ts t s e ∙ ap (λ (us : List Tree). carrier_of c us ∷ []) f in
    let k = taking mid c first later [] there in
    record {
      edits = Attaches c items (id_of t) ∷ Detaches c items ∷ [];
      follow = (
        (subst (λ (us : List Tree). IsAtRoot us c) (sym e) (carrier-root c ts (t ∷ [])), subst (λ (us : List Tree). IsAtRoot us (id_of t)) (sym e) (two-root c ts t apart), apart),
        ((subst (λ (us : List Tree). IsAtRoot us c) (sym there) (carrier-root c (first ∷ later) []), omega (arith, ap length there)), (λ i. record mid { packets = detached mid.packets c items ++ sym k i })),
      );
      one_make = omega arith;
    }

-- The same, and then it is dropped.
pub comes_trimmed_off : (held : Held) (c : ℕ) (ts : List Tree) (t first : Tree) (later : List Tree) → Sound held → held.packets ≡ carrier_of c ts ∷ t ∷ [] → ts ++ t ∷ [] ≡ first ∷ later
    → ComesBy held (without_packet (taken (added held c (id_of t)) c first) (id_of first))
comes_trimmed_off held c ts t first later s e f =
    let apart = came-apart held c ts t s e in
    let mid = added held c (id_of t) in
    let there : mid.packets ≡ carrier_of c (first ∷ later) ∷ [] = added-is held c ts t s e ∙ ap (λ (us : List Tree). carrier_of c us ∷ []) f in
    let k : detached mid.packets c items ++ take 1 (chain_of_root mid.packets c items) ≡ detached mid.packets c items ++ first ∷ [] = ap (λ (us : List Tree). detached mid.packets c items ++ us) (taking mid c first later [] there) in
    record {
      edits = Attaches c items (id_of t) ∷ Detaches c items ∷ Drops (id_of first) ∷ [];
      follow = (
        (subst (λ (us : List Tree). IsAtRoot us c) (sym e) (carrier-root c ts (t ∷ [])), subst (λ (us : List Tree). IsAtRoot us (id_of t)) (sym e) (two-root c ts t apart), apart),
        (
          (subst (λ (us : List Tree). IsAtRoot us c) (sym there) (carrier-root c (first ∷ later) []), omega (arith, ap length there)),
          (subst (λ (us : List Tree). IsAtRoot us (id_of first)) (sym k) (taken-root mid c first), (λ i. record mid { packets = without (sym k i) (id_of first) })),
        ),
      );
      one_make = omega arith;
    }
