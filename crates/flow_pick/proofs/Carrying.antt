-- What a Tail does with its carrier, as the hands of the running program have it.
use Rattle.std.proofs.Common.{◌≡◌, ℕ, ◌+◌, ◌-◌, ◌≤◌, ◌<◌, Bool, true, false, List, [], ◌∷◌, ◌++◌, length, take, Some, None, refl, sym, ap, ◌∙◌, subst, arith, nat_eq, nat_lt, if◌then◌else◌, length-append}
use Rattle.std.proofs.lemmas.Bool.Decides.{nat_tests}
use Rattle.flow_packet.specs.Tree.{Tree, id_of, all_ids, chain_ids, before}
use Rattle.flow_packet.specs.Hands.{Holding, attached, detached, chain_of_root, first_id, height_at, IsAtRoot}
use Rattle.flow_packet.specs.Held.{Held, held_of}
use Rattle.flow_packet.proofs.Trees.{ids-to_chains, length-all_ids-push}
use Rattle.flow_component.specs.declared.Wish.TheVariants as wishes
use Rattle.flow_component.specs.declared.Fail.TheVariants.{TreeDepth}
use Rattle.flow_component.specs.Laws.{Wishes, Fails}
use Rattle.flow_component.specs.Ports.{receive_first, send_first}
use Rattle.flow_component.specs.Resumes.{dropped_count}
use Rattle.flow_component.proofs.Dropping.{dropped_after, dropping, dropped-dropping}
use Rattle.flow_streams.proofs.Gathering.{none_dropped}
use Rattle.flow_streams.specs.Bundle.{items}
use Rattle.flow_pick.specs.declared.tail.TailPlace.TheVariants.{Passing, Leaving}
use Rattle.flow_pick.specs.Picking.{leaves, second_port}
use Rattle.flow_pick.specs.TailState.{TailState}
use Rattle.flow_pick.specs.Tail.{at, held_by, added, taken, trims, holds, passes, ends, carrier_of, Carries, CarriesOne}
use Rattle.flow_pick.specs.Carriers.{carrier-holds, carrier-detached, came-apart, added-is, taken-root}

-- How many ids there are in a carrier and the others.
pub length-carrier : (c : ℕ) (ts rest : List Tree) → length (all_ids (carrier_of c ts ∷ rest)) ≡ 1 + length (all_ids ts) + length (all_ids rest)
length-carrier c ts rest =
    let e : length (all_ids (carrier_of c ts ∷ rest)) ≡ length ((c ∷ chain_ids (before (items, ts) [])) ++ all_ids rest) = ap (λ (is : List ℕ). length ((c ∷ is) ++ all_ids rest)) (ids-to_chains (before (items, ts) [])) in
    omega (arith, e, length-append (c ∷ chain_ids (before (items, ts) [])) (all_ids rest), inside ts)
  where
    inside : (us : List Tree) → length (chain_ids (before (items, us) [])) ≡ length (all_ids us)
    inside [] = refl
    inside (u ∷ us) = omega (arith, length-append (all_ids (u ∷ us)) [])

none-lost : (old new : Holding) → new.made ≡ old.made → length (all_ids new.packets) ≡ length (all_ids old.packets) → new.dropped ≡ old.dropped → new.dropped ≡ dropped_after old new
none-lost old new m e d = d ∙ sym (none_dropped old new (omega (arith, m, e)))

-- The first packet of a carrier was taken out.
pub record Takes (h new : Holding) (c n : ℕ) : Type 0 where
  pub first : Tree
  pub later : List Tree
  pub chain : held_by (held_of h) c ≡ first ∷ later
  pub named : n ≡ id_of first
  pub is : held_of new ≡ taken (held_of h) c first
  pub as_many : length (all_ids new.packets) ≡ length (all_ids h.packets)
  pub made : new.made ≡ h.made
  pub dropped : new.dropped ≡ h.dropped

-- So a call of detach takes it.
pub takes : (h : Holding) (c n : ℕ) (new : Holding) (ts rest : List Tree) → h.packets ≡ carrier_of c ts ∷ rest → Some n ≡ first_id (chain_of_root h.packets c items)
    → new ≡ record h { packets = detached h.packets c items ++ take 1 (chain_of_root h.packets c items); spare = new.spare } → Takes h new c n
takes h c n new [] rest e f is = absurd (let z : Some n ≡ None = f ∙ ap first_id (ap (λ (us : List Tree). chain_of_root us c items) e ∙ carrier-holds c [] rest) in cc)
takes h c n new (t ∷ ts) rest e f is =
    let chain : chain_of_root h.packets c items ≡ t ∷ ts = ap (λ (us : List Tree). chain_of_root us c items) e ∙ carrier-holds c (t ∷ ts) rest in
    let named : Some n ≡ Some (id_of t) = f ∙ ap first_id chain in
    let same : new.packets ≡ detached h.packets c items ++ t ∷ [] = ap (λ (x : Holding). x.packets) is ∙ ap (λ (us : List Tree). detached h.packets c items ++ take 1 us) chain in
    let there : new.packets ≡ (carrier_of c ts ∷ rest) ++ t ∷ [] = same ∙ ap (λ (us : List Tree). us ++ t ∷ []) (ap (λ (us : List Tree). detached us c items) e ∙ carrier-detached c t ts rest) in
    record {
      first = t;
      later = ts;
      chain = chain;
      named = cc;
      is = ap held_of is ∙ ap (λ (us : List Tree). record (held_of h) { packets = detached h.packets c items ++ take 1 us }) chain;
      as_many = omega (
        arith,
        ap (λ (us : List Tree). length (all_ids us)) there,
        ap (λ (us : List Tree). length (all_ids us)) e,
        length-all_ids-push (carrier_of c ts ∷ rest) t,
        length-carrier c ts rest,
        length-carrier c (t ∷ ts) rest,
        length-append (Rattle.flow_packet.specs.Tree.ids t) (all_ids ts),
      );
      made = ap (λ (x : Holding). x.made) is;
      dropped = ap (λ (x : Holding). x.dropped) is;
    }

-- The first packet is taken out before a bracket.
pub passed-first : (state : TailState) (h new : Holding) (c b n : ℕ) → Takes h new c n
    → (Wishes (at state (Passing c b)) (held_of new) (send_first n) ≡ passes state (held_of h) c b (held_by (held_of h) c)) × (new.dropped ≡ dropped_after h new)
passed-first state h new c b n t = (
  (λ i. Wishes (at state (Passing c b)) (t.is i) (send_first (t.named i))) ∙ ap (passes state (held_of h) c b) (sym t.chain),
  none-lost h new t.made t.as_many t.dropped,
)

-- The first packet is taken out before the end.
pub ended-first : (state : TailState) (h new : Holding) (c n : ℕ) → Takes h new c n
    → (Wishes (at state (Leaving c)) (held_of new) (send_first n) ≡ ends state (held_of h) c (held_by (held_of h) c)) × (new.dropped ≡ dropped_after h new)
ended-first state h new c n t = (
  (λ i. Wishes (at state (Leaving c)) (t.is i) (send_first (t.named i))) ∙ ap (ends state (held_of h) c) (sym t.chain),
  none-lost h new t.made t.as_many t.dropped,
)

-- A packet came into a carrier.
pub record Adds (h mid : Holding) (c id : ℕ) : Type 0 where
  pub packets : List Tree
  pub holds : mid.packets ≡ carrier_of c packets ∷ []
  pub is : held_of mid ≡ added (held_of h) c id
  pub as_many : length (all_ids mid.packets) ≡ length (all_ids h.packets)
  pub made : mid.made ≡ h.made
  pub dropped : mid.dropped ≡ h.dropped

adds-named : (h mid : Holding) (c count s : ℕ) (t : Tree) → (k : Carries (held_of h) c count (t ∷ [])) → mid ≡ record h { packets = attached h.packets c items (id_of t); spare = s } → Adds h mid c (id_of t)
adds-named h mid c count s t k is =
    let ts = k.packets in
    let there : mid.packets ≡ carrier_of c (ts ++ t ∷ []) ∷ [] = ap (λ (x : Holding). x.packets) is ∙ added-is (held_of h) c ts t k.sound k.holds in
    record {
      packets = ts ++ t ∷ [];
      holds = there;
      is = ap held_of is;
      as_many = omega (
        arith,
        ap (λ (us : List Tree). length (all_ids us)) there,
        ap (λ (us : List Tree). length (all_ids us)) k.holds,
        length-carrier c (ts ++ t ∷ []) [],
        length-carrier c ts (t ∷ []),
        length-all_ids-push ts t,
        length-append (Rattle.flow_packet.specs.Tree.ids t) [],
      );
      made = ap (λ (x : Holding). x.made) is;
      dropped = ap (λ (x : Holding). x.dropped) is;
    }

-- So a call of attach puts it there.
pub adds : (h mid : Holding) (c count id s : ℕ) → CarriesOne (held_of h) c count id → mid ≡ record h { packets = attached h.packets c items id; spare = s } → Adds h mid c id
adds h mid c count id s k is =
    subst (λ (n : ℕ). Adds h mid c n) k.named (adds-named h mid c count s k.other k.carries (is ∙ ap (λ (n : ℕ). record h { packets = attached h.packets c items n; spare = s }) (sym k.named)))

low : (state : TailState) (held : Held) (c id : ℕ) → (height_at held.packets id ≡ 16 → ⊥) → holds state held c id ≡ trims state (added held c id) c (held_by (added held c id) c)
low state held c id n =
    let b : nat_eq (height_at held.packets id) 16 ≡ false = grind (arith, nat_tests) in
    ap (λ (x : Bool). if x then Fails state held TreeDepth else trims state (added held c id) c (held_by (added held c id) c)) b

trims-none : (state : TailState) (held : Held) (c : ℕ) (chain : List Tree) → length chain ≤ state.count → trims state held c chain ≡ Wishes state held receive_first
trims-none state held c [] few = refl
trims-none state held c (first ∷ later) few =
    let b : nat_lt state.count (length (first ∷ later)) ≡ false = grind (arith, nat_tests) in
    ap (λ (x : Bool). if x then leaves state.rest state (taken held c first) (id_of first) else Wishes state held receive_first) b

trims-one : (state : TailState) (held : Held) (c : ℕ) (first : Tree) (later : List Tree) → state.count < length (first ∷ later) → trims state held c (first ∷ later) ≡ leaves state.rest state (taken held c first) (id_of first)
trims-one state held c first later many =
    let b : nat_lt state.count (length (first ∷ later)) ≡ true = grind (arith, nat_tests) in
    ap (λ (x : Bool). if x then leaves state.rest state (taken held c first) (id_of first) else Wishes state held receive_first) b

-- A packet came into the carrier, and all are held.
pub held-all : (state : TailState) (h mid : Holding) (c id : ℕ) → Adds h mid c id → (height_at h.packets id ≡ 16 → ⊥) → length (held_by (held_of mid) c) ≤ state.count
    → (Wishes state (held_of mid) receive_first ≡ holds state (held_of h) c id) × (mid.dropped ≡ dropped_after h mid)
held-all state h mid c id a high few = (
  sym (low state (held_of h) c id high ∙ (λ i. trims state (sym a.is i) c (held_by (sym a.is i) c)) ∙ trims-none state (held_of mid) c (held_by (held_of mid) c) few),
  none-lost h mid a.made a.as_many a.dropped,
)

-- what a trim comes to
trimmed : (state : TailState) (h mid new : Holding) (c id n : ℕ) → Adds h mid c id → (t : Takes mid new c n) → (height_at h.packets id ≡ 16 → ⊥) → state.count < length (held_by (held_of mid) c)
    → holds state (held_of h) c id ≡ leaves state.rest state (held_of new) n
trimmed state h mid new c id n a t high many =
    low state (held_of h) c id high
    ∙ (λ i. trims state (sym a.is i) c (held_by (sym a.is i) c))
    ∙ ap (trims state (held_of mid) c) t.chain
    ∙ trims-one state (held_of mid) c t.first t.later (subst (λ (us : List Tree). state.count < length us) t.chain many)
    ∙ (λ i. leaves state.rest state (sym t.is i) (sym t.named i))

-- The first one goes to the second output.
pub held-left : (state : TailState) (h mid new : Holding) (c id n : ℕ) → Adds h mid c id → Takes mid new c n → (height_at h.packets id ≡ 16 → ⊥) → state.count < length (held_by (held_of mid) c) → state.rest ≡ true
    → (Wishes state (held_of new) (wishes.Send second_port n) ≡ holds state (held_of h) c id) × (new.dropped ≡ dropped_after h new)
held-left state h mid new c id n a t high many r = (
  sym (trimmed state h mid new c id n a t high many ∙ ap (λ (b : Bool). leaves b state (held_of new) n) r),
  none-lost h new (t.made ∙ a.made) (t.as_many ∙ a.as_many) (t.dropped ∙ a.dropped),
)

same-drops : (old new last : Holding) → new.dropped ≡ old.dropped → new.made ≡ old.made → length (all_ids new.packets) ≡ length (all_ids old.packets) → dropped_after new last ≡ dropped_after old last
same-drops old new last d m e = λ i. dropped_count (d i) (e i + (last.made - m i) - length (all_ids last.packets))

-- The first one is dropped.
pub held-dropped : (state : TailState) (h mid new last : Holding) (c id n : ℕ) → Adds h mid c id → Takes mid new c n → (height_at h.packets id ≡ 16 → ⊥) → state.count < length (held_by (held_of mid) c) → state.rest ≡ false
    → (s : ℕ) → last ≡ dropping new n s → (Wishes state (held_of last) receive_first ≡ holds state (held_of h) c id) × (last.dropped ≡ dropped_after h last)
held-dropped state h mid new last c id n a t high many r s is =
    let root : IsAtRoot new.packets n = subst (λ (k : ℕ). IsAtRoot new.packets k) (sym t.named) (subst (λ (x : Held). IsAtRoot x.packets (id_of t.first)) (sym t.is) (taken-root (held_of mid) c t.first)) in
    let counted : last.dropped ≡ dropped_after new last = ap (λ (x : Holding). x.dropped) is ∙ dropped-dropping new n s root ∙ ap (dropped_after new) (sym is) in (
      sym (trimmed state h mid new c id n a t high many ∙ ap (λ (b : Bool). leaves b state (held_of new) n) r ∙ ap (λ (x : Holding). Wishes state (held_of x) receive_first) (sym is)),
      counted ∙ same-drops h new last (t.dropped ∙ a.dropped) (t.made ∙ a.made) (t.as_many ∙ a.as_many),
    )

-- The ids of a carrier and of what came behind it are two.
pub carries-apart : (held : Held) (c count id : ℕ) → CarriesOne held c count id → c ≡ id → ⊥
carries-apart held c count id k e = came-apart held c k.carries.packets k.other k.carries.sound k.carries.holds (e ∙ sym k.named)
