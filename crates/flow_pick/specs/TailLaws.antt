-- Tail keeps the laws of components.
use Rattle.std.proofs.Common.{◌≡◌, ℕ, ◌+◌, ◌≤◌, ◌==◌, Bool, true, false, List, [], ◌∷◌, ◌++◌, length, if◌then◌else◌, refl, sym, subst, ap, ◌∙◌, arith, nat_lt}
use Rattle.std.proofs.lemmas.Bool.Decides.{nat_tests}
use Rattle.flow_packet.specs.declared.packet.Kind.{Kind}
use Rattle.flow_packet.specs.declared.packet.Kind.TheVariants.{Normal, Open, Close}
use Rattle.flow_packet.specs.Tree.{Tree, id_of, kind_of, packet_of}
use Rattle.flow_packet.specs.Hands.{kind_at, kind_in, height_at, without, chain_of_root, wrapped, IsAtRoot}
use Rattle.flow_packet.specs.Held.{Held, Sound, next_id, without_packet, with_packet, with_made}
use Rattle.flow_packet.specs.Edits.{ComesBy}
use Rattle.flow_component.specs.declared.Answer.{Answer}
use Rattle.flow_component.specs.declared.Answer.TheVariants as answers
use Rattle.flow_component.specs.declared.Fail.TheVariants.{TreeDepth}
use Rattle.flow_component.specs.declared.Wish.{Wish}
use Rattle.flow_component.specs.declared.Wish.TheVariants as wishes
use Rattle.flow_component.specs.Laws.{Lawful, Outcome, Wishes, Fails, Obeys, StaysReady, component_after}
use Rattle.flow_component.specs.Alone.{HoldsOnly}
use Rattle.flow_component.specs.Ports.{receive_first}
use Rattle.flow_component.proofs.Comings.{comes_same, comes_dropped}
use Rattle.flow_component.proofs.Roots.{same_id}
use Rattle.flow_component.proofs.Lone.{HoldsOnly-without, HoldsOnly-root, HoldsOnly-came, HoldsOnly-made_alone, HoldsOnly-kind}
use Rattle.flow_streams.specs.Bundle.{items}
use Rattle.flow_streams.specs.BundleLaws.{second-found}
use Rattle.flow_pick.specs.declared.tail.TailPlace.{TailPlace}
use Rattle.flow_pick.specs.declared.tail.TailPlace.TheVariants.{Waiting, Holding, Passing, Leaving}
use Rattle.flow_pick.specs.Picking.{leaves, parting_shape, parting_uses}
use Rattle.flow_pick.specs.TailState.{TailState}
use Rattle.flow_pick.specs.Tail.{at, held_by, carried, added, taken, trims, begins, holds, passes, ends, takes, brackets, comes, end_comes, goes_on, tail_next, carrier_of, AreNormal, Carries, IsBetween, HasCome, HasSent, TailReady, tail_rules}
use Rattle.flow_pick.specs.Carriers.{carrier-root, carrier-holds, carrier-gone, carrier-wrapped, sound-once, added-once, came-apart, added-is, taken-gone, taken-root, comes_carried, comes_added, comes_taken, comes_trimmed, comes_trimmed_off}

-- The work from these hands leads to a lawful outcome.
abbrev IsLawful : Bool → Held → Outcome TailState → Type 0
IsLawful rest held outcome = Obeys parting_shape (parting_uses rest) held outcome × StaysReady tail_rules outcome

-- It holds nothing, and receives.
receives : (rest : Bool) (old held : Held) (state : TailState) → ComesBy old held → state.place ≡ Waiting → held.packets ≡ [] → IsLawful rest old (Wishes state held receive_first)
receives rest old held state w p e = (
  (w, omega arith),
  (
    (λ s. subst (λ (x : TailPlace). IsBetween state held x) (sym p) e),
    (λ t s. subst (λ (x : TailPlace). HasCome state (with_packet held t) (id_of t) x) (sym p) (HoldsOnly-came held t e s)),
    λ text s. subst (λ (x : TailPlace). HasCome state (with_made held Normal text) (next_id held) x) (sym p) (HoldsOnly-made_alone held Normal text e s),
  ),
)

-- It holds a carrier, and receives.
receives-on : (rest : Bool) (old held : Held) (state : TailState) (c : ℕ) (ts : List Tree) → ComesBy old held → state.place ≡ Holding c → held.packets ≡ carrier_of c ts ∷ [] → length ts ≤ state.count → AreNormal ts
    → IsLawful rest old (Wishes state held receive_first)
receives-on rest old held state c ts w p e few normal = (
  (w, omega arith),
  (
    (λ s. subst (λ (x : TailPlace). IsBetween state held x) (sym p) (record { packets = ts; holds = e; few = few; normal = normal; sound = s })),
    (λ t s. subst (λ (x : TailPlace). HasCome state (with_packet held t) (id_of t) x) (sym p)
        (record { other = t; named = refl; carries = record { packets = ts; holds = ap (λ (us : List Tree). us ++ t ∷ []) e; few = few; normal = normal; sound = s } })),
    λ text s. subst (λ (x : TailPlace). HasCome state (with_made held Normal text) (next_id held) x) (sym p)
        (let t = packet_of (next_id held) Normal text [] in record { other = t; named = refl; carries = record { packets = ts; holds = ap (λ (us : List Tree). us ++ t ∷ []) e; few = few; normal = normal; sound = s } }),
  ),
)

left : (rest : Bool) (state : TailState) (held : Held) (id : ℕ) → state.place ≡ Waiting → HoldsOnly held id → IsLawful rest held (leaves rest state held id)
left true state held id p h = ((comes_same held, (refl, HoldsOnly-root held id h)), λ s. subst (λ (x : TailPlace). HasSent state (without_packet held id) x) (sym p) (HoldsOnly-without held id h))
left false state held id p h = receives false held (without_packet held id) state (comes_dropped held id (HoldsOnly-root held id h)) p (HoldsOnly-without held id h)

pub normal-more : (ts : List Tree) (t : Tree) → AreNormal ts → kind_of t ≡ Normal → AreNormal (ts ++ t ∷ [])
normal-more [] t n k = (k, tt)
normal-more (u ∷ ts) t n k = (n.0, normal-more ts t n.1 k)

pub not-none : (ts : List Tree) (t : Tree) → ts ++ t ∷ [] ≡ [] → ⊥
not-none [] t e = cc
not-none (u ∷ ts) t e = cc

pub length-more : (ts : List Tree) (t : Tree) → length (ts ++ t ∷ []) ≡ length ts + 1
length-more [] t = refl
length-more (u ∷ ts) t = omega (arith, length-more ts t)

-- the first of more packets than are passed on leaves
trimmed-off : (rest : Bool) (state : TailState) (held : Held) (c : ℕ) (ts : List Tree) (t first : Tree) (later : List Tree) → state.place ≡ Holding c → Sound held → held.packets ≡ carrier_of c ts ∷ t ∷ []
    → ts ++ t ∷ [] ≡ first ∷ later → length later ≤ state.count → AreNormal later → IsLawful rest held (leaves rest state (taken (added held c (id_of t)) c first) (id_of first))
trimmed-off true state held c ts t first later p s e f few normal =
    let mid = added held c (id_of t) in
    let there : mid.packets ≡ carrier_of c (first ∷ later) ∷ [] = added-is held c ts t s e ∙ ap (λ (us : List Tree). carrier_of c us ∷ []) f in
    let once = added-once c t ts (first ∷ later) f (sound-once held (carrier_of c ts ∷ t ∷ []) s e) in
    let gone = taken-gone mid c first later [] there once in (
      (comes_trimmed held c ts t first later s e f, (refl, taken-root mid c first)),
      λ z. subst (λ (x : TailPlace). HasSent state (without_packet (taken mid c first) (id_of first)) x) (sym p) (record { packets = later; holds = gone; few = few; normal = normal; sound = z }),
    )
trimmed-off false state held c ts t first later p s e f few normal =
    let mid = added held c (id_of t) in
    let there : mid.packets ≡ carrier_of c (first ∷ later) ∷ [] = added-is held c ts t s e ∙ ap (λ (us : List Tree). carrier_of c us ∷ []) f in
    let once = added-once c t ts (first ∷ later) f (sound-once held (carrier_of c ts ∷ t ∷ []) s e) in
    let gone = taken-gone mid c first later [] there once in
    receives-on false held (without_packet (taken mid c first) (id_of first)) state c later (comes_trimmed_off held c ts t first later s e f) p gone few normal

trimmed : (state : TailState) (held : Held) (c : ℕ) (ts : List Tree) (t : Tree) (chain : List Tree) → state.place ≡ Holding c → Sound held → held.packets ≡ carrier_of c ts ∷ t ∷ []
    → ts ++ t ∷ [] ≡ chain → length ts ≤ state.count → AreNormal (ts ++ t ∷ []) → IsLawful state.rest held (trims state (added held c (id_of t)) c chain)
trimmed state held c ts t [] p s e f few normal = absurd (not-none ts t f)
trimmed state held c ts t (first ∷ later) p s e f few normal = by (nat_lt state.count (length (first ∷ later))) refl
  where
    mid : Held
    mid = added held c (id_of t)

    all : AreNormal (first ∷ later)
    all = subst AreNormal f normal

    many : length later + 1 ≡ length ts + 1
    many = omega (arith, ap length f, length-more ts t)

    by : (b : Bool) → nat_lt state.count (length (first ∷ later)) ≡ b
        → IsLawful state.rest held (if b then leaves state.rest state (taken mid c first) (id_of first) else Wishes state mid receive_first)
    by true b = trimmed-off state.rest state held c ts t first later p s e f (omega (arith, many, few)) all.1
    by false b =
        let l : length (first ∷ later) ≤ state.count = grind (arith, nat_tests) in
        receives-on state.rest held mid state c (first ∷ later) (comes_added held c ts t s e) p (added-is held c ts t s e ∙ ap (λ (us : List Tree). carrier_of c us ∷ []) f) l all

began : (state : TailState) (held : Held) (id : ℕ) → 1 ≤ state.count → HoldsOnly held id → kind_at held.packets id ≡ Normal → IsLawful state.rest held (begins state held id)
began state held id some h k = by (height_at held.packets id == 16)
  where
    kind : kind_of h.packet ≡ Normal
    kind = sym (HoldsOnly-kind held id h) ∙ k

    holds-one : (carried held id).packets ≡ carrier_of (next_id held) (h.packet ∷ []) ∷ []
    holds-one = (λ i. wrapped (h.holds i) (next_id held) items (sym h.named i)) ∙ carrier-wrapped (next_id held) h.packet

    by : (b : Bool) → IsLawful state.rest held (if b then Fails state held TreeDepth else Wishes (at state (Holding (next_id held))) (carried held id) receive_first)
    by true = ((comes_same held, tt), tt)
    by false = receives-on state.rest held (carried held id) (at state (Holding (next_id held))) (next_id held) (h.packet ∷ []) (comes_carried held id h) refl holds-one (omega (arith, some)) (kind, tt)

-- the kind of the packet that came behind a carrier
pub came-kind : (held : Held) (c : ℕ) (ts : List Tree) (t : Tree) → Sound held → held.packets ≡ carrier_of c ts ∷ t ∷ [] → kind_at held.packets (id_of t) ≡ kind_of t
came-kind held c ts t s e = ap (λ (us : List Tree). kind_at us (id_of t)) e ∙ ap kind_in (second-found (carrier_of c ts) t (came-apart held c ts t s e))

held-on : (state : TailState) (held : Held) (c : ℕ) (t : Tree) → state.place ≡ Holding c → (h : Carries held c state.count (t ∷ [])) → kind_of t ≡ Normal → IsLawful state.rest held (holds state held c (id_of t))
held-on state held c t p h k = by (height_at held.packets (id_of t) == 16)
  where
    chain : h.packets ++ t ∷ [] ≡ held_by (added held c (id_of t)) c
    chain = sym (carrier-holds c (h.packets ++ t ∷ []) []) ∙ sym (ap (λ (us : List Tree). chain_of_root us c items) (added-is held c h.packets t h.sound h.holds))

    by : (b : Bool) → IsLawful state.rest held (if b then Fails state held TreeDepth else trims state (added held c (id_of t)) c (held_by (added held c (id_of t)) c))
    by true = ((comes_same held, tt), tt)
    by false = trimmed state held c h.packets t (held_by (added held c (id_of t)) c) p h.sound h.holds chain h.few (normal-more h.packets t h.normal k)

-- what is held is sent before a bracket
passed : (state : TailState) (held : Held) (c : ℕ) (b : Tree) (h : Carries held c state.count (b ∷ [])) (chain : List Tree) → h.packets ≡ chain → IsLawful state.rest held (passes state held c (id_of b) chain)
passed state held c b h [] e =
    let holds : held.packets ≡ carrier_of c [] ∷ b ∷ [] = h.holds ∙ ap (λ (us : List Tree). carrier_of c us ∷ b ∷ []) e in
    let gone : without held.packets c ≡ b ∷ [] = ap (λ (us : List Tree). without us c) holds ∙ carrier-gone c [] (b ∷ []) in
    let alone : IsAtRoot (without held.packets c) (id_of b) = subst (λ (us : List Tree). IsAtRoot us (id_of b)) (sym gone) (let s = same_id (id_of b) in rw s refl) in
    let none : without (without held.packets c) (id_of b) ≡ [] = ap (λ (us : List Tree). without us (id_of b)) gone ∙ (let s = same_id (id_of b) in rw s refl) in
    ((comes_dropped held c (subst (λ (us : List Tree). IsAtRoot us c) (sym holds) (carrier-root c [] (b ∷ []))), (refl, alone)), λ s. none)
passed state held c b h (first ∷ later) e =
    let holds : held.packets ≡ carrier_of c (first ∷ later) ∷ b ∷ [] = h.holds ∙ ap (λ (us : List Tree). carrier_of c us ∷ b ∷ []) e in
    let gone = taken-gone held c first later (b ∷ []) holds (sound-once held (carrier_of c (first ∷ later) ∷ b ∷ []) h.sound holds) in
    let all : AreNormal (first ∷ later) = subst AreNormal e h.normal in
    let few : length later ≤ state.count = omega (arith, h.few, ap length e) in (
      (comes_taken held c first later (b ∷ []) holds (omega arith), (refl, taken-root held c first)),
      λ s. record { other = b; named = refl; carries = record { packets = later; holds = gone; few = few; normal = all.1; sound = s } },
    )

-- what is held is sent before the end
ended : (state : TailState) (held : Held) (c : ℕ) (h : Carries held c state.count []) (chain : List Tree) → h.packets ≡ chain → IsLawful state.rest held (ends state held c chain)
ended state held c h [] e =
    let holds : held.packets ≡ carrier_of c [] ∷ [] = h.holds ∙ ap (λ (us : List Tree). carrier_of c us ∷ []) e in
    let gone : without held.packets c ≡ [] = ap (λ (us : List Tree). without us c) holds ∙ carrier-gone c [] [] in
    ((comes_dropped held c (subst (λ (us : List Tree). IsAtRoot us c) (sym holds) (carrier-root c [] [])), tt), λ s. gone)
ended state held c h (first ∷ later) e =
    let holds : held.packets ≡ carrier_of c (first ∷ later) ∷ [] = h.holds ∙ ap (λ (us : List Tree). carrier_of c us ∷ []) e in
    let gone = taken-gone held c first later [] holds (sound-once held (carrier_of c (first ∷ later) ∷ []) h.sound holds) in
    let all : AreNormal (first ∷ later) = subst AreNormal e h.normal in
    let few : length later ≤ state.count = omega (arith, h.few, ap length e) in (
      (comes_taken held c first later [] holds (omega arith), (refl, taken-root held c first)),
      λ s. record { packets = later; holds = gone; few = few; normal = all.1; sound = s },
    )

-- what a carrier holds, as the rule finds it
pub carries-held : (held : Held) (c count : ℕ) (others : List Tree) (h : Carries held c count others) → h.packets ≡ held_by held c
carries-held held c count others h = sym (ap (λ (us : List Tree). chain_of_root us c items) h.holds ∙ carrier-holds c h.packets others)

took : (state : TailState) (held : Held) (id : ℕ) (place : TailPlace) → state.place ≡ place → HasCome state held id place → kind_at held.packets id ≡ Normal → IsLawful state.rest held (takes state held id place)
took state held id Waiting p r k = by (state.count == 0) refl
  where
    by : (b : Bool) → (state.count == 0) ≡ b → IsLawful state.rest held (if b then leaves state.rest state held id else begins state held id)
    by true b = left state.rest state held id p r
    by false b = began state held id (grind (arith, nat_tests)) r k
took state held id (Holding c) p r k =
    let kind : kind_of r.other ≡ Normal = sym (came-kind held c r.carries.packets r.other r.carries.sound r.carries.holds) ∙ ap (kind_at held.packets) r.named ∙ k in
    subst (λ (n : ℕ). IsLawful state.rest held (holds state held c n)) r.named (held-on state held c r.other p r.carries kind)
took state held id (Passing c b) p r k = absurd r
took state held id (Leaving c) p r k = absurd r

bracketed : (state : TailState) (held : Held) (id : ℕ) (place : TailPlace) → state.place ≡ place → HasCome state held id place → IsLawful state.rest held (brackets state held id place)
bracketed state held id Waiting p r = ((comes_same held, (refl, HoldsOnly-root held id r)), λ s. subst (λ (x : TailPlace). HasSent state (without_packet held id) x) (sym p) (HoldsOnly-without held id r))
bracketed state held id (Holding c) p r =
    subst (λ (n : ℕ). IsLawful state.rest held (passes state held c n (held_by held c))) r.named (passed state held c r.other r.carries (held_by held c) (carries-held held c state.count (r.other ∷ []) r.carries))
bracketed state held id (Passing c b) p r = absurd r
bracketed state held id (Leaving c) p r = absurd r

came : (state : TailState) (held : Held) (id : ℕ) (kind : Kind) → HasCome state held id state.place → kind_at held.packets id ≡ kind → IsLawful state.rest held (comes state held id kind)
came state held id Normal r k = took state held id state.place refl r k
came state held id Open r k = bracketed state held id state.place refl r
came state held id Close r k = bracketed state held id state.place refl r

end_came : (state : TailState) (held : Held) (place : TailPlace) → state.place ≡ place → IsBetween state held place → IsLawful state.rest held (end_comes state held place)
end_came state held Waiting p r = ((comes_same held, tt), λ s. subst (λ (x : TailPlace). IsBetween state held x) (sym p) r)
end_came state held (Holding c) p r = ended state held c r (held_by held c) (carries-held held c state.count [] r)
end_came state held (Passing c b) p r = absurd r
end_came state held (Leaving c) p r = absurd r

went_on : (state : TailState) (held : Held) (place : TailPlace) → state.place ≡ place → HasSent state held place → IsLawful state.rest held (goes_on state held place)
went_on state held Waiting p r = receives state.rest held held state (comes_same held) p r
went_on state held (Holding c) p r = receives-on state.rest held held state c r.packets (comes_same held) p r.holds r.few r.normal
went_on state held (Passing c b) p r =
    subst (λ (n : ℕ). IsLawful state.rest held (passes state held c n (held_by held c))) r.named (passed state held c r.other r.carries (held_by held c) (carries-held held c state.count (r.other ∷ []) r.carries))
went_on state held (Leaving c) p r = ended state held c r (held_by held c) (carries-held held c state.count [] r)

started : (state : TailState) (held : Held) (place : TailPlace) → state.place ≡ place → IsBetween state held place → IsLawful state.rest held (Wishes state held receive_first)
started state held Waiting p r = receives state.rest held held state (comes_same held) p r
started state held (Holding c) p r = receives-on state.rest held held state c r.packets (comes_same held) p r.holds r.few r.normal
started state held (Passing c b) p r = absurd r
started state held (Leaving c) p r = absurd r

lawful : (state : TailState) (held : Held) (answer : Answer) → TailReady state held answer → IsLawful state.rest held (tail_next state held answer)
lawful state held answers.Start r = started state held state.place refl r
lawful state held (answers.Got id) r = came state held id (kind_at held.packets id) r refl
lawful state held answers.End r = end_came state held state.place refl r
lawful state held answers.Sent r = went_on state held state.place refl r
lawful state held (answers.Level n) r = absurd r

-- It stays connected as it is, and holds nothing where it is deactivated

-- It holds nothing where it wishes to be deactivated.
abbrev pub IsDone : Wish → TailPlace → Type 0
IsDone (wishes.Receive port) place = Unit {0}
IsDone (wishes.Send port id) place = Unit {0}
IsDone (wishes.Level port) place = Unit {0}
IsDone wishes.Deactivate place = place ≡ Waiting

-- Its second output stays as it is, and it holds nothing where it is done.
abbrev pub StaysSo : TailState → Outcome TailState → Type 0
StaysSo state (Wishes new held wish) = (new.rest ≡ state.rest) × IsDone wish new.place
StaysSo state (Fails new held cause) = (new.rest ≡ state.rest) × Unit {0}

leaves-so : (rest : Bool) (state : TailState) (held : Held) (id : ℕ) → StaysSo state (leaves rest state held id)
leaves-so true state held id = (refl, tt)
leaves-so false state held id = (refl, tt)

trims-so : (state : TailState) (held : Held) (c : ℕ) (chain : List Tree) → StaysSo state (trims state held c chain)
trims-so state held c [] = (refl, tt)
trims-so state held c (first ∷ later) = elim (nat_lt state.count (length (first ∷ later))) as (λ b. StaysSo state (if b then leaves state.rest state (taken held c first) (id_of first) else Wishes state held receive_first)) [
  | true ↦ leaves-so state.rest state (taken held c first) (id_of first)
  | false ↦ (refl, tt)
]

holds-so : (state : TailState) (held : Held) (c id : ℕ) → StaysSo state (holds state held c id)
holds-so state held c id =
    let mid = added held c id in
    elim (height_at held.packets id == 16) as (λ b. StaysSo state (if b then Fails state held TreeDepth else trims state (added held c id) c (held_by (added held c id) c))) [
      | true ↦ (refl, tt)
      | false ↦ trims-so state mid c (held_by mid c)
    ]

begins-so : (state : TailState) (held : Held) (id : ℕ) → StaysSo state (begins state held id)
begins-so state held id = elim (height_at held.packets id == 16) as (λ b. StaysSo state (if b then Fails state held TreeDepth else Wishes (at state (Holding (next_id held))) (carried held id) receive_first)) [
  | true ↦ (refl, tt)
  | false ↦ (refl, tt)
]

passes-so : (state : TailState) (held : Held) (c b : ℕ) (chain : List Tree) → StaysSo state (passes state held c b chain)
passes-so state held c b [] = (refl, tt)
passes-so state held c b (first ∷ later) = (refl, tt)

ends-so : (state : TailState) (held : Held) (c : ℕ) (chain : List Tree) → StaysSo state (ends state held c chain)
ends-so state held c [] = (refl, refl)
ends-so state held c (first ∷ later) = (refl, tt)

takes-so : (state : TailState) (held : Held) (id : ℕ) (place : TailPlace) → StaysSo state (takes state held id place)
takes-so state held id Waiting = elim (state.count == 0) as (λ b. StaysSo state (if b then leaves state.rest state held id else begins state held id)) [
  | true ↦ leaves-so state.rest state held id
  | false ↦ begins-so state held id
]
takes-so state held id (Holding c) = holds-so state held c id
takes-so state held id (Passing c b) = (refl, tt)
takes-so state held id (Leaving c) = (refl, tt)

brackets-so : (state : TailState) (held : Held) (id : ℕ) (place : TailPlace) → StaysSo state (brackets state held id place)
brackets-so state held id Waiting = (refl, tt)
brackets-so state held id (Holding c) = passes-so state held c id (held_by held c)
brackets-so state held id (Passing c b) = (refl, tt)
brackets-so state held id (Leaving c) = (refl, tt)

comes-so : (state : TailState) (held : Held) (id : ℕ) (kind : Kind) → StaysSo state (comes state held id kind)
comes-so state held id Normal = takes-so state held id state.place
comes-so state held id Open = brackets-so state held id state.place
comes-so state held id Close = brackets-so state held id state.place

end-so : (state : TailState) (held : Held) (place : TailPlace) → state.place ≡ place → StaysSo state (end_comes state held place)
end-so state held Waiting p = (refl, p)
end-so state held (Holding c) p = ends-so state held c (held_by held c)
end-so state held (Passing c b) p = (refl, tt)
end-so state held (Leaving c) p = (refl, tt)

goes-so : (state : TailState) (held : Held) (place : TailPlace) → StaysSo state (goes_on state held place)
goes-so state held Waiting = (refl, tt)
goes-so state held (Holding c) = (refl, tt)
goes-so state held (Passing c b) = passes-so state held c b (held_by held c)
goes-so state held (Leaving c) = ends-so state held c (held_by held c)

-- So it does, whatever it is told.
pub next-so : (state : TailState) (held : Held) (answer : Answer) → StaysSo state (tail_next state held answer)
next-so state held answers.Start = (refl, tt)
next-so state held (answers.Got id) = comes-so state held id (kind_at held.packets id)
next-so state held answers.End = end-so state held state.place refl
next-so state held answers.Sent = goes-so state held state.place
next-so state held (answers.Level n) = (refl, tt)

so-rest : (state : TailState) (outcome : Outcome TailState) → StaysSo state outcome → (component_after outcome).rest ≡ state.rest
so-rest state (Wishes new held wish) so = so.0
so-rest state (Fails new held cause) so = so.0

-- It keeps the laws of components.
pub tail_lawful : Lawful tail_rules
tail_lawful = record {
  obeys = λ state held answer outcome r is. subst (Obeys parting_shape (parting_uses state.rest) held) (sym is) (lawful state held answer r).0;
  stays_ready = λ state held answer outcome r is. subst (StaysReady tail_rules) (sym is) (lawful state held answer r).1;
  steady = λ state held answer outcome is.
      let e = so-rest state outcome (subst (StaysSo state) (sym is) (next-so state held answer)) in
      record { shape = refl; outputs = ap parting_uses e };
  has_outcome = λ component held answer _. (tail_next component held answer, refl);
}
