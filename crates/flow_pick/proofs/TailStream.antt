-- What Tail makes of its stream.
use Rattle.std.proofs.Common.{◌≡◌, ℕ, ◌+◌, ◌≤◌, ◌<◌, ◌==◌, Bool, true, false, List, [], ◌∷◌, ◌++◌, length, map, Option, Some, refl, sym, ap, ◌∙◌, subst, arith, nat_eq, nat_lt, if◌then◌else◌}
use Rattle.std.proofs.lemmas.Bool.Decides.{nat_tests}
use Rattle.flow_packet.specs.declared.packet.Kind.{Kind}
use Rattle.flow_packet.specs.declared.packet.Kind.TheVariants.{Normal, Open, Close}
use Rattle.flow_packet.specs.Tree.{Tree, content, id_of, kind_of}
use Rattle.flow_packet.specs.Hands.{packet_at, kind_at, height_at, without, chain_of_root, wrapped}
use Rattle.flow_packet.specs.Held.{Held, Sound, next_id, without_packet}
use Rattle.flow_component.specs.declared.Fail.TheVariants.{TreeDepth}
use Rattle.flow_component.specs.declared.Wish.{Wish}
use Rattle.flow_component.specs.declared.Wish.TheVariants as wishes
use Rattle.flow_component.specs.Laws.{Outcome, Wishes, Fails, IsAllowed}
use Rattle.flow_component.specs.Alone.{HoldsOnly}
use Rattle.flow_component.specs.Ports.{receive_first}
use Rattle.flow_component.specs.Happenings.{Happening, Started, Received, Ended, Sent, Learned, answer_of}
use Rattle.flow_component.specs.Runs.{Poise, fresh, Steps, Runs, EndIsLast, got, sent}
use Rattle.flow_component.proofs.Lone.{HoldsOnly-packet_at, HoldsOnly-kind, HoldsOnly-end}
use Rattle.flow_component.proofs.Roots.{same_id}
use Rattle.flow_component.proofs.Several.{packet_at-last}
use Rattle.flow_component.proofs.Streams.{Comes-packets, contents_in, content-kind, port_below_one}
use Rattle.flow_streams.specs.Bundle.{items}
use Rattle.flow_streams.specs.BundleLaws.{second-found}
use Rattle.flow_pick.specs.declared.tail.TailPlace.{TailPlace}
use Rattle.flow_pick.specs.declared.tail.TailPlace.TheVariants.{Waiting, Holding, Passing, Leaving}
use Rattle.flow_pick.specs.Places.{is_bracket, stretch}
use Rattle.flow_pick.specs.Picking.{leaves, parting_shape, parting_uses}
use Rattle.flow_pick.specs.TailState.{TailState}
use Rattle.flow_pick.specs.Tail.{at, held_by, carried, added, taken, trims, begins, holds, passes, ends, takes, brackets, comes, end_comes, goes_on, carrier_of, AreNormal, Carries, IsBetween, HasCome, HasSent, fresh_tail, tail_rules}
use Rattle.flow_pick.specs.Carriers.{Once, carrier-holds, carrier-gone, carrier-wrapped, sound-once, added-once, first-apart, came-apart, added-is, taken-is, taken-gone}
use Rattle.flow_pick.specs.TailLaws.{tail_lawful, carries-held, came-kind, not-none, normal-more, IsDone, StaysSo, next-so}
use Rattle.flow_pick.specs.Meanings.{TailMeaning}
use Rattle.flow_pick.proofs.PickingStream.{owes, if_connected}
use Rattle.flow_pick.proofs.Lasts.{lasts, others, lasts-are, others-are, normal-contents, stretch-more, first-off, bracket-on, bracket-ends, held-on}

-- the contents of what a carrier holds
abbrev kept : Held → ℕ → List Tree
kept held c = map content (held_by held c)

-- what is still to be sent to the first output, where these packets are still to come
abbrev still_first : ℕ → Held → TailPlace → List Tree → List Tree
still_first n held Waiting z = lasts n z
still_first n held (Holding c) z = lasts n (kept held c ++ z)
still_first n held (Passing c b) z = kept held c ++ (contents_in (packet_at held.packets b) ++ lasts n z)
still_first n held (Leaving c) z = kept held c ++ lasts n z

-- and to the second one
abbrev still_second : ℕ → Held → TailPlace → List Tree → List Tree
still_second n held Waiting z = others n z
still_second n held (Holding c) z = others n (kept held c ++ z)
still_second n held (Passing c b) z = others n z
still_second n held (Leaving c) z = others n z

-- the hands once the wish was granted
abbrev left_by : Held → Wish → Held
left_by held (wishes.Receive port) = held
left_by held (wishes.Send port id) = without_packet held id
left_by held (wishes.Level port) = held
left_by held wishes.Deactivate = held

abbrev first_of : List Tree → TailState → Held → Wish → List Tree
first_of z state held wish = owes 0 held wish ++ still_first state.count (left_by held wish) state.place z

abbrev second_of : List Tree → TailState → Held → Wish → List Tree
second_of z state held wish = owes 1 held wish ++ if_connected state.rest (still_second state.count (left_by held wish) state.place z)

-- What is to be sent from this outcome on, where these packets are still to come.
abbrev Ahead : List Tree → List Tree → List Tree → Outcome TailState → Type 0
Ahead z first second (Wishes state held wish) = (first_of z state held wish ≡ first) × (second_of z state held wish ≡ second)
Ahead z first second (Fails state held cause) = Unit {0}

-- A carrier alone, and with another packet

abbrev Alone : Held → ℕ → List Tree → List Tree → Type 0
Alone held c ts rest = held.packets ≡ carrier_of c ts ∷ rest

kept-is : (held : Held) (c : ℕ) (ts rest : List Tree) → Alone held c ts rest → kept held c ≡ map content ts
kept-is held c ts rest e =
    ap (λ (us : List Tree). map content (chain_of_root us c items)) e ∙ ap (map content) (carrier-holds c ts rest)

-- A packet leaves

leaving : (b : Bool) (state : TailState) (held : Held) (t : Tree) (z : List Tree) → state.rest ≡ b → packet_at held.packets (id_of t) ≡ Some t
    → Ahead z (still_first state.count (without_packet held (id_of t)) state.place z) (if_connected b (content t ∷ still_second state.count (without_packet held (id_of t)) state.place z)) (leaves b state held (id_of t))
leaving true state held t z r found = (refl, (λ i. contents_in (found i) ++ if_connected (r i) (still_second state.count (without_packet held (id_of t)) state.place z)))
leaving false state held t z r found = (refl, ap (λ (c : Bool). if_connected c (still_second state.count (without_packet held (id_of t)) state.place z)) r)

-- the same, with what is known of what is left
leaving-to : (state : TailState) (held : Held) (t : Tree) (z first second : List Tree) → packet_at held.packets (id_of t) ≡ Some t
    → still_first state.count (without_packet held (id_of t)) state.place z ≡ first → content t ∷ still_second state.count (without_packet held (id_of t)) state.place z ≡ second
    → Ahead z first (if_connected state.rest second) (leaves state.rest state held (id_of t))
leaving-to state held t z first second found f g =
    subst (λ (us : List Tree). Ahead z us (if_connected state.rest second) (leaves state.rest state held (id_of t))) f
    (subst (λ (us : List Tree). Ahead z (still_first state.count (without_packet held (id_of t)) state.place z) (if_connected state.rest us) (leaves state.rest state held (id_of t))) g
    (leaving state.rest state held t z refl found))

-- What is held is sent before a bracket, or before the end

passing : (state : TailState) (held : Held) (c : ℕ) (b : Tree) (z : List Tree) (h : Carries held c state.count (b ∷ [])) (chain : List Tree) → h.packets ≡ chain
    → Ahead z (map content chain ++ content b ∷ lasts state.count z) (if_connected state.rest (others state.count z)) (passes state held c (id_of b) chain)
passing state held c b z h [] e =
    let holds : Alone held c [] (b ∷ []) = h.holds ∙ ap (λ (us : List Tree). carrier_of c us ∷ b ∷ []) e in
    let gone : without held.packets c ≡ b ∷ [] = ap (λ (us : List Tree). without us c) holds ∙ carrier-gone c [] (b ∷ []) in
    let found : packet_at (without held.packets c) (id_of b) ≡ Some b = ap (λ (us : List Tree). packet_at us (id_of b)) gone ∙ (let s = same_id (id_of b) in rw s refl) in
    (ap (λ (o : Option Tree). contents_in o ++ lasts state.count z) found, refl)
passing state held c b z h (first ∷ later) e =
    let holds : Alone held c (first ∷ later) (b ∷ []) = h.holds ∙ ap (λ (us : List Tree). carrier_of c us ∷ b ∷ []) e in
    let once = sound-once held (carrier_of c (first ∷ later) ∷ b ∷ []) h.sound holds in
    let new = without_packet (taken held c first) (id_of first) in
    let gone : Alone new c later (b ∷ []) = taken-gone held c first later (b ∷ []) holds once in
    let there : packet_at (taken held c first).packets (id_of first) ≡ Some first =
    ap (λ (us : List Tree). packet_at us (id_of first)) (taken-is held c first later (b ∷ []) holds) ∙ packet_at-last (carrier_of c later ∷ b ∷ []) first (first-apart c first later (b ∷ []) once) in
    let found : packet_at new.packets (id_of b) ≡ Some b = ap (λ (us : List Tree). packet_at us (id_of b)) gone ∙ second-found (carrier_of c later) b (came-apart held c (first ∷ later) b h.sound holds) in
    ((λ i. contents_in (there i) ++ (kept-is new c later (b ∷ []) gone i ++ (contents_in (found i) ++ lasts state.count z))), refl)

ending : (state : TailState) (held : Held) (c : ℕ) (z : List Tree) (h : Carries held c state.count []) (chain : List Tree) → h.packets ≡ chain
    → Ahead z (map content chain ++ lasts state.count z) (if_connected state.rest (others state.count z)) (ends state held c chain)
ending state held c z h [] e = (refl, refl)
ending state held c z h (first ∷ later) e =
    let holds : Alone held c (first ∷ later) [] = h.holds ∙ ap (λ (us : List Tree). carrier_of c us ∷ []) e in
    let once = sound-once held (carrier_of c (first ∷ later) ∷ []) h.sound holds in
    let new = without_packet (taken held c first) (id_of first) in
    let gone : Alone new c later [] = taken-gone held c first later [] holds once in
    let there : packet_at (taken held c first).packets (id_of first) ≡ Some first =
    ap (λ (us : List Tree). packet_at us (id_of first)) (taken-is held c first later [] holds) ∙ packet_at-last (carrier_of c later ∷ []) first (first-apart c first later [] once) in
    ((λ i. contents_in (there i) ++ (kept-is new c later [] gone i ++ lasts state.count z)), refl)

-- A Normal packet comes

moved : (z first second first' second' : List Tree) (outcome : Outcome TailState) → first ≡ first' → second ≡ second' → Ahead z first second outcome → Ahead z first' second' outcome
moved z first second first' second' outcome f g a = subst (λ (us : List Tree). Ahead z us second' outcome) f (subst (λ (us : List Tree). Ahead z first us outcome) g a)

map-last : (ts : List Tree) (t : Tree) (z : List Tree) → map content (ts ++ t ∷ []) ++ z ≡ map content ts ++ content t ∷ z
map-last [] t z = refl
map-last (u ∷ ts) t z = ap (λ (us : List Tree). content u ∷ us) (map-last ts t z)

length-contents : (ts : List Tree) → length (map content ts) ≡ length ts
length-contents [] = refl
length-contents (t ∷ ts) = omega (arith, length-contents ts)

-- once a packet has come into the carrier
trimming : (state : TailState) (held : Held) (c : ℕ) (ts : List Tree) (t : Tree) (z chain : List Tree) → state.place ≡ Holding c → Sound held → Alone held c ts (t ∷ []) → ts ++ t ∷ [] ≡ chain → AreNormal chain
    → Ahead z (lasts state.count (map content chain ++ z)) (if_connected state.rest (others state.count (map content chain ++ z))) (trims state (added held c (id_of t)) c chain)
trimming state held c ts t z [] p s e f normal = absurd (not-none ts t f)
trimming state held c ts t z (first ∷ later) p s e f normal = by (nat_lt state.count (length (first ∷ later))) refl
  where
    mid : Held
    mid = added held c (id_of t)

    new : Held
    new = without_packet (taken mid c first) (id_of first)

    there : Alone mid c (first ∷ later) []
    there = added-is held c ts t s e ∙ ap (λ (us : List Tree). carrier_of c us ∷ []) f

    once : Once (carrier_of c (first ∷ later) ∷ [])
    once = added-once c t ts (first ∷ later) f (sound-once held (carrier_of c ts ∷ t ∷ []) s e)

    gone : Alone new c later []
    gone = taken-gone mid c first later [] there once

    found : packet_at (taken mid c first).packets (id_of first) ≡ Some first
    found = ap (λ (us : List Tree). packet_at us (id_of first)) (taken-is mid c first later [] there) ∙ packet_at-last (carrier_of c later ∷ []) first (first-apart c first later [] once)

    stretched : stretch (map content later ++ z) ≡ length later + stretch z
    stretched = stretch-more (map content later) z (normal-contents later normal.1) ∙ ap (λ (n : ℕ). n + stretch z) (length-contents later)

    by : (b : Bool) → nat_lt state.count (length (first ∷ later)) ≡ b
        → Ahead z (lasts state.count (map content (first ∷ later) ++ z)) (if_connected state.rest (others state.count (map content (first ∷ later) ++ z)))
        (if b then leaves state.rest state (taken mid c first) (id_of first) else Wishes state mid receive_first)
    by true b =
        let many : state.count < length later + 1 = grind (arith, nat_tests) in
        let off = first-off state.count (content first) (map content later ++ z) (content-kind first ∙ normal.0) (omega (arith, many, stretched)) in
        leaving-to state (taken mid c first) first z (lasts state.count (map content (first ∷ later) ++ z)) (others state.count (map content (first ∷ later) ++ z)) found
        ((λ i. still_first state.count new (p i) z) ∙ ap (λ (us : List Tree). lasts state.count (us ++ z)) (kept-is new c later [] gone) ∙ sym off.0)
        (ap (λ (us : List Tree). content first ∷ us) ((λ i. still_second state.count new (p i) z) ∙ ap (λ (us : List Tree). others state.count (us ++ z)) (kept-is new c later [] gone)) ∙ sym off.1)
    by false b = (
      (λ i. still_first state.count mid (p i) z) ∙ ap (λ (us : List Tree). lasts state.count (us ++ z)) (kept-is mid c (first ∷ later) [] there),
      ap (if_connected state.rest) ((λ i. still_second state.count mid (p i) z) ∙ ap (λ (us : List Tree). others state.count (us ++ z)) (kept-is mid c (first ∷ later) [] there)),
    )

holding : (state : TailState) (held : Held) (c : ℕ) (t : Tree) (z : List Tree) → state.place ≡ Holding c → (h : Carries held c state.count (t ∷ [])) → kind_of t ≡ Normal
    → Ahead z (lasts state.count (map content h.packets ++ content t ∷ z)) (if_connected state.rest (others state.count (map content h.packets ++ content t ∷ z))) (holds state held c (id_of t))
holding state held c t z p h k = by (height_at held.packets (id_of t) == 16)
  where
    mid : Held
    mid = added held c (id_of t)

    chain : h.packets ++ t ∷ [] ≡ held_by mid c
    chain = sym (ap (λ (us : List Tree). chain_of_root us c items) (added-is held c h.packets t h.sound h.holds) ∙ carrier-holds c (h.packets ++ t ∷ []) [])

    list : map content (held_by mid c) ++ z ≡ map content h.packets ++ content t ∷ z
    list = ap (λ (us : List Tree). map content us ++ z) (sym chain) ∙ map-last h.packets t z

    normal : AreNormal (held_by mid c)
    normal = subst AreNormal chain (normal-more h.packets t h.normal k)

    by : (b : Bool) → Ahead z (lasts state.count (map content h.packets ++ content t ∷ z)) (if_connected state.rest (others state.count (map content h.packets ++ content t ∷ z)))
        (if b then Fails state held TreeDepth else trims state mid c (held_by mid c))
    by true = tt
    by false =
        moved z (lasts state.count (map content (held_by mid c) ++ z)) (if_connected state.rest (others state.count (map content (held_by mid c) ++ z)))
        (lasts state.count (map content h.packets ++ content t ∷ z)) (if_connected state.rest (others state.count (map content h.packets ++ content t ∷ z))) (trims state mid c (held_by mid c))
        (ap (lasts state.count) list) (ap (λ (us : List Tree). if_connected state.rest (others state.count us)) list)
        (trimming state held c h.packets t z (held_by mid c) p h.sound h.holds chain normal)

beginning : (state : TailState) (held : Held) (t : Tree) (z : List Tree) → (h : HoldsOnly held (id_of t)) → t ≡ h.packet
    → Ahead z (lasts state.count (content t ∷ z)) (if_connected state.rest (others state.count (content t ∷ z))) (begins state held (id_of t))
beginning state held t z h e = by (height_at held.packets (id_of t) == 16)
  where
    new : Held
    new = carried held (id_of t)

    alone : held.packets ≡ t ∷ []
    alone = h.holds ∙ ap (λ (u : Tree). u ∷ []) (sym e)

    there : Alone new (next_id held) (t ∷ []) []
    there = ap (λ (us : List Tree). wrapped us (next_id held) items (id_of t)) alone ∙ carrier-wrapped (next_id held) t

    by : (b : Bool) → Ahead z (lasts state.count (content t ∷ z)) (if_connected state.rest (others state.count (content t ∷ z)))
        (if b then Fails state held TreeDepth else Wishes (at state (Holding (next_id held))) new receive_first)
    by true = tt
    by false = (
      ap (λ (us : List Tree). lasts state.count (us ++ z)) (kept-is new (next_id held) (t ∷ []) [] there),
      ap (λ (us : List Tree). if_connected state.rest (others state.count (us ++ z))) (kept-is new (next_id held) (t ∷ []) [] there),
    )

-- a packet comes where nothing is held
taking : (state : TailState) (held : Held) (t : Tree) (z : List Tree) → state.place ≡ Waiting → (h : HoldsOnly held (id_of t)) → t ≡ h.packet → kind_of t ≡ Normal
    → Ahead z (lasts state.count (content t ∷ z)) (if_connected state.rest (others state.count (content t ∷ z))) (takes state held (id_of t) Waiting)
taking state held t z p h e k = by (state.count == 0) refl
  where
    new : Held
    new = without_packet held (id_of t)

    found : packet_at held.packets (id_of t) ≡ Some t
    found = HoldsOnly-packet_at held (id_of t) h ∙ ap Some (sym e)

    by : (b : Bool) → (state.count == 0) ≡ b → Ahead z (lasts state.count (content t ∷ z)) (if_connected state.rest (others state.count (content t ∷ z))) (if b then leaves state.rest state held (id_of t) else begins state held (id_of t))
    by true b =
        let none : state.count ≡ 0 = grind (arith, nat_tests) in
        let off = first-off state.count (content t) z (content-kind t ∙ k) (omega (arith, none)) in
        leaving-to state held t z (lasts state.count (content t ∷ z)) (others state.count (content t ∷ z)) found
        ((λ i. still_first state.count new (p i) z) ∙ sym off.0)
        (ap (λ (us : List Tree). content t ∷ us) (λ i. still_second state.count new (p i) z) ∙ sym off.1)
    by false b = beginning state held t z h e

bracketing : (state : TailState) (held : Held) (t : Tree) (z : List Tree) → state.place ≡ Waiting → (h : HoldsOnly held (id_of t)) → t ≡ h.packet → is_bracket (kind_of t) ≡ true
    → Ahead z (lasts state.count (content t ∷ z)) (if_connected state.rest (others state.count (content t ∷ z))) (brackets state held (id_of t) Waiting)
bracketing state held t z p h e k =
    let found : packet_at held.packets (id_of t) ≡ Some t = HoldsOnly-packet_at held (id_of t) h ∙ ap Some (sym e) in
    let new = without_packet held (id_of t) in
    let on = bracket-on state.count (content t) z (ap is_bracket (content-kind t) ∙ k) in (
      (λ i. contents_in (found i) ++ still_first state.count new (p i) z) ∙ sym on.0,
      ap (if_connected state.rest) ((λ i. still_second state.count new (p i) z) ∙ sym on.1),
    )

bracketing-on : (state : TailState) (held : Held) (c : ℕ) (t : Tree) (z : List Tree) (h : Carries held c state.count (t ∷ [])) → is_bracket (kind_of t) ≡ true
    → Ahead z (lasts state.count (map content h.packets ++ content t ∷ z)) (if_connected state.rest (others state.count (map content h.packets ++ content t ∷ z))) (passes state held c (id_of t) (held_by held c))
bracketing-on state held c t z h k =
    let chain = carries-held held c state.count (t ∷ []) h in
    let b : is_bracket (kind_of (content t)) ≡ true = ap is_bracket (content-kind t) ∙ k in
    let on = bracket-on state.count (content t) z b in
    let held-up = held-on state.count (map content h.packets) (content t ∷ z) (normal-contents h.packets h.normal) (omega (arith, length-contents h.packets, h.few)) (bracket-ends (content t) z b) in
    moved z (map content (held_by held c) ++ content t ∷ lasts state.count z) (if_connected state.rest (others state.count z))
    (lasts state.count (map content h.packets ++ content t ∷ z)) (if_connected state.rest (others state.count (map content h.packets ++ content t ∷ z))) (passes state held c (id_of t) (held_by held c))
    (ap (λ (us : List Tree). map content us ++ content t ∷ lasts state.count z) (sym chain) ∙ sym (held-up.0 ∙ ap (λ (us : List Tree). map content h.packets ++ us) on.0))
    (ap (if_connected state.rest) (sym (held-up.1 ∙ on.1)))
    (passing state held c t z h (held_by held c) chain)

-- what is held before a packet that came
abbrev held_before : (state : TailState) (held : Held) (id : ℕ) (place : TailPlace) → HasCome state held id place → List Tree
held_before state held id Waiting r = []
held_before state held id (Holding c) r = map content r.carries.packets
held_before state held id (Passing c b) r = []
held_before state held id (Leaving c) r = []

last-two : (ts : List Tree) (x y t : Tree) → ts ++ t ∷ [] ≡ x ∷ y ∷ [] → (ts ≡ x ∷ []) × (y ≡ t)
last-two [] x y t e = absurd (cc)
last-two (u ∷ []) x y t e = let a : u ≡ x = cc in let b : y ≡ t = cc in (ap (λ (v : Tree). v ∷ []) a, b)
last-two (u ∷ v ∷ []) x y t e = absurd (cc)
last-two (u ∷ v ∷ w ∷ ts) x y t e = absurd (cc)

-- a packet comes
coming : (state : TailState) (held : Held) (t : Tree) (z before : List Tree) (kind : Kind) (place : TailPlace) → state.place ≡ place → (r : HasCome state held (id_of t) place) → held.packets ≡ before ++ t ∷ []
    → kind_at held.packets (id_of t) ≡ kind
    → Ahead z (lasts state.count (held_before state held (id_of t) place r ++ content t ∷ z)) (if_connected state.rest (others state.count (held_before state held (id_of t) place r ++ content t ∷ z)))
    (elim kind as (λ _. Outcome TailState) [ Normal ↦ takes state held (id_of t) place | Open ↦ brackets state held (id_of t) place | Close ↦ brackets state held (id_of t) place ])
coming state held t z before kind Waiting p r e k =
    let same : t ≡ r.packet = HoldsOnly-end held before t e r in
    let is : kind_of t ≡ kind = ap kind_of same ∙ sym (HoldsOnly-kind held (id_of t) r) ∙ k in
    by kind is same
  where
    by : (kind : Kind) → kind_of t ≡ kind → t ≡ r.packet
        → Ahead z (lasts state.count (content t ∷ z)) (if_connected state.rest (others state.count (content t ∷ z)))
        (elim kind as (λ _. Outcome TailState) [ Normal ↦ takes state held (id_of t) Waiting | Open ↦ brackets state held (id_of t) Waiting | Close ↦ brackets state held (id_of t) Waiting ])
    by Normal is same = taking state held t z p r same is
    by Open is same = bracketing state held t z p r same (ap is_bracket is)
    by Close is same = bracketing state held t z p r same (ap is_bracket is)
coming state held t z before kind (Holding c) p r e k =
    let two = last-two before (carrier_of c r.carries.packets) r.other t (sym e ∙ r.carries.holds) in
    let h : Carries held c state.count (t ∷ []) = record { packets = r.carries.packets; holds = r.carries.holds ∙ ap (λ (u : Tree). carrier_of c r.carries.packets ∷ u ∷ []) two.1; few = r.carries.few; normal = r.carries.normal; sound = r.carries.sound } in
    let is : kind_of t ≡ kind = sym (came-kind held c h.packets t h.sound h.holds) ∙ k in
    by kind is h refl
  where
    by : (kind : Kind) → kind_of t ≡ kind → (h : Carries held c state.count (t ∷ [])) → h.packets ≡ r.carries.packets
        → Ahead z (lasts state.count (map content r.carries.packets ++ content t ∷ z)) (if_connected state.rest (others state.count (map content r.carries.packets ++ content t ∷ z)))
        (elim kind as (λ _. Outcome TailState) [ Normal ↦ takes state held (id_of t) (Holding c) | Open ↦ brackets state held (id_of t) (Holding c) | Close ↦ brackets state held (id_of t) (Holding c) ])
    by Normal is h same = subst (λ (us : List Tree). Ahead z (lasts state.count (map content us ++ content t ∷ z)) (if_connected state.rest (others state.count (map content us ++ content t ∷ z))) (holds state held c (id_of t))) same (holding state held c t z p h is)
    by Open is h same = subst (λ (us : List Tree). Ahead z (lasts state.count (map content us ++ content t ∷ z)) (if_connected state.rest (others state.count (map content us ++ content t ∷ z))) (passes state held c (id_of t) (held_by held c))) same (bracketing-on state held c t z h (ap is_bracket is))
    by Close is h same = subst (λ (us : List Tree). Ahead z (lasts state.count (map content us ++ content t ∷ z)) (if_connected state.rest (others state.count (map content us ++ content t ∷ z))) (passes state held c (id_of t) (held_by held c))) same (bracketing-on state held c t z h (ap is_bracket is))
coming state held t z before kind (Passing c b) p r e k = absurd r
coming state held t z before kind (Leaving c) p r e k = absurd r

comes-by : (state : TailState) (held : Held) (id : ℕ) (kind : Kind)
    → elim kind as (λ _. Outcome TailState) [ Normal ↦ takes state held id state.place | Open ↦ brackets state held id state.place | Close ↦ brackets state held id state.place ] ≡ comes state held id kind
comes-by state held id Normal = refl
comes-by state held id Open = refl
comes-by state held id Close = refl

-- what was held before it is what is held there
held-there : (state : TailState) (held old : Held) (t : Tree) (z : List Tree) (place : TailPlace) (r : HasCome state held (id_of t) place) → held.packets ≡ old.packets ++ t ∷ []
    → (still_first state.count old place (content t ∷ z) ≡ lasts state.count (held_before state held (id_of t) place r ++ content t ∷ z))
    × (still_second state.count old place (content t ∷ z) ≡ others state.count (held_before state held (id_of t) place r ++ content t ∷ z))
held-there state held old t z Waiting r e = (refl, refl)
held-there state held old t z (Holding c) r e =
    let two = last-two old.packets (carrier_of c r.carries.packets) r.other t (sym e ∙ r.carries.holds) in
    let k = kept-is old c r.carries.packets [] two.0 in
    (ap (λ (us : List Tree). lasts state.count (us ++ content t ∷ z)) k, ap (λ (us : List Tree). others state.count (us ++ content t ∷ z)) k)
held-there state held old t z (Passing c b) r e = absurd r
held-there state held old t z (Leaving c) r e = absurd r

-- The end comes, and a packet was sent

ended : (state : TailState) (held : Held) (z : List Tree) (place : TailPlace) → state.place ≡ place → z ≡ [] → IsBetween state held place
    → Ahead z (still_first state.count held place z) (if_connected state.rest (still_second state.count held place z)) (end_comes state held place)
ended state held z Waiting p none r = ((λ i. still_first state.count held (p i) z), ap (if_connected state.rest) (λ i. still_second state.count held (p i) z))
ended state held z (Holding c) p none r =
    let chain = carries-held held c state.count [] r in
    let normal = normal-contents (held_by held c) (subst AreNormal chain r.normal) in
    let few : length (map content (held_by held c)) ≤ state.count = omega (arith, length-contents (held_by held c), ap length chain, r.few) in
    let h = held-on state.count (kept held c) z normal few (ap stretch none) in
    moved z (kept held c ++ lasts state.count z) (if_connected state.rest (others state.count z)) (lasts state.count (kept held c ++ z)) (if_connected state.rest (others state.count (kept held c ++ z))) (ends state held c (held_by held c))
    (sym h.0) (ap (if_connected state.rest) (sym h.1)) (ending state held c z r (held_by held c) chain)
ended state held z (Passing c b) p none r = absurd r
ended state held z (Leaving c) p none r = absurd r

gone-on : (state : TailState) (held : Held) (z : List Tree) (place : TailPlace) → state.place ≡ place → HasSent state held place
    → Ahead z (still_first state.count held place z) (if_connected state.rest (still_second state.count held place z)) (goes_on state held place)
gone-on state held z Waiting p r = ((λ i. still_first state.count held (p i) z), ap (if_connected state.rest) (λ i. still_second state.count held (p i) z))
gone-on state held z (Holding c) p r = ((λ i. still_first state.count held (p i) z), ap (if_connected state.rest) (λ i. still_second state.count held (p i) z))
gone-on state held z (Passing c b) p r =
    let t = r.other in
    let chain = carries-held held c state.count (t ∷ []) r.carries in
    let found : packet_at held.packets b ≡ Some t = (λ i. packet_at (r.carries.holds i) (sym r.named i)) ∙ second-found (carrier_of c r.carries.packets) t (came-apart held c r.carries.packets t r.carries.sound r.carries.holds) in
    moved z (kept held c ++ content t ∷ lasts state.count z) (if_connected state.rest (others state.count z)) (kept held c ++ (contents_in (packet_at held.packets b) ++ lasts state.count z)) (if_connected state.rest (others state.count z)) (passes state held c b (held_by held c))
    (ap (λ (o : Option Tree). kept held c ++ (contents_in o ++ lasts state.count z)) (sym found)) refl
    (subst (λ (n : ℕ). Ahead z (kept held c ++ content t ∷ lasts state.count z) (if_connected state.rest (others state.count z)) (passes state held c n (held_by held c))) r.named (passing state held c t z r.carries (held_by held c) chain))
gone-on state held z (Leaving c) p r = ending state held c z r (held_by held c) (carries-held held c state.count [] r)

-- Over a run

abbrev outcome_of : Poise TailState → Outcome TailState
outcome_of m = Wishes m.component m.held m.wish

-- What is to be sent from here on.
abbrev Goes : Poise TailState → List Happening → Type 0
Goes p es = (first_of (got 0 es) p.component p.held p.wish ≡ sent 0 es) × (second_of (got 0 es) p.component p.held p.wish ≡ sent 1 es)

-- It receives at its one input alone.
abbrev OneInput : Poise TailState → Type 0
OneInput p = (port : ℕ) → p.wish ≡ wishes.Receive (record { 0 = port }) → port < 1

one-input : (p : Poise TailState) (e : Happening) (m : Poise TailState) → Steps tail_rules p e m → OneInput m
one-input p e m s port is =
    let allowed : IsAllowed parting_shape (parting_uses p.component.rest) m.held m.wish = (tail_lawful.obeys p.component s.held (answer_of e) (outcome_of m) s.is_ready s.comes_to).1 in
    rw is at allowed

-- what is ahead of the outcome is ahead of where it leads
come-to : (p : Poise TailState) (m : Poise TailState) (z first second : List Tree) (outcome : Outcome TailState) → outcome_of m ≡ outcome → Ahead z first second outcome → Ahead z first second (outcome_of m)
come-to p m z first second outcome is a = subst (Ahead z first second) (sym is) a

step : (p : Poise TailState) (e : Happening) (m : Poise TailState) (es : List Happening) → OneInput p → EndIsLast 0 (e ∷ es) → Steps tail_rules p e m → Goes m es → Goes p (e ∷ es)
step p Started m es g l s f =
    let z = got 0 es in
    let c : outcome_of m ≡ Wishes p.component s.held receive_first = s.comes_to in
    let a : Ahead z (still_first p.component.count s.held p.component.place z) (if_connected p.component.rest (still_second p.component.count s.held p.component.place z)) (outcome_of m) = subst (Ahead z (still_first p.component.count s.held p.component.place z) (if_connected p.component.rest (still_second p.component.count s.held p.component.place z))) (sym c) (refl, refl) in (
      (λ i. first_of z p.component p.held (s.grants.0 i)) ∙ (λ i. still_first p.component.count (sym s.grants.1 i) p.component.place z) ∙ sym a.0 ∙ f.0,
      (λ i. second_of z p.component p.held (s.grants.0 i)) ∙ (λ i. if_connected p.component.rest (still_second p.component.count (sym s.grants.1 i) p.component.place z)) ∙ sym a.1 ∙ f.1,
    )
step p (Received port t) m es g l s f =
    let z = got 0 es in
    let i0 : nat_eq 0 port ≡ true = port_below_one port (g port s.grants.0) in
    let e = Comes-packets p.held t s.held s.grants.1 in
    let h = held-there p.component s.held p.held t z p.component.place s.is_ready e in
    let c = coming p.component s.held t z p.held.packets (kind_at s.held.packets (id_of t)) p.component.place refl s.is_ready e refl in
    let first = lasts p.component.count (held_before p.component s.held (id_of t) p.component.place s.is_ready ++ content t ∷ z) in
    let second = if_connected p.component.rest (others p.component.count (held_before p.component s.held (id_of t) p.component.place s.is_ready ++ content t ∷ z)) in
    let a : Ahead z first second (outcome_of m) = subst (Ahead z first second) (comes-by p.component s.held (id_of t) (kind_at s.held.packets (id_of t)) ∙ sym s.comes_to) c in
    let one : first_of (content t ∷ z) p.component p.held p.wish ≡ sent 0 es = (λ i. first_of (content t ∷ z) p.component p.held (s.grants.0 i)) ∙ h.0 ∙ sym a.0 ∙ f.0 in
    let two : second_of (content t ∷ z) p.component p.held p.wish ≡ sent 1 es = (λ i. second_of (content t ∷ z) p.component p.held (s.grants.0 i)) ∙ ap (if_connected p.component.rest) h.1 ∙ sym a.1 ∙ f.1 in
    rw i0 (one, two)
step p (Ended port) m es g l s f =
    let z = got 0 es in
    let zero : port ≡ 0 = (let below = g port s.grants.0 in omega (arith, below)) in
    let first = still_first p.component.count s.held p.component.place z in
    let second = if_connected p.component.rest (still_second p.component.count s.held p.component.place z) in
    let a : Ahead z first second (outcome_of m) = subst (Ahead z first second) (sym s.comes_to) (ended p.component s.held z p.component.place refl (l.0 zero) s.is_ready) in (
      (λ i. first_of z p.component p.held (s.grants.0 i)) ∙ (λ i. still_first p.component.count (sym s.grants.1 i) p.component.place z) ∙ sym a.0 ∙ f.0,
      (λ i. second_of z p.component p.held (s.grants.0 i)) ∙ (λ i. if_connected p.component.rest (still_second p.component.count (sym s.grants.1 i) p.component.place z)) ∙ sym a.1 ∙ f.1,
    )
step p (Sent port t) m es g l s f =
    let z = got 0 es in
    let new = without_packet p.held (id_of t) in
    let first = still_first p.component.count s.held p.component.place z in
    let second = if_connected p.component.rest (still_second p.component.count s.held p.component.place z) in
    let a : Ahead z first second (outcome_of m) = subst (Ahead z first second) (sym s.comes_to) (gone-on p.component s.held z p.component.place refl s.is_ready) in
    let first-on : still_first p.component.count new p.component.place z ≡ sent 0 es = (λ i. still_first p.component.count (sym s.grants.2 i) p.component.place z) ∙ sym a.0 ∙ f.0 in
    let second-on : if_connected p.component.rest (still_second p.component.count new p.component.place z) ≡ sent 1 es = (λ i. if_connected p.component.rest (still_second p.component.count (sym s.grants.2 i) p.component.place z)) ∙ sym a.1 ∙ f.1 in (
      (λ i. first_of z p.component p.held (s.grants.0 i)) ∙ (λ i. (if 0 == port then contents_in (s.grants.1 i) else []) ++ first-on i),
      (λ i. second_of z p.component p.held (s.grants.0 i)) ∙ (λ i. (if 1 == port then contents_in (s.grants.1 i) else []) ++ second-on i),
    )
step p (Learned port level) m es g l s f = absurd s.is_ready

later : (e : Happening) (es : List Happening) → EndIsLast 0 (e ∷ es) → EndIsLast 0 es
later Started es l = l
later (Received port t) es l = l
later (Ended port) es l = l.1
later (Sent port t) es l = l
later (Learned port level) es l = l

nothing-left : (connected : Bool) → if_connected connected [] ≡ []
nothing-left true = refl
nothing-left false = refl

-- Where it is done it holds nothing.
abbrev Done : Poise TailState → Type 0
Done p = IsDone p.wish p.component.place

done-on : (p : Poise TailState) (e : Happening) (m : Poise TailState) → Steps tail_rules p e m → Done m
done-on p e m s = (subst (StaysSo p.component) (sym s.comes_to) (next-so p.component s.held (answer_of e))).1

run : (es : List Happening) (p q : Poise TailState) → OneInput p → Done p → EndIsLast 0 es → Runs tail_rules p es q → q.wish ≡ wishes.Deactivate → Goes p es
run [] p q g o l s d =
    let w : p.wish ≡ wishes.Deactivate = ap (λ (u : Poise TailState). u.wish) (sym s) ∙ d in
    let place : p.component.place ≡ Waiting = subst (λ (x : Wish). IsDone x p.component.place) w o in (
      (λ i. first_of [] p.component p.held (w i)) ∙ (λ i. still_first p.component.count p.held (place i) []),
      (λ i. second_of [] p.component p.held (w i)) ∙ (λ i. if_connected p.component.rest (still_second p.component.count p.held (place i) [])) ∙ nothing-left p.component.rest,
    )
run (e ∷ es) p q g o l s d = step p e s.0 es g l s.1 (run es s.0 q (one-input p e s.0 s.1) (done-on p e s.0 s.1) (later e es l) s.2 d)

-- Over a whole run it sends what its meaning makes of what it got.
pub tail_meaning : TailMeaning
tail_meaning count rest told ended l =
    let z = got 0 told in
    let r = run told (fresh (fresh_tail count rest) ended.maker) ended.last (λ port is. absurd (cc)) refl l ended.runs ended.idle in
    record {
      picks_some = sym r.0 ∙ sym (lasts-are count z);
      leaves_others = λ is. sym r.1 ∙ ap (λ (b : Bool). if_connected b (others count z)) is ∙ sym (others-are count z);
      drops_others = λ is. sym r.1 ∙ ap (λ (b : Bool). if_connected b (others count z)) is;
    }
