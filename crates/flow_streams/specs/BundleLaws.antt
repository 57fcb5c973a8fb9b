-- Bundle keeps the laws of components.
use Rattle.std.proofs.Common.{◌≡◌, ℕ, ◌<◌, ◌≤◌, ◌==◌, true, false, List, [], ◌∷◌, ◌++◌, length, refl, sym, ap, ◌∙◌, subst, arith, nat_lt, Some, if◌then◌else◌, eq-eqb}
use Rattle.std.specs.Prelude.{◌-◌}
use Rattle.flow_packet.specs.declared.packet.Kind.{Kind}
use Rattle.flow_packet.specs.declared.packet.Kind.TheVariants.{Normal, Open, Close}
use Rattle.flow_packet.specs.Tree.{Tree, node, id_of, all_ids, chains_of, with_chains, attach_to, packet_of}
use Rattle.flow_packet.specs.Ids.{times}
use Rattle.flow_packet.specs.Hands.{IsAtRoot, kind_at, packet_at, without, text_at, height_at, attached}
use Rattle.flow_packet.specs.Edits.{ComesBy, Attaches}
use Rattle.flow_packet.specs.Held.{Held, Sound, next_id, with_made, with_packet, without_packet}
use Rattle.flow_component.specs.declared.Answer.{Answer}
use Rattle.flow_component.specs.declared.Answer.TheVariants as answers
use Rattle.flow_component.specs.declared.Fail.TheVariants.{TreeDepth}
use Rattle.flow_component.specs.Laws.{Lawful, Outcome, Wishes, Fails, Obeys, StaysReady}
use Rattle.flow_component.specs.Ports.{one_to_one, uses_first, receive_first, send_first}
use Rattle.flow_component.specs.Alone.{HoldsOnly}
use Rattle.flow_component.proofs.Roots.{same_id, other_id}
use Rattle.flow_component.proofs.Comings.{comes_same, comes_dropped, comes_renewed}
use Rattle.flow_component.proofs.Several.{Sound-new, times-own, times-split}
use Rattle.flow_component.proofs.Lone.{HoldsOnly-without, HoldsOnly-root, HoldsOnly-came, HoldsOnly-made_alone}
use Rattle.flow_streams.specs.declared.bundle.Bundle.{Bundle}
use Rattle.flow_streams.specs.declared.bundle.Bundle.TheVariants.{Outside, Inside}
use Rattle.flow_streams.specs.Bundle.{items, deeper, begins, gathers, ends_bundle, bundles, bundle_next, BundleReady, IsBetween, HasCome, HoldsTwo, bundle_rules}

-- two packets of sound hands have two ids
pub two_ids : (held : Held) (x y : Tree) → Sound held → held.packets ≡ x ∷ y ∷ [] → id_of x ≡ id_of y → ⊥
two_ids held x y s e same =
    let once : times (id_of x) (all_ids (x ∷ y ∷ [])) ≤ 1 = subst (λ (ts : List Tree). times (id_of x) (all_ids ts) ≤ 1) e (s.once (id_of x)) in
    let there : 0 < times (id_of x) (all_ids (y ∷ [])) = subst (λ (k : ℕ). 0 < times k (all_ids (y ∷ []))) (sym same) (times-own y) in
    omega (arith, times-own x, times-split (id_of x) x (y ∷ []))

-- the first of two packets is at the root, and so is the second
pub first-root : (x y : Tree) → IsAtRoot (x ∷ y ∷ []) (id_of x)
first-root x y = let s = same_id (id_of x) in rw s refl

-- Of two packets the second is found by its id.
pub second-found : (x y : Tree) → (id_of x ≡ id_of y → ⊥) → packet_at (x ∷ y ∷ []) (id_of y) ≡ Some y
second-found x y apart = let o = other_id (id_of x) (id_of y) apart in let s = same_id (id_of y) in rw (o, s) refl

-- Of two packets the first is left without the second.
pub second-gone : (x y : Tree) → (id_of x ≡ id_of y → ⊥) → without (x ∷ y ∷ []) (id_of y) ≡ x ∷ []
second-gone x y apart = let o = other_id (id_of x) (id_of y) apart in let s = same_id (id_of y) in rw (o, s) refl

-- one packet with the other at the end of its chain
pub gathered : (x y : Tree) → (id_of x ≡ id_of y → ⊥) → attached (x ∷ y ∷ []) (id_of x) items (id_of y) ≡ with_chains x (attach_to (chains_of x) items y) ∷ []
gathered x y apart = let s = same_id (id_of x) in rw (second-found x y apart, second-gone x y apart, s) refl

module _ (held : Held) (one two : ℕ) (h : HoldsTwo held one two) where
  pub apart-named : id_of h.first ≡ id_of h.second → ⊥
  apart-named e = h.apart (sym h.first_named ∙ e ∙ h.second_named)

  pub one-root : IsAtRoot held.packets one
  one-root = subst (λ (k : ℕ). IsAtRoot held.packets k) h.first_named (subst (λ (ts : List Tree). IsAtRoot ts (id_of h.first)) (sym h.holds) (first-root h.first h.second))

  pub two-root : IsAtRoot held.packets two
  two-root = subst (λ (k : ℕ). IsAtRoot held.packets k) h.second_named (subst (λ (ts : List Tree). IsAtRoot ts (id_of h.second)) (sym h.holds) (rw (second-found h.first h.second apart-named) refl))

  pub two-gone : without held.packets two ≡ h.first ∷ []
  two-gone = (λ i. without (h.holds i) (sym h.second_named i)) ∙ second-gone h.first h.second apart-named

  pub two-gathered : attached held.packets one items two ≡ with_chains h.first (attach_to (chains_of h.first) items h.second) ∷ []
  two-gathered = (λ i. attached (h.holds i) (sym h.first_named i) items (sym h.second_named i)) ∙ gathered h.first h.second apart-named

with_chains-id : (t : Tree) (cs : List Rattle.flow_packet.specs.Tree.Chain) → id_of (with_chains t cs) ≡ id_of t
with_chains-id t cs = refl

abbrev IsLawful : Held → Outcome Bundle → Type 0
IsLawful held outcome = Obeys one_to_one uses_first held outcome × StaysReady bundle_rules outcome

-- a packet that comes behind one that is alone
pub came-two : (held new : Held) (t : Tree) (bundle : ℕ) → HoldsOnly held bundle → new.packets ≡ held.packets ++ t ∷ [] → Sound new → HoldsTwo new bundle (id_of t)
came-two held new t bundle h e s =
    let holds : new.packets ≡ h.packet ∷ t ∷ [] = e ∙ ap (λ (ts : List Tree). ts ++ t ∷ []) h.holds in
    let root : IsAtRoot new.packets bundle = subst (λ (k : ℕ). IsAtRoot new.packets k) h.named (subst (λ (ts : List Tree). IsAtRoot ts (id_of h.packet)) (sym holds) (first-root h.packet t)) in
    record {
      first = h.packet;
      second = t;
      holds = holds;
      first_named = h.named;
      second_named = refl;
      apart = λ x. two_ids new h.packet t s holds (h.named ∙ x);
      older = λ x. Sound-new new s (subst (λ (k : ℕ). IsAtRoot new.packets k) x root);
    }

came : (component : Bundle) (held : Held) (t : Tree) → IsBetween component held → Sound (with_packet held t) → HasCome component (with_packet held t) (id_of t)
came Outside held t e s = HoldsOnly-came held t e s
came (Inside bundle depth) held t h s = came-two held (with_packet held t) t bundle h refl s

came_made : (component : Bundle) (held : Held) (text : List ℕ) → IsBetween component held → Sound (with_made held Normal text) → HasCome component (with_made held Normal text) (next_id held)
came_made Outside held text e s = HoldsOnly-made_alone held Normal text e s
came_made (Inside bundle depth) held text h s = came-two held (with_made held Normal text) (packet_of (next_id held) Normal text []) bundle h refl s

receives : (old held : Held) (component : Bundle) → ComesBy old held → IsBetween component held → IsLawful old (Wishes component held receive_first)
receives old held component w b = ((w, omega arith), ((λ s. b), (λ t s. came component held t b s), (λ text s. came_made component held text b s)))

sends : (held : Held) (id : ℕ) → HoldsOnly held id → IsLawful held (Wishes Outside held (send_first id))
sends held id h = ((comes_same held, (refl, HoldsOnly-root held id h)), λ s. HoldsOnly-without held id h)

-- A packet that is made before the one alone is dropped is alone afterwards.
pub renewed : (held : Held) (id : ℕ) (kind : Kind) (text : List ℕ) → HoldsOnly held id → (without_packet (with_made held kind text) id).packets ≡ packet_of (next_id held) kind text [] ∷ []
renewed held id kind text h = let e = eq-eqb (id_of h.packet) id h.named in rw (h.holds, e) refl

began : (held : Held) (id : ℕ) → HoldsOnly held id → IsLawful held (begins held id)
began held id h =
    let text = text_at held.packets id in
    let new = without_packet (with_made held Normal text) id in
    receives held new (Inside (next_id held) 1) (comes_renewed held Normal text id (omega (arith, ap length h.holds)) (HoldsOnly-root held id h))
    (record { packet = packet_of (next_id held) Normal text []; holds = renewed held id Normal text h; named = refl; older = λ e. omega arith })

gathers-lawful : (component : Bundle) (held : Held) (bundle id depth : ℕ) → HoldsTwo held bundle id → IsLawful held (gathers component held bundle id depth)
gathers-lawful component held bundle id depth h =
    let new : Held = record held { packets = attached held.packets bundle items id } in
    let by : ComesBy held new = record { edits = Attaches bundle items id ∷ []; follow = ((one-root held bundle id h, two-root held bundle id h, h.apart), refl); one_make = omega arith } in
    let only : HoldsOnly new bundle = record { packet = with_chains h.first (attach_to (chains_of h.first) items h.second); holds = two-gathered held bundle id h; named = h.first_named; older = h.older } in
    elim (height_at held.packets id == 16) as (λ b. IsLawful held (if b then Fails component held TreeDepth else Wishes (Inside bundle depth) (record held { packets = attached held.packets bundle items id }) receive_first)) [
      | true ↦ ((comes_same held, tt), tt)
      | false ↦ receives held new (Inside bundle depth) by only
    ]

ended : (held : Held) (bundle id : ℕ) → HoldsTwo held bundle id → IsLawful held (ends_bundle held bundle id)
ended held bundle id h =
    let new = without_packet held id in
    let only : HoldsOnly new bundle = record { packet = h.first; holds = two-gone held bundle id h; named = h.first_named; older = h.older } in
    ((comes_dropped held id (two-root held bundle id h), (refl, HoldsOnly-root new bundle only)), λ s. HoldsOnly-without new bundle only)

bundled : (component : Bundle) (held : Held) (id : ℕ) (kind : Kind) → HasCome component held id → IsLawful held (bundles component held id kind)
bundled Outside held id Normal h = sends held id h
bundled Outside held id Open h = began held id h
bundled Outside held id Close h = sends held id h
bundled (Inside bundle depth) held id Normal h = gathers-lawful (Inside bundle depth) held bundle id depth h
bundled (Inside bundle depth) held id Open h = gathers-lawful (Inside bundle depth) held bundle id (deeper depth) h
bundled (Inside bundle depth) held id Close h =
    elim (nat_lt 1 depth) as (λ b. IsLawful held (if b then gathers (Inside bundle depth) held bundle id (depth - 1) else ends_bundle held bundle id)) [
      | true ↦ gathers-lawful (Inside bundle depth) held bundle id (depth - 1) h
      | false ↦ ended held bundle id h
    ]

lawful : (component : Bundle) (held : Held) (answer : Answer) → BundleReady component held answer → IsLawful held (bundle_next component held answer)
lawful component held answers.Start r = receives held held component (comes_same held) r
lawful component held (answers.Got id) r = bundled component held id (kind_at held.packets id) r
lawful component held answers.End r = ((comes_same held, tt), λ s. r)
lawful component held answers.Sent r = receives held held component (comes_same held) r
lawful component held (answers.Level n) r = absurd r

-- It keeps the laws of components.
pub bundle_lawful : Lawful bundle_rules
bundle_lawful = record {
  obeys = λ component held answer outcome r is. subst (Obeys one_to_one uses_first held) (sym is) (lawful component held answer r).0;
  stays_ready = λ component held answer outcome r is. subst (StaysReady bundle_rules) (sym is) (lawful component held answer r).1;
  steady = λ component held answer outcome is. record { shape = refl; outputs = refl };
  has_outcome = λ component held answer _. (bundle_next component held answer, refl);
}
