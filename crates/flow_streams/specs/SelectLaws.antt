-- Select keeps the laws of components.
use Rattle.std.proofs.Common.{◌≡◌, ℕ, ◌<◌, ◌==◌, nat_eq, Bool, true, false, List, [], ◌∷◌, refl, sym, ap, ◌∙◌, subst, arith, if◌then◌else◌}
use Rattle.std.specs.List.{starts_with}
use Rattle.flow_packet.specs.declared.packet.Kind.{Kind}
use Rattle.flow_packet.specs.declared.packet.Kind.TheVariants.{Normal, Open, Close}
use Rattle.flow_packet.specs.Tree.{Tree, id_of, packet_of}
use Rattle.flow_packet.specs.Hands.{IsAtRoot, kind_at, text_at, without}
use Rattle.flow_packet.specs.Edits.{ComesBy, Drops}
use Rattle.flow_packet.specs.Held.{Held, Sound, next_id, with_packet, with_made, without_packet}
use Rattle.flow_component.specs.declared.Answer.{Answer}
use Rattle.flow_component.specs.declared.Answer.TheVariants as answers
use Rattle.flow_component.specs.declared.Wish.TheVariants.{Receive, Send, Deactivate}
use Rattle.flow_component.specs.Laws.{Lawful, Outcome, Wishes, Obeys, StaysReady, component_after}
use Rattle.flow_component.proofs.Roots.{same_id}
use Rattle.flow_component.proofs.Comings.{comes_same, comes_dropped}
use Rattle.flow_component.proofs.Lone.{HoldsOnly-without, HoldsOnly-root, HoldsOnly-came, HoldsOnly-made_alone}
use Rattle.flow_streams.specs.Bundle.{HoldsTwo}
use Rattle.flow_streams.specs.BundleLaws.{came-two, one-root}
use Rattle.flow_streams.specs.declared.select.SelectPlace.{SelectPlace}
use Rattle.flow_streams.specs.declared.select.SelectPlace.TheVariants.{Waiting, Keyed, Unkeyed, Passing}
use Rattle.flow_streams.specs.Select.{SelectState, key_port, in_port, accepted_port, rejected_port, at_place, rejects_packet, comes, port_of, comes_as, hears_end, select_next, select_shape, select_uses, IsBetween, HasCome, SelectReady, select_rules}

-- The outputs that are used where the second one is connected, or isn't.
abbrev used : Bool → ℕ → Bool
used rejects port = if port == 1 then rejects else port == 0

-- The work from these hands leads to a lawful outcome.
abbrev IsLawful : Bool → Held → Outcome SelectState → Type 0
IsLawful rejects held outcome = Obeys select_shape (used rejects) held outcome × StaysReady select_rules outcome

-- of two packets the first is taken away
pub first-gone : (x y : Tree) → without (x ∷ y ∷ []) (id_of x) ≡ y ∷ []
first-gone x y = let s = same_id (id_of x) in rw s refl

-- once the key has gone, the packet is alone
one-gone : (held : Held) (one two : ℕ) (h : HoldsTwo held one two) → without held.packets one ≡ h.second ∷ []
one-gone held one two h = (λ i. without (h.holds i) (sym h.first_named i)) ∙ first-gone h.first h.second

alone-root : (held : Held) (t : Tree) (id : ℕ) → held.packets ≡ t ∷ [] → id_of t ≡ id → IsAtRoot held.packets id
alone-root held t id e n = subst (λ (k : ℕ). IsAtRoot held.packets k) n (let s = same_id (id_of t) in rw (e, s) refl)

alone-gone : (held : Held) (t : Tree) (id : ℕ) → held.packets ≡ t ∷ [] → id_of t ≡ id → without held.packets id ≡ []
alone-gone held t id e n = subst (λ (k : ℕ). without held.packets k ≡ []) n (let s = same_id (id_of t) in rw (e, s) refl)

came : (place : SelectPlace) (held : Held) (t : Tree) → IsBetween held place → Sound (with_packet held t) → HasCome (with_packet held t) (id_of t) place
came Waiting held t e s = HoldsOnly-came held t e s
came (Keyed key) held t h s = came-two held (with_packet held t) t key h refl s
came Unkeyed held t e s = HoldsOnly-came held t e s
came Passing held t e s = e

came_made : (place : SelectPlace) (held : Held) (text : List ℕ) → IsBetween held place → Sound (with_made held Normal text) → HasCome (with_made held Normal text) (next_id held) place
came_made Waiting held text e s = HoldsOnly-made_alone held Normal text e s
came_made (Keyed key) held text h s = came-two held (with_made held Normal text) (packet_of (next_id held) Normal text []) key h refl s
came_made Unkeyed held text e s = HoldsOnly-made_alone held Normal text e s
came_made Passing held text e s = e

receives_key : (state : SelectState) (held : Held) → state.place ≡ Waiting → held.packets ≡ [] → IsLawful state.rejects held (Wishes state held (Receive key_port))
receives_key state held p e = ((comes_same held, omega arith), ((λ s. rw p e), (λ t s. rw p (HoldsOnly-came held t e s)), (λ text s. rw p (HoldsOnly-made_alone held Normal text e s))))

receives_in : (state : SelectState) (held : Held) (place : SelectPlace) → IsBetween held place → IsLawful state.rejects held (Wishes (at_place state place) held (Receive in_port))
receives_in state held place b = ((comes_same held, omega arith), ((λ s. b), (λ t s. came place held t b s), (λ text s. came_made place held text b s)))

rejected : (state : SelectState) (old held : Held) (t : Tree) (id : ℕ) (b : Bool) → state.rejects ≡ b → ComesBy old held → ComesBy old (without_packet held id) → held.packets ≡ t ∷ [] → id_of t ≡ id
    → IsLawful state.rejects old (if b then Wishes (at_place state Passing) held (Send rejected_port id) else Wishes (at_place state Waiting) (without_packet held id) Deactivate)
rejected state old held t id true r by gone e n = ((by, (rw r refl, alone-root held t id e n)), λ s. (refl, alone-gone held t id e n))
rejected state old held t id false r by gone e n = ((gone, tt), λ s. (refl, alone-gone held t id e n))

two_dropped : (held : Held) (key id : ℕ) → HoldsTwo held key id → ComesBy held (without_packet (without_packet held key) id)
two_dropped held key id h = record {
  edits = Drops key ∷ Drops id ∷ [];
  follow = (one-root held key id h, (alone-root (without_packet held key) h.second id (one-gone held key id h) h.second_named, refl));
  one_make = omega arith;
}

selected : (state : SelectState) (held : Held) (key id : ℕ) (b : Bool) → HoldsTwo held key id
    → IsLawful state.rejects held (if b then Wishes (at_place state Passing) (without_packet held key) (Send accepted_port id) else rejects_packet state (without_packet held key) id)
selected state held key id true h =
    let e = one-gone held key id h in
    ((comes_dropped held key (one-root held key id h), (refl, alone-root (without_packet held key) h.second id e h.second_named)), λ s. (refl, alone-gone (without_packet held key) h.second id e h.second_named))
selected state held key id false h = rejected state held (without_packet held key) h.second id state.rejects refl (comes_dropped held key (one-root held key id h)) (two_dropped held key id h) (one-gone held key id h) h.second_named

taken : (state : SelectState) (held : Held) (id : ℕ) (place : SelectPlace) → HasCome held id place → IsLawful state.rejects held (comes state held id place)
taken state held id Waiting h = receives_in state held (Keyed id) h
taken state held id (Keyed key) h = selected state held key id (starts_with nat_eq (text_at held.packets id) (text_at held.packets key)) h
taken state held id Unkeyed h = rejected state held held h.packet id state.rejects refl (comes_same held) (comes_dropped held id (HoldsOnly-root held id h)) h.holds h.named
taken state held id Passing h = absurd h

below : (place : SelectPlace) → (port_of place).0 < 2
below Waiting = omega arith
below (Keyed key) = omega arith
below Unkeyed = omega arith
below Passing = omega arith

taken_as : (state : SelectState) (held : Held) (id : ℕ) (kind : Kind) → HasCome held id state.place → IsLawful state.rejects held (comes_as state held id kind)
taken_as state held id Normal h = taken state held id state.place h
taken_as state held id Open h = ((comes_same held, below state.place), tt)
taken_as state held id Close h = ((comes_same held, below state.place), tt)

ended : (state : SelectState) (held : Held) (place : SelectPlace) → IsBetween held place → IsLawful state.rejects held (hears_end state held place)
ended state held Waiting e = receives_in state held Unkeyed e
ended state held (Keyed key) h = ((comes_dropped held key (HoldsOnly-root held key h), tt), λ s. (refl, HoldsOnly-without held key h))
ended state held Unkeyed e = ((comes_same held, tt), λ s. (refl, e))
ended state held Passing e = absurd e

lawful : (state : SelectState) (held : Held) (answer : Answer) → SelectReady state held answer → IsLawful state.rejects held (select_next state held answer)
lawful state held answers.Start r = receives_key state held r.0 r.1
lawful state held (answers.Got id) r = taken_as state held id (kind_at held.packets id) r
lawful state held answers.End r = ended state held state.place r
lawful state held answers.Sent r = ((comes_same held, tt), λ s. (refl, r.1))
lawful state held (answers.Level level) r = absurd r

rejected-rejects : (state : SelectState) (held : Held) (id : ℕ) → (component_after (rejects_packet state held id)).rejects ≡ state.rejects
rejected-rejects state held id =
    elim state.rejects as (λ b. (component_after (if b then Wishes (at_place state Passing) held (Send rejected_port id) else Wishes (at_place state Waiting) (without_packet held id) Deactivate)).rejects ≡ state.rejects) [ true ↦ refl | false ↦ refl ]

taken-rejects : (state : SelectState) (held : Held) (id : ℕ) (place : SelectPlace) → (component_after (comes state held id place)).rejects ≡ state.rejects
taken-rejects state held id Waiting = refl
taken-rejects state held id (Keyed key) =
    elim (starts_with nat_eq (text_at held.packets id) (text_at held.packets key)) as (λ b. (component_after (if b then Wishes (at_place state Passing) (without_packet held key) (Send accepted_port id) else rejects_packet state (without_packet held key) id)).rejects ≡ state.rejects) [
      | true ↦ refl
      | false ↦ rejected-rejects state (without_packet held key) id
    ]
taken-rejects state held id Unkeyed = rejected-rejects state held id
taken-rejects state held id Passing = refl

as-rejects : (state : SelectState) (held : Held) (id : ℕ) (kind : Kind) → (component_after (comes_as state held id kind)).rejects ≡ state.rejects
as-rejects state held id Normal = taken-rejects state held id state.place
as-rejects state held id Open = refl
as-rejects state held id Close = refl

ended-rejects : (state : SelectState) (held : Held) (place : SelectPlace) → (component_after (hears_end state held place)).rejects ≡ state.rejects
ended-rejects state held Waiting = refl
ended-rejects state held (Keyed key) = refl
ended-rejects state held Unkeyed = refl
ended-rejects state held Passing = refl

next-rejects : (state : SelectState) (held : Held) (answer : Answer) → (component_after (select_next state held answer)).rejects ≡ state.rejects
next-rejects state held answers.Start = refl
next-rejects state held (answers.Got id) = as-rejects state held id (kind_at held.packets id)
next-rejects state held answers.End = ended-rejects state held state.place
next-rejects state held answers.Sent = refl
next-rejects state held (answers.Level level) = refl

-- It keeps the laws of components.
pub select_lawful : Lawful select_rules
select_lawful = record {
  obeys = λ state held answer outcome r is. subst (Obeys select_shape (select_uses state) held) (sym is) (lawful state held answer r).0;
  stays_ready = λ state held answer outcome r is. subst (StaysReady select_rules) (sym is) (lawful state held answer r).1;
  steady = λ state held answer outcome is.
      let e = ap (λ (o : Outcome SelectState). (component_after o).rejects) is ∙ next-rejects state held answer in
      record { shape = refl; outputs = ap used e };
  has_outcome = λ component held answer _. (select_next component held answer, refl);
}
